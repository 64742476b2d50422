-- What a token shows.
use Rattle.std.specs.Prelude.{ℕ, Option, Some, None}
use Rattle.boxcar.specs.Table.{Shelves, Where, Shows}
use Rattle.stamp_marks.specs.declared.mark.Mark.{Mark}

-- what a clause sees of a token: where its mark lies, and the value in the mark's slot
pub record Token (D V : Type 0) : Type 0 where
  pub mark : Where (Mark D V)
  pub value : V

module _ {D V : Type 0} where
  -- the value that a token shows, if there is one
  abbrev pub value_of : Option (Token D V) → Option V
  value_of None = None
  value_of (Some t) = Some t.value

  -- its index in the list
  abbrev pub index_of : Option (Token D V) → Option ℕ
  index_of None = None
  index_of (Some t) = Some t.mark.index

  -- the token, if there is one, is of this list
  abbrev pub IsOf : Option (Token D V) → Shelves → Type 0
  IsOf None list = Unit {0}
  IsOf (Some t) list = Shows list t.mark
