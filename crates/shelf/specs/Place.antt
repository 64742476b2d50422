-- Where a text stands, and what it is.
use Rattle.std.specs.Prelude.{◌≡◌, ℕ, List, Vec}
use Rattle.std.specs.Global.{Global}
use Rattle.boxcar.specs.Table.{Shelves, Where, id_at}

-- what a clause sees of a place: the text, and the bucket of a shelf's table, with the name of the slot, in which it stands
pub record Place : Type 0 where
  pub text : List ℕ
  pub bucket : ℕ
  pub slot : ℕ

-- the place that a token shows
abbrev pub place_of : Where (Vec ℕ Global) → Place
place_of p = record { text = p.value.items; bucket = p.bucket; slot = p.row }

-- the place is of this shelf
abbrev pub IsOn : Place → Shelves → Type 0
IsOn p shelf = p.slot ≡ id_at shelf.buckets p.bucket
