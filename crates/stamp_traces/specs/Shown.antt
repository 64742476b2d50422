-- What a token shows of a list.
use Rattle.std.specs.Prelude.{◌≡◌, ◌<◌, ℕ, List, [], length, slice_get, Option, Some, None}
use Rattle.boxcar.specs.Table.{Where}
use Rattle.stamp_marks.specs.Tokens.{Token, value_of}
use Rattle.stamp_marks.specs.declared.mark.Mark.{Mark}

-- the list that a token shows, which is empty where there is no token
abbrev pub shown_by : {D X : Type 0} → Option (Token D (List X)) → List X
shown_by None = []
shown_by (Some t) = t.value

-- what is booked: the event, and the index of its mark
pub record BookingState (E : Type 0) : Type 0 where
  pub event : E
  pub index : ℕ

module _ {E V : Type 0} where
  -- what is booked at this place
  abbrev pub booked_by : Where (Mark E V) → BookingState E
  booked_by p = record { event = p.value.subject.value; index = p.index }

  -- the same, if there is a place
  abbrev pub booking_of : Option (Where (Mark E V)) → Option (BookingState E)
  booking_of None = None
  booking_of (Some p) = Some (booked_by p)

-- this token, or none, is the one at this place, or of its value
pub record IsTokenAt {D V : Type 0} (tokens : List (Option (Token D V))) (at : ℕ) (token : Option (Token D V)) : Type 0 where
  pub there : Option (Token D V)
  pub found : slice_get tokens at ≡ Some there
  pub within : at < length tokens
  pub same : value_of token ≡ value_of there
