-- What passes have seen of a trace, and what they put there.
use Rattle.std.specs.Prelude.{◌≡◌, ◌≤◌, ◌==◌, if◌then◌else◌, ℕ, List, [], ◌∷◌, ◌++◌, length, slice_get, Option, Some}
use Rattle.boxcar.specs.Table.{Shelves}
use Rattle.stamp_marks.specs.Tokens.{Token, IsOf}
use Rattle.stamp_traces.specs.Shown.{shown_by}
use Rattle.stamp_traces.specs.Traces.{Entry}

-- what a clause sees of a pass: what it has seen, and the index of its token
pub record PassState (E R : Type 0) : Type 0 where
  pub number : ℕ
  pub seen : List (Entry E R)
  pub index : Option ℕ

-- the list begins the other one
abbrev pub IsPrefixOf : {X : Type 0} → List X → List X → Type 0
IsPrefixOf {X} part whole = (rest : List X) × (whole ≡ part ++ rest)

module _ {E R : Type 0} where
  -- the event of the entry, if this pass put it there
  abbrev pub put_by : ℕ → Entry E R → List E
  put_by p x = if x.pass == p then x.event ∷ [] else []

  -- the events that a pass put there
  abbrev pub events_of_pass : ℕ → List (Entry E R) → List E
  events_of_pass p [] = []
  events_of_pass p (x ∷ xs) = put_by p x ++ events_of_pass p xs

  -- the token shows a prefix of the entries, after which the pass put nothing there
  pub record ShowsPass (prefixes : Shelves) (xs : List (Entry E R)) (p : ℕ) (t : Option (Token ℕ (List (Entry E R)))) : Type 0 where
    pub of : IsOf t prefixes
    pub begins : IsPrefixOf (shown_by t) xs
    pub own : events_of_pass p xs ≡ events_of_pass p (shown_by t)

  -- the tokens of all passes, and nothing is there of a pass that there is not
  pub record ArePasses (prefixes : Shelves) (xs : List (Entry E R)) (passes : List (Option (Token ℕ (List (Entry E R))))) : Type 0 where
    pub each : (p : ℕ) (t : Option (Token ℕ (List (Entry E R)))) → slice_get passes p ≡ Some t → ShowsPass prefixes xs p t
    pub unborn : (p : ℕ) → length passes ≤ p → events_of_pass p xs ≡ []

  -- the pass put this entry after all that it had seen, and nothing else
  pub record PassPuts (old : PassState E R) (x : Entry E R) (new : PassState E R) : Type 0 where
    pub number : new.number ≡ old.number
    pub between : List (Entry E R)
    pub behind : new.seen ≡ (old.seen ++ between) ++ x ∷ []
    pub once : events_of_pass old.number new.seen ≡ events_of_pass old.number old.seen ++ x.event ∷ []

  -- the pass has seen more, none of which it put there
  pub record PassLooks (old new : PassState E R) : Type 0 where
    pub number : new.number ≡ old.number
    pub begins : IsPrefixOf old.seen new.seen
    pub own : events_of_pass old.number new.seen ≡ events_of_pass old.number old.seen

  -- the entries begin with what the pass has seen, and all that it put there is among that
  pub record PassStands (xs : List (Entry E R)) (v : PassState E R) : Type 0 where
    pub begins : IsPrefixOf v.seen xs
    pub own : events_of_pass v.number xs ≡ events_of_pass v.number v.seen
