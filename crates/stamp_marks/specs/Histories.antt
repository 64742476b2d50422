-- Events, each with the state that it left.
use Rattle.std.specs.Prelude.{List, [], ◌∷◌, Option, Some, None}
use Rattle.std.specs.Borrow.{Bor}
use Rattle.std.specs.declared.snapshot.Snapshot.{Snapshot}

-- the events of a history, none where there is none
abbrev pub events_of : {X : Type 0} → Option (Snapshot (Snapshot (List X))) → List X
events_of None = []
events_of (Some s) = s.value.value

-- the same behind a reference
abbrev pub lent_events : {X : Type 0} → Option (Bor (Snapshot (List X))) → List X
lent_events None = []
lent_events (Some s) = s.now.value

-- the state that the last of these events left, the first state where there is none
abbrev pub state_after : {E S : Type 0} → S → List (E × S) → S
state_after s [] = s
state_after s (x ∷ xs) = state_after x.1 xs
