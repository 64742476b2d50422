-- An item that may come next, as a list of one or of none.
use Rattle.std.specs.Prelude.{List, [], ◌∷◌, Option, Some, None}
use Rattle.std.specs.Borrow.{Bor}
use Rattle.std.specs.declared.snapshot.Snapshot.{Snapshot}

-- the item, if there is one
abbrev pub item_of : {X : Type 0} → Option (Snapshot X) → List X
item_of None = []
item_of (Some s) = s.value ∷ []

-- the same behind a reference
abbrev pub lent_item : {X : Type 0} → Option (Bor X) → List X
lent_item None = []
lent_item (Some x) = x.now ∷ []
