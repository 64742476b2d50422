-- What an actor holds that keeps records, also once it has stopped.
use Rattle.std.specs.Prelude.{◌≡◌, ◌⊎◌, Bool, true, List, [], ◌∷◌, ◌++◌}
use Rattle.block_types.specs.declared.record.Record.{Record}

-- The records fit, so that a restart takes them. What the actor holds is made of them; where it has stopped, of them or of those
-- without the last, which it was writing.
pub record IsMadeOf (Makes Fit : List Record → Type 0) (stopped : Bool) (records : List Record) : Type 0 where
  pub fit : Fit records
  pub made : Makes records ⊎ ((stopped ≡ true) × (before : List Record) × (last : Record) × (records ≡ before ++ last ∷ []) × Makes before)
