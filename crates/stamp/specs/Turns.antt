-- What a pass does as it works.
use Rattle.std.specs.Prelude.{◌≡◌, ℕ, zero, suc, ◌+◌, ◌≤◌}
use Rattle.model_streams.specs.declared.event.Event.TheVariants.{Deliver}
use Rattle.stamp_traces.specs.Passes.{PassLooks}
use Rattle.stamp_run.specs.Passes.{Delivers, PutsEvent, Sight}
use Rattle.stamp.specs.declared.turns.Turn.{Turn}
use Rattle.stamp.specs.declared.turns.Turn.TheVariants.{Idle, Delivered, Lost}

-- one delivery more, with what the pass saw after it, and after this one
pub record WorksOnce (Before : Sight → Type 0) (new : Sight) : Type 0 where
  pub before : Sight
  pub works : Before before
  pub after : Sight
  pub number : ℕ
  pub puts : PutsEvent before (Deliver number) after
  pub looks : PassLooks after new

-- the pass put so many deliveries there, each after all that it had seen, and nothing else
abbrev pub Works : ℕ → Sight → Sight → Type 0
Works zero old new = PassLooks old new
Works (suc n) old new = WorksOnce (Works n old) new

-- of so many turns each delivered once, or lost its packet, or found nothing to do
pub record WorksFor (turns lost : ℕ) (old new : Sight) : Type 0 where
  pub delivered : ℕ
  pub works : Works delivered old new
  pub within : delivered + lost ≤ turns

-- a turn delivered some packet, or else the pass is as it was
abbrev pub IsTurn : Turn → Sight → Sight → Type 0
IsTurn Idle old new = new ≡ old
IsTurn Delivered old new = (number : ℕ) × Delivers number old new
IsTurn Lost old new = new ≡ old
