-- One record more, when a node is made from its records.
use Rattle.std.specs.Prelude.{◌≡◌, ◌≢◌, ℕ, Bool, true, false, List, Option, Some, None, Result, OnOk, IfErr}
use Rattle.block_types.specs.declared.record.Record.{Record}
use Rattle.disk.specs.declared.fault.FileFault.{FileFault}
use Rattle.disk.specs.declared.fault.FileFault.TheVariants.{Failed, Damaged}
use Rattle.replica.specs.Replay.{extent_of, fits, applied}
use Rattle.model_streams.specs.Node.{Replica, contents}
use Rattle.enode.specs.Node.{find, fresh_of}

-- whether a record fits what the replicas are
abbrev pub fits_among : ℕ → List (ℕ × Replica) → Record → Option ℕ → Bool
fits_among n replicas r None = false
fits_among n replicas r (Some e) = fits n (contents (find replicas e)) r

-- what a record leaves: it fits, and its extent alone has changed; or it is refused, as it does not fit
pub record Recovers (n : ℕ) (old new : List (ℕ × Replica)) (r : Record) (result : Result Unit FileFault) : Type 0 where
  pub fits : OnOk result (fits_among n old r (extent_of r) ≡ true)
  pub here : OnOk result ((e : ℕ) → extent_of r ≡ Some e → contents (find new e) ≡ applied (contents (find old e)) r)
  pub elsewhere : OnOk result ((e : ℕ) → extent_of r ≢ Some e → find new e ≡ find old e)
  pub fresh : OnOk result ((e : ℕ) → find old e ≡ fresh_of (contents (find old e)) → find new e ≡ fresh_of (contents (find new e)))
  pub fault : IfErr result (λ x. x ≡ Damaged → fits_among n old r (extent_of r) ≡ false)
  pub cause : IfErr result (λ x. x ≢ Failed)
