-- One record more, when a replica is made from its records.
use Rattle.std.specs.Prelude.{◌≡◌, ◌≢◌, ℕ, true, false, Some, Result, OnOk, OnErr, IfErr}
use Rattle.block_types.specs.declared.record.Record.{Record}
use Rattle.disk.specs.declared.fault.FileFault.{FileFault}
use Rattle.disk.specs.declared.fault.FileFault.TheVariants.{Failed, Damaged}
use Rattle.replica.specs.Replay.{applied, fits}
use Rattle.model_streams.specs.Node.{Replica, fresh}

-- what a record leaves: it fits and the replica is what it makes of it; or it is refused, as it does not fit
pub record Recovers (was is : Replica) (r : Record) (result : Result Unit FileFault) : Type 0 where
  pub fitting : OnOk result ((n : ℕ) → fits n (Some was.content) r ≡ true)
  pub here : OnOk result (Some is.content ≡ applied (Some was.content) r)
  pub clean : OnOk result (was ≡ fresh was.content → is ≡ fresh is.content)
  pub same : OnErr result (is ≡ was)
  pub unfit : IfErr result (λ x. x ≡ Damaged → (n : ℕ) → fits n (Some was.content) r ≡ false)
  pub cause : IfErr result (λ x. x ≢ Failed)
