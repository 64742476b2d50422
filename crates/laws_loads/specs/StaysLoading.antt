-- Rules that leave a range in its load.
use Rattle.std.specs.Prelude.{◌≡◌, ◌⊎◌, true, false, [], Option, Some, None}
use Rattle.wire.specs.declared.actor.ReqNo.{ReqNo}
use Rattle.wire.specs.declared.body.Body.{Body}
use Rattle.wire.specs.declared.body.Body.TheVariants as bodies
use Rattle.wire.specs.declared.body.StreamBody.TheVariants as streams
use Rattle.client.specs.declared.load.LoadPhase.TheVariants as phases
use Rattle.client.specs.Load.{load_awaits}
use Rattle.model_partition.specs.declared.server_context.ServerContext.{ServerContext}
use Rattle.model_partition.specs.declared.stage.Stage.{Stage}
use Rattle.model_partition.specs.Range.{RangeState, RangeOutcome, is_serving}
use Rattle.model_partition.specs.Loading.{serves}

-- the stage is one of a load, or as it was
abbrev pub StaysIf : Stage → Option RangeState → Type 0
StaysIf stage None = Unit {0}
StaysIf stage (Some r) = (is_serving r.stage ≡ false) ⊎ (r.stage ≡ stage)

-- so it is, or the range is dropped
abbrev pub Stays : RangeState → RangeOutcome → Type 0
Stays r o = StaysIf r.stage o.after

-- its load, its stage, its live layer, what waits at it and its cache are as they were
pub record IsAsBefore (r s : RangeState) : Type 0 where
  pub load : s.load ≡ r.load
  pub stage : s.stage ≡ r.stage
  pub live : s.live ≡ r.live
  pub next : s.next ≡ r.next
  pub queue : s.queue ≡ r.queue
  pub out : s.out ≡ r.out
  pub held : s.held ≡ r.held

abbrev pub IsAsBeforeIf : RangeState → Option RangeState → Type 0
IsAsBeforeIf r None = Unit {0}
IsAsBeforeIf r (Some s) = IsAsBefore r s

-- so it is, or the range is dropped, and nothing is shown
pub record LeavesAsBefore (r : RangeState) (o : RangeOutcome) : Type 0 where
  pub after : IsAsBeforeIf r o.after
  pub quiet : o.notes ≡ []

-- the range is not served
abbrev pub IsUnserved : Option RangeState → Type 0
IsUnserved None = Unit {0}
IsUnserved (Some r) = is_serving r.stage ≡ false

-- the answer confirms the generation
pub record IsConfirmation (d : ServerContext) (r : RangeState) (v : ReqNo) (body : Body) (o : RangeOutcome) : Type 0 where
  pub q : ReqNo
  pub told : ReqNo
  pub phase : r.load.phase ≡ phases.Confirming q
  pub awaited : load_awaits (phases.Confirming q) v ≡ true
  pub body_is : body ≡ bodies.Stream (streams.Confirmed told)
  pub outcome : o ≡ serves d r
