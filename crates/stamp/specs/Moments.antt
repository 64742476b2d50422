-- What is booked for a moment.
use Rattle.std.specs.Prelude.{◌≡◌, ℕ, List}
use Rattle.model_streams.specs.declared.event.Event.TheVariants.{Moment}
use Rattle.stamp_traces.specs.Moments.{MomentState}
use Rattle.world_actors.specs.Inputs.{clock_readers}
use Rattle.world_actors.specs.declared.actor_input.ActorInput.{ActorInput}
use Rattle.world_actors.specs.declared.run_actor.RunActor.{RunActor}
use Rattle.stamp.specs.Handling.{told}

-- the map and all servers of a setup take this moment
pub record IsMomentOf (ns : List ℕ) (now : ℕ) (m : MomentState RunActor ActorInput) : Type 0 where
  pub takers : m.takers ≡ clock_readers ns
  pub event : m.event ≡ told (Moment now)
