-- Leases that the map tells servers of, and when the entry of a range keeps to one: its generation and its end are the lease's or above;
-- under the lease's generation the lease's server holds it; and another has it, or nobody, only once the lease has ended.
use Rattle.std.specs.Prelude.{◌≡◌, ℕ, ◌≤◌, Option, Some, None}
use Rattle.wire.specs.declared.actor.ActorId.{ActorId}
use Rattle.wire.specs.declared.actor.ActorId.TheVariants as actors
use Rattle.wire.specs.declared.body.Body.{Body}
use Rattle.wire.specs.declared.body.Body.TheVariants as bodies
use Rattle.wire.specs.declared.body.MapBody.TheVariants as maps

-- under this generation the server holds the range up to this moment
pub record Lease : Type 0 where
  pub server : ℕ
  pub range : ℕ
  pub generation : ℕ
  pub until : ℕ

-- the lease that the map tells an actor of, if it does
abbrev pub lease_for : ActorId → ℕ → ℕ → ℕ → Option Lease
lease_for (actors.Server s) range generation until = Some (record { server = s; range = range; generation = generation; until = until })
lease_for to range generation until = None

abbrev pub lease_in : ActorId → Body → Option Lease
lease_in to (bodies.Map (maps.Assign range generation until)) = lease_for to range generation until
lease_in to (bodies.Map (maps.Renew range generation until)) = lease_for to range generation until
lease_in to body = None

-- an entry of this generation, end and holder keeps to a lease of its range
pub record KeepsTo (lease : Lease) (now generation until : ℕ) (holder : Option ℕ) : Type 0 where
  pub generation_above : lease.generation ≤ generation
  pub until_above : lease.until ≤ until
  pub same : lease.generation ≡ generation → holder ≡ Some lease.server
  pub other : (holder ≡ Some lease.server → ⊥) → lease.until ≤ now
