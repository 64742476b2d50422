-- Leases that the map told servers of, by one clock; and who loads a range that another server holds.
use Rattle.std.specs.Prelude.{◌≡◌, ◌<◌, ◌≤◌, ℕ, List, Some, Contains}
use Rattle.wire.specs.declared.actor.ActorId.{ActorId}
use Rattle.wire.specs.declared.actor.ActorId.TheVariants.{Map}
use Rattle.wire.specs.declared.body.Body.{Body}
use Rattle.wire.specs.declared.note.Note.{Note}
use Rattle.wire.specs.declared.note.Note.TheVariants.{Loaded}
use Rattle.wire.specs.declared.packet.Packet.{Packet}
use Rattle.wire.specs.declared.rows.Row.{Row}
use Rattle.model_streams.specs.Maps.{entry_at}
use Rattle.model_streams.specs.Outcome.{packet}
use Rattle.model_partition.specs.Past.{table_notes}
use Rattle.model_partition.specs.Range.{RangeState}
use Rattle.model_partition.specs.Server.{ServerState, range_of}
use Rattle.model_partition.specs.Servers.{ServerCell}
use Rattle.model_partition.specs.Cluster.{Cluster}
use Rattle.laws_map.specs.Openings.{IsBeyond}
use Rattle.laws_clusters.specs.Leases.{Lease, lease_in}

-- the map told a server of this lease
pub record IsTold (post : List Packet) (lease : Lease) : Type 0 where
  pub to : ActorId
  pub body : Body
  pub sent : Contains post (packet Map to body)
  pub tells : lease_in to body ≡ Some lease

-- of two leases of a range that were told under two generations both are of one server, or the lower one has ended
abbrev pub AreApart : Cluster → Type 0
AreApart c =
    (low high : Lease) → IsTold c.stream_layer.post low → IsTold c.stream_layer.post high → low.range ≡ high.range → low.generation < high.generation →
    (low.server ≡ high.server → ⊥) → low.until ≤ c.now

-- two that were told under one generation are of one server
abbrev pub AreOfOneServer : Cluster → Type 0
AreOfOneServer c =
    (one other : Lease) → IsTold c.stream_layer.post one → IsTold c.stream_layer.post other → one.range ≡ other.range → one.generation ≡ other.generation →
    one.server ≡ other.server

-- a server that runs
pub record RunsAt (servers : List ServerCell) (server : ℕ) (state : ServerState) : Type 0 where
  pub cell : ServerCell
  pub there : entry_at servers server ≡ Some cell
  pub runs : cell.state ≡ Some state

-- it holds a range
pub record HoldsAt (servers : List ServerCell) (server range : ℕ) (r : RangeState) : Type 0 where
  pub state : ServerState
  pub at : RunsAt servers server state
  pub found : range_of state.ranges range ≡ Some r

-- One clock: each server that runs sees the last moment, also one that was started anew; and each range that a server holds it holds under a lease that
-- the map told it, to the lease's end.
pub record AreTimely (c : Cluster) : Type 0 where
  pub moments : (server : ℕ) (state : ServerState) → RunsAt c.servers server state → state.context.moment ≡ c.now
  pub leased : (server range : ℕ) (r : RangeState) → HoldsAt c.servers server range r →
      IsTold c.stream_layer.post (record { server = server; range = range; generation = r.load.generation; until = r.until })
  pub apart : AreApart c

-- a load of the range under this generation was observed
abbrev pub HasLoad : List Note → ℕ → ℕ → Type 0
HasLoad notes range generation = (rows : List Row) × (next : ℕ) × Contains (table_notes notes) (Loaded range generation rows next)

-- another server than this one was told of a lease of the range under this generation
pub record IsElsewhere (post : List Packet) (server range generation : ℕ) : Type 0 where
  pub lease : Lease
  pub told : IsTold post lease
  pub range_is : lease.range ≡ range
  pub generation_is : lease.generation ≡ generation
  pub other : lease.server ≡ server → ⊥

-- where the streams of a range were told to the server that holds it, each load of it under a higher generation is of a lease of another server
abbrev pub LoadsElsewhere : Cluster → Type 0
LoadsElsewhere c =
    (server range : ℕ) (r : RangeState) → HoldsAt c.servers server range r → IsBeyond r.load.phase → (generation : ℕ) → r.load.generation < generation →
    HasLoad c.stream_layer.notes range generation → IsElsewhere c.stream_layer.post server range generation

-- so while the lease of such a range lasts, nobody has loaded it under a higher generation
abbrev pub ServesAlone : Cluster → Type 0
ServesAlone c =
    (server range : ℕ) (r : RangeState) → HoldsAt c.servers server range r → IsBeyond r.load.phase → c.now < r.until → (generation : ℕ) → r.load.generation < generation →
    HasLoad c.stream_layer.notes range generation → ⊥

-- and no other server holds the range within its own lease, whoever opened it
abbrev pub HoldsAlone : Cluster → Type 0
HoldsAlone c =
    (server other range : ℕ) (r k : RangeState) → HoldsAt c.servers server range r → HoldsAt c.servers other range k → c.now < r.until → c.now < k.until → server ≡ other
