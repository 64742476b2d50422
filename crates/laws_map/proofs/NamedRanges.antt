-- What the laws of names say of an assignment, of a range that a server holds, of a stream's fence, and of a split that is under way.
use Rattle.std.proofs.Common.{◌≡◌, ◌≤◌, ℕ, true, Some, Contains, refl, sym, subst, inl, inr}
use Rattle.wire.specs.declared.body.MapBody.TheVariants as maps
use Rattle.wire.specs.declared.body.Body.{Body}
use Rattle.wire.specs.declared.body.Body.TheVariants as bodies
use Rattle.wire.specs.declared.packet.Packet.{Packet}
use Rattle.wire.specs.declared.actor.ReqNo.{ReqNo}
use Rattle.streams.specs.Streams.{Stream}
use Rattle.model_streams.specs.Maps.{entry_at}
use Rattle.model_streams.specs.StreamSystem.{is_request}
use Rattle.model_partition.specs.declared.pending.Pending.TheVariants as pendings
use Rattle.model_partition.specs.declared.range_entry.RangeEntry.{RangeEntry}
use Rattle.model_partition.specs.declared.split_job.SplitJob.{SplitJob}
use Rattle.model_partition.specs.declared.split_job.SplitPhase.{SplitPhase}
use Rattle.model_partition.specs.declared.split_job.SplitPhase.TheVariants as phases
use Rattle.model_partition.specs.Map.{range_at}
use Rattle.model_partition.specs.Range.{RangeState}
use Rattle.model_partition.specs.Server.{ServerState, range_of, split_of}
use Rattle.model_partition.specs.Servers.{ServerCell}
use Rattle.model_partition.specs.Cluster.{Cluster}
use Rattle.laws_map.specs.Naming.{Knowledge, IsSplit, BodyNames, PacketNames, RangeNames, PhaseNames, JobNames, StateNames, ServerNames, Names}
use Rattle.laws_map.specs.Generations.{IsWithin, within, AreWithinMap}
use Rattle.laws_map.specs.Pairs.{paired, ArePaired}
use Rattle.laws_map.proofs.Knowing.{found_at}
use Rattle.laws_map.proofs.EventNames.{entry_is}
use Rattle.laws_map.proofs.GoneRanges.{entry_bounds}
use Rattle.laws_map.proofs.PendingPairs.{pair_stands}

module _ (K : Knowledge) (c : Cluster) (n : Names K c) where
  -- the server that runs at a place
  running_names : (s : ℕ) (cell : ServerCell) (st : ServerState) → entry_at c.servers s ≡ Some cell → cell.state ≡ Some st → ServerNames K st
  running_names s cell st at is = subst (StateNames K) is (entry_is (λ (x : ServerCell). StateNames K x.state) c.servers s cell n.servers at)

  -- a range that it holds
  pub held_names : (s : ℕ) (cell : ServerCell) (st : ServerState) → entry_at c.servers s ≡ Some cell → cell.state ≡ Some st → (range : ℕ) (r : RangeState) → range_of st.ranges range ≡ Some r → RangeNames K range r
  held_names s cell st at is range r has = found_at (RangeNames K) st.ranges range r (running_names s cell st at is).ranges has

  -- a split that it has under way
  pub job_names : (s : ℕ) (cell : ServerCell) (st : ServerState) → entry_at c.servers s ≡ Some cell → cell.state ≡ Some st → (range : ℕ) (job : SplitJob) → split_of st.splits range ≡ Some job → JobNames K range job
  job_names s cell st at is range job has = found_at (JobNames K) st.splits range job (running_names s cell st at is).splits has

  -- what a packet names that no user may send
  pub packet_body : (p : Packet) → Contains c.stream_layer.post p → (body : Body) → p.body ≡ body → (is_request body ≡ true → ⊥) → BodyNames K body
  packet_body p there body is none = by (n.post p there)
    where
      by : PacketNames K p → BodyNames K body
      by (inl asks) = absurd (none (subst (λ b. is_request b ≡ true) is asks.1))
      by (inr names) = subst (BodyNames K) is names

-- a split of which the map has told
pub told_split : (K : Knowledge) (job : SplitJob) (phase : SplitPhase) → ((q : ReqNo) → phase ≡ phases.Begin q → ⊥) → PhaseNames K job phase → IsSplit K job
told_split K job (phases.Begin q) behind p = absurd (behind q refl)
told_split K job (phases.Keys side client) behind p = p.0
told_split K job phases.Checkpoint behind p = p
told_split K job phases.Queue behind p = p
told_split K job phases.Record behind p = p
told_split K job (phases.Seal kind q) behind p = p
told_split K job (phases.Build q) behind p = p
told_split K job (phases.Complete q) behind p = p

module _ (c : Cluster) (a : AreWithinMap c) (range : ℕ) (x : RangeEntry) (at : range_at c.map.ranges range ≡ Some x) where
  bound : (g : ℕ) → IsWithin c.map range g → g ≤ x.generation
  bound g k = entry_bounds c.map range x at g k

  -- no generation was ever assigned above that of the entry
  pub assigned_below : (p : Packet) → Contains c.stream_layer.post p → (generation until : ℕ) → p.body ≡ bodies.Map (maps.Assign range generation until) → generation ≤ x.generation
  assigned_below p there generation until is =
      bound generation (packet_body (within c.map a.asks) c a.names p there (bodies.Map (maps.Assign range generation until)) is (λ e. absurd cc))

  -- no server holds one above it
  pub held_below : (s : ℕ) (cell : ServerCell) (st : ServerState) → entry_at c.servers s ≡ Some cell → cell.state ≡ Some st → (r : RangeState) → range_of st.ranges range ≡ Some r → r.load.generation ≤ x.generation
  held_below s cell st here is r has =
      let h = held_names (within c.map a.asks) c a.names s cell st here is range r has in subst (λ g. g ≤ x.generation) (sym h.under.1) (bound h.generation h.known)

  -- and no stream of the range has a fence above it
  pub fenced_below : (kind : ℕ) (stream : Stream) → c.stream_layer.catalog.stream range kind ≡ Some stream → stream.fence ≤ x.generation
  fenced_below kind stream has = bound stream.fence (a.names.catalog range kind stream has)

-- While the range has the generation of a split that is under way, and of which the map has told, this split is what is pending there: what
-- takes the place of the range where it is completed is the two that the split has.
pub job_is_pending : (c : Cluster) → ArePaired c → (s : ℕ) (cell : ServerCell) (st : ServerState) → entry_at c.servers s ≡ Some cell → cell.state ≡ Some st → (range : ℕ) (job : SplitJob) → split_of st.splits range ≡ Some job →
    ((q : ReqNo) → job.phase ≡ phases.Begin q → ⊥) → (x : RangeEntry) → range_at c.map.ranges range ≡ Some x → x.generation ≡ job.generation → x.pending ≡ Some (pendings.Split job.key job.low job.high)
job_is_pending c a s cell st here is range job has behind x at same =
    let j = job_names (paired c.map a.asks) c a.names s cell st here is range job has in
    let t = told_split (paired c.map a.asks) job job.phase behind j.phase in
    pair_stands c.map job.range job.generation job.key job.low job.high x t.pending (subst (λ n. range_at c.map.ranges n ≡ Some x) (sym j.number) at) same
