-- The numbers that a server has not used, as a cluster that stands has them: none of its requests has one, and none is a number of a machine.
use Rattle.std.proofs.Common.{◌≡◌, ℕ, ◌≤◌, Some, sym, subst, inl, inr}
use Rattle.wire.specs.declared.actor.ReqNo.TheVariants as requests
use Rattle.model_streams.specs.Maps.{entry_at}
use Rattle.model_streams.specs.StreamSystem.{StreamSystem}
use Rattle.model_partition.specs.Cluster.{Cluster}
use Rattle.model_partition.specs.Server.{ServerState}
use Rattle.model_partition.specs.Servers.{ServerCell}
use Rattle.model_histories.specs.ServerRun.{ServerRun}
use Rattle.laws_stream_machine.proofs.ServerRequests.{Unused}
use Rattle.laws_ranges.specs.Serves.{IsSentBy}
use Rattle.laws_clusters.proofs.Invariant.{here, Runs, Standing, Bases}
use Rattle.laws_clusters.proofs.RequestNumbers.{IsPast, AreNumbersPast, AllPast, not_past, unused_of}
use Rattle.laws_clusters.proofs.StreamMachines.{is_unused}

module _ (generation : ℕ → ℕ) (nodes target : ℕ) {base : Bases generation} (c : Cluster) (y : ServerRun) (x : Standing generation nodes target base c y) (s : ℕ) (cell : ServerCell) (st : ServerState) (at : entry_at c.servers s ≡ Some cell) (is : cell.state ≡ Some st) where
  pub run_of : Runs generation nodes target x.moves x.machines (y.history s) (x.incarnation s) s cell st
  run_of = x.servers s cell st at is

  pub not_used : (k : ℕ) → st.context.count ≤ k → IsPast c.servers (requests.Server st.context.server st.context.session k) → ⊥
  not_used = not_past c.servers s cell st at is run_of.server run_of.session

  pub unused : (k : ℕ) → st.context.count ≤ k → Unused (here generation nodes target x.moves) (requests.Server st.context.server st.context.session k)
  unused k from =
      is_unused generation nodes target x.moves c.servers (requests.Server st.context.server st.context.session k) (subst (λ (z : StreamSystem). AreNumbersPast c.servers z.post) (sym x.leads) x.numbers) (not_used k from)

  module _ (range : ℕ) where
    pub m_past : AllPast c.servers (x.machines range).m_sent
    m_past q p e = x.past range q (p, inl e)

    pub l_past : AllPast c.servers (x.machines range).l_sent
    l_past q p e = x.past range q (p, inr e)

    pub sent_by : IsSentBy st.context st.context.count (x.machines range).m_sent (x.machines range).l_sent
    sent_by = record {
      apart = (x.beside range).apart;
      metadata = unused_of c.servers s cell st at is run_of.server run_of.session (x.machines range).m_sent m_past;
      log = unused_of c.servers s cell st at is run_of.server run_of.session (x.machines range).l_sent l_past;
    }
