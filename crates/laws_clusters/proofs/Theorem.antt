-- Whole runs with servers in which no two ranges are merged: the servers see streams that keep their order, and so what they show of tables
-- replays, and each range that is served is at its line within its keys.
use Rattle.std.proofs.Common.{◌≡◌, ℕ, List, [], ◌∷◌, ◌++◌, sym, ap, subst, arith}
use Rattle.wire.specs.declared.streams.StreamKind.{StreamKind}
use Rattle.wire.specs.declared.streams.StreamKind.TheVariants as kinds
use Rattle.wire.specs.declared.streams.StreamName.{StreamName}
use Rattle.replica.specs.Groups.{Group}
use Rattle.model_streams.specs.declared.event.Event.{Event}
use Rattle.model_streams.specs.StreamSystem.{StreamSystem}
use Rattle.model_partition.specs.Cluster.{Cluster, AreUnmerged, cluster_after_all, first_cluster}
use Rattle.model_partition.specs.Honest.{Honest}
use Rattle.model_partition.specs.Past.{Bytes, first_range, keys_of}
use Rattle.model_partition.specs.Range.{RangeState}
use Rattle.model_histories.specs.ServedTables.{IsAtLine, LoadsOnce, ServesAt}
use Rattle.model_histories.specs.ServerRun.{ServerRun, ServerEvent, run_of, stream_named, log_name}
use Rattle.model_histories.specs.ServerTurns.{AreMoves}
use Rattle.model_histories.specs.Story.{Copy, KeepsOrder, Story, EndsRise}
use Rattle.model_histories.specs.TableContents.{AllTellRightly}
use Rattle.laws_tables.specs.Reads.{ReplaysAndServes}
use Rattle.laws_server_runs.specs.BornRanges.{AllInOrder}
use Rattle.laws_server_runs.specs.ChildInvariant.{AreBornSo}
use Rattle.laws_server_runs.specs.OwnKeys.{IsAtLineWithin}
use Rattle.laws_server_runs.proofs.ChildTheorem.{served_at_own_keys}
use Rattle.laws_server_runs.proofs.Theorem.{served_at_line}
use Rattle.laws_servers.proofs.EventsAsMoves.{led_agrees, led_keeps}
use Rattle.laws_clusters.specs.BuiltOrders.{HasSource}
use Rattle.laws_clusters.specs.Orders.{ComesOfStreams}
use Rattle.laws_clusters.specs.ServerEvents.{events_of_run, servers_of_run}
use Rattle.laws_clusters.proofs.BornSo.{run_born_so}
use Rattle.laws_clusters.proofs.BuiltParts.{BuiltSo, asked_of}
use Rattle.laws_clusters.proofs.FirstNumber.{run_unborn}
use Rattle.laws_clusters.proofs.Generations.{generation_at}
use Rattle.laws_clusters.proofs.Invariant.{Bases, Standing}
use Rattle.laws_clusters.proofs.ObservedBytes.{observed_stand}
use Rattle.laws_clusters.proofs.ReadRanges.{run_serves}
use Rattle.laws_clusters.proofs.SharesInRuns.{StandsSharing, order, shared_until}
use Rattle.laws_clusters.proofs.ShownBytes.{texts, all_right}
use Rattle.laws_clusters.proofs.SplitEvents.{StandsSplitting}
use Rattle.laws_clusters.proofs.SplitRuns.{run_splitting}
use Rattle.laws_clusters.proofs.StreamOrders.{m_order, l_order, m_once, l_once, m_ends, l_ends, metadata_part, log_part}
use Rattle.laws_clusters.proofs.ToldRanges.{run_keys}
use Rattle.laws_clusters.proofs.UntoldRanges.{stays_untold}

-- ---- a story in which nothing has happened

empty_order : KeepsOrder {A = Group} []
empty_order = record {
  copies = λ l. [];
  shown = λ l g start end groups e. absurd cc;
  ascending = λ l front back c d e. absurd (none front c back e);
  not_empty = λ l c there. absurd (let less = there.1 in omega (arith, less));
  ends = λ l g start end groups c e. absurd cc;
  handed = λ l g start end groups c e. absurd cc;
  answered = λ l g start end a g' k from to groups group e. absurd cc;
  after = λ l a k from to c there. absurd (let less = there.1 in omega (arith, less));
  begins = λ l m g h start end start' end' groups groups' e. absurd cc;
}
  where
    none : (front : List (Copy Group)) (c : Copy Group) (back : List (Copy Group)) → [] ≡ front ++ c ∷ back → ⊥
    none [] c back e = cc
    none (f ∷ front) c back e = cc

-- ---- what servers see

module _ (nodes target : ℕ) {base : Bases generation_at} (c : Cluster) (y : ServerRun) (x : Standing generation_at nodes target base c y) where
  m_are : (range : ℕ) → AreMoves Group generation_at (x.machines range).m
  m_are range = (x.beside range).m_are

  l_are : (range : ℕ) → AreMoves Group generation_at (x.machines range).l
  l_are range = (x.beside range).l_are

  module _ (P : Story Group → Type 0) (metadata : (range : ℕ) → P (y.story (stream_named range kinds.Metadata))) (log : (range : ℕ) → P (y.story (stream_named range kinds.Log))) (none : P []) where
    other : (range : ℕ) (kind : StreamKind) → (kind ≡ kinds.Metadata → ⊥) → (kind ≡ kinds.Log → ⊥) → P (y.story (stream_named range kind))
    other range kind one two =
        subst P (sym (x.stories.others (stream_named range kind) (λ n. ((λ same. one (ap (λ (z : StreamName). z.kind) same)), (λ same. two (ap (λ (z : StreamName). z.kind) same)))))) none

    at_kind : (range : ℕ) (kind : StreamKind) → P (y.story (stream_named range kind))
    at_kind range kinds.Metadata = metadata range
    at_kind range kinds.Log = log range
    at_kind range kinds.RowData = other range kinds.RowData (λ z. cc) (λ z. cc)
    at_kind range kinds.BlobData = other range kinds.BlobData (λ z. cc) (λ z. cc)

    -- what is so of the metadata and the log of each range, and of a stream in which nothing has happened, is so of each
    each : (name : StreamName) → P (y.story name)
    each name = at_kind name.range name.kind

  orders : (name : StreamName) → KeepsOrder (y.story name)
  orders = each (λ z. KeepsOrder z) (m_order generation_at y x.machines m_are l_are x.stories) (l_order generation_at y x.machines m_are l_are x.stories) empty_order

  -- a range whose streams were built of another's has its part of these
  has_source : (source range : ℕ) (moment : ServerRun) → BuiltSo c.stream_layer.post x.machines source range moment → HasSource c.stream_layer.post y orders moment source range
  unfolding orders each at_kind
  has_source source range moment b = record {
    generation = b.job.generation;
    asked = asked_of c.stream_layer.post x.machines source range moment b;
    metadata = metadata_part generation_at y x.machines m_are l_are x.stories b.job.generation source range moment b.metadata;
    log = log_part generation_at y x.machines m_are l_are x.stories b.job.generation source range moment b.log;
  }

-- ---- whole runs

abbrev pub after_run : (nodes servers target batch : ℕ) → List Event → Cluster
after_run nodes servers target batch events = cluster_after_all (first_cluster nodes servers target batch) events

module _ (nodes servers target batch : ℕ) (events : List Event) (are : AreUnmerged events) where
  abbrev c : Cluster
  c = after_run nodes servers target batch events

  abbrev coming : List ServerEvent
  coming = events_of_run nodes servers target batch events

  -- it stands, with what its ranges share
  splitting : StandsSplitting nodes target batch servers c coming
  splitting = run_splitting nodes servers target batch events are

  abbrev sharing : StandsSharing nodes target batch servers c coming
  sharing = splitting.sharing

  -- whatever happens without a merge, the servers of a run see streams that keep their order
  pub led_ordered : ComesOfStreams c batch servers (events_of_run nodes servers target batch events)
  led_ordered =
      let x = splitting.sharing.stands in
      let y : ServerRun = servers_of_run nodes servers target batch events in
      record {
        servers = x.cells;
        ordered = orders nodes target c y x;
        once = each nodes target c y x (λ z. LoadsOnce z) (m_once generation_at y x.machines (m_are nodes target c y x) (l_are nodes target c y x) x.stories) (l_once generation_at y x.machines (m_are nodes target c y x) (l_are nodes target c y x) x.stories) (λ l m g start end start' end' groups groups' e. absurd cc);
        ends = each nodes target c y x (λ z. EndsRise z) (m_ends generation_at y x.machines (m_are nodes target c y x) (l_are nodes target c y x) x.stories) (l_ends generation_at y x.machines (m_are nodes target c y x) (l_are nodes target c y x) x.stories) (λ l m g h start end start' end' groups groups' e. absurd cc);
        built = λ late early source range is. has_source nodes target c y x source range (run_of batch servers early) (splitting.parts.built late early source range is);
        contents = (
          texts nodes target x.moves,
          subst (λ (w : StreamSystem). AllTellRightly (texts nodes target x.moves) w.notes) x.leads (all_right nodes target x.moves),
        );
        shown = λ texts all range. observed_stand texts c.stream_layer.notes (y.shown range) all (x.observed range);
        answered = λ texts all range. observed_stand texts c.stream_layer.notes (y.answered range) all (x.acked range);
        told = x.told;
      }

  -- and what they show replays, and each answered Get is served
  led_serves : ReplaysAndServes c.stream_layer.notes
  led_serves = run_serves nodes servers target batch events are

  -- so all that is observed is honest
  pub led_honest : Honest c.stream_layer.notes
  led_honest = record {
    agree = led_agrees nodes servers target batch events;
    kept = led_keeps nodes servers target batch events;
    replays = led_serves.replays;
    served = led_serves.served;
  }

  -- and each range that is served is at its line within its keys, over any texts that have all that was observed
  pub led_at_line : (texts : ℕ → Bytes) (s range : ℕ) (r : RangeState) → AllTellRightly texts c.stream_layer.notes → ServesAt (servers_of_run nodes servers target batch events) s range r →
      (log : KeepsOrder ((servers_of_run nodes servers target batch events).story (log_name range))) → IsAtLineWithin texts (keys_of c.stream_layer.notes range) ((servers_of_run nodes servers target batch events).story (log_name range)) log.copies r
  led_at_line texts s range r all at log =
      let born : AreBornSo texts batch servers coming = run_born_so texts nodes servers target batch events are (stays_untold texts batch servers) in
      let ordered : AllInOrder texts batch servers coming = order nodes target batch servers c coming sharing texts all in
      subst (λ keys. IsAtLineWithin texts keys ((servers_of_run nodes servers target batch events).story (log_name range)) log.copies r)
      (run_keys nodes servers target batch events are texts born ordered (sharing.stands.told texts all) (λ p q z. shared_until nodes target batch servers c coming sharing texts all z.after z.until z.is p q) s range r at)
      (served_at_own_keys texts batch servers coming born ordered s range r at log)

  -- the first range, which no split makes, at its line of all keys
  pub led_first_at_line : (texts : ℕ → Bytes) (s : ℕ) (r : RangeState) → AllTellRightly texts c.stream_layer.notes → ServesAt (servers_of_run nodes servers target batch events) s first_range r →
      (log : KeepsOrder ((servers_of_run nodes servers target batch events).story (log_name first_range))) → IsAtLine texts ((servers_of_run nodes servers target batch events).story (log_name first_range)) log.copies r
  led_first_at_line texts s r all at log = served_at_line texts batch servers coming s first_range r (run_unborn nodes servers target batch events are) (order nodes target batch servers c coming sharing texts all first_range) at log
