-- A stream through an event of the stream layer: its machine goes on, it stays absent, it comes to be without an extent, or it is built,
-- and then its machine is that of the stream that it was built of.
use Rattle.std.proofs.Common.{◌≡◌, ◌≢◌, ℕ, suc, ◌≤◌, List, [], ◌∷◌, ◌++◌, Option, Some, None, Contains, refl, sym, ap, ◌∙◌, subst, inl, inr, arith}
use Rattle.wire.specs.declared.actor.ActorId.TheVariants.{Server}
use Rattle.wire.specs.declared.streams.Modify.{Modify}
use Rattle.wire.specs.declared.streams.StreamKind.TheVariants.{BlobData}
use Rattle.wire.specs.declared.streams.StreamName.{StreamName}
use Rattle.replica.specs.Groups.{Group}
use Rattle.streams.specs.Streams.{Stream, stream_of, whole}
use Rattle.model_streams.specs.declared.event.Event.{Event}
use Rattle.model_streams.specs.Outcome.{packet}
use Rattle.model_streams.specs.StreamSystem.{StreamSystem, Move, happens, start}
use Rattle.model_streams.specs.StreamSystem.Move.{Happens}
use Rattle.model_partition.specs.Past.{first_range}
use Rattle.model_histories.specs.StreamMachine.{MachineStep}
use Rattle.model_histories.specs.ServerTurns.{after_all, AreMoves}
use Rattle.model_histories.specs.ServerTurns as machine
use Rattle.laws_streams.proofs.BuildRequests.{ServersAsk, servers_ask}
use Rattle.laws_streams.proofs.Invariant.{run_moves_push}
use Rattle.laws_streams.proofs.Listings.{moved_goes}
use Rattle.laws_streams.proofs.ListRules.{IsBuiltOf, Goes}
use Rattle.laws_stream_machine.specs.Refinement.{Sent, IsThere}
use Rattle.laws_stream_machine.proofs.BuiltStreams.{NobodyAsked, Machine, built_follows, built_stands, unborn_follows}
use Rattle.laws_stream_machine.proofs.LowerLayer.{Below, Happened, is_below, listed_now, below_happens}
use Rattle.laws_stream_machine.proofs.SentPackets.{Ahead}
use Rattle.laws_stream_machine.proofs.StepSequences.{below_all}
use Rattle.laws_ranges.specs.Serves.{metadata_of}
use Rattle.laws_clusters.proofs.BuildEvents.{built_in, BuildsNow, happens_builds}
use Rattle.laws_clusters.proofs.Invariant.{here, IsToBe, IsBeside}
use Rattle.laws_clusters.proofs.RangeStreams.{AllStay, AsksOthers, nobody_on}
use Rattle.laws_clusters.proofs.StreamEvents.{happens_servers}

module _ (generation : ℕ → ℕ) (nodes target : ℕ) (moves : List Move) (event : Event) (one : Machine generation nodes target (metadata_of first_range) moves) where
  abbrev w : StreamSystem
  w = here generation nodes target moves

  abbrev later : List Move
  later = moves ++ Happens event ∷ []

  abbrev v : StreamSystem
  v = here generation nodes target later

  v_is : v ≡ happens w event
  v_is = run_moves_push moves (Happens event) (start nodes target)

  asks : ServersAsk w.post
  asks = servers_ask nodes target moves

  fresh : w.catalog.extent (suc w.catalog.count) ≡ None
  fresh = one.below.follows.holds.catalog.fresh (suc w.catalog.count) (omega arith)

  goes : Goes w.post w.catalog v.catalog
  goes = subst (λ (u : StreamSystem). Goes w.post w.catalog u.catalog) (sym v_is) (moved_goes w fresh asks (Happens event))

  -- no stream goes
  pub event_stays : AllStay w v
  event_stays n (z, there) = let l = goes.grows n z there in (l.now, l.is)

  -- and these are built
  pub event_builds : BuildsNow w (built_in w event) v
  event_builds = subst (λ (u : StreamSystem). BuildsNow w (built_in w event) u) (sym v_is) (happens_builds w fresh asks event)

  -- servers ask nothing
  servers_same : (name : StreamName) → AsksOthers name w v
  servers_same name server to body there = inl (happens_servers w event server to body (subst (λ (u : StreamSystem). Contains u.post (packet (Server server) to body)) v_is there))

  pub nobody_asks : (name : StreamName) → NobodyAsked name w → NobodyAsked name v
  nobody_asks name none = nobody_on name w v (servers_same name) none

  one_later : Happened generation (metadata_of first_range) nodes target one.done moves event one.sent
  one_later = below_happens generation (metadata_of first_range) nodes target (omega arith) (λ k. cc) one.done one.are moves one.sent one.below event

  -- the event does not build it
  abbrev pub IsUnbuilt : StreamName → Type 0
  IsUnbuilt name = (m : Modify) → Contains (built_in w event) m → m.stream ≡ name → ⊥

  -- what it does with the machine of a stream
  pub record GoesOn (name : StreamName) (done : List (machine.Move Group generation)) (sent : List Sent) : Type 0 where
    pub steps : List (MachineStep Group)
    pub are : AreMoves Group generation (below_all generation steps ++ done)
    pub phase : (i : ℕ) → (after_all Group generation (below_all generation steps ++ done)).phase i ≡ (after_all Group generation done).phase i
    pub ahead : IsThere w name → Ahead name w (after_all Group generation done).state v (after_all Group generation (below_all generation steps ++ done)).state
    pub beside : IsUnbuilt name → IsBeside generation nodes target later name (below_all generation steps ++ done) sent

  module _ (name : StreamName) (done : List (machine.Move Group generation)) (sent : List Sent) (to_be : IsToBe generation nodes target moves name done sent) where
    -- a stream without extents
    empty_below : (z : Stream) → stream_of v.catalog.stream name ≡ Some z → whole z ≡ [] → IsBeside generation nodes target later name done sent
    empty_below z there empty =
        subst (λ (d : List (machine.Move Group generation)). IsBeside generation nodes target later name d sent) (sym to_be.none_done)
        (subst (λ (s : List Sent). IsBeside generation nodes target later name [] s) (sym to_be.none_sent)
        (inl (record {
          there = (z, there);
          below = is_below generation name nodes target later (after_all Group generation []) []
              (unborn_follows generation (metadata_of first_range) name v (after_all Group generation (below_all generation one_later.steps ++ one.done)).state one.sent one_later.below.follows
              (record { nobody = nobody_asks name to_be.absent.nobody; empty = λ x is. ap whole (same_stream x is) ∙ empty }) (λ server to list q m asked among same. (z, there)));
        })))
      where
        same_stream : (x : Stream) → stream_of v.catalog.stream name ≡ Some x → x ≡ z
        same_stream x is = let c : Some x ≡ Some z = sym is ∙ there in cc

    -- it is absent still, or without extents
    absent_beside : IsUnbuilt name → IsBeside generation nodes target later name done sent
    absent_beside unbuilt = by (stream_of v.catalog.stream name) refl
      where
        by : (o : Option Stream) → stream_of v.catalog.stream name ≡ o → IsBeside generation nodes target later name done sent
        by None is = inr (record { absent = record { nobody = nobody_asks name to_be.absent.nobody; absent = is }; none_done = to_be.none_done; none_sent = to_be.none_sent })
        by (Some z) is = elim (event_builds.born name z to_be.absent.absent is) [
          | inl from ↦ absurd (unbuilt from.entry from.among from.name)
          | inr empty ↦ empty_below z is empty.1
        ]

  pub stream_goes : (name : StreamName) → 1 ≤ name.range → name.kind ≢ BlobData → (done : List (machine.Move Group generation)) → AreMoves Group generation done → (sent : List Sent) →
      IsBeside generation nodes target moves name done sent → GoesOn name done sent
  stream_goes name own plain done are sent (inl stream) =
      let h : Happened generation name nodes target done moves event sent = below_happens generation name nodes target own plain done are moves sent stream.below event in
      record { steps = h.steps; are = h.are; phase = h.phase; ahead = λ there. h.ahead; beside = λ unbuilt. inl (record { there = event_stays name stream.there; below = h.below }) }
  stream_goes name own plain done are sent (inr to_be) = record {
    steps = [];
    are = are;
    phase = λ i. refl;
    ahead = λ there. absurd (let (x, is) = there in let c : None ≡ Some x = sym to_be.absent.absent ∙ is in cc);
    beside = absent_beside name done sent to_be;
  }

  -- a stream of which another is built, and which stays as it is, has no open extent
  pub copy_closed : (source name : StreamName) → source.kind ≢ BlobData → (done : List (machine.Move Group generation)) (sent : List Sent) → Below generation source nodes target later (after_all Group generation done) sent →
      stream_of v.catalog.stream source ≡ stream_of w.catalog.stream source → (z : Stream) → stream_of v.catalog.stream name ≡ Some z → IsBuiltOf w.catalog source z →
      (after_all Group generation done).state.core.live ≡ None
  copy_closed source name plain done sent below kept z there of =
      (built_stands generation source v (after_all Group generation done).state sent below.follows name w goes (listed_now generation source nodes target plain later (after_all Group generation done) sent below) kept z there of).closed

  -- a stream that is built of another, which stays as it is, begins with its machine
  pub copy_below : (source name : StreamName) → source.kind ≢ BlobData → (done : List (machine.Move Group generation)) (sent : List Sent) → Below generation source nodes target later (after_all Group generation done) sent →
      stream_of v.catalog.stream source ≡ stream_of w.catalog.stream source → (z : Stream) → stream_of v.catalog.stream name ≡ Some z → IsBuiltOf w.catalog source z → NobodyAsked name v →
      Below generation name nodes target later (after_all Group generation done) []
  copy_below source name plain done sent below kept z there of nobody =
      is_below generation name nodes target later (after_all Group generation done) []
      (built_follows generation source name v (after_all Group generation done).state sent below.follows
      (built_stands generation source v (after_all Group generation done).state sent below.follows name w goes (listed_now generation source nodes target plain later (after_all Group generation done) sent below) kept z there of) nobody)
