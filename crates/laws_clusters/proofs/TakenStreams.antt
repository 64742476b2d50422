-- Where a server is refused since a name is taken, all the streams that it asked for under the number are there.
use Rattle.std.proofs.Common.{◌≡◌, ◌⊎◌, ℕ, suc, ◌+◌, ◌≤◌, Bool, true, false, not, ◌&&◌, ◌==◌, List, [], ◌∷◌, Option, Some, None, Contains, refl, sym, ap, ◌∙◌, subst, inl, inr, arith, eqb-true}
use Rattle.std.specs.List.{list_any}
use Rattle.wire.specs.declared.actor.ActorId.{ActorId}
use Rattle.wire.specs.declared.actor.ActorId.TheVariants.{Node, Manager, Map, Server, User}
use Rattle.wire.specs.declared.actor.ReqNo.{ReqNo}
use Rattle.wire.specs.declared.body.AppendBody.TheVariants as appends
use Rattle.wire.specs.declared.body.Body.{Body}
use Rattle.wire.specs.declared.body.Body.TheVariants as bodies
use Rattle.wire.specs.declared.body.StreamBody.TheVariants as streams
use Rattle.wire.specs.declared.packet.Packet.{Packet}
use Rattle.wire.specs.declared.refusal.Refusal.{Refusal}
use Rattle.wire.specs.declared.refusal.Refusal.TheVariants as refusals
use Rattle.wire.specs.declared.streams.Modify.{Modify}
use Rattle.wire.specs.declared.streams.StreamKind.TheVariants as kinds
use Rattle.wire.specs.declared.streams.StreamName.{StreamName}
use Rattle.streams.specs.Streams.{Stream, Streams, stream_of, has_fence, is_open_at_the_end, joined, built, modified, or_later, first_build_fault}
use Rattle.model_streams.specs.declared.event.Event.{Event}
use Rattle.model_streams.specs.Actors.{is_user}
use Rattle.model_streams.specs.Manager.{is_there, sealed_lengths, create_tests, is_foreign, modify_taken, manager_rule}
use Rattle.model_streams.specs.Outcome.{or_refused}
use Rattle.model_streams.specs.StreamSystem.{StreamSystem, is_request, start}
use Rattle.model_streams.proofs.Tests.{if_elim, none_met}
use Rattle.model_partition.specs.declared.split_job.SplitJob.{SplitJob}
use Rattle.model_partition.specs.Answering.{is_answerer}
use Rattle.model_partition.specs.Splits.{built_stream, all_streams}
use Rattle.model_partition.specs.Cluster.{IsUnmerged, Cluster, cluster_after}
use Rattle.laws_streams.proofs.BuildTests.{builds_of}
use Rattle.laws_streams.proofs.Choices.{contains_get}
use Rattle.laws_streams.proofs.Choices as choices
use Rattle.laws_streams.proofs.StreamNames.{with_stream_elim}
use Rattle.laws_servers.specs.Sending.{ByMoves}
use Rattle.laws_servers.proofs.EventsAsMoves.{led_by}
use Rattle.laws_map.specs.Naming.{Each, IsBuilt, BodyNames, Names}
use Rattle.laws_map.proofs.Knowing.{each_has}
use Rattle.laws_map.proofs.PostStays.{stays_in_post}
use Rattle.laws_stream_machine.specs.Refinement.{IsThere}
use Rattle.laws_clusters.proofs.BuildSteps.{build_more}
use Rattle.laws_clusters.proofs.BuiltAnswers.{built_there}
use Rattle.laws_clusters.proofs.LayerPackets.{CreatesFrom, SaysTaken, BodyFrom, IsCome}
use Rattle.laws_clusters.proofs.NewPackets.{event_step}
use Rattle.laws_clusters.proofs.NodeRefusals.{BodyOther}
use Rattle.laws_clusters.proofs.PairNumbers.{IsPair, pairs}
use Rattle.laws_clusters.proofs.RunBuilds.{HasStreams, sides_there, AreConstructed, name_on, there_on, TakenAreThere}
use Rattle.laws_clusters.proofs.SplitBuilds.{HasBuild}
use Rattle.laws_clusters.proofs.TakenNames.{Was}

-- ---- the streams of a split

abbrev low_of : List Modify → ℕ
low_of [] = 0
low_of (m ∷ list) = m.stream.range

abbrev high_of : List Modify → ℕ
high_of (a ∷ b ∷ c ∷ d ∷ m ∷ list) = m.stream.range
high_of list = 0

-- they are of its two ranges
sides_range : (job : SplitJob) (m : Modify) → Contains (all_streams job) m → (m.stream.range ≡ job.low) ⊎ (m.stream.range ≡ job.high)
sides_range job m among =
    each_has (λ (x : Modify). (x.stream.range ≡ job.low) ⊎ (x.stream.range ≡ job.high)) (all_streams job) m
    (inl refl, (inl refl, (inl refl, (inl refl, (inr refl, (inr refl, (inr refl, (inr refl, tt)))))))) among

-- no two entries are of one name
abbrev AreApart : List Modify → Type 0
AreApart [] = Unit {0}
AreApart (m ∷ list) = Each (λ (n : Modify). n.stream ≡ m.stream → ⊥) list × AreApart list

sides_apart : (job : SplitJob) → (job.high ≡ job.low → ⊥) → AreApart (all_streams job)
sides_apart job apart = (row_0, (row_1, (row_2, (row_3, (row_4, (row_5, (row_6, (row_7, tt))))))))
  where
    row_0 : Each (λ (n : Modify). n.stream ≡ record { range = job.low; kind = kinds.Metadata } → ⊥) (built_stream job job.low kinds.Log ∷ built_stream job job.low kinds.RowData ∷ built_stream job job.low kinds.BlobData ∷ built_stream job job.high kinds.Metadata ∷ built_stream job job.high kinds.Log ∷ built_stream job job.high kinds.RowData ∷ built_stream job job.high kinds.BlobData ∷ [])
    row_0 = ((λ e. absurd (let z : kinds.Log ≡ kinds.Metadata = ap (λ (s : StreamName). s.kind) e in cc)), ((λ e. absurd (let z : kinds.RowData ≡ kinds.Metadata = ap (λ (s : StreamName). s.kind) e in cc)), ((λ e. absurd (let z : kinds.BlobData ≡ kinds.Metadata = ap (λ (s : StreamName). s.kind) e in cc)), ((λ e. apart (ap (λ (s : StreamName). s.range) e)), ((λ e. absurd (let z : kinds.Log ≡ kinds.Metadata = ap (λ (s : StreamName). s.kind) e in cc)), ((λ e. absurd (let z : kinds.RowData ≡ kinds.Metadata = ap (λ (s : StreamName). s.kind) e in cc)), ((λ e. absurd (let z : kinds.BlobData ≡ kinds.Metadata = ap (λ (s : StreamName). s.kind) e in cc)), tt)))))))

    row_1 : Each (λ (n : Modify). n.stream ≡ record { range = job.low; kind = kinds.Log } → ⊥) (built_stream job job.low kinds.RowData ∷ built_stream job job.low kinds.BlobData ∷ built_stream job job.high kinds.Metadata ∷ built_stream job job.high kinds.Log ∷ built_stream job job.high kinds.RowData ∷ built_stream job job.high kinds.BlobData ∷ [])
    row_1 = ((λ e. absurd (let z : kinds.RowData ≡ kinds.Log = ap (λ (s : StreamName). s.kind) e in cc)), ((λ e. absurd (let z : kinds.BlobData ≡ kinds.Log = ap (λ (s : StreamName). s.kind) e in cc)), ((λ e. absurd (let z : kinds.Metadata ≡ kinds.Log = ap (λ (s : StreamName). s.kind) e in cc)), ((λ e. apart (ap (λ (s : StreamName). s.range) e)), ((λ e. absurd (let z : kinds.RowData ≡ kinds.Log = ap (λ (s : StreamName). s.kind) e in cc)), ((λ e. absurd (let z : kinds.BlobData ≡ kinds.Log = ap (λ (s : StreamName). s.kind) e in cc)), tt))))))

    row_2 : Each (λ (n : Modify). n.stream ≡ record { range = job.low; kind = kinds.RowData } → ⊥) (built_stream job job.low kinds.BlobData ∷ built_stream job job.high kinds.Metadata ∷ built_stream job job.high kinds.Log ∷ built_stream job job.high kinds.RowData ∷ built_stream job job.high kinds.BlobData ∷ [])
    row_2 = ((λ e. absurd (let z : kinds.BlobData ≡ kinds.RowData = ap (λ (s : StreamName). s.kind) e in cc)), ((λ e. absurd (let z : kinds.Metadata ≡ kinds.RowData = ap (λ (s : StreamName). s.kind) e in cc)), ((λ e. absurd (let z : kinds.Log ≡ kinds.RowData = ap (λ (s : StreamName). s.kind) e in cc)), ((λ e. apart (ap (λ (s : StreamName). s.range) e)), ((λ e. absurd (let z : kinds.BlobData ≡ kinds.RowData = ap (λ (s : StreamName). s.kind) e in cc)), tt)))))

    row_3 : Each (λ (n : Modify). n.stream ≡ record { range = job.low; kind = kinds.BlobData } → ⊥) (built_stream job job.high kinds.Metadata ∷ built_stream job job.high kinds.Log ∷ built_stream job job.high kinds.RowData ∷ built_stream job job.high kinds.BlobData ∷ [])
    row_3 = ((λ e. absurd (let z : kinds.Metadata ≡ kinds.BlobData = ap (λ (s : StreamName). s.kind) e in cc)), ((λ e. absurd (let z : kinds.Log ≡ kinds.BlobData = ap (λ (s : StreamName). s.kind) e in cc)), ((λ e. absurd (let z : kinds.RowData ≡ kinds.BlobData = ap (λ (s : StreamName). s.kind) e in cc)), ((λ e. apart (ap (λ (s : StreamName). s.range) e)), tt))))

    row_4 : Each (λ (n : Modify). n.stream ≡ record { range = job.high; kind = kinds.Metadata } → ⊥) (built_stream job job.high kinds.Log ∷ built_stream job job.high kinds.RowData ∷ built_stream job job.high kinds.BlobData ∷ [])
    row_4 = ((λ e. absurd (let z : kinds.Log ≡ kinds.Metadata = ap (λ (s : StreamName). s.kind) e in cc)), ((λ e. absurd (let z : kinds.RowData ≡ kinds.Metadata = ap (λ (s : StreamName). s.kind) e in cc)), ((λ e. absurd (let z : kinds.BlobData ≡ kinds.Metadata = ap (λ (s : StreamName). s.kind) e in cc)), tt)))

    row_5 : Each (λ (n : Modify). n.stream ≡ record { range = job.high; kind = kinds.Log } → ⊥) (built_stream job job.high kinds.RowData ∷ built_stream job job.high kinds.BlobData ∷ [])
    row_5 = ((λ e. absurd (let z : kinds.RowData ≡ kinds.Log = ap (λ (s : StreamName). s.kind) e in cc)), ((λ e. absurd (let z : kinds.BlobData ≡ kinds.Log = ap (λ (s : StreamName). s.kind) e in cc)), tt))

    row_6 : Each (λ (n : Modify). n.stream ≡ record { range = job.high; kind = kinds.RowData } → ⊥) (built_stream job job.high kinds.BlobData ∷ [])
    row_6 = ((λ e. absurd (let z : kinds.BlobData ≡ kinds.RowData = ap (λ (s : StreamName). s.kind) e in cc)), tt)

    row_7 : Each (λ (n : Modify). n.stream ≡ record { range = job.high; kind = kinds.BlobData } → ⊥) ([])
    row_7 = tt

module _ (sealed : ℕ → Option ℕ) where
  -- the name that is taken was there
  taken_in : (list : List Modify) (streams : Streams) → AreApart list → first_build_fault sealed streams list ≡ Some refusals.NameTaken → (m : Modify) × Contains list m × Was streams m.stream
  taken_in [] streams apart is = absurd cc
  taken_in (m ∷ list) streams apart is =
      if_elim (λ o. or_later o rest ≡ Some refusals.NameTaken → (n : Modify) × Contains (m ∷ list) n × Was streams n.stream) (is_there (stream_of streams m.stream)) (Some refusals.NameTaken) _
      (λ t e. (m, (0, omega arith, refl), there (stream_of streams m.stream) refl t))
      (λ t. if_elim (λ o. or_later o rest ≡ Some refusals.NameTaken → (n : Modify) × Contains (m ∷ list) n × Was streams n.stream) (list_any (λ s. not (is_there (stream_of streams s.stream))) m.sources) (Some refusals.NoSuchStream) _ (λ u e. absurd (let z : Some refusals.NoSuchStream ≡ Some refusals.NameTaken = e in cc))
      (λ u. if_elim (λ o. or_later o rest ≡ Some refusals.NameTaken → (n : Modify) × Contains (m ∷ list) n × Was streams n.stream) (list_any (λ s. not (has_fence s.generation (stream_of streams s.stream))) m.sources) (Some refusals.Stale) _ (λ v e. absurd (let z : Some refusals.Stale ≡ Some refusals.NameTaken = e in cc))
      (λ v. if_elim (λ o. or_later o rest ≡ Some refusals.NameTaken → (n : Modify) × Contains (m ∷ list) n × Was streams n.stream) (list_any (λ s. is_open_at_the_end sealed (stream_of streams s.stream)) m.sources) (Some refusals.LastOpen) None (λ w e. absurd (let z : Some refusals.LastOpen ≡ Some refusals.NameTaken = e in cc))
      (λ w e. later (taken_in list (built streams m) apart.1 e))))) is
    where
      rest : Option Refusal
      rest = first_build_fault sealed (built streams m) list

      there : (o : Option Stream) → stream_of streams m.stream ≡ o → is_there o ≡ true → Was streams m.stream
      there None at t = absurd cc
      there (Some x) at t = (x, at)

      later : (n : Modify) × Contains list n × Was (built streams m) n.stream → (n : Modify) × Contains (m ∷ list) n × Was streams n.stream
      later (n, among, (x, at)) = (
        n,
        (suc among.0, (let l = among.1 in omega (arith, l)), among.2),
        with_stream_elim (λ o. o ≡ Some x → Was streams n.stream) streams m.stream (joined streams m.sources) n.stream (λ same e. absurd (each_has (λ (y : Modify). y.stream ≡ m.stream → ⊥) list n apart.0 among same)) (λ e. (x, e)) at,
      )

-- ---- the whole

-- a list that was asked for under this number, of which a stream is there
pub record IsTakenThere (c : Cluster) (q : ReqNo) : Type 0 where
  pub list : List Modify
  pub asked : HasBuild c.stream_layer.post q list
  pub entry : Modify
  pub among : Contains list entry
  pub there : IsThere c.stream_layer entry.stream

-- the two ranges of a split of which this is one have all their streams
pub record IsPairThere (w : StreamSystem) (n : ℕ) : Type 0 where
  pub half : ℕ
  pub counted : 1 ≤ half
  pub is : (n ≡ half + half) ⊎ (n ≡ suc (half + half))
  pub low : HasStreams w (half + half)
  pub high : HasStreams w (suc (half + half))

-- Whoever was refused since a name is taken asked for a list of which a stream is there; and where a stream is there, of another than the first
-- range and that of users, those of both ranges of the split are that made it.
pub record NamesHold (c : Cluster) : Type 0 where
  pub taken : (p : Packet) (server : ℕ) (q : ReqNo) → Contains c.stream_layer.post p → p.to ≡ Server server → p.body ≡ bodies.Append (appends.Refused q refusals.NameTaken) → is_answerer p.from p.body ≡ true → IsTakenThere c q
  pub streams : (s : StreamName) → IsThere c.stream_layer s → (s.range ≤ 1) ⊎ IsPairThere c.stream_layer s.range

module _ (nodes target : ℕ) (c : Cluster) (m : ByMoves (start nodes target) c.stream_layer) (n : Names pairs c) (x : AreConstructed c) (h : NamesHold c) where
  abbrev w : StreamSystem
  w = c.stream_layer

  abbrev post : List Packet
  post = w.post

  -- whoever asks to build streams asks for those of a split
  built_pair : (p : Packet) → Contains post p → (list : List Modify) (q : ReqNo) → p.body ≡ bodies.Stream (streams.MultiModify list q) → IsBuilt pairs list
  built_pair p there list q is = elim (n.post p there) [
    | inl asks ↦ absurd (let z : false ≡ true = ap is_request (sym is) ∙ asks.1 in cc)
    | inr names ↦ subst (BodyNames pairs) is names
  ]

  halves_apart : (low high : ℕ) → IsPair low high → high ≡ low → ⊥
  halves_apart low high p same = let a = p.1 in let b = p.2 in absurd (omega (arith, a, b, same))

  pair_sides : (low high : ℕ) → IsPair low high → (v : StreamSystem) → HasStreams v low → HasStreams v high → (k : ℕ) → (k ≡ low) ⊎ (k ≡ high) → IsPairThere v k
  pair_sides low high p v l g k is = record {
    half = p.0;
    counted = p.3;
    is = elim is [ inl same ↦ inl (same ∙ p.1) | inr same ↦ inr (same ∙ p.2) ];
    low = subst (HasStreams v) p.1 l;
    high = subst (HasStreams v) p.2 g;
  }

  module _ (event : Event) (unmerged : IsUnmerged event) where
    abbrev d : Cluster
    d = cluster_after c event

    abbrev v : StreamSystem
    v = d.stream_layer

    more : ByMoves w v
    more = led_by (event ∷ []) c

    there_next : (s : StreamName) → IsThere w s → IsThere v s
    there_next s there = name_on nodes target w m v more s there

    taken_next : (q : ReqNo) → IsTakenThere c q → IsTakenThere d q
    taken_next q t = record {
      list = t.list;
      asked = build_more post v.post (λ p there. stays_in_post c p there event) q t.list t.asked;
      entry = t.entry;
      among = t.among;
      there = there_next t.entry.stream t.there;
    }

    -- ---- refusals

    -- who is no server that answers
    user_not : (from : ActorId) (q : ReqNo) → is_user from ≡ true → is_answerer from (bodies.Append (appends.Refused q refusals.NameTaken)) ≡ true → ⊥
    user_not (User u) q user is = absurd cc
    user_not (Node k) q user is = absurd cc
    user_not Manager q user is = absurd cc
    user_not Map q user is = absurd cc
    user_not (Server s) q user is = absurd cc

    -- the manager says so to who asked for streams of which one is there
    says_taken : (to : ActorId) (server : ℕ) (q : ReqNo) → to ≡ Server server → SaysTaken w to q → IsTakenThere c q
    says_taken to server q is says = elim says.for [
      | inl create ↦ absurd (
          let user : is_user says.taken.from ≡ true = subst (CreatesFrom says.taken.from) create.2 (x.creates says.taken says.stood) in
          let z : is_user (Server server) ≡ true = subst (λ (a : ActorId). is_user a ≡ true) (sym says.asker ∙ is) user in
          cc
          )
      | inr build ↦ (
          let pair : IsBuilt pairs build.0 = built_pair says.taken says.stood build.0 q build.1 in
          let found = taken_in (sealed_lengths w.catalog) build.0 w.catalog.stream (subst AreApart (sym pair.is) (sides_apart pair.job (halves_apart pair.job.low pair.job.high pair.split))) build.2 in
          record { list = build.0; asked = record { packet = says.taken; sent = says.stood; is = build.1 }; entry = found.0; among = found.1; there = found.2 }
          )
    ]

    taken_now : (p : Packet) (server : ℕ) (q : ReqNo) → Contains v.post p → p.to ≡ Server server → p.body ≡ bodies.Append (appends.Refused q refusals.NameTaken) → is_answerer p.from p.body ≡ true → IsTakenThere d q
    taken_now p server q there to is answerer = elim ((event_step c event unmerged).sent p there) [
      | inl old ↦ taken_next q (h.taken p server q old to is answerer)
      | inr fresh ↦ elim fresh [
        | inl from ↦ elim (subst (BodyFrom w p.from p.to) is from) [
          | inl user ↦ absurd (user_not p.from q user (subst (λ (b : Body). is_answerer p.from b ≡ true) is answerer))
          | inr says ↦ taken_next q (says_taken p.to server q to says)
        ]
        | inr other ↦ elim other [
          | inl of ↦ absurd (
              let z : is_answerer (Server of.0) (bodies.Append (appends.Refused q refusals.NameTaken)) ≡ true = subst (λ (a : ActorId). is_answerer a (bodies.Append (appends.Refused q refusals.NameTaken)) ≡ true) of.1 (subst (λ (b : Body). is_answerer p.from b ≡ true) is answerer) in
              cc
              )
          | inr says ↦ absurd (subst BodyOther is says)
        ]
      ]
    ]

    -- ---- streams

    pair_next : (k : ℕ) → IsPairThere w k → IsPairThere v k
    pair_next k p = record {
      half = p.half;
      counted = p.counted;
      is = p.is;
      low = there_on nodes target w m v more (p.half + p.half) p.low;
      high = there_on nodes target w m v more (suc (p.half + p.half)) p.high;
    }

    no_foreign : (from : ActorId) (range : ℕ) → is_user from ≡ true → is_foreign from range ≡ false → range ≡ 0
    no_foreign from range user none = go (range == 0) refl (sym (ap (λ b. b && not (range == 0)) user) ∙ none)
      where
        go : (b : Bool) → (range == 0) ≡ b → not b ≡ false → range ≡ 0
        go true is e = eqb-true range 0 is
        go false is e = absurd cc

    come : (s : StreamName) → IsCome w v s → (s.range ≤ 1) ⊎ IsPairThere v s.range
    come s i = elim i.asked [
      | inl build ↦ (
          let list : List Modify = build.0 in
          let pair : IsBuilt pairs list = built_pair i.taken i.stood list build.1 build.2 in
          let left : v.catalog.stream ≡ modified w.catalog.stream list =
          i.left ∙ ap (λ (b : Body). (manager_rule w.catalog i.taken b).after.stream) build.2
          ∙ ap (λ (o : Option Refusal). (or_refused w.catalog Manager i.taken build.1 o (modify_taken w.catalog i.taken list build.1)).after.stream) build.3 in
          let all = built_there (sealed_lengths w.catalog) list w.catalog.stream (builds_of w.catalog i.taken list build.3).1 in
          let every : (y : Modify) → Contains (all_streams pair.job) y → IsThere v y.stream = λ y among.
          (let k = choices.each-contains (λ (z : Modify). (o : Stream) × (stream_of (modified w.catalog.stream list) z.stream ≡ Some o)) list y all (subst (λ l. Contains l y) (sym pair.is) among) in
          (k.0, ap (λ (t : Streams). stream_of t y.stream) left ∙ k.1)) in
          let both = sides_there v pair.job every in
          let entry = build.4 in
          let side = sides_range pair.job entry.0 (subst (λ l. Contains l entry.0) pair.is entry.1) in
          let range : entry.0.stream.range ≡ s.range = ap (λ (t : StreamName). t.range) entry.2 in
          inr (pair_sides pair.job.low pair.job.high pair.split v both.0 both.1 s.range (elim side [ inl low ↦ inl (sym range ∙ low) | inr high ↦ inr (sym range ∙ high) ]))
          )
      | inr create ↦ (
          let user : is_user i.taken.from ≡ true = subst (CreatesFrom i.taken.from) create.2 (x.creates i.taken i.stood) in
          let tests = none_met (create_tests w.catalog i.taken s) create.3 in
          let zero : s.range ≡ 0 = no_foreign i.taken.from s.range user tests.0 in
          inl (omega (arith, zero))
          )
    ]

    streams_now : (s : StreamName) → IsThere v s → (s.range ≤ 1) ⊎ IsPairThere v s.range
    streams_now s there = elim ((event_step c event unmerged).streams s there.0 there.1) [
      | inl was ↦ elim (h.streams s was) [ inl less ↦ inl less | inr pair ↦ inr (pair_next s.range pair) ]
      | inr i ↦ come s i
    ]

    pub names_hold : NamesHold d
    names_hold = record { taken = taken_now; streams = streams_now }

  -- ---- what that means of the streams of a split

  named_pair : (q : ReqNo) (job : SplitJob) → HasBuild post q (all_streams job) → IsPair job.low job.high
  named_pair q job asked =
      let pair : IsBuilt pairs (all_streams job) = built_pair asked.packet asked.sent (all_streams job) q asked.is in
      let low : job.low ≡ pair.job.low = ap low_of pair.is in
      let high : job.high ≡ pair.job.high = ap high_of pair.is in
      subst (λ a. IsPair a job.high) (sym low) (subst (λ b. IsPair pair.job.low b) (sym high) pair.split)

  -- of two that share a number both are the same
  same_pair : (job : SplitJob) → IsPair job.low job.high → (k : ℕ) → (k ≡ job.low) ⊎ (k ≡ job.high) → IsPairThere w k → HasStreams w job.low × HasStreams w job.high
  same_pair job p k side there =
      let halves : there.half ≡ p.0 = same_half there.half p.0 k there.is (elim side [ inl low ↦ inl (low ∙ p.1) | inr high ↦ inr (high ∙ p.2) ]) in (
        subst (HasStreams w) (ap (λ z. z + z) halves ∙ sym p.1) there.low,
        subst (HasStreams w) (ap (λ z. suc (z + z)) halves ∙ sym p.2) there.high,
      )
    where
      same_half : (a b k : ℕ) → (k ≡ a + a) ⊎ (k ≡ suc (a + a)) → (k ≡ b + b) ⊎ (k ≡ suc (b + b)) → a ≡ b
      same_half a b k (inl e) (inl f) = omega (arith, e, f)
      same_half a b k (inl e) (inr f) = absurd (omega (arith, e, f))
      same_half a b k (inr e) (inl f) = absurd (omega (arith, e, f))
      same_half a b k (inr e) (inr f) = omega (arith, e, f)

  above_one : (job : SplitJob) → IsPair job.low job.high → (k : ℕ) → (k ≡ job.low) ⊎ (k ≡ job.high) → k ≤ 1 → ⊥
  above_one job p k (inl low) less = let a = p.1 in let b = p.3 in absurd (omega (arith, a, b, low, less))
  above_one job p k (inr high) less = let a = p.2 in let b = p.3 in absurd (omega (arith, a, b, high, less))

  pub taken_are_there : TakenAreThere c
  taken_are_there p server q there to is answerer job asked =
      let t : IsTakenThere c q = h.taken p server q there to is answerer in
      let list : t.list ≡ all_streams job = x.once q t.list (all_streams job) t.asked asked in
      let pair : IsPair job.low job.high = named_pair q job asked in
      let side = sides_range job t.entry (subst (λ l. Contains l t.entry) list t.among) in
      elim (h.streams t.entry.stream t.there) [
        | inl less ↦ absurd (above_one job pair t.entry.stream.range side less)
        | inr both ↦ same_pair job pair t.entry.stream.range side both
      ]
