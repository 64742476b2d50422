-- From one stream system to the next: what a move leaves of the lists, and what its packets add.
use Rattle.std.proofs.Common.{◌≡◌, ◌≢◌, ◌⊎◌, ℕ, suc, ◌<◌, ◌≤◌, List, [], ◌∷◌, ◌++◌, Option, Some, None, slice_get, Contains, refl, sym, ap, ◌∙◌, subst, inl, inr, arith}
use Rattle.std.proofs.lemmas.Bool.{cases_lt}
use Rattle.std.proofs.lemmas.Option.{slice_get_within}
use Rattle.std.proofs.lemmas.List.Elements.{Contains-append_left, Contains-append_cases}
use Rattle.wire.specs.declared.actor.ActorId.{ActorId}
use Rattle.wire.specs.declared.actor.ActorId.TheVariants.{Server}
use Rattle.wire.specs.declared.actor.ReqNo.{ReqNo}
use Rattle.wire.specs.declared.body.ReadBody.TheVariants.{Groups}
use Rattle.wire.specs.declared.body.StreamBody.TheVariants.{MultiModify}
use Rattle.wire.specs.declared.body.Body.{Body}
use Rattle.wire.specs.declared.body.Body.TheVariants as bodies
use Rattle.wire.specs.declared.packet.Packet.{Packet}
use Rattle.wire.specs.declared.streams.StreamKind.TheVariants.{BlobData}
use Rattle.wire.specs.declared.streams.StreamName.{StreamName}
use Rattle.replica.specs.Groups.{Group}
use Rattle.streams.specs.Streams.{Stream, stream_of, whole}
use Rattle.model_streams.specs.declared.extent.Extent.{Extent}
use Rattle.model_streams.specs.Manager.{Catalog, sealed_in, sealed_lengths}
use Rattle.model_streams.specs.Outcome.{packet}
use Rattle.model_streams.specs.StreamSystem.{StreamSystem}
use Rattle.laws_streams.specs.Listings.{IsRising}
use Rattle.laws_streams.specs.Origins.{Begins}
use Rattle.laws_streams.proofs.Choices.{Each, each-contains}
use Rattle.laws_streams.proofs.Ground.{Ground}
use Rattle.laws_streams.proofs.MoreKnown.{Later}
use Rattle.laws_streams.proofs.RestsOnGround.{places_of, Holds}
use Rattle.laws_streams.proofs.BuildRequests.{ServersAsk}
use Rattle.laws_streams.proofs.ListRules.{BuildsStream, Built, Goes, grown_whole}
use Rattle.laws_streams.proofs.StreamAnswers.{same_packet}
use Rattle.laws_streams.proofs.WholeLists.{none_whole}
use Rattle.model_histories.specs.StreamMachine.{MachineState}
use Rattle.laws_stream_machine.specs.Refinement.{Sent, extents_of, IsAt, IsThere, IsAsked, AllAsked}
use Rattle.laws_stream_machine.proofs.StepSequences.{Onward}
use Rattle.laws_stream_machine.proofs.MachineCore.{Shaped, pushed_get}
use Rattle.laws_stream_machine.proofs.SentPackets.{Called, Reading, reading_on, AllAppended, appended_more, Ahead, asked_on, Meant, meant_on}
use Rattle.laws_stream_machine.proofs.Refines.{Follows}

-- ---- streams that are built

-- this stream is among them only where it is there already
unbuilt : (generation : ℕ → ℕ) (name : StreamName) (w : StreamSystem) (s : MachineState Group) (sent : List Sent) → AllAsked generation name w s sent → ServersAsk w.post → BuildsStream w.post name → IsThere w name
unbuilt generation name w s sent asked asks b =
    let ((server, from), kinds) = asks b.packet b.list b.request b.sent b.body in
    of_packet server from (asked server)
  where
    of_packet : (server : ℕ) → b.packet.from ≡ Server server → ((to : ActorId) (body : Body) → Contains w.post (packet (Server server) to body) → IsAsked generation name w s sent body) → IsThere w name
    of_packet server from asked =
        let body = bodies.Stream (MultiModify b.list b.request) in
        let same : b.packet ≡ packet (Server server) b.packet.to body = same_packet b.packet (Server server) b.packet.to body from refl b.body in
        asked b.packet.to body (subst (Contains w.post) same b.sent) b.entry b.among b.name

-- ---- lists

abbrev AreRising : List ℕ → Type 0
AreRising xs = (i j e f : ℕ) → i < j → slice_get xs i ≡ Some e → slice_get xs j ≡ Some f → e < f

-- with one more behind them
pushed_rises : (xs : List ℕ) (n : ℕ) → ((i e : ℕ) → slice_get xs i ≡ Some e → e < n) → AreRising xs → AreRising (xs ++ n ∷ [])
pushed_rises xs n low rising i j e f l at next = elim (pushed_get xs n i e at) [
  | inl a ↦ elim (pushed_get xs n j f next) [
    | inl d ↦ rising i j e f l a d
    | inr d ↦ let m = low i e a in omega (arith, m, d.1)
  ]
  | inr a ↦ elim (pushed_get xs n j f next) [
    | inl d ↦ let m = slice_get_within xs j f d in absurd (omega (arith, m, a.0, l))
    | inr d ↦ absurd (omega (arith, a.0, d.0, l))
  ]
]

module _ (post : List Packet) (b c : Catalog) (goes : Goes post b c) (fresh : b.extent (suc b.count) ≡ None) (name : StreamName) (plain : name.kind ≢ BlobData)
    (unbuilt : BuildsStream post name → (x : Stream) × (stream_of b.stream name ≡ Some x)) where
  -- a stream that is there is not built
  not_new : (z : Stream) → Built post b name z → ⊥
  not_new z g = let (x, there) = unbuilt g.asked in let c : None ≡ Some x = sym g.absent ∙ there in cc

  list_begins : (o : Option Stream) → stream_of b.stream name ≡ o → Begins (extents_of o) (extents_of (stream_of c.stream name))
  list_begins None is = record { rest = extents_of (stream_of c.stream name); is = refl }
  list_begins (Some x) is =
      let l = goes.grows name x is in
      subst (λ o. Begins (whole x) (extents_of o)) (sym l.is) l.begins

  list_back : (o : Option Stream) → stream_of c.stream name ≡ o → (index e : ℕ) → (b.extent e ≡ None → ⊥) → slice_get (extents_of o) index ≡ Some e →
      slice_get (extents_of (stream_of b.stream name)) index ≡ Some e
  list_back None is index e made at = absurd cc
  list_back (Some z) is index e made at = elim (goes.lists name z is) [
    | inl old ↦ subst (λ p. slice_get (extents_of p) index ≡ Some e) (sym old.there) (subst (λ xs. slice_get xs index ≡ Some e) old.same at)
    | inr new ↦ elim new [
      | inl empty ↦ absurd (let k : slice_get [] index ≡ Some e = subst (λ xs. slice_get xs index ≡ Some e) (none_whole z empty.0 empty.1) at in cc)
      | inr k ↦ elim k [
        | inl g ↦ elim (pushed_get (whole g.1.was) (suc b.count) index e (subst (λ xs. slice_get xs index ≡ Some e) (grown_whole g.1) at)) [
          | inl k ↦ subst (λ p. slice_get (extents_of p) index ≡ Some e) (sym g.1.there) k
          | inr k ↦ absurd (made (ap b.extent k.1 ∙ fresh))
        ]
        | inr h ↦ elim h [ inl g ↦ absurd (plain g.kind) | inr g ↦ absurd (not_new z g) ]
      ]
    ]
  ]

  list_rises : ((index e : ℕ) → slice_get (extents_of (stream_of b.stream name)) index ≡ Some e → e ≤ b.count) → ((x : Stream) → stream_of b.stream name ≡ Some x → IsRising x) →
      (z : Stream) → stream_of c.stream name ≡ Some z → IsRising z
  list_rises low old z is = elim (goes.lists name z is) [
    | inl o ↦ subst AreRising (sym o.same) (old o.was o.there)
    | inr new ↦ elim new [
      | inl empty ↦ subst AreRising (sym (none_whole z empty.0 empty.1)) (λ i j e f l at next. absurd cc)
      | inr k ↦ elim k [
        | inl g ↦
            subst AreRising (sym (grown_whole g.1))
            (pushed_rises (whole g.1.was) (suc b.count) (λ i e at. (let m = low i e (subst (λ o. slice_get (extents_of o) i ≡ Some e) (sym g.1.there) at) in omega (arith, m))) (old g.1.was g.1.there))
        | inr h ↦ elim h [ inl g ↦ absurd (plain g.kind) | inr g ↦ absurd (not_new z g) ]
      ]
    ]
  ]

-- lists grow by new extents alone, where this one is not built
module _ (generation : ℕ → ℕ) (name : StreamName) (plain : name.kind ≢ BlobData) (w : StreamSystem) (s : MachineState Group) (sent : List Sent) (a : Follows generation name w s sent) (asks : ServersAsk w.post) where
  abbrev b : Catalog
  b = w.catalog

  -- extents have numbers up to the count
  low : (index e : ℕ) → IsAt w name index e → e ≤ b.count
  low index e at = elim (cases_lt b.count e) [
    | inl above ↦
        let (places, is) = a.shaped.settled.made index e at in
        absurd (let c : None ≡ Some places = sym (a.holds.catalog.places e ∙ ap places_of (a.holds.catalog.fresh e above)) ∙ is in cc)
    | inr le ↦ le
  ]

  pub ahead_goes : (v : StreamSystem) (t : MachineState Group) → Goes w.post w.catalog v.catalog → Onward s t → Ahead name w s v t
  ahead_goes v t goes onward =
      let fresh = a.holds.catalog.fresh (suc b.count) (omega arith) in
      let built = unbuilt generation name w s sent a.asked asks in
      record {
        begins = list_begins w.post b v.catalog goes fresh name plain built (stream_of b.stream name) refl;
        back = λ index e made at. list_back w.post b v.catalog goes fresh name plain built (stream_of v.catalog.stream name) refl index e made at;
        made = λ e made none. by_extent e (b.extent e) refl made none;
        unsealed = λ e made none. by_open e (b.extent e) refl made none;
        there = λ x. let l = goes.grows name x.0 x.1 in (l.now, l.is);
        rising = λ old z is. list_rises w.post b v.catalog goes fresh name plain built low old z is;
        onward = onward;
      }
    where
      by_sealed : (e : ℕ) (y : Extent) → b.extent e ≡ Some y → (l : Option ℕ) → y.sealed ≡ l → sealed_lengths v.catalog e ≡ None → sealed_lengths w.catalog e ≡ None
      by_sealed e y is None unsealed none = ap sealed_in is ∙ unsealed
      by_sealed e y is (Some l) sealed none =
          let k = goes.kept e y is in
          let c : None ≡ Some l = sym none ∙ ap sealed_in k.is ∙ k.sealed l sealed in
          absurd cc

      by_open : (e : ℕ) (o : Option Extent) → b.extent e ≡ o → (b.extent e ≡ None → ⊥) → sealed_lengths v.catalog e ≡ None → sealed_lengths w.catalog e ≡ None
      by_open e None is made none = absurd (made is)
      by_open e (Some y) is made none = by_sealed e y is y.sealed refl none

      by_extent : (e : ℕ) (o : Option _) → b.extent e ≡ o → (b.extent e ≡ None → ⊥) → v.catalog.extent e ≡ None → ⊥
      by_extent e None is made none = made is
      by_extent e (Some y) is made none = let k = goes.kept e y is in let c : None ≡ Some k.now = sym none ∙ k.is in cc

-- ---- packets

-- a packet that a rule of the lower layer sends
pub record Answered (generation : ℕ → ℕ) (name : StreamName) (v : StreamSystem) (t : MachineState Group) (sent : List Sent) (g : Ground) (p : Packet) : Type 0 where
  pub inside : (server : ℕ) → p.from ≡ Server server → ⊥
  pub called : Called p
  pub meant : (server : ℕ) → p.to ≡ Server server → Meant name generation v t sent p
  pub read : (server : ℕ) (q : ReqNo) (e : ℕ) (groups : List Group) → p ≡ packet p.from (Server server) (bodies.Read (Groups q e groups)) → Reading v.post g p.from server q e groups

module _ (generation : ℕ → ℕ) (name : StreamName) (w : StreamSystem) (s : MachineState Group) (sent : List Sent) (a : Follows generation name w s sent) where
  pub next_follows : (v : StreamSystem) (t : MachineState Group) (h : Ground) → Later a.ground h → AllAppended w.post h → Holds v h → Ahead name w s v t → Shaped (stream_of v.catalog.stream name) h t sent →
      (packets : List Packet) → v.post ≡ w.post ++ packets → Each (Answered generation name v t sent h) packets → Follows generation name v t sent
  next_follows v t h later appended holds ahead shaped packets post answered =
      let cases : (p : Packet) → Contains v.post p → Contains w.post p ⊎ Contains packets p =
      λ p c. Contains-append_cases w.post packets p (subst (λ z. Contains z p) post c) in
      let stays : (p : Packet) → Contains w.post p → Contains v.post p = λ p c. subst (λ z. Contains z p) (sym post) (Contains-append_left w.post packets p c) in
      let new : (p : Packet) → Contains packets p → Answered generation name v t sent h p = λ p c. each-contains (Answered generation name v t sent h) packets p answered c in
      record {
        ground = h;
        holds = holds;
        shaped = shaped;
        rising = ahead.rising a.rising;
        asked = λ server to body c. elim (cases (packet (Server server) to body) c) [
          | inl old ↦ asked_on name generation w s v t ahead sent body (a.asked server to body old)
          | inr x ↦ absurd ((new (packet (Server server) to body) x).inside server refl)
        ];
        called = λ p c. elim (cases p c) [ inl old ↦ a.called p old | inr x ↦ (new p x).called ];
        read = λ from server q e groups c. elim (cases (packet from (Server server) (bodies.Read (Groups q e groups))) c) [
          | inl old ↦ reading_on w.post v.post a.ground h stays later from server q e groups (a.read from server q e groups old)
          | inr x ↦ (new (packet from (Server server) (bodies.Read (Groups q e groups))) x).read server q e groups refl
        ];
        appended = appended_more w.post v.post h stays appended;
        meant = λ p c server to. elim (cases p c) [
          | inl old ↦ meant_on name generation w s v t ahead sent p (a.meant p old server to)
          | inr x ↦ (new p x).meant server to
        ];
      }
