-- Each rule of the manager's table keeps what is known.
use Rattle.std.proofs.Common.{◌≡◌, ℕ, suc, ◌≤◌, Bool, true, false, ◌==◌, if◌then◌else◌, List, [], ◌∷◌, length, Option, Some, None, Result, Ok, Err, refl, ◌∙◌, inl, arith, ap}
use Rattle.block_types.specs.declared.record.Nodes.{Nodes}
use Rattle.wire.specs.declared.actor.ActorId.TheVariants.{Manager}
use Rattle.wire.specs.declared.actor.ReqNo.{ReqNo}
use Rattle.wire.specs.declared.body.SealBody.{SealBody}
use Rattle.wire.specs.declared.body.SealBody.TheVariants.{SealExtent, Frozen, IsSealed, Short}
use Rattle.wire.specs.declared.body.StreamBody.{StreamBody}
use Rattle.wire.specs.declared.body.StreamBody.TheVariants.{CreateStream, OpenStreams, Confirm, Confirmed, Extend, Trim, MultiModify}
use Rattle.wire.specs.declared.body.Body.{Body}
use Rattle.wire.specs.declared.body.Body.TheVariants as bodies
use Rattle.wire.specs.declared.note.Note.{Note}
use Rattle.wire.specs.declared.packet.Packet.{Packet}
use Rattle.wire.specs.declared.refusal.Refusal.{Refusal}
use Rattle.wire.specs.declared.refusal.Refusal.TheVariants.{Stale, BadPick}
use Rattle.wire.specs.declared.streams.Modify.{Modify}
use Rattle.wire.specs.declared.streams.StreamName.{StreamName}
use Rattle.replica.specs.Groups.{Group}
use Rattle.streams.specs.Streams.{Streams, stream_of, created, opened, extending, modified, trimmed, trimming}
use Rattle.model_streams.specs.Actors.{is_user, generation_of}
use Rattle.model_streams.specs.Maps.{changed}
use Rattle.model_streams.specs.declared.extent.Extent.{Extent}
use Rattle.model_streams.specs.declared.manager_record.ManagerRecord.TheVariants as manager_records
use Rattle.model_streams.specs.Manager.{Catalog, new_extent, writes, answer, with_streams, create_refusal, create_taken, open_refusal, open_taken, confirm_refusal, is_foreign, is_pick, sealed_lengths, extend_made, extend_picked, last_told, extend_answered, extend_rule, trim_answered, trim_rule, modify_refusal, modify_taken, stream_body_rule, seal_body_rule, manager_rule}
use Rattle.model_streams.specs.Outcome.{refused, or_refused}
use Rattle.model_streams.proofs.Tests.{if_elim}
use Rattle.laws_streams.proofs.Lists.{begins_refl}
use Rattle.laws_streams.proofs.Choices.{changed_elim, changed-same, changed-other, Each}
use Rattle.laws_streams.proofs.Ground.{Ground, Sound, FineSeal, FineBody}
use Rattle.laws_streams.proofs.MoreKnown.{no_more, Later}
use Rattle.laws_streams.proofs.RestsOnGround.{places_of, sealed_of, FineReportsOf, FineCatalog, reports_later}
use Rattle.laws_streams.proofs.RuleInvariant.{told_nothing, Rules, written_rule, plain_rule, silent_rule, refused_rule}
use Rattle.laws_streams.proofs.DecisionRules.{seal_extent_keeps, frozen_keeps, is_sealed_keeps, short_keeps}

-- ---- CreateStream, OpenStreams and Confirm

-- nothing that is known is of the streams
streams_fine : (g : Ground) (b : Catalog) (streams : Streams) → FineCatalog g b → FineCatalog g (with_streams b streams)
streams_fine g b streams catalog = record { places = catalog.places; sealed = catalog.sealed; born = catalog.born; fresh = catalog.fresh; reports = catalog.reports }

create_keeps : (News : ℕ → ℕ → Type 0) (told : List Note) (g : Ground) (b : Catalog) (p : Packet) (s : StreamName) (fence : ℕ) (q : ReqNo) (x : Option Refusal) →
    Sound g → FineCatalog g b → Rules News told g (or_refused b Manager p q x (create_taken b p s fence q))
create_keeps News told g b p s fence q (Some refusal) sound catalog = refused_rule News told g b sound catalog p q refusal
create_keeps News told g b p s fence q None sound catalog =
    written_rule News told g (with_streams b (created b.stream s fence)) sound (streams_fine g b (created b.stream s fence) catalog)
    (writes (manager_records.CreateStream s fence)) _ (tt, tt)

open_keeps : (News : ℕ → ℕ → Type 0) (told : List Note) (g : Ground) (b : Catalog) (p : Packet) (range generation : ℕ) (q : ReqNo) (x : Option Refusal) →
    Sound g → FineCatalog g b → Rules News told g (or_refused b Manager p q x (open_taken b p range generation q))
open_keeps News told g b p range generation q (Some refusal) sound catalog = refused_rule News told g b sound catalog p q refusal
open_keeps News told g b p range generation q None sound catalog =
    written_rule News told g (with_streams b (opened b.stream range generation)) sound (streams_fine g b (opened b.stream range generation) catalog)
    (writes (manager_records.OpenStreams range generation)) _ (tt, tt)

confirm_keeps : (News : ℕ → ℕ → Type 0) (told : List Note) (g : Ground) (b : Catalog) (p : Packet) (q : ReqNo) (x : Option Refusal) →
    Sound g → FineCatalog g b → Rules News told g (or_refused b Manager p q x (answer b p (Confirmed q)))
confirm_keeps News told g b p q (Some refusal) sound catalog = refused_rule News told g b sound catalog p q refusal
confirm_keeps News told g b p q None sound catalog = plain_rule News told g b sound catalog _ (tt, tt)

-- ---- Extend

-- extent e is made at these places with this fence
making : Ground → ℕ → Nodes → ℕ → Ground
making g e pick fence = record g { places = changed e (Some pick) g.places; born = changed e fence g.born }

each_of_none : {A : Type 0} (P : A → Type 0) (xs : List A) → length xs ≡ 0 → Each P xs
each_of_none P [] none = tt
each_of_none P (x ∷ xs) none = absurd (omega (arith, none))

module _ (News : ℕ → ℕ → Type 0) (told : List Note) (g : Ground) (b : Catalog) (sound : Sound g) (catalog : FineCatalog g b) (pick : Nodes) where
  unmade_next : g.places (suc b.count) ≡ None
  unmade_next = catalog.places (suc b.count) ∙ ap places_of (catalog.fresh (suc b.count) (omega arith))

  making_later : (fence : ℕ) → Later g (making g (suc b.count) pick fence)
  unfolding making
  making_later fence = record {
    script = λ k. begins_refl (g.script k);
    acked = λ k. omega arith;
    places = λ k at m. changed_elim (λ x. x ≡ Some at) (suc b.count) (Some pick) g.places k
        (λ q. let c : g.places k ≡ None = ap g.places q ∙ unmade_next in absurd (cc)) (λ o. m);
    born = λ k at m. changed_elim (λ x. x ≡ g.born k) (suc b.count) fence g.born k
        (λ q. let c : g.places k ≡ None = ap g.places q ∙ unmade_next in absurd (cc)) (λ o. refl);
    sealed = λ k l m. m;
    last = λ n k. omega arith;
    closed = λ n k c. (c, refl);
    origin = λ k. no_more (g.fence k) (g.origin k);
    fence = λ k. omega arith;
    asked = λ p c. c;
  }

  making_sound : (fence : ℕ) → Sound (making g (suc b.count) pick fence)
  unfolding making
  making_sound fence =
      let none = sound.unmade (suc b.count) unmade_next in
      record {
        none_empty = sound.none_empty;
        short = sound.short;
        whole = sound.whole;
        aged = sound.aged;
        born = λ k. changed_elim (λ x. Each (λ y. x ≤ y.generation) (g.origin k)) (suc b.count) fence g.born k
            (λ q. each_of_none _ (g.origin k) (sound.aged k ∙ ap (λ (x : List Group). length x) (ap g.script q ∙ none.0))) (λ o. sound.born k);
        unmade = λ k. changed_elim (λ x. x ≡ None → (g.script k ≡ []) × (g.acked k ≡ 0) × (g.fence k ≡ 0)) (suc b.count) (Some pick) g.places k
            (λ q m. (ap g.script q ∙ none.0, ap g.acked q ∙ none.1, ap g.fence q ∙ none.2)) (λ o m. sound.unmade k m);
        all_had = λ k at. changed_elim (λ x. x ≡ Some at → (g.acked k ≤ g.last at.primary k) × (g.acked k ≤ g.last at.second k) × (g.acked k ≤ g.last at.third k))
            (suc b.count) (Some pick) g.places k
            (λ q m. let z = ap g.acked q in (omega (arith, none.1), omega (arith, none.1), omega (arith, none.1))) (λ o m. sound.all_had k at m);
        noted = λ k l m.
            let (at, n, made, place, closed, last) = sound.noted k l m in
            (at, n, (making_later fence).places k at made, place, closed, last);
      }

  made_keeps : (p : Packet) (s : StreamName) (fence : ℕ) (q : ReqNo) → Rules News told g (extend_made b p s fence pick q)
  unfolding making
  made_keeps p s fence q =
      let made = changed-same (suc b.count) (Some pick) g.places in
      let born = changed-same (suc b.count) fence g.born in (
        making g (suc b.count) pick fence,
        record {
          sound = making_sound fence;
          later = making_later fence;
          still = λ n j. record { last = refl; closed = refl; primary = λ at m i. (refl, refl, refl) };
          unmoved = λ j. (refl, refl);
          sealed = λ j l is. inl is;
          catalog = record {
            places = λ j. elim (j == suc b.count) as (λ t. (if t then Some pick else g.places j)
                ≡ places_of (if t then Some (new_extent pick fence) else b.extent j)) [ true ↦ refl | false ↦ catalog.places j ];
            sealed = λ j. changed_elim (λ y. g.sealed j ≡ sealed_of y) (suc b.count) _ b.extent j
                (λ i. ap g.sealed i ∙ catalog.sealed (suc b.count) ∙ ap sealed_of (catalog.fresh (suc b.count) (omega arith))) (λ o. catalog.sealed j);
            born = λ j z. changed_elim (λ y. y ≡ Some z → changed (suc b.count) fence g.born j ≡ z.fence) (suc b.count) (Some (new_extent pick fence)) b.extent j
                (λ i m. let c : new_extent pick fence ≡ z = cc in rw (i, changed-same (suc b.count) fence g.born) (ap (λ (v : Extent). v.fence) c))
                (λ i m. rw (changed-other (suc b.count) fence g.born j i) (catalog.born j z m));
            fresh = λ j l. changed_elim (λ y. y ≡ None) (suc b.count) _ b.extent j (λ i. absurd (omega arith)) (λ o. catalog.fresh j (omega arith));
            reports = λ j. reports_later g (making g (suc b.count) pick fence) (making_later fence) j _
                (changed_elim (FineReportsOf g j) (suc b.count) (Some (new_extent pick fence)) b.extent j
                (λ i. record { primary = λ l is. absurd cc; second = λ l is. absurd cc; third = λ l is. absurd cc }) (λ o. catalog.reports j));
          };
          packets = ((made, born), ((made, born), ((made, born), (tt, tt))));
          asked = λ p c. c;
          notes = tt;
          apart = tt;
          cross = told_nothing told;
        },
      )

  picked_keeps : (p : Packet) (s : StreamName) (generation : ℕ) (q : ReqNo) → Rules News told g (extend_picked b p s generation pick q)
  picked_keeps p s generation q =
      if_elim (Rules News told g) (is_pick b.nodes pick) (extend_made b p s generation pick q) (refused b Manager p q BadPick)
      (λ t. made_keeps p s generation q) (λ f. refused_rule News told g b sound catalog p q BadPick)

  last_keeps : (p : Packet) (e : ℕ) (o : Option Extent) (q : ReqNo) → Rules News told g (last_told b p e o q)
  last_keeps p e None q = silent_rule News told g b sound catalog
  last_keeps p e (Some x) q = plain_rule News told g b sound catalog _ (tt, tt)

  answered_keeps : (p : Packet) (s : StreamName) (generation : ℕ) (q : ReqNo) (x : Result (Option ℕ) Refusal) → Rules News told g (extend_answered b p s generation pick q x)
  answered_keeps p s generation q (Err refusal) = refused_rule News told g b sound catalog p q refusal
  answered_keeps p s generation q (Ok None) = picked_keeps p s generation q
  answered_keeps p s generation q (Ok (Some e)) = last_keeps p e (b.extent e) q

  extend_keeps : (p : Packet) (s : StreamName) (generation : ℕ) (last : Option ℕ) (q : ReqNo) → Rules News told g (extend_rule b p s generation last pick q)
  extend_keeps p s generation last q =
      if_elim (Rules News told g) (is_foreign p.from s.range) (refused b Manager p q Stale)
      (extend_answered b p s generation pick q (extending (sealed_lengths b) (stream_of b.stream s) generation last))
      (λ t. refused_rule News told g b sound catalog p q Stale)
      (λ f. answered_keeps p s generation q (extending (sealed_lengths b) (stream_of b.stream s) generation last))

-- ---- Trim

module _ (News : ℕ → ℕ → Type 0) (told : List Note) (g : Ground) (b : Catalog) (p : Packet) (range before : ℕ) (to_blob : Bool) (q : ReqNo) (sound : Sound g) (catalog : FineCatalog g b) where
  trim_answered_keeps : (x : Result Bool Refusal) → Rules News told g (trim_answered b p range before to_blob q x)
  trim_answered_keeps (Err refusal) = refused_rule News told g b sound catalog p q refusal
  trim_answered_keeps (Ok false) = plain_rule News told g b sound catalog _ (tt, tt)
  trim_answered_keeps (Ok true) =
      written_rule News told g (with_streams b (trimmed b.stream range before to_blob)) sound (streams_fine g b (trimmed b.stream range before to_blob) catalog)
      (writes (manager_records.Trim range before to_blob)) _ (tt, tt)

  trim_keeps : (generation : ℕ) → Rules News told g (trim_rule b p range generation before to_blob q)
  trim_keeps generation =
      if_elim (Rules News told g) (is_user p.from) (refused b Manager p q Stale) (trim_answered b p range before to_blob q (trimming b.stream range generation before))
      (λ t. refused_rule News told g b sound catalog p q Stale) (λ f. trim_answered_keeps (trimming b.stream range generation before))

-- ---- MultiModify

modify_keeps : (News : ℕ → ℕ → Type 0) (told : List Note) (g : Ground) (b : Catalog) (p : Packet) (list : List Modify) (q : ReqNo) (x : Option Refusal) →
    Sound g → FineCatalog g b → Rules News told g (or_refused b Manager p q x (modify_taken b p list q))
modify_keeps News told g b p list q (Some refusal) sound catalog = refused_rule News told g b sound catalog p q refusal
modify_keeps News told g b p list q None sound catalog =
    written_rule News told g (with_streams b (modified b.stream list)) sound (streams_fine g b (modified b.stream list) catalog)
    (writes (manager_records.MultiModify list)) _ (tt, tt)

-- ---- all rules

stream_body_keeps : (News : ℕ → ℕ → Type 0) (told : List Note) (g : Ground) (b : Catalog) (p : Packet) (body : StreamBody) → Sound g → FineCatalog g b → Rules News told g (stream_body_rule b p body)
stream_body_keeps News told g b p (CreateStream s fence q) sound catalog = create_keeps News told g b p s (generation_of p.from fence) q (create_refusal b p s) sound catalog
stream_body_keeps News told g b p (OpenStreams range generation q) sound catalog = open_keeps News told g b p range generation q (open_refusal b p range generation) sound catalog
stream_body_keeps News told g b p (Confirm range generation q) sound catalog = confirm_keeps News told g b p q (confirm_refusal b p range generation) sound catalog
stream_body_keeps News told g b p (Extend s generation last pick q) sound catalog = extend_keeps News told g b sound catalog pick p s (generation_of p.from generation) last q
stream_body_keeps News told g b p (Trim range generation before to_blob q) sound catalog = trim_keeps News told g b p range before to_blob q sound catalog generation
stream_body_keeps News told g b p (MultiModify list q) sound catalog = modify_keeps News told g b p list q (modify_refusal b p list) sound catalog
stream_body_keeps News told g b p body sound catalog = silent_rule News told g b sound catalog

seal_body_keeps : (News : ℕ → ℕ → Type 0) (told : List Note) (g : Ground) (b : Catalog) (p : Packet) (body : SealBody) → Sound g → FineCatalog g b → FineSeal g p.from body →
    Rules News told g (seal_body_rule b p body)
seal_body_keeps News told g b p (SealExtent e q) sound catalog fine = seal_extent_keeps News told g b sound catalog e p q (b.extent e) refl
seal_body_keeps News told g b p (Frozen e length) sound catalog fine = frozen_keeps News told g b sound catalog e p length fine (b.extent e) refl
seal_body_keeps News told g b p (IsSealed e) sound catalog fine = is_sealed_keeps News told g b sound catalog e p (b.extent e) refl
seal_body_keeps News told g b p (Short e length) sound catalog fine = short_keeps News told g b sound catalog e p length (b.extent e)
seal_body_keeps News told g b p body sound catalog fine = silent_rule News told g b sound catalog

-- whatever is delivered to the manager
pub manager_keeps : (News : ℕ → ℕ → Type 0) (told : List Note) (g : Ground) (b : Catalog) (p : Packet) (body : Body) → Sound g → FineCatalog g b → FineBody g p.from p.to body →
    Rules News told g (manager_rule b p body)
manager_keeps News told g b p (bodies.Stream body) sound catalog fine = stream_body_keeps News told g b p body sound catalog
manager_keeps News told g b p (bodies.Seal body) sound catalog fine = seal_body_keeps News told g b p body sound catalog fine
manager_keeps News told g b p body sound catalog fine = silent_rule News told g b sound catalog
