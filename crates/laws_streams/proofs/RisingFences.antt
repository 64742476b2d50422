-- No move lowers the fence of a stream, and each new extent has the fence of its stream.
use Rattle.std.proofs.Common.{◌≡◌, ℕ, suc, ◌≤◌, Bool, true, false, not, ◌&&◌, ◌||◌, ◌==◌, nat_lt, if◌then◌else◌, List, [], ◌∷◌, ◌++◌, Option, Some, None, Result, Ok, Err, slice_get, refl, sym, ap, ◌∙◌, arith, subst, eq-eqb}
use Rattle.std.proofs.lemmas.Bool.{ltb-true, not-false, eqb-true, and_parts}
use Rattle.block_types.specs.declared.record.Nodes.{Nodes}
use Rattle.wire.specs.declared.actor.ActorId.{ActorId}
use Rattle.wire.specs.declared.actor.ActorId.TheVariants.{Node, Manager, Map, Server, User}
use Rattle.wire.specs.declared.actor.ReqNo.{ReqNo}
use Rattle.wire.specs.declared.body.SealBody.{SealBody}
use Rattle.wire.specs.declared.body.SealBody.TheVariants.{SealExtent, Frozen, IsSealed, Short}
use Rattle.wire.specs.declared.body.StreamBody.{StreamBody}
use Rattle.wire.specs.declared.body.StreamBody.TheVariants.{CreateStream, OpenStreams, Confirm, Confirmed, Extend, Trim, MultiModify}
use Rattle.wire.specs.declared.body.Body.{Body}
use Rattle.wire.specs.declared.body.Body.TheVariants as bodies
use Rattle.wire.specs.declared.packet.Packet.{Packet}
use Rattle.wire.specs.declared.refusal.Refusal.{Refusal}
use Rattle.wire.specs.declared.refusal.Refusal.TheVariants.{Stale, BadPick}
use Rattle.wire.specs.declared.streams.Modify.{Modify}
use Rattle.wire.specs.declared.streams.StreamKind.{StreamKind}
use Rattle.wire.specs.declared.streams.StreamKind.TheVariants.{Metadata, Log, RowData, BlobData}
use Rattle.wire.specs.declared.streams.StreamName.{StreamName}
use Rattle.streams.specs.Streams.{kind_number, Stream, Streams, empty_stream, stream_of, with_stream, passes, all_pass, fenced_at, behind, extending, last_of, longer, extended_if, extended as extended_streams, shorter, leaving, with_extents, log_name, blob_data_name, trimmed, trimming}
use Rattle.model_streams.specs.declared.event.Event.{Event}
use Rattle.model_streams.specs.declared.event.Event.TheVariants.{Submit, Deliver, Stop, Restart, Decide, GiveUp, Assign, Renew, Checkpoint, Split, Merge}
use Rattle.model_streams.specs.declared.event.Event.TheVariants as events
use Rattle.model_streams.specs.declared.extent.Extent.{Extent}
use Rattle.model_streams.specs.declared.extent.PlaceReport.{PlaceReport}
use Rattle.model_streams.specs.Actors.{is_node, is_user, generation_of}
use Rattle.model_streams.specs.Manager.{Catalog, is_there, forgotten_if, catalog_stopped, new_extent, with_extent, extended, create_tests, create_refusal, create_taken, open_tests, open_refusal, open_taken, confirm_refusal, answer, is_foreign, is_pick, sealed_lengths, extend_made, last_told, extend_answered, extend_rule, with_streams, trim_answered, trim_rule, modify_refusal, modify_taken, seal_asked, seal_extent_rule, with_report, noted, frozen_to, frozen_rule, known_sealed, is_sealed_rule, place_of, first_sealed, asks_tail, short_rule, decided_if, least_told, decide_rule, stream_body_rule, seal_body_rule, manager_rule, reminders}
use Rattle.model_streams.specs.Node.{extent_of, node_rule}
use Rattle.model_streams.specs.Outcome.{Outcome, silent, sends, refused, or_refused}
use Rattle.model_streams.specs.StreamSystem.{StreamSystem, stops_in, stands_in, node_halted, node_performs, node_takes, manager_halted, manager_performs, delivered, delivered_if, is_request, node_stops, manager_stops, stop, is_present, restart, happens, is_server_call, is_told, is_table_note, Move, moved, run_moves}
use Rattle.model_streams.specs.StreamSystem.Move.{Happens, Asks, Says, Observes}
use Rattle.model_streams.proofs.Tests.{if_elim, none_met}
use Rattle.laws_streams.specs.Fences.{Risen, FencesRise, MadeWithFences}
use Rattle.laws_streams.proofs.Choices.{changed_elim}
use Rattle.laws_streams.proofs.TrimTests.{Trims, trims, kept_in, trimmed_is}
use Rattle.laws_streams.proofs.BuildTests.{modified_keeps, builds_of}

-- ---- catalogs

pub record MadeIn (b c : Catalog) (e : ℕ) (x : Extent) : Type 0 where
  pub name : StreamName
  pub stream : Stream
  pub there : stream_of b.stream name ≡ Some stream
  pub fence : x.fence ≡ stream.fence
  pub last : stream_of c.stream name ≡ Some (longer e stream)

-- from b to c no fence is lower, and new extents are made with the fences of their streams
pub record Onward (b c : Catalog) : Type 0 where
  pub rises : (s : StreamName) (x : Stream) → stream_of b.stream s ≡ Some x → Risen x (stream_of c.stream s)
  pub makes : (e : ℕ) (x : Extent) → b.extent e ≡ None → c.extent e ≡ Some x → MadeIn b c e x

abbrev same_stream : (o : Option Stream) (x : Stream) → o ≡ Some x → Risen x o
same_stream o x is = record { now = x; is = is; fence = omega arith }

onward_refl : (b : Catalog) → Onward b b
onward_refl b = record { rises = λ s x is. same_stream _ x is; makes = λ e x none is. absurd cc }

-- an extent that was there is another
onward_extent : (b : Catalog) (e : ℕ) (x y : Extent) → b.extent e ≡ Some x → Onward b (with_extent b e y)
onward_extent b e x y there = record {
  rises = λ s z is. same_stream _ z is;
  makes = λ k z none. changed_elim (λ o. o ≡ Some z → MadeIn b (with_extent b e y) k z) e (Some y) b.extent k
      (λ q is. absurd (let c : b.extent e ≡ None = ap b.extent (sym q) ∙ none in cc))
      (λ q is. absurd cc);
}

-- with one stream changed to one with a fence that is no lower
with_rises : (streams : Streams) (s : StreamName) (y : Stream) → ((x : Stream) → stream_of streams s ≡ Some x → x.fence ≤ y.fence) →
    (t : StreamName) (x : Stream) → stream_of streams t ≡ Some x → Risen x (stream_of (with_stream streams s y) t)
with_rises streams s y low t x is =
    if_elim (Risen x) ((t.range == s.range) && (kind_number t.kind == kind_number s.kind)) (Some y) (streams t.range (kind_number t.kind))
    (λ k.
    let m = and_parts (t.range == s.range) (kind_number t.kind == kind_number s.kind) k in
    let r = eqb-true t.range s.range m.0 in
    let n = eqb-true (kind_number t.kind) (kind_number s.kind) m.1 in
    record { now = y; is = refl; fence = low x (rw (← r, ← n) is) })
    (λ k. same_stream _ x is)

pub with_here : (streams : Streams) (s : StreamName) (y : Stream) → stream_of (with_stream streams s y) s ≡ Some y
with_here streams s y =
    if_elim (λ o. o ≡ Some y) ((s.range == s.range) && (kind_number s.kind == kind_number s.kind)) (Some y) (streams s.range (kind_number s.kind))
    (λ k. refl) (λ k. absurd (let p = eq-eqb s.range s.range refl in let q = eq-eqb (kind_number s.kind) (kind_number s.kind) refl in cc))

-- the blob stream of a range is another than its log
pub other_kind : (streams : Streams) (range : ℕ) (y : Stream) → stream_of (with_stream streams (log_name range) y) (blob_data_name range) ≡ stream_of streams (blob_data_name range)
other_kind streams range y =
    if_elim (λ o. o ≡ stream_of streams (blob_data_name range)) ((range == range) && (3 == 1)) (Some y) (streams range 3)
    (λ k. absurd (let m = and_parts (range == range) (3 == 1) k in let c : false ≡ true = m.1 in cc)) (λ k. refl)

-- ---- CreateStream

pub not_there : {A : Type 0} (o : Option A) → is_there o ≡ false → o ≡ None
not_there None f = refl
not_there (Some x) f = absurd cc

pub no_fault : (b : Bool) (x : Refusal) → is_there (if b then Some x else None) ≡ false → b ≡ false
no_fault true x f = absurd cc
no_fault false x f = refl

create_onward : (b : Catalog) (p : Packet) (s : StreamName) (fence : ℕ) (q : ReqNo) (x : Option Refusal) → create_refusal b p s ≡ x →
    Onward b (or_refused b Manager p q x (create_taken b p s fence q)).after
create_onward b p s fence q (Some refusal) is = onward_refl b
create_onward b p s fence q None is =
    let none : stream_of b.stream s ≡ None = not_there _ (no_fault _ _ (none_met (create_tests b p s) is).1.0) in
    record {
      rises = with_rises b.stream s (empty_stream fence) (λ x there. absurd cc);
      makes = λ e x gone there. absurd cc;
    }

-- ---- OpenStreams

passed_by : (test : Stream → Bool) (o : Option Stream) (x : Stream) → passes test o ≡ true → o ≡ Some x → test x ≡ true
passed_by test None x t is = absurd cc
passed_by test (Some y) x t is = let c : y ≡ x = cc in subst (λ z. test z ≡ true) c t

pub four_pass : (a b c d : Bool) → (a && (b && (c && d))) ≡ true → (a ≡ true) × (b ≡ true) × (c ≡ true) × (d ≡ true)
four_pass a b c d t =
    let k = and_parts a (b && (c && d)) t in
    let m = and_parts b (c && d) k.1 in
    let n = and_parts c d m.1 in
    (k.0, m.0, n.0, n.1)

-- what each of the four streams of a range passes, the stream of each kind does
pub all_passed : (test : Stream → Bool) (streams : Streams) (range : ℕ) (kind : StreamKind) (x : Stream) → all_pass test streams range ≡ true →
    streams range (kind_number kind) ≡ Some x → test x ≡ true
all_passed test streams range kind x t is =
    let four = four_pass (passes test (streams range 0)) (passes test (streams range 1)) (passes test (streams range 2)) (passes test (streams range 3)) t in
    by_kind kind four is
  where
    by_kind : (kind : StreamKind) → (passes test (streams range 0) ≡ true) × (passes test (streams range 1) ≡ true)
        × (passes test (streams range 2) ≡ true) × (passes test (streams range 3) ≡ true) →
        streams range (kind_number kind) ≡ Some x → test x ≡ true
    by_kind Metadata four is = passed_by test (streams range 0) x four.0 is
    by_kind Log four is = passed_by test (streams range 1) x four.1 is
    by_kind RowData four is = passed_by test (streams range 2) x four.2 is
    by_kind BlobData four is = passed_by test (streams range 3) x four.3 is

fenced_rises : (generation : ℕ) (o : Option Stream) (x : Stream) → o ≡ Some x → x.fence ≤ generation → Risen x (fenced_at generation o)
fenced_rises generation None x is low = absurd cc
fenced_rises generation (Some y) x is low = record { now = record y { fence = generation }; is = refl; fence = low }

open_onward : (b : Catalog) (p : Packet) (range generation : ℕ) (q : ReqNo) (x : Option Refusal) → open_refusal b p range generation ≡ x →
    Onward b (or_refused b Manager p q x (open_taken b p range generation q)).after
open_onward b p range generation q (Some refusal) is = onward_refl b
open_onward b p range generation q None is =
    let above = not-false _ (none_met (open_tests b p range generation) is).1.1.0 in
    record {
      rises = λ s x there. if_elim (Risen x) (s.range == range) (fenced_at generation (b.stream s.range (kind_number s.kind))) (b.stream s.range (kind_number s.kind))
          (λ t.
          let r = eqb-true s.range range t in
          let low = ltb-true x.fence generation (all_passed (λ y. nat_lt y.fence generation) b.stream range s.kind x above (rw (← r) there)) in
          fenced_rises generation _ x there (omega (arith, low)))
          (λ t. same_stream _ x there);
      makes = λ e x gone there. absurd cc;
    }

-- ---- Extend

behind_fence : (sealed : ℕ → Option ℕ) (o : Option Stream) (generation : ℕ) (last : Option ℕ) (found : Option ℕ) →
    extending sealed o generation last ≡ Ok found → (x : Stream) × (o ≡ Some x) × (generation ≡ x.fence)
behind_fence sealed None generation last found is = absurd cc
behind_fence sealed (Some x) generation last found is =
    if_elim (λ y. y ≡ Ok found → (z : Stream) × (Some x ≡ Some z) × (generation ≡ z.fence)) (generation == x.fence)
    (behind sealed (last_of x.extents) last) (Err Stale)
    (λ t k. (x, refl, eqb-true generation x.fence t)) (λ t k. absurd cc) is

module _ (b : Catalog) (s : StreamName) (generation : ℕ) (pick : Nodes) (x : Stream) (there : stream_of b.stream s ≡ Some x) (fence : generation ≡ x.fence) where
  longer_is : extended_streams b.stream s (suc b.count) ≡ with_stream b.stream s (longer (suc b.count) x)
  longer_is = ap (λ o. extended_if b.stream s (suc b.count) o) there

  extended_onward : Onward b (extended b s generation pick)
  extended_onward = record {
    rises = λ t y is. rw longer_is (with_rises b.stream s (longer (suc b.count) x) (λ z here. let c : x ≡ z = cc in omega (arith, ap (λ (v : Stream). v.fence) c)) t y is);
    makes = λ e y gone. changed_elim (λ o. o ≡ Some y → MadeIn b (extended b s generation pick) e y) (suc b.count) (Some (new_extent pick generation)) b.extent e
        (λ q is. let c : new_extent pick generation ≡ y = cc in record {
          name = s;
          stream = x;
          there = there;
          fence = rw (← c) fence;
          last = rw (longer_is, q) (with_here b.stream s (longer (suc b.count) x));
        })
        (λ q is. absurd cc);
  }

answered_onward : (b : Catalog) (p : Packet) (s : StreamName) (generation : ℕ) (last : Option ℕ) (pick : Nodes) (q : ReqNo) (x : Result (Option ℕ) Refusal) →
    extending (sealed_lengths b) (stream_of b.stream s) generation last ≡ x → Onward b (extend_answered b p s generation pick q x).after
answered_onward b p s generation last pick q (Err refusal) is = onward_refl b
answered_onward b p s generation last pick q (Ok None) is =
    let (x, there, fence) = behind_fence (sealed_lengths b) (stream_of b.stream s) generation last None is in
    if_elim (λ (o : Outcome Catalog). Onward b o.after) (is_pick b.nodes pick) (extend_made b p s generation pick q) (refused b Manager p q BadPick)
    (λ t. extended_onward b s generation pick x there fence) (λ t. onward_refl b)
answered_onward b p s generation last pick q (Ok (Some e)) is = told_onward (b.extent e)
  where
    told_onward : (o : Option Extent) → Onward b (last_told b p e o q).after
    told_onward None = onward_refl b
    told_onward (Some x) = onward_refl b

extend_onward : (b : Catalog) (p : Packet) (s : StreamName) (generation : ℕ) (last : Option ℕ) (pick : Nodes) (q : ReqNo) → Onward b (extend_rule b p s generation last pick q).after
extend_onward b p s generation last pick q =
    if_elim (λ (o : Outcome Catalog). Onward b o.after) (is_foreign p.from s.range) (refused b Manager p q Stale)
    (extend_answered b p s generation pick q (extending (sealed_lengths b) (stream_of b.stream s) generation last))
    (λ t. onward_refl b) (λ t. answered_onward b p s generation last pick q (extending (sealed_lengths b) (stream_of b.stream s) generation last) refl)

-- ---- Trim

trimmed_onward : (b : Catalog) (range generation before : ℕ) (to_blob : Bool) → Trims b.stream range generation before → Onward b (with_streams b (trimmed b.stream range before to_blob))
trimmed_onward b range generation before to_blob t = record {
  rises = λ s x is.
      let one = with_rises b.stream (log_name range) (shorter before t.log) (λ y there. let c : y ≡ t.log = (let d : Some y ≡ Some t.log = sym there ∙ t.log_is in cc) in omega (arith, ap (λ (v : Stream). v.fence) c)) s x is in
      let two = with_rises (with_stream b.stream (log_name range) (shorter before t.log)) (blob_data_name range) (kept_in before to_blob t.log t.blob_data) (λ y there. same_fence y there) s one.now one.is in
      rw (trimmed_is to_blob t) (record { now = two.now; is = two.is; fence = omega (arith, one.fence, two.fence) });
  makes = λ e x none there. absurd cc;
}
  where
    -- whatever it gains, its fence stays
    blob_fence : (kept_in before to_blob t.log t.blob_data).fence ≡ t.blob_data.fence
    blob_fence = if_elim (λ (v : Stream). v.fence ≡ t.blob_data.fence) to_blob (with_extents (leaving before t.log) t.blob_data) t.blob_data (λ k. refl) (λ k. refl)

    same_fence : (y : Stream) → stream_of (with_stream b.stream (log_name range) (shorter before t.log)) (blob_data_name range) ≡ Some y → y.fence ≤ (kept_in before to_blob t.log t.blob_data).fence
    same_fence y there =
        let old : stream_of (with_stream b.stream (log_name range) (shorter before t.log)) (blob_data_name range) ≡ Some t.blob_data = other_kind b.stream range (shorter before t.log) ∙ t.blob_data_is in
        let c : y ≡ t.blob_data = (let d : Some y ≡ Some t.blob_data = sym there ∙ old in cc) in
        omega (arith, blob_fence, ap (λ (v : Stream). v.fence) c)

trim_onward : (b : Catalog) (p : Packet) (range generation before : ℕ) (to_blob : Bool) (q : ReqNo) → Onward b (trim_rule b p range generation before to_blob q).after
trim_onward b p range generation before to_blob q =
    if_elim (λ (o : Outcome Catalog). Onward b o.after) (is_user p.from) (refused b Manager p q Stale) (trim_answered b p range before to_blob q (trimming b.stream range generation before))
    (λ t. onward_refl b) (λ f. by_answer (trimming b.stream range generation before) refl)
  where
    by_answer : (x : Result Bool Refusal) → trimming b.stream range generation before ≡ x → Onward b (trim_answered b p range before to_blob q x).after
    by_answer (Err refusal) is = onward_refl b
    by_answer (Ok false) is = onward_refl b
    by_answer (Ok true) is = trimmed_onward b range generation before to_blob (trims b.stream range generation before is)

-- ---- MultiModify

modify_onward : (b : Catalog) (p : Packet) (list : List Modify) (q : ReqNo) (x : Option Refusal) → modify_refusal b p list ≡ x → Onward b (or_refused b Manager p q x (modify_taken b p list q)).after
modify_onward b p list q (Some refusal) is = onward_refl b
modify_onward b p list q None is = record {
  rises = λ s x there. same_stream _ x (modified_keeps (sealed_lengths b) list b.stream (builds_of b p list is).1 s x there);
  makes = λ e x none there. absurd cc;
}

-- ---- the other rules

confirm_onward : (b : Catalog) (p : Packet) (q : ReqNo) (x : Option Refusal) → Onward b (or_refused b Manager p q x (answer b p (Confirmed q))).after
confirm_onward b p q (Some refusal) = onward_refl b
confirm_onward b p q None = onward_refl b

stream_onward : (b : Catalog) (p : Packet) (body : StreamBody) → Onward b (stream_body_rule b p body).after
stream_onward b p (CreateStream s fence q) = create_onward b p s (generation_of p.from fence) q (create_refusal b p s) refl
stream_onward b p (OpenStreams range generation q) = open_onward b p range generation q (open_refusal b p range generation) refl
stream_onward b p (Confirm range generation q) = confirm_onward b p q (confirm_refusal b p range generation)
stream_onward b p (Extend s generation last pick q) = extend_onward b p s (generation_of p.from generation) last pick q
stream_onward b p (Trim range generation before to_blob q) = trim_onward b p range generation before to_blob q
stream_onward b p (MultiModify list q) = modify_onward b p list q (modify_refusal b p list) refl
stream_onward b p body = onward_refl b

reported_onward : (b : Catalog) (e : ℕ) (from : ActorId) (news : PlaceReport → PlaceReport) (x : Extent) → b.extent e ≡ Some x →
    Onward b (noted b e (with_report x from news)).after
reported_onward b e from news x is =
    if_elim (λ o. Onward b (noted b e o).after) (is_node x.places.primary from) (Some (record x { primary = news x.primary })) _
    (λ t. onward_extent b e x _ is)
    (λ _. if_elim (λ o. Onward b (noted b e o).after) (is_node x.places.second from) (Some (record x { second = news x.second })) _
    (λ t. onward_extent b e x _ is)
    (λ _. if_elim (λ o. Onward b (noted b e o).after) (is_node x.places.third from) (Some (record x { third = news x.third })) None
    (λ t. onward_extent b e x _ is) (λ _. onward_refl b)))

seal_extent_onward : (b : Catalog) (p : Packet) (e : ℕ) (q : ReqNo) (o : Option Extent) → b.extent e ≡ o → Onward b (seal_extent_rule b p e q o).after
seal_extent_onward b p e q None is = onward_refl b
seal_extent_onward b p e q (Some x) is = by_length x.sealed
  where
    by_length : (o : Option ℕ) → Onward b (seal_asked b p e q x o).after
    by_length None = onward_extent b e x _ is
    by_length (Some l) = onward_refl b

frozen_onward : (b : Catalog) (p : Packet) (e l : ℕ) (o : Option Extent) → b.extent e ≡ o → Onward b (frozen_rule b p e l o).after
frozen_onward b p e l None is = onward_refl b
frozen_onward b p e l (Some x) is =
    if_elim (λ (o : Outcome Catalog). Onward b o.after) (is_there x.sealed) (silent b) (noted b e (with_report x p.from (frozen_to l)))
    (λ t. onward_refl b) (λ f. reported_onward b e p.from (frozen_to l) x is)

is_sealed_onward : (b : Catalog) (p : Packet) (e : ℕ) (o : Option Extent) → b.extent e ≡ o → Onward b (is_sealed_rule b p e o).after
is_sealed_onward b p e None is = onward_refl b
is_sealed_onward b p e (Some x) is = reported_onward b e p.from known_sealed x is

asks_onward : (b : Catalog) (e l : ℕ) (to n : Option ℕ) → Onward b (asks_tail b e l to n).after
asks_onward b e l (Some to) (Some n) = onward_refl b
asks_onward b e l (Some to) None = onward_refl b
asks_onward b e l None (Some n) = onward_refl b
asks_onward b e l None None = onward_refl b

short_onward : (b : Catalog) (p : Packet) (e l : ℕ) (o : Option Extent) → Onward b (short_rule b p e l o).after
short_onward b p e l None = onward_refl b
short_onward b p e l (Some x) =
    if_elim (λ (o : Outcome Catalog). Onward b o.after) (is_there x.sealed) (asks_tail b e l (place_of x.places p.from) (first_sealed x)) (silent b)
    (λ t. asks_onward b e l (place_of x.places p.from) (first_sealed x)) (λ f. onward_refl b)

seal_onward : (b : Catalog) (p : Packet) (body : SealBody) → Onward b (seal_body_rule b p body).after
seal_onward b p (SealExtent e q) = seal_extent_onward b p e q (b.extent e) refl
seal_onward b p (Frozen e l) = frozen_onward b p e l (b.extent e) refl
seal_onward b p (IsSealed e) = is_sealed_onward b p e (b.extent e) refl
seal_onward b p (Short e l) = short_onward b p e l (b.extent e)
seal_onward b p body = onward_refl b

rule_onward : (b : Catalog) (p : Packet) (body : Body) → Onward b (manager_rule b p body).after
rule_onward b p (bodies.Stream body) = stream_onward b p body
rule_onward b p (bodies.Seal body) = seal_onward b p body
rule_onward b p body = onward_refl b

decide_onward : (b : Catalog) (e : ℕ) (o : Option Extent) → b.extent e ≡ o → Onward b (decide_rule b e o).after
decide_onward b e None is = onward_refl b
decide_onward b e (Some x) is =
    if_elim (λ (o : Outcome Catalog). Onward b o.after) (is_there x.sealed) (sends b (reminders b e x)) (decided_if b e x (least_told x))
    (λ t. onward_refl b) (λ f. by_least (least_told x))
  where
    by_least : (o : Option ℕ) → Onward b (decided_if b e x o).after
    by_least None = onward_refl b
    by_least (Some l) = onward_extent b e x _ is

-- ---- moves

-- what a stop leaves of a later catalog
stopped_onward : (b c : Catalog) → Onward b c → Onward b (catalog_stopped c)
stopped_onward b c a = record { rises = a.rises; makes = λ e x none is. by_extent e (c.extent e) refl x none is }
  where
    by_extent : (e : ℕ) (o : Option Extent) → c.extent e ≡ o → (x : Extent) → b.extent e ≡ None → forgotten_if o ≡ Some x → MadeIn b (catalog_stopped c) e x
    by_extent e None there x none is = absurd cc
    by_extent e (Some y) there x none is =
        let m = a.makes e y none there in
        let same : y.fence ≡ x.fence = cc in
        record { name = m.name; stream = m.stream; there = m.there; fence = sym same ∙ m.fence; last = m.last }

abbrev Goes : StreamSystem → StreamSystem → Type 0
Goes w v = Onward w.catalog v.catalog

manager_goes : (w : StreamSystem) (o : Outcome Catalog) → Onward w.catalog o.after → Goes w (manager_performs w o)
manager_goes w o a =
    if_elim (Goes w) (stops_in w.manager_cell o.written) _ _
    (λ s. if_elim (Goes w) (stands_in w.manager_cell) _ _ (λ t. stopped_onward w.catalog o.after a) (λ f. stopped_onward w.catalog w.catalog (onward_refl w.catalog)))
    (λ r. a)

node_goes : (w : StreamSystem) (n : ℕ) (p : Packet) → Goes w (node_takes w n p)
node_goes w n p =
    let e = extent_of p.body in
    let o = node_rule n (w.replica n e) p p.body in
    if_elim (Goes w) (w.cell n).up (node_performs w n e o) w
    (λ t. if_elim (Goes w) (stops_in (w.cell n) o.written) _ _
    (λ s. if_elim (Goes w) (stands_in (w.cell n)) _ _ (λ _. onward_refl w.catalog) (λ _. onward_refl w.catalog))
    (λ r. onward_refl w.catalog))
    (λ f. onward_refl w.catalog)

delivered_goes : (w : StreamSystem) (p : Packet) (to : ActorId) → Goes w (delivered w p to)
delivered_goes w p (Node n) = node_goes w n p
delivered_goes w p Manager =
    if_elim (Goes w) w.manager_cell.up (manager_performs w (manager_rule w.catalog p p.body)) w
    (λ t. manager_goes w (manager_rule w.catalog p p.body) (rule_onward w.catalog p p.body)) (λ f. onward_refl w.catalog)
delivered_goes w p Map = onward_refl w.catalog
delivered_goes w p (Server s) = onward_refl w.catalog
delivered_goes w p (User u) = onward_refl w.catalog

delivered_if_goes : (w : StreamSystem) (o : Option Packet) → Goes w (delivered_if w o)
delivered_if_goes w None = onward_refl w.catalog
delivered_if_goes w (Some p) = delivered_goes w p p.to

stop_goes : (w : StreamSystem) (actor : ActorId) (call : ℕ) (keep : Bool) → Goes w (stop w actor call keep)
stop_goes w (Node n) call keep =
    if_elim (Goes w) (w.cell n).up (node_stops w n call keep) w
    (λ t. if_elim (Goes w) (call == 0) (node_halted w n) _ (λ _. onward_refl w.catalog) (λ _. onward_refl w.catalog)) (λ f. onward_refl w.catalog)
stop_goes w Manager call keep =
    if_elim (Goes w) w.manager_cell.up (manager_stops w call keep) w
    (λ t. if_elim (Goes w) (call == 0) (manager_halted w) _ (λ _. stopped_onward w.catalog w.catalog (onward_refl w.catalog)) (λ _. onward_refl w.catalog)) (λ f. onward_refl w.catalog)
stop_goes w Map call keep = onward_refl w.catalog
stop_goes w (Server s) call keep = onward_refl w.catalog
stop_goes w (User u) call keep = onward_refl w.catalog

restart_goes : (w : StreamSystem) (actor : ActorId) → Goes w (restart w actor)
restart_goes w (Node n) = if_elim (Goes w) ((w.cell n).up || not (is_present w n)) w _ (λ _. onward_refl w.catalog) (λ _. onward_refl w.catalog)
restart_goes w Manager = if_elim (Goes w) w.manager_cell.up w _ (λ _. onward_refl w.catalog) (λ _. onward_refl w.catalog)
restart_goes w Map = onward_refl w.catalog
restart_goes w (Server s) = onward_refl w.catalog
restart_goes w (User u) = onward_refl w.catalog

happens_goes : (w : StreamSystem) (event : Event) → Goes w (happens w event)
happens_goes w (Submit user to body) = if_elim (Goes w) (is_request body) _ w (λ _. onward_refl w.catalog) (λ _. onward_refl w.catalog)
happens_goes w (Deliver number) = delivered_if_goes w (slice_get w.post number)
happens_goes w (Stop actor call keep) = stop_goes w actor call keep
happens_goes w (Restart actor) = restart_goes w actor
happens_goes w (Decide e) =
    if_elim (Goes w) w.manager_cell.up (manager_performs w (decide_rule w.catalog e (w.catalog.extent e))) w
    (λ t. manager_goes w (decide_rule w.catalog e (w.catalog.extent e)) (decide_onward w.catalog e (w.catalog.extent e) refl)) (λ f. onward_refl w.catalog)
happens_goes w (GiveUp server range pick) = onward_refl w.catalog
happens_goes w (Assign range server until) = onward_refl w.catalog
happens_goes w (Renew range server until) = onward_refl w.catalog
happens_goes w (events.Moment now) = onward_refl w.catalog
happens_goes w (Checkpoint server range combine) = onward_refl w.catalog
happens_goes w (Split server range key) = onward_refl w.catalog
happens_goes w (Merge server left right) = onward_refl w.catalog

moved_goes : (w : StreamSystem) (move : Move) → Goes w (moved w move)
moved_goes w (Happens event) = happens_goes w event
moved_goes w (Asks server to body) = if_elim (Goes w) (is_server_call body) _ w (λ _. onward_refl w.catalog) (λ _. onward_refl w.catalog)
moved_goes w (Says from to body) = if_elim (Goes w) (is_told body) _ w (λ _. onward_refl w.catalog) (λ _. onward_refl w.catalog)
moved_goes w (Observes note) = if_elim (Goes w) (is_table_note note) _ w (λ _. onward_refl w.catalog) (λ _. onward_refl w.catalog)

-- ---- runs

rises_trans : (u w v : StreamSystem) → FencesRise u w → FencesRise w v → FencesRise u v
rises_trans u w v a b s x is =
    let m = a s x is in
    let k = b s m.now m.is in
    record { now = k.now; is = k.is; fence = omega (arith, m.fence, k.fence) }

pub run_rises : (moves : List Move) (w : StreamSystem) → FencesRise w (run_moves moves w)
run_rises [] w = λ s x is. same_stream _ x is
run_rises (move ∷ moves) w = rises_trans w (moved w move) (run_moves moves (moved w move)) (moved_goes w move).rises (run_rises moves (moved w move))

pub run_more : (moves more : List Move) (w : StreamSystem) → run_moves (moves ++ more) w ≡ run_moves more (run_moves moves w)
run_more [] more w = refl
run_more (move ∷ moves) more w = run_more moves more (moved w move)

pub rises_on : (moves more : List Move) (w : StreamSystem) → FencesRise (run_moves moves w) (run_moves (moves ++ more) w)
rises_on moves more w = rw (run_more moves more w) (run_rises more (run_moves moves w))

pub made_with_fences : (w : StreamSystem) (move : Move) → MadeWithFences w (moved w move)
made_with_fences w move e x none is =
    let m = (moved_goes w move).makes e x none is in
    record { name = m.name; stream = m.stream; there = m.there; fence = m.fence; last = m.last }
