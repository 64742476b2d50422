-- What a rule of the manager's table leaves of the lists of extents.
use Rattle.std.specs.Prelude.{max}
use Rattle.std.proofs.Common.{◌≡◌, ◌≢◌, ◌⊎◌, ℕ, suc, ◌≤◌, Bool, true, false, ◌==◌, List, [], ◌∷◌, ◌++◌, Option, Some, None, Result, Ok, Err, slice_get, Contains, refl, sym, ap, ◌∙◌, inl, inr, arith, subst}
use Rattle.block_types.specs.declared.record.Nodes.{Nodes}
use Rattle.wire.specs.declared.actor.ActorId.{ActorId}
use Rattle.wire.specs.declared.actor.ActorId.TheVariants.{Manager}
use Rattle.wire.specs.declared.actor.ReqNo.{ReqNo}
use Rattle.wire.specs.declared.body.SealBody.{SealBody}
use Rattle.wire.specs.declared.body.SealBody.TheVariants.{SealExtent, Frozen, IsSealed, Short}
use Rattle.wire.specs.declared.body.StreamBody.{StreamBody}
use Rattle.wire.specs.declared.body.StreamBody.TheVariants.{CreateStream, OpenStreams, Confirm, Confirmed, Extend, Trim, MultiModify}
use Rattle.wire.specs.declared.body.Body.{Body}
use Rattle.wire.specs.declared.body.Body.TheVariants as bodies
use Rattle.wire.specs.declared.packet.Packet.{Packet}
use Rattle.wire.specs.declared.refusal.Refusal.{Refusal}
use Rattle.wire.specs.declared.refusal.Refusal.TheVariants.{Stale, BadPick}
use Rattle.wire.specs.declared.streams.Modify.{Modify}
use Rattle.wire.specs.declared.streams.Source.{Source}
use Rattle.wire.specs.declared.streams.StreamKind.{StreamKind}
use Rattle.wire.specs.declared.streams.StreamKind.TheVariants.{Metadata, Log, BlobData}
use Rattle.wire.specs.declared.streams.StreamName.{StreamName}
use Rattle.streams.specs.Streams.{Stream, Streams, whole, empty_stream, stream_of, with_stream, fenced_at, extending, last_of, longer, extended_if, extended as extended_streams, shorter, leaving, with_extents, log_name, blob_data_name, joined, built, modified, trimmed, trimming}
use Rattle.model_streams.specs.declared.extent.Extent.{Extent}
use Rattle.model_streams.specs.declared.extent.PlaceReport.{PlaceReport}
use Rattle.model_streams.specs.Actors.{is_node, is_user, generation_of}
use Rattle.model_streams.specs.Manager.{Catalog, is_there, new_extent, with_extent, extended, create_tests, create_refusal, create_taken, open_refusal, open_taken, confirm_refusal, answer, is_foreign, is_pick, sealed_lengths, extend_made, last_told, extend_answered, extend_rule, with_streams, trim_answered, trim_rule, modify_refusal, modify_taken, seal_asked, seal_extent_rule, with_report, noted, frozen_to, frozen_rule, known_sealed, is_sealed_rule, place_of, first_sealed, asks_tail, short_rule, sealed_to, decided_if, least_told, decide_rule, stream_body_rule, seal_body_rule, manager_rule, reminders}
use Rattle.model_streams.specs.StreamSystem.{are_of_one_kind}
use Rattle.model_streams.specs.Outcome.{Outcome, silent, sends, refused, or_refused}
use Rattle.model_streams.proofs.Tests.{if_elim, none_met}
use Rattle.laws_streams.specs.Origins.{Begins}
use Rattle.laws_streams.specs.Answers.{MayGrow}
use Rattle.laws_streams.specs.Listings.{Longer, AreUnjoined}
use Rattle.laws_streams.proofs.Lists.{begins_refl, begins_push}
use Rattle.laws_streams.proofs.WholeLists.{whole_longer}
use Rattle.laws_streams.proofs.TrimTests.{Trims, trims, kept_in, trimmed_elim, shorter_whole, shorter_gone, shorter_ends, left_at, with_extents_whole}
use Rattle.laws_streams.proofs.BuildTests.{IsOfOneKind, entries_of, Joins, Builds, all_built, built_keeps, joined_stands, joined_alone, joined_gone, joined_empty, builds_of}
use Rattle.laws_streams.proofs.StreamNames.{with_stream_elim}
use Rattle.laws_streams.proofs.BuildRequests.{ServersAsk}
use Rattle.laws_streams.proofs.Choices.{changed_elim, changed-same, Each, each-contains}
use Rattle.laws_streams.proofs.RisingFences.{not_there, no_fault}
use Rattle.laws_streams.proofs.StreamAnswers.{found_end, may_grow}

max_none : (n : ℕ) → max n 0 ≡ n
max_none n = omega arith

-- ---- catalogs

-- the extent is there, and sealed where it was
pub record Kept (y : Extent) (found : Option Extent) : Type 0 where
  pub now : Extent
  pub is : found ≡ Some now
  pub sealed : (l : ℕ) → y.sealed ≡ Some l → now.sealed ≡ Some l

-- a list with the extents that it had; a log may have lost some at its front, but never the last one
pub record Old (b : Catalog) (s : StreamName) (z : Stream) : Type 0 where
  pub was : Stream
  pub there : stream_of b.stream s ≡ Some was
  pub same : whole z ≡ whole was
  pub gone : s.kind ≢ Log → z.gone ≡ was.gone
  pub ends : (was.extents ≡ [] → was.gone ≡ []) → z.extents ≡ [] → z.gone ≡ []

-- a list that gained the next extent
pub record Grown (b : Catalog) (extent : ℕ → Option Extent) (s : StreamName) (z : Stream) : Type 0 where
  pub was : Stream
  pub there : stream_of b.stream s ≡ Some was
  pub gone : z.gone ≡ was.gone
  pub extents : z.extents ≡ was.extents ++ suc b.count ∷ []
  pub last : Option ℕ
  pub may : MayGrow b was last
  pub new : Extent
  pub made : extent (suc b.count) ≡ Some new

-- an extent that stands in a log, with one more behind it
pub record Leaves (b : Catalog) (e : ℕ) : Type 0 where
  pub range : ℕ
  pub log : Stream
  pub there : stream_of b.stream (log_name range) ≡ Some log
  pub index : ℕ
  pub next : ℕ
  pub at : slice_get (whole log) index ≡ Some e
  pub behind : slice_get (whole log) (suc index) ≡ Some next

-- a blob stream that gained extents that left a log
pub record Gathered (b : Catalog) (s : StreamName) (z : Stream) : Type 0 where
  pub kind : s.kind ≡ BlobData
  pub was : Stream
  pub there : stream_of b.stream s ≡ Some was
  pub gone : z.gone ≡ was.gone
  pub left : List ℕ
  pub extents : z.extents ≡ was.extents ++ left
  pub leaves : (i e : ℕ) → slice_get left i ≡ Some e → Leaves b e

pub gathered_whole : {b : Catalog} {s : StreamName} {z : Stream} (g : Gathered b s z) → whole z ≡ whole g.was ++ g.left
gathered_whole g = rw (g.gone, g.extents) (with_extents_whole g.left g.was)

pub grown_whole : {b : Catalog} {extent : ℕ → Option Extent} {s : StreamName} {z : Stream} (g : Grown b extent s z) → whole z ≡ whole g.was ++ suc b.count ∷ []
grown_whole {b} g = rw (g.gone, g.extents) (whole_longer (suc b.count) g.was)

-- an extent that stands in a list of this kind; where it is the last one there it is sealed
pub record StandsIn (b : Catalog) (kind : StreamKind) (e : ℕ) : Type 0 where
  pub name : StreamName
  pub kind_is : name.kind ≡ kind
  pub list : Stream
  pub there : stream_of b.stream name ≡ Some list
  pub index : ℕ
  pub at : slice_get (whole list) index ≡ Some e
  pub last : last_of list.extents ≡ Some e → (length : ℕ) × (sealed_lengths b e ≡ Some length)

-- a list that begins where one of this kind does, and is empty only where that one is
pub record BeginsAs (b : Catalog) (kind : StreamKind) (z : Stream) : Type 0 where
  pub name : StreamName
  pub kind_is : name.kind ≡ kind
  pub list : Stream
  pub there : stream_of b.stream name ≡ Some list
  pub gone : z.gone ≡ list.gone
  pub ends : z.extents ≡ [] → list.extents ≡ []

-- a list that is the same as one of this kind, which is one of these
pub record IsSameAs (b : Catalog) (among : StreamName → Bool) (kind : StreamKind) (z : Stream) : Type 0 where
  pub name : StreamName
  pub inside : among name ≡ true
  pub kind_is : name.kind ≡ kind
  pub list : Stream
  pub there : stream_of b.stream name ≡ Some list
  pub same : whole z ≡ whole list

-- a list that is the same as that of this source, with its fence, while its last extent is sealed
pub record IsBuiltOf (b : Catalog) (source : StreamName) (z : Stream) : Type 0 where
  pub list : Stream
  pub there : stream_of b.stream source ≡ Some list
  pub same : whole z ≡ whole list
  pub fence : z.fence ≡ list.fence
  pub closed : (e : ℕ) → last_of list.extents ≡ Some e → (length : ℕ) × (sealed_lengths b e ≡ Some length)

-- a MultiModify that was sent builds the stream
pub record BuildsStream (post : List Packet) (s : StreamName) : Type 0 where
  pub packet : Packet
  pub list : List Modify
  pub request : ReqNo
  pub sent : Contains post packet
  pub body : packet.body ≡ bodies.Stream (MultiModify list request)
  pub entry : Modify
  pub among : Contains list entry
  pub name : entry.stream ≡ s

-- a stream that is new, with the lists of others of its kind
pub record Built (post : List Packet) (b : Catalog) (s : StreamName) (z : Stream) : Type 0 where
  pub absent : stream_of b.stream s ≡ None
  pub asked : BuildsStream post s
  pub stands : (i e : ℕ) → slice_get (whole z) i ≡ Some e → StandsIn b s.kind e
  pub begins : (z.gone ≡ []) ⊎ BeginsAs b s.kind z
  pub alike : (among : StreamName → Bool) → AreUnjoined post among → among s ≡ true → IsSameAs b among s.kind z
  -- built of one source alone, which was there
  pub alone : (source : Source) → asked.entry.sources ≡ source ∷ [] → (x : Stream) → stream_of b.stream source.stream ≡ Some x → IsBuiltOf b source.stream z

-- what a list comes from: it was there, is empty, gained the next extent, or what left a log, or was built
abbrev pub ListFrom : List Packet → Catalog → (ℕ → Option Extent) → StreamName → StreamName → Stream → Type 0
ListFrom post b extent name s z = Old b s z ⊎ (((z.gone ≡ []) × (z.extents ≡ [])) ⊎ (((s ≡ name) × Grown b extent s z) ⊎ (Gathered b s z ⊎ Built post b s z)))

-- no list is new but empty ones
abbrev pub BringsEmpty : Catalog → Catalog → Type 0
BringsEmpty b c = (s : StreamName) (z : Stream) → stream_of b.stream s ≡ None → stream_of c.stream s ≡ Some z → whole z ≡ []

-- all streams that were there stay as they are
abbrev pub KeepsAll : Catalog → Catalog → Type 0
KeepsAll b c = (s : StreamName) (x : Stream) → stream_of b.stream s ≡ Some x → stream_of c.stream s ≡ Some x

-- from b to c lists and extents are kept, at most the list of this name gains an extent, and lists are built as was asked
pub record Goes (post : List Packet) (b c : Catalog) : Type 0 where
  pub name : StreamName
  pub kept : (e : ℕ) (y : Extent) → b.extent e ≡ Some y → Kept y (c.extent e)
  pub grows : (s : StreamName) (x : Stream) → stream_of b.stream s ≡ Some x → Longer x (stream_of c.stream s)
  pub lists : (s : StreamName) (z : Stream) → stream_of c.stream s ≡ Some z → ListFrom post b c.extent name s z
  pub count : b.count ≤ c.count
  pub numbered : (e : ℕ) (y : Extent) → c.extent e ≡ Some y → ((x : Extent) × (b.extent e ≡ Some x)) ⊎ (e ≤ c.count)
  pub brings : BringsEmpty b c ⊎ KeepsAll b c

same_extent : (o : Option Extent) (y : Extent) → o ≡ Some y → Kept y o
same_extent o y is = record { now = y; is = is; sealed = λ l k. k }

same_list : (o : Option Stream) (x : Stream) → o ≡ Some x → Longer x o
same_list o x is = record { now = x; is = is; begins = begins_refl (whole x); gone = begins_refl x.gone }

old_list : (b : Catalog) (s : StreamName) (z : Stream) → stream_of b.stream s ≡ Some z → Old b s z
old_list b s z is = record { was = z; there = is; same = refl; gone = λ k. refl; ends = λ k. k }

-- any name
abbrev some_name : StreamName
some_name = record { range = 0; kind = Metadata }

module _ (post : List Packet) where
  pub goes_refl : (b : Catalog) → Goes post b b
  goes_refl b = record {
    name = some_name;
    kept = λ e y is. same_extent _ y is;
    grows = λ s x is. same_list _ x is;
    lists = λ s z is. inl (old_list b s z is);
    count = omega arith;
    numbered = λ e y is. inl (y, is);
    brings = inr (λ s x is. is);
  }

  goes_extent : (b : Catalog) (e : ℕ) (x y : Extent) → b.extent e ≡ Some x → ((l : ℕ) → x.sealed ≡ Some l → y.sealed ≡ Some l) → Goes post b (with_extent b e y)
  goes_extent b e x y there sealed = record {
    name = some_name;
    kept = λ k z is. changed_elim (Kept z) e (Some y) b.extent k
        (λ q. let c : z ≡ x = (let d : Some z ≡ Some x = sym is ∙ ap b.extent q ∙ there in cc) in
        record { now = y; is = refl; sealed = λ l h. sealed l (ap (λ (v : Extent). v.sealed) (sym c) ∙ h) })
        (λ q. same_extent _ z is);
    grows = λ s z is. same_list _ z is;
    lists = λ s z is. inl (old_list b s z is);
    count = omega arith;
    numbered = λ k z. changed_elim (λ o. o ≡ Some z → ((v : Extent) × (b.extent k ≡ Some v)) ⊎ (k ≤ b.count)) e (Some y) b.extent k
        (λ q is. inl (x, ap b.extent q ∙ there)) (λ q is. inl (z, is));
    brings = inr (λ s x is. is);
  }

  -- ---- rules about streams

  create_goes : (b : Catalog) (p : Packet) (s : StreamName) (fence : ℕ) (q : ReqNo) (x : Option Refusal) → create_refusal b p s ≡ x →
      Goes post b (or_refused b Manager p q x (create_taken b p s fence q)).after
  create_goes b p s fence q (Some refusal) is = goes_refl b
  create_goes b p s fence q None is =
      let none : stream_of b.stream s ≡ None = not_there _ (no_fault _ _ (none_met (create_tests b p s) is).1.0) in
      record {
        name = some_name;
        kept = λ e y there. same_extent _ y there;
        grows = λ t x there. with_stream_elim (Longer x) b.stream s (empty_stream fence) t
            (λ k. absurd (let c : None ≡ Some x = sym none ∙ ap (stream_of b.stream) (sym k) ∙ there in cc)) (same_list _ x there);
        lists = λ t z. with_stream_elim (λ o. o ≡ Some z → ListFrom post b b.extent some_name t z) b.stream s (empty_stream fence) t
            (λ k there. let c : empty_stream fence ≡ z = cc in inr (inl (ap (λ (v : Stream). v.gone) (sym c), ap (λ (v : Stream). v.extents) (sym c))))
            (λ there. inl (old_list b t z there));
        count = omega arith;
        numbered = λ e y there. inl (y, there);
        brings = inr (λ t x there. with_stream_elim (λ o. o ≡ Some x) b.stream s (empty_stream fence) t
            (λ k. absurd (let c : None ≡ Some x = sym none ∙ ap (stream_of b.stream) (sym k) ∙ there in cc)) there);
      }

  fenced_longer : (generation : ℕ) (o : Option Stream) (x : Stream) → o ≡ Some x → Longer x (fenced_at generation o)
  fenced_longer generation None x is = absurd cc
  fenced_longer generation (Some y) x is =
      let c : y ≡ x = cc in
      record { now = record y { fence = generation }; is = refl; begins = subst (λ (v : Stream). Begins (whole v) (whole y)) c (begins_refl (whole y)); gone = subst (λ (v : Stream). Begins v.gone y.gone) c (begins_refl y.gone) }

  fenced_old : (b : Catalog) (s : StreamName) (generation : ℕ) (o : Option Stream) (z : Stream) → stream_of b.stream s ≡ o → fenced_at generation o ≡ Some z → Old b s z
  fenced_old b s generation None z there is = absurd cc
  fenced_old b s generation (Some y) z there is =
      let c : record y { fence = generation } ≡ z = cc in
      record { was = y; there = there; same = ap whole (sym c); gone = λ k. ap (λ (v : Stream). v.gone) (sym c); ends = subst (λ (v : Stream). (y.extents ≡ [] → y.gone ≡ []) → v.extents ≡ [] → v.gone ≡ []) c (λ k. k) }

  open_goes : (b : Catalog) (p : Packet) (range generation : ℕ) (q : ReqNo) (x : Option Refusal) →
      Goes post b (or_refused b Manager p q x (open_taken b p range generation q)).after
  open_goes b p range generation q (Some refusal) = goes_refl b
  open_goes b p range generation q None = record {
    name = some_name;
    kept = λ e y there. same_extent _ y there;
    grows = λ s x there. if_elim (Longer x) (s.range == range) (fenced_at generation (stream_of b.stream s)) (stream_of b.stream s)
        (λ t. fenced_longer generation _ x there) (λ t. same_list _ x there);
    lists = λ s z. if_elim (λ o. o ≡ Some z → ListFrom post b b.extent some_name s z) (s.range == range) (fenced_at generation (stream_of b.stream s)) (stream_of b.stream s)
        (λ t is. inl (fenced_old b s generation (stream_of b.stream s) z refl is)) (λ t is. inl (old_list b s z is));
    count = omega arith;
    numbered = λ e y there. inl (y, there);
    brings = inl (λ s z none. if_elim (λ o. o ≡ Some z → whole z ≡ []) (s.range == range) (fenced_at generation (stream_of b.stream s)) (stream_of b.stream s)
        (λ t is. absurd (let c : None ≡ Some z = sym (ap (fenced_at generation) none) ∙ is in cc)) (λ t is. absurd (let c : None ≡ Some z = sym none ∙ is in cc)));
  }

  module _ (b : Catalog) (s : StreamName) (fence : ℕ) (pick : Nodes) (x : Stream) (there : stream_of b.stream s ≡ Some x) (last : Option ℕ) (may : MayGrow b x last)
      (fresh : b.extent (suc b.count) ≡ None) where
    longer_is : extended_streams b.stream s (suc b.count) ≡ with_stream b.stream s (longer (suc b.count) x)
    longer_is = ap (λ o. extended_if b.stream s (suc b.count) o) there

    extended_goes : Goes post b (extended b s fence pick)
    extended_goes = record {
      name = s;
      kept = λ e y is. changed_elim (Kept y) (suc b.count) (Some (new_extent pick fence)) b.extent e
          (λ q. absurd (let c : None ≡ Some y = sym fresh ∙ ap b.extent (sym q) ∙ is in cc)) (λ q. same_extent _ y is);
      grows = λ t y is. rw longer_is (with_stream_elim (Longer y) b.stream s (longer (suc b.count) x) t
          (λ k. let c : y ≡ x = (let d : Some y ≡ Some x = sym is ∙ ap (stream_of b.stream) k ∙ there in cc) in
          record { now = longer (suc b.count) x; is = refl; begins = subst (λ (v : Stream). Begins (whole v) (whole (longer (suc b.count) x))) (sym c) (subst (Begins (whole x)) (sym (whole_longer (suc b.count) x)) (begins_push (whole x) (suc b.count ∷ []))); gone = subst (λ (v : Stream). Begins v.gone x.gone) (sym c) (begins_refl x.gone) })
          (same_list _ y is));
      lists = λ t z. rw longer_is (with_stream_elim (λ o. o ≡ Some z → ListFrom post b (extended b s fence pick).extent s t z) b.stream s (longer (suc b.count) x) t
          (λ k is. let c : longer (suc b.count) x ≡ z = cc in inr (inr (inl (
            k,
            record {
              was = x;
              there = ap (stream_of b.stream) k ∙ there;
              gone = ap (λ (v : Stream). v.gone) (sym c);
              extents = ap (λ (v : Stream). v.extents) (sym c);
              last = last;
              may = may;
              new = new_extent pick fence;
              made = changed-same (suc b.count) (Some (new_extent pick fence)) b.extent;
            },
          ))))
          (λ is. inl (old_list b t z is)));
      count = omega arith;
      numbered = λ e y. changed_elim (λ o. o ≡ Some y → ((v : Extent) × (b.extent e ≡ Some v)) ⊎ (e ≤ suc b.count)) (suc b.count) (Some (new_extent pick fence)) b.extent e
          (λ q is. inr (omega (arith, q))) (λ q is. inl (y, is));
      brings = inl (λ t z none. rw longer_is (with_stream_elim (λ o. o ≡ Some z → whole z ≡ []) b.stream s (longer (suc b.count) x) t
          (λ k is. absurd (let c : None ≡ Some x = sym none ∙ ap (stream_of b.stream) k ∙ there in cc)) (λ is. absurd (let c : None ≡ Some z = sym none ∙ is in cc))));
    }

  -- the log and the blob stream of a range change where the log is trimmed
  module _ (b : Catalog) (range generation before : ℕ) (to_blob : Bool) (t : Trims b.stream range generation before) where
    abbrev log : Stream
    log = shorter before t.log

    abbrev blob_data : Stream
    blob_data = kept_in before to_blob t.log t.blob_data

    log_longer : (x : Stream) → Some x ≡ Some t.log → Longer x (Some log)
    log_longer x is =
        let c : x ≡ t.log = cc in
        record { now = log; is = refl; begins = subst (λ (v : Stream). Begins (whole v) (whole log)) (sym c) (subst (Begins (whole t.log)) (sym (shorter_whole before t.log)) (begins_refl (whole t.log))); gone = subst (λ (v : Stream). Begins v.gone log.gone) (sym c) (shorter_gone before t.log t.above) }

    blob_longer : (x : Stream) → Some x ≡ Some t.blob_data → Longer x (Some blob_data)
    blob_longer x is =
        let c : x ≡ t.blob_data = cc in
        record { now = blob_data; is = refl; begins = subst (λ (v : Stream). Begins (whole v) (whole blob_data)) (sym c) by_flag; gone = subst (λ (v : Stream). Begins v.gone blob_data.gone) (sym c) gone_same }
      where
        gone_same : Begins t.blob_data.gone blob_data.gone
        gone_same = if_elim (λ (v : Stream). Begins t.blob_data.gone v.gone) to_blob (with_extents (leaving before t.log) t.blob_data) t.blob_data
            (λ k. begins_refl t.blob_data.gone) (λ k. begins_refl t.blob_data.gone)

        by_flag : Begins (whole t.blob_data) (whole blob_data)
        by_flag = if_elim (λ (v : Stream). Begins (whole t.blob_data) (whole v)) to_blob (with_extents (leaving before t.log) t.blob_data) t.blob_data
            (λ k. subst (Begins (whole t.blob_data)) (sym (with_extents_whole (leaving before t.log) t.blob_data)) (begins_push (whole t.blob_data) (leaving before t.log)))
            (λ k. begins_refl (whole t.blob_data))

    log_old : Old b (log_name range) log
    log_old = record {
      was = t.log;
      there = t.log_is;
      same = shorter_whole before t.log;
      gone = λ k. absurd (k refl);
      ends = λ k none. absurd (shorter_ends before t.log t.below none);
    }

    blob_gathered : ListFrom post b b.extent some_name (blob_data_name range) blob_data
    blob_gathered = if_elim (ListFrom post b b.extent some_name (blob_data_name range)) to_blob (with_extents (leaving before t.log) t.blob_data) t.blob_data
        (λ k. inr (inr (inr (inl (record {
          kind = refl;
          was = t.blob_data;
          there = t.blob_data_is;
          gone = refl;
          left = leaving before t.log;
          extents = refl;
          leaves = λ i e is.
              let (index, next, at, behind) = left_at before t.log t.below i e is in
              record { range = range; log = t.log; there = t.log_is; index = index; next = next; at = at; behind = behind };
        })))))
        (λ k. inl (old_list b (blob_data_name range) t.blob_data t.blob_data_is))

    trimmed_goes : Goes post b (with_streams b (trimmed b.stream range before to_blob))
    trimmed_goes = record {
      name = some_name;
      kept = λ e y there. same_extent _ y there;
      grows = λ s x there. trimmed_elim b.stream range generation before to_blob t (Longer x) s
          (λ k. blob_longer x (sym there ∙ ap (stream_of b.stream) k ∙ t.blob_data_is))
          (λ k. log_longer x (sym there ∙ ap (stream_of b.stream) k ∙ t.log_is))
          (same_list _ x there);
      lists = λ s z. trimmed_elim b.stream range generation before to_blob t (λ o. o ≡ Some z → ListFrom post b b.extent some_name s z) s
          (λ k is. let c : blob_data ≡ z = cc in subst (λ n. ListFrom post b b.extent some_name n z) (sym k) (subst (ListFrom post b b.extent some_name (blob_data_name range)) c blob_gathered))
          (λ k is. let c : log ≡ z = cc in inl (subst (λ n. Old b n z) (sym k) (subst (Old b (log_name range)) c log_old)))
          (λ is. inl (old_list b s z is));
      count = omega arith;
      numbered = λ e y there. inl (y, there);
      brings = inl (λ s z none. trimmed_elim b.stream range generation before to_blob t (λ o. o ≡ Some z → whole z ≡ []) s
          (λ k is. absurd (let c : None ≡ Some t.blob_data = sym none ∙ ap (stream_of b.stream) k ∙ t.blob_data_is in cc))
          (λ k is. absurd (let c : None ≡ Some t.log = sym none ∙ ap (stream_of b.stream) k ∙ t.log_is in cc))
          (λ is. absurd (let c : None ≡ Some z = sym none ∙ is in cc)));
    }

  -- ---- MultiModify

  module _ (b : Catalog) (p : Packet) (list : List Modify) (q : ReqNo) (sent : Contains post p) (body : p.body ≡ bodies.Stream (MultiModify list q)) where
    -- from b to these streams those that are there are kept, and all others are built
    record BuiltFrom (streams : Streams) : Type 0 where
      kept : (s : StreamName) (x : Stream) → stream_of b.stream s ≡ Some x → stream_of streams s ≡ Some x
      lists : (s : StreamName) (z : Stream) → stream_of streams s ≡ Some z → (stream_of b.stream s ≡ Some z) ⊎ Built post b s z

    module _ (streams : Streams) (from : BuiltFrom streams) (m : Modify) (kinds : IsOfOneKind m) (among : Contains list m) (builds : Builds (sealed_lengths b) streams m) where
      absent : (o : Option Stream) → stream_of b.stream m.stream ≡ o → o ≡ None
      absent None is = refl
      absent (Some x) is = absurd (let c : None ≡ Some x = sym builds.absent ∙ from.kept m.stream x is in cc)

      joined_extent : (i e : ℕ) → slice_get (whole (joined streams m.sources)) i ≡ Some e → StandsIn b m.stream.kind e
      joined_extent i e at =
          let a = joined_stands (sealed_lengths b) streams m.sources builds.sources i e at in
          let kind = each-contains (λ s. s.stream.kind ≡ m.stream.kind) m.sources a.source kinds a.among in
          elim (from.lists a.source.stream a.joins.stream a.joins.there) [
            | inl was ↦ record { name = a.source.stream; kind_is = kind; list = a.joins.stream; there = was; index = a.index; at = a.at; last = a.joins.closed e }
            | inr new ↦ subst (λ k. StandsIn b k e) kind (new.stands a.index e a.at)
          ]

      joined_begins : (sources : List Source) → Each (Joins (sealed_lengths b) streams) sources → Each (λ s. s.stream.kind ≡ m.stream.kind) sources →
          ((joined streams sources).gone ≡ []) ⊎ BeginsAs b m.stream.kind (joined streams sources)
      joined_begins [] all same = inl refl
      joined_begins (s ∷ sources) all same =
          let first = joined_gone (sealed_lengths b) streams s sources all.0 in
          let empty = joined_empty (sealed_lengths b) streams s sources all.0 in
          elim (from.lists s.stream all.0.stream all.0.there) [
            | inl was ↦ inr (record { name = s.stream; kind_is = same.0; list = all.0.stream; there = was; gone = first; ends = empty })
            | inr new ↦ elim new.begins [
              | inl none ↦ inl (first ∙ none)
              | inr k ↦ inr (record { name = k.name; kind_is = k.kind_is ∙ same.0; list = k.list; there = k.there; gone = first ∙ k.gone; ends = λ none. k.ends (empty none) })
            ]
          ]

      joined_alike : (of : StreamName → Bool) → AreUnjoined post of → of m.stream ≡ true → IsSameAs b of m.stream.kind (joined streams m.sources)
      joined_alike of unjoined inside =
          let (source, one, within) = unjoined p list q m sent body among inside in
          subst (λ (xs : List Source). Each (Joins (sealed_lengths b) streams) xs → Each (λ s. s.stream.kind ≡ m.stream.kind) xs → IsSameAs b of m.stream.kind (joined streams xs)) (sym one)
          (λ all same.
          let alone = joined_alone (sealed_lengths b) streams source all.0 in
          elim (from.lists source.stream all.0.stream all.0.there) [
            | inl was ↦ record { name = source.stream; inside = within; kind_is = same.0; list = all.0.stream; there = was; same = alone }
            | inr new ↦
                let k = new.alike of unjoined within in
                record { name = k.name; inside = k.inside; kind_is = k.kind_is ∙ same.0; list = k.list; there = k.there; same = alone ∙ k.same }
          ])
          builds.sources kinds

      joined_of : (source : Source) → m.sources ≡ source ∷ [] → (x : Stream) → stream_of b.stream source.stream ≡ Some x → IsBuiltOf b source.stream (joined streams m.sources)
      joined_of source one x there =
          subst (λ (xs : List Source). Each (Joins (sealed_lengths b) streams) xs → IsBuiltOf b source.stream (joined streams xs)) (sym one)
          (λ all.
          let same : all.0.stream ≡ x = (let c : Some all.0.stream ≡ Some x = sym all.0.there ∙ from.kept source.stream x there in cc) in
          record {
            list = x;
            there = there;
            same = joined_alone (sealed_lengths b) streams source all.0 ∙ ap whole same;
            fence = max_none source.generation ∙ sym all.0.fence ∙ ap (λ (v : Stream). v.fence) same;
            closed = λ e is. all.0.closed e (ap (λ (v : Stream). last_of v.extents) same ∙ is);
          })
          builds.sources

      joined_built : Built post b m.stream (joined streams m.sources)
      joined_built = record {
        absent = absent (stream_of b.stream m.stream) refl;
        asked = record { packet = p; list = list; request = q; sent = sent; body = body; entry = m; among = among; name = refl };
        stands = joined_extent;
        begins = joined_begins m.sources builds.sources kinds;
        alike = joined_alike;
        alone = joined_of;
      }

      built_from : BuiltFrom (built streams m)
      built_from = record {
        kept = λ s x is. built_keeps (sealed_lengths b) streams m builds s x (from.kept s x is);
        lists = λ s z. with_stream_elim (λ o. o ≡ Some z → (stream_of b.stream s ≡ Some z) ⊎ Built post b s z) streams m.stream (joined streams m.sources) s
            (λ k is. let c : joined streams m.sources ≡ z = cc in inr (subst (λ n. Built post b n z) (sym k) (subst (Built post b m.stream) c joined_built))) (λ is. from.lists s z is);
      }

    modify_goes : are_of_one_kind list ≡ true → (x : Option Refusal) → modify_refusal b p list ≡ x → Goes post b (or_refused b Manager p q x (modify_taken b p list q)).after
    modify_goes kinds (Some refusal) is = goes_refl b
    modify_goes kinds None is =
        let from : BuiltFrom (modified b.stream list) = all_built (sealed_lengths b) BuiltFrom (λ m. IsOfOneKind m × Contains list m)
        (λ streams m each builds from. built_from streams from m each.0 each.1 builds) list b.stream (entries_of list kinds) (builds_of b p list is).1
        (record { kept = λ s x there. there; lists = λ s z there. inl there }) in
        record {
          name = some_name;
          kept = λ e y there. same_extent _ y there;
          grows = λ s x there. same_list _ x (from.kept s x there);
          lists = λ s z there. elim (from.lists s z there) [ inl was ↦ inl (old_list b s z was) | inr new ↦ inr (inr (inr (inr new))) ];
          count = omega arith;
          numbered = λ e y there. inl (y, there);
          brings = inr from.kept;
        }

  module _ (b : Catalog) (p : Packet) (fresh : b.extent (suc b.count) ≡ None) (sent : Contains post p) (asks : ServersAsk post) where
    answered_goes : (s : StreamName) (generation : ℕ) (last : Option ℕ) (pick : Nodes) (q : ReqNo) (x : Result (Option ℕ) Refusal) →
        extending (sealed_lengths b) (stream_of b.stream s) generation last ≡ x → Goes post b (extend_answered b p s generation pick q x).after
    answered_goes s generation last pick q (Err refusal) is = goes_refl b
    answered_goes s generation last pick q (Ok None) is =
        let (x, there, fence, free) = found_end (sealed_lengths b) (stream_of b.stream s) generation last None is in
        if_elim (λ (o : Outcome Catalog). Goes post b o.after) (is_pick b.nodes pick) (extend_made b p s generation pick q) (refused b Manager p q BadPick)
        (λ t. extended_goes b s generation pick x there last (may_grow b x last (last_of x.extents) refl free) fresh) (λ t. goes_refl b)
    answered_goes s generation last pick q (Ok (Some e)) is = by_extent (b.extent e)
      where
        by_extent : (o : Option Extent) → Goes post b (last_told b p e o q).after
        by_extent None = goes_refl b
        by_extent (Some x) = goes_refl b

    extend_goes : (s : StreamName) (generation : ℕ) (last : Option ℕ) (pick : Nodes) (q : ReqNo) → Goes post b (extend_rule b p s generation last pick q).after
    extend_goes s generation last pick q =
        let x = extending (sealed_lengths b) (stream_of b.stream s) generation last in
        if_elim (λ (o : Outcome Catalog). Goes post b o.after) (is_foreign p.from s.range) (refused b Manager p q Stale) (extend_answered b p s generation pick q x)
        (λ t. goes_refl b) (λ t. answered_goes s generation last pick q x refl)

    confirm_goes : (q : ReqNo) (x : Option Refusal) → Goes post b (or_refused b Manager p q x (answer b p (Confirmed q))).after
    confirm_goes q (Some refusal) = goes_refl b
    confirm_goes q None = goes_refl b

    trim_goes : (range generation before : ℕ) (to_blob : Bool) (q : ReqNo) → Goes post b (trim_rule b p range generation before to_blob q).after
    trim_goes range generation before to_blob q =
        if_elim (λ (o : Outcome Catalog). Goes post b o.after) (is_user p.from) (refused b Manager p q Stale) (trim_answered b p range before to_blob q (trimming b.stream range generation before))
        (λ t. goes_refl b) (λ f. by_answer (trimming b.stream range generation before) refl)
      where
        by_answer : (x : Result Bool Refusal) → trimming b.stream range generation before ≡ x → Goes post b (trim_answered b p range before to_blob q x).after
        by_answer (Err refusal) is = goes_refl b
        by_answer (Ok false) is = goes_refl b
        by_answer (Ok true) is = trimmed_goes b range generation before to_blob (trims b.stream range generation before is)

    stream_goes : (body : StreamBody) → p.body ≡ bodies.Stream body → Goes post b (stream_body_rule b p body).after
    stream_goes (CreateStream s fence q) is = create_goes b p s (generation_of p.from fence) q (create_refusal b p s) refl
    stream_goes (OpenStreams range generation q) is = open_goes b p range generation q (open_refusal b p range generation)
    stream_goes (Confirm range generation q) is = confirm_goes q (confirm_refusal b p range generation)
    stream_goes (Extend s generation last pick q) is = extend_goes s (generation_of p.from generation) last pick q
    stream_goes (Trim range generation before to_blob q) is = trim_goes range generation before to_blob q
    stream_goes (MultiModify list q) is = modify_goes b p list q sent is (asks p list q sent is).1 (modify_refusal b p list) refl
    stream_goes body is = goes_refl b

    -- ---- rules about extents

    reported_goes : (e : ℕ) (from : ActorId) (news : PlaceReport → PlaceReport) (x : Extent) → b.extent e ≡ Some x → Goes post b (noted b e (with_report x from news)).after
    reported_goes e from news x is =
        if_elim (λ o. Goes post b (noted b e o).after) (is_node x.places.primary from) (Some (record x { primary = news x.primary })) _
        (λ t. goes_extent b e x _ is (λ l k. k))
        (λ _. if_elim (λ o. Goes post b (noted b e o).after) (is_node x.places.second from) (Some (record x { second = news x.second })) _
        (λ t. goes_extent b e x _ is (λ l k. k))
        (λ _. if_elim (λ o. Goes post b (noted b e o).after) (is_node x.places.third from) (Some (record x { third = news x.third })) None
        (λ t. goes_extent b e x _ is (λ l k. k)) (λ _. goes_refl b)))

    seal_extent_goes : (e : ℕ) (q : ReqNo) (o : Option Extent) → b.extent e ≡ o → Goes post b (seal_extent_rule b p e q o).after
    seal_extent_goes e q None is = goes_refl b
    seal_extent_goes e q (Some x) is = by_length x.sealed
      where
        by_length : (o : Option ℕ) → Goes post b (seal_asked b p e q x o).after
        by_length None = goes_extent b e x _ is (λ l k. k)
        by_length (Some l) = goes_refl b

    frozen_goes : (e l : ℕ) (o : Option Extent) → b.extent e ≡ o → Goes post b (frozen_rule b p e l o).after
    frozen_goes e l None is = goes_refl b
    frozen_goes e l (Some x) is =
        if_elim (λ (o : Outcome Catalog). Goes post b o.after) (is_there x.sealed) (silent b) (noted b e (with_report x p.from (frozen_to l)))
        (λ t. goes_refl b) (λ f. reported_goes e p.from (frozen_to l) x is)

    is_sealed_goes : (e : ℕ) (o : Option Extent) → b.extent e ≡ o → Goes post b (is_sealed_rule b p e o).after
    is_sealed_goes e None is = goes_refl b
    is_sealed_goes e (Some x) is = reported_goes e p.from known_sealed x is

    asks_goes : (e l : ℕ) (to n : Option ℕ) → Goes post b (asks_tail b e l to n).after
    asks_goes e l (Some to) (Some n) = goes_refl b
    asks_goes e l (Some to) None = goes_refl b
    asks_goes e l None (Some n) = goes_refl b
    asks_goes e l None None = goes_refl b

    short_goes : (e l : ℕ) (o : Option Extent) → Goes post b (short_rule b p e l o).after
    short_goes e l None = goes_refl b
    short_goes e l (Some x) =
        if_elim (λ (o : Outcome Catalog). Goes post b o.after) (is_there x.sealed) (asks_tail b e l (place_of x.places p.from) (first_sealed x)) (silent b)
        (λ t. asks_goes e l (place_of x.places p.from) (first_sealed x)) (λ f. goes_refl b)

    seal_goes : (body : SealBody) → Goes post b (seal_body_rule b p body).after
    seal_goes (SealExtent e q) = seal_extent_goes e q (b.extent e) refl
    seal_goes (Frozen e l) = frozen_goes e l (b.extent e) refl
    seal_goes (IsSealed e) = is_sealed_goes e (b.extent e) refl
    seal_goes (Short e l) = short_goes e l (b.extent e)
    seal_goes body = goes_refl b

    pub rule_goes : (body : Body) → p.body ≡ body → Goes post b (manager_rule b p body).after
    rule_goes (bodies.Stream body) is = stream_goes body is
    rule_goes (bodies.Seal body) is = seal_goes body
    rule_goes body is = goes_refl b

  pub decide_goes : (b : Catalog) (e : ℕ) (o : Option Extent) → b.extent e ≡ o → Goes post b (decide_rule b e o).after
  decide_goes b e None is = goes_refl b
  decide_goes b e (Some x) is =
      if_elim (λ (o : Outcome Catalog). Goes post b o.after) (is_there x.sealed) (sends b (reminders b e x)) (decided_if b e x (least_told x))
      (λ t. goes_refl b) (λ f. by_least (not_there x.sealed f) (least_told x))
    where
      by_least : x.sealed ≡ None → (o : Option ℕ) → Goes post b (decided_if b e x o).after
      by_least unsealed None = goes_refl b
      by_least unsealed (Some l) = goes_extent b e x (sealed_to x l) is (λ k m. absurd (let c : None ≡ Some k = sym unsealed ∙ m in cc))
