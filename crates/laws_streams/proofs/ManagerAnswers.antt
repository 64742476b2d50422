-- What each rule of the manager's table sends: an answer to the packet that asked, or to the one who asked for a seal before.
use Rattle.std.proofs.Common.{◌≡◌, ℕ, suc, Bool, true, false, List, ◌++◌, Option, Some, None, Result, Ok, Err, refl, sym, subst}
use Rattle.block_types.specs.declared.record.Nodes.{Nodes}
use Rattle.wire.specs.declared.actor.ActorId.{ActorId}
use Rattle.wire.specs.declared.actor.ActorId.TheVariants.{Manager}
use Rattle.wire.specs.declared.actor.ReqNo.{ReqNo}
use Rattle.wire.specs.declared.body.AppendBody.{AppendBody}
use Rattle.wire.specs.declared.body.AppendBody.TheVariants.{Append, Appended}
use Rattle.wire.specs.declared.body.ReadBody.{ReadBody}
use Rattle.wire.specs.declared.body.ReadBody.TheVariants.{ReadAt, ReadGroups, Groups, Bytes}
use Rattle.wire.specs.declared.body.SealBody.{SealBody}
use Rattle.wire.specs.declared.body.SealBody.TheVariants as seals
use Rattle.wire.specs.declared.body.StreamBody.{StreamBody}
use Rattle.wire.specs.declared.body.StreamBody.TheVariants.{CreateStream, OpenStreams, Opened, Confirm, Confirmed, Extend, Extended, Trim, MultiModify}
use Rattle.wire.specs.declared.body.Body.{Body}
use Rattle.wire.specs.declared.body.Body.TheVariants as bodies
use Rattle.wire.specs.declared.packet.Packet.{Packet}
use Rattle.wire.specs.declared.refusal.Refusal.{Refusal}
use Rattle.wire.specs.declared.refusal.Refusal.TheVariants.{Stale, BadPick}
use Rattle.wire.specs.declared.streams.Modify.{Modify}
use Rattle.wire.specs.declared.streams.StreamLists.{StreamLists}
use Rattle.wire.specs.declared.streams.StreamName.{StreamName}
use Rattle.streams.specs.Streams.{stream_of, extending, trimming}
use Rattle.model_streams.specs.declared.extent.Extent.{Extent}
use Rattle.model_streams.specs.Actors.{is_user, generation_of}
use Rattle.model_streams.specs.Manager.{Catalog, each_place, create_refusal, create_taken, told_streams, open_refusal, open_taken, confirm_refusal, answer, is_foreign, is_pick, sealed_lengths, extend_made, last_told, extend_answered, extend_rule, trim_answered, trim_rule, modify_refusal, modify_taken, closes, reminders, told_sealed, seal_asked, seal_extent_rule, with_report, noted, frozen_to, frozen_rule, known_sealed, is_sealed_rule, place_of, first_sealed, asks_tail, short_rule, stream_body_rule, seal_body_rule, manager_rule, is_there}
use Rattle.model_streams.specs.Outcome.{Outcome, packet, silent, refused, or_refused}
use Rattle.model_streams.proofs.Tests.{if_elim}
use Rattle.laws_streams.proofs.Choices.{Each, each-append}

-- ---- what an answer comes from

-- the streams were opened by the packet
pub record FromOpening (b : Catalog) (taken : Packet) (to : ActorId) (q : ReqNo) (lists : StreamLists) : Type 0 where
  pub range : ℕ
  pub generation : ℕ
  pub body : taken.body ≡ bodies.Stream (OpenStreams range generation q)
  pub asker : to ≡ taken.from
  pub none : open_refusal b taken range generation ≡ None
  pub told : lists ≡ told_streams b range

-- the packet confirmed a generation
pub record FromConfirm (b : Catalog) (taken : Packet) (to : ActorId) (q : ReqNo) : Type 0 where
  pub range : ℕ
  pub generation : ℕ
  pub body : taken.body ≡ bodies.Stream (Confirm range generation q)
  pub asker : to ≡ taken.from
  pub none : confirm_refusal b taken range generation ≡ None

-- the extent is the next one, or the last one of the stream
abbrev pub FromEnd : Catalog → Nodes → Result (Option ℕ) Refusal → ℕ → Nodes → Type 0
FromEnd b pick (Err refusal) e places = ⊥
FromEnd b pick (Ok None) e places = (e ≡ suc b.count) × (places ≡ pick) × (is_pick b.nodes pick ≡ true)
FromEnd b pick (Ok (Some f)) e places = (e ≡ f) × ((x : Extent) × (b.extent f ≡ Some x) × (places ≡ x.places))

pub record FromExtend (b : Catalog) (taken : Packet) (to : ActorId) (q : ReqNo) (e : ℕ) (places : Nodes) : Type 0 where
  pub name : StreamName
  pub generation : ℕ
  pub last : Option ℕ
  pub pick : Nodes
  pub body : taken.body ≡ bodies.Stream (Extend name generation last pick q)
  pub asker : to ≡ taken.from
  pub own : is_foreign taken.from name.range ≡ false
  pub end : FromEnd b pick (extending (sealed_lengths b) (stream_of b.stream name) (generation_of taken.from generation) last) e places

-- the extent was sealed when the packet asked
pub record FromSealed (b : Catalog) (taken : Packet) (to : ActorId) (q : ReqNo) (e l : ℕ) : Type 0 where
  pub body : taken.body ≡ bodies.Seal (seals.SealExtent e q)
  pub asker : to ≡ taken.from
  pub extent : Extent
  pub there : b.extent e ≡ Some extent
  pub sealed : extent.sealed ≡ Some l

abbrev pub StreamTells : Catalog → Packet → ActorId → StreamBody → Type 0
StreamTells b taken to (Opened q lists) = FromOpening b taken to q lists
StreamTells b taken to (Confirmed q) = FromConfirm b taken to q
StreamTells b taken to (Extended q e places) = FromExtend b taken to q e places
StreamTells b taken to (CreateStream s fence q) = ⊥
StreamTells b taken to (OpenStreams range generation q) = ⊥
StreamTells b taken to (Confirm range generation q) = ⊥
StreamTells b taken to (Extend s generation last pick q) = ⊥
StreamTells b taken to (Trim range generation before to_blob q) = ⊥
StreamTells b taken to (MultiModify list q) = ⊥
StreamTells b taken to _ = Unit {0}

abbrev pub SealTells : Catalog → Packet → ActorId → SealBody → Type 0
SealTells b taken to (seals.SealedIs q e l) = FromSealed b taken to q e l
SealTells b taken to (seals.SealExtent e q) = ⊥
SealTells b taken to _ = Unit {0}

-- no answer of a node, and no request
abbrev pub AppendTells : AppendBody → Type 0
AppendTells (Appended q e o) = ⊥
AppendTells (Append e generation blocks q) = ⊥
AppendTells _ = Unit {0}

abbrev pub ReadTells : ReadBody → Type 0
ReadTells (Groups q e groups) = ⊥
ReadTells (ReadAt e offset l q) = ⊥
ReadTells (ReadGroups e upto sealed q) = ⊥
ReadTells (Bytes q e offset bytes) = ⊥

abbrev pub BodyTells : Catalog → Packet → ActorId → Body → Type 0
BodyTells b taken to (bodies.Stream body) = StreamTells b taken to body
BodyTells b taken to (bodies.Seal body) = SealTells b taken to body
BodyTells b taken to (bodies.Append body) = AppendTells body
BodyTells b taken to (bodies.Read body) = ReadTells body
BodyTells b taken to _ = ⊥

-- what the manager sends, having taken a packet
abbrev pub ManagerTells : Catalog → Packet → Packet → Type 0
ManagerTells b taken p = (p.from ≡ Manager) × BodyTells b taken p.to p.body

abbrev Tells : Catalog → Packet → Outcome Catalog → Type 0
Tells b taken o = Each (ManagerTells b taken) o.packets

-- ---- streams

module _ (b : Catalog) (p : Packet) where
  refused_tells : (q : ReqNo) (refusal : Refusal) → Tells b p (refused b Manager p q refusal)
  refused_tells q refusal = ((refl, tt), tt)

  create_tells : (s : StreamName) (fence : ℕ) (q : ReqNo) (x : Option Refusal) → Tells b p (or_refused b Manager p q x (create_taken b p s fence q))
  create_tells s fence q (Some refusal) = refused_tells q refusal
  create_tells s fence q None = ((refl, tt), tt)

  open_tells : (range generation : ℕ) (q : ReqNo) → p.body ≡ bodies.Stream (OpenStreams range generation q) →
      (x : Option Refusal) → open_refusal b p range generation ≡ x → Tells b p (or_refused b Manager p q x (open_taken b p range generation q))
  open_tells range generation q is (Some refusal) k = refused_tells q refusal
  open_tells range generation q is None k = ((refl, record { range = range; generation = generation; body = is; asker = refl; none = k; told = refl }), tt)

  confirm_tells : (range generation : ℕ) (q : ReqNo) → p.body ≡ bodies.Stream (Confirm range generation q) →
      (x : Option Refusal) → confirm_refusal b p range generation ≡ x → Tells b p (or_refused b Manager p q x (answer b p (Confirmed q)))
  confirm_tells range generation q is (Some refusal) k = refused_tells q refusal
  confirm_tells range generation q is None k = ((refl, record { range = range; generation = generation; body = is; asker = refl; none = k }), tt)

  module _ (s : StreamName) (generation : ℕ) (last : Option ℕ) (pick : Nodes) (q : ReqNo)
      (is : p.body ≡ bodies.Stream (Extend s generation last pick q)) (own : is_foreign p.from s.range ≡ false) where
    extended_tells : (x : Result (Option ℕ) Refusal) → extending (sealed_lengths b) (stream_of b.stream s) (generation_of p.from generation) last ≡ x →
        (e : ℕ) (places : Nodes) → FromEnd b pick x e places → ManagerTells b p (packet Manager p.from (bodies.Stream (Extended q e places)))
    extended_tells x k e places end = (
      refl,
      record {
        name = s;
        generation = generation;
        last = last;
        pick = pick;
        body = is;
        asker = refl;
        own = own;
        end = subst (λ y. FromEnd b pick y e places) (sym k) end;
      },
    )

    answered_tells : (x : Result (Option ℕ) Refusal) → extending (sealed_lengths b) (stream_of b.stream s) (generation_of p.from generation) last ≡ x →
        Tells b p (extend_answered b p s (generation_of p.from generation) pick q x)
    answered_tells (Err refusal) k = refused_tells q refusal
    answered_tells (Ok None) k =
        if_elim (Tells b p) (is_pick b.nodes pick) (extend_made b p s (generation_of p.from generation) pick q) (refused b Manager p q BadPick)
        (λ t. ((refl, tt), ((refl, tt), ((refl, tt), (extended_tells (Ok None) k (suc b.count) pick (refl, refl, t), tt)))))
        (λ t. refused_tells q BadPick)
    answered_tells (Ok (Some e)) k = by_extent (b.extent e) refl
      where
        by_extent : (o : Option Extent) → b.extent e ≡ o → Tells b p (last_told b p e o q)
        by_extent None there = tt
        by_extent (Some x) there = (extended_tells (Ok (Some e)) k e x.places (refl, (x, there, refl)), tt)

  extend_tells : (s : StreamName) (generation : ℕ) (last : Option ℕ) (pick : Nodes) (q : ReqNo) → p.body ≡ bodies.Stream (Extend s generation last pick q) →
      Tells b p (extend_rule b p s (generation_of p.from generation) last pick q)
  extend_tells s generation last pick q is =
      let x = extending (sealed_lengths b) (stream_of b.stream s) (generation_of p.from generation) last in
      if_elim (Tells b p) (is_foreign p.from s.range) (refused b Manager p q Stale) (extend_answered b p s (generation_of p.from generation) pick q x)
      (λ t. refused_tells q Stale) (λ f. answered_tells s generation last pick q is f x refl)

  trim_tells : (range generation before : ℕ) (to_blob : Bool) (q : ReqNo) → Tells b p (trim_rule b p range generation before to_blob q)
  trim_tells range generation before to_blob q =
      if_elim (Tells b p) (is_user p.from) (refused b Manager p q Stale) (trim_answered b p range before to_blob q (trimming b.stream range generation before))
      (λ t. refused_tells q Stale) (λ f. by_answer (trimming b.stream range generation before))
    where
      by_answer : (x : Result Bool Refusal) → Tells b p (trim_answered b p range before to_blob q x)
      by_answer (Err refusal) = refused_tells q refusal
      by_answer (Ok false) = ((refl, tt), tt)
      by_answer (Ok true) = ((refl, tt), tt)

  modify_tells : (list : List Modify) (q : ReqNo) (x : Option Refusal) → Tells b p (or_refused b Manager p q x (modify_taken b p list q))
  modify_tells list q (Some refusal) = refused_tells q refusal
  modify_tells list q None = ((refl, tt), tt)

  stream_tells : (body : StreamBody) → p.body ≡ bodies.Stream body → Tells b p (stream_body_rule b p body)
  stream_tells (CreateStream s fence q) is = create_tells s (generation_of p.from fence) q (create_refusal b p s)
  stream_tells (OpenStreams range generation q) is = open_tells range generation q is (open_refusal b p range generation) refl
  stream_tells (Confirm range generation q) is = confirm_tells range generation q is (confirm_refusal b p range generation) refl
  stream_tells (Extend s generation last pick q) is = extend_tells s generation last pick q is
  stream_tells (Trim range generation before to_blob q) is = trim_tells range generation before to_blob q
  stream_tells (MultiModify list q) is = modify_tells list q (modify_refusal b p list)
  stream_tells body is = tt

  -- ---- seals

  reminders_tell : (e : ℕ) (x : Extent) → Each (ManagerTells b p) (reminders b e x)
  reminders_tell e x = by_length x.sealed
    where
      by_length : (o : Option ℕ) → Each (ManagerTells b p)
          (each_place x.places (bodies.Seal (seals.Make e x.fence b.target x.places)) ++ each_place x.places (bodies.Seal (closes e o)))
      by_length None = ((refl, tt), ((refl, tt), ((refl, tt), ((refl, tt), ((refl, tt), ((refl, tt), tt))))))
      by_length (Some l) = ((refl, tt), ((refl, tt), ((refl, tt), ((refl, tt), ((refl, tt), ((refl, tt), tt))))))

  seal_extent_tells : (e : ℕ) (q : ReqNo) → p.body ≡ bodies.Seal (seals.SealExtent e q) → (o : Option Extent) → b.extent e ≡ o → Tells b p (seal_extent_rule b p e q o)
  seal_extent_tells e q is None there = ((refl, tt), tt)
  seal_extent_tells e q is (Some x) there = by_length x.sealed refl
    where
      by_length : (o : Option ℕ) → x.sealed ≡ o → Tells b p (seal_asked b p e q x o)
      by_length None sealed = reminders_tell e x
      by_length (Some l) sealed = each-append (ManagerTells b p) (reminders b e x) (told_sealed p.from q e l) (reminders_tell e x)
          ((refl, record { body = is; asker = refl; extent = x; there = there; sealed = sealed }), tt)

  noted_tells : (e : ℕ) (o : Option Extent) → Tells b p (noted b e o)
  noted_tells e None = tt
  noted_tells e (Some x) = tt

  frozen_tells : (e l : ℕ) (o : Option Extent) → Tells b p (frozen_rule b p e l o)
  frozen_tells e l None = tt
  frozen_tells e l (Some x) = if_elim (Tells b p) (is_there x.sealed) (silent b) _ (λ t. tt) (λ f. noted_tells e (with_report x p.from (frozen_to l)))

  is_sealed_tells : (e : ℕ) (o : Option Extent) → Tells b p (is_sealed_rule b p e o)
  is_sealed_tells e None = tt
  is_sealed_tells e (Some x) = noted_tells e (with_report x p.from known_sealed)

  tail_tells : (e l : ℕ) (to n : Option ℕ) → Tells b p (asks_tail b e l to n)
  tail_tells e l (Some to) (Some n) = ((refl, tt), tt)
  tail_tells e l (Some to) None = tt
  tail_tells e l None (Some n) = tt
  tail_tells e l None None = tt

  short_tells : (e l : ℕ) (o : Option Extent) → Tells b p (short_rule b p e l o)
  short_tells e l None = tt
  short_tells e l (Some x) = if_elim (Tells b p) (is_there x.sealed) (asks_tail b e l (place_of x.places p.from) (first_sealed x)) (silent b)
      (λ t. tail_tells e l (place_of x.places p.from) (first_sealed x)) (λ f. tt)

  seal_tells : (body : SealBody) → p.body ≡ bodies.Seal body → Tells b p (seal_body_rule b p body)
  seal_tells (seals.SealExtent e q) is = seal_extent_tells e q is (b.extent e) refl
  seal_tells (seals.Frozen e l) is = frozen_tells e l (b.extent e)
  seal_tells (seals.IsSealed e) is = is_sealed_tells e (b.extent e)
  seal_tells (seals.Short e l) is = short_tells e l (b.extent e)
  seal_tells body is = tt

  rule_tells : (body : Body) → p.body ≡ body → Tells b p (manager_rule b p body)
  rule_tells (bodies.Stream body) is = stream_tells body is
  rule_tells (bodies.Seal body) is = seal_tells body is
  rule_tells body is = tt

-- whatever the manager sends, having taken a packet
pub manager_tells : (b : Catalog) (p : Packet) → Each (ManagerTells b p) (manager_rule b p p.body).packets
manager_tells b p = rule_tells b p p.body refl
