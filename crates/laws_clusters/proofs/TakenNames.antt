-- What streams there are after a rule of the manager: those that were there, and those that it was asked to create or to build; and it says that a
-- name is taken only to who asked so.
use Rattle.std.proofs.Common.{◌≡◌, ◌⊎◌, ℕ, suc, ◌+◌, Bool, true, false, ◌==◌, nat_lt, nat_le, List, [], ◌∷◌, length, Option, Some, None, Result, Ok, Err, Contains, refl, sym, ap, ◌∙◌, subst, inl, inr, arith}
use Rattle.block_types.specs.declared.record.Nodes.{Nodes}
use Rattle.wire.specs.declared.actor.ActorId.{ActorId}
use Rattle.wire.specs.declared.actor.ActorId.TheVariants.{Manager}
use Rattle.wire.specs.declared.actor.ReqNo.{ReqNo}
use Rattle.wire.specs.declared.body.AppendBody.{AppendBody}
use Rattle.wire.specs.declared.body.AppendBody.TheVariants.{Refused}
use Rattle.wire.specs.declared.body.Body.{Body}
use Rattle.wire.specs.declared.body.Body.TheVariants as bodies
use Rattle.wire.specs.declared.body.SealBody.{SealBody}
use Rattle.wire.specs.declared.body.SealBody.TheVariants as seals
use Rattle.wire.specs.declared.body.StreamBody.{StreamBody}
use Rattle.wire.specs.declared.body.StreamBody.TheVariants.{CreateStream, OpenStreams, Confirm, Confirmed, Extend, Trim, MultiModify}
use Rattle.wire.specs.declared.packet.Packet.{Packet}
use Rattle.wire.specs.declared.refusal.Refusal.{Refusal}
use Rattle.wire.specs.declared.refusal.Refusal.TheVariants.{Stale, BadPick, LastOpen, NoSuchStream, NoSuchExtent, NameTaken}
use Rattle.wire.specs.declared.streams.Modify.{Modify}
use Rattle.wire.specs.declared.streams.StreamName.{StreamName}
use Rattle.streams.specs.Streams.{Stream, Streams, stream_of, empty_stream, with_stream, fenced_at, base_of, last_of, is_number, behind, extending, longer, extended_if, shorter, log_name, blob_data_name, trim_of_log, trim_of, trimmed_if, trimming, joined, built, modified, may_list, first_build_fault}
use Rattle.model_streams.specs.declared.extent.Extent.{Extent}
use Rattle.model_streams.specs.Actors.{is_user, generation_of}
use Rattle.model_streams.specs.Manager.{Catalog, is_there, sealed_lengths, with_report, frozen_to, known_sealed, create_refusal, create_taken, open_tests, open_refusal, open_taken, confirm_tests, confirm_refusal, answer, is_foreign, is_pick, last_told, extend_made, extend_answered, extend_rule, trim_answered, trim_rule, modify_refusal, modify_taken, seal_asked, seal_extent_rule, noted, frozen_rule, is_sealed_rule, place_of, first_sealed, asks_tail, short_rule, stream_body_rule, seal_body_rule, manager_rule}
use Rattle.model_streams.specs.Outcome.{Outcome, silent, refused, or_refused}
use Rattle.model_streams.proofs.Tests.{if_elim}
use Rattle.laws_map.specs.Naming.{Each}
use Rattle.laws_streams.proofs.StreamNames.{with_stream_elim}
use Rattle.laws_clusters.proofs.NodeRefusals.{IsOther, met_other}

-- there was a stream of the name
abbrev pub Was : Streams → StreamName → Type 0
Was streams s = (y : Stream) × (stream_of streams s ≡ Some y)

-- one of these is of the name
abbrev pub IsAmong : List Modify → StreamName → Type 0
IsAmong list s = (m : Modify) × Contains list m × (m.stream ≡ s)

-- what is there once streams were built was there, or is one of them
modified_from : (list : List Modify) (streams : Streams) (s : StreamName) (z : Stream) → stream_of (modified streams list) s ≡ Some z → Was streams s ⊎ IsAmong list s
modified_from [] streams s z is = inl (z, is)
modified_from (m ∷ list) streams s z is = elim (modified_from list (built streams m) s z is) [
  | inl was ↦ with_stream_elim (λ o. o ≡ Some was.0 → Was streams s ⊎ IsAmong (m ∷ list) s) streams m.stream (joined streams m.sources) s
      (λ same there. inr (m, (0, omega arith, refl), sym same)) (λ there. inl (was.0, there)) was.1
  | inr among ↦ (let c = among.1 in inr (among.0, (suc c.0, (let l = c.1 in omega (arith, l)), c.2), among.2))
]

module _ (b : Catalog) (p : Packet) where
  -- it was asked to create or to build the stream
  abbrev pub IsAskedFor : StreamName → Type 0
  IsAskedFor s =
      ((list : List Modify) × (q : ReqNo) × (p.body ≡ bodies.Stream (MultiModify list q)) × (modify_refusal b p list ≡ None) × IsAmong list s)
      ⊎ ((fence : ℕ) × (q : ReqNo) × (p.body ≡ bodies.Stream (CreateStream s fence q)) × (create_refusal b p s ≡ None))

  -- why a name is taken
  abbrev pub IsTakenFor : ReqNo → Type 0
  IsTakenFor q =
      ((s : StreamName) × (fence : ℕ) × (p.body ≡ bodies.Stream (CreateStream s fence q)))
      ⊎ ((list : List Modify) × (p.body ≡ bodies.Stream (MultiModify list q)) × (first_build_fault (sealed_lengths b) b.stream list ≡ Some NameTaken))

  abbrev pub RefusedFor : ReqNo → Refusal → Type 0
  RefusedFor q NameTaken = IsTakenFor q
  RefusedFor q why = Unit {0}

  abbrev pub AppendFor : ActorId → AppendBody → Type 0
  AppendFor to (Refused q why) = (to ≡ p.from) × RefusedFor q why
  AppendFor to body = Unit {0}

  abbrev pub StreamFor : StreamBody → Type 0
  StreamFor (CreateStream s fence q) = ⊥
  StreamFor (MultiModify list q) = ⊥
  StreamFor body = Unit {0}

  abbrev pub BodyFor : ActorId → Body → Type 0
  BodyFor to (bodies.Append body) = AppendFor to body
  BodyFor to (bodies.Stream body) = StreamFor body
  BodyFor to (bodies.Map body) = ⊥
  BodyFor to body = Unit {0}

  abbrev pub AllFor : List Packet → Type 0
  AllFor packets = Each (λ (x : Packet). BodyFor x.to x.body) packets

  pub record ManagerStep (o : Outcome Catalog) : Type 0 where
    pub streams : (s : StreamName) (z : Stream) → stream_of o.after.stream s ≡ Some z → Was b.stream s ⊎ IsAskedFor s
    pub packets : AllFor o.packets

  -- no stream changes
  same_step : (o : Outcome Catalog) → o.after.stream ≡ b.stream → AllFor o.packets → ManagerStep o
  same_step o same packets = record { streams = λ s z is. inl (z, ap (λ (x : Streams). stream_of x s) (sym same) ∙ is); packets = packets }

  other_for : (q : ReqNo) (why : Refusal) → IsOther why → RefusedFor q why
  other_for q NameTaken other = absurd other
  other_for q why other = tt

  refused_step : (q : ReqNo) (why : Refusal) → RefusedFor q why → ManagerStep (refused b Manager p q why)
  refused_step q why for = same_step _ refl ((refl, for), tt)

  unless_step : (q : ReqNo) (x : Option Refusal) (o : Outcome Catalog) → ((why : Refusal) → x ≡ Some why → RefusedFor q why) → (x ≡ None → ManagerStep o) → ManagerStep (or_refused b Manager p q x o)
  unless_step q (Some why) o for taken = refused_step q why (for why refl)
  unless_step q None o for taken = taken refl

  -- ---- streams

  create_step : (s : StreamName) (fence given : ℕ) (q : ReqNo) → p.body ≡ bodies.Stream (CreateStream s given q) → ManagerStep (or_refused b Manager p q (create_refusal b p s) (create_taken b p s fence q))
  create_step s fence given q is =
      unless_step q (create_refusal b p s) (create_taken b p s fence q) for
      (λ none. record {
        streams = λ t z there. with_stream_elim (λ o. o ≡ Some z → Was b.stream t ⊎ IsAskedFor t) b.stream s (empty_stream fence) t
            (λ same at. subst (λ n. Was b.stream n ⊎ IsAskedFor n) (sym same) (inr (inr (given, q, is, none)))) (λ at. inl (z, at)) there;
        packets = (tt, tt);
      })
    where
      for : (why : Refusal) → create_refusal b p s ≡ Some why → RefusedFor q why
      for NameTaken e = inl (s, given, is)
      for why e = tt

  open_step : (range generation : ℕ) (q : ReqNo) → ManagerStep (or_refused b Manager p q (open_refusal b p range generation) (open_taken b p range generation q))
  open_step range generation q =
      unless_step q (open_refusal b p range generation) (open_taken b p range generation q) (λ why e. other_for q why (met_other (open_tests b p range generation) (tt, (tt, (tt, tt))) why e))
      (λ none. record {
        streams = λ s z. if_elim (λ o. o ≡ Some z → Was b.stream s ⊎ IsAskedFor s) (s.range == range) (fenced_at generation (stream_of b.stream s)) (stream_of b.stream s) (λ t at. inl (fenced s (stream_of b.stream s) z refl at)) (λ t at. inl (z, at));
        packets = (tt, tt);
      })
    where
      fenced : (s : StreamName) (o : Option Stream) (z : Stream) → stream_of b.stream s ≡ o → fenced_at generation o ≡ Some z → Was b.stream s
      fenced s None z there is = absurd cc
      fenced s (Some y) z there is = (y, there)

  confirm_step : (range generation : ℕ) (q : ReqNo) → ManagerStep (or_refused b Manager p q (confirm_refusal b p range generation) (answer b p (Confirmed q)))
  confirm_step range generation q =
      unless_step q (confirm_refusal b p range generation) (answer b p (Confirmed q)) (λ why e. other_for q why (met_other (confirm_tests b p range generation) (tt, (tt, (tt, tt))) why e)) (λ none. same_step _ refl (tt, tt))

  abbrev ErrOther : {A : Type 0} → Result A Refusal → Type 0
  ErrOther (Err why) = IsOther why
  ErrOther (Ok x) = Unit {0}

  behind_other : (sealed : ℕ → Option ℕ) (o last : Option ℕ) → ErrOther (behind sealed o last)
  behind_other sealed None last = tt
  behind_other sealed (Some e) last =
      if_elim ErrOther (is_number e last) _ (Ok (Some e)) (λ t. if_elim ErrOther (is_there (sealed e)) (Ok None) (Err LastOpen) (λ u. tt) (λ u. tt)) (λ t. tt)

  extending_other : (sealed : ℕ → Option ℕ) (o : Option Stream) (generation : ℕ) (last : Option ℕ) → ErrOther (extending sealed o generation last)
  extending_other sealed None generation last = tt
  extending_other sealed (Some x) generation last = if_elim ErrOther (generation == x.fence) (behind sealed (last_of x.extents) last) (Err Stale) (λ t. behind_other sealed (last_of x.extents) last) (λ t. tt)

  extended_was : (s : StreamName) (e : ℕ) (o : Option Stream) → stream_of b.stream s ≡ o → (t : StreamName) (z : Stream) → stream_of (extended_if b.stream s e o) t ≡ Some z → Was b.stream t
  extended_was s e None at t z is = (z, is)
  extended_was s e (Some x) at t z is =
      with_stream_elim (λ o. o ≡ Some z → Was b.stream t) b.stream s (longer e x) t (λ same there. subst (Was b.stream) (sym same) (x, at)) (λ there. (z, there)) is

  last_step : (e : ℕ) (o : Option Extent) (q : ReqNo) → ManagerStep (last_told b p e o q)
  last_step e None q = same_step _ refl tt
  last_step e (Some x) q = same_step _ refl (tt, tt)

  extend_answered_step : (s : StreamName) (generation : ℕ) (pick : Nodes) (q : ReqNo) (x : Result (Option ℕ) Refusal) → ErrOther x → ManagerStep (extend_answered b p s generation pick q x)
  extend_answered_step s generation pick q (Err why) other = refused_step q why (other_for q why other)
  extend_answered_step s generation pick q (Ok None) other =
      if_elim ManagerStep (is_pick b.nodes pick) (extend_made b p s generation pick q) (refused b Manager p q BadPick)
      (λ t. record { streams = λ n z is. inl (extended_was s (suc b.count) (stream_of b.stream s) refl n z is); packets = (tt, (tt, (tt, (tt, tt)))) }) (λ t. refused_step q BadPick tt)
  extend_answered_step s generation pick q (Ok (Some e)) other = last_step e (b.extent e) q

  extend_step : (s : StreamName) (generation : ℕ) (last : Option ℕ) (pick : Nodes) (q : ReqNo) → ManagerStep (extend_rule b p s generation last pick q)
  extend_step s generation last pick q =
      let x = extending (sealed_lengths b) (stream_of b.stream s) generation last in
      if_elim ManagerStep (is_foreign p.from s.range) (refused b Manager p q Stale) (extend_answered b p s generation pick q x) (λ t. refused_step q Stale tt)
      (λ t. extend_answered_step s generation pick q x (extending_other (sealed_lengths b) (stream_of b.stream s) generation last))

  log_other : (log : Stream) (generation before : ℕ) → ErrOther (trim_of_log log generation before)
  log_other log generation before =
      if_elim ErrOther (log.fence == generation) _ (Err Stale)
      (λ t. if_elim ErrOther (nat_le before (base_of log)) (Ok false) _ (λ u. tt) (λ u. if_elim ErrOther (nat_lt before (base_of log + length log.extents)) (Ok true) (Err LastOpen) (λ v. tt) (λ v. tt))) (λ t. tt)

  trim_other : (log blob_data : Option Stream) (generation before : ℕ) → ErrOther (trim_of log blob_data generation before)
  trim_other None blob_data generation before = tt
  trim_other (Some log) None generation before = tt
  trim_other (Some log) (Some blob_data) generation before = log_other log generation before

  trimmed_was : (range before : ℕ) (to_blob : Bool) (log blob_data : Option Stream) → stream_of b.stream (log_name range) ≡ log → stream_of b.stream (blob_data_name range) ≡ blob_data → (t : StreamName) (z : Stream) →
      stream_of (trimmed_if b.stream range before to_blob log blob_data) t ≡ Some z → Was b.stream t
  trimmed_was range before to_blob None blob_data one two t z is = (z, is)
  trimmed_was range before to_blob (Some log) None one two t z is = (z, is)
  trimmed_was range before to_blob (Some log) (Some blob_data) one two t z is =
      with_stream_elim (λ o. o ≡ Some z → Was b.stream t) (with_stream b.stream (log_name range) (shorter before log)) (blob_data_name range) _ t
      (λ same there. subst (Was b.stream) (sym same) (blob_data, two))
      (λ there. with_stream_elim (λ o. o ≡ Some z → Was b.stream t) b.stream (log_name range) (shorter before log) t (λ same at. subst (Was b.stream) (sym same) (log, one)) (λ at. (z, at)) there) is

  trim_step : (range generation before : ℕ) (to_blob : Bool) (q : ReqNo) → ManagerStep (trim_rule b p range generation before to_blob q)
  trim_step range generation before to_blob q =
      if_elim ManagerStep (is_user p.from) (refused b Manager p q Stale) (trim_answered b p range before to_blob q (trimming b.stream range generation before)) (λ t. refused_step q Stale tt)
      (λ t. by_answer (trimming b.stream range generation before) (trim_other (b.stream range 1) (b.stream range 3) generation before))
    where
      by_answer : (x : Result Bool Refusal) → ErrOther x → ManagerStep (trim_answered b p range before to_blob q x)
      by_answer (Err why) other = refused_step q why (other_for q why other)
      by_answer (Ok false) other = same_step _ refl (tt, tt)
      by_answer (Ok true) other = record { streams = λ s z is. inl (trimmed_was range before to_blob (b.stream range 1) (b.stream range 3) refl refl s z is); packets = (tt, tt) }

  modify_step : (list : List Modify) (q : ReqNo) → p.body ≡ bodies.Stream (MultiModify list q) → ManagerStep (or_refused b Manager p q (modify_refusal b p list) (modify_taken b p list q))
  modify_step list q is =
      unless_step q (modify_refusal b p list) (modify_taken b p list q) for
      (λ none. record {
        streams = λ s z there. elim (modified_from list b.stream s z there) [ inl was ↦ inl was | inr among ↦ inr (inl (list, q, is, none, among)) ];
        packets = (tt, tt);
      })
    where
      taken : modify_refusal b p list ≡ Some NameTaken → first_build_fault (sealed_lengths b) b.stream list ≡ Some NameTaken
      taken =
          if_elim (λ o. o ≡ Some NameTaken → first_build_fault (sealed_lengths b) b.stream list ≡ Some NameTaken) (is_user p.from) (Some Stale) _ (λ t e. absurd (let z : Some Stale ≡ Some NameTaken = e in cc))
          (λ t. if_elim (λ o. o ≡ Some NameTaken → first_build_fault (sealed_lengths b) b.stream list ≡ Some NameTaken) (may_list list) _ (Some NoSuchStream) (λ u e. e) (λ u e. absurd (let z : Some NoSuchStream ≡ Some NameTaken = e in cc)))

      for : (why : Refusal) → modify_refusal b p list ≡ Some why → RefusedFor q why
      for NameTaken e = inr (list, is, taken e)
      for why e = tt

  stream_step : (body : StreamBody) → p.body ≡ bodies.Stream body → ManagerStep (stream_body_rule b p body)
  stream_step (CreateStream s fence q) is = create_step s (generation_of p.from fence) fence q is
  stream_step (OpenStreams range generation q) is = open_step range generation q
  stream_step (Confirm range generation q) is = confirm_step range generation q
  stream_step (Extend s generation last pick q) is = extend_step s (generation_of p.from generation) last pick q
  stream_step (Trim range generation before to_blob q) is = trim_step range generation before to_blob q
  stream_step (MultiModify list q) is = modify_step list q is
  stream_step body is = same_step _ refl tt

  -- ---- seals

  seal_asked_step : (e : ℕ) (q : ReqNo) (x : Extent) (o : Option ℕ) → ManagerStep (seal_asked b p e q x o)
  seal_asked_step e q x None = same_step _ refl (tt, (tt, (tt, (tt, (tt, (tt, tt))))))
  seal_asked_step e q x (Some l) = same_step _ refl (tt, (tt, (tt, (tt, (tt, (tt, (tt, tt)))))))

  seal_extent_step : (e : ℕ) (q : ReqNo) (o : Option Extent) → ManagerStep (seal_extent_rule b p e q o)
  seal_extent_step e q None = refused_step q NoSuchExtent tt
  seal_extent_step e q (Some x) = seal_asked_step e q x x.sealed

  noted_step : (e : ℕ) (o : Option Extent) → ManagerStep (noted b e o)
  noted_step e None = same_step _ refl tt
  noted_step e (Some x) = same_step _ refl tt

  frozen_step : (e l : ℕ) (o : Option Extent) → ManagerStep (frozen_rule b p e l o)
  frozen_step e l None = same_step _ refl tt
  frozen_step e l (Some x) = if_elim ManagerStep (is_there x.sealed) (silent b) _ (λ t. same_step _ refl tt) (λ t. noted_step e (with_report x p.from (frozen_to l)))

  is_sealed_step : (e : ℕ) (o : Option Extent) → ManagerStep (is_sealed_rule b p e o)
  is_sealed_step e None = same_step _ refl tt
  is_sealed_step e (Some x) = noted_step e (with_report x p.from known_sealed)

  tail_step : (e l : ℕ) (to n : Option ℕ) → ManagerStep (asks_tail b e l to n)
  tail_step e l (Some to) (Some n) = same_step _ refl (tt, tt)
  tail_step e l (Some to) None = same_step _ refl tt
  tail_step e l None (Some n) = same_step _ refl tt
  tail_step e l None None = same_step _ refl tt

  short_step : (e l : ℕ) (o : Option Extent) → ManagerStep (short_rule b p e l o)
  short_step e l None = same_step _ refl tt
  short_step e l (Some x) = if_elim ManagerStep (is_there x.sealed) (asks_tail b e l (place_of x.places p.from) (first_sealed x)) (silent b) (λ t. tail_step e l (place_of x.places p.from) (first_sealed x)) (λ t. same_step _ refl tt)

  seal_step : (body : SealBody) → ManagerStep (seal_body_rule b p body)
  seal_step (seals.SealExtent e q) = seal_extent_step e q (b.extent e)
  seal_step (seals.Frozen e l) = frozen_step e l (b.extent e)
  seal_step (seals.IsSealed e) = is_sealed_step e (b.extent e)
  seal_step (seals.Short e l) = short_step e l (b.extent e)
  seal_step body = same_step _ refl tt

  pub manager_step : (body : Body) → p.body ≡ body → ManagerStep (manager_rule b p body)
  manager_step (bodies.Stream body) is = stream_step body is
  manager_step (bodies.Seal body) is = seal_step body
  manager_step body is = same_step _ refl tt
