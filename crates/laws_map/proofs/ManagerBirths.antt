-- Which streams come to be at the manager, and to whom it says that they are there: users' own come to be, and those of a list that it takes; and
-- it says so to who asked for a list.
use Rattle.std.proofs.Common.{◌≡◌, ◌⊎◌, ℕ, zero, suc, Bool, true, false, not, ◌&&◌, ◌==◌, ◌+◌, nat_le, nat_lt, length, List, [], ◌∷◌, ◌++◌, Option, Some, None, Result, Ok, Err, Contains, refl, sym, ap, ◌∙◌, subst, inl, inr, arith, if◌then◌else◌}
use Rattle.std.proofs.lemmas.Bool.{eqb-true}
use Rattle.std.specs.List.{list_any}
use Rattle.block_types.specs.declared.record.Nodes.{Nodes}
use Rattle.wire.specs.declared.actor.ActorId.{ActorId}
use Rattle.wire.specs.declared.actor.ActorId.TheVariants.{Manager}
use Rattle.wire.specs.declared.actor.ReqNo.{ReqNo}
use Rattle.wire.specs.declared.body.AppendBody.{AppendBody}
use Rattle.wire.specs.declared.body.AppendBody.TheVariants as appends
use Rattle.wire.specs.declared.body.SealBody.{SealBody}
use Rattle.wire.specs.declared.body.SealBody.TheVariants as seals
use Rattle.wire.specs.declared.body.StreamBody.{StreamBody}
use Rattle.wire.specs.declared.body.StreamBody.TheVariants as streams
use Rattle.wire.specs.declared.body.Body.{Body}
use Rattle.wire.specs.declared.body.Body.TheVariants as bodies
use Rattle.wire.specs.declared.packet.Packet.{Packet}
use Rattle.wire.specs.declared.refusal.Refusal.{Refusal}
use Rattle.wire.specs.declared.refusal.Refusal.TheVariants as refusals
use Rattle.wire.specs.declared.streams.Modify.{Modify}
use Rattle.wire.specs.declared.streams.StreamName.{StreamName}
use Rattle.streams.specs.Streams.{Stream, Streams, stream_of, with_stream, fenced_at, opened, longer, extended_if, trimmed_if, shorter, log_name, blob_data_name, joined, built, modified, behind, last_of, is_number, extending, trim_of, base_of, trimming, create_fault, may_list, has_fence, is_open_at_the_end, build_fault, or_later, first_build_fault}
use Rattle.model_streams.specs.declared.extent.Asker.{Asker}
use Rattle.model_streams.specs.declared.extent.Extent.{Extent}
use Rattle.model_streams.specs.Actors.{is_user, generation_of}
use Rattle.model_streams.specs.Manager as catalog
use Rattle.model_streams.specs.Manager.{Catalog, is_there, is_foreign, sealed_lengths}
use Rattle.model_streams.specs.Outcome.{Outcome, silent, refused, or_refused}
use Rattle.model_streams.proofs.Tests.{if_elim, none_met}
use Rattle.laws_streams.proofs.BuildTests.{BuildsAll, modified_keeps, builds_of}
use Rattle.laws_streams.proofs.RisingFences.{with_here}
use Rattle.laws_streams.proofs.StreamNames.{with_stream_elim}
use Rattle.laws_map.specs.Naming.{Each}
use Rattle.laws_streams.proofs.KeptStreams.{seal_same}
use Rattle.laws_map.proofs.LayerAnswers.{IsOther, IsOtherIf, met_other, OtherBody, AreOther}

-- ---- streams that are there

abbrev pub IsIn : Streams → StreamName → Type 0
IsIn ss name = (x : Stream) × (stream_of ss name ≡ Some x)

abbrev pub AllIn : Streams → List Modify → Type 0
AllIn ss list = (m : Modify) → Contains list m → IsIn ss m.stream

-- one of the list's is there
abbrev pub OneIn : Streams → List Modify → Type 0
OneIn ss list = (m : Modify) × Contains list m × IsIn ss m.stream

with_in : (ss : Streams) (s : StreamName) (x : Stream) (name : StreamName) → IsIn (with_stream ss s x) name → (s ≡ name) ⊎ IsIn ss name
with_in ss s x name (z, is) = with_stream_elim (λ o. o ≡ Some z → (s ≡ name) ⊎ IsIn ss name) ss s x name (λ k e. inl (sym k)) (λ e. inr (z, e)) is

-- a stream in the place of one that is there
with_old : (ss : Streams) (s : StreamName) (x : Stream) → IsIn ss s → (name : StreamName) → IsIn (with_stream ss s x) name → IsIn ss name
with_old ss s x old name there = elim (with_in ss s x name there) [ inl same ↦ subst (IsIn ss) same old | inr before ↦ before ]

opened_in : (ss : Streams) (range generation : ℕ) (name : StreamName) → IsIn (opened ss range generation) name → IsIn ss name
opened_in ss range generation name (z, is) = go (name.range == range) is
  where
    fenced : (o : Option Stream) → fenced_at generation o ≡ Some z → (y : Stream) × (o ≡ Some y)
    fenced None e = absurd cc
    fenced (Some y) e = (y, refl)

    go : (b : Bool) → (if b then fenced_at generation (stream_of ss name) else stream_of ss name) ≡ Some z → IsIn ss name
    go true e = fenced (stream_of ss name) e
    go false e = (z, e)

extended_in : (ss : Streams) (s : StreamName) (e : ℕ) (o : Option Stream) → stream_of ss s ≡ o → (name : StreamName) → IsIn (extended_if ss s e o) name → IsIn ss name
extended_in ss s e None is name there = there
extended_in ss s e (Some x) is name there = with_old ss s (longer e x) (x, is) name there

trimmed_in : (ss : Streams) (range before : ℕ) (to_blob : Bool) (log blob : Option Stream) → stream_of ss (log_name range) ≡ log → stream_of ss (blob_data_name range) ≡ blob → (name : StreamName) → IsIn (trimmed_if ss range before to_blob log blob) name → IsIn ss name
trimmed_in ss range before to_blob None blob is has name there = there
trimmed_in ss range before to_blob (Some log) None is has name there = there
trimmed_in ss range before to_blob (Some log) (Some blob) is has name there =
    elim (with_in (with_stream ss (log_name range) (shorter before log)) (blob_data_name range) _ name there) [
      | inl same ↦ subst (IsIn ss) same (blob, has)
      | inr more ↦ with_old ss (log_name range) (shorter before log) (log, is) name more
    ]

first_in : (m : Modify) (list : List Modify) → Contains (m ∷ list) m
first_in m list = (0, omega arith, refl)

later_in : (n m : Modify) (list : List Modify) → Contains list m → Contains (n ∷ list) m
later_in n m list (k, less, is) = (suc k, omega (arith, less), is)

modified_in : (list : List Modify) (ss : Streams) (name : StreamName) → IsIn (modified ss list) name → IsIn ss name ⊎ ((m : Modify) × Contains list m × (m.stream ≡ name))
modified_in [] ss name there = inl there
modified_in (m ∷ list) ss name there = elim (modified_in list (built ss m) name there) [
  | inl before ↦ elim (with_in ss m.stream (joined ss m.sources) name before) [ inl same ↦ inr (m, first_in m list, same) | inr old ↦ inl old ]
  | inr (n, among, same) ↦ inr (n, later_in m n list among, same)
]

-- those that are built are there
pub built_in : (sealed : ℕ → Option ℕ) (list : List Modify) (ss : Streams) → BuildsAll sealed ss list → (m : Modify) → Contains list m → IsIn (modified ss list) m.stream
built_in sealed [] ss all m (k, less, is) = absurd (omega (arith, less))
built_in sealed (n ∷ list) ss all m (zero, less, is) =
    subst (λ (y : Modify). IsIn (modified ss (n ∷ list)) y.stream) is
    (joined ss n.sources, modified_keeps sealed list (built ss n) all.1 n.stream (joined ss n.sources) (with_here ss n.stream (joined ss n.sources)))
built_in sealed (n ∷ list) ss all m (suc k, less, is) = built_in sealed list (built ss n) all.1 m (k, omega (arith, less), is)

-- ---- a name that is taken

-- no two streams of the list have one name
abbrev pub AllApart : List Modify → Type 0
AllApart [] = Unit {0}
AllApart (m ∷ list) = ((n : Modify) → Contains list n → m.stream ≡ n.stream → ⊥) × AllApart list

found_there : (o : Option Stream) → is_there o ≡ true → (x : Stream) × (o ≡ Some x)
found_there None t = absurd cc
found_there (Some x) t = (x, refl)

fault_taken : (sealed : ℕ → Option ℕ) (ss : Streams) (m : Modify) → build_fault sealed ss m ≡ Some refusals.NameTaken → IsIn ss m.stream
fault_taken sealed ss m =
    if_elim (λ o. o ≡ Some refusals.NameTaken → IsIn ss m.stream) (is_there (stream_of ss m.stream)) (Some refusals.NameTaken) _ (λ t e. found_there (stream_of ss m.stream) t)
    (λ a. if_elim (λ o. o ≡ Some refusals.NameTaken → IsIn ss m.stream) (list_any (λ s. not (is_there (stream_of ss s.stream))) m.sources) (Some refusals.NoSuchStream) _ (λ t e. absurd cc)
    (λ b. if_elim (λ o. o ≡ Some refusals.NameTaken → IsIn ss m.stream) (list_any (λ s. not (has_fence s.generation (stream_of ss s.stream))) m.sources) (Some refusals.Stale) _ (λ t e. absurd cc)
    (λ c. if_elim (λ o. o ≡ Some refusals.NameTaken → IsIn ss m.stream) (list_any (λ s. is_open_at_the_end sealed (stream_of ss s.stream)) m.sources) (Some refusals.LastOpen) None (λ t e. absurd cc) (λ d e. absurd cc))))

first_taken : (sealed : ℕ → Option ℕ) (list : List Modify) (ss : Streams) → AllApart list → first_build_fault sealed ss list ≡ Some refusals.NameTaken → OneIn ss list
first_taken sealed [] ss apart is = absurd cc
first_taken sealed (m ∷ list) ss apart is = go (build_fault sealed ss m) refl is (first_taken sealed list (built ss m) apart.1)
  where
    go : (o : Option Refusal) → build_fault sealed ss m ≡ o → or_later o (first_build_fault sealed (built ss m) list) ≡ Some refusals.NameTaken → (first_build_fault sealed (built ss m) list ≡ Some refusals.NameTaken → OneIn (built ss m) list) → OneIn ss (m ∷ list)
    go (Some refusal) fault e rest = (m, first_in m list, fault_taken sealed ss m (fault ∙ e))
    go None fault e rest =
        let (n, among, there) = rest e in
        elim (with_in ss m.stream (joined ss m.sources) n.stream there) [ inl same ↦ absurd (apart.0 n among same) | inr old ↦ (n, later_in m n list among, old) ]

modify_taken_in : (b : Catalog) (p : Packet) (list : List Modify) → AllApart list → catalog.modify_refusal b p list ≡ Some refusals.NameTaken → OneIn b.stream list
modify_taken_in b p list apart =
    if_elim (λ o. o ≡ Some refusals.NameTaken → OneIn b.stream list) (is_user p.from) (Some refusals.Stale) _ (λ t e. absurd cc)
    (λ f. if_elim (λ o. o ≡ Some refusals.NameTaken → OneIn b.stream list) (may_list list) _ (Some refusals.NoSuchStream) (λ t e. first_taken (sealed_lengths b) list b.stream apart e) (λ t e. absurd cc))

-- ---- the rules of the manager

-- what the packet asked for, and who asked, is told: all that it lists are there, or one is
pub record HearsBuild (ss : Streams) (taken : Packet) (q : ReqNo) : Type 0 where
  pub list : List Modify
  pub body : taken.body ≡ bodies.Stream (streams.MultiModify list q)
  pub there : AllIn ss list ⊎ OneIn ss list

-- a user is told
abbrev IsAtUser : ActorId → Type 0
IsAtUser to = is_user to ≡ true

abbrev ToldRefusal : Streams → Packet → ActorId → ReqNo → Refusal → Type 0
ToldRefusal ss taken to q refusals.NameTaken = IsAtUser to ⊎ HearsBuild ss taken q
ToldRefusal ss taken to q refusal = Unit {0}

abbrev ToldAppend : Streams → Packet → ActorId → AppendBody → Type 0
ToldAppend ss taken to (appends.Refused q refusal) = ToldRefusal ss taken to q refusal
ToldAppend ss taken to body = Unit {0}

abbrev ToldStream : Streams → Packet → ActorId → StreamBody → Type 0
ToldStream ss taken to (streams.Modified q) = IsAtUser to ⊎ HearsBuild ss taken q
ToldStream ss taken to body = Unit {0}

abbrev pub Told : Streams → Packet → ActorId → Body → Type 0
Told ss taken to (bodies.Append body) = ToldAppend ss taken to body
Told ss taken to (bodies.Stream body) = ToldStream ss taken to body
Told ss taken to body = Unit {0}

-- a stream that is new: a user's, or one of a list that the packet asked for, of which all are there
pub record IsListed (b : Catalog) (ss : Streams) (p : Packet) (name : StreamName) : Type 0 where
  pub list : List Modify
  pub request : ReqNo
  pub body : p.body ≡ bodies.Stream (streams.MultiModify list request)
  pub entry : Modify
  pub among : Contains list entry
  pub is : entry.stream ≡ name
  pub there : AllIn ss list
  pub free : catalog.modify_refusal b p list ≡ None

abbrev pub IsBorn : Catalog → Streams → Packet → StreamName → Type 0
IsBorn b ss p name = (name.range ≡ 0) ⊎ IsListed b ss p name

module _ (b : Catalog) (p : Packet) (creates : (s : StreamName) (fence : ℕ) (q : ReqNo) → p.body ≡ bodies.Stream (streams.CreateStream s fence q) → is_user p.from ≡ true)
    (apart : (list : List Modify) (q : ReqNo) → p.body ≡ bodies.Stream (streams.MultiModify list q) → AllApart list) where
  pub record Does (o : Outcome Catalog) : Type 0 where
    pub tells : Each (λ (x : Packet). Told o.after.stream p x.to x.body) o.packets
    pub born : (name : StreamName) → IsIn o.after.stream name → IsIn b.stream name ⊎ IsBorn b o.after.stream p name

  -- streams stay those that they are
  abbrev Same : Streams → Type 0
  Same ss = (name : StreamName) → IsIn ss name → IsIn b.stream name

  same_does : (o : Outcome Catalog) → Each (λ (x : Packet). Told o.after.stream p x.to x.body) o.packets → Same o.after.stream → Does o
  same_does o tells same = record { tells = tells; born = λ name there. inl (same name there) }

  quiet_does : (o : Outcome Catalog) → Each (λ (x : Packet). Told o.after.stream p x.to x.body) o.packets → o.after.stream ≡ b.stream → Does o
  quiet_does o tells is = same_does o tells (λ name there. subst (λ (ss : Streams). IsIn ss name) is there)

  other_told : (q : ReqNo) (refusal : Refusal) → IsOther refusal → ToldRefusal b.stream p p.from q refusal
  other_told q refusals.NameTaken other = absurd other
  other_told q refusal other = tt

  refused_does : (q : ReqNo) (refusal : Refusal) → IsOther refusal → Does (refused b Manager p q refusal)
  refused_does q refusal other = quiet_does (refused b Manager p q refusal) (other_told q refusal other, tt) refl

  unless_does : (q : ReqNo) (x : Option Refusal) (o : Outcome Catalog) → IsOtherIf x → Does o → Does (or_refused b Manager p q x o)
  unless_does q (Some refusal) o other taken = refused_does q refusal other
  unless_does q None o other taken = taken

  create_does : (s : StreamName) (fence : ℕ) (q : ReqNo) → p.body ≡ bodies.Stream (streams.CreateStream s fence q) → Does (catalog.create_rule b p s (generation_of p.from fence) q)
  create_does s fence q is = by (catalog.create_refusal b p s) refl
    where
      user_told : (refusal : Refusal) → ToldRefusal b.stream p p.from q refusal
      user_told refusals.NameTaken = inl (creates s fence q is)
      user_told refusal = tt

      own : is_foreign p.from s.range ≡ false → s.range ≡ 0
      own f = zero_of (s.range == 0) refl (ap (λ u. u && not (s.range == 0)) (sym (creates s fence q is)) ∙ f)
        where
          zero_of : (t : Bool) → (s.range == 0) ≡ t → not (s.range == 0) ≡ false → s.range ≡ 0
          zero_of true e f = eqb-true s.range 0 e
          zero_of false e f = absurd (let z : true ≡ false = sym (ap not e) ∙ f in cc)

      by : (x : Option Refusal) → catalog.create_refusal b p s ≡ x → Does (or_refused b Manager p q x (catalog.create_taken b p s (generation_of p.from fence) q))
      by (Some refusal) none = quiet_does (refused b Manager p q refusal) (user_told refusal, tt) refl
      by None none = record {
        tells = (tt, tt);
        born = λ name there. elim (with_in b.stream s _ name there) [
          | inl same ↦ inr (inl (ap (λ (n : StreamName). n.range) (sym same) ∙ own (none_met ((refusals.Stale, is_foreign p.from s.range) ∷ (refusals.NameTaken, is_there (create_fault b.stream s)) ∷ []) none).0))
          | inr old ↦ inl old
        ];
      }

  last_does : (e : ℕ) (o : Option Extent) (q : ReqNo) → Does (catalog.last_told b p e o q)
  last_does e None q = quiet_does _ tt refl
  last_does e (Some x) q = quiet_does _ (tt, tt) refl

  abbrev OtherErr : {A : Type 0} → Result A Refusal → Type 0
  OtherErr (Err refusal) = IsOther refusal
  OtherErr (Ok x) = Unit {0}

  extending_other : (o : Option Stream) (generation : ℕ) (last : Option ℕ) → OtherErr (extending (sealed_lengths b) o generation last)
  extending_other None generation last = tt
  extending_other (Some x) generation last = if_elim OtherErr (generation == x.fence) _ _ (λ t. behind_other (last_of x.extents)) (λ f. tt)
    where
      behind_other : (o : Option ℕ) → OtherErr (behind (sealed_lengths b) o last)
      behind_other None = tt
      behind_other (Some e) = if_elim OtherErr (is_number e last) _ _ (λ t. if_elim OtherErr (is_there (sealed_lengths b e)) _ _ (λ s. tt) (λ s. tt)) (λ f. tt)

  extend_answered_does : (s : StreamName) (generation : ℕ) (pick : Nodes) (q : ReqNo) (x : Result (Option ℕ) Refusal) → OtherErr x → Does (catalog.extend_answered b p s generation pick q x)
  extend_answered_does s generation pick q (Err refusal) other = refused_does q refusal other
  extend_answered_does s generation pick q (Ok None) other =
      if_elim Does (catalog.is_pick b.nodes pick) (catalog.extend_made b p s generation pick q) (refused b Manager p q refusals.BadPick)
      (λ t. same_does _ (tt, (tt, (tt, (tt, tt)))) (λ name there. extended_in b.stream s _ (stream_of b.stream s) refl name there)) (λ t. refused_does q refusals.BadPick tt)
  extend_answered_does s generation pick q (Ok (Some e)) other = last_does e (b.extent e) q

  extend_does : (s : StreamName) (generation : ℕ) (last : Option ℕ) (pick : Nodes) (q : ReqNo) → Does (catalog.extend_rule b p s generation last pick q)
  extend_does s generation last pick q =
      if_elim Does (is_foreign p.from s.range) (refused b Manager p q refusals.Stale) _ (λ t. refused_does q refusals.Stale tt)
      (λ t. extend_answered_does s generation pick q (extending (sealed_lengths b) (stream_of b.stream s) generation last) (extending_other (stream_of b.stream s) generation last))

  abbrev OtherTrim : Result Bool Refusal → Type 0
  OtherTrim x = OtherErr x

  trimming_other : (log blob : Option Stream) (generation before : ℕ) → OtherErr (trim_of log blob generation before)
  trimming_other None blob generation before = tt
  trimming_other (Some log) None generation before = tt
  trimming_other (Some log) (Some blob) generation before =
      if_elim OtherTrim (log.fence == generation) _ _
      (λ t. if_elim OtherTrim (nat_le before (base_of log)) (Ok false) _ (λ s. tt) (λ s. if_elim OtherTrim (nat_lt before (base_of log + length log.extents)) (Ok true) (Err refusals.LastOpen) (λ r. tt) (λ r. tt))) (λ f. tt)

  trim_does : (range generation before : ℕ) (to_blob : Bool) (q : ReqNo) → Does (catalog.trim_rule b p range generation before to_blob q)
  trim_does range generation before to_blob q =
      if_elim Does (is_user p.from) (refused b Manager p q refusals.Stale) _ (λ t. refused_does q refusals.Stale tt)
      (λ t. by_answer (trimming b.stream range generation before) (trimming_other (b.stream range 1) (b.stream range 3) generation before))
    where
      by_answer : (x : Result Bool Refusal) → OtherErr x → Does (catalog.trim_answered b p range before to_blob q x)
      by_answer (Err refusal) other = refused_does q refusal other
      by_answer (Ok false) other = quiet_does _ (tt, tt) refl
      by_answer (Ok true) other = same_does _ (tt, tt) (λ name there. trimmed_in b.stream range before to_blob (b.stream range 1) (b.stream range 3) refl refl name there)

  modify_does : (list : List Modify) (q : ReqNo) → p.body ≡ bodies.Stream (streams.MultiModify list q) → Does (catalog.modify_rule b p list q)
  modify_does list q is = by (catalog.modify_refusal b p list) refl
    where
      taken_told : (refusal : Refusal) → catalog.modify_refusal b p list ≡ Some refusal → ToldRefusal b.stream p p.from q refusal
      taken_told refusals.NameTaken none = inr (record { list = list; body = is; there = inr (modify_taken_in b p list (apart list q is) none) })
      taken_told refusal none = tt

      by : (x : Option Refusal) → catalog.modify_refusal b p list ≡ x → Does (or_refused b Manager p q x (catalog.modify_taken b p list q))
      by (Some refusal) none = quiet_does (refused b Manager p q refusal) (taken_told refusal none, tt) refl
      by None none =
          let all : AllIn (modified b.stream list) list = built_in (sealed_lengths b) list b.stream (builds_of b p list none).1 in
          record {
            tells = (inr (record { list = list; body = is; there = inl all }), tt);
            born = λ name there. elim (modified_in list b.stream name there) [
              | inl old ↦ inl old
              | inr (m, among, same) ↦ inr (inr (record { list = list; request = q; body = is; entry = m; among = among; is = same; there = all; free = none }))
            ];
          }

  stream_does : (body : StreamBody) → p.body ≡ bodies.Stream body → Does (catalog.stream_body_rule b p body)
  stream_does (streams.CreateStream s fence q) is = create_does s fence q is
  stream_does (streams.OpenStreams range generation q) is =
      unless_does q (catalog.open_refusal b p range generation) (catalog.open_taken b p range generation q) (met_other (catalog.open_tests b p range generation) (tt, (tt, (tt, tt))))
      (same_does (catalog.open_taken b p range generation q) (tt, tt) (λ name there. opened_in b.stream range generation name there))
  stream_does (streams.Confirm range generation q) is =
      unless_does q (catalog.confirm_refusal b p range generation) _ (met_other (catalog.confirm_tests b p range generation) (tt, (tt, (tt, tt)))) (quiet_does _ (tt, tt) refl)
  stream_does (streams.Extend s generation last pick q) is = extend_does s (generation_of p.from generation) last pick q
  stream_does (streams.Trim range generation before to_blob q) is = trim_does range generation before to_blob q
  stream_does (streams.MultiModify list q) is = modify_does list q is
  stream_does body is = quiet_does (silent b) tt refl

  -- ---- seals

  other_append : (x : Packet) (body : AppendBody) → OtherBody (bodies.Append body) → Told b.stream p x.to (bodies.Append body)
  other_append x (appends.Refused q refusal) other = by refusal other
    where
      by : (refusal : Refusal) → IsOther refusal → ToldRefusal b.stream p x.to q refusal
      by refusals.NameTaken other = absurd other
      by refusal other = tt
  other_append x body other = tt

  other_stream : (x : Packet) (body : StreamBody) → OtherBody (bodies.Stream body) → Told b.stream p x.to (bodies.Stream body)
  other_stream x (streams.Modified q) other = absurd other
  other_stream x body other = tt

  other_body : (x : Packet) (body : Body) → OtherBody body → Told b.stream p x.to body
  other_body x (bodies.Append body) other = other_append x body other
  other_body x (bodies.Stream body) other = other_stream x body other
  other_body x body other = tt

  all_other : (packets : List Packet) → AreOther packets → Each (λ (x : Packet). Told b.stream p x.to x.body) packets
  all_other [] other = tt
  all_other (x ∷ packets) other = (other_body x x.body other.0, all_other packets other.1)

  reminders_other : (e : ℕ) (x : Extent) → AreOther (catalog.reminders b e x)
  reminders_other e x = (tt, (tt, (tt, (tt, (tt, (tt, tt))))))

  both_other : (xs ys : List Packet) → AreOther xs → AreOther ys → AreOther (xs ++ ys)
  both_other [] ys a c = c
  both_other (x ∷ xs) ys a c = (a.0, both_other xs ys a.1 c)

  seal_asked_other : (e : ℕ) (q : ReqNo) (x : Extent) (o : Option ℕ) → AreOther (catalog.seal_asked b p e q x o).packets
  seal_asked_other e q x None = reminders_other e x
  seal_asked_other e q x (Some l) = both_other (catalog.reminders b e x) (catalog.told_sealed p.from q e l) (reminders_other e x) (tt, tt)

  seal_extent_other : (e : ℕ) (q : ReqNo) (o : Option Extent) → AreOther (catalog.seal_extent_rule b p e q o).packets
  seal_extent_other e q None = (tt, tt)
  seal_extent_other e q (Some x) = seal_asked_other e q x x.sealed

  noted_other : (e : ℕ) (o : Option Extent) → AreOther (catalog.noted b e o).packets
  noted_other e None = tt
  noted_other e (Some x) = tt

  frozen_other : (e l : ℕ) (o : Option Extent) → AreOther (catalog.frozen_rule b p e l o).packets
  frozen_other e l None = tt
  frozen_other e l (Some x) = if_elim (λ (o : Outcome Catalog). AreOther o.packets) (is_there x.sealed) (silent b) _ (λ t. tt) (λ f. noted_other e (catalog.with_report x p.from (catalog.frozen_to l)))

  is_sealed_other : (e : ℕ) (o : Option Extent) → AreOther (catalog.is_sealed_rule b p e o).packets
  is_sealed_other e None = tt
  is_sealed_other e (Some x) = noted_other e (catalog.with_report x p.from catalog.known_sealed)

  tail_other : (e l : ℕ) (to n : Option ℕ) → AreOther (catalog.asks_tail b e l to n).packets
  tail_other e l (Some to) (Some n) = (tt, tt)
  tail_other e l (Some to) None = tt
  tail_other e l None (Some n) = tt
  tail_other e l None None = tt

  short_other : (e l : ℕ) (o : Option Extent) → AreOther (catalog.short_rule b p e l o).packets
  short_other e l None = tt
  short_other e l (Some x) =
      if_elim (λ (o : Outcome Catalog). AreOther o.packets) (is_there x.sealed) (catalog.asks_tail b e l (catalog.place_of x.places p.from) (catalog.first_sealed x)) (silent b)
      (λ t. tail_other e l (catalog.place_of x.places p.from) (catalog.first_sealed x)) (λ f. tt)

  seals_other : (body : SealBody) → AreOther (catalog.seal_body_rule b p body).packets
  seals_other (seals.SealExtent e q) = seal_extent_other e q (b.extent e)
  seals_other (seals.Frozen e l) = frozen_other e l (b.extent e)
  seals_other (seals.IsSealed e) = is_sealed_other e (b.extent e)
  seals_other (seals.Short e l) = short_other e l (b.extent e)
  seals_other body = tt

  same_streams : (o : Outcome Catalog) → AreOther o.packets → o.after.stream ≡ b.stream → Does o
  same_streams o other is = quiet_does o (subst (λ (ss : Streams). Each (λ (x : Packet). Told ss p x.to x.body) o.packets) (sym is) (all_other o.packets other)) is

  -- what it does with a packet
  pub manager_does : (body : Body) → p.body ≡ body → Does (catalog.manager_rule b p body)
  manager_does (bodies.Stream body) is = stream_does body is
  manager_does (bodies.Seal body) is = same_streams (catalog.seal_body_rule b p body) (seals_other body) (seal_same b p body)
  manager_does body is = quiet_does (silent b) tt refl

  asker_other : (e l : ℕ) (o : Option Asker) → AreOther (catalog.tells_asker e l o)
  asker_other e l None = tt
  asker_other e l (Some x) = (tt, tt)

  -- and what it decides
  decided_other : (e : ℕ) (x : Extent) (o : Option ℕ) → AreOther (catalog.decided_if b e x o).packets
  decided_other e x None = tt
  decided_other e x (Some l) = both_other (catalog.reminders b e (catalog.sealed_to x l)) (catalog.tells_asker e l x.asker) (reminders_other e (catalog.sealed_to x l)) (asker_other e l x.asker)

  pub decide_other : (e : ℕ) (o : Option Extent) → AreOther (catalog.decide_rule b e o).packets
  decide_other e None = tt
  decide_other e (Some x) = if_elim (λ (o : Outcome Catalog). AreOther o.packets) (is_there x.sealed) _ _ (λ t. reminders_other e x) (λ f. decided_other e x (catalog.least_told x))
