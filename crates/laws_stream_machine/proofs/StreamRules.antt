-- The rules of the manager's table about streams, as steps of the machine of one stream.
use Rattle.std.proofs.Common.{◌≡◌, ◌≢◌, ◌⊎◌, ℕ, zero, suc, ◌+◌, ◌-◌, ◌<◌, ◌≤◌, Bool, true, false, not, nat_lt, List, [], ◌∷◌, ◌++◌, length, Option, Some, None, Result, Ok, Err, slice_get, Contains, refl, sym, ap, ◌∙◌, subst, inl, inr, arith, if◌then◌else◌, ◌==◌, eq-eqb, length-append}
use Rattle.std.proofs.lemmas.Bool.Decides.{nat_tests}
use Rattle.std.proofs.lemmas.Bool.{cases_lt, and_cases, ltb-true, not-false, eqb-true}
use Rattle.block_types.specs.declared.record.Nodes.{Nodes}
use Rattle.wire.specs.declared.actor.ActorId.{ActorId}
use Rattle.wire.specs.declared.actor.ActorId.TheVariants.{Manager, Server}
use Rattle.wire.specs.declared.actor.ReqNo.{ReqNo}
use Rattle.wire.specs.declared.body.StreamBody.{StreamBody}
use Rattle.wire.specs.declared.body.StreamBody.TheVariants.{CreateStream, Created, OpenStreams, Opened, Confirm, Confirmed, Extend, Extended, Trim, Trimmed, MultiModify}
use Rattle.wire.specs.declared.body.Body.{Body}
use Rattle.wire.specs.declared.body.Body.TheVariants as bodies
use Rattle.wire.specs.declared.packet.Packet.{Packet}
use Rattle.wire.specs.declared.refusal.Refusal.{Refusal}
use Rattle.wire.specs.declared.refusal.Refusal.TheVariants.{Stale, BadPick}
use Rattle.wire.specs.declared.streams.Modify.{Modify}
use Rattle.wire.specs.declared.streams.StreamExtent.{StreamExtent}
use Rattle.wire.specs.declared.streams.StreamKind.{StreamKind}
use Rattle.wire.specs.declared.streams.StreamKind.TheVariants as kinds
use Rattle.wire.specs.declared.streams.StreamList.{StreamList}
use Rattle.wire.specs.declared.streams.StreamName.{StreamName}
use Rattle.replica.specs.Groups.{Group}
use Rattle.streams.specs.Streams.{Stream, Streams, base_of, whole, stream_of, kind_number, empty_stream, created, opened as opened_at, fenced_at, all_pass, passes, extending, last_of, longer, extended_if, shorter, joined, built, modified, trimmed, trimming}
use Rattle.model_streams.specs.declared.extent.Extent.{Extent}
use Rattle.model_streams.specs.Actors.{is_user, generation_of}
use Rattle.model_streams.specs.Manager.{Catalog, told_stream, told_streams, open_tests, open_refusal, open_taken, confirm_tests, confirm_refusal, answer, create_tests, create_refusal, create_taken, trim_answered, trim_rule, modify_refusal, modify_taken, modify_rule, open_rule, confirm_rule, stream_body_rule, seal_body_rule, manager_rule, is_foreign, is_pick, new_extent, sealed_in, sealed_lengths, extend_made, last_told, extend_answered, extend_rule}
use Rattle.model_streams.specs.Outcome.{Outcome, refused, or_refused}
use Rattle.model_streams.specs.StreamSystem.{StreamSystem, after_manager_rule, is_server_call}
use Rattle.model_streams.proofs.Tests.{if_elim, none_met}
use Rattle.laws_streams.specs.Answers.{MayGrow}
use Rattle.laws_streams.specs.Listings.{Listed, IsRising}
use Rattle.laws_streams.proofs.BuildRequests.{ServersAsk}
use Rattle.laws_streams.proofs.BuildTests.{modified_keeps, builds_of}
use Rattle.laws_streams.proofs.Choices.{Each, changed-same, changed-other}
use Rattle.laws_streams.proofs.Lists.{get_left, get_next}
use Rattle.laws_streams.proofs.WholeLists.{whole_get, whole_last, whole_longer}
use Rattle.laws_streams.proofs.TrimTests.{Trims, trims, trimmed_elim, shorter_whole}
use Rattle.laws_streams.proofs.KeptStreams.{seal_same}
use Rattle.laws_streams.proofs.Ground.{Ground}
use Rattle.laws_streams.proofs.RestsOnGround.{places_of, sealed_of, FineCatalog}
use Rattle.laws_streams.proofs.RisingFences.{all_passed, four_pass, not_there, no_fault, with_here}
use Rattle.laws_streams.proofs.StreamAnswers.{same_packet, found_end, may_grow, is_other}
use Rattle.laws_streams.proofs.ManagerAnswers as manager
use Rattle.model_histories.specs.Story.{Copy}
use Rattle.model_histories.specs.StreamMachine as machine
use Rattle.model_histories.specs.StreamMachine.{In, OpenExtent, MachineState, TakesOpen, TakesConfirm, TakesExtend, count, one_if_live}
use Rattle.laws_stream_machine.specs.Refinement.{Opens, Sent, purpose_of, extents_of, extents_in, IsAsked, AllAsked, last_known, known_of, AsksToOpen, AsksToConfirm, AsksToExtend, Tells, list_of, StreamMeans, purpose_if, stream_meant}
use Rattle.laws_stream_machine.proofs.FactSources.{Lawful}
use Rattle.laws_stream_machine.proofs.StepSequences.{Onward, Walk, stand, steps_to, shut_within}
use Rattle.laws_stream_machine.proofs.ExtentSteps.{floor_born, new_tied}
use Rattle.laws_stream_machine.proofs.MachineCore.{LiveThere, FencedBy, Shaped, same_shape, pushed_get, get_front}
use Rattle.laws_stream_machine.proofs.SentPackets.{Called}
use Rattle.laws_stream_machine.proofs.ToldLists.{server_of, is_name_or, with_other, told_length, told_get, sealed_or_last}

-- ---- lists

unequal : (m n : ℕ) → m ≢ n → (m == n) ≡ false
unequal m n other = grind (arith, nat_tests)

last_index : (es : List ℕ) (e : ℕ) → last_of es ≡ Some e → (index : ℕ) × (slice_get es index ≡ Some e) × (suc index ≡ length es)
last_index [] e is = absurd cc
last_index (x ∷ []) e is = (0, is, refl)
last_index (x ∷ y ∷ es) e is = let (i, at, end) = last_index (y ∷ es) e is in (suc i, at, omega (arith, end))

none_last : (es : List ℕ) → last_of es ≡ None → length es ≡ 0
none_last [] is = refl
none_last (x ∷ []) is = absurd cc
none_last (x ∷ y ∷ es) is = let m = none_last (y ∷ es) is in absurd (omega (arith, m))

known_at : (es : List ℕ) (index e : ℕ) → slice_get es index ≡ Some e → last_known es (suc index) ≡ Some e
known_at es index e at =
    let e1 : suc index - 1 ≡ index = omega arith in
    let z : (suc index == 0) ≡ false = unequal (suc index) 0 (λ c. omega (arith, c)) in
    rw (z, e1) at

known_index : (es : List ℕ) (n e : ℕ) → last_known es n ≡ Some e → (index : ℕ) × (n ≡ suc index) × (slice_get es index ≡ Some e)
known_index es zero e is = absurd cc
known_index es (suc index) e is =
    let e1 : suc index - 1 ≡ index = omega arith in
    let z : (suc index == 0) ≡ false = unequal (suc index) 0 (λ c. omega (arith, c)) in
    (index, refl, subst (λ i. slice_get es i ≡ Some e) e1 (subst (λ c. (if c then None else slice_get es (suc index - 1)) ≡ Some e) z is))

-- the manager's list of the stream, and its order
pub record IsListed (w : StreamSystem) (name : StreamName) : Type 0 where
  pub listed : (x : Stream) → stream_of w.catalog.stream name ≡ Some x → Listed w.catalog name x
  pub rising : (x : Stream) → stream_of w.catalog.stream name ≡ Some x → IsRising x

-- no extent stands twice in a list that rises
pub same_index : (x : Stream) → IsRising x → (i j e : ℕ) → slice_get (whole x) i ≡ Some e → slice_get (whole x) j ≡ Some e → i ≡ j
same_index x rising i j e at there = elim (cases_lt i j) [
  | inl below ↦ let m = rising i j e e below at there in absurd (omega (arith, m))
  | inr le ↦ elim (cases_lt j i) [
    | inl below ↦ let m = rising j i e e below there at in absurd (omega (arith, m))
    | inr ge ↦ omega (arith, le, ge)
  ]
]

-- ---- what has left a list

none_told : (es : List ℕ) → length es ≡ 0 → es ≡ []
none_told [] is = refl
none_told (e ∷ es) is = absurd (omega (arith, is))

got_within : (es : List ℕ) (k : ℕ) → k < length es → (e : ℕ) × (slice_get es k ≡ Some e)
got_within [] k inside = absurd (omega (arith, inside))
got_within (e ∷ es) zero inside = (e, refl)
got_within (e ∷ es) (suc k) inside = got_within es k (omega (arith, inside))

one_at_most : (l : Option (OpenExtent Group)) → one_if_live l ≤ 1
one_at_most None = omega arith
one_at_most (Some v) = omega arith

-- the last extent stands behind all that have left
gone_before : (x : Stream) → (x.extents ≡ [] → x.gone ≡ []) → (index : ℕ) → index < base_of x → suc index < length (whole x)
gone_before x ends index below = by_extents x.extents refl
  where
    by_extents : (es : List ℕ) → x.extents ≡ es → suc index < length (x.gone ++ es)
    by_extents [] is = absurd (let none = ap (λ (g : List ℕ). length g) (ends is) in omega (arith, below, none))
    by_extents (e ∷ es) is = omega (arith, below, length-append x.gone (e ∷ es))

module _ (generation : ℕ → ℕ) (name : StreamName) (sent : List Sent) where
  -- what a packet says to a server about streams
  abbrev pub ToldOf : StreamSystem → MachineState Group → Packet → Type 0
  ToldOf v t x = (server : ℕ) → x.to ≡ Server server → (body : StreamBody) → x.body ≡ bodies.Stream body →
      StreamMeans generation name v t sent (purpose_if generation name v t sent (stream_meant body)) body

  -- how many extents there are to the end of what is told of a stream
  told_count : (b : Catalog) (x : Stream) → Listed b name x → known_of (told_stream b.extent (Some x)) ≡ length (whole x)
  told_count b x listed =
      omega (arith, told_length b.extent x.extents (λ i e at. listed.there (base_of x + i) e (whole_get x i ∙ at)), length-append x.gone x.extents)

  -- what is told of a stream as it stands
  pub opened_tells : (v : StreamSystem) (b : Catalog) (x : Stream) (z : Option Stream) (g : Ground) (t : MachineState Group) → Listed b name x → FineCatalog g b → extents_in v name ≡ whole x → extents_of z ≡ whole x →
      Shaped z g t sent → Tells generation name v t sent (told_stream b.extent (Some x))
  opened_tells v b x z g t listed catalog here same shaped =
      let all = λ (i e : ℕ) (at : slice_get x.extents i ≡ Some e). listed.there (base_of x + i) e (whole_get x i ∙ at) in
      let counted = told_length b.extent x.extents all in
      let got = told_get b.extent x.extents all in
      let long = length-append x.gone x.extents in
      record {
        left = λ index below.
            let behind = gone_before x listed.ends index below in
            let (e, at) = got_within (whole x) index (omega (arith, behind)) in
            let one = one_at_most t.core.live in
            let count = ap (λ (xs : List ℕ). length xs) same in
            let shut = shaped.settled.shut index e (subst (λ xs. slice_get xs index ≡ Some e) (sym same) at) (omega (arith, behind, one, count, shaped.settled.counts)) in
            (shut.shut, shut.is);
        whole = λ kind. ap (λ (xs : List ℕ). length xs) (listed.gone (λ log. let c : kinds.Metadata ≡ kinds.Log = sym kind ∙ log in cc));
        ends = λ none. ap (λ (xs : List ℕ). length xs) (listed.ends (none_told x.extents (omega (arith, none, counted))));
        known = omega (arith, counted, long, ap (λ (xs : List ℕ). length xs) here);
        are = λ k y is.
            let (e, extent, at, there, told) = got k y is in
            subst (λ xs. slice_get xs (base_of x + k) ≡ Some y.extent) (sym here) (whole_get x k ∙ at ∙ ap (λ (w : StreamExtent). Some w.extent) (sym told));
        sealed = λ k y l is length_is.
            let (e, extent, at, there, told) = got k y is in
            let sealed : g.sealed e ≡ Some l = catalog.sealed e ∙ ap sealed_of there ∙ ap (λ (w : StreamExtent). w.length) (sym told) ∙ length_is in
            (sealed_or_last z g t sent shaped (base_of x + k) e (subst (λ xs. slice_get xs (base_of x + k) ≡ Some e) (sym same) (whole_get x k ∙ at))).sealed l sealed;
        unsealed = λ k y is length_is.
            let (e, extent, at, there, told) = got k y is in
            let sealed : g.sealed e ≡ None = catalog.sealed e ∙ ap sealed_of there ∙ ap (λ (w : StreamExtent). w.length) (sym told) ∙ length_is in
            let last = ((sealed_or_last z g t sent shaped (base_of x + k) e (subst (λ xs. slice_get xs (base_of x + k) ≡ Some e) (sym same) (whole_get x k ∙ at))).last sealed).0 in
            omega (arith, last, ap (λ (xs : List ℕ). length xs) same, long, counted);
      }

  -- the list of the kind of the name
  pub list_is : (v : StreamSystem) (t : MachineState Group) (b : Catalog) → list_of generation name v t sent name.kind (told_streams b name.range) ≡ told_stream b.extent (stream_of b.stream name)
  list_is v t b = by_kind name.kind
    where
      by_kind : (kind : StreamKind) → list_of generation name v t sent kind (told_streams b name.range) ≡ told_stream b.extent (b.stream name.range (kind_number kind))
      by_kind kinds.Metadata = refl
      by_kind kinds.Log = refl
      by_kind kinds.RowData = refl
      by_kind kinds.BlobData = refl

  -- one of the four is there
  pub one_there : (streams : Streams) (test : Stream → Bool) → all_pass test streams name.range ≡ true → (x : Stream) × (stream_of streams name ≡ Some x)
  one_there streams test t =
      let four = four_pass (passes test (streams name.range 0)) (passes test (streams name.range 1)) (passes test (streams name.range 2)) (passes test (streams name.range 3)) t in
      by_kind name.kind four
    where
      by_stream : (o : Option Stream) → passes test o ≡ true → (x : Stream) × (o ≡ Some x)
      by_stream None p = absurd cc
      by_stream (Some x) p = (x, refl)

      by_kind : (kind : StreamKind) → (passes test (streams name.range 0) ≡ true) × (passes test (streams name.range 1) ≡ true)
          × (passes test (streams name.range 2) ≡ true) × (passes test (streams name.range 3) ≡ true) → (x : Stream) × (streams name.range (kind_number kind) ≡ Some x)
      by_kind kinds.Metadata f = by_stream (streams name.range 0) f.0
      by_kind kinds.Log f = by_stream (streams name.range 1) f.1
      by_kind kinds.RowData f = by_stream (streams name.range 2) f.2
      by_kind kinds.BlobData f = by_stream (streams name.range 3) f.3

  -- ---- a stream, and one more fact of no check

  -- nothing of the core changes
  pub known_more : (o : Option Stream) (g : Ground) (s : MachineState Group) (f : machine.Fact Group) → ((i n : ℕ) → machine.Opened i n ≡ f → ⊥) →
      ((i index : ℕ) (stood : List (Copy Group)) (end : ℕ) → machine.Checked i index stood end ≡ f → ⊥) → Shaped o g s sent → Shaped o g (record s { facts = f ∷ s.facts }) sent
  known_more o g s f not_opened not_checked a = record {
    settled = record {
      fence = by_fence o a.settled.fence;
      counts = a.settled.counts;
      born = a.settled.born;
      made = a.settled.made;
      shut = λ index e at l. let b = a.settled.shut index e at l in record { shut = b.shut; is = b.is; tied = b.tied; sources = b.sources };
      checked = λ i index stood end m. elim m [ inl is ↦ absurd (not_checked i index stood end is) | inr old ↦ a.settled.checked i index stood end old ];
    };
    live = λ v is. let b = a.live v is in record { extent = b.extent; at = b.at; tied = b.tied; sources = b.sources };
  }
    where
      by_fence : (o : Option Stream) → FencedBy s o → FencedBy (record s { facts = f ∷ s.facts }) o
      by_fence None k = (k.0, λ i n m. elim m [ inl is ↦ not_opened i n is | inr old ↦ k.1 i n old ])
      by_fence (Some x) (inl k) = inl k
      by_fence (Some x) (inr k) = inr (k.0, λ i n m. elim m [ inl is ↦ not_opened i n is | inr old ↦ k.1 i n old ])

  -- opened for a generation
  pub opened_shape : (x : Stream) (g : Ground) (s : MachineState Group) (i fence : ℕ) → generation i ≡ fence → Shaped (Some x) g s sent →
      Shaped (Some (record x { fence = fence })) g (machine.next Group generation s (TakesOpen i)) sent
  opened_shape x g s i fence under a = record {
    settled = record {
      fence = inl under;
      counts = a.settled.counts;
      born = a.settled.born;
      made = a.settled.made;
      shut = λ index e at l. let b = a.settled.shut index e at l in record { shut = b.shut; is = b.is; tied = b.tied; sources = b.sources };
      checked = λ j index stood end m. elim m [
        | inl is ↦ absurd cc
        | inr old ↦ let c = a.settled.checked j index stood end old in record { extent = c.extent; at = c.at; begins = c.begins; chain = c.chain; sized = c.sized }
      ];
    };
    live = λ v is. let b = a.live v is in record { extent = b.extent; at = b.at; tied = b.tied; sources = b.sources };
  }

  module _ (w : StreamSystem) (before : MachineState Group) (asked : AllAsked generation name w before sent) (called : (p : Packet) → Contains w.post p → Called p) (lawful : Lawful Group generation before)
      (list : IsListed w name) (from_servers : ServersAsk w.post) (g : Ground) (s : MachineState Group) (on : Onward before s)
      (shaped : Shaped (stream_of w.catalog.stream name) g s sent) (unmade : (e : ℕ) → w.catalog.extent e ≡ None → g.script e ≡ []) (fresh : w.catalog.extent (suc w.catalog.count) ≡ None)
      (p : Packet) (stood : Contains w.post p) (to : p.to ≡ Manager) where
    abbrev b : Catalog
    b = w.catalog

    abbrev pub RuleWalk : Outcome Catalog → Type 0
    RuleWalk o = Walk generation s (λ t. Shaped (stream_of o.after.stream name) g t sent × Each (ToldOf (after_manager_rule w o) t) o.packets)

    -- what the packet asks for, where it comes from a server
    pub asked_for : (server : ℕ) (body : Body) → p.from ≡ Server server → p.body ≡ body → IsAsked generation name w before sent body
    asked_for server body from is = asked server Manager body (subst (Contains w.post) (same_packet p (Server server) Manager body from to is) stood)

    -- ---- rules that are not about this stream

    -- what the packet asks for is not of this stream
    pub record Elsewhere : Type 0 where
      pub opens : (range k : ℕ) (q : ReqNo) → p.body ≡ bodies.Stream (OpenStreams range k q) → range ≡ name.range → ⊥
      pub confirms : (range k : ℕ) (q : ReqNo) → p.body ≡ bodies.Stream (Confirm range k q) → range ≡ name.range → ⊥
      pub extends : (other : StreamName) (k : ℕ) (last : Option ℕ) (pick : Nodes) (q : ReqNo) → p.body ≡ bodies.Stream (Extend other k last pick q) → other ≡ name → ⊥

    elsewhere_streams : Elsewhere → (v : StreamSystem) (t : MachineState Group) (x : Packet) → manager.ManagerTells b p x → ToldOf v t x
    elsewhere_streams away v t x tells server here body is =
        by_body body (subst (manager.BodyTells b p x.to) is tells.1)
      where
        none_of : (q : ReqNo) (from : ActorId) → x.to ≡ from → p.from ≡ from → ((other : ℕ) → p.from ≡ Server other → purpose_of sent q ≡ None) → purpose_of sent q ≡ None
        none_of q from a c none = none server (c ∙ sym a ∙ here)

        by_body : (body : StreamBody) → manager.BodyTells b p x.to (bodies.Stream body) → StreamMeans generation name v t sent (purpose_if generation name v t sent (stream_meant body)) body
        by_body (Opened q lists) f =
            subst (λ z. StreamMeans generation name v t sent z (Opened q lists)) (sym (none_of q p.from f.asker refl (λ other from. (asked_for other _ from f.body).elsewhere (away.opens f.range f.generation q f.body)))) tt
        by_body (Confirmed q) f =
            subst (λ z. StreamMeans generation name v t sent z (Confirmed q)) (sym (none_of q p.from f.asker refl (λ other from. (asked_for other _ from f.body).elsewhere (away.confirms f.range f.generation q f.body)))) tt
        by_body (Extended q e places) f =
            subst (λ z. StreamMeans generation name v t sent z (Extended q e places)) (sym (none_of q p.from f.asker refl (λ other from. (asked_for other _ from f.body).elsewhere (away.extends f.name f.generation f.last f.pick q f.body)))) tt
        by_body other f = tt

    all_elsewhere : Elsewhere → (v : StreamSystem) (t : MachineState Group) (packets : List Packet) → Each (manager.ManagerTells b p) packets → Each (ToldOf v t) packets
    all_elsewhere away v t [] tells = tt
    all_elsewhere away v t (x ∷ packets) tells = (elsewhere_streams away v t x tells.0, all_elsewhere away v t packets tells.1)

    pub quiet_walk : Elsewhere → (o : Outcome Catalog) → Each (manager.ManagerTells b p) o.packets → stream_of o.after.stream name ≡ stream_of b.stream name → RuleWalk o
    quiet_walk away o tells same = stand generation s _ (subst (λ z. Shaped z g s sent) (sym same) shaped, all_elsewhere away (after_manager_rule w o) s o.packets tells)

    -- a refusal
    refused_walk : (q : ReqNo) (refusal : Refusal) → RuleWalk (refused b Manager p q refusal)
    refused_walk q refusal = stand generation s _ (shaped, ((λ server here body is. absurd cc), tt))

    -- ---- CreateStream

    create_walk : (other : StreamName) (fence : ℕ) (q : ReqNo) (x : Option Refusal) → create_refusal b p other ≡ x → RuleWalk (or_refused b Manager p q x (create_taken b p other fence q))
    create_walk other fence q (Some refusal) is = refused_walk q refusal
    create_walk other fence q None is =
        let none : stream_of b.stream other ≡ None = not_there _ (no_fault _ _ (none_met (create_tests b p other) is).1.0) in
        stand generation s _ (
          by_name none (is_name_or name other),
          ((λ server here body made. let c : bodies.Stream (Created q) ≡ bodies.Stream body = made in let d : Created q ≡ body = cc in subst (λ z. StreamMeans generation name (after_manager_rule w (create_taken b p other fence q)) s sent (purpose_if generation name (after_manager_rule w (create_taken b p other fence q)) s sent (stream_meant z)) z) d tt), tt),
        )
      where
        empty_shape : (o : Option Stream) → stream_of b.stream name ≡ o → o ≡ None → Shaped (Some (empty_stream fence)) g s sent
        empty_shape (Some x) there none = absurd cc
        empty_shape None there none =
            let a : Shaped None g s sent = subst (λ z. Shaped z g s sent) there shaped in
            record {
              settled = record {
                fence = inr a.settled.fence;
                counts = a.settled.counts;
                born = λ index e at. absurd cc;
                made = λ index e at. absurd cc;
                shut = λ index e at l. absurd cc;
                checked = λ i index stood end m. let c = a.settled.checked i index stood end m in absurd (let d = c.at in cc);
              };
              live = λ v lives. let c = a.live v lives in absurd (let d = c.at in cc);
            }

        by_name : stream_of b.stream other ≡ None → (other ≡ name) ⊎ (other ≡ name → ⊥) → Shaped (stream_of (created b.stream other fence) name) g s sent
        by_name none (inl same) = rw (← same, with_here b.stream other (empty_stream fence)) (empty_shape (stream_of b.stream name) refl (ap (stream_of b.stream) (sym same) ∙ none))
        by_name none (inr apart) = rw (with_other b.stream other name (empty_stream fence) apart) shaped

    -- ---- OpenStreams

    open_walk : (range k : ℕ) (q : ReqNo) → p.body ≡ bodies.Stream (OpenStreams range k q) → range ≡ name.range → FineCatalog g b → (x : Option Refusal) → open_refusal b p range k ≡ x →
        RuleWalk (or_refused b Manager p q x (open_taken b p range k q))
    open_walk range k q is here catalog (Some refusal) none = refused_walk q refusal
    open_walk range k q is here catalog None none =
        let tests = none_met (open_tests b p range k) none in
        let (server, from) = server_of p.from (called p stood (subst (λ z. is_server_call z ≡ true) (sym is) refl)) tests.0 in
        let a : AsksToOpen generation name w before sent k q = (asked_for server (bodies.Stream (OpenStreams range k q)) from is).here here in
        let passed : all_pass (λ x. nat_lt x.fence k) b.stream name.range ≡ true = subst (λ z. all_pass (λ x. nat_lt x.fence k) b.stream z ≡ true) here (not-false _ tests.1.1.0) in
        let (x, there) = one_there b.stream (λ x. nat_lt x.fence k) passed in
        let low : x.fence < k = ltb-true x.fence k (all_passed (λ x. nat_lt x.fence k) b.stream name.range name.kind x passed there) in
        let now : Shaped (Some x) g s sent = subst (λ z. Shaped z g s sent) there shaped in
        let under : generation a.i ≡ k = a.under in
        let rises : s.core.fence < generation a.i = by_fence x now.settled.fence low a.i under in
        let after : stream_of (opened_at b.stream range k) name ≡ Some (record x { fence = k }) = opened_is x there in
        let t : MachineState Group = machine.next Group generation s (TakesOpen a.i) in
        let shape : Shaped (Some (record x { fence = k })) g t sent = opened_shape x g s a.i k under now in
        let v : StreamSystem = after_manager_rule w (open_taken b p range k q) in
        steps_to generation s _ (TakesOpen a.i) refl (on.facts _ a.fact, rises) (
          subst (λ z. Shaped z g t sent) (sym after) shape,
          (
            (λ other to_is body made.
                let d : Opened q (told_streams b range) ≡ body = cc in
                subst (λ z. StreamMeans generation name v t sent (purpose_if generation name v t sent (stream_meant z)) z) d
                (subst (λ z. StreamMeans generation name v t sent z (Opened q (told_streams b range))) (sym a.for)
                (means a.i x there v t (inl refl) (ap extents_of after) shape))),
            tt,
          ),
        )
      where
        by_fence : (x : Stream) → FencedBy s (Some x) → x.fence < k → (i : ℕ) → generation i ≡ k → s.core.fence < generation i
        by_fence x (inl f) low i under = omega (arith, f, low, under)
        by_fence x (inr f) low i under = omega (arith, f.0, low, under)

        opened_is : (x : Stream) → stream_of b.stream name ≡ Some x → stream_of (opened_at b.stream range k) name ≡ Some (record x { fence = k })
        opened_is x there =
            if_elim (λ o. o ≡ Some (record x { fence = k })) (name.range == range) (fenced_at k (stream_of b.stream name)) (stream_of b.stream name)
            (λ t. ap (fenced_at k) there)
            (λ t. let c : false ≡ true = sym t ∙ eq-eqb name.range range (sym here) in absurd cc)

        means : (i : ℕ) (x : Stream) → stream_of b.stream name ≡ Some x → (v : StreamSystem) (t : MachineState Group) → In (machine.Opened i (count s.core)) t.facts → extents_in v name ≡ whole x →
            Shaped (Some (record x { fence = k })) g t sent → StreamMeans generation name v t sent (Some (Opens i)) (Opened q (told_streams b range))
        means i x there v t fact same shape =
            let own = list.listed x there in
            let counted : count s.core ≡ known_of (told_stream b.extent (Some x)) =
            omega (arith, told_count b x own, (subst (λ z. Shaped z g s sent) there shaped).settled.counts) in
            let first : In (machine.Opened i (known_of (told_stream b.extent (Some x)))) t.facts × Tells generation name v t sent (told_stream b.extent (Some x)) =
            (subst (λ n. In (machine.Opened i n) t.facts) counted fact, opened_tells v b x (Some (record x { fence = k })) g t own catalog same refl shape) in
            let path : list_of generation name v t sent name.kind (told_streams b range) ≡ told_stream b.extent (Some x) =
            ap (λ r. list_of generation name v t sent name.kind (told_streams b r)) here ∙ list_is v t b ∙ ap (told_stream b.extent) there in
            subst (λ (l : StreamList). In (machine.Opened i (known_of l)) t.facts × Tells generation name v t sent l) (sym path) first

    -- who has opened the stream knows its fence
    pub fence_is : (x : Stream) → FencedBy s (Some x) → (i n : ℕ) → In (machine.Opened i n) s.facts → x.fence ≡ s.core.fence
    fence_is x (inl f) i n opened = sym f
    fence_is x (inr f) i n opened = absurd (f.1 i n opened)

    -- ---- Confirm

    confirm_walk : (range k : ℕ) (q : ReqNo) → p.body ≡ bodies.Stream (Confirm range k q) → range ≡ name.range → (x : Option Refusal) → confirm_refusal b p range k ≡ x →
        RuleWalk (or_refused b Manager p q x (answer b p (Confirmed q)))
    confirm_walk range k q is here (Some refusal) none = refused_walk q refusal
    confirm_walk range k q is here None none =
        let tests = none_met (confirm_tests b p range k) none in
        let (server, from) = server_of p.from (called p stood (subst (λ z. is_server_call z ≡ true) (sym is) refl)) tests.0 in
        let a : AsksToConfirm generation name w before sent k q = (asked_for server (bodies.Stream (Confirm range k q)) from is).here here in
        let passed : all_pass (λ x. x.fence == k) b.stream name.range ≡ true = subst (λ z. all_pass (λ x. x.fence == k) b.stream z ≡ true) here (not-false _ tests.1.1.0) in
        let (x, there) = one_there b.stream (λ x. x.fence == k) passed in
        let low : x.fence ≡ k = eqb-true x.fence k (all_passed (λ x. x.fence == k) b.stream name.range name.kind x passed there) in
        let now : Shaped (Some x) g s sent = subst (λ z. Shaped z g s sent) there shaped in
        let fact : In (machine.AsksConfirm a.i a.read a.end) before.facts = a.fact in
        let (n, opened) = lawful.confirms a.i a.read a.end fact in
        let level : generation a.i ≡ s.core.fence = a.under ∙ sym low ∙ fence_is x now.settled.fence a.i n (on.facts _ opened) in
        let t : MachineState Group = machine.next Group generation s (TakesConfirm a.i a.read a.end) in
        let v : StreamSystem = after_manager_rule w (answer b p (Confirmed q)) in
        steps_to generation s _ (TakesConfirm a.i a.read a.end) refl (on.facts _ fact, level) (
          known_more (stream_of b.stream name) g s (machine.Confirmed a.i a.read a.end) (λ i m made. absurd cc) (λ i index stood end made. absurd cc) shaped,
          (
            (λ other to_is body made.
                let d : Confirmed q ≡ body = cc in
                subst (λ z. StreamMeans generation name v t sent (purpose_if generation name v t sent (stream_meant z)) z) d
                (subst (λ z. StreamMeans generation name v t sent z (Confirmed q)) (sym a.for) (inl refl))),
            tt,
          ),
        )

    -- ---- Extend

    module _ (own : 1 ≤ name.range) (plain : name.kind ≢ kinds.BlobData) (k : ℕ) (last : Option ℕ) (pick : Nodes) (q : ReqNo) (is : p.body ≡ bodies.Stream (Extend name k last pick q)) where
      -- a user has no stream of a range
      asker_is : is_foreign p.from name.range ≡ false → (server : ℕ) × (p.from ≡ Server server)
      asker_is f =
          server_of p.from (called p stood (subst (λ z. is_server_call z ≡ true) (sym is) refl)) (elim (and_cases (is_user p.from) (not (name.range == 0)) f) [
            | inl x ↦ x
            | inr x ↦ absurd (let m = eqb-true name.range 0 (not-false _ x) in omega (arith, own, m))
          ])

      module _ (server : ℕ) (from : p.from ≡ Server server) (x : Stream) (there : stream_of b.stream name ≡ Some x) (fence : generation_of p.from k ≡ x.fence) where
        abbrev asks : AsksToExtend generation name w before sent k last q
        asks = (asked_for server (bodies.Stream (Extend name k last pick q)) from is).here refl

        now_shaped : Shaped (Some x) g s sent
        now_shaped = subst (λ z. Shaped z g s sent) there shaped

        opened_before : (n : ℕ) × In (machine.Opened asks.i n) before.facts
        opened_before = lawful.extends asks.i asks.n asks.fact

        level : generation asks.i ≡ s.core.fence
        level = asks.under ∙ sym (ap (λ z. generation_of z k) from) ∙ fence ∙ fence_is x now_shaped.settled.fence asks.i opened_before.0 (on.facts _ opened_before.1)

        known_is : asks.n ≤ length (whole x)
        known_is = subst (λ z. asks.n ≤ length (extents_of z)) there asks.known

        last_is : last ≡ last_known (whole x) asks.n
        last_is = asks.last_is ∙ ap (λ z. last_known (extents_of z) asks.n) there

        last_whole : last_of (whole x) ≡ last_of x.extents
        last_whole = whole_last x (list.listed x there).ends

        abbrev extend_fact : ℕ → MachineState Group
        extend_fact m = record s { facts = machine.Extended asks.i asks.n m ∷ s.facts }

        -- ---- another extent is the last

        corrected : (m : ℕ) → m ≡ length (whole x) → asks.n ≢ m → machine.next Group generation s (TakesExtend asks.i asks.n) ≡ extend_fact m
        corrected m count_is other = by_live s.core.live refl
          where
            by_live : (l : Option (OpenExtent Group)) → s.core.live ≡ l →
                record s { core = machine.extended Group generation s.core (generation asks.i) asks.n s.core.live; facts = machine.extend_facts Group generation asks.i asks.n s.core s.core.live s.facts } ≡ extend_fact m
            by_live None none =
                let one = ap one_if_live none in
                let e : m ≡ length s.core.shut = omega (arith, count_is, now_shaped.settled.counts, one) in
                let f : (asks.n == length s.core.shut) ≡ false = unequal asks.n (length s.core.shut) (λ z. other (z ∙ sym e)) in
                ap (λ o. record s { core = machine.extended Group generation s.core (generation asks.i) asks.n o; facts = machine.extend_facts Group generation asks.i asks.n s.core o s.facts }) none
                ∙ ap (λ (c : Bool). record s {
                  core = if c then machine.with_live Group generation s.core (machine.new_live Group generation s.core (generation asks.i)) else s.core;
                  facts = machine.Extended asks.i asks.n (if c then suc asks.n else length s.core.shut) ∷ s.facts;
                }) f
                ∙ ap extend_fact (sym e)
            by_live (Some v) some =
                let one = ap one_if_live some in
                let e : m ≡ suc (length s.core.shut) = omega (arith, count_is, now_shaped.settled.counts, one) in
                let f : (asks.n == suc (length s.core.shut)) ≡ false = unequal asks.n (suc (length s.core.shut)) (λ z. other (z ∙ sym e)) in
                ap (λ o. record s { core = machine.extended Group generation s.core (generation asks.i) asks.n o; facts = machine.extend_facts Group generation asks.i asks.n s.core o s.facts }) some
                ∙ ap (λ (c : Bool). record s { facts = if c then s.facts else machine.Extended asks.i asks.n (suc (length s.core.shut)) ∷ s.facts }) f
                ∙ ap extend_fact (sym e)

        last_walk : (e : ℕ) (y : Extent) → last_of x.extents ≡ Some e → last ≢ Some e → RuleWalk (answer b p (Extended q e y.places))
        last_walk e y end other =
            let (index, at, suc_is) = last_index (whole x) e (last_whole ∙ end) in
            let v : StreamSystem = after_manager_rule w (answer b p (Extended q e y.places)) in
            let t : MachineState Group = extend_fact (suc index) in
            let not_last : asks.n ≢ suc index = λ same. other (last_is ∙ ap (last_known (whole x)) same ∙ known_at (whole x) index e at) in
            let moved : machine.next Group generation s (TakesExtend asks.i asks.n) ≡ t = corrected (suc index) suc_is not_last in
            steps_to generation s _ (TakesExtend asks.i asks.n) refl (on.facts _ asks.fact, level)
            (subst (λ u. Shaped (stream_of b.stream name) g u sent × Each (ToldOf v u) (answer b p (Extended q e y.places)).packets) (sym moved) (
              known_more (stream_of b.stream name) g s (machine.Extended asks.i asks.n (suc index)) (λ i m made. absurd cc) (λ i j stood far made. absurd cc) shaped,
              (
                (λ to_server to_is body made.
                    let d : Extended q e y.places ≡ body = cc in
                    subst (λ z. StreamMeans generation name v t sent (purpose_if generation name v t sent (stream_meant z)) z) d
                    (subst (λ z. StreamMeans generation name v t sent z (Extended q e y.places)) (sym asks.for) (index, subst (λ z. slice_get (extents_of z) index ≡ Some e) (sym there) at, inl refl))),
                tt,
              ),
            ))

        -- ---- one more extent

        abbrev new : ℕ
        new = suc b.count

        abbrev made : Outcome Catalog
        made = extend_made b p name (generation_of p.from k) pick q

        grown : whole (longer new x) ≡ whole x ++ new ∷ []
        grown = whole_longer new x

        new_at : slice_get (whole (longer new x)) (length (whole x)) ≡ Some new
        new_at = subst (λ xs. slice_get xs (length (whole x)) ≡ Some new) (sym grown) (get_next (whole x) [] new)

        new_is : stream_of made.after.stream name ≡ Some (longer new x)
        new_is = ap (λ o. stream_of (extended_if b.stream name new o) name) there ∙ with_here b.stream name (longer new x)

        extent_is : made.after.extent new ≡ Some (new_extent pick (generation_of p.from k))
        extent_is = changed-same new (Some (new_extent pick (generation_of p.from k))) b.extent

        module _ (catalog : FineCatalog g made.after) (may : MayGrow b x last) where
          sealed_here : (e l : ℕ) → (y : Extent) × (b.extent e ≡ Some y) → sealed_lengths b e ≡ Some l → g.sealed e ≡ Some l
          sealed_here e l (y, is) sealed =
              let apart : e ≢ new = λ same. let c : None ≡ Some y = sym fresh ∙ ap b.extent (sym same) ∙ is in cc in
              catalog.sealed e ∙ ap sealed_of (changed-other new (Some (new_extent pick (generation_of p.from k))) b.extent e apart ∙ is) ∙ ap sealed_in (sym is) ∙ sealed

          -- nothing is open, and the asker knows all
          pub record AtEnd : Type 0 where
            pub none : s.core.live ≡ None
            pub all : asks.n ≡ length s.core.shut
            pub counts : length (whole x) ≡ length s.core.shut

          none_open : length (whole x) ≤ length s.core.shut → asks.n ≡ length (whole x) → AtEnd
          none_open le all = by_live s.core.live refl
            where
              by_live : (l : Option (OpenExtent Group)) → s.core.live ≡ l → AtEnd
              by_live None none = let one = ap one_if_live none in let c : length (whole x) ≡ length s.core.shut = omega (arith, now_shaped.settled.counts, one) in record { none = none; all = all ∙ c; counts = c }
              by_live (Some v) some = let one = ap one_if_live some in absurd (omega (arith, now_shaped.settled.counts, one, le))

          at_end : AtEnd
          at_end = elim may [
            | inl empty ↦
                let zero_is = none_last (whole x) (last_whole ∙ empty) in
                none_open (omega (arith, zero_is)) (let m = known_is in omega (arith, m, zero_is))
            | inr (e, end, named, (l, sealed)) ↦
                let (index, at, suc_is) = last_index (whole x) e (last_whole ∙ end) in
                let own = list.listed x there in
                let known = known_index (whole x) asks.n e (sym last_is ∙ named) in
                let same : known.0 ≡ index = same_index x (list.rising x there) known.0 index e known.2 at in
                let shut = (sealed_or_last (Some x) g s sent now_shaped index e at).sealed l (sealed_here e l (own.there index e at) sealed) in
                let within = shut_within index s.core.shut shut.0 shut.1 in
                none_open (omega (arith, within, suc_is)) (omega (arith, known.1, same, suc_is))
          ]

          abbrev t_made : MachineState Group
          t_made = record s {
            core = machine.with_live Group generation s.core (machine.new_live Group generation s.core (generation asks.i));
            facts = machine.Extended asks.i asks.n (suc asks.n) ∷ s.facts;
          }

          made_next : machine.next Group generation s (TakesExtend asks.i asks.n) ≡ t_made
          made_next =
              let a = at_end in
              let f : (asks.n == length s.core.shut) ≡ true = eq-eqb asks.n (length s.core.shut) a.all in
              ap (λ o. record s { core = machine.extended Group generation s.core (generation asks.i) asks.n o; facts = machine.extend_facts Group generation asks.i asks.n s.core o s.facts }) a.none
              ∙ ap (λ (c : Bool). record s {
                core = if c then machine.with_live Group generation s.core (machine.new_live Group generation s.core (generation asks.i)) else s.core;
                facts = machine.Extended asks.i asks.n (if c then suc asks.n else length s.core.shut) ∷ s.facts;
              }) f

          born_is : g.born new ≡ generation asks.i
          born_is = catalog.born new _ extent_is ∙ ap (λ z. generation_of z k) from ∙ sym asks.under

          made_shaped : Shaped (Some (longer new x)) g t_made sent
          made_shaped =
              let a = at_end in
              let old = now_shaped in
              let n = length s.core.shut in
              record {
                settled = record {
                  fence = inl (sym (fence_is x old.settled.fence asks.i opened_before.0 (on.facts _ opened_before.1)));
                  counts = omega (arith, ap (λ (xs : List ℕ). length xs) grown, length-append (whole x) (new ∷ []), a.counts);
                  born = λ index e at. elim (pushed_get (whole x) new index e (subst (λ xs. slice_get xs index ≡ Some e) grown at)) [
                    | inl was ↦ old.settled.born index e was
                    | inr here ↦ let low = (lawful.opened asks.i opened_before.0 opened_before.1).0 in let c : g.born e ≡ generation asks.i = ap g.born here.1 ∙ born_is in omega (arith, low, c)
                  ];
                  made = λ index e at. elim (pushed_get (whole x) new index e (subst (λ xs. slice_get xs index ≡ Some e) grown at)) [
                    | inl was ↦ old.settled.made index e was
                    | inr here ↦ (pick, ap g.places here.1 ∙ catalog.places new ∙ ap places_of extent_is)
                  ];
                  shut = λ index e at l.
                      let c = old.settled.shut index e (get_front (whole x) (new ∷ []) index e (omega (arith, l, a.counts)) (subst (λ xs. slice_get xs index ≡ Some e) grown at)) l in
                      record { shut = c.shut; is = c.is; tied = c.tied; sources = c.sources };
                  checked = λ i index stood end m. elim m [
                    | inl made ↦ absurd cc
                    | inr was ↦
                        let c = old.settled.checked i index stood end was in
                        record { extent = c.extent; at = subst (λ xs. slice_get xs index ≡ Some c.extent) (sym grown) (get_left (whole x) (new ∷ []) index c.extent c.at); begins = c.begins; chain = c.chain; sized = c.sized }
                  ];
                };
                live = λ v lives.
                    let c : machine.new_live Group generation s.core (generation asks.i) ≡ v = cc in
                    subst (LiveThere (Some (longer new x)) g sent t_made) c (record {
                      extent = new;
                      at = subst (λ i. slice_get (whole (longer new x)) i ≡ Some new) a.counts new_at;
                      tied = new_tied g new n (generation asks.i) (unmade new fresh) (let f = floor_born g new in omega (arith, f, born_is)) (catalog.sealed new ∙ ap sealed_of extent_is);
                      sources = λ j c from none there. absurd cc;
                    });
              }

          made_walk : RuleWalk made
          made_walk =
              let v : StreamSystem = after_manager_rule w made in
              steps_to generation s _ (TakesExtend asks.i asks.n) refl (on.facts _ asks.fact, level)
              (subst (λ u. Shaped (stream_of made.after.stream name) g u sent × Each (ToldOf v u) made.packets) (sym made_next) (
                subst (λ z. Shaped z g t_made sent) (sym new_is) made_shaped,
                (
                  (λ other to_is body sends. absurd cc),
                  (
                    (λ other to_is body sends. absurd cc),
                    ((λ other to_is body sends. absurd cc), ((λ other to_is body sends. made_means body sends), tt)),
                  ),
                ),
              ))
            where
              made_means : (body : StreamBody) → bodies.Stream (Extended q new pick) ≡ bodies.Stream body →
                  StreamMeans generation name (after_manager_rule w made) t_made sent (purpose_if generation name (after_manager_rule w made) t_made sent (stream_meant body)) body
              made_means body sends =
                  let v : StreamSystem = after_manager_rule w made in
                  let d : Extended q new pick ≡ body = cc in
                  let a = at_end in
                  subst (λ z. StreamMeans generation name v t_made sent (purpose_if generation name v t_made sent (stream_meant z)) z) d
                  (subst (λ z. StreamMeans generation name v t_made sent z (Extended q new pick)) (sym asks.for) (
                    asks.n,
                    subst (λ z. slice_get (extents_of z) asks.n ≡ Some new) (sym new_is) (subst (λ i. slice_get (whole (longer new x)) i ≡ Some new) (a.counts ∙ sym a.all) new_at),
                    inl refl,
                  ))

      -- ---- the rule

      answered_walk : (server : ℕ) → p.from ≡ Server server → (r : Result (Option ℕ) Refusal) → extending (sealed_lengths b) (stream_of b.stream name) (generation_of p.from k) last ≡ r →
          FineCatalog g (extend_answered b p name (generation_of p.from k) pick q r).after → RuleWalk (extend_answered b p name (generation_of p.from k) pick q r)
      answered_walk server from (Err refusal) end catalog = refused_walk q refusal
      answered_walk server from (Ok None) end catalog =
          let (x, there, fence, free) = found_end (sealed_lengths b) (stream_of b.stream name) (generation_of p.from k) last None end in
          let may = may_grow b x last (last_of x.extents) refl free in
          if_elim (λ (o : Outcome Catalog). FineCatalog g o.after → RuleWalk o) (is_pick b.nodes pick) (extend_made b p name (generation_of p.from k) pick q) (refused b Manager p q BadPick)
          (λ t fine. made_walk server from x there fence fine may) (λ t fine. refused_walk q BadPick) catalog
      answered_walk server from (Ok (Some e)) end catalog =
          let (x, there, fence, named) = found_end (sealed_lengths b) (stream_of b.stream name) (generation_of p.from k) last (Some e) end in
          let (is_last, other) = is_other (sealed_lengths b) last (last_of x.extents) e named in
          by_extent x there fence is_last other (b.extent e)
        where
          by_extent : (x : Stream) → stream_of b.stream name ≡ Some x → generation_of p.from k ≡ x.fence → last_of x.extents ≡ Some e → last ≢ Some e → (o : Option Extent) → RuleWalk (last_told b p e o q)
          by_extent x there fence is_last other None = stand generation s _ (shaped, tt)
          by_extent x there fence is_last other (Some y) = last_walk server from x there fence e y is_last other

      pub extend_walk : FineCatalog g (extend_rule b p name (generation_of p.from k) last pick q).after → RuleWalk (extend_rule b p name (generation_of p.from k) last pick q)
      extend_walk catalog =
          let r = extending (sealed_lengths b) (stream_of b.stream name) (generation_of p.from k) last in
          if_elim (λ (o : Outcome Catalog). FineCatalog g o.after → RuleWalk o) (is_foreign p.from name.range) (refused b Manager p q Stale) (extend_answered b p name (generation_of p.from k) pick q r)
          (λ t fine. refused_walk q Stale) (λ t fine. let (server, from) = asker_is t in answered_walk server from r refl fine) catalog

    -- ---- Trim

    -- what leaves the log stays in its whole list
    trimmed_shape : name.kind ≢ kinds.BlobData → (range k index : ℕ) (to_blob : Bool) → Trims b.stream range k index → Shaped (stream_of (trimmed b.stream range index to_blob) name) g s sent
    trimmed_shape plain range k index to_blob t =
        trimmed_elim b.stream range k index to_blob t (λ o. Shaped o g s sent) name
        (λ is. absurd (plain (ap (λ (u : StreamName). u.kind) is)))
        (λ is. same_shape t.log (shorter index t.log) g s sent (shorter_whole index t.log) refl (subst (λ o. Shaped o g s sent) (ap (stream_of b.stream) is ∙ t.log_is) shaped))
        shaped

    trim_walk : name.kind ≢ kinds.BlobData → (range k index : ℕ) (to_blob : Bool) (q : ReqNo) → RuleWalk (trim_rule b p range k index to_blob q)
    trim_walk plain range k index to_blob q =
        if_elim RuleWalk (is_user p.from) (refused b Manager p q Stale) (trim_answered b p range index to_blob q (trimming b.stream range k index))
        (λ t. refused_walk q Stale) (λ f. by_answer (trimming b.stream range k index) refl)
      where
        answer_told : (v : StreamSystem) (server : ℕ) → p.from ≡ Server server → (body : StreamBody) → bodies.Stream (Trimmed q) ≡ bodies.Stream body →
            StreamMeans generation name v s sent (purpose_if generation name v s sent (stream_meant body)) body
        answer_told v server here body made =
            let d : Trimmed q ≡ body = cc in
            subst (λ z. StreamMeans generation name v s sent (purpose_if generation name v s sent (stream_meant z)) z) d tt

        by_answer : (r : Result Bool Refusal) → trimming b.stream range k index ≡ r → RuleWalk (trim_answered b p range index to_blob q r)
        by_answer (Err refusal) is = refused_walk q refusal
        by_answer (Ok false) is = stand generation s _ (shaped, (answer_told (after_manager_rule w (trim_answered b p range index to_blob q (Ok false))), tt))
        by_answer (Ok true) is =
            stand generation s _ (trimmed_shape plain range k index to_blob (trims b.stream range k index is), (answer_told (after_manager_rule w (trim_answered b p range index to_blob q (Ok true))), tt))

    -- ---- all rules

    own_fence : (x : Option Refusal) (q : ReqNo) (range k : ℕ) → FineCatalog g (or_refused b Manager p q x (open_taken b p range k q)).after → FineCatalog g b
    own_fence (Some refusal) q range k f = f
    own_fence None q range k f = record { places = f.places; sealed = f.sealed; born = f.born; fresh = f.fresh; reports = f.reports }

    opened_elsewhere : (range k : ℕ) (q : ReqNo) (x : Option Refusal) → (range ≡ name.range → ⊥) → stream_of (or_refused b Manager p q x (open_taken b p range k q)).after.stream name ≡ stream_of b.stream name
    opened_elsewhere range k q (Some refusal) apart = refl
    opened_elsewhere range k q None apart =
        if_elim (λ o. o ≡ stream_of b.stream name) (name.range == range) (fenced_at k (stream_of b.stream name)) (stream_of b.stream name)
        (λ t. absurd (apart (sym (eqb-true name.range range t)))) (λ t. refl)

    confirmed_elsewhere : (q : ReqNo) (x : Option Refusal) → stream_of (or_refused b Manager p q x (answer b p (Confirmed q))).after.stream name ≡ stream_of b.stream name
    confirmed_elsewhere q (Some refusal) = refl
    confirmed_elsewhere q None = refl

    extended_elsewhere : (other : StreamName) → (other ≡ name → ⊥) → (k : ℕ) (last : Option ℕ) (pick : Nodes) (q : ReqNo) → stream_of (extend_rule b p other k last pick q).after.stream name ≡ stream_of b.stream name
    extended_elsewhere other apart k last pick q =
        if_elim (λ (o : Outcome Catalog). stream_of o.after.stream name ≡ stream_of b.stream name) (is_foreign p.from other.range) (refused b Manager p q Stale)
        (extend_answered b p other k pick q (extending (sealed_lengths b) (stream_of b.stream other) k last)) (λ t. refl) (λ t. by_end (extending (sealed_lengths b) (stream_of b.stream other) k last))
      where
        by_stream : (o : Option Stream) → stream_of (extended_if b.stream other (suc b.count) o) name ≡ stream_of b.stream name
        by_stream None = refl
        by_stream (Some x) = with_other b.stream other name (longer (suc b.count) x) apart

        by_extent : (e : ℕ) (o : Option Extent) → stream_of (last_told b p e o q).after.stream name ≡ stream_of b.stream name
        by_extent e None = refl
        by_extent e (Some y) = refl

        by_end : (r : Result (Option ℕ) Refusal) → stream_of (extend_answered b p other k pick q r).after.stream name ≡ stream_of b.stream name
        by_end (Err refusal) = refl
        by_end (Ok None) =
            if_elim (λ (o : Outcome Catalog). stream_of o.after.stream name ≡ stream_of b.stream name) (is_pick b.nodes pick) (extend_made b p other k pick q) (refused b Manager p q BadPick)
            (λ t. by_stream (stream_of b.stream other)) (λ t. refl)
        by_end (Ok (Some e)) = by_extent e (b.extent e)

    -- ---- streams that are built, none of which is this one where it is not there yet

    not_built : (list : List Modify) (streams : Streams) → ((m : Modify) → Contains list m → m.stream ≡ name → ⊥) → stream_of (modified streams list) name ≡ stream_of streams name
    not_built [] streams apart = refl
    not_built (m ∷ list) streams apart =
        not_built list (built streams m) (λ n among. let (k, below, is) = among in apart n (suc k, omega (arith, below), is))
        ∙ with_other streams m.stream name (joined streams m.sources) (apart m (0, omega arith, refl))

    modify_same : (list : List Modify) (q : ReqNo) → p.body ≡ bodies.Stream (MultiModify list q) → (x : Option Refusal) → modify_refusal b p list ≡ x →
        stream_of (or_refused b Manager p q x (modify_taken b p list q)).after.stream name ≡ stream_of b.stream name
    modify_same list q is (Some refusal) none = refl
    modify_same list q is None none = by_stream (stream_of b.stream name) refl
      where
        by_stream : (o : Option Stream) → stream_of b.stream name ≡ o → stream_of (modified b.stream list) name ≡ stream_of b.stream name
        by_stream None absent =
            let ((server, from), kinds) = from_servers p list q stood is in
            not_built list b.stream (λ m among same.
            let (x, there) = asked_for server (bodies.Stream (MultiModify list q)) from is m among same in
            let c : None ≡ Some x = sym absent ∙ there in cc)
        by_stream (Some x) there = modified_keeps (sealed_lengths b) list b.stream (builds_of b p list none).1 name x there ∙ sym there

    not_stream : (body : StreamBody) → p.body ≡ bodies.Stream body → ((r j : ℕ) (v : ReqNo) → body ≡ OpenStreams r j v → ⊥) → ((r j : ℕ) (v : ReqNo) → body ≡ Confirm r j v → ⊥) →
        ((o : StreamName) (j : ℕ) (l : Option ℕ) (r : Nodes) (v : ReqNo) → body ≡ Extend o j l r v → ⊥) → Elsewhere
    not_stream body is x y z = record {
      opens = λ r j v at here. x r j v (let c : bodies.Stream body ≡ bodies.Stream (OpenStreams r j v) = sym is ∙ at in cc);
      confirms = λ r j v at here. y r j v (let c : bodies.Stream body ≡ bodies.Stream (Confirm r j v) = sym is ∙ at in cc);
      extends = λ o j l r v at here. z o j l r v (let c : bodies.Stream body ≡ bodies.Stream (Extend o j l r v) = sym is ∙ at in cc);
    }

    abbrev OfRule : Body → Type 0
    OfRule body = Each (manager.ManagerTells b p) (manager_rule b p body).packets

    stream_walk : 1 ≤ name.range → name.kind ≢ kinds.BlobData → (body : StreamBody) → p.body ≡ bodies.Stream body → OfRule (bodies.Stream body) → FineCatalog g (stream_body_rule b p body).after → RuleWalk (stream_body_rule b p body)
    stream_walk own plain (CreateStream other fence q) is tells catalog = create_walk other (generation_of p.from fence) q (create_refusal b p other) refl
    stream_walk own plain (OpenStreams range k q) is tells catalog = by_range (range == name.range) refl
      where
        by_range : (t : Bool) → (range == name.range) ≡ t → RuleWalk (open_rule b p range k q)
        by_range true t = open_walk range k q is (eqb-true range name.range t) (own_fence (open_refusal b p range k) q range k catalog) (open_refusal b p range k) refl
        by_range false t =
            let apart : range ≡ name.range → ⊥ = λ same. let c : false ≡ true = sym t ∙ eq-eqb range name.range same in cc in
            quiet_walk (record {
              opens = λ r j w' at here. apart ((let c : bodies.Stream (OpenStreams range k q) ≡ bodies.Stream (OpenStreams r j w') = sym is ∙ at in let d : range ≡ r = cc in d) ∙ here);
              confirms = λ r j w' at here. absurd (let c : bodies.Stream (OpenStreams range k q) ≡ bodies.Stream (Confirm r j w') = sym is ∙ at in cc);
              extends = λ o j l pick w' at here. absurd (let c : bodies.Stream (OpenStreams range k q) ≡ bodies.Stream (Extend o j l pick w') = sym is ∙ at in cc);
            }) (open_rule b p range k q) tells (opened_elsewhere range k q (open_refusal b p range k) apart)
    stream_walk own plain (Confirm range k q) is tells catalog = by_range (range == name.range) refl
      where
        by_range : (t : Bool) → (range == name.range) ≡ t → RuleWalk (confirm_rule b p range k q)
        by_range true t = confirm_walk range k q is (eqb-true range name.range t) (confirm_refusal b p range k) refl
        by_range false t =
            let apart : range ≡ name.range → ⊥ = λ same. let c : false ≡ true = sym t ∙ eq-eqb range name.range same in cc in
            quiet_walk (record {
              opens = λ r j w' at here. absurd (let c : bodies.Stream (Confirm range k q) ≡ bodies.Stream (OpenStreams r j w') = sym is ∙ at in cc);
              confirms = λ r j w' at here. apart ((let c : bodies.Stream (Confirm range k q) ≡ bodies.Stream (Confirm r j w') = sym is ∙ at in let d : range ≡ r = cc in d) ∙ here);
              extends = λ o j l pick w' at here. absurd (let c : bodies.Stream (Confirm range k q) ≡ bodies.Stream (Extend o j l pick w') = sym is ∙ at in cc);
            }) (confirm_rule b p range k q) tells (confirmed_elsewhere q (confirm_refusal b p range k))
    stream_walk own plain (Extend other k last pick q) is tells catalog = by_name (is_name_or name other)
      where
        by_name : (other ≡ name) ⊎ (other ≡ name → ⊥) → RuleWalk (extend_rule b p other (generation_of p.from k) last pick q)
        by_name (inl same) =
            subst (λ z. p.body ≡ bodies.Stream (Extend z k last pick q) → FineCatalog g (extend_rule b p z (generation_of p.from k) last pick q).after → RuleWalk (extend_rule b p z (generation_of p.from k) last pick q)) (sym same)
            (λ at fine. extend_walk own plain k last pick q at fine) is catalog
        by_name (inr apart) =
            quiet_walk (record {
              opens = λ r j w' at here. absurd (let c : bodies.Stream (Extend other k last pick q) ≡ bodies.Stream (OpenStreams r j w') = sym is ∙ at in cc);
              confirms = λ r j w' at here. absurd (let c : bodies.Stream (Extend other k last pick q) ≡ bodies.Stream (Confirm r j w') = sym is ∙ at in cc);
              extends = λ o j l r w' at here. apart ((let c : bodies.Stream (Extend other k last pick q) ≡ bodies.Stream (Extend o j l r w') = sym is ∙ at in let d : other ≡ o = cc in d) ∙ here);
            }) (extend_rule b p other (generation_of p.from k) last pick q) tells (extended_elsewhere other apart (generation_of p.from k) last pick q)
    stream_walk own plain (Trim range k index to_blob q) is tells catalog = trim_walk plain range k index to_blob q
    stream_walk own plain (MultiModify list q) is tells catalog =
        quiet_walk (not_stream (MultiModify list q) is (λ r j w' at. cc) (λ r j w' at. cc) (λ o j l r w' at. cc)) (modify_rule b p list q) tells (modify_same list q is (modify_refusal b p list) refl)
    stream_walk own plain body is tells catalog = stand generation s _ (shaped, tt)

    pub rule_walk : 1 ≤ name.range → name.kind ≢ kinds.BlobData → (body : Body) → p.body ≡ body → FineCatalog g (manager_rule b p body).after → RuleWalk (manager_rule b p body)
    rule_walk own plain body is catalog = by_body body is (subst OfRule is (manager.manager_tells b p)) catalog
      where
        by_body : (body : Body) → p.body ≡ body → OfRule body → FineCatalog g (manager_rule b p body).after → RuleWalk (manager_rule b p body)
        by_body (bodies.Stream body) is tells catalog = stream_walk own plain body is tells catalog
        by_body (bodies.Seal body) is tells catalog =
            quiet_walk (record {
              opens = λ r j w' at here. absurd (let c : bodies.Seal body ≡ bodies.Stream (OpenStreams r j w') = sym is ∙ at in cc);
              confirms = λ r j w' at here. absurd (let c : bodies.Seal body ≡ bodies.Stream (Confirm r j w') = sym is ∙ at in cc);
              extends = λ o j l r w' at here. absurd (let c : bodies.Seal body ≡ bodies.Stream (Extend o j l r w') = sym is ∙ at in cc);
            }) (seal_body_rule b p body) tells (ap (λ z. stream_of z name) (seal_same b p body))
        by_body body is tells catalog = stand generation s _ (shaped, tt)
