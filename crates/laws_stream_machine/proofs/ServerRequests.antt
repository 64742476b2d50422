-- What servers do on a stream, which the lower layer takes no part in: turns, and numbers for new requests.
use Rattle.std.proofs.Common.{◌≡◌, ◌⊎◌, ℕ, zero, suc, ◌<◌, ◌≤◌, Bool, true, false, ◌&&◌, List, [], ◌∷◌, ◌++◌, length, Option, Some, None, slice_get, Contains, refl, sym, ap, ◌∙◌, subst, inl, inr, if◌then◌else◌, arith, ◌==◌}
use Rattle.std.proofs.lemmas.Bool.{eqb-true, and_parts}
use Rattle.wire.specs.declared.actor.ActorId.{ActorId}
use Rattle.wire.specs.declared.actor.ActorId.TheVariants.{Node, Manager, Map, Server, User}
use Rattle.wire.specs.declared.actor.ReqNo.{ReqNo}
use Rattle.wire.specs.declared.actor.ReqNo.TheVariants as requests
use Rattle.wire.specs.declared.body.AppendBody.{AppendBody}
use Rattle.wire.specs.declared.body.AppendBody.TheVariants.{Append, Appended}
use Rattle.wire.specs.declared.body.CheckBody.{CheckBody}
use Rattle.wire.specs.declared.body.CheckBody.TheVariants.{Check, Checked as CheckedAt}
use Rattle.wire.specs.declared.body.ReadBody.TheVariants.{ReadGroups}
use Rattle.wire.specs.declared.body.SealBody.TheVariants.{SealExtent}
use Rattle.wire.specs.declared.body.StreamBody.{StreamBody}
use Rattle.wire.specs.declared.body.StreamBody.TheVariants.{OpenStreams, Opened, Confirm, Confirmed, Extend, Extended, MultiModify}
use Rattle.wire.specs.declared.body.Body.{Body}
use Rattle.wire.specs.declared.body.Body.TheVariants as bodies
use Rattle.wire.specs.declared.packet.Packet.{Packet}
use Rattle.wire.specs.declared.streams.StreamList.{StreamList}
use Rattle.wire.specs.declared.streams.StreamName.{StreamName}
use Rattle.replica.specs.Groups.{Group}
use Rattle.streams.specs.Streams.{Stream, stream_of}
use Rattle.client.specs.Requests.{is_same}
use Rattle.model_streams.specs.Actors.{generation_of}
use Rattle.model_streams.specs.Outcome.{packet}
use Rattle.model_streams.specs.StreamSystem.{StreamSystem, is_server_call}
use Rattle.laws_streams.specs.Origins.{Origin}
use Rattle.laws_streams.proofs.Choices.{each-get}
use Rattle.laws_streams.proofs.Ground.{Ground}
use Rattle.model_histories.specs.Story.{Copy}
use Rattle.model_histories.specs.StreamMachine as machine
use Rattle.model_histories.specs.StreamMachine.{In, StreamCore, shut_at, Fact, MachineState, MachineStep, Opens, Checks, ReadsSealed, ReadsChecked, Begins, Appends, Extends, TakesConfirmed, TakesAppended, next}
use Rattle.model_histories.specs.ServerTurns.{Phase, Idle, Opening, Checking, Sealing, Confirming, Serving, Sent as SentOut, Closing, Growing, Turn, Assigned, AllSealed, LastOpen, Found, IsShut, ConfirmedIs, Forms, AppendedAt, ExtendedTo, does, forms, all_next, is_layer}
use Rattle.laws_stream_machine.specs.Refinement.{Purpose, Sent, purpose_of, asked_number, meant_number, AsksToOpen, AsksToConfirm, AsksToExtend, AsksToCheck, AsksToAppend, AsksToRead, AsksToSeal, OfExtent, OfStream, IsAsked, Tells, list_of, AppendMeans, CheckMeans, StreamMeans, purpose_if, stream_meant}
use Rattle.laws_stream_machine.specs.Refinement as ties
use Rattle.laws_stream_machine.proofs.StepSequences.{Onward, onward_refl, onward_trans, next_onward}
use Rattle.laws_stream_machine.proofs.ExtentSteps.{TiedLive}
use Rattle.laws_stream_machine.proofs.MachineCore.{IsIn, FencedBy, Sourced, Shaped}
use Rattle.laws_stream_machine.proofs.SentPackets.{is_outside, Appending, ahead_same, asked_on, meant_on}
use Rattle.laws_stream_machine.proofs.Refines.{Follows}

-- ---- turns

-- the core is the same, and nothing is said of an opening or a check
pub record Upper (s t : MachineState Group) : Type 0 where
  pub core : t.core ≡ s.core
  pub opened : (i n : ℕ) → In (machine.Opened i n) t.facts → In (machine.Opened i n) s.facts
  pub checked : (i e : ℕ) (stood : List (Copy Group)) (end : ℕ) → In (machine.Checked i e stood end) t.facts → In (machine.Checked i e stood end) s.facts
  pub onward : Onward s t

upper_refl : (s : MachineState Group) → Upper s s
upper_refl s = record { core = refl; opened = λ i n m. m; checked = λ i e stood end m. m; onward = onward_refl s }

upper_trans : (s t u : MachineState Group) → Upper s t → Upper t u → Upper s u
upper_trans s t u a b = record {
  core = b.core ∙ a.core;
  opened = λ i n m. a.opened i n (b.opened i n m);
  checked = λ i e stood end m. a.checked i e stood end (b.checked i e stood end m);
  onward = onward_trans s t u a.onward b.onward;
}

module _ (generation : ℕ → ℕ) where
  -- one more fact that is neither
  told : (s t : MachineState Group) (f : Fact Group) → t.core ≡ s.core → t.facts ≡ f ∷ s.facts → Onward s t → ((i n : ℕ) → machine.Opened i n ≡ f → ⊥) →
      ((i e : ℕ) (stood : List (Copy Group)) (end : ℕ) → machine.Checked i e stood end ≡ f → ⊥) → Upper s t
  told s t f core facts onward a b = record {
    core = core;
    opened = λ i n m. elim (subst (In (machine.Opened i n)) facts m) [ inl is ↦ absurd (a i n is) | inr old ↦ old ];
    checked = λ i e stood end m. elim (subst (In (machine.Checked i e stood end)) facts m) [ inl is ↦ absurd (b i e stood end is) | inr old ↦ old ];
    onward = onward;
  }

  upper_next : (s : MachineState Group) (x : MachineStep Group) → is_layer Group generation x ≡ false → Upper s (next Group generation s x)
  upper_next s (Opens i) t = told s _ (machine.AsksOpen i) refl refl (next_onward generation s (Opens i)) (λ j n is. cc) (λ j e stood end is. cc)
  upper_next s (Checks i e) t = told s _ (machine.AsksCheck i e) refl refl (next_onward generation s (Checks i e)) (λ j n is. cc) (λ j e stood end is. cc)
  upper_next s (ReadsSealed i n) t = told s _ _ refl refl (next_onward generation s (ReadsSealed i n)) (λ j n is. cc) (λ j e stood end is. cc)
  upper_next s (ReadsChecked i e stood end) t = told s _ _ refl refl (next_onward generation s (ReadsChecked i e stood end)) (λ j n is. cc) (λ j e stood end is. cc)
  upper_next s (Begins i group) t = told s _ _ refl refl (next_onward generation s (Begins i group)) (λ j n is. cc) (λ j e stood end is. cc)
  upper_next s (Appends i e append group) t = told s _ _ refl refl (next_onward generation s (Appends i e append group)) (λ j n is. cc) (λ j e stood end is. cc)
  upper_next s (Extends i n) t = told s _ _ refl refl (next_onward generation s (Extends i n)) (λ j n is. cc) (λ j e stood end is. cc)
  upper_next s (TakesConfirmed i start end read) t = told s _ _ refl refl (next_onward generation s (TakesConfirmed i start end read)) (λ j n is. cc) (λ j e stood end is. cc)
  upper_next s (TakesAppended i append from to) t = record { core = refl; opened = λ j n m. m; checked = λ j e stood end m. m; onward = next_onward generation s (TakesAppended i append from to) }
  upper_next s x t = absurd cc

  abbrev AllUpper : List (MachineStep Group) → Type 0
  AllUpper [] = Unit {0}
  AllUpper (x ∷ earlier) = (is_layer Group generation x ≡ false) × AllUpper earlier

  forms_upper : (i n append : ℕ) (group : Group) (live : Bool) → AllUpper (forms Group generation i n append group live ++ Begins i group ∷ [])
  forms_upper i zero append group live = (refl, (refl, tt))
  forms_upper i (suc e) append group true = (refl, (refl, tt))
  forms_upper i (suc e) append group false = (refl, (refl, tt))

  does_upper : (s : MachineState Group) (i : ℕ) (phase : Phase Group) (turn : Turn Group) → AllUpper (does Group generation s i phase turn)
  does_upper s i Idle Assigned = (refl, tt)
  does_upper s i Opening (AllSealed n) = (refl, tt)
  does_upper s i Opening (LastOpen e) = (refl, tt)
  does_upper s i (Checking e) (Found stood end) = (refl, tt)
  does_upper s i (Sealing e) IsShut = (refl, tt)
  does_upper s i (Confirming n live) (ConfirmedIs start end read) = (refl, tt)
  does_upper s i (Serving n live) (Forms group) = forms_upper i n (length s.story) group live
  does_upper s i (SentOut n append group) (AppendedAt from to) = (refl, tt)
  does_upper s i (Closing n append group) IsShut = (refl, tt)
  does_upper s i (Growing n append group) (ExtendedTo m) = (refl, tt)
  does_upper s i phase turn = tt

  all_upper : (s : MachineState Group) (steps : List (MachineStep Group)) → AllUpper steps → Upper s (all_next Group generation s steps)
  all_upper s [] all = upper_refl s
  all_upper s (x ∷ earlier) (one, all) = upper_trans s _ _ (all_upper s earlier all) (upper_next (all_next Group generation s earlier) x one)

  pub turn_upper : (s : MachineState Group) (i : ℕ) (phase : Phase Group) (turn : Turn Group) → Upper s (all_next Group generation s (does Group generation s i phase turn))
  turn_upper s i phase turn = all_upper s (does Group generation s i phase turn) (does_upper s i phase turn)

upper_shaped : (o : Option Stream) (g : Ground) (s t : MachineState Group) (sent : List Sent) → Upper s t → Shaped o g s sent → Shaped o g t sent
upper_shaped o g s t sent u a = record {
  settled = record {
    fence = by_fence o a.settled.fence;
    counts = a.settled.counts ∙ ap (λ (c : StreamCore Group). machine.count c) (sym u.core);
    born = a.settled.born;
    made = a.settled.made;
    shut = λ index e at l.
        let b = a.settled.shut index e at (subst (λ (c : StreamCore Group). index < length c.shut) u.core l) in
        record { shut = b.shut; is = ap (λ (c : StreamCore Group). shut_at index c.shut) u.core ∙ b.is; tied = b.tied; sources = b.sources };
    checked = λ i index stood end m. a.settled.checked i index stood end (u.checked i index stood end m);
  };
  live = λ v is.
      let b = a.live v (ap (λ (c : StreamCore Group). c.live) (sym u.core) ∙ is) in
      let n : length s.core.shut ≡ length t.core.shut = ap (λ (c : StreamCore Group). length c.shut) (sym u.core) in
      record {
        extent = b.extent;
        at = subst (λ i. slice_get (ties.extents_of o) i ≡ Some b.extent) n b.at;
        tied = subst (λ i. TiedLive g b.extent i v) n b.tied;
        sources = subst (λ i. Sourced g sent b.extent i (v.kept ++ v.loose)) n b.sources;
      };
}
  where
    by_fence : (z : Option Stream) → FencedBy s z → FencedBy t z
    by_fence None k = (ap (λ (c : StreamCore Group). c.fence) u.core ∙ k.0, λ i n m. k.1 i n (u.opened i n m))
    by_fence (Some x) (inl k) = inl (ap (λ (c : StreamCore Group). c.fence) u.core ∙ k)
    by_fence (Some x) (inr k) = inr (ap (λ (c : StreamCore Group). c.fence) u.core ∙ k.0, λ i n m. k.1 i n (u.opened i n m))

pub upper_follows : (generation : ℕ → ℕ) (name : StreamName) (w : StreamSystem) (s t : MachineState Group) (sent : List Sent) → Upper s t → Follows generation name w s sent → Follows generation name w t sent
upper_follows generation name w s t sent u a =
    let ahead = ahead_same name w s w t refl u.onward in
    record {
      ground = a.ground;
      holds = a.holds;
      shaped = upper_shaped (stream_of w.catalog.stream name) a.ground s t sent u a.shaped;
      rising = a.rising;
      asked = λ server to body c. asked_on name generation w s w t ahead sent body (a.asked server to body c);
      called = a.called;
      read = a.read;
      appended = a.appended;
      meant = λ p c server to. meant_on name generation w s w t ahead sent p (a.meant p c server to);
    }

-- ---- one more number

-- only one request has a number
pub same_request : (a b : ReqNo) → is_same a b ≡ true → a ≡ b
same_request (requests.Server s session count) (requests.Server t other number) is =
    let k = and_parts (s == t) ((session == other) && (count == number)) is in
    let m = and_parts (session == other) (count == number) k.1 in
    rw (eqb-true s t k.0, eqb-true session other m.0, eqb-true count number m.1) refl
same_request (requests.User u ticket) (requests.User v number) is =
    let k = and_parts (u == v) (ticket == number) is in
    rw (eqb-true u v k.0, eqb-true ticket number k.1) refl
same_request requests.NoRequest requests.NoRequest is = refl
same_request a b is = absurd cc

-- no server has asked under this number, and none was told what it means
abbrev pub Unused : StreamSystem → ReqNo → Type 0
Unused w fresh = (p : Packet) → Contains w.post p → (server : ℕ) (q : ReqNo) →
    ((p.from ≡ Server server) × (asked_number p.body ≡ Some q)) ⊎ ((p.to ≡ Server server) × (meant_number p.body ≡ Some q)) → is_same fresh q ≡ false

module _ (generation : ℕ → ℕ) (name : StreamName) (w : StreamSystem) (s : MachineState Group) (sent : List Sent) (x : Sent) where
  other_purpose : (q : ReqNo) → is_same x.request q ≡ false → purpose_of (x ∷ sent) q ≡ purpose_of sent q
  other_purpose q is = ap (λ b. if b then Some x.purpose else purpose_of sent q) is

  -- no group of the extent was appended under this number
  abbrev NoneUnder : Ground → ℕ → Type 0
  NoneUnder g e = (k : ℕ) (from : Origin) → slice_get (g.origin e) k ≡ Some from → is_same x.request from.request ≡ false

  more_sourced : (g : Ground) (e index : ℕ) (copies : List (Copy Group)) → NoneUnder g e → Sourced g sent e index copies → Sourced g (x ∷ sent) e index copies
  more_sourced g e index copies none old k c from is at p for = old k c from is at p (sym (other_purpose from.request (none k from at)) ∙ for)

  more_shaped : (o : Option Stream) (g : Ground) → ((index e : ℕ) → IsIn o index e → NoneUnder g e) → Shaped o g s sent → Shaped o g s (x ∷ sent)
  more_shaped o g none a = record {
    settled = record {
      fence = a.settled.fence;
      counts = a.settled.counts;
      born = a.settled.born;
      made = a.settled.made;
      shut = λ index e at l.
          let b = a.settled.shut index e at l in
          record { shut = b.shut; is = b.is; tied = b.tied; sources = more_sourced g e index b.shut.copies (none index e at) b.sources };
      checked = a.settled.checked;
    };
    live = λ v is.
        let b = a.live v is in
        record { extent = b.extent; at = b.at; tied = b.tied; sources = more_sourced g b.extent (length s.core.shut) (v.kept ++ v.loose) (none (length s.core.shut) b.extent b.at) b.sources };
  }

  of_extent : (e : ℕ) (q : ReqNo) → purpose_of (x ∷ sent) q ≡ purpose_of sent q → (P Q : ℕ → Type 0) → ((index : ℕ) → P index → Q index) → OfExtent generation name w s sent e q P → OfExtent generation name w s (x ∷ sent) e q Q
  of_extent e q same P Q f a = record {
    made = a.made;
    unsealed = λ index at. f index (a.unsealed index at);
    known = λ p for. let (index, at, asks) = a.known p (sym same ∙ for) in (index, at, f index asks);
  }

  of_stream : (Here : Type 0) (q : ReqNo) → purpose_of (x ∷ sent) q ≡ purpose_of sent q → (P Q : Type 0) → (P → Q) → OfStream generation name w s sent Here q P → OfStream generation name w s (x ∷ sent) Here q Q
  of_stream Here q same P Q f a = record { here = λ h. f (a.here h); elsewhere = λ none. same ∙ a.elsewhere none }

  more_asked : (body : Body) → ((q : ReqNo) → asked_number body ≡ Some q → purpose_of (x ∷ sent) q ≡ purpose_of sent q) → IsAsked generation name w s sent body → IsAsked generation name w s (x ∷ sent) body
  more_asked (bodies.Append (Append e g blocks q)) same a =
      of_extent e q (same q refl) (λ index. AsksToAppend generation name w s sent g e index blocks q) (λ index. AsksToAppend generation name w s (x ∷ sent) g e index blocks q)
      (λ index y. record { i = y.i; append = y.append; for = same q refl ∙ y.for; under = y.under; fact = y.fact }) a
  more_asked (bodies.Check (Check e g q)) same a =
      of_extent e q (same q refl) (λ index. AsksToCheck generation name w s sent g e index q) (λ index. AsksToCheck generation name w s (x ∷ sent) g e index q)
      (λ index y. record { i = y.i; for = same q refl ∙ y.for; under = y.under; fact = y.fact }) a
  more_asked (bodies.Read (ReadGroups e upto sealed q)) same a =
      of_extent e q (same q refl) (λ index. AsksToRead generation name w s sent e index upto q) (λ index. AsksToRead generation name w s (x ∷ sent) e index upto q)
      (λ index y. record { i = y.i; for = same q refl ∙ y.for }) a
  more_asked (bodies.Seal (SealExtent e q)) same a =
      of_extent e q (same q refl) (λ index. AsksToSeal generation name w s sent e index q) (λ index. AsksToSeal generation name w s (x ∷ sent) e index q)
      (λ index y. record { i = y.i; for = same q refl ∙ y.for }) a
  more_asked (bodies.Stream (OpenStreams range g q)) same a =
      of_stream (range ≡ name.range) q (same q refl) (AsksToOpen generation name w s sent g q) (AsksToOpen generation name w s (x ∷ sent) g q)
      (λ y. record { i = y.i; for = same q refl ∙ y.for; under = y.under; fact = y.fact }) a
  more_asked (bodies.Stream (Confirm range g q)) same a =
      of_stream (range ≡ name.range) q (same q refl) (AsksToConfirm generation name w s sent g q) (AsksToConfirm generation name w s (x ∷ sent) g q)
      (λ y. record { i = y.i; read = y.read; end = y.end; for = same q refl ∙ y.for; under = y.under; fact = y.fact }) a
  more_asked (bodies.Stream (Extend stream g last pick q)) same a =
      of_stream (stream ≡ name) q (same q refl) (AsksToExtend generation name w s sent g last q) (AsksToExtend generation name w s (x ∷ sent) g last q)
      (λ y. record { i = y.i; n = y.n; for = same q refl ∙ y.for; under = y.under; known = y.known; last_is = y.last_is; fact = y.fact }) a
  more_asked (bodies.Stream (MultiModify list q)) same a = a
  more_asked body same a = tt

  more_append : (z : Option Purpose) (b : AppendBody) → AppendMeans generation name w s sent z b → AppendMeans generation name w s (x ∷ sent) z b
  more_append (Some (ties.Appends i index append group)) (Appended q e o) m = m
  more_append z b m = tt

  more_check : (z : Option Purpose) (b : CheckBody) → CheckMeans generation name w s sent z b → CheckMeans generation name w s (x ∷ sent) z b
  more_check (Some (ties.Checks i index)) (CheckedAt q (Some l)) m = m
  more_check z b m = tt

  more_tells : (list : StreamList) → Tells generation name w s sent list → Tells generation name w s (x ∷ sent) list
  more_tells list a = record { left = a.left; whole = a.whole; ends = a.ends; known = a.known; are = a.are; sealed = a.sealed; unsealed = a.unsealed }

  more_stream : (z : Option Purpose) (b : StreamBody) → StreamMeans generation name w s sent z b → StreamMeans generation name w s (x ∷ sent) z b
  more_stream (Some (ties.Opens i)) (Opened q lists) m = (m.0, more_tells (list_of generation name w s sent name.kind lists) m.1)
  more_stream (Some (ties.Confirms i read end)) (Confirmed q) m = m
  more_stream (Some (ties.Extends i n)) (Extended q e places) m = m
  more_stream z b m = tt

  same_if : (z : Option ReqNo) → ((q : ReqNo) → z ≡ Some q → purpose_of (x ∷ sent) q ≡ purpose_of sent q) → purpose_if generation name w s (x ∷ sent) z ≡ purpose_if generation name w s sent z
  same_if None same = refl
  same_if (Some q) same = same q refl

  -- what stands in the stream was appended by servers, under numbers that they have used
  none_under : Unused w x.request → (a : Follows generation name w s sent) → (index e : ℕ) → IsIn (stream_of w.catalog.stream name) index e → NoneUnder a.ground e
  none_under unused a index e at k from is =
      let y = a.appended e k from is in
      let born = a.shaped.settled.born index e at in
      let older : a.ground.born e ≤ from.generation = each-get (λ (z : Origin). a.ground.born e ≤ z.generation) (a.ground.origin e) k from (a.holds.sound.born e) is in
      by_from y y.packet.from refl (a.called y.packet y.sent (ap is_server_call y.body)) (omega (arith, born, older, y.counted))
    where
      by_from : (y : Appending w.post e from) → (who : ActorId) → y.packet.from ≡ who → is_outside y.packet.from ≡ true → 1 ≤ generation_of y.packet.from y.generation → is_same x.request from.request ≡ false
      by_from y (Server server) is_from outside some = unused y.packet y.sent server from.request (inl (is_from, ap asked_number y.body))
      by_from y (User user) is_from outside some = absurd (let m = subst (λ z. 1 ≤ generation_of z y.generation) is_from some in omega (arith, m))
      by_from y (Node n) is_from outside some = absurd (let m = subst (λ z. is_outside z ≡ true) is_from outside in cc)
      by_from y Manager is_from outside some = absurd (let m = subst (λ z. is_outside z ≡ true) is_from outside in cc)
      by_from y Map is_from outside some = absurd (let m = subst (λ z. is_outside z ≡ true) is_from outside in cc)

  pub sent_follows : Unused w x.request → Follows generation name w s sent → Follows generation name w s (x ∷ sent)
  sent_follows unused a =
      let same : (p : Packet) → Contains w.post p → (server : ℕ) → p.to ≡ Server server → (q : ReqNo) → meant_number p.body ≡ Some q → purpose_of (x ∷ sent) q ≡ purpose_of sent q =
      λ p c server to q is. other_purpose q (unused p c server q (inr (to, is))) in
      record {
        ground = a.ground;
        holds = a.holds;
        shaped = more_shaped (stream_of w.catalog.stream name) a.ground (none_under unused a) a.shaped;
        rising = a.rising;
        asked = λ server to body c. more_asked body (λ q is. other_purpose q (unused (packet (Server server) to body) c server q (inl (refl, is)))) (a.asked server to body c);
        called = a.called;
        read = a.read;
        appended = a.appended;
        meant = λ p c server to.
            let m = a.meant p c server to in
            record {
              appended = λ q e o is.
                  subst (λ z. AppendMeans generation name w s (x ∷ sent) z (Appended q e o)) (sym (same p c server to q (ap meant_number is)))
                  (more_append (purpose_of sent q) (Appended q e o) (m.appended q e o is));
              checked = λ q l is.
                  subst (λ z. CheckMeans generation name w s (x ∷ sent) z (CheckedAt q (Some l))) (sym (same p c server to q (ap meant_number is)))
                  (more_check (purpose_of sent q) (CheckedAt q (Some l)) (m.checked q l is));
              streamed = λ body is.
                  subst (λ z. StreamMeans generation name w s (x ∷ sent) z body) (sym (same_if (stream_meant body) (λ q k. same p c server to q (ap meant_number is ∙ k))))
                  (more_stream (purpose_if generation name w s sent (stream_meant body)) body (m.streamed body is));
            };
      }
