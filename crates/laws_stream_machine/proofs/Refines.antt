-- How a stream system and the machine of one stream go together, and what keeps them so without a step of the machine.
use Rattle.std.proofs.Common.{◌≡◌, ℕ, Bool, true, false, ◌&&◌, nat_le, List, [], ◌∷◌, ◌++◌, length, Option, Some, None, Contains, refl, sym, ap, ◌∙◌, subst, inl, inr, arith, ◌==◌}
use Rattle.std.proofs.lemmas.Option.{slice_get_within}
use Rattle.wire.specs.declared.actor.ActorId.{ActorId}
use Rattle.wire.specs.declared.actor.ActorId.TheVariants.{Server, User}
use Rattle.wire.specs.declared.actor.ReqNo.{ReqNo}
use Rattle.wire.specs.declared.body.AppendBody.TheVariants.{Append, Appended}
use Rattle.wire.specs.declared.body.CheckBody.TheVariants.{Checked as CheckedAt}
use Rattle.wire.specs.declared.body.ReadBody.TheVariants.{Groups}
use Rattle.wire.specs.declared.body.StreamBody.{StreamBody}
use Rattle.wire.specs.declared.body.StreamBody.TheVariants.{CreateStream, OpenStreams, Confirm, Extend, Trim, MultiModify}
use Rattle.wire.specs.declared.body.Body.{Body}
use Rattle.wire.specs.declared.body.Body.TheVariants as bodies
use Rattle.wire.specs.declared.note.Note.{Note}
use Rattle.wire.specs.declared.packet.Packet.{Packet}
use Rattle.wire.specs.declared.streams.StreamName.{StreamName}
use Rattle.replica.specs.Groups.{Group}
use Rattle.streams.specs.Streams.{Stream, empty_stream, stream_of, kind_number}
use Rattle.model_streams.specs.Outcome.{packet}
use Rattle.model_streams.specs.declared.event.Event.TheVariants.{Submit}
use Rattle.model_streams.specs.StreamSystem.Move.{Says, Asks, Observes}
use Rattle.model_streams.specs.StreamSystem.{StreamSystem, moved, happens, is_server_call, is_told, is_table_note, is_request, sent_more, start}
use Rattle.model_streams.proofs.Tests.{if_elim}
use Rattle.laws_streams.specs.Listings.{IsRising}
use Rattle.laws_streams.proofs.Choices.{contains_pushed, contains_left}
use Rattle.laws_streams.proofs.Ground.{Ground, FineBody}
use Rattle.laws_streams.proofs.MoreKnown.{later_refl}
use Rattle.laws_streams.proofs.RestsOnGround.{Holds}
use Rattle.laws_streams.proofs.EventSteps.{start_good, sent_holds, shown_holds, server_fine, told_fine, user_fine}
use Rattle.model_histories.specs.StreamMachine as machine
use Rattle.model_histories.specs.StreamMachine.{MachineState}
use Rattle.laws_stream_machine.specs.Refinement.{Sent, IsAsked, AllAsked, StreamMeans, purpose_if, stream_meant}
use Rattle.laws_stream_machine.proofs.StepSequences.{onward_refl}
use Rattle.laws_stream_machine.proofs.MachineCore.{Shaped}
use Rattle.laws_stream_machine.proofs.SentPackets.{Called, Rises, AllRead, reading_on, AllAppended, appended_more, Ahead, ahead_same, asked_on, Meant, meant_on}

-- the stream of the stream system is the core of the machine, and what is in the post is what the facts of the machine say
pub record Follows (generation : ℕ → ℕ) (name : StreamName) (w : StreamSystem) (s : MachineState Group) (sent : List Sent) : Type 0 where
  pub ground : Ground
  pub holds : Holds w ground
  pub shaped : Shaped (stream_of w.catalog.stream name) ground s sent
  pub rising : Rises name w
  pub asked : AllAsked generation name w s sent
  pub called : (p : Packet) → Contains w.post p → Called p
  pub read : AllRead w.post ground
  pub appended : AllAppended w.post ground
  pub meant : (p : Packet) → Contains w.post p → (server : ℕ) → p.to ≡ Server server → Meant name generation w s sent p

-- ---- at first

first_shaped : (o : Option Stream) (g : Ground) (sent : List Sent) → ((x : Stream) → o ≡ Some x → empty_stream 0 ≡ x) → Shaped o g (record { core = record { shut = []; live = None; fence = 0 }; facts = []; story = [] }) sent
first_shaped None g sent is = record {
  settled = record {
    fence = (refl, λ i n m. m);
    counts = refl;
    born = λ index e at. absurd cc;
    made = λ index e at. absurd cc;
    shut = λ index e at l. absurd cc;
    checked = λ i index stood end m. absurd m;
  };
  live = λ v is. absurd cc;
}
first_shaped (Some x) g sent is =
    subst (λ z. Shaped (Some z) g (record { core = record { shut = []; live = None; fence = 0 }; facts = []; story = [] }) sent) (is x refl) (record {
      settled = record {
        fence = inl refl;
        counts = refl;
        born = λ index e at. absurd cc;
        made = λ index e at. absurd cc;
        shut = λ index e at l. absurd cc;
        checked = λ i index stood end m. absurd m;
      };
      live = λ v is. absurd cc;
    })

nothing_in : (p : Packet) → Contains [] p → ⊥
nothing_in p c = omega (arith, c.1)

pub start_follows : (generation : ℕ → ℕ) (name : StreamName) (nodes target : ℕ) → Follows generation name (start nodes target) (machine.nothing Group generation) []
start_follows generation name nodes target =
    let good = start_good (λ e group from. Unit {0}) (λ e l. Unit {0}) nodes target in
    record {
      ground = good.ground;
      holds = good.holds;
      shaped = first_shaped (stream_of (start nodes target).catalog.stream name) good.ground []
          (λ x. if_elim (λ o. o ≡ Some x → empty_stream 0 ≡ x) ((name.range == 1) && nat_le (kind_number name.kind) 3) (Some (empty_stream 0)) None (λ t is. cc) (λ t is. absurd cc));
      rising = λ x.
          if_elim (λ o. o ≡ Some x → IsRising x) ((name.range == 1) && nat_le (kind_number name.kind) 3) (Some (empty_stream 0)) None
          (λ t is. let c : empty_stream 0 ≡ x = cc in subst IsRising c (λ i j e f l at next. absurd cc)) (λ t is. absurd cc);
      asked = λ server to body c. absurd (nothing_in _ c);
      called = λ p c. absurd (nothing_in p c);
      read = λ from server q e groups c. absurd (nothing_in _ c);
      appended = λ e k from is.
          let empty = good.holds.sound.unmade e (good.holds.catalog.places e) in
          let within = slice_get_within (good.ground.origin e) k from is in
          absurd (omega (arith, within, good.holds.sound.aged e, ap (λ (xs : List Group). length xs) empty.0));
      meant = λ p c server to. absurd (nothing_in p c);
    }

-- ---- one more packet, which answers nothing

-- a body that is no answer of the lower layer
abbrev pub NoAnswer : Body → Type 0
NoAnswer body =
    ((q : ReqNo) (e o : ℕ) → body ≡ bodies.Append (Appended q e o) → ⊥)
    × ((q : ReqNo) (l : ℕ) → body ≡ bodies.Check (CheckedAt q (Some l)) → ⊥)
    × ((q : ReqNo) (e : ℕ) (groups : List Group) → body ≡ bodies.Read (Groups q e groups) → ⊥)
    × ((b : StreamBody) → body ≡ bodies.Stream b → stream_meant b ≡ None)

no_answer_of : (test : Body → Bool) → ((q : ReqNo) (e o : ℕ) → test (bodies.Append (Appended q e o)) ≡ false) → ((q : ReqNo) (l : ℕ) → test (bodies.Check (CheckedAt q (Some l))) ≡ false) →
    ((q : ReqNo) (e : ℕ) (groups : List Group) → test (bodies.Read (Groups q e groups)) ≡ false) →
    ((b : StreamBody) → test (bodies.Stream b) ≡ true → stream_meant b ≡ None) → (body : Body) → test body ≡ true → NoAnswer body
no_answer_of test a b c d body t = (
  λ q e o is. let k = a q e o in let m = ap test is in absurd cc,
  λ q l is. let k = b q l in let m = ap test is in absurd cc,
  λ q e groups is. let k = c q e groups in let m = ap test is in absurd cc,
  λ x is. d x (sym (ap test is) ∙ t),
)

stream_call_number : (b : StreamBody) → is_server_call (bodies.Stream b) ≡ true → stream_meant b ≡ None
stream_call_number (CreateStream s f q) t = refl
stream_call_number (OpenStreams r g q) t = refl
stream_call_number (Confirm r g q) t = refl
stream_call_number (Extend s g l p q) t = refl
stream_call_number (Trim r g n k q) t = refl
stream_call_number (MultiModify list q) t = refl
stream_call_number b t = absurd cc

stream_request_number : (b : StreamBody) → is_request (bodies.Stream b) ≡ true → stream_meant b ≡ None
stream_request_number (CreateStream s f q) t = refl
stream_request_number (Extend s g l p q) t = refl
stream_request_number b t = absurd cc

pub call_no_answer : (body : Body) → is_server_call body ≡ true → NoAnswer body
call_no_answer body t = no_answer_of is_server_call (λ q e o. refl) (λ q l. refl) (λ q e groups. refl) stream_call_number body t

pub request_no_answer : (body : Body) → is_request body ≡ true → NoAnswer body
request_no_answer body t = no_answer_of is_request (λ q e o. refl) (λ q l. refl) (λ q e groups. refl) stream_request_number body t

pub told_no_answer : (body : Body) → is_told body ≡ true → NoAnswer body
told_no_answer body t = no_answer_of is_told (λ q e o. refl) (λ q l. refl) (λ q e groups. refl) (λ b u. absurd cc) body t

module _ (generation : ℕ → ℕ) (name : StreamName) (s : MachineState Group) (sent : List Sent) where
  unnumbered : (v : StreamSystem) (b : StreamBody) → stream_meant b ≡ None → StreamMeans generation name v s sent (purpose_if generation name v s sent (stream_meant b)) b
  unnumbered v b none = rw none (by_body b)
    where
      by_body : (b : StreamBody) → StreamMeans generation name v s sent None b
      by_body b = tt

  pub no_answer_means : (v : StreamSystem) (p : Packet) → NoAnswer p.body → Meant name generation v s sent p
  no_answer_means v p none = record {
    appended = λ q e o is. absurd (none.0 q e o is);
    checked = λ q l is. absurd (none.1 q l is);
    streamed = λ b is. unnumbered v b (none.3 b is);
  }

  -- one more packet, whatever else of the stream system does not matter to a stream
  pub one_more : (w : StreamSystem) (from to : ActorId) (body : Body) → (a : Follows generation name w s sent) → FineBody a.ground from to body → NoAnswer body →
      ((server : ℕ) → from ≡ Server server → IsAsked generation name w s sent body) → Called (packet from to body) → Follows generation name (sent_more w (packet from to body ∷ [])) s sent
  one_more w from to body a fine none asked called =
      let p : Packet = packet from to body in
      let v : StreamSystem = sent_more w (p ∷ []) in
      let ahead : Ahead name w s v s = ahead_same name w s v s refl (onward_refl s) in
      record {
        ground = a.ground;
        holds = sent_holds w (p ∷ []) a.ground a.holds (fine, tt);
        shaped = a.shaped;
        rising = a.rising;
        asked = λ server who b c. asked_on name generation w s v s ahead sent b (elim (contains_pushed w.post p (packet (Server server) who b) c) [
          | inl old ↦ a.asked server who b old
          | inr new ↦
              let f : from ≡ Server server = ap (λ (x : Packet). x.from) (sym new) in
              subst (IsAsked generation name w s sent) (ap (λ (x : Packet). x.body) (sym new)) (asked server f)
        ]);
        called = λ x c. elim (contains_pushed w.post p x c) [ inl old ↦ a.called x old | inr new ↦ subst Called (sym new) called ];
        read = λ who server q e groups c. elim (contains_pushed w.post p _ c) [
          | inl old ↦ reading_on w.post v.post a.ground a.ground (λ x d. contains_left w.post (p ∷ []) x d) (later_refl a.ground) who server q e groups (a.read who server q e groups old)
          | inr new ↦ absurd (none.2 q e groups (ap (λ (x : Packet). x.body) (sym new)))
        ];
        appended = appended_more w.post v.post a.ground (λ x c. contains_left w.post (p ∷ []) x c) a.appended;
        meant = λ x c server to. elim (contains_pushed w.post p x c) [
          | inl old ↦ meant_on name generation w s v s ahead sent x (a.meant x old server to)
          | inr new ↦ no_answer_means v x (subst (λ (y : Packet). NoAnswer y.body) (sym new) none)
        ];
      }

  pub told_asked : (w : StreamSystem) (body : Body) → is_told body ≡ true → IsAsked generation name w s sent body
  told_asked w (bodies.Append (Append e g blocks q)) t = absurd cc
  told_asked w (bodies.Check b) t = absurd cc
  told_asked w (bodies.Seal b) t = absurd cc
  told_asked w (bodies.Read b) t = absurd cc
  told_asked w (bodies.Stream b) t = absurd cc
  told_asked w body t = tt

  told_calls_not : (body : Body) → is_told body ≡ true → is_server_call body ≡ true → ⊥
  told_calls_not (bodies.Append (Append e g blocks q)) t k = cc
  told_calls_not (bodies.Check b) t k = cc
  told_calls_not (bodies.Seal b) t k = cc
  told_calls_not (bodies.Read b) t k = cc
  told_calls_not (bodies.Stream b) t k = cc
  told_calls_not body t k = cc

  -- ---- moves of others

  pub says_follows : (w : StreamSystem) (from to : ActorId) (body : Body) → Follows generation name w s sent → Follows generation name (moved w (Says from to body)) s sent
  says_follows w from to body a =
      if_elim (λ v. Follows generation name v s sent) (is_told body) (sent_more w (packet from to body ∷ [])) w
      (λ t. one_more w from to body a (told_fine a.ground from to body t) (told_no_answer body t) (λ server is. told_asked w body t) (λ k. absurd (told_calls_not body t k)))
      (λ t. a)

  pub asks_follows : (w : StreamSystem) (server : ℕ) (to : ActorId) (body : Body) → (is_server_call body ≡ true → IsAsked generation name w s sent body) → Follows generation name w s sent →
      Follows generation name (moved w (Asks server to body)) s sent
  asks_follows w server to body asked a =
      if_elim (λ v. Follows generation name v s sent) (is_server_call body) (sent_more w (packet (Server server) to body ∷ [])) w
      (λ t. one_more w (Server server) to body a (server_fine a.ground (Server server) to body t) (call_no_answer body t) (λ other is. asked t) (λ k. refl))
      (λ t. a)

  pub submit_follows : (w : StreamSystem) (user : ℕ) (to : ActorId) (body : Body) → Follows generation name w s sent → Follows generation name (happens w (Submit user to body)) s sent
  submit_follows w user to body a =
      if_elim (λ v. Follows generation name v s sent) (is_request body) (sent_more w (packet (User user) to body ∷ [])) w
      (λ t. one_more w (User user) to body a (user_fine a.ground (User user) to body t) (request_no_answer body t) (λ server is. absurd cc) (λ k. refl))
      (λ t. a)

  pub observes_follows : (w : StreamSystem) (note : Note) → Follows generation name w s sent → Follows generation name (moved w (Observes note)) s sent
  observes_follows w note a =
      if_elim (λ v. Follows generation name v s sent) (is_table_note note) (record w { notes = w.notes ++ note ∷ [] }) w
      (λ t.
      let v : StreamSystem = record w { notes = w.notes ++ note ∷ [] } in
      let ahead : Ahead name w s v s = ahead_same name w s v s refl (onward_refl s) in
      record {
        ground = a.ground;
        holds = shown_holds w note t a.ground a.holds;
        shaped = a.shaped;
        rising = a.rising;
        asked = λ server who b c. asked_on name generation w s v s ahead sent b (a.asked server who b c);
        called = a.called;
        read = a.read;
        appended = a.appended;
        meant = λ x c server to. meant_on name generation w s v s ahead sent x (a.meant x c server to);
      })
      (λ t. a)
