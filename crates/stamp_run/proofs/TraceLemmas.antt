-- What is kept of a trace, through each change.
use Rattle.std.proofs.Common.{◌≡◌, ◌+◌, ℕ, List, [], ◌∷◌, ◌++◌, set, Option, Some, None, true, refl, sym, ap, ◌∙◌, subst, arith}
use Rattle.std.specs.Prelude.{slice_get}
use Rattle.wire.specs.declared.packet.Packet.{Packet}
use Rattle.model_streams.specs.declared.event.Event.{Event}
use Rattle.model_streams.specs.declared.event.Event.TheVariants.{Deliver, Moment}
use Rattle.stamp_answers.specs.FirstAnswers.{Numbers, kept_at}
use Rattle.stamp_answers.specs.declared.key.AnswerKey.{AnswerKey}
use Rattle.stamp_traces.specs.Cells.{CellStep, booking_for}
use Rattle.stamp_traces.specs.Journals.{with_entry, with_look, with_step, without_booking}
use Rattle.stamp_traces.specs.Moments.{MomentState, moment_by, with_moment}
use Rattle.stamp_traces.specs.Shown.{BookingState}
use Rattle.stamp_traces.specs.Traces.{Leads, entry_of}
use Rattle.stamp_traces.specs.declared.takers.Takers.{Takers}
use Rattle.world_steps.specs.ActorStep.{ActorStep, nothing}
use Rattle.world_actors.specs.Actors.{first_of}
use Rattle.world_actors.specs.Steps.{Goes}
use Rattle.world_actors.specs.declared.actor_input.ActorInput.{ActorInput}
use Rattle.world_actors.specs.Inputs.{clock_readers, is_moment, one_at, packet_of, takers_in}
use Rattle.laws_traces.specs.Traces.{IsLegalEntry, IsLegalFrom, IsLegalTrace, RunEntry, sent_by}
use Rattle.laws_traces.proofs.Growing.{legal_after, legal_taken, sent_after}
use Rattle.stamp_run.specs.Answers.{brought_by, first_number}
use Rattle.stamp_run.specs.Bookings.{AreBooked, IsBooked}
use Rattle.stamp_run.specs.Logs.{Logged, logged_by, log_of}
use Rattle.stamp_run.specs.Passes.{Sight}
use Rattle.stamp_run.specs.Traces.{IsRunTrace, RunJournal}
use Rattle.stamp_run.proofs.AnswerLemmas.{first_number_same, taken_brings_none}
use Rattle.stamp_run.proofs.BookingLemmas.{all_booked_after, booked_but, booked_too}
use Rattle.stamp_run.proofs.LogLemmas.{log_after}

moment_carries : (post : List Packet) (event : Event) (o : Option Packet) → is_moment event ≡ true → o ≡ None → o ≡ packet_of post event
moment_carries post (Moment now) o clock none = none
moment_carries post event o clock none = absurd cc

moment_brings_none : (k : AnswerKey) (event : Event) (o : Option Packet) → is_moment event ≡ true → brought_by k event o ≡ None
moment_brings_none k (Deliver number) o clock = absurd cc
moment_brings_none k event o clock = refl

moment_takers : (ns : List ℕ) (d : ActorInput) → is_moment d.event ≡ true → takers_in ns d ≡ clock_readers ns
moment_takers ns d clock = rw clock refl

-- the entries of a journal whose steps lead from the first actors are a legal trace
pub legal_trace : (ns : List ℕ) (xs : List RunEntry) → Leads Goes (first_of ns) xs → IsLegalFrom ns [] xs → IsLegalTrace ns xs
legal_trace ns xs leads entries = record { states = leads.0; leads = leads.1; entries = entries }

-- nothing has happened
pub trace_none : (ns : List ℕ) (j : RunJournal) (answers : Numbers) → j.entries ≡ [] → ((n : ℕ) (b : BookingState ActorInput) → slice_get j.bookings n ≡ Some (Some b) → ⊥) →
    ((k : AnswerKey) → kept_at answers k ≡ None) → IsRunTrace ns j [] [] answers
trace_none ns j answers none unbooked unanswered = record {
  legal = subst (λ (l : List RunEntry). IsLegalFrom ns [] l) (sym none) tt;
  post = sym (ap sent_by none);
  log = sym (ap log_of none);
  answers = λ k. unanswered k ∙ sym (ap (first_number k) none);
  bookings = record { each = λ n b at. absurd (unbooked n b at) };
}

module _ (ns : List ℕ) (j : RunJournal) (post : List Packet) (log : List Logged) (answers : Numbers) (t : IsRunTrace ns j post log answers) where
  -- a pass has seen all
  pub trace_seen : (v : Sight) → IsRunTrace ns (with_look j v) post log answers
  trace_seen v = record { legal = t.legal; post = t.post; log = t.log; answers = t.answers; bookings = t.bookings }

  -- other passes are kept
  pub trace_passes : (passes : List (Option ℕ)) → IsRunTrace ns (record j { passes = passes }) post log answers
  trace_passes passes = record { legal = t.legal; post = t.post; log = t.log; answers = t.answers; bookings = t.bookings }

  -- another number of entries is booked
  pub trace_counted : (booked : ℕ) → IsRunTrace ns (record j { booked = booked }) post log answers
  trace_counted booked = record { legal = t.legal; post = t.post; log = t.log; answers = t.answers; bookings = t.bookings }

  -- an input is booked
  pub trace_booked : (n : ℕ) (b : BookingState ActorInput) → IsBooked ns (sent_by j.entries) n b.event →
      IsRunTrace ns (record j { booked = j.booked + 1; bookings = set j.bookings n (Some b) }) post log answers
  trace_booked n b booked = record {
    legal = t.legal;
    post = t.post;
    log = t.log;
    answers = t.answers;
    bookings = booked_too ns post j.bookings t.bookings n b (subst (λ (l : List Packet). IsBooked ns l n b.event) (sym t.post) booked);
  }

  -- a booking is given back
  pub trace_unbooked : (n : ℕ) → IsRunTrace ns (without_booking j n) post log answers
  trace_unbooked n = record { legal = t.legal; post = t.post; log = t.log; answers = t.answers; bookings = booked_but ns post j.bookings t.bookings n }

  module _ (x : RunEntry) (legal : IsLegalEntry ns (sent_by j.entries) x) where
    -- one entry more, with whatever is booked then
    grown : (i : RunJournal) (kept : Numbers) → i.entries ≡ j.entries ++ x ∷ [] → AreBooked ns (post ++ x.reply.packets) i.bookings →
        ((k : AnswerKey) → kept_at kept k ≡ first_number k (j.entries ++ x ∷ [])) → IsRunTrace ns i (post ++ x.reply.packets) (log ++ logged_by x ∷ []) kept
    grown i kept is booked first = record {
      legal = subst (λ (l : List RunEntry). IsLegalFrom ns [] l) (sym is) (legal_after ns [] j.entries x t.legal legal);
      post = ap (λ (l : List Packet). l ++ x.reply.packets) t.post ∙ (sym (sent_after j.entries x) ∙ sym (ap sent_by is));
      log = ap (λ (l : List Logged). l ++ logged_by x ∷ []) t.log ∙ (sym (log_after j.entries x) ∙ sym (ap log_of is));
      answers = λ k. first k ∙ sym (ap (first_number k) is);
      bookings = booked;
    }

    -- an entry, and whatever first answers there are then
    pub trace_noted : (v : Sight) (kept : Numbers) → ((k : AnswerKey) → kept_at kept k ≡ first_number k (j.entries ++ x ∷ [])) →
        IsRunTrace ns (with_entry j x v) (post ++ x.reply.packets) (log ++ logged_by x ∷ []) kept
    trace_noted v kept first = grown (with_entry j x v) kept refl (all_booked_after ns post j.bookings t.bookings x.reply.packets) first

  -- the entry of what is booked is legal
  legal_booked : (n pass : ℕ) (d : ActorInput) (reply : ActorStep) → IsBooked ns post n d → IsLegalEntry ns (sent_by j.entries) (record { pass = pass; takers = one_at (Some n); event = d; reply = reply })
  legal_booked n pass d reply booked =
      subst (λ (l : List Packet). IsLegalEntry ns l (record { pass = pass; takers = one_at (Some n); event = d; reply = reply })) t.post
      (legal_taken ns post (record { pass = pass; takers = one_at (Some n); event = d; reply = reply }) (sym booked.takers) (omega arith) booked.carries)

  -- the step of what was booked
  pub trace_stepped : {S : Type 0} (s : CellStep S ActorInput ActorStep) (v : Sight) → slice_get j.bookings s.number ≡ Some (Some (booking_for s)) →
      IsRunTrace ns (with_step j s v) (post ++ s.reply.packets) (log ++ logged_by (entry_of v.number s) ∷ []) answers
  trace_stepped s v at =
      let booked = t.bookings.each s.number (booking_for s) at in
      grown (entry_of v.number s) (legal_booked s.number v.number s.event s.reply booked) (with_step j s v) answers refl
      (all_booked_after ns post (set j.bookings s.number None) (booked_but ns post j.bookings t.bookings s.number) s.reply.packets)
      (λ k. t.answers k ∙ sym (first_number_same k j.entries (entry_of v.number s) (taken_brings_none ns s.number k s.event.event s.event.packet booked.takers)))

  -- the entry of a moment is legal
  legal_moment : (pass : ℕ) (d : ActorInput) → is_moment d.event ≡ true → d.packet ≡ None → IsLegalEntry ns (sent_by j.entries) (record { pass = pass; takers = clock_readers ns; event = d; reply = nothing })
  legal_moment pass d clock bare =
      legal_taken ns (sent_by j.entries) (record { pass = pass; takers = clock_readers ns; event = d; reply = nothing })
      (sym (moment_takers ns d clock)) (omega arith) (moment_carries (sent_by j.entries) d.event d.packet clock bare)

  -- a moment that was booked
  pub trace_moved : {S : Type 0} (m : MomentState S ActorInput) (v : Sight) → m.takers ≡ clock_readers ns → is_moment m.event.event ≡ true → m.event.packet ≡ None →
      IsRunTrace ns (with_moment j m nothing v) (post ++ []) (log ++ logged_by (moment_by v.number m nothing) ∷ []) answers
  trace_moved m v takers clock bare =
      let x : RunEntry = record { pass = v.number; takers = clock_readers ns; event = m.event; reply = nothing } in
      let same : moment_by v.number m nothing ≡ x = ap (λ (k : Takers). record { pass = v.number; takers = k; event = m.event; reply = nothing }) takers in
      grown (moment_by v.number m nothing) (subst (IsLegalEntry ns (sent_by j.entries)) (sym same) (legal_moment v.number m.event clock bare)) (with_moment j m nothing v) answers refl
      (all_booked_after ns post j.bookings t.bookings [])
      (λ k. t.answers k ∙ sym (first_number_same k j.entries (moment_by v.number m nothing) (moment_brings_none k m.event.event m.event.packet clock)))
