-- What is kept of a trace and of a pass, as the functions that change them want it.
use Rattle.std.proofs.Common.{◌≡◌, ◌+◌, ℕ, List, [], ◌∷◌, ◌++◌, set, Bool, true, false, Option, Some, None, refl, sym, ap, ◌∙◌}
use Rattle.std.specs.Prelude.{MatchBool, OnErr, OnOk, Result, Ok, Err, slice_get}
use Rattle.wire.specs.declared.packet.Packet.{Packet}
use Rattle.stamp_answers.specs.FirstAnswers.{Numbers, kept_at}
use Rattle.stamp_answers.specs.declared.answer.Answer.{Answer}
use Rattle.stamp_answers.specs.declared.key.AnswerKey.{AnswerKey}
use Rattle.stamp_answers.specs.declared.ticket.Ticket.{Ticket}
use Rattle.stamp_traces.specs.Cells.{CellStep, booking_for}
use Rattle.stamp_traces.specs.Journals.{with_entry, with_step, without_booking}
use Rattle.stamp_traces.specs.Moments.{MomentState, moment_by, with_moment}
use Rattle.stamp_traces.specs.Passes.{PassLooks, PassPuts, PassStands}
use Rattle.stamp_traces.specs.Shown.{BookingState}
use Rattle.stamp_traces.specs.Traces.{entry_of}
use Rattle.world_steps.specs.ActorStep.{ActorStep, nothing}
use Rattle.world_actors.specs.declared.actor_input.ActorInput.{ActorInput}
use Rattle.world_actors.specs.Inputs.{clock_readers, is_moment}
use Rattle.laws_traces.specs.Traces.{IsLegalEntry, RunEntry, sent_by}
use Rattle.stamp_run.specs.Answers.{first_number}
use Rattle.stamp_run.specs.Bookings.{IsBooked}
use Rattle.stamp_run.specs.Logs.{Logged, logged_by}
use Rattle.stamp_run.specs.Passes.{AreAnswers, Sight}
use Rattle.stamp_run.specs.Traces.{IsRunTrace, RunJournal}
use Rattle.stamp_run.proofs.AnswerLemmas.{answers_after_look, answers_after_put, answers_stay}
use Rattle.stamp_run.proofs.TraceLemmas.{trace_booked, trace_moved, trace_noted, trace_stepped, trace_unbooked}

-- ---- passes

-- a user's number stays that of its pass
number_after : (user old new : ℕ) → user ≡ old + 1 → new ≡ old → user ≡ new + 1
number_after user old new is same = is ∙ ap (λ (n : ℕ). n + 1) (sym same)

pub pass_puts : (user : ℕ) (old new : Sight) (x : RunEntry) (answered : List (Ticket × Answer)) → PassPuts old x new → user ≡ old.number + 1 → AreAnswers old.seen answered →
    (user ≡ new.number + 1) × AreAnswers new.seen answered
pass_puts user old new x answered puts is all = (number_after user old.number new.number is puts.number, answers_after_put old new x answered puts all)

-- it has seen all, or is as it was
pub pass_looks : {X Y : Type 0} (P : Type 0) (result : Result X Y) (user : ℕ) (old new : Sight) (answered : List (Ticket × Answer)) → OnOk result (PassLooks old new) → OnErr result (P × (new ≡ old)) →
    user ≡ old.number + 1 → AreAnswers old.seen answered → (user ≡ new.number + 1) × AreAnswers new.seen answered
pass_looks P (Ok x) user old new answered looks err is all = (number_after user old.number new.number is looks.number, answers_after_look old new answered looks all)
pass_looks P (Err y) user old new answered looks err is all = rw err.1 (is, all)

pub stands_answer : (xs : List RunEntry) (v : Sight) (answered : List (Ticket × Answer)) (Q : Type 0) (b : Bool) → MatchBool b (PassStands xs v) Q → AreAnswers v.seen answered → b ≡ true → AreAnswers xs answered
stands_answer xs v answered Q true stands all is = answers_stay v.seen xs answered stands.begins all
stands_answer xs v answered Q false stands all is = absurd cc

-- ---- journals

pub same_passes : (j i : RunJournal) (passes : List (Option ℕ)) → i ≡ record j { passes = passes } → i ≡ record j { passes = i.passes }
same_passes j i passes is = rw is refl

module _ (ns : List ℕ) (j i : RunJournal) (packets : List Packet) (lines : List Logged) (numbers : Numbers) (t : IsRunTrace ns j packets lines numbers) where
  pub book_keeps : (n : ℕ) (b : BookingState ActorInput) → IsBooked ns (sent_by j.entries) n b.event → i ≡ record j { booked = j.booked + 1; bookings = set j.bookings n (Some b) } →
      IsRunTrace ns i packets lines numbers
  book_keeps n b booked is = rw is (trace_booked ns j packets lines numbers t n b booked)

  pub unbook_keeps : (n : ℕ) → i ≡ without_booking j n → IsRunTrace ns i packets lines numbers
  unbook_keeps n is = rw is (trace_unbooked ns j packets lines numbers t n)

  module _ (sent : List Packet) (told : List Logged) (l : Logged) (v : Sight) where
    -- an entry of nobody
    pub note_keeps : (x : RunEntry) (kept : Numbers) → IsLegalEntry ns (sent_by j.entries) x → i ≡ with_entry j x v → sent ≡ packets ++ x.reply.packets → told ≡ lines ++ l ∷ [] → l ≡ logged_by x →
        ((k : AnswerKey) → kept_at kept k ≡ first_number k (j.entries ++ x ∷ [])) → IsRunTrace ns i sent told kept
    note_keeps x kept legal is packets_are lines_are line first = rw (is, packets_are, lines_are, line) (trace_noted ns j packets lines numbers t x legal v kept first)

    -- a step that was booked
    pub step_keeps : {S : Type 0} (s : CellStep S ActorInput ActorStep) → slice_get j.bookings s.number ≡ Some (Some (booking_for s)) → i ≡ with_step j s v → sent ≡ packets ++ s.reply.packets →
        told ≡ lines ++ l ∷ [] → l ≡ logged_by (entry_of v.number s) → IsRunTrace ns i sent told numbers
    step_keeps s at is packets_are lines_are line = rw (is, packets_are, lines_are, line) (trace_stepped ns j packets lines numbers t s v at)

    -- a moment
    pub moment_keeps : {S : Type 0} (m : MomentState S ActorInput) → m.takers ≡ clock_readers ns → is_moment m.event.event ≡ true → m.event.packet ≡ None → i ≡ with_moment j m nothing v → sent ≡ packets ++ [] →
        told ≡ lines ++ l ∷ [] → l ≡ logged_by (moment_by v.number m nothing) → IsRunTrace ns i sent told numbers
    moment_keeps m takers clock bare is packets_are lines_are line = rw (is, packets_are, lines_are, line) (trace_moved ns j packets lines numbers t m v takers clock bare)
