-- What a trace answers stays the same, however much is appended.
use Rattle.std.proofs.Common.{◌≡◌, ◌≢◌, ℕ, zero, suc, List, [], ◌∷◌, ◌++◌, Option, Some, None, inl, inr, refl, sym, ap, ◌∙◌, subst, append_assoc, arith}
use Rattle.std.specs.Prelude.{slice_get}
use Rattle.std.specs.Option.{option_or}
use Rattle.std.proofs.lemmas.Option.{none-some}
use Rattle.wire.specs.declared.actor.ActorId.{ActorId}
use Rattle.wire.specs.declared.actor.ActorId.TheVariants.{User}
use Rattle.wire.specs.declared.body.Body.{Body}
use Rattle.wire.specs.declared.packet.Packet.{Packet}
use Rattle.model_streams.specs.declared.event.Event.{Event}
use Rattle.model_streams.specs.declared.event.Event.TheVariants.{Deliver}
use Rattle.stamp_answers.specs.Answers.{answer_to}
use Rattle.stamp_answers.specs.declared.key.AnswerKey.{AnswerKey}
use Rattle.stamp_answers.specs.declared.answer.Answer.{Answer}
use Rattle.stamp_answers.specs.declared.ticket.Ticket.{Ticket}
use Rattle.stamp_answers.specs.declared.ticket.Ticket.TheVariants as tickets
use Rattle.stamp_traces.specs.Passes.{IsPrefixOf, PassLooks, PassPuts}
use Rattle.stamp_traces.specs.declared.takers.Takers.{Takers}
use Rattle.world_actors.specs.Inputs.{one_at, takers_in}
use Rattle.world_actors.specs.Numbers.{place_in}
use Rattle.laws_traces.specs.Traces.{RunEntry, sent_by}
use Rattle.stamp_run.specs.Answers.{answer_at, answer_in, answer_of, brought_by, first_number, number_if, outcome_at}
use Rattle.stamp_run.specs.Passes.{AreAnswers, Sight}
use Rattle.stamp_run.proofs.ListLemmas.{get_snoc, or_assoc, or_none}

-- ---- the first packet that answers a request

pub first_number_append : (k : AnswerKey) (xs ys : List RunEntry) → first_number k (xs ++ ys) ≡ option_or (first_number k xs) (first_number k ys)
first_number_append k [] ys = refl
first_number_append k (x ∷ xs) ys =
    let brought = brought_by k x.event.event x.event.packet in
    ap (λ (o : Option ℕ). option_or brought o) (first_number_append k xs ys) ∙ sym (or_assoc brought (first_number k xs) (first_number k ys))

pub first_number_after : (k : AnswerKey) (xs : List RunEntry) (x : RunEntry) → first_number k (xs ++ x ∷ []) ≡ option_or (first_number k xs) (brought_by k x.event.event x.event.packet)
first_number_after k xs x =
    first_number_append k xs (x ∷ []) ∙ ap (λ (o : Option ℕ). option_or (first_number k xs) o) (or_none (brought_by k x.event.event x.event.packet))

-- an entry that brings no answer leaves them as they are
pub first_number_same : (k : AnswerKey) (xs : List RunEntry) (x : RunEntry) → brought_by k x.event.event x.event.packet ≡ None → first_number k (xs ++ x ∷ []) ≡ first_number k xs
first_number_same k xs x none =
    first_number_after k xs x ∙ (ap (λ (o : Option ℕ). option_or (first_number k xs) o) none ∙ or_none (first_number k xs))

-- a packet for an actor answers no request
unasked : (ns : List ℕ) (n : ℕ) (k : AnswerKey) (number : ℕ) (a : ActorId) (body : Body) → one_at (place_in ns a) ≡ one_at (Some n) → number_if k (answer_to a body) number ≡ None
unasked ns n k number (User u) body is = let end = ap (λ (t : Takers). t.end) is in absurd (omega (arith, end))
unasked ns n k number a body is = refl

-- what an actor takes answers no request
pub taken_brings_none : (ns : List ℕ) (n : ℕ) (k : AnswerKey) (event : Event) (o : Option Packet) → takers_in ns (record { event = event; packet = o }) ≡ one_at (Some n) →
    brought_by k event o ≡ None
taken_brings_none ns n k (Deliver number) None is = refl
taken_brings_none ns n k (Deliver number) (Some p) is = unasked ns n k number p.to p.body is
taken_brings_none ns n k event o is = refl

-- nor does an event that is no delivery
pub told_brings_none : (k : AnswerKey) (event : Event) (o : Option Packet) → ((number : ℕ) → event ≢ Deliver number) → brought_by k event o ≡ None
told_brings_none k (Deliver number) o other = absurd (other number refl)
told_brings_none k event o other = refl

-- ---- what was answered stays

pub sent_append : (xs ys : List RunEntry) → sent_by (xs ++ ys) ≡ sent_by xs ++ sent_by ys
sent_append [] ys = refl
sent_append (x ∷ xs) ys = ap (λ (l : List Packet). x.reply.packets ++ l) (sent_append xs ys) ∙ sym (append_assoc x.reply.packets (sent_by xs) (sent_by ys))

outcome_stays : (xs rest : List RunEntry) (place : ℕ) (a : Answer) → outcome_at (slice_get xs place) ≡ Some a → outcome_at (slice_get (xs ++ rest) place) ≡ Some a
outcome_stays [] rest place a e = absurd (none-some a e)
outcome_stays (x ∷ xs) rest zero a e = e
outcome_stays (x ∷ xs) rest (suc place) a e = outcome_stays xs rest place a e

body_stays : (post more : List Packet) (number : ℕ) (a : Answer) → answer_of (slice_get post number) ≡ Some a → answer_of (slice_get (post ++ more) number) ≡ Some a
body_stays [] more number a e = absurd (none-some a e)
body_stays (p ∷ post) more zero a e = e
body_stays (p ∷ post) more (suc number) a e = body_stays post more number a e

number_stays : (post more : List Packet) (o q : Option ℕ) (a : Answer) → answer_at post o ≡ Some a → answer_at (post ++ more) (option_or o q) ≡ Some a
number_stays post more None q a e = absurd (none-some a e)
number_stays post more (Some number) q a e = body_stays post more number a e

pub answer_stays : (t : Ticket) (xs rest : List RunEntry) (a : Answer) → answer_in t xs ≡ Some a → answer_in t (xs ++ rest) ≡ Some a
answer_stays (tickets.Event place) xs rest a e = outcome_stays xs rest place a e
answer_stays (tickets.Request key) xs rest a e =
    ap (λ (l : List Packet). answer_at l (first_number key (xs ++ rest))) (sent_append xs rest)
    ∙ (ap (λ (o : Option ℕ). answer_at (sent_by xs ++ sent_by rest) o) (first_number_append key xs rest)
    ∙ number_stays (sent_by xs) (sent_by rest) (first_number key xs) (first_number key rest) a e)
answer_stays tickets.Unanswered xs rest a e = absurd (none-some a e)

-- ---- the answers that a pass keeps

pub answers_stay : (xs ys : List RunEntry) (answered : List (Ticket × Answer)) → IsPrefixOf xs ys → AreAnswers xs answered → AreAnswers ys answered
answers_stay xs ys answered begins all = record {
  each = λ k t a at. subst (λ (l : List RunEntry). answer_in t l ≡ Some a) (sym begins.1) (answer_stays t xs begins.0 a (all.each k t a at));
}

pub answers_after_look : (old new : Sight) (answered : List (Ticket × Answer)) → PassLooks old new → AreAnswers old.seen answered → AreAnswers new.seen answered
answers_after_look old new answered looks all = answers_stay old.seen new.seen answered looks.begins all

pub answers_after_put : (old new : Sight) (x : RunEntry) (answered : List (Ticket × Answer)) → PassPuts old x new → AreAnswers old.seen answered → AreAnswers new.seen answered
answers_after_put old new x answered puts all =
    answers_stay old.seen new.seen answered (puts.between ++ x ∷ [], puts.behind ∙ append_assoc old.seen puts.between (x ∷ [])) all

pub answers_none : (xs : List RunEntry) → AreAnswers xs []
answers_none xs = record { each = λ k t a at. absurd (none-some (t, a) at) }

pub answers_too : (xs : List RunEntry) (answered : List (Ticket × Answer)) (t : Ticket) (a : Answer) → AreAnswers xs answered → answer_in t xs ≡ Some a → AreAnswers xs (answered ++ (t, a) ∷ [])
answers_too xs answered t a all one = record {
  each = λ k u b at.
      elim (get_snoc answered (t, a) k (u, b) at) as (λ _. answer_in u xs ≡ Some b) [
        | inl h ↦ all.each k u b h
        | inr h ↦ subst (λ (p : Ticket × Answer). answer_in p.0 xs ≡ Some p.1) (sym h) one
      ];
}
