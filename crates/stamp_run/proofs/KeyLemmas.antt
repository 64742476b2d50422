-- The first answer to a request, kept under its key.
use Rattle.std.proofs.Common.{◌≡◌, ◌≢◌, ◌⊎◌, ◌==◌, ◌&&◌, ℕ, Bool, true, false, if◌then◌else◌, Option, Some, None, inl, inr, refl, sym, ap, ◌∙◌, subst}
use Rattle.std.specs.Option.{option_or}
use Rattle.std.proofs.lemmas.Bool.{and_from, and_parts, cases_eq, eq-eqb, eqb-true, false_from_ne_true}
use Rattle.stamp_answers.specs.FirstAnswers.{Numbers, kept_at}
use Rattle.stamp_answers.specs.declared.key.AnswerKey.{AnswerKey}
use Rattle.stamp_run.specs.Answers.{number_if}
use Rattle.stamp_run.proofs.ListLemmas.{or_none}

-- ---- keys that are the same, or differ

abbrev key_of_pair : ℕ × ℕ → AnswerKey
key_of_pair p = record { user = p.0; ticket = p.1 }

same_key : (j k : AnswerKey) → j.user ≡ k.user → j.ticket ≡ k.ticket → j ≡ k
same_key j k user ticket = ap (λ (u : ℕ). key_of_pair (u, j.ticket)) user ∙ ap (λ (t : ℕ). key_of_pair (k.user, t)) ticket

key_cases : (j k : AnswerKey) → (j ≡ k) ⊎ (j ≢ k)
key_cases j k =
    elim (cases_eq j.user k.user) [
      | inl user ↦ elim (cases_eq j.ticket k.ticket) [
        | inl ticket ↦ inl (same_key j k user ticket)
        | inr other ↦ inr (λ same. other (ap (λ (i : AnswerKey). i.ticket) same))
      ]
      | inr other ↦ inr (λ same. other (ap (λ (i : AnswerKey). i.user) same))
    ]

if_not : (number : ℕ) (b : Bool) → b ≡ false → (if b then Some number else None) ≡ None
if_not number true is = absurd cc
if_not number false is = refl

if_so : (number : ℕ) (b : Bool) → b ≡ true → (if b then Some number else None) ≡ Some number
if_so number true is = refl
if_so number false is = absurd cc

number_if_same : (k j : AnswerKey) (number : ℕ) → j ≡ k → number_if k (Some j) number ≡ Some number
number_if_same k j number same =
    if_so number ((j.user == k.user) && (j.ticket == k.ticket))
    (and_from (j.user == k.user) (j.ticket == k.ticket) (eq-eqb j.user k.user (ap (λ (i : AnswerKey). i.user) same)) (eq-eqb j.ticket k.ticket (ap (λ (i : AnswerKey). i.ticket) same)))

number_if_other : (k j : AnswerKey) (number : ℕ) → j ≢ k → number_if k (Some j) number ≡ None
number_if_other k j number differ =
    if_not number ((j.user == k.user) && (j.ticket == k.ticket)) (false_from_ne_true ((j.user == k.user) && (j.ticket == k.ticket))
    (λ is. let both = and_parts (j.user == k.user) (j.ticket == k.ticket) is in differ (same_key j k (eqb-true j.user k.user both.0) (eqb-true j.ticket k.ticket both.1))))

-- ---- a packet that answers

-- a request that has an answer keeps it
pub answered_before : (k : AnswerKey) (o : Option AnswerKey) (number : ℕ) (first : Option ℕ) → (o ≡ Some k → first ≢ None) → option_or first (number_if k o number) ≡ first
answered_before k o number (Some n) has = refl
answered_before k None number None has = refl
answered_before k (Some j) number None has = number_if_other k j number (λ same. has (ap Some same) refl)

module _ (first : AnswerKey → Option ℕ) (key : AnswerKey) (none : first key ≡ None) (old new : Numbers) (was : (k : AnswerKey) → kept_at old k ≡ first k) (elsewhere : (k : AnswerKey) → k ≢ key → kept_at new k ≡ kept_at old k) where
  -- a request that has none is given one
  pub kept_first : (number : ℕ) → kept_at new key ≡ Some number → (k : AnswerKey) → kept_at new k ≡ option_or (first k) (number_if k (Some key) number)
  kept_first number here k =
      elim (key_cases key k) [
        | inl same ↦
            subst (λ (j : AnswerKey). kept_at new j ≡ Some number) same here ∙
            sym (ap (λ (o : Option ℕ). option_or (first k) o) (number_if_same k key number same) ∙ ap (λ (o : Option ℕ). option_or o (Some number)) (subst (λ (j : AnswerKey). first j ≡ None) same none))
        | inr differ ↦
            elsewhere k (λ same. differ (sym same)) ∙
            (was k ∙ sym (ap (λ (o : Option ℕ). option_or (first k) o) (number_if_other k key number differ) ∙ or_none (first k)))
      ]

  -- the number that was kept for it is let go
  pub kept_again : kept_at new key ≡ None → (k : AnswerKey) → kept_at new k ≡ first k
  kept_again here k =
      elim (key_cases key k) [
        | inl same ↦ subst (λ (j : AnswerKey). kept_at new j ≡ first j) same (here ∙ sym none)
        | inr differ ↦ elsewhere k (λ same. differ (sym same)) ∙ was k
      ]
