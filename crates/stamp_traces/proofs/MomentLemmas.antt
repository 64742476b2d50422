-- What a trace keeps of its actors, through an event of several.
use Rattle.std.proofs.Common.{◌≡◌, ◌≢◌, ◌⊎◌, ◌+◌, ◌-◌, ◌<◌, ◌≤◌, ℕ, zero, suc, List, [], ◌∷◌, ◌++◌, length, set, Some, inl, inr, refl, sym, ◌∙◌, ap, subst, arith}
use Rattle.std.specs.Prelude.{slice_get, map, Option}
use Rattle.std.proofs.lemmas.Bool.Decides.{nat_tests}
use Rattle.std.proofs.lemmas.List.{map-set}
use Rattle.std.proofs.lemmas.Option.{same_Some, none-some, slice_get_within}
use Rattle.boxcar.specs.Table.{Shelves, Where}
use Rattle.stamp_marks.specs.declared.mark.Mark.{Mark}
use Rattle.stamp_marks.specs.Histories.{state_after}
use Rattle.stamp_marks.specs.Tokens.{Token, index_of}
use Rattle.stamp_traces.specs.Shown.{shown_by}
use Rattle.stamp_traces.specs.Moments.{MomentState, AreMarksOf, AreMomentSteps, IsMomentStep, AreTokensOf, LeaveEach, moment_by, state_before, with_tokens, with_indexes}
use Rattle.stamp_traces.specs.Traces.{Entry, taken_by, events_of_actor, events_in, LeadsFrom, ShowsActor, IsLegal}
use Rattle.stamp_traces.specs.declared.moment_step.MomentStep.{MomentStep}
use Rattle.stamp_traces.proofs.Legal.{same_shown, state_after-snoc, events_in-snoc, events_of_actor-snoc, others-took, put, put-own, put-other, leads-snoc}
use Rattle.stamp_traces.proofs.Lists.{get_set, get_in, get_snoc, get_append}

side-none : (from n : ℕ) → (n < from) ⊎ (from + 0 ≤ n)
side-none from n = grind arith

module _ {S E : Type 0} where
  -- the steps are of the actors from this number on, in order
  abbrev AreFrom : ℕ → List (MomentStep S E) → Type 0
  AreFrom from steps = (k : ℕ) (s : MomentStep S E) → slice_get steps k ≡ Some s → s.number ≡ from + k

  from-tail : (from : ℕ) (s : MomentStep S E) (ss : List (MomentStep S E)) → AreFrom from (s ∷ ss) → AreFrom (from + 1) ss
  from-tail from s ss are k t at = let e : t.number ≡ from + suc k = are (suc k) t at in omega (arith, e)

  -- the states, with those that the steps left in place of their actors'
  abbrev moved : (ℕ → S) → List (MomentStep S E) → ℕ → S
  moved t [] = t
  moved t (s ∷ ss) = moved (put t s.number s.state.value) ss

  moved-other : (t : ℕ → S) (from n : ℕ) (steps : List (MomentStep S E)) → AreFrom from steps → (n < from) ⊎ (from + length steps ≤ n) → moved t steps n ≡ t n
  moved-other t from n [] are other = refl
  moved-other t from n (s ∷ ss) are other =
      let e : s.number ≡ from + 0 = are 0 s refl in
      moved-other (put t s.number s.state.value) (from + 1) n ss (from-tail from s ss are)
      (elim other as (λ _. (n < from + 1) ⊎ (from + 1 + length ss ≤ n)) [ inl h ↦ inl (omega (arith, h)) | inr h ↦ inr (omega (arith, h)) ])
      ∙ put-other t s.number s.state.value n (λ same. elim other [ inl h ↦ omega (arith, h, e, same) | inr h ↦ omega (arith, h, e, same) ])

  moved-own : (t : ℕ → S) (from : ℕ) (steps : List (MomentStep S E)) (k : ℕ) (s : MomentStep S E) → AreFrom from steps → slice_get steps k ≡ Some s → moved t steps s.number ≡ s.state.value
  moved-own t from [] k s are at = absurd (none-some s at)
  moved-own t from (x ∷ ss) zero s are at =
      let e : x.number ≡ from + 0 = are 0 x refl in
      subst (λ (z : MomentStep S E). moved (put t x.number x.state.value) ss z.number ≡ z.state.value) (same_Some x s at)
      (moved-other (put t x.number x.state.value) (from + 1) x.number ss (from-tail from x ss are) (inl (omega (arith, e))) ∙ put-own t x.number x.state.value)
  moved-own t from (x ∷ ss) (suc k) s are at = moved-own (put t x.number x.state.value) (from + 1) ss k s (from-tail from x ss are) at

  -- a token among those with the steps' in place of their actors' is one of these, or was there
  abbrev IsKept : List (Option (Token E (List (E × S)))) → ℕ → List (MomentStep S E) → ℕ → Option (Token E (List (E × S))) → Type 0
  IsKept tokens from steps n w =
      (((n < from) ⊎ (from + length steps ≤ n)) × (slice_get tokens n ≡ Some w))
      ⊎ ((k : ℕ) × (s : MomentStep S E) × (slice_get steps k ≡ Some s) × (n ≡ s.number) × (w ≡ Some s.after))

  with_tokens-get : (tokens : List (Option (Token E (List (E × S))))) (from : ℕ) (steps : List (MomentStep S E)) (n : ℕ) (w : Option (Token E (List (E × S)))) → AreFrom from steps
      → slice_get (with_tokens tokens steps) n ≡ Some w → IsKept tokens from steps n w
  with_tokens-get tokens from [] n w are at = inl (side-none from n, at)
  with_tokens-get tokens from (s ∷ ss) n w are at =
      let e : s.number ≡ from + 0 = are 0 s refl in
      elim (with_tokens-get (set tokens s.number (Some s.after)) (from + 1) ss n w (from-tail from s ss are) at) as (λ _. IsKept tokens from (s ∷ ss) n w) [
        | inl q ↦
            elim (get_set tokens s.number (Some s.after) n w q.1) as (λ _. IsKept tokens from (s ∷ ss) n w) [
              | inl h ↦ inr (0, s, refl, h.0, h.1)
              | inr h ↦ inl ((elim q.0 as (λ _. (n < from) ⊎ (from + length (s ∷ ss) ≤ n)) [ inl lt ↦ inl (omega (arith, lt, e, h.0)) | inr le ↦ inr (omega (arith, le)) ]), h.1)
            ]
        | inr q ↦ inr (suc q.0, q.1, q.2, q.3, q.4)
      ]

  pub with_tokens-indexes : (tokens : List (Option (Token E (List (E × S))))) (steps : List (MomentStep S E)) → map index_of (with_tokens tokens steps) ≡ with_indexes (map index_of tokens) steps
  with_tokens-indexes tokens [] = refl
  with_tokens-indexes tokens (s ∷ ss) =
      with_tokens-indexes (set tokens s.number (Some s.after)) ss ∙ ap (λ l. with_indexes l ss) (map-set index_of tokens s.number (Some s.after))

module _ {E R S : Type 0} (goes : S → E → S → R → Type 0) (quiet : R) (first : ℕ → S) (events : Shelves) (p : ℕ) (xs : List (Entry E R)) (tokens : List (Option (Token E (List (E × S))))) (m : MomentState S E)
    (k : IsLegal first goes events xs tokens)
    (steps : AreMomentSteps first goes quiet events m.event m.takers.first m.steps) (found : AreTokensOf tokens m.steps) where
  from : AreFrom m.takers.first m.steps
  from j s at = (steps.each j s at).0

  -- where the trace leaves the actor of a step
  was : (j : ℕ) (s : MomentStep S E) → slice_get m.steps j ≡ Some s → state_before first s ≡ k.states s.number
  was j s at = let f = found.each j s at in ap (state_after (first s.number)) (same_shown s.before f.there f.same) ∙ (k.actors s.number f.there f.found).leaves

  pub found-moment : LeaveEach goes first xs m.steps (state_before first)
  found-moment = record { each = λ j s at. (k.states, k.leads, sym (was j s at)) }

  module _ (whole : m.takers.first + length m.steps ≡ m.takers.end) where
    outside : (n : ℕ) → (n < m.takers.first) ⊎ (m.takers.end ≤ n) → moved k.states m.steps n ≡ k.states n
    outside n other =
        moved-other k.states m.takers.first n m.steps from
        (elim other as (λ _. (n < m.takers.first) ⊎ (m.takers.first + length m.steps ≤ n)) [ inl h ↦ inl h | inr h ↦ inr (omega (arith, h, whole)) ])

    leads-moment : LeadsFrom goes first (xs ++ moment_by p m quiet ∷ []) (moved k.states m.steps)
    leads-moment =
        leads-snoc goes first k.states (moved k.states m.steps) xs (moment_by p m quiet) k.leads record {
          takers = λ n low high.
              let s = get_in m.steps (n - m.takers.first) (omega (arith, low, high, whole)) in
              let is : s.0.number ≡ n = omega (arith, from (n - m.takers.first) s.0 s.1, low) in
              let legal = (steps.each (n - m.takers.first) s.0 s.1).1.legal in
              subst (λ i. goes (k.states i) m.event (moved k.states m.steps i) quiet) is
              (subst (λ (y : S). goes (k.states s.0.number) m.event y quiet) (sym (moved-own k.states m.takers.first m.steps (n - m.takers.first) s.0 from s.1))
              (subst (λ (y : S). goes y m.event s.0.state.value quiet) (was (n - m.takers.first) s.0 s.1) legal));
          others = outside;
        }

    -- where the trace leaves the actors now
    pub leaves-moment : LeaveEach goes first (xs ++ moment_by p m quiet ∷ []) m.steps (λ s. s.state.value)
    leaves-moment = record { each = λ j s at. (moved k.states m.steps, leads-moment, moved-own k.states m.takers.first m.steps j s from at) }

    took-own : (n : ℕ) → m.takers.first ≤ n → n < m.takers.end → taken_by n (moment_by p m quiet) ≡ m.event ∷ []
    took-own n low high = grind (arith, nat_tests)

    took-none : (n : ℕ) → (n < m.takers.first) ⊎ (m.takers.first + length m.steps ≤ n) → taken_by n (moment_by p m quiet) ≡ []
    took-none n other = grind (arith, nat_tests)

    shows-own : (j : ℕ) (s : MomentStep S E) → slice_get m.steps j ≡ Some s → ShowsActor first events (xs ++ moment_by p m quiet ∷ []) s.number (moved k.states m.steps s.number) (Some s.after)
    shows-own j s at =
        let f = found.each j s at in
        let same = same_shown s.before f.there f.same in
        let old = k.actors s.number f.there f.found in
        let step = (steps.each j s at).1 in
        let number = from j s at in
        let taken = took-own s.number (omega (arith, number)) (omega (arith, number, whole, slice_get_within m.steps j s at)) in
        record {
          of = step.shows;
          took = ap events_in step.is ∙ (events_in-snoc (shown_by s.before) m.event s.state.value ∙ (ap (λ l. events_in l ++ m.event ∷ []) same ∙ (ap (λ l. l ++ m.event ∷ []) old.took ∙ (ap (λ l. events_of_actor s.number xs ++ l) (sym taken) ∙ sym (events_of_actor-snoc s.number xs (moment_by p m quiet))))));
          leaves = ap (state_after (first s.number)) step.is ∙ (state_after-snoc (first s.number) (shown_by s.before) m.event s.state.value ∙ sym (moved-own k.states m.takers.first m.steps j s from at));
        }

    -- the moment goes to the end, and its tokens in place of its actors'
    pub legal-moment : IsLegal first goes events (xs ++ moment_by p m quiet ∷ []) (with_tokens tokens m.steps)
    legal-moment = record {
      states = moved k.states m.steps;
      leads = leads-moment;
      actors = λ n w there.
          elim (with_tokens-get tokens m.takers.first m.steps n w from there) as (λ _. ShowsActor first events (xs ++ moment_by p m quiet ∷ []) n (moved k.states m.steps n) w) [
            | inl h ↦ let old = k.actors n w h.1 in record {
              of = old.of;
              took = old.took ∙ others-took n xs (moment_by p m quiet) (took-none n h.0);
              leaves = old.leaves ∙ sym (moved-other k.states m.takers.first n m.steps from h.0);
            }
            | inr h ↦ rw (h.3, h.4) (shows-own h.0 h.1 h.2)
          ];
    }

-- a mark fewer
pub marks-popped : {E V : Type 0} (events : Shelves) (event : E) (all rest popped : List (Where (Mark E V))) → all ≡ rest ++ popped → AreMarksOf events event all → AreMarksOf events event rest
marks-popped events event all rest popped is are = record { each = λ k p at. are.each k p (rw is (get_append rest popped k p at)) }

-- a step more
pub steps-added : {S E R : Type 0} (first : ℕ → S) (goes : S → E → S → R → Type 0) (quiet : R) (events : Shelves) (event : E) (from : ℕ) (steps : List (MomentStep S E)) (s : MomentStep S E)
    → AreMomentSteps first goes quiet events event from steps → s.number ≡ from + length steps → IsMomentStep first goes quiet events event s → AreMomentSteps first goes quiet events event from (steps ++ s ∷ [])
steps-added first goes quiet events event from steps s are number step = record {
  each = λ k t at.
      elim (get_snoc steps s k t at) as (λ _. (t.number ≡ from + k) × IsMomentStep first goes quiet events event t) [
        | inl h ↦ are.each k t h.1
        | inr h ↦ rw (h.1, h.0) (number, step)
      ];
}
