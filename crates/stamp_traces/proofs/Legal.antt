-- What a trace keeps of its actors, through each change.
use Rattle.std.proofs.Common.{◌≡◌, ◌≢◌, ◌⊎◌, ◌+◌, ◌<◌, ◌≤◌, ℕ, List, [], ◌∷◌, ◌++◌, set, Some, None, inl, inr, refl, sym, ◌∙◌, ap, subst, arith, append_assoc, append-nil}
use Rattle.std.specs.Prelude.{◌==◌, ◌&&◌, nat_le, nat_lt, if◌then◌else◌, slice_get, Option}
use Rattle.std.proofs.lemmas.Bool.Decides.{nat_tests}
use Rattle.std.proofs.lemmas.Option.{none-some}
use Rattle.boxcar.specs.Table.{Shelves, Shows, Where}
use Rattle.stamp_marks.specs.Tokens.{Token, value_of}
use Rattle.stamp_marks.specs.Histories.{state_after}
use Rattle.stamp_marks.specs.declared.mark.Mark.{Mark}
use Rattle.stamp_traces.specs.Shown.{shown_by}
use Rattle.stamp_traces.specs.Cells.{CellStep}
use Rattle.stamp_traces.specs.Traces.{Entry, taken_by, events_of_actor, entry_by, entry_of, note_by, events_in, IsStep, LeadsFrom, LeavesAt, ShowsActor, IsLegal, AreBookings}
use Rattle.stamp_traces.proofs.Lists.{get_set}

-- two tokens of one value show one list
pub same_shown : {D X : Type 0} (a b : Option (Token D (List X))) → value_of a ≡ value_of b → shown_by a ≡ shown_by b
same_shown None None e = refl
same_shown None (Some b) e = absurd cc
same_shown (Some a) None e = absurd cc
same_shown (Some a) (Some b) e = cc

module _ {E S : Type 0} where
  pub state_after-snoc : (s : S) (xs : List (E × S)) (e : E) (t : S) → state_after s (xs ++ (e, t) ∷ []) ≡ t
  state_after-snoc s [] e t = refl
  state_after-snoc s (x ∷ xs) e t = state_after-snoc x.1 xs e t

  pub events_in-snoc : (xs : List (E × S)) (e : E) (t : S) → events_in (xs ++ (e, t) ∷ []) ≡ events_in xs ++ e ∷ []
  events_in-snoc [] e t = refl
  events_in-snoc (x ∷ xs) e t = ap (λ l. x.0 ∷ l) (events_in-snoc xs e t)

module _ {S : Type 0} where
  -- the states, with one in another's place
  abbrev pub put : (ℕ → S) → ℕ → S → ℕ → S
  put t a x n = if n == a then x else t n

  pub put-own : (t : ℕ → S) (a : ℕ) (x : S) → put t a x a ≡ x
  put-own t a x = grind (arith, nat_tests, put)

  pub put-other : (t : ℕ → S) (a : ℕ) (x : S) (n : ℕ) → n ≢ a → put t a x n ≡ t n
  put-other t a x n other = grind (arith, nat_tests, put)

module _ {E R : Type 0} where
  pub events_of_actor-snoc : (n : ℕ) (xs : List (Entry E R)) (x : Entry E R) → events_of_actor n (xs ++ x ∷ []) ≡ events_of_actor n xs ++ taken_by n x
  events_of_actor-snoc n [] x = append-nil (taken_by n x)
  events_of_actor-snoc n (y ∷ ys) x = ap (λ l. taken_by n y ++ l) (events_of_actor-snoc n ys x) ∙ sym (append_assoc (taken_by n y) (events_of_actor n ys) (taken_by n x))

  taken_by-own : (p n : ℕ) (e : E) (r : R) → taken_by n (entry_by p n e r) ≡ e ∷ []
  taken_by-own p n e r = grind (arith, nat_tests)

  taken_by-other : (p n a : ℕ) (e : E) (r : R) → n ≢ a → taken_by n (entry_by p a e r) ≡ []
  taken_by-other p n a e r other = grind (arith, nat_tests)

  taken_by-note : (p n : ℕ) (e : E) (r : R) → taken_by n (note_by p e r) ≡ []
  taken_by-note p n e r = grind (arith, nat_tests)

  -- an entry that the actor does not take is none of its own
  pub others-took : (n : ℕ) (xs : List (Entry E R)) (x : Entry E R) → taken_by n x ≡ [] → events_of_actor n xs ≡ events_of_actor n (xs ++ x ∷ [])
  others-took n xs x none = sym (append-nil (events_of_actor n xs)) ∙ (ap (λ l. events_of_actor n xs ++ l) (sym none) ∙ sym (events_of_actor-snoc n xs x))

  module _ {S : Type 0} (goes : S → E → S → R → Type 0) where
    pub leads-snoc : (s t u : ℕ → S) (xs : List (Entry E R)) (x : Entry E R) → LeadsFrom goes s xs t → IsStep goes t x u → LeadsFrom goes s (xs ++ x ∷ []) u
    leads-snoc s t u [] x same step = (
      u,
      record {
        takers = λ n low high. subst (λ (y : S). goes y x.event (u n) x.reply) (sym (same n)) (step.takers n low high);
        others = λ n other. step.others n other ∙ sym (same n);
      },
      λ n. refl,
    )
    leads-snoc s t u (y ∷ ys) x leads step = (leads.0, leads.1, leads-snoc leads.0 t u ys x leads.2 step)

    not-within : (a n : ℕ) → (n < a) ⊎ (a + 1 ≤ n) → n ≢ a
    not-within a n other same = elim other [ inl h ↦ omega (arith, h, same) | inr h ↦ omega (arith, h, same) ]

    -- one actor goes, and all others stay
    step-put : (t : ℕ → S) (p a : ℕ) (e : E) (r : R) (x : S) → goes (t a) e x r → IsStep goes t (entry_by p a e r) (put t a x)
    step-put t p a e r x g = record {
      takers = λ n low high.
          let same : a ≡ n = omega (arith, low, high) in
          subst (λ m. goes (t m) e (put t a x m) r) same (subst (λ (y : S). goes (t a) e y r) (sym (put-own t a x)) g);
      others = λ n other. put-other t a x n (not-within a n other);
    }

    module _ (first : ℕ → S) (events : Shelves) where
      -- where the trace leaves the actor of a token
      pub leaves-shown : (xs : List (Entry E R)) (tokens : List (Option (Token E (List (E × S))))) (n : ℕ) (l : List (E × S)) (m : Option (Token E (List (E × S))))
          → IsLegal first goes events xs tokens → slice_get tokens n ≡ Some m → l ≡ shown_by m → LeavesAt goes first xs n (state_after (first n) l)
      leaves-shown xs tokens n l m k at same = (k.states, k.leads, sym (ap (state_after (first n)) same ∙ (k.actors n m at).leaves))

      module _ (p : ℕ) (xs : List (Entry E R)) (tokens : List (Option (Token E (List (E × S))))) (s : CellStep S E R) (m : Option (Token E (List (E × S)))) (after : Token E (List (E × S)))
          (k : IsLegal first goes events xs tokens)
          (at : slice_get tokens s.number ≡ Some m) (same : s.before ≡ shown_by m) (was : s.was ≡ state_after (first s.number) s.before)
          (shows : Shows events after.mark) (is : after.value ≡ s.before ++ (s.event, s.state) ∷ [])
          (goes' : goes s.was s.event s.state s.reply) where
        leads-append : LeadsFrom goes first (xs ++ entry_of p s ∷ []) (put k.states s.number s.state)
        leads-append =
            let found : s.was ≡ k.states s.number = was ∙ (ap (state_after (first s.number)) same ∙ (k.actors s.number m at).leaves) in
            leads-snoc first k.states (put k.states s.number s.state) xs (entry_of p s) k.leads
            (step-put k.states p s.number s.event s.reply s.state (subst (λ (y : S). goes y s.event s.state s.reply) found goes'))

        -- where the trace leaves the actor now
        pub leaves-append : LeavesAt goes first (xs ++ entry_of p s ∷ []) s.number s.state
        leaves-append = (put k.states s.number s.state, leads-append, put-own k.states s.number s.state)

        -- a step goes to the end, and its token in place of its actor's
        pub legal-append : IsLegal first goes events (xs ++ entry_of p s ∷ []) (set tokens s.number (Some after))
        legal-append =
            let old = k.actors s.number m at in
            record {
              states = put k.states s.number s.state;
              leads = leads-append;
              actors = λ n w there.
                  elim (get_set tokens s.number (Some after) n w there) as (λ _. ShowsActor first events (xs ++ entry_of p s ∷ []) n (put k.states s.number s.state n) w) [
                    | inl h ↦ rw (h.0, h.1) record {
                      of = shows;
                      took = ap events_in is ∙ (events_in-snoc s.before s.event s.state ∙ (ap (λ l. events_in l ++ s.event ∷ []) same ∙ (ap (λ l. l ++ s.event ∷ []) old.took ∙ (ap (λ l. events_of_actor s.number xs ++ l) (sym (taken_by-own p s.number s.event s.reply)) ∙ sym (events_of_actor-snoc s.number xs (entry_of p s))))));
                      leaves = ap (state_after (first s.number)) is ∙ (state_after-snoc (first s.number) s.before s.event s.state ∙ sym (put-own k.states s.number s.state));
                    }
                    | inr h ↦ let was' = k.actors n w h.1 in record {
                      of = was'.of;
                      took = was'.took ∙ others-took n xs (entry_of p s) (taken_by-other p n s.number s.event s.reply h.0);
                      leaves = was'.leaves ∙ sym (put-other k.states s.number s.state n h.0);
                    }
                  ];
            }

      -- an event that nobody takes
      pub legal-note : (p : ℕ) (e : E) (r : R) (xs : List (Entry E R)) (tokens : List (Option (Token E (List (E × S))))) → IsLegal first goes events xs tokens → IsLegal first goes events (xs ++ note_by p e r ∷ []) tokens
      legal-note p e r xs tokens k = record {
        states = k.states;
        leads = leads-snoc first k.states k.states xs (note_by p e r) k.leads (record { takers = λ n low high. absurd (omega (arith, high)); others = λ n other. refl });
        actors = λ n w there. let old = k.actors n w there in record {
          of = old.of;
          took = old.took ∙ others-took n xs (note_by p e r) (taken_by-note p n e r);
          leaves = old.leaves;
        };
      }

      -- nothing has happened
      pub legal-none : (tokens : List (Option (Token E (List (E × S))))) → ((n : ℕ) (m : Option (Token E (List (E × S)))) → slice_get tokens n ≡ Some m → m ≡ None) → IsLegal first goes events [] tokens
      legal-none tokens none = record {
        states = first;
        leads = λ n. refl;
        actors = λ n m at. rw (none n m at) record { of = tt; took = refl; leaves = refl };
      }

-- a booking fewer
pub bookings-emptied : {E V : Type 0} (events : Shelves) (bookings : List (Option (Where (Mark E V)))) (n : ℕ) → AreBookings events bookings → AreBookings events (set bookings n None)
bookings-emptied events bookings n are = record {
  each = λ k p at. elim (get_set bookings n None k (Some p) at) as (λ _. Shows events p) [ inl h ↦ absurd (none-some p (sym h.1)) | inr h ↦ are.each k p h.1 ];
}
