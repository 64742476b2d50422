-- What a trace keeps of its passes, through each change.
use Rattle.std.proofs.Common.{◌≡◌, ◌≢◌, ◌≤◌, ◌<◌, ℕ, List, [], ◌∷◌, ◌++◌, length, set, Some, None, inl, inr, refl, sym, ◌∙◌, ap, subst, arith, append_assoc, append-nil, length-append, length-set}
use Rattle.std.specs.Prelude.{◌==◌, if◌then◌else◌, slice_get, Option}
use Rattle.std.proofs.lemmas.Bool.Decides.{nat_tests}
use Rattle.std.proofs.lemmas.Option.{none-some}
use Rattle.boxcar.specs.Table.{Shelves, Shows}
use Rattle.stamp_marks.specs.Tokens.{Token, IsOf}
use Rattle.stamp_traces.specs.Shown.{shown_by, IsTokenAt}
use Rattle.stamp_traces.specs.Traces.{Entry}
use Rattle.stamp_traces.specs.Passes.{IsPrefixOf, put_by, events_of_pass, ShowsPass, ArePasses, PassState, PassPuts, PassStands}
use Rattle.stamp_traces.proofs.Legal.{same_shown}
use Rattle.stamp_traces.proofs.Lists.{get_set, get_snoc}

module _ {E R : Type 0} where
  put_by-own : (p : ℕ) (x : Entry E R) → x.pass ≡ p → put_by p x ≡ x.event ∷ []
  put_by-own p x own = grind (arith, nat_tests)

  put_by-other : (n : ℕ) (x : Entry E R) → n ≢ x.pass → put_by n x ≡ []
  put_by-other n x other = grind (arith, nat_tests)

  events_of_pass-snoc : (p : ℕ) (xs : List (Entry E R)) (x : Entry E R) → events_of_pass p (xs ++ x ∷ []) ≡ events_of_pass p xs ++ put_by p x
  events_of_pass-snoc p [] x = append-nil (put_by p x)
  events_of_pass-snoc p (y ∷ ys) x = ap (λ l. put_by p y ++ l) (events_of_pass-snoc p ys x) ∙ sym (append_assoc (put_by p y) (events_of_pass p ys) (put_by p x))

  -- an entry of another pass is none of this one's
  others-snoc : (n : ℕ) (xs : List (Entry E R)) (x : Entry E R) → n ≢ x.pass → events_of_pass n (xs ++ x ∷ []) ≡ events_of_pass n xs
  others-snoc n xs x other = events_of_pass-snoc n xs x ∙ (ap (λ l. events_of_pass n xs ++ l) (put_by-other n x other) ∙ append-nil (events_of_pass n xs))

  prefix-snoc : (part xs : List (Entry E R)) (x : Entry E R) → IsPrefixOf part xs → IsPrefixOf part (xs ++ x ∷ [])
  prefix-snoc part xs x s = (s.0 ++ x ∷ [], ap (λ l. l ++ x ∷ []) s.1 ∙ append_assoc part s.0 (x ∷ []))

  -- one more of a pass, whose new token shows all
  pub passes-append : (prefixes : Shelves) (xs : List (Entry E R)) (passes : List (Option (Token ℕ (List (Entry E R))))) (x : Entry E R) (m : Option (Token ℕ (List (Entry E R)))) →
      ArePasses prefixes xs passes → x.pass < length passes → IsOf m prefixes → shown_by m ≡ xs ++ x ∷ [] → ArePasses prefixes (xs ++ x ∷ []) (set passes x.pass m)
  passes-append prefixes xs passes x m k within of shows = record {
    each = λ n w there.
        elim (get_set passes x.pass m n w there) as (λ _. ShowsPass prefixes (xs ++ x ∷ []) n w) [
          | inl h ↦ rw (h.0, h.1) record {
            of = of;
            begins = ([], sym (append-nil (shown_by m) ∙ shows));
            own = ap (events_of_pass x.pass) (sym shows);
          }
          | inr h ↦ let old = k.each n w h.1 in record {
            of = old.of;
            begins = prefix-snoc (shown_by w) xs x old.begins;
            own = others-snoc n xs x h.0 ∙ old.own;
          }
        ];
    unborn = λ n beyond. let low : length passes ≤ n = rw (length-set passes x.pass m) at beyond in
        others-snoc n xs x (λ same. absurd (omega (arith, within, low, same))) ∙ k.unborn n low;
  }

  -- a pass has seen all
  pub passes-look : (prefixes : Shelves) (xs : List (Entry E R)) (passes : List (Option (Token ℕ (List (Entry E R))))) (p : ℕ) (m : Option (Token ℕ (List (Entry E R)))) →
      ArePasses prefixes xs passes → IsOf m prefixes → shown_by m ≡ xs → ArePasses prefixes xs (set passes p m)
  passes-look prefixes xs passes p m k of shows = record {
    each = λ n w there.
        elim (get_set passes p m n w there) as (λ _. ShowsPass prefixes xs n w) [
          | inl h ↦ rw (h.0, h.1) record { of = of; begins = ([], sym (append-nil (shown_by m) ∙ shows)); own = ap (events_of_pass p) (sym shows) }
          | inr h ↦ k.each n w h.1
        ];
    unborn = λ n beyond. k.unborn n (rw (length-set passes p m) at beyond);
  }

  -- a pass whose token is the one that is kept of it
  pub stands : (prefixes : Shelves) (xs : List (Entry E R)) (passes : List (Option (Token ℕ (List (Entry E R))))) (p : ℕ) (t : Option (Token ℕ (List (Entry E R)))) (i : Option ℕ) →
      ArePasses prefixes xs passes → IsTokenAt passes p t → PassStands xs (record { number = p; seen = shown_by t; index = i })
  stands prefixes xs passes p t i k at =
      let shown = k.each p at.there at.found in
      let same = same_shown t at.there at.same in
      record { begins = rw (← same) at shown.begins; own = rw (← same) at shown.own }

  -- what the pass did
  pub puts : (xs : List (Entry E R)) (v w : PassState E R) (x : Entry E R) → w.number ≡ v.number → x.pass ≡ v.number → PassStands xs v → w.seen ≡ xs ++ x ∷ [] → PassPuts v x w
  puts xs v w x number own stands shows = record {
    number = number;
    between = stands.begins.0;
    behind = shows ∙ ap (λ l. l ++ x ∷ []) stands.begins.1;
    once = ap (events_of_pass v.number) shows ∙ (events_of_pass-snoc v.number xs x ∙ (ap (λ l. events_of_pass v.number xs ++ l) (put_by-own v.number x own) ∙ ap (λ l. l ++ x.event ∷ []) stands.own));
  }

  -- a new pass has seen nothing
  pub passes-admit : (prefixes : Shelves) (xs : List (Entry E R)) (passes : List (Option (Token ℕ (List (Entry E R))))) →
      ArePasses prefixes xs passes → ArePasses prefixes xs (passes ++ None ∷ [])
  passes-admit prefixes xs passes k = record {
    each = λ n w there.
        elim (get_snoc passes None n w there) as (λ _. ShowsPass prefixes xs n w) [
          | inl h ↦ k.each n w h.1
          | inr h ↦ rw (h.0, h.1) record {
            of = tt;
            begins = (xs, refl);
            own = k.unborn (length passes) (omega arith);
          }
        ];
    unborn = λ n beyond. k.unborn n (omega (arith, beyond, length-append passes (None ∷ [])));
  }

  -- nothing has happened, and nobody has seen it
  pub passes-none : (prefixes : Shelves) → ArePasses {E = E} {R = R} prefixes [] []
  passes-none prefixes = record {
    each = λ n w there. absurd (none-some w there);
    unborn = λ n beyond. refl;
  }
