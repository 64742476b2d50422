-- A run of which what is known is kept of each stream system on the way.
use Rattle.std.proofs.Common.{◌≡◌, ℕ, zero, suc, ◌≤◌, true, false, nat_le, List, [], ◌∷◌, ◌++◌, length, take, refl, sym, ap, ◌∙◌, arith, subst, append_assoc, append-nil, length-append}
use Rattle.std.proofs.lemmas.Bool.{leb-true, leb-false}
use Rattle.model_streams.specs.StreamSystem.{StreamSystem, start, Move}
use Rattle.laws_streams.proofs.Lists.{take_past}
use Rattle.laws_streams.proofs.MoreKnown.{Later, later_refl, later_trans}
use Rattle.laws_streams.proofs.EventSteps.{good_next}
use Rattle.laws_streams.proofs.Invariant.{After, AfterMore, after_all, from_here, first_good}

take_fewer : {A : Type 0} (k : ℕ) (xs ys : List A) → k ≤ length xs → take k (xs ++ ys) ≡ take k xs
take_fewer zero xs ys l = refl
take_fewer (suc k) [] ys l = absurd (omega (arith, l))
take_fewer (suc k) (x ∷ xs) ys l = ap (λ zs. x ∷ zs) (take_fewer k xs ys (omega (arith, l)))

take_all : {A : Type 0} (k : ℕ) (xs : List A) → length xs ≤ k → take k xs ≡ xs
take_all zero [] l = refl
take_all zero (x ∷ xs) l = absurd (omega (arith, l))
take_all (suc k) [] l = refl
take_all (suc k) (x ∷ xs) l = ap (λ zs. x ∷ zs) (take_all k xs (omega (arith, l)))

module _ (w : StreamSystem) (moves : List Move) where
  -- what is known after these of the moves, and what was known after fewer, which still holds
  pub record Traced (past : List Move) : Type 0 where
    pub now : After w moves past
    pub earlier : (k : ℕ) → k ≤ length past → (before : After w moves (take k past)) × Later before.ground now.ground

  trace_push : (past rest : List Move) (move : Move) → moves ≡ past ++ move ∷ rest → Traced past → Traced (past ++ move ∷ [])
  trace_push past rest move whole t =
      let all = past ++ move ∷ [] in
      let next : AfterMore w moves t.now.ground all = after_all w moves past (move ∷ []) rest whole t.now.ground (from_here w moves past t.now) in
      let count : length all ≡ suc (length past) = omega (arith, length-append past (move ∷ [])) in
      record {
        now = good_next next;
        earlier = λ k l. elim (nat_le k (length past)) as (λ b. nat_le k (length past) ≡ b → (before : After w moves (take k all)) × Later before.ground next.ground) [
          | true ↦ λ t_is.
              let (before, later) = t.earlier k (leb-true k (length past) t_is) in
              subst (λ xs. (b : After w moves xs) × Later b.ground next.ground) (sym (take_fewer k past (move ∷ []) (leb-true k (length past) t_is)))
              (before, later_trans before.ground t.now.ground next.ground later next.later)
          | false ↦ λ f_is.
              let above_is = leb-false k (length past) f_is in
              subst (λ xs. (b : After w moves xs) × Later b.ground next.ground) (sym (take_all k all (omega (arith, above_is, count)))) (good_next next, later_refl next.ground)
        ] refl;
      }

  trace_all : (past more : List Move) → moves ≡ past ++ more → Traced past → Traced (past ++ more)
  trace_all past [] whole t = rw (append-nil past) t
  trace_all past (move ∷ more) whole t =
      subst Traced (append_assoc past (move ∷ []) more)
      (trace_all (past ++ move ∷ []) more (whole ∙ sym (append_assoc past (move ∷ []) more)) (trace_push past more move whole t))

  pub traced : (nodes target : ℕ) → w ≡ start nodes target → Traced moves
  traced nodes target is =
      let first = first_good w moves nodes target is in
      trace_all [] moves refl (record { now = first; earlier = λ k l. subst (λ xs. (b : After w moves xs) × Later b.ground first.ground) (sym (take_all k [] (omega arith))) (first, later_refl first.ground) })

  -- what was known at a moment of the run
  pub known_then : (t : Traced moves) (past rest : List Move) → moves ≡ past ++ rest → (before : After w moves past) × Later before.ground t.now.ground
  known_then t past rest split =
      let fits : length past ≤ length moves = omega (arith, ap (λ (xs : List Move). length xs) split, length-append past rest) in
      subst (λ xs. (b : After w moves xs) × Later b.ground t.now.ground) (ap (λ xs. take (length past) xs) split ∙ take_past past rest)
      (t.earlier (length past) fits)
