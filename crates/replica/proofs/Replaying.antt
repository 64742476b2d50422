-- One record more.
use Rattle.std.proofs.Common.{◌≡◌, ◌≢◌, ℕ, Bool, true, false, ◌==◌, List, [], ◌∷◌, ◌++◌, Option, Some, None, refl, ap, sym, ◌∙◌, cond, eq-eqb, eqb-true, append_assoc, append-nil}
use Rattle.std.proofs.lemmas.Bool.{and_from, and_parts}
use Rattle.block_types.specs.declared.record.Record.{Record}
use Rattle.replica.specs.Content.{Content}
use Rattle.replica.specs.Replay.{extent_of, is_number, applied, applied_at, replay_from, replay, fits_at, fit_after, fit}

replay_from-push : (e : ℕ) (content : Option Content) (rs : List Record) (r : Record) → replay_from e content (rs ++ r ∷ []) ≡ applied_at e (replay_from e content rs) r
replay_from-push e content [] r = refl
replay_from-push e content (x ∷ rs) r = replay_from-push e (applied_at e content x) rs r

pub replay-push : (e : ℕ) (rs : List Record) (r : Record) → replay e (rs ++ r ∷ []) ≡ applied_at e (replay e rs) r
replay-push e rs r = replay_from-push e None rs r

same : (e : ℕ) → (e == e) ≡ true
same e = eq-eqb e e refl

apart : (e f : ℕ) → e ≢ f → (f == e) ≡ false
apart e f ne = elim (f == e) as (λ b. (f == e) ≡ b → b ≡ false) [ true ↦ λ t. absurd (ne (sym (eqb-true f e t))) | false ↦ λ t. refl ] refl

-- a record of extent e changes e
pub replay-here : (e : ℕ) (rs : List Record) (r : Record) → extent_of r ≡ Some e → replay e (rs ++ r ∷ []) ≡ applied (replay e rs) r
replay-here e rs r about = replay-push e rs r ∙ ap (λ (o : Option ℕ). cond (is_number e o) (applied (replay e rs) r) (replay e rs)) about ∙ ap (λ (b : Bool). cond b (applied (replay e rs) r) (replay e rs)) (same e)

-- and no other
pub replay-elsewhere : (e f : ℕ) (rs : List Record) (r : Record) → extent_of r ≡ Some f → e ≢ f → replay e (rs ++ r ∷ []) ≡ replay e rs
replay-elsewhere e f rs r about ne = replay-push e rs r ∙ ap (λ (o : Option ℕ). cond (is_number e o) (applied (replay e rs) r) (replay e rs)) about ∙ ap (λ (b : Bool). cond b (applied (replay e rs) r) (replay e rs)) (apart e f ne)

fit_after-push : (n : ℕ) (before rs : List Record) (r : Record) → fit_after n before rs ≡ true → fits_at n (before ++ rs) r (extent_of r) ≡ true → fit_after n before (rs ++ r ∷ []) ≡ true
fit_after-push n before [] r a b = and_from _ _ (ap (λ (xs : List Record). fits_at n xs r (extent_of r)) (sym (append-nil before)) ∙ b) refl
fit_after-push n before (x ∷ rs) r a b =
    let parts = and_parts _ _ a in
    and_from _ _ parts.0 (fit_after-push n (before ++ x ∷ []) rs r parts.1 (ap (λ (xs : List Record). fits_at n xs r (extent_of r)) (append_assoc before (x ∷ []) rs) ∙ b))

-- a list of records that fit, with one more that fits
pub fit-push : (n e : ℕ) (rs : List Record) (r : Record) → fit n rs ≡ true → extent_of r ≡ Some e → fits_at n rs r (Some e) ≡ true → fit n (rs ++ r ∷ []) ≡ true
fit-push n e rs r a about b = fit_after-push n [] rs r a (ap (λ (o : Option ℕ). fits_at n rs r o) about ∙ b)

-- in a list of records that fit, each fits those before it
pub fit-at : (n : ℕ) (before xs ys : List Record) (r : Record) → fit_after n before (xs ++ r ∷ ys) ≡ true → fits_at n (before ++ xs) r (extent_of r) ≡ true
fit-at n before [] ys r a = ap (λ (xs : List Record). fits_at n xs r (extent_of r)) (append-nil before) ∙ (and_parts _ _ a).0
fit-at n before (x ∷ xs) ys r a = ap (λ (zs : List Record). fits_at n zs r (extent_of r)) (sym (append_assoc before (x ∷ []) xs)) ∙ fit-at n (before ++ x ∷ []) xs ys r (and_parts _ _ a).1
