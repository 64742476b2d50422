-- One record more, when a node is made from its records.
use Rattle.std.proofs.Common.{◌≡◌, ◌≢◌, ℕ, true, List, [], ◌∷◌, ◌++◌, Option, Some, None, Result, Ok, Err, ap, sym, subst, arith, ◌≤◌, length, ◌∙◌, refl, ⊎_elim}
use Rattle.std.proofs.lemmas.Bool.Decides.{eqb_tells}
use Rattle.disk.specs.declared.fault.FileFault.{FileFault}
use Rattle.disk.specs.declared.fault.FileFault.TheVariants.{Damaged}
use Rattle.block_types.specs.declared.record.Record.{Record}
use Rattle.replica.specs.Content.{Content}
use Rattle.replica.specs.Replay.{applied, fits, fits_at, fit, replay, extent_of}
use Rattle.replica.proofs.Replaying.{replay-here, replay-elsewhere, fit-push, fit-at}
use Rattle.model_streams.specs.Node.{Replica, contents, fresh}
use Rattle.model_streams.specs.Bounds.{FewWait}
use Rattle.enode.specs.Node.{find, fresh_of, IsReplay, IsRestart}
use Rattle.enode.specs.Recovery.{fits_among, Recovers}
use Rattle.enode_replica.specs.Recovery.{Recovers as RecoversOne}

contents-fresh : (c : Option Content) → contents (fresh_of c) ≡ c
contents-fresh None = refl
contents-fresh (Some c) = refl

-- what the records so far make is what the replicas are
module _ (n : ℕ) (old : List (ℕ × Replica)) (rs : List Record) (before : IsRestart n old rs) where
  is_made : (e : ℕ) → contents (find old e) ≡ replay e rs
  is_made e = ap contents (before.each e) ∙ contents-fresh (replay e rs)

  fits_same : (r : Record) (o : Option ℕ) → fits_among n old r o ≡ fits_at n rs r o
  fits_same r None = refl
  fits_same r (Some e) = ap (λ (c : Option Content). fits n c r) (is_made e)

  recovered_at : (new : List (ℕ × Replica)) (r : Record) (o : Option ℕ) → extent_of r ≡ o → Recovers n old new r (Ok tt) → IsRestart n new (rs ++ r ∷ [])
  recovered_at new r None about h = absurd (let no = ap (fits_among n old r) (sym about) ∙ h.fits in cc)
  recovered_at new r (Some f) about h = record {
    each = λ e. ⊎_elim
        (λ same.
        let here : extent_of r ≡ Some e = about ∙ ap (λ (k : ℕ). Some k) same.1 in
        let was : find old e ≡ fresh_of (contents (find old e)) = before.each e ∙ ap fresh_of (sym (is_made e)) in
        h.fresh e was ∙ ap fresh_of (h.here e here ∙ ap (λ (c : Option Content). applied c r) (is_made e) ∙ sym (replay-here e rs r here)))
        (λ apart.
        h.elsewhere e (λ is. let k = sym about ∙ is in apart.1 (same_number f e k)) ∙ before.each e
        ∙ ap fresh_of (sym (replay-elsewhere e f rs r about (λ is. apart.1 (sym is)))))
        (eqb_tells f e);
    fits = fit-push n f rs r before.fits about (sym (fits_same r (Some f)) ∙ ap (fits_among n old r) (sym about) ∙ h.fits);
  }
    where
      same_number : (a b : ℕ) → (Some a ≡ Some b) → a ≡ b
      same_number a b e = cc

  pub recovered : (new : List (ℕ × Replica)) (r : Record) → Recovers n old new r (Ok tt) → IsRestart n new (rs ++ r ∷ [])
  recovered new r h = recovered_at new r (extent_of r) refl h

  -- a record that fits is not refused as damaged
  pub not_damaged : (new : List (ℕ × Replica)) (r : Record) (others whole : List Record) (x : FileFault) → whole ≡ rs ++ r ∷ others → fit n whole ≡ true → Recovers n old new r (Err x) → x ≡ Damaged → ⊥
  not_damaged new r others whole x is fit_whole h damaged =
      let fits_here = fit-at n [] rs others r (ap (fit n) (sym is) ∙ fit_whole) in
      let no = sym (h.fault damaged) ∙ fits_same r (extent_of r) ∙ fits_here in
      absurd cc

pub restart_nothing : (n : ℕ) (entries : List (ℕ × Replica)) → entries ≡ [] → IsRestart n entries []
restart_nothing n entries is = record { each = λ e. ap (λ (xs : List (ℕ × Replica)). find xs e) is; fits = refl }

-- nothing waits at a replica that has just been made
none_wait : (x : Option Content) → FewWait (fresh_of x)
none_wait None = λ r e. absurd cc
none_wait (Some content) = λ r e. let same : fresh content ≡ r = cc in subst (λ (t : Replica). length t.waiting ≤ 256) same (omega arith)

pub restart_replays : (n : ℕ) (is : List (ℕ × Replica)) (rs : List Record) → IsRestart n is rs → IsReplay n is rs
restart_replays n is rs h = record {
  each = λ e. ap contents (h.each e) ∙ contents-fresh (replay e rs);
  fits = h.fits;
  few = λ e. subst FewWait (sym (h.each e)) (none_wait (replay e rs));
}

-- a record that one replica takes back is taken back by its node
pub recovers_kept : (n : ℕ) (old new : List (ℕ × Replica)) (r : Record) (e : ℕ) (was is : Replica) (result : Result Unit FileFault) →
    extent_of r ≡ Some e → find old e ≡ Some was → find new e ≡ Some is → ((f : ℕ) → f ≢ e → find new f ≡ find old f) → RecoversOne was is r result → Recovers n old new r result
recovers_kept n old new r e was is (Ok u) about had has others h = record {
  fits = ap (fits_among n old r) about ∙ ap (λ (s : Option Replica). fits n (contents s) r) had ∙ h.fitting n;
  here = λ f at. subst (λ (k : ℕ). contents (find new k) ≡ applied (contents (find old k)) r) (same_number e f (sym about ∙ at))
      (ap contents has ∙ h.here ∙ ap (λ (s : Option Replica). applied (contents s) r) (sym had));
  elsewhere = λ f apart. others f (λ same. apart (about ∙ ap (λ (k : ℕ). Some k) (sym same)));
  fresh = λ f clean. ⊎_elim
      (λ same.
      let at : f ≡ e = same.1 in
      let before : was ≡ fresh was.content = same_replica was (fresh was.content) (sym had ∙ subst (λ (k : ℕ). find old k ≡ fresh_of (contents (find old k))) at clean ∙ ap (λ (s : Option Replica). fresh_of (contents s)) had) in
      subst (λ (k : ℕ). find new k ≡ fresh_of (contents (find new k))) (sym at)
      (has ∙ ap (λ (x : Replica). Some x) (h.clean before) ∙ ap (λ (s : Option Replica). fresh_of (contents s)) (sym has)))
      (λ apart. others f apart.1 ∙ clean ∙ ap (λ (s : Option Replica). fresh_of (contents s)) (sym (others f apart.1)))
      (eqb_tells f e);
  fault = tt;
  cause = tt;
}
  where
    same_number : (a b : ℕ) → (Some a ≡ Some b) → a ≡ b
    same_number a b h = cc

    same_replica : (a b : Replica) → (Some a ≡ Some b) → a ≡ b
    same_replica a b h = cc
recovers_kept n old new r e was is (Err x) about had has others h = record {
  fits = tt;
  here = tt;
  elsewhere = tt;
  fresh = tt;
  fault = λ damaged. ap (fits_among n old r) about ∙ ap (λ (s : Option Replica). fits n (contents s) r) had ∙ h.unfit damaged n;
  cause = h.cause;
}
