-- What follows of an outcome from what is known of it.
use Rattle.std.proofs.Common.{◌≡◌, ℕ, List, Result, Ok, Err, MatchResult, IfOk, IfErr, sym, subst}
use Rattle.disk.specs.Disk.{DiskState, LeavesOnly}
use Rattle.disk.specs.Filed.{Filed}

pub ok_more : {A B : Type 0} {P Q : A → Type 0} (r : Result A B) → ((x : A) → P x → Q x) → IfOk r P → IfOk r Q
ok_more (Ok x) f h = f x h
ok_more (Err y) f h = tt

pub err_side : {A B : Type 0} (P : A → Type 0) (Q : B → Type 0) (r : Result A B) → MatchResult r P Q → IfErr r Q
err_side P Q (Ok x) h = tt
err_side P Q (Err y) h = h

-- where the file, or its disk, is handed on, a crash leaves what it left before
pub kept_moment : {A B D : Type 0} (state : D → DiskState) (was : DiskState) (P : List ℕ → Type 0) (file : Filed D) (r : Result A (B × D)) (of : A → Filed D)
    → LeavesOnly was (state file.disk) P → IfOk r (λ a. of a ≡ file) → IfErr r (λ e. e.1 ≡ file.disk)
    → MatchResult r (λ a. LeavesOnly was (state (of a).disk) P) (λ e. LeavesOnly was (state e.1) P)
kept_moment state was P file (Ok a) of left same disk = subst (λ (f : Filed _). LeavesOnly was (state f.disk) P) (sym same) left
kept_moment state was P file (Err e) of left same disk = subst (λ (d : _). LeavesOnly was (state d) P) (sym disk) left
