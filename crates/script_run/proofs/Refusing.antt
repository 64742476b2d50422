-- What a failure says of the text, where it is passed on.
use Rattle.std.proofs.Common.{◌≡◌, ◌∙◌, ℕ, List, Option, Some, None, Result, Ok, Err, IfErr, IfSome, subst, sym}
use Rattle.std.specs.Result.{IsErrAnd}
use Rattle.script_run.specs.declared.error.Failure.{Failure}
use Rattle.script_run.specs.declared.error.Failure.TheVariants.{BadScript}
use Rattle.script_run.specs.Failures.{IsRunFailure}

-- what holds of a line that is told holds where it is told on
pub told_on : {T : Type 0} (r : Result T Failure) (e : Failure) (Q : ℕ → Type 0) → IsErrAnd r (λ x. x ≡ e) → ((n : ℕ) → e ≡ BadScript n → Q n)
    → IfErr r (λ x. (n : ℕ) → x ≡ BadScript n → Q n)
told_on (Ok t) e Q is q = tt
told_on (Err x) e Q is q = λ n h. q n (sym is ∙ h)

-- a run that has begun does not end for its text
pub not_for_text : {T : Type 0} (r : Result T Failure) (Q : ℕ → Type 0) → IfErr r IsRunFailure → IfErr r (λ x. (n : ℕ) → x ≡ BadScript n → Q n)
not_for_text (Ok t) Q failed = tt
not_for_text (Err x) Q failed = λ n is. absurd (subst IsRunFailure is failed)

-- what holds of the text that was read holds of the bytes that there were to read, where these are known
pub of_known : (known : Option (List ℕ)) (text : List ℕ) (P : List ℕ → Type 0) → IfSome known (λ bytes. text ≡ bytes) → P text → IfSome known P
of_known None text P same h = tt
of_known (Some bytes) text P same h = subst P same h
