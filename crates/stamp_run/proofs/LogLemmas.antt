-- A log that grows by one, and what is told of it.
use Rattle.std.proofs.Common.{◌≡◌, ℕ, suc, List, [], ◌∷◌, ◌++◌, length, refl, ap}
use Rattle.std.specs.Prelude.{map}
use Rattle.model_streams.specs.declared.event.Event.{Event}
use Rattle.laws_traces.specs.Traces.{RunEntry, events_of}
use Rattle.stamp_run.specs.Logs.{Logged, logged_by, log_of}

pub log_after : (xs : List RunEntry) (x : RunEntry) → log_of (xs ++ x ∷ []) ≡ log_of xs ++ logged_by x ∷ []
log_after [] x = refl
log_after (y ∷ ys) x = ap (λ (l : List Logged). logged_by y ∷ l) (log_after ys x)

pub log_length : (xs : List RunEntry) → length (log_of xs) ≡ length xs
log_length [] = refl
log_length (x ∷ xs) = ap suc (log_length xs)

pub log_events : (xs : List RunEntry) → map (λ (l : Logged). l.event) (log_of xs) ≡ events_of xs
log_events [] = refl
log_events (x ∷ xs) = ap (λ (l : List Event). x.event.event ∷ l) (log_events xs)

pub log_passes : (xs : List RunEntry) → map (λ (l : Logged). l.pass) (log_of xs) ≡ map (λ (x : RunEntry). x.pass) xs
log_passes [] = refl
log_passes (x ∷ xs) = ap (λ (l : List ℕ). x.pass ∷ l) (log_passes xs)
