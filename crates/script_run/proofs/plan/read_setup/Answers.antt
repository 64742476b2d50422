use Rattle.std.proofs.Common.{◌∙◌, ap, map, subst, ℕ, List, Bor, IfNone}
use Rattle.script_run.specs.Script.{Size, SpellsSetup}
use Rattle.script_run.proofs.plan.read_setup.Goals as goal

pub returns-clause-none : goal.returns-clause-none
returns-clause-none c =
    subst (λ (words : List (List ℕ)). IfNone c.setup_of.result ((size : Size) → SpellsSetup words size → ⊥))
    (ap (λ (ws : List (Bor (List ℕ))). map (λ w. w.now) ws) c.as_slice.ensures.value ∙ c.in_ok-words.ensures) c.setup_of.ensures.none
