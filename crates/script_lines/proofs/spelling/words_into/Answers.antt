use Rattle.std.proofs.Common.{◌∙◌, ◌++◌, Bor, List, Ok, ap, lit<, map, ℕ}
use Rattle.std.proofs.lemmas.Iterator.Adapters.{fact_from_extend}
use Rattle.std.proofs.lemmas.Iterator.Consumers.{YieldsList-at}
use Rattle.std.proofs.lemmas.Iterator.Splits.{YieldsList-from_str_split}
use Rattle.std.specs.declared.alloc.AllocError.{AllocError}
use Rattle.script_lines.proofs.spelling.words_into.Goals as goal

pub returns : goal.returns
returns c =
    fact_from_extend {E = AllocError} (λ (w : Bor (List ℕ)). w.now) (Ok c.in_ok-extend.field-0) c.in_ok-extend.ensures.ran
    (λ it same. YieldsList-at same (YieldsList-from_str_split 32 c.args.line.now (lit< tt) c.split.ensures.text c.split.ensures.has_more c.split.ensures.pattern))
    (λ xs are added. ap (λ (l : List (Bor (List ℕ))). map (λ w. w.now) l) (added.0 ∙ ap (λ (l : List (Bor (List ℕ))). l ++ xs) c.clear.ensures.items) ∙ are)
