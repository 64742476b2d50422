-- The lines of a script's text below its setup.
use Rattle.std.proofs.Common.{◌≡◌, ◌∙◌, ap, refl, subst, sym, Bool, true, false, cond, Bor, drop, filter, List, [], ◌∷◌, ℕ}
use Rattle.std.proofs.lemmas.List.{drop-map}
use Rattle.std.specs.Str.Lines.{lines}
use Rattle.script_lines.specs.declared.line.Line.{Line}
use Rattle.script_lines.proofs.Lists.{texts}
use Rattle.script_run.specs.Script.{IsScript, Size, SpellsAll, SpellsPlan, is_some}

abbrev pub not_empty : List (Bor (List ℕ)) → List (Bor (List ℕ))
not_empty found = filter (λ line. is_some line.now) found

not_empty_texts : (found : List (Bor (List ℕ))) → texts (not_empty found) ≡ filter is_some (texts found)
not_empty_texts [] = refl
not_empty_texts (line ∷ found) = by_test (is_some line.now) (not_empty_texts found)
  where
    by_test : (b : Bool) → texts (not_empty found) ≡ filter is_some (texts found)
        → texts (cond b (line ∷ not_empty found) (not_empty found)) ≡ cond b (line.now ∷ filter is_some (texts found)) (filter is_some (texts found))
    by_test true rest = ap (λ l. line.now ∷ l) rest
    by_test false rest = rest

pub texts_below : (found : List (Bor (List ℕ))) → texts (drop 1 (not_empty found)) ≡ drop 1 (filter is_some (texts found))
texts_below found = sym (drop-map (λ line. line.now) 1 (not_empty found)) ∙ ap (λ l. drop 1 l) (not_empty_texts found)

-- each of them spells the line at its place
pub all_spelled : (text : List ℕ) (below : List (List ℕ)) → below ≡ drop 1 (filter is_some (lines text))
    → (size : Size) (plan : List Line) → IsScript text size plan → SpellsAll size below plan
all_spelled text below same size plan script = subst (λ (l : List (List ℕ)). SpellsAll size l plan) (sym same) (by_first (filter is_some (lines text)) script.1)
  where
    by_first : (all : List (List ℕ)) → SpellsPlan all size plan → SpellsAll size (drop 1 all) plan
    by_first [] spelled = absurd spelled
    by_first (first ∷ rest) spelled = spelled.1
