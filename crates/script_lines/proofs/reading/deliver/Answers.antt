use Rattle.std.proofs.Common.{◌∙◌, ◌∷◌, codes, refl, subst, sym}
use Rattle.std.proofs.lemmas.Slice.Eq.{bytes_eq-Decides}
use Rattle.script_lines.specs.Grammar.{HasForm}
use Rattle.script_lines.specs.declared.line.Line.TheVariants.{DeliverLast}
use Rattle.script_lines.proofs.Lists.{texts_of_one}
use Rattle.script_lines.proofs.reading.deliver.Goals as goal

pub returns-then-eq : goal.returns-then-eq
returns-then-eq c =
    subst (λ words. HasForm DeliverLast (codes "deliver" ∷ words))
    (sym (texts_of_one c.args.words.now _ c.in-len1.len_at_least c.in-len1.len_below))
    (refl, ((bytes_eq-Decides _ (codes "last")).0 (sym c.eq.ensures ∙ c.if-eq.true), tt))
