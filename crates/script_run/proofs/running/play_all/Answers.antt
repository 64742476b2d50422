use Rattle.std.proofs.Common.{◌≡◌, ◌++◌, ◌∷◌, [], length, ap, sym, subst, ◌∙◌, arith, append_assoc, append-nil, refl}
use Rattle.std.specs.Vec.Iter.{into_iter_items}
use Rattle.std.proofs.lemmas.List.{nil_from_length}
use Rattle.script_run.specs.Output.{Prints}
use Rattle.script_run.specs.Playing.{PlaysAll}
use Rattle.script_run.proofs.Playing.{plays_next, prints_nothing}
use Rattle.script_run.proofs.running.play_all.Goals as goal

pub loop-line-init : goal.loop-line-init
loop-line-init g c = record {
  played = prints_nothing (g.W.Write.contents c.args.writer.now) _ (refl, refl);
  rest = c.into_iter-line-iterator.ensures.into_iter_gives.0;
  count = omega (arith, c.into_iter-line-iterator.ensures.into_iter_gives.1, ap length c.into_iter-line-iterator.ensures.into_iter_gives.0, c.args.lines.ok);
}

pub loop-line-preserved : goal.loop-line-preserved
loop-line-preserved g c =
    let before = c.loop-line.invariant in
    let step = c.in-Some.ensures.steps in
    record {
      played = plays_next _ _ _ _ _ _ c.loop-line.yielded c.in-Some.line before.played c.in_ok-play.ensures.played;
      rest = append_assoc c.loop-line.yielded (c.in-Some.line ∷ []) (into_iter_items c.next.new.self) ∙ ap (λ l. c.loop-line.yielded ++ l) (sym step.0) ∙ before.rest;
      count = omega (arith, before.count, step.1, ap length step.0);
    }

pub returns-clause-played : goal.returns-clause-played
returns-clause-played g c =
    let before = c.loop-line.invariant in
    let nothing : into_iter_items c.loop-line.line-iterator ≡ [] = nil_from_length _ (omega (arith, before.count, c.in-None.ensures.steps.0)) in
    subst (λ ls. Prints (g.W.Write.contents c.args.writer.now) (g.W.Write.contents c.loop-line.writer) (λ text. PlaysAll c.args.session.now ls text c.loop-line.session)) (sym (append-nil c.loop-line.yielded) ∙ ap (λ l. c.loop-line.yielded ++ l) (sym nothing) ∙ before.rest) before.played
