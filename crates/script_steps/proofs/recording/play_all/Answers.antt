use Rattle.std.proofs.Common.{◌≡◌, ◌++◌, ◌∷◌, [], length, ap, sym, subst, ◌∙◌, arith, append_assoc, append-nil, length-append, refl}
use Rattle.std.proofs.lemmas.List.{length-map, nil_from_length}
use Rattle.std.specs.Iterator.Adapters.{enumerate_count, enumerate_source}
use Rattle.std.specs.Vec.Iter.{into_iter_items, into_iter_len}
use Rattle.script_steps.specs.Steps.{Adds, StepsOfAll}
use Rattle.script_steps.proofs.Adding.{adds_none, lines_in, lines_in_more, lines_next}
use Rattle.script_steps.proofs.recording.play_all.Goals as goal

pub loop-place-init : goal.loop-place-init
loop-place-init c =
    let made = c.into_iter-place-iterator.ensures.into_iter_gives in
    let source = ap (λ i. enumerate_source i) made ∙ c.enumerate-place-items.ensures.source in
    record {
      added = adds_none c.args.steps.now _ (refl, refl);
      place = ap (λ i. enumerate_count i) made ∙ c.enumerate-place-items.ensures.count;
      rest = ap into_iter_items source ∙ c.into_iter.ensures.rest;
      count = omega (arith, ap into_iter_len source, c.into_iter.ensures.len, ap (λ i. length (into_iter_items i)) source, ap length c.into_iter.ensures.rest, c.args.lines.ok);
    }

pub loop-place-preserved : goal.loop-place-preserved
loop-place-preserved c =
    let before = c.loop-place.invariant in
    let step = c.in-Some.ensures.steps in
    let pairs = c.loop-place.yielded in
    let more = lines_in_more pairs c.in-Some.place c.in-Some.line in
    record {
      added = subst (λ ls. Adds c.args.steps.now c.play.new.self (λ more. StepsOfAll 0 ls c.args.steps.now.session more c.play.new.self.session)) (sym more)
          (lines_next _ _ _ (lines_in pairs) c.in-Some.line c.in-Some.place _ (omega (arith, step.1, before.place, length-map pairs (λ p. p.1))) before.added c.in_ok-play.ensures.added);
      place = omega (arith, step.2, before.place, length-append pairs ((c.in-Some.place, c.in-Some.line) ∷ []));
      rest = ap (λ ls. ls ++ into_iter_items (enumerate_source c.next.new.self)) more
          ∙ append_assoc (lines_in pairs) (c.in-Some.line ∷ []) (into_iter_items (enumerate_source c.next.new.self))
          ∙ ap (λ ls. lines_in pairs ++ ls) (sym step.0.0) ∙ before.rest;
      count = omega (arith, before.count, step.0.1, ap length step.0.0);
    }

pub returns-clause-added : goal.returns-clause-added
returns-clause-added c =
    let before = c.loop-place.invariant in
    let rest = into_iter_items (enumerate_source c.loop-place.place-iterator) in
    let nothing : rest ≡ [] = nil_from_length _ (omega (arith, before.count, c.in-None.ensures.steps)) in
    subst (λ ls. Adds c.args.steps.now c.loop-place.steps (λ more. StepsOfAll 0 ls c.args.steps.now.session more c.loop-place.steps.session))
    (sym (append-nil (lines_in c.loop-place.yielded)) ∙ ap (λ ls. lines_in c.loop-place.yielded ++ ls) (sym nothing) ∙ before.rest)
    before.added
