use Rattle.std.proofs.Common.{◌<◌, arith, length, length-set, subst, sym}
use Rattle.script_lines.specs.Values.{IsNumber}
use Rattle.script_lines.specs.Words.{Denotes}
use Rattle.script_lines.proofs.Lists.{all_at, each_from_places, length-texts, places_more, text_at, texts}
use Rattle.script_lines.proofs.word.numbers.Goals as goal

pub returns-in_err-numbers-clause-none : goal.returns-in_err-numbers-clause-none
returns-in_err-numbers-clause-none g c =
    let below : c.loop-i.i < length c.args.words.now = omega arith in
    rw c.from_residual.ensures (λ len all. c.in_err-numbers.ensures
    (subst IsNumber (text_at c.args.words.now c.loop-i.i _ below)
    (all_at IsNumber (texts c.args.words.now) c.loop-i.i (omega (arith, length-texts c.args.words.now)) all)))

pub loop-i-preserved : goal.loop-i-preserved
loop-i-preserved g c =
    let below : c.loop-i.i < length c.args.words.now = omega arith in
    let read = c.in_ok-numbers.ensures in (
      rw length-set c.loop-i.invariant.0,
      places_more Denotes c.loop-i.numbers (texts c.args.words.now) c.loop-i.i c.in_ok-numbers.field-0
          (omega (arith, c.loop-i.invariant.0)) c.loop-i.invariant.1 (subst (Denotes c.in_ok-numbers.field-0) (sym (text_at c.args.words.now c.loop-i.i _ below)) read),
    )

pub returns-clause-found : goal.returns-clause-found
returns-clause-found g c =
    each_from_places Denotes c.loop-i.numbers (texts c.args.words.now)
    (omega (arith, length-texts c.args.words.now, c.loop-i.invariant.0))
    (λ k below. c.loop-i.invariant.1 k (omega (arith, c.loop-i.invariant.0)))
