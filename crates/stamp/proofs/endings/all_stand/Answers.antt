use Rattle.std.proofs.Common.{length, refl, arith}
use Rattle.std.proofs.lemmas.Option.{slice_get_read, slice_get_within}
use Rattle.stamp_traces.specs.Passes.{PassStands}
use Rattle.stamp_run.specs.Passes.{AreAnswers, RunPass}
use Rattle.stamp.proofs.Lists.{first_more}
use Rattle.stamp.proofs.endings.all_stand.Goals as goal

pub loop-pass-preserved : goal.loop-pass-preserved
loop-pass-preserved g c =
    let passes = c.args.passes.now in
    let entries = c.args.trace.now.journal.entries in
    let at = c.loop-pass.pass-index in
    let pass = c.pass-item.result in
    let found = slice_get_read passes (length passes) at pass refl (omega arith) c.pass-item.is in
    let here = c.if-not-stands.ensures in record {
      stand = first_more (λ (p : RunPass). PassStands entries p.sight) passes at pass c.loop-pass.invariant.stand found here.stands;
      answered = first_more (λ (p : RunPass). AreAnswers entries p.answered) passes at pass c.loop-pass.invariant.answered found (here.answers refl);
    }

pub returns : goal.returns
returns g c =
    let within = slice_get_within c.args.passes.now in record {
      stand = record { each = λ k p at. c.loop-pass.invariant.stand k p (omega (arith, within k p at)) at };
      answered = λ _. record { each = λ k p at. c.loop-pass.invariant.answered k p (omega (arith, within k p at)) at };
    }
