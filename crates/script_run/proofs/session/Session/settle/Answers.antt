use Rattle.std.proofs.Common.{refl, arith}
use Rattle.script_run.proofs.Playing.{prints_nothing, delivers_next, lowest_delivered, settled_at_last, settled_before}
use Rattle.script_run.proofs.session.Session.settle.Goals as goal

pub loop-turn-init : goal.loop-turn-init
loop-turn-init g c = record { few = omega arith; delivers = prints_nothing (g.W.Write.contents c.args.writer.now) _ (refl, refl) }

pub loop-turn-preserved : goal.loop-turn-preserved
loop-turn-preserved g c =
    let before = c.loop-turn.invariant in
    record {
      few = omega arith;
      delivers = delivers_next _ _ _ _ _ _ c.loop-turn._turn before.delivers
          (lowest_delivered _ _ c.loop-turn.self c.lowest.new.self _ c.in-Some.number (rw c.in-Some.is at c.in_ok-number.ensures.found) c.in_ok-number.ensures.same c.in_ok-deliver.ensures.delivers);
    }

pub returns-in_default-clause-settles : goal.returns-in_default-clause-settles
returns-in_default-clause-settles g c =
    let before = c.loop-turn.invariant in
    settled_before _ _ _ _ _ c.loop-turn._turn before.few before.delivers (rw c.in_default.is at c.in_ok-number.ensures.none)

pub returns-clause-settles : goal.returns-clause-settles
returns-clause-settles g c =
    let before = c.loop-turn.invariant in
    settled_at_last _ _ _ _ c.loop-turn._turn before.few c.loop-turn-test.false before.delivers
