use Rattle.std.proofs.Common.{◌∙◌}
use Rattle.stamp.proofs.TurnLemmas.{works_idle, works_lost, works_more}
use Rattle.stamp.proofs.stamp.Stamp.work.Goals as goal
use Rattle.stamp.proofs.stamp.Stamp.work.Goals.{in-Idle, in-Delivered, in-Lost}

pub loop-turn-preserved : goal.loop-turn-preserved
loop-turn-preserved g c = record {
  works =
      let old = c.args.pass.now.sight in
      let before = c.loop-turn.pass.sight in
      let after = c.take_turn.new.pass.sight in
      let done = c.loop-turn.invariant.works in
      elim c.match-take_turn.branch [
        | in-Idle w ↦ rw w.lost-is (works_idle c.loop-turn._turn c.loop-turn.lost old before after done w.in-Idle.ensures.turn)
        | in-Delivered w ↦ let sent = w.in-Delivered.ensures.turn in rw w.lost-is (works_more c.loop-turn._turn c.loop-turn.lost sent.0 old before after done sent.1)
        | in-Lost w ↦ rw w.lost-is (works_lost c.loop-turn._turn c.loop-turn.lost old before after done w.in-Lost.ensures.turn)
      ];
  answered = c.take_turn.ensures.answered ∙ c.loop-turn.invariant.answered;
}
