use Rattle.std.proofs.Common.{sym, ◌∙◌, ap}
use Rattle.stamp_marks.specs.Histories.{state_after}
use Rattle.stamp_traces.specs.Shown.{shown_by}
use Rattle.stamp_traces.proofs.Legal.{state_after-snoc}
use Rattle.stamp_traces.proofs.cell.Cell.step.Goals as goal

pub invariant_of-self-2 : goal.invariant_of-self-2
invariant_of-self-2 g c =
    let first = g.A.Actor.first g.K.Identity.numbers c.self.inside.number in
    rw (c.replace-before.ensures.after, c.again.ensures) (
      rw (← c.requires.named) c.in-Some.ensures.0,
      λ running. sym (ap (state_after first) (c.in-Some.ensures.2 ∙ c.next_history-history.ensures) ∙ state_after-snoc first (shown_by c.self.inside.token) c.args.event c.step.new.self),
    )
