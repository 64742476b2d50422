use Rattle.std.proofs.Common.{take, ap, ◌∙◌}
use Rattle.range_commit.specs.Queue.{QueueState, changes_out}
use Rattle.range_commit.proofs.Fronts.{out_sized, out_kept}
use Rattle.range_commit.proofs.queue.Queue.changes.Goals as goal

pub cells_of-requires-clause-sized : goal.cells_of-requires-clause-sized
cells_of-requires-clause-sized c =
    let inside = c.self.inside in
    let front = c.split_at.ensures.front ∙ ap (take c.self.inside.out_count) c.as_slice.ensures.value in
    out_sized inside.all.items inside.out_count inside.size inside.next c.split_at.result.0.now c.if-self-eq0.false c.self.invariant.sized front

pub returns-in-Ok-clause-kept : goal.returns-in-Ok-clause-kept
returns-in-Ok-clause-kept c =
    let inside = c.self.inside in
    let front = c.split_at.ensures.front ∙ ap (take c.self.inside.out_count) c.as_slice.ensures.value in
    out_kept inside.all.items inside.out_count inside.next c.args.extent c.args.offset c.split_at.result.0.now c.in-Ok.kept.items c.if-self-eq0.false front c.in-Ok.ensures.kept
    ∙ ap (λ (q : QueueState). changes_out q.out c.args.extent c.args.offset) c.self.view_is
