use Rattle.std.proofs.Common.{ℕ, ◌≤◌, length, sym, subst}
use Rattle.range_commit.proofs.GroupGrowth.{grown_within}
use Rattle.range_commit.proofs.queue.Queue.plan.Goals as goal

pub next_plan-requires-clause-within : goal.next_plan-requires-clause-within
next_plan-requires-clause-within c =
    subst (λ (n : ℕ). n ≤ length c.args.self.now.queue) (sym c.in_ok-group.ensures.taken) (grown_within c.next.result c.args.self.now.queue c.args.context.now.batch)
