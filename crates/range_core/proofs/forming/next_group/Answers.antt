use Rattle.std.proofs.Common.{ℕ, ◌≤◌, length, subst}
use Rattle.model_partition.specs.Range.{waiting_out}
use Rattle.range_core.proofs.Counts.{few_notes}
use Rattle.range_core.proofs.forming.next_group.Goals as goal

pub returns-in_ok-blocks-in-Some-clause-few : goal.returns-in_ok-blocks-in-Some-clause-few
returns-in_ok-blocks-in-Some-clause-few c =
    let notes = rw c.in-Some.is at c.in_ok-plan.ensures.notes in
    let begins = rw c.in-Some.is at c.in_ok-plan.ensures.begins in
    few_notes c.args.range c.args.generation c.args.queue.now.next c.args.queue.now.queue c.in-Some.plan.count c.in-Some.plan.size (length (waiting_out c.args.queue.now.out)) c.in-Some.plan.notes.items
    notes begins (subst (λ (n : ℕ). n ≤ 1024) c.count-most.ensures.value c.count-most.ensures.bound)
