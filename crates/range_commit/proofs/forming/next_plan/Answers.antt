use Rattle.std.proofs.Common.{◌≡◌, ◌≤◌, ℕ, List, length, take, sym, ap, subst, ◌∙◌}
use Rattle.std.specs.Prelude.{not}
use Rattle.commitlog.specs.Record.{spelling}
use Rattle.model_partition.specs.declared.waiting.WaitingTransaction.{WaitingTransaction}
use Rattle.model_partition.specs.Serving.{record_of}
use Rattle.range_commit.specs.Queue.{IsNextGroup}
use Rattle.range_commit.proofs.Fronts.{plan_fits, is_next}
use Rattle.range_commit.proofs.forming.next_plan.Goals as goal

pub returns-in-Ok-clause-begins : goal.returns-in-Ok-clause-begins
returns-in-Ok-clause-begins c =
    let next = c.next-next.result in
    let all = c.queued.result.now in
    let n = c.args.count in
    let le : c.args.count ≤ length c.queued.result.now = subst (λ (l : List WaitingTransaction). c.args.count ≤ length l) (sym c.queued.ensures.value) c.requires.within in
    let spelled : c.args.group.now ≡ spelling (record_of c.next-next.result (take c.args.count c.queued.result.now)) =
    c.requires.spelled ∙ ap (λ (k : ℕ). spelling (record_of k (take c.args.count c.args.queue.now.queue))) (sym c.next-next.ensures.value)
    ∙ ap (λ (l : List WaitingTransaction). spelling (record_of c.next-next.result (take c.args.count l))) (sym c.queued.ensures.value) in
    let small : length (spelling (record_of c.next-next.result (take c.args.count c.queued.result.now))) ≤ 64 = subst (λ (g : List (List ℕ)). length g ≤ 64) spelled c.requires.blocks in
    let fits = plan_fits next all n c.checked_add.result c.queued.ensures.transactions c.queued.ensures.most c.next-next.ensures.positive c.if-count-eq0.false le small c.checked_add.ensures (c.is_none.ensures ∙ ap not c.if-is_none.false) in
    let made = is_next next all n c.in-Ok.plan.count c.in-Ok.plan.size c.split_at.result.0.now c.split_at.ensures.front c.in-Ok.ensures.count c.in-Ok.ensures.size c.if-count-eq0.false le fits in
    subst (λ (k : ℕ). IsNextGroup k c.args.queue.now.queue c.in-Ok.plan.count c.in-Ok.plan.size) c.next-next.ensures.value
    (subst (λ (l : List WaitingTransaction). IsNextGroup c.next-next.result l c.in-Ok.plan.count c.in-Ok.plan.size) c.queued.ensures.value made)
