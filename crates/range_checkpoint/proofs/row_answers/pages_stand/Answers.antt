use Rattle.std.proofs.Common.{◌∙◌, sym, ap}
use Rattle.checkpoint.specs.PageGroups.{PagesState, next_group}
use Rattle.model_partition.specs.Checkpoints.{next_append}
use Rattle.range_checkpoint.proofs.row_answers.pages_stand.Goals as goal

pub returns-clause-next : goal.returns-clause-next
returns-clause-next c = λ job same.
    ap (next_append job) (ap (λ (p : PagesState). next_group p) c.in_ok-place_next.ensures.ok ∙ sym (c.in_ok-group.ensures c.args.extent c.args.offset))
    ∙ c.in_ok-next.ensures.next job (ap (λ (p : PagesState). p.index) (same ∙ c.in_ok-place_next.ensures.ok) ∙ sym c.in_ok-index.ensures.value)
