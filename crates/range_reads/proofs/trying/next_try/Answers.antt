use Rattle.std.proofs.Common.{◌∙◌}
use Rattle.std.proofs.lemmas.Result.{IfOk-weaker}
use Rattle.model_partition.specs.Getting.{held_at}
use Rattle.range_reads.specs.Looking.{newest_cell, view_content}
use Rattle.range_reads.proofs.trying.next_try.Goals as goal

pub returns-clause-value : goal.returns-clause-value
returns-clause-value c =
    IfOk-weaker c.one_try.result _ _
    (λ one value r. value r (c.in_ok-found.ensures ∙ (λ i. newest_cell (held_at (view_content c.args.view.now)) c.args.asking.now.indexes.now (c.deref.ensures i) (c.get.ensures i))))
    c.one_try.ensures.value
