use Rattle.std.proofs.Common.{sym, ap, ◌∙◌}
use Rattle.std.proofs.lemmas.Result.{IfOk-weaker}
use Rattle.memtable.specs.Layers.{cell_at}
use Rattle.model_partition.specs.Getting.{indexed_value}
use Rattle.model_partition.specs.Getting as getting
use Rattle.range_reads.specs.Looking.{view_content}
use Rattle.range_reads.specs.Lookups.{seen}
use Rattle.range_reads.proofs.Tries.{in_time, refused, look_is}
use Rattle.range_reads.proofs.trying.one_try.Goals as goal

pub returns-in-Some-clause-value : goal.returns-in-Some-clause-value
returns-in-Some-clause-value c = λ r is.
    let d = record c.args.asking.now.context.now { count = c.args.count } in
    refused d (seen c.args.asking.now (view_content c.args.view.now) r) c.args.get c.in-Some.refusal c.refuses-packet.result
    (sym (c.in-Some.ensures c.args.count (view_content c.args.view.now) r)) c.refuses-packet.ensures

pub returns-in-Ok-Is-clause-value : goal.returns-in-Ok-Is-clause-value
returns-in-Ok-Is-clause-value c =
    let d = record c.args.asking.now.context.now { count = c.args.count } in
    let held = view_content c.args.view.now in
    let found = rw c.in-Ok-Is.field-0-is at c.in-Ok-Is.ensures in
    IfOk-weaker c.answers.result _ _
    (λ one tried r is. tried held r ∙ in_time d (seen c.args.asking.now held r) c.args.get (getting.Is c.in-Ok-Is.value) (sym (c.in_default.ensures c.args.count held r))
    (found ∙ ap (indexed_value (view_content c.args.view.now)) is ∙ look_is held c.args.asking.now.indexes.now c.args.get.key (cell_at c.args.asking.now.table.now c.args.get.key)))
    c.answers.ensures.value

pub returns-in-Ok-Needs-clause-value : goal.returns-in-Ok-Needs-clause-value
returns-in-Ok-Needs-clause-value c =
    let d = record c.args.asking.now.context.now { count = c.args.count } in
    let held = view_content c.args.view.now in
    let found = rw c.in-Ok-Needs.field-0-is at c.in-Ok-Needs.ensures in
    IfOk-weaker c.asks_place.result _ _
    (λ one tried r is. tried ∙ in_time d (seen c.args.asking.now held r) c.args.get (getting.Needs c.in-Ok-Needs.page c.in-Ok-Needs.place) (sym (c.in_default.ensures c.args.count held r))
    (found ∙ ap (indexed_value (view_content c.args.view.now)) is ∙ look_is held c.args.asking.now.indexes.now c.args.get.key (cell_at c.args.asking.now.table.now c.args.get.key)))
    c.asks_place.ensures
