use borrow.Author.Rules.{rules}
use borrow.Author.Tests.{tests}
use Rattle.std.proofs.Common.{◌∙◌, ap, drop, filter}
use Rattle.std.proofs.lemmas.Iterator.{items_from_collect}
use Rattle.std.proofs.lemmas.Iterator.Adapters.{YieldsList-from_skip, YieldsList-from_vec}
use Rattle.std.proofs.lemmas.Iterator.Consumers.{YieldsList-at, YieldsList-from_filter}
use Rattle.std.proofs.lemmas.Result.{IfOk-weaker}
use Rattle.script_lines.proofs.Lists.{texts}
use Rattle.script_run.specs.Script.{is_some}
use Rattle.script_steps.proofs.EventLines.{all_spelled, texts_below}
use Rattle.script_steps.proofs.trace_lines.event_lines.Goals as goal

pub returns-clause-below : goal.returns-clause-below
returns-clause-below c =
    let found = c.in_ok-lines_of.field-0 in
    IfOk-weaker c.collect.result _ _
    (λ kept same. ap texts same ∙ texts_below found.items ∙ ap (λ l. drop 1 (filter is_some l)) c.in_ok-lines_of.ensures)
    (items_from_collect c.collect.result c.collect.ensures.ran
    (YieldsList-from_skip 1
    (YieldsList-at c.skip.ensures.source
    (YieldsList-from_filter _ (λ line. is_some line.now)
    (YieldsList-at c.filter.ensures.source (YieldsList-from_vec found.items c.into_iter.ensures.rest (c.into_iter.ensures.len ∙ found.ok.0)))
    c.filter.ensures.closure (λ x b q k. search (rules, tests))))
    c.skip.ensures.count))

pub returns-clause-spelled : goal.returns-clause-spelled
returns-clause-spelled c = IfOk-weaker c.collect.result _ _ (λ kept below. all_spelled c.args.text.now (texts kept.items) below) (returns-clause-below c)
