use Rattle.std.proofs.Common.{ap, ◌∙◌}
use Rattle.script_lines.proofs.Lists.{texts}
use Rattle.script_lines.proofs.TextLines.{lines_go_on, lines_with, lines_without}
use Rattle.script_lines.proofs.text.lines_of.Goals as goal

pub loop-end-preserved : goal.loop-end-preserved
loop-end-preserved c =
    lines_go_on c.loop-end.found.items c.push.new.self.items c.without_return.result c.loop-end.last.now c.args.text.now c.in-Some.end c.in_ok-push.ensures.items
    c.loop-end.invariant c.in-Some.ensures.0 c.in-Some.ensures.1 c.without_return.ensures

pub returns-then-is_empty : goal.returns-then-is_empty
returns-then-is_empty c =
    lines_without c.loop-end.found.items c.loop-end.last.now c.args.text.now _ c.loop-end.invariant c.in_default.ensures c.is_empty.ensures c.if-is_empty.true

pub returns : goal.returns
returns c =
    ap texts c.in_ok-push-2.ensures.items
    ∙ lines_with c.loop-end.found.items c.loop-end.last c.args.text.now _ c.loop-end.invariant c.in_default.ensures c.is_empty.ensures c.if-is_empty.false
