use Rattle.std.proofs.Common.{ap}
use Rattle.script_run.specs.Script.{size_if, size_of}
use Rattle.script_run.proofs.Drafts.{goes_on, stops_before_setup, stops_below_setup}
use Rattle.script_run.proofs.plan.read_next.Goals as goal

pub returns-in-None-2-clause-none : goal.returns-in-None-2-clause-none
returns-in-None-2-clause-none c = λ no.
    stops_before_setup c.in-Ok.text.now c.args.line.now _ (size_if c.args.setup.now) c.args.plan.now.items c.in-Ok.ensures.cases.0 c.is_empty.ensures c.if-is_empty.false (ap size_if c.in-None.is)
    (rw c.in-None-2.is at c.in_ok-first-in-None.ensures.none)

pub returns-in_ok-push-in-Some-3-clause-read : goal.returns-in_ok-push-in-Some-3-clause-read
returns-in_ok-push-in-Some-3-clause-read c = λ yes.
    goes_on c.in-Ok.text.now c.args.line.now _ (size_if c.args.setup.now) (size_of c.in-Some.size) c.args.plan.now.items c.push.new.self.items c.in-Some-3.line
    c.in-Ok.ensures.cases.0 c.in-Ok.ensures.cases.1 c.is_empty.ensures c.if-is_empty.false (ap size_if c.in-Some.is)
    (rw c.in-Some-3.is at c.in_ok-line-in-Some.ensures.found) c.in_ok-push-in-Some-3.ensures.items

pub returns-in-None-3-clause-none : goal.returns-in-None-3-clause-none
returns-in-None-3-clause-none c = λ no.
    stops_below_setup c.in-Ok.text.now c.args.line.now _ (size_if c.args.setup.now) (size_of c.in-Some.size) c.args.plan.now.items
    c.in-Ok.ensures.cases.0 c.is_empty.ensures c.if-is_empty.false (ap size_if c.in-Some.is)
    (rw c.in-None-3.is at c.in_ok-line-in-Some.ensures.none)
