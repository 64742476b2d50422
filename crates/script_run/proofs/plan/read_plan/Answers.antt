use Rattle.std.proofs.Common.{◌≡◌, ◌∙◌, ◌+◌, ℕ, ap, false, rules, subst, true}
use Rattle.std.specs.Str.Lines.{lines}
use Rattle.script_lines.proofs.Lists.{texts}
use Rattle.script_run.specs.Script.{IsFirstBad, size_if, size_of}
use Rattle.script_run.proofs.Drafts.{draft_next, script_whole, spoilt}
use Rattle.script_run.proofs.plan.read_plan.Goals as goal

pub returns-then-not-branch-clause-told : goal.returns-then-not-branch-clause-told
returns-then-not-branch-clause-told c = λ n e.
    let same : c.loop-index.index + 1 ≡ n = cc in
    let stopped : c.in_ok-read_next.field-0 ≡ false = search rules in
    subst (λ (k : ℕ). IsFirstBad (lines c.args.text.now) k) same
    (spoilt c.deref-line-items.result.now c.loop-index.index _ c.args.text.now (size_if c.loop-index.setup) c.loop-index.plan.items
    (ap texts c.deref-line-items.ensures.value ∙ c.in_ok-texts.ensures) c.loop-index-test.true (c.in_ok-read_next.ensures.none stopped) c.loop-index.invariant)

pub loop-index-preserved : goal.loop-index-preserved
loop-index-preserved c =
    let went_on : c.in_ok-read_next.field-0 ≡ true = search rules in
    draft_next c.deref-line-items.result.now c.loop-index.index _ (size_if c.loop-index.setup) (size_if c.read_next.new.setup) c.loop-index.plan.items c.read_next.new.plan.items
    c.loop-index-test.true (c.in_ok-read_next.ensures.read went_on) c.loop-index.invariant

pub returns-in-Some-clause-found : goal.returns-in-Some-clause-found
returns-in-Some-clause-found c =
    script_whole c.deref-line-items.result.now c.loop-index.index c.args.text.now (size_if c.loop-index.setup) (size_of c.in-Some.setup) c.loop-index.plan.items
    (ap texts c.deref-line-items.ensures.value ∙ c.in_ok-texts.ensures) c.loop-index-test.false (ap size_if c.in-Some.is) c.loop-index.invariant
