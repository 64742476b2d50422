use Rattle.std.proofs.Common.{rules, ◌≡◌, None, sym, ◌∙◌}
use Rattle.range.proofs.Checkpoints.{merge_refused_as, merge_refused_so}
use Rattle.range.proofs.server.RangeServer.begun_merge.Goals as goal

pub of_beginning-requires : goal.of_beginning-requires
of_beginning-requires c =
    merge_refused_so c.in-Some.one.now c.in-Some-get.other.now c.has_jobs-left_jobs.result c.has_jobs-right_jobs.result c.in-Some-merge_fault.refusal
    (sym c.merge_fault.ensures ∙ c.in-Some-merge_fault.is)

pub returns-in-Some-merge_fault-clause-refused : goal.returns-in-Some-merge_fault-clause-refused
returns-in-Some-merge_fault-clause-refused c = rw (← c.self.view_is, ← c.left.view_is, ← c.right.view_is) (
    c.of_beginning.ensures ∙ sym c.in-Some-merge_fault.is
    ∙ merge_refused_as (record { context = c.self.inside.context; ranges = c.self.inside.ranges.entries; splits = c.self.inside.splits.entries; merges = c.self.inside.merges.entries })
    c.left.inside.0 c.right.inside.0 c.in-Some.one.now c.in-Some-get.other.now c.has_jobs-left_jobs.result c.has_jobs-right_jobs.result c.merge_fault.result
    (sym c.in-Some.ensures.value) (sym c.in-Some-get.ensures.value) c.has_jobs-left_jobs.ensures c.has_jobs-right_jobs.ensures c.merge_fault.ensures)

pub returns-clause-refused : goal.returns-clause-refused
returns-clause-refused c = rw (← c.self.view_is, ← c.left.view_is, ← c.right.view_is) (
    let none : c.merge_fault.result ≡ None = search rules in
    sym none
    ∙ merge_refused_as (record { context = c.self.inside.context; ranges = c.self.inside.ranges.entries; splits = c.self.inside.splits.entries; merges = c.self.inside.merges.entries })
    c.left.inside.0 c.right.inside.0 c.in-Some.one.now c.in-Some-get.other.now c.has_jobs-left_jobs.result c.has_jobs-right_jobs.result c.merge_fault.result
    (sym c.in-Some.ensures.value) (sym c.in-Some-get.ensures.value) c.has_jobs-left_jobs.ensures c.has_jobs-right_jobs.ensures c.merge_fault.ensures)
