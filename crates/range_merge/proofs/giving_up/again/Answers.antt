use Rattle.std.proofs.Common.{◌∙◌, sym}
use Rattle.std.specs.Prelude.{if◌then◌else◌}
use Rattle.model_partition.specs.Merges.{asks_again_in, stays}
use Rattle.range_merge.proofs.giving_up.again.Goals as goal

pub returns-then-is_writing : goal.returns-then-is_writing
returns-then-is_writing c =
    let d = c.args.context.now in
    let l = c.args.left.now in
    let r = c.args.right.now in
    let job = c.args.job.now in
    (λ i. if (sym c.has_number.ensures ∙ c.if-not-has_number.false) i then asks_again_in d l r job job.phase else stays d l r job)
    ∙ c.write_again.ensures l r
