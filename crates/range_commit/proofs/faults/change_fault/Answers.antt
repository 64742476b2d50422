use Rattle.std.proofs.Common.{length, sym, ◌∙◌, arith}
use Rattle.range_commit.proofs.ChangeTests.{are_changes, not_empty}
use Rattle.range_commit.proofs.faults.change_fault.Goals as goal

pub returns-clause-fits : goal.returns-clause-fits
returns-clause-fits c = λ _. (
  (not_empty (length c.args.changes.now) (sym c.is_empty.ensures ∙ c.if-is_empty.false), omega (arith, c.if-changes-gt-MAX_CHANGES.false)),
  are_changes c.args.changes.now (sym c.has_bad_key.ensures ∙ c.if-has_bad_key.false) (sym c.has_large_value.ensures ∙ c.if-has_large_value.false),
)
