use Rattle.std.proofs.Common.{rules}
use Rattle.enode_rules.proofs.appending.append_refusal.Goals as goal

pub returns-then-count-eq0-clause-value : goal.returns-then-count-eq0-clause-value
returns-then-count-eq0-clause-value c = search rules

pub returns-then-has_bad_block-clause-value : goal.returns-then-has_bad_block-clause-value
returns-then-has_bad_block-clause-value c = search rules

pub returns-then-len-target-clause-value : goal.returns-then-len-target-clause-value
returns-then-len-target-clause-value c = search rules

pub returns-clause-value : goal.returns-clause-value
returns-clause-value c = search rules
