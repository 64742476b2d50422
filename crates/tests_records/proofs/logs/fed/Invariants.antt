use Rattle.std.proofs.Common.{drop}
use Rattle.std.specs.List.{AllByRecursion}
use Rattle.block_types.specs.Limits.{IsBlock}
use Rattle.tests_records.proofs.logs.fed.Given as goal

abbrev pub invariant-loop-block : goal.invariant-loop-block
invariant-loop-block l = AllByRecursion IsBlock (drop l.block-index l.blocks)
