use Rattle.std.proofs.Common.{take}
use Rattle.std.specs.List.{All}
use Rattle.manager_state.specs.RecordBytes.{IsSourceInRange}
use Rattle.manager_rules.proofs.modifying.read_sources.Given as goal

abbrev pub invariant-loop-source : goal.invariant-loop-source
invariant-loop-source l = All IsSourceInRange (take l.source-index l.sources)
