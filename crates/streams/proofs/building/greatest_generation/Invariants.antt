use Rattle.std.proofs.Common.{◌≡◌, take}
use Rattle.streams.specs.Streams.{greatest_generation}
use Rattle.streams.proofs.building.greatest_generation.Given as goal

abbrev pub invariant-loop-source : goal.invariant-loop-source
invariant-loop-source l = l.greatest ≡ greatest_generation (take l.source-index l.sources)
