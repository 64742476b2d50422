use Rattle.std.proofs.Common.{◌≡◌, ◌-◌}
use Rattle.blocks.specs.Format.{many_at}
use Rattle.metadata.specs.Reading.{region_at}
use Rattle.blocks.proofs.Loop.{with_front}
use Rattle.metadata.proofs.reading.all_regions_of.Given as goal

abbrev pub invariant-loop : goal.invariant-loop
invariant-loop l = record {
  read : with_front l.read.items (many_at region_at (l.count - l.counter) l.rest) ≡ many_at region_at l.count l.bytes;
}
