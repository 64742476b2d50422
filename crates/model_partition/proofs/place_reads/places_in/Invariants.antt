use Rattle.std.proofs.Common.{◌≡◌, drop}
use Rattle.model_partition.specs.PlaceReads.{places_in}
use Rattle.model_partition.proofs.place_reads.places_in.Given as goal

abbrev pub invariant-loop-known : goal.invariant-loop-known
invariant-loop-known l = places_in (drop l.known-index l.extents) l.extent-inside.0 ≡ places_in l.extents l.extent-inside.0
