use Rattle.std.proofs.Common.{◌≡◌, map, take}
use Rattle.model_partition.specs.Range.{refuses}
use Rattle.wire.specs.declared.refusal.Refusal.TheVariants as refusals
use Rattle.range_reads.proofs.awaited.refusals_of.Given as goal

abbrev pub invariant-loop-get : goal.invariant-loop-get
invariant-loop-get l = l.packets.items ≡ map (λ g. refuses l.context g.from g.request refusals.NotOwner) (take l.get-index l.gets)
