use Rattle.std.proofs.Common.{◌≡◌, map, take}
use Rattle.model_partition.specs.Range.{refuses}
use Rattle.wire.specs.declared.refusal.Refusal.TheVariants as refusals
use Rattle.range_commit.proofs.answering.refusals_of.Given as goal

abbrev pub invariant-loop-transaction : goal.invariant-loop-transaction
invariant-loop-transaction l = l.packets.items ≡ map (λ t. refuses l.context t.from t.request refusals.NotOwner) (take l.transaction-index l.all)
