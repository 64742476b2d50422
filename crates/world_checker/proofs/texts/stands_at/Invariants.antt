use Rattle.std.proofs.Common.{◌↔◌, drop}
use Rattle.model_streams.specs.Honest.{Stands}
use Rattle.world_checker.proofs.texts.stands_at.Given as goal

abbrev pub invariant-loop-next : goal.invariant-loop-next
invariant-loop-next l = Stands l.group l.offset l.groups ↔ Stands l.group l.rest (drop l.next-index l.groups)
