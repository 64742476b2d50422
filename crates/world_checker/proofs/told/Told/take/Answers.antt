use Rattle.std.proofs.Common.{◌≡◌, ◌+◌, arith}
use Rattle.replica.specs.Groups.{size}
use Rattle.replica.proofs.Lengths.{group_size-size}
use Rattle.world_checker.proofs.ToldOf.{acked_takes}
use Rattle.world_checker.proofs.told.Told.take.Goals as goal

pub returns-in-Acked : goal.returns-in-Acked
returns-in-Acked c =
    let end : c.from.result + c.from-in-Acked.result ≡ c.in-Acked.offset + size c.in-Acked.group = omega (arith, c.from.ensures, c.from-in-Acked.ensures, c.size.ensures.value, group_size-size c.in-Acked.group) in
    acked_takes c.acknowledge.result c.args.note.now c.in-Acked.extent c.in-Acked.offset (c.from.result + c.from-in-Acked.result) c.in-Acked.group c.args.self.now c.acknowledge.new.self c.in-Acked.is end c.acknowledge.ensures
