use Rattle.std.proofs.Common.{◌≡◌, ◌-◌, length, ap, ◌∙◌, arith}
use Rattle.range_commit.proofs.Fronts.{length-committed}
use Rattle.range_commit.proofs.queue.Queue.acknowledge.Goals as goal

pub returns-clause-bound : goal.returns-clause-bound
returns-clause-bound c =
    let size : length c.in_ok-packets.packets.items ≡ length c.split_at.result.0.now =
    ap length c.in_ok-packets.ensures ∙ length-committed c.args.context.now (c.self.inside.next - c.self.inside.out_count) c.split_at.result.0.now in
    omega (arith, size, c.split_at.ensures.front_len, c.self.invariant.counted, c.self.invariant.most)
