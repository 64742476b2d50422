use Rattle.std.proofs.Common.{sym, subst}
use Rattle.block_types.specs.declared.record.Record.{Record}
use Rattle.enode_replica.specs.Recovery.{Recovers}
use Rattle.enode_replica.proofs.node_replica.NodeReplica.recover.Goals as goal

pub returns-in-Append : goal.returns-in-Append
returns-in-Append c = subst (λ (r : Record). Recovers c.args.self.now c.recover_append.new.self r c.recover_append.result) (sym c.in-Append.is) c.recover_append.ensures

pub returns-in-Fence : goal.returns-in-Fence
returns-in-Fence c = subst (λ (r : Record). Recovers c.args.self.now c.recover_fence.new.self r c.recover_fence.result) (sym c.in-Fence.is) c.recover_fence.ensures

pub returns-in-Freeze : goal.returns-in-Freeze
returns-in-Freeze c = subst (λ (r : Record). Recovers c.args.self.now c.recover_freeze.new.self r c.recover_freeze.result) (sym c.in-Freeze.is) c.recover_freeze.ensures

pub returns-in-Seal : goal.returns-in-Seal
returns-in-Seal c = subst (λ (r : Record). Recovers c.args.self.now c.recover_seal.new.self r c.recover_seal.result) (sym c.in-Seal.is) c.recover_seal.ensures

pub returns-in-Fill : goal.returns-in-Fill
returns-in-Fill c = subst (λ (r : Record). Recovers c.args.self.now c.recover_fill.new.self r c.recover_fill.result) (sym c.in-Fill.is) c.recover_fill.ensures
