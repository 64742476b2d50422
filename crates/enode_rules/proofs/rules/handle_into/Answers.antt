use Rattle.std.proofs.Common.{Some, sym, subst}
use Rattle.wire.specs.declared.body.Body.{Body}
use Rattle.model_streams.specs.Node.{node_rule}
use Rattle.enode_rules.specs.KeptStep.{told}
use Rattle.enode_rules.specs.Performs.{ReplicaPerforms}
use Rattle.enode_rules.proofs.UnrecordedRules.{performed_told}
use Rattle.enode_rules.proofs.rules.handle_into.Goals as goal

pub returns-in-Append : goal.returns-in-Append
returns-in-Append g c = subst (λ (b : Body). ReplicaPerforms g.D.Disk.state c.args.hosted.now c.take_append.new.hosted c.args.file.now c.take_append.new.file (node_rule c.args.node (Some c.args.hosted.now) c.args.packet.now b) (told c.take_append.result c.take_append.new.step)) (sym c.in-Append.is) c.take_append.ensures

pub returns-in-Check : goal.returns-in-Check
returns-in-Check g c = rw c.fill.ensures (subst (λ (b : Body). ReplicaPerforms g.D.Disk.state c.args.hosted.now c.take_check.new.hosted c.args.file.now c.take_check.new.file (node_rule c.args.node (Some c.args.hosted.now) c.args.packet.now b) c.take_check.result) (sym c.in-Check.is) c.take_check.ensures)

pub returns-in-Seal : goal.returns-in-Seal
returns-in-Seal g c = rw c.fill-in-Seal.ensures (subst (λ (b : Body). ReplicaPerforms g.D.Disk.state c.args.hosted.now c.take_seal.new.hosted c.args.file.now c.take_seal.new.file (node_rule c.args.node (Some c.args.hosted.now) c.args.packet.now b) c.take_seal.result) (sym c.in-Seal.is) c.take_seal.ensures)

pub returns-in-Read : goal.returns-in-Read
returns-in-Read g c = rw c.fill-in-Read.ensures (subst (λ (b : Body). ReplicaPerforms g.D.Disk.state c.args.hosted.now c.args.hosted.now c.args.file.now c.args.file.now (node_rule c.args.node (Some c.args.hosted.now) c.args.packet.now b) c.take_read.result) (sym c.in-Read.is)
    (performed_told g.D.Disk.state _ _ c.args.file.now _ c.take_read.result c.take_read.ensures))
