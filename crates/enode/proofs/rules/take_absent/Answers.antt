use Rattle.std.proofs.Common.{None, ap, sym, subst, ◌∙◌}
use Rattle.wire.specs.declared.body.Body.{Body}
use Rattle.model_streams.specs.Node.{node_rule, extent_of}
use Rattle.enode.specs.Node.{find}
use Rattle.enode.specs.Performs.{NodePerforms}
use Rattle.enode.proofs.RulesWithoutReplica.{took_absent}
use Rattle.enode.proofs.rules.take_absent.Goals as goal

pub returns-in-Append : goal.returns-in-Append
returns-in-Append g c = subst (λ (b : Body). NodePerforms g.D.Disk.state c.args.replicas.now.entries c.args.replicas.now.entries c.args.file.now c.args.file.now (extent_of b) (node_rule c.args.number None c.args.packet.now b) c.take_append.result) (sym c.in-Append.is)
    (took_absent g.D.Disk.state c.args.replicas.now.entries c.args.file.now _ _ c.take_append.result (ap (λ (b : Body). find c.args.replicas.now.entries (extent_of b)) (sym c.in-Append.is) ∙ c.requires.absent) c.take_append.ensures)

pub returns-in-Check : goal.returns-in-Check
returns-in-Check g c = subst (λ (b : Body). NodePerforms g.D.Disk.state c.args.replicas.now.entries c.args.replicas.now.entries c.args.file.now c.args.file.now (extent_of b) (node_rule c.args.number None c.args.packet.now b) c.take_check.result) (sym c.in-Check.is)
    (took_absent g.D.Disk.state c.args.replicas.now.entries c.args.file.now _ _ c.take_check.result (ap (λ (b : Body). find c.args.replicas.now.entries (extent_of b)) (sym c.in-Check.is) ∙ c.requires.absent) c.take_check.ensures)

pub returns-in-Read : goal.returns-in-Read
returns-in-Read g c = subst (λ (b : Body). NodePerforms g.D.Disk.state c.args.replicas.now.entries c.args.replicas.now.entries c.args.file.now c.args.file.now (extent_of b) (node_rule c.args.number None c.args.packet.now b) c.take_read.result) (sym c.in-Read.is)
    (took_absent g.D.Disk.state c.args.replicas.now.entries c.args.file.now _ _ c.take_read.result (ap (λ (b : Body). find c.args.replicas.now.entries (extent_of b)) (sym c.in-Read.is) ∙ c.requires.absent) c.take_read.ensures)

pub returns-in-Seal : goal.returns-in-Seal
returns-in-Seal g c = subst (λ (b : Body). NodePerforms g.D.Disk.state c.args.replicas.now.entries c.take_seal.new.replicas.entries c.args.file.now c.take_seal.new.file (extent_of b) (node_rule c.args.number None c.args.packet.now b) c.take_seal.result) (sym c.in-Seal.is) c.take_seal.ensures
