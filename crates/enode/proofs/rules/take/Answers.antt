use Rattle.std.proofs.Common.{rules, ℕ, subst}
use Rattle.model_streams.specs.Node.{node_rule}
use Rattle.enode_rules.specs.KeptStep.{told}
use Rattle.enode.specs.Node.{find}
use Rattle.enode.specs.Performs.{NodePerforms}
use Rattle.enode.proofs.RulesOfNode.{took_none, took_some}
use Rattle.enode.proofs.rules.take.Goals as goal

pub returns-in-None : goal.returns-in-None
returns-in-None g c = rw c.fill.ensures (took_none g.D.Disk.state c.args.replicas.now.entries c.get_mut.follows.lender-at-none.entries _ _ _ _ c.args.number _ _ c.take_absent.result (search rules) (search rules) c.take_absent.ensures)

pub returns-in-Some : goal.returns-in-Some
returns-in-Some g c =
    subst (λ (e : ℕ). NodePerforms g.D.Disk.state c.args.replicas.now.entries (c.get_mut.follows.lender c.handle_into.new.hosted).entries c.args.file.now c.handle_into.new.file e (node_rule c.args.number (find c.args.replicas.now.entries e) c.args.packet.now c.args.packet.now.body) (told c.handle_into.result c.handle_into.new.step)) c.extent_of-extent.ensures
    (took_some g.D.Disk.state _ _ _ _ c.extent_of-extent.result c.args.number _ _ c.in-Some.hosted.now c.handle_into.new.hosted (told c.handle_into.result c.handle_into.new.step) (search rules) (search rules) (search rules) c.handle_into.ensures)
