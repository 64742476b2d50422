use Rattle.enode_rules.specs.KeptStep.{told}
use Rattle.enode_rules.proofs.UnrecordedRules.{performed_told}
use Rattle.enode_rules.proofs.rules.take_append.Goals as goal

pub returns-in-Have : goal.returns-in-Have
returns-in-Have g c = rw c.in-Have.is (performed_told g.D.Disk.state c.args.hosted.now c.have.new.hosted c.args.file.now _ (told c.have.result c.have.new.step) c.have.ensures)
