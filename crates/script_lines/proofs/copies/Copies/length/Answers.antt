use Rattle.std.proofs.Common.{◌∙◌, sym}
use Rattle.script_lines.proofs.Copying.{length-copies}
use Rattle.script_lines.proofs.copies.Copies.length.Goals as goal

pub returns-in-Some : goal.returns-in-Some
returns-in-Some c = c.in-Some.ensures.1 ∙ sym (length-copies c.args.self.now.count c.args.self.now.text.now)
