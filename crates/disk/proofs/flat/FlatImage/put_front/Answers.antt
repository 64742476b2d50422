use Rattle.std.proofs.Common.{List, ℕ, ◌++◌, ap, ◌∙◌}
use Rattle.disk.specs.Image.{ImageBytes}
use Rattle.disk.proofs.Parts.{sure_behind}
use Rattle.disk.proofs.flat.FlatImage.put_front.Goals as goal

pub returns-clause-synced : goal.returns-clause-synced
returns-clause-synced c =
    let was = c.self.inside in
    sure_behind was.clean was.undo.at c.args.front.now was.undo.bytes.items was.bytes.items _ c.in-Ok.ensures.ok ∙ ap (λ (h : ImageBytes). c.args.front.now ++ h.synced) c.self.view_is
