use Rattle.std.proofs.Common.{◌-◌, length, ap, arith, rules}
use Rattle.disk.specs.Image.{ImageBytes}
use Rattle.disk.proofs.Parts.{inside_ok}
use Rattle.disk.proofs.image.Image.put_over.Goals as goal

pub returns-then-is_inside-clause-ok : goal.returns-then-is_inside-clause-ok
returns-then-is_inside-clause-ok c =
    let was = c.self.inside in
    inside_ok was.front.bytes was.flat.seen was.tail.bytes c.args.new.now c.overwrite.new.self.seen c.args.self.now.seen c.args.at (c.args.at - c.len.result) was.sure c.overwrite.result (ap (λ (h : ImageBytes). h.seen) c.self.view_is) c.requires.place (c.if-is_inside.ensures.begins (search rules)) (omega (arith, c.len.ensures.value)) (c.if-is_inside.ensures.within (search rules)) c.overwrite.ensures.ok
