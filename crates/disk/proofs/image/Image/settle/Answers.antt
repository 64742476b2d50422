use Rattle.std.proofs.Common.{◌++◌, length, ap, arith, length-append}
use Rattle.disk.proofs.image.Image.settle.Goals as goal

pub invariant_of-self : goal.invariant_of-self
invariant_of-self c =
    let was = c.self.inside in
    let now = c.fold.new in
    record {
      whole = λ sure. omega (arith, ap length c.fold.ensures.synced);
      room = omega (arith, c.self.invariant.room, c.fold.ensures.keeps.seen, ap length c.fold.ensures.seen, length-append (now.front.bytes ++ now.flat.seen) now.tail.bytes, length-append now.front.bytes now.flat.seen, length-append (was.front.bytes ++ was.flat.seen) was.tail.bytes, length-append was.front.bytes was.flat.seen);
    }
