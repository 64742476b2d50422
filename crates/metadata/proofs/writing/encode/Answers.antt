use Rattle.std.proofs.Common.{ap, arith, length, length-append}
use Rattle.blocks.specs.Record.{number}
use Rattle.blocks.proofs.Formats.{length-number}
use Rattle.metadata.specs.Record.{item}
use Rattle.metadata.proofs.writing.encode.Goals as goal

pub of-requires : goal.of-requires
of-requires c =
    let empty = ap length c.new-bytes.ensures.items in
    let front = ap length c.in_ok-put_u64.ensures.ok in
    let whole = ap length c.in_ok-put_item.ensures in
    let kept = ap length c.in_ok-from_vec.ensures.ok in
    rw c.in_ok-push.ensures.items (rw c.new-blocks.ensures.items
    (omega arith, omega arith, (omega (arith, empty, front, whole, kept, length-append c.new-bytes.result.items (number 8 c.args.written.now.number), length-number 8 c.args.written.now.number, length-append c.put_u64.new.out.items (item c.args.written.now.item), c.requires.2, length-append (number 8 c.args.written.now.number) (item c.args.written.now.item)), tt)))
