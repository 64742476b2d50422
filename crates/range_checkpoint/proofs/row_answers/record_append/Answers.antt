use Rattle.std.proofs.Common.{arith}
use Rattle.range_checkpoint.proofs.Noted.{record_size}
use Rattle.range_checkpoint.proofs.row_answers.record_append.Goals as goal

pub encode-requires : goal.encode-requires
encode-requires c = (
  (omega (arith, c.requires.number), omega (arith, c.requires.number)),
  (c.fit_place.ensures.fits, c.fit_position.ensures.fits, (omega (arith, c.requires.next), omega (arith, c.ranges.next.fits))),
  omega (arith, record_size c.args.number c.args.combine c.fit_place.result c.fit_position.result c.args.next),
)
