use Rattle.std.proofs.Common.{arith}
use Rattle.range_split.proofs.RecordSizes.{split_fits}
use Rattle.range_split.proofs.records.split_append.Goals as goal

pub encode-requires : goal.encode-requires
encode-requires c =
    split_fits c.args.number c.fit_range-low.result c.fit_range-high.result c.in_ok-key.key c.requires.number (omega (arith, c.ranges.number.fits))
    c.fit_range-low.ensures.fits c.fit_range-high.ensures.fits c.in_ok-key.ensures.fits
