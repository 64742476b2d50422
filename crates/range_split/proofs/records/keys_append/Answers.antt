use Rattle.std.proofs.Common.{arith}
use Rattle.range_split.proofs.RecordSizes.{keys_fit}
use Rattle.range_split.proofs.records.keys_append.Goals as goal

pub encode-requires : goal.encode-requires
encode-requires c = keys_fit c.args.number c.args.keys c.requires.number (omega (arith, c.ranges.number.fits)) c.requires.fits
