use Rattle.range_merge.proofs.RecordSizes.{regions_fit}
use Rattle.range_merge.proofs.records.regions_append.Goals as goal

pub ready-requires : goal.ready-requires
ready-requires c = regions_fit c.args.indexes.items c.args.regions.items c.requires
