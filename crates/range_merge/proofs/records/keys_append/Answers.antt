use Rattle.range_merge.proofs.RecordSizes.{keys_fit}
use Rattle.range_merge.proofs.records.keys_append.Goals as goal

pub ready-requires : goal.ready-requires
ready-requires c = keys_fit c.args.keys c.requires
