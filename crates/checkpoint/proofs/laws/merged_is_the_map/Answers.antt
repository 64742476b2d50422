use Rattle.checkpoint.proofs.Merging.{merged_law, merged_entries}
use Rattle.checkpoint.proofs.laws.merged_is_the_map.Goals as goal

pub returns : goal.returns
returns c = record { map = merged_law; entries = merged_entries }
