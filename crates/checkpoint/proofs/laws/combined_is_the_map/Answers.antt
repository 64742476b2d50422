use Rattle.checkpoint.proofs.Merging.{combined_law, combined_entries}
use Rattle.checkpoint.proofs.laws.combined_is_the_map.Goals as goal

pub returns : goal.returns
returns c = record { map = combined_law; entries = combined_entries }
