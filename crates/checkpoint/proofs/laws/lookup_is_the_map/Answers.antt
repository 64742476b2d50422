use Rattle.checkpoint.proofs.Finding.{lookup_law}
use Rattle.checkpoint.proofs.laws.lookup_is_the_map.Goals as goal

pub returns : goal.returns
returns c = lookup_law
