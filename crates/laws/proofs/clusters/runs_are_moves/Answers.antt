use Rattle.laws_servers.proofs.EventsAsMoves.{comes_by}
use Rattle.laws.proofs.clusters.runs_are_moves.Goals as goal

pub returns : goal.returns
returns c = comes_by
