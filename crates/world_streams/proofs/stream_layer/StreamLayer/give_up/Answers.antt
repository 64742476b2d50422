use Rattle.std.proofs.Common.{rules}
use Rattle.world_streams.proofs.stream_layer.StreamLayer.give_up.Goals as goal

pub returns-clause-ok : goal.returns-clause-ok
returns-clause-ok c = search rules
