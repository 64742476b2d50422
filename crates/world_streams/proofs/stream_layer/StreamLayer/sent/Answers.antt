use Rattle.std.proofs.Common.{rules}
use Rattle.world_streams.proofs.stream_layer.StreamLayer.sent.Goals as goal

pub returns : goal.returns
returns c = search rules
