use Rattle.world_streams.proofs.EventSimulation.{started}
use Rattle.world_streams.proofs.stream_layer.StreamLayer.start.Goals as goal

pub returns : goal.returns
returns c = record {
  mirrors = rw (c.new.ensures.items, c.new-2.ensures, c.in_ok-start.ensures, c.in_ok-start-2.ensures)
      (started c.args.setup.now.nodes c.args.setup.now.target c.args.setup.now.within_limits.0 c.args.setup.now.within_limits.2);
}
