use Rattle.range_split.proofs.SideKeys.{appends_so}
use Rattle.range_split.proofs.side_metadata.sends_keys.Goals as goal

pub returns : goal.returns
returns c = λ r metadata_is blocks_are.
    appends_so c.args.context.now r c.args.job.now c.args.side c.args.metadata c.send-packet.new.client c.args.blocks c.send-packet.result metadata_is blocks_are c.send-packet.ensures
