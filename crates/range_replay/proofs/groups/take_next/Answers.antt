use Rattle.std.proofs.Common.{◌≡◌, Err, ap}
use Rattle.block_types.specs.declared.fault.BlockFault.TheVariants as faults
use Rattle.memtable.specs.Entries.{put_all}
use Rattle.range_replay.proofs.Taking.{is_damaged}
use Rattle.range_replay.proofs.groups.take_next.Goals as goal

pub returns-in-Err-clause-damaged : goal.returns-in-Err-clause-damaged
returns-in-Err-clause-damaged c = λ is layer groups.
    let fault : c.in-Err.fault ≡ faults.Damaged = cc in
    is_damaged c.args.keys.now c.args.extent c.args.at (c.args.regions.items, put_all layer c.args.changes.now.items) c.args.group.now groups (c.in-Err.ensures.damaged (ap Err fault) layer)
