use Rattle.world_manager.proofs.ManagerSimulation.{is_new}
use Rattle.world_manager.proofs.manager_actor.on_new_disk.Goals as goal

pub returns-in-Ok : goal.returns-in-Ok
returns-in-Ok c =
    let h = c.in-Ok.ensures in
    is_new c.args.nodes c.args.target c.in-Ok.manager h.running h.shows h.records (h.steady c.new.ensures.steady).1
