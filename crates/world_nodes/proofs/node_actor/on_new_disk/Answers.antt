use Rattle.std.proofs.Common.{ap, rules, sym, ◌∙◌, subst}
use Rattle.disk.specs.Disk.{IsSteady}
use Rattle.disk.specs.Memory.{memory_state}
use Rattle.replica.specs.Replay.{fit}
use Rattle.world_nodes.proofs.Stopping.{is_new}
use Rattle.world_nodes.proofs.node_actor.on_new_disk.Goals as goal

pub returns-in-Ok-restart : goal.returns-in-Ok-restart
returns-in-Ok-restart c =
    let file = c.in-Ok.ensures.ok in
    let only = c.in-Ok-restart.ensures.only c.in-Ok.file.version c.in-Ok.file.records c.into_disk.ensures.stands in
    let steady = c.in-Ok-restart.ensures.steady (subst (λ d. IsSteady (memory_state d)) (sym c.into_disk.ensures.disk) (c.in-Ok.ensures.steady c.new.ensures.steady)) in
    is_new c.args.number c.in-Ok-restart.node c.in-Ok-restart.ensures.number c.in-Ok-restart.ensures.running (only.1 ∙ file.2) steady.1 c.in-Ok-restart.ensures.replays

pub unreachable-requires-in-Err-restart : goal.unreachable-requires-in-Err-restart
unreachable-requires-in-Err-restart c =
    let undamaged = c.in-Err-restart.ensures.damaged c.in-Ok.file.version c.in-Ok.file.records c.into_disk.ensures.stands (ap (fit c.args.number) c.in-Ok.ensures.ok.2) in
    let unfailed = (c.in-Err-restart.ensures.steady (subst (λ d. IsSteady (memory_state d)) (sym c.into_disk.ensures.disk) (c.in-Ok.ensures.steady c.new.ensures.steady))).0 in
    search (rules, undamaged, unfailed)
