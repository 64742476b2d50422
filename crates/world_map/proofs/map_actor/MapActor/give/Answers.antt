use Rattle.std.proofs.Common.{◌≡◌, ◌≤◌, ℕ, false, List, length, Err, IfOk, OnErr, ap, sym, ◌∙◌, subst, arith}
use Rattle.disk.specs.declared.memory.MemDisk.{MemDisk}
use Rattle.disk.specs.Memory.{memory_state}
use Rattle.wire.specs.declared.note.Note.{Note}
use Rattle.wire.specs.declared.packet.Packet.{Packet}
use Rattle.model_streams.specs.Bounds.{AreFew}
use Rattle.model_partition.specs.MapRules.{map_rule}
use Rattle.model_partition.specs.Cluster.{map_takes}
use Rattle.pmap.specs.MapWithFile.{MapWithFile, map_of}
use Rattle.pmap.specs.Performs.{MapPerforms}
use Rattle.world_steps.specs.ActorStep.{ActorStep, IsFew}
use Rattle.world_stops.specs.LastRecord.{shown_if, stands_told}
use Rattle.world_map.specs.Seen.{MapSeen, MapSimulates, seen_of}
use Rattle.world_map.proofs.MapCalls.{took, took_broken, took_short}
use Rattle.world_map.proofs.ShownRules.{shown_few}
use Rattle.world_map.proofs.map_actor.MapActor.give.Goals.{in-Ok-handle, in-Err-Failed, in-Err-Memory}
use Rattle.world_map.proofs.map_actor.MapActor.give.Goals as goal

pub returns-clause-ok : goal.returns-clause-ok
returns-clause-ok c =
    let t : ℕ = c.self.inside.moment in
    let x : MapWithFile MemDisk = c.self.inside.map in
    let y : MapWithFile MemDisk = c.handle.new.self in
    let up : x.file.stopped ≡ false = sym c.is_stopped.ensures ∙ c.if-is_stopped.false in
    let p : Packet = c.args.packet.now in
    let performed = c.handle.ensures.performed up in
    let shown : c.in-Ok.notes ≡ shown_if (stands_told c.told.result) (map_rule (map_of x) p p.body).notes =
    c.in-Ok.ensures ∙ ap (λ b. shown_if b (map_rule (map_of x) p p.body).notes) c.stands-stands.ensures in
    subst (λ (s : MapSeen). IfOk c.match-handle.result (λ step. MapSimulates s (seen_of t y) (λ k. map_takes k p) step.packets step.notes)) c.self.view_is
    (elim c.match-handle.branch [
      | in-Ok-handle w ↦
          subst (λ r. IfOk r (λ step. MapSimulates (seen_of t x) (seen_of t y) (λ k. map_takes k p) step.packets step.notes)) (sym w.result-is)
          (subst (λ (s : ActorStep). MapSimulates (seen_of t x) (seen_of t y) (λ k. map_takes k p) s.packets s.notes) (sym w.of_streams.ensures)
          (took t x y p up w.in-Ok-handle.step (subst (λ d. MapPerforms memory_state x y (map_rule (map_of x) p p.body) d) w.in-Ok-handle.is performed)))
      | in-Err-Failed w ↦
          subst (λ r. IfOk r (λ step. MapSimulates (seen_of t x) (seen_of t y) (λ k. map_takes k p) step.packets step.notes)) (sym w.result-is)
          (subst (λ (s : ActorStep). MapSimulates (seen_of t x) (seen_of t y) (λ k. map_takes k p) s.packets s.notes) (sym w.of_streams-in-Err-Failed.ensures)
          (subst (λ ps. MapSimulates (seen_of t x) (seen_of t y) (λ k. map_takes k p) ps w.unsent.result.notes) (sym w.unsent.ensures.0)
          (took_broken t x y p up (sym (c.handle.ensures.replays up).replays) c.told.result (c.told.ensures ∙ (λ i. (memory_state (c.file.ensures.value i).disk).stop)) w.unsent.result.notes (w.unsent.ensures.1 ∙ shown)
          (subst (λ d. MapPerforms memory_state x y (map_rule (map_of x) p p.body) d) (w.in-Err-Failed.is ∙ ap Err w.in-Err-Failed.field-0-is) performed))))
      | in-Err-Memory w ↦
          subst (λ r. IfOk r (λ step. MapSimulates (seen_of t x) (seen_of t y) (λ k. map_takes k p) step.packets step.notes)) (sym w.result-is) tt
    ])

pub returns-clause-err : goal.returns-clause-err
returns-clause-err c =
    let t : ℕ = c.self.inside.moment in
    let x : MapWithFile MemDisk = c.self.inside.map in
    let y : MapWithFile MemDisk = c.handle.new.self in
    let up : x.file.stopped ≡ false = sym c.is_stopped.ensures ∙ c.if-is_stopped.false in
    let p : Packet = c.args.packet.now in
    let performed = c.handle.ensures.performed up in
    subst (λ (s : MapSeen). OnErr c.match-handle.result (seen_of t y ≡ s)) c.self.view_is
    (elim c.match-handle.branch [
      | in-Ok-handle w ↦ subst (λ r. OnErr r (seen_of t y ≡ seen_of t x)) (sym w.result-is) tt
      | in-Err-Failed w ↦ subst (λ r. OnErr r (seen_of t y ≡ seen_of t x)) (sym w.result-is) tt
      | in-Err-Memory w ↦
          subst (λ r. OnErr r (seen_of t y ≡ seen_of t x)) (sym w.result-is)
          (took_short t x y p up (subst (λ d. MapPerforms memory_state x y (map_rule (map_of x) p p.body) d) (w.in-Err-Memory.is ∙ ap Err w.in-Err-Memory.field-0-is) performed))
    ])

pub returns-clause-few : goal.returns-clause-few
returns-clause-few c =
    let x : MapWithFile MemDisk = c.self.inside.map in
    let p : Packet = c.args.packet.now in
    let shown : length c.in-Ok.notes ≤ 1 = subst (λ (ns : List Note). length ns ≤ 1) (sym c.in-Ok.ensures) (shown_few (map_of x) p p.body c.stands-stands.result) in
    elim c.match-handle.branch [
      | in-Ok-handle w ↦
          subst (λ r. IfOk r IsFew) (sym w.result-is)
          (subst IsFew (sym w.of_streams.ensures)
          (let few : AreFew w.in-Ok-handle.step.packets w.in-Ok-handle.step.notes = subst (λ d. IfOk d (λ step. AreFew step.packets step.notes)) w.in-Ok-handle.is c.handle.ensures.few in
          (few.0, few.1, omega arith)))
      | in-Err-Failed w ↦
          subst (λ r. IfOk r IsFew) (sym w.result-is)
          (subst IsFew (sym w.of_streams-in-Err-Failed.ensures)
          (omega (arith, ap length w.unsent.ensures.0), omega (arith, ap length w.unsent.ensures.1, shown), omega arith))
      | in-Err-Memory w ↦ subst (λ r. IfOk r IsFew) (sym w.result-is) tt
    ]
