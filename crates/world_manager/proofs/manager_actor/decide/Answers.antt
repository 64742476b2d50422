use Rattle.std.proofs.Common.{◌≡◌, refl, sym, ap, ◌∙◌, inl, inr}
use Rattle.disk.specs.Memory.{memory_state}
use Rattle.wire.specs.declared.refusal.Refusal.TheVariants as refusals
use Rattle.model_streams.specs.Maps.{entry_at}
use Rattle.manager.specs.declared.fault.ManagerFault.TheVariants as faults
use Rattle.manager.specs.Performs.{sealing_at, sealing_notes}
use Rattle.world_steps.specs.ActorStep.{ActorStep, nothing}
use Rattle.world_manager.specs.Seen.{seen_of}
use Rattle.world_stops.specs.LastRecord.{shown_if, stands_told}
use Rattle.world_manager.proofs.ManagerCalls.{decided_broken, decided_fine, decided_ok, decided_short, failed_fine, refused_ok, refused_tells}
use Rattle.world_manager.proofs.ManagerSimulation.{served_down}
use Rattle.world_manager.proofs.manager_actor.decide.Goals as goal

pub returns-then-is_stopped-clause-ok : goal.returns-then-is_stopped-clause-ok
returns-then-is_stopped-clause-ok c = rw c.silent.ensures (λ w m. served_down (seen_of c.args.manager.now) w _ nothing (sym c.is_stopped.ensures ∙ c.if-is_stopped.true) m refl refl)

pub returns-in-Ok-decide-clause-ok : goal.returns-in-Ok-decide-clause-ok
returns-in-Ok-decide-clause-ok c = rw c.of_streams.ensures
    (decided_ok c.args.extent c.args.manager.now c.decide.new.self c.in-Ok-decide.step (sym c.is_stopped.ensures ∙ c.if-is_stopped.false) c.in-Ok-decide.ensures.replays (record { refused = c.in-Ok-decide.ensures.refused; performed = c.in-Ok-decide.ensures.performed; taken = c.in-Ok-decide.ensures.taken }))

pub returns-in-Ok-decide-clause-refusal : goal.returns-in-Ok-decide-clause-refusal
returns-in-Ok-decide-clause-refusal c = ap (λ (s : ActorStep). s.refusal) c.of_streams.ensures ∙ decided_fine c.args.extent c.args.manager.now c.decide.new.self c.in-Ok-decide.step (sym c.is_stopped.ensures ∙ c.if-is_stopped.false) (record { refused = c.in-Ok-decide.ensures.refused; performed = c.in-Ok-decide.ensures.performed; taken = c.in-Ok-decide.ensures.taken })

pub returns-in-Err-NoSuchExtent-clause-ok : goal.returns-in-Err-NoSuchExtent-clause-ok
returns-in-Err-NoSuchExtent-clause-ok c = rw c.refused.ensures
    (refused_ok c.args.extent c.args.manager.now c.decide.new.self refusals.NoSuchExtent c.in-Err-NoSuchExtent.field-0 faults.NoSuchExtent c.in-Err-NoSuchExtent.field-0-is refl (inl refl) (sym c.is_stopped.ensures ∙ c.if-is_stopped.false) (record { refused = c.in-Err-NoSuchExtent.ensures.refused; performed = c.in-Err-NoSuchExtent.ensures.performed; taken = c.in-Err-NoSuchExtent.ensures.taken }))

pub returns-in-Err-NoSuchExtent-clause-refusal : goal.returns-in-Err-NoSuchExtent-clause-refusal
returns-in-Err-NoSuchExtent-clause-refusal c = ap (λ (s : ActorStep). s.refusal) c.refused.ensures
    ∙ refused_tells c.args.extent c.args.manager.now c.decide.new.self refusals.NoSuchExtent c.in-Err-NoSuchExtent.field-0 faults.NoSuchExtent c.in-Err-NoSuchExtent.field-0-is refl (inl refl) (sym c.is_stopped.ensures ∙ c.if-is_stopped.false) (record { refused = c.in-Err-NoSuchExtent.ensures.refused; performed = c.in-Err-NoSuchExtent.ensures.performed; taken = c.in-Err-NoSuchExtent.ensures.taken })

pub returns-in-Err-NoReply-clause-ok : goal.returns-in-Err-NoReply-clause-ok
returns-in-Err-NoReply-clause-ok c = rw c.refused-in-Err-NoReply.ensures
    (refused_ok c.args.extent c.args.manager.now c.decide.new.self refusals.NoReply c.in-Err-NoReply.field-0 faults.NoReply c.in-Err-NoReply.field-0-is refl (inr refl) (sym c.is_stopped.ensures ∙ c.if-is_stopped.false) (record { refused = c.in-Err-NoReply.ensures.refused; performed = c.in-Err-NoReply.ensures.performed; taken = c.in-Err-NoReply.ensures.taken }))

pub returns-in-Err-NoReply-clause-refusal : goal.returns-in-Err-NoReply-clause-refusal
returns-in-Err-NoReply-clause-refusal c = ap (λ (s : ActorStep). s.refusal) c.refused-in-Err-NoReply.ensures
    ∙ refused_tells c.args.extent c.args.manager.now c.decide.new.self refusals.NoReply c.in-Err-NoReply.field-0 faults.NoReply c.in-Err-NoReply.field-0-is refl (inr refl) (sym c.is_stopped.ensures ∙ c.if-is_stopped.false) (record { refused = c.in-Err-NoReply.ensures.refused; performed = c.in-Err-NoReply.ensures.performed; taken = c.in-Err-NoReply.ensures.taken })

pub returns-in-Err-DiskFailed-clause-ok : goal.returns-in-Err-DiskFailed-clause-ok
returns-in-Err-DiskFailed-clause-ok c =
    let shown : c.in-Ok.notes ≡ shown_if (stands_told c.told.result) (sealing_notes c.args.extent (sealing_at (entry_at c.args.manager.now.extents c.args.extent))) =
    c.in-Ok.ensures ∙ (λ i. shown_if (c.stands-stands.ensures i) (sealing_notes c.args.extent (c.sealing.ensures i))) in
    rw c.of_streams-in-Err-DiskFailed.ensures
    (decided_broken c.args.extent c.args.manager.now c.decide.new.self c.unsent.result c.in-Err-DiskFailed.field-0 c.told.result c.in-Err-DiskFailed.field-0-is (sym c.is_stopped.ensures ∙ c.if-is_stopped.false) c.in-Err-DiskFailed.ensures.replays
    (c.told.ensures ∙ (λ i. (memory_state (c.file.ensures.value i).disk).stop)) c.unsent.ensures.0 (c.unsent.ensures.1 ∙ shown) (record { refused = c.in-Err-DiskFailed.ensures.refused; performed = c.in-Err-DiskFailed.ensures.performed; taken = c.in-Err-DiskFailed.ensures.taken }))

pub returns-in-Err-DiskFailed-clause-refusal : goal.returns-in-Err-DiskFailed-clause-refusal
returns-in-Err-DiskFailed-clause-refusal c = ap (λ (s : ActorStep). s.refusal) c.of_streams-in-Err-DiskFailed.ensures
    ∙ failed_fine c.args.extent c.args.manager.now c.decide.new.self c.in-Err-DiskFailed.field-0 c.in-Err-DiskFailed.field-0-is (sym c.is_stopped.ensures ∙ c.if-is_stopped.false) (record { refused = c.in-Err-DiskFailed.ensures.refused; performed = c.in-Err-DiskFailed.ensures.performed; taken = c.in-Err-DiskFailed.ensures.taken })

pub returns-in-Err-Memory-clause-err : goal.returns-in-Err-Memory-clause-err
returns-in-Err-Memory-clause-err c = decided_short c.args.extent c.args.manager.now c.decide.new.self c.in-Err-Memory.field-0 c.in-Err-Memory.field-0-is (record { refused = c.in-Err-Memory.ensures.refused; performed = c.in-Err-Memory.ensures.performed; taken = c.in-Err-Memory.ensures.taken })
