-- The calls of the real manager, in the words of their answers.
use Rattle.std.proofs.Common.{◌≡◌, ◌≢◌, ◌⊎◌, ℕ, Bool, true, false, not, ◌&&◌, if◌then◌else◌, [], length, Option, Some, None, option_map, Result, Ok, Err, IfErr, refl, sym, ap, ◌∙◌, inl, inr, ⊎_elim, subst}
use Rattle.disk.specs.declared.device.DiskFault.{DiskFault}
use Rattle.disk.specs.declared.device.DiskFault.TheVariants.{Failed, Memory}
use Rattle.disk.specs.declared.memory.MemDisk.{MemDisk}
use Rattle.disk.specs.declared.memory.Stop.{Stop}
use Rattle.disk.specs.Memory.{memory_state}
use Rattle.wire.specs.declared.packet.Packet.{Packet}
use Rattle.wire.specs.declared.packet.Step.{Step}
use Rattle.wire.specs.declared.refusal.Refusal.{Refusal}
use Rattle.wire.specs.declared.refusal.Refusal.TheVariants as refusals
use Rattle.model_streams.specs.declared.extent.Extent.{Extent}
use Rattle.model_streams.specs.Maps.{entry_at}
use Rattle.model_streams.specs.Outcome.{silent}
use Rattle.model_streams.specs.Manager.{Catalog, decide_refusal, decide_rule, decided_if, is_there, least_told, manager_rule, reminders}
use Rattle.model_streams.specs.StreamSystem.{manager_decides, manager_performs, manager_takes, stands_in}
use Rattle.manager.specs.declared.fault.ManagerFault.{ManagerFault}
use Rattle.manager.specs.declared.fault.ManagerFault.TheVariants as faults
use Rattle.manager_state.specs.Table.{ManagerTableState, SameCatalog}
use Rattle.manager.specs.Manager.{ManagerState, ManagerIsReplay, ShowsCatalog, table_of}
use Rattle.manager.proofs.Decisions.{decided_notes}
use Rattle.manager.specs.Performs.{ManagerPerforms, as_rule, fault_of, sealing_at, sealing_notes}
use Rattle.world_steps.specs.ActorStep.{nothing, refusal_alone, stream_step}
use Rattle.world_manager.specs.Seen.{ManagerSimulates, ManagerSteps, seen_of, decision_refusal}
use Rattle.world_stops.specs.LastRecord.{shown_if, stands_told}
use Rattle.world_stops.proofs.LastRecord.{shown_none, told_stands}
use Rattle.world_manager.proofs.ManagerSimulation.{told_lists, manager_same, served_broken, served_ok, served_up}
use Rattle.world_manager.proofs.ManagerNotes.{rule_quiet}

-- ---- some catalog that a table says

abbrev catalog_of : ManagerTableState → Catalog
catalog_of t = record { nodes = t.nodes; target = t.target; count = length t.extents; stream = t.streams; extent = entry_at t.extents }

says : (t : ManagerTableState) → SameCatalog t (catalog_of t)
says t = record { nodes = refl; target = refl; count = refl; stream = λ range kind. refl; extent = λ e. refl }

-- ---- a packet

-- what `handle` says of a rule
abbrev pub Handled : ManagerState MemDisk → ManagerState MemDisk → Packet → Result Step DiskFault → Type 0
Handled x y p result = (b : Catalog) → ShowsCatalog x b → ManagerPerforms memory_state x y (manager_rule b p p.body) result

pub handled_ok : (p : Packet) (x y : ManagerState MemDisk) (s : Step) → x.file.stopped ≡ false → ManagerIsReplay x x.file.records → Handled x y p (Ok s) → ManagerSimulates (seen_of x) (seen_of y) (λ w. manager_takes w p) (stream_step s)
handled_ok p x y s up before h w m =
    served_up (seen_of x) (seen_of y) w (manager_performs w (manager_rule w.catalog p p.body)) (stream_step s) up m
    (served_ok (manager_rule w.catalog p p.body) x y w s up m (h w.catalog (told_lists x w.catalog before (m.running up))))

pub handled_broken : (p : Packet) (x y : ManagerState MemDisk) (fault : DiskFault) → fault ≡ Failed → x.file.stopped ≡ false → ManagerIsReplay x x.file.records → Handled x y p (Err fault) →
    ManagerSimulates (seen_of x) (seen_of y) (λ w. manager_takes w p) nothing
handled_broken p x y fault is up before h w m =
    let rule = manager_rule w.catalog p p.body in
    served_up (seen_of x) (seen_of y) w (manager_performs w rule) nothing up m
    (served_broken rule x y w nothing up m before refl (λ t. sym (shown_none (stands_in w.manager_cell) rule.notes (rule_quiet w.catalog p p.body)))
    (subst (λ (z : DiskFault). ManagerPerforms memory_state x y rule (Err z)) is (h w.catalog (told_lists x w.catalog before (m.running up)))))

pub handled_short : (p : Packet) (x y : ManagerState MemDisk) (fault : DiskFault) → fault ≡ Memory → Handled x y p (Err fault) → seen_of y ≡ seen_of x
handled_short p x y fault is h =
    let b = catalog_of (table_of x) in
    manager_same (manager_rule b p p.body) x y (subst (λ (z : DiskFault). ManagerPerforms memory_state x y (manager_rule b p p.body) (Err z)) is (h b (says (table_of x))))

-- ---- a decision

-- why a decision is refused, there are two reasons and no other
refusal_cases : (x : Option Extent) → (decide_refusal x ≡ None) ⊎ ((decide_refusal x ≡ Some refusals.NoSuchExtent) ⊎ (decide_refusal x ≡ Some refusals.NoReply))
refusal_cases None = inr (inl refl)
refusal_cases (Some x) = tested (not (is_there x.sealed) && not (is_there (least_told x)))
  where
    tested : (b : Bool) → ((if b then Some refusals.NoReply else None) ≡ None) ⊎ (((if b then Some refusals.NoReply else None) ≡ Some refusals.NoSuchExtent) ⊎ ((if b then Some refusals.NoReply else None) ≡ Some refusals.NoReply))
    tested true = inr (inr refl)
    tested false = inl refl

-- what `decide` says
pub record Decided (x y : ManagerState MemDisk) (e : ℕ) (result : Result Step ManagerFault) : Type 0 where
  pub refused : (r : Refusal) → decide_refusal (entry_at x.extents e) ≡ Some r → (y ≡ x) × (result ≡ Err (fault_of r))
  pub performed : decide_refusal (entry_at x.extents e) ≡ None → (b : Catalog) → ShowsCatalog x b → ManagerPerforms memory_state x y (decide_rule b e (b.extent e)) (as_rule result)
  pub taken : decide_refusal (entry_at x.extents e) ≡ None → IfErr result (λ f. (f ≢ faults.NoSuchExtent) × (f ≢ faults.NoReply))

rule_silent : (b : Catalog) (e : ℕ) (x : Option Extent) (r : Refusal) → decide_refusal x ≡ Some r → decide_rule b e x ≡ silent b
rule_silent b e None r is = refl
rule_silent b e (Some x) r is = cases (is_there x.sealed) (least_told x) is
  where
    cases : (c : Bool) (l : Option ℕ) → (if not c && not (is_there l) then Some refusals.NoReply else None) ≡ Some r →
        (if c then (record { after = b; written = None; packets = reminders b e x; notes = [] }) else decided_if b e x l) ≡ silent b
    cases true l is = absurd cc
    cases false None is = refl
    cases false (Some l) is = absurd cc

pub not_refused : (x y : ManagerState MemDisk) (e : ℕ) (s : Step) → Decided x y e (Ok s) → decide_refusal (entry_at x.extents e) ≡ None
not_refused x y e s h =
    ⊎_elim (λ n. n)
    (λ o. ⊎_elim (λ a. absurd (let q = (h.refused refusals.NoSuchExtent a).1 in cc)) (λ a. absurd (let q = (h.refused refusals.NoReply a).1 in cc)) o)
    (refusal_cases (entry_at x.extents e))

abbrev failed : ManagerFault → Result Step ManagerFault
failed f = Err f

failed_not_refused : (x y : ManagerState MemDisk) (e : ℕ) (f : ManagerFault) → f ≢ faults.NoSuchExtent → f ≢ faults.NoReply → Decided x y e (Err f) → decide_refusal (entry_at x.extents e) ≡ None
failed_not_refused x y e f a b h =
    ⊎_elim (λ n. n)
    (λ o. ⊎_elim (λ r. absurd (a (same_err (h.refused refusals.NoSuchExtent r).1))) (λ r. absurd (b (same_err (h.refused refusals.NoReply r).1))) o)
    (refusal_cases (entry_at x.extents e))
  where
    same_err : {g k : ManagerFault} → failed g ≡ Err k → g ≡ k
    same_err is = cc

-- a refusal is one of the two
refused_as : (x y : ManagerState MemDisk) (e : ℕ) (r : Refusal) (f : ManagerFault) → fault_of r ≡ f → (r ≡ refusals.NoSuchExtent) ⊎ (r ≡ refusals.NoReply) → Decided x y e (Err f) → decide_refusal (entry_at x.extents e) ≡ Some r
refused_as x y e r f is which h = ⊎_elim
    (λ n. absurd (let t = h.taken n in ⊎_elim (λ a. t.0 (sym is ∙ ap fault_of a)) (λ a. t.1 (sym is ∙ ap fault_of a)) which))
    (λ o. ⊎_elim
    (λ a. ⊎_elim (λ q. a ∙ ap Some (sym q)) (λ q. absurd (let z = (h.refused refusals.NoSuchExtent a).1 in let k = sym is ∙ ap fault_of q in cc)) which)
    (λ a. ⊎_elim (λ q. absurd (let z = (h.refused refusals.NoReply a).1 in let k = sym is ∙ ap fault_of q in cc)) (λ q. a ∙ ap Some (sym q)) which)
    o)
    (refusal_cases (entry_at x.extents e))

refused_in : (x : ManagerState MemDisk) (e : ℕ) (r : Option Refusal) → x.file.stopped ≡ false → decide_refusal (entry_at x.extents e) ≡ r → decision_refusal (seen_of x) e ≡ r
refused_in x e r up is = ap (λ (b : Bool). if b then None else decide_refusal (entry_at x.extents e)) up ∙ is

pub decided_ok : (e : ℕ) (x y : ManagerState MemDisk) (s : Step) → x.file.stopped ≡ false → ManagerIsReplay x x.file.records → Decided x y e (Ok s) → ManagerSimulates (seen_of x) (seen_of y) (λ w. manager_decides w e) (stream_step s)
decided_ok e x y s up before h w m =
    let rule = decide_rule w.catalog e (w.catalog.extent e) in
    served_up (seen_of x) (seen_of y) w (manager_performs w rule) (stream_step s) up m (served_ok rule x y w s up m (h.performed (not_refused x y e s h) w.catalog (told_lists x w.catalog before (m.running up))))

pub decided_fine : (e : ℕ) (x y : ManagerState MemDisk) (s : Step) → x.file.stopped ≡ false → Decided x y e (Ok s) → None ≡ decision_refusal (seen_of x) e
decided_fine e x y s up h = sym (refused_in x e None up (not_refused x y e s h))

-- a refused decision is none
refused_served : (e : ℕ) (x y : ManagerState MemDisk) (r : Refusal) → x.file.stopped ≡ false → decide_refusal (entry_at x.extents e) ≡ Some r → y ≡ x → ManagerSimulates (seen_of x) (seen_of y) (λ w. manager_decides w e) (refusal_alone r)
refused_served e x y r up is same w m =
    let rule : decide_rule w.catalog e (w.catalog.extent e) ≡ silent w.catalog = rule_silent w.catalog e (w.catalog.extent e) r (ap decide_refusal ((m.running up).extent e) ∙ is) in
    served_up (seen_of x) (seen_of y) w (manager_performs w (decide_rule w.catalog e (w.catalog.extent e))) (refusal_alone r) up m
    (subst (λ o. ManagerSteps (seen_of y) w (manager_performs w o) (refusal_alone r)) (sym rule)
    (subst (λ z. ManagerSteps (seen_of z) w (manager_performs w (silent w.catalog)) (refusal_alone r)) (sym same)
    (record {
      post = refl;
      notes = refl;
      manager = record { running = m.running; stopped = m.stopped; up = m.up; plan = m.plan };
      replica = refl;
      cell = refl;
      nodes = refl;
    })))

pub refused_ok : (e : ℕ) (x y : ManagerState MemDisk) (r : Refusal) (f g : ManagerFault) → f ≡ g → fault_of r ≡ g → (r ≡ refusals.NoSuchExtent) ⊎ (r ≡ refusals.NoReply) → x.file.stopped ≡ false → Decided x y e (Err f) →
    ManagerSimulates (seen_of x) (seen_of y) (λ w. manager_decides w e) (refusal_alone r)
refused_ok e x y r f g was is which up h =
    let why = refused_as x y e r f (is ∙ sym was) which h in
    refused_served e x y r up why (h.refused r why).0

pub refused_tells : (e : ℕ) (x y : ManagerState MemDisk) (r : Refusal) (f g : ManagerFault) → f ≡ g → fault_of r ≡ g → (r ≡ refusals.NoSuchExtent) ⊎ (r ≡ refusals.NoReply) → x.file.stopped ≡ false → Decided x y e (Err f) → Some r ≡ decision_refusal (seen_of x) e
refused_tells e x y r f g was is which up h = sym (refused_in x e (Some r) up (refused_as x y e r f (is ∙ sym was) which h))

pub decided_broken : (e : ℕ) (x y : ManagerState MemDisk) (s : Step) (f : ManagerFault) (told : Option Stop) → f ≡ faults.DiskFailed → x.file.stopped ≡ false → ManagerIsReplay x x.file.records →
    option_map {U = ℕ × Bool} (λ (z : Stop). (z.calls, z.keep)) told ≡ (memory_state x.file.disk).stop →
    s.packets ≡ [] → s.notes ≡ shown_if (stands_told told) (sealing_notes e (sealing_at (entry_at x.extents e))) → Decided x y e (Err f) →
    ManagerSimulates (seen_of x) (seen_of y) (λ w. manager_decides w e) (stream_step s)
decided_broken e x y s f told is up before plan sent shown h w m =
    let rule = decide_rule w.catalog e (w.catalog.extent e) in
    let why = failed_not_refused x y e f (λ a. let b = is in cc) (λ a. let b = is in cc) h in
    let same : rule.notes ≡ sealing_notes e (sealing_at (entry_at x.extents e)) =
    decided_notes w.catalog e (w.catalog.extent e) ∙ ap (λ (z : Option Extent). sealing_notes e (sealing_at z)) ((m.running up).extent e) in
    served_up (seen_of x) (seen_of y) w (manager_performs w rule) (stream_step s) up m
    (served_broken rule x y w (stream_step s) up m before sent
    (λ t. shown ∙ (λ i. shown_if (told_stands told w.manager_cell rule.written (plan ∙ m.plan up) t i) (sym same i)))
    (subst (λ (z : ManagerFault). ManagerPerforms memory_state x y rule (as_rule (Err z))) is (h.performed why w.catalog (told_lists x w.catalog before (m.running up)))))

pub failed_fine : (e : ℕ) (x y : ManagerState MemDisk) (f : ManagerFault) → f ≡ faults.DiskFailed → x.file.stopped ≡ false → Decided x y e (Err f) → None ≡ decision_refusal (seen_of x) e
failed_fine e x y f is up h = sym (refused_in x e None up (failed_not_refused x y e f (λ a. let b = is in cc) (λ a. let b = is in cc) h))

pub decided_short : (e : ℕ) (x y : ManagerState MemDisk) (f : ManagerFault) → f ≡ faults.Memory → Decided x y e (Err f) → seen_of y ≡ seen_of x
decided_short e x y f is h =
    let b = catalog_of (table_of x) in
    let why = failed_not_refused x y e f (λ a. let c = is in cc) (λ a. let c = is in cc) h in
    manager_same (decide_rule b e (b.extent e)) x y (subst (λ (z : ManagerFault). ManagerPerforms memory_state x y (decide_rule b e (b.extent e)) (as_rule (Err z))) is (h.performed why b (says (table_of x))))
