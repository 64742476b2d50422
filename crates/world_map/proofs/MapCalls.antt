-- What a call of the real map is of the cluster's map, refused or not.
use Rattle.std.proofs.Common.{◌≡◌, ◌≢◌, ℕ, suc, ◌^◌, Bool, true, false, not, nat_lt, ◌&&◌, if◌then◌else◌, List, [], Option, Some, None, option_map, Result, Ok, Err, IfErr, IfOk, OnOk, OnErr, refl, sym, ap, ◌∙◌, subst}
use Rattle.std.proofs.lemmas.Option.{same_Some}
use Rattle.disk.specs.declared.device.DiskFault.TheVariants.{Failed, Memory}
use Rattle.disk.specs.declared.memory.MemDisk.{MemDisk}
use Rattle.disk.specs.declared.memory.Stop.{Stop}
use Rattle.disk.specs.Memory.{memory_state}
use Rattle.wire.specs.declared.note.Note.{Note}
use Rattle.wire.specs.declared.packet.Packet.{Packet}
use Rattle.wire.specs.declared.packet.Step.{Step}
use Rattle.wire.specs.declared.refusal.Refusal.{Refusal}
use Rattle.wire.specs.declared.refusal.Refusal.TheVariants as refusals
use Rattle.model_streams.specs.Outcome.{Outcome}
use Rattle.model_streams.specs.StreamSystem.{stands_in}
use Rattle.model_streams.proofs.Tests.{if_elim}
use Rattle.model_partition.specs.declared.range_entry.RangeEntry.{RangeEntry}
use Rattle.model_partition.specs.Map.{MapState, range_at}
use Rattle.model_partition.specs.MapRules.{map_rule, is_other, is_holder, assign_fault, assign_rule, renew_fault, renew_rule}
use Rattle.model_partition.specs.Cluster.{Cluster, assigns, renews, map_performs, map_performs_if, map_takes}
use Rattle.pmap.specs.declared.fault.MapFault.{MapFault}
use Rattle.pmap.specs.declared.fault.MapFault.TheVariants as faults
use Rattle.pmap.specs.MapWithFile.{MapWithFile, map_of}
use Rattle.pmap.specs.Performs.{MapPerforms, as_rule, fault_of, is_failure}
use Rattle.world_steps.specs.ActorStep.{ActorStep}
use Rattle.world_stops.specs.LastRecord.{shown_if, stands_told}
use Rattle.world_stops.proofs.LastRecord.{shown_none, told_stands}
use Rattle.world_map.specs.Outcome.{packets_of, refusal_of}
use Rattle.world_map.specs.Seen.{MapMirrors, MapSimulates, MapSteps, assign_refusal, renew_refusal, seen_of}
use Rattle.world_map.proofs.MapSimulation.{IsReplayed, goes_up, rests_on, rule_broken, rule_done, rule_short, seen_up}

-- ---- why calls are refused

assign_told : (server now : ℕ) (o : Option RangeEntry) (r : Refusal) → assign_fault server now o ≡ Some r → refusal_of (Err (fault_of r)) ≡ Some r
assign_told server now None r is = subst (λ (x : Refusal). refusal_of (Err (fault_of x)) ≡ Some x) (same_Some refusals.NotOwner r is) refl
assign_told server now (Some e) r is = by_test (is_other e.holder server && nat_lt now e.until) is
  where
    by_test : (b : Bool) → (if b then Some refusals.LeaseHeld else None) ≡ Some r → refusal_of (Err (fault_of r)) ≡ Some r
    by_test true same = subst (λ (x : Refusal). refusal_of (Err (fault_of x)) ≡ Some x) (same_Some refusals.LeaseHeld r same) refl
    by_test false same = absurd cc

renew_told : (server : ℕ) (o : Option RangeEntry) (r : Refusal) → renew_fault server o ≡ Some r → refusal_of (Err (fault_of r)) ≡ Some r
renew_told server None r is = subst (λ (x : Refusal). refusal_of (Err (fault_of x)) ≡ Some x) (same_Some refusals.NotOwner r is) refl
renew_told server (Some e) r is = by_test (not (is_holder e.holder server)) is
  where
    by_test : (b : Bool) → (if b then Some refusals.NotOwner else None) ≡ Some r → refusal_of (Err (fault_of r)) ≡ Some r
    by_test true same = subst (λ (x : Refusal). refusal_of (Err (fault_of x)) ≡ Some x) (same_Some refusals.NotOwner r same) refl
    by_test false same = absurd cc

-- ---- a call that is refused for this reason, if for one

module _ (t : ℕ) (x y : MapWithFile MemDisk) (up : x.file.stopped ≡ false) (fault : Option Refusal) (o : Outcome MapState) (done : Result Step MapFault)
    (refused : (r : Refusal) → fault ≡ Some r → (y ≡ x) × (done ≡ Err (fault_of r))) (performed : fault ≡ None → MapPerforms memory_state x y o (as_rule done))
    (taken : fault ≡ None → IfErr done (λ e. is_failure e ≡ true)) where
  -- what it sends, and what is left of the cluster
  went : (c : Cluster) → MapMirrors (seen_of t x) c → IsReplayed x → o.notes ≡ [] → done ≢ Err faults.Memory → MapSteps (seen_of t y) c (map_performs_if c fault o) (packets_of done) []
  went c m before quiet some = by_fault fault refl
    where
      by_done : (d : Result Step MapFault) → done ≡ d → MapPerforms memory_state x y o (as_rule d) → IfErr d (λ e. is_failure e ≡ true) →
          MapSteps (seen_of t y) c (map_performs_if c None o) (packets_of d) []
      by_done (Ok step) is h taken = subst (λ ns. MapSteps (seen_of t y) c (map_performs c o) step.packets ns) (h.notes ∙ quiet) (rule_done t o x y c step up m h)
      by_done (Err faults.NotOwner) is h taken = absurd cc
      by_done (Err faults.LeaseHeld) is h taken = absurd cc
      by_done (Err faults.BadSplitKey) is h taken = absurd cc
      by_done (Err faults.NotAdjacent) is h taken = absurd cc
      by_done (Err faults.GenerationChanged) is h taken = absurd cc
      by_done (Err faults.DiskFailed) is h taken = rule_broken t o x y c [] up m before (λ b. sym (shown_none (stands_in c.map_cell) o.notes quiet)) h
      by_done (Err faults.Memory) is h taken = absurd (some is)

      by_fault : (f : Option Refusal) → fault ≡ f → MapSteps (seen_of t y) c (map_performs_if c f o) (packets_of done) []
      by_fault None is = by_done done refl (performed is) (taken is)
      by_fault (Some r) is =
          let (same, told) = refused r is in
          subst (λ (z : MapWithFile MemDisk). MapSteps (seen_of t z) c c (packets_of done) []) (sym same)
          (subst (λ (d : Result Step MapFault). MapSteps (seen_of t x) c c (packets_of d) []) (sym told) (rests_on (seen_of t x) c m))

  -- where no memory was left nothing has changed
  pub short : done ≡ Err faults.Memory → seen_of t y ≡ seen_of t x
  short none = by_fault fault refl
    where
      by_fault : (f : Option Refusal) → fault ≡ f → seen_of t y ≡ seen_of t x
      by_fault None is = rule_short t o x y up (subst (λ (d : Result Step MapFault). MapPerforms memory_state x y o (as_rule d)) none (performed is))
      by_fault (Some r) is = ap (seen_of t) (refused r is).0

  -- why it is refused
  told_as : ((r : Refusal) → fault ≡ Some r → refusal_of (Err (fault_of r)) ≡ Some r) → refusal_of done ≡ fault
  told_as told = by_fault fault refl
    where
      by_done : (d : Result Step MapFault) → IfErr d (λ e. is_failure e ≡ true) → refusal_of d ≡ None
      by_done (Ok step) t = refl
      by_done (Err faults.NotOwner) t = absurd cc
      by_done (Err faults.LeaseHeld) t = absurd cc
      by_done (Err faults.BadSplitKey) t = absurd cc
      by_done (Err faults.NotAdjacent) t = absurd cc
      by_done (Err faults.GenerationChanged) t = absurd cc
      by_done (Err faults.DiskFailed) t = refl
      by_done (Err faults.Memory) t = refl

      by_fault : (f : Option Refusal) → fault ≡ f → refusal_of done ≡ f
      by_fault None is = by_done done (taken is)
      by_fault (Some r) is = ap refusal_of (refused r is).1 ∙ told r is

-- ---- assignments

-- no call shows anything
assign_quiet : (m : MapState) (range server until : ℕ) (o : Option RangeEntry) → (assign_rule m range server until o).notes ≡ []
assign_quiet m range server until None = refl
assign_quiet m range server until (Some r) = if_elim (λ (o : Outcome MapState). o.notes ≡ []) (nat_lt (suc r.generation) (2 ^ 64)) _ _ (λ t. refl) (λ f. refl)

renew_quiet : (m : MapState) (range server until : ℕ) (o : Option RangeEntry) → (renew_rule m range server until o).notes ≡ []
renew_quiet m range server until None = refl
renew_quiet m range server until (Some r) = refl

module _ (x y : MapWithFile MemDisk) (range server now until : ℕ) (done : Result Step MapFault) (up : x.file.stopped ≡ false)
    (refused : (r : Refusal) → assign_fault server now (range_at x.ranges range) ≡ Some r → (y ≡ x) × (done ≡ Err (fault_of r)))
    (performed : assign_fault server now (range_at x.ranges range) ≡ None → MapPerforms memory_state x y (assign_rule (map_of x) range server until (range_at x.ranges range)) (as_rule done))
    (taken : assign_fault server now (range_at x.ranges range) ≡ None → IfErr done (λ e. is_failure e ≡ true)) where
  pub assign_went : IsReplayed x → done ≢ Err faults.Memory → (c : Cluster) → MapMirrors (seen_of now x) c → MapSteps (seen_of now y) c (assigns c range server until) (packets_of done) []
  assign_went before some c m =
      let is : c.map ≡ map_of x = m.map ∙ seen_up now x up in
      goes_up (seen_of now x) (seen_of now y) c _ (packets_of done) [] up m
      (subst (λ (k : MapState). MapSteps (seen_of now y) c (map_performs_if c (assign_fault server c.now (range_at k.ranges range)) (assign_rule k range server until (range_at k.ranges range))) (packets_of done) []) (sym is)
      (subst (λ (n : ℕ). MapSteps (seen_of now y) c (map_performs_if c (assign_fault server n (range_at x.ranges range)) (assign_rule (map_of x) range server until (range_at x.ranges range))) (packets_of done) []) (sym m.moment)
      (went now x y up (assign_fault server now (range_at x.ranges range)) (assign_rule (map_of x) range server until (range_at x.ranges range)) done refused performed taken c m before
      (assign_quiet (map_of x) range server until (range_at x.ranges range)) some)))

  pub assign_short : done ≡ Err faults.Memory → seen_of now y ≡ seen_of now x
  assign_short = short now x y up (assign_fault server now (range_at x.ranges range)) (assign_rule (map_of x) range server until (range_at x.ranges range)) done refused performed taken

  pub assign_refused : refusal_of done ≡ assign_refusal (seen_of now x) now range server
  assign_refused =
      told_as now x y up (assign_fault server now (range_at x.ranges range)) (assign_rule (map_of x) range server until (range_at x.ranges range)) done refused performed taken (assign_told server now (range_at x.ranges range))
      ∙ ap (λ (k : MapState). assign_fault server now (range_at k.ranges range)) (sym (seen_up now x up))
      ∙ ap (λ (b : Bool). if b then None else assign_fault server now (range_at (seen_of now x).map.ranges range)) (sym up)

-- ---- renewals

module _ (t : ℕ) (x y : MapWithFile MemDisk) (range server until : ℕ) (done : Result Step MapFault) (up : x.file.stopped ≡ false)
    (refused : (r : Refusal) → renew_fault server (range_at x.ranges range) ≡ Some r → (y ≡ x) × (done ≡ Err (fault_of r)))
    (performed : renew_fault server (range_at x.ranges range) ≡ None → MapPerforms memory_state x y (renew_rule (map_of x) range server until (range_at x.ranges range)) (as_rule done))
    (taken : renew_fault server (range_at x.ranges range) ≡ None → IfErr done (λ e. is_failure e ≡ true)) where
  pub renew_went : IsReplayed x → done ≢ Err faults.Memory → (c : Cluster) → MapMirrors (seen_of t x) c → MapSteps (seen_of t y) c (renews c range server until) (packets_of done) []
  renew_went before some c m =
      let is : c.map ≡ map_of x = m.map ∙ seen_up t x up in
      goes_up (seen_of t x) (seen_of t y) c _ (packets_of done) [] up m
      (subst (λ (k : MapState). MapSteps (seen_of t y) c (map_performs_if c (renew_fault server (range_at k.ranges range)) (renew_rule k range server until (range_at k.ranges range))) (packets_of done) []) (sym is)
      (went t x y up (renew_fault server (range_at x.ranges range)) (renew_rule (map_of x) range server until (range_at x.ranges range)) done refused performed taken c m before
      (renew_quiet (map_of x) range server until (range_at x.ranges range)) some))

  pub renew_short : done ≡ Err faults.Memory → seen_of t y ≡ seen_of t x
  renew_short = short t x y up (renew_fault server (range_at x.ranges range)) (renew_rule (map_of x) range server until (range_at x.ranges range)) done refused performed taken

  pub renew_refused : refusal_of done ≡ renew_refusal (seen_of t x) range server
  renew_refused =
      told_as t x y up (renew_fault server (range_at x.ranges range)) (renew_rule (map_of x) range server until (range_at x.ranges range)) done refused performed taken (renew_told server (range_at x.ranges range))
      ∙ ap (λ (k : MapState). renew_fault server (range_at k.ranges range)) (sym (seen_up t x up))
      ∙ ap (λ (b : Bool). if b then None else renew_fault server (range_at (seen_of t x).map.ranges range)) (sym up)

-- ---- packets

module _ (t : ℕ) (x y : MapWithFile MemDisk) (p : Packet) (up : x.file.stopped ≡ false) where
  abbrev rule : Outcome MapState
  rule = map_rule (map_of x) p p.body

  takes : (c : Cluster) (packets : List Packet) (notes : List Note) → MapMirrors (seen_of t x) c → MapSteps (seen_of t y) c (map_performs c rule) packets notes → MapSteps (seen_of t y) c (map_takes c p) packets notes
  takes c packets notes m h =
      goes_up (seen_of t x) (seen_of t y) c _ packets notes up m
      (subst (λ (k : MapState). MapSteps (seen_of t y) c (map_performs c (map_rule k p p.body)) packets notes) (sym (m.map ∙ seen_up t x up)) h)

  pub took : (step : Step) → MapPerforms memory_state x y rule (Ok step) → MapSimulates (seen_of t x) (seen_of t y) (λ c. map_takes c p) step.packets step.notes
  took step h = λ c m. takes c step.packets step.notes m (rule_done t rule x y c step up m h)

  -- where it stops in the record this is shown, which the disk's plan tells before
  pub took_broken : IsReplayed x → (told : Option Stop) → option_map {U = ℕ × Bool} (λ (s : Stop). (s.calls, s.keep)) told ≡ (memory_state x.file.disk).stop → (notes : List Note) → notes ≡ shown_if (stands_told told) rule.notes →
      MapPerforms memory_state x y rule (Err Failed) → MapSimulates (seen_of t x) (seen_of t y) (λ c. map_takes c p) [] notes
  took_broken before told plan notes shown h = λ c m.
      takes c [] notes m (rule_broken t rule x y c notes up m before (λ b. shown ∙ ap (λ s. shown_if s rule.notes) (told_stands told c.map_cell rule.written (plan ∙ m.plan up) b)) h)

  pub took_short : MapPerforms memory_state x y rule (Err Memory) → seen_of t y ≡ seen_of t x
  took_short h = rule_short t rule x y up h

-- ---- what is answered

pub if_packets : {E : Type 0} (r : Result ActorStep E) (P : List Packet → Type 0) (done : Result Step MapFault) → IfOk r (λ answer. answer.packets ≡ packets_of done) → OnOk r (done ≢ Err faults.Memory) →
    (done ≢ Err faults.Memory → P (packets_of done)) → IfOk r (λ answer. P answer.packets)
if_packets (Ok answer) P done is some h = subst P (sym is) (h some)
if_packets (Err e) P done is some h = tt

pub if_refusal : {E : Type 0} (r : Result ActorStep E) (done : Result Step MapFault) (why : Option Refusal) → IfOk r (λ answer. answer.refusal ≡ refusal_of done) → refusal_of done ≡ why →
    IfOk r (λ answer. answer.refusal ≡ why)
if_refusal (Ok answer) done why is h = is ∙ h
if_refusal (Err e) done why is h = tt

pub if_short : {A E P : Type 0} (r : Result A E) (done : Result Step MapFault) → OnErr r (done ≡ Err faults.Memory) → (done ≡ Err faults.Memory → P) → OnErr r P
if_short (Ok a) done none h = tt
if_short (Err e) done none h = h none
