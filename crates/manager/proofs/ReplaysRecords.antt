-- The table stays what the manager's records make of it.
use Rattle.std.proofs.Common.{◌≡◌, Bool, List, [], ◌∷◌, ◌++◌, Option, Result, Ok, Err, IfOk, OnOk, inl, sym, ap, ◌∙◌, subst, append-nil}
use Rattle.block_types.specs.declared.record.Record.{Record}
use Rattle.block_types.specs.declared.record.Record.TheVariants.{Manage}
use Rattle.disk.proofs.Made.{made_broken}
use Rattle.disk.proofs.Steps.{records_ok, records_short}
use Rattle.disk.specs.declared.device.DiskFault.{DiskFault}
use Rattle.disk.specs.declared.device.DiskFault.TheVariants.{Failed, Memory}
use Rattle.disk.specs.Disk.{DiskState}
use Rattle.disk.specs.Filed.{Filed}
use Rattle.disk.specs.Appends.{Records}
use Rattle.wire.specs.declared.packet.Step.{Step}
use Rattle.model_streams.specs.Bounds.{AreFew}
use Rattle.model_streams.specs.RecordBytes.{spelled}
use Rattle.model_streams.specs.Outcome.{Outcome}
use Rattle.model_streams.specs.Manager.{Catalog, forgotten_if}
use Rattle.manager_state.specs.Table.{ManagerTableState, ManagerTableValue, plain, SameCatalog, with_entry}
use Rattle.manager_state.specs.Replay.{TableIsReplay}
use Rattle.manager_state.proofs.ReplaysRecords.{entry_forgotten, length-forgotten, forget_replaced, replays-more}
use Rattle.manager_rules.specs.declared.plan.Change.{Change}
use Rattle.manager_rules.specs.declared.plan.Change.TheVariants.{Nothing, Write, Replace}
use Rattle.manager_rules.specs.declared.plan.Plan.{Plan}
use Rattle.manager_rules.specs.Plan.{changed_by, written_by, CanChange, IsReadAgain}
use Rattle.manager_rules.proofs.Planning.{Follows}
use Rattle.manager.specs.Manager.{MakesCatalog, AreOfManager, HoldsTable, state_of}
use Rattle.manager.specs.Performs.{listed, ManagerPerforms}
use Rattle.manager.specs.PlanPerformed.{PlanPerformed}

replay_after : (t : ManagerTableState) (rs : List Record) → TableIsReplay t rs → (c : Change) → CanChange t c → IsReadAgain c → TableIsReplay (changed_by t c) (rs ++ listed (written_by c))
replay_after t rs h Nothing can again = subst (TableIsReplay t) (sym (append-nil rs)) h
replay_after t rs h (Write r) can again = replays-more t rs h (Manage (spelled r)) r again can.1
replay_after t rs h (Replace e x) can again =
    subst (TableIsReplay (with_entry t e x)) (sym (append-nil rs))
    (record { catalog = h.catalog; replays = h.replays; shows = subst (λ (u : ManagerTableState). SameCatalog u h.catalog) (sym (forget_replaced t e x can)) h.shows; fits = h.fits })

replay_makes : (t : ManagerTableState) (rs : List Record) (b : Catalog) → TableIsReplay t rs → SameCatalog t b → MakesCatalog rs b
replay_makes t rs b h shows = record {
  catalog = h.catalog;
  replays = h.replays;
  nodes = h.shows.nodes ∙ sym shows.nodes;
  target = h.shows.target ∙ sym shows.target;
  count = h.shows.count ∙ length-forgotten t.extents ∙ sym shows.count;
  stream = λ range kind. h.shows.stream range kind ∙ sym (shows.stream range kind);
  extent = λ e. h.shows.extent e ∙ entry_forgotten t.extents e ∙ ap forgotten_if (sym (shows.extent e));
  fits = h.fits;
}

-- ---- a rule

pub performed : {D : Type 0} (state : D → DiskState) (t u : ManagerTableValue) (old new : Filed D) (plan : Plan) (o : Outcome Catalog) (w : Result Step DiskFault) →
    PlanPerformed state (plain t) (plain u) old new plan w → IsReadAgain plan.change → Follows (plain t) plan o → TableIsReplay (plain t) old.records → ManagerPerforms state (state_of t old) (state_of u new) o w
performed state t u old new plan o w done again rule replays = record {
  after = after w done.after;
  packets = packets w done.step;
  notes = notes w done.step;
  same = done.same;
  file = subst (λ (r : Option Record). Records state old new (listed r) w) (sym rule.written) done.file;
  stands = subst (λ (r : Option Record). MakesCatalog (old.records ++ listed r) o.after) (sym rule.written)
      (replay_makes (changed_by (plain t) plan.change) _ o.after (replay_after (plain t) old.records replays plan.change rule.can again) rule.after);
}
  where
    after : (v : Result Step DiskFault) → OnOk v (plain u ≡ changed_by (plain t) plan.change) → OnOk v (SameCatalog (plain u) o.after)
    after (Ok s) e = subst (λ (x : ManagerTableState). SameCatalog x o.after) (sym e) rule.after
    after (Err x) e = tt

    packets : (v : Result Step DiskFault) → IfOk v (λ s. s ≡ plan.step) → IfOk v (λ s. s.packets ≡ o.packets)
    packets (Ok s) e = ap (λ (x : Step). x.packets) e ∙ rule.packets
    packets (Err x) e = tt

    notes : (v : Result Step DiskFault) → IfOk v (λ s. s ≡ plan.step) → IfOk v (λ s. s.notes ≡ o.notes)
    notes (Ok s) e = ap (λ (x : Step). x.notes) e ∙ rule.notes
    notes (Err x) e = tt

-- where all records make it, there is a first one, and they fit
pub of_replay : {t : ManagerTableState} {rs : List Record} → TableIsReplay t rs → AreOfManager rs
of_replay {rs = []} all = absurd (let none = all.replays in cc)
of_replay {rs = r ∷ rs} all = (λ none. absurd cc, all.fits)

pub holding : {t : ManagerTableState} {stopped : Bool} {rs : List Record} → TableIsReplay t rs → HoldsTable t stopped rs
holding all = record { fit = of_replay all; made = inl all }

pub stays : {D : Type 0} (state : D → DiskState) (t u : ManagerTableState) (old new : Filed D) (plan : Plan) (w : Result Step DiskFault) →
    PlanPerformed state t u old new plan w → IsReadAgain plan.change → CanChange t plan.change → TableIsReplay t old.records → HoldsTable u new.stopped new.records
stays state t u old new plan (Ok s) done again can replays =
    holding (subst (λ (x : ManagerTableState). TableIsReplay x new.records) (sym done.after)
    (subst (TableIsReplay (changed_by t plan.change)) (sym (records_ok state old new (written_by plan.change) s done.file)) (replay_after t old.records replays plan.change can again)))
stays state t u old new plan (Err Memory) done again can replays =
    holding (subst (λ (x : ManagerTableState). TableIsReplay x new.records) (sym done.same) (subst (TableIsReplay t) (sym (records_short Step state old new (written_by plan.change) done.file)) replays))
stays state t u old new plan (Err Failed) done again can replays =
    made_broken (TableIsReplay u) AreOfManager Step state old new (written_by plan.change) done.file (subst (λ (x : ManagerTableState). TableIsReplay x old.records) (sym done.same) replays)
    (of_replay replays) (of_replay (replay_after t old.records replays plan.change can again))

pub step_few : (plan : Plan) (w : Result Step DiskFault) → AreFew plan.step.packets plan.step.notes → IfOk w (λ s. s ≡ plan.step) → IfOk w (λ s. AreFew s.packets s.notes)
step_few plan (Ok s) few e = subst (λ (x : Step). AreFew x.packets x.notes) (sym e) few
step_few plan (Err x) few e = tt
