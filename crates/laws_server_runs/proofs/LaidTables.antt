-- A step of all servers: the indexes that the metadata of each range names stay laid within what was shown and answered, and so are the tables
-- that the step shows as loaded.
use Rattle.std.proofs.Common.{◌≡◌, ℕ, ◌-◌, List, [], ◌∷◌, ◌++◌, Option, Some, None, slice_set, refl, sym, ap, ◌∙◌, subst, inl, inr}
use Rattle.std.proofs.lemmas.Bool.{cases_eq}
use Rattle.wire.specs.declared.streams.StreamKind.TheVariants as kinds
use Rattle.memtable.specs.declared.cell.Place.{Place}
use Rattle.checkpoint.specs.declared.installed_index.InstalledIndex.{InstalledIndex}
use Rattle.metadata.specs.Fold.{MetadataState}
use Rattle.model_streams.specs.Maps.{entry_at}
use Rattle.model_partition.specs.CheckpointStates.{CheckpointState}
use Rattle.model_partition.specs.declared.table_note.TableNote.{TableNote}
use Rattle.model_partition.specs.declared.table_note.TableNote.TheVariants as tables
use Rattle.model_partition.specs.declared.shown_table.ShownTable.{ShownTable}
use Rattle.model_histories.specs.IndexContents.{entries_in}
use Rattle.model_partition.specs.Loading.{Group}
use Rattle.model_partition.specs.Past.{Bytes}
use Rattle.model_partition.specs.Range.{RangeState, RangeOutcome}
use Rattle.model_partition.specs.Server.{ServerState, ServerOutcome, range_of, set_range, split_of}
use Rattle.model_partition.specs.declared.split_job.SplitJob.{SplitJob}
use Rattle.model_partition.specs.declared.server_context.ServerContext.{ServerContext}
use Rattle.wire.specs.declared.body.Body.{Body}
use Rattle.wire.specs.declared.packet.Packet.{Packet}
use Rattle.model_partition.specs.Servers.{ServerCell}
use Rattle.model_histories.specs.ServedTables.{AllStand}
use Rattle.model_histories.specs.Story.{Made, Story, event_at, KeepsOrder}
use Rattle.model_histories.specs.StreamActions.{StreamAction, Forms, Shows, PlacedBytes, SideAction, split_group, split_sides}
use Rattle.model_histories.specs.ServerRun.{ServerRun, RangeEffect, Does, Tells, with_effect, with_outcome, after_actions, after_sides, metadata_name}
use Rattle.laws_loads.proofs.Entries.{entry_set}
use Rattle.laws_loads.specs.RangeView.{RangeView, view_after, view_after_all, metadata_of}
use Rattle.laws_tables.proofs.Range.{newest, event_cases}
use Rattle.laws_server_runs.specs.NamedIndexes.{AreNamed}
use Rattle.laws_server_runs.specs.Places.{IsLaid, IndexesWithin, NotesWithin, placed_of, bytes_of, IndexLaid, TableLaid, TablesWithin, RangeLaid, IsRecording, FormsRecords, Quiet, OfRecord, IsConfirmed, TablesAre, RunLaid}
use Rattle.laws_server_runs.specs.ChildInvariant.{SplitHoldsIf, SplitsHold}
use Rattle.laws_server_runs.specs.RangeInvariant.{IsCheckpointRecord, IsRecord, AreCheckpoints, IsOfPages, StreamsKept}
use Rattle.laws_server_runs.specs.RunInvariant.{view_at, with_stage, HeldKept, Taken, RunBehind, IsKept}
use Rattle.laws_server_runs.specs.Turns.{IsStep, IsEffect, Own, None_done, OfOthers, Turn, Idles, Opens, Acts, RunStep, Keeps, Passes, Turns}
use Rattle.laws_server_runs.proofs.Actions.{other_test, actions_here, actions_beside, actions_longer, sides_longer}
use Rattle.laws_server_runs.proofs.HeldRecords.{named_by_server}
use Rattle.laws_server_runs.proofs.LaidBytes.{Covers, entries_on, laid_on, pages_on}
use Rattle.laws_server_runs.proofs.LaidLayers.{laid_front}
use Rattle.laws_server_runs.proofs.LaidRecords.{any_record_on, records_on, index_on, quiet_made, serves_checkpoint, record_laid, confirmed_laid}
use Rattle.laws_server_runs.proofs.LaidRuns.{run_covers}
use Rattle.laws_server_runs.proofs.LaidSplits.{laid_reads}
use Rattle.laws_server_runs.proofs.Others.{streams_same}
use Rattle.laws_server_runs.proofs.RangeLists.{left_here}
use Rattle.laws_server_runs.proofs.RunSteps.{IsAny, IsAnyPair}
use Rattle.laws_server_runs.proofs.RecordKinds.{split_no_index}
use Rattle.laws_server_runs.proofs.SideRecords.{sides_no_index, sides_made}
use Rattle.laws_server_runs.proofs.StepRules.{StepForms, OfRule, OfSplit, StepRuled, step_ruled, heard_notes}
use Rattle.laws_server_runs.proofs.ServedNotes.{serves_of}

-- ---- more bytes

module _ (texts : ℕ → Bytes) (old new : List PlacedBytes) (on : Covers old new) where
  indexes_on : (indexes : List InstalledIndex) → IndexesWithin old indexes → IndexesWithin new indexes
  indexes_on [] w = tt
  indexes_on (x ∷ indexes) w = (pages_on old new on x.index.pages w.0, indexes_on indexes w.1)

  table_on : (table : ShownTable) → TableLaid texts old table → TableLaid texts new table
  table_on table t = record { live = laid_on old new on table.live t.live; pages = indexes_on table.indexes t.pages; entries = entries_on old new on (entries_in texts table) t.entries }

module _ (texts : ℕ → Bytes) where
  pub tables_later : (old new : ℕ → List PlacedBytes) → ((k : ℕ) → Covers (old k) (new k)) → (notes : List TableNote) → TablesWithin texts old notes → TablesWithin texts new notes
  tables_later old new on [] w = tt
  tables_later old new on (tables.Began range generation number changes ∷ notes) w = tables_later old new on notes w
  tables_later old new on (tables.Done range generation number ∷ notes) w = tables_later old new on notes w
  tables_later old new on (tables.Got range generation key value ∷ notes) w = tables_later old new on notes w
  tables_later old new on (tables.Loaded range generation table next ∷ notes) w = (table_on texts (old range) (new range) (on range) table w.0, tables_later old new on notes w.1)

  pub tables_both : (placed : ℕ → List PlacedBytes) (xs ys : List TableNote) → TablesWithin texts placed xs → TablesWithin texts placed ys → TablesWithin texts placed (xs ++ ys)
  tables_both placed [] ys a b = b
  tables_both placed (tables.Began range generation number changes ∷ xs) ys a b = tables_both placed xs ys a b
  tables_both placed (tables.Done range generation number ∷ xs) ys a b = tables_both placed xs ys a b
  tables_both placed (tables.Got range generation key value ∷ xs) ys a b = tables_both placed xs ys a b
  tables_both placed (tables.Loaded range generation table next ∷ xs) ys a b = (a.0, tables_both placed xs ys a.1 b)

  -- observations of one range, each of whose tables is laid
  told_within : (k g : ℕ) (placed : ℕ → List PlacedBytes) (shown : List PlacedBytes) (Is : ShownTable → Type 0) → ((table : ShownTable) → Is table → IsLaid shown table.live → TableLaid texts (placed k) table) →
      (notes : List TableNote) → NotesWithin k g shown notes → TablesAre Is notes → TablesWithin texts placed notes
  told_within k g placed shown Is by [] within all = tt
  told_within k g placed shown Is by (tables.Began range generation number changes ∷ notes) within all = told_within k g placed shown Is by notes within.1 all
  told_within k g placed shown Is by (tables.Done range generation number ∷ notes) within all = told_within k g placed shown Is by notes within.1 all
  told_within k g placed shown Is by (tables.Got range generation key value ∷ notes) within all = told_within k g placed shown Is by notes within.1 all
  told_within k g placed shown Is by (tables.Loaded range generation table next ∷ notes) within all =
      (subst (λ n. TableLaid texts (placed n) table) (sym within.0.0) (by table all.0 within.0.2), told_within k g placed shown Is by notes within.1 all.1)

  -- ---- the indexes of a range

  -- each record of its metadata names one that is laid so
  abbrev pub RecordsLaid : ServerRun → ℕ → Type 0
  RecordsLaid x k = AreCheckpoints (IndexLaid texts (bytes_of x k)) (x.story (metadata_name k))

  pub records_later : (x y : ServerRun) (k : ℕ) → y.story (metadata_name k) ≡ x.story (metadata_name k) → Covers (bytes_of x k) (bytes_of y k) → RecordsLaid x k → RecordsLaid y k
  records_later x y k same on all =
      subst (λ (story : Story Group). AreCheckpoints (IndexLaid texts (bytes_of y k)) story) (sym same)
      (records_on (IndexLaid texts (bytes_of x k)) (IndexLaid texts (bytes_of y k)) (index_on texts (bytes_of x k) (bytes_of y k) on) (x.story (metadata_name k)) all)

  -- what is kept of a range before a step and after it, and what is premised of its streams
  pub record StepPremises (x y : ServerRun) (k : ℕ) : Type 0 where
    pub kept : IsKept texts k x
    pub order : KeepsOrder (x.story (metadata_name k))
    pub now : IsKept texts k y
    pub answered : AllStand texts (y.answered k)

  -- a record that names no index, whatever is so of those of others
  names_no_index : (Holds : Place → Type 0) (group : Group) → IsRecord (IsOfPages texts) group → (IsCheckpointRecord (IsOfPages texts) group → ⊥) → IsRecord Holds group
  names_no_index Holds group (inl c) none = absurd (none c)
  names_no_index Holds group (inr other) none = inr other

  module _ (x : ServerRun) (laid : RunLaid x) (holds : SplitsHold x.servers) where
    -- ---- a server takes a turn

    module _ (s : ℕ) (cell : ServerCell) (st : ServerState) (at : entry_at x.servers s ≡ Some cell) (is : cell.state ≡ Some st) where
      abbrev Next : RangeEffect → ServerOutcome → ServerRun
      Next e o = with_outcome (with_effect s x e) (record { servers = slice_set x.servers (s - 1) (record cell { state = Some o.after }); packets = o.packets; notes = o.notes })

      module _ (range : ℕ) (r : RangeState) (held : range_of st.ranges range ≡ Some r) (actions : List StreamAction) (o : RangeOutcome) (ruled : StepRuled range (view_at range x s) r actions o) (next : ServerState) (packets : List Packet)
          (left : next.ranges ≡ set_range st.ranges range o.after) where
        abbrev g : ℕ
        g = r.load.generation

        abbrev y : ServerRun
        y = Next (Does range g actions) (record { after = next; packets = packets; notes = o.notes })

        abbrev v : RangeView
        v = view_at range x s

        abbrev w : RangeView
        w = view_at range y s

        here : w ≡ view_after_all g v actions
        here = actions_here s range g x actions

        bytes : (k : ℕ) → Covers (bytes_of x k) (bytes_of y k)
        bytes k = run_covers x (after_actions s range g x actions) (actions_longer s range g x actions) k

        -- what the server has then
        there : entry_at y.servers s ≡ Some (record cell { state = Some next })
        there = entry_set x.servers s cell (record cell { state = Some next }) at

        found : range_of next.ranges range ≡ o.after
        found = ap (λ z. range_of z range) left ∙ left_here st.ranges range r o.after (laid.ascending s cell st at is) held

        -- ---- its own records

        module _ (laid_now : RunLaid y) (premises : StepPremises x y range) (all : RecordsLaid x range) where
          abbrev kept_now : RunBehind texts range premises.now.0 y
          kept_now = premises.now.1

          abbrev Now : Place → Type 0
          Now place = IndexLaid texts (bytes_of y range) place

          before : AreCheckpoints Now (metadata_of v)
          before = records_on (IndexLaid texts (bytes_of x range)) Now (index_on texts (bytes_of x range) (bytes_of y range) (bytes range)) (metadata_of v) all

          -- what the metadata named while the checkpoint was under way
          names_before : (job : CheckpointState) → r.control ≡ Some job → AreNamed Now r.said.indexes
          names_before job under_way =
              let kept : RunBehind texts range premises.kept.0 x = premises.kept.1 in
              let mine : HeldKept texts range kept.run v r (split_of st.splits range) = kept.ranges s cell st at is r held in
              let u : RangeView = with_stage v mine.split in
              named_by_server Now texts kept.run u r (streams_same texts kept.run (view_at range x 0) u refl refl kept.streams) premises.order before
              (serves_of texts range kept.run u r (serves_checkpoint texts kept.run u r job under_way r.stage mine.range.stage) mine.range)

          record_now : (group : Group) (earlier : List StreamAction) → actions ≡ Forms kinds.Metadata group ∷ earlier → (a : Option RangeState) → o.after ≡ a → IsRecording r a → IsCheckpointRecord Now group
          record_now group earlier done None e none = absurd none
          record_now group earlier done (Some z) e sends =
              let mine : range_of next.ranges range ≡ Some z = found ∙ e in
              let now : HeldKept texts range kept_now.run w z (split_of next.splits range) = kept_now.ranges s (record cell { state = Some next }) next there refl z mine in
              let v_now : RangeView = with_stage w now.split in
              let laid : RangeLaid range v_now z = laid_reads range w v_now z refl (λ place within. within) (laid_now.ranges s (record cell { state = Some next }) next there refl range z mine) in
              let streams : StreamsKept texts kept_now.run v_now = streams_same texts kept_now.run (view_at range y 0) v_now refl refl kept_now.streams in
              let same : w ≡ view_after g (view_after_all g v earlier) (Forms kinds.Metadata group) = here ∙ ap (view_after_all g v) done in
              let names : AreNamed Now z.said.indexes = subst (λ (m : MetadataState). AreNamed Now m.indexes) (sym sends.said) (names_before sends.before sends.under_way) in
              record_laid texts range kept_now.run v_now z now.range laid streams premises.answered names sends.job sends.index sends.control sends.phase g group
              (subst (λ (u : RangeView). event_at (metadata_of u) (u.history.append kinds.Metadata) ≡ Some (Made g group)) (sym same)
              (newest Group (Made g group) (metadata_of (view_after_all g v earlier))))

          after_forms : (done : List StreamAction) → actions ≡ done → FormsRecords r o.after done → AreCheckpoints Now (metadata_of (view_after_all g v done))
          after_forms done e (Quiet actions quiet) a h group at = before a h group (quiet_made g v done quiet a h group at)
          after_forms done e (OfRecord group earlier quiet recording) a h other at =
              elim (event_cases Group (Made g group) (metadata_of (view_after_all g v earlier)) a (Made h other) at) [
                | inl new ↦
                    (let made : Made g group ≡ Made h other = new.1 in
                    let same : group ≡ other = cc in
                    inl (subst (IsCheckpointRecord Now) same (record_now group earlier e o.after refl recording)))
                | inr old ↦ before a h other (quiet_made g v earlier quiet a h other old)
              ]

          -- that of a split names no index
          after_step : (done : List StreamAction) → actions ≡ done → StepForms r o.after done → AreCheckpoints Now (metadata_of (view_after_all g v done))
          after_step done e (OfRule own forms) a h other told = after_forms done e forms a h other told
          after_step done e (OfSplit job earlier quiet) a h other told =
              elim (event_cases Group (Made g (split_group job)) (metadata_of (view_after_all g v earlier)) a (Made h other) told) [
                | inl new ↦
                    (let made : Made g (split_group job) ≡ Made h other = new.1 in
                    let same : split_group job ≡ other = cc in
                    let stands : IsRecord (IsOfPages texts) other =
                    kept_now.streams.records a h other (subst (λ (u : RangeView). event_at (metadata_of u) a ≡ Some (Made h other)) (sym (here ∙ ap (view_after_all g v) e)) told) in
                    names_no_index Now other stands (λ c. split_no_index (IsOfPages texts) job (subst (IsCheckpointRecord (IsOfPages texts)) (sym same) c)))
                | inr old ↦ before a h other (quiet_made g v earlier quiet a h other old)
              ]

          acts_records : RecordsLaid y range
          acts_records = subst (λ (u : RangeView). AreCheckpoints Now (metadata_of u)) (sym here) (after_step actions refl ruled.forms)

        -- ---- what it shows

        module _ (taken : Taken) (kept : RunBehind texts range taken x) (order : KeepsOrder (y.story (metadata_name range))) (all : RecordsLaid y range) where
          table_now : (table : ShownTable) → IsConfirmed r actions table → IsLaid (view_after_all g v actions).shown table.live → TableLaid texts (bytes_of y range) table
          table_now table c live =
              let same : w ≡ view_after g v (Shows c.start c.log_end c.metadata_end) = here ∙ ap (view_after_all g v) c.shows in
              let u : RangeView = view_after g v (Shows c.start c.log_end c.metadata_end) in
              let shown : IsLaid u.shown table.live = subst (λ (done : List StreamAction). IsLaid (view_after_all g v done).shown table.live) c.shows live in
              subst (λ (z : RangeView). TableLaid texts (placed_of z) table) (sym same)
              (confirmed_laid texts range kept.run (with_stage v (kept.ranges s cell st at is r held).split) r (kept.ranges s cell st at is r held).range c.start c.log_end c.metadata_end
              (subst (λ (z : RangeView). KeepsOrder (metadata_of z)) same order) (subst (λ (z : RangeView). AreCheckpoints (IndexLaid texts (placed_of z)) (metadata_of z)) same all)
              c.request c.phase table c.indexes (laid_front u.answered u.shown table.live shown))

          acts_tables : TablesWithin texts (bytes_of y) o.notes
          acts_tables = told_within range g (bytes_of y) (view_after_all g v actions).shown (IsConfirmed r actions) table_now o.notes ruled.step.notes ruled.tables

        -- ---- any range

        pub any_records : RunLaid y → (k : ℕ) → StepPremises x y k → RecordsLaid x k → RecordsLaid y k
        any_records laid_now k p all = elim (cases_eq k range) [
          | inl same ↦
              subst (λ n. StepPremises x y n → RecordsLaid x n → RecordsLaid y n) (sym same) (λ q l. acts_records laid_now q l) p all
          | inr other ↦ records_later x y k (actions_beside s range g (metadata_name k) (other_test k range other) x actions) (bytes k) all
        ]

      -- its split
      of_job : (range : ℕ) (r : RangeState) → range_of st.ranges range ≡ Some r → (job : Option SplitJob) → split_of st.splits range ≡ job → SplitHoldsIf (Some r) job
      of_job range r held None split = tt
      of_job range r held (Some job) split = holds s cell st at is range r job held split

      ruled_by : (range : ℕ) (r : RangeState) → range_of st.ranges range ≡ Some r → (job : Option SplitJob) → split_of st.splits range ≡ job → (actions : List StreamAction) (o : RangeOutcome) (later : Option SplitJob) → IsStep IsAnyPair r job actions o later →
          StepRuled range (view_at range x s) r actions o
      ruled_by range r held job split actions o later step = step_ruled range (view_at range x s) r (laid.ranges s cell st at is range r held) job (of_job range r held job split) actions o later step

      -- the two ranges that a split makes
      sides_records : (r : RangeState) (job : SplitJob) (d : ServerContext) (body : Body) (o : ServerOutcome) (k : ℕ) → StepPremises x (Next (Tells job.generation (split_sides d r job body)) o) k → RecordsLaid x k →
          RecordsLaid (Next (Tells job.generation (split_sides d r job body)) o) k
      sides_records r job d body o k premises all a h group made =
          let sides : List SideAction = split_sides d r job body in
          let after : ServerRun = after_sides s job.generation x sides in
          let Now : Place → Type 0 = λ place. IndexLaid texts (bytes_of after k) place in
          elim (sides_made (IsOfPages texts) s job.generation k x sides (sides_no_index (IsOfPages texts) d r job body) a h group made) [
            | inl old ↦ any_record_on (IndexLaid texts (bytes_of x k)) Now (index_on texts (bytes_of x k) (bytes_of after k) (run_covers x after (sides_longer s job.generation x sides) k)) group (all a h group old)
            | inr none ↦ names_no_index Now group (premises.now.1.streams.records a h group made) none
          ]

      effect_records : (range : ℕ) (r : RangeState) (held : range_of st.ranges range ≡ Some r) (job : Option SplitJob) → split_of st.splits range ≡ job → (e : RangeEffect) (o : RangeOutcome) (later : Option SplitJob) → IsEffect IsAnyPair range r job e o later →
          (next : ServerState) (packets : List Packet) → next.ranges ≡ set_range st.ranges range o.after → RunLaid (Next e (record { after = next; packets = packets; notes = o.notes })) →
          (k : ℕ) → StepPremises x (Next e (record { after = next; packets = packets; notes = o.notes })) k → RecordsLaid x k → RecordsLaid (Next e (record { after = next; packets = packets; notes = o.notes })) k
      effect_records range r held job split e o later (Own own actions after left_job step unheard) next packets left laid_now k premises all =
          any_records range r held actions o (ruled_by range r held job split actions o later step) next packets left laid_now k premises all
      effect_records range r held job split e o later (None_done own after left_job step unheard) next packets left laid_now k premises all =
          any_records range r held [] o (ruled_by range r held job split [] o later step) next packets left laid_now k premises all
      effect_records range r held job split e o later (OfOthers splitting d body after left_job step heard) next packets left laid_now k premises all =
          sides_records r splitting d body (record { after = next; packets = packets; notes = o.notes }) k premises all

      effect_tables : (range : ℕ) (r : RangeState) (held : range_of st.ranges range ≡ Some r) (job : Option SplitJob) → split_of st.splits range ≡ job → (e : RangeEffect) (o : RangeOutcome) (later : Option SplitJob) → IsEffect IsAnyPair range r job e o later →
          (next : ServerState) (packets : List Packet) → next.ranges ≡ set_range st.ranges range o.after → IsKept texts range x → KeepsOrder ((Next e (record { after = next; packets = packets; notes = o.notes })).story (metadata_name range)) →
          RecordsLaid (Next e (record { after = next; packets = packets; notes = o.notes })) range → TablesWithin texts (bytes_of (Next e (record { after = next; packets = packets; notes = o.notes }))) o.notes
      effect_tables range r held job split e o later (Own own actions after left_job step unheard) next packets left kept order all =
          acts_tables range r held actions o (ruled_by range r held job split actions o later step) next packets left kept.0 kept.1 order all
      effect_tables range r held job split e o later (None_done own after left_job step unheard) next packets left kept order all =
          acts_tables range r held [] o (ruled_by range r held job split [] o later step) next packets left kept.0 kept.1 order all
      effect_tables range r held job split e o later (OfOthers splitting d body after left_job step heard) next packets left kept order all =
          subst (λ (notes : List TableNote). TablesWithin texts (bytes_of (Next e (record { after = next; packets = packets; notes = o.notes }))) notes) (sym (heard_notes r (Some splitting) [] o later d body step heard)) tt

      turn_records : (e : RangeEffect) (o : ServerOutcome) → Turn IsAny IsAnyPair st e o → RunLaid (Next e o) → (k : ℕ) → StepPremises x (Next e o) k → RecordsLaid x k → RecordsLaid (Next e o) k
      turn_records e o (Idles next packets same splits) laid_now k premises all = all
      turn_records e o (Opens range assigned d generation until next packets new splits) laid_now k premises all = all
      turn_records e o (Acts range r held effect ro later is_effect next packets left splits) laid_now k premises all =
          effect_records range r held (split_of st.splits range) refl effect ro later is_effect next packets left laid_now k premises all

      turn_tables : (e : RangeEffect) (o : ServerOutcome) → Turn IsAny IsAnyPair st e o → ((k : ℕ) → IsKept texts k x) → ((k : ℕ) → KeepsOrder ((Next e o).story (metadata_name k))) → ((k : ℕ) → RecordsLaid (Next e o) k) →
          TablesWithin texts (bytes_of (Next e o)) o.notes
      turn_tables e o (Idles next packets same splits) kept order all = tt
      turn_tables e o (Opens range assigned d generation until next packets new splits) kept order all = tt
      turn_tables e o (Acts range r held effect ro later is_effect next packets left splits) kept order all =
          effect_tables range r held (split_of st.splits range) refl effect ro later is_effect next packets left (kept range) (order range) (all range)

    -- ---- a step of all

    pub step_records : (notes : List TableNote) (y : ServerRun) → RunStep IsAny IsAnyPair x notes y → RunLaid y → (k : ℕ) → StepPremises x y k → RecordsLaid x k → RecordsLaid y k
    step_records notes y (Keeps servers packets like) laid_now k premises all = all
    step_records notes y (Passes servers like) laid_now k premises all = all
    step_records notes y (Turns s cell st at is e o turn) laid_now k premises all = turn_records s cell st at is e o turn laid_now k premises all

    pub step_tables : (notes : List TableNote) (y : ServerRun) → RunStep IsAny IsAnyPair x notes y → ((k : ℕ) → IsKept texts k x) → ((k : ℕ) → KeepsOrder (y.story (metadata_name k))) → ((k : ℕ) → RecordsLaid y k) →
        TablesWithin texts (bytes_of y) notes
    step_tables notes y (Keeps servers packets like) kept order all = tt
    step_tables notes y (Passes servers like) kept order all = tt
    step_tables notes y (Turns s cell st at is e o turn) kept order all = turn_tables s cell st at is e o turn kept order all
