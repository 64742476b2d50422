-- The index that a record of the metadata names is laid within what was shown and answered, and so are the tables that a load makes of such
-- indexes.
use Rattle.std.proofs.Common.{◌≡◌, ℕ, Bool, true, false, List, [], ◌∷◌, length, map, not, ◌&&◌, Some, None, refl, sym, ap, ◌∙◌, subst, inl, inr}
use Rattle.std.specs.List.{AllByRecursion}
use Rattle.wire.specs.declared.streams.StreamKind.TheVariants as kinds
use Rattle.streams.specs.declared.table.Position.{Position}
use Rattle.memtable.specs.declared.cell.Place.{Place}
use Rattle.memtable.specs.Entries.{Entries, put_all}
use Rattle.metadata.specs.declared.record.IndexRange.{IndexRange}
use Rattle.metadata.specs.declared.record.KeyRange.{KeyRange}
use Rattle.metadata.specs.Fold.{first_metadata}
use Rattle.metadata.specs.Keys.{within}
use Rattle.checkpoint_format.specs.Index.{index_at}
use Rattle.checkpoint_format.specs.declared.index.Index.{Index}
use Rattle.checkpoint.specs.declared.installed_index.InstalledIndex.{InstalledIndex}
use Rattle.checkpoint.specs.Pages.{is_deleted, merged, combined, kept_within}
use Rattle.client.specs.declared.load.LoadPhase.{LoadPhase}
use Rattle.client.specs.declared.load.LoadPhase.TheVariants as phases
use Rattle.commitlog.specs.Replay.{replayed as replay}
use Rattle.wire.specs.declared.actor.ReqNo.{ReqNo}
use Rattle.model_partition.specs.CheckpointStates.{CheckpointState}
use Rattle.model_partition.specs.declared.checkpoint_job.CheckpointPhase.TheVariants as checkpoints
use Rattle.model_partition.specs.declared.shown_table.ShownTable.{ShownTable}
use Rattle.model_partition.specs.declared.stage.Stage.{Stage}
use Rattle.model_partition.specs.declared.stage.Stage.TheVariants as stages
use Rattle.model_histories.specs.IndexContents.{bytes_in, pages_in, index_in}
use Rattle.model_partition.specs.Loading.{Group}
use Rattle.model_histories.specs.Log.{line_shown}
use Rattle.model_partition.specs.Past.{Bytes}
use Rattle.model_partition.specs.Range.{RangeState, is_serving}
use Rattle.model_histories.specs.Renaming.{renamed_placed, decoded_record}
use Rattle.model_partition.specs.Servers.{entries_if}
use Rattle.model_histories.specs.ServedTables.{AllStand}
use Rattle.model_histories.specs.ServerRun.{place_number, placed_reads}
use Rattle.model_histories.specs.Story.{StreamEvent, Made, Showed, Story, event_at, KeepsOrder}
use Rattle.model_histories.specs.StreamActions.{StreamAction, Reads, Forms, Stands, Shows, Finds, Stores, PlacedBytes, ExtentRead}
use Rattle.laws_checkpoints.proofs.WrittenIndexes.{index_read, pages_say}
use Rattle.laws_checkpoints.specs.CombinedLayers.{written_entries}
use Rattle.laws_checkpoints.specs.IndexLayers.{IsWritten}
use Rattle.laws_checkpoints.specs.ShownTables.{AreInstalled}
use Rattle.laws_loads.proofs.Renaming.{made_at}
use Rattle.laws_loads.specs.RangeView.{RangeView, view_after, view_after_all, metadata_of}
use Rattle.laws_tables.proofs.Range.{newest, event_cases}
use Rattle.laws_tables.specs.Runs.{Run, Serving, first_beginning, record_group, said, held, meta_of}
use Rattle.laws_server_runs.specs.CheckpointInvariant.{HoldsPhase, HoldsCheckpoint, HasRecordOut, item_of, parts_of}
use Rattle.laws_server_runs.specs.NamedIndexes.{AreNamed}
use Rattle.laws_server_runs.specs.Places.{IsLaid, AreWithin, PagesWithin, IndexesWithin, placed_of, IndexLaid, TableLaid, JobWithin, RangeLaid, IsQuiet}
use Rattle.laws_server_runs.specs.RangeInvariant.{groups_read, IsRecord, IsCheckpointRecord, AreCheckpoints, ReadsLog, HasReadAll, PhaseIs, StageIs, RangeKept, StreamsKept, Serves}
use Rattle.laws_server_runs.proofs.Folding.{IsFoldOf, groups_folded}
use Rattle.laws_server_runs.proofs.HeldRecords.{record_begun}
use Rattle.laws_server_runs.proofs.LaidBytes.{Covers, entries_on, pages_on}
use Rattle.laws_server_runs.proofs.LaidLayers.{within_put, within_filter}
use Rattle.laws_server_runs.proofs.LoadedLine.{reads_groups, groups_renamed}
use Rattle.laws_server_runs.proofs.MetadataJobs.{some_out}
use Rattle.laws_server_runs.proofs.NamedIndexes.{named_by_load}
use Rattle.laws_server_runs.proofs.ServedNotes.{serves_of}

-- ---- records

record_on : (Old New : Place → Type 0) → ((place : Place) → Old place → New place) → (group : Group) → IsCheckpointRecord Old group → IsCheckpointRecord New group
record_on Old New on group c = record { number = c.number; combine = c.combine; index = c.index; position = c.position; next = c.next; spells = c.spells; fits = c.fits; holds = on c.index c.holds }

pub any_record_on : (Old New : Place → Type 0) → ((place : Place) → Old place → New place) → (group : Group) → IsRecord Old group → IsRecord New group
any_record_on Old New on group (inl c) = inl (record_on Old New on group c)
any_record_on Old New on group (inr other) = inr other

pub records_on : (Old New : Place → Type 0) → ((place : Place) → Old place → New place) → (story : Story Group) → AreCheckpoints Old story → AreCheckpoints New story
records_on Old New on story all a g group at = any_record_on Old New on group (all a g group at)

module _ (texts : ℕ → Bytes) where
  pub index_on : (old new : List PlacedBytes) → Covers old new → (place : Place) → IndexLaid texts old place → IndexLaid texts new place
  index_on old new on place laid index at = let l = laid index at in (pages_on old new on index.pages l.0, entries_on old new on (pages_in texts index.pages) l.1)

-- ---- actions that begin no append to the metadata

-- an event that forms nothing
not_made : (e : StreamEvent Group) (story : Story Group) (a g : ℕ) (group : Group) → (e ≡ Made g group → ⊥) → event_at (e ∷ story) a ≡ Some (Made g group) → event_at story a ≡ Some (Made g group)
not_made e story a g group other at = elim (event_cases Group e story a (Made g group) at) [
  | inl new ↦ absurd (other new.1)
  | inr old ↦ old
]

module _ (generation : ℕ) where
  -- what was formed of it was formed before
  pub quiet_made : (v : RangeView) (actions : List StreamAction) → IsQuiet actions → (a g : ℕ) (group : Group) →
      event_at (metadata_of (view_after_all generation v actions)) a ≡ Some (Made g group) → event_at (metadata_of v) a ≡ Some (Made g group)
  quiet_made v [] quiet a g group at = at
  quiet_made v (Reads kind read ∷ earlier) quiet a g group at = quiet_made v earlier quiet a g group at
  quiet_made v (Forms kinds.RowData new ∷ earlier) quiet a g group at = quiet_made v earlier quiet a g group at
  quiet_made v (Forms kinds.Log new ∷ earlier) quiet a g group at = quiet_made v earlier quiet a g group at
  quiet_made v (Forms kinds.Metadata new ∷ earlier) quiet a g group at = absurd quiet
  quiet_made v (Forms kinds.BlobData new ∷ earlier) quiet a g group at = quiet_made v earlier quiet a g group at
  quiet_made v (Stands kinds.Metadata extent place new ∷ earlier) quiet a g group at =
      quiet_made v earlier quiet a g group (not_made _ (metadata_of (view_after_all generation v earlier)) a g group (λ e. absurd cc) at)
  quiet_made v (Stands kinds.RowData extent place new ∷ earlier) quiet a g group at = quiet_made v earlier quiet a g group at
  quiet_made v (Stands kinds.Log extent place new ∷ earlier) quiet a g group at = quiet_made v earlier quiet a g group at
  quiet_made v (Stands kinds.BlobData extent place new ∷ earlier) quiet a g group at = quiet_made v earlier quiet a g group at
  quiet_made v (Shows start log_end metadata_end ∷ earlier) quiet a g group at =
      quiet_made v earlier quiet a g group (not_made _ (metadata_of (view_after_all generation v earlier)) a g group (λ e. absurd cc) at)
  quiet_made v (Finds found ∷ earlier) quiet a g group at = quiet_made v earlier quiet a g group at
  quiet_made v (Stores stored ∷ earlier) quiet a g group at = quiet_made v earlier quiet a g group at

-- ---- what installed indexes say together

module _ (texts : ℕ → Bytes) (placed : List PlacedBytes) where
  abbrev ContentsWithin : List InstalledIndex → Type 0
  ContentsWithin indexes = AllByRecursion (λ (x : InstalledIndex). AreWithin placed (pages_in texts x.index.pages)) indexes

  -- indexes that are installed from places which hold such
  installed_laid : (indexes : List InstalledIndex) (named : List IndexRange) → AreInstalled texts indexes named → AllByRecursion (λ (x : IndexRange). IndexLaid texts placed x.place) named →
      IndexesWithin placed indexes × ContentsWithin indexes
  installed_laid [] [] all laid = (tt, tt)
  installed_laid [] (n ∷ named) all laid = absurd all
  installed_laid (x ∷ indexes) [] all laid = absurd all
  installed_laid (x ∷ indexes) (n ∷ named) all laid =
      let one = laid.0 x.index (sym (ap (λ p. index_at (bytes_in texts p)) all.0.place) ∙ all.0.index) in
      let more = installed_laid indexes named all.1 laid.1 in
      ((one.0, more.0), (one.1, more.1))

  merged_within : (keys : KeyRange) (indexes : List InstalledIndex) → ContentsWithin indexes → AreWithin placed (merged keys (map (index_in texts) indexes))
  merged_within keys [] all = tt
  merged_within keys (x ∷ indexes) all =
      within_put placed (merged keys (map (index_in texts) indexes)) (kept_within x.keys keys (pages_in texts x.index.pages)) (merged_within keys indexes all.1)
      (within_filter placed (λ e. within x.keys e.0 && within keys e.0) (pages_in texts x.index.pages) all.0)

  -- what stays without deleted keys
  combined_within : (entries newer : Entries) → AreWithin placed entries → AreWithin placed newer → AreWithin placed (combined entries (Some newer))
  combined_within entries newer first second = within_filter placed (λ e. not (is_deleted e.1)) (put_all entries newer) (within_put placed entries newer first second)

  -- what the pages of a checkpoint are written of
  written_within : (combine : Bool) (keys : KeyRange) (indexes : List InstalledIndex) (fixed : Entries) → ContentsWithin indexes → AreWithin placed fixed →
      AreWithin placed (written_entries texts combine keys indexes fixed)
  written_within false keys indexes fixed contents layer = layer
  written_within true keys indexes fixed contents layer = combined_within (merged keys (map (index_in texts) indexes)) fixed (merged_within keys indexes contents) layer

-- ---- the index of a record

-- a range that loads has no checkpoint
pub serves_checkpoint : (texts : ℕ → Bytes) (run : Run) (v : RangeView) (r : RangeState) (job : CheckpointState) → r.control ≡ Some job → (stage : Stage) → StageIs texts run v r stage → is_serving stage ≡ true
serves_checkpoint texts run v r job is stages.Opening h = absurd (let z : None ≡ Some job = sym h.none ∙ is in cc)
serves_checkpoint texts run v r job is (stages.Checking kinds.Metadata) h = absurd (let z : None ≡ Some job = sym h.none ∙ is in cc)
serves_checkpoint texts run v r job is (stages.Checking kinds.Log) h = absurd (let z : None ≡ Some job = sym h.0.none ∙ is in cc)
serves_checkpoint texts run v r job is (stages.Checking kinds.RowData) h = absurd h
serves_checkpoint texts run v r job is (stages.Checking kinds.BlobData) h = absurd h
serves_checkpoint texts run v r job is (stages.Reading kinds.Metadata position) h = absurd (let z : None ≡ Some job = sym h.none ∙ is in cc)
serves_checkpoint texts run v r job is (stages.Reading kinds.Log position) h = absurd (let z : None ≡ Some job = sym h.0.none ∙ is in cc)
serves_checkpoint texts run v r job is (stages.Reading kinds.RowData position) h = absurd h
serves_checkpoint texts run v r job is (stages.Reading kinds.BlobData position) h = absurd h
serves_checkpoint texts run v r job is (stages.Indexing position) h = absurd (let z : None ≡ Some job = sym h.0.log.none ∙ is in cc)
serves_checkpoint texts run v r job is stages.Confirming h = absurd (let z : None ≡ Some job = sym h.log.none ∙ is in cc)
serves_checkpoint texts run v r job is stages.Serving h = refl

module _ (texts : ℕ → Bytes) (subject : ℕ) (run : Run) (v : RangeView) (r : RangeState) (kept : RangeKept texts subject run v r) (laid : RangeLaid subject v r) (streams : StreamsKept texts run v) (answered : AllStand texts v.answered) where
  abbrev g : ℕ
  g = r.load.generation

  abbrev holds : Serving
  holds = held first_beginning run g

  -- while a record is out, it is that of an index that is laid so, where those are that the metadata names
  pub record_laid : AreNamed (IndexLaid texts (placed_of v)) r.said.indexes → (job : CheckpointState) (index : Place) → r.control ≡ Some job → job.phase ≡ checkpoints.Record index → (h : ℕ) (group : Group) →
      event_at (metadata_of v) (v.history.append kinds.Metadata) ≡ Some (Made h group) → IsCheckpointRecord (IndexLaid texts (placed_of v)) group
  record_laid names job index is phase h group at = record {
    number = r.said.next;
    combine = job.combine;
    index = index;
    position = job.position;
    next = job.next;
    spells = spelled;
    fits = out.writes.noted.position;
    holds = index_laid;
  }
    where
      serves : Serves texts run v r
      serves = serves_of texts subject run v r (serves_checkpoint texts run v r job is r.stage kept.stage) kept

      out : HasRecordOut texts (parts_of v holds r) job index
      out = subst (HoldsPhase texts (parts_of v holds r) job) phase (subst (HoldsCheckpoint texts (parts_of v holds r)) is serves.matches.checkpoint)

      -- what the run tells of that event is what its group spells
      spelled : decoded_record group ≡ record_group r.said.next (item_of job index)
      spelled =
          let told : event_at (meta_of run) (v.history.append kinds.Metadata) ≡ Some (Made g (record_group r.said.next (item_of job index))) =
          record_begun run g (record { append = v.history.append kinds.Metadata; group = record_group r.said.next (item_of job index) }) (some_out v.split holds.record_out _ out.out) in
          let seen : event_at (meta_of run) (v.history.append kinds.Metadata) ≡ Some (Made h (decoded_record group)) =
          ap (λ z. event_at z (v.history.append kinds.Metadata)) streams.metadata ∙ made_at decoded_record (metadata_of v) (v.history.append kinds.Metadata) h group at in
          let both : Some (Made h (decoded_record group)) ≡ Some (Made g (record_group r.said.next (item_of job index))) = sym seen ∙ told in
          cc

      index_laid : IndexLaid texts (placed_of v) index
      index_laid other there =
          let fixed : Entries = out.writes.noted.fixed in
          let content : Entries = written_entries texts job.combine r.said.keys r.indexes fixed in
          let written : IsWritten texts job.pages.index content index = out.written answered in
          let same : Some job.pages.index ≡ Some other = sym (index_read texts job.pages.index content index written) ∙ there in
          let equal : job.pages.index ≡ other = cc in
          let pages : PagesWithin (placed_of v) job.pages.index.pages = subst (JobWithin (placed_of v)) is laid.checkpoint.pages in
          let layer : AreWithin (placed_of v) fixed = subst (λ fixed. AreWithin (placed_of v) (entries_if fixed)) out.writes.noted.entries laid.checkpoint.layer in
          let installed = installed_laid texts (placed_of v) r.indexes r.said.indexes serves.matches.installed names in
          let entries : AreWithin (placed_of v) (pages_in texts job.pages.index.pages) =
          subst (AreWithin (placed_of v)) (sym (pages_say texts job.pages.index.pages content written.entries_are written.pages))
          (written_within texts (placed_of v) job.combine r.said.keys r.indexes fixed installed.1 layer) in
          subst (λ (x : Index). PagesWithin (placed_of v) x.pages × AreWithin (placed_of v) (pages_in texts x.pages)) equal (pages, entries)

-- ---- a table that is loaded

module _ (texts : ℕ → Bytes) (placed : List PlacedBytes) where
  table_laid : (table : ShownTable) → IsLaid placed table.live → IndexesWithin placed table.indexes × ContentsWithin texts placed table.indexes → TableLaid texts placed table
  table_laid table live indexes = record {
    live = live;
    pages = indexes.0;
    entries = within_put placed (merged table.keys (map (index_in texts) table.indexes)) table.live (merged_within texts placed table.keys table.indexes indexes.1) live.1;
  }

-- a range that waits for its confirmation has read all
has_read : (texts : ℕ → Bytes) (run : Run) (v : RangeView) (r : RangeState) (stage : Stage) (phase : LoadPhase) (q : ReqNo) → phase ≡ phases.Confirming q → PhaseIs texts stage phase → StageIs texts run v r stage → HasReadAll texts v.history r
has_read texts run v r stages.Opening phase q is p h = absurd (let z : phases.Opening p.0 ≡ phases.Confirming q = sym p.1 ∙ is in cc)
has_read texts run v r (stages.Checking kind) phase q is p h = absurd (let z : phases.Opened ≡ phases.Confirming q = sym p ∙ is in cc)
has_read texts run v r (stages.Reading kind position) phase q is p h = absurd (let z : phases.Opened ≡ phases.Confirming q = sym p ∙ is in cc)
has_read texts run v r (stages.Indexing position) phase q is p h = absurd (let z : phases.Opened ≡ phases.Confirming q = sym p ∙ is in cc)
has_read texts run v r stages.Confirming phase q is p h = h
has_read texts run v r stages.Serving phase q is p h = absurd (let z : phases.Confirmed ≡ phases.Confirming q = sym p ∙ is in cc)

-- what the metadata says is the fold of the records that were read
said_read : (v : RangeView) (r : RangeState) → ReadsLog v.history r → r.said ≡ said first_beginning (line_shown (map (renamed_placed decoded_record) (placed_reads (v.history.reads kinds.Metadata))))
said_read v r h =
    let reads : List ExtentRead = v.history.reads kinds.Metadata in
    let is_fold : IsFoldOf first_metadata (replay [] (map decoded_record (groups_read reads))) r.said =
    groups_folded first_metadata (groups_read reads) [] first_metadata (record { says = refl; next = refl }) r.said h.said in
    is_fold.says ∙ ap (λ l. said first_beginning (replay [] l)) (sym (groups_renamed decoded_record (placed_reads reads) ∙ ap (map decoded_record) (reads_groups reads)))

module _ (texts : ℕ → Bytes) (subject : ℕ) (run : Run) (v : RangeView) (r : RangeState) (kept : RangeKept texts subject run v r) (start log_end metadata_end : Position) where
  -- the view with what the confirmed load shows
  abbrev shown : RangeView
  shown = view_after r.load.generation v (Shows start log_end metadata_end)

  abbrev Holds : Place → Type 0
  Holds place = IndexLaid texts (placed_of shown) place

  -- the table of a load that is confirmed
  pub confirmed_laid : KeepsOrder (metadata_of shown) → AreCheckpoints Holds (metadata_of shown) → (q : ReqNo) → r.load.phase ≡ phases.Confirming q → (table : ShownTable) → table.indexes ≡ r.indexes →
      IsLaid (placed_of shown) table.live → TableLaid texts (placed_of shown) table
  confirmed_laid order records q phase table indexes live =
      let all : HasReadAll texts v.history r = has_read texts run v r r.stage r.load.phase q phase kept.phase kept.stage in
      let e : StreamEvent Group = Showed r.load.generation 0 (place_number metadata_end) (placed_reads (v.history.reads kinds.Metadata)) in
      let names : AreNamed Holds r.said.indexes =
      named_by_load Holds (metadata_of shown) order records (length (metadata_of v)) r.load.generation 0 (place_number metadata_end) (placed_reads (v.history.reads kinds.Metadata))
      (newest Group e (metadata_of v)) r.said (said_read v r all.log) in
      table_laid texts (placed_of shown) table live
      (subst (λ (xs : List InstalledIndex). IndexesWithin (placed_of shown) xs × ContentsWithin texts (placed_of shown) xs) (sym indexes)
      (installed_laid texts (placed_of shown) r.indexes r.said.indexes all.installed names))
