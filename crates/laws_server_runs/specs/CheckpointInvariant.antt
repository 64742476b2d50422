-- What is held of the checkpoint of a range that is served, by what it waits for: what the run of the range has noted, what is merged
-- of older pages, what stands of its own pages and of its index, and its record that is out.
use Rattle.std.specs.Prelude.{◌≡◌, ◌⊎◌, ℕ, suc, ◌^◌, true, nat_lt, List, Option, Some, None}
use Rattle.wire.specs.declared.streams.StreamKind.TheVariants as kinds
use Rattle.client.specs.declared.job.Job.{Job}
use Rattle.client.specs.declared.job.Job.TheVariants as jobs
use Rattle.client.specs.Client.{ClientState}
use Rattle.memtable.specs.declared.cell.Place.{Place}
use Rattle.memtable.specs.Entries.{Entries}
use Rattle.metadata.specs.declared.record.KeyRange.{KeyRange}
use Rattle.metadata.specs.declared.record.MetaItem.{MetaItem}
use Rattle.metadata.specs.declared.record.MetaRecord.{MetaRecord}
use Rattle.metadata.specs.declared.record.MetaItem.TheVariants.{Checkpoint}
use Rattle.metadata.specs.Keys.{within}
use Rattle.metadata.specs.Record.{IsNext, IsPosition}
use Rattle.checkpoint_format.specs.Index.{index_group}
use Rattle.checkpoint_format.specs.Page.{pages_of}
use Rattle.checkpoint.specs.declared.installed_index.InstalledIndex.{InstalledIndex}
use Rattle.checkpoint.specs.Contents.{AreEntries}
use Rattle.checkpoint.specs.Merges.{no_merge, next_place}
use Rattle.checkpoint.specs.Pages.{AreFiled}
use Rattle.checkpoint.specs.PageGroups.{next_group, next_pages, page_group}
use Rattle.model_partition.specs.declared.checkpoint_job.CheckpointPhase.{CheckpointPhase}
use Rattle.model_partition.specs.declared.checkpoint_job.CheckpointPhase.TheVariants as checkpoints
use Rattle.model_partition.specs.declared.waiting.PlaceRead.{PlaceRead}
use Rattle.model_partition.specs.CheckpointStates.{CheckpointState}
use Rattle.model_partition.specs.Past.{Bytes}
use Rattle.model_partition.specs.Range.{RangeState}
use Rattle.model_histories.specs.ServedTables.{AllStand}
use Rattle.model_histories.specs.ServerRun.{place_number}
use Rattle.model_histories.specs.StreamActions.{PlacedBytes}
use Rattle.laws_loads.specs.MemoryLayers.{layer_in}
use Rattle.laws_loads.specs.RangeView.{RangeView, SplitStage, Free, Drains, Recording}
use Rattle.laws_tables.specs.Layers.{Layer, empty_layer}
use Rattle.laws_tables.specs.Runs.{NotedPosition, Serving, record_group}
use Rattle.laws_tables.specs.Through.{OutAppend}
use Rattle.laws_checkpoints.specs.CombinedLayers.{merged_with, installed_entries, written_entries}
use Rattle.laws_checkpoints.specs.IndexLayers.{IsWritten}
use Rattle.laws_checkpoints.specs.WritingPages.{WritesPages}

-- What tells of a checkpoint: the range's fixed entries, its keys and indexes, and the number of its next record; of its run the fixed
-- layer, what is noted and the record that is out; the event with which the last append to the metadata began; and the bytes that
-- appends were answered for.
pub record CheckpointParts : Type 0 where
  pub entries : Option Entries
  pub keys : KeyRange
  pub indexes : List InstalledIndex
  pub number : ℕ
  pub layer : Layer
  pub noted : Option NotedPosition
  pub record_out : Option (OutAppend MetaItem)
  pub append : ℕ
  pub answered : List PlacedBytes

-- the record that is out is that of a checkpoint, if it is not that of a split
abbrev pub out_beside : SplitStage → Option (OutAppend MetaItem) → Option (OutAppend MetaItem)
out_beside Free out = out
out_beside Drains out = out
out_beside (Recording split) out = None

abbrev pub parts_of : RangeView → Serving → RangeState → CheckpointParts
parts_of v s r =
    record {
      entries = r.fixed;
      keys = r.said.keys;
      indexes = r.indexes;
      number = r.said.next;
      layer = s.fixed;
      noted = s.noted;
      record_out = out_beside v.split s.record_out;
      append = v.history.append kinds.Metadata;
      answered = v.answered;
    }

-- there is no fixed layer, and nothing is noted
pub record HoldsNone (c : CheckpointParts) : Type 0 where
  pub entries : c.entries ≡ None
  pub layer : c.layer ≡ empty_layer
  pub noted : c.noted ≡ None
  pub record_out : c.record_out ≡ None

-- the item of a checkpoint's record
abbrev pub item_of : CheckpointState → Place → MetaItem
item_of job index = Checkpoint job.combine index job.position job.next

-- ---- what is read

-- the page that is read is the one that is to be merged next
abbrev pub ReadsNext : Option PlaceRead → Option CheckpointState → Type 0
ReadsNext reading None = Unit {0}
ReadsNext reading (Some job) = (read : PlaceRead) (place : Place) → reading ≡ Some read → next_place job.merge ≡ Some place → read.place ≡ place

-- ---- what is appended to row data

-- the group is out, or none is
abbrev pub Appends : ClientState → List (List ℕ) → Type 0
Appends c group = (c.job ≡ jobs.Idle) ⊎ (c.group ≡ group)

abbrev pub AppendsPhase : ClientState → CheckpointState → CheckpointPhase → Type 0
AppendsPhase c job checkpoints.Combining = c.job ≡ jobs.Idle
AppendsPhase c job checkpoints.Pages = Appends c (page_group (next_pages job.pages))
AppendsPhase c job checkpoints.Index = Appends c (index_group job.pages.index)
AppendsPhase c job (checkpoints.Record index) = c.job ≡ jobs.Idle
AppendsPhase c job (checkpoints.Trim before to_blob q) = c.job ≡ jobs.Idle

-- by what a checkpoint waits for
abbrev pub AppendsRows : ClientState → Option CheckpointState → Type 0
AppendsRows c None = c.job ≡ jobs.Idle
AppendsRows c (Some job) = AppendsPhase c job job.phase

-- ---- what is appended to the metadata

abbrev pub IsAppending : Job → Type 0
IsAppending (jobs.Sent e q) = Unit {0}
IsAppending (jobs.Closing e q) = Unit {0}
IsAppending (jobs.Growing last q) = Unit {0}
IsAppending job = ⊥

abbrev pub MetadataPhase : Job → CheckpointPhase → Type 0
MetadataPhase job (checkpoints.Record index) = Unit {0}
MetadataPhase job phase = job ≡ jobs.Idle

abbrev pub MetadataBeside : Job → SplitStage → Type 0
MetadataBeside job Free = job ≡ jobs.Idle
MetadataBeside job Drains = job ≡ jobs.Idle
MetadataBeside job (Recording split) = IsAppending job

-- what its client waits for, by the checkpoint or by the split
abbrev pub AppendsMetadata : Job → SplitStage → Option CheckpointState → Type 0
AppendsMetadata job split None = MetadataBeside job split
AppendsMetadata job split (Some checkpoint) = MetadataPhase job checkpoint.phase

-- a split's record is out; append: the event with which the last append to the metadata began; next: the number of its next record
pub record IsSplitOut (split : MetaRecord) (append : ℕ) (out : Option (OutAppend MetaItem)) (control : Option CheckpointState) (next : ℕ) : Type 0 where
  pub none : control ≡ None
  pub out_is : out ≡ Some (record { append = append; group = record_group split.number split.item })
  pub number : next ≡ split.number

abbrev pub StandsBeside : SplitStage → ℕ → Option (OutAppend MetaItem) → Option CheckpointState → ℕ → Type 0
StandsBeside Free append out control next = Unit {0}
StandsBeside Drains append out control next = control ≡ None
StandsBeside (Recording split) append out control next = IsSplitOut split append out control next

-- ---- what it holds

module _ (texts : ℕ → Bytes) where
  -- its position and its next number are noted, and the fixed layer is that of its run
  pub record HasNoted (c : CheckpointParts) (job : CheckpointState) : Type 0 where
    pub fixed : Entries
    pub entries : c.entries ≡ Some fixed
    pub are_entries : AreEntries fixed
    pub layer : AllStand texts c.answered → (key : Bytes) → within c.keys key ≡ true → layer_in texts fixed key ≡ c.layer key
    pub noted : c.noted ≡ Some (record { place = place_number job.position; next = job.next })
    pub position : IsPosition job.position
    pub number : IsNext job.next

  -- it merges the older pages: what was merged and what is left come to what all of them say together
  pub record Merges (c : CheckpointParts) (job : CheckpointState) : Type 0 where
    pub noted : HasNoted c job
    pub none : c.record_out ≡ None
    pub combine : job.combine ≡ true
    pub merged : merged_with texts c.keys job.merge.entries job.merge.left ≡ installed_entries texts c.keys c.indexes

  -- what its pages are written of
  abbrev pub entries_to_write : CheckpointParts → CheckpointState → Entries → Entries
  entries_to_write c job fixed = written_entries texts job.combine c.keys c.indexes fixed

  -- nothing is left to be merged, and its pages are written of the fixed layer, where it combines over what the older ones say
  pub record Writes (c : CheckpointParts) (job : CheckpointState) : Type 0 where
    pub noted : HasNoted c job
    pub are_written : AreEntries (entries_to_write c job noted.fixed)
    pub pages : AllStand texts c.answered → WritesPages texts (entries_to_write c job noted.fixed) job.pages
    pub merged : job.merge ≡ no_merge

  -- its index stands, and its record is out
  pub record HasRecordOut (c : CheckpointParts) (job : CheckpointState) (index : Place) : Type 0 where
    pub writes : Writes c job
    pub out : c.record_out ≡ Some (record { append = c.append; group = record_group c.number (item_of job index) })
    pub written : AllStand texts c.answered → IsWritten texts job.pages.index (entries_to_write c job writes.noted.fixed) index
    pub filed : AllStand texts c.answered → AreFiled job.pages.index.pages (pages_of (entries_to_write c job writes.noted.fixed))
    pub numbered : nat_lt (suc c.number) (2 ^ 64) ≡ true

  abbrev pub HoldsPhase : CheckpointParts → CheckpointState → CheckpointPhase → Type 0
  HoldsPhase c job checkpoints.Combining = Merges c job
  HoldsPhase c job checkpoints.Pages = Writes c job × (c.record_out ≡ None)
  HoldsPhase c job checkpoints.Index = Writes c job × (c.record_out ≡ None) × (next_group job.pages ≡ None)
  HoldsPhase c job (checkpoints.Record index) = HasRecordOut c job index
  HoldsPhase c job (checkpoints.Trim before to_blob q) = HoldsNone c × (job.merge ≡ no_merge)

  -- where none is under way, as where the Trim is out
  abbrev pub HoldsCheckpoint : CheckpointParts → Option CheckpointState → Type 0
  HoldsCheckpoint c None = HoldsNone c
  HoldsCheckpoint c (Some job) = HoldsPhase c job job.phase
