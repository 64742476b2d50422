-- What a range that is loaded has read of its metadata and of its log, as the history of its view has it.
use Rattle.std.specs.Prelude.{◌≡◌, ◌⊎◌, ℕ, suc, ◌+◌, ◌<◌, ◌≤◌, Bool, true, false, List, [], ◌∷◌, length, map, Option, Some, None, slice_get, Contains}
use Rattle.wire.specs.declared.body.Body.{Body}
use Rattle.wire.specs.declared.body.Body.TheVariants as bodies
use Rattle.wire.specs.declared.body.ReadBody.{ReadBody}
use Rattle.wire.specs.declared.body.ReadBody.TheVariants as answers
use Rattle.wire.specs.declared.note.Note.{Note}
use Rattle.wire.specs.declared.note.Note.TheVariants.{Content, Seen}
use Rattle.wire.specs.declared.streams.StreamExtent.{StreamExtent}
use Rattle.wire.specs.declared.streams.StreamKind.TheVariants as kinds
use Rattle.wire.specs.declared.streams.StreamName.{StreamName}
use Rattle.replica.specs.Groups.{Group, text}
use Rattle.metadata.specs.declared.record.MetaItem.{MetaItem}
use Rattle.metadata.specs.declared.record.MetaItem.TheVariants.{Regions}
use Rattle.metadata.specs.declared.record.MetaRecord.{MetaRecord}
use Rattle.metadata.specs.declared.record.Region.{Region}
use Rattle.metadata.specs.Reading.{group_at}
use Rattle.client.specs.declared.job.Job.{Job}
use Rattle.client.specs.declared.job.Job.TheVariants as jobs
use Rattle.client.specs.Client.{ClientState, last_extent}
use Rattle.model_streams.specs.StreamSystem.{StreamSystem}
use Rattle.model_partition.specs.declared.stage.Stage.{Stage}
use Rattle.model_partition.specs.declared.stage.Stage.TheVariants as stages
use Rattle.model_partition.specs.Range.{RangeState, RangeOutcome}
use Rattle.model_histories.specs.ServerRun.{RangeHistory}
use Rattle.model_histories.specs.Story.{Copy}
use Rattle.model_histories.specs.StreamActions.{ExtentRead, StreamAction, first_start}
use Rattle.model_histories.specs.StreamMachine as machine
use Rattle.laws_loads.specs.RangeView.{RangeView, view_after_all}
use Rattle.laws_stream_machine.specs.Refinement.{Purpose, Sent, Reads, purpose_of, IsAt}
use Rattle.laws_stream_machine.proofs.ExtentSteps.{Sized}
use Rattle.laws_ranges.specs.Serves.{Side, metadata_of, log_of, is_live, known}

-- ---- what stands in a stream

abbrev pub groups_in : List (Copy Group) → List Group
groups_in copies = map (λ (c : Copy Group). c.group) copies

module _ (i : ℕ) (s : machine.MachineState Group) where
  -- what stood in an extent up to an end is told in one way
  abbrev pub StandsOnce : Type 0
  StandsOnce = (index end : ℕ) (stood other : List (Copy Group)) → machine.In (machine.Checked i index stood end) s.facts → machine.In (machine.Checked i index other end) s.facts →
      groups_in stood ≡ groups_in other

  -- what stands in an extent is one group behind the other, each as long as it is said to be, and ends before the next extent begins
  pub record IsSized : Type 0 where
    pub sealed : (index : ℕ) (y : machine.SealedExtent Group) → machine.shut_at index s.core.shut ≡ Some y →
        machine.Chain (machine.base index) y.copies y.end × Sized y.copies × (y.end ≤ machine.base (suc index))
    pub stood : (index end : ℕ) (copies : List (Copy Group)) → machine.In (machine.Checked i index copies end) s.facts →
        machine.Chain (machine.base index) copies end × Sized copies × (end ≤ machine.base (suc index))

-- ---- the job that is out

-- an extent is asked for as far as it is sealed, or as far as it was checked
abbrev pub IsUpTo : Bool → Option ℕ → Option ℕ → ℕ → Type 0
IsUpTo true sealed checked upto = sealed ≡ Some upto
IsUpTo false sealed checked upto = (sealed ≡ None) × (checked ≡ Some upto)

-- what is asked for is the extent at a position of those that the client knows
pub record ReadsAt (c : ClientState) (e upto : ℕ) (sealed : Bool) (position : ℕ) : Type 0 where
  pub known : StreamExtent
  pub at : slice_get c.extents position ≡ Some known
  pub extent : known.extent ≡ e
  pub far : IsUpTo sealed known.length c.checked upto

abbrev pub ReadsBy : ClientState → ℕ → Job → Type 0
ReadsBy c position (jobs.Reading e places upto sealed place q) = ReadsAt c e upto sealed position
ReadsBy c position job = Unit {0}

-- ---- what was read of a stream, the newest extent first

module _ (name : StreamName) (w : StreamSystem) (i : ℕ) (s : machine.MachineState Group) where
  -- the extent of an index, which is sealed with these groups
  pub record IsSealed (index : ℕ) (x : ExtentRead) : Type 0 where
    pub at : IsAt w name index x.extent
    pub index_is : x.index ≡ index
    pub shut : machine.SealedExtent Group
    pub is : machine.shut_at index s.core.shut ≡ Some shut
    pub same : x.groups ≡ groups_in shut.copies

  -- from the index of the first on
  abbrev pub AllSealed : ℕ → List ExtentRead → Type 0
  AllSealed from [] = Unit {0}
  AllSealed from (x ∷ older) = IsSealed (from + length older) x × AllSealed from older

  -- the extent of an index, which had these groups when this incarnation checked its end
  pub record HasStood (index found : ℕ) (x : ExtentRead) : Type 0 where
    pub at : IsAt w name index x.extent
    pub index_is : x.index ≡ index
    pub stood : List (Copy Group)
    pub fact : machine.In (machine.Checked i index stood (machine.base index + found)) s.facts
    pub same : x.groups ≡ groups_in stood

  -- All extents that a client knows from an index on are read. Each is sealed, or the last is open and was checked.
  pub data AllRead (from : ℕ) (c : ClientState) (reads : List ExtentRead) : Type 0 where
    WereSealed : (inside : c.base ≤ from) (live : is_live (last_extent c.extents) ≡ false) (count : from + length reads ≡ known c) (sealed : AllSealed from reads) → AllRead from c reads
    LastStood : (inside : c.base ≤ from) (x : ExtentRead) (older : List ExtentRead) (found : ℕ) (is : reads ≡ x ∷ older) (live : is_live (last_extent c.extents) ≡ true)
        (count : suc (from + length older) ≡ known c) (checked : c.checked ≡ Some found) (sealed : AllSealed from older) (stood : HasStood (from + length older) found x) → AllRead from c reads
    -- the index is behind the last extent, which is open and was checked
    Nothing : (inside : c.base ≤ from) (found : ℕ) (live : is_live (last_extent c.extents) ≡ true) (count : from ≡ known c) (checked : c.checked ≡ Some found) (none : reads ≡ []) → AllRead from c reads

  -- the extents from an index on below a position are read, and the one there is asked for
  pub record HasReadTo (from : ℕ) (c : ClientState) (reads : List ExtentRead) (position : ℕ) : Type 0 where
    pub inside : c.base ≤ from
    pub count : from + length reads ≡ c.base + position
    pub below : position < length c.extents
    pub sealed : AllSealed from reads
    pub job : ReadsBy c position c.job

-- ---- observations

-- an observation shows these groups as those of an extent
abbrev pub IsShown : List Note → ℕ → List Group → Type 0
IsShown notes e groups = (n : ℕ) × (Contains notes (Content e n groups) ⊎ Contains notes (Seen e n 0 (text groups)))

-- what was read of each extent is shown
abbrev pub AllShown : StreamSystem → List ExtentRead → Type 0
AllShown w [] = Unit {0}
AllShown w (x ∷ older) = IsShown w.notes x.extent x.groups × AllShown w older

module _ (name : StreamName) (w : StreamSystem) where
  abbrev pub ReadShows : Option Purpose → ReadBody → Type 0
  ReadShows (Some (Reads i index upto)) (answers.Groups q n groups) = (e : ℕ) → IsAt w name index e → IsShown w.notes e groups
  ReadShows purpose body = Unit {0}

  -- an observation shows the groups that an answer brings, as those of the extent that its request asks for
  abbrev pub Shows : List Sent → Body → Type 0
  Shows sent (bodies.Read (answers.Groups q n groups)) = ReadShows (purpose_of sent q) (answers.Groups q n groups)
  Shows sent body = Unit {0}

-- ---- what the metadata says

-- a record of this leaves one region of the log to be applied, where one was left
abbrev pub LeavesOneRegion : MetaItem → Type 0
LeavesOneRegion (Regions indexes regions) = ⊥
LeavesOneRegion item = Unit {0}

-- a group that spells a record spells one of such an item
abbrev pub SaysOneRegion : Group → Type 0
SaysOneRegion group = (r : MetaRecord) → group_at group ≡ Some r → LeavesOneRegion r.item

abbrev pub SayOneRegion : List Group → Type 0
SayOneRegion [] = Unit {0}
SayOneRegion (group ∷ groups) = SaysOneRegion group × SayOneRegion groups

abbrev pub AllSayOneRegion : List ExtentRead → Type 0
AllSayOneRegion [] = Unit {0}
AllSayOneRegion (x ∷ older) = SayOneRegion x.groups × AllSayOneRegion older

-- so does all that stands in the metadata
pub record HasOneRegion (i : ℕ) (s : machine.MachineState Group) : Type 0 where
  pub sealed : (index : ℕ) (y : machine.SealedExtent Group) → machine.shut_at index s.core.shut ≡ Some y → (c : Copy Group) → machine.In c y.copies → SaysOneRegion c.group
  pub stood : (index end : ℕ) (copies : List (Copy Group)) → machine.In (machine.Checked i index copies end) s.facts → (c : Copy Group) → machine.In c copies → SaysOneRegion c.group

abbrev pub IsSole : List Region → Type 0
IsSole regions = (region : Region) × (regions ≡ region ∷ [])

-- where all that was read says so, one region of the log is left to be applied
abbrev pub SaysSole : RangeHistory → RangeState → Type 0
SaysSole h r = AllSayOneRegion (h.reads kinds.Metadata) → IsSole r.said.regions

-- ---- a range

-- the index of the log's extent that the first region begins in
abbrev pub first_index : RangeState → ℕ
first_index r = (first_start r.said.regions).index

-- while nothing of the log is read, the regions are those that the metadata says
abbrev pub AreUnapplied : RangeHistory → RangeState → Type 0
AreUnapplied h r = h.reads kinds.Log ≡ [] → r.regions ≡ r.said.regions

module _ (range : ℕ) (w : StreamSystem) (i : ℕ) (m l : machine.MachineState Group) (h : RangeHistory) where
  -- nothing is read yet
  pub record HasReadNothing : Type 0 where
    pub metadata : h.reads kinds.Metadata ≡ []
    pub log : h.reads kinds.Log ≡ []

  -- the same, where the streams are opened
  pub record HasOpened (r : RangeState) : Type 0 where
    pub metadata : h.reads kinds.Metadata ≡ []
    pub log : h.reads kinds.Log ≡ []
    pub sole : SaysSole h r

  -- the metadata is read below a position, and nothing of the log
  pub record HasReadMetadataTo (r : RangeState) (position : ℕ) : Type 0 where
    pub metadata : HasReadTo (metadata_of range) w i m 0 r.metadata (h.reads kinds.Metadata) position
    pub log : h.reads kinds.Log ≡ []
    pub sole : SaysSole h r

  -- all of the metadata is read, and nothing of the log, which is to be read from where the metadata says
  pub record HasReadMetadata (r : RangeState) : Type 0 where
    pub metadata : AllRead (metadata_of range) w i m 0 r.metadata (h.reads kinds.Metadata)
    pub log : h.reads kinds.Log ≡ []
    pub regions : r.regions ≡ r.said.regions
    pub sole : SaysSole h r

  -- all of the metadata is read, and the log below a position
  pub record HasReadLogTo (r : RangeState) (position : ℕ) : Type 0 where
    pub metadata : AllRead (metadata_of range) w i m 0 r.metadata (h.reads kinds.Metadata)
    pub log : HasReadTo (log_of range) w i l (first_index r) r.log (h.reads kinds.Log) position
    pub shown : AllShown w (h.reads kinds.Log)
    pub sole : SaysSole h r
    pub unapplied : AreUnapplied h r

  -- all of both is read
  pub record HasReadAll (r : RangeState) : Type 0 where
    pub metadata : AllRead (metadata_of range) w i m 0 r.metadata (h.reads kinds.Metadata)
    pub log : AllRead (log_of range) w i l (first_index r) r.log (h.reads kinds.Log)
    pub shown : AllShown w (h.reads kinds.Log)
    pub sole : SaysSole h r
    pub unapplied : AreUnapplied h r

  abbrev pub HasReadAt : RangeState → Stage → Type 0
  HasReadAt r stages.Opening = HasReadNothing
  HasReadAt r (stages.Checking kinds.Metadata) = HasOpened r
  HasReadAt r (stages.Checking kinds.Log) = HasReadMetadata r
  HasReadAt r (stages.Checking kinds.RowData) = ⊥
  HasReadAt r (stages.Checking kinds.BlobData) = ⊥
  HasReadAt r (stages.Reading kinds.Metadata position) = HasReadMetadataTo r position
  HasReadAt r (stages.Reading kinds.Log position) = HasReadLogTo r position
  HasReadAt r (stages.Reading kinds.RowData position) = ⊥
  HasReadAt r (stages.Reading kinds.BlobData position) = ⊥
  HasReadAt r (stages.Indexing position) = HasReadAll r
  HasReadAt r stages.Confirming = HasReadAll r
  HasReadAt r stages.Serving = Unit {0}

  -- what a range has read of its metadata and its log is what the history has
  pub record HasRead (r : RangeState) : Type 0 where
    pub at : HasReadAt r r.stage

  abbrev pub HasReadIf : Option RangeState → Type 0
  HasReadIf None = Unit {0}
  HasReadIf (Some r) = HasRead r

-- what a rule leaves has read what its actions add to the history of a view
abbrev pub RuleReads : (ℕ → ℕ) → ℕ → StreamSystem → ℕ → Side → Side → RangeView → RangeOutcome → List StreamAction → Type 0
RuleReads generation range w i m l v o actions = HasReadIf range w i m.stand.state l.stand.state (view_after_all (generation i) v actions).history o.after

-- ---- what grows

-- what was read of a stream is never taken back: facts, sealed extents, and the list of the stream
pub record Grown (name : StreamName) (w v : StreamSystem) (s t : machine.MachineState Group) : Type 0 where
  pub facts : (f : machine.Fact Group) → machine.In f s.facts → machine.In f t.facts
  pub shut : (index : ℕ) (y : machine.SealedExtent Group) → machine.shut_at index s.core.shut ≡ Some y → machine.shut_at index t.core.shut ≡ Some y
  pub extents : (index e : ℕ) → IsAt w name index e → IsAt v name index e

-- the same of both streams of a range, and of what is observed
pub record BothGrown (range : ℕ) (w v : StreamSystem) (m n l k : machine.MachineState Group) : Type 0 where
  pub metadata : Grown (metadata_of range) w v m n
  pub log : Grown (log_of range) w v l k
  pub notes : (note : Note) → Contains w.notes note → Contains v.notes note
