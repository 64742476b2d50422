-- The load of a range: its metadata is read, then its log from where that says, and then its indexes.
use Rattle.std.proofs.Common.{◌≡◌, ℕ, suc, ◌+◌, ◌-◌, ◌<◌, ◌≤◌, List, [], ◌∷◌, length, Bool, true, false, not, ◌||◌, ◌&&◌, Option, Some, None, is_some, nat_lt, refl, sym, ap, ◌∙◌, subst, arith, if◌then◌else◌}
use Rattle.std.proofs.lemmas.Bool.{ltb-true, ltb-false}
use Rattle.wire.specs.declared.streams.StreamExtent.{StreamExtent}
use Rattle.wire.specs.declared.streams.StreamLists.{StreamLists}
use Rattle.wire.specs.declared.streams.StreamKind.TheVariants as kinds
use Rattle.block_types.specs.declared.record.Nodes.{Nodes}
use Rattle.checkpoint_format.specs.declared.index.Index.{Index}
use Rattle.metadata.specs.declared.record.IndexRange.{IndexRange}
use Rattle.metadata.specs.declared.record.Region.{Region}
use Rattle.metadata.specs.Fold.{all_keys, first_metadata}
use Rattle.client.specs.declared.job.Job.TheVariants as jobs
use Rattle.client.specs.declared.load.LoadPhase.TheVariants as phases
use Rattle.client.specs.Client.{ClientState, Outcome, new_client, last_extent, check_rule}
use Rattle.model_streams.specs.StreamSystem.{StreamSystem}
use Rattle.model_partition.specs.declared.server_context.ServerContext.{ServerContext}
use Rattle.model_partition.specs.declared.stage.Stage.TheVariants as stages
use Rattle.model_partition.specs.Range.{RangeState, RangeOutcome, request, picking, given, dropped}
use Rattle.model_histories.specs.ServerRun.{RangeHistory}
use Rattle.model_partition.specs.PlaceReads.{places_of}
use Rattle.model_partition.specs.Loading.{read_of, log_goes, metadata_goes, asks_index, index_named, reads_named, reads_index, installs, reads_log, first_position, open_region, reads_log_from, checks_log, begins_log, reads_metadata, begins_metadata, opens}
use Rattle.model_histories.specs.StreamActions.{first_start}
use Rattle.laws_stream_machine.specs.Refinement.{Tells}
use Rattle.laws_ranges.specs.Serves.{Side, is_live, log_of, metadata_of}
use Rattle.laws_log_reads.specs.Reads.{AllRead, HasReadTo, AllShown, SaysSole, first_index, AreUnapplied, HasReadAll, HasReadIf}
use Rattle.laws_log_reads.proofs.ExtentByExtent.{none_open, none_known, TellsOf, IsMeasured, HasReadBelow, nothing_read, next_asked}

-- ---- where the log is read from

-- an extent of the log, or the one behind the last
first_is : (r : RangeState) (regions : List Region) (position : ℕ) → first_position r regions ≡ Some position → ((first_start regions).index ≡ r.log.base + position) × (position ≤ length r.log.extents)
first_is r [] position e = absurd cc
first_is r (region ∷ regions) position e = go (nat_lt region.start.index r.log.base) (nat_lt (r.log.base + length r.log.extents) region.start.index) refl refl e
  where
    go : (a b : Bool) → nat_lt region.start.index r.log.base ≡ a → nat_lt (r.log.base + length r.log.extents) region.start.index ≡ b →
        (if a || b then None else Some (region.start.index - r.log.base)) ≡ Some position → (region.start.index ≡ r.log.base + position) × (position ≤ length r.log.extents)
    go true b before behind is = absurd cc
    go false true before behind is = absurd cc
    go false false before behind is =
        let from : r.log.base ≤ region.start.index = ltb-false region.start.index r.log.base before in
        let upto : region.start.index ≤ r.log.base + length r.log.extents = ltb-false (r.log.base + length r.log.extents) region.start.index behind in
        let same : region.start.index - r.log.base ≡ position = cc in
        (omega (arith, from, same), omega (arith, from, upto, same))

module _ (generation : ℕ → ℕ) (range : ℕ) (w : StreamSystem) (i : ℕ) (m l : Side) (d : ServerContext) (h : RangeHistory) where
  -- what a step leaves has read what the history has
  abbrev pub Left : RangeOutcome → Type 0
  Left o = HasReadIf range w i m.stand.state l.stand.state h o.after

  -- ---- the indexes

  -- all of the metadata and of the log is read
  abbrev AllIsRead : RangeState → Type 0
  AllIsRead r = HasReadAll range w i m.stand.state l.stand.state h r

  asks_index_left : (r : RangeState) → AllIsRead r → (position : ℕ) (index : IndexRange) (o : Option Nodes) → Left (asks_index d r position index o)
  asks_index_left r b position index None = tt
  asks_index_left r b position index (Some places) = record { at = record { metadata = b.metadata; log = b.log; shown = b.shown; sole = b.sole; unapplied = b.unapplied } }

  reads_named_left : (r : RangeState) → AllIsRead r → (position : ℕ) (named : Option IndexRange) → Left (reads_named d r position named)
  reads_named_left r b position None = record { at = record { metadata = b.metadata; log = b.log; shown = b.shown; sole = b.sole; unapplied = b.unapplied } }
  reads_named_left r b position (Some index) = asks_index_left r b position index (places_of r index.place.extent)

  -- the next index is read, or all is read
  reads_index_left : (r : RangeState) → AllIsRead r → (position : ℕ) → Left (reads_index d r position)
  reads_index_left r b position = reads_named_left r b position (index_named r.said.indexes position)

  -- an index was read
  pub installs_left : (r : RangeState) → AllIsRead r → (position : ℕ) (named : Option IndexRange) (index : Option Index) → Left (installs d r position named index)
  installs_left r b position None index = tt
  installs_left r b position (Some named) None = tt
  installs_left r b position (Some named) (Some index) =
      reads_index_left (record r { indexes = record { place = named.place; keys = named.keys; index = index } ∷ r.indexes })
      (record { metadata = b.metadata; log = b.log; shown = b.shown; sole = b.sole; unapplied = b.unapplied }) (suc position)

  -- ---- the log

  -- the log is read from a position on
  pub record ReadsLog (r : RangeState) (position : ℕ) : Type 0 where
    pub metadata : AllRead (metadata_of range) w i m.stand.state 0 r.metadata (h.reads kinds.Metadata)
    pub log : HasReadBelow generation (log_of range) w i l.stand l.sent (first_index r) r.log (h.reads kinds.Log) position
    pub shown : AllShown w (h.reads kinds.Log)
    pub sole : SaysSole h r
    pub unapplied : AreUnapplied h r

  pub reads_log_left : (r : RangeState) (position : ℕ) → ReadsLog r position → Left (reads_log d r position)
  reads_log_left r position b = go (nat_lt position (length r.log.extents)) refl
    where
      go : (t : Bool) → nat_lt position (length r.log.extents) ≡ t →
          Left (if t then log_goes d r (stages.Reading kinds.Log position) (read_of d (picking d r.log) position) else reads_index d r 0)
      go true e =
          let below : position < length r.log.extents = ltb-true position (length r.log.extents) e in
          let to : HasReadTo (log_of range) w i l.stand.state (first_index r) (read_of d (picking d r.log) position).after (h.reads kinds.Log) position =
          next_asked generation (log_of range) w i l.stand l.sent (first_index r) d r.log (h.reads kinds.Log) position b.log below in
          record { at = record { metadata = b.metadata; log = to; shown = b.shown; sole = b.sole; unapplied = b.unapplied } }
      go false e =
          let le : length r.log.extents ≤ position = ltb-false position (length r.log.extents) e in
          reads_index_left r (record { metadata = b.metadata; log = b.log.all le; shown = b.shown; sole = b.sole; unapplied = b.unapplied }) 0

  -- nothing of the log is read yet, and nothing is asked of it
  pub record IsUnread (r : RangeState) : Type 0 where
    pub told : TellsOf generation (log_of range) w l.stand l.sent r.log
    pub idle : r.log.job ≡ jobs.Idle
    pub none : h.reads kinds.Log ≡ []

  -- the metadata is read
  pub record BeginsLog (r : RangeState) : Type 0 where
    pub metadata : AllRead (metadata_of range) w i m.stand.state 0 r.metadata (h.reads kinds.Metadata)
    pub log : IsUnread r
    pub sole : SaysSole h r

  -- the log is read from where the metadata says, and a log that does not reach there is not read
  pub from_first : (r : RangeState) → BeginsLog r → r.regions ≡ r.said.regions → IsMeasured r.log → Left (reads_log_from d r (first_position r r.regions))
  from_first r b regions measured = go (first_position r r.regions) refl
    where
      go : (o : Option ℕ) → first_position r r.regions ≡ o → Left (reads_log_from d r o)
      go None e = tt
      go (Some position) e =
          let first = first_is r r.regions position e in
          let at : first_index r ≡ r.log.base + position = ap (λ rs. (first_start rs).index) (sym regions) ∙ first.0 in
          reads_log_left r position
          (record {
            metadata = b.metadata;
            log = nothing_read generation (log_of range) w i l.stand l.sent (first_index r) r.log position b.log.told at first.1 (λ le. measured) b.log.idle (h.reads kinds.Log) b.log.none;
            shown = subst (λ rs. AllShown w rs) (sym b.log.none) tt;
            sole = b.sole;
            unapplied = λ none. regions;
          })

  checks_left : (r : RangeState) → BeginsLog r → r.regions ≡ r.said.regions → (o : Option StreamExtent) → last_extent r.log.extents ≡ o → Left (checks_log d r o)
  checks_left r b regions None e = from_first r b regions (λ live. absurd (let z : false ≡ true = sym (ap is_live e) ∙ live in cc))
  checks_left r b regions (Some x) e = go x.length refl
    where
      o : Outcome
      o = given (picking d r.log) (check_rule (picking d r.log) (request d))

      go : (k : Option ℕ) → x.length ≡ k → Left (if is_some k then reads_log_from d r (first_position r r.regions) else log_goes d r (stages.Checking kinds.Log) o)
      go (Some n) k = from_first r b regions (λ live. absurd (let z : not (is_some (Some n)) ≡ true = sym (ap is_live e ∙ ap (λ q. not (is_some q)) k) ∙ live in cc))
      go None k = record { at = record { metadata = b.metadata; log = b.log.none; regions = regions; sole = b.sole } }

  begins_log_left : (r : RangeState) → BeginsLog r → Left (begins_log d r)
  begins_log_left r b = go (is_some (open_region r.said.regions) && is_some (first_position r r.said.regions))
    where
      go : (t : Bool) → Left (if t then checks_log d (record r { regions = r.said.regions }) (last_extent r.log.extents) else dropped d r)
      go true =
          checks_left (record r { regions = r.said.regions }) (record { metadata = b.metadata; log = record { told = b.log.told; idle = b.log.idle; none = b.log.none }; sole = b.sole }) refl
          (last_extent r.log.extents) refl
      go false = tt

  -- ---- the metadata

  -- the metadata is read from a position on
  pub record ReadsMetadata (r : RangeState) (position : ℕ) : Type 0 where
    pub metadata : HasReadBelow generation (metadata_of range) w i m.stand m.sent 0 r.metadata (h.reads kinds.Metadata) position
    pub log : IsUnread r
    pub sole : SaysSole h r

  metadata_read : (r : RangeState) (position : ℕ) → ReadsMetadata r position → length r.metadata.extents ≤ position → BeginsLog r
  metadata_read r position b le = record { metadata = b.metadata.all le; log = b.log; sole = b.sole }

  -- the next extent of the metadata is read, or all of it is read
  pub reads_metadata_left : (r : RangeState) (position : ℕ) → ReadsMetadata r position → Left (reads_metadata d r position)
  reads_metadata_left r position b = go (nat_lt position (length r.metadata.extents)) refl
    where
      go : (t : Bool) → nat_lt position (length r.metadata.extents) ≡ t →
          Left (if t then metadata_goes d r (stages.Reading kinds.Metadata position) (read_of d (picking d r.metadata) position) else begins_log d r)
      go true e =
          let below : position < length r.metadata.extents = ltb-true position (length r.metadata.extents) e in
          let to : HasReadTo (metadata_of range) w i m.stand.state 0 (read_of d (picking d r.metadata) position).after (h.reads kinds.Metadata) position =
          next_asked generation (metadata_of range) w i m.stand m.sent 0 d r.metadata (h.reads kinds.Metadata) position b.metadata below in
          record { at = record { metadata = to; log = b.log.none; sole = b.sole } }
      go false e = begins_log_left r (metadata_read r position b (ltb-false position (length r.metadata.extents) e))

  -- nothing is read yet of the metadata, which begins at its first extent
  pub metadata_unread : (c : ClientState) → TellsOf generation (metadata_of range) w m.stand m.sent c → c.job ≡ jobs.Idle → h.reads kinds.Metadata ≡ [] →
      HasReadBelow generation (metadata_of range) w i m.stand m.sent 0 c (h.reads kinds.Metadata) 0
  metadata_unread c told idle none =
      let base : c.base ≡ 0 = told.whole refl in
      nothing_read generation (metadata_of range) w i m.stand m.sent 0 c 0 told (omega (arith, base)) (omega arith)
      (λ le live. absurd (let z : false ≡ true = sym (none_open c.extents le) ∙ live in cc)) idle (h.reads kinds.Metadata) none

  begins_metadata_left : (r : RangeState) → ReadsMetadata r 0 → h.reads kinds.Metadata ≡ [] → (o : Option StreamExtent) → last_extent r.metadata.extents ≡ o → Left (begins_metadata d r o)
  begins_metadata_left r b nothing None e = begins_log_left r (metadata_read r 0 b (none_known r.metadata.extents e))
  begins_metadata_left r b nothing (Some x) e = go (is_some x.length)
    where
      o : Outcome
      o = given (picking d r.metadata) (check_rule (picking d r.metadata) (request d))

      go : (t : Bool) → Left (if t then reads_metadata d r 0 else metadata_goes d r (stages.Checking kinds.Metadata) o)
      go true = reads_metadata_left r 0 b
      go false = record { at = record { metadata = nothing; log = b.log.none; sole = b.sole } }

  -- ---- the streams are opened

  pub opens_left : (r : RangeState) → h.reads kinds.Metadata ≡ [] → h.reads kinds.Log ≡ [] → (lists : StreamLists) → Tells generation (metadata_of range) w m.stand.state m.sent lists.metadata →
      Tells generation (log_of range) w l.stand.state l.sent lists.log → Left (opens d r lists)
  opens_left r nothing none lists one two =
      begins_metadata_left opened (record { metadata = metadata_unread opened.metadata one refl nothing; log = record { told = two; idle = refl; none = none }; sole = λ say. (region, refl) }) nothing
      (last_extent lists.metadata.extents) refl
    where
      region : Region
      region = record { start = record { index = 0; offset = 0 }; end = None; next = 1; keys = all_keys }

      opened : RangeState
      opened = record r {
        load = record r.load { phase = phases.Opened };
        metadata = new_client d.server (record { range = r.load.range; kind = kinds.Metadata }) r.load.generation lists.metadata d.pick;
        log = new_client d.server (record { range = r.load.range; kind = kinds.Log }) r.load.generation lists.log d.pick;
        rows = new_client d.server (record { range = r.load.range; kind = kinds.RowData }) r.load.generation lists.row_data d.pick;
        blob_data = lists.blob_data;
        said = first_metadata;
      }
