-- What follows where a generation is confirmed, and the streams keep their order with that load: the metadata says the fold of the records
-- that the load shows, and where it names one region without end, the range has what the load replays of the log from the region's start
-- on.
use Rattle.std.proofs.Common.{◌≡◌, ℕ, ◌+◌, ◌<◌, ◌^◌, List, [], ◌∷◌, length, map, true, Some, is_some, refl, sym, ap, ◌∙◌, subst, inl, arith}
use Rattle.std.specs.Prelude.{if◌then◌else◌}
use Rattle.streams.specs.declared.table.Position.{Position}
use Rattle.memtable.specs.declared.cell.Place.{Place}
use Rattle.wire.specs.declared.streams.StreamKind.TheVariants as kinds
use Rattle.client.specs.Client.{last_extent}
use Rattle.metadata.specs.declared.record.MetaItem.{MetaItem}
use Rattle.metadata.specs.declared.record.Region.{Region}
use Rattle.metadata.specs.Fold.{MetadataState, first_metadata}
use Rattle.metadata.specs.Keys.{within}
use Rattle.commitlog.specs.declared.log_record.LogRecord.{LogRecord}
use Rattle.commitlog.specs.Replay.{Numbered}
use Rattle.commitlog.specs.Replay.{replayed as replay}
use Rattle.model_partition.specs.Range.{RangeState}
use Rattle.model_partition.specs.Loading.{Group, open_region, log_end}
use Rattle.model_histories.specs.Log.{line_shown}
use Rattle.model_partition.specs.Past.{Bytes, Transaction}
use Rattle.model_histories.specs.Renaming.{renamed_placed, renamed_event, decoded, decoded_record}
use Rattle.model_histories.specs.Story.{Placed, StreamEvent, Showed, Story, event_at, KeepsOrder}
use Rattle.model_histories.specs.StreamActions.{ExtentRead, StreamAction, Shows, first_start, read_end}
use Rattle.model_histories.specs.ServerRun.{place_number, placed_reads, placed_behind, bytes_read}
use Rattle.laws_loads.proofs.Renaming.{renamed_keeps, showed_from}
use Rattle.laws_tables.proofs.Range.{newest, bound, older}
use Rattle.laws_tables.proofs.Loads.{greater_left}
use Rattle.laws_tables.proofs.NarrowKeys.{RecordsKept, records_kept, narrow_shown}
use Rattle.laws_tables.specs.Layers.{Layer, empty_layer, over, indexed, layer_line}
use Rattle.laws_tables.specs.NarrowKeys.{AllNarrow}
use Rattle.laws_tables.specs.Runs as chains
use Rattle.laws_tables.specs.Runs.{Run, first_beginning, first_next, start_number, added, greater, said, replayed_by, next_loaded, loaded_layer, IsServing, MayStart}
use Rattle.laws_loads.specs.MemoryLayers.{layer_in}
use Rattle.laws_checkpoints.specs.IndexLayers.{layer_at}
use Rattle.laws_server_runs.specs.RangeInvariant.{groups_read, replayed_all, ReadsLog, AllSpelled, AreCheckpoints, IsOfPages, EndFits, StreamsKept, InOrder}
use Rattle.laws_loads.specs.RangeView.{RangeView, view_after, log_of, metadata_of}
use Rattle.laws_server_runs.proofs.Behind.{groups_shown, all_behind, left_is_all, end_place}
use Rattle.laws_server_runs.proofs.Folding.{IsFoldOf, groups_folded}
use Rattle.laws_server_runs.proofs.LoadedLine.{line_read, reads_groups, groups_renamed, first_stand, extents_replayed, the_region}
use Rattle.laws_server_runs.proofs.OneRegion.{IsOneRegion, AllKeepOneRegion, all_kept, first_one}
use Rattle.laws_server_runs.specs.NamedIndexes.{NamesSuch}
use Rattle.laws_server_runs.proofs.NamedIndexes.{named_by_load, such_by_load}
use Rattle.laws_server_runs.proofs.LoadedRecords.{IsOfRecord, AreOfRecords, made_of_records, shown_of, regions_kept}
use Rattle.laws_server_runs.proofs.Order.{shown_spelled, shown_behind, made_before}
use Rattle.laws_server_runs.proofs.Replaying.{AreRead, After}

module _ (r : RangeState) where
  -- the position that the log is read from
  abbrev pub start_of : Position
  start_of = first_start r.said.regions

  abbrev pub metadata_end : Position
  metadata_end = read_end r.metadata (record { index = r.metadata.base; offset = 0 })

  abbrev pub log_stop : Position
  log_stop = read_end r.log (record { index = r.log.base; offset = 0 })

  -- what the confirmed load shows
  abbrev pub shows : StreamAction
  shows = Shows start_of (log_stop) metadata_end

module _ (v : RangeView) (r : RangeState) where
  -- the groups that it shows of the log, its events, and the view with them
  abbrev pub shown_groups : List (Placed Group)
  shown_groups = placed_behind (place_number (start_of r)) (placed_reads (v.history.reads kinds.Log))

  abbrev pub log_load : StreamEvent Group
  log_load = Showed r.load.generation (place_number (start_of r)) (place_number (log_stop r)) shown_groups

  abbrev pub metadata_load : StreamEvent Group
  metadata_load = Showed r.load.generation 0 (place_number (metadata_end r)) (placed_reads (v.history.reads kinds.Metadata))

  abbrev pub view_shown : RangeView
  view_shown = view_after r.load.generation v (shows r)

  -- what it shows, by what it spells
  abbrev pub spelled_groups : List (Placed (Numbered Transaction))
  spelled_groups = map (renamed_placed decoded) shown_groups

  abbrev pub shown_records : List (Placed (Numbered MetaItem))
  shown_records = map (renamed_placed decoded_record) (placed_reads (v.history.reads kinds.Metadata))

-- the run with that load
abbrev pub run_loaded : Run → RangeView → RangeState → Run
run_loaded run v r =
    chains.Confirms r.load.generation (place_number (start_of r)) (place_number (log_stop r)) (spelled_groups v r) (place_number (metadata_end r)) (shown_records v r) ∷ run

module _ (texts : ℕ → Bytes) (run : Run) (v : RangeView) (r : RangeState) (h : ReadsLog v.history r) (streams : StreamsKept texts run v) (order : InOrder texts (view_shown v r)) where
  -- ---- the metadata

  -- what it says is the fold of the records that the load shows
  pub said_is : r.said ≡ said first_beginning (line_shown (shown_records v r))
  said_is =
      let reads : List ExtentRead = v.history.reads kinds.Metadata in
      let is_fold : IsFoldOf first_metadata (replay [] (map decoded_record (groups_read reads))) r.said =
      groups_folded first_metadata (groups_read reads) [] first_metadata (record { says = refl; next = refl }) r.said h.said in
      is_fold.says
      ∙ ap (λ l. said first_beginning (replay [] l)) (sym (groups_renamed decoded_record (placed_reads reads) ∙ ap (map decoded_record) (reads_groups reads)))

  -- ---- the log

  pub load_stands : event_at (log_load v r ∷ log_of v) (length (log_of v)) ≡ Some (log_load v r)
  load_stands = newest Group (log_load v r) (log_of v)

  spelled_still : AllSpelled texts (log_load v r ∷ log_of v)
  spelled_still a g group at =
      streams.spelled a g group
      (made_before (log_of v) r.load.generation (place_number (start_of r)) (place_number (log_stop r)) (shown_groups v r) a g group at)

  -- all that it shows was handed to appends
  read_back : (rs : List LogRecord) × AreRead (groups_shown (shown_groups v r)) rs
  read_back =
      shown_spelled texts (log_load v r ∷ log_of v) order.log spelled_still (length (log_of v)) r.load.generation (place_number (start_of r))
      (place_number (log_stop r)) (shown_groups v r) load_stands

  -- and is all that was read from its start on
  all_shown : all_behind (place_number (start_of r)) (placed_reads (v.history.reads kinds.Log)) ≡ shown_groups v r
  all_shown =
      left_is_all (place_number (start_of r)) (placed_reads (v.history.reads kinds.Log))
      (shown_behind texts (log_load v r ∷ log_of v) order.log (length (log_of v)) r.load.generation (place_number (start_of r)) (place_number (log_stop r))
      (shown_groups v r) load_stands)

  -- what it adds to the line
  abbrev pub line : List Transaction
  line = line_read (first_next r.said.regions) (groups_shown (shown_groups v r))

  pub replayed_is : replayed_by first_beginning (spelled_groups v r) (shown_records v r) ≡ line
  replayed_is =
      ap (λ (m : MetadataState). added (first_next m.regions) (map (λ p. p.group) (spelled_groups v r))) (sym said_is)
      ∙ ap (added (first_next r.said.regions)) (groups_renamed decoded (shown_groups v r))

  -- ---- where the records leave one region without end

  module _ (keep : AllKeepOneRegion first_metadata (line_shown (shown_records v r))) where
    pub one : IsOneRegion r.said
    one = subst IsOneRegion (sym said_is) (all_kept first_metadata (line_shown (shown_records v r)) first_one keep)

    first_is : one.region.start ≡ start_of r
    first_is = ap first_start (sym one.only)

    number_is : one.region.next ≡ first_next r.said.regions
    number_is = ap first_next (sym one.only)

    taken_is : groups_shown (all_behind (place_number one.region.start) (placed_reads (v.history.reads kinds.Log))) ≡ groups_shown (shown_groups v r)
    taken_is = ap (λ p. groups_shown (all_behind (place_number p) (placed_reads (v.history.reads kinds.Log)))) first_is ∙ ap groups_shown all_shown

    pub loaded : After texts r.said.keys one.region line (r.regions, r.live)
    loaded =
        subst (λ l. After texts r.said.keys one.region l (r.regions, r.live)) (λ i. line_read (number_is i) (taken_is i))
        (extents_replayed texts r.said.keys one.region one.open_end one.short (v.history.reads kinds.Log) read_back.0
        (subst (λ l. AreRead l read_back.0) (sym taken_is) read_back.1) (first_stand texts (bytes_read (v.history.reads kinds.Log)) v.shown order.shown) (r.regions, r.live)
        (subst (λ regions. replayed_all r.said.keys (v.history.reads kinds.Log) (regions, []) ≡ Some (r.regions, r.live)) one.only h.made))

    -- the layer is what the load of the run replays
    pub layer_is : (key : Bytes) → within r.said.keys key ≡ true →
        layer_in texts r.live key ≡ layer_line (replayed_by first_beginning (spelled_groups v r) (shown_records v r)) empty_layer key
    layer_is key there = loaded.has.says key there (one.inside key there) ∙ ap (λ l. layer_line l empty_layer key) (sym replayed_is)

    -- over its indexes it is the layer of that load, whatever the indexes say
    pub layers_are : (index_layer : Place → Layer) (key : Bytes) → within r.said.keys key ≡ true →
        over (layer_in texts r.live) (indexed index_layer r.said.indexes) key ≡ loaded_layer first_beginning index_layer (spelled_groups v r) (shown_records v r) key
    layers_are index_layer key there = λ i. if is_some (layer_is key there i) then layer_is key there i else indexed index_layer (said_is i).indexes key

    -- the region without end is the one that the load made
    module _ (region : Region) (found : open_region r.regions ≡ Some region) where
      pub region_is : loaded.region ≡ region
      region_is =
          let known : Some loaded.region ≡ Some region = sym (the_region loaded.region loaded.has.open_end) ∙ ap open_region (sym loaded.only) ∙ found in
          cc

      pub next_is : region.next ≡ next_loaded first_beginning (spelled_groups v r) (shown_records v r)
      next_is =
          ap (λ (z : Region). z.next) (sym region_is) ∙ loaded.has.next
          ∙ (λ i. (number_is ∙ ap (λ (m : MetadataState). first_next m.regions) said_is) i + length (sym replayed_is i))

      pub position_is : EndFits r.log → place_number (log_end r.log (last_extent r.log.extents) region.start) ≡ greater (place_number (log_stop r)) (place_number (start_of r))
      position_is fits =
          let there : region.start ≡ start_of r = ap (λ (z : Region). z.start) (sym region_is) ∙ loaded.has.start ∙ first_is in
          let short : (start_of r).offset < 2 ^ 32 = subst (λ (p : Position). p.offset < 2 ^ 32) first_is one.short in
          ap (λ p. place_number (log_end r.log (last_extent r.log.extents) p)) there ∙ end_place r.log (start_of r) short h.begins fits

  -- ---- the run

  -- no load of this generation was confirmed yet
  pub first_load : IsServing run r.load.generation → ⊥
  first_load (l, start, end, groups, at) =
      let old = showed_from decoded (log_of v) l r.load.generation start end groups (ap (λ z. event_at z l) (sym streams.log) ∙ at) in
      let there : event_at (log_of v) l ≡ Some (Showed r.load.generation start end old.0) = old.1 in
      let same : l ≡ length (log_of v) =
      order.once l (length (log_of v)) r.load.generation start end (place_number (start_of r)) (place_number (log_stop r)) old.0 (shown_groups v r)
      (older Group (log_load v r) (log_of v) l (Showed r.load.generation start end old.0) there) load_stands in
      let less : l < length (log_of v) = bound Group (log_of v) l (Showed r.load.generation start end old.0) there in
      omega (arith, same, less)

  -- it begins where its metadata says, since no Trim named a base
  may_start : MayStart (layer_at texts) first_beginning run r.load.generation (place_number (start_of r)) (line_shown (shown_records v r))
  may_start =
      let start : ℕ = start_number (said first_beginning (line_shown (shown_records v r))).regions in
      (0, inl (omega arith), ap (λ (m : MetadataState). start_number m.regions) said_is ∙ sym (greater_left start 0 (omega arith)))

  -- ---- records

  records_still : AreCheckpoints (IsOfPages texts) (metadata_load v r ∷ metadata_of v)
  records_still a g group at =
      streams.records a g group
      (made_before (metadata_of v) r.load.generation 0 (place_number (metadata_end r)) (placed_reads (v.history.reads kinds.Metadata)) a g group at)

  -- those that the load shows are of such records
  all_records : AreOfRecords (IsOfPages texts) (line_shown (shown_records v r))
  all_records =
      shown_of (IsOfRecord (IsOfPages texts)) (metadata_load v r ∷ metadata_of v) order.metadata (made_of_records (IsOfPages texts) (metadata_load v r ∷ metadata_of v) records_still) (length (metadata_of v)) r.load.generation 0
      (place_number (metadata_end r)) (placed_reads (v.history.reads kinds.Metadata)) (newest Group (metadata_load v r) (metadata_of v))

  -- and give the range no keys that it had not
  all_narrow : AllNarrow first_metadata (line_shown (shown_records v r))
  all_narrow =
      let shown : StreamEvent (Numbered MetaItem) = Showed r.load.generation 0 (place_number (metadata_end r)) (shown_records v r) in
      let ordered : KeepsOrder (shown ∷ chains.meta_of run) =
      subst (λ (story : Story (Numbered MetaItem)). KeepsOrder (shown ∷ story)) (sym streams.metadata) (renamed_keeps decoded_record (metadata_load v r ∷ metadata_of v) order.metadata) in
      let kept : RecordsKept first_beginning (run_loaded run v r) = records_kept first_beginning (layer_at texts) (run_loaded run v r) ((first_load, may_start), streams.chain) ordered in
      narrow_shown first_beginning (shown ∷ chains.meta_of run) kept.served ordered kept.fit (length (chains.meta_of run)) r.load.generation 0 (place_number (metadata_end r)) (shown_records v r)
      (newest (Numbered MetaItem) shown (chains.meta_of run))

  -- so they leave one region
  pub records_keep : AllKeepOneRegion first_metadata (line_shown (shown_records v r))
  records_keep = regions_kept (IsOfPages texts) (line_shown (shown_records v r)) first_metadata all_records all_narrow

  -- and the indexes that they name were written, each of its pages, and count for all of its keys
  pub named_are : NamesSuch (IsOfPages texts) r.said
  named_are =
      such_by_load (IsOfPages texts) (line_shown (shown_records v r)) all_narrow r.said said_is
      (named_by_load (IsOfPages texts) (metadata_load v r ∷ metadata_of v) order.metadata records_still (length (metadata_of v)) r.load.generation 0 (place_number (metadata_end r))
      (placed_reads (v.history.reads kinds.Metadata)) (newest Group (metadata_load v r) (metadata_of v)) r.said said_is)

  -- servers may load it now
  pub streams_loaded : StreamsKept texts (run_loaded run v r) (view_shown v r)
  streams_loaded = record {
    log = ap (λ l. renamed_event decoded (log_load v r) ∷ l) streams.log;
    metadata = ap (λ l. renamed_event decoded_record (metadata_load v r) ∷ l) streams.metadata;
    chain = ((first_load, may_start), streams.chain);
    spelled = spelled_still;
    records = records_still;
  }
