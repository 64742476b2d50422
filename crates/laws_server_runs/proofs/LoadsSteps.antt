-- A load goes on: what is kept through each of its steps, from the opening of the streams up to the confirmation.
use Rattle.std.proofs.Common.{◌≡◌, ℕ, suc, ◌+◌, ◌-◌, ◌≤◌, drop, Bool, List, [], ◌∷◌, length, ◌&&◌, nat_lt, true, false, Option, Some, None, is_some, refl, sym, ap, ◌∙◌, subst, inl}
use Rattle.std.specs.Prelude.{if◌then◌else◌}
use Rattle.block_types.specs.declared.record.Nodes.{Nodes}
use Rattle.wire.specs.declared.packet.Packet.{Packet}
use Rattle.wire.specs.declared.streams.StreamExtent.{StreamExtent}
use Rattle.wire.specs.declared.streams.StreamKind.TheVariants as kinds
use Rattle.wire.specs.declared.streams.StreamLists.{StreamLists}
use Rattle.client.specs.declared.job.Job.TheVariants as jobs
use Rattle.client.specs.declared.job.Place.TheVariants.{First}
use Rattle.client.specs.declared.load.LoadPhase.TheVariants as phases
use Rattle.client.specs.Client.{ClientState, new_client, last_extent}
use Rattle.metadata.specs.declared.record.IndexRange.{IndexRange}
use Rattle.metadata.specs.Fold.{first_metadata}
use Rattle.checkpoint_format.specs.declared.index.Index.{Index}
use Rattle.model_streams.proofs.Tests.{if_elim}
use Rattle.model_partition.specs.declared.server_context.ServerContext.{ServerContext}
use Rattle.model_partition.specs.declared.stage.Stage.TheVariants as stages
use Rattle.model_partition.specs.declared.waiting.PlaceRead.{PlaceRead}
use Rattle.model_partition.specs.Past.{Bytes}
use Rattle.model_partition.specs.Range.{RangeState, RangeOutcome, request, is_serving}
use Rattle.model_partition.specs.PlaceReads.{places_of}
use Rattle.model_partition.specs.Loading.{said_after, confirms, asks_index, index_named, reads_named, reads_index, installs, reads_log, open_region, first_position, reads_log_from, checks_log, begins_log, reads_metadata, begins_metadata, opens}
use Rattle.model_histories.specs.ServerRun.{RangeHistory}
use Rattle.model_histories.specs.StreamActions.{StreamAction}
use Rattle.laws_loads.specs.Sound.{IsSound}
use Rattle.laws_loads.specs.RangeView.{RangeView, view_after_all}
use Rattle.laws_tables.specs.Runs.{Run}
use Rattle.laws_server_runs.specs.RangeInvariant.{groups_read, replayed_all, HasReadNothing, ReadsMetadata, ReadsLog, ReadsIndexes, HasReadAll, StageIs, RangeKept, StreamsKept, Rests, IsLonger, KeptIf, StepKept}
use Rattle.std.specs.Prelude.{◌||◌}
use Rattle.std.proofs.lemmas.Bool.{ltb-false}
use Rattle.client.specs.Client.{check_rule}
use Rattle.checkpoint_format.specs.Index.{index_at}
use Rattle.metadata.specs.declared.record.Region.{Region}
use Rattle.model_histories.specs.IndexContents.{bytes_in}
use Rattle.model_partition.specs.Loading.{read_of}
use Rattle.model_partition.specs.Range.{given, picking}
use Rattle.model_partition.specs.declared.table_note.TableNote.{TableNote}
use Rattle.model_histories.specs.StreamActions.{PlacedBytes, first_start}
use Rattle.laws_checkpoints.specs.ShownTables.{AreInstalled, HoldsBytes}
use Rattle.laws_server_runs.proofs.ClientAnswers.{check_base, read_base}
use Rattle.laws_server_runs.proofs.IndexOrder.{all_read, next_read, none_read}
use Rattle.laws_server_runs.proofs.Loads.{silent_seen}
use Rattle.laws_server_runs.proofs.Others.{streams_same}
use Rattle.laws_server_runs.proofs.GetNotes.{AreGots, gots_seen}

-- a position that is found is one of the log
begins_in : (s : RangeState) (regions : List Region) → is_some (first_position s regions) ≡ true → s.log.base ≤ (first_start regions).index
begins_in s [] e = absurd cc
begins_in s (region ∷ regions) e = by (nat_lt region.start.index s.log.base) refl e
  where
    by : (b : Bool) → nat_lt region.start.index s.log.base ≡ b →
        is_some (if b || nat_lt (s.log.base + length s.log.extents) region.start.index then None else Some (region.start.index - s.log.base)) ≡ true → s.log.base ≤ region.start.index
    by true t e = absurd cc
    by false f e = ltb-false region.start.index s.log.base f

both_true : (x y : Bool) → (x && y) ≡ true → y ≡ true
both_true true y e = e
both_true false y e = absurd cc

-- Actions of a load, which leave the streams as they were.
module _ (texts : ℕ → Bytes) (subject : ℕ) (run : Run) (v : RangeView) (r : RangeState) (streams : StreamsKept texts run v) (d : ServerContext) (actions : List StreamAction) (h : RangeHistory) (shown : List PlacedBytes)
    (same : view_after_all r.load.generation v actions ≡ record v { history = h; shown = shown }) where
  abbrev pub view : RangeView
  view = record v { history = h; shown = shown }

  abbrev pub Left : RangeOutcome → Type 0
  Left o = StepKept texts subject run v r (if is_some o.after then actions else []) o

  -- the range is dropped
  pub drops_left : (count : ℕ) (packets : List Packet) → Left (record { after = None; count = count; packets = packets; notes = [] })
  drops_left count packets =
      record {
        next = run;
        goes = Rests;
        alone = inl refl;
        kept = tt;
        streams = streams;
        longer = ([], refl);
        anew = tt;
        seen = λ before later old told. silent_seen texts subject run before later old told;
      }

  -- the range goes on, and shows Gets
  pub goes_showing : (next : RangeState) (count : ℕ) (packets : List Packet) (notes : List TableNote) (range g : ℕ) → AreGots range g notes → RangeKept texts subject run view next → next.load.generation ≡ r.load.generation →
      (is_serving next.stage ≡ true → is_serving r.stage ≡ true) → Left (record { after = Some next; count = count; packets = packets; notes = notes })
  goes_showing next count packets notes range g gots kept generation served =
      record {
        next = run;
        goes = Rests;
        alone = inl refl;
        kept = subst (λ w. KeptIf texts subject run w r.load.generation (Some next)) (sym same) (kept, generation);
        streams = subst (λ w. StreamsKept texts run w) (sym same) (streams_same texts run v view refl refl streams);
        longer = subst (λ w. IsLonger v.answered w.answered) (sym same) ([], refl);
        anew = λ serves. inl (served serves);
        seen = λ before later old told. gots_seen texts subject run range g notes before later gots old told;
      }

  -- the load goes on
  pub goes_left : (next : RangeState) (count : ℕ) (packets : List Packet) → RangeKept texts subject run view next → next.load.generation ≡ r.load.generation →
      (is_serving next.stage ≡ true → is_serving r.stage ≡ true) → Left (record { after = Some next; count = count; packets = packets; notes = [] })
  goes_left next count packets kept generation served = goes_showing next count packets [] 0 0 tt kept generation served

  -- a state of the load, as of this range
  pub record IsLoading (s : RangeState) : Type 0 where
    pub range : s.load.range ≡ subject
    pub generation : s.load.generation ≡ r.load.generation
    pub opened : s.load.phase ≡ phases.Opened
    pub sound : IsSound s
    pub held : HoldsBytes texts s.held

  -- ---- the log

  -- a request of the log's client is out
  log_reads : (s : RangeState) → IsLoading s → (c : ClientState) → c.base ≡ s.log.base → ReadsLog h s → s.indexes ≡ [] → (position : ℕ) →
      RangeKept texts subject run view (record s { stage = stages.Reading kinds.Log position; log = c })
  log_reads s b c base reads none position = record {
    range = b.range;
    phase = b.opened;
    sound = b.sound;
    held = b.held;
    stage = (record { said = reads.said; made = reads.made; fixed = reads.fixed; idle = reads.idle; none = reads.none; rows = reads.rows; begins = subst (λ n. n ≤ (first_start s.said.regions).index) (sym base) reads.begins }, none);
  }

  log_checks : (s : RangeState) → IsLoading s → (c : ClientState) → c.base ≡ s.log.base → ReadsLog h s → s.indexes ≡ [] → RangeKept texts subject run view (record s { stage = stages.Checking kinds.Log; log = c })
  log_checks s b c base reads none = record {
    range = b.range;
    phase = b.opened;
    sound = b.sound;
    held = b.held;
    stage = (record { said = reads.said; made = reads.made; fixed = reads.fixed; idle = reads.idle; none = reads.none; rows = reads.rows; begins = subst (λ n. n ≤ (first_start s.said.regions).index) (sym base) reads.begins }, none);
  }

  confirms_left : (s : RangeState) → IsLoading s → HasReadAll texts h s → Left (confirms d s)
  confirms_left s b reads =
      goes_left (record s { stage = stages.Confirming; load = record s.load { phase = phases.Confirming (request d) } }) _ _
      (record { range = b.range; phase = (request d, refl); sound = b.sound; held = b.held; stage = record { log = record { said = reads.log.said; made = reads.log.made; fixed = reads.log.fixed; idle = reads.log.idle; none = reads.log.none; rows = reads.log.rows; begins = reads.log.begins }; installed = reads.installed } })
      b.generation (λ z. absurd cc)

  -- an index is asked for
  asks_index_left : (s : RangeState) → IsLoading s → (position : ℕ) → ReadsIndexes texts h s position → (index : IndexRange) → index_named s.said.indexes position ≡ Some index → (places : Option Nodes) →
      Left (asks_index d s position index places)
  asks_index_left s b position reads index is None = drops_left _ _
  asks_index_left s b position reads index is (Some places) =
      let read : PlaceRead = record { request = request d; place = index.place; page = false; replica = First } in
      goes_left (record s { stage = stages.Indexing position; reading = Some read }) _ _
      (record {
        range = b.range;
        phase = b.opened;
        sound = b.sound;
        held = b.held;
        stage = (record { log = record { said = reads.log.said; made = reads.log.made; fixed = reads.log.fixed; idle = reads.log.idle; none = reads.log.none; rows = reads.log.rows; begins = reads.log.begins }; installed = reads.installed }, record { read = read; named = index; out = refl; next = is; place = refl });
      })
      b.generation (λ z. absurd cc)

  reads_named_left : (s : RangeState) → IsLoading s → (position : ℕ) → ReadsIndexes texts h s position → (named : Option IndexRange) → index_named s.said.indexes position ≡ named → Left (reads_named d s position named)
  reads_named_left s b position reads None is =
      confirms_left (record s { reading = None }) (record { range = b.range; generation = b.generation; opened = b.opened; sound = b.sound; held = b.held })
      (record { log = record { said = reads.log.said; made = reads.log.made; fixed = reads.log.fixed; idle = reads.log.idle; none = reads.log.none; rows = reads.log.rows; begins = reads.log.begins }; installed = subst (AreInstalled texts s.indexes) (all_read s.said.indexes position is) reads.installed })
  reads_named_left s b position reads (Some index) is = asks_index_left s b position reads index is (places_of s index.place.extent)

  reads_index_left : (s : RangeState) → IsLoading s → (position : ℕ) → ReadsIndexes texts h s position → Left (reads_index d s position)
  reads_index_left s b position reads = reads_named_left s b position reads (index_named s.said.indexes position) refl

  -- the next index is read, which stands where it is named
  pub installs_left : (s : RangeState) → IsLoading s → (position : ℕ) → ReadsIndexes texts h s position → (named : Option IndexRange) → index_named s.said.indexes position ≡ named → (index : Option Index) →
      ((one : IndexRange) → named ≡ Some one → index_at (bytes_in texts one.place) ≡ index) → Left (installs d s position named index)
  installs_left s b position reads (Some named) is (Some index) stands =
      reads_index_left (record s { indexes = record { place = named.place; keys = named.keys; index = index } ∷ s.indexes })
      (record { range = b.range; generation = b.generation; opened = b.opened; sound = b.sound; held = b.held }) (suc position)
      (record {
        log = record { said = reads.log.said; made = reads.log.made; fixed = reads.log.fixed; idle = reads.log.idle; none = reads.log.none; rows = reads.log.rows; begins = reads.log.begins };
        installed = subst (AreInstalled texts (record { place = named.place; keys = named.keys; index = index } ∷ s.indexes)) (sym (next_read s.said.indexes position named is))
            (record { place = refl; keys = refl; index = stands named refl }, reads.installed);
      })
  installs_left s b position reads None is index stands = drops_left _ _
  installs_left s b position reads (Some named) is None stands = drops_left _ _

  pub reads_log_left : (s : RangeState) → IsLoading s → ReadsLog h s → s.indexes ≡ [] → (position : ℕ) → Left (reads_log d s position)
  reads_log_left s b reads none position =
      if_elim Left (nat_lt position (length s.log.extents)) _ _
      (λ t. goes_left _ _ _ (log_reads s b (read_of d (picking d s.log) position).after (read_base d (picking d s.log) position) reads none position) b.generation (λ z. absurd cc))
      (λ f. reads_index_left s b 0 (record {
        log = record { said = reads.said; made = reads.made; fixed = reads.fixed; idle = reads.idle; none = reads.none; rows = reads.rows; begins = reads.begins };
        installed = subst (λ indexes. AreInstalled texts indexes (drop (length s.said.indexes - 0) s.said.indexes)) (sym none) (subst (AreInstalled texts []) (sym (none_read s.said.indexes)) tt);
      }))

  pub reads_log_from_left : (s : RangeState) → IsLoading s → ReadsLog h s → s.indexes ≡ [] → (position : Option ℕ) → Left (reads_log_from d s position)
  reads_log_from_left s b reads none None = drops_left _ _
  reads_log_from_left s b reads none (Some position) = reads_log_left s b reads none position

  checks_log_left : (s : RangeState) → IsLoading s → ReadsLog h s → s.indexes ≡ [] → (x : Option StreamExtent) → Left (checks_log d s x)
  checks_log_left s b reads none None = reads_log_from_left s b reads none (first_position s s.regions)
  checks_log_left s b reads none (Some x) =
      if_elim Left (is_some x.length) _ _
      (λ t. reads_log_from_left s b reads none (first_position s s.regions))
      (λ f. goes_left _ _ _ (log_checks s b (given (picking d s.log) (check_rule (picking d s.log) (request d))).after (check_base (picking d s.log) (request d)) reads none) b.generation (λ z. absurd cc))

  -- ---- the metadata

  begins_log_left : (s : RangeState) → IsLoading s → ReadsMetadata h s → s.metadata.job ≡ jobs.Idle → Left (begins_log d s)
  begins_log_left s b reads idle =
      if_elim Left (is_some (open_region s.said.regions) && is_some (first_position s s.said.regions)) _ _
      (λ t. checks_log_left (record s { regions = s.said.regions }) (record { range = b.range; generation = b.generation; opened = b.opened; sound = b.sound; held = b.held })
      (record {
        said = reads.said;
        made = made;
        fixed = reads.fixed;
        idle = idle;
        none = reads.none;
        rows = reads.rows;
        begins = begins_in s s.said.regions (both_true (is_some (open_region s.said.regions)) (is_some (first_position s s.said.regions)) t);
      })
      reads.indexes (last_extent s.log.extents))
      (λ f. drops_left _ _)
    where
      made : replayed_all s.said.keys (h.reads kinds.Log) (s.said.regions, []) ≡ Some (s.said.regions, s.live)
      made = ap (λ read. replayed_all s.said.keys read (s.said.regions, [])) reads.log ∙ ap (λ live. Some (s.said.regions, live)) (sym reads.live)

  -- a request of the metadata's client is out
  metadata_reads : (s : RangeState) → IsLoading s → (c : ClientState) → ReadsMetadata h s → (position : ℕ) → RangeKept texts subject run view (record s { stage = stages.Reading kinds.Metadata position; metadata = c })
  metadata_reads s b c reads position = record { range = b.range; phase = b.opened; sound = b.sound; held = b.held; stage = record { said = reads.said; log = reads.log; live = reads.live; fixed = reads.fixed; idle = reads.idle; none = reads.none; indexes = reads.indexes; rows = reads.rows } }

  metadata_checks : (s : RangeState) → IsLoading s → (c : ClientState) → ReadsMetadata h s → RangeKept texts subject run view (record s { stage = stages.Checking kinds.Metadata; metadata = c })
  metadata_checks s b c reads = record { range = b.range; phase = b.opened; sound = b.sound; held = b.held; stage = record { said = reads.said; log = reads.log; live = reads.live; fixed = reads.fixed; idle = reads.idle; none = reads.none; indexes = reads.indexes; rows = reads.rows } }

  pub reads_metadata_left : (s : RangeState) → IsLoading s → ReadsMetadata h s → s.metadata.job ≡ jobs.Idle → (position : ℕ) → Left (reads_metadata d s position)
  reads_metadata_left s b reads idle position =
      if_elim Left (nat_lt position (length s.metadata.extents)) _ _
      (λ t. goes_left _ _ _ (metadata_reads s b _ reads position) b.generation (λ z. absurd cc))
      (λ f. begins_log_left s b reads idle)

  begins_metadata_left : (s : RangeState) → IsLoading s → ReadsMetadata h s → s.metadata.job ≡ jobs.Idle → (x : Option StreamExtent) → Left (begins_metadata d s x)
  begins_metadata_left s b reads idle None = begins_log_left s b reads idle
  begins_metadata_left s b reads idle (Some x) =
      if_elim Left (is_some x.length) _ _
      (λ t. reads_metadata_left s b reads idle 0)
      (λ f. goes_left _ _ _ (metadata_checks s b _ reads) b.generation (λ z. absurd cc))

  -- the streams are opened, and nothing is read yet
  pub opens_left : IsLoading (record r { load = record r.load { phase = phases.Opened } }) → HasReadNothing h r → (lists : StreamLists) → Left (opens d r lists)
  opens_left b nothing lists =
      begins_metadata_left
      (record r {
        load = record r.load { phase = phases.Opened };
        metadata = new_client d.server (record { range = r.load.range; kind = kinds.Metadata }) r.load.generation lists.metadata d.pick;
        log = new_client d.server (record { range = r.load.range; kind = kinds.Log }) r.load.generation lists.log d.pick;
        rows = new_client d.server (record { range = r.load.range; kind = kinds.RowData }) r.load.generation lists.row_data d.pick;
        blob_data = lists.blob_data;
        said = first_metadata;
      })
      (record { range = b.range; generation = b.generation; opened = b.opened; sound = b.sound; held = b.held })
      (record {
        said = ap (λ read. said_after first_metadata (groups_read read)) nothing.metadata;
        log = nothing.log;
        live = nothing.live;
        fixed = nothing.fixed;
        idle = refl;
        none = nothing.none;
        indexes = nothing.indexes;
        rows = refl;
      })
      refl (last_extent lists.metadata.extents)

-- a step without actions
pub without_actions : (texts : ℕ → Bytes) (subject : ℕ) (run : Run) (v : RangeView) (r : RangeState) (o : RangeOutcome) → StepKept texts subject run v r (if is_some o.after then [] else []) o → StepKept texts subject run v r [] o
without_actions texts subject run v r o step = subst (λ actions. StepKept texts subject run v r actions o) (none (is_some o.after) []) step
  where
    none : (t : Bool) (actions : List StreamAction) → (if t then actions else actions) ≡ actions
    none true actions = refl
    none false actions = refl

module _ (texts : ℕ → Bytes) (subject : ℕ) (run : Run) (v : RangeView) (r : RangeState) (kept : RangeKept texts subject run v r) (streams : StreamsKept texts run v) (d : ServerContext) where
  -- the streams of the range are opened
  pub opens_kept : r.stage ≡ stages.Opening → (lists : StreamLists) → StepKept texts subject run v r [] (opens d r lists)
  opens_kept opening lists =
      without_actions texts subject run v r (opens d r lists)
      (opens_left texts subject run v r streams d [] v.history v.shown refl (record { range = kept.range; generation = refl; opened = refl; sound = kept.sound; held = kept.held })
      (subst (λ stage. StageIs texts run v r stage) opening kept.stage) lists)
