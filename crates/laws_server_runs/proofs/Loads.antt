-- What is kept of a range through the rules that show nothing: a Get, giving up, and a load up to its confirmation.
use Rattle.std.proofs.Common.{◌≡◌, ◌≤◌, ℕ, true, List, [], ◌∷◌, ◌++◌, Option, Some, None, option_map, ◌∙◌, refl, sym, ap, subst, inl}
use Rattle.std.proofs.lemmas.List.{append-nil}
use Rattle.wire.specs.declared.actor.ActorId.{ActorId}
use Rattle.wire.specs.declared.actor.ReqNo.{ReqNo}
use Rattle.wire.specs.declared.note.Note.{Note}
use Rattle.wire.specs.declared.packet.Packet.{Packet}
use Rattle.wire.specs.declared.refusal.Refusal.{Refusal}
use Rattle.wire.specs.declared.streams.StreamKind.TheVariants as kinds
use Rattle.wire.specs.declared.streams.StreamList.{StreamList}
use Rattle.memtable.specs.declared.cell.Place.{Place}
use Rattle.client.specs.declared.job.Job.TheVariants as jobs
use Rattle.client.specs.Client.{ClientState}
use Rattle.model_partition.specs.declared.server_context.ServerContext.{ServerContext}
use Rattle.model_partition.specs.declared.stage.Stage.{Stage}
use Rattle.model_partition.specs.declared.stage.Stage.TheVariants as stages
use Rattle.model_partition.specs.declared.waiting.PlaceRead.{PlaceRead}
use Rattle.model_partition.specs.declared.waiting.WaitingGet.{WaitingGet}
use Rattle.model_partition.specs.Past.{Bytes}
use Rattle.model_partition.specs.Range.{RangeState, RangeOutcome, request, used, picking, dropped, is_serving}
use Rattle.model_partition.specs.Getting.{get_fault, gets, get_rule, standing}
use Rattle.model_partition.specs.Answering.{give_up_all}
use Rattle.model_partition.specs.Server.{new_range}
use Rattle.model_histories.specs.ServerRun.{first_history}
use Rattle.model_histories.specs.StreamActions.{first_start}
use Rattle.model_histories.specs.ServedTables.{AreSeenAs}
use Rattle.model_histories.specs.Log.{without_gots}
use Rattle.laws_loads.proofs.WaitingStays.{new_sound}
use Rattle.laws_loads.specs.RangeView.{RangeView}
use Rattle.laws_tables.specs.Runs.{Run, Serving, first_beginning, held as held_by}
use Rattle.model_partition.specs.CheckpointStates.{CheckpointState}
use Rattle.laws_checkpoints.specs.ShownTables.{HoldsBytes}
use Rattle.laws_server_runs.proofs.HeldBytes.{holds_used}
use Rattle.laws_server_runs.specs.CheckpointInvariant.{AppendsRows, AppendsMetadata, ReadsNext}
use Rattle.laws_server_runs.proofs.MetadataJobs.{metadata_gives_up}
use Rattle.laws_server_runs.proofs.RowAppends.{idle_gives_up, give_up_appends, base_given_up}
use Rattle.model_partition.specs.PlaceReads.{moved_on}
use Rattle.laws_server_runs.specs.RangeInvariant.{ReadsMetadata, ReadsLog, Matches, StageIs, RangeKept, StreamsKept, AreObserved, Rests, KeptIf, ServesAnew, StepKept}
use Rattle.laws_server_runs.proofs.GetNotes.{AreGots, try_gots, gots_seen}

-- ---- the same range, but for what nothing is kept of

module _ (texts : ℕ → Bytes) (subject : ℕ) (run : Run) (v : RangeView) (r : RangeState) (until : ℕ) (metadata log : ClientState) (rows : ClientState) (blob_data : StreamList) (reading : Option PlaceRead) (gets : List WaitingGet) (held : List (Place × List ℕ))
    (metadata_idle : r.metadata.job ≡ jobs.Idle → metadata.job ≡ jobs.Idle) (metadata_on : is_serving r.stage ≡ true → AppendsMetadata r.metadata.job v.split r.control → AppendsMetadata metadata.job v.split r.control) (log_idle : r.log.job ≡ jobs.Idle → log.job ≡ jobs.Idle)
    (log_base : log.base ≡ r.log.base) (rows_same : (control : Option CheckpointState) → AppendsRows r.rows control → AppendsRows rows control) (reading_same : (read : PlaceRead) → r.reading ≡ Some read → (z : PlaceRead) × (reading ≡ Some z) × (z.place ≡ read.place))
    (reading_was : (read : PlaceRead) → reading ≡ Some read → (z : PlaceRead) × (r.reading ≡ Some z) × (read.place ≡ z.place)) (held_same : HoldsBytes texts r.held → HoldsBytes texts held) where
  abbrev other : RangeState
  other = record r { until = until; metadata = metadata; log = log; rows = rows; blob_data = blob_data; reading = reading; gets = gets; held = held }

  metadata_same : ReadsMetadata v.history r → ReadsMetadata v.history other
  metadata_same h = record { said = h.said; log = h.log; live = h.live; fixed = h.fixed; idle = log_idle h.idle; none = h.none; indexes = h.indexes; rows = rows_same None h.rows }

  log_same : ReadsLog v.history r → ReadsLog v.history other
  log_same h = record { said = h.said; made = h.made; fixed = h.fixed; idle = metadata_idle h.idle; none = h.none; rows = rows_same None h.rows; begins = subst (λ n. n ≤ (first_start r.said.regions).index) (sym log_base) h.begins }

  -- a read of the same place is that of the page that is merged next
  next_same : (control : Option CheckpointState) → ReadsNext r.reading control → ReadsNext reading control
  next_same None next = tt
  next_same (Some job) next = λ read place out first.
      let old : (z : PlaceRead) × (r.reading ≡ Some z) × (read.place ≡ z.place) = reading_was read out in
      old.2 ∙ next old.0 place old.1 first

  matches_same : is_serving r.stage ≡ true → (s : Serving) → Matches texts v s r → Matches texts v s other
  matches_same serves s m = record {
    position = m.position;
    next = m.next;
    out = m.out;
    live = m.live;
    checkpoint = m.checkpoint;
    said = m.said;
    installed = m.installed;
    ordered = m.ordered;
    named = m.named;
    rows = rows_same r.control m.rows;
    reads = next_same r.control m.reads;
    beside = m.beside;
    metadata = metadata_on serves m.metadata;
  }

  stage_same : (stage : Stage) → r.stage ≡ stage → StageIs texts run v r stage → StageIs texts run v other stage
  stage_same stages.Opening e h = record { metadata = h.metadata; log = h.log; live = h.live; fixed = h.fixed; none = h.none; indexes = h.indexes; rows = rows_same None h.rows }
  stage_same (stages.Checking kinds.Metadata) e h = metadata_same h
  stage_same (stages.Checking kinds.Log) e h = (log_same h.0, h.1)
  stage_same (stages.Checking kinds.RowData) e h = h
  stage_same (stages.Checking kinds.BlobData) e h = h
  stage_same (stages.Reading kinds.Metadata position) e h = metadata_same h
  stage_same (stages.Reading kinds.Log position) e h = (log_same h.0, h.1)
  stage_same (stages.Reading kinds.RowData position) e h = h
  stage_same (stages.Reading kinds.BlobData position) e h = h
  stage_same (stages.Indexing position) e h =
      let z : (z : PlaceRead) × (reading ≡ Some z) × (z.place ≡ h.1.read.place) = reading_same h.1.read h.1.out in
      (record { log = log_same h.0.log; installed = h.0.installed }, record { read = z.0; named = h.1.named; out = z.1; next = h.1.next; place = z.2 ∙ h.1.place })
  stage_same stages.Confirming e h = record { log = log_same h.log; installed = h.installed }
  stage_same stages.Serving e h = record { shown = h.shown; matches = matches_same (ap is_serving e) (held_by first_beginning run r.load.generation) h.matches }

  -- the end of the lease, what the clients know, the other streams and the Gets may be others
  pub same_kept : RangeKept texts subject run v r → RangeKept texts subject run v other
  same_kept kept = record { range = kept.range; phase = kept.phase; sound = kept.sound; stage = stage_same r.stage refl kept.stage; held = held_same kept.held }

-- the lease of a range is renewed
pub renewed_kept : (texts : ℕ → Bytes) (subject : ℕ) (run : Run) (v : RangeView) (r : RangeState) → RangeKept texts subject run v r → (until : ℕ) → RangeKept texts subject run v (record r { until = until })
renewed_kept texts subject run v r kept until = same_kept texts subject run v r until r.metadata r.log r.rows r.blob_data r.reading r.gets r.held (λ e. e) (λ e a. a) (λ e. e) refl (λ control a. a) (λ read e. (read, e, refl)) (λ read e. (read, e, refl)) (λ h. h) kept

-- a range whose load begins
pub new_kept : (texts : ℕ → Bytes) (subject : ℕ) (run : Run) (v : RangeView) (d : ServerContext) → v.history ≡ first_history → (generation until : ℕ) → RangeKept texts subject run v (new_range d subject generation until)
new_kept texts subject run v d first generation until =
    record {
      range = refl;
      phase = (request d, refl);
      sound = new_sound d subject generation until;
      stage = record { metadata = ap (λ h. h.reads kinds.Metadata) first; log = ap (λ h. h.reads kinds.Log) first; live = refl; fixed = refl; none = refl; indexes = refl; rows = refl };
      held = tt;
    }

-- ---- a step that shows nothing

-- where nothing is shown the observations are as they were
pub silent_seen : (texts : ℕ → Bytes) (subject : ℕ) (run : Run) (before later : List Note) → AreObserved texts subject run before → AreSeenAs texts [] later → AreObserved texts subject run (before ++ without_gots later)
silent_seen texts subject run before [] old told = subst (λ notes. AreObserved texts subject run notes) (sym (append-nil before)) old
silent_seen texts subject run before (note ∷ later) old told = absurd told

-- a step that does nothing with streams and shows nothing but Gets
calm_gots : (texts : ℕ → Bytes) (subject : ℕ) (run : Run) (v : RangeView) (r : RangeState) (o : RangeOutcome) → StreamsKept texts run v → (range g : ℕ) → AreGots range g o.notes →
    KeptIf texts subject run v r.load.generation o.after → ServesAnew texts run r o.after → StepKept texts subject run v r [] o
calm_gots texts subject run v r o streams range g gots kept anew = record {
  next = run;
  goes = Rests;
  alone = inl refl;
  kept = kept;
  streams = streams;
  longer = ([], refl);
  anew = anew;
  seen = λ before later old told. gots_seen texts subject run range g o.notes before later gots old told;
}

-- or nothing at all
pub calm_kept : (texts : ℕ → Bytes) (subject : ℕ) (run : Run) (v : RangeView) (r : RangeState) (o : RangeOutcome) → StreamsKept texts run v → o.notes ≡ [] →
    KeptIf texts subject run v r.load.generation o.after → ServesAnew texts run r o.after → StepKept texts subject run v r [] o
calm_kept texts subject run v r o streams quiet kept anew = calm_gots texts subject run v r o streams 0 0 (subst (AreGots 0 0) (sym quiet) tt) kept anew

module _ (texts : ℕ → Bytes) (subject : ℕ) (run : Run) (v : RangeView) (r : RangeState) (kept : RangeKept texts subject run v r) (streams : StreamsKept texts run v) (d : ServerContext) where
  -- nothing is done with a stream, and the range stays at its stage
  pub rests_kept : (until : ℕ) (metadata log : ClientState) (gets : List WaitingGet) (held : List (Place × List ℕ)) (count : ℕ) (packets : List Packet) →
      (r.metadata.job ≡ jobs.Idle → metadata.job ≡ jobs.Idle) → (is_serving r.stage ≡ true → AppendsMetadata r.metadata.job v.split r.control → AppendsMetadata metadata.job v.split r.control) → (r.log.job ≡ jobs.Idle → log.job ≡ jobs.Idle) → log.base ≡ r.log.base → (HoldsBytes texts r.held → HoldsBytes texts held) →
      StepKept texts subject run v r []
      (record { after = Some (record r { until = until; metadata = metadata; log = log; gets = gets; held = held }); count = count; packets = packets; notes = [] })
  rests_kept until metadata log gets held count packets metadata_idle metadata_on log_idle log_base held_same =
      calm_kept texts subject run v r
      (record { after = Some (record r { until = until; metadata = metadata; log = log; gets = gets; held = held }); count = count; packets = packets; notes = [] })
      streams refl (same_kept texts subject run v r until metadata log r.rows r.blob_data r.reading gets held metadata_idle metadata_on log_idle log_base (λ control a. a) (λ read e. (read, e, refl)) (λ read e. (read, e, refl)) held_same kept, refl) (λ serves. inl serves)

  gets_kept : (from : ActorId) (q : ReqNo) (key : List ℕ) (fault : Option Refusal) → StepKept texts subject run v r [] (gets d r from q key fault)
  gets_kept from q key (Some refusal) = rests_kept r.until r.metadata r.log r.gets r.held _ _ (λ e. e) (λ e a. a) (λ e. e) refl (λ h. h)
  gets_kept from q key None =
      calm_gots texts subject run v r (gets d r from q key None) streams r.load.range r.load.generation (try_gots d r (record { from = from; request = q; key = key; reads = [] })) (
        same_kept texts subject run v r r.until r.metadata r.log r.rows r.blob_data r.reading _ _ (λ e. e) (λ e a. a) (λ e. e) refl (λ control a. a) (λ read e. (read, e, refl)) (λ read e. (read, e, refl))
            (holds_used texts r.held r.indexes key (standing r key)) kept,
        refl,
      )
      (λ serves. inl serves)

  -- a Get
  pub get_kept : (from : ActorId) (q : ReqNo) (key : List ℕ) → StepKept texts subject run v r [] (get_rule d r from q key)
  get_kept from q key = gets_kept from q key (get_fault d r key)

  -- a range of an old generation is dropped
  pub dropped_kept : StepKept texts subject run v r [] (dropped d r)
  dropped_kept = calm_kept texts subject run v r (dropped d r) streams refl tt tt

  -- a read that goes to another place is one of the same bytes
  moved : (reading : Option PlaceRead) (read : PlaceRead) → reading ≡ Some read → (z : PlaceRead) × (option_map moved_on reading ≡ Some z) × (z.place ≡ read.place)
  moved reading read e = (moved_on read, ap (option_map moved_on) e, refl)

  was_moved : (reading : Option PlaceRead) (read : PlaceRead) → option_map moved_on reading ≡ Some read → (z : PlaceRead) × (reading ≡ Some z) × (read.place ≡ z.place)
  was_moved None read e = absurd cc
  was_moved (Some z) read e = let same : moved_on z ≡ read = cc in (z, refl, ap (λ (x : PlaceRead). x.place) (sym same))

  -- the jobs of the range give up
  pub give_up_kept : StepKept texts subject run v r [] (give_up_all d r)
  give_up_kept =
      calm_kept texts subject run v r (give_up_all d r) streams refl (
        same_kept texts subject run v r r.until _ _ _ r.blob_data _ _ r.held (idle_gives_up (picking d r.metadata) (request (used d)) d.pick) (λ e a. metadata_gives_up (picking d r.metadata) (request (used d)) d.pick v.split r.control a) (idle_gives_up (picking d r.log) (request d) d.pick)
            (base_given_up (picking d r.log) (request d) r.log.job) (give_up_appends (picking d r.rows) (request (used (used d))) d.pick) (moved r.reading) (was_moved r.reading) (λ h. h) kept,
        refl,
      )
      (λ serves. inl serves)
