-- The record of a checkpoint comes to stand: the metadata says it, the fixed layer goes, and the log may be trimmed.
use Rattle.std.proofs.Common.{◌≡◌, ℕ, ◌+◌, ◌≤◌, [], ◌∷◌, ◌++◌, Bool, Option, Some, None, refl, sym, ap, ◌∙◌, subst, inl}
use Rattle.block_types.specs.Limits.{group_size}
use Rattle.wire.specs.declared.actor.ReqNo.{ReqNo}
use Rattle.wire.specs.declared.body.AppendBody.{AppendBody}
use Rattle.wire.specs.declared.body.AppendBody.TheVariants as appends
use Rattle.wire.specs.declared.body.Body.{Body}
use Rattle.wire.specs.declared.body.Body.TheVariants as bodies
use Rattle.wire.specs.declared.body.StreamBody.{StreamBody}
use Rattle.wire.specs.declared.body.StreamBody.TheVariants as streams
use Rattle.wire.specs.declared.refusal.Refusal.TheVariants as refusals
use Rattle.wire.specs.declared.streams.StreamKind.TheVariants as kinds
use Rattle.memtable.specs.declared.cell.Place.{Place}
use Rattle.metadata.specs.Fold.{taken}
use Rattle.client.specs.Client.{ClientState}
use Rattle.model_partition.specs.declared.checkpoint_job.CheckpointPhase.{CheckpointPhase}
use Rattle.model_partition.specs.declared.checkpoint_job.CheckpointPhase.TheVariants as checkpoints
use Rattle.model_partition.specs.declared.server_context.ServerContext.{ServerContext}
use Rattle.model_partition.specs.Answering.{load_refused, trim_reply}
use Rattle.model_partition.specs.CheckpointStates.{CheckpointState}
use Rattle.model_partition.specs.Checkpoints.{recorded, trim_index, trim_told, trim_reply_in}
use Rattle.model_partition.specs.Past.{Bytes}
use Rattle.model_partition.specs.Range.{RangeState}
use Rattle.model_histories.specs.ServerRun.{place_number}
use Rattle.model_histories.specs.StreamActions.{Stands, last_position, record_group}
use Rattle.laws_loads.specs.RangeView.{RangeView, Free, view_after}
use Rattle.laws_tables.specs.Runs as chains
use Rattle.laws_tables.specs.Runs.{Event, Run, Serving, first_beginning, held, items_out, said, start_number, IsServing, MayInChain}
use Rattle.laws_checkpoints.specs.IndexLayers.{layer_at}
use Rattle.laws_checkpoints.proofs.CheckpointRecords.{said_with, may_trim, recorded_installed}
use Rattle.laws_server_runs.specs.CheckpointInvariant.{item_of, parts_of, entries_to_write, HasRecordOut, HoldsPhase, HoldsCheckpoint, AppendsPhase, AppendsRows, AppendsMetadata, MetadataPhase, out_beside}
use Rattle.client.specs.declared.job.Job.TheVariants as jobs
use Rattle.model_histories.specs.ServedTables.{AllStand}
use Rattle.laws_server_runs.specs.RangeInvariant.{IsOfPages, Matches}
use Rattle.laws_server_runs.proofs.NamedIndexes.{one_more_named}
use Rattle.laws_server_runs.proofs.CheckpointBegins.{MatchesIf, nothing_next}
use Rattle.laws_server_runs.proofs.MetadataJobs.{is_free, free_beside, free_none, some_out, idle_metadata}
use Rattle.laws_server_runs.proofs.Others.{serving_on}
use Rattle.laws_server_runs.proofs.ServedNotes.{same_here}
use Rattle.checkpoint.specs.Merges.{no_merge}
use Rattle.memtable.specs.Entries.{Entries}

module _ (texts : ℕ → Bytes) where
  -- what the run of a range has where its record stands at an offset: the answer, and a Trim of what stands before the checkpoint's position
  abbrev pub answer_event : RangeView → RangeState → CheckpointState → Place → ℕ → Event
  answer_event v r job index offset =
      chains.Recorded r.load.generation (v.history.append kinds.Metadata) (place_number (last_position r.metadata offset))
      (place_number (last_position r.metadata offset) + group_size (record_group r job index))

  abbrev pub trim_event : RangeState → CheckpointState → Event
  trim_event r job = chains.Trims r.load.generation (place_number (record { index = trim_index r.log job.position; offset = 0 }))

  module _ (v : RangeView) (s : Serving) (r : RangeState) (m : Matches texts v s r) (job : CheckpointState) (index : Place) (h : HasRecordOut texts (parts_of v s r) job index) (free : v.split ≡ Free) where
    is_out : s.record_out ≡ Some (record { append = v.history.append kinds.Metadata; group = chains.record_group r.said.next (item_of job index) })
    is_out = some_out v.split s.record_out _ h.out

    -- what the record adds
    records_now : s.records ++ items_out s.record_out ≡ s.records ++ item_of job index ∷ []
    records_now = ap (λ o. s.records ++ items_out o) is_out

    -- ---- what may happen

    module _ (run : Run) (same : held first_beginning run r.load.generation ≡ s) (serving : IsServing run r.load.generation) (offset : ℕ) where
      -- the record is answered
      pub may_answer : MayInChain (layer_at texts) first_beginning run (answer_event v r job index offset)
      may_answer = (serving, chains.record_group r.said.next (item_of job index), ap (λ z. z.record_out) same ∙ is_out)

      -- and then the log is trimmed
      pub may_trim_log : MayInChain (layer_at texts) first_beginning (answer_event v r job index offset ∷ run) (trim_event r job)
      may_trim_log = (serving_on (answer_event v r job index offset) run r.load.generation serving, subst (λ records. place ≤ start_number (said first_beginning records).regions) (sym is) (may_trim first_beginning s.records r job index))
        where
          place : ℕ
          place = place_number (record { index = trim_index r.log job.position; offset = 0 })

          is : (held first_beginning (answer_event v r job index offset ∷ run) r.load.generation).records ≡ s.records ++ item_of job index ∷ []
          is = ap (λ (z : Serving). z.records) (same_here r.load.generation _ _) ∙ ap (λ (z : Serving). z.records ++ items_out z.record_out) same ∙ records_now

    -- ---- what is held then

    abbrev pub now_taken : ClientState → CheckpointState → RangeState
    now_taken c next = record (recorded (record r { metadata = c }) job index) { control = Some next }

    pub recorded_match : (e offset : ℕ) (c : ClientState) (next : CheckpointState) → (before : ℕ) (to_blob : Bool) (q : ReqNo) → next.phase ≡ checkpoints.Trim before to_blob q → next.merge ≡ no_merge → AllStand texts v.answered → r.rows.job ≡ jobs.Idle → c.job ≡ jobs.Idle →
        Matches texts (view_after r.load.generation v (Stands kinds.Metadata e (last_position r.metadata offset) (record_group r job index))) (chains.recorded s) (now_taken c next)
    recorded_match e offset c next before to_blob q waits merged stand idle ended = record {
      position = m.position;
      next = m.next;
      out = m.out;
      live = λ all. m.live all.1;
      checkpoint = subst
          (λ phase. HoldsPhase texts (parts_of (view_after r.load.generation v (Stands kinds.Metadata e (last_position r.metadata offset) (record_group r job index))) (chains.recorded s) (now_taken c next)) next phase)
          (sym waits) (record { entries = refl; layer = refl; noted = refl; record_out = ap (λ x. out_beside x None) free }, merged);
      said = ap (λ z. taken z (item_of job index)) m.said ∙ sym (said_with first_beginning s.records (item_of job index)) ∙ ap (said first_beginning) (sym records_now);
      installed = recorded_installed texts r job entries index (h.written stand) m.installed;
      ordered = m.ordered;
      named = one_more_named (IsOfPages texts) r.said (item_of job index)
          (inl (record {
            combine = job.combine;
            index = index;
            position = job.position;
            next = job.next;
            is = refl;
            fits = h.writes.noted.position;
            holds = (job.pages.index, entries, h.written stand, h.filed stand);
          }))
          tt m.named;
      rows = subst (AppendsPhase r.rows next) (sym waits) idle;
      reads = nothing_next texts r.reading next merged;
      beside = free_beside v.split free _ None (Some next) _;
      metadata = idle_metadata c.job ended v.split (free_none v.split free) (Some next);
    }
      where
        entries : Entries
        entries = entries_to_write texts (parts_of v s r) job h.writes.noted.fixed

  -- ---- the Trim

  module _ (v : RangeView) (s : Serving) (r : RangeState) (m : Matches texts v s r) (d : ServerContext) where
    trim_told_match : (job : CheckpointState) → r.control ≡ Some job → (phase : CheckpointPhase) → job.phase ≡ phase → HoldsPhase texts (parts_of v s r) job phase → AppendsPhase r.rows job phase → (body : StreamBody) → MatchesIf texts v s (trim_told d r phase body).after
    trim_told_match job under_way (checkpoints.Trim before to_blob q) is h idle (streams.Trimmed w) =
        let free : v.split ≡ Free = is_free v.split (v.history.append kinds.Metadata) s.record_out r.control r.said.next job under_way m.beside in
        let waits : MetadataPhase r.metadata.job (checkpoints.Trim before to_blob q) = subst (MetadataPhase r.metadata.job) is (subst (AppendsMetadata r.metadata.job v.split) under_way m.metadata) in
        record { position = m.position; next = m.next; out = m.out; live = m.live; checkpoint = h.0; said = m.said; installed = m.installed; ordered = m.ordered; named = m.named; rows = idle; reads = tt; beside = free_beside v.split free _ _ None _; metadata = idle_metadata r.metadata.job waits v.split (free_none v.split free) None }
    trim_told_match job under_way phase is h idle body = m

    trim_match : (control : Option CheckpointState) → r.control ≡ control → HoldsCheckpoint texts (parts_of v s r) control → AppendsRows r.rows control → (body : StreamBody) → MatchesIf texts v s (trim_reply_in d r control body).after
    trim_match None is h appends body = m
    trim_match (Some job) is h appends body = trim_told_match job is job.phase refl h appends body

    refused_match : (body : AppendBody) → MatchesIf texts v s (load_refused d r body).after
    refused_match (appends.Refused w refusals.Stale) = tt
    refused_match body = m

    -- the answer to it, whatever is under way
    pub trim_reply_match : (body : Body) → MatchesIf texts v s (trim_reply d r body).after
    trim_reply_match (bodies.Stream body) = trim_match r.control refl m.checkpoint m.rows body
    trim_reply_match (bodies.Append body) = refused_match body
    trim_reply_match body = m
