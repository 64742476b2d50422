-- The steps of a checkpoint at a range that is served: what they leave is what a run of the range says that goes on with what they may do.
use Rattle.std.proofs.Common.{◌≡◌, ℕ, ◌<◌, ◌≤◌, ◌^◌, nat_lt, List, [], ◌∷◌, ◌++◌, length, Bool, true, false, Option, Some, None, refl, sym, ap, ◌∙◌, subst, inl}
use Rattle.std.specs.Prelude.{if◌then◌else◌}
use Rattle.std.proofs.lemmas.Bool.{ltb-true}
use Rattle.model_streams.proofs.Tests.{if_elim}
use Rattle.wire.specs.declared.body.AppendBody.TheVariants as appends
use Rattle.wire.specs.declared.body.Body.{Body}
use Rattle.wire.specs.declared.body.Body.TheVariants as bodies
use Rattle.wire.specs.declared.body.ReadBody.TheVariants as reads
use Rattle.wire.specs.declared.note.Note.{Note}
use Rattle.wire.specs.declared.packet.Packet.{Packet}
use Rattle.wire.specs.declared.streams.StreamKind.TheVariants as kinds
use Rattle.memtable.specs.declared.cell.Place.{Place}
use Rattle.metadata.specs.Record.{IsNext}
use Rattle.replica.specs.Groups.{joined}
use Rattle.client.specs.declared.job.News.{News}
use Rattle.client.specs.declared.job.News.TheVariants as news
use Rattle.client.specs.Client.{ClientState, append_rule}
use Rattle.checkpoint.specs.Contents.{AreEntries}
use Rattle.checkpoint.specs.PageGroups.{next_pages, pages_size, may_stand_at}
use Rattle.model_partition.specs.declared.checkpoint_job.CheckpointPhase.{CheckpointPhase}
use Rattle.model_partition.specs.declared.checkpoint_job.CheckpointPhase.TheVariants as checkpoints
use Rattle.model_partition.specs.declared.server_context.ServerContext.{ServerContext}
use Rattle.model_partition.specs.Answering.{page_reply, trim_reply}
use Rattle.model_partition.specs.CheckpointStates.{CheckpointState, last_job}
use Rattle.model_partition.specs.Checkpoints.{number_to_apply, checkpoint_rule, may_record, index_place, with_phase, records, combines, begins_pages, begins_combining, have_bytes, index_stands, rows_stand, rows_told, have_places, recorded, record_stands, record_told, trim_index, trims}
use Rattle.model_partition.specs.Past.{Bytes}
use Rattle.model_partition.specs.Range.{RangeState, RangeOutcome, request, goes, given, picking}
use Rattle.model_histories.specs.Renaming.{renamed_event, decoded_record}
use Rattle.model_histories.specs.ServedTables.{AllStand}
use Rattle.model_histories.specs.StreamActions.{PlacedBytes, Forms, Stands, Finds, Stores, StreamAction, bytes_actions, last_position, record_group, record_stood_in, record_stood, record_actions, index_stood_in, index_stood}
use Rattle.laws_loads.proofs.Renaming.{mapped_length}
use Rattle.laws_loads.specs.RangeView.{RangeView, Free, view_after, view_after_all, metadata_of}
use Rattle.laws_loads.specs.Sound.{OutFits}
use Rattle.laws_tables.specs.Runs as chains
use Rattle.laws_tables.specs.Runs.{Run, Serving, first_beginning, held, noting, IsServing}
use Rattle.laws_server_runs.specs.CheckpointInvariant.{item_of, parts_of, HasRecordOut, HoldsPhase, HoldsCheckpoint, AppendsPhase, AppendsRows, AppendsMetadata, entries_to_write}
use Rattle.laws_server_runs.specs.RangeInvariant.{IsOfPages, Matches, StreamsKept, AreObserved, GoesOn, Rests, Adds, IsLonger, InOrder}
use Rattle.laws_server_runs.specs.Places.{AreLow}
use Rattle.laws_server_runs.proofs.CheckpointNumbers.{HaveBytes, bytes_had, entries_writable, number_is_next}
use Rattle.laws_server_runs.proofs.CheckpointBegins.{MatchesIf, plain_begins, may_note}
use Rattle.laws_server_runs.proofs.CheckpointRecorded.{answer_event, trim_event, may_answer, may_trim_log, now_taken, recorded_match, trim_reply_match}
use Rattle.laws_server_runs.proofs.CheckpointRows.{below, GroupStands, StandsRightlyIf, pages_go, group_spells, written_there, filed_there, may_append, records_match}
use Rattle.laws_server_runs.proofs.CheckpointStreams.{noted_streams, trimmed_streams, recording_streams, recorded_streams}
use Rattle.laws_server_runs.proofs.MetadataJobs.{HasNoRecord, MetadataLeft, TellsOther, is_free, no_record, idle_metadata}
use Rattle.laws_server_runs.proofs.ServedNotes.{same_here, view_both}
use Rattle.laws_server_runs.proofs.Fronts.{longer_twice}
use Rattle.laws_server_runs.proofs.HeldCheckpoints.{longer_holds}
use Rattle.laws_server_runs.proofs.Others.{streams_same}
use Rattle.client.specs.declared.job.Job.TheVariants as jobs
use Rattle.laws_checkpoints.specs.ShownTables.{HoldsBytes}
use Rattle.laws_loads.proofs.Cells.{taken_there}
use Rattle.laws_server_runs.proofs.CheckpointMerges.{combining_begins, page_reply_match}
use Rattle.model_partition.specs.Loading.{Group}

module _ (texts : ℕ → Bytes) (subject : ℕ) where
  -- What a step of a range that is served leaves, whatever checkpoint is under way. It shows nothing.
  pub record CheckpointStep (run : Run) (v : RangeView) (r : RangeState) (actions : List StreamAction) (o : RangeOutcome) : Type 0 where
    pub next : Run
    pub goes : GoesOn r.load.generation run next
    pub shown : IsServing next r.load.generation
    pub matches : MatchesIf texts (view_after_all r.load.generation v actions) (held first_beginning next r.load.generation) o.after
    pub streams : StreamsKept texts next (view_after_all r.load.generation v actions)
    pub longer : IsLonger v.answered (view_after_all r.load.generation v actions).answered
    pub seen : (notes : List Note) → AreObserved texts subject run notes → AreObserved texts subject next notes

  module _ (run : Run) (v : RangeView) (r : RangeState) (m : Matches texts v (held first_beginning run r.load.generation) r) (serving : IsServing run r.load.generation) (streams : StreamsKept texts run v) (d : ServerContext) where
    abbrev g : ℕ
    g = r.load.generation

    abbrev s : Serving
    s = held first_beginning run g

    -- the run does not go on
    rests_step : (o : RangeOutcome) → MatchesIf texts v s o.after → CheckpointStep run v r [] o
    rests_step o matches = record {
      next = run;
      goes = Rests;
      shown = serving;
      matches = matches;
      streams = streams;
      longer = ([], refl);
      seen = λ notes old. old;
    }

    -- ---- it begins

    -- The range has no checkpoint, its live layer can be written in pages, and its position and its next number in a record.
    noting_step : r.control ≡ None → v.split ≡ Free → (o : RangeOutcome) → MatchesIf texts v (noting s) o.after → CheckpointStep run v r [] o
    noting_step none free o matches = record {
      next = chains.Notes g ∷ run;
      goes = Adds _ run Rests refl;
      shown = serving;
      matches = subst (λ z. MatchesIf texts v z o.after) (sym (same_here g (noting s) s)) matches;
      streams = noted_streams texts run v streams g (may_note texts run v r serving m none free);
      longer = ([], refl);
      seen = λ notes old. old;
    }

    -- it begins where all its numbers have their bytes, and else nothing does
    pub begins_step : (combine : Bool) → r.control ≡ None → v.split ≡ Free → AreLow r.live → OutFits r.out → 1 ≤ r.next → HoldsBytes texts r.held → CheckpointStep run v r [] (checkpoint_rule d r combine)
    begins_step combine none free low fits numbered right =
        if_elim (λ (o : RangeOutcome). CheckpointStep run v r [] o) (have_bytes r.live r.position (number_to_apply r.out r.next)) _ _
        (λ t. (let n : HaveBytes r.live r.position (number_to_apply r.out r.next) = bytes_had r.live r.position (number_to_apply r.out r.next) t in
        let are : AreEntries r.live = entries_writable r.live low n.extents in
        let number : IsNext (number_to_apply r.out r.next) = number_is_next r.out r.next fits numbered n.number in
        if_elim (λ (o : RangeOutcome). CheckpointStep run v r [] o) (combines combine r.indexes) _ _
        (λ t. noting_step none free (begins_combining d r) (combining_begins texts v s r m none are n.place number fits free d right))
        (λ f. noting_step none free (begins_pages d r) (plain_begins texts v s r m none are n.place number fits free d))))
        (λ f. rests_step _ m)

    -- ---- a page has come

    -- bytes that were found
    module _ (found : PlacedBytes) where
      abbrev found_view : RangeView
      found_view = view_after g v (Finds found)

      pub found_matches : Matches texts found_view s r
      found_matches = record {
        position = m.position;
        next = m.next;
        out = m.out;
        live = m.live;
        checkpoint = m.checkpoint;
        said = m.said;
        installed = m.installed;
        ordered = m.ordered;
        named = m.named;
        rows = m.rows;
        reads = m.reads;
        beside = m.beside;
        metadata = m.metadata;
      }

      found_step : (o : RangeOutcome) → MatchesIf texts found_view s o.after → CheckpointStep run v r (Finds found ∷ []) o
      found_step o matches = record {
        next = run;
        goes = Rests;
        shown = serving;
        matches = matches;
        streams = streams_same texts run v found_view refl refl streams;
        longer = ([], refl);
        seen = λ notes old. old;
      }

    -- the answer to the read of a page, whose bytes stand
    pub page_step : HoldsBytes texts r.held → (body : Body) → InOrder texts (view_after_all g v (bytes_actions body)) → CheckpointStep run v r (bytes_actions body) (page_reply d r body)
    page_step right (bodies.Read (reads.Bytes w e offset bytes)) order =
        let found : PlacedBytes = record { extent = e; offset = offset; bytes = bytes } in
        found_step found (page_reply d r (bodies.Read (reads.Bytes w e offset bytes)))
        (page_reply_match texts (found_view found) s r (found_matches found) right d (bodies.Read (reads.Bytes w e offset bytes)) (taken_there (texts e) offset bytes order.shown.0))
    page_step right (bodies.Read body) order = rests_step _ m
    page_step right (bodies.Append (appends.Refused w why)) order = rests_step _ (page_reply_match texts v s r m right d (bodies.Append (appends.Refused w why)) tt)
    page_step right (bodies.Append body) order = rests_step _ m
    page_step right body order = rests_step _ m

    -- ---- row data

    counted : length (chains.meta_of run) ≡ length (metadata_of v)
    counted = ap length streams.metadata ∙ mapped_length (renamed_event decoded_record) (metadata_of v)

    module _ (all : AllStand texts v.answered) (idle : r.rows.job ≡ jobs.Idle) where
      index_holds : (job : CheckpointState) (there : r.control ≡ Some job) (h : HoldsPhase texts (parts_of v s r) job checkpoints.Index) (e offset : ℕ) (known : e < 2 ^ 64) (low : offset < 2 ^ 32) →
          (AllStand texts v.answered → GroupStands texts job checkpoints.Index e offset) → may_record r job ≡ true → IsOfPages texts (index_place job e offset)
      index_holds job there h e offset known low stands may = (
        job.pages.index,
        entries_to_write texts (parts_of v s r) job h.0.noted.fixed,
        written_there texts v s r m d job there h e offset known low stands may all,
        filed_there texts v s r m d job there h e offset known low stands may all,
      )

      index_step : (job : CheckpointState) → r.control ≡ Some job → HoldsPhase texts (parts_of v s r) job checkpoints.Index → (e offset : ℕ) → e < 2 ^ 64 → may_stand_at job.pages offset ≡ true →
          (AllStand texts v.answered → GroupStands texts job checkpoints.Index e offset) →
          CheckpointStep run v r (index_stood_in r job checkpoints.Index e offset) (index_stands d r job e offset)
      index_step job there h e offset known room stands = by (may_record r job) refl
        where
          low : offset < 2 ^ 32
          low = below offset (pages_size (next_pages job.pages)) room

          by : (b : Bool) → may_record r job ≡ b →
              CheckpointStep run v r (if b then Forms kinds.Metadata (record_group r job (index_place job e offset)) ∷ [] else []) (if b then records d r job (index_place job e offset) else goes d r [] [])
          by false none = rests_step (goes d r [] []) m
          by true may =
              let place : Place = index_place job e offset in
              let c : ClientState = (given (picking d r.metadata) (append_rule (picking d r.metadata) (request d) (record_group r job place))).after in
              let spells : decoded_record (record_group r job place) ≡ chains.record_group r.said.next (item_of job place) = group_spells texts v s r m d job there h e offset known low stands may in
              record {
                next = chains.Records g r.said.next (item_of job place) ∷ run;
                goes = Adds _ run Rests refl;
                shown = serving;
                matches = subst (λ z. Matches texts (view_after g v (Forms kinds.Metadata (record_group r job place))) z (record r { metadata = c; control = Some (with_phase job (checkpoints.Record place)) }))
                    (sym (same_here g _ _)) (records_match texts v s r m d job there h e offset known low stands may (length (chains.meta_of run)) counted c idle);
                streams = recording_streams texts run v streams g r.said.next (item_of job place) (record_group r job place) spells
                    (inl (record { number = r.said.next; combine = job.combine; index = place; position = job.position; next = job.next; spells = spells; fits = h.0.noted.position; holds = index_holds job there h e offset known low stands may }))
                    (may_append texts v s r m d job there h e offset known low stands may run refl serving all);
                longer = ([], refl);
                seen = λ notes old. old;
              }

      rows_phase : (job : CheckpointState) → r.control ≡ Some job → (phase : CheckpointPhase) → job.phase ≡ phase → HoldsPhase texts (parts_of v s r) job phase → (e offset : ℕ) → e < 2 ^ 64 → may_stand_at job.pages offset ≡ true →
          (AllStand texts v.answered → GroupStands texts job phase e offset) → CheckpointStep run v r (index_stood_in r job phase e offset) (rows_stand d r job phase e offset)
      rows_phase job there checkpoints.Combining is h e offset known may stands = rests_step _ m
      rows_phase job there checkpoints.Pages is h e offset known may stands = rests_step _ (pages_go texts v s r m d job there is h e offset known may stands idle)
      rows_phase job there checkpoints.Index is h e offset known may stands = index_step job there h e offset known may stands
      rows_phase job there (checkpoints.Record index) is h e offset known may stands = rests_step _ m
      rows_phase job there (checkpoints.Trim before to_blob q) is h e offset known may stands = rests_step _ m

    -- nothing is made of what stands in an extent whose number has more than 64 bits
    pub rows_job : (control : Option CheckpointState) → r.control ≡ control → HoldsCheckpoint texts (parts_of v s r) control → r.rows.job ≡ jobs.Idle → (e offset : ℕ) (packets : List Packet) → StandsRightlyIf texts v control (Some (news.Appended e offset)) →
        CheckpointStep run v r (if nat_lt e (2 ^ 64) then index_stood r control e offset else []) (rows_told d r control (Some (news.Appended e offset)) packets)
    rows_job None there h idle e offset packets right = if_elim (λ (actions : List StreamAction). CheckpointStep run v r actions (goes d r packets [])) (nat_lt e (2 ^ 64)) [] [] (λ t. rests_step _ m) (λ f. rests_step _ m)
    rows_job (Some job) there h idle e offset packets right = by (nat_lt e (2 ^ 64)) refl
      where
        by : (b : Bool) → nat_lt e (2 ^ 64) ≡ b →
            CheckpointStep run v r (if b then index_stood r (Some job) e offset else []) (if b then rows_stand d r job job.phase e offset else goes d r [] [])
        by true t = rows_phase right.all idle job there job.phase refl h e offset (ltb-true e (2 ^ 64) t) right.may (λ all. right.stands)
        by false f = rests_step _ m

    -- ---- the metadata

    module _ (c : ClientState) (stand : AllStand texts v.answered) where
      abbrev now : RangeState
      now = record r { metadata = c }

      matches_now : AppendsMetadata c.job v.split r.control → Matches texts v s now
      matches_now appends = record { position = m.position; next = m.next; out = m.out; live = m.live; checkpoint = m.checkpoint; said = m.said; installed = m.installed; ordered = m.ordered; named = m.named; rows = m.rows; reads = m.reads; beside = m.beside; metadata = appends }

      -- a client that waits for nothing
      matches_idle : c.job ≡ jobs.Idle → HasNoRecord v.split → Matches texts v s now
      matches_idle idle none = matches_now (idle_metadata c.job idle v.split none r.control)

      stood_step : c.job ≡ jobs.Idle → (job : CheckpointState) (index : Place) → r.control ≡ Some job → r.rows.job ≡ jobs.Idle → HasRecordOut texts (parts_of v s r) job index → (e offset : ℕ) →
          CheckpointStep run v r (record_stood_in r job (checkpoints.Record index) e offset) (trims d (recorded now job index) job)
      stood_step waits job index there idle h e offset =
          let free : v.split ≡ Free = is_free v.split (v.history.append kinds.Metadata) s.record_out r.control r.said.next job there m.beside in
          let next : CheckpointState = last_job job.position job.next (checkpoints.Trim (trim_index r.log job.position) (have_places (recorded now job index).indexes) (request d)) in
          record {
            next = trim_event texts r job ∷ answer_event texts v r job index offset ∷ run;
            goes = Adds _ _ (Adds _ run Rests refl) refl;
            shown = serving;
            matches = subst (λ z. Matches texts (view_after g v (Stands kinds.Metadata e (last_position r.metadata offset) (record_group r job index))) z (now_taken texts v s r m job index h free c next)) (sym (same_here g _ _))
                (recorded_match texts v s r m job index h free e offset c next (trim_index r.log job.position) (have_places (recorded now job index).indexes) (request d) refl refl stand idle waits);
            streams = trimmed_streams texts (answer_event texts v r job index offset ∷ run) (view_after g v (Stands kinds.Metadata e (last_position r.metadata offset) (record_group r job index)))
                (recorded_streams texts run v streams g e (last_position r.metadata offset) (record_group r job index) (may_answer texts v s r m job index h free run refl serving offset)) g _
                (may_trim_log texts v s r m job index h free run refl serving offset);
            longer = (record { extent = e; offset = offset; bytes = joined (record_group r job index) } ∷ [], refl);
            seen = λ notes old. old;
          }

      metadata_phase : c.job ≡ jobs.Idle → HasNoRecord v.split → (job : CheckpointState) → r.control ≡ Some job → (phase : CheckpointPhase) → AppendsPhase r.rows job phase → HoldsPhase texts (parts_of v s r) job phase → (e offset : ℕ) →
          CheckpointStep run v r (record_stood_in r job phase e offset) (record_stands d now job phase)
      metadata_phase waits none job there checkpoints.Combining appends h e offset = rests_step _ (matches_idle waits none)
      metadata_phase waits none job there checkpoints.Pages appends h e offset = rests_step _ (matches_idle waits none)
      metadata_phase waits none job there checkpoints.Index appends h e offset = rests_step _ (matches_idle waits none)
      metadata_phase waits none job there (checkpoints.Record index) appends h e offset =
          subst (λ b. CheckpointStep run v r (record_stood_in r job (checkpoints.Record index) e offset) (if b then trims d (recorded now job index) job else goes d now [] []))
          (sym h.numbered) (stood_step waits job index there appends h e offset)
      metadata_phase waits none job there (checkpoints.Trim before to_blob q) appends h e offset = rests_step _ (matches_idle waits none)

      metadata_job : c.job ≡ jobs.Idle → HasNoRecord v.split → (control : Option CheckpointState) → r.control ≡ control → AppendsRows r.rows control → HoldsCheckpoint texts (parts_of v s r) control → (e offset : ℕ) (packets : List Packet) →
          CheckpointStep run v r (record_stood r control e offset) (record_told d now control (Some (news.Appended e offset)) packets)
      metadata_job waits none None there appends h e offset packets = rests_step _ (matches_idle waits none)
      metadata_job waits none (Some job) there appends h e offset packets = metadata_phase waits none job there job.phase appends h e offset

      -- whatever the metadata's client tells
      pub metadata_step : (told : Option News) (packets : List Packet) → MetadataLeft v.split r.control told c.job → TellsOther v.split told → CheckpointStep run v r (record_actions r told) (record_told d now r.control told packets)
      metadata_step None packets left other = rests_step _ (matches_now left)
      metadata_step (Some news.Fenced) packets left other = rests_step _ tt
      metadata_step (Some (news.Appended e offset)) packets left other = metadata_job left (no_record v.split e offset other) r.control refl m.rows m.checkpoint e offset packets
      metadata_step (Some told) packets left other = rests_step _ (matches_now left)

    -- ---- the Trim

    -- the answer to it
    pub trim_step : (body : Body) → CheckpointStep run v r [] (trim_reply d r body)
    trim_step body = rests_step (trim_reply d r body) (trim_reply_match texts v s r m d body)

  -- ---- row data

  -- what the client of row data, which appended a group, was told leads to
  abbrev pub told_actions : RangeState → Group → Option News → List StreamAction
  told_actions r group (Some (news.Appended e offset)) = (if nat_lt e (2 ^ 64) then index_stood r r.control e offset else []) ++ Stores (record { extent = e; offset = offset; bytes = joined group }) ∷ []
  told_actions r group told = []

  module _ (run : Run) (v : RangeView) (r : RangeState) (m : Matches texts v (held first_beginning run r.load.generation) r) (serving : IsServing run r.load.generation) (streams : StreamsKept texts run v) (d : ServerContext) where
    -- the bytes of the group stand
    module _ (p : PlacedBytes) where
      abbrev stored : RangeView
      stored = view_after r.load.generation v (Stores p)

      stored_matches : Matches texts stored (held first_beginning run r.load.generation) r
      stored_matches = record {
        position = m.position;
        next = m.next;
        out = m.out;
        live = λ stand. m.live stand.1;
        checkpoint = longer_holds texts (parts_of v (held first_beginning run r.load.generation) r) stored.answered (p ∷ [], refl) r.control m.checkpoint;
        said = m.said;
        installed = m.installed;
        ordered = m.ordered;
        named = m.named;
        rows = m.rows;
        reads = m.reads;
        beside = m.beside;
        metadata = m.metadata;
      }

      stored_streams : StreamsKept texts run stored
      stored_streams = streams_same texts run v stored refl refl streams

      then_stored : (actions : List StreamAction) (o : RangeOutcome) → CheckpointStep run stored r actions o → CheckpointStep run v r (actions ++ Stores p ∷ []) o
      then_stored actions o step =
          let both : view_after_all r.load.generation v (actions ++ Stores p ∷ []) ≡ view_after_all r.load.generation stored actions = view_both texts subject r.load.generation v actions (Stores p ∷ []) in
          record {
            next = step.next;
            goes = step.goes;
            shown = step.shown;
            matches = subst (λ w. MatchesIf texts w (held first_beginning step.next r.load.generation) o.after) (sym both) step.matches;
            streams = subst (StreamsKept texts step.next) (sym both) step.streams;
            longer = subst (λ (w : RangeView). IsLonger v.answered w.answered) (sym both) (longer_twice v.answered stored.answered _ (p ∷ [], refl) step.longer);
            seen = step.seen;
          }

    -- What is told of the group that is appended: it stands there.
    abbrev pub IsStored : Group → Option News → Type 0
    IsStored group (Some (news.Appended e offset)) = (r.rows.job ≡ jobs.Idle) × StandsRightlyIf texts (stored (record { extent = e; offset = offset; bytes = joined group })) r.control (Some (news.Appended e offset))
    IsStored group told = Unit {0}

    -- whatever the client of row data tells
    pub rows_step : (group : Group) (told : Option News) (packets : List Packet) → IsStored group told → CheckpointStep run v r (told_actions r group told) (rows_told d r r.control told packets)
    rows_step group None packets right = rests_step run v r m serving streams d _ m
    rows_step group (Some news.Fenced) packets right = rests_step run v r m serving streams d _ tt
    rows_step group (Some (news.Appended e offset)) packets right =
        let p : PlacedBytes = record { extent = e; offset = offset; bytes = joined group } in
        then_stored p (if nat_lt e (2 ^ 64) then index_stood r r.control e offset else []) (rows_told d r r.control (Some (news.Appended e offset)) packets)
        (rows_job run (stored p) r (stored_matches p) serving (stored_streams p) d r.control refl (stored_matches p).checkpoint right.0 e offset packets right.1)
    rows_step group (Some told) packets right = rests_step run v r m serving streams d _ m
