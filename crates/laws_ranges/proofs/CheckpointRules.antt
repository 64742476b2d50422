-- The rules of a checkpoint that write row data: a range that is served begins one, which may merge the pages of older indexes first, and
-- its row data is answered. Its metadata turns where the index stands and its record can be written, and else neither stream.
use Rattle.std.proofs.Common.{◌≡◌, ℕ, suc, ◌^◌, nat_lt, List, [], ◌∷◌, ◌++◌, Bool, false, not, ◌||◌, Option, Some, None, is_some, option_to_list, refl, sym, ap, ◌∙◌, subst, arith, if◌then◌else◌}
use Rattle.std.proofs.lemmas.Bool.{not-false, or_parts}
use Rattle.wire.specs.declared.body.Body.{Body}
use Rattle.wire.specs.declared.body.Body.TheVariants as bodies
use Rattle.wire.specs.declared.body.StreamBody.TheVariants as streams
use Rattle.wire.specs.declared.packet.Packet.{Packet}
use Rattle.wire.specs.declared.refusal.Refusal.TheVariants as refusals
use Rattle.wire.specs.declared.streams.StreamKind.TheVariants as kinds
use Rattle.replica.specs.Groups.{Group, joined}
use Rattle.memtable.specs.Entries.{Entries}
use Rattle.client.specs.declared.job.Job.{Job}
use Rattle.client.specs.declared.job.Job.TheVariants as jobs
use Rattle.client.specs.declared.job.News.{News}
use Rattle.client.specs.declared.job.News.TheVariants as news
use Rattle.client.specs.Client.{Outcome, append_rule, reply_rule}
use Rattle.checkpoint.specs.Merges.{MergeState, next_place}
use Rattle.checkpoint.specs.PageGroups.{next_group, will_fit}
use Rattle.model_streams.proofs.Tests.{if_elim, both_elim, none_met}
use Rattle.model_streams.specs.StreamSystem.{StreamSystem}
use Rattle.model_partition.specs.CheckpointStates.{CheckpointState, is_recording}
use Rattle.model_partition.specs.declared.checkpoint_job.CheckpointPhase.{CheckpointPhase}
use Rattle.model_partition.specs.declared.checkpoint_job.CheckpointPhase.TheVariants as checkpoints
use Rattle.model_partition.specs.declared.server_context.ServerContext.{ServerContext}
use Rattle.model_partition.specs.declared.stage.Stage.TheVariants as stages
use Rattle.model_partition.specs.declared.waiting.PlaceRead.{PlaceRead}
use Rattle.model_partition.specs.Range.{RangeState, RangeOutcome, request, given, picking, goes, answers, dropped, is_serving, is_paused}
use Rattle.model_partition.specs.PlaceReads.{reads_place}
use Rattle.model_partition.specs.Checkpoints.{checkpoint_fault, number_to_apply, have_bytes, combines, with_fixed, begins_pages, begins_combining, checkpoint_rule, new_job, new_combining_job, combined_pages, combined_job, merges, next_append, index_if_fit, with_phase, writes_pages, rows_go, pages_stand, index_stands, rows_stand, rows_told, rows_may_stand, rows_reply, may_record}
use Rattle.model_histories.specs.StreamActions.{StreamAction, Stores, index_stood_in, index_stood, rows_told_actions, rows_actions}
use Rattle.laws_stream_machine.specs.Refinement.{Sent}
use Rattle.laws_loads.specs.RangeView.{RangeView, view_after_all}
use Rattle.laws_loads.proofs.PageAnswers.{read_of, merged, unread, merges_elim}
use Rattle.laws_ranges.specs.Serves.{Side, after_turns, JobIs, IsRecord, is_recording_in, RecordIs, IsAside, RowsJob, RowsStand, RowsTold, BeginsInLog, TrimsPhase, MergesPhase, TrimsJob, Follows, BothListed, IsSentBy, AskedOfBoth}
use Rattle.laws_ranges.specs.Quiet.{GoesQuietly, AreReads}
use Rattle.laws_ranges.specs.Seen.{SeesStory, RuleSees}
use Rattle.laws_ranges.specs.Records.{ServesBoth, ServedRule}
use Rattle.laws_ranges.proofs.RowData.{RowsDo, rows_append, rows_answer, rows_idle}
use Rattle.laws_ranges.proofs.RowsAsked.{rows_asked}
use Rattle.laws_ranges.proofs.OutGroup.{JobAfter, reply_job}
use Rattle.laws_ranges.proofs.OneStory.{reads_seen_of, view_joined}
use Rattle.laws_ranges.proofs.RecordRules.{unrecorded_idle}
use Rattle.laws_ranges.proofs.SeenTurns.{quiet_sees}
use Rattle.laws_ranges.proofs.SeenLoads.{kept_reads}
use Rattle.laws_ranges.proofs.Confirmed.{dropped_quietly}
use Rattle.laws_ranges.proofs.Stages.{serving_only}
use Rattle.laws_ranges.proofs.BothServed.{index_stands_both}
use Rattle.laws_ranges.proofs.WholeRanges.{RestStands, RestIf, whole_sees, still_whole, served_both, served_rest}

module _ (generation : ℕ → ℕ) (range : ℕ) (w : StreamSystem) (i : ℕ) (both : BothListed w range) (m l : Side) (d : ServerContext) (by : IsSentBy d d.count m.sent l.sent) where
  -- the server's next number is none of the other streams'
  next_aside : IsAside m.sent l.sent (request d)
  next_aside = (by.metadata d.count (omega arith), by.log d.count (omega arith))

  -- ---- pages or an index are appended

  -- a range that is served and whose metadata has no append job
  module _ (r : RangeState) (b : ServesBoth generation range w i m l r) (rest : RestStands generation range w i m.sent l.sent r) (idle : r.metadata.job ≡ jobs.Idle) where
    -- no record is being appended yet
    record_waits : (s : RangeState) → s.metadata ≡ r.metadata → is_recording_in s.control ≡ false → RecordIs s
    record_waits s same none = subst (λ c. JobIs (IsRecord s) (is_recording_in s.control ≡ false) c.job c.group) (sym same) (subst (λ j. JobIs (IsRecord s) (is_recording_in s.control ≡ false) j r.metadata.group) (sym idle) none)

    rows_go_quietly : (job : CheckpointState) (group : Option Group) → is_recording job.phase ≡ false → TrimsJob r.log (Some job) → GoesQuietly generation range w i m l d (rows_go d r (job, group))
    rows_go_quietly job None none trims =
        still_whole generation range w i m l d both by (record r { control = Some job }) (suc d.count) []
        (record {
          phase = b.phase;
          metadata = record { range_is = b.metadata.range_is; under = b.metadata.under; client = b.metadata.client; record_is = record_waits (record r { control = Some job }) refl none; stage = b.metadata.stage };
          log = record { range_is = b.log.range_is; under = b.log.under; client = b.log.client; out = b.log.out; stage = b.log.stage };
        })
        (record { rows = rest.rows; position = rest.position; trims = trims }) (omega arith) tt
    rows_go_quietly job (Some group) none trims =
        still_whole generation range w i m l d both by after (suc d.count) (option_to_list o.packet)
        (record {
          phase = b.phase;
          metadata = record { range_is = b.metadata.range_is; under = b.metadata.under; client = b.metadata.client; record_is = record_waits after refl none; stage = b.metadata.stage };
          log = record { range_is = b.log.range_is; under = b.log.under; client = b.log.client; out = b.log.out; stage = b.log.stage };
        })
        (record { rows = does.stand; position = rest.position; trims = trims }) (omega arith) (rows_asked generation range w i both after m l o.packet does.asks)
      where
        o : Outcome
        o = given (picking d r.rows) (append_rule (picking d r.rows) (request d) group)

        does : RowsDo range w m.sent l.sent o
        does = rows_append range w m.sent l.sent (request d) next_aside (picking d r.rows) group (record { stream = rest.rows.stream; listed = rest.rows.listed; job = rest.rows.job })

        after : RangeState
        after = record r { rows = o.after; control = Some job }

    pub writes_quietly : (job : CheckpointState) → BeginsInLog r.log job.position → next_place job.merge ≡ None → GoesQuietly generation range w i m l d (writes_pages d r job)
    writes_quietly job begins merged_all = go (next_group job.pages)
      where
        go : (group : Option Group) → GoesQuietly generation range w i m l d (rows_go d r (next_append job group))
        go (Some group) = rows_go_quietly (with_phase job checkpoints.Pages) (Some group) refl (begins, tt, merged_all)
        go None = rows_go_quietly (with_phase job checkpoints.Index) (index_if_fit job.pages.index) refl (begins, tt, merged_all)

    -- ---- pages of older indexes are merged

    -- what is read, and the checkpoint, do not matter to both streams
    aside_both : (reading : Option PlaceRead) (control : Option CheckpointState) → is_recording_in control ≡ false → ServesBoth generation range w i m l (record r { reading = reading; control = control })
    aside_both reading control none = record {
      phase = b.phase;
      metadata = record { range_is = b.metadata.range_is; under = b.metadata.under; client = b.metadata.client; record_is = record_waits (record r { reading = reading; control = control }) refl none; stage = b.metadata.stage };
      log = record { range_is = b.log.range_is; under = b.log.under; client = b.log.client; out = b.log.out; stage = b.log.stage };
    }

    aside_quietly : (reading : Option PlaceRead) (control : Option CheckpointState) (packets : List Packet) → is_recording_in control ≡ false → TrimsJob r.log control →
        AskedOfBoth generation range w i (Some (record r { reading = reading; control = control })) m l packets → GoesQuietly generation range w i m l d (goes d (record r { reading = reading; control = control }) packets [])
    aside_quietly reading control packets none trims asked =
        still_whole generation range w i m l d both by (record r { reading = reading; control = control }) (suc d.count) packets (aside_both reading control none)
        (record { rows = rest.rows; position = rest.position; trims = trims }) (omega arith) asked

  -- a range whose checkpoint combines
  module _ (r : RangeState) (b : ServesBoth generation range w i m l r) (rest : RestStands generation range w i m.sent l.sent r) (none : is_recording_in r.control ≡ false) where
    unread_both : ServesBoth generation range w i m l (unread r)
    unread_both = record {
      phase = b.phase;
      metadata = record { range_is = b.metadata.range_is; under = b.metadata.under; client = b.metadata.client; record_is = b.metadata.record_is; stage = b.metadata.stage };
      log = record { range_is = b.log.range_is; under = b.log.under; client = b.log.client; out = b.log.out; stage = b.log.stage };
    }

    unread_rest : RestStands generation range w i m.sent l.sent (unread r)
    unread_rest = record { rows = rest.rows; position = rest.position; trims = rest.trims }

    metadata_idle : r.metadata.job ≡ jobs.Idle
    metadata_idle = unrecorded_idle r r.metadata.job r.metadata.group b.metadata.record_is none

    module _ (job : CheckpointState) (phase : job.phase ≡ checkpoints.Combining) (begins : BeginsInLog r.log job.position) where
      merging : (merge : MergeState) → TrimsJob r.log (Some (merged job merge))
      merging merge = (begins, subst (λ p. TrimsPhase r.log p) (sym phase) tt, subst (λ p. MergesPhase p (next_place merge)) (sym phase) tt)

      unrecorded : (merge : MergeState) → is_recording_in (Some (merged job merge)) ≡ false
      unrecorded merge = ap is_recording phase

      combined_begins : (j : CheckpointState) (newer : Entries) → BeginsInLog r.log j.position → BeginsInLog r.log (combined_job j newer).position
      combined_begins j newer at =
          if_elim {A = CheckpointState} (λ z. BeginsInLog r.log z.position) (will_fit (combined_pages j.merge newer)) _ _ (λ t. at) (λ f. at)

      combined_merged : (j : CheckpointState) (newer : Entries) → next_place (combined_job j newer).merge ≡ None
      combined_merged j newer = if_elim {A = CheckpointState} (λ z. next_place z.merge ≡ None) (will_fit (combined_pages j.merge newer)) _ _ (λ t. refl) (λ f. refl)

      pub merges_quietly : GoesQuietly generation range w i m l d (merges d r job)
      merges_quietly =
          merges_elim (λ o. GoesQuietly generation range w i m l d o) d r job
          (aside_quietly r b rest metadata_idle None r.control [] none rest.trims tt)
          (λ merge. aside_quietly r b rest metadata_idle None (Some (merged job merge)) [] (unrecorded merge) (merging merge) tt)
          (λ merge place places is told. aside_quietly r b rest metadata_idle (Some (read_of d place)) (Some (merged job merge)) (reads_place d places (read_of d place) ∷ []) (unrecorded merge) (merging merge) ((tt, tt, λ q e. absurd cc, tt), tt))
          (λ merge newer is fixed. writes_quietly (unread r) unread_both unread_rest metadata_idle (combined_job (merged job merge) newer) (combined_begins (merged job merge) newer begins) (combined_merged (merged job merge) newer))

  -- ---- a checkpoint begins

  module _ (r : RangeState) (f : Follows generation range w i m l r) where
    none_there : {A : Type 0} (o : Option A) → is_some o ≡ false → o ≡ None
    none_there {A} None e = refl
    none_there {A} (Some x) e = absurd cc

    pub checkpoint_quietly : (combine : Bool) → checkpoint_fault r ≡ None → GoesQuietly generation range w i m l d (checkpoint_rule d r combine)
    checkpoint_quietly combine may =
        if_elim (GoesQuietly generation range w i m l d) (have_bytes r.live r.position (number_to_apply r.out r.next)) _ _
        (λ t. if_elim (GoesQuietly generation range w i m l d) (combines combine r.indexes) _ _ (λ c. combining_quietly) (λ c. begins_quietly)) (λ f. still_whole generation range w i m l d both by r (suc d.count) [] b rest (omega arith) tt)
      where
        unmet : (not (is_serving r.stage) ≡ false) × ((is_paused r.pause ≡ false) × (((is_some r.control || is_some r.fixed) ≡ false) × Unit {0}))
        unmet = none_met ((refusals.Loading, not (is_serving r.stage)) ∷ (refusals.Paused, is_paused r.pause) ∷ (refusals.Busy, is_some r.control || is_some r.fixed) ∷ []) may

        stage : r.stage ≡ stages.Serving
        stage = serving_only r.stage (not-false (is_serving r.stage) unmet.0)

        none : r.control ≡ None
        none = none_there r.control (or_parts (is_some r.control) (is_some r.fixed) unmet.1.1.0).0

        b : ServesBoth generation range w i m l r
        b = served_both generation range w i m l r f stage

        rest : RestStands generation range w i m.sent l.sent r
        rest = served_rest generation range w i m l r f stage

        fixed_both : ServesBoth generation range w i m l (with_fixed r)
        fixed_both = record {
          phase = b.phase;
          metadata = record { range_is = b.metadata.range_is; under = b.metadata.under; client = b.metadata.client; record_is = b.metadata.record_is; stage = b.metadata.stage };
          log = record { range_is = b.log.range_is; under = b.log.under; client = b.log.client; out = b.log.out; stage = b.log.stage };
        }

        fixed_rest : RestStands generation range w i m.sent l.sent (with_fixed r)
        fixed_rest = record { rows = rest.rows; position = rest.position; trims = rest.trims }

        begins_quietly : GoesQuietly generation range w i m l d (begins_pages d r)
        begins_quietly =
            writes_quietly (with_fixed r) fixed_both fixed_rest (unrecorded_idle r r.metadata.job r.metadata.group b.metadata.record_is (ap is_recording_in none))
            (new_job r) rest.position refl

        combining_quietly : GoesQuietly generation range w i m l d (begins_combining d r)
        combining_quietly = merges_quietly (with_fixed r) fixed_both fixed_rest (ap is_recording_in none) (new_combining_job r) refl rest.position

  -- ---- row data is answered

  module _ (v : RangeView) (r : RangeState) (b : ServesBoth generation range w i m l r) (rest : RestStands generation range w i m.sent l.sent r) (body : Body) (told : RowsTold w range r body) where
    abbrev Sees : RangeOutcome → List StreamAction → Type 0
    Sees o done = RuleSees generation i range w v m l d o done

    abbrev SeesIf : RangeOutcome → List StreamAction → Type 0
    SeesIf o done = Sees o (if is_some o.after then done else [])

    quiet : (o : RangeOutcome) (done : List StreamAction) → GoesQuietly generation range w i m l d o → AreReads done → SeesIf o done
    quiet o done goes reads = quiet_sees generation range w i v m l d o (if is_some o.after then done else []) goes (kept_reads o.after done reads)

    abbrev reply : Outcome
    reply = reply_rule (picking d r.rows) (request d) body

    abbrev now : RangeState
    now = record r { rows = reply.after }

    does : RowsDo range w m.sent l.sent reply
    does =
        rows_answer range w m.sent l.sent (request d) next_aside (picking d r.rows) (record { stream = rest.rows.stream; listed = rest.rows.listed; job = rest.rows.job }) body
        (λ u e places t is. (let said : RowsTold w range r (bodies.Stream (streams.Extended u e places)) = subst (λ z. RowsTold w range r z) is told in said t))

    now_both : ServesBoth generation range w i m l now
    now_both = record {
      phase = b.phase;
      metadata = record { range_is = b.metadata.range_is; under = b.metadata.under; client = b.metadata.client; record_is = b.metadata.record_is; stage = b.metadata.stage };
      log = record { range_is = b.log.range_is; under = b.log.under; client = b.log.client; out = b.log.out; stage = b.log.stage };
    }

    now_rest : RestStands generation range w i m.sent l.sent now
    now_rest = record { rows = does.stand; position = rest.position; trims = rest.trims }

    -- the client goes on
    goes_on : (packets : Option Packet) → packets ≡ reply.packet → GoesQuietly generation range w i m l d (goes d now (option_to_list packets) [])
    goes_on packets e =
        subst (λ p. GoesQuietly generation range w i m l d (goes d now (option_to_list p) [])) (sym e)
        (still_whole generation range w i m l d both by now (suc d.count) (option_to_list reply.packet) now_both now_rest (omega arith) (rows_asked generation range w i both now m l reply.packet does.asks))

    rests : GoesQuietly generation range w i m l d (goes d now [] [])
    rests = still_whole generation range w i m l d both by now (suc d.count) [] now_both now_rest (omega arith) tt

    -- the bytes that stand
    abbrev stores : ℕ → ℕ → List StreamAction
    stores extent offset = Stores (record { extent = extent; offset = offset; bytes = joined r.rows.group }) ∷ []

    module _ (extent offset : ℕ) (idle : reply.after.job ≡ jobs.Idle) (job : CheckpointState) (control : r.control ≡ Some job) where
      under_way : TrimsJob r.log (Some job)
      under_way = subst (λ z. TrimsJob r.log z) control rest.trims

      not_recording : (phase : CheckpointPhase) → job.phase ≡ phase → is_recording phase ≡ false → is_recording_in r.control ≡ false
      not_recording phase e none = ap is_recording_in control ∙ ap is_recording e ∙ none

      -- the index stands: the record is appended, if it can be written
      index_rule : (u : RangeView) → job.phase ≡ checkpoints.Index → ServedRule generation range w i u m l d (index_stands d now job extent offset) (index_stood_in r job checkpoints.Index extent offset)
      index_rule u e = index_stands_both generation range w i both m l d by u now now_both (not_recording checkpoints.Index e refl) job extent offset

      index_rest : job.phase ≡ checkpoints.Index → (n k : List Sent) → RestIf generation range w i n k (index_stands d now job extent offset).after
      index_rest e n k =
          if_elim {A = RangeOutcome} (λ o. RestIf generation range w i n k o.after) (may_record now job) _ _
          (λ t. record { rows = rows_left; position = rest.position; trims = (under_way.0, tt, subst (λ p. MergesPhase p (next_place job.merge)) e under_way.2) }) (λ f. record { rows = rows_left; position = rest.position; trims = rest.trims })
        where
          rows_left : RowsStand range w n k reply.after
          rows_left = rows_idle range w m.sent l.sent n k reply.after idle does.stand

      index_there : (done : List StreamAction) → (if is_some (index_stands d now job extent offset).after then done else []) ≡ done
      index_there done = if_elim {A = RangeOutcome} (λ o. (if is_some o.after then done else []) ≡ done) (may_record now job) _ _ (λ t. refl) (λ f. refl)

      index_sees : job.phase ≡ checkpoints.Index → Sees (index_stands d now job extent offset) (index_stood_in r job checkpoints.Index extent offset ++ stores extent offset)
      index_sees e = whole_sees generation range w i m l d v (index_stands d now job extent offset) (later ++ stores extent offset) rule (index_rest e rule.goes.metadata_sent rule.goes.log_sent)
        where
          later : List StreamAction
          later = index_stood_in r job checkpoints.Index extent offset

          u : RangeView
          u = view_after_all (generation i) v (stores extent offset)

          one : ServedRule generation range w i u m l d (index_stands d now job extent offset) later
          one = index_rule u e

          rule : ServedRule generation range w i v m l d (index_stands d now job extent offset) (later ++ stores extent offset)
          rule = record {
            goes = one.goes;
            metadata = λ s.
                subst (λ z. SeesStory generation i kinds.Metadata z (after_turns generation i m.stand one.goes.metadata_turns)) (sym (view_joined generation i v later (stores extent offset)))
                (one.metadata (reads_seen_of generation i kinds.Metadata v m.stand (stores extent offset) (tt, tt) s));
            log = λ s.
                subst (λ z. SeesStory generation i kinds.Log z (after_turns generation i l.stand one.goes.log_turns)) (sym (view_joined generation i v later (stores extent offset)))
                (one.log (reads_seen_of generation i kinds.Log v l.stand (stores extent offset) (tt, tt) s));
          }

      stand_sees : (phase : CheckpointPhase) → job.phase ≡ phase → SeesIf (rows_stand d now job phase extent offset) (index_stood_in r job phase extent offset ++ stores extent offset)
      stand_sees checkpoints.Combining e = quiet (goes d now [] []) (stores extent offset) rests (tt, tt)
      stand_sees checkpoints.Pages e =
          quiet (writes_pages d now (pages_stand job extent offset)) (stores extent offset)
          (writes_quietly now now_both now_rest (unrecorded_idle r r.metadata.job r.metadata.group b.metadata.record_is (not_recording checkpoints.Pages e refl)) (pages_stand job extent offset) under_way.0 (subst (λ p. MergesPhase p (next_place job.merge)) e under_way.2)) (tt, tt)
      stand_sees checkpoints.Index e = subst (λ done. Sees (index_stands d now job extent offset) done) (sym (index_there _)) (index_sees e)
      stand_sees (checkpoints.Record index) e = quiet (goes d now [] []) (stores extent offset) rests (tt, tt)
      stand_sees (checkpoints.Trim before to_blob q) e = quiet (goes d now [] []) (stores extent offset) rests (tt, tt)

    -- what is formed comes later than what is stored
    abbrev SeesBefore : (extent offset : ℕ) → RangeOutcome → List StreamAction → Type 0
    SeesBefore extent offset o formed = SeesIf o (formed ++ stores extent offset)

    appended_sees : (extent offset : ℕ) → reply.after.job ≡ jobs.Idle → (control : Option CheckpointState) → r.control ≡ control →
        SeesBefore extent offset (rows_told d now control (Some (news.Appended extent offset)) (option_to_list reply.packet)) (if nat_lt extent (2 ^ 64) then index_stood r control extent offset else [])
    appended_sees extent offset idle None e =
        if_elim (SeesBefore extent offset (goes d now (option_to_list reply.packet) [])) (nat_lt extent (2 ^ 64)) [] [] (λ t. still_stores) (λ f. still_stores)
      where
        still_stores : SeesBefore extent offset (goes d now (option_to_list reply.packet) []) []
        still_stores = quiet (goes d now (option_to_list reply.packet) []) (stores extent offset) (goes_on reply.packet refl) (tt, tt)
    appended_sees extent offset idle (Some job) e =
        both_elim (SeesBefore extent offset) (nat_lt extent (2 ^ 64)) (rows_stand d now job job.phase extent offset) (goes d now [] []) (index_stood_in r job job.phase extent offset) []
        (λ t. stand_sees extent offset idle job e job.phase refl) (λ f. quiet (goes d now [] []) (stores extent offset) rests (tt, tt))

    news_sees : (about : Option News) → JobAfter (λ group. Unit {0}) (Unit {0}) about reply.after → SeesIf (rows_told d now r.control about (option_to_list reply.packet)) (rows_told_actions r about)
    news_sees None job = quiet (goes d now (option_to_list reply.packet) []) [] (goes_on reply.packet refl) tt
    news_sees (Some news.Fenced) job = quiet (dropped d now) [] (dropped_quietly generation range w i both m l d by now) tt
    news_sees (Some (news.Appended extent offset)) job = appended_sees extent offset job r.control refl
    news_sees (Some (news.Checked e found)) job = quiet (goes d now (option_to_list reply.packet) []) [] (goes_on reply.packet refl) tt
    news_sees (Some (news.Sealed e n)) job = quiet (goes d now (option_to_list reply.packet) []) [] (goes_on reply.packet refl) tt
    news_sees (Some (news.Content e upto)) job = quiet (goes d now (option_to_list reply.packet) []) [] (goes_on reply.packet refl) tt

    has_job : (j : Job) (group : Group) → RowsJob range w m.sent l.sent j → JobIs (λ g. Unit {0}) (Unit {0}) j group
    has_job jobs.Idle group z = tt
    has_job (jobs.Sent e q) group z = tt
    has_job (jobs.Closing e q) group z = tt
    has_job (jobs.Growing last q) group z = tt
    has_job (jobs.Checking e q) group z = z
    has_job (jobs.Shutting e q) group z = z
    has_job (jobs.Reading e places upto sealed place q) group z = z

    still : GoesQuietly generation range w i m l d (answers d r [])
    still = still_whole generation range w i m l d both by r d.count [] b rest (omega arith) tt

    -- the answer to what is out to row data
    pub rows_reply_sees : SeesIf (rows_reply d r body) (rows_actions d r body)
    rows_reply_sees =
        both_elim SeesIf (rows_may_stand r.control body) _ _ _ _
        (λ t. news_sees reply.news (reply_job (λ group. Unit {0}) (Unit {0}) (request d) (picking d r.rows) (has_job r.rows.job r.rows.group rest.rows.job) body)) (λ f. quiet (answers d r []) [] still tt)
