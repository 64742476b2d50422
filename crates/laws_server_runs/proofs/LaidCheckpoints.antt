-- What the steps of a checkpoint leave: row data's client appends what the checkpoint waits for, nothing while older pages are merged, and
-- its pages stand within what was answered.
use Rattle.std.proofs.Common.{◌^◌, nat_lt, ◌≡◌, ℕ, Bool, true, false, not, List, [], ◌∷◌, ◌++◌, length, Option, Some, None, is_some, option_to_list, refl, sym, ap, ◌∙◌, subst, inl, inr, if◌then◌else◌}
use Rattle.std.specs.Prelude.{◌||◌, ◌==◌}
use Rattle.std.proofs.lemmas.Bool.{not-false}
use Rattle.wire.specs.declared.body.AppendBody.{AppendBody}
use Rattle.wire.specs.declared.body.AppendBody.TheVariants as appends
use Rattle.wire.specs.declared.body.Body.{Body}
use Rattle.wire.specs.declared.body.Body.TheVariants as bodies
use Rattle.wire.specs.declared.body.StreamBody.{StreamBody}
use Rattle.wire.specs.declared.body.StreamBody.TheVariants as streams
use Rattle.wire.specs.declared.packet.Packet.{Packet}
use Rattle.wire.specs.declared.refusal.Refusal.TheVariants as refusals
use Rattle.wire.specs.declared.streams.StreamKind.TheVariants as kinds
use Rattle.replica.specs.Groups.{joined}
use Rattle.memtable.specs.declared.cell.Place.{Place}
use Rattle.memtable.specs.Entries.{Entries}
use Rattle.checkpoint_format.specs.Index.{fits_a_group, index_group}
use Rattle.checkpoint.specs.Merges.{MergeState, no_merge, next_place, with_page}
use Rattle.checkpoint.specs.PageGroups.{page_group, placed_pages, pages_to_write, next_pages, next_group, will_fit}
use Rattle.client.specs.declared.job.Job.TheVariants as jobs
use Rattle.client.specs.declared.job.News.{News}
use Rattle.client.specs.declared.job.News.TheVariants as news
use Rattle.client.specs.Client.{ClientState, Outcome, append_rule, reply_rule}
use Rattle.model_streams.proofs.Tests.{if_elim, none_met}
use Rattle.model_partition.specs.CheckpointStates.{CheckpointState}
use Rattle.model_partition.specs.declared.checkpoint_job.CheckpointPhase.{CheckpointPhase}
use Rattle.model_partition.specs.declared.checkpoint_job.CheckpointPhase.TheVariants as checkpoints
use Rattle.model_partition.specs.declared.server_context.ServerContext.{ServerContext}
use Rattle.model_partition.specs.Answering.{load_refused, page_reply, trim_reply}
use Rattle.model_partition.specs.Checkpoints.{checkpoint_fault, new_job, new_combining_job, combines, with_phase, index_if_fit, next_append, rows_go, writes_pages, combined_pages, combined_job, merges, with_fixed, begins_pages, begins_combining, checkpoint_rule, have_bytes, number_to_apply, pages_stand, may_record, index_place, records, rows_stand, rows_told, rows_may_stand, rows_reply, has_record_number, recorded, record_stands, record_told, trims, trim_told, trim_reply_in}
use Rattle.model_partition.specs.Loading.{Group}
use Rattle.model_partition.specs.Range.{RangeState, RangeOutcome, request, answers, goes, given, picking, is_serving, is_paused}
use Rattle.model_partition.specs.Servers.{entries_if}
use Rattle.model_histories.specs.StreamActions.{StreamAction, Forms, Stands, Stores, PlacedBytes, last_position, record_group, record_stood_in, record_stood, record_actions, index_stood_in, index_stood, rows_told_actions, rows_actions}
use Rattle.laws_loads.proofs.PageAnswers.{merged, unread, merges_elim, page_reply_elim}
use Rattle.laws_loads.specs.RangeView.{RangeView}
use Rattle.laws_loads.specs.Sound.{IsSound}
use Rattle.laws_server_runs.specs.CheckpointInvariant.{AppendsPhase, AppendsRows}
use Rattle.laws_server_runs.specs.Places.{AreWithin, PagesWithin, placed_of, MergesFirst, JobWithin, CheckpointLaid, RangeLaid, IsQuiet, RuleLaid}
use Rattle.laws_server_runs.proofs.LaidBytes.{group_within, pages_both}
use Rattle.laws_server_runs.proofs.LaidLayers.{within_front, within_behind}
use Rattle.laws_server_runs.proofs.LaidReplies.{told_awake, told_idle, group_out, idle_appends}
use Rattle.laws_server_runs.proofs.RowAppends.{appended_group, reply_appends}
use Rattle.laws_server_runs.proofs.LaidStates.{Beside, with_checkpoint, view_of, Left, left_drops, left_goes, left_records, left_nothing, ReadsNothing, still_beside, still_checkpoint}

some_group : (b : Bool) (group other : Group) → (if b then None else Some group) ≡ Some other → other ≡ group
some_group true group other e = absurd cc
some_group false group other e = cc

some_index : (b : Bool) (group other : Group) → (if b then Some group else None) ≡ Some other → other ≡ group
some_index true group other e = cc
some_index false group other e = absurd cc

module _ (k : ℕ) (v : RangeView) (r : RangeState) (d : ServerContext) where
  -- ---- what is appended next

  module _ (actions : List StreamAction) (quiet : IsQuiet actions) (s : RangeState) (b : Beside k (view_of k v r actions) s.load s.stage s.live) (sound : IsSound s) (idle : s.rows.job ≡ jobs.Idle)
      (layer : AreWithin (placed_of (view_of k v r actions)) (entries_if s.fixed)) where
    abbrev placed : List PlacedBytes
    placed = placed_of (view_of k v r actions)

    module _ (job : CheckpointState) (none_left : next_place job.merge ≡ None) (pages : PagesWithin placed job.pages.index.pages) where
      append_left : (phase : CheckpointPhase) (group : Group) → AppendsPhase (given (picking d s.rows) (append_rule (picking d s.rows) (request d) group)).after job phase →
          Left k v r actions (rows_go d s (with_phase job phase, Some group))
      append_left phase group appends =
          left_goes k v r actions quiet _ _ _ (with_checkpoint k (view_of k v r actions) _ b sound (record { appends = appends; merges = inr none_left; pages = pages; layer = layer }))

      index_next : (group : Option Group) → index_if_fit job.pages.index ≡ group → Left k v r actions (rows_go d s (with_phase job checkpoints.Index, group))
      index_next (Some group) e =
          let is : group ≡ index_group job.pages.index = some_index (fits_a_group job.pages.index) (index_group job.pages.index) group e in
          append_left checkpoints.Index group (inr (appended_group (picking d s.rows) (request d) group idle ∙ is))
      index_next None e =
          left_goes k v r actions quiet _ _ _ (with_checkpoint k (view_of k v r actions) _ b sound (record { appends = inl idle; merges = inr none_left; pages = pages; layer = layer }))

      next : (group : Option Group) → next_group job.pages ≡ group → Left k v r actions (rows_go d s (next_append job group))
      next (Some group) e =
          let is : group ≡ page_group (next_pages job.pages) = some_group (length job.pages.unwritten == 0) (page_group (next_pages job.pages)) group e in
          append_left checkpoints.Pages group (inr (appended_group (picking d s.rows) (request d) group idle ∙ is))
      next None e = index_next (index_if_fit job.pages.index) refl

      -- the next pages, or the index behind the last ones
      writes_left : Left k v r actions (writes_pages d s job)
      writes_left = next (next_group job.pages) refl

    -- ---- what is combined

    -- what was merged is written under the newer layer, or that alone
    combined_left : (job : CheckpointState) (newer : Entries) → Left k v r actions (writes_pages d s (combined_job job newer))
    combined_left job newer = by (will_fit (combined_pages job.merge newer))
      where
        by : (b : Bool) →
            Left k v r actions
            (writes_pages d s (if b then record job { merge = no_merge; pages = combined_pages job.merge newer } else record job { combine = false; merge = no_merge; pages = pages_to_write newer }))
        by true = writes_left (record job { merge = no_merge; pages = combined_pages job.merge newer }) refl tt
        by false = writes_left (record job { combine = false; merge = no_merge; pages = pages_to_write newer }) refl tt

  -- Pages at hand are merged; the next one is asked for, while nothing is appended, or what all come to is written.
  module _ (actions : List StreamAction) (quiet : IsQuiet actions) (s : RangeState) (b : Beside k (view_of k v r actions) s.load s.stage s.live) (sound : IsSound s) (idle : s.rows.job ≡ jobs.Idle)
      (own : CheckpointLaid (placed_of (view_of k v r actions)) s.rows s.fixed s.control) where
    merges_left : (job : CheckpointState) → job.phase ≡ checkpoints.Combining → PagesWithin (placed_of (view_of k v r actions)) job.pages.index.pages → Left k v r actions (merges d s job)
    merges_left job phase pages =
        merges_elim (Left k v r actions) d s job (left_goes k v r actions quiet _ _ _ (with_checkpoint k (view_of k v r actions) _ b sound own))
        (λ merge. left_goes k v r actions quiet _ _ _ (with_checkpoint k (view_of k v r actions) _ b sound (merging merge)))
        (λ merge place places next there. left_goes k v r actions quiet _ _ _ (with_checkpoint k (view_of k v r actions) _ b sound (merging merge)))
        (λ merge newer next fixed. combined_left actions quiet (unread s) b sound idle own.layer (merged job merge) newer)
      where
        merging : (merge : MergeState) → CheckpointLaid (placed_of (view_of k v r actions)) s.rows s.fixed (Some (merged job merge))
        merging merge = record { appends = subst (AppendsPhase s.rows job) (sym phase) idle; merges = inl phase; pages = pages; layer = own.layer }

  module _ (before : RangeLaid k v r) where
    rests : Left k v r [] (answers d r [])
    rests = left_goes k v r [] tt r _ _ before

    refused : (body : AppendBody) → Left k v r [] (load_refused d r body)
    refused (appends.Refused w refusals.Stale) = left_drops k v r [] _ _
    refused body = rests

    -- ---- it begins

    may_parts : checkpoint_fault r ≡ None → (is_serving r.stage ≡ true) × (r.control ≡ None)
    may_parts may =
        let unmet = none_met ((refusals.Loading, not (is_serving r.stage)) ∷ (refusals.Paused, is_paused r.pause) ∷ (refusals.Busy, is_some r.control || is_some r.fixed) ∷ []) may in
        (not-false (is_serving r.stage) unmet.0, none_there r.control (is_some r.fixed) unmet.1.1.0)
      where
        none_there : (x : Option CheckpointState) (b : Bool) → (is_some x || b) ≡ false → x ≡ None
        none_there None b e = refl
        none_there (Some job) b e = absurd cc

    -- the live layer is fixed
    fixed_beside : Beside k v r.load r.stage []
    fixed_beside = record { range = before.range; confirmed = before.confirmed; layer = λ e. (tt, tt); values = λ e. tt; low = (tt, tt) }

    pub begins_laid : (combine : Bool) → checkpoint_fault r ≡ None → RuleLaid k v r [] (checkpoint_rule d r combine)
    begins_laid combine may =
        if_elim (λ (o : RangeOutcome). RuleLaid k v r [] o) (have_bytes r.live r.position (number_to_apply r.out r.next)) _ _
        (λ t. if_elim (λ (o : RangeOutcome). RuleLaid k v r [] o) (combines combine r.indexes) _ _ (λ t. left_nothing k v r (begins_combining d r) combining) (λ f. left_nothing k v r (begins_pages d r) plain))
        (λ f. left_nothing k v r _ (left_goes k v r [] tt r _ _ before))
      where
        none : r.control ≡ None
        none = (may_parts may).1

        layer : AreWithin (placed_of v) r.live
        layer = before.live (may_parts may).0

        idle : r.rows.job ≡ jobs.Idle
        idle = subst (AppendsRows r.rows) none before.checkpoint.appends

        plain : Left k v r [] (begins_pages d r)
        plain = writes_left [] tt (with_fixed r) fixed_beside before.sound idle layer (new_job r) refl tt

        combining : Left k v r [] (begins_combining d r)
        combining =
            merges_left [] tt (with_fixed r) fixed_beside before.sound idle
            (record { appends = before.checkpoint.appends; merges = before.checkpoint.merges; pages = before.checkpoint.pages; layer = layer }) (new_combining_job r) refl tt

    -- ---- a page that is merged

    module _ (actions : List StreamAction) (quiet : IsQuiet actions) (nothing : ReadsNothing k v r actions) where
      own : CheckpointLaid (placed_of (view_of k v r actions)) r.rows r.fixed r.control
      own = still_checkpoint k v r before actions

      beside : Beside k (view_of k v r actions) r.load r.stage r.live
      beside = still_beside k v r before actions nothing

      page_rests : Left k v r actions (answers d r [])
      page_rests = left_goes k v r actions quiet r _ _ (with_checkpoint k (view_of k v r actions) r beside before.sound own)

      -- one that was still to be merged
      page_comes_left : (job : CheckpointState) (place : Place) → r.control ≡ Some job → next_place job.merge ≡ Some place → (merge : MergeState) → Left k v r actions (merges d r (merged job merge))
      page_comes_left job place is left merge =
          merges_left actions quiet r beside before.sound (subst (AppendsPhase r.rows job) phase (subst (AppendsRows r.rows) is own.appends)) own (merged job merge) phase
          (subst (JobWithin (placed_of (view_of k v r actions))) is own.pages)
        where
          phase : job.phase ≡ checkpoints.Combining
          phase = elim (subst MergesFirst is own.merges) [
            | inl combining ↦ combining
            | inr none ↦ absurd (let z : None ≡ Some place = sym none ∙ left in cc)
          ]

      -- the answer to its read
      pub page_left : (body : Body) → Left k v r actions (page_reply d r body)
      page_left body =
          page_reply_elim (Left k v r actions) d r page_rests (left_drops k v r actions _ _)
          (λ job place entries is left. page_comes_left job place is left (with_page r.said.keys job.merge entries)) body

    -- ---- row data

    module _ (body : Body) where
      abbrev answer : Outcome
      answer = reply_rule (picking d r.rows) (request d) body

      abbrev now : RangeState
      now = record r { rows = answer.after }

      abbrev packets : List Packet
      packets = option_to_list answer.packet

      appends_now : AppendsRows answer.after r.control
      appends_now = reply_appends (picking d r.rows) (request d) body r.control before.checkpoint.appends

      stays : (count : ℕ) → Left k v r [] (record { after = Some now; count = count; packets = packets; notes = [] })
      stays count =
          left_goes k v r [] tt now _ _
          (with_checkpoint k v now (still_beside k v r before [] refl) before.sound (record { appends = appends_now; merges = before.checkpoint.merges; pages = before.checkpoint.pages; layer = before.checkpoint.layer }))

      -- the group that was out stands
      module _ (e offset : ℕ) (told : answer.news ≡ Some (news.Appended e offset)) where
        abbrev stored : PlacedBytes
        stored = record { extent = e; offset = offset; bytes = joined r.rows.group }

        abbrev stores : List StreamAction
        stores = Stores stored ∷ []

        awake : r.rows.job ≡ jobs.Idle → ⊥
        awake = told_awake (picking d r.rows) (request d) body (news.Appended e offset) told

        idle_now : answer.after.job ≡ jobs.Idle
        idle_now = told_idle (picking d r.rows) (request d) body (news.Appended e offset) told

        still : CheckpointLaid (placed_of (view_of k v r stores)) r.rows r.fixed r.control
        still = still_checkpoint k v r before stores

        rests_now : (count : ℕ) (sent : List Packet) → Left k v r stores (record { after = Some now; count = count; packets = sent; notes = [] })
        rests_now count sent =
            left_goes k v r stores tt now _ _
            (with_checkpoint k (view_of k v r stores) now (still_beside k v r before stores refl) before.sound (record { appends = idle_appends answer.after r.control idle_now; merges = still.merges; pages = still.pages; layer = still.layer }))

        module _ (job : CheckpointState) (is : r.control ≡ Some job) where
          none_left : (job.phase ≡ checkpoints.Combining → ⊥) → next_place job.merge ≡ None
          none_left past = elim (subst MergesFirst is still.merges) [
            | inl combining ↦ absurd (past combining)
            | inr none ↦ none
          ]

          pages_before : PagesWithin (placed_of (view_of k v r stores)) job.pages.index.pages
          pages_before = subst (JobWithin (placed_of (view_of k v r stores))) is still.pages

          pages_behind : job.phase ≡ checkpoints.Pages → PagesWithin (placed_of (view_of k v r stores)) (pages_stand job e offset).pages.index.pages
          pages_behind phase =
              let appends : AppendsPhase r.rows job job.phase = subst (AppendsRows r.rows) is before.checkpoint.appends in
              let group : r.rows.group ≡ page_group (next_pages job.pages) = group_out r.rows (page_group (next_pages job.pages)) awake (subst (AppendsPhase r.rows job) phase appends) in
              pages_both (placed_of (view_of k v r stores)) job.pages.index.pages (placed_pages e offset (next_pages job.pages)) pages_before
              (group_within (placed_of (view_of k v r stores)) stored (λ place w. within_behind v.shown (stored ∷ v.answered) place (within_front v.answered (stored ∷ []) place w)) (next_pages job.pages) (ap joined group))

          index_left : job.phase ≡ checkpoints.Index → (b : Bool) → may_record r job ≡ b →
              Left k v r ((if b then Forms kinds.Metadata (record_group r job (index_place job e offset)) ∷ [] else []) ++ stores)
              (if b then records d now job (index_place job e offset) else goes d now [] [])
          index_left phase true may =
              left_records k v r (record_group r job (index_place job e offset)) stores tt _ _ _
              (record { before = job; job = with_phase job (checkpoints.Record (index_place job e offset)); index = index_place job e offset; under_way = is; control = refl; phase = refl; said = refl })
              (with_checkpoint k (view_of k v r (Forms kinds.Metadata (record_group r job (index_place job e offset)) ∷ stores)) _
              (still_beside k v r before (Forms kinds.Metadata (record_group r job (index_place job e offset)) ∷ stores) refl) before.sound
              (record { appends = idle_now; merges = inr (none_left (λ e. absurd (let z : checkpoints.Combining ≡ checkpoints.Index = sym e ∙ phase in cc))); pages = pages_before; layer = still.layer }))
          index_left phase false may = rests_now _ _

          phase_left : (phase : CheckpointPhase) → job.phase ≡ phase → Left k v r (index_stood_in r job phase e offset ++ stores) (rows_stand d now job phase e offset)
          phase_left checkpoints.Combining phase = rests_now _ _
          phase_left checkpoints.Pages phase =
              writes_left stores tt now (still_beside k v r before stores refl) before.sound idle_now still.layer (pages_stand job e offset)
              (none_left (λ e. absurd (let z : checkpoints.Combining ≡ checkpoints.Pages = sym e ∙ phase in cc))) (pages_behind phase)
          phase_left checkpoints.Index phase = index_left phase (may_record r job) refl
          phase_left (checkpoints.Record index) phase = rests_now _ _
          phase_left (checkpoints.Trim before to_blob q) phase = rests_now _ _

        control_left : (control : Option CheckpointState) → r.control ≡ control →
            Left k v r ((if nat_lt e (2 ^ 64) then index_stood r control e offset else []) ++ stores) (rows_told d now control (Some (news.Appended e offset)) packets)
        control_left None is = if_elim (λ (actions : List StreamAction). Left k v r (actions ++ stores) (goes d now packets [])) (nat_lt e (2 ^ 64)) [] [] (λ t. rests_now _ _) (λ f. rests_now _ _)
        control_left (Some job) is = by (nat_lt e (2 ^ 64))
          where
            by : (b : Bool) → Left k v r ((if b then index_stood r (Some job) e offset else []) ++ stores) (if b then rows_stand d now job job.phase e offset else goes d now [] [])
            by true = phase_left job is job.phase refl
            by false = rests_now _ _

      told_left : (told : Option News) → answer.news ≡ told → Left k v r (rows_told_actions r told) (rows_told d now r.control told packets)
      told_left None is = stays _
      told_left (Some news.Fenced) is = left_drops k v r [] _ _
      told_left (Some (news.Appended e offset)) is = control_left e offset is r.control refl
      told_left (Some (news.Checked e l)) is = stays _
      told_left (Some (news.Sealed e l)) is = stays _
      told_left (Some (news.Content e upto)) is = stays _

      -- an answer to row data's client
      pub rows_left : Left k v r (rows_actions d r body) (rows_reply d r body)
      rows_left = by (rows_may_stand r.control body)
        where
          by : (b : Bool) → Left k v r (if b then rows_told_actions r answer.news else []) (if b then rows_told d now r.control answer.news packets else answers d r [])
          by true = told_left answer.news refl
          by false = rests

    -- ---- the record

    module _ (c : ClientState) (packets : List Packet) where
      abbrev metadata_now : RangeState
      metadata_now = record r { metadata = c }

      metadata_rests : (actions : List StreamAction) → IsQuiet actions → ReadsNothing k v r actions → (count : ℕ) (packets : List Packet) →
          Left k v r actions (record { after = Some metadata_now; count = count; packets = packets; notes = [] })
      metadata_rests actions quiet reads count packets =
          left_goes k v r actions quiet metadata_now _ _ (with_checkpoint k (view_of k v r actions) metadata_now (still_beside k v r before actions reads) before.sound (still_checkpoint k v r before actions))

      module _ (e offset : ℕ) where
        abbrev stands : CheckpointState → Place → List StreamAction
        stands job index = Stands kinds.Metadata e (last_position r.metadata offset) (record_group r job index) ∷ []

        stands_left : (job : CheckpointState) (phase : CheckpointPhase) → r.control ≡ Some job → job.phase ≡ phase →
            Left k v r (record_stood_in r job phase e offset) (record_stands d metadata_now job phase)
        stands_left job (checkpoints.Record index) is phase =
            if_elim (Left k v r (stands job index)) (has_record_number metadata_now) (trims d (recorded metadata_now job index) job) (goes d metadata_now [] [])
            (λ t. left_goes k v r (stands job index) tt _ _ _
            (with_checkpoint k (view_of k v r (stands job index)) _ (still_beside k v r before (stands job index) refl) before.sound (record { appends = idle; merges = inr refl; pages = tt; layer = tt })))
            (λ f. metadata_rests (stands job index) tt refl _ _)
          where
            idle : r.rows.job ≡ jobs.Idle
            idle = subst (AppendsPhase r.rows job) phase (subst (AppendsRows r.rows) is before.checkpoint.appends)
        stands_left job checkpoints.Combining is phase = metadata_rests [] tt refl _ _
        stands_left job checkpoints.Pages is phase = metadata_rests [] tt refl _ _
        stands_left job checkpoints.Index is phase = metadata_rests [] tt refl _ _
        stands_left job (checkpoints.Trim before to_blob q) is phase = metadata_rests [] tt refl _ _

        record_control : (control : Option CheckpointState) → r.control ≡ control →
            Left k v r (record_stood r control e offset) (record_told d metadata_now control (Some (news.Appended e offset)) packets)
        record_control None is = metadata_rests [] tt refl _ _
        record_control (Some job) is = stands_left job job.phase is refl

      -- news of the metadata's client while the range is served
      pub record_left : (told : Option News) → Left k v r (record_actions r told) (record_told d metadata_now r.control told packets)
      record_left None = metadata_rests [] tt refl _ _
      record_left (Some news.Fenced) = left_drops k v r [] _ _
      record_left (Some (news.Appended e offset)) = record_control e offset r.control refl
      record_left (Some (news.Checked e l)) = metadata_rests [] tt refl _ _
      record_left (Some (news.Sealed e l)) = metadata_rests [] tt refl _ _
      record_left (Some (news.Content e upto)) = metadata_rests [] tt refl _ _

    -- ---- the Trim

    trim_phase : (job : CheckpointState) (phase : CheckpointPhase) → r.control ≡ Some job → job.phase ≡ phase → (body : StreamBody) → Left k v r [] (trim_told d r phase body)
    trim_phase job (checkpoints.Trim below to_blob q) is phase (streams.Trimmed w) =
        left_goes k v r [] tt _ _ _
        (with_checkpoint k v _ (still_beside k v r before [] refl) before.sound
        (record { appends = subst (AppendsPhase r.rows job) phase (subst (AppendsRows r.rows) is before.checkpoint.appends); merges = tt; pages = tt; layer = before.checkpoint.layer }))
    trim_phase job phase is same body = rests

    trim_control : (control : Option CheckpointState) → r.control ≡ control → (body : StreamBody) → Left k v r [] (trim_reply_in d r control body)
    trim_control None is body = rests
    trim_control (Some job) is body = trim_phase job job.phase is refl body

    -- the answer to it
    pub trim_left : (body : Body) → Left k v r [] (trim_reply d r body)
    trim_left (bodies.Stream body) = trim_control r.control refl body
    trim_left (bodies.Append body) = refused body
    trim_left body = rests
