-- Each rule of a range, whatever its streams are, keeps its number and what its layers are laid within, and what it shows is of that
-- number and laid within what was shown.
use Rattle.std.proofs.Common.{◌≡◌, ℕ, suc, ◌+◌, ◌<◌, ◌^◌, Bool, true, false, List, [], ◌∷◌, length, map, nat_lt, ◌&&◌, Option, Some, None, is_some, option_to_list, refl, sym, ap, ◌∙◌, subst, arith, if◌then◌else◌}
use Rattle.block_types.specs.declared.record.Nodes.{Nodes}
use Rattle.wire.specs.declared.actor.ActorId.{ActorId}
use Rattle.wire.specs.declared.actor.ReqNo.{ReqNo}
use Rattle.wire.specs.declared.body.AppendBody.{AppendBody}
use Rattle.wire.specs.declared.body.AppendBody.TheVariants as appends
use Rattle.wire.specs.declared.body.Body.{Body}
use Rattle.wire.specs.declared.body.Body.TheVariants as bodies
use Rattle.wire.specs.declared.body.ReadBody.{ReadBody}
use Rattle.wire.specs.declared.body.ReadBody.TheVariants as reads
use Rattle.wire.specs.declared.body.StreamBody.{StreamBody}
use Rattle.wire.specs.declared.body.StreamBody.TheVariants as streams
use Rattle.wire.specs.declared.packet.Packet.{Packet}
use Rattle.wire.specs.declared.refusal.Refusal.{Refusal}
use Rattle.wire.specs.declared.refusal.Refusal.TheVariants as refusals
use Rattle.wire.specs.declared.streams.StreamExtent.{StreamExtent}
use Rattle.wire.specs.declared.streams.StreamKind.TheVariants as kinds
use Rattle.wire.specs.declared.streams.StreamLists.{StreamLists}
use Rattle.memtable.specs.Entries.{Entries}
use Rattle.metadata.specs.declared.record.IndexRange.{IndexRange}
use Rattle.metadata.specs.declared.record.Region.{Region}
use Rattle.checkpoint_format.specs.declared.index.Index.{Index}
use Rattle.checkpoint_format.specs.Index.{index_at}
use Rattle.metadata.specs.Fold.{MetadataState, first_metadata}
use Rattle.client.specs.declared.job.News.{News}
use Rattle.client.specs.declared.job.News.TheVariants as news
use Rattle.client.specs.declared.load.LoadPhase.{LoadPhase}
use Rattle.client.specs.declared.load.LoadPhase.TheVariants as phases
use Rattle.client.specs.Client.{ClientState, Outcome, new_client, last_extent, awaits, reply_rule}
use Rattle.client.specs.Load.{load_awaits}
use Rattle.model_streams.proofs.Tests.{if_elim}
use Rattle.model_partition.specs.declared.server_context.ServerContext.{ServerContext}
use Rattle.model_partition.specs.declared.stage.Stage.{Stage}
use Rattle.model_partition.specs.declared.stage.Stage.TheVariants as stages
use Rattle.model_partition.specs.Range.{OutGroup, RangeState, RangeOutcome, request, used, answers, dropped, picking, is_serving}
use Rattle.model_partition.specs.Loading.{Group, said_after, confirms, asks_index, index_named, reads_named, reads_index, installs, index_read, reads_log, open_region, first_position, reads_log_from, checks_log, begins_log, reads_metadata, begins_metadata, opens, are_counted, has_position, says, metadata_news, replayed, replays, log_read, log_news, serves, serves_from, serves_region}
use Rattle.model_partition.specs.PlaceReads.{places_of, reads_under, reads_page, place_of}
use Rattle.model_partition.specs.Getting.{get_fault, gets, get_rule, read_at, are_no_page, came, without}
use Rattle.model_partition.specs.Answering.{may_stand, load_refused, load_told, load_reply, metadata_reply, serving_news, is_taken, log_taken, log_reply, page_reply, index_reply, trim_reply, bytes_reply, gets_reply, groups_of, answer_rule, give_up_all}
use Rattle.model_partition.specs.Server.{new_range}
use Rattle.model_histories.specs.StreamActions.{StreamAction, Reads, Shows, Finds, first_start, read_end, loading_actions, serving_actions, confirmed_actions, load_actions, record_actions, metadata_actions, rows_actions, bytes_told_actions, bytes_actions, log_actions, answer_actions}
use Rattle.model_histories.specs.ServerRun.{bytes_read}
use Rattle.model_partition.specs.Checkpoints.{record_told, rows_reply, trim_awaits}
use Rattle.laws_loads.proofs.IndexAnswers.{index_reply_elim}
use Rattle.laws_loads.specs.RangeView.{RangeView}
use Rattle.laws_server_runs.specs.Places.{IsLaid, AreLow, placed_of, CheckpointLaid, RangeLaid, IsQuiet, Quiet, RuleLaid}
use Rattle.laws_server_runs.proofs.LaidCheckpoints.{page_left, rows_left, record_left, trim_left}
use Rattle.laws_server_runs.proofs.LaidLayers.{laid_front, replayed_laid}
use Rattle.laws_server_runs.proofs.LaidReplies.{idle_appends}
use Rattle.laws_server_runs.proofs.LaidFits.{replayed_low}
use Rattle.laws_server_runs.proofs.LaidOffsets.{GivesOffset, TellsOffset, reply_offset}
use Rattle.laws_server_runs.proofs.LaidServed.{RoomFor, RoomIf, serving_left}
use Rattle.laws_loads.specs.Sound.{IsSound}
use Rattle.laws_loads.proofs.WaitingStays.{new_sound}
use Rattle.std.proofs.lemmas.Bool.{and_parts, ltb-true}
use Rattle.model_partition.specs.Serving.{out_size}
use Rattle.laws_server_runs.proofs.LaidStates.{Beside, with_checkpoint, view_of, Left, left_drops, left_goes, ReadsNothing, still_beside, still_checkpoint, left_shows}
use Rattle.laws_server_runs.proofs.RowAppends.{give_up_appends}
use Rattle.laws_server_runs.proofs.GetNotes.{try_gots, try_all_gots}

-- a range that begins its load
pub new_laid : (k : ℕ) (v : RangeView) (d : ServerContext) (generation until : ℕ) → RangeLaid k v (new_range d k generation until)
new_laid k v d generation until = record {
  range = refl;
  confirmed = λ e. absurd cc;
  layer = λ e. (tt, tt);
  live = λ e. absurd cc;
  low = (tt, tt);
  sound = new_sound d k generation until;
  checkpoint = record { appends = refl; merges = tt; pages = tt; layer = tt };
}

-- its lease goes on
pub renewed_laid : (k : ℕ) (v : RangeView) (r : RangeState) → RangeLaid k v r → (until count : ℕ) →
    RuleLaid k v r [] (record { after = Some (record r { until = until }); count = count; packets = []; notes = [] })
renewed_laid k v r before until count = record {
  step = record { after = with_checkpoint k v _ (record { range = before.range; confirmed = before.confirmed; layer = before.layer; values = before.live; low = before.low }) before.sound before.checkpoint; notes = tt };
  forms = Quiet [] tt;
  tables = tt;
}

module _ (k : ℕ) (v : RangeView) (r : RangeState) (before : RangeLaid k v r) (d : ServerContext) where
  -- ---- a load

  module _ (actions : List StreamAction) (quiet : IsQuiet actions) where
    abbrev view : RangeView
    view = view_of k v r actions

    drops_left : (count : ℕ) (packets : List Packet) → Left k v r actions (record { after = None; count = count; packets = packets; notes = [] })
    drops_left count packets = left_drops k v r actions count packets

    goes_left : (next : RangeState) (count : ℕ) (packets : List Packet) → RangeLaid k view next → Left k v r actions (record { after = Some next; count = count; packets = packets; notes = [] })
    goes_left next count packets laid = left_goes k v r actions quiet next count packets laid

    -- a state of a load
    record IsLoading (s : RangeState) : Type 0 where
      range : s.load.range ≡ k
      low : AreLow s.live
      sound : IsSound s
      layer : IsLaid (bytes_read (view.history.reads kinds.Log)) s.live
      checkpoint : CheckpointLaid (placed_of view) s.rows s.fixed s.control

    loads : (s : RangeState) → s.load.range ≡ k → IsLaid (bytes_read (view.history.reads kinds.Log)) s.live → AreLow s.live → IsSound s → CheckpointLaid (placed_of view) s.rows s.fixed s.control → is_serving s.stage ≡ false → RangeLaid k view s
    loads s range layer low sound checkpoint e = record {
      range = range;
      low = low;
      sound = sound;
      confirmed = λ t. absurd (let z : true ≡ false = sym t ∙ e in cc);
      layer = λ f. layer;
      live = λ t. absurd (let z : true ≡ false = sym t ∙ e in cc);
      checkpoint = checkpoint;
    }

    confirms_left : (s : RangeState) → IsLoading s → Left k v r actions (confirms d s)
    confirms_left s l = goes_left _ _ _ (loads _ l.range l.layer l.low l.sound l.checkpoint refl)

    asks_index_left : (s : RangeState) → IsLoading s → (position : ℕ) (index : IndexRange) (places : Option Nodes) → Left k v r actions (asks_index d s position index places)
    asks_index_left s l position index None = drops_left _ _
    asks_index_left s l position index (Some places) = goes_left _ _ _ (loads _ l.range l.layer l.low l.sound l.checkpoint refl)

    reads_named_left : (s : RangeState) → IsLoading s → (position : ℕ) (named : Option IndexRange) → Left k v r actions (reads_named d s position named)
    reads_named_left s l position None = confirms_left (record s { reading = None }) (record { range = l.range; low = l.low; sound = l.sound; layer = l.layer; checkpoint = l.checkpoint })
    reads_named_left s l position (Some index) = asks_index_left s l position index (places_of s index.place.extent)

    reads_index_left : (s : RangeState) → IsLoading s → (position : ℕ) → Left k v r actions (reads_index d s position)
    reads_index_left s l position = reads_named_left s l position (index_named s.said.indexes position)

    installs_left : (s : RangeState) → IsLoading s → (position : ℕ) (named : Option IndexRange) (index : Option Index) → Left k v r actions (installs d s position named index)
    installs_left s l position (Some named) (Some index) =
        reads_index_left (record s { indexes = record { place = named.place; keys = named.keys; index = index } ∷ s.indexes }) (record { range = l.range; low = l.low; sound = l.sound; layer = l.layer; checkpoint = l.checkpoint }) (suc position)
    installs_left s l position named index = drops_left _ _

    reads_log_left : (s : RangeState) → IsLoading s → (position : ℕ) → Left k v r actions (reads_log d s position)
    reads_log_left s l position = if_elim (Left k v r actions) (nat_lt position (length s.log.extents)) _ _ (λ t. goes_left _ _ _ (loads _ l.range l.layer l.low l.sound l.checkpoint refl)) (λ f. reads_index_left s l 0)

    reads_log_from_left : (s : RangeState) → IsLoading s → (position : Option ℕ) → Left k v r actions (reads_log_from d s position)
    reads_log_from_left s l None = drops_left _ _
    reads_log_from_left s l (Some position) = reads_log_left s l position

    checks_log_left : (s : RangeState) → IsLoading s → (x : Option StreamExtent) → Left k v r actions (checks_log d s x)
    checks_log_left s l None = reads_log_from_left s l (first_position s s.regions)
    checks_log_left s l (Some x) =
        if_elim (Left k v r actions) (is_some x.length) _ _ (λ t. reads_log_from_left s l (first_position s s.regions)) (λ f. goes_left _ _ _ (loads _ l.range l.layer l.low l.sound l.checkpoint refl))

    begins_log_left : (s : RangeState) → IsLoading s → Left k v r actions (begins_log d s)
    begins_log_left s l =
        if_elim (Left k v r actions) (is_some (open_region s.said.regions) && is_some (first_position s s.said.regions)) _ _
        (λ t. checks_log_left (record s { regions = s.said.regions }) (record { range = l.range; low = l.low; sound = l.sound; layer = l.layer; checkpoint = l.checkpoint }) (last_extent s.log.extents)) (λ f. drops_left _ _)

    reads_metadata_left : (s : RangeState) → IsLoading s → (position : ℕ) → Left k v r actions (reads_metadata d s position)
    reads_metadata_left s l position =
        if_elim (Left k v r actions) (nat_lt position (length s.metadata.extents)) _ _ (λ t. goes_left _ _ _ (loads _ l.range l.layer l.low l.sound l.checkpoint refl)) (λ f. begins_log_left s l)

    begins_metadata_left : (s : RangeState) → IsLoading s → (x : Option StreamExtent) → Left k v r actions (begins_metadata d s x)
    begins_metadata_left s l None = begins_log_left s l
    begins_metadata_left s l (Some x) =
        if_elim (Left k v r actions) (is_some x.length) _ _ (λ t. reads_metadata_left s l 0) (λ f. goes_left _ _ _ (loads _ l.range l.layer l.low l.sound l.checkpoint refl))

    opens_left : (s : RangeState) → IsLoading s → (lists : StreamLists) → Left k v r actions (opens d s lists)
    opens_left s l lists =
        begins_metadata_left
        (record s {
          load = record s.load { phase = phases.Opened };
          metadata = new_client d.server (record { range = s.load.range; kind = kinds.Metadata }) s.load.generation lists.metadata d.pick;
          log = new_client d.server (record { range = s.load.range; kind = kinds.Log }) s.load.generation lists.log d.pick;
          rows = new_client d.server (record { range = s.load.range; kind = kinds.RowData }) s.load.generation lists.row_data d.pick;
          blob_data = lists.blob_data;
          said = first_metadata;
        })
        (record { range = l.range; low = l.low; sound = l.sound; layer = l.layer; checkpoint = record { appends = idle_appends (new_client d.server (record { range = s.load.range; kind = kinds.RowData }) s.load.generation lists.row_data d.pick) s.control refl; merges = l.checkpoint.merges; pages = l.checkpoint.pages; layer = l.checkpoint.layer } }) (last_extent lists.metadata.extents)

    says_left : (s : RangeState) → IsLoading s → (position : ℕ) (said : Option MetadataState) → Left k v r actions (says d s position said)
    says_left s l position None = drops_left _ _
    says_left s l position (Some said) = reads_metadata_left (record s { said = said }) (record { range = l.range; low = l.low; sound = l.sound; layer = l.layer; checkpoint = l.checkpoint }) (suc position)

  layer_of : (stage : Stage) → r.stage ≡ stage → is_serving stage ≡ false → IsLaid (bytes_read (v.history.reads kinds.Log)) r.live
  layer_of stage is e = before.layer (ap is_serving is ∙ e)

  -- what was kept, whatever else is changed
  still : Beside k v r.load r.stage r.live
  still = record { range = before.range; confirmed = before.confirmed; layer = before.layer; values = before.live; low = before.low }

  again : (s : RangeState) → Beside k v s.load s.stage s.live → IsSound s → CheckpointLaid (placed_of v) s.rows s.fixed s.control → RangeLaid k v s
  again s b sound c = with_checkpoint k v s b sound c

  rests_with : (next : RangeState) (count : ℕ) (packets : List Packet) → RangeLaid k v next → Left k v r [] (record { after = Some next; count = count; packets = packets; notes = [] })
  rests_with next count packets laid = left_goes k v r [] tt next count packets laid

  -- ---- the metadata

  module _ (groups : List Group) (packets : List Packet) (c : ClientState) where
    abbrev metadata_now : RangeState
    metadata_now = record r { metadata = c }

    metadata_still : RangeLaid k v metadata_now
    metadata_still = again metadata_now still before.sound before.checkpoint

    metadata_loading : (stage : Stage) → r.stage ≡ stage → is_serving stage ≡ false → IsLoading [] tt metadata_now
    metadata_loading stage is e = record { range = before.range; low = before.low; sound = before.sound; layer = layer_of stage is e; checkpoint = before.checkpoint }

    abbrev MetadataStep : Stage → Option News → Type 0
    MetadataStep stage told = Left k v r (loading_actions kinds.Metadata r.metadata stage groups told) (metadata_news d metadata_now groups stage told packets)

    metadata_step : (stage : Stage) → r.stage ≡ stage → (told : Option News) → MetadataStep stage told
    metadata_step stage is (Some news.Fenced) = left_drops k v r (loading_actions kinds.Metadata r.metadata stage groups (Some news.Fenced)) _ _
    metadata_step (stages.Checking kind) is (Some (news.Checked e l)) = reads_metadata_left [] tt metadata_now (metadata_loading _ is refl) 0
    metadata_step (stages.Checking kind) is (Some (news.Sealed e l)) = reads_metadata_left [] tt metadata_now (metadata_loading _ is refl) 0
    metadata_step (stages.Reading kind position) is (Some (news.Sealed e l)) = reads_metadata_left [] tt metadata_now (metadata_loading _ is refl) position
    metadata_step (stages.Reading kind position) is (Some (news.Content e upto)) =
        says_left (Reads kinds.Metadata (record { index = r.metadata.base + position; extent = e; groups = groups }) ∷ []) tt metadata_now
        (record { range = before.range; low = before.low; sound = before.sound; layer = layer_of _ is refl; checkpoint = before.checkpoint }) position (said_after r.said groups)
    metadata_step stages.Opening is told = rests_with metadata_now (suc d.count) packets metadata_still
    metadata_step (stages.Checking kind) is told = rests_with metadata_now (suc d.count) packets metadata_still
    metadata_step (stages.Reading kind position) is told = rests_with metadata_now (suc d.count) packets metadata_still
    metadata_step (stages.Indexing position) is told = rests_with metadata_now (suc d.count) packets metadata_still
    metadata_step stages.Confirming is told = rests_with metadata_now (suc d.count) packets metadata_still
    metadata_step stages.Serving is told = rests_with metadata_now (suc d.count) packets metadata_still

  -- an answer to the metadata's client
  metadata_left : (body : Body) → Left k v r (metadata_actions d r body) (metadata_reply d r body)
  metadata_left body = at_stage (is_serving r.stage)
    where
      o : Outcome
      o = reply_rule (picking d r.metadata) (request d) body

      now : RangeState
      now = record r { metadata = o.after }

      at_stage : (b : Bool) →
          Left k v r (if b then record_actions r o.news else loading_actions kinds.Metadata r.metadata r.stage (groups_of body) o.news)
          (if b then record_told d now r.control o.news (option_to_list o.packet) else metadata_news d now (groups_of body) r.stage o.news (option_to_list o.packet))
      at_stage true = record_left k v r d before o.after (option_to_list o.packet) o.news
      at_stage false = metadata_step (groups_of body) (option_to_list o.packet) o.after r.stage refl o.news

  -- ---- the log

  module _ (groups : List Group) (packets : List Packet) (c : ClientState) where
    abbrev now : RangeState
    now = record r { log = c }

    log_still : RangeLaid k v now
    log_still = again now still before.sound before.checkpoint

    log_loading : (stage : Stage) → r.stage ≡ stage → is_serving stage ≡ false → IsLoading [] tt now
    log_loading stage is e = record { range = before.range; low = before.low; sound = before.sound; layer = layer_of stage is e; checkpoint = before.checkpoint }

    abbrev log_reads : ℕ → ℕ → List StreamAction
    log_reads base e = Reads kinds.Log (record { index = base; extent = e; groups = groups }) ∷ []

    replays_left : (stage : Stage) → r.stage ≡ stage → is_serving stage ≡ false → (position index base e : ℕ) (x : Option (List Region × Entries)) →
        replayed r.said.keys e (record { index = index; offset = 0 }) (r.regions, r.live) groups ≡ x → Left k v r (log_reads base e) (replays d now position x)
    replays_left stage is unserved position index base e None made = left_drops k v r (log_reads base e) _ _
    replays_left stage is unserved position index base e (Some x) made =
        reads_log_left (log_reads base e) tt (record now { regions = x.0; live = x.1 })
        (record {
          range = before.range;
          low = replayed_low e r.said.keys (record { index = index; offset = 0 }) groups (r.regions, r.live) x before.low made;
          sound = before.sound;
          layer = replayed_laid r.said.keys e index groups (bytes_read (v.history.reads kinds.Log)) (r.regions, r.live) x (layer_of stage is unserved) made;
          checkpoint = before.checkpoint;
        })
        (suc position)

    log_read_left : (stage : Stage) → r.stage ≡ stage → is_serving stage ≡ false → (position base e : ℕ) → Left k v r (log_reads base e) (log_read d now position e groups)
    log_read_left stage is unserved position base e =
        if_elim (Left k v r (log_reads base e)) (nat_lt (c.base + position) (2 ^ 64)) _ _
        (λ t. replays_left stage is unserved position (c.base + position) base e (replayed r.said.keys e (record { index = c.base + position; offset = 0 }) (r.regions, r.live) groups) refl)
        (λ f. left_drops k v r (log_reads base e) _ _)

    abbrev LogStep : Stage → Option News → Type 0
    LogStep stage told = Left k v r (loading_actions kinds.Log r.log stage groups told) (log_news d now groups stage told packets)

    log_step : (stage : Stage) → r.stage ≡ stage → (told : Option News) → LogStep stage told
    log_step stage is (Some news.Fenced) = left_drops k v r (loading_actions kinds.Log r.log stage groups (Some news.Fenced)) _ _
    log_step (stages.Checking kind) is (Some (news.Checked e l)) = reads_log_from_left [] tt now (log_loading _ is refl) (first_position now r.regions)
    log_step (stages.Checking kind) is (Some (news.Sealed e l)) = reads_log_from_left [] tt now (log_loading _ is refl) (first_position now r.regions)
    log_step (stages.Reading kind position) is (Some (news.Sealed e l)) = reads_log_left [] tt now (log_loading _ is refl) position
    log_step (stages.Reading kind position) is (Some (news.Content e upto)) = log_read_left (stages.Reading kind position) is refl position (r.log.base + position) e
    log_step stages.Opening is told = rests_with now (suc d.count) packets log_still
    log_step (stages.Checking kind) is told = rests_with now (suc d.count) packets log_still
    log_step (stages.Reading kind position) is told = rests_with now (suc d.count) packets log_still
    log_step (stages.Indexing position) is told = rests_with now (suc d.count) packets log_still
    log_step stages.Confirming is told = rests_with now (suc d.count) packets log_still
    log_step stages.Serving is told = rests_with now (suc d.count) packets log_still

  -- ---- Gets

  gets_laid : (from : ActorId) (q : ReqNo) (key : List ℕ) (fault : Option Refusal) → RuleLaid k v r [] (gets d r from q key fault)
  gets_laid from q key (Some refusal) = record { step = record { after = before; notes = tt }; forms = Quiet [] tt; tables = tt }
  gets_laid from q key None =
      left_shows k v r [] tt _ _ _ _ before.range (try_gots d r (record { from = from; request = q; key = key; reads = [] })) (again _ still before.sound before.checkpoint)

  pub get_laid : (from : ActorId) (q : ReqNo) (key : List ℕ) → RuleLaid k v r [] (get_rule d r from q key)
  get_laid from q key = gets_laid from q key (get_fault d r key)

  pub give_up_laid : RuleLaid k v r [] (give_up_all d r)
  give_up_laid = record {
    step = record {
      after = again _ still before.sound (record {
        appends = give_up_appends (picking (used (used d)) r.rows) (request (used (used d))) d.pick r.control before.checkpoint.appends;
        merges = before.checkpoint.merges;
        pages = before.checkpoint.pages;
        layer = before.checkpoint.layer;
      });
      notes = tt;
    };
    forms = Quiet [] tt;
    tables = tt;
  }

  -- ---- answers

  rests_left : Left k v r [] (answers d r [])
  rests_left = left_goes k v r [] tt r _ _ before

  refused_left : (body : AppendBody) → Left k v r [] (load_refused d r body)
  refused_left (appends.Refused w refusals.Stale) = left_drops k v r [] _ _
  refused_left body = rests_left

  -- ---- bytes that were read

  module _ (actions : List StreamAction) (quiet : IsQuiet actions) (nothing : ReadsNothing k v r actions) where
    bytes_rest : Left k v r actions (answers d r [])
    bytes_rest = left_goes k v r actions quiet r _ _ (with_checkpoint k (view_of k v r actions) r (still_beside k v r before actions nothing) before.sound (still_checkpoint k v r before actions))

    -- those of Gets
    bytes_left : (w : ReqNo) (body : ReadBody) → Left k v r actions (bytes_reply d r w body)
    bytes_left w (reads.Bytes n e offset bytes) =
        if_elim (Left k v r actions) (are_no_page (read_at r.gets w) bytes) _ _ (λ t. bytes_rest)
        (λ f. left_shows k v r actions quiet _ _ _ _ before.range (try_all_gots d (record r { held = came r.held (read_at r.gets w) (place_of e offset bytes) bytes }) (map (without w) r.gets))
        (with_checkpoint k (view_of k v r actions) _ (still_beside k v r before actions nothing) before.sound (still_checkpoint k v r before actions)))
    bytes_left w body = bytes_rest

    refused_read : (body : AppendBody) → Left k v r actions (load_refused d r body)
    refused_read (appends.Refused w refusals.Stale) = left_drops k v r actions _ _
    refused_read body = bytes_rest

    gets_left : (w : ReqNo) (body : Body) → Left k v r actions (gets_reply d r w body)
    gets_left w (bodies.Read body) = bytes_left w body
    gets_left w (bodies.Append body) = refused_read body
    gets_left w body = bytes_rest

    -- those of an index
    index_read_left : (stage : Stage) → r.stage ≡ stage → (bytes : List ℕ) → Left k v r actions (index_read d r stage bytes)
    index_read_left (stages.Indexing position) is bytes =
        let b : Beside k (view_of k v r actions) r.load r.stage r.live = still_beside k v r before actions nothing in
        installs_left actions quiet r (record { range = before.range; low = before.low; sound = before.sound; layer = b.layer (ap is_serving is); checkpoint = still_checkpoint k v r before actions }) position (index_named r.said.indexes position) (index_at bytes)
    index_read_left stage is bytes = bytes_rest

    index_left : (body : Body) → Left k v r actions (index_reply d r body)
    index_left body = index_reply_elim (Left k v r actions) d r bytes_rest (left_drops k v r actions _ _) (index_read_left r.stage refl) body

  -- the bytes are found, whatever becomes of them
  module _ (o : RangeOutcome) (by : (actions : List StreamAction) → IsQuiet actions → ReadsNothing k v r actions → Left k v r actions o) where
    found_left : (body : ReadBody) → Left k v r (bytes_told_actions body) o
    found_left (reads.Bytes w e offset bytes) = by (Finds (record { extent = e; offset = offset; bytes = bytes }) ∷ []) tt refl
    found_left body = by [] tt refl

    came_left : (body : Body) → Left k v r (bytes_actions body) o
    came_left (bodies.Read body) = found_left body
    came_left body = by [] tt refl

  -- of a page that is merged, or of an index
  place_left : (body : Body) → Left k v r (bytes_actions body) (if reads_page r.reading then page_reply d r body else index_reply d r body)
  place_left body =
      came_left _
      (λ actions quiet nothing. if_elim (Left k v r actions) (reads_page r.reading) _ _ (λ t. page_left k v r d before actions quiet nothing body) (λ f. index_left actions quiet nothing body)) body

  -- of a page or a value for Gets
  gets_reply_left : (w : ReqNo) (body : Body) → Left k v r (bytes_actions body) (gets_reply d r w body)
  gets_reply_left w body = came_left _ (λ actions quiet nothing. gets_left actions quiet nothing w body) body

  -- ---- the confirmation

  -- where a phase is not that of a range that is served
  loading : (phase : LoadPhase) → r.load.phase ≡ phase → (phase ≡ phases.Confirmed → ⊥) → IsLaid (bytes_read (v.history.reads kinds.Log)) r.live
  loading phase is other = go (is_serving r.stage) refl
    where
      go : (b : Bool) → is_serving r.stage ≡ b → IsLaid (bytes_read (v.history.reads kinds.Log)) r.live
      go true e = absurd (other (sym is ∙ before.confirmed e))
      go false e = before.layer e

  opening_left : (q : ReqNo) → r.load.phase ≡ phases.Opening q → (lists : StreamLists) → Left k v r [] (opens d r lists)
  opening_left q is lists = opens_left [] tt r (record { range = before.range; low = before.low; sound = before.sound; layer = loading (phases.Opening q) is (λ e. absurd cc); checkpoint = before.checkpoint }) lists

  abbrev shows : List StreamAction
  shows = Shows (first_start r.said.regions) (read_end r.log (record { index = r.log.base; offset = 0 })) (read_end r.metadata (record { index = r.metadata.base; offset = 0 })) ∷ []

  serves_left : (q : ReqNo) → r.load.phase ≡ phases.Confirming q → Left k v r shows (serves d r)
  serves_left q is = if_elim (Left k v r shows) (has_position r.log) _ _ (λ t. from (open_region r.regions)) (λ f. left_drops k v r shows _ _)
    where
      layer : IsLaid (view_of k v r shows).shown r.live
      layer = laid_front v.shown (bytes_read (v.history.reads kinds.Log)) r.live (loading (phases.Confirming q) is (λ e. absurd cc))

      from : (region : Option Region) → Left k v r shows (serves_from d r region)
      from None = left_drops k v r shows _ _
      from (Some region) =
          if_elim (Left k v r shows) (nat_lt 0 region.next) (serves_region d r region) (dropped d r)
          (λ t. record {
            step = record {
              after = record {
                range = before.range;
                confirmed = λ e. refl;
                layer = λ e. absurd cc;
                live = λ e. (laid_front v.answered (view_of k v r shows).shown r.live layer).1;
                low = before.low;
                sound = record { queue_fits = tt; out_fits = tt; counted = omega arith; numbered = (let less : 0 < region.next = ltb-true 0 region.next t in omega (arith, less)) };
                checkpoint = still_checkpoint k v r before shows;
              };
              notes = ((before.range, refl, layer), tt);
            };
            forms = Quiet shows tt;
            tables = (record { request = q; phase = is; indexes = refl; keys = refl; start = _; log_end = _; metadata_end = _; shows = refl }, tt);
          })
          (λ f. left_drops k v r shows _ _)

  told_left : (phase : LoadPhase) (body : StreamBody) → r.load.phase ≡ phase → Left k v r (confirmed_actions r phase body) (load_told d r phase body)
  told_left (phases.Opening q) (streams.Opened w lists) is = opening_left q is lists
  told_left (phases.Confirming q) (streams.Confirmed w) is = serves_left q is
  told_left phase body is = rests_left

  load_left : (body : Body) → Left k v r (load_actions r body) (load_reply d r body)
  load_left (bodies.Append body) = refused_left body
  load_left (bodies.Stream body) = told_left r.load.phase body refl
  load_left body = rests_left

  module _ (body : Body) where
    abbrev answer : Outcome
    answer = reply_rule (picking d r.log) (request d) body

    abbrev served : RangeOutcome
    served = serving_news d (record r { log = answer.after }) answer.news (option_to_list answer.packet)

    abbrev loaded : RangeOutcome
    loaded = log_news d (record r { log = answer.after }) (groups_of body) r.stage answer.news (option_to_list answer.packet)

    abbrev taken_actions : Bool → RangeOutcome → List StreamAction
    taken_actions t o = if t then serving_actions r answer.news o else loading_actions kinds.Log r.log r.stage (groups_of body) answer.news

    -- what is taken of an answer ends below what an extent can have
    room_at : (out : Option OutGroup) (offset : ℕ) → may_stand r out offset ≡ true → RoomFor k v r before d out offset
    room_at None offset may = tt
    room_at (Some out) offset may = ltb-true (offset + out_size out) (2 ^ 32) (and_parts (nat_lt (offset + out_size out) (2 ^ 32)) (are_counted r.log) may).0

    room_of : (b : Body) (offset : ℕ) → GivesOffset b offset → is_taken r b ≡ true → RoomFor k v r before d r.out offset
    room_of (bodies.Append (appends.Appended w e other)) offset same taken = subst (RoomFor k v r before d r.out) same (room_at r.out other taken)
    room_of (bodies.Append other) offset none taken = absurd none
    room_of body offset none taken = absurd none

    room : (told : Option News) → TellsOffset body told → is_taken r body ≡ true → RoomIf k v r before d r.out told
    room None tells taken = tt
    room (Some (news.Appended e offset)) tells taken = room_of body offset tells taken
    room (Some (news.Checked e l)) tells taken = tt
    room (Some (news.Sealed e l)) tells taken = tt
    room (Some (news.Content e upto)) tells taken = tt
    room (Some news.Fenced) tells taken = tt

    taken_left : is_taken r body ≡ true → (t : Bool) → is_serving r.stage ≡ t → Left k v r (taken_actions t (if t then served else loaded)) (if t then served else loaded)
    taken_left taken true e = serving_left k v r before d e answer.after (option_to_list answer.packet) answer.news (room answer.news (reply_offset (picking d r.log) (request d) body) taken)
    taken_left taken false e = log_step (groups_of body) (option_to_list answer.packet) answer.after r.stage refl answer.news

    abbrev replied : Bool → RangeOutcome
    replied t = if t then log_taken d r body else answers d r []

    log_left : (t : Bool) → is_taken r body ≡ t → Left k v r (if t then log_actions d r body (replied t) else []) (replied t)
    log_left true taken = taken_left taken (is_serving r.stage) refl
    log_left false taken = rests_left

    answered : (w : ReqNo) (a b c e f g : Bool) →
        Left k v r
        (if a then load_actions r body else if b then metadata_actions d r body else if c then (if is_taken r body then log_actions d r body
        (if a then load_reply d r body else if b then metadata_reply d r body else if c then log_reply d r body else if e then rows_reply d r body else if f then (if reads_page r.reading then page_reply d r body else index_reply d r body) else if g then trim_reply d r body else gets_reply d r w body) else [])
        else if e then rows_actions d r body else if f then bytes_actions body else if g then [] else bytes_actions body)
        (if a then load_reply d r body else if b then metadata_reply d r body else if c then log_reply d r body else if e then rows_reply d r body else if f then (if reads_page r.reading then page_reply d r body else index_reply d r body) else if g then trim_reply d r body else gets_reply d r w body)
    answered w true b c e f g = load_left body
    answered w false true c e f g = metadata_left body
    answered w false false true e f g = log_left (is_taken r body) refl
    answered w false false false true f g = rows_left k v r d before body
    answered w false false false false true g = place_left body
    answered w false false false false false true = trim_left k v r d before body
    answered w false false false false false false = gets_reply_left w body

    -- an answer
    pub answer_laid : (w : ReqNo) → RuleLaid k v r (answer_actions d r w body (answer_rule d r w body)) (answer_rule d r w body)
    answer_laid w = answered w (load_awaits r.load.phase w) (awaits r.metadata.job w) (awaits r.log.job w) (awaits r.rows.job w) (reads_under r.reading w) (trim_awaits r.control w)
