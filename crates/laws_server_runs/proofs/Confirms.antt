-- The answers to the opening and the confirmation of a range keep what is kept of it; where its generation is confirmed, it is served
-- from then on with the layer of the line that its load shows.
use Rattle.std.proofs.Common.{◌≡◌, inl, inr, ℕ, ◌<◌, true, false, nat_lt, List, [], ◌∷◌, ◌++◌, length, Option, Some, None, is_some, refl, sym, ap, ◌∙◌, subst, arith}
use Rattle.std.specs.Prelude.{if◌then◌else◌}
use Rattle.std.proofs.lemmas.Bool.{ltb-true}
use Rattle.wire.specs.declared.actor.ReqNo.{ReqNo}
use Rattle.wire.specs.declared.body.AppendBody.{AppendBody}
use Rattle.wire.specs.declared.body.AppendBody.TheVariants as appends
use Rattle.wire.specs.declared.body.Body.{Body}
use Rattle.wire.specs.declared.body.Body.TheVariants as bodies
use Rattle.wire.specs.declared.body.StreamBody.{StreamBody}
use Rattle.wire.specs.declared.body.StreamBody.TheVariants as stream_bodies
use Rattle.wire.specs.declared.streams.StreamKind.TheVariants as kinds
use Rattle.wire.specs.declared.note.Note.{Note}
use Rattle.wire.specs.declared.note.Note.TheVariants.{Loaded}
use Rattle.wire.specs.declared.rows.Row.{Row}
use Rattle.wire.specs.declared.refusal.Refusal.TheVariants as refusals
use Rattle.wire.specs.declared.streams.StreamLists.{StreamLists}
use Rattle.client.specs.declared.load.LoadPhase.{LoadPhase}
use Rattle.client.specs.declared.load.LoadPhase.TheVariants as phases
use Rattle.client.specs.Client.{last_extent}
use Rattle.client.specs.Load.{load_awaits}
use Rattle.metadata.specs.declared.record.Region.{Region}
use Rattle.metadata.specs.Fold.{first_metadata}
use Rattle.metadata.specs.Keys.{within}
use Rattle.commitlog.specs.Replay.{Numbered}
use Rattle.model_streams.proofs.Tests.{if_elim}
use Rattle.model_partition.specs.declared.server_context.ServerContext.{ServerContext}
use Rattle.model_partition.specs.declared.stage.Stage.{Stage}
use Rattle.model_partition.specs.declared.stage.Stage.TheVariants as stages
use Rattle.model_partition.specs.declared.table_note.TableNote.TheVariants as tables
use Rattle.model_partition.specs.Answering.{load_refused, load_told, load_reply}
use Rattle.model_partition.specs.Loading.{has_position, log_end, open_region, opens, serves, serves_from, serves_region, shown_table}
use Rattle.model_histories.specs.Log.{line_shown, without_gots}
use Rattle.model_partition.specs.Past.{Bytes, Transaction, stored}
use Rattle.model_histories.specs.IndexContents.{entries_in}
use Rattle.model_partition.specs.Range.{RangeState, RangeOutcome, answers, dropped, is_serving}
use Rattle.model_histories.specs.ServedTables.{AreSeenAs}
use Rattle.model_histories.specs.ServerRun.{place_number}
use Rattle.model_histories.specs.StreamActions.{StreamAction, confirmed_actions, load_actions}
use Rattle.model_histories.specs.TableContents.{table_in}
use Rattle.laws_tables.proofs.Range.{newest}
use Rattle.laws_tables.specs.Layers.{empty_layer, layer_line}
use Rattle.laws_tables.specs.Runs as chains
use Rattle.laws_tables.specs.Runs.{Run, first_beginning, confirmed, replayed_by, next_loaded}
use Rattle.laws_loads.proofs.Rows.{Ordered}
use Rattle.laws_loads.specs.MemoryLayers.{layer_in}
use Rattle.laws_checkpoints.specs.IndexLayers.{layer_at}
use Rattle.laws_server_runs.specs.CheckpointInvariant.{parts_of, out_beside, HoldsCheckpoint, AppendsRows, ReadsNext}
use Rattle.laws_server_runs.proofs.MetadataJobs.{free_beside, free_none, idle_metadata}
use Rattle.laws_server_runs.specs.RangeInvariant.{HasReadAll, Matches, Serves, PhaseIs, StageIs, RangeKept, StreamsKept, InOrder, AreObserved, Rests, Adds, StepKept}
use Rattle.laws_loads.specs.RangeView.{RangeView, Free, view_after_all}
use Rattle.laws_server_runs.proofs.Behind.{end_fits}
use Rattle.laws_server_runs.proofs.ConfirmedLoad.{start_of, metadata_end, shows, view_shown, spelled_groups, shown_records, run_loaded, log_stop, named_are, said_is, next_is, position_is, records_keep, layer_is, first_load, streams_loaded}
use Rattle.laws_server_runs.proofs.LoadedRows.{table_load}
use Rattle.laws_server_runs.proofs.Loads.{calm_kept}
use Rattle.laws_server_runs.proofs.ObservedLoad.{SaysLoad, load_observed}
use Rattle.laws_server_runs.proofs.OneRegion.{AllKeepOneRegion}
use Rattle.laws_server_runs.proofs.ServedNotes.{same_here}

module _ (texts : ℕ → Bytes) (subject : ℕ) (run : Run) (v : RangeView) (r : RangeState) (kept : RangeKept texts subject run v r) (streams : StreamsKept texts run v) (ordered : Ordered r.live)
    (d : ServerContext) where
  -- ---- nothing is done

  calm : StepKept texts subject run v r [] (answers d r [])
  calm = calm_kept texts subject run v r (answers d r []) streams refl (kept, refl) (λ s. inl s)

  gone : StepKept texts subject run v r [] (dropped d r)
  gone = calm_kept texts subject run v r (dropped d r) streams refl tt tt

  -- ---- the range is served

  module _ (h : HasReadAll texts v.history r) (sorted : Ordered r.live) (order : InOrder texts (view_shown v r)) (region : Region) (is : open_region r.regions ≡ Some region) (some : 0 < region.next)
      (counted : has_position r.log ≡ true) (free : v.split ≡ Free) where
    abbrev served : RangeState
    served =
        record r {
          load = record r.load { phase = phases.Confirmed };
          stage = stages.Serving;
          next = region.next;
          position = log_end r.log (last_extent r.log.extents) region.start;
          queue = [];
          out = None;
        }

    keep : AllKeepOneRegion first_metadata (line_shown (shown_records v r))
    keep = records_keep texts run v r h.log streams order

    number_is : region.next ≡ next_loaded first_beginning (spelled_groups v r) (shown_records v r)
    number_is = next_is texts run v r h.log streams order keep region is

    layer_now : (key : Bytes) → within r.said.keys key ≡ true → layer_in texts r.live key ≡ layer_line (replayed_by first_beginning (spelled_groups v r) (shown_records v r)) empty_layer key
    layer_now = layer_is texts run v r h.log streams order keep

    abbrev end : ℕ
    end = place_number (log_stop r)

    matches_now : Matches texts (view_shown v r) (confirmed first_beginning (place_number (start_of r)) end (spelled_groups v r) (shown_records v r)) served
    matches_now = record {
      position = position_is texts run v r h.log streams order keep region is (end_fits r.log counted);
      next = number_is;
      out = refl;
      live = λ stand key there. layer_now key there;
      checkpoint = subst (λ control. HoldsCheckpoint texts (parts_of (view_shown v r) (confirmed first_beginning (place_number (start_of r)) end (spelled_groups v r) (shown_records v r)) served) control)
          (sym h.log.none) (record { entries = h.log.fixed; layer = refl; noted = refl; record_out = ap (λ x. out_beside x None) free });
      said = said_is texts run v r h.log streams order;
      installed = h.installed;
      ordered = sorted;
      named = named_are texts run v r h.log streams order;
      rows = subst (AppendsRows r.rows) (sym h.log.none) h.log.rows;
      reads = subst (ReadsNext r.reading) (sym h.log.none) tt;
      beside = free_beside v.split free (v.history.append kinds.Metadata) None r.control r.said.next;
      metadata = idle_metadata r.metadata.job h.log.idle v.split (free_none v.split free) r.control;
    }

    serves_now : Serves texts (run_loaded run v r) (view_shown v r) served
    serves_now = record {
      shown = (length (chains.log_of run), place_number (start_of r), end, spelled_groups v r, newest (Numbered Transaction) _ (chains.log_of run));
      matches = subst (λ s. Matches texts (view_shown v r) s served) (sym (same_here r.load.generation _ _)) matches_now;
    }

    kept_now : RangeKept texts subject (run_loaded run v r) (view_shown v r) served
    kept_now = record {
      range = kept.range;
      phase = refl;
      sound = record { queue_fits = tt; out_fits = tt; counted = omega arith; numbered = omega (arith, some) };
      stage = serves_now;
      held = kept.held;
    }

    -- the rows of the load are what its layers say
    rows_say : (rows : List Row) → ((key : Bytes) → stored rows key ≡ table_in texts (entries_in texts (shown_table r)) key) → SaysLoad (layer_at texts) rows (spelled_groups v r) (shown_records v r)
    rows_say rows says = table_load texts run v r h.log streams order h.installed sorted rows says

    seen_now : (before later : List Note) → AreObserved texts subject run before →
        AreSeenAs texts (tables.Loaded r.load.range r.load.generation (shown_table r) region.next ∷ []) later → AreObserved texts subject (run_loaded run v r) (before ++ without_gots later)
    seen_now before [] o s = absurd s
    seen_now before (note ∷ (other ∷ later)) o s = absurd s.1
    seen_now before (note ∷ []) o s =
        let rows : List Row = s.0.0 in
        let note_is : note ≡ Loaded subject r.load.generation rows (next_loaded first_beginning (spelled_groups v r) (shown_records v r)) =
        s.0.1 ∙ (λ i. Loaded (kept.range i) r.load.generation rows (number_is i)) in
        subst (λ (n : Note). AreObserved texts subject (run_loaded run v r) (before ++ without_gots (n ∷ []))) (sym note_is)
        (load_observed texts subject run r.load.generation (place_number (start_of r)) end (place_number (metadata_end r)) (spelled_groups v r) (shown_records v r) rows before
        (rows_say rows s.0.2) o)

    region_kept : StepKept texts subject run v r (shows r ∷ []) (serves_region d r region)
    region_kept = record {
      next = run_loaded run v r;
      goes = Adds _ run Rests refl;
      alone = inr (inr (first_load texts run v r h.log streams order));
      kept = (kept_now, refl);
      streams = streams_loaded texts run v r h.log streams order;
      longer = ([], refl);
      anew = λ s. inr (first_load texts run v r h.log streams order);
      seen = seen_now;
    }

  -- ---- answers

  -- what a step leaves, with what it did unless the range is dropped
  abbrev LoadStep : RangeOutcome → List StreamAction → Type 0
  LoadStep o actions =
      InOrder texts (view_after_all r.load.generation v (if is_some o.after then actions else [])) → StepKept texts subject run v r (if is_some o.after then actions else []) o

  -- nothing is done either way
  no_action : (o : RangeOutcome) → StepKept texts subject run v r [] o → LoadStep o []
  no_action o s order = if_elim (λ (actions : List StreamAction). StepKept texts subject run v r actions o) (is_some o.after) [] [] (λ t. s) (λ f. s)

  confirmation_kept : HasReadAll texts v.history r → Ordered r.live → v.split ≡ Free → LoadStep (serves d r) (shows r ∷ [])
  confirmation_kept h sorted free =
      if_elim (λ (o : RangeOutcome). LoadStep o (shows r ∷ [])) (has_position r.log) (serves_from d r (open_region r.regions)) (dropped d r)
      (λ t. from t (open_region r.regions) refl) (λ f order. gone)
    where
      from : has_position r.log ≡ true → (region : Option Region) → open_region r.regions ≡ region → LoadStep (serves_from d r region) (shows r ∷ [])
      from counted None e = λ order. gone
      from counted (Some region) e =
          if_elim (λ (o : RangeOutcome). LoadStep o (shows r ∷ [])) (nat_lt 0 region.next) (serves_region d r region) (dropped d r)
          (λ t order. region_kept h sorted order region e (ltb-true 0 region.next t) counted free) (λ f order. gone)

  refused_kept : (body : AppendBody) → StepKept texts subject run v r [] (load_refused d r body)
  refused_kept (appends.Refused w refusals.Stale) = gone
  refused_kept body = calm

  -- the stage of a range whose opening is out
  is_opening : (stage : Stage) (phase : LoadPhase) (q : ReqNo) → PhaseIs texts stage phase → phase ≡ phases.Opening q → stage ≡ stages.Opening
  is_opening stages.Opening phase q is e = refl
  is_opening (stages.Checking kind) phase q is e = absurd cc
  is_opening (stages.Reading kind position) phase q is e = absurd cc
  is_opening (stages.Indexing position) phase q is e = absurd cc
  is_opening stages.Confirming phase q is e = absurd (let other : phase ≡ phases.Confirming is.0 = is.1 in cc)
  is_opening stages.Serving phase q is e = absurd cc

  -- and that of one whose confirmation is out
  is_confirming : (stage : Stage) (phase : LoadPhase) (q : ReqNo) → PhaseIs texts stage phase → phase ≡ phases.Confirming q → stage ≡ stages.Confirming
  is_confirming stages.Opening phase q is e = absurd (let other : phase ≡ phases.Opening is.0 = is.1 in cc)
  is_confirming (stages.Checking kind) phase q is e = absurd cc
  is_confirming (stages.Reading kind position) phase q is e = absurd cc
  is_confirming (stages.Indexing position) phase q is e = absurd cc
  is_confirming stages.Confirming phase q is e = refl
  is_confirming stages.Serving phase q is e = absurd cc

  module _ (opened : r.stage ≡ stages.Opening → (lists : StreamLists) → StepKept texts subject run v r [] (opens d r lists)) (loads : is_serving r.stage ≡ false → v.split ≡ Free) where
    told_kept : (phase : LoadPhase) → r.load.phase ≡ phase → (body : StreamBody) → LoadStep (load_told d r phase body) (confirmed_actions r phase body)
    told_kept (phases.Opening q) e (stream_bodies.Opened w lists) = no_action (opens d r lists) (opened (is_opening r.stage r.load.phase q kept.phase e) lists)
    told_kept (phases.Confirming q) e (stream_bodies.Confirmed w) =
        let confirming : r.stage ≡ stages.Confirming = is_confirming r.stage r.load.phase q kept.phase e in
        confirmation_kept (subst (λ (z : Stage). StageIs texts run v r z) confirming kept.stage) ordered (loads (ap is_serving confirming))
    told_kept phase e body = no_action (answers d r []) calm

    answer_kept : (body : Body) → LoadStep (load_reply d r body) (load_actions r body)
    answer_kept (bodies.Append body) = no_action (load_refused d r body) (refused_kept body)
    answer_kept (bodies.Stream body) = told_kept r.load.phase refl body
    answer_kept body = no_action (answers d r []) calm

    -- the answer to the opening or the confirmation
    pub load_kept : (w : ReqNo) (body : Body) → load_awaits r.load.phase w ≡ true →
        InOrder texts (view_after_all r.load.generation v (if is_some (load_reply d r body).after then load_actions r body else [])) →
        StepKept texts subject run v r (if is_some (load_reply d r body).after then load_actions r body else []) (load_reply d r body)
    load_kept w body awaited order = answer_kept body order
