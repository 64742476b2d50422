-- Bytes that have come leave what is kept of a range: they are those that stand where the metadata names the index that a load reads,
-- where the page stands that a checkpoint merges, and where what a Get reads does.
use Rattle.std.proofs.Common.{◌≡◌, ℕ, suc, List, [], ◌∷◌, Bool, true, false, Option, Some, None, is_some, refl, sym, ap, ◌∙◌, subst, arith, map}
use Rattle.std.specs.Prelude.{if◌then◌else◌}
use Rattle.block_types.specs.declared.record.Nodes.{Nodes}
use Rattle.wire.specs.declared.body.AppendBody.{AppendBody}
use Rattle.wire.specs.declared.body.AppendBody.TheVariants as appends
use Rattle.wire.specs.declared.body.Body.{Body}
use Rattle.wire.specs.declared.body.Body.TheVariants as bodies
use Rattle.wire.specs.declared.body.ReadBody.{ReadBody}
use Rattle.wire.specs.declared.body.ReadBody.TheVariants as reads
use Rattle.wire.specs.declared.refusal.Refusal.TheVariants as refusals
use Rattle.wire.specs.declared.actor.ReqNo.{ReqNo}
use Rattle.metadata.specs.declared.record.IndexRange.{IndexRange}
use Rattle.model_streams.proofs.Tests.{if_elim}
use Rattle.checkpoint_format.specs.declared.index.Index.{Index}
use Rattle.checkpoint_format.specs.Index.{index_at}
use Rattle.model_partition.specs.declared.server_context.ServerContext.{ServerContext}
use Rattle.model_partition.specs.declared.stage.Stage.{Stage}
use Rattle.model_partition.specs.declared.stage.Stage.TheVariants as stages
use Rattle.model_partition.specs.declared.waiting.PlaceRead.{PlaceRead}
use Rattle.model_partition.specs.Answering.{load_refused, index_told, index_reply, page_reply, bytes_reply, gets_reply}
use Rattle.model_histories.specs.IndexContents.{bytes_in}
use Rattle.model_partition.specs.Loading.{asks_index, index_bytes, index_named, index_read, installs, reads_named}
use Rattle.model_partition.specs.Past.{Bytes}
use Rattle.model_partition.specs.PlaceReads.{is_place, place_of, places_of}
use Rattle.model_partition.specs.Range.{RangeState, RangeOutcome, answers, is_serving}
use Rattle.model_partition.specs.Getting.{Held, came, read_at, are_no_page, bytes_come, try_all, without}
use Rattle.model_histories.specs.StreamActions.{PlacedBytes, StreamAction, Finds, bytes_actions, bytes_told_actions}
use Rattle.laws_loads.proofs.Cells.{taken_there}
use Rattle.laws_loads.proofs.CheckpointAnswers.{page_reply_same}
use Rattle.laws_loads.proofs.PageAnswers.{page_reply_elim}
use Rattle.laws_loads.specs.RangeView.{RangeView, view_after_all}
use Rattle.laws_tables.specs.Runs.{Run}
use Rattle.laws_checkpoints.proofs.HeldPages.{same_place}
use Rattle.laws_server_runs.specs.RangeInvariant.{PhaseIs, StageIs, Serves, RangeKept, StreamsKept, InOrder, Rests, AsksIndex, KeptIf, ServesAnew, StepKept}
use Rattle.laws_server_runs.proofs.CheckpointKept.{leaves_kept, leaves_queue, unserved_none}
use Rattle.laws_server_runs.proofs.CheckpointSteps.{page_step}
use Rattle.laws_server_runs.proofs.HeldBytes.{holds_came}
use Rattle.laws_server_runs.proofs.Loads.{same_kept, calm_kept, dropped_kept, rests_kept}
use Rattle.laws_server_runs.proofs.ServedNotes.{serves_of}
use Rattle.laws_server_runs.proofs.LoadsSteps.{Left, goes_left, goes_showing, installs_left}
use Rattle.laws_server_runs.proofs.Others.{others_kept}
use Rattle.laws_server_runs.proofs.GetNotes.{try_all_gots}

-- nothing is shown by the steps of a load
module _ (d : ServerContext) where
  asks_quiet : (s : RangeState) (position : ℕ) (index : IndexRange) (places : Option Nodes) → (asks_index d s position index places).notes ≡ []
  asks_quiet s position index None = refl
  asks_quiet s position index (Some places) = refl

  named_quiet : (s : RangeState) (position : ℕ) (named : Option IndexRange) → (reads_named d s position named).notes ≡ []
  named_quiet s position None = refl
  named_quiet s position (Some index) = asks_quiet s position index (places_of s index.place.extent)

  installs_quiet : (s : RangeState) (position : ℕ) (named : Option IndexRange) (index : Option Index) → (installs d s position named index).notes ≡ []
  installs_quiet s position (Some named) (Some index) =
      named_quiet (record s { indexes = record { place = named.place; keys = named.keys; index = index } ∷ s.indexes }) (suc position) (index_named s.said.indexes (suc position))
  installs_quiet s position (Some named) None = refl
  installs_quiet s position None index = refl

module _ (texts : ℕ → Bytes) (subject : ℕ) (run : Run) (v : RangeView) (r : RangeState) (kept : RangeKept texts subject run v r) (streams : StreamsKept texts run v) (d : ServerContext) where
  -- what a step with these actions leaves, where the streams keep their order after it
  abbrev pub Given : List StreamAction → RangeOutcome → Type 0
  Given actions o = InOrder texts (view_after_all r.load.generation v (if is_some o.after then actions else [])) → StepKept texts subject run v r (if is_some o.after then actions else []) o

  -- ---- bytes have come

  module _ (e offset : ℕ) (bytes : List ℕ) where
    abbrev found : PlacedBytes
    found = record { extent = e; offset = offset; bytes = bytes }

    abbrev view_found : RangeView
    view_found = record v { shown = found ∷ v.shown }

    abbrev FoundLeft : RangeOutcome → Type 0
    FoundLeft o = Left texts subject run v r streams d (Finds found ∷ []) v.history (found ∷ v.shown) refl o

    no_more : (n : ℕ) → n ≡ suc n → ⊥
    no_more n same = omega (arith, same)

    -- what is kept tells nothing of what was shown
    kept_found : RangeKept texts subject run view_found r
    kept_found = others_kept texts subject run run v r view_found refl refl kept (suc r.load.generation) Rests ([], refl) (λ serves same. no_more r.load.generation same)

    rests_found : FoundLeft (answers d r [])
    rests_found = goes_left texts subject run v r streams d (Finds found ∷ []) v.history (found ∷ v.shown) refl r _ _ kept_found refl (λ serves. serves)

    -- the bytes are those of the index that was asked for
    index_stands : (position : ℕ) → AsksIndex texts r position → (asked : PlaceRead) → r.reading ≡ Some asked → is_place asked.place (place_of e offset bytes) ≡ true → InOrder texts view_found →
        (one : IndexRange) → index_named r.said.indexes position ≡ Some one → index_at (bytes_in texts one.place) ≡ index_at bytes
    index_stands position asks asked out there order one named =
        let read_is : Some asks.read ≡ Some asked = sym asks.out ∙ out in
        let same_read : asks.read ≡ asked = cc in
        let one_is : Some asks.named ≡ Some one = sym asks.next ∙ named in
        let same_one : asks.named ≡ one = cc in
        let place : one.place ≡ place_of e offset bytes =
        ap (λ (i : IndexRange). i.place) (sym same_one) ∙ sym asks.place ∙ ap (λ (z : PlaceRead). z.place) same_read ∙ same_place asked.place (place_of e offset bytes) there in
        ap (λ p. index_at (bytes_in texts p)) place ∙ ap index_at (taken_there (texts e) offset bytes order.shown.0)

    installed : (position : ℕ) → StageIs texts run v r (stages.Indexing position) → PhaseIs texts (stages.Indexing position) r.load.phase → (asked : PlaceRead) → r.reading ≡ Some asked →
        is_place asked.place (place_of e offset bytes) ≡ true → Given (Finds found ∷ []) (installs d r position (index_named r.said.indexes position) (index_at bytes))
    installed position s p asked out there = by (installs d r position (index_named r.said.indexes position) (index_at bytes)).after refl
      where
        o : RangeOutcome
        o = installs d r position (index_named r.said.indexes position) (index_at bytes)

        left : InOrder texts view_found → FoundLeft (installs d r position (index_named r.said.indexes position) (index_at bytes))
        left order =
            installs_left texts subject run v r streams d (Finds found ∷ []) v.history (found ∷ v.shown) refl r
            (record { range = kept.range; generation = refl; opened = p; sound = kept.sound; held = kept.held }) position s.0 (index_named r.said.indexes position) refl (index_at bytes)
            (index_stands position s.1 asked out there order)

        by : (x : Option RangeState) → (installs d r position (index_named r.said.indexes position) (index_at bytes)).after ≡ x → Given (Finds found ∷ []) (installs d r position (index_named r.said.indexes position) (index_at bytes))
        by (Some z) there_is order = left (subst (λ (x : Option RangeState). InOrder texts (view_after_all r.load.generation v (if is_some x then Finds found ∷ [] else []))) there_is order)
        by None gone order =
            subst (λ (x : Option RangeState). StepKept texts subject run v r (if is_some x then Finds found ∷ [] else []) o) (sym gone)
            (calm_kept texts subject run v r o streams (installs_quiet d r position (index_named r.said.indexes position) (index_at bytes)) (subst (KeptIf texts subject run v r.load.generation) (sym gone) tt)
            (subst (ServesAnew texts run r) (sym gone) tt))

    read_kept : (stage : Stage) → PhaseIs texts stage r.load.phase → StageIs texts run v r stage → (asked : PlaceRead) → r.reading ≡ Some asked → is_place asked.place (place_of e offset bytes) ≡ true →
        Given (Finds found ∷ []) (index_read d r stage bytes)
    read_kept (stages.Indexing position) p s asked out there = installed position s p asked out there
    read_kept stage p s asked out there = λ order. rests_found

    bytes_kept : (reading : Option PlaceRead) → r.reading ≡ reading → Given (Finds found ∷ []) (index_bytes d r reading (place_of e offset bytes) bytes)
    bytes_kept None out = λ order. rests_found
    bytes_kept (Some asked) out = by (is_place asked.place (place_of e offset bytes)) refl
      where
        by : (b : Bool) → is_place asked.place (place_of e offset bytes) ≡ b → Given (Finds found ∷ []) (if b then index_read d r r.stage bytes else answers d r [])
        by true there = read_kept r.stage kept.phase kept.stage asked out there
        by false other = λ order. rests_found

  -- ---- answers

  rested : StepKept texts subject run v r [] (answers d r [])
  rested = rests_kept texts subject run v r kept streams d r.until r.metadata r.log r.gets r.held _ _ (λ idle. idle) (λ e a. a) (λ idle. idle) refl (λ h. h)

  told_kept : (body : ReadBody) → Given (bytes_told_actions body) (index_told d r body)
  told_kept (reads.Bytes w e offset bytes) = bytes_kept e offset bytes r.reading refl
  told_kept body = λ order. rested

  refused_kept : (body : AppendBody) → Given [] (load_refused d r body)
  refused_kept (appends.Refused w refusals.Stale) = λ order. dropped_kept texts subject run v r kept streams d
  refused_kept body = λ order. rested

  -- the answer to the read of an index
  pub index_reply_kept : (body : Body) → Given (bytes_actions body) (index_reply d r body)
  index_reply_kept (bodies.Read body) = told_kept body
  index_reply_kept (bodies.Append body) = refused_kept body
  index_reply_kept body = λ order. rested

  -- ---- a page

  -- bytes that change nothing
  found_rests : (body : Body) → Given (bytes_actions body) (answers d r [])
  found_rests (bodies.Read (reads.Bytes w e offset bytes)) = λ order. rests_found e offset bytes
  found_rests (bodies.Read body) = λ order. rested
  found_rests body = λ order. rested

  -- the answer to the read of a page, where the range is served, or else has no checkpoint that waits for one
  pub page_reply_kept : (body : Body) → Given (bytes_actions body) (page_reply d r body)
  page_reply_kept body = by (is_serving r.stage) refl
    where
      by : (b : Bool) → is_serving r.stage ≡ b → Given (bytes_actions body) (page_reply d r body)
      by true serving = λ order.
          let k : Serves texts run v r = serves_of texts subject run v r serving kept in
          leaves_kept texts subject run v r kept streams serving (page_reply d r body) (bytes_actions body) (leaves_queue r (page_reply d r body) (page_reply_same d r body))
          (λ z there. page_step texts subject run v r k.matches k.shown streams d kept.held body
          (subst (λ (x : Option RangeState). InOrder texts (view_after_all r.load.generation v (if is_some x then bytes_actions body else []))) there order))
      by false unserved =
          page_reply_elim (Given (bytes_actions body)) d r (found_rests body) (λ order. dropped_kept texts subject run v r kept streams d)
          (λ job place entries is next. absurd (let z : None ≡ Some job = sym (unserved_none texts run v r r.stage kept.stage unserved) ∙ is in cc)) body

  -- ---- Gets

  -- what a Get reads is held from then on
  come_kept : (w : ReqNo) (e offset : ℕ) (bytes : List ℕ) → Given (Finds (record { extent = e; offset = offset; bytes = bytes }) ∷ []) (bytes_come d r w (place_of e offset bytes) bytes)
  come_kept w e offset bytes order =
      goes_showing texts subject run v r streams d (Finds (found e offset bytes) ∷ []) v.history (found e offset bytes ∷ v.shown) refl
      (record r { held = now; gets = (try_all d (record r { held = now }) (map (without w) r.gets)).waiting }) _ _ _ r.load.range r.load.generation (try_all_gots d (record r { held = now }) (map (without w) r.gets))
      (same_kept texts subject run (view_found e offset bytes) r r.until r.metadata r.log r.rows r.blob_data r.reading _ now (λ idle. idle) (λ e a. a) (λ idle. idle) refl (λ control a. a)
      (λ read is. (read, is, refl)) (λ read is. (read, is, refl)) (λ right. holds_came texts r.held (read_at r.gets w) (place_of e offset bytes) bytes right (taken_there (texts e) offset bytes order.shown.0)) (kept_found e offset bytes))
      refl (λ serves. serves)
    where
      now : Held
      now = came r.held (read_at r.gets w) (place_of e offset bytes) bytes

  get_bytes_kept : (w : ReqNo) (body : ReadBody) → Given (bytes_told_actions body) (bytes_reply d r w body)
  get_bytes_kept w (reads.Bytes n e offset bytes) =
      if_elim (Given (Finds (record { extent = e; offset = offset; bytes = bytes }) ∷ [])) (are_no_page (read_at r.gets w) bytes) _ _ (λ t order. rests_found e offset bytes) (λ f. come_kept w e offset bytes)
  get_bytes_kept w body = λ order. rested

  -- the answer to the read of a Get
  pub gets_reply_kept : (w : ReqNo) (body : Body) → Given (bytes_actions body) (gets_reply d r w body)
  gets_reply_kept w (bodies.Read body) = get_bytes_kept w body
  gets_reply_kept w (bodies.Append body) = refused_kept body
  gets_reply_kept w body = λ order. rested
