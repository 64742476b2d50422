-- What any answer leaves of what a range has read.
use Rattle.std.proofs.Common.{◌≡◌, ◌⊎◌, ⊎_elim, inl, inr, not, ℕ, List, [], Bool, true, false, Option, Some, None, option_to_list, is_some, nat_lt, refl, sym, ap, ◌∙◌, subst, if◌then◌else◌}
use Rattle.wire.specs.declared.actor.ReqNo.{ReqNo}
use Rattle.wire.specs.declared.body.AppendBody.{AppendBody}
use Rattle.wire.specs.declared.body.AppendBody.TheVariants as appends
use Rattle.wire.specs.declared.body.ReadBody.{ReadBody}
use Rattle.wire.specs.declared.body.ReadBody.TheVariants as reads
use Rattle.wire.specs.declared.body.StreamBody.{StreamBody}
use Rattle.wire.specs.declared.body.StreamBody.TheVariants as streams
use Rattle.wire.specs.declared.body.Body.{Body}
use Rattle.wire.specs.declared.body.Body.TheVariants as bodies
use Rattle.wire.specs.declared.refusal.Refusal.TheVariants as refusals
use Rattle.wire.specs.declared.streams.StreamKind.TheVariants as kinds
use Rattle.wire.specs.declared.streams.StreamLists.{StreamLists}
use Rattle.client.specs.declared.load.LoadPhase.{LoadPhase}
use Rattle.client.specs.declared.load.LoadPhase.TheVariants as phases
use Rattle.client.specs.Client.{Outcome, awaits, reply_rule}
use Rattle.client.specs.Load.{load_awaits}
use Rattle.client.specs.Requests.{is_same}
use Rattle.metadata.specs.declared.record.Region.{Region}
use Rattle.model_streams.specs.StreamSystem.{StreamSystem}
use Rattle.model_partition.specs.declared.server_context.ServerContext.{ServerContext}
use Rattle.model_partition.specs.declared.stage.Stage.{Stage}
use Rattle.model_partition.specs.declared.stage.Stage.TheVariants as stages
use Rattle.model_partition.specs.Range.{RangeState, RangeOutcome, request, answers, dropped, picking, is_serving}
use Rattle.model_histories.specs.ServerRun.{RangeHistory}
use Rattle.model_histories.specs.StreamActions.{StreamAction, serving_actions, loading_actions, confirmed_actions, load_actions, metadata_actions, log_actions, rows_actions, bytes_told_actions, bytes_actions, answered_actions, answer_actions}
use Rattle.checkpoint_format.specs.Index.{index_at}
use Rattle.model_partition.specs.PlaceReads.{place_of, reads_under, reads_page}
use Rattle.model_partition.specs.Loading.{open_region, opens, has_position, serves_region, serves_from, serves, log_news, index_named, index_read}
use Rattle.model_partition.specs.Checkpoints.{rows_reply, trim_awaits}
use Rattle.model_partition.specs.Answering.{answered_number, stream_number, groups_of, load_refused, load_told, load_reply, metadata_reply, serving_news, is_taken, log_taken, log_reply, page_reply, index_reply, trim_reply, bytes_reply, gets_reply, answer_rule}
use Rattle.laws_loads.specs.RangeView.{RangeView, view_after_all}
use Rattle.laws_stream_machine.specs.Refinement.{Opens, purpose_of, Means, StreamMeans}
use Rattle.laws_stream_machine.proofs.ServerRequests.{same_request}
use Rattle.laws_ranges.specs.Serves.{Side, metadata_of, log_of, HasNoCheckpoint, IsOpening, StageIs, Follows, BothListed}
use Rattle.laws_log_reads.specs.Reads.{HasReadAt, HasRead, HasReadIf, Shows, RuleReads}
use Rattle.laws_loads.proofs.IndexAnswers.{index_reply_elim}
use Rattle.laws_loads.proofs.PageAnswers.{page_reply_elim}
use Rattle.laws_log_reads.proofs.LoadBegins.{Left, opens_left, installs_left}
use Rattle.laws_log_reads.proofs.MetadataAnswers.{metadata_reply_left}
use Rattle.laws_log_reads.proofs.LogAnswers.{log_by_stage}
use Rattle.laws_log_reads.proofs.OtherRules.{bytes_keep, serving_left, is_served}
use Rattle.laws_log_reads.proofs.CheckpointRules.{rows_reply_left, page_reply_left, trim_reply_left}

module _ (generation : ℕ → ℕ) (range : ℕ) (w : StreamSystem) (i : ℕ) (both : BothListed w range) (m l : Side) (d : ServerContext) where
  -- a range that is served from now on, or is dropped
  module _ (h : RangeHistory) (r : RangeState) where
    abbrev Goes : RangeOutcome → Type 0
    Goes o = Left generation range w i m l d h o

    from_left : (o : Option Region) → Goes (serves_from d r o)
    from_left None = tt
    from_left (Some region) = go (nat_lt 0 region.next)
      where
        go : (t : Bool) → Goes (if t then serves_region d r region else dropped d r)
        go true = record { at = tt }
        go false = tt

    serves_left : Goes (serves d r)
    serves_left = go (has_position r.log)
      where
        go : (t : Bool) → Goes (if t then serves_from d r (open_region r.regions) else dropped d r)
        go true = from_left (open_region r.regions)
        go false = tt

  module _ (v : RangeView) where
    abbrev Leaves : RangeOutcome → List StreamAction → Type 0
    Leaves o actions = RuleReads generation range w i m l v o actions

    abbrev ReadAt : RangeState → Stage → Type 0
    ReadAt r stage = HasReadAt range w i m.stand.state l.stand.state v.history r stage

    abbrev Meant : Body → Type 0
    Meant body = Means generation (metadata_of range) w m.stand.state m.sent body × Means generation (log_of range) w l.stand.state l.sent body

    module _ (r : RangeState) (h : HasRead range w i m.stand.state l.stand.state v.history r) (f : Follows generation range w i m l r) where
      -- ---- the answer to the opening

      module _ (u : ReqNo) (lists : StreamLists) (q : ReqNo) (phase : r.load.phase ≡ phases.Opening q) (same : is_same q u ≡ true) (means : Meant (bodies.Stream (streams.Opened u lists))) where
        opening_left : (b : IsOpening generation range w i m l r) → ReadAt r stages.Opening → Leaves (opens d r lists) []
        opening_left b a =
            let both_phases : phases.Opening b.q ≡ phases.Opening q = sym b.phase ∙ phase in
            let asked : b.q ≡ q = cc in
            let number : b.q ≡ u = asked ∙ same_request q u same in
            let one : StreamMeans generation (metadata_of range) w m.stand.state m.sent (Some (Opens i)) (streams.Opened u lists) =
            subst (λ z. StreamMeans generation (metadata_of range) w m.stand.state m.sent z (streams.Opened u lists)) (ap (λ k. purpose_of m.sent k) (sym number) ∙ b.metadata.for) means.0 in
            let two : StreamMeans generation (log_of range) w l.stand.state l.sent (Some (Opens i)) (streams.Opened u lists) =
            subst (λ z. StreamMeans generation (log_of range) w l.stand.state l.sent z (streams.Opened u lists)) (ap (λ k. purpose_of l.sent k) (sym number) ∙ b.log.for) means.1 in
            opens_left generation range w i m l d v.history r a.metadata a.log lists one.1 two.1

        not_opening : (p : LoadPhase) → r.load.phase ≡ p → (p ≡ phases.Opening q → ⊥) → ⊥
        not_opening p e no_opening = no_opening (sym e ∙ phase)

        opened_by : (stage : Stage) → StageIs generation range w i m l r stage → ReadAt r stage → Leaves (opens d r lists) []
        opened_by stages.Opening b a = opening_left b a
        opened_by (stages.Checking kinds.Metadata) b a = absurd (not_opening phases.Opened b.phase (λ z. cc))
        opened_by (stages.Checking kinds.Log) b a = absurd (not_opening phases.Opened b.phase (λ z. cc))
        opened_by (stages.Checking kinds.RowData) b a = absurd b
        opened_by (stages.Checking kinds.BlobData) b a = absurd b
        opened_by (stages.Reading kinds.Metadata position) b a = absurd (not_opening phases.Opened b.phase (λ z. cc))
        opened_by (stages.Reading kinds.Log position) b a = absurd (not_opening phases.Opened b.phase (λ z. cc))
        opened_by (stages.Reading kinds.RowData position) b a = absurd b
        opened_by (stages.Reading kinds.BlobData position) b a = absurd b
        opened_by (stages.Indexing position) b a = absurd (not_opening phases.Opened b.phase (λ z. cc))
        opened_by stages.Confirming b a = absurd (not_opening (phases.Confirming b.q) b.phase (λ z. cc))
        opened_by stages.Serving b a = absurd (not_opening phases.Confirmed b.phase (λ z. cc))

        opened_left : Leaves (opens d r lists) []
        opened_left = opened_by r.stage f.stage h.at

      -- ---- the answer to the opening or the confirmation

      told_left : (u : ReqNo) (p : LoadPhase) → r.load.phase ≡ p → load_awaits p u ≡ true → (body : StreamBody) → stream_number body ≡ Some u → Meant (bodies.Stream body) →
          Leaves (load_told d r p body) (confirmed_actions r p body)
      told_left u (phases.Opening q) e same (streams.Opened k lists) number means =
          let this : k ≡ u = cc in
          opened_left k lists q e (subst (λ z. is_same q z ≡ true) (sym this) same) means
      told_left u (phases.Opening q) e same body number means = h
      told_left u (phases.Confirming q) e same (streams.Confirmed k) number means =
          serves_left (view_after_all (generation i) v (confirmed_actions r (phases.Confirming q) (streams.Confirmed k))).history r
      told_left u (phases.Confirming q) e same body number means = h
      told_left u p e same body number means = h

      refused_left : (body : AppendBody) → Leaves (load_refused d r body) []
      refused_left (appends.Refused u refusals.Stale) = tt
      refused_left (appends.Refused u refusal) = h
      refused_left body = h

      load_reply_left : (u : ReqNo) → load_awaits r.load.phase u ≡ true → (body : Body) → answered_number body ≡ Some u → Meant body → Leaves (load_reply d r body) (load_actions r body)
      load_reply_left u same (bodies.Append body) number means = refused_left body
      load_reply_left u same (bodies.Stream body) number means = told_left u r.load.phase refl same body number means
      load_reply_left u same body number means = h

      -- ---- an answer to the log

      module _ (body : Body) (shows : Shows (log_of range) w l.sent body) (means : Means generation (log_of range) w l.stand.state l.sent body) (whole : RangeOutcome) where
        abbrev o : Outcome
        o = reply_rule (picking d r.log) (request d) body

        abbrev TakenAt : Stage → Type 0
        TakenAt z =
            Leaves
            (if is_serving z then serving_news d (record r { log = o.after }) o.news (option_to_list o.packet)
            else log_news d (record r { log = o.after }) (groups_of body) z o.news (option_to_list o.packet))
            (if is_serving z then serving_actions r o.news whole else loading_actions kinds.Log r.log z (groups_of body) o.news)

        taken_by : (stage : Stage) → r.stage ≡ stage → StageIs generation range w i m l r stage → ReadAt r stage → TakenAt stage
        taken_by stages.Serving e b a =
            serving_left range w i m.stand.state l.stand.state (view_after_all (generation i) v (serving_actions r o.news whole)).history d (record r { log = o.after }) e o.news (option_to_list o.packet)
        taken_by stages.Opening e b a = log_by_stage generation range w i both m l d v r h body shows means stages.Opening e b (λ z. cc) a
        taken_by (stages.Checking kind) e b a = log_by_stage generation range w i both m l d v r h body shows means (stages.Checking kind) e b (λ z. cc) a
        taken_by (stages.Reading kind position) e b a = log_by_stage generation range w i both m l d v r h body shows means (stages.Reading kind position) e b (λ z. cc) a
        taken_by (stages.Indexing position) e b a = log_by_stage generation range w i both m l d v r h body shows means (stages.Indexing position) e b (λ z. cc) a
        taken_by stages.Confirming e b a = log_by_stage generation range w i both m l d v r h body shows means stages.Confirming e b (λ z. cc) a

        log_reply_left : Leaves (log_reply d r body) (if is_taken r body then log_actions d r body whole else [])
        log_reply_left = go (is_taken r body)
          where
            go : (t : Bool) → Leaves (if t then log_taken d r body else answers d r []) (if t then log_actions d r body whole else [])
            go true = taken_by r.stage refl f.stage h.at
            go false = h

      -- what a checkpoint waits for, a range that is served waits for
      serves_or_calm : (t : Bool) → is_serving r.stage ≡ t → (r.stage ≡ stages.Serving) ⊎ HasNoCheckpoint r
      serves_or_calm true e = inl (is_served r (ap not e))
      serves_or_calm false e = inr (f.calm e)

      -- ---- the read of an index, of a page or of a value

      index_read_left : (stage : Stage) → ReadAt r stage → (bytes : List ℕ) → Leaves (index_read d r stage bytes) []
      index_read_left (stages.Indexing position) a bytes =
          installs_left generation range w i m l d v.history r a position (index_named r.said.indexes position) (index_at bytes)
      index_read_left stage a bytes = h

      -- what is read by place adds to what is shown, and not to what was read of a stream
      told_history : (body : ReadBody) → v.history ≡ (view_after_all (generation i) v (bytes_told_actions body)).history
      told_history (reads.Bytes k e offset bytes) = refl
      told_history body = refl

      bytes_history : (body : Body) → v.history ≡ (view_after_all (generation i) v (bytes_actions body)).history
      bytes_history (bodies.Read body) = told_history body
      bytes_history body = refl

      -- what leaves what was read leaves it with the bytes that have come
      bytes_left : (o : RangeOutcome) (body : Body) → Leaves o [] → Leaves o (bytes_actions body)
      bytes_left o body left = subst (λ z. HasReadIf range w i m.stand.state l.stand.state z o.after) (bytes_history body) left

      index_reply_left : (body : Body) → Leaves (index_reply d r body) (bytes_actions body)
      index_reply_left body = bytes_left (index_reply d r body) body (index_reply_elim (λ o. Leaves o []) d r h tt (index_read_left r.stage h.at) body)

      page_reply_by : (r.stage ≡ stages.Serving) ⊎ HasNoCheckpoint r → (body : Body) → Leaves (page_reply d r body) []
      page_reply_by (inl serves) body = page_reply_left range w i m.stand.state l.stand.state v.history d r serves body
      page_reply_by (inr calm) body =
          page_reply_elim (λ o. Leaves o []) d r h tt (λ job place entries control next. absurd (let z : None ≡ Some job = sym calm.1 ∙ control in cc)) body

      place_reply_left : (t : Bool) (body : Body) → Leaves (if t then page_reply d r body else index_reply d r body) (bytes_actions body)
      place_reply_left true body = bytes_left (page_reply d r body) body (page_reply_by (serves_or_calm (is_serving r.stage) refl) body)
      place_reply_left false body = index_reply_left body

      -- ---- any answer

      gets_reply_left : (u : ReqNo) (body : Body) → Leaves (gets_reply d r u body) []
      gets_reply_left u (bodies.Read body) = bytes_by body
        where
          bytes_by : (body : ReadBody) → Leaves (bytes_reply d r u body) []
          bytes_by (reads.Bytes k e offset bytes) = bytes_keep range w i m.stand.state l.stand.state v.history d r u (place_of e offset bytes) bytes h
          bytes_by body = h
      gets_reply_left u (bodies.Append body) = refused_left body
      gets_reply_left u body = h

      module _ (u : ReqNo) (body : Body) (number : answered_number body ≡ Some u) (means : Meant body) (shows : Shows (log_of range) w l.sent body) where
        -- where the actions are those of any outcome
        by_job : (whole : RangeOutcome) → Leaves (answer_rule d r u body) (answered_actions d r u body whole)
        by_job whole = first (load_awaits r.load.phase u) refl
          where
            log_part : List StreamAction
            log_part = if is_taken r body then log_actions d r body whole else []

            trim_part : List StreamAction
            trim_part = if trim_awaits r.control u then [] else bytes_actions body

            index_part : List StreamAction
            index_part = if reads_under r.reading u then bytes_actions body else trim_part

            rows_part : List StreamAction
            rows_part = if awaits r.rows.job u then rows_actions d r body else index_part

            place_reply : RangeOutcome
            place_reply = if reads_page r.reading then page_reply d r body else index_reply d r body

            index_or_later : RangeOutcome
            index_or_later = if reads_under r.reading u then place_reply else if trim_awaits r.control u then trim_reply d r body else gets_reply d r u body

            rows_or_later : RangeOutcome
            rows_or_later = if awaits r.rows.job u then rows_reply d r body else index_or_later

            log_or_later : RangeOutcome
            log_or_later = if awaits r.log.job u then log_reply d r body else rows_or_later

            sixth : (t : Bool) → trim_awaits r.control u ≡ t → Leaves (if t then trim_reply d r body else gets_reply d r u body) (if t then [] else bytes_actions body)
            sixth true e = ⊎_elim {C = Leaves (trim_reply d r body) []}
                (λ serves. trim_reply_left range w i m.stand.state l.stand.state v.history d r serves body)
                (λ calm. absurd (let z : false ≡ true = subst (λ c. trim_awaits c u ≡ true) calm.1 e in cc)) (serves_or_calm (is_serving r.stage) refl)
            sixth false e = bytes_left (gets_reply d r u body) body (gets_reply_left u body)

            fifth : (t : Bool) → Leaves (if t then place_reply else if trim_awaits r.control u then trim_reply d r body else gets_reply d r u body) (if t then bytes_actions body else trim_part)
            fifth true = place_reply_left (reads_page r.reading) body
            fifth false = sixth (trim_awaits r.control u) refl

            fourth : (t : Bool) → awaits r.rows.job u ≡ t → Leaves (if t then rows_reply d r body else index_or_later) (if t then rows_actions d r body else index_part)
            fourth true e = ⊎_elim {C = Leaves (rows_reply d r body) (rows_actions d r body)}
                (λ serves. rows_reply_left range w i m.stand.state l.stand.state (view_after_all (generation i) v (rows_actions d r body)).history d r serves body)
                (λ calm. absurd (let z : false ≡ true = subst (λ j. awaits j u ≡ true) calm.0 e in cc)) (serves_or_calm (is_serving r.stage) refl)
            fourth false e = fifth (reads_under r.reading u)

            third : (t : Bool) → Leaves (if t then log_reply d r body else rows_or_later) (if t then log_part else rows_part)
            third true = log_reply_left body shows means.1 whole
            third false = fourth (awaits r.rows.job u) refl

            second : (t : Bool) → Leaves (if t then metadata_reply d r body else log_or_later) (if t then metadata_actions d r body else (if awaits r.log.job u then log_part else rows_part))
            second true = metadata_reply_left generation range w i both m l d v r h body f means.0
            second false = third (awaits r.log.job u)

            first : (t : Bool) → load_awaits r.load.phase u ≡ t →
                Leaves (if t then load_reply d r body else (if awaits r.metadata.job u then metadata_reply d r body else log_or_later))
                (if t then load_actions r body else (if awaits r.metadata.job u then metadata_actions d r body else (if awaits r.log.job u then log_part else rows_part)))
            first true e = load_reply_left u e body number means
            first false e = second (awaits r.metadata.job u)

        -- what an answer leaves of what was read
        pub answer_left : Leaves (answer_rule d r u body) (answer_actions d r u body (answer_rule d r u body))
        answer_left = if_there (answer_rule d r u body).after (by_job (answer_rule d r u body))
          where
            actions : List StreamAction
            actions = answered_actions d r u body (answer_rule d r u body)

            if_there : (o : Option RangeState) → HasReadIf range w i m.stand.state l.stand.state (view_after_all (generation i) v actions).history o →
                HasReadIf range w i m.stand.state l.stand.state (view_after_all (generation i) v (if is_some o then actions else [])).history o
            if_there None b = tt
            if_there (Some k) b = b
