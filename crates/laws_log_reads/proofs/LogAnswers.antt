-- What answers to a range's log leave of what was read, while the range is loaded.
use Rattle.std.proofs.Common.{◌≡◌, ℕ, suc, ◌+◌, ◌^◌, List, [], ◌∷◌, Bool, true, false, nat_lt, Option, Some, None, option_to_list, refl, sym, ap, ◌∙◌, subst, if◌then◌else◌}
use Rattle.wire.specs.declared.body.Body.{Body}
use Rattle.wire.specs.declared.body.ReadBody.TheVariants as answers
use Rattle.wire.specs.declared.streams.StreamKind.TheVariants as kinds
use Rattle.client.specs.declared.job.Job.TheVariants as jobs
use Rattle.client.specs.declared.job.News.TheVariants as news
use Rattle.client.specs.Client.{ClientState, Outcome, ends, ends_checked, ends_sealed, reply_rule}
use Rattle.memtable.specs.Entries.{Entries}
use Rattle.metadata.specs.declared.record.Region.{Region}
use Rattle.model_streams.specs.StreamSystem.{StreamSystem}
use Rattle.model_partition.specs.declared.server_context.ServerContext.{ServerContext}
use Rattle.model_partition.specs.declared.stage.Stage.{Stage}
use Rattle.model_partition.specs.declared.stage.Stage.TheVariants as stages
use Rattle.model_partition.specs.Range.{RangeState, RangeOutcome, request, picking, dropped}
use Rattle.model_histories.specs.ServerRun.{RangeHistory, one_more_read}
use Rattle.model_histories.specs.StreamActions.{ExtentRead, StreamAction, Reads, loading_actions}
use Rattle.model_partition.specs.Loading.{log_news, log_read, replays, replayed, reads_log, reads_log_from, first_position}
use Rattle.model_partition.specs.Answering.{groups_of}
use Rattle.laws_loads.specs.RangeView.{RangeView}
use Rattle.laws_stream_machine.specs.Refinement.{Means}
use Rattle.laws_stream_machine.specs.Refinement as purposes
use Rattle.laws_ranges.specs.Serves.{Side, log_of, LoadsLog, StageIs, BothListed}
use Rattle.laws_ranges.proofs.ClientReplies.{idle_takes}
use Rattle.laws_log_reads.specs.Reads.{HasReadTo, IsShown, ReadShows, Shows, first_index, HasReadMetadata, HasReadLogTo, HasReadAt, HasRead, RuleReads}
use Rattle.laws_log_reads.proofs.ExtentByExtent.{TellsOf, IsMeasured, HasReadBelow}
use Rattle.laws_log_reads.proofs.LoadBegins.{Left, reads_log_left, from_first}
use Rattle.laws_log_reads.proofs.ReadRequests.{by_same, keeps_all}
use Rattle.laws_log_reads.proofs.StreamAnswers.{extent_read, BringsGroups, checking_takes, reading_takes}
use Rattle.laws_log_reads.proofs.UntouchedReads.{Same, same_left}

module _ (generation : ℕ → ℕ) (range : ℕ) (w : StreamSystem) (i : ℕ) (both : BothListed w range) (m l : Side) (d : ServerContext) (v : RangeView) where
  abbrev Leaves : RangeOutcome → List StreamAction → Type 0
  Leaves o actions = RuleReads generation range w i m l v o actions

  abbrev Read : RangeState → Type 0
  Read r = HasRead range w i m.stand.state l.stand.state v.history r

  module _ (r : RangeState) (body : Body) where
    -- what an answer to the log's client leaves
    abbrev pub LogAt : Stage → Outcome → Type 0
    LogAt stage o = Leaves (log_news d (record r { log = o.after }) (groups_of body) stage o.news (option_to_list o.packet)) (loading_actions kinds.Log r.log stage (groups_of body) o.news)

  module _ (r : RangeState) (b : LoadsLog generation range w i m l r) (body : Body) (means : Means generation (log_of range) w l.stand.state l.sent body) where
    -- ---- the length of the last extent is asked for, or it is sealed

    module _ (a : HasReadMetadata range w i m.stand.state l.stand.state v.history r) (e : r.stage ≡ stages.Checking kinds.Log) where
      checking_stays : (k : ClientState) → Read (record r { log = k })
      checking_stays k =
          let now : HasReadMetadata range w i m.stand.state l.stand.state v.history (record r { log = k }) = record { metadata = a.metadata; log = a.log; regions = a.regions; sole = a.sole } in
          record { at = subst (λ z. HasReadAt range w i m.stand.state l.stand.state v.history (record r { log = k }) z) (sym e) now }

      begins : (k : ClientState) → TellsOf generation (log_of range) w l.stand l.sent k → k.job ≡ jobs.Idle → IsMeasured k →
          Left generation range w i m l d v.history (reads_log_from d (record r { log = k }) (first_position (record r { log = k }) r.regions))
      begins k told idle measured =
          from_first generation range w i m l d v.history (record r { log = k }) (record { metadata = a.metadata; log = record { told = told; idle = idle; none = a.log }; sole = a.sole }) a.regions measured

      checking_news : LogAt r body (stages.Checking kinds.Log) (reply_rule (picking d r.log) (request d) body)
      checking_news =
          checking_takes generation (log_of range) w i both.log l.stand l.sent d (first_index r) r.log body b.log means (LogAt r body (stages.Checking kinds.Log))
          (record {
            stays = λ k packet. checking_stays k;
            fenced = tt;
            checked = λ n found told. begins (ends_checked (picking d r.log) n found).after told refl (λ live. (found, refl));
            sealed = λ n t told shut. begins (ends_sealed (picking d r.log) n t).after told refl (λ live. absurd (let z : false ≡ true = sym shut ∙ live in cc));
            came = λ n upto. checking_stays (ends (picking d r.log) (news.Content n upto)).after;
          })

    -- ---- an extent is read

    module _ (position : ℕ) (a : HasReadLogTo range w i m.stand.state l.stand.state v.history r position) (e : r.stage ≡ stages.Reading kinds.Log position) where
      abbrev ToRead : ClientState → Type 0
      ToRead k = HasReadTo (log_of range) w i l.stand.state (first_index r) k (v.history.reads kinds.Log) position

      reading_stays : (k : ClientState) → ToRead k → Read (record r { log = k })
      reading_stays k to =
          let now : HasReadLogTo range w i m.stand.state l.stand.state v.history (record r { log = k }) position = record { metadata = a.metadata; log = to; shown = a.shown; sole = a.sole; unapplied = a.unapplied } in
          record { at = subst (λ z. HasReadAt range w i m.stand.state l.stand.state v.history (record r { log = k }) z) (sym e) now }

      -- the last extent was sealed: it is asked for once more
      shut_left : (k : ClientState) → HasReadBelow generation (log_of range) w i l.stand l.sent (first_index r) k (v.history.reads kinds.Log) position →
          Left generation range w i m l d v.history (reads_log d (record r { log = k }) position)
      shut_left k below =
          reads_log_left generation range w i m l d v.history (record r { log = k }) position
          (record { metadata = a.metadata; log = below; shown = a.shown; sole = a.sole; unapplied = a.unapplied })

      -- the groups have come, and an observation shows them
      module _ (shows : Shows (log_of range) w l.sent body) (n upto : ℕ) (more : BringsGroups generation (log_of range) w i both.log l.stand l.sent d (first_index r) r.log body (v.history.reads kinds.Log) position n upto) where
        abbrev after : ClientState
        after = (ends (picking d r.log) (news.Content n upto)).after

        abbrev now : RangeState
        now = record r { log = after }

        abbrev x : ExtentRead
        x = extent_read r.log position n more.groups

        abbrev longer : RangeHistory
        longer = one_more_read v.history kinds.Log x

        shown : IsShown w.notes n more.groups
        shown =
            let here : ReadShows (log_of range) w (purposes.purpose_of l.sent more.number) (answers.Groups more.number more.told more.groups) = subst (λ z. Shows (log_of range) w l.sent z) more.is shows in
            let all : ReadShows (log_of range) w (Some (purposes.Reads i more.index upto)) (answers.Groups more.number more.told more.groups) =
            subst (λ z. ReadShows (log_of range) w z (answers.Groups more.number more.told more.groups)) more.for here in
            all n more.at

        replays_left : (o : Option (List Region × Entries)) → Left generation range w i m l d longer (replays d now position o)
        replays_left None = tt
        replays_left (Some z) =
            reads_log_left generation range w i m l d longer (record now { regions = z.0; live = z.1 }) (suc position)
            (record { metadata = a.metadata; log = more.below; shown = (shown, a.shown); sole = a.sole; unapplied = λ none. absurd cc })

        log_read_left : Left generation range w i m l d longer (log_read d now position n more.groups)
        log_read_left = go (nat_lt (r.log.base + position) (2 ^ 64))
          where
            go : (t : Bool) → Left generation range w i m l d longer
                (if t then replays d now position (replayed r.said.keys n (record { index = r.log.base + position; offset = 0 }) (r.regions, r.live) more.groups) else dropped d now)
            go true = replays_left (replayed r.said.keys n (record { index = r.log.base + position; offset = 0 }) (r.regions, r.live) more.groups)
            go false = tt

        came : LogAt r body (stages.Reading kinds.Log position) (ends (picking d r.log) (news.Content n upto))
        came = subst (λ gs. Leaves (log_read d now position n gs) (Reads kinds.Log (extent_read r.log position n gs) ∷ [])) (sym (ap groups_of more.is)) log_read_left

      reading_news : Shows (log_of range) w l.sent body → LogAt r body (stages.Reading kinds.Log position) (reply_rule (picking d r.log) (request d) body)
      reading_news shows =
          reading_takes generation (log_of range) w i both.log l.stand l.sent d (first_index r) r.log body b.log means (v.history.reads kinds.Log) position a.log (LogAt r body (stages.Reading kinds.Log position))
          (record {
            stays = λ k packet to. reading_stays k to;
            fenced = tt;
            checked = λ n found to. reading_stays (ends_checked (picking d r.log) n found).after to;
            sealed = λ n t below. shut_left (ends_sealed (picking d r.log) n t).after below;
            came = came shows;
          })

  -- ---- a log that waits for nothing

  picked : (r : RangeState) → Same r (record r { log = picking d r.log })
  picked r = record {
    said = refl;
    regions = refl;
    metadata = keeps_all r.metadata;
    log = record { base = refl; extents = refl; checked = refl };
    metadata_by = λ position b. b;
    log_by = λ position b. by_same r.log (picking d r.log) refl refl position r.log.job b;
  }

  module _ (r : RangeState) (h : Read r) (body : Body) (shows : Shows (log_of range) w l.sent body) (means : Means generation (log_of range) w l.stand.state l.sent body) where
    stays : Read (record r { log = picking d r.log })
    stays = same_left range w i m.stand.state l.stand.state v.history r (record r { log = picking d r.log }) (picked r) refl h

    -- an answer to the log's client, at each stage of a load
    pub log_by_stage : (stage : Stage) → r.stage ≡ stage → StageIs generation range w i m l r stage → (stage ≡ stages.Serving → ⊥) →
        HasReadAt range w i m.stand.state l.stand.state v.history r stage → LogAt r body stage (reply_rule (picking d r.log) (request d) body)
    log_by_stage stages.Opening e f loading a = idle_takes (request d) (LogAt r body stages.Opening) (picking d r.log) body f.log_idle stays
    log_by_stage (stages.Checking kinds.Metadata) e f loading a = idle_takes (request d) (LogAt r body (stages.Checking kinds.Metadata)) (picking d r.log) body f.log.idle stays
    log_by_stage (stages.Checking kinds.Log) e f loading a = checking_news r f body means a e
    log_by_stage (stages.Checking kinds.RowData) e f loading a = absurd f
    log_by_stage (stages.Checking kinds.BlobData) e f loading a = absurd f
    log_by_stage (stages.Reading kinds.Metadata position) e f loading a =
        idle_takes (request d) (LogAt r body (stages.Reading kinds.Metadata position)) (picking d r.log) body f.log.idle stays
    log_by_stage (stages.Reading kinds.Log position) e f loading a = reading_news r f body means position a e shows
    log_by_stage (stages.Reading kinds.RowData position) e f loading a = absurd f
    log_by_stage (stages.Reading kinds.BlobData position) e f loading a = absurd f
    log_by_stage (stages.Indexing position) e f loading a = idle_takes (request d) (LogAt r body (stages.Indexing position)) (picking d r.log) body f.log_idle stays
    log_by_stage stages.Confirming e f loading a = idle_takes (request d) (LogAt r body stages.Confirming) (picking d r.log) body f.log.idle stays
    log_by_stage stages.Serving e f loading a = absurd (loading refl)
