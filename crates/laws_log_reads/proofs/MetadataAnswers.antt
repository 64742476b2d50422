-- What answers to a range's metadata leave of what was read.
use Rattle.std.proofs.Common.{◌≡◌, ℕ, suc, List, [], ◌∷◌, Option, Some, None, option_to_list, refl, sym, ap, subst, if◌then◌else◌}
use Rattle.wire.specs.declared.body.Body.{Body}
use Rattle.wire.specs.declared.streams.StreamKind.TheVariants as kinds
use Rattle.client.specs.declared.job.Job.TheVariants as jobs
use Rattle.client.specs.declared.job.News.TheVariants as news
use Rattle.client.specs.Client.{ClientState, Outcome, ends, ends_checked, ends_sealed, reply_rule}
use Rattle.metadata.specs.Fold.{MetadataState}
use Rattle.model_streams.specs.StreamSystem.{StreamSystem}
use Rattle.model_partition.specs.declared.server_context.ServerContext.{ServerContext}
use Rattle.model_partition.specs.declared.stage.Stage.{Stage}
use Rattle.model_partition.specs.declared.stage.Stage.TheVariants as stages
use Rattle.model_partition.specs.Range.{RangeState, RangeOutcome, request, picking, is_serving}
use Rattle.model_histories.specs.ServerRun.{RangeHistory, one_more_read}
use Rattle.model_histories.specs.StreamActions.{StreamAction, Reads, loading_actions, record_actions, metadata_actions}
use Rattle.model_partition.specs.Loading.{metadata_news, says, said_after, reads_metadata}
use Rattle.model_partition.specs.Checkpoints.{record_told}
use Rattle.model_partition.specs.Answering.{groups_of, metadata_reply}
use Rattle.laws_loads.specs.RangeView.{RangeView}
use Rattle.laws_stream_machine.specs.Refinement.{Means}
use Rattle.laws_ranges.specs.Serves.{Side, metadata_of, LoadsMetadata, StageIs, Follows, BothListed}
use Rattle.laws_ranges.proofs.ClientReplies.{idle_takes}
use Rattle.laws_log_reads.specs.Reads.{HasReadTo, SaysSole, HasOpened, HasReadMetadataTo, HasReadAt, HasRead, RuleReads}
use Rattle.laws_log_reads.proofs.ExtentByExtent.{TellsOf, HasReadBelow}
use Rattle.laws_log_reads.proofs.LoadBegins.{Left, metadata_unread, reads_metadata_left}
use Rattle.laws_log_reads.proofs.ReadRequests.{by_same, keeps_all}
use Rattle.laws_log_reads.proofs.CheckpointRules.{told_left}
use Rattle.laws_log_reads.proofs.SoleRegion.{still_sole}
use Rattle.laws_log_reads.proofs.StreamAnswers.{extent_read, BringsGroups, checking_takes, reading_takes}
use Rattle.laws_log_reads.proofs.UntouchedReads.{Same, same_left}

module _ (generation : ℕ → ℕ) (range : ℕ) (w : StreamSystem) (i : ℕ) (both : BothListed w range) (m l : Side) (d : ServerContext) (v : RangeView) where
  abbrev Leaves : RangeOutcome → List StreamAction → Type 0
  Leaves o actions = RuleReads generation range w i m l v o actions

  abbrev Read : RangeState → Type 0
  Read r = HasRead range w i m.stand.state l.stand.state v.history r

  module _ (r : RangeState) (body : Body) where
    -- what an answer to the metadata's client leaves
    abbrev AtStage : Stage → Outcome → Type 0
    AtStage stage o =
        Leaves
        (if is_serving stage then record_told d (record r { metadata = o.after }) r.control o.news (option_to_list o.packet)
        else metadata_news d (record r { metadata = o.after }) (groups_of body) stage o.news (option_to_list o.packet))
        (if is_serving stage then record_actions r o.news else loading_actions kinds.Metadata r.metadata stage (groups_of body) o.news)

  module _ (r : RangeState) (b : LoadsMetadata generation range w i m l r) (body : Body) (means : Means generation (metadata_of range) w m.stand.state m.sent body) where
    -- ---- the length of the last extent is asked for, or it is sealed

    module _ (a : HasOpened range w i m.stand.state l.stand.state v.history r) (e : r.stage ≡ stages.Checking kinds.Metadata) where
      checking_stays : (k : ClientState) → Read (record r { metadata = k })
      checking_stays k =
          let nothing : HasOpened range w i m.stand.state l.stand.state v.history (record r { metadata = k }) = record { metadata = a.metadata; log = a.log; sole = a.sole } in
          record { at = subst (λ z. HasReadAt range w i m.stand.state l.stand.state v.history (record r { metadata = k }) z) (sym e) nothing }

      begins : (k : ClientState) → TellsOf generation (metadata_of range) w m.stand m.sent k → k.job ≡ jobs.Idle → Left generation range w i m l d v.history (reads_metadata d (record r { metadata = k }) 0)
      begins k told idle =
          reads_metadata_left generation range w i m l d v.history (record r { metadata = k }) 0
          (record {
            metadata = metadata_unread generation range w i m l d v.history k told idle a.metadata;
            log = record { told = b.log.told.tells; idle = b.log.idle; none = a.log };
            sole = a.sole;
          })

      checking_news : AtStage r body (stages.Checking kinds.Metadata) (reply_rule (picking d r.metadata) (request d) body)
      checking_news =
          checking_takes generation (metadata_of range) w i both.metadata m.stand m.sent d 0 r.metadata body b.metadata means (AtStage r body (stages.Checking kinds.Metadata))
          (record {
            stays = λ k packet. checking_stays k;
            fenced = tt;
            checked = λ n found told. begins (ends_checked (picking d r.metadata) n found).after told refl;
            sealed = λ n t told shut. begins (ends_sealed (picking d r.metadata) n t).after told refl;
            came = λ n upto. checking_stays (ends (picking d r.metadata) (news.Content n upto)).after;
          })

    -- ---- an extent is read

    module _ (position : ℕ) (a : HasReadMetadataTo range w i m.stand.state l.stand.state v.history r position) (e : r.stage ≡ stages.Reading kinds.Metadata position) where
      abbrev ToRead : ClientState → Type 0
      ToRead k = HasReadTo (metadata_of range) w i m.stand.state 0 k (v.history.reads kinds.Metadata) position

      reading_stays : (k : ClientState) → ToRead k → Read (record r { metadata = k })
      reading_stays k to =
          let now : HasReadMetadataTo range w i m.stand.state l.stand.state v.history (record r { metadata = k }) position = record { metadata = to; log = a.log; sole = a.sole } in
          record { at = subst (λ z. HasReadAt range w i m.stand.state l.stand.state v.history (record r { metadata = k }) z) (sym e) now }

      -- the extents below a position are read, and nothing of the log; the metadata says this
      goes_on : (h : RangeHistory) (said : MetadataState) (k : ClientState) (at : ℕ) → HasReadBelow generation (metadata_of range) w i m.stand m.sent 0 k (h.reads kinds.Metadata) at → h.reads kinds.Log ≡ [] →
          SaysSole h (record r { said = said }) → Left generation range w i m l d h (reads_metadata d (record r { metadata = k; said = said }) at)
      goes_on h said k at below none sole =
          reads_metadata_left generation range w i m l d h (record r { metadata = k; said = said }) at
          (record { metadata = below; log = record { told = b.log.told.tells; idle = b.log.idle; none = none }; sole = sole })

      came : (n upto : ℕ) → BringsGroups generation (metadata_of range) w i both.metadata m.stand m.sent d 0 r.metadata body (v.history.reads kinds.Metadata) position n upto →
          AtStage r body (stages.Reading kinds.Metadata position) (ends (picking d r.metadata) (news.Content n upto))
      came n upto more =
          subst (λ gs. Leaves (says d now position (said_after now.said gs)) (Reads kinds.Metadata (extent_read r.metadata position n gs) ∷ [])) (sym (ap groups_of more.is)) (says_left (said_after now.said more.groups) refl)
        where
          after : ClientState
          after = (ends (picking d r.metadata) (news.Content n upto)).after

          now : RangeState
          now = record r { metadata = after }

          longer : RangeHistory
          longer = one_more_read v.history kinds.Metadata (extent_read r.metadata position n more.groups)

          says_left : (o : Option MetadataState) → said_after now.said more.groups ≡ o → Left generation range w i m l d longer (says d now position o)
          says_left None e = tt
          says_left (Some said) e = goes_on longer said after (suc position) more.below a.log (λ say. still_sole now.said more.groups said say.0 (a.sole say.1) e)

      reading_news : AtStage r body (stages.Reading kinds.Metadata position) (reply_rule (picking d r.metadata) (request d) body)
      reading_news =
          reading_takes generation (metadata_of range) w i both.metadata m.stand m.sent d 0 r.metadata body b.metadata means (v.history.reads kinds.Metadata) position a.metadata
          (AtStage r body (stages.Reading kinds.Metadata position))
          (record {
            stays = λ k packet to. reading_stays k to;
            fenced = tt;
            checked = λ n found to. reading_stays (ends_checked (picking d r.metadata) n found).after to;
            sealed = λ n t below. goes_on v.history r.said (ends_sealed (picking d r.metadata) n t).after position below a.log a.sole;
            came = came;
          })

  -- ---- a metadata that waits for nothing

  picked : (r : RangeState) → Same r (record r { metadata = picking d r.metadata })
  picked r = record {
    said = refl;
    regions = refl;
    metadata = record { base = refl; extents = refl; checked = refl };
    log = keeps_all r.log;
    metadata_by = λ position b. by_same r.metadata (picking d r.metadata) refl refl position r.metadata.job b;
    log_by = λ position b. b;
  }

  module _ (r : RangeState) (h : Read r) (body : Body) where
    stays : Read (record r { metadata = picking d r.metadata })
    stays = same_left range w i m.stand.state l.stand.state v.history r (record r { metadata = picking d r.metadata }) (picked r) refl h

    by_stage : Means generation (metadata_of range) w m.stand.state m.sent body → (stage : Stage) → r.stage ≡ stage → StageIs generation range w i m l r stage →
        HasReadAt range w i m.stand.state l.stand.state v.history r stage → AtStage r body stage (reply_rule (picking d r.metadata) (request d) body)
    by_stage means stages.Opening e f a = idle_takes (request d) (AtStage r body stages.Opening) (picking d r.metadata) body f.metadata_idle stays
    by_stage means (stages.Checking kinds.Metadata) e f a = checking_news r f body means a e
    by_stage means (stages.Checking kinds.Log) e f a = idle_takes (request d) (AtStage r body (stages.Checking kinds.Log)) (picking d r.metadata) body f.metadata_idle stays
    by_stage means (stages.Checking kinds.RowData) e f a = absurd f
    by_stage means (stages.Checking kinds.BlobData) e f a = absurd f
    by_stage means (stages.Reading kinds.Metadata position) e f a = reading_news r f body means position a e
    by_stage means (stages.Reading kinds.Log position) e f a =
        idle_takes (request d) (AtStage r body (stages.Reading kinds.Log position)) (picking d r.metadata) body f.metadata_idle stays
    by_stage means (stages.Reading kinds.RowData position) e f a = absurd f
    by_stage means (stages.Reading kinds.BlobData position) e f a = absurd f
    by_stage means (stages.Indexing position) e f a =
        idle_takes (request d) (AtStage r body (stages.Indexing position)) (picking d r.metadata) body f.metadata_idle stays
    by_stage means stages.Confirming e f a = idle_takes (request d) (AtStage r body stages.Confirming) (picking d r.metadata) body f.metadata.idle stays
    by_stage means stages.Serving e f a = told_left range w i m.stand.state l.stand.state _ d (record r { metadata = o.after }) e r.control o.news (option_to_list o.packet)
      where
        o : Outcome
        o = reply_rule (picking d r.metadata) (request d) body

    -- an answer to the metadata's client
    pub metadata_reply_left : Follows generation range w i m l r → Means generation (metadata_of range) w m.stand.state m.sent body →
        Leaves (metadata_reply d r body) (metadata_actions d r body)
    metadata_reply_left f means = by_stage means r.stage refl f.stage h.at
