-- What answers to the clients of a range leave of what is kept, up to its confirmation.
use Rattle.std.proofs.Common.{◌≡◌, ◌≤◌, ℕ, suc, ◌+◌, ◌^◌, Bool, List, [], ◌∷◌, ◌++◌, nat_lt, true, false, Option, Some, None, is_some, option_to_list, refl, sym, ap, ◌∙◌, subst}
use Rattle.std.specs.Prelude.{if◌then◌else◌}
use Rattle.blocks.specs.Format.{◌>>=◌}
use Rattle.wire.specs.declared.actor.ReqNo.{ReqNo}
use Rattle.wire.specs.declared.body.Body.{Body}
use Rattle.wire.specs.declared.packet.Packet.{Packet}
use Rattle.wire.specs.declared.streams.StreamKind.{StreamKind}
use Rattle.wire.specs.declared.streams.StreamKind.TheVariants as kinds
use Rattle.metadata.specs.Fold.{MetadataState, first_metadata, folded}
use Rattle.metadata.specs.Reading.{group_at}
use Rattle.metadata.specs.declared.record.MetaRecord.{MetaRecord}
use Rattle.metadata.specs.declared.record.Region.{Region}
use Rattle.memtable.specs.Entries.{Entries}
use Rattle.client.specs.declared.job.Job.TheVariants as jobs
use Rattle.client.specs.declared.job.News.{News}
use Rattle.client.specs.declared.job.News.TheVariants as news
use Rattle.client.specs.declared.load.LoadPhase.TheVariants as phases
use Rattle.client.specs.Client.{ClientState, Outcome, awaits, reply_rule}
use Rattle.model_streams.proofs.Tests.{if_elim}
use Rattle.model_partition.specs.declared.server_context.ServerContext.{ServerContext}
use Rattle.model_partition.specs.declared.stage.Stage.{Stage}
use Rattle.model_partition.specs.declared.stage.Stage.TheVariants as stages
use Rattle.model_partition.specs.Past.{Bytes}
use Rattle.model_partition.specs.Range.{RangeState, RangeOutcome, request, picking, answers, dropped, is_serving}
use Rattle.model_partition.specs.Loading.{Group, said_after, says, metadata_news, replayed, replays, reads_log, reads_log_from, log_read, log_news, first_position, reads_metadata}
use Rattle.model_partition.specs.Answering.{groups_of, metadata_reply, serving_news, is_taken, log_taken, log_reply}
use Rattle.model_partition.specs.Checkpoints.{record_told}
use Rattle.model_histories.specs.ServerRun.{one_more_read}
use Rattle.model_histories.specs.StreamActions.{ExtentRead, StreamAction, Reads, loading_actions, record_actions, metadata_actions, serving_actions, log_actions}
use Rattle.model_histories.specs.ServedTables.{AllStand}
use Rattle.model_histories.specs.StreamActions.{first_start}
use Rattle.laws_loads.specs.RangeView.{RangeView}
use Rattle.laws_tables.specs.Runs.{Run}
use Rattle.laws_server_runs.specs.RangeInvariant.{groups_read, ReadsMetadata, ReadsLog, PhaseIs, StageIs, RangeKept, StreamsKept, StepKept}
use Rattle.laws_loads.proofs.CheckpointAnswers.{record_news_same}
use Rattle.laws_server_runs.proofs.CheckpointKept.{leaves_kept, leaves_queue}
use Rattle.laws_server_runs.proofs.CheckpointSteps.{metadata_step as record_step}
use Rattle.laws_server_runs.proofs.ClientAnswers.{IsIdleIf, reply_takes, busy}
use Rattle.laws_server_runs.proofs.MetadataJobs.{TellsOther, metadata_left}
use Rattle.laws_server_runs.proofs.Loads.{rests_kept}
use Rattle.laws_server_runs.proofs.ServedNotes.{serves_of}
use Rattle.laws_server_runs.proofs.LoadsSteps.{Left, IsLoading, drops_left, reads_log_left, reads_log_from_left, reads_metadata_left}

-- ---- what is read

-- the metadata says what it says after one part, and then the other
said_both : (m : MetadataState) (first more : List Group) → said_after m (first ++ more) ≡ (said_after m first >>= λ said. said_after said more)
said_both m [] more = refl
said_both m (group ∷ first) more = by_group (λ said. said_both said first more) (group_at group)
  where
    by_folded : ((said : MetadataState) → said_after said (first ++ more) ≡ (said_after said first >>= λ z. said_after z more)) → (x : Option (Bool × MetadataState)) →
        (x >>= λ y. said_after y.1 (first ++ more)) ≡ ((x >>= λ y. said_after y.1 first) >>= λ said. said_after said more)
    by_folded others None = refl
    by_folded others (Some x) = others x.1

    by_group : ((said : MetadataState) → said_after said (first ++ more) ≡ (said_after said first >>= λ z. said_after z more)) → (x : Option MetaRecord) →
        (x >>= λ y. folded m y >>= λ z. said_after z.1 (first ++ more)) ≡ ((x >>= λ y. folded m y >>= λ z. said_after z.1 first) >>= λ said. said_after said more)
    by_group others None = refl
    by_group others (Some x) = by_folded others (folded m x)

-- ---- answers

module _ (texts : ℕ → Bytes) (subject : ℕ) (run : Run) (v : RangeView) (r : RangeState) (kept : RangeKept texts subject run v r) (streams : StreamsKept texts run v) (d : ServerContext) where
  -- an extent of a stream was read
  abbrev MoreRead : StreamKind → ExtentRead → RangeOutcome → Type 0
  MoreRead kind read o = Left texts subject run v r streams d (Reads kind read ∷ []) (one_more_read v.history kind read) v.shown refl o

  abbrev NoneRead : RangeOutcome → Type 0
  NoneRead o = Left texts subject run v r streams d [] v.history v.shown refl o

  -- ---- the metadata

  module _ (w : ReqNo) (waited : awaits r.metadata.job w ≡ true) (unserved : is_serving r.stage ≡ false) (groups : List Group) (packets : List Packet) (c : ClientState) where
    metadata_rests : (count : ℕ) → StepKept texts subject run v r [] (record { after = Some (record r { metadata = c }); count = count; packets = packets; notes = [] })
    metadata_rests count =
        rests_kept texts subject run v r kept streams d r.until c r.log r.gets r.held count packets (λ idle. absurd (busy r.metadata.job w waited idle)) (λ e. absurd (let z : true ≡ false = sym e ∙ unserved in cc)) (λ idle. idle) refl (λ h. h)

    -- the next extent is read, or the log
    metadata_next : r.load.phase ≡ phases.Opened → ReadsMetadata v.history r → c.job ≡ jobs.Idle → (position : ℕ) → NoneRead (reads_metadata d (record r { metadata = c }) position)
    metadata_next opened s idle position =
        reads_metadata_left texts subject run v r streams d [] v.history v.shown refl (record r { metadata = c })
        (record { range = kept.range; generation = refl; opened = opened; sound = kept.sound; held = kept.held })
        (record { said = s.said; log = s.log; live = s.live; fixed = s.fixed; idle = s.idle; none = s.none; indexes = s.indexes; rows = s.rows }) idle position

    metadata_read : r.load.phase ≡ phases.Opened → ReadsMetadata v.history r → c.job ≡ jobs.Idle → (position index extent : ℕ) (x : Option MetadataState) → said_after r.said groups ≡ x →
        MoreRead kinds.Metadata (record { index = index; extent = extent; groups = groups }) (says d (record r { metadata = c }) position x)
    metadata_read opened s idle position index extent None e =
        drops_left texts subject run v r streams d (Reads kinds.Metadata (record { index = index; extent = extent; groups = groups }) ∷ [])
        (one_more_read v.history kinds.Metadata (record { index = index; extent = extent; groups = groups })) v.shown refl _ _
    metadata_read opened s idle position index extent (Some said) e =
        reads_metadata_left texts subject run v r streams d (Reads kinds.Metadata (record { index = index; extent = extent; groups = groups }) ∷ [])
        (one_more_read v.history kinds.Metadata (record { index = index; extent = extent; groups = groups })) v.shown refl
        (record r { metadata = c; said = said })
        (record { range = kept.range; generation = refl; opened = opened; sound = kept.sound; held = kept.held })
        (record {
          said = said_both first_metadata (groups_read (v.history.reads kinds.Metadata)) groups ∙ ap (λ x. x >>= λ z. said_after z groups) s.said ∙ e;
          log = s.log;
          live = s.live;
          fixed = s.fixed;
          idle = s.idle;
          none = s.none;
          indexes = s.indexes;
          rows = s.rows;
        })
        idle (suc position)

    abbrev MetadataStep : Stage → Option News → Type 0
    MetadataStep stage told =
        StepKept texts subject run v r
        (if is_some (metadata_news d (record r { metadata = c }) groups stage told packets).after then loading_actions kinds.Metadata r.metadata stage groups told else [])
        (metadata_news d (record r { metadata = c }) groups stage told packets)

    metadata_step : (stage : Stage) → PhaseIs texts stage r.load.phase → StageIs texts run v r stage → (told : Option News) → IsIdleIf told c.job → MetadataStep stage told
    metadata_step stage p s (Some news.Fenced) idle = drops_left texts subject run v r streams d [] v.history v.shown refl _ _
    metadata_step (stages.Checking kinds.Metadata) p s (Some (news.Checked e l)) idle = metadata_next p s idle 0
    metadata_step (stages.Checking kinds.Metadata) p s (Some (news.Sealed e l)) idle = metadata_next p s idle 0
    metadata_step (stages.Checking kinds.Log) p s told idle = absurd (busy r.metadata.job w waited s.0.idle)
    metadata_step (stages.Checking kinds.RowData) p s told idle = absurd s
    metadata_step (stages.Checking kinds.BlobData) p s told idle = absurd s
    metadata_step (stages.Reading kinds.Metadata position) p s (Some (news.Sealed e l)) idle = metadata_next p s idle position
    metadata_step (stages.Reading kinds.Metadata position) p s (Some (news.Content e upto)) idle =
        metadata_read p s idle position (r.metadata.base + position) e (said_after r.said groups) refl
    metadata_step (stages.Reading kinds.Log position) p s told idle = absurd (busy r.metadata.job w waited s.0.idle)
    metadata_step (stages.Reading kinds.RowData position) p s told idle = absurd s
    metadata_step (stages.Reading kinds.BlobData position) p s told idle = absurd s
    metadata_step stage p s told idle = metadata_rests (suc d.count)

  -- an answer to the metadata's client
  pub metadata_kept : AllStand texts v.answered → (w : ReqNo) (body : Body) → awaits r.metadata.job w ≡ true → TellsOther v.split (reply_rule (picking d r.metadata) (request d) body).news →
      StepKept texts subject run v r (if is_some (metadata_reply d r body).after then metadata_actions d r body else []) (metadata_reply d r body)
  metadata_kept stand w body waited other = at_stage (is_serving r.stage) refl
    where
      o : Outcome
      o = reply_rule (picking d r.metadata) (request d) body

      now : RangeState
      now = record r { metadata = o.after }

      told : Bool → RangeOutcome
      told b = if b then record_told d now r.control o.news (option_to_list o.packet) else metadata_news d now (groups_of body) r.stage o.news (option_to_list o.packet)

      -- while the range is served it is an answer to a record
      at_stage : (b : Bool) → is_serving r.stage ≡ b →
          StepKept texts subject run v r
          (if is_some (told b).after then (if b then record_actions r o.news else loading_actions kinds.Metadata r.metadata r.stage (groups_of body) o.news) else []) (told b)
      at_stage true e =
          leaves_kept texts subject run v r kept streams e (told true) (record_actions r o.news)
          (leaves_queue r (told true) (record_news_same d r o.after o.news (option_to_list o.packet)))
          (λ z there. record_step texts subject run v r (serves_of texts subject run v r e kept).matches (serves_of texts subject run v r e kept).shown streams d o.after stand o.news (option_to_list o.packet)
          (metadata_left (picking d r.metadata) (request d) body v.split r.control (serves_of texts subject run v r e kept).matches.metadata) other)
      at_stage false e =
          metadata_step w waited e (groups_of body) (option_to_list o.packet) o.after r.stage kept.phase kept.stage o.news (reply_takes (picking d r.metadata) (request d) body).idle

  -- ---- the log

  module _ (w : ReqNo) (waited : awaits r.log.job w ≡ true) (groups : List Group) (packets : List Packet) (c : ClientState) where
    log_rests : c.base ≡ r.log.base → (count : ℕ) → StepKept texts subject run v r [] (record { after = Some (record r { log = c }); count = count; packets = packets; notes = [] })
    log_rests base count =
        rests_kept texts subject run v r kept streams d r.until r.metadata c r.gets r.held count packets (λ idle. idle) (λ e a. a) (λ idle. absurd (busy r.log.job w waited idle)) base (λ h. h)

    abbrev now : RangeState
    now = record r { log = c }

    is_loading : r.load.phase ≡ phases.Opened → IsLoading texts subject run v r streams d [] v.history v.shown refl now
    is_loading opened = record { range = kept.range; generation = refl; opened = opened; sound = kept.sound; held = kept.held }

    log_same : c.base ≡ r.log.base → ReadsLog v.history r → ReadsLog v.history now
    log_same base s =
        record { said = s.said; made = s.made; fixed = s.fixed; idle = s.idle; none = s.none; rows = s.rows; begins = subst (λ n. n ≤ (first_start r.said.regions).index) (sym base) s.begins }

    -- the log is read from its first extent on
    log_begins : r.load.phase ≡ phases.Opened → ReadsLog v.history r → r.indexes ≡ [] → c.base ≡ r.log.base → (position : Option ℕ) → NoneRead (reads_log_from d now position)
    log_begins opened s none base position = reads_log_from_left texts subject run v r streams d [] v.history v.shown refl now (is_loading opened) (log_same base s) none position

    log_next : r.load.phase ≡ phases.Opened → ReadsLog v.history r → r.indexes ≡ [] → c.base ≡ r.log.base → (position : ℕ) → NoneRead (reads_log d now position)
    log_next opened s none base position = reads_log_left texts subject run v r streams d [] v.history v.shown refl now (is_loading opened) (log_same base s) none position

    module _ (position extent : ℕ) where
      abbrev read : ExtentRead
      read = record { index = r.log.base + position; extent = extent; groups = groups }

      abbrev LogRead : RangeOutcome → Type 0
      LogRead o = MoreRead kinds.Log read o

      log_dropped : LogRead (dropped d now)
      log_dropped = drops_left texts subject run v r streams d (Reads kinds.Log read ∷ []) (one_more_read v.history kinds.Log read) v.shown refl _ _

      abbrev replayed_from : ℕ → List Region × Entries → Option (List Region × Entries)
      replayed_from base z = replayed r.said.keys extent (record { index = base + position; offset = 0 }) z groups

      log_replayed : r.load.phase ≡ phases.Opened → ReadsLog v.history r → r.indexes ≡ [] → c.base ≡ r.log.base → (x : Option (List Region × Entries)) → replayed_from c.base (r.regions, r.live) ≡ x →
          LogRead (replays d now position x)
      log_replayed opened s none base None e = log_dropped
      log_replayed opened s none base (Some x) e =
          reads_log_left texts subject run v r streams d (Reads kinds.Log read ∷ []) (one_more_read v.history kinds.Log read) v.shown refl
          (record r { log = c; regions = x.0; live = x.1 })
          (record { range = kept.range; generation = refl; opened = opened; sound = kept.sound; held = kept.held })
          (record {
            said = s.said;
            made = ap (λ y. y >>= λ z. replayed_from r.log.base z) s.made ∙ ap (λ n. replayed_from n (r.regions, r.live)) (sym base) ∙ e;
            fixed = s.fixed;
            idle = s.idle;
            none = s.none;
            rows = s.rows;
            begins = subst (λ n. n ≤ (first_start r.said.regions).index) (sym base) s.begins;
          })
          none (suc position)

      log_came : r.load.phase ≡ phases.Opened → ReadsLog v.history r → r.indexes ≡ [] → c.base ≡ r.log.base → LogRead (log_read d now position extent groups)
      log_came opened s none base =
          if_elim LogRead (nat_lt (c.base + position) (2 ^ 64)) _ _
          (λ t. log_replayed opened s none base (replayed_from c.base (r.regions, r.live)) refl)
          (λ f. log_dropped)

    abbrev LogStep : Stage → Option News → Type 0
    LogStep stage told =
        StepKept texts subject run v r
        (if is_some (log_news d now groups stage told packets).after then loading_actions kinds.Log r.log stage groups told else [])
        (log_news d now groups stage told packets)

    log_step : (stage : Stage) → PhaseIs texts stage r.load.phase → StageIs texts run v r stage → (told : Option News) → c.base ≡ r.log.base → LogStep stage told
    log_step stage p s (Some news.Fenced) base = drops_left texts subject run v r streams d [] v.history v.shown refl _ _
    log_step (stages.Checking kinds.Metadata) p s told base = absurd (busy r.log.job w waited s.idle)
    log_step (stages.Checking kinds.Log) p s (Some (news.Checked e l)) base = log_begins p s.0 s.1 base (first_position now r.regions)
    log_step (stages.Checking kinds.Log) p s (Some (news.Sealed e l)) base = log_begins p s.0 s.1 base (first_position now r.regions)
    log_step (stages.Checking kinds.RowData) p s told base = absurd s
    log_step (stages.Checking kinds.BlobData) p s told base = absurd s
    log_step (stages.Reading kinds.Metadata position) p s told base = absurd (busy r.log.job w waited s.idle)
    log_step (stages.Reading kinds.Log position) p s (Some (news.Sealed e l)) base = log_next p s.0 s.1 base position
    log_step (stages.Reading kinds.Log position) p s (Some (news.Content e upto)) base = log_came position e p s.0 s.1 base
    log_step (stages.Reading kinds.RowData position) p s told base = absurd s
    log_step (stages.Reading kinds.BlobData position) p s told base = absurd s
    log_step stage p s told base = log_rests base (suc d.count)

  module _ (w : ReqNo) (body : Body) (waited : awaits r.log.job w ≡ true) where
    abbrev answer : Outcome
    answer = reply_rule (picking d r.log) (request d) body

    abbrev served : RangeOutcome
    served = serving_news d (record r { log = answer.after }) answer.news (option_to_list answer.packet)

    abbrev loaded : RangeOutcome
    loaded = log_news d (record r { log = answer.after }) (groups_of body) r.stage answer.news (option_to_list answer.packet)

    abbrev taken_actions : Bool → RangeOutcome → List StreamAction
    taken_actions t o = if t then serving_actions r answer.news o else loading_actions kinds.Log r.log r.stage (groups_of body) answer.news

    taken_kept : (t : Bool) → t ≡ false →
        StepKept texts subject run v r (if is_some (if t then served else loaded).after then taken_actions t (if t then served else loaded) else []) (if t then served else loaded)
    taken_kept true e = absurd cc
    taken_kept false e =
        log_step w waited (groups_of body) (option_to_list answer.packet) answer.after r.stage kept.phase kept.stage answer.news (reply_takes (picking d r.log) (request d) body).base

    abbrev replied : Bool → RangeOutcome
    replied t = if t then log_taken d r body else answers d r []

    replied_kept : is_serving r.stage ≡ false → (t : Bool) → StepKept texts subject run v r (if is_some (replied t).after then (if t then log_actions d r body (replied t) else []) else []) (replied t)
    replied_kept unserved true = taken_kept (is_serving r.stage) unserved
    replied_kept unserved false = rests_kept texts subject run v r kept streams d r.until r.metadata r.log r.gets r.held d.count [] (λ idle. idle) (λ e a. a) (λ idle. idle) refl (λ h. h)

  -- an answer to the log's client of a range that is not served yet
  pub log_loading_kept : is_serving r.stage ≡ false → (w : ReqNo) (body : Body) → awaits r.log.job w ≡ true →
      StepKept texts subject run v r (if is_some (log_reply d r body).after then (if is_taken r body then log_actions d r body (log_reply d r body) else []) else []) (log_reply d r body)
  log_loading_kept unserved w body waited = replied_kept w body waited unserved (is_taken r body)
