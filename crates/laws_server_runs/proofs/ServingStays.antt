-- A range that is served is served after each of its rules, if it is not dropped.
use Rattle.std.proofs.Common.{◌≡◌, ℕ, ◌+◌, ◌^◌, Bool, true, false, not, ◌&&◌, nat_lt, List, [], ◌∷◌, Option, Some, None, is_some, option_to_list, ap, ◌∙◌}
use Rattle.std.specs.Prelude.{◌-◌, ◌++◌, flat_map, length, if◌then◌else◌}
use Rattle.commitlog.specs.Places.{kept}
use Rattle.memtable.specs.Entries.{put_all}
use Rattle.wire.specs.declared.actor.ReqNo.{ReqNo}
use Rattle.wire.specs.declared.body.AppendBody.{AppendBody}
use Rattle.wire.specs.declared.body.AppendBody.TheVariants as appends
use Rattle.wire.specs.declared.body.Body.{Body}
use Rattle.wire.specs.declared.body.Body.TheVariants as bodies
use Rattle.wire.specs.declared.body.ReadBody.{ReadBody}
use Rattle.wire.specs.declared.body.ReadBody.TheVariants as reads
use Rattle.wire.specs.declared.packet.Packet.{Packet}
use Rattle.wire.specs.declared.refusal.Refusal.{Refusal}
use Rattle.wire.specs.declared.refusal.Refusal.TheVariants as refusals
use Rattle.wire.specs.declared.transaction.Change.{Change}
use Rattle.wire.specs.declared.actor.ActorId.{ActorId}
use Rattle.client.specs.declared.job.News.{News}
use Rattle.client.specs.declared.job.News.TheVariants as news
use Rattle.client.specs.declared.load.LoadPhase.TheVariants as phases
use Rattle.client.specs.Client.{Outcome, awaits, reply_rule}
use Rattle.client.specs.Load.{load_awaits}
use Rattle.model_streams.proofs.Tests.{if_elim}
use Rattle.model_partition.specs.declared.server_context.ServerContext.{ServerContext}
use Rattle.model_partition.specs.declared.stage.Stage.{Stage}
use Rattle.model_partition.specs.declared.stage.Stage.TheVariants as stages
use Rattle.model_partition.specs.PlaceReads.{reads_under, reads_page, place_of}
use Rattle.model_partition.specs.Range.{RangeState, RangeOutcome, OutGroup, is_serving, request, picking, answers}
use Rattle.model_partition.specs.Loading.{metadata_news, log_news, index_read}
use Rattle.model_partition.specs.Serving.{record_of, out_size, group_count, forms, transact_fault, transacts, transact_rule, log_done}
use Rattle.model_partition.specs.Getting.{get_fault, gets, get_rule, are_no_page, read_at, bytes_come}
use Rattle.model_partition.specs.Checkpoints.{rows_reply, record_told, trim_awaits}
use Rattle.model_partition.specs.Answering.{load_reply, load_refused, metadata_reply, groups_of, serving_news, is_taken, log_taken, log_reply, index_reply, page_reply, trim_reply, bytes_reply, gets_reply, answer_rule}
use Rattle.laws_loads.specs.StaysLoading.{IsAsBeforeIf, LeavesAsBefore}
use Rattle.laws_loads.proofs.CheckpointAnswers.{rows_reply_same, record_news_same, page_reply_same, trim_reply_same}
use Rattle.laws_loads.proofs.IndexAnswers.{index_reply_elim}

abbrev pub ServesIf : Option RangeState → Type 0
ServesIf None = Unit {0}
ServesIf (Some r) = is_serving r.stage ≡ true

module _ (r : RangeState) (serving : is_serving r.stage ≡ true) where
  abbrev pub IsServed : RangeOutcome → Type 0
  IsServed o = ServesIf o.after

  pub as_before : (o : RangeOutcome) → LeavesAsBefore r o → IsServed o
  as_before o l = by o.after l.after
    where
      by : (x : Option RangeState) → IsAsBeforeIf r x → ServesIf x
      by None h = tt
      by (Some z) h = ap is_serving h.stage ∙ serving

  forms_serves : (d : ServerContext) (s : RangeState) → is_serving s.stage ≡ true → IsServed (forms d s)
  forms_serves d s serves = if_elim IsServed (not (is_some s.out) && (nat_lt 0 (group_count d s) && nat_lt (s.next + group_count d s) (2 ^ 64))) _ _ (λ t. serves) (λ f. serves)

  transact_serves : (d : ServerContext) (from : ActorId) (q : ReqNo) (changes : List Change) (fault : Option Refusal) → IsServed (transacts d r from q changes fault)
  transact_serves d from q changes (Some refusal) = serving
  transact_serves d from q changes None = forms_serves d (record r { queue = r.queue ++ record { from = from; request = q; changes = changes } ∷ [] }) serving

  get_serves : (d : ServerContext) (from : ActorId) (q : ReqNo) (key : List ℕ) (fault : Option Refusal) → IsServed (gets d r from q key fault)
  get_serves d from q key (Some refusal) = serving
  get_serves d from q key None = serving

  -- ---- answers

  module _ (d : ServerContext) where
    refused_serves : (body : AppendBody) → IsServed (load_refused d r body)
    refused_serves (appends.Refused w refusals.Stale) = tt
    refused_serves body = serving

    metadata_serves : (body : Body) → IsServed (metadata_reply d r body)
    metadata_serves body = by (is_serving r.stage) serving
      where
        o : Outcome
        o = reply_rule (picking d r.metadata) (request d) body

        by : (b : Bool) → b ≡ true → IsServed (if b then record_told d (record r { metadata = o.after }) r.control o.news (option_to_list o.packet) else metadata_news d (record r { metadata = o.after }) (groups_of body) r.stage o.news (option_to_list o.packet))
        by true e = as_before _ (record_news_same d r o.after o.news (option_to_list o.packet))
        by false e = absurd cc

    done_serves : (s : RangeState) → is_serving s.stage ≡ true → (out : Option OutGroup) (extent offset : ℕ) → IsServed (log_done d s out extent offset)
    done_serves s serves None extent offset = serves
    done_serves s serves (Some out) extent offset =
        forms_serves d
        (record s {
          live = put_all s.live (flat_map (λ changes. changes) (kept (record_of out.first out.transactions) extent offset));
          position = record { index = (s.log.base + length s.log.extents) - 1; offset = offset + out_size out };
          out = None;
        })
        serves

    news_serves : (s : RangeState) → is_serving s.stage ≡ true → (told : Option News) (packets : List Packet) → IsServed (serving_news d s told packets)
    news_serves s serves None packets = serves
    news_serves s serves (Some news.Fenced) packets = tt
    news_serves s serves (Some (news.Appended e offset)) packets = done_serves s serves s.out e offset
    news_serves s serves (Some (news.Checked e l)) packets = serves
    news_serves s serves (Some (news.Sealed e l)) packets = serves
    news_serves s serves (Some (news.Content e upto)) packets = serves

    log_serves : (body : Body) → IsServed (log_reply d r body)
    log_serves body = if_elim IsServed (is_taken r body) (log_taken d r body) (answers d r []) (λ t. by (is_serving r.stage) serving) (λ f. serving)
      where
        o : Outcome
        o = reply_rule (picking d r.log) (request d) body

        by : (b : Bool) → b ≡ true → IsServed (if b then serving_news d (record r { log = o.after }) o.news (option_to_list o.packet) else log_news d (record r { log = o.after }) (groups_of body) r.stage o.news (option_to_list o.packet))
        by true e = news_serves (record r { log = o.after }) serving o.news (option_to_list o.packet)
        by false e = absurd cc

    read_serves : (stage : Stage) → is_serving stage ≡ true → (bytes : List ℕ) → IsServed (index_read d r stage bytes)
    read_serves stages.Serving e bytes = serving
    read_serves stages.Opening e bytes = absurd cc
    read_serves (stages.Checking kind) e bytes = absurd cc
    read_serves (stages.Reading kind position) e bytes = absurd cc
    read_serves (stages.Indexing position) e bytes = absurd cc
    read_serves stages.Confirming e bytes = absurd cc

    bytes_serves : (w : ReqNo) (body : ReadBody) → IsServed (bytes_reply d r w body)
    bytes_serves w (reads.Bytes v e offset bytes) = if_elim IsServed (are_no_page (read_at r.gets w) bytes) (answers d r []) (bytes_come d r w (place_of e offset bytes) bytes) (λ t. serving) (λ f. serving)
    bytes_serves w body = serving

    gets_serves : (w : ReqNo) (body : Body) → IsServed (gets_reply d r w body)
    gets_serves w (bodies.Read body) = bytes_serves w body
    gets_serves w (bodies.Append body) = refused_serves body
    gets_serves w body = serving

    pub answer_serves : r.load.phase ≡ phases.Confirmed → (w : ReqNo) (body : Body) → IsServed (answer_rule d r w body)
    answer_serves confirmed w body =
        by (load_awaits r.load.phase w) (awaits r.metadata.job w) (awaits r.log.job w) (awaits r.rows.job w) (reads_under r.reading w) (reads_page r.reading) (trim_awaits r.control w) (ap (λ p. load_awaits p w) confirmed)
      where
        by : (a b c e f p g : Bool) → a ≡ false →
            IsServed (if a then load_reply d r body else if b then metadata_reply d r body else if c then log_reply d r body
            else if e then rows_reply d r body else if f then (if p then page_reply d r body else index_reply d r body) else if g then trim_reply d r body else gets_reply d r w body)
        by true b c e f p g x = absurd cc
        by false true c e f p g x = metadata_serves body
        by false false true e f p g x = log_serves body
        by false false false true f p g x = as_before _ (rows_reply_same d r body)
        by false false false false true true g x = as_before _ (page_reply_same d r body)
        by false false false false true false g x = index_reply_elim IsServed d r serving tt (λ bytes. read_serves r.stage serving bytes) body
        by false false false false false p true x = as_before _ (trim_reply_same d r body)
        by false false false false false p false x = gets_serves w body

  pub transacts_serves : (d : ServerContext) (from : ActorId) (q : ReqNo) (changes : List Change) → IsServed (transact_rule d r from q changes)
  transacts_serves d from q changes = transact_serves d from q changes (transact_fault d r changes)

  pub gets_rule_serves : (d : ServerContext) (from : ActorId) (q : ReqNo) (key : List ℕ) → IsServed (get_rule d r from q key)
  gets_rule_serves d from q key = get_serves d from q key (get_fault d r key)
