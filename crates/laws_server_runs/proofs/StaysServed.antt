-- What a rule leaves of a range that is served, if it is not dropped: its load and its keys are as they were; where no checkpoint is under
-- way none begins, and its metadata says what it said; and where it takes no transaction, and none waits or is out, none does after it.
use Rattle.std.proofs.Common.{◌≡◌, ℕ, ◌+◌, ◌-◌, ◌^◌, Bool, true, false, not, ◌&&◌, ◌==◌, ◌||◌, nat_lt, List, [], ◌∷◌, ◌++◌, length, Option, Some, None, is_some, option_to_list, refl, sym, ap, ◌∙◌}
use Rattle.std.specs.Prelude.{flat_map, if◌then◌else◌}
use Rattle.std.specs.List.{list_any}
use Rattle.commitlog.specs.Places.{kept}
use Rattle.memtable.specs.Entries.{put_all}
use Rattle.metadata.specs.Keys.{within}
use Rattle.checkpoint.specs.Merges.{with_page}
use Rattle.checkpoint.specs.PageGroups.{next_group}
use Rattle.wire.specs.declared.actor.ActorId.{ActorId}
use Rattle.wire.specs.declared.actor.ReqNo.{ReqNo}
use Rattle.wire.specs.declared.body.AppendBody.{AppendBody}
use Rattle.wire.specs.declared.body.AppendBody.TheVariants as appends
use Rattle.wire.specs.declared.body.Body.{Body}
use Rattle.wire.specs.declared.body.Body.TheVariants as bodies
use Rattle.wire.specs.declared.body.ReadBody.{ReadBody}
use Rattle.wire.specs.declared.body.ReadBody.TheVariants as reads
use Rattle.wire.specs.declared.body.StreamBody.{StreamBody}
use Rattle.wire.specs.declared.body.StreamBody.TheVariants as streams
use Rattle.wire.specs.declared.packet.Packet.{Packet}
use Rattle.wire.specs.declared.refusal.Refusal.{Refusal}
use Rattle.wire.specs.declared.refusal.Refusal.TheVariants as refusals
use Rattle.wire.specs.declared.transaction.Change.{Change}
use Rattle.client.specs.declared.job.News.{News}
use Rattle.client.specs.declared.job.News.TheVariants as news
use Rattle.client.specs.declared.load.LoadPhase.TheVariants as load_phases
use Rattle.client.specs.Client.{ClientState, Outcome, awaits, reply_rule}
use Rattle.client.specs.Load.{load_awaits}
use Rattle.model_streams.proofs.Tests.{if_elim, none_met}
use Rattle.model_partition.specs.CheckpointStates.{CheckpointState}
use Rattle.model_partition.specs.declared.checkpoint_job.CheckpointPhase.{CheckpointPhase}
use Rattle.model_partition.specs.declared.checkpoint_job.CheckpointPhase.TheVariants as checkpoints
use Rattle.model_partition.specs.declared.server_context.ServerContext.{ServerContext}
use Rattle.model_partition.specs.declared.stage.Stage.{Stage}
use Rattle.model_partition.specs.declared.stage.Stage.TheVariants as stages
use Rattle.model_partition.specs.PlaceReads.{reads_under, reads_page, place_of}
use Rattle.model_partition.specs.Range.{OutGroup, RangeState, RangeOutcome, request, answers, picking, is_serving, takes_no_transaction}
use Rattle.model_partition.specs.Loading.{Group, metadata_news, log_news, index_read}
use Rattle.model_partition.specs.Serving.{record_of, out_size, group_count, forms, is_key, value_size, lease_ended, is_full, transact_fault, transacts, log_done}
use Rattle.model_partition.specs.Getting.{get_fault, gets, are_no_page, read_at, bytes_come}
use Rattle.model_partition.specs.Checkpoints.{combines, new_job, new_combining_job, with_fixed, begins, combined_job, merges, next_append, rows_go, pages_stand, may_record, index_stands, rows_stand, rows_told, rows_may_stand, rows_reply, has_record_number, record_stands, record_told, trim_awaits, trim_told, trim_reply_in}
use Rattle.model_partition.specs.Answering.{load_reply, load_refused, metadata_reply, groups_of, serving_news, is_taken, log_taken, log_reply, index_reply, page_reply, trim_reply, bytes_reply, gets_reply, answer_rule, give_up_all}
use Rattle.model_histories.specs.StreamActions.{StreamAction}
use Rattle.laws_loads.proofs.IndexAnswers.{index_reply_elim}
use Rattle.laws_loads.proofs.PageAnswers.{unread, merged, merges_elim, page_reply_elim}
use Rattle.laws_server_runs.specs.Turns.{IsRule, Transacts, Answers, Gets, Yields, Checkpoints, Renews, IsCalm}

-- its load, its stage and its keys are as they were
pub record IsServedOn (r z : RangeState) : Type 0 where
  pub load : z.load ≡ r.load
  pub stage : z.stage ≡ r.stage
  pub keys : z.said.keys ≡ r.said.keys

abbrev pub IsServedOnIf : RangeState → Option RangeState → Type 0
IsServedOnIf r None = Unit {0}
IsServedOnIf r (Some z) = IsServedOn r z

pub record StaysServed (r z : RangeState) : Type 0 where
  pub on : IsServedOn r z
  pub pause : z.pause ≡ r.pause
  -- where no checkpoint is under way
  pub rests : r.control ≡ None → (z.control ≡ None) × (z.said ≡ r.said)
  -- where none waits, and it takes none
  pub waits : r.out ≡ None → r.queue ≡ [] → takes_no_transaction r.pause ≡ true → (z.out ≡ None) × (z.queue ≡ [])

abbrev pub StaysServedIf : RangeState → Option RangeState → Type 0
StaysServedIf r None = Unit {0}
StaysServedIf r (Some z) = StaysServed r z

module _ (r : RangeState) (serving : is_serving r.stage ≡ true) where
  abbrev pub LeavesServed : RangeOutcome → Type 0
  LeavesServed o = StaysServedIf r o.after

  -- nothing that matters changes
  pub same_served : (z : RangeState) → z.load ≡ r.load → z.stage ≡ r.stage → z.said ≡ r.said → z.pause ≡ r.pause → z.control ≡ r.control → z.out ≡ r.out → z.queue ≡ r.queue → StaysServed r z
  same_served z load stage said pause control out queue = record {
    on = record { load = load; stage = stage; keys = ap (λ m. m.keys) said };
    pause = pause;
    rests = λ none. (control ∙ none, said);
    waits = λ no_out no_queue takes. (out ∙ no_out, queue ∙ no_queue);
  }

  as_it_is : StaysServed r r
  as_it_is = same_served r refl refl refl refl refl refl refl

  -- ---- while a checkpoint is under way

  module _ (d : ServerContext) (job : CheckpointState) (is : r.control ≡ Some job) where
    record IsLike (z : RangeState) : Type 0 where
      on : IsServedOn r z
      pause : z.pause ≡ r.pause
      out : z.out ≡ r.out
      queue : z.queue ≡ r.queue

    under_way : (z : RangeState) → IsLike z → StaysServed r z
    under_way z l = record {
      on = l.on;
      pause = l.pause;
      rests = λ none. absurd (let x : None ≡ Some job = sym none ∙ is in cc);
      waits = λ no_out no_queue takes. (l.out ∙ no_out, l.queue ∙ no_queue);
    }

    now_unread : IsLike (unread r)
    now_unread = record { on = record { load = refl; stage = refl; keys = refl }; pause = refl; out = refl; queue = refl }

    rows_go_stays : (s : RangeState) → IsLike s → (x : CheckpointState × Option Group) → LeavesServed (rows_go d s x)
    rows_go_stays s l (next, None) = under_way _ (record { on = record { load = l.on.load; stage = l.on.stage; keys = l.on.keys }; pause = l.pause; out = l.out; queue = l.queue })
    rows_go_stays s l (next, Some group) = under_way _ (record { on = record { load = l.on.load; stage = l.on.stage; keys = l.on.keys }; pause = l.pause; out = l.out; queue = l.queue })

    index_stays : (s : RangeState) → IsLike s → (e offset : ℕ) → LeavesServed (index_stands d s job e offset)
    index_stays s l e offset =
        if_elim LeavesServed (may_record s job) _ _
        (λ t. under_way _ (record { on = record { load = l.on.load; stage = l.on.stage; keys = l.on.keys }; pause = l.pause; out = l.out; queue = l.queue })) (λ f. under_way s l)

    rows_stand_stays : (s : RangeState) → IsLike s → (phase : CheckpointPhase) (e offset : ℕ) → LeavesServed (rows_stand d s job phase e offset)
    rows_stand_stays s l checkpoints.Pages e offset = rows_go_stays s l (next_append (pages_stand job e offset) (next_group (pages_stand job e offset).pages))
    rows_stand_stays s l checkpoints.Index e offset = index_stays s l e offset
    rows_stand_stays s l phase e offset = under_way s l

    record_stands_stays : (s : RangeState) → IsLike s → (phase : CheckpointPhase) → LeavesServed (record_stands d s job phase)
    record_stands_stays s l (checkpoints.Record index) =
        if_elim LeavesServed (has_record_number s) _ _
        (λ t. under_way _ (record { on = record { load = l.on.load; stage = l.on.stage; keys = l.on.keys }; pause = l.pause; out = l.out; queue = l.queue })) (λ f. under_way s l)
    record_stands_stays s l phase = under_way s l

    merges_stays : (next : CheckpointState) → LeavesServed (merges d r next)
    merges_stays next =
        merges_elim LeavesServed d r next (under_way (unread r) now_unread)
        (λ merge. under_way _ (record { on = record { load = refl; stage = refl; keys = refl }; pause = refl; out = refl; queue = refl }))
        (λ merge place places asked told. under_way _ (record { on = record { load = refl; stage = refl; keys = refl }; pause = refl; out = refl; queue = refl }))
        (λ merge newer all fixed. (let last : CheckpointState = combined_job (merged next merge) newer in rows_go_stays (unread r) now_unread (next_append last (next_group last.pages))))

    trim_told_stays : (phase : CheckpointPhase) (body : StreamBody) → LeavesServed (trim_told d r phase body)
    trim_told_stays (checkpoints.Trim before to_blob q) (streams.Trimmed w) = under_way _ (record { on = record { load = refl; stage = refl; keys = refl }; pause = refl; out = refl; queue = refl })
    trim_told_stays phase body = as_it_is

  -- ---- transactions

  -- a group is formed, where one may be
  forms_stays : (d : ServerContext) (s : RangeState) → s.load ≡ r.load → s.stage ≡ r.stage → s.said ≡ r.said → s.pause ≡ r.pause → s.control ≡ r.control →
      (r.out ≡ None → r.queue ≡ [] → takes_no_transaction r.pause ≡ true → ⊥) → LeavesServed (forms d s)
  forms_stays d s load stage said pause control never =
      if_elim LeavesServed (not (is_some s.out) && (nat_lt 0 (group_count d s) && nat_lt (s.next + group_count d s) (2 ^ 64))) _ _ (λ t. by _ load stage said pause control) (λ f. by s load stage said pause control)
    where
      by : (z : RangeState) → z.load ≡ r.load → z.stage ≡ r.stage → z.said ≡ r.said → z.pause ≡ r.pause → z.control ≡ r.control → StaysServed r z
      by z load stage said pause control = record {
        on = record { load = load; stage = stage; keys = ap (λ m. m.keys) said };
        pause = pause;
        rests = λ none. (control ∙ none, said);
        waits = λ no_out no_queue takes. absurd (never no_out no_queue takes);
      }

  abbrev tests : ServerContext → List Change → List (Refusal × Bool)
  tests d changes =
      (refusals.Loading, not (is_serving r.stage))
      ∷ (refusals.Paused, takes_no_transaction r.pause)
      ∷ (refusals.LeaseEnded, lease_ended d r)
      ∷ (refusals.TooLarge, (length changes == 0) || nat_lt 32 (length changes))
      ∷ (refusals.BadKey, list_any (λ (c : Change). not (is_key c.key)) changes)
      ∷ (refusals.TooLarge, list_any (λ (c : Change). nat_lt 65536 (value_size c.value)) changes)
      ∷ (refusals.OutOfRange, list_any (λ (c : Change). not (within r.said.keys c.key)) changes)
      ∷ (refusals.Busy, is_full r)
      ∷ []

  transact_stays : (d : ServerContext) (from : ActorId) (q : ReqNo) (changes : List Change) (fault : Option Refusal) → transact_fault d r changes ≡ fault → LeavesServed (transacts d r from q changes fault)
  transact_stays d from q changes (Some refusal) e = as_it_is
  transact_stays d from q changes None e =
      forms_stays d (record r { queue = r.queue ++ record { from = from; request = q; changes = changes } ∷ [] }) refl refl refl refl refl
      (λ no_out no_queue takes. let all = none_met (tests d changes) e in let z : true ≡ false = sym takes ∙ all.1.0 in cc)

  get_stays : (d : ServerContext) (from : ActorId) (q : ReqNo) (key : List ℕ) (fault : Option Refusal) → LeavesServed (gets d r from q key fault)
  get_stays d from q key (Some refusal) = as_it_is
  get_stays d from q key None = same_served _ refl refl refl refl refl refl refl

  -- ---- answers

  module _ (d : ServerContext) where
    refused_stays : (body : AppendBody) → LeavesServed (load_refused d r body)
    refused_stays (appends.Refused w refusals.Stale) = tt
    refused_stays body = as_it_is

    record_stays : (c : ClientState) (job : Option CheckpointState) → r.control ≡ job → (told : Option News) (packets : List Packet) → LeavesServed (record_told d (record r { metadata = c }) job told packets)
    record_stays c job is (Some news.Fenced) packets = tt
    record_stays c (Some job) is (Some (news.Appended e offset)) packets =
        record_stands_stays d job is (record r { metadata = c }) (record { on = record { load = refl; stage = refl; keys = refl }; pause = refl; out = refl; queue = refl }) job.phase
    record_stays c None is (Some (news.Appended e offset)) packets = same_served _ refl refl refl refl refl refl refl
    record_stays c job is None packets = same_served _ refl refl refl refl refl refl refl
    record_stays c job is (Some (news.Checked e l)) packets = same_served _ refl refl refl refl refl refl refl
    record_stays c job is (Some (news.Sealed e l)) packets = same_served _ refl refl refl refl refl refl refl
    record_stays c job is (Some (news.Content e upto)) packets = same_served _ refl refl refl refl refl refl refl

    metadata_stays : (body : Body) → LeavesServed (metadata_reply d r body)
    metadata_stays body = by (is_serving r.stage) serving
      where
        o : Outcome
        o = reply_rule (picking d r.metadata) (request d) body

        by : (b : Bool) → b ≡ true →
            LeavesServed (if b then record_told d (record r { metadata = o.after }) r.control o.news (option_to_list o.packet) else metadata_news d (record r { metadata = o.after }) (groups_of body) r.stage o.news (option_to_list o.packet))
        by true e = record_stays o.after r.control refl o.news (option_to_list o.packet)
        by false e = absurd cc

    done_stays : (c : ClientState) (out : Option OutGroup) → r.out ≡ out → (extent offset : ℕ) → LeavesServed (log_done d (record r { log = c }) out extent offset)
    done_stays c None is extent offset = same_served _ refl refl refl refl refl refl refl
    done_stays c (Some out) is extent offset =
        forms_stays d
        (record r {
          log = c;
          live = put_all r.live (flat_map (λ changes. changes) (kept (record_of out.first out.transactions) extent offset));
          position = record { index = (c.base + length c.extents) - 1; offset = offset + out_size out };
          out = None;
        })
        refl refl refl refl refl (λ no_out no_queue takes. let z : None ≡ Some out = sym no_out ∙ is in cc)

    log_news_stays : (c : ClientState) (told : Option News) (packets : List Packet) → LeavesServed (serving_news d (record r { log = c }) told packets)
    log_news_stays c None packets = same_served _ refl refl refl refl refl refl refl
    log_news_stays c (Some news.Fenced) packets = tt
    log_news_stays c (Some (news.Appended e offset)) packets = done_stays c r.out refl e offset
    log_news_stays c (Some (news.Checked e l)) packets = same_served _ refl refl refl refl refl refl refl
    log_news_stays c (Some (news.Sealed e l)) packets = same_served _ refl refl refl refl refl refl refl
    log_news_stays c (Some (news.Content e upto)) packets = same_served _ refl refl refl refl refl refl refl

    log_stays : (body : Body) → LeavesServed (log_reply d r body)
    log_stays body = if_elim LeavesServed (is_taken r body) (log_taken d r body) (answers d r []) (λ t. by (is_serving r.stage) serving) (λ f. as_it_is)
      where
        o : Outcome
        o = reply_rule (picking d r.log) (request d) body

        by : (b : Bool) → b ≡ true →
            LeavesServed (if b then serving_news d (record r { log = o.after }) o.news (option_to_list o.packet) else log_news d (record r { log = o.after }) (groups_of body) r.stage o.news (option_to_list o.packet))
        by true e = log_news_stays o.after o.news (option_to_list o.packet)
        by false e = absurd cc

    rows_told_stays : (c : ClientState) (job : Option CheckpointState) → r.control ≡ job → (told : Option News) (packets : List Packet) → LeavesServed (rows_told d (record r { rows = c }) job told packets)
    rows_told_stays c job is (Some news.Fenced) packets = tt
    rows_told_stays c (Some job) is (Some (news.Appended e offset)) packets =
        let like : IsLike d job is (record r { rows = c }) = record { on = record { load = refl; stage = refl; keys = refl }; pause = refl; out = refl; queue = refl } in
        if_elim LeavesServed (nat_lt e (2 ^ 64)) _ _ (λ t. rows_stand_stays d job is (record r { rows = c }) like job.phase e offset) (λ f. under_way d job is _ like)
    rows_told_stays c None is (Some (news.Appended e offset)) packets = same_served _ refl refl refl refl refl refl refl
    rows_told_stays c job is None packets = same_served _ refl refl refl refl refl refl refl
    rows_told_stays c job is (Some (news.Checked e l)) packets = same_served _ refl refl refl refl refl refl refl
    rows_told_stays c job is (Some (news.Sealed e l)) packets = same_served _ refl refl refl refl refl refl refl
    rows_told_stays c job is (Some (news.Content e upto)) packets = same_served _ refl refl refl refl refl refl refl

    rows_stays : (body : Body) → LeavesServed (rows_reply d r body)
    rows_stays body =
        let o : Outcome = reply_rule (picking d r.rows) (request d) body in
        if_elim LeavesServed (rows_may_stand r.control body) _ _ (λ t. rows_told_stays o.after r.control refl o.news (option_to_list o.packet)) (λ f. as_it_is)

    page_stays : (body : Body) → LeavesServed (page_reply d r body)
    page_stays body = page_reply_elim LeavesServed d r as_it_is tt (λ job place entries is next. merges_stays d job is (merged job (with_page r.said.keys job.merge entries))) body

    trim_in_stays : (job : Option CheckpointState) → r.control ≡ job → (body : StreamBody) → LeavesServed (trim_reply_in d r job body)
    trim_in_stays None is body = as_it_is
    trim_in_stays (Some job) is body = trim_told_stays d job is job.phase body

    trim_stays : (body : Body) → LeavesServed (trim_reply d r body)
    trim_stays (bodies.Stream body) = trim_in_stays r.control refl body
    trim_stays (bodies.Append body) = refused_stays body
    trim_stays body = as_it_is

    read_stays : (stage : Stage) → is_serving stage ≡ true → (bytes : List ℕ) → LeavesServed (index_read d r stage bytes)
    read_stays stages.Serving e bytes = as_it_is
    read_stays stages.Opening e bytes = absurd cc
    read_stays (stages.Checking kind) e bytes = absurd cc
    read_stays (stages.Reading kind position) e bytes = absurd cc
    read_stays (stages.Indexing position) e bytes = absurd cc
    read_stays stages.Confirming e bytes = absurd cc

    bytes_stays : (w : ReqNo) (body : ReadBody) → LeavesServed (bytes_reply d r w body)
    bytes_stays w (reads.Bytes v e offset bytes) =
        if_elim LeavesServed (are_no_page (read_at r.gets w) bytes) (answers d r []) (bytes_come d r w (place_of e offset bytes) bytes) (λ t. as_it_is) (λ f. same_served _ refl refl refl refl refl refl refl)
    bytes_stays w body = as_it_is

    gets_stays : (w : ReqNo) (body : Body) → LeavesServed (gets_reply d r w body)
    gets_stays w (bodies.Read body) = bytes_stays w body
    gets_stays w (bodies.Append body) = refused_stays body
    gets_stays w body = as_it_is

    answer_stays : r.load.phase ≡ load_phases.Confirmed → (w : ReqNo) (body : Body) → LeavesServed (answer_rule d r w body)
    answer_stays confirmed w body =
        by (load_awaits r.load.phase w) (awaits r.metadata.job w) (awaits r.log.job w) (awaits r.rows.job w) (reads_under r.reading w) (reads_page r.reading) (trim_awaits r.control w) (ap (λ p. load_awaits p w) confirmed)
      where
        by : (a b c e f p g : Bool) → a ≡ false →
            LeavesServed (if a then load_reply d r body else if b then metadata_reply d r body else if c then log_reply d r body
            else if e then rows_reply d r body else if f then (if p then page_reply d r body else index_reply d r body) else if g then trim_reply d r body else gets_reply d r w body)
        by true b c e f p g x = absurd cc
        by false true c e f p g x = metadata_stays body
        by false false true e f p g x = log_stays body
        by false false false true f p g x = rows_stays body
        by false false false false true true g x = page_stays body
        by false false false false true false g x = index_reply_elim LeavesServed d r as_it_is tt (λ bytes. read_stays r.stage serving bytes) body
        by false false false false false p true x = trim_stays body
        by false false false false false p false x = gets_stays w body

  pub given_up_stays : (d : ServerContext) → LeavesServed (give_up_all d r)
  given_up_stays d = same_served _ refl refl refl refl refl refl refl

  pub renewed_stays : (until : ℕ) → StaysServed r (record r { until = until })
  renewed_stays until = same_served _ refl refl refl refl refl refl refl

  -- a rule that begins no checkpoint
  pub rule_stays : r.load.phase ≡ load_phases.Confirmed → (actions : List StreamAction) (o : RangeOutcome) (rule : IsRule r actions o) → IsCalm rule → LeavesServed o
  rule_stays confirmed actions o (Transacts d from q changes) calm = transact_stays d from q changes (transact_fault d r changes) refl
  rule_stays confirmed actions o (Answers d w body) calm = answer_stays d confirmed w body
  rule_stays confirmed actions o (Gets d from q key) calm = get_stays d from q key (get_fault d r key)
  rule_stays confirmed actions o (Yields d) calm = given_up_stays d
  rule_stays confirmed actions o (Checkpoints d combine may) calm = absurd calm
  rule_stays confirmed actions o (Renews until count) calm = renewed_stays until

  -- ---- a checkpoint begins

  fixed_goes : (d : ServerContext) (s : RangeState) → IsServedOn r s → (x : CheckpointState × Option Group) → IsServedOnIf r (rows_go d s x).after
  fixed_goes d s on (job, None) = record { load = on.load; stage = on.stage; keys = on.keys }
  fixed_goes d s on (job, Some group) = record { load = on.load; stage = on.stage; keys = on.keys }

  pub begins_serves : (d : ServerContext) (combine : Bool) → IsServedOnIf r (begins d r combine).after
  begins_serves d combine =
      if_elim (λ (o : RangeOutcome). IsServedOnIf r o.after) (combines combine r.indexes) _ _
      (λ t. merges_elim (λ (o : RangeOutcome). IsServedOnIf r o.after) d (with_fixed r) (new_combining_job r) (record { load = refl; stage = refl; keys = refl }) (λ merge. record { load = refl; stage = refl; keys = refl })
      (λ merge place places asked told. record { load = refl; stage = refl; keys = refl })
      (λ merge newer all fixed. (let last : CheckpointState = combined_job (merged (new_combining_job r) merge) newer in fixed_goes d (unread (with_fixed r)) (record { load = refl; stage = refl; keys = refl }) (next_append last (next_group last.pages)))))
      (λ f. fixed_goes d (with_fixed r) (record { load = refl; stage = refl; keys = refl }) (next_append (new_job r) (next_group (new_job r).pages)))
