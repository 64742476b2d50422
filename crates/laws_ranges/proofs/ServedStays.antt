-- A range that is served stays so through each of its rules, if it is not dropped; and where no checkpoint is under way none begins.
use Rattle.std.proofs.Common.{◌≡◌, ℕ, ◌+◌, ◌-◌, ◌≤◌, ◌^◌, nat_lt, Bool, true, false, not, ◌&&◌, List, [], ◌∷◌, ◌++◌, length, flat_map, Option, Some, None, is_some, option_to_list, refl, sym, ap, ◌∙◌, subst, if◌then◌else◌}
use Rattle.wire.specs.declared.actor.ActorId.{ActorId}
use Rattle.wire.specs.declared.actor.ReqNo.{ReqNo}
use Rattle.wire.specs.declared.body.AppendBody.{AppendBody}
use Rattle.wire.specs.declared.body.AppendBody.TheVariants as appends
use Rattle.wire.specs.declared.body.Body.{Body}
use Rattle.wire.specs.declared.body.Body.TheVariants as bodies
use Rattle.wire.specs.declared.body.StreamBody.{StreamBody}
use Rattle.wire.specs.declared.body.StreamBody.TheVariants as streams
use Rattle.wire.specs.declared.packet.Packet.{Packet}
use Rattle.wire.specs.declared.refusal.Refusal.{Refusal}
use Rattle.wire.specs.declared.refusal.Refusal.TheVariants as refusals
use Rattle.wire.specs.declared.transaction.Change.{Change}
use Rattle.commitlog.specs.Places.{kept}
use Rattle.memtable.specs.declared.cell.Place.{Place}
use Rattle.memtable.specs.Entries.{put_all}
use Rattle.client.specs.declared.load.LoadPhase.TheVariants as loads
use Rattle.client.specs.declared.job.News.{News}
use Rattle.client.specs.declared.job.News.TheVariants as news
use Rattle.client.specs.Client.{Outcome, awaits, reply_rule}
use Rattle.client.specs.Load.{load_awaits}
use Rattle.checkpoint.specs.Merges.{with_page}
use Rattle.model_streams.proofs.Tests.{if_elim}
use Rattle.model_streams.specs.StreamSystem.{StreamSystem}
use Rattle.model_partition.specs.CheckpointStates.{CheckpointState}
use Rattle.model_partition.specs.declared.checkpoint_job.CheckpointPhase.{CheckpointPhase}
use Rattle.model_partition.specs.declared.checkpoint_job.CheckpointPhase.TheVariants as checkpoints
use Rattle.model_partition.specs.declared.server_context.ServerContext.{ServerContext}
use Rattle.model_partition.specs.declared.stage.Stage.TheVariants as stages
use Rattle.model_partition.specs.declared.waiting.WaitingGet.{WaitingGet}
use Rattle.model_partition.specs.Range.{OutGroup, RangeState, RangeOutcome, request, picking, is_serving}
use Rattle.model_partition.specs.PlaceReads.{reads_under, reads_page}
use Rattle.model_partition.specs.Loading.{metadata_news, log_news, index_read}
use Rattle.model_partition.specs.Serving.{record_of, out_size, group_count, forms, transact_fault, transacts, transact_rule, log_done}
use Rattle.model_partition.specs.Getting.{get_rule}
use Rattle.model_partition.specs.Checkpoints.{has_record_number, may_record, merges, pages_stand, rows_stand, rows_told, rows_may_stand, rows_reply, record_stands, record_told, trim_awaits, trim_told, trim_reply_in}
use Rattle.model_partition.specs.Answering.{groups_of, load_reply, load_refused, metadata_reply, serving_news, is_taken, log_reply, index_reply, page_reply, trim_reply, gets_reply, answer_rule, give_up_all}
use Rattle.model_partition.specs.declared.table_note.TableNote.{TableNote}
use Rattle.laws_loads.proofs.IndexAnswers.{index_reply_elim}
use Rattle.laws_loads.proofs.PageAnswers.{merged, page_reply_elim}
use Rattle.laws_ranges.specs.Serves.{Side, AreAsked, log_of}
use Rattle.laws_ranges.specs.SplitJobs.{ServedIf}
use Rattle.laws_ranges.proofs.Gets.{get_is, gets_reply_is}
use Rattle.laws_ranges.proofs.SplitBegins.{merges_served, writes_served}

-- it is served, and no checkpoint begins
abbrev pub StaysServed : RangeState → Option RangeState → Type 0
StaysServed r None = Unit {0}
StaysServed r (Some next) = (next.stage ≡ stages.Serving) × (r.control ≡ None → next.control ≡ None)

module _ (r : RangeState) (stage : r.stage ≡ stages.Serving) where
  abbrev pub Stays : RangeOutcome → Type 0
  Stays o = StaysServed r o.after

  abbrev StaysAs : RangeState → Type 0
  StaysAs s = (s.stage ≡ stages.Serving) × (r.control ≡ None → s.control ≡ None)

  -- while a checkpoint is under way
  under_way : (job : CheckpointState) → r.control ≡ Some job → (o : RangeOutcome) → ServedIf o.after → Stays o
  under_way job control o served = go o.after served
    where
      go : (x : Option RangeState) → ServedIf x → StaysServed r x
      go None s = tt
      go (Some z) s = (s, λ none. absurd (let e : None ≡ Some job = sym none ∙ control in cc))

  module _ (d : ServerContext) where
    forms_stay : (s : RangeState) → StaysAs s → Stays (forms d s)
    forms_stay s k = if_elim Stays (not (is_some s.out) && (nat_lt 0 (group_count d s) && nat_lt (s.next + group_count d s) (2 ^ 64))) _ _ (λ t. k) (λ f. k)

    transacts_stay : (from : ActorId) (q : ReqNo) (changes : List Change) (fault : Option Refusal) → Stays (transacts d r from q changes fault)
    transacts_stay from q changes (Some refusal) = (stage, λ none. none)
    transacts_stay from q changes None = forms_stay (record r { queue = r.queue ++ record { from = from; request = q; changes = changes } ∷ [] }) (stage, λ none. none)

    pub transact_stays : (from : ActorId) (q : ReqNo) (changes : List Change) → Stays (transact_rule d r from q changes)
    transact_stays from q changes = transacts_stay from q changes (transact_fault d r changes)

    pub give_up_stays : Stays (give_up_all d r)
    give_up_stays = (stage, λ none. none)

    -- ---- answers

    refused_stays : (body : AppendBody) → Stays (load_refused d r body)
    refused_stays (appends.Refused w refusals.Stale) = tt
    refused_stays body = (stage, λ none. none)

    stands_stay : (s : RangeState) → s.stage ≡ stages.Serving → (job : CheckpointState) (phase : CheckpointPhase) → ServedIf (record_stands d s job phase).after
    stands_stay s served job (checkpoints.Record index) = if_elim {A = RangeOutcome} (λ o. ServedIf o.after) (has_record_number s) _ _ (λ t. served) (λ f. served)
    stands_stay s served job phase = served

    record_stays : (s : RangeState) → StaysAs s → (control : Option CheckpointState) → r.control ≡ control → (told : Option News) (packets : List Packet) → Stays (record_told d s control told packets)
    record_stays s k control e (Some news.Fenced) packets = tt
    record_stays s k (Some job) e (Some (news.Appended x offset)) packets = under_way job e (record_stands d s job job.phase) (stands_stay s k.0 job job.phase)
    record_stays s k control e told packets = k

    metadata_stays : (body : Body) → Stays (metadata_reply d r body)
    metadata_stays body =
        subst (λ z. Stays (if is_serving z then record_told d now r.control o.news (option_to_list o.packet) else metadata_news d now (groups_of body) z o.news (option_to_list o.packet))) (sym stage)
        (record_stays now (stage, λ none. none) r.control refl o.news (option_to_list o.packet))
      where
        o : Outcome
        o = reply_rule (picking d r.metadata) (request d) body

        now : RangeState
        now = record r { metadata = o.after }

    done_stays : (s : RangeState) → StaysAs s → (out : Option OutGroup) (extent offset : ℕ) → Stays (log_done d s out extent offset)
    done_stays s k None extent offset = k
    done_stays s k (Some out) extent offset =
        forms_stay
        (record s {
          live = put_all s.live (flat_map (λ changes. changes) (kept (record_of out.first out.transactions) extent offset));
          position = record { index = (s.log.base + length s.log.extents) - 1; offset = offset + out_size out };
          out = None;
        })
        k

    news_stay : (s : RangeState) → StaysAs s → (told : Option News) (packets : List Packet) → Stays (serving_news d s told packets)
    news_stay s k None packets = k
    news_stay s k (Some news.Fenced) packets = tt
    news_stay s k (Some (news.Appended e offset)) packets = done_stays s k s.out e offset
    news_stay s k (Some (news.Checked e n)) packets = k
    news_stay s k (Some (news.Sealed e n)) packets = k
    news_stay s k (Some (news.Content e upto)) packets = k

    log_stays : (body : Body) → Stays (log_reply d r body)
    log_stays body =
        if_elim Stays (is_taken r body) _ _
        (λ t. subst (λ z. Stays (if is_serving z then serving_news d now o.news (option_to_list o.packet) else log_news d now (groups_of body) z o.news (option_to_list o.packet))) (sym stage)
        (news_stay now (stage, λ none. none) o.news (option_to_list o.packet)))
        (λ f. (stage, λ none. none))
      where
        o : Outcome
        o = reply_rule (picking d r.log) (request d) body

        now : RangeState
        now = record r { log = o.after }

    stand_stays : (s : RangeState) → s.stage ≡ stages.Serving → (job : CheckpointState) (phase : CheckpointPhase) (extent offset : ℕ) → ServedIf (rows_stand d s job phase extent offset).after
    stand_stays s served job checkpoints.Pages extent offset = writes_served d s served (pages_stand job extent offset)
    stand_stays s served job checkpoints.Index extent offset = if_elim {A = RangeOutcome} (λ o. ServedIf o.after) (may_record s job) _ _ (λ t. served) (λ f. served)
    stand_stays s served job phase extent offset = served

    rows_told_stay : (s : RangeState) → StaysAs s → (control : Option CheckpointState) → r.control ≡ control → (told : Option News) (packets : List Packet) → Stays (rows_told d s control told packets)
    rows_told_stay s k control e (Some news.Fenced) packets = tt
    rows_told_stay s k (Some job) e (Some (news.Appended x offset)) packets =
        if_elim Stays (nat_lt x (2 ^ 64)) _ _ (λ t. under_way job e (rows_stand d s job job.phase x offset) (stand_stays s k.0 job job.phase x offset)) (λ f. k)
    rows_told_stay s k control e told packets = k

    rows_stay : (body : Body) → Stays (rows_reply d r body)
    rows_stay body =
        let o : Outcome = reply_rule (picking d r.rows) (request d) body in
        if_elim Stays (rows_may_stand r.control body) _ _ (λ t. rows_told_stay (record r { rows = o.after }) (stage, λ none. none) r.control refl o.news (option_to_list o.packet)) (λ f. (stage, λ none. none))

    page_stays : (body : Body) → Stays (page_reply d r body)
    page_stays body =
        page_reply_elim Stays d r (stage, λ none. none) tt (λ job place entries control next.
        (let later : CheckpointState = merged job (with_page r.said.keys job.merge entries) in under_way job control (merges d r later) (merges_served d r stage later))) body

    index_stays : (body : Body) → Stays (index_reply d r body)
    index_stays body = index_reply_elim Stays d r (stage, λ none. none) tt (λ bytes. subst (λ z. Stays (index_read d r z bytes)) (sym stage) (stage, λ none. none)) body

    told_stays : (phase : CheckpointPhase) (body : StreamBody) → Stays (trim_told d r phase body)
    told_stays (checkpoints.Trim before to_blob q) (streams.Trimmed u) = (stage, λ none. refl)
    told_stays phase body = (stage, λ none. none)

    trim_stays_in : (control : Option CheckpointState) (body : StreamBody) → Stays (trim_reply_in d r control body)
    trim_stays_in None body = (stage, λ none. none)
    trim_stays_in (Some job) body = told_stays job.phase body

    trim_stays : (body : Body) → Stays (trim_reply d r body)
    trim_stays (bodies.Stream body) = trim_stays_in r.control body
    trim_stays (bodies.Append body) = refused_stays body
    trim_stays body = (stage, λ none. none)

    module _ (generation : ℕ → ℕ) (range : ℕ) (w : StreamSystem) (i : ℕ) (l : Side) where
      still : (gets : List WaitingGet) (held : List (Place × List ℕ)) (count : ℕ) (packets : List Packet) (notes : List TableNote) → d.count ≤ count → AreAsked generation range w i (log_of range) l.stand l.sent packets →
          Stays (record { after = Some (record r { gets = gets; held = held }); count = count; packets = packets; notes = notes })
      still gets held count packets notes more asked = (stage, λ none. none)

      pub get_stays : (from : ActorId) (q : ReqNo) (key : List ℕ) → Stays (get_rule d r from q key)
      get_stays from q key = get_is generation range w i l d r Stays still tt from q key

      gets_stay : (q : ReqNo) (body : Body) → Stays (gets_reply d r q body)
      gets_stay q body = gets_reply_is generation range w i l d r Stays still tt q body

      pub answer_stays : r.load.phase ≡ loads.Confirmed → (u : ReqNo) (body : Body) → Stays (answer_rule d r u body)
      answer_stays confirmed u body =
          by (load_awaits r.load.phase u) (awaits r.metadata.job u) (awaits r.log.job u) (awaits r.rows.job u) (reads_under r.reading u) (reads_page r.reading) (trim_awaits r.control u) (ap (λ p. load_awaits p u) confirmed)
        where
          by : (a b c e f p g : Bool) → a ≡ false →
              Stays (if a then load_reply d r body else if b then metadata_reply d r body else if c then log_reply d r body
              else if e then rows_reply d r body else if f then (if p then page_reply d r body else index_reply d r body) else if g then trim_reply d r body else gets_reply d r u body)
          by true b c e f p g x = absurd cc
          by false true c e f p g x = metadata_stays body
          by false false true e f p g x = log_stays body
          by false false false true f p g x = rows_stay body
          by false false false false true true g x = page_stays body
          by false false false false true false g x = index_stays body
          by false false false false false p true x = trim_stays body
          by false false false false false p false x = gets_stay u body
