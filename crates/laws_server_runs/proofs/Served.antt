-- What a range that is served does with transactions and with answers to its log keeps all that is kept.
use Rattle.std.proofs.Common.{◌≡◌, ℕ, ◌+◌, ◌^◌, ◌&&◌, Bool, true, false, not, nat_lt, List, [], ◌∷◌, ◌++◌, length, map, Option, Some, None, is_some, option_to_list, if◌then◌else◌, refl, sym, ◌∙◌, subst, inl, arith}
use Rattle.block_types.specs.declared.record.Nodes.{Nodes}
use Rattle.wire.specs.declared.actor.ActorId.{ActorId}
use Rattle.wire.specs.declared.actor.ReqNo.{ReqNo}
use Rattle.wire.specs.declared.body.AppendBody.{AppendBody}
use Rattle.wire.specs.declared.body.AppendBody.TheVariants as appends
use Rattle.wire.specs.declared.body.CheckBody.{CheckBody}
use Rattle.wire.specs.declared.body.CheckBody.TheVariants as checks
use Rattle.wire.specs.declared.body.SealBody.{SealBody}
use Rattle.wire.specs.declared.body.SealBody.TheVariants as seals
use Rattle.wire.specs.declared.body.ReadBody.{ReadBody}
use Rattle.wire.specs.declared.body.ReadBody.TheVariants as reads
use Rattle.wire.specs.declared.body.StreamBody.{StreamBody}
use Rattle.wire.specs.declared.body.StreamBody.TheVariants as streams
use Rattle.wire.specs.declared.body.Body.{Body}
use Rattle.wire.specs.declared.body.Body.TheVariants as bodies
use Rattle.wire.specs.declared.packet.Packet.{Packet}
use Rattle.wire.specs.declared.refusal.Refusal.{Refusal}
use Rattle.wire.specs.declared.refusal.Refusal.TheVariants as refusals
use Rattle.wire.specs.declared.streams.StreamKind.TheVariants as kinds
use Rattle.wire.specs.declared.transaction.Change.{Change}
use Rattle.client.specs.declared.job.Job.{Job}
use Rattle.client.specs.declared.job.Job.TheVariants as jobs
use Rattle.client.specs.declared.job.News.{News}
use Rattle.client.specs.declared.job.News.TheVariants as news
use Rattle.client.specs.Client.{ClientState, Outcome, waits, awaits, if_awaited, fenced_if, append_refused, refused_job, appended_job, checked_job, sealed_job, groups_job, extended_job, append_reply, check_reply, seal_reply, read_reply, stream_reply, reply_rule}
use Rattle.model_streams.proofs.Tests.{if_elim}
use Rattle.model_partition.specs.declared.server_context.ServerContext.{ServerContext}
use Rattle.model_partition.specs.Past.{Bytes}
use Rattle.model_partition.specs.Range.{OutGroup, RangeState, RangeOutcome, request, goes, answers, dropped, picking, if_there, is_serving}
use Rattle.model_partition.specs.Loading.{log_news}
use Rattle.model_partition.specs.Serving.{group_count, appends as appending, forms, transact_fault, transacts, transact_rule, committed, applies, log_done}
use Rattle.model_partition.specs.Answering.{groups_of, is_taken, serving_news, log_taken, log_reply}
use Rattle.model_histories.specs.StreamActions.{StreamAction, Forms, Stands, group_of, formed, transact_actions, last_position, stood, serving_actions, loading_actions, log_actions}
use Rattle.laws_loads.specs.Sound.{IsSound, OutFits}
use Rattle.laws_loads.proofs.WaitingIsSound.{is_next, pushed_sound, taken_served}
use Rattle.laws_loads.specs.RangeView.{RangeView}
use Rattle.laws_tables.specs.Runs.{Run}
use Rattle.laws_server_runs.specs.RangeInvariant.{Serves, RangeKept, StreamsKept, StepKept}
use Rattle.laws_server_runs.proofs.Loads.{calm_kept}
use Rattle.laws_server_runs.proofs.ServedNotes.{serves_of, kept_served, serves_with, then_kept}
use Rattle.laws_server_runs.proofs.ServedForms.{forms_kept}
use Rattle.laws_server_runs.proofs.ServedStands.{stood_view, stood_range, stood_outcome, stands_kept}

-- ---- the log's client

-- where an append ends, the client knows the same extents as before
abbrev EndsAsBefore : ℕ → ℕ → ClientState → Option News → Type 0
EndsAsBefore base count c (Some (news.Appended e offset)) = (c.base ≡ base) × (length c.extents ≡ count)
EndsAsBefore base count c told = Unit {0}

module _ (q : ReqNo) (c : ClientState) where
  abbrev Ends : Outcome → Type 0
  Ends o = EndsAsBefore c.base (length c.extents) o.after o.news

  awaited_ends : (w : ReqNo) (o : Outcome) → Ends o → Ends (if_awaited c w o)
  awaited_ends w o e = if_elim Ends (awaits c.job w) o (waits c) (λ t. e) (λ f. tt)

  fenced_ends : (why : Refusal) → Ends (fenced_if c why)
  fenced_ends refusals.Stale = tt
  fenced_ends why = tt

  refused_ends : (e : ℕ) (why : Refusal) → Ends (append_refused c q e why)
  refused_ends e refusals.NotOpen = tt
  refused_ends e refusals.ExtentFull = tt
  refused_ends e why = fenced_ends why

  refused_job_ends : (why : Refusal) (j : Job) → Ends (refused_job c q why j)
  refused_job_ends why (jobs.Sent e w) = refused_ends e why
  refused_job_ends why j = fenced_ends why

  appended_ends : (offset : ℕ) (j : Job) → Ends (appended_job c offset j)
  appended_ends offset (jobs.Sent e w) = (refl, refl)
  appended_ends offset j = tt

  checked_ends : (found : Option ℕ) (j : Job) → Ends (checked_job c q found j)
  checked_ends (Some found) (jobs.Checking e w) = tt
  checked_ends None (jobs.Checking e w) = tt
  checked_ends found j = tt

  sealed_ends : (sealed : ℕ) (j : Job) → Ends (sealed_job c q sealed j)
  sealed_ends sealed (jobs.Closing e w) = tt
  sealed_ends sealed (jobs.Shutting e w) = tt
  sealed_ends sealed j = tt

  groups_ends : (j : Job) → Ends (groups_job c j)
  groups_ends (jobs.Reading e places upto sealed place w) = tt
  groups_ends j = tt

  extended_ends : (e : ℕ) (places : Nodes) (j : Job) → Ends (extended_job c q e places j)
  extended_ends e places (jobs.Growing last w) = tt
  extended_ends e places j = tt

  append_ends : (body : AppendBody) → Ends (append_reply c q body)
  append_ends (appends.Appended w e offset) = awaited_ends w (appended_job c offset c.job) (appended_ends offset c.job)
  append_ends (appends.Refused w refusal) = awaited_ends w (refused_job c q refusal c.job) (refused_job_ends refusal c.job)
  append_ends body = tt

  check_ends : (body : CheckBody) → Ends (check_reply c q body)
  check_ends (checks.Checked w found) = awaited_ends w (checked_job c q found c.job) (checked_ends found c.job)
  check_ends body = tt

  seal_ends : (body : SealBody) → Ends (seal_reply c q body)
  seal_ends (seals.SealedIs w e sealed) = awaited_ends w (sealed_job c q sealed c.job) (sealed_ends sealed c.job)
  seal_ends body = tt

  read_ends : (body : ReadBody) → Ends (read_reply c body)
  read_ends (reads.Groups w e groups) = awaited_ends w (groups_job c c.job) (groups_ends c.job)
  read_ends body = tt

  stream_ends : (body : StreamBody) → Ends (stream_reply c q body)
  stream_ends (streams.Extended w e places) = awaited_ends w (extended_job c q e places c.job) (extended_ends e places c.job)
  stream_ends body = tt

  pub reply_ends : (body : Body) → Ends (reply_rule c q body)
  reply_ends (bodies.Append body) = append_ends body
  reply_ends (bodies.Check body) = check_ends body
  reply_ends (bodies.Seal body) = seal_ends body
  reply_ends (bodies.Read body) = read_ends body
  reply_ends (bodies.Stream body) = stream_ends body
  reply_ends body = tt

-- a group is formed or not, and the range is there
there_after : (d : ServerContext) (r : RangeState) → is_some (forms d r).after ≡ true
there_after d r =
    if_elim (λ (o : RangeOutcome). is_some o.after ≡ true) (not (is_some r.out) && (nat_lt 0 (group_count d r) && nat_lt (r.next + group_count d r) (2 ^ 64)))
    (appending d r (group_count d r)) (goes d r [] []) (λ t. refl) (λ f. refl)

module _ (texts : ℕ → Bytes) (subject : ℕ) (run : Run) (v : RangeView) (r : RangeState) (kept : RangeKept texts subject run v r) (kept_streams : StreamsKept texts run v) (d : ServerContext) where
  -- ---- a transaction

  -- what is out is no new group
  no_group : (x : Option OutGroup) → (if is_some x then [] else map (λ out. Forms kinds.Log (group_of out)) (if_there x)) ≡ []
  no_group None = refl
  no_group (Some out) = refl

  module _ (from : ActorId) (q : ReqNo) (changes : List Change) where
    abbrev pushed : RangeState
    pushed = record r { queue = r.queue ++ record { from = from; request = q; changes = changes } ∷ [] }

    pushed_serves : is_serving r.stage ≡ true → Serves texts run v pushed
    pushed_serves serving = serves_with texts subject run v r r.log (r.queue ++ record { from = from; request = q; changes = changes } ∷ []) (serves_of texts subject run v r serving kept)

    pushed_kept : transact_fault d r changes ≡ None → RangeKept texts subject run v pushed
    pushed_kept e =
        let serving : is_serving r.stage ≡ true = taken_served d r changes e in
        kept_served texts subject run run v v r pushed kept serving refl refl refl (pushed_sound d r from q changes e kept.sound) (pushed_serves serving)

    -- it goes to the queue, and a group is formed where none is out
    taken_kept : (x : Option OutGroup) → r.out ≡ x → transact_fault d r changes ≡ None → StepKept texts subject run v r (if is_some x then [] else formed (forms d pushed).after) (forms d pushed)
    taken_kept None none e =
        let serving : is_serving r.stage ≡ true = taken_served d r changes e in
        let s : StepKept texts subject run v pushed (formed (forms d pushed).after) (forms d pushed) =
        forms_kept texts subject run v pushed d (pushed_kept e) kept_streams serving (pushed_serves serving) none in
        record { next = s.next; goes = s.goes; alone = s.alone; kept = s.kept; streams = s.streams; longer = s.longer; anew = s.anew; seen = s.seen }
    taken_kept (Some out) there e =
        if_elim (λ (o : RangeOutcome). StepKept texts subject run v r [] o) (not (is_some pushed.out) && (nat_lt 0 (group_count d pushed) && nat_lt (pushed.next + group_count d pushed) (2 ^ 64)))
        (appending d pushed (group_count d pushed)) (goes d pushed [] [])
        (λ t. absurd (let z : Some out ≡ None = sym there ∙ (is_next d pushed (pushed_sound d r from q changes e kept.sound) t).none in cc))
        (λ f. calm_kept texts subject run v r (goes d pushed [] []) kept_streams refl (pushed_kept e, refl) (λ s. inl s))

    by_fault : (fault : Option Refusal) → transact_fault d r changes ≡ fault → StepKept texts subject run v r (transact_actions r (transacts d r from q changes fault)) (transacts d r from q changes fault)
    by_fault (Some refusal) e =
        subst (λ (actions : List StreamAction). StepKept texts subject run v r actions (transacts d r from q changes (Some refusal))) (sym (no_group r.out))
        (calm_kept texts subject run v r (transacts d r from q changes (Some refusal)) kept_streams refl (kept, refl) (λ s. inl s))
    by_fault None e = taken_kept r.out refl e

  -- a transaction
  pub transact_kept : (from : ActorId) (q : ReqNo) (changes : List Change) → StepKept texts subject run v r (transact_actions r (transact_rule d r from q changes)) (transact_rule d r from q changes)
  transact_kept from q changes = by_fault from q changes (transact_fault d r changes) refl

  -- ---- an answer to the log

  module _ (serving : is_serving r.stage ≡ true) (c : ClientState) where
    abbrev now : RangeState
    now = record r { log = c }

    now_kept : RangeKept texts subject run v now
    now_kept = kept_served texts subject run run v v r now kept serving refl refl refl kept.sound (serves_with texts subject run v r c r.queue (serves_of texts subject run v r serving kept))

    -- news that tell nothing of the group
    still_kept : (packets : List Packet) → StepKept texts subject run v r [] (goes d now packets [])
    still_kept packets = calm_kept texts subject run v r (goes d now packets []) kept_streams refl (now_kept, refl) (λ s. inl s)

    -- the group that is out stands, and the next one is formed
    applied_kept : (out : OutGroup) → r.out ≡ Some out → (c.base ≡ r.log.base) → (length c.extents ≡ length r.log.extents) → (e offset : ℕ) →
        StepKept texts subject run v r (if is_some (applies d now out e offset).after then stood r (Some out) e offset (applies d now out e offset) else []) (applies d now out e offset)
    applied_kept out there based counted e offset =
        let k : Serves texts run v r = serves_of texts subject run v r serving kept in
        let fits : OutFits (Some out) = subst OutFits there kept.sound.out_fits in
        let after : RangeState = stood_range texts subject run v r k out there fits c based counted e offset in
        let seen : RangeView = stood_view texts subject run v r k out there fits c based counted e offset in
        let sound : IsSound after = record { queue_fits = kept.sound.queue_fits; out_fits = tt; counted = omega (arith, kept.sound.counted); numbered = kept.sound.numbered } in
        let stands : StepKept texts subject run v r (Stands kinds.Log e (last_position r.log offset) (group_of out) ∷ []) (stood_outcome texts subject run v r k out there fits c based counted e offset) =
        stands_kept texts subject run v r k out there fits c based counted e offset kept kept_streams serving sound in
        let forming : StepKept texts subject stands.next seen after (formed (forms d after).after) (forms d after) =
        forms_kept texts subject stands.next seen after d stands.kept.0 stands.streams serving (serves_of texts subject stands.next seen after serving stands.kept.0) refl in
        let both : StepKept texts subject run v r (formed (forms d after).after ++ Stands kinds.Log e (last_position r.log offset) (group_of out) ∷ []) (applies d now out e offset) =
        then_kept texts subject run v r after (Stands kinds.Log e (last_position r.log offset) (group_of out) ∷ []) (formed (forms d after).after) (committed d out.first out.transactions)
        (stood_outcome texts subject run v r k out there fits c based counted e offset) (forms d after) serving refl stands forming in
        subst
        (λ b. StepKept texts subject run v r (if b then formed (forms d after).after ++ Stands kinds.Log e (last_position r.log offset) (group_of out) ∷ [] else []) (applies d now out e offset))
        (sym (there_after d after)) both

    done_kept : (x : Option OutGroup) → r.out ≡ x → (c.base ≡ r.log.base) → (length c.extents ≡ length r.log.extents) → (e offset : ℕ) →
        StepKept texts subject run v r (if is_some (log_done d now x e offset).after then stood r x e offset (log_done d now x e offset) else []) (log_done d now x e offset)
    done_kept None none based counted e offset = still_kept []
    done_kept (Some out) there based counted e offset = applied_kept out there based counted e offset

    news_kept : (told : Option News) (packets : List Packet) → EndsAsBefore r.log.base (length r.log.extents) c told →
        StepKept texts subject run v r (if is_some (serving_news d now told packets).after then serving_actions r told (serving_news d now told packets) else []) (serving_news d now told packets)
    news_kept (Some news.Fenced) packets ends = calm_kept texts subject run v r (dropped d now) kept_streams refl tt tt
    news_kept (Some (news.Appended e offset)) packets ends = done_kept r.out refl ends.0 ends.1 e offset
    news_kept told packets ends = still_kept packets

  module _ (serving : is_serving r.stage ≡ true) (body : Body) where
    abbrev answer : Outcome
    answer = reply_rule (picking d r.log) (request d) body

    abbrev with_answer : RangeState
    with_answer = record r { log = answer.after }

    abbrev at_stage : Bool → RangeOutcome
    at_stage b =
        if b then serving_news d with_answer answer.news (option_to_list answer.packet)
        else log_news d with_answer (groups_of body) r.stage answer.news (option_to_list answer.packet)

    by_stage : (b : Bool) → b ≡ true →
        StepKept texts subject run v r
        (if is_some (at_stage b).after
        then (if b then serving_actions r answer.news (at_stage b) else loading_actions kinds.Log r.log r.stage (groups_of body) answer.news)
        else [])
        (at_stage b)
    by_stage true e =
        news_kept serving answer.after answer.news (option_to_list answer.packet) (reply_ends (request d) (picking d r.log) body)
    by_stage false e = absurd cc

    abbrev if_taken : Bool → RangeOutcome
    if_taken b = if b then log_taken d r body else answers d r []

    by_place : (b : Bool) → StepKept texts subject run v r (if is_some (if_taken b).after then (if b then log_actions d r body (if_taken b) else []) else []) (if_taken b)
    by_place true = by_stage (is_serving r.stage) serving
    by_place false = calm_kept texts subject run v r (answers d r []) kept_streams refl (kept, refl) (λ s. inl s)

  -- an answer to the log
  pub log_serving_kept : is_serving r.stage ≡ true → (w : ReqNo) (body : Body) → awaits r.log.job w ≡ true →
      StepKept texts subject run v r (if is_some (log_reply d r body).after then (if is_taken r body then log_actions d r body (log_reply d r body) else []) else []) (log_reply d r body)
  log_serving_kept serving w body awaited = by_place serving body (is_taken r body)
