-- What the rules of a range that is served do to its log is turns of its incarnation.
use Rattle.std.proofs.Common.{◌≡◌, ◌⊎◌, ⊎_elim, ℕ, suc, ◌+◌, ◌-◌, ◌^◌, List, [], ◌∷◌, ◌++◌, length, map, take, flat_map, Bool, true, false, not, ◌&&◌, nat_lt, Option, Some, None, is_some, option_to_list, refl, sym, ap, ◌∙◌, subst, inl, inr, if◌then◌else◌}
use Rattle.wire.specs.declared.actor.ActorId.{ActorId}
use Rattle.wire.specs.declared.actor.ReqNo.{ReqNo}
use Rattle.wire.specs.declared.body.Body.{Body}
use Rattle.wire.specs.declared.packet.Packet.{Packet}
use Rattle.wire.specs.declared.refusal.Refusal.{Refusal}
use Rattle.wire.specs.declared.refusal.Refusal.TheVariants as refusals
use Rattle.wire.specs.declared.transaction.Change.{Change}
use Rattle.wire.specs.declared.streams.StreamKind.TheVariants as kinds
use Rattle.wire.specs.declared.streams.StreamName.{StreamName}
use Rattle.block_types.specs.Limits.{group_size}
use Rattle.replica.specs.Groups.{Group}
use Rattle.client.specs.declared.job.Job.{Job}
use Rattle.client.specs.declared.job.Job.TheVariants as jobs
use Rattle.client.specs.declared.job.News.{News}
use Rattle.client.specs.declared.job.News.TheVariants as news
use Rattle.client.specs.Client.{ClientState, Outcome, last_extent, append_at, reply_rule}
use Rattle.commitlog.specs.Record.{spelling}
use Rattle.model_streams.specs.StreamSystem.{StreamSystem}
use Rattle.model_partition.specs.declared.server_context.ServerContext.{ServerContext}
use Rattle.model_partition.specs.declared.stage.Stage.{Stage}
use Rattle.model_partition.specs.declared.table_note.TableNote.{TableNote}
use Rattle.model_partition.specs.declared.waiting.WaitingGet.{WaitingGet}
use Rattle.model_partition.specs.declared.waiting.WaitingTransaction.{WaitingTransaction}
use Rattle.model_partition.specs.Range.{OutGroup, RangeState, RangeOutcome, request, refuses, goes, answers, picking, if_there, waiting_out, is_serving}
use Rattle.model_partition.specs.Serving.{record_of, group_count, dones, appends, forms, transact_fault, transacts, transact_rule, committed, after_these, applies, log_done, out_size}
use Rattle.commitlog.specs.Places.{kept}
use Rattle.memtable.specs.Entries.{put_all}
use Rattle.model_partition.specs.Loading.{log_news}
use Rattle.model_partition.specs.Answering.{serving_news, log_taken, log_reply, is_taken, groups_of}
use Rattle.model_histories.specs.ServerTurns as turns
use Rattle.model_histories.specs.StreamActions as actions
use Rattle.model_histories.specs.StreamActions.{StreamAction}
use Rattle.laws_stream_machine.specs.Refinement.{Sent, purpose_of, Means}
use Rattle.laws_ranges.specs.Serves.{Stand, after_turns, AreTurns, group_in, known, is_live, IsTold, ServesBy, ServingIs, Listed, sent_with, IsAskedIf, Goes, ServesAfter, IsCounted, GroupIs, OutIs, log_of, AreAsked, ServesLog, ServesLogIf}
use Rattle.laws_ranges.specs.Seen.{AreOf, AreSeenOf, LogRule}
use Rattle.laws_loads.specs.RangeView.{RangeView, view_after_all}
use Rattle.laws_ranges.specs.Quiet.{AreQuiet, AreReads, IsSent, AppendsOnly, FormsOnly, MadeBy, OutStands}
use Rattle.laws_ranges.proofs.QuietTurns.{turns_after, turns_allowed}
use Rattle.laws_ranges.proofs.OneStory.{reads_of, joined_of, quiet_seen_of, joined_seen_of, forms_seen_of, stands_seen_of}
use Rattle.std.proofs.lemmas.Bool.{and_parts}
use Rattle.laws_loads.proofs.WaitingIsSound.{none_there}
use Rattle.laws_ranges.proofs.AppendJob.{GoesBy, picked_serving, append_goes}
use Rattle.laws_ranges.proofs.AppendReplies.{reply_goes}
use Rattle.laws_ranges.proofs.OutGroup.{sent_holds, reply_out, append_out, none_idle, OutAfter}

-- where none is formed
pub none_formed : (o : Option OutGroup) → AreReads (if is_some o then [] else map (λ out. actions.Forms kinds.Log (actions.group_of out)) (if_there o))
none_formed None = tt
none_formed (Some out) = tt

-- the actions of a step that leaves a range
actions_there : (o : Option RangeState) → (o ≡ None → ⊥) → (done : List StreamAction) → (if is_some o then done else []) ≡ done
actions_there None there done = absurd (there refl)
actions_there (Some r) there done = refl

-- what news of the log's client leads to, unless the range is dropped
abbrev told_actions : RangeState → Option News → RangeOutcome → List StreamAction
told_actions r told o = if is_some o.after then actions.serving_actions r told o else []

-- what an answer to the log leads to
abbrev taken_actions : ServerContext → RangeState → Body → RangeOutcome → List StreamAction
taken_actions d r body o = if is_some o.after then actions.log_actions d r body o else []

abbrev pub reply_actions : ServerContext → RangeState → Body → RangeOutcome → List StreamAction
reply_actions d r body o = if is_some o.after then (if is_taken r body then actions.log_actions d r body o else []) else []

-- the same in a stage
abbrev taken_at : ServerContext → RangeState → Body → Stage → RangeOutcome
taken_at d r body stage =
    if is_serving stage then serving_news d (record r { log = (reply_rule (picking d r.log) (request d) body).after }) (reply_rule (picking d r.log) (request d) body).news (option_to_list (reply_rule (picking d r.log) (request d) body).packet)
    else log_news d (record r { log = (reply_rule (picking d r.log) (request d) body).after }) (groups_of body) stage (reply_rule (picking d r.log) (request d) body).news (option_to_list (reply_rule (picking d r.log) (request d) body).packet)

abbrev actions_at : ServerContext → RangeState → Body → Stage → List StreamAction
actions_at d r body stage =
    if is_some (taken_at d r body stage).after then
    if is_serving stage then actions.serving_actions r (reply_rule (picking d r.log) (request d) body).news (taken_at d r body stage)
    else actions.loading_actions kinds.Log r.log stage (groups_of body) (reply_rule (picking d r.log) (request d) body).news
    else []

-- an append job that has sent its group is of the transactions that are out
out_stands : (generation : ℕ → ℕ) (name : StreamName) (w : StreamSystem) (i : ℕ) (x : Stand) (sent : List Sent) (c : ClientState) (j : Job) (out : Option OutGroup) → ServesBy generation name w i x sent c j →
    OutIs j c.group out → IsSent x.phase → OutStands x out
out_stands generation name w i x sent c j out b o s =
    let g : GroupIs s.group out = sent_holds generation name w i x sent c (λ group. GroupIs group out) (out ≡ None) j b o s in
    record { group = g.0; is = g.1; spelled = ap group_in s.is ∙ g.2 }

module _ (generation : ℕ → ℕ) (range : ℕ) (w : StreamSystem) (i : ℕ) where
  pub asked_both : (name : StreamName) (x : Stand) (sent : List Sent) (ps qs : List Packet) → AreAsked generation range w i name x sent ps → AreAsked generation range w i name x sent qs →
      AreAsked generation range w i name x sent (ps ++ qs)
  asked_both name x sent [] qs a b = b
  asked_both name x sent (p ∷ ps) qs a b = (a.0, asked_both name x sent ps qs a.1 b)

  pub asked_if : (name : StreamName) (x : Stand) (sent : List Sent) (o : Option Packet) → IsAskedIf generation name w i x sent o → AreAsked generation range w i name x sent (option_to_list o)
  asked_if name x sent None a = tt
  asked_if name x sent (Some p) a = (inr a, tt)

  -- what users are told is plain
  pub refused_plain : (name : StreamName) (x : Stand) (sent : List Sent) (d : ServerContext) (ts : List WaitingTransaction) (gs : List WaitingGet) (why : Refusal) →
      AreAsked generation range w i name x sent (map (λ t. refuses d t.from t.request why) ts ++ map (λ g. refuses d g.from g.request why) gs)
  refused_plain name x sent d [] [] why = tt
  refused_plain name x sent d [] (g ∷ gs) why = (inl (λ u n s m. tt), refused_plain name x sent d [] gs why)
  refused_plain name x sent d (t ∷ ts) gs why = (inl (λ u n s m. tt), refused_plain name x sent d ts gs why)

  committed_plain : (name : StreamName) (x : Stand) (sent : List Sent) (d : ServerContext) (s : ℕ) (ts : List WaitingTransaction) → AreAsked generation range w i name x sent (committed d s ts)
  committed_plain name x sent d s [] = tt
  committed_plain name x sent d s (t ∷ ts) = (inl (λ u n z m. tt), committed_plain name x sent d (suc s) ts)

  module _ (listed : Listed w (log_of range)) (d : ServerContext) where
    -- nothing is asked, and the range is served as before
    calm : (x : Stand) (sent : List Sent) (r : RangeState) → ServesLog generation range w i x sent r → (o : RangeOutcome) → o.after ≡ Some r → (o.count ≡ suc d.count) ⊎ (o.count ≡ d.count) →
        AreAsked generation range w i (log_of range) x sent o.packets → (done : List StreamAction) → AreReads done → LogRule generation range w i x sent d o done
    calm x sent r b o e counts asked done quiet =
        record {
          list = [];
          allowed = tt;
          here = reads_of kinds.Log done quiet;
          seen = λ v. quiet_seen_of generation i kinds.Log v x [] done tt quiet;
          purpose = None;
          counts = ⊎_elim {C = (o.count ≡ suc d.count) ⊎ ((o.count ≡ d.count) × (None ≡ None))} (λ e. inl e) (λ e. inr (e, refl)) counts;
          none = λ z. refl;
          then = subst (λ z. ServesLogIf generation range w i z x sent) (sym e) b;
          asked = asked;
        }

    -- ---- a group is formed

    module _ (x : Stand) (sent : List Sent) (fresh : purpose_of sent (request d) ≡ None) where
      appends_rule : (r : RangeState) (n : ℕ) → ServesLog generation range w i x sent r → r.log.job ≡ jobs.Idle → r.out ≡ None → LogRule generation range w i x sent d (appends d r n) (actions.transact_actions r (appends d r n))
      appends_rule r n b idle none =
          subst (λ o. LogRule generation range w i x sent d (appends d r n) (if is_some o then [] else actions.Forms kinds.Log group ∷ [])) (sym none)
          (subst (λ j. LogRule generation range w i x sent d (appends d (record r { log = record r.log { job = j } }) n) (actions.Forms kinds.Log group ∷ [])) (sym idle) at_idle)
        where
          group : Group
          group = spelling (record_of r.next (take n r.queue))

          c : ClientState
          c = record r.log { pick = d.pick; group = group; job = jobs.Idle }

          told : IsTold generation (log_of range) w i x sent c
          told = record { stream = b.client.told.stream; under = b.client.told.under; tells = b.client.told.tells }

          stands : x.phase ≡ turns.Serving (known r.log) (is_live (last_extent r.log.extents))
          stands = subst (λ j. ServesBy generation (log_of range) w i x sent r.log j) idle b.client.job

          o : Outcome
          o = append_at c (request d) (last_extent r.log.extents)

          went : GoesBy generation (log_of range) w i x sent (request d) (λ y more. ServingIs generation (log_of range) w i y more o.after) o.packet (FormsOnly group)
          went = append_goes generation (log_of range) w i listed sent (request d) fresh x c told (last_extent r.log.extents) refl stands

          out : OutGroup
          out = record { first = r.next; transactions = take n r.queue }

          at_idle : LogRule generation range w i x sent d (appends d (record r { log = record r.log { job = jobs.Idle } }) n) (actions.Forms kinds.Log group ∷ [])
          at_idle = record {
            list = went.0.list;
            allowed = went.0.allowed;
            here = (refl, tt);
            seen = λ v. subst (λ ts. AreSeenOf generation i kinds.Log v x ts (actions.Forms kinds.Log group ∷ [])) (sym went.1)
                (forms_seen_of generation i kinds.Log v x (known r.log) (is_live (last_extent r.log.extents)) group stands);
            purpose = went.0.purpose;
            counts = inl refl;
            none = λ e. absurd cc;
            then = record {
              range_is = b.range_is;
              under = b.under;
              client = went.0.then;
              out = append_out (Some out) (request d) c (last_extent r.log.extents) (out, refl, refl);
              stage = b.stage;
            };
            asked = asked_if (log_of range) (after_turns generation i x went.0.list) (sent_with (request d) went.0.purpose sent) o.packet went.0.asked;
          }

      pub forms_rule : (r : RangeState) → ServesLog generation range w i x sent r → LogRule generation range w i x sent d (forms d r) (actions.transact_actions r (forms d r))
      forms_rule r b = go (not (is_some r.out) && (nat_lt 0 (group_count d r) && nat_lt (r.next + group_count d r) (2 ^ 64))) refl
        where
          go : (t : Bool) → (not (is_some r.out) && (nat_lt 0 (group_count d r) && nat_lt (r.next + group_count d r) (2 ^ 64))) ≡ t →
              LogRule generation range w i x sent d (if t then appends d r (group_count d r) else goes d r [] []) (actions.transact_actions r (if t then appends d r (group_count d r) else goes d r [] []))
          go true e =
              let none : r.out ≡ None = none_there r.out (and_parts (not (is_some r.out)) (nat_lt 0 (group_count d r) && nat_lt (r.next + group_count d r) (2 ^ 64)) e).0 in
              appends_rule r (group_count d r) b (none_idle r.log.job r.log.group (subst (λ z. OutIs r.log.job r.log.group z) none b.out)) none
          go false e = calm x sent r b (goes d r [] []) refl (inl refl) tt (actions.transact_actions r (goes d r [] [])) (none_formed r.out)

      -- ---- a transaction

      transacts_rule : (r : RangeState) (from : ActorId) (v : ReqNo) (changes : List Change) (fault : Option Refusal) → ServesLog generation range w i x sent r →
          LogRule generation range w i x sent d (transacts d r from v changes fault) (actions.transact_actions r (transacts d r from v changes fault))
      transacts_rule r from v changes (Some refusal) b =
          calm x sent r b (transacts d r from v changes (Some refusal)) refl (inr refl) (inl (λ u n s m. tt), tt) (actions.transact_actions r (transacts d r from v changes (Some refusal))) (none_formed r.out)
      transacts_rule r from v changes None b =
          forms_rule (record r { queue = r.queue ++ record { from = from; request = v; changes = changes } ∷ [] })
          (record { range_is = b.range_is; under = b.under; client = b.client; out = b.out; stage = b.stage })

      pub transact_goes : (r : RangeState) (from : ActorId) (v : ReqNo) (changes : List Change) → ServesLog generation range w i x sent r →
          LogRule generation range w i x sent d (transact_rule d r from v changes) (actions.transact_actions r (transact_rule d r from v changes))
      transact_goes r from v changes b = transacts_rule r from v changes (transact_fault d r changes) b

  -- ---- turns after turns

  -- a rule after turns that have done this
  join : (x : Stand) (sent : List Sent) (d : ServerContext) (o : RangeOutcome) (before : List (turns.Turn Group)) (packets : List Packet) (shown : List TableNote) → (o.after ≡ None → ⊥) → AreTurns generation i x before →
      ((y : Stand) (more : List Sent) → AreAsked generation range w i (log_of range) y more packets) →
      (first later : List StreamAction) → AreOf kinds.Log first → ((v : RangeView) → AreSeenOf generation i kinds.Log v x before first) →
      LogRule generation range w i (after_turns generation i x before) sent d o later → LogRule generation range w i x sent d (after_these packets shown o) (later ++ first)
  join x sent d o before packets shown there allowed plain first later here seen rule =
      let same : after_turns generation i (after_turns generation i x before) rule.list ≡ after_turns generation i x (rule.list ++ before) = turns_after generation i x before rule.list in
      let more : List Sent = sent_with (request d) rule.purpose sent in
      record {
        list = rule.list ++ before;
        allowed = turns_allowed generation i x before rule.list allowed rule.allowed;
        here = joined_of kinds.Log later first rule.here here;
        seen = λ v. joined_seen_of generation i kinds.Log v x before rule.list first later (seen v) (rule.seen (view_after_all (generation i) v first));
        purpose = rule.purpose;
        counts = rule.counts;
        none = λ e. absurd (there e);
        then = subst (λ y. ServesLogIf generation range w i o.after y more) same rule.then;
        asked = asked_both (log_of range) (after_turns generation i x (rule.list ++ before)) more packets o.packets (plain (after_turns generation i x (rule.list ++ before)) more)
            (subst (λ y. AreAsked generation range w i (log_of range) y more o.packets) same rule.asked);
      }

  module _ (listed : Listed w (log_of range)) (d : ServerContext) (sent : List Sent) (fresh : purpose_of sent (request d) ≡ None) where
    -- the range after an acknowledgement
    abbrev applied : RangeState → OutGroup → ℕ → ℕ → RangeState
    applied r out e offset =
        record r {
          live = put_all r.live (flat_map (λ changes. changes) (kept (record_of out.first out.transactions) e offset));
          position = record { index = (r.log.base + length r.log.extents) - 1; offset = offset + out_size out };
          out = None;
        }

    -- it is there
    forms_stays : (r : RangeState) → (forms d r).after ≡ None → ⊥
    forms_stays r e = go (not (is_some r.out) && (nat_lt 0 (group_count d r) && nat_lt (r.next + group_count d r) (2 ^ 64))) e
      where
        go : (t : Bool) → (if t then appends d r (group_count d r) else goes d r [] []).after ≡ None → ⊥
        go true n = cc
        go false n = cc

    applies_rule : (x : Stand) (r : RangeState) (c : ClientState) (out : OutGroup) (e offset : ℕ) (p : Option Packet) → ServesLog generation range w i x sent r →
        group_in x.phase ≡ spelling (record_of out.first out.transactions) →
        (g : Goes generation (log_of range) w i x sent (request d) (ServesAfter generation (log_of range) w i sent (Some (news.Appended e offset)) c) p) → AppendsOnly (picking d r.log) offset x g.list →
        OutIs c.job c.group None → LogRule generation range w i x sent d (applies d (record r { log = c }) out e offset) (if is_some (applies d (record r { log = c }) out e offset).after then actions.stood r (Some out) e offset (applies d (record r { log = c }) out e offset) else [])
    applies_rule x r c out e offset p b group g only idle =
        subst (λ done. LogRule generation range w i x sent d (applies d (record r { log = c }) out e offset) done) (sym (actions_there (forms d after).after (forms_stays after) (actions.transact_actions after (forms d after) ++ stands_here)))
        (join x sent d (forms d after) g.list (committed d out.first out.transactions) (dones r.load.range r.load.generation out.first out.transactions) (forms_stays after) g.allowed
        (λ z more. committed_plain (log_of range) z more d out.first out.transactions) stands_here (actions.transact_actions after (forms d after)) (refl, tt) seen
        (forms_rule listed d y sent fresh after stays))
      where
        stands_here : List StreamAction
        stands_here = actions.Stands kinds.Log e (actions.last_position r.log offset) (actions.group_of out) ∷ []

        same : only.sent.group ≡ actions.group_of out
        same = sym (ap group_in only.sent.is) ∙ group

        seen : (v : RangeView) → AreSeenOf generation i kinds.Log v x g.list stands_here
        seen v =
            subst (λ ts. AreSeenOf generation i kinds.Log v x ts stands_here) (sym only.only)
            (stands_seen_of generation i kinds.Log v x only.sent.n only.sent.append only.from only.to (actions.group_of out) e (actions.last_position r.log offset)
            (only.sent.is ∙ ap (λ z. turns.Sent only.sent.n only.sent.append z) same) only.begins (only.ends ∙ ap (λ z. only.from + group_size z) same))

        after : RangeState
        after = applied (record r { log = c }) out e offset

        y : Stand
        y = after_turns generation i x g.list

        stays : ServesLog generation range w i y sent after
        stays = record {
          range_is = b.range_is;
          under = b.under;
          client = subst (λ z. ServingIs generation (log_of range) w i y z c) g.then.1 g.then.0;
          out = idle;
          stage = b.stage;
        }

    quiet_rule : (x : Stand) (r : RangeState) (c : ClientState) (p : Option Packet) → ServesLog generation range w i x sent r →
        (g : Goes generation (log_of range) w i x sent (request d) (λ y more. ServingIs generation (log_of range) w i y more c) p) → AreQuiet g.list → OutIs c.job c.group r.out →
        LogRule generation range w i x sent d (goes d (record r { log = c }) (option_to_list p) []) []
    quiet_rule x r c p b g quiet out =
        record {
          list = g.list;
          allowed = g.allowed;
          here = tt;
          seen = λ v. quiet_seen_of generation i kinds.Log v x g.list [] quiet tt;
          purpose = g.purpose;
          counts = inl refl;
          none = λ e. absurd cc;
          then = record {
            range_is = b.range_is;
            under = b.under;
            client = g.then;
            out = out;
            stage = b.stage;
          };
          asked = asked_if (log_of range) (after_turns generation i x g.list) (sent_with (request d) g.purpose sent) p g.asked;
        }

    -- what is told while the range is served
    news_rule : (x : Stand) (r : RangeState) (c : ClientState) (told : Option News) (p : Option Packet) → ServesLog generation range w i x sent r → (IsSent x.phase → OutStands x r.out) →
        GoesBy generation (log_of range) w i x sent (request d) (ServesAfter generation (log_of range) w i sent told c) p (MadeBy (picking d r.log) told) → OutAfter told c r.out →
        LogRule generation range w i x sent d (serving_news d (record r { log = c }) told (option_to_list p)) (told_actions r told (serving_news d (record r { log = c }) told (option_to_list p)))
    news_rule x r c None p b stands g out = quiet_rule x r c p b g.0 g.1 out
    news_rule x r c (Some news.Fenced) p b stands g out =
        record {
          list = [];
          allowed = tt;
          here = tt;
          seen = λ v s. s;
          purpose = None;
          counts = inl refl;
          none = λ e. refl;
          then = tt;
          asked = refused_plain (log_of range) x sent d (waiting_out r.out ++ r.queue) r.gets refusals.NotOwner;
        }
    news_rule x r c (Some (news.Appended e offset)) p b stands g out =
        let s : OutStands x r.out = stands g.1.sent in
        subst (λ z. LogRule generation range w i x sent d (log_done d (record r { log = c }) z e offset)
        (if is_some (log_done d (record r { log = c }) z e offset).after then actions.stood r z e offset (log_done d (record r { log = c }) z e offset) else [])) (sym s.is)
        (applies_rule x r c s.group e offset p b s.spelled g.0 g.1 out)
    news_rule x r c (Some (news.Checked e found)) p b stands g out = quiet_rule x r c p b g.0 g.1 out
    news_rule x r c (Some (news.Sealed e l)) p b stands g out = quiet_rule x r c p b g.0 g.1 out
    news_rule x r c (Some (news.Content e upto)) p b stands g out = quiet_rule x r c p b g.0 g.1 out

    taken_rule : (x : Stand) (r : RangeState) (counted : IsCounted i x) → ServesLog generation range w i x sent r → (body : Body) → Means generation (log_of range) w x.state sent body →
        LogRule generation range w i x sent d (log_taken d r body) (taken_actions d r body (log_taken d r body))
    taken_rule x r counted b body m =
        subst (λ z. LogRule generation range w i x sent d (taken_at d r body z) (actions_at d r body z)) (sym b.stage)
        (news_rule x r o.after o.news o.packet b (out_stands generation (log_of range) w i x sent r.log r.log.job r.out b.client.job b.out)
        (reply_goes generation (log_of range) w i listed sent (request d) fresh x (picking d r.log) counted (picked_serving generation (log_of range) w i x sent r.log d.pick b.client) body m)
        (reply_out r.out (request d) (picking d r.log) b.out body))
      where
        o : Outcome
        o = reply_rule (picking d r.log) (request d) body

    -- what a range that is served does with an answer to its log
    pub log_reply_goes : (x : Stand) (r : RangeState) (counted : IsCounted i x) → ServesLog generation range w i x sent r → (body : Body) → Means generation (log_of range) w x.state sent body →
        LogRule generation range w i x sent d (log_reply d r body) (reply_actions d r body (log_reply d r body))
    log_reply_goes x r counted b body m = go (is_taken r body)
      where
        go : (t : Bool) → LogRule generation range w i x sent d (if t then log_taken d r body else answers d r [])
            (if is_some (if t then log_taken d r body else answers d r []).after then (if t then actions.log_actions d r body (if t then log_taken d r body else answers d r []) else []) else [])
        go true = taken_rule x r counted b body m
        go false = calm listed d x sent r b (answers d r []) refl (inr refl) tt [] tt
