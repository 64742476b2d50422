-- What a load does with the streams of a range, as servers see it: extents are read, and its confirmation shows all that was read.
use Rattle.std.proofs.Common.{◌≡◌, ◌⊎◌, ⊎_elim, ℕ, List, [], ◌∷◌, Bool, true, false, Option, Some, None, is_some, refl, sym, ap, ◌∙◌, subst, inl, inr, if◌then◌else◌}
use Rattle.wire.specs.declared.actor.ReqNo.{ReqNo}
use Rattle.wire.specs.declared.body.Body.{Body}
use Rattle.wire.specs.declared.body.Body.TheVariants as bodies
use Rattle.wire.specs.declared.body.ReadBody.{ReadBody}
use Rattle.wire.specs.declared.body.ReadBody.TheVariants as reads
use Rattle.wire.specs.declared.body.StreamBody.{StreamBody}
use Rattle.wire.specs.declared.body.StreamBody.TheVariants as streams
use Rattle.wire.specs.declared.streams.StreamKind.{StreamKind}
use Rattle.wire.specs.declared.streams.StreamKind.TheVariants as kinds
use Rattle.client.specs.declared.job.News.{News}
use Rattle.client.specs.declared.job.News.TheVariants as news
use Rattle.client.specs.declared.load.LoadPhase.{LoadPhase}
use Rattle.client.specs.declared.load.LoadPhase.TheVariants as phases
use Rattle.client.specs.Client.{ClientState, awaits, reply_rule}
use Rattle.client.specs.Load.{load_awaits}
use Rattle.client.specs.Requests.{is_same}
use Rattle.model_streams.proofs.Tests.{if_elim, both_elim}
use Rattle.model_streams.specs.StreamSystem.{StreamSystem}
use Rattle.model_partition.specs.declared.server_context.ServerContext.{ServerContext}
use Rattle.model_partition.specs.declared.stage.Stage.{Stage}
use Rattle.model_partition.specs.declared.stage.Stage.TheVariants as stages
use Rattle.model_partition.specs.Range.{RangeState, RangeOutcome, request, picking, is_serving}
use Rattle.model_partition.specs.Loading.{Group, serves}
use Rattle.model_partition.specs.Answering.{answered_number, load_told, load_reply, answer_rule, is_taken, groups_of}
use Rattle.model_partition.specs.Checkpoints.{trim_awaits}
use Rattle.model_partition.specs.PlaceReads.{reads_under}
use Rattle.laws_tables.specs.Runs.{start_number}
use Rattle.model_histories.specs.ServerTurns as turns
use Rattle.model_histories.specs.StreamActions.{StreamAction, Shows, first_start, read_end, bytes_told_actions, bytes_actions, loading_actions, confirmed_actions, load_actions, answered_actions, answer_actions}
use Rattle.laws_stream_machine.specs.Refinement.{Means}
use Rattle.laws_loads.specs.RangeView.{RangeView}
use Rattle.laws_loads.specs.StaysLoading.{IsConfirmation}
use Rattle.laws_ranges.specs.Serves.{BeginsRightly, HasNoCheckpoint, Side, metadata_of, log_of, IsConfirming, Follows, BothListed, IsSentBy}
use Rattle.laws_ranges.specs.Quiet.{AreReads}
use Rattle.laws_ranges.specs.Seen.{AreSeen, LoadIsRead, RuleSees}
use Rattle.laws_ranges.proofs.SeenTurns.{shows_seen}
use Rattle.laws_ranges.proofs.Confirmed.{ShowsAll, confirmed_all}
use Rattle.laws_ranges.proofs.Stages.{confirming_at}

-- ---- a range that is not served reads, and no more, until it is confirmed

-- news of a client
loading_reads : (kind : StreamKind) (c : ClientState) (stage : Stage) (groups : List Group) (told : Option News) → AreReads (loading_actions kind c stage groups told)
loading_reads kind c (stages.Reading k position) groups (Some (news.Content extent upto)) = (tt, tt)
loading_reads kind c stage groups told = tt

-- the bytes of an index, of a page or of a value
bytes_told_quiet : (body : ReadBody) → AreReads (bytes_told_actions body)
bytes_told_quiet (reads.Bytes q e offset bytes) = (tt, tt)
bytes_told_quiet body = tt

pub bytes_quiet : (body : Body) → AreReads (bytes_actions body)
bytes_quiet (bodies.Read body) = bytes_told_quiet body
bytes_quiet body = tt

-- a range that is dropped does nothing
pub kept_reads : (o : Option RangeState) (done : List StreamAction) → AreReads done → AreReads (if is_some o then done else [])
kept_reads None done quiet = tt
kept_reads (Some r) done quiet = quiet

module _ (d : ServerContext) (r : RangeState) (v : ReqNo) where
  told_reads : (phase : LoadPhase) (body : StreamBody) → r.load.phase ≡ phase → load_awaits phase v ≡ true →
      AreReads (confirmed_actions r phase body) ⊎ IsConfirmation d r v (bodies.Stream body) (load_told d r phase body)
  told_reads (phases.Confirming q) (streams.Confirmed u) e t = inr (record { q = q; told = u; phase = e; awaited = t; body_is = refl; outcome = refl })
  told_reads phase body e t = inl tt

  load_reads : (body : Body) → load_awaits r.load.phase v ≡ true → AreReads (load_actions r body) ⊎ IsConfirmation d r v body (load_reply d r body)
  load_reads (bodies.Stream body) t = told_reads r.load.phase body refl t
  load_reads body t = inl tt

  answered_reads : (body : Body) (o : RangeOutcome) → is_serving r.stage ≡ false → HasNoCheckpoint r → AreReads (answered_actions d r v body o) ⊎ IsConfirmation d r v body (answer_rule d r v body)
  answered_reads body o unserved calm =
      both_elim (λ done z. AreReads done ⊎ IsConfirmation d r v body z) (load_awaits r.load.phase v) _ _ _ _ (λ t. load_reads body t)
      (λ f. inl (if_elim AreReads (awaits r.metadata.job v) _ _
      (λ t. if_elim AreReads (is_serving r.stage) _ _ (λ s. absurd (cc (unserved, s)))
      (λ f. loading_reads kinds.Metadata r.metadata r.stage (groups_of body) (reply_rule (picking d r.metadata) (request d) body).news))
      (λ f. if_elim AreReads (awaits r.log.job v) _ _
      (λ t. if_elim AreReads (is_taken r body) _ _
      (λ t. if_elim AreReads (is_serving r.stage) _ _ (λ s. absurd (cc (unserved, s))) (λ f. loading_reads kinds.Log r.log r.stage (groups_of body) (reply_rule (picking d r.log) (request d) body).news)) (λ f. tt))
      (λ f. if_elim AreReads (awaits r.rows.job v) _ _ (λ t. absurd (let z : false ≡ true = subst (λ j. awaits j v ≡ true) calm.0 t in cc))
      (λ f. if_elim AreReads (reads_under r.reading v) _ _ (λ t. bytes_quiet body)
      (λ f. if_elim AreReads (trim_awaits r.control v) _ _ (λ t. tt) (λ f. bytes_quiet body)))))))

  -- an answer that a range waits for
  pub answer_reads : (body : Body) (o : RangeOutcome) → is_serving r.stage ≡ false → HasNoCheckpoint r → AreReads (answer_actions d r v body o) ⊎ IsConfirmation d r v body (answer_rule d r v body)
  answer_reads body o unserved calm =
      ⊎_elim {C = AreReads (answer_actions d r v body o) ⊎ IsConfirmation d r v body (answer_rule d r v body)} (λ q. inl (kept_reads o.after (answered_actions d r v body o) q)) (λ c. inr c) (answered_reads body o unserved calm)

  -- ---- a confirmation shows

  chosen : (t : Bool) (one other : List StreamAction) → t ≡ true → (if t then one else other) ≡ one
  chosen true one other e = refl
  chosen false one other e = absurd (cc)

  -- from the first region's place on, up to the end of each stream
  abbrev all_shown : StreamAction
  all_shown = Shows (first_start r.said.regions) (read_end r.log (record { index = r.log.base; offset = 0 })) (read_end r.metadata (record { index = r.metadata.base; offset = 0 }))

  shown_actions : (body : Body) (z o : RangeOutcome) → IsConfirmation d r v body z → answered_actions d r v body o ≡ all_shown ∷ []
  shown_actions body z o c =
      chosen (load_awaits r.load.phase v) (load_actions r body) _ (subst (λ p. load_awaits p v ≡ true) (sym c.phase) c.awaited)
      ∙ ap (λ b. load_actions r b) c.body_is ∙ ap (λ p. confirmed_actions r p (streams.Confirmed c.told)) c.phase

same_waited : (q u : ReqNo) → phases.Confirming q ≡ phases.Confirming u → q ≡ u
same_waited q u e = cc

same_told : (q u : ReqNo) → Some q ≡ Some u → q ≡ u
same_told q u e = cc

module _ (generation : ℕ → ℕ) (range : ℕ) (w : StreamSystem) (i : ℕ) (both : BothListed w range) (m l : Side) (d : ServerContext) (by : IsSentBy d d.count m.sent l.sent) (view : RangeView)
    (r : RangeState) (f : Follows generation range w i m l r) (v : ReqNo) (body : Body) where
  -- the load has read all that it shows
  all_seen : (b : IsConfirming generation range w i m l r) → LoadIsRead generation i range w view m l r b →
      AreSeen generation i view m.stand l.stand (turns.ConfirmedIs 0 b.metadata.end b.metadata.read ∷ []) (turns.ConfirmedIs (start_number r.said.regions) b.log.end b.log.read ∷ []) (all_shown d r v ∷ [])
  all_seen b read =
      shows_seen generation i view m.stand l.stand b.metadata.end b.log.end b.metadata.read b.log.read
      (record { n = _; live = _; stands = b.metadata.stands }) (record { n = _; live = _; stands = b.log.stands })
      (first_start r.said.regions) (read_end r.log (record { index = r.log.base; offset = 0 })) (read_end r.metadata (record { index = r.metadata.base; offset = 0 }))
      b.metadata.ends b.log.ends read.metadata read.log

  -- a confirmation, as both streams mean it
  pub confirmation_sees : ((b : IsConfirming generation range w i m l r) → LoadIsRead generation i range w view m l r b) → BeginsRightly r → is_serving r.stage ≡ false →
      answered_number body ≡ Some v →
      Means generation (metadata_of range) w m.stand.state m.sent body → Means generation (log_of range) w l.stand.state l.sent body → IsConfirmation d r v body (answer_rule d r v body) →
      RuleSees generation i range w view m l d (answer_rule d r v body) (answer_actions d r v body (answer_rule d r v body))
  confirmation_sees read begins unserved number one two c =
      subst (λ o. RuleSees generation i range w view m l d o (answer_actions d r v body o)) (sym c.outcome) (go (serves d r).after refl went.1)
    where
      b : IsConfirming generation range w i m l r
      b = confirming_at generation range w i both m l d by r f c.q c.phase

      awaited : is_same b.q c.told ≡ true
      awaited =
          subst (λ z. is_same z c.told ≡ true) (sym (same_waited b.q c.q (sym b.phase ∙ c.phase)))
          (subst (λ z. is_same c.q z ≡ true) (sym (same_told c.told v (ap answered_number (sym c.body_is) ∙ number))) c.awaited)

      went : ShowsAll generation range w i both m l d by r b (serves d r)
      went =
          confirmed_all generation range w i both m l d by r b f.range_is f.under (f.calm unserved) f.rows begins c.told awaited
          (subst (λ z. Means generation (metadata_of range) w m.stand.state m.sent z) c.body_is one) (subst (λ z. Means generation (log_of range) w l.stand.state l.sent z) c.body_is two)

      Sees : List StreamAction → Type 0
      Sees done = RuleSees generation i range w view m l d (serves d r) done

      -- the range is dropped
      none : (serves d r).after ≡ None → Sees []
      none e =
          record {
            goes = went.0;
            seen = subst (λ ts. AreSeen generation i view m.stand l.stand ts went.0.log_turns []) (sym (went.0.none e).0) (subst (λ ts. AreSeen generation i view m.stand l.stand [] ts []) (sym (went.0.none e).1) (λ s. s));
          }

      -- it is served
      some : went.0.metadata_turns ≡ turns.ConfirmedIs 0 b.metadata.end b.metadata.read ∷ [] → went.0.log_turns ≡ turns.ConfirmedIs (start_number r.said.regions) b.log.end b.log.read ∷ [] → Sees (all_shown d r v ∷ [])
      some em el =
          record {
            goes = went.0;
            seen = subst (λ ts. AreSeen generation i view m.stand l.stand ts went.0.log_turns (all_shown d r v ∷ [])) (sym em)
                (subst (λ ts. AreSeen generation i view m.stand l.stand (turns.ConfirmedIs 0 b.metadata.end b.metadata.read ∷ []) ts (all_shown d r v ∷ [])) (sym el) (all_seen b (read b)));
          }

      go : (after : Option RangeState) → (serves d r).after ≡ after →
          ((went.0.metadata_turns ≡ turns.ConfirmedIs 0 b.metadata.end b.metadata.read ∷ []) × (went.0.log_turns ≡ turns.ConfirmedIs (start_number r.said.regions) b.log.end b.log.read ∷ [])) ⊎ ((serves d r).after ≡ None) →
          Sees (if is_some (serves d r).after then answered_actions d r v body (serves d r) else [])
      go None e k = subst (λ z. Sees (if is_some z then answered_actions d r v body (serves d r) else [])) (sym e) (none e)
      go (Some after) e (inl k) =
          subst (λ z. Sees (if is_some z then answered_actions d r v body (serves d r) else [])) (sym e)
          (subst (λ done. Sees done) (sym (shown_actions d r v body (answer_rule d r v body) (serves d r) c)) (some k.0 k.1))
      go (Some after) e (inr k) = absurd (let z : Some after ≡ None = sym e ∙ k in cc)
