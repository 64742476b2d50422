-- Any answer to a range that is paused for its split. The record of the split may be out to its metadata, and nothing is out to its log.
use Rattle.std.proofs.Common.{◌≡◌, ℕ, ◌^◌, nat_lt, Bool, true, false, List, [], ◌∷◌, ◌++◌, Option, Some, None, is_some, refl, sym, ap, ◌∙◌, subst, if◌then◌else◌}
use Rattle.wire.specs.declared.actor.ReqNo.{ReqNo}
use Rattle.wire.specs.declared.body.Body.{Body}
use Rattle.replica.specs.Groups.{joined}
use Rattle.client.specs.declared.job.Job.TheVariants as jobs
use Rattle.client.specs.declared.job.News.{News}
use Rattle.client.specs.declared.job.News.TheVariants as news
use Rattle.client.specs.Client.{awaits, reply_rule}
use Rattle.client.specs.Load.{load_awaits}
use Rattle.model_streams.proofs.Tests.{if_elim}
use Rattle.model_streams.specs.StreamSystem.{StreamSystem}
use Rattle.model_partition.specs.declared.server_context.ServerContext.{ServerContext}
use Rattle.model_partition.specs.declared.split_job.SplitJob.{SplitJob}
use Rattle.model_partition.specs.declared.split_job.SplitPhase.{SplitPhase}
use Rattle.model_partition.specs.declared.split_job.SplitPhase.TheVariants as phases
use Rattle.model_partition.specs.Range.{RangeState, RangeOutcome, request, picking, is_serving}
use Rattle.model_partition.specs.PlaceReads.{reads_under, reads_page}
use Rattle.model_partition.specs.Checkpoints.{rows_may_stand, rows_reply, trim_awaits}
use Rattle.model_partition.specs.Answering.{groups_of, load_reply, metadata_reply, log_reply, is_taken, page_reply, index_reply, trim_reply, gets_reply, answer_rule}
use Rattle.model_partition.specs.Splits.{SplitStep}
use Rattle.model_histories.specs.StreamActions.{StreamAction, Stores, load_actions, loading_actions, record_stood, record_actions, metadata_actions, log_actions, index_stood, rows_told_actions, rows_actions, bytes_actions, answer_actions, split_stood_in, split_metadata_actions, split_stood}
use Rattle.wire.specs.declared.streams.StreamKind.TheVariants as kinds
use Rattle.laws_loads.specs.RangeView.{RangeView}
use Rattle.laws_stream_machine.specs.Refinement.{Means}
use Rattle.laws_ranges.specs.Serves.{Side, after_turns, IsCounted, IsPastRows, RowsTold, metadata_of, BothListed, IsSentBy}
use Rattle.laws_ranges.specs.Quiet.{AreReads}
use Rattle.laws_ranges.specs.SplitJobs.{PausedIs, RecordsSplit, PhaseStands, FollowsSplit, SplitSees}
use Rattle.laws_ranges.proofs.PausedRules.{IsPausedAt, gets_reply_paused, page_paused, index_paused, rows_paused}
use Rattle.laws_ranges.proofs.SeenLoads.{bytes_quiet}
use Rattle.laws_ranges.proofs.SeenTurns.{quiet_seen}
use Rattle.laws_ranges.proofs.SplitRecords.{record_answered}

-- what is read adds nothing
pub reads_see : (generation : ℕ → ℕ) (range : ℕ) (w : StreamSystem) (i : ℕ) (v : RangeView) (m l : Side) (d : ServerContext) (t : SplitStep) (actions : List StreamAction) → SplitSees generation range w i v m l d t [] → AreReads actions → SplitSees generation range w i v m l d t actions
reads_see generation range w i v m l d t actions s quiet = record {
  step = s.step;
  seen = λ z. quiet_seen generation i v (after_turns generation i m.stand s.step.goes.metadata_turns) (after_turns generation i l.stand s.step.goes.log_turns) [] [] actions tt tt quiet (s.seen z);
}

-- actions of a range that is left
abbrev pub there : Option RangeState → List StreamAction → List StreamAction
there after actions = if is_some after then actions else []

none_or : (after : Option RangeState) (done : List StreamAction) → AreReads done → AreReads (there after [] ++ there after done)
none_or None done quiet = tt
none_or (Some r) done quiet = quiet

module _ (r : RangeState) (control : r.control ≡ None) where
  -- where no checkpoint is under way nothing of one stands
  no_record : (told : Option News) → record_actions r told ≡ []
  no_record (Some (news.Appended e offset)) = ap (λ c. record_stood r c e offset) control
  no_record None = refl
  no_record (Some news.Fenced) = refl
  no_record (Some (news.Checked e n)) = refl
  no_record (Some (news.Sealed e n)) = refl
  no_record (Some (news.Content e n)) = refl

  abbrev stored : ℕ → ℕ → List StreamAction
  stored e offset = Stores (record { extent = e; offset = offset; bytes = joined r.rows.group }) ∷ []

  stores_alone : (told : Option News) → AreReads (rows_told_actions r told)
  stores_alone (Some (news.Appended e offset)) =
      subst (λ c. AreReads ((if nat_lt e (2 ^ 64) then index_stood r c e offset else []) ++ stored e offset)) (sym control) (if_elim (λ (z : List StreamAction). AreReads (z ++ stored e offset)) (nat_lt e (2 ^ 64)) [] [] (λ t. (tt, tt)) (λ t. (tt, tt)))
  stores_alone None = tt
  stores_alone (Some news.Fenced) = tt
  stores_alone (Some (news.Checked e n)) = tt
  stores_alone (Some (news.Sealed e n)) = tt
  stores_alone (Some (news.Content e n)) = tt

  pub rows_read : (d : ServerContext) (body : Body) → AreReads (rows_actions d r body)
  rows_read d body = if_elim AreReads (rows_may_stand r.control body) _ _ (λ t. stores_alone (reply_rule (picking d r.rows) (request d) body).news) (λ t. tt)

-- with nothing behind
with_none : (xs ys : List StreamAction) → ys ≡ [] → xs ++ ys ≡ xs
with_none [] ys none = none
with_none (x ∷ xs) ys none = ap (λ z. x ∷ z) (with_none xs ys none)

module _ (generation : ℕ → ℕ) (range : ℕ) (w : StreamSystem) (i : ℕ) (both : BothListed w range) (m l : Side) (d : ServerContext) (by : IsSentBy d d.count m.sent l.sent) (v : RangeView) (r : RangeState) (job : SplitJob)
    (f : FollowsSplit generation range w i m l r job) (at : IsPausedAt job.phase) (p : PausedIs generation range w i m l r) (past : IsPastRows d r) where
  -- what an answer does, of the record of the split and besides
  abbrev Sees : RangeOutcome → List StreamAction → List StreamAction → Type 0
  Sees o stood done = SplitSees generation range w i v m l d (record { range = o.after; job = Some job; count = o.count; packets = o.packets }) (there o.after stood ++ there o.after done)

  reads : (o : RangeOutcome) (done : List StreamAction) → SplitSees generation range w i v m l d (record { range = o.after; job = Some job; count = o.count; packets = o.packets }) [] → AreReads done → Sees o [] done
  reads o done s quiet = reads_see generation range w i v m l d (record { range = o.after; job = Some job; count = o.count; packets = o.packets }) (there o.after [] ++ there o.after done) s (none_or o.after done quiet)

  stands_at : (phase : SplitPhase) → job.phase ≡ phase → PhaseStands generation range w i m l r job phase
  stands_at phase e = subst (λ z. PhaseStands generation range w i m l r job z) e f.stands

  module _ (counted : IsCounted i m.stand) (u : ReqNo) (body : Body) (means : Means generation (metadata_of range) w m.stand.state m.sent body) (told : RowsTold w range r body) where
    abbrev place_reply : RangeOutcome
    place_reply = if reads_page r.reading then page_reply d r body else index_reply d r body

    abbrev trim_or_later : RangeOutcome
    trim_or_later = if trim_awaits r.control u then trim_reply d r body else gets_reply d r u body

    abbrev index_or_later : RangeOutcome
    index_or_later = if reads_under r.reading u then place_reply else trim_or_later

    abbrev rows_or_later : RangeOutcome
    rows_or_later = if awaits r.rows.job u then rows_reply d r body else index_or_later

    abbrev log_or_later : RangeOutcome
    log_or_later = if awaits r.log.job u then log_reply d r body else rows_or_later

    abbrev trim_part : List StreamAction
    trim_part = if trim_awaits r.control u then [] else bytes_actions body

    abbrev index_part : List StreamAction
    index_part = if reads_under r.reading u then bytes_actions body else trim_part

    abbrev rows_part : List StreamAction
    rows_part = if awaits r.rows.job u then rows_actions d r body else index_part

    trim_sixth : (t : Bool) → trim_awaits r.control u ≡ t → Sees (if t then trim_reply d r body else gets_reply d r u body) [] (if t then [] else bytes_actions body)
    trim_sixth true e = absurd (let z : false ≡ true = ap (λ c. trim_awaits c u) (sym p.control) ∙ e in cc)
    trim_sixth false e = reads (gets_reply d r u body) (bytes_actions body) (gets_reply_paused generation range w i m l both d by v r job f at p u body) (bytes_quiet body)

    page_or_index : (t : Bool) → Sees (if t then page_reply d r body else index_reply d r body) [] (bytes_actions body)
    page_or_index true = reads (page_reply d r body) (bytes_actions body) (page_paused generation range w i m l both d by v r job f at p body) (bytes_quiet body)
    page_or_index false = reads (index_reply d r body) (bytes_actions body) (index_paused generation range w i m l both d by v r job f at p body) (bytes_quiet body)

    index_fifth : (t : Bool) → Sees (if t then place_reply else trim_or_later) [] (if t then bytes_actions body else trim_part)
    index_fifth true = page_or_index (reads_page r.reading)
    index_fifth false = trim_sixth (trim_awaits r.control u) refl

    rows_fourth : (t : Bool) → Sees (if t then rows_reply d r body else index_or_later) [] (if t then rows_actions d r body else index_part)
    rows_fourth true = reads (rows_reply d r body) (rows_actions d r body) (rows_paused generation range w i m l both d by v r job f at p body told) (rows_read r p.control d body)
    rows_fourth false = index_fifth (reads_under r.reading u)

    log_third : (t : Bool) → awaits r.log.job u ≡ t →
        (let o : RangeOutcome = if t then log_reply d r body else rows_or_later in Sees o [] (if t then (if is_taken r body then log_actions d r body o else []) else rows_part))
    log_third true e = absurd (let z : false ≡ true = ap (λ j. awaits j u) (sym p.log.idle) ∙ e in cc)
    log_third false e = rows_fourth (awaits r.rows.job u)

    abbrev brings : Option News
    brings = (reply_rule (picking d r.metadata) (request d) body).news

    -- the record of the split is answered
    record_second : job.phase ≡ phases.Record → RecordsSplit generation range w i m r job → Sees (metadata_reply d r body) (split_metadata_actions d r job body) (metadata_actions d r body)
    record_second phase b =
        subst (λ actions. SplitSees generation range w i v m l d (record { range = o.after; job = Some job; count = o.count; packets = o.packets }) actions) (sym (same o.after))
        (record_answered generation range w i both m l d by v r past job phase f.range_is f.under f.others p b counted body means)
      where
        o : RangeOutcome
        o = metadata_reply d r body

        stood_is : split_metadata_actions d r job body ≡ split_stood_in r job phases.Record brings
        stood_is = ap (λ z. if is_serving z then split_stood_in r job job.phase brings else []) p.stage ∙ ap (λ z. split_stood_in r job z brings) phase

        none_is : metadata_actions d r body ≡ []
        none_is = ap (λ z. if is_serving z then record_actions r brings else loading_actions kinds.Metadata r.metadata z (groups_of body) brings) p.stage ∙ no_record r p.control brings

        same : (after : Option RangeState) → there after (split_metadata_actions d r job body) ++ there after (metadata_actions d r body) ≡ there after (split_stood_in r job phases.Record brings)
        same None = refl
        same (Some z) = with_none (split_metadata_actions d r job body) (metadata_actions d r body) none_is ∙ stood_is

    idle_second : r.metadata.job ≡ jobs.Idle → awaits r.metadata.job u ≡ true → ⊥
    idle_second idle e = let z : false ≡ true = ap (λ j. awaits j u) (sym idle) ∙ e in cc

    metadata_second : (t : Bool) → awaits r.metadata.job u ≡ t →
        (let o : RangeOutcome = if t then metadata_reply d r body else log_or_later in
        Sees o (if t then split_metadata_actions d r job body else []) (if t then metadata_actions d r body else if awaits r.log.job u then (if is_taken r body then log_actions d r body o else []) else rows_part))
    metadata_second false e = log_third (awaits r.log.job u) refl
    metadata_second true e = go job.phase refl
      where
        go : (phase : SplitPhase) → job.phase ≡ phase → Sees (metadata_reply d r body) (split_metadata_actions d r job body) (metadata_actions d r body)
        go (phases.Begin q) k = absurd (subst IsPausedAt k at)
        go phases.Checkpoint k = absurd (subst IsPausedAt k at)
        go phases.Queue k = absurd (subst IsPausedAt k at)
        go phases.Record k = record_second k (stands_at phases.Record k).1
        go (phases.Seal kind q) k = absurd (idle_second (stands_at (phases.Seal kind q) k).0.metadata.idle e)
        go (phases.Build q) k = absurd (idle_second (stands_at (phases.Build q) k).0.metadata.idle e)
        go (phases.Keys side c) k = absurd (idle_second (stands_at (phases.Keys side c) k).0.metadata.idle e)
        go (phases.Complete q) k = absurd (idle_second (stands_at (phases.Complete q) k).0.metadata.idle e)

    load_first : (t : Bool) → load_awaits r.load.phase u ≡ t →
        (let o : RangeOutcome = if t then load_reply d r body else if awaits r.metadata.job u then metadata_reply d r body else log_or_later in
        Sees o (if t then [] else if awaits r.metadata.job u then split_metadata_actions d r job body else [])
        (if t then load_actions r body else if awaits r.metadata.job u then metadata_actions d r body else if awaits r.log.job u then (if is_taken r body then log_actions d r body o else []) else rows_part))
    load_first true e = absurd (let z : false ≡ true = ap (λ q. load_awaits q u) (sym p.phase) ∙ e in cc)
    load_first false e = metadata_second (awaits r.metadata.job u) refl

    -- the answer of a number, as its metadata means it
    pub answer_paused : SplitSees generation range w i v m l d (record { range = (answer_rule d r u body).after; job = Some job; count = (answer_rule d r u body).count; packets = (answer_rule d r u body).packets })
        (split_stood d r (Some job) u body (answer_rule d r u body) ++ answer_actions d r u body (answer_rule d r u body))
    answer_paused = load_first (load_awaits r.load.phase u) refl
