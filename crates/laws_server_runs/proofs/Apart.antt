-- Where the map gives the number of a range to neither of the two that a split makes, that range is none of those of any split at
-- servers.
use Rattle.std.proofs.Common.{◌≡◌, ◌⊎◌, ℕ, ◌-◌, List, [], ◌∷◌, ◌&&◌, Option, Some, None, is_some, slice_set, refl, sym, ap, ◌∙◌, subst, inl, inr}
use Rattle.std.proofs.lemmas.Bool.{cases_eq}
use Rattle.wire.specs.declared.actor.ActorId.TheVariants as actors
use Rattle.wire.specs.declared.body.AppendBody.{AppendBody}
use Rattle.wire.specs.declared.body.AppendBody.TheVariants as appends
use Rattle.wire.specs.declared.body.Body.{Body}
use Rattle.wire.specs.declared.body.Body.TheVariants as bodies
use Rattle.wire.specs.declared.body.MapBody.{MapBody}
use Rattle.wire.specs.declared.body.MapBody.TheVariants as maps
use Rattle.wire.specs.declared.body.SealBody.{SealBody}
use Rattle.wire.specs.declared.body.SealBody.TheVariants as seals
use Rattle.wire.specs.declared.body.StreamBody.{StreamBody}
use Rattle.wire.specs.declared.body.StreamBody.TheVariants as streams
use Rattle.wire.specs.declared.refusal.Refusal.{Refusal}
use Rattle.wire.specs.declared.refusal.Refusal.TheVariants as refusals
use Rattle.wire.specs.declared.streams.StreamKind.{StreamKind}
use Rattle.client.specs.declared.job.News.{News}
use Rattle.client.specs.declared.job.News.TheVariants as news
use Rattle.client.specs.Client.{Outcome, reply_rule}
use Rattle.metadata.specs.Fold.{taken}
use Rattle.model_streams.specs.Maps.{entry_at}
use Rattle.model_streams.proofs.Tests.{if_elim}
use Rattle.model_partition.specs.declared.server_context.ServerContext.{ServerContext}
use Rattle.model_partition.specs.declared.table_note.TableNote.{TableNote}
use Rattle.model_partition.specs.declared.split_job.Side.{Side}
use Rattle.model_partition.specs.declared.split_job.Side.TheVariants.{Low, High}
use Rattle.model_partition.specs.declared.split_job.SplitJob.{SplitJob}
use Rattle.model_partition.specs.declared.split_job.SplitPhase.{SplitPhase}
use Rattle.model_partition.specs.declared.split_job.SplitPhase.TheVariants as phases
use Rattle.model_partition.specs.Splits.{SplitStep, split_item, may_checkpoint, has_record_numbers, is_drained, may_record, drains, all_kinds, kinds_after, extents_of, open_last, is_extent, first_open, seals_or_builds, with_last_sealed, may_say_keys, says_keys, keys_stand, keys_told, refused, refused_by, map_told, seal_told, stream_told, told, split_reply_in, has_number, has_stood, follows_in, follows, gives_up_in, gives_up}
use Rattle.model_partition.specs.Range.{RangeState, RangeOutcome, request, picking}
use Rattle.model_partition.specs.Server.{ServerState, ServerOutcome, split_of, set_split}
use Rattle.model_partition.specs.Servers.{ServerCell}
use Rattle.model_histories.specs.ServerRun.{ServerRun, RangeEffect, ServerEvent, Takes, GivesUp, Checkpoints, Splits, Stops, Starts, Moment, Builds, after_event, first_run, run_of}
use Rattle.model_histories.specs.ServedTables.{IsOfOthers, IsUnborn, AreUnborn}
use Rattle.model_histories.specs.StreamActions.{StreamAction}
use Rattle.laws_loads.proofs.Entries.{entry_set, entry_other}
use Rattle.laws_server_runs.specs.Places.{AreAscending, RunLaid}
use Rattle.laws_server_runs.specs.RunInvariant.{IsApartIn, IsApart, AreApart}
use Rattle.laws_server_runs.specs.Turns.{IsStep, Alone, BeginsSplit, Drops, Follows, Leaves, Holds, Hears, LeavesSplit, IsEffect, Own, None_done, OfOthers, Turn, Idles, Opens, Acts, outcome_of, IsOfServers, BuildsOther, HoldNoMore, RunStep, Keeps, Passes, Turns}
use Rattle.laws_server_runs.proofs.LaidRuns.{no_splits, all_laid}
use Rattle.laws_server_runs.proofs.RangeLists.{inserted_here, inserted_other, dropped_here, dropped_other}
use Rattle.laws_server_runs.proofs.RunSteps.{IsAny, IsBuild, event_kind, any_assigned, AllNumbered, event_step}
use Rattle.laws_server_runs.proofs.Unmerged.{HaveNoMerges, unmerged}

module _ (k : ℕ) where
  -- the map's pairs have other numbers
  abbrev pub IsOther : (low high : ℕ) → Type 0
  IsOther low high = (low ≡ k → ⊥) × (high ≡ k → ⊥)

  abbrev ApartIf : Option SplitJob → Type 0
  ApartIf None = Unit {0}
  ApartIf (Some job) = IsApart k job

  abbrev Left : SplitStep → Type 0
  Left t = ApartIf t.job

  -- ---- one split

  module _ (d : ServerContext) (r : RangeState) (job : SplitJob) where
    seals_apart : (j : SplitJob) (y : RangeState) → IsOther j.low j.high → (x : Option (StreamKind × ℕ)) → Left (seals_or_builds d y j x)
    seals_apart j y apart None = apart
    seals_apart j y apart (Some x) = apart

    drains_apart : IsOther job.low job.high → Left (drains d r job)
    drains_apart apart = if_elim Left (is_drained r && may_record r job) _ _ (λ t. apart) (λ f. apart)

    follows_apart_in : IsApart k job → (phase : SplitPhase) → IsApartIn k job phase → Left (follows_in d r job phase)
    follows_apart_in was phases.Checkpoint apart = if_elim Left (is_some r.control) _ _ (λ t. was) (λ f. drains_apart apart)
    follows_apart_in was phases.Queue apart = drains_apart apart
    follows_apart_in was phases.Record apart = if_elim Left (has_stood r) _ _ (λ t. seals_apart job said_so apart (first_open said_so all_kinds)) (λ f. was)
      where
        said_so : RangeState
        said_so = record r { said = taken r.said (split_item job) }
    follows_apart_in was (phases.Begin q) apart = was
    follows_apart_in was (phases.Seal kind q) apart = was
    follows_apart_in was (phases.Build q) apart = was
    follows_apart_in was (phases.Keys side c) apart = was
    follows_apart_in was (phases.Complete q) apart = was

    follows_apart : IsApart k job → Left (follows d r job)
    follows_apart was = if_elim Left (has_number d) _ _ (λ t. follows_apart_in was job.phase was) (λ f. was)

    again_apart : IsApart k job → (phase : SplitPhase) → IsApartIn k job phase → Left (gives_up_in d r job phase)
    again_apart was (phases.Keys side c) apart = apart
    again_apart was phases.Checkpoint apart = was
    again_apart was phases.Queue apart = was
    again_apart was phases.Record apart = was
    again_apart was (phases.Begin q) apart = was
    again_apart was (phases.Seal kind q) apart = was
    again_apart was (phases.Build q) apart = was
    again_apart was (phases.Complete q) apart = was

    gives_up_apart : IsApart k job → Left (gives_up d r job)
    gives_up_apart was = if_elim Left (has_number d) _ _ (λ t. again_apart was job.phase was) (λ f. was)

    -- ---- answers to it

    module _ (was : IsApart k job) where
      says_apart : IsOther job.low job.high → (side : Side) → Left (says_keys d r job side)
      says_apart apart side = if_elim Left (may_say_keys r job) _ _ (λ t. apart) (λ f. was)

      stand_apart : IsOther job.low job.high → (side : Side) → Left (keys_stand d r job side)
      stand_apart apart Low = says_apart apart High
      stand_apart apart High = apart

      keys_apart : IsOther job.low job.high → (side : Side) (o : Outcome) (said : Option News) → Left (keys_told d r job side o said)
      keys_apart apart side o (Some news.Fenced) = tt
      keys_apart apart side o (Some (news.Appended e offset)) = stand_apart apart side
      keys_apart apart side o None = apart
      keys_apart apart side o (Some (news.Checked e l)) = apart
      keys_apart apart side o (Some (news.Sealed e l)) = apart
      keys_apart apart side o (Some (news.Content e upto)) = apart

      refused_apart : (phase : SplitPhase) → IsApartIn k job phase → (why : Refusal) → Left (refused d r job phase why)
      refused_apart phase apart refusals.Stale = tt
      refused_apart (phases.Build q) apart refusals.NameTaken = says_apart apart Low
      refused_apart (phases.Complete q) apart refusals.GenerationChanged = tt
      refused_apart phase apart why = was

      append_apart : (body : AppendBody) → Left (refused_by d r job body)
      append_apart (appends.Refused w why) = refused_apart job.phase was why
      append_apart body = was

      seal_apart : (phase : SplitPhase) → IsApartIn k job phase → (body : SealBody) → Left (seal_told d r job phase body)
      seal_apart (phases.Seal kind q) apart (seals.SealedIs w e n) =
          if_elim Left (is_extent e (open_last (extents_of r kind))) _ _ (λ t. seals_apart job (with_last_sealed r kind n) apart (first_open (with_last_sealed r kind n) (kinds_after kind))) (λ f. was)
      seal_apart phase apart body = was

      stream_apart : (phase : SplitPhase) → IsApartIn k job phase → (body : StreamBody) → Left (stream_told d r job phase body)
      stream_apart (phases.Build q) apart (streams.Modified w) = says_apart apart Low
      stream_apart phase apart body = was

      map_apart : (phase : SplitPhase) (body : MapBody) → ((w : _) (low high : ℕ) → body ≡ maps.SplitBegun w low high → IsOther low high) → Left (map_told d r job phase body)
      map_apart (phases.Begin q) (maps.SplitBegun w low high) numbered = if_elim Left (may_checkpoint r && has_record_numbers r) _ _ (λ t. numbered w low high refl) (λ f. was)
      map_apart (phases.Complete q) (maps.SplitDone w) numbered = tt
      map_apart phase body numbered = was

      told_apart : (body : Body) → ((w : _) (low high : ℕ) → body ≡ bodies.Map (maps.SplitBegun w low high) → IsOther low high) → Left (told d r job body)
      told_apart (bodies.Append body) numbered = append_apart body
      told_apart (bodies.Map body) numbered = map_apart job.phase body (λ w low high is. numbered w low high (ap bodies.Map is))
      told_apart (bodies.Seal body) numbered = seal_apart job.phase was body
      told_apart (bodies.Stream body) numbered = stream_apart job.phase was body
      told_apart body numbered = was

      reply_apart : (phase : SplitPhase) → IsApartIn k job phase → (body : Body) → ((w : _) (low high : ℕ) → body ≡ bodies.Map (maps.SplitBegun w low high) → IsOther low high) → Left (split_reply_in d r job phase body)
      reply_apart (phases.Keys side c) apart body numbered = keys_apart apart side (reply_rule (picking d c) (request d) body) (reply_rule (picking d c) (request d) body).news
      reply_apart (phases.Begin q) apart body numbered = told_apart body numbered
      reply_apart phases.Checkpoint apart body numbered = told_apart body numbered
      reply_apart phases.Queue apart body numbered = told_apart body numbered
      reply_apart phases.Record apart body numbered = told_apart body numbered
      reply_apart (phases.Seal kind q) apart body numbered = told_apart body numbered
      reply_apart (phases.Build q) apart body numbered = told_apart body numbered
      reply_apart (phases.Complete q) apart body numbered = told_apart body numbered

  -- a step of a range that may be split
  step_apart : (r : RangeState) (job : Option SplitJob) (actions : List StreamAction) (o : RangeOutcome) (later : Option SplitJob) → IsStep IsOther r job actions o later → ApartIf job → ApartIf later
  step_apart r job actions o later (Alone own_actions own rule) was = tt
  step_apart r job actions o later (BeginsSplit d key may none splits) was = tt
  step_apart r job actions o later (Drops split own_actions own rule calm gone) was = tt
  step_apart r job actions o later (Follows split own_actions own rule calm room d counts next left) was = follows_apart d next split was
  step_apart r job actions o later (Leaves split c d next left) was = gives_up_apart d next split was
  step_apart r job actions o later (Holds split until count) was = was
  step_apart r job actions o later (Hears split d body numbered) was = reply_apart d r split was split.phase was body numbered

  effect_apart : (range : ℕ) (r : RangeState) (job : Option SplitJob) (e : RangeEffect) (o : RangeOutcome) (later : Option SplitJob) → IsEffect IsOther range r job e o later → ApartIf job → ApartIf later
  effect_apart range r job e o later (Own own actions after left_job step unheard) was = step_apart r job actions o later step was
  effect_apart range r job e o later (None_done own after left_job step unheard) was = step_apart r job [] o later step was
  effect_apart range r job e o later (OfOthers split d body after left_job step heard) was = step_apart r (Some split) [] o later step was

  -- ---- all servers

  abbrev AllApart : List (ℕ × SplitJob) → Type 0
  AllApart splits = (j : ℕ) (job : SplitJob) → split_of splits j ≡ Some job → IsApart k job

  module _ (x : ServerRun) (laid : RunLaid x) (apart : AreApart k x.servers) where
    module _ (s : ℕ) (cell : ServerCell) (st : ServerState) (at : entry_at x.servers s ≡ Some cell) (is : cell.state ≡ Some st) where
      mine : AllApart st.splits
      mine = apart s cell st at is

      ascending : AreAscending st.splits
      ascending = laid.splits s cell st at is

      at_job : (range : ℕ) (job : Option SplitJob) → split_of st.splits range ≡ job → ApartIf job
      at_job range None is = tt
      at_job range (Some job) is = mine range job is

      dropped_apart : (range : ℕ) → AllApart (set_split st.splits range None)
      dropped_apart range j job found = elim (cases_eq j range) [
        | inl same ↦ absurd (let z : None ≡ Some job = sym (dropped_here st.splits range ascending) ∙ subst (λ n. split_of (set_split st.splits range None) n ≡ Some job) same found in cc)
        | inr other ↦ mine j job (sym (dropped_other st.splits range j other) ∙ found)
      ]

      left_apart : (range : ℕ) (later : Option SplitJob) (after : List (ℕ × SplitJob)) → LeavesSplit st.splits range later after → ApartIf later → AllApart after
      left_apart range later after (inl (same, is_later)) new = subst AllApart (sym same) mine
      left_apart range None after (inr e) new = subst AllApart (sym e) (dropped_apart range)
      left_apart range (Some one) after (inr e) new = subst AllApart (sym e) (λ j job found. elim (cases_eq j range) [
        | inl same ↦
            (let there : Some one ≡ Some job = sym (inserted_here st.splits range one) ∙ subst (λ n. split_of (set_split st.splits range (Some one)) n ≡ Some job) same found in
            let is_one : one ≡ job = cc in
            subst (IsApart k) is_one new)
        | inr other ↦ mine j job (sym (inserted_other st.splits range one j other) ∙ found)
      ])

      -- one of them goes to another state
      one_apart : (next : ServerState) → AllApart next.splits → AreApart k (slice_set x.servers (s - 1) (record cell { state = Some next }))
      one_apart next all t c q there up j job found = elim (cases_eq t s) [
        | inl same ↦
            (let both : Some (record cell { state = Some next }) ≡ Some c =
            sym (entry_set x.servers s cell (record cell { state = Some next }) at) ∙ subst (λ n. entry_at (slice_set x.servers (s - 1) (record cell { state = Some next })) n ≡ Some c) same there in
            let is_cell : record cell { state = Some next } ≡ c = cc in
            let state : Some next ≡ Some q = ap (λ (z : ServerCell). z.state) is_cell ∙ up in
            let e : next ≡ q = cc in
            all j job (ap (λ (z : ServerState). split_of z.splits j) e ∙ found))
        | inr other ↦ apart t c q (sym (entry_other x.servers s cell (record cell { state = Some next }) at t other) ∙ there) up j job found
      ]

      turn_apart : (e : RangeEffect) (o : ServerOutcome) → Turn IsAny IsOther st e o → AreApart k (slice_set x.servers (s - 1) (record cell { state = Some o.after }))
      turn_apart e o (Idles next packets same splits) = one_apart next (subst AllApart (sym splits) mine)
      turn_apart e o (Opens range assigned d generation until next packets new splits) = one_apart next (subst AllApart (sym splits) (dropped_apart range))
      turn_apart e o (Acts range r held effect ro later is_effect next packets left splits) =
          one_apart next (left_apart range later next.splits splits (effect_apart range r (split_of st.splits range) effect ro later is_effect (at_job range (split_of st.splits range) refl)))

    held_so : (servers : List ServerCell) → HoldNoMore x.servers servers → AreApart k servers
    held_so servers like t c q there up j job found = elim (like t c q there up) [
      | inl none ↦ absurd (let z : None ≡ Some job = sym (ap (λ l. split_of l j) none.1) ∙ found in cc)
      | inr old ↦ apart t old.0 old.1 old.2 old.3 j job (sym (ap (λ l. split_of l j) old.5) ∙ found)
    ]

    step_all : (notes : List TableNote) (y : ServerRun) → RunStep IsAny IsOther x notes y → AreApart k y.servers
    step_all notes y (Keeps servers packets like) = held_so servers like
    step_all notes y (Passes servers like) = held_so servers like
    step_all notes y (Turns s cell st at is e o turn) = turn_apart s cell st at is e o turn

  -- ---- lists of events

  -- at all times
  abbrev pub StaysApart : (batch servers : ℕ) → List ServerEvent → Type 0
  StaysApart batch servers [] = Unit {0}
  StaysApart batch servers (event ∷ earlier) = (AreApart k (run_of batch servers earlier).servers × BuildsOther k event) × StaysApart batch servers earlier

  first_apart : (batch servers : ℕ) → AreApart k (first_run batch servers).servers
  first_apart batch servers s cell st at up j job found = absurd (let z : None ≡ Some job = sym (ap (λ l. split_of l j) (no_splits batch servers s cell st at up)) ∙ found in cc)

  others_numbered : (event : ServerEvent) → IsUnborn k event → AllNumbered IsOther event
  others_numbered (Takes s p) unborn = λ w low high from body. subst (λ b. IsOfOthers k actors.Map b) body (subst (λ a. IsOfOthers k a p.body) from unborn)
  others_numbered (GivesUp s range pick) unborn = tt
  others_numbered (Checkpoints s range combine) unborn = tt
  others_numbered (Splits s range key) unborn = tt
  others_numbered (Stops s call) unborn = tt
  others_numbered (Starts s now batch) unborn = tt
  others_numbered (Moment now) unborn = tt
  others_numbered (Builds source range) unborn = tt

  event_apart : (x : ServerRun) → RunLaid x → HaveNoMerges x.servers → AreApart k x.servers → (event : ServerEvent) → IsUnborn k event → IsOfServers event ⊎ IsBuild event → AreApart k (after_event x event).servers
  event_apart x laid whole apart event unborn (inl is) =
      step_all x laid apart (outcome_of x.servers event).notes (after_event x event) (event_step IsAny IsOther x whole event is (any_assigned event) (others_numbered event unborn))
  event_apart x laid whole apart event unborn (inr build) = subst (λ e. AreApart k (after_event x e).servers) (sym build.2) apart

  unborn_all : (batch servers : ℕ) (events : List ServerEvent) → AreUnborn k events → AreApart k (run_of batch servers events).servers
  unborn_all batch servers [] are = first_apart batch servers
  unborn_all batch servers (event ∷ earlier) are =
      event_apart (run_of batch servers earlier) (all_laid batch servers earlier) (unmerged batch servers earlier) (unborn_all batch servers earlier are.1) event are.0 (event_kind event)

  -- where the map never gives its number to one of two
  pub unborn_apart : (batch servers : ℕ) (events : List ServerEvent) → AreUnborn k events → StaysApart batch servers events
  unborn_apart batch servers [] are = tt
  unborn_apart batch servers (event ∷ earlier) are = ((unborn_all batch servers earlier are.1, λ source range e. subst (IsUnborn k) e are.0), unborn_apart batch servers earlier are.1)
