-- An answer to a split that makes a range: what is kept of that range goes on with it, and what is owed of it then.
use Rattle.std.proofs.Common.{◌≡◌, ◌⊎◌, ℕ, true, false, List, [], ◌∷◌, ◌++◌, Option, Some, None, refl, sym, ap, ◌∙◌, subst, inl, inr, if◌then◌else◌}
use Rattle.wire.specs.declared.body.AppendBody.TheVariants as appends
use Rattle.wire.specs.declared.body.Body.{Body}
use Rattle.wire.specs.declared.body.Body.TheVariants as bodies
use Rattle.wire.specs.declared.body.StreamBody.TheVariants as streams
use Rattle.wire.specs.declared.refusal.Refusal.TheVariants as refusals
use Rattle.wire.specs.declared.streams.StreamKind.TheVariants as kinds
use Rattle.client.specs.declared.job.News.{News}
use Rattle.client.specs.declared.job.News.TheVariants as news
use Rattle.client.specs.Client.{ClientState, Outcome, reply_rule}
use Rattle.model_streams.specs.Maps.{entry_at}
use Rattle.model_streams.proofs.Tests.{both_elim}
use Rattle.model_partition.specs.declared.server_context.ServerContext.{ServerContext}
use Rattle.model_partition.specs.declared.split_job.Side.{Side}
use Rattle.model_partition.specs.declared.split_job.Side.TheVariants.{Low, High}
use Rattle.model_partition.specs.declared.split_job.SplitJob.{SplitJob}
use Rattle.model_partition.specs.declared.split_job.SplitPhase.{SplitPhase}
use Rattle.model_partition.specs.declared.split_job.SplitPhase.TheVariants as phases
use Rattle.model_partition.specs.Map.{is_split_key}
use Rattle.model_partition.specs.Past.{Bytes}
use Rattle.model_partition.specs.Range.{RangeState, request, picking}
use Rattle.model_partition.specs.Splits.{SplitStep, stays, ends, with_phase, side_keys, side_range, may_say_keys, appends_keys, says_keys, keys_stand, told, split_reply}
use Rattle.model_partition.specs.Splits.{keys_told as keys_go}
use Rattle.model_histories.specs.ServerRun.{ServerRun, after_action, after_sides}
use Rattle.model_histories.specs.StreamActions.{Forms, Stands, SideAction, last_position, keys_said, keys_after, keys_told, split_sides}
use Rattle.laws_tables.specs.Runs.{Run, KeepsKeys}
use Rattle.laws_server_runs.specs.ChildInvariant.{keys_group, SplitHolds, HasNothingOut, KeepsBehind, IsUnnamed, KeysStand, KeysHold, IsBuilding, IsSaying, IsUnheld}
use Rattle.laws_server_runs.specs.RangeInvariant.{IsLonger}
use Rattle.laws_server_runs.specs.RunInvariant.{Taken, RunBehind}
use Rattle.laws_server_runs.proofs.Actions.{AreOthers, sides_rest}
use Rattle.laws_server_runs.proofs.ChildMoves.{Owed, OwedIf, Never, told_owed}
use Rattle.laws_server_runs.proofs.ChildTold.{append_at, forms_told, stands_told, others_told}

-- a split that makes this range says keys
abbrev pub SaysIf : ℕ → Side → Option SplitJob → Type 0
SaysIf n child None = ⊥
SaysIf n child (Some job) = IsSaying job.phase × (n ≡ side_range job child)

module _ (texts : ℕ → Bytes) (s : ℕ) (taken : Taken) (x : ServerRun) (d : ServerContext) (r : RangeState) where
  -- what is kept of the range after it, which goes on with its run, and what is owed of it, where its streams are built
  abbrev pub Heard : (built : Type 0) (n g : ℕ) → Run → List SideAction → SplitStep → Type 0
  Heard built n g run sides t =
      (k : RunBehind texts n taken (after_sides s g x sides)) × (goes : IsLonger run k.run) × (KeepsKeys goes.0 ⊎ KeepsBehind taken.run run) × OwedIf built n taken.run k.run (append_at (after_sides s g x sides) s n) t.range t.job

  -- where it does nothing with the streams of the range
  pub apart_heard : (built : Type 0) (n g : ℕ) (kept : RunBehind texts n taken x) (sides : List SideAction) (t : SplitStep) → AreOthers n sides → OwedIf built n taken.run kept.run (append_at x s n) t.range t.job → Heard built n g kept.run sides t
  apart_heard built n g kept sides t others owed =
      let o = others_told texts n s g taken x kept sides others in
      (o.0, ([], o.1), inl tt, subst (λ z. OwedIf built n taken.run z (append_at (after_sides s g x sides) s n) t.range t.job) (sym o.1) (subst (λ a. OwedIf built n taken.run kept.run a t.range t.job) (sym o.2) owed))

  module _ (built : Type 0) (job : SplitJob) (apart : job.low ≡ job.high → ⊥) (splits : is_split_key r.said.keys job.key ≡ true) where
    abbrev g : ℕ
    g = job.generation

    -- of the two it is this one
    only_one : (side : Side) (P : Side → Type 0) → P side → (child : Side) → side_range job side ≡ side_range job child → P child
    only_one Low P p Low e = p
    only_one High P p High e = p
    only_one Low P p High e = absurd (apart e)
    only_one High P p Low e = absurd (apart (sym e))

    -- the record of the keys of one is sent
    abbrev sends : Side → SideAction
    sends side = record { range = side_range job side; action = Forms kinds.Metadata (keys_group r job side) }

    -- ---- its streams are built

    -- that of the lower one is sent
    says_low : (child : Side) (kept : RunBehind texts (side_range job child) taken x) → IsUnheld (side_range job child) x → HasNothingOut kept.run g r.said × IsUnnamed taken.run kept.run g r.said → (may : may_say_keys r job ≡ true) →
        Heard built (side_range job child) g kept.run (sends Low ∷ []) (appends_keys d r job Low)
    says_low Low kept unheld h may =
        let f = forms_told texts job.low s g taken x kept unheld r job may splits Low h.0 h.1 in (
          f.0,
          f.1,
          inr h.1.behind,
          λ child e b. only_one Low (λ child. KeysHold taken.run f.0.run (append_at (after_action s job.low g x (Forms kinds.Metadata (keys_group r job Low))) s job.low) g r.said job.key child Low) f.2 child e,
        )
    says_low High kept unheld h may =
        let others : AreOthers job.high (sends Low ∷ []) = (λ e. apart (sym e), tt) in
        apart_heard built job.high g kept (sends Low ∷ []) (appends_keys d r job Low) others (λ child e b. only_one High (λ child. KeysHold taken.run kept.run (append_at x s job.high) g r.said job.key child Low) h child e)

    build_heard : (child : Side) (kept : RunBehind texts (side_range job child) taken x) → IsUnheld (side_range job child) x → (may_say_keys r job ≡ true → built) → (built → HasNothingOut kept.run g r.said × IsUnnamed taken.run kept.run g r.said) →
        Owed built (side_range job child) taken.run kept.run (append_at x s (side_range job child)) r job → Heard built (side_range job child) g kept.run (keys_said r job Low) (says_keys d r job Low)
    build_heard child kept unheld since now still =
        both_elim (Heard built (side_range job child) g kept.run) (may_say_keys r job) _ _ _ _ (λ t. says_low child kept unheld (now (since t)) t) (λ f. apart_heard built (side_range job child) g kept [] (stays d r job) tt still)

    -- ---- the record of the keys of one of them stands

    module _ (may : may_say_keys r job ≡ true) (c : ClientState) (e offset : ℕ) where
      abbrev stand : Side → SideAction
      stand out = record { range = side_range job out; action = Stands kinds.Metadata e (last_position c offset) c.group }

      abbrev Stood : Run → Side → Side → Type 0
      Stood run child out = Heard built (side_range job child) g run (keys_after r job out ++ stand out ∷ []) (keys_stand d r job out)

      -- that of the lower one, and the other is sent
      then_high : (run : Run) (child : Side) → Heard built (side_range job child) g run (sends High ∷ stand Low ∷ []) (appends_keys d r job High) → Stood run child Low
      then_high run child heard =
          both_elim (λ sides t. Heard built (side_range job child) g run (sides ++ stand Low ∷ []) t) (may_say_keys r job) _ _ _ _ (λ t. heard) (λ f. absurd (let z : true ≡ false = sym may ∙ f in cc))

      stood_low : (child : Side) (kept : RunBehind texts (side_range job child) taken x) → IsUnheld (side_range job child) x → KeysHold taken.run kept.run (append_at x s (side_range job child)) g r.said job.key child Low → Stood kept.run child Low
      stood_low Low kept unheld h =
          let x1 : ServerRun = after_sides s g x (stand Low ∷ []) in
          let one = stands_told texts job.low s g taken x kept unheld r.said (side_keys r.said.keys job.key Low) h.0 h.1 e (last_position c offset) c.group in
          let others : AreOthers job.low (sends High ∷ []) = (apart, tt) in
          let two = others_told texts job.low s g taken x1 one.0 (sends High ∷ []) others in
          then_high kept.run Low (
            two.0,
            (one.1.0, two.1 ∙ one.1.1),
            inl one.2,
            λ child e b. only_one Low (λ child. KeysHold taken.run two.0.run (append_at (after_sides s g x1 (sends High ∷ [])) s job.low) g r.said job.key child High)
                (subst (λ z. KeysStand taken.run z g r.said (side_keys r.said.keys job.key Low)) (sym two.1) one.3) child e,
          )
      stood_low High kept unheld h =
          let x1 : ServerRun = after_sides s g x (stand Low ∷ []) in
          let others : AreOthers job.high (stand Low ∷ []) = (λ e. apart (sym e), tt) in
          let one = others_told texts job.high s g taken x kept (stand Low ∷ []) others in
          let unheld1 : IsUnheld job.high x1 = λ t cell st there. unheld t cell st (subst (λ l. entry_at l t ≡ Some cell) (sides_rest s g x (stand Low ∷ [])).0 there) in
          let two = forms_told texts job.high s g taken x1 one.0 unheld1 r job may splits High (subst (λ z. HasNothingOut z g r.said) (sym one.1) h.0) (subst (λ z. IsUnnamed taken.run z g r.said) (sym one.1) h.1) in
          then_high kept.run High (
            two.0,
            (two.1.0, two.1.1 ∙ ap (λ l. two.1.0 ++ l) one.1),
            inr h.1.behind,
            λ child e b. only_one High (λ child. KeysHold taken.run two.0.run (append_at (after_action s job.high g x1 (Forms kinds.Metadata (keys_group r job High))) s job.high) g r.said job.key child High) two.2 child e,
          )

      -- that of the higher one
      stood_high : (child : Side) (kept : RunBehind texts (side_range job child) taken x) → IsUnheld (side_range job child) x → KeysHold taken.run kept.run (append_at x s (side_range job child)) g r.said job.key child High → Stood kept.run child High
      stood_high Low kept unheld h =
          let others : AreOthers job.low (stand High ∷ []) = (apart, tt) in
          apart_heard built job.low g kept (stand High ∷ []) (keys_stand d r job High) others (λ child e b. only_one Low (λ child. KeysStand taken.run kept.run g r.said (side_keys r.said.keys job.key child)) h child e)
      stood_high High kept unheld h =
          let one = stands_told texts job.high s g taken x kept unheld r.said (side_keys r.said.keys job.key High) h.0 h.1 e (last_position c offset) c.group in
          (one.0, one.1, inl one.2, λ child e b. only_one High (λ child. KeysStand taken.run one.0.run g r.said (side_keys r.said.keys job.key child)) one.3 child e)

      stood_heard : (out child : Side) (kept : RunBehind texts (side_range job child) taken x) → IsUnheld (side_range job child) x → KeysHold taken.run kept.run (append_at x s (side_range job child)) g r.said job.key child out → Stood kept.run child out
      stood_heard Low child kept unheld h = stood_low child kept unheld h
      stood_heard High child kept unheld h = stood_high child kept unheld h

    module _ (out child : Side) (kept : RunBehind texts (side_range job child) taken x) (unheld : IsUnheld (side_range job child) x) (may : may_say_keys r job ≡ true) (c : ClientState) (o : Outcome)
        (h : KeysHold taken.run kept.run (append_at x s (side_range job child)) g r.said job.key child out) where
      waits_on : Heard built (side_range job child) g kept.run [] (keys_go d r job out o None)
      waits_on = apart_heard built (side_range job child) g kept [] (keys_go d r job out o None) tt (λ z e b. only_one child (λ z. KeysHold taken.run kept.run (append_at x s (side_range job child)) g r.said job.key z out) h z e)

      keys_heard : (said : Option News) → Heard built (side_range job child) g kept.run (keys_told r job out c said) (keys_go d r job out o said)
      keys_heard (Some news.Fenced) = apart_heard built (side_range job child) g kept [] (ends d r) tt tt
      keys_heard (Some (news.Appended e offset)) = stood_heard may c e offset out child kept unheld h
      keys_heard None = waits_on
      keys_heard (Some (news.Checked e l)) = waits_on
      keys_heard (Some (news.Sealed e l)) = waits_on
      keys_heard (Some (news.Content e upto)) = waits_on

  -- ---- whatever it waits for

  module _ (built : Type 0) (job : SplitJob) (apart : job.low ≡ job.high → ⊥) (child : Side) (kept : RunBehind texts (side_range job child) taken x) where
    abbrev n : ℕ
    n = side_range job child

    abbrev In : SplitPhase → SplitJob
    In phase = with_phase job phase

    abbrev HeardIn : SplitPhase → Body → Type 0
    HeardIn phase body = Heard built n job.generation kept.run (split_sides d r (In phase) body) (split_reply d r (In phase) body)

    -- where it waits for its streams
    module _ (q : _) (holds : SplitHolds r (In (phases.Build q))) (owed : Owed built n taken.run kept.run (append_at x s n) r (In (phases.Build q))) (unheld : IsUnheld n x) where
      abbrev j : SplitJob
      j = In (phases.Build q)

      rests : Heard built n job.generation kept.run [] (stays d r j)
      rests = apart_heard built n job.generation kept [] (stays d r j) tt owed

      says : (SaysIf n child (says_keys d r j Low).job → built) → Heard built n job.generation kept.run (keys_said r j Low) (says_keys d r j Low)
      says since =
          build_heard built j apart holds.key child kept unheld
          (λ t. since (subst (λ b. SaysIf n child (if b then appends_keys d r j Low else stays d r j).job) (sym t) (tt, refl))) (λ b. owed child refl (λ w. b)) owed

      building : (body : Body) → (SaysIf n child (split_reply d r j body).job → built) → HeardIn (phases.Build q) body
      building (bodies.Append (appends.Refused w refusals.NameTaken)) since = says since
      building (bodies.Append (appends.Refused w refusals.Stale)) since = apart_heard built n job.generation kept [] (ends d r) tt tt
      building (bodies.Append (appends.Refused w why)) since = rests
      building (bodies.Append body) since = rests
      building (bodies.Stream (streams.Modified w)) since = says since
      building (bodies.Stream body) since = rests
      building (bodies.Map body) since = rests
      building (bodies.Seal body) since = rests
      building body since = rests

    -- where it says no keys
    quiet : (body : Body) (phase : SplitPhase) → (IsBuilding phase → ⊥) → Owed built n taken.run kept.run (append_at x s n) r (In phase) → Never built n taken.run kept.run (append_at x s n) (In phase) → Heard built n job.generation kept.run [] (told d r (In phase) body)
    quiet body phase none owed never = apart_heard built n job.generation kept [] (told d r (In phase) body) tt (told_owed built n taken.run kept.run (append_at x s n) d r (In phase) owed never none body)

    heard_in : (body : Body) (phase : SplitPhase) → SplitHolds r (In phase) → Owed built n taken.run kept.run (append_at x s n) r (In phase) → Never built n taken.run kept.run (append_at x s n) (In phase) →
        (IsBuilding phase ⊎ IsSaying phase → IsUnheld n x) → (SaysIf n child (split_reply d r (In phase) body).job → built) → HeardIn phase body
    heard_in body (phases.Build q) holds owed never unheld since = building q holds owed (unheld (inl tt)) body since
    heard_in body (phases.Keys out c) holds owed never unheld since =
        keys_heard built (In (phases.Keys out c)) apart holds.key out child kept (unheld (inr tt)) holds.phase.1 c (reply_rule (picking d c) (request d) body) (owed child refl (λ w. absurd w)) (reply_rule (picking d c) (request d) body).news
    heard_in body (phases.Begin q) holds owed never unheld since = quiet body (phases.Begin q) (λ z. z) owed never
    heard_in body phases.Checkpoint holds owed never unheld since = quiet body phases.Checkpoint (λ z. z) owed never
    heard_in body phases.Queue holds owed never unheld since = quiet body phases.Queue (λ z. z) owed never
    heard_in body phases.Record holds owed never unheld since = quiet body phases.Record (λ z. z) owed never
    heard_in body (phases.Seal kind q) holds owed never unheld since = quiet body (phases.Seal kind q) (λ z. z) owed never
    heard_in body (phases.Complete q) holds owed never unheld since = quiet body (phases.Complete q) (λ z. z) owed never

    pub child_heard : (body : Body) → SplitHolds r job → Owed built n taken.run kept.run (append_at x s n) r job → Never built n taken.run kept.run (append_at x s n) job →
        (IsBuilding job.phase ⊎ IsSaying job.phase → IsUnheld n x) → (SaysIf n child (split_reply d r job body).job → built) →
        Heard built n job.generation kept.run (split_sides d r job body) (split_reply d r job body)
    child_heard body holds owed never unheld since = heard_in body job.phase holds owed never unheld since
