-- A range that no server ever had, whose streams were not built, and of whose keys no split says anything, is untouched: nothing is done
-- with its streams, nothing of it was shown or answered, and nothing is told of it.
use Rattle.std.proofs.Common.{◌≡◌, ⊎_elim, ℕ, ◌-◌, ◌==◌, false, List, [], ◌∷◌, ◌++◌, Option, Some, None, slice_set, refl, sym, ap, ◌∙◌, subst, if◌then◌else◌}
use Rattle.wire.specs.declared.body.AppendBody.{AppendBody}
use Rattle.wire.specs.declared.body.AppendBody.TheVariants as appends
use Rattle.wire.specs.declared.body.Body.{Body}
use Rattle.wire.specs.declared.body.Body.TheVariants as bodies
use Rattle.wire.specs.declared.body.StreamBody.{StreamBody}
use Rattle.wire.specs.declared.body.StreamBody.TheVariants as streams
use Rattle.wire.specs.declared.note.Note.{Note}
use Rattle.wire.specs.declared.packet.Packet.{Packet}
use Rattle.wire.specs.declared.refusal.Refusal.TheVariants as refusals
use Rattle.wire.specs.declared.streams.StreamKind.{StreamKind}
use Rattle.client.specs.Client.{ClientState, append_rule, reply_rule}
use Rattle.metadata.specs.Record.{spelling}
use Rattle.model_streams.specs.Maps.{entry_at}
use Rattle.model_streams.proofs.Tests.{if_elim}
use Rattle.model_partition.specs.declared.server_context.ServerContext.{ServerContext}
use Rattle.model_partition.specs.declared.split_job.Side.{Side}
use Rattle.model_partition.specs.declared.split_job.Side.TheVariants.{Low}
use Rattle.model_partition.specs.declared.split_job.SplitJob.{SplitJob}
use Rattle.model_partition.specs.declared.split_job.SplitPhase.{SplitPhase}
use Rattle.model_partition.specs.declared.split_job.SplitPhase.TheVariants as phases
use Rattle.model_partition.specs.declared.table_note.TableNote.{TableNote}
use Rattle.model_partition.specs.Past.{Bytes}
use Rattle.model_partition.specs.Range.{RangeState, RangeOutcome, request, picking, given}
use Rattle.model_partition.specs.Server.{ServerState, ServerOutcome, range_of, split_of}
use Rattle.model_partition.specs.Servers.{ServerCell}
use Rattle.model_partition.specs.Splits.{stays, with_phase, side_range, side_metadata, keys_record, may_say_keys, appends_keys, says_keys, refused, stream_told, split_reply_in, split_reply}
use Rattle.model_histories.specs.Log.{only}
use Rattle.model_histories.specs.ServedTables.{AreSeenAs}
use Rattle.model_histories.specs.ServerRun.{ServerRun, RangeEffect, Begins, ServerEvent, after_event, after_actions, after_sides, first_run, run_of, built_streams, own_or, stream_named, with_effect, with_outcome}
use Rattle.model_histories.specs.StreamActions.{StreamAction, SideAction, keys_said, built, sides_in, split_sides}
use Rattle.laws_loads.proofs.Entries.{entry_set}
use Rattle.laws_server_runs.specs.ChildInvariant.{ChildAt, HasPair, IsSaying, IsUnheld, IsUntouched}
use Rattle.laws_server_runs.specs.Places.{RunLaid}
use Rattle.laws_server_runs.specs.Turns.{outcome_of, IsStep, Alone, BeginsSplit, Drops, Follows, Leaves, Holds, Hears, IsHeard, IsEffect, Own, None_done, OfOthers, Turn, Idles, Opens, Acts, BuildsOther, RunStep, Keeps, Passes, Turns}
use Rattle.laws_server_runs.proofs.Actions.{other_test, actions_beside, actions_bytes, AreOthers, SidesBeside, sides_beside, sides_rest}
use Rattle.laws_server_runs.proofs.Fronts.{SeenBoth, seen_both}
use Rattle.laws_server_runs.proofs.LaidRuns.{bare, no_splits, all_laid, event_notes}
use Rattle.laws_server_runs.proofs.NotedRanges.{AreNoted, Nothing, OfOne, run_noted}
use Rattle.laws_server_runs.proofs.OwnNotes.{only_both, other_notes}
use Rattle.laws_server_runs.proofs.RunSteps.{IsAny, IsAnyPair, any_assigned, any_numbered, event_kind, event_step}
use Rattle.laws_server_runs.proofs.SideActions.{told_are}
use Rattle.laws_server_runs.proofs.TurnChanges.{acted_one}
use Rattle.laws_server_runs.proofs.Unmerged.{unmerged}

-- no server has the range, and no split says its keys
pub record IsUnused (k : ℕ) (x : ServerRun) : Type 0 where
  pub unheld : IsUnheld k x
  pub unsaid : (s range : ℕ) (c : ChildAt x s range k) → IsSaying c.job.phase → ⊥

-- nothing was done with its streams, and nothing of it was shown or answered
pub record HasNothing (k : ℕ) (x : ServerRun) : Type 0 where
  pub story : (kind : StreamKind) → x.story (stream_named k kind) ≡ []
  pub shown : x.shown k ≡ []
  pub answered : x.answered k ≡ []

-- what a split that hears an answer leaves of itself
heard_later : (r : RangeState) (job : Option SplitJob) (actions : List StreamAction) (o : RangeOutcome) (later : Option SplitJob) (d : ServerContext) (body : Body) (step : IsStep IsAnyPair r job actions o later) → IsHeard d body step →
    (split : SplitJob) → job ≡ Some split → later ≡ (split_reply d r split body).job
heard_later r job actions o later d body (Alone own_actions own rule) heard split is = absurd heard
heard_later r job actions o later d body (BeginsSplit c key may none splits) heard split is = absurd heard
heard_later r job actions o later d body (Drops other own_actions own rule calm gone) heard split is = absurd heard
heard_later r job actions o later d body (Follows other own_actions own rule calm room c counts next left) heard split is = absurd heard
heard_later r job actions o later d body (Leaves other c e next left) heard split is = absurd heard
heard_later r job actions o later d body (Holds other until count) heard split is = absurd heard
heard_later r job actions o later d body (Hears other c answer numbered) heard split is =
    let same : other ≡ split = cc in
    (λ i. (split_reply (sym heard.0 i) r (same i) (sym heard.1 i)).job)

module _ (k : ℕ) where
  module _ (x : ServerRun) (nothing : HasNothing k x) where
    nothing_on : (y : ServerRun) → ((kind : StreamKind) → y.story (stream_named k kind) ≡ x.story (stream_named k kind)) → y.shown k ≡ x.shown k → y.answered k ≡ x.answered k → HasNothing k y
    nothing_on y story shown answered = record { story = λ kind. story kind ∙ nothing.story kind; shown = shown ∙ nothing.shown; answered = answered ∙ nothing.answered }

    acts_nothing : (s range g : ℕ) (actions : List StreamAction) → (k ≡ range → ⊥) → HasNothing k (after_actions s range g x actions)
    acts_nothing s range g actions other =
        let bytes = actions_bytes s range g k other x actions in
        nothing_on (after_actions s range g x actions) (λ kind. actions_beside s range g (stream_named k kind) (other_test k range other) x actions) bytes.0 bytes.1

    sides_nothing : (s g : ℕ) (sides : List SideAction) → AreOthers k sides → HasNothing k (after_sides s g x sides)
    sides_nothing s g sides others =
        let b : SidesBeside k x (after_sides s g x sides) = sides_beside s g k x sides others in
        nothing_on (after_sides s g x sides) (λ kind. b.story (stream_named k kind) refl) b.shown b.answered

    pub built_nothing : (source range : ℕ) → (range ≡ k → ⊥) → HasNothing k (built_streams source range x)
    built_nothing source range other =
        let apart : (k == range) ≡ false = other_test k range (λ e. other (sym e)) in
        nothing_on (built_streams source range x) (λ kind. ap (λ b. if b then own_or (x.story (stream_named k kind)) (x.story (stream_named source kind)) else x.story (stream_named k kind)) apart)
        (ap (λ b. if b then own_or (x.shown range) (x.shown source) else x.shown k) apart) (ap (λ b. if b then own_or (x.answered range) (x.answered source) else x.answered k) apart)

  -- ---- a server takes a turn

  module _ (x : ServerRun) (laid : RunLaid x) (unused : IsUnused k x) (nothing : HasNothing k x) where
    module _ (s : ℕ) (cell : ServerCell) (st : ServerState) (at : entry_at x.servers s ≡ Some cell) (is : cell.state ≡ Some st) where
      other_range : (range : ℕ) (r : RangeState) → range_of st.ranges range ≡ Some r → k ≡ range → ⊥
      other_range range r held same = unused.unheld s cell st at is r (subst (λ n. range_of st.ranges n ≡ Some r) (sym same) held)

      abbrev Then : RangeEffect → ServerOutcome → ServerRun
      Then e o = with_outcome (with_effect s x e) (record { servers = slice_set x.servers (s - 1) (record cell { state = Some o.after }); packets = o.packets; notes = o.notes })

      -- an answer comes to a split
      module _ (range : ℕ) (r : RangeState) (job : SplitJob) (split : split_of st.splits range ≡ Some job) (d : ServerContext) (body : Body)
          (then_said : (left : SplitJob) → HasPair left.phase → IsSaying left.phase → (side : Side) → k ≡ side_range left side → (split_reply d r job body).job ≡ Some left → ⊥) where
        -- the record of the lower one's keys is sent
        low_others : (says_keys d r job Low).job ≡ (split_reply d r job body).job → AreOthers k (keys_said r job Low)
        low_others same =
            let c : ClientState = side_metadata d r job Low in
            let left : SplitJob = with_phase job (phases.Keys Low (given c (append_rule c (request d) (spelling (keys_record r job Low) ∷ []))).after) in
            if_elim (AreOthers k) (may_say_keys r job) _ _
            (λ t. ((λ e. then_said left tt tt Low e (sym same ∙ ap (λ b. (if b then appends_keys d r job Low else stays d r job).job) t)), tt)) (λ f. tt)

        said_others : (phase : SplitPhase) → job.phase ≡ phase → AreOthers k (sides_in d r job phase body)
        said_others (phases.Keys side c) e =
            told_are (λ (one : SideAction). k ≡ one.range → ⊥) d r job saying (λ one extent place group. saying one) side c (reply_rule (picking d c) (request d) body).news
          where
            saying : (one : Side) → k ≡ side_range job one → ⊥
            saying one same =
                unused.unsaid s range
                (record { cell = cell; state = st; there = at; runs = is; job = job; found = split; pair = subst HasPair (sym e) tt; side = one; is = same }) (subst IsSaying (sym e) tt)
        said_others (phases.Build q) e = by body refl
          where
            refused_by : (answer : AppendBody) → body ≡ bodies.Append answer → AreOthers k (built r job (bodies.Append answer))
            refused_by (appends.Refused w refusals.NameTaken) same =
                low_others (sym
                (ap (λ b. (split_reply d r job b).job) same ∙ ap (λ z. (split_reply_in d r job z (bodies.Append (appends.Refused w refusals.NameTaken))).job) e ∙ ap (λ z. (refused d r job z refusals.NameTaken).job) e))
            refused_by answer same = tt

            modified_by : (answer : StreamBody) → body ≡ bodies.Stream answer → AreOthers k (built r job (bodies.Stream answer))
            modified_by (streams.Modified w) same =
                low_others (sym
                (ap (λ b. (split_reply d r job b).job) same ∙ ap (λ z. (split_reply_in d r job z (bodies.Stream (streams.Modified w))).job) e ∙ ap (λ z. (stream_told d r job z (streams.Modified w)).job) e))
            modified_by answer same = tt

            by : (b : Body) → body ≡ b → AreOthers k (built r job b)
            by (bodies.Append answer) same = refused_by answer same
            by (bodies.Stream answer) same = modified_by answer same
            by other same = tt
        said_others (phases.Begin q) e = tt
        said_others phases.Checkpoint e = tt
        said_others phases.Queue e = tt
        said_others phases.Record e = tt
        said_others (phases.Seal kind q) e = tt
        said_others (phases.Complete q) e = tt

      effect_nothing : (range : ℕ) (r : RangeState) → range_of st.ranges range ≡ Some r → (job : Option SplitJob) → split_of st.splits range ≡ job → (e : RangeEffect) (o : RangeOutcome) (later : Option SplitJob) → IsEffect IsAnyPair range r job e o later →
          (next : ServerState) → split_of next.splits range ≡ later → (packets : List Packet) → IsUnused k (Then e (record { after = next; packets = packets; notes = o.notes })) → HasNothing k (with_effect s x e)
      effect_nothing range r held job split e o later (Own own actions after left_job step unheard) next left packets unused_then = acts_nothing x nothing s range r.load.generation actions (other_range range r held)
      effect_nothing range r held job split e o later (None_done own after left_job step unheard) next left packets unused_then = nothing
      effect_nothing range r held job split e o later (OfOthers splitting d body after left_job step heard) next left packets unused_then =
          sides_nothing x nothing s splitting.generation (split_sides d r splitting body) (said_others range r splitting split d body then_said splitting.phase refl)
        where
          rest : (with_effect s x e).servers ≡ x.servers
          rest = (sides_rest s splitting.generation x (split_sides d r splitting body)).0

          then_said : (mine : SplitJob) → HasPair mine.phase → IsSaying mine.phase → (side : Side) → k ≡ side_range mine side → (split_reply d r splitting body).job ≡ Some mine → ⊥
          then_said mine pair saying side same is_left =
              unused_then.unsaid s range
              (record {
                cell = record cell { state = Some next };
                state = next;
                there = entry_set x.servers s cell (record cell { state = Some next }) at;
                runs = refl;
                job = mine;
                found = left ∙ heard_later r (Some splitting) [] o later d body step heard splitting refl ∙ is_left;
                pair = pair;
                side = side;
                is = same;
              })
              saying

      turn_nothing : (e : RangeEffect) (o : ServerOutcome) → Turn IsAny IsAnyPair st e o → IsUnused k (Then e o) → HasNothing k (with_effect s x e)
      turn_nothing e o (Idles next packets same splits) unused_then = nothing
      turn_nothing e o (Opens range assigned d generation until next packets new splits) unused_then = nothing_on x nothing (with_effect s x (Begins range)) (λ kind. refl) refl refl
      turn_nothing e o (Acts range r held effect ro later is_effect next packets left splits) unused_then =
          effect_nothing range r held (split_of st.splits range) refl effect ro later is_effect next
          (acted_one st next (laid.ascending s cell st at is) (laid.splits s cell st at is) range r held ro.after later left splits).split_here packets unused_then

    pub step_nothing : (notes : List TableNote) (y : ServerRun) → RunStep IsAny IsAnyPair x notes y → IsUnused k y → HasNothing k y
    step_nothing notes y (Keeps servers packets like) unused_then = nothing_on x nothing y (λ kind. refl) refl refl
    step_nothing notes y (Passes servers like) unused_then = nothing_on x nothing y (λ kind. refl) refl refl
    step_nothing notes y (Turns s cell st at is e o turn) unused_then =
        let h : HasNothing k (with_effect s x e) = turn_nothing s cell st at is e o turn unused_then in
        record { story = h.story; shown = h.shown; answered = h.answered }

  -- ---- what is told

  -- nothing of it
  noted_other : (x : ServerRun) → IsUnused k x → (texts : ℕ → Bytes) (shown : List TableNote) (notes : List Note) → AreNoted x shown → AreSeenAs texts shown notes → only k notes ≡ []
  noted_other x unused texts shown [] noted seen = refl
  noted_other x unused texts shown (note ∷ notes) Nothing seen = absurd seen
  noted_other x unused texts shown (note ∷ notes) (OfOne told of) seen =
      other_notes texts of.placed of.range of.held.load.generation k (λ same. unused.unheld of.server of.cell of.state of.there of.up of.held (subst (λ n. range_of of.state.ranges n ≡ Some of.held) (sym same) of.found)) shown (note ∷ notes) of.notes seen

-- ---- lists of events

module _ (k batch servers : ℕ) where
  -- at all times, and its streams were not built
  abbrev pub StaysUnused : List ServerEvent → Type 0
  StaysUnused [] = Unit {0}
  StaysUnused (event ∷ earlier) = IsUnused k (run_of batch servers (event ∷ earlier)) × BuildsOther k event × StaysUnused earlier

  first_unused : IsUnused k (first_run batch servers)
  first_unused = record {
    unheld = λ s cell st at up r held. let z : None ≡ Some r = sym (ap (λ l. range_of l k) (bare batch servers s cell st at up)) ∙ held in absurd cc;
    unsaid = λ s range c saying. let z : None ≡ Some c.job = sym (ap (λ l. split_of l range) (no_splits batch servers s c.cell c.state c.there c.runs)) ∙ c.found in absurd cc;
  }

  unused_of : (events : List ServerEvent) → StaysUnused events → IsUnused k (run_of batch servers events)
  unused_of [] stays = first_unused
  unused_of (event ∷ earlier) stays = stays.0

  pub has_nothing : (events : List ServerEvent) → StaysUnused events → HasNothing k (run_of batch servers events)
  has_nothing [] stays = record { story = λ kind. refl; shown = refl; answered = refl }
  has_nothing (event ∷ earlier) stays =
      let x : ServerRun = run_of batch servers earlier in
      let old : HasNothing k x = has_nothing earlier stays.2 in
      ⊎_elim {C = HasNothing k (after_event x event)}
      (λ is.
      step_nothing k x (all_laid batch servers earlier) (unused_of earlier stays.2) old (outcome_of x.servers event).notes (after_event x event)
      (event_step IsAny IsAnyPair x (unmerged batch servers earlier) event is (any_assigned event) (any_numbered event)) stays.0)
      (λ build. subst (λ e. HasNothing k (after_event x e)) (sym build.2) (built_nothing k x old build.0 build.1 (stays.1 build.0 build.1 build.2)))
      (event_kind event)

  -- so nothing is told of it
  pub untold : (texts : ℕ → Bytes) (events : List ServerEvent) → StaysUnused events → (notes : List Note) → AreSeenAs texts (run_of batch servers events).notes notes → only k notes ≡ []
  untold texts [] stays [] seen = refl
  untold texts [] stays (note ∷ notes) seen = absurd seen
  untold texts (event ∷ earlier) stays notes seen =
      let x : ServerRun = run_of batch servers earlier in
      let shown : List TableNote = (outcome_of x.servers event).notes in
      let b : SeenBoth texts x.notes shown notes = seen_both texts x.notes shown notes (subst (λ l. AreSeenAs texts l notes) (event_notes batch servers x event) seen) in
      let old : only k b.before ≡ [] = untold texts earlier stays.2 b.before b.first_seen in
      let noted : AreNoted x shown =
      ⊎_elim {C = AreNoted x shown}
      (λ is. run_noted x (all_laid batch servers earlier) shown (after_event x event) (event_step IsAny IsAnyPair x (unmerged batch servers earlier) event is (any_assigned event) (any_numbered event)))
      (λ build. subst (λ e. AreNoted x (outcome_of x.servers e).notes) (sym build.2) Nothing) (event_kind event) in
      let new : only k b.later ≡ [] = noted_other k x (unused_of earlier stays.2) texts shown b.later noted b.second_seen in
      ap (only k) b.is ∙ only_both k b.before b.later ∙ (λ i. old i ++ new i)

  -- IT IS UNTOUCHED
  pub untouched : (texts : ℕ → Bytes) (events : List ServerEvent) → StaysUnused events → IsUntouched texts k (run_of batch servers events)
  untouched texts events stays = record {
    story = (has_nothing events stays).story;
    held = λ s cell st at up. none (range_of st.ranges k) (λ r held. (unused_of events stays).unheld s cell st at up r held);
    untold = untold texts events stays;
  }
    where
      none : (x : Option RangeState) → ((r : RangeState) → x ≡ Some r → ⊥) → x ≡ None
      none None other = refl
      none (Some r) other = absurd (other r refl)
