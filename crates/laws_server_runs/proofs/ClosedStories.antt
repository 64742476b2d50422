-- Whatever comes to servers, no group is formed under a generation under which a split has closed the range: its log's story has no more of
-- them.
use Rattle.std.proofs.Common.{◌≡◌, ℕ, ◌+◌, ◌-◌, List, [], ◌∷◌, Bool, true, false, ◌&&◌, ◌==◌, Option, Some, None, slice_set, refl, sym, ap, ◌∙◌, subst, inl, inr, if◌then◌else◌}
use Rattle.std.specs.List.{AllByRecursion}
use Rattle.std.proofs.lemmas.Bool.{cases_eq}
use Rattle.block_types.specs.Limits.{group_size}
use Rattle.wire.specs.declared.streams.StreamKind.TheVariants as kinds
use Rattle.client.specs.declared.load.LoadPhase.TheVariants as load_phases
use Rattle.model_streams.specs.Maps.{entry_at}
use Rattle.model_partition.specs.declared.split_job.SplitJob.{SplitJob}
use Rattle.model_partition.specs.declared.split_job.SplitPhase.{SplitPhase}
use Rattle.model_partition.specs.declared.split_job.SplitPhase.TheVariants as phases
use Rattle.model_partition.specs.declared.table_note.TableNote.{TableNote}
use Rattle.model_partition.specs.Range.{RangeState, RangeOutcome, is_serving}
use Rattle.model_partition.specs.Server.{ServerState, ServerOutcome, range_of, split_of}
use Rattle.model_partition.specs.Servers.{ServerCell}
use Rattle.model_histories.specs.ServerRun.{ServerRun, RangeEffect, Does, Tells, Rests, after_action, after_sides, log_name, place_number, with_effect, with_outcome}
use Rattle.model_histories.specs.Story.{Made, Answered, event_at}
use Rattle.model_histories.specs.StreamActions.{StreamAction, Reads, Forms, Stands, Shows, Finds, Stores, SideAction, split_sides}
use Rattle.laws_loads.specs.RangeView.{log_of}
use Rattle.laws_server_runs.specs.ChildInvariant.{IsDrained, SplitPhaseHolds, SplitHoldsIf, SplitsHold}
use Rattle.laws_server_runs.specs.ClosedRanges.{HasPaused, SplitPlan, IsPausedBy, IsClosed, FormedBefore}
use Rattle.laws_server_runs.specs.Places.{RunLaid}
use Rattle.laws_server_runs.specs.RunInvariant.{view_at}
use Rattle.laws_server_runs.specs.Turns.{IsStep, Alone, BeginsSplit, Drops, Follows, Leaves, Holds, Hears, IsEffect, Own, None_done, OfOthers, Turn, Idles, Opens, Acts, RunStep, Keeps, Passes, Turns}
use Rattle.laws_server_runs.proofs.Actions.{other_test, actions_here, actions_beside}
use Rattle.laws_server_runs.proofs.FormedGroups.{FormNone, HasNoneOut, rule_none, followed_none, actions_made}
use Rattle.laws_server_runs.proofs.LaidSplits.{AppendsRecord}
use Rattle.laws_server_runs.proofs.RunSteps.{IsAny, IsAnyPair}
use Rattle.laws_server_runs.proofs.SideActions.{sides_append}
use Rattle.laws_server_runs.proofs.SplitJobs.{drained_on, ruled}

-- a split that has paused its range has drained it
pub paused_drained : (r : RangeState) (job : SplitJob) (phase : SplitPhase) → HasPaused phase → SplitPhaseHolds r job phase → IsDrained r
paused_drained r job phases.Record p h = h
paused_drained r job (phases.Seal kind q) p h = h
paused_drained r job (phases.Build q) p h = h
paused_drained r job (phases.Keys side c) p h = h.0
paused_drained r job (phases.Complete q) p h = h.0
paused_drained r job (phases.Begin q) p h = absurd p
paused_drained r job phases.Checkpoint p h = absurd p
paused_drained r job phases.Queue p h = absurd p

-- ---- one step of the range

module _ (plan : SplitPlan) (r : RangeState) (confirmed : is_serving r.stage ≡ true → r.load.phase ≡ load_phases.Confirmed) where
  -- where its split has paused it, if it is served
  step_none : (IsNumbered : (low high : ℕ) → Type 0) (job : Option SplitJob) (actions : List StreamAction) (o : RangeOutcome) (later : Option SplitJob) → IsStep IsNumbered r job actions o later → SplitHoldsIf (Some r) job →
      (is_serving r.stage ≡ true → IsPausedBy plan r job) → FormNone actions
  step_none IsNumbered job actions o later (Alone own_actions own rule) h paused = rule_none r actions o rule (λ serves. absurd (paused serves))
  step_none IsNumbered job actions o later (BeginsSplit d key may none splits) h paused = tt
  step_none IsNumbered job actions o later (Drops split own_actions own rule calm gone) h paused = rule_none r actions o rule (λ serves. subst HasNoneOut (sym gone) tt)
  step_none IsNumbered job actions o later (Follows split own_actions own rule calm room d counts next left) h paused =
      followed_none r split own_actions own rule d next
      (rule_none r own_actions own rule
      (λ serves. subst HasNoneOut (sym left) (drained_on r next (ruled r confirmed split h own_actions own rule calm next left) (paused_drained r split split.phase (paused serves).paused h.phase)).out))
  step_none IsNumbered job actions o later (Leaves split c d next left) h paused = tt
  step_none IsNumbered job actions o later (Holds split until count) h paused = tt
  step_none IsNumbered job actions o later (Hears split d body numbered) h paused = tt

-- ---- what a split does with the two that it makes is on their metadata

and_false : (b : Bool) → (b && false) ≡ false
and_false true = refl
and_false false = refl

module _ (range s g : ℕ) where
  side_story : (k : ℕ) (x : ServerRun) (action : StreamAction) → AppendsRecord action → (after_action s k g x action).story (log_name range) ≡ x.story (log_name range)
  side_story k x (Forms kinds.Metadata group) a = ap (λ b. if b then Made g group ∷ x.story (log_name range) else x.story (log_name range)) (and_false (range == k))
  side_story k x (Stands kinds.Metadata extent at group) a = ap (λ b. if b then Answered ((x.history s k).append kinds.Metadata) (place_number at) (place_number at + group_size group) ∷ x.story (log_name range) else x.story (log_name range)) (and_false (range == k))
  side_story k x (Forms kinds.Log group) a = absurd a
  side_story k x (Forms kinds.RowData group) a = absurd a
  side_story k x (Forms kinds.BlobData group) a = absurd a
  side_story k x (Stands kinds.Log extent at group) a = absurd a
  side_story k x (Stands kinds.RowData extent at group) a = absurd a
  side_story k x (Stands kinds.BlobData extent at group) a = absurd a
  side_story k x (Reads kind read) a = absurd a
  side_story k x (Shows start log_end metadata_end) a = absurd a
  side_story k x (Finds found) a = absurd a
  side_story k x (Stores stored) a = absurd a

  sides_story : (x : ServerRun) (sides : List SideAction) → AllByRecursion (λ (side : SideAction). AppendsRecord side.action) sides → (after_sides s g x sides).story (log_name range) ≡ x.story (log_name range)
  sides_story x [] a = refl
  sides_story x (side ∷ sides) a = side_story side.range (after_sides s g x sides) side.action a.0 ∙ sides_story x sides a.1

-- ---- a step of all

pub same_formed : (range g : ℕ) (x y : ServerRun) → y.story (log_name range) ≡ x.story (log_name range) → FormedBefore range g x y
same_formed range g x y same a group at = subst (λ story. event_at story a ≡ Some (Made g group)) same at

module _ (range g : ℕ) (x : ServerRun) (laid : RunLaid x) (splits : SplitsHold x.servers) (plan : SplitPlan) (old : IsClosed plan range g x) where
  module _ (s : ℕ) (cell : ServerCell) (st : ServerState) (at : entry_at x.servers s ≡ Some cell) (is : cell.state ≡ Some st) where
    abbrev Then : RangeEffect → ServerOutcome → ServerRun
    Then e o = with_outcome (with_effect s x e) (record { servers = slice_set x.servers (s - 1) (record cell { state = Some o.after }); packets = o.packets; notes = o.notes })

    abbrev Formed : RangeEffect → ServerOutcome → Type 0
    Formed e o = FormedBefore range g x (Then e o)

    holds_if : (r : RangeState) → range_of st.ranges range ≡ Some r → (job : Option SplitJob) → split_of st.splits range ≡ job → SplitHoldsIf (Some r) job
    holds_if r held None split = tt
    holds_if r held (Some job) split = splits s cell st at is range r job held split

    -- its own actions
    own_formed : (r : RangeState) → range_of st.ranges range ≡ Some r → (job : Option SplitJob) → split_of st.splits range ≡ job → (actions : List StreamAction) (o : RangeOutcome) (later : Option SplitJob) → IsStep IsAnyPair r job actions o later →
        (out : ServerOutcome) → Formed (Does range r.load.generation actions) out
    own_formed r held job split actions o later step out a group made =
        actions_made r.load.generation g (view_at range x s) actions
        (λ same. step_none plan r (laid.ranges s cell st at is range r held).confirmed IsAnyPair job actions o later step (holds_if r held job split)
        (λ serves. subst (IsPausedBy plan r) split (old s r (record { cell = cell; state = st; there = at; runs = is; held = held; serves = serves }) (sym same))))
        a group (ap (λ v. event_at (log_of v) a) (sym (actions_here s range r.load.generation x actions)) ∙ made)

    -- those of a range
    does_formed : (other : ℕ) (r : RangeState) → range_of st.ranges other ≡ Some r → (actions : List StreamAction) (o : RangeOutcome) (later : Option SplitJob) → IsStep IsAnyPair r (split_of st.splits other) actions o later →
        (out : ServerOutcome) → Formed (Does other r.load.generation actions) out
    does_formed other r held actions o later step out = elim (cases_eq range other) [
      | inl same ↦
          subst (λ n. range_of st.ranges n ≡ Some r → IsStep IsAnyPair r (split_of st.splits n) actions o later → Formed (Does n r.load.generation actions) out) same
          (λ mine own. own_formed r mine (split_of st.splits range) refl actions o later own out) held step
      | inr apart ↦ same_formed range g x (Then (Does other r.load.generation actions) out) (actions_beside s other r.load.generation (log_name range) (other_test range other apart) x actions)
    ]

    effect_formed : (other : ℕ) (r : RangeState) → range_of st.ranges other ≡ Some r → (job : Option SplitJob) → split_of st.splits other ≡ job → (e : RangeEffect) (o : RangeOutcome) (later : Option SplitJob) → IsEffect IsAnyPair other r job e o later →
        (out : ServerOutcome) → Formed e out
    effect_formed other r held job split e o later (Own own actions after left step unheard) out = does_formed other r held actions o later (subst (λ j. IsStep IsAnyPair r j actions o later) (sym split) step) out
    effect_formed other r held job split e o later (None_done own after left step unheard) out = same_formed range g x (Then Rests out) refl
    effect_formed other r held job split e o later (OfOthers splitting d body after left step heard) out =
        same_formed range g x (Then (Tells splitting.generation (split_sides d r splitting body)) out) (sides_story range s splitting.generation x (split_sides d r splitting body) (sides_append d r splitting body))

    turn_formed : (e : RangeEffect) (o : ServerOutcome) → Turn IsAny IsAnyPair st e o → Formed e o
    turn_formed e o (Idles next packets same left) = same_formed range g x (Then e o) refl
    turn_formed e o (Opens other assigned d generation until next packets new left) = same_formed range g x (Then e o) refl
    turn_formed e o (Acts other r held effect ro later is_effect next packets left left_splits) = effect_formed other r held (split_of st.splits other) refl effect ro later is_effect (record { after = next; packets = packets; notes = ro.notes })

  -- NO STEP forms a group under it
  pub formed_step : (notes : List TableNote) (y : ServerRun) → RunStep IsAny IsAnyPair x notes y → FormedBefore range g x y
  formed_step notes y (Keeps servers packets like) = same_formed range g x y refl
  formed_step notes y (Passes servers like) = same_formed range g x y refl
  formed_step notes y (Turns s cell st at is e o turn) = turn_formed s cell st at is e o turn
