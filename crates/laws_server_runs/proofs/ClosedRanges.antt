-- A range that was served under a generation, and is so marked wherever it is served under that, stays so marked whatever comes to servers,
-- if its steps leave the mark: no server comes to serve it under that anew. So a range that a split has closed stays closed, for no split
-- that has paused it is lost while it stays; and one that is split stays so, for its split is lost only with it.
use Rattle.std.proofs.Common.{◌≡◌, ⊎_elim, ℕ, ◌-◌, List, [], ◌∷◌, ◌++◌, true, false, Option, Some, None, slice_set, refl, sym, ap, ◌∙◌, subst, inl, inr}
use Rattle.std.proofs.lemmas.Bool.{cases_eq}
use Rattle.client.specs.declared.load.LoadPhase.TheVariants as load_phases
use Rattle.model_streams.specs.Maps.{entry_at}
use Rattle.model_partition.specs.declared.split_job.SplitJob.{SplitJob}
use Rattle.model_partition.specs.declared.table_note.TableNote.{TableNote}
use Rattle.model_partition.specs.Past.{Bytes}
use Rattle.model_partition.specs.Range.{RangeState, RangeOutcome, is_serving}
use Rattle.model_partition.specs.Server.{ServerState, ServerOutcome, range_of, new_range, split_of}
use Rattle.model_partition.specs.Servers.{ServerCell}
use Rattle.model_histories.specs.ServerRun.{ServerRun, RangeEffect, after_actions, with_effect, with_outcome}
use Rattle.model_histories.specs.StreamActions.{StreamAction}
use Rattle.laws_loads.specs.RangeView.{view_after_all}
use Rattle.laws_tables.specs.Runs.{Run, IsServing}
use Rattle.laws_server_runs.specs.ChildInvariant.{SplitHoldsIf, SplitsHold}
use Rattle.laws_server_runs.specs.ClosedRanges.{SplitPlan, IsPausedBy, IsMarked, IsBusy, IsClosed}
use Rattle.laws_server_runs.specs.Places.{RunLaid}
use Rattle.laws_server_runs.specs.RangeInvariant.{InOrder, IsLonger, ServesAnew}
use Rattle.laws_server_runs.specs.RunInvariant.{view_at, Taken, RunBehind, HeldIf, TurnKept}
use Rattle.laws_server_runs.specs.Turns.{IsStep, IsEffect, Own, None_done, OfOthers, Turn, Idles, Opens, Acts, HoldNoMore, RunStep, Keeps, Passes, Turns}
use Rattle.laws_server_runs.proofs.Actions.{actions_here}
use Rattle.laws_server_runs.proofs.Others.{streams_same, serving_on}
use Rattle.laws_server_runs.proofs.PausedSplits.{PausedIf, step_paused}
use Rattle.laws_server_runs.proofs.RunSteps.{IsAny, IsAnyPair}
use Rattle.laws_server_runs.proofs.SplitStays.{StaysIf, RemainsIf, still_split, step_stays}
use Rattle.laws_server_runs.proofs.SplitTurns.{step_turn}
use Rattle.laws_server_runs.proofs.TurnChanges.{ChangesOne, opened_one, acted_one, found_after}

-- a generation that is served stays so while the run goes on
pub serving_behind : (g : ℕ) (more run : Run) → IsServing run g → IsServing (more ++ run) g
serving_behind g [] run s = s
serving_behind g (e ∷ more) run s = serving_on e (more ++ run) g (serving_behind g more run s)

pub serving_longer : (g : ℕ) (run later : Run) → IsLonger run later → IsServing run g → IsServing later g
serving_longer g run later goes s = subst (λ z. IsServing z g) (sym goes.1) (serving_behind g goes.0 run s)

module _ (texts : ℕ → Bytes) (range g : ℕ) (taken : Taken) (x : ServerRun) (laid : RunLaid x) (k : RunBehind texts range taken x) (served : IsServing k.run g) (order : InOrder texts (view_at range x 0)) where
  -- what is kept of a turn of the range itself
  abbrev pub Turned : (s : ℕ) (r : RangeState) → List StreamAction → RangeOutcome → Option SplitJob → Type 0
  Turned s r actions o later = TurnKept texts range k.run (view_at range x s) r actions o later

  module _ (s : ℕ) (cell : ServerCell) (st : ServerState) (at : entry_at x.servers s ≡ Some cell) (is : cell.state ≡ Some st) where
    -- where its actions leave its streams in order
    turned : (r : RangeState) → range_of st.ranges range ≡ Some r → (actions : List StreamAction) (o : RangeOutcome) (later : Option SplitJob) → IsStep IsAnyPair r (split_of st.splits range) actions o later →
        InOrder texts (view_after_all r.load.generation (view_at range x s) actions) → Turned s r actions o later
    turned r held actions o later step ordered =
        step_turn texts range k.run (view_at range x s) r (streams_same texts k.run (view_at range x 0) (view_at range x s) refl refl k.streams) (laid.ranges s cell st at is range r held).low
        IsAnyPair (split_of st.splits range) actions o later step (k.ranges s cell st at is r held) ordered

    pub turned_here : (r : RangeState) → range_of st.ranges range ≡ Some r → (actions : List StreamAction) (o : RangeOutcome) (later : Option SplitJob) → IsStep IsAnyPair r (split_of st.splits range) actions o later →
        InOrder texts (view_at range (after_actions s range r.load.generation x actions) 0) → Turned s r actions o later
    turned_here r held actions o later step after =
        turned r held actions o later step
        (subst (λ v. InOrder texts v) (actions_here s range r.load.generation x actions)
        (record { log = after.log; metadata = after.metadata; once = after.once; ends = after.ends; shown = after.shown; answered = after.answered }))

    -- where it does nothing with its own streams
    pub turned_calmly : (r : RangeState) → range_of st.ranges range ≡ Some r → (o : RangeOutcome) (later : Option SplitJob) → IsStep IsAnyPair r (split_of st.splits range) [] o later → Turned s r [] o later
    turned_calmly r held o later step =
        turned r held [] o later step (record { log = order.log; metadata = order.metadata; once = order.once; ends = order.ends; shown = order.shown; answered = order.answered })

  -- by its split, wherever it is served under the generation
  module _ (Marked : RangeState → Option SplitJob → Type 0)
      (stays : (r : RangeState) → (is_serving r.stage ≡ true → r.load.phase ≡ load_phases.Confirmed) → (job : Option SplitJob) (actions : List StreamAction) (o : RangeOutcome) (later : Option SplitJob) → IsStep IsAnyPair r job actions o later →
      SplitHoldsIf (Some r) job → Marked r job → (z : RangeState) → o.after ≡ Some z → Marked z later)
      (splits : SplitsHold x.servers) (old : IsMarked Marked range g x) where
    -- at one server
    abbrev IsClosedAt : ServerState → Type 0
    IsClosedAt q = (r : RangeState) → range_of q.ranges range ≡ Some r → is_serving r.stage ≡ true → r.load.generation ≡ g → Marked r (split_of q.splits range)

    pub closed_at : (t : ℕ) (c : ServerCell) (q : ServerState) → entry_at x.servers t ≡ Some c → c.state ≡ Some q → IsClosedAt q
    closed_at t c q there up r held serves same = old t r (record { cell = c; state = q; there = there; runs = up; held = held; serves = serves }) same

    abbrev AreClosed : List ServerCell → Type 0
    AreClosed servers = (t : ℕ) (c : ServerCell) (q : ServerState) → entry_at servers t ≡ Some c → c.state ≡ Some q → IsClosedAt q

    closed_like : (st q : ServerState) → range_of q.ranges range ≡ range_of st.ranges range → split_of q.splits range ≡ split_of st.splits range → IsClosedAt st → IsClosedAt q
    closed_like st q ranges same_splits was r held serves same = subst (Marked r) (sym same_splits) (was r (sym ranges ∙ held) serves same)

    held_so : (servers : List ServerCell) → HoldNoMore x.servers servers → AreClosed servers
    held_so servers like t c q there up r held serves same = elim (like t c q there up) [
      | inl none ↦ absurd (let z : None ≡ Some r = sym (ap (λ l. range_of l range) none.0) ∙ held in cc)
      | inr was ↦ closed_like was.1 q (ap (λ l. range_of l range) was.4) (ap (λ l. split_of l range) was.5) (closed_at t was.0 was.1 was.2 was.3) r held serves same
    ]

    -- a range that serves under the generation after its turn served under it before
    pub served_before : (s : ℕ) (r : RangeState) (actions : List StreamAction) (o : RangeOutcome) (later : Option SplitJob) → Turned s r actions o later → (z : RangeState) → o.after ≡ Some z → is_serving z.stage ≡ true → z.load.generation ≡ g →
        (is_serving r.stage ≡ true) × (r.load.generation ≡ g)
    served_before s r actions o later t z after serves same =
        let kept : HeldIf texts range t.next (view_after_all r.load.generation (view_at range x s) actions) r.load.generation (Some z) later =
        subst (λ q. HeldIf texts range t.next (view_after_all r.load.generation (view_at range x s) actions) r.load.generation q later) after t.kept in
        let mine : r.load.generation ≡ g = sym kept.1 ∙ same in
        let anew : ServesAnew texts k.run r (Some z) = subst (ServesAnew texts k.run r) after t.anew in (
          ⊎_elim {C = is_serving r.stage ≡ true} (λ was. was) (λ none. absurd (none (subst (IsServing k.run) (sym mine) served))) (anew serves),
          mine,
        )

    module _ (s : ℕ) (cell : ServerCell) (st : ServerState) (at : entry_at x.servers s ≡ Some cell) (is : cell.state ≡ Some st) where
      one_closed : (next : ServerState) → IsClosedAt next → AreClosed (slice_set x.servers (s - 1) (record cell { state = Some next }))
      one_closed next mine t c q there up = elim (found_after x.servers s cell at next t c q there up) [
        | inl same ↦ subst IsClosedAt same.1 mine
        | inr other ↦ closed_at t c q other.1 up
      ]

      holds_if : (r : RangeState) → range_of st.ranges range ≡ Some r → (job : Option SplitJob) → split_of st.splits range ≡ job → SplitHoldsIf (Some r) job
      holds_if r held None split = tt
      holds_if r held (Some job) split = splits s cell st at is range r job held split

      -- the range itself takes the step
      closed_here : (r : RangeState) → range_of st.ranges range ≡ Some r → (actions : List StreamAction) (o : RangeOutcome) (later : Option SplitJob) → IsStep IsAnyPair r (split_of st.splits range) actions o later → Turned s r actions o later →
          (next : ServerState) → ChangesOne st next range o.after later → IsClosedAt next
      closed_here r held actions o later step t next c z found serves same =
          let after : o.after ≡ Some z = sym c.range_here ∙ found in
          let was : (is_serving r.stage ≡ true) × (r.load.generation ≡ g) = served_before s r actions o later t z after serves same in
          subst (Marked z) (sym c.split_here)
          (stays r (laid.ranges s cell st at is range r held).confirmed (split_of st.splits range) actions o later step (holds_if r held (split_of st.splits range) refl) (closed_at s cell st at is r held was.0 was.1) z after)

      -- another does
      closed_beside : (other : ℕ) → (range ≡ other → ⊥) → (after : Option RangeState) (later : Option SplitJob) (next : ServerState) → ChangesOne st next other after later → IsClosedAt next
      closed_beside other apart after later next c = closed_like st next (c.ranges range apart) (c.splits range apart) (closed_at s cell st at is)

      abbrev Then : RangeEffect → ServerOutcome → ServerRun
      Then e o = with_outcome (with_effect s x e) (record { servers = slice_set x.servers (s - 1) (record cell { state = Some o.after }); packets = o.packets; notes = o.notes })

      effect_turned : (r : RangeState) → range_of st.ranges range ≡ Some r → (job : Option SplitJob) → split_of st.splits range ≡ job → (e : RangeEffect) (o : RangeOutcome) (later : Option SplitJob) → IsEffect IsAnyPair range r job e o later →
          (next : ServerOutcome) → InOrder texts (view_at range (Then e next) 0) → (actions : List StreamAction) × IsStep IsAnyPair r (split_of st.splits range) actions o later × Turned s r actions o later
      effect_turned r held job split e o later (Own own actions after left step unheard) next now =
          let here : IsStep IsAnyPair r (split_of st.splits range) actions o later = subst (λ j. IsStep IsAnyPair r j actions o later) (sym split) step in
          (actions, here, turned_here s cell st at is r held actions o later here (record { log = now.log; metadata = now.metadata; once = now.once; ends = now.ends; shown = now.shown; answered = now.answered }))
      effect_turned r held job split e o later (None_done own after left step unheard) next now =
          let here : IsStep IsAnyPair r (split_of st.splits range) [] o later = subst (λ j. IsStep IsAnyPair r j [] o later) (sym split) step in
          ([], here, turned_calmly s cell st at is r held o later here)
      effect_turned r held job split e o later (OfOthers splitting d body after left step heard) next now =
          let here : IsStep IsAnyPair r (split_of st.splits range) [] o later = subst (λ j. IsStep IsAnyPair r j [] o later) (sym split) step in
          ([], here, turned_calmly s cell st at is r held o later here)

      -- the step of a range
      acts_closed : (other : ℕ) (r : RangeState) → range_of st.ranges other ≡ Some r → (e : RangeEffect) (o : RangeOutcome) (later : Option SplitJob) → IsEffect IsAnyPair other r (split_of st.splits other) e o later →
          (next : ServerState) → ChangesOne st next other o.after later → (out : ServerOutcome) → InOrder texts (view_at range (Then e out) 0) → IsClosedAt next
      acts_closed other r held e o later effect next c out now = elim (cases_eq range other) [
        | inl same ↦
            (let mine : range_of st.ranges range ≡ Some r = subst (λ n. range_of st.ranges n ≡ Some r) (sym same) held in
            let own : IsEffect IsAnyPair range r (split_of st.splits range) e o later = subst (λ n. IsEffect IsAnyPair n r (split_of st.splits n) e o later) (sym same) effect in
            let t : (actions : List StreamAction) × IsStep IsAnyPair r (split_of st.splits range) actions o later × Turned s r actions o later = effect_turned r mine (split_of st.splits range) refl e o later own out now in
            closed_here r mine t.0 o later t.1 t.2 next (subst (λ n. ChangesOne st next n o.after later) (sym same) c))
        | inr apart ↦ closed_beside other apart o.after later next c
      ]

      turn_closed : (e : RangeEffect) (o : ServerOutcome) → Turn IsAny IsAnyPair st e o → InOrder texts (view_at range (Then e o) 0) → AreClosed (slice_set x.servers (s - 1) (record cell { state = Some o.after }))
      turn_closed e o (Idles next packets same same_splits) now =
          one_closed next (closed_like st next (ap (λ l. range_of l range) same) (ap (λ l. split_of l range) same_splits) (closed_at s cell st at is))
      turn_closed e o (Opens other assigned d generation until next packets new new_splits) now =
          one_closed next (opened (opened_one st next (laid.ascending s cell st at is) (laid.splits s cell st at is) other d generation until new new_splits))
        where
          opened : ChangesOne st next other (Some (new_range d other generation until)) None → IsClosedAt next
          opened c = elim (cases_eq range other) [
            | inl same ↦
                (λ r held serves at_g.
                let found : Some (new_range d other generation until) ≡ Some r = sym c.range_here ∙ subst (λ n. range_of next.ranges n ≡ Some r) same held in
                let is_new : new_range d other generation until ≡ r = cc in
                absurd (let z : false ≡ true = ap (λ (u : RangeState). is_serving u.stage) is_new ∙ serves in cc))
            | inr apart ↦ closed_beside other apart (Some (new_range d other generation until)) None next c
          ]
      turn_closed e o (Acts other r held effect ro later is_effect next packets left left_splits) now =
          one_closed next
          (acts_closed other r held effect ro later is_effect next (acted_one st next (laid.ascending s cell st at is) (laid.splits s cell st at is) other r held ro.after later left left_splits)
          (record { after = next; packets = packets; notes = ro.notes }) now)

    all_closed : (y : ServerRun) → AreClosed y.servers → IsMarked Marked range g y
    all_closed y are s r at same = are s at.cell at.state at.there at.runs r at.held at.serves same

    -- A STEP OF ALL leaves it so
    pub marked_step : (notes : List TableNote) (y : ServerRun) → RunStep IsAny IsAnyPair x notes y → InOrder texts (view_at range y 0) → IsMarked Marked range g y
    marked_step notes y (Keeps servers packets like) now = all_closed y (held_so servers like)
    marked_step notes y (Passes servers like) now = all_closed y (held_so servers like)
    marked_step notes y (Turns s cell st at is e o turn) now = all_closed y (turn_closed s cell st at is e o turn now)

  -- one that a split has closed stays closed
  pub closed_step : (plan : SplitPlan) → SplitsHold x.servers → IsClosed plan range g x → (notes : List TableNote) (y : ServerRun) → RunStep IsAny IsAnyPair x notes y → InOrder texts (view_at range y 0) → IsClosed plan range g y
  closed_step plan =
      marked_step (IsPausedBy plan)
      (λ r confirmed job actions o later step holds paused z after. subst (λ q. PausedIf plan q later) after (step_paused plan r confirmed IsAnyPair job actions o later step holds paused))

  -- one that is split stays so
  pub busy_step : SplitsHold x.servers → IsMarked IsBusy range g x → (notes : List TableNote) (y : ServerRun) → RunStep IsAny IsAnyPair x notes y → InOrder texts (view_at range y 0) → IsMarked IsBusy range g y
  busy_step = marked_step IsBusy (λ r confirmed job actions o later step holds busy z after. still_split o.after later z (remains job o.after later busy (step_stays IsAnyPair r job actions o later step)) after)
    where
      remains : (job : Option SplitJob) (after : Option RangeState) (later : Option SplitJob) → (split : SplitJob) × (job ≡ Some split) → RemainsIf job after later → StaysIf after later
      remains None after later busy r = absurd (let e = busy.1 in cc)
      remains (Some job) after later busy r = r
