-- Whatever comes to servers, a range with Gets that wait is served, and their keys are among its own.
use Rattle.std.proofs.Common.{◌≡◌, ◌⊎◌, ℕ, ◌-◌, Bool, true, false, List, [], ◌∷◌, Option, Some, None, Contains, slice_set, refl, sym, ap, ◌∙◌, subst, inl, inr, arith}
use Rattle.std.proofs.lemmas.Bool.{cases_eq}
use Rattle.std.proofs.lemmas.List.Elements.{Contains-push_cases, Contains-append_cases}
use Rattle.metadata.specs.Keys.{within}
use Rattle.client.specs.declared.load.LoadPhase.TheVariants as load_phases
use Rattle.model_streams.specs.Maps.{entry_at}
use Rattle.model_streams.proofs.Tests.{if_elim}
use Rattle.model_partition.specs.declared.split_job.SplitJob.{SplitJob}
use Rattle.model_partition.specs.declared.table_note.TableNote.{TableNote}
use Rattle.model_partition.specs.declared.waiting.WaitingGet.{WaitingGet}
use Rattle.model_partition.specs.Range.{RangeState, RangeOutcome, is_serving}
use Rattle.model_partition.specs.Answering.{give_up_all}
use Rattle.model_partition.specs.Checkpoints.{number_to_apply, have_bytes}
use Rattle.model_partition.specs.Server.{ServerState, ServerOutcome, range_of, new_range, split_of}
use Rattle.model_partition.specs.Servers.{ServerCell}
use Rattle.model_partition.specs.Splits.{split_reply, follows, gives_up}
use Rattle.model_histories.specs.ServerRun.{ServerRun, RangeEffect, ServerEvent, after_event, first_run, run_of}
use Rattle.model_histories.specs.StreamActions.{StreamAction}
use Rattle.laws_server_runs.specs.Places.{RunLaid}
use Rattle.laws_server_runs.specs.Reads.{GetsAreServed, AllGetsAreServed}
use Rattle.laws_server_runs.specs.Turns.{IsRule, Transacts, Answers, Gets, Yields, Checkpoints, Renews, IsStep, Alone, BeginsSplit, Drops, Follows, Leaves, Holds, Hears, IsEffect, Own, None_done, OfOthers, Turn, Idles, Opens, Acts, HoldNoMore, RunStep, Keeps, Passes, Turns, IsOfServers, outcome_of}
use Rattle.laws_server_runs.proofs.LaidRuns.{bare, all_laid}
use Rattle.laws_server_runs.proofs.RunSteps.{IsAny, IsAnyPair, IsBuild, any_assigned, any_numbered, event_kind, event_step}
use Rattle.laws_server_runs.proofs.SplitGets.{WaitsOn, WaitsOnIf, follows_on, gives_up_on, hears_on}
use Rattle.laws_server_runs.proofs.StaysServed.{IsServedOn, IsServedOnIf, StaysServedIf, begins_serves, rule_stays}
use Rattle.laws_server_runs.proofs.TriedGets.{AllKeys, rule_keys}
use Rattle.laws_server_runs.proofs.TurnChanges.{ChangesOne, opened_one, acted_one, found_after}
use Rattle.laws_server_runs.proofs.Unmerged.{HaveNoMerges, unmerged}
use Rattle.laws_server_runs.proofs.WaitingGets.{GetsIf}

-- ---- one range

-- the keys of its Gets are its own, and where it is not served none waits
pub record WaitsRightly (r : RangeState) : Type 0 where
  pub inside : AllKeys (λ key. within r.said.keys key ≡ true) r.gets
  pub none : is_serving r.stage ≡ false → r.gets ≡ []

abbrev WaitsIf : Option RangeState → Type 0
WaitsIf None = Unit {0}
WaitsIf (Some r) = WaitsRightly r

abbrev NoKey : List ℕ → Type 0
NoKey key = ⊥

no_gets : (gets : List WaitingGet) → AllKeys NoKey gets → gets ≡ []
no_gets [] h = refl
no_gets (g ∷ gets) h = absurd h.0

nothing_waits : (r : RangeState) → r.gets ≡ [] → WaitsRightly r
nothing_waits r e = record { inside = subst (AllKeys (λ key. within r.said.keys key ≡ true)) (sym e) tt; none = λ f. e }

-- ---- what a rule leaves

-- one that is served on with its keys
served_waits : (r z : RangeState) → is_serving r.stage ≡ true → IsServedOn r z → AllKeys (λ key. within r.said.keys key ≡ true) z.gets → WaitsRightly z
served_waits r z serving on keys = record {
  inside = subst (λ k. AllKeys (λ key. within k key ≡ true) z.gets) (sym on.keys) keys;
  none = λ f. absurd (let t : is_serving z.stage ≡ true = ap is_serving on.stage ∙ serving in let e : true ≡ false = sym t ∙ f in cc);
}

module _ (r : RangeState) (confirmed : is_serving r.stage ≡ true → r.load.phase ≡ load_phases.Confirmed) (w : WaitsRightly r) where
  module _ (serving : is_serving r.stage ≡ true) where
    stays_on : (x : Option RangeState) → StaysServedIf r x → IsServedOnIf r x
    stays_on None s = tt
    stays_on (Some z) s = s.on

    rule_on : (actions : List StreamAction) (o : RangeOutcome) → IsRule r actions o → IsServedOnIf r o.after
    rule_on actions o (Transacts d from q changes) = stays_on o.after (rule_stays r serving (confirmed serving) actions o (Transacts d from q changes) tt)
    rule_on actions o (Answers d v body) = stays_on o.after (rule_stays r serving (confirmed serving) actions o (Answers d v body) tt)
    rule_on actions o (Gets d from q key) = stays_on o.after (rule_stays r serving (confirmed serving) actions o (Gets d from q key) tt)
    rule_on actions o (Yields d) = stays_on o.after (rule_stays r serving (confirmed serving) actions o (Yields d) tt)
    rule_on actions o (Checkpoints d combine may) =
        if_elim (λ (o : RangeOutcome). IsServedOnIf r o.after) (have_bytes r.live r.position (number_to_apply r.out r.next)) _ _ (λ t. begins_serves r serving d combine) (λ f. record { load = refl; stage = refl; keys = refl })
    rule_on actions o (Renews until count) = stays_on o.after (rule_stays r serving (confirmed serving) actions o (Renews until count) tt)

    both : (x : Option RangeState) → IsServedOnIf r x → GetsIf (AllKeys (λ key. within r.said.keys key ≡ true)) x → WaitsIf x
    both None on keys = tt
    both (Some z) on keys = served_waits r z serving on keys

  none_left : (x : Option RangeState) → GetsIf (AllKeys NoKey) x → WaitsIf x
  none_left None h = tt
  none_left (Some z) h = nothing_waits z (no_gets z.gets h)

  rule_waits : (actions : List StreamAction) (o : RangeOutcome) → IsRule r actions o → WaitsIf o.after
  rule_waits actions o rule = by (is_serving r.stage) refl
    where
      by : (b : Bool) → is_serving r.stage ≡ b → WaitsIf o.after
      by true serving = both serving o.after (rule_on serving actions o rule) (rule_keys (λ key. within r.said.keys key ≡ true) r w.inside (λ key s inside. inside) actions o rule)
      by false unserved =
          none_left o.after
          (rule_keys NoKey r (subst (AllKeys NoKey) (sym (w.none unserved)) tt) (λ key s inside. let e : true ≡ false = sym s ∙ unserved in absurd cc) actions o rule)

-- what a split leaves
split_waits : (r z : RangeState) → WaitsRightly r → WaitsOn r z → WaitsRightly z
split_waits r z w on = by (is_serving r.stage) refl
  where
    by : (b : Bool) → is_serving r.stage ≡ b → WaitsRightly z
    by true serving = served_waits r z serving (on.on serving) (subst (AllKeys (λ key. within r.said.keys key ≡ true)) (sym on.gets) w.inside)
    by false unserved = nothing_waits z (on.gets ∙ w.none unserved)

split_waits_if : (r : RangeState) (x : Option RangeState) → WaitsRightly r → WaitsOnIf r x → WaitsIf x
split_waits_if r None w on = tt
split_waits_if r (Some z) w on = split_waits r z w on

-- ---- a step of a range that may be split

module _ (r : RangeState) (confirmed : is_serving r.stage ≡ true → r.load.phase ≡ load_phases.Confirmed) (w : WaitsRightly r) where
  pub step_waits : (IsNumbered : (low high : ℕ) → Type 0) (job : Option SplitJob) (actions : List StreamAction) (o : RangeOutcome) (later : Option SplitJob) → IsStep IsNumbered r job actions o later → WaitsIf o.after
  step_waits IsNumbered job actions o later (Alone own_actions own rule) = rule_waits r confirmed w own_actions own rule
  step_waits IsNumbered job actions o later (BeginsSplit d key may none splits) = w
  step_waits IsNumbered job actions o later (Drops split own_actions own rule calm gone) = subst WaitsIf (sym gone) tt
  step_waits IsNumbered job actions o later (Follows split own_actions own rule calm room d counts next left) =
      split_waits_if next (follows d next split).range (subst WaitsIf left (rule_waits r confirmed w own_actions own rule)) (follows_on d next split)
  step_waits IsNumbered job actions o later (Leaves split c d next left) =
      split_waits_if next (gives_up d next split).range (subst WaitsIf left (rule_waits r confirmed w [] (give_up_all c r) (Yields c))) (gives_up_on d next split)
  step_waits IsNumbered job actions o later (Holds split until count) = record { inside = w.inside; none = w.none }
  step_waits IsNumbered job actions o later (Hears split d body numbered) = split_waits_if r (split_reply d r split body).range w (hears_on d r split body)

-- ---- a step of all

-- of each range at each server that runs
abbrev AllWait : List ServerCell → Type 0
AllWait servers = (s : ℕ) (cell : ServerCell) (st : ServerState) → entry_at servers s ≡ Some cell → cell.state ≡ Some st → (k : ℕ) (r : RangeState) → range_of st.ranges k ≡ Some r → WaitsRightly r

module _ (x : ServerRun) (laid : RunLaid x) (old : AllWait x.servers) where
  module _ (s : ℕ) (cell : ServerCell) (st : ServerState) (at : entry_at x.servers s ≡ Some cell) (is : cell.state ≡ Some st) where
    -- at one server
    abbrev HereWait : ServerState → Type 0
    HereWait q = (k : ℕ) (r : RangeState) → range_of q.ranges k ≡ Some r → WaitsRightly r

    one_waits : (next : ServerState) → HereWait next → AllWait (slice_set x.servers (s - 1) (record cell { state = Some next }))
    one_waits next mine t c q there up = elim (found_after x.servers s cell at next t c q there up) [
      | inl same ↦ subst HereWait same.1 mine
      | inr other ↦ old t c q other.1 up
    ]

    left_waits : (after : Option RangeState) (r : RangeState) → after ≡ Some r → WaitsIf after → WaitsRightly r
    left_waits after r e h = subst WaitsIf e h

    changed_wait : (next : ServerState) (range : ℕ) (after : Option RangeState) (later : Option SplitJob) → ChangesOne st next range after later → WaitsIf after → HereWait next
    changed_wait next range after later c h k r held = elim (cases_eq k range) [
      | inl same ↦ left_waits after r (sym c.range_here ∙ subst (λ n. range_of next.ranges n ≡ Some r) same held) h
      | inr other ↦ old s cell st at is k r (sym (c.ranges k other) ∙ held)
    ]

    effect_waits : (range : ℕ) (r : RangeState) → range_of st.ranges range ≡ Some r → (job : Option SplitJob) (e : RangeEffect) (o : RangeOutcome) (later : Option SplitJob) → IsEffect IsAnyPair range r job e o later → WaitsIf o.after
    effect_waits range r held job e o later (Own own actions after left_job step unheard) = step_waits r (laid.ranges s cell st at is range r held).confirmed (old s cell st at is range r held) IsAnyPair job actions o later step
    effect_waits range r held job e o later (None_done own after left_job step unheard) = step_waits r (laid.ranges s cell st at is range r held).confirmed (old s cell st at is range r held) IsAnyPair job [] o later step
    effect_waits range r held job e o later (OfOthers splitting d body after left_job step heard) =
        step_waits r (laid.ranges s cell st at is range r held).confirmed (old s cell st at is range r held) IsAnyPair (Some splitting) [] o later step

    turn_waits : (e : RangeEffect) (o : ServerOutcome) → Turn IsAny IsAnyPair st e o → AllWait (slice_set x.servers (s - 1) (record cell { state = Some o.after }))
    turn_waits e o (Idles next packets same splits) = one_waits next (λ k r held. old s cell st at is k r (sym (ap (λ l. range_of l k) same) ∙ held))
    turn_waits e o (Opens range assigned d generation until next packets new splits) =
        one_waits next
        (changed_wait next range (Some (new_range d range generation until)) None (opened_one st next (laid.ascending s cell st at is) (laid.splits s cell st at is) range d generation until new splits)
        (record { inside = tt; none = λ f. refl }))
    turn_waits e o (Acts range r held effect ro later is_effect next packets left splits) =
        one_waits next
        (changed_wait next range ro.after later (acted_one st next (laid.ascending s cell st at is) (laid.splits s cell st at is) range r held ro.after later left splits)
        (effect_waits range r held (split_of st.splits range) effect ro later is_effect))

  held_so : (servers : List ServerCell) → HoldNoMore x.servers servers → AllWait servers
  held_so servers like t c q there up k r held = elim (like t c q there up) [
    | inl none ↦ absurd (let z : None ≡ Some r = sym (ap (λ l. range_of l k) none.0) ∙ held in cc)
    | inr was ↦ old t was.0 was.1 was.2 was.3 k r (sym (ap (λ l. range_of l k) was.4) ∙ held)
  ]

  all_step : (notes : List TableNote) (y : ServerRun) → RunStep IsAny IsAnyPair x notes y → AllWait y.servers
  all_step notes y (Keeps servers packets like) = held_so servers like
  all_step notes y (Passes servers like) = held_so servers like
  all_step notes y (Turns s cell st at is e o turn) = turn_waits s cell st at is e o turn

-- ---- whatever comes

first_wait : (batch servers : ℕ) → AllWait (first_run batch servers).servers
first_wait batch servers s cell st at up k r held = absurd (let z : None ≡ Some r = sym (ap (λ l. range_of l k) (bare batch servers s cell st at up)) ∙ held in cc)

event_waits : (x : ServerRun) → RunLaid x → HaveNoMerges x.servers → AllWait x.servers → (event : ServerEvent) → IsOfServers event ⊎ IsBuild event → AllWait (after_event x event).servers
event_waits x laid whole old event (inl is) =
    all_step x laid old (outcome_of x.servers event).notes (after_event x event) (event_step IsAny IsAnyPair x whole event is (any_assigned event) (any_numbered event))
event_waits x laid whole old event (inr build) = subst (λ e. AllWait (after_event x e).servers) (sym build.2) old

pub all_wait : (batch servers : ℕ) (events : List ServerEvent) → AllWait (run_of batch servers events).servers
all_wait batch servers [] = first_wait batch servers
all_wait batch servers (event ∷ earlier) = event_waits (run_of batch servers earlier) (all_laid batch servers earlier) (unmerged batch servers earlier) (all_wait batch servers earlier) event (event_kind event)

-- ---- as it is owed

none_contained : {A : Type 0} (x : A) → Contains [] x → ⊥
none_contained x there = let below = there.1 in omega (arith, below)

-- what is so of all keys is so of each
key_among : (P : List ℕ → Type 0) (gets : List WaitingGet) (g : WaitingGet) → AllKeys P gets → Contains gets g → P g.key
key_among P [] g all there = absurd (none_contained g there)
key_among P (h ∷ gets) g all there = elim (Contains-append_cases (h ∷ []) gets g there) [
  | inl here ↦ elim (Contains-push_cases [] h g here) [
    | inl none ↦ absurd (none_contained g none)
    | inr same ↦ subst (λ (z : WaitingGet). P z.key) same all.0
  ]
  | inr others ↦ key_among P gets g all.1 others
]

gets_served : (r : RangeState) → WaitsRightly r → GetsAreServed r
gets_served r w = record {
  serves = λ g there. by g there (is_serving r.stage) refl;
  inside = λ g there. key_among (λ key. within r.said.keys key ≡ true) r.gets g w.inside there;
}
  where
    by : (g : WaitingGet) → Contains r.gets g → (b : Bool) → is_serving r.stage ≡ b → is_serving r.stage ≡ true
    by g there true e = e
    by g there false e = absurd (none_contained g (subst (λ gets. Contains gets g) (w.none e) there))

-- GETS WAIT AT RANGES THAT ARE SERVED
pub gets_are_served : (batch servers : ℕ) (events : List ServerEvent) → AllGetsAreServed (run_of batch servers events)
gets_are_served batch servers events s cell st at up k r held = gets_served r (all_wait batch servers events s cell st at up k r held)
