-- A split that makes a range whose streams are built goes back to the moment when they were: then its server had it, of the range whose streams
-- they were built of, and it waited for that.
use Rattle.std.proofs.Common.{◌≡◌, ◌⊎◌, ⊎_elim, ℕ, ◌-◌, List, [], ◌∷◌, ◌++◌, Option, Some, None, slice_set, refl, sym, ap, ◌∙◌, subst, inl, inr}
use Rattle.std.proofs.lemmas.Bool.{cases_eq}
use Rattle.model_streams.specs.Maps.{entry_at}
use Rattle.model_partition.specs.declared.split_job.SplitJob.{SplitJob}
use Rattle.model_partition.specs.declared.table_note.TableNote.{TableNote}
use Rattle.model_partition.specs.Past.{Bytes}
use Rattle.model_partition.specs.Range.{RangeState, RangeOutcome}
use Rattle.model_partition.specs.Server.{ServerState, ServerOutcome, range_of, new_range, split_of}
use Rattle.model_partition.specs.Servers.{ServerCell}
use Rattle.model_histories.specs.ServerRun.{ServerRun, RangeEffect, ServerEvent, Builds, after_event, run_of}
use Rattle.laws_server_runs.specs.ChildInvariant.{HasPair, IsBeforeBuild, IsBuilding, ChildAt, IsBuiltBy, AreBornSo}
use Rattle.laws_server_runs.specs.Places.{RunLaid}
use Rattle.laws_server_runs.specs.Turns.{IsEffect, Own, None_done, OfOthers, Turn, Idles, Opens, Acts, outcome_of, IsOfServers, HoldNoMore, RunStep, Keeps, Passes, Turns}
use Rattle.laws_server_runs.proofs.LaidRuns.{no_splits, all_laid}
use Rattle.laws_server_runs.proofs.RunSteps.{IsAny, IsAnyPair, IsBuild, any_assigned, any_numbered, event_kind, event_step}
use Rattle.laws_server_runs.proofs.SplitsSince.{SameSplit, IsLeft, KinIf, still, same_twice, same_side, step_kin}
use Rattle.laws_server_runs.proofs.TurnChanges.{ChangesOne, opened_one, acted_one, found_after}
use Rattle.laws_server_runs.proofs.Unmerged.{HaveNoMerges, unmerged}

-- ---- a step of all

-- the range of each split is there
abbrev pub RangesThere : List ServerCell → Type 0
RangesThere servers = (s : ℕ) (cell : ServerCell) (st : ServerState) → entry_at servers s ≡ Some cell → cell.state ≡ Some st → (k : ℕ) (job : SplitJob) → split_of st.splits k ≡ Some job → (r : RangeState) × (range_of st.ranges k ≡ Some r)

-- a server had this split before
pub record HadSplit (x : ServerRun) (s k : ℕ) (new : SplitJob) : Type 0 where
  pub cell : ServerCell
  pub state : ServerState
  pub there : entry_at x.servers s ≡ Some cell
  pub runs : cell.state ≡ Some state
  pub job : SplitJob
  pub found : split_of state.splits k ≡ Some job
  pub same : SameSplit job new

-- A split that a server has after the step: its range is there, and it had it before, or the map has not numbered the two yet, or just did.
pub record IsOfBefore (x : ServerRun) (s k : ℕ) (q : ServerState) (new : SplitJob) : Type 0 where
  pub range : (r : RangeState) × (range_of q.ranges k ≡ Some r)
  pub was : HadSplit x s k new ⊎ ((HasPair new.phase → ⊥) ⊎ IsBeforeBuild new.phase)

module _ (x : ServerRun) (laid : RunLaid x) (old : RangesThere x.servers) where
  -- where nothing was done with it
  same_before : (t k : ℕ) (c : ServerCell) (st q : ServerState) (new : SplitJob) → entry_at x.servers t ≡ Some c → c.state ≡ Some st → range_of q.ranges k ≡ range_of st.ranges k → split_of st.splits k ≡ Some new → IsOfBefore x t k q new
  same_before t k c st q new there up same found =
      let r = old t c st there up k new found in
      record { range = (r.0, same ∙ r.1); was = inl (record { cell = c; state = st; there = there; runs = up; job = new; found = found; same = still new }) }

  module _ (s : ℕ) (cell : ServerCell) (st : ServerState) (at : entry_at x.servers s ≡ Some cell) (is : cell.state ≡ Some st) where
    effect_kin : (range : ℕ) (r : RangeState) (job : Option SplitJob) (e : RangeEffect) (o : RangeOutcome) (later : Option SplitJob) → IsEffect IsAnyPair range r job e o later → KinIf job o.after later
    effect_kin range r job e o later (Own own actions after left_job step unheard) = step_kin IsAnyPair r job actions o later step
    effect_kin range r job e o later (None_done own after left_job step unheard) = step_kin IsAnyPair r job [] o later step
    effect_kin range r job e o later (OfOthers splitting d body after left_job step heard) = step_kin IsAnyPair r (Some splitting) [] o later step

    left_range : (after : Option RangeState) → IsLeft after → (r : RangeState) × (after ≡ Some r)
    left_range None left = absurd left
    left_range (Some r) left = (r, refl)

    -- of the range that acts
    acted : (k : ℕ) (q : ServerState) (new : SplitJob) (job : Option SplitJob) → split_of st.splits k ≡ job → (after : Option RangeState) → range_of q.ranges k ≡ after → KinIf job after (Some new) → IsOfBefore x s k q new
    acted k q new None found after here kin = let r = left_range after kin.1 in record { range = (r.0, here ∙ r.1); was = inr (inl kin.0) }
    acted k q new (Some job) found after here kin =
        let r = left_range after kin.1 in
        record {
          range = (r.0, here ∙ r.1);
          was = ⊎_elim {C = HadSplit x s k new ⊎ ((HasPair new.phase → ⊥) ⊎ IsBeforeBuild new.phase)} (λ same. inl (record { cell = cell; state = st; there = at; runs = is; job = job; found = found; same = same })) (λ before. inr (inr before)) kin.0;
        }

    changed_before : (next : ServerState) (range : ℕ) (after : Option RangeState) (later : Option SplitJob) → ChangesOne st next range after later → KinIf (split_of st.splits range) after later → (k : ℕ) (new : SplitJob) → split_of next.splits k ≡ Some new →
        IsOfBefore x s k next new
    changed_before next range after later c kin k new found = elim (cases_eq k range) [
      | inl same ↦
          subst (λ m. IsOfBefore x s m next new) (sym same)
          (acted range next new (split_of st.splits range) refl after c.range_here
          (subst (KinIf (split_of st.splits range) after) (sym c.split_here ∙ subst (λ m. split_of next.splits m ≡ Some new) same found) kin))
      | inr other ↦ same_before s k cell st next new at is (c.ranges k other) (sym (c.splits k other) ∙ found)
    ]

    one_before : (next : ServerState) → ((k : ℕ) (new : SplitJob) → split_of next.splits k ≡ Some new → IsOfBefore x s k next new) → (t : ℕ) (c : ServerCell) (q : ServerState) →
        entry_at (slice_set x.servers (s - 1) (record cell { state = Some next })) t ≡ Some c → c.state ≡ Some q → (k : ℕ) (new : SplitJob) → split_of q.splits k ≡ Some new → IsOfBefore x t k q new
    one_before next mine t c q there up k new found = elim (found_after x.servers s cell at next t c q there up) [
      | inl here ↦ subst (λ m. IsOfBefore x m k q new) (sym here.0) (subst (λ v. IsOfBefore x s k v new) here.1 (mine k new (subst (λ (v : ServerState). split_of v.splits k ≡ Some new) (sym here.1) found)))
      | inr other ↦ same_before t k c q q new other.1 up refl found
    ]

    turn_before : (e : RangeEffect) (o : ServerOutcome) → Turn IsAny IsAnyPair st e o → (t : ℕ) (c : ServerCell) (q : ServerState) → entry_at (slice_set x.servers (s - 1) (record cell { state = Some o.after })) t ≡ Some c → c.state ≡ Some q →
        (k : ℕ) (new : SplitJob) → split_of q.splits k ≡ Some new → IsOfBefore x t k q new
    turn_before e o (Idles next packets same splits) = one_before next (λ k new found. same_before s k cell st next new at is (ap (λ l. range_of l k) same) (sym (ap (λ l. split_of l k) splits) ∙ found))
    turn_before e o (Opens range assigned d generation until next packets new splits) =
        one_before next (changed_before next range _ None (opened_one st next (laid.ascending s cell st at is) (laid.splits s cell st at is) range d generation until new splits) (nothing (split_of st.splits range)))
      where
        nothing : (job : Option SplitJob) → KinIf job (Some (new_range d range generation until)) None
        nothing None = tt
        nothing (Some job) = tt
    turn_before e o (Acts range r held effect ro later is_effect next packets left splits) =
        one_before next
        (changed_before next range ro.after later (acted_one st next (laid.ascending s cell st at is) (laid.splits s cell st at is) range r held ro.after later left splits) (effect_kin range r (split_of st.splits range) effect ro later is_effect))

  held_before : (servers : List ServerCell) → HoldNoMore x.servers servers → (t : ℕ) (c : ServerCell) (q : ServerState) → entry_at servers t ≡ Some c → c.state ≡ Some q → (k : ℕ) (new : SplitJob) → split_of q.splits k ≡ Some new → IsOfBefore x t k q new
  held_before servers like t c q there up k new found = elim (like t c q there up) [
    | inl none ↦ absurd (let z : None ≡ Some new = sym (ap (λ l. split_of l k) none.1) ∙ found in cc)
    | inr was ↦ same_before t k was.0 was.1 q new was.2 was.3 (ap (λ l. range_of l k) was.4) (sym (ap (λ l. split_of l k) was.5) ∙ found)
  ]

  pub step_before : (notes : List TableNote) (y : ServerRun) → RunStep IsAny IsAnyPair x notes y → (t : ℕ) (c : ServerCell) (q : ServerState) → entry_at y.servers t ≡ Some c → c.state ≡ Some q → (k : ℕ) (new : SplitJob) → split_of q.splits k ≡ Some new →
      IsOfBefore x t k q new
  step_before notes y (Keeps servers packets like) = held_before servers like
  step_before notes y (Passes servers like) = held_before servers like
  step_before notes y (Turns s cell st at is e o turn) = turn_before s cell st at is e o turn

-- ---- over a list of events

event_there : (x : ServerRun) → RunLaid x → HaveNoMerges x.servers → RangesThere x.servers → (event : ServerEvent) → IsOfServers event ⊎ IsBuild event → RangesThere (after_event x event).servers
event_there x laid whole old event (inl is) =
    λ s cell st there up k job found.
    (step_before x laid old (outcome_of x.servers event).notes (after_event x event) (event_step IsAny IsAnyPair x whole event is (any_assigned event) (any_numbered event)) s cell st there up k job found).range
event_there x laid whole old event (inr build) = subst (λ e. RangesThere (after_event x e).servers) (sym build.2) old

pub ranges_there : (batch servers : ℕ) (events : List ServerEvent) → RangesThere (run_of batch servers events).servers
ranges_there batch servers [] = λ s cell st there up k job found. absurd (let z : None ≡ Some job = sym (ap (λ l. split_of l k) (no_splits batch servers s cell st there up)) ∙ found in cc)
ranges_there batch servers (event ∷ earlier) =
    event_there (run_of batch servers earlier) (all_laid batch servers earlier) (unmerged batch servers earlier) (ranges_there batch servers earlier) event (event_kind event)

-- the split of a range whose streams are built, at a moment before
pub record SplitBefore (x y : ServerRun) (s k n : ℕ) (c : ChildAt y s k n) : Type 0 where
  pub child : ChildAt x s k n
  pub same : SameSplit child.job c.job

module _ (texts : ℕ → Bytes) (batch servers : ℕ) (s k n : ℕ) where
  one_back : (event : ServerEvent) (earlier : List ServerEvent) → AreBornSo texts batch servers (event ∷ earlier) → IsBuiltBy earlier n → (c : ChildAt (run_of batch servers (event ∷ earlier)) s k n) → IsOfServers event ⊎ IsBuild event →
      SplitBefore (run_of batch servers earlier) (run_of batch servers (event ∷ earlier)) s k n c
  one_back event earlier born built c (inl is) =
      ⊎_elim {C = SplitBefore x (after_event x event) s k n c}
      (λ had. record {
        child = record {
          cell = had.cell;
          state = had.state;
          there = had.there;
          runs = had.runs;
          job = had.job;
          found = had.found;
          pair = had.same.pair c.pair;
          side = c.side;
          is = c.is ∙ same_side had.job c.job had.same c.side;
        };
        same = had.same;
      })
      (λ new. absurd (⊎_elim {C = ⊥} (λ none. none c.pair) (λ before. born.0.early s k n c before (inr built)) new)) of_before.was
    where
      x : ServerRun
      x = run_of batch servers earlier

      of_before : IsOfBefore x s k c.state c.job
      of_before =
          step_before x (all_laid batch servers earlier) (ranges_there batch servers earlier) (outcome_of x.servers event).notes (after_event x event)
          (event_step IsAny IsAnyPair x (unmerged batch servers earlier) event is (any_assigned event) (any_numbered event)) s c.cell c.state c.there c.runs k c.job c.found
  one_back event earlier born built c (inr build) =
      let x : ServerRun = run_of batch servers earlier in
      subst (λ e. (d : ChildAt (after_event x e) s k n) → SplitBefore x (after_event x e) s k n d) (sym build.2)
      (λ d. record { child = record { cell = d.cell; state = d.state; there = d.there; runs = d.runs; job = d.job; found = d.found; pair = d.pair; side = d.side; is = d.is }; same = still d.job }) c

  built_since : (late early : List ServerEvent) → IsBuiltBy early n → IsBuiltBy (late ++ early) n
  built_since [] early built = built
  built_since (event ∷ late) early built = inr (built_since late early built)

  all_back : (late early : List ServerEvent) → AreBornSo texts batch servers (late ++ early) → IsBuiltBy early n → (c : ChildAt (run_of batch servers (late ++ early)) s k n) → SplitBefore (run_of batch servers early) (run_of batch servers (late ++ early)) s k n c
  all_back [] early born built c = record { child = c; same = still c.job }
  all_back (event ∷ late) early born built c =
      let one : SplitBefore (run_of batch servers (late ++ early)) (run_of batch servers (event ∷ (late ++ early))) s k n c = one_back event (late ++ early) born (built_since late early built) c (event_kind event) in
      let more : SplitBefore (run_of batch servers early) (run_of batch servers (late ++ early)) s k n one.child = all_back late early born.2 built one.child in
      record { child = more.child; same = same_twice more.child.job one.child.job c.job more.same one.same }

  early_born : (late early : List ServerEvent) → AreBornSo texts batch servers (late ++ early) → AreBornSo texts batch servers early
  early_born [] early born = born
  early_born (event ∷ late) early born = early_born late early born.2

  -- THE SPLIT AT THE MOMENT when the streams were built: it was of their source, whose streams it waited for, and its server had that
  pub record SplitThen (source : ℕ) (x y : ServerRun) (c : ChildAt y s k n) : Type 0 where
    pub child : ChildAt x s k n
    pub same : SameSplit child.job c.job
    pub of_source : k ≡ source
    pub waits : IsBuilding child.job.phase
    pub range : RangeState
    pub held : range_of child.state.ranges k ≡ Some range

  pub split_then : (late early : List ServerEvent) (source : ℕ) → AreBornSo texts batch servers (late ++ Builds source n ∷ early) → (c : ChildAt (run_of batch servers (late ++ Builds source n ∷ early)) s k n) →
      SplitThen source (run_of batch servers early) (run_of batch servers (late ++ Builds source n ∷ early)) c
  split_then late early source born c =
      let b : SplitBefore (run_of batch servers (Builds source n ∷ early)) (run_of batch servers (late ++ Builds source n ∷ early)) s k n c = all_back late (Builds source n ∷ early) born (inl (source, refl)) c in
      let d : ChildAt (run_of batch servers early) s k n = record {
        cell = b.child.cell;
        state = b.child.state;
        there = b.child.there;
        runs = b.child.runs;
        job = b.child.job;
        found = b.child.found;
        pair = b.child.pair;
        side = b.child.side;
        is = b.child.is;
      } in
      let asked = (early_born late (Builds source n ∷ early) born).1.asked s k d in
      let held = ranges_there batch servers early s d.cell d.state d.there d.runs k d.job d.found in
      record { child = d; same = b.same; of_source = asked.0; waits = asked.1; range = held.0; held = held.1 }
