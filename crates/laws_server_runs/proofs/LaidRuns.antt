-- Whatever comes to servers, their ranges are in the order of their numbers, and the values of their layers stand within the bytes that
-- loads have read or were shown, and that appends were answered for.
use Rattle.std.proofs.Common.{◌≡◌, ◌⊎◌, ℕ, zero, suc, ◌-◌, List, [], ◌∷◌, ◌++◌, false, ◌&&◌, ◌==◌, Option, Some, None, slice_get, slice_set, refl, sym, ap, ◌∙◌, subst, inl, inr, append-nil, if◌then◌else◌}
use Rattle.wire.specs.declared.streams.StreamKind.TheVariants as kinds
use Rattle.std.specs.BTreeMap.{insert_entry}
use Rattle.std.specs.Ordering.{nat_cmp}
use Rattle.std.proofs.lemmas.Bool.{and_parts, eqb-true, cases_eq}
use Rattle.wire.specs.declared.packet.Packet.{Packet}
use Rattle.model_streams.specs.Maps.{entry_at}
use Rattle.model_partition.specs.declared.server_context.ServerContext.{ServerContext}
use Rattle.model_partition.specs.declared.table_note.TableNote.{TableNote}
use Rattle.model_partition.specs.Range.{RangeState, RangeOutcome}
use Rattle.model_partition.specs.Server.{ServerState, ServerOutcome, range_of, set_range, new_range, split_of, set_split, started}
use Rattle.model_partition.specs.declared.split_job.SplitJob.{SplitJob}
use Rattle.model_streams.proofs.Tests.{if_elim}
use Rattle.std.specs.List.{AllByRecursion}
use Rattle.model_partition.specs.Servers.{ServerCell, first_pick, first_server, first_servers}
use Rattle.model_histories.specs.StreamActions.{StreamAction, Reads, Forms, Stands, Shows, Finds, Stores, PlacedBytes, SideAction, split_sides}
use Rattle.model_histories.specs.ServerRun.{ServerRun, RangeEffect, Begins, Does, Tells, Rests, ServerEvent, Takes, GivesUp, Checkpoints as EventCheckpoints, Splits, Stops, Starts, Moment, Builds, RangeHistory, first_history, cell_effect, with_effect, with_outcome, built_streams, after_action, after_actions, after_sides, after_event, first_run, run_of}
use Rattle.laws_loads.proofs.Entries.{entry_set, entry_other}
use Rattle.laws_loads.specs.RangeView.{RangeView, view_after_all}
use Rattle.laws_server_runs.specs.Places.{IsWithin, placed_of, bytes_of, RangeLaid, RangeLaidIf, StepLaid, AreAscending, RunLaid}
use Rattle.laws_server_runs.specs.RangeInvariant.{IsLonger}
use Rattle.laws_server_runs.specs.RunInvariant.{view_at}
use Rattle.laws_server_runs.specs.Turns.{IsStep, LeavesSplit, IsEffect, Own, None_done, OfOthers, Turn, Idles, Opens, Acts, outcome_of, IsOfServers, HoldNoMore, RunStep, Keeps, Passes, Turns}
use Rattle.laws_server_runs.proofs.LaidBytes.{Covers, covers_both}
use Rattle.laws_server_runs.proofs.LaidLayers.{within_behind}
use Rattle.laws_server_runs.proofs.LaidSteps.{new_laid}
use Rattle.laws_server_runs.proofs.LaidSplits.{AppendsRecord, laid_reads, laid_step}
use Rattle.laws_server_runs.proofs.SideActions.{sides_append}
use Rattle.laws_server_runs.proofs.RangeLists.{inserted_here, inserted_other, ascending_inserted, left_here, left_other, ascending_left}
use Rattle.laws_server_runs.proofs.RunSteps.{IsAny, IsAnyPair, IsBuild, any_assigned, any_numbered, event_kind, event_step}
use Rattle.laws_server_runs.proofs.Unmerged.{HaveNoMerges, unmerged}
use Rattle.laws_server_runs.proofs.Actions.{same_test, other_test, actions_here, actions_apart, actions_rest, Longer, actions_longer, sides_rest, sides_longer, event_longer}

-- ---- more bytes

-- a range that did nothing is laid as it was, whatever else was shown and answered
pub laid_later : (k : ℕ) (v w : RangeView) (r : RangeState) → w.history ≡ v.history → Covers (placed_of v) (placed_of w) → RangeLaid k v r → RangeLaid k w r
laid_later k v w r same on l = laid_reads k v w r (ap (λ (h : RangeHistory). h.reads kinds.Log) same) on l

longer_covers : (xs ys : List PlacedBytes) → IsLonger xs ys → Covers xs ys
longer_covers xs ys longer place w = subst (λ l. IsWithin l place) (sym longer.1) (within_behind longer.0 xs place w)

-- the bytes of a range stay while more comes
pub run_covers : (x y : ServerRun) → Longer x y → (k : ℕ) → Covers (bytes_of x k) (bytes_of y k)
run_covers x y l k = covers_both (x.shown k) (x.answered k) (y.shown k) (y.answered k) (longer_covers (x.shown k) (y.shown k) (l.shown k)) (longer_covers (x.answered k) (y.answered k) (l.answered k))

-- ---- steps

module _ (x : ServerRun) (laid : RunLaid x) where
  -- servers that hold no more than they held
  module _ (servers : List ServerCell) (like : HoldNoMore x.servers servers) (t : ℕ) (c : ServerCell) (q : ServerState) (there : entry_at servers t ≡ Some c) (up : c.state ≡ Some q) where
    like_ascending : AreAscending q.ranges
    like_ascending = elim (like t c q there up) [
      | inl none ↦ subst AreAscending (sym none.0) tt
      | inr old ↦ subst AreAscending (sym old.4) (laid.ascending t old.0 old.1 old.2 old.3)
    ]

    like_ranges : (k : ℕ) (r : RangeState) → range_of q.ranges k ≡ Some r → RangeLaid k (view_at k x t) r
    like_ranges k r held = elim (like t c q there up) [
      | inl none ↦ absurd (let z : None ≡ Some r = sym (ap (λ l. range_of l k) none.0) ∙ held in cc)
      | inr old ↦ laid.ranges t old.0 old.1 old.2 old.3 k r (sym (ap (λ l. range_of l k) old.4) ∙ held)
    ]

    like_splits : AreAscending q.splits
    like_splits = elim (like t c q there up) [
      | inl none ↦ subst AreAscending (sym none.1) tt
      | inr old ↦ subst AreAscending (sym old.5) (laid.splits t old.0 old.1 old.2 old.3)
    ]

  -- one of them goes to another state
  module _ (s : ℕ) (cell : ServerCell) (st : ServerState) (at : entry_at x.servers s ≡ Some cell) (is : cell.state ≡ Some st) (after : ServerState) (y : ServerRun) (servers_are : y.servers ≡ slice_set x.servers (s - 1) (record cell { state = Some after }))
      (apart : (t k : ℕ) → (t ≡ s → ⊥) → y.history t k ≡ x.history t k) (bytes : (k : ℕ) → Covers (bytes_of x k) (bytes_of y k)) (ascending : AreAscending after.ranges) (splits : AreAscending after.splits)
      (mine : (k : ℕ) (r : RangeState) → range_of after.ranges k ≡ Some r → RangeLaid k (view_at k y s) r) where
    abbrev next_cell : ServerCell
    next_cell = record cell { state = Some after }

    found : (t : ℕ) (c : ServerCell) → entry_at y.servers t ≡ Some c → entry_at (slice_set x.servers (s - 1) next_cell) t ≡ Some c
    found t c there = sym (ap (λ l. entry_at l t) servers_are) ∙ there

    at_here : (c : ServerCell) (q : ServerState) → entry_at y.servers s ≡ Some c → c.state ≡ Some q → after ≡ q
    at_here c q there up =
        let both : Some next_cell ≡ Some c = sym (entry_set x.servers s cell next_cell at) ∙ found s c there in
        let same : next_cell ≡ c = cc in
        let state : Some after ≡ Some q = ap (λ (z : ServerCell). z.state) same ∙ up in
        cc

    elsewhere : (t : ℕ) → (t ≡ s → ⊥) → (c : ServerCell) → entry_at y.servers t ≡ Some c → entry_at x.servers t ≡ Some c
    elsewhere t other c there = sym (entry_other x.servers s cell next_cell at t other) ∙ found t c there

    one_laid : RunLaid y
    one_laid = record { ascending = all_ascending; ranges = all_ranges; splits = all_splits }
      where
        all_ascending : (t : ℕ) (c : ServerCell) (q : ServerState) → entry_at y.servers t ≡ Some c → c.state ≡ Some q → AreAscending q.ranges
        all_ascending t c q there up = elim (cases_eq t s) [
          | inl same ↦ subst (λ (z : ServerState). AreAscending z.ranges) (at_here c q (subst (λ n. entry_at y.servers n ≡ Some c) same there) up) ascending
          | inr other ↦ laid.ascending t c q (elsewhere t other c there) up
        ]

        all_splits : (t : ℕ) (c : ServerCell) (q : ServerState) → entry_at y.servers t ≡ Some c → c.state ≡ Some q → AreAscending q.splits
        all_splits t c q there up = elim (cases_eq t s) [
          | inl same ↦ subst (λ (z : ServerState). AreAscending z.splits) (at_here c q (subst (λ n. entry_at y.servers n ≡ Some c) same there) up) splits
          | inr other ↦ laid.splits t c q (elsewhere t other c there) up
        ]

        all_ranges : (t : ℕ) (c : ServerCell) (q : ServerState) → entry_at y.servers t ≡ Some c → c.state ≡ Some q → (k : ℕ) (r : RangeState) → range_of q.ranges k ≡ Some r → RangeLaid k (view_at k y t) r
        all_ranges t c q there up k r held = elim (cases_eq t s) [
          | inl same ↦
              (let e : after ≡ q = at_here c q (subst (λ n. entry_at y.servers n ≡ Some c) same there) up in
              subst (λ n. RangeLaid k (view_at k y n) r) (sym same) (mine k r (ap (λ (z : ServerState). range_of z.ranges k) e ∙ held)))
          | inr other ↦ laid_later k (view_at k x t) (view_at k y t) r (apart t k other) (bytes k) (laid.ranges t c q (elsewhere t other c there) up k r held)
        ]

  module _ (s : ℕ) (cell : ServerCell) (st : ServerState) (at : entry_at x.servers s ≡ Some cell) (is : cell.state ≡ Some st) where
    abbrev Next : RangeEffect → ServerOutcome → ServerRun
    Next e o = with_outcome (with_effect s x e) (record { servers = slice_set x.servers (s - 1) (record cell { state = Some o.after }); packets = o.packets; notes = o.notes })

    other_place : (t k range : ℕ) → (t ≡ s → ⊥) → ((t == s) && (k == range)) ≡ false
    other_place t k range other = ap (λ b. b && (k == range)) (other_test t s other)

    other_range : (k range : ℕ) → (k ≡ range → ⊥) → ((s == s) && (k == range)) ≡ false
    other_range k range other = (λ i. same_test s i && other_test k range other i)

    idles : (next : ServerState) (packets : List Packet) → next.ranges ≡ st.ranges → next.splits ≡ st.splits → RunLaid (Next Rests (record { after = next; packets = packets; notes = [] }))
    idles next packets same splits =
        one_laid s cell st at is next (Next Rests (record { after = next; packets = packets; notes = [] })) refl (λ t k other. refl) (λ k place w. w)
        (subst AreAscending (sym same) (laid.ascending s cell st at is)) (subst AreAscending (sym splits) (laid.splits s cell st at is))
        (λ k r held. laid.ranges s cell st at is k r (sym (ap (λ l. range_of l k) same) ∙ held))

    opens : (range : ℕ) (d : ServerContext) (generation until : ℕ) (next : ServerState) (packets : List Packet) → next.ranges ≡ insert_entry nat_cmp st.ranges range (new_range d range generation until) → next.splits ≡ set_split st.splits range None →
        RunLaid (Next (Begins range) (record { after = next; packets = packets; notes = [] }))
    opens range d generation until next packets new splits =
        one_laid s cell st at is next y refl
        (λ t k other. ap (λ b. if b then first_history else x.history t k) (other_place t k range other)) (λ k place w. w)
        (subst AreAscending (sym new) (ascending_inserted st.ranges range (new_range d range generation until) (laid.ascending s cell st at is)))
        (subst AreAscending (sym splits) (ascending_left st.splits range None (laid.splits s cell st at is))) mine
      where
        y : ServerRun
        y = Next (Begins range) (record { after = next; packets = packets; notes = [] })

        mine : (k : ℕ) (r : RangeState) → range_of next.ranges k ≡ Some r → RangeLaid k (view_at k y s) r
        mine k r held = elim (cases_eq k range) [
          | inl same ↦
              (let found : Some (new_range d range generation until) ≡ Some r =
              sym (inserted_here st.ranges range (new_range d range generation until)) ∙ sym (ap (λ l. range_of l range) new) ∙ subst (λ n. range_of next.ranges n ≡ Some r) same held in
              let is_new : new_range d range generation until ≡ r = cc in
              subst (λ n. RangeLaid n (view_at n y s) r) (sym same) (subst (λ z. RangeLaid range (view_at range y s) z) is_new (new_laid range (view_at range y s) d generation until)))
          | inr other ↦
              laid_later k (view_at k x s) (view_at k y s) r (ap (λ b. if b then first_history else x.history s k) (other_range k range other)) (λ place w. w)
              (laid.ranges s cell st at is k r (sym (inserted_other st.ranges range (new_range d range generation until) k other) ∙ sym (ap (λ l. range_of l k) new) ∙ held))
        ]

    -- what a step leaves of splits
    splits_left : (range : ℕ) (later : Option SplitJob) (after : List (ℕ × SplitJob)) → LeavesSplit st.splits range later after → AreAscending after
    splits_left range later after (inl (same, is_later)) = subst AreAscending (sym same) (laid.splits s cell st at is)
    splits_left range None after (inr e) = subst AreAscending (sym e) (ascending_left st.splits range None (laid.splits s cell st at is))
    splits_left range (Some job) after (inr e) = subst AreAscending (sym e) (ascending_inserted st.splits range job (laid.splits s cell st at is))

    acts : (range : ℕ) (r : RangeState) → range_of st.ranges range ≡ Some r → (job : Option SplitJob) (actions : List StreamAction) (o : RangeOutcome) (later : Option SplitJob) → IsStep IsAnyPair r job actions o later →
        (next : ServerState) (packets : List Packet) → next.ranges ≡ set_range st.ranges range o.after → LeavesSplit st.splits range later next.splits → RunLaid (Next (Does range r.load.generation actions) (record { after = next; packets = packets; notes = o.notes }))
    acts range r held job actions o later rule next packets left splits =
        one_laid s cell st at is next y refl (λ t k other. actions_apart s range r.load.generation t k (other_place t k range other) x actions) bytes
        (subst AreAscending (sym left) (ascending_left st.ranges range o.after (laid.ascending s cell st at is))) (splits_left range later next.splits splits) mine
      where
        y : ServerRun
        y = Next (Does range r.load.generation actions) (record { after = next; packets = packets; notes = o.notes })

        bytes : (k : ℕ) → Covers (bytes_of x k) (bytes_of y k)
        bytes k = run_covers x (after_actions s range r.load.generation x actions) (actions_longer s range r.load.generation x actions) k

        here : view_at range y s ≡ view_after_all r.load.generation (view_at range x s) actions
        here = actions_here s range r.load.generation x actions

        step : StepLaid range (view_at range x s) r.load.generation actions o
        step = laid_step range (view_at range x s) r (laid.ranges s cell st at is range r held) IsAnyPair job actions o later rule

        left_laid : (a : Option RangeState) (z : RangeState) → a ≡ Some z → RangeLaidIf range (view_at range y s) a → RangeLaid range (view_at range y s) z
        left_laid None z e b = absurd cc
        left_laid (Some w) z e b = let same : w ≡ z = cc in subst (λ u. RangeLaid range (view_at range y s) u) same b

        mine : (k : ℕ) (z : RangeState) → range_of next.ranges k ≡ Some z → RangeLaid k (view_at k y s) z
        mine k z found = elim (cases_eq k range) [
          | inl same ↦
              (let is_left : o.after ≡ Some z =
              sym (left_here st.ranges range r o.after (laid.ascending s cell st at is) held) ∙ sym (ap (λ l. range_of l range) left) ∙ subst (λ n. range_of next.ranges n ≡ Some z) same found in
              subst (λ n. RangeLaid n (view_at n y s) z) (sym same)
              (left_laid o.after z is_left (subst (λ (v : RangeView). RangeLaidIf range v o.after) (sym here) step.after)))
          | inr other ↦
              laid_later k (view_at k x s) (view_at k y s) z (actions_apart s range r.load.generation s k (other_range k range other) x actions) (bytes k)
              (laid.ranges s cell st at is k z (sym (left_other st.ranges range o.after k other) ∙ sym (ap (λ l. range_of l k) left) ∙ found))
        ]

-- ---- the two ranges that a split makes

-- what was read of logs stays
side_reads : (s g : ℕ) (x : ServerRun) (sides : List SideAction) → AllByRecursion (λ (side : SideAction). AppendsRecord side.action) sides → (t k : ℕ) →
    ((after_sides s g x sides).history t k).reads kinds.Log ≡ (x.history t k).reads kinds.Log
side_reads s g x [] all t k = refl
side_reads s g x (side ∷ earlier) all t k = one (after_sides s g x earlier) side.action all.0 ∙ side_reads s g x earlier all.1 t k
  where
    one : (y : ServerRun) (action : StreamAction) → AppendsRecord action → ((after_action s side.range g y action).history t k).reads kinds.Log ≡ (y.history t k).reads kinds.Log
    one y (Forms kinds.Metadata group) a =
        if_elim (λ (h : RangeHistory). h.reads kinds.Log ≡ (y.history t k).reads kinds.Log) ((t == s) && (k == side.range)) _ _
        (λ e.
        let both = and_parts (t == s) (k == side.range) e in
        let here : t ≡ s = eqb-true t s both.0 in
        let same : k ≡ side.range = eqb-true k side.range both.1 in
        (λ i. (y.history (sym here i) (sym same i)).reads kinds.Log)) (λ f. refl)
    one y (Stands kinds.Metadata extent at group) a = refl
    one y (Forms kinds.Log group) a = absurd a
    one y (Forms kinds.RowData group) a = absurd a
    one y (Forms kinds.BlobData group) a = absurd a
    one y (Stands kinds.Log extent at group) a = absurd a
    one y (Stands kinds.RowData extent at group) a = absurd a
    one y (Stands kinds.BlobData extent at group) a = absurd a
    one y (Reads kind read) a = absurd a
    one y (Shows start log_end metadata_end) a = absurd a
    one y (Finds found) a = absurd a
    one y (Stores stored) a = absurd a

pub sides_laid : (s g : ℕ) (x : ServerRun) → RunLaid x → (sides : List SideAction) → AllByRecursion (λ (side : SideAction). AppendsRecord side.action) sides → RunLaid (after_sides s g x sides)
sides_laid s g x laid sides all = record {
  ascending = λ t c q there up. laid.ascending t c q (before t c there) up;
  ranges = λ t c q there up k r held.
      laid_reads k (view_at k x t) (view_at k y t) r (side_reads s g x sides all t k) (run_covers x y (sides_longer s g x sides) k) (laid.ranges t c q (before t c there) up k r held);
  splits = λ t c q there up. laid.splits t c q (before t c there) up;
}
  where
    y : ServerRun
    y = after_sides s g x sides

    before : (t : ℕ) (c : ServerCell) → entry_at y.servers t ≡ Some c → entry_at x.servers t ≡ Some c
    before t c there = subst (λ l. entry_at l t ≡ Some c) (sides_rest s g x sides).0 there

-- ---- a step of all

module _ (x : ServerRun) (laid : RunLaid x) where
  module _ (s : ℕ) (cell : ServerCell) (st : ServerState) (at : entry_at x.servers s ≡ Some cell) (is : cell.state ≡ Some st) where
    abbrev Then : RangeEffect → ServerOutcome → ServerRun
    Then e o = with_outcome (with_effect s x e) (record { servers = slice_set x.servers (s - 1) (record cell { state = Some o.after }); packets = o.packets; notes = o.notes })

    effect_laid : (range : ℕ) (r : RangeState) → range_of st.ranges range ≡ Some r → (job : Option SplitJob) (e : RangeEffect) (o : RangeOutcome) (later : Option SplitJob) → IsEffect IsAnyPair range r job e o later →
        (next : ServerState) (packets : List Packet) → next.ranges ≡ set_range st.ranges range o.after → LeavesSplit st.splits range later next.splits → RunLaid (Then e (record { after = next; packets = packets; notes = o.notes }))
    effect_laid range r held job e o later (Own own actions after left_job step unheard) next packets left splits = acts x laid s cell st at is range r held job actions o later step next packets left splits
    effect_laid range r held job e o later (None_done own after left_job step unheard) next packets left splits = acts x laid s cell st at is range r held job [] o later step next packets left splits
    effect_laid range r held job e o later (OfOthers split d body after left_job step heard) next packets left splits =
        subst (λ servers. RunLaid (with_outcome y (record { servers = slice_set servers (s - 1) (record cell { state = Some next }); packets = packets; notes = o.notes }))) rest
        (acts y (sides_laid s split.generation x laid sides (sides_append d r split body)) s cell st (subst (λ l. entry_at l s ≡ Some cell) (sym rest) at) is range r held (Some split) [] o later step next packets left splits)
      where
        sides : List SideAction
        sides = split_sides d r split body

        y : ServerRun
        y = after_sides s split.generation x sides

        rest : y.servers ≡ x.servers
        rest = (sides_rest s split.generation x sides).0

    turn_laid : (e : RangeEffect) (o : ServerOutcome) → Turn IsAny IsAnyPair st e o → RunLaid (Then e o)
    turn_laid e o (Idles next packets same splits) = idles x laid s cell st at is next packets same splits
    turn_laid e o (Opens range assigned d generation until next packets new splits) = opens x laid s cell st at is range d generation until next packets new splits
    turn_laid e o (Acts range r held effect ro later is_effect next packets left splits) = effect_laid range r held (split_of st.splits range) effect ro later is_effect next packets left splits

  step_laid : (notes : List TableNote) (y : ServerRun) → RunStep IsAny IsAnyPair x notes y → RunLaid y
  step_laid notes y (Keeps servers packets like) = record {
    ascending = λ t c q there up. like_ascending x laid servers like t c q there up;
    ranges = λ t c q there up k r held. like_ranges x laid servers like t c q there up k r held;
    splits = λ t c q there up. like_splits x laid servers like t c q there up;
  }
  step_laid notes y (Passes servers like) = record {
    ascending = λ t c q there up. like_ascending x laid servers like t c q there up;
    ranges = λ t c q there up k r held. like_ranges x laid servers like t c q there up k r held;
    splits = λ t c q there up. like_splits x laid servers like t c q there up;
  }
  step_laid notes y (Turns s cell st at is e o turn) = turn_laid s cell st at is e o turn

-- ---- at first

bare_from : (batch k n j : ℕ) (cell : ServerCell) (st : ServerState) → slice_get (first_servers batch k n) j ≡ Some cell → cell.state ≡ Some st → st.ranges ≡ []
bare_from batch k zero j cell st e up = absurd cc
bare_from batch k (suc n) zero cell st e up =
    let there : first_server batch k ≡ cell = cc in
    let state : Some (started k 1 0 first_pick batch) ≡ Some st = ap (λ (z : ServerCell). z.state) there ∙ up in
    let is : started k 1 0 first_pick batch ≡ st = cc in
    sym (ap (λ (z : ServerState). z.ranges) is)
bare_from batch k (suc n) (suc j) cell st e up = bare_from batch (suc k) n j cell st e up

-- the first servers have no range
pub bare : (batch servers s : ℕ) (cell : ServerCell) (st : ServerState) → entry_at (first_servers batch 1 servers) s ≡ Some cell → cell.state ≡ Some st → st.ranges ≡ []
bare batch servers zero cell st e up = absurd cc
bare batch servers (suc n) cell st e up = bare_from batch 1 servers n cell st e up

no_splits_from : (batch k n j : ℕ) (cell : ServerCell) (st : ServerState) → slice_get (first_servers batch k n) j ≡ Some cell → cell.state ≡ Some st → st.splits ≡ []
no_splits_from batch k zero j cell st e up = absurd cc
no_splits_from batch k (suc n) zero cell st e up =
    let there : first_server batch k ≡ cell = cc in
    let state : Some (started k 1 0 first_pick batch) ≡ Some st = ap (λ (z : ServerCell). z.state) there ∙ up in
    let is : started k 1 0 first_pick batch ≡ st = cc in
    sym (ap (λ (z : ServerState). z.splits) is)
no_splits_from batch k (suc n) (suc j) cell st e up = no_splits_from batch (suc k) n j cell st e up

-- nor a split
pub no_splits : (batch servers s : ℕ) (cell : ServerCell) (st : ServerState) → entry_at (first_servers batch 1 servers) s ≡ Some cell → cell.state ≡ Some st → st.splits ≡ []
no_splits batch servers zero cell st e up = absurd cc
no_splits batch servers (suc n) cell st e up = no_splits_from batch 1 servers n cell st e up

first_laid : (batch servers : ℕ) → RunLaid (first_run batch servers)
first_laid batch servers = record {
  ascending = λ s cell st at up. subst AreAscending (sym (bare batch servers s cell st at up)) tt;
  ranges = λ s cell st at up k r held. absurd (let z : None ≡ Some r = sym (ap (λ l. range_of l k) (bare batch servers s cell st at up)) ∙ held in cc);
  splits = λ s cell st at up. subst AreAscending (sym (no_splits batch servers s cell st at up)) tt;
}

-- ---- whatever comes

effect_rests : (s : ℕ) (x : ServerRun) (e : RangeEffect) → (with_effect s x e).notes ≡ x.notes
effect_rests s x (Begins range) = refl
effect_rests s x (Does range g actions) = (actions_rest s range g x actions).1
effect_rests s x (Tells g sides) = (sides_rest s g x sides).1
effect_rests s x Rests = refl

-- streams are built
built_laid : (x : ServerRun) → RunLaid x → (source range : ℕ) → RunLaid (built_streams source range x)
built_laid x laid source range = record {
  ascending = λ t c q there up. laid.ascending t c q there up;
  ranges = λ t c q there up k r held.
      laid_reads k (view_at k x t) (view_at k (built_streams source range x) t) r refl (run_covers x (built_streams source range x) (event_longer x (Builds source range)) k) (laid.ranges t c q there up k r held);
  splits = λ t c q there up. laid.splits t c q there up;
}

event_laid : (x : ServerRun) → RunLaid x → HaveNoMerges x.servers → (event : ServerEvent) → IsOfServers event ⊎ IsBuild event → RunLaid (after_event x event)
event_laid x laid whole event (inl is) = step_laid x laid (outcome_of x.servers event).notes (after_event x event) (event_step IsAny IsAnyPair x whole event is (any_assigned event) (any_numbered event))
event_laid x laid whole event (inr build) = subst (λ e. RunLaid (after_event x e)) (sym build.2) (built_laid x laid build.0 build.1)

module _ (batch servers : ℕ) where
  pub all_laid : (events : List ServerEvent) → RunLaid (run_of batch servers events)
  all_laid [] = first_laid batch servers
  all_laid (event ∷ earlier) = event_laid (run_of batch servers earlier) (all_laid earlier) (unmerged batch servers earlier) event (event_kind event)

  -- what an event adds
  pub event_notes : (x : ServerRun) (event : ServerEvent) → (after_event x event).notes ≡ x.notes ++ (outcome_of x.servers event).notes
  event_notes x (Takes s p) = ap (λ l. l ++ (outcome_of x.servers (Takes s p)).notes) (effect_rests s x (cell_effect p (entry_at x.servers s)))
  event_notes x (GivesUp s range pick) = refl
  event_notes x (EventCheckpoints s range combine) = refl
  event_notes x (Splits s range key) = refl
  event_notes x (Stops s call) = refl
  event_notes x (Starts s now batch) = refl
  event_notes x (Moment now) = sym (append-nil x.notes)
  event_notes x (Builds source range) = sym (append-nil x.notes)
