-- Whatever comes to servers, what is kept of each range at all of them stays so, also of a range that one of their splits makes, and what
-- that split owes it.
use Rattle.std.proofs.Common.{◌≡◌, ◌⊎◌, ⊎_elim, ℕ, ◌-◌, List, [], ◌++◌, Bool, true, false, ◌&&◌, ◌==◌, Option, Some, None, slice_set, refl, sym, ap, ◌∙◌, subst, inl, inr, append_assoc, if◌then◌else◌}
use Rattle.std.specs.BTreeMap.{insert_entry}
use Rattle.std.specs.Ordering.{nat_cmp}
use Rattle.std.proofs.lemmas.Bool.{cases_eq}
use Rattle.wire.specs.declared.body.Body.{Body}
use Rattle.wire.specs.declared.packet.Packet.{Packet}
use Rattle.wire.specs.declared.streams.StreamKind.TheVariants as kinds
use Rattle.model_streams.specs.Maps.{entry_at}
use Rattle.model_partition.specs.declared.server_context.ServerContext.{ServerContext}
use Rattle.model_partition.specs.declared.split_job.Side.{Side}
use Rattle.model_partition.specs.declared.split_job.Side.TheVariants.{Low, High}
use Rattle.model_partition.specs.declared.split_job.SplitJob.{SplitJob}
use Rattle.model_partition.specs.declared.split_job.SplitPhase.{SplitPhase}
use Rattle.model_partition.specs.declared.split_job.SplitPhase.TheVariants as phases
use Rattle.model_partition.specs.declared.table_note.TableNote.{TableNote}
use Rattle.model_partition.specs.Past.{Bytes}
use Rattle.model_partition.specs.Range.{RangeState, RangeOutcome}
use Rattle.model_partition.specs.Server.{ServerState, ServerOutcome, range_of, set_range, new_range, split_of, set_split}
use Rattle.model_partition.specs.Servers.{ServerCell}
use Rattle.model_partition.specs.Splits.{SplitStep, side_range, told, split_reply_in, split_reply}
use Rattle.model_histories.specs.ServerRun.{ServerRun, RangeHistory, RangeEffect, Begins, Rests, first_history, with_effect, with_outcome, after_actions, after_sides}
use Rattle.model_histories.specs.StreamActions.{StreamAction, SideAction, split_sides}
use Rattle.laws_loads.proofs.Entries.{entry_set}
use Rattle.laws_loads.specs.RangeView.{view_after_all}
use Rattle.laws_tables.specs.Runs.{Run, KeepsKeys}
use Rattle.laws_server_runs.specs.ChildInvariant.{SplitsHold, KeepsBehind, KeysStand, ChildHolds, HasPair, IsBeforeBuild, IsBuilding, IsSaying, ChildAt, IsUnheld, AreChildren, ChildKept, ChildGoes}
use Rattle.laws_server_runs.specs.Places.{RunLaid}
use Rattle.laws_server_runs.specs.RangeInvariant.{InOrder, IsLonger}
use Rattle.laws_server_runs.specs.RunInvariant.{view_at, Taken, RunBehind, RunOn, IsApartIn, IsApart}
use Rattle.laws_server_runs.specs.Turns.{of_split, IsStep, Alone, BeginsSplit, Drops, Follows, Leaves, Holds, Hears, IsHeard, IsUnheard, LeavesSplit, IsEffect, Own, None_done, OfOthers, Turn, Idles, Opens, Acts, HoldNoMore, RunStep, Keeps, Passes, Turns}
use Rattle.laws_server_runs.proofs.Actions.{AreOthers, other_test, actions_here, actions_apart, sides_beside, sides_rest}
use Rattle.laws_server_runs.proofs.Beside.{IsBeside, beside_kept, beside_run}
use Rattle.laws_server_runs.proofs.ChildHeard.{SaysIf, Heard, child_heard}
use Rattle.laws_server_runs.proofs.ChildMoves.{child_moved, Owed, OwedIf, Never, NeverIf, unheard_owed, told_owed, none_owed}
use Rattle.laws_server_runs.proofs.ChildTold.{append_at, others_told}
use Rattle.laws_server_runs.proofs.Kept.{acts, idles_beside, is_beside, keeps_beside, opens_beside, passes_beside}
use Rattle.laws_server_runs.proofs.KeptKeys.{step_other}
use Rattle.laws_server_runs.proofs.LaidRuns.{sides_laid}
use Rattle.laws_server_runs.proofs.NamesBehind.{keeps_both, stands_later, AddsNone, actions_add, goes_unnamed}
use Rattle.laws_server_runs.proofs.Others.{streams_same}
use Rattle.laws_server_runs.proofs.RunSteps.{IsAny, IsAnyPair}
use Rattle.laws_server_runs.proofs.SideActions.{sides_append, sides_others}
use Rattle.laws_server_runs.proofs.SplitsHeld.{here}
use Rattle.laws_server_runs.proofs.TurnChanges.{ChangesOne, opened_one, acted_one, found_after}

-- ---- phases

before_pair : (phase : SplitPhase) → IsBeforeBuild phase → HasPair phase
before_pair phases.Checkpoint b = tt
before_pair phases.Queue b = tt
before_pair phases.Record b = tt
before_pair (phases.Seal kind q) b = tt
before_pair (phases.Begin q) b = absurd b
before_pair (phases.Build q) b = absurd b
before_pair (phases.Keys out c) b = absurd b
before_pair (phases.Complete q) b = absurd b

work_pair : (phase : SplitPhase) → IsBuilding phase ⊎ IsSaying phase → HasPair phase
work_pair (phases.Build q) w = tt
work_pair (phases.Keys out c) w = tt
work_pair phases.Checkpoint w = tt
work_pair phases.Queue w = tt
work_pair phases.Record w = tt
work_pair (phases.Seal kind q) w = tt
work_pair (phases.Complete q) w = tt
work_pair (phases.Begin q) (inl w) = absurd w
work_pair (phases.Begin q) (inr w) = absurd w

saying_pair : (phase : SplitPhase) → IsSaying phase → HasPair phase
saying_pair phase w = work_pair phase (inr w)

-- nothing is owed before the map has numbered the two
pub owed_pair : (base run : Run) (append : ℕ) (r : RangeState) (job : SplitJob) (child : Side) (phase : SplitPhase) → (HasPair phase → ⊥) → ChildHolds base run append r.said job child phase
owed_pair base run append r job child (phases.Begin q) never = tt
owed_pair base run append r job child phases.Checkpoint never = tt
owed_pair base run append r job child phases.Queue never = tt
owed_pair base run append r job child phases.Record never = tt
owed_pair base run append r job child (phases.Seal kind q) never = tt
owed_pair base run append r job child (phases.Build q) never = absurd (never tt)
owed_pair base run append r job child (phases.Keys out c) never = absurd (never tt)
owed_pair base run append r job child (phases.Complete q) never = absurd (never tt)

-- ---- answers

-- the step of an answer is what the split makes of it
record IsReply (d : ServerContext) (r : RangeState) (body : Body) (job : Option SplitJob) (o : RangeOutcome) (later : Option SplitJob) : Type 0 where
  split : SplitJob
  job_is : job ≡ Some split
  outcome : o ≡ of_split (split_reply d r split body)
  later_is : later ≡ (split_reply d r split body).job

heard_is : (d : ServerContext) (r : RangeState) (body : Body) (job : Option SplitJob) (actions : List StreamAction) (o : RangeOutcome) (later : Option SplitJob) (step : IsStep IsAnyPair r job actions o later) → IsHeard d body step →
    IsReply d r body job o later
heard_is d r body job actions o later (Hears split own told numbered) h = record {
  split = split;
  job_is = refl;
  outcome = sym (λ i. of_split (split_reply (h.0 i) r split (h.1 i)));
  later_is = sym (λ i. (split_reply (h.0 i) r split (h.1 i)).job);
}
heard_is d r body job actions o later (Alone own_actions own rule) h = absurd h
heard_is d r body job actions o later (BeginsSplit c key may none splits) h = absurd h
heard_is d r body job actions o later (Drops split own_actions own rule calm gone) h = absurd h
heard_is d r body job actions o later (Follows split own_actions own rule calm room c counts next left) h = absurd h
heard_is d r body job actions o later (Leaves split c e next left) h = absurd h
heard_is d r body job actions o later (Holds split until count) h = absurd h

-- a split makes this range, or not
abbrev MakesIt : ℕ → SplitJob → Type 0
MakesIt n job = HasPair job.phase × ((child : Side) × (n ≡ side_range job child))

makes_it : (n : ℕ) (job : SplitJob) → MakesIt n job ⊎ (IsApart n job × ((HasPair job.phase → ⊥) ⊎ ((child : Side) → n ≡ side_range job child → ⊥)))
makes_it n job = by job.phase
  where
    paired : (phase : SplitPhase) → HasPair phase → ((job.low ≡ n → ⊥) × (job.high ≡ n → ⊥) → IsApartIn n job phase) → (HasPair phase × ((child : Side) × (n ≡ side_range job child))) ⊎ (IsApartIn n job phase × ((HasPair phase → ⊥) ⊎ ((child : Side) → n ≡ side_range job child → ⊥)))
    paired phase pair apart = elim (cases_eq n job.low) [
      | inl low ↦ inl (pair, (Low, low))
      | inr not_low ↦ elim (cases_eq n job.high) [
        | inl high ↦ inl (pair, (High, high))
        | inr not_high ↦ inr (apart (λ e. not_low (sym e), λ e. not_high (sym e)), inr (λ child e. none child e not_low not_high))
      ]
    ]
      where
        none : (child : Side) → n ≡ side_range job child → (n ≡ job.low → ⊥) → (n ≡ job.high → ⊥) → ⊥
        none Low e l h = l e
        none High e l h = h e

    by : (phase : SplitPhase) → (HasPair phase × ((child : Side) × (n ≡ side_range job child))) ⊎ (IsApartIn n job phase × ((HasPair phase → ⊥) ⊎ ((child : Side) → n ≡ side_range job child → ⊥)))
    by (phases.Begin q) = inr (tt, inl (λ z. z))
    by phases.Checkpoint = paired phases.Checkpoint tt (λ a. a)
    by phases.Queue = paired phases.Queue tt (λ a. a)
    by phases.Record = paired phases.Record tt (λ a. a)
    by (phases.Seal kind q) = paired (phases.Seal kind q) tt (λ a. a)
    by (phases.Build q) = paired (phases.Build q) tt (λ a. a)
    by (phases.Keys out c) = paired (phases.Keys out c) tt (λ a. a)
    by (phases.Complete q) = paired (phases.Complete q) tt (λ a. a)

-- ---- before the map has numbered the two

module _ (built : Type 0) (n : ℕ) (base run : Run) (append : ℕ) (d : ServerContext) (r : RangeState) (job : SplitJob) (never : HasPair job.phase → ⊥) (body : Body) where
  abbrev LeftSo : SplitStep → Type 0
  LeftSo t = OwedIf built n base run append t.range t.job

  unpaired_owed : LeftSo (split_reply d r job body)
  unpaired_owed = by job.phase never (told_owed built n base run append d r job (λ child e b. owed_pair base run append r job child job.phase never) (λ before b child e. never (before_pair job.phase before)) (λ building. never (work_pair job.phase (inl building))) body)
    where
      by : (phase : SplitPhase) → (HasPair phase → ⊥) → LeftSo (told d r job body) → LeftSo (split_reply_in d r job phase body)
      by (phases.Begin q) none h = h
      by phases.Checkpoint none h = absurd (none tt)
      by phases.Queue none h = absurd (none tt)
      by phases.Record none h = absurd (none tt)
      by (phases.Seal kind q) none h = absurd (none tt)
      by (phases.Build q) none h = absurd (none tt)
      by (phases.Keys out c) none h = absurd (none tt)
      by (phases.Complete q) none h = absurd (none tt)

-- ---- a step of all

module _ (texts : ℕ → Bytes) (IsBuilt : ℕ → Type 0) (n : ℕ) (x : ServerRun) (laid : RunLaid x) (holds : SplitsHold x.servers) (children : AreChildren IsBuilt x) (old : ChildKept texts IsBuilt n x) where
  abbrev taken : Taken
  taken = old.taken

  abbrev kept : RunBehind texts n old.taken x
  kept = old.kept

  -- what is kept then goes on with it
  abbrev KeptSo : ServerRun → Type 0
  KeptSo y = (new : ChildKept texts IsBuilt n y) × ChildGoes texts IsBuilt IsBuilt n x y old new

  -- a server had the range and its split before
  record WasThere (t l : ℕ) (r : RangeState) (job : SplitJob) : Type 0 where
    cell : ServerCell
    st : ServerState
    there : entry_at x.servers t ≡ Some cell
    runs : cell.state ≡ Some st
    held : range_of st.ranges l ≡ Some r
    split : split_of st.splits l ≡ Some job

  -- where others act
  rests_kept : (y : ServerRun) → IsBeside texts n taken x kept y →
      ((t : ℕ) (c : ServerCell) (q : ServerState) → entry_at y.servers t ≡ Some c → c.state ≡ Some q → (l : ℕ) (r : RangeState) (job : SplitJob) → range_of q.ranges l ≡ Some r → split_of q.splits l ≡ Some job → WasThere t l r job) →
      ((t : ℕ) (l : ℕ) (c : ChildAt y t l n) → IsBuilding c.job.phase ⊎ IsSaying c.job.phase → append_at x t n ≡ append_at y t n) → KeptSo y
  rests_kept y beside was begun = (
    record {
      taken = taken;
      kept = beside_kept texts n taken x kept y beside;
      owed = λ t c q there up l r job held split child e b.
          let w = was t c q there up l r job held split in
          let same : (beside_kept texts n taken x kept y beside).run ≡ kept.run = beside_run texts n taken x kept y beside in
          child_moved taken.run kept.run (beside_kept texts n taken x kept y beside).run (append_at x t n) (append_at y t n) r.said job child job.phase
          (λ work. (sym same, begun t l (record { cell = c; state = q; there = there; runs = up; job = job; found = split; pair = work_pair job.phase work; side = child; is = e }) work))
          (λ keys named. subst (λ z. KeysStand taken.run z job.generation r.said keys) (sym same) named) (old.owed t w.cell w.st w.there w.runs l r job w.held w.split child e b);
    },
    record { taken = refl; goes = ([], beside_run texts n taken x kept y beside); added = inl tt },
  )

  like_was : (servers : List ServerCell) → HoldNoMore x.servers servers → (t : ℕ) (c : ServerCell) (q : ServerState) → entry_at servers t ≡ Some c → c.state ≡ Some q →
      (l : ℕ) (r : RangeState) (job : SplitJob) → range_of q.ranges l ≡ Some r → split_of q.splits l ≡ Some job → WasThere t l r job
  like_was servers like t c q there up l r job held split = elim (like t c q there up) [
    | inl none ↦ absurd (let z : None ≡ Some r = sym (ap (λ m. range_of m l) none.0) ∙ held in cc)
    | inr was ↦ record { cell = was.0; st = was.1; there = was.2; runs = was.3; held = sym (ap (λ m. range_of m l) was.4) ∙ held; split = sym (ap (λ m. split_of m l) was.5) ∙ split }
  ]

  module _ (s : ℕ) (cell : ServerCell) (st : ServerState) (at : entry_at x.servers s ≡ Some cell) (is : cell.state ≡ Some st) where
    abbrev Then : RangeEffect → ServerOutcome → ServerRun
    Then e o = with_outcome (with_effect s x e) (record { servers = slice_set x.servers (s - 1) (record cell { state = Some o.after }); packets = o.packets; notes = o.notes })

    idles_kept : (next : ServerState) (packets : List Packet) → next.ranges ≡ st.ranges → next.splits ≡ st.splits → KeptSo (Then Rests (record { after = next; packets = packets; notes = [] }))
    idles_kept next packets same splits = rests_kept (Then Rests (record { after = next; packets = packets; notes = [] })) (idles_beside texts n taken x laid kept s cell st at is next packets same splits) was (λ t l c work. refl)
      where
        was : (t : ℕ) (c : ServerCell) (q : ServerState) → entry_at (slice_set x.servers (s - 1) (record cell { state = Some next })) t ≡ Some c → c.state ≡ Some q →
            (l : ℕ) (r : RangeState) (job : SplitJob) → range_of q.ranges l ≡ Some r → split_of q.splits l ≡ Some job → WasThere t l r job
        was t c q there up l r job held split = elim (found_after x.servers s cell at next t c q there up) [
          | inl here ↦
              record {
                cell = cell;
                st = st;
                there = subst (λ m. entry_at x.servers m ≡ Some cell) (sym here.0) at;
                runs = is;
                held = sym (ap (λ m. range_of m l) same) ∙ subst (λ (z : ServerState). range_of z.ranges l ≡ Some r) (sym here.1) held;
                split = sym (ap (λ m. split_of m l) splits) ∙ subst (λ (z : ServerState). split_of z.splits l ≡ Some job) (sym here.1) split;
              }
          | inr other ↦ record { cell = c; st = q; there = other.1; runs = up; held = held; split = split }
        ]

    opens_kept : (range : ℕ) (d : ServerContext) (generation until : ℕ) (next : ServerState) (packets : List Packet) → (new : next.ranges ≡ insert_entry nat_cmp st.ranges range (new_range d range generation until)) → next.splits ≡ set_split st.splits range None →
        AreChildren IsBuilt (Then (Begins range) (record { after = next; packets = packets; notes = [] })) → KeptSo (Then (Begins range) (record { after = next; packets = packets; notes = [] }))
    opens_kept range d generation until next packets new splits since = rests_kept y (opens_beside texts n taken x laid kept s cell st at is range d generation until next packets new splits) was begun
      where
        y : ServerRun
        y = Then (Begins range) (record { after = next; packets = packets; notes = [] })

        one : ChangesOne st next range (Some (new_range d range generation until)) None
        one = opened_one st next (laid.ascending s cell st at is) (laid.splits s cell st at is) range d generation until new splits

        was : (t : ℕ) (c : ServerCell) (q : ServerState) → entry_at (slice_set x.servers (s - 1) (record cell { state = Some next })) t ≡ Some c → c.state ≡ Some q →
            (l : ℕ) (r : RangeState) (job : SplitJob) → range_of q.ranges l ≡ Some r → split_of q.splits l ≡ Some job → WasThere t l r job
        was t c q there up l r job held split = elim (found_after x.servers s cell at next t c q there up) [
          | inl here ↦ elim (cases_eq l range) [
            | inl same ↦
                absurd
                (let found : split_of next.splits range ≡ Some job = subst (λ m. split_of next.splits m ≡ Some job) same (subst (λ (z : ServerState). split_of z.splits l ≡ Some job) (sym here.1) split) in
                let z : None ≡ Some job = sym one.split_here ∙ found in
                cc)
            | inr other ↦
                record {
                  cell = cell;
                  st = st;
                  there = subst (λ m. entry_at x.servers m ≡ Some cell) (sym here.0) at;
                  runs = is;
                  held = sym (one.ranges l other) ∙ subst (λ (z : ServerState). range_of z.ranges l ≡ Some r) (sym here.1) held;
                  split = sym (one.splits l other) ∙ subst (λ (z : ServerState). split_of z.splits l ≡ Some job) (sym here.1) split;
                }
          ]
          | inr other ↦ record { cell = c; st = q; there = other.1; runs = up; held = held; split = split }
        ]

        -- no server has it while its keys are said
        begun : (t l : ℕ) (c : ChildAt y t l n) → IsBuilding c.job.phase ⊎ IsSaying c.job.phase → append_at x t n ≡ append_at y t n
        begun t l c work = elim (cases_eq n range) [
          | inl same ↦
              absurd
              (since.unheld t l n c work s (record cell { state = Some next }) next (entry_set x.servers s cell (record cell { state = Some next }) at) refl (new_range d range generation until)
              (subst (λ m. range_of next.ranges m ≡ Some (new_range d range generation until)) (sym same) one.range_here))
          | inr other ↦ sym (ap (λ b. (if b then first_history else x.history t n).append kinds.Metadata) ((λ i. (t == s) && other_test n range other i) ∙ and_no (t == s)))
        ]
          where
            and_no : (b : Bool) → (b && false) ≡ false
            and_no true = refl
            and_no false = refl

    -- ---- a range acts

    -- What is kept after what the server did with streams of the two that a split makes, where this is left of the range that acts, and
    -- of its split: what that split owes, and what others do.
    record Between (y : ServerRun) (range : ℕ) (after : Option RangeState) (later : Option SplitJob) : Type 0 where
      so_far : RunBehind texts n taken y
      goes : IsLonger kept.run so_far.run
      added : KeepsKeys goes.0 ⊎ KeepsBehind taken.run kept.run
      mine : OwedIf (IsBuilt n) n taken.run so_far.run (append_at y s n) after later
      others : (t : ℕ) (c : ServerCell) (q : ServerState) → entry_at x.servers t ≡ Some c → c.state ≡ Some q → (l : ℕ) (r : RangeState) (job : SplitJob) → range_of q.ranges l ≡ Some r → split_of q.splits l ≡ Some job →
          (t ≡ s → l ≡ range → ⊥) → Owed (IsBuilt n) n taken.run so_far.run (append_at y t n) r job

    both_owed : (run : Run) (a : ℕ) (after : Option RangeState) (later : Option SplitJob) (r : RangeState) (job : SplitJob) → after ≡ Some r → later ≡ Some job → OwedIf (IsBuilt n) n taken.run run a after later → Owed (IsBuilt n) n taken.run run a r job
    both_owed run a None later r job e f h = absurd cc
    both_owed run a (Some z) None r job e f h = absurd cc
    both_owed run a (Some z) (Some other) r job e f h = let range_is : z ≡ r = cc in let job_is : other ≡ job = cc in subst (λ j. Owed (IsBuilt n) n taken.run run a r j) job_is (subst (λ q. Owed (IsBuilt n) n taken.run run a q other) range_is h)

    module _ (range : ℕ) (r : RangeState) (held : range_of st.ranges range ≡ Some r) where
      abbrev child_here : (job : SplitJob) → split_of st.splits range ≡ Some job → HasPair job.phase → (child : Side) → n ≡ side_range job child → ChildAt x s range n
      child_here job split pair child e = record { cell = cell; state = st; there = at; runs = is; job = job; found = split; pair = pair; side = child; is = e }

      old_if : (job : Option SplitJob) → split_of st.splits range ≡ job → OwedIf (IsBuilt n) n taken.run kept.run (append_at x s n) (Some r) job
      old_if None split = tt
      old_if (Some job) split = λ child e b. old.owed s cell st at is range r job held split child e b

      never_if : (job : Option SplitJob) → split_of st.splits range ≡ job → NeverIf (IsBuilt n) n taken.run kept.run (append_at x s n) job
      never_if None split = tt
      never_if (Some job) split = λ before built child e. children.early s range n (child_here job split (before_pair job.phase before) child e) before built

      unheard_between : (job : Option SplitJob) → split_of st.splits range ≡ job → (actions : List StreamAction) (o : RangeOutcome) (later : Option SplitJob) (step : IsStep IsAnyPair r job actions o later) → IsUnheard step → Between x range o.after later
      unheard_between job split actions o later step unheard = record {
        so_far = kept;
        goes = ([], refl);
        added = inl tt;
        mine =
            unheard_owed (IsBuilt n) n taken.run kept.run (append_at x s n) r (laid.ranges s cell st at is range r held).confirmed IsAnyPair job actions o later step unheard (here x laid holds s cell st at is range r held job split) (old_if job split)
            (never_if job split);
        others = λ t c q there up l z job found splits other child e b. old.owed t c q there up l z job found splits child e b;
      }

      -- an answer comes to its split
      module _ (splitting : SplitJob) (split : split_of st.splits range ≡ Some splitting) (d : ServerContext) (body : Body) where
        abbrev sides : List SideAction
        sides = split_sides d r splitting body

        abbrev reply : SplitStep
        reply = split_reply d r splitting body

        abbrev told_run : ServerRun
        told_run = after_sides s splitting.generation x sides

        -- of a split that makes the range
        made_between : HasPair splitting.phase → (child : Side) → n ≡ side_range splitting child → (SaysIf n child reply.job → IsBuilt n) → Between told_run range reply.range reply.job
        made_between pair child e since = record {
          so_far = heard.0;
          goes = heard.1;
          added = heard.2;
          mine = heard.3;
          others = λ t c q there up l z job found splits other side f b.
              owed_pair taken.run heard.0.run (append_at told_run t n) z job side job.phase
              (λ paired.
              let both = children.alone n s t range l mine (record { cell = c; state = q; there = there; runs = up; job = job; found = splits; pair = paired; side = side; is = f }) in
              other (sym both.0) (sym both.1));
        }
          where
            mine : ChildAt x s range n
            mine = child_here splitting split pair child e

            -- of whatever number it is
            HeardAs : ℕ → Type 0
            HeardAs m = (k : RunBehind texts m taken x) → Owed (IsBuilt m) m taken.run k.run (append_at x s m) r splitting → Never (IsBuilt m) m taken.run k.run (append_at x s m) splitting → (IsBuilding splitting.phase ⊎ IsSaying splitting.phase → IsUnheld m x) →
                (SaysIf m child reply.job → IsBuilt m) → Heard texts s taken x d r (IsBuilt m) m splitting.generation k.run sides reply

            heard_as : HeardAs n
            heard_as =
                subst HeardAs (sym e)
                (λ k owed never unheld then_built. child_heard texts s taken x d r (IsBuilt (side_range splitting child)) splitting (children.apart s range n mine) child k body
                (holds s cell st at is range r splitting held split) owed never unheld then_built)

            heard : Heard texts s taken x d r (IsBuilt n) n splitting.generation kept.run sides reply
            heard =
                heard_as kept (λ side f b. old.owed s cell st at is range r splitting held split side f b) (never_if (Some splitting) split) (λ work. children.unheld s range n mine work) since

        -- of one that does not
        other_between : IsApart n splitting → (HasPair splitting.phase → ⊥) ⊎ ((child : Side) → n ≡ side_range splitting child → ⊥) → Between told_run range reply.range reply.job
        other_between apart none = record {
          so_far = o.0;
          goes = ([], o.1);
          added = inl tt;
          mine = subst (λ z. OwedIf (IsBuilt n) n taken.run z (append_at told_run s n) reply.range reply.job) (sym o.1) (subst (λ a. OwedIf (IsBuilt n) n taken.run kept.run a reply.range reply.job) (sym o.2) (left none));
          others = λ t c q there up l z job found splits other side f b.
              subst (λ run. ChildHolds taken.run run (append_at told_run t n) z.said job side job.phase) (sym o.1)
              (subst (λ (h : RangeHistory). ChildHolds taken.run kept.run (h.append kinds.Metadata) z.said job side job.phase) (sym ((sides_beside s splitting.generation n x sides others_are).history t))
              (old.owed t c q there up l z job found splits side f b));
        }
          where
            others_are : AreOthers n sides
            others_are = sides_others n d r splitting body apart

            o : (k : RunBehind texts n taken told_run) × (k.run ≡ kept.run) × (append_at told_run s n ≡ append_at x s n)
            o = others_told texts n s splitting.generation taken x kept sides others_are

            left : (HasPair splitting.phase → ⊥) ⊎ ((child : Side) → n ≡ side_range splitting child → ⊥) → OwedIf (IsBuilt n) n taken.run kept.run (append_at x s n) reply.range reply.job
            left (inl never) = unpaired_owed (IsBuilt n) n taken.run kept.run (append_at x s n) d r splitting never body
            left (inr others_all) = none_owed (IsBuilt n) n taken.run kept.run (append_at x s n) d r splitting others_all body

        heard_between : ((child : Side) → SaysIf n child reply.job → IsBuilt n) → Between told_run range reply.range reply.job
        heard_between since = elim (makes_it n splitting) [
          | inl makes ↦ made_between makes.0 makes.1.0 makes.1.1 (since makes.1.0)
          | inr apart ↦ other_between apart.0 apart.1
        ]

    -- ---- and then the range takes its step

    module _ (y : ServerRun) (same : y.servers ≡ x.servers) (laid_then : RunLaid y) (range : ℕ) (r : RangeState) (held : range_of st.ranges range ≡ Some r) (actions : List StreamAction) (o : RangeOutcome) (later : Option SplitJob) (next : ServerState) (packets : List Packet)
        (left : next.ranges ≡ set_range st.ranges range o.after) (splits : LeavesSplit st.splits range later next.splits) (step : IsStep IsAnyPair r (split_of st.splits range) actions o later) (b : Between y range o.after later) where
      abbrev g : ℕ
      g = r.load.generation

      at_then : entry_at y.servers s ≡ Some cell
      at_then = subst (λ l. entry_at l s ≡ Some cell) (sym same) at

      abbrev z : ServerRun
      z = with_outcome (after_actions s range g y actions) (record { servers = slice_set y.servers (s - 1) (record cell { state = Some next }); packets = packets; notes = o.notes })

      one : ChangesOne st next range o.after later
      one = acted_one st next (laid.ascending s cell st at is) (laid.splits s cell st at is) range r held o.after later left splits

      module _ (t : ℕ) (c : ServerCell) (q : ServerState) (there : entry_at z.servers t ≡ Some c) (up : c.state ≡ Some q) (l : ℕ) (rr : RangeState) (job : SplitJob) (found : range_of q.ranges l ≡ Some rr) (found_split : split_of q.splits l ≡ Some job)
          (child : Side) (e : n ≡ side_range job child) where
        abbrev OwedAt : ℕ → Type 0
        OwedAt m = ChildHolds taken.run b.so_far.run (append_at y m n) rr.said job child job.phase

        before : entry_at y.servers t ≡ Some c → entry_at x.servers t ≡ Some c
        before f = subst (λ k. entry_at k t ≡ Some c) same f

        owed_then : (IsBuilding job.phase → IsBuilt n) → OwedAt t
        owed_then if_built = elim (found_after y.servers s cell at_then next t c q there up) [
          | inl here ↦
              (let in_next : range_of next.ranges l ≡ Some rr = subst (λ (v : ServerState). range_of v.ranges l ≡ Some rr) (sym here.1) found in
              let split_next : split_of next.splits l ≡ Some job = subst (λ (v : ServerState). split_of v.splits l ≡ Some job) (sym here.1) found_split in
              subst OwedAt (sym here.0)
              (elim (cases_eq l range) [
                | inl is_range ↦
                    both_owed b.so_far.run (append_at y s n) o.after later rr job (sym one.range_here ∙ subst (λ m. range_of next.ranges m ≡ Some rr) is_range in_next)
                    (sym one.split_here ∙ subst (λ m. split_of next.splits m ≡ Some job) is_range split_next) b.mine child e if_built
                | inr other ↦ b.others s cell st at is l rr job (sym (one.ranges l other) ∙ in_next) (sym (one.splits l other) ∙ split_next) (λ here_too is_range. other is_range) child e if_built
              ]))
          | inr other ↦ b.others t c q (before other.1) up l rr job found found_split (λ is_here is_range. other.0 is_here) child e if_built
        ]

        -- where the range is this one no split that makes it is under way
        never_then : n ≡ range → AreChildren IsBuilt z → IsBuilding job.phase ⊎ IsSaying job.phase → ⊥
        never_then is_this since work = elim (found_after y.servers s cell at_then next t c q there up) [
          | inl here ↦ elim (cases_eq l range) [
            | inl is_range ↦
                since.unheld t l n (record { cell = c; state = q; there = there; runs = up; job = job; found = found_split; pair = work_pair job.phase work; side = child; is = e }) work t c q there up rr
                (subst (λ m. range_of q.ranges m ≡ Some rr) (is_range ∙ sym is_this) found)
            | inr other ↦
                children.unheld s l n
                (record {
                  cell = cell;
                  state = st;
                  there = at;
                  runs = is;
                  job = job;
                  found = sym (one.splits l other) ∙ subst (λ (v : ServerState). split_of v.splits l ≡ Some job) (sym here.1) found_split;
                  pair = work_pair job.phase work;
                  side = child;
                  is = e;
                })
                work s cell st at is r held_this
          ]
          | inr other ↦
              children.unheld t l n (record { cell = c; state = q; there = before other.1; runs = up; job = job; found = found_split; pair = work_pair job.phase work; side = child; is = e }) work s cell st at is r held_this
        ]
          where
            held_this : range_of st.ranges n ≡ Some r
            held_this = subst (λ m. range_of st.ranges m ≡ Some r) (sym is_this) held

      acts_kept : InOrder texts (view_at n z 0) → AreChildren IsBuilt z → KeptSo z
      acts_kept order since = by (cases_eq n range)
        where
          and_no : (b : Bool) → (b && false) ≡ false
          and_no true = refl
          and_no false = refl

          -- what the range sees of its own actions
          seen_here : n ≡ range → view_at n z s ≡ view_after_all g (view_at n y s) actions
          seen_here same_range = subst (λ m. view_at n (after_actions s m g y actions) s ≡ view_after_all g (view_at n y s) actions) same_range (actions_here s n g y actions)

          by : (n ≡ range) ⊎ (n ≡ range → ⊥) → KeptSo z
          by (inl is_this) =
              let on : RunOn texts n taken y b.so_far z = acts texts n taken y laid_then b.so_far s cell st at_then is r actions o later next packets range held step left splits order in
              let adds : AddsNone (view_at n y s) (view_at n z s) = subst (λ v. AddsNone (view_at n y s) v) (sym (seen_here is_this)) (actions_add g (view_at n y s) actions (step_other r (split_of st.splits range) actions o later step)) in
              let none : KeepsKeys on.goes.0 =
              goes_unnamed texts b.so_far.run on.kept.run (view_at n y s) (view_at n z s) (streams_same texts b.so_far.run (view_at n y 0) (view_at n y s) refl refl b.so_far.streams)
              (streams_same texts on.kept.run (view_at n z 0) (view_at n z s) refl refl on.kept.streams) on.goes adds in (
                record {
                  taken = taken;
                  kept = on.kept;
                  owed = λ t c q there up l rr job found found_split child e if_built.
                      child_moved taken.run b.so_far.run on.kept.run (append_at y t n) (append_at z t n) rr.said job child job.phase (λ work. absurd (never_then t c q there up l rr job found found_split child e is_this since work))
                      (λ keys named. stands_later taken.run b.so_far.run on.kept.run job.generation rr.said keys on.goes none named) (owed_then t c q there up l rr job found found_split child e if_built);
                },
                record {
                  taken = refl;
                  goes = (on.goes.0 ++ b.goes.0, on.goes.1 ∙ ap (λ k. on.goes.0 ++ k) b.goes.1 ∙ sym (append_assoc on.goes.0 b.goes.0 kept.run));
                  added = ⊎_elim {C = KeepsKeys (on.goes.0 ++ b.goes.0) ⊎ KeepsBehind taken.run kept.run} (λ k. inl (keeps_both on.goes.0 b.goes.0 none k)) (λ k. inr k) b.added;
                },
              )
          by (inr other) =
              let apart : IsBeside texts n taken y b.so_far z = is_beside texts n taken y laid_then b.so_far s cell st at_then is r actions o later next packets range other held (split_of st.splits range) step left splits in
              let now : RunBehind texts n taken z = beside_kept texts n taken y b.so_far z apart in
              let run_is : now.run ≡ b.so_far.run = beside_run texts n taken y b.so_far z apart in (
                record {
                  taken = taken;
                  kept = now;
                  owed = λ t c q there up l rr job found found_split child e if_built.
                      child_moved taken.run b.so_far.run now.run (append_at y t n) (append_at z t n) rr.said job child job.phase
                      (λ work. (sym run_is, sym (ap (λ (h : RangeHistory). h.append kinds.Metadata) (actions_apart s range g t n ((λ i. (t == s) && other_test n range other i) ∙ and_no (t == s)) y actions))))
                      (λ keys named. subst (λ k. KeysStand taken.run k job.generation rr.said keys) (sym run_is) named) (owed_then t c q there up l rr job found found_split child e if_built);
                },
                record { taken = refl; goes = (b.goes.0, run_is ∙ b.goes.1); added = b.added },
              )

    -- ---- whatever the turn is

    abbrev KeptThen : ServerRun → Type 0
    KeptThen y = InOrder texts (view_at n y 0) → AreChildren IsBuilt y → KeptSo y

    effect_kept : (range : ℕ) (r : RangeState) → range_of st.ranges range ≡ Some r → (job : Option SplitJob) → split_of st.splits range ≡ job → (e : RangeEffect) (o : RangeOutcome) (later : Option SplitJob) → IsEffect IsAnyPair range r job e o later →
        (next : ServerState) (packets : List Packet) → next.ranges ≡ set_range st.ranges range o.after → LeavesSplit st.splits range later next.splits → KeptThen (Then e (record { after = next; packets = packets; notes = o.notes }))
    effect_kept range r held job split e o later (Own own actions after left_job step unheard) next packets left splits order since =
        acts_kept x refl laid range r held actions o later next packets left splits (subst (λ j. IsStep IsAnyPair r j actions o later) (sym split) step) (unheard_between range r held job split actions o later step unheard) order since
    effect_kept range r held job split e o later (None_done own after left_job step unheard) next packets left splits order since =
        acts_kept x refl laid range r held [] o later next packets left splits (subst (λ j. IsStep IsAnyPair r j [] o later) (sym split) step) (unheard_between range r held job split [] o later step unheard) order since
    effect_kept range r held job split e o later (OfOthers splitting d body after left_job step heard) next packets left splits order since =
        subst (λ servers. KeptThen (with_outcome y (record { servers = slice_set servers (s - 1) (record cell { state = Some next }); packets = packets; notes = o.notes }))) rest
        (acts_kept y rest (sides_laid s splitting.generation x laid (sides range r held splitting split d body) (sides_append d r splitting body)) range r held [] o later next packets left splits (subst (λ j. IsStep IsAnyPair r j [] o later) (sym split) step) between) order since
      where
        y : ServerRun
        y = after_sides s splitting.generation x (sides range r held splitting split d body)

        rest : y.servers ≡ x.servers
        rest = (sides_rest s splitting.generation x (sides range r held splitting split d body)).0

        is_reply : IsReply d r body (Some splitting) o later
        is_reply = heard_is d r body (Some splitting) [] o later step heard

        same_split : is_reply.split ≡ splitting
        same_split = let z : Some splitting ≡ Some is_reply.split = is_reply.job_is in cc

        after_is : o.after ≡ (reply range r held splitting split d body).range
        after_is = ap (λ (out : RangeOutcome). out.after) is_reply.outcome ∙ ap (λ j. (split_reply d r j body).range) same_split

        later_is : later ≡ (reply range r held splitting split d body).job
        later_is = is_reply.later_is ∙ ap (λ j. (split_reply d r j body).job) same_split

        found_later : split_of next.splits range ≡ (reply range r held splitting split d body).job
        found_later = (acted_one st next (laid.ascending s cell st at is) (laid.splits s cell st at is) range r held o.after later left splits).split_here ∙ later_is

        built_then : (child : Side) (found : Option SplitJob) → split_of next.splits range ≡ found → SaysIf n child found → IsBuilt n
        built_then child None f says = absurd says
        built_then child (Some then_job) f says =
            since.late s range n
            (record {
              cell = record cell { state = Some next };
              state = next;
              there = entry_set x.servers s cell (record cell { state = Some next }) at;
              runs = refl;
              job = then_job;
              found = f;
              pair = saying_pair then_job.phase says.0;
              side = child;
              is = says.1;
            })
            says.0

        between : Between y range o.after later
        between =
            subst (λ a. Between y range a later) (sym after_is)
            (subst (λ a. Between y range (reply range r held splitting split d body).range a) (sym later_is) (heard_between range r held splitting split d body (λ child. built_then child (reply range r held splitting split d body).job found_later)))

    turn_kept : (e : RangeEffect) (o : ServerOutcome) → Turn IsAny IsAnyPair st e o → KeptThen (Then e o)
    turn_kept e o (Idles next packets same splits) order since = idles_kept next packets same splits
    turn_kept e o (Opens range assigned d generation until next packets new splits) order since = opens_kept range d generation until next packets new splits since
    turn_kept e o (Acts range r held effect ro later is_effect next packets left splits) order since = effect_kept range r held (split_of st.splits range) refl effect ro later is_effect next packets left splits order since

  -- whatever comes to servers
  pub child_step : (notes : List TableNote) (y : ServerRun) → RunStep IsAny IsAnyPair x notes y → InOrder texts (view_at n y 0) → AreChildren IsBuilt y → KeptSo y
  child_step notes y (Keeps servers packets like) order since =
      rests_kept (with_outcome x (record { servers = servers; packets = packets; notes = [] })) (keeps_beside texts n taken x laid kept servers packets like) (like_was servers like) (λ t l c work. refl)
  child_step notes y (Passes servers like) order since = rests_kept (record x { servers = servers }) (passes_beside texts n taken x laid kept servers like) (like_was servers like) (λ t l c work. refl)
  child_step notes y (Turns s cell st at is e o turn) order since = turn_kept s cell st at is e o turn order since
