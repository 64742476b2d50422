-- Over every list of events in which splits make ranges as is premised, each range has its run behind what its streams were built of, and the
-- split that makes it owes it the record of its keys.
use Rattle.std.proofs.Common.{◌≡◌, ◌⊎◌, ⊎_elim, ℕ, List, [], ◌∷◌, ◌++◌, length, Some, None, refl, sym, ap, ◌∙◌, subst, inl, inr, append_assoc}
use Rattle.std.proofs.lemmas.Bool.{cases_eq}
use Rattle.std.proofs.lemmas.List.{append_cancel_right}
use Rattle.model_streams.specs.Maps.{entry_at}
use Rattle.model_partition.specs.declared.split_job.Side.{Side}
use Rattle.model_partition.specs.declared.split_job.SplitJob.{SplitJob}
use Rattle.model_partition.specs.declared.split_job.SplitPhase.{SplitPhase}
use Rattle.model_partition.specs.declared.split_job.SplitPhase.TheVariants as phases
use Rattle.model_partition.specs.Past.{Bytes}
use Rattle.model_partition.specs.Range.{RangeState}
use Rattle.model_partition.specs.Server.{ServerState, range_of, split_of}
use Rattle.model_partition.specs.Servers.{ServerCell}
use Rattle.model_partition.specs.Splits.{side_keys, side_range}
use Rattle.metadata.specs.declared.record.KeyRange.{KeyRange}
use Rattle.metadata.specs.Fold.{MetadataState}
use Rattle.model_histories.specs.Log.{only}
use Rattle.model_histories.specs.ServedTables.{StreamsInOrder, ServesAt}
use Rattle.model_histories.specs.ServerRun.{ServerRun, ServerEvent, Builds, after_event, built_streams, first_run, run_of, log_name}
use Rattle.model_histories.specs.Story.{KeepsOrder}
use Rattle.laws_loads.specs.RangeView.{RangeView}
use Rattle.laws_tables.specs.Families.{IsNamed}
use Rattle.laws_tables.specs.Runs.{Run, first_beginning, seen, KeepsKeys}
use Rattle.laws_server_runs.specs.BornRanges.{AllInOrder}
use Rattle.laws_server_runs.specs.ChildInvariant.{SplitsHold, HasNothingOut, KeepsBehind, IsUnnamed, KeysStand, IsCompleting, ChildHolds, HasPair, IsBuilding, IsPaused, ChildAt, AreChildren, IsBuildOf, IsBuiltBy, MayBuild, BuildsSo, AreBornSo, ChildKept, ChildGoes, ChildFollows}
use Rattle.laws_server_runs.specs.FamilyMembers.{IsMember, NamesOwn}
use Rattle.laws_server_runs.specs.OwnKeys.{IsAtLineWithin}
use Rattle.laws_server_runs.specs.RangeInvariant.{AreObserved}
use Rattle.laws_server_runs.specs.RunInvariant.{view_at, with_stage, HeldKept, Taken, RunBehind, nothing_taken}
use Rattle.laws_server_runs.specs.Turns.{outcome_of, IsOfServers}
use Rattle.laws_server_runs.proofs.Actions.{event_longer}
use Rattle.laws_server_runs.proofs.Beside.{IsBeside, beside_kept, beside_run}
use Rattle.laws_server_runs.proofs.BuiltStreams.{source_seen, began_with, build_beside, built_kept, built_run}
use Rattle.laws_server_runs.proofs.ChildSteps.{child_step, owed_pair}
use Rattle.laws_server_runs.proofs.ChildTold.{append_at}
use Rattle.laws_server_runs.proofs.FamilyRanges.{seen_length}
use Rattle.laws_server_runs.proofs.HeldLine.{at_own_keys}
use Rattle.laws_server_runs.proofs.LaidRuns.{no_splits, all_laid}
use Rattle.laws_server_runs.proofs.NamesBehind.{keeps_both, keeps_rest, stands_later, never_anew, own_names}
use Rattle.laws_server_runs.proofs.Others.{streams_same}
use Rattle.laws_server_runs.proofs.PausedRuns.{paused_at}
use Rattle.laws_server_runs.proofs.RunSteps.{IsAny, IsAnyPair, IsBuild, any_assigned, any_numbered, event_kind, event_step}
use Rattle.laws_server_runs.proofs.SeenTables.{seen_as, all_seen}
use Rattle.laws_server_runs.proofs.ServedNotes.{serves_of}
use Rattle.laws_server_runs.proofs.SplitsHeld.{splits_hold}
use Rattle.laws_server_runs.proofs.Steps.{kept_at}
use Rattle.laws_server_runs.proofs.Theorem.{before, first_kept, of_view}
use Rattle.laws_server_runs.proofs.Unmerged.{unmerged}

-- ---- phases

paired : (phase : SplitPhase) → HasPair phase ⊎ (HasPair phase → ⊥)
paired (phases.Begin q) = inr (λ z. z)
paired phases.Checkpoint = inl tt
paired phases.Queue = inl tt
paired phases.Record = inl tt
paired (phases.Seal kind q) = inl tt
paired (phases.Build q) = inl tt
paired (phases.Keys out c) = inl tt
paired (phases.Complete q) = inl tt

building_paused : (phase : SplitPhase) → IsBuilding phase → IsPaused phase
building_paused (phases.Build q) b = tt
building_paused (phases.Begin q) b = absurd b
building_paused phases.Checkpoint b = absurd b
building_paused phases.Queue b = absurd b
building_paused phases.Record b = absurd b
building_paused (phases.Seal kind q) b = absurd b
building_paused (phases.Keys out c) b = absurd b
building_paused (phases.Complete q) b = absurd b

building_owed : (base run : Run) (append : ℕ) (m : MetadataState) (job : SplitJob) (child : Side) (phase : SplitPhase) → IsBuilding phase → HasNothingOut run job.generation m × IsUnnamed base run job.generation m → ChildHolds base run append m job child phase
building_owed base run append m job child (phases.Build q) b h = h
building_owed base run append m job child (phases.Begin q) b h = absurd b
building_owed base run append m job child phases.Checkpoint b h = absurd b
building_owed base run append m job child phases.Queue b h = absurd b
building_owed base run append m job child phases.Record b h = absurd b
building_owed base run append m job child (phases.Seal kind q) b h = absurd b
building_owed base run append m job child (phases.Keys out c) b h = absurd b
building_owed base run append m job child (phases.Complete q) b h = absurd b

stands_when : (base run : Run) (append : ℕ) (m : MetadataState) (job : SplitJob) (child : Side) (phase : SplitPhase) → IsCompleting phase → ChildHolds base run append m job child phase → KeysStand base run job.generation m (side_keys m.keys job.key child)
stands_when base run append m job child (phases.Complete q) c h = h
stands_when base run append m job child (phases.Begin q) c h = absurd c
stands_when base run append m job child phases.Checkpoint c h = absurd c
stands_when base run append m job child phases.Queue c h = absurd c
stands_when base run append m job child phases.Record c h = absurd c
stands_when base run append m job child (phases.Seal kind q) c h = absurd c
stands_when base run append m job child (phases.Build q) c h = absurd c
stands_when base run append m job child (phases.Keys out k) c h = absurd c

not_building : (phase : SplitPhase) → IsCompleting phase → IsBuilding phase → ⊥
not_building (phases.Complete q) c b = b
not_building (phases.Build q) c b = c
not_building (phases.Begin q) c b = c
not_building phases.Checkpoint c b = c
not_building phases.Queue c b = c
not_building phases.Record c b = c
not_building (phases.Seal kind q) c b = c
not_building (phases.Keys out k) c b = c

module _ (texts : ℕ → Bytes) where
  -- ---- streams are built

  module _ (IsBuilt : ℕ → Type 0) (x : ServerRun) (holds : SplitsHold x.servers) (source range : ℕ) (may : MayBuild texts source range x) (all : (n : ℕ) → ChildKept texts IsBuilt n x) where
    abbrev y : ServerRun
    y = built_streams source range x

    abbrev BuiltThen : ℕ → Type 0
    BuiltThen n = IsBuildOf n (Builds source range) ⊎ IsBuilt n

    abbrev BuiltSo : ℕ → Type 0
    BuiltSo n = (new : ChildKept texts BuiltThen n y) × ChildFollows texts (Builds source range) IsBuilt BuiltThen n x y all new

    -- of another range
    other_built : (n : ℕ) → (range ≡ n → ⊥) → BuiltSo n
    other_built n other =
        let old : ChildKept texts IsBuilt n x = all n in
        let b : IsBeside texts n old.taken x old.kept y = build_beside texts n old.taken x old.kept source range other in
        let new : ChildKept texts BuiltThen n y = record {
          taken = old.taken;
          kept = beside_kept texts n old.taken x old.kept y b;
          owed = λ t c q there up l r job held split child e if_built.
              subst (λ run. ChildHolds old.taken.run run (append_at x t n) r.said job child job.phase) (sym (beside_run texts n old.taken x old.kept y b)) (old.owed t c q there up l r job held split child e (λ w. was (if_built w)));
        } in
        (new, inl (λ is. other (let z : Builds source range ≡ Builds is.0 n = is.1 in let same : range ≡ n = cc in same), record { taken = refl; goes = ([], beside_run texts n old.taken x old.kept y b); added = inl tt }))
      where
        was : BuiltThen n → IsBuilt n
        was (inl new) = absurd (let z : Builds source range ≡ Builds new.0 n = new.1 in let same : range ≡ n = cc in other same)
        was (inr built) = built

    -- of this one
    range_built : BuiltSo range
    range_built =
        let old : ChildKept texts IsBuilt source x = all source in
        let k : RunBehind texts range (began_with texts source range old.taken x old.kept) y = built_kept texts source range old.taken x old.kept may.new in
        let new : ChildKept texts BuiltThen range y = record {
          taken = began_with texts source range old.taken x old.kept;
          kept = k;
          owed = λ t c q there up l r job held split child e if_built.
              ⊎_elim {C = ChildHolds old.kept.run k.run (append_at y t range) r.said job child job.phase}
              (λ pair.
              let asked = may.asked t l (record { cell = c; state = q; there = there; runs = up; job = job; found = split; pair = pair; side = child; is = e }) in
              let held_here : range_of q.ranges source ≡ Some r = subst (λ m. range_of q.ranges m ≡ Some r) asked.0 held in
              let split_here : split_of q.splits source ≡ Some job = subst (λ m. split_of q.splits m ≡ Some job) asked.0 split in
              let none : HasNothingOut old.kept.run job.generation r.said =
              paused_at texts source old.taken x old.kept t c q there up r job held_here split_here (holds t c q there up l r job held split) (building_paused job.phase asked.1) in
              let run_is : k.run ≡ old.kept.run = built_run texts source range old.taken x old.kept may.new in
              building_owed old.kept.run k.run (append_at y t range) r.said job child job.phase asked.1
              (subst (λ run. HasNothingOut run job.generation r.said) (sym run_is) none, record { began = none; behind = record { own = []; is = run_is; none = tt } }))
              (λ never. owed_pair old.kept.run k.run (append_at y t range) r job child job.phase never) (paired job.phase);
        } in (
          new,
          inr (
            source,
            refl,
            record {
              took = refl;
              count = seen_length (source_seen texts source range old.taken x old.kept).0 (λ l. []) range range old.kept.run;
              run = built_run texts source range old.taken x old.kept may.new;
            },
          ),
        )

    pub build_kept : (n : ℕ) → BuiltSo n
    build_kept n = elim (cases_eq range n) [
      | inl same ↦ subst BuiltSo same range_built
      | inr other ↦ other_built n other
    ]

  -- ---- at first

  no_child : (batch servers s range child : ℕ) → ChildAt (first_run batch servers) s range child → ⊥
  no_child batch servers s range child c = let z : None ≡ Some c.job = sym (ap (λ l. split_of l range) (no_splits batch servers s c.cell c.state c.there c.runs)) ∙ c.found in cc

  first_children : (batch servers : ℕ) → AreChildren (IsBuiltBy []) (first_run batch servers)
  first_children batch servers = record {
    alone = λ child s t range other c d. absurd (no_child batch servers s range child c);
    apart = λ s range child c. absurd (no_child batch servers s range child c);
    early = λ s range child c. absurd (no_child batch servers s range child c);
    late = λ s range child c. absurd (no_child batch servers s range child c);
    unheld = λ s range child c. absurd (no_child batch servers s range child c);
  }

  first_child : (batch servers n : ℕ) → ChildKept texts (IsBuiltBy []) n (first_run batch servers)
  first_child batch servers n = record {
    taken = nothing_taken;
    kept = first_kept texts n batch servers;
    owed = λ s cell st there up k r job held split child e if_built.
        absurd (let z : None ≡ Some job = sym (ap (λ l. split_of l k) (no_splits batch servers s cell st there up)) ∙ split in cc);
  }

  -- ---- whatever comes

  pub now_children : (batch servers : ℕ) (events : List ServerEvent) → AreBornSo texts batch servers events → AreChildren (IsBuiltBy events) (run_of batch servers events)
  now_children batch servers [] born = first_children batch servers
  now_children batch servers (event ∷ earlier) born = born.0

  -- an event that builds no streams
  module _ (batch servers : ℕ) (event : ServerEvent) (earlier : List ServerEvent) (is : IsOfServers event) (children : AreChildren (IsBuiltBy earlier) (run_of batch servers earlier)) (since : AreChildren (IsBuiltBy (event ∷ earlier)) (run_of batch servers (event ∷ earlier)))
      (n : ℕ) (order : StreamsInOrder texts n (run_of batch servers (event ∷ earlier))) (old : ChildKept texts (IsBuiltBy earlier) n (run_of batch servers earlier)) where
    abbrev x : ServerRun
    x = run_of batch servers earlier

    was : (m : ℕ) → IsBuiltBy (event ∷ earlier) m → IsBuiltBy earlier m
    was m (inl new) = absurd (is new.0 m new.1)
    was m (inr built) = built

    since_then : AreChildren (IsBuiltBy earlier) (after_event x event)
    since_then = record {
      alone = since.alone;
      apart = since.apart;
      early = λ s range child c before built. since.early s range child c before (inr built);
      late = λ s range child c says. was child (since.late s range child c says);
      unheld = since.unheld;
    }

    stepped : (new : ChildKept texts (IsBuiltBy earlier) n (after_event x event)) × ChildGoes texts (IsBuiltBy earlier) (IsBuiltBy earlier) n x (after_event x event) old new
    stepped =
        child_step texts (IsBuiltBy earlier) n x (all_laid batch servers earlier) (splits_hold batch servers earlier) children old (outcome_of x.servers event).notes (after_event x event)
        (event_step IsAny IsAnyPair x (unmerged batch servers earlier) event is (any_assigned event) (any_numbered event)) (of_view texts n (after_event x event) order) since_then

    event_kept : (new : ChildKept texts (IsBuiltBy (event ∷ earlier)) n (after_event x event)) × ChildGoes texts (IsBuiltBy earlier) (IsBuiltBy (event ∷ earlier)) n x (after_event x event) old new
    event_kept = (
      record { taken = stepped.0.taken; kept = stepped.0.kept; owed = λ s cell st there up k r job held split child e if_built. stepped.0.owed s cell st there up k r job held split child e (λ w. was n (if_built w)) },
      record { taken = stepped.1.taken; goes = stepped.1.goes; added = stepped.1.added },
    )

  abbrev Olds : (batch servers : ℕ) → List ServerEvent → Type 0
  Olds batch servers earlier = (m : ℕ) → ChildKept texts (IsBuiltBy earlier) m (run_of batch servers earlier)

  -- what is kept of a range after one event more
  abbrev More : (batch servers : ℕ) (event : ServerEvent) (earlier : List ServerEvent) → Olds batch servers earlier → (n : ℕ) → ChildKept texts (IsBuiltBy (event ∷ earlier)) n (run_of batch servers (event ∷ earlier)) → Type 0
  More batch servers event earlier olds n new = ChildFollows texts event (IsBuiltBy earlier) (IsBuiltBy (event ∷ earlier)) n (run_of batch servers earlier) (run_of batch servers (event ∷ earlier)) olds new

  one_more : (batch servers : ℕ) (event : ServerEvent) (earlier : List ServerEvent) → AreBornSo texts batch servers (event ∷ earlier) → (n : ℕ) → StreamsInOrder texts n (run_of batch servers (event ∷ earlier)) → (olds : Olds batch servers earlier) → IsOfServers event ⊎ IsBuild event →
      (new : ChildKept texts (IsBuiltBy (event ∷ earlier)) n (run_of batch servers (event ∷ earlier))) × More batch servers event earlier olds n new
  one_more batch servers event earlier born n order olds (inl is) =
      let new = event_kept batch servers event earlier is (now_children batch servers earlier born.2) born.0 n order (olds n) in (new.0, inl (λ b. is b.0 n b.1, new.1))
  one_more batch servers event earlier born n order olds (inr build) =
      let x : ServerRun = run_of batch servers earlier in
      subst (λ e. BuildsSo texts e x → (new : ChildKept texts (λ m. IsBuildOf m e ⊎ IsBuiltBy earlier m) n (after_event x e)) × ChildFollows texts e (IsBuiltBy earlier) (λ m. IsBuildOf m e ⊎ IsBuiltBy earlier m) n x (after_event x e) olds new) (sym build.2)
      (λ may. build_kept (IsBuiltBy earlier) x (splits_hold batch servers earlier) build.0 build.1 may olds n) born.1

  -- was so before the last event
  pub order_before : (batch servers : ℕ) (event : ServerEvent) (earlier : List ServerEvent) → AllInOrder texts batch servers (event ∷ earlier) → AllInOrder texts batch servers earlier
  order_before batch servers event earlier order n = let x : ServerRun = run_of batch servers earlier in before texts n x (after_event x event) (event_longer x event) (order n)

  -- WHAT IS KEPT OF EACH RANGE
  pub all_children : (batch servers : ℕ) (events : List ServerEvent) → AreBornSo texts batch servers events → AllInOrder texts batch servers events → (n : ℕ) → ChildKept texts (IsBuiltBy events) n (run_of batch servers events)
  all_children batch servers [] born order n = first_child batch servers n
  all_children batch servers (event ∷ earlier) born order n =
      (one_more batch servers event earlier born n (order n) (λ m. all_children batch servers earlier born.2 (order_before batch servers event earlier order) m) (event_kind event)).0

  -- goes on with what was kept before the last event, or begins with what its source had done by then
  pub child_follows : (batch servers : ℕ) (event : ServerEvent) (earlier : List ServerEvent) (born : AreBornSo texts batch servers (event ∷ earlier)) (order : AllInOrder texts batch servers (event ∷ earlier)) (n : ℕ) →
      More batch servers event earlier (λ m. all_children batch servers earlier born.2 (order_before batch servers event earlier order) m) n (all_children batch servers (event ∷ earlier) born order n)
  unfolding all_children
  child_follows batch servers event earlier born order n =
      (one_more batch servers event earlier born n (order n) (λ m. all_children batch servers earlier born.2 (order_before batch servers event earlier order) m) (event_kind event)).1

  -- ---- one step, and then another

  module _ (IsBuilt IsThen IsLater : ℕ → Type 0) (n : ℕ) (x y z : ServerRun) (first : ChildKept texts IsBuilt n x) (mid : ChildKept texts IsThen n y) (last : ChildKept texts IsLater n z) (one : ChildGoes texts IsBuilt IsThen n x y first mid)
      (two : ChildGoes texts IsThen IsLater n y z mid last) where
    -- what named none at the second moment named none at the first
    none_before : KeepsBehind mid.taken.run mid.kept.run → KeepsBehind first.taken.run first.kept.run
    none_before k = record {
      own = first.kept.behind.0;
      is = first.kept.behind.1;
      none = keeps_rest one.goes.0 first.kept.behind.0 (subst KeepsKeys own_is k.none);
    }
      where
        own_is : k.own ≡ one.goes.0 ++ first.kept.behind.0
        own_is =
            append_cancel_right k.own (one.goes.0 ++ first.kept.behind.0) first.taken.run
            (ap (λ (t : Taken). k.own ++ t.run) (sym one.taken) ∙ sym k.is ∙ one.goes.1 ∙ ap (λ l. one.goes.0 ++ l) first.kept.behind.1 ∙ sym (append_assoc one.goes.0 first.kept.behind.0 first.taken.run))

    goes_twice : ChildGoes texts IsBuilt IsLater n x z first last
    goes_twice = record {
      taken = two.taken ∙ one.taken;
      goes = (two.goes.0 ++ one.goes.0, two.goes.1 ∙ ap (λ l. two.goes.0 ++ l) one.goes.1 ∙ sym (append_assoc two.goes.0 one.goes.0 first.kept.run));
      added = by one.added two.added;
    }
      where
        by : KeepsKeys one.goes.0 ⊎ KeepsBehind first.taken.run first.kept.run → KeepsKeys two.goes.0 ⊎ KeepsBehind mid.taken.run mid.kept.run → KeepsKeys (two.goes.0 ++ one.goes.0) ⊎ KeepsBehind first.taken.run first.kept.run
        by (inl k) (inl l) = inl (keeps_both two.goes.0 one.goes.0 l k)
        by (inl k) (inr l) = inr (none_before l)
        by (inr k) l = inr k

  -- what is named stays so
  module _ (IsBuilt IsLater : ℕ → Type 0) (n : ℕ) (x y : ServerRun) (old : ChildKept texts IsBuilt n x) (new : ChildKept texts IsLater n y) (go : ChildGoes texts IsBuilt IsLater n x y old new) where
    pub stands_on : (g : ℕ) (m : MetadataState) (keys : KeyRange) → KeysStand old.taken.run old.kept.run g m keys → KeysStand new.taken.run new.kept.run g m keys
    stands_on g m keys s =
        subst (λ (t : Taken). KeysStand t.run new.kept.run g m keys) (sym go.taken)
        (⊎_elim {C = KeysStand old.taken.run new.kept.run g m keys} (λ none. stands_later old.taken.run old.kept.run new.kept.run g m keys go.goes none s)
        (λ none. absurd (never_anew old.taken.run old.kept.run g m keys s.1 none)) go.added)

  -- ---- over more events

  -- its streams are not built among these
  abbrev pub AreOther : ℕ → List ServerEvent → Type 0
  AreOther n [] = Unit {0}
  AreOther n (event ∷ late) = (IsBuildOf n event → ⊥) × AreOther n late

  pub born_early : (batch servers : ℕ) (late early : List ServerEvent) → AreBornSo texts batch servers (late ++ early) → AreBornSo texts batch servers early
  born_early batch servers [] early born = born
  born_early batch servers (event ∷ late) early born = born_early batch servers late early born.2

  pub order_early : (batch servers : ℕ) (late early : List ServerEvent) → AllInOrder texts batch servers (late ++ early) → AllInOrder texts batch servers early
  order_early batch servers [] early order = order
  order_early batch servers (event ∷ late) early order = order_early batch servers late early (order_before batch servers event (late ++ early) order)

  -- what is kept at one moment goes on until another
  pub children_go : (batch servers : ℕ) (late early : List ServerEvent) (born : AreBornSo texts batch servers (late ++ early)) (order : AllInOrder texts batch servers (late ++ early)) (n : ℕ) → AreOther n late →
      ChildGoes texts (IsBuiltBy early) (IsBuiltBy (late ++ early)) n (run_of batch servers early) (run_of batch servers (late ++ early)) (all_children batch servers early (born_early batch servers late early born) (order_early batch servers late early order) n)
      (all_children batch servers (late ++ early) born order n)
  unfolding born_early order_early
  children_go batch servers [] early born order n other = record { taken = refl; goes = ([], refl); added = inl tt }
  children_go batch servers (event ∷ late) early born order n other =
      by (children_go batch servers late early born.2 (order_before batch servers event (late ++ early) order) n other.1) (child_follows batch servers event (late ++ early) born order n)
    where
      first : ChildKept texts (IsBuiltBy early) n (run_of batch servers early)
      first = all_children batch servers early (born_early batch servers late early born.2) (order_early batch servers late early (order_before batch servers event (late ++ early) order)) n

      mid : (m : ℕ) → ChildKept texts (IsBuiltBy (late ++ early)) m (run_of batch servers (late ++ early))
      mid m = all_children batch servers (late ++ early) born.2 (order_before batch servers event (late ++ early) order) m

      last : ChildKept texts (IsBuiltBy (event ∷ (late ++ early))) n (run_of batch servers (event ∷ (late ++ early)))
      last = all_children batch servers (event ∷ (late ++ early)) born order n

      by : ChildGoes texts (IsBuiltBy early) (IsBuiltBy (late ++ early)) n (run_of batch servers early) (run_of batch servers (late ++ early)) first (mid n) → More batch servers event (late ++ early) mid n last →
          ChildGoes texts (IsBuiltBy early) (IsBuiltBy (event ∷ (late ++ early))) n (run_of batch servers early) (run_of batch servers (event ∷ (late ++ early))) first last
      by one (inl (none, two)) = goes_twice (IsBuiltBy early) (IsBuiltBy (late ++ early)) (IsBuiltBy (event ∷ (late ++ early))) n (run_of batch servers early) (run_of batch servers (late ++ early)) (run_of batch servers (event ∷ (late ++ early))) first (mid n) last one two
      by one (inr (source, is, begins)) = absurd (other.0 (source, is))

  -- each range has its run, behind what its streams were built of
  pub all_behind : (batch servers : ℕ) (events : List ServerEvent) → AreBornSo texts batch servers events → AllInOrder texts batch servers events → (n : ℕ) → (taken : Taken) × RunBehind texts n taken (run_of batch servers events)
  all_behind batch servers events born order n = let k : ChildKept texts (IsBuiltBy events) n (run_of batch servers events) = all_children batch servers events born order n in (k.taken, k.kept)

  -- A RANGE THAT IS SERVED IS AT ITS LINE within its keys, whichever ranges splits make, and whichever copies belong to its loads by the order of its log
  pub served_at_own_keys : (batch servers : ℕ) (events : List ServerEvent) → AreBornSo texts batch servers events → AllInOrder texts batch servers events → (s range : ℕ) (r : RangeState) → ServesAt (run_of batch servers events) s range r →
      (log : KeepsOrder ((run_of batch servers events).story (log_name range))) → IsAtLineWithin texts r.said.keys ((run_of batch servers events).story (log_name range)) log.copies r
  served_at_own_keys batch servers events born order s range r at log =
      let x : ServerRun = run_of batch servers events in
      let c : ChildKept texts (IsBuiltBy events) range x = all_children batch servers events born order range in
      let h : HeldKept texts range c.kept.run (view_at range x s) r (split_of at.state.splits range) = kept_at texts range c.taken x c.kept s r at in
      let v : RangeView = with_stage (view_at range x s) h.split in
      let o : AreObserved texts range c.kept.run (c.taken.notes ++ only range (seen_as texts x.notes)) = c.kept.seen (seen_as texts x.notes) (all_seen texts x.notes) in
      at_own_keys texts c.kept.run v r (streams_same texts c.kept.run (view_at range x 0) v refl refl c.kept.streams) (serves_of texts range c.kept.run v r at.serves h.range) o.0 o.1 log (order range).ends (order range).metadata h.range.sound.out_fits
      (order range).answered

  -- ---- members of a family

  -- what was taken shows as many observations as are said of it
  pub counted : (batch servers : ℕ) (events : List ServerEvent) (born : AreBornSo texts batch servers events) (order : AllInOrder texts batch servers events) (n : ℕ) →
      length (all_children batch servers events born order n).taken.notes ≡ length (seen first_beginning (λ l. []) n (all_children batch servers events born order n).taken.run)
  unfolding all_children first_child
  counted batch servers [] born order n = refl
  counted batch servers (event ∷ earlier) born order n =
      ⊎_elim {C = length new.taken.notes ≡ length (seen first_beginning (λ l. []) n new.taken.run)}
      (λ go. subst (λ (t : Taken). length t.notes ≡ length (seen first_beginning (λ l. []) n t.run)) (sym go.1.taken) (counted batch servers earlier born.2 (order_before batch servers event earlier order) n)) (λ begins. begins.2.count)
      (child_follows batch servers event earlier born order n)
    where
      new : ChildKept texts (IsBuiltBy (event ∷ earlier)) n (run_of batch servers (event ∷ earlier))
      new = all_children batch servers (event ∷ earlier) born order n

  -- a range whose streams were never built took nothing
  pub unbuilt_took : (batch servers : ℕ) (events : List ServerEvent) (born : AreBornSo texts batch servers events) (order : AllInOrder texts batch servers events) (n : ℕ) → (IsBuiltBy events n → ⊥) → (all_children batch servers events born order n).taken ≡ nothing_taken
  unfolding all_children first_child
  unbuilt_took batch servers [] born order n never = refl
  unbuilt_took batch servers (event ∷ earlier) born order n never =
      ⊎_elim {C = (all_children batch servers (event ∷ earlier) born order n).taken ≡ nothing_taken}
      (λ go. go.1.taken ∙ unbuilt_took batch servers earlier born.2 (order_before batch servers event earlier order) n (λ built. never (inr built))) (λ begins. absurd (never (inl (begins.0, begins.1))))
      (child_follows batch servers event earlier born order n)

  abbrev pub all_members : (batch servers : ℕ) (events : List ServerEvent) (born : AreBornSo texts batch servers events) (order : AllInOrder texts batch servers events) (n : ℕ) → IsMember texts (run_of batch servers events) n
  all_members batch servers events born order n =
      let c : ChildKept texts (IsBuiltBy events) n (run_of batch servers events) = all_children batch servers events born order n in
      record { taken = c.taken; kept = c.kept; order = order n; count = counted batch servers events born order n }

  -- ---- a split that waits for its end

  module _ (batch servers : ℕ) (late early : List ServerEvent) (born : AreBornSo texts batch servers (late ++ early)) (order : AllInOrder texts batch servers (late ++ early)) (s : ℕ) (cell : ServerCell) (st : ServerState)
      (there : entry_at (run_of batch servers early).servers s ≡ Some cell) (up : cell.state ≡ Some st) (k : ℕ) (r : RangeState) (job : SplitJob) (held : range_of st.ranges k ≡ Some r) (split : split_of st.splits k ≡ Some job) (waits : IsCompleting job.phase)
      (child : Side) (other : AreOther (side_range job child) late) where
    abbrev range_kept : ChildKept texts (IsBuiltBy (late ++ early)) (side_range job child) (run_of batch servers (late ++ early))
    range_kept = all_children batch servers (late ++ early) born order (side_range job child)

    abbrev keys : KeyRange
    keys = side_keys r.said.keys job.key child

    -- THE KEYS OF THE TWO STAND by then, and from then on
    pub keys_stand : KeysStand range_kept.taken.run range_kept.kept.run job.generation r.said keys
    keys_stand =
        let then_kept : ChildKept texts (IsBuiltBy early) (side_range job child) (run_of batch servers early) = all_children batch servers early (born_early batch servers late early born) (order_early batch servers late early order) (side_range job child) in
        stands_on (IsBuiltBy early) (IsBuiltBy (late ++ early)) (side_range job child) (run_of batch servers early) (run_of batch servers (late ++ early)) then_kept range_kept (children_go batch servers late early born order (side_range job child) other)
        job.generation r.said keys
        (stands_when then_kept.taken.run then_kept.kept.run (append_at (run_of batch servers early) s (side_range job child)) r.said job child job.phase waits
        (then_kept.owed s cell st there up k r job held split child refl (λ building. absurd (not_building job.phase waits building))))

    -- they are named in its run,
    pub keys_named : IsNamed job.generation keys range_kept.kept.run
    keys_named = keys_stand.0

    -- behind what was taken they alone, under that generation alone,
    pub keys_alone : NamesOwn job.generation keys range_kept.kept.behind.0
    keys_alone = own_names range_kept.taken.run range_kept.kept.run job.generation r.said keys keys_stand.1 range_kept.kept.behind

    -- and nothing was out when its streams were built
    pub keys_began : HasNothingOut range_kept.taken.run job.generation r.said
    keys_began = keys_stand.1.began
