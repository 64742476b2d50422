-- What was so of a range when the streams of another were built of its own is so from the moment at which a split of it waits for them, and
-- stays so whatever comes.
use Rattle.std.proofs.Common.{◌≡◌, ◌⊎◌, ⊎_elim, ℕ, ◌==◌, Bool, true, false, List, [], ◌∷◌, ◌++◌, length, Some, refl, sym, ap, ◌∙◌, subst, inl, inr, append_assoc, append-nil, if◌then◌else◌}
use Rattle.wire.specs.declared.streams.StreamKind.TheVariants as kinds
use Rattle.model_streams.specs.Maps.{entry_at}
use Rattle.model_partition.specs.declared.split_job.Side.{Side}
use Rattle.model_partition.specs.declared.split_job.Side.TheVariants.{Low, High}
use Rattle.model_partition.specs.declared.split_job.SplitJob.{SplitJob}
use Rattle.model_partition.specs.declared.split_job.SplitPhase.{SplitPhase}
use Rattle.model_partition.specs.declared.split_job.SplitPhase.TheVariants as phases
use Rattle.model_partition.specs.declared.table_note.TableNote.{TableNote}
use Rattle.model_partition.specs.Past.{Bytes, Transaction}
use Rattle.commitlog.specs.Replay.{Numbered}
use Rattle.model_partition.specs.Range.{RangeState}
use Rattle.model_partition.specs.Server.{ServerState, range_of, split_of}
use Rattle.model_partition.specs.Servers.{ServerCell, server_takes}
use Rattle.model_partition.specs.Splits.{side_range}
use Rattle.metadata.specs.Fold.{MetadataState}
use Rattle.model_histories.specs.Renaming.{renamed, decoded}
use Rattle.model_histories.specs.ServedTables.{StreamsInOrder, ServesAt}
use Rattle.model_histories.specs.ServerRun.{ServerRun, ServerEvent, RangeEffect, Begins, Does, Tells, Rests, Takes, GivesUp, Checkpoints, Splits, Stops, Starts, Moment, Builds, after_event, built_streams, cell_effect, own_or, log_name, run_of, with_effect}
use Rattle.model_histories.specs.Story.{Showed, event_at}
use Rattle.laws_tables.specs.Runs.{Run, Forms, Logged, Notes, Records, Recorded, Trims, Confirms, log_of, IsServing}
use Rattle.laws_tables.proofs.Range.{newest}
use Rattle.laws_server_runs.specs.BornRanges.{AllInOrder}
use Rattle.laws_server_runs.specs.ChildInvariant.{SplitHolds, SplitsHold, HasNothingOut, IsBuilding, IsPaused, IsBuildOf, IsBuiltBy, IsUntouched, MayBuild, BuildsSo, AreBornSo, ChildKept, ChildGoes}
use Rattle.laws_server_runs.specs.ClosedRanges.{HasPaused, SplitPlan, IsPausedBy, IsClosed, FormedBefore}
use Rattle.laws_server_runs.specs.Places.{RunLaid}
use Rattle.laws_server_runs.specs.RangeInvariant.{IsLonger}
use Rattle.laws_server_runs.specs.RunInvariant.{HasLoad, Taken, RunBehind}
use Rattle.laws_server_runs.specs.StoodRanges.{plan_of, planned_range, AsksBuild, StoodAt}
use Rattle.laws_server_runs.specs.Turns.{outcome_of, IsOfServers}
use Rattle.laws_server_runs.proofs.Actions.{actions_rest, sides_rest, event_longer}
use Rattle.laws_server_runs.proofs.ChildTheorem.{AreOther, order_before, all_children, child_follows}
use Rattle.laws_server_runs.proofs.ClosedRanges.{serving_behind, serving_longer, closed_step}
use Rattle.laws_server_runs.proofs.ClosedStories.{same_formed, formed_step}
use Rattle.laws_server_runs.proofs.Fronts.{longer_same, longer_twice}
use Rattle.laws_server_runs.proofs.LaidRuns.{all_laid}
use Rattle.laws_server_runs.proofs.Others.{serving_on}
use Rattle.laws_server_runs.proofs.PausedRuns.{paused_at}
use Rattle.laws_server_runs.proofs.RunSteps.{IsAny, IsAnyPair, IsBuild, any_assigned, any_numbered, event_kind, event_step}
use Rattle.laws_server_runs.proofs.SplitsHeld.{splits_hold}
use Rattle.laws_server_runs.proofs.Theorem.{of_view}
use Rattle.laws_server_runs.proofs.Unmerged.{HaveNoMerges, unmerged}

-- ---- runs and stories

-- a generation that is loaded in a part is served
pub load_serves : (g : ℕ) (own taken : Run) → HasLoad g own → IsServing (own ++ taken) g
load_serves g [] taken h = absurd h
load_serves g (Forms i group ∷ own) taken h = serving_on (Forms i group) (own ++ taken) g (load_serves g own taken h)
load_serves g (Logged i append from to ∷ own) taken h = serving_on (Logged i append from to) (own ++ taken) g (load_serves g own taken h)
load_serves g (Notes i ∷ own) taken h = load_serves g own taken h
load_serves g (Records i number item ∷ own) taken h = load_serves g own taken h
load_serves g (Recorded i append from to ∷ own) taken h = load_serves g own taken h
load_serves g (Trims i place ∷ own) taken h = load_serves g own taken h
load_serves g (Confirms i start end groups metadata_end records ∷ own) taken (inr h) = serving_on (Confirms i start end groups metadata_end records) (own ++ taken) g (load_serves g own taken h)
load_serves g (Confirms i start end groups metadata_end records ∷ own) taken (inl same) =
    subst (λ n. IsServing (Confirms i start end groups metadata_end records ∷ (own ++ taken)) n) (sym same) (length (log_of (own ++ taken)), start, end, groups, newest (Numbered Transaction) (Showed i start end groups) (log_of (own ++ taken)))

-- a range that was loaded has a log
pub has_log : (texts : ℕ → Bytes) (range g : ℕ) (taken : Taken) (x : ServerRun) (k : RunBehind texts range taken x) → IsServing k.run g → x.story (log_name range) ≡ [] → ⊥
has_log texts range g taken x k served none =
    let empty : log_of k.run ≡ [] = k.streams.log ∙ ap (renamed decoded) none in
    let at : event_at [] served.0 ≡ Some (Showed g served.1 served.2 served.3) = ap (λ story. event_at story served.0) (sym empty) ∙ served.4 in
    cc

-- ---- what an event leaves

effect_notes : (s : ℕ) (x : ServerRun) (effect : RangeEffect) → (with_effect s x effect).notes ≡ x.notes
effect_notes s x (Begins range) = refl
effect_notes s x (Does range g actions) = (actions_rest s range g x actions).1
effect_notes s x (Tells g sides) = (sides_rest s g x sides).1
effect_notes s x Rests = refl

pub notes_on : (x : ServerRun) (event : ServerEvent) → (more : List TableNote) × ((after_event x event).notes ≡ x.notes ++ more)
notes_on x (Takes s p) = ((server_takes x.servers s p).notes, ap (λ l. l ++ (server_takes x.servers s p).notes) (effect_notes s x (cell_effect p (entry_at x.servers s))))
notes_on x (GivesUp s range pick) = (_, refl)
notes_on x (Checkpoints s range combine) = (_, refl)
notes_on x (Splits s range key) = (_, refl)
notes_on x (Stops s call) = (_, refl)
notes_on x (Starts s now batch) = (_, refl)
notes_on x (Moment now) = ([], sym (append-nil x.notes))
notes_on x (Builds source range) = ([], sym (append-nil x.notes))

-- what stands is not built anew
own_stays : {A : Type 0} (b : Bool) (own given : List A) → (own ≡ [] → ⊥) → (if b then own_or own given else own) ≡ own
own_stays true [] given some = absurd (some refl)
own_stays true (x ∷ own) given some = refl
own_stays false own given some = refl

-- ---- a range that a split closes

module _ (texts : ℕ → Bytes) (source g : ℕ) (taken : Taken) (x : ServerRun) (laid : RunLaid x) (whole : HaveNoMerges x.servers) (splits : SplitsHold x.servers) (k : RunBehind texts source taken x) (served : IsServing k.run g) (plan : SplitPlan)
    (old : IsClosed plan source g x) where
  -- whatever comes it stays closed,
  pub closed_event : (event : ServerEvent) → IsOfServers event ⊎ IsBuild event → StreamsInOrder texts source x → StreamsInOrder texts source (after_event x event) → IsClosed plan source g (after_event x event)
  closed_event event (inl is) order later =
      closed_step texts source g taken x laid k served (of_view texts source x order) plan splits old (outcome_of x.servers event).notes (after_event x event)
      (event_step IsAny IsAnyPair x whole event is (any_assigned event) (any_numbered event)) (of_view texts source (after_event x event) later)
  closed_event event (inr build) order later =
      subst (λ e. IsClosed plan source g (after_event x e)) (sym build.2)
      (λ s r at same. old s r (record { cell = at.cell; state = at.state; there = at.there; runs = at.runs; held = at.held; serves = at.serves }) same)

  -- and nothing is formed under the generation
  pub formed_event : (event : ServerEvent) → IsOfServers event ⊎ IsBuild event → FormedBefore source g x (after_event x event)
  formed_event event (inl is) =
      formed_step source g x laid splits plan old (outcome_of x.servers event).notes (after_event x event) (event_step IsAny IsAnyPair x whole event is (any_assigned event) (any_numbered event))
  formed_event event (inr build) =
      subst (λ e. FormedBefore source g x (after_event x e)) (sym build.2)
      (same_formed source g x (built_streams build.0 build.1 x) (own_stays (source == build.1) (x.story (log_name source)) (x.story (log_name build.0)) (has_log texts source g taken x k served)))

-- ---- the moment

building_paused : (phase : SplitPhase) → IsBuilding phase → IsPaused phase × HasPaused phase
building_paused (phases.Build q) b = (tt, tt)
building_paused (phases.Begin q) b = absurd b
building_paused phases.Checkpoint b = absurd b
building_paused phases.Queue b = absurd b
building_paused phases.Record b = absurd b
building_paused (phases.Seal kind q) b = absurd b
building_paused (phases.Keys out c) b = absurd b
building_paused (phases.Complete q) b = absurd b

side_planned : (r : RangeState) (job : SplitJob) (side : Side) → side_range job side ≡ planned_range (plan_of r job) side
side_planned r job Low = refl
side_planned r job High = refl

module _ (texts : ℕ → Bytes) (source child : ℕ) where
  module _ (taken : Taken) (x : ServerRun) (splits : SplitsHold x.servers) (k : RunBehind texts source taken x) (new : IsUntouched texts child x) (asks : AsksBuild x source child) where
    abbrev g : ℕ
    g = asks.job.generation

    abbrev plan : SplitPlan
    plan = plan_of asks.range asks.job

    holds : SplitHolds asks.range asks.job
    holds = splits asks.server asks.cell asks.state asks.there asks.runs source asks.range asks.job asks.held asks.found

    serves : ServesAt x asks.server source asks.range
    serves = record { cell = asks.cell; state = asks.state; there = asks.there; runs = asks.runs; held = asks.held; serves = holds.serving }

    nothing : HasNothingOut k.run g asks.range.said
    nothing = paused_at texts source taken x k asks.server asks.cell asks.state asks.there asks.runs asks.range asks.job asks.held asks.found holds (building_paused asks.job.phase asks.building).0

    -- none but that server serves it under the generation
    closed_now : IsClosed plan source g x
    closed_now s r at same = by (k.own s asks.server r asks.range at serves (same ∙ holds.generation))
      where
        by : s ≡ asks.server → IsPausedBy plan r (split_of at.state.splits source)
        by here =
            let cells : Some at.cell ≡ Some asks.cell = sym at.there ∙ ap (entry_at x.servers) here ∙ asks.there in
            let cell_is : at.cell ≡ asks.cell = cc in
            let states : Some at.state ≡ Some asks.state = sym at.runs ∙ ap (λ (c : ServerCell). c.state) cell_is ∙ asks.runs in
            let state_is : at.state ≡ asks.state = cc in
            let ranges : Some r ≡ Some asks.range = sym at.held ∙ ap (λ (q : ServerState). range_of q.ranges source) state_is ∙ asks.held in
            let range_is : r ≡ asks.range = cc in
            let split_is : split_of at.state.splits source ≡ Some asks.job = ap (λ (q : ServerState). split_of q.splits source) state_is ∙ asks.found in
            subst (λ z. IsPausedBy plan z (split_of at.state.splits source)) (sym range_is)
            (subst (IsPausedBy plan asks.range) (sym split_is) (record { paused = (building_paused asks.job.phase asks.building).1; keys = refl; key = refl; low = refl; high = refl }))

    pub stood_now : StoodAt texts source child x g plan taken k.run k.run x
    stood_now = record {
      old = k;
      goes = longer_same k.run;
      took = refl;
      notes = ([], sym (append-nil x.notes));
      story = λ kind. longer_same _;
      untold = new.untold;
      loaded = subst (λ n. HasLoad n k.behind.0) (sym holds.generation) (k.loaded asks.server asks.range serves);
      nothing_out = nothing.out;
      formed = λ a group at. at;
      side = asks.side;
      is = asks.is ∙ side_planned asks.range asks.job asks.side;
      keys = ap (λ (m : MetadataState). m.keys) (sym nothing.says);
      closed = closed_now;
    }

  -- ---- since then

  module _ (moment : ServerRun) (g : ℕ) (plan : SplitPlan) (taken : Taken) (run began : Run) (x : ServerRun) (stood : StoodAt texts source child moment g plan taken run began x) where
    -- the generation is served
    pub stood_serves : IsServing run g
    stood_serves = serving_longer g stood.old.run run stood.goes (subst (λ z. IsServing z g) (sym stood.old.behind.1) (load_serves g stood.old.behind.0 taken.run stood.loaded))

    pub began_serves : IsServing began g
    began_serves = subst (λ z. IsServing z g) (sym stood.took) (subst (λ z. IsServing z g) (sym stood.old.behind.1) (load_serves g stood.old.behind.0 taken.run stood.loaded))

    -- one event more
    module _ (laid : RunLaid x) (whole : HaveNoMerges x.servers) (splits : SplitsHold x.servers) (k : RunBehind texts source taken x) (is : k.run ≡ run) (event : ServerEvent) (order : StreamsInOrder texts source x)
        (order_later : StreamsInOrder texts source (after_event x event)) (later : Run) (on : IsLonger run later) where
      served : IsServing k.run g
      served = subst (λ z. IsServing z g) (sym is) stood_serves

      pub stood_event : StoodAt texts source child moment g plan taken later began (after_event x event)
      stood_event =
          let more : (more : List TableNote) × ((after_event x event).notes ≡ x.notes ++ more) = notes_on x event in
          record {
            old = stood.old;
            goes = longer_twice stood.old.run run later stood.goes on;
            took = stood.took;
            notes = (stood.notes.0 ++ more.0, more.1 ∙ ap (λ l. l ++ more.0) stood.notes.1 ∙ append_assoc moment.notes stood.notes.0 more.0);
            story = λ kind. longer_twice _ _ _ (stood.story kind) ((event_longer x event).story _);
            untold = stood.untold;
            loaded = stood.loaded;
            nothing_out = stood.nothing_out;
            formed = λ a group at. stood.formed a group (formed_event texts source g taken x laid whole splits k served plan stood.closed event (event_kind event) a group at);
            side = stood.side;
            is = stood.is;
            keys = stood.keys;
            closed = closed_event texts source g taken x laid whole splits k served plan stood.closed event (event_kind event) order order_later;
          }

  -- ---- whatever comes

  module _ (batch servers : ℕ) (early : List ServerEvent) (asks : AsksBuild (run_of batch servers early) source child) where
    abbrev kept : (events : List ServerEvent) → AreBornSo texts batch servers events → AllInOrder texts batch servers events → (n : ℕ) → ChildKept texts (IsBuiltBy events) n (run_of batch servers events)
    kept events born order n = all_children texts batch servers events born order n

    -- what stood when the streams of the child were built
    abbrev pub HasStood : (events : List ServerEvent) → AreBornSo texts batch servers events → AllInOrder texts batch servers events → Type 0
    HasStood events born order =
        StoodAt texts source child (run_of batch servers early) asks.job.generation (plan_of asks.range asks.job) (kept events born order source).taken (kept events born order source).kept.run (kept events born order child).taken.run (run_of batch servers events)

    -- one event more, which builds the streams of neither
    module _ (event : ServerEvent) (events : List ServerEvent) (born : AreBornSo texts batch servers (event ∷ events)) (order : AllInOrder texts batch servers (event ∷ events)) where
      abbrev x : ServerRun
      x = run_of batch servers events

      abbrev olds : (n : ℕ) → ChildKept texts (IsBuiltBy events) n x
      olds n = kept events born.2 (order_before texts batch servers event events order) n

      abbrev news : (n : ℕ) → ChildKept texts (IsBuiltBy (event ∷ events)) n (run_of batch servers (event ∷ events))
      news n = kept (event ∷ events) born order n

      -- what stood, with another run of the child to begin with
      goes_on : (began : Run) → StoodAt texts source child (run_of batch servers early) asks.job.generation (plan_of asks.range asks.job) (olds source).taken (olds source).kept.run began x →
          (go : ChildGoes texts (IsBuiltBy events) (IsBuiltBy (event ∷ events)) source x (run_of batch servers (event ∷ events)) (olds source) (news source)) →
          StoodAt texts source child (run_of batch servers early) asks.job.generation (plan_of asks.range asks.job) (news source).taken (news source).kept.run began (run_of batch servers (event ∷ events))
      goes_on began stood go =
          subst (λ t. StoodAt texts source child (run_of batch servers early) asks.job.generation (plan_of asks.range asks.job) t (news source).kept.run began (run_of batch servers (event ∷ events))) (sym go.taken)
          (stood_event (run_of batch servers early) asks.job.generation (plan_of asks.range asks.job) (olds source).taken (olds source).kept.run began x stood (all_laid batch servers events) (unmerged batch servers events) (splits_hold batch servers events)
          (olds source).kept refl event (order_before texts batch servers event events order source) (order source) (news source).kept.run go.goes)

      -- what is kept of a range that was loaded goes on
      kept_goes : (n g : ℕ) → IsServing (olds n).kept.run g → ChildGoes texts (IsBuiltBy events) (IsBuiltBy (event ∷ events)) n x (run_of batch servers (event ∷ events)) (olds n) (news n)
      kept_goes n g served =
          ⊎_elim {C = ChildGoes texts (IsBuiltBy events) (IsBuiltBy (event ∷ events)) n x (run_of batch servers (event ∷ events)) (olds n) (news n)} (λ on. on.1)
          (λ built.
          let may : MayBuild texts built.0 n x = subst (λ e. BuildsSo texts e x) built.1 born.1 in
          absurd (has_log texts n g (olds n).taken x (olds n).kept served (may.new.story kinds.Log)))
          (child_follows texts batch servers event events born order n)

      -- a step later
      stood_later : HasStood events born.2 (order_before texts batch servers event events order) → HasStood (event ∷ events) born order
      stood_later stood =
          let g : ℕ = asks.job.generation in
          let here : IsServing (olds source).kept.run g = stood_serves (run_of batch servers early) g (plan_of asks.range asks.job) (olds source).taken (olds source).kept.run (olds child).taken.run x stood in
          let there : IsServing (olds child).taken.run g = began_serves (run_of batch servers early) g (plan_of asks.range asks.job) (olds source).taken (olds source).kept.run (olds child).taken.run x stood in
          let of_child : IsServing (olds child).kept.run g = subst (λ z. IsServing z g) (sym (olds child).kept.behind.1) (serving_behind g (olds child).kept.behind.0 (olds child).taken.run there) in
          subst (λ t. StoodAt texts source child (run_of batch servers early) asks.job.generation (plan_of asks.range asks.job) (news source).taken (news source).kept.run t (run_of batch servers (event ∷ events)))
          (ap (λ (t : Taken). t.run) (sym (kept_goes child g of_child).taken)) (goes_on (olds child).taken.run stood (kept_goes source g here))

      -- the streams of the child are not built again
      never_built : HasStood events born.2 (order_before texts batch servers event events order) → IsBuildOf child event → ⊥
      never_built stood built =
          let g : ℕ = asks.job.generation in
          let there : IsServing (olds child).taken.run g = began_serves (run_of batch servers early) g (plan_of asks.range asks.job) (olds source).taken (olds source).kept.run (olds child).taken.run x stood in
          let served : IsServing (olds child).kept.run g = subst (λ z. IsServing z g) (sym (olds child).kept.behind.1) (serving_behind g (olds child).kept.behind.0 (olds child).taken.run there) in
          let may : MayBuild texts built.0 child x = subst (λ e. BuildsSo texts e x) built.1 born.1 in
          has_log texts child g (olds child).taken x (olds child).kept served (may.new.story kinds.Log)

    -- when they are built
    module _ (born : AreBornSo texts batch servers (Builds source child ∷ early)) (order : AllInOrder texts batch servers (Builds source child ∷ early)) where
      abbrev first_olds : (n : ℕ) → ChildKept texts (IsBuiltBy early) n (run_of batch servers early)
      first_olds n = kept early born.2 (order_before texts batch servers (Builds source child) early order) n

      abbrev first_news : (n : ℕ) → ChildKept texts (IsBuiltBy (Builds source child ∷ early)) n (run_of batch servers (Builds source child ∷ early))
      first_news n = kept (Builds source child ∷ early) born order n

      child_took : (first_news child).taken.run ≡ (first_olds source).kept.run
      child_took =
          ⊎_elim {C = (first_news child).taken.run ≡ (first_olds source).kept.run} (λ on. absurd (on.0 (source, refl)))
          (λ built.
          let is : Builds source child ≡ Builds built.0 child = built.1 in
          let same : source ≡ built.0 = cc in
          built.2.took ∙ ap (λ n. (first_olds n).kept.run) (sym same))
          (child_follows texts batch servers (Builds source child) early born order child)

      stood_first : HasStood (Builds source child ∷ early) born order
      stood_first =
          let g : ℕ = asks.job.generation in
          let now : StoodAt texts source child (run_of batch servers early) g (plan_of asks.range asks.job) (first_olds source).taken (first_olds source).kept.run (first_olds source).kept.run (run_of batch servers early) =
          stood_now (first_olds source).taken (run_of batch servers early) (splits_hold batch servers early) (first_olds source).kept born.1.new asks in
          let here : IsServing (first_olds source).kept.run g =
          stood_serves (run_of batch servers early) g (plan_of asks.range asks.job) (first_olds source).taken (first_olds source).kept.run (first_olds source).kept.run (run_of batch servers early) now in
          subst (λ t. StoodAt texts source child (run_of batch servers early) asks.job.generation (plan_of asks.range asks.job) (first_news source).taken (first_news source).kept.run t (run_of batch servers (Builds source child ∷ early))) (sym child_took)
          (goes_on (Builds source child) early born order (first_olds source).kept.run now (kept_goes (Builds source child) early born order source g here))

    -- WHAT STOOD WHEN THEY WERE BUILT stands at each moment since
    pub has_stood : (late : List ServerEvent) (born : AreBornSo texts batch servers (late ++ Builds source child ∷ early)) (order : AllInOrder texts batch servers (late ++ Builds source child ∷ early)) →
        HasStood (late ++ Builds source child ∷ early) born order
    has_stood [] born order = stood_first born order
    has_stood (event ∷ late) born order =
        stood_later event (late ++ Builds source child ∷ early) born order (has_stood late born.2 (order_before texts batch servers event (late ++ Builds source child ∷ early) order))

    -- and so after more events
    pub stood_after : (after late : List ServerEvent) (born : AreBornSo texts batch servers (after ++ (late ++ Builds source child ∷ early))) (order : AllInOrder texts batch servers (after ++ (late ++ Builds source child ∷ early))) →
        HasStood (after ++ (late ++ Builds source child ∷ early)) born order
    stood_after after late =
        subst (λ events. (born : AreBornSo texts batch servers events) (order : AllInOrder texts batch servers events) → HasStood events born order) (append_assoc after late (Builds source child ∷ early)) (has_stood (after ++ late))

    -- nor are they among more events
    pub built_once : (after late : List ServerEvent) (born : AreBornSo texts batch servers (after ++ (late ++ Builds source child ∷ early))) (order : AllInOrder texts batch servers (after ++ (late ++ Builds source child ∷ early))) →
        AreOther texts child after
    built_once [] late born order = tt
    built_once (event ∷ after) late born order =
        let earlier : AllInOrder texts batch servers (after ++ (late ++ Builds source child ∷ early)) = order_before texts batch servers event (after ++ (late ++ Builds source child ∷ early)) order in (
          never_built event (after ++ (late ++ Builds source child ∷ early)) born order (stood_after after late born.2 (order_before texts batch servers event (after ++ (late ++ Builds source child ∷ early)) order)),
          built_once after late born.2 earlier,
        )
