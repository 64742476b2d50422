-- A split that waits for its end at a server, at any moment: by then the streams of each of the two were built of those of its range, and never
-- again since.
use Rattle.std.proofs.Common.{◌≡◌, ◌⊎◌, ⊎_elim, ℕ, List, [], ◌∷◌, ◌++◌, Some, sym, ap, ◌∙◌, subst, inl, inr, append_assoc, if◌then◌else◌}
use Rattle.std.proofs.lemmas.Bool.{cases_eq}
use Rattle.wire.specs.declared.streams.StreamKind.{StreamKind}
use Rattle.model_partition.specs.Past.{Bytes}
use Rattle.model_histories.specs.ServerRun.{ServerRun, ServerEvent, Builds, own_or, run_of, stream_named}
use Rattle.model_histories.specs.Story.{Showed, event_at}
use Rattle.laws_tables.specs.Runs.{log_of, IsServing}
use Rattle.laws_server_runs.specs.BornRanges.{AllInOrder}
use Rattle.laws_server_runs.specs.ChildInvariant.{IsCompleting, ChildAt, IsBuildOf, IsBuiltBy, AreBornSo}
use Rattle.laws_server_runs.specs.RangeInvariant.{IsLonger}
use Rattle.laws_server_runs.specs.RunInvariant.{Taken, nothing_taken}
use Rattle.laws_server_runs.specs.StoodRanges.{AsksBuild}
use Rattle.laws_server_runs.specs.Turns.{IsOfServers}
use Rattle.laws_server_runs.proofs.Actions.{same_test, event_longer}
use Rattle.laws_server_runs.proofs.ChildStands.{child_stands}
use Rattle.laws_server_runs.proofs.ChildTheorem.{AreOther, all_children, born_early, order_early, unbuilt_took}
use Rattle.laws_server_runs.proofs.Fronts.{longer_same, longer_twice}
use Rattle.laws_server_runs.proofs.RunSteps.{IsBuild, event_kind}
use Rattle.laws_server_runs.proofs.SplitsBack.{SplitThen, split_then}
use Rattle.laws_server_runs.proofs.SplitsSince.{SameSplit}
use Rattle.laws_server_runs.proofs.StoodRanges.{built_once}

-- ---- the event that built the streams of a range

is_build : (n : ℕ) (event : ServerEvent) → IsBuildOf n event ⊎ (IsBuildOf n event → ⊥)
is_build n event = by (event_kind event)
  where
    by : IsOfServers event ⊎ IsBuild event → IsBuildOf n event ⊎ (IsBuildOf n event → ⊥)
    by (inl is) = inr (λ b. is b.0 n b.1)
    by (inr (source, range, e)) = elim (cases_eq range n) [
      | inl same ↦ inl (source, e ∙ ap (λ m. Builds source m) same)
      | inr other ↦ inr (λ b. let z : Builds source range ≡ Builds b.0 n = sym e ∙ b.1 in let same : range ≡ n = cc in other same)
    ]

record BuiltLast (n : ℕ) (events : List ServerEvent) : Type 0 where
  late : List ServerEvent
  source : ℕ
  early : List ServerEvent
  is : events ≡ late ++ Builds source n ∷ early

built_last : (n : ℕ) (events : List ServerEvent) → BuiltLast n events ⊎ (IsBuiltBy events n → ⊥)
built_last n [] = inr (λ built. built)
built_last n (event ∷ earlier) =
    ⊎_elim {C = BuiltLast n (event ∷ earlier) ⊎ (IsBuiltBy (event ∷ earlier) n → ⊥)}
    (λ now. inl (record { late = []; source = now.0; early = earlier; is = ap (λ e. e ∷ earlier) now.1 }))
    (λ other.
    ⊎_elim {C = BuiltLast n (event ∷ earlier) ⊎ (IsBuiltBy (event ∷ earlier) n → ⊥)} (λ last. inl (record { late = event ∷ last.late; source = last.source; early = last.early; is = ap (λ l. event ∷ l) last.is }))
    (λ never. inr (λ built. ⊎_elim {C = ⊥} other never built)) (built_last n earlier)) (is_build n event)

-- what was nothing serves none
serves_some : (g : ℕ) (taken : Taken) → taken ≡ nothing_taken → IsServing taken.run g → ⊥
serves_some g taken none served =
    let at : event_at [] served.0 ≡ Some (Showed g served.1 served.2 served.3) = ap (λ (t : Taken). event_at (log_of t.run) served.0) (sym none) ∙ served.4 in
    cc

-- ---- stories

module _ (batch servers : ℕ) where
  longer_since : (late early : List ServerEvent) (range : ℕ) (kind : StreamKind) → IsLonger ((run_of batch servers early).story (stream_named range kind)) ((run_of batch servers (late ++ early)).story (stream_named range kind))
  longer_since [] early range kind = longer_same ((run_of batch servers early).story (stream_named range kind))
  longer_since (event ∷ late) early range kind =
      longer_twice ((run_of batch servers early).story (stream_named range kind)) ((run_of batch servers (late ++ early)).story (stream_named range kind)) ((run_of batch servers (event ∷ (late ++ early))).story (stream_named range kind))
      (longer_since late early range kind) ((event_longer (run_of batch servers (late ++ early)) event).story (stream_named range kind))

  -- those of a range begin as its source's stand
  built_story : (source n : ℕ) (early : List ServerEvent) (kind : StreamKind) → (run_of batch servers early).story (stream_named n kind) ≡ [] →
      (run_of batch servers (Builds source n ∷ early)).story (stream_named n kind) ≡ (run_of batch servers early).story (stream_named source kind)
  built_story source n early kind none =
      let x : ServerRun = run_of batch servers early in
      ap (λ b. if b then own_or (x.story (stream_named n kind)) (x.story (stream_named source kind)) else x.story (stream_named n kind)) (same_test n) ∙ ap (λ l. own_or l (x.story (stream_named source kind))) none

module _ (texts : ℕ → Bytes) (batch servers s k n : ℕ) where
  abbrev run : List ServerEvent → ServerRun
  run events = run_of batch servers events

  abbrev Born : List ServerEvent → Type 0
  Born events = AreBornSo texts batch servers events

  abbrev Ordered : List ServerEvent → Type 0
  Ordered events = AllInOrder texts batch servers events

  -- The streams of n were built of those of k, as the split asked that waits for its end now, which was of k at the same server then; and
  -- their stories go on from those of k.
  pub record IsBuiltSo (events until : List ServerEvent) (c : ChildAt (run until) s k n) : Type 0 where
    pub after : List ServerEvent
    pub late : List ServerEvent
    pub early : List ServerEvent
    pub is : events ≡ after ++ until
    pub until_is : until ≡ late ++ Builds k n ∷ early
    pub once : AreOther texts n (after ++ late)
    pub asks : AsksBuild (run early) k n
    pub same : SameSplit asks.job c.job
    pub begun : (kind : StreamKind) → IsLonger ((run early).story (stream_named k kind)) ((run events).story (stream_named n kind))

  -- ---- the moment when they were built

  then_at : (until late early : List ServerEvent) (source : ℕ) → until ≡ late ++ Builds source n ∷ early → Born until → (c : ChildAt (run until) s k n) → SplitThen texts batch servers s k n source (run early) (run until) c
  then_at until late early source is =
      subst (λ l. Born l → (c : ChildAt (run l) s k n) → SplitThen texts batch servers s k n source (run early) (run l) c) (sym is) (split_then texts batch servers s k n late early source)

  module _ (until : List ServerEvent) (born : Born until) (order : Ordered until) (c : ChildAt (run until) s k n) (waits : IsCompleting c.job.phase) where
    -- nothing was taken otherwise, and the generation was served in what was
    last : BuiltLast n until
    last =
        ⊎_elim {C = BuiltLast n until} (λ l. l)
        (λ never. absurd (serves_some c.job.generation (all_children texts batch servers until born order n).taken (unbuilt_took texts batch servers until born order n never)
        (child_stands texts batch servers [] until born order s k n c waits tt).stands.1.began.shown)) (built_last n until)

    last_is : until ≡ last.late ++ Builds k n ∷ last.early
    last_is = last.is ∙ ap (λ m. last.late ++ Builds m n ∷ last.early) (sym (then_at until last.late last.early last.source last.is born c).of_source)

    moment : SplitThen texts batch servers s k n k (run last.early) (run until) c
    moment = then_at until last.late last.early k last_is born c

    asked : AsksBuild (run last.early) k n
    asked = record {
      server = s;
      cell = moment.child.cell;
      state = moment.child.state;
      there = moment.child.there;
      runs = moment.child.runs;
      range = moment.range;
      held = moment.held;
      job = moment.child.job;
      found = moment.child.found;
      building = moment.waits;
      side = moment.child.side;
      is = moment.child.is;
    }

    asked_same : SameSplit asked.job c.job
    unfolding asked
    asked_same = moment.same

  module _ (events : List ServerEvent) (born : Born events) (order : Ordered events) (after until : List ServerEvent) (is : events ≡ after ++ until) (c : ChildAt (run until) s k n) (waits : IsCompleting c.job.phase) where
    born_until : Born until
    born_until = born_early texts batch servers after until (subst Born is born)

    order_until : Ordered until
    order_until = order_early texts batch servers after until (subst Ordered is order)

    abbrev built : BuiltLast n until
    built = last until born_until order_until c waits

    events_are : events ≡ (after ++ built.late) ++ Builds k n ∷ built.early
    events_are = is ∙ ap (λ l. after ++ l) (last_is until born_until order_until c waits) ∙ sym (append_assoc after built.late (Builds k n ∷ built.early))

    unbuilt : (kind : StreamKind) → (run built.early).story (stream_named n kind) ≡ []
    unbuilt kind = (born_early texts batch servers (after ++ built.late) (Builds k n ∷ built.early) (subst Born events_are born)).1.new.story kind

    -- THE STREAMS OF EACH OF THE TWO WERE BUILT of those of the range that is split
    pub built_so : IsBuiltSo events until c
    built_so = record {
      after = after;
      late = built.late;
      early = built.early;
      is = is;
      until_is = last_is until born_until order_until c waits;
      once = built_once texts k n batch servers built.early (asked until born_until order_until c waits) (after ++ built.late) [] (subst Born events_are born) (subst Ordered events_are order);
      asks = asked until born_until order_until c waits;
      same = asked_same until born_until order_until c waits;
      begun = λ kind.
          subst (λ l. IsLonger ((run built.early).story (stream_named k kind)) ((run l).story (stream_named n kind))) (sym events_are)
          (subst (λ story. IsLonger story ((run ((after ++ built.late) ++ Builds k n ∷ built.early)).story (stream_named n kind))) (built_story batch servers k n built.early kind (unbuilt kind))
          (longer_since batch servers (after ++ built.late) (Builds k n ∷ built.early) n kind));
    }
