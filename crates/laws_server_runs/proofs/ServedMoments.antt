-- What is kept of a range that a server serves at a moment goes on from there, behind the same that its streams were built of: these are not built
-- anew.
use Rattle.std.proofs.Common.{◌≡◌, ℕ, suc, List, [], ◌∷◌, ◌++◌, length, refl, sym, ap, ◌∙◌, subst, append_assoc, append-nil}
use Rattle.wire.specs.declared.note.Note.{Note}
use Rattle.wire.specs.declared.streams.StreamKind.TheVariants as kinds
use Rattle.wire.specs.declared.streams.StreamName.{StreamName}
use Rattle.model_partition.specs.declared.table_note.TableNote.{TableNote}
use Rattle.model_partition.specs.Loading.{Group}
use Rattle.model_partition.specs.Past.{Bytes}
use Rattle.model_partition.specs.Range.{RangeState}
use Rattle.model_histories.specs.ServedTables.{AreSeenAs, ServesAt}
use Rattle.model_histories.specs.ServerRun.{ServerEvent, log_name, run_of}
use Rattle.model_histories.specs.Story.{StreamEvent, Story, KeepsOrder}
use Rattle.laws_tables.specs.Runs.{IsServing}
use Rattle.laws_tables.proofs.Points.{fronts}
use Rattle.laws_tables.proofs.Whole.{order_before as story_before}
use Rattle.laws_server_runs.specs.BornRanges.{AllInOrder}
use Rattle.laws_server_runs.specs.ChildInvariant.{IsBuildOf, IsBuiltBy, MayBuild, BuildsSo, AreBornSo, ChildKept, ChildGoes}
use Rattle.laws_server_runs.specs.RangeInvariant.{IsLonger}
use Rattle.laws_server_runs.specs.Reads.{AllAnswer}
use Rattle.laws_server_runs.specs.RunInvariant.{HasLoad, Taken, RunBehind}
use Rattle.laws_server_runs.proofs.Actions.{event_longer}
use Rattle.laws_server_runs.proofs.ChildTheorem.{AreOther, order_before, all_children, born_early, order_early, children_go}
use Rattle.laws_server_runs.proofs.ClosedRanges.{serving_longer}
use Rattle.laws_server_runs.proofs.Fronts.{SeenBoth, seen_both, longer_same, longer_twice}
use Rattle.laws_server_runs.proofs.StoodRanges.{load_serves, has_log, notes_on}

-- ---- stories and observations

module _ (A : Type 0) where
  same_copies : (story : Story A) (e : StreamEvent A) (order : KeepsOrder (e ∷ story)) → (story_before A e story order).copies ≡ order.copies
  unfolding story_before
  same_copies story e order = refl

  -- the front of a story keeps its order with the same copies
  front_order : (more story : Story A) (order : KeepsOrder (more ++ story)) → (front : KeepsOrder story) × (front.copies ≡ order.copies)
  front_order [] story order = (order, refl)
  front_order (e ∷ more) story order =
      let rest : (front : KeepsOrder story) × (front.copies ≡ (story_before A e (more ++ story) order).copies) = front_order more story (story_before A e (more ++ story) order) in
      (rest.0, rest.1 ∙ same_copies (more ++ story) e order)

  shorter_order : (story longer : Story A) → IsLonger story longer → (order : KeepsOrder longer) → (front : KeepsOrder story) × (front.copies ≡ order.copies)
  shorter_order story longer is = subst (λ z. (order : KeepsOrder z) → (front : KeepsOrder story) × (front.copies ≡ order.copies)) (sym is.1) (front_order is.0 story)

-- as many observations are seen as were shown
seen_count : (texts : ℕ → Bytes) (shown : List TableNote) (notes : List Note) → AreSeenAs texts shown notes → length shown ≡ length notes
seen_count texts [] [] seen = refl
seen_count texts [] (note ∷ notes) seen = absurd seen
seen_count texts (t ∷ shown) [] seen = absurd seen
seen_count texts (t ∷ shown) (note ∷ notes) seen = ap suc (seen_count texts shown notes seen.1)

-- what was shown first is what is seen first, over other texts too
pub front_seen : (texts others : ℕ → Bytes) (first second : List TableNote) (notes before after : List Note) → AreSeenAs texts (first ++ second) notes → notes ≡ before ++ after → AreSeenAs others first before → AreSeenAs texts first before
front_seen texts others first second notes before after seen is early =
    let b : SeenBoth texts first second notes = seen_both texts first second notes seen in
    let count : length b.before ≡ length before = sym (seen_count texts first b.before b.first_seen) ∙ seen_count others first before early in
    subst (AreSeenAs texts first) (fronts Note b.before b.later before after (sym b.is ∙ is) count) b.first_seen

module _ (batch servers : ℕ) where
  story_longer : (late early : List ServerEvent) (name : StreamName) → IsLonger ((run_of batch servers early).story name) ((run_of batch servers (late ++ early)).story name)
  story_longer [] early name = longer_same ((run_of batch servers early).story name)
  story_longer (event ∷ late) early name =
      longer_twice ((run_of batch servers early).story name) ((run_of batch servers (late ++ early)).story name) ((run_of batch servers (event ∷ (late ++ early))).story name) (story_longer late early name)
      ((event_longer (run_of batch servers (late ++ early)) event).story name)

  -- what servers showed goes on
  notes_longer : (late early : List ServerEvent) → (more : List TableNote) × ((run_of batch servers (late ++ early)).notes ≡ (run_of batch servers early).notes ++ more)
  notes_longer [] early = ([], sym (append-nil (run_of batch servers early).notes))
  notes_longer (event ∷ late) early =
      let old : (more : List TableNote) × ((run_of batch servers (late ++ early)).notes ≡ (run_of batch servers early).notes ++ more) = notes_longer late early in
      let new : (more : List TableNote) × ((run_of batch servers (event ∷ (late ++ early))).notes ≡ (run_of batch servers (late ++ early)).notes ++ more) = notes_on (run_of batch servers (late ++ early)) event in
      (old.0 ++ new.0, new.1 ∙ ap (λ l. l ++ new.0) old.1 ∙ append_assoc (run_of batch servers early).notes old.0 new.0)

-- of Gets that servers answer
pub answers_early : (batch servers : ℕ) (late early : List ServerEvent) → AllAnswer batch servers (late ++ early) → AllAnswer batch servers early
answers_early batch servers [] early all = all
answers_early batch servers (event ∷ late) early all = answers_early batch servers late early all.1

-- ---- a moment

module _ (texts : ℕ → Bytes) (batch servers : ℕ) where
  -- What is kept of a range at a moment, that it goes on from there, the load of a generation behind what was taken, the order of its log with the
  -- copies that it has at last, and what servers showed since.
  pub record MomentOf (events : List ServerEvent) (born : AreBornSo texts batch servers events) (order : AllInOrder texts batch servers events) (early : List ServerEvent) (range g : ℕ) : Type 0 where
    pub old : RunBehind texts range (all_children texts batch servers events born order range).taken (run_of batch servers early)
    pub goes : IsLonger old.run (all_children texts batch servers events born order range).kept.run
    pub loaded : HasLoad g old.behind.0
    pub log : KeepsOrder ((run_of batch servers early).story (log_name range))
    pub copies : log.copies ≡ (order range).log.copies
    pub more : List TableNote
    pub notes : (run_of batch servers events).notes ≡ (run_of batch servers early).notes ++ more

  module _ (early : List ServerEvent) (s range : ℕ) (r : RangeState) (at : ServesAt (run_of batch servers early) s range r) where
    abbrev g : ℕ
    g = r.load.generation

    abbrev kept : (events : List ServerEvent) → AreBornSo texts batch servers events → AllInOrder texts batch servers events → ChildKept texts (IsBuiltBy events) range (run_of batch servers events)
    kept events born order = all_children texts batch servers events born order range

    -- its streams are not built since
    not_built : (late : List ServerEvent) (born : AreBornSo texts batch servers (late ++ early)) (order : AllInOrder texts batch servers (late ++ early)) → AreOther texts range late
    not_built [] born order = tt
    not_built (event ∷ late) born order = (never (not_built late born.2 before), not_built late born.2 before)
      where
        before : AllInOrder texts batch servers (late ++ early)
        before = order_before texts batch servers event (late ++ early) order

        never : AreOther texts range late → IsBuildOf range event → ⊥
        never other built =
            let first : ChildKept texts (IsBuiltBy early) range (run_of batch servers early) = kept early (born_early texts batch servers late early born.2) (order_early texts batch servers late early before) in
            let last : ChildKept texts (IsBuiltBy (late ++ early)) range (run_of batch servers (late ++ early)) = kept (late ++ early) born.2 before in
            let serving : IsServing first.kept.run g = subst (λ z. IsServing z g) (sym first.kept.behind.1) (load_serves g first.kept.behind.0 first.taken.run (first.kept.loaded s r at)) in
            let go : ChildGoes texts (IsBuiltBy early) (IsBuiltBy (late ++ early)) range (run_of batch servers early) (run_of batch servers (late ++ early)) first last = children_go texts batch servers late early born.2 before range other in
            let may : MayBuild texts built.0 range (run_of batch servers (late ++ early)) = subst (λ e. BuildsSo texts e (run_of batch servers (late ++ early))) built.1 born.1 in
            has_log texts range g last.taken (run_of batch servers (late ++ early)) last.kept (serving_longer g first.kept.run last.kept.run go.goes serving) (may.new.story kinds.Log)

    moment_of : (late : List ServerEvent) (born : AreBornSo texts batch servers (late ++ early)) (order : AllInOrder texts batch servers (late ++ early)) → MomentOf (late ++ early) born order early range g
    moment_of late born order =
        let first : ChildKept texts (IsBuiltBy early) range (run_of batch servers early) = kept early (born_early texts batch servers late early born) (order_early texts batch servers late early order) in
        let last : ChildKept texts (IsBuiltBy (late ++ early)) range (run_of batch servers (late ++ early)) = kept (late ++ early) born order in
        let go : ChildGoes texts (IsBuiltBy early) (IsBuiltBy (late ++ early)) range (run_of batch servers early) (run_of batch servers (late ++ early)) first last = children_go texts batch servers late early born order range (not_built late born order) in
        let all : (old : RunBehind texts range last.taken (run_of batch servers early)) × IsLonger old.run last.kept.run × HasLoad g old.behind.0 =
        subst (λ (u : Taken). (old : RunBehind texts range u (run_of batch servers early)) × IsLonger old.run last.kept.run × HasLoad g old.behind.0) (sym go.taken) (first.kept, go.goes, first.kept.loaded s r at) in
        let log : (front : KeepsOrder ((run_of batch servers early).story (log_name range))) × (front.copies ≡ (order range).log.copies) =
        shorter_order Group ((run_of batch servers early).story (log_name range)) ((run_of batch servers (late ++ early)).story (log_name range)) (story_longer batch servers late early (log_name range)) (order range).log in
        let shown : (more : List TableNote) × ((run_of batch servers (late ++ early)).notes ≡ (run_of batch servers early).notes ++ more) = notes_longer batch servers late early in
        record { old = all.0; goes = all.1; loaded = all.2; log = log.0; copies = log.1; more = shown.0; notes = shown.1 }

    -- so it is at any moment of a list of events
    pub served_moment : (events : List ServerEvent) (born : AreBornSo texts batch servers events) (order : AllInOrder texts batch servers events) (late : List ServerEvent) → events ≡ late ++ early → MomentOf events born order early range g
    served_moment events born order late is =
        subst (λ l. (one : AreBornSo texts batch servers l) (other : AllInOrder texts batch servers l) → MomentOf l one other early range g) (sym is) (moment_of late) born order
