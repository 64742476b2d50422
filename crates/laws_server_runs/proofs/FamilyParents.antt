-- What is kept of a range at one moment and later: what it had shown by then, that the loads that were confirmed by then are told, and that
-- what it had formed under a generation was answered. So much does the law of families want of a range that was split.
use Rattle.std.proofs.Common.{◌≡◌, ℕ, Bool, true, false, List, [], ◌∷◌, ◌++◌, length, Some, None, refl, sym, ap, ◌∙◌, subst, inl, inr, append_assoc, append-nil, if◌then◌else◌}
use Rattle.std.specs.Prelude.{Contains}
use Rattle.std.proofs.lemmas.List.{append_cancel_left, append_cancel_right}
use Rattle.wire.specs.declared.note.Note.{Note}
use Rattle.wire.specs.declared.note.Note.TheVariants.{Loaded}
use Rattle.wire.specs.declared.rows.Row.{Row}
use Rattle.commitlog.specs.Replay.{Numbered}
use Rattle.model_histories.specs.Log.{begins_of, dones_at, is_of, only}
use Rattle.model_histories.specs.ServedTables.{AreSeenAs}
use Rattle.model_histories.specs.Renaming.{decoded}
use Rattle.model_histories.specs.ServerRun.{ServerRun, log_name}
use Rattle.model_histories.specs.Story.{Made, event_at}
use Rattle.model_histories.specs.StreamMachine.{In}
use Rattle.model_partition.specs.Past.{Bytes, Transaction}
use Rattle.laws_tables.specs.Families.{IsToldIn}
use Rattle.laws_tables.specs.Runs.{Run, Forms, Logged, Notes, Records, Recorded, Trims, Confirms, log_of, first_beginning, held, next_loaded, seen}
use Rattle.laws_tables.specs.Through.{IsAnswered}
use Rattle.laws_tables.proofs.Members.{contains_in, in_middle}
use Rattle.laws_tables.proofs.Points.{fronts}
use Rattle.laws_checkpoints.specs.IndexLayers.{layer_at}
use Rattle.laws_loads.proofs.Renaming.{made_at, made_from}
use Rattle.laws_server_runs.specs.ClosedRanges.{FormedBefore}
use Rattle.laws_server_runs.specs.RangeInvariant.{AreObserved, IsLonger}
use Rattle.laws_server_runs.specs.RunInvariant.{HasLoad, Taken, RunBehind}
use Rattle.laws_server_runs.proofs.AnsweredGroups.{all_answered}
use Rattle.laws_server_runs.proofs.FamilyRanges.{seen_length, more_shown, observed, rows, own}
use Rattle.laws_server_runs.proofs.OwnNotes.{only_both}

-- an observation of a range is one of all
pub only_in : (range : ℕ) (note : Note) (h : List Note) → In note (only range h) → In note h
only_in range note [] there = there
only_in range note (n ∷ h) there = by (is_of range n) there (only_in range note h)
  where
    by : (b : Bool) → In note (if b then n ∷ only range h else only range h) → (In note (only range h) → In note h) → In note (n ∷ h)
    by true (inl same) rest = inl same
    by true (inr later) rest = inr (rest later)
    by false later rest = inr (rest later)

-- ---- loads are seen

-- a load under this generation is seen behind what was taken
pub record ShowsLoad (shown : ℕ → List Row) (range g : ℕ) (own taken : Run) : Type 0 where
  pub front : List Note
  pub back : List Note
  pub table : List Row
  pub next : ℕ
  pub is : seen first_beginning shown range (own ++ taken) ≡ seen first_beginning shown range taken ++ (front ++ Loaded range g table next ∷ back)

module _ (shown : ℕ → List Row) (range g : ℕ) (taken : Run) where
  abbrev seen_of : Run → List Note
  seen_of run = seen first_beginning shown range run

  -- and stays so
  shows_later : (own more : Run) (new : List Note) → seen_of (more ++ taken) ≡ seen_of (own ++ taken) ++ new → ShowsLoad shown range g own taken → ShowsLoad shown range g more taken
  shows_later own more new is s = record {
    front = s.front;
    back = s.back ++ new;
    table = s.table;
    next = s.next;
    is =
        is ∙ ap (λ z. z ++ new) s.is ∙ append_assoc (seen_of taken) (s.front ++ Loaded range g s.table s.next ∷ s.back) new
        ∙ ap (λ z. seen_of taken ++ z) (append_assoc s.front (Loaded range g s.table s.next ∷ s.back) new);
  }

  none_more : (own more : Run) → seen_of (more ++ taken) ≡ seen_of (own ++ taken) → ShowsLoad shown range g own taken → ShowsLoad shown range g more taken
  none_more own more is s = shows_later own more [] (is ∙ sym (append-nil (seen_of (own ++ taken)))) s

  pub load_seen : (own : Run) → HasLoad g own → ShowsLoad shown range g own taken
  load_seen [] h = absurd h
  load_seen (Forms i group ∷ own) h = shows_later own (Forms i group ∷ own) (begins_of range i group.first group.items) refl (load_seen own h)
  load_seen (Logged i append from to ∷ own) h = shows_later own (Logged i append from to ∷ own) (dones_at range (event_at (log_of (own ++ taken)) append)) refl (load_seen own h)
  load_seen (Notes i ∷ own) h = none_more own (Notes i ∷ own) refl (load_seen own h)
  load_seen (Records i number item ∷ own) h = none_more own (Records i number item ∷ own) refl (load_seen own h)
  load_seen (Recorded i append from to ∷ own) h = none_more own (Recorded i append from to ∷ own) refl (load_seen own h)
  load_seen (Trims i place ∷ own) h = none_more own (Trims i place ∷ own) refl (load_seen own h)
  load_seen (Confirms i start end groups metadata_end records ∷ own) (inr h) =
      shows_later own (Confirms i start end groups metadata_end records ∷ own) (Loaded range i (shown (length (log_of (own ++ taken)))) (next_loaded first_beginning groups records) ∷ []) refl (load_seen own h)
  load_seen (Confirms i start end groups metadata_end records ∷ own) (inl same) =
      let m : (more : List Note) × (seen_of (own ++ taken) ≡ seen_of taken ++ more) = more_shown shown range own taken in
      let table : List Row = shown (length (log_of (own ++ taken))) in
      let next : ℕ = next_loaded first_beginning groups records in
      record {
        front = m.0;
        back = [];
        table = table;
        next = next;
        is =
            ap (λ z. z ++ Loaded range i table next ∷ []) m.1 ∙ append_assoc (seen_of taken) m.0 (Loaded range i table next ∷ [])
            ∙ ap (λ k. seen_of taken ++ (m.0 ++ Loaded range k table next ∷ [])) (sym same);
      }

-- ---- one moment

-- of a range, at the end and at a moment before
module _ (texts : ℕ → Bytes) (range : ℕ) (taken : Taken) (x : ServerRun) (k : RunBehind texts range taken x) (h : List Note) (told : AreSeenAs texts x.notes h)
    (count : length taken.notes ≡ length (seen first_beginning (rows texts range taken x k h told) range taken.run))
    (y : ServerRun) (old : RunBehind texts range taken y) (goes : IsLonger old.run k.run) (before after : List Note) (moment : h ≡ before ++ after) (told_then : AreSeenAs texts y.notes before) where
  abbrev shown : ℕ → List Row
  shown = rows texts range taken x k h told

  abbrev seen_by : Run → List Note
  seen_by run = seen first_beginning shown range run

  -- what it did itself, since and before
  pub own_parts : own texts range taken x k h told ≡ goes.0 ++ old.behind.0
  own_parts =
      append_cancel_right k.behind.0 (goes.0 ++ old.behind.0) taken.run
      (sym k.behind.1 ∙ goes.1 ∙ ap (λ z. goes.0 ++ z) old.behind.1 ∙ sym (append_assoc goes.0 old.behind.0 taken.run))

  all_then : taken.notes ++ only range before ≡ seen_by old.run
  all_then =
      let o : AreObserved texts range old.run (taken.notes ++ only range before) = old.seen before told_then in
      let m : (more : List Note) × (seen_by (goes.0 ++ old.run) ≡ seen_by old.run ++ more) = more_shown shown range goes.0 old.run in
      let both : only range h ≡ only range before ++ only range after = ap (only range) moment ∙ only_both range before after in
      let e : (taken.notes ++ only range before) ++ only range after ≡ seen_by old.run ++ m.0 =
      append_assoc taken.notes (only range before) (only range after) ∙ ap (λ z. taken.notes ++ z) (sym both) ∙ (observed texts range taken x k h told).2 ∙ ap seen_by goes.1 ∙ m.1 in
      fronts Note (taken.notes ++ only range before) (only range after) (seen_by old.run) m.0 e (ap length o.2 ∙ seen_length o.0 shown range range old.run)

  -- WHAT WAS TOLD BY THEN is what it had shown by then behind what was taken
  pub moment_told : IsToldIn before shown range taken.run old.run
  moment_told =
      let m : (more : List Note) × (seen_by (old.behind.0 ++ taken.run) ≡ seen_by taken.run ++ more) = more_shown shown range old.behind.0 taken.run in
      let same : taken.notes ≡ seen_by taken.run = fronts Note taken.notes (only range before) (seen_by taken.run) m.0 (all_then ∙ ap seen_by old.behind.1 ∙ m.1) count in
      sym all_then ∙ ap (λ z. z ++ only range before) same

  -- A LOAD THAT WAS CONFIRMED BY THEN is told
  pub moment_loaded : (g : ℕ) → HasLoad g old.behind.0 → (table : List Row) × (next : ℕ) × Contains before (Loaded range g table next)
  moment_loaded g loaded =
      let s : ShowsLoad shown range g old.behind.0 taken.run = load_seen shown range g taken.run old.behind.0 loaded in
      let e : only range before ≡ s.front ++ Loaded range g s.table s.next ∷ s.back =
      append_cancel_left (seen_by taken.run) (only range before) (s.front ++ Loaded range g s.table s.next ∷ s.back) (sym moment_told ∙ ap seen_by old.behind.1 ∙ s.is) in
      let there : In (Loaded range g s.table s.next) (only range before) = subst (In (Loaded range g s.table s.next)) (sym e) (in_middle (Loaded range g s.table s.next) s.front s.back) in
      (s.table, s.next, contains_in (Loaded range g s.table s.next) before (only_in range (Loaded range g s.table s.next) before there))

  -- WHAT IT FORMED UNDER A GENERATION, ever, was answered by then, where nothing was out then, and it formed nothing since
  pub moment_answered : (g : ℕ) → FormedBefore range g y x → (held first_beginning old.run g).out ≡ None → (a : ℕ) (group : Numbered Transaction) → event_at (log_of k.run) a ≡ Some (Made g group) → IsAnswered (log_of old.run) a
  moment_answered g formed nothing_out a group at =
      let now = made_from decoded (x.story (log_name range)) a g group (ap (λ z. event_at z a) (sym k.streams.log) ∙ at) in
      let before_that : event_at (log_of old.run) a ≡ Some (Made g (decoded now.0)) = ap (λ z. event_at z a) old.streams.log ∙ made_at decoded (y.story (log_name range)) a g now.0 (formed a now.0 now.1) in
      all_answered g (layer_at texts) old.run old.streams.chain nothing_out a (decoded now.0) before_that
