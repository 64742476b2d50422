-- In a run without merges all that is told of a range is under a generation of at least 1, and of one of at most that of its entry while the map
-- has the range.
use Rattle.std.proofs.Common.{◌≡◌, ◌≤◌, ◌<◌, ℕ, true, List, [], ◌∷◌, ◌++◌, Some, Contains, refl, sym, subst, inl, inr, arith, eqb-true}
use Rattle.std.proofs.lemmas.List.Elements.{Contains-append_right}
use Rattle.wire.specs.declared.note.Note.{Note}
use Rattle.wire.specs.declared.note.Note.TheVariants as notes
use Rattle.model_streams.specs.declared.event.Event.{Event}
use Rattle.model_streams.specs.declared.event.Event.TheVariants.{Submit, Deliver, Stop, Restart, Decide, GiveUp, Assign, Renew, Moment, Checkpoint, Split, Merge}
use Rattle.model_partition.specs.declared.range_entry.RangeEntry.{RangeEntry}
use Rattle.model_partition.specs.Past.{first_range}
use Rattle.model_partition.specs.Map.{range_at}
use Rattle.model_partition.specs.Cluster.{IsUnmerged, AreUnmerged, Cluster, cluster_after, cluster_after_all, first_cluster}
use Rattle.model_histories.specs.Log.{is_of}
use Rattle.model_histories.specs.ServerRun.{ServerRun, ServerEvent, run_of}
use Rattle.laws_streams.proofs.Choices.{contains_get}
use Rattle.laws_tables.specs.Families.{generation_of}
use Rattle.laws_map.specs.Generations.{IsWithin, within}
use Rattle.laws_map.proofs.GenerationsInRuns.{Governs, event_governs, first_governs}
use Rattle.laws_map.proofs.GivenNumbers.{first_cells}
use Rattle.laws_map.proofs.GoneRanges.{entry_bounds}
use Rattle.laws_map.proofs.Knowing.{each_has}
use Rattle.laws_map.proofs.SoundMaps.{RuleLeaves, event_leaves}
use Rattle.laws_map.proofs.WithinMaps.{assign_told, renew_told, map_told}
use Rattle.laws_clusters.specs.ServerEvents.{server_events}
use Rattle.laws_clusters.proofs.AboveSplit.{IsAbove}
use Rattle.laws_clusters.proofs.NoteBounds.{leasing, Stands, MoreThan, above_bounds, stands_on, GenerationBounds, run_bounds}
use Rattle.laws_clusters.proofs.NoteGenerations.{AllNoted, held_by_names, noted_weaker, adds_noted}
use Rattle.laws_clusters.proofs.Origins.{HasOrigin, NoteFrom}
use Rattle.laws_clusters.proofs.RunOrigins.{run_originates}
use Rattle.laws_clusters.proofs.ShownNotes.{notes_of, Goes}
use Rattle.laws_clusters.proofs.ShownNotes as shown

-- ---- from one event to the next

module _ (c : Cluster) (g : Governs c) where
  within_leaves : (range generation : ℕ) (k : IsWithin c.map range generation) (event : Event) → RuleLeaves (λ a. IsWithin a range generation) c k event
  within_leaves range generation k (Deliver number) = λ p at. (map_told g.asks c.map g.sound p (g.names.post p (contains_get c.stream_layer.post number p at))).extends.knows range generation k
  within_leaves range generation k (Assign n server until) = (assign_told g.asks c.map g.sound n server until (range_at c.map.ranges n) refl).extends.knows range generation k
  within_leaves range generation k (Renew n server until) = λ free. (renew_told g.asks c.map g.sound n server until (range_at c.map.ranges n) refl).extends.knows range generation k
  within_leaves range generation k (Submit user to body) = tt
  within_leaves range generation k (Stop actor call keep) = tt
  within_leaves range generation k (Restart actor) = tt
  within_leaves range generation k (Decide e) = tt
  within_leaves range generation k (GiveUp server n pick) = tt
  within_leaves range generation k (Moment now) = tt
  within_leaves range generation k (Checkpoint server n combine) = tt
  within_leaves range generation k (Split server n key) = tt
  within_leaves range generation k (Merge server left right) = tt

  within_on : (event : Event) (range generation : ℕ) → IsWithin c.map range generation → IsWithin (cluster_after c event).map range generation
  within_on event range generation k = event_leaves (λ a. IsWithin a range generation) c k event (within_leaves range generation k event)

-- what is known of a cluster whose servers are what came to them made
record Shows (batch count : ℕ) (c : Cluster) (coming : List ServerEvent) : Type 0 where
  governs : Governs c
  cells : c.servers ≡ (run_of batch count coming).servers
  within : AllNoted (IsWithin c.map) (notes_of c)
  first : Stands (MoreThan first_range 0) (IsAbove first_range 0) c

module _ (batch count : ℕ) where
  event_shows : (c : Cluster) (coming : List ServerEvent) → Shows batch count c coming → (event : Event) → IsUnmerged event → Shows batch count (cluster_after c event) (server_events c event ++ coming)
  event_shows c coming k event unmerged =
      let x : ServerRun = run_of batch count coming in
      let d : Cluster = cluster_after c event in
      let goes : Goes batch count c coming k.cells event d (server_events c event) = shown.event_goes batch count c coming k.cells event unmerged in
      record {
        governs = event_governs c event unmerged k.governs;
        cells = goes.cells;
        within =
            noted_weaker (IsWithin c.map) (IsWithin d.map) (notes_of d) (λ r h l. within_on c k.governs event r h l)
            (adds_noted (IsWithin c.map) x c event d k.cells (held_by_names (within c.map k.governs.asks) c k.governs.names) k.within goes.adds);
        first = stands_on (MoreThan first_range 0) (IsAbove first_range 0) c (above_bounds first_range 0) k.first x k.cells k.governs event unmerged goes.adds;
      }

  all_show : (events : List Event) → AreUnmerged events → (c : Cluster) (coming : List ServerEvent) → Shows batch count c coming → (all : List ServerEvent) × Shows batch count (cluster_after_all c events) all
  all_show [] unmerged c coming k = (coming, k)
  all_show (event ∷ events) unmerged c coming k = all_show events unmerged.1 (cluster_after c event) (server_events c event ++ coming) (event_shows c coming k event unmerged.0)

  first_shows : (nodes target : ℕ) → Shows batch count (first_cluster nodes count target batch) []
  first_shows nodes target = record {
    governs = first_governs nodes count target batch;
    cells = refl;
    within = λ note r there is. absurd (let less = there.1 in omega (arith, less));
    first = record {
      map = record { given = omega arith; entries = ((refl, λ same. inr (refl, refl)), tt) };
      names = record { post = λ p there. absurd (let less = there.1 in omega (arith, less)); servers = first_cells (leasing (MoreThan first_range 0)) batch 1 count; catalog = λ range kind s is. tt };
      noted = λ note r there is. absurd (let less = there.1 in omega (arith, less));
    };
  }

-- ---- runs

module _ (nodes servers target batch : ℕ) (events : List Event) (are : AreUnmerged events) where
  abbrev c : Cluster
  c = cluster_after_all (first_cluster nodes servers target batch) events

  shows : (all : List ServerEvent) × Shows batch servers c all
  shows = all_show batch servers events are (first_cluster nodes servers target batch) [] (first_shows batch servers nodes target)

  -- No observation of a range is of a generation above that of its entry, while the map has it.
  pub run_shown_within : (note : Note) (range : ℕ) (x : RangeEntry) → Contains (notes_of c) note → is_of range note ≡ true → range_at c.map.ranges range ≡ Some x → generation_of note ≤ x.generation
  run_shown_within note range x there is at = entry_bounds c.map range x at (generation_of note) (shows.1.within note range there is)

  -- whose observation it is has an origin
  origin_of : (note : Note) (range : ℕ) → NoteFrom (notes_of c) note → is_of range note ≡ true → HasOrigin (notes_of c) range
  origin_of (notes.Began r generation number changes) range from is = subst (HasOrigin (notes_of c)) (sym (eqb-true range r is)) from
  origin_of (notes.Done r generation number) range from is = subst (HasOrigin (notes_of c)) (sym (eqb-true range r is)) from
  origin_of (notes.Loaded r generation rows next) range from is = subst (HasOrigin (notes_of c)) (sym (eqb-true range r is)) from
  origin_of (notes.Got r generation key value) range from is = absurd cc
  origin_of (notes.Split parent low high key) range from is = absurd cc
  origin_of (notes.Merged left right r) range from is = absurd cc
  origin_of (notes.Acked e offset group) range from is = absurd cc
  origin_of (notes.SealedAt e length) range from is = absurd cc
  origin_of (notes.Content e node groups) range from is = absurd cc
  origin_of (notes.Seen e node offset bytes) range from is = absurd cc

  -- Each observation of a range is of a generation of at least 1.
  pub run_shown_counted : (note : Note) (range : ℕ) → Contains (notes_of c) note → is_of range note ≡ true → 1 ≤ generation_of note
  run_shown_counted note range there is = by (origin_of note range (each_has (NoteFrom (notes_of c)) (notes_of c) note (run_originates nodes servers target batch events are).shown there) is)
    where
      by : HasOrigin (notes_of c) range → 1 ≤ generation_of note
      by (inl first) = let less : 0 < generation_of note = shows.1.first.noted note range there is first in omega (arith, less)
      by (inr made) =
          let split : Note = notes.Split made.parent made.low made.high made.key in
          let shown_in : Contains (notes_of c) split = subst (λ h. Contains h split) (sym made.is) (Contains-append_right made.before (split ∷ made.after) split (0, omega arith, refl)) in
          let b : GenerationBounds c made.parent made.low made.high = run_bounds nodes servers target batch events are made.parent made.low made.high made.key shown_in in
          elim made.half [
            | inl low ↦ (let less = b.low_above note there (subst (λ k. is_of k note ≡ true) low is) in omega (arith, less))
            | inr high ↦ (let less = b.high_above note there (subst (λ k. is_of k note ≡ true) high is) in omega (arith, less))
          ]
