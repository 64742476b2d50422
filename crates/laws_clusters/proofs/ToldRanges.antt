-- In a run without merges each range of which anything is told is the first, or a split at a server made it that waited for its end: what the map says
-- of that split is what the server had.
use Rattle.std.proofs.Common.{◌≡◌, ◌⊎◌, ℕ, ◌≤◌, ◌<◌, true, List, [], ◌∷◌, ◌++◌, Contains, refl, sym, ◌∙◌, subst, inl, inr, arith}
use Rattle.std.proofs.lemmas.List.Elements.{Contains-append_right}
use Rattle.wire.specs.declared.note.Note.{Note}
use Rattle.wire.specs.declared.note.Note.TheVariants as notes
use Rattle.model_streams.specs.declared.event.Event.{Event}
use Rattle.model_partition.specs.declared.split_job.SplitJob.{SplitJob}
use Rattle.model_partition.specs.declared.split_job.SplitPhase.{SplitPhase}
use Rattle.model_partition.specs.declared.split_job.SplitPhase.TheVariants as phases
use Rattle.model_partition.specs.declared.split_job.Side.{Side}
use Rattle.model_partition.specs.declared.split_job.Side.TheVariants.{Low, High}
use Rattle.model_partition.specs.Past.{Bytes, first_range, keys_of}
use Rattle.model_partition.specs.Range.{RangeState}
use Rattle.model_partition.specs.Splits.{side_range}
use Rattle.model_partition.specs.Cluster.{Cluster, AreUnmerged, cluster_after_all, first_cluster}
use Rattle.model_histories.specs.Log.{is_of, only}
use Rattle.model_histories.specs.ServedTables.{AreSeenAs, ServesAt}
use Rattle.model_histories.specs.ServerRun.{ServerEvent, run_of}
use Rattle.laws_tables.specs.Families.{IsChild, generation_of}
use Rattle.laws_tables.proofs.Others.{keys_same}
use Rattle.laws_map.specs.Stages.{stage_of}
use Rattle.laws_server_runs.specs.BornRanges.{AllInOrder, IsToldOf, AreShared, AllAreBorn}
use Rattle.laws_server_runs.specs.ChildInvariant.{HasPair, IsCompleting, ChildAt, AreBornSo}
use Rattle.laws_server_runs.proofs.SplitsReplay.{splits_keys}
use Rattle.laws_clusters.specs.ServerEvents.{server_events_after}
use Rattle.laws_clusters.proofs.EndedSplits.{IsEnded, run_ends}
use Rattle.laws_clusters.proofs.FirstNumber.{run_unborn}
use Rattle.laws_clusters.proofs.Births.{run_first_unborn}
use Rattle.laws_clusters.proofs.RunOrigins.{run_origins}
use Rattle.laws_clusters.proofs.ServerNotes.{server_notes}
use Rattle.laws_clusters.proofs.ShownNotes.{notes_of}

-- the last stage is that of the end
pub is_end : (phase : SplitPhase) → 4 ≤ stage_of phase → IsCompleting phase × HasPair phase
is_end (phases.Complete q) end = (tt, tt)
is_end (phases.Begin q) end = absurd (omega (arith, end))
is_end (phases.Keys side x) end = absurd (omega (arith, end))
is_end phases.Checkpoint end = absurd (omega (arith, end))
is_end phases.Queue end = absurd (omega (arith, end))
is_end phases.Record end = absurd (omega (arith, end))
is_end (phases.Seal kind q) end = absurd (omega (arith, end))
is_end (phases.Build q) end = absurd (omega (arith, end))

-- which of the two it is
pub side_of : (job : SplitJob) (r low high : ℕ) → job.low ≡ low → job.high ≡ high → (r ≡ low) ⊎ (r ≡ high) → (side : Side) × (r ≡ side_range job side)
side_of job r low high l h half = elim half [ inl is ↦ (Low, is ∙ sym l) | inr is ↦ (High, is ∙ sym h) ]

-- each of the two ranges of a split that is shown is one of that split at its server
abbrev pub ended_child : (batch servers : ℕ) (c : Cluster) (coming : List ServerEvent) (p low high : ℕ) (key : List ℕ) (e : IsEnded batch servers c coming p low high key) (r : ℕ) → (r ≡ low) ⊎ (r ≡ high) →
    ChildAt (run_of batch servers e.was.early) e.was.server p r
ended_child batch servers c coming p low high key e r half =
    let side = side_of e.was.job r low high e.low_is e.high_is half in
    record {
      cell = e.was.held.cell;
      state = e.was.held.state;
      there = e.was.held.there;
      runs = e.was.held.runs;
      job = e.was.job;
      found = e.was.held.found;
      pair = (is_end e.was.job.phase e.was.ends).1;
      side = side.0;
      is = side.1;
    }

module _ (nodes servers target batch : ℕ) (events : List Event) (are : AreUnmerged events) where
  abbrev c : Cluster
  c = cluster_after_all (first_cluster nodes servers target batch) events

  abbrev coming : List ServerEvent
  coming = server_events_after (first_cluster nodes servers target batch) [] events

  abbrev h : List Note
  h = notes_of c

  -- A split that is shown was completed by one at a server, which waited for its end at some moment: its key and its two numbers are those that are
  -- shown, and its generation is the last of the range and below each of the two.
  pub run_ended : (p low high : ℕ) (key : List ℕ) → Contains h (notes.Split p low high key) → IsEnded batch servers c coming p low high key
  run_ended p low high key shown = (run_ends nodes servers target batch events are).shown p low high key shown

  module _ (texts : ℕ → Bytes) where
    -- a split made a range of another, and waited for its end after some of what came
    pub record IsOfSplit (p r : ℕ) : Type 0 where
      pub after : List ServerEvent
      pub until : List ServerEvent
      pub is : coming ≡ after ++ until
      pub server : ℕ
      pub split : ChildAt (run_of batch servers until) server p r
      pub told : IsToldOf texts batch servers h until server p r split

    child_of_split : (p r : ℕ) → IsChild h p r → IsOfSplit p r
    child_of_split p r child = record {
      after = e.was.late;
      until = e.was.early;
      is = e.was.parts;
      server = e.was.server;
      split = ended_child batch servers c coming p child.low child.high child.key e r child.half;
      told = record {
        waits = (is_end e.was.job.phase e.was.ends).0;
        child = child;
        low = sym e.low_is;
        high = sym e.high_is;
        key = sym e.key_is;
        highest = λ note there is. subst (λ g. generation_of note ≤ g) (sym e.was.generation_is) (e.bounded.parent.noted note p there is refl);
        above = λ note there is. subst (λ g. g < generation_of note) (sym e.was.generation_is) (over note there is child.half);
      };
    }
      where
        shown : Contains h (notes.Split p child.low child.high child.key)
        shown = subst (λ l. Contains l (notes.Split p child.low child.high child.key)) (sym child.is) (Contains-append_right child.before (notes.Split p child.low child.high child.key ∷ child.after) (notes.Split p child.low child.high child.key) (0, omega arith, refl))

        e : IsEnded batch servers c coming p child.low child.high child.key
        e = run_ended p child.low child.high child.key shown

        over : (note : Note) → Contains h note → is_of r note ≡ true → (r ≡ child.low) ⊎ (r ≡ child.high) → e.generation < generation_of note
        over note there is (inl low) = e.bounded.low_child.noted note r there is low
        over note there is (inr high) = e.bounded.high_child.noted note r there is high

    -- EACH RANGE IS THE FIRST OR A SPLIT'S
    pub run_ranges : (r : ℕ) → (only r h ≡ []) ⊎ ((r ≡ first_range) ⊎ ((p : ℕ) × IsOfSplit p r))
    run_ranges r = elim (run_origins nodes servers target batch events are r) [
      | inl none ↦ inl none
      | inr origin ↦ inr (elim origin [ inl first ↦ inl first | inr made ↦ inr (made.0, child_of_split made.0 r made.1) ])
    ]

    -- So over streams that keep their order, where a load that stood when a split's streams were built is one of the same copies for both.
    pub run_born : (order : AllInOrder texts batch servers coming) → ((p r : ℕ) (s : IsOfSplit p r) → AreShared texts batch servers coming s.until order p r) → AllAreBorn texts batch servers h coming order
    run_born order shared r = elim (run_ranges r) [
      | inl none ↦ inl none
      | inr origin ↦ inr (elim origin [
        | inl first ↦ inl first
        | inr made ↦ inr (
          made.0,
          record {
            after = made.1.after;
            until = made.1.until;
            is = made.1.is;
            server = made.1.server;
            split = made.1.split;
            told = made.1.told;
            shared = shared made.0 r made.1;
          },
        )
      ])
    ]

    -- Where its ranges are born as splits wait for them, its streams keep their order, and what servers showed is what is seen, each range that is served
    -- has the keys that splits left to it.
    pub run_keys : (born : AreBornSo texts batch servers coming) (order : AllInOrder texts batch servers coming) → AreSeenAs texts (run_of batch servers coming).notes (server_notes c.stream_layer.notes) →
        ((p r : ℕ) (s : IsOfSplit p r) → AreShared texts batch servers coming s.until order p r) → (s range : ℕ) (r : RangeState) → ServesAt (run_of batch servers coming) s range r → r.said.keys ≡ keys_of c.stream_layer.notes range
    run_keys born order seen shared s range r at =
        splits_keys texts batch servers h coming born order seen (run_unborn nodes servers target batch events are) (run_first_unborn nodes servers target batch events) (run_born order shared) s range r at
        ∙ sym (keys_same c.stream_layer.notes range)
