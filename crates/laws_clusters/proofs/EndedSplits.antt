-- In a run without merges each split that is shown was completed by a server that waited for its end: at some moment of what came to servers one had
-- the split of the range, at the key and with the two numbers that are shown.
use Rattle.std.proofs.Common.{◌≡◌, ℕ, ◌≤◌, List, [], ◌∷◌, ◌++◌, Some, Contains, refl, sym, ap, ◌∙◌, subst, inl, inr, arith, append_assoc}
use Rattle.wire.specs.declared.note.Note.TheVariants as notes
use Rattle.model_streams.specs.declared.event.Event.{Event}
use Rattle.model_streams.specs.declared.event.Event.TheVariants.{Deliver}
use Rattle.model_partition.specs.declared.pending.Pending.TheVariants as pendings
use Rattle.model_partition.specs.declared.split_job.SplitJob.{SplitJob}
use Rattle.model_partition.specs.declared.split_job.SplitPhase.{SplitPhase}
use Rattle.model_partition.specs.declared.split_job.SplitPhase.TheVariants as phases
use Rattle.model_partition.specs.Servers.{ServerCell}
use Rattle.model_partition.specs.Cluster.{IsUnmerged, AreUnmerged, Cluster, cluster_after, cluster_after_all, first_cluster}
use Rattle.model_histories.specs.ServerRun.{ServerEvent, run_of}
use Rattle.laws_map.specs.Naming.{Knowledge, IsSplit, PhaseNames, JobNames, ServerNames, StateNames, Names}
use Rattle.laws_map.specs.GivenPairs.{AsksToComplete}
use Rattle.laws_map.specs.Pairs.{AskOneKey, IsPaired, paired}
use Rattle.laws_map.specs.Stages.{stage_of}
use Rattle.laws_map.proofs.Knowing.{found_at}
use Rattle.laws_map.proofs.EventNames.{entry_is}
use Rattle.laws_map.proofs.AskedKeys.{WholeOf}
use Rattle.laws_map.proofs.GenerationsInRuns.{Governs, event_governs, first_governs}
use Rattle.laws_map.proofs.GivenNumbers.{first_cells}
use Rattle.laws_map.proofs.PendingPairs.{next_pairs, pair_stands}
use Rattle.laws_map.proofs.PendingStays.{paired_in_post, pair_in_more, pair_stays}
use Rattle.laws_map.proofs.PostStays.{stays_in_post}
use Rattle.laws_map.proofs.SplitFacts.{KnowsSplits, event_knows, first_knows, JobAt}
use Rattle.laws_map.proofs.EndsAsked.{IsEnding, ends_asked}
use Rattle.laws_clusters.specs.ServerEvents.{server_events, server_events_after}
use Rattle.laws_clusters.proofs.NoteBounds.{IsBoundedBy, Knows, split_bounded, still_bounded, knows_on, first_known}
use Rattle.laws_clusters.proofs.NoteGenerations.{adds_split}
use Rattle.laws_clusters.proofs.ShownNotes.{notes_of, CompletesSplit, Adds, event_goes}

-- at some moment of what came a server had the split of the range, under this generation, and waited for its end
pub record WasCompleting (batch count : ℕ) (coming : List ServerEvent) (range generation : ℕ) : Type 0 where
  pub late : List ServerEvent
  pub early : List ServerEvent
  pub parts : coming ≡ late ++ early
  pub server : ℕ
  pub job : SplitJob
  pub held : JobAt (run_of batch count early).servers server range job
  pub range_is : job.range ≡ range
  pub generation_is : job.generation ≡ generation
  pub ends : 4 ≤ stage_of job.phase

-- where more came it was so still
was_later : (batch count : ℕ) (more coming : List ServerEvent) (range generation : ℕ) → WasCompleting batch count coming range generation → WasCompleting batch count (more ++ coming) range generation
was_later batch count more coming range generation w = record {
  late = more ++ w.late;
  early = w.early;
  parts = ap (λ l. more ++ l) w.parts ∙ sym (append_assoc more w.late w.early);
  server = w.server;
  job = w.job;
  held = w.held;
  range_is = w.range_is;
  generation_is = w.generation_is;
  ends = w.ends;
}

-- what waits for its end has its pair
has_split : (K : Knowledge) (job : SplitJob) (phase : SplitPhase) → 4 ≤ stage_of phase → PhaseNames K job phase → IsSplit K job
has_split K job (phases.Complete q) end p = p
has_split K job (phases.Begin q) end p = absurd (omega (arith, end))
has_split K job (phases.Keys side x) end p = absurd (omega (arith, end))
has_split K job phases.Checkpoint end p = absurd (omega (arith, end))
has_split K job phases.Queue end p = absurd (omega (arith, end))
has_split K job phases.Record end p = absurd (omega (arith, end))
has_split K job (phases.Seal kind q) end p = absurd (omega (arith, end))
has_split K job (phases.Build q) end p = absurd (omega (arith, end))

-- one split is pending with one pair
same_halves : (key other : List ℕ) (low high left right : ℕ) → Some (pendings.Split key low high) ≡ Some (pendings.Split other left right) → (low ≡ left) × (high ≡ right) × (key ≡ other)
same_halves key other low high left right e = (cc, cc, cc)

module _ (batch count : ℕ) where
  -- where somebody asks for the end of a split, a server waited for it, and its pair is pending for as long as the range has the generation
  pub record HasEnd (c : Cluster) (coming : List ServerEvent) (range generation : ℕ) : Type 0 where
    pub was : WasCompleting batch count coming range generation
    pub pair : IsPaired c.map c.stream_layer.post range generation was.job.key was.job.low was.job.high

  -- A split that is shown: what its generation bounds, and the server that waited for its end.
  pub record IsEnded (c : Cluster) (coming : List ServerEvent) (range low high : ℕ) (key : List ℕ) : Type 0 where
    pub generation : ℕ
    pub bounded : IsBoundedBy c range low high generation
    pub was : WasCompleting batch count coming range generation
    pub low_is : was.job.low ≡ low
    pub high_is : was.job.high ≡ high
    pub key_is : was.job.key ≡ key

  -- what is known of a cluster whose servers are what came to them made
  pub record Ends (c : Cluster) (coming : List ServerEvent) : Type 0 where
    pub splits : KnowsSplits c
    pub bounds : Knows batch count c coming
    pub governs : Governs c
    pub pairs : Names (paired c.map governs.asks) c
    pub asked : (range generation : ℕ) → AsksToComplete c.stream_layer.post range generation → HasEnd c coming range generation
    pub shown : (range low high : ℕ) (key : List ℕ) → Contains (notes_of c) (notes.Split range low high key) → IsEnded c coming range low high key

  one_key : (c : Cluster) → WholeOf c → AskOneKey c.stream_layer.post
  one_key c whole q w range generation key other a b = whole.one range generation key other (q, a) (w, b)

  in_post : (c : Cluster) (g : Governs c) → Names (paired c.map g.asks) c → Names (paired c.map c.stream_layer.post) c
  in_post c g pairs = paired_in_post c (record { asks = g.asks; sent = g.sent; once = g.once; names = pairs })

  module _ (c : Cluster) (coming : List ServerEvent) (x : Ends c coming) (event : Event) (unmerged : IsUnmerged event) where
    abbrev after : Cluster
    after = cluster_after c event

    abbrev come : List ServerEvent
    come = server_events c event ++ coming

    splits_now : KnowsSplits after
    splits_now = event_knows c event unmerged x.splits

    bounds_now : Knows batch count after come
    bounds_now = knows_on batch count c coming x.bounds event unmerged

    -- who asked before
    still_ends : (range generation : ℕ) → HasEnd c coming range generation → HasEnd after come range generation
    unfolding was_later
    still_ends range generation e = record {
      was = was_later batch count (server_events c event) coming range generation e.was;
      pair = pair_in_more after.map c.stream_layer.post after.stream_layer.post (λ p there. stays_in_post c p there event) range generation e.was.job.key e.was.job.low e.was.job.high
          (pair_stays c x.governs.sound c.stream_layer.post (one_key c x.splits.whole) (in_post c x.governs x.pairs) range generation e.was.job.key e.was.job.low e.was.job.high e.pair event);
    }

    -- who asks now
    now_ends : (names : Names (paired after.map after.stream_layer.post) after) (range generation : ℕ) → IsEnding after.servers range generation → HasEnd after come range generation
    now_ends names range generation e =
        let K : Knowledge = paired after.map after.stream_layer.post in
        let state : ServerNames K e.held.state =
        subst (StateNames K) e.held.runs (entry_is (λ (y : ServerCell). StateNames K y.state) after.servers e.server e.held.cell names.servers e.held.there) in
        let job : JobNames K e.at e.job = found_at (JobNames K) e.held.state.splits e.at e.job state.splits e.held.found in
        let place : e.at ≡ range = sym job.number ∙ sym e.range_is in
        let split : IsPaired after.map after.stream_layer.post e.job.range e.job.generation e.job.key e.job.low e.job.high = has_split K e.job e.job.phase e.ends job.phase in
        record {
          was = record {
            late = [];
            early = come;
            parts = refl;
            server = e.server;
            job = e.job;
            held = subst (λ n. JobAt (run_of batch count come).servers e.server n e.job) place (subst (λ l. JobAt l e.server e.at e.job) bounds_now.cells e.held);
            range_is = sym e.range_is;
            generation_is = sym e.generation_is;
            ends = e.ends;
          };
          pair = subst (λ g. IsPaired after.map after.stream_layer.post range g e.job.key e.job.low e.job.high) (sym e.generation_is)
              (subst (λ n. IsPaired after.map after.stream_layer.post n e.job.generation e.job.key e.job.low e.job.high) (sym e.range_is) split);
        }

    -- a split that is shown before
    still_shown : (range low high : ℕ) (key : List ℕ) → IsEnded c coming range low high key → IsEnded after come range low high key
    unfolding was_later
    still_shown range low high key e = record {
      generation = e.generation;
      bounded = still_bounded batch count c coming x.bounds event unmerged range low high e.generation e.bounded;
      was = was_later batch count (server_events c event) coming range e.generation e.was;
      low_is = e.low_is;
      high_is = e.high_is;
      key_is = e.key_is;
    }

    -- one that is shown now
    now_shown : (number range low high : ℕ) (key : List ℕ) → event ≡ Deliver number → CompletesSplit c after.map range low high key → IsEnded after come range low high key
    unfolding was_later
    now_shown number range low high key is s = record {
      generation = s.entry.generation;
      bounded = bounds;
      was = was_later batch count (server_events c event) coming range s.entry.generation e.was;
      low_is = pair.0;
      high_is = pair.1;
      key_is = pair.2;
    }
      where
        e : HasEnd c coming range s.entry.generation
        e = x.asked range s.entry.generation (record { packet = s.packet; request = s.request; sent = s.sent; is = s.asked })

        same : Some (pendings.Split e.was.job.key e.was.job.low e.was.job.high) ≡ Some (pendings.Split key low high)
        same = sym (pair_stands c.map range s.entry.generation e.was.job.key e.was.job.low e.was.job.high s.entry e.pair.pending s.found refl) ∙ s.pending

        pair : (e.was.job.low ≡ low) × (e.was.job.high ≡ high) × (e.was.job.key ≡ key)
        pair = same_halves e.was.job.key key e.was.job.low e.was.job.high low high same

        adds : Adds (run_of batch count coming) c event after
        adds = (event_goes batch count c coming x.bounds.cells event unmerged).adds

        bounds : IsBoundedBy after range low high s.entry.generation
        bounds =
            subst (λ (v : Event). (t : CompletesSplit c (cluster_after c v).map range low high key) → Adds (run_of batch count coming) c v (cluster_after c v) → IsBoundedBy (cluster_after c v) range low high t.entry.generation) (sym is)
            (λ t a. split_bounded c x.bounds.governs x.bounds.settled x.bounds.noted (run_of batch count coming) x.bounds.cells number range low high key t a) s adds

    pub ends_on : Ends after come
    ends_on = record {
      splits = splits_now;
      bounds = bounds_now;
      governs = governs;
      pairs = pairs;
      asked = λ range generation a. elim (ends_asked c x.splits event unmerged range generation a) [
        | inl old ↦ still_ends range generation (x.asked range generation old)
        | inr new ↦ now_ends (in_post after governs pairs) range generation new
      ];
      shown = λ range low high key there. elim (adds_split range low high key (run_of batch count coming) c event after (event_goes batch count c coming x.bounds.cells event unmerged).adds there) [
        | inl old ↦ still_shown range low high key (x.shown range low high key old)
        | inr new ↦ now_shown new.0 range low high key new.1 new.2
      ];
    }
      where
        governs : Governs after
        governs = event_governs c event unmerged x.governs

        pairs : Names (paired after.map (event_governs c event unmerged x.governs).asks) after
        pairs = next_pairs c x.governs x.pairs event unmerged (one_key after splits_now.whole)

  -- ---- runs

  all_end : (events : List Event) → AreUnmerged events → (c : Cluster) (coming : List ServerEvent) → Ends c coming → Ends (cluster_after_all c events) (server_events_after c coming events)
  all_end [] are c coming x = x
  all_end (event ∷ events) are c coming x = all_end events are.1 (cluster_after c event) (server_events c event ++ coming) (ends_on c coming x event are.0)

  first_ends : (nodes target : ℕ) → Ends (first_cluster nodes count target batch) []
  first_ends nodes target = record {
    splits = first_knows nodes count target batch;
    bounds = first_known batch count nodes target;
    governs = first_governs nodes count target batch;
    pairs = record {
      post = λ p there. absurd (let less = there.1 in omega (arith, less));
      servers = first_cells (paired (first_cluster nodes count target batch).map (first_governs nodes count target batch).asks) batch 1 count;
      catalog = λ range kind y is. tt;
    };
    asked = λ range generation a. absurd (let less = a.sent.1 in omega (arith, less));
    shown = λ range low high key there. absurd (let less = there.1 in omega (arith, less));
  }

-- In every run without merges each end of a split that is asked for is asked for by a server that waited for it; and each split that is shown was
-- a server's, with the two numbers and the key that are shown, under the generation that is the last of its range.
pub run_ends : (nodes servers target batch : ℕ) (events : List Event) → AreUnmerged events →
    Ends batch servers (cluster_after_all (first_cluster nodes servers target batch) events) (server_events_after (first_cluster nodes servers target batch) [] events)
run_ends nodes servers target batch events are = all_end batch servers events are (first_cluster nodes servers target batch) [] (first_ends batch servers nodes target)
