-- Whatever comes to servers, each table that they show as loaded is in the order of its keys, and its pages and its values by place stand within
-- the bytes that reads were shown and appends were answered for: also where ranges are split, as long as what is kept of each range is kept.
use Rattle.std.proofs.Common.{◌≡◌, ⊎_elim, ℕ, ◌==◌, List, [], ◌∷◌, ◌++◌, refl, sym, ap, ◌∙◌, subst, inl, inr, if◌then◌else◌}
use Rattle.std.proofs.lemmas.Bool.{cases_eq}
use Rattle.wire.specs.declared.streams.StreamKind.TheVariants as kinds
use Rattle.model_partition.specs.declared.table_note.TableNote.{TableNote}
use Rattle.model_partition.specs.Loading.{Group}
use Rattle.model_partition.specs.Past.{Bytes}
use Rattle.model_histories.specs.ServedTables.{StreamsInOrder}
use Rattle.model_histories.specs.ServerRun.{ServerRun, ServerEvent, Builds, after_event, run_of, built_streams, own_or, stream_named, metadata_name}
use Rattle.model_histories.specs.Story.{Story}
use Rattle.model_histories.specs.StreamActions.{PlacedBytes}
use Rattle.laws_server_runs.specs.Places.{bytes_of, IndexLaid, TablesWithin}
use Rattle.laws_server_runs.specs.RangeInvariant.{AreCheckpoints}
use Rattle.laws_server_runs.specs.RunInvariant.{nothing_taken, IsKept}
use Rattle.laws_server_runs.specs.Turns.{outcome_of, IsOfServers, RunStep}
use Rattle.laws_server_runs.proofs.Actions.{same_test, other_test, event_longer}
use Rattle.laws_server_runs.proofs.LaidBytes.{Covers}
use Rattle.laws_server_runs.proofs.LaidRuns.{run_covers, all_laid, event_notes}
use Rattle.laws_server_runs.proofs.LaidTables.{RecordsLaid, records_later, tables_later, tables_both, step_records, step_tables}
use Rattle.laws_server_runs.proofs.RunSteps.{IsAny, IsAnyPair, IsBuild, any_assigned, any_numbered, event_kind, event_step}
use Rattle.laws_server_runs.proofs.SplitsHeld.{splits_hold}
use Rattle.laws_server_runs.proofs.Theorem.{before, first_kept}
use Rattle.laws_server_runs.proofs.Unmerged.{unmerged}
use Rattle.laws_server_runs.proofs.UntouchedRanges.{HasNothing}

-- the streams of a range are built where its reads were shown nothing yet, and none of its appends was answered
abbrev pub BuildsFresh : ServerRun → ServerEvent → Type 0
BuildsFresh x (Builds source range) = x.story (metadata_name range) ≡ [] → (x.shown range ≡ []) × (x.answered range ≡ [])
BuildsFresh x event = Unit {0}

-- as where nothing of it was shown or answered
pub nothing_fresh : (x : ServerRun) (source range : ℕ) → HasNothing range x → BuildsFresh x (Builds source range)
nothing_fresh x source range nothing empty = (nothing.shown, nothing.answered)

module _ (texts : ℕ → Bytes) where
  -- each index that the metadata of a range names is laid so, and each table that is shown as loaded
  pub record AllWithin (x : ServerRun) : Type 0 where
    pub records : (range : ℕ) → RecordsLaid texts x range
    pub tables : TablesWithin texts (bytes_of x) x.notes

  -- ---- streams are built

  module _ (x : ServerRun) (source range : ℕ) (fresh : BuildsFresh x (Builds source range)) (all : (k : ℕ) → RecordsLaid texts x k) where
    abbrev built : ServerRun
    built = built_streams source range x

    on : (k : ℕ) → Covers (bytes_of x k) (bytes_of built k)
    on k = run_covers x built (event_longer x (Builds source range)) k

    story_is : built.story (metadata_name range) ≡ own_or (x.story (metadata_name range)) (x.story (metadata_name source))
    story_is = ap (λ b. if b then own_or (x.story (metadata_name range)) (x.story (stream_named source kinds.Metadata)) else x.story (metadata_name range)) (same_test range)

    bytes_are : (placed : ℕ → List PlacedBytes) → placed range ≡ [] → (if range == range then own_or (placed range) (placed source) else placed range) ≡ placed source
    bytes_are placed none = ap (λ b. if b then own_or (placed range) (placed source) else placed range) (same_test range) ∙ ap (λ own. own_or own (placed source)) none

    built_own : (own : Story Group) → x.story (metadata_name range) ≡ own → RecordsLaid texts built range
    built_own (e ∷ own) is = records_later texts x built range (story_is ∙ ap (λ story. own_or story (x.story (metadata_name source))) is ∙ sym is) (on range) (all range)
    built_own [] is =
        let bytes : bytes_of built range ≡ bytes_of x source = (λ i. bytes_are x.shown (fresh is).0 i ++ bytes_are x.answered (fresh is).1 i) in
        subst (λ placed. AreCheckpoints (IndexLaid texts placed) (built.story (metadata_name range))) (sym bytes)
        (subst (λ (story : Story Group). AreCheckpoints (IndexLaid texts (bytes_of x source)) story) (sym (story_is ∙ ap (λ story. own_or story (x.story (metadata_name source))) is)) (all source))

    built_records : (k : ℕ) → RecordsLaid texts built k
    built_records k = elim (cases_eq k range) [
      | inl same ↦ subst (λ n. RecordsLaid texts built n) (sym same) (built_own (x.story (metadata_name range)) refl)
      | inr other ↦
          records_later texts x built k
          (ap (λ b. if b then own_or (x.story (metadata_name k)) (x.story (stream_named source kinds.Metadata)) else x.story (metadata_name k)) (other_test k range other)) (on k) (all k)
    ]

  -- ---- one event

  module _ (batch servers : ℕ) (event : ServerEvent) (earlier : List ServerEvent) where
    abbrev x : ServerRun
    x = run_of batch servers earlier

    abbrev y : ServerRun
    y = after_event x event

    module _ (kept : (range : ℕ) → IsKept texts range x) (now : (range : ℕ) → IsKept texts range y) (order : (range : ℕ) → StreamsInOrder texts range y) (old : AllWithin x) where
      later_tables : TablesWithin texts (bytes_of y) x.notes
      later_tables = tables_later texts (bytes_of x) (bytes_of y) (run_covers x y (event_longer x event)) x.notes old.tables

      with_new : ((range : ℕ) → RecordsLaid texts y range) → TablesWithin texts (bytes_of y) (outcome_of x.servers event).notes → AllWithin y
      with_new records new = record {
        records = records;
        tables = subst (TablesWithin texts (bytes_of y)) (sym (event_notes batch servers x event)) (tables_both texts (bytes_of y) x.notes (outcome_of x.servers event).notes later_tables new);
      }

      of_servers : IsOfServers event → AllWithin y
      of_servers is = with_new records (step_tables texts x (all_laid batch servers earlier) (splits_hold batch servers earlier) notes y step kept (λ range. (order range).metadata) records)
        where
          notes : List TableNote
          notes = (outcome_of x.servers event).notes

          step : RunStep IsAny IsAnyPair x notes y
          step = event_step IsAny IsAnyPair x (unmerged batch servers earlier) event is (any_assigned event) (any_numbered event)

          records : (range : ℕ) → RecordsLaid texts y range
          records range =
              step_records texts x (all_laid batch servers earlier) (splits_hold batch servers earlier) notes y step (all_laid batch servers (event ∷ earlier)) range
              (record { kept = kept range; order = (before texts range x y (event_longer x event) (order range)).metadata; now = now range; answered = (order range).answered }) (old.records range)

      of_build : BuildsFresh x event → IsBuild event → AllWithin y
      of_build fresh build =
          with_new (λ k. subst (λ e. RecordsLaid texts (after_event x e) k) (sym build.2) (built_records x build.0 build.1 (subst (BuildsFresh x) build.2 fresh) old.records k))
          (subst (λ e. TablesWithin texts (bytes_of y) (outcome_of x.servers e).notes) (sym build.2) tt)

      -- what is kept of all ranges before an event, and after it, keeps it so
      pub event_within : BuildsFresh x event → AllWithin y
      event_within fresh = ⊎_elim {C = AllWithin y} of_servers (of_build fresh) (event_kind event)

  -- ---- lists of events

  module _ (batch servers : ℕ) where
    -- what is kept of each range is kept at all times
    abbrev pub StaysKept : List ServerEvent → Type 0
    StaysKept [] = Unit {0}
    StaysKept (event ∷ earlier) = ((range : ℕ) → IsKept texts range (run_of batch servers (event ∷ earlier))) × BuildsFresh (run_of batch servers earlier) event × StaysKept earlier

    pub kept_of : (events : List ServerEvent) → StaysKept events → (range : ℕ) → IsKept texts range (run_of batch servers events)
    kept_of [] stays range = (nothing_taken, first_kept texts range batch servers)
    kept_of (event ∷ earlier) stays range = stays.0 range

    pub all_within : (events : List ServerEvent) → StaysKept events → ((range : ℕ) → StreamsInOrder texts range (run_of batch servers events)) → AllWithin (run_of batch servers events)
    all_within [] stays order = record { records = λ range a g group at. absurd cc; tables = tt }
    all_within (event ∷ earlier) stays order =
        let x : ServerRun = run_of batch servers earlier in
        event_within batch servers event earlier (kept_of earlier stays.2) stays.0 order
        (all_within earlier stays.2 (λ range. before texts range x (after_event x event) (event_longer x event) (order range))) stays.1
