-- What is observed of a load: its rows are those of its number, and what was observed before stays.
use Rattle.std.proofs.Common.{◌≡◌, ℕ, ◌<◌, Bool, true, false, List, [], ◌∷◌, ◌++◌, length, refl, sym, ap, ◌∙◌, arith, ◌==◌}
use Rattle.std.specs.Prelude.{if◌then◌else◌}
use Rattle.std.proofs.lemmas.Bool.Decides.{nat_tests}
use Rattle.wire.specs.declared.note.Note.{Note}
use Rattle.wire.specs.declared.note.Note.TheVariants.{Loaded}
use Rattle.wire.specs.declared.rows.Row.{Row}
use Rattle.memtable.specs.declared.cell.Place.{Place}
use Rattle.metadata.specs.declared.record.MetaItem.{MetaItem}
use Rattle.commitlog.specs.Replay.{Numbered}
use Rattle.model_histories.specs.Log.{line_shown, begins_of, dones_at}
use Rattle.model_partition.specs.Past.{Bytes, Transaction, stored, kept}
use Rattle.model_histories.specs.Story.{Placed, event_at}
use Rattle.laws_tables.specs.Layers.{Layer, flat}
use Rattle.laws_tables.specs.Runs as chains
use Rattle.laws_tables.specs.Runs.{Run, first_beginning, said, replayed_by, next_loaded, loaded_layer, seen, ShowsLayers}
use Rattle.laws_checkpoints.specs.IndexLayers.{layer_at}
use Rattle.laws_server_runs.specs.RangeInvariant.{AreObserved}

-- what rows a load shows matters only for loads
abbrev AgreeBelow : ℕ → (ℕ → List Row) → (ℕ → List Row) → Type 0
AgreeBelow n rows others = (l : ℕ) → l < n → rows l ≡ others l

-- these rows are what the layers of a load say
abbrev pub SaysLoad : (Place → Layer) → List Row → List (Placed (Numbered Transaction)) → List (Placed (Numbered MetaItem)) → Type 0
SaysLoad layer_at rows groups records =
    (key : Bytes) → stored rows key ≡ kept (said first_beginning (line_shown records)).keys (λ k. flat (loaded_layer first_beginning layer_at groups records k)) key

module _ (layer_at : Place → Layer) (subject : ℕ) (rows others : ℕ → List Row) where
  seen_same : (run : Run) → AgreeBelow (length (chains.log_of run)) rows others → seen first_beginning rows subject run ≡ seen first_beginning others subject run
  seen_same [] agree = refl
  seen_same (chains.Forms g group ∷ run) agree = ap (λ l. l ++ begins_of subject g group.first group.items) (seen_same run (λ l less. agree l (omega (arith, less))))
  seen_same (chains.Logged g append from to ∷ run) agree = ap (λ l. l ++ dones_at subject (event_at (chains.log_of run) append)) (seen_same run (λ l less. agree l (omega (arith, less))))
  seen_same (chains.Notes g ∷ run) agree = seen_same run agree
  seen_same (chains.Records g number item ∷ run) agree = seen_same run agree
  seen_same (chains.Recorded g append from to ∷ run) agree = seen_same run agree
  seen_same (chains.Trims g place ∷ run) agree = seen_same run agree
  seen_same (chains.Confirms g start end groups metadata_end records ∷ run) agree =
      (λ j. seen_same run (λ l less. agree l (omega (arith, less))) j
      ++ Loaded subject g (agree (length (chains.log_of run)) (omega arith) j) (next_loaded first_beginning groups records) ∷ [])

  layers_same : (run : Run) → AgreeBelow (length (chains.log_of run)) rows others → ShowsLayers layer_at first_beginning rows run → ShowsLayers layer_at first_beginning others run
  layers_same [] agree shows = tt
  layers_same (chains.Forms g group ∷ run) agree shows = layers_same run (λ l less. agree l (omega (arith, less))) shows
  layers_same (chains.Logged g append from to ∷ run) agree shows = layers_same run (λ l less. agree l (omega (arith, less))) shows
  layers_same (chains.Notes g ∷ run) agree shows = layers_same run agree shows
  layers_same (chains.Records g number item ∷ run) agree shows = layers_same run agree shows
  layers_same (chains.Recorded g append from to ∷ run) agree shows = layers_same run agree shows
  layers_same (chains.Trims g place ∷ run) agree shows = layers_same run agree shows
  layers_same (chains.Confirms g start end groups metadata_end records ∷ run) agree shows =
      (λ key. ap (λ z. stored z key) (sym (agree (length (chains.log_of run)) (omega arith))) ∙ shows.0 key, layers_same run (λ l less. agree l (omega (arith, less))) shows.1)

-- the rows of one load more
abbrev rows_with : (ℕ → List Row) → ℕ → List Row → ℕ → List Row
rows_with rows n new l = if l == n then new else rows l

-- one load more is observed, where its rows are what its layers say
pub load_observed : (texts : ℕ → Bytes) (subject : ℕ) (run : Run) (g start end metadata_end : ℕ) (groups : List (Placed (Numbered Transaction))) (records : List (Placed (Numbered MetaItem)))
    (new : List Row) (before : List Note) → SaysLoad (layer_at texts) new groups records → AreObserved texts subject run before →
    AreObserved texts subject (chains.Confirms g start end groups metadata_end records ∷ run) (before ++ Loaded subject g new (next_loaded first_beginning groups records) ∷ [])
load_observed texts subject run g start end metadata_end groups records new before says (rows, shows, is) = (
  with_new,
  (λ key. ap (λ z. stored z key) here ∙ says key, layers_same (layer_at texts) subject rows with_new run below shows),
  (λ j. (is ∙ seen_same (layer_at texts) subject rows with_new run below) j ++ Loaded subject g (sym here j) (next_loaded first_beginning groups records) ∷ []),
)
  where
    n : ℕ
    n = length (chains.log_of run)

    with_new : ℕ → List Row
    with_new = rows_with rows n new

    here : with_new n ≡ new
    here = let same : (n == n) ≡ true = grind (arith, nat_tests) in ap (λ (b : Bool). if b then new else rows n) same

    below : AgreeBelow n rows with_new
    below l less = let other : (l == n) ≡ false = grind (arith, nat_tests) in ap (λ (b : Bool). if b then new else rows l) (sym other)
