-- What is kept of a range at all servers makes it one of a family: its own run behind what its streams were built of, whose streams keep
-- their order, and of which no more is told than what it shows behind that.
use Rattle.std.proofs.Common.{◌≡◌, ℕ, suc, ◌+◌, List, [], ◌∷◌, ◌++◌, length, map, Option, Some, None, refl, sym, ap, ◌∙◌, subst, append_assoc, append-nil, length-append}
use Rattle.wire.specs.declared.note.Note.{Note}
use Rattle.wire.specs.declared.note.Note.TheVariants.{Loaded}
use Rattle.wire.specs.declared.rows.Row.{Row}
use Rattle.model_histories.specs.Log.{begins_of, dones_of, dones_at, only}
use Rattle.model_histories.specs.Renaming.{renamed_copy, decoded, decoded_record}
use Rattle.model_histories.specs.ServedTables.{AreSeenAs, StreamsInOrder}
use Rattle.model_histories.specs.ServerRun.{ServerRun, log_name, metadata_name}
use Rattle.model_histories.specs.Story.{StreamEvent, Made, Answered, Showed, event_at, KeepsOrder, EndsRise}
use Rattle.model_partition.specs.Past.{Bytes, Transaction}
use Rattle.commitlog.specs.Replay.{Numbered}
use Rattle.laws_tables.specs.Families.{IsRange}
use Rattle.laws_tables.specs.Runs.{Run, Forms, Logged, Notes, Records, Recorded, Trims, Confirms, log_of, meta_of, first_beginning, next_loaded, seen, IsChainRun, ShowsLayers}
use Rattle.laws_tables.proofs.Ends.{renamed_ends_rise}
use Rattle.laws_tables.proofs.Points.{fronts}
use Rattle.laws_loads.proofs.Renaming.{renamed_keeps, renamed_copies}
use Rattle.laws_checkpoints.specs.IndexLayers.{layer_at}
use Rattle.laws_server_runs.specs.RangeInvariant.{AreObserved}
use Rattle.laws_server_runs.specs.RunInvariant.{Taken, RunBehind}

-- ---- how much a run shows

begins_length : (j k g s : ℕ) (items : List Transaction) → length (begins_of j g s items) ≡ length (begins_of k g s items)
begins_length j k g s [] = refl
begins_length j k g s (t ∷ ts) = ap suc (begins_length j k g (suc s) ts)

dones_length : (j k g s : ℕ) (items : List Transaction) → length (dones_of j g s items) ≡ length (dones_of k g s items)
dones_length j k g s [] = refl
dones_length j k g s (t ∷ ts) = ap suc (dones_length j k g (suc s) ts)

answered_length : (j k : ℕ) (o : Option (StreamEvent (Numbered Transaction))) → length (dones_at j o) ≡ length (dones_at k o)
answered_length j k None = refl
answered_length j k (Some (Made g group)) = dones_length j k g group.first group.items
answered_length j k (Some (Answered a from to)) = refl
answered_length j k (Some (Showed g start end groups)) = refl

both_length : {A : Type 0} (xs ys zs ws : List A) → length xs ≡ length ys → length zs ≡ length ws → length (xs ++ zs) ≡ length (ys ++ ws)
both_length xs ys zs ws front back = length-append xs zs ∙ (λ i. front i + back i) ∙ sym (length-append ys ws)

-- it is the same for all rows and for all numbers of the range
pub seen_length : (rows others : ℕ → List Row) (j k : ℕ) (run : Run) → length (seen first_beginning rows j run) ≡ length (seen first_beginning others k run)
seen_length rows others j k [] = refl
seen_length rows others j k (Forms g group ∷ run) =
    both_length (seen first_beginning rows j run) (seen first_beginning others k run) (begins_of j g group.first group.items) (begins_of k g group.first group.items) (seen_length rows others j k run)
    (begins_length j k g group.first group.items)
seen_length rows others j k (Logged g append from to ∷ run) =
    both_length (seen first_beginning rows j run) (seen first_beginning others k run) (dones_at j (event_at (log_of run) append)) (dones_at k (event_at (log_of run) append)) (seen_length rows others j k run)
    (answered_length j k (event_at (log_of run) append))
seen_length rows others j k (Notes g ∷ run) = seen_length rows others j k run
seen_length rows others j k (Records g number item ∷ run) = seen_length rows others j k run
seen_length rows others j k (Recorded g append from to ∷ run) = seen_length rows others j k run
seen_length rows others j k (Trims g place ∷ run) = seen_length rows others j k run
seen_length rows others j k (Confirms g start end groups metadata_end records ∷ run) =
    both_length (seen first_beginning rows j run) (seen first_beginning others k run) (Loaded j g (rows (length (log_of run))) (next_loaded first_beginning groups records) ∷ [])
    (Loaded k g (others (length (log_of run))) (next_loaded first_beginning groups records) ∷ []) (seen_length rows others j k run) refl

-- a run shows what its beginning shows, and then more
pub more_shown : (rows : ℕ → List Row) (range : ℕ) (own taken : Run) → (more : List Note) × (seen first_beginning rows range (own ++ taken) ≡ seen first_beginning rows range taken ++ more)
more_shown rows range [] taken = ([], sym (append-nil (seen first_beginning rows range taken)))
more_shown rows range (Forms g group ∷ own) taken =
    let m : (more : List Note) × (seen first_beginning rows range (own ++ taken) ≡ seen first_beginning rows range taken ++ more) = more_shown rows range own taken in
    let new : List Note = begins_of range g group.first group.items in
    (m.0 ++ new, ap (λ z. z ++ new) m.1 ∙ append_assoc (seen first_beginning rows range taken) m.0 new)
more_shown rows range (Logged g append from to ∷ own) taken =
    let m : (more : List Note) × (seen first_beginning rows range (own ++ taken) ≡ seen first_beginning rows range taken ++ more) = more_shown rows range own taken in
    let new : List Note = dones_at range (event_at (log_of (own ++ taken)) append) in
    (m.0 ++ new, ap (λ z. z ++ new) m.1 ∙ append_assoc (seen first_beginning rows range taken) m.0 new)
more_shown rows range (Notes g ∷ own) taken = more_shown rows range own taken
more_shown rows range (Records g number item ∷ own) taken = more_shown rows range own taken
more_shown rows range (Recorded g append from to ∷ own) taken = more_shown rows range own taken
more_shown rows range (Trims g place ∷ own) taken = more_shown rows range own taken
more_shown rows range (Confirms g start end groups metadata_end records ∷ own) taken =
    let m : (more : List Note) × (seen first_beginning rows range (own ++ taken) ≡ seen first_beginning rows range taken ++ more) = more_shown rows range own taken in
    let new : List Note = Loaded range g (rows (length (log_of (own ++ taken)))) (next_loaded first_beginning groups records) ∷ [] in
    (m.0 ++ new, ap (λ z. z ++ new) m.1 ∙ append_assoc (seen first_beginning rows range taken) m.0 new)

-- ---- one range

module _ (texts : ℕ → Bytes) (range : ℕ) (taken : Taken) (x : ServerRun) (k : RunBehind texts range taken x) (h : List Note) (told : AreSeenAs texts x.notes h) where
  pub observed : AreObserved texts range k.run (taken.notes ++ only range h)
  observed = k.seen h told

  -- the rows of each of its loads
  abbrev pub rows : ℕ → List Row
  rows = observed.0

  -- what it did itself
  abbrev pub own : Run
  own = k.behind.0

  pub parts : k.run ≡ own ++ taken.run
  parts = k.behind.1

  -- where the notes that were taken are as many as what was taken shows
  module _ (count : length taken.notes ≡ length (seen first_beginning rows range taken.run)) (order : StreamsInOrder texts range x) where
    pub told_behind : seen first_beginning rows range (own ++ taken.run) ≡ seen first_beginning rows range taken.run ++ only range h
    told_behind =
        let m : (more : List Note) × (seen first_beginning rows range (own ++ taken.run) ≡ seen first_beginning rows range taken.run ++ more) = more_shown rows range own taken.run in
        let all : taken.notes ++ only range h ≡ seen first_beginning rows range (own ++ taken.run) = observed.2 ∙ ap (seen first_beginning rows range) parts in
        let same : taken.notes ≡ seen first_beginning rows range taken.run = fronts Note taken.notes (only range h) (seen first_beginning rows range taken.run) m.0 (all ∙ m.1) count in
        sym all ∙ ap (λ z. z ++ only range h) same

    -- the order of its log, by the copies that its stream has
    pub log_order : (log : KeepsOrder (log_of (own ++ taken.run))) × (log.copies ≡ (λ l. map (renamed_copy decoded) (order.log.copies l)))
    log_order =
        subst (λ z. (log : KeepsOrder (log_of z)) × (log.copies ≡ (λ l. map (renamed_copy decoded) (order.log.copies l)))) parts
        (subst (λ z. (log : KeepsOrder z) × (log.copies ≡ (λ l. map (renamed_copy decoded) (order.log.copies l)))) (sym k.streams.log)
        (renamed_keeps decoded (x.story (log_name range)) order.log, renamed_copies decoded (x.story (log_name range)) order.log))

    -- IT IS A RANGE OF A FAMILY
    abbrev pub family_range : IsRange (layer_at texts) h range own taken.run rows
    family_range = record {
      runs = subst (IsChainRun (layer_at texts) first_beginning) parts k.streams.chain;
      layers = subst (ShowsLayers (layer_at texts) first_beginning rows) parts observed.1;
      log = log_order.0;
      ends = subst (λ z. EndsRise (log_of z)) parts (subst (λ z. EndsRise z) (sym k.streams.log) (renamed_ends_rise decoded (x.story (log_name range)) order.ends));
      metadata = subst (λ z. KeepsOrder (meta_of z)) parts (subst (λ z. KeepsOrder z) (sym k.streams.metadata) (renamed_keeps decoded_record (x.story (metadata_name range)) order.metadata));
      told = told_behind;
    }
