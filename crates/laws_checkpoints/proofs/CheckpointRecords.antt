-- The record of a checkpoint: it may be written once its index stands, the metadata then says what the fold says with it, and the log
-- may be trimmed below the place that it names.
use Rattle.std.proofs.Common.{◌≡◌, ℕ, suc, ◌+◌, ◌-◌, ◌≤◌, ◌^◌, min, Bool, true, false, nat_lt, ◌&&◌, List, [], ◌∷◌, ◌++◌, length, Option, Some, None, option_map, refl, sym, ap, ◌∙◌, subst, arith}
use Rattle.std.specs.Prelude.{◌==◌, if◌then◌else◌}
use Rattle.std.proofs.lemmas.Bool.{and_parts}
use Rattle.std.proofs.lemmas.Bool.Decides.{nat_tests}
use Rattle.memtable.specs.declared.cell.Place.{Place}
use Rattle.memtable.specs.Entries.{Entries}
use Rattle.metadata.specs.declared.record.MetaItem.{MetaItem}
use Rattle.metadata.specs.Fold.{MetadataState, taken, folded}
use Rattle.metadata.specs.Keys.{within}
use Rattle.metadata.specs.Record.{IsNext, IsPlace, IsPosition}
use Rattle.metadata.proofs.Laws.{record_again}
use Rattle.commitlog.specs.declared.log_record.LogRecord.{LogRecord}
use Rattle.commitlog.proofs.Laws.{record_again as log_record_again}
use Rattle.replica.specs.Groups as groups
use Rattle.streams.specs.declared.table.Position.{Position}
use Rattle.checkpoint_format.specs.Index.{fits_a_group, index_group}
use Rattle.checkpoint_format.specs.Page.{pages_of}
use Rattle.checkpoint.specs.Contents.{AreEntries}
use Rattle.checkpoint.specs.Pages.{AreFiled}
use Rattle.checkpoint.specs.PageGroups.{next_group}
use Rattle.client.specs.Client.{ClientState}
use Rattle.model_partition.specs.CheckpointStates.{CheckpointState}
use Rattle.model_partition.specs.Checkpoints.{number_to_apply, new_job, checkpoint_record, has_record_number, may_record, index_place, trim_index, indexes_below, recorded}
use Rattle.model_partition.specs.Past.{Bytes}
use Rattle.model_partition.specs.Range.{OutGroup, RangeState}
use Rattle.model_histories.specs.Renaming.{decoded, numbered_if, decoded_record, one_record}
use Rattle.model_partition.specs.Serving.{record_of}
use Rattle.laws_loads.specs.Sound.{OutFits}
use Rattle.model_histories.specs.ServerRun.{place_number}
use Rattle.model_histories.specs.StreamActions.{group_of, record_group}
use Rattle.model_histories.specs.TableContents.{StandsAt}
use Rattle.laws_tables.specs.Runs as chains
use Rattle.laws_tables.specs.Runs.{Beginning, Serving, noted_next, noting, fold_of, said, start_number, Covers, MayCheckpoint}
use Rattle.laws_tables.specs.Layers.{over, flat, indexed}
use Rattle.laws_tables.proofs.Layers.{pick, fold_last}
use Rattle.laws_loads.specs.MemoryLayers.{layer_in}
use Rattle.laws_checkpoints.specs.CombinedLayers.{written_entries}
use Rattle.laws_checkpoints.specs.IndexLayers.{layer_at, IsWritten, AreWritten}
use Rattle.laws_checkpoints.specs.ShownTables.{AreInstalled, AreWrittenByKey}
use Rattle.laws_checkpoints.proofs.Checkpoints.{plain_covers}
use Rattle.laws_checkpoints.proofs.CombinedLayers.{combined_layer}
use Rattle.laws_checkpoints.proofs.WrittenIndexes.{index_read, layer_says}
use Rattle.laws_checkpoints.specs.WritingPages.{WritesPages}
use Rattle.laws_checkpoints.proofs.WrittenPages.{writing_ends, writing_files, none_unwritten}

-- ---- what the metadata says

test_of : {A : Type 0} (a b c : Bool) (x y z : A) → a ≡ false → b ≡ true → c ≡ true → (if a then x else if b && c then y else z) ≡ y
test_of true b c x y z p q r = absurd cc
test_of false false c x y z p q r = absurd cc
test_of false true false x y z p q r = absurd cc
test_of false true true x y z p q r = refl

-- the record of the next number is taken
pub next_taken : (m : MetadataState) (item : MetaItem) → nat_lt (suc m.next) (2 ^ 64) ≡ true → folded m (record { number = m.next; item = item }) ≡ Some (true, taken m item)
next_taken m item fits = test_of (nat_lt m.next m.next) (m.next == m.next) (nat_lt (suc m.next) (2 ^ 64)) (Some (false, m)) (Some (true, taken m item)) None (not_below m.next) (same m.next) fits
  where
    not_below : (n : ℕ) → nat_lt n n ≡ false
    not_below n = grind (arith, nat_tests)

    same : (n : ℕ) → (n == n) ≡ true
    same n = grind (arith, nat_tests)

-- a record may be written where its index fits a group, and its number leaves one
pub may_parts : (r : RangeState) (job : CheckpointState) → may_record r job ≡ true → (fits_a_group job.pages.index ≡ true) × (has_record_number r ≡ true)
may_parts r job may =
    let first : (fits_a_group job.pages.index ≡ true) × ((has_record_number r && (nat_lt 0 r.said.next && nat_lt 0 job.next)) ≡ true) =
    and_parts (fits_a_group job.pages.index) (has_record_number r && (nat_lt 0 r.said.next && nat_lt 0 job.next)) may in
    (first.0, (and_parts (has_record_number r) (nat_lt 0 r.said.next && nat_lt 0 job.next) first.1).0)

-- that of a checkpoint, where it may be written
pub checkpoint_taken : (r : RangeState) (job : CheckpointState) (index : Place) → may_record r job ≡ true →
    folded r.said (checkpoint_record r job index) ≡ Some (true, taken r.said (checkpoint_record r job index).item)
checkpoint_taken r job index may =
    next_taken r.said (checkpoint_record r job index).item (may_parts r job may).1

-- what records say with one more is the fold with it
pub said_with : (b : Beginning) (records : List MetaItem) (item : MetaItem) → said b (records ++ item ∷ []) ≡ taken (said b records) item
said_with b records item = fold_last records item b.metadata

-- each record has the next number
pub said_number : (b : Beginning) (records : List MetaItem) → (said b records).next ≡ b.metadata.next + length records
said_number b records = counts records b.metadata
  where
    counts : (items : List MetaItem) (m : MetadataState) → (fold_of m items).next ≡ m.next + length items
    counts [] m = omega arith
    counts (item ∷ items) m = let more : (fold_of (taken m item) items).next ≡ suc m.next + length items = counts items (taken m item) in omega (arith, more)

-- the group of the record spells it
pub record_spelled : (r : RangeState) (job : CheckpointState) (index : Place) → IsNext r.said.next → IsPlace index → IsPosition job.position → IsNext job.next →
    decoded_record (record_group r job index) ≡ chains.record_group r.said.next (checkpoint_record r job index).item
record_spelled r job index number place position next = ap one_record (record_again (checkpoint_record r job index) number (place, position, next))

-- ---- what is noted

-- A checkpoint that begins has the position and the next number that the server notes, where the range holds what the server does.
pub job_notes : (event : ℕ) (r : RangeState) (s : Serving) → place_number r.position ≡ s.position → r.next ≡ s.next →
    s.out ≡ option_map (λ out. record { append = event; group = decoded (group_of out) }) r.out → OutFits r.out →
    (noting s).noted ≡ Some (record { place = place_number (new_job r).position; next = (new_job r).next })
job_notes event r s position next out fits = (λ i. Some (record { place = sym position i; next = number i }))
  where
    of_group : (x : Option OutGroup) → OutFits x → noted_next (option_map (λ o. record { append = event; group = decoded (group_of o) }) x) s.next ≡ number_to_apply x r.next
    of_group None f = sym next
    of_group (Some o) f = ap (λ (x : Option LogRecord). (numbered_if x).first) (log_record_again (record_of o.first o.transactions) f)

    number : noted_next s.out s.next ≡ number_to_apply r.out r.next
    number = ap (λ o. noted_next o s.next) out ∙ of_group r.out fits

-- ---- the guard

module _ (texts : ℕ → Bytes) where
  -- A checkpoint may be recorded where its index was written of what the fixed layer has, where it combines over what all older indexes
  -- say, and it has the position and the next number that were noted.
  pub may_checkpoint : (b : Beginning) (s : Serving) (r : RangeState) (job : CheckpointState) (fixed : Entries) (index : Place) →
      r.said ≡ said b s.records → AreInstalled texts r.indexes r.said.indexes → AreWritten texts r.said.indexes → AreEntries fixed →
      IsWritten texts job.pages.index (written_entries texts job.combine r.said.keys r.indexes fixed) index → ((key : Bytes) → within r.said.keys key ≡ true → layer_in texts fixed key ≡ s.fixed key) →
      s.noted ≡ Some (record { place = place_number job.position; next = job.next }) →
      MayCheckpoint (layer_at texts) b s (checkpoint_record r job index).item
  may_checkpoint b s r job fixed index said_is installed written are stands layer noted = (
    record { place = place_number job.position; next = job.next },
    noted,
    job.combine,
    index,
    job.position,
    refl,
    refl,
    by job.combine stands,
  )
    where
      by : (combine : Bool) → IsWritten texts job.pages.index (written_entries texts combine r.said.keys r.indexes fixed) index → Covers (layer_at texts) b s combine (layer_at texts index)
      by false stood = plain_covers texts b s job.pages.index index fixed stood (subst (λ (m : MetadataState). (key : Bytes) → within m.keys key ≡ true → layer_in texts fixed key ≡ s.fixed key) said_is layer)
      by true stood =
          subst (λ (m : MetadataState). (key : Bytes) → within m.keys key ≡ true → flat (layer_at texts index key) ≡ flat (over s.fixed (indexed (layer_at texts) m.indexes) key)) said_is
          (λ key inside.
          ap flat (layer_says texts job.pages.index (written_entries texts true r.said.keys r.indexes fixed) index stood key)
          ∙ combined_layer texts r.said.keys r.indexes r.said.indexes fixed key installed written are inside
          ∙ ap (λ o. flat (pick o (indexed (layer_at texts) r.said.indexes key))) (layer key inside))

  module _ (r : RangeState) (job : CheckpointState) (entries : Entries) (writes : WritesPages texts entries job.pages) (none : next_group job.pages ≡ None) (are : AreEntries entries) (may : may_record r job ≡ true)
      (e offset : ℕ) (stands : StandsAt (texts e) offset (groups.joined (index_group job.pages.index))) where
    -- where all pages stand, and then the index, the index is one of these entries
    pub index_written : IsWritten texts job.pages.index entries (index_place job e offset)
    index_written =
        writing_ends texts entries job.pages writes (none_unwritten job.pages none) are (may_parts r job may).0 e offset stands

    pub index_filed : AreFiled job.pages.index.pages (pages_of entries)
    index_filed = writing_files texts entries job.pages writes (none_unwritten job.pages none)

  -- ---- the record stands

  -- the newest index is installed, as the metadata then names it
  pub recorded_installed : (r : RangeState) (job : CheckpointState) (entries : Entries) (index : Place) → IsWritten texts job.pages.index entries index → AreInstalled texts r.indexes r.said.indexes →
      AreInstalled texts (recorded r job index).indexes (recorded r job index).said.indexes
  recorded_installed r job entries index written installed =
      (record { place = refl; keys = refl; index = index_read texts job.pages.index entries index written }, below job.combine)
    where
      below : (combine : Bool) → AreInstalled texts (indexes_below combine r.indexes) (if combine then [] else r.said.indexes)
      below true = tt
      below false = installed

  -- and it was written by key
  pub recorded_by_key : (r : RangeState) (job : CheckpointState) (entries : Entries) (index : Place) → IsWritten texts job.pages.index entries index → AreFiled job.pages.index.pages (pages_of entries) →
      AreWrittenByKey texts r.said.indexes → AreWrittenByKey texts (recorded r job index).said.indexes
  recorded_by_key r job entries index written filed others = ((job.pages.index, entries, written, filed), below job.combine)
    where
      below : (combine : Bool) → AreWrittenByKey texts (if combine then [] else r.said.indexes)
      below true = tt
      below false = others

-- ---- the Trim

-- what is trimmed lies before the position
trims_before : (log : ClientState) (position : Position) → trim_index log position ≤ position.index
trims_before log position = by (length log.extents == 0)
  where
    by : (b : Bool) → (if b then position.index else min position.index ((log.base + length log.extents) - 1)) ≤ position.index
    by true = omega arith
    by false = omega arith

-- and so before the start that the metadata says once the record stands
pub may_trim : (b : Beginning) (records : List MetaItem) (r : RangeState) (job : CheckpointState) (index : Place) →
    place_number (record { index = trim_index r.log job.position; offset = 0 }) ≤ start_number (said b (records ++ (checkpoint_record r job index).item ∷ [])).regions
may_trim b records r job index =
    subst (λ (m : MetadataState). place_number (record { index = trim_index r.log job.position; offset = 0 }) ≤ start_number m.regions) (sym (said_with b records (checkpoint_record r job index).item))
    (omega (arith, trims_before r.log job.position))
