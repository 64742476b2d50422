-- The indexes that metadata names where its records are those of checkpoints and of splits, or name keys: each is one of a record that
-- was formed, and counts for all keys of the range.
use Rattle.std.proofs.Common.{◌≡◌, ℕ, Bool, true, false, if◌then◌else◌, List, [], ◌∷◌, map, Some, inl, inr, sym, subst}
use Rattle.memtable.specs.declared.cell.Place.{Place}
use Rattle.metadata.specs.declared.record.IndexRange.{IndexRange}
use Rattle.metadata.specs.declared.record.MetaItem.{MetaItem}
use Rattle.metadata.specs.Fold.{MetadataState, first_metadata, taken}
use Rattle.model_partition.specs.Loading.{Group}
use Rattle.model_histories.specs.Log.{line_shown}
use Rattle.model_histories.specs.Renaming.{renamed_placed, decoded_record}
use Rattle.model_histories.specs.Story.{Placed, Showed, Story, event_at, KeepsOrder}
use Rattle.laws_tables.specs.NarrowKeys.{Narrows, AllNarrow, CountsForAll}
use Rattle.laws_tables.specs.Runs.{first_beginning, fold_of, said}
use Rattle.laws_tables.proofs.NarrowKeys.{counts_for_all, first_counts}
use Rattle.laws_server_runs.specs.NamedIndexes.{AreNamed, NamesSuch}
use Rattle.laws_server_runs.specs.RangeInvariant.{AreCheckpoints, IsOfPages}
use Rattle.laws_server_runs.proofs.LoadedRecords.{IsOfRecord, AreOfRecords, made_of_records, shown_of}
use Rattle.laws_checkpoints.specs.IndexLayers.{AreWritten}
use Rattle.model_partition.specs.Past.{Bytes}

-- the places of whose indexes this is so
module _ (Holds : Place → Type 0) where
  one_named : (m : MetadataState) (item : MetaItem) → IsOfRecord Holds item → AreNamed Holds m.indexes → AreNamed Holds (taken m item).indexes
  one_named m item (inl c) n = subst (λ i. AreNamed Holds (taken m i).indexes) (sym c.is) (c.holds, others c.combine)
    where
      others : (combine : Bool) → AreNamed Holds (if combine then [] else m.indexes)
      others true = tt
      others false = n
  one_named m item (inr (inl s)) n = subst (λ i. AreNamed Holds (taken m i).indexes) (sym s.is) n
  one_named m item (inr (inr k)) n = subst (λ i. AreNamed Holds (taken m i).indexes) (sym k.is) n

  -- with one record more
  pub one_more_named : (m : MetadataState) (item : MetaItem) → IsOfRecord Holds item → Narrows m item → NamesSuch Holds m → NamesSuch Holds (taken m item)
  one_more_named m item is narrow n = record { indexes = one_named m item is n.indexes; counts = counts_for_all (item ∷ []) m (narrow, tt) n.counts }

  pub all_named : (items : List MetaItem) (m : MetadataState) → AreOfRecords Holds items → AreNamed Holds m.indexes → AreNamed Holds (fold_of m items).indexes
  all_named [] m all n = n
  all_named (item ∷ items) m all n = all_named items (taken m item) all.1 (one_named m item all.0 n)

  -- what a load shows of the metadata names such indexes alone,
  pub named_by_load : (story : Story Group) → KeepsOrder story → AreCheckpoints Holds story → (l g start end : ℕ) (groups : List (Placed Group)) → event_at story l ≡ Some (Showed g start end groups) →
      (m : MetadataState) → m ≡ said first_beginning (line_shown (map (renamed_placed decoded_record) groups)) → AreNamed Holds m.indexes
  named_by_load story k records l g start end groups at m is =
      subst (λ (z : MetadataState). AreNamed Holds z.indexes) (sym is)
      (all_named (line_shown (map (renamed_placed decoded_record) groups)) first_metadata (shown_of (IsOfRecord Holds) story k (made_of_records Holds story records) l g start end groups at) tt)

  -- for all keys, where no record gives the range keys that it had not
  pub such_by_load : (items : List MetaItem) → AllNarrow first_metadata items → (m : MetadataState) → m ≡ said first_beginning items → AreNamed Holds m.indexes → NamesSuch Holds m
  such_by_load items narrow m is named = record { indexes = named; counts = subst (λ z. CountsForAll z) (sym is) (counts_for_all items first_metadata narrow first_counts) }

-- those of pages were written
pub written_named : (texts : ℕ → Bytes) (named : List IndexRange) → AreNamed (IsOfPages texts) named → AreWritten texts named
written_named texts [] all = tt
written_named texts (x ∷ named) all = ((all.0.0, all.0.1, all.0.2), written_named texts named all.1)
