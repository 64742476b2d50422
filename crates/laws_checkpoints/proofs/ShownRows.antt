-- The rows that a loaded table shows over its pages are its layers.
use Rattle.std.proofs.Common.{◌≡◌, ℕ, Bool, true, false, cond, List, [], ◌∷◌, ◌++◌, map, Option, Some, None, refl, sym, ap, ◌∙◌}
use Rattle.std.specs.Prelude.{◌&&◌}
use Rattle.std.specs.BTreeMap.{is_at}
use Rattle.std.specs.List.{AllByRecursion, flat_map}
use Rattle.std.specs.Map.{keys_of}
use Rattle.std.specs.declared.cmp.Ordering.TheVariants.{Less}
use Rattle.std.proofs.lemmas.List.Concat.{flat_map-cons}
use Rattle.wire.specs.declared.note.Note.{Note}
use Rattle.memtable.specs.declared.cell.Cell.{Cell}
use Rattle.memtable.specs.declared.cell.Cell.TheVariants.{Deleted, Inline, Placed}
use Rattle.memtable.specs.Entries.{Entries, key_cmp, found, put_all, latest}
use Rattle.metadata.specs.declared.record.IndexRange.{IndexRange}
use Rattle.metadata.specs.declared.record.KeyRange.{KeyRange}
use Rattle.metadata.specs.Keys.{within}
use Rattle.checkpoint_format.specs.declared.index.PageAt.{PageAt}
use Rattle.checkpoint_format.specs.Page.{entries_at, is_ascending}
use Rattle.checkpoint.specs.declared.installed_index.InstalledIndex.{InstalledIndex}
use Rattle.checkpoint.specs.Pages.{IndexContent, kept_within, merged}
use Rattle.checkpoint.proofs.Orders.{IsSorted, and_true, equal_keys, found_put, latest_sorted, sorted_cons, sorted_none, sorted_from_ascending, ascending_from_sorted}
use Rattle.model_partition.specs.declared.shown_table.ShownTable.{ShownTable}
use Rattle.model_partition.specs.Past.{Bytes, stored}
use Rattle.model_partition.specs.Servers.{entries_if, entries_shown_in, page_shown, index_shown, entries_shown, rows_of}
use Rattle.model_histories.specs.TableContents.{AllTellRightly, value_of, table_in}
use Rattle.laws_loads.proofs.Rows.{Later, Ordered, ordered_put, AreShown, rows_say}
use Rattle.laws_tables.specs.Layers.{flat, indexed}
use Rattle.laws_tables.proofs.Layers.{pick, pick_none}
use Rattle.laws_loads.specs.MemoryLayers.{layer_in}
use Rattle.laws_checkpoints.specs.IndexLayers.{indexed_entries, index_entries, layer_at, content_of, contents_of, AreWritten}
use Rattle.model_histories.specs.IndexContents.{page_in, pages_in}
use Rattle.laws_checkpoints.specs.ShownTables.{IsSeen, ArePagesSeen, AreSeen, AreValuesSeen, IsInstalled, AreInstalled, AreAscending, RowsSayLayers, RowsSayMemory, RowsShowLayers}
use Rattle.laws_checkpoints.proofs.Checkpoints.{known_of, known_first, merged_says}
use Rattle.laws_checkpoints.proofs.ObservedPages.{first_seen}
use Rattle.laws_checkpoints.proofs.WrittenIndexes.{contents_written, contents_ascending}

-- ---- keys in order

later_keys : (key : Bytes) (es : Entries) → Later key es → AllByRecursion (λ y. key_cmp key y ≡ Less) (keys_of es)
later_keys key [] later = tt
later_keys key (e ∷ es) later = (later.0, later_keys key es later.1)

sorted_if : (es : Entries) → Ordered es → IsSorted es
sorted_if [] o = sorted_none
sorted_if (e ∷ es) o = sorted_cons e es (later_keys e.0 es o.0) (sorted_if es o.1)

-- the order that a memory table is known to have
pub ascending_if : (es : Entries) → Ordered es → is_ascending es ≡ true
ascending_if es o = ascending_from_sorted es (sorted_if es o)

-- ---- keys outside of those of the table

-- no change that is kept within some keys is one of another key
not_kept : (keys a : KeyRange) (key : Bytes) (es : Entries) (old : Option Cell) → within keys key ≡ false → latest key (kept_within a keys es) old ≡ old
not_kept keys a key [] old outside = refl
not_kept keys a key (e ∷ es) old outside = by (not_kept keys a key es old outside) (within a e.0 && within keys e.0) refl
  where
    kept : Entries
    kept = kept_within a keys es

    other : within keys e.0 ≡ true → (b : Bool) → is_at (key_cmp e.0) key ≡ b → b ≡ false
    other inside false at = refl
    other inside true at =
        let same : within keys e.0 ≡ within keys key = ap (within keys) (equal_keys e.0 key at) in
        absurd (cc (same, inside, outside))

    by : latest key kept old ≡ old → (b : Bool) → (within a e.0 && within keys e.0) ≡ b → latest key (cond b (e ∷ kept) kept) old ≡ old
    by others false is = others
    by others true is =
        ap (λ (b : Bool). latest key kept (cond b (Some e.1) old)) (other (and_true (within a e.0) (within keys e.0) is).1 (is_at (key_cmp e.0) key) refl) ∙ others

none_outside : (keys : KeyRange) (contents : List IndexContent) (key : Bytes) → within keys key ≡ false → found (merged keys contents) key ≡ None
none_outside keys [] key outside = refl
none_outside keys (x ∷ older) key outside =
    found_put (merged keys older) (kept_within x.keys keys x.entries) key
    ∙ not_kept keys x.keys key x.entries (found (merged keys older) key) outside
    ∙ none_outside keys older key outside

pub ordered_merged : (keys : KeyRange) (contents : List IndexContent) → Ordered (merged keys contents)
ordered_merged keys [] = tt
ordered_merged keys (x ∷ older) = ordered_put (merged keys older) (kept_within x.keys keys x.entries) (ordered_merged keys older)

module _ (texts : ℕ → Bytes) where
  -- indexes that were written say keys in order
  pub written_ascending : (named : List IndexRange) → AreWritten texts named → AreAscending texts named
  written_ascending named written = contents_ascending texts (contents_of texts named) (contents_written texts named written)

  -- ---- pages and values that were seen

  page_seen : (notes : List Note) (p : PageAt) → AllTellRightly texts notes → IsSeen notes p.place → page_shown notes p ≡ page_in texts p.place
  page_seen notes p right (bytes, seen) =
      ap entries_shown_in seen ∙ ap (λ (b : Bytes). entries_if (entries_at b)) (sym (first_seen texts notes p.place bytes right seen))

  pages_shown : (notes : List Note) (pages : List PageAt) → AllTellRightly texts notes → AllByRecursion (λ p. IsSeen notes p.place) pages →
      flat_map (page_shown notes) pages ≡ pages_in texts pages
  pages_shown notes [] right seen = refl
  pages_shown notes (p ∷ pages) right seen =
      flat_map-cons (page_shown notes) p pages
      ∙ ap (λ l. l ++ flat_map (page_shown notes) pages) (page_seen notes p right seen.0)
      ∙ ap (λ l. page_in texts p.place ++ l) (pages_shown notes pages right seen.1)

  -- what is seen of an index is what it says
  index_seen : (notes : List Note) (x : InstalledIndex) (named : IndexRange) → AllTellRightly texts notes → IsInstalled texts x named → ArePagesSeen notes x →
      index_shown notes x ≡ content_of texts named
  index_seen notes x named right is seen =
      let entries : flat_map (page_shown notes) x.index.pages ≡ index_entries texts named.place =
      pages_shown notes x.index.pages right seen ∙ sym (ap (indexed_entries texts) is.index) ∙ ap (index_entries texts) is.place in
      (λ i. record { keys = is.keys i; entries = entries i })

  contents_seen : (notes : List Note) (xs : List InstalledIndex) (named : List IndexRange) → AllTellRightly texts notes → AreInstalled texts xs named → AreSeen notes xs →
      map (index_shown notes) xs ≡ contents_of texts named
  contents_seen notes [] [] right are seen = refl
  contents_seen notes [] (x ∷ named) right are seen = absurd are
  contents_seen notes (x ∷ xs) [] right are seen = absurd are
  contents_seen notes (x ∷ xs) (y ∷ named) right are seen =
      ap (λ (c : IndexContent). c ∷ map (index_shown notes) xs) (index_seen notes x y right are.0 seen.0)
      ∙ ap (λ (cs : List IndexContent). content_of texts y ∷ cs) (contents_seen notes xs named right are.1 seen.1)

  values_seen : (notes : List Note) (es : Entries) → AllTellRightly texts notes → AreValuesSeen notes es → AreShown texts notes es
  values_seen notes [] right seen = tt
  values_seen notes ((key, Deleted) ∷ es) right seen = values_seen notes es right seen
  values_seen notes ((key, Inline value) ∷ es) right seen = values_seen notes es right seen
  values_seen notes ((key, Placed place) ∷ es) right ((bytes, here), others) =
      (here ∙ ap Some (sym (first_seen texts notes place bytes right here)), values_seen notes es right others)

  -- ---- the memory table over the indexes

  pub value_known : (cell : Option Cell) → value_of texts cell ≡ flat (known_of texts cell)
  value_known None = refl
  value_known (Some cell) = refl

  put_says : (older newer : Entries) (key : Bytes) → is_ascending newer ≡ true →
      table_in texts (put_all older newer) key ≡ flat (pick (layer_in texts newer key) (layer_in texts older key))
  put_says older newer key order =
      value_known (found (put_all older newer) key)
      ∙ ap (λ (o : Option Cell). flat (known_of texts o)) (found_put older newer key ∙ latest_sorted key newer (found older key) (sorted_from_ascending newer order))
      ∙ ap flat (known_first texts (found newer key) (found older key))

  -- rows are the table of the entries shown
  rows_table : (notes : List Note) (table : ShownTable) (key : Bytes) → AllTellRightly texts notes → AreValuesSeen notes (entries_shown notes table) →
      stored (rows_of notes table) key ≡ table_in texts (entries_shown notes table) key
  rows_table notes table key right seen =
      let contents : List IndexContent = map (index_shown notes) table.indexes in
      rows_say texts notes (entries_shown notes table) (ordered_put (merged table.keys contents) table.live (ordered_merged table.keys contents))
      (values_seen notes (entries_shown notes table) right seen) key

  -- ---- the laws

  pub rows_say_layers : RowsSayLayers texts
  rows_say_layers notes table named key right installed pages ascending order values inside =
      rows_table notes table key right values
      ∙ ap (λ (cs : List IndexContent). table_in texts (put_all (merged table.keys cs) table.live) key) (contents_seen notes table.indexes named right installed pages)
      ∙ put_says (merged table.keys (contents_of texts named)) table.live key order
      ∙ ap (λ o. flat (pick (layer_in texts table.live key) o)) (merged_says texts table.keys named key ascending inside)

  pub rows_say_memory : RowsSayMemory texts
  rows_say_memory notes table key right order values outside =
      let contents : List IndexContent = map (index_shown notes) table.indexes in
      rows_table notes table key right values
      ∙ put_says (merged table.keys contents) table.live key order
      ∙ ap (λ (o : Option Cell). flat (pick (layer_in texts table.live key) (known_of texts o))) (none_outside table.keys contents key outside)
      ∙ pick_none (layer_in texts table.live key)
      ∙ sym (value_known (found table.live key))

  pub rows_show_layers : RowsShowLayers texts
  rows_show_layers notes table named newest right installed pages ascending order values same outside key = by (within table.keys key) refl
    where
      by : (b : Bool) → within table.keys key ≡ b →
          stored (rows_of notes table) key ≡ cond b (flat (pick (newest key) (indexed (layer_at texts) named key))) None
      by true is =
          rows_say_layers notes table named key right installed pages ascending order values is
          ∙ ap (λ o. flat (pick o (indexed (layer_at texts) named key))) (same key)
      by false is =
          rows_say_memory notes table key right order values is ∙ value_known (found table.live key) ∙ ap flat (same key) ∙ outside key is
