-- Merging the pages of installed indexes, one after the other, comes to what these say together; and what is combined of it has the
-- values of the newer layer over theirs.
use Rattle.std.proofs.Common.{◌≡◌, ℕ, Bool, true, false, List, [], ◌∷◌, ◌++◌, map, length, drop, Option, Some, None, refl, sym, ap, subst, ◌∙◌}
use Rattle.std.specs.Prelude.{◌&&◌}
use Rattle.std.specs.List.{AllByRecursion, flat_map}
use Rattle.std.proofs.lemmas.List.Concat.{flat_map-cons}
use Rattle.std.proofs.lemmas.List.Elements.{filter-append}
use Rattle.memtable.specs.declared.cell.Place.{Place}
use Rattle.memtable.specs.Entries.{Entries, put_all}
use Rattle.metadata.specs.declared.record.IndexRange.{IndexRange}
use Rattle.metadata.specs.declared.record.KeyRange.{KeyRange}
use Rattle.metadata.specs.Keys.{within}
use Rattle.checkpoint_format.specs.declared.index.PageAt.{PageAt}
use Rattle.checkpoint_format.specs.Page.{entries_at}
use Rattle.checkpoint.specs.declared.installed_index.InstalledIndex.{InstalledIndex}
use Rattle.checkpoint.specs.declared.unmerged_page.UnmergedPage.{UnmergedPage}
use Rattle.checkpoint.specs.Contents.{AreEntries, HasEntries}
use Rattle.checkpoint.specs.Merges.{MergeState, pages_to_merge, merge_of, pages_of_index, first_place, next_place, page_entries, begins_with, at_hand, with_at_hand, page_taken, with_page}
use Rattle.checkpoint.specs.Pages.{IndexContent, kept_within, merged, combined}
use Rattle.checkpoint.proofs.Merging.{merged_entries, combined_entries}
use Rattle.model_partition.specs.Getting.{Held, held_at}
use Rattle.model_histories.specs.IndexContents.{page_in, pages_in, index_in}
use Rattle.model_partition.specs.Past.{Bytes}
use Rattle.model_partition.specs.Servers.{entries_if}
use Rattle.laws_loads.proofs.Cells.{put_both}
use Rattle.laws_loads.specs.MemoryLayers.{layer_in}
use Rattle.laws_tables.specs.Layers.{over, flat, indexed}
use Rattle.laws_checkpoints.specs.CombinedLayers.{merged_with, installed_entries, written_entries}
use Rattle.laws_checkpoints.specs.IndexLayers.{layer_at, AreWritten}
use Rattle.laws_checkpoints.specs.ShownTables.{AreInstalled, HoldsBytes}
use Rattle.laws_checkpoints.proofs.Checkpoints.{combined_says}
use Rattle.laws_checkpoints.proofs.HeldPages.{held_rightly}
use Rattle.laws_checkpoints.proofs.TableLayers.{contents_say}
use Rattle.laws_checkpoints.proofs.WrittenIndexes.{contents_written}

module _ (texts : ℕ → Bytes) where
  -- ---- pages that are merged

  module _ (keys : KeyRange) where
    merged_both : (entries : Entries) (first others : List UnmergedPage) →
        merged_with texts keys entries (first ++ others) ≡ merged_with texts keys (merged_with texts keys entries first) others
    merged_both entries [] others = refl
    merged_both entries (p ∷ first) others = merged_both (put_all entries (kept_within p.keys keys (page_in texts p.place))) first others

    kept_both : (a : KeyRange) (first others : Entries) → kept_within a keys (first ++ others) ≡ kept_within a keys first ++ kept_within a keys others
    kept_both a first others = filter-append (λ e. within a e.0 && within keys e.0) first others

    -- the pages of an index come to what they say together
    merged_pages : (a : KeyRange) (entries : Entries) (pages : List PageAt) →
        merged_with texts keys entries (map (λ p. record { keys = a; place = p.place }) pages) ≡ put_all entries (kept_within a keys (pages_in texts pages))
    merged_pages a entries [] = refl
    merged_pages a entries (p ∷ pages) =
        let first : Entries = kept_within a keys (page_in texts p.place) in
        merged_pages a (put_all entries first) pages
        ∙ sym (put_both entries first (kept_within a keys (pages_in texts pages)))
        ∙ ap (put_all entries) (sym (kept_both a (page_in texts p.place) (pages_in texts pages)))

    -- all pages of indexes come to what these say together
    pub merged_begins : (indexes : List InstalledIndex) → merged_with texts keys (merge_of indexes).entries (merge_of indexes).left ≡ installed_entries texts keys indexes
    merged_begins [] = refl
    merged_begins (x ∷ older) =
        merged_both [] (pages_to_merge older) (pages_of_index x)
        ∙ merged_pages x.keys (merged_with texts keys [] (pages_to_merge older)) x.index.pages
        ∙ ap (λ es. put_all es (kept_within x.keys keys (pages_in texts x.index.pages))) (merged_begins older)

    -- a page that comes, and says what stands at its place, leaves what all come to
    pub merged_goes : (m : MergeState) (place : Place) (entries : Entries) → next_place m ≡ Some place → page_in texts place ≡ entries →
        merged_with texts keys (with_page keys m entries).entries (with_page keys m entries).left ≡ merged_with texts keys m.entries m.left
    merged_goes m place entries next says = by m.left next
      where
        by : (left : List UnmergedPage) → first_place left ≡ Some place →
            merged_with texts keys (page_taken keys m left entries).entries (page_taken keys m left entries).left ≡ merged_with texts keys m.entries left
        by [] none = absurd cc
        by (p ∷ left) is =
            let same : p.place ≡ place = cc in
            ap (λ es. merged_with texts keys (put_all m.entries (kept_within p.keys keys es)) left) (sym says ∙ ap (page_in texts) (sym same))

    -- ---- pages at hand

    -- entries of a page that is held are those at its place
    page_held : (held : Held) (place : Place) (entries : Entries) → HoldsBytes texts held → page_entries (held_at held place) ≡ Some entries → page_in texts place ≡ entries
    page_held held place entries right is = by (held_at held place) refl is
      where
        by : (o : Option Bytes) → held_at held place ≡ o → page_entries o ≡ Some entries → page_in texts place ≡ entries
        by None at none = absurd cc
        by (Some bytes) at spells = ap (λ b. entries_if (entries_at b)) (held_rightly texts held place bytes right at) ∙ ap entries_if spells

    hand_merged : (held : Held) → HoldsBytes texts held → (entries : Entries) (left : List UnmergedPage) →
        merged_with texts keys (put_all entries (flat_map (λ page. page) (at_hand (held_at held) keys left))) (drop (length (at_hand (held_at held) keys left)) left)
        ≡ merged_with texts keys entries left
    hand_merged held right entries [] = refl
    hand_merged held right entries (p ∷ left) = by (page_entries (held_at held p.place)) refl (λ es. hand_merged held right es left)
      where
        others : List Entries
        others = at_hand (held_at held) keys left

        by : (o : Option Entries) → page_entries (held_at held p.place) ≡ o →
            ((es : Entries) → merged_with texts keys (put_all es (flat_map (λ page. page) others)) (drop (length others) left) ≡ merged_with texts keys es left) →
            merged_with texts keys (put_all entries (flat_map (λ page. page) (begins_with p.keys keys o others))) (drop (length (begins_with p.keys keys o others)) (p ∷ left))
            ≡ merged_with texts keys entries (p ∷ left)
        by None none more = refl
        by (Some page) is more =
            let first : Entries = kept_within p.keys keys page in
            ap (λ changes. merged_with texts keys (put_all entries changes) (drop (length others) left)) (flat_map-cons (λ (page : Entries). page) first others)
            ∙ ap (λ es. merged_with texts keys es (drop (length others) left)) (put_both entries first (flat_map (λ page. page) others))
            ∙ more (put_all entries first)
            ∙ ap (λ es. merged_with texts keys (put_all entries (kept_within p.keys keys es)) left) (sym (page_held held p.place page right is))

    -- so do those at the front that are held, where what is held are the bytes of its places
    pub merged_held : (held : Held) → HoldsBytes texts held → (m : MergeState) →
        merged_with texts keys (with_at_hand (held_at held) keys m).entries (with_at_hand (held_at held) keys m).left ≡ merged_with texts keys m.entries m.left
    merged_held held right m = hand_merged held right m.entries m.left

    -- where none is left what was merged is all
    pub merged_ends : (m : MergeState) → next_place m ≡ None → merged_with texts keys m.entries m.left ≡ m.entries
    merged_ends m none = by m.left none
      where
        by : (left : List UnmergedPage) → first_place left ≡ None → merged_with texts keys m.entries left ≡ m.entries
        by [] e = refl
        by (p ∷ left) e = absurd cc

  -- ---- what is written

  -- what indexes that were written say together pages can have
  pub installed_are : (keys : KeyRange) (installed : List InstalledIndex) (named : List IndexRange) → AreInstalled texts installed named → AreWritten texts named →
      AreEntries (installed_entries texts keys installed)
  installed_are keys installed named are written =
      merged_entries keys (map (index_in texts) installed)
      (subst (AllByRecursion HasEntries) (sym (contents_say texts installed named are)) (contents_written texts named written))

  -- and so what a checkpoint's pages are written of
  pub written_are : (combine : Bool) (keys : KeyRange) (installed : List InstalledIndex) (named : List IndexRange) (fixed : Entries) → AreInstalled texts installed named → AreWritten texts named → AreEntries fixed →
      AreEntries (written_entries texts combine keys installed fixed)
  written_are false keys installed named fixed are written fixed_are = fixed_are
  written_are true keys installed named fixed are written fixed_are =
      combined_entries (installed_entries texts keys installed) (Some fixed) (installed_are keys installed named are written) fixed_are

  -- what is combined has the values of the fixed layer over those of the indexes, within the keys
  pub combined_layer : (keys : KeyRange) (installed : List InstalledIndex) (named : List IndexRange) (fixed : Entries) (key : Bytes) → AreInstalled texts installed named → AreWritten texts named → AreEntries fixed →
      within keys key ≡ true → flat (layer_in texts (written_entries texts true keys installed fixed) key) ≡ flat (over (layer_in texts fixed) (indexed (layer_at texts) named) key)
  combined_layer keys installed named fixed key are written fixed_are inside =
      ap (λ (cs : List IndexContent). flat (layer_in texts (combined (merged keys cs) (Some fixed)) key)) (contents_say texts installed named are)
      ∙ combined_says texts keys named (Some fixed) key (contents_written texts named written) fixed_are inside
