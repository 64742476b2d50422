-- What the pages of indexes that are still to be merged add, where the bytes of extents are known; and what the pages of a
-- checkpoint are written of.
use Rattle.std.specs.Prelude.{ℕ, Bool, true, false, List, [], ◌∷◌, map, Some}
use Rattle.memtable.specs.Entries.{Entries, put_all}
use Rattle.metadata.specs.declared.record.KeyRange.{KeyRange}
use Rattle.checkpoint.specs.declared.installed_index.InstalledIndex.{InstalledIndex}
use Rattle.checkpoint.specs.declared.unmerged_page.UnmergedPage.{UnmergedPage}
use Rattle.checkpoint.specs.Pages.{kept_within, merged, combined}
use Rattle.model_partition.specs.Past.{Bytes}
use Rattle.model_histories.specs.IndexContents.{page_in, index_in}

module _ (texts : ℕ → Bytes) where
  -- each page in turn comes over what is there, within the keys of its index and these
  abbrev pub merged_with : KeyRange → Entries → List UnmergedPage → Entries
  merged_with keys entries [] = entries
  merged_with keys entries (p ∷ left) = merged_with keys (put_all entries (kept_within p.keys keys (page_in texts p.place))) left

  -- what installed indexes say together, within these keys
  abbrev pub installed_entries : KeyRange → List InstalledIndex → Entries
  installed_entries keys indexes = merged keys (map (index_in texts) indexes)

  -- what the pages of a checkpoint are written of: the fixed layer, where it combines over what the installed indexes say
  abbrev pub written_entries : Bool → KeyRange → List InstalledIndex → Entries → Entries
  written_entries false keys indexes fixed = fixed
  written_entries true keys indexes fixed = combined (installed_entries keys indexes) (Some fixed)
