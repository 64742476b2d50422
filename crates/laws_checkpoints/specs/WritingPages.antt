-- What stands of the pages of a checkpoint while they are written.
use Rattle.std.specs.Prelude.{◌≡◌, ℕ, List, ◌++◌, map}
use Rattle.memtable.specs.Entries.{Entries}
use Rattle.checkpoint_format.specs.Page.{page_of, pages_of}
use Rattle.checkpoint_format.specs.Index.{HasPlaces}
use Rattle.checkpoint.specs.Pages.{AreFiled}
use Rattle.checkpoint.specs.PageGroups.{PagesState, ArePages}
use Rattle.model_partition.specs.Past.{Bytes}
use Rattle.laws_checkpoints.specs.IndexLayers.{PagesStand}

module _ (texts : ℕ → Bytes) where
  -- The first pages of these entries stand, each under its first key, and the others are still to be appended.
  pub record WritesPages (entries : Entries) (p : PagesState) : Type 0 where
    pub written : List Entries
    pub left : List Entries
    pub all : pages_of entries ≡ written ++ left
    pub stand : PagesStand texts p.index.pages written
    pub filed : AreFiled p.index.pages written
    pub unwritten : p.unwritten ≡ map page_of left
    pub places : HasPlaces p.index
    pub pages : ArePages p
