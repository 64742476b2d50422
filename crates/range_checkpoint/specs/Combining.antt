-- What is written where all older pages are merged.
use Rattle.std.specs.Prelude.{◌≡◌, Bool, true, false, List, Option, Some, None, if◌then◌else◌}
use Rattle.memtable.specs.declared.cell.Place.{Place}
use Rattle.memtable.specs.Entries.{Entries}
use Rattle.metadata.specs.declared.record.KeyRange.{KeyRange}
use Rattle.checkpoint.specs.declared.installed_index.InstalledIndex.{InstalledIndex}
use Rattle.checkpoint.specs.Lookup.{PageSource}
use Rattle.checkpoint.specs.Merges.{MergeState, ChangesState, IsWithPage, merge_of}
use Rattle.checkpoint.specs.PageGroups.{PagesState, next_group, no_pages, pages_to_write, will_fit}
use Rattle.model_partition.specs.declared.checkpoint_job.CheckpointPhase.TheVariants.{Combining}
use Rattle.model_partition.specs.declared.waiting.PlaceRead.{PlaceRead}
use Rattle.model_partition.specs.PlaceReads.{is_place}
use Rattle.model_partition.specs.CheckpointStates.{CheckpointState}
use Rattle.model_partition.specs.Checkpoints.{combined_job, combined_pages, next_append}
use Rattle.model_partition.specs.Loading.{Group}
use Rattle.range_checkpoint.specs.declared.starts.CheckpointStart.{CheckpointStart}

-- whether the index of the combined pages will fit a group, and these pages, or else those of the newer layer alone
abbrev pub combined_or_newer : MergeState → Entries → Bool × PagesState
combined_or_newer merge newer = if will_fit (combined_pages merge newer) then (true, combined_pages merge newer) else (false, pages_to_write newer)

-- what is appended first
abbrev pub combined_append : CheckpointState → Entries → CheckpointState × Option Group
combined_append job newer = next_append (combined_job job newer) (next_group (combined_job job newer).pages)

-- what the page that has come brings, if one is read for the checkpoint that is under way and its bytes spell these entries
abbrev pub IsPageOf : PageSource → KeyRange → Option CheckpointState → Option Entries → Option ChangesState → Type 0
IsPageOf source keys None entries changes = changes ≡ None
IsPageOf source keys (Some job) entries changes = IsWithPage source keys job.merge entries changes

-- whether a read is out of what stands at a place
abbrev pub is_read : Option PlaceRead → Place → Bool
is_read None place = false
is_read (Some read) place = is_place read.place place

-- a checkpoint that combines these indexes, none of whose pages is merged yet
abbrev pub combining_job : CheckpointStart → List InstalledIndex → CheckpointState
combining_job start indexes =
    record { position = start.position; next = start.next; combine = true; merge = merge_of indexes; pages = no_pages; phase = Combining }
