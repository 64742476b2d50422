-- A worked example: a page of two entries, one of them deleted, and behind it the index of that page; what is combined of it; and
-- what a table over it shows and a look-up finds.
use Rattle.std.proofs.Common.{◌≡◌, ℕ, List, [], ◌∷◌, ◌++◌, true, false, Some, None, refl, sym, subst, arith}
use Rattle.std.specs.Prelude.{◌==◌, if◌then◌else◌}
use Rattle.blocks.specs.Record as numbers
use Rattle.wire.specs.declared.note.Note.{Note}
use Rattle.wire.specs.declared.note.Note.TheVariants.{Seen}
use Rattle.wire.specs.declared.rows.Row.{Row}
use Rattle.memtable.specs.declared.cell.Cell.TheVariants.{Deleted, Inline, Placed}
use Rattle.memtable.specs.declared.cell.Place.{Place}
use Rattle.memtable.specs.Entries.{Entries}
use Rattle.commitlog.specs.Reading as values
use Rattle.metadata.specs.declared.record.IndexRange.{IndexRange}
use Rattle.metadata.specs.Fold.{all_keys, first_metadata}
use Rattle.metadata.specs.Keys.{within}
use Rattle.metadata.specs.Reading as places
use Rattle.checkpoint_format.specs.declared.index.Index.{Index}
use Rattle.checkpoint_format.specs.Page.{large_place_at, fields_at, cell_at, entry_at, counted_entries_at, entries_at, page_bytes, pages_of}
use Rattle.checkpoint_format.specs.Index.{one_page_at, body_at, index_at, index_text}
use Rattle.checkpoint.specs.declared.installed_index.InstalledIndex.{InstalledIndex}
use Rattle.checkpoint.specs.declared.page_lookup.Lookup.TheVariants.{Absent}
use Rattle.checkpoint.specs.Lookup.{looked_up}
use Rattle.checkpoint.specs.Pages.{AreFiled, NoPages, Next, merged, combined}
use Rattle.model_partition.specs.declared.shown_table.ShownTable.{ShownTable}
use Rattle.model_partition.specs.Getting.{Held, Is, Needs, held_at, look}
use Rattle.model_partition.specs.Past.{Bytes, stored, kept}
use Rattle.model_partition.specs.Servers.{first_shown, entries_shown, rows_of}
use Rattle.model_histories.specs.TableContents.{AllTellRightly}
use Rattle.laws_tables.specs.Layers.{Layer, empty_layer, over, flat, indexed}
use Rattle.laws_tables.specs.Runs.{Beginning, Serving, nothing_held, Covers}
use Rattle.laws_tables.proofs.Layers.{in_all}
use Rattle.laws_loads.specs.MemoryLayers.{layer_in}
use Rattle.laws_checkpoints.specs.IndexLayers.{index_entries, layer_at, contents_of, IsWritten}
use Rattle.model_histories.specs.IndexContents.{bytes_in}
use Rattle.laws_checkpoints.specs.ShownTables.{AreInstalled, AreSearchable, AreValuesSeen, HoldsBytes, IsAnswer}
use Rattle.laws_checkpoints.proofs.Checkpoints.{plain_covers, combined_covers}
use Rattle.laws_checkpoints.proofs.HeldPages.{installed_searchable, look_says_layers}
use Rattle.laws_checkpoints.proofs.ObservedPages.{first_seen}
use Rattle.laws_checkpoints.proofs.ShownRows.{written_ascending, rows_say_layers, rows_say_memory, rows_show_layers}
use Rattle.checkpoint.specs.PageGroups.{PagesState, next_group, pages_to_write, with_next_placed}
use Rattle.checkpoint.proofs.PageGroups.{pages_begin}
use Rattle.checkpoint.proofs.Orders.{sorted_from_ascending}
use Rattle.model_histories.specs.TableContents.{StandsAt}
use Rattle.laws_checkpoints.proofs.WrittenIndexes.{joined_group, index_read}
use Rattle.laws_checkpoints.specs.WritingPages.{WritesPages}
use Rattle.laws_checkpoints.proofs.WrittenPages.{writing_begins, writing_goes, writing_ends, none_unwritten}

-- one key has a value, and another was deleted
abbrev pub entries : Entries
entries = (97 ∷ [], Inline (120 ∷ [])) ∷ (98 ∷ [], Deleted) ∷ []

-- the count, and then each key with its kind, and the value
abbrev pub page : Bytes
page = 0 ∷ 2 ∷ 0 ∷ 1 ∷ 97 ∷ 1 ∷ 0 ∷ 0 ∷ 0 ∷ 1 ∷ 120 ∷ 0 ∷ 1 ∷ 98 ∷ 0 ∷ []

-- behind three other bytes
abbrev pub page_place : Place
page_place = record { extent = 7; offset = 3; length = 15 }

abbrev pub index : Index
index = record { pages = record { first = 97 ∷ []; place = page_place } ∷ []; has_place = false }

-- its length, the count, no value by place, the first key, and the place of the page
abbrev pub index_bytes : Bytes
index_bytes =
    0 ∷ 0 ∷ 0 ∷ 28 ∷ 0 ∷ 0 ∷ 0 ∷ 1 ∷ 0 ∷ 0 ∷ 1 ∷ 97 ∷ 0 ∷ 0 ∷ 0 ∷ 0 ∷ 0 ∷ 0 ∷ 0 ∷ 7 ∷ 0 ∷ 0 ∷ 0 ∷ 3 ∷ 0 ∷ 0 ∷ 0 ∷ 15 ∷ []

abbrev pub index_place : Place
index_place = record { extent = 7; offset = 18; length = 28 }

-- a page of what is combined below, and its index behind it
abbrev pub combined_page : Bytes
combined_page = 0 ∷ 2 ∷ 0 ∷ 1 ∷ 97 ∷ 1 ∷ 0 ∷ 0 ∷ 0 ∷ 1 ∷ 120 ∷ 0 ∷ 1 ∷ 99 ∷ 1 ∷ 0 ∷ 0 ∷ 0 ∷ 1 ∷ 121 ∷ []

abbrev pub combined_index : Index
combined_index = record { pages = record { first = 97 ∷ []; place = record { extent = 8; offset = 0; length = 20 } } ∷ []; has_place = false }

abbrev pub combined_index_bytes : Bytes
combined_index_bytes =
    0 ∷ 0 ∷ 0 ∷ 28 ∷ 0 ∷ 0 ∷ 0 ∷ 1 ∷ 0 ∷ 0 ∷ 1 ∷ 97 ∷ 0 ∷ 0 ∷ 0 ∷ 0 ∷ 0 ∷ 0 ∷ 0 ∷ 8 ∷ 0 ∷ 0 ∷ 0 ∷ 0 ∷ 0 ∷ 0 ∷ 0 ∷ 20 ∷ []

abbrev pub combined_place : Place
combined_place = record { extent = 8; offset = 20; length = 28 }

-- an index that names the first page by its second key
abbrev pub misnamed : Index
misnamed = record { pages = record { first = 98 ∷ []; place = page_place } ∷ []; has_place = false }

abbrev pub misnamed_bytes : Bytes
misnamed_bytes =
    0 ∷ 0 ∷ 0 ∷ 28 ∷ 0 ∷ 0 ∷ 0 ∷ 1 ∷ 0 ∷ 0 ∷ 1 ∷ 98 ∷ 0 ∷ 0 ∷ 0 ∷ 0 ∷ 0 ∷ 0 ∷ 0 ∷ 7 ∷ 0 ∷ 0 ∷ 0 ∷ 3 ∷ 0 ∷ 0 ∷ 0 ∷ 15 ∷ []

abbrev pub misnamed_place : Place
misnamed_place = record { extent = 9; offset = 0; length = 28 }

abbrev pub first_text : Bytes
first_text = 5 ∷ 5 ∷ 5 ∷ (page ++ index_bytes)

abbrev pub texts : ℕ → Bytes
texts extent = if extent == 7 then first_text else if extent == 8 then combined_page ++ combined_index_bytes else if extent == 9 then misnamed_bytes else []

-- ---- what is read

-- the bytes are those of the entries and of the index
bytes_are : (page_bytes entries ≡ page) × (index_text index ≡ index_bytes)
unfolding numbers.number
bytes_are = (refl, refl)

-- so the premises hold
is_written : IsWritten texts index entries index_place
unfolding numbers.number
is_written = record {
  entries_are = record { ascending = refl; each = (((omega arith, omega arith), tt), (((omega arith, omega arith), tt), tt)) };
  pages = ((refl, record { before = 5 ∷ 5 ∷ 5 ∷ []; behind = index_bytes; is = refl; at = refl }), tt);
  index_is = record { keys = ((omega arith, omega arith), tt); ascending = refl; fits = refl };
  has_places = ((omega arith, omega arith, omega arith), tt);
  size = refl;
  stands = record { before = 5 ∷ 5 ∷ 5 ∷ page; behind = []; is = refl; at = refl };
}

-- what the index says: a value, a key that was deleted, and nothing of others; and that bytes which are no index say nothing
says : (index_entries texts index_place ≡ entries) × (layer_at texts index_place (97 ∷ []) ≡ Some (Some (120 ∷ []))) × (layer_at texts index_place (98 ∷ []) ≡ Some None)
    × (layer_at texts index_place (99 ∷ []) ≡ None) × (index_entries texts page_place ≡ [])
unfolding places.flag_at places.place_at values.counted_at large_place_at fields_at cell_at entry_at counted_entries_at entries_at one_page_at body_at index_at
says = (refl, refl, refl, refl, refl)

-- ---- pages while they are written

abbrev pub begun : PagesState
begun = pages_to_write entries

-- the page of all entries stands behind the three other bytes
abbrev pub placed : PagesState
placed = with_next_placed begun 7 3

-- so the index is complete, and no group is left
is_placed : (placed.index ≡ index) × (next_group placed ≡ None)
unfolding numbers.number
is_placed = (refl, refl)

writes : WritesPages texts entries placed
unfolding numbers.number
writes =
    writing_goes texts entries begun
    (writing_begins texts entries (pages_begin entries (((omega arith, omega arith), omega arith), (((omega arith, omega arith), tt), tt)) (sorted_from_ascending entries refl)))
    7 3 (omega arith) refl (record { before = 5 ∷ 5 ∷ 5 ∷ []; behind = index_bytes; is = refl; at = refl })

-- and it is written where it stands
is_written_so : IsWritten texts placed.index entries index_place
unfolding numbers.number
is_written_so =
    writing_ends texts entries placed writes (none_unwritten placed is_placed.1) is_written.entries_are refl 7 18
    (subst (StandsAt (texts 7) 18) (sym (joined_group index)) is_written.stands)

-- ---- combining

abbrev pub indexes : List IndexRange
indexes = record { place = index_place; keys = all_keys } ∷ []

-- a newer layer
abbrev pub newer : Entries
newer = (99 ∷ [], Inline (121 ∷ [])) ∷ []

abbrev pub both : Entries
both = combined (merged all_keys (contents_of texts indexes)) (Some newer)

abbrev pub layers : Layer
layers = over (layer_in texts newer) (indexed (layer_at texts) indexes)

-- the key that was deleted is left out, and has no value before and after
combines : (both ≡ (97 ∷ [], Inline (120 ∷ [])) ∷ (99 ∷ [], Inline (121 ∷ [])) ∷ []) × (layer_in texts both (98 ∷ []) ≡ None) × (layers (98 ∷ []) ≡ Some None)
    × (flat (layers (97 ∷ [])) ≡ Some (120 ∷ [])) × (flat (layers (99 ∷ [])) ≡ Some (121 ∷ []))
unfolding places.flag_at places.place_at values.counted_at large_place_at fields_at cell_at entry_at counted_entries_at entries_at one_page_at body_at index_at
combines = (refl, refl, refl, refl, refl)

-- ---- checkpoints

abbrev pub combined_entries : Entries
combined_entries = (97 ∷ [], Inline (120 ∷ [])) ∷ (99 ∷ [], Inline (121 ∷ [])) ∷ []

is_combined : IsWritten texts combined_index combined_entries combined_place
unfolding numbers.number
is_combined = record {
  entries_are = record { ascending = refl; each = (((omega arith, omega arith), tt), (((omega arith, omega arith), tt), tt)) };
  pages = ((refl, record { before = []; behind = combined_index_bytes; is = refl; at = refl }), tt);
  index_is = record { keys = ((omega arith, omega arith), tt); ascending = refl; fits = refl };
  has_places = ((omega arith, omega arith, omega arith), tt);
  size = refl;
  stands = record { before = combined_page; behind = []; is = refl; at = refl };
}

-- a chain that begins with the index, and a server with a fixed layer
abbrev pub beginning : Beginning
beginning = record { table = λ key. flat (indexed (layer_at texts) indexes key); place = 0; metadata = record first_metadata { indexes = indexes } }

abbrev pub server : Entries → Serving
server fixed = record nothing_held { fixed = layer_in texts fixed }

covers_fixed : Covers (layer_at texts) beginning (server entries) false (layer_at texts index_place)
covers_fixed = plain_covers texts beginning (server entries) index index_place entries is_written (λ key inside. refl)

covers_all : Covers (layer_at texts) beginning (server newer) true (layer_at texts combined_place)
covers_all =
    combined_covers texts beginning (server newer) combined_index combined_place (Some newer) ((index, entries, is_written), tt)
    (record { ascending = refl; each = (((omega arith, omega arith), tt), tt) })
    (subst (λ es. IsWritten texts combined_index es combined_place) (sym combines.0) is_combined) (λ key inside. refl)

-- ---- observations

-- what a node was seen to have of the extent
abbrev pub notes : List Note
notes = Seen 7 1 0 first_text ∷ []

shows : (first_shown notes page_place ≡ Some page) × (bytes_in texts page_place ≡ page)
shows = (refl, first_seen texts notes page_place page (record { before = []; behind = []; is = refl; at = refl }, tt) refl)

-- ---- rows over pages

abbrev pub value_place : Place
value_place = record { extent = 7; offset = 0; length = 3 }

-- the memory table has another value of a key that the index has as deleted, and one of a key outside of those of the table
abbrev pub live : Entries
live = (98 ∷ [], Placed value_place) ∷ (99 ∷ [], Inline (121 ∷ [])) ∷ []

abbrev pub installed : List InstalledIndex
installed = record { place = index_place; keys = all_keys; index = index } ∷ []

abbrev pub table : ShownTable
table = record { live = live; indexes = installed; keys = record { low = []; high = Some (99 ∷ []) } }

abbrev pub right : AllTellRightly texts notes
right = (record { before = []; behind = []; is = refl; at = refl }, tt)

are_installed : AreInstalled texts installed indexes
are_installed = (record { place = refl; keys = refl; index = index_read texts index entries index_place is_written }, tt)

values_seen : AreValuesSeen notes (entries_shown notes table)
unfolding places.flag_at places.place_at values.counted_at large_place_at fields_at cell_at entry_at counted_entries_at entries_at
values_seen = ((5 ∷ 5 ∷ 5 ∷ [], refl), tt)

row : Bytes → Bytes → Row
row key value = record { key = key; value = value }

rows_are : rows_of notes table ≡ row (97 ∷ []) (120 ∷ []) ∷ row (98 ∷ []) (5 ∷ 5 ∷ 5 ∷ []) ∷ row (99 ∷ []) (121 ∷ []) ∷ []
unfolding places.flag_at places.place_at values.counted_at large_place_at fields_at cell_at entry_at counted_entries_at entries_at row
rows_are = refl

-- so says the law, within the keys and outside of them
rows_say : (key : Bytes) → within table.keys key ≡ true → stored (rows_of notes table) key ≡ flat (over (layer_in texts live) (indexed (layer_at texts) indexes) key)
rows_say key inside =
    rows_say_layers texts notes table indexes key right are_installed (((page, refl), tt), tt) (written_ascending texts indexes ((index, entries, is_written), tt)) refl values_seen inside

others_say : stored (rows_of notes table) (99 ∷ []) ≡ Some (121 ∷ [])
others_say = rows_say_memory texts notes table (99 ∷ []) right refl values_seen refl

-- so does a table of all keys, as a load of a chain shows it
load_shows : (key : Bytes) → stored (rows_of notes (record table { keys = all_keys })) key
    ≡ kept all_keys (λ k. flat (over (layer_in texts live) (indexed (layer_at texts) indexes) k)) key
unfolding places.flag_at places.place_at values.counted_at large_place_at fields_at cell_at entry_at counted_entries_at entries_at
load_shows key =
    rows_show_layers texts notes (record table { keys = all_keys }) indexes (layer_in texts live) right are_installed (((page, refl), tt), tt)
    (written_ascending texts indexes ((index, entries, is_written), tt)) refl ((5 ∷ 5 ∷ 5 ∷ [], refl), tt) (λ k. refl) (λ k outside. absurd (all_within k outside)) key
  where
    all_within : (k : Bytes) → within all_keys k ≡ false → ⊥
    all_within k outside = let inside : within all_keys k ≡ true = in_all k in absurd (cc (inside, outside))

-- ---- look-ups over pages

abbrev pub held : Held
held = (page_place, page) ∷ []

holds_rightly : HoldsBytes texts held
holds_rightly = (refl, tt)

-- a value, a key that was deleted, one that the memory table has as deleted, and a page that is not held
finds : (look held installed (97 ∷ []) None ≡ Is (Some (120 ∷ []))) × (look held installed (98 ∷ []) None ≡ Is None)
    × (look held installed (97 ∷ []) (Some Deleted) ≡ Is None) × (look [] installed (97 ∷ []) None ≡ Needs true page_place)
unfolding places.flag_at places.place_at values.counted_at large_place_at fields_at cell_at entry_at counted_entries_at entries_at
finds = (refl, refl, refl, refl)

is_filed : AreFiled index.pages (pages_of entries)
is_filed = Next (record { first = 97 ∷ []; place = page_place }) (97 ∷ [], Inline (120 ∷ [])) ((98 ∷ [], Deleted) ∷ []) [] [] refl NoPages

are_searchable : AreSearchable texts installed
are_searchable = installed_searchable texts installed indexes are_installed ((index, entries, is_written, is_filed), tt)

-- so says the law
look_says : (key : Bytes) → IsAnswer texts held (flat (indexed (layer_at texts) indexes key)) (look held installed key None)
look_says key = look_says_layers texts held installed indexes empty_layer key None holds_rightly are_installed are_searchable refl

-- ---- premises that are needed

abbrev pub twice : Entries
twice = (97 ∷ [], Inline (1 ∷ [])) ∷ (97 ∷ [], Inline (2 ∷ [])) ∷ []

-- a memory table that is not in order: the rows show its last value of a key, and its layer has the first
twice_in_memory : (rows_of notes (record { live = twice; indexes = []; keys = all_keys }) ≡ row (97 ∷ []) (2 ∷ []) ∷ []) × (layer_in texts twice (97 ∷ []) ≡ Some (Some (1 ∷ [])))
unfolding row
twice_in_memory = (refl, refl)

-- a page that was not seen shows nothing
unseen : (rows_of [] (record table { live = [] }) ≡ []) × (flat (indexed (layer_at texts) indexes (97 ∷ [])) ≡ Some (120 ∷ []))
unfolding places.flag_at places.place_at values.counted_at large_place_at fields_at cell_at entry_at counted_entries_at entries_at one_page_at body_at index_at
unseen = (refl, refl)

-- an index that names its page by another key than the page's first: it says what the page says, and a look-up does not find it
misnamed_written : IsWritten texts misnamed entries misnamed_place
unfolding numbers.number
misnamed_written = record {
  entries_are = is_written.entries_are;
  pages = is_written.pages;
  index_is = record { keys = ((omega arith, omega arith), tt); ascending = refl; fits = refl };
  has_places = is_written.has_places;
  size = refl;
  stands = record { before = []; behind = []; is = refl; at = refl };
}

misnamed_absent : (looked_up (held_at held) (record { place = misnamed_place; keys = all_keys; index = misnamed } ∷ []) (97 ∷ []) ≡ Absent)
    × (layer_at texts misnamed_place (97 ∷ []) ≡ Some (Some (120 ∷ [])))
unfolding places.flag_at places.place_at values.counted_at large_place_at fields_at cell_at entry_at counted_entries_at entries_at one_page_at body_at index_at
misnamed_absent = (refl, refl)
