-- Two lists of entries in one walk.
use Rattle.std.specs.Prelude.{ℕ, List, [], ◌∷◌, ◌++◌}
use Rattle.std.specs.Ordering.{match_ordering}
use Rattle.memtable.specs.Entries.{Entries, key_cmp}

-- the entries in front whose keys are below this one
abbrev pub entries_below : List ℕ → Entries → Entries
entries_below key [] = []
entries_below key (e ∷ entries) = match_ordering (key_cmp key e.0) [] [] (e ∷ entries_below key entries)

-- those after them, without one of this key
abbrev pub entries_above : List ℕ → Entries → Entries
entries_above key [] = []
entries_above key (e ∷ entries) = match_ordering (key_cmp key e.0) (e ∷ entries) entries (entries_above key entries)

-- newer entries over older ones, where the keys of both ascend
abbrev pub merged_entries : Entries → Entries → Entries
merged_entries older [] = older
merged_entries older (c ∷ newer) = entries_below c.0 older ++ c ∷ merged_entries (entries_above c.0 older) newer
