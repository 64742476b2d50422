-- Two ranges whose logs were trimmed are merged: the right regions move behind the left log, wherever their own log begins.
use Rattle.std.proofs.Common.{◌≡◌, ℕ, [], ◌∷◌, Option, Some, None, refl}
use Rattle.block_types.specs.declared.record.Nodes.{Nodes}
use Rattle.wire.specs.declared.streams.StreamExtent.{StreamExtent}
use Rattle.metadata.specs.declared.record.IndexRange.{IndexRange}
use Rattle.metadata.specs.declared.record.KeyRange.{KeyRange}
use Rattle.metadata.specs.declared.record.Region.{Region}
use Rattle.model_partition.specs.declared.server_context.ServerContext.{ServerContext}
use Rattle.model_partition.specs.Range.{RangeState}
use Rattle.model_partition.specs.Server.{new_range}
use Rattle.model_partition.specs.JoinedRanges.{joined_indexes, joined_regions}

abbrev nodes : Nodes
nodes = record { primary = 1; second = 2; third = 3 }

abbrev server : ServerContext
server = record { server = 1; session = 1; moment = 1; pick = nodes; batch = 1; count = 9 }

abbrev extent : ℕ → StreamExtent
extent e = record { extent = e; places = nodes; length = Some 48 }

-- below `m`, and from it on
abbrev low_keys : KeyRange
low_keys = record { low = []; high = Some (109 ∷ []) }

abbrev high_keys : KeyRange
high_keys = record { low = 109 ∷ []; high = None }

-- an index of a time before the two were parted
abbrev old_index : IndexRange
old_index = record { place = record { extent = 20; offset = 0; length = 9 }; keys = record { low = []; high = None } }

-- and one that the left range wrote since
abbrev new_index : IndexRange
new_index = record { place = record { extent = 21; offset = 0; length = 9 }; keys = low_keys }

-- its log begins at the index 2, and is to be read from the second extent on
abbrev left : RangeState
left =
    record (new_range server 2 1 100) {
      log = record (new_range server 2 1 100).log { base = 2; extents = extent 11 ∷ extent 12 ∷ [] };
      said = record { keys = low_keys; indexes = new_index ∷ old_index ∷ []; regions = record { start = record { index = 3; offset = 24 }; end = None; next = 4; keys = low_keys } ∷ []; next = 6 };
    }

-- its log begins at the index 7, and is to be read from the first extent on
abbrev right : RangeState
right =
    record (new_range server 3 1 100) {
      log = record (new_range server 3 1 100).log { base = 7; extents = extent 13 ∷ extent 14 ∷ extent 15 ∷ [] };
      said = record { keys = high_keys; indexes = old_index ∷ []; regions = record { start = record { index = 7; offset = 48 }; end = None; next = 5; keys = high_keys } ∷ []; next = 8 };
    }

abbrev region : ℕ → ℕ → Option ℕ → ℕ → KeyRange → Region
region index offset end next keys = record { start = record { index = index; offset = offset }; end = end; next = next; keys = keys }

-- the joined log has the extents 11 to 15 at the indexes 2 to 6
pub regions_join : joined_regions left right ≡
    region 3 24 (Some 4) 4 low_keys ∷ region 4 48 (Some 7) 5 high_keys ∷ region 7 0 None 1 (record { low = []; high = None }) ∷ []
regions_join = refl

-- the old index counts once on either side, and stands before the new one
pub indexes_join : joined_indexes left right ≡ record old_index { keys = low_keys } ∷ new_index ∷ record old_index { keys = high_keys } ∷ []
indexes_join = refl
