-- What a load takes of a group.
use Rattle.std.specs.Prelude.{ℕ, Bool, ◌&&◌, List, Option}
use Rattle.blocks.specs.Format.{◌>>=◌}
use Rattle.streams.specs.declared.table.Position.{Position}
use Rattle.memtable.specs.declared.cell.Cell.{Cell}
use Rattle.commitlog.specs.Reading.{each_of, record_at}
use Rattle.memtable.specs.Entries.{Entries}
use Rattle.metadata.specs.declared.record.KeyRange.{KeyRange}
use Rattle.metadata.specs.declared.record.Region.{Region}
use Rattle.metadata.specs.Keys.{within}
use Rattle.model_partition.specs.Loading.{Group, region_takes}

-- whether a change is of the range's keys and of the region's own
abbrev pub is_of : KeyRange → KeyRange → List ℕ × Cell → Bool
is_of keys own change = within keys change.0 && within own change.0

-- the regions and the layer after the group at a position; none where it is damaged
abbrev pub group_takes : KeyRange → Position → ℕ → List Region × Entries → Group → Option (List Region × Entries)
group_takes keys at extent x group = record_at group >>= λ r. each_of (region_takes keys at extent r) x.1 x.0
