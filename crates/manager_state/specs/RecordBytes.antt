-- Records whose bytes are read as they were written.
use Rattle.std.specs.Prelude.{◌≡◌, ◌<◌, ◌≤◌, ◌^◌, true, List}
use Rattle.std.specs.List.{All}
use Rattle.block_types.specs.Limits.{are_nodes, IsTarget}
use Rattle.wire.specs.declared.streams.Source.{Source}
use Rattle.wire.specs.declared.streams.Modify.{Modify}
use Rattle.streams.specs.Streams.{may_list}
use Rattle.model_streams.specs.declared.manager_record.ManagerRecord.{ManagerRecord}
use Rattle.model_streams.specs.declared.manager_record.ManagerRecord.TheVariants.{First, CreateStream, OpenStreams, Extend, Seal, Trim, MultiModify}

-- fields in range, but for those of 32 and 64 bits, which are so by their types; lists have counts of one byte
abbrev pub CanSpell : ManagerRecord → Type 0
CanSpell (First nodes target) = ((3 ≤ nodes) × (nodes ≤ 12)) × IsTarget target
CanSpell (CreateStream s fence) = Unit {0}
CanSpell (OpenStreams range generation) = Unit {0}
CanSpell (Extend s generation pick) = are_nodes pick ≡ true
CanSpell (Seal e length) = Unit {0}
CanSpell (Trim range before to_blob) = Unit {0}
CanSpell (MultiModify list) = may_list list ≡ true

-- numbers of 64 bits, which those of a list are by their types
abbrev pub IsSourceInRange : Source → Type 0
IsSourceInRange s = (s.stream.range < 2 ^ 64) × (s.generation < 2 ^ 64)

abbrev pub IsModifyInRange : Modify → Type 0
IsModifyInRange m = (m.stream.range < 2 ^ 64) × All IsSourceInRange m.sources

abbrev pub IsListInRange : List Modify → Type 0
IsListInRange list = All IsModifyInRange list
