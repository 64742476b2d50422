-- Records whose text is of bytes.
use Rattle.std.specs.Prelude.{◌<◌, ℕ}
use Rattle.std.specs.List.{All}
use Rattle.block_types.specs.declared.record.Record.{Record}
use Rattle.block_types.specs.declared.record.Record.TheVariants.{Manage}

abbrev pub IsByte : ℕ → Type 0
IsByte byte = byte < 256

-- what stands after the kind of a manage record is bytes, as in a file
abbrev pub HasBytes : Record → Type 0
HasBytes (Manage text) = All IsByte text
HasBytes r = Unit {0}
