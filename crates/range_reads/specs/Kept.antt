-- What is held of a place.
use Rattle.std.specs.Prelude.{ℕ, List}
use Rattle.range_reads.specs.declared.kept.Form.{Form}
use Rattle.range_reads.specs.declared.kept.Form.TheVariants.{Page, Value}

-- the bytes, in either form
abbrev pub bytes_of : Form → List ℕ
bytes_of (Page bytes) = bytes
bytes_of (Value bytes) = bytes
