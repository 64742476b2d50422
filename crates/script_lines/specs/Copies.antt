-- What a value word stands for: copies of a text.
use Rattle.std.specs.Prelude.{ℕ, List}
use Rattle.std.specs.List.{repeat}
use Rattle.script_lines.specs.declared.copies.Copies.{Copies}

-- their bytes
abbrev pub bytes_of : Copies → List ℕ
bytes_of copies = repeat copies.count copies.text.now
