-- Lines of bytes.
use Rattle.std.specs.Prelude.{◌≢◌, ℕ, List, All}
use Rattle.std.specs.Io.{IsEmptyOrEndsWith}

-- no bytes, or bytes that end with a newline: each line has its end
abbrev pub IsWholeLines : List ℕ → Type 0
IsWholeLines bytes = IsEmptyOrEndsWith bytes 10

-- no newline: the beginning of a line, or nothing
abbrev pub HasNoLineEnd : List ℕ → Type 0
HasNoLineEnd bytes = All (λ byte. byte ≢ 10) bytes
