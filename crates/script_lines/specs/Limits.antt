-- What a word of a script may ask for.
use Rattle.std.specs.Prelude.{ℕ}

-- the most copies
abbrev pub most_copies : ℕ
most_copies = 16777216
