-- What stands in no list any more, by tests.
use Rattle.std.specs.Prelude.{ℕ, Bool, ◌==◌, List}
use Rattle.std.specs.List.{list_any}
use Rattle.streams.specs.Table.{Entry}

-- whether an extent is one of these
abbrev pub has : List ℕ → ℕ → Bool
has es e = list_any (λ x. x == e) es

-- whether it has left a stream
abbrev pub has_gone : List Entry → ℕ → Bool
has_gone entries e = list_any (λ x. has x.stream.gone e) entries

-- whether it stands in a stream
abbrev pub is_listed : List Entry → ℕ → Bool
is_listed entries e = list_any (λ x. has x.stream.extents e) entries
