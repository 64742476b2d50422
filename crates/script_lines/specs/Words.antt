-- What the single words of a line spell.
use Rattle.std.specs.Prelude.{◌≡◌, ◌<◌, ◌++◌, ◌≢◌, ℕ, Bool, true, false, List, Option, Some, None, MatchOption, codes, length, min, slice_index}
use Rattle.std.specs.Str.Parse.{digits_value}
use Rattle.wire.specs.declared.actor.ActorId.{ActorId}
use Rattle.wire.specs.declared.actor.ActorId.TheVariants as actors
use Rattle.wire.specs.declared.streams.StreamKind.{StreamKind}
use Rattle.wire.specs.declared.streams.StreamKind.TheVariants as kinds
use Rattle.wire.specs.declared.transaction.Change.{Change}
use Rattle.script_lines.specs.Values.{IsNumber, IsValue}

-- a number in digits
abbrev pub Denotes : ℕ → List ℕ → Type 0
Denotes n word = IsNumber word × (n ≡ digits_value 10 word)

-- a number in digits, where those above the most count as the most
abbrev pub DenotesUpTo : ℕ → ℕ → List ℕ → Type 0
DenotesUpTo most n word = IsNumber word × (n ≡ min (digits_value 10 word) most)

-- a node, and a server; 255 stands for all greater numbers, which no setup has
abbrev pub IsNode : ℕ → List ℕ → Type 0
IsNode = DenotesUpTo 255

abbrev pub IsServer : ℕ → List ℕ → Type 0
IsServer = DenotesUpTo 255

-- a place in an extent, or how many bytes of it; the greatest stands for all beyond it
abbrev pub IsPlace : ℕ → List ℕ → Type 0
IsPlace = DenotesUpTo 4294967295

abbrev pub kind_number : StreamKind → ℕ
kind_number kinds.Metadata = 0
kind_number kinds.Log = 1
kind_number kinds.RowData = 2
kind_number kinds.BlobData = 3

abbrev pub IsKind : StreamKind → List ℕ → Type 0
IsKind kind = Denotes (kind_number kind)

-- the last extent of a stream, if it has any
abbrev pub IsLast : Option ℕ → List ℕ → Type 0
IsLast None word = word ≡ codes "none"
IsLast (Some extent) word = Denotes extent word

-- whether the bytes of a device call are kept
abbrev pub IsFate : Bool → List ℕ → Type 0
IsFate true word = word ≡ codes "keep"
IsFate false word = word ≡ codes "drop"

-- whether a checkpoint combines the indexes
abbrev pub IsManner : Bool → List ℕ → Type 0
IsManner true word = word ≡ codes "combine"
IsManner false word = word ≡ codes "plain"

-- actors are `n1` and on, `s1` and on, `m` the manager, `p` the map
abbrev pub IsActor : ActorId → List ℕ → Type 0
IsActor (actors.Node n) word = (digits : List ℕ) × (word ≡ codes "n" ++ digits) × IsNode n digits × (0 < n)
IsActor (actors.Server n) word = (digits : List ℕ) × (word ≡ codes "s" ++ digits) × IsServer n digits × (0 < n)
IsActor actors.Manager word = word ≡ codes "m"
IsActor actors.Map word = word ≡ codes "p"
IsActor (actors.User user) word = ⊥

-- a key is its bytes
abbrev pub IsKey : List ℕ → List ℕ → Type 0
IsKey key word = word ≡ key

-- `-KEY` deletes a key, and `+KEY=WORD` puts the value of the word under it; such a key has no `=` (61)
abbrev pub IsChange : Change → List ℕ → Type 0
IsChange change word = MatchOption change.value (word ≡ codes "-" ++ change.key)
    (λ value. (text : List ℕ) × (word ≡ codes "+" ++ (change.key ++ (codes "=" ++ text)))
    × ((i : ℕ) → i < length change.key → slice_index change.key i ≢ 61) × IsValue text value)
