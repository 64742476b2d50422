-- What the blocks of a record are.
use Rattle.std.specs.Prelude.{ℕ, zero, suc, ◌+◌, ◌/◌, ◌^◌, ◌<◌, ◌≤◌, List, [], ◌∷◌, ◌++◌, length, take, drop, Option, Some, None, if◌then◌else◌}
use Rattle.std.specs.List.{flat_map, AllByRecursion}
use Rattle.blocks.specs.Record.{number}
use Rattle.wire.specs.declared.transaction.Change.{Change}
use Rattle.memtable.specs.Limits.{IsKey, IsValue, is_large}
use Rattle.commitlog.specs.declared.log_record.LogRecord.{LogRecord}
use Rattle.commitlog.specs.declared.text_cell.TextCell.{TextCell}
use Rattle.commitlog.specs.declared.text_cell.TextCell.TheVariants.{Deleted, Inline, Large}
use Rattle.commitlog.specs.Running.{running}

-- ---- large values

-- the value, if it has a block of its own
abbrev pub large : Option (List ℕ) → List (List ℕ)
large None = []
large (Some value) = if is_large value then value ∷ [] else []

abbrev pub change_values : Change → List (List ℕ)
change_values c = large c.value

abbrev pub transaction_values : List Change → List (List ℕ)
transaction_values t = flat_map change_values t

-- ---- changes as the text has them

-- n is the number of the next large value
abbrev pub text_cell : ℕ → Option (List ℕ) → TextCell
text_cell n None = Deleted
text_cell n (Some value) = if is_large value then Large n (length value) else Inline value

abbrev pub text_change : ℕ → Change → List ℕ × TextCell
text_change n c = (c.key, text_cell n c.value)

abbrev pub text_changes : ℕ → List Change → List (List ℕ × TextCell)
text_changes n t = running text_change (λ c. length (change_values c)) n t

-- large values are numbered from 0 over the whole group
abbrev pub text_transactions : ℕ → List (List Change) → List (List (List ℕ × TextCell))
text_transactions n ts = running text_changes (λ t. length (transaction_values t)) n ts

-- ---- bytes

abbrev pub cell_bytes : TextCell → List ℕ
cell_bytes Deleted = 0 ∷ []
cell_bytes (Inline value) = 1 ∷ (number 4 (length value) ++ value)
cell_bytes (Large n size) = 2 ∷ (number 1 n ++ number 4 size)

abbrev pub key_bytes : List ℕ → List ℕ
key_bytes key = number 2 (length key) ++ key

abbrev pub change_bytes : List ℕ × TextCell → List ℕ
change_bytes c = key_bytes c.0 ++ cell_bytes c.1

abbrev pub transaction_bytes : List (List ℕ × TextCell) → List ℕ
transaction_bytes t = number 1 (length t) ++ flat_map change_bytes t

abbrev pub transactions_bytes : List (List (List ℕ × TextCell)) → List ℕ
transactions_bytes ts = number 2 (length ts) ++ flat_map transaction_bytes ts

abbrev pub body : LogRecord → List ℕ
body r = number 8 r.first ++ transactions_bytes (text_transactions 0 r.transactions)

-- the length of the text, itself included, and the rest
abbrev pub text : LogRecord → List ℕ
text r = number 4 (4 + length (body r)) ++ body r

-- ---- blocks

-- n pieces of a text, each but the last of so many bytes
abbrev pub cut : ℕ → ℕ → List ℕ → List (List ℕ)
cut full zero bytes = []
cut full (suc n) bytes = take full bytes ∷ cut full n (drop full bytes)

-- how many pieces so many bytes are cut into
abbrev pub piece_count : ℕ → ℕ
piece_count size = (size + 65535) / 65536

abbrev pub pieces : List ℕ → List (List ℕ)
pieces bytes = cut 65536 (piece_count (length bytes)) bytes

-- the pieces of the text, and then the large values
abbrev pub spelling : LogRecord → List (List ℕ)
spelling r = pieces (text r) ++ flat_map transaction_values r.transactions

-- ---- what has a spelling

abbrev pub HasValue : Option (List ℕ) → Type 0
HasValue None = Unit {0}
HasValue (Some value) = IsValue value

abbrev pub IsChange : Change → Type 0
IsChange c = IsKey c.key × HasValue c.value

abbrev pub IsTransaction : List Change → Type 0
IsTransaction t = ((1 ≤ length t) × (length t ≤ 32)) × AllByRecursion IsChange t

pub record Fits (r : LogRecord) : Type 0 where
  pub numbered : (1 ≤ r.first) × (r.first + length r.transactions < 2 ^ 64)
  pub count : (1 ≤ length r.transactions) × (length r.transactions ≤ 1024)
  pub transactions : AllByRecursion IsTransaction r.transactions
  pub blocks : length (spelling r) ≤ 64
