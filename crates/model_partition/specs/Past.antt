-- Pasts of ranges: what a table that is loaded again must be. All is said of the list of observations alone.
use Rattle.std.specs.Prelude.{◌≡◌, ℕ, suc, ◌-◌, ◌<◌, ◌≤◌, ◌||◌, ◌&&◌, if◌then◌else◌, ◌==◌, ◌⊎◌, List, [], ◌∷◌, ◌++◌, reverse, length, Option, Some, None, slice_get, Contains, bytes_eq, is_some}
use Rattle.wire.specs.declared.note.Note.{Note}
use Rattle.wire.specs.declared.note.Note.TheVariants.{Acked, SealedAt, Content, Seen, Began, Done, Loaded, Split, Merged}
use Rattle.wire.specs.declared.rows.Row.{Row}
use Rattle.wire.specs.declared.transaction.Change.{Change}
use Rattle.metadata.specs.declared.record.KeyRange.{KeyRange}
use Rattle.metadata.specs.Fold.{all_keys}
use Rattle.metadata.specs.Keys.{within}

abbrev pub Bytes : Type 0
Bytes = List ℕ

-- ---- tables and transactions

-- changes, applied from left to right
abbrev pub Transaction : Type 0
Transaction = List Change

-- what is stored under each key
abbrev pub Table : Type 0
Table = Bytes → Option Bytes

abbrev pub empty_table : Table
empty_table key = None

-- the key gets the value, or is deleted where there is none
abbrev pub after_change : Change → Table → Table
after_change change table = λ key. if bytes_eq key change.key then change.value else table key

abbrev pub after_transaction : Transaction → Table → Table
after_transaction [] table = table
after_transaction (change ∷ changes) table = after_transaction changes (after_change change table)

-- the table after each transaction of a line, in order
abbrev pub after_line : List Transaction → Table → Table
after_line [] table = table
after_line (t ∷ ts) table = after_line ts (after_transaction t table)

-- rows as a table: the first row of a key counts
abbrev pub stored : List Row → Table
stored [] key = None
stored (row ∷ rows) key = if bytes_eq key row.key then Some row.value else stored rows key

-- the number of the range that is there from the start, which no split or merge made
abbrev pub first_range : ℕ
first_range = 1

-- ---- families of ranges, each read off the observations from the newest back

-- the range, the one that a split made it of, the one that a split made that of, and so on
abbrev pub owners_back : List Note → ℕ → List ℕ
owners_back [] r = r ∷ []
owners_back (Split b c d key ∷ h) r = if (r == c) || (r == d) then r ∷ owners_back h b else owners_back h r
owners_back (o ∷ h) r = owners_back h r

abbrev pub owners : List Note → ℕ → List ℕ
owners h r = owners_back (reverse h) r

-- the owner that no split made
abbrev pub eldest_back : List Note → ℕ → ℕ
eldest_back [] r = r
eldest_back (Split b c d key ∷ h) r = if (r == c) || (r == d) then eldest_back h b else eldest_back h r
eldest_back (o ∷ h) r = eldest_back h r

abbrev pub eldest : List Note → ℕ → ℕ
eldest h r = eldest_back (reverse h) r

-- the range and all its ancestors, through splits and merges
abbrev pub kin_back : List Note → ℕ → List ℕ
kin_back [] r = r ∷ []
kin_back (Split b c d key ∷ h) r = if (r == c) || (r == d) then r ∷ kin_back h b else kin_back h r
kin_back (Merged c d e ∷ h) r = if r == e then r ∷ kin_back h c ++ kin_back h d else kin_back h r
kin_back (o ∷ h) r = kin_back h r

abbrev pub kin : List Note → ℕ → List ℕ
kin h r = kin_back (reverse h) r

abbrev pub keys_back : List Note → ℕ → KeyRange
keys_back [] r = all_keys
keys_back (Split b c d key ∷ h) r =
    if r == c then record { low = (keys_back h b).low; high = Some key }
    else if r == d then record { low = key; high = (keys_back h b).high }
    else keys_back h r
keys_back (Merged c d e ∷ h) r = if r == e then record { low = (keys_back h c).low; high = (keys_back h d).high } else keys_back h r
keys_back (o ∷ h) r = keys_back h r

abbrev pub keys_of : List Note → ℕ → KeyRange
keys_of h r = keys_back (reverse h) r

-- ---- pasts

-- A start, which is nothing or a pair of pasts (of the two ranges that are named), and a line of transactions, numbered
-- from 1.
pub data Past : Type 0 where
  From_nothing : (line : List Transaction) → Past
  From_pair : (left : ℕ) (left_past : Past) (right : ℕ) (right_past : Past) (line : List Transaction) → Past

-- t is the s-th of the line, from 1
abbrev pub IsMember : List Transaction → ℕ → Transaction → Type 0
IsMember line s t = (1 ≤ s) × (slice_get line (s - 1) ≡ Some t)

-- each of the line began before, under one of these ranges and a generation below g
abbrev pub AllBegan : List Note → List ℕ → ℕ → List Transaction → Type 0
AllBegan before ranges g line = (s : ℕ) (t : Transaction) → IsMember line s t →
    (r' : ℕ) × (g' : ℕ) × Contains ranges r' × (g' < g) × Contains before (Began r' g' s t)

-- the past is of this range and generation: all of it began before, and its start is that of the range's family
abbrev pub IsPastOf : List Note → List Note → ℕ → ℕ → Past → Type 0
IsPastOf h before g r (From_nothing line) = AllBegan before (owners h r) g line × (eldest h r ≡ first_range)
IsPastOf h before g r (From_pair c p d q line) =
    AllBegan before (owners h r) g line × Contains h (Merged c d (eldest h r)) × IsPastOf h before g c p × IsPastOf h before g d q

-- what began under that range, generation and number
abbrev pub begun : List Note → ℕ → ℕ → ℕ → List Transaction
begun [] r g s = []
begun (Began r' g' s' t ∷ h) r g s = if (r == r') && ((g == g') && (s == s')) then t ∷ begun h r g s else begun h r g s
begun (o ∷ h) r g s = begun h r g s

-- each that was acknowledged, under one of these ranges and a generation below g, is in the line: the one that began
-- under that number
abbrev pub AllDone : List Note → List ℕ → ℕ → List Transaction → Type 0
AllDone h ranges g line = (r' g' s : ℕ) → Contains ranges r' → g' < g → Contains h (Done r' g' s) →
    (t : Transaction) × (begun h r' g' s ≡ t ∷ []) × IsMember line s t

abbrev pub IsComplete : List Note → ℕ → ℕ → Past → Type 0
IsComplete h g r (From_nothing line) = AllDone h (owners h r) g line
IsComplete h g r (From_pair c p d q line) = AllDone h (owners h r) g line × IsComplete h g c p × IsComplete h g d q

-- what lies within the keys
abbrev pub kept : KeyRange → Table → Table
kept keys table key = if within keys key then table key else None

abbrev pub union : Table → Table → Table
union a b key = if is_some (a key) then a key else b key

abbrev pub table_of : List Note → ℕ → Past → Table
table_of h r (From_nothing line) = kept (keys_of h r) (after_line line empty_table)
table_of h r (From_pair c p d q line) = kept (keys_of h r) (after_line line (union (table_of h c p) (table_of h d q)))

abbrev pub IsPrefixOf : {A : Type 0} → List A → List A → Type 0
IsPrefixOf {A} xs ys = (rest : List A) × (xs ++ rest ≡ ys)

abbrev pub line_of : Past → List Transaction
line_of (From_nothing line) = line
line_of (From_pair c p d q line) = line

-- the past with an empty line
abbrev pub start_of : Past → Past
start_of (From_nothing line) = From_nothing []
start_of (From_pair c p d q line) = From_pair c p d q []

-- the same start and a line that begins the other's, or a beginning of one of the pasts in its start
abbrev pub Begins : Past → Past → Type 0
Begins a (From_nothing line) = (start_of a ≡ From_nothing []) × IsPrefixOf (line_of a) line
Begins a (From_pair c p d q line) =
    ((start_of a ≡ From_pair c p d q []) × IsPrefixOf (line_of a) line) ⊎ (Begins a p ⊎ Begins a q)

-- ---- what is owed to those who see the observations

-- A loaded table is that of a complete past of its range and generation, and its next number the one after that past's line.
-- Of two loads of one range, or of a range and an ancestor, the past of the lower generation begins that of the higher, and
-- nothing is loaded twice under one.
pub record Replays (h : List Note) : Type 0 where
  -- the past of each range and generation that was loaded
  pub past : ℕ → ℕ → Past
  pub of : (before after : List Note) (r g : ℕ) (rows : List Row) (next : ℕ) →
      h ≡ before ++ Loaded r g rows next ∷ after → IsPastOf h before g r (past r g)
  pub complete : (r g : ℕ) (rows : List Row) (next : ℕ) → Contains h (Loaded r g rows next) → IsComplete h g r (past r g)
  pub table : (r g : ℕ) (rows : List Row) (next : ℕ) → Contains h (Loaded r g rows next) →
      (key : Bytes) → stored rows key ≡ table_of h r (past r g) key
  pub number : (r g : ℕ) (rows : List Row) (next : ℕ) → Contains h (Loaded r g rows next) → next ≡ suc (length (line_of (past r g)))
  pub in_order : (r g r' g' : ℕ) (rows rows' : List Row) (next next' : ℕ) →
      Contains h (Loaded r g rows next) → Contains h (Loaded r' g' rows' next') →
      g < g' → Contains (kin h r') r ⊎ Contains (kin h r) r' → Begins (past r g) (past r' g')
  pub once : (before after : List Note) (r g : ℕ) (rows rows' : List Row) (next next' : ℕ) →
      h ≡ before ++ Loaded r g rows next ∷ after → Contains after (Loaded r g rows' next') → ⊥

-- the observations of tables, without those of extents
abbrev pub table_notes : List Note → List Note
table_notes [] = []
table_notes (Acked e o group ∷ h) = table_notes h
table_notes (SealedAt e l ∷ h) = table_notes h
table_notes (Content e n groups ∷ h) = table_notes h
table_notes (Seen e n o bytes ∷ h) = table_notes h
table_notes (o ∷ h) = o ∷ table_notes h
