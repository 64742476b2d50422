-- What a record's bytes are, and which records have bytes.
use Rattle.std.specs.Prelude.{ℕ, ◌^◌, ◌≤◌, ◌<◌, Bool, List, ◌++◌, length, Option, Some, None, if◌then◌else◌}
use Rattle.std.specs.List.{flat_map, AllByRecursion}
use Rattle.memtable.specs.declared.cell.Place.{Place}
use Rattle.streams.specs.declared.table.Position.{Position}
use Rattle.blocks.specs.Record.{number}
use Rattle.metadata.specs.declared.record.KeyRange.{KeyRange}
use Rattle.metadata.specs.declared.record.IndexRange.{IndexRange}
use Rattle.metadata.specs.declared.record.Region.{Region}
use Rattle.metadata.specs.declared.record.MetaItem.{MetaItem}
use Rattle.metadata.specs.declared.record.MetaItem.TheVariants.{Ranges, Checkpoint, Regions, SplitStatus}
use Rattle.metadata.specs.declared.record.MetaRecord.{MetaRecord}

-- a key
abbrev pub text : List ℕ → List ℕ
text key = number 2 (length key) ++ key

-- whether there is a value, and the value or what stands in its place
abbrev pub optional : {A : Type 0} → List ℕ → (A → List ℕ) → Option A → List ℕ
optional nothing f None = number 1 0 ++ nothing
optional nothing f (Some x) = number 1 1 ++ f x

-- a key of no bytes stands for a high key that is not there
abbrev pub high : Option (List ℕ) → List ℕ
high = optional (number 2 0) text

abbrev pub keys : KeyRange → List ℕ
keys k = text k.low ++ high k.high

abbrev pub place : Place → List ℕ
place p = number 8 p.extent ++ (number 4 p.offset ++ number 4 p.length)

abbrev pub position : Position → List ℕ
position p = number 8 p.index ++ number 4 p.offset

abbrev pub flag : Bool → List ℕ
flag b = number 1 (if b then 1 else 0)

abbrev pub index : IndexRange → List ℕ
index i = place i.place ++ keys i.keys

-- whether the region is closed, and the index of its end
abbrev pub end : Option ℕ → List ℕ
end = optional (number 8 0) (number 8)

abbrev pub region : Region → List ℕ
region r = position r.start ++ (end r.end ++ (number 8 r.next ++ keys r.keys))

abbrev pub counted : {A : Type 0} → (A → List ℕ) → List A → List ℕ
counted f xs = number 1 (length xs) ++ flat_map f xs

-- a kind and its fields
abbrev pub item : MetaItem → List ℕ
item (Ranges k) = number 1 1 ++ keys k
item (Checkpoint combine at start next) = number 1 2 ++ (flag combine ++ (place at ++ (position start ++ number 8 next)))
item (Regions indexes regions) = number 1 3 ++ (counted index indexes ++ counted region regions)
item (SplitStatus low high key) = number 1 4 ++ (number 8 low ++ (number 8 high ++ text key))

abbrev pub spelling : MetaRecord → List ℕ
spelling r = number 8 r.number ++ item r.item

-- ---- fields that are in range

abbrev pub IfThere : {A : Type 0} → (A → Type 0) → Option A → Type 0
IfThere P None = Unit {0}
IfThere P (Some x) = P x

abbrev pub IsKey : List ℕ → Type 0
IsKey key = (1 ≤ length key) × (length key ≤ 256)

abbrev pub IsHigh : Option (List ℕ) → Type 0
IsHigh = IfThere IsKey

abbrev pub IsKeyRange : KeyRange → Type 0
IsKeyRange k = (length k.low ≤ 256) × IsHigh k.high

abbrev pub IsPlace : Place → Type 0
IsPlace p = (p.extent < 2 ^ 64) × (p.offset < 2 ^ 32) × (p.length < 2 ^ 32)

abbrev pub IsPosition : Position → Type 0
IsPosition p = (p.index < 2 ^ 64) × (p.offset < 2 ^ 32)

abbrev pub IsIndex : IndexRange → Type 0
IsIndex i = IsPlace i.place × IsKeyRange i.keys

abbrev pub IsEnd : Option ℕ → Type 0
IsEnd = IfThere (λ upto. upto < 2 ^ 64)

-- numbers of transactions begin at 1
abbrev pub IsNext : ℕ → Type 0
IsNext next = (1 ≤ next) × (next < 2 ^ 64)

abbrev pub IsRegion : Region → Type 0
IsRegion r = IsPosition r.start × IsEnd r.end × IsNext r.next × IsKeyRange r.keys

abbrev pub IsItem : MetaItem → Type 0
IsItem (Ranges k) = IsKeyRange k
IsItem (Checkpoint combine at start next) = IsPlace at × IsPosition start × IsNext next
IsItem (Regions indexes regions) =
    (length indexes < 2 ^ 8) × AllByRecursion IsIndex indexes × (length regions < 2 ^ 8) × AllByRecursion IsRegion regions
IsItem (SplitStatus low high key) = (low < 2 ^ 64) × (high < 2 ^ 64) × IsKey key

-- a record has a spelling where its fields are in range, and all of it is one block
abbrev pub Fits : MetaRecord → Type 0
Fits r = IsNext r.number × IsItem r.item × (length (spelling r) ≤ 65536)
