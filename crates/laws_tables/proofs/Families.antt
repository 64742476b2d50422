-- Worked families of ranges, by computing: a split, and a merge of its two ranges.
use Rattle.std.proofs.Common.{◌≡◌, List, [], ◌∷◌, refl, Some, None, map, inl, inr}
use Rattle.wire.specs.declared.note.Note.{Note}
use Rattle.wire.specs.declared.note.Note.TheVariants.{Began, Done, Loaded, Split, Merged}
use Rattle.wire.specs.declared.rows.Row.{Row}
use Rattle.wire.specs.declared.transaction.Change.{Change}
use Rattle.model_partition.specs.Past.{Bytes, Transaction, Past, From_nothing, From_pair, owners, kin, table_of, begun, Begins}

abbrev put : Bytes → Bytes → Change
put key value = record { key = key; value = Some value }

abbrev delete : Bytes → Change
delete key = record { key = key; value = None }

abbrev row : Bytes → Bytes → Row
row key value = record { key = key; value = value }

t1 : Transaction
t1 = put (97 ∷ []) (49 ∷ []) ∷ put (122 ∷ []) (50 ∷ []) ∷ []

t2 : Transaction
t2 = put (97 ∷ []) (51 ∷ []) ∷ delete (122 ∷ []) ∷ []

c3 : Transaction
c3 = put (97 ∷ []) (53 ∷ []) ∷ []

d3 : Transaction
d3 = put (120 ∷ []) (55 ∷ []) ∷ []

c4 : Transaction
c4 = put (98 ∷ []) (54 ∷ []) ∷ []

d4 : Transaction
d4 = put (121 ∷ []) (56 ∷ []) ∷ []

rows4 : List Row
rows4 = row (97 ∷ []) (53 ∷ []) ∷ row (98 ∷ []) (54 ∷ []) ∷ row (120 ∷ []) (55 ∷ []) ∷ row (121 ∷ []) (56 ∷ []) ∷ []

-- a split and a merge
worked : List Note
worked = Loaded 1 1 [] 1 ∷ Began 1 1 1 t1 ∷ Done 1 1 1 ∷ Began 1 1 2 t2 ∷ Done 1 1 2 ∷ Split 1 2 3 (109 ∷ [])
    ∷ Loaded 2 2 (row (97 ∷ []) (51 ∷ []) ∷ []) 3 ∷ Loaded 3 2 [] 3 ∷ Began 2 2 3 c3 ∷ Done 2 2 3 ∷ Began 3 2 3 d3 ∷ Done 3 2 3
    ∷ Began 2 2 4 c4 ∷ Began 3 2 4 d4 ∷ Done 2 2 4 ∷ Done 3 2 4 ∷ Merged 2 3 4 ∷ Loaded 4 3 rows4 1 ∷ []

past4 : Past
past4 = From_pair 2 (From_nothing (t1 ∷ t2 ∷ c3 ∷ c4 ∷ [])) 3 (From_nothing (t1 ∷ t2 ∷ d3 ∷ d4 ∷ [])) []

past2 : Past
past2 = From_nothing (t1 ∷ t2 ∷ [])

owners4 : owners worked 4 ≡ 4 ∷ []
unfolding worked
owners4 = refl

owners2 : owners worked 2 ≡ 2 ∷ 1 ∷ []
unfolding worked
owners2 = refl

kin4 : kin worked 4 ≡ 4 ∷ 2 ∷ 1 ∷ 3 ∷ 1 ∷ []
unfolding worked
kin4 = refl

table4 : map (table_of worked 4 past4) ((97 ∷ []) ∷ (98 ∷ []) ∷ (120 ∷ []) ∷ (121 ∷ []) ∷ (122 ∷ []) ∷ [])
    ≡ Some (53 ∷ []) ∷ Some (54 ∷ []) ∷ Some (55 ∷ []) ∷ Some (56 ∷ []) ∷ None ∷ []
unfolding worked past4 t1 t2 c3 c4 d3 d4
table4 = refl

-- a child's table has only its own keys
table2 : map (table_of worked 2 past2) ((97 ∷ []) ∷ (122 ∷ []) ∷ []) ≡ Some (51 ∷ []) ∷ None ∷ []
unfolding worked past2 t1 t2
table2 = refl

before_in_pair : Begins past2 past4
unfolding past2 past4
before_in_pair = inr (inl (refl, (c3 ∷ c4 ∷ [], refl)))

began2 : begun worked 2 2 4 ≡ c4 ∷ []
unfolding worked
began2 = refl
