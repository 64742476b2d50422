-- Ranges that were assigned: none of them is to come.
use Rattle.std.specs.Prelude.{◌≡◌, ◌<◌, ℕ}
use Rattle.model_partition.specs.declared.range_entry.RangeEntry.{RangeEntry}
use Rattle.model_partition.specs.Map.{MapState}
use Rattle.model_partition.specs.Partition.{uses_pending}
use Rattle.model_partition.specs.Cluster.{Cluster}
use Rattle.laws_map.specs.Naming.{Each, Knowledge, Names}

-- no entry is to become a range of this number
abbrev pub IsNone : ℕ → RangeEntry → Type 0
IsNone range r = uses_pending range r.pending ≡ 0

-- the number has been given, and is not that of a range to come
pub record IsSettled (m : MapState) (range : ℕ) : Type 0 where
  pub given : range < m.next
  pub entries : Each (IsNone range) m.ranges

-- of what was assigned it is so, and of nothing else is anything said
abbrev pub assigning : (ℕ → Type 0) → Knowledge
assigning assigned =
    record {
      knows = λ range generation. Unit {0};
      assigned = λ range generation. assigned range;
      asked = λ q range generation key. Unit {0};
      begun = λ q low high. Unit {0};
      splits = λ range generation key low high. Unit {0};
      numbers = λ range. Unit {0};
      merges = λ range generation. Unit {0};
    }

-- No range that was assigned, or that a server holds, is one that the map is only to have.
abbrev pub AreSettled : Cluster → Type 0
AreSettled c = Names (assigning (IsSettled c.map)) c

-- The range was never assigned, and no server holds it.
abbrev pub IsUnassigned : ℕ → Cluster → Type 0
IsUnassigned range c = Names (assigning (λ n. n ≡ range → ⊥)) c
