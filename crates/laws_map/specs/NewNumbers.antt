-- A number that no range to come gets.
use Rattle.std.specs.Prelude.{◌≡◌, ℕ}
use Rattle.model_partition.specs.Cluster.{Cluster}
use Rattle.model_partition.specs.Partition.{IsSound}
use Rattle.laws_map.specs.Assigned.{IsSettled}
use Rattle.laws_map.specs.Naming.{Knowledge, Names}

-- neither of the two of a split has this number, and of nothing else is anything said
abbrev pub apart_from : ℕ → Knowledge
apart_from range =
    record {
      knows = λ n generation. Unit {0};
      assigned = λ n generation. Unit {0};
      asked = λ q n generation key. Unit {0};
      begun = λ q low high. (low ≡ range → ⊥) × (high ≡ range → ⊥);
      splits = λ n generation key low high. (low ≡ range → ⊥) × (high ≡ range → ⊥);
      numbers = λ n. Unit {0};
      merges = λ n generation. Unit {0};
    }

-- No range that is to come has this number, and no split that is told of or under way gives it to either of its two.
pub record IsTaken (range : ℕ) (c : Cluster) : Type 0 where
  pub sound : IsSound c.map
  pub settled : IsSettled c.map range
  pub names : Names (apart_from range) c
