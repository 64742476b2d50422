-- Numbers of ranges: each that anybody names has been given by the map.
use Rattle.std.specs.Prelude.{ℕ, ◌<◌}
use Rattle.model_partition.specs.Cluster.{Cluster}
use Rattle.laws_map.specs.Naming.{Knowledge, Names}

-- numbers below this one
abbrev pub below : ℕ → Knowledge
below next =
    record {
      knows = λ range generation. range < next;
      assigned = λ range generation. range < next;
      asked = λ q range generation key. Unit {0};
      begun = λ q low high. (low < next) × (high < next);
      splits = λ range generation key low high. (low < next) × (high < next);
      numbers = λ range. range < next;
      merges = λ range generation. range < next;
    }

-- The number of each range that packets, servers, splits or the manager's streams name is below the map's next one, and so are the two
-- of each split.
abbrev pub AreGiven : Cluster → Type 0
AreGiven c = Names (below c.map.next) c
