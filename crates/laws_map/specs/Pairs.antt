-- Splits that are pending: while a range keeps its generation, the pair that its split was told of is the one that is pending.
use Rattle.std.specs.Prelude.{◌≡◌, ◌⊎◌, ◌<◌, ℕ, List, Some, Contains}
use Rattle.wire.specs.declared.actor.ReqNo.{ReqNo}
use Rattle.wire.specs.declared.packet.Packet.{Packet}
use Rattle.model_partition.specs.declared.pending.Pending.TheVariants as pendings
use Rattle.model_partition.specs.declared.range_entry.RangeEntry.{RangeEntry}
use Rattle.model_partition.specs.Map.{MapState}
use Rattle.model_partition.specs.Partition.{uses_pending}
use Rattle.model_partition.specs.Cluster.{Cluster}
use Rattle.laws_map.specs.Naming.{Each, Knowledge, Names}
use Rattle.laws_map.specs.Generations.{HasAsked, AreOnce}

-- ---- what is asked of the map

-- all who asked to split a range under one generation asked for one key
abbrev pub AskOneKey : List Packet → Type 0
AskOneKey asks =
    (q w : ReqNo) (range generation : ℕ) (key other : List ℕ) → HasAsked asks q range generation key → HasAsked asks w range generation other → key ≡ other

-- ---- what is pending

-- An entry that has the range under this generation has this split pending; under a lower one no entry has it, and none is to have it.
abbrev pub EntryPairs : ℕ → ℕ → List ℕ → ℕ → ℕ → RangeEntry → Type 0
EntryPairs range generation key low high r =
    (uses_pending range r.pending ≡ 0)
    × (r.range ≡ range → (generation < r.generation) ⊎ ((r.generation ≡ generation) × (r.pending ≡ Some (pendings.Split key low high))))

-- the split of a range under a generation is pending, for as long as the range is there and has the generation
pub record IsPending (m : MapState) (range generation : ℕ) (key : List ℕ) (low high : ℕ) : Type 0 where
  pub given : range < m.next
  pub entries : Each (EntryPairs range generation key low high) m.ranges

-- somebody asked for the split, and it is pending so
pub record IsPaired (m : MapState) (asks : List Packet) (range generation : ℕ) (key : List ℕ) (low high : ℕ) : Type 0 where
  pub number : ReqNo
  pub asked : HasAsked asks number range generation key
  pub pending : IsPending m range generation key low high

-- these numbers were told to who asked under this number, and the split is pending so
pub record IsPairTold (m : MapState) (asks : List Packet) (q : ReqNo) (low high : ℕ) : Type 0 where
  pub range : ℕ
  pub generation : ℕ
  pub key : List ℕ
  pub asked : HasAsked asks q range generation key
  pub pending : IsPending m range generation key low high

-- of each split that a server has, and of each that was told, the pair is pending; and nothing is merged, since no server asks for that
abbrev pub paired : MapState → List Packet → Knowledge
paired m asks =
    record {
      knows = λ range generation. Unit {0};
      assigned = λ range generation. Unit {0};
      asked = HasAsked asks;
      begun = IsPairTold m asks;
      splits = IsPaired m asks;
      numbers = λ range. Unit {0};
      merges = λ range generation. ⊥;
    }

pub record ArePaired (c : Cluster) : Type 0 where
  pub asks : List Packet
  pub sent : (p : Packet) → Contains asks p → Contains c.stream_layer.post p
  pub once : AreOnce asks
  pub names : Names (paired c.map asks) c
