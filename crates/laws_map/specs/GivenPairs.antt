-- Pairs of numbers that the map gave to splits: each number is of one pair, which is of one range, under one generation; and no range of such a
-- number is assigned before somebody asked to complete the split.
use Rattle.std.specs.Prelude.{◌≡◌, ◌⊎◌, ◌<◌, ℕ, List, [], ◌∷◌, Some, Contains}
use Rattle.wire.specs.declared.actor.ReqNo.{ReqNo}
use Rattle.wire.specs.declared.body.MapBody.TheVariants as maps
use Rattle.wire.specs.declared.body.Body.TheVariants as bodies
use Rattle.wire.specs.declared.packet.Packet.{Packet}
use Rattle.model_partition.specs.declared.pending.Pending.TheVariants as pendings
use Rattle.model_partition.specs.declared.range_entry.RangeEntry.{RangeEntry}
use Rattle.model_partition.specs.Map.{MapState}
use Rattle.model_partition.specs.Cluster.{Cluster}
use Rattle.laws_map.specs.Naming.{Each, Knowledge, Names}
use Rattle.laws_map.specs.Generations.{HasAsked}

-- The two numbers that were given to the split of a range, under a generation, at a key.
pub record GivenPair : Type 0 where
  pub range : ℕ
  pub generation : ℕ
  pub key : List ℕ
  pub low : ℕ
  pub high : ℕ

abbrev pub given_to : (range generation : ℕ) → List ℕ → (low high : ℕ) → GivenPair
given_to range generation key low high = record { range = range; generation = generation; key = key; low = low; high = high }

abbrev pub HasNumber : ℕ → GivenPair → Type 0
HasNumber n pair = (pair.low ≡ n) ⊎ (pair.high ≡ n)

-- The numbers of each pair are below this one, and below those of the pairs that were given later, and above the first range's; the newest comes first.
abbrev pub AreGivenBelow : ℕ → List GivenPair → Type 0
AreGivenBelow next [] = 1 < next
AreGivenBelow next (pair ∷ older) = (pair.low < pair.high) × (pair.high < next) × AreGivenBelow pair.low older

-- somebody asked to complete the split of the range, under this generation
pub record AsksToComplete (post : List Packet) (range generation : ℕ) : Type 0 where
  pub packet : Packet
  pub request : ReqNo
  pub sent : Contains post packet
  pub is : packet.body ≡ bodies.Map (maps.CompleteSplit range generation request)

-- where a number is of a pair, somebody asked to complete its split
abbrev pub IsCompleted : List GivenPair → List Packet → ℕ → Type 0
IsCompleted given post n = (pair : GivenPair) → Contains given pair → HasNumber n pair → AsksToComplete post pair.range pair.generation

-- an entry of the map has a number that was given; if that is of a pair, its split was to be completed; and the pair that is pending was given to it
pub record EntryGives (given : List GivenPair) (post : List Packet) (next : ℕ) (r : RangeEntry) : Type 0 where
  pub number : r.range < next
  pub completed : IsCompleted given post r.range
  pub pending : (key : List ℕ) (low high : ℕ) → r.pending ≡ Some (pendings.Split key low high) → Contains given (given_to r.range r.generation key low high)

pub record MapGives (given : List GivenPair) (post : List Packet) (m : MapState) : Type 0 where
  pub below : AreGivenBelow m.next given
  pub entries : Each (EntryGives given post m.next) m.ranges

-- a pair was told to who asked for its split under this number
pub record IsToldPair (given : List GivenPair) (asks : List Packet) (q : ReqNo) (low high : ℕ) : Type 0 where
  pub range : ℕ
  pub generation : ℕ
  pub key : List ℕ
  pub among : Contains given (given_to range generation key low high)
  pub asked : HasAsked asks q range generation key

-- each split has a pair that was given to it, and what was assigned is no range of a pair whose split nobody asked to complete
abbrev pub giving : List GivenPair → List Packet → List Packet → ℕ → Knowledge
giving given asks post next =
    record {
      knows = λ range generation. Unit {0};
      assigned = λ range generation. (range < next) × IsCompleted given post range;
      asked = HasAsked asks;
      begun = IsToldPair given asks;
      splits = λ range generation key low high. Contains given (given_to range generation key low high) × ((q : ReqNo) × HasAsked asks q range generation key);
      numbers = λ range. Unit {0};
      merges = λ range generation. ⊥;
    }

-- so it is of a cluster
pub record GivesOnce (c : Cluster) : Type 0 where
  pub asks : List Packet
  pub given : List GivenPair
  pub map : MapGives given c.stream_layer.post c.map
  pub names : Names (giving given asks c.stream_layer.post c.map.next) c
