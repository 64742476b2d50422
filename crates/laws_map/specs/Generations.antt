-- Generations of ranges: none that anybody names is above that of the range's entry in the map.
use Rattle.std.specs.Prelude.{◌≡◌, ◌⊎◌, ◌≤◌, ◌<◌, ℕ, List, Contains}
use Rattle.wire.specs.declared.actor.ReqNo.{ReqNo}
use Rattle.wire.specs.declared.body.MapBody.TheVariants as maps
use Rattle.wire.specs.declared.body.Body.TheVariants as bodies
use Rattle.wire.specs.declared.packet.Packet.{Packet}
use Rattle.model_partition.specs.declared.range_entry.RangeEntry.{RangeEntry}
use Rattle.model_partition.specs.Map.{MapState}
use Rattle.model_partition.specs.Partition.{uses_pending, uses}
use Rattle.model_partition.specs.Cluster.{Cluster}
use Rattle.laws_map.specs.Naming.{Each, Knowledge, Names}

-- An entry that has the range has no lower generation, nor has one where the range is pending, of those that it is to become.
abbrev pub EntryKnows : ℕ → ℕ → RangeEntry → Type 0
EntryKnows range generation r = (r.range ≡ range → generation ≤ r.generation) × ((uses_pending range r.pending ≡ 0) ⊎ (generation ≤ r.generation))

-- the number has been given, and no entry is behind the generation
pub record IsWithin (m : MapState) (range generation : ℕ) : Type 0 where
  pub given : range < m.next
  pub entries : Each (EntryKnows range generation) m.ranges

-- somebody asked under this number to split the range, under this generation, at this key
pub record HasAsked (post : List Packet) (q : ReqNo) (range generation : ℕ) (key : List ℕ) : Type 0 where
  pub packet : Packet
  pub sent : Contains post packet
  pub is : packet.body ≡ bodies.Map (maps.BeginSplit range generation key q)

-- These numbers were told to somebody who asked under this number, and each is known under the generation of the split.
pub record IsBegun (knows : ℕ → ℕ → Type 0) (asks : List Packet) (q : ReqNo) (low high : ℕ) : Type 0 where
  pub range : ℕ
  pub generation : ℕ
  pub key : List ℕ
  pub asked : HasAsked asks q range generation key
  pub low_known : knows low generation
  pub high_known : knows high generation

-- Where these packets asked for splits: the two numbers of a split are known under its generation, and are those that were told to who asked.
abbrev pub knowing : (ℕ → ℕ → Type 0) → (ℕ → Type 0) → List Packet → Knowledge
knowing knows numbers asks =
    record {
      knows = knows;
      assigned = knows;
      asked = HasAsked asks;
      begun = IsBegun knows asks;
      splits = λ range generation key low high. knows low generation × knows high generation;
      numbers = numbers;
      merges = knows;
    }

-- what a map makes known, and those who asked it to split ranges
abbrev pub within : MapState → List Packet → Knowledge
within m asks = knowing (IsWithin m) (λ range. range < m.next) asks

-- each number under which a split was asked for is that of one split
abbrev pub AreOnce : List Packet → Type 0
AreOnce asks =
    (q : ReqNo) (range generation : ℕ) (key : List ℕ) (n g : ℕ) (k : List ℕ) → HasAsked asks q range generation key → HasAsked asks q n g k →
    (range ≡ n) × (generation ≡ g) × (key ≡ k)

-- Of each range that the map has, no packet, server, split or stream names a generation above that of its entry; and of the two that a split
-- is to make none above that of the range which is split. What was told for a split was told for the one that was asked for under its number.
pub record AreWithinMap (c : Cluster) : Type 0 where
  pub asks : List Packet
  pub sent : (p : Packet) → Contains asks p → Contains c.stream_layer.post p
  pub once : AreOnce asks
  pub names : Names (within c.map asks) c

-- ---- ranges that are gone

-- the number has been given, and the map has neither such a range nor one to come
abbrev pub IsGone : ℕ → MapState → Type 0
IsGone range m = (range < m.next) × (uses range m.ranges ≡ 0)

-- no generation of this range above the bound
abbrev pub upto : ℕ → ℕ → List Packet → Knowledge
upto range bound asks = knowing (λ n generation. n ≡ range → generation ≤ bound) (λ n. Unit {0}) asks

-- No packet, server, split or stream names a generation of this range above the bound.
pub record IsUpTo (range bound : ℕ) (c : Cluster) : Type 0 where
  pub asks : List Packet
  pub sent : (p : Packet) → Contains asks p → Contains c.stream_layer.post p
  pub once : AreOnce asks
  pub names : Names (upto range bound asks) c
