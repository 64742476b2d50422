-- A node.
use Rattle.std.specs.Prelude.{◌≡◌, ℕ, Bool, true, List, Option, Some, None}
use Rattle.std.specs.Map.{lookup}
use Rattle.std.specs.BTreeMap.{is_at}
use Rattle.std.specs.Ordering.{nat_cmp}
use Rattle.block_types.specs.declared.record.Record.{Record}
use Rattle.disk.specs.Filed.{Filed}
use Rattle.disk.specs.Made.{IsMadeOf}
use Rattle.replica.specs.Content.{Content}
use Rattle.replica.specs.Replay.{replay, fit}
use Rattle.model_streams.specs.Node.{Replica, fresh, contents}
use Rattle.model_streams.specs.Bounds.{FewWait}

-- the replica of an extent, among entries of a map
abbrev pub find : List (ℕ × Replica) → ℕ → Option Replica
find entries e = lookup (is_at (nat_cmp e)) entries

pub record NodeState (D : Type 0) : Type 0 where
  pub number : ℕ
  pub replicas : List (ℕ × Replica)
  pub file : Filed D

-- a replica that has just been made from records
abbrev pub fresh_of : Option Content → Option Replica
fresh_of None = None
fresh_of (Some content) = Some (fresh content)

-- each replica, but for what a stop drops, is what the records make of it, each record fits those before it, and few
-- appends wait at a replica
pub record IsReplay (n : ℕ) (replicas : List (ℕ × Replica)) (rs : List Record) : Type 0 where
  pub each : (e : ℕ) → contents (find replicas e) ≡ replay e rs
  pub fits : fit n rs ≡ true
  pub few : (e : ℕ) → FewWait (find replicas e)

-- what a node holds comes of the records of its file, which fit
abbrev pub HoldsReplicas : ℕ → List (ℕ × Replica) → Bool → List Record → Type 0
HoldsReplicas n replicas stopped rs = IsMadeOf (IsReplay n replicas) (λ r. fit n r ≡ true) stopped rs

-- and nothing is there that a stop drops
pub record IsRestart (n : ℕ) (replicas : List (ℕ × Replica)) (rs : List Record) : Type 0 where
  pub each : (e : ℕ) → find replicas e ≡ fresh_of (replay e rs)
  pub fits : fit n rs ≡ true
