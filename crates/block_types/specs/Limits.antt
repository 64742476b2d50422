-- What is allowed.
use Rattle.std.specs.Prelude.{◌≢◌, ℕ, ◌≤◌, Bool, not, ◌&&◌, ◌||◌, ◌==◌, nat_le, nat_lt, List, length, map, sum_by, Option, Some, None, Vec, if◌then◌else◌}
use Rattle.std.specs.List.{AllByRecursion, list_any}
use Rattle.std.specs.declared.alloc.Global.{Global}
use Rattle.block_types.specs.declared.fault.GroupFault.{GroupFault}
use Rattle.block_types.specs.declared.fault.GroupFault.TheVariants as faults
use Rattle.block_types.specs.declared.record.Nodes.{Nodes}

abbrev pub IsBlock : List ℕ → Type 0
IsBlock b = (1 ≤ length b) × (length b ≤ 65536)

abbrev pub IsGroup : List (List ℕ) → Type 0
IsGroup g = (1 ≤ length g) × (length g ≤ 64) × AllByRecursion IsBlock g

abbrev pub is_within : ℕ → ℕ → ℕ → Bool
is_within low high n = nat_le low n && nat_le n high

-- places are three nodes, all different: as a test, and as a statement
unfoldable pub are_nodes : Nodes → Bool
are_nodes n = is_within 1 12 n.primary && is_within 1 12 n.second && is_within 1 12 n.third && not (n.primary == n.second) && not (n.primary == n.third) && not (n.second == n.third)

pub record AreNodes (n : Nodes) : Type 0 where
  pub primary : (1 ≤ n.primary) × (n.primary ≤ 12)
  pub second : (1 ≤ n.second) × (n.second ≤ 12)
  pub third : (1 ≤ n.third) × (n.third ≤ 12)
  pub distinct : (n.primary ≢ n.second) × (n.primary ≢ n.third) × (n.second ≢ n.third)

-- the target of an extent
abbrev pub IsTarget : ℕ → Type 0
IsTarget t = (4096 ≤ t) × (t ≤ 16777216)

-- the bytes of a group
abbrev pub group_size : List (List ℕ) → ℕ
group_size g = sum_by length g

abbrev pub groups_size : List (List (List ℕ)) → ℕ
groups_size gs = sum_by group_size gs

-- why texts are no group
abbrev pub group_fault : List (List ℕ) → Option GroupFault
group_fault texts = if nat_lt 64 (length texts) || length texts == 0 then Some faults.TooManyBlocks else if list_any (λ b. length b == 0 || nat_lt 65536 (length b)) texts then Some faults.BadBlock else None

abbrev pub texts_of : List (Vec ℕ Global) → List (List ℕ)
texts_of vs = map (λ v. v.items) vs
