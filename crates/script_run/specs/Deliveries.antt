-- Which packets a settle delivers.
use Rattle.std.specs.Prelude.{◌≡◌, ℕ, ◌<◌, Bool, true, false, ◌||◌, ◌==◌, nat_lt, List, length, Option, Some, None}
use Rattle.std.specs.List.{list_any, slice_get, slice_index_or}
use Rattle.wire.specs.declared.actor.ActorId.{ActorId}
use Rattle.wire.specs.declared.actor.ActorId.TheVariants.{Node, Manager, Map, Server, User}
use Rattle.wire.specs.declared.packet.Packet.{Packet}

-- whether both are one actor
abbrev pub is_same : ActorId → ActorId → Bool
is_same (Node m) (Node n) = m == n
is_same Manager Manager = true
is_same Map Map = true
is_same (Server s) (Server t) = s == t
is_same (User u) (User v) = u == v
is_same one other = false

-- whether the packet is to an actor that is cut off
abbrev pub is_cut : List ActorId → Option Packet → Bool
is_cut cut None = false
is_cut cut (Some p) = list_any (λ actor. is_same actor p.to) cut

-- of each packet by its number whether it was delivered or passed over; of those beyond the list none was
abbrev pub is_noted : List Bool → ℕ → Bool
is_noted noted m = slice_index_or noted m false

-- whether no settle takes packet m: it was delivered or passed over before, or it is to an actor that is cut off
abbrev pub is_past : List ActorId → List Packet → List Bool → ℕ → Bool
is_past cut post noted m = is_noted noted m || is_cut cut (slice_get post m)

-- packet n is the lowest that a settle takes
pub record IsLowest (cut : List ActorId) (post : List Packet) (noted : List Bool) (n : ℕ) : Type 0 where
  pub sent : n < length post
  pub free : is_past cut post noted n ≡ false
  pub lowest : (m : ℕ) → m < n → is_past cut post noted m ≡ true

-- a settle takes none
abbrev pub NoneLeft : List ActorId → List Packet → List Bool → Type 0
NoneLeft cut post noted = (m : ℕ) → m < length post → is_past cut post noted m ≡ true

-- those below n are passed over for good
abbrev pub Passed : List Bool → ℕ → List Bool → Type 0
Passed noted n after = (m : ℕ) → is_noted after m ≡ (nat_lt m n || is_noted noted m)

-- n was delivered
abbrev pub Delivered : List Bool → ℕ → List Bool → Type 0
Delivered noted n after = (m : ℕ) → is_noted after m ≡ ((m == n) || is_noted noted m)
