-- The numbers of the actors of a setup.
use Rattle.std.proofs.Common.{◌≡◌, ◌≢◌, ◌<◌, ◌≤◌, ◌+◌, ◌-◌, ◌&&◌, ◌==◌, ℕ, suc, false, nat_lt, nat_le, if◌then◌else◌, List, Some, None, arith, sym, ap, ◌∙◌}
use Rattle.std.proofs.lemmas.Bool.Decides.{nat_tests}
use Rattle.std.proofs.lemmas.Bool.{eqb-true, ltb-true}
use Rattle.std.proofs.lemmas.Option.{same_Some, none-some}
use Rattle.wire.specs.declared.actor.ActorId.{ActorId}
use Rattle.wire.specs.declared.actor.ActorId.TheVariants.{Node, Manager, Map, Server, User}
use Rattle.model_streams.proofs.Tests.{if_elim}
use Rattle.world_actors.specs.Numbers.{nodes_in, servers_in, count_of, place_in}
use Rattle.world_actors.specs.Actors.{actor_at}

-- ---- whoever has a place is the one there

present : (n : ℕ) (many : ℕ) (k : ℕ) → (if nat_lt 0 n && nat_le n many then Some (n - 1) else None) ≡ Some k → (n ≡ suc k) × (k < many)
present n many k is = grind (arith, nat_tests)

serving : (s : ℕ) (many before : ℕ) (k : ℕ) → (if nat_lt 0 s && nat_le s many then Some (before + s) else None) ≡ Some k → (k ≡ before + s) × (0 < s) × (s ≤ many)
serving s many before k is = grind (arith, nat_tests)

pub node_at : (ns : List ℕ) (n : ℕ) → n < nodes_in ns → actor_at ns n ≡ Node (suc n)
node_at ns n low = grind (arith, nat_tests, actor_at)

pub manager_at : (ns : List ℕ) (n : ℕ) → n ≡ nodes_in ns → actor_at ns n ≡ Manager
manager_at ns n is = grind (arith, nat_tests)

map_at : (ns : List ℕ) (n : ℕ) → n ≡ nodes_in ns + 1 → actor_at ns n ≡ Map
map_at ns n is = grind (arith, nat_tests)

server_at : (ns : List ℕ) (n s : ℕ) → n ≡ nodes_in ns + 1 + s → 0 < s → actor_at ns n ≡ Server s
server_at ns n s is some = grind (arith, nat_tests)

pub at_place : (ns : List ℕ) (a : ActorId) (n : ℕ) → place_in ns a ≡ Some n → (a ≡ actor_at ns n) × (n < count_of ns)
at_place ns (Node k) n is =
    let h = present k (nodes_in ns) n is in
    (ap Node h.0 ∙ sym (node_at ns n h.1), omega (arith, h.1))
at_place ns Manager n is =
    let same = same_Some (nodes_in ns) n is in
    (sym (manager_at ns n (sym same)), omega (arith, same))
at_place ns Map n is =
    let same = same_Some (nodes_in ns + 1) n is in
    (sym (map_at ns n (sym same)), omega (arith, same))
at_place ns (Server s) n is =
    let h = serving s (servers_in ns) (nodes_in ns + 1) n is in
    (sym (server_at ns n s h.0 h.1), omega (arith, h.0, h.2))
at_place ns (User u) n is = absurd (none-some n is)

-- ---- each number below the count is of one actor

placed_node : (k many : ℕ) → k < many → (if nat_lt 0 (suc k) && nat_le (suc k) many then Some (suc k - 1) else None) ≡ Some k
placed_node k many low = grind (arith, nat_tests)

placed_server : (s many before : ℕ) → 0 < s → s ≤ many → (if nat_lt 0 s && nat_le s many then Some (before + s) else None) ≡ Some (before + s)
placed_server s many before some most = grind (arith, nat_tests)

pub place_at : (ns : List ℕ) (n : ℕ) → n < count_of ns → place_in ns (actor_at ns n) ≡ Some n
place_at ns n below =
    if_elim Placed (nat_lt n (nodes_in ns)) _ _
    (λ low. placed_node n (nodes_in ns) (ltb-true n (nodes_in ns) low))
    (λ high. if_elim Placed (n == nodes_in ns) _ _
    (λ manager. ap Some (sym (eqb-true n (nodes_in ns) manager)))
    (λ other. if_elim Placed (n == nodes_in ns + 1) _ _
    (λ map. ap Some (sym (eqb-true n (nodes_in ns + 1) map)))
    (λ rest. served high other rest)))
  where
    Placed : ActorId → Type 0
    Placed a = place_in ns a ≡ Some n

    served : nat_lt n (nodes_in ns) ≡ false → (n == nodes_in ns) ≡ false → (n == nodes_in ns + 1) ≡ false → place_in ns (Server (n - (nodes_in ns + 1))) ≡ Some n
    served high other rest = grind (arith, nat_tests)

pub apart : (ns : List ℕ) (m n : ℕ) → m < count_of ns → n < count_of ns → m ≢ n → actor_at ns m ≢ actor_at ns n
apart ns m n below within other same = other (same_Some m n (sym (place_at ns m below) ∙ ap (place_in ns) same ∙ place_at ns n within))
