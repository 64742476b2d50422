-- A moment is shown to the map and to all servers at once.
use Rattle.std.proofs.Common.{◌≡◌, ◌<◌, ◌≤◌, ◌+◌, ◌⊎◌, inl, inr, ℕ, zero, suc, nat_lt, if◌then◌else◌, List, [], ◌∷◌, map, Some, arith, refl, sym, ap, ◌∙◌, subst, slice_get}
use Rattle.std.proofs.lemmas.Option.{same_Some}
use Rattle.wire.specs.declared.actor.ActorId.TheVariants as actors
use Rattle.model_streams.specs.Maps.{entry_at}
use Rattle.model_streams.proofs.Tests.{both_elim, if_elim}
use Rattle.model_partition.specs.Servers.{ServerCell, told_moment}
use Rattle.model_partition.specs.Cluster.{Cluster, shows_moment}
use Rattle.world_map.specs.Seen.{MapSeen, MapMirrors, moment_shown}
use Rattle.world_server.specs.Seen.{ServerSeen}
use Rattle.world_server.specs.Seen as server
use Rattle.world_actors.specs.declared.run_actor.RunActor.{RunActor}
use Rattle.world_actors.specs.declared.run_actor.RunActor.TheVariants.{Node, Manager, Map, Server}
use Rattle.world_actors.specs.Numbers.{count_of, nodes_in}
use Rattle.world_actors.specs.Actors.{HasServer, IsActor, actor_at, id_of, ticked}
use Rattle.laws_traces.specs.Traces.{IsActorAt}
use Rattle.laws_traces.proofs.Places.{manager_at, node_at}

-- the cluster at a later moment
abbrev later : Cluster → ℕ → Cluster
later c now = record c { now = now; servers = map (told_moment now) c.servers }

abbrev told_server : ℕ → ServerSeen → ServerSeen
told_server now x = record x { moment = now; cell = told_moment now x.cell }

get_map : (now : ℕ) (cells : List ServerCell) (n : ℕ) (cell : ServerCell) → slice_get cells n ≡ Some cell → slice_get (map (told_moment now) cells) n ≡ Some (told_moment now cell)
get_map now [] n cell is = absurd cc
get_map now (x ∷ xs) zero cell is = ap (λ (y : ServerCell). Some (told_moment now y)) (same_Some x cell is)
get_map now (x ∷ xs) (suc n) cell is = get_map now xs n cell is

told_at : (now : ℕ) (cells : List ServerCell) (n : ℕ) (cell : ServerCell) → entry_at cells n ≡ Some cell → entry_at (map (told_moment now) cells) n ≡ Some (told_moment now cell)
told_at now cells zero cell is = absurd cc
told_at now cells (suc n) cell is = get_map now cells n cell is

-- ---- one actor

same_id : (now : ℕ) (z : RunActor) → id_of (ticked now z) ≡ id_of z
same_id now (Node x) = refl
same_id now (Manager x) = refl
same_id now (Map x) = refl
same_id now (Server x) = if_elim (λ (y : ServerSeen). actors.Server y.number ≡ actors.Server x.number) (nat_lt now x.moment) x (told_server now x) (λ back. refl) (λ on. refl)

-- it is as the moment leaves it
shown_one : (now : ℕ) (z : RunActor) (c : Cluster) → IsActor z c → IsActor (ticked now z) (shows_moment c now)
shown_one now (Node x) c m = if_elim (λ (d : Cluster). IsActor (Node x) d) (nat_lt now c.now) c (later c now) (λ back. m) (λ on. m)
shown_one now (Manager x) c m = if_elim (λ (d : Cluster). IsActor (Manager x) d) (nat_lt now c.now) c (later c now) (λ back. m) (λ on. m)
shown_one now (Map x) c m =
    subst (λ (k : ℕ). MapMirrors (moment_shown now x) (if nat_lt now k then c else later c now)) (sym m.moment)
    (both_elim (λ (y : MapSeen) (d : Cluster). MapMirrors y d) (nat_lt now x.moment) x (record x { moment = now }) c (later c now)
    (λ back. m)
    (λ on. record { map = m.map; up = m.up; plan = m.plan; moment = refl }))
shown_one now (Server x) c m =
    subst (λ (k : ℕ). HasServer (if nat_lt now k then c else later c now) (server.moment_shown now x)) (sym m.moment)
    (both_elim (λ (d : Cluster) (y : ServerSeen). HasServer d y) (nat_lt now x.moment) c (later c now) x (told_server now x)
    (λ back. m)
    (λ on. record { cell = told_at now c.servers x.number x.cell m.cell; moment = refl; batch = m.batch }))

-- a node does not look at the clock, and neither does the manager
node_untold : (now k : ℕ) (z : RunActor) → id_of z ≡ actors.Node k → ticked now z ≡ z
node_untold now k (Node x) is = refl
node_untold now k (Manager x) is = refl
node_untold now k (Map x) is = absurd cc
node_untold now k (Server x) is = absurd cc

manager_untold : (now : ℕ) (z : RunActor) → id_of z ≡ actors.Manager → ticked now z ≡ z
manager_untold now (Node x) is = refl
manager_untold now (Manager x) is = refl
manager_untold now (Map x) is = absurd cc
manager_untold now (Server x) is = absurd cc

below_clock : (ns : List ℕ) (n now : ℕ) (z : RunActor) → n < nodes_in ns + 1 → id_of z ≡ actor_at ns n → ticked now z ≡ z
below_clock ns n now z low is = elim split [ inl l ↦ node_untold now (suc n) z (is ∙ node_at ns n l) | inr e ↦ manager_untold now z (is ∙ manager_at ns n e) ]
  where
    split : (n < nodes_in ns) ⊎ (n ≡ nodes_in ns)
    split = grind arith

-- ---- all of them

-- those to whom the clock is shown have seen the moment, and all others are as they were
pub moment_shown_to_all : (ns : List ℕ) (now : ℕ) (c : Cluster) (s t : ℕ → RunActor) → ((n : ℕ) → n < count_of ns → IsActorAt ns n (s n) c) →
    ((n : ℕ) → nodes_in ns + 1 ≤ n → n < count_of ns → t n ≡ ticked now (s n)) → ((n : ℕ) → n < nodes_in ns + 1 → t n ≡ s n) →
    (n : ℕ) → n < count_of ns → IsActorAt ns n (t n) (shows_moment c now)
moment_shown_to_all ns now c s t are told untold n below =
    subst (λ (z : RunActor). IsActorAt ns n z (shows_moment c now)) (sym (elim split [ inl low ↦ untold n low ∙ sym (below_clock ns n now (s n) low at.id) | inr high ↦ told n high below ]))
    (record { id = same_id now (s n) ∙ at.id; actor = shown_one now (s n) c at.actor })
  where
    at : IsActorAt ns n (s n) c
    at = are n below

    split : (n < nodes_in ns + 1) ⊎ (nodes_in ns + 1 ≤ n)
    split = grind arith
