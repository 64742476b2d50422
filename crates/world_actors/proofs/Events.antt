-- What an event makes of a cluster, where it is for one actor.
use Rattle.std.proofs.Common.{◌≡◌, ℕ, Bool, List, Some, refl, sym, ap, ◌∙◌}
use Rattle.std.proofs.lemmas.Option.{same_Some}
use Rattle.block_types.specs.declared.record.Nodes.{Nodes}
use Rattle.wire.specs.declared.actor.ActorId.{ActorId}
use Rattle.wire.specs.declared.actor.ActorId.TheVariants as actors
use Rattle.wire.specs.declared.packet.Packet.{Packet}
use Rattle.model_streams.specs.declared.event.Event.{Event}
use Rattle.model_streams.specs.declared.event.Event.TheVariants as events
use Rattle.model_partition.specs.Servers.{server_checkpoints, server_gives_up, server_merges, server_splits}
use Rattle.model_partition.specs.Cluster.{Cluster, cluster_after, delivered_to, delivers, restarts, servers_perform, stops}
use Rattle.world_actors.specs.declared.actor_input.ActorInput.{ActorInput}
use Rattle.world_actors.specs.Inputs.{Carries, IsFor, packet_of, taker_of}

server_number : ActorId → ℕ
server_number (actors.Server s) = s
server_number a = 0

same_server : (s n : ℕ) → Some (actors.Server s) ≡ Some (actors.Server n) → s ≡ n
unfolding server_number
same_server s n is = ap server_number (same_Some (actors.Server s) (actors.Server n) is)

-- the packet comes to the actor
pub delivery_leads : (c : Cluster) (d : ActorInput) (k : ℕ) (p : Packet) (a : ActorId) → d.event ≡ events.Deliver k → d.packet ≡ Some p → Carries c.stream_layer.post d → IsFor d a →
    cluster_after c d.event ≡ delivered_to c p a
delivery_leads c d k p a is has carried for =
    ap (cluster_after c) is
    ∙ ap (delivers c) (ap (packet_of c.stream_layer.post) (sym is) ∙ sym carried ∙ has)
    ∙ ap (delivered_to c p) (same_Some p.to a (sym ((λ i. taker_of (is i) (has i))) ∙ for))

pub stop_leads : (c : Cluster) (d : ActorInput) (b : ActorId) (call : ℕ) (keep : Bool) (a : ActorId) → d.event ≡ events.Stop b call keep → IsFor d a → cluster_after c d.event ≡ stops c a call keep
stop_leads c d b call keep a is for =
    ap (cluster_after c) is ∙ ap (λ (x : ActorId). stops c x call keep) (same_Some b a (sym (ap (λ (e : Event). taker_of e d.packet) is) ∙ for))

pub restart_leads : (c : Cluster) (d : ActorInput) (b : ActorId) (a : ActorId) → d.event ≡ events.Restart b → IsFor d a → cluster_after c d.event ≡ restarts c a
restart_leads c d b a is for =
    ap (cluster_after c) is ∙ ap (restarts c) (same_Some b a (sym (ap (λ (e : Event). taker_of e d.packet) is) ∙ for))

-- the event is for this server
pub server_is : (d : ActorInput) (e : Event) (s n : ℕ) → d.event ≡ e → taker_of e d.packet ≡ Some (actors.Server s) → IsFor d (actors.Server n) → s ≡ n
server_is d e s n is taker for = same_server s n (sym taker ∙ sym (ap (λ (x : Event). taker_of x d.packet) is) ∙ for)

pub give_up_leads : (c : Cluster) (d : ActorInput) (s range : ℕ) (pick : Nodes) (n : ℕ) → d.event ≡ events.GiveUp s range pick → IsFor d (actors.Server n) →
    cluster_after c d.event ≡ servers_perform c (server_gives_up c.servers n range pick)
give_up_leads c d s range pick n is for =
    ap (cluster_after c) is ∙ ap (λ (k : ℕ). servers_perform c (server_gives_up c.servers k range pick)) (server_is d (events.GiveUp s range pick) s n is refl for)

pub checkpoint_leads : (c : Cluster) (d : ActorInput) (s range : ℕ) (combine : Bool) (n : ℕ) → d.event ≡ events.Checkpoint s range combine → IsFor d (actors.Server n) →
    cluster_after c d.event ≡ servers_perform c (server_checkpoints c.servers n range combine)
checkpoint_leads c d s range combine n is for =
    ap (cluster_after c) is ∙ ap (λ (k : ℕ). servers_perform c (server_checkpoints c.servers k range combine)) (server_is d (events.Checkpoint s range combine) s n is refl for)

pub split_leads : (c : Cluster) (d : ActorInput) (s range : ℕ) (key : List ℕ) (n : ℕ) → d.event ≡ events.Split s range key → IsFor d (actors.Server n) →
    cluster_after c d.event ≡ servers_perform c (server_splits c.servers n range key)
split_leads c d s range key n is for =
    ap (cluster_after c) is ∙ ap (λ (k : ℕ). servers_perform c (server_splits c.servers k range key)) (server_is d (events.Split s range key) s n is refl for)

pub merge_leads : (c : Cluster) (d : ActorInput) (s left right : ℕ) (n : ℕ) → d.event ≡ events.Merge s left right → IsFor d (actors.Server n) →
    cluster_after c d.event ≡ servers_perform c (server_merges c.servers n left right)
merge_leads c d s left right n is for =
    ap (cluster_after c) is ∙ ap (λ (k : ℕ). servers_perform c (server_merges c.servers k left right)) (server_is d (events.Merge s left right) s n is refl for)
