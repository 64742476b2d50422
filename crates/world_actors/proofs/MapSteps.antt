-- Steps of the map, in whatever cluster has it.
use Rattle.std.specs.declared.alloc.AllocError.{AllocError}
use Rattle.std.proofs.Common.{◌≡◌, ◌≢◌, ℕ, Bool, List, [], Some, None, Result, Ok, Err, IfOk, refl, sym, ap, ◌∙◌, subst}
use Rattle.wire.specs.declared.actor.ActorId.{ActorId}
use Rattle.wire.specs.declared.actor.ActorId.TheVariants as actors
use Rattle.wire.specs.declared.note.Note.{Note}
use Rattle.wire.specs.declared.packet.Packet.{Packet}
use Rattle.model_streams.specs.declared.event.Event.TheVariants as events
use Rattle.model_streams.specs.Maps.{entry_at}
use Rattle.model_streams.specs.StreamSystem.{StreamSystem, is_present}
use Rattle.model_partition.specs.Servers.{ServerCell}
use Rattle.model_partition.specs.Cluster.{Cluster, assigns, cluster_after, map_starts, map_stops, map_takes, renews}
use Rattle.world_steps.specs.ActorStep.{ActorStep, IsFew, nothing}
use Rattle.world_map.specs.Seen.{MapSeen, MapSimulates, MapSteps, assign_refusal, renew_refusal}
use Rattle.world_actors.specs.declared.run_actor.RunActor.{RunActor}
use Rattle.world_actors.specs.declared.run_actor.RunActor.TheVariants.{Node, Manager, Map, Server}
use Rattle.world_actors.specs.declared.actor_input.ActorInput.{ActorInput}
use Rattle.world_actors.specs.Inputs.{Carries, IsFor}
use Rattle.world_actors.specs.Actors.{IsActor, id_of}
use Rattle.world_actors.specs.Steps.{ActorSteps, Goes, map_refusal}
use Rattle.world_actors.proofs.Events.{delivery_leads, restart_leads, stop_leads}
use Rattle.world_actors.proofs.Rests.{is_few}
use Rattle.world_actors.proofs.Transport.{manager_as, node_as, plain_notes}

others_stay : (y : MapSeen) (c d : Cluster) (packets : List Packet) (notes : List Note) → MapSteps y c d packets notes → (z : RunActor) → id_of z ≢ actors.Map → IsActor z c → IsActor z d
others_stay y c d packets notes s (Node z) apart m = (
  node_as z.number z c.stream_layer d.stream_layer m.0 (λ e. ap (λ (w : StreamSystem). w.replica z.number e) s.stream_layer) (ap (λ (w : StreamSystem). w.cell z.number) s.stream_layer),
  ap (λ (w : StreamSystem). is_present w z.number) s.stream_layer ∙ m.1,
)
others_stay y c d packets notes s (Manager z) apart m =
    manager_as z c.stream_layer d.stream_layer m (ap (λ (w : StreamSystem). w.catalog) s.stream_layer) (ap (λ (w : StreamSystem). w.manager_cell) s.stream_layer)
others_stay y c d packets notes s (Map z) apart m = absurd (apart refl)
others_stay y c d packets notes s (Server z) apart m = record {
  cell = ap (λ (cells : List ServerCell). entry_at cells z.number) s.servers ∙ m.cell;
  moment = s.now ∙ m.moment;
  batch = s.batch ∙ m.batch;
}

-- the map alone steps
pub map_steps : (x y : MapSeen) (c d : Cluster) (t : ActorStep) → t.tables ≡ [] → MapSteps y c d t.packets t.notes → ActorSteps (Map x) (Map y) c d t
map_steps x y c d t plain s = record {
  post = ap (λ (w : StreamSystem). w.post) s.stream_layer;
  notes = ap (λ (w : StreamSystem). w.notes) s.stream_layer ∙ plain_notes c.stream_layer.notes t.notes t.tables plain;
  id = refl;
  here = s.map;
  others = others_stay y c d t.packets t.notes s;
}

-- where the event makes this of the cluster, the map goes by it
map_goes : (x : MapSeen) (d : ActorInput) (y : MapSeen) (t : ActorStep) (step : Cluster → Cluster) → IsFew t → t.tables ≡ [] → t.refusal ≡ map_refusal x d.event →
    ((now : ℕ) → d.event ≡ events.Moment now → ⊥) → MapSimulates x y step t.packets t.notes →
    ((c : Cluster) → Carries c.stream_layer.post d → IsFor d actors.Map → cluster_after c d.event ≡ step c) → Goes (Map x) d (Map y) t
map_goes x d y t step few plain refusal timeless simulates leads = record {
  few = few;
  refusal = refusal;
  steps = λ c m carried for. subst (λ (e : Cluster). ActorSteps (Map x) (Map y) c e t) (sym (leads c carried for)) (map_steps x y c (step c) t plain (simulates c m));
  moment = λ now is. absurd (timeless now is);
}

map_took : (x : MapSeen) (d : ActorInput) (y : MapSeen) (t : ActorStep) (k : ℕ) (p : Packet) → d.event ≡ events.Deliver k → d.packet ≡ Some p →
    MapSimulates x y (λ c. map_takes c p) t.packets t.notes → IsFew t → (t.tables ≡ []) × (t.refusal ≡ None) → Goes (Map x) d (Map y) t
map_took x d y t k p is has simulates few plain =
    map_goes x d y t (λ c. map_takes c p) few plain.0 (plain.1 ∙ ap (map_refusal x) (sym is)) (λ now at. absurd (let both = sym is ∙ at in cc)) simulates
    (λ c carried for. delivery_leads c d k p actors.Map is has carried for)

pub map_takes_it : (x : MapSeen) (d : ActorInput) (y : MapSeen) (r : Result ActorStep AllocError) (k : ℕ) (p : Packet) → d.event ≡ events.Deliver k → d.packet ≡ Some p →
    IfOk r (λ t. MapSimulates x y (λ c. map_takes c p) t.packets t.notes) → IfOk r IsFew → IfOk r (λ t. (t.tables ≡ []) × (t.refusal ≡ None)) → IfOk r (λ t. Goes (Map x) d (Map y) t)
map_takes_it x d y (Ok t) k p is has simulates few plain = map_took x d y t k p is has simulates few plain
map_takes_it x d y (Err full) k p is has simulates few plain = tt

pub map_stopped : (x : MapSeen) (d : ActorInput) (y : MapSeen) (b : ActorId) (call : ℕ) (keep : Bool) → d.event ≡ events.Stop b call keep →
    MapSimulates x y (λ c. map_stops c call keep) [] [] → Goes (Map x) d (Map y) nothing
map_stopped x d y b call keep is simulates =
    map_goes x d y nothing (λ c. map_stops c call keep) is_few refl (ap (map_refusal x) (sym is)) (λ now at. absurd (let both = sym is ∙ at in cc)) simulates
    (λ c carried for. stop_leads c d b call keep actors.Map is for)

pub map_restarted : (x : MapSeen) (d : ActorInput) (y : MapSeen) (b : ActorId) → d.event ≡ events.Restart b → MapSimulates x y map_starts [] [] → Goes (Map x) d (Map y) nothing
map_restarted x d y b is simulates =
    map_goes x d y nothing map_starts is_few refl (ap (map_refusal x) (sym is)) (λ now at. absurd (let both = sym is ∙ at in cc)) simulates
    (λ c carried for. restart_leads c d b actors.Map is for)

-- a call that shows nothing
shows_none : (x y : MapSeen) (step : Cluster → Cluster) (packets : List Packet) (notes : List Note) → notes ≡ [] → MapSimulates x y step packets [] → MapSimulates x y step packets notes
shows_none x y step packets notes none h = subst (λ (l : List Note). MapSimulates x y step packets l) (sym none) h

map_assigned : (x : MapSeen) (d : ActorInput) (y : MapSeen) (t : ActorStep) (range server until : ℕ) → d.event ≡ events.Assign range server until →
    MapSimulates x y (λ c. assigns c range server until) t.packets [] → IsFew t → (t.notes ≡ []) × (t.tables ≡ []) → t.refusal ≡ assign_refusal x x.moment range server → Goes (Map x) d (Map y) t
map_assigned x d y t range server until is simulates few plain refusal =
    map_goes x d y t (λ c. assigns c range server until) few plain.1 (refusal ∙ ap (map_refusal x) (sym is)) (λ now at. absurd (let both = sym is ∙ at in cc))
    (shows_none x y (λ c. assigns c range server until) t.packets t.notes plain.0 simulates) (λ c carried for. ap (cluster_after c) is)

map_renewed : (x : MapSeen) (d : ActorInput) (y : MapSeen) (t : ActorStep) (range server until : ℕ) → d.event ≡ events.Renew range server until →
    MapSimulates x y (λ c. renews c range server until) t.packets [] → IsFew t → (t.notes ≡ []) × (t.tables ≡ []) → t.refusal ≡ renew_refusal x range server → Goes (Map x) d (Map y) t
map_renewed x d y t range server until is simulates few plain refusal =
    map_goes x d y t (λ c. renews c range server until) few plain.1 (refusal ∙ ap (map_refusal x) (sym is)) (λ now at. absurd (let both = sym is ∙ at in cc))
    (shows_none x y (λ c. renews c range server until) t.packets t.notes plain.0 simulates) (λ c carried for. ap (cluster_after c) is)

pub map_assigns_it : (x : MapSeen) (d : ActorInput) (y : MapSeen) (r : Result ActorStep AllocError) (range server until : ℕ) → d.event ≡ events.Assign range server until →
    IfOk r (λ t. MapSimulates x y (λ c. assigns c range server until) t.packets []) → IfOk r IsFew → IfOk r (λ t. (t.notes ≡ []) × (t.tables ≡ [])) →
    IfOk r (λ t. t.refusal ≡ assign_refusal x x.moment range server) → IfOk r (λ t. Goes (Map x) d (Map y) t)
map_assigns_it x d y (Ok t) range server until is simulates few plain refusal = map_assigned x d y t range server until is simulates few plain refusal
map_assigns_it x d y (Err full) range server until is simulates few plain refusal = tt

pub map_renews_it : (x : MapSeen) (d : ActorInput) (y : MapSeen) (r : Result ActorStep AllocError) (range server until : ℕ) → d.event ≡ events.Renew range server until →
    IfOk r (λ t. MapSimulates x y (λ c. renews c range server until) t.packets []) → IfOk r IsFew → IfOk r (λ t. (t.notes ≡ []) × (t.tables ≡ [])) →
    IfOk r (λ t. t.refusal ≡ renew_refusal x range server) → IfOk r (λ t. Goes (Map x) d (Map y) t)
map_renews_it x d y (Ok t) range server until is simulates few plain refusal = map_renewed x d y t range server until is simulates few plain refusal
map_renews_it x d y (Err full) range server until is simulates few plain refusal = tt
