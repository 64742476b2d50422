-- Steps of a server, in whatever cluster has it.
use Rattle.std.specs.declared.alloc.AllocError.{AllocError}
use Rattle.std.proofs.Common.{◌≡◌, ◌≢◌, ℕ, zero, suc, ◌-◌, Bool, List, [], ◌∷◌, Option, Some, None, Result, Ok, Err, IfOk, refl, sym, ap, ◌∙◌, subst, arith, slice_get, slice_set}
use Rattle.block_types.specs.declared.record.Nodes.{Nodes}
use Rattle.wire.specs.declared.actor.ActorId.{ActorId}
use Rattle.wire.specs.declared.actor.ActorId.TheVariants as actors
use Rattle.wire.specs.declared.packet.Packet.{Packet}
use Rattle.model_streams.specs.declared.event.Event.TheVariants as events
use Rattle.model_streams.specs.Maps.{entry_at}
use Rattle.model_partition.specs.Servers.{CellOutcome, ServerCell, at_server, cell_checkpoints, cell_gives_up, cell_merges, cell_rests, cell_splits, cell_starts, cell_stops, cell_takes, checkpoint_fault_of, give_up_fault, merge_fault_of, split_fault_of, with_told}
use Rattle.model_partition.specs.Cluster.{Cluster, cluster_after, servers_perform}
use Rattle.world_steps.specs.ActorStep.{ActorStep, IsFew, nothing}
use Rattle.world_server.specs.Seen.{ServerSeen, cell_outcome}
use Rattle.world_actors.specs.declared.run_actor.RunActor.{RunActor}
use Rattle.world_actors.specs.declared.run_actor.RunActor.TheVariants.{Node, Manager, Map, Server}
use Rattle.world_actors.specs.declared.actor_input.ActorInput.{ActorInput}
use Rattle.world_actors.specs.Inputs.{Carries, IsFor}
use Rattle.world_actors.specs.Actors.{HasServer, IsActor, id_of}
use Rattle.world_actors.specs.Steps.{ActorSteps, Goes, server_refusal}
use Rattle.world_actors.proofs.Events.{checkpoint_leads, delivery_leads, give_up_leads, merge_leads, restart_leads, split_leads, stop_leads}
use Rattle.world_actors.proofs.Rests.{is_few}
use Rattle.world_actors.proofs.Transport.{manager_as, node_as, table_notes}

-- ---- entries of a list, by number from 1

set_here : {A : Type 0} (xs : List A) (at : ℕ) (x y : A) → slice_get xs at ≡ Some x → slice_get (slice_set xs at y) at ≡ Some y
set_here [] at x y e = absurd cc
set_here (z ∷ xs) zero x y e = refl
set_here (z ∷ xs) (suc at) x y e = set_here xs at x y e

set_there : {A : Type 0} (xs : List A) (at m : ℕ) (y : A) → m ≢ at → slice_get (slice_set xs at y) m ≡ slice_get xs m
set_there [] at m y far = refl
set_there (x ∷ xs) zero zero y far = absurd (far refl)
set_there (x ∷ xs) zero (suc m) y far = refl
set_there (x ∷ xs) (suc at) zero y far = refl
set_there (x ∷ xs) (suc at) (suc m) y far = set_there xs at m y (λ e. far (ap suc e))

entry_set : {A : Type 0} (xs : List A) (n : ℕ) (x y : A) → entry_at xs n ≡ Some x → entry_at (slice_set xs (n - 1) y) n ≡ Some y
entry_set xs zero x y e = absurd cc
entry_set xs (suc n) x y e = subst (λ (k : ℕ). slice_get (slice_set xs k y) n ≡ Some y) {x = n} {y = suc n - 1} (omega arith) (set_here xs n x y e)

entry_others : {A : Type 0} (xs : List A) (n m : ℕ) (x y : A) → entry_at xs n ≡ Some x → m ≢ n → entry_at (slice_set xs (n - 1) y) m ≡ entry_at xs m
entry_others xs zero m x y e far = absurd cc
entry_others xs (suc n) zero x y e far = refl
entry_others xs (suc n) (suc m) x y e far = set_there xs (suc n - 1) m y (λ same. far (omega (arith, same)))

-- ---- one server steps

-- the cluster with this server, and with what it sends and shows
abbrev with_server : Cluster → ℕ → ServerCell → ActorStep → Cluster
with_server c n cell t = record c { stream_layer = with_told c.stream_layer t.packets t.tables; servers = slice_set c.servers (n - 1) cell }

others_stay : (c : Cluster) (x : ServerSeen) (cell : ServerCell) (t : ActorStep) → HasServer c x → (z : RunActor) → id_of z ≢ actors.Server x.number → IsActor z c → IsActor z (with_server c x.number cell t)
others_stay c x cell t h (Node z) apart m = (node_as z.number z c.stream_layer (with_told c.stream_layer t.packets t.tables) m.0 (λ e. refl) refl, m.1)
others_stay c x cell t h (Manager z) apart m = manager_as z c.stream_layer (with_told c.stream_layer t.packets t.tables) m refl refl
others_stay c x cell t h (Map z) apart m = m
others_stay c x cell t h (Server z) apart m = record {
  cell = entry_others c.servers x.number z.number x.cell cell h.cell (λ e. apart (ap actors.Server e)) ∙ m.cell;
  moment = m.moment;
  batch = m.batch;
}

-- the server alone steps
server_steps : (x y : ServerSeen) (c : Cluster) (t : ActorStep) → t.notes ≡ [] → y ≡ record x { cell = y.cell } → HasServer c x → ActorSteps (Server x) (Server y) c (with_server c x.number y.cell t) t
server_steps x y c t plain same h = record {
  post = refl;
  notes = table_notes c.stream_layer.notes t.notes t.tables plain;
  id = ap (λ (s : ServerSeen). actors.Server s.number) same;
  here = record {
    cell = ap (λ (s : ServerSeen). entry_at (slice_set c.servers (x.number - 1) y.cell) s.number) same ∙ entry_set c.servers x.number x.cell y.cell h.cell;
    moment = h.moment ∙ sym (ap (λ (s : ServerSeen). s.moment) same);
    batch = h.batch ∙ sym (ap (λ (s : ServerSeen). s.batch) same);
  };
  others = others_stay c x y.cell t h;
}

-- what all servers come to, where one does this
performed : (x y : ServerSeen) (c : Cluster) (t : ActorStep) (rule : ServerCell → CellOutcome) → HasServer c x → rule x.cell ≡ cell_outcome y.cell t →
    servers_perform c (at_server c.servers x.number rule (entry_at c.servers x.number)) ≡ with_server c x.number y.cell t
performed x y c t rule h does =
    ap (λ (o : Option ServerCell). servers_perform c (at_server c.servers x.number rule o)) h.cell
    ∙ ap (λ (o : CellOutcome). servers_perform c (record { servers = slice_set c.servers (x.number - 1) o.cell; packets = o.packets; notes = o.notes })) does

-- where the event makes this of the servers, the server goes by it
server_goes : (x : ServerSeen) (d : ActorInput) (y : ServerSeen) (t : ActorStep) (rule : Cluster → ServerCell → CellOutcome) → IsFew t → t.notes ≡ [] → t.refusal ≡ server_refusal x d.event →
    ((now : ℕ) → d.event ≡ events.Moment now → ⊥) → y ≡ record x { cell = y.cell } → ((c : Cluster) → HasServer c x → rule c x.cell ≡ cell_outcome y.cell t) →
    ((c : Cluster) → Carries c.stream_layer.post d → IsFor d (actors.Server x.number) → cluster_after c d.event ≡ servers_perform c (at_server c.servers x.number (rule c) (entry_at c.servers x.number))) →
    Goes (Server x) d (Server y) t
server_goes x d y t rule few plain refusal timeless same does leads = record {
  few = few;
  refusal = refusal;
  steps = λ c h carried for. subst (λ (e : Cluster). ActorSteps (Server x) (Server y) c e t)
      (sym (leads c carried for ∙ performed x y c t (rule c) h (does c h))) (server_steps x y c t plain same h);
  moment = λ now is. absurd (timeless now is);
}

server_took : (x : ServerSeen) (d : ActorInput) (y : ServerSeen) (t : ActorStep) (k : ℕ) (p : Packet) → d.event ≡ events.Deliver k → d.packet ≡ Some p →
    cell_takes x.cell p x.cell.state ≡ cell_outcome y.cell t → y ≡ record x { cell = y.cell } → IsFew t → (t.notes ≡ []) × (t.refusal ≡ None) → Goes (Server x) d (Server y) t
server_took x d y t k p is has does same few plain =
    server_goes x d y t (λ c cell. cell_takes cell p cell.state) few plain.0 (plain.1 ∙ ap (server_refusal x) (sym is)) (λ now at. absurd (let both = sym is ∙ at in cc)) same (λ c h. does)
    (λ c carried for. delivery_leads c d k p (actors.Server x.number) is has carried for)

pub server_stopped : (x : ServerSeen) (d : ActorInput) (y : ServerSeen) (b : ActorId) (call : ℕ) (keep : Bool) → d.event ≡ events.Stop b call keep →
    y ≡ record x { cell = cell_stops call x.cell } → Goes (Server x) d (Server y) nothing
server_stopped x d y b call keep is does =
    let cell : cell_stops call x.cell ≡ y.cell = sym (ap (λ (s : ServerSeen). s.cell) does) in
    server_goes x d y nothing (λ c cell. cell_rests (cell_stops call cell)) is_few refl (ap (server_refusal x) (sym is)) (λ now at. absurd (let both = sym is ∙ at in cc))
    (does ∙ ap (λ (k : ServerCell). record x { cell = k }) cell) (λ c h. ap cell_rests cell) (λ c carried for. stop_leads c d b call keep (actors.Server x.number) is for)

pub server_restarted : (x : ServerSeen) (d : ActorInput) (y : ServerSeen) (b : ActorId) → d.event ≡ events.Restart b →
    y ≡ record x { cell = cell_starts x.number x.moment x.batch x.cell x.cell.state } → Goes (Server x) d (Server y) nothing
server_restarted x d y b is does =
    let cell : cell_starts x.number x.moment x.batch x.cell x.cell.state ≡ y.cell = sym (ap (λ (s : ServerSeen). s.cell) does) in
    server_goes x d y nothing (λ c cell. cell_rests (cell_starts x.number c.now c.batch cell cell.state)) is_few refl (ap (server_refusal x) (sym is)) (λ now at. absurd (let both = sym is ∙ at in cc))
    (does ∙ ap (λ (k : ServerCell). record x { cell = k }) cell)
    (λ c h. (λ i. cell_rests (cell_starts x.number (h.moment i) (h.batch i) x.cell x.cell.state)) ∙ ap cell_rests cell) (λ c carried for. restart_leads c d b (actors.Server x.number) is for)

server_gave_up : (x : ServerSeen) (d : ActorInput) (y : ServerSeen) (t : ActorStep) (s range : ℕ) (pick : Nodes) → d.event ≡ events.GiveUp s range pick →
    cell_gives_up x.cell range pick x.cell.state ≡ cell_outcome y.cell t → y ≡ record x { cell = y.cell } → IsFew t → t.notes ≡ [] → t.refusal ≡ give_up_fault range pick x.cell.state → Goes (Server x) d (Server y) t
server_gave_up x d y t s range pick is does same few plain refusal =
    server_goes x d y t (λ c cell. cell_gives_up cell range pick cell.state) few plain (refusal ∙ ap (server_refusal x) (sym is)) (λ now at. absurd (let both = sym is ∙ at in cc)) same (λ c h. does)
    (λ c carried for. give_up_leads c d s range pick x.number is for)

server_checkpointed : (x : ServerSeen) (d : ActorInput) (y : ServerSeen) (t : ActorStep) (s range : ℕ) (combine : Bool) → d.event ≡ events.Checkpoint s range combine →
    cell_checkpoints x.cell range combine x.cell.state ≡ cell_outcome y.cell t → y ≡ record x { cell = y.cell } → IsFew t → t.notes ≡ [] → t.refusal ≡ checkpoint_fault_of range x.cell.state → Goes (Server x) d (Server y) t
server_checkpointed x d y t s range combine is does same few plain refusal =
    server_goes x d y t (λ c cell. cell_checkpoints cell range combine cell.state) few plain (refusal ∙ ap (server_refusal x) (sym is)) (λ now at. absurd (let both = sym is ∙ at in cc)) same (λ c h. does)
    (λ c carried for. checkpoint_leads c d s range combine x.number is for)

server_split : (x : ServerSeen) (d : ActorInput) (y : ServerSeen) (t : ActorStep) (s range : ℕ) (key : List ℕ) → d.event ≡ events.Split s range key →
    cell_splits x.cell range key x.cell.state ≡ cell_outcome y.cell t → y ≡ record x { cell = y.cell } → IsFew t → t.notes ≡ [] → t.refusal ≡ split_fault_of range key x.cell.state → Goes (Server x) d (Server y) t
server_split x d y t s range key is does same few plain refusal =
    server_goes x d y t (λ c cell. cell_splits cell range key cell.state) few plain (refusal ∙ ap (server_refusal x) (sym is)) (λ now at. absurd (let both = sym is ∙ at in cc)) same (λ c h. does)
    (λ c carried for. split_leads c d s range key x.number is for)

server_merged : (x : ServerSeen) (d : ActorInput) (y : ServerSeen) (t : ActorStep) (s left right : ℕ) → d.event ≡ events.Merge s left right →
    cell_merges x.cell left right x.cell.state ≡ cell_outcome y.cell t → y ≡ record x { cell = y.cell } → IsFew t → t.notes ≡ [] → t.refusal ≡ merge_fault_of left right x.cell.state → Goes (Server x) d (Server y) t
server_merged x d y t s left right is does same few plain refusal =
    server_goes x d y t (λ c cell. cell_merges cell left right cell.state) few plain (refusal ∙ ap (server_refusal x) (sym is)) (λ now at. absurd (let both = sym is ∙ at in cc)) same (λ c h. does)
    (λ c carried for. merge_leads c d s left right x.number is for)

-- ---- where a call succeeds

pub server_takes_it : (x : ServerSeen) (d : ActorInput) (y : ServerSeen) (r : Result ActorStep AllocError) (k : ℕ) (p : Packet) → d.event ≡ events.Deliver k → d.packet ≡ Some p →
    IfOk r (λ t. cell_takes x.cell p x.cell.state ≡ cell_outcome y.cell t) → y ≡ record x { cell = y.cell } → IfOk r IsFew → IfOk r (λ t. (t.notes ≡ []) × (t.refusal ≡ None)) → IfOk r (λ t. Goes (Server x) d (Server y) t)
server_takes_it x d y (Ok t) k p is has does same few plain = server_took x d y t k p is has does same few plain
server_takes_it x d y (Err full) k p is has does same few plain = tt

pub server_gives_up_it : (x : ServerSeen) (d : ActorInput) (y : ServerSeen) (r : Result ActorStep AllocError) (s range : ℕ) (pick : Nodes) → d.event ≡ events.GiveUp s range pick →
    IfOk r (λ t. cell_gives_up x.cell range pick x.cell.state ≡ cell_outcome y.cell t) → y ≡ record x { cell = y.cell } → IfOk r IsFew → IfOk r (λ t. t.notes ≡ []) →
    IfOk r (λ t. t.refusal ≡ give_up_fault range pick x.cell.state) → IfOk r (λ t. Goes (Server x) d (Server y) t)
server_gives_up_it x d y (Ok t) s range pick is does same few plain refusal = server_gave_up x d y t s range pick is does same few plain refusal
server_gives_up_it x d y (Err full) s range pick is does same few plain refusal = tt

pub server_checkpoints_it : (x : ServerSeen) (d : ActorInput) (y : ServerSeen) (r : Result ActorStep AllocError) (s range : ℕ) (combine : Bool) → d.event ≡ events.Checkpoint s range combine →
    IfOk r (λ t. cell_checkpoints x.cell range combine x.cell.state ≡ cell_outcome y.cell t) → y ≡ record x { cell = y.cell } → IfOk r IsFew → IfOk r (λ t. t.notes ≡ []) →
    IfOk r (λ t. t.refusal ≡ checkpoint_fault_of range x.cell.state) → IfOk r (λ t. Goes (Server x) d (Server y) t)
server_checkpoints_it x d y (Ok t) s range combine is does same few plain refusal = server_checkpointed x d y t s range combine is does same few plain refusal
server_checkpoints_it x d y (Err full) s range combine is does same few plain refusal = tt

pub server_splits_it : (x : ServerSeen) (d : ActorInput) (y : ServerSeen) (r : Result ActorStep AllocError) (s range : ℕ) (key : List ℕ) → d.event ≡ events.Split s range key →
    IfOk r (λ t. cell_splits x.cell range key x.cell.state ≡ cell_outcome y.cell t) → y ≡ record x { cell = y.cell } → IfOk r IsFew → IfOk r (λ t. t.notes ≡ []) →
    IfOk r (λ t. t.refusal ≡ split_fault_of range key x.cell.state) → IfOk r (λ t. Goes (Server x) d (Server y) t)
server_splits_it x d y (Ok t) s range key is does same few plain refusal = server_split x d y t s range key is does same few plain refusal
server_splits_it x d y (Err full) s range key is does same few plain refusal = tt

pub server_merges_it : (x : ServerSeen) (d : ActorInput) (y : ServerSeen) (r : Result ActorStep AllocError) (s left right : ℕ) → d.event ≡ events.Merge s left right →
    IfOk r (λ t. cell_merges x.cell left right x.cell.state ≡ cell_outcome y.cell t) → y ≡ record x { cell = y.cell } → IfOk r IsFew → IfOk r (λ t. t.notes ≡ []) →
    IfOk r (λ t. t.refusal ≡ merge_fault_of left right x.cell.state) → IfOk r (λ t. Goes (Server x) d (Server y) t)
server_merges_it x d y (Ok t) s left right is does same few plain refusal = server_merged x d y t s left right is does same few plain refusal
server_merges_it x d y (Err full) s left right is does same few plain refusal = tt
