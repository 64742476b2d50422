-- What each event does to a cluster, beside what it does to the model's.
use Rattle.std.specs.declared.alloc.AllocError.{AllocError}
use Rattle.std.proofs.Common.{◌≡◌, ◌<◌, ℕ, zero, suc, length, arith, Bool, true, false, nat_lt, List, [], ◌∷◌, ◌++◌, Option, Some, None, Result, Ok, Err, OnOk, IfSome, refl, sym, ap, ◌∙◌, subst, slice_get, map, append-nil, if◌then◌else◌}
use Rattle.std.proofs.lemmas.Option.{same_Some}
use Rattle.block_types.specs.declared.record.Nodes.{Nodes}
use Rattle.wire.specs.declared.actor.ActorId.{ActorId}
use Rattle.wire.specs.declared.actor.ActorId.TheVariants.{Node, Manager, Map, Server, User}
use Rattle.wire.specs.declared.body.Body.{Body}
use Rattle.wire.specs.declared.note.Note.{Note}
use Rattle.wire.specs.declared.packet.Packet.{Packet}
use Rattle.model_streams.specs.declared.event.Event.{Event}
use Rattle.model_streams.specs.declared.event.Event.TheVariants.{Submit, Deliver, Stop, Restart, Decide, GiveUp, Checkpoint, Split, Merge, Assign, Renew, Moment}
use Rattle.model_streams.specs.StreamSystem.{StreamSystem, happens, delivered, delivered_if}
use Rattle.model_streams.proofs.Tests.{if_elim}
use Rattle.model_partition.specs.Servers.{ServerCell, ServersOutcome, told_moment, with_told, server_takes, server_gives_up, server_checkpoints, server_splits, server_merges, server_stops, server_starts}
use Rattle.model_partition.specs.Cluster.{Cluster, told_by_map, delivered_to, delivers, servers_perform, stops, restarts, assigns, renews, map_takes, map_stops, map_starts}
use Rattle.world_map.specs.Seen.{MapSeen, MapSteps, MapSimulates, moment_shown}
use Rattle.world_servers.specs.Servers.{ServersSeen, all_shown}
use Rattle.world_streams.specs.StreamLayer.{StreamLayerState, StreamLayerMirrors}
use Rattle.world_streams.specs.ServersStep.{AfterMap, AfterServers, with_told_by_map}
use Rattle.world_streams.proofs.ServerOutput.{map_mirrors, told_mirrors}
use Rattle.world.specs.Cluster.{ClusterState, ClusterMirrors, ClusterSimulates, IsBelow, addressee_of}

-- where a call succeeds, what follows from what it says
pub if_ok : {A P Q : Type 0} (r : Result A AllocError) → (P → Q) → OnOk r P → OnOk r Q
if_ok (Ok x) f h = f h
if_ok (Err x) f h = tt

-- a cluster of these parts
abbrev pub state : StreamLayerState → List ServerCell → MapSeen → ℕ → ℕ → ClusterState
state stream_layer servers map moment batch = record { stream_layer = stream_layer; servers = servers; map = map; moment = moment; batch = batch }

-- a cluster of these servers
abbrev pub cluster_of : StreamLayerState → ServersSeen → MapSeen → ClusterState
cluster_of stream_layer servers seen = state stream_layer servers.cells seen servers.moment servers.batch

-- servers whose moment and batch stay
pub servers_stay : (l k : StreamLayerState) (s t : ServersSeen) (x : MapSeen) (event : Event) → (t.moment ≡ s.moment) × (t.batch ≡ s.batch) →
    ClusterSimulates (cluster_of l s x) (state k t.cells x s.moment s.batch) event → ClusterSimulates (cluster_of l s x) (cluster_of k t x) event
servers_stay l k s t x event same h =
    subst (λ (n : ℕ). ClusterSimulates (cluster_of l s x) (state k t.cells x n t.batch) event) (sym same.0)
    (subst (λ (n : ℕ). ClusterSimulates (cluster_of l s x) (state k t.cells x s.moment n) event) (sym same.1) h)

-- ---- events of the stream layer

-- the stream layer steps, and all else stays
pub in_layer : (x : ClusterState) (l : StreamLayerState) (c : Cluster) (w : StreamSystem) → ClusterMirrors x c → StreamLayerMirrors l w → ClusterMirrors (record x { stream_layer = l }) (record c { stream_layer = w })
in_layer x l c w m h = record { stream_layer = h; servers = m.servers; map = m.map; moment = m.moment; batch = m.batch }

pub submit_came : (x : ClusterState) (l : StreamLayerState) (user : ℕ) (to : ActorId) (body : Body) → ((w : StreamSystem) → StreamLayerMirrors x.stream_layer w → StreamLayerMirrors l (happens w (Submit user to body))) →
    ClusterSimulates x (record x { stream_layer = l }) (Submit user to body)
submit_came x l user to body h = λ c m. in_layer x l c (happens c.stream_layer (Submit user to body)) m (h c.stream_layer m.stream_layer)

pub decide_came : (x : ClusterState) (l : StreamLayerState) (e : ℕ) → ((w : StreamSystem) → StreamLayerMirrors x.stream_layer w → StreamLayerMirrors l (happens w (Decide e))) → ClusterSimulates x (record x { stream_layer = l }) (Decide e)
decide_came x l e h = λ c m. in_layer x l c (happens c.stream_layer (Decide e)) m (h c.stream_layer m.stream_layer)

stops_below : (c : Cluster) (a : ActorId) (call : ℕ) (keep : Bool) → IsBelow a → stops c a call keep ≡ record c { stream_layer = happens c.stream_layer (Stop a call keep) }
stops_below c (Node n) call keep h = refl
stops_below c Manager call keep h = refl
stops_below c Map call keep h = absurd h
stops_below c (Server s) call keep h = absurd h
stops_below c (User u) call keep h = refl

pub stop_came : (x : ClusterState) (l : StreamLayerState) (a : ActorId) (call : ℕ) (keep : Bool) → IsBelow a → ((w : StreamSystem) → StreamLayerMirrors x.stream_layer w → StreamLayerMirrors l (happens w (Stop a call keep))) →
    ClusterSimulates x (record x { stream_layer = l }) (Stop a call keep)
stop_came x l a call keep below h = λ c m.
    subst (ClusterMirrors (record x { stream_layer = l })) (sym (stops_below c a call keep below)) (in_layer x l c (happens c.stream_layer (Stop a call keep)) m (h c.stream_layer m.stream_layer))

restarts_below : (c : Cluster) (a : ActorId) → IsBelow a → restarts c a ≡ record c { stream_layer = happens c.stream_layer (Restart a) }
restarts_below c (Node n) h = refl
restarts_below c Manager h = refl
restarts_below c Map h = absurd h
restarts_below c (Server s) h = absurd h
restarts_below c (User u) h = refl

pub restart_came : (x : ClusterState) (l : StreamLayerState) (a : ActorId) → IsBelow a → ((w : StreamSystem) → StreamLayerMirrors x.stream_layer w → StreamLayerMirrors l (happens w (Restart a))) →
    ClusterSimulates x (record x { stream_layer = l }) (Restart a)
restart_came x l a below h = λ c m. subst (ClusterMirrors (record x { stream_layer = l })) (sym (restarts_below c a below)) (in_layer x l c (happens c.stream_layer (Restart a)) m (h c.stream_layer m.stream_layer))

-- ---- deliveries

goes_below : (c : Cluster) (p : Packet) (to : ActorId) → IsBelow to → delivered_to c p to ≡ record c { stream_layer = delivered c.stream_layer p to }
goes_below c p (Node n) h = refl
goes_below c p Manager h = refl
goes_below c p Map h = absurd h
goes_below c p (Server s) h = absurd h
goes_below c p (User u) h = refl

delivers_below : (c : Cluster) (found : Option Packet) → ((p : Packet) → found ≡ Some p → IsBelow p.to) → delivers c found ≡ record c { stream_layer = delivered_if c.stream_layer found }
delivers_below c None h = refl
delivers_below c (Some p) h = goes_below c p p.to (h p refl)

pub deliver_came : (x : ClusterState) (l : StreamLayerState) (number : ℕ) → ((p : Packet) → slice_get x.stream_layer.post number ≡ Some p → IsBelow p.to) →
    ((w : StreamSystem) → StreamLayerMirrors x.stream_layer w → StreamLayerMirrors l (happens w (Deliver number))) → ClusterSimulates x (record x { stream_layer = l }) (Deliver number)
deliver_came x l number below h = λ c m.
    subst (ClusterMirrors (record x { stream_layer = l }))
    (sym (delivers_below c (slice_get c.stream_layer.post number) (λ p is. below p (ap (λ (post : List Packet). slice_get post number) m.stream_layer.post ∙ is))))
    (in_layer x l c (happens c.stream_layer (Deliver number)) m (h c.stream_layer m.stream_layer))

-- the packet goes to nobody above
pub goes_below_them : (found : Option Packet) → IfSome (addressee_of found) IsBelow → (p : Packet) → found ≡ Some p → IsBelow p.to
goes_below_them found h p there = subst (λ (o : Option Packet). IfSome (addressee_of o) IsBelow) there h

-- there is a packet, and it goes to this actor
pub goes_there : (found : Option Packet) (to : ActorId) → addressee_of found ≡ Some to → (p : Packet) × (found ≡ Some p) × (p.to ≡ to)
goes_there None to is = absurd cc
goes_there (Some p) to is = (p, refl, same_Some p.to to is)

-- its number is one of those that were sent
pub is_there : (post : List Packet) (n : ℕ) (to : ActorId) → addressee_of (slice_get post n) ≡ Some to → n < length post
is_there [] n to is = absurd cc
is_there (x ∷ xs) zero to is = omega arith
is_there (x ∷ xs) (suc n) to is = let l = is_there xs n to is in omega (arith, l)

-- nothing comes of a number that was never sent
pub unsent_came : (x : ClusterState) (number : ℕ) → addressee_of (slice_get x.stream_layer.post number) ≡ None → ClusterSimulates x x (Deliver number)
unsent_came x number is = λ c m. subst (λ (o : Option Packet). ClusterMirrors x (delivers c o)) (sym (none_there (slice_get c.stream_layer.post number) (ap (λ (post : List Packet). addressee_of (slice_get post number)) (sym m.stream_layer.post) ∙ is))) m
  where
    none_there : (found : Option Packet) → addressee_of found ≡ None → found ≡ None
    none_there None e = refl
    none_there (Some p) e = absurd cc

-- ---- steps of servers

does_mirrors : (x : ClusterState) (l : StreamLayerState) (servers : List ServerCell) (o : ServersOutcome) → AfterServers x.stream_layer l servers o → (c : Cluster) → ClusterMirrors x c →
    ClusterMirrors (record x { stream_layer = l; servers = servers }) (servers_perform c o)
does_mirrors x l servers o t c m = record {
  stream_layer = subst (λ (r : StreamLayerState). StreamLayerMirrors r (with_told c.stream_layer o.packets o.notes)) (sym t.stream_layer) (told_mirrors x.stream_layer o.packets o.notes c.stream_layer m.stream_layer);
  servers = t.servers_are;
  map = m.map;
  moment = m.moment;
  batch = m.batch;
}

give_came : (x : ClusterState) (l : StreamLayerState) (servers : List ServerCell) (number s : ℕ) (p : Packet) → slice_get x.stream_layer.post number ≡ Some p → p.to ≡ Server s →
    AfterServers x.stream_layer l servers (server_takes x.servers s p) → ClusterSimulates x (record x { stream_layer = l; servers = servers }) (Deliver number)
give_came x l servers number s p found to t = λ c m.
    let there : slice_get c.stream_layer.post number ≡ Some p = ap (λ (post : List Packet). slice_get post number) (sym m.stream_layer.post) ∙ found in
    let is : delivers c (slice_get c.stream_layer.post number) ≡ servers_perform c (server_takes x.servers s p) =
    ap (delivers c) there ∙ ap (delivered_to c p) to ∙ ap (λ (l : List ServerCell). servers_perform c (server_takes l s p)) (sym m.servers) in
    subst (ClusterMirrors (record x { stream_layer = l; servers = servers })) (sym is) (does_mirrors x l servers (server_takes x.servers s p) t c m)

pub give_came_if : (x : ClusterState) (l : StreamLayerState) (servers : List ServerCell) (number s : ℕ) → addressee_of (slice_get x.stream_layer.post number) ≡ Some (Server s) →
    ((p : Packet) → slice_get x.stream_layer.post number ≡ Some p → AfterServers x.stream_layer l servers (server_takes x.servers s p)) → ClusterSimulates x (record x { stream_layer = l; servers = servers }) (Deliver number)
give_came_if x l servers number s is t =
    let there = goes_there (slice_get x.stream_layer.post number) (Server s) is in
    give_came x l servers number s there.0 there.1 there.2 (t there.0 there.1)

pub give_up_came : (x : ClusterState) (l : StreamLayerState) (servers : List ServerCell) (s range : ℕ) (pick : Nodes) → AfterServers x.stream_layer l servers (server_gives_up x.servers s range pick) →
    ClusterSimulates x (record x { stream_layer = l; servers = servers }) (GiveUp s range pick)
give_up_came x l servers s range pick t = λ c m.
    subst (λ (cells : List ServerCell). ClusterMirrors (record x { stream_layer = l; servers = servers }) (servers_perform c (server_gives_up cells s range pick))) m.servers
    (does_mirrors x l servers (server_gives_up x.servers s range pick) t c m)

pub checkpoint_came : (x : ClusterState) (l : StreamLayerState) (servers : List ServerCell) (s range : ℕ) (combine : Bool) → AfterServers x.stream_layer l servers (server_checkpoints x.servers s range combine) →
    ClusterSimulates x (record x { stream_layer = l; servers = servers }) (Checkpoint s range combine)
checkpoint_came x l servers s range combine t = λ c m.
    subst (λ (cells : List ServerCell). ClusterMirrors (record x { stream_layer = l; servers = servers }) (servers_perform c (server_checkpoints cells s range combine))) m.servers
    (does_mirrors x l servers (server_checkpoints x.servers s range combine) t c m)

pub split_came : (x : ClusterState) (l : StreamLayerState) (servers : List ServerCell) (s range : ℕ) (key : List ℕ) → AfterServers x.stream_layer l servers (server_splits x.servers s range key) →
    ClusterSimulates x (record x { stream_layer = l; servers = servers }) (Split s range key)
split_came x l servers s range key t = λ c m.
    subst (λ (cells : List ServerCell). ClusterMirrors (record x { stream_layer = l; servers = servers }) (servers_perform c (server_splits cells s range key))) m.servers
    (does_mirrors x l servers (server_splits x.servers s range key) t c m)

pub merge_came : (x : ClusterState) (l : StreamLayerState) (servers : List ServerCell) (s left right : ℕ) → AfterServers x.stream_layer l servers (server_merges x.servers s left right) →
    ClusterSimulates x (record x { stream_layer = l; servers = servers }) (Merge s left right)
merge_came x l servers s left right t = λ c m.
    subst (λ (cells : List ServerCell). ClusterMirrors (record x { stream_layer = l; servers = servers }) (servers_perform c (server_merges cells s left right))) m.servers
    (does_mirrors x l servers (server_merges x.servers s left right) t c m)

-- nothing is sent and shown
rests : (x : ClusterState) (servers : List ServerCell) (o : ServersOutcome) → o ≡ record { servers = servers; packets = []; notes = [] } → AfterServers x.stream_layer x.stream_layer servers o
rests x servers o is = subst (AfterServers x.stream_layer x.stream_layer servers) (sym is)
    (record { stream_layer = ap (λ (l : List Packet). record x.stream_layer { post = l }) (sym (append-nil x.stream_layer.post)); servers_are = refl })

pub stop_server_came : (x : ClusterState) (servers : List ServerCell) (s call : ℕ) (keep : Bool) → server_stops x.servers s call ≡ record { servers = servers; packets = []; notes = [] } →
    ClusterSimulates x (record x { servers = servers }) (Stop (Server s) call keep)
stop_server_came x servers s call keep is = λ c m.
    subst (λ (cells : List ServerCell). ClusterMirrors (record x { servers = servers }) (servers_perform c (server_stops cells s call))) m.servers
    (does_mirrors x x.stream_layer servers (server_stops x.servers s call) (rests x servers (server_stops x.servers s call) is) c m)

pub restart_server_came : (x : ClusterState) (servers : List ServerCell) (s : ℕ) → server_starts x.servers s x.moment x.batch ≡ record { servers = servers; packets = []; notes = [] } →
    ClusterSimulates x (record x { servers = servers }) (Restart (Server s))
restart_server_came x servers s is = λ c m.
    let same : server_starts x.servers s x.moment x.batch ≡ server_starts c.servers s c.now c.batch = λ i. server_starts (m.servers i) s (m.moment i) (m.batch i) in
    subst (λ (o : ServersOutcome). ClusterMirrors (record x { servers = servers }) (servers_perform c o)) same
    (does_mirrors x x.stream_layer servers (server_starts x.servers s x.moment x.batch) (rests x servers (server_starts x.servers s x.moment x.batch) is) c m)

-- ---- the map

-- the map steps, and sends and shows these
map_went : (x : ClusterState) (l : StreamLayerState) (y : MapSeen) (c d : Cluster) (packets : List Packet) (notes : List Note) → l ≡ with_told_by_map x.stream_layer packets notes → MapSteps y c d packets notes →
    ClusterMirrors x c → ClusterMirrors (record x { stream_layer = l; map = y }) d
map_went x l y c d packets notes is went m = record {
  stream_layer = subst (StreamLayerMirrors l) (sym went.stream_layer)
      (subst (λ (r : StreamLayerState). StreamLayerMirrors r (told_by_map c.stream_layer packets notes)) (sym is) (map_mirrors x.stream_layer packets notes c.stream_layer m.stream_layer));
  servers = m.servers ∙ sym went.servers;
  map = went.map;
  moment = m.moment ∙ sym went.now;
  batch = m.batch ∙ sym went.batch;
}

route_came : (x : ClusterState) (l : StreamLayerState) (y : MapSeen) (number : ℕ) (p : Packet) → slice_get x.stream_layer.post number ≡ Some p → p.to ≡ Map →
    AfterMap x.stream_layer l (MapSimulates x.map y (λ c. map_takes c p)) → ClusterSimulates x (record x { stream_layer = l; map = y }) (Deliver number)
route_came x l y number p found to o = λ c m.
    let there : slice_get c.stream_layer.post number ≡ Some p = ap (λ (post : List Packet). slice_get post number) (sym m.stream_layer.post) ∙ found in
    let is : delivers c (slice_get c.stream_layer.post number) ≡ map_takes c p = ap (delivers c) there ∙ ap (delivered_to c p) to in
    subst (ClusterMirrors (record x { stream_layer = l; map = y })) (sym is) (map_went x l y c (map_takes c p) o.packets o.notes o.stream_layer (o.steps_are c m.map) m)

pub route_came_if : (x : ClusterState) (l : StreamLayerState) (y : MapSeen) (number : ℕ) → addressee_of (slice_get x.stream_layer.post number) ≡ Some Map →
    ((p : Packet) → slice_get x.stream_layer.post number ≡ Some p → AfterMap x.stream_layer l (MapSimulates x.map y (λ c. map_takes c p))) → ClusterSimulates x (record x { stream_layer = l; map = y }) (Deliver number)
route_came_if x l y number is o =
    let there = goes_there (slice_get x.stream_layer.post number) Map is in
    route_came x l y number there.0 there.1 there.2 (o there.0 there.1)

pub assign_came : (x : ClusterState) (l : StreamLayerState) (y : MapSeen) (range server until : ℕ) → AfterMap x.stream_layer l (MapSimulates x.map y (λ c. assigns c range server until)) →
    ClusterSimulates x (record x { stream_layer = l; map = y }) (Assign range server until)
assign_came x l y range server until o = λ c m. map_went x l y c (assigns c range server until) o.packets o.notes o.stream_layer (o.steps_are c m.map) m

pub renew_came : (x : ClusterState) (l : StreamLayerState) (y : MapSeen) (range server until : ℕ) → AfterMap x.stream_layer l (MapSimulates x.map y (λ c. renews c range server until)) →
    ClusterSimulates x (record x { stream_layer = l; map = y }) (Renew range server until)
renew_came x l y range server until o = λ c m. map_went x l y c (renews c range server until) o.packets o.notes o.stream_layer (o.steps_are c m.map) m

nothing_more : (r : StreamLayerState) → r ≡ with_told_by_map r [] []
nothing_more r =
    ap (λ (l : List Packet). record r { post = l }) (sym (append-nil r.post))
    ∙ ap (λ (l : List Note). record r { post = r.post ++ []; notes = l }) (sym (append-nil r.notes))

pub stop_map_came : (x : ClusterState) (y : MapSeen) (call : ℕ) (keep : Bool) → MapSimulates x.map y (λ c. map_stops c call keep) [] [] → ClusterSimulates x (record x { map = y }) (Stop Map call keep)
stop_map_came x y call keep steps = λ c m. map_went x x.stream_layer y c (map_stops c call keep) [] [] (nothing_more x.stream_layer) (steps c m.map) m

pub restart_map_came : (x : ClusterState) (y : MapSeen) → MapSimulates x.map y map_starts [] [] → ClusterSimulates x (record x { map = y }) (Restart Map)
restart_map_came x y steps = λ c m. map_went x x.stream_layer y c (map_starts c) [] [] (nothing_more x.stream_layer) (steps c m.map) m

-- ---- the clock

servers_back : (now : ℕ) (s t : ServersSeen) → t ≡ all_shown now s → nat_lt now s.moment ≡ true → t ≡ s
servers_back now s t is back = is ∙ ap (λ (b : Bool). if b then s else record s { cells = map (told_moment now) s.cells; moment = now }) back

servers_on : (now : ℕ) (s t : ServersSeen) → t ≡ all_shown now s → nat_lt now s.moment ≡ false → t ≡ record s { cells = map (told_moment now) s.cells; moment = now }
servers_on now s t is on = is ∙ ap (λ (b : Bool). if b then s else record s { cells = map (told_moment now) s.cells; moment = now }) on

map_back : (now : ℕ) (x y : MapSeen) → y ≡ moment_shown now x → nat_lt now x.moment ≡ true → y ≡ x
map_back now x y is back = is ∙ ap (λ (b : Bool). if b then x else record x { moment = now }) back

map_on : (now : ℕ) (x y : MapSeen) → y ≡ moment_shown now x → nat_lt now x.moment ≡ false → y ≡ record x { moment = now }
map_on now x y is on = is ∙ ap (λ (b : Bool). if b then x else record x { moment = now }) on

-- the clock shows this to all
pub moment_came : (l : StreamLayerState) (s t : ServersSeen) (x y : MapSeen) (now : ℕ) → t ≡ all_shown now s → y ≡ moment_shown now x → ClusterSimulates (cluster_of l s x) (cluster_of l t y) (Moment now)
moment_came l s t x y now servers map_is = λ c m.
    if_elim (ClusterMirrors (cluster_of l t y)) (nat_lt now c.now) _ _
    (λ b. subst (λ (z : ServersSeen). ClusterMirrors (cluster_of l z y) c) (sym (servers_back now s t servers (ap (nat_lt now) m.moment ∙ b)))
    (subst (λ (z : MapSeen). ClusterMirrors (cluster_of l s z) c) (sym (map_back now x y map_is (ap (nat_lt now) (sym m.map.moment) ∙ b))) m))
    (λ b. subst (λ (z : ServersSeen). ClusterMirrors (cluster_of l z y) (record c { now = now; servers = map (told_moment now) c.servers })) (sym (servers_on now s t servers (ap (nat_lt now) m.moment ∙ b)))
    (subst (λ (z : MapSeen). ClusterMirrors (state l (map (told_moment now) s.cells) z now s.batch) (record c { now = now; servers = map (told_moment now) c.servers }))
    (sym (map_on now x y map_is (ap (nat_lt now) (sym m.map.moment) ∙ b)))
    (record {
      stream_layer = m.stream_layer;
      servers = ap (map (told_moment now)) m.servers;
      map = record { map = m.map.map; up = m.map.up; plan = m.map.plan; moment = refl };
      moment = refl;
      batch = m.batch;
    })))

abbrev latest : ℕ → ℕ → ℕ
latest now moment = if nat_lt now moment then moment else now

latest_back : (now moment : ℕ) → nat_lt now moment ≡ true → moment ≡ latest now moment
latest_back now moment is = sym (ap (λ (b : Bool). if b then moment else now) is)

latest_on : (now moment : ℕ) → nat_lt now moment ≡ false → now ≡ latest now moment
latest_on now moment is = sym (ap (λ (b : Bool). if b then moment else now) is)

servers_at : (now : ℕ) (s : ServersSeen) → (all_shown now s).moment ≡ latest now s.moment
servers_at now s =
    if_elim (λ (z : ServersSeen). z.moment ≡ latest now s.moment) (nat_lt now s.moment) s (record s { cells = map (told_moment now) s.cells; moment = now })
    (latest_back now s.moment) (latest_on now s.moment)

map_at : (now : ℕ) (x : MapSeen) → (moment_shown now x).moment ≡ latest now x.moment
map_at now x =
    if_elim (λ (z : MapSeen). z.moment ≡ latest now x.moment) (nat_lt now x.moment) x (record x { moment = now })
    (latest_back now x.moment) (latest_on now x.moment)

-- servers and the map have seen the same moments
pub moments_agree : (s t : ServersSeen) (x y : MapSeen) (now : ℕ) → x.moment ≡ s.moment → t ≡ all_shown now s → y ≡ moment_shown now x → y.moment ≡ t.moment
moments_agree s t x y now same servers map_is =
    ap (λ (z : MapSeen). z.moment) map_is ∙ map_at now x ∙ ap (latest now) same ∙ sym (servers_at now s) ∙ sym (ap (λ (z : ServersSeen). z.moment) servers)
