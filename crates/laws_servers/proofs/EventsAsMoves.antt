-- Each event of a run with servers is some moves of the stream layer.
use Rattle.std.proofs.Common.{◌≡◌, ℕ, suc, ◌^◌, Bool, true, nat_lt, ◌==◌, List, [], ◌∷◌, ◌++◌, Option, Some, None, refl, sym, ap, ◌∙◌, subst, append_assoc, append-nil, slice_get, if◌then◌else◌, inl, inr}
use Rattle.wire.specs.declared.actor.ActorId.{ActorId}
use Rattle.wire.specs.declared.actor.ActorId.TheVariants.{Node, Manager, Map, Server, User}
use Rattle.wire.specs.declared.actor.ReqNo.{ReqNo}
use Rattle.wire.specs.declared.body.Body.{Body}
use Rattle.wire.specs.declared.body.Body.TheVariants as bodies
use Rattle.wire.specs.declared.body.MapBody.{MapBody}
use Rattle.wire.specs.declared.body.MapBody.TheVariants as maps
use Rattle.wire.specs.declared.note.Note.{Note}
use Rattle.wire.specs.declared.packet.Packet.{Packet}
use Rattle.wire.specs.declared.refusal.Refusal.{Refusal}
use Rattle.model_streams.specs.declared.event.Event.{Event}
use Rattle.model_streams.specs.declared.event.Event.TheVariants.{Submit, Deliver, Stop, Restart, Decide, GiveUp, Assign, Renew, Moment, Checkpoint, Split, Merge}
use Rattle.model_streams.specs.Honest.{Agree, Kept}
use Rattle.model_streams.specs.Outcome.{Outcome, packet, or_refused}
use Rattle.model_streams.specs.StreamSystem.{StreamSystem, happens, moved, sent_more, stops_in, stands_in, delivered, delivered_if, is_table_note, start, Move, run_moves}
use Rattle.model_streams.specs.StreamSystem.Move.{Happens, Asks, Says, Observes}
use Rattle.model_streams.proofs.Tests.{if_elim}
use Rattle.model_partition.specs.declared.range_entry.RangeEntry.{RangeEntry}
use Rattle.model_partition.specs.declared.pending.Pending.{Pending}
use Rattle.model_partition.specs.declared.pending.Pending.TheVariants as pendings
use Rattle.model_partition.specs.Map.{MapState, range_at, range_of_key, halves_at, union_with, union_at}
use Rattle.model_partition.specs.MapRules.{assign_fault, assign_rule, renew_fault, renew_rule, has_numbers, begin_split_fault, begin_split_taken, begin_split_rule, complete_split_fault, complete_split_taken, complete_split_rule, begin_merge_fault, begin_merge_taken, begin_merge_rule, complete_merge_fault, complete_merge_rule, route_rule, told as map_told, map_rule}
use Rattle.model_partition.specs.declared.table_note.TableNote.{TableNote}
use Rattle.model_partition.specs.declared.table_note.TableNote.TheVariants.{Began, Done, Loaded, Got}
use Rattle.model_partition.specs.Servers.{ServersOutcome, told, noted, with_told, server_takes, server_gives_up, server_checkpoints, server_splits, server_merges, server_stops, server_starts}
use Rattle.model_partition.specs.Cluster.{Cluster, told_by_map, map_performs, map_performs_if, map_takes, delivered_to, delivers, stops, restarts, cluster_after, assigns, renews, shows_moment, cluster_after_all, first_cluster}
use Rattle.laws_streams.proofs.Invariant.{agree_in_moves, kept_in_moves}
use Rattle.laws_streams.proofs.RisingFences.{run_more}
use Rattle.laws_servers.specs.Sending.{MaySend, MaySendAll, ByMoves}
use Rattle.laws_servers.proofs.ClientPackets.{may_send_all}
use Rattle.laws_servers.proofs.ServerSteps.{IsStill, server_takes_shows, server_gives_up_tidy, server_checkpoints_tidy, server_splits_tidy, server_merges_tidy, server_stops_still, server_starts_still}

-- ---- moves one after the other

pub none : (w : StreamSystem) → ByMoves w w
none w = record { moves = []; is = refl }

pub one : (w : StreamSystem) (move : Move) → ByMoves w (moved w move)
one w move = record { moves = move ∷ []; is = refl }

pub both : (u v w : StreamSystem) → ByMoves u v → ByMoves v w → ByMoves u w
both u v w a b = record { moves = a.moves ++ b.moves; is = run_more a.moves b.moves u ∙ ap (run_moves b.moves) a.is ∙ b.is }

-- ---- packets and observations

one_packet : (w : StreamSystem) (p : Packet) → MaySend p → ByMoves w (sent_more w (p ∷ []))
one_packet w p (inl a) = record {
  moves = Asks a.server p.to p.body ∷ [];
  is = ap (λ (b : Bool). if b then sent_more w (packet (Server a.server) p.to p.body ∷ []) else w) a.call
      ∙ ap (λ (from : ActorId). sent_more w (packet from p.to p.body ∷ [])) (sym a.from);
}
one_packet w p (inr is) = record {
  moves = Says p.from p.to p.body ∷ [];
  is = ap (λ (b : Bool). if b then sent_more w (p ∷ []) else w) is;
}

sent_by : (w : StreamSystem) (packets : List Packet) → MaySendAll packets → ByMoves w (sent_more w packets)
sent_by w [] h = subst (ByMoves w) (ap (λ (l : List Packet). record w { post = l }) (sym (append-nil w.post))) (none w)
sent_by w (p ∷ packets) h =
    subst (ByMoves w) (ap (λ (l : List Packet). record w { post = l }) (append_assoc w.post (p ∷ []) packets))
    (both w (sent_more w (p ∷ [])) (sent_more (sent_more w (p ∷ [])) packets) (one_packet w p h.0) (sent_by (sent_more w (p ∷ [])) packets h.1))

pub is_shown : (notes : List Note) (note : TableNote) → is_table_note (told notes note) ≡ true
is_shown notes (Began range generation number changes) = refl
is_shown notes (Done range generation number) = refl
is_shown notes (Got range generation key value) = refl
is_shown notes (Loaded range generation table next) = refl

one_note : (w : StreamSystem) (note : TableNote) → ByMoves w (record w { notes = w.notes ++ told w.notes note ∷ [] })
one_note w note = record {
  moves = Observes (told w.notes note) ∷ [];
  is = ap (λ (b : Bool). if b then record w { notes = w.notes ++ told w.notes note ∷ [] } else w) (is_shown w.notes note);
}

shown_by : (w : StreamSystem) (notes : List TableNote) → ByMoves w (record w { notes = noted w.notes notes })
shown_by w [] = none w
shown_by w (note ∷ notes) =
    let v : StreamSystem = record w { notes = w.notes ++ told w.notes note ∷ [] } in
    both w v (record v { notes = noted v.notes notes }) (one_note w note) (shown_by v notes)

told_by : (w : StreamSystem) (packets : List Packet) (notes : List TableNote) → MaySendAll packets → ByMoves w (with_told w packets notes)
told_by w packets notes h = both w (sent_more w packets) (with_told w packets notes) (sent_by w packets h) (shown_by (sent_more w packets) notes)

still_by : (w : StreamSystem) (o : ServersOutcome) → IsStill o → ByMoves w (with_told w o.packets o.notes)
still_by w o h = told_by w o.packets o.notes (subst MaySendAll (sym h.0) tt)

-- ---- the map

abbrev AreTableNotes : List Note → Type 0
AreTableNotes [] = Unit {0}
AreTableNotes (note ∷ notes) = (is_table_note note ≡ true) × AreTableNotes notes

-- the map tells no node anything, and shows splits and merges alone
abbrev Speaks : Outcome MapState → Type 0
Speaks o = MaySendAll o.packets × AreTableNotes o.notes

assign_says : (m : MapState) (range server until : ℕ) (o : Option RangeEntry) → Speaks (assign_rule m range server until o)
assign_says m range server until None = (tt, tt)
assign_says m range server until (Some r) = if_elim Speaks (nat_lt (suc r.generation) (2 ^ 64)) _ _ (λ t. ((inr refl, tt), tt)) (λ f. (tt, tt))

renew_says : (m : MapState) (range server until : ℕ) (o : Option RangeEntry) → Speaks (renew_rule m range server until o)
renew_says m range server until None = (tt, tt)
renew_says m range server until (Some r) = ((inr refl, tt), tt)

route_says : (m : MapState) (p : Packet) (q : ReqNo) (o : Option RangeEntry) → Speaks (route_rule m p q o)
route_says m p q None = (tt, tt)
route_says m p q (Some r) = ((inr refl, tt), tt)

begin_split_takes : (m : MapState) (to : ActorId) (q : ReqNo) (range : ℕ) (key : List ℕ) (pair : Option (ℕ × ℕ)) → Speaks (begin_split_taken m to q range key pair)
begin_split_takes m to q range key (Some pair) = ((inr refl, tt), tt)
begin_split_takes m to q range key None = if_elim Speaks (has_numbers m 2) _ _ (λ t. ((inr refl, tt), tt)) (λ f. (tt, tt))

begin_split_says : (m : MapState) (to : ActorId) (q : ReqNo) (range : ℕ) (key : List ℕ) (o : Option RangeEntry) → Speaks (begin_split_rule m to q range key o)
begin_split_says m to q range key None = (tt, tt)
begin_split_says m to q range key (Some r) = begin_split_takes m to q range key (halves_at key r.pending)

complete_split_takes : (m : MapState) (to : ActorId) (q : ReqNo) (range : ℕ) (pending : Option Pending) → Speaks (complete_split_taken m to q range pending)
complete_split_takes m to q range None = (tt, tt)
complete_split_takes m to q range (Some (pendings.Split key low high)) = ((inr refl, tt), (refl, tt))
complete_split_takes m to q range (Some (pendings.Merge right into)) = (tt, tt)

complete_split_says : (m : MapState) (to : ActorId) (q : ReqNo) (range : ℕ) (o : Option RangeEntry) → Speaks (complete_split_rule m to q range o)
complete_split_says m to q range None = (tt, tt)
complete_split_says m to q range (Some r) = complete_split_takes m to q range r.pending

begin_merge_takes : (m : MapState) (to : ActorId) (q : ReqNo) (left right : ℕ) (into : Option ℕ) → Speaks (begin_merge_taken m to q left right into)
begin_merge_takes m to q left right (Some into) = ((inr refl, tt), tt)
begin_merge_takes m to q left right None = if_elim Speaks (has_numbers m 1) _ _ (λ t. ((inr refl, tt), tt)) (λ f. (tt, tt))

begin_merge_says : (m : MapState) (to : ActorId) (q : ReqNo) (left right : ℕ) (o : Option RangeEntry) → Speaks (begin_merge_rule m to q left right o)
begin_merge_says m to q left right None = (tt, tt)
begin_merge_says m to q left right (Some l) = begin_merge_takes m to q left right (union_with right l.pending)

complete_merge_says : (m : MapState) (to : ActorId) (q : ReqNo) (left right : ℕ) (into : Option ℕ) → Speaks (complete_merge_rule m to q left right into)
complete_merge_says m to q left right None = (tt, tt)
complete_merge_says m to q left right (Some into) = ((inr refl, tt), (refl, tt))

-- a refusal is told too
called_says : (m : MapState) (p : Packet) (q : ReqNo) (fault : Option Refusal) (o : Outcome MapState) → Speaks o → Speaks (or_refused m Map p q fault o)
called_says m p q (Some refusal) o says = ((inr refl, tt), tt)
called_says m p q None o says = says

told_says : (m : MapState) (p : Packet) (body : MapBody) → Speaks (map_told m p body)
told_says m p (maps.Route key q) = route_says m p q (range_of_key m.ranges key)
told_says m p (maps.BeginSplit range generation key q) =
    let r = range_at m.ranges range in
    called_says m p q (begin_split_fault generation key r) _ (begin_split_says m p.from q range key r)
told_says m p (maps.CompleteSplit range generation q) =
    let r = range_at m.ranges range in
    called_says m p q (complete_split_fault generation r) _ (complete_split_says m p.from q range r)
told_says m p (maps.BeginMerge left left_generation right right_generation q) =
    let l = range_at m.ranges left in
    called_says m p q (begin_merge_fault left_generation right_generation l (range_at m.ranges right)) _ (begin_merge_says m p.from q left right l)
told_says m p (maps.CompleteMerge left left_generation right right_generation q) =
    let into = union_at m.ranges left right in
    called_says m p q (complete_merge_fault left_generation right_generation (range_at m.ranges left) (range_at m.ranges right) into) _ (complete_merge_says m p.from q left right into)
told_says m p body = (tt, tt)

map_says : (m : MapState) (p : Packet) (body : Body) → Speaks (map_rule m p body)
map_says m p (bodies.Map body) = told_says m p body
map_says m p body = (tt, tt)

observed_by : (w : StreamSystem) (notes : List Note) → AreTableNotes notes → ByMoves w (record w { notes = w.notes ++ notes })
observed_by w [] h = subst (ByMoves w) (ap (λ (l : List Note). record w { notes = l }) (sym (append-nil w.notes))) (none w)
observed_by w (note ∷ notes) h =
    let v : StreamSystem = record w { notes = w.notes ++ note ∷ [] } in
    let shown : ByMoves w v = record { moves = Observes note ∷ []; is = ap (λ (b : Bool). if b then v else w) h.0 } in
    subst (ByMoves w) (ap (λ (l : List Note). record w { notes = l }) (append_assoc w.notes (note ∷ []) notes))
    (both w v (record v { notes = v.notes ++ notes }) shown (observed_by v notes h.1))

spoken_by : (w : StreamSystem) (packets : List Packet) (notes : List Note) → MaySendAll packets → AreTableNotes notes → ByMoves w (told_by_map w packets notes)
spoken_by w packets notes may shown = both w (sent_more w packets) (told_by_map w packets notes) (sent_by w packets may) (observed_by (sent_more w packets) notes shown)

-- where it stops with a record that stands, what that shows is shown
does_by : (c : Cluster) (o : Outcome MapState) → Speaks o → ByMoves c.stream_layer (map_performs c o).stream_layer
does_by c o may =
    if_elim (λ (d : Cluster). ByMoves c.stream_layer d.stream_layer) (stops_in c.map_cell o.written) _ _
    (λ t. if_elim (λ (d : Cluster). ByMoves c.stream_layer d.stream_layer) (stands_in c.map_cell) _ _ (λ s. spoken_by c.stream_layer [] o.notes tt may.1) (λ s. none c.stream_layer))
    (λ f. spoken_by c.stream_layer o.packets o.notes may.0 may.1)

does_if_by : (c : Cluster) (refusal : Option Refusal) (o : Outcome MapState) → Speaks o → ByMoves c.stream_layer (map_performs_if c refusal o).stream_layer
does_if_by c (Some refusal) o may = none c.stream_layer
does_if_by c None o may = does_by c o may

map_takes_by : (c : Cluster) (p : Packet) → ByMoves c.stream_layer (map_takes c p).stream_layer
map_takes_by c p = if_elim (λ (d : Cluster). ByMoves c.stream_layer d.stream_layer) c.map_cell.up _ _ (λ up. does_by c (map_rule c.map p p.body) (map_says c.map p p.body)) (λ up. none c.stream_layer)

-- ---- events

goes_by : (c : Cluster) (number : ℕ) (p : Packet) (to : ActorId) → happens c.stream_layer (Deliver number) ≡ delivered c.stream_layer p to → ByMoves c.stream_layer (delivered_to c p to).stream_layer
goes_by c number p (Node n) is = subst (ByMoves c.stream_layer) is (one c.stream_layer (Happens (Deliver number)))
goes_by c number p Manager is = subst (ByMoves c.stream_layer) is (one c.stream_layer (Happens (Deliver number)))
goes_by c number p Map is = map_takes_by c p
goes_by c number p (Server s) is =
    let o : ServersOutcome = server_takes c.servers s p in
    told_by c.stream_layer o.packets o.notes (may_send_all o.packets (server_takes_shows c.servers s p).0)
goes_by c number p (User u) is = none c.stream_layer

delivers_by : (c : Cluster) (number : ℕ) (found : Option Packet) → slice_get c.stream_layer.post number ≡ found → ByMoves c.stream_layer (delivers c found).stream_layer
delivers_by c number None is = none c.stream_layer
delivers_by c number (Some p) is = goes_by c number p p.to (ap (delivered_if c.stream_layer) is)

stops_by : (c : Cluster) (actor : ActorId) (call : ℕ) (keep : Bool) → ByMoves c.stream_layer (stops c actor call keep).stream_layer
stops_by c (Node n) call keep = one c.stream_layer (Happens (Stop (Node n) call keep))
stops_by c Manager call keep = one c.stream_layer (Happens (Stop Manager call keep))
stops_by c Map call keep = if_elim (λ (d : Cluster). ByMoves c.stream_layer d.stream_layer) c.map_cell.up _ _ (λ up. if_elim (λ (d : Cluster). ByMoves c.stream_layer d.stream_layer) (call == 0) _ _ (λ now. none c.stream_layer) (λ later. none c.stream_layer)) (λ up. none c.stream_layer)
stops_by c (Server s) call keep = still_by c.stream_layer (server_stops c.servers s call) (server_stops_still c.servers s call)
stops_by c (User u) call keep = none c.stream_layer

restarts_by : (c : Cluster) (actor : ActorId) → ByMoves c.stream_layer (restarts c actor).stream_layer
restarts_by c (Node n) = one c.stream_layer (Happens (Restart (Node n)))
restarts_by c Manager = one c.stream_layer (Happens (Restart Manager))
restarts_by c Map = if_elim (λ (d : Cluster). ByMoves c.stream_layer d.stream_layer) c.map_cell.up _ _ (λ up. none c.stream_layer) (λ up. none c.stream_layer)
restarts_by c (Server s) = still_by c.stream_layer (server_starts c.servers s c.now c.batch) (server_starts_still c.servers s c.now c.batch)
restarts_by c (User u) = none c.stream_layer

assigns_by : (c : Cluster) (range server until : ℕ) → ByMoves c.stream_layer (assigns c range server until).stream_layer
assigns_by c range server until =
    let found = range_at c.map.ranges range in
    if_elim (λ (d : Cluster). ByMoves c.stream_layer d.stream_layer) c.map_cell.up _ _
    (λ up. does_if_by c (assign_fault server c.now found) (assign_rule c.map range server until found) (assign_says c.map range server until found)) (λ up. none c.stream_layer)

renews_by : (c : Cluster) (range server until : ℕ) → ByMoves c.stream_layer (renews c range server until).stream_layer
renews_by c range server until =
    let found = range_at c.map.ranges range in
    if_elim (λ (d : Cluster). ByMoves c.stream_layer d.stream_layer) c.map_cell.up _ _
    (λ up. does_if_by c (renew_fault server found) (renew_rule c.map range server until found) (renew_says c.map range server until found)) (λ up. none c.stream_layer)

moment_by : (c : Cluster) (now : ℕ) → ByMoves c.stream_layer (shows_moment c now).stream_layer
moment_by c now = if_elim (λ (d : Cluster). ByMoves c.stream_layer d.stream_layer) (nat_lt now c.now) _ _ (λ t. none c.stream_layer) (λ f. none c.stream_layer)

pub comes_by : (c : Cluster) (event : Event) → ByMoves c.stream_layer (cluster_after c event).stream_layer
comes_by c (Submit user to body) = one c.stream_layer (Happens (Submit user to body))
comes_by c (Deliver number) = delivers_by c number (slice_get c.stream_layer.post number) refl
comes_by c (Stop actor call keep) = stops_by c actor call keep
comes_by c (Restart actor) = restarts_by c actor
comes_by c (Decide e) = one c.stream_layer (Happens (Decide e))
comes_by c (GiveUp server range pick) =
    let o : ServersOutcome = server_gives_up c.servers server range pick in
    told_by c.stream_layer o.packets o.notes (may_send_all o.packets (server_gives_up_tidy c.servers server range pick).0)
comes_by c (Assign range server until) = assigns_by c range server until
comes_by c (Renew range server until) = renews_by c range server until
comes_by c (Moment now) = moment_by c now
comes_by c (Checkpoint server range combine) =
    let o : ServersOutcome = server_checkpoints c.servers server range combine in
    told_by c.stream_layer o.packets o.notes (may_send_all o.packets (server_checkpoints_tidy c.servers server range combine).0)
comes_by c (Split server range key) =
    let o : ServersOutcome = server_splits c.servers server range key in
    told_by c.stream_layer o.packets o.notes (may_send_all o.packets (server_splits_tidy c.servers server range key).0)
comes_by c (Merge server left right) =
    let o : ServersOutcome = server_merges c.servers server left right in
    told_by c.stream_layer o.packets o.notes (may_send_all o.packets (server_merges_tidy c.servers server left right).0)

-- ---- whole runs

pub led_by : (events : List Event) (c : Cluster) → ByMoves c.stream_layer (cluster_after_all c events).stream_layer
led_by [] c = none c.stream_layer
led_by (event ∷ events) c =
    both c.stream_layer (cluster_after c event).stream_layer (cluster_after_all c (event ∷ events)).stream_layer (comes_by c event) (led_by events (cluster_after c event))

pub moves_agree : (nodes target : ℕ) (w : StreamSystem) → ByMoves (start nodes target) w → Agree w.notes
moves_agree nodes target w h = subst (λ (v : StreamSystem). Agree v.notes) h.is (agree_in_moves nodes target h.moves)

pub moves_keep : (nodes target : ℕ) (w : StreamSystem) → ByMoves (start nodes target) w → Kept w.notes
moves_keep nodes target w h = subst (λ (v : StreamSystem). Kept v.notes) h.is (kept_in_moves nodes target h.moves)

-- whatever happens, all that is shown of an extent agrees
pub led_agrees : (nodes servers target batch : ℕ) (events : List Event) → Agree (cluster_after_all (first_cluster nodes servers target batch) events).stream_layer.notes
led_agrees nodes servers target batch events =
    moves_agree nodes target (cluster_after_all (first_cluster nodes servers target batch) events).stream_layer (led_by events (first_cluster nodes servers target batch))

-- and each acknowledged append stands where it was acknowledged
pub led_keeps : (nodes servers target batch : ℕ) (events : List Event) → Kept (cluster_after_all (first_cluster nodes servers target batch) events).stream_layer.notes
led_keeps nodes servers target batch events =
    moves_keep nodes target (cluster_after_all (first_cluster nodes servers target batch) events).stream_layer (led_by events (first_cluster nodes servers target batch))
