-- What servers and the map add to a layer, one after the other.
use Rattle.std.proofs.Common.{◌≡◌, ◌<◌, ℕ, List, [], ◌∷◌, ◌++◌, length, Option, Some, refl, sym, ap, ◌∙◌, subst, inl, inr, append-nil, slice_get, slice_index_or}
use Rattle.std.proofs.lemmas.Option.{same_Some}
use Rattle.wire.specs.declared.note.Note.{Note}
use Rattle.wire.specs.declared.packet.Packet.{Packet}
use Rattle.wire.specs.declared.rows.Row.{Row}
use Rattle.model_streams.specs.StreamSystem.{StreamSystem}
use Rattle.model_partition.specs.Cluster.{told_by_map}
use Rattle.model_partition.specs.declared.shown_table.ShownTable.{ShownTable}
use Rattle.model_partition.specs.declared.table_note.TableNote.{TableNote}
use Rattle.model_partition.specs.declared.table_note.TableNote.TheVariants as tables
use Rattle.model_partition.specs.Servers.{ArePlain, ShowsLoad, ServerCell, ServersOutcome, noted, rows_of, server_takes, told, with_told}
use Rattle.world_streams.specs.StreamLayer.{StreamLayerState, StreamLayerMirrors}
use Rattle.world_servers.specs.Servers.{outcome}
use Rattle.world_steps.specs.ActorStep.{ActorStep}
use Rattle.world_streams.specs.ServersStep.{AfterMap, ShowsRows, AfterServers, told_with, with_sent, with_told_by_map}
use Rattle.world_streams.proofs.EventSimulation.{get_at, nodes_as, manager_as}

-- ---- one observation more

told_plain : (shown : List Note) (rows : List Row) (note : TableNote) (more : List TableNote) → ArePlain (note ∷ more) → told_with note rows ≡ told shown note
told_plain shown rows (tables.Began range generation number changes) more h = refl
told_plain shown rows (tables.Done range generation number) more h = refl
told_plain shown rows (tables.Loaded range generation table next) more h = absurd h
told_plain shown rows (tables.Got range generation key value) more h = refl

later_plain : (note : TableNote) (more : List TableNote) → ArePlain (note ∷ more) → ArePlain more
later_plain (tables.Began range generation number changes) more h = h
later_plain (tables.Done range generation number) more h = h
later_plain (tables.Loaded range generation table next) more h = absurd h
later_plain (tables.Got range generation key value) more h = h

head_is : {A : Type 0} (x y : A) (xs ys : List A) → x ∷ xs ≡ y ∷ ys → (x ≡ y) × (xs ≡ ys)
head_is x y xs ys e = (cc, cc)

-- the rows are those of the observation that is of a loaded table
pub told_is : (shown : List Note) (rows : List Row) (note : TableNote) (more : List TableNote) → ShowsRows shown rows (note ∷ more) → told_with note rows ≡ told shown note
told_is shown rows note more (inl plain) = told_plain shown rows note more plain
told_is shown rows note more (inr load) =
    let same = head_is note (tables.Loaded load.range load.generation load.table load.next) more [] load.is in
    subst (λ (n : TableNote). told_with n rows ≡ told shown n) (sym same.0)
    (ap (told_with (tables.Loaded load.range load.generation load.table load.next)) load.rows_are)

-- after it there is none
pub later_rows : (shown other : List Note) (rows left : List Row) (note : TableNote) (more : List TableNote) → ShowsRows shown rows (note ∷ more) → ShowsRows other left more
later_rows shown other rows left note more (inl plain) = inl (later_plain note more plain)
later_rows shown other rows left note more (inr load) =
    let same = head_is note (tables.Loaded load.range load.generation load.table load.next) more [] load.is in
    inl (subst ArePlain (sym same.1) tt)

-- ---- the table that is about to be shown

pub rows_shown : (shown : List Note) (rows : List Row) (loading : Option ShownTable) (more : List TableNote) → ShowsLoad loading more →
    ((table : ShownTable) → loading ≡ Some table → rows ≡ rows_of shown table) → ShowsRows shown rows more
rows_shown shown rows loading more (inl plain) are = inl plain
rows_shown shown rows loading more (inr load) are = inr (record {
  range = load.range;
  generation = load.generation;
  table = load.table;
  next = load.next;
  is = load.is;
  rows_are = are load.table load.from;
})

-- ---- beside the model

pub map_mirrors : (r : StreamLayerState) (packets : List Packet) (notes : List Note) (w : StreamSystem) → StreamLayerMirrors r w → StreamLayerMirrors (with_told_by_map r packets notes) (told_by_map w packets notes)
map_mirrors r packets notes w m = record {
  post = ap (λ (l : List Packet). l ++ packets) m.post;
  notes = ap (λ (l : List Note). l ++ notes) m.notes;
  nodes = nodes_as r.nodes w (told_by_map w packets notes) m.nodes refl refl refl;
  manager = manager_as r.manager w (told_by_map w packets notes) m.manager refl refl;
}

pub told_mirrors : (r : StreamLayerState) (packets : List Packet) (notes : List TableNote) (w : StreamSystem) → StreamLayerMirrors r w → StreamLayerMirrors (with_sent r packets notes) (with_told w packets notes)
told_mirrors r packets notes w m = record {
  post = ap (λ (l : List Packet). l ++ packets) m.post;
  notes = ap (λ (l : List Note). noted l notes) m.notes;
  nodes = nodes_as r.nodes w (with_told w packets notes) m.nodes refl refl refl;
  manager = manager_as r.manager w (with_told w packets notes) m.manager refl refl;
}

-- ---- steps of servers

-- the layer after a step of the servers
pub took : (r x : StreamLayerState) (after : List ServerCell) (o : ServersOutcome) (step : ActorStep) → o ≡ outcome after step → x.nodes ≡ r.nodes → x.manager ≡ r.manager →
    x.post ≡ r.post ++ step.packets → x.notes ≡ noted r.notes step.tables → AfterServers r x after o
took r x after o step is nodes manager post notes =
    let posts : x.post ≡ r.post ++ o.packets = post ∙ ap (λ (p : ServersOutcome). r.post ++ p.packets) (sym is) in
    let all : x.notes ≡ noted r.notes o.notes = notes ∙ ap (λ (p : ServersOutcome). noted r.notes p.notes) (sym is) in
    record {
      stream_layer = λ i. record { nodes = nodes i; manager = manager i; post = posts i; notes = all i };
      servers_are = ap (λ (p : ServersOutcome). p.servers) (sym is);
    }

-- the packet that was given is the one of the number
pub took_packet : (r x : StreamLayerState) (before after : List ServerCell) (s k : ℕ) (d : Packet) (step : ActorStep) → k < length r.post → d ≡ slice_index_or r.post k d →
    server_takes before s d ≡ outcome after step → x.nodes ≡ r.nodes → x.manager ≡ r.manager → x.post ≡ r.post ++ step.packets → x.notes ≡ noted r.notes step.tables →
    (p : Packet) → slice_get r.post k ≡ Some p → AfterServers r x after (server_takes before s p)
took_packet r x before after s k d step there is gave nodes manager post notes p found =
    subst (λ (q : Packet). AfterServers r x after (server_takes before s q)) (same_Some d p (ap Some is ∙ sym (get_at r.post k d there) ∙ found))
    (took r x after (server_takes before s d) step gave nodes manager post notes)

-- ---- steps of the map

-- the map takes the packet of the number, and what it sends and shows comes after all that was sent and shown
pub routed : (r x : StreamLayerState) (k : ℕ) (d : Packet) (sent : List Packet) (shown : List Note) (steps : Packet → List Packet → List Note → Type 0) → k < length r.post → d ≡ slice_index_or r.post k d →
    steps d sent shown → x ≡ with_told_by_map r sent shown → (p : Packet) → slice_get r.post k ≡ Some p → AfterMap r x (steps p)
routed r x k d sent shown steps there is holds layer p found = record {
  packets = sent;
  notes = shown;
  stream_layer = layer;
  steps_are = subst (λ (q : Packet). steps q sent shown) (same_Some d p (ap Some is ∙ sym (get_at r.post k d there) ∙ found)) holds;
}

-- a call of the map shows nothing
pub map_called : (r x : StreamLayerState) (sent : List Packet) (steps : List Packet → List Note → Type 0) → steps sent [] → x ≡ record r { post = r.post ++ sent } → AfterMap r x steps
map_called r x sent steps holds layer = record {
  packets = sent;
  notes = [];
  stream_layer = layer ∙ ap (λ (l : List Note). record r { post = r.post ++ sent; notes = l }) (sym (append-nil r.notes));
  steps_are = holds;
}
