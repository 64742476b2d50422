-- What comes to a server is shown by answered Gets alone, or by none.
use Rattle.std.proofs.Common.{◌≡◌, ◌⊎◌, ℕ, Bool, List, [], ◌∷◌, ◌++◌, map, Option, Some, None, refl, sym, subst, inl, inr}
use Rattle.block_types.specs.declared.record.Nodes.{Nodes}
use Rattle.wire.specs.declared.actor.ActorId.{ActorId}
use Rattle.wire.specs.declared.actor.ReqNo.{ReqNo}
use Rattle.wire.specs.declared.body.Body.{Body}
use Rattle.wire.specs.declared.packet.Packet.{Packet}
use Rattle.wire.specs.declared.refusal.Refusal.{Refusal}
use Rattle.memtable.specs.declared.cell.Place.{Place}
use Rattle.model_streams.specs.Maps.{entry_at}
use Rattle.model_partition.specs.declared.server_context.ServerContext.{ServerContext}
use Rattle.model_partition.specs.declared.table_note.TableNote.{TableNote}
use Rattle.model_partition.specs.declared.table_note.TableNote.TheVariants as tables
use Rattle.model_partition.specs.declared.waiting.WaitingGet.{WaitingGet}
use Rattle.model_partition.specs.Answering.{answer_rule}
use Rattle.model_partition.specs.Getting.{Tried, Lookup, Is, Needs, asks_place, answered, look, standing, try_fault, try_unless, try, try_all, get_fault, gets, came, read_at, without, bytes_come}
use Rattle.model_partition.specs.PlaceReads.{place_of, places_of}
use Rattle.model_partition.specs.Range.{RangeState}
use Rattle.model_partition.specs.Server.{ServerState, ServerOutcome, give_up_rule, server_rule}
use Rattle.model_partition.specs.Servers.{ServerCell, cell_rests, cell_takes, cell_given_up, cell_gives_up, cell_checkpoints, cell_splits, cell_stops, cell_starts, at_server}
use Rattle.model_histories.specs.ServerRun.{ServerEvent, Takes, GivesUp, Checkpoints, Splits, Stops, Starts, Moment, Builds}
use Rattle.laws_server_runs.specs.Turns.{outcome_of}
use Rattle.laws_server_runs.proofs.ServerGets.{give_up_none, splits_none, checkpoint_gots, server_shows}
use Rattle.laws_server_runs.proofs.WaitingGets.{AllGots, transact_leaves, answer_elim}

-- each is an answered Get
abbrev pub AreGots : List TableNote → Type 0
AreGots [] = Unit {0}
AreGots (tables.Got range g key value ∷ notes) = AreGots notes
AreGots (tables.Began range g number changes ∷ notes) = ⊥
AreGots (tables.Done range g number ∷ notes) = ⊥
AreGots (tables.Loaded range g table next ∷ notes) = ⊥

-- none is
abbrev pub HaveNoGot : List TableNote → Type 0
HaveNoGot notes = AllGots (λ range g key value. ⊥) notes

abbrev pub ArePure : List TableNote → Type 0
ArePure notes = HaveNoGot notes ⊎ AreGots notes

both_gots : (xs ys : List TableNote) → AreGots xs → AreGots ys → AreGots (xs ++ ys)
both_gots [] ys a b = b
both_gots (tables.Got range g key value ∷ xs) ys a b = both_gots xs ys a b
both_gots (tables.Began range g number changes ∷ xs) ys a b = absurd a
both_gots (tables.Done range g number ∷ xs) ys a b = absurd a
both_gots (tables.Loaded range g table next ∷ xs) ys a b = absurd a

-- ---- Gets

module _ (d : ServerContext) (r : RangeState) where
  asks_gots : (g : WaitingGet) (page : Bool) (place : Place) (places : Option Nodes) → AreGots (asks_place d g page place places).notes
  asks_gots g page place None = tt
  asks_gots g page place (Some places) = tt

  answered_gots : (g : WaitingGet) (found : Lookup) → AreGots (answered d r g found).notes
  answered_gots g (Is value) = tt
  answered_gots g (Needs page place) = asks_gots g page place (places_of r place.extent)

  tried_gots : (g : WaitingGet) (fault : Option Refusal) → AreGots (try_unless d r g fault).notes
  tried_gots g (Some why) = tt
  tried_gots g None = answered_gots g (look r.held r.indexes g.key (standing r g.key))

  try_gots : (g : WaitingGet) → AreGots (try d r g).notes
  try_gots g = tried_gots g (try_fault d r)

all_gots : (d : ServerContext) (r : RangeState) (gs : List WaitingGet) → AreGots (try_all d r gs).notes
all_gots d r [] = tt
all_gots d r (g ∷ gs) =
    let one : Tried = try d r g in
    both_gots one.notes (try_all (record d { count = one.count }) r gs).notes (try_gots d r g) (all_gots (record d { count = one.count }) r gs)

module _ (d : ServerContext) (r : RangeState) where
  gets_gots : (from : ActorId) (q : ReqNo) (key : List ℕ) (fault : Option Refusal) → AreGots (gets d r from q key fault).notes
  gets_gots from q key (Some why) = tt
  gets_gots from q key None = try_gots d r (record { from = from; request = q; key = key; reads = [] })

  come_gots : (w : ReqNo) (place : Place) (bytes : List ℕ) → AreGots (bytes_come d r w place bytes).notes
  come_gots w place bytes = all_gots d (record r { held = came r.held (read_at r.gets w) place bytes }) (map (without w) r.gets)

  answer_pure : (w : ReqNo) (body : Body) → ArePure (answer_rule d r w body).notes
  answer_pure w body =
      answer_elim (λ gets. Unit {0}) (λ range g key value. ⊥) d r tt (λ actions o. ArePure o.notes) (λ actions o l. inl l.1) w (λ e offset bytes. inr (come_gots w (place_of e offset bytes) bytes)) body

-- ---- servers

rule_pure : (st : ServerState) (p : Packet) → ArePure (server_rule st p p.body).notes
rule_pure st p =
    server_shows st p (λ e notes. ArePure notes) (λ e. inl tt)
    (λ e range r q changes held. inl (transact_leaves (λ gets. Unit {0}) (λ range g key value. ⊥) st.context r tt p.from q changes).1)
    (λ e range r q key held. inr (gets_gots st.context r p.from q key (get_fault st.context r key)))
    (λ w range r held. answer_pure st.context r w p.body)

module _ (servers : List ServerCell) (s : ℕ) where
  takes_pure : (p : Packet) → ArePure (outcome_of servers (Takes s p)).notes
  takes_pure p = go (entry_at servers s)
    where
      by_state : (cell : ServerCell) (o : Option ServerState) → ArePure (cell_takes cell p o).notes
      by_state cell None = inl tt
      by_state cell (Some st) = rule_pure st p

      go : (o : Option ServerCell) → ArePure (at_server servers s (λ cell. cell_takes cell p cell.state) o).notes
      go None = inl tt
      go (Some cell) = by_state cell cell.state

  gives_up_pure : (range : ℕ) (pick : Nodes) → ArePure (outcome_of servers (GivesUp s range pick)).notes
  gives_up_pure range pick = go (entry_at servers s)
    where
      by_rule : (cell : ServerCell) (st : ServerState) (o : Option ServerOutcome) → give_up_rule st range pick ≡ o → ArePure (cell_given_up cell o).notes
      by_rule cell st None e = inl tt
      by_rule cell st (Some o) e = subst ArePure (sym (give_up_none st range pick o e)) (inl tt)

      by_state : (cell : ServerCell) (o : Option ServerState) → ArePure (cell_gives_up cell range pick o).notes
      by_state cell None = inl tt
      by_state cell (Some st) = by_rule cell st (give_up_rule st range pick) refl

      go : (o : Option ServerCell) → ArePure (at_server servers s (λ cell. cell_gives_up cell range pick cell.state) o).notes
      go None = inl tt
      go (Some cell) = by_state cell cell.state

  checkpoints_pure : (range : ℕ) (combine : Bool) → ArePure (outcome_of servers (Checkpoints s range combine)).notes
  checkpoints_pure range combine = go (entry_at servers s)
    where
      by_state : (cell : ServerCell) (o : Option ServerState) → ArePure (cell_checkpoints cell range combine o).notes
      by_state cell None = inl tt
      by_state cell (Some st) = inl (checkpoint_gots st (λ range g key value. ⊥) range combine)

      go : (o : Option ServerCell) → ArePure (at_server servers s (λ cell. cell_checkpoints cell range combine cell.state) o).notes
      go None = inl tt
      go (Some cell) = by_state cell cell.state

  splits_pure : (range : ℕ) (key : List ℕ) → ArePure (outcome_of servers (Splits s range key)).notes
  splits_pure range key = go (entry_at servers s)
    where
      by_state : (cell : ServerCell) (o : Option ServerState) → ArePure (cell_splits cell range key o).notes
      by_state cell None = inl tt
      by_state cell (Some st) = subst ArePure (sym (splits_none st range key)) (inl tt)

      go : (o : Option ServerCell) → ArePure (at_server servers s (λ cell. cell_splits cell range key cell.state) o).notes
      go None = inl tt
      go (Some cell) = by_state cell cell.state

  stops_pure : (call : ℕ) → ArePure (outcome_of servers (Stops s call)).notes
  stops_pure call = go (entry_at servers s)
    where
      go : (o : Option ServerCell) → ArePure (at_server servers s (λ cell. cell_rests (cell_stops call cell)) o).notes
      go None = inl tt
      go (Some cell) = inl tt

  starts_pure : (now size : ℕ) → ArePure (outcome_of servers (Starts s now size)).notes
  starts_pure now size = go (entry_at servers s)
    where
      go : (o : Option ServerCell) → ArePure (at_server servers s (λ cell. cell_rests (cell_starts s now size cell cell.state)) o).notes
      go None = inl tt
      go (Some cell) = inl tt

-- WHAT COMES TO A SERVER shows answered Gets alone, or none
pub event_pure : (servers : List ServerCell) (event : ServerEvent) → ArePure (outcome_of servers event).notes
event_pure servers (Takes s p) = takes_pure servers s p
event_pure servers (GivesUp s range pick) = gives_up_pure servers s range pick
event_pure servers (Checkpoints s range combine) = checkpoints_pure servers s range combine
event_pure servers (Splits s range key) = splits_pure servers s range key
event_pure servers (Stops s call) = stops_pure servers s call
event_pure servers (Starts s now size) = starts_pure servers s now size
event_pure servers (Moment now) = inl tt
event_pure servers (Builds source range) = inl tt
