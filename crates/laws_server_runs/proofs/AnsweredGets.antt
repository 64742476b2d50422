-- EACH GET THAT SERVERS ANSWER shows the table of the line that its generation has come to, whichever ranges splits make: it is served under
-- that generation, not paused, while its lease lasts.
use Rattle.std.proofs.Common.{◌≡◌, ℕ, Bool, true, false, List, [], ◌∷◌, ◌++◌, Option, Some, None, Contains, refl, sym, ◌∙◌, subst, inl, inr, arith}
use Rattle.std.proofs.lemmas.Bool.{leb-false}
use Rattle.std.proofs.lemmas.List.Elements.{Contains-push_cases, Contains-append_cases}
use Rattle.block_types.specs.declared.record.Nodes.{Nodes}
use Rattle.wire.specs.declared.actor.ReqNo.{ReqNo}
use Rattle.wire.specs.declared.packet.Packet.{Packet}
use Rattle.memtable.specs.declared.cell.Place.{Place}
use Rattle.metadata.specs.Keys.{within}
use Rattle.model_streams.specs.Maps.{entry_at}
use Rattle.model_partition.specs.declared.table_note.TableNote.{TableNote}
use Rattle.model_partition.specs.declared.table_note.TableNote.TheVariants as tables
use Rattle.model_partition.specs.declared.waiting.WaitingGet.{WaitingGet}
use Rattle.model_partition.specs.Answering.{answer_rule}
use Rattle.model_partition.specs.Getting.{came, read_at}
use Rattle.model_partition.specs.Past.{Bytes}
use Rattle.model_partition.specs.PlaceReads.{place_of}
use Rattle.model_partition.specs.Range.{RangeState, RangeOutcome, is_serving}
use Rattle.model_partition.specs.Server.{ServerState, ServerOutcome, range_of, split_of, counted, give_up_rule}
use Rattle.model_partition.specs.Servers.{ServerCell, cell_takes, cell_given_up, cell_gives_up, cell_checkpoints, cell_splits, cell_rests, cell_stops, cell_starts, at_server}
use Rattle.model_histories.specs.IndexContents.{served_entries}
use Rattle.model_histories.specs.ServedTables.{ServesAt}
use Rattle.model_histories.specs.ServerRun.{ServerRun, RangeEffect, ServerEvent, Takes, GivesUp, Checkpoints, Splits, Stops, Starts, Moment, Builds, with_effect, answer_effect, cell_effect, server_effect, run_of}
use Rattle.model_histories.specs.TableContents.{table_in}
use Rattle.model_histories.specs.StreamActions.{StreamAction, answer_actions, followed_actions, split_stood}
use Rattle.laws_checkpoints.specs.ShownTables.{HoldsBytes}
use Rattle.laws_loads.proofs.Cells.{taken_there}
use Rattle.laws_loads.specs.RangeView.{RangeView, view_after_all}
use Rattle.laws_server_runs.specs.Answerers.{MapBook, AreAnswered}
use Rattle.laws_server_runs.specs.BornRanges.{AllInOrder}
use Rattle.laws_server_runs.specs.ChildInvariant.{AreBornSo, ChildKept, IsBuiltBy}
use Rattle.laws_server_runs.specs.RangeInvariant.{InOrder}
use Rattle.laws_server_runs.specs.Reads.{AnswersAt, ComesTo, AllAnswer}
use Rattle.laws_server_runs.specs.RunInvariant.{HeldKept, view_at, with_stage}
use Rattle.laws_server_runs.specs.Turns.{outcome_of}
use Rattle.laws_server_runs.proofs.Actions.{actions_here}
use Rattle.laws_server_runs.proofs.AnsweredBirths.{all_born}
use Rattle.laws_server_runs.proofs.ChildTheorem.{all_children, order_before, served_at_own_keys}
use Rattle.laws_server_runs.proofs.Fronts.{order_before_actions}
use Rattle.laws_server_runs.proofs.GetsServed.{WaitsRightly, all_wait}
use Rattle.laws_server_runs.proofs.HeldBytes.{holds_came}
use Rattle.laws_server_runs.proofs.Others.{streams_same}
use Rattle.laws_server_runs.proofs.ReadTables.{looked_up}
use Rattle.laws_server_runs.proofs.ServedNotes.{serves_of, view_both}
use Rattle.laws_server_runs.proofs.ServerGets.{give_up_none, splits_none, checkpoint_gots, server_shows}
use Rattle.laws_server_runs.proofs.TriedGets.{AllKeys, LooksUp, get_leaves, come_leaves}
use Rattle.laws_server_runs.proofs.WaitingGets.{AllGots, transact_leaves, answer_elim}

-- ---- observations

module _ (Q : (range g : ℕ) → List ℕ → Option (List ℕ) → Type 0) where
  -- what is so of all answered Gets is so of each
  got_among : (notes : List TableNote) (range g : ℕ) (key : Bytes) (value : Option Bytes) → AllGots Q notes → Contains notes (tables.Got range g key value) → Q range g key value
  got_among [] range g key value all there = absurd (let below = there.1 in omega (arith, below))
  got_among (note ∷ notes) range g key value all there = elim (Contains-append_cases (note ∷ []) notes (tables.Got range g key value) there) [
    | inl here ↦ elim (Contains-push_cases [] note (tables.Got range g key value) here) [
      | inl none ↦ absurd (let below = none.1 in omega (arith, below))
      | inr same ↦ (subst (λ n. AllGots Q (n ∷ notes)) same all).0
    ]
    | inr others ↦ got_among notes range g key value (rest note all) others
  ]
    where
      rest : (note : TableNote) → AllGots Q (note ∷ notes) → AllGots Q notes
      rest (tables.Began other h number changes) all = all
      rest (tables.Done other h number) all = all
      rest (tables.Loaded other h table next) all = all
      rest (tables.Got other h k v) all = all.1

-- ---- Gets that wait at a range that is served

-- the range is served, and the key is among its own
abbrev IsOwn : RangeState → List ℕ → Type 0
IsOwn r key = (is_serving r.stage ≡ true) × (within r.said.keys key ≡ true)

own_keys : (r : RangeState) → is_serving r.stage ≡ true → (gets : List WaitingGet) → AllKeys (λ key. within r.said.keys key ≡ true) gets → AllKeys (IsOwn r) gets
own_keys r serving [] all = tt
own_keys r serving (g ∷ gets) all = ((serving, all.0), own_keys r serving gets all.1)

own_gets : (r : RangeState) → WaitsRightly r → AllKeys (IsOwn r) r.gets
own_gets r w = by (is_serving r.stage) refl
  where
    by : (b : Bool) → is_serving r.stage ≡ b → AllKeys (IsOwn r) r.gets
    by true serving = own_keys r serving r.gets w.inside
    by false unserved = subst (AllKeys (IsOwn r)) (sym (w.none unserved)) tt

module _ (texts : ℕ → Bytes) (batch servers : ℕ) (earlier : List ServerEvent) (born : AreBornSo texts batch servers earlier) (order : AllInOrder texts batch servers earlier) where
  abbrev x : ServerRun
  x = run_of batch servers earlier

  module _ (s : ℕ) where
    abbrev Q : (range g : ℕ) → List ℕ → Option (List ℕ) → Type 0
    Q range g key value = AnswersAt x s range g key value

    -- what is premised of streams, after what the server does with them
    abbrev OrderAfter : RangeEffect → Type 0
    OrderAfter e = (range : ℕ) → InOrder texts (view_at range (with_effect s x e) s)

    module _ (cell : ServerCell) (st : ServerState) (there : entry_at x.servers s ≡ Some cell) (up : cell.state ≡ Some st) (range : ℕ) (r : RangeState) (held : range_of st.ranges range ≡ Some r) where
      abbrev kept : ChildKept texts (IsBuiltBy earlier) range x
      kept = all_children texts batch servers earlier born order range

      abbrev held_kept : HeldKept texts range kept.kept.run (view_at range x s) r (split_of st.splits range)
      held_kept = kept.kept.ranges s cell st there up r held

      abbrev v : RangeView
      v = with_stage (view_at range x s) held_kept.split

      -- what a look-up finds is what is owed
      finds : (bytes : List (Place × List ℕ)) → HoldsBytes texts bytes → LooksUp (IsOwn r) Q st.context (record r { held = bytes })
      finds bytes right key value own paused lasts is =
          subst (λ n. AnswersAt x s n r.load.generation key value) (sym held_kept.range.range) (record {
            state = r;
            at = at;
            under = refl;
            unpaused = paused;
            lasts = leb-false r.until st.context.moment lasts;
            inside = own.1;
            shows = λ log. found ∙ (served_at_own_keys texts batch servers earlier born order s range r at log).table key own.1;
          })
        where
          at : ServesAt x s range r
          at = record { cell = cell; state = st; there = there; runs = up; held = held; serves = own.0 }

          found : value ≡ table_in texts (served_entries texts r) key
          found =
              looked_up texts kept.kept.run v r (streams_same texts kept.kept.run (view_at range x 0) v refl refl kept.kept.streams) (serves_of texts range kept.kept.run v r own.0 held_kept.range) bytes right key own.1 value is

      waits : AllKeys (IsOwn r) r.gets
      waits = own_gets r (all_wait batch servers earlier s cell st there up range r held)

      answer_shows : (w : ReqNo) (p : Packet) → OrderAfter (answer_effect st p w range (Some r)) → AllGots Q (answer_rule st.context r w p.body).notes
      answer_shows w p after =
          answer_elim (AllKeys (IsOwn r)) Q st.context r waits (λ actions o. InOrder texts (view_after_all r.load.generation (view_at range x s) actions) → AllGots Q o.notes) (λ actions o l order. l.1) w
          (λ e offset bytes order.
          (come_leaves (IsOwn r) Q r waits st.context w (place_of e offset bytes) bytes
          (finds (came r.held (read_at r.gets w) (place_of e offset bytes) bytes)
          (holds_came texts r.held (read_at r.gets w) (place_of e offset bytes) bytes held_kept.range.held (taken_there (texts e) offset bytes order.shown.0)))).1)
          p.body before
        where
          o : RangeOutcome
          o = answer_rule st.context r w p.body

          own : List StreamAction
          own = answer_actions st.context r w p.body o

          stood : List StreamAction
          stood = split_stood st.context r (split_of st.splits range) w p.body o

          followed : List StreamAction
          followed = followed_actions (counted st.context o) (split_of st.splits range) o.after

          here : InOrder texts (view_after_all r.load.generation (view_at range x s) (followed ++ (stood ++ own)))
          here = subst (λ z. InOrder texts z) (actions_here s range r.load.generation x (followed ++ (stood ++ own))) (after range)

          split_behind : InOrder texts (view_after_all r.load.generation (view_at range x s) (stood ++ own))
          split_behind =
              order_before_actions texts r.load.generation (view_after_all r.load.generation (view_at range x s) (stood ++ own)) followed
              (subst (λ z. InOrder texts z) (view_both texts range r.load.generation (view_at range x s) followed (stood ++ own)) here)

          before : InOrder texts (view_after_all r.load.generation (view_at range x s) own)
          before =
              order_before_actions texts r.load.generation (view_after_all r.load.generation (view_at range x s) own) stood
              (subst (λ z. InOrder texts z) (view_both texts range r.load.generation (view_at range x s) stood own) split_behind)

    -- ---- a packet comes

    packet_shows : (cell : ServerCell) (st : ServerState) → entry_at x.servers s ≡ Some cell → cell.state ≡ Some st → (p : Packet) → OrderAfter (server_effect p (Some st)) → AllGots Q (cell_takes cell p (Some st)).notes
    packet_shows cell st there up p =
        server_shows st p (λ e notes. OrderAfter e → AllGots Q notes) (λ e after. tt)
        (λ e range r q changes held after. (transact_leaves (λ gets. Unit {0}) Q st.context r tt p.from q changes).1)
        (λ e range r q key held after.
        (get_leaves (IsOwn r) Q r (waits cell st there up range r held) st.context (finds cell st there up range r held r.held (held_kept cell st there up range r held).range.held) p.from q key (λ serving inside. (serving, inside))).1)
        (λ w range r held after. answer_shows cell st there up range r held w p after)

    takes_shows : (p : Packet) → OrderAfter (cell_effect p (entry_at x.servers s)) → AllGots Q (outcome_of x.servers (Takes s p)).notes
    takes_shows p after = go (entry_at x.servers s) refl after
      where
        by_state : (cell : ServerCell) → entry_at x.servers s ≡ Some cell → (o : Option ServerState) → cell.state ≡ o → OrderAfter (server_effect p o) → AllGots Q (cell_takes cell p o).notes
        by_state cell there None is after = tt
        by_state cell there (Some st) is after = packet_shows cell st there is p after

        go : (o : Option ServerCell) → entry_at x.servers s ≡ o → OrderAfter (cell_effect p o) → AllGots Q (at_server x.servers s (λ cell. cell_takes cell p cell.state) o).notes
        go None there after = tt
        go (Some cell) there after = by_state cell there cell.state refl after

    -- ---- what else comes shows none

    gives_up_shows : (range : ℕ) (pick : Nodes) → AllGots Q (outcome_of x.servers (GivesUp s range pick)).notes
    gives_up_shows range pick = go (entry_at x.servers s)
      where
        by_rule : (cell : ServerCell) (st : ServerState) (o : Option ServerOutcome) → give_up_rule st range pick ≡ o → AllGots Q (cell_given_up cell o).notes
        by_rule cell st None e = tt
        by_rule cell st (Some o) e = subst (AllGots Q) (sym (give_up_none st range pick o e)) tt

        by_state : (cell : ServerCell) (o : Option ServerState) → AllGots Q (cell_gives_up cell range pick o).notes
        by_state cell None = tt
        by_state cell (Some st) = by_rule cell st (give_up_rule st range pick) refl

        go : (o : Option ServerCell) → AllGots Q (at_server x.servers s (λ cell. cell_gives_up cell range pick cell.state) o).notes
        go None = tt
        go (Some cell) = by_state cell cell.state

    checkpoint_shows : (range : ℕ) (combine : Bool) → AllGots Q (outcome_of x.servers (Checkpoints s range combine)).notes
    checkpoint_shows range combine = go (entry_at x.servers s)
      where
        by_state : (cell : ServerCell) (o : Option ServerState) → AllGots Q (cell_checkpoints cell range combine o).notes
        by_state cell None = tt
        by_state cell (Some st) = checkpoint_gots st Q range combine

        go : (o : Option ServerCell) → AllGots Q (at_server x.servers s (λ cell. cell_checkpoints cell range combine cell.state) o).notes
        go None = tt
        go (Some cell) = by_state cell cell.state

    split_shows : (range : ℕ) (key : List ℕ) → AllGots Q (outcome_of x.servers (Splits s range key)).notes
    split_shows range key = go (entry_at x.servers s)
      where
        by_state : (cell : ServerCell) (o : Option ServerState) → AllGots Q (cell_splits cell range key o).notes
        by_state cell None = tt
        by_state cell (Some st) = subst (AllGots Q) (sym (splits_none st range key)) tt

        go : (o : Option ServerCell) → AllGots Q (at_server x.servers s (λ cell. cell_splits cell range key cell.state) o).notes
        go None = tt
        go (Some cell) = by_state cell cell.state

    stop_shows : (call : ℕ) → AllGots Q (outcome_of x.servers (Stops s call)).notes
    stop_shows call = go (entry_at x.servers s)
      where
        go : (o : Option ServerCell) → AllGots Q (at_server x.servers s (λ cell. cell_rests (cell_stops call cell)) o).notes
        go None = tt
        go (Some cell) = tt

    start_shows : (now size : ℕ) → AllGots Q (outcome_of x.servers (Starts s now size)).notes
    start_shows now size = go (entry_at x.servers s)
      where
        go : (o : Option ServerCell) → AllGots Q (at_server x.servers s (λ cell. cell_rests (cell_starts s now size cell cell.state)) o).notes
        go None = tt
        go (Some cell) = tt

  -- ---- whatever comes to a server

  event_shows : (event : ServerEvent) → AllInOrder texts batch servers (event ∷ earlier) → (s : ℕ) → ComesTo event s → AllGots (λ range g key value. AnswersAt x s range g key value) (outcome_of x.servers event).notes
  event_shows (Takes server p) all s here = subst (λ n. AllGots (λ range g key value. AnswersAt x n range g key value) (outcome_of x.servers (Takes server p)).notes) here (takes_shows server p (λ range. record {
    log = (all range).log;
    metadata = (all range).metadata;
    once = (all range).once;
    ends = (all range).ends;
    shown = (all range).shown;
    answered = (all range).answered;
  }))
  event_shows (GivesUp server range pick) all s here = subst (λ n. AllGots (λ range g key value. AnswersAt x n range g key value) (outcome_of x.servers (GivesUp server range pick)).notes) here (gives_up_shows server range pick)
  event_shows (Checkpoints server range combine) all s here = subst (λ n. AllGots (λ range g key value. AnswersAt x n range g key value) (outcome_of x.servers (Checkpoints server range combine)).notes) here (checkpoint_shows server range combine)
  event_shows (Splits server range key) all s here = subst (λ n. AllGots (λ range g key value. AnswersAt x n range g key value) (outcome_of x.servers (Splits server range key)).notes) here (split_shows server range key)
  event_shows (Stops server call) all s here = subst (λ n. AllGots (λ range g key value. AnswersAt x n range g key value) (outcome_of x.servers (Stops server call)).notes) here (stop_shows server call)
  event_shows (Starts server now size) all s here = subst (λ n. AllGots (λ range g key value. AnswersAt x n range g key value) (outcome_of x.servers (Starts server now size)).notes) here (start_shows server now size)
  event_shows (Moment now) all s here = absurd here
  event_shows (Builds source range) all s here = absurd here

-- ---- whatever comes

module _ (texts : ℕ → Bytes) (batch servers : ℕ) where
  -- EACH GET IS ANSWERED FROM ITS LINE
  pub all_answer : (events : List ServerEvent) → AreBornSo texts batch servers events → AllInOrder texts batch servers events → AllAnswer batch servers events
  all_answer [] born order = tt
  all_answer (event ∷ earlier) born order =
      let before : AllInOrder texts batch servers earlier = order_before texts batch servers event earlier order in (
        λ s range g key value got.
            got_among (λ range g key value. AnswersAt (run_of batch servers earlier) s range g key value) (outcome_of (run_of batch servers earlier).servers event).notes range g key value
            (event_shows texts batch servers earlier born.2 before event order s got.0) got.1,
        all_answer earlier born.2 before,
      )

  -- where the map and the manager answer by their tables
  pub answered_reads : (b : MapBook) (events : List ServerEvent) → AreAnswered b batch servers events → AllInOrder texts batch servers events → AllAnswer batch servers events
  answered_reads b events answered order = all_answer events (all_born texts b batch servers events answered order).0 order
