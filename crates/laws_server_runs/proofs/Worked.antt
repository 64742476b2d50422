-- A worked example: a server forms a group that is answered, a second one loads it, and a late answer changes nothing.
use Rattle.std.proofs.Common.{◌≡◌, ◌⊎◌, ℕ, List, [], ◌∷◌, map, refl, sym, ap, ◌∙◌, subst, Option, Some, None, inl, inr, arith}
use Rattle.std.proofs.lemmas.List.{append-nil}
use Rattle.blocks.specs.Record as numbers
use Rattle.wire.specs.declared.actor.ActorId.{ActorId}
use Rattle.wire.specs.declared.actor.ActorId.TheVariants.{Map, Manager, Node, User}
use Rattle.wire.specs.declared.actor.ReqNo.{ReqNo}
use Rattle.wire.specs.declared.actor.ReqNo.TheVariants as requests
use Rattle.wire.specs.declared.body.AppendBody.TheVariants as appends
use Rattle.wire.specs.declared.body.Body.{Body}
use Rattle.wire.specs.declared.body.Body.TheVariants as bodies
use Rattle.wire.specs.declared.body.CheckBody.TheVariants as checks
use Rattle.wire.specs.declared.body.MapBody.TheVariants as maps
use Rattle.wire.specs.declared.body.ReadBody.TheVariants as reads
use Rattle.wire.specs.declared.body.StreamBody.TheVariants as streams
use Rattle.wire.specs.declared.body.TableBody.TheVariants as bodies_of_tables
use Rattle.wire.specs.declared.note.Note.{Note}
use Rattle.wire.specs.declared.note.Note.TheVariants.{Began, Done, Loaded}
use Rattle.wire.specs.declared.streams.StreamExtent.{StreamExtent}
use Rattle.wire.specs.declared.streams.StreamList.{StreamList}
use Rattle.wire.specs.declared.streams.StreamKind.TheVariants as kinds
use Rattle.wire.specs.declared.streams.StreamLists.{StreamLists}
use Rattle.wire.specs.declared.streams.StreamName.{StreamName}
use Rattle.client.specs.declared.job.Job.TheVariants.{Idle}
use Rattle.client.specs.declared.load.LoadPhase.TheVariants as phases
use Rattle.client.specs.Client.{ClientState}
use Rattle.memtable.specs.declared.cell.Cell.TheVariants.{Inline}
use Rattle.memtable.specs.Entries.{Entries}
use Rattle.metadata.specs.Fold.{all_keys, first_metadata}
use Rattle.commitlog.specs.Reading as reading
use Rattle.commitlog.specs.Record.{spelling}
use Rattle.replica.specs.Groups.{joined}
use Rattle.model_partition.specs.declared.shown_table.ShownTable.{ShownTable}
use Rattle.model_partition.specs.declared.pause.Pause.TheVariants.{Off}
use Rattle.model_partition.specs.declared.stage.Stage.TheVariants as stages
use Rattle.model_partition.specs.declared.table_note.TableNote.{TableNote}
use Rattle.model_partition.specs.declared.table_note.TableNote.TheVariants as tables
use Rattle.model_partition.specs.Past.{Bytes, Transaction, Replays, after_line, empty_table, table_notes, first_range}
use Rattle.model_partition.specs.Loading.{Group}
use Rattle.model_partition.specs.Range.{RangeState}
use Rattle.model_partition.specs.Server.{ServerState, started}
use Rattle.model_partition.specs.Servers.{first_pick}
use Rattle.model_histories.specs.Story.{Placed, StreamEvent, Made, Answered, Showed, Story, Copy, placed, whole, event_at, KeepsOrder, EndsRise}
use Rattle.model_histories.specs.ServerRun.{ServerRun, ServerEvent, Takes, run_of, log_name, metadata_name}
use Rattle.model_histories.specs.StreamActions.{PlacedBytes}
use Rattle.model_histories.specs.Log.{line_shown}
use Rattle.model_histories.specs.Renaming.{renamed, renamed_placed, decoded}
use Rattle.laws_tables.proofs.Whole.{from_first}
use Rattle.model_histories.specs.TableContents.{StandsAt, table_in}
use Rattle.model_histories.specs.ServedTables.{line_to, AreFirst, AreUnborn, AreSeenAs, AllStand, LoadsOnce, StreamsInOrder, IsAtLine, ServesAt}
use Rattle.laws_tables.specs.Fenced.{Seen, Landed, Fenced, LogRun, IsLogRun, visible}
use Rattle.laws_tables.proofs.Fenced.{keeps_order, ends_rise}
use Rattle.laws_tables.proofs.Range.{event_cases}
use Rattle.laws_loads.proofs.Rows.{rows_say}
use Rattle.laws_server_runs.proofs.Theorem.{run_replays, served_at_line}
use Rattle.model_histories.specs.IndexContents.{served_entries}

-- ---- what comes

abbrev pub put : Transaction
put = record { key = 97 ∷ []; value = Some (120 ∷ []) } ∷ []

-- a group of this transaction, which has 24 bytes
abbrev pub group : Group
group = spelling (record { first = 1; transactions = put ∷ [] })

abbrev pub comes : (server : ℕ) → ActorId → Body → ServerEvent
comes server from body = Takes server (record { from = from; to = from; body = body })

-- the request of a server of this count
abbrev pub asked : (server count : ℕ) → ReqNo
asked server count = requests.Server server 1 count

abbrev pub nothing : StreamList
nothing = record { base = 0; extents = [] }

-- the streams of the range, where its log has these extents
abbrev pub lists : List StreamExtent → StreamLists
lists extents = record { metadata = nothing; log = record { base = 0; extents = extents }; row_data = nothing; blob_data = nothing }

abbrev pub extent : StreamExtent
extent = record { extent = 7; places = first_pick; length = None }

-- the group stands at the begin of extent 7
abbrev appended : ServerEvent
appended = comes 1 (Node 1) (bodies.Append (appends.Appended (asked 1 5) 7 0))

-- one after the other, the newest first
abbrev pub assigned_first : List ServerEvent
assigned_first = comes 1 Map (bodies.Map (maps.Assign 1 1 100)) ∷ []

abbrev pub opened_first : List ServerEvent
opened_first = comes 1 Manager (bodies.Stream (streams.Opened (asked 1 1) (lists []))) ∷ assigned_first

abbrev pub served_first : List ServerEvent
served_first = comes 1 Manager (bodies.Stream (streams.Confirmed (asked 1 2))) ∷ opened_first

abbrev pub formed_first : List ServerEvent
formed_first = comes 1 (User 1) (bodies.Table (bodies_of_tables.Transact 1 put (requests.User 1 1))) ∷ served_first

abbrev pub grown_first : List ServerEvent
grown_first = comes 1 Manager (bodies.Stream (streams.Extended (asked 1 4) 7 first_pick)) ∷ formed_first

abbrev pub answered_first : List ServerEvent
answered_first = appended ∷ grown_first

abbrev pub assigned_second : List ServerEvent
assigned_second = comes 2 Map (bodies.Map (maps.Assign 1 2 100)) ∷ answered_first

abbrev pub opened_second : List ServerEvent
opened_second = comes 2 Manager (bodies.Stream (streams.Opened (asked 2 1) (lists (extent ∷ [])))) ∷ assigned_second

abbrev pub checked_second : List ServerEvent
checked_second = comes 2 (Node 1) (bodies.Check (checks.Checked (asked 2 2) (Some 24))) ∷ opened_second

abbrev pub read_second : List ServerEvent
read_second = comes 2 (Node 1) (bodies.Read (reads.Groups (asked 2 3) 7 (group ∷ []))) ∷ checked_second

abbrev pub on_time : List ServerEvent
on_time = comes 2 Manager (bodies.Stream (streams.Confirmed (asked 2 4))) ∷ read_second

abbrev pub events : List ServerEvent
events = appended ∷ on_time

-- ---- what the servers make of it

abbrev run : ServerRun
run = run_of 1 2 events

abbrev pub log : Story Group
log = Showed 2 0 24 (record { from = 0; to = 24; group = group } ∷ []) ∷ Answered 1 0 24 ∷ Made 1 group ∷ Showed 1 0 0 [] ∷ []

abbrev pub metadata : Story Group
metadata = Showed 2 0 0 [] ∷ Showed 1 0 0 [] ∷ []

-- the layer that the second server loads
abbrev pub loaded : Entries
loaded = (97 ∷ [], Inline (120 ∷ [])) ∷ []

-- what is shown of this layer, over no index
abbrev pub whole_table : Entries → ShownTable
whole_table entries = record { live = entries; indexes = []; keys = all_keys }

abbrev told : List TableNote
told = tables.Loaded 1 1 (whole_table []) 1 ∷ tables.Began 1 1 1 put ∷ tables.Done 1 1 1 ∷ tables.Loaded 1 2 (whole_table loaded) 2 ∷ []

-- the bytes of the group, at the begin of the extent
abbrev pub stands : PlacedBytes
stands = record { extent = 7; offset = 0; bytes = joined group }

-- what it makes; the late answer changes nothing
makes : (run.story (log_name first_range) ≡ log) × (run.story (metadata_name first_range) ≡ metadata) × (run.notes ≡ told) × (run.shown first_range ≡ stands ∷ []) × (run.answered first_range ≡ stands ∷ [])
    × (run ≡ run_of 1 2 on_time)
unfolding numbers.number reading.record_at reading.joined_at reading.text_at reading.body_at reading.transactions_at reading.transaction_at reading.change_at reading.counted_at reading.cell_at reading.fields_at reading.transactions_of
makes = (refl, refl, refl, refl, refl, refl)

-- the range as the second server holds it
abbrev client : StreamName → List StreamExtent → Option ℕ → ClientState
client stream extents checked =
    record { server = 2; stream = stream; generation = 2; base = 0; extents = extents; checked = checked; pick = first_pick; group = []; job = Idle }

abbrev pub served : RangeState
served =
    record {
      until = 100;
      pause = Off;
      load = record { server = 2; range = 1; generation = 2; phase = phases.Confirmed };
      stage = stages.Serving;
      metadata = client (metadata_name first_range) [] None;
      log = client (log_name first_range) (extent ∷ []) (Some 24);
      rows = client (record { range = 1; kind = kinds.RowData }) [] None;
      blob_data = nothing;
      said = first_metadata;
      regions = record { start = record { index = 0; offset = 0 }; end = None; next = 2; keys = all_keys } ∷ [];
      live = loaded;
      fixed = None;
      indexes = [];
      reading = None;
      control = None;
      next = 2;
      position = record { index = 0; offset = 24 };
      queue = [];
      out = None;
      gets = [];
      held = [];
    }

abbrev second : ServerState
second = record { context = record (started 2 1 0 first_pick 1).context { count = 6 }; ranges = (1, served) ∷ []; splits = []; merges = [] }

serves : ServesAt run 2 1 served
unfolding numbers.number reading.record_at reading.joined_at reading.text_at reading.body_at reading.transactions_at reading.transaction_at reading.change_at reading.counted_at reading.cell_at reading.fields_at reading.transactions_of
serves = record { cell = record { session = 1; state = Some second }; state = second; there = refl; runs = refl; held = refl; serves = refl }

-- ---- the premises

-- the log as one with a fence, for any group
module _ (A : Type 0) (block : A) where
  abbrev stood : Copy A
  stood = record { from = 0; to = 24; append = 1; group = block }

  abbrev at_first : LogRun A
  at_first = Seen (Showed 1 0 0 []) ∷ Fenced 1 0 ∷ []

  abbrev fenced : LogRun A
  fenced =
      Seen (Showed 2 0 24 (placed stood ∷ [])) ∷ Fenced 2 24 ∷ Seen (Answered 1 0 24) ∷ Landed stood ∷ Seen (Made 1 block) ∷ at_first

  is_at_first : IsLogRun at_first
  is_at_first = (([], [], refl, refl), ((omega arith, omega arith), tt))

  is_fenced : IsLogRun fenced
  is_fenced = (
    (Seen (Answered 1 0 24) ∷ Landed stood ∷ Seen (Made 1 block) ∷ at_first, [], refl, refl),
    (
      (omega arith, omega arith),
      (
        (block, (0, omega arith, refl)),
        ((1, refl, omega arith, omega arith, omega arith), (omega arith, is_at_first)),
      ),
    ),
  )

  pub log_keeps : KeepsOrder (visible fenced)
  log_keeps = keeps_order A fenced is_fenced

  pub log_ends : EndsRise (visible fenced)
  log_ends = ends_rise A fenced is_fenced

  pub metadata_keeps : KeepsOrder {A = A} (Showed 2 0 0 [] ∷ Showed 1 0 0 [] ∷ [])
  metadata_keeps = keeps_order A (Seen (Showed 2 0 0 []) ∷ Fenced 2 0 ∷ at_first) ((at_first, [], refl, refl), ((omega arith, omega arith), is_at_first))

  -- what a load is of
  LoadIs : ℕ → ℕ → Type 0
  LoadIs l g = ((l ≡ 3) × (g ≡ 2)) ⊎ ((l ≡ 0) × (g ≡ 1))

  loads : (l g start end : ℕ) (groups : List (Placed A)) → event_at (visible fenced) l ≡ Some (Showed g start end groups) → LoadIs l g
  unfolding LoadIs
  loads l g start end groups e = newest (event_cases A (Showed 2 0 24 (placed stood ∷ [])) (Answered 1 0 24 ∷ Made 1 block ∷ Showed 1 0 0 [] ∷ []) l it e)
    where
      it : StreamEvent A
      it = Showed g start end groups

      oldest : ((l ≡ 0) × (Showed 1 0 0 [] ≡ it)) ⊎ (event_at [] l ≡ Some it) → LoadIs l g
      oldest (inl q) = let s : 1 ≡ g = cc in inr (q.0, sym s)
      oldest (inr none) = absurd cc

      made : ((l ≡ 1) × (Made 1 block ≡ it)) ⊎ (event_at (Showed 1 0 0 [] ∷ []) l ≡ Some it) → LoadIs l g
      made (inl q) = absurd cc
      made (inr older) = oldest (event_cases A (Showed 1 0 0 []) [] l it older)

      answered : ((l ≡ 2) × (Answered 1 0 24 ≡ it)) ⊎ (event_at (Made 1 block ∷ Showed 1 0 0 [] ∷ []) l ≡ Some it) → LoadIs l g
      answered (inl q) = absurd cc
      answered (inr older) = made (event_cases A (Made 1 block) (Showed 1 0 0 [] ∷ []) l it older)

      newest : ((l ≡ 3) × (Showed 2 0 24 (placed stood ∷ []) ≡ it)) ⊎ (event_at (Answered 1 0 24 ∷ Made 1 block ∷ Showed 1 0 0 [] ∷ []) l ≡ Some it) → LoadIs l g
      newest (inl q) = let s : 2 ≡ g = cc in inl (q.0, sym s)
      newest (inr older) = answered (event_cases A (Answered 1 0 24) (Made 1 block ∷ Showed 1 0 0 [] ∷ []) l it older)

  pub once : LoadsOnce (visible fenced)
  once l m g start end start' end' groups groups' one two = grind (arith, loads l g start end groups one, loads m g start' end' groups' two)

are_first : AreFirst events
are_first = (tt, (tt, (tt, (tt, (tt, (refl, (tt, (tt, (tt, (tt, (tt, (refl, tt))))))))))))

pub are_unborn : AreUnborn first_range events
are_unborn = (tt, (tt, (tt, (tt, (tt, (tt, (tt, (tt, (tt, (tt, (tt, (tt, tt))))))))))))

-- ---- what follows, over any texts in which the group stands at the begin of its extent

module _ (texts : ℕ → Bytes) (there : StandsAt (texts 7) 0 (joined group)) where
  in_order : StreamsInOrder texts first_range run
  in_order = record {
    metadata = subst KeepsOrder (sym makes.1) (metadata_keeps Group group);
    log = subst KeepsOrder (sym makes.0) (log_keeps Group group);
    once = subst LoadsOnce (sym makes.0) (once Group group);
    ends = subst EndsRise (sym makes.0) (log_ends Group group);
    shown = subst (AllStand texts) (sym makes.3) (there, tt);
    answered = subst (AllStand texts) (sym makes.4) (there, tt);
  }

  pub both_replay : (h : List Note) → AreSeenAs texts told (table_notes h) → Replays h
  both_replay h seen = run_replays texts 1 2 events h are_unborn are_first in_order (subst (λ z. AreSeenAs texts z (table_notes h)) (sym makes.2) seen)

  -- the range at the second server is at its line, by any copies that belong to its loads
  pub at_line : (order : KeepsOrder log) → IsAtLine texts log order.copies served
  at_line = subst (λ (z : Story Group). (order : KeepsOrder z) → IsAtLine texts z order.copies served) makes.0 (λ order. served_at_line texts 1 2 events 2 first_range served are_unborn in_order serves order)

  -- its line has the one transaction
  line_is : (order : KeepsOrder log) → line_to (renamed decoded (whole Group order.copies log)) 2 ≡ put ∷ []
  unfolding numbers.number reading.record_at reading.joined_at reading.text_at reading.body_at reading.transactions_at reading.transaction_at reading.change_at reading.counted_at reading.cell_at reading.fields_at reading.transactions_of
  line_is order =
      ap (λ (groups : List (Placed Group)). line_shown (map (renamed_placed decoded) groups))
      (sym (order.shown 3 2 0 24 (record { from = 0; to = 24; group = group } ∷ []) refl ∙ ap (map placed) (from_first Group (order.copies 3))))

  -- and its table is that of this line
  pub table_is : KeepsOrder log → (key : Bytes) → table_in texts (served_entries texts served) key ≡ after_line (put ∷ []) empty_table key
  table_is order key = (at_line order).table key ∙ ap (λ l. after_line l empty_table key) (line_is order)

-- what is seen of it
abbrev seen : List Note
seen = Loaded 1 1 [] 1 ∷ Began 1 1 1 put ∷ Done 1 1 1 ∷ Loaded 1 2 (record { key = 97 ∷ []; value = 120 ∷ [] } ∷ []) 2 ∷ []

-- the premises are met, so this reload replays
pub worked_replays : Replays seen
worked_replays = both_replay texts (record { before = []; behind = []; is = sym (append-nil (joined group)); at = refl }) seen
    (([], refl, λ key. refl), (refl, (refl, ((record { key = 97 ∷ []; value = 120 ∷ [] } ∷ [], refl, rows_say texts [] loaded (tt, tt) tt), tt))))
  where
    texts : ℕ → Bytes
    texts e = joined group
