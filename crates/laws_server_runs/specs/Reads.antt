-- What is owed of the Gets that servers answer: each shows the table of the line that its generation has come to, while the lease of its range
-- lasts.
use Rattle.std.specs.Prelude.{◌≡◌, ◌<◌, ℕ, true, false, List, [], ◌∷◌, Option, Some, Contains}
use Rattle.metadata.specs.Keys.{within}
use Rattle.model_streams.specs.Maps.{entry_at}
use Rattle.model_partition.specs.declared.table_note.TableNote.TheVariants.{Got}
use Rattle.model_partition.specs.declared.waiting.WaitingGet.{WaitingGet}
use Rattle.model_partition.specs.Loading.{Group}
use Rattle.model_partition.specs.Past.{Bytes, after_line, empty_table}
use Rattle.model_partition.specs.Range.{RangeState, is_paused, is_serving}
use Rattle.model_partition.specs.Server.{ServerState, range_of}
use Rattle.model_partition.specs.Servers.{ServerCell}
use Rattle.model_histories.specs.Renaming.{renamed, decoded}
use Rattle.model_histories.specs.ServedTables.{ServesAt, line_to}
use Rattle.model_histories.specs.ServerRun.{ServerRun, ServerEvent, Takes, GivesUp, Checkpoints, Splits, Stops, Starts, log_name, run_of}
use Rattle.model_histories.specs.Story.{KeepsOrder, whole}
use Rattle.laws_server_runs.specs.Turns.{outcome_of}

-- ---- Gets that wait

-- A range with Gets that wait is served, and their keys are among its own.
pub record GetsAreServed (r : RangeState) : Type 0 where
  pub serves : (g : WaitingGet) → Contains r.gets g → is_serving r.stage ≡ true
  pub inside : (g : WaitingGet) → Contains r.gets g → within r.said.keys g.key ≡ true

-- so it is of each range at each server that runs
abbrev pub AllGetsAreServed : ServerRun → Type 0
AllGetsAreServed x = (s : ℕ) (cell : ServerCell) (state : ServerState) → entry_at x.servers s ≡ Some cell → cell.state ≡ Some state →
    (range : ℕ) (r : RangeState) → range_of state.ranges range ≡ Some r → GetsAreServed r

-- ---- Gets that are answered

-- A Get that a server is about to show: it serves the range under the generation, which no split or merge has paused; the lease has not
-- ended; the key is the range's; and the value is the one in the table of the line that the generation has come to.
pub record AnswersAt (x : ServerRun) (s range g : ℕ) (key : Bytes) (value : Option Bytes) : Type 0 where
  pub state : RangeState
  pub at : ServesAt x s range state
  pub under : state.load.generation ≡ g
  pub unpaused : is_paused state.pause ≡ false
  pub lasts : at.state.context.moment < state.until
  pub inside : within state.said.keys key ≡ true
  pub shows : (log : KeepsOrder (x.story (log_name range))) → value ≡ after_line (line_to (renamed decoded (whole Group log.copies (x.story (log_name range)))) g) empty_table key

-- an event comes to this server
abbrev pub ComesTo : ServerEvent → ℕ → Type 0
ComesTo (Takes server p) s = server ≡ s
ComesTo (GivesUp server range pick) s = server ≡ s
ComesTo (Checkpoints server range combine) s = server ≡ s
ComesTo (Splits server range key) s = server ≡ s
ComesTo (Stops server call) s = server ≡ s
ComesTo (Starts server now batch) s = server ≡ s
ComesTo event s = ⊥

-- a server to which an event comes shows a Get that it answers then: of this range, under this generation, of this key, with this value
abbrev pub ShowsGot : ServerRun → ServerEvent → (s range g : ℕ) → Bytes → Option Bytes → Type 0
ShowsGot x event s range g key value = ComesTo event s × Contains (outcome_of x.servers event).notes (Got range g key value)

-- each Get that servers show as these events come to them; the newest first
abbrev pub AllAnswer : (batch servers : ℕ) → List ServerEvent → Type 0
AllAnswer batch servers [] = Unit {0}
AllAnswer batch servers (event ∷ earlier) =
    ((s range g : ℕ) (key : Bytes) (value : Option Bytes) → ShowsGot (run_of batch servers earlier) event s range g key value → AnswersAt (run_of batch servers earlier) s range g key value)
    × AllAnswer batch servers earlier
