-- Turns that no user of a stream sees, actions that add nothing to its story, and steps of a client that make no other turns but
-- for its append.
use Rattle.std.specs.Prelude.{◌≡◌, ℕ, ◌+◌, List, [], ◌∷◌, Option, Some, None}
use Rattle.block_types.specs.Limits.{group_size}
use Rattle.replica.specs.Groups.{Group}
use Rattle.client.specs.declared.job.News.{News}
use Rattle.client.specs.declared.job.News.TheVariants as news
use Rattle.commitlog.specs.Record.{spelling}
use Rattle.client.specs.Client.{ClientState}
use Rattle.model_streams.specs.StreamSystem.{StreamSystem}
use Rattle.model_partition.specs.declared.server_context.ServerContext.{ServerContext}
use Rattle.model_partition.specs.Range.{OutGroup, RangeOutcome}
use Rattle.model_histories.specs.ServerRun.{place_number}
use Rattle.model_partition.specs.Serving.{record_of}
use Rattle.model_histories.specs.Story.{Copy}
use Rattle.model_histories.specs.StreamActions.{StreamAction, Reads, Forms, Stands, Shows, Finds, Stores, last_position}
use Rattle.model_histories.specs.ServerTurns as turns
use Rattle.laws_ranges.specs.Serves.{Stand, Side, group_in, RuleGoes}

abbrev pub IsQuiet : turns.Turn Group → Type 0
IsQuiet turns.Assigned = Unit {0}
IsQuiet (turns.AllSealed n) = Unit {0}
IsQuiet (turns.LastOpen e) = Unit {0}
IsQuiet (turns.Found stood end) = Unit {0}
IsQuiet turns.Fails = Unit {0}
IsQuiet turns.IsShut = Unit {0}
IsQuiet (turns.ConfirmedIs start end read) = ⊥
IsQuiet (turns.Forms group) = ⊥
IsQuiet (turns.AppendedAt from to) = ⊥
IsQuiet (turns.ExtendedTo m) = Unit {0}

abbrev pub AreQuiet : List (turns.Turn Group) → Type 0
AreQuiet [] = Unit {0}
AreQuiet (t ∷ earlier) = IsQuiet t × AreQuiet earlier

-- a rule whose turns are quiet, on both streams of a range
pub record GoesQuietly (generation : ℕ → ℕ) (range : ℕ) (w : StreamSystem) (i : ℕ) (m l : Side) (d : ServerContext) (o : RangeOutcome) : Type 0 where
  pub goes : RuleGoes generation range w i m l d o
  pub metadata : AreQuiet goes.metadata_turns
  pub log : AreQuiet goes.log_turns

-- nothing happens to the stories: an extent, an index, a page or a value is read, or row data is stored
abbrev pub IsRead : StreamAction → Type 0
IsRead (Reads kind read) = Unit {0}
IsRead (Forms kind group) = ⊥
IsRead (Stands kind extent at group) = ⊥
IsRead (Shows start log_end metadata_end) = ⊥
IsRead (Finds found) = Unit {0}
IsRead (Stores stored) = Unit {0}

abbrev pub AreReads : List StreamAction → Type 0
AreReads [] = Unit {0}
AreReads (action ∷ earlier) = IsRead action × AreReads earlier

-- an Append is out
pub record IsSent (phase : turns.Phase Group) : Type 0 where
  pub n : ℕ
  pub append : ℕ
  pub group : Group
  pub is : phase ≡ turns.Sent n append group

-- the group that is out is answered, at an offset of the last extent that the client knows, and nothing else happens
pub record AppendsOnly (c : ClientState) (offset : ℕ) (x : Stand) (list : List (turns.Turn Group)) : Type 0 where
  pub from : ℕ
  pub to : ℕ
  pub only : list ≡ turns.AppendedAt from to ∷ []
  pub sent : IsSent x.phase
  pub begins : from ≡ place_number (last_position c offset)
  pub ends : to ≡ from + group_size sent.group

-- a group is formed, and nothing else happens
abbrev pub FormsOnly : Group → Stand → List (turns.Turn Group) → Type 0
FormsOnly group = λ x list. list ≡ turns.Forms group ∷ []

-- all that was read is shown from a place on, and nothing else happens
abbrev pub ShowsOnly : ℕ → ℕ → List (Copy Group) → Stand → List (turns.Turn Group) → Type 0
ShowsOnly start end read = λ x list. list ≡ turns.ConfirmedIs start end read ∷ []

abbrev pub Quietly : Stand → List (turns.Turn Group) → Type 0
Quietly = λ x list. AreQuiet list

-- the turns of a step of a client, by what it tells
abbrev pub MadeBy : ClientState → Option News → Stand → List (turns.Turn Group) → Type 0
MadeBy c None = λ x list. AreQuiet list
MadeBy c (Some news.Fenced) = λ x list. AreQuiet list
MadeBy c (Some (news.Appended e offset)) = λ x list. AppendsOnly c offset x list
MadeBy c (Some (news.Checked e found)) = λ x list. AreQuiet list
MadeBy c (Some (news.Sealed e l)) = λ x list. AreQuiet list
MadeBy c (Some (news.Content e upto)) = λ x list. AreQuiet list

-- the group whose Append is out is that of the transactions that are out
pub record OutStands (x : Stand) (out : Option OutGroup) : Type 0 where
  pub group : OutGroup
  pub is : out ≡ Some group
  pub spelled : group_in x.phase ≡ spelling (record_of group.first group.transactions)

-- ---- loads

-- the range is not served yet
abbrev pub IsLoading : turns.Phase Group → Type 0
IsLoading turns.Idle = Unit {0}
IsLoading turns.Opening = Unit {0}
IsLoading (turns.Checking e) = Unit {0}
IsLoading (turns.Sealing e) = Unit {0}
IsLoading (turns.Confirming n live) = Unit {0}
IsLoading (turns.Serving n live) = ⊥
IsLoading (turns.Sent n append group) = ⊥
IsLoading (turns.Closing n append group) = ⊥
IsLoading (turns.Growing n append group) = ⊥
