-- What a rule of a range does with its streams, as servers see it and as the machines of both streams have it: the two are one.
use Rattle.std.specs.Prelude.{◌≡◌, ◌⊎◌, ℕ, suc, List, [], ◌∷◌, map, Option, None}
use Rattle.wire.specs.declared.streams.StreamKind.{StreamKind}
use Rattle.wire.specs.declared.streams.StreamKind.TheVariants as kinds
use Rattle.replica.specs.Groups.{Group}
use Rattle.model_streams.specs.StreamSystem.{StreamSystem}
use Rattle.model_partition.specs.declared.server_context.ServerContext.{ServerContext}
use Rattle.model_partition.specs.Range.{RangeState, RangeOutcome, request}
use Rattle.model_histories.specs.ServerRun.{placed_reads, placed_behind}
use Rattle.model_histories.specs.ServerTurns as turns
use Rattle.model_histories.specs.Story.{placed, from_place}
use Rattle.model_histories.specs.StreamActions as actions
use Rattle.model_histories.specs.StreamActions.{StreamAction}
use Rattle.laws_stream_machine.specs.Refinement.{Purpose, Sent}
use Rattle.laws_tables.specs.Runs.{start_number}
use Rattle.laws_loads.specs.RangeView.{RangeView, view_after_all}
use Rattle.laws_ranges.specs.Serves.{Stand, Side, after_turns, AreTurns, IsConfirming, AreAsked, ServesLogIf, log_of, sent_with, RuleGoes}

-- the append that is out began with this event of the story
abbrev pub BeganAt : ℕ → turns.Phase Group → Type 0
BeganAt event (turns.Sent n append group) = event ≡ append
BeganAt event (turns.Closing n append group) = event ≡ append
BeganAt event (turns.Growing n append group) = event ≡ append
BeganAt event phase = Unit {0}

-- an action on one stream, or a read of any
abbrev pub IsOf : StreamKind → StreamAction → Type 0
IsOf kind (actions.Reads k read) = Unit {0}
IsOf kind (actions.Forms k group) = k ≡ kind
IsOf kind (actions.Stands k extent at group) = k ≡ kind
IsOf kind (actions.Shows start log_end metadata_end) = ⊥
IsOf kind (actions.Finds found) = Unit {0}
IsOf kind (actions.Stores stored) = Unit {0}

abbrev pub AreOf : StreamKind → List StreamAction → Type 0
AreOf kind [] = Unit {0}
AreOf kind (action ∷ earlier) = IsOf kind action × AreOf kind earlier

module _ (generation : ℕ → ℕ) (i : ℕ) where
  -- the stories that servers see of a range's metadata and log are those of the machines, and the appends that are out began where they say
  pub record SeesStories (v : RangeView) (m l : Stand) : Type 0 where
    pub metadata : v.story kinds.Metadata ≡ m.state.story
    pub log : v.story kinds.Log ≡ l.state.story
    pub record_append : BeganAt (v.history.append kinds.Metadata) m.phase
    pub append : BeganAt (v.history.append kinds.Log) l.phase

  -- the story that servers see of one stream is that of its machine, and the append that is out began where they say
  pub record SeesStory (kind : StreamKind) (v : RangeView) (x : Stand) : Type 0 where
    pub story : v.story kind ≡ x.state.story
    pub append : BeganAt (v.history.append kind) x.phase

  -- these actions add to the story of one stream what these turns add
  abbrev pub AreSeenOf : StreamKind → RangeView → Stand → List (turns.Turn Group) → List StreamAction → Type 0
  AreSeenOf kind v x list actions = SeesStory kind v x → SeesStory kind (view_after_all (generation i) v actions) (after_turns generation i x list)

  -- these actions add to both stories what these turns add
  abbrev pub AreSeen : RangeView → Stand → Stand → List (turns.Turn Group) → List (turns.Turn Group) → List StreamAction → Type 0
  AreSeen v m l metadata_turns log_turns actions =
      SeesStories v m l →
      SeesStories (view_after_all (generation i) v actions) (after_turns generation i m metadata_turns) (after_turns generation i l log_turns)

  module _ (range : ℕ) (w : StreamSystem) (v : RangeView) (m l : Side) where
    -- a load that waits for its confirmation has read the copies that stood: all of the metadata's, and the log's from the position on
    -- that its metadata names
    pub record LoadIsRead (r : RangeState) (b : IsConfirming generation range w i m l r) : Type 0 where
      pub metadata : placed_reads (v.history.reads kinds.Metadata) ≡ map placed b.metadata.read
      pub log : placed_behind (start_number r.said.regions) (placed_reads (v.history.reads kinds.Log)) ≡ map placed (from_place (start_number r.said.regions) b.log.read)

    -- what a rule does, and that its actions are what its turns add
    pub record RuleSees (d : ServerContext) (o : RangeOutcome) (actions : List StreamAction) : Type 0 where
      pub goes : RuleGoes generation range w i m l d o
      pub seen : AreSeen v m.stand l.stand goes.metadata_turns goes.log_turns actions

-- ---- what a rule of a range that is served does to its log

module _ (generation : ℕ → ℕ) (range : ℕ) (w : StreamSystem) (i : ℕ) where
  -- Turns of the log's machine, each allowed, and at most one more request, under the server's next number, which is then used;
  -- the actions are what the turns add.
  pub record LogRule (x : Stand) (sent : List Sent) (d : ServerContext) (o : RangeOutcome) (actions : List StreamAction) : Type 0 where
    pub list : List (turns.Turn Group)
    pub allowed : AreTurns generation i x list
    -- they are on the log alone
    pub here : AreOf kinds.Log actions
    pub seen : (v : RangeView) → AreSeenOf generation i kinds.Log v x list actions
    pub purpose : Option Purpose
    pub counts : (o.count ≡ suc d.count) ⊎ ((o.count ≡ d.count) × (purpose ≡ None))
    -- a range that is dropped makes no turn
    pub none : o.after ≡ None → list ≡ []
    pub then : ServesLogIf generation range w i o.after (after_turns generation i x list) (sent_with (request d) purpose sent)
    pub asked : AreAsked generation range w i (log_of range) (after_turns generation i x list) (sent_with (request d) purpose sent) o.packets
