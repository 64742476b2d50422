-- What a rule of a range that is served does to its metadata, to which it appends the records of its checkpoints.
use Rattle.std.specs.Prelude.{◌≡◌, ℕ, suc, List, [], Option, Some, None}
use Rattle.wire.specs.declared.streams.StreamKind.TheVariants as kinds
use Rattle.replica.specs.Groups.{Group}
use Rattle.client.specs.declared.load.LoadPhase.TheVariants as phases
use Rattle.model_streams.specs.StreamSystem.{StreamSystem}
use Rattle.model_partition.specs.declared.server_context.ServerContext.{ServerContext}
use Rattle.model_partition.specs.declared.stage.Stage.TheVariants as stages
use Rattle.model_partition.specs.Range.{RangeState, RangeOutcome, request}
use Rattle.model_histories.specs.ServerTurns as turns
use Rattle.model_histories.specs.StreamActions.{StreamAction}
use Rattle.laws_stream_machine.specs.Refinement.{Purpose, Sent}
use Rattle.laws_loads.specs.RangeView.{RangeView}
use Rattle.laws_ranges.specs.Serves.{Stand, Side, BothGo, ServesLog, after_turns, AreTurns, RecordIs, metadata_of, ServingIs, sent_with, AreAsked}
use Rattle.laws_ranges.specs.Seen.{AreOf, AreSeenOf}

module _ (generation : ℕ → ℕ) (range : ℕ) (w : StreamSystem) (i : ℕ) where
  -- a range that is served, as its metadata has it
  pub record ServesMetadata (x : Stand) (sent : List Sent) (r : RangeState) : Type 0 where
    pub range_is : r.load.range ≡ range
    pub under : r.load.generation ≡ generation i
    pub client : ServingIs generation (metadata_of range) w i x sent r.metadata
    pub record_is : RecordIs r
    pub stage : r.stage ≡ stages.Serving

  -- a range that is dropped makes no turn any more
  abbrev pub ServesMetadataIf : Option RangeState → Stand → List Sent → Type 0
  ServesMetadataIf None = λ x sent. Unit {0}
  ServesMetadataIf (Some r) = λ x sent. ServesMetadata x sent r

  -- Turns of the metadata's machine, each allowed, and at most one more request about it, under the server's next number, which is
  -- then used; the actions are on the metadata alone, and are what the turns add.
  pub record MetadataRule (x : Stand) (sent : List Sent) (d : ServerContext) (o : RangeOutcome) (actions : List StreamAction) : Type 0 where
    pub list : List (turns.Turn Group)
    pub allowed : AreTurns generation i x list
    pub here : AreOf kinds.Metadata actions
    pub seen : (v : RangeView) → AreSeenOf generation i kinds.Metadata v x list actions
    pub purpose : Option Purpose
    pub counts : o.count ≡ suc d.count
    -- a range that is dropped makes no turn
    pub none : o.after ≡ None → list ≡ []
    pub then : ServesMetadataIf o.after (after_turns generation i x list) (sent_with (request d) purpose sent)
    pub asked : AreAsked generation range w i (metadata_of range) (after_turns generation i x list) (sent_with (request d) purpose sent) o.packets

  -- ---- both streams

  -- a range that is served, as both of its streams have it: each may have an append job
  pub record ServesBoth (m l : Side) (r : RangeState) : Type 0 where
    pub phase : r.load.phase ≡ phases.Confirmed
    pub metadata : ServesMetadata m.stand m.sent r
    pub log : ServesLog generation range w i l.stand l.sent r

  abbrev pub ServesBothIf : Option RangeState → Side → Side → Type 0
  ServesBothIf None n k = Unit {0}
  ServesBothIf (Some r) n k = ServesBoth n k r

  -- what a rule does to both streams, and that its actions are what its turns add to either
  pub record ServedRule (v : RangeView) (m l : Side) (d : ServerContext) (o : RangeOutcome) (actions : List StreamAction) : Type 0 where
    pub goes : BothGo generation range w i (λ after n k. ServesBothIf after n k) m l d o
    pub metadata : AreSeenOf generation i kinds.Metadata v m.stand goes.metadata_turns actions
    pub log : AreSeenOf generation i kinds.Log v l.stand goes.log_turns actions
