-- What one range at one server sees of its streams, and what an action makes of it.
use Rattle.std.specs.Prelude.{ℕ, ◌+◌, List, [], ◌∷◌, ◌++◌, length, if◌then◌else◌}
use Rattle.wire.specs.declared.streams.StreamKind.{StreamKind}
use Rattle.wire.specs.declared.streams.StreamKind.TheVariants as kinds
use Rattle.block_types.specs.Limits.{group_size}
use Rattle.replica.specs.Groups.{joined}
use Rattle.metadata.specs.declared.record.MetaRecord.{MetaRecord}
use Rattle.model_histories.specs.Story.{StreamEvent, Made, Answered, Showed, Story}
use Rattle.model_partition.specs.Loading.{Group}
use Rattle.model_histories.specs.StreamActions.{PlacedBytes, StreamAction, Reads, Forms, Stands, Shows, Finds, Stores}
use Rattle.model_histories.specs.ServerRun.{RangeHistory, is_kind, one_more_read, begun_at, place_number, placed_reads, placed_behind, bytes_read}

-- what a split of the range is to its metadata: nothing, or no checkpoint begins before its record is sent, or that record is out
pub data SplitStage : Type 0 where
  Free : SplitStage
  Drains : SplitStage
  Recording : (out : MetaRecord) → SplitStage

-- the history of the range at the server, the stories of the range's streams, the bytes that reads were shown and those that
-- appends were answered for, and its split
pub record RangeView : Type 0 where
  pub history : RangeHistory
  pub story : StreamKind → Story Group
  pub shown : List PlacedBytes
  pub answered : List PlacedBytes
  pub split : SplitStage

abbrev pub with_kind : (StreamKind → Story Group) → StreamKind → StreamEvent Group → StreamKind → Story Group
with_kind stories kind event other = if is_kind other kind then event ∷ stories other else stories other

module _ (generation : ℕ) where
  abbrev pub view_after : RangeView → StreamAction → RangeView
  view_after v (Reads kind read) = record v { history = one_more_read v.history kind read }
  view_after v (Forms kind group) =
      record v { story = with_kind v.story kind (Made generation group); history = begun_at v.history kind (length (v.story kind)) }
  view_after v (Stands kind extent at group) =
      record v {
        story = with_kind v.story kind (Answered (v.history.append kind) (place_number at) (place_number at + group_size group));
        answered = record { extent = extent; offset = at.offset; bytes = joined group } ∷ v.answered;
      }
  view_after v (Shows start log_end metadata_end) =
      record v {
        story = with_kind
            (with_kind v.story kinds.Metadata (Showed generation 0 (place_number metadata_end) (placed_reads (v.history.reads kinds.Metadata))))
            kinds.Log
            (Showed generation (place_number start) (place_number log_end) (placed_behind (place_number start) (placed_reads (v.history.reads kinds.Log))));
        shown = bytes_read (v.history.reads kinds.Log) ++ v.shown;
      }
  view_after v (Finds found) = record v { shown = found ∷ v.shown }
  view_after v (Stores stored) = record v { answered = stored ∷ v.answered }

  -- after some actions, of which the last was done first
  abbrev pub view_after_all : RangeView → List StreamAction → RangeView
  view_after_all v [] = v
  view_after_all v (action ∷ earlier) = view_after (view_after_all v earlier) action

abbrev pub log_of : RangeView → Story Group
log_of v = v.story kinds.Log

abbrev pub metadata_of : RangeView → Story Group
metadata_of v = v.story kinds.Metadata
