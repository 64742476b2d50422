-- What servers show in a step is of a range that one of them holds before it, under the generation that it holds it with.
use Rattle.std.proofs.Common.{◌≡◌, ℕ, List, [], Option, Some}
use Rattle.model_streams.specs.Maps.{entry_at}
use Rattle.model_partition.specs.declared.table_note.TableNote.{TableNote}
use Rattle.model_partition.specs.declared.split_job.SplitJob.{SplitJob}
use Rattle.model_partition.specs.Range.{RangeState, RangeOutcome}
use Rattle.model_partition.specs.Server.{ServerState, ServerOutcome, range_of, split_of}
use Rattle.model_partition.specs.Servers.{ServerCell}
use Rattle.model_histories.specs.StreamActions.{StreamAction, PlacedBytes}
use Rattle.model_histories.specs.ServerRun.{ServerRun, RangeEffect}
use Rattle.laws_loads.specs.RangeView.{view_after_all}
use Rattle.laws_server_runs.specs.Places.{NotesWithin, StepLaid, RunLaid}
use Rattle.laws_server_runs.specs.RunInvariant.{view_at}
use Rattle.laws_server_runs.specs.Turns.{IsStep, IsEffect, Own, None_done, OfOthers, Turn, Idles, Opens, Acts, RunStep, Keeps, Passes, Turns}
use Rattle.laws_server_runs.proofs.LaidSplits.{laid_step}
use Rattle.laws_server_runs.proofs.RunSteps.{IsAny, IsAnyPair}

-- these observations are of a range that a server holds, under its generation
pub record AreNotedOf (x : ServerRun) (shown : List TableNote) : Type 0 where
  pub server : ℕ
  pub cell : ServerCell
  pub state : ServerState
  pub there : entry_at x.servers server ≡ Some cell
  pub up : cell.state ≡ Some state
  pub range : ℕ
  pub held : RangeState
  pub found : range_of state.ranges range ≡ Some held
  pub placed : List PlacedBytes
  pub notes : NotesWithin range held.load.generation placed shown

pub data AreNoted (x : ServerRun) : List TableNote → Type 0 where
  Nothing : AreNoted x []
  OfOne : (shown : List TableNote) (of : AreNotedOf x shown) → AreNoted x shown

module _ (x : ServerRun) (laid : RunLaid x) where
  module _ (s : ℕ) (cell : ServerCell) (st : ServerState) (at : entry_at x.servers s ≡ Some cell) (is : cell.state ≡ Some st) where
    step_noted : (range : ℕ) (r : RangeState) → range_of st.ranges range ≡ Some r → (job : Option SplitJob) (actions : List StreamAction) (o : RangeOutcome) (later : Option SplitJob) → IsStep IsAnyPair r job actions o later → AreNoted x o.notes
    step_noted range r found job actions o later step = OfOne o.notes (record {
      server = s;
      cell = cell;
      state = st;
      there = at;
      up = is;
      range = range;
      held = r;
      found = found;
      placed = (view_after_all r.load.generation (view_at range x s) actions).shown;
      notes = step_is.notes;
    })
      where
        step_is : StepLaid range (view_at range x s) r.load.generation actions o
        step_is = laid_step range (view_at range x s) r (laid.ranges s cell st at is range r found) IsAnyPair job actions o later step

    effect_noted : (range : ℕ) (r : RangeState) → range_of st.ranges range ≡ Some r → (job : Option SplitJob) (e : RangeEffect) (o : RangeOutcome) (later : Option SplitJob) → IsEffect IsAnyPair range r job e o later → AreNoted x o.notes
    effect_noted range r found job e o later (Own own actions after left_job step unheard) = step_noted range r found job actions o later step
    effect_noted range r found job e o later (None_done own after left_job step unheard) = step_noted range r found job [] o later step
    effect_noted range r found job e o later (OfOthers split d body after left_job step heard) = step_noted range r found (Some split) [] o later step

    turn_noted : (e : RangeEffect) (o : ServerOutcome) → Turn IsAny IsAnyPair st e o → AreNoted x o.notes
    turn_noted e o (Idles next packets same splits) = Nothing
    turn_noted e o (Opens range assigned d generation until next packets new splits) = Nothing
    turn_noted e o (Acts range r held effect ro later is_effect next packets left splits) = effect_noted range r held (split_of st.splits range) effect ro later is_effect

  pub run_noted : (notes : List TableNote) (y : ServerRun) → RunStep IsAny IsAnyPair x notes y → AreNoted x notes
  run_noted notes y (Keeps servers packets like) = Nothing
  run_noted notes y (Passes servers like) = Nothing
  run_noted notes y (Turns s cell st at is e o turn) = turn_noted s cell st at is e o turn
