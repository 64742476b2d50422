-- What a rule leaves of a range, by what it changes: the load, the checkpoint, or nothing of both.
use Rattle.std.proofs.Common.{◌≡◌, ℕ, Bool, true, false, List, [], ◌∷◌, ◌++◌, map, Option, Some, None, is_some, refl, sym, subst, if◌then◌else◌}
use Rattle.wire.specs.declared.packet.Packet.{Packet}
use Rattle.wire.specs.declared.streams.StreamKind.TheVariants as kinds
use Rattle.client.specs.Load.{LoadState}
use Rattle.client.specs.declared.load.LoadPhase.TheVariants as phases
use Rattle.memtable.specs.Entries.{Entries}
use Rattle.model_partition.specs.declared.stage.Stage.{Stage}
use Rattle.model_partition.specs.Loading.{Group}
use Rattle.model_partition.specs.Range.{OutGroup, RangeState, RangeOutcome, if_there, is_serving}
use Rattle.model_partition.specs.declared.table_note.TableNote.{TableNote}
use Rattle.model_histories.specs.StreamActions.{StreamAction, Reads, Forms, Stands, Shows, Finds, Stores, group_of, formed}
use Rattle.model_histories.specs.ServerRun.{bytes_read}
use Rattle.laws_loads.specs.RangeView.{RangeView, view_after_all}
use Rattle.laws_loads.specs.Sound.{IsSound}
use Rattle.laws_server_runs.specs.Places.{AreWithin, AreLow, IsLaid, placed_of, CheckpointLaid, RangeLaid, IsQuiet, IsRecording, Quiet, OfRecord, IsConfirmed, RuleLaid}
use Rattle.laws_server_runs.proofs.LaidBytes.{entries_on, checkpoint_on, actions_cover}
use Rattle.laws_server_runs.proofs.GetNotes.{AreGots, gots_within, gots_tables}

-- what is kept of a range but for its checkpoint
pub record Beside (k : ℕ) (v : RangeView) (load : LoadState) (stage : Stage) (live : Entries) : Type 0 where
  pub range : load.range ≡ k
  pub confirmed : is_serving stage ≡ true → load.phase ≡ phases.Confirmed
  pub layer : is_serving stage ≡ false → IsLaid (bytes_read (v.history.reads kinds.Log)) live
  pub values : is_serving stage ≡ true → AreWithin (placed_of v) live
  pub low : AreLow live

pub with_checkpoint : (k : ℕ) (v : RangeView) (s : RangeState) → Beside k v s.load s.stage s.live → IsSound s → CheckpointLaid (placed_of v) s.rows s.fixed s.control → RangeLaid k v s
with_checkpoint k v s b sound c = record { range = b.range; confirmed = b.confirmed; layer = b.layer; live = b.values; low = b.low; sound = sound; checkpoint = c }

-- ---- actions

pub both_quiet : (xs ys : List StreamAction) → IsQuiet xs → IsQuiet ys → IsQuiet (xs ++ ys)
both_quiet [] ys a b = b
both_quiet (Reads kind read ∷ xs) ys a b = both_quiet xs ys a b
both_quiet (Forms kinds.RowData group ∷ xs) ys a b = both_quiet xs ys a b
both_quiet (Forms kinds.Log group ∷ xs) ys a b = both_quiet xs ys a b
both_quiet (Forms kinds.Metadata group ∷ xs) ys a b = absurd a
both_quiet (Forms kinds.BlobData group ∷ xs) ys a b = both_quiet xs ys a b
both_quiet (Stands kind extent at group ∷ xs) ys a b = both_quiet xs ys a b
both_quiet (Shows start log_end metadata_end ∷ xs) ys a b = both_quiet xs ys a b
both_quiet (Finds found ∷ xs) ys a b = both_quiet xs ys a b
both_quiet (Stores stored ∷ xs) ys a b = both_quiet xs ys a b

group_quiet : (out : Option OutGroup) → IsQuiet (map (λ o. Forms kinds.Log (group_of o)) (if_there out))
group_quiet None = tt
group_quiet (Some out) = tt

-- a group of the log is none of the metadata
pub formed_quiet : (o : Option RangeState) → IsQuiet (formed o)
formed_quiet None = tt
formed_quiet (Some r) = group_quiet r.out

nothing_done : (b : Bool) → ◌≡◌ {A = List StreamAction} (if b then [] else []) []
nothing_done true = refl
nothing_done false = refl

-- ---- what is left

module _ (k : ℕ) (v : RangeView) (r : RangeState) where
  abbrev pub view_of : List StreamAction → RangeView
  view_of actions = view_after_all r.load.generation v actions

  -- the actions are done where the range is not dropped
  abbrev pub Left : List StreamAction → RangeOutcome → Type 0
  Left actions o = RuleLaid k v r (if is_some o.after then actions else []) o

  pub left_drops : (actions : List StreamAction) (count : ℕ) (packets : List Packet) → Left actions (record { after = None; count = count; packets = packets; notes = [] })
  left_drops actions count packets = record { step = record { after = tt; notes = tt }; forms = Quiet [] tt; tables = tt }

  pub left_goes : (actions : List StreamAction) → IsQuiet actions → (next : RangeState) (count : ℕ) (packets : List Packet) → RangeLaid k (view_of actions) next →
      Left actions (record { after = Some next; count = count; packets = packets; notes = [] })
  left_goes actions quiet next count packets laid = record { step = record { after = laid; notes = tt }; forms = Quiet actions quiet; tables = tt }

  -- Gets of the range are shown
  pub left_shows : (actions : List StreamAction) → IsQuiet actions → (next : RangeState) (count : ℕ) (packets : List Packet) (notes : List TableNote) → r.load.range ≡ k → AreGots r.load.range r.load.generation notes →
      RangeLaid k (view_of actions) next → Left actions (record { after = Some next; count = count; packets = packets; notes = notes })
  left_shows actions quiet next count packets notes here gots laid = record {
    step = record { after = laid; notes = gots_within k r.load.generation (view_of actions).shown r.load.range r.load.generation notes here refl gots };
    forms = Quiet actions quiet;
    tables = gots_tables (IsConfirmed r actions) r.load.range r.load.generation notes gots;
  }

  -- the record of its checkpoint is appended
  pub left_records : (group : Group) (earlier : List StreamAction) → IsQuiet earlier → (next : RangeState) (count : ℕ) (packets : List Packet) → IsRecording r (Some next) →
      RangeLaid k (view_of (Forms kinds.Metadata group ∷ earlier)) next → Left (Forms kinds.Metadata group ∷ earlier) (record { after = Some next; count = count; packets = packets; notes = [] })
  left_records group earlier quiet next count packets recording laid = record { step = record { after = laid; notes = tt }; forms = OfRecord group earlier quiet recording; tables = tt }

  -- where nothing is done with streams
  pub left_nothing : (o : RangeOutcome) → Left [] o → RuleLaid k v r [] o
  left_nothing o l = subst (λ actions. RuleLaid k v r actions o) (nothing_done (is_some o.after)) l

  -- ---- what was kept

  -- actions that read nothing of the log
  abbrev pub ReadsNothing : List StreamAction → Type 0
  ReadsNothing actions = (view_of actions).history.reads kinds.Log ≡ v.history.reads kinds.Log

  module _ (before : RangeLaid k v r) (actions : List StreamAction) where
    pub still_beside : ReadsNothing actions → Beside k (view_of actions) r.load r.stage r.live
    still_beside reads = record {
      range = before.range;
      confirmed = before.confirmed;
      layer = λ e. subst (λ read. IsLaid (bytes_read read) r.live) (sym reads) (before.layer e);
      values = λ e. entries_on (placed_of v) (placed_of (view_of actions)) (actions_cover r.load.generation v actions) r.live (before.live e);
      low = before.low;
    }

    pub still_checkpoint : CheckpointLaid (placed_of (view_of actions)) r.rows r.fixed r.control
    still_checkpoint = checkpoint_on (placed_of v) (placed_of (view_of actions)) (actions_cover r.load.generation v actions) r.rows r.fixed r.control before.checkpoint
