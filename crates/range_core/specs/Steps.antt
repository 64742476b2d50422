-- What a step of a range leaves, as its code says it.
use Rattle.std.specs.Prelude.{ℕ, ◌≤◌, Bool, List, length, Option, Some, None, if◌then◌else◌}
use Rattle.wire.specs.declared.packet.Packet.{Packet}
use Rattle.model_partition.specs.declared.table_note.TableNote.{TableNote}
use Rattle.model_partition.specs.Range.{RangeState, RangeOutcome}

-- whether the range is dropped, the number of the server's next request, the packets and the observations
pub record RangeStep : Type 0 where
  pub dropped : Bool
  pub count : ℕ
  pub packets : List Packet
  pub notes : List TableNote

abbrev pub unless : {A : Type 0} → Bool → A → Option A
unless dropped x = if dropped then None else Some x

-- the outcome of a rule, where the range that is left is this one
abbrev pub outcome : RangeStep → RangeState → RangeOutcome
outcome t r = record { after = unless t.dropped r; count = t.count; packets = t.packets; notes = t.notes }

-- no step of a range sends or shows more
abbrev pub IsShort : RangeStep → Type 0
IsShort t = (length t.packets ≤ 1400) × (length t.notes ≤ 2048)
