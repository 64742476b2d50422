-- What a call is about to do, as the outcome of a rule.
use Rattle.std.specs.Prelude.{◌≡◌, true, Option, Some, None}
use Rattle.block_types.specs.declared.record.Record.{Record}
use Rattle.model_streams.specs.Outcome.{Outcome}
use Rattle.model_partition.specs.declared.map_record.MapRecord.{MapRecord}
use Rattle.model_partition.specs.Map.{MapState}
use Rattle.model_partition.specs.MapRules.{writes}
use Rattle.model_partition.specs.Replay.{map_after, fits_map}
use Rattle.pmap.specs.declared.plan.Plan.{Plan}

abbrev pub written_by : Option MapRecord → Option Record
written_by None = None
written_by (Some new_record) = writes new_record

abbrev pub outcome_of : MapState → Plan → Outcome MapState
outcome_of m plan = record { after = map_after m plan.new_record; written = written_by plan.new_record; packets = plan.step.packets; notes = plan.step.notes }

-- what is written, if anything, may be written where the map is this
abbrev pub MayWrite : MapState → Option MapRecord → Type 0
MayWrite m None = Unit {0}
MayWrite m (Some new_record) = fits_map m new_record ≡ true
