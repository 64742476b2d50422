-- What a record leaves that an actor stops in.
use Rattle.std.specs.Prelude.{Bool, false, ◌&&◌, List, [], Option, Some, None, nat_le, if◌then◌else◌}
use Rattle.disk.specs.declared.memory.Stop.{Stop}
use Rattle.wire.specs.declared.note.Note.{Note}

-- whether it stands, where the disk has this plan to stop
abbrev pub stands_told : Option Stop → Bool
stands_told None = false
stands_told (Some stop) = stop.keep && nat_le 3 stop.calls

-- what the rule shows, where its record stands
abbrev pub shown_if : Bool → List Note → List Note
shown_if stands notes = if stands then notes else []
