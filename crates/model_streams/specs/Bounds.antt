-- How many appends wait, and how much one rule sends and observes.
use Rattle.std.specs.Prelude.{◌≡◌, ◌≤◌, List, length, Option, Some}
use Rattle.wire.specs.declared.note.Note.{Note}
use Rattle.wire.specs.declared.packet.Packet.{Packet}
use Rattle.model_streams.specs.Node.{Replica}

-- at most 256 appends wait at a replica
abbrev pub FewWait : Option Replica → Type 0
FewWait s = (r : Replica) → s ≡ Some r → length r.waiting ≤ 256

-- no step sends more than 2,048 packets, or observes more
abbrev pub AreFew : List Packet → List Note → Type 0
AreFew packets notes = (length packets ≤ 2048) × (length notes ≤ 2048)
