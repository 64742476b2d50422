-- What a call of the map comes to.
use Rattle.std.specs.Prelude.{List, [], Option, None, Result, Ok, Err}
use Rattle.wire.specs.declared.packet.Packet.{Packet}
use Rattle.wire.specs.declared.packet.Step.{Step}
use Rattle.wire.specs.declared.refusal.Refusal.{Refusal}
use Rattle.pmap.specs.declared.fault.MapFault.{MapFault}
use Rattle.pmap.specs.Performs as pmap

-- what it sends
abbrev pub packets_of : Result Step MapFault → List Packet
packets_of (Ok step) = step.packets
packets_of (Err fault) = []

-- why it was refused, if it was
abbrev pub refusal_of : Result Step MapFault → Option Refusal
refusal_of (Ok step) = None
refusal_of (Err fault) = pmap.refusal_of fault
