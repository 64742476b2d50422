-- What a call that begins something leaves.
use Rattle.std.specs.Prelude.{◌≡◌, Some, None, Result, Ok}
use Rattle.wire.specs.declared.packet.Packet.{Packet}
use Rattle.client.specs.Client.{ClientState, Outcome}
use Rattle.client.specs.declared.fault.ClientFault.{ClientFault}

-- the rule's one packet is handed out, and the state is the rule's
abbrev pub Begins : Result Outcome ClientFault → ClientState → Packet → Type 0
Begins rule after packet = rule ≡ Ok (record { after = after; packet = Some packet; news = None })
