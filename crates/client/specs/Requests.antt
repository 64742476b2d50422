-- Request numbers, and what a server sends.
use Rattle.std.specs.Prelude.{ℕ, Bool, true, false, ◌&&◌, ◌==◌}
use Rattle.wire.specs.declared.actor.ActorId.{ActorId}
use Rattle.wire.specs.declared.actor.ActorId.TheVariants.{Server}
use Rattle.wire.specs.declared.actor.ReqNo.{ReqNo}
use Rattle.wire.specs.declared.actor.ReqNo.TheVariants as requests
use Rattle.wire.specs.declared.body.Body.{Body}
use Rattle.wire.specs.declared.packet.Packet.{Packet}

-- the same request of the same session or user
abbrev pub is_same : ReqNo → ReqNo → Bool
is_same (requests.Server s session count) (requests.Server t other number) = (s == t) && ((session == other) && (count == number))
is_same (requests.User u ticket) (requests.User v number) = (u == v) && (ticket == number)
is_same requests.NoRequest requests.NoRequest = true
is_same _ _ = false

abbrev pub from_server : ℕ → ActorId → Body → Packet
from_server server to body = record { from = Server server; to = to; body = body }
