-- What servers send does not come from the map.
use Rattle.std.proofs.Common.{◌≡◌, ℕ, zero, suc, ◌<◌, ap, arith, get_or, List, [], ◌∷◌, Contains, sym, ◌∙◌, length}
use Rattle.wire.specs.declared.actor.ActorId.TheVariants.{Map, Server}
use Rattle.wire.specs.declared.packet.Packet.{Packet}
use Rattle.laws_servers.specs.Sending.{IsFromServer, AllFromServers}

sender_at : (ps : List Packet) → AllFromServers ps → (k : ℕ) (p : Packet) → k < length ps → IsFromServer (get_or ps k p)
sender_at [] all k p below = absurd (omega (arith, below))
sender_at (x ∷ ps) all zero p below = all.0
sender_at (x ∷ ps) all (suc k) p below = sender_at ps all.1 k p (omega (arith, below))

-- what servers send, splits and all, is not from the map
pub none_from_map : (ps : List Packet) → AllFromServers ps → (p : Packet) → Contains ps p → p.from ≡ Map → ⊥
none_from_map ps all p there from = differ sender.0 (sym sender.1 ∙ ap (λ (x : Packet). x.from) there.2 ∙ from)
  where
    sender : IsFromServer (get_or ps there.0 p)
    sender = sender_at ps all there.0 p there.1

    differ : (s : ℕ) → Server s ≡ Map → ⊥
    differ s same = absurd cc
