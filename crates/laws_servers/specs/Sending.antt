-- What servers may send, and runs with servers as moves of the stream layer.
use Rattle.std.specs.Prelude.{◌≡◌, ◌⊎◌, ℕ, Bool, true, false, List, [], ◌∷◌}
use Rattle.wire.specs.declared.actor.ActorId.TheVariants.{Server}
use Rattle.wire.specs.declared.body.MapBody.TheVariants as maps
use Rattle.wire.specs.declared.body.Body.{Body}
use Rattle.wire.specs.declared.body.Body.TheVariants as bodies
use Rattle.wire.specs.declared.packet.Packet.{Packet}
use Rattle.model_streams.specs.StreamSystem.{StreamSystem, Move, run_moves, is_server_call, is_refusal, is_told}

-- a server asks what servers may ask
pub record Asked (p : Packet) : Type 0 where
  pub server : ℕ
  pub from : p.from ≡ Server server
  pub call : is_server_call p.body ≡ true

-- it asks, or tells what no node takes
abbrev pub MaySend : Packet → Type 0
MaySend p = Asked p ⊎ (is_told p.body ≡ true)

abbrev pub MaySendAll : List Packet → Type 0
MaySendAll [] = Unit {0}
MaySendAll (p ∷ packets) = MaySend p × MaySendAll packets

-- what servers tell those who ask them
abbrev pub is_server_answer : Body → Bool
is_server_answer (bodies.Append body) = is_refusal body
is_server_answer (bodies.Table body) = true
is_server_answer _ = false

-- what a server asks of the map
abbrev pub is_map_call : Body → Bool
is_map_call (bodies.Map (maps.BeginSplit range generation key q)) = true
is_map_call (bodies.Map (maps.CompleteSplit range generation q)) = true
is_map_call (bodies.Map (maps.BeginMerge left left_generation right right_generation q)) = true
is_map_call (bodies.Map (maps.CompleteMerge left left_generation right right_generation q)) = true
is_map_call _ = false

-- it is of a range without a split: from a server, and asks what servers may ask, or tells somebody what they tell
abbrev pub IsFromRange : Packet → Type 0
IsFromRange p = (server : ℕ) × (p.from ≡ Server server) × ((is_server_call p.body ≡ true) ⊎ (is_server_answer p.body ≡ true))

abbrev pub AllFromRanges : List Packet → Type 0
AllFromRanges [] = Unit {0}
AllFromRanges (p ∷ packets) = IsFromRange p × AllFromRanges packets

-- it is from a server, and asks what servers may ask, or tells somebody what they tell, or asks the map
abbrev pub IsFromServer : Packet → Type 0
IsFromServer p = (server : ℕ) × (p.from ≡ Server server) × ((is_server_call p.body ≡ true) ⊎ ((is_server_answer p.body ≡ true) ⊎ (is_map_call p.body ≡ true)))

abbrev pub AllFromServers : List Packet → Type 0
AllFromServers [] = Unit {0}
AllFromServers (p ∷ packets) = IsFromServer p × AllFromServers packets

-- some moves lead from one stream system to the other
pub record ByMoves (v w : StreamSystem) : Type 0 where
  pub moves : List Move
  pub is : run_moves moves v ≡ w
