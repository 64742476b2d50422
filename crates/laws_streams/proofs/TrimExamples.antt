-- A whole run with a Trim, by computing.
use Rattle.std.proofs.Common.{◌≡◌, ℕ, Bool, true, false, List, [], ◌∷◌, ◌++◌, Option, Some, None, slice_get, refl}
use Rattle.wire.specs.declared.actor.ActorId.TheVariants.{Manager, Server}
use Rattle.wire.specs.declared.actor.ReqNo.{ReqNo}
use Rattle.wire.specs.declared.actor.ReqNo.TheVariants as numbers
use Rattle.wire.specs.declared.body.SealBody.TheVariants.{SealExtent}
use Rattle.wire.specs.declared.body.StreamBody.TheVariants.{Extend, Trim, Trimmed}
use Rattle.wire.specs.declared.body.Body.TheVariants as bodies
use Rattle.wire.specs.declared.streams.StreamName.{StreamName}
use Rattle.streams.specs.Streams.{log_name, blob_data_name}
use Rattle.model_streams.specs.declared.event.Event.TheVariants.{Deliver, Decide}
use Rattle.model_streams.specs.Manager.{sealed_lengths}
use Rattle.model_streams.specs.Outcome.{packet}
use Rattle.model_streams.specs.StreamSystem.{StreamSystem, start, Move, run_moves}
use Rattle.model_streams.specs.StreamSystem.Move.{Happens, Asks}
use Rattle.block_types.specs.Limits as tests
use Rattle.laws_streams.proofs.Examples.{places}

abbrev pub own : ℕ → ReqNo
own count = numbers.Server 1 1 count

abbrev extends : StreamName → Option ℕ → ℕ → Move
extends s last count = Asks 1 Manager (bodies.Stream (Extend s 0 last places (own count)))

abbrev pub come : List ℕ → List Move
come [] = []
come (k ∷ ks) = Happens (Deliver k) ∷ come ks

-- the blob stream has extent 1, and the log extents 2 and 3, of which 2 is sealed: 0, 5 and 25 are Extend, 10 is SealExtent, 6 a
-- Make, 14 a Freeze, and 17 tells the length
abbrev two_in_the_log : List Move
two_in_the_log =
    extends (blob_data_name 1) None 1 ∷ come (0 ∷ []) ++ extends (log_name 1) None 2 ∷ come (5 ∷ [])
    ++ Asks 1 Manager (bodies.Seal (SealExtent 2 (own 3))) ∷ come (10 ∷ 6 ∷ 14 ∷ 17 ∷ []) ++ Happens (Decide 2)
    ∷ extends (log_name 1) (Some 2) 4 ∷ come (25 ∷ [])

abbrev trim : ℕ → Bool → Move
trim before to_blob = Asks 1 Manager (bodies.Stream (Trim 1 0 before to_blob (own 5)))

abbrev after : List Move → StreamSystem
after moves = run_moves (two_in_the_log ++ moves) (start 3 4096)

-- extent 2 leaves the log for the blob stream, where it stands behind one that is open; 30 is the Trim, and its repeat changes nothing
trimmed_log : (after (trim 1 true ∷ come (30 ∷ 30 ∷ []))).catalog.stream 1 1 ≡ Some (record { gone = 2 ∷ []; fence = 0; extents = 3 ∷ [] })
unfolding tests.are_nodes
trimmed_log = refl

blob_gained : (after (trim 1 true ∷ come (30 ∷ 30 ∷ []))).catalog.stream 1 3 ≡ Some (record { gone = []; fence = 0; extents = 1 ∷ 2 ∷ [] })
unfolding tests.are_nodes
blob_gained = refl

first_is_open : sealed_lengths (after (trim 1 true ∷ come (30 ∷ 30 ∷ []))).catalog 1 ≡ None
unfolding tests.are_nodes
first_is_open = refl

answered_again : slice_get (after (trim 1 true ∷ come (30 ∷ 30 ∷ []))).post 32 ≡ Some (packet Manager (Server 1) (bodies.Stream (Trimmed (own 5))))
unfolding tests.are_nodes
answered_again = refl

-- where it is not kept it stands in no stream
blob_stays : (after (trim 1 false ∷ come (30 ∷ []))).catalog.stream 1 3 ≡ Some (record { gone = []; fence = 0; extents = 1 ∷ [] })
unfolding tests.are_nodes
blob_stays = refl

-- the last extent does not leave
last_stays : (after (trim 2 true ∷ come (30 ∷ []))).catalog.stream 1 1 ≡ Some (record { gone = []; fence = 0; extents = 2 ∷ 3 ∷ [] })
unfolding tests.are_nodes
last_stays = refl
