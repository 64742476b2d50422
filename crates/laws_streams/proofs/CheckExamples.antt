-- Some whole runs with servers, by computing.
use Rattle.std.proofs.Common.{◌≡◌, ℕ, List, [], ◌∷◌, ◌++◌, map, Some, None, slice_get, refl}
use Rattle.wire.specs.declared.actor.ActorId.TheVariants.{Node, Manager, Server, User}
use Rattle.wire.specs.declared.actor.ReqNo.{ReqNo}
use Rattle.wire.specs.declared.actor.ReqNo.TheVariants as numbers
use Rattle.wire.specs.declared.body.AppendBody.TheVariants.{Refused}
use Rattle.wire.specs.declared.body.CheckBody.TheVariants.{Check, Checked}
use Rattle.wire.specs.declared.body.StreamBody.TheVariants.{OpenStreams, Confirm, Confirmed}
use Rattle.wire.specs.declared.body.Body.TheVariants as bodies
use Rattle.wire.specs.declared.refusal.Refusal.TheVariants.{Stale}
use Rattle.model_streams.specs.declared.event.Event.TheVariants.{Deliver}
use Rattle.model_streams.specs.Outcome.{packet}
use Rattle.model_streams.specs.StreamSystem.{start, Move, run_moves}
use Rattle.model_streams.specs.StreamSystem.Move.{Happens, Asks}
use Rattle.block_types.specs.Limits as tests
use Rattle.laws_streams.specs.Fences.{Opens, Confirms}
use Rattle.laws_streams.proofs.Examples.{asked, delivered, begun, append, abc}

abbrev called : ℕ → ReqNo
called ticket = numbers.Server 1 0 ticket

abbrev taken : List ℕ → List Move
taken ks = map Happens (delivered ks)

-- ---- a check, and an append of an older generation after it

-- an append is everywhere, 7 to 12; 13 is the check, 14 and 15 are its Probes, 16 and 17 tell the lengths, 18 is the answer
abbrev checked : List Move
checked =
    map Happens begun ++ Happens (append 2 abc) ∷ taken (7 ∷ 8 ∷ 9 ∷ 10 ∷ 11 ∷ [])
    ++ Asks 1 (Node 1) (bodies.Check (Check 1 5 (called 3))) ∷ taken (13 ∷ 14 ∷ 15 ∷ 16 ∷ 17 ∷ [])

a_check_is_answered : slice_get (run_moves checked (start 3 4096)).post 18
    ≡ Some (packet (Node 1) (Server 1) (bodies.Check (Checked (called 3) (Some 3))))
unfolding tests.are_nodes
a_check_is_answered = refl

older_are_refused : slice_get (run_moves (checked ++ Happens (append 4 abc) ∷ taken (19 ∷ [])) (start 3 4096)).post 20
    ≡ Some (packet (Node 1) (User 1) (bodies.Append (Refused (asked 4) Stale)))
unfolding tests.are_nodes
older_are_refused = refl

-- the third place lacks the append: 10 is the check, 11 and 12 are its Probes, 13 and 14 tell the lengths 3 and 0
a_shorter_place_fails_it : slice_get (run_moves (map Happens begun ++ Happens (append 2 abc) ∷ taken (7 ∷ 8 ∷ [])
    ++ Asks 1 (Node 1) (bodies.Check (Check 1 5 (called 3))) ∷ taken (11 ∷ 12 ∷ 13 ∷ 14 ∷ 15 ∷ [])) (start 3 4096)).post 16
    ≡ Some (packet (Node 1) (Server 1) (bodies.Check (Checked (called 3) None)))
unfolding tests.are_nodes
a_shorter_place_fails_it = refl

-- ---- two servers that open one range

abbrev opens : ℕ → ℕ → Move
opens server generation = Asks server Manager (bodies.Stream (OpenStreams 1 generation (numbers.Server server 0 0)))

abbrev confirms : ℕ → ℕ → Move
confirms server generation = Asks server Manager (bodies.Stream (Confirm 1 generation (numbers.Server server 0 1)))

-- 1 and 3 are the answers
abbrev confirmed : List Move
confirmed = opens 1 5 ∷ taken (0 ∷ []) ++ confirms 1 5 ∷ taken (2 ∷ [])

the_first_is_confirmed : slice_get (run_moves confirmed (start 3 4096)).post 3
    ≡ Some (packet Manager (Server 1) (bodies.Stream (Confirmed (numbers.Server 1 0 1))))
the_first_is_confirmed = refl

it_opens : Opens (run_moves (opens 1 5 ∷ []) (start 3 4096)) (Happens (Deliver 0)) 1 5
it_opens = record {
  packet = packet (Server 1) Manager (bodies.Stream (OpenStreams 1 5 (numbers.Server 1 0 0)));
  request = numbers.Server 1 0 0;
  reaches = record { number = 0; delivered = refl; sent = refl; to = refl; up = refl };
  body = refl;
  taken = refl;
  stands = refl;
}

it_is_confirmed : Confirms (run_moves (opens 1 5 ∷ taken (0 ∷ []) ++ confirms 1 5 ∷ []) (start 3 4096)) (Happens (Deliver 2)) 1 5
it_is_confirmed = record {
  packet = packet (Server 1) Manager (bodies.Stream (Confirm 1 5 (numbers.Server 1 0 1)));
  request = numbers.Server 1 0 1;
  reaches = record { number = 2; delivered = refl; sent = refl; to = refl; up = refl };
  body = refl;
  taken = refl;
}

-- a server that opens the range for the same generation is refused
one_opens_it : slice_get (run_moves (confirmed ++ opens 2 5 ∷ taken (4 ∷ [])) (start 3 4096)).post 5
    ≡ Some (packet Manager (Server 2) (bodies.Append (Refused (numbers.Server 2 0 0) Stale)))
one_opens_it = refl

-- and the first is no longer confirmed once a higher one has opened it
the_first_is_stale : slice_get (run_moves (confirmed ++ opens 2 6 ∷ taken (4 ∷ []) ++ confirms 1 5 ∷ taken (6 ∷ [])) (start 3 4096)).post 7
    ≡ Some (packet Manager (Server 1) (bodies.Append (Refused (numbers.Server 1 0 1) Stale)))
the_first_is_stale = refl
