-- Some whole runs with stops and seals, by computing.
use Rattle.std.proofs.Common.{◌≡◌, ℕ, Bool, true, false, List, [], ◌∷◌, ◌++◌, Some, slice_get, refl}
use Rattle.wire.specs.declared.actor.ActorId.TheVariants.{Node, Manager, User}
use Rattle.wire.specs.declared.actor.ReqNo.TheVariants as numbers
use Rattle.wire.specs.declared.body.AppendBody.TheVariants.{Refused}
use Rattle.wire.specs.declared.body.ReadBody.TheVariants as reads
use Rattle.wire.specs.declared.body.SealBody.TheVariants.{SealExtent}
use Rattle.wire.specs.declared.body.Body.TheVariants as bodies
use Rattle.wire.specs.declared.note.Note.TheVariants.{Acked, SealedAt, Content, Seen}
use Rattle.wire.specs.declared.refusal.Refusal.TheVariants.{NotOpen, PastEnd}
use Rattle.model_streams.specs.declared.event.Event.{Event}
use Rattle.model_streams.specs.declared.event.Event.TheVariants.{Submit, Deliver, Stop, Restart, Decide}
use Rattle.model_streams.specs.Outcome.{packet}
use Rattle.model_streams.specs.StreamSystem.{run, start}
use Rattle.block_types.specs.Limits as tests
use Rattle.laws_streams.proofs.Examples.{asked, delivered, begun, append, abc, def}

abbrev seal : ℕ → Event
seal ticket = Submit 1 Manager (bodies.Seal (SealExtent 1 (asked ticket)))

abbrev read_whole : ℕ → ℕ → ℕ → Event
read_whole node ticket upto = Submit 1 (Node node) (bodies.Read (reads.ReadGroups 1 upto true (asked ticket)))

-- ---- a node that froze stays frozen over a stop, and refuses a Put
-- 7 is the call; 8 to 10 Make, 11 to 13 Freeze; 14 is the second place's Frozen; 15 is the append, 16 and 17 are its Puts

frozen_stays : slice_get (run (begun ++ seal 2 ∷ delivered (7 ∷ 12 ∷ [])
    ++ Stop (Node 2) 0 false ∷ Restart (Node 2) ∷ append 3 abc ∷ delivered (15 ∷ 16 ∷ [])) (start 3 4096)).post 18
    ≡ Some (packet (Node 2) (Node 1) (bodies.Append (Refused numbers.NoRequest NotOpen)))
unfolding tests.are_nodes
frozen_stays = refl

-- ---- a stop in the third device call of an append's record

-- 7 is the append, and no Put follows; 8 is the read, 9 its answer
abbrev stopped_append : Bool → List Event
stopped_append keep =
    begun ++ Stop (Node 1) 3 keep ∷ append 2 abc ∷ Deliver 7 ∷ Restart (Node 1)
    ∷ Submit 1 (Node 1) (bodies.Read (reads.ReadAt 1 0 3 (asked 3))) ∷ Deliver 8 ∷ []

kept_record_stands : (run (stopped_append true) (start 3 4096)).notes ≡ Seen 1 1 0 (97 ∷ 98 ∷ 99 ∷ []) ∷ []
unfolding tests.are_nodes
kept_record_stands = refl

lost_record_is_gone : slice_get (run (stopped_append false) (start 3 4096)).post 9
    ≡ Some (packet (Node 1) (User 1) (bodies.Append (Refused (asked 3) PastEnd)))
unfolding tests.are_nodes
lost_record_is_gone = refl

-- ---- an extent that is sealed at the least of three lengths

-- one append is everywhere, 7 to 12; the third place lacks the next, 13 to 16; 17 is the call, 21 to 23 are Freeze, and
-- 24 to 26 tell the lengths 6, 6 and 3
abbrev told : List Event
told =
    begun ++ append 2 abc ∷ delivered (7 ∷ 8 ∷ 9 ∷ 10 ∷ 11 ∷ []) ++ append 3 def ∷ delivered (13 ∷ 14 ∷ [])
    ++ seal 4 ∷ delivered (17 ∷ 21 ∷ 22 ∷ 23 ∷ 24 ∷ 25 ∷ 26 ∷ [])

-- 30 to 32 are Seal; the second place stops before it hears of its own, and is cut when it is back
longer_are_cut : (run (told ++ Decide 1 ∷ Stop (Node 2) 0 false ∷ delivered (30 ∷ 31 ∷ 32 ∷ [])
    ++ Restart (Node 2) ∷ Deliver 31 ∷ read_whole 2 5 3 ∷ read_whole 3 6 3 ∷ delivered (37 ∷ 38 ∷ [])) (start 3 4096)).notes
    ≡ Acked 1 0 abc ∷ SealedAt 1 3 ∷ Content 1 2 (abc ∷ []) ∷ Content 1 3 (abc ∷ []) ∷ []
unfolding tests.are_nodes
longer_are_cut = refl

-- ---- a shorter replica is filled

-- the third place tells nothing: 24 and 25 are the lengths 6 and 6. 26 to 28 are Make, 29 to 31 Seal, 32 the answer; 33 is
-- the first place's IsSealed, 34 the third's Short; 35 is SendTail, 36 Tail, 37 the third's IsSealed
shorter_are_filled : (run (begun ++ append 2 abc ∷ delivered (7 ∷ 8 ∷ 9 ∷ 10 ∷ 11 ∷ []) ++ append 3 def ∷ delivered (13 ∷ 14 ∷ [])
    ++ seal 4 ∷ delivered (17 ∷ 21 ∷ 22 ∷ 24 ∷ 25 ∷ []) ++ Decide 1 ∷ delivered (29 ∷ 31 ∷ 33 ∷ 34 ∷ 35 ∷ 36 ∷ [])
    ++ read_whole 3 5 6 ∷ Deliver 38 ∷ []) (start 3 4096)).notes
    ≡ Acked 1 0 abc ∷ SealedAt 1 6 ∷ Content 1 3 (abc ∷ def ∷ []) ∷ []
unfolding tests.are_nodes
shorter_are_filled = refl

-- ---- the manager stops in the third device call of the decision's record

-- what its places told is gone with it, and is told again: 27 is the call, 31 to 33 are Freeze, 34 and 35 tell the
-- lengths 6 and 6
abbrev stopped_decision : Bool → List Event
stopped_decision keep = told ++ Stop Manager 3 keep ∷ Decide 1 ∷ Restart Manager ∷ Decide 1 ∷ []

kept_decision_stands : (run (stopped_decision true) (start 3 4096)).notes ≡ Acked 1 0 abc ∷ SealedAt 1 3 ∷ []
unfolding tests.are_nodes
kept_decision_stands = refl

lost_decision_is_gone : (run (stopped_decision false) (start 3 4096)).notes ≡ Acked 1 0 abc ∷ []
unfolding tests.are_nodes
lost_decision_is_gone = refl

-- the lost one can be taken again, at what is told then
decided_again : (run (stopped_decision false ++ seal 5 ∷ delivered (27 ∷ 31 ∷ 32 ∷ 34 ∷ 35 ∷ []) ++ Decide 1 ∷ []) (start 3 4096)).notes
    ≡ Acked 1 0 abc ∷ SealedAt 1 6 ∷ []
unfolding tests.are_nodes
decided_again = refl
