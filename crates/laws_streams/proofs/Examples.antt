-- Some whole runs of the model, by computing.
use Rattle.std.proofs.Common.{◌≡◌, ℕ, List, [], ◌∷◌, ◌++◌, None, refl}
use Rattle.block_types.specs.declared.record.Nodes.{Nodes}
use Rattle.wire.specs.declared.actor.ActorId.TheVariants.{Node, Manager}
use Rattle.wire.specs.declared.actor.ReqNo.{ReqNo}
use Rattle.wire.specs.declared.actor.ReqNo.TheVariants as numbers
use Rattle.wire.specs.declared.body.AppendBody.TheVariants.{Append}
use Rattle.wire.specs.declared.body.ReadBody.TheVariants as reads
use Rattle.wire.specs.declared.body.StreamBody.TheVariants.{CreateStream, Extend}
use Rattle.wire.specs.declared.body.Body.TheVariants as bodies
use Rattle.wire.specs.declared.note.Note.TheVariants.{Acked, Seen}
use Rattle.wire.specs.declared.streams.StreamName.{StreamName}
use Rattle.wire.specs.declared.streams.StreamKind.TheVariants.{Metadata}
use Rattle.replica.specs.Groups.{Group}
use Rattle.model_streams.specs.declared.event.Event.{Event}
use Rattle.model_streams.specs.declared.event.Event.TheVariants.{Submit, Deliver}
use Rattle.model_streams.specs.StreamSystem.{run, start}
use Rattle.block_types.specs.Limits as tests

abbrev pub asked : ℕ → ReqNo
asked ticket = numbers.User 1 ticket

abbrev pub metadata : StreamName
metadata = record { range = 0; kind = Metadata }

abbrev pub places : Nodes
places = record { primary = 1; second = 2; third = 3 }

abbrev pub delivered : List ℕ → List Event
delivered [] = []
delivered (k ∷ ks) = Deliver k ∷ delivered ks

-- a stream with one extent, which has a replica on each of three nodes: packets 0 to 6
abbrev pub begun : List Event
begun =
    Submit 1 Manager (bodies.Stream (CreateStream metadata 0 (asked 0))) ∷ delivered (0 ∷ 1 ∷ [])
    ++ Submit 1 Manager (bodies.Stream (Extend metadata 0 None places (asked 1))) ∷ delivered (2 ∷ 3 ∷ 4 ∷ 5 ∷ 6 ∷ [])

abbrev pub append : ℕ → Group → Event
append ticket blocks = Submit 1 (Node 1) (bodies.Append (Append 1 0 blocks (asked ticket)))

abbrev pub abc : Group
abc = (97 ∷ 98 ∷ 99 ∷ []) ∷ []

abbrev pub def : Group
def = (100 ∷ 101 ∷ 102 ∷ []) ∷ []

abbrev abc_de : Group
abc_de = (97 ∷ 98 ∷ 99 ∷ []) ∷ (100 ∷ 101 ∷ []) ∷ []

abbrev f : Group
f = (102 ∷ []) ∷ []

-- two appends, one after the other
abbrev two_appends : List Event
two_appends =
    begun ++ append 2 abc_de ∷ delivered (7 ∷ 8 ∷ 9 ∷ 10 ∷ 11 ∷ 12 ∷ [])
    ++ append 3 f ∷ delivered (13 ∷ 14 ∷ 15 ∷ 16 ∷ 17 ∷ 18 ∷ [])

two_are_acknowledged : (run two_appends (start 3 4096)).notes ≡ Acked 1 0 abc_de ∷ Acked 1 5 f ∷ []
unfolding tests.are_nodes
two_are_acknowledged = refl

-- a read at a secondary, and one past the end
abbrev read : ℕ → ℕ → Event
read ticket offset = Submit 1 (Node 2) (bodies.Read (reads.ReadAt 1 offset 3 (asked ticket)))

a_read_shows : (run (two_appends ++ read 4 3 ∷ Deliver 19 ∷ read 5 4 ∷ Deliver 21 ∷ []) (start 3 4096)).notes
    ≡ Acked 1 0 abc_de ∷ Acked 1 5 f ∷ Seen 1 2 3 (100 ∷ 101 ∷ 102 ∷ []) ∷ []
unfolding tests.are_nodes
a_read_shows = refl

-- an append that comes twice is two groups
a_repeat_is_appended : (run (begun ++ append 2 abc ∷ delivered (7 ∷ 7 ∷ 8 ∷ 9 ∷ 10 ∷ 11 ∷ 12 ∷ 13 ∷ 14 ∷ 15 ∷ 16 ∷ 17 ∷ [])) (start 3 4096)).notes
    ≡ Acked 1 0 abc ∷ Acked 1 3 abc ∷ []
unfolding tests.are_nodes
a_repeat_is_appended = refl

-- a Put that comes before the one below it is not taken, and is taken when it comes again
late_puts_are_taken : (run (begun ++ append 2 abc ∷ append 3 def ∷ delivered (7 ∷ 8 ∷ 11 ∷ 9 ∷ 11 ∷ 10 ∷ 12 ∷ 13 ∷ 14 ∷ 15 ∷ 16 ∷ 17 ∷ [])) (start 3 4096)).notes
    ≡ Acked 1 0 abc ∷ Acked 1 3 def ∷ []
unfolding tests.are_nodes
late_puts_are_taken = refl
