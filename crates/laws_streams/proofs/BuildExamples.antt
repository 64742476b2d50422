-- Whole runs with a MultiModify, by computing.
use Rattle.std.proofs.Common.{◌≡◌, ℕ, List, [], ◌∷◌, ◌++◌, Option, Some, None, slice_get, refl}
use Rattle.wire.specs.declared.actor.ActorId.TheVariants.{Manager, Server}
use Rattle.wire.specs.declared.body.SealBody.TheVariants.{SealExtent}
use Rattle.wire.specs.declared.body.StreamBody.TheVariants.{CreateStream, Extend, MultiModify, Modified}
use Rattle.wire.specs.declared.body.AppendBody.TheVariants.{Refused}
use Rattle.wire.specs.declared.body.Body.TheVariants as bodies
use Rattle.wire.specs.declared.refusal.Refusal.TheVariants.{LastOpen}
use Rattle.wire.specs.declared.streams.Source.{Source}
use Rattle.wire.specs.declared.streams.StreamKind.TheVariants.{RowData}
use Rattle.wire.specs.declared.streams.StreamName.{StreamName}
use Rattle.streams.specs.Streams.{log_name}
use Rattle.model_streams.specs.declared.event.Event.TheVariants.{Decide}
use Rattle.model_streams.specs.Outcome.{packet}
use Rattle.model_streams.specs.StreamSystem.{StreamSystem, start, Move, run_moves}
use Rattle.model_streams.specs.StreamSystem.Move.{Happens, Asks}
use Rattle.block_types.specs.Limits as tests
use Rattle.laws_streams.proofs.Examples.{places}
use Rattle.laws_streams.proofs.TrimExamples.{own, come}

abbrev extends : StreamName → ℕ → Option ℕ → ℕ → Move
extends s fence last count = Asks 1 Manager (bodies.Stream (Extend s fence last places (own count)))

-- the logs of ranges 1 and 2, with fences 0 and 5, have extents 1 and 2: 0 is CreateStream, 2 and 7 are Extend
abbrev two_logs : List Move
two_logs =
    Asks 1 Manager (bodies.Stream (CreateStream (log_name 2) 5 (own 1))) ∷ come (0 ∷ [])
    ++ extends (log_name 1) 0 None 2 ∷ come (2 ∷ []) ++ extends (log_name 2) 5 None 3 ∷ come (7 ∷ [])

-- both are sealed: 12 and 27 are SealExtent, 3 and 8 a Make, 16 and 31 a Freeze, and 19 and 34 tell the length
abbrev both_sealed : List Move
both_sealed =
    Asks 1 Manager (bodies.Seal (SealExtent 1 (own 4))) ∷ come (12 ∷ 3 ∷ 16 ∷ 19 ∷ []) ++ Happens (Decide 1)
    ∷ Asks 1 Manager (bodies.Seal (SealExtent 2 (own 5))) ∷ come (27 ∷ 8 ∷ 31 ∷ 34 ∷ []) ++ Happens (Decide 2) ∷ []

abbrev source : ℕ → ℕ → Source
source range generation = record { stream = log_name range; generation = generation }

abbrev builds : StreamName → Move
builds s = Asks 1 Manager (bodies.Stream (MultiModify (record { stream = s; sources = source 1 0 ∷ source 2 5 ∷ [] } ∷ []) (own 6)))

abbrev after : List Move → StreamSystem
after moves = run_moves (two_logs ++ moves) (start 3 4096)

-- the log of range 3 is built from both, and gains an extent of its own: 42 is the MultiModify, and 44 an Extend
abbrev child : StreamSystem
child = after (both_sealed ++ builds (log_name 3) ∷ come (42 ∷ []) ++ extends (log_name 3) 5 (Some 2) 7 ∷ come (44 ∷ []))

child_has_both : child.catalog.stream 3 1 ≡ Some (record { gone = []; fence = 5; extents = 1 ∷ 2 ∷ 3 ∷ [] })
unfolding tests.are_nodes
child_has_both = refl

-- and they stay as they are
sources_stay : (child.catalog.stream 1 1 ≡ Some (record { gone = []; fence = 0; extents = 1 ∷ [] })) × (child.catalog.stream 2 1 ≡ Some (record { gone = []; fence = 5; extents = 2 ∷ [] }))
unfolding tests.are_nodes
sources_stay = (refl, refl)

child_is_answered : slice_get child.post 43 ≡ Some (packet Manager (Server 1) (bodies.Stream (Modified (own 6))))
unfolding tests.are_nodes
child_is_answered = refl

-- none is built while a source is open
abbrev early : StreamSystem
early = after (builds (log_name 3) ∷ come (12 ∷ []))

open_source_refused : (early.catalog.stream 3 1 ≡ None) × (slice_get early.post 13 ≡ Some (packet Manager (Server 1) (bodies.Append (Refused (own 6) LastOpen))))
unfolding tests.are_nodes
open_source_refused = (refl, refl)

-- and no server asks for row data from logs
other_kind_unasked : slice_get (after (builds (record { range = 3; kind = RowData }) ∷ [])).post 12 ≡ None
unfolding tests.are_nodes
other_kind_unasked = refl
