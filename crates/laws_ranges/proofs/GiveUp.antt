-- What reads are sent again when a range is told to give up.
use Rattle.std.proofs.Common.{ℕ, ◌-◌, List, [], ◌∷◌, ◌++◌, length, flat_map, Option, Some, None, slice_get, inl}
use Rattle.block_types.specs.declared.record.Nodes.{Nodes}
use Rattle.wire.specs.declared.packet.Packet.{Packet}
use Rattle.wire.specs.declared.streams.StreamName.{StreamName}
use Rattle.model_streams.specs.StreamSystem.{StreamSystem}
use Rattle.model_partition.specs.declared.server_context.ServerContext.{ServerContext}
use Rattle.model_partition.specs.declared.waiting.PlaceRead.{PlaceRead}
use Rattle.model_partition.specs.declared.waiting.WaitingGet.{WaitingGet}
use Rattle.model_partition.specs.Range.{RangeState}
use Rattle.model_partition.specs.PlaceReads.{asks_again, places_of, moved_on}
use Rattle.model_partition.specs.Getting.{gives_up_read, gives_up_get}
use Rattle.model_partition.specs.Answering.{gives_up_reading}
use Rattle.laws_stream_machine.specs.Refinement.{Sent}
use Rattle.laws_ranges.specs.Serves.{Stand, AreAsked}
use Rattle.laws_ranges.proofs.LogRules.{asked_both}

module _ (generation : ℕ → ℕ) (range : ℕ) (w : StreamSystem) (i : ℕ) where
  -- reads of what stands at a place are plain
  again_plain : (name : StreamName) (x : Stand) (sent : List Sent) (d : ServerContext) (read : PlaceRead) (o : Option Nodes) → AreAsked generation range w i name x sent (asks_again d read o)
  again_plain name x sent d read None = tt
  again_plain name x sent d read (Some places) = (inl (λ u n s m. tt), tt)

  read_plain : (name : StreamName) (x : Stand) (sent : List Sent) (d : ServerContext) (r : RangeState) (g : WaitingGet) (o : Option PlaceRead) → AreAsked generation range w i name x sent (gives_up_read d r g o).1
  read_plain name x sent d r g None = tt
  read_plain name x sent d r g (Some read) = again_plain name x sent d (moved_on read) (places_of r read.place.extent)

  pub gets_plain : (name : StreamName) (x : Stand) (sent : List Sent) (d : ServerContext) (r : RangeState) (gs : List WaitingGet) →
      AreAsked generation range w i name x sent (flat_map (λ g. (gives_up_get d r g).1) gs)
  gets_plain name x sent d r [] = tt
  gets_plain name x sent d r (g ∷ gs) =
      asked_both generation range w i name x sent (gives_up_get d r g).1 (flat_map (λ g. (gives_up_get d r g).1) gs)
      (read_plain name x sent d r g (slice_get g.reads (length g.reads - 1))) (gets_plain name x sent d r gs)

  pub reading_plain : (name : StreamName) (x : Stand) (sent : List Sent) (d : ServerContext) (r : RangeState) (o : Option PlaceRead) → AreAsked generation range w i name x sent (gives_up_reading d r o)
  reading_plain name x sent d r None = tt
  reading_plain name x sent d r (Some read) = again_plain name x sent d (moved_on read) (places_of r read.place.extent)

  -- the reads of an index and of Gets that are sent again
  abbrev pub read_again : ServerContext → RangeState → List Packet
  read_again d r = gives_up_reading d r r.reading ++ flat_map (λ g. (gives_up_get d r g).1) r.gets

  pub read_again_plain : (name : StreamName) (x : Stand) (sent : List Sent) (d : ServerContext) (r : RangeState) → AreAsked generation range w i name x sent (read_again d r)
  read_again_plain name x sent d r =
      asked_both generation range w i name x sent (gives_up_reading d r r.reading) (flat_map (λ g. (gives_up_get d r g).1) r.gets)
      (reading_plain name x sent d r r.reading) (gets_plain name x sent d r r.gets)
