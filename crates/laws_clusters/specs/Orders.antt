-- A run as its servers see it: the streams that they see keep their order.
use Rattle.std.specs.Prelude.{◌≡◌, ℕ, List, ◌∷◌, ◌++◌}
use Rattle.wire.specs.declared.streams.StreamName.{StreamName}
use Rattle.model_partition.specs.Cluster.{Cluster}
use Rattle.model_partition.specs.Past.{Bytes, table_notes}
use Rattle.model_histories.specs.ServedTables.{AllStand, AreSeenAs, LoadsOnce}
use Rattle.model_histories.specs.ServerRun.{ServerRun, ServerEvent, Builds, run_of}
use Rattle.model_histories.specs.Story.{KeepsOrder, EndsRise}
use Rattle.model_histories.specs.TableContents.{AllTellRightly}
use Rattle.laws_server_runs.specs.FamilyMembers.{of_servers}
use Rattle.laws_clusters.specs.BuiltOrders.{HasSource}

module _ (c : Cluster) (batch count : ℕ) (coming : List ServerEvent) where
  abbrev pub run : ServerRun
  run = run_of batch count coming

  -- The servers of this cluster are those that this makes which came to them. The story of each stream, as they see it, keeps its order, no
  -- generation is confirmed twice, and confirmed loads end in the order of their generations. The streams of a range that were built of another's
  -- have their part of these. There are texts of extents that have all that was observed of them. Over any such texts, what reads were shown
  -- and what appends were answered for stands there, and what is observed of tables is what the servers show, but for the splits that the map shows.
  pub record ComesOfStreams : Type 0 where
    pub servers : c.servers ≡ run.servers
    pub ordered : (name : StreamName) → KeepsOrder (run.story name)
    pub once : (name : StreamName) → LoadsOnce (run.story name)
    pub ends : (name : StreamName) → EndsRise (run.story name)
    pub built : (late early : List ServerEvent) (source range : ℕ) → coming ≡ late ++ Builds source range ∷ early →
        HasSource c.stream_layer.post run ordered (run_of batch count early) source range
    pub contents : (texts : ℕ → Bytes) × AllTellRightly texts c.stream_layer.notes
    pub shown : (texts : ℕ → Bytes) → AllTellRightly texts c.stream_layer.notes → (range : ℕ) → AllStand texts (run.shown range)
    pub answered : (texts : ℕ → Bytes) → AllTellRightly texts c.stream_layer.notes → (range : ℕ) → AllStand texts (run.answered range)
    pub told : (texts : ℕ → Bytes) → AllTellRightly texts c.stream_layer.notes → AreSeenAs texts run.notes (of_servers (table_notes c.stream_layer.notes))
