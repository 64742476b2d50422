-- When a load reads its streams and indexes.
use Rattle.std.specs.Prelude.{Bool, true, false}
use Rattle.model_partition.specs.declared.stage.Stage.{Stage}
use Rattle.model_partition.specs.declared.stage.Stage.TheVariants.{Checking, Reading, Indexing}

-- whether an extent of a stream is being checked or read, or an index is being read
abbrev pub is_reading : Stage → Bool
is_reading (Checking kind) = true
is_reading (Reading kind position) = true
is_reading (Indexing position) = true
is_reading stage = false
