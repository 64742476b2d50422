-- What records make.
use Rattle.std.specs.Prelude.{◌≡◌, true, List}
use Rattle.block_types.specs.declared.record.Record.{Record}
use Rattle.model_partition.specs.Map.{MapState}
use Rattle.model_partition.specs.Replay.{map_replay, map_fits}

-- the records fit, and make this map
pub record MakesMap (rs : List Record) (m : MapState) : Type 0 where
  pub replays : map_replay rs ≡ m
  pub fits : map_fits rs ≡ true
