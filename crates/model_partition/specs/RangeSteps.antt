-- The steps of a load, as those of the range that it is a part of.
use Rattle.std.specs.Prelude.{◌≡◌, [], ◌∷◌, None, option_to_list}
use Rattle.model_partition.specs.declared.server_context.ServerContext.{ServerContext}
use Rattle.model_partition.specs.Range.{RangeState, RangeOutcome, answers, goes, dropped}
use Rattle.model_partition.specs.declared.range_content.RangeContent.{RangeContent}
use Rattle.model_partition.specs.declared.progress.Progress.{Progress}
use Rattle.model_partition.specs.declared.progress.Progress.TheVariants.{Rests, Goes, Dropped, Serves}

-- the range with this part of it
abbrev pub put : RangeContent → RangeState → RangeState
put x r =
    record r {
      load = x.load;
      stage = x.stage;
      metadata = x.metadata;
      log = x.log;
      rows = x.rows;
      blob_data = x.blob_data;
      said = x.said;
      regions = x.regions.items;
      live = x.table.live;
      fixed = x.table.fixed;
      indexes = x.indexes;
      reading = x.reading;
      control = x.control;
    }

-- what comes of a range whose load went so far
abbrev pub outcome : ServerContext → RangeState → Progress → RangeOutcome
outcome d r Rests = answers d r []
outcome d r (Goes packet) = goes d r (option_to_list packet) []
outcome d r Dropped = dropped d r
outcome d r (Serves s) = goes d (record r { next = s.next; position = s.position; queue = []; out = None }) [] (s.note ∷ [])

-- whatever else is known of the range, its rule is what was done
abbrev pub RangePerforms : ServerContext → (RangeState → RangeOutcome) → RangeContent → RangeContent → Progress → Type 0
RangePerforms d rule before after progress = (r : RangeState) → rule (put before r) ≡ outcome d (put after r) progress
