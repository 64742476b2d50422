-- What a checkpoint of a range does where it alone is told to give up.
use Rattle.std.specs.Prelude.{◌++◌, Some, [], option_map, option_to_list}
use Rattle.client.specs.Client.{Outcome}
use Rattle.model_partition.specs.declared.server_context.ServerContext.{ServerContext}
use Rattle.model_partition.specs.Answering.{gives_up_job, gives_up_reading}
use Rattle.model_partition.specs.Checkpoints.{trim_again}
use Rattle.model_partition.specs.PlaceReads.{moved_on}
use Rattle.model_partition.specs.Range.{RangeOutcome, RangeState, used}

-- What a checkpoint waits for gives up, and nothing else of the range: the jobs of the metadata and of row data, the read of a page and
-- the Trim, in this order, under the numbers that they take where all of the range gives up.
abbrev pub give_up_control : ServerContext → RangeState → RangeOutcome
give_up_control d r =
    let m : Outcome = gives_up_job (used d) r.metadata in
    let w : Outcome = gives_up_job (used (used d)) r.rows in
    record {
      after = Some (record r { metadata = m.after; rows = w.after; reading = option_map moved_on r.reading });
      count = (used (used (used d))).count;
      packets = option_to_list m.packet ++ (option_to_list w.packet ++ (gives_up_reading d r r.reading ++ trim_again d r r.control));
      notes = [];
    }
