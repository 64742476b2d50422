-- What news other than of groups lets a load read next.
use Rattle.std.specs.Prelude.{Bool, true, false, List, [], Option, Some}
use Rattle.wire.specs.declared.packet.Packet.{Packet}
use Rattle.client.specs.declared.job.News.{News}
use Rattle.client.specs.declared.job.News.TheVariants as news
use Rattle.model_partition.specs.declared.server_context.ServerContext.{ServerContext}
use Rattle.model_partition.specs.Range.{RangeState, RangeOutcome, goes, dropped}
use Rattle.model_partition.specs.Loading as rows
use Rattle.range_load.specs.declared.turning.Turn.{Turn}
use Rattle.range_load.specs.declared.turning.Turn.TheVariants.{Stays, Starts, Reads}

-- nothing is read next: the packets go, and a range of an old generation is of no use
abbrev pub stays : ServerContext → RangeState → Option News → List Packet → RangeOutcome
stays d r (Some news.Fenced) packets = dropped d r
stays d r told packets = goes d r packets []

abbrev pub metadata_turn : ServerContext → RangeState → Option News → List Packet → Turn → RangeOutcome
metadata_turn d r told packets Stays = stays d r told packets
metadata_turn d r told packets Starts = rows.reads_metadata d r 0
metadata_turn d r told packets (Reads position) = rows.reads_metadata d r position

abbrev pub log_turn : ServerContext → RangeState → Option News → List Packet → Turn → RangeOutcome
log_turn d r told packets Stays = stays d r told packets
log_turn d r told packets Starts = rows.reads_log_from d r (rows.first_position r r.regions)
log_turn d r told packets (Reads position) = rows.reads_log d r position

-- whether something is read next
abbrev pub reads_next : Turn → Bool
reads_next Stays = false
reads_next turn = true
