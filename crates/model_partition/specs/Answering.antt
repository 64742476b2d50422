-- What a range does with an answer, and with being told to give up.
use Rattle.std.specs.Prelude.{ℕ, ◌+◌, ◌^◌, Bool, true, false, ◌||◌, ◌&&◌, nat_lt, List, [], ◌++◌, map, flat_map, Option, Some, None, option_map, option_to_list, if◌then◌else◌}
use Rattle.std.specs.List.{list_any}
use Rattle.wire.specs.declared.actor.ActorId.{ActorId}
use Rattle.wire.specs.declared.actor.ActorId.TheVariants.{Node, Manager, Map}
use Rattle.wire.specs.declared.actor.ReqNo.{ReqNo}
use Rattle.wire.specs.declared.body.AppendBody.{AppendBody}
use Rattle.wire.specs.declared.body.AppendBody.TheVariants as appends
use Rattle.wire.specs.declared.body.CheckBody.{CheckBody}
use Rattle.wire.specs.declared.body.CheckBody.TheVariants as checks
use Rattle.wire.specs.declared.body.SealBody.{SealBody}
use Rattle.wire.specs.declared.body.SealBody.TheVariants as seals
use Rattle.wire.specs.declared.body.ReadBody.{ReadBody}
use Rattle.wire.specs.declared.body.ReadBody.TheVariants as reads
use Rattle.wire.specs.declared.body.StreamBody.{StreamBody}
use Rattle.wire.specs.declared.body.StreamBody.TheVariants as streams
use Rattle.wire.specs.declared.body.MapBody.{MapBody}
use Rattle.wire.specs.declared.body.MapBody.TheVariants as maps
use Rattle.wire.specs.declared.body.Body.{Body}
use Rattle.wire.specs.declared.body.Body.TheVariants as bodies
use Rattle.wire.specs.declared.packet.Packet.{Packet}
use Rattle.wire.specs.declared.refusal.Refusal.TheVariants as refusals
use Rattle.client.specs.declared.job.News.{News}
use Rattle.client.specs.declared.job.News.TheVariants as news
use Rattle.client.specs.declared.load.LoadPhase.{LoadPhase}
use Rattle.client.specs.declared.load.LoadPhase.TheVariants as phases
use Rattle.client.specs.Client.{ClientState, Outcome, awaits, reply_rule, give_up_rule}
use Rattle.client.specs.Load.{again, load_awaits}
use Rattle.client.specs.Requests.{is_same}
use Rattle.model_partition.specs.declared.waiting.PlaceRead.{PlaceRead}
use Rattle.model_partition.specs.declared.waiting.WaitingGet.{WaitingGet}
use Rattle.model_partition.specs.declared.server_context.ServerContext.{ServerContext}
use Rattle.model_partition.specs.Range.{OutGroup, RangeState, RangeOutcome, request, used, goes, answers, dropped, picking, is_serving}
use Rattle.model_partition.specs.Loading.{Group, are_counted, opens, serves, metadata_news, log_news, index_bytes}
use Rattle.model_partition.specs.Serving.{log_done, out_size}
use Rattle.model_partition.specs.PlaceReads.{place_of, places_of, reads_under, reads_page, moved_on, asks_again}
use Rattle.model_partition.specs.Getting.{bytes_rule, gives_up_get}
use Rattle.model_partition.specs.Checkpoints.{page_told, record_told, rows_reply, trim_awaits, trim_reply_in, trim_again}

-- ---- whose answer it is

abbrev pub get_awaits : WaitingGet → ReqNo → Bool
get_awaits g w = list_any (λ read. is_same read.request w) g.reads

-- whether a job of the range waits for an answer of this number
abbrev pub range_awaits : RangeState → ReqNo → Bool
range_awaits r w =
    load_awaits r.load.phase w
    || (awaits r.metadata.job w
    || (awaits r.log.job w
    || (awaits r.rows.job w || (reads_under r.reading w || (trim_awaits r.control w || list_any (λ g. get_awaits g w) r.gets)))))

abbrev pub append_number : AppendBody → Option ReqNo
append_number (appends.Appended w e offset) = Some w
append_number (appends.Refused w refusal) = Some w
append_number body = None

abbrev pub check_number : CheckBody → Option ReqNo
check_number (checks.Checked w l) = Some w
check_number body = None

abbrev pub seal_number : SealBody → Option ReqNo
seal_number (seals.SealedIs w e l) = Some w
seal_number body = None

abbrev pub read_number : ReadBody → Option ReqNo
read_number (reads.Bytes w e offset bytes) = Some w
read_number (reads.Groups w e groups) = Some w
read_number body = None

abbrev pub stream_number : StreamBody → Option ReqNo
stream_number (streams.Created w) = Some w
stream_number (streams.Opened w lists) = Some w
stream_number (streams.Confirmed w) = Some w
stream_number (streams.Extended w e places) = Some w
stream_number (streams.Trimmed w) = Some w
stream_number (streams.Modified w) = Some w
stream_number body = None

-- of what the map answers to servers; where a key is (RouteIs) it tells users alone
abbrev pub map_number : MapBody → Option ReqNo
map_number (maps.SplitBegun w low high) = Some w
map_number (maps.SplitDone w) = Some w
map_number (maps.MergeBegun w range) = Some w
map_number (maps.MergeDone w) = Some w
map_number body = None

-- the number that an answer repeats
abbrev pub answered_number : Body → Option ReqNo
answered_number (bodies.Append body) = append_number body
answered_number (bodies.Check body) = check_number body
answered_number (bodies.Seal body) = seal_number body
answered_number (bodies.Read body) = read_number body
answered_number (bodies.Stream body) = stream_number body
answered_number (bodies.Map body) = map_number body
answered_number (bodies.Table body) = None

abbrev pub is_any_node : ActorId → Bool
is_any_node (Node n) = true
is_any_node actor = false

abbrev pub is_the_manager : ActorId → Bool
is_the_manager Manager = true
is_the_manager actor = false

abbrev pub is_the_map : ActorId → Bool
is_the_map Map = true
is_the_map actor = false

-- all of them refuse, and nodes alone append
abbrev pub append_sender : ActorId → AppendBody → Bool
append_sender from (appends.Refused w refusal) = is_any_node from || (is_the_manager from || is_the_map from)
append_sender from body = is_any_node from

-- whether an answer comes from one who gives such answers
abbrev pub is_answerer : ActorId → Body → Bool
is_answerer from (bodies.Append body) = append_sender from body
is_answerer from (bodies.Check body) = is_any_node from
is_answerer from (bodies.Seal body) = is_the_manager from
is_answerer from (bodies.Read body) = is_any_node from
is_answerer from (bodies.Stream body) = is_the_manager from
is_answerer from (bodies.Map body) = is_the_map from
is_answerer from (bodies.Table body) = false

-- ---- answers

-- the groups of an answer
abbrev pub read_groups : ReadBody → List Group
read_groups (reads.Groups w e groups) = groups
read_groups body = []

abbrev pub groups_of : Body → List Group
groups_of (bodies.Read body) = read_groups body
groups_of body = []

-- a range of an old generation is dropped
abbrev pub load_refused : ServerContext → RangeState → AppendBody → RangeOutcome
load_refused d r (appends.Refused w refusals.Stale) = dropped d r
load_refused d r body = answers d r []

abbrev pub load_told : ServerContext → RangeState → LoadPhase → StreamBody → RangeOutcome
load_told d r (phases.Opening q) (streams.Opened w lists) = opens d r lists
load_told d r (phases.Confirming q) (streams.Confirmed w) = serves d r
load_told d r phase body = answers d r []

-- the answer to the opening or the confirmation
abbrev pub load_reply : ServerContext → RangeState → Body → RangeOutcome
load_reply d r (bodies.Append body) = load_refused d r body
load_reply d r (bodies.Stream body) = load_told d r r.load.phase body
load_reply d r body = answers d r []

abbrev pub metadata_reply : ServerContext → RangeState → Body → RangeOutcome
metadata_reply d r body =
    let o : Outcome = reply_rule (picking d r.metadata) (request d) body in
    let now : RangeState = record r { metadata = o.after } in
    if is_serving r.stage then record_told d now r.control o.news (option_to_list o.packet)
    else metadata_news d now (groups_of body) r.stage o.news (option_to_list o.packet)

-- news of the log's client while the range is served
abbrev pub serving_news : ServerContext → RangeState → Option News → List Packet → RangeOutcome
serving_news d r (Some news.Fenced) packets = dropped d r
serving_news d r (Some (news.Appended e offset)) packets = log_done d r r.out e offset
serving_news d r told packets = goes d r packets []

-- whether a group may stand there: an offset whose end no extent reaches, or an extent whose index does not fit 64 bits, is
-- told by no node
abbrev pub may_stand : RangeState → Option OutGroup → ℕ → Bool
may_stand r None offset = true
may_stand r (Some out) offset = nat_lt (offset + out_size out) (2 ^ 32) && are_counted r.log

abbrev pub is_told_rightly : RangeState → AppendBody → Bool
is_told_rightly r (appends.Appended w e offset) = may_stand r r.out offset
is_told_rightly r body = true

abbrev pub is_taken : RangeState → Body → Bool
is_taken r (bodies.Append body) = is_told_rightly r body
is_taken r body = true

abbrev pub log_taken : ServerContext → RangeState → Body → RangeOutcome
log_taken d r body =
    let o : Outcome = reply_rule (picking d r.log) (request d) body in
    let now : RangeState = record r { log = o.after } in
    if is_serving r.stage then serving_news d now o.news (option_to_list o.packet)
    else log_news d now (groups_of body) r.stage o.news (option_to_list o.packet)

abbrev pub log_reply : ServerContext → RangeState → Body → RangeOutcome
log_reply d r body = if is_taken r body then log_taken d r body else answers d r []

abbrev pub index_told : ServerContext → RangeState → ReadBody → RangeOutcome
index_told d r (reads.Bytes w e offset bytes) = index_bytes d r r.reading (place_of e offset bytes) bytes
index_told d r body = answers d r []

-- the bytes of an index, or a refusal of their read
abbrev pub index_reply : ServerContext → RangeState → Body → RangeOutcome
index_reply d r (bodies.Read body) = index_told d r body
index_reply d r (bodies.Append body) = load_refused d r body
index_reply d r body = answers d r []

-- the bytes of a page that a checkpoint merges, or a refusal of their read
abbrev pub page_reply : ServerContext → RangeState → Body → RangeOutcome
page_reply d r (bodies.Read body) = page_told d r body
page_reply d r (bodies.Append body) = load_refused d r body
page_reply d r body = answers d r []

-- the answer to a Trim, or a refusal of it
abbrev pub trim_reply : ServerContext → RangeState → Body → RangeOutcome
trim_reply d r (bodies.Stream body) = trim_reply_in d r r.control body
trim_reply d r (bodies.Append body) = load_refused d r body
trim_reply d r body = answers d r []

abbrev pub bytes_reply : ServerContext → RangeState → ReqNo → ReadBody → RangeOutcome
bytes_reply d r w (reads.Bytes v e offset bytes) = bytes_rule d r w (place_of e offset bytes) bytes
bytes_reply d r w body = answers d r []

-- The bytes of a page or of a value, or a refusal of their read. An old generation (3) drops the range here too, and no other refusal changes
-- anything.
abbrev pub gets_reply : ServerContext → RangeState → ReqNo → Body → RangeOutcome
gets_reply d r w (bodies.Read body) = bytes_reply d r w body
gets_reply d r w (bodies.Append body) = load_refused d r body
gets_reply d r w body = answers d r []

-- The answer of this number, which some job of the range waits for.
abbrev pub answer_rule : ServerContext → RangeState → ReqNo → Body → RangeOutcome
answer_rule d r w body =
    if load_awaits r.load.phase w then load_reply d r body
    else if awaits r.metadata.job w then metadata_reply d r body
    else if awaits r.log.job w then log_reply d r body
    else if awaits r.rows.job w then rows_reply d r body
    else if reads_under r.reading w then (if reads_page r.reading then page_reply d r body else index_reply d r body)
    else if trim_awaits r.control w then trim_reply d r body
    else gets_reply d r w body

-- ---- giving up

-- a client's job gives up under the next number: it sends again what is not answered, or seals the extent that does not answer
abbrev pub gives_up_job : ServerContext → ClientState → Outcome
gives_up_job d c = give_up_rule (picking d c) (request d) d.pick

-- the read goes to the next place of its extent, with its number
abbrev pub gives_up_reading : ServerContext → RangeState → Option PlaceRead → List Packet
gives_up_reading d r None = []
gives_up_reading d r (Some read) = asks_again d (moved_on read) (places_of r read.place.extent)

-- The load, the jobs of the log, of the metadata and of row data, the read of an index or of a page, the Trim and the Gets give up, in this
-- order. A client's job takes the next number.
abbrev pub give_up_all : ServerContext → RangeState → RangeOutcome
give_up_all d r =
    let l : Outcome = gives_up_job d r.log in
    let m : Outcome = gives_up_job (used d) r.metadata in
    let w : Outcome = gives_up_job (used (used d)) r.rows in
    record {
      after = Some (record r { metadata = m.after; log = l.after; rows = w.after; reading = option_map moved_on r.reading; gets = map (λ g. (gives_up_get d r g).0) r.gets });
      count = (used (used (used d))).count;
      packets = option_to_list (again r.load r.load.phase)
          ++ (option_to_list l.packet
          ++ (option_to_list m.packet
          ++ (option_to_list w.packet ++ (gives_up_reading d r r.reading ++ (trim_again d r r.control ++ flat_map (λ g. (gives_up_get d r g).1) r.gets)))));
      notes = [];
    }
