-- What deliveries and observations print.
use Rattle.std.specs.Prelude.{ℕ, List, length, Option, Some, None}
use Rattle.block_types.specs.Limits.{group_size, groups_size}
use Rattle.wire.specs.declared.actor.ActorId.{ActorId}
use Rattle.wire.specs.declared.actor.ActorId.TheVariants as actors
use Rattle.wire.specs.declared.actor.ReqNo.{ReqNo}
use Rattle.wire.specs.declared.actor.ReqNo.TheVariants as numbers
use Rattle.wire.specs.declared.body.AppendBody.{AppendBody}
use Rattle.wire.specs.declared.body.AppendBody.TheVariants as appends
use Rattle.wire.specs.declared.body.Body.{Body}
use Rattle.wire.specs.declared.body.Body.TheVariants as bodies
use Rattle.wire.specs.declared.body.MapBody.{MapBody}
use Rattle.wire.specs.declared.body.MapBody.TheVariants as maps
use Rattle.wire.specs.declared.body.ReadBody.{ReadBody}
use Rattle.wire.specs.declared.body.ReadBody.TheVariants as reads
use Rattle.wire.specs.declared.body.SealBody.{SealBody}
use Rattle.wire.specs.declared.body.SealBody.TheVariants as seals
use Rattle.wire.specs.declared.body.StreamBody.{StreamBody}
use Rattle.wire.specs.declared.body.StreamBody.TheVariants as streams
use Rattle.wire.specs.declared.body.TableBody.{TableBody}
use Rattle.wire.specs.declared.body.TableBody.TheVariants as tables
use Rattle.wire.specs.declared.note.Note.{Note}
use Rattle.wire.specs.declared.note.Note.TheVariants as notes
use Rattle.script_reports.specs.declared.report.Answer.{Answer}
use Rattle.script_reports.specs.declared.report.Answer.TheVariants as answers
use Rattle.script_reports.specs.declared.report.Report.{Report}
use Rattle.script_reports.specs.declared.report.Report.TheVariants as reports
use Rattle.script_reports.specs.Reports.{shown_bytes}

-- the answer that a body brings, and the request that it answers
abbrev pub append_answer : AppendBody → Option (ReqNo × Answer)
append_answer (appends.Appended number extent offset) = Some (number, answers.Appended offset)
append_answer (appends.Refused number refusal) = Some (number, answers.Refused refusal)
append_answer other = None

abbrev pub stream_answer : StreamBody → Option (ReqNo × Answer)
stream_answer (streams.Created number) = Some (number, answers.Created)
stream_answer (streams.Extended number extent places) = Some (number, answers.Extended extent)
stream_answer other = None

abbrev pub seal_answer : SealBody → Option (ReqNo × Answer)
seal_answer (seals.SealedIs number extent size) = Some (number, answers.Sealed extent size)
seal_answer other = None

-- the bytes in two digits each, and of groups how many bytes they have
abbrev pub read_answer : ReadBody → Option (ReqNo × Answer)
read_answer (reads.Bytes number extent offset bytes) = Some (number, answers.Bytes (shown_bytes bytes))
read_answer (reads.Groups number extent groups) = Some (number, answers.Content (groups_size groups))
read_answer other = None

abbrev pub table_answer : TableBody → Option (ReqNo × Answer)
table_answer (tables.Committed number given) = Some (number, answers.Committed given)
table_answer (tables.Value number None) = Some (number, answers.NoValue)
table_answer (tables.Value number (Some bytes)) = Some (number, answers.Value (shown_bytes bytes))
table_answer other = None

-- of a key, its range and who holds that
abbrev pub map_answer : MapBody → Option (ReqNo × Answer)
map_answer (maps.RouteIs number range server) = Some (number, answers.Route range server)
map_answer other = None

abbrev pub answer_of : Body → Option (ReqNo × Answer)
answer_of (bodies.Append body) = append_answer body
answer_of (bodies.Seal body) = seal_answer body
answer_of (bodies.Read body) = read_answer body
answer_of (bodies.Stream body) = stream_answer body
answer_of (bodies.Map body) = map_answer body
answer_of (bodies.Table body) = table_answer body
answer_of other = None

-- an answer is printed with the ticket of the request
abbrev pub told_with : ℕ → Option (ReqNo × Answer) → Option Report
told_with user None = None
told_with user (Some (numbers.User asker ticket, answer)) = Some (reports.Told user ticket answer)
told_with user (Some (numbers.Server server session count, answer)) = None
told_with user (Some (numbers.NoRequest, answer)) = None

-- what a delivery prints
abbrev pub told_to : ActorId → Body → Option Report
told_to (actors.User user) body = told_with user (answer_of body)
told_to other body = None

-- the line of an observation of the map; the key in two digits a byte
abbrev pub map_observed : Note → Option Report
map_observed (notes.Split range low high key) = Some (reports.Split range low high (shown_bytes key))
map_observed (notes.Merged left right range) = Some (reports.Merged left right range)
map_observed other = None

-- how many bytes a value has, if there is one
abbrev pub size_of : Option (List ℕ) → Option ℕ
size_of None = None
size_of (Some bytes) = Some (length bytes)

-- the line of an observation of a table; the key that was asked for in two digits a byte
abbrev pub table_observed : Note → Option Report
table_observed (notes.Began range generation number changes) = Some (reports.Began range generation number)
table_observed (notes.Done range generation number) = Some (reports.Done range generation number)
table_observed (notes.Loaded range generation rows next) = Some (reports.Loaded range generation next (length rows))
table_observed (notes.Got range generation key value) = Some (reports.Got range generation (shown_bytes key) (size_of value))
table_observed other = map_observed other

-- the line of an observation
abbrev pub observed : Note → Option Report
observed (notes.Acked extent offset group) = Some (reports.Acked extent offset (group_size group))
observed (notes.SealedAt extent size) = Some (reports.SealedAt extent size)
observed (notes.Content extent node groups) = Some (reports.Content extent node (groups_size groups) (length groups))
observed (notes.Seen extent node offset bytes) = Some (reports.Seen extent node offset (length bytes))
observed other = table_observed other
