-- Which request a packet answers, and what is answered.
use Rattle.std.specs.Prelude.{Option, Some, None}
use Rattle.wire.specs.declared.actor.ActorId.{ActorId}
use Rattle.wire.specs.declared.actor.ActorId.TheVariants.{User}
use Rattle.wire.specs.declared.actor.ReqNo.{ReqNo}
use Rattle.wire.specs.declared.body.AppendBody.{AppendBody}
use Rattle.wire.specs.declared.body.AppendBody.TheVariants as appends
use Rattle.wire.specs.declared.body.CheckBody.{CheckBody}
use Rattle.wire.specs.declared.body.CheckBody.TheVariants as checks
use Rattle.wire.specs.declared.body.SealBody.{SealBody}
use Rattle.wire.specs.declared.body.SealBody.TheVariants as seals
use Rattle.wire.specs.declared.body.ReadBody.{ReadBody}
use Rattle.wire.specs.declared.body.ReadBody.TheVariants as reads
use Rattle.wire.specs.declared.body.StreamBody.{StreamBody}
use Rattle.wire.specs.declared.body.StreamBody.TheVariants as streams
use Rattle.wire.specs.declared.body.MapBody.{MapBody}
use Rattle.wire.specs.declared.body.MapBody.TheVariants as maps
use Rattle.wire.specs.declared.body.TableBody.{TableBody}
use Rattle.wire.specs.declared.body.TableBody.TheVariants as tables
use Rattle.wire.specs.declared.body.Body.{Body}
use Rattle.wire.specs.declared.body.Body.TheVariants as bodies
use Rattle.wire.specs.declared.packet.Packet.{Packet}
use Rattle.wire.specs.declared.refusal.Refusal.{Refusal}
use Rattle.stamp_answers.specs.declared.key.AnswerKey.{AnswerKey}
use Rattle.stamp_answers.specs.declared.answer.Answer.{Answer}
use Rattle.stamp_answers.specs.declared.answer.Answer.TheVariants as outcomes
use Rattle.stamp_answers.specs.Keys.{key_in}

-- the request that a body about appends answers; a refusal answers any request
abbrev pub answered_append : AppendBody → Option ReqNo
answered_append (appends.Appended q e offset) = Some q
answered_append (appends.Refused q refusal) = Some q
answered_append _ = None

abbrev pub answered_check : CheckBody → Option ReqNo
answered_check (checks.Checked q length) = Some q
answered_check _ = None

abbrev pub answered_seal : SealBody → Option ReqNo
answered_seal (seals.SealedIs q e length) = Some q
answered_seal _ = None

abbrev pub answered_read : ReadBody → Option ReqNo
answered_read (reads.Bytes q e offset bytes) = Some q
answered_read (reads.Groups q e groups) = Some q
answered_read _ = None

abbrev pub answered_stream_call : StreamBody → Option ReqNo
answered_stream_call (streams.Created q) = Some q
answered_stream_call (streams.Opened q lists) = Some q
answered_stream_call (streams.Confirmed q) = Some q
answered_stream_call (streams.Extended q e places) = Some q
answered_stream_call (streams.Trimmed q) = Some q
answered_stream_call (streams.Modified q) = Some q
answered_stream_call _ = None

abbrev pub answered_map_call : MapBody → Option ReqNo
answered_map_call (maps.RouteIs q range server) = Some q
answered_map_call (maps.SplitBegun q low high) = Some q
answered_map_call (maps.SplitDone q) = Some q
answered_map_call (maps.MergeBegun q range) = Some q
answered_map_call (maps.MergeDone q) = Some q
answered_map_call _ = None

abbrev pub answered_table_call : TableBody → Option ReqNo
answered_table_call (tables.Committed q number) = Some q
answered_table_call (tables.Value q value) = Some q
answered_table_call _ = None

-- the number of the request that a body answers, with which an answer begins
abbrev pub answered_request : Body → Option ReqNo
answered_request (bodies.Append body) = answered_append body
answered_request (bodies.Check body) = answered_check body
answered_request (bodies.Seal body) = answered_seal body
answered_request (bodies.Read body) = answered_read body
answered_request (bodies.Stream body) = answered_stream_call body
answered_request (bodies.Map body) = answered_map_call body
answered_request (bodies.Table body) = answered_table_call body

-- the request of its addressee that a body answers: only users have such
abbrev pub answer_to : ActorId → Body → Option AnswerKey
answer_to (User user) body = key_in user (answered_request body)
answer_to _ body = None

-- the request of its addressee that a packet answers
abbrev pub answer_key : Packet → Option AnswerKey
answer_key p = answer_to p.to p.body

-- ---- what is answered

-- of an event that was taken, or refused
abbrev pub outcome_of : Option Refusal → Answer
outcome_of None = outcomes.Taken
outcome_of (Some refusal) = outcomes.Refused refusal
