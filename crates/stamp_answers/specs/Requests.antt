-- The number of a request.
use Rattle.std.specs.Prelude.{ℕ, Option, Some, None}
use Rattle.wire.specs.declared.actor.ReqNo.{ReqNo}
use Rattle.wire.specs.declared.body.AppendBody.{AppendBody}
use Rattle.wire.specs.declared.body.AppendBody.TheVariants as appends
use Rattle.wire.specs.declared.body.CheckBody.{CheckBody}
use Rattle.wire.specs.declared.body.CheckBody.TheVariants as checks
use Rattle.wire.specs.declared.body.SealBody.{SealBody}
use Rattle.wire.specs.declared.body.SealBody.TheVariants as seals
use Rattle.wire.specs.declared.body.ReadBody.{ReadBody}
use Rattle.wire.specs.declared.body.ReadBody.TheVariants as reads
use Rattle.wire.specs.declared.body.StreamBody.{StreamBody}
use Rattle.wire.specs.declared.body.StreamBody.TheVariants as streams
use Rattle.wire.specs.declared.body.MapBody.{MapBody}
use Rattle.wire.specs.declared.body.MapBody.TheVariants as maps
use Rattle.wire.specs.declared.body.TableBody.{TableBody}
use Rattle.wire.specs.declared.body.TableBody.TheVariants as tables
use Rattle.wire.specs.declared.body.Body.{Body}
use Rattle.wire.specs.declared.body.Body.TheVariants as bodies
use Rattle.stamp_answers.specs.declared.key.AnswerKey.{AnswerKey}
use Rattle.stamp_answers.specs.Keys.{key_in}

-- the number of a request about appends
abbrev pub asked_append : AppendBody → Option ReqNo
asked_append (appends.Append e generation blocks q) = Some q
asked_append _ = None

abbrev pub asked_check : CheckBody → Option ReqNo
asked_check (checks.Check e generation q) = Some q
asked_check _ = None

abbrev pub asked_seal : SealBody → Option ReqNo
asked_seal (seals.SealExtent e q) = Some q
asked_seal _ = None

abbrev pub asked_read : ReadBody → Option ReqNo
asked_read (reads.ReadAt e offset length q) = Some q
asked_read (reads.ReadGroups e upto sealed q) = Some q
asked_read _ = None

abbrev pub asked_stream_call : StreamBody → Option ReqNo
asked_stream_call (streams.CreateStream s fence q) = Some q
asked_stream_call (streams.OpenStreams range generation q) = Some q
asked_stream_call (streams.Confirm range generation q) = Some q
asked_stream_call (streams.Extend s generation last pick q) = Some q
asked_stream_call (streams.Trim range generation before to_blob q) = Some q
asked_stream_call (streams.MultiModify list q) = Some q
asked_stream_call _ = None

abbrev pub asked_map_call : MapBody → Option ReqNo
asked_map_call (maps.Route key q) = Some q
asked_map_call (maps.BeginSplit range generation key q) = Some q
asked_map_call (maps.CompleteSplit range generation q) = Some q
asked_map_call (maps.BeginMerge left left_generation right right_generation q) = Some q
asked_map_call (maps.CompleteMerge left left_generation right right_generation q) = Some q
asked_map_call _ = None

abbrev pub asked_table_call : TableBody → Option ReqNo
asked_table_call (tables.Transact range changes q) = Some q
asked_table_call (tables.Get range key q) = Some q
asked_table_call _ = None

-- the number of a request, with which it ends
abbrev pub asked_request : Body → Option ReqNo
asked_request (bodies.Append body) = asked_append body
asked_request (bodies.Check body) = asked_check body
asked_request (bodies.Seal body) = asked_seal body
asked_request (bodies.Read body) = asked_read body
asked_request (bodies.Stream body) = asked_stream_call body
asked_request (bodies.Map body) = asked_map_call body
asked_request (bodies.Table body) = asked_table_call body

-- the key of a request of this user
abbrev pub request_key : ℕ → Body → Option AnswerKey
request_key user body = key_in user (asked_request body)
