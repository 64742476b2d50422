-- What the lines of a script submit.
use Rattle.std.specs.Prelude.{◌≡◌, ℕ, true}
use Rattle.wire.specs.declared.actor.ActorId.{ActorId}
use Rattle.wire.specs.declared.actor.ActorId.TheVariants as actors
use Rattle.wire.specs.declared.actor.ReqNo.{ReqNo}
use Rattle.wire.specs.declared.body.AppendBody.TheVariants as appends
use Rattle.wire.specs.declared.body.Body.{Body}
use Rattle.wire.specs.declared.body.Body.TheVariants as bodies
use Rattle.wire.specs.declared.body.MapBody.TheVariants as maps
use Rattle.wire.specs.declared.body.ReadBody.{ReadBody}
use Rattle.wire.specs.declared.body.ReadBody.TheVariants as reads
use Rattle.wire.specs.declared.body.SealBody.TheVariants as seals
use Rattle.wire.specs.declared.body.StreamBody.TheVariants as streams
use Rattle.wire.specs.declared.body.TableBody.{TableBody}
use Rattle.wire.specs.declared.body.TableBody.TheVariants as tables
use Rattle.wire.specs.declared.streams.StreamKind.{StreamKind}
use Rattle.wire.specs.declared.streams.StreamName.{StreamName}
use Rattle.model_streams.specs.declared.event.Event.{Event}
use Rattle.model_streams.specs.declared.event.Event.TheVariants.{Submit}
use Rattle.script_lines.specs.declared.line.Request.{Request}
use Rattle.script_lines.specs.declared.line.Request.TheVariants as requests

-- users work on the streams of range 0
abbrev pub stream_of : StreamKind → StreamName
stream_of kind = record { range = 0; kind = kind }

abbrev pub call_by : ℕ → Body → Event
call_by user body = Submit user actors.Manager body

abbrev pub read_by : ℕ → ℕ → ReadBody → Event
read_by user node body = Submit user (actors.Node node) (bodies.Read body)

abbrev pub ask_by : ℕ → ℕ → TableBody → Event
ask_by user server body = Submit user (actors.Server server) (bodies.Table body)

-- what a user's request submits; the generation of a user is 0, content is asked of sealed replicas alone, and routes of the map
abbrev pub asked : ℕ → ReqNo → Request → Event
asked user number (requests.Create kind) = call_by user (bodies.Stream (streams.CreateStream (stream_of kind) 0 number))
asked user number (requests.Extend kind last pick) = call_by user (bodies.Stream (streams.Extend (stream_of kind) 0 last pick number))
asked user number (requests.Append node extent blocks) =
    Submit user (actors.Node node) (bodies.Append (appends.Append extent 0 blocks number))
asked user number (requests.Read node extent offset length) = read_by user node (reads.ReadAt extent offset length number)
asked user number (requests.Content node extent upto) = read_by user node (reads.ReadGroups extent upto true number)
asked user number (requests.Transact server range changes) = ask_by user server (tables.Transact range changes number)
asked user number (requests.Get server range key) = ask_by user server (tables.Get range key number)
asked user number (requests.Route key) = Submit user actors.Map (bodies.Map (maps.Route key number))
asked user number (requests.Seal extent) = call_by user (bodies.Seal (seals.SealExtent extent number))

-- whom this request asks and what, whichever user submits it
abbrev pub IsCall : ReqNo → Request → ActorId × Body → Type 0
IsCall number request call = (user : ℕ) → asked user number request ≡ Submit user call.0 call.1
