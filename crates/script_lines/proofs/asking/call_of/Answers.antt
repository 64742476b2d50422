use Rattle.std.proofs.Common.{◌≡◌, subst, sym}
use Rattle.wire.specs.declared.actor.ActorId.{ActorId}
use Rattle.wire.specs.declared.actor.ReqNo.{ReqNo}
use Rattle.wire.specs.declared.body.Body.{Body}
use Rattle.script_lines.specs.Asking.{IsCall}
use Rattle.script_lines.specs.declared.line.Request.{Request}
use Rattle.script_lines.proofs.asking.call_of.Goals as goal

-- the call of a request, by what the request is
is_call : (number : ReqNo) (task other : Request) (call : ActorId × Body) → task ≡ other → IsCall number other call → IsCall number task call
is_call number task other call is h = subst (λ (t : Request). IsCall number t call) (sym is) h

pub returns-in-Create : goal.returns-in-Create
returns-in-Create c = is_call c.args.number c.args.task _ c.create.result c.in-Create.is c.create.ensures

pub returns-in-Extend : goal.returns-in-Extend
returns-in-Extend c = is_call c.args.number c.args.task _ c.extend.result c.in-Extend.is c.extend.ensures

pub returns-in-Append : goal.returns-in-Append
returns-in-Append c = is_call c.args.number c.args.task _ c.append.result c.in-Append.is c.append.ensures

pub returns-in-Read : goal.returns-in-Read
returns-in-Read c = is_call c.args.number c.args.task _ c.bytes_at.result c.in-Read.is c.bytes_at.ensures

pub returns-in-Content : goal.returns-in-Content
returns-in-Content c = is_call c.args.number c.args.task _ c.content.result c.in-Content.is c.content.ensures

pub returns-in-Transact : goal.returns-in-Transact
returns-in-Transact c = is_call c.args.number c.args.task _ c.transact.result c.in-Transact.is c.transact.ensures

pub returns-in-Get : goal.returns-in-Get
returns-in-Get c = is_call c.args.number c.args.task _ c.get.result c.in-Get.is c.get.ensures

pub returns-in-Route : goal.returns-in-Route
returns-in-Route c = is_call c.args.number c.args.task _ c.route.result c.in-Route.is c.route.ensures

pub returns-in-Seal : goal.returns-in-Seal
returns-in-Seal c = is_call c.args.number c.args.task _ c.seal.result c.in-Seal.is c.seal.ensures
