use Rattle.std.proofs.Common.{◌≡◌, ◌∙◌, Option, None, refl, sym, ap, subst}
use Rattle.std.specs.Prelude.{Result, Ok, Err, IfOk, IfErr, OnErr}
use Rattle.std.specs.Result.{result_ok}
use Rattle.wire.specs.declared.actor.ReqNo.{ReqNo}
use Rattle.wire.specs.declared.packet.Packet.{Packet}
use Rattle.client.specs.declared.fault.ClientFault.{ClientFault}
use Rattle.client.specs.Began.{Begins}
use Rattle.client.specs.Client.{ClientState, Outcome, append_rule}
use Rattle.client.specs.contracts.client.StreamClient.{the_view}
use Rattle.model_partition.specs.Range.{given, picking, request}
use Rattle.range_core.proofs.forming.send_group.Goals as goal

gives : (c : ClientState) (rule : Result Outcome ClientFault) (after : ClientState) (sent : Result Packet ClientFault)
    → IfOk sent (λ p. Begins rule after p) → OnErr sent (after ≡ c) → IfErr sent (λ f. rule ≡ Err f)
    → given c rule ≡ record { after = after; packet = result_ok sent; news = None }
gives c rule after (Ok packet) ok err fault = rw ok refl
gives c rule after (Err f) ok err fault = rw (fault, err) refl

pub returns : goal.returns
returns c =
    let old : ClientState = the_view c.log.inside in
    let before : ClientState = picking c.args.context.now old in
    subst (λ (x : ClientState). given (picking c.args.context.now x) (append_rule (picking c.args.context.now x) (request c.args.context.now) c.args.blocks) ≡ record { after = c.append.new.self; packet = c.ok.result; news = None }) c.log.view_is
    (ap (λ (q : ReqNo). given before (append_rule before q c.args.blocks)) (sym c.next_request.ensures)
    ∙ gives before (append_rule before c.next_request.result c.args.blocks) c.append.new.self c.append.result c.append.ensures.ok c.append.ensures.err c.append.ensures.fault
    ∙ ap (λ (p : Option Packet). record { after = c.append.new.self; packet = p; news = None }) (sym c.ok.ensures.value))
