use Rattle.std.proofs.Common.{◌≡◌, ◌≤◌, ◌∙◌, List, ap, length, subst}
use Rattle.std.proofs.lemmas.Result.{on_ok_weaker}
use Rattle.wire.specs.declared.packet.Packet.{Packet}
use Rattle.script_run.specs.Playing.{SessionState}
use Rattle.script_run.proofs.Playing.{never_sent, sent_before, tells_nobody}
use Rattle.script_run.proofs.session.Session.deliver.Goals as goal

pub returns-in-None-clause-delivers : goal.returns-in-None-clause-delivers
returns-in-None-clause-delivers g c =
    let same : c.sent.result.now ≡ c.args.self.now.run.stream_layer.post = c.sent.ensures.sent ∙ ap (λ (s : SessionState). s.run.stream_layer.post) c.self.view_is in
    never_sent _ c.args.self.now c.args.number (subst (λ (post : List Packet). length post ≤ c.args.number) same c.in-None.ensures.lookup.3)

pub returns-in_ok-answer-in-User-clause-delivers : goal.returns-in_ok-answer-in-User-clause-delivers
returns-in_ok-answer-in-User-clause-delivers g c =
    on_ok_weaker c.hand_over.result
    (sent_before _ _ c.args.self.now _ c.args.number c.sent.result.now c.in-Some.packet.now _ (c.sent.ensures.sent ∙ ap (λ (s : SessionState). s.run.stream_layer.post) c.self.view_is) c.in-Some.ensures.lookup.3.0 c.in-Some.ensures.lookup.1 c.in_ok-answer-in-User.ensures)
    c.hand_over.ensures.delivers

pub returns-in_default-clause-delivers : goal.returns-in_default-clause-delivers
returns-in_default-clause-delivers g c =
    on_ok_weaker c.pass_on.result
    (sent_before _ _ c.args.self.now _ c.args.number c.sent.result.now c.in-Some.packet.now _ (c.sent.ensures.sent ∙ ap (λ (s : SessionState). s.run.stream_layer.post) c.self.view_is) c.in-Some.ensures.lookup.3.0 c.in-Some.ensures.lookup.1
    (tells_nobody c.in-Some.packet.now.to c.in-Some.packet.now.body c.in_default.not-User))
    c.pass_on.ensures.delivers
