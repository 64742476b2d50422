use Rattle.std.proofs.Common.{◌≡◌, ℕ, suc, ◌+◌, sym, ap, ◌∙◌, arith}
use Rattle.wire.specs.declared.actor.ReqNo.{ReqNo}
use Rattle.client.specs.Client.{give_up_rule}
use Rattle.model_partition.specs.Range.{request}
use Rattle.range_load.proofs.giving_up.give_up.Goals as goal

counted : (n : ℕ) → suc n ≡ n + 1
counted n = omega arith

pub returns-clause-log : goal.returns-clause-log
returns-clause-log c = ap (λ (q : ReqNo). give_up_rule c.args.content.now.log q c.args.context.now.pick) (sym c.next_request.ensures) ∙ c.give_up-2.ensures

pub returns-clause-metadata : goal.returns-clause-metadata
returns-clause-metadata c =
    let number = ap (λ (n : ℕ). request (record c.args.context.now { count = n })) (counted c.args.context.now.count) ∙ sym c.next_request-2.ensures in
    ap (λ (q : ReqNo). give_up_rule c.args.content.now.metadata q c.args.context.now.pick) number ∙ c.give_up-3.ensures
