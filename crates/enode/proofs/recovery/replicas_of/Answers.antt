use Rattle.std.proofs.Common.{◌≡◌, ◌++◌, ◌∷◌, [], length, ap, sym, subst, ◌∙◌, arith, append_assoc, append-nil}
use Rattle.std.specs.Vec.Iter.{into_iter_items}
use Rattle.std.proofs.lemmas.List.{nil_from_length}
use Rattle.std.proofs.lemmas.Result.{err_from_is_err_and}
use Rattle.enode.specs.Node.{IsRestart}
use Rattle.enode.proofs.Recovering.{recovered, not_damaged, restart_nothing}
use Rattle.enode.proofs.recovery.replicas_of.Goals as goal

pub loop-record_read-init : goal.loop-record_read-init
loop-record_read-init c = record {
  made = restart_nothing _ _ c.new-replicas.ensures.empty;
  rest = c.into_iter-record_read-iterator.ensures.into_iter_gives.0;
  count = omega (arith, c.into_iter-record_read-iterator.ensures.into_iter_gives.1, ap length c.into_iter-record_read-iterator.ensures.into_iter_gives.0, c.args.records.ok);
}

pub loop-record_read-preserved : goal.loop-record_read-preserved
loop-record_read-preserved c =
    let before = c.loop-record_read.invariant in
    let step = c.in-Some.ensures.steps in
    record {
      made = recovered _ _ _ before.made _ _ c.in_ok-recover.ensures;
      rest = append_assoc c.loop-record_read.yielded (c.in-Some.record_read ∷ []) (into_iter_items c.next.new.self) ∙ ap (λ l. c.loop-record_read.yielded ++ l) (sym step.0) ∙ before.rest;
      count = omega (arith, before.count, step.1, ap length step.0);
    }

pub returns-in_err-recover-clause-damaged : goal.returns-in_err-recover-clause-damaged
returns-in_err-recover-clause-damaged c = λ fits damaged.
    let before = c.loop-record_read.invariant in
    let step = c.in-Some.ensures.steps in
    let p = err_from_is_err_and c.from_residual.result c.from_residual.ensures.1 in
    let whole = sym before.rest ∙ ap (λ l. c.loop-record_read.yielded ++ l) step.0 in
    not_damaged _ _ _ before.made _ c.in-Some.record_read _ _ _ whole fits c.in_err-recover.ensures (cc (damaged, p.1, p.2))

pub returns-in_err-recover-clause-failed : goal.returns-in_err-recover-clause-failed
returns-in_err-recover-clause-failed c = λ failed.
    let p = err_from_is_err_and c.from_residual.result c.from_residual.ensures.1 in
    absurd (c.in_err-recover.ensures.cause (cc (failed, p.1, p.2)))

pub returns-clause-ok : goal.returns-clause-ok
returns-clause-ok c =
    let before = c.loop-record_read.invariant in
    let nothing : into_iter_items c.loop-record_read.record_read-iterator ≡ [] = nil_from_length _ (omega (arith, before.count, c.in-None.ensures.steps.0)) in
    subst (IsRestart c.args.number c.loop-record_read.replicas.entries) (sym (append-nil c.loop-record_read.yielded) ∙ ap (λ l. c.loop-record_read.yielded ++ l) (sym nothing) ∙ before.rest) before.made
