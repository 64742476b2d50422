use Rattle.std.proofs.Common.{◌++◌, ◌∷◌, [], length, ap, sym, ◌∙◌, arith, append_assoc}
use Rattle.std.specs.Vec.Iter.{into_iter_items}
use Rattle.std.proofs.lemmas.Result.{err_from_is_err_and}
use Rattle.manager_state.specs.Replay.{plain_of}
use Rattle.manager_state.proofs.Recovering.{made_more, not_damaged}
use Rattle.manager_state.proofs.table.ManagerTable.replayed.Goals as goal

pub loop-record_read-preserved : goal.loop-record_read-preserved
loop-record_read-preserved c =
    let before = c.loop-record_read.invariant in
    let step = c.in-Some.ensures.steps in
    record {
      made = made_more (plain_of c.loop-record_read.table) c.loop-record_read.yielded c.in-Some.record_read c.in_ok-recover.field-0 before.made c.in_ok-recover.ensures;
      rest = append_assoc c.loop-record_read.yielded (c.in-Some.record_read ∷ []) (into_iter_items c.next.new.self) ∙ ap (λ l. c.loop-record_read.yielded ++ l) (sym step.0) ∙ before.rest;
      count = omega (arith, before.count, step.1, ap length step.0);
    }

pub returns-in_err-recover-clause-damaged : goal.returns-in_err-recover-clause-damaged
returns-in_err-recover-clause-damaged c = λ fits some damaged.
    let before = c.loop-record_read.invariant in
    let step = c.in-Some.ensures.steps in
    let p = err_from_is_err_and c.from_residual.result c.from_residual.ensures.1 in
    let whole = sym before.rest ∙ ap (λ l. c.loop-record_read.yielded ++ l) step.0 in
    not_damaged (plain_of c.loop-record_read.table) c.loop-record_read.yielded c.in-Some.record_read _ _ _ before.made whole fits c.in_err-recover.ensures (cc (damaged, p.1, p.2))
