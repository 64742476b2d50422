use Rattle.std.proofs.Common.{refl, rules}
use Rattle.std.proofs.lemmas.Result.{err_from_is_err_and}
use Rattle.enode_rules.proofs.primary.told.Goals as goal

pub returns : goal.returns
returns c = search rules

pub returns-in_err-add_answers : goal.returns-in_err-add_answers
returns-in_err-add_answers c =
    let p = err_from_is_err_and c.from_residual.result c.from_residual.ensures.1 in
    rw p.1 (record { after = tt; packets = tt; notes = tt; same = refl; unwritten = refl; fault = cc (p.2, c.in_err-add_answers.ensures.fault) })
