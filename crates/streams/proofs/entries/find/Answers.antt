use Rattle.std.proofs.Common.{ap, sym, ◌∙◌, Some}
use Rattle.streams.proofs.Tables.{found_at, found_gap}
use Rattle.streams.proofs.entries.find.Goals as goal

pub returns-in-Ok : goal.returns-in-Ok
returns-in-Ok c = ap (λ x. Some x) c.index.ensures ∙ sym (found_at _ c.requires.sorted c.args.name.now c.in-Ok.at c.in-Ok.ensures.found c.index.result.now)

pub returns-in-Err : goal.returns-in-Err
returns-in-Err c = sym (found_gap _ c.args.name.now _ c.in-Err.ensures.absent)
