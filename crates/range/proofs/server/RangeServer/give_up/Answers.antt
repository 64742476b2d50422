use Rattle.std.proofs.Common.{rules, arith}
use Rattle.range.proofs.Entries.{removed_after, set_same}
use Rattle.range.proofs.server.RangeServer.give_up.Goals as goal

pub returns-in-None-clause-refused : goal.returns-in-None-clause-refused
returns-in-None-clause-refused c = search rules

pub returns-in-Err-clause-err : goal.returns-in-Err-clause-err
returns-in-Err-clause-err c = grind (arith, removed_after, set_same)
