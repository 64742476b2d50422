use Rattle.std.proofs.Common.{rules, tests}
use Rattle.std.proofs.lemmas.Iterator.{YieldsList-from_slice, YieldsList-from_zip, same_from_all}
use Rattle.world_checker.proofs.texts.is_same_group.Goals as goal

pub returns-then-group-other : goal.returns-then-group-other
returns-then-group-other c =
    same_from_all c.all.new.self _ _ _ _ c.all.ensures.ran (YieldsList-from_zip (YieldsList-from_slice c.args.group.now cc) (YieldsList-from_slice c.args.other.now cc)) (search rules)
    (λ x q k. search (rules, tests)) (λ x q k. search (rules, tests))
