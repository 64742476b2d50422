use Rattle.std.proofs.Common.{rules, tests, arith}
use Rattle.std.proofs.lemmas.Bool.Decides.{nat_tests}
use Rattle.std.proofs.lemmas.Iterator.{YieldsList-from_slice}
use Rattle.std.proofs.lemmas.Iterator.Search.{all_from_yields_List}
use Rattle.wire.specs.declared.streams.Modify.{Modify}
use Rattle.streams.specs.Streams.{are_sources}
use Rattle.streams.proofs.building.may_list.Goals as goal

pub returns-then-list-le-MAX_JOINED : goal.returns-then-list-le-MAX_JOINED
returns-then-list-le-MAX_JOINED c =
    let all = all_from_yields_List (λ (m : Modify). are_sources m.sources) _ _ c.all.result c.all.ensures.ran (YieldsList-from_slice c.args.list.now cc) (λ x b q k. search (rules, tests)) in
    grind (arith, nat_tests)
