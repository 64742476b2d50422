use Rattle.std.proofs.Common.{◌≡◌, get_or, sym, ◌∙◌}
use Rattle.std.proofs.lemmas.Map.Lookups.{exact_unsigned}
use Rattle.world_checker.proofs.Beginning.{stands_there}
use Rattle.world_checker.proofs.starts.stands_where.Goals as goal

pub returns-then-place-groups : goal.returns-then-place-groups
returns-then-place-groups c = λ yes.
    let begins : get_or c.args.starts.now c.in-Ok.place 0 ≡ c.args.offset = exact_unsigned (get_or c.args.starts.now c.in-Ok.place 0) c.args.offset (c.in-Ok.ensures.ok 0) in
    stands_there c.args.groups.now c.args.starts.now c.in-Ok.place c.args.offset c.index-groups-place.result c.args.group.now c.requires c.in-Ok.ensures.bound begins
    c.if-place-groups.true c.index-groups-place.is (sym c.blocks-then-place-groups.ensures.value ∙ (c.is_same_group.ensures.0 yes ∙ c.blocks-then-place-groups-2.ensures.value))
