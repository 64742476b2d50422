use Rattle.std.proofs.Common.{rules}
use Rattle.std.specs.BTreeMap.{get}
use Rattle.std.specs.Ordering.{nat_cmp}
use Rattle.streams.specs.Table.{streams_with}
use Rattle.streams.proofs.BuildingLemmas.{last_open}
use Rattle.streams.proofs.building.may_build.Goals as goal

pub returns-then-is_open : goal.returns-then-is_open
returns-then-is_open c =
    last_open (get nat_cmp c.args.sealed.now) (streams_with c.args.table.now c.args.made.now) c.args.m.now (search rules) (search rules) (search rules) (search rules)
