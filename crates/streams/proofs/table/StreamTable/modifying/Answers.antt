use Rattle.std.proofs.Common.{refl, sym, ◌∙◌}
use Rattle.std.specs.BTreeMap.{get}
use Rattle.std.specs.Ordering.{nat_cmp}
use Rattle.streams.specs.Faults.{refusal_of}
use Rattle.streams.specs.Table.{streams_of, streams_with}
use Rattle.streams.proofs.BuildingLemmas.{over_nothing, built_more, none_more, refused_here}
use Rattle.streams.proofs.table.StreamTable.modifying.Goals as goal

pub loop-m-init : goal.loop-m-init
loop-m-init c = record { built = over_nothing _ (streams_of c.args.self.now) c.new-made.ensures; free = refl }

pub loop-m-preserved : goal.loop-m-preserved
loop-m-preserved c =
    let before = c.loop-m.invariant in
    let was = streams_with c.args.self.now c.loop-m.made in
    record {
      built =
          built_more (streams_of c.args.self.now) was _ c.args.list.now c.loop-m.m-index c.m-item.result c.loop-m-test.true c.m-item.is before.built c.in_default-build_one.ensures;
      free =
          none_more (get nat_cmp c.args.sealed.now) (streams_of c.args.self.now) was c.args.list.now c.loop-m.m-index c.m-item.result c.loop-m-test.true c.m-item.is before.built before.free
          (sym c.in_default.ensures);
    }

pub returns-in-Err-clause-refused : goal.returns-in-Err-clause-refused
returns-in-Err-clause-refused c = λ other.
    let before = c.loop-m.invariant in
    let was = streams_with c.args.self.now c.loop-m.made in
    refused_here (get nat_cmp c.args.sealed.now) (streams_of c.args.self.now) was c.args.list.now c.loop-m.m-index c.m-item.result c.loop-m-test.true c.m-item.is before.built before.free
    (sym c.may_list.ensures ∙ c.if-not-may_list.false) (refusal_of c.in-Err.fault) (sym c.in-Err.ensures)
