use Rattle.std.specs.BTreeMap.{get}
use Rattle.std.specs.Ordering.{nat_cmp}
use Rattle.world_checker.proofs.ToldOf.{noted_more, told_more}
use Rattle.world_checker.proofs.telling.agreed.Goals as goal

pub loop-place-preserved : goal.loop-place-preserved
loop-place-preserved c =
    let tells = c.in_ok-tell.ensures c.if-not-branch.false in
    let notes = c.args.notes.now in
    let old = get nat_cmp c.loop-place.extents in
    let new = get nat_cmp c.tell.new.extents in
    record {
      noted = noted_more notes c.loop-place.place c.index-notes-place.result old new c.loop-place-test.true c.index-notes-place.is tells c.loop-place.invariant.noted;
      meet = told_more notes c.loop-place.place c.index-notes-place.result old new c.loop-place-test.true c.index-notes-place.is tells c.loop-place.invariant.noted c.loop-place.invariant.meet;
    }
