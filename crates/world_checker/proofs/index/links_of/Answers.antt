use Rattle.std.proofs.Common.{sym, subst, arith}
use Rattle.std.specs.BTreeMap.{get}
use Rattle.std.specs.Ordering.{nat_cmp}
use Rattle.world_checker.specs.Links.{IsLink, LeadsBack}
use Rattle.world_checker.proofs.Linking.{last_more, is_link, links_more, leads_back, each_more, pushed_length}
use Rattle.world_checker.proofs.index.links_of.Goals as goal

pub loop-place-preserved : goal.loop-place-preserved
loop-place-preserved c =
    let sought = c.args.sought in
    let notes = c.args.notes.now in
    let place = c.loop-place.place in
    let note = c.index-notes-place.result in
    let old = get nat_cmp c.loop-place.last in
    let new = get nat_cmp c.step.new.last in
    let link = c.in_ok-step.field-0 in
    let one = is_link sought notes place note old new link c.loop-place-test.true c.index-notes-place.is c.loop-place.invariant.last c.in_ok-step.ensures in
    rw c.in_ok-push.ensures.items (record {
      counted = pushed_length c.loop-place.links.items link place c.loop-place.invariant.counted;
      links = links_more sought notes c.loop-place.links.items link c.loop-place.invariant.links (omega (arith, c.loop-place.invariant.counted, c.loop-place-test.true)) (subst (λ n. IsLink sought notes n link) (sym c.loop-place.invariant.counted) one);
      lead = each_more (LeadsBack sought notes) c.loop-place.links.items link c.loop-place.invariant.lead
          (subst (λ n. LeadsBack sought notes n link) (sym c.loop-place.invariant.counted) (leads_back sought notes place note old new link c.loop-place-test.true c.index-notes-place.is c.loop-place.invariant.last c.in_ok-step.ensures));
      last = last_more sought notes place note old new link c.loop-place-test.true c.index-notes-place.is c.loop-place.invariant.last c.in_ok-step.ensures;
    })
