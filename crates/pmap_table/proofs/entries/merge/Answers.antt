use Rattle.std.proofs.Common.{◌≡◌, ◌<◌, List, Some, suc, ap, subst, ◌∙◌, arith, length}
use Rattle.std.specs.Prelude.{get_or, slice_set}
use Rattle.model_partition.specs.declared.range_entry.RangeEntry.{RangeEntry}
use Rattle.model_partition.specs.Map.{union, union_at}
use Rattle.pmap_table.specs.MapTable.{IsPlaceOf}
use Rattle.pmap_table.proofs.Places.{united, not_united}
use Rattle.pmap_table.proofs.entries.merge.Goals as goal

pub returns-in-Some : goal.returns-in-Some
returns-in-Some c =
    let rs = c.args.entries.now.items in
    let at : IsPlaceOf rs c.args.left c.in-Some.found.0 = subst (λ (l : List RangeEntry). IsPlaceOf l c.args.left c.in-Some.found.0) c.deref.ensures.value c.in-Some.ensures.place in
    let lt : suc c.in-Some.found.0 < length rs = omega (arith, ap length c.deref.ensures.value, c.in-Some.ensures.within) in
    let into : Some c.in-Some.found.1 ≡ union_at rs c.args.left c.args.right = c.in-Some.ensures.into ∙ ap (λ (l : List RangeEntry). union_at l c.args.left c.args.right) c.deref.ensures.value in
    ap (λ (l : List RangeEntry). slice_set l c.in-Some.found.0 c.unite.new.entry) c.remove-removed.ensures.items
    ∙ united c.args.left c.args.right c.in-Some.found.1 rs c.in-Some.found.0 c.index_mut.result.now c.remove-removed.result c.unite.new.entry at lt into c.remove-removed.ensures.value
    (c.unite.ensures ∙ ap (λ (x : RangeEntry). union x c.remove-removed.result c.in-Some.found.1) (c.index_mut.ensures.value ∙ ap (λ (l : List RangeEntry). get_or l c.in-Some.found.0 c.index_mut.result.now) c.remove-removed.ensures.items))

pub returns-in_default : goal.returns-in_default
returns-in_default c = not_united c.args.left c.args.right c.args.entries.now.items (c.in_default.ensures.into ∙ ap (λ (l : List RangeEntry). union_at l c.args.left c.args.right) c.deref.ensures.value)
