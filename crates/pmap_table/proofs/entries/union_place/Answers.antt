use Rattle.std.proofs.Common.{sym, ◌∙◌, arith}
use Rattle.pmap_table.proofs.Places.{no_union, union_end, union_other, union_is, not_true, not_false}
use Rattle.pmap_table.proofs.entries.union_place.Goals as goal

pub returns-in_default-clause-into : goal.returns-in_default-clause-into
returns-in_default-clause-into c = sym (no_union c.args.left c.args.right c.args.entries.now c.in_default.ensures.none)

pub returns-then-place-entries-clause-into : goal.returns-then-place-entries-clause-into
returns-then-place-entries-clause-into c = sym (union_end c.args.left c.args.right c.args.entries.now c.in-Some.place c.in-Some.ensures.place c.if-place-entries.true)

pub returns-then-ne-clause-into : goal.returns-then-ne-clause-into
returns-then-ne-clause-into c =
    sym (union_other c.args.left c.args.right c.args.entries.now c.in-Some.place c.index-entries-place.result c.index-entries-place.result c.in-Some.ensures.place (omega (arith, c.in-Some.ensures.within, c.if-place-entries.false))
    (not_true _ (sym c.ne.ensures ∙ c.if-ne.true)))

pub returns-in-None-clause-into : goal.returns-in-None-clause-into
returns-in-None-clause-into c =
    sym c.in-None.is ∙ c.union_with.ensures
    ∙ sym (union_is c.args.left c.args.right c.args.entries.now c.in-Some.place c.index-entries-place-2.result c.index-entries-place.result c.in-Some.ensures.place (omega (arith, c.in-Some.ensures.within, c.if-place-entries.false))
    (not_false _ (sym c.ne.ensures ∙ c.if-ne.false)))

pub returns-in-Some-union_with-clause-into : goal.returns-in-Some-union_with-clause-into
returns-in-Some-union_with-clause-into c =
    sym c.in-Some-union_with.is ∙ c.union_with.ensures
    ∙ sym (union_is c.args.left c.args.right c.args.entries.now c.in-Some.place c.index-entries-place-2.result c.index-entries-place.result c.in-Some.ensures.place (omega (arith, c.in-Some.ensures.within, c.if-place-entries.false))
    (not_false _ (sym c.ne.ensures ∙ c.if-ne.false)))
