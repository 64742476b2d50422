use Rattle.std.proofs.Common.{Bool, List, ℕ, Option, None, sym, ap, ◌∙◌}
use Rattle.std.specs.Prelude.{if◌then◌else◌}
use Rattle.model_partition.specs.Getting.{held_at}
use Rattle.range_reads.proofs.Values.{fresh_there, with_other}
use Rattle.range_reads.proofs.value_cache.ValueCache.value_beside.Goals as goal

pub returns-then-eq : goal.returns-then-eq
returns-then-eq c =
    sym (fresh_there c.args.self.now c.args.fresh.now c.args.place.now (sym c.eq.ensures ∙ c.if-eq.true))

pub returns-then-goes_for : goal.returns-then-goes_for
returns-then-goes_for c =
    let other = with_other c.args.self.now c.args.fresh.now c.args.place.now (sym c.eq.ensures ∙ c.if-eq.false) c.goes_for.ensures.distinct c.goes_for.ensures.bound in
    let left : Option (List ℕ) = held_at c.args.self.now c.args.place.now in
    sym (other ∙ ap (λ (b : Bool). if b then None else held_at c.args.self.now c.args.place.now) (sym c.goes_for.ensures.value ∙ c.if-goes_for.true))

pub returns : goal.returns
returns c =
    let other = with_other c.args.self.now c.args.fresh.now c.args.place.now (sym c.eq.ensures ∙ c.if-eq.false) c.goes_for.ensures.distinct c.goes_for.ensures.bound in
    c.value.ensures ∙ sym (other ∙ ap (λ (b : Bool). if b then None else held_at c.args.self.now c.args.place.now) (sym c.goes_for.ensures.value ∙ c.if-goes_for.false))
