use Rattle.std.proofs.Common.{◌≡◌, ℕ, ◌+◌, ◌-◌, ◌≤◌, length, ap, subst, sym, ◌∙◌}
use Rattle.std.specs.Prelude.{min}
use Rattle.range_replay.proofs.Taking.{is_taken}
use Rattle.range_replay.proofs.regions.take_region.Goals as goal

pub returns-clause-ok : goal.returns-clause-ok
returns-clause-ok c = λ layer.
    let begun : c.new-replay.result ≡ c.args.region.next = c.new-replay.ensures in
    let count : ℕ = length c.args.written.now.transactions in
    is_taken c.args.keys.now c.args.at.now c.args.extent c.args.written.now c.args.region layer c.in_ok-old.old c.next.result c.in_ok-cells.cells.items c.args.changes.now.items c.add_cells.new.changes.items
    (sym c.holds.ensures ∙ c.if-not-holds.false) (subst (λ (n : ℕ). c.args.written.now.first ≤ n) begun c.in_ok-old.ensures.reached)
    (c.in_ok-old.ensures.old ∙ ap (λ (n : ℕ). min (n - c.args.written.now.first) count) begun)
    (c.next.ensures ∙ c.in_ok-old.ensures.next ∙ ap (λ (n : ℕ). n + (count - c.in_ok-old.old)) begun)
    c.in_ok-cells.ensures.kept c.in_ok-add_cells.ensures.ok
