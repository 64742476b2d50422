use Rattle.std.proofs.Common.{◌≡◌, List, [], sym, ap, subst, ◌∙◌}
use Rattle.memtable.specs.Layers.{cell_at}
use Rattle.checkpoint.specs.declared.page_lookup.Lookup.{Lookup}
use Rattle.model_partition.specs.declared.waiting.PlaceRead.{PlaceRead}
use Rattle.model_partition.specs.Getting.{try, gets_after, standing, held_at, used_all, found_cell}
use Rattle.range_reads.specs.Caching.{placed, used_at, pages_used}
use Rattle.range_reads.specs.Looking.{newest_cell}
use Rattle.range_reads.specs.ValueCache.{Values}
use Rattle.range_reads.specs.Lookups.{IsOf, seen}
use Rattle.range_reads.proofs.SeenRange.{get_taken, stands, is_used_for}
use Rattle.range_reads.proofs.lookups.Lookups.get.Goals as goal

pub returns-clause-ok : goal.returns-clause-ok
returns-clause-ok c = λ r sees own.
    let inside = c.self.inside in
    let mine = subst (IsOf r) (sym c.self.view_is) own in
    let reads : c.new.result.items ≡ [] = c.new.ensures.items in
    let found = c.in_ok-found.ensures ∙ (λ i. newest_cell (held_at c.self.inside.held) c.args.asking.now.indexes.now (c.deref.ensures i) (c.get-cell.ensures i)) in
    let tried = c.in_ok-one.ensures.value r found ∙ ap (λ (l : List PlaceRead). try c.args.asking.now.context.now (seen c.args.asking.now c.self.inside.held r) (record { from = c.args.from; request = c.args.number; key = c.of-key.result; reads = l })) reads in
    let cell = stands r c.args.asking.now c.of-key.result sees in
    let pages = c.deref-3.ensures.value ∙ c.in_ok-pages.ensures ∙ (λ i. pages_used c.args.asking.now.indexes.now (c.deref-2.ensures i) (c.get-cell.ensures i)) in
    let place = c.value_used-place.ensures ∙ ap (λ (l : Lookup). placed (found_cell l)) found in
    let after = c.promote_some.ensures ∙ (λ i. used_at (c.promote_each.ensures i) (place i)) ∙ ap (λ l. used_at (used_all c.self.inside.held l) (placed (found_cell (newest_cell (held_at c.self.inside.held) c.args.asking.now.indexes.now c.of-key.result (cell_at c.args.asking.now.table.now c.of-key.result))))) pages
    ∙ (λ i. used_at (used_all (mine.held i) (pages_used (sees.indexes i) c.of-key.result (cell i))) (placed (found_cell (newest_cell (held_at (mine.held i)) (sees.indexes i) c.of-key.result (cell i)))))
    ∙ is_used_for r.held r.indexes c.of-key.result (standing r c.of-key.result) in
    rw (← c.of-key.ensures)
    (ap (λ (h : Values). gets_after (record r { held = h }) r.gets (try c.args.asking.now.context.now r (record { from = c.args.from; request = c.args.number; key = c.of-key.result; reads = [] }))) (sym after)
    ∙ get_taken c.args.asking.now.context.now r c.args.asking.now (record { gets = inside.gets.items; held = inside.held }) (record { from = c.args.from; request = c.args.number; key = c.of-key.result; reads = [] }) c.in_ok-one.one c.promote_some.new.held c.push_some.new.items.items c.in_ok-packets.packets.items c.in_ok-notes.notes.items
    sees mine tried c.in_ok-push_some.ensures.ok c.in_ok-packets.ensures c.in_ok-notes.ensures)
