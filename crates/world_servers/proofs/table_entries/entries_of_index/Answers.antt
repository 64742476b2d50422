use Rattle.world_servers.proofs.PageEntries.{index_more}
use Rattle.world_servers.proofs.table_entries.entries_of_index.Goals as goal

pub loop-page-preserved : goal.loop-page-preserved
loop-page-preserved c =
    index_more c.args.notes.now c.args.keys.now _ c.args.index.now c.loop-page.entries.items c.add_shown.new.entries.items _ c.deref-page-items.result.now c.loop-page.page-index c.page-item.result c.in_ok-bytes.bytes
    c.index.view_is c.deref-page-items.ensures.value c.loop-page-test.true c.page-item.is c.in_ok-add_shown.ensures c.in_ok-bytes.ensures c.loop-page.invariant
