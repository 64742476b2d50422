use Rattle.std.proofs.Common.{◌≡◌, [], drop}
use Rattle.world_servers.proofs.PageEntries.{with_pages}
use Rattle.world_servers.proofs.table_entries.entries_of_index.Given as goal

abbrev pub invariant-loop-page : goal.invariant-loop-page
invariant-loop-page l =
    with_pages l.fn.notes l.fn.index.keys l.fn.keys l.entries.items (drop l.page-index l.fn.index.index.pages) ≡ with_pages l.fn.notes l.fn.index.keys l.fn.keys [] l.fn.index.index.pages
