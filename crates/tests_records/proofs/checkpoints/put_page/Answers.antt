use Rattle.memtable.proofs.Entries.{fits_put}
use Rattle.tests_records.proofs.checkpoints.put_page.Goals as goal

pub returns : goal.returns
returns c =
    rw c.in_ok-put_all.ensures.entries (fits_put c.args.map.now c.add_page.new.changes.items c.requires (c.in_ok-add_page.ensures.fit (rw c.new-changes.ensures.items tt)))
