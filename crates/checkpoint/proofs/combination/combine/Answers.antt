use Rattle.std.proofs.Common.{Some, subst, sym}
use Rattle.std.specs.List.{AllByRecursion}
use Rattle.memtable.specs.Entries.{Entries, IsFit, put_all}
use Rattle.memtable.proofs.Entries.{fits_put}
use Rattle.checkpoint.proofs.Merging.{fits_combined}
use Rattle.checkpoint.proofs.combination.combine.Goals as goal

pub of-requires : goal.of-requires
of-requires c =
    subst (λ (es : Entries). AllByRecursion IsFit es) (sym c.in_ok-entries.ensures)
    (fits_combined (put_all c.entries-older.result.now.entries c.args.changes.now) (Some c.args.newer.now.entries) (fits_put c.entries-older.result.now.entries c.args.changes.now c.entries-older.ensures.each c.requires.changes) c.requires.newer)
