use Rattle.std.proofs.Common.{List, ℕ, ap, ◌∙◌}
use Rattle.memtable.specs.declared.cell.Place.{Place}
use Rattle.lru.specs.LruCache.{LruCache}
use Rattle.range_reads.proofs.Values.{put_same}
use Rattle.range_reads.proofs.value_cache.ValueCache.put.Goals as goal

pub returns-clause-ok : goal.returns-clause-ok
returns-clause-ok c =
    ap (λ (l : LruCache Place (List ℕ)). l.entries) c.in_ok-put.ensures.entries
    ∙ put_same c.self.inside.cache.entries c.args.self.now c.self.inside.cache.cap c.key_of.result c.args.fresh.place c.args.fresh.bytes c.self.view_is c.self.invariant c.key_of.ensures
