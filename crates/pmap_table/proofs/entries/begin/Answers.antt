use Rattle.std.proofs.Common.{refl}
use Rattle.model_partition.specs.Map.{with_pending}
use Rattle.pmap_table.proofs.Places.{changed_in, none_in}
use Rattle.pmap_table.proofs.entries.begin.Goals as goal

pub returns-in-Some : goal.returns-in-Some
returns-in-Some c =
    changed_in c.args.range (with_pending c.args.pending) c.args.entries.now.items c.deref.result.now c.in-Some.place c.index_mut.result.now (with_pending c.args.pending c.index_mut.result.now) c.deref.ensures.value c.requires.once
    c.in-Some.ensures.place c.index_mut.ensures.value refl

pub returns-in_default : goal.returns-in_default
returns-in_default c = none_in c.args.range (with_pending c.args.pending) c.args.entries.now.items c.deref.result.now c.deref.ensures.value c.in_default.ensures.none
