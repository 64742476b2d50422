use Rattle.model_partition.specs.Map.{renewed}
use Rattle.pmap_table.proofs.Places.{changed_in, none_in}
use Rattle.pmap_table.proofs.entries.renew.Goals as goal

pub returns-in-Some : goal.returns-in-Some
returns-in-Some c =
    changed_in c.args.range (renewed c.args.until) c.args.entries.now.items c.deref.result.now c.in-Some.place c.index_mut.result.now c.renew_entry.new.entry c.deref.ensures.value c.requires.once c.in-Some.ensures.place
    c.index_mut.ensures.value c.renew_entry.ensures

pub returns-in_default : goal.returns-in_default
returns-in_default c = none_in c.args.range (renewed c.args.until) c.args.entries.now.items c.deref.result.now c.deref.ensures.value c.in_default.ensures.none
