use Rattle.std.proofs.Common.{ap, sym, ◌∙◌, ltb-true}
use Rattle.model_partition.specs.Map.{assigned}
use Rattle.model_partition.specs.Replay.{may_assign}
use Rattle.pmap_table.proofs.Places.{found_in, changed_in}
use Rattle.pmap_table.proofs.entries.assign.Goals as goal

pub assign_entry-requires : goal.assign_entry-requires
assign_entry-requires c =
    ltb-true _ _ (ap may_assign (sym (found_in c.args.range c.args.entries.now.items c.deref.result.now c.in-Some.place c.index_mut.result.now c.deref.ensures.value c.in-Some.ensures.place c.index_mut.ensures.value)) ∙ c.requires.may)

pub returns-in-Some : goal.returns-in-Some
returns-in-Some c =
    changed_in c.args.range (assigned c.args.server c.args.until) c.args.entries.now.items c.deref.result.now c.in-Some.place c.index_mut.result.now c.assign_entry.new.entry c.deref.ensures.value c.requires.once c.in-Some.ensures.place
    c.index_mut.ensures.value c.assign_entry.ensures
