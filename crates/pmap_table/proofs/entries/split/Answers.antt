use Rattle.std.proofs.Common.{ap, sym, ◌∙◌}
use Rattle.std.specs.Prelude.{option_and_then}
use Rattle.model_partition.specs.declared.range_entry.RangeEntry.{RangeEntry}
use Rattle.pmap_table.specs.MapTable.{split_key}
use Rattle.pmap_table.proofs.Places.{found_in, halved_in, inserted}
use Rattle.pmap_table.proofs.entries.split.Goals as goal

pub split_entry-requires : goal.split_entry-requires
split_entry-requires c =
    ap (option_and_then (λ (r : RangeEntry). split_key r.pending))
    (sym (found_in c.args.range c.args.entries.now.items c.deref.result.now c.in-Some.place c.index_mut.result.now c.deref.ensures.value c.in-Some.ensures.place c.index_mut.ensures.value))
    ∙ c.requires.pending

pub returns-in-Some-split_entry : goal.returns-in-Some-split_entry
returns-in-Some-split_entry c =
    inserted _ _ _ _ _ _ c.insert-room_was_made.ensures.items c.insert-room_was_made.ensures.full c.requires.room
    ∙ halved_in c.args.range c.args.entries.now.items c.deref.result.now c.in-Some.place c.index_mut.result.now c.split_entry.new.entry c.in-Some-split_entry.upper c.deref.ensures.value c.in-Some.ensures.place c.index_mut.ensures.value
    c.in-Some-split_entry.ensures.halves
