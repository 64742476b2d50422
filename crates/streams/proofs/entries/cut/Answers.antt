use Rattle.std.proofs.Common.{◌∙◌, ap, set}
use Rattle.streams.specs.Streams.{shorter}
use Rattle.streams.specs.Table.{Entry}
use Rattle.streams.proofs.Trims.{IsCut, in_order, room_there, cut_plain, cut_kept, no_log, no_blob}
use Rattle.streams.proofs.entries.cut.Goals as goal
use Rattle.streams.proofs.entries.cut.Goals.{then-to_blob, else-to_blob}

pub returns-in_default-clause-streams : goal.returns-in_default-clause-streams
returns-in_default-clause-streams c = no_log _ c.args.range c.args.before c.args.to_blob _ c.in_default.ensures.absent

pub returns-in_default-search-clause-streams : goal.returns-in_default-search-clause-streams
returns-in_default-search-clause-streams c = no_blob _ c.args.range c.args.before c.args.to_blob _ c.in_default-search.ensures.absent

pub keep-requires-clause-order : goal.keep-requires-clause-order
keep-requires-clause-order c = in_order _ c.requires.sorted c.args.range c.args.before _ _ c.in-Ok.ensures.found c.in-Ok-search.ensures.found

pub keep-requires-clause-room : goal.keep-requires-clause-room
keep-requires-clause-room c =
    room_there _ c.requires.sorted c.args.range c.args.before _ _ c.in-Ok.ensures.found c.in-Ok-search.ensures.found (c.requires.room c.if-to_blob.true)

pub returns : goal.returns
returns c =
    let name = c.cut.ensures.name ∙ ap (λ (z : Entry). z.name) c.index_mut.ensures.value in
    let stream = c.cut.ensures.stream ∙ ap (λ (z : Entry). shorter c.args.before z.stream) c.index_mut.ensures.value in
    let is : IsCut c.args.entries.now.items (set c.if-to_blob.entries.items c.in-Ok.log c.cut.new.self) c.args.range c.args.before c.args.to_blob = elim c.if-to_blob.branch [
      | then-to_blob w ↦
          rw w.if-to_blob.true
          (cut_kept _ c.requires.sorted c.args.range c.args.before _ _ c.in-Ok.ensures.found c.in-Ok-search.ensures.found _ (rw w.entries-is w.keep.ensures) c.index_mut.result.now c.cut.new.self name stream)
      | else-to_blob w ↦
          rw w.if-to_blob.false
          (cut_plain _ c.requires.sorted c.args.range c.args.before _ _ c.in-Ok.ensures.found c.in-Ok-search.ensures.found _ (rw w.entries-is) c.index_mut.result.now c.cut.new.self name stream)
    ] in
    record { sorted = is.sorted; streams = is.streams }
