use Rattle.std.proofs.Common.{◌∙◌, ap}
use Rattle.streams.specs.Streams.{Streams, extended}
use Rattle.streams.proofs.table.StreamTable.extend.Goals as goal

pub returns-in_default-clause-added : goal.returns-in_default-clause-added
returns-in_default-clause-added c = λ here. c.push_extent.ensures ∙ ap (λ (s : Streams). extended s c.args.name.now c.args.extent) c.in_default.ensures.same
