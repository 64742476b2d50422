use Rattle.std.proofs.Common.{◌∙◌, ap}
use Rattle.streams.specs.Streams.{Streams, trimmed}
use Rattle.streams.proofs.table.StreamTable.trim.Goals as goal

pub returns-in_default-clause-cut : goal.returns-in_default-clause-cut
returns-in_default-clause-cut c = λ here.
    c.cut.ensures ∙ ap (λ (s : Streams). trimmed s c.args.range c.args.before c.args.to_blob) c.in_default.ensures.same
