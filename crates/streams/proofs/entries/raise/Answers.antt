use Rattle.std.proofs.Common.{◌∙◌, ap}
use Rattle.wire.specs.declared.streams.StreamKind.TheVariants.{Log, RowData, BlobData}
use Rattle.streams.specs.Streams.{Streams}
use Rattle.streams.specs.Table.{fenced}
use Rattle.streams.proofs.Tables.{name_in, raised}
use Rattle.streams.proofs.entries.raise.Goals as goal

pub returns-clause-streams : goal.returns-clause-streams
returns-clause-streams c =
    let range = c.args.range in
    let g = c.args.generation in
    c.set_fence-4.ensures.streams
    ∙ ap (λ (s : Streams). fenced s (name_in range BlobData) g) (c.set_fence-3.ensures.streams
    ∙ ap (λ (s : Streams). fenced s (name_in range RowData) g) (c.set_fence-2.ensures.streams
    ∙ ap (λ (s : Streams). fenced s (name_in range Log) g) c.set_fence.ensures.streams))
    ∙ raised c.args.entries.now.items range g
