use Rattle.std.proofs.Common.{◌∙◌, ap}
use Rattle.wire.specs.declared.streams.StreamKind.TheVariants.{Metadata, Log, RowData, BlobData}
use Rattle.streams.specs.Streams.{Streams, created}
use Rattle.manager_state.proofs.Tables.{name_in, first_four}
use Rattle.manager_state.proofs.lengthening.first_streams.Goals as goal

pub returns : goal.returns
returns c =
    c.in_ok-add_first-4.ensures
    ∙ ap (λ (s : Streams). created s (name_in 1 BlobData) 0) (c.in_ok-add_first-3.ensures
    ∙ ap (λ (s : Streams). created s (name_in 1 RowData) 0) (c.in_ok-add_first-2.ensures
    ∙ ap (λ (s : Streams). created s (name_in 1 Log) 0) (c.in_ok-add_first.ensures
    ∙ ap (λ (s : Streams). created s (name_in 1 Metadata) 0) c.new-streams.ensures)))
    ∙ first_four
