use Rattle.std.proofs.Common.{ℕ, List, sym, ap, ◌∙◌}
use Rattle.wire.specs.declared.note.Note.TheVariants as notes
use Rattle.replica.specs.Content.{Content}
use Rattle.replica.specs.Reading.{bytes_at}
use Rattle.replica.proofs.Shown.{groups_text}
use Rattle.enode_rules.proofs.reading.text_note.Goals as goal

pub returns-clause-note : goal.returns-clause-note
returns-clause-note c =
    ap (λ (bytes : List ℕ). notes.Seen c.args.extent c.args.node 0 bytes)
    (c.in_ok-bytes.ensures ∙ ap (λ (x : Content). bytes_at 0 c.args.upto x.groups) c.replica.ensures
    ∙ sym (groups_text c.args.upto c.args.hosted.now.content.groups c.args.groups.now c.requires))
