use Rattle.std.proofs.Common.{refl}
use Rattle.world_checker.proofs.compare.is_compatible.Goals as goal
use Rattle.wire.specs.declared.note.Note.TheVariants.{Content, Seen}
use Rattle.world_checker.proofs.Comparing.{told}

pub returns-in-Content : goal.returns-in-Content
returns-in-Content c =
    told (λ e. Content e c.in-Content.node c.in-Content.groups) (λ e. refl) c.args.first.now c.args.second.now c.in-Content.extent c.meets_content.result c.in-Content.is
    (λ extent other. c.meets_content.ensures extent c.in-Content.node other)

pub returns-in-Seen : goal.returns-in-Seen
returns-in-Seen c =
    told (λ e. Seen e c.in-Seen.node c.in-Seen.offset c.in-Seen.bytes) (λ e. refl) c.args.first.now c.args.second.now c.in-Seen.extent c.meets_seen.result c.in-Seen.is
    (λ extent other. c.meets_seen.ensures extent c.in-Seen.node other)
