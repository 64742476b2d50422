use Rattle.std.proofs.Common.{List, [], ◌∷◌, ◌++◌, ap, ◌∙◌}
use Rattle.std.proofs.lemmas.List.{map-append, take_more}
use Rattle.std.proofs.lemmas.Option.{get_or_from_slice_get, slice_get_within}
use Rattle.wire.specs.declared.note.Note.{Note}
use Rattle.wire.specs.declared.packet.Packet.{Packet}
use Rattle.model_streams.specs.Node.{acked, answers}
use Rattle.enode_rules.proofs.primary.add_answers.Goals as goal

pub loop-index-preserved : goal.loop-index-preserved
loop-index-preserved c =
    let here = get_or_from_slice_get c.args.waiting.now c.loop-index.index c.get.result.now c.get.result.now c.get.ensures in
    let one = take_more c.args.waiting.now c.loop-index.index c.get.result.now (slice_get_within _ _ _ c.get.ensures) in
    record {
      packets = rw (one, here, map-append) (c.in_ok-answer.ensures.packets ∙ ap (λ (ps : List Packet). ps ++ answers c.args.node c.args.extent (c.get.result.now ∷ [])) c.loop-index.invariant.packets);
      notes = rw (one, here, map-append) (c.in_ok-answer.ensures.notes ∙ ap (λ (ns : List Note). ns ++ acked c.args.extent (c.get.result.now ∷ [])) c.loop-index.invariant.notes);
    }
