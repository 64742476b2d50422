use Rattle.std.proofs.Common.{◌≡◌, ◌+◌, ◌++◌, ◌∷◌, [], List, get_or, take, subst, sym, ap, ◌∙◌}
use Rattle.std.proofs.lemmas.List.{take_more}
use Rattle.wire.specs.declared.transaction.Change.{Change}
use Rattle.commitlog.specs.Sizes.{HasRoom}
use Rattle.commitlog.proofs.Measures.{room_front}
use Rattle.commitlog.proofs.writing.text_of.Goals as goal

pub add_fitting-requires-clause-room : goal.add_fitting-requires-clause-room
add_fitting-requires-clause-room c =
    let all = c.args.all.now in
    let index = c.loop-changes.changes-index in
    let front : take (c.loop-changes.changes-index + 1) c.args.all.now ≡ c.loop-changes.text ++ c.as_slice.result.now ∷ [] =
    take_more all index c.changes-item.result c.loop-changes-test.true
    ∙ ap (λ (l : List (List Change)). l ++ get_or c.args.all.now c.loop-changes.changes-index c.changes-item.result ∷ []) (sym c.loop-changes.invariant.text)
    ∙ ap (λ (t : List Change). c.loop-changes.text ++ t ∷ []) (sym c.changes-item.is ∙ sym c.as_slice.ensures) in
    subst HasRoom front (room_front (index + 1) all c.requires.room)
