use Rattle.std.proofs.Common.{List, ◌+◌, ◌++◌, ◌∷◌, [], subst}
use Rattle.wire.specs.declared.note.Note.{Note}
use Rattle.world_servers.specs.Seen.{Index, IsIndex}
use Rattle.world_servers.proofs.SeenIndex.{added}
use Rattle.world_servers.proofs.seen.SeenByExtent.add.Goals as goal

pub returns-clause-ok : goal.returns-clause-ok
returns-clause-ok c =
    subst (λ (x : Index). (notes : List Note) → IsIndex notes x → IsIndex (notes ++ c.args.note.now ∷ []) (record { count = c.self.inside.count + 1; places = c.put_some.new.places.entries })) c.self.view_is
    (added c.args.note.now c.extent_of.result (record { count = c.self.inside.count; places = c.self.inside.places.entries }) c.put_some.new.places.entries c.extent_of.ensures c.in_ok-put_some.ensures.ok)
