use Rattle.std.proofs.Common.{ap, ◌∙◌, List, ℕ, sym}
use Rattle.world_servers.specs.Seen.{first_at}
use Rattle.world_servers.proofs.SeenIndex.{found}
use Rattle.world_servers.proofs.place.first_shown.Goals as goal

pub loop-at-init : goal.loop-at-init
loop-at-init c =
    found c.args.notes.now c.args.seen.now c.args.place.now c.requires
    ∙ ap (λ (places : List ℕ). first_at c.args.notes.now places c.args.place.now) (sym c.places-at-items.ensures)
