use Rattle.std.proofs.Common.{◌∙◌, Bool, Some, None, ap, sym}
use Rattle.std.specs.Prelude.{if◌then◌else◌}
use Rattle.range_replay.proofs.Taking.{last_is}
use Rattle.range_replay.proofs.regions.open_region.Goals as goal

pub returns-then-is_some : goal.returns-then-is_some
returns-then-is_some c =
    ap (λ (b : Bool). if b then None else Some c.last-item.result) c.if-is_some.ensures ∙ last_is c.args.regions.now c.last-item.result c.last-item.is c.in-len1-up.len_at_least

pub returns-else-is_some : goal.returns-else-is_some
returns-else-is_some c =
    ap (λ (b : Bool). if b then None else Some c.last-item.result) (sym c.if-is_some.false ∙ c.is_some.ensures) ∙ last_is c.args.regions.now c.last-item.result c.last-item.is c.in-len1-up.len_at_least
