use Rattle.std.proofs.Common.{ap, ◌∙◌}
use Rattle.std.specs.Map.{lookup}
use Rattle.memtable.specs.declared.cell.Place.{Place}
use Rattle.model_partition.specs.Getting.{held_at}
use Rattle.model_partition.specs.PlaceReads.{is_place}
use Rattle.range_reads.specs.ValueCache.{Values}
use Rattle.range_reads.proofs.Values.{held_lookup}
use Rattle.range_reads.proofs.value_cache.ValueCache.value.Goals as goal

pub returns : goal.returns
returns c =
    c.peek.ensures ∙ ap (λ (p : Place). lookup (is_place p) c.self.inside.cache.entries) c.key_of.ensures ∙ held_lookup c.self.inside.cache.entries c.args.place.now
    ∙ ap (λ (es : Values). held_at es c.args.place.now) c.self.view_is
