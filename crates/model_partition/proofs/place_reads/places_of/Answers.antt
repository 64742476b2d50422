use Rattle.std.proofs.Common.{◌++◌, sym, ◌∙◌}
use Rattle.model_partition.proofs.Extents.{found_first, found_later}
use Rattle.model_partition.proofs.place_reads.places_of.Goals as goal

pub returns-in-Some : goal.returns-in-Some
returns-in-Some c = found_first c.args.log.now (c.args.blob.now ++ c.args.rows.now) c.args.extent c.in-Some.places c.in-Some.ensures

pub returns-in-Some-places_in : goal.returns-in-Some-places_in
returns-in-Some-places_in c =
    let a = c.args in
    found_first a.blob.now a.rows.now c.args.extent c.in-Some-places_in.places c.in-Some-places_in.ensures ∙ sym (found_later a.log.now (a.blob.now ++ a.rows.now) c.args.extent c.in-None.ensures)

pub returns-in-None-places_in : goal.returns-in-None-places_in
returns-in-None-places_in c =
    let a = c.args in
    c.places_in-in-None-places_in.ensures ∙ sym (found_later a.blob.now a.rows.now c.args.extent c.in-None-places_in.ensures) ∙ sym (found_later a.log.now (a.blob.now ++ a.rows.now) c.args.extent c.in-None.ensures)
