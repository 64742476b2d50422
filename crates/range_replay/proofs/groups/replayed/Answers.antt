use Rattle.std.proofs.Common.{◌≡◌, ◌∙◌, ℕ, List, Err, None, ap, subst}
use Rattle.block_types.specs.declared.fault.BlockFault.TheVariants as faults
use Rattle.memtable.specs.declared.cell.Cell.{Cell}
use Rattle.memtable.specs.Entries.{Entries, put_all}
use Rattle.metadata.specs.declared.record.Region.{Region}
use Rattle.model_partition.specs.Loading.{replayed}
use Rattle.range_replay.proofs.groups.replayed.Goals as goal

pub returns-in-Err-clause-damaged : goal.returns-in-Err-clause-damaged
returns-in-Err-clause-damaged c = λ is layer.
    let fault : c.in-Err.fault ≡ faults.Damaged = cc in
    let begun : (c.in_ok-old.old.items, put_all layer c.new-changes.result.items) ≡ (c.args.regions.now, layer) =
    ap (λ (l : List Region). (l, put_all layer c.new-changes.result.items)) c.in_ok-old.ensures ∙ ap (λ (l : List (List ℕ × Cell)). (c.args.regions.now, put_all layer l)) c.new-changes.ensures.items in
    subst (λ (x : List Region × Entries). replayed c.args.keys.now c.args.extent (record { index = c.args.index; offset = 0 }) x c.args.groups.now ≡ None) begun (c.in-Err.ensures.damaged (ap Err fault) layer)
