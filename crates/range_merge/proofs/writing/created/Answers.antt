use Rattle.std.proofs.Common.{◌≡◌, ℕ, ◌∙◌, ◌+◌, ◌++◌, ◌∷◌, [], true, List, ap}
use Rattle.std.specs.Prelude.{option_to_list, if◌then◌else◌}
use Rattle.metadata.specs.Record.{spelling}
use Rattle.wire.specs.declared.packet.Packet.{Packet}
use Rattle.model_partition.specs.declared.merge_job.MergeRecord.TheVariants.{Keys}
use Rattle.model_partition.specs.Merges.{appends_record, may_write, new_metadata, record_of, stays}
use Rattle.range_merge.proofs.RecordAppends.{if_some, sent_some}
use Rattle.range_merge.proofs.writing.created.Goals as goal

pub returns-clause-ok : goal.returns-clause-ok
returns-clause-ok c =
    let d = c.args.context.now in
    let l = c.args.left.now in
    let r = c.args.right.now in
    let job = c.args.job.now in
    let some = if_some (λ (blocks : List (List ℕ)). (may_write l r Keys ≡ true) × (blocks ≡ spelling (record_of l r Keys) ∷ [])) c.in_ok-blocks.field-0 c.in-Some.blocks c.in-Some.is c.in_ok-blocks.ensures.some in
    (λ i. if some.0 i then appends_record d l r job Keys (new_metadata d job) else stays d l r job)
    ∙ c.writes.ensures l r (new_metadata d job) c.in_ok-metadata.ensures some.1
    ∙ sent_some l r c.writes.new.job (d.count + 1) c.writes.result c.sends.result c.push_some.new.packets.items c.sends.ensures
    (c.push_some.ensures.items ∙ ap (λ (ps : List Packet). ps ++ option_to_list c.writes.result) c.in_ok-packets.ensures.items)
