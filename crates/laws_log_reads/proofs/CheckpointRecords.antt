-- What spells a record of metadata, of a kind whose items leave one region of the log, is read as such a one, whatever its numbers are: so is
-- that of a checkpoint.
use Rattle.std.proofs.Common.{◌≡◌, ℕ, ◌<◌, List, ◌++◌, length, drop, Some, None, nat_le, ltb, ◌==◌, sym, ap, ◌∙◌, subst, arith, if◌then◌else◌}
use Rattle.std.proofs.lemmas.List.{drop_at}
use Rattle.blocks.specs.Format.{◌>>=◌, number_at, pair_at, whole}
use Rattle.blocks.specs.Record.{number}
use Rattle.blocks.proofs.Formats.{bind_some, if_some, unless_some, some_is, number1, length-number}
use Rattle.memtable.specs.declared.cell.Place.{Place}
use Rattle.metadata.specs.declared.record.MetaItem.{MetaItem}
use Rattle.metadata.specs.declared.record.MetaItem.TheVariants.{Checkpoint}
use Rattle.metadata.specs.declared.record.MetaRecord.{MetaRecord}
use Rattle.metadata.specs.Record.{flag, place, position}
use Rattle.metadata.specs.Reading.{flag_at, place_at, position_at, next_at, checkpoint_at, item_at, record_at}
use Rattle.model_partition.specs.CheckpointStates.{CheckpointState}
use Rattle.model_partition.specs.Range.{RangeState}
use Rattle.model_histories.specs.StreamActions.{record_group}
use Rattle.laws_log_reads.specs.Reads.{LeavesOneRegion, SaysOneRegion}

-- what stands behind a number
pub behind_number : (x : ℕ) (rest : List ℕ) (read : ℕ × List ℕ) → number_at 8 (number 8 x ++ rest) ≡ Some read → read.1 ≡ rest
behind_number x rest read e =
    let g = unless_some (ltb (length (number 8 x ++ rest)) 8) _ read e in
    let rest_is : drop 8 (number 8 x ++ rest) ≡ read.1 = ap (λ (p : ℕ × List ℕ). p.1) g.1 in
    sym rest_is ∙ drop_at (number 8 x) rest 8 (length-number 8 x)

-- a number, a kind whose items leave one region, and fields
module _ (n kind : ℕ) (less : kind < 256) (fields : List ℕ) (are : (item : MetaItem) → item_at kind fields ≡ Some item → LeavesOneRegion item) where
  abbrev bytes : List ℕ
  bytes = number 8 n ++ (number 1 kind ++ fields)

  -- what spells them is read as such an item
  pub record_read : (r : MetaRecord) → record_at bytes ≡ Some r → LeavesOneRegion r.item
  unfolding record_at next_at
  record_read r e =
      let head = bind_some (next_at bytes) (λ z. number_at 1 z.1 >>= λ k. item_at k.0 k.1 >>= λ item. Some (record { number = z.0; item = item })) r e in
      let whole_head = bind_some (number_at 8 bytes) (λ z. if nat_le 1 z.0 then Some z else None) head.0 head.1 in
      let same = if_some (nat_le 1 whole_head.0.0) whole_head.0 head.0 whole_head.2 in
      let rest : head.0.1 ≡ number 1 kind ++ fields = ap (λ (p : ℕ × List ℕ). p.1) (sym same.1) ∙ behind_number n (number 1 kind ++ fields) whole_head.0 whole_head.1 in
      let k = bind_some (number_at 1 head.0.1) (λ z. item_at z.0 z.1 >>= λ item. Some (record { number = head.0.0; item = item })) r head.2 in
      let kind_is : k.0 ≡ (kind, fields) = some_is k.0 (kind, fields) (sym k.1 ∙ ap (λ bs. number_at 1 bs) rest ∙ number1.again kind fields (omega (arith, less))) in
      let item = bind_some (item_at k.0.0 k.0.1) (λ z. Some (record { number = head.0.0; item = z })) r k.2 in
      let read : item_at kind fields ≡ Some item.0 = subst (λ (p : ℕ × List ℕ). item_at p.0 p.1 ≡ Some item.0) kind_is item.1 in
      let made : MetaRecord = record { number = head.0.0; item = item.0 } in
      subst (λ (z : MetaRecord). LeavesOneRegion z.item) (some_is made r item.2) (are item.0 read)

-- the fields of a checkpoint
item_read : (fields : List ℕ) (item : MetaItem) → item_at 2 fields ≡ Some item → LeavesOneRegion item
unfolding item_at checkpoint_at
item_read fields item e =
    let x = bind_some (pair_at flag_at (pair_at place_at (pair_at position_at next_at)) fields) (λ x. whole (Some (Checkpoint x.0.0 x.0.1.0 x.0.1.1.0 x.0.1.1.1, x.1))) item e in
    let same = if_some (length x.0.1 == 0) (Checkpoint x.0.0.0 x.0.0.1.0 x.0.0.1.1.0 x.0.0.1.1.1) item x.2 in
    subst (λ y. LeavesOneRegion y) same.1 tt

-- the group of a checkpoint's record says a checkpoint
pub group_says : (r : RangeState) (job : CheckpointState) (index : Place) → SaysOneRegion (record_group r job index)
group_says r job index z e =
    let fields : List ℕ = flag job.combine ++ (place index ++ (position job.position ++ number 8 job.next)) in
    record_read r.said.next 2 (omega arith) fields (λ item is. item_read fields item is) z e
