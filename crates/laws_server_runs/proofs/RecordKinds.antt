-- The kind that stands in the bytes of a record tells what its group can be read as, whatever its fields are: that of a checkpoint or of
-- a split never names keys, and that of a split or of keys never names an index.
use Rattle.std.proofs.Common.{◌≡◌, ℕ, Bool, ◌<◌, ◌==◌, nat_le, nat_lt, List, [], ◌∷◌, ◌++◌, length, drop, Option, Some, None, refl, sym, ap, ◌∙◌, subst, arith, if◌then◌else◌}
use Rattle.std.proofs.Math.Seq.{drop-append_seam}
use Rattle.blocks.specs.Format.{◌>>=◌, number_at, pair_at, whole}
use Rattle.blocks.specs.Record.{number}
use Rattle.blocks.proofs.Formats.{bind_some, if_some, unless_some, some_is, length-number, number-one, one_again}
use Rattle.commitlog.specs.Replay.{Numbered}
use Rattle.memtable.specs.declared.cell.Place.{Place}
use Rattle.metadata.specs.declared.record.KeyRange.{KeyRange}
use Rattle.metadata.specs.declared.record.MetaItem.{MetaItem}
use Rattle.metadata.specs.declared.record.MetaItem.TheVariants.{Ranges, Checkpoint, SplitStatus}
use Rattle.metadata.specs.declared.record.MetaRecord.{MetaRecord}
use Rattle.metadata.specs.Reading.{text_at, place_at, position_at, flag_at, keys_at, next_at, ranges_at, checkpoint_at, status_at, item_at, record_at}
use Rattle.model_histories.specs.Renaming.{one_record, decoded_record}
use Rattle.model_histories.specs.StreamActions.{split_group, record_group}
use Rattle.model_partition.specs.CheckpointStates.{CheckpointState}
use Rattle.model_partition.specs.Range.{RangeState}
use Rattle.model_partition.specs.declared.split_job.Side.{Side}
use Rattle.model_partition.specs.declared.split_job.SplitJob.{SplitJob}
use Rattle.streams.specs.declared.table.Position.{Position}
use Rattle.laws_tables.specs.Runs as chains
use Rattle.laws_server_runs.specs.ChildInvariant.{keys_group}
use Rattle.laws_server_runs.specs.RangeInvariant.{IsCheckpointRecord, IsKeysRecord}

-- ---- fields

-- those of a checkpoint are read as one
checkpoint_alone : (fields : List ℕ) (keys : KeyRange) → checkpoint_at fields ≡ Some (Ranges keys) → ⊥
unfolding checkpoint_at
checkpoint_alone fields keys e =
    let b = bind_some (pair_at flag_at (pair_at place_at (pair_at position_at next_at)) fields) (λ x. whole (Some (Checkpoint x.0.0 x.0.1.0 x.0.1.1.0 x.0.1.1.1, x.1))) (Ranges keys) e in
    let w = if_some (length b.0.1 == 0) (Checkpoint b.0.0.0 b.0.0.1.0 b.0.0.1.1.0 b.0.0.1.1.1) (Ranges keys) b.2 in
    absurd (let z : Checkpoint b.0.0.0 b.0.0.1.0 b.0.0.1.1.0 b.0.0.1.1.1 ≡ Ranges keys = w.1 in cc)

-- those of a split are read as one
status_alone : (fields : List ℕ) (item : MetaItem) → status_at fields ≡ Some item → (low : ℕ) × (high : ℕ) × (key : List ℕ) × (SplitStatus low high key ≡ item)
unfolding status_at
status_alone fields item e =
    let b = bind_some (pair_at (number_at 8) (pair_at (number_at 8) (text_at 1)) fields) (λ x. whole (Some (SplitStatus x.0.0 x.0.1.0 x.0.1.1, x.1))) item e in
    (b.0.0.0, b.0.0.1.0, b.0.0.1.1, (if_some (length b.0.1 == 0) (SplitStatus b.0.0.0 b.0.0.1.0 b.0.0.1.1) item b.2).1)

status_no_keys : (fields : List ℕ) (keys : KeyRange) → status_at fields ≡ Some (Ranges keys) → ⊥
status_no_keys fields keys e =
    let s = status_alone fields (Ranges keys) e in
    absurd (let z : SplitStatus s.0 s.1 s.2 ≡ Ranges keys = s.3 in cc)

status_no_index : (fields : List ℕ) (combine : Bool) (index : Place) (position : Position) (next : ℕ) → status_at fields ≡ Some (Checkpoint combine index position next) → ⊥
status_no_index fields combine index position next e =
    let s = status_alone fields (Checkpoint combine index position next) e in
    absurd (let z : SplitStatus s.0 s.1 s.2 ≡ Checkpoint combine index position next = s.3 in cc)

-- and those of keys
ranges_no_index : (fields : List ℕ) (combine : Bool) (index : Place) (position : Position) (next : ℕ) → ranges_at fields ≡ Some (Checkpoint combine index position next) → ⊥
unfolding ranges_at
ranges_no_index fields combine index position next e =
    let b = bind_some (keys_at fields) (λ k. whole (Some (Ranges k.0, k.1))) (Checkpoint combine index position next) e in
    let w = if_some (length b.0.1 == 0) (Ranges b.0.0) (Checkpoint combine index position next) b.2 in
    absurd (let z : Ranges b.0.0 ≡ Checkpoint combine index position next = w.1 in cc)

-- ---- records

-- what stands behind eight bytes
behind_number : (n : ℕ) (rest : List ℕ) → drop 8 (number 8 n ++ rest) ≡ rest
behind_number n rest = ap (λ m. drop m (number 8 n ++ rest)) (sym (length-number 8 n)) ∙ drop-append_seam (number 8 n) rest

-- the item that is read is one of the kind that stands there
item_of_kind : (n kind : ℕ) (fields : List ℕ) (r : MetaRecord) → kind < 256 → record_at (number 8 n ++ (number 1 kind ++ fields)) ≡ Some r → item_at kind fields ≡ Some r.item
unfolding record_at next_at
item_of_kind n kind fields r small e =
    let bytes : List ℕ = number 8 n ++ (number 1 kind ++ fields) in
    let first = bind_some (next_at bytes) (λ n. number_at 1 n.1 >>= λ kind. item_at kind.0 kind.1 >>= λ item. Some (record { number = n.0; item = item })) r e in
    let second = bind_some (number_at 1 first.0.1) (λ kind. item_at kind.0 kind.1 >>= λ item. Some (record { number = first.0.0; item = item })) r first.2 in
    let third = bind_some (item_at second.0.0 second.0.1) (λ item. Some (record { number = first.0.0; item = item })) r second.2 in
    let read = bind_some (number_at 8 bytes) (λ a. if nat_le 1 a.0 then Some a else None) first.0 first.1 in
    let same : read.0 ≡ first.0 = (if_some (nat_le 1 read.0.0) read.0 first.0 read.2).1 in
    let left : read.0.1 ≡ drop 8 bytes = sym (ap (λ (x : ℕ × List ℕ). x.1) (unless_some (nat_lt (length bytes) 8) _ read.0 read.1).1) in
    let rest : first.0.1 ≡ kind ∷ fields = sym (ap (λ (x : ℕ × List ℕ). x.1) same) ∙ left ∙ behind_number n (number 1 kind ++ fields) ∙ ap (λ l. l ++ fields) (number-one kind small) in
    let is : (kind, fields) ≡ second.0 = some_is (kind, fields) second.0 (sym (one_again kind fields small) ∙ ap (number_at 1) (sym rest) ∙ second.1) in
    let item_is : third.0 ≡ r.item = ap (λ (x : MetaRecord). x.item) (some_is (record { number = first.0.0; item = third.0 }) r third.2) in
    subst (λ (x : ℕ × List ℕ). item_at x.0 x.1 ≡ Some r.item) (sym is) (third.1 ∙ ap (λ i. Some i) item_is)

-- a group of such a kind is read as one of its items
unlike : (n kind : ℕ) (fields : List ℕ) → kind < 256 → (first : ℕ) (item : MetaItem) → (item_at kind fields ≡ Some item → ⊥) → decoded_record ((number 8 n ++ (number 1 kind ++ fields)) ∷ []) ≡ chains.record_group first item → ⊥
unlike n kind fields small first item other is = by (record_at (number 8 n ++ (number 1 kind ++ fields))) refl is
  where
    by : (read : Option MetaRecord) → record_at (number 8 n ++ (number 1 kind ++ fields)) ≡ read → one_record read ≡ chains.record_group first item → ⊥
    by None e is = let z : [] ≡ item ∷ [] = ap (λ (x : Numbered MetaItem). x.items) is in absurd cc
    by (Some r) e is =
        let items : r.item ∷ [] ≡ item ∷ [] = ap (λ (x : Numbered MetaItem). x.items) is in
        let same : r.item ≡ item = cc in
        other (item_of_kind n kind fields r small e ∙ ap (λ i. Some i) same)

-- that of a checkpoint names no keys,
pub checkpoint_unlike : (r : RangeState) (job : CheckpointState) (index : Place) → IsKeysRecord (record_group r job index) → ⊥
unfolding item_at
checkpoint_unlike r job index k = unlike r.said.next 2 _ (omega arith) k.number (Ranges k.keys) (λ e. checkpoint_alone _ k.keys e) k.spells

-- nor does that of a split,
pub split_unlike : (job : SplitJob) → IsKeysRecord (split_group job) → ⊥
unfolding item_at
split_unlike job k = unlike job.number 4 _ (omega arith) k.number (Ranges k.keys) (λ e. status_no_keys _ k.keys e) k.spells

-- which names no index,
pub split_no_index : (Holds : Place → Type 0) (job : SplitJob) → IsCheckpointRecord Holds (split_group job) → ⊥
unfolding item_at
split_no_index Holds job c = unlike job.number 4 _ (omega arith) c.number (Checkpoint c.combine c.index c.position c.next) (λ e. status_no_index _ c.combine c.index c.position c.next e) c.spells

-- and that of keys names none
pub keys_no_index : (Holds : Place → Type 0) (r : RangeState) (job : SplitJob) (side : Side) → IsCheckpointRecord Holds (keys_group r job side) → ⊥
unfolding item_at
keys_no_index Holds r job side c = unlike r.said.next 1 _ (omega arith) c.number (Checkpoint c.combine c.index c.position c.next) (λ e. ranges_no_index _ c.combine c.index c.position c.next e) c.spells
