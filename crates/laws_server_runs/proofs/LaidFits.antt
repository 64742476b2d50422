-- What a range's memory table has can be written in pages, but for the numbers of the extents where its values stand: its keys and its cells
-- have the lengths that they may have, and its places lie where an extent reaches.
use Rattle.std.proofs.Common.{◌≡◌, ℕ, zero, suc, ◌+◌, ◌-◌, ◌<◌, ◌^◌, ◌≤◌, List, [], ◌∷◌, ◌++◌, length, drop, Option, Some, None, Bool, true, false, refl, ap, ◌∙◌, subst, cond, nat_lt, arith}
use Rattle.std.specs.Prelude.{◌&&◌, filter}
use Rattle.std.specs.List.{flat_map, AllByRecursion}
use Rattle.std.proofs.lemmas.Bool.{ltb-true, ltb-false}
use Rattle.blocks.specs.Format.{◌>>=◌}
use Rattle.block_types.specs.Limits.{group_size}
use Rattle.wire.specs.declared.transaction.Change.{Change}
use Rattle.streams.specs.declared.table.Position.{Position}
use Rattle.memtable.specs.declared.cell.Cell.{Cell}
use Rattle.memtable.specs.declared.cell.Cell.TheVariants.{Inline, Placed}
use Rattle.memtable.specs.Cell.{IsCell}
use Rattle.memtable.specs.Limits.{is_large}
use Rattle.memtable.specs.Entries.{Entries, put_all}
use Rattle.memtable.proofs.Entries.{IsOfParts, all_put}
use Rattle.metadata.specs.declared.record.KeyRange.{KeyRange}
use Rattle.metadata.specs.declared.record.Region.{Region}
use Rattle.metadata.specs.Keys.{within}
use Rattle.replica.specs.Groups.{joined}
use Rattle.commitlog.specs.declared.log_record.LogRecord.{LogRecord}
use Rattle.commitlog.specs.Record.{change_values, transaction_values, HasValue, IsTransaction}
use Rattle.commitlog.specs.Record as record_specs
use Rattle.commitlog.specs.Reading.{record_at, each_of}
use Rattle.commitlog.specs.Places.{kept, kept_cell, kept_changes, kept_transactions}
use Rattle.model_partition.specs.Loading.{Group, replayed, region_takes, holds}
use Rattle.model_partition.specs.Past.{Bytes}
use Rattle.laws_loads.proofs.Cells.{length_both, first_blocks, size_is}
use Rattle.laws_loads.proofs.Rows.{ordered_put}
use Rattle.laws_server_runs.specs.Places.{CellLow, IsLow, AreLow}
use Rattle.laws_server_runs.proofs.RecordChanges.{AreChanges, record_changes}
use Rattle.laws_server_runs.proofs.RecordSizes.{record_size}

abbrev AllLow : List (List (Bytes × Cell)) → Type 0
AllLow [] = Unit {0}
AllLow (t ∷ ts) = AllByRecursion IsLow t × AllLow ts

-- ---- lists of changes

both_low : (xs ys : List (Bytes × Cell)) → AllByRecursion IsLow xs → AllByRecursion IsLow ys → AllByRecursion IsLow (xs ++ ys)
both_low [] ys a b = b
both_low (x ∷ xs) ys a b = (a.0, both_low xs ys a.1 b)

flat_low : (ts : List (List (Bytes × Cell))) → AllLow ts → AllByRecursion IsLow (flat_map (λ changes. changes) ts)
flat_low [] a = tt
flat_low (t ∷ ts) a = both_low t (flat_map (λ changes. changes) ts) a.0 (flat_low ts a.1)

drop_low : (n : ℕ) (ts : List (List (Bytes × Cell))) → AllLow ts → AllLow (drop n ts)
drop_low zero ts a = a
drop_low (suc n) [] a = tt
drop_low (suc n) (t ∷ ts) a = drop_low n ts a.1

filter_low : (test : (Bytes × Cell) → Bool) (xs : List (Bytes × Cell)) → AllByRecursion IsLow xs → AllByRecursion IsLow (filter test xs)
filter_low test [] a = tt
filter_low test (x ∷ xs) a = go (filter_low test xs a.1) (test x)
  where
    go : AllByRecursion IsLow (filter test xs) → (b : Bool) → AllByRecursion IsLow (cond b (x ∷ filter test xs) (filter test xs))
    go rest true = (a.0, rest)
    go rest false = rest

low_parts : IsOfParts IsLow
low_parts a b of_a of_b = ((of_a.0.0, of_b.0.1), of_b.1)

put_low : (es changes : Entries) → AreLow es → AllByRecursion IsLow changes → AreLow (put_all es changes)
put_low es changes a b = (ordered_put es changes a.0, all_put IsLow low_parts es changes a.1 b)

-- ---- what rows keep of a group that ends below what an extent can have

module _ (extent : ℕ) where
  value_low : (b : Bool) (offset : ℕ) (value : Bytes) → is_large value ≡ b → HasValue (Some value) → offset + length (joined (cond b (value ∷ []) [])) < 2 ^ 32 →
      IsCell (cond b (Placed (record { extent = extent; offset = offset; length = length value })) (Inline value))
      × CellLow (cond b (Placed (record { extent = extent; offset = offset; length = length value })) (Inline value))
  value_low true offset value is short low =
      let large : 4096 < length value = ltb-true 4096 (length value) is in
      ((omega (arith, large), short), omega (arith, low))
  value_low false offset value is short low =
      let small : length value ≤ 4096 = ltb-false 4096 (length value) is in
      (small, tt)

  cell_low : (offset : ℕ) (value : Option Bytes) → HasValue value → offset + length (joined (record_specs.large value)) < 2 ^ 32 → IsCell (kept_cell extent offset value) × CellLow (kept_cell extent offset value)
  cell_low offset None short low = (tt, tt)
  cell_low offset (Some value) short low = value_low (is_large value) offset value refl short low

  changes_low : (offset : ℕ) (t : List Change) → AreChanges t → offset + length (joined (transaction_values t)) < 2 ^ 32 → AllByRecursion IsLow (kept_changes extent offset t)
  changes_low offset [] are low = tt
  changes_low offset (c ∷ t) are low =
      let parts : length (joined (transaction_values (c ∷ t))) ≡ length (joined (change_values c)) + length (joined (transaction_values t)) =
      ap length (first_blocks change_values c t) ∙ length_both (joined (change_values c)) (joined (transaction_values t)) in
      let one = cell_low offset c.value are.0.1 (omega (arith, parts, low)) in
      (((are.0.0, one.0), one.1), changes_low (offset + group_size (change_values c)) t are.1 (omega (arith, parts, low, size_is (change_values c))))

  transactions_low : (offset : ℕ) (ts : List (List Change)) → AllByRecursion AreChanges ts → offset + length (joined (flat_map transaction_values ts)) < 2 ^ 32 → AllLow (kept_transactions extent offset ts)
  transactions_low offset [] are low = tt
  transactions_low offset (t ∷ ts) are low =
      let parts : length (joined (flat_map transaction_values (t ∷ ts))) ≡ length (joined (transaction_values t)) + length (joined (flat_map transaction_values ts)) =
      ap length (first_blocks transaction_values t ts) ∙ length_both (joined (transaction_values t)) (joined (flat_map transaction_values ts)) in (
        changes_low offset t are.0 (omega (arith, parts, low)),
        transactions_low (offset + group_size (transaction_values t)) ts are.1 (omega (arith, parts, low, size_is (transaction_values t))),
      )

  record_low : (offset : ℕ) (group : Group) (r : LogRecord) → record_at group ≡ Some r → offset + group_size group < 2 ^ 32 → AllLow (kept r extent offset)
  record_low offset group r is low =
      transactions_low (offset + length (record_specs.text r)) r.transactions (record_changes group r is)
      (omega (arith, low, record_size group r is, size_is (flat_map transaction_values r.transactions)))

  -- ---- a load

  takes_low : (keys : KeyRange) (at : Position) (r : LogRecord) (layer : Entries) (region : Region) (z : Region × Entries) → AllLow (kept r extent at.offset) → AreLow layer →
      region_takes keys at extent r layer region ≡ Some z → AreLow z.1
  takes_low keys at r layer region z all good is = go (holds region at) (nat_lt region.next r.first) is
    where
      changes : List (Bytes × Cell)
      changes = filter (λ change. within keys change.0 && within region.keys change.0) (flat_map (λ changes. changes) (drop (region.next - r.first) (kept r extent at.offset)))

      after : Region
      after = record region { next = region.next + length (drop (region.next - r.first) r.transactions) }

      are : AllByRecursion IsLow changes
      are =
          filter_low (λ change. within keys change.0 && within region.keys change.0) (flat_map (λ changes. changes) (drop (region.next - r.first) (kept r extent at.offset)))
          (flat_low (drop (region.next - r.first) (kept r extent at.offset)) (drop_low (region.next - r.first) (kept r extent at.offset) all))

      go : (a b : Bool) → cond a (cond b None (Some (after, put_all layer changes))) (Some (region, layer)) ≡ Some z → AreLow z.1
      go true true e = absurd cc
      go true false e = let same : (after, put_all layer changes) ≡ z = cc in subst (λ (w : Region × Entries). AreLow w.1) same (put_low layer changes good are)
      go false b e = let same : (region, layer) ≡ z = cc in subst (λ (w : Region × Entries). AreLow w.1) same good

  each_low : (keys : KeyRange) (at : Position) (r : LogRecord) (regions : List Region) (layer : Entries) (y : List Region × Entries) → AllLow (kept r extent at.offset) → AreLow layer →
      each_of (region_takes keys at extent r) layer regions ≡ Some y → AreLow y.1
  each_low keys at r [] layer y all good is = let same : ([], layer) ≡ y = cc in subst (λ (w : List Region × Entries). AreLow w.1) same good
  each_low keys at r (region ∷ regions) layer y all good is =
      first (region_takes keys at extent r layer region) refl is (λ z g e. each_low keys at r regions z.0 z.1 all g e)
    where
      rest : Region × Entries → Option (List Region × Entries)
      rest b = each_of (region_takes keys at extent r) b.1 regions >>= λ others. Some (b.0 ∷ others.0, others.1)

      More : Type 0
      More = (z : Entries × (List Region × Entries)) → AreLow z.0 → each_of (region_takes keys at extent r) z.0 regions ≡ Some z.1 → AreLow z.1.1

      second : (b : Region × Entries) (x : Option (List Region × Entries)) → each_of (region_takes keys at extent r) b.1 regions ≡ x →
          (x >>= (λ others. Some (b.0 ∷ others.0, others.1))) ≡ Some y → More → AreLow b.1 → AreLow y.1
      second b None is e more g = absurd cc
      second b (Some others) is e more g = let same : (b.0 ∷ others.0, others.1) ≡ y = cc in subst (λ (w : List Region × Entries). AreLow w.1) same (more (b.1, others) g is)

      first : (x : Option (Region × Entries)) → region_takes keys at extent r layer region ≡ x → (x >>= rest) ≡ Some y → More → AreLow y.1
      first None is e more = absurd cc
      first (Some b) is e more = second b (each_of (region_takes keys at extent r) b.1 regions) refl e more (takes_low keys at r layer region b all good is)

  -- the groups of an extent from a position on
  pub replayed_low : (keys : KeyRange) (at : Position) (gs : List Group) (x z : List Region × Entries) → AreLow x.1 → replayed keys extent at x gs ≡ Some z → AreLow z.1
  replayed_low keys at [] x z good is = let same : x ≡ z = cc in subst (λ (w : List Region × Entries). AreLow w.1) same good
  replayed_low keys at (g ∷ gs) x z good is =
      test (λ y k e. replayed_low keys (record at { offset = at.offset + group_size g }) gs y z k e) (nat_lt (at.offset + group_size g) (2 ^ 32)) refl is
    where
      later : List Region × Entries → Option (List Region × Entries)
      later y = replayed keys extent (record at { offset = at.offset + group_size g }) y gs

      taking : LogRecord → Option (List Region × Entries)
      taking q = each_of (region_takes keys at extent q) x.1 x.0 >>= later

      Rest : Type 0
      Rest = (y : List Region × Entries) → AreLow y.1 → later y ≡ Some z → AreLow z.1

      found : (r : LogRecord) → AllLow (kept r extent at.offset) → Rest → (o : Option (List Region × Entries)) → each_of (region_takes keys at extent r) x.1 x.0 ≡ o → (o >>= later) ≡ Some z → AreLow z.1
      found r all rest None e f = absurd cc
      found r all rest (Some y) e f = rest y (each_low keys at r x.0 x.1 y all good e) f

      read : at.offset + group_size g < 2 ^ 32 → Rest → (o : Option LogRecord) → record_at g ≡ o → (o >>= taking) ≡ Some z → AreLow z.1
      read here rest None e f = absurd cc
      read here rest (Some r) e f = found r (record_low at.offset g r e here) rest (each_of (region_takes keys at extent r) x.1 x.0) refl f

      test : Rest → (b : Bool) → nat_lt (at.offset + group_size g) (2 ^ 32) ≡ b → cond b (record_at g >>= taking) None ≡ Some z → AreLow z.1
      test rest true t e = read (ltb-true (at.offset + group_size g) (2 ^ 32) t) rest (record_at g) refl e
      test rest false t e = absurd cc

-- ---- a group that was applied

abbrev of_transactions : (ts : List (List Change)) → AllByRecursion IsTransaction ts → AllByRecursion AreChanges ts
of_transactions [] all = tt
of_transactions (t ∷ ts) all = (all.0.1, of_transactions ts all.1)

-- the group of a record that can be written stands below what an extent can have
pub applied_low : (live : Entries) (extent offset : ℕ) (r : LogRecord) → AreLow live → AllByRecursion IsTransaction r.transactions →
    offset + (length (record_specs.text r) + group_size (flat_map transaction_values r.transactions)) < 2 ^ 32 → AreLow (put_all live (flat_map (λ changes. changes) (kept r extent offset)))
applied_low live extent offset r good are low =
    put_low live (flat_map (λ changes. changes) (kept r extent offset)) good
    (flat_low (kept r extent offset) (transactions_low extent (offset + length (record_specs.text r)) r.transactions (of_transactions r.transactions are)
    (omega (arith, low, size_is (flat_map transaction_values r.transactions)))))
