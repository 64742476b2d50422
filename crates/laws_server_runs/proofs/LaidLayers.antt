-- A load keeps its layer in the order of its keys, and each place in it lies within what was read.
use Rattle.std.proofs.Common.{◌≡◌, ℕ, zero, suc, ◌+◌, ◌-◌, ◌^◌, ◌≤◌, List, [], ◌∷◌, ◌++◌, length, drop, Option, Some, None, Bool, true, false, refl, ap, ◌∙◌, subst, cond, inl, inr, arith, nat_lt}
use Rattle.std.specs.Prelude.{◌&&◌, filter}
use Rattle.std.specs.List.{flat_map}
use Rattle.std.specs.BTreeMap.{insert_entry}
use Rattle.std.specs.declared.cmp.Ordering.TheVariants.{Less, Equal, Greater}
use Rattle.blocks.specs.Format.{◌>>=◌}
use Rattle.block_types.specs.Limits.{group_size}
use Rattle.wire.specs.declared.transaction.Change.{Change}
use Rattle.streams.specs.declared.table.Position.{Position}
use Rattle.memtable.specs.declared.cell.Cell.{Cell}
use Rattle.memtable.specs.declared.cell.Cell.TheVariants.{Deleted, Inline, Placed}
use Rattle.memtable.specs.declared.cell.Place.{Place}
use Rattle.memtable.specs.Limits.{is_large}
use Rattle.memtable.specs.Entries.{Entries, key_cmp, put_all}
use Rattle.metadata.specs.declared.record.KeyRange.{KeyRange}
use Rattle.metadata.specs.declared.record.Region.{Region}
use Rattle.metadata.specs.Keys.{within}
use Rattle.replica.specs.Groups.{joined, text}
use Rattle.commitlog.specs.declared.log_record.LogRecord.{LogRecord}
use Rattle.commitlog.specs.Record.{change_values, transaction_values}
use Rattle.commitlog.specs.Record as record_specs
use Rattle.commitlog.specs.Reading.{record_at, each_of}
use Rattle.commitlog.specs.Places.{kept, kept_cell, kept_changes, kept_transactions}
use Rattle.model_partition.specs.Loading.{Group, replayed, region_takes, holds}
use Rattle.model_partition.specs.Past.{Bytes}
use Rattle.model_histories.specs.StreamActions.{PlacedBytes}
use Rattle.laws_loads.proofs.Cells.{length_both, first_blocks, size_is}
use Rattle.laws_loads.proofs.Rows.{ordered_put}
use Rattle.laws_server_runs.specs.Places.{IsWithin, CellWithin, AreWithin, IsLaid}
use Rattle.laws_server_runs.proofs.RecordSizes.{record_size}

-- ---- more bytes

pub within_front : (more placed : List PlacedBytes) (place : Place) → IsWithin placed place → IsWithin (placed ++ more) place
within_front more [] place w = absurd w
within_front more (p ∷ placed) place (inl here) = inl here
within_front more (p ∷ placed) place (inr later) = inr (within_front more placed place later)

pub within_behind : (more placed : List PlacedBytes) (place : Place) → IsWithin placed place → IsWithin (more ++ placed) place
within_behind [] placed place w = w
within_behind (p ∷ more) placed place w = inr (within_behind more placed place w)

module _ (placed others : List PlacedBytes) (on : (place : Place) → IsWithin placed place → IsWithin others place) where
  pub cell_on : (cell : Cell) → CellWithin placed cell → CellWithin others cell
  cell_on Deleted w = tt
  cell_on (Inline value) w = tt
  cell_on (Placed place) w = on place w

  pub are_on : (es : Entries) → AreWithin placed es → AreWithin others es
  are_on [] w = tt
  are_on (e ∷ es) w = (cell_on e.1 w.0, are_on es w.1)

-- what lies within some bytes lies within more
pub laid_front : (more placed : List PlacedBytes) (es : Entries) → IsLaid placed es → IsLaid (placed ++ more) es
laid_front more placed es (o, w) = (o, are_on placed (placed ++ more) (within_front more placed) es w)

pub laid_behind : (more placed : List PlacedBytes) (es : Entries) → IsLaid placed es → IsLaid (more ++ placed) es
laid_behind more placed es (o, w) = (o, are_on placed (more ++ placed) (within_behind more placed) es w)

module _ (placed : List PlacedBytes) where
  -- ---- a layer

  within_inserted : (es : Entries) (key : Bytes) (cell : Cell) → CellWithin placed cell → AreWithin placed es → AreWithin placed (insert_entry key_cmp es key cell)
  within_inserted [] key cell c a = (c, tt)
  within_inserted (e ∷ es) key cell c a =
      elim (key_cmp key e.0) as (λ r. key_cmp key e.0 ≡ r → AreWithin placed (insert_entry key_cmp (e ∷ es) key cell)) [
        | Less ↦ λ r. rw r (c, a)
        | Equal ↦ λ r. rw r (c, a.1)
        | Greater ↦ λ r. rw r (a.0, within_inserted es key cell c a.1)
      ] refl

  pub within_put : (es : Entries) (changes : List (Bytes × Cell)) → AreWithin placed es → AreWithin placed changes → AreWithin placed (put_all es changes)
  within_put es [] a b = a
  within_put es (c ∷ changes) a b = within_put (insert_entry key_cmp es c.0 c.1) changes (within_inserted es c.0 c.1 b.0 a) b.1

  -- ---- lists of changes

  abbrev pub AllWithin : List (List (Bytes × Cell)) → Type 0
  AllWithin [] = Unit {0}
  AllWithin (t ∷ ts) = AreWithin placed t × AllWithin ts

  pub within_both : (xs ys : List (Bytes × Cell)) → AreWithin placed xs → AreWithin placed ys → AreWithin placed (xs ++ ys)
  within_both [] ys a b = b
  within_both (x ∷ xs) ys a b = (a.0, within_both xs ys a.1 b)

  pub within_flat : (ts : List (List (Bytes × Cell))) → AllWithin ts → AreWithin placed (flat_map (λ changes. changes) ts)
  within_flat [] a = tt
  within_flat (t ∷ ts) a = within_both t (flat_map (λ changes. changes) ts) a.0 (within_flat ts a.1)

  within_drop : (n : ℕ) (ts : List (List (Bytes × Cell))) → AllWithin ts → AllWithin (drop n ts)
  within_drop zero ts a = a
  within_drop (suc n) [] a = tt
  within_drop (suc n) (t ∷ ts) a = within_drop n ts a.1

  pub within_filter : (test : (Bytes × Cell) → Bool) (xs : List (Bytes × Cell)) → AreWithin placed xs → AreWithin placed (filter test xs)
  within_filter test [] a = tt
  within_filter test (x ∷ xs) a = go (within_filter test xs a.1) (test x)
    where
      go : AreWithin placed (filter test xs) → (b : Bool) → AreWithin placed (cond b (x ∷ filter test xs) (filter test xs))
      go rest true = (a.0, rest)
      go rest false = rest

  -- ---- what rows keep of a group that stands within an extent

  module _ (extent low total : ℕ) (inside : (place : Place) → place.extent ≡ extent → low ≤ place.offset → place.offset + place.length ≤ total → IsWithin placed place) where
    value_within : (b : Bool) (offset : ℕ) (value : Bytes) → low ≤ offset → offset + length (joined (cond b (value ∷ []) [])) ≤ total →
        CellWithin placed (cond b (Placed (record { extent = extent; offset = offset; length = length value })) (Inline value))
    value_within true offset value ge le =
        let count : length (value ++ []) ≡ length value + 0 = length_both value [] in
        inside (record { extent = extent; offset = offset; length = length value }) refl ge (omega (arith, le, count))
    value_within false offset value ge le = tt

    cell_within : (offset : ℕ) (c : Change) → low ≤ offset → offset + length (joined (change_values c)) ≤ total → CellWithin placed (kept_cell extent offset c.value)
    cell_within offset c ge le = go c.value le
      where
        go : (value : Option Bytes) → offset + length (joined (record_specs.large value)) ≤ total → CellWithin placed (kept_cell extent offset value)
        go None le = tt
        go (Some value) le = value_within (is_large value) offset value ge le

    changes_within : (offset : ℕ) (t : List Change) → low ≤ offset → offset + length (joined (transaction_values t)) ≤ total → AreWithin placed (kept_changes extent offset t)
    changes_within offset [] ge le = tt
    changes_within offset (c ∷ t) ge le =
        let parts : length (joined (transaction_values (c ∷ t))) ≡ length (joined (change_values c)) + length (joined (transaction_values t)) =
        ap length (first_blocks change_values c t) ∙ length_both (joined (change_values c)) (joined (transaction_values t)) in (
          cell_within offset c ge (omega (arith, parts, le)),
          changes_within (offset + group_size (change_values c)) t (omega (arith, ge)) (omega (arith, parts, le, size_is (change_values c))),
        )

    pub transactions_within : (offset : ℕ) (ts : List (List Change)) → low ≤ offset → offset + length (joined (flat_map transaction_values ts)) ≤ total → AllWithin (kept_transactions extent offset ts)
    transactions_within offset [] ge le = tt
    transactions_within offset (t ∷ ts) ge le =
        let parts : length (joined (flat_map transaction_values (t ∷ ts))) ≡ length (joined (transaction_values t)) + length (joined (flat_map transaction_values ts)) =
        ap length (first_blocks transaction_values t ts) ∙ length_both (joined (transaction_values t)) (joined (flat_map transaction_values ts)) in (
          changes_within offset t ge (omega (arith, parts, le)),
          transactions_within (offset + group_size (transaction_values t)) ts (omega (arith, ge)) (omega (arith, parts, le, size_is (transaction_values t))),
        )

    record_within : (offset : ℕ) (group : Group) (r : LogRecord) → record_at group ≡ Some r → low ≤ offset → offset + group_size group ≤ total → AllWithin (kept r extent offset)
    record_within offset group r is ge le =
        transactions_within (offset + length (record_specs.text r)) r.transactions (omega (arith, ge)) (omega (arith, le, record_size group r is, size_is (flat_map transaction_values r.transactions)))

    -- ---- a load

    takes_keeps : (keys : KeyRange) (at : Position) (r : LogRecord) (layer : Entries) (region : Region) (z : Region × Entries) → AllWithin (kept r extent at.offset) → IsLaid placed layer →
        region_takes keys at extent r layer region ≡ Some z → IsLaid placed z.1
    takes_keeps keys at r layer region z all good is = go (holds region at) (nat_lt region.next r.first) is
      where
        changes : List (Bytes × Cell)
        changes = filter (λ change. within keys change.0 && within region.keys change.0) (flat_map (λ changes. changes) (drop (region.next - r.first) (kept r extent at.offset)))

        after : Region
        after = record region { next = region.next + length (drop (region.next - r.first) r.transactions) }

        are : AreWithin placed changes
        are =
            within_filter (λ change. within keys change.0 && within region.keys change.0) (flat_map (λ changes. changes) (drop (region.next - r.first) (kept r extent at.offset)))
            (within_flat (drop (region.next - r.first) (kept r extent at.offset)) (within_drop (region.next - r.first) (kept r extent at.offset) all))

        go : (a b : Bool) → cond a (cond b None (Some (after, put_all layer changes))) (Some (region, layer)) ≡ Some z → IsLaid placed z.1
        go true true e = absurd cc
        go true false e =
            let same : (after, put_all layer changes) ≡ z = cc in
            subst (λ (w : Region × Entries). IsLaid placed w.1) same (ordered_put layer changes good.0, within_put layer changes good.1 are)
        go false b e = let same : (region, layer) ≡ z = cc in subst (λ (w : Region × Entries). IsLaid placed w.1) same good

    each_keeps : (keys : KeyRange) (at : Position) (r : LogRecord) (regions : List Region) (layer : Entries) (y : List Region × Entries) → AllWithin (kept r extent at.offset) → IsLaid placed layer →
        each_of (region_takes keys at extent r) layer regions ≡ Some y → IsLaid placed y.1
    each_keeps keys at r [] layer y all good is = let same : ([], layer) ≡ y = cc in subst (λ (w : List Region × Entries). IsLaid placed w.1) same good
    each_keeps keys at r (region ∷ regions) layer y all good is =
        first (region_takes keys at extent r layer region) refl is (λ z g e. each_keeps keys at r regions z.0 z.1 all g e)
      where
        rest : Region × Entries → Option (List Region × Entries)
        rest b = each_of (region_takes keys at extent r) b.1 regions >>= λ others. Some (b.0 ∷ others.0, others.1)

        second : (b : Region × Entries) (x : Option (List Region × Entries)) → each_of (region_takes keys at extent r) b.1 regions ≡ x →
            (x >>= (λ others. Some (b.0 ∷ others.0, others.1))) ≡ Some y → ((z : Entries × (List Region × Entries)) → IsLaid placed z.0 → each_of (region_takes keys at extent r) z.0 regions ≡ Some z.1 → IsLaid placed z.1.1) →
            IsLaid placed b.1 → IsLaid placed y.1
        second b None is e more g = absurd cc
        second b (Some others) is e more g =
            let same : (b.0 ∷ others.0, others.1) ≡ y = cc in
            subst (λ (w : List Region × Entries). IsLaid placed w.1) same (more (b.1, others) g is)

        first : (x : Option (Region × Entries)) → region_takes keys at extent r layer region ≡ x → (x >>= rest) ≡ Some y →
            ((z : Entries × (List Region × Entries)) → IsLaid placed z.0 → each_of (region_takes keys at extent r) z.0 regions ≡ Some z.1 → IsLaid placed z.1.1) → IsLaid placed y.1
        first None is e more = absurd cc
        first (Some b) is e more =
            second b (each_of (region_takes keys at extent r) b.1 regions) refl e more (takes_keeps keys at r layer region b all good is)

    -- the groups of an extent from a position on
    groups_keep : (keys : KeyRange) (at : Position) (gs : List Group) (x z : List Region × Entries) → low ≤ at.offset → at.offset + length (text gs) ≤ total →
        IsLaid placed x.1 → replayed keys extent at x gs ≡ Some z → IsLaid placed z.1
    groups_keep keys at [] x z ge le good is = let same : x ≡ z = cc in subst (λ (w : List Region × Entries). IsLaid placed w.1) same good
    groups_keep keys at (g ∷ gs) x z ge le good is =
        let parts : length (text (g ∷ gs)) ≡ length (joined g) + length (text gs) = length_both (joined g) (text gs) in
        let more : at.offset + group_size g + length (text gs) ≤ total = omega (arith, parts, le, size_is g) in
        test (omega (arith, more)) (λ y k e. groups_keep keys (record at { offset = at.offset + group_size g }) gs y z (omega (arith, ge)) more k e) (nat_lt (at.offset + group_size g) (2 ^ 32)) is
      where
        later : List Region × Entries → Option (List Region × Entries)
        later y = replayed keys extent (record at { offset = at.offset + group_size g }) y gs

        taking : LogRecord → Option (List Region × Entries)
        taking q = each_of (region_takes keys at extent q) x.1 x.0 >>= later

        Rest : Type 0
        Rest = (y : List Region × Entries) → IsLaid placed y.1 → later y ≡ Some z → IsLaid placed z.1

        found : (r : LogRecord) → AllWithin (kept r extent at.offset) → Rest → (o : Option (List Region × Entries)) → each_of (region_takes keys at extent r) x.1 x.0 ≡ o → (o >>= later) ≡ Some z → IsLaid placed z.1
        found r all rest None e f = absurd cc
        found r all rest (Some y) e f = rest y (each_keeps keys at r x.0 x.1 y all good e) f

        read : at.offset + group_size g ≤ total → Rest → (o : Option LogRecord) → record_at g ≡ o → (o >>= taking) ≡ Some z → IsLaid placed z.1
        read here rest None e f = absurd cc
        read here rest (Some r) e f = found r (record_within at.offset g r e ge here) rest (each_of (region_takes keys at extent r) x.1 x.0) refl f

        test : at.offset + group_size g ≤ total → Rest → (b : Bool) → cond b (record_at g >>= taking) None ≡ Some z → IsLaid placed z.1
        test here rest true e = read here rest (record_at g) refl e
        test here rest false e = absurd cc

-- one more extent that a load replays from its first place on
pub replayed_laid : (keys : KeyRange) (extent index : ℕ) (gs : List Group) (placed : List PlacedBytes) (x z : List Region × Entries) → IsLaid placed x.1 →
    replayed keys extent (record { index = index; offset = 0 }) x gs ≡ Some z → IsLaid (record { extent = extent; offset = 0; bytes = text gs } ∷ placed) z.1
replayed_laid keys extent index gs placed x z good is =
    let all : List PlacedBytes = record { extent = extent; offset = 0; bytes = text gs } ∷ placed in
    groups_keep all extent 0 (length (text gs)) inside keys (record { index = index; offset = 0 }) gs x z (omega arith) (omega arith)
    (laid_behind (record { extent = extent; offset = 0; bytes = text gs } ∷ []) placed x.1 good) is
  where
    inside : (place : Place) → place.extent ≡ extent → 0 ≤ place.offset → place.offset + place.length ≤ length (text gs) → IsWithin (record { extent = extent; offset = 0; bytes = text gs } ∷ placed) place
    inside place same ge le = inl (record { extent = same; low = omega arith; high = omega (arith, le) })
