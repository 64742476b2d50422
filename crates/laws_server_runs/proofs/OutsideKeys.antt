-- What a load makes of what it reads has no key outside of the range's: neither its memory table, nor what its indexes say together.
use Rattle.std.proofs.Common.{◌≡◌, ℕ, ◌+◌, ◌-◌, ◌^◌, Bool, true, false, cond, ◌&&◌, nat_lt, List, [], ◌∷◌, length, map, drop, Option, Some, None, option_map, is_eq, refl, sym, ap, ◌∙◌, subst}
use Rattle.std.specs.Prelude.{filter}
use Rattle.std.specs.BTreeMap.{insert_entry}
use Rattle.std.specs.List.{flat_map}
use Rattle.std.proofs.lemmas.Bool.{and_parts}
use Rattle.block_types.specs.Limits.{group_size}
use Rattle.blocks.specs.Format.{◌>>=◌}
use Rattle.blocks.proofs.Formats.{bind_some}
use Rattle.checkpoint.specs.Pages.{IndexContent, merged}
use Rattle.checkpoint_format.specs.Page.{is_ascending}
use Rattle.commitlog.specs.Places.{kept}
use Rattle.commitlog.specs.Reading.{record_at, each_of}
use Rattle.commitlog.specs.declared.log_record.LogRecord.{LogRecord}
use Rattle.memtable.specs.declared.cell.Cell.{Cell}
use Rattle.memtable.specs.Entries.{Entries, key_cmp, found, put_all}
use Rattle.metadata.specs.declared.record.KeyRange.{KeyRange}
use Rattle.metadata.specs.declared.record.Region.{Region}
use Rattle.metadata.specs.Keys.{within}
use Rattle.streams.specs.declared.table.Position.{Position}
use Rattle.model_histories.specs.IndexContents.{index_in, entries_in}
use Rattle.model_histories.specs.StreamActions.{ExtentRead}
use Rattle.model_histories.specs.TableContents.{value_in, table_in}
use Rattle.model_partition.specs.Loading.{Group, holds, region_takes, replayed}
use Rattle.model_partition.specs.Past.{Bytes}
use Rattle.model_partition.specs.declared.shown_table.ShownTable.{ShownTable}
use Rattle.laws_checkpoints.proofs.TableLayers.{table_flat, put_layer}
use Rattle.laws_loads.proofs.Cells.{same_key, inserted_other}
use Rattle.laws_tables.proofs.Layers.{pick}
use Rattle.laws_tables.specs.Layers.{flat}
use Rattle.laws_server_runs.specs.RangeInvariant.{replayed_all}

module _ (keys : KeyRange) (key : Bytes) (outside : within keys key ≡ false) where
  abbrev IsOut : Entries → Type 0
  IsOut es = found es key ≡ None

  -- ---- changes of the range's keys alone

  put_out : (lets_in : Bytes × Cell → Bool) → ((c : Bytes × Cell) → lets_in c ≡ true → within keys c.0 ≡ true) → (cells : List (Bytes × Cell)) (es : Entries) → IsOut es → IsOut (put_all es (filter lets_in cells))
  put_out lets_in only [] es none = none
  put_out lets_in only (c ∷ cells) es none = by (λ more old. put_out lets_in only cells more old) (lets_in c) refl
    where
      other : within keys c.0 ≡ true → (b : Bool) → is_eq (key_cmp c.0 key) ≡ b → is_eq (key_cmp c.0 key) ≡ false
      other inside true same = absurd (let z : true ≡ false = sym inside ∙ ap (within keys) (same_key c.0 key same) ∙ outside in cc)
      other inside false same = same

      by : ((more : Entries) → IsOut more → IsOut (put_all more (filter lets_in cells))) → (b : Bool) → lets_in c ≡ b → IsOut (put_all es (cond b (c ∷ filter lets_in cells) (filter lets_in cells)))
      by rest true e = rest (insert_entry key_cmp es c.0 c.1) (inserted_other es c.0 key c.1 (other (only c e) (is_eq (key_cmp c.0 key)) refl) ∙ none)
      by rest false e = rest es none

  -- ---- indexes

  merged_out : (contents : List IndexContent) → IsOut (merged keys contents)
  merged_out [] = refl
  merged_out (x ∷ older) = put_out (λ e. within x.keys e.0 && within keys e.0) (λ e t. (and_parts (within x.keys e.0) (within keys e.0) t).1) x.entries (merged keys older) (merged_out older)

  -- ---- a load

  module _ (extent : ℕ) where
    takes_out : (at : Position) (r : LogRecord) (layer : Entries) (region : Region) (z : Region × Entries) → IsOut layer → region_takes keys at extent r layer region ≡ Some z → IsOut z.1
    takes_out at r layer region z none is = go (holds region at) (nat_lt region.next r.first) is
      where
        all : List (Bytes × Cell)
        all = flat_map (λ changes. changes) (drop (region.next - r.first) (kept r extent at.offset))

        changes : List (Bytes × Cell)
        changes = filter (λ change. within keys change.0 && within region.keys change.0) all

        after : Region
        after = record region { next = region.next + length (drop (region.next - r.first) r.transactions) }

        put : IsOut (put_all layer changes)
        put = put_out (λ change. within keys change.0 && within region.keys change.0) (λ c t. (and_parts (within keys c.0) (within region.keys c.0) t).0) all layer none

        go : (a b : Bool) → cond a (cond b None (Some (after, put_all layer changes))) (Some (region, layer)) ≡ Some z → IsOut z.1
        go true true e = absurd cc
        go true false e = let same : (after, put_all layer changes) ≡ z = cc in subst (λ (w : Region × Entries). IsOut w.1) same put
        go false b e = let same : (region, layer) ≡ z = cc in subst (λ (w : Region × Entries). IsOut w.1) same none

    each_out : (at : Position) (r : LogRecord) (regions : List Region) (layer : Entries) (y : List Region × Entries) → IsOut layer → each_of (region_takes keys at extent r) layer regions ≡ Some y → IsOut y.1
    each_out at r [] layer y none is = let same : ([], layer) ≡ y = cc in subst (λ (w : List Region × Entries). IsOut w.1) same none
    each_out at r (region ∷ regions) layer y none is =
        let first = bind_some (region_takes keys at extent r layer region) (λ (b : Region × Entries). each_of (region_takes keys at extent r) b.1 regions >>= λ others. Some (b.0 ∷ others.0, others.1)) y is in
        let second = bind_some (each_of (region_takes keys at extent r) first.0.1 regions) (λ others. Some (first.0.0 ∷ others.0, others.1)) y first.2 in
        let same : (first.0.0 ∷ second.0.0, second.0.1) ≡ y = let e : Some (first.0.0 ∷ second.0.0, second.0.1) ≡ Some y = second.2 in cc in
        subst (λ (w : List Region × Entries). IsOut w.1) same (each_out at r regions first.0.1 second.0 (takes_out at r layer region first.0 none first.1) second.1)

    replayed_out : (at : Position) (gs : List Group) (x z : List Region × Entries) → IsOut x.1 → replayed keys extent at x gs ≡ Some z → IsOut z.1
    replayed_out at [] x z none is = let same : x ≡ z = cc in subst (λ (w : List Region × Entries). IsOut w.1) same none
    replayed_out at (g ∷ gs) x z none is = test (λ y out e. replayed_out (record at { offset = at.offset + group_size g }) gs y z out e) (nat_lt (at.offset + group_size g) (2 ^ 32)) is
      where
        later : List Region × Entries → Option (List Region × Entries)
        later y = replayed keys extent (record at { offset = at.offset + group_size g }) y gs

        taking : LogRecord → Option (List Region × Entries)
        taking q = each_of (region_takes keys at extent q) x.1 x.0 >>= later

        test : ((y : List Region × Entries) → IsOut y.1 → later y ≡ Some z → IsOut z.1) → (b : Bool) → cond b (record_at g >>= taking) None ≡ Some z → IsOut z.1
        test rest true e =
            let read = bind_some (record_at g) taking z e in
            let taken = bind_some (each_of (region_takes keys at extent read.0) x.1 x.0) later z read.2 in
            rest taken.0 (each_out at read.0 x.0 x.1 taken.0 none taken.1) taken.2
        test rest false e = absurd cc

  -- the memory table
  pub all_out : (reads : List ExtentRead) (x z : List Region × Entries) → IsOut x.1 → replayed_all keys reads x ≡ Some z → IsOut z.1
  all_out [] x z none is = let same : x ≡ z = cc in subst (λ (w : List Region × Entries). IsOut w.1) same none
  all_out (read ∷ older) x z none is =
      let b = bind_some (replayed_all keys older x) (λ y. replayed keys read.extent (record { index = read.index; offset = 0 }) y read.groups) z is in
      replayed_out read.extent (record { index = read.index; offset = 0 }) read.groups b.0 z (all_out older x b.0 none b.1) b.2

-- the table of a load, where its memory table has no such key
pub table_out : (texts : ℕ → Bytes) (table : ShownTable) (key : Bytes) → within table.keys key ≡ false → found table.live key ≡ None → is_ascending table.live ≡ true → table_in texts (entries_in texts table) key ≡ None
table_out texts table key outside none order =
    let contents : List IndexContent = map (index_in texts) table.indexes in
    table_flat texts (entries_in texts table) key
    ∙ ap flat (put_layer texts (merged table.keys contents) table.live key order
    ∙ ap (λ o. pick (option_map (value_in texts) o) (option_map (value_in texts) (found (merged table.keys contents) key))) none
    ∙ ap (option_map (value_in texts)) (merged_out table.keys key outside contents))
