-- What a load makes of the groups that it reads of one extent of a log: the line that they make, and its layer.
use Rattle.std.proofs.Common.{◌≡◌, ℕ, ◌+◌, ◌-◌, ◌^◌, List, [], ◌∷◌, ◌++◌, length, map, drop, Option, Some, None, option_map, Bool, true, false, refl, sym, ap, ◌∙◌, subst, cond, arith, append_assoc, append-nil, nat_lt, ◌<◌}
use Rattle.std.specs.Prelude.{◌&&◌, filter}
use Rattle.std.specs.List.{flat_map}
use Rattle.std.proofs.lemmas.List.{length-append}
use Rattle.std.proofs.lemmas.Bool.{ltb-true}
use Rattle.blocks.specs.Format.{◌>>=◌}
use Rattle.block_types.specs.Limits.{group_size}
use Rattle.streams.specs.declared.table.Position.{Position}
use Rattle.memtable.specs.declared.cell.Cell.{Cell}
use Rattle.memtable.specs.Entries.{Entries, put_all}
use Rattle.metadata.specs.declared.record.KeyRange.{KeyRange}
use Rattle.metadata.specs.declared.record.Region.{Region}
use Rattle.metadata.specs.Keys.{within}
use Rattle.replica.specs.Groups.{Group, joined, text}
use Rattle.commitlog.specs.declared.log_record.LogRecord.{LogRecord}
use Rattle.commitlog.specs.Record.{spelling, pieces, transaction_values}
use Rattle.commitlog.specs.Record as record_specs
use Rattle.commitlog.specs.Reading.{record_at, each_of}
use Rattle.commitlog.specs.Places.{kept}
use Rattle.commitlog.proofs.Measures.{group_size-append, size-spelling}
use Rattle.model_partition.specs.Loading.{replayed, region_takes, holds, is_before, is_below_end}
use Rattle.model_partition.specs.Past.{Bytes, Transaction}
use Rattle.model_histories.specs.Renaming.{numbered}
use Rattle.model_histories.specs.ServerRun.{place_number, placed_from}
use Rattle.model_histories.specs.TableContents.{StandsAt, value_in}
use Rattle.laws_loads.proofs.Cells.{Behind, behind, stands_first, stands_second, joined_both, size_is}
use Rattle.laws_tables.specs.Layers.{Layer, empty_layer, layer_transaction, layer_line}
use Rattle.laws_tables.specs.Runs.{added}
use Rattle.laws_loads.specs.MemoryLayers.{layer_in}
use Rattle.laws_server_runs.proofs.Behind.{groups_shown, all_behind, before_place}
use Rattle.laws_server_runs.proofs.LayerCells.{found_let_in, all_transactions}

-- ---- lines

pub line_both : (xs ys : List Transaction) (layer : Layer) → layer_line (xs ++ ys) layer ≡ layer_line ys (layer_line xs layer)
line_both [] ys layer = refl
line_both (t ∷ ts) ys layer = line_both ts ys (layer_transaction t layer)

-- these groups are the records, and are read as them
abbrev pub AreRead : List Group → List LogRecord → Type 0
AreRead [] [] = Unit {0}
AreRead [] (r ∷ rs) = ⊥
AreRead (g ∷ gs) [] = ⊥
AreRead (g ∷ gs) (r ∷ rs) = (g ≡ spelling r) × (record_at g ≡ Some r) × AreRead gs rs

-- ---- values of a record

pub values_stand : (whole : Bytes) (offset : ℕ) (r : LogRecord) → StandsAt whole offset (joined (spelling r)) →
    StandsAt whole (offset + length (record_specs.text r)) (joined (flat_map transaction_values r.transactions))
values_stand whole offset r s =
    let parts : StandsAt whole offset (joined (pieces (record_specs.text r)) ++ joined (flat_map transaction_values r.transactions)) =
    subst (StandsAt whole offset) (joined_both (pieces (record_specs.text r)) (flat_map transaction_values r.transactions)) s in
    let count : length (joined (pieces (record_specs.text r))) ≡ length (record_specs.text r) =
    omega (arith, size-spelling r, group_size-append (pieces (record_specs.text r)) (flat_map transaction_values r.transactions), size_is (pieces (record_specs.text r))) in
    subst (λ n. StandsAt whole (offset + n) (joined (flat_map transaction_values r.transactions))) count
    (stands_second whole offset (joined (pieces (record_specs.text r))) (joined (flat_map transaction_values r.transactions)) parts)

-- what is found of two parts
pub found_both : {A B : Type 0} (o : Option A) (f : A → Option B) (z : B) → (o >>= f) ≡ Some z → (y : A) × (o ≡ Some y) × (f y ≡ Some z)
found_both {A} {B} None f z e = absurd cc
found_both {A} {B} (Some y) f z e = (y, refl, e)

module _ (texts : ℕ → Bytes) (keys : KeyRange) (first : Region) where
  -- what the first region has become, and the layer within its keys and the range's, after this line
  pub record Has (line : List Transaction) (region : Region) (layer : Entries) : Type 0 where
    pub start : region.start ≡ first.start
    pub open_end : region.end ≡ None
    pub own_keys : region.keys ≡ first.keys
    pub next : region.next ≡ first.next + length line
    pub says : (key : Bytes) → within keys key ≡ true → within first.keys key ≡ true → layer_in texts layer key ≡ layer_line line empty_layer key

  -- what a record adds to the line
  abbrev more_of : List Transaction → LogRecord → List Transaction
  more_of line r = drop ((first.next + length line) - r.first) r.transactions

  else_is : {X : Type 0} (b : Bool) (w z : X) → cond b None (Some w) ≡ Some z → w ≡ z
  else_is true w z e = absurd cc
  else_is false w z e = cc

  -- a record that is taken adds its transactions from the next number on
  record_taken : (extent : ℕ) (at : Position) (line : List Transaction) (region : Region) (layer : Entries) (r : LogRecord) (z : Region × Entries) →
      Has line region layer → holds region at ≡ true → StandsAt (texts extent) at.offset (joined (spelling r)) →
      region_takes keys at extent r layer region ≡ Some z → Has (line ++ more_of line r) z.0 z.1
  record_taken extent at line region layer r z has here stands is =
      let n : ℕ = region.next - r.first in
      let b : Behind (texts extent) extent (at.offset + length (record_specs.text r)) n r.transactions =
      behind (texts extent) extent (at.offset + length (record_specs.text r)) n r.transactions (values_stand (texts extent) at.offset r stands) in
      let cells : List (Bytes × Cell) = flat_map (λ changes. changes) (drop n (kept r extent at.offset)) in
      let more : line ++ drop n r.transactions ≡ line ++ more_of line r = ap (λ k. line ++ drop (k - r.first) r.transactions) has.next in
      let after : Region × Entries = (
        record region { next = region.next + length (drop n r.transactions) },
        put_all layer (filter (λ change. within keys change.0 && within region.keys change.0) cells),
      ) in
      let gives : cond (nat_lt region.next r.first) None (Some after) ≡ Some z = sym (takes_is extent at layer r region here) ∙ is in
      let found : after ≡ z = else_is (nat_lt region.next r.first) after z gives in
      let fresh : Has (line ++ drop n r.transactions) after.0 after.1 = record {
        start = has.start;
        open_end = has.open_end;
        own_keys = has.own_keys;
        next = omega (arith, has.next, length-append line (drop n r.transactions));
        says = λ q in_keys in_own.
            ap (λ k. layer_in texts (put_all layer (filter (λ change. within keys change.0 && within k change.0) cells)) q) has.own_keys
            ∙ ap (option_map (value_in texts)) (found_let_in (λ key. within keys key && within first.keys key) q (ap (λ x. x && within first.keys q) in_keys ∙ in_own) cells layer layer refl)
            ∙ ap (λ l. layer_in texts (put_all layer (flat_map (λ changes. changes) l)) q) b.kept
            ∙ all_transactions texts extent b.place (drop n r.transactions) layer (layer_line line empty_layer) q b.stands (has.says q in_keys in_own)
            ∙ ap (λ (t : Layer). t q) (sym (line_both line (drop n r.transactions) empty_layer));
      } in
      subst (λ (w : Region × Entries). Has (line ++ more_of line r) w.0 w.1) found (subst (λ l. Has l after.0 after.1) more fresh)
    where
      takes_is : (extent : ℕ) (at : Position) (layer : Entries) (r : LogRecord) (region : Region) → holds region at ≡ true →
          region_takes keys at extent r layer region
          ≡ cond (nat_lt region.next r.first) None
          (Some (
            record region { next = region.next + length (drop (region.next - r.first) r.transactions) },
            put_all layer (filter (λ change. within keys change.0 && within region.keys change.0)
                (flat_map (λ changes. changes) (drop (region.next - r.first) (kept r extent at.offset)))),
          ))
      takes_is extent at layer r region h = rw h refl

  -- one that stands before the region's start is passed over
  record_passed : (extent : ℕ) (at : Position) (line : List Transaction) (region : Region) (layer : Entries) (r : LogRecord) (z : Region × Entries) →
      Has line region layer → holds region at ≡ false → region_takes keys at extent r layer region ≡ Some z → Has line z.0 z.1
  record_passed extent at line region layer r z has before is =
      let found : (region, layer) ≡ z = let e : Some (region, layer) ≡ Some z = sym (passed_is extent at layer r region before) ∙ is in cc in
      subst (λ (w : Region × Entries). Has line w.0 w.1) found has
    where
      passed_is : (extent : ℕ) (at : Position) (layer : Entries) (r : LogRecord) (region : Region) → holds region at ≡ false →
          region_takes keys at extent r layer region ≡ Some (region, layer)
      passed_is extent at layer r region h = rw h refl

  -- what a load has of one extent after these groups
  pub record After (line : List Transaction) (found : List Region × Entries) : Type 0 where
    pub region : Region
    pub only : found.0 ≡ region ∷ []
    pub has : Has line region found.1

  one_region : (at : Position) (extent : ℕ) (r : LogRecord) (region : Region) (layer : Entries) (y : List Region × Entries) →
      each_of (region_takes keys at extent r) layer (region ∷ []) ≡ Some y →
      (z : Region × Entries) × (region_takes keys at extent r layer region ≡ Some z) × (y ≡ (z.0 ∷ [], z.1))
  one_region at extent r region layer y e =
      let f = found_both (region_takes keys at extent r layer region)
      (λ (b : Region × Entries). each_of (region_takes keys at extent r) b.1 [] >>= λ others. Some (b.0 ∷ others.0, others.1)) y e in
      let same : (f.0.0 ∷ [], f.0.1) ≡ y = let s : Some (f.0.0 ∷ [], f.0.1) ≡ Some y = f.2 in cc in
      (f.0, f.1, sym same)

  -- what the first of some groups leaves
  record FirstGroup (extent : ℕ) (at : Position) (g : Group) (gs : List Group) (region : Region) (layer : Entries) (z : List Region × Entries) : Type 0 where
    short : at.offset + group_size g < 2 ^ 32
    spelled : LogRecord
    read : record_at g ≡ Some spelled
    after : Region × Entries
    takes : region_takes keys at extent spelled layer region ≡ Some after
    rest : replayed keys extent (record at { offset = at.offset + group_size g }) (after.0 ∷ [], after.1) gs ≡ Some z

  first_group : (extent : ℕ) (at : Position) (g : Group) (gs : List Group) (region : Region) (layer : Entries) (z : List Region × Entries) →
      replayed keys extent at (region ∷ [], layer) (g ∷ gs) ≡ Some z → FirstGroup extent at g gs region layer z
  first_group extent at g gs region layer z is = test (nat_lt (at.offset + group_size g) (2 ^ 32)) refl is
    where
      later : List Region × Entries → Option (List Region × Entries)
      later y = replayed keys extent (record at { offset = at.offset + group_size g }) y gs

      taking : LogRecord → Option (List Region × Entries)
      taking r = each_of (region_takes keys at extent r) layer (region ∷ []) >>= later

      test : (b : Bool) → nat_lt (at.offset + group_size g) (2 ^ 32) ≡ b → cond b (record_at g >>= taking) None ≡ Some z → FirstGroup extent at g gs region layer z
      test true e f =
          let a : (r : LogRecord) × (record_at g ≡ Some r) × (taking r ≡ Some z) = found_both (record_at g) taking z f in
          let b = found_both (each_of (region_takes keys at extent a.0) layer (region ∷ [])) later z a.2 in
          let c = one_region at extent a.0 region layer b.0 b.1 in
          record {
            short = ltb-true (at.offset + group_size g) (2 ^ 32) e;
            spelled = a.0;
            read = a.1;
            after = c.0;
            takes = c.1;
            rest = subst (λ y. later y ≡ Some z) c.2 b.2;
          }
      test false e f = absurd cc

  -- those of the groups from a position on that do not stand before the first region's start
  abbrev groups_behind : ℕ → List Group → List Group
  groups_behind place gs = groups_shown (all_behind (place_number first.start) (placed_from place gs))

  -- what a load makes of the groups of an extent from a position on: what they add to the line
  abbrev Goes : ℕ → Position → List Group → Type 0
  Goes extent at gs =
      (rs : List LogRecord) (line : List Transaction) (region : Region) (layer : Entries) (z : List Region × Entries) →
      AreRead (groups_behind (place_number at) gs) rs → StandsAt (texts extent) at.offset (text gs) → Has line region layer →
      replayed keys extent at (region ∷ [], layer) gs ≡ Some z → After (line ++ added (first.next + length line) (map numbered rs)) z

  module _ (short : first.start.offset < 2 ^ 32) where
    -- what stands before the region's start by its position does so by its place
    holds_is : (region : Region) (at : Position) → region.start ≡ first.start → region.end ≡ None → at.offset < 2 ^ 32 →
        holds region at ≡ cond (nat_lt (place_number at) (place_number first.start)) false true
    holds_is region at start end within_extent =
        ap (λ (s : Position). cond (is_before at s) false (is_below_end region.end at.index)) start
        ∙ ap (λ (e : Option ℕ). cond (is_before at first.start) false (is_below_end e at.index)) end
        ∙ ap (λ (b : Bool). cond b false true) (before_place at first.start within_extent short)

    next_group : (extent : ℕ) (at : Position) (g : Group) (gs : List Group) → Goes extent (record at { offset = at.offset + group_size g }) gs → Goes extent at (g ∷ gs)
    next_group extent at g gs more rs line region layer z read stands has is = by (nat_lt (place_number at) (place_number first.start)) refl read
      where
        s : FirstGroup extent at g gs region layer z
        s = first_group extent at g gs region layer z is

        stand : StandsAt (texts extent) (at.offset + group_size g) (text gs)
        stand = subst (λ n. StandsAt (texts extent) (at.offset + n) (text gs)) (sym (size_is g)) (stands_second (texts extent) at.offset (joined g) (text gs) stands)

        place : place_number at + group_size g ≡ place_number (record at { offset = at.offset + group_size g })
        place = omega arith

        test : holds region at ≡ cond (nat_lt (place_number at) (place_number first.start)) false true
        test = let less : at.offset + group_size g < 2 ^ 32 = s.short in holds_is region at has.start has.open_end (omega (arith, less))

        take : holds region at ≡ true → (us : List LogRecord) → AreRead (g ∷ groups_behind (place_number at + group_size g) gs) us →
            After (line ++ added (first.next + length line) (map numbered us)) z
        take here [] read = absurd read
        take here (r ∷ us) read =
            let same : s.spelled ≡ r = let e : Some s.spelled ≡ Some r = sym s.read ∙ read.1 in cc in
            let there : StandsAt (texts extent) at.offset (joined (spelling r)) =
            subst (λ x. StandsAt (texts extent) at.offset (joined x)) read.0 (stands_first (texts extent) at.offset (joined g) (text gs) stands) in
            let takes : region_takes keys at extent r layer region ≡ Some s.after = subst (λ x. region_takes keys at extent x layer region ≡ Some s.after) same s.takes in
            let h : Has (line ++ more_of line r) s.after.0 s.after.1 = record_taken extent at line region layer r s.after has here there takes in
            let d : List Transaction = more_of line r in
            let number : first.next + length (line ++ d) ≡ (first.next + length line) + length d = omega (arith, length-append line d) in
            subst (λ l. After l z)
            (append_assoc line d (added (first.next + length (line ++ d)) (map numbered us)) ∙ ap (λ n. line ++ (d ++ added n (map numbered us))) number)
            (more us (line ++ d) s.after.0 s.after.1 z (subst (λ n. AreRead (groups_behind n gs) us) place read.2) stand h s.rest)

        by : (b : Bool) → nat_lt (place_number at) (place_number first.start) ≡ b →
            AreRead (groups_shown (cond b (all_behind (place_number first.start) (placed_from (place_number at + group_size g) gs))
            (record { from = place_number at; to = place_number at + group_size g; group = g } ∷ all_behind (place_number first.start) (placed_from (place_number at + group_size g) gs)))) rs →
            After (line ++ added (first.next + length line) (map numbered rs)) z
        by true e read =
            more rs line s.after.0 s.after.1 z (subst (λ n. AreRead (groups_behind n gs) rs) place read) stand
            (record_passed extent at line region layer s.spelled s.after has (test ∙ ap (λ (b : Bool). cond b false true) e) s.takes) s.rest
        by false e read = take (test ∙ ap (λ (b : Bool). cond b false true) e) rs read

    pub extent_replayed : (extent : ℕ) (at : Position) (gs : List Group) → Goes extent at gs
    extent_replayed extent at [] [] line region layer z read stands has is =
        let same : (region ∷ [], layer) ≡ z = cc in
        let all : line ≡ line ++ [] = sym (append-nil line) in
        subst (λ w. After (line ++ []) w) same (record { region = region; only = refl; has = subst (λ l. Has l region layer) all has })
    extent_replayed extent at [] (r ∷ rs) line region layer z read stands has is = absurd read
    extent_replayed extent at (g ∷ gs) rs line region layer z read stands has is =
        next_group extent at g gs (extent_replayed extent (record at { offset = at.offset + group_size g }) gs) rs line region layer z read stands has is
