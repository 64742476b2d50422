-- What a load has made of all extents that it read of a log for a region without end: the groups that stand before the region's start
-- are passed over, the next number is the one after the line that the others make, and the layer is that of the line.
use Rattle.std.proofs.Common.{◌≡◌, ℕ, ◌+◌, ◌-◌, ◌^◌, ◌<◌, List, [], ◌∷◌, ◌++◌, length, map, drop, Option, Some, None, is_some, refl, sym, ap, ◌∙◌, subst, arith, append_assoc}
use Rattle.std.specs.Prelude.{if◌then◌else◌}
use Rattle.std.proofs.lemmas.List.{length-append}
use Rattle.block_types.specs.Limits.{group_size}
use Rattle.streams.specs.declared.table.Position.{Position}
use Rattle.memtable.specs.Entries.{Entries}
use Rattle.metadata.specs.declared.record.KeyRange.{KeyRange}
use Rattle.metadata.specs.declared.record.Region.{Region}
use Rattle.commitlog.specs.declared.log_record.LogRecord.{LogRecord}
use Rattle.commitlog.specs.Replay.{Numbered}
use Rattle.model_partition.specs.Loading.{Group, open_region, replayed}
use Rattle.model_partition.specs.Past.{Bytes, Transaction}
use Rattle.model_histories.specs.Renaming.{renamed_placed, numbered, numbered_if, decoded}
use Rattle.model_histories.specs.Story.{Placed}
use Rattle.model_histories.specs.StreamActions.{ExtentRead, PlacedBytes}
use Rattle.model_histories.specs.StreamMachine.{base}
use Rattle.model_histories.specs.ServerRun.{place_number, placed_from, placed_reads, bytes_read}
use Rattle.model_histories.specs.ServedTables.{AllStand}
use Rattle.laws_loads.proofs.Renaming.{mapped_both}
use Rattle.laws_server_runs.specs.RangeInvariant.{groups_read, replayed_all}
use Rattle.laws_tables.specs.Runs.{added}
use Rattle.laws_server_runs.proofs.Behind.{groups_shown, all_behind, behind_both}
use Rattle.laws_server_runs.proofs.Replaying.{AreRead, After, found_both, extent_replayed}

-- ---- what was read, as a load shows it

placed_groups : (at : ℕ) (groups : List Group) → groups_shown (placed_from at groups) ≡ groups
placed_groups at [] = refl
placed_groups at (g ∷ groups) = ap (λ (l : List Group). g ∷ l) (placed_groups (at + group_size g) groups)

pub reads_groups : (reads : List ExtentRead) → groups_shown (placed_reads reads) ≡ groups_read reads
reads_groups [] = refl
reads_groups (x ∷ older) =
    mapped_both (λ (p : Placed Group). p.group) (placed_reads older) (placed_from (base x.index) x.groups)
    ∙ (λ i. reads_groups older i ++ placed_groups (base x.index) x.groups i)

-- what these groups add to a line whose next number is this one
abbrev pub line_read : ℕ → List Group → List Transaction
line_read next groups = added next (map decoded groups)

-- what they spell
pub groups_renamed : {B : Type 0} (f : Group → B) (shown : List (Placed Group)) → map (λ (p : Placed B). p.group) (map (renamed_placed f) shown) ≡ map f (groups_shown shown)
groups_renamed {B} f [] = refl
groups_renamed {B} f (p ∷ shown) = ap (λ l. f p.group ∷ l) (groups_renamed f shown)

-- ---- parts

parts_read : (xs ys : List Group) (rs : List LogRecord) → AreRead (xs ++ ys) rs → (us : List LogRecord) × (vs : List LogRecord) × AreRead xs us × AreRead ys vs
parts_read [] ys rs read = ([], rs, tt, read)
parts_read (x ∷ xs) ys [] read = absurd read
parts_read (x ∷ xs) ys (r ∷ rs) read = let p = parts_read xs ys rs read.2 in (r ∷ p.0, p.1, (read.0, read.1, p.2), p.3)

pub first_stand : (texts : ℕ → Bytes) (xs ys : List PlacedBytes) → AllStand texts (xs ++ ys) → AllStand texts xs
first_stand texts [] ys s = tt
first_stand texts (x ∷ xs) ys s = (s.0, first_stand texts xs ys s.1)

all_decoded : (gs : List Group) (rs : List LogRecord) → AreRead gs rs → map decoded gs ≡ map numbered rs
all_decoded [] [] read = refl
all_decoded [] (r ∷ rs) read = absurd read
all_decoded (g ∷ gs) [] read = absurd read
all_decoded (g ∷ gs) (r ∷ rs) read =
    ap (λ d. d ∷ map decoded gs) (ap numbered_if read.1) ∙ ap (λ l. numbered r ∷ l) (all_decoded gs rs read.2)

added_both : (next : ℕ) (xs ys : List (Numbered Transaction)) → added next (xs ++ ys) ≡ added next xs ++ added (next + length (added next xs)) ys
added_both next [] ys = ap (λ n. added n ys) (let same : next ≡ next + 0 = omega arith in same)
added_both next (x ∷ xs) ys =
    let d : List Transaction = drop (next - x.first) x.items in
    let older : List Transaction = added (next + length d) xs in
    let number : (next + length d) + length older ≡ next + length (d ++ older) = omega (arith, length-append d older) in
    ap (λ l. d ++ l) (added_both (next + length d) xs ys ∙ ap (λ n. older ++ added n ys) number)
    ∙ sym (append_assoc d older (added (next + length (d ++ older)) ys))

line_more : (next : ℕ) (xs ys : List Group) (rs : List LogRecord) → AreRead ys rs →
    line_read next xs ++ added (next + length (line_read next xs)) (map numbered rs) ≡ line_read next (xs ++ ys)
line_more next xs ys rs read =
    ap (λ l. line_read next xs ++ added (next + length (line_read next xs)) l) (sym (all_decoded ys rs read))
    ∙ sym (added_both next (map decoded xs) (map decoded ys))
    ∙ ap (added next) (sym (mapped_both decoded xs ys))

-- ---- the layer

-- the only region is without end
pub the_region : (region : Region) → region.end ≡ None → open_region (region ∷ []) ≡ Some region
the_region region none = go region.end none
  where
    go : (o : Option ℕ) → o ≡ None → (if is_some o then None else Some region) ≡ Some region
    go None e = refl
    go (Some end) e = absurd cc

module _ (texts : ℕ → Bytes) (keys : KeyRange) (first : Region) (open_end : first.end ≡ None) (short : first.start.offset < 2 ^ 32) where
  -- those of the groups read that do not stand before the first region's start
  abbrev pub groups_taken : List ExtentRead → List Group
  groups_taken reads = groups_shown (all_behind (place_number first.start) (placed_reads reads))

  -- those of one extent more, which is read from its first position on
  abbrev extent_start : ExtentRead → Position
  extent_start x = record { index = x.index; offset = 0 }

  abbrev more_taken : ExtentRead → List Group
  more_taken x = groups_shown (all_behind (place_number first.start) (placed_from (place_number (extent_start x)) x.groups))

  taken_both : (x : ExtentRead) (older : List ExtentRead) → groups_taken (x ∷ older) ≡ groups_taken older ++ more_taken x
  taken_both x older =
      let start : ℕ = place_number first.start in
      let place : base x.index ≡ place_number (extent_start x) = omega arith in
      ap groups_shown (behind_both start (placed_reads older) (placed_from (base x.index) x.groups))
      ∙ mapped_both (λ (p : Placed Group). p.group) (all_behind start (placed_reads older)) (all_behind start (placed_from (base x.index) x.groups))
      ∙ ap (λ n. groups_taken older ++ groups_shown (all_behind start (placed_from n x.groups))) place

  -- the line that all of them make
  abbrev line_of : List ExtentRead → List Transaction
  line_of reads = line_read first.next (groups_taken reads)

  Leaves : List ExtentRead → Type 0
  Leaves reads =
      (rs : List LogRecord) → AreRead (groups_taken reads) rs → AllStand texts (bytes_read reads) →
      (z : List Region × Entries) → replayed_all keys reads (first ∷ [], []) ≡ Some z → After texts keys first (line_of reads) z

  next_extent : (x : ExtentRead) (older : List ExtentRead) → Leaves older → Leaves (x ∷ older)
  unfolding Leaves
  next_extent x older leaves rs read stand z is =
      let p = parts_read (groups_taken older) (more_taken x) rs (subst (λ l. AreRead l rs) (taken_both x older) read) in
      let f = found_both (replayed_all keys older (first ∷ [], [])) (λ (y : List Region × Entries). replayed keys x.extent (extent_start x) y x.groups) z is in
      let a : After texts keys first (line_of older) f.0 = leaves p.0 p.2 stand.1 f.0 f.1 in
      let one : replayed keys x.extent (extent_start x) (a.region ∷ [], f.0.1) x.groups ≡ Some z =
      subst (λ (l : List Region). replayed keys x.extent (extent_start x) (l, f.0.1) x.groups ≡ Some z) a.only f.2 in
      let more : line_of older ++ added (first.next + length (line_of older)) (map numbered p.1) ≡ line_of (x ∷ older) =
      line_more first.next (groups_taken older) (more_taken x) p.1 p.3 ∙ ap (line_read first.next) (sym (taken_both x older)) in
      subst (λ l. After texts keys first l z) more
      (extent_replayed texts keys first short x.extent (extent_start x) x.groups p.1 (line_of older) a.region f.0.1 z p.3 stand.0 a.has one)

  -- what all extents leave
  pub extents_replayed : (reads : List ExtentRead) (rs : List LogRecord) → AreRead (groups_taken reads) rs → AllStand texts (bytes_read reads) →
      (z : List Region × Entries) → replayed_all keys reads (first ∷ [], []) ≡ Some z → After texts keys first (line_read first.next (groups_taken reads)) z
  unfolding Leaves
  extents_replayed [] rs read stand z is =
      let same : (first ∷ [], []) ≡ z = cc in
      subst (λ w. After texts keys first [] w) same
      (record {
        region = first;
        only = refl;
        has = record { start = refl; open_end = open_end; own_keys = refl; next = omega arith; says = λ key in_keys in_own. refl };
      })
  extents_replayed (x ∷ older) rs read stand z is = next_extent x older (extents_replayed older) rs read stand z is
