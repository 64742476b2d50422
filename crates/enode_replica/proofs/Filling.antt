-- The room that the record of a tail takes.
use Rattle.std.proofs.Common.{◌≡◌, ◌≤◌, ◌<◌, ◌+◌, ◌*◌, ◌^◌, ℕ, List, [], ◌∷◌, ◌++◌, length, ap, ◌∙◌, arith, length-append}
use Rattle.std.specs.List.{AllByRecursion, flat_map, fold}
use Rattle.std.proofs.lemmas.List.Concat.{flat_map-cons}
use Rattle.block_types.specs.Limits.{IsBlock, IsGroup, group_size, groups_size}
use Rattle.blocks.specs.Record.{number, check, block, group, Fits}
use Rattle.block_types.specs.declared.record.Version.{Version}
use Rattle.block_types.specs.declared.record.Record.TheVariants as records
use Rattle.blocks.proofs.Formats.{length-number}
use Rattle.blocks.proofs.Laws.{length-check}
use Rattle.replica.specs.Groups.{Group, joined, size, text, text_length}
use Rattle.replica.proofs.Lengths.{group_size-size}
use Rattle.enode_replica.specs.Fill.{IsFill}

fold_groups : (k : ℕ) (gs : List Group) → fold (λ a g. a + group_size g) k gs ≡ k + text_length gs
fold_groups k [] = omega arith
fold_groups k (g ∷ gs) = omega (arith, fold_groups (k + group_size g) gs, group_size-size g, length-append (joined g) (text gs))

-- the bytes of groups, counted in two ways
groups_size-text : (gs : List Group) → groups_size gs ≡ text_length gs
groups_size-text gs = fold_groups 0 gs ∙ zero_more (text_length gs)
  where
    zero_more : (n : ℕ) → 0 + n ≡ n
    zero_more n = omega arith

-- the size of a block and its check take 36 bytes beside its own
length-block : (v : Version) (b : List ℕ) → IsBlock b → length (block v b) ≤ 37 * length b
length-block v b is = omega (arith, is.0, length-append (number 4 (length b)) (b ++ check v b), length-append b (check v b), length-number 4 (length b), length-check v b)

length-blocks : (v : Version) (g : Group) → AllByRecursion IsBlock g → length (flat_map (block v) g) ≤ 37 * size g
length-blocks v [] all = omega arith
length-blocks v (b ∷ g) all = omega (arith, ap length (flat_map-cons (block v) b g), length-append (block v b) (flat_map (block v) g), length-block v b all.0, length-blocks v g all.1, length-append b (joined g))

pub size-some : (g : Group) → IsGroup g → 1 ≤ size g
size-some [] is = absurd (omega (arith, is.0))
size-some (b ∷ g) is = omega (arith, is.2.0.0, length-append b (joined g))

length-group : (v : Version) (g : Group) → IsGroup g → length (group v g) ≤ 38 * size g
length-group v g is = omega (arith, size-some g is, length-append (number 1 (length g)) (flat_map (block v) g), length-number 1 (length g), length-blocks v g is.2)

length-groups : (v : Version) (gs : List Group) → AllByRecursion IsGroup gs → (length (flat_map (group v) gs) ≤ 38 * text_length gs) × (length gs ≤ text_length gs)
length-groups v [] all = (omega arith, omega arith)
length-groups v (g ∷ gs) all =
    let more = length-groups v gs all.1 in
    let both = length-append (joined g) (text gs) in (
      omega (arith, ap length (flat_map-cons (group v) g gs), length-append (group v g) (flat_map (group v) gs), length-group v g all.0, more.0, both),
      omega (arith, size-some g all.0, more.1, both),
    )

pub fill_fits : (v : Version) (e from upto : ℕ) (gs : List Group) → e < 2 ^ 64 → from < 2 ^ 32 → upto < 2 ^ 32 → IsFill from upto gs → Fits v (records.Fill e from upto gs)
fill_fits v e from upto gs numbered low high fill =
    let sizes = length-groups v gs fill.each in (
      (numbered, low, high, fill.some, omega (arith, sizes.1, fill.sum, fill.bound), fill.each, omega (arith, fill.sum, groups_size-text gs)),
      omega (arith, sizes.0, fill.sum, fill.bound, length-append (number 4 (length gs)) (flat_map (group v) gs), length-number 4 (length gs)),
    )
