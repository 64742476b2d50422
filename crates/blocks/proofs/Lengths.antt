-- The room that a record takes in each version.
use Rattle.std.proofs.Common.{◌≡◌, ◌≤◌, ◌<◌, ◌+◌, ◌*◌, ℕ, false, List, [], ◌∷◌, ◌++◌, length, drop, get_or, ap, sym, subst, ◌∙◌, arith, length-append}
use Rattle.std.specs.List.{AllByRecursion, flat_map}
use Rattle.std.proofs.lemmas.List.{drop_more, drop_all}
use Rattle.std.proofs.lemmas.List.Concat.{flat_map-cons}
use Rattle.std.proofs.lemmas.List.Sums.{sum_by-cons}
use Rattle.std.proofs.lemmas.Bool.Decides.{nat_tests}
use Rattle.block_types.specs.Limits.{IsBlock, IsGroup, group_size, groups_size}
use Rattle.block_types.specs.declared.record.Record.{Record}
use Rattle.block_types.specs.declared.record.Record.TheVariants.{Make, Append, Fence, Freeze, Seal, Fill, Manage}
use Rattle.block_types.specs.declared.record.Version.{Version}
use Rattle.blocks.specs.Record.{number, check, block, group, Fits}
use Rattle.blocks.specs.Sizes.{is_long_fill}
use Rattle.blocks.proofs.Formats.{length-number}
use Rattle.blocks.proofs.Laws.{length-check}

-- the size of a block and its check take 36 bytes beside its own
length-block : (v : Version) (b : List ℕ) → IsBlock b → length (block v b) ≤ 37 * length b
length-block v b is = omega (arith, is.0, length-append (number 4 (length b)) (b ++ check v b), length-append b (check v b), length-number 4 (length b), length-check v b)

length-blocks : (v : Version) (g : List (List ℕ)) → AllByRecursion IsBlock g → length (flat_map (block v) g) ≤ 37 * group_size g
length-blocks v [] all = omega arith
length-blocks v (b ∷ g) all = omega (arith, ap length (flat_map-cons (block v) b g), length-append (block v b) (flat_map (block v) g), length-block v b all.0, length-blocks v g all.1, sum_by-cons length b g)

size-some : (g : List (List ℕ)) → IsGroup g → 1 ≤ group_size g
size-some [] is = absurd (omega (arith, is.0))
size-some (b ∷ g) is = omega (arith, is.2.0.0, sum_by-cons length b g)

length-group : (v : Version) (g : List (List ℕ)) → IsGroup g → length (group v g) ≤ 38 * group_size g
length-group v g is = omega (arith, size-some g is, length-append (number 1 (length g)) (flat_map (block v) g), length-number 1 (length g), length-blocks v g is.2)

length-groups : (v : Version) (gs : List (List (List ℕ))) → AllByRecursion IsGroup gs → length (flat_map (group v) gs) ≤ 38 * groups_size gs
length-groups v [] all = omega arith
length-groups v (g ∷ gs) all = omega (arith, ap length (flat_map-cons (group v) g gs), length-append (group v g) (flat_map (group v) gs), length-group v g all.0, length-groups v gs all.1, sum_by-cons group_size g gs)

-- a record that fits one version fits another, unless its groups are too long
pub fits_each : (u v : Version) (r : Record) → Fits u r → is_long_fill r ≡ false → Fits v r
fits_each u v (Make e f t n) fits short = fits
fits_each u v (Append e o g) fits short = fits
fits_each u v (Fence e g) fits short = fits
fits_each u v (Freeze e) fits short = fits
fits_each u v (Seal e l) fits short = fits
fits_each u v (Fill e f l gs) fits short =
    let it = fits.0 in
    let each : AllByRecursion IsGroup gs = it.5 in
    let sum : f + groups_size gs ≡ l = it.6 in
    let low : groups_size gs ≤ 20971519 = grind (arith, nat_tests, sum, short) in (
      it,
      omega (arith, low, length-groups v gs each, length-append (number 4 (length gs)) (flat_map (group v) gs), length-number 4 (length gs)),
    )
fits_each u v (Manage t) fits short = fits

-- one record of a list after another
module _ (rs : List Record) (i : ℕ) (r : Record) (is : r ≡ get_or rs i r) (below : i < length rs) where
  next : drop i rs ≡ r ∷ drop (i + 1) rs
  next = drop_more rs i r below ∙ ap (λ (s : Record). s ∷ drop (i + 1) rs) (sym is)

  pub next_left : (v : Version) → AllByRecursion (Fits v) (drop i rs) → Fits v r × AllByRecursion (Fits v) (drop (i + 1) rs)
  next_left v fit = subst (AllByRecursion (Fits v)) next fit

  pub next_done : (v : Version) → Fits v r → (AllByRecursion (Fits v) (drop i rs) → AllByRecursion (Fits v) rs) → AllByRecursion (Fits v) (drop (i + 1) rs) → AllByRecursion (Fits v) rs
  next_done v fits done rest = done (subst (AllByRecursion (Fits v)) (sym next) (fits, rest))

pub all_done : (rs : List Record) (i : ℕ) (v : Version) → length rs ≤ i → (AllByRecursion (Fits v) (drop i rs) → AllByRecursion (Fits v) rs) → AllByRecursion (Fits v) rs
all_done rs i v most done = done (subst (AllByRecursion (Fits v)) (sym (drop_all i rs most)) tt)
