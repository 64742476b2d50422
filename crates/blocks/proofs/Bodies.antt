-- How many bytes the body of a record has.
use Rattle.std.proofs.Common.{◌≡◌, ℕ, ◌+◌, ◌*◌, List, [], ◌∷◌, ◌++◌, ◌<◌, length, get_or, drop, refl, ap, ◌∙◌, sym, arith, length-append}
use Rattle.std.specs.List.{flat_map}
use Rattle.std.proofs.lemmas.List.{drop_more}
use Rattle.std.proofs.lemmas.List.Concat.{flat_map-cons}
use Rattle.std.proofs.lemmas.List.Sums.{sum_by-cons}
use Rattle.sha2.specs.Sha256.{sha256, final_hash, initial_hash_256}
use Rattle.block_types.specs.Limits.{group_size}
use Rattle.block_types.specs.declared.record.Record.{Record}
use Rattle.block_types.specs.declared.record.Record.TheVariants.{Make, Append, Fence, Freeze, Seal, Fill, Manage}
use Rattle.block_types.specs.declared.record.Version.{Version}
use Rattle.block_types.specs.declared.record.Version.TheVariants.{V1, V2}
use Rattle.blocks.specs.Record.{number, block, group, groups, nodes, body}
use Rattle.blocks.proofs.Formats.{length-number}
use Rattle.blocks.proofs.Laws.{length-digest_bytes}

length-sha : (b : List ℕ) → length (sha256 b) ≡ 32
unfolding sha256
length-sha b = length-digest_bytes (final_hash initial_hash_256 b) 8

blocks_1 : (g : List (List ℕ)) → length (flat_map (block V1) g) ≡ 4 * length g + group_size g
blocks_1 [] = refl
blocks_1 (b ∷ g) = omega (arith, ap length (flat_map-cons (block V1) b g), length-append (block V1 b) (flat_map (block V1) g), length-append (number 4 (length b)) (b ++ []), length-append b [], length-number 4 (length b), blocks_1 g, sum_by-cons length b g)

blocks_2 : (g : List (List ℕ)) → length (flat_map (block V2) g) ≡ 36 * length g + group_size g
blocks_2 [] = refl
blocks_2 (b ∷ g) = omega (arith, ap length (flat_map-cons (block V2) b g), length-append (block V2 b) (flat_map (block V2) g), length-append (number 4 (length b)) (b ++ sha256 b), length-append b (sha256 b), length-sha b, length-number 4 (length b), blocks_2 g, sum_by-cons length b g)

pub group_1 : (g : List (List ℕ)) → length (group V1 g) ≡ 1 + 4 * length g + group_size g
group_1 g = omega (arith, length-append (number 1 (length g)) (flat_map (block V1) g), length-number 1 (length g), blocks_1 g)

pub group_2 : (g : List (List ℕ)) → length (group V2 g) ≡ 1 + 36 * length g + group_size g
group_2 g = omega (arith, length-append (number 1 (length g)) (flat_map (block V2) g), length-number 1 (length g), blocks_2 g)

pub groups_length : (v : Version) (gs : List (List (List ℕ))) → length (groups v gs) ≡ 4 + length (flat_map (group v) gs)
groups_length v gs = omega (arith, length-append (number 4 (length gs)) (flat_map (group v) gs), length-number 4 (length gs))

-- the bytes of a body beside those of its groups, or of its text
abbrev pub span : Version → Record → ℕ
span v (Make e f t n) = 24
span v (Append e o g) = 13 + length (group v g)
span v (Fence e g) = 17
span v (Freeze e) = 9
span v (Seal e l) = 13
span v (Fill e f l gs) = 17 + length (groups v gs)
span v (Manage t) = 1 + length t

pub body_length : (v : Version) (r : Record) → length (body v r) ≡ span v r
body_length v (Make e f t n) = omega (arith, length-append (number 8 e) (number 8 f ++ (number 4 t ++ nodes n)), length-append (number 8 f) (number 4 t ++ nodes n), length-append (number 4 t) (nodes n), length-number 8 e, length-number 8 f, length-number 4 t)
body_length v (Append e o g) = omega (arith, length-append (number 8 e) (number 4 o ++ group v g), length-append (number 4 o) (group v g), length-number 8 e, length-number 4 o)
body_length v (Fence e g) = omega (arith, length-append (number 8 e) (number 8 g), length-number 8 e, length-number 8 g)
body_length v (Freeze e) = omega (arith, length-number 8 e)
body_length v (Seal e l) = omega (arith, length-append (number 8 e) (number 4 l), length-number 8 e, length-number 4 l)
body_length v (Fill e f l gs) = omega (arith, length-append (number 8 e) (number 4 f ++ (number 4 l ++ groups v gs)), length-append (number 4 f) (number 4 l ++ groups v gs), length-append (number 4 l) (groups v gs), length-number 8 e, length-number 4 f, length-number 4 l)
body_length v (Manage t) = omega arith

-- the groups up to one, and that one
pub next_groups : (v : Version) (gs : List (List (List ℕ))) (i : ℕ) (g : List (List ℕ)) → g ≡ get_or gs i g → i < length gs → length (flat_map (group v) (drop i gs)) ≡ length (group v g) + length (flat_map (group v) (drop (i + 1) gs))
next_groups v gs i g is below =
    let next : drop i gs ≡ g ∷ drop (i + 1) gs = drop_more gs i g below ∙ ap (λ (x : List (List ℕ)). x ∷ drop (i + 1) gs) (sym is) in
    ap (λ (l : List (List (List ℕ))). length (flat_map (group v) l)) next ∙ ap length (flat_map-cons (group v) g (drop (i + 1) gs)) ∙ length-append (group v g) (flat_map (group v) (drop (i + 1) gs))
