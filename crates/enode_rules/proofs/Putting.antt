-- Where a group that is put ends.
use Rattle.std.proofs.Common.{◌≡◌, ℕ, ◌+◌, List, [], ◌∷◌, ◌++◌, arith}
use Rattle.block_types.specs.Limits.{group_size}
use Rattle.replica.specs.Groups.{Group, text_length}
use Rattle.replica.proofs.Lengths.{group_size-size, text_length-push}

pub end_of : (gs : List Group) (g : Group) (offset size : ℕ) → offset ≡ text_length gs → size ≡ group_size g → offset + size ≡ text_length (gs ++ g ∷ [])
end_of gs g offset size at is = omega (arith, at, is, group_size-size g, text_length-push gs g)
