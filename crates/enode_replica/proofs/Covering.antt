-- How many of the waiting appends end within a length, from the oldest on.
use Rattle.std.proofs.Common.{◌≡◌, ℕ, zero, suc, ◌≤◌, ◌<◌, List, [], ◌∷◌, drop, length, get_or, arith}
use Rattle.std.proofs.lemmas.Bool.Decides.{nat_tests}
use Rattle.model_streams.specs.declared.waiting_append.WaitingAppend.{WaitingAppend}
use Rattle.model_streams.specs.Node.{covered}
use Rattle.enode_replica.specs.Ends.{ends_of}

-- from an append on that ends above it, none
pub none_covered : (upto i : ℕ) (ws : List WaitingAppend) → i < length ws → upto < get_or (ends_of ws) i 0 → covered upto (drop i ws) ≡ 0
none_covered upto zero [] inside above = absurd (omega arith)
none_covered upto zero (w ∷ ws) inside above = grind (arith, nat_tests)
none_covered upto (suc i) [] inside above = absurd (omega arith)
none_covered upto (suc i) (w ∷ ws) inside above = none_covered upto i ws (omega arith) above

-- from an append on that ends within it, that one and those after it
pub one_covered : (upto i : ℕ) (ws : List WaitingAppend) → i < length ws → get_or (ends_of ws) i 0 ≤ upto → covered upto (drop i ws) ≡ suc (covered upto (drop (suc i) ws))
one_covered upto zero [] inside within = absurd (omega arith)
one_covered upto zero (w ∷ ws) inside within = grind (arith, nat_tests)
one_covered upto (suc i) [] inside within = absurd (omega arith)
one_covered upto (suc i) (w ∷ ws) inside within = one_covered upto i ws (omega arith) within
