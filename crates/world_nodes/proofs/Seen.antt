-- What is seen of a node.
use Rattle.std.proofs.Common.{◌≡◌, ℕ, Bool, true, false, cond, if◌then◌else◌, List, [], ◌∷◌, Some, length, refl, sym, ap, ◌∙◌}
use Rattle.std.specs.FinMap.{get, entries, from_entries, same_map, get-entries, get-from_entries, len-empty, len-entries, nat_cmp-IsAntisymmetric}
use Rattle.std.specs.FinMap as maps
use Rattle.std.specs.Cmp.{nat_cmp_total}
use Rattle.std.specs.Ordering.{nat_cmp, eq_by_cmp}
use Rattle.disk.specs.declared.memory.MemDisk.{MemDisk}
use Rattle.replica.specs.Replay.{replay}
use Rattle.model_streams.specs.Node.{Replica}
use Rattle.enode.specs.Node.{NodeState, find, fresh_of}
use Rattle.world_nodes.specs.Seen.{sorted, seen_of, shown}

found : (es : List (ℕ × Replica)) (e : ℕ) → find es e ≡ maps.find nat_cmp e es
found [] e = refl
found (x ∷ es) e = ap (cond (eq_by_cmp nat_cmp e x.0) (Some x.1)) (found es e)

got : (es : List (ℕ × Replica)) (e : ℕ) → get (from_entries {R = nat_cmp} es) e ≡ find es e
got es e = get-from_entries nat_cmp_total es e ∙ sym (found es e)

-- a look-up finds the same in the sorted entries
pub find-sorted : (es : List (ℕ × Replica)) (e : ℕ) → find (sorted es) e ≡ find es e
find-sorted es e = found (sorted es) e ∙ sym (get-entries (from_entries {R = nat_cmp} es) e) ∙ got es e

-- and entries in which look-ups find the same are sorted alike
pub sorted_same : (es fs : List (ℕ × Replica)) → ((e : ℕ) → find es e ≡ find fs e) → sorted es ≡ sorted fs
sorted_same es fs same = ap entries (same_map nat_cmp_total nat_cmp-IsAntisymmetric (from_entries es) (from_entries fs) (λ e. got es e ∙ same e ∙ sym (got fs e)))

of_length_0 : {A : Type 0} (xs : List A) → length xs ≡ 0 → xs ≡ []
of_length_0 [] none = refl
of_length_0 (x ∷ xs) none = absurd cc

-- no entries are sorted as none
pub sorted_none : sorted [] ≡ []
sorted_none = of_length_0 (sorted []) (sym (len-entries (from_entries {R = nat_cmp} [])) ∙ len-empty nat_cmp Replica)

pub shown_up : (x : NodeState MemDisk) → x.file.stopped ≡ false → (e : ℕ) → shown (seen_of x) e ≡ find x.replicas e
shown_up x up e = ap (λ (b : Bool). if b then fresh_of (replay e x.file.records) else find (sorted x.replicas) e) up ∙ find-sorted x.replicas e

pub shown_down : (x : NodeState MemDisk) → x.file.stopped ≡ true → (e : ℕ) → shown (seen_of x) e ≡ fresh_of (replay e x.file.records)
shown_down x down e = ap (λ (b : Bool). if b then fresh_of (replay e x.file.records) else find (sorted x.replicas) e) down
