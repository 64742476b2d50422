-- How many a group has.
use Rattle.std.proofs.Common.{◌≡◌, ◌∙◌, ℕ, suc, ◌+◌, ◌<◌, ◌≤◌, ◌^◌, true, List, [], ◌∷◌, length, map, take, Option, Some, None, refl, ap, arith}
use Rattle.std.proofs.lemmas.Bool.{lt-ltb}
use Rattle.std.proofs.lemmas.List.{length-take-le}
use Rattle.model_partition.specs.declared.table_note.TableNote.{TableNote}
use Rattle.model_partition.specs.declared.waiting.WaitingTransaction.{WaitingTransaction}
use Rattle.model_partition.specs.Range.{OutGroup, waiting_out}
use Rattle.model_partition.specs.Serving.{began, dones}
use Rattle.range_commit.specs.Queue.{IsNextGroup, is_formed, dones_out}
use Rattle.range_commit.proofs.Fronts.{length-changes}

pub next_formed : (next : ℕ) (queue : List WaitingTransaction) (n size : ℕ) → IsNextGroup next queue n size → is_formed next n ≡ true
next_formed next queue n size is =
    let long : length (map (λ (t : WaitingTransaction). t.changes) (take n queue)) ≡ n = length-changes (take n queue) ∙ length-take-le n queue is.waiting in
    let below : next + length (map (λ (t : WaitingTransaction). t.changes) (take n queue)) < 2 ^ 64 = is.fits.numbered.1 in
    let fits : next + n < 2 ^ 64 = omega (arith, below, long) in
    rw (lt-ltb 0 n is.some, lt-ltb (next + n) (2 ^ 64) fits) refl

length-began : (range g s : ℕ) (ts : List WaitingTransaction) → length (began range g s ts) ≡ length ts
length-began range g s [] = refl
length-began range g s (t ∷ ts) = ap suc (length-began range g (suc s) ts)

length-dones : (range g s : ℕ) (ts : List WaitingTransaction) → length (dones range g s ts) ≡ length ts
length-dones range g s [] = refl
length-dones range g s (t ∷ ts) = ap suc (length-dones range g (suc s) ts)

pub few_notes : (range g next : ℕ) (queue : List WaitingTransaction) (n size others : ℕ) (notes : List TableNote) → notes ≡ began range g next (take n queue) → IsNextGroup next queue n size → others + length queue ≤ 1024 → length notes ≤ 1024
few_notes range g next queue n size others notes is group most =
    omega (arith, ap (λ (l : List TableNote). length l) is, length-began range g next (take n queue), length-take-le n queue group.waiting, group.waiting, most)

length-dones_out : (range g : ℕ) (out : Option OutGroup) → length (dones_out range g out) ≡ length (waiting_out out)
length-dones_out range g None = refl
length-dones_out range g (Some out) = length-dones range g out.first out.transactions

pub few_dones : (range g : ℕ) (out : Option OutGroup) (others : ℕ) (notes : List TableNote) → notes ≡ dones_out range g out → length (waiting_out out) + others ≤ 1024 → length notes ≤ 1024
few_dones range g out others notes is most = omega (arith, ap (λ (l : List TableNote). length l) is, length-dones_out range g out, most)
