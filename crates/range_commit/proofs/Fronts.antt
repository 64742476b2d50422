-- The front of a queue, which is out, and what is after it.
use Rattle.std.proofs.Common.{◌≡◌, ℕ, zero, suc, ◌+◌, ◌-◌, ◌*◌, ◌^◌, ◌<◌, ◌≤◌, ◌==◌, true, false, List, [], ◌∷◌, ◌++◌, length, map, take, drop, Option, Some, None, IfSome, refl, sym, ap, subst, ◌∙◌, arith, append_assoc, length-append}
use Rattle.std.specs.Prelude.{is_some, if◌then◌else◌}
use Rattle.std.specs.Option.{SomeIff}
use Rattle.std.specs.List.{flat_map, AllByRecursion}
use Rattle.std.proofs.lemmas.Bool.{eqb-true}
use Rattle.std.proofs.lemmas.List.{length-take-le, take-append-drop, take_at, drop_at}
use Rattle.std.proofs.lemmas.List.Sums.{sum_by-cons}
use Rattle.block_types.specs.Limits.{IsBlock, group_size}
use Rattle.memtable.specs.declared.cell.Cell.{Cell}
use Rattle.commitlog.specs.Record.{transaction_values, spelling, IsTransaction, Fits}
use Rattle.commitlog.specs.Places.{kept_transactions}
use Rattle.commitlog.specs.Sizes.{text_size}
use Rattle.commitlog.proofs.Measures.{length-text, size-spelling}
use Rattle.model_partition.specs.declared.waiting.WaitingTransaction.{WaitingTransaction}
use Rattle.commitlog.proofs.Laws.{is_group}
use Rattle.model_partition.specs.declared.server_context.ServerContext.{ServerContext}
use Rattle.model_partition.specs.Range.{OutGroup}
use Rattle.model_partition.specs.Serving.{record_of, committed}
use Rattle.range_commit.specs.Queue.{out_of, queue_of, size_out, changes_out, AreTransactions, HasRecord, IsNextGroup}

pub All-take : {A : Type 0} (P : A → Type 0) (n : ℕ) (xs : List A) → AllByRecursion P xs → AllByRecursion P (take n xs)
All-take P zero xs all = tt
All-take P (suc n) [] all = tt
All-take P (suc n) (x ∷ xs) all = (all.0, All-take P n xs all.1)

pub All-changes : (all : List WaitingTransaction) → AreTransactions all → AllByRecursion IsTransaction (map (λ t. t.changes) all)
All-changes [] fit = tt
All-changes (t ∷ all) fit = (fit.0, All-changes all fit.1)

pub length-changes : (all : List WaitingTransaction) → length (map (λ t. t.changes) all) ≡ length all
length-changes [] = refl
length-changes (t ∷ all) = ap suc (length-changes all)

-- a group that fits is a record
pub is_record : (next : ℕ) (all : List WaitingTransaction) (n : ℕ) → AreTransactions all → length all ≤ 1024 → 0 < next → 0 < n → n ≤ length all → next + n < 2 ^ 64
    → length (spelling (record_of next (take n all))) ≤ 64 → Fits (record_of next (take n all))
is_record next all n fit most positive some le numbered small =
    let size : length (map (λ t. t.changes) (take n all)) ≡ n = length-changes (take n all) ∙ length-take-le n all le in
    record {
      numbered = (omega (arith, positive), omega (arith, size, numbered));
      count = (omega (arith, size, some), omega (arith, size, le, most));
      transactions = All-changes (take n all) (All-take (λ t. IsTransaction t.changes) n all fit);
      blocks = small;
    }

-- ---- sizes

group_bound : (g : List (List ℕ)) → AllByRecursion IsBlock g → group_size g ≤ 65536 * length g
group_bound [] fit = omega arith
group_bound (b ∷ g) fit = omega (arith, sum_by-cons length b g, fit.0.1, group_bound g fit.1)

pub size_bound : (out : Option OutGroup) (size : ℕ) → IfSome out HasRecord → size ≡ size_out out → size ≤ 4194304
size_bound None size fits is = omega (arith, is)
size_bound (Some out) size fits is =
    let group = is_group (record_of out.first out.transactions) fits in
    omega (arith, is, group_bound _ group.2, group.1)

pub length-committed : (d : ServerContext) (s : ℕ) (ts : List WaitingTransaction) → length (committed d s ts) ≡ length ts
length-committed d s [] = refl
length-committed d s (t ∷ ts) = ap suc (length-committed d (suc s) ts)

-- ---- what is out

not_zero : (n : ℕ) → (n ≡ 0 → ⊥) → (n == 0) ≡ false
not_zero n some =
    elim (n == 0) as (λ b. (n == 0) ≡ b → (n == 0) ≡ false) [
      | true ↦ λ is. absurd (some (eqb-true _ _ is))
      | false ↦ λ is. is
    ] refl

out_is : (all : List WaitingTransaction) (n next : ℕ) → (n ≡ 0 → ⊥) → out_of all n next ≡ Some (record { first = next - n; transactions = take n all })
out_is all n next some = rw (not_zero n some) refl

-- the bytes of its text, and of its large values
pub out_sized : (all : List WaitingTransaction) (n size next : ℕ) (group : List WaitingTransaction) → (n ≡ 0 → ⊥) → size ≡ size_out (out_of all n next) → group ≡ take n all
    → size ≡ text_size (map (λ t. t.changes) group) + group_size (flat_map transaction_values (map (λ t. t.changes) group))
out_sized all n size next group some is front =
    is ∙ ap size_out (out_is all n next some) ∙ size-spelling (record_of (next - n) (take n all))
    ∙ ap (λ (k : ℕ). k + group_size (flat_map transaction_values (map (λ (t : WaitingTransaction). t.changes) (take n all)))) (length-text (record_of (next - n) (take n all)))
    ∙ ap (λ (l : List WaitingTransaction). text_size (map (λ t. t.changes) l) + group_size (flat_map transaction_values (map (λ t. t.changes) l))) (sym front)

-- what rows keep of it
pub out_kept : (all : List WaitingTransaction) (n next extent offset : ℕ) (group : List WaitingTransaction) (cells : List (List ℕ × Cell)) → (n ≡ 0 → ⊥) → group ≡ take n all
    → cells ≡ flat_map (λ t. t) (kept_transactions extent (offset + text_size (map (λ t. t.changes) group)) (map (λ t. t.changes) group)) → cells ≡ changes_out (out_of all n next) extent offset
out_kept all n next extent offset group cells some front is =
    is ∙ ap (λ (l : List WaitingTransaction). flat_map (λ t. t) (kept_transactions extent (offset + text_size (map (λ t. t.changes) l)) (map (λ t. t.changes) l))) front
    ∙ ap (λ (k : ℕ). flat_map (λ t. t) (kept_transactions extent (offset + k) (map (λ (t : WaitingTransaction). t.changes) (take n all)))) (sym (length-text (record_of (next - n) (take n all))))
    ∙ sym (ap (λ (o : Option OutGroup). changes_out o extent offset) (out_is all n next some))

-- ---- the last one goes

rest_of : (all : List WaitingTransaction) (n : ℕ) (before : List WaitingTransaction) (last : WaitingTransaction) → drop n all ≡ before ++ last ∷ [] → all ≡ (take n all ++ before) ++ last ∷ []
rest_of all n before last is = sym (take-append-drop n all) ∙ ap (λ (l : List WaitingTransaction). take n all ++ l) is ∙ sym (append_assoc (take n all) before (last ∷ []))

cut_short : (all front : List WaitingTransaction) (last : WaitingTransaction) → all ≡ front ++ last ∷ [] → take (length all - 1) all ≡ front
cut_short all front last is =
    let size : length front ≡ length all - 1 = omega (arith, ap length is, length-append front (last ∷ [])) in
    ap (take (length all - 1)) is ∙ take_at front (last ∷ []) (length all - 1) size

pub taken_back : (all after : List WaitingTransaction) (n next : ℕ) (before : List WaitingTransaction) (last : WaitingTransaction) → n ≤ length all → after ≡ take (length all - 1) all → drop n all ≡ before ++ last ∷ []
    → queue_of after n next ≡ record { queue = before; out = out_of all n next; next = next }
taken_back all after n next before last le cut is =
    let front : List WaitingTransaction = take n all ++ before in
    let left : after ≡ take n all ++ before = cut ∙ cut_short all (take n all ++ before) last (rest_of all n before last is) in
    let size : length (take n all) ≡ n = length-take-le n all le in
    let queue : drop n after ≡ before = ap (drop n) left ∙ drop_at (take n all) before n size in
    let out : take n after ≡ take n all = ap (take n) left ∙ take_at (take n all) before n size in
    ap (λ (l : List WaitingTransaction). record { queue = l; out = out_of after n next; next = next }) queue
    ∙ ap (λ (l : List WaitingTransaction). record { queue = before; out = if n == 0 then None else Some (record { first = next - n; transactions = l }); next = next }) out

-- ---- what is planned

is_there : (o : Option ℕ) (P : Type 0) (v : ℕ) → SomeIff o P v → is_some o ≡ true → P
is_there None P v given is = cc
is_there (Some x) P v given is = given.0

pub plan_fits : (next : ℕ) (all : List WaitingTransaction) (n : ℕ) (o : Option ℕ) → AreTransactions all → length all ≤ 1024 → 0 < next → (n ≡ 0 → ⊥) → n ≤ length all
    → length (spelling (record_of next (take n all))) ≤ 64 → SomeIff o (next + n < 18446744073709551616) (next + n) → is_some o ≡ true → Fits (record_of next (take n all))
plan_fits next all n o fit most positive some le small given there =
    let numbered : next + n < 18446744073709551616 = is_there o (next + n < 18446744073709551616) (next + n) given there in
    is_record next all n fit most positive (omega (arith, some)) le (omega (arith, numbered)) small

pub is_next : (next : ℕ) (all : List WaitingTransaction) (n count size : ℕ) (group : List WaitingTransaction) → group ≡ take n all → count ≡ length group → size ≡ group_size (spelling (record_of next group)) → (n ≡ 0 → ⊥)
    → n ≤ length all → Fits (record_of next (take n all)) → IsNextGroup next all count size
is_next next all n count size group group_is count_is size_is some le fits =
    let same : count ≡ n = count_is ∙ ap length group_is ∙ length-take-le n all le in
    let made : IsNextGroup next all n size = record {
      some = omega (arith, some);
      waiting = le;
      fits = fits;
      sized = size_is ∙ ap (λ (g : List WaitingTransaction). group_size (spelling (record_of next g))) group_is;
    } in
    subst (λ (k : ℕ). IsNextGroup next all k size) (sym same) made
