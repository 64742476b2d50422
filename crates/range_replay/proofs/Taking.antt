-- What a region takes of a record.
use Rattle.std.proofs.Common.{slice_index_or, ◌≡◌, ℕ, zero, suc, ◌+◌, ◌-◌, ◌^◌, ◌≤◌, Bool, true, false, List, [], ◌∷◌, ◌++◌, length, drop, Option, Some, None, refl, sym, ap, subst, ◌∙◌, arith}
use Rattle.std.specs.Prelude.{min, nat_lt, filter, is_some, if◌then◌else◌}
use Rattle.std.specs.List.{flat_map, AllByRecursion}
use Rattle.std.proofs.lemmas.Bool.{ltb-true}
use Rattle.std.proofs.lemmas.List.{length-drop, drop_min}
use Rattle.blocks.specs.Format.{◌>>=◌}
use Rattle.block_types.specs.Limits.{group_size}
use Rattle.streams.specs.declared.table.Position.{Position}
use Rattle.memtable.specs.declared.cell.Cell.{Cell}
use Rattle.memtable.specs.Cell.{IsEntry}
use Rattle.commitlog.specs.declared.log_record.LogRecord.{LogRecord}
use Rattle.commitlog.specs.Reading.{each_of, record_at}
use Rattle.commitlog.specs.Running.{running}
use Rattle.commitlog.specs.Places.{kept}
use Rattle.commitlog.proofs.Entries.{All-append}
use Rattle.memtable.specs.Entries.{Entries, put_all, key_cmp}
use Rattle.std.specs.BTreeMap.{insert_entry}
use Rattle.metadata.specs.declared.record.KeyRange.{KeyRange}
use Rattle.metadata.specs.declared.record.Region.{Region}
use Rattle.model_partition.specs.Loading.{Group, holds, region_takes, replayed, open_region}
use Rattle.range_replay.specs.Reload.{is_of, group_takes}

not_below : (a b : ℕ) → b ≤ a → nat_lt a b ≡ false
not_below a b le =
    elim (nat_lt a b) as (λ x. nat_lt a b ≡ x → nat_lt a b ≡ false) [
      | true ↦ λ is. absurd (omega (arith, ltb-true a b is, le))
      | false ↦ λ is. is
    ] refl

-- ---- lists

pub All-filter : {A : Type 0} (P : A → Type 0) (test : A → Bool) (xs : List A) → AllByRecursion P xs → AllByRecursion P (filter test xs)
All-filter P test [] all = tt
All-filter P test (x ∷ xs) all =
    elim (test x) as (λ b. test x ≡ b → AllByRecursion P (filter test (x ∷ xs))) [
      | true ↦ λ is. rw is (all.0, All-filter P test xs all.1)
      | false ↦ λ is. rw is (All-filter P test xs all.1)
    ] refl

length-running : {A B : Type 0} (f : ℕ → A → B) (size : A → ℕ) (n : ℕ) (xs : List A) → length (running f size n xs) ≡ length xs
length-running f size n [] = refl
length-running f size n (x ∷ xs) = ap suc (length-running f size (n + size x) xs)

-- some changes, and then others
pub put_all-append : (layer : Entries) (xs ys : List (List ℕ × Cell)) → put_all layer (xs ++ ys) ≡ put_all (put_all layer xs) ys
put_all-append layer [] ys = refl
put_all-append layer (x ∷ xs) ys = put_all-append (insert_entry key_cmp layer x.0 x.1) xs ys

-- ---- changes

pub added_are : (test : List ℕ × Cell → Bool) (cells kept before after : List (List ℕ × Cell)) → kept ≡ filter test cells → after ≡ before ++ kept → after ≡ before ++ filter test cells
added_are test cells kept before after kept_are after_is = after_is ∙ ap (λ (l : List (List ℕ × Cell)). before ++ l) kept_are

pub added_fit : (test : List ℕ × Cell → Bool) (cells kept before after : List (List ℕ × Cell)) → kept ≡ filter test cells → after ≡ before ++ kept
    → AllByRecursion (λ e. IsEntry e.0 e.1) cells → AllByRecursion (λ e. IsEntry e.0 e.1) before → AllByRecursion (λ e. IsEntry e.0 e.1) after
added_fit test cells kept before after kept_are after_is fit others_fit =
    subst (AllByRecursion (λ e. IsEntry e.0 e.1)) (sym (added_are test cells kept before after kept_are after_is))
    (All-append (λ e. IsEntry e.0 e.1) before (filter test cells) others_fit (All-filter (λ e. IsEntry e.0 e.1) test cells fit))

-- ---- a region

length-kept : (r : LogRecord) (extent offset : ℕ) → length (kept r extent offset) ≡ length r.transactions
length-kept r extent offset = length-running _ _ _ r.transactions

pub is_taken : (keys : KeyRange) (at : Position) (extent : ℕ) (r : LogRecord) (region : Region) (layer : Entries) (old next : ℕ) (cells before after : List (List ℕ × Cell))
    → holds region at ≡ true → r.first ≤ region.next → old ≡ min (region.next - r.first) (length r.transactions) → next ≡ region.next + (length r.transactions - old)
    → cells ≡ flat_map (λ t. t) (drop old (kept r extent at.offset)) → after ≡ before ++ filter (is_of keys region.keys) cells
    → region_takes keys at extent r (put_all layer before) region ≡ Some (record region { next = next }, put_all layer after)
is_taken keys at extent r region layer old next cells before after held reached old_is next_is cells_are after_is =
    let count : ℕ = length r.transactions in
    let left : region.next + length (drop (region.next - r.first) r.transactions) ≡ next = omega (arith, length-drop (region.next - r.first) r.transactions, old_is, next_is) in
    let bound : min (region.next - r.first) count ≡ min (region.next - r.first) (length (kept r extent at.offset)) = ap (min (region.next - r.first)) (sym (length-kept r extent at.offset)) in
    let dropped : drop old (kept r extent at.offset) ≡ drop (region.next - r.first) (kept r extent at.offset) =
    ap (λ (n : ℕ). drop n (kept r extent at.offset)) (old_is ∙ bound) ∙ drop_min (region.next - r.first) (kept r extent at.offset) in
    let added : List (List ℕ × Cell) = filter (is_of keys region.keys) (flat_map (λ t. t) (drop (region.next - r.first) (kept r extent at.offset))) in
    let entries : after ≡ before ++ added =
    after_is ∙ ap (λ (cs : List (List ℕ × Cell)). before ++ filter (is_of keys region.keys) cs) (cells_are ∙ ap (flat_map (λ t. t)) dropped) in
    let layers : put_all layer after ≡ put_all (put_all layer before) added = ap (put_all layer) entries ∙ put_all-append layer before added in
    rw (held, not_below region.next r.first reached) (ap (λ (n : ℕ). Some (record region { next = n }, put_all (put_all layer before) added)) left
    ∙ ap (λ (l : Entries). Some (record region { next = next }, l)) (sym layers))

-- ---- groups

-- two steps of which the first gives nothing
both_none : {A B C : Type 0} (x : Option A) (f : A → Option B) (g : B → Option C) → (x >>= f) ≡ None → (x >>= λ a. f a >>= g) ≡ None
both_none None f g is = refl
both_none (Some a) f g is = rw is refl

pub is_damaged : (keys : KeyRange) (extent : ℕ) (at : Position) (x : List Region × Entries) (group : Group) (groups : List Group) → group_takes keys at extent x group ≡ None
    → replayed keys extent at x (group ∷ groups) ≡ None
is_damaged keys extent at x group groups none =
    elim (nat_lt (at.offset + group_size group) (2 ^ 32)) as (λ b. nat_lt (at.offset + group_size group) (2 ^ 32) ≡ b → replayed keys extent at x (group ∷ groups) ≡ None) [
      | true ↦ λ is. rw is (both_none (record_at group) (λ r. each_of (region_takes keys at extent r) x.1 x.0) (λ y. replayed keys extent (record at { offset = at.offset + group_size group }) y groups) none)
      | false ↦ λ is. rw is refl
    ] refl

-- ---- the region without end

last_at : (all : List Region) (n : ℕ) (last : Region) → length all ≡ suc n → last ≡ slice_index_or all n last → (if is_some last.end then None else Some last) ≡ open_region all
last_at [] n last len is = absurd (omega (arith, len))
last_at (r ∷ []) zero last len is = ap (λ (x : Region). if is_some x.end then None else Some x) is
last_at (r ∷ []) (suc n) last len is = absurd (omega (arith, len))
last_at (r ∷ s ∷ rest) zero last len is = absurd (omega (arith, len))
last_at (r ∷ s ∷ rest) (suc n) last len is = last_at (s ∷ rest) n last (omega (arith, len)) is

pub last_is : (all : List Region) (last : Region) → last ≡ slice_index_or all (length all - 1) last → 1 ≤ length all → (if is_some last.end then None else Some last) ≡ open_region all
last_is all last is le = last_at all (length all - 1) last (omega (arith, le)) is
