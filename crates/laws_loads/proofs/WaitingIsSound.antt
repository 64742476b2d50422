-- What waits at a range can be written: each transaction that is taken, and each group that is formed.
use Rattle.std.proofs.Common.{◌≡◌, ◌⊎◌, ⊎_elim, ℕ, zero, suc, ◌+◌, ◌<◌, ◌≤◌, ◌^◌, List, [], ◌∷◌, ◌++◌, length, map, take, drop, Bool, true, false, not, ◌&&◌, ◌||◌, ◌==◌, nat_lt, nat_le, Option, Some, None, is_some, refl, sym, ap, ◌∙◌, subst, inl, inr, arith}
use Rattle.std.specs.List.{AllByRecursion, list_any}
use Rattle.std.proofs.lemmas.Bool.{or_parts, ltb-true, ltb-false, leb-true, leb-false, not-false, eqb-false, and_parts}
use Rattle.wire.specs.declared.actor.ActorId.{ActorId}
use Rattle.wire.specs.declared.actor.ReqNo.{ReqNo}
use Rattle.wire.specs.declared.refusal.Refusal.{Refusal}
use Rattle.wire.specs.declared.refusal.Refusal.TheVariants as refusals
use Rattle.wire.specs.declared.transaction.Change.{Change}
use Rattle.commitlog.specs.Record.{HasValue, IsChange, IsTransaction, Fits, spelling}
use Rattle.memtable.specs.Entries.{entries_size}
use Rattle.memtable.specs.Layers.{size_of}
use Rattle.metadata.specs.Keys.{within}
use Rattle.model_streams.proofs.Tests.{if_elim, none_met}
use Rattle.model_partition.specs.declared.server_context.ServerContext.{ServerContext}
use Rattle.model_partition.specs.declared.waiting.WaitingTransaction.{WaitingTransaction}
use Rattle.model_partition.specs.Range.{RangeState, is_serving, takes_no_transaction}
use Rattle.model_partition.specs.Serving.{record_of, fits_a_group, grown, group_count, appends, is_key, value_size, lease_ended, waiting_count, is_full, transact_fault}
use Rattle.laws_loads.proofs.Renaming.{mapped_length, more_length}
use Rattle.laws_loads.specs.Sound.{AreTransactions, IsSound, IsSoundIf}

pub none_there : {A : Type 0} (o : Option A) → not (is_some o) ≡ true → o ≡ None
none_there {A} None e = refl
none_there {A} (Some a) e = absurd (cc)

-- ---- parts of the queue

first_sound : (n : ℕ) (ts : List WaitingTransaction) → AreTransactions ts → AreTransactions (take n ts)
first_sound zero [] h = tt
first_sound zero (t ∷ ts) h = tt
first_sound (suc n) [] h = tt
first_sound (suc n) (t ∷ ts) h = (h.0, first_sound n ts h.1)

rest_sound : (n : ℕ) (ts : List WaitingTransaction) → AreTransactions ts → AreTransactions (drop n ts)
rest_sound zero [] h = h
rest_sound zero (t ∷ ts) h = h
rest_sound (suc n) [] h = tt
rest_sound (suc n) (t ∷ ts) h = rest_sound n ts h.1

more_sound : (ts : List WaitingTransaction) (t : WaitingTransaction) → AreTransactions ts → IsTransaction t.changes → AreTransactions (ts ++ t ∷ [])
more_sound [] t h is = (is, tt)
more_sound (u ∷ ts) t h is = (h.0, more_sound ts t h.1 is)

first_count : {A : Type 0} (n : ℕ) (ts : List A) → n ≤ length ts → length (take n ts) ≡ n
first_count {A} zero [] h = refl
first_count {A} zero (t ∷ ts) h = refl
first_count {A} (suc n) [] h = absurd (omega (arith, h))
first_count {A} (suc n) (t ∷ ts) h = ap suc (first_count n ts (omega (arith, h)))

parts_count : {A : Type 0} (n : ℕ) (ts : List A) → length (take n ts) + length (drop n ts) ≡ length ts
parts_count {A} zero [] = refl
parts_count {A} zero (t ∷ ts) = omega arith
parts_count {A} (suc n) [] = refl
parts_count {A} (suc n) (t ∷ ts) = omega (arith, parts_count n ts)

-- ---- a transaction that is taken

value_fits : (value : Option (List ℕ)) → nat_lt 65536 (value_size value) ≡ false → HasValue value
value_fits None e = tt
value_fits (Some v) e = ltb-false 65536 (length v) e

key_fits : (key : List ℕ) → not (is_key key) ≡ false → (1 ≤ length key) × (length key ≤ 256)
key_fits key e =
    let b = and_parts (nat_le 1 (length key)) (nat_le (length key) 256) (not-false (is_key key) e) in
    (leb-true 1 (length key) b.0, leb-true (length key) 256 b.1)

changes_fit : (changes : List Change) → list_any (λ c. not (is_key c.key)) changes ≡ false → list_any (λ c. nat_lt 65536 (value_size c.value)) changes ≡ false → AllByRecursion IsChange changes
changes_fit [] keys values = tt
changes_fit (c ∷ changes) keys values =
    let k = or_parts (not (is_key c.key)) (list_any (λ c. not (is_key c.key)) changes) keys in
    let v = or_parts (nat_lt 65536 (value_size c.value)) (list_any (λ c. nat_lt 65536 (value_size c.value)) changes) values in
    ((key_fits c.key k.0, value_fits c.value v.0), changes_fit changes k.1 v.1)

-- what a transaction is tested for
abbrev pub tests : ServerContext → RangeState → List Change → List (Refusal × Bool)
tests d r changes =
    (refusals.Loading, not (is_serving r.stage))
    ∷ (refusals.Paused, takes_no_transaction r.pause)
    ∷ (refusals.LeaseEnded, lease_ended d r)
    ∷ (refusals.TooLarge, (length changes == 0) || nat_lt 32 (length changes))
    ∷ (refusals.BadKey, list_any (λ c. not (is_key c.key)) changes)
    ∷ (refusals.TooLarge, list_any (λ c. nat_lt 65536 (value_size c.value)) changes)
    ∷ (refusals.OutOfRange, list_any (λ c. not (within r.said.keys c.key)) changes)
    ∷ (refusals.Busy, is_full r)
    ∷ []

-- what is not refused comes to a range that is served
pub taken_served : (d : ServerContext) (r : RangeState) (changes : List Change) → transact_fault d r changes ≡ None → is_serving r.stage ≡ true
taken_served d r changes e = let unmet = none_met (tests d r changes) e in not-false (is_serving r.stage) unmet.0

-- it is a transaction, and has room
taken_fits : (d : ServerContext) (r : RangeState) (changes : List Change) → transact_fault d r changes ≡ None → IsTransaction changes × (waiting_count r < 1024)
taken_fits d r changes e =
    let unmet = none_met (tests d r changes) e in
    let count = or_parts (length changes == 0) (nat_lt 32 (length changes)) unmet.1.1.1.0 in
    let full = or_parts (nat_le 1024 (waiting_count r)) (nat_le 67108864 (entries_size r.live + size_of r.fixed)) unmet.1.1.1.1.1.1.1.0 in
    let some : length changes ≡ 0 → ⊥ = eqb-false (length changes) 0 count.0 in
    ((((some_more (length changes) some, ltb-false 32 (length changes) count.1)), changes_fit changes unmet.1.1.1.1.0 unmet.1.1.1.1.1.0), leb-false 1024 (waiting_count r) full.0)
  where
    some_more : (n : ℕ) → (n ≡ 0 → ⊥) → 1 ≤ n
    some_more zero h = absurd (h refl)
    some_more (suc n) h = omega arith

-- the queue with one more
pub pushed_sound : (d : ServerContext) (r : RangeState) (from : ActorId) (v : ReqNo) (changes : List Change) → transact_fault d r changes ≡ None → IsSound r →
    IsSound (record r { queue = r.queue ++ record { from = from; request = v; changes = changes } ∷ [] })
pushed_sound d r from v changes e h =
    let t : WaitingTransaction = record { from = from; request = v; changes = changes } in
    let fits : IsTransaction changes × (waiting_count r < 1024) = taken_fits d r changes e in
    record {
      queue_fits = more_sound r.queue t h.queue_fits fits.0;
      out_fits = h.out_fits;
      counted = omega (arith, fits.1, more_length r.queue t);
      numbered = h.numbered;
    }

-- ---- a group that is formed

grown_fits : (first : ℕ) (queue : List WaitingTransaction) (n more : ℕ) → (n ≡ 0) ⊎ (fits_a_group first queue n ≡ true) → (grown first queue n more ≡ 0) ⊎ (fits_a_group first queue (grown first queue n more) ≡ true)
grown_fits first queue n zero h = h
grown_fits first queue n (suc more) h =
    if_elim (λ z. (z ≡ 0) ⊎ (fits_a_group first queue z ≡ true)) (fits_a_group first queue (suc n)) (grown first queue (suc n) more) n
    (λ t. grown_fits first queue (suc n) more (inr t)) (λ f. h)

-- the first n transactions of the queue are one group
pub record IsNext (r : RangeState) (n : ℕ) : Type 0 where
  pub fits : Fits (record_of r.next (take n r.queue))
  pub size : length (map (λ t. t.changes) (take n r.queue)) ≡ n
  pub within : n ≤ length r.queue
  pub none : r.out ≡ None

pub is_next : (d : ServerContext) (r : RangeState) → IsSound r → (not (is_some r.out) && (nat_lt 0 (group_count d r) && nat_lt (r.next + group_count d r) (2 ^ 64))) ≡ true → IsNext r (group_count d r)
is_next d r h e =
    let n : ℕ = group_count d r in
    let one = and_parts (not (is_some r.out)) (nat_lt 0 n && nat_lt (r.next + n) (2 ^ 64)) e in
    let two = and_parts (nat_lt 0 n) (nat_lt (r.next + n) (2 ^ 64)) one.1 in
    let some : 0 < n = ltb-true 0 n two.0 in
    let top : r.next + n < 2 ^ 64 = ltb-true (r.next + n) (2 ^ 64) two.1 in
    let group : fits_a_group r.next r.queue n ≡ true =
    ⊎_elim {C = fits_a_group r.next r.queue n ≡ true} (λ z. absurd (omega (arith, z, some))) (λ z. z) (grown_fits r.next r.queue 0 d.batch (inl refl)) in
    let three = and_parts (nat_le n (length r.queue)) (nat_le (length (spelling (record_of r.next (take n r.queue)))) 64) group in
    let within : n ≤ length r.queue = leb-true n (length r.queue) three.0 in
    let size : length (map (λ t. t.changes) (take n r.queue)) ≡ n = mapped_length (λ t. t.changes) (take n r.queue) ∙ first_count n r.queue within in
    record {
      fits = record {
        numbered = (h.numbered, subst (λ z. r.next + z < 2 ^ 64) (sym size) top);
        count = (omega (arith, size, some), omega (arith, size, within, h.counted));
        transactions = first_sound n r.queue h.queue_fits;
        blocks = leb-true (length (spelling (record_of r.next (take n r.queue)))) 64 three.1;
      };
      size = size;
      within = within;
      none = none_there r.out one.0;
    }

pub appends_sound : (d : ServerContext) (r : RangeState) (n : ℕ) → IsSound r → IsNext r n → IsSoundIf (appends d r n).after
appends_sound d r n h k =
    record {
      queue_fits = rest_sound n r.queue h.queue_fits;
      out_fits = k.fits;
      counted = (let all : length (take n r.queue) + length (drop n r.queue) ≡ length r.queue = parts_count n r.queue in omega (arith, all, h.counted));
      numbered = omega (arith, h.numbered);
    }
