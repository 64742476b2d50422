-- The changes of a group that is read as a record are changes of transactions: their keys and their values have the lengths that they may
-- have. Nothing is premised of the bytes themselves.
use Rattle.std.proofs.Common.{◌≡◌, ℕ, zero, suc, ◌+◌, ◌≤◌, Bool, true, cond, List, [], ◌∷◌, length, Option, Some, None, refl, sym, ap, subst, ◌∙◌, arith}
use Rattle.std.specs.Prelude.{◌==◌, ◌&&◌}
use Rattle.std.specs.List.{AllByRecursion}
use Rattle.std.proofs.lemmas.Bool.{and_parts, leb-true, eqb-true}
use Rattle.block_types.specs.Limits.{is_within}
use Rattle.blocks.specs.Format.{◌>>=◌, number_at, bytes_at, pair_at, only_at, many_at, whole}
use Rattle.blocks.proofs.Formats.{bind_some, if_some, some_is, within, bytes_takes}
use Rattle.wire.specs.declared.transaction.Change.{Change}
use Rattle.memtable.specs.Limits.{IsKey}
use Rattle.commitlog.specs.declared.log_record.LogRecord.{LogRecord}
use Rattle.commitlog.specs.Record.{HasValue, IsChange}
use Rattle.commitlog.specs.Reading.{counted_at, is_small, large_at, fields_at, cell_at, change_at, transaction_at, transactions_at, is_numbered, body_at, text_at, joined_at, value_at, change_of, each_of, changes_of, transactions_of, record_at}

-- what holds of what was read
got : {A B : Type 0} (P : A → B → Type 0) (a x : A) (r s : B) → ◌≡◌ {A = Option (A × B)} (Some (a, r)) (Some (x, s)) → P a r → P x s
got {A} {B} P a x r s e p =
    let one : A × B = (a, r) in
    let other : A × B = (x, s) in
    subst (λ (y : A × B). P y.0 y.1) (some_is one other e) p

-- a number that passes a test
tested : (w : ℕ) (test : ℕ → Bool) (bytes : List ℕ) (n : ℕ) (rest : List ℕ) → only_at test (number_at w) bytes ≡ Some (n, rest) → test n ≡ true
tested w test bytes n rest e =
    let a = bind_some (number_at w bytes) (λ a. cond (test a.0) (Some a) None) (n, rest) e in
    let g = if_some (test a.0.0) a.0 (n, rest) a.2 in
    subst (λ (y : ℕ × List ℕ). test y.0 ≡ true) g.1 g.0

-- a length that passes a test, and so many bytes
counted : (w : ℕ) (test : ℕ → Bool) (bytes b rest : List ℕ) → counted_at w test bytes ≡ Some (b, rest) → test (length b) ≡ true
unfolding counted_at
counted w test bytes b rest e =
    let n = bind_some (only_at test (number_at w) bytes) (λ n. bytes_at n.0 n.1) (b, rest) e in
    let t = bytes_takes n.0.0 n.0.1 b rest n.2 in
    subst (λ k. test k ≡ true) (sym t.1) (tested w test bytes n.0.0 n.0.1 n.1)

-- What stands in the text becomes something of which this holds, with whatever blocks.
abbrev Becomes : {A B : Type 0} → (ℕ → List (List ℕ) → A → Option (B × List (List ℕ))) → (B → Type 0) → A → Type 0
Becomes {A} {B} get Is a = (total : ℕ) (blocks : List (List ℕ)) (b : B) (left : List (List ℕ)) → get total blocks a ≡ Some (b, left) → Is b

abbrev IsRead : {A B : Type 0} → (List ℕ → Option (A × List ℕ)) → (ℕ → List (List ℕ) → A → Option (B × List (List ℕ))) → (B → Type 0) → Type 0
IsRead {A} {B} read get Is = (bytes : List ℕ) (a : A) (rest : List ℕ) → read bytes ≡ Some (a, rest) → Becomes get Is a

module _ {A B : Type 0} (read : List ℕ → Option (A × List ℕ)) (get : ℕ → List (List ℕ) → A → Option (B × List (List ℕ))) (Is : B → Type 0) (one : IsRead read get Is) where
  abbrev get_all : ℕ → List (List ℕ) → List A → Option (List B × List (List ℕ))
  get_all total blocks items = each_of (get total) blocks items

  abbrev AllAre : List B → Type 0
  AllAre bs = AllByRecursion Is bs

  none_becomes : Becomes get_all AllAre []
  none_becomes total blocks b left e = got (λ z r. AllAre z) [] b blocks left e tt

  more_become : (a : A) (items : List A) → Becomes get Is a → Becomes get_all AllAre items → Becomes get_all AllAre (a ∷ items)
  more_become a items first others total blocks b left e =
      let x = bind_some (get total blocks a) (λ z. each_of (get total) z.1 items >>= λ more. Some (z.0 ∷ more.0, more.1)) (b, left) e in
      let o = bind_some (each_of (get total) x.0.1 items) (λ more. Some (x.0.0 ∷ more.0, more.1)) (b, left) x.2 in
      got (λ z r. AllAre z) (x.0.0 ∷ o.0.0) b o.0.1 left o.2 (first total blocks x.0.0 x.0.1 x.1, others total x.0.1 o.0.0 o.0.1 o.1)

  many_read : (k : ℕ) → IsRead (many_at read k) get_all AllAre
  many_read zero bytes a rest e = got (λ z r. Becomes get_all AllAre z) [] a bytes rest e none_becomes
  many_read (suc k) bytes a rest e =
      let x = bind_some (read bytes) (λ z. many_at read k z.1 >>= λ more. Some (z.0 ∷ more.0, more.1)) (a, rest) e in
      let o = bind_some (many_at read k x.0.1) (λ more. Some (x.0.0 ∷ more.0, more.1)) (a, rest) x.2 in
      got (λ z r. Becomes get_all AllAre z) (x.0.0 ∷ o.0.0) a o.0.1 rest o.2 (more_become x.0.0 o.0.0 (one bytes x.0.0 x.0.1 x.1) (many_read k x.0.1 o.0.0 o.0.1 o.1))

  -- a count of w bytes, and so many
  abbrev list_at : ℕ → (ℕ → Bool) → List ℕ → Option (List A × List ℕ)
  list_at w test bytes = only_at test (number_at w) bytes >>= λ n. many_at read n.0 n.1

  list_read : (w : ℕ) (test : ℕ → Bool) → IsRead (list_at w test) get_all AllAre
  list_read w test bytes a rest e =
      let n = bind_some (only_at test (number_at w) bytes) (λ n. many_at read n.0 n.1) (a, rest) e in
      many_read n.0.0 n.0.1 a rest n.2

-- ---- a value

large_test : (n size total : ℕ) (blocks : List (List ℕ)) (b : Option (List ℕ)) (left : List (List ℕ)) → size ≤ 65536 → (first : List ℕ) →
    cond {A = Option (Option (List ℕ) × List (List ℕ))} (n + length (first ∷ blocks) == total && length first == size) (Some (Some first, blocks)) None ≡ Some (b, left) → HasValue b
large_test n size total blocks b left le first e =
    let g = if_some (n + length (first ∷ blocks) == total && length first == size) (Some first, blocks) (b, left) e in
    let t = and_parts (n + length (first ∷ blocks) == total) (length first == size) g.0 in
    let is : length first ≡ size = eqb-true _ _ t.1 in
    subst (λ (z : Option (List ℕ) × List (List ℕ)). HasValue z.0) g.1 (omega (arith, is, le))

-- the first block, where it has the number and the size that the text says
abbrev first_block : (n size total : ℕ) → List (List ℕ) → Option (Option (List ℕ) × List (List ℕ))
first_block n size total [] = None
first_block n size total (first ∷ blocks) = cond (n + length (first ∷ blocks) == total && length first == size) (Some (Some first, blocks)) None

large_value : (g : List (List ℕ) → Option (Option (List ℕ) × List (List ℕ))) (n size total : ℕ) (blocks : List (List ℕ)) (b : Option (List ℕ)) (left : List (List ℕ)) → g blocks ≡ Some (b, left) → size ≤ 65536 →
    (g [] ≡ None) → ((first : List ℕ) (more : List (List ℕ)) → g (first ∷ more) ≡ first_block n size total (first ∷ more)) → HasValue b
large_value g n size total [] b left f le none some = absurd (cc (f, none))
large_value g n size total (first ∷ blocks) b left f le none some = large_test n size total blocks b left le first (sym (some first blocks) ∙ f)

abbrev Large : Type 0
Large = (ℕ × ℕ) × List ℕ

-- the size of a large value
large_sized : (bytes : List ℕ) (v : Large) → pair_at (number_at 1) (only_at (is_within 4097 65536) (number_at 4)) bytes ≡ Some v → v.0.1 ≤ 65536
large_sized bytes v e =
    let n = bind_some (number_at 1 bytes) (λ x. only_at (is_within 4097 65536) (number_at 4) x.1 >>= λ y. Some ((x.0, y.0), y.1)) v e in
    let m = bind_some (only_at (is_within 4097 65536) (number_at 4) n.0.1) (λ y. Some ((n.0.0, y.0), y.1)) v n.2 in
    let made : Large = ((n.0.0, m.0.0), m.0.1) in
    subst (λ (z : Large). z.0.1 ≤ 65536) (some_is made v m.2) (within 4097 65536 m.0.0 (tested 4 (is_within 4097 65536) n.0.1 m.0.0 m.0.1 m.1)).1

-- the text of a large value, whatever cells are
large_read : {C : Type 0} (value : ℕ → List (List ℕ) → C → Option (Option (List ℕ) × List (List ℕ))) (make : Large → C) (bytes : List ℕ) (a : C) (rest : List ℕ) →
    ◌>>=◌ {B = C × List ℕ} (pair_at (number_at 1) (only_at (is_within 4097 65536) (number_at 4)) bytes) (λ v. Some (make v, v.1)) ≡ Some (a, rest) →
    ((v : Large) (total : ℕ) → value total [] (make v) ≡ None) → ((v : Large) (total : ℕ) (first : List ℕ) (more : List (List ℕ)) → value total (first ∷ more) (make v) ≡ first_block v.0.0 v.0.1 total (first ∷ more)) →
    Becomes value HasValue a
large_read {C} value make bytes a rest e none some =
    let v = bind_some (pair_at (number_at 1) (only_at (is_within 4097 65536) (number_at 4)) bytes) (λ v. Some (make v, v.1)) (a, rest) e in
    got (λ z r. Becomes value HasValue z) (make v.0) a v.0.1 rest v.2
    (λ total blocks b left f. large_value (λ l. value total l (make v.0)) v.0.0.0 v.0.0.1 total blocks b left f (large_sized bytes v.0 v.1) (none v.0 total) (some v.0 total))

fields_read : (kind : ℕ) → IsRead (fields_at kind) value_at HasValue
unfolding fields_at large_at
fields_read zero bytes a rest e = got (λ z r. Becomes value_at HasValue z) _ a bytes rest e (λ total blocks b left f. got (λ z r. HasValue z) None b blocks left f tt)
fields_read (suc zero) bytes a rest e =
    let v = bind_some (counted_at 4 is_small bytes) _ (a, rest) e in
    let le : length v.0.0 ≤ 4096 = leb-true _ _ (counted 4 is_small bytes v.0.0 v.0.1 v.1) in
    got (λ z r. Becomes value_at HasValue z) _ a v.0.1 rest v.2 (λ total blocks b left f. got (λ z r. HasValue z) (Some v.0.0) b blocks left f (omega (arith, le)))
fields_read (suc (suc zero)) bytes a rest e = large_read value_at _ bytes a rest e (λ v total. refl) (λ v total first more. refl)
fields_read (suc (suc (suc k))) bytes a rest e = absurd cc

cell_read : IsRead cell_at value_at HasValue
unfolding cell_at
cell_read [] a rest e = absurd cc
cell_read (kind ∷ fields) a rest e = fields_read kind fields a rest e

-- ---- changes and transactions

change_read : IsRead change_at change_of IsChange
unfolding change_at
change_read bytes a rest e =
    let k = bind_some (counted_at 2 (is_within 1 256) bytes) (λ x. cell_at x.1 >>= λ y. Some ((x.0, y.0), y.1)) (a, rest) e in
    let c = bind_some (cell_at k.0.1) (λ y. Some ((k.0.0, y.0), y.1)) (a, rest) k.2 in
    let key : IsKey k.0.0 = within 1 256 (length k.0.0) (counted 2 (is_within 1 256) bytes k.0.0 k.0.1 k.1) in
    got (λ z r. Becomes change_of IsChange z) (k.0.0, c.0.0) a c.0.1 rest c.2 (λ total blocks b left f.
    let v = bind_some (value_at total blocks c.0.0) (λ v. Some (record { key = k.0.0; value = v.0 }, v.1)) (b, left) f in
    let change : Change = record { key = k.0.0; value = v.0.0 } in
    got (λ z r. IsChange z) change b v.0.1 left v.2 (key, cell_read k.0.1 c.0.0 c.0.1 c.1 total blocks v.0.0 v.0.1 v.1))

abbrev pub AreChanges : List Change → Type 0
AreChanges t = AllByRecursion IsChange t

transaction_read : IsRead transaction_at changes_of AreChanges
unfolding transaction_at
transaction_read = list_read change_at change_of IsChange change_read 1 (is_within 1 32)

abbrev AllChanges : List (List Change) → Type 0
AllChanges ts = AllByRecursion AreChanges ts

transactions_read : IsRead transactions_at (λ total blocks ts. each_of (changes_of total) blocks ts) AllChanges
unfolding transactions_at
transactions_read = list_read transaction_at changes_of AreChanges transaction_read 2 (is_within 1 1024)

-- ---- a record

-- what is read as a whole becomes so
abbrev IsWhole : {A B : Type 0} → (List ℕ → Option A) → (ℕ → List (List ℕ) → A → Option (B × List (List ℕ))) → (B → Type 0) → Type 0
IsWhole {A} {B} read get Is = (bytes : List ℕ) (a : A) → read bytes ≡ Some a → Becomes get Is a

-- a number before what is read
module _ {A B : Type 0} (read : List ℕ → Option (A × List ℕ)) (get : ℕ → List (List ℕ) → A → Option (B × List (List ℕ))) (Is : B → Type 0) (one : IsRead read get Is) where
  abbrev get_second : ℕ → List (List ℕ) → ℕ × A → Option (B × List (List ℕ))
  get_second total blocks x = get total blocks x.1

  numbered_read : (w : ℕ) (test : ℕ × A → Bool) → IsRead (only_at test (pair_at (number_at w) read)) get_second Is
  numbered_read w test bytes a rest e =
      let p = bind_some (pair_at (number_at w) read bytes) (λ z. cond (test z.0) (Some z) None) (a, rest) e in
      let g = if_some (test p.0.0) p.0 (a, rest) p.2 in
      let f = bind_some (number_at w bytes) (λ z. read z.1 >>= λ y. Some ((z.0, y.0), y.1)) p.0 p.1 in
      let q = bind_some (read f.0.1) (λ y. Some ((f.0.0, y.0), y.1)) p.0 f.2 in
      let made : (ℕ × A) × List ℕ = ((f.0.0, q.0.0), q.0.1) in
      subst (λ (z : (ℕ × A) × List ℕ). Becomes get_second Is z.0) (some_is made p.0 q.2 ∙ g.1) (one f.0.1 q.0.0 q.0.1 q.1)

  -- a length of the whole, and what is read behind it
  abbrev whole_at : ℕ → List ℕ → Option A
  whole_at w bytes = only_at (λ n. n == length bytes) (number_at w) bytes >>= λ n. read n.1 >>= λ x. whole (Some (x.0, x.1))

  whole_read : (w : ℕ) → IsWhole (whole_at w) get Is
  whole_read w bytes a e =
      let n = bind_some (only_at (λ n. n == length bytes) (number_at w) bytes) (λ n. read n.1 >>= λ x. whole (Some (x.0, x.1))) a e in
      let y = bind_some (read n.0.1) (λ x. whole (Some (x.0, x.1))) a n.2 in
      let g = if_some (length y.0.1 == 0) y.0.0 a y.2 in
      subst (λ (z : A). Becomes get Is z) g.1 (one n.0.1 y.0.0 y.0.1 y.1)

text_read : IsWhole text_at (λ total blocks x. each_of (changes_of total) blocks x.1) AllChanges
unfolding text_at body_at
text_read =
    whole_read body_at (λ total blocks x. each_of (changes_of total) blocks x.1) AllChanges
    (numbered_read transactions_at (λ total blocks ts. each_of (changes_of total) blocks ts) AllChanges transactions_read 8 is_numbered) 4

-- the changes of a record that is read
pub record_changes : (group : List (List ℕ)) (r : LogRecord) → record_at group ≡ Some r → AllByRecursion AreChanges r.transactions
unfolding record_at transactions_of
record_changes group r e =
    let make : ℕ → List (List Change) → LogRecord = λ first ts. record { first = first; transactions = ts } in
    let t = bind_some (joined_at group) (λ t. text_at t.0 >>= λ x. transactions_of t.1 x.1 >>= λ ts. Some (make x.0 ts)) r e in
    let x = bind_some (text_at t.0.0) (λ x. transactions_of t.0.1 x.1 >>= λ ts. Some (make x.0 ts)) r t.2 in
    let ts = bind_some (transactions_of t.0.1 x.0.1) (λ ts. Some (make x.0.0 ts)) r x.2 in
    let v = bind_some (each_of (changes_of (length t.0.1)) t.0.1 x.0.1) (λ z. cond (length z.1 == 0) (Some z.0) None) ts.0 ts.1 in
    let all = if_some (length v.0.1 == 0) v.0.0 ts.0 v.2 in
    let made : LogRecord = record { first = x.0.0; transactions = v.0.0 } in
    let made_is : made ≡ r = ap (λ z. make x.0.0 z) all.1 ∙ some_is (make x.0.0 ts.0) r ts.2 in
    subst (λ (z : LogRecord). AllByRecursion AreChanges z.transactions) made_is (text_read t.0.0 x.0 x.1 (length t.0.1) t.0.1 v.0.0 v.0.1 v.1)
