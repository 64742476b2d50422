-- How many bytes a group has that is read as a record: those of the record's text, and those of its large values. Nothing is
-- premised of the bytes themselves.
use Rattle.std.proofs.Common.{◌≡◌, ℕ, zero, suc, ◌+◌, ◌*◌, ◌≤◌, Bool, true, false, cond, ltb, List, [], ◌∷◌, length, drop, Option, Some, None, refl, sym, ap, subst, ◌∙◌, arith}
use Rattle.std.specs.Prelude.{◌==◌, ◌&&◌}
use Rattle.std.specs.List.{flat_map, sum_by}
use Rattle.std.proofs.lemmas.Bool.{and_parts, leb-true, eqb-true, ltb-false, le-ltb, lt-ltb}
use Rattle.std.proofs.lemmas.List.{length-drop, length-append}
use Rattle.std.proofs.lemmas.List.Sums.{sum_by-cons}
use Rattle.block_types.specs.Limits.{group_size, is_within}
use Rattle.blocks.specs.Format.{◌>>=◌, number_at, bytes_at, pair_at, only_at, many_at, whole}
use Rattle.blocks.proofs.Formats.{bind_some, if_some, unless_some, some_is, within, bytes_takes}
use Rattle.wire.specs.declared.transaction.Change.{Change}
use Rattle.memtable.specs.Limits.{is_large}
use Rattle.commitlog.specs.declared.log_record.LogRecord.{LogRecord}
use Rattle.commitlog.specs.Record.{large, change_values, transaction_values, text, cut, piece_count}
use Rattle.commitlog.specs.Reading.{counted_at, is_small, large_at, fields_at, cell_at, change_at, transaction_at, transactions_at, is_numbered, body_at, text_at, joined, joined_at, value_at, change_of, each_of, changes_of, transactions_of, record_at}
use Rattle.commitlog.specs.Sizes.{cell_size, change_size, transaction_size}
use Rattle.commitlog.proofs.Measures.{group_size-append, length-text, values_from}
use Rattle.commitlog.proofs.Pieces.{joined_takes, cut_size, enough}

-- ---- numbers and bytes

-- what holds of what was read
got : {A B : Type 0} (P : A → B → Type 0) (a x : A) (r s : B) → ◌≡◌ {A = Option (A × B)} (Some (a, r)) (Some (x, s)) → P a r → P x s
got {A} {B} P a x r s e p =
    let one : A × B = (a, r) in
    let other : A × B = (x, s) in
    subst (λ (y : A × B). P y.0 y.1) (some_is one other e) p

number_sized : (w : ℕ) (bytes : List ℕ) (n : ℕ) (rest : List ℕ) → number_at w bytes ≡ Some (n, rest) → length bytes ≡ w + length rest
number_sized w bytes n rest e =
    let g = unless_some (ltb (length bytes) w) _ (n, rest) e in
    let long : w ≤ length bytes = ltb-false _ _ g.0 in
    let same : length (drop w bytes) ≡ length rest = ap (λ (p : ℕ × List ℕ). length p.1) g.1 in
    omega (arith, long, same, length-drop w bytes)

-- a number that passes a test
tested_sized : (w : ℕ) (test : ℕ → Bool) (bytes : List ℕ) (n : ℕ) (rest : List ℕ) → only_at test (number_at w) bytes ≡ Some (n, rest) → (length bytes ≡ w + length rest) × (test n ≡ true)
tested_sized w test bytes n rest e =
    let a = bind_some (number_at w bytes) (λ a. cond (test a.0) (Some a) None) (n, rest) e in
    let g = if_some (test a.0.0) a.0 (n, rest) a.2 in
    subst (λ (y : ℕ × List ℕ). (length bytes ≡ w + length y.1) × (test y.0 ≡ true)) g.1 (number_sized w bytes a.0.0 a.0.1 a.1, g.0)

-- a length that passes a test, and so many bytes
counted_sized : (w : ℕ) (test : ℕ → Bool) (bytes b rest : List ℕ) → counted_at w test bytes ≡ Some (b, rest) → (length bytes ≡ w + length b + length rest) × (test (length b) ≡ true)
unfolding counted_at
counted_sized w test bytes b rest e =
    let n = bind_some (only_at test (number_at w) bytes) (λ n. bytes_at n.0 n.1) (b, rest) e in
    let s = tested_sized w test bytes n.0.0 n.0.1 n.1 in
    let t = bytes_takes n.0.0 n.0.1 b rest n.2 in
    (omega (arith, s.0, ap length t.0, length-append b rest), subst (λ k. test k ≡ true) (sym t.1) s.1)

-- ---- what is read, and what it becomes

-- What stands in the text with n bytes becomes something of that size, with blocks of its own.
abbrev Becomes : {A B : Type 0} → (ℕ → List (List ℕ) → A → Option (B × List (List ℕ))) → (B → ℕ) → (B → List (List ℕ)) → ℕ → A → Type 0
Becomes {A} {B} get size used n a =
    (total : ℕ) (blocks : List (List ℕ)) (b : B) (left : List (List ℕ)) → get total blocks a ≡ Some (b, left) → (n ≡ size b) × (group_size blocks ≡ group_size (used b) + group_size left)

-- what is read behind w bytes becomes so
abbrev IsRead : {A B : Type 0} → ℕ → (List ℕ → Option (A × List ℕ)) → (ℕ → List (List ℕ) → A → Option (B × List (List ℕ))) → (B → ℕ) → (B → List (List ℕ)) → Type 0
IsRead {A} {B} w read get size used =
    (bytes : List ℕ) (a : A) (rest : List ℕ) → read bytes ≡ Some (a, rest) → (n : ℕ) × (w + length bytes ≡ n + length rest) × Becomes get size used n a

module _ {A B : Type 0} (read : List ℕ → Option (A × List ℕ)) (get : ℕ → List (List ℕ) → A → Option (B × List (List ℕ))) (size : B → ℕ) (used : B → List (List ℕ)) (one : IsRead 0 read get size used) where
  abbrev get_all : ℕ → List (List ℕ) → List A → Option (List B × List (List ℕ))
  get_all total blocks items = each_of (get total) blocks items

  none_becomes : Becomes get_all (sum_by size) (flat_map used) 0 []
  none_becomes total blocks b left e = got (λ z r. (0 ≡ sum_by size z) × (group_size blocks ≡ group_size (flat_map used z) + group_size r)) [] b blocks left e (refl, omega arith)

  more_become : (n m : ℕ) (a : A) (items : List A) → Becomes get size used n a → Becomes get_all (sum_by size) (flat_map used) m items → Becomes get_all (sum_by size) (flat_map used) (n + m) (a ∷ items)
  more_become n m a items first others total blocks b left e =
      let x = bind_some (get total blocks a) (λ z. each_of (get total) z.1 items >>= λ more. Some (z.0 ∷ more.0, more.1)) (b, left) e in
      let o = bind_some (each_of (get total) x.0.1 items) (λ more. Some (x.0.0 ∷ more.0, more.1)) (b, left) x.2 in
      let s = first total blocks x.0.0 x.0.1 x.1 in
      let t = others total x.0.1 o.0.0 o.0.1 o.1 in
      got (λ z r. (n + m ≡ sum_by size z) × (group_size blocks ≡ group_size (flat_map used z) + group_size r)) (x.0.0 ∷ o.0.0) b o.0.1 left o.2
      (omega (arith, s.0, t.0, sum_by-cons size x.0.0 o.0.0), omega (arith, s.1, t.1, values_from used x.0.0 o.0.0))

  many_read : (k : ℕ) → IsRead 0 (many_at read k) get_all (sum_by size) (flat_map used)
  many_read zero bytes a rest e =
      got (λ z r. (n : ℕ) × (0 + length bytes ≡ n + length r) × Becomes get_all (sum_by size) (flat_map used) n z) [] a bytes rest e (0, omega arith, none_becomes)
  many_read (suc k) bytes a rest e =
      let x = bind_some (read bytes) (λ z. many_at read k z.1 >>= λ more. Some (z.0 ∷ more.0, more.1)) (a, rest) e in
      let o = bind_some (many_at read k x.0.1) (λ more. Some (x.0.0 ∷ more.0, more.1)) (a, rest) x.2 in
      let s = one bytes x.0.0 x.0.1 x.1 in
      let t = many_read k x.0.1 o.0.0 o.0.1 o.1 in
      got (λ z r. (n : ℕ) × (0 + length bytes ≡ n + length r) × Becomes get_all (sum_by size) (flat_map used) n z) (x.0.0 ∷ o.0.0) a o.0.1 rest o.2
      (s.0 + t.0, omega (arith, s.1, t.1), more_become s.0 t.0 x.0.0 o.0.0 s.2 t.2)

  -- a count of w bytes, and so many
  abbrev list_at : ℕ → (ℕ → Bool) → List ℕ → Option (List A × List ℕ)
  list_at w test bytes = only_at test (number_at w) bytes >>= λ n. many_at read n.0 n.1

  list_read : (w : ℕ) (test : ℕ → Bool) → IsRead 0 (list_at w test) get_all (λ bs. w + sum_by size bs) (flat_map used)
  list_read w test bytes a rest e =
      let n = bind_some (only_at test (number_at w) bytes) (λ n. many_at read n.0 n.1) (a, rest) e in
      let s = tested_sized w test bytes n.0.0 n.0.1 n.1 in
      let t = many_read n.0.0 n.0.1 a rest n.2 in
      (w + t.0, omega (arith, s.0, t.1), λ total blocks b left f. let u = t.2 total blocks b left f in (omega (arith, u.0), u.1))

-- ---- a value

small : (v : List ℕ) → length v ≤ 4096 → is_large v ≡ false
small v le = le-ltb _ _ le

big : (v : List ℕ) → 4097 ≤ length v → is_large v ≡ true
big v le = lt-ltb _ _ (omega (arith, le))

-- what is left of blocks with a value, by its kind
abbrev ValueIs : ℕ → List (List ℕ) → Option (List ℕ) → List (List ℕ) → Type 0
ValueIs n blocks value left = (n ≡ cell_size value) × (group_size blocks ≡ group_size (large value) + group_size left)

inline_is : (v : List ℕ) (blocks : List (List ℕ)) → length v ≤ 4096 → ValueIs (5 + length v) blocks (Some v) blocks
inline_is v blocks le = (rw (small v le) refl, rw (small v le) (omega arith))

large_is : (b : List ℕ) (blocks : List (List ℕ)) → 4097 ≤ length b → ValueIs 6 (b ∷ blocks) (Some b) blocks
large_is b blocks le = let counts : group_size (b ∷ blocks) ≡ group_size (b ∷ []) + group_size blocks = group_size-append (b ∷ []) blocks in (rw (big b le) refl, rw (big b le) counts)

large_test : (n size total : ℕ) (blocks : List (List ℕ)) (b : Option (List ℕ)) (left : List (List ℕ)) → 4097 ≤ size → (first : List ℕ) →
    cond {A = Option (Option (List ℕ) × List (List ℕ))} (n + length (first ∷ blocks) == total && length first == size) (Some (Some first, blocks)) None ≡ Some (b, left) → ValueIs 6 (first ∷ blocks) b left
large_test n size total blocks b left le first e =
    let g = if_some (n + length (first ∷ blocks) == total && length first == size) (Some first, blocks) (b, left) e in
    let t = and_parts (n + length (first ∷ blocks) == total) (length first == size) g.0 in
    let is : length first ≡ size = eqb-true _ _ t.1 in
    subst (λ (z : Option (List ℕ) × List (List ℕ)). ValueIs 6 (first ∷ blocks) z.0 z.1) g.1 (large_is first blocks (omega (arith, is, le)))

-- the first block, where it has the number and the size that the text says
abbrev first_block : (n size total : ℕ) → List (List ℕ) → Option (Option (List ℕ) × List (List ℕ))
first_block n size total [] = None
first_block n size total (first ∷ blocks) = cond (n + length (first ∷ blocks) == total && length first == size) (Some (Some first, blocks)) None

large_value : (g : List (List ℕ) → Option (Option (List ℕ) × List (List ℕ))) (n size total : ℕ) (blocks : List (List ℕ)) (b : Option (List ℕ)) (left : List (List ℕ)) → g blocks ≡ Some (b, left) → 4097 ≤ size →
    (g [] ≡ None) → ((first : List ℕ) (more : List (List ℕ)) → g (first ∷ more) ≡ first_block n size total (first ∷ more)) → ValueIs 6 blocks b left
large_value g n size total [] b left f le none some = absurd (cc (f, none))
large_value g n size total (first ∷ blocks) b left f le none some = large_test n size total blocks b left le first (sym (some first blocks) ∙ f)

abbrev Large : Type 0
Large = (ℕ × ℕ) × List ℕ

-- a number and a size
large_sized : (bytes : List ℕ) (v : Large) → pair_at (number_at 1) (only_at (is_within 4097 65536) (number_at 4)) bytes ≡ Some v → (length bytes ≡ 5 + length v.1) × (4097 ≤ v.0.1)
large_sized bytes v e =
    let n = bind_some (number_at 1 bytes) (λ x. only_at (is_within 4097 65536) (number_at 4) x.1 >>= λ y. Some ((x.0, y.0), y.1)) v e in
    let m = bind_some (only_at (is_within 4097 65536) (number_at 4) n.0.1) (λ y. Some ((n.0.0, y.0), y.1)) v n.2 in
    let s = number_sized 1 bytes n.0.0 n.0.1 n.1 in
    let t = tested_sized 4 (is_within 4097 65536) n.0.1 m.0.0 m.0.1 m.1 in
    let made : Large = ((n.0.0, m.0.0), m.0.1) in
    subst (λ (z : Large). (length bytes ≡ 5 + length z.1) × (4097 ≤ z.0.1)) (some_is made v m.2) (omega (arith, s, t.0), (within 4097 65536 m.0.0 t.1).0)

-- the text of a large value, whatever cells are
large_read : {C : Type 0} (value : ℕ → List (List ℕ) → C → Option (Option (List ℕ) × List (List ℕ))) (make : Large → C) (bytes : List ℕ) (a : C) (rest : List ℕ) →
    ◌>>=◌ {B = C × List ℕ} (pair_at (number_at 1) (only_at (is_within 4097 65536) (number_at 4)) bytes) (λ v. Some (make v, v.1)) ≡ Some (a, rest) →
    ((v : Large) (total : ℕ) → value total [] (make v) ≡ None) → ((v : Large) (total : ℕ) (first : List ℕ) (more : List (List ℕ)) → value total (first ∷ more) (make v) ≡ first_block v.0.0 v.0.1 total (first ∷ more)) →
    (n : ℕ) × (1 + length bytes ≡ n + length rest) × Becomes value cell_size large n a
large_read {C} value make bytes a rest e none some =
    let v = bind_some (pair_at (number_at 1) (only_at (is_within 4097 65536) (number_at 4)) bytes) (λ v. Some (make v, v.1)) (a, rest) e in
    let s = large_sized bytes v.0 v.1 in
    got (λ z r. (n : ℕ) × (1 + length bytes ≡ n + length r) × Becomes value cell_size large n z) (make v.0) a v.0.1 rest v.2
    (6, omega (arith, s.0), λ total blocks b left f. large_value (λ l. value total l (make v.0)) v.0.0.0 v.0.0.1 total blocks b left f s.1 (none v.0 total) (some v.0 total))

fields_read : (kind : ℕ) → IsRead 1 (fields_at kind) value_at cell_size large
unfolding fields_at large_at
fields_read zero bytes a rest e =
    got (λ z r. (n : ℕ) × (1 + length bytes ≡ n + length r) × Becomes value_at cell_size large n z) _ a bytes rest e
    (1, refl, λ total blocks b left f. got (λ z r. ValueIs 1 blocks z r) None b blocks left f (refl, omega arith))
fields_read (suc zero) bytes a rest e =
    let v = bind_some (counted_at 4 is_small bytes) _ (a, rest) e in
    let s = counted_sized 4 is_small bytes v.0.0 v.0.1 v.1 in
    let le : length v.0.0 ≤ 4096 = leb-true _ _ s.1 in
    got (λ z r. (n : ℕ) × (1 + length bytes ≡ n + length r) × Becomes value_at cell_size large n z) _ a v.0.1 rest v.2
    (5 + length v.0.0, omega (arith, s.0), λ total blocks b left f. got (λ z r. ValueIs (5 + length v.0.0) blocks z r) (Some v.0.0) b blocks left f (inline_is v.0.0 blocks le))
fields_read (suc (suc zero)) bytes a rest e = large_read value_at _ bytes a rest e (λ v total. refl) (λ v total first more. refl)
fields_read (suc (suc (suc k))) bytes a rest e = absurd cc

cell_read : IsRead 0 cell_at value_at cell_size large
unfolding cell_at
cell_read [] a rest e = absurd cc
cell_read (kind ∷ fields) a rest e = let s = fields_read kind fields a rest e in (s.0, omega (arith, s.1), s.2)

-- ---- changes and transactions

change_read : IsRead 0 change_at change_of change_size change_values
unfolding change_at
change_read bytes a rest e =
    let k = bind_some (counted_at 2 (is_within 1 256) bytes) (λ x. cell_at x.1 >>= λ y. Some ((x.0, y.0), y.1)) (a, rest) e in
    let c = bind_some (cell_at k.0.1) (λ y. Some ((k.0.0, y.0), y.1)) (a, rest) k.2 in
    let s = counted_sized 2 (is_within 1 256) bytes k.0.0 k.0.1 k.1 in
    let t = cell_read k.0.1 c.0.0 c.0.1 c.1 in
    got (λ z r. (n : ℕ) × (0 + length bytes ≡ n + length r) × Becomes change_of change_size change_values n z) (k.0.0, c.0.0) a c.0.1 rest c.2 (
      2 + length k.0.0 + t.0,
      omega (arith, s.0, t.1),
      λ total blocks b left f.
          let v = bind_some (value_at total blocks c.0.0) (λ v. Some (record { key = k.0.0; value = v.0 }, v.1)) (b, left) f in
          let u = t.2 total blocks v.0.0 v.0.1 v.1 in
          let change : Change = record { key = k.0.0; value = v.0.0 } in
          got (λ z r. (2 + length k.0.0 + t.0 ≡ change_size z) × (group_size blocks ≡ group_size (change_values z) + group_size r)) change b v.0.1 left v.2
          (omega (arith, u.0), u.1),
    )

transaction_read : IsRead 0 transaction_at changes_of transaction_size transaction_values
unfolding transaction_at
transaction_read = list_read change_at change_of change_size change_values change_read 1 (is_within 1 32)

transactions_read : IsRead 0 transactions_at (λ total blocks ts. each_of (changes_of total) blocks ts) (λ ts. 2 + sum_by transaction_size ts) (flat_map transaction_values)
unfolding transactions_at
transactions_read = list_read transaction_at changes_of transaction_size transaction_values transaction_read 2 (is_within 1 1024)

-- ---- a record

joined_sized : (blocks : List (List ℕ)) (t : List ℕ × List (List ℕ)) → joined_at blocks ≡ Some t → group_size blocks ≡ length t.0 + group_size t.1
unfolding joined_at
joined_sized [] t e = absurd cc
joined_sized (b ∷ blocks) t e =
    let n = bind_some (number_at 4 b) (λ n. joined 65536 (piece_count n.0) n.0 (b ∷ blocks)) t e in
    let s = joined_takes 65536 (omega arith) (piece_count n.0.0) n.0.0 (b ∷ blocks) t (enough n.0.0).0 n.2 in
    let room : length t.0 ≤ 65536 * piece_count n.0.0 = subst (λ (k : ℕ). k ≤ 65536 * piece_count n.0.0) (sym s.1) (enough n.0.0).0 in
    ap group_size s.0 ∙ group_size-append (cut 65536 (piece_count n.0.0) t.0) t.1 ∙ ap (λ (k : ℕ). k + group_size t.1) (cut_size 65536 (piece_count n.0.0) t.0 room)

-- what is read as a whole, behind w bytes, becomes so
abbrev IsWhole : {A B : Type 0} → ℕ → (List ℕ → Option A) → (ℕ → List (List ℕ) → A → Option (B × List (List ℕ))) → (B → ℕ) → (B → List (List ℕ)) → Type 0
IsWhole {A} {B} w read get size used = (bytes : List ℕ) (a : A) → read bytes ≡ Some a → (n : ℕ) × (length bytes ≡ w + n) × Becomes get size used n a

-- a number before what is read
module _ {A B : Type 0} (read : List ℕ → Option (A × List ℕ)) (get : ℕ → List (List ℕ) → A → Option (B × List (List ℕ))) (size : B → ℕ) (used : B → List (List ℕ)) (one : IsRead 0 read get size used) where
  abbrev get_second : ℕ → List (List ℕ) → ℕ × A → Option (B × List (List ℕ))
  get_second total blocks x = get total blocks x.1

  numbered_read : (w : ℕ) (test : ℕ × A → Bool) → IsRead 0 (only_at test (pair_at (number_at w) read)) get_second (λ b. w + size b) used
  numbered_read w test bytes a rest e =
      let p = bind_some (pair_at (number_at w) read bytes) (λ z. cond (test z.0) (Some z) None) (a, rest) e in
      let g = if_some (test p.0.0) p.0 (a, rest) p.2 in
      let f = bind_some (number_at w bytes) (λ z. read z.1 >>= λ y. Some ((z.0, y.0), y.1)) p.0 p.1 in
      let q = bind_some (read f.0.1) (λ y. Some ((f.0.0, y.0), y.1)) p.0 f.2 in
      let s = one f.0.1 q.0.0 q.0.1 q.1 in
      let made : (ℕ × A) × List ℕ = ((f.0.0, q.0.0), q.0.1) in
      subst (λ (z : (ℕ × A) × List ℕ). (n : ℕ) × (0 + length bytes ≡ n + length z.1) × Becomes get_second (λ b. w + size b) used n z.0) (some_is made p.0 q.2 ∙ g.1)
      (w + s.0, omega (arith, number_sized w bytes f.0.0 f.0.1 f.1, s.1), λ total blocks b left h. let u = s.2 total blocks b left h in (omega (arith, u.0), u.1))

  -- a length of the whole, and what is read behind it
  abbrev whole_at : ℕ → List ℕ → Option A
  whole_at w bytes = only_at (λ n. n == length bytes) (number_at w) bytes >>= λ n. read n.1 >>= λ x. whole (Some (x.0, x.1))

  whole_read : (w : ℕ) → IsWhole w (whole_at w) get size used
  whole_read w bytes a e =
      let n = bind_some (only_at (λ n. n == length bytes) (number_at w) bytes) (λ n. read n.1 >>= λ x. whole (Some (x.0, x.1))) a e in
      let y = bind_some (read n.0.1) (λ x. whole (Some (x.0, x.1))) a n.2 in
      let g = if_some (length y.0.1 == 0) y.0.0 a y.2 in
      let none : length y.0.1 ≡ 0 = eqb-true _ _ g.0 in
      let s = one n.0.1 y.0.0 y.0.1 y.1 in
      subst (λ (z : A). (n : ℕ) × (length bytes ≡ w + n) × Becomes get size used n z) g.1 (s.0, omega (arith, (tested_sized w (λ n. n == length bytes) bytes n.0.0 n.0.1 n.1).0, s.1, none), s.2)

text_read : IsWhole 4 text_at (λ total blocks x. each_of (changes_of total) blocks x.1) (λ ts. 8 + (2 + sum_by transaction_size ts)) (flat_map transaction_values)
unfolding text_at body_at
text_read =
    whole_read body_at (λ total blocks x. each_of (changes_of total) blocks x.1) (λ ts. 8 + (2 + sum_by transaction_size ts)) (flat_map transaction_values)
    (numbered_read transactions_at (λ total blocks ts. each_of (changes_of total) blocks ts) (λ ts. 2 + sum_by transaction_size ts) (flat_map transaction_values) transactions_read 8 is_numbered) 4

-- the text and the large values have no more bytes than the group
pub record_size : (group : List (List ℕ)) (r : LogRecord) → record_at group ≡ Some r → length (text r) + group_size (flat_map transaction_values r.transactions) ≤ group_size group
unfolding record_at transactions_of
record_size group r e =
    let make : ℕ → List (List Change) → LogRecord = λ first ts. record { first = first; transactions = ts } in
    let t = bind_some (joined_at group) (λ t. text_at t.0 >>= λ x. transactions_of t.1 x.1 >>= λ ts. Some (make x.0 ts)) r e in
    let x = bind_some (text_at t.0.0) (λ x. transactions_of t.0.1 x.1 >>= λ ts. Some (make x.0 ts)) r t.2 in
    let ts = bind_some (transactions_of t.0.1 x.0.1) (λ ts. Some (make x.0.0 ts)) r x.2 in
    let v = bind_some (each_of (changes_of (length t.0.1)) t.0.1 x.0.1) (λ z. cond (length z.1 == 0) (Some z.0) None) ts.0 ts.1 in
    let all = if_some (length v.0.1 == 0) v.0.0 ts.0 v.2 in
    let s = text_read t.0.0 x.0 x.1 in
    let u = s.2 (length t.0.1) t.0.1 v.0.0 v.0.1 v.1 in
    let made : LogRecord = record { first = x.0.0; transactions = v.0.0 } in
    let made_is : made ≡ r = ap (λ z. make x.0.0 z) all.1 ∙ some_is (make x.0.0 ts.0) r ts.2 in
    subst (λ (z : LogRecord). length (text z) + group_size (flat_map transaction_values z.transactions) ≤ group_size group) made_is
    (omega (arith, joined_sized group t.0 t.1, s.1, u.0, u.1, length-text made))
