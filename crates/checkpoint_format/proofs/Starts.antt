-- A page that is searched by halves.
use Rattle.std.proofs.Common.{◌≡◌, ℕ, zero, suc, ◌-◌, ◌+◌, ◌<◌, ◌≤◌, Bool, true, false, cond, List, [], ◌∷◌, ◌++◌, length, map, take, drop, get_or, Option, Some, None, refl, sym, ap, subst, ◌∙◌, arith}
use Rattle.std.specs.Prelude.{nat_le, ◌==◌, Result, Ok, Err, IfOk}
use denote.Ref.{Bor}
use Rattle.std.specs.Ordering.{ordering_reverse, is_lt, is_eq}
use Rattle.std.specs.declared.cmp.Ordering.{Ordering}
use Rattle.std.specs.declared.cmp.Ordering.TheVariants.{Less, Equal, Greater}
use Rattle.std.specs.Cmp.Lexicographic.{nat_list_cmp_total}
use Rattle.std.specs.List.Sorted.{IsPartitionedBy, IsPartitionPoint}
use Rattle.std.specs.BTreeMap.{is_at}
use Rattle.std.proofs.lemmas.Bool.{and_parts, leb-true}
use Rattle.std.proofs.lemmas.List.{append-nil, drop_at, length-append, map-append, take-append-drop}
use Rattle.block_types.specs.Limits.{is_within}
use Rattle.blocks.specs.Format.{◌>>=◌, Gives, IsEndOf}
use Rattle.block_types.specs.declared.fault.BlockFault.{BlockFault}
use Rattle.block_types.specs.declared.fault.BlockFault.TheVariants as faults
use Rattle.blocks.proofs.Formats.{IsBytes, bind_some, some_is}
use Rattle.commitlog.specs.Reading.{counted_at}
use Rattle.memtable.specs.declared.cell.Cell.{Cell}
use Rattle.memtable.specs.Entries.{Entries, key_cmp, found}
use Rattle.checkpoint_format.specs.Page.{cell_at, entry_at, entries_at, found_at, is_ascending}
use Rattle.checkpoint_format.specs.declared.entry.EntryPart.{EntryPart}
use Rattle.checkpoint_format.specs.Walk.{count_at, entry_above, part_entry, IsEntryOf}
use Rattle.checkpoint_format.specs.Starts.{entry_from, AreStarts, key_from, is_key_below, is_below, first_from, cell_from}
use Rattle.checkpoint_format.proofs.Texts.{end_of_end, key_lies, bytes_of_end}
use Rattle.checkpoint_format.proofs.Pages.{page_ascends}
use Rattle.checkpoint_format.proofs.Walk.{walk, with_before, before_none, before_more, walk_goes_on, walk_stops, walk_ends}

abbrev Entry : Type 0
Entry = List ℕ × Cell

abbrev some_entry : Entry → Option Entry
some_entry e = Some e

-- ---- the order of keys

less_is : (r : Ordering) → is_lt r ≡ true → r ≡ Less
less_is Less e = refl
less_is Equal e = absurd cc
less_is Greater e = absurd cc

less_trans : (a b c : List ℕ) → key_cmp a b ≡ Less → key_cmp b c ≡ Less → key_cmp a c ≡ Less
less_trans a b c = nat_list_cmp_total.trans a b c

turned : (a b : List ℕ) (r : Ordering) → key_cmp a b ≡ r → key_cmp b a ≡ ordering_reverse r
turned a b r is = nat_list_cmp_total.antisymm b a ∙ ap ordering_reverse is

is_not_at : (key other : List ℕ) (r : Ordering) → key_cmp key other ≡ r → is_eq r ≡ false → is_at (key_cmp key) other ≡ false
is_not_at key other r is away = ap is_eq is ∙ away

first_two : (e f : Entry) (es : Entries) → is_ascending (e ∷ f ∷ es) ≡ true → (key_cmp e.0 f.0 ≡ Less) × (is_ascending (f ∷ es) ≡ true)
first_two e f es up =
    let parts = and_parts (is_lt (key_cmp e.0 f.0)) (is_ascending (f ∷ es)) up in
    (less_is (key_cmp e.0 f.0) parts.0, parts.1)

ascending_tail : (e : Entry) (es : Entries) → is_ascending (e ∷ es) ≡ true → is_ascending es ≡ true
ascending_tail e [] up = refl
ascending_tail e (f ∷ es) up = (first_two e f es up).1

-- ---- the first entry that is not below a key

abbrev at_first : List ℕ → Entries → Option Cell
at_first key [] = None
at_first key (e ∷ es) = cond (is_lt (key_cmp e.0 key)) (at_first key es) (found (e ∷ []) key)

-- no key of entries that begin above a key is that key
none_above : (key : List ℕ) (e : Entry) (es : Entries) → key_cmp key e.0 ≡ Less → is_ascending (e ∷ es) ≡ true → found (e ∷ es) key ≡ None
none_above key e [] less up =
    let away : is_at (key_cmp key) e.0 ≡ false = is_not_at key e.0 Less less refl in
    rw away refl
none_above key e (f ∷ es) less up =
    let two = first_two e f es up in
    let away : is_at (key_cmp key) e.0 ≡ false = is_not_at key e.0 Less less refl in
    rw away (none_above key f es (less_trans key e.0 f.0 less two.0) two.1)

found_first : (key : List ℕ) (es : Entries) → is_ascending es ≡ true → found es key ≡ at_first key es
found_first key [] up = refl
found_first key (e ∷ es) up = by (found_first key es (ascending_tail e es up)) (key_cmp e.0 key) refl
  where
    by : found es key ≡ at_first key es → (r : Ordering) → key_cmp e.0 key ≡ r → found (e ∷ es) key ≡ at_first key (e ∷ es)
    by others Less is =
        let away : is_at (key_cmp key) e.0 ≡ false = is_not_at key e.0 Greater (turned e.0 key Less is) refl in
        let lower : is_lt (key_cmp e.0 key) ≡ true = ap is_lt is in
        rw (away, lower) others
    by others Equal is =
        let yes : is_at (key_cmp key) e.0 ≡ true = ap is_eq (turned e.0 key Equal is) in
        let lower : is_lt (key_cmp e.0 key) ≡ false = ap is_lt is in
        rw (yes, lower) refl
    by others Greater is =
        let less : key_cmp key e.0 ≡ Less = turned e.0 key Greater is in
        let lower : is_lt (key_cmp e.0 key) ≡ false = ap is_lt is in
        none_above key e es less up ∙ sym (none_above key e [] less refl) ∙ sym (ap (λ (b : Bool). cond b (at_first key es) (found (e ∷ []) key)) lower)

-- ---- what begins at a start

key_of_entry : (page : List ℕ) (start : ℕ) (e : Entry) → entry_from page start ≡ Some e → key_from page start ≡ Some e.0
unfolding entry_at
key_of_entry page start e is =
    let x = bind_some (entry_at (drop start page)) (λ x. Some x.0) e is in
    let k = bind_some (counted_at 2 (is_within 1 256) (drop start page)) (λ a. cell_at a.1 >>= λ b. Some ((a.0, b.0), b.1)) x.0 x.1 in
    let c = bind_some (cell_at k.0.1) (λ b. Some ((k.0.0, b.0), b.1)) x.0 k.2 in
    let made : Entry × List ℕ = ((k.0.0, c.0.0), c.0.1) in
    let entry : made ≡ x.0 = some_is made x.0 c.2 in
    let same : x.0.0 ≡ e = some_is x.0.0 e x.2 in
    ap (λ (o : Option (List ℕ × List ℕ)). o >>= λ a. Some a.0) k.1 ∙ ap (λ (y : Entry × List ℕ). Some y.0.0) entry ∙ ap (λ (y : Entry). Some y.0) same

below_is : (page key : List ℕ) (start : ℕ) (e : Entry) → entry_from page start ≡ Some e → is_below page key start ≡ is_lt (key_cmp e.0 key)
below_is page key start e is = ap (is_key_below key) (key_of_entry page start e is)

head_is : (page : List ℕ) (start : ℕ) (starts : List ℕ) (e : Entry) (es : Entries) → map (entry_from page) (start ∷ starts) ≡ map some_entry (e ∷ es)
    → (entry_from page start ≡ Some e) × (map (entry_from page) starts ≡ map some_entry es)
head_is page start starts e es each = (cc, cc)

first_is : (page key : List ℕ) (starts : List ℕ) (es : Entries) → map (entry_from page) starts ≡ map some_entry es → at_first key es ≡ (first_from page key starts >>= cell_from page key)
first_is page key [] [] each = refl
first_is page key [] (e ∷ es) each = absurd cc
first_is page key (start ∷ starts) [] each = absurd cc
first_is page key (start ∷ starts) (e ∷ es) each = by (first_is page key starts es (head_is page start starts e es each).1) (is_lt (key_cmp e.0 key)) refl
  where
    heads : (entry_from page start ≡ Some e) × (map (entry_from page) starts ≡ map some_entry es)
    heads = head_is page start starts e es each

    by : at_first key es ≡ (first_from page key starts >>= cell_from page key) → (b : Bool) → is_lt (key_cmp e.0 key) ≡ b → at_first key (e ∷ es) ≡ (first_from page key (start ∷ starts) >>= cell_from page key)
    by others true is =
        let lower : is_below page key start ≡ true = below_is page key start e heads.0 ∙ is in
        rw (is, lower) others
    by others false is =
        let lower : is_below page key start ≡ false = below_is page key start e heads.0 ∙ is in
        rw (is, lower) (sym (ap (λ (o : Option Entry). o >>= λ e. found (e ∷ []) key) heads.0))

pub found_is : (page key starts : List ℕ) → IsBytes page → AreStarts page starts → found_at page key ≡ Some (first_from page key starts >>= cell_from page key)
found_is page key starts fits is =
    let up = page_ascends page is.entries fits is.spelled in
    ap (λ (o : Option Entries). o >>= λ es. Some (found es key)) is.spelled
    ∙ ap (λ (o : Option Cell). Some o) (found_first key is.entries up ∙ first_is page key starts is.entries is.each)

-- ---- the search by halves

not_below : (a b key : List ℕ) → key_cmp a b ≡ Less → is_lt (key_cmp a key) ≡ false → is_lt (key_cmp b key) ≡ false
not_below a b key less above = by (is_lt (key_cmp b key)) refl
  where
    by : (r : Bool) → is_lt (key_cmp b key) ≡ r → r ≡ false
    by false is = refl
    by true is =
        let yes : is_lt (key_cmp a key) ≡ true = ap is_lt (less_trans a b key less (less_is (key_cmp b key) is)) in
        absurd (cc (yes, above))

none_below : (page key : List ℕ) (e : Entry) (starts : List ℕ) (es : Entries) → map (entry_from page) starts ≡ map some_entry es → is_ascending (e ∷ es) ≡ true → is_lt (key_cmp e.0 key) ≡ false
    → (j d : ℕ) → j < length starts → is_below page key (get_or starts j d) ≡ false
none_below page key e [] es each up above j d inside = absurd (omega arith)
none_below page key e (start ∷ starts) [] each up above j d inside = absurd cc
none_below page key e (start ∷ starts) (f ∷ es) each up above zero d inside =
    below_is page key start f (head_is page start starts f es each).0 ∙ not_below e.0 f.0 key (first_two e f es up).0 above
none_below page key e (start ∷ starts) (f ∷ es) each up above (suc j) d inside =
    none_below page key f starts es (head_is page start starts f es each).1 (first_two e f es up).1 (not_below e.0 f.0 key (first_two e f es up).0 above) j d (omega arith)

parted_by : (page key : List ℕ) (starts : List ℕ) (es : Entries) → map (entry_from page) starts ≡ map some_entry es → is_ascending es ≡ true → IsPartitionedBy (is_below page key) starts
parted_by page key [] es each up = λ i j d le inside from. absurd (omega arith)
parted_by page key (start ∷ starts) [] each up = absurd cc
parted_by page key (start ∷ starts) (e ∷ es) each up = by (parted_by page key starts es heads.1 (ascending_tail e es up))
  where
    heads : (entry_from page start ≡ Some e) × (map (entry_from page) starts ≡ map some_entry es)
    heads = head_is page start starts e es each

    before : (j d : ℕ) → j < length starts → is_below page key (get_or starts j d) ≡ true → (b : Bool) → is_lt (key_cmp e.0 key) ≡ b → is_below page key start ≡ true
    before j d inside from true is = below_is page key start e heads.0 ∙ is
    before j d inside from false is =
        let above = none_below page key e starts es heads.1 up is j d inside in
        absurd (cc (from, above))

    by : IsPartitionedBy (is_below page key) starts → (i j d : ℕ) → i ≤ j → j < length (start ∷ starts) → is_below page key (get_or (start ∷ starts) j d) ≡ true → is_below page key (get_or (start ∷ starts) i d) ≡ true
    by others zero zero d le inside from = from
    by others zero (suc j) d le inside from = before j d (omega arith) from (is_lt (key_cmp e.0 key)) refl
    by others (suc i) zero d le inside from = absurd (omega arith)
    by others (suc i) (suc j) d le inside from = others i j d (omega arith) (omega arith) from

pub parted : (page key starts : List ℕ) → IsBytes page → AreStarts page starts → IsPartitionedBy (is_below page key) starts
parted page key starts fits is = parted_by page key starts is.entries is.each (page_ascends page is.entries fits is.spelled)

abbrev IsPoint : List ℕ → List ℕ → List ℕ → ℕ → Type 0
IsPoint page key starts n = IsPartitionPoint (λ y. is_below page key y ≡ true) (λ y. is_below page key y ≡ false) starts n

next_point : (page key : List ℕ) (start : ℕ) (starts : List ℕ) (n : ℕ) → IsPoint page key (start ∷ starts) (suc n) → IsPoint page key starts n
next_point page key start starts n point = (λ k d less inside. point.0 (suc k) d (omega arith) (omega arith), λ k d le inside. point.1 (suc k) d (omega arith) (omega arith))

pub point_none : (page key starts : List ℕ) (n : ℕ) → n ≡ length starts → IsPoint page key starts n → None ≡ first_from page key starts
point_none page key [] n is point = refl
point_none page key (start ∷ starts) zero is point = absurd (omega arith)
point_none page key (start ∷ starts) (suc n) is point =
    let lower : is_below page key start ≡ true = point.0 zero start (omega arith) (omega arith) in
    rw lower (point_none page key starts n (omega arith) (next_point page key start starts n point))

pub point_some : (page key starts : List ℕ) (n d : ℕ) → n < length starts → IsPoint page key starts n → Some (get_or starts n d) ≡ first_from page key starts
point_some page key [] n d inside point = absurd (omega arith)
point_some page key (start ∷ starts) zero d inside point =
    let lower : is_below page key start ≡ false = point.1 zero start (omega arith) (omega arith) in
    rw lower refl
point_some page key (start ∷ starts) (suc n) d inside point =
    let lower : is_below page key start ≡ true = point.0 zero start (omega arith) (omega arith) in
    rw lower (point_some page key starts n d (omega arith) (next_point page key start starts n point))

-- ---- an entry that begins at a start

pub gives_key : (page : List ℕ) (start : ℕ) (bytes : List ℕ) (r : Result (Bor (List ℕ) × Bor (List ℕ)) BlockFault) → bytes ≡ drop start page → Gives (λ x. (x.0.now, x.1.now)) r (counted_at 2 (is_within 1 256) bytes)
    → Gives (λ x. x.0.now) r (key_from page start)
gives_key page start bytes (Ok x) same is = ap (λ (l : List ℕ). counted_at 2 (is_within 1 256) l >>= λ k. Some k.0) (sym same) ∙ ap (λ (o : Option (List ℕ × List ℕ)). o >>= λ k. Some k.0) is
gives_key page start bytes (Err faults.Memory) same is = tt
gives_key page start bytes (Err faults.Damaged) same is = ap (λ (l : List ℕ). counted_at 2 (is_within 1 256) l >>= λ k. Some k.0) (sym same) ∙ ap (λ (o : Option (List ℕ × List ℕ)). o >>= λ k. Some k.0) is

pub gives_entry : (page : List ℕ) (start : ℕ) (bytes : List ℕ) (r : Result EntryPart BlockFault) → bytes ≡ drop start page → Gives (λ e. (part_entry e, e.after.now)) r (entry_at bytes) → Gives part_entry r (entry_from page start)
gives_entry page start bytes (Ok e) same is = ap (λ (l : List ℕ). entry_at l >>= λ x. Some x.0) (sym same) ∙ ap (λ (o : Option (Entry × List ℕ)). o >>= λ x. Some x.0) is
gives_entry page start bytes (Err faults.Memory) same is = tt
gives_entry page start bytes (Err faults.Damaged) same is = ap (λ (l : List ℕ). entry_at l >>= λ x. Some x.0) (sym same) ∙ ap (λ (o : Option (Entry × List ℕ)). o >>= λ x. Some x.0) is

pub entry_part : (page : List ℕ) (start : ℕ) (bytes : List ℕ) (r : Result EntryPart BlockFault) → IsBytes page → bytes ≡ drop start page → Gives (λ e. (part_entry e, e.after.now)) r (entry_at bytes) → IfOk r (λ e. e.bytes.now ≡ bytes)
    → IfOk r (IsEntryOf page)
entry_part page start bytes (Ok e) fits same read own = record {
  bytes = fits;
  end = record { front = take start page; parts = sym (take-append-drop start page) ∙ ap (λ (l : List ℕ). take start page ++ l) (sym (own ∙ same)) };
  read = ap entry_at own ∙ read;
}
entry_part page start bytes (Err e) fits same read own = tt

-- ---- the starts are made

-- some entries were walked through and begin at these places, and so many are left
pub record HasBegun (page starts : List ℕ) (left : ℕ) (last rest : List ℕ) : Type 0 where
  pub entries : Entries
  pub each : map (entry_from page) starts ≡ map some_entry entries
  pub walked : with_before entries (walk left last rest) ≡ entries_at page
  pub end : IsEndOf rest page

pub end_small : (bytes rest : List ℕ) → IsEndOf rest bytes → length rest ≤ length bytes
end_small bytes rest end = omega (arith, ap length end.parts, length-append end.front rest)

drop_end : (page rest : List ℕ) → IsEndOf rest page → drop (length page - length rest) page ≡ rest
drop_end page rest end =
    let size : length page ≡ length end.front + length rest = ap length end.parts ∙ length-append end.front rest in
    let start : length page - length rest ≡ length end.front = omega (arith, size) in
    ap (λ (n : ℕ). drop n page) start ∙ ap (λ (l : List ℕ). drop (length end.front) l) end.parts ∙ drop_at end.front rest (length end.front) refl

-- an entry begins below the end of a page of one block
pub start_small : (page rest : List ℕ) (e : Entry) (after : List ℕ) → IsBytes page → IsEndOf rest page → length page ≤ 65536 → entry_at rest ≡ Some (e, after) → length page - length rest < 65536
start_small page rest e after fits end small read =
    let lies = key_lies rest e.0 e.1 after (bytes_of_end page rest fits end) read in
    omega (arith, lies.0, end_small page rest end, small)

pub count_small : (page : List ℕ) (n : ℕ × List ℕ) → count_at page ≡ Some n → length page ≤ 65536
unfolding count_at
count_small page n is = by (nat_le (length page) 65536) refl
  where
    by : (b : Bool) → nat_le (length page) 65536 ≡ b → length page ≤ 65536
    by true e = leb-true _ _ e
    by false e =
        let none : count_at page ≡ None = rw e refl in
        absurd (cc (none, is))

pub begun : (page rest : List ℕ) (left : ℕ) → walk left [] rest ≡ entries_at page → IsEndOf rest page → HasBegun page [] left [] rest
begun page rest left walked end = record {
  entries = [];
  each = refl;
  walked = before_none (walk left [] rest) ∙ walked;
  end = end;
}

pub one_more : (page starts : List ℕ) (count i : ℕ) (last rest : List ℕ) (e : Entry) (after : List ℕ) → HasBegun page starts (count - i) last rest → i < count
    → entry_above last rest ≡ Some (e, after) → entry_at rest ≡ Some (e, after) → IsEndOf after rest → HasBegun page (starts ++ (length page - length rest) ∷ []) (count - (i + 1)) e.0 after
one_more page starts count i last rest e after h lt above read end = record {
  entries = h.entries ++ e ∷ [];
  each = map-append (entry_from page) starts ((length page - length rest) ∷ []) ∙ (λ k. h.each k ++ here k ∷ []) ∙ sym (map-append some_entry h.entries (e ∷ []));
  walked = walk_goes_on count i last rest (with_before h.entries) (with_before (h.entries ++ e ∷ [])) (entries_at page) e after lt above (before_more h.entries e) h.walked;
  end = end_of_end page rest after h.end end;
}
  where
    here : entry_from page (length page - length rest) ≡ Some e
    here = ap (λ (l : List ℕ). entry_at l >>= λ x. Some x.0) (drop_end page rest h.end) ∙ ap (λ (o : Option (Entry × List ℕ)). o >>= λ x. Some x.0) read

pub no_more : (page starts : List ℕ) (count i : ℕ) (last rest : List ℕ) → HasBegun page starts (count - i) last rest → i < count → entry_above last rest ≡ None → entries_at page ≡ None
no_more page starts count i last rest h lt none = sym (walk_stops count i last rest (with_before h.entries) (entries_at page) lt none h.walked)

pub bytes_left : (page starts : List ℕ) (count i : ℕ) (last rest : List ℕ) → HasBegun page starts (count - i) last rest → count ≤ i → (length rest == 0) ≡ false → entries_at page ≡ None
bytes_left page starts count i last rest h le some =
    sym (walk_ends count i last rest (with_before h.entries) (entries_at page) le h.walked)
    ∙ ap (λ (b : Bool). with_before h.entries (cond b (Some []) None)) some

pub all_begun : (page starts : List ℕ) (count i : ℕ) (last rest : List ℕ) → HasBegun page starts (count - i) last rest → count ≤ i → (length rest == 0) ≡ true → AreStarts page starts
all_begun page starts count i last rest h le none = record {
  entries = h.entries;
  spelled =
      sym (walk_ends count i last rest (with_before h.entries) (entries_at page) le h.walked)
      ∙ ap (λ (b : Bool). with_before h.entries (cond b (Some []) None)) none
      ∙ ap (λ (l : Entries). Some l) (append-nil h.entries);
  each = h.each;
}

-- ---- what is found

pub found_by : (self page bytes key starts begins : List ℕ) (first : Option ℕ) → IsBytes bytes → AreStarts page starts → page ≡ self → bytes ≡ page → begins ≡ starts → first ≡ first_from bytes key begins
    → found_at self key ≡ Some (first >>= cell_from page key)
found_by self page bytes key starts begins first fits is page_is bytes_is begins_is first_is =
    ap (λ (l : List ℕ). found_at l key) (sym page_is) ∙ found_is page key starts (subst IsBytes bytes_is fits) is
    ∙ ap (λ (o : Option ℕ). Some (o >>= cell_from page key)) (sym (first_is ∙ (λ i. first_from (bytes_is i) key (begins_is i))))

pub found_ok : {E : Type 0} (r : Result (Option Cell) E) (read : Option (Option Cell)) (cell : Option Cell) → read ≡ Some cell → IfOk r (λ c. c ≡ cell) → IfOk r (λ c. read ≡ Some c)
found_ok (Ok c) read cell is same = is ∙ ap (λ (o : Option Cell). Some o) (sym same)
found_ok (Err e) read cell is same = tt
