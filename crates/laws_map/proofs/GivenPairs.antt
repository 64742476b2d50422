-- In a run without merges the map gives each number to one split, and assigns no range of a pair before somebody asks to complete its split.
use Rattle.std.proofs.Common.{◌≡◌, ◌⊎◌, ℕ, zero, suc, ◌+◌, ◌<◌, ◌≤◌, ◌^◌, Bool, true, false, not, ◌&&◌, ◌||◌, ◌==◌, nat_lt, List, [], ◌∷◌, ◌++◌, map, Option, Some, None, bytes_eq, Contains, refl, sym, ap, ◌∙◌, subst, inl, inr, arith, if◌then◌else◌}
use Rattle.std.proofs.lemmas.Bool.{and_parts, eqb-true}
use Rattle.std.proofs.lemmas.Slice.Eq.{bytes_eq-Decides}
use Rattle.metadata.specs.declared.record.KeyRange.{KeyRange}
use Rattle.wire.specs.declared.actor.ActorId.{ActorId}
use Rattle.wire.specs.declared.actor.ReqNo.{ReqNo}
use Rattle.wire.specs.declared.body.Body.{Body}
use Rattle.wire.specs.declared.body.Body.TheVariants as bodies
use Rattle.wire.specs.declared.body.MapBody.{MapBody}
use Rattle.wire.specs.declared.body.MapBody.TheVariants as maps
use Rattle.wire.specs.declared.packet.Packet.{Packet}
use Rattle.wire.specs.declared.refusal.Refusal.{Refusal}
use Rattle.wire.specs.declared.refusal.Refusal.TheVariants.{BadSplitKey, GenerationChanged}
use Rattle.model_streams.specs.Outcome.{Outcome, silent}
use Rattle.model_streams.specs.StreamSystem.{is_request}
use Rattle.model_streams.proofs.Tests.{if_elim, none_met}
use Rattle.model_partition.specs.declared.pending.Pending.{Pending}
use Rattle.model_partition.specs.declared.pending.Pending.TheVariants as pendings
use Rattle.model_partition.specs.declared.range_entry.RangeEntry.{RangeEntry}
use Rattle.model_partition.specs.Map.{MapState, range_at, range_of_key, changed_if, with_range, assigned, renewed, is_merge_with, dropped_if, with_pending, assign, is_split_key, halves_at, begin_split, half, halves, split_in, complete_split}
use Rattle.model_partition.specs.MapRules.{assign_rule, renew_rule, has_numbers, begin_split_fault, begin_split_taken, begin_split_rule, is_split, complete_split_fault, complete_split_taken, complete_split_rule, route_rule, called, told, map_rule}
use Rattle.model_partition.specs.Partition.{IsSound}
use Rattle.laws_map.specs.Naming.{Each, Knowledge, BodyNames, PacketNames}
use Rattle.laws_map.specs.Generations.{HasAsked}
use Rattle.laws_map.specs.GivenPairs.{GivenPair, given_to, HasNumber, AreGivenBelow, AsksToComplete, IsCompleted, EntryGives, MapGives, giving}
use Rattle.laws_map.proofs.Knowing.{Extends}
use Rattle.laws_map.proofs.EventNames.{RuleNames}
use Rattle.laws_map.proofs.GivenNumbers.{entry_number, found_given, halves_pending}
use Rattle.laws_map.proofs.GoneRanges.{found_knows}
use Rattle.laws_map.proofs.WithinMaps.{each_map, each_and, HasNot, entry_only}

-- ---- numbers that were given

-- each is below the bound
pub given_below : (next : ℕ) (given : List GivenPair) (pair : GivenPair) → AreGivenBelow next given → Contains given pair → (pair.low < pair.high) × (pair.high < next)
given_below next [] pair below (k, less, is) = absurd (omega (arith, less))
given_below next (newest ∷ older) pair below (zero, less, is) = subst (λ (p : GivenPair). (p.low < p.high) × (p.high < next)) is (below.0, below.1)
given_below next (newest ∷ older) pair below (suc k, less, is) =
    let b = given_below newest.low older pair below.2 (k, omega (arith, less), is) in
    let apart = below.0 in
    let last = below.1 in
    let mine = b.1 in
    (b.0, omega (arith, mine, apart, last))

number_below : (n next : ℕ) (pair : GivenPair) → (pair.low < pair.high) × (pair.high < next) → HasNumber n pair → n < next
number_below n next pair b (inl low) = let x = b.0 in let y = b.1 in omega (arith, x, y, low)
number_below n next pair b (inr high) = let y = b.1 in omega (arith, y, high)

number_above : (n next : ℕ) (pair : GivenPair) → (pair.low < pair.high) × (pair.high < next) → HasNumber n pair → pair.low ≤ n
number_above n next pair b (inl low) = omega (arith, low)
number_above n next pair b (inr high) = let x = b.0 in omega (arith, x, high)

over_first : (next : ℕ) (given : List GivenPair) → AreGivenBelow next given → 1 < next
over_first next [] below = below
over_first next (newest ∷ older) below =
    let over = over_first newest.low older below.2 in
    let apart = below.0 in
    let last = below.1 in
    omega (arith, over, apart, last)

-- and above the first range's number
pub given_over : (next : ℕ) (given : List GivenPair) (pair : GivenPair) → AreGivenBelow next given → Contains given pair → 1 < pair.low
given_over next [] pair below (k, less, is) = absurd (omega (arith, less))
given_over next (newest ∷ older) pair below (zero, less, is) = subst (λ (p : GivenPair). 1 < p.low) is (over_first newest.low older below.2)
given_over next (newest ∷ older) pair below (suc k, less, is) = given_over newest.low older pair below.2 (k, omega (arith, less), is)

-- a number is of one pair
pub given_once : (next : ℕ) (given : List GivenPair) (n : ℕ) (a b : GivenPair) → AreGivenBelow next given → Contains given a → Contains given b → HasNumber n a → HasNumber n b → a ≡ b
given_once next [] n a b below (k, less, is) other ha hb = absurd (omega (arith, less))
given_once next (newest ∷ older) n a b below (zero, less, is) (zero, also, same) ha hb = sym is ∙ same
given_once next (newest ∷ older) n a b below (suc k, less, is) (suc j, also, same) ha hb = given_once newest.low older n a b below.2 (k, omega (arith, less), is) (j, omega (arith, also), same) ha hb
given_once next (newest ∷ older) n a b below (zero, less, is) (suc j, also, same) ha hb =
    let x = number_below n newest.low b (given_below newest.low older b below.2 (j, omega (arith, also), same)) hb in
    let y = number_above n next newest (below.0, below.1) (subst (HasNumber n) (sym is) ha) in
    absurd (omega (arith, x, y))
given_once next (newest ∷ older) n a b below (suc k, less, is) (zero, also, same) ha hb =
    let x = number_below n newest.low a (given_below newest.low older a below.2 (k, omega (arith, less), is)) ha in
    let y = number_above n next newest (below.0, below.1) (subst (HasNumber n) (sym same) hb) in
    absurd (omega (arith, x, y))

given_later : (a b : ℕ) (given : List GivenPair) → a ≤ b → AreGivenBelow a given → AreGivenBelow b given
given_later a b [] less below = omega (arith, less, below)
given_later a b (newest ∷ older) less below = (below.0, (let x = below.1 in omega (arith, x, less)), below.2)

newest_in : (pair : GivenPair) (given : List GivenPair) → Contains (pair ∷ given) pair
newest_in pair given = (0, omega arith, refl)

older_in : (newest pair : GivenPair) (given : List GivenPair) → Contains given pair → Contains (newest ∷ given) pair
older_in newest pair given (k, less, is) = (suc k, omega (arith, less), is)

in_cases : (newest pair : GivenPair) (given : List GivenPair) → Contains (newest ∷ given) pair → (newest ≡ pair) ⊎ Contains given pair
in_cases newest pair given (zero, less, is) = inl is
in_cases newest pair given (suc k, less, is) = inr (k, omega (arith, less), is)

-- a number below both of the newest pair is of an older one
pub completed_more : (newest : GivenPair) (given : List GivenPair) (post : List Packet) (next n : ℕ) → next ≤ newest.low → newest.low < newest.high → n < next → IsCompleted given post n → IsCompleted (newest ∷ given) post n
completed_more newest given post next n above apart below c pair among has = elim (in_cases newest pair given among) [
  | inl is ↦ absurd (let l = number_above n (suc newest.high) newest (apart, omega arith) (subst (HasNumber n) (sym is) has) in omega (arith, l, above, below))
  | inr older ↦ c pair older has
]

-- ---- the rules of the map

module _ (asks post : List Packet) (m : MapState) (s : IsSound m) (given : List GivenPair) (x : MapGives given post m) where
  abbrev pub K : List GivenPair → MapState → Knowledge
  K pairs a = giving pairs asks post a.next

  -- what a rule leaves, where these pairs are given by then
  pub record Keeps (pairs : List GivenPair) (o : Outcome MapState) : Type 0 where
    pub map : MapGives pairs post o.after
    pub rule : RuleNames (K pairs) m o

  -- a pair with the map's next two numbers
  pub record IsNext (pair : GivenPair) : Type 0 where
    pub low : pair.low ≡ m.next
    pub high : pair.high ≡ suc m.next

  abbrev pub Giving : Outcome MapState → Type 0
  Giving o = Keeps given o ⊎ ((pair : GivenPair) × IsNext pair × Keeps (pair ∷ given) o)

  pub extends : (pairs : List GivenPair) (a : MapState) → m.next ≤ a.next → Extends (K pairs m) (K pairs a)
  extends pairs a less = record {
    knows = λ n g k. k;
    assigned = λ n g k. (let l = k.0 in (omega (arith, l, less), k.1));
    asked = λ q n g key k. k;
    begun = λ q low high k. k;
    splits = λ n g key low high k. k;
    numbers = λ n k. k;
    merges = λ n g k. k;
  }

  same_map : Extends (K given m) (K given m)
  same_map = extends given m (omega arith)

  silent_gives : Giving (silent m)
  silent_gives = inl (record { map = x; rule = record { extends = same_map; packets = tt } })

  called_gives : (p : Packet) (q : ReqNo) (fault : Option Refusal) (o : Outcome MapState) → (fault ≡ None → Giving o) → Giving (called m p q fault o)
  called_gives p q (Some refusal) o taken = inl (record { map = x; rule = record { extends = same_map; packets = (tt, tt) } })
  called_gives p q None o taken = taken refl

  found_gives : (n : ℕ) (r : RangeEntry) → range_at m.ranges n ≡ Some r → EntryGives given post m.next r
  found_gives n r at = found_knows (EntryGives given post m.next) n m.ranges r x.entries at

  -- what is pending is dropped at the entry of a number
  record Dropped (n : ℕ) (r : RangeEntry) : Type 0 where
    entry : EntryGives given post m.next r
    none : (r.range == n) ≡ true → r.pending ≡ None

  drops : (n : ℕ) (r : RangeEntry) → EntryGives given post m.next r → Dropped n (dropped_if n r)
  drops n r e = go (r.range == n) refl
    where
      cleared : Dropped n (record r { pending = None })
      cleared = record { entry = record { number = e.number; completed = e.completed; pending = λ key low high is. absurd cc }; none = λ t. refl }

      go : (b : Bool) → (r.range == n) ≡ b → Dropped n (if b || is_merge_with n r.pending then record r { pending = None } else r)
      go true t = cleared
      go false f =
          if_elim (Dropped n) (is_merge_with n r.pending) (record r { pending = None }) r (λ t. cleared)
          (λ u. record { entry = e; none = λ t. absurd (let z : true ≡ false = sym t ∙ f in cc) })

  all_dropped : (n : ℕ) → Each (Dropped n) (map (dropped_if n) m.ranges)
  all_dropped n = each_map (EntryGives given post m.next) (Dropped n) (dropped_if n) (drops n) m.ranges x.entries

  pub assign_gives : (n server until : ℕ) (o : Option RangeEntry) → range_at m.ranges n ≡ o → Keeps given (assign_rule m n server until o)
  assign_gives n server until None at = record { map = x; rule = record { extends = same_map; packets = tt } }
  assign_gives n server until (Some r) at =
      if_elim (Keeps given) (nat_lt (suc r.generation) (2 ^ 64)) _ _
      (λ t. record {
        map = record { below = x.below; entries = each_map (Dropped n) (EntryGives given post m.next) (changed_if n (assigned server until)) step (map (dropped_if n) m.ranges) (all_dropped n) };
        rule = record { extends = extends given (assign m n server until) (omega arith); packets = ((found_given m s n r at, subst (IsCompleted given post) (entry_number n m.ranges r at) (found_gives n r at).completed), tt) };
      })
      (λ f. record { map = x; rule = record { extends = same_map; packets = tt } })
    where
      step : (y : RangeEntry) → Dropped n y → EntryGives given post m.next (changed_if n (assigned server until) y)
      step y d =
          if_elim (EntryGives given post m.next) (y.range == n) (assigned server until y) y
          (λ t. record { number = d.entry.number; completed = d.entry.completed; pending = λ key low high is. absurd (let z : None ≡ Some (pendings.Split key low high) = sym (d.none t) ∙ is in cc) }) (λ f. d.entry)

  pub renew_gives : (n server until : ℕ) (o : Option RangeEntry) → range_at m.ranges n ≡ o → Keeps given (renew_rule m n server until o)
  renew_gives n server until None at = record { map = x; rule = record { extends = same_map; packets = tt } }
  renew_gives n server until (Some r) at = record {
    map = record { below = x.below; entries = each_map (EntryGives given post m.next) (EntryGives given post m.next) (changed_if n (renewed until)) step m.ranges x.entries };
    rule = record { extends = extends given (with_range m n (renewed until)) (omega arith); packets = ((found_given m s n r at, subst (IsCompleted given post) (entry_number n m.ranges r at) (found_gives n r at).completed), tt) };
  }
    where
      step : (y : RangeEntry) → EntryGives given post m.next y → EntryGives given post m.next (changed_if n (renewed until) y)
      step y e = if_elim (EntryGives given post m.next) (y.range == n) (renewed until y) y (λ t. record { number = e.number; completed = e.completed; pending = e.pending }) (λ f. e)

  route_gives : (p : Packet) (q : ReqNo) (o : Option RangeEntry) → Giving (route_rule m p q o)
  route_gives p q None = silent_gives
  route_gives p q (Some r) = inl (record { map = x; rule = record { extends = same_map; packets = (tt, tt) } })

  -- ---- a split begins

  same_bytes : (a b : List ℕ) → bytes_eq a b ≡ true → a ≡ b
  same_bytes a b is = (bytes_eq-Decides a b).0 is

  module _ (n : ℕ) (key : List ℕ) (r : RangeEntry) (at : range_at m.ranges n ≡ Some r) where
    abbrev newest : GivenPair
    newest = given_to n r.generation key m.next (m.next + 1)

    abbrev pairs : List GivenPair
    pairs = newest ∷ given

    -- it is given the entry of this number alone
    record Waits (y : RangeEntry) : Type 0 where
      dropped : Dropped n y
      generation : (y.range == n) ≡ true → y.generation ≡ r.generation

    waits : (y : RangeEntry) → EntryGives given post m.next y × ((y ≡ r) ⊎ HasNot n y) → Waits (dropped_if n y)
    waits y (e, only) = record {
      dropped = drops n y e;
      generation =
          if_elim (λ (z : RangeEntry). (z.range == n) ≡ true → z.generation ≡ r.generation) ((y.range == n) || is_merge_with n y.pending) (record y { pending = None }) y (λ b. own only) (λ b. own only);
    }
      where
        own : (y ≡ r) ⊎ HasNot n y → (y.range == n) ≡ true → y.generation ≡ r.generation
        own (inl same) t = ap (λ (z : RangeEntry). z.generation) same
        own (inr not) t = absurd (not.0 (eqb-true y.range n t))

    begins : (y : RangeEntry) → Waits y → EntryGives pairs post (m.next + 2) (changed_if n (with_pending (pendings.Split key m.next (m.next + 1))) y)
    begins y w =
        if_elim (EntryGives pairs post (m.next + 2)) (y.range == n) (with_pending (pendings.Split key m.next (m.next + 1)) y) y
        (λ t. record {
          number = number;
          completed = completed;
          pending = λ k low high is.
              (let told : pendings.Split key m.next (m.next + 1) ≡ pendings.Split k low high = cc in
              let same : newest ≡ given_to y.range y.generation k low high = here (eqb-true y.range n t) (w.generation t) k low high told in
              subst (Contains pairs) same (newest_in newest given));
        })
        (λ f. record { number = number; completed = completed; pending = λ k low high is. older_in newest (given_to y.range y.generation k low high) given (w.dropped.entry.pending k low high is) })
      where
        number : y.range < m.next + 2
        number = let l = w.dropped.entry.number in omega (arith, l)

        completed : IsCompleted pairs post y.range
        completed = completed_more newest given post m.next y.range (omega arith) (omega arith) w.dropped.entry.number w.dropped.entry.completed

        here : y.range ≡ n → y.generation ≡ r.generation → (k : List ℕ) (low high : ℕ) → pendings.Split key m.next (m.next + 1) ≡ pendings.Split k low high → newest ≡ given_to y.range y.generation k low high
        here a b k low high told =
            let c : key ≡ k = cc in
            let d : m.next ≡ low = cc in
            let e : m.next + 1 ≡ high = cc in
            λ i. given_to (sym a i) (sym b i) (c i) (d i) (e i)

    begun_map : MapGives pairs post (begin_split m n key)
    begun_map = record {
      below = (omega arith, omega arith, x.below);
      entries =
          each_map Waits (EntryGives pairs post (m.next + 2)) (changed_if n (with_pending (pendings.Split key m.next (m.next + 1)))) begins (map (dropped_if n) m.ranges)
          (each_map (λ (y : RangeEntry). EntryGives given post m.next y × ((y ≡ r) ⊎ HasNot n y)) Waits (dropped_if n) waits m.ranges (each_and (EntryGives given post m.next) (λ (y : RangeEntry). (y ≡ r) ⊎ HasNot n y) m.ranges x.entries (entry_only m s n r at)));
    }

    begin_split_gives : (to : ActorId) (q : ReqNo) → HasAsked asks q n r.generation key → (pair : Option (ℕ × ℕ)) → halves_at key r.pending ≡ pair → Giving (begin_split_taken m to q n key pair)
    begin_split_gives to q asked (Some pair) is =
        let (at_key, pending, here) = halves_pending m s key r.pending pair is in
        inl (record {
          map = x;
          rule = record {
            extends = same_map;
            packets = (
              record {
                range = r.range;
                generation = r.generation;
                key = at_key;
                among = (found_gives n r at).pending at_key pair.0 pair.1 pending;
                asked = subst (λ k. HasAsked asks q r.range r.generation k) (sym (same_bytes at_key key here)) (subst (λ j. HasAsked asks q j r.generation key) (sym (entry_number n m.ranges r at)) asked);
              },
              tt,
            );
          };
        })
    begin_split_gives to q asked None is =
        if_elim Giving (has_numbers m 2) _ _
        (λ t. inr (
          newest,
          record { low = refl; high = omega arith },
          record {
            map = begun_map;
            rule = record {
              extends = extends pairs (begin_split m n key) (omega arith);
              packets = (record { range = n; generation = r.generation; key = key; among = newest_in newest given; asked = asked }, tt);
            };
          },
        ))
        (λ f. silent_gives)

  not_false : (b : Bool) → not b ≡ false → b ≡ true
  not_false true e = refl
  not_false false e = absurd cc

  begin_split_rule_gives : (to : ActorId) (q : ReqNo) (n generation : ℕ) (key : List ℕ) → HasAsked asks q n generation key → (o : Option RangeEntry) → range_at m.ranges n ≡ o → begin_split_fault generation key o ≡ None → Giving (begin_split_rule m to q n key o)
  begin_split_rule_gives to q n generation key asked None at free = silent_gives
  begin_split_rule_gives to q n generation key asked (Some r) at free =
      let same : r.generation ≡ generation =
      eqb-true r.generation generation (not_false (r.generation == generation) (none_met ((GenerationChanged, not (r.generation == generation)) ∷ (BadSplitKey, not (is_split_key r.keys key)) ∷ []) free).0) in
      begin_split_gives n key r at to q (subst (λ g. HasAsked asks q n g key) (sym same) asked) (halves_at key r.pending) refl

  -- ---- a split is done

  -- somebody asked for it
  module _ (n : ℕ) (asked : (y : RangeEntry) → y.range ≡ n → EntryGives given post m.next y → (key : List ℕ) (low high : ℕ) → range_at m.ranges n ≡ Some y → AsksToComplete post y.range y.generation) where
    split_in_gives : (rs : List RangeEntry) → ((y : RangeEntry) → range_at rs n ≡ Some y → range_at m.ranges n ≡ Some y) → Each (EntryGives given post m.next) rs → Each (EntryGives given post m.next) (split_in rs n)
    split_in_gives [] found e = tt
    split_in_gives (y ∷ rs) found e = go (y.range == n) refl found (λ more. split_in_gives rs more e.1)
      where
        -- the two are those that were given
        half_gives : (key : List ℕ) (low high : ℕ) → y.pending ≡ Some (pendings.Split key low high) → range_at m.ranges n ≡ Some y → y.range ≡ n → (number : ℕ) (keys : KeyRange) → HasNumber number (given_to y.range y.generation key low high) →
            EntryGives given post m.next (half y number keys)
        half_gives key low high pending at same number keys has =
            let among : Contains given (given_to y.range y.generation key low high) = e.0.pending key low high pending in
            record {
              number = number_below number m.next (given_to y.range y.generation key low high) (given_below m.next given (given_to y.range y.generation key low high) x.below among) has;
              completed = λ pair other also.
                  (let one : given_to y.range y.generation key low high ≡ pair = given_once m.next given number (given_to y.range y.generation key low high) pair x.below among other has also in
                  subst (λ (p : GivenPair). AsksToComplete post p.range p.generation) one (asked y same e.0 key low high at));
              pending = λ k l h is. absurd cc;
            }

        by_pending : y.range ≡ n → range_at m.ranges n ≡ Some y → (p : Option Pending) → y.pending ≡ p → Each (EntryGives given post m.next) (halves y p ++ rs)
        by_pending same at None is = e
        by_pending same at (Some (pendings.Merge right into)) is = e
        by_pending same at (Some (pendings.Split key low high)) is = (
          half_gives key low high is at same low (record { low = y.keys.low; high = Some key }) (inl refl),
          (half_gives key low high is at same high (record { low = key; high = y.keys.high }) (inr refl), e.1),
        )

        go : (b : Bool) → (y.range == n) ≡ b → ((z : RangeEntry) → (if b then Some y else range_at rs n) ≡ Some z → range_at m.ranges n ≡ Some z) →
            (((z : RangeEntry) → range_at rs n ≡ Some z → range_at m.ranges n ≡ Some z) → Each (EntryGives given post m.next) (split_in rs n)) → Each (EntryGives given post m.next) (if b then halves y y.pending ++ rs else y ∷ split_in rs n)
        go true t found rest = by_pending (eqb-true y.range n t) (found y refl) y.pending refl
        go false f found rest = (e.0, rest found)

  complete_split_gives : (to : ActorId) (q : ReqNo) (n generation : ℕ) (p : Packet) → Contains post p → p.body ≡ bodies.Map (maps.CompleteSplit n generation q) → (o : Option RangeEntry) → range_at m.ranges n ≡ o →
      complete_split_fault generation o ≡ None → Giving (complete_split_rule m to q n o)
  complete_split_gives to q n generation p there is None at free = silent_gives
  complete_split_gives to q n generation p there is (Some r) at free = by_pending r.pending
    where
      same : r.generation ≡ generation
      same =
          eqb-true r.generation generation
          (and_parts (r.generation == generation) (is_split r.pending) (not_false (r.generation == generation && is_split r.pending) (none_met ((GenerationChanged, not (r.generation == generation && is_split r.pending)) ∷ []) free).0)).0

      asked : (y : RangeEntry) → y.range ≡ n → EntryGives given post m.next y → (key : List ℕ) (low high : ℕ) → range_at m.ranges n ≡ Some y → AsksToComplete post y.range y.generation
      asked y number e key low high found =
          let own : y ≡ r = (let z : Some y ≡ Some r = sym found ∙ at in cc) in
          record {
            packet = p;
            request = q;
            sent = there;
            is = is ∙ ap (λ k. bodies.Map (maps.CompleteSplit k generation q)) (sym number) ∙ ap (λ g. bodies.Map (maps.CompleteSplit y.range g q)) (sym same ∙ sym (ap (λ (z : RangeEntry). z.generation) own));
          }

      by_pending : (pending : Option Pending) → Giving (complete_split_taken m to q n pending)
      by_pending None = silent_gives
      by_pending (Some (pendings.Merge right into)) = silent_gives
      by_pending (Some (pendings.Split key low high)) =
          inl (record {
            map = record { below = x.below; entries = split_in_gives n asked m.ranges (λ y found. found) x.entries };
            rule = record { extends = extends given (complete_split m n) (omega arith); packets = (tt, tt) };
          })

  -- who asks for a split asked for it, and nobody asks for a merge
  abbrev Asks : MapBody → Type 0
  Asks (maps.BeginSplit n generation key q) = HasAsked asks q n generation key
  Asks (maps.BeginMerge left a right b q) = ⊥
  Asks (maps.CompleteMerge left a right b q) = ⊥
  Asks body = Unit {0}

  told_gives : (p : Packet) → Contains post p → (body : MapBody) → p.body ≡ bodies.Map body → Asks body → Giving (told m p body)
  told_gives p there (maps.Route key q) is a = route_gives p q (range_of_key m.ranges key)
  told_gives p there (maps.BeginSplit n generation key q) is a =
      called_gives p q (begin_split_fault generation key (range_at m.ranges n)) _ (λ free. begin_split_rule_gives p.from q n generation key a (range_at m.ranges n) refl free)
  told_gives p there (maps.CompleteSplit n generation q) is a =
      called_gives p q (complete_split_fault generation (range_at m.ranges n)) _ (λ free. complete_split_gives p.from q n generation p there is (range_at m.ranges n) refl free)
  told_gives p there (maps.BeginMerge left b right g q) is a = absurd a
  told_gives p there (maps.CompleteMerge left b right g q) is a = absurd a
  told_gives p there body is a = silent_gives

  asking : (p : Packet) (body : MapBody) → p.body ≡ bodies.Map body → PacketNames (K given m) p → Asks body
  asking p (maps.BeginSplit n generation key q) is (inl user) = absurd (let z : is_request (bodies.Map (maps.BeginSplit n generation key q)) ≡ true = subst (λ b. is_request b ≡ true) is user.1 in cc)
  asking p (maps.BeginSplit n generation key q) is (inr names) = (subst (BodyNames (K given m)) is names).1
  asking p (maps.BeginMerge left b right g q) is (inl user) = absurd (let z : is_request (bodies.Map (maps.BeginMerge left b right g q)) ≡ true = subst (λ b. is_request b ≡ true) is user.1 in cc)
  asking p (maps.BeginMerge left b right g q) is (inr names) = (subst (BodyNames (K given m)) is names).0
  asking p (maps.CompleteMerge left b right g q) is (inl user) = absurd (let z : is_request (bodies.Map (maps.CompleteMerge left b right g q)) ≡ true = subst (λ b. is_request b ≡ true) is user.1 in cc)
  asking p (maps.CompleteMerge left b right g q) is (inr names) = (subst (BodyNames (K given m)) is names).0
  asking p body is names = tt

  pub rule_gives : (p : Packet) → Contains post p → (body : Body) → p.body ≡ body → PacketNames (K given m) p → Giving (map_rule m p body)
  rule_gives p there (bodies.Map body) is names = told_gives p there body is (asking p body is names)
  rule_gives p there body is names = silent_gives
