-- Where a range is asked to be split at one key under one generation, as in every run without merges, the pair that a split was told
-- of is the one that is pending at the range, for as long as the range keeps its generation.
use Rattle.std.proofs.Common.{◌≡◌, ◌⊎◌, ℕ, suc, ◌+◌, ◌≤◌, ◌<◌, ◌^◌, Bool, true, false, not, ◌||◌, ◌==◌, nat_lt, List, [], ◌∷◌, ◌++◌, map, Option, Some, None, bytes_eq, Contains, refl, sym, ap, ◌∙◌, subst, inl, inr, arith, if◌then◌else◌}
use Rattle.std.proofs.lemmas.Bool.{eqb-true, eqb-false}
use Rattle.std.proofs.lemmas.List.Elements.{Contains-append_left}
use Rattle.std.proofs.lemmas.Slice.Eq.{bytes_eq-Decides}
use Rattle.metadata.specs.declared.record.KeyRange.{KeyRange}
use Rattle.wire.specs.declared.actor.ActorId.{ActorId}
use Rattle.wire.specs.declared.actor.ReqNo.{ReqNo}
use Rattle.wire.specs.declared.body.Body.{Body}
use Rattle.wire.specs.declared.body.Body.TheVariants as bodies
use Rattle.wire.specs.declared.body.MapBody.{MapBody}
use Rattle.wire.specs.declared.body.MapBody.TheVariants as maps
use Rattle.wire.specs.declared.packet.Packet.{Packet}
use Rattle.wire.specs.declared.refusal.Refusal.{Refusal}
use Rattle.wire.specs.declared.refusal.Refusal.TheVariants.{BadSplitKey, GenerationChanged}
use Rattle.model_streams.specs.declared.event.Event.{Event}
use Rattle.model_streams.specs.declared.event.Event.TheVariants.{Submit, Deliver, Stop, Restart, Decide, GiveUp, Assign, Renew, Moment, Checkpoint, Split, Merge}
use Rattle.model_streams.specs.Outcome.{Outcome, silent}
use Rattle.model_streams.specs.StreamSystem.{is_request}
use Rattle.model_streams.proofs.Tests.{if_elim, none_met}
use Rattle.model_partition.specs.declared.pending.Pending.{Pending}
use Rattle.model_partition.specs.declared.pending.Pending.TheVariants as pendings
use Rattle.model_partition.specs.declared.range_entry.RangeEntry.{RangeEntry}
use Rattle.model_partition.specs.Map.{MapState, range_at, range_of_key, changed_if, with_range, assigned, renewed, is_merge_with, dropped_if, with_pending, assign, is_split_key, halves_at, begin_split, half, halves, split_in, complete_split}
use Rattle.model_partition.specs.MapRules.{assign_rule, renew_rule, has_numbers, begin_split_fault, begin_split_taken, begin_split_rule, complete_split_fault, complete_split_taken, complete_split_rule, route_rule, called, told, map_rule}
use Rattle.model_partition.specs.Partition.{one_if, uses_pending, IsSound}
use Rattle.model_partition.specs.Cluster.{IsUnmerged, AreUnmerged, Cluster, cluster_after, cluster_after_all, first_cluster}
use Rattle.laws_map.specs.Naming.{Each, Knowledge, BodyNames, PacketNames, Names}
use Rattle.laws_map.specs.Generations.{HasAsked, AreOnce}
use Rattle.laws_map.specs.Pairs.{AskOneKey, EntryPairs, IsPending, paired, ArePaired}
use Rattle.laws_map.proofs.Knowing.{each_weaker, Extends}
use Rattle.laws_map.proofs.SplitNames.{Laws}
use Rattle.laws_map.proofs.EventNames.{RuleNames, AskedIn, RulesOf, names_on, event_goes}
use Rattle.laws_map.proofs.PostStays.{stays_in_post}
use Rattle.laws_map.proofs.AskedKeys.{run_asks_one_key}
use Rattle.laws_map.proofs.GivenNumbers.{entry_number, found_given, halves_pending, first_cells}
use Rattle.laws_map.proofs.GoneRanges.{found_knows}
use Rattle.laws_map.proofs.WithinMaps.{each_map, each_and, HasNot, entry_only, itself}
use Rattle.laws_map.proofs.GenerationsInRuns.{same_request, Governs, other_governs, split_governs, event_governs, all_govern, first_governs, asked_now, now_once, asks_now}

same_bytes : (a b : List ℕ) → bytes_eq a b ≡ true → a ≡ b
same_bytes a b is = (bytes_eq-Decides a b).0 is

itself_eq : (a : List ℕ) → bytes_eq a a ≡ true
itself_eq a = (bytes_eq-Decides a a).1 refl

-- ---- what was pending stays so

module _ (range generation : ℕ) (key : List ℕ) (low high : ℕ) where
  abbrev Pairs : RangeEntry → Type 0
  Pairs r = EntryPairs range generation key low high r

  -- an entry that has the range has no lower generation
  least : (r : RangeEntry) → Pairs r → r.range ≡ range → generation ≤ r.generation
  least r k e = elim (k.1 e) [ inl less ↦ omega (arith, less) | inr same ↦ (let g = same.0 in omega (arith, g)) ]

  -- what is dropped at another entry leaves it
  drop_other : (n : ℕ) (r : RangeEntry) → (r.range == n) ≡ false → Pairs r → Pairs (dropped_if n r)
  drop_other n r f k = if_elim Pairs ((r.range == n) || is_merge_with n r.pending) (record r { pending = None }) r (λ t. (refl, λ e. elim (k.1 e) [ inl less ↦ inl less | inr same ↦ absurd (no_merge t same.1) ])) (λ u. k)
    where
      no_merge : ((r.range == n) || is_merge_with n r.pending) ≡ true → r.pending ≡ Some (pendings.Split key low high) → ⊥
      no_merge t is = let z : true ≡ false = sym t ∙ ap (λ b. b || is_merge_with n r.pending) f ∙ ap (is_merge_with n) is in cc

  -- an entry at which what was pending is dropped, or another
  abbrev Dropped : ℕ → RangeEntry → Type 0
  Dropped n r = (uses_pending range r.pending ≡ 0) × (r.range ≡ range → generation ≤ r.generation) × ((r.range == n) ≡ false → Pairs r)

  drops : (n : ℕ) (r : RangeEntry) → Pairs r → Dropped n (dropped_if n r)
  drops n r k = go (r.range == n) refl
    where
      go : (b : Bool) → (r.range == n) ≡ b → Dropped n (if b || is_merge_with n r.pending then record r { pending = None } else r)
      go true t = (refl, least r k, λ f. absurd (let z : true ≡ false = sym t ∙ f in cc))
      go false f =
          let d : Pairs (if false || is_merge_with n r.pending then record r { pending = None } else r) = subst (λ b. Pairs (if b || is_merge_with n r.pending then record r { pending = None } else r)) f (drop_other n r f k) in
          (d.0, least_if (is_merge_with n r.pending), λ g. d)
        where
          least_if : (b : Bool) → (if b then record r { pending = None } else r).range ≡ range → generation ≤ (if b then record r { pending = None } else r).generation
          least_if true = least r k
          least_if false = least r k

  assign_pending : (m : MapState) (n server until : ℕ) → IsPending m range generation key low high → IsPending (assign m n server until) range generation key low high
  assign_pending m n server until k = record {
    given = k.given;
    entries = each_map (Dropped n) Pairs (changed_if n (assigned server until)) step (map (dropped_if n) m.ranges) (each_map Pairs (Dropped n) (dropped_if n) (drops n) m.ranges k.entries);
  }
    where
      step : (r : RangeEntry) → Dropped n r → Pairs (changed_if n (assigned server until) r)
      step r d = if_elim Pairs (r.range == n) (assigned server until r) r (λ t. (d.0, λ e. inl (let l = d.1 e in omega (arith, l)))) d.2

  renew_pending : (m : MapState) (n until : ℕ) → IsPending m range generation key low high → IsPending (with_range m n (renewed until)) range generation key low high
  renew_pending m n until k = record {
    given = k.given;
    entries = each_map Pairs Pairs (changed_if n (renewed until)) (λ r p. if_elim Pairs (r.range == n) (renewed until r) r (λ t. p) (λ f. p)) m.ranges k.entries;
  }

  not_number : (n : ℕ) → one_if (n == range) ≡ 0 → n ≡ range → ⊥
  not_number n none is = go (n == range) refl none
    where
      go : (b : Bool) → (n == range) ≡ b → one_if b ≡ 0 → ⊥
      go true e none = absurd (omega (arith, none))
      go false e none = absurd (eqb-false n range e is)

  split_in_pairs : (n : ℕ) (rs : List RangeEntry) → Each Pairs rs → Each Pairs (split_in rs n)
  split_in_pairs n [] k = tt
  split_in_pairs n (r ∷ rs) k = if_elim (Each Pairs) (r.range == n) (halves r r.pending ++ rs) (r ∷ split_in rs n) (λ t. by_pending r.pending k.0.0) (λ f. (k.0, split_in_pairs n rs k.1))
    where
      half_pairs : (number : ℕ) (keys : KeyRange) → one_if (number == range) ≡ 0 → Pairs (half r number keys)
      half_pairs number keys none = (refl, λ e. absurd (not_number number none e))

      by_pending : (p : Option Pending) → uses_pending range p ≡ 0 → Each Pairs (halves r p ++ rs)
      by_pending None none = k
      by_pending (Some (pendings.Merge right into)) none = k
      by_pending (Some (pendings.Split at l h)) none = (half_pairs l (record { low = r.keys.low; high = Some at }) (omega (arith, none)), (half_pairs h (record { low = at; high = r.keys.high }) (omega (arith, none)), k.1))

  complete_split_pending : (m : MapState) (n : ℕ) → IsPending m range generation key low high → IsPending (complete_split m n) range generation key low high
  complete_split_pending m n k = record { given = k.given; entries = split_in_pairs n m.ranges k.entries }

  -- another split begins, where the range has another generation or is another
  begin_split_pending : (m : MapState) (s : IsSound m) (n : ℕ) (other : List ℕ) (x : RangeEntry) → range_at m.ranges n ≡ Some x → (n ≡ range → generation < x.generation) → IsPending m range generation key low high →
      IsPending (begin_split m n other) range generation key low high
  begin_split_pending m s n other x at above k = record {
    given = let l = k.given in omega (arith, l);
    entries =
        each_map Above Pairs (changed_if n (with_pending (pendings.Split other m.next (m.next + 1)))) step (map (dropped_if n) m.ranges)
        (each_map (λ (r : RangeEntry). Pairs r × ((r ≡ x) ⊎ HasNot n r)) Above (dropped_if n) over m.ranges (each_and Pairs (λ (r : RangeEntry). (r ≡ x) ⊎ HasNot n r) m.ranges k.entries (entry_only m s n x at)));
  }
    where
      Above : RangeEntry → Type 0
      Above r = (r.range ≡ range → (r.range == n) ≡ true → generation < r.generation) × ((r.range == n) ≡ false → Pairs r)

      is_above : (r : RangeEntry) → (r ≡ x) ⊎ HasNot n r → r.range ≡ range → (r.range == n) ≡ true → generation < r.generation
      is_above r (inl same) e t = subst (λ (y : RangeEntry). generation < y.generation) (sym same) (above (sym (eqb-true r.range n t) ∙ e))
      is_above r (inr none) e t = absurd (none.0 (eqb-true r.range n t))

      over : (r : RangeEntry) → Pairs r × ((r ≡ x) ⊎ HasNot n r) → Above (dropped_if n r)
      over r h =
          let d = drops n r h.0 in
          (if_elim (λ (y : RangeEntry). y.range ≡ range → (y.range == n) ≡ true → generation < y.generation) ((r.range == n) || is_merge_with n r.pending) (record r { pending = None }) r (λ t. is_above r h.1) (λ f. is_above r h.1), d.2)

      unused : one_if (m.next == range) + one_if (m.next + 1 == range) ≡ 0
      unused = let below = k.given in let a = not_next m.next (omega arith) in let b = not_next (m.next + 1) (omega arith) in omega (arith, a, b)
        where
          not_next : (j : ℕ) → m.next ≤ j → one_if (j == range) ≡ 0
          not_next j above = go (j == range) refl
            where
              go : (b : Bool) → (j == range) ≡ b → one_if b ≡ 0
              go true e = absurd (let same = eqb-true j range e in let below = k.given in omega (arith, same, below, above))
              go false e = refl

      step : (r : RangeEntry) → Above r → Pairs (changed_if n (with_pending (pendings.Split other m.next (m.next + 1))) r)
      step r h = if_elim Pairs (r.range == n) (with_pending (pendings.Split other m.next (m.next + 1)) r) r (λ t. (unused, λ e. inl (h.0 e t))) h.1

-- ---- what is told is pending

module _ (m : MapState) (s : IsSound m) (n : ℕ) (x : RangeEntry) (at : range_at m.ranges n ≡ Some x) where
  found_pending : (key : List ℕ) (low high : ℕ) → x.pending ≡ Some (pendings.Split key low high) → IsPending m n x.generation key low high
  found_pending key low high is = record {
    given = found_given m s n x at;
    entries = each_weaker (λ (r : RangeEntry). (r ≡ x) ⊎ HasNot n r) (EntryPairs n x.generation key low high) step m.ranges (entry_only m s n x at);
  }
    where
      step : (r : RangeEntry) → (r ≡ x) ⊎ HasNot n r → EntryPairs n x.generation key low high r
      step r (inl same) = subst (EntryPairs n x.generation key low high) (sym same) (itself m s n x at, λ e. inr (refl, is))
      step r (inr none) = (none.1, λ e. absurd (none.0 e))

  now_pending : (key : List ℕ) → IsPending (begin_split m n key) n x.generation key m.next (m.next + 1)
  now_pending key = record {
    given = let l = found_given m s n x at in omega (arith, l);
    entries =
        each_map IsAsX (EntryPairs n x.generation key m.next (m.next + 1)) (changed_if n (with_pending (pendings.Split key m.next (m.next + 1)))) step (map (dropped_if n) m.ranges)
        (each_map (λ (r : RangeEntry). (r ≡ x) ⊎ HasNot n r) IsAsX (dropped_if n) over m.ranges (entry_only m s n x at));
  }
    where
      IsAsX : RangeEntry → Type 0
      IsAsX r = (uses_pending n r.pending ≡ 0) × (r.range ≡ n → r.generation ≡ x.generation)

      over : (r : RangeEntry) → (r ≡ x) ⊎ HasNot n r → IsAsX (dropped_if n r)
      over r (inl same) =
          if_elim IsAsX ((r.range == n) || is_merge_with n r.pending) (record r { pending = None }) r
          (λ t. (refl, λ e. ap (λ (y : RangeEntry). y.generation) same)) (λ f. (subst (λ (y : RangeEntry). uses_pending n y.pending ≡ 0) (sym same) (itself m s n x at), λ e. ap (λ (y : RangeEntry). y.generation) same))
      over r (inr none) =
          if_elim IsAsX ((r.range == n) || is_merge_with n r.pending) (record r { pending = None }) r (λ t. (refl, λ e. absurd (none.0 e))) (λ f. (none.1, λ e. absurd (none.0 e)))

      unused : one_if (m.next == n) + one_if (m.next + 1 == n) ≡ 0
      unused = let a = not_next m.next (omega arith) in let b = not_next (m.next + 1) (omega arith) in omega (arith, a, b)
        where
          not_next : (j : ℕ) → m.next ≤ j → one_if (j == n) ≡ 0
          not_next j above = go (j == n) refl
            where
              go : (b : Bool) → (j == n) ≡ b → one_if b ≡ 0
              go true e = absurd (let same = eqb-true j n e in let below = found_given m s n x at in omega (arith, same, below, above))
              go false e = refl

      step : (r : RangeEntry) → IsAsX r → EntryPairs n x.generation key m.next (m.next + 1) (changed_if n (with_pending (pendings.Split key m.next (m.next + 1))) r)
      step r h =
          if_elim (EntryPairs n x.generation key m.next (m.next + 1)) (r.range == n) (with_pending (pendings.Split key m.next (m.next + 1)) r) r
          (λ t. (unused, λ e. inr (h.1 e, refl))) (λ f. (h.0, λ e. absurd (eqb-false r.range n f e)))

-- ---- the rules of the map

module _ (asks : List Packet) (one : AskOneKey asks) (m : MapState) (s : IsSound m) where
  abbrev K : MapState → Knowledge
  K a = paired a asks

  abbrev Pairing : Outcome MapState → Type 0
  Pairing o = RuleNames K m o

  -- a map in which all that was asked for stays pending
  extends : (a : MapState) → ((q : ReqNo) (range generation : ℕ) (key : List ℕ) (low high : ℕ) → HasAsked asks q range generation key → IsPending m range generation key low high → IsPending a range generation key low high) → Extends (K m) (K a)
  extends a on = record {
    knows = λ n g k. k;
    assigned = λ n g k. k;
    asked = λ q n g key k. k;
    begun = λ q low high k. record { range = k.range; generation = k.generation; key = k.key; asked = k.asked; pending = on q k.range k.generation k.key low high k.asked k.pending };
    splits = λ n g key low high k. record { number = k.number; asked = k.asked; pending = on k.number n g key low high k.asked k.pending };
    numbers = λ n k. k;
    merges = λ n g k. k;
  }

  same_map : Extends (K m) (K m)
  same_map = extends m (λ q n g key low high a k. k)

  silent_pairs : Pairing (silent m)
  silent_pairs = record { extends = same_map; packets = tt }

  called_pairs : (p : Packet) (q : ReqNo) (fault : Option Refusal) (o : Outcome MapState) → (fault ≡ None → Pairing o) → Pairing (called m p q fault o)
  called_pairs p q (Some refusal) o taken = record { extends = same_map; packets = (tt, tt) }
  called_pairs p q None o taken = taken refl

  pub assign_pairs : (n server until : ℕ) (o : Option RangeEntry) → Pairing (assign_rule m n server until o)
  assign_pairs n server until None = silent_pairs
  assign_pairs n server until (Some x) =
      if_elim Pairing (nat_lt (suc x.generation) (2 ^ 64)) _ _
      (λ t. record { extends = extends (assign m n server until) (λ q range g key low high a k. assign_pending range g key low high m n server until k); packets = (tt, tt) }) (λ f. silent_pairs)

  pub renew_pairs : (n server until : ℕ) (o : Option RangeEntry) → Pairing (renew_rule m n server until o)
  renew_pairs n server until None = silent_pairs
  renew_pairs n server until (Some x) = record {
    extends = extends (with_range m n (renewed until)) (λ q range g key low high a k. renew_pending range g key low high m n until k);
    packets = (tt, tt);
  }

  route_pairs : (p : Packet) (q : ReqNo) (o : Option RangeEntry) → Pairing (route_rule m p q o)
  route_pairs p q None = silent_pairs
  route_pairs p q (Some r) = record { extends = same_map; packets = (tt, tt) }

  begin_split_pairs : (to : ActorId) (q : ReqNo) (n : ℕ) (key : List ℕ) (x : RangeEntry) → range_at m.ranges n ≡ Some x → HasAsked asks q n x.generation key → (pair : Option (ℕ × ℕ)) → halves_at key x.pending ≡ pair →
      Pairing (begin_split_taken m to q n key pair)
  begin_split_pairs to q n key x at asked (Some pair) is =
      let (at_key, pending, here) = halves_pending m s key x.pending pair is in
      record {
        extends = same_map;
        packets = (
          record {
            range = n;
            generation = x.generation;
            key = key;
            asked = asked;
            pending = found_pending m s n x at key pair.0 pair.1 (pending ∙ ap (λ k. Some (pendings.Split k pair.0 pair.1)) (same_bytes at_key key here));
          },
          tt,
        );
      }
  begin_split_pairs to q n key x at asked None is =
      if_elim Pairing (has_numbers m 2) _ _
      (λ t. record {
        extends = extends (begin_split m n key) (λ w range g k low high a p. begin_split_pending range g k low high m s n key x at (above w range g k low high a p) p);
        packets = (record { range = n; generation = x.generation; key = key; asked = asked; pending = now_pending m s n x at key }, tt);
      })
      (λ f. silent_pairs)
    where
      -- a pair that is pending under this generation is so at this key
      above : (w : ReqNo) (range g : ℕ) (k : List ℕ) (low high : ℕ) → HasAsked asks w range g k → IsPending m range g k low high → n ≡ range → g < x.generation
      above w range g k low high a p same =
          let e = found_pairs range m.ranges x p.entries (ap (range_at m.ranges) (sym same) ∙ at) in
          elim e [
            | inl less ↦ less
            | inr now ↦ absurd (
                let other : k ≡ key = one w q range g k key a (subst (λ j. HasAsked asks q j g key) same (subst (λ j. HasAsked asks q n j key) now.0 asked)) in
                let none : halves_at key (Some (pendings.Split k low high)) ≡ None = sym (ap (halves_at key) now.1) ∙ is in
                let some : bytes_eq k key ≡ true = subst (λ b. bytes_eq k b ≡ true) other (itself_eq k) in
                let z : Some (low, high) ≡ None = sym (ap (λ b. if b then Some (low, high) else None) some) ∙ none in
                cc
                )
          ]
        where
          found_pairs : (range : ℕ) (rs : List RangeEntry) (x : RangeEntry) → Each (EntryPairs range g k low high) rs → range_at rs range ≡ Some x → (g < x.generation) ⊎ ((x.generation ≡ g) × (x.pending ≡ Some (pendings.Split k low high)))
          found_pairs range rs x each at = (found_knows (EntryPairs range g k low high) range rs x each at).1 (entry_number range rs x at)

  not_false : (b : Bool) → not b ≡ false → b ≡ true
  not_false true e = refl
  not_false false e = absurd cc

  begin_split_rule_pairs : (to : ActorId) (q : ReqNo) (n generation : ℕ) (key : List ℕ) → HasAsked asks q n generation key → (o : Option RangeEntry) → range_at m.ranges n ≡ o → begin_split_fault generation key o ≡ None → Pairing (begin_split_rule m to q n key o)
  begin_split_rule_pairs to q n generation key asked None at free = silent_pairs
  begin_split_rule_pairs to q n generation key asked (Some x) at free =
      let same : x.generation ≡ generation =
      eqb-true x.generation generation (not_false (x.generation == generation) (none_met ((GenerationChanged, not (x.generation == generation)) ∷ (BadSplitKey, not (is_split_key x.keys key)) ∷ []) free).0) in
      begin_split_pairs to q n key x at (subst (λ g. HasAsked asks q n g key) (sym same) asked) (halves_at key x.pending) refl

  complete_split_pairs : (to : ActorId) (q : ReqNo) (n : ℕ) (o : Option RangeEntry) → Pairing (complete_split_rule m to q n o)
  complete_split_pairs to q n None = silent_pairs
  complete_split_pairs to q n (Some r) = by_pending r.pending
    where
      by_pending : (p : Option Pending) → Pairing (complete_split_taken m to q n p)
      by_pending None = silent_pairs
      by_pending (Some (pendings.Merge right into)) = silent_pairs
      by_pending (Some (pendings.Split key low high)) = record { extends = extends (complete_split m n) (λ w range g k l h a p. complete_split_pending range g k l h m n p); packets = (tt, tt) }

  -- who asks for a split asked for it, and nobody asks for a merge
  abbrev Asks : MapBody → Type 0
  Asks (maps.BeginSplit n generation key q) = HasAsked asks q n generation key
  Asks (maps.BeginMerge left a right b q) = ⊥
  Asks (maps.CompleteMerge left a right b q) = ⊥
  Asks body = Unit {0}

  told_pairs : (p : Packet) (body : MapBody) → Asks body → Pairing (told m p body)
  told_pairs p (maps.Route key q) a = route_pairs p q (range_of_key m.ranges key)
  told_pairs p (maps.BeginSplit n generation key q) a =
      called_pairs p q (begin_split_fault generation key (range_at m.ranges n)) _ (λ free. begin_split_rule_pairs p.from q n generation key a (range_at m.ranges n) refl free)
  told_pairs p (maps.CompleteSplit n generation q) a = called_pairs p q (complete_split_fault generation (range_at m.ranges n)) _ (λ free. complete_split_pairs p.from q n (range_at m.ranges n))
  told_pairs p (maps.BeginMerge left b right g q) a = absurd a
  told_pairs p (maps.CompleteMerge left b right g q) a = absurd a
  told_pairs p body a = silent_pairs

  asking : (p : Packet) (body : MapBody) → p.body ≡ bodies.Map body → PacketNames (K m) p → Asks body
  asking p (maps.BeginSplit n generation key q) is (inl user) = absurd (let z : is_request (bodies.Map (maps.BeginSplit n generation key q)) ≡ true = subst (λ b. is_request b ≡ true) is user.1 in cc)
  asking p (maps.BeginSplit n generation key q) is (inr names) = (subst (BodyNames (K m)) is names).1
  asking p (maps.BeginMerge left b right g q) is (inl user) = absurd (let z : is_request (bodies.Map (maps.BeginMerge left b right g q)) ≡ true = subst (λ b. is_request b ≡ true) is user.1 in cc)
  asking p (maps.BeginMerge left b right g q) is (inr names) = (subst (BodyNames (K m)) is names).0
  asking p (maps.CompleteMerge left b right g q) is (inl user) = absurd (let z : is_request (bodies.Map (maps.CompleteMerge left b right g q)) ≡ true = subst (λ b. is_request b ≡ true) is user.1 in cc)
  asking p (maps.CompleteMerge left b right g q) is (inr names) = (subst (BodyNames (K m)) is names).0
  asking p body is names = tt

  pub rule_pairs : (p : Packet) (body : Body) → p.body ≡ body → PacketNames (K m) p → Pairing (map_rule m p body)
  rule_pairs p (bodies.Map body) is names = told_pairs p body (asking p body is names)
  rule_pairs p body is names = silent_pairs

  paired_laws : AreOnce asks → Laws (paired m asks)
  paired_laws once = record {
    leased = λ range generation k. tt;
    tells = λ q w range generation key low high a same b.
        (let is = once q range generation key b.range b.generation b.key a (subst (λ (v : ReqNo). HasAsked asks v b.range b.generation b.key) (sym (same_request q w same)) b.asked) in
        record {
          number = q;
          asked = a;
          pending = subst (λ r. IsPending m r generation key low high) (sym is.0)
              (subst (λ g. IsPending m b.range g key low high) (sym is.1) (subst (λ k. IsPending m b.range b.generation k low high) (sym is.2) b.pending));
        });
    low = λ range generation key low high k. tt;
    high = λ range generation key low high k. tt;
  }

-- ---- events

more_pairs : (m : MapState) (asks more : List Packet) → Extends (paired m asks) (paired m (asks ++ more))
more_pairs m asks more = record {
  knows = λ n g k. k;
  assigned = λ n g k. k;
  asked = λ q n g key k. on q n g key k;
  begun = λ q low high k. record { range = k.range; generation = k.generation; key = k.key; asked = on q k.range k.generation k.key k.asked; pending = k.pending };
  splits = λ n g key low high k. record { number = k.number; asked = on k.number n g key k.asked; pending = k.pending };
  numbers = λ n k. k;
  merges = λ n g k. k;
}
  where
    on : (q : ReqNo) (range generation : ℕ) (key : List ℕ) → HasAsked asks q range generation key → HasAsked (asks ++ more) q range generation key
    on q range generation key h = record { packet = h.packet; sent = Contains-append_left asks more h.packet h.sent; is = h.is }

-- where all that asked is in a post in which each range is asked to be split at one key
one_key : (asks post : List Packet) → ((p : Packet) → Contains asks p → Contains post p) → AskOneKey post → AskOneKey asks
one_key asks post sent h q w range generation key other a b =
    h q w range generation key other (record { packet = a.packet; sent = sent a.packet a.sent; is = a.is }) (record { packet = b.packet; sent = sent b.packet b.sent; is = b.is })

module _ (c : Cluster) (g : Governs c) (asks : List Packet) (once : AreOnce asks) (one : AskOneKey asks) (n : Names (paired c.map asks) c) where
  rules : (event : Event) → RulesOf (λ a. paired a asks) c event
  rules (Deliver number) = λ p at names. rule_pairs asks one c.map g.sound p p.body refl names
  rules (Assign k server until) = assign_pairs asks one c.map g.sound k server until (range_at c.map.ranges k)
  rules (Renew k server until) = renew_pairs asks one c.map g.sound k server until (range_at c.map.ranges k)
  rules (Submit user to body) = tt
  rules (Stop actor call keep) = tt
  rules (Restart actor) = tt
  rules (Decide e) = tt
  rules (GiveUp server k pick) = tt
  rules (Moment now) = tt
  rules (Checkpoint server k combine) = tt
  rules (Split server k key) = tt
  rules (Merge server left right) = tt

  event_pairs : (event : Event) → AskedIn (λ a. paired a asks) c event → Names (paired (cluster_after c event).map asks) (cluster_after c event)
  event_pairs event asked = event_goes (λ a. paired a asks) c (paired_laws asks one c.map g.sound once) tt n event (rules event) asked

-- the same with all that was asked by then
module _ (c : Cluster) (g : Governs c) (n : Names (paired c.map g.asks) c) where
  pub next_pairs : (event : Event) (unmerged : IsUnmerged event) → AskOneKey (cluster_after c event).stream_layer.post →
      Names (paired (cluster_after c event).map (event_governs c event unmerged g).asks) (cluster_after c event)
  unfolding event_governs other_governs split_governs
  next_pairs event unmerged h = go event unmerged h
    where
      before : (event : Event) → AskOneKey (cluster_after c event).stream_layer.post → AskOneKey c.stream_layer.post
      before event h = one_key c.stream_layer.post (cluster_after c event).stream_layer.post (λ p there. stays_in_post c p there event) h

      same : (event : Event) → AskOneKey (cluster_after c event).stream_layer.post → AskedIn (λ a. paired a g.asks) c event → Names (paired (cluster_after c event).map g.asks) (cluster_after c event)
      same event h asked = event_pairs c g g.asks g.once (one_key g.asks c.stream_layer.post g.sent (before event h)) n event asked

      go : (event : Event) (unmerged : IsUnmerged event) → AskOneKey (cluster_after c event).stream_layer.post → Names (paired (cluster_after c event).map (event_governs c event unmerged g).asks) (cluster_after c event)
      go (Split s k key) unmerged h =
          event_pairs c g (asked_now c s k key g) (now_once c s k key g)
          (one_key (asked_now c s k key g) (cluster_after c (Split s k key)).stream_layer.post (event_governs c (Split s k key) unmerged g).sent h)
          (names_on (paired c.map g.asks) (paired c.map (asked_now c s k key g)) (more_pairs c.map g.asks _) c n) (Split s k key) (λ cell at st is r sent. asks_now c s k key g cell at st is r sent)
      go (Submit user to body) unmerged h = same (Submit user to body) h tt
      go (Deliver number) unmerged h = same (Deliver number) h tt
      go (Stop actor call keep) unmerged h = same (Stop actor call keep) h tt
      go (Restart actor) unmerged h = same (Restart actor) h tt
      go (Decide e) unmerged h = same (Decide e) h tt
      go (GiveUp server k pick) unmerged h = same (GiveUp server k pick) h tt
      go (Assign k server until) unmerged h = same (Assign k server until) h tt
      go (Renew k server until) unmerged h = same (Renew k server until) h tt
      go (Moment now) unmerged h = same (Moment now) h tt
      go (Checkpoint server k combine) unmerged h = same (Checkpoint server k combine) h tt
      go (Merge server left right) unmerged h = absurd unmerged

-- ---- runs

all_in_post : (events : List Event) (c : Cluster) (p : Packet) → Contains c.stream_layer.post p → Contains (cluster_after_all c events).stream_layer.post p
all_in_post [] c p there = there
all_in_post (event ∷ events) c p there = all_in_post events (cluster_after c event) p (stays_in_post c p there event)

pub all_pairs : (events : List Event) (are : AreUnmerged events) (c : Cluster) (g : Governs c) → AskOneKey (cluster_after_all c events).stream_layer.post → Names (paired c.map g.asks) c →
    Names (paired (cluster_after_all c events).map (all_govern events are c g).asks) (cluster_after_all c events)
unfolding all_govern
all_pairs [] are c g h n = n
all_pairs (event ∷ events) are c g h n =
    all_pairs events are.1 (cluster_after c event) (event_governs c event are.0 g) h
    (next_pairs c g n event are.0 (one_key (cluster_after c event).stream_layer.post (cluster_after_all c (event ∷ events)).stream_layer.post (λ p there. all_in_post events (cluster_after c event) p there) h))

-- In every run without merges the two numbers that a split has, or was told, are those that are pending at its range, for as long as the map has
-- the range under the generation.
pub run_is_paired : (nodes servers target batch : ℕ) (events : List Event) → AreUnmerged events →
    ArePaired (cluster_after_all (first_cluster nodes servers target batch) events)
run_is_paired nodes servers target batch events are =
    let c : Cluster = first_cluster nodes servers target batch in
    let g : Governs (cluster_after_all c events) = all_govern events are c (first_governs nodes servers target batch) in
    record {
      asks = g.asks;
      sent = g.sent;
      once = g.once;
      names = all_pairs events are c (first_governs nodes servers target batch) (run_asks_one_key nodes servers target batch events are)
          (record { post = λ p there. absurd (let less = there.1 in omega (arith, less)); servers = first_cells (paired c.map (first_governs nodes servers target batch).asks) batch 1 servers; catalog = λ range kind x is. tt });
    }

-- What that means of the entry of the range: under the split's generation it has this pair pending.
pub pair_stands : (m : MapState) (range generation : ℕ) (key : List ℕ) (low high : ℕ) (x : RangeEntry) → IsPending m range generation key low high → range_at m.ranges range ≡ Some x → x.generation ≡ generation →
    x.pending ≡ Some (pendings.Split key low high)
pair_stands m range generation key low high x p at same = elim ((found_knows (EntryPairs range generation key low high) range m.ranges x p.entries at).1 (entry_number range m.ranges x at)) [
  | inl less ↦ absurd (omega (arith, less, same))
  | inr now ↦ now.1
]
