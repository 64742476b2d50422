-- What the map tells servers of leases is of ranges that have a number, from 1 on, and streams; what it tells else says nothing of
-- streams, and it asks nothing. It shows splits and merges alone.
use Rattle.std.proofs.Common.{◌≡◌, ℕ, zero, suc, ◌+◌, ◌^◌, ◌≤◌, ◌==◌, Bool, true, false, not, ◌&&◌, nat_lt, List, [], ◌∷◌, ◌++◌, map, Option, Some, None, Contains, refl, sym, ◌∙◌, subst, inl, arith, if◌then◌else◌}
use Rattle.std.proofs.lemmas.Bool.{and_parts, eqb-true, not-false}
use Rattle.std.proofs.lemmas.Bool.Decides.{nat_tests}
use Rattle.std.proofs.lemmas.Option.{same_Some}
use Rattle.wire.specs.declared.actor.ActorId.{ActorId}
use Rattle.wire.specs.declared.actor.ActorId.TheVariants.{Map}
use Rattle.wire.specs.declared.actor.ReqNo.{ReqNo}
use Rattle.wire.specs.declared.body.AppendBody.TheVariants as appends
use Rattle.wire.specs.declared.body.Body.{Body}
use Rattle.wire.specs.declared.body.Body.TheVariants as bodies
use Rattle.wire.specs.declared.body.MapBody.{MapBody}
use Rattle.wire.specs.declared.body.MapBody.TheVariants as maps
use Rattle.wire.specs.declared.packet.Packet.{Packet}
use Rattle.wire.specs.declared.refusal.Refusal.{Refusal}
use Rattle.wire.specs.declared.refusal.Refusal.TheVariants.{GenerationChanged}
use Rattle.model_streams.specs.Outcome.{Outcome, silent}
use Rattle.model_streams.specs.StreamSystem.{StreamSystem, is_told}
use Rattle.model_streams.proofs.Tests.{if_elim, none_met}
use Rattle.model_partition.specs.declared.pending.Pending.{Pending}
use Rattle.model_partition.specs.declared.pending.Pending.TheVariants as pendings
use Rattle.model_partition.specs.declared.range_entry.RangeEntry.{RangeEntry}
use Rattle.model_partition.specs.Map.{MapState, range_at, range_of_key, changed_if, assigned, renewed, dropped_if, drop_pending, with_pending, halves_at, halves, split_in, union_with, union_beside, union_at, joined, merge_in}
use Rattle.model_partition.specs.MapRules.{assign_rule, renew_rule, has_numbers, begin_split_fault, begin_split_taken, begin_split_rule, complete_split_fault, complete_split_taken, complete_split_rule, is_split, begin_merge_fault, begin_merge_taken, begin_merge_rule, complete_merge_fault, complete_merge_rule, route_rule, called, told, map_rule}
use Rattle.model_partition.specs.Partition.{one_if, uses_pending, uses}
use Rattle.model_partition.proofs.Numbers.{kept, dropped, fewer, split_fewer, merge_fewer}
use Rattle.laws_map.specs.Naming.{Each}
use Rattle.laws_map.proofs.UsedNumbers.{used_at, assigns_nothing, renews_nothing}
use Rattle.laws_clusters.proofs.RangeStreams.{AllStay, HasStreams, streams_stay}
use Rattle.laws_clusters.proofs.SaidPackets.{AreSaid}
use Rattle.laws_clusters.proofs.ServerNotes.{AreChanges}

-- ---- words

-- a range with a number and streams
abbrev pub IsFounded : StreamSystem → ℕ → Type 0
IsFounded w range = (1 ≤ range) × HasStreams w range

abbrev pub IsMapWord : StreamSystem → MapBody → Type 0
IsMapWord w (maps.Assign range g until) = IsFounded w range
IsMapWord w body = Unit {0}

abbrev pub IsWord : StreamSystem → Body → Type 0
IsWord w (bodies.Map body) = IsMapWord w body
IsWord w (bodies.Append (appends.Refused q why)) = Unit {0}
IsWord w body = ⊥

map_word_stays : (w v : StreamSystem) → AllStay w v → (body : MapBody) → IsMapWord w body → IsMapWord v body
map_word_stays w v stay (maps.Assign range g until) word = (word.0, streams_stay w v stay range word.1)
map_word_stays w v stay body word = tt

pub word_stays : (w v : StreamSystem) → AllStay w v → (body : Body) → IsWord w body → IsWord v body
word_stays w v stay (bodies.Map body) word = map_word_stays w v stay body word
word_stays w v stay (bodies.Append (appends.Refused q why)) word = tt
word_stays w v stay (bodies.Append body) word = absurd word
word_stays w v stay body word = absurd word

word_told : (w : StreamSystem) (body : Body) → IsWord w body → is_told body ≡ true
word_told w (bodies.Map body) word = refl
word_told w (bodies.Append (appends.Refused q why)) word = refl
word_told w (bodies.Append body) word = absurd word
word_told w body word = absurd word

-- the map tells it
abbrev pub IsWordOfMap : StreamSystem → Packet → Type 0
IsWordOfMap w p = (p.from ≡ Map) × IsWord w p.body

abbrev pub AreWords : StreamSystem → List Packet → Type 0
AreWords w [] = Unit {0}
AreWords w (p ∷ packets) = IsWordOfMap w p × AreWords w packets

pub words_of : (w : StreamSystem) (packets : List Packet) → AreWords w packets → (p : Packet) → Contains packets p → IsWordOfMap w p
words_of w [] words p (at, less, is) = absurd (omega (arith, less))
words_of w (x ∷ packets) words p (zero, less, is) = subst (IsWordOfMap w) is words.0
words_of w (x ∷ packets) words p (suc at, less, is) = words_of w packets words.1 p (at, omega (arith, less), is)

pub words_said : (w : StreamSystem) (packets : List Packet) → AreWords w packets → AreSaid w packets
words_said w [] words = tt
words_said w (p ∷ packets) words = (inl (word_told w p.body words.0.1), words_said w packets words.1)

-- ---- numbers

-- no range has the number 0, and none gets it
pub record AreCounted (m : MapState) : Type 0 where
  pub next : 1 ≤ m.next
  pub entries : uses 0 m.ranges ≡ 0

-- a number from 1 on is not 0
pub not_first : (n : ℕ) → 1 ≤ n → one_if (n == 0) ≡ 0
not_first n counted = go (n == 0) refl
  where
    go : (b : Bool) → (n == 0) ≡ b → one_if b ≡ 0
    go true e = absurd (grind (arith, nat_tests))
    go false e = refl

-- what is no more than nothing is nothing
pub none_of_fewer : (m n : ℕ) → m ≤ n → n ≡ 0 → m ≡ 0
none_of_fewer m n less none = omega (arith, less, none)

-- what is begun at a range gets other numbers
pub begun_counted : (range : ℕ) (p : Pending) → uses_pending 0 (Some p) ≡ 0 → (rs : List RangeEntry) → uses 0 rs ≡ 0 → uses 0 (map (changed_if range (with_pending p)) rs) ≡ 0
begun_counted range p none [] zeros = refl
begun_counted range p none (r ∷ rs) zeros =
    let rest : uses 0 (map (changed_if range (with_pending p)) rs) ≡ 0 = begun_counted range p none rs (omega (arith, zeros)) in
    if_elim (λ (x : RangeEntry). one_if (x.range == 0) + uses_pending 0 x.pending + uses 0 (map (changed_if range (with_pending p)) rs) ≡ 0) (r.range == range) (with_pending p r) r
    (λ t. omega (arith, zeros, none, rest)) (λ f. omega (arith, zeros, rest))

-- ---- streams

-- each range has streams
abbrev pub AllHave : StreamSystem → MapState → Type 0
AllHave w m = Each (λ (r : RangeEntry). HasStreams w r.range) m.ranges

pub all_stay : (w v : StreamSystem) → AllStay w v → (rs : List RangeEntry) → Each (λ (r : RangeEntry). HasStreams w r.range) rs → Each (λ (r : RangeEntry). HasStreams v r.range) rs
all_stay w v stay [] have = tt
all_stay w v stay (r ∷ rs) have = (streams_stay w v stay r.range have.0, all_stay w v stay rs have.1)

-- What takes the place of others in the map where it takes this has streams: the two of a split, and what a merge makes.
abbrev pub MapCompletes : StreamSystem → MapState → MapBody → Type 0
MapCompletes w m (maps.CompleteSplit range generation q) =
    (r : RangeEntry) → range_at m.ranges range ≡ Some r → r.generation ≡ generation → (key : List ℕ) (low high : ℕ) → r.pending ≡ Some (pendings.Split key low high) → HasStreams w low × HasStreams w high
MapCompletes w m (maps.CompleteMerge left a right b q) = (into : ℕ) → union_at m.ranges left right ≡ Some into → HasStreams w into
MapCompletes w m body = Unit {0}

abbrev pub Completes : StreamSystem → MapState → Body → Type 0
Completes w m (bodies.Map body) = MapCompletes w m body
Completes w m body = Unit {0}

module _ (w : StreamSystem) where
  abbrev Have : List RangeEntry → Type 0
  Have rs = Each (λ (r : RangeEntry). HasStreams w r.range) rs

  found_has : (rs : List RangeEntry) (range : ℕ) (r : RangeEntry) → Have rs → range_at rs range ≡ Some r → HasStreams w range
  found_has [] range r have at = absurd cc
  found_has (x ∷ rs) range r have at = go (x.range == range) refl at (found_has rs range r have.1)
    where
      go : (b : Bool) → (x.range == range) ≡ b → (if b then Some x else range_at rs range) ≡ Some r → (range_at rs range ≡ Some r → HasStreams w range) → HasStreams w range
      go true e is more = subst (HasStreams w) (eqb-true x.range range e) have.0
      go false e is more = more is

  changed_have : (change : RangeEntry → RangeEntry) → ((r : RangeEntry) → (change r).range ≡ r.range) → (rs : List RangeEntry) → Have rs → Have (map change rs)
  changed_have change number [] have = tt
  changed_have change number (r ∷ rs) have = (subst (HasStreams w) (sym (number r)) have.0, changed_have change number rs have.1)

  pending_number : (range : ℕ) (p : Pending) (r : RangeEntry) → (changed_if range (with_pending p) r).range ≡ r.range
  pending_number range p r = if_elim (λ (x : RangeEntry). x.range ≡ r.range) (r.range == range) (with_pending p r) r (λ t. refl) (λ f. refl)

  -- the two of a split in the place of one
  split_have : (range : ℕ) (rs : List RangeEntry) → Have rs →
      ((r : RangeEntry) → range_at rs range ≡ Some r → (key : List ℕ) (low high : ℕ) → r.pending ≡ Some (pendings.Split key low high) → HasStreams w low × HasStreams w high) → Have (split_in rs range)
  split_have range [] have sides = tt
  split_have range (r ∷ rs) have sides = go (r.range == range) sides (split_have range rs have.1)
    where
      by_pending : (p : Option Pending) → r.pending ≡ p → ((key : List ℕ) (low high : ℕ) → r.pending ≡ Some (pendings.Split key low high) → HasStreams w low × HasStreams w high) → Have (halves r p ++ rs)
      by_pending None is two = have
      by_pending (Some (pendings.Merge right into)) is two = have
      by_pending (Some (pendings.Split key low high)) is two = ((two key low high is).0, ((two key low high is).1, have.1))

      go : (b : Bool) → ((x : RangeEntry) → (if b then Some r else range_at rs range) ≡ Some x → (key : List ℕ) (low high : ℕ) → x.pending ≡ Some (pendings.Split key low high) → HasStreams w low × HasStreams w high) →
          (((x : RangeEntry) → range_at rs range ≡ Some x → (key : List ℕ) (low high : ℕ) → x.pending ≡ Some (pendings.Split key low high) → HasStreams w low × HasStreams w high) → Have (split_in rs range)) → Have (if b then halves r r.pending ++ rs else r ∷ split_in rs range)
      go true of more = by_pending r.pending refl (of r refl)
      go false of more = (have.0, more of)

  -- what a merge makes in the place of two
  merge_have : (left right : ℕ) (rs : List RangeEntry) → Have rs → ((into : ℕ) → union_at rs left right ≡ Some into → HasStreams w into) → Have (merge_in rs left right)
  merge_have left right [] have made = tt
  merge_have left right (l ∷ rs) have made = go (l.range == left) made (merge_have left right rs have.1)
    where
      by_union : (others : List RangeEntry) → Have others → (o : Option ℕ) → ((into : ℕ) → o ≡ Some into → HasStreams w into) → Have (joined l others o)
      by_union [] rest o of = (have.0, tt)
      by_union (r ∷ others) rest None of = (have.0, rest)
      by_union (r ∷ others) rest (Some into) of = (of into refl, rest.1)

      go : (b : Bool) → ((into : ℕ) → (if b then union_beside right l rs else union_at rs left right) ≡ Some into → HasStreams w into) → (((into : ℕ) → union_at rs left right ≡ Some into → HasStreams w into) → Have (merge_in rs left right)) →
          Have (if b then joined l rs (union_beside right l rs) else l ∷ merge_in rs left right)
      go true of more = by_union rs have.1 (union_beside right l rs) of
      go false of more = (have.0, more of)

-- ---- rules

-- what a rule of the map leaves, tells and shows
pub record IsRule (w : StreamSystem) (o : Outcome MapState) : Type 0 where
  pub counted : AreCounted o.after
  pub have : AllHave w o.after
  pub words : AreWords w o.packets
  pub shows : AreChanges o.notes

module _ (w : StreamSystem) (m : MapState) (k : AreCounted m) (have : AllHave w m) where
  found_counted : (range : ℕ) (r : RangeEntry) → range_at m.ranges range ≡ Some r → 1 ≤ range
  found_counted zero r at = absurd (let used = used_at 0 m.ranges r at in let none = k.entries in omega (arith, used, none))
  found_counted (suc n) r at = omega arith

  dropped_have : (range : ℕ) → AllHave w (drop_pending m range)
  dropped_have range = changed_have w (dropped_if range) (dropped range).number m.ranges have

  dropped_counted : (range : ℕ) → AreCounted (drop_pending m range)
  dropped_counted range = record { next = k.next; entries = none_of_fewer _ _ (fewer (dropped_if range) (dropped range) 0 m.ranges) k.entries }

  silent_rule : IsRule w (silent m)
  silent_rule = record { counted = k; have = have; words = tt; shows = tt }

  called_rule : (p : Packet) (q : ReqNo) (fault : Option Refusal) (o : Outcome MapState) → (fault ≡ None → IsRule w o) → IsRule w (called m p q fault o)
  called_rule p q (Some why) o rule = record { counted = k; have = have; words = ((refl, tt), tt); shows = tt }
  called_rule p q None o rule = rule refl

  pub assign_is_rule : (range server until : ℕ) (o : Option RangeEntry) → range_at m.ranges range ≡ o → IsRule w (assign_rule m range server until o)
  assign_is_rule range server until None at = silent_rule
  assign_is_rule range server until (Some r) at =
      if_elim (IsRule w) (nat_lt (suc r.generation) (2 ^ 64)) _ _
      (λ t. record {
        counted = record {
          next = k.next;
          entries = none_of_fewer _ _ (fewer (changed_if range (assigned server until)) (kept range (assigned server until) (assigns_nothing server until)) 0 (map (dropped_if range) m.ranges)) (dropped_counted range).entries;
        };
        have = changed_have w (changed_if range (assigned server until)) (kept range (assigned server until) (assigns_nothing server until)).number (map (dropped_if range) m.ranges) (dropped_have range);
        words = ((refl, (found_counted range r at, found_has w m.ranges range r have at)), tt);
        shows = tt;
      })
      (λ f. silent_rule)

  pub renew_is_rule : (range server until : ℕ) (o : Option RangeEntry) → IsRule w (renew_rule m range server until o)
  renew_is_rule range server until None = silent_rule
  renew_is_rule range server until (Some r) = record {
    counted = record {
      next = k.next;
      entries = none_of_fewer _ _ (fewer (changed_if range (renewed until)) (kept range (renewed until) (renews_nothing until)) 0 m.ranges) k.entries;
    };
    have = changed_have w (changed_if range (renewed until)) (kept range (renewed until) (renews_nothing until)).number m.ranges have;
    words = ((refl, tt), tt);
    shows = tt;
  }

  route_is_rule : (p : Packet) (q : ReqNo) (o : Option RangeEntry) → IsRule w (route_rule m p q o)
  route_is_rule p q None = silent_rule
  route_is_rule p q (Some r) = record { counted = k; have = have; words = ((refl, tt), tt); shows = tt }

  -- ---- splits

  begin_split_is_rule : (to : ActorId) (q : ReqNo) (range : ℕ) (key : List ℕ) (pair : Option (ℕ × ℕ)) → IsRule w (begin_split_taken m to q range key pair)
  begin_split_is_rule to q range key (Some pair) = record { counted = k; have = have; words = ((refl, tt), tt); shows = tt }
  begin_split_is_rule to q range key None =
      if_elim (IsRule w) (has_numbers m 2) _ _
      (λ t. record {
        counted = record {
          next = (let some = k.next in omega (arith, some));
          entries = begun_counted range (pendings.Split key m.next (m.next + 1))
              (let one = not_first m.next k.next in let two = not_first (m.next + 1) (omega arith) in omega (arith, one, two)) (map (dropped_if range) m.ranges) (dropped_counted range).entries;
        };
        have = changed_have w (changed_if range (with_pending (pendings.Split key m.next (m.next + 1)))) (pending_number w range (pendings.Split key m.next (m.next + 1))) (map (dropped_if range) m.ranges) (dropped_have range);
        words = ((refl, tt), tt);
        shows = tt;
      })
      (λ f. silent_rule)

  begin_split_if : (to : ActorId) (q : ReqNo) (range : ℕ) (key : List ℕ) (o : Option RangeEntry) → IsRule w (begin_split_rule m to q range key o)
  begin_split_if to q range key None = silent_rule
  begin_split_if to q range key (Some r) = begin_split_is_rule to q range key (halves_at key r.pending)

  complete_split_is_rule : (to : ActorId) (q : ReqNo) (range : ℕ) → Have w (split_in m.ranges range) → (p : Option Pending) → IsRule w (complete_split_taken m to q range p)
  complete_split_is_rule to q range sides None = silent_rule
  complete_split_is_rule to q range sides (Some (pendings.Merge right into)) = silent_rule
  complete_split_is_rule to q range sides (Some (pendings.Split key low high)) = record {
    counted = record { next = k.next; entries = none_of_fewer _ _ (split_fewer 0 range m.ranges) k.entries };
    have = sides;
    words = ((refl, tt), tt);
    shows = (tt, tt);
  }

  complete_split_if : (to : ActorId) (q : ReqNo) (range generation : ℕ) (o : Option RangeEntry) → range_at m.ranges range ≡ o → MapCompletes w m (maps.CompleteSplit range generation q) → complete_split_fault generation o ≡ None →
      IsRule w (complete_split_rule m to q range o)
  complete_split_if to q range generation None at completes free = silent_rule
  complete_split_if to q range generation (Some r) at completes free =
      complete_split_is_rule to q range (split_have w range m.ranges have (λ x found key low high is. completes x found (subst (λ (y : RangeEntry). y.generation ≡ generation) (same_Some r x (sym at ∙ found)) under) key low high is)) r.pending
    where
      under : r.generation ≡ generation
      under =
          let tests = none_met ((GenerationChanged, not (r.generation == generation && is_split r.pending)) ∷ []) free in
          eqb-true r.generation generation (and_parts (r.generation == generation) (is_split r.pending) (not-false (r.generation == generation && is_split r.pending) tests.0)).0

  -- ---- merges

  begin_merge_is_rule : (to : ActorId) (q : ReqNo) (left right : ℕ) (into : Option ℕ) → IsRule w (begin_merge_taken m to q left right into)
  begin_merge_is_rule to q left right (Some into) = record { counted = k; have = have; words = ((refl, tt), tt); shows = tt }
  begin_merge_is_rule to q left right None =
      if_elim (IsRule w) (has_numbers m 1) _ _
      (λ t. record {
        counted = record {
          next = (let some = k.next in omega (arith, some));
          entries = begun_counted left (pendings.Merge right m.next) (not_first m.next k.next) (map (dropped_if left) (map (dropped_if right) m.ranges))
              (none_of_fewer _ _ (fewer (dropped_if left) (dropped left) 0 (map (dropped_if right) m.ranges)) (dropped_counted right).entries);
        };
        have = changed_have w (changed_if left (with_pending (pendings.Merge right m.next))) (pending_number w left (pendings.Merge right m.next)) (map (dropped_if left) (map (dropped_if right) m.ranges))
            (changed_have w (dropped_if left) (dropped left).number (map (dropped_if right) m.ranges) (dropped_have right));
        words = ((refl, tt), tt);
        shows = tt;
      })
      (λ f. silent_rule)

  begin_merge_if : (to : ActorId) (q : ReqNo) (left right : ℕ) (o : Option RangeEntry) → IsRule w (begin_merge_rule m to q left right o)
  begin_merge_if to q left right None = silent_rule
  begin_merge_if to q left right (Some l) = begin_merge_is_rule to q left right (union_with right l.pending)

  complete_merge_is_rule : (to : ActorId) (q : ReqNo) (left right : ℕ) → Have w (merge_in m.ranges left right) → (into : Option ℕ) → IsRule w (complete_merge_rule m to q left right into)
  complete_merge_is_rule to q left right made None = silent_rule
  complete_merge_is_rule to q left right made (Some into) = record {
    counted = record { next = k.next; entries = none_of_fewer _ _ (merge_fewer 0 left right m.ranges) k.entries };
    have = made;
    words = ((refl, tt), tt);
    shows = (tt, tt);
  }

  -- ---- packets

  told_is_rule : (p : Packet) (body : MapBody) → MapCompletes w m body → IsRule w (told m p body)
  told_is_rule p (maps.Route key q) completes = route_is_rule p q (range_of_key m.ranges key)
  told_is_rule p (maps.BeginSplit range generation key q) completes =
      called_rule p q (begin_split_fault generation key (range_at m.ranges range)) (begin_split_rule m p.from q range key (range_at m.ranges range)) (λ free. begin_split_if p.from q range key (range_at m.ranges range))
  told_is_rule p (maps.CompleteSplit range generation q) completes =
      called_rule p q (complete_split_fault generation (range_at m.ranges range)) (complete_split_rule m p.from q range (range_at m.ranges range))
      (λ free. complete_split_if p.from q range generation (range_at m.ranges range) refl completes free)
  told_is_rule p (maps.BeginMerge left a right b q) completes =
      called_rule p q (begin_merge_fault a b (range_at m.ranges left) (range_at m.ranges right)) (begin_merge_rule m p.from q left right (range_at m.ranges left)) (λ free. begin_merge_if p.from q left right (range_at m.ranges left))
  told_is_rule p (maps.CompleteMerge left a right b q) completes =
      called_rule p q (complete_merge_fault a b (range_at m.ranges left) (range_at m.ranges right) (union_at m.ranges left right)) (complete_merge_rule m p.from q left right (union_at m.ranges left right))
      (λ free. complete_merge_is_rule p.from q left right (merge_have w left right m.ranges have completes) (union_at m.ranges left right))
  told_is_rule p body completes = silent_rule

  -- whatever comes to the map
  pub map_is_rule : (p : Packet) (body : Body) → Completes w m body → IsRule w (map_rule m p body)
  map_is_rule p (bodies.Map body) completes = told_is_rule p body completes
  map_is_rule p body completes = silent_rule
