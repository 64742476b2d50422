-- How ranges come to be in a run: where a split is shown, its two numbers are above that of its range, and nothing that is shown
-- later makes any of the three.
use Rattle.std.proofs.Common.{◌≡◌, ℕ, suc, ◌+◌, ◌<◌, ◌^◌, Bool, true, false, ◌||◌, ◌==◌, nat_lt, List, [], ◌∷◌, ◌++◌, map, Option, Some, None, slice_get, refl, sym, ap, ◌∙◌, subst, inl, inr, arith, if◌then◌else◌}
use Rattle.std.proofs.lemmas.Bool.{eqb-true, eqb-false}
use Rattle.std.proofs.lemmas.Bool.Decides.{nat_tests}
use Rattle.std.proofs.lemmas.Option.{same_Some}
use Rattle.wire.specs.declared.actor.ActorId.{ActorId}
use Rattle.wire.specs.declared.actor.ActorId.TheVariants.{Node, Manager, Map, Server, User}
use Rattle.wire.specs.declared.actor.ReqNo.{ReqNo}
use Rattle.wire.specs.declared.body.Body.{Body}
use Rattle.wire.specs.declared.body.Body.TheVariants as bodies
use Rattle.wire.specs.declared.body.MapBody.{MapBody}
use Rattle.wire.specs.declared.body.MapBody.TheVariants as maps
use Rattle.wire.specs.declared.note.Note.{Note}
use Rattle.wire.specs.declared.note.Note.TheVariants as notes
use Rattle.wire.specs.declared.packet.Packet.{Packet}
use Rattle.wire.specs.declared.refusal.Refusal.{Refusal}
use Rattle.model_streams.specs.declared.event.Event.{Event}
use Rattle.model_streams.specs.declared.event.Event.TheVariants.{Submit, Deliver, Stop, Restart, Decide, GiveUp, Assign, Renew, Moment, Checkpoint, Split, Merge}
use Rattle.model_streams.specs.Outcome.{Outcome, silent}
use Rattle.model_streams.specs.StreamSystem.{happens, stops_in, stands_in, delivered_if, delivered}
use Rattle.model_streams.proofs.Tests.{if_elim}
use Rattle.model_partition.specs.declared.map_record.MapRecord.TheVariants as records
use Rattle.model_partition.specs.declared.pending.Pending.{Pending}
use Rattle.model_partition.specs.declared.pending.Pending.TheVariants as pendings
use Rattle.model_partition.specs.declared.range_entry.RangeEntry.{RangeEntry}
use Rattle.model_partition.specs.declared.table_note.TableNote.{TableNote}
use Rattle.model_partition.specs.declared.table_note.TableNote.TheVariants as tables
use Rattle.model_partition.specs.Past.{first_range, table_notes}
use Rattle.model_partition.specs.Map.{MapState, range_at, range_of_key, changed_if, assigned, renewed, dropped_if, with_pending, halves_at, half, halves, split_in, complete_split, union_with, union_beside, union_at, joined, merge_in}
use Rattle.model_partition.specs.MapRules.{assign_fault, assign_rule, renew_fault, renew_rule, has_numbers, begin_split_fault, begin_split_taken, begin_split_rule, is_split, complete_split_fault, complete_split_taken, complete_split_rule, begin_merge_fault, begin_merge_taken, begin_merge_rule, complete_merge_fault, complete_merge_rule, route_rule, called, told, map_rule}
use Rattle.model_partition.specs.Partition.{one_if, uses_pending, IsSound}
use Rattle.model_partition.specs.Replay.{may_complete_split}
use Rattle.model_partition.specs.Servers.{noted, ServersOutcome, server_takes, server_gives_up, server_checkpoints, server_splits, server_merges, server_stops, server_starts}
use Rattle.model_partition.specs.Servers.{told as note_told}
use Rattle.model_partition.specs.Cluster.{Cluster, servers_perform, map_performs, map_performs_if, map_takes, delivered_to, delivers, stops, restarts, shows_moment, assigns, renews, map_stops, map_starts, cluster_after, cluster_after_all, first_cluster}
use Rattle.model_partition.proofs.Numbers.{BeginsNothing, kept, dropped, beside_used}
use Rattle.model_partition.proofs.Replaying.{after_sound, first_sound}
use Rattle.laws_tables.specs.Families.{HasNoBirth, IsChild}
use Rattle.laws_tables.proofs.Births.{none_append}
use Rattle.laws_tables.proofs.Others.{others-append}
use Rattle.laws_map.specs.Naming.{Each}
use Rattle.laws_map.specs.Assigned.{IsNone, IsSettled}
use Rattle.laws_map.proofs.UsedNumbers.{assigns_nothing, renews_nothing}
use Rattle.laws_map.proofs.WithinMaps.{each_map}
use Rattle.laws_map.proofs.GivenNumbers.{entry_number, found_given}
use Rattle.laws_map.proofs.GoneRanges.{found_knows}
use Rattle.laws_map.proofs.SoundMaps.{assign_sound, renew_sound, map_rule_sound}
use Rattle.laws_map.proofs.Unassigned.{found_settled, split_in_settled, assign_settles, renew_settles, map_settles}
use Rattle.laws_clusters.proofs.StreamEvents.{happens_tables}

-- ---- what is owed of each split

-- the number of the range was used up, and none of these makes the range
pub record IsOver (m : MapState) (range : ℕ) (later : List Note) : Type 0 where
  pub settled : IsSettled m range
  pub unborn : HasNoBirth range later

pub record IsBirth (m : MapState) (parent low high : ℕ) (later : List Note) : Type 0 where
  pub low_above : parent < low
  pub high_above : parent < high
  pub source : IsOver m parent later
  pub first : IsOver m low later
  pub second : IsOver m high later

-- so it is of each split among these
abbrev pub AreBirths : MapState → List Note → Type 0
AreBirths m [] = Unit {0}
AreBirths m (notes.Split parent low high key ∷ later) = IsBirth m parent low high later × AreBirths m later
AreBirths m (note ∷ later) = AreBirths m later

-- From one map to a later one, where more was shown: what was settled stays so, and nothing that was settled is made.
module _ (m n : MapState) (new : List Note) (on : (range : ℕ) → IsSettled m range → IsSettled n range) (none : (range : ℕ) → IsSettled m range → HasNoBirth range new) where
  pub over_more : (range : ℕ) (h : List Note) → IsOver m range h → IsOver n range (h ++ new)
  over_more range h x = record { settled = on range x.settled; unborn = none_append range h new x.unborn (none range x.settled) }

  pub births_more : AreBirths n new → (h : List Note) → AreBirths m h → AreBirths n (h ++ new)
  births_more now [] b = now
  births_more now (notes.Split parent low high key ∷ h) b = (
    record {
      low_above = b.0.low_above;
      high_above = b.0.high_above;
      source = over_more parent h b.0.source;
      first = over_more low h b.0.first;
      second = over_more high h b.0.second;
    },
    births_more now h b.1,
  )
  births_more now (notes.Merged left right range ∷ h) b = births_more now h b
  births_more now (notes.Acked e offset group ∷ h) b = births_more now h b
  births_more now (notes.SealedAt e length ∷ h) b = births_more now h b
  births_more now (notes.Content e node groups ∷ h) b = births_more now h b
  births_more now (notes.Seen e node offset bytes ∷ h) b = births_more now h b
  births_more now (notes.Began range generation number changes ∷ h) b = births_more now h b
  births_more now (notes.Done range generation number ∷ h) b = births_more now h b
  births_more now (notes.Got range generation key value ∷ h) b = births_more now h b
  births_more now (notes.Loaded range generation rows next ∷ h) b = births_more now h b

-- ---- what that means of the children of a split

birth_at : (m : MapState) (before later : List Note) (parent low high : ℕ) (key : List ℕ) → AreBirths m (before ++ notes.Split parent low high key ∷ later) → IsBirth m parent low high later
birth_at m [] later parent low high key b = b.0
birth_at m (notes.Split p l h k ∷ before) later parent low high key b = birth_at m before later parent low high key b.1
birth_at m (notes.Merged left right range ∷ before) later parent low high key b = birth_at m before later parent low high key b
birth_at m (notes.Acked e offset group ∷ before) later parent low high key b = birth_at m before later parent low high key b
birth_at m (notes.SealedAt e length ∷ before) later parent low high key b = birth_at m before later parent low high key b
birth_at m (notes.Content e node groups ∷ before) later parent low high key b = birth_at m before later parent low high key b
birth_at m (notes.Seen e node offset bytes ∷ before) later parent low high key b = birth_at m before later parent low high key b
birth_at m (notes.Began range generation number changes ∷ before) later parent low high key b = birth_at m before later parent low high key b
birth_at m (notes.Done range generation number ∷ before) later parent low high key b = birth_at m before later parent low high key b
birth_at m (notes.Got range generation asked value ∷ before) later parent low high key b = birth_at m before later parent low high key b
birth_at m (notes.Loaded range generation rows next ∷ before) later parent low high key b = birth_at m before later parent low high key b

-- Both are children of the range.
pub born_children : (m : MapState) (h before later : List Note) (parent low high : ℕ) (key : List ℕ) → AreBirths m h → h ≡ before ++ notes.Split parent low high key ∷ later → IsChild h parent low × IsChild h parent high
born_children m h before later parent low high key b is =
    let x : IsBirth m parent low high later = birth_at m before later parent low high key (subst (AreBirths m) is b) in (
      record {
        before = before;
        after = later;
        low = low;
        high = high;
        key = key;
        is = is;
        half = inl refl;
        low_above = x.low_above;
        high_above = x.high_above;
        no_child_birth = x.first.unborn;
        no_parent_birth = x.source.unborn;
      },
      record {
        before = before;
        after = later;
        low = low;
        high = high;
        key = key;
        is = is;
        half = inr refl;
        low_above = x.low_above;
        high_above = x.high_above;
        no_child_birth = x.second.unborn;
        no_parent_birth = x.source.unborn;
      },
    )

-- ---- splits that are pending

-- the two ranges to come are above this one
abbrev pub IsAbove : ℕ → Option Pending → Type 0
IsAbove range None = Unit {0}
IsAbove range (Some (pendings.Split key low high)) = (range < low) × (range < high)
IsAbove range (Some (pendings.Merge right into)) = Unit {0}

abbrev pub EntryAbove : RangeEntry → Type 0
EntryAbove r = IsAbove r.range r.pending

abbrev pub AreAbove : MapState → Type 0
AreAbove m = Each EntryAbove m.ranges

-- a change that begins nothing
change_above : (change : RangeEntry → RangeEntry) → BeginsNothing change → (rs : List RangeEntry) → Each EntryAbove rs → Each EntryAbove (map change rs)
change_above change b rs all = each_map EntryAbove EntryAbove change step rs all
  where
    step : (r : RangeEntry) → EntryAbove r → EntryAbove (change r)
    step r above =
        subst (λ n. IsAbove n (change r).pending) (sym (b.number r))
        (elim (b.pending r) [ inl same ↦ subst (λ (p : Option Pending). IsAbove r.range p) (sym same) above | inr gone ↦ subst (λ (p : Option Pending). IsAbove r.range p) (sym gone) tt ])

drop_above : (range : ℕ) (rs : List RangeEntry) → Each EntryAbove rs → Each EntryAbove (map (dropped_if range) rs)
drop_above range rs all = change_above (dropped_if range) (dropped range) rs all

begin_above : (range : ℕ) (pending : Pending) (rs : List RangeEntry) → IsAbove range (Some pending) → Each EntryAbove rs → Each EntryAbove (map (changed_if range (with_pending pending)) (map (dropped_if range) rs))
begin_above range pending rs above all = each_map EntryAbove EntryAbove (changed_if range (with_pending pending)) step (map (dropped_if range) rs) (drop_above range rs all)
  where
    step : (r : RangeEntry) → EntryAbove r → EntryAbove (changed_if range (with_pending pending) r)
    step r old = if_elim EntryAbove (r.range == range) (with_pending pending r) r (λ t. subst (λ n. IsAbove n (Some pending)) (sym (eqb-true r.range range t)) above) (λ f. old)

split_in_above : (range : ℕ) (rs : List RangeEntry) → Each EntryAbove rs → Each EntryAbove (split_in rs range)
split_in_above range [] all = tt
split_in_above range (r ∷ rs) all = if_elim (Each EntryAbove) (r.range == range) (halves r r.pending ++ rs) (r ∷ split_in rs range) (λ t. by_pending r.pending) (λ f. (all.0, split_in_above range rs all.1))
  where
    by_pending : (p : Option Pending) → Each EntryAbove (halves r p ++ rs)
    by_pending None = all
    by_pending (Some (pendings.Merge right into)) = all
    by_pending (Some (pendings.Split key low high)) = (tt, (tt, all.1))

merge_in_above : (left right : ℕ) (rs : List RangeEntry) → Each EntryAbove rs → Each EntryAbove (merge_in rs left right)
merge_in_above left right [] all = tt
merge_in_above left right (l ∷ rs) all =
    if_elim (Each EntryAbove) (l.range == left) (joined l rs (union_beside right l rs)) (l ∷ merge_in rs left right) (λ t. by_union rs all.1 (union_beside right l rs)) (λ f. (all.0, merge_in_above left right rs all.1))
  where
    by_union : (rs : List RangeEntry) → Each EntryAbove rs → (o : Option ℕ) → Each EntryAbove (joined l rs o)
    by_union [] more None = (all.0, tt)
    by_union [] more (Some into) = (all.0, tt)
    by_union (r ∷ rs) more None = (all.0, more)
    by_union (r ∷ rs) more (Some into) = (tt, more.1)

-- ---- what a split leaves

abbrev Found : ℕ → List RangeEntry → Type 0
Found n rs = (y : RangeEntry) × (range_at rs n ≡ Some y)

found_first : (n : ℕ) (r : RangeEntry) (rs : List RangeEntry) → r.range ≡ n → Found n (r ∷ rs)
found_first n r rs same = if_elim (λ (o : Option RangeEntry). (y : RangeEntry) × (o ≡ Some y)) (r.range == n) (Some r) (range_at rs n) (λ t. (r, refl)) (λ f. absurd (eqb-false r.range n f same))

found_behind : (n : ℕ) (r : RangeEntry) (rs : List RangeEntry) → Found n rs → Found n (r ∷ rs)
found_behind n r rs more = if_elim (λ (o : Option RangeEntry). (y : RangeEntry) × (o ≡ Some y)) (r.range == n) (Some r) (range_at rs n) (λ t. (r, refl)) (λ f. more)

abbrev Both : ℕ → ℕ → List RangeEntry → Type 0
Both low high rs = Found low rs × Found high rs

-- both halves are found
halves_found : (range : ℕ) (rs : List RangeEntry) (x : RangeEntry) (key : List ℕ) (low high : ℕ) → range_at rs range ≡ Some x → x.pending ≡ Some (pendings.Split key low high) →
    Both low high (split_in rs range)
halves_found range [] x key low high at pending = absurd cc
halves_found range (r ∷ rs) x key low high at pending = go (r.range == range) at (λ more. halves_found range rs x key low high more pending)
  where
    go : (b : Bool) → (if b then Some r else range_at rs range) ≡ Some x → (range_at rs range ≡ Some x → Both low high (split_in rs range)) → Both low high (if b then halves r r.pending ++ rs else r ∷ split_in rs range)
    go true is more =
        let same : r ≡ x = same_Some r x is in
        let here : r.pending ≡ Some (pendings.Split key low high) = subst (λ (y : RangeEntry). y.pending ≡ Some (pendings.Split key low high)) (sym same) pending in
        let first : RangeEntry = half r low (record { low = r.keys.low; high = Some key }) in
        let second : RangeEntry = half r high (record { low = key; high = r.keys.high }) in
        subst (λ (p : Option Pending). Both low high (halves r p ++ rs)) (sym here) (found_first low first (second ∷ rs) refl, found_behind high first (second ∷ rs) (found_first high second rs refl))
    go false is more = let both = more is in (found_behind low r (split_in rs range) both.0, found_behind high r (split_in rs range) both.1)

-- ---- numbers that are not to come

not_used : (number n : ℕ) → one_if (number == n) ≡ 0 → (n == number) ≡ false
not_used number n none = go (number == n) refl none
  where
    go : (b : Bool) → (number == n) ≡ b → one_if b ≡ 0 → (n == number) ≡ false
    go true e none = absurd (omega (arith, none))
    go false e none = grind (arith, nat_tests)

-- what two ranges become is not one that none of them is to become
union_unused : (n left right into : ℕ) (rs : List RangeEntry) → Each (IsNone n) rs → union_at rs left right ≡ Some into → one_if (into == n) ≡ 0
union_unused n left right into [] none is = absurd cc
union_unused n left right into (l ∷ rs) none is = go (l.range == left) is (λ more. union_unused n left right into rs none.1 more)
  where
    go : (b : Bool) → (if b then union_beside right l rs else union_at rs left right) ≡ Some into → (union_at rs left right ≡ Some into → one_if (into == n) ≡ 0) → one_if (into == n) ≡ 0
    go true beside more = let used = beside_used n right into l rs beside in let unused : uses_pending n l.pending ≡ 0 = none.0 in omega (arith, used, unused)
    go false behind more = more behind

-- ---- the rules of the map

-- what a rule shows makes nothing that was settled before, and is owed nothing
pub record Shows (m : MapState) (o : Outcome MapState) : Type 0 where
  pub none : (range : ℕ) → IsSettled m range → HasNoBirth range (table_notes o.notes)
  pub births : AreBirths o.after (table_notes o.notes)

pub record Bears (m : MapState) (o : Outcome MapState) : Type 0 where
  pub above : AreAbove o.after
  pub shows : Shows m o

module _ (m : MapState) (s : IsSound m) (a : AreAbove m) where
  abbrev Bearing : Outcome MapState → Type 0
  Bearing o = Bears m o

  -- a rule that shows nothing
  quiet : (o : Outcome MapState) → o.notes ≡ [] → AreAbove o.after → Bearing o
  quiet o none above = record {
    above = above;
    shows = record {
      none = λ range k. subst (λ (ns : List Note). HasNoBirth range (table_notes ns)) (sym none) tt;
      births = subst (λ (ns : List Note). AreBirths o.after (table_notes ns)) (sym none) tt;
    };
  }

  silent_bears : Bearing (silent m)
  silent_bears = quiet (silent m) refl a

  called_bears : (p : Packet) (q : ReqNo) (fault : Option Refusal) (o : Outcome MapState) → Bearing o → Bearing (called m p q fault o)
  called_bears p q (Some refusal) o taken = quiet (called m p q (Some refusal) o) refl a
  called_bears p q None o taken = taken

  pub assign_bears : (range server until : ℕ) (o : Option RangeEntry) → Bearing (assign_rule m range server until o)
  assign_bears range server until None = silent_bears
  assign_bears range server until (Some x) =
      if_elim Bearing (nat_lt (suc x.generation) (2 ^ 64)) _ _
      (λ t. quiet _ refl (change_above (changed_if range (assigned server until)) (kept range (assigned server until) (assigns_nothing server until)) (map (dropped_if range) m.ranges) (drop_above range m.ranges a))) (λ f. silent_bears)

  pub renew_bears : (range server until : ℕ) (o : Option RangeEntry) → Bearing (renew_rule m range server until o)
  renew_bears range server until None = silent_bears
  renew_bears range server until (Some x) = quiet (renew_rule m range server until (Some x)) refl (change_above (changed_if range (renewed until)) (kept range (renewed until) (renews_nothing until)) m.ranges a)

  route_bears : (p : Packet) (q : ReqNo) (o : Option RangeEntry) → Bearing (route_rule m p q o)
  route_bears p q None = silent_bears
  route_bears p q (Some r) = quiet (route_rule m p q (Some r)) refl a

  begin_split_bears : (to : ActorId) (q : ReqNo) (range : ℕ) (key : List ℕ) → range < m.next → (pair : Option (ℕ × ℕ)) → Bearing (begin_split_taken m to q range key pair)
  begin_split_bears to q range key given (Some pair) = quiet (begin_split_taken m to q range key (Some pair)) refl a
  begin_split_bears to q range key given None =
      if_elim Bearing (has_numbers m 2) _ _ (λ t. quiet _ refl (begin_above range (pendings.Split key m.next (m.next + 1)) m.ranges (given, omega (arith, given)) a)) (λ f. silent_bears)

  begin_split_rule_bears : (to : ActorId) (q : ReqNo) (range : ℕ) (key : List ℕ) (o : Option RangeEntry) → range_at m.ranges range ≡ o → Bearing (begin_split_rule m to q range key o)
  begin_split_rule_bears to q range key None at = silent_bears
  begin_split_rule_bears to q range key (Some r) at = begin_split_bears to q range key (found_given m s range r at) (halves_at key r.pending)

  -- the split that is shown is the one that was pending
  complete_split_bears : (to : ActorId) (q : ReqNo) (range : ℕ) (o : Option RangeEntry) → range_at m.ranges range ≡ o → Bearing (complete_split_rule m to q range o)
  complete_split_bears to q range None at = silent_bears
  complete_split_bears to q range (Some r) at = by_pending r.pending refl
    where
      by_pending : (p : Option Pending) → r.pending ≡ p → Bearing (complete_split_taken m to q range p)
      by_pending None is = silent_bears
      by_pending (Some (pendings.Merge right into)) is = silent_bears
      by_pending (Some (pendings.Split key low high)) is =
          let d : MapState = complete_split m range in
          let sound : IsSound d = after_sound m (records.CompleteSplit range) (ap may_complete_split at ∙ ap is_split is) s in
          let found = halves_found range m.ranges r key low high at is in
          let entry : IsAbove r.range r.pending = found_knows EntryAbove range m.ranges r a at in
          let above : (range < low) × (range < high) = subst (λ n. IsAbove n (Some (pendings.Split key low high))) (entry_number range m.ranges r at) (subst (λ (p : Option Pending). IsAbove r.range p) is entry) in
          let source : IsSettled m range = found_settled m s range r at in
          record {
            above = split_in_above range m.ranges a;
            shows = record {
              none = λ n k. (neither n k, tt);
              births = (
                record {
                  low_above = above.0;
                  high_above = above.1;
                  source = record { settled = record { given = source.given; entries = split_in_settled range range m.ranges source.entries }; unborn = tt };
                  first = record { settled = found_settled d sound low found.0.0 found.0.1; unborn = tt };
                  second = record { settled = found_settled d sound high found.1.0 found.1.1; unborn = tt };
                },
                tt,
              );
            };
          }
        where
          neither : (n : ℕ) → IsSettled m n → ((n == low) || (n == high)) ≡ false
          neither n k =
              let sum : one_if (low == n) + one_if (high == n) ≡ 0 = sym (ap (uses_pending n) is) ∙ found_knows (IsNone n) range m.ranges r k.entries at in
              let l : (n == low) ≡ false = not_used low n (omega (arith, sum)) in
              let h : (n == high) ≡ false = not_used high n (omega (arith, sum)) in
              ap (λ b. b || (n == high)) l ∙ h

  begin_merge_bears : (to : ActorId) (q : ReqNo) (left right : ℕ) (into : Option ℕ) → Bearing (begin_merge_taken m to q left right into)
  begin_merge_bears to q left right (Some into) = quiet (begin_merge_taken m to q left right (Some into)) refl a
  begin_merge_bears to q left right None =
      if_elim Bearing (has_numbers m 1) _ _ (λ t. quiet _ refl (begin_above left (pendings.Merge right m.next) (map (dropped_if right) m.ranges) tt (drop_above right m.ranges a))) (λ f. silent_bears)

  begin_merge_rule_bears : (to : ActorId) (q : ReqNo) (left right : ℕ) (l : Option RangeEntry) → Bearing (begin_merge_rule m to q left right l)
  begin_merge_rule_bears to q left right None = silent_bears
  begin_merge_rule_bears to q left right (Some l) = begin_merge_bears to q left right (union_with right l.pending)

  complete_merge_bears : (to : ActorId) (q : ReqNo) (left right : ℕ) (into : Option ℕ) → union_at m.ranges left right ≡ into → Bearing (complete_merge_rule m to q left right into)
  complete_merge_bears to q left right None is = silent_bears
  complete_merge_bears to q left right (Some into) is = record {
    above = merge_in_above left right m.ranges a;
    shows = record { none = λ n k. (not_used into n (union_unused n left right into m.ranges k.entries is), tt); births = tt };
  }

  told_bears : (p : Packet) (body : MapBody) → Bearing (told m p body)
  told_bears p (maps.Route key q) = route_bears p q (range_of_key m.ranges key)
  told_bears p (maps.BeginSplit range generation key q) =
      called_bears p q (begin_split_fault generation key (range_at m.ranges range)) _ (begin_split_rule_bears p.from q range key (range_at m.ranges range) refl)
  told_bears p (maps.CompleteSplit range generation q) =
      called_bears p q (complete_split_fault generation (range_at m.ranges range)) _ (complete_split_bears p.from q range (range_at m.ranges range) refl)
  told_bears p (maps.BeginMerge left b right g q) =
      called_bears p q (begin_merge_fault b g (range_at m.ranges left) (range_at m.ranges right)) _ (begin_merge_rule_bears p.from q left right (range_at m.ranges left))
  told_bears p (maps.CompleteMerge left b right g q) =
      called_bears p q (complete_merge_fault b g (range_at m.ranges left) (range_at m.ranges right) (union_at m.ranges left right)) _ (complete_merge_bears p.from q left right (union_at m.ranges left right) refl)
  told_bears p body = silent_bears

  pub map_bears : (p : Packet) (body : Body) → Bearing (map_rule m p body)
  map_bears p (bodies.Map body) = told_bears p body
  map_bears p body = silent_bears

-- ---- the whole

-- The map is sound, its pending splits are of numbers above; so it is of each split that was shown, and nothing made the first range.
pub record HasBirths (m : MapState) (h : List Note) : Type 0 where
  pub sound : IsSound m
  pub above : AreAbove m
  pub born : AreBirths m h
  pub first : IsOver m first_range h

abbrev pub Births : Cluster → Type 0
Births c = HasBirths c.map (table_notes c.stream_layer.notes)

-- ---- servers

-- what makes no range
makes_none : (m : MapState) (note : Note) (h : List Note) → ((range : ℕ) → HasNoBirth range (note ∷ [])) → AreBirths m (note ∷ []) → HasBirths m h → HasBirths m (h ++ note ∷ [])
makes_none m note h none now b = record {
  sound = b.sound;
  above = b.above;
  born = births_more m m (note ∷ []) (λ range k. k) (λ range k. none range) now h b.born;
  first = over_more m m (note ∷ []) (λ range k. k) (λ range k. none range) first_range h b.first;
}

noted_births : (m : MapState) (more : List TableNote) (seen : List Note) → HasBirths m (table_notes seen) → HasBirths m (table_notes (noted seen more))
noted_births m [] seen b = b
noted_births m (n ∷ more) seen b = noted_births m more (seen ++ note_told seen n ∷ []) (one n)
  where
    one : (n : TableNote) → HasBirths m (table_notes (seen ++ note_told seen n ∷ []))
    one (tables.Began range generation number changes) = subst (HasBirths m) (sym (others-append seen _)) (makes_none m _ (table_notes seen) (λ range. (refl, tt)) tt b)
    one (tables.Done range generation number) = subst (HasBirths m) (sym (others-append seen _)) (makes_none m _ (table_notes seen) (λ range. (refl, tt)) tt b)
    one (tables.Got range generation key value) = subst (HasBirths m) (sym (others-append seen _)) (makes_none m _ (table_notes seen) (λ range. (refl, tt)) tt b)
    one (tables.Loaded range generation table next) = subst (HasBirths m) (sym (others-append seen _)) (makes_none m _ (table_notes seen) (λ range. (refl, tt)) tt b)

servers_birth : (c : Cluster) (o : ServersOutcome) → Births c → Births (servers_perform c o)
servers_birth c o b = noted_births c.map o.notes c.stream_layer.notes b

-- ---- the map

-- a rule of the map, with what it leaves
record Goes (m : MapState) (o : Outcome MapState) : Type 0 where
  sound : IsSound o.after
  settled : (range : ℕ) → IsSettled m range → IsSettled o.after range
  bears : Bears m o

rule_births : (m : MapState) (o : Outcome MapState) (seen : List Note) → Goes m o → HasBirths m (table_notes seen) → HasBirths o.after (table_notes (seen ++ o.notes))
rule_births m o seen g b = subst (HasBirths o.after) (sym (others-append seen o.notes)) (record {
  sound = g.sound;
  above = g.bears.above;
  born = births_more m o.after (table_notes o.notes) g.settled g.bears.shows.none g.bears.shows.births (table_notes seen) b.born;
  first = over_more m o.after (table_notes o.notes) g.settled g.bears.shows.none first_range (table_notes seen) b.first;
})

does_birth : (c : Cluster) (o : Outcome MapState) → Goes c.map o → Births c → Births (map_performs c o)
does_birth c o g b =
    if_elim Births (stops_in c.map_cell o.written) _ _
    (λ t. if_elim Births (stands_in c.map_cell) _ _ (λ u. rule_births c.map o c.stream_layer.notes g b) (λ u. b))
    (λ f. rule_births c.map o c.stream_layer.notes g b)

does_if_birth : (c : Cluster) (fault : Option Refusal) (o : Outcome MapState) → (fault ≡ None → Goes c.map o) → Births c → Births (map_performs_if c fault o)
does_if_birth c (Some refusal) o g b = b
does_if_birth c None o g b = does_birth c o (g refl) b

map_takes_birth : (c : Cluster) (p : Packet) → Births c → Births (map_takes c p)
map_takes_birth c p b =
    if_elim Births c.map_cell.up _ _
    (λ up. does_birth c (map_rule c.map p p.body) (record {
      sound = map_rule_sound c.map b.sound p p.body;
      settled = λ range k. (map_settles c.map b.sound p p.body).extends.assigned range 0 k;
      bears = map_bears c.map b.sound b.above p p.body;
    }) b)
    (λ up. b)

assigns_birth : (c : Cluster) (range server until : ℕ) → Births c → Births (assigns c range server until)
assigns_birth c range server until b =
    let found = range_at c.map.ranges range in
    if_elim Births c.map_cell.up _ _
    (λ up. does_if_birth c (assign_fault server c.now found) (assign_rule c.map range server until found) (λ free. record {
      sound = assign_sound c.map b.sound range server until found refl;
      settled = λ n k. (assign_settles c.map b.sound range server until found refl).extends.assigned n 0 k;
      bears = assign_bears c.map b.sound b.above range server until found;
    }) b)
    (λ up. b)

renews_birth : (c : Cluster) (range server until : ℕ) → Births c → Births (renews c range server until)
renews_birth c range server until b =
    let found = range_at c.map.ranges range in
    if_elim Births c.map_cell.up _ _
    (λ up. does_if_birth c (renew_fault server found) (renew_rule c.map range server until found) (λ free. record {
      sound = renew_sound c.map b.sound range server until found refl free;
      settled = λ n k. (renew_settles c.map b.sound range server until found refl).extends.assigned n 0 k;
      bears = renew_bears c.map b.sound b.above range server until found;
    }) b)
    (λ up. b)

map_stops_birth : (c : Cluster) (call : ℕ) (keep : Bool) → Births c → Births (map_stops c call keep)
map_stops_birth c call keep b = if_elim Births c.map_cell.up _ _ (λ up. if_elim Births (call == 0) _ _ (λ now. b) (λ later. b)) (λ up. b)

map_starts_birth : (c : Cluster) → Births c → Births (map_starts c)
map_starts_birth c b = if_elim Births c.map_cell.up _ _ (λ up. b) (λ up. b)

-- ---- events

-- the stream layer shows nothing of tables
happens_birth : (c : Cluster) (event : Event) → Births c → Births (record c { stream_layer = happens c.stream_layer event })
happens_birth c event b = subst (HasBirths c.map) (sym (happens_tables c.stream_layer event)) b

delivers_birth : (c : Cluster) (number : ℕ) (o : Option Packet) → slice_get c.stream_layer.post number ≡ o → Births c → Births (delivers c o)
delivers_birth c number None at b = b
delivers_birth c number (Some p) at b = go p.to refl
  where
    layer_takes : (to : ActorId) → p.to ≡ to → Births (record c { stream_layer = delivered c.stream_layer p to })
    layer_takes to is =
        subst (λ z. Births (record c { stream_layer = z })) (ap (delivered_if c.stream_layer) at ∙ ap (delivered c.stream_layer p) is) (happens_birth c (Deliver number) b)

    go : (to : ActorId) → p.to ≡ to → Births (delivered_to c p to)
    go (Server s) is = servers_birth c (server_takes c.servers s p) b
    go Map is = map_takes_birth c p b
    go (Node n) is = layer_takes (Node n) is
    go Manager is = layer_takes Manager is
    go (User u) is = layer_takes (User u) is

stops_birth : (c : Cluster) (actor : ActorId) (call : ℕ) (keep : Bool) → Births c → Births (stops c actor call keep)
stops_birth c (Server s) call keep b = servers_birth c (server_stops c.servers s call) b
stops_birth c Map call keep b = map_stops_birth c call keep b
stops_birth c (Node n) call keep b = happens_birth c (Stop (Node n) call keep) b
stops_birth c Manager call keep b = happens_birth c (Stop Manager call keep) b
stops_birth c (User u) call keep b = happens_birth c (Stop (User u) call keep) b

restarts_birth : (c : Cluster) (actor : ActorId) → Births c → Births (restarts c actor)
restarts_birth c (Server s) b = servers_birth c (server_starts c.servers s c.now c.batch) b
restarts_birth c Map b = map_starts_birth c b
restarts_birth c (Node n) b = happens_birth c (Restart (Node n)) b
restarts_birth c Manager b = happens_birth c (Restart Manager) b
restarts_birth c (User u) b = happens_birth c (Restart (User u)) b

moment_birth : (c : Cluster) (now : ℕ) → Births c → Births (shows_moment c now)
moment_birth c now b = if_elim Births (nat_lt now c.now) _ _ (λ back. b) (λ on. b)

pub comes_birth : (c : Cluster) (event : Event) → Births c → Births (cluster_after c event)
comes_birth c (Submit user to body) b = happens_birth c (Submit user to body) b
comes_birth c (Deliver number) b = delivers_birth c number (slice_get c.stream_layer.post number) refl b
comes_birth c (Stop actor call keep) b = stops_birth c actor call keep b
comes_birth c (Restart actor) b = restarts_birth c actor b
comes_birth c (Decide e) b = happens_birth c (Decide e) b
comes_birth c (GiveUp server range pick) b = servers_birth c (server_gives_up c.servers server range pick) b
comes_birth c (Assign range server until) b = assigns_birth c range server until b
comes_birth c (Renew range server until) b = renews_birth c range server until b
comes_birth c (Moment now) b = moment_birth c now b
comes_birth c (Checkpoint server range combine) b = servers_birth c (server_checkpoints c.servers server range combine) b
comes_birth c (Split server range key) b = servers_birth c (server_splits c.servers server range key) b
comes_birth c (Merge server left right) b = servers_birth c (server_merges c.servers server left right) b

-- ---- runs

all_births : (events : List Event) (c : Cluster) → Births c → Births (cluster_after_all c events)
all_births [] c b = b
all_births (event ∷ events) c b = all_births events (cluster_after c event) (comes_birth c event b)

pub first_births : (nodes servers target batch : ℕ) → Births (first_cluster nodes servers target batch)
first_births nodes servers target batch = record { sound = first_sound; above = (tt, tt); born = tt; first = record { settled = record { given = omega arith; entries = (refl, tt) }; unborn = tt } }

-- In every run, also one with merges: the two numbers of a split that is shown are above that of its range, and no split or merge that is
-- shown later makes any of the three; and none ever makes the first range.
pub run_births : (nodes servers target batch : ℕ) (events : List Event) → Births (cluster_after_all (first_cluster nodes servers target batch) events)
run_births nodes servers target batch events = all_births events (first_cluster nodes servers target batch) (first_births nodes servers target batch)

-- So each split that is shown makes two children of its range,
pub run_children : (nodes servers target batch : ℕ) (events : List Event) (before later : List Note) (parent low high : ℕ) (key : List ℕ) →
    table_notes (cluster_after_all (first_cluster nodes servers target batch) events).stream_layer.notes ≡ before ++ notes.Split parent low high key ∷ later →
    IsChild (table_notes (cluster_after_all (first_cluster nodes servers target batch) events).stream_layer.notes) parent low
    × IsChild (table_notes (cluster_after_all (first_cluster nodes servers target batch) events).stream_layer.notes) parent high
run_children nodes servers target batch events before later parent low high key is =
    let c : Cluster = cluster_after_all (first_cluster nodes servers target batch) events in
    born_children c.map (table_notes c.stream_layer.notes) before later parent low high key (run_births nodes servers target batch events).born is

-- and none makes the first range.
pub run_first_unborn : (nodes servers target batch : ℕ) (events : List Event) →
    HasNoBirth first_range (table_notes (cluster_after_all (first_cluster nodes servers target batch) events).stream_layer.notes)
run_first_unborn nodes servers target batch events = (run_births nodes servers target batch events).first.unborn
