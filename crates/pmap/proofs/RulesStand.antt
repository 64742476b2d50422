-- What the records make once a rule has been performed.
use Rattle.std.proofs.Common.{◌≡◌, ℕ, suc, ◌^◌, ◌≤◌, Bool, true, false, not, ◌&&◌, List, [], ◌∷◌, ◌++◌, length, Option, Some, None, refl, ap, sym, ◌∙◌, subst, append-nil, leb-true}
use Rattle.std.specs.Prelude.{nat_lt, nat_le, is_some, is_none, option_map, ◌==◌}
use Rattle.std.specs.Cmp.Lexicographic.{slice_cmp}
use Rattle.std.specs.Ordering.{nat_cmp, is_lt}
use Rattle.std.proofs.lemmas.Bool.{and_from, and_parts}
use Rattle.block_types.specs.Limits.{is_within}
use Rattle.block_types.specs.declared.record.Record.{Record}
use Rattle.block_types.specs.declared.record.Record.TheVariants.{Manage}
use Rattle.disk.specs.Appends.{listed}
use Rattle.wire.specs.declared.actor.ActorId.{ActorId}
use Rattle.wire.specs.declared.actor.ReqNo.{ReqNo}
use Rattle.wire.specs.declared.refusal.Refusal.TheVariants.{NotOwner, BadSplitKey, NotAdjacent, GenerationChanged}
use Rattle.memtable.specs.Limits.{IsKey}
use Rattle.metadata.specs.Keys.{below_high}
use Rattle.metadata.specs.declared.record.KeyRange.{KeyRange}
use Rattle.model_streams.proofs.Tests.{none_met}
use Rattle.model_streams.specs.Outcome.{Outcome, first_met}
use Rattle.model_partition.specs.declared.map_record.MapRecord.{MapRecord}
use Rattle.model_partition.specs.declared.map_record.MapRecord.TheVariants.{Assign, Renew, BeginSplit, CompleteSplit, BeginMerge, CompleteMerge}
use Rattle.model_partition.specs.declared.pending.Pending.{Pending}
use Rattle.model_partition.specs.declared.pending.Pending.TheVariants as pendings
use Rattle.model_partition.specs.declared.range_entry.RangeEntry.{RangeEntry}
use Rattle.model_partition.specs.RecordBytes.{spelled, record_of, HasShortKey}
use Rattle.model_partition.specs.Map.{MapState, range_at, is_split_key, halves_at, union_with, union_at}
use Rattle.model_partition.specs.MapRules.{has_numbers, is_split, is_beside, is_same_holder, is_holder, assign_rule, renew_fault, renew_rule, begin_split_fault, begin_split_taken, begin_split_rule, complete_split_taken, complete_split_rule, begin_merge_fault, begin_merge_taken, begin_merge_rule, complete_merge_rule}
use Rattle.model_partition.specs.Replay.{after_record, map_after, may_assign, may_renew, may_begin_split, may_complete_split, may_begin_merge, fits_map, map_record_fits}
use Rattle.pmap_table.specs.MakesMap.{MakesMap}
use Rattle.pmap_table.proofs.OneMoreRecord.{makes_push}

-- ---- what a rule leaves on the disk

none_stands : (rs : List Record) (m : MapState) → MakesMap rs m → MakesMap (rs ++ []) m
none_stands rs m made = subst (λ (l : List Record). MakesMap l m) (sym (append-nil rs)) made

record_stands : (rs : List Record) (m : MapState) (r : MapRecord) → MakesMap rs m → record_of (spelled r) ≡ Some r → map_record_fits m (Some r) ≡ true → MakesMap (rs ++ Manage (spelled r) ∷ []) (after_record m r)
record_stands rs m r made again fits =
    subst (λ (o : Option MapRecord). MakesMap (rs ++ Manage (spelled r) ∷ []) (map_after m o)) again
    (makes_push rs m (Manage (spelled r)) made (ap (map_record_fits m) again ∙ fits))

abbrev Stands : List Record → Outcome MapState → Type 0
Stands rs o = MakesMap (rs ++ listed o.written) o.after

pub assign_stands : (rs : List Record) (m : MapState) (range server until : ℕ) → MakesMap rs m → record_of (spelled (Assign range server until)) ≡ Some (Assign range server until) →
    MakesMap (rs ++ listed (assign_rule m range server until (range_at m.ranges range)).written) (assign_rule m range server until (range_at m.ranges range)).after
assign_stands rs m range server until made again = go (range_at m.ranges range) refl
  where
    taken : (r : RangeEntry) (b : Bool) → range_at m.ranges range ≡ Some r → nat_lt (suc r.generation) (2 ^ 64) ≡ b → Stands rs (assign_rule m range server until (Some r))
    taken r true is left = rw left (record_stands rs m (Assign range server until) made again (ap may_assign is ∙ left))
    taken r false is left = rw left (none_stands rs m made)

    go : (x : Option RangeEntry) → range_at m.ranges range ≡ x → Stands rs (assign_rule m range server until x)
    go None is = none_stands rs m made
    go (Some r) is = taken r _ is refl

pub renew_stands : (rs : List Record) (m : MapState) (range server until : ℕ) → MakesMap rs m → record_of (spelled (Renew range until)) ≡ Some (Renew range until) → renew_fault server (range_at m.ranges range) ≡ None →
    MakesMap (rs ++ listed (renew_rule m range server until (range_at m.ranges range)).written) (renew_rule m range server until (range_at m.ranges range)).after
renew_stands rs m range server until made again holds = go (range_at m.ranges range) refl holds
  where
    held : (h : Option ℕ) → first_met ((NotOwner, not (is_holder h server)) ∷ []) ≡ None → is_some h ≡ true
    held None none = absurd cc
    held (Some h) none = refl

    go : (x : Option RangeEntry) → range_at m.ranges range ≡ x → renew_fault server x ≡ None → Stands rs (renew_rule m range server until x)
    go None is none = none_stands rs m made
    go (Some r) is none = record_stands rs m (Renew range until) made again (ap may_renew is ∙ held r.holder none)

-- no fault comes of no refusal alone
pub none_there : {A B : Type 0} (f : A → B) (o : Option A) → option_map f o ≡ None → o ≡ None
none_there f None is = refl
none_there f (Some x) is = absurd cc

-- ---- splits and merges

-- what a call that no test refuses has passed
splits_it : (generation : ℕ) (key : List ℕ) (r : RangeEntry) → begin_split_fault generation key (Some r) ≡ None → is_split_key r.keys key ≡ true
splits_it generation key r none =
    not_not (is_split_key r.keys key) (none_met ((GenerationChanged, not (r.generation == generation)) ∷ (BadSplitKey, not (is_split_key r.keys key)) ∷ []) none).1.0
  where
    not_not : (b : Bool) → not b ≡ false → b ≡ true
    not_not true is = refl
    not_not false is = absurd cc

pub split_key_is : (keys : KeyRange) (key : List ℕ) → is_split_key keys key ≡ true → IsKey key
split_key_is keys key is =
    let ends = and_parts (is_within 1 256 (length key) && is_lt (slice_cmp nat_cmp keys.low key)) (below_high keys.high key) is in
    let above = and_parts (is_within 1 256 (length key)) (is_lt (slice_cmp nat_cmp keys.low key)) ends.0 in
    let both = and_parts (nat_le 1 (length key)) (nat_le (length key) 256) above.0 in
    (leb-true _ _ both.0, leb-true _ _ both.1)

pub short_key : (m : MapState) (r : MapRecord) → fits_map m r ≡ true → HasShortKey r
short_key m (Assign range server until) fits = tt
short_key m (Renew range until) fits = tt
short_key m (BeginSplit range key) fits = go (range_at m.ranges range) (and_parts (may_begin_split key (range_at m.ranges range)) (has_numbers m 2) fits).0
  where
    go : (o : Option RangeEntry) → may_begin_split key o ≡ true → length key ≤ 256
    go None may = absurd cc
    go (Some r) may = (split_key_is r.keys key (and_parts (is_split_key r.keys key) (is_none (halves_at key r.pending)) may).0).1
short_key m (CompleteSplit range) fits = tt
short_key m (BeginMerge left right) fits = tt
short_key m (CompleteMerge left right) fits = tt

-- the key is one, where the call is not refused
key_of_call : (generation : ℕ) (key : List ℕ) (o : Option RangeEntry) → begin_split_fault generation key o ≡ None → IsKey key
key_of_call generation key None none = absurd cc
key_of_call generation key (Some r) none = split_key_is r.keys key (splits_it generation key r none)

pub begin_split_stands : (rs : List Record) (m : MapState) (to : ActorId) (q : ReqNo) (range generation : ℕ) (key : List ℕ) → MakesMap rs m → (IsKey key → record_of (spelled (BeginSplit range key)) ≡ Some (BeginSplit range key)) →
    begin_split_fault generation key (range_at m.ranges range) ≡ None → Stands rs (begin_split_rule m to q range key (range_at m.ranges range))
begin_split_stands rs m to q range generation key made again none = go (range_at m.ranges range) refl none
  where
    left : (r : RangeEntry) (b : Bool) → range_at m.ranges range ≡ Some r → is_split_key r.keys key ≡ true → halves_at key r.pending ≡ None → has_numbers m 2 ≡ b → Stands rs (begin_split_taken m to q range key None)
    left r true is splits new has =
        rw has (record_stands rs m (BeginSplit range key) made (again (split_key_is r.keys key splits)) (and_from _ _ (ap (may_begin_split key) is ∙ and_from _ _ splits (ap is_none new)) has))
    left r false is splits new has = rw has (none_stands rs m made)

    taken : (r : RangeEntry) (o : Option (ℕ × ℕ)) → range_at m.ranges range ≡ Some r → is_split_key r.keys key ≡ true → halves_at key r.pending ≡ o → Stands rs (begin_split_taken m to q range key o)
    taken r (Some pair) is splits there = none_stands rs m made
    taken r None is splits new = left r (has_numbers m 2) is splits new refl

    go : (o : Option RangeEntry) → range_at m.ranges range ≡ o → begin_split_fault generation key o ≡ None → Stands rs (begin_split_rule m to q range key o)
    go None is not_refused = none_stands rs m made
    go (Some r) is not_refused = taken r (halves_at key r.pending) is (splits_it generation key r not_refused) refl

pub complete_split_stands : (rs : List Record) (m : MapState) (to : ActorId) (q : ReqNo) (range : ℕ) → MakesMap rs m → record_of (spelled (CompleteSplit range)) ≡ Some (CompleteSplit range) →
    Stands rs (complete_split_rule m to q range (range_at m.ranges range))
complete_split_stands rs m to q range made again = go (range_at m.ranges range) refl
  where
    taken : (r : RangeEntry) (p : Option Pending) → range_at m.ranges range ≡ Some r → r.pending ≡ p → Stands rs (complete_split_taken m to q range p)
    taken r None is pending = none_stands rs m made
    taken r (Some (pendings.Split key low high)) is pending = record_stands rs m (CompleteSplit range) made again (ap may_complete_split is ∙ ap is_split pending)
    taken r (Some (pendings.Merge right into)) is pending = none_stands rs m made

    go : (o : Option RangeEntry) → range_at m.ranges range ≡ o → Stands rs (complete_split_rule m to q range o)
    go None is = none_stands rs m made
    go (Some r) is = taken r r.pending is refl

-- both are there, side by side, with one holder
beside_it : (g h right : ℕ) (a b : RangeEntry) → begin_merge_fault g h (Some a) (Some b) ≡ None → union_with right a.pending ≡ None → may_begin_merge right (Some a) (Some b) ≡ true
beside_it g h right a b none new =
    let m = none_met ((GenerationChanged, not (a.generation == g && b.generation == h)) ∷ (NotAdjacent, not (is_beside a.keys b.keys)) ∷ (NotOwner, not (is_same_holder a.holder b.holder)) ∷ []) none in
    and_from _ _ (and_from _ _ (not_not (is_beside a.keys b.keys) m.1.0) (not_not (is_same_holder a.holder b.holder) m.1.1.0)) (ap is_none new)
  where
    not_not : (b : Bool) → not b ≡ false → b ≡ true
    not_not true is = refl
    not_not false is = absurd cc

pub begin_merge_stands : (rs : List Record) (m : MapState) (to : ActorId) (q : ReqNo) (left right g h : ℕ) → MakesMap rs m → record_of (spelled (BeginMerge left right)) ≡ Some (BeginMerge left right) →
    begin_merge_fault g h (range_at m.ranges left) (range_at m.ranges right) ≡ None → Stands rs (begin_merge_rule m to q left right (range_at m.ranges left))
begin_merge_stands rs m to q left right g h made again none = go (range_at m.ranges left) (range_at m.ranges right) refl refl none
  where
    written : (a b : RangeEntry) (t : Bool) → range_at m.ranges left ≡ Some a → range_at m.ranges right ≡ Some b → may_begin_merge right (Some a) (Some b) ≡ true → has_numbers m 1 ≡ t → Stands rs (begin_merge_taken m to q left right None)
    written a b true is are may has =
        rw has (record_stands rs m (BeginMerge left right) made again
        (and_from _ _ (ap (λ (x : Option RangeEntry). may_begin_merge right x (range_at m.ranges right)) is ∙ ap (may_begin_merge right (Some a)) are ∙ may) has))
    written a b false is are may has = rw has (none_stands rs m made)

    taken : (a b : RangeEntry) (o : Option ℕ) → range_at m.ranges left ≡ Some a → range_at m.ranges right ≡ Some b → begin_merge_fault g h (Some a) (Some b) ≡ None → union_with right a.pending ≡ o → Stands rs (begin_merge_taken m to q left right o)
    taken a b (Some into) is are not_refused there = none_stands rs m made
    taken a b None is are not_refused new = written a b (has_numbers m 1) is are (beside_it g h right a b not_refused new) refl

    go : (x y : Option RangeEntry) → range_at m.ranges left ≡ x → range_at m.ranges right ≡ y → begin_merge_fault g h x y ≡ None → Stands rs (begin_merge_rule m to q left right x)
    go None y is are not_refused = none_stands rs m made
    go (Some a) None is are not_refused = absurd cc
    go (Some a) (Some b) is are not_refused = taken a b (union_with right a.pending) is are not_refused refl

pub complete_merge_stands : (rs : List Record) (m : MapState) (to : ActorId) (q : ReqNo) (left right : ℕ) → MakesMap rs m → record_of (spelled (CompleteMerge left right)) ≡ Some (CompleteMerge left right) →
    Stands rs (complete_merge_rule m to q left right (union_at m.ranges left right))
complete_merge_stands rs m to q left right made again = go (union_at m.ranges left right) refl
  where
    go : (o : Option ℕ) → union_at m.ranges left right ≡ o → Stands rs (complete_merge_rule m to q left right o)
    go None is = none_stands rs m made
    go (Some into) is = record_stands rs m (CompleteMerge left right) made again (ap is_some is)
