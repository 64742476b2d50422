-- Each record that fits the map is written by a rule of it.
use Rattle.std.proofs.Common.{◌≡◌, ℕ, suc, Bool, true, false, not, ◌==◌, ◌&&◌, ◌^◌, nat_lt, List, [], ◌∷◌, ◌++◌, Option, Some, None, refl, sym, ap, subst, ◌∙◌, arith}
use Rattle.std.specs.Prelude.{is_some, is_none, if◌then◌else◌}
use Rattle.std.specs.List.{All}
use Rattle.std.proofs.lemmas.Bool.{and_parts, and_from, and_right, eq-eqb, le-ltb}
use Rattle.block_types.specs.declared.record.Record.{Record}
use Rattle.block_types.specs.declared.record.Record.TheVariants.{Manage}
use Rattle.wire.specs.declared.actor.ActorId.TheVariants.{Map, Server}
use Rattle.wire.specs.declared.actor.ReqNo.TheVariants.{NoRequest}
use Rattle.wire.specs.declared.body.Body.TheVariants as bodies
use Rattle.wire.specs.declared.body.MapBody.TheVariants as calls
use Rattle.wire.specs.declared.packet.Packet.{Packet}
use Rattle.wire.specs.declared.refusal.Refusal.TheVariants.{NotOwner, LeaseHeld, BadSplitKey, NotAdjacent, GenerationChanged}
use Rattle.model_streams.specs.Outcome.{packet, silent}
use Rattle.model_partition.specs.declared.map_record.MapRecord.{MapRecord}
use Rattle.model_partition.specs.declared.map_record.MapRecord.TheVariants as records
use Rattle.model_partition.specs.declared.pending.Pending.{Pending}
use Rattle.model_partition.specs.declared.pending.Pending.TheVariants as pendings
use Rattle.model_partition.specs.declared.range_entry.RangeEntry.{RangeEntry}
use Rattle.model_partition.specs.RecordBytes.{spelled, record_of}
use Rattle.model_partition.specs.Map.{MapState, first_map, range_at, is_split_key, halves_at, union_with, union_beside, union_at}
use Rattle.model_partition.specs.MapRules.{is_other, is_holder, assign_fault, assign_rule, renew_fault, renew_rule, has_numbers, begin_split_fault, begin_split_taken, begin_split_rule, is_split, complete_split_fault, complete_split_taken, complete_split_rule, is_beside, is_same_holder, begin_merge_fault, begin_merge_taken, begin_merge_rule, complete_merge_fault, complete_merge_rule, called}
use Rattle.model_partition.specs.Replay.{map_after, map_record_of, replay_from, map_replay, may_assign, may_renew, may_begin_split, may_complete_split, may_begin_merge, fits_map, map_record_fits, fit_from, map_fits}
use Rattle.laws_records.specs.Texts.{IsByte, HasBytes}
use Rattle.laws_records.specs.MapRecords.{MapWrites, AtPacket, AtAssignment, AtRenewal}
use Rattle.laws_records.proofs.Choosing.{Writes, if_so, unmet, unrefused}
use Rattle.laws_records.proofs.Readers.{bytes_of_text}
use Rattle.laws_records.proofs.MapTexts.{text_spelled}

-- the record as it stands in the file
abbrev filed : MapRecord → Record
filed r = Manage (spelled r)

none_is : {A : Type 0} (o : Option A) → is_none o ≡ true → o ≡ None
none_is None none = refl
none_is (Some x) none = absurd cc

itself : (n : ℕ) → (n == n) ≡ true
itself n = eq-eqb n n refl

-- ---- assignments and renewals

-- at the moment at which the lease that is there ends
assign_written : (m : MapState) (range server until : ℕ) (x : Option RangeEntry) → range_at m.ranges range ≡ x → may_assign x ≡ true → MapWrites m (filed (records.Assign range server until))
assign_written m range server until None is fits = absurd cc
assign_written m range server until (Some r) is fits =
    let ended : (is_other r.holder server && nat_lt r.until r.until) ≡ false = and_right (is_other r.holder server) (nat_lt r.until r.until) (le-ltb r.until r.until (omega arith)) in
    AtAssignment range server r.until until
    (ap (assign_fault server r.until) is ∙ unmet ((LeaseHeld, is_other r.holder server && nat_lt r.until r.until) ∷ []) (ended, tt))
    (ap (λ (o : Option RangeEntry). (assign_rule m range server until o).written) is
    ∙ if_so (Writes (filed (records.Assign range server until))) (nat_lt (suc r.generation) (2 ^ 64)) _ (silent m) fits refl)

renew_held : (m : MapState) (range until : ℕ) (r : RangeEntry) (holder : Option ℕ) → range_at m.ranges range ≡ Some r → r.holder ≡ holder → is_some holder ≡ true → MapWrites m (filed (records.Renew range until))
renew_held m range until r None is held fits = absurd cc
renew_held m range until r (Some server) is held fits =
    let holds : is_holder r.holder server ≡ true = ap (λ (o : Option ℕ). is_holder o server) held ∙ itself server in
    AtRenewal range server until
    (ap (renew_fault server) is ∙ unmet ((NotOwner, not (is_holder r.holder server)) ∷ []) (ap not holds, tt))
    (ap (λ (o : Option RangeEntry). (renew_rule m range server until o).written) is)

renew_written : (m : MapState) (range until : ℕ) (x : Option RangeEntry) → range_at m.ranges range ≡ x → may_renew x ≡ true → MapWrites m (filed (records.Renew range until))
renew_written m range until None is fits = absurd cc
renew_written m range until (Some r) is fits = renew_held m range until r r.holder is refl fits

-- ---- splits

begin_split_written : (m : MapState) (range : ℕ) (key : List ℕ) (x : Option RangeEntry) → range_at m.ranges range ≡ x → may_begin_split key x ≡ true → has_numbers m 2 ≡ true →
    MapWrites m (filed (records.BeginSplit range key))
begin_split_written m range key None is fits numbers = absurd cc
begin_split_written m range key (Some r) is fits numbers =
    let parts = and_parts (is_split_key r.keys key) (is_none (halves_at key r.pending)) fits in
    let sent : Packet = packet (Server 1) Map (bodies.Map (calls.BeginSplit range r.generation key NoRequest)) in
    let none : begin_split_fault r.generation key (Some r) ≡ None =
    unmet ((GenerationChanged, not (r.generation == r.generation)) ∷ (BadSplitKey, not (is_split_key r.keys key)) ∷ []) (ap not (itself r.generation), (ap not parts.0, tt)) in
    AtPacket sent (λ same. absurd cc)
    (ap (λ (o : Option RangeEntry). (called m sent NoRequest (begin_split_fault r.generation key o) (begin_split_rule m sent.from NoRequest range key o)).written) is
    ∙ unrefused (filed (records.BeginSplit range key)) m Map sent NoRequest (begin_split_fault r.generation key (Some r)) (begin_split_rule m sent.from NoRequest range key (Some r)) none
    (ap (λ (o : Option (ℕ × ℕ)). (begin_split_taken m sent.from NoRequest range key o).written) (none_is (halves_at key r.pending) parts.1)
    ∙ if_so (Writes (filed (records.BeginSplit range key))) (has_numbers m 2) _ (silent m) numbers refl))

split_taken : (m : MapState) (range : ℕ) (pending : Option Pending) → is_split pending ≡ true → Writes (filed (records.CompleteSplit range)) (complete_split_taken m (Server 1) NoRequest range pending)
split_taken m range (Some (pendings.Split key low high)) fits = refl
split_taken m range (Some (pendings.Merge right into)) fits = absurd cc
split_taken m range None fits = absurd cc

complete_split_written : (m : MapState) (range : ℕ) (x : Option RangeEntry) → range_at m.ranges range ≡ x → may_complete_split x ≡ true → MapWrites m (filed (records.CompleteSplit range))
complete_split_written m range None is fits = absurd cc
complete_split_written m range (Some r) is fits =
    let sent : Packet = packet (Server 1) Map (bodies.Map (calls.CompleteSplit range r.generation NoRequest)) in
    let none : complete_split_fault r.generation (Some r) ≡ None =
    unmet ((GenerationChanged, not ((r.generation == r.generation) && is_split r.pending)) ∷ []) (ap not (and_from _ _ (itself r.generation) fits), tt) in
    AtPacket sent (λ same. absurd cc)
    (ap (λ (o : Option RangeEntry). (called m sent NoRequest (complete_split_fault r.generation o) (complete_split_rule m sent.from NoRequest range o)).written) is
    ∙ unrefused (filed (records.CompleteSplit range)) m Map sent NoRequest (complete_split_fault r.generation (Some r)) (complete_split_rule m sent.from NoRequest range (Some r)) none
    (split_taken m range r.pending fits))

-- ---- merges

begin_merge_written : (m : MapState) (left right : ℕ) (x y : Option RangeEntry) → range_at m.ranges left ≡ x → range_at m.ranges right ≡ y → may_begin_merge right x y ≡ true → has_numbers m 1 ≡ true →
    MapWrites m (filed (records.BeginMerge left right))
begin_merge_written m left right (Some l) (Some r) left_is right_is fits numbers =
    let outer = and_parts (is_beside l.keys r.keys && is_same_holder l.holder r.holder) (is_none (union_with right l.pending)) fits in
    let inner = and_parts (is_beside l.keys r.keys) (is_same_holder l.holder r.holder) outer.0 in
    let sent : Packet = packet (Server 1) Map (bodies.Map (calls.BeginMerge left l.generation right r.generation NoRequest)) in
    let none : begin_merge_fault l.generation r.generation (Some l) (Some r) ≡ None =
    unmet (
    (GenerationChanged, not ((l.generation == l.generation) && (r.generation == r.generation)))
    ∷ (NotAdjacent, not (is_beside l.keys r.keys))
    ∷ (NotOwner, not (is_same_holder l.holder r.holder))
    ∷ []
    ) (ap not (and_from _ _ (itself l.generation) (itself r.generation)), (ap not inner.0, (ap not inner.1, tt))) in
    AtPacket sent (λ same. absurd cc)
    (ap (λ (o : Option RangeEntry). (called m sent NoRequest (begin_merge_fault l.generation r.generation o (range_at m.ranges right)) (begin_merge_rule m sent.from NoRequest left right o)).written) left_is
    ∙ ap (λ (o : Option RangeEntry). (called m sent NoRequest (begin_merge_fault l.generation r.generation (Some l) o) (begin_merge_rule m sent.from NoRequest left right (Some l))).written) right_is
    ∙ unrefused (filed (records.BeginMerge left right)) m Map sent NoRequest (begin_merge_fault l.generation r.generation (Some l) (Some r)) (begin_merge_rule m sent.from NoRequest left right (Some l)) none
    (ap (λ (o : Option ℕ). (begin_merge_taken m sent.from NoRequest left right o).written) (none_is (union_with right l.pending) outer.1)
    ∙ if_so (Writes (filed (records.BeginMerge left right))) (has_numbers m 1) _ (silent m) numbers refl))
begin_merge_written m left right x y left_is right_is fits numbers = absurd cc

-- both of two ranges that are to become one are there
pub record AreThere (rs : List RangeEntry) (left right : ℕ) : Type 0 where
  pub l : RangeEntry
  pub r : RangeEntry
  pub left_is : range_at rs left ≡ Some l
  pub right_is : range_at rs right ≡ Some r

complete_merge_written : (m : MapState) (left right into : ℕ) → union_at m.ranges left right ≡ Some into → AreThere m.ranges left right → MapWrites m (filed (records.CompleteMerge left right))
complete_merge_written m left right into is there =
    let l = there.l in
    let r = there.r in
    let sent : Packet = packet (Server 1) Map (bodies.Map (calls.CompleteMerge left l.generation right r.generation NoRequest)) in
    let none : complete_merge_fault l.generation r.generation (Some l) (Some r) (Some into) ≡ None =
    unmet ((GenerationChanged, not ((l.generation == l.generation) && (r.generation == r.generation))) ∷ (GenerationChanged, false) ∷ [])
    (ap not (and_from _ _ (itself l.generation) (itself r.generation)), (refl, tt)) in
    AtPacket sent (λ same. absurd cc)
    (rw (is, there.left_is, there.right_is)
    (unrefused (filed (records.CompleteMerge left right)) m Map sent NoRequest (complete_merge_fault l.generation r.generation (Some l) (Some r) (Some into)) (complete_merge_rule m sent.from NoRequest left right (Some into)) none refl))

more_there : (l : RangeEntry) (rs : List RangeEntry) (range : ℕ) (r : RangeEntry) → range_at rs range ≡ Some r → (x : RangeEntry) × (range_at (l ∷ rs) range ≡ Some x)
more_there l rs range r is = by (l.range == range)
  where
    by : (b : Bool) → (x : RangeEntry) × ((if b then Some l else range_at rs range) ≡ Some x)
    by true = (l, refl)
    by false = (r, is)

right_there : (l : RangeEntry) (rs : List RangeEntry) (right : ℕ) → is_some (union_beside right l rs) ≡ true → (x : RangeEntry) × (range_at rs right ≡ Some x)
right_there l [] right fits = absurd cc
right_there l (r ∷ rs) right fits = by (r.range == right) refl fits
  where
    by : (b : Bool) → (r.range == right) ≡ b → is_some (if b then union_with right l.pending else None) ≡ true → (x : RangeEntry) × (range_at (r ∷ rs) right ≡ Some x)
    by true same fits = (r, if_so (λ (o : Option RangeEntry). o ≡ Some r) (r.range == right) (Some r) (range_at rs right) same refl)
    by false same fits = absurd cc

both_there : (l : RangeEntry) (rs : List RangeEntry) (left right : ℕ) (b : Bool) → (l.range == left) ≡ b → (is_some (union_at rs left right) ≡ true → AreThere rs left right) →
    is_some (if b then union_beside right l rs else union_at rs left right) ≡ true → AreThere (l ∷ rs) left right
both_there l rs left right true same others fits =
    let r = right_there l rs right fits in
    let s = more_there l rs right r.0 r.1 in
    record {
      l = l;
      r = s.0;
      left_is = if_so (λ (o : Option RangeEntry). o ≡ Some l) (l.range == left) (Some l) (range_at rs left) same refl;
      right_is = s.1;
    }
both_there l rs left right false same others fits =
    let there = others fits in
    let x = more_there l rs left there.l there.left_is in
    let y = more_there l rs right there.r there.right_is in
    record { l = x.0; r = y.0; left_is = x.1; right_is = y.1 }

are_there : (rs : List RangeEntry) (left right : ℕ) → is_some (union_at rs left right) ≡ true → AreThere rs left right
are_there [] left right fits = absurd cc
are_there (l ∷ rs) left right fits = both_there l rs left right (l.range == left) refl (are_there rs left right) fits

complete_merge_fitting : (m : MapState) (left right : ℕ) (into : Option ℕ) → union_at m.ranges left right ≡ into → is_some into ≡ true → MapWrites m (filed (records.CompleteMerge left right))
complete_merge_fitting m left right None is fits = absurd cc
complete_merge_fitting m left right (Some into) is fits = complete_merge_written m left right into is (are_there m.ranges left right (ap is_some is))

-- ---- all records

record_written : (m : MapState) (r : MapRecord) → fits_map m r ≡ true → MapWrites m (filed r)
record_written m (records.Assign range server until) fits = assign_written m range server until (range_at m.ranges range) refl fits
record_written m (records.Renew range until) fits = renew_written m range until (range_at m.ranges range) refl fits
record_written m (records.BeginSplit range key) fits =
    let parts = and_parts (may_begin_split key (range_at m.ranges range)) (has_numbers m 2) fits in
    begin_split_written m range key (range_at m.ranges range) refl parts.0 parts.1
record_written m (records.CompleteSplit range) fits = complete_split_written m range (range_at m.ranges range) refl fits
record_written m (records.BeginMerge left right) fits =
    let parts = and_parts (may_begin_merge right (range_at m.ranges left) (range_at m.ranges right)) (has_numbers m 1) fits in
    begin_merge_written m left right (range_at m.ranges left) (range_at m.ranges right) refl refl parts.0 parts.1
record_written m (records.CompleteMerge left right) fits = complete_merge_fitting m left right (union_at m.ranges left right) refl fits

-- ---- lists of records

fits_there : (m : MapState) (before after : List Record) (r : Record) → fit_from m (before ++ r ∷ after) ≡ true → map_record_fits (replay_from m before) (map_record_of r) ≡ true
fits_there m [] after r fits = (and_parts (map_record_fits m (map_record_of r)) _ fits).0
fits_there m (x ∷ before) after r fits = fits_there (map_after m (map_record_of x)) before after r (and_parts (map_record_fits m (map_record_of x)) _ fits).1

text_written : (m : MapState) (text : List ℕ) (x : Option MapRecord) → All IsByte text → record_of text ≡ x → map_record_fits m x ≡ true → MapWrites m (Manage text)
text_written m text None bytes is fits = absurd cc
text_written m text (Some r) bytes is fits = subst (λ (l : List ℕ). MapWrites m (Manage l)) (sym (text_spelled text r (bytes_of_text text bytes) is)) (record_written m r fits)

pub map_writes : (before after : List Record) (r : Record) → map_fits (before ++ r ∷ after) ≡ true → HasBytes r → MapWrites (map_replay before) r
map_writes before after (Manage text) fits bytes = text_written (map_replay before) text (record_of text) bytes refl (fits_there first_map before after (Manage text) fits)
map_writes before after r fits bytes = let wrong : false ≡ true = fits_there first_map before after r fits in absurd cc
