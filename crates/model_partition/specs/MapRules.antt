-- What the partition map does with its calls and packets.
use Rattle.std.specs.Prelude.{ℕ, suc, ◌+◌, ◌^◌, max, Bool, true, false, not, ◌&&◌, ◌==◌, nat_lt, is_none, List, [], ◌∷◌, Option, Some, None, bytes_eq, if◌then◌else◌}
use Rattle.block_types.specs.declared.record.Record.{Record}
use Rattle.block_types.specs.declared.record.Record.TheVariants.{Manage}
use Rattle.wire.specs.declared.actor.ActorId.{ActorId}
use Rattle.wire.specs.declared.actor.ActorId.TheVariants.{Map, Server}
use Rattle.wire.specs.declared.actor.ReqNo.{ReqNo}
use Rattle.wire.specs.declared.body.Body.{Body}
use Rattle.wire.specs.declared.body.Body.TheVariants as bodies
use Rattle.wire.specs.declared.body.MapBody.{MapBody}
use Rattle.wire.specs.declared.body.MapBody.TheVariants as maps
use Rattle.wire.specs.declared.note.Note.TheVariants as notes
use Rattle.wire.specs.declared.packet.Packet.{Packet}
use Rattle.wire.specs.declared.refusal.Refusal.{Refusal}
use Rattle.wire.specs.declared.refusal.Refusal.TheVariants.{NotOwner, LeaseHeld, BadSplitKey, NotAdjacent, GenerationChanged}
use Rattle.model_streams.specs.Outcome.{Outcome, packet, first_met, or_refused, silent, sends}
use Rattle.metadata.specs.declared.record.KeyRange.{KeyRange}
use Rattle.model_partition.specs.declared.map_record.MapRecord.{MapRecord}
use Rattle.model_partition.specs.declared.map_record.MapRecord.TheVariants as records
use Rattle.model_partition.specs.declared.pending.Pending.{Pending}
use Rattle.model_partition.specs.declared.pending.Pending.TheVariants as pendings
use Rattle.model_partition.specs.declared.range_entry.RangeEntry.{RangeEntry}
use Rattle.model_partition.specs.RecordBytes.{spelled}
use Rattle.model_partition.specs.Map.{MapState, range_at, range_of_key, with_range, renewed, assign, is_split_key, halves_at, begin_split, complete_split, union_with, union_at, begin_merge, complete_merge}

-- what the map writes
abbrev pub writes : MapRecord → Option Record
writes r = Some (Manage (spelled r))

-- to an actor
abbrev pub answers : ActorId → MapBody → List Packet
answers to body = packet Map to (bodies.Map body) ∷ []

-- to a server
abbrev pub tells : ℕ → MapBody → List Packet
tells server body = answers (Server server) body

-- ---- assignments and renewals

abbrev pub is_holder : Option ℕ → ℕ → Bool
is_holder None server = false
is_holder (Some holder) server = holder == server

abbrev pub is_other : Option ℕ → ℕ → Bool
is_other None server = false
is_other (Some holder) server = not (holder == server)

-- why a range is not assigned: there is none of this number, or another server holds it and its lease has not ended
abbrev pub assign_fault : ℕ → ℕ → Option RangeEntry → Option Refusal
assign_fault server now None = Some NotOwner
assign_fault server now (Some r) = first_met ((LeaseHeld, is_other r.holder server && nat_lt now r.until) ∷ [])

-- the server is told of the lease; nothing happens where no generation of 64 bits is left
abbrev pub assign_taken : MapState → ℕ → ℕ → ℕ → RangeEntry → Outcome MapState
assign_taken m range server until r =
    if nat_lt (suc r.generation) (2 ^ 64)
    then record {
      after = assign m range server until;
      written = writes (records.Assign range server until);
      packets = tells server (maps.Assign range (suc r.generation) (max r.until until));
      notes = [];
    }
    else silent m

abbrev pub assign_rule : MapState → ℕ → ℕ → ℕ → Option RangeEntry → Outcome MapState
assign_rule m range server until None = silent m
assign_rule m range server until (Some r) = assign_taken m range server until r

-- why a lease is not renewed: there is no range of this number, or the server does not hold it
abbrev pub renew_fault : ℕ → Option RangeEntry → Option Refusal
renew_fault server None = Some NotOwner
renew_fault server (Some r) = first_met ((NotOwner, not (is_holder r.holder server)) ∷ [])

abbrev pub renew_rule : MapState → ℕ → ℕ → ℕ → Option RangeEntry → Outcome MapState
renew_rule m range server until None = silent m
renew_rule m range server until (Some r) =
    record {
      after = with_range m range (renewed until);
      written = writes (records.Renew range until);
      packets = tells server (maps.Renew range r.generation (max r.until until));
      notes = [];
    }

-- ---- numbers

-- So many numbers are left: the one after them, too, has 64 bits.
abbrev pub has_numbers : MapState → ℕ → Bool
has_numbers m count = nat_lt (m.next + count) (2 ^ 64)

-- ---- splits

-- why a split is not begun: there is no such range, or it has another generation, or the key does not split it
abbrev pub begin_split_fault : ℕ → List ℕ → Option RangeEntry → Option Refusal
begin_split_fault generation key None = Some GenerationChanged
begin_split_fault generation key (Some r) =
    first_met ((GenerationChanged, not (r.generation == generation)) ∷ (BadSplitKey, not (is_split_key r.keys key)) ∷ [])

-- the same answer where a split at this key is pending; nothing happens where no two numbers are left
abbrev pub begin_split_taken : MapState → ActorId → ReqNo → ℕ → List ℕ → Option (ℕ × ℕ) → Outcome MapState
begin_split_taken m to q range key (Some pair) = sends m (answers to (maps.SplitBegun q pair.0 pair.1))
begin_split_taken m to q range key None =
    if has_numbers m 2
    then record {
      after = begin_split m range key;
      written = writes (records.BeginSplit range key);
      packets = answers to (maps.SplitBegun q m.next (m.next + 1));
      notes = [];
    }
    else silent m

-- who asked is told the numbers of the halves
abbrev pub begin_split_rule : MapState → ActorId → ReqNo → ℕ → List ℕ → Option RangeEntry → Outcome MapState
begin_split_rule m to q range key None = silent m
begin_split_rule m to q range key (Some r) = begin_split_taken m to q range key (halves_at key r.pending)

abbrev pub is_split : Option Pending → Bool
is_split (Some (pendings.Split key low high)) = true
is_split pending = false

-- why a split is not done: there is no such range, or it has another generation, or no split of it is pending
abbrev pub complete_split_fault : ℕ → Option RangeEntry → Option Refusal
complete_split_fault generation None = Some GenerationChanged
complete_split_fault generation (Some r) = first_met ((GenerationChanged, not (r.generation == generation && is_split r.pending)) ∷ [])

abbrev pub complete_split_taken : MapState → ActorId → ReqNo → ℕ → Option Pending → Outcome MapState
complete_split_taken m to q range (Some (pendings.Split key low high)) =
    record {
      after = complete_split m range;
      written = writes (records.CompleteSplit range);
      packets = answers to (maps.SplitDone q);
      notes = notes.Split range low high key ∷ [];
    }
complete_split_taken m to q range pending = silent m

abbrev pub complete_split_rule : MapState → ActorId → ReqNo → ℕ → Option RangeEntry → Outcome MapState
complete_split_rule m to q range None = silent m
complete_split_rule m to q range (Some r) = complete_split_taken m to q range r.pending

-- ---- merges

abbrev pub ends_at : Option (List ℕ) → List ℕ → Bool
ends_at None low = false
ends_at (Some high) low = bytes_eq high low

-- the one ends where the other begins
abbrev pub is_beside : KeyRange → KeyRange → Bool
is_beside keys others = ends_at keys.high others.low

-- one server holds both, or nobody holds either
abbrev pub is_same_holder : Option ℕ → Option ℕ → Bool
is_same_holder None None = true
is_same_holder (Some holder) (Some other) = holder == other
is_same_holder holder other = false

-- why a merge is not begun: one of the ranges is not there or has another generation, or the right one does not begin where the
-- left one ends, or their holders differ
abbrev pub begin_merge_fault : ℕ → ℕ → Option RangeEntry → Option RangeEntry → Option Refusal
begin_merge_fault left_generation right_generation (Some l) (Some r) = first_met (
    (GenerationChanged, not (l.generation == left_generation && r.generation == right_generation))
    ∷ (NotAdjacent, not (is_beside l.keys r.keys))
    ∷ (NotOwner, not (is_same_holder l.holder r.holder))
    ∷ []
    )
begin_merge_fault left_generation right_generation l r = Some GenerationChanged

-- the same answer where this merge is pending; nothing happens where no number is left
abbrev pub begin_merge_taken : MapState → ActorId → ReqNo → ℕ → ℕ → Option ℕ → Outcome MapState
begin_merge_taken m to q left right (Some into) = sends m (answers to (maps.MergeBegun q into))
begin_merge_taken m to q left right None =
    if has_numbers m 1
    then record {
      after = begin_merge m left right;
      written = writes (records.BeginMerge left right);
      packets = answers to (maps.MergeBegun q m.next);
      notes = [];
    }
    else silent m

-- who asked is told the number of what they are to become
abbrev pub begin_merge_rule : MapState → ActorId → ReqNo → ℕ → ℕ → Option RangeEntry → Outcome MapState
begin_merge_rule m to q left right None = silent m
begin_merge_rule m to q left right (Some l) = begin_merge_taken m to q left right (union_with right l.pending)

-- why a merge is not done: one of the ranges is not there or has another generation, or their merge is not pending
abbrev pub complete_merge_fault : ℕ → ℕ → Option RangeEntry → Option RangeEntry → Option ℕ → Option Refusal
complete_merge_fault left_generation right_generation (Some l) (Some r) into =
    first_met ((GenerationChanged, not (l.generation == left_generation && r.generation == right_generation)) ∷ (GenerationChanged, is_none into) ∷ [])
complete_merge_fault left_generation right_generation l r into = Some GenerationChanged

abbrev pub complete_merge_rule : MapState → ActorId → ReqNo → ℕ → ℕ → Option ℕ → Outcome MapState
complete_merge_rule m to q left right None = silent m
complete_merge_rule m to q left right (Some into) =
    record {
      after = complete_merge m left right;
      written = writes (records.CompleteMerge left right);
      packets = answers to (maps.MergeDone q);
      notes = notes.Merged left right into ∷ [];
    }

-- ---- packets

-- who asked where a key is, is told its range, and who holds that
abbrev pub route_rule : MapState → Packet → ReqNo → Option RangeEntry → Outcome MapState
route_rule m p q None = silent m
route_rule m p q (Some r) = sends m (answers p.from (maps.RouteIs q r.range r.holder))

-- a call of a packet: its sender is told the refusal
abbrev pub called : MapState → Packet → ReqNo → Option Refusal → Outcome MapState → Outcome MapState
called m p q fault taken = or_refused m Map p q fault taken

-- what the map does with a packet; of others than these nothing comes
abbrev pub told : MapState → Packet → MapBody → Outcome MapState
told m p (maps.Route key q) = route_rule m p q (range_of_key m.ranges key)
told m p (maps.BeginSplit range generation key q) =
    let r = range_at m.ranges range in
    called m p q (begin_split_fault generation key r) (begin_split_rule m p.from q range key r)
told m p (maps.CompleteSplit range generation q) =
    let r = range_at m.ranges range in
    called m p q (complete_split_fault generation r) (complete_split_rule m p.from q range r)
told m p (maps.BeginMerge left left_generation right right_generation q) =
    let l = range_at m.ranges left in
    let r = range_at m.ranges right in
    called m p q (begin_merge_fault left_generation right_generation l r) (begin_merge_rule m p.from q left right l)
told m p (maps.CompleteMerge left left_generation right right_generation q) =
    let into = union_at m.ranges left right in
    called m p q (complete_merge_fault left_generation right_generation (range_at m.ranges left) (range_at m.ranges right) into) (complete_merge_rule m p.from q left right into)
told m p body = silent m

abbrev pub map_rule : MapState → Packet → Body → Outcome MapState
map_rule m p (bodies.Map body) = told m p body
map_rule m p body = silent m
