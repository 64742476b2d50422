-- No rule of the map shows more than one split or merge.
use Rattle.std.proofs.Common.{◌≤◌, ℕ, Bool, true, false, List, length, Option, Some, None, arith}
use Rattle.wire.specs.declared.actor.ActorId.{ActorId}
use Rattle.wire.specs.declared.actor.ReqNo.{ReqNo}
use Rattle.wire.specs.declared.body.Body.{Body}
use Rattle.wire.specs.declared.body.Body.TheVariants as bodies
use Rattle.wire.specs.declared.body.MapBody.{MapBody}
use Rattle.wire.specs.declared.body.MapBody.TheVariants as maps
use Rattle.wire.specs.declared.packet.Packet.{Packet}
use Rattle.wire.specs.declared.refusal.Refusal.{Refusal}
use Rattle.model_streams.specs.Outcome.{Outcome}
use Rattle.model_streams.proofs.Tests.{if_elim}
use Rattle.model_partition.specs.declared.pending.Pending.{Pending}
use Rattle.model_partition.specs.declared.pending.Pending.TheVariants as pendings
use Rattle.model_partition.specs.declared.range_entry.RangeEntry.{RangeEntry}
use Rattle.model_partition.specs.Map.{MapState, range_at, range_of_key, halves_at, union_with, union_at}
use Rattle.model_partition.specs.MapRules.{has_numbers, begin_split_fault, begin_split_taken, begin_split_rule, complete_split_fault, complete_split_taken, complete_split_rule, begin_merge_fault, begin_merge_taken, begin_merge_rule, complete_merge_fault, complete_merge_rule, route_rule, called, told, map_rule}
use Rattle.world_stops.specs.LastRecord.{shown_if}

abbrev ShowsOne : Outcome MapState → Type 0
ShowsOne o = length o.notes ≤ 1

called_few : (m : MapState) (p : Packet) (q : ReqNo) (fault : Option Refusal) (o : Outcome MapState) → ShowsOne o → ShowsOne (called m p q fault o)
called_few m p q (Some refusal) o few = omega arith
called_few m p q None o few = few

route_few : (m : MapState) (p : Packet) (q : ReqNo) (o : Option RangeEntry) → ShowsOne (route_rule m p q o)
route_few m p q None = omega arith
route_few m p q (Some r) = omega arith

split_begun_few : (m : MapState) (to : ActorId) (q : ReqNo) (range : ℕ) (key : List ℕ) (pair : Option (ℕ × ℕ)) → ShowsOne (begin_split_taken m to q range key pair)
split_begun_few m to q range key (Some pair) = omega arith
split_begun_few m to q range key None = if_elim ShowsOne (has_numbers m 2) _ _ (λ t. omega arith) (λ f. omega arith)

begin_split_few : (m : MapState) (to : ActorId) (q : ReqNo) (range : ℕ) (key : List ℕ) (o : Option RangeEntry) → ShowsOne (begin_split_rule m to q range key o)
begin_split_few m to q range key None = omega arith
begin_split_few m to q range key (Some r) = split_begun_few m to q range key (halves_at key r.pending)

split_done_few : (m : MapState) (to : ActorId) (q : ReqNo) (range : ℕ) (pending : Option Pending) → ShowsOne (complete_split_taken m to q range pending)
split_done_few m to q range None = omega arith
split_done_few m to q range (Some (pendings.Split key low high)) = omega arith
split_done_few m to q range (Some (pendings.Merge right into)) = omega arith

complete_split_few : (m : MapState) (to : ActorId) (q : ReqNo) (range : ℕ) (o : Option RangeEntry) → ShowsOne (complete_split_rule m to q range o)
complete_split_few m to q range None = omega arith
complete_split_few m to q range (Some r) = split_done_few m to q range r.pending

merge_begun_few : (m : MapState) (to : ActorId) (q : ReqNo) (left right : ℕ) (into : Option ℕ) → ShowsOne (begin_merge_taken m to q left right into)
merge_begun_few m to q left right (Some into) = omega arith
merge_begun_few m to q left right None = if_elim ShowsOne (has_numbers m 1) _ _ (λ t. omega arith) (λ f. omega arith)

begin_merge_few : (m : MapState) (to : ActorId) (q : ReqNo) (left right : ℕ) (o : Option RangeEntry) → ShowsOne (begin_merge_rule m to q left right o)
begin_merge_few m to q left right None = omega arith
begin_merge_few m to q left right (Some l) = merge_begun_few m to q left right (union_with right l.pending)

complete_merge_few : (m : MapState) (to : ActorId) (q : ReqNo) (left right : ℕ) (into : Option ℕ) → ShowsOne (complete_merge_rule m to q left right into)
complete_merge_few m to q left right None = omega arith
complete_merge_few m to q left right (Some into) = omega arith

told_few : (m : MapState) (p : Packet) (body : MapBody) → ShowsOne (told m p body)
told_few m p (maps.Route key q) = route_few m p q (range_of_key m.ranges key)
told_few m p (maps.BeginSplit range generation key q) =
    called_few m p q (begin_split_fault generation key (range_at m.ranges range)) (begin_split_rule m p.from q range key (range_at m.ranges range)) (begin_split_few m p.from q range key (range_at m.ranges range))
told_few m p (maps.CompleteSplit range generation q) =
    called_few m p q (complete_split_fault generation (range_at m.ranges range)) (complete_split_rule m p.from q range (range_at m.ranges range)) (complete_split_few m p.from q range (range_at m.ranges range))
told_few m p (maps.BeginMerge left a right b q) =
    called_few m p q (begin_merge_fault a b (range_at m.ranges left) (range_at m.ranges right)) (begin_merge_rule m p.from q left right (range_at m.ranges left)) (begin_merge_few m p.from q left right (range_at m.ranges left))
told_few m p (maps.CompleteMerge left a right b q) =
    called_few m p q (complete_merge_fault a b (range_at m.ranges left) (range_at m.ranges right) (union_at m.ranges left right)) (complete_merge_rule m p.from q left right (union_at m.ranges left right))
    (complete_merge_few m p.from q left right (union_at m.ranges left right))
told_few m p body = omega arith

rule_few : (m : MapState) (p : Packet) (body : Body) → ShowsOne (map_rule m p body)
rule_few m p (bodies.Map body) = told_few m p body
rule_few m p body = omega arith

-- what is shown of a packet, also where the map stops in it
pub shown_few : (m : MapState) (p : Packet) (body : Body) (stands : Bool) → length (shown_if stands (map_rule m p body).notes) ≤ 1
shown_few m p body true = rule_few m p body
shown_few m p body false = omega arith
