-- What the manager is about to do with a packet or a call, as a function of its table.
use Rattle.std.specs.Prelude.{◌≡◌, ℕ, suc, Bool, true, false, List, [], ◌∷◌, ◌++◌, length, Option, Some, None, if◌then◌else◌, Result, Ok, Err, IfOk}
use Rattle.std.specs.declared.alloc.AllocError.{AllocError}
use Rattle.block_types.specs.declared.record.Nodes.{Nodes}
use Rattle.block_types.specs.declared.record.Record.{Record}
use Rattle.wire.specs.declared.actor.ActorId.{ActorId}
use Rattle.wire.specs.declared.actor.ActorId.TheVariants.{Node, Manager}
use Rattle.wire.specs.declared.actor.ReqNo.{ReqNo}
use Rattle.wire.specs.declared.body.AppendBody.TheVariants.{Refused}
use Rattle.wire.specs.declared.body.SealBody.{SealBody}
use Rattle.wire.specs.declared.body.SealBody.TheVariants.{Make, SealExtent, Frozen, IsSealed, Short, SendTail}
use Rattle.wire.specs.declared.body.StreamBody.{StreamBody}
use Rattle.wire.specs.declared.body.StreamBody.TheVariants.{CreateStream, Created, OpenStreams, Opened, Confirm, Confirmed, Extend, Extended, Trim, Trimmed, MultiModify, Modified}
use Rattle.wire.specs.declared.body.Body.{Body}
use Rattle.wire.specs.declared.body.Body.TheVariants as bodies
use Rattle.wire.specs.declared.note.Note.TheVariants.{SealedAt}
use Rattle.wire.specs.declared.packet.Packet.{Packet}
use Rattle.wire.specs.declared.refusal.Refusal.{Refusal}
use Rattle.wire.specs.declared.refusal.Refusal.TheVariants.{NoSuchExtent, Stale, BadPick}
use Rattle.wire.specs.declared.streams.Modify.{Modify}
use Rattle.wire.specs.declared.streams.StreamLists.{StreamLists}
use Rattle.wire.specs.declared.streams.StreamName.{StreamName}
use Rattle.streams.specs.Streams.{stream_of, create_fault, open_fault, confirm_fault, extending, trimming, modify_fault}
use Rattle.model_streams.specs.declared.extent.Extent.{Extent}
use Rattle.model_streams.specs.declared.manager_record.ManagerRecord.TheVariants as manager_records
use Rattle.model_streams.specs.Actors.{is_user, generation_of}
use Rattle.model_streams.specs.RecordBytes.{spelled, record_of}
use Rattle.model_streams.specs.Maps.{entry_at}
use Rattle.model_streams.specs.Outcome.{packet}
use Rattle.model_streams.specs.Manager.{each_place, is_there, is_pick, is_foreign, closes, told_sealed, with_report, frozen_to, known_sealed, place_of, first_sealed, least_told, tells_asker, sealed_to, forgotten, forgotten_if, writes}
use Rattle.manager_state.specs.RecordBytes.{CanSpell}
use Rattle.manager_state.specs.Table.{ManagerTableState, with_entry, sealed_at, table_after, table_fits, told_lists}
use Rattle.manager_rules.specs.declared.plan.Change.{Change}
use Rattle.manager_rules.specs.declared.plan.Change.TheVariants.{Nothing, Write, Replace}
use Rattle.manager_rules.specs.declared.plan.Plan.{Plan}

-- what a change makes of the table
abbrev pub changed_by : ManagerTableState → Change → ManagerTableState
changed_by t Nothing = t
changed_by t (Write r) = table_after t r
changed_by t (Replace e x) = with_entry t e x

-- the record of a change
abbrev pub written_by : Change → Option Record
written_by Nothing = None
written_by (Write r) = writes r
written_by (Replace e x) = None

-- the bytes of its record, if there is one, are read as they were written
abbrev pub IsReadAgain : Change → Type 0
IsReadAgain Nothing = Unit {0}
IsReadAgain (Write r) = record_of (spelled r) ≡ Some r
IsReadAgain (Replace e x) = Unit {0}

-- a change that fits the table: one without a record changes only what a stop drops
abbrev pub CanChange : ManagerTableState → Change → Type 0
CanChange t Nothing = Unit {0}
CanChange t (Write r) = CanSpell r × (table_fits t r ≡ true)
CanChange t (Replace e x) = forgotten_if (entry_at t.extents e) ≡ Some (forgotten x)

-- this plan, unless memory ran out
pub record Plans (plan : Plan) (result : Result Plan AllocError) : Type 0 where
  pub gives : IfOk result (λ given. given ≡ plan)
  pub again : IsReadAgain plan.change

abbrev pub plan_of : List Packet → Change → Plan
plan_of packets change = record { step = record { packets = packets; notes = [] }; change = change }

abbrev pub still : Plan
still = plan_of [] Nothing

-- one packet
abbrev pub told : ActorId → Body → Plan
told to body = plan_of (packet Manager to body ∷ []) Nothing

abbrev pub refusal_of : ReqNo → Refusal → Body
refusal_of q refusal = bodies.Append (Refused q refusal)

abbrev pub denied : Packet → ReqNo → Refusal → Plan
denied p q refusal = told p.from (refusal_of q refusal)

-- ---- CreateStream

abbrev pub created_of : ReqNo → Body
created_of q = bodies.Stream (Created q)

abbrev pub create_in : Packet → StreamName → ℕ → ReqNo → Option Refusal → Plan
create_in p s fence q None = plan_of (packet Manager p.from (created_of q) ∷ []) (Write (manager_records.CreateStream s fence))
create_in p s fence q (Some refusal) = denied p q refusal

abbrev pub create : ManagerTableState → Packet → StreamName → ℕ → ReqNo → Plan
create t p s fence q = if is_foreign p.from s.range then denied p q Stale else create_in p s fence q (create_fault t.streams s)

-- ---- OpenStreams and Confirm

abbrev pub opened_of : ReqNo → StreamLists → Body
opened_of q lists = bodies.Stream (Opened q lists)

abbrev pub open_in : ManagerTableState → Packet → ℕ → ℕ → ReqNo → Option Refusal → Plan
open_in t p range generation q None =
    plan_of (packet Manager p.from (opened_of q (told_lists t range)) ∷ []) (Write (manager_records.OpenStreams range generation))
open_in t p range generation q (Some refusal) = denied p q refusal

abbrev pub open_streams : ManagerTableState → Packet → ℕ → ℕ → ReqNo → Plan
open_streams t p range generation q =
    if is_user p.from then denied p q Stale else open_in t p range generation q (open_fault t.streams range generation)

abbrev pub confirmed_of : ReqNo → Body
confirmed_of q = bodies.Stream (Confirmed q)

abbrev pub confirm_in : Packet → ReqNo → Option Refusal → Plan
confirm_in p q None = told p.from (confirmed_of q)
confirm_in p q (Some refusal) = denied p q refusal

abbrev pub confirm : ManagerTableState → Packet → ℕ → ℕ → ReqNo → Plan
confirm t p range generation q =
    if is_user p.from then denied p q Stale else confirm_in p q (confirm_fault t.streams range generation)

-- ---- Extend

abbrev pub extended_of : ReqNo → ℕ → Nodes → Body
extended_of q e places = bodies.Stream (Extended q e places)

abbrev pub make_of : ℕ → ℕ → ℕ → Nodes → Body
make_of e fence target places = bodies.Seal (Make e fence target places)

abbrev pub made : ManagerTableState → Packet → StreamName → ℕ → Nodes → ReqNo → Plan
made t p s fence pick q =
    plan_of
    (each_place pick (make_of (suc (length t.extents)) fence t.target pick)
    ++ packet Manager p.from (extended_of q (suc (length t.extents)) pick) ∷ [])
    (Write (manager_records.Extend s fence pick))

abbrev pub picked : ManagerTableState → Packet → StreamName → ℕ → Nodes → ReqNo → Plan
picked t p s fence pick q = if is_pick t.nodes pick then made t p s fence pick q else denied p q BadPick

-- the last extent is named to those who took another for it
abbrev pub last_told : Packet → ℕ → Option Extent → ReqNo → Plan
last_told p e None q = still
last_told p e (Some x) q = told p.from (extended_of q e x.places)

abbrev pub extend_answered : ManagerTableState → Packet → StreamName → ℕ → Nodes → ReqNo → Result (Option ℕ) Refusal → Plan
extend_answered t p s generation pick q (Err refusal) = denied p q refusal
extend_answered t p s generation pick q (Ok None) = picked t p s generation pick q
extend_answered t p s generation pick q (Ok (Some e)) = last_told p e (entry_at t.extents e) q

abbrev pub extend : ManagerTableState → Packet → StreamName → ℕ → Option ℕ → Nodes → ReqNo → Plan
extend t p s generation last pick q =
    if is_foreign p.from s.range then denied p q Stale
    else extend_answered t p s generation pick q (extending (sealed_at t.extents) (stream_of t.streams s) generation last)

-- ---- Trim

abbrev pub trimmed_of : ReqNo → Body
trimmed_of q = bodies.Stream (Trimmed q)

abbrev pub trim_taken : Packet → ℕ → ℕ → Bool → ReqNo → Plan
trim_taken p range before to_blob q = plan_of (packet Manager p.from (trimmed_of q) ∷ []) (Write (manager_records.Trim range before to_blob))

-- Without a record where no extent leaves.
abbrev pub trim_in : Packet → ℕ → ℕ → Bool → ReqNo → Result Bool Refusal → Plan
trim_in p range before to_blob q (Err refusal) = denied p q refusal
trim_in p range before to_blob q (Ok false) = told p.from (trimmed_of q)
trim_in p range before to_blob q (Ok true) = trim_taken p range before to_blob q

abbrev pub trim : ManagerTableState → Packet → ℕ → ℕ → ℕ → Bool → ReqNo → Plan
trim t p range generation before to_blob q =
    if is_user p.from then denied p q Stale else trim_in p range before to_blob q (trimming t.streams range generation before)

-- ---- MultiModify

abbrev pub modified_of : ReqNo → Body
modified_of q = bodies.Stream (Modified q)

abbrev pub modify_taken : Packet → List Modify → ReqNo → Plan
modify_taken p list q = plan_of (packet Manager p.from (modified_of q) ∷ []) (Write (manager_records.MultiModify list))

abbrev pub modify_in : Packet → List Modify → ReqNo → Option Refusal → Plan
modify_in p list q None = modify_taken p list q
modify_in p list q (Some refusal) = denied p q refusal

abbrev pub multi_modify : ManagerTableState → Packet → List Modify → ReqNo → Plan
multi_modify t p list q =
    if is_user p.from then denied p q Stale else modify_in p list q (modify_fault (sealed_at t.extents) t.streams list)

-- ---- seals

-- each place is told to have a replica, and to close it
abbrev pub reminding : ℕ → ℕ → Extent → List Packet
reminding target e x = each_place x.places (make_of e x.fence target x.places) ++ each_place x.places (bodies.Seal (closes e x.sealed))

abbrev pub asked_by : Packet → ReqNo → Extent → Extent
asked_by p q x = record x { asker = Some (record { who = p.from; request = q }) }

abbrev pub seal_asked : ℕ → Packet → ℕ → ReqNo → Extent → Option ℕ → Plan
seal_asked target p e q x None = plan_of (reminding target e x) (Replace e (asked_by p q x))
seal_asked target p e q x (Some length) = plan_of (reminding target e x ++ told_sealed p.from q e length) Nothing

abbrev pub seal_extent : ℕ → Packet → ℕ → ReqNo → Option Extent → Plan
seal_extent target p e q None = denied p q NoSuchExtent
seal_extent target p e q (Some x) = seal_asked target p e q x x.sealed

abbrev pub noted : ℕ → Option Extent → Plan
noted e None = still
noted e (Some x) = plan_of [] (Replace e x)

abbrev pub frozen : Packet → ℕ → ℕ → Option Extent → Plan
frozen p e length None = still
frozen p e length (Some x) = if is_there x.sealed then still else noted e (with_report x p.from (frozen_to length))

abbrev pub is_sealed : Packet → ℕ → Option Extent → Plan
is_sealed p e None = still
is_sealed p e (Some x) = noted e (with_report x p.from known_sealed)

abbrev pub asks_tail : ℕ → ℕ → Option ℕ → Option ℕ → Plan
asks_tail e from (Some to) (Some n) = told (Node n) (bodies.Seal (SendTail e from to))
asks_tail e from to None = still
asks_tail e from None n = still

abbrev pub short : Packet → ℕ → ℕ → Option Extent → Plan
short p e length None = still
short p e length (Some x) = if is_there x.sealed then asks_tail e length (place_of x.places p.from) (first_sealed x) else still

abbrev pub decided : ℕ → ℕ → Extent → ℕ → Plan
decided target e x length =
    record {
      step = record {
        packets = reminding target e (sealed_to x length) ++ tells_asker e length x.asker;
        notes = SealedAt e length ∷ [];
      };
      change = Write (manager_records.Seal e length);
    }

abbrev pub decided_if : ℕ → ℕ → Extent → Option ℕ → Plan
decided_if target e x None = still
decided_if target e x (Some length) = decided target e x length

abbrev pub decide : ℕ → ℕ → Option Extent → Plan
decide target e None = still
decide target e (Some x) = if is_there x.sealed then plan_of (reminding target e x) Nothing else decided_if target e x (least_told x)

-- ---- the table

-- a call for several streams, which no user makes
abbrev pub range_body : ManagerTableState → Packet → StreamBody → Plan
range_body t p (OpenStreams range generation q) = open_streams t p range generation q
range_body t p (Confirm range generation q) = confirm t p range generation q
range_body t p (Trim range generation before to_blob q) = trim t p range generation before to_blob q
range_body t p (MultiModify list q) = multi_modify t p list q
range_body t p body = still

-- a user counts with generation 0
abbrev pub stream_body : ManagerTableState → Packet → StreamBody → Plan
stream_body t p (CreateStream s fence q) = create t p s (generation_of p.from fence) q
stream_body t p (Extend s generation last pick q) = extend t p s (generation_of p.from generation) last pick q
stream_body t p body = range_body t p body

abbrev pub seal_body : ManagerTableState → Packet → SealBody → Plan
seal_body t p (SealExtent e q) = seal_extent t.target p e q (entry_at t.extents e)
seal_body t p (Frozen e length) = frozen p e length (entry_at t.extents e)
seal_body t p (IsSealed e) = is_sealed p e (entry_at t.extents e)
seal_body t p (Short e length) = short p e length (entry_at t.extents e)
seal_body t p body = still

abbrev pub planned : ManagerTableState → Packet → Body → Plan
planned t p (bodies.Stream body) = stream_body t p body
planned t p (bodies.Seal body) = seal_body t p body
planned t p body = still
