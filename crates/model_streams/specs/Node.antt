-- The table of an extent node: what it does with a packet about an extent, as a function of its replica.
use Rattle.std.specs.Prelude.{ℕ, suc, ◌+◌, Bool, not, ◌&&◌, ◌||◌, List, [], ◌∷◌, ◌++◌, length, map, take, drop, Option, Some, None, ◌==◌, nat_lt, nat_le, if◌then◌else◌}
use Rattle.block_types.specs.declared.record.Nodes.{Nodes}
use Rattle.block_types.specs.declared.record.Record.{Record}
use Rattle.block_types.specs.declared.record.Record.TheVariants as records
use Rattle.block_types.specs.Limits.{is_within, are_nodes}
use Rattle.wire.specs.Blocks.{has_bad_block}
use Rattle.wire.specs.declared.actor.ActorId.{ActorId}
use Rattle.wire.specs.declared.actor.ActorId.TheVariants.{Node, Manager}
use Rattle.wire.specs.declared.actor.ReqNo.{ReqNo}
use Rattle.wire.specs.declared.actor.ReqNo.TheVariants.{NoRequest}
use Rattle.wire.specs.declared.body.AppendBody.{AppendBody}
use Rattle.wire.specs.declared.body.AppendBody.TheVariants.{Append, Put, Have, Appended}
use Rattle.wire.specs.declared.body.SealBody.{SealBody}
use Rattle.wire.specs.declared.body.SealBody.TheVariants.{Make, Freeze, Frozen, Seal, IsSealed, Short, SendTail, Tail}
use Rattle.wire.specs.declared.body.CheckBody.{CheckBody}
use Rattle.wire.specs.declared.body.CheckBody.TheVariants.{Check, Probe, Probed, Checked}
use Rattle.wire.specs.declared.body.ReadBody.{ReadBody}
use Rattle.wire.specs.declared.body.ReadBody.TheVariants as reads
use Rattle.wire.specs.declared.body.Body.{Body}
use Rattle.wire.specs.declared.body.Body.TheVariants as bodies
use Rattle.wire.specs.declared.note.Note.{Note}
use Rattle.wire.specs.declared.note.Note.TheVariants as notes
use Rattle.wire.specs.declared.packet.Packet.{Packet}
use Rattle.wire.specs.declared.refusal.Refusal.{Refusal}
use Rattle.wire.specs.declared.refusal.Refusal.TheVariants.{NoSuchExtent, NotPrimary, NotOpen, Stale, TooManyBlocks, BadBlock, ExtentFull, PastEnd, NotSealed, Busy}
use Rattle.replica.specs.declared.phase.Phase.{Phase}
use Rattle.replica.specs.declared.phase.Phase.TheVariants as phases
use Rattle.replica.specs.Groups.{Group, text, size, text_length}
use Rattle.replica.specs.Content.{Content, new_content, appended, fenced, frozen, sealed_with}
use Rattle.replica.specs.Reading.{bytes_at, groups_to, groups_from}
pub use Rattle.replica.specs.Replay.{is_open, is_frozen, is_sealed}
use Rattle.replica.specs.Replay.{is_place, is_tail}
use Rattle.model_streams.specs.declared.checking.Checking.{Checking}
use Rattle.model_streams.specs.declared.waiting_append.WaitingAppend.{WaitingAppend}
use Rattle.model_streams.specs.Actors.{is_node, is_manager, is_one_of, generation_of}
use Rattle.model_streams.specs.Outcome.{Outcome, packet, first_met, all_met, silent, sends, refused, or_refused}

-- a replica: what its records say, and what a stop drops. Its primary keeps how long the second and the third place
-- are known to be, the appends that wait for them, and the check that is under way
pub record Replica : Type 0 where
  pub content : Content
  pub second_has : ℕ
  pub third_has : ℕ
  pub waiting : List WaitingAppend
  pub check : Option Checking

-- with what a stop drops empty
abbrev pub fresh : Content → Replica
fresh content = record { content = content; second_has = 0; third_has = 0; waiting = []; check = None }

-- without what a stop drops
abbrev pub contents : Option Replica → Option Content
contents None = None
contents (Some r) = Some r.content

-- what a stop leaves
abbrev pub stopped : Option Replica → Option Replica
stopped None = None
stopped (Some r) = Some (fresh r.content)

-- ---- Make

-- who may ask for a replica, and what may be asked for
abbrev pub make_tests : ℕ → Packet → ℕ → Nodes → List Bool
make_tests n p target places = is_manager p.from ∷ is_place n places ∷ are_nodes places ∷ is_within 4096 16777216 target ∷ []

abbrev pub make_taken : ℕ → ℕ → ℕ → Nodes → Outcome (Option Replica)
make_taken e fence target places =
    record {
      after = Some (fresh (new_content places target fence));
      written = Some (records.Make e fence target places);
      packets = [];
      notes = [];
    }

abbrev pub make_rule : ℕ → Packet → ℕ → ℕ → ℕ → Nodes → Outcome (Option Replica)
make_rule n p e fence target places = if all_met (make_tests n p target places) then make_taken e fence target places else silent None

-- ---- Append

abbrev pub append_tests : ℕ → Replica → Packet → ℕ → Group → List (Refusal × Bool)
append_tests n r p generation blocks =
    (NotPrimary, not (n == r.content.places.primary))
    ∷ (NotOpen, not (is_open r.content.phase))
    ∷ (Stale, nat_lt (generation_of p.from generation) r.content.fence)
    ∷ (TooManyBlocks, (length blocks == 0) || nat_lt 64 (length blocks))
    ∷ (BadBlock, has_bad_block blocks)
    ∷ (ExtentFull, nat_le r.content.target (text_length r.content.groups))
    ∷ (Busy, nat_le 256 (length r.waiting))
    ∷ []

abbrev pub append_refusal : ℕ → Replica → Packet → ℕ → Group → Option Refusal
append_refusal n r p generation blocks = first_met (append_tests n r p generation blocks)

-- a Put to each secondary
abbrev pub puts : ℕ → Nodes → ℕ → ℕ → Group → List Packet
puts n places e offset group =
    packet (Node n) (Node places.second) (bodies.Append (Put e offset group))
    ∷ packet (Node n) (Node places.third) (bodies.Append (Put e offset group)) ∷ []

-- the group goes to the end of the replica, waits there for the secondaries, and is put to them
abbrev pub append_taken : ℕ → Replica → Packet → ℕ → Group → ReqNo → Outcome (Option Replica)
append_taken n r p e group q =
    let offset = text_length r.content.groups
    in record {
      after = Some (record r {
        content = appended r.content group;
        waiting = r.waiting ++ record { offset = offset; group = group; asker = p.from; request = q } ∷ [];
      });
      written = Some (records.Append e offset group);
      packets = puts n r.content.places e offset group;
      notes = [];
    }

abbrev pub append_rule : ℕ → Replica → Packet → ℕ → ℕ → Group → ReqNo → Outcome (Option Replica)
append_rule n r p e generation blocks q = or_refused (Some r) (Node n) p q (append_refusal n r p generation blocks) (append_taken n r p e blocks q)

-- ---- Put

-- the secondary tells the primary how long it is
abbrev pub tells_length : ℕ → Replica → ℕ → ℕ → List Packet
tells_length n r e length = packet (Node n) (Node r.content.places.primary) (bodies.Append (Have e length)) ∷ []

-- the group goes to the end of the replica, and there is still room
abbrev pub put_fits : Replica → ℕ → Bool
put_fits r offset = (offset == text_length r.content.groups) && nat_lt (text_length r.content.groups) r.content.target

abbrev pub put_added : ℕ → Replica → ℕ → ℕ → Group → Outcome (Option Replica)
put_added n r e offset group =
    record {
      after = Some (record r { content = appended r.content group });
      written = Some (records.Append e offset group);
      packets = tells_length n r e (text_length (r.content.groups ++ group ∷ []));
      notes = [];
    }

-- a group that is already there, or that comes too early, is not taken
abbrev pub put_passed : ℕ → Replica → ℕ → Outcome (Option Replica)
put_passed n r e = sends (Some r) (tells_length n r e (text_length r.content.groups))

abbrev pub put_taken : ℕ → Replica → ℕ → ℕ → Group → Outcome (Option Replica)
put_taken n r e offset group = if put_fits r offset then put_added n r e offset group else put_passed n r e

abbrev pub put_tests : Replica → List (Refusal × Bool)
put_tests r = (NotOpen, not (is_open r.content.phase)) ∷ []

abbrev pub put_refusal : Replica → Option Refusal
put_refusal r = first_met (put_tests r)

abbrev pub put_rule : ℕ → Replica → Packet → ℕ → ℕ → Group → Outcome (Option Replica)
put_rule n r p e offset group =
    if is_node r.content.places.primary p.from
    then or_refused (Some r) (Node n) p NoRequest (put_refusal r) (put_taken n r e offset group)
    else silent (Some r)

-- ---- Have

-- how many of the waiting appends, from the first on, end within this length
abbrev pub covered : ℕ → List WaitingAppend → ℕ
covered length [] = 0
covered length (w ∷ ws) = if nat_le (w.offset + size w.group) length then suc (covered length ws) else 0

abbrev pub lesser : ℕ → ℕ → ℕ
lesser a b = if nat_le a b then a else b

abbrev pub greater : ℕ → ℕ → ℕ
greater a b = if nat_lt a b then b else a

abbrev pub acked : ℕ → List WaitingAppend → List Note
acked e ws = map (λ w. notes.Acked e w.offset w.group) ws

abbrev pub answers : ℕ → ℕ → List WaitingAppend → List Packet
answers n e ws = map (λ w. packet (Node n) w.asker (bodies.Append (Appended w.request e w.offset))) ws

-- the appends that both secondaries have are answered, and wait no more
abbrev pub answered : ℕ → Replica → ℕ → Outcome (Option Replica)
answered n r e =
    let count = covered (lesser r.second_has r.third_has) r.waiting
    in record {
      after = Some (record r { waiting = drop count r.waiting });
      written = None;
      packets = answers n e (take count r.waiting);
      notes = acked e (take count r.waiting);
    }

-- with what a secondary tells of its length; none where the sender is no secondary
abbrev pub with_length : Replica → ActorId → ℕ → Option Replica
with_length r from length =
    if is_node r.content.places.second from then Some (record r { second_has = greater r.second_has length })
    else if is_node r.content.places.third from then Some (record r { third_has = greater r.third_has length })
    else None

abbrev pub answered_if : ℕ → Replica → ℕ → Option Replica → Outcome (Option Replica)
answered_if n r e None = silent (Some r)
answered_if n r e (Some told) = answered n told e

abbrev pub have_rule : ℕ → Replica → Packet → ℕ → ℕ → Outcome (Option Replica)
have_rule n r p e length =
    if (n == r.content.places.primary) && is_open r.content.phase
    then answered_if n r e (with_length r p.from length)
    else silent (Some r)

-- ---- Check

abbrev pub check_tests : ℕ → Replica → ℕ → List (Refusal × Bool)
check_tests n r generation =
    (NotPrimary, not (n == r.content.places.primary)) ∷ (Stale, nat_lt generation r.content.fence) ∷ []

abbrev pub check_refusal : ℕ → Replica → ℕ → Option Refusal
check_refusal n r generation = first_met (check_tests n r generation)

-- listens to no generation below this one
abbrev pub raised : Content → ℕ → Content
raised content generation = if nat_lt content.fence generation then fenced content generation else content

-- a fence that rises is written down
abbrev pub raise_written : ℕ → Content → ℕ → Option Record
raise_written e content generation = if nat_lt content.fence generation then Some (records.Fence e generation) else None

-- each secondary is asked for its length
abbrev pub probes : ℕ → Nodes → ℕ → ℕ → List Packet
probes n places e generation =
    packet (Node n) (Node places.second) (bodies.Check (Probe e generation))
    ∷ packet (Node n) (Node places.third) (bodies.Check (Probe e generation)) ∷ []

-- a check that is under way already is dropped without an answer
abbrev pub check_begun : ℕ → Replica → Packet → ℕ → ℕ → ReqNo → Outcome (Option Replica)
check_begun n r p e generation q =
    record {
      after = Some (record r {
        content = raised r.content generation;
        check = Some (record { generation = generation; asker = p.from; request = q; second = None; third = None });
      });
      written = raise_written e r.content generation;
      packets = probes n r.content.places e generation;
      notes = [];
    }

abbrev pub checked_as : ℕ → ActorId → ReqNo → Option ℕ → List Packet
checked_as n asker q length = packet (Node n) asker (bodies.Check (Checked q length)) ∷ []

-- what takes no more groups has no length to check
abbrev pub check_taken : ℕ → Replica → Packet → ℕ → ℕ → ReqNo → Outcome (Option Replica)
check_taken n r p e generation q =
    if is_open r.content.phase then check_begun n r p e generation q else sends (Some r) (checked_as n p.from q None)

abbrev pub check_rule : ℕ → Replica → Packet → ℕ → ℕ → ReqNo → Outcome (Option Replica)
check_rule n r p e generation q =
    or_refused (Some r) (Node n) p q (check_refusal n r generation) (check_taken n r p e generation q)

-- ---- Probe

abbrev pub probe_tests : Replica → ℕ → List (Refusal × Bool)
probe_tests r generation = (NotOpen, not (is_open r.content.phase)) ∷ (Stale, nat_lt generation r.content.fence) ∷ []

abbrev pub probe_refusal : Replica → ℕ → Option Refusal
probe_refusal r generation = first_met (probe_tests r generation)

abbrev pub probe_taken : ℕ → Replica → ℕ → ℕ → Outcome (Option Replica)
probe_taken n r e generation =
    record {
      after = Some (record r { content = raised r.content generation });
      written = raise_written e r.content generation;
      packets = packet (Node n) (Node r.content.places.primary) (bodies.Check (Probed e generation (text_length r.content.groups))) ∷ [];
      notes = [];
    }

abbrev pub probe_rule : ℕ → Replica → Packet → ℕ → ℕ → Outcome (Option Replica)
probe_rule n r p e generation =
    if is_node r.content.places.primary p.from
    then or_refused (Some r) (Node n) p NoRequest (probe_refusal r generation) (probe_taken n r e generation)
    else silent (Some r)

-- ---- Probed

-- with what a secondary tells of its length; none where the sender is no secondary
abbrev pub with_probed : Checking → Nodes → ActorId → ℕ → Option Checking
with_probed c places from length =
    if is_node places.second from then Some (record c { second = Some length })
    else if is_node places.third from then Some (record c { third = Some length })
    else None

-- the length that all three have, while the replica is open
abbrev pub common_length : Replica → ℕ → ℕ → Option ℕ
common_length r second third =
    if is_open r.content.phase && ((second == text_length r.content.groups) && (third == text_length r.content.groups))
    then Some (text_length r.content.groups) else None

-- the check is answered once both secondaries have told
abbrev pub settled : ℕ → Replica → Checking → Option ℕ → Option ℕ → Outcome (Option Replica)
settled n r c (Some second) (Some third) =
    sends (Some (record r { check = None })) (checked_as n c.asker c.request (common_length r second third))
settled n r c None third = silent (Some (record r { check = Some c }))
settled n r c (Some second) None = silent (Some (record r { check = Some c }))

abbrev pub probed_by : ℕ → Replica → Option Checking → Outcome (Option Replica)
probed_by n r None = silent (Some r)
probed_by n r (Some c) = settled n r c c.second c.third

abbrev pub probed_for : ℕ → Replica → Packet → ℕ → ℕ → Option Checking → Outcome (Option Replica)
probed_for n r p generation length None = silent (Some r)
probed_for n r p generation length (Some c) =
    if c.generation == generation then probed_by n r (with_probed c r.content.places p.from length) else silent (Some r)

abbrev pub probed_rule : ℕ → Replica → Packet → ℕ → ℕ → Outcome (Option Replica)
probed_rule n r p generation length = probed_for n r p generation length r.check

-- ---- ReadAt

abbrev pub read_tests : Replica → ℕ → ℕ → List (Refusal × Bool)
read_tests r offset length = (PastEnd, nat_lt (text_length r.content.groups) (offset + length)) ∷ []

abbrev pub read_refusal : Replica → ℕ → ℕ → Option Refusal
read_refusal r offset length = first_met (read_tests r offset length)

abbrev pub read_taken : ℕ → Replica → Packet → ℕ → ℕ → ℕ → ReqNo → Outcome (Option Replica)
read_taken n r p e offset length q =
    let bytes = bytes_at offset length r.content.groups
    in record {
      after = Some r;
      written = None;
      packets = packet (Node n) p.from (bodies.Read (reads.Bytes q e offset bytes)) ∷ [];
      notes = notes.Seen e n offset bytes ∷ [];
    }

abbrev pub read_rule : ℕ → Replica → Packet → ℕ → ℕ → ℕ → ReqNo → Outcome (Option Replica)
read_rule n r p e offset length q =
    or_refused (Some r) (Node n) p q (read_refusal r offset length) (read_taken n r p e offset length q)

-- ---- ReadGroups

-- a sealed replica that is read to its end shows its content
abbrev pub groups_note : ℕ → Replica → ℕ → ℕ → List Group → Note
groups_note n r e upto groups =
    if is_sealed r.content.phase && (upto == text_length r.content.groups) then notes.Content e n groups
    else notes.Seen e n 0 (text groups)

abbrev pub groups_shown : ℕ → Replica → Packet → ℕ → ℕ → ReqNo → List Group → Outcome (Option Replica)
groups_shown n r p e upto q groups =
    record {
      after = Some r;
      written = None;
      packets = packet (Node n) p.from (bodies.Read (reads.Groups q e groups)) ∷ [];
      notes = groups_note n r e upto groups ∷ [];
    }

abbrev pub groups_taken : ℕ → Replica → Packet → ℕ → ℕ → ReqNo → Option (List Group) → Outcome (Option Replica)
groups_taken n r p e upto q None = refused (Some r) (Node n) p q PastEnd
groups_taken n r p e upto q (Some groups) = groups_shown n r p e upto q groups

abbrev pub groups_tests : Replica → Bool → List (Refusal × Bool)
groups_tests r sealed = (NotSealed, sealed && not (is_sealed r.content.phase)) ∷ []

abbrev pub groups_refusal : Replica → Bool → Option Refusal
groups_refusal r sealed = first_met (groups_tests r sealed)

abbrev pub groups_rule : ℕ → Replica → Packet → ℕ → ℕ → Bool → ReqNo → Outcome (Option Replica)
groups_rule n r p e upto sealed q =
    or_refused (Some r) (Node n) p q (groups_refusal r sealed) (groups_taken n r p e upto q (groups_to upto r.content.groups))

-- ---- Freeze

abbrev pub to_manager : ℕ → SealBody → List Packet
to_manager n body = packet (Node n) Manager (bodies.Seal body) ∷ []

-- it takes no more groups, and drops what waits
abbrev pub frozen_at : Replica → Replica
frozen_at r = fresh (frozen r.content)

abbrev pub freezes : ℕ → Replica → ℕ → Phase → Outcome (Option Replica)
freezes n r e phases.Open =
    record {
      after = Some (frozen_at r);
      written = Some (records.Freeze e);
      packets = to_manager n (Frozen e (text_length r.content.groups));
      notes = [];
    }
freezes n r e phases.Frozen = sends (Some r) (to_manager n (Frozen e (text_length r.content.groups)))
freezes n r e phases.Sealed = sends (Some r) (to_manager n (IsSealed e))

abbrev pub freeze_rule : ℕ → Replica → Packet → ℕ → Outcome (Option Replica)
freeze_rule n r p e = if is_manager p.from then freezes n r e r.content.phase else silent (Some r)

-- ---- Seal

-- too short for the length: it freezes, if it is open, and says how long it is
abbrev pub shorts : ℕ → Replica → ℕ → Phase → Outcome (Option Replica)
shorts n r e phases.Open =
    record {
      after = Some (frozen_at r);
      written = Some (records.Freeze e);
      packets = to_manager n (Short e (text_length r.content.groups));
      notes = [];
    }
shorts n r e phase = sends (Some r) (to_manager n (Short e (text_length r.content.groups)))

-- just these groups, for good, and nothing waits
abbrev pub sealed_at : Replica → List Group → Replica
sealed_at r groups = fresh (sealed_with r.content groups)

-- what is longer is cut
abbrev pub cuts : ℕ → Replica → Packet → ℕ → ℕ → Option (List Group) → Outcome (Option Replica)
cuts n r p e length None = refused (Some r) (Node n) p NoRequest PastEnd
cuts n r p e length (Some groups) =
    record {
      after = Some (sealed_at r groups);
      written = Some (records.Seal e length);
      packets = to_manager n (IsSealed e);
      notes = [];
    }

-- one that is sealed is so at that length, or refuses
abbrev pub seals_again : ℕ → Replica → Packet → ℕ → ℕ → Outcome (Option Replica)
seals_again n r p e length =
    if text_length r.content.groups == length then sends (Some r) (to_manager n (IsSealed e))
    else refused (Some r) (Node n) p NoRequest NotOpen

abbrev pub seals : ℕ → Replica → Packet → ℕ → ℕ → Outcome (Option Replica)
seals n r p e length =
    if is_sealed r.content.phase then seals_again n r p e length
    else if nat_lt (text_length r.content.groups) length then shorts n r e r.content.phase
    else cuts n r p e length (groups_to length r.content.groups)

abbrev pub seal_rule : ℕ → Replica → Packet → ℕ → ℕ → Outcome (Option Replica)
seal_rule n r p e length = if is_manager p.from then seals n r p e length else silent (Some r)

-- ---- SendTail

-- the groups from a boundary on go to a node that lacks them
abbrev pub tail_sent : ℕ → Replica → Packet → ℕ → ℕ → ℕ → Option (List Group) → Outcome (Option Replica)
tail_sent n r p e from to None = refused (Some r) (Node n) p NoRequest PastEnd
tail_sent n r p e from to (Some groups) =
    sends (Some r) (packet (Node n) (Node to) (bodies.Seal (Tail e from (text_length r.content.groups) groups)) ∷ [])

abbrev pub send_tail_tests : Replica → List (Refusal × Bool)
send_tail_tests r = (NotSealed, not (is_sealed r.content.phase)) ∷ []

abbrev pub send_tail_refusal : Replica → Option Refusal
send_tail_refusal r = first_met (send_tail_tests r)

abbrev pub send_tail_rule : ℕ → Replica → Packet → ℕ → ℕ → ℕ → Outcome (Option Replica)
send_tail_rule n r p e from to =
    if is_manager p.from
    then or_refused (Some r) (Node n) p NoRequest (send_tail_refusal r) (tail_sent n r p e from to (groups_from from r.content.groups))
    else silent (Some r)

-- ---- Tail

-- whether it comes from a place, and brings this frozen replica to its length
abbrev pub tail_fits : Replica → ActorId → ℕ → ℕ → List Group → Bool
tail_fits r sender from length groups =
    is_one_of r.content.places sender && (is_frozen r.content.phase && is_tail r.content from length groups)

abbrev pub tail_taken : ℕ → Replica → ℕ → ℕ → ℕ → List Group → Outcome (Option Replica)
tail_taken n r e from length groups =
    record {
      after = Some (sealed_at r (r.content.groups ++ groups));
      written = Some (records.Fill e from length groups);
      packets = to_manager n (IsSealed e);
      notes = [];
    }

abbrev pub tail_rule : ℕ → Replica → Packet → ℕ → ℕ → ℕ → List Group → Outcome (Option Replica)
tail_rule n r p e from length groups =
    if tail_fits r p.from from length groups then tail_taken n r e from length groups else silent (Some r)

-- ---- the table

abbrev pub append_body_rule : ℕ → Option Replica → Packet → AppendBody → Outcome (Option Replica)
append_body_rule n (Some r) p (Append e generation blocks q) = append_rule n r p e generation blocks q
append_body_rule n None p (Append e generation blocks q) = refused None (Node n) p q NoSuchExtent
append_body_rule n (Some r) p (Put e offset group) = put_rule n r p e offset group
append_body_rule n None p (Put e offset group) = refused None (Node n) p NoRequest NoSuchExtent
append_body_rule n (Some r) p (Have e length) = have_rule n r p e length
append_body_rule n None p (Have e length) = refused None (Node n) p NoRequest NoSuchExtent
append_body_rule n s p body = silent s

abbrev pub check_body_rule : ℕ → Option Replica → Packet → CheckBody → Outcome (Option Replica)
check_body_rule n (Some r) p (Check e generation q) = check_rule n r p e (generation_of p.from generation) q
check_body_rule n None p (Check e generation q) = refused None (Node n) p q NoSuchExtent
check_body_rule n (Some r) p (Probe e generation) = probe_rule n r p e generation
check_body_rule n None p (Probe e generation) = refused None (Node n) p NoRequest NoSuchExtent
check_body_rule n (Some r) p (Probed e generation length) = probed_rule n r p generation length
check_body_rule n None p (Probed e generation length) = refused None (Node n) p NoRequest NoSuchExtent
check_body_rule n s p body = silent s

-- the manager is told that there is no replica
abbrev pub missing : ℕ → Packet → Outcome (Option Replica)
missing n p = if is_manager p.from then refused None (Node n) p NoRequest NoSuchExtent else silent None

abbrev pub seal_body_rule : ℕ → Option Replica → Packet → SealBody → Outcome (Option Replica)
seal_body_rule n None p (Make e fence target places) = make_rule n p e fence target places
seal_body_rule n (Some r) p (Freeze e) = freeze_rule n r p e
seal_body_rule n None p (Freeze e) = missing n p
seal_body_rule n (Some r) p (Seal e length) = seal_rule n r p e length
seal_body_rule n None p (Seal e length) = missing n p
seal_body_rule n (Some r) p (SendTail e from to) = send_tail_rule n r p e from to
seal_body_rule n None p (SendTail e from to) = missing n p
seal_body_rule n (Some r) p (Tail e from length groups) = tail_rule n r p e from length groups
seal_body_rule n None p (Tail e from length groups) = refused None (Node n) p NoRequest NoSuchExtent
seal_body_rule n s p body = silent s

abbrev pub read_body_rule : ℕ → Option Replica → Packet → ReadBody → Outcome (Option Replica)
read_body_rule n (Some r) p (reads.ReadAt e offset length q) = read_rule n r p e offset length q
read_body_rule n None p (reads.ReadAt e offset length q) = refused None (Node n) p q NoSuchExtent
read_body_rule n (Some r) p (reads.ReadGroups e upto sealed q) = groups_rule n r p e upto sealed q
read_body_rule n None p (reads.ReadGroups e upto sealed q) = refused None (Node n) p q NoSuchExtent
read_body_rule n s p body = silent s

-- what node n does with a packet about an extent of which it has this replica
abbrev pub node_rule : ℕ → Option Replica → Packet → Body → Outcome (Option Replica)
node_rule n s p (bodies.Append body) = append_body_rule n s p body
node_rule n s p (bodies.Check body) = check_body_rule n s p body
node_rule n s p (bodies.Seal body) = seal_body_rule n s p body
node_rule n s p (bodies.Read body) = read_body_rule n s p body
node_rule n s p body = silent s

abbrev pub append_extent : AppendBody → ℕ
append_extent (Append e generation blocks q) = e
append_extent (Put e offset group) = e
append_extent (Have e length) = e
append_extent _ = 0

abbrev pub check_extent : CheckBody → ℕ
check_extent (Check e generation q) = e
check_extent (Probe e generation) = e
check_extent (Probed e generation length) = e
check_extent _ = 0

abbrev pub seal_extent : SealBody → ℕ
seal_extent (Make e fence target places) = e
seal_extent (Freeze e) = e
seal_extent (Seal e length) = e
seal_extent (SendTail e from to) = e
seal_extent (Tail e from length groups) = e
seal_extent _ = 0

abbrev pub read_extent : ReadBody → ℕ
read_extent (reads.ReadAt e offset length q) = e
read_extent (reads.ReadGroups e upto sealed q) = e
read_extent _ = 0

-- the extent that a packet to a node is about, where its rule is built; 0 is no extent
abbrev pub extent_of : Body → ℕ
extent_of (bodies.Append body) = append_extent body
extent_of (bodies.Check body) = check_extent body
extent_of (bodies.Seal body) = seal_extent body
extent_of (bodies.Read body) = read_extent body
extent_of _ = 0
