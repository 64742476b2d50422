-- The table of a server's work on one stream: what it sends, and what it does with an answer. An answer counts only
-- where it repeats the number of the request that is out.
use Rattle.std.specs.Prelude.{ℕ, ◌-◌, Bool, true, false, List, [], ◌∷◌, ◌++◌, length, Option, Some, None, Result, Ok, Err, slice_get, slice_set, if◌then◌else◌}
use Rattle.block_types.specs.declared.record.Nodes.{Nodes}
use Rattle.wire.specs.declared.actor.ActorId.{ActorId}
use Rattle.wire.specs.declared.actor.ActorId.TheVariants.{Node, Manager}
use Rattle.wire.specs.declared.actor.ReqNo.{ReqNo}
use Rattle.wire.specs.declared.body.AppendBody.{AppendBody}
use Rattle.wire.specs.declared.body.AppendBody.TheVariants as appends
use Rattle.wire.specs.declared.body.CheckBody.{CheckBody}
use Rattle.wire.specs.declared.body.CheckBody.TheVariants as checks
use Rattle.wire.specs.declared.body.SealBody.{SealBody}
use Rattle.wire.specs.declared.body.SealBody.TheVariants as seals
use Rattle.wire.specs.declared.body.ReadBody.{ReadBody}
use Rattle.wire.specs.declared.body.ReadBody.TheVariants as reads
use Rattle.wire.specs.declared.body.StreamBody.{StreamBody}
use Rattle.wire.specs.declared.body.StreamBody.TheVariants as streams
use Rattle.wire.specs.declared.body.Body.{Body}
use Rattle.wire.specs.declared.body.Body.TheVariants as bodies
use Rattle.wire.specs.declared.packet.Packet.{Packet}
use Rattle.wire.specs.declared.refusal.Refusal.{Refusal}
use Rattle.wire.specs.declared.refusal.Refusal.TheVariants as refusals
use Rattle.wire.specs.declared.streams.StreamExtent.{StreamExtent}
use Rattle.wire.specs.declared.streams.StreamList.{StreamList}
use Rattle.wire.specs.declared.streams.StreamName.{StreamName}
use Rattle.client.specs.declared.fault.ClientFault.{ClientFault}
use Rattle.client.specs.declared.fault.ClientFault.TheVariants as faults
use Rattle.client.specs.declared.job.Job.{Job}
use Rattle.client.specs.declared.job.Job.TheVariants.{Idle, Sent, Closing, Growing, Checking, Shutting, Reading}
use Rattle.client.specs.declared.job.News.{News}
use Rattle.client.specs.declared.job.News.TheVariants as news
use Rattle.client.specs.declared.job.Place.{Place}
use Rattle.client.specs.declared.job.Place.TheVariants.{First, Second, Third}
use Rattle.client.specs.Requests.{is_same, from_server}

-- What a server knows of one of its streams under a generation: its extents, with the length of each that it knows to be
-- sealed, the length at which the last of them was checked, where its next extent is to be, the group that is to be
-- appended, and what it waits for.
pub record ClientState : Type 0 where
  pub server : ℕ
  pub stream : StreamName
  pub generation : ℕ
  pub base : ℕ
  pub extents : List StreamExtent
  pub checked : Option ℕ
  pub pick : Nodes
  pub group : List (List ℕ)
  pub job : Job

-- of a stream as it was told, with nothing out
abbrev pub new_client : ℕ → StreamName → ℕ → StreamList → Nodes → ClientState
new_client server stream generation list pick =
    record {
      server = server;
      stream = stream;
      generation = generation;
      base = list.base;
      extents = list.extents;
      checked = None;
      pick = pick;
      group = [];
      job = Idle;
    }

-- what a step leaves, sends and brings
pub record Outcome : Type 0 where
  pub after : ClientState
  pub packet : Option Packet
  pub news : Option News

-- nothing changes and nothing is sent
abbrev pub waits : ClientState → Outcome
waits c = record { after = c; packet = None; news = None }

-- a request is out
abbrev pub asks : ClientState → Job → ActorId → Body → Outcome
asks c job to body = record { after = record c { job = job }; packet = Some (from_server c.server to body); news = None }

-- nothing is waited for any more
abbrev pub ends : ClientState → News → Outcome
ends c told = record { after = record c { job = Idle; group = [] }; packet = None; news = Some told }

abbrev pub last_extent : List StreamExtent → Option StreamExtent
last_extent xs = slice_get xs (length xs - 1)

-- with the length of the last extent
abbrev pub sealed_last_if : List StreamExtent → ℕ → Option StreamExtent → List StreamExtent
sealed_last_if xs sealed None = xs
sealed_last_if xs sealed (Some x) = slice_set xs (length xs - 1) (record x { length = Some sealed })

abbrev pub sealed_last : List StreamExtent → ℕ → List StreamExtent
sealed_last xs sealed = sealed_last_if xs sealed (last_extent xs)

abbrev pub is_idle : Job → Bool
is_idle Idle = true
is_idle (Sent e q) = false
is_idle (Closing e q) = false
is_idle (Growing last q) = false
is_idle (Checking e q) = false
is_idle (Shutting e q) = false
is_idle (Reading e places upto sealed place q) = false

-- whether an answer of this number is waited for
abbrev pub awaits : Job → ReqNo → Bool
awaits Idle w = false
awaits (Sent e q) w = is_same q w
awaits (Closing e q) w = is_same q w
awaits (Growing last q) w = is_same q w
awaits (Checking e q) w = is_same q w
awaits (Shutting e q) w = is_same q w
awaits (Reading e places upto sealed place q) w = is_same q w

-- ---- requests

-- the group goes to the primary of the last extent
abbrev pub sends_append : ClientState → ℕ → Nodes → ReqNo → Outcome
sends_append c e places q =
    asks c (Sent e q) (Node places.primary) (bodies.Append (appends.Append e c.generation c.group q))

-- the extent is sealed, and then the group goes to another
abbrev pub closes : ClientState → ℕ → ReqNo → Outcome
closes c e q = asks c (Closing e q) Manager (bodies.Seal (seals.SealExtent e q))

-- the group waits for another extent
abbrev pub grows : ClientState → Option ℕ → ReqNo → Outcome
grows c last q =
    asks c (Growing last q) Manager (bodies.Stream (streams.Extend c.stream c.generation last c.pick q))

abbrev pub checks_last : ClientState → ℕ → Nodes → ReqNo → Outcome
checks_last c e places q = asks c (Checking e q) (Node places.primary) (bodies.Check (checks.Check e c.generation q))

-- an extent that could not be checked is sealed
abbrev pub shuts : ClientState → ℕ → ReqNo → Outcome
shuts c e q = asks c (Shutting e q) Manager (bodies.Seal (seals.SealExtent e q))

abbrev pub node_at : Nodes → Place → ℕ
node_at places First = places.primary
node_at places Second = places.second
node_at places Third = places.third

abbrev pub next_place : Place → Place
next_place First = Second
next_place Second = Third
next_place Third = First

abbrev pub reads_groups : ClientState → ℕ → Nodes → ℕ → Bool → Place → ReqNo → Outcome
reads_groups c e places upto sealed place q =
    asks c (Reading e places upto sealed place q) (Node (node_at places place)) (bodies.Read (reads.ReadGroups e upto sealed q))

-- ---- an append

abbrev pub append_behind : ClientState → ReqNo → StreamExtent → Option ℕ → Outcome
append_behind c q x None = sends_append c x.extent x.places q
append_behind c q x (Some sealed) = grows c (Some x.extent) q

-- to the last extent where it is open, else to one after it
abbrev pub append_at : ClientState → ReqNo → Option StreamExtent → Outcome
append_at c q None = grows c None q
append_at c q (Some x) = append_behind c q x x.length

abbrev pub append_rule : ClientState → ReqNo → List (List ℕ) → Result Outcome ClientFault
append_rule c q blocks =
    if is_idle c.job then Ok (append_at (record c { group = blocks }) q (last_extent c.extents)) else Err faults.Busy

-- ---- the check of the last extent's length

abbrev pub check_behind : ClientState → ReqNo → StreamExtent → Option ℕ → Result Outcome ClientFault
check_behind c q x None = Ok (checks_last c x.extent x.places q)
check_behind c q x (Some sealed) = Err faults.NotOpen

abbrev pub check_at : ClientState → ReqNo → Option StreamExtent → Result Outcome ClientFault
check_at c q None = Err faults.NoSuchExtent
check_at c q (Some x) = check_behind c q x x.length

abbrev pub check_rule : ClientState → ReqNo → Result Outcome ClientFault
check_rule c q = if is_idle c.job then check_at c q (last_extent c.extents) else Err faults.Busy

-- ---- reading

abbrev pub read_whole : ClientState → ReqNo → StreamExtent → Option ℕ → Result Outcome ClientFault
read_whole c q x None = Err faults.NotSealed
read_whole c q x (Some sealed) = Ok (reads_groups c x.extent x.places sealed true First q)

abbrev pub read_at : ClientState → ReqNo → Option StreamExtent → Result Outcome ClientFault
read_at c q None = Err faults.NoSuchExtent
read_at c q (Some x) = read_whole c q x x.length

-- an extent that is sealed is read whole, at its first place
abbrev pub read_sealed_rule : ClientState → ReqNo → ℕ → Result Outcome ClientFault
read_sealed_rule c q position = if is_idle c.job then read_at c q (slice_get c.extents position) else Err faults.Busy

abbrev pub read_open : ClientState → ReqNo → StreamExtent → Option ℕ → Option ℕ → Result Outcome ClientFault
read_open c q x None (Some checked) = Ok (reads_groups c x.extent x.places checked false First q)
read_open c q x None None = Err faults.NotSealed
read_open c q x (Some sealed) checked = Err faults.NotOpen

abbrev pub read_checked_at : ClientState → ReqNo → Option StreamExtent → Result Outcome ClientFault
read_checked_at c q None = Err faults.NoSuchExtent
read_checked_at c q (Some x) = read_open c q x x.length c.checked

-- an open extent is read as far as it was checked, at its primary
abbrev pub read_checked_rule : ClientState → ReqNo → Result Outcome ClientFault
read_checked_rule c q = if is_idle c.job then read_checked_at c q (last_extent c.extents) else Err faults.Busy

-- ---- answers

-- the extent is sealed at this length, and another is asked for
abbrev pub grows_behind : ClientState → ReqNo → ℕ → ℕ → Outcome
grows_behind c q e sealed = grows (record c { extents = sealed_last c.extents sealed }) (Some e) q

abbrev pub ends_sealed : ClientState → ℕ → ℕ → Outcome
ends_sealed c e sealed = ends (record c { extents = sealed_last c.extents sealed }) (news.Sealed e sealed)

-- the group goes to the new extent, of which nothing was checked
abbrev pub appends_again : ClientState → ReqNo → ℕ → Nodes → Outcome
appends_again c q e places =
    sends_append (record c { extents = c.extents ++ record { extent = e; places = places; length = None } ∷ []; checked = None }) e places q

abbrev pub ends_checked : ClientState → ℕ → ℕ → Outcome
ends_checked c e found = ends (record c { checked = Some found }) (news.Checked e found)

-- another refusal than of an old generation leaves it waiting
abbrev pub fenced_if : ClientState → Refusal → Outcome
fenced_if c refusals.Stale = ends c news.Fenced
fenced_if c refusal = waits c

-- an extent that takes no more appends is sealed
abbrev pub append_refused : ClientState → ReqNo → ℕ → Refusal → Outcome
append_refused c q e refusals.NotOpen = closes c e q
append_refused c q e refusals.ExtentFull = closes c e q
append_refused c q e refusal = fenced_if c refusal

abbrev pub refused_job : ClientState → ReqNo → Refusal → Job → Outcome
refused_job c q refusal (Sent e w) = append_refused c q e refusal
refused_job c q refusal job = fenced_if c refusal

abbrev pub appended_job : ClientState → ℕ → Job → Outcome
appended_job c offset (Sent e w) = ends c (news.Appended e offset)
appended_job c offset job = waits c

abbrev pub checked_job : ClientState → ReqNo → Option ℕ → Job → Outcome
checked_job c q (Some found) (Checking e w) = ends_checked c e found
checked_job c q None (Checking e w) = shuts c e q
checked_job c q found job = waits c

abbrev pub sealed_job : ClientState → ReqNo → ℕ → Job → Outcome
sealed_job c q sealed (Closing e w) = grows_behind c q e sealed
sealed_job c q sealed (Shutting e w) = ends_sealed c e sealed
sealed_job c q sealed job = waits c

abbrev pub groups_job : ClientState → Job → Outcome
groups_job c (Reading e places upto sealed place w) = ends c (news.Content e upto)
groups_job c job = waits c

abbrev pub extended_job : ClientState → ReqNo → ℕ → Nodes → Job → Outcome
extended_job c q e places (Growing last w) = appends_again c q e places
extended_job c q e places job = waits c

-- an answer counts only where its number is waited for
abbrev pub if_awaited : ClientState → ReqNo → Outcome → Outcome
if_awaited c w taken = if awaits c.job w then taken else waits c

abbrev pub append_reply : ClientState → ReqNo → AppendBody → Outcome
append_reply c q (appends.Appended w e offset) = if_awaited c w (appended_job c offset c.job)
append_reply c q (appends.Refused w refusal) = if_awaited c w (refused_job c q refusal c.job)
append_reply c q body = waits c

abbrev pub check_reply : ClientState → ReqNo → CheckBody → Outcome
check_reply c q (checks.Checked w found) = if_awaited c w (checked_job c q found c.job)
check_reply c q body = waits c

abbrev pub seal_reply : ClientState → ReqNo → SealBody → Outcome
seal_reply c q (seals.SealedIs w e sealed) = if_awaited c w (sealed_job c q sealed c.job)
seal_reply c q body = waits c

abbrev pub read_reply : ClientState → ReadBody → Outcome
read_reply c (reads.Groups w e groups) = if_awaited c w (groups_job c c.job)
read_reply c body = waits c

abbrev pub stream_reply : ClientState → ReqNo → StreamBody → Outcome
stream_reply c q (streams.Extended w e places) = if_awaited c w (extended_job c q e places c.job)
stream_reply c q body = waits c

-- what is done with an answer; q is the number of the request that may be sent next
abbrev pub reply_rule : ClientState → ReqNo → Body → Outcome
reply_rule c q (bodies.Append body) = append_reply c q body
reply_rule c q (bodies.Check body) = check_reply c q body
reply_rule c q (bodies.Seal body) = seal_reply c q body
reply_rule c q (bodies.Read body) = read_reply c body
reply_rule c q (bodies.Stream body) = stream_reply c q body
reply_rule c q body = waits c

-- whether an answer may take memory: only one that tells of a new extent
abbrev pub stream_needs_memory : StreamBody → Bool
stream_needs_memory (streams.Extended w e places) = true
stream_needs_memory body = false

abbrev pub needs_memory : Body → Bool
needs_memory (bodies.Stream body) = stream_needs_memory body
needs_memory body = false

-- the extent whose groups are asked for, and how far
abbrev pub reading_of : Job → Option (ℕ × ℕ)
reading_of (Reading e places upto sealed place w) = Some (e, upto)
reading_of job = None

abbrev pub groups_content : Job → ReadBody → Option (ℕ × ℕ)
groups_content job (reads.Groups w e groups) = if awaits job w then reading_of job else None
groups_content job body = None

-- the extent whose groups an answer brings, and how far
abbrev pub content_of : Job → Body → Option (ℕ × ℕ)
content_of job (bodies.Read body) = groups_content job body
content_of job body = None

-- the same of what was told
abbrev pub content_told : Option News → Option (ℕ × ℕ)
content_told (Some (news.Content e upto)) = Some (e, upto)
content_told told = None

-- ---- giving up

-- An append or a check that is not answered seals its extent. A read of a sealed extent goes to its next place. All
-- else is asked again, with its number, an extent with the new pick.
abbrev pub give_up_job : ClientState → ReqNo → Job → Outcome
give_up_job c q Idle = waits c
give_up_job c q (Sent e w) = closes c e q
give_up_job c q (Closing e w) = closes c e w
give_up_job c q (Growing last w) = grows c last w
give_up_job c q (Checking e w) = shuts c e q
give_up_job c q (Shutting e w) = shuts c e w
give_up_job c q (Reading e places upto true place w) = reads_groups c e places upto true (next_place place) w
give_up_job c q (Reading e places upto false place w) = shuts c e q

abbrev pub give_up_rule : ClientState → ReqNo → Nodes → Outcome
give_up_rule c q pick = give_up_job (record c { pick = pick }) q c.job
