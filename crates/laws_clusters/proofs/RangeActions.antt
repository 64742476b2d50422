-- What the actions of a range leave of the stories of all streams, and of what servers see of extents.
use Rattle.std.proofs.Common.{◌≡◌, ◌⊎◌, ⊎_elim, ℕ, length, subst, List, [], ◌∷◌, ◌++◌, map, nat_lt, ◌^◌, Bool, true, false, ◌==◌, ◌&&◌, Option, Some, None, is_some, Contains, refl, ap, ◌∙◌, inl, inr, eqb-true, if◌then◌else◌}
use Rattle.wire.specs.declared.actor.ReqNo.{ReqNo}
use Rattle.wire.specs.declared.body.Body.{Body}
use Rattle.wire.specs.declared.body.Body.TheVariants as bodies
use Rattle.wire.specs.declared.body.ReadBody.{ReadBody}
use Rattle.wire.specs.declared.body.ReadBody.TheVariants as answers
use Rattle.wire.specs.declared.body.StreamBody.{StreamBody}
use Rattle.wire.specs.declared.body.StreamBody.TheVariants as streams
use Rattle.wire.specs.declared.note.Note.{Note}
use Rattle.wire.specs.declared.note.Note.TheVariants.{Acked, Seen}
use Rattle.wire.specs.declared.streams.StreamKind.{StreamKind}
use Rattle.wire.specs.declared.streams.StreamKind.TheVariants as kinds
use Rattle.wire.specs.declared.streams.StreamName.{StreamName}
use Rattle.replica.specs.Groups.{Group, joined, text}
use Rattle.memtable.specs.declared.cell.Place.{Place}
use Rattle.client.specs.declared.job.News.{News}
use Rattle.client.specs.declared.job.News.TheVariants as news
use Rattle.client.specs.declared.load.LoadPhase.{LoadPhase}
use Rattle.client.specs.declared.load.LoadPhase.TheVariants as phases
use Rattle.client.specs.Client.{ClientState, awaits, reply_rule}
use Rattle.client.specs.Load.{load_awaits}
use Rattle.streams.specs.Streams.{kind_number}
use Rattle.streams.proofs.Names.{same_kind}
use Rattle.model_streams.proofs.Tests.{if_elim}
use Rattle.model_partition.specs.declared.server_context.ServerContext.{ServerContext}
use Rattle.model_partition.specs.declared.stage.Stage.{Stage}
use Rattle.model_partition.specs.declared.stage.Stage.TheVariants as stages
use Rattle.model_partition.specs.Answering.{groups_of, is_taken}
use Rattle.model_partition.specs.CheckpointStates.{CheckpointState}
use Rattle.model_partition.specs.declared.checkpoint_job.CheckpointPhase.{CheckpointPhase}
use Rattle.model_partition.specs.declared.checkpoint_job.CheckpointPhase.TheVariants as checkpoints
use Rattle.model_partition.specs.Checkpoints.{may_record, index_place, rows_may_stand, trim_awaits}
use Rattle.model_partition.specs.PlaceReads.{reads_under}
use Rattle.model_partition.specs.Range.{OutGroup, RangeState, RangeOutcome, request, picking, if_there, is_serving}
use Rattle.model_histories.specs.ServerRun.{RangeHistory, ServerRun, place_number, placed_reads, placed_behind, with_event, is_kind, is_stream, stream_named, bytes_read, after_action, after_actions}
use Rattle.model_histories.specs.Story.{Story, StreamEvent, Made, Showed, event_at}
use Rattle.model_histories.specs.StreamActions.{ExtentRead, StreamAction, Reads, Forms, Stands, Shows, Finds, Stores, group_of, formed, transact_actions, last_position, stood, serving_actions, loading_actions, confirmed_actions, load_actions, record_group, record_stood_in, record_stood, record_actions, metadata_actions, index_stood_in, index_stood, rows_told_actions, rows_actions, bytes_told_actions, bytes_actions, answer_actions, PlacedBytes}
use Rattle.laws_loads.specs.RangeView.{RangeView, view_after, view_after_all}
use Rattle.laws_log_reads.specs.Reads.{SaysOneRegion, IsShown, AllShown}
use Rattle.laws_log_reads.proofs.CheckpointRecords.{group_says}
use Rattle.laws_clusters.proofs.Copies.{AllSay}
use Rattle.laws_clusters.proofs.ObservedBytes.{IsObserved, AsContent, AsSeen, AsAcked, AreObserved, observed_both}
use Rattle.laws_clusters.proofs.Invariant.{IsOther}
use Rattle.model_streams.specs.StreamSystem.{StreamSystem}

-- ---- streams of other names

pub same_stream : (a b : StreamName) → is_stream a b ≡ true → a ≡ b
same_stream a b e = go (a.range == b.range) (is_kind a.kind b.kind) refl refl e
  where
    go : (t u : Bool) → (a.range == b.range) ≡ t → (kind_number a.kind == kind_number b.kind) ≡ u → (t && u) ≡ true → a ≡ b
    go true true one two e =
        let ranges : a.range ≡ b.range = eqb-true a.range b.range one in
        let same : a.kind ≡ b.kind = same_kind a.kind b.kind (eqb-true (kind_number a.kind) (kind_number b.kind) two) in
        (λ j. record { range = ranges j; kind = same j })
    go true false one two e = absurd cc
    go false u one two e = absurd cc

none_there : (stories : StreamName → Story Group) (a b : StreamName) (event : StreamEvent Group) → (a ≡ b → ⊥) → (if is_stream a b then event ∷ stories a else stories a) ≡ stories a
none_there stories a b event other = go (is_stream a b) refl
  where
    go : (t : Bool) → is_stream a b ≡ t → (if t then event ∷ stories a else stories a) ≡ stories a
    go true e = absurd (other (same_stream a b e))
    go false e = refl

-- ---- what is formed, and what stands, is of the metadata or of the log

abbrev pub IsEither : StreamKind → Type 0
IsEither kind = (kind ≡ kinds.Metadata) ⊎ (kind ≡ kinds.Log)

-- what is formed of the metadata leaves one region
abbrev pub IsFormed : StreamKind → Group → Type 0
IsFormed kind group = ((kind ≡ kinds.Metadata) × SaysOneRegion group) ⊎ (kind ≡ kinds.Log)

abbrev pub IsOnEither : StreamAction → Type 0
IsOnEither (Forms kind group) = IsFormed kind group
IsOnEither (Stands kind extent at group) = IsEither kind
IsOnEither action = Unit {0}

abbrev pub AreOnEither : List StreamAction → Type 0
AreOnEither [] = Unit {0}
AreOnEither (action ∷ earlier) = IsOnEither action × AreOnEither earlier

pub on_both : (xs ys : List StreamAction) → AreOnEither xs → AreOnEither ys → AreOnEither (xs ++ ys)
on_both [] ys a b = b
on_both (x ∷ xs) ys a b = (a.0, on_both xs ys a.1 b)

formed_on : (o : Option RangeState) → AreOnEither (formed o)
formed_on None = tt
formed_on (Some r) = go r.out
  where
    go : (out : Option OutGroup) → AreOnEither (map (λ group. Forms kinds.Log (group_of group)) (if_there out))
    go None = tt
    go (Some group) = (inr refl, tt)

pub transact_on : (r : RangeState) (o : RangeOutcome) → AreOnEither (transact_actions r o)
transact_on r o = if_elim AreOnEither (is_some r.out) _ _ (λ t. tt) (λ t. formed_on o.after)

stood_on : (r : RangeState) (out : Option OutGroup) (extent offset : ℕ) (o : RangeOutcome) → AreOnEither (stood r out extent offset o)
stood_on r None extent offset o = tt
stood_on r (Some out) extent offset o = on_both (formed o.after) _ (formed_on o.after) (inr refl, tt)

serving_on : (r : RangeState) (told : Option News) (o : RangeOutcome) → AreOnEither (serving_actions r told o)
serving_on r (Some (news.Appended extent offset)) o = stood_on r r.out extent offset o
serving_on r told o = tt

loading_on : (kind : StreamKind) (c : ClientState) (stage : Stage) (groups : List Group) (told : Option News) → AreOnEither (loading_actions kind c stage groups told)
loading_on kind c (stages.Reading k position) groups (Some (news.Content extent upto)) = (tt, tt)
loading_on kind c stage groups told = tt

confirmed_on : (r : RangeState) (phase : LoadPhase) (body : StreamBody) → AreOnEither (confirmed_actions r phase body)
confirmed_on r (phases.Confirming q) (streams.Confirmed w) = (tt, tt)
confirmed_on r phase body = tt

load_on : (r : RangeState) (body : Body) → AreOnEither (load_actions r body)
load_on r (bodies.Stream body) = confirmed_on r r.load.phase body
load_on r body = tt

record_in_on : (r : RangeState) (job : CheckpointState) (phase : CheckpointPhase) (extent offset : ℕ) → AreOnEither (record_stood_in r job phase extent offset)
record_in_on r job (checkpoints.Record index) extent offset = (inl refl, tt)
record_in_on r job phase extent offset = tt

record_stood_on : (r : RangeState) (job : Option CheckpointState) (extent offset : ℕ) → AreOnEither (record_stood r job extent offset)
record_stood_on r None extent offset = tt
record_stood_on r (Some job) extent offset = record_in_on r job job.phase extent offset

record_on : (r : RangeState) (told : Option News) → AreOnEither (record_actions r told)
record_on r (Some (news.Appended extent offset)) = record_stood_on r r.control extent offset
record_on r told = tt

metadata_on : (d : ServerContext) (r : RangeState) (body : Body) → AreOnEither (metadata_actions d r body)
metadata_on d r body =
    let told : Option News = (reply_rule (picking d r.metadata) (request d) body).news in
    if_elim AreOnEither (is_serving r.stage) _ _ (λ t. record_on r told) (λ f. loading_on kinds.Metadata r.metadata r.stage (groups_of body) told)

index_in_on : (r : RangeState) (job : CheckpointState) (phase : CheckpointPhase) (extent offset : ℕ) → AreOnEither (index_stood_in r job phase extent offset)
index_in_on r job checkpoints.Index extent offset =
    if_elim AreOnEither (may_record r job) _ _ (λ t. (inl (refl, group_says r job (index_place job extent offset)), tt)) (λ f. tt)
index_in_on r job phase extent offset = tt

index_stood_on : (r : RangeState) (job : Option CheckpointState) (extent offset : ℕ) → AreOnEither (index_stood r job extent offset)
index_stood_on r None extent offset = tt
index_stood_on r (Some job) extent offset = index_in_on r job job.phase extent offset

rows_told_on : (r : RangeState) (told : Option News) → AreOnEither (rows_told_actions r told)
rows_told_on r (Some (news.Appended extent offset)) =
    on_both (if nat_lt extent (2 ^ 64) then index_stood r r.control extent offset else []) _
    (if_elim AreOnEither (nat_lt extent (2 ^ 64)) _ _ (λ t. index_stood_on r r.control extent offset) (λ f. tt)) (tt, tt)
rows_told_on r told = tt

rows_on : (d : ServerContext) (r : RangeState) (body : Body) → AreOnEither (rows_actions d r body)
rows_on d r body = if_elim AreOnEither (rows_may_stand r.control body) _ _ (λ t. rows_told_on r (reply_rule (picking d r.rows) (request d) body).news) (λ f. tt)

bytes_told_on : (body : ReadBody) → AreOnEither (bytes_told_actions body)
bytes_told_on (answers.Bytes w e offset bytes) = (tt, tt)
bytes_told_on body = tt

bytes_on : (body : Body) → AreOnEither (bytes_actions body)
bytes_on (bodies.Read body) = bytes_told_on body
bytes_on body = tt

pub answer_on : (d : ServerContext) (r : RangeState) (w : ReqNo) (body : Body) (o : RangeOutcome) → AreOnEither (answer_actions d r w body o)
answer_on d r w body o =
    if_elim AreOnEither (is_some o.after) _ _
    (λ a. if_elim AreOnEither (load_awaits r.load.phase w) _ _ (λ b. load_on r body)
    (λ b. if_elim AreOnEither (awaits r.metadata.job w) _ _ (λ e. metadata_on d r body)
    (λ e. if_elim AreOnEither (awaits r.log.job w) _ _
    (λ f. if_elim AreOnEither (is_taken r body) _ _
    (λ g. if_elim AreOnEither (is_serving r.stage) _ _ (λ h. serving_on r (reply_rule (picking d r.log) (request d) body).news o)
    (λ h. loading_on kinds.Log r.log r.stage (groups_of body) (reply_rule (picking d r.log) (request d) body).news))
    (λ g. tt))
    (λ f. if_elim AreOnEither (awaits r.rows.job w) _ _ (λ g. rows_on d r body)
    (λ g. if_elim AreOnEither (reads_under r.reading w) _ _ (λ h. bytes_on body)
    (λ h. if_elim AreOnEither (trim_awaits r.control w) _ _ (λ j. tt) (λ j. bytes_on body)))))))
    (λ a. tt)

-- such actions add nothing to the story of a stream that is not of the range
module _ (server range generation : ℕ) where
  aside_of : (name : StreamName) → IsOther range name → (kind : StreamKind) → IsEither kind → name ≡ stream_named range kind → ⊥
  aside_of name other kind (inl is) same = other.0 (same ∙ ap (stream_named range) is)
  aside_of name other kind (inr is) same = other.1 (same ∙ ap (stream_named range) is)

  action_aside : (x : ServerRun) (action : StreamAction) → IsOnEither action → (name : StreamName) → IsOther range name → (after_action server range generation x action).story name ≡ x.story name
  action_aside x (Reads kind read) on name other = refl
  action_aside x (Forms kind group) on name other = none_there x.story name (stream_named range kind) _ (aside_of name other kind (⊎_elim {C = IsEither kind} (λ one. inl one.0) (λ two. inr two) on))
  action_aside x (Stands kind extent at group) on name other = none_there x.story name (stream_named range kind) _ (aside_of name other kind on)
  action_aside x (Shows start log_end metadata_end) on name other =
      let h : RangeHistory = x.history server range in
      let metadata : StreamEvent Group = Showed generation 0 (place_number metadata_end) (placed_reads (h.reads kinds.Metadata)) in
      let log : StreamEvent Group = Showed generation (place_number start) (place_number log_end) (placed_behind (place_number start) (placed_reads (h.reads kinds.Log))) in
      none_there (with_event x.story (stream_named range kinds.Metadata) metadata) name (stream_named range kinds.Log) log other.1
      ∙ none_there x.story name (stream_named range kinds.Metadata) metadata other.0
  action_aside x (Finds found) on name other = refl
  action_aside x (Stores stored) on name other = refl

  pub actions_aside : (x : ServerRun) (actions : List StreamAction) → AreOnEither actions → (name : StreamName) → IsOther range name → (after_actions server range generation x actions).story name ≡ x.story name
  actions_aside x [] on name other = refl
  actions_aside x (action ∷ earlier) on name other = action_aside (after_actions server range generation x earlier) action on.0 name other ∙ actions_aside x earlier on.1 name other

-- ---- what is formed of the metadata

-- one more event, which forms nothing or what leaves one region
say_more : (e : StreamEvent Group) (story : Story Group) → ((g : ℕ) (group : Group) → e ≡ Made g group → SaysOneRegion group) → AllSay story → AllSay (e ∷ story)
say_more e story says all n g group at = go (n == length story) at
  where
    go : (b : Bool) → (if b then Some e else event_at story n) ≡ Some (Made g group) → SaysOneRegion group
    go true t = let same : e ≡ Made g group = cc in says g group same
    go false t = all n g group t

module _ (generation : ℕ) where
  abbrev Says : RangeView → Type 0
  Says v = AllSay (v.story kinds.Metadata)

  action_says : (v : RangeView) (action : StreamAction) → IsOnEither action → Says v → Says (view_after generation v action)
  action_says v (Reads kind read) on all = all
  action_says v (Forms kinds.Metadata group) (inl on) all = say_more (Made generation group) (v.story kinds.Metadata) (λ g other same. (let one : group ≡ other = cc in subst SaysOneRegion one on.1)) all
  action_says v (Forms kinds.Metadata group) (inr on) all = absurd cc
  action_says v (Forms kinds.Log group) on all = all
  action_says v (Forms kinds.RowData group) on all = all
  action_says v (Forms kinds.BlobData group) on all = all
  action_says v (Stands kinds.Metadata extent at group) on all = say_more _ (v.story kinds.Metadata) (λ g other same. absurd cc) all
  action_says v (Stands kinds.Log extent at group) on all = all
  action_says v (Stands kinds.RowData extent at group) on all = all
  action_says v (Stands kinds.BlobData extent at group) on all = all
  action_says v (Shows start log_end metadata_end) on all = say_more _ (v.story kinds.Metadata) (λ g other same. absurd cc) all
  action_says v (Finds found) on all = all
  action_says v (Stores stored) on all = all

  -- what is formed leaves one region
  pub actions_say : (v : RangeView) (actions : List StreamAction) → AreOnEither actions → Says v → Says (view_after_all generation v actions)
  actions_say v [] on all = all
  actions_say v (action ∷ earlier) on all = action_says (view_after_all generation v earlier) action on.0 (actions_say v earlier on.1 all)

-- ---- what servers see of extents

-- what was read of an extent was observed
pub reads_seen : (w : StreamSystem) (reads : List ExtentRead) → AllShown w reads → AreObserved w.notes (bytes_read reads)
reads_seen w [] shown = tt
reads_seen w (x ∷ older) shown = (one x shown.0, reads_seen w older shown.1)
  where
    one : (x : ExtentRead) → IsShown w.notes x.extent x.groups → IsObserved w.notes (record { extent = x.extent; offset = 0; bytes = text x.groups })
    one x (n, inl there) = AsContent n x.groups there refl refl
    one x (n, inr there) = AsSeen n there

-- what reads were shown and what appends were answered for was observed
pub record SeesBytes (notes : List Note) (shown answered : List PlacedBytes) : Type 0 where
  pub shown_there : AreObserved notes shown
  pub answered_there : AreObserved notes answered

-- bytes that come with an answer were observed
abbrev pub BytesSeen : List Note → Body → Type 0
BytesSeen notes (bodies.Read (answers.Bytes w e offset bytes)) = (n : ℕ) × Contains notes (Seen e n offset bytes)
BytesSeen notes body = Unit {0}

module _ (generation : ℕ) (notes : List Note) (v : RangeView) (old : SeesBytes notes v.shown v.answered) where
  abbrev pub Observed : List StreamAction → Type 0
  Observed actions = SeesBytes notes (view_after_all generation v actions).shown (view_after_all generation v actions).answered

  formed_seen : (o : Option RangeState) → Observed (formed o)
  formed_seen None = old
  formed_seen (Some r) = go r.out
    where
      go : (out : Option OutGroup) → Observed (map (λ group. Forms kinds.Log (group_of group)) (if_there out))
      go None = old
      go (Some group) = old

  pub transact_seen : (r : RangeState) (o : RangeOutcome) → Observed (transact_actions r o)
  transact_seen r o = if_elim Observed (is_some r.out) _ _ (λ t. old) (λ t. formed_seen o.after)

  loading_seen : (kind : StreamKind) (c : ClientState) (stage : Stage) (groups : List Group) (told : Option News) → Observed (loading_actions kind c stage groups told)
  loading_seen kind c (stages.Reading k position) groups (Some (news.Content extent upto)) = old
  loading_seen kind c stage groups told = old

  module _ (r : RangeState) where
    -- the group that is out was acknowledged where it stands
    abbrev pub OutAcked : Option News → Type 0
    OutAcked told = (extent offset : ℕ) → told ≡ Some (news.Appended extent offset) → (group : OutGroup) → r.out ≡ Some group → Contains notes (Acked extent offset (group_of group))

    stood_seen : (out : Option OutGroup) → r.out ≡ out → (extent offset : ℕ) → ((group : OutGroup) → r.out ≡ Some group → Contains notes (Acked extent offset (group_of group))) → (o : RangeOutcome) →
        Observed (stood r out extent offset o)
    stood_seen None e extent offset acked o = old
    stood_seen (Some group) e extent offset acked o = go o.after
      where
        more : SeesBytes notes v.shown (record { extent = extent; offset = offset; bytes = joined (group_of group) } ∷ v.answered)
        more = record { shown_there = old.shown_there; answered_there = (AsAcked (group_of group) (acked group e) refl, old.answered_there) }

        by : (out : Option OutGroup) → Observed (map (λ g. Forms kinds.Log (group_of g)) (if_there out) ++ Stands kinds.Log extent (last_position r.log offset) (group_of group) ∷ [])
        by None = more
        by (Some g) = more

        go : (a : Option RangeState) → Observed (formed a ++ Stands kinds.Log extent (last_position r.log offset) (group_of group) ∷ [])
        go None = more
        go (Some a) = by a.out

    serving_seen : (told : Option News) → OutAcked told → (o : RangeOutcome) → Observed (serving_actions r told o)
    serving_seen (Some (news.Appended extent offset)) acked o = stood_seen r.out refl extent offset (acked extent offset refl) o
    serving_seen told acked o = old

    -- ---- checkpoints

    -- the record of a checkpoint was acknowledged where it stands
    abbrev pub RecordAcked : Option News → Type 0
    RecordAcked told = (extent offset : ℕ) → told ≡ Some (news.Appended extent offset) → (job : CheckpointState) → r.control ≡ Some job → (index : Place) → job.phase ≡ checkpoints.Record index →
        Contains notes (Acked extent offset (record_group r job index))

    record_in_seen : (job : CheckpointState) (extent offset : ℕ) → ((index : Place) → job.phase ≡ checkpoints.Record index → Contains notes (Acked extent offset (record_group r job index))) →
        (phase : CheckpointPhase) → job.phase ≡ phase → Observed (record_stood_in r job phase extent offset)
    record_in_seen job extent offset acked (checkpoints.Record index) e =
        record { shown_there = old.shown_there; answered_there = (AsAcked (record_group r job index) (acked index e) refl, old.answered_there) }
    record_in_seen job extent offset acked phase e = old

    record_stood_seen : (extent offset : ℕ) →
        ((job : CheckpointState) → r.control ≡ Some job → (index : Place) → job.phase ≡ checkpoints.Record index → Contains notes (Acked extent offset (record_group r job index))) →
        (job : Option CheckpointState) → r.control ≡ job → Observed (record_stood r job extent offset)
    record_stood_seen extent offset acked None e = old
    record_stood_seen extent offset acked (Some job) e = record_in_seen job extent offset (acked job e) job.phase refl

    record_seen : (told : Option News) → RecordAcked told → Observed (record_actions r told)
    record_seen (Some (news.Appended extent offset)) acked = record_stood_seen extent offset (acked extent offset refl) r.control refl
    record_seen told acked = old

    metadata_seen : (d : ServerContext) (body : Body) → (is_serving r.stage ≡ true → RecordAcked (reply_rule (picking d r.metadata) (request d) body).news) → Observed (metadata_actions d r body)
    metadata_seen d body acked =
        let told : Option News = (reply_rule (picking d r.metadata) (request d) body).news in
        if_elim Observed (is_serving r.stage) _ _ (λ t. record_seen told (acked t)) (λ f. loading_seen kinds.Metadata r.metadata r.stage (groups_of body) told)

    -- a group that stands in row data was acknowledged where it stands
    abbrev pub RowsAcked : Option News → Type 0
    RowsAcked told = (extent offset : ℕ) → told ≡ Some (news.Appended extent offset) → Contains notes (Acked extent offset r.rows.group)

    rows_told_seen : (told : Option News) → RowsAcked told → Observed (rows_told_actions r told)
    rows_told_seen (Some (news.Appended extent offset)) acked =
        if_elim (λ (actions : List StreamAction). Observed (actions ++ Stores (record { extent = extent; offset = offset; bytes = joined r.rows.group }) ∷ [])) (nat_lt extent (2 ^ 64)) _ _ (λ t. by_job r.control) (λ f. more)
      where
        more : SeesBytes notes v.shown (record { extent = extent; offset = offset; bytes = joined r.rows.group } ∷ v.answered)
        more = record { shown_there = old.shown_there; answered_there = (AsAcked r.rows.group (acked extent offset refl) refl, old.answered_there) }

        by_phase : (job : CheckpointState) (phase : CheckpointPhase) → Observed (index_stood_in r job phase extent offset ++ Stores (record { extent = extent; offset = offset; bytes = joined r.rows.group }) ∷ [])
        by_phase job checkpoints.Index = if_elim (λ (actions : List StreamAction). Observed (actions ++ Stores (record { extent = extent; offset = offset; bytes = joined r.rows.group }) ∷ [])) (may_record r job) _ _ (λ t. more) (λ f. more)
        by_phase job phase = more

        by_job : (job : Option CheckpointState) → Observed (index_stood r job extent offset ++ Stores (record { extent = extent; offset = offset; bytes = joined r.rows.group }) ∷ [])
        by_job None = more
        by_job (Some job) = by_phase job job.phase
    rows_told_seen told acked = old

    rows_seen : (d : ServerContext) (body : Body) → RowsAcked (reply_rule (picking d r.rows) (request d) body).news → Observed (rows_actions d r body)
    rows_seen d body acked = if_elim Observed (rows_may_stand r.control body) _ _ (λ t. rows_told_seen (reply_rule (picking d r.rows) (request d) body).news acked) (λ f. old)

    -- ---- indexes, pages and values

    found_told_seen : (body : ReadBody) → BytesSeen notes (bodies.Read body) → Observed (bytes_told_actions body)
    found_told_seen (answers.Bytes w e offset bytes) seen = record { shown_there = (AsSeen seen.0 seen.1, old.shown_there); answered_there = old.answered_there }
    found_told_seen body seen = old

    found_seen : (body : Body) → BytesSeen notes body → Observed (bytes_actions body)
    found_seen (bodies.Read body) seen = found_told_seen body seen
    found_seen body seen = old

    -- ---- answers

    module _ (reads : (q : ReqNo) → r.load.phase ≡ phases.Confirming q → AreObserved notes (bytes_read (v.history.reads kinds.Log))) where
      confirmed_seen : (phase : LoadPhase) (body : StreamBody) → r.load.phase ≡ phase → Observed (confirmed_actions r phase body)
      confirmed_seen (phases.Confirming q) (streams.Confirmed w) e =
          record { shown_there = observed_both notes (bytes_read (v.history.reads kinds.Log)) v.shown (reads q e) old.shown_there; answered_there = old.answered_there }
      confirmed_seen phase body e = old

      load_seen : (body : Body) → Observed (load_actions r body)
      load_seen (bodies.Stream body) = confirmed_seen r.load.phase body refl
      load_seen body = old

      pub answer_seen : (d : ServerContext) (w : ReqNo) (body : Body) (o : RangeOutcome) → (is_serving r.stage ≡ true → OutAcked (reply_rule (picking d r.log) (request d) body).news) →
          (is_serving r.stage ≡ true → RecordAcked (reply_rule (picking d r.metadata) (request d) body).news) → RowsAcked (reply_rule (picking d r.rows) (request d) body).news → BytesSeen notes body →
          Observed (answer_actions d r w body o)
      answer_seen d w body o acked recorded stored found =
          if_elim Observed (is_some o.after) _ _
          (λ a. if_elim Observed (load_awaits r.load.phase w) _ _ (λ b. load_seen body)
          (λ b. if_elim Observed (awaits r.metadata.job w) _ _ (λ e. metadata_seen d body recorded)
          (λ e. if_elim Observed (awaits r.log.job w) _ _
          (λ f. if_elim Observed (is_taken r body) _ _
          (λ g. if_elim Observed (is_serving r.stage) _ _ (λ h. serving_seen (reply_rule (picking d r.log) (request d) body).news (acked h) o)
          (λ h. loading_seen kinds.Log r.log r.stage (groups_of body) (reply_rule (picking d r.log) (request d) body).news))
          (λ g. old))
          (λ f. if_elim Observed (awaits r.rows.job w) _ _ (λ g. rows_seen d body stored)
          (λ g. if_elim Observed (reads_under r.reading w) _ _ (λ h. found_seen body found)
          (λ h. if_elim Observed (trim_awaits r.control w) _ _ (λ j. old) (λ j. found_seen body found)))))))
          (λ a. old)
