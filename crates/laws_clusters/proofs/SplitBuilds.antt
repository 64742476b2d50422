-- A step of a split asks for the streams of its own two ranges alone, under a number that it had or that is new; and it says their keys, and
-- asks the map to put them in the place of the range, only where it was answered that these streams are there.
use Rattle.std.proofs.Common.{◌≡◌, ◌⊎◌, ◌≤◌, ◌<◌, ℕ, suc, true, false, ◌&&◌, List, [], ◌∷◌, Option, Some, None, is_some, Contains, refl, sym, subst, inl, inr, arith}
use Rattle.std.specs.Prelude.{option_to_list}
use Rattle.std.proofs.lemmas.Option.{same_Some}
use Rattle.wire.specs.declared.actor.ReqNo.{ReqNo}
use Rattle.wire.specs.declared.actor.ReqNo.TheVariants as requests
use Rattle.wire.specs.declared.body.AppendBody.{AppendBody}
use Rattle.wire.specs.declared.body.AppendBody.TheVariants as appends
use Rattle.wire.specs.declared.body.SealBody.{SealBody}
use Rattle.wire.specs.declared.body.SealBody.TheVariants as seals
use Rattle.wire.specs.declared.body.StreamBody.{StreamBody}
use Rattle.wire.specs.declared.body.StreamBody.TheVariants as streams
use Rattle.wire.specs.declared.body.MapBody.{MapBody}
use Rattle.wire.specs.declared.body.MapBody.TheVariants as maps
use Rattle.wire.specs.declared.body.Body.{Body}
use Rattle.wire.specs.declared.body.Body.TheVariants as bodies
use Rattle.wire.specs.declared.packet.Packet.{Packet}
use Rattle.wire.specs.declared.refusal.Refusal.{Refusal}
use Rattle.wire.specs.declared.refusal.Refusal.TheVariants as refusals
use Rattle.wire.specs.declared.streams.Modify.{Modify}
use Rattle.wire.specs.declared.streams.StreamKind.{StreamKind}
use Rattle.client.specs.declared.job.News.{News}
use Rattle.client.specs.declared.job.News.TheVariants as news
use Rattle.client.specs.Client.{ClientState, Outcome, append_rule, reply_rule, give_up_rule}
use Rattle.client.specs.Requests.{is_same}
use Rattle.metadata.specs.Fold.{taken}
use Rattle.metadata.specs.Record.{spelling}
use Rattle.model_streams.proofs.Tests.{if_elim}
use Rattle.model_partition.specs.declared.server_context.ServerContext.{ServerContext}
use Rattle.model_partition.specs.declared.split_job.Side.{Side}
use Rattle.model_partition.specs.declared.split_job.Side.TheVariants.{Low, High}
use Rattle.model_partition.specs.declared.split_job.SplitJob.{SplitJob}
use Rattle.model_partition.specs.declared.split_job.SplitPhase.{SplitPhase}
use Rattle.model_partition.specs.declared.split_job.SplitPhase.TheVariants as phases
use Rattle.model_partition.specs.Range.{RangeState, request, given, picking, refused_users}
use Rattle.model_partition.specs.Checkpoints.{begins}
use Rattle.model_partition.specs.Answering.{answered_number}
use Rattle.model_partition.specs.Splits.{SplitStep, stays, ends, goes, with_phase, begun, is_drained, split_item, split_record, may_record, may_checkpoint, has_record_numbers, pauses_and_records, drains, extents_of, open_last, all_kinds, kinds_after, first_open, all_streams, seals_or_builds, with_last_sealed, is_extent, last_sealed, side_range, side_metadata, keys_record, may_say_keys, appends_keys, says_keys, keys_stand, keys_told, keys_reply, phase_awaits, refused, refused_by, map_told, seal_told, stream_told, told, split_reply_in, split_reply, has_number, has_stood, follows_in, follows, seal_again, gives_up_in, gives_up}
use Rattle.laws_map.specs.Naming.{Each, IsUnder, AsksStreams, IsFor, AreFor, Knowledge, IsSplit, PhaseNames, JobNames}
use Rattle.laws_map.proofs.ClientNames.{Keeps, listed, given_keeps, append_rule_keeps, reply_keeps, give_up_keeps}
use Rattle.laws_map.proofs.RangeNames.{no_less, one_up, refused_for, begins_good}

-- some packet among these asks under this number for these streams
pub record HasBuild (packets : List Packet) (q : ReqNo) (list : List Modify) : Type 0 where
  pub packet : Packet
  pub sent : Contains packets packet
  pub is : packet.body ≡ bodies.Stream (streams.MultiModify list q)

-- a number of this server's session from one count on and below another
abbrev pub IsNew : (server session from to : ℕ) → ReqNo → Type 0
IsNew server session from to q = (k : ℕ) × (q ≡ requests.Server server session k) × (from ≤ k) × (k < to)

-- a split that builds its streams has asked for them, and from then on they are there
module _ (Asked : ReqNo → List Modify → Type 0) (Fit : ℕ → ℕ → List ℕ → ℕ → ℕ → Type 0) where
  abbrev pub PhaseFits : SplitJob → SplitPhase → Type 0
  PhaseFits job (phases.Build q) = Asked q (all_streams job)
  PhaseFits job (phases.Keys side c) = Fit job.range job.generation job.key job.low job.high
  PhaseFits job (phases.Complete q) = Fit job.range job.generation job.key job.low job.high
  PhaseFits job phase = Unit {0}

  abbrev pub JobFits : SplitJob → Type 0
  JobFits job = PhaseFits job job.phase

  abbrev pub JobFitsIf : Option SplitJob → Type 0
  JobFitsIf None = Unit {0}
  JobFitsIf (Some job) = JobFits job

module _ (Before After : ReqNo → List Modify → Type 0) (up : (q : ReqNo) (list : List Modify) → Before q list → After q list) (Fit : ℕ → ℕ → List ℕ → ℕ → ℕ → Type 0) (K : Knowledge) where
  -- where an answer says that the streams are built, they are there
  abbrev pub SaysBuilt : ReqNo → Type 0
  SaysBuilt w = (q : ReqNo) → is_same q w ≡ true → (job : SplitJob) → Before q (all_streams job) → IsSplit K job → Fit job.range job.generation job.key job.low job.high

  abbrev pub StreamAnswers : StreamBody → Type 0
  StreamAnswers (streams.Modified w) = SaysBuilt w
  StreamAnswers body = Unit {0}

  abbrev pub AppendAnswers : AppendBody → Type 0
  AppendAnswers (appends.Refused w refusals.NameTaken) = SaysBuilt w
  AppendAnswers body = Unit {0}

  abbrev pub Answers : Body → Type 0
  Answers (bodies.Stream body) = StreamAnswers body
  Answers (bodies.Append body) = AppendAnswers body
  Answers body = Unit {0}

  up_phase : (job : SplitJob) (phase : SplitPhase) → PhaseFits Before Fit job phase → PhaseFits After Fit job phase
  up_phase job (phases.Build q) f = up q (all_streams job) f
  up_phase job (phases.Keys side c) f = f
  up_phase job (phases.Complete q) f = f
  up_phase job (phases.Begin q) f = tt
  up_phase job phases.Checkpoint f = tt
  up_phase job phases.Queue f = tt
  up_phase job phases.Record f = tt
  up_phase job (phases.Seal kind q) f = tt

  pub up_job : (job : SplitJob) → JobFits Before Fit job → JobFits After Fit job
  up_job job f = up_phase job job.phase f

  -- ---- what a step of a split sends

  -- of the map it asks for no more than to complete a split whose streams are there
  abbrev pub MapSends : MapBody → Type 0
  MapSends (maps.CompleteSplit range generation q) = (key : List ℕ) × (low : ℕ) × (high : ℕ) × Fit range generation key low high
  MapSends body = Unit {0}

  module _ (d : ServerContext) (job : SplitJob) (count : ℕ) where
    abbrev pub StreamSends : StreamBody → Type 0
    StreamSends (streams.MultiModify list q) = (list ≡ all_streams job) × ((job.phase ≡ phases.Build q) ⊎ IsNew d.server d.session d.count count q)
    StreamSends (streams.CreateStream s fence q) = ⊥
    StreamSends body = Unit {0}

    abbrev pub BodySends : Body → Type 0
    BodySends (bodies.Stream body) = StreamSends body
    BodySends (bodies.Map body) = MapSends body
    BodySends body = Unit {0}

    abbrev pub AllSend : List Packet → Type 0
    AllSend packets = Each (λ (p : Packet). BodySends p.body) packets

    own_stream : (range generation : ℕ) (body : StreamBody) → AsksStreams range generation body → StreamSends body
    own_stream range generation (streams.OpenStreams n h q) a = tt
    own_stream range generation (streams.Confirm n h q) a = tt
    own_stream range generation (streams.Extend s h last pick q) a = tt
    own_stream range generation (streams.Trim n h before to_blob q) a = tt
    own_stream range generation body a = absurd a

    own_body : (range generation : ℕ) (body : Body) → IsFor range generation body → BodySends body
    own_body range generation (bodies.Stream body) a = own_stream range generation body a
    own_body range generation (bodies.Map body) a = absurd a
    own_body range generation body a = tt

    own_sends : (range generation : ℕ) (packets : List Packet) → AreFor range generation packets → AllSend packets
    own_sends range generation [] a = tt
    own_sends range generation (p ∷ packets) a = (own_body range generation p.body a.0, own_sends range generation packets a.1)

  -- what a step of a split leaves and sends
  pub record Fits (d : ServerContext) (job : SplitJob) (t : SplitStep) : Type 0 where
    pub count : d.count ≤ t.count
    pub later : ((q : ReqNo) (list : List Modify) → HasBuild t.packets q list → After q list) → JobFitsIf After Fit t.job
    pub sends : AllSend d job t.count t.packets

  module _ (n g : ℕ) (d : ServerContext) where
    stays_fits : (r : RangeState) (job other : SplitJob) → JobFits After Fit other → Fits d job (stays d r other)
    stays_fits r job other f = record { count = no_less d.count; later = λ new. f; sends = tt }

    ends_fits : (r : RangeState) (job : SplitJob) → Fits d job (ends d r)
    ends_fits r job = record { count = one_up d.count; later = λ new. tt; sends = own_sends d job _ n g (refused_users d r) (refused_for n g d r) }

    goes_fits : (r : RangeState) (job other : SplitJob) (packets : List Packet) → (((q : ReqNo) (list : List Modify) → HasBuild packets q list → After q list) → JobFits After Fit other) → AllSend d job (suc d.count) packets → Fits d job (goes d r other packets)
    goes_fits r job other packets later sends = record { count = one_up d.count; later = later; sends = sends }

    -- ---- the beginning

    begun_fits : (r : RangeState) (job : SplitJob) (low high : ℕ) → IsUnder n g r → JobFits After Fit job → Fits d job (begun d r job low high)
    begun_fits r job low high u f =
        if_elim (Fits d job) (may_checkpoint r && has_record_numbers r) _ _
        (λ t. (let b = begins_good n g d r false u in record { count = b.2; later = λ new. tt; sends = own_sends d job _ n g (begins d r false).packets b.1 }))
        (λ e. stays_fits r job job f)

    -- ---- the pause

    records_fits : (r : RangeState) (job : SplitJob) → IsUnder n g r → Fits d job (pauses_and_records d r job)
    records_fits r job u =
        let c : ClientState = picking d r.metadata in
        let o = append_rule c (request d) (spelling (split_record job) ∷ []) in
        let k = given_keeps n g c o u.2 (append_rule_keeps n g c u.2 (request d) (spelling (split_record job) ∷ [])) in
        goes_fits _ job _ _ (λ new. tt) (own_sends d job _ n g (option_to_list (given c o).packet) (listed n g (given c o).packet k.1))

    drains_fits : (r : RangeState) (job : SplitJob) → IsUnder n g r → Fits d job (drains d r job)
    drains_fits r job u = if_elim (Fits d job) (is_drained r && may_record r job) _ _ (λ t. records_fits r job u) (λ f. stays_fits _ job _ tt)

    -- ---- seals, and the streams of the two ranges

    seals_or_builds_fits : (r : RangeState) (job : SplitJob) (x : Option (StreamKind × ℕ)) → Fits d job (seals_or_builds d r job x)
    seals_or_builds_fits r job None =
        goes_fits r job _ _ (λ new. new (request d) (all_streams job) (record { packet = _; sent = (0, omega arith, refl); is = refl }))
        ((refl, inr (d.count, refl, omega arith, omega arith)), tt)
    seals_or_builds_fits r job (Some x) = goes_fits r job _ _ (λ new. tt) (tt, tt)

    last_sealed_fits : (r : RangeState) (job : SplitJob) (kind : StreamKind) (e length : ℕ) → JobFits After Fit job → Fits d job (last_sealed d r job kind e length)
    last_sealed_fits r job kind e length f =
        if_elim (Fits d job) (is_extent e (open_last (extents_of r kind))) _ _
        (λ t. seals_or_builds_fits (with_last_sealed r kind length) job (first_open (with_last_sealed r kind length) (kinds_after kind))) (λ z. stays_fits r job job f)

    -- ---- the keys of the two ranges, and the end

    keys_go : (r : RangeState) (job : SplitJob) (side : Side) (o : Outcome) → Fit job.range job.generation job.key job.low job.high → Keeps (side_range job side) job.generation o →
        Fits d job (goes d r (with_phase job (phases.Keys side o.after)) (option_to_list o.packet))
    keys_go r job side o f k = goes_fits r job _ _ (λ new. f) (own_sends d job _ (side_range job side) job.generation (option_to_list o.packet) (listed (side_range job side) job.generation o.packet k.1))

    appends_keys_fits : (r : RangeState) (job : SplitJob) (side : Side) → Fit job.range job.generation job.key job.low job.high → Fits d job (appends_keys d r job side)
    appends_keys_fits r job side f =
        let c : ClientState = side_metadata d r job side in
        let o = append_rule c (request d) (spelling (keys_record r job side) ∷ []) in
        keys_go r job side (given c o) f
        (given_keeps (side_range job side) job.generation c o (refl, refl) (append_rule_keeps (side_range job side) job.generation c (refl, refl) (request d) (spelling (keys_record r job side) ∷ [])))

    says_keys_fits : (r : RangeState) (job : SplitJob) (side : Side) → JobFits After Fit job → Fit job.range job.generation job.key job.low job.high → Fits d job (says_keys d r job side)
    says_keys_fits r job side j f = if_elim (Fits d job) (may_say_keys r job) _ _ (λ t. appends_keys_fits r job side f) (λ z. stays_fits r job job j)

    keys_stand_fits : (r : RangeState) (job : SplitJob) (side : Side) → JobFits After Fit job → Fit job.range job.generation job.key job.low job.high → Fits d job (keys_stand d r job side)
    keys_stand_fits r job Low j f = says_keys_fits r job High j f
    keys_stand_fits r job High j f = goes_fits r job _ _ (λ new. f) ((job.key, job.low, job.high, f), tt)

    keys_told_fits : (r : RangeState) (job : SplitJob) (side : Side) (o : Outcome) (told : Option News) → JobFits After Fit job → Fit job.range job.generation job.key job.low job.high → Keeps (side_range job side) job.generation o →
        Fits d job (keys_told d r job side o told)
    keys_told_fits r job side o (Some news.Fenced) j f k = ends_fits r job
    keys_told_fits r job side o (Some (news.Appended e offset)) j f k = keys_stand_fits r job side j f
    keys_told_fits r job side o told j f k = keys_go r job side o f k

    keys_reply_fits : (r : RangeState) (job : SplitJob) (side : Side) (c : ClientState) (body : Body) → JobFits After Fit job → Fit job.range job.generation job.key job.low job.high → PhaseNames K job (phases.Keys side c) →
        Fits d job (keys_reply d r job side c body)
    keys_reply_fits r job side c body j f p =
        let o : Outcome = reply_rule (picking d c) (request d) body in
        keys_told_fits r job side o o.news j f (reply_keeps (side_range job side) job.generation (picking d c) p.1 (request d) body)

    -- ---- answers

    -- the streams of a split that was told that they are there
    built_fit : (job : SplitJob) (q w v : ReqNo) → Some w ≡ Some v → is_same q v ≡ true → SaysBuilt w → Before q (all_streams job) → IsSplit K job → Fit job.range job.generation job.key job.low job.high
    built_fit job q w v is waits says asked split = says q (subst (λ x. is_same q x ≡ true) (sym (same_Some w v is)) waits) job asked split

    refused_fits : (r : RangeState) (job : SplitJob) (phase : SplitPhase) (w v : ReqNo) (refusal : Refusal) → Some w ≡ Some v → phase_awaits phase v ≡ true → AppendAnswers (appends.Refused w refusal) → JobFits Before Fit job →
        PhaseFits Before Fit job phase → PhaseNames K job phase → Fits d job (refused d r job phase refusal)
    refused_fits r job phase w v refusals.Stale is waits a j f p = ends_fits r job
    refused_fits r job (phases.Build q) w v refusals.NameTaken is waits a j f p = says_keys_fits r job Low (up_job job j) (built_fit job q w v is waits a f p)
    refused_fits r job (phases.Complete q) w v refusals.GenerationChanged is waits a j f p = ends_fits r job
    refused_fits r job phase w v refusal is waits a j f p = stays_fits r job job (up_job job j)

    refused_by_fits : (r : RangeState) (job : SplitJob) (body : AppendBody) (v : ReqNo) → answered_number (bodies.Append body) ≡ Some v → phase_awaits job.phase v ≡ true → AppendAnswers body → JobFits Before Fit job → JobNames K n job →
        Fits d job (refused_by d r job body)
    refused_by_fits r job (appends.Refused w refusal) v is waits a f j = refused_fits r job job.phase w v refusal is waits a f f j.phase
    refused_by_fits r job body v is waits a f j = stays_fits r job job (up_job job f)

    map_told_fits : (r : RangeState) (job : SplitJob) (phase : SplitPhase) (body : MapBody) → IsUnder n g r → JobFits Before Fit job → Fits d job (map_told d r job phase body)
    map_told_fits r job (phases.Begin q) (maps.SplitBegun w low high) u f = begun_fits r job low high u (up_job job f)
    map_told_fits r job (phases.Complete q) (maps.SplitDone w) u f = ends_fits r job
    map_told_fits r job phase body u f = stays_fits r job job (up_job job f)

    seal_told_fits : (r : RangeState) (job : SplitJob) (phase : SplitPhase) (body : SealBody) → JobFits Before Fit job → Fits d job (seal_told d r job phase body)
    seal_told_fits r job (phases.Seal kind q) (seals.SealedIs w e length) f = last_sealed_fits r job kind e length (up_job job f)
    seal_told_fits r job phase body f = stays_fits r job job (up_job job f)

    stream_told_fits : (r : RangeState) (job : SplitJob) (phase : SplitPhase) (body : StreamBody) (v : ReqNo) → answered_number (bodies.Stream body) ≡ Some v → phase_awaits phase v ≡ true → StreamAnswers body → JobFits Before Fit job →
        PhaseFits Before Fit job phase → PhaseNames K job phase → Fits d job (stream_told d r job phase body)
    stream_told_fits r job (phases.Build q) (streams.Modified w) v is waits a j f p = says_keys_fits r job Low (up_job job j) (built_fit job q w v is waits a f p)
    stream_told_fits r job phase body v is waits a j f p = stays_fits r job job (up_job job j)

    told_fits : (r : RangeState) (job : SplitJob) (body : Body) (v : ReqNo) → answered_number body ≡ Some v → phase_awaits job.phase v ≡ true → Answers body → IsUnder n g r → JobFits Before Fit job → JobNames K n job → Fits d job (told d r job body)
    told_fits r job (bodies.Append body) v is waits a u f j = refused_by_fits r job body v is waits a f j
    told_fits r job (bodies.Map body) v is waits a u f j = map_told_fits r job job.phase body u f
    told_fits r job (bodies.Seal body) v is waits a u f j = seal_told_fits r job job.phase body f
    told_fits r job (bodies.Stream body) v is waits a u f j = stream_told_fits r job job.phase body v is waits a f f j.phase
    told_fits r job body v is waits a u f j = stays_fits r job job (up_job job f)

    reply_in_fits : (r : RangeState) (job : SplitJob) (phase : SplitPhase) (body : Body) → Fits d job (told d r job body) → JobFits Before Fit job → PhaseFits Before Fit job phase → PhaseNames K job phase → Fits d job (split_reply_in d r job phase body)
    reply_in_fits r job (phases.Keys side c) body t j f p = keys_reply_fits r job side c body (up_job job j) f p
    reply_in_fits r job phase body t j f p = t

    -- an answer under a number that the split waits for
    pub split_reply_fits : (r : RangeState) (job : SplitJob) (body : Body) (v : ReqNo) → answered_number body ≡ Some v → phase_awaits job.phase v ≡ true → Answers body → IsUnder n g r → JobFits Before Fit job → JobNames K n job →
        Fits d job (split_reply d r job body)
    split_reply_fits r job body v is waits a u f j = reply_in_fits r job job.phase body (told_fits r job body v is waits a u f j) f f j.phase

    -- ---- what follows a step of the range, and giving up

    follows_in_fits : (r : RangeState) (job : SplitJob) (phase : SplitPhase) → IsUnder n g r → JobFits Before Fit job → Fits d job (follows_in d r job phase)
    follows_in_fits r job phases.Checkpoint u f = if_elim (Fits d job) (is_some r.control) _ _ (λ t. stays_fits r job job (up_job job f)) (λ z. drains_fits r job u)
    follows_in_fits r job phases.Queue u f = drains_fits r job u
    follows_in_fits r job phases.Record u f =
        if_elim (Fits d job) (has_stood r) _ _
        (λ t. seals_or_builds_fits (record r { said = taken r.said (split_item job) }) job (first_open (record r { said = taken r.said (split_item job) }) all_kinds)) (λ z. stays_fits r job job (up_job job f))
    follows_in_fits r job phase u f = stays_fits r job job (up_job job f)

    pub follows_fits : (r : RangeState) (job : SplitJob) → IsUnder n g r → JobFits Before Fit job → Fits d job (follows d r job)
    follows_fits r job u f = if_elim (Fits d job) (has_number d) _ _ (λ t. follows_in_fits r job job.phase u f) (λ z. stays_fits r job job (up_job job f))

    seal_again_sends : (job : SplitJob) (e : Option ℕ) (q : ReqNo) → AllSend d job (suc d.count) (seal_again d e q)
    seal_again_sends job None q = tt
    seal_again_sends job (Some e) q = (tt, tt)

    gives_up_in_fits : (r : RangeState) (job : SplitJob) (phase : SplitPhase) → job.phase ≡ phase → JobFits Before Fit job → PhaseFits Before Fit job phase → PhaseNames K job phase → Fits d job (gives_up_in d r job phase)
    gives_up_in_fits r job (phases.Begin q) is j f p = goes_fits r job job _ (λ new. up_job job j) (tt, tt)
    gives_up_in_fits r job (phases.Seal kind q) is j f p = goes_fits r job job _ (λ new. up_job job j) (seal_again_sends job (open_last (extents_of r kind)) q)
    gives_up_in_fits r job (phases.Build q) is j f p = goes_fits r job job _ (λ new. up_job job j) ((refl, inl is), tt)
    gives_up_in_fits r job (phases.Keys side c) is j f p =
        let o : Outcome = give_up_rule (picking d c) (request d) d.pick in
        keys_go r job side o f (give_up_keeps (side_range job side) job.generation (picking d c) p.1 (request d) d.pick)
    gives_up_in_fits r job (phases.Complete q) is j f p = goes_fits r job job _ (λ new. up_job job j) ((job.key, job.low, job.high, f), tt)
    gives_up_in_fits r job phase is j f p = stays_fits r job job (up_job job j)

    pub split_gives_up_fits : (r : RangeState) (job : SplitJob) → JobFits Before Fit job → JobNames K n job → Fits d job (gives_up d r job)
    split_gives_up_fits r job f j = if_elim (Fits d job) (has_number d) _ _ (λ t. gives_up_in_fits r job job.phase refl f f j.phase) (λ z. stays_fits r job job (up_job job f))
