-- What a range that may be split sends: requests of its clients' jobs, and those of its split.
use Rattle.std.proofs.Common.{◌≡◌, ◌⊎◌, ℕ, zero, suc, ◌≤◌, ◌-◌, true, false, List, [], ◌∷◌, ◌++◌, length, Option, Some, None, Contains, refl, sym, ap, ◌∙◌, subst, inl, inr, arith}
use Rattle.wire.specs.declared.actor.ReqNo.{ReqNo}
use Rattle.wire.specs.declared.body.Body.{Body}
use Rattle.wire.specs.declared.body.Body.TheVariants as bodies
use Rattle.wire.specs.declared.body.MapBody.TheVariants as maps
use Rattle.wire.specs.declared.body.SealBody.TheVariants as seals
use Rattle.wire.specs.declared.body.StreamBody.TheVariants as streams
use Rattle.wire.specs.declared.packet.Packet.{Packet}
use Rattle.wire.specs.declared.streams.StreamKind.{StreamKind}
use Rattle.wire.specs.declared.streams.StreamKind.TheVariants as kinds
use Rattle.client.specs.Client.{awaits}
use Rattle.client.specs.Requests.{is_same}
use Rattle.model_streams.specs.StreamSystem.{StreamSystem}
use Rattle.model_partition.specs.declared.split_job.Side.{Side as SplitSide}
use Rattle.model_partition.specs.declared.split_job.SplitJob.{SplitJob}
use Rattle.model_partition.specs.declared.split_job.SplitPhase.{SplitPhase}
use Rattle.model_partition.specs.declared.split_job.SplitPhase.TheVariants as phases
use Rattle.model_partition.specs.Range.{RangeState}
use Rattle.model_partition.specs.Splits.{SplitStep, extents_of, open_last, all_streams, side_range}
use Rattle.laws_stream_machine.specs.Refinement.{Purpose, IsThere, purpose_of, asked_number}
use Rattle.laws_ranges.specs.Serves.{Side, known, LastIs, IsAside, IsOfRows, IsForRows, metadata_of}
use Rattle.laws_ranges.specs.SplitJobs.{waits_seal, waits_call, PhaseStands, FollowsBoth, IsForSplit, IsKnownBy, AskedOfSplit}
use Rattle.laws_ranges.proofs.MachineSteps.{request_same}
use Rattle.laws_ranges.proofs.RowData.{got}
use Rattle.laws_ranges.proofs.SplitSeals.{open_last_is}
use Rattle.laws_ranges.proofs.SplitsKept.{both_row_data}
use Rattle.laws_clusters.proofs.ClientJobs.{AsksBy}
use Rattle.laws_clusters.proofs.Elsewhere.{RowsRequest}
use Rattle.laws_clusters.proofs.Invariant.{IsSplitAsk}
use Rattle.laws_clusters.proofs.RangeStreams.{IsOfSplit}
use Rattle.laws_clusters.proofs.RequestNumbers.{used_number}
use Rattle.laws_clusters.proofs.RowPurposes.{own_asks}
use Rattle.laws_clusters.proofs.RowRules.{AsksIn, AllIn}

-- a request of a split, which waits for the answer: the last extent of one of the range's streams is to be sealed, streams are to be
-- built, or the map is asked
abbrev pub SplitSends : RangeState → SplitJob → Body → Type 0
SplitSends r job (bodies.Seal (seals.SealExtent e q)) = (kind : StreamKind) × (job.phase ≡ phases.Seal kind q) × (open_last (extents_of r kind) ≡ Some e)
SplitSends r job (bodies.Stream (streams.MultiModify list q)) = (job.phase ≡ phases.Build q) × (list ≡ all_streams job)
SplitSends r job (bodies.Map (maps.BeginSplit range generation key q)) = (job.phase ≡ phases.Begin q) × (range ≡ job.range) × (generation ≡ job.generation) × (key ≡ job.key)
SplitSends r job (bodies.Map (maps.CompleteSplit range generation q)) = (job.phase ≡ phases.Complete q) × (range ≡ job.range) × (generation ≡ job.generation)
SplitSends r job body = ⊥

abbrev pub IsRequestOf : RangeState → Option SplitJob → Body → Type 0
IsRequestOf r None body = AsksIn r body
IsRequestOf r (Some job) body = AsksIn r body ⊎ SplitSends r job body

abbrev pub AllSent : RangeState → Option SplitJob → List Packet → Type 0
AllSent r job [] = Unit {0}
AllSent r job (p ∷ ps) = IsRequestOf r job p.body × AllSent r job ps

pub sent_in : (r : RangeState) (job : Option SplitJob) (ps : List Packet) → AllSent r job ps → (p : Packet) → Contains ps p → IsRequestOf r job p.body
sent_in r job [] all p (at, less, is) = absurd (omega (arith, less))
sent_in r job (x ∷ ps) all p (zero, less, is) = subst (λ (z : Packet). IsRequestOf r job z.body) is all.0
sent_in r job (x ∷ ps) all p (suc at, less, is) = sent_in r job ps all.1 p (at, omega (arith, less), is)

by_client : (r : RangeState) (job : Option SplitJob) (body : Body) → AsksIn r body → IsRequestOf r job body
by_client r None body asks = asks
by_client r (Some job) body asks = inl asks

-- what the range's clients send
pub clients_send : (r : RangeState) (job : Option SplitJob) (ps : List Packet) → AllIn r ps → AllSent r job ps
clients_send r job [] all = tt
clients_send r job (p ∷ ps) all = (by_client r job p.body all.0, clients_send r job ps all.1)

-- ---- clients build no streams, and ask the map nothing

pub in_used : (r : RangeState) (body : Body) (q : ReqNo) → AsksIn r body → used_number body ≡ Some q → asked_number body ≡ Some q
in_used r (bodies.Stream (streams.MultiModify (m ∷ list) v)) q (inl a) number = absurd a
in_used r (bodies.Stream (streams.MultiModify (m ∷ list) v)) q (inr (inl a)) number = absurd a
in_used r (bodies.Stream (streams.MultiModify (m ∷ list) v)) q (inr (inr a)) number = absurd a
in_used r (bodies.Stream (streams.MultiModify [] v)) q a number = number
in_used r (bodies.Stream body) q a number = number
in_used r (bodies.Map body) q (inl a) number = absurd a
in_used r (bodies.Map body) q (inr (inl a)) number = absurd a
in_used r (bodies.Map body) q (inr (inr a)) number = absurd a
in_used r body q a number = number

pub in_asks : (r : RangeState) (job : SplitJob) (body : Body) → AsksIn r body → IsSplitAsk job body
in_asks r job (bodies.Stream (streams.MultiModify list v)) (inl a) = absurd a
in_asks r job (bodies.Stream (streams.MultiModify list v)) (inr (inl a)) = absurd a
in_asks r job (bodies.Stream (streams.MultiModify list v)) (inr (inr a)) = absurd a
in_asks r job (bodies.Stream body) a = tt
in_asks r job (bodies.Map body) (inl a) = absurd a
in_asks r job (bodies.Map body) (inr (inl a)) = absurd a
in_asks r job (bodies.Map body) (inr (inr a)) = absurd a
in_asks r job body a = tt

pub sends_asks : (r : RangeState) (job : SplitJob) (body : Body) → SplitSends r job body → IsSplitAsk job body
sends_asks r job (bodies.Stream (streams.MultiModify list v)) s = s.1
sends_asks r job (bodies.Stream body) s = tt
sends_asks r job (bodies.Map (maps.BeginSplit range generation key v)) s = (s.1, s.2, s.3)
sends_asks r job (bodies.Map (maps.CompleteSplit range generation v)) s = (s.1, s.2)
sends_asks r job (bodies.Map body) s = tt
sends_asks r job body s = tt

-- ---- who waits for the answer

-- a request of a split is about an extent, or a call that it waits for
pub sends_waits : (r : RangeState) (job : SplitJob) (q : ReqNo) (body : Body) → SplitSends r job body → used_number body ≡ Some q → (asked_number body ≡ Some q) ⊎ (waits_call job.phase q ≡ true)
sends_waits r job q (bodies.Seal (seals.SealExtent e v)) s number = inl number
sends_waits r job q (bodies.Seal body) s number = absurd s
sends_waits r job q (bodies.Stream (streams.MultiModify (x ∷ list) v)) s number = let same : v ≡ q = cc in inr (ap (λ z. waits_call z q) (s.0 ∙ ap phases.Build same) ∙ request_same q)
sends_waits r job q (bodies.Stream (streams.MultiModify [] v)) s number = absurd (let z : None ≡ Some q = number in cc)
sends_waits r job q (bodies.Stream body) s number = absurd s
sends_waits r job q (bodies.Map (maps.BeginSplit one g key v)) s number = let same : v ≡ q = cc in inr (ap (λ z. waits_call z q) (s.0 ∙ ap phases.Begin same) ∙ request_same q)
sends_waits r job q (bodies.Map (maps.CompleteSplit one g v)) s number = let same : v ≡ q = cc in inr (ap (λ z. waits_call z q) (s.0 ∙ ap phases.Complete same) ∙ request_same q)
sends_waits r job q (bodies.Map body) s number = absurd s
sends_waits r job q body s number = absurd s

-- a request about an extent is no call
pub no_request : (body : Body) (q : ReqNo) (next : RangeState) (later : SplitJob) → SplitSends next later body → asked_number body ≡ Some q → waits_call later.phase q ≡ true → ⊥
no_request (bodies.Seal (seals.SealExtent e v)) q next later sends number call =
    let same : v ≡ q = cc in absurd (let z : false ≡ true = ap (λ u. waits_call u q) (sym sends.1) ∙ call in cc)
no_request (bodies.Seal body) q next later sends number call = sends
no_request (bodies.Stream (streams.MultiModify list v)) q next later sends number call = let z : None ≡ Some q = number in cc
no_request (bodies.Stream body) q next later sends number call = sends
no_request (bodies.Map body) q next later sends number call = let z : None ≡ Some q = number in cc
no_request body q next later sends number call = sends

-- a split waits for one answer
pub one_answer : (phase : SplitPhase) (q : ReqNo) → waits_seal phase q ≡ true → waits_call phase q ≡ true → ⊥
one_answer (phases.Begin v) q seal call = cc
one_answer phases.Checkpoint q seal call = cc
one_answer phases.Queue q seal call = cc
one_answer phases.Record q seal call = cc
one_answer (phases.Seal kind v) q seal call = cc
one_answer (phases.Build v) q seal call = cc
one_answer (phases.Keys side c) q seal call = cc
one_answer (phases.Complete v) q seal call = cc

-- the step of a range leaves packets that both of its streams see
pub known_by : (generation : ℕ → ℕ) (range i : ℕ) (w : StreamSystem) (after : Option RangeState) (job : Option SplitJob) (n k : Side) (ps : List Packet) → AskedOfSplit generation range w i after job n k ps → (p : Packet) → Contains ps p →
    IsKnownBy generation range w i after job n.sent k.sent p.body
known_by generation range i w after job n k [] asked p (at, less, is) = absurd (omega (arith, less))
known_by generation range i w after job n k (x ∷ ps) asked p (zero, less, is) = subst (λ (z : Packet). IsKnownBy generation range w i after job n.sent k.sent z.body) is asked.0.2
known_by generation range i w after job n k (x ∷ ps) asked p (suc at, less, is) = known_by generation range i w after job n k ps asked.1 p (at, omega (arith, less), is)

module _ (generation : ℕ → ℕ) (range : ℕ) (w : StreamSystem) (i : ℕ) (m l : Side) (r : RangeState) where
  module _ (job : SplitJob) (f : FollowsBoth generation range w i (Some job) r m l) (q : ReqNo) (aside : IsAside m.sent l.sent q) where
    purpose_not : (sent : _) (v : ReqNo) (p : Purpose) → v ≡ q → purpose_of sent q ≡ None → purpose_of sent v ≡ Some p → ⊥
    purpose_not sent v p same none some = let z : None ≡ Some p = sym none ∙ ap (λ u. purpose_of sent u) (sym same) ∙ some in cc

    seal_of_rows : (kind : StreamKind) (v : ReqNo) → job.phase ≡ phases.Seal kind v → v ≡ q → kind ≡ kinds.RowData
    seal_of_rows kinds.Metadata v at same = let s = subst (PhaseStands generation range w i m l r job) at f.stands in absurd (purpose_not m.sent v _ same aside.0 s.1.for)
    seal_of_rows kinds.Log v at same = let s = subst (PhaseStands generation range w i m l r job) at f.stands in absurd (purpose_not l.sent v _ same aside.1 s.1.0.for)
    seal_of_rows kinds.RowData v at same = refl
    seal_of_rows kinds.BlobData v at same = absurd (subst (PhaseStands generation range w i m l r job) at f.stands).1

    sealing : (kind : StreamKind) (v : ReqNo) → job.phase ≡ phases.Seal kind v → v ≡ q → job.phase ≡ phases.Seal kinds.RowData q
    sealing kind v at same = at ∙ ap (λ k. phases.Seal k v) (seal_of_rows kind v at same) ∙ ap (phases.Seal kinds.RowData) same

    -- the split waits for it
    pub seal_waits : (body : Body) → SplitSends r job body → asked_number body ≡ Some q → waits_seal job.phase q ≡ true
    seal_waits (bodies.Seal (seals.SealExtent e v)) s number = let same : v ≡ q = cc in ap (λ z. waits_seal z q) (sealing s.0 v s.1 same) ∙ request_same q
    seal_waits (bodies.Seal body) s number = absurd s
    seal_waits (bodies.Stream (streams.MultiModify list v)) s number = absurd (let z : None ≡ Some q = number in cc)
    seal_waits (bodies.Stream body) s number = absurd s
    seal_waits (bodies.Map body) s number = absurd (let z : None ≡ Some q = number in cc)
    seal_waits body s number = absurd s

    -- the extent is of row data
    of_rows : (kind : StreamKind) (e : ℕ) → kind ≡ kinds.RowData → open_last (extents_of r kind) ≡ Some e → IsOfRows w range e
    of_rows kind e is unsealed =
        let last : LastIs r.rows e (known r.rows - 1) = open_last_is r.rows e (subst (λ k. open_last (extents_of r k) ≡ Some e) is unsealed) in
        (both_row_data generation range w i m l r (Some job) f).listed _ (got r.rows.extents (length r.rows.extents - 1) (record { extent = e; places = last.places; length = None }) last.last)

    pub sends_rows : (body : Body) → SplitSends r job body → asked_number body ≡ Some q → RowsRequest w range body
    sends_rows (bodies.Seal (seals.SealExtent e v)) s number = let same : v ≡ q = cc in of_rows s.0 e (seal_of_rows s.0 v s.1 same) s.2
    sends_rows (bodies.Seal body) s number = absurd s
    sends_rows (bodies.Stream (streams.MultiModify list v)) s number = tt
    sends_rows (bodies.Stream body) s number = absurd s
    sends_rows (bodies.Map body) s number = tt
    sends_rows body s number = absurd s

  -- a request of a client, under a number of neither stream, is about row data
  module _ (split : Option SplitJob) (f : FollowsBoth generation range w i split r m l) (q : ReqNo) (aside : IsAside m.sent l.sent q) where
    rows_wait : (e : ℕ) (v : ReqNo) → v ≡ q → AsksBy r.rows (bodies.Seal (seals.SealExtent e v)) → awaits r.rows.job q ≡ true
    rows_wait e v same (inl is) = ap (λ j. awaits j q) is ∙ ap (λ u. is_same v u) (sym same) ∙ request_same v
    rows_wait e v same (inr is) = ap (λ j. awaits j q) is ∙ ap (λ u. is_same v u) (sym same) ∙ request_same v

    is_seal : (o : Option SplitJob) (b : Body) → IsForSplit w range o q b → (e : ℕ) × (v : ReqNo) × (b ≡ bodies.Seal (seals.SealExtent e v))
    is_seal None b for = absurd for
    is_seal (Some job) (bodies.Seal (seals.SealExtent e v)) for = (e, v, refl)
    is_seal (Some job) (bodies.Seal body) for = absurd for
    is_seal (Some job) body for = absurd for

    pub asks_rows : (body : Body) → AsksIn r body → asked_number body ≡ Some q → IsForRows range (Some r) q body ⊎ IsForSplit w range split q body → IsForRows range (Some r) q body
    asks_rows body asks number (inl rows) = rows
    asks_rows body asks number (inr for) =
        let (e, v, is) = is_seal split body for in
        let asks_so : AsksIn r (bodies.Seal (seals.SealExtent e v)) = subst (AsksIn r) is asks in
        let number_so : asked_number (bodies.Seal (seals.SealExtent e v)) ≡ Some q = ap asked_number (sym is) ∙ number in
        let same : v ≡ q = cc in
        subst (IsForRows range (Some r) q) (sym is) (rows_wait e v same (own_asks generation range w i m l r split f q aside (bodies.Seal (seals.SealExtent e v)) asks_so number_so), tt)

pub split_joined : (generation : ℕ → ℕ) (range i : ℕ) (w : StreamSystem) (after : Option RangeState) (job : Option SplitJob) (n k : Side) (xs ys : List Packet) → AskedOfSplit generation range w i after job n k xs →
    AskedOfSplit generation range w i after job n k ys → AskedOfSplit generation range w i after job n k (xs ++ ys)
split_joined generation range i w after job n k [] ys a b = b
split_joined generation range i w after job n k (x ∷ xs) ys a b = (a.0, split_joined generation range i w after job n k xs ys a.1 b)

-- ---- what is asked to be built is of a split

abbrev pub AsksOfSplit : StreamSystem → Body → Type 0
AsksOfSplit w (bodies.Stream (streams.MultiModify list q)) = IsOfSplit w list
AsksOfSplit w body = Unit {0}

abbrev pub AllAskOfSplit : StreamSystem → List Packet → Type 0
AllAskOfSplit w [] = Unit {0}
AllAskOfSplit w (p ∷ ps) = AsksOfSplit w p.body × AllAskOfSplit w ps

client_of_split : (w : StreamSystem) (r : RangeState) (body : Body) → AsksIn r body → AsksOfSplit w body
client_of_split w r (bodies.Stream (streams.MultiModify list q)) (inl a) = absurd a
client_of_split w r (bodies.Stream (streams.MultiModify list q)) (inr (inl a)) = absurd a
client_of_split w r (bodies.Stream (streams.MultiModify list q)) (inr (inr a)) = absurd a
client_of_split w r (bodies.Stream body) asks = tt
client_of_split w r body asks = tt

pub clients_of_split : (w : StreamSystem) (r : RangeState) (ps : List Packet) → AllIn r ps → AllAskOfSplit w ps
clients_of_split w r [] all = tt
clients_of_split w r (p ∷ ps) all = (client_of_split w r p.body all.0, clients_of_split w r ps all.1)

-- the two ranges of a split that waits for its streams are counted
abbrev pub BuildsCounted : Option SplitJob → Type 0
BuildsCounted job = (later : SplitJob) → job ≡ Some later → (q : ReqNo) → later.phase ≡ phases.Build q → (1 ≤ later.low) × (1 ≤ later.high)

-- the metadata of neither of the two ranges of a split is there
abbrev pub HasNoSides : StreamSystem → SplitJob → Type 0
HasNoSides w job = (side : SplitSide) → IsThere w (metadata_of (side_range job side)) → ⊥

-- What a step of a split leaves that waits for its streams: the two are counted, and their metadata is not there, unless the split waited for
-- them before, and it and its range are as they were.
pub record BuildsNew (w : StreamSystem) (r : RangeState) (job : SplitJob) (t : SplitStep) : Type 0 where
  pub counted : BuildsCounted t.job
  pub unbuilt : (later : SplitJob) → t.job ≡ Some later → (q : ReqNo) → later.phase ≡ phases.Build q → ((t.range ≡ Some r) × (job ≡ later)) ⊎ HasNoSides w later

-- where a split waits for its streams these are of one
abbrev pub BuildIsOfSplit : StreamSystem → Option SplitJob → Type 0
BuildIsOfSplit w job = (later : SplitJob) → job ≡ Some later → (q : ReqNo) → later.phase ≡ phases.Build q → IsOfSplit w (all_streams later)

pub sent_of_split : (w : StreamSystem) (r : RangeState) (job : Option SplitJob) → BuildIsOfSplit w job → (ps : List Packet) → AllSent r job ps → AllAskOfSplit w ps
sent_of_split w r job build [] all = tt
sent_of_split w r job build (p ∷ ps) all = (by_job job build p.body all.0, sent_of_split w r job build ps all.1)
  where
    by_split : (later : SplitJob) → ((q : ReqNo) → later.phase ≡ phases.Build q → IsOfSplit w (all_streams later)) → (body : Body) → SplitSends r later body → AsksOfSplit w body
    by_split later of (bodies.Stream (streams.MultiModify list q)) sends = subst (IsOfSplit w) (sym sends.1) (of q sends.0)
    by_split later of (bodies.Stream body) sends = tt
    by_split later of body sends = tt

    by_job : (o : Option SplitJob) → BuildIsOfSplit w o → (body : Body) → IsRequestOf r o body → AsksOfSplit w body
    by_job None of body asks = client_of_split w r body asks
    by_job (Some later) of body (inl asks) = client_of_split w r body asks
    by_job (Some later) of body (inr sends) = by_split later (of later refl) body sends

pub one_of_split : (w : StreamSystem) (ps : List Packet) → AllAskOfSplit w ps → (p : Packet) → Contains ps p → AsksOfSplit w p.body
one_of_split w [] all p (at, less, is) = absurd (omega (arith, less))
one_of_split w (x ∷ ps) all p (zero, less, is) = subst (λ (z : Packet). AsksOfSplit w z.body) is all.0
one_of_split w (x ∷ ps) all p (suc at, less, is) = one_of_split w ps all.1 p (at, omega (arith, less), is)
