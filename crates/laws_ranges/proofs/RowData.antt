-- The client of row data, which no machine follows: whatever it does, it asks of extents of that stream alone, under a number that is
-- none of the other streams'.
use Rattle.std.proofs.Common.{◌≡◌, ◌⊎◌, ⊎_elim, ℕ, zero, suc, ◌-◌, ◌≤◌, Bool, true, false, List, [], ◌∷◌, ◌++◌, length, Option, Some, None, Contains, slice_get, slice_set, inl, inr, refl, sym, ap, subst, arith, if◌then◌else◌}
use Rattle.std.proofs.lemmas.List.Elements.{Contains-push_cases}
use Rattle.block_types.specs.declared.record.Nodes.{Nodes}
use Rattle.wire.specs.declared.actor.ReqNo.{ReqNo}
use Rattle.wire.specs.declared.actor.ReqNo.TheVariants as requests
use Rattle.wire.specs.declared.body.AppendBody.TheVariants as appends
use Rattle.wire.specs.declared.body.SealBody.TheVariants as seals
use Rattle.wire.specs.declared.body.StreamBody.TheVariants as streams
use Rattle.wire.specs.declared.body.Body.{Body}
use Rattle.wire.specs.declared.body.Body.TheVariants as bodies
use Rattle.wire.specs.declared.packet.Packet.{Packet}
use Rattle.wire.specs.declared.refusal.Refusal.{Refusal}
use Rattle.wire.specs.declared.refusal.Refusal.TheVariants as refusals
use Rattle.wire.specs.declared.streams.StreamExtent.{StreamExtent}
use Rattle.replica.specs.Groups.{Group}
use Rattle.client.specs.declared.job.Job.{Job}
use Rattle.client.specs.declared.job.Job.TheVariants as jobs
use Rattle.client.specs.declared.job.News.{News}
use Rattle.client.specs.declared.job.News.TheVariants as news
use Rattle.client.specs.Requests.{is_same}
use Rattle.client.specs.Client.{ClientState, Outcome, awaits, is_idle, last_extent, sealed_last, sealed_last_if, waits, ends, closes, grows, sends_append, append_refused, grows_behind, appends_again, append_at, append_behind, append_rule, reply_rule, give_up_job}
use Rattle.model_streams.proofs.Tests.{if_elim}
use Rattle.model_streams.specs.StreamSystem.{StreamSystem}
use Rattle.model_partition.specs.declared.server_context.ServerContext.{ServerContext}
use Rattle.model_partition.specs.Range.{given}
use Rattle.laws_stream_machine.specs.Refinement.{Sent, Purpose, purpose_of}
use Rattle.laws_ranges.specs.Serves.{IsOfRows, IsAside, RowsJob, RowsStand, rows_of, Adds, sent_with}
use Rattle.laws_ranges.proofs.ClientReplies.{ByJob, reply_takes}
use Rattle.laws_ranges.proofs.MachineSteps.{request_same}
use Rattle.laws_stream_machine.proofs.ServerRequests.{same_request}

-- ---- lists of extents

pub got : {A : Type 0} (xs : List A) (k : ℕ) (x : A) → slice_get xs k ≡ Some x → Contains xs x
got {A} [] k x e = absurd cc
got {A} (y ∷ ys) zero x e = let s : y ≡ x = cc in (0, omega arith, s)
got {A} (y ∷ ys) (suc k) x e = let m = got ys k x e in (suc m.0, omega (arith, m.1), m.2)

-- what stands in a list after a place is set
pub set_holds : {A : Type 0} (xs : List A) (k : ℕ) (y z : A) → Contains (slice_set xs k y) z → (y ≡ z) ⊎ Contains xs z
set_holds {A} [] k y z c = inr c
set_holds {A} (x ∷ xs) zero y z (zero, lt, e) = inl e
set_holds {A} (x ∷ xs) zero y z (suc j, lt, e) = inr (suc j, omega (arith, lt), e)
set_holds {A} (x ∷ xs) (suc k) y z (zero, lt, e) = inr (0, omega arith, e)
set_holds {A} (x ∷ xs) (suc k) y z (suc j, lt, e) =
    ⊎_elim {C = (y ≡ z) ⊎ Contains (x ∷ xs) z} (λ s. inl s) (λ m. inr (suc m.0, omega (arith, m.1), m.2)) (set_holds xs k y z (j, omega (arith, lt), e))

-- each extent whose last one is sealed is one of the list before
pub sealed_holds : (P : ℕ → Type 0) (xs : List StreamExtent) (l : ℕ) → ((x : StreamExtent) → Contains xs x → P x.extent) → (x : StreamExtent) → Contains (sealed_last xs l) x → P x.extent
sealed_holds P xs l all = go (last_extent xs) refl
  where
    go : (o : Option StreamExtent) → last_extent xs ≡ o → (x : StreamExtent) → Contains (sealed_last_if xs l o) x → P x.extent
    go None e x c = all x c
    go (Some z) e x c =
        ⊎_elim {C = P x.extent} (λ s. subst P (ap (λ (v : StreamExtent). v.extent) s) (all z (got xs (length xs - 1) z e))) (λ m. all x m)
        (set_holds xs (length xs - 1) (record z { length = Some l }) x c)

-- ---- numbers

-- the number of no request of the other streams stays so, unless it is a new one
pub aside_on : (d : ServerContext) (sent more : List Sent) (q : ReqNo) → Adds d sent more → ((k : ℕ) → d.count ≤ k → is_same (requests.Server d.server d.session k) q ≡ true → ⊥) → purpose_of sent q ≡ None → purpose_of more q ≡ None
aside_on d sent more q a old none = subst (λ z. purpose_of z q ≡ None) (sym a.is) (go a.purpose)
  where
    number : ReqNo
    number = requests.Server d.server d.session a.number

    by_test : (p : Purpose) (t : Bool) → is_same number q ≡ t → (if t then Some p else purpose_of sent q) ≡ None
    by_test p true t = absurd (old a.number a.from t)
    by_test p false t = none

    go : (o : Option Purpose) → purpose_of (sent_with number o sent) q ≡ None
    go None = none
    go (Some p) = by_test p (is_same number q) refl

-- ---- the client

module _ (range : ℕ) (w : StreamSystem) where
  -- one without a job waits under no number
  pub rows_idle : (m l n k : List Sent) (c : ClientState) → c.job ≡ jobs.Idle → RowsStand range w m l c → RowsStand range w n k c
  rows_idle m l n k c idle b = record { stream = b.stream; listed = b.listed; job = subst (λ j. RowsJob range w n k j) (sym idle) tt }

  -- what the other streams ask meanwhile takes its number from none
  module _ (m l n k : List Sent) (d : ServerContext) (one : Adds d m n) (two : Adds d l k) where
    stays : (q : ReqNo) → ((j : ℕ) → d.count ≤ j → is_same (requests.Server d.server d.session j) q ≡ true → ⊥) → IsAside m l q → IsAside n k q
    stays q old b = (aside_on d m n q one old b.0, aside_on d l k q two old b.1)

    old : (q : ReqNo) → ((i : ℕ) → d.count ≤ i → is_same q (requests.Server d.server d.session i) ≡ true → ⊥) → (j : ℕ) → d.count ≤ j → is_same (requests.Server d.server d.session j) q ≡ true → ⊥
    old q past j le t = past j le (subst (λ z. is_same q z ≡ true) (sym (same_request (requests.Server d.server d.session j) q t)) (request_same q))

    kept_job : (j : Job) → ((i : ℕ) → d.count ≤ i → awaits j (requests.Server d.server d.session i) ≡ true → ⊥) → RowsJob range w m l j → RowsJob range w n k j
    kept_job jobs.Idle past b = tt
    kept_job (jobs.Sent e q) past b = (b.0, stays q (old q past) b.1)
    kept_job (jobs.Closing e q) past b = (b.0, stays q (old q past) b.1)
    kept_job (jobs.Growing last q) past b = stays q (old q past) b
    kept_job (jobs.Checking e q) past b = b
    kept_job (jobs.Shutting e q) past b = b
    kept_job (jobs.Reading e places upto sealed place q) past b = b

    pub rows_kept : (c : ClientState) → ((i : ℕ) → d.count ≤ i → awaits c.job (requests.Server d.server d.session i) ≡ true → ⊥) → RowsStand range w m l c → RowsStand range w n k c
    rows_kept c past b = record { stream = b.stream; listed = b.listed; job = kept_job c.job past b.job }

-- ---- what it asks

module _ (range : ℕ) (w : StreamSystem) (m l : List Sent) where
  -- a request about row data under the number that its client waits under
  abbrev pub IsRequest : ClientState → Body → Type 0
  IsRequest c (bodies.Append (appends.Append e g blocks q)) = IsOfRows w range e × IsAside m l q × (awaits c.job q ≡ true) × (blocks ≡ c.group)
  IsRequest c (bodies.Seal (seals.SealExtent e q)) = IsOfRows w range e × IsAside m l q × (awaits c.job q ≡ true)
  IsRequest c (bodies.Stream (streams.Extend stream g last pick q)) = (stream ≡ rows_of range) × IsAside m l q × (awaits c.job q ≡ true)
  IsRequest c body = ⊥

  abbrev pub IsRequestIf : ClientState → Option Packet → Type 0
  IsRequestIf c None = Unit {0}
  IsRequestIf c (Some p) = IsRequest c p.body

  -- what a step of the client is
  pub record RowsDo (o : Outcome) : Type 0 where
    pub stand : RowsStand range w m l o.after
    pub asks : IsRequestIf o.after o.packet

  abbrev pub Extents : ClientState → Type 0
  Extents c = (c.stream ≡ rows_of range) × ((x : StreamExtent) → Contains c.extents x → IsOfRows w range x.extent)

  pub rows_rest : (c : ClientState) → RowsStand range w m l c → RowsDo (waits c)
  rows_rest c b = record { stand = b; asks = tt }

  module _ (q : ReqNo) (aside : IsAside m l q) where
    closes_so : (c : ClientState) (e : ℕ) → Extents c → IsOfRows w range e → RowsDo (closes c e q)
    closes_so c e b of = record { stand = record { stream = b.0; listed = b.1; job = (of, aside) }; asks = (of, aside, request_same q) }

    grows_so : (c : ClientState) (last : Option ℕ) → Extents c → RowsDo (grows c last q)
    grows_so c last b = record { stand = record { stream = b.0; listed = b.1; job = aside }; asks = (b.0, aside, request_same q) }

    sends_so : (c : ClientState) (e : ℕ) (places : Nodes) → Extents c → IsOfRows w range e → RowsDo (sends_append c e places q)
    sends_so c e places b of = record { stand = record { stream = b.0; listed = b.1; job = (of, aside) }; asks = (of, aside, request_same q, refl) }

    ends_so : (c : ClientState) (told : News) → Extents c → RowsDo (ends c told)
    ends_so c told b = record { stand = record { stream = b.0; listed = b.1; job = tt }; asks = tt }

    -- ---- an append begins

    behind : (c : ClientState) (z : StreamExtent) (o : Option ℕ) → Extents c → IsOfRows w range z.extent → RowsDo (append_behind c q z o)
    behind c z None b of = sends_so c z.extent z.places b of
    behind c z (Some l) b of = grows_so c (Some z.extent) b

    at_last : (c : ClientState) (o : Option StreamExtent) → last_extent c.extents ≡ o → Extents c → RowsDo (append_at c q o)
    at_last c None e b = grows_so c None b
    at_last c (Some z) e b = behind c z z.length b (b.1 z (got c.extents (length c.extents - 1) z e))

    -- where the client has a job it goes on with that
    pub rows_append : (c : ClientState) (group : Group) → RowsStand range w m l c → RowsDo (given c (append_rule c q group))
    rows_append c group b =
        if_elim (λ z. RowsDo (given c z)) (is_idle c.job) _ _ (λ t. at_last (record c { group = group }) (last_extent c.extents) refl (b.stream, b.listed)) (λ f. rows_rest c b)

    -- ---- an answer

    refused : (c : ClientState) (e : ℕ) (why : Refusal) → RowsStand range w m l c → IsOfRows w range e → RowsDo (append_refused c q e why)
    refused c e refusals.NotOpen b of = closes_so c e (b.stream, b.listed) of
    refused c e refusals.ExtentFull b of = closes_so c e (b.stream, b.listed) of
    refused c e refusals.Stale b of = ends_so c news.Fenced (b.stream, b.listed)
    refused c e why b of = rows_rest c b

    sealed : (c : ClientState) (e n : ℕ) → RowsStand range w m l c → RowsDo (grows_behind c q e n)
    sealed c e n b = grows_so (record c { extents = sealed_last c.extents n }) (Some e) (b.stream, sealed_holds (IsOfRows w range) c.extents n b.listed)

    extended : (c : ClientState) (e : ℕ) (places : Nodes) → RowsStand range w m l c → IsOfRows w range e → RowsDo (appends_again c q e places)
    extended c e places b of = sends_so (record c { extents = c.extents ++ new ∷ []; checked = None }) e places (b.stream, more) of
      where
        new : StreamExtent
        new = record { extent = e; places = places; length = None }

        more : (x : StreamExtent) → Contains (c.extents ++ new ∷ []) x → IsOfRows w range x.extent
        more x h = ⊎_elim {C = IsOfRows w range x.extent} (λ z. b.listed x z) (λ same. subst (λ (v : StreamExtent). IsOfRows w range v.extent) same of) (Contains-push_cases c.extents new x h)

    module _ (c : ClientState) (b : RowsStand range w m l c) (body : Body)
        (told : (v : ReqNo) (e : ℕ) (places : Nodes) → awaits c.job v ≡ true → body ≡ bodies.Stream (streams.Extended v e places) → IsOfRows w range e) where
      by_job : (j : Job) → c.job ≡ j → RowsJob range w m l j → ByJob q RowsDo c body j
      by_job jobs.Idle is z = tt
      by_job (jobs.Sent e r) is z = (λ v n offset t same. ends_so c (news.Appended e offset) (b.stream, b.listed), λ why. refused c e why b z.0)
      by_job (jobs.Closing e r) is z = λ v n length t same. sealed c e length b
      by_job (jobs.Growing last r) is z = λ v n places t same. extended c n places b (told v n places (subst (λ j. awaits j v ≡ true) (sym is) t) same)
      by_job (jobs.Checking e r) is z = absurd z
      by_job (jobs.Shutting e r) is z = absurd z
      by_job (jobs.Reading e places upto sealed place r) is z = absurd z

      pub rows_answer : RowsDo (reply_rule c q body)
      rows_answer = reply_takes q RowsDo c body (rows_rest c b) (λ v t. ends_so c news.Fenced (b.stream, b.listed)) (by_job c.job refl b.job)

    -- ---- it gives up

    gives_up : (c : ClientState) → Extents c → (j : Job) → c.job ≡ j → RowsJob range w m l j → RowsDo (give_up_job c q j)
    gives_up c b jobs.Idle is z = rows_rest c (record { stream = b.0; listed = b.1; job = subst (λ j. RowsJob range w m l j) (sym is) tt })
    gives_up c b (jobs.Sent e r) is z = closes_so c e b z.0
    gives_up c b (jobs.Closing e r) is z = record { stand = record { stream = b.0; listed = b.1; job = z }; asks = (z.0, z.1, request_same r) }
    gives_up c b (jobs.Growing last r) is z = record { stand = record { stream = b.0; listed = b.1; job = z }; asks = (b.0, z, request_same r) }
    gives_up c b (jobs.Checking e r) is z = absurd z
    gives_up c b (jobs.Shutting e r) is z = absurd z
    gives_up c b (jobs.Reading e places upto sealed place r) is z = absurd z

    pub rows_give_up : (c : ClientState) → RowsStand range w m l c → RowsDo (give_up_job c q c.job)
    rows_give_up c b = gives_up c (b.stream, b.listed) c.job refl b.job
