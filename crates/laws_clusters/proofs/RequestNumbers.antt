-- The numbers of requests that servers have used, over starts and stops.
use Rattle.std.proofs.Common.{◌≡◌, ◌⊎◌, ℕ, suc, ◌-◌, ◌^◌, ◌≤◌, ◌<◌, Bool, true, false, List, ◌∷◌, map, Option, Some, None, option_map, Contains, slice_set, refl, sym, ap, ◌∙◌, subst, inl, inr, arith, if◌then◌else◌, ◌==◌, nat_lt}
use Rattle.std.proofs.lemmas.Bool.Decides.{nat_tests}
use Rattle.wire.specs.declared.actor.ActorId.{ActorId}
use Rattle.wire.specs.declared.actor.ActorId.TheVariants.{Server}
use Rattle.wire.specs.declared.actor.ReqNo.{ReqNo}
use Rattle.wire.specs.declared.actor.ReqNo.TheVariants as requests
use Rattle.wire.specs.declared.body.Body.{Body}
use Rattle.wire.specs.declared.body.Body.TheVariants as bodies
use Rattle.wire.specs.declared.body.MapBody.TheVariants as maps
use Rattle.wire.specs.declared.body.StreamBody.TheVariants as streams
use Rattle.wire.specs.declared.packet.Packet.{Packet}
use Rattle.client.specs.Requests.{is_same}
use Rattle.model_streams.specs.Maps.{entry_at}
use Rattle.model_streams.specs.Outcome.{packet}
use Rattle.model_partition.specs.declared.server_context.ServerContext.{ServerContext}
use Rattle.model_partition.specs.Server.{ServerState, moment_rule, started}
use Rattle.model_partition.specs.Servers.{ServerCell, cell_stops, cell_starts, first_pick, told_moment}
use Rattle.laws_loads.proofs.Entries.{entry_set, entry_other, entry_mapped}
use Rattle.laws_stream_machine.specs.Refinement.{Purpose, Sent, purpose_of, asked_number}
use Rattle.laws_stream_machine.proofs.ServerRequests.{same_request}
use Rattle.laws_ranges.specs.Serves.{sent_with, Adds, AreUnused}

-- a number of a session of this cell that is over, or of the one that lasts, and used
abbrev pub PastAt : ServerCell → ℕ → ℕ → Type 0
PastAt cell n k = (n < cell.session) ⊎ ((n ≡ cell.session) × ((st : ServerState) → cell.state ≡ Some st → k < st.context.count))

abbrev pub IsPast : List ServerCell → ReqNo → Type 0
IsPast servers (requests.Server s n k) = (cell : ServerCell) × (entry_at servers s ≡ Some cell) × PastAt cell n k
IsPast servers q = ⊥

-- the number that a server asks under, also where it asks for streams to be built, or the map about a split
abbrev pub used_number : Body → Option ReqNo
used_number (bodies.Stream (streams.MultiModify (m ∷ list) q)) = Some q
used_number (bodies.Map (maps.BeginSplit range generation key q)) = Some q
used_number (bodies.Map (maps.CompleteSplit range generation q)) = Some q
used_number body = asked_number body

pub asked_used : (body : Body) (q : ReqNo) → asked_number body ≡ Some q → used_number body ≡ Some q
asked_used (bodies.Stream (streams.MultiModify list v)) q e = absurd (let z : None ≡ Some q = e in cc)
asked_used (bodies.Stream body) q e = e
asked_used (bodies.Map body) q e = absurd (let z : None ≡ Some q = e in cc)
asked_used body q e = e

-- each number that a server has asked under was used
abbrev pub AreNumbersPast : List ServerCell → List Packet → Type 0
AreNumbersPast servers post = (server : ℕ) (to : ActorId) (body : Body) → Contains post (packet (Server server) to body) → (q : ReqNo) → used_number body ≡ Some q → IsPast servers q

-- each number that has a purpose was used
abbrev pub AllPast : List ServerCell → List Sent → Type 0
AllPast servers sent = (q : ReqNo) (p : Purpose) → purpose_of sent q ≡ Some p → IsPast servers q

-- ---- a step of one server

-- what was used at a server that steps stays used, at all servers
pub past_on : (servers : List ServerCell) (s : ℕ) (c d : ServerCell) → entry_at servers s ≡ Some c → ((n k : ℕ) → PastAt c n k → PastAt d n k) →
    (q : ReqNo) → IsPast servers q → IsPast (slice_set servers (s - 1) d) q
past_on servers s c d at on (requests.User u ticket) past = absurd past
past_on servers s c d at on requests.NoRequest past = absurd past
past_on servers s c d at on (requests.Server t n k) (cell, is, past) = go (t == s) refl
  where
    go : (b : Bool) → (t == s) ≡ b → IsPast (slice_set servers (s - 1) d) (requests.Server t n k)
    go true test =
        let same : t ≡ s = grind (arith, nat_tests) in
        let cells : cell ≡ c = (let both : Some cell ≡ Some c = sym is ∙ ap (λ z. entry_at servers z) same ∙ at in cc) in
        (d, ap (λ z. entry_at (slice_set servers (s - 1) d) z) same ∙ entry_set servers s c d at, on n k (subst (λ z. PastAt z n k) cells past))
    go false test =
        let apart : t ≡ s → ⊥ = λ same. grind (arith, nat_tests) in
        (cell, entry_other servers s c d at t apart ∙ is, past)

-- a step in one session, after which the count is no less
pub past_step : (c d : ServerCell) → d.session ≡ c.session → ((after : ServerState) → d.state ≡ Some after → (st : ServerState) × (c.state ≡ Some st) × (st.context.count ≤ after.context.count)) →
    (n k : ℕ) → PastAt c n k → PastAt d n k
past_step c d session counts n k (inl over) = inl (omega (arith, session, over))
past_step c d session counts n k (inr (lasts, used)) = inr (
  lasts ∙ sym session,
  λ after is.
      (let before = counts after is in
      let less : k < before.0.context.count = used before.0 before.1 in
      let more : before.0.context.count ≤ after.context.count = before.2 in
      omega (arith, less, more)),
)

-- a stop
pub past_stops : (call : ℕ) (c : ServerCell) (n k : ℕ) → PastAt c n k → PastAt (cell_stops call c) n k
past_stops call c n k past = go (call == 0)
  where
    stopped : PastAt c n k → PastAt (record c { state = None }) n k
    stopped (inl over) = inl over
    stopped (inr (lasts, used)) = inr (lasts, λ st is. absurd cc)

    go : (b : Bool) → PastAt (if b then record c { state = None } else c) n k
    go true = stopped past
    go false = past

-- a start
pub past_starts : (s now batch : ℕ) (c : ServerCell) (n k : ℕ) → PastAt c n k → PastAt (cell_starts s now batch c c.state) n k
past_starts s now batch c n k past = by_state c.state
  where
    begun : PastAt c n k → n < suc c.session
    begun (inl over) = omega (arith, over)
    begun (inr (lasts, used)) = omega (arith, lasts)

    go : (b : Bool) → PastAt (if b then record { session = suc c.session; state = Some (started s (suc c.session) now first_pick batch) } else c) n k
    go true = inl (begun past)
    go false = past

    by_state : (o : Option ServerState) → PastAt (cell_starts s now batch c o) n k
    by_state (Some server) = past
    by_state None = go (nat_lt (suc c.session) (2 ^ 64))

-- ---- a moment

moment_past : (now : ℕ) (c : ServerCell) (n k : ℕ) → PastAt c n k → PastAt (told_moment now c) n k
moment_past now c n k (inl over) = inl over
moment_past now c n k (inr (lasts, used)) = inr (lasts, go c.state refl)
  where
    go : (o : Option ServerState) → c.state ≡ o → (st : ServerState) → option_map (λ server. moment_rule server now) o ≡ Some st → k < st.context.count
    go None at st is = absurd cc
    go (Some server) at st is =
        let same : moment_rule server now ≡ st = cc in
        subst (λ (z : ServerState). k < z.context.count) same (used server at)

pub past_moment : (servers : List ServerCell) (now : ℕ) (q : ReqNo) → IsPast servers q → IsPast (map (told_moment now) servers) q
past_moment servers now (requests.User u ticket) past = absurd past
past_moment servers now requests.NoRequest past = absurd past
past_moment servers now (requests.Server s n k) (cell, is, past) = (told_moment now cell, entry_mapped (told_moment now) servers s cell is, moment_past now cell n k past)

-- ---- numbers that are not used, and those that are used next

module _ (servers : List ServerCell) (s : ℕ) (cell : ServerCell) (st : ServerState) (at : entry_at servers s ≡ Some cell) (runs : cell.state ≡ Some st)
    (server : st.context.server ≡ s) (session : st.context.session ≡ cell.session) where
  -- no number from the count on was used
  pub not_past : (k : ℕ) → st.context.count ≤ k → IsPast servers (requests.Server st.context.server st.context.session k) → ⊥
  not_past k from (other, is, past) = by_past (subst (λ z. PastAt z st.context.session k) same past)
    where
      same : other ≡ cell
      same = let both : Some other ≡ Some cell = sym is ∙ ap (λ z. entry_at servers z) server ∙ at in cc

      by_past : PastAt cell st.context.session k → ⊥
      by_past (inl over) = omega (arith, over, session)
      by_past (inr (lasts, used)) = let less : k < st.context.count = used st runs in omega (arith, less, from)

  -- and none has a purpose
  pub unused_of : (sent : List Sent) → AllPast servers sent → AreUnused st.context st.context.count sent
  unused_of sent all k from = go (purpose_of sent (requests.Server st.context.server st.context.session k)) refl
    where
      go : (o : Option Purpose) → purpose_of sent (requests.Server st.context.server st.context.session k) ≡ o → o ≡ None
      go None is = refl
      go (Some p) is = absurd (not_past k from (all (requests.Server st.context.server st.context.session k) p is))

-- a number below the count after a step is used then
pub new_past : (servers : List ServerCell) (s : ℕ) (c d : ServerCell) (st' : ServerState) → entry_at servers s ≡ Some c → d.state ≡ Some st' → (k : ℕ) → k < st'.context.count →
    IsPast (slice_set servers (s - 1) d) (requests.Server s d.session k)
new_past servers s c d st' at runs k less = (
  d,
  entry_set servers s c d at,
  inr (
    refl,
    λ st is.
        (let same : st' ≡ st = cc in subst (λ (z : ServerState). k < z.context.count) same less),
  ),
)

-- one more request, under a number that was used
pub all_past_adds : (servers : List ServerCell) (sent : List Sent) (q : ReqNo) (o : Option Purpose) → AllPast servers sent → ((p : Purpose) → o ≡ Some p → IsPast servers q) →
    AllPast servers (sent_with q o sent)
all_past_adds servers sent q None all new r z is = all r z is
all_past_adds servers sent q (Some p) all new r z is = go (is_same q r) refl is
  where
    go : (b : Bool) → is_same q r ≡ b → (if b then Some p else purpose_of sent r) ≡ Some z → IsPast servers r
    go true test e = subst (λ v. IsPast servers v) (same_request q r test) (new p refl)
    go false test e = all r z e

-- ---- one more request, under a number that was not used

module _ (servers : List ServerCell) where
  with_some : (v : ReqNo) (o : Option Purpose) (sent : List Sent) → (IsPast servers v → ⊥) → (q : ReqNo) (p : Purpose) → purpose_of (sent_with v o sent) q ≡ Some p →
      ((z : Purpose) × (purpose_of sent q ≡ Some z)) ⊎ (IsPast servers q → ⊥)
  with_some v None sent new q p is = inl (p, is)
  with_some v (Some z) sent new q p is = go (is_same v q) refl is
    where
      go : (b : Bool) → is_same v q ≡ b → (if b then Some z else purpose_of sent q) ≡ Some p → ((y : Purpose) × (purpose_of sent q ≡ Some y)) ⊎ (IsPast servers q → ⊥)
      go true test e = inr (λ past. new (subst (λ u. IsPast servers u) (sym (same_request v q test)) past))
      go false test e = inl (p, e)

  with_none : (v : ReqNo) (o : Option Purpose) (sent : List Sent) → (IsPast servers v → ⊥) → (q : ReqNo) → IsPast servers q → purpose_of sent q ≡ None → purpose_of (sent_with v o sent) q ≡ None
  with_none v None sent new q past none = none
  with_none v (Some z) sent new q past none = go (is_same v q) refl
    where
      go : (b : Bool) → is_same v q ≡ b → (if b then Some z else purpose_of sent q) ≡ None
      go true test = absurd (new (subst (λ u. IsPast servers u) (sym (same_request v q test)) past))
      go false test = none

  module _ (d : ServerContext) (new : (k : ℕ) → d.count ≤ k → IsPast servers (requests.Server d.server d.session k) → ⊥) (sent more : List Sent) (a : Adds d sent more) where
    -- a number that has a purpose now had one, or was not used
    pub added_some : (q : ReqNo) (p : Purpose) → purpose_of more q ≡ Some p → ((z : Purpose) × (purpose_of sent q ≡ Some z)) ⊎ (IsPast servers q → ⊥)
    added_some q p is = with_some (requests.Server d.server d.session a.number) a.purpose sent (new a.number a.from) q p (sym (ap (λ l. purpose_of l q) a.is) ∙ is)

    -- a number that was used without a purpose has none now
    pub added_none : (q : ReqNo) → IsPast servers q → purpose_of sent q ≡ None → purpose_of more q ≡ None
    added_none q past none = ap (λ l. purpose_of l q) a.is ∙ with_none (requests.Server d.server d.session a.number) a.purpose sent (new a.number a.from) q past none
