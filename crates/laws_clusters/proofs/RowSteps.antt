-- What row data and splits wait for stays known through a step of one range: numbers are never used for two things.
use Rattle.std.proofs.Common.{◌≡◌, ◌⊎◌, ℕ, ◌≤◌, ◌<◌, List, ◌++◌, Some, None, Contains, refl, sym, ◌∙◌, subst, inl, inr}
use Rattle.std.proofs.lemmas.Bool.{cases_eq}
use Rattle.std.proofs.lemmas.List.Elements.{Contains-append_cases}
use Rattle.wire.specs.declared.actor.ActorId.{ActorId}
use Rattle.wire.specs.declared.actor.ActorId.TheVariants.{Server}
use Rattle.wire.specs.declared.actor.ReqNo.{ReqNo}
use Rattle.wire.specs.declared.actor.ReqNo.TheVariants as requests
use Rattle.wire.specs.declared.body.AppendBody.TheVariants as appends
use Rattle.wire.specs.declared.body.Body.{Body}
use Rattle.wire.specs.declared.body.Body.TheVariants as bodies
use Rattle.wire.specs.declared.body.SealBody.TheVariants as seals
use Rattle.wire.specs.declared.body.StreamBody.TheVariants as streams
use Rattle.wire.specs.declared.packet.Packet.{Packet}
use Rattle.client.specs.Client.{ClientState}
use Rattle.model_streams.specs.Outcome.{packet}
use Rattle.model_partition.specs.declared.server_context.ServerContext.{ServerContext}
use Rattle.model_partition.specs.declared.split_job.SplitJob.{SplitJob}
use Rattle.model_partition.specs.Servers.{ServerCell}
use Rattle.laws_stream_machine.specs.Refinement.{asked_number}
use Rattle.laws_clusters.proofs.ClientJobs.{AsksBy}
use Rattle.laws_clusters.proofs.Invariant.{Waiter, OfRows, OfSeal, OfCall, Waits, IsOfExtents, IsSplitAsk, AskedBy, Machines, HasNumber, HasNone, Out, AllOut}
use Rattle.laws_clusters.proofs.RequestNumbers.{IsPast, used_number, AreNumbersPast}

-- a request of a job is one of a client with the same job, group and stream
pub same_asks : (c n : ClientState) → n.job ≡ c.job → n.group ≡ c.group → n.stream ≡ c.stream → (body : Body) → AsksBy c body → AsksBy n body
same_asks c n job group stream (bodies.Append (appends.Append e g blocks q)) a = (job ∙ a.0, a.1 ∙ sym group)
same_asks c n job group stream (bodies.Append body) a = tt
same_asks c n job group stream (bodies.Seal (seals.SealExtent e q)) (inl a) = inl (job ∙ a)
same_asks c n job group stream (bodies.Seal (seals.SealExtent e q)) (inr a) = inr (job ∙ a)
same_asks c n job group stream (bodies.Seal body) a = tt
same_asks c n job group stream (bodies.Stream (streams.Extend name g last pick q)) a = (job ∙ a.0, a.1 ∙ sym stream)
same_asks c n job group stream (bodies.Stream (streams.MultiModify list q)) a = a
same_asks c n job group stream (bodies.Stream body) a = tt
same_asks c n job group stream (bodies.Map body) a = a
same_asks c n job group stream body a = tt

-- what is asked of a stream is no call of a split
pub no_call : (job : SplitJob) (body : Body) (q : ReqNo) → asked_number body ≡ Some q → IsSplitAsk job body
no_call job (bodies.Stream (streams.MultiModify list v)) q number = absurd (let z : None ≡ Some q = number in cc)
no_call job (bodies.Stream body) q number = tt
no_call job (bodies.Map body) q number = absurd (let z : None ≡ Some q = number in cc)
no_call job body q number = tt

-- the job that is out was out before, for the same group
pub record WasOut (c n : ClientState) : Type 0 where
  pub job : n.job ≡ c.job
  pub group : n.group ≡ c.group
  pub stream : n.stream ≡ c.stream

-- a number that a server had not used before this step
abbrev pub IsNew : ServerContext → ℕ → ReqNo → Type 0
IsNew d count q = (k : ℕ) × (d.count ≤ k) × (k < count) × (q ≡ requests.Server d.server d.session k)

module _ (generation : ℕ → ℕ) (servers next_servers : List ServerCell) (machines next_machines : ℕ → Machines generation) (post ps : List Packet) (s range : ℕ) (d : ServerContext) (count : ℕ) (old : AllOut generation servers machines post) where
  -- who waits for this waited for it before, and what was asked is still its own
  pub record WaitedBefore (by : Waiter) (q : ReqNo) : Type 0 where
    pub waited : Waits servers s range by q
    pub asks : (body : Body) → AskedBy servers s range by body → AskedBy next_servers s range by body

  abbrev pub Steady : Waiter → Type 0
  Steady by = (q : ReqNo) → Waits next_servers s range by q → Waits servers s range by q

  -- what is so of a step of a range at a server, and of what it sends
  pub record StepOfWaits : Type 0 where
    pub still_past : (q : ReqNo) → IsPast servers q → IsPast next_servers q
    pub not_used : (k : ℕ) → d.count ≤ k → IsPast servers (requests.Server d.server d.session k) → ⊥
    pub new_number : (k : ℕ) → k < count → IsPast next_servers (requests.Server d.server d.session k)
    pub numbers : AreNumbersPast servers post
    pub none : (j : ℕ) (q : ReqNo) → HasNone generation (machines j) q → IsPast servers q → HasNone generation (next_machines j) q
    pub unused : (j : ℕ) (q : ReqNo) → (j ≡ range → ⊥) → (IsPast servers q → ⊥) → HasNone generation (next_machines j) q
    pub from : (by : Waiter) (q : ReqNo) → Waits next_servers s range by q → WaitedBefore by q ⊎ IsNew d count q
    -- the step is one of its row data, or one of its split, which has one phase
    pub steady : Steady OfRows ⊎ (Steady OfSeal × Steady OfCall)
    pub exclusive : (q : ReqNo) → Waits next_servers s range OfSeal q → Waits next_servers s range OfCall q → ⊥
    pub others : (t k : ℕ) (by : Waiter) (q : ReqNo) → ((t ≡ s) → (k ≡ range) → ⊥) → Waits next_servers t k by q → Waits servers t k by q
    pub others_ask : (t k : ℕ) (by : Waiter) (body : Body) → ((t ≡ s) → (k ≡ range) → ⊥) → AskedBy servers t k by body → AskedBy next_servers t k by body
    pub aside : (by : Waiter) → IsOfExtents by → (q : ReqNo) → Waits next_servers s range by q → HasNone generation (next_machines range) q
    pub asked : (by : Waiter) (q : ReqNo) → Waits next_servers s range by q → (p : Packet) → Contains ps p → used_number p.body ≡ Some q → AskedBy next_servers s range by p.body ⊎ ((other : Waiter) × (other ≡ by → ⊥) × Waits next_servers s range other q)
    pub known : (p : Packet) → Contains ps p → (q : ReqNo) → used_number p.body ≡ Some q → (HasNumber generation (next_machines range) q × (asked_number p.body ≡ Some q)) ⊎ ((by : Waiter) × Waits next_servers s range by q)

  module _ (step : StepOfWaits) where
    has_no : (j : ℕ) (q : ReqNo) → HasNumber generation (next_machines j) q → HasNone generation (next_machines j) q → ⊥
    has_no j q (p, inl at) none = let z : None ≡ Some p = sym none.0 ∙ at in cc
    has_no j q (p, inr at) none = let z : None ≡ Some p = sym none.1 ∙ at in cc

    -- a new number was not used
    is_new : (q : ReqNo) → IsNew d count q → IsPast servers q → ⊥
    is_new q (k, from, below, same) past = step.not_used k from (subst (λ v. IsPast servers v) same past)

    -- two of them wait under numbers of their own
    module _ (one other : Waiter) (differ : other ≡ one → ⊥) (q : ReqNo) (first : Waits next_servers s range one q) (second : Waits next_servers s range other q) where
      after_old : Waits servers s range one q → WaitedBefore other q ⊎ IsNew d count q → ⊥
      after_old was (inl b) = differ ((old s range one q was).alone s range other b.waited).2
      after_old was (inr new) = is_new q new (old s range one q was).past

      pub one_alone : Steady one → ⊥
      one_alone same = after_old (same q first) (step.from other q second)

    apart : (one other : Waiter) → (other ≡ one → ⊥) → (q : ReqNo) → Waits next_servers s range one q → Waits next_servers s range other q → ⊥
    apart OfRows OfRows differ q first second = differ refl
    apart OfSeal OfSeal differ q first second = differ refl
    apart OfCall OfCall differ q first second = differ refl
    apart OfSeal OfCall differ q first second = step.exclusive q first second
    apart OfCall OfSeal differ q first second = step.exclusive q second first
    apart OfRows OfSeal differ q first second = elim step.steady [ inl rows ↦ one_alone OfRows OfSeal differ q first second rows | inr split ↦ one_alone OfSeal OfRows (λ e. differ (sym e)) q second first split.0 ]
    apart OfRows OfCall differ q first second = elim step.steady [ inl rows ↦ one_alone OfRows OfCall differ q first second rows | inr split ↦ one_alone OfCall OfRows (λ e. differ (sym e)) q second first split.1 ]
    apart OfSeal OfRows differ q first second = elim step.steady [ inl rows ↦ one_alone OfRows OfSeal (λ e. differ (sym e)) q second first rows | inr split ↦ one_alone OfSeal OfRows differ q first second split.0 ]
    apart OfCall OfRows differ q first second = elim step.steady [ inl rows ↦ one_alone OfRows OfCall (λ e. differ (sym e)) q second first rows | inr split ↦ one_alone OfCall OfRows differ q first second split.1 ]

    -- what the range itself waits for
    module _ (by : Waiter) (q : ReqNo) (waits : Waits next_servers s range by q) where
      abbrev Origin : Type 0
      Origin = WaitedBefore by q ⊎ IsNew d count q

      own_past : Origin → IsPast next_servers q
      own_past (inl b) = step.still_past q (old s range by q b.waited).past
      own_past (inr (k, from, below, same)) = subst (λ v. IsPast next_servers v) (sym same) (step.new_number k below)

      own_none : Origin → IsOfExtents by → (j : ℕ) → HasNone generation (next_machines j) q
      own_none (inl b) extents j = let o = old s range by q b.waited in step.none j q (o.none extents j) o.past
      own_none (inr new) extents j = elim (cases_eq j range) [
        | inl same ↦ subst (λ n. HasNone generation (next_machines n) q) (sym same) (step.aside by extents q waits)
        | inr other ↦ step.unused j q other (is_new q new)
      ]

      asked_before : Origin → (server : ℕ) (to : ActorId) (body : Body) → Contains post (packet (Server server) to body) → used_number body ≡ Some q → AskedBy next_servers s range by body
      asked_before (inl b) server to body at number = b.asks body ((old s range by q b.waited).asked server to body at number)
      asked_before (inr new) server to body at number = absurd (is_new q new (step.numbers server to body at q number))

      other_alone : Origin → (t k : ℕ) (other : Waiter) → Waits servers t k other q → (t ≡ s) × (k ≡ range) × (other ≡ by)
      other_alone (inl b) t k other held = (old s range by q b.waited).alone t k other held
      other_alone (inr new) t k other held = absurd (is_new q new (old t k other q held).past)

      same_by : (one other : Waiter) → Waits next_servers s range one q → Waits next_servers s range other q → other ≡ one
      same_by OfRows OfRows a b = refl
      same_by OfSeal OfSeal a b = refl
      same_by OfCall OfCall a b = refl
      same_by OfRows OfSeal a b = absurd (apart OfRows OfSeal (λ e. cc) q a b)
      same_by OfRows OfCall a b = absurd (apart OfRows OfCall (λ e. cc) q a b)
      same_by OfSeal OfRows a b = absurd (apart OfSeal OfRows (λ e. cc) q a b)
      same_by OfSeal OfCall a b = absurd (apart OfSeal OfCall (λ e. cc) q a b)
      same_by OfCall OfRows a b = absurd (apart OfCall OfRows (λ e. cc) q a b)
      same_by OfCall OfSeal a b = absurd (apart OfCall OfSeal (λ e. cc) q a b)

      own_out : Out generation next_servers next_machines (post ++ ps) s range by q
      own_out =
          let origin : Origin = step.from by q waits in
          record {
            past = own_past origin;
            none = own_none origin;
            asked = λ server to body at number. elim (Contains-append_cases post ps (packet (Server server) to body) at) [
              | inl earlier ↦ asked_before origin server to body earlier number
              | inr now ↦ elim (step.asked by q waits (packet (Server server) to body) now number) [ inl own ↦ own | inr another ↦ absurd (apart by another.0 another.1 q waits another.2) ]
            ];
            alone = λ t k other too. elim (cases_eq t s) [
              | inl here ↦ elim (cases_eq k range) [
                | inl there ↦ (here, there, same_by by other waits (subst (λ n. Waits next_servers s n other q) there (subst (λ n. Waits next_servers n k other q) here too)))
                | inr aside ↦ other_alone origin t k other (step.others t k other q (λ one two. aside two) too)
              ]
              | inr aside ↦ other_alone origin t k other (step.others t k other q (λ one two. aside one) too)
            ];
          }

    -- what another range waits for
    module _ (t k : ℕ) (by : Waiter) (q : ReqNo) (waits : Waits next_servers t k by q) (away : (t ≡ s) → (k ≡ range) → ⊥) where
      was : Waits servers t k by q
      was = step.others t k by q away waits

      out : Out generation servers machines post t k by q
      out = old t k by q was

      -- the range that steps does not wait for it
      not_own : (one : Waiter) → Waits next_servers s range one q → ⊥
      not_own one own = elim (step.from one q own) [
        | inl b ↦ (let a = out.alone s range one b.waited in away (sym a.0) (sym a.1))
        | inr new ↦ is_new q new out.past
      ]

      none_of : IsOfExtents by → (j : ℕ) → HasNone generation (next_machines j) q
      none_of extents j = step.none j q (out.none extents j) out.past

      -- what has a purpose in a stream is no call
      asked_of_stream : (one : Waiter) → one ≡ by → (body : Body) → HasNumber generation (next_machines range) q → asked_number body ≡ Some q → AskedBy next_servers t k one body
      asked_of_stream OfRows same body has number = absurd (has_no range q has (none_of (subst IsOfExtents same tt) range))
      asked_of_stream OfSeal same body has number = tt
      asked_of_stream OfCall same body has number = λ job h. no_call job body q number

      still_out : Out generation next_servers next_machines (post ++ ps) t k by q
      still_out = record {
        past = step.still_past q out.past;
        none = none_of;
        asked = λ server to body at number. elim (Contains-append_cases post ps (packet (Server server) to body) at) [
          | inl earlier ↦ step.others_ask t k by body away (out.asked server to body earlier number)
          | inr now ↦ elim (step.known (packet (Server server) to body) now q number) [
            | inl has ↦ asked_of_stream by refl body has.0 has.1
            | inr own ↦ absurd (not_own own.0 own.1)
          ]
        ];
        alone = λ u n other too. elim (cases_eq u s) [
          | inl here ↦ elim (cases_eq n range) [
            | inl there ↦ absurd (not_own other (subst (λ z. Waits next_servers s z other q) there (subst (λ z. Waits next_servers z n other q) here too)))
            | inr aside ↦ out.alone u n other (step.others u n other q (λ one two. aside two) too)
          ]
          | inr aside ↦ out.alone u n other (step.others u n other q (λ one two. aside one) too)
        ];
      }

    pub all_out : AllOut generation next_servers next_machines (post ++ ps)
    all_out t k by q waits = elim (cases_eq t s) [
      | inl here ↦ elim (cases_eq k range) [
        | inl there ↦
            subst (λ a. Out generation next_servers next_machines (post ++ ps) a k by q) (sym here)
            (subst (λ a. Out generation next_servers next_machines (post ++ ps) s a by q) (sym there)
            (own_out by q (subst (λ n. Waits next_servers s n by q) there (subst (λ n. Waits next_servers n k by q) here waits))))
        | inr aside ↦ still_out t k by q waits (λ one two. aside two)
      ]
      | inr aside ↦ still_out t k by q waits (λ one two. aside one)
    ]
