-- How a range stands that a server holds: it asked for its streams under a number of its own, and waits for them or was told them; it is held
-- under a lease that the map told; and whoever loaded it under a higher generation is another server, or its streams were not told.
use Rattle.std.proofs.Common.{◌≡◌, ◌⊎◌, ◌<◌, ℕ, max, true, List, Option, Some, None, Contains, refl, sym, ap, ◌∙◌, subst, inl, inr, arith}
use Rattle.std.specs.Prelude.{option_to_list}
use Rattle.std.proofs.lemmas.Bool.{cases_lt}
use Rattle.std.proofs.lemmas.Option.{same_Some}
use Rattle.wire.specs.declared.actor.ActorId.TheVariants.{Map, Server}
use Rattle.wire.specs.declared.actor.ReqNo.{ReqNo}
use Rattle.wire.specs.declared.actor.ReqNo.TheVariants as requests
use Rattle.wire.specs.declared.body.Body.{Body}
use Rattle.wire.specs.declared.body.Body.TheVariants as bodies
use Rattle.wire.specs.declared.body.MapBody.TheVariants as maps
use Rattle.wire.specs.declared.body.StreamBody.TheVariants as streams
use Rattle.wire.specs.declared.note.Note.{Note}
use Rattle.wire.specs.declared.packet.Packet.{Packet}
use Rattle.wire.specs.declared.streams.StreamLists.{StreamLists}
use Rattle.client.specs.declared.load.LoadPhase.{LoadPhase}
use Rattle.client.specs.declared.load.LoadPhase.TheVariants as phases
use Rattle.client.specs.Load.{LoadState, again, load_awaits}
use Rattle.model_streams.specs.Manager.{Catalog}
use Rattle.model_streams.specs.Outcome.{packet}
use Rattle.model_partition.specs.declared.stage.Stage.{Stage}
use Rattle.model_partition.specs.Answering.{answered_number, answer_rule}
use Rattle.model_partition.specs.Range.{RangeState, RangeOutcome}
use Rattle.model_partition.specs.Server.{ServerState, range_of}
use Rattle.laws_map.specs.Openings.{AsksToOpen, HasOpened, Grants, IsFenced, IsBeyond, IsWaiting, Stood}
use Rattle.laws_map.proofs.GenerationsInRuns.{same_request}
use Rattle.laws_map.proofs.RangeLoads.{Has, IfHas, Good, Loads, Waits, shows_weaker, beyond_answers, waiting_answers}
use Rattle.laws_map.proofs.ServerLoads.{asks_later, opened_later}
use Rattle.laws_clusters.specs.Leases.{Lease, lease_in}
use Rattle.laws_clusters.specs.Timely.{IsTold, HasLoad, IsElsewhere}
use Rattle.laws_clusters.proofs.HeldRanges.{AreAsked, AllHold}

pub record RangeStands (post : List Packet) (notes : List Note) (server session n until : ℕ) (load : LoadState) (stage : Stage) : Type 0 where
  pub count : ℕ
  pub asked : AsksToOpen post n load.generation (requests.Server server session count)
  pub stands : Stood post n load.generation (requests.Server server session count) load stage
  pub leased : IsTold post (record { server = server; range = n; generation = load.generation; until = until })
  pub elsewhere : (g : ℕ) → load.generation < g → HasLoad notes n g → IsElsewhere post server n g ⊎ (HasOpened post (requests.Server server session count) → ⊥)

-- all ranges of a server that sees this moment stand so
pub record StateStands (post : List Packet) (notes : List Note) (now : ℕ) (s : ServerState) : Type 0 where
  pub moment : s.context.moment ≡ now
  pub ranges : AllHold (RangeStands post notes s.context.server s.context.session) s.ranges

pub holds_weaker : (P Q : ℕ → ℕ → LoadState → Stage → Type 0) → ((n until : ℕ) (load : LoadState) (stage : Stage) → P n until load stage → Q n until load stage) →
    (rs : List (ℕ × RangeState)) → AllHold P rs → AllHold Q rs
holds_weaker P Q on rs all = record { rising = all.rising; each = λ n r is. on n r.until r.load r.stage (all.each n r is) }

-- ---- a longer post

module _ (post later : List Packet) (grows : (p : Packet) → Contains post p → Contains later p) where
  pub told_later : (lease : Lease) → IsTold post lease → IsTold later lease
  told_later lease t = record { to = t.to; body = t.body; sent = grows (packet Map t.to t.body) t.sent; tells = t.tells }

  elsewhere_later : (server n g : ℕ) → IsElsewhere post server n g → IsElsewhere later server n g
  elsewhere_later server n g e = record { lease = e.lease; told = told_later e.lease e.told; range_is = e.range_is; generation_is = e.generation_is; other = e.other }

  -- where more loads are of other servers, and no streams are told where a higher generation is loaded
  pub stands_later : (notes more : List Note) (server session n until : ℕ) (load : LoadState) (stage : Stage) (x : RangeStands post notes server session n until load stage) →
      ((g : ℕ) → load.generation < g → HasLoad more n g → HasLoad notes n g ⊎ IsElsewhere later server n g) →
      ((g : ℕ) → load.generation < g → HasLoad notes n g → HasOpened later (requests.Server server session x.count) → HasOpened post (requests.Server server session x.count)) →
      RangeStands later more server session n until load stage
  stands_later notes more server session n until load stage x loads opened = record {
    count = x.count;
    asked = asks_later post later grows n load.generation number x.asked;
    stands = (x.stands.0, x.stands.1, elim x.stands.2 [ inl waits ↦ inl waits | inr told ↦ inr (told.0, opened_later post later grows number told.1) ]);
    leased = told_later _ x.leased;
    elsewhere = λ g above more. elim (loads g above more) [
      | inr e ↦ inl e
      | inl old ↦ elim (x.elsewhere g above old) [
        | inl e ↦ inl (elsewhere_later server n g e)
        | inr none ↦ inr (λ o. none (opened g above old o))
      ]
    ];
  }
    where
      number : ReqNo
      number = requests.Server server session x.count

-- ---- a step of a server

-- the server holds the range under this generation
abbrev pub HeldUnder : List (ℕ × RangeState) → ℕ → ℕ → Type 0
HeldUnder before n g = (r : RangeState) × (range_of before n ≡ Some r) × (r.load.generation ≡ g)

-- it stands so behind a step of a server that had these ranges before, and under no lower generation than there
pub record StepStands (post : List Packet) (notes : List Note) (server session : ℕ) (before : List (ℕ × RangeState)) (n until : ℕ) (load : LoadState) (stage : Stage) : Type 0 where
  pub stands : RangeStands post notes server session n until load stage
  pub held : HeldUnder before n load.generation

-- a load that is shown then is of a range that the server held, under a lease and a fence
pub record LoadStands (post : List Packet) (catalog : Catalog) (server : ℕ) (before : List (ℕ × RangeState)) (n g : ℕ) : Type 0 where
  pub until : ℕ
  pub leased : IsTold post (record { server = server; range = n; generation = g; until = until })
  pub fenced : IsFenced catalog n g
  pub held : HeldUnder before n g

max_cases : (a b : ℕ) → (max a b ≡ a) ⊎ (max a b ≡ b)
max_cases a b = elim (cases_lt a b) [ inl less ↦ inr (omega (arith, less)) | inr more ↦ inl (omega (arith, more)) ]

-- what the map says in a packet to a server is told
pub told_in : (post : List Packet) (p : Packet) (s : ℕ) (body : Body) (lease : Lease) → Contains post p → p.from ≡ Map → p.to ≡ Server s → p.body ≡ body → lease_in (Server s) body ≡ Some lease → IsTold post lease
told_in post p s body lease there from to is tells = record {
  to = p.to;
  body = p.body;
  sent = subst (λ sender. Contains post (packet sender p.to p.body)) from there;
  tells = (λ i. lease_in (to i) (is i)) ∙ tells;
}

module _ (post : List Packet) (notes : List Note) (catalog : Catalog) (fenced : (n g : ℕ) (q : ReqNo) → Grants post n g q → IsFenced catalog n g) (s : ServerState)
    (all : AllHold (RangeStands post notes s.context.server s.context.session) s.ranges) where
  abbrev pub P : ℕ → ℕ → LoadState → Stage → Type 0
  P = StepStands post notes s.context.server s.context.session s.ranges

  abbrev pub Shown : ℕ → ℕ → Type 0
  Shown = LoadStands post catalog s.context.server s.ranges

  -- before the step
  pub begins_so : AllHold P s.ranges
  begins_so = record { rising = all.rising; each = λ n r is. record { stands = all.each n r is; held = (r, is, refl) } }

  pub shown : (n until : ℕ) (load : LoadState) (stage : Stage) → P n until load stage → IsBeyond load.phase → Shown load.range load.generation
  shown n until load stage x beyond =
      let here : Shown n load.generation = record { until = until; leased = x.stands.leased; fenced = fenced n load.generation number (x.stands.asked, told x.stands.stands.2); held = x.held } in
      subst (λ k. Shown k load.generation) (sym x.stands.stands.0) here
    where
      number : ReqNo
      number = requests.Server s.context.server s.context.session x.stands.count

      told : IsWaiting number load.phase stage ⊎ (IsBeyond load.phase × HasOpened post number) → HasOpened post number
      told (inl waits) = absurd (subst IsBeyond waits.0 beyond)
      told (inr t) = t.1

  again_beyond : (load : LoadState) (phase : LoadPhase) → IsBeyond phase → AreAsked post (option_to_list (again load phase))
  again_beyond load (phases.Opening q) b = absurd b
  again_beyond load (phases.Confirming q) b = (tt, tt)
  again_beyond load phases.Opened b = tt
  again_beyond load phases.Confirmed b = tt
  again_beyond load phases.Fenced b = tt

  -- it asks again as it asked
  pub asked : (n : ℕ) (r : RangeState) → Has (P n) r → AreAsked post (option_to_list (again r.load r.load.phase))
  asked n r x = by x.stands.stands.2
    where
      number : ReqNo
      number = requests.Server s.context.server s.context.session x.stands.count

      by : IsWaiting number r.load.phase r.stage ⊎ (IsBeyond r.load.phase × HasOpened post number) → AreAsked post (option_to_list (again r.load r.load.phase))
      by (inl waits) =
          subst (λ phase. AreAsked post (option_to_list (again r.load phase))) (sym waits.0) (subst (λ k. AsksToOpen post k r.load.generation number) (sym x.stands.stands.0) x.stands.asked, tt)
      by (inr told) = again_beyond r.load r.load.phase told.0

  -- ---- a range that it holds

  module _ (n : ℕ) (r : RangeState) (found : range_of s.ranges n ≡ Some r) where
    abbrev x : RangeStands post notes s.context.server s.context.session n r.until r.load r.stage
    x = all.each n r found

    abbrev number : ReqNo
    number = requests.Server s.context.server s.context.session x.count

    -- the same range under the same generation, further on in its load
    goes_on : (until : ℕ) (load : LoadState) (stage : Stage) → load.range ≡ n → load.generation ≡ r.load.generation →
        IsTold post (record { server = s.context.server; range = n; generation = r.load.generation; until = until }) → IsWaiting number load.phase stage ⊎ (IsBeyond load.phase × HasOpened post number) → P n until load stage
    goes_on until load stage range same leased stands = record {
      stands = record {
        count = x.count;
        asked = subst (λ g. AsksToOpen post n g number) (sym same) x.asked;
        stands = (range, refl, stands);
        leased = subst (λ g. IsTold post (record { server = s.context.server; range = n; generation = g; until = until })) (sym same) leased;
        elsewhere = λ g above. x.elsewhere g (subst (λ k. k < g) same above);
      };
      held = (r, found, sym same);
    }

    leased_to : (until : ℕ) → until ≡ r.until → IsTold post (record { server = s.context.server; range = n; generation = r.load.generation; until = until })
    leased_to until same = subst (λ end. IsTold post (record { server = s.context.server; range = n; generation = r.load.generation; until = end })) (sym same) x.leased

    abbrev W : ℕ → LoadState → Stage → Type 0
    W = Waits n r.load.generation r.until number

    abbrev L : ℕ → LoadState → Stage → Type 0
    L = Loads n r.load.generation r.until

    waits_so : (until : ℕ) (load : LoadState) (stage : Stage) → W until load stage → P n until load stage
    waits_so until load stage h = goes_on until load stage h.0 h.1 (leased_to until h.3) (inl h.2)

    loads_so : HasOpened post number → (until : ℕ) (load : LoadState) (stage : Stage) → L until load stage → P n until load stage
    loads_so told until load stage h = goes_on until load stage h.0 h.1 (leased_to until h.3) (inr (h.2, told))

    if_so : (A : ℕ → LoadState → Stage → Type 0) → ((until : ℕ) (load : LoadState) (stage : Stage) → A until load stage → P n until load stage) → (R : Option RangeState) → IfHas A R → IfHas (P n) R
    if_so A on None h = tt
    if_so A on (Some after) h = on after.until after.load after.stage h

    waits_good : (o : RangeOutcome) → Good W s.context o → Good (P n) s.context o
    waits_good o g = (if_so W waits_so o.after g.0, g.1, g.2, shows_weaker W (P n) (λ until load stage beyond h. waits_so until load stage h) o.notes g.3)

    loads_good : HasOpened post number → (o : RangeOutcome) → Good L s.context o → Good (P n) s.context o
    loads_good told o g = (if_so L (loads_so told) o.after g.0, g.1, g.2, shows_weaker L (P n) (λ until load stage beyond h. loads_so told until load stage h) o.notes g.3)

    -- what an answer makes of it
    pub answers_so : (p : Packet) → Contains post p → (w : ReqNo) → answered_number p.body ≡ Some w → Good (P n) s.context (answer_rule s.context r w p.body)
    answers_so p there w number_is = elim x.stands.2 [
      | inl waits ↦ waiting waits
      | inr told ↦ loads_good told.1 (answer_rule s.context r w p.body) (beyond_answers n r.load.generation r.until s.context r w p.body (x.stands.0, refl, told.0, refl))
    ]
      where
        -- the streams were told under the number that is waited for
        told_now : IsWaiting number r.load.phase r.stage → load_awaits r.load.phase w ≡ true → (v : ReqNo) (lists : StreamLists) → p.body ≡ bodies.Stream (streams.Opened v lists) → HasOpened post number
        told_now waits awaits v lists is =
            let same : number ≡ w = same_request number w (subst (λ phase. load_awaits phase w ≡ true) waits.0 awaits) in
            let named : v ≡ w = same_Some v w (sym (ap answered_number is) ∙ number_is) in
            record { packet = p; lists = lists; sent = there; is = is ∙ ap (λ z. bodies.Stream (streams.Opened z lists)) (named ∙ sym same) }

        waiting : IsWaiting number r.load.phase r.stage → Good (P n) s.context (answer_rule s.context r w p.body)
        waiting waits = elim (waiting_answers n r.load.generation r.until number s.context r w p.body (x.stands.0, refl, waits, refl)) [
          | inl still ↦ waits_good (answer_rule s.context r w p.body) still
          | inr on ↦ elim on.1 [
            | inl still ↦ waits_good (answer_rule s.context r w p.body) still
            | inr opened ↦ loads_good (told_now waits on.0 opened.1.0 opened.1.1 opened.1.2) (answer_rule s.context r w p.body) opened.0
          ]
        ]

    -- what a renewal makes of it
    pub renews_so : (p : Packet) → Contains post p → p.to ≡ Server s.context.server → (generation until : ℕ) → p.from ≡ Map → p.body ≡ bodies.Map (maps.Renew n generation until) → r.load.generation ≡ generation →
        P n (max r.until until) r.load r.stage
    renews_so p there to generation until from is same = goes_on (max r.until until) r.load r.stage x.stands.0 refl by x.stands.2
      where
        renewed : IsTold post (record { server = s.context.server; range = n; generation = r.load.generation; until = until })
        renewed =
            subst (λ g. IsTold post (record { server = s.context.server; range = n; generation = g; until = until })) (sym same)
            (told_in post p s.context.server (bodies.Map (maps.Renew n generation until)) _ there from to is refl)

        by : IsTold post (record { server = s.context.server; range = n; generation = r.load.generation; until = max r.until until })
        by = elim (max_cases r.until until) [
          | inl own ↦ leased_to (max r.until until) own
          | inr longer ↦ subst (λ end. IsTold post (record { server = s.context.server; range = n; generation = r.load.generation; until = end })) (sym longer) renewed
        ]
