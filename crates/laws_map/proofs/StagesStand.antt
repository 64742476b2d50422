-- What is kept of the splits at servers, of what they ask for and where: a step of a server keeps it, and what is told without them.
use Rattle.std.proofs.Common.{◌≡◌, ◌⊎◌, ◌≤◌, ◌<◌, ℕ, zero, suc, ◌-◌, ◌==◌, Bool, true, false, List, [], ◌∷◌, ◌++◌, Option, Some, None, slice_set, Contains, refl, sym, ap, ◌∙◌, subst, inl, inr, arith}
use Rattle.std.proofs.lemmas.Bool.{eqb-true, eqb-false}
use Rattle.std.proofs.lemmas.Option.{same_Some}
use Rattle.std.proofs.lemmas.List.Elements.{Contains-append_right, Contains-append_cases}
use Rattle.wire.specs.declared.actor.ActorId.{ActorId}
use Rattle.wire.specs.declared.actor.ActorId.TheVariants as actors
use Rattle.wire.specs.declared.actor.ReqNo.{ReqNo}
use Rattle.wire.specs.declared.actor.ReqNo.TheVariants as requests
use Rattle.wire.specs.declared.body.MapBody.TheVariants as maps
use Rattle.wire.specs.declared.body.StreamBody.TheVariants as streams
use Rattle.wire.specs.declared.body.Body.TheVariants as bodies
use Rattle.wire.specs.declared.packet.Packet.{Packet}
use Rattle.wire.specs.declared.streams.Modify.{Modify}
use Rattle.wire.specs.declared.streams.Source.{Source}
use Rattle.wire.specs.declared.streams.StreamName.{StreamName}
use Rattle.model_streams.specs.Actors.{is_user}
use Rattle.model_streams.specs.Maps.{entry_at}
use Rattle.model_streams.specs.Outcome.{packet}
use Rattle.model_streams.specs.StreamSystem.{StreamSystem}
use Rattle.model_partition.specs.declared.split_job.SplitJob.{SplitJob}
use Rattle.model_partition.specs.declared.split_job.SplitPhase.TheVariants as phases
use Rattle.model_partition.specs.declared.stage.Stage.TheVariants as stages
use Rattle.model_partition.specs.Range.{is_serving}
use Rattle.model_partition.specs.Server.{ServerState, ServerOutcome, split_of}
use Rattle.model_partition.specs.Servers.{ServerCell}
use Rattle.model_partition.specs.Splits.{all_streams}
use Rattle.laws_map.specs.Openings.{Grants, AsksToSplit, IsWaiting, IsOpening, AreOpening, OpeningIf}
use Rattle.laws_map.specs.GivenPairs.{AsksToComplete}
use Rattle.laws_map.specs.Stages.{stage_of, IsNew, JobMoves, AsksToBuild, AsksToEnd, AsksOf, JobBegins, JobFrom, StagesGo}
use Rattle.laws_map.proofs.Knowing.{each_has, found_at}
use Rattle.laws_map.proofs.EventNames.{entry_is}
use Rattle.laws_map.proofs.AskedNumbers.{IsPast, ServersOn, one_on, stepped_cell, entry_set, entry_other}
use Rattle.laws_map.proofs.ServerLoads.{asks_later, opened_later, grown, ServerGoes}
use Rattle.laws_map.proofs.OneOpening.{Whole}

-- somebody asked under this number that these streams are built
pub record AsksList (post : List Packet) (list : List Modify) (q : ReqNo) : Type 0 where
  pub packet : Packet
  pub sent : Contains post packet
  pub is : packet.body ≡ bodies.Stream (streams.MultiModify list q)

-- a server asked that the streams of this split's two ranges are built
abbrev pub AsksBuild : List Packet → SplitJob → Type 0
AsksBuild post job = (q : ReqNo) × AsksList post (all_streams job) q

-- all streams of a list are there
abbrev pub AreThere : (StreamName → Type 0) → List Modify → Type 0
AreThere There list = (m : Modify) → Contains list m → There m.stream

-- A split at a server: its range was opened for that one; where anybody asked for its streams, or for its end, it has come there; it has asked
-- for the streams that it waits for; and from where it says the keys of the two on they are there.
pub record JobStands (post : List Packet) (There : StreamName → Type 0) (s k : ℕ) (job : SplitJob) : Type 0 where
  pub number : job.range ≡ k
  pub session : ℕ
  pub count : ℕ
  pub granted : Grants post k job.generation (requests.Server s session count)
  pub builds : (other : SplitJob) → AsksBuild post other → other.range ≡ job.range → other.generation ≡ job.generation → (2 ≤ stage_of job.phase) × (all_streams other ≡ all_streams job)
  pub ends : AsksToComplete post job.range job.generation → 4 ≤ stage_of job.phase
  pub asked : (q : ReqNo) → job.phase ≡ phases.Build q → (to : ActorId) × Contains post (packet (actors.Server s) to (bodies.Stream (streams.MultiModify (all_streams job) q)))
  pub said : 3 ≤ stage_of job.phase → AsksBuild post job × AreThere There (all_streams job)

-- somebody asked for the streams of this range's split, under this generation, and they are there
pub record HasBuilt (post : List Packet) (There : StreamName → Type 0) (range generation : ℕ) : Type 0 where
  pub job : SplitJob
  pub range_is : job.range ≡ range
  pub generation_is : job.generation ≡ generation
  pub asked : AsksBuild post job
  pub there : AreThere There (all_streams job)

-- So it is of each split; and where it is asked to complete one, the streams of its two ranges are there. All who ask for the streams of one range's split, under one generation, ask for the same; each number under which they
-- ask is of one list; and users alone create streams.
pub record StagesStand (post : List Packet) (There : StreamName → Type 0) (servers : List ServerCell) : Type 0 where
  pub jobs : (s : ℕ) (cell : ServerCell) (st : ServerState) → entry_at servers s ≡ Some cell → cell.state ≡ Some st → (k : ℕ) (job : SplitJob) → split_of st.splits k ≡ Some job → JobStands post There s k job
  pub completed : (range generation : ℕ) → AsksToComplete post range generation → HasBuilt post There range generation
  pub lists : (a b : SplitJob) → AsksBuild post a → AsksBuild post b → a.range ≡ b.range → a.generation ≡ b.generation → all_streams a ≡ all_streams b
  pub once : (q : ReqNo) (l m : List Modify) → AsksList post l q → AsksList post m q → l ≡ m
  pub past : (l : List Modify) (q : ReqNo) → AsksList post l q → IsPast servers q
  pub creates : (p : Packet) → Contains post p → (s : StreamName) (fence : ℕ) (q : ReqNo) → p.body ≡ bodies.Stream (streams.CreateStream s fence q) → is_user p.from ≡ true

-- ---- lists of streams

first_source : List Source → ℕ × ℕ
first_source [] = (0, 0)
first_source (s ∷ sources) = (s.stream.range, s.generation)

source_of : List Modify → ℕ × ℕ
source_of [] = (0, 0)
source_of (m ∷ list) = first_source m.sources

range_after : ℕ → List Modify → ℕ
range_after n [] = 0
range_after zero (m ∷ list) = m.stream.range
range_after (suc n) (m ∷ list) = range_after n list

-- the streams tell their split's range, its generation, and its two numbers
pub same_split : (a b : SplitJob) → all_streams a ≡ all_streams b → (a.range ≡ b.range) × (a.generation ≡ b.generation) × (a.low ≡ b.low) × (a.high ≡ b.high)
unfolding source_of first_source range_after
same_split a b is = (ap (λ l. (source_of l).0) is, ap (λ l. (source_of l).1) is, ap (range_after 0) is, ap (range_after 4) is)

pub same_streams : (a b : SplitJob) → a.range ≡ b.range → a.generation ≡ b.generation → a.low ≡ b.low → a.high ≡ b.high → all_streams a ≡ all_streams b
same_streams a b range generation low high = λ i. all_streams (record { range = range i; generation = generation i; key = a.key; low = low i; high = high i; number = a.number; phase = a.phase })

-- ---- what is told without them

-- it asks to complete no split and to build no streams, and, if it is no user's, to create none
pub record IsApart (p : Packet) : Type 0 where
  pub builds : (list : List Modify) (q : ReqNo) → p.body ≡ bodies.Stream (streams.MultiModify list q) → ⊥
  pub creates : (s : StreamName) (fence : ℕ) (q : ReqNo) → p.body ≡ bodies.Stream (streams.CreateStream s fence q) → is_user p.from ≡ true
  pub ends : (range generation : ℕ) (q : ReqNo) → p.body ≡ bodies.Map (maps.CompleteSplit range generation q) → ⊥

-- The servers have no splits but those that they had, if at all.
abbrev pub HaveNoMore : List ServerCell → List ServerCell → Type 0
HaveNoMore old new = (s : ℕ) (cell : ServerCell) (st : ServerState) → entry_at new s ≡ Some cell → cell.state ≡ Some st → (k : ℕ) (job : SplitJob) → split_of st.splits k ≡ Some job →
    (before : ServerCell) × (was : ServerState) × (entry_at old s ≡ Some before) × (before.state ≡ Some was) × (split_of was.splits k ≡ Some job)

module _ (post later : List Packet) (There Then : StreamName → Type 0) (stay : (name : StreamName) → There name → Then name) (grows : (p : Packet) → Contains post p → Contains later p) (apart : (p : Packet) → Contains later p → Contains post p ⊎ IsApart p) where
  list_before : (l : List Modify) (q : ReqNo) → AsksList later l q → AsksList post l q
  list_before l q a = elim (apart a.packet a.sent) [ inl old ↦ record { packet = a.packet; sent = old; is = a.is } | inr new ↦ absurd (new.builds l q a.is) ]

  end_before : (range generation : ℕ) → AsksToComplete later range generation → AsksToComplete post range generation
  end_before range generation a = elim (apart a.packet a.sent) [
    | inl old ↦ record { packet = a.packet; request = a.request; sent = old; is = a.is }
    | inr new ↦ absurd (new.ends range generation a.request a.is)
  ]

  build_later : (job : SplitJob) → AsksBuild post job → AsksBuild later job
  build_later job (q, a) = (q, record { packet = a.packet; sent = grows a.packet a.sent; is = a.is })

  there_later : (list : List Modify) → AreThere There list → AreThere Then list
  there_later list all m among = stay m.stream (all m among)

  built_later : (range generation : ℕ) → HasBuilt post There range generation → HasBuilt later Then range generation
  built_later range generation b = record { job = b.job; range_is = b.range_is; generation_is = b.generation_is; asked = build_later b.job b.asked; there = there_later (all_streams b.job) b.there }

  job_later : (s k : ℕ) (job : SplitJob) → JobStands post There s k job → JobStands later Then s k job
  job_later s k job j = record {
    number = j.number;
    session = j.session;
    count = j.count;
    granted = (asks_later post later grows k job.generation (requests.Server s j.session j.count) j.granted.0, opened_later post later grows (requests.Server s j.session j.count) j.granted.1);
    builds = λ other a range generation. j.builds other (a.0, list_before (all_streams other) a.0 a.1) range generation;
    ends = λ a. j.ends (end_before job.range job.generation a);
    asked = λ q is. (let x = j.asked q is in (x.0, grows _ x.1));
    said = λ l. (let x = j.said l in (build_later job x.0, there_later (all_streams job) x.1));
  }

  pub quiet_stand : (old new : List ServerCell) → ServersOn old new → HaveNoMore old new → StagesStand post There old → StagesStand later Then new
  quiet_stand old new on back x = record {
    jobs = λ s cell st at up k job is. (let (before, was, there, runs, found) = back s cell st at up k job is in job_later s k job (x.jobs s before was there runs k job found));
    completed = λ range generation a. built_later range generation (x.completed range generation (end_before range generation a));
    lists = λ a b p q. x.lists a b (p.0, list_before (all_streams a) p.0 p.1) (q.0, list_before (all_streams b) q.0 q.1);
    once = λ q l m a b. x.once q l m (list_before l q a) (list_before m q b);
    past = λ l q a. on.past q (x.past l q (list_before l q a));
    creates = λ p there s fence q is. elim (apart p there) [ inl before ↦ x.creates p before s fence q is | inr fresh ↦ fresh.creates s fence q is ];
  }

-- ---- a server goes on

module _ (w : StreamSystem) (There : StreamName → Type 0) (servers : List ServerCell) (h : Whole w servers) (x : StagesStand w.post There servers)
    (splits : (job : SplitJob) → AsksBuild w.post job → (key : List ℕ) × AsksToSplit w.post job.range job.generation key) (ends : (range generation : ℕ) → AsksToComplete w.post range generation → (key : List ℕ) × AsksToSplit w.post range generation key)
    (Heard : ReqNo → Type 0) (s : ℕ) (c : ServerCell) (st : ServerState) (at : entry_at servers s ≡ Some c) (up : c.state ≡ Some st) (o : ServerOutcome) (goes : ServerGoes w.post st o) (go : StagesGo Heard st o)
    (heard : (q : ReqNo) → Heard q → (job : SplitJob) (to : ActorId) → Contains w.post (packet (actors.Server s) to (bodies.Stream (streams.MultiModify (all_streams job) q))) → AreThere There (all_streams job)) where
  abbrev post : List Packet
  post = w.post

  abbrev later : List Packet
  later = w.post ++ o.packets

  abbrev next : ServerCell
  next = record c { state = Some o.after }

  abbrev now : List ServerCell
  now = slice_set servers (s - 1) next

  own : (st.context.server ≡ s) × (st.context.session ≡ c.session)
  own = h.themselves s c at st up

  mine : (k : ℕ) (job : SplitJob) → split_of st.splits k ≡ Some job → JobStands post There s k job
  mine k job is = x.jobs s c st at up k job is

  grow : (p : Packet) → Contains post p → Contains later p
  grow = grown post o.packets

  granted_later : (k g : ℕ) (q : ReqNo) → Grants post k g q → Grants later k g q
  granted_later k g q a = (asks_later post later grow k g q a.0, opened_later post later grow q a.1)

  -- the numbers from its next request on were not used
  fresh : (q : ReqNo) (upto : ℕ) → IsNew st.context upto q → IsPast servers q → ⊥
  fresh q upto n past = go_on (subst (IsPast servers) n.is past)
    where
      go_on : IsPast servers (requests.Server st.context.server st.context.session n.count) → ⊥
      go_on (cell, there, p) =
          let same : cell ≡ c = same_Some cell c (sym there ∙ ap (entry_at servers) own.0 ∙ at) in
          elim p [
            | inl over ↦ absurd (let e = own.1 in let z = ap (λ (y : ServerCell). y.session) same in omega (arith, over, e, z))
            | inr lasts ↦ absurd (let l = lasts.1 st (ap (λ (y : ServerCell). y.state) same ∙ up) in let f = n.from in omega (arith, l, f))
          ]

  build_grown : (job : SplitJob) → AsksBuild post job → AsksBuild later job
  build_grown job (q, a) = (q, record { packet = a.packet; sent = grow a.packet a.sent; is = a.is })

  -- ---- what is asked anew

  -- the split that asks
  abbrev Left : SplitJob → Type 0
  Left job = split_of o.after.splits go.at ≡ Some job

  record NewList (l : List Modify) (q : ReqNo) : Type 0 where
    job : SplitJob
    left : Left job
    is : l ≡ all_streams job
    waits : job.phase ≡ phases.Build q
    new : IsNew st.context o.after.context.count q

  list_cases : (l : List Modify) (q : ReqNo) → AsksList later l q → AsksList post l q ⊎ NewList l q
  list_cases l q a = elim (Contains-append_cases post o.packets a.packet a.sent) [
    | inl old ↦ inl (record { packet = a.packet; sent = old; is = a.is })
    | inr new ↦
        by (subst (AsksOf st.context (split_of st.splits go.at) (split_of o.after.splits go.at) o.after.context.count) a.is
        (each_has (λ (p : Packet). AsksOf st.context (split_of st.splits go.at) (split_of o.after.splits go.at) o.after.context.count p.body) o.packets a.packet go.asks new))
  ]
    where
      by : AsksToBuild st.context (split_of st.splits go.at) (split_of o.after.splits go.at) o.after.context.count l q → AsksList post l q ⊎ NewList l q
      by b = elim b.new [
        | inl was ↦ inl (let y = (mine go.at b.job was).asked q b.waits in subst (λ z. AsksList post z q) (sym b.is) (record { packet = packet (actors.Server s) y.0 (bodies.Stream (streams.MultiModify (all_streams b.job) q)); sent = y.1; is = refl }))
        | inr new ↦ inr (record { job = b.job; left = b.left; is = b.is; waits = b.waits; new = new })
      ]

  record NewEnd (range generation : ℕ) : Type 0 where
    job : SplitJob
    left : Left job
    range_is : range ≡ job.range
    generation_is : generation ≡ job.generation
    ends_so : 4 ≤ stage_of job.phase

  end_cases : (range generation : ℕ) → AsksToComplete later range generation → AsksToComplete post range generation ⊎ NewEnd range generation
  end_cases range generation a = elim (Contains-append_cases post o.packets a.packet a.sent) [
    | inl old ↦ inl (record { packet = a.packet; request = a.request; sent = old; is = a.is })
    | inr new ↦
        inr (by (subst (AsksOf st.context (split_of st.splits go.at) (split_of o.after.splits go.at) o.after.context.count) a.is
        (each_has (λ (p : Packet). AsksOf st.context (split_of st.splits go.at) (split_of o.after.splits go.at) o.after.context.count p.body) o.packets a.packet go.asks new)))
  ]
    where
      by : AsksToEnd (split_of o.after.splits go.at) range generation → NewEnd range generation
      by e = record { job = e.job; left = e.left; range_is = e.range_is; generation_is = e.generation_is; ends_so = e.ends }

  -- it was under way before, and is of its range
  record WasSo (job : SplitJob) : Type 0 where
    old : SplitJob
    was : split_of st.splits go.at ≡ Some old
    moves : JobMoves Heard st.context old o.packets job

  was_so : (job : SplitJob) → Left job → 1 ≤ stage_of job.phase → WasSo job
  was_so job left come = by (split_of st.splits go.at) refl (go.jobs go.at job left).1
    where
      by : (old : Option SplitJob) → split_of st.splits go.at ≡ old → JobFrom Heard st go.at old o.packets job → WasSo job
      by None is b = absurd (let z = b.first in omega (arith, z, come))
      by (Some old) is m = record { old = old; was = is; moves = m }

  its_range : (job : SplitJob) → WasSo job → job.range ≡ go.at
  its_range job y = y.moves.range ∙ (mine go.at y.old y.was).number

  -- a split of the same range that this server is left with is the one that asks
  same_job : (job : SplitJob) → Left job → WasSo job → (k : ℕ) (other : SplitJob) → split_of o.after.splits k ≡ Some other → job.range ≡ k → job ≡ other
  same_job job left y k other found range =
      same_Some job other (sym left ∙ ap (split_of o.after.splits) (sym (its_range job y) ∙ range) ∙ found)

  stage_two : (phase : _) (q : ReqNo) → phase ≡ phases.Build q → stage_of phase ≡ 2
  stage_two phase q is = ap stage_of is

  -- ---- a split that begins

  module _ (k : ℕ) (b : SplitJob) (j : JobBegins st.ranges k b) (free : split_of st.splits k ≡ None) where
    opening : IsOpening post st.context.server st.context.session k j.held
    opening =
        let a : AreOpening post st = subst (OpeningIf post) up (entry_is (λ (cell : ServerCell). OpeningIf post cell.state) servers s c h.held at) in
        found_at (IsOpening post st.context.server st.context.session) st.ranges k j.held a.ranges j.found

    not_waiting : (q : ReqNo) → IsWaiting q j.held.load.phase j.held.stage → ⊥
    not_waiting q waits = let e : is_serving stages.Opening ≡ true = subst (λ stage. is_serving stage ≡ true) waits.1 j.serves in cc

    begun_granted : Grants post k b.generation (requests.Server s st.context.session opening.count)
    begun_granted =
        subst (λ g. Grants post k g (requests.Server s st.context.session opening.count)) (sym j.generation)
        (subst (λ n. Grants post k j.held.load.generation (requests.Server n st.context.session opening.count)) own.0
        (opening.asked, elim opening.stands.2 [ inl waits ↦ absurd (not_waiting _ waits) | inr told ↦ told.1 ]))

    begun_range : b.range ≡ k
    begun_range = j.range ∙ opening.stands.0

    -- nobody asked for a split of it
    not_split : (key : List ℕ) → AsksToSplit post k b.generation key → ⊥
    not_split key a =
        let y = h.splits k b.generation key a in
        let one = h.openings.one k b.generation (requests.Server y.server y.session y.count) (requests.Server s st.context.session opening.count) y.granted begun_granted in
        let server : y.server ≡ s = cc in
        let session : y.session ≡ st.context.session = cc in
        elim (y.speaks c (ap (entry_at servers) server ∙ at) (sym own.1 ∙ sym session) st up j.held j.found (sym j.generation)) [
          | inl waits ↦ not_waiting waits.0 waits.1
          | inr z ↦ (let e : Some z.job ≡ None = sym z.there ∙ free in cc)
        ]

    no_build : (other : SplitJob) → AsksBuild post other → other.range ≡ b.range → other.generation ≡ b.generation → ⊥
    no_build other a range generation =
        let (key, asked) = splits other a in
        not_split key (subst (λ n. AsksToSplit post n b.generation key) (range ∙ begun_range) (subst (λ g. AsksToSplit post other.range g key) generation asked))

    no_end : AsksToComplete post b.range b.generation → ⊥
    no_end a = let (key, asked) = ends b.range b.generation a in not_split key (subst (λ n. AsksToSplit post n b.generation key) begun_range asked)

    begun_stands : split_of o.after.splits k ≡ Some b → JobStands later There s k b
    begun_stands found = record {
      number = begun_range;
      session = st.context.session;
      count = opening.count;
      granted = granted_later k b.generation (requests.Server s st.context.session opening.count) begun_granted;
      builds = λ other a range generation. elim (list_cases (all_streams other) a.0 a.1) [
        | inl old ↦ absurd (no_build other (a.0, old) range generation)
        | inr new ↦ absurd (
            let two = stage_two new.job.phase a.0 new.waits in
            let y = was_so new.job new.left (omega (arith, two)) in
            let same = same_job new.job new.left y k b found (sym (same_split other new.job new.is).0 ∙ range ∙ begun_range) in
            let z = ap (λ (i : SplitJob). stage_of i.phase) same in
            let f = j.first in
            omega (arith, two, z, f)
            )
      ];
      ends = λ a. elim (end_cases b.range b.generation a) [
        | inl old ↦ absurd (no_end old)
        | inr new ↦ absurd (
            let four = new.ends_so in
            let y = was_so new.job new.left (omega (arith, four)) in
            let same = same_job new.job new.left y k b found (sym new.range_is ∙ begun_range) in
            let z = ap (λ (i : SplitJob). stage_of i.phase) same in
            let f = j.first in
            omega (arith, four, z, f)
            )
      ];
      asked = λ q is. absurd (let two = stage_two b.phase q is in let f = j.first in omega (arith, two, f));
      said = λ l. absurd (let f = j.first in omega (arith, l, f));
    }

  -- ---- a split that goes on

  module _ (k : ℕ) (old job : SplitJob) (was : split_of st.splits k ≡ Some old) (m : JobMoves Heard st.context old o.packets job) (found : split_of o.after.splits k ≡ Some job) where
    abbrev i : JobStands post There s k old
    i = mine k old was

    number : job.range ≡ k
    number = m.range ∙ i.number

    moved_stands : JobStands later There s k job
    moved_stands = record {
      number = number;
      session = i.session;
      count = i.count;
      granted = subst (λ g. Grants later k g (requests.Server s i.session i.count)) (sym m.generation) (granted_later k old.generation (requests.Server s i.session i.count) i.granted);
      builds = λ other a range generation. elim (list_cases (all_streams other) a.0 a.1) [
        | inl before ↦ (
            let y = i.builds other (a.0, before) (range ∙ m.range) (generation ∙ m.generation) in
            let two = y.0 in
            let on = m.stage in
            let come : 1 ≤ stage_of old.phase = omega (arith, two) in
            (omega (arith, two, on), y.1 ∙ same_streams old job (sym m.range) (sym m.generation) (sym (m.low come)) (sym (m.high come)))
            )
        | inr new ↦ (
            let two = stage_two new.job.phase a.0 new.waits in
            let y = was_so new.job new.left (omega (arith, two)) in
            let same = same_job new.job new.left y k job found (sym (same_split other new.job new.is).0 ∙ range ∙ number) in
            let z = ap (λ (y : SplitJob). stage_of y.phase) same in
            (omega (arith, two, z), new.is ∙ ap all_streams same)
            )
      ];
      ends = λ a. elim (end_cases job.range job.generation a) [
        | inl before ↦ (
            let four = i.ends (subst (λ n. AsksToComplete post n old.generation) m.range (subst (λ g. AsksToComplete post job.range g) m.generation before)) in
            let on = m.stage in
            omega (arith, four, on)
            )
        | inr new ↦ (
            let four = new.ends_so in
            let y = was_so new.job new.left (omega (arith, four)) in
            let same = same_job new.job new.left y k job found (sym new.range_is ∙ number) in
            let z = ap (λ (y : SplitJob). stage_of y.phase) same in
            omega (arith, four, z)
            )
      ];
      asked = λ q is. elim (m.builds q is) [
        | inl same ↦ (let y = i.asked q (ap (λ (y : SplitJob). y.phase) same ∙ is) in (y.0, grow _ (subst (λ (z : SplitJob). Contains post (packet (actors.Server s) y.0 (bodies.Stream (streams.MultiModify (all_streams z) q)))) same y.1)))
        | inr sent ↦ (actors.Manager, Contains-append_right post o.packets _ (subst (λ n. Contains o.packets (packet (actors.Server n) actors.Manager (bodies.Stream (streams.MultiModify (all_streams job) q)))) own.0 sent))
      ];
      said = λ l. elim (m.said l) [
        | inl before ↦ (let y = i.said before in on (omega (arith, before)) (build_grown old y.0) y.1)
        | inr (q, is, hears) ↦ (
            let y = i.asked q is in
            let two = stage_two old.phase q is in
            on (omega (arith, two)) (q, record { packet = packet (actors.Server s) y.0 (bodies.Stream (streams.MultiModify (all_streams old) q)); sent = grow _ y.1; is = refl }) (heard q hears old y.0 y.1)
            )
      ];
    }
      where
        on : 1 ≤ stage_of old.phase → AsksBuild later old → AreThere There (all_streams old) → AsksBuild later job × AreThere There (all_streams job)
        on come asks there =
            let same : all_streams old ≡ all_streams job = same_streams old job (sym m.range) (sym m.generation) (sym (m.low come)) (sym (m.high come)) in
            ((asks.0, subst (λ l. AsksList later l asks.0) same asks.1), subst (AreThere There) same there)

  -- ---- a split at another server

  module _ (t : ℕ) (other_server : t ≡ s → ⊥) (k : ℕ) (job : SplitJob) (i : JobStands post There t k job) where
    -- it is none that this one asks for
    not_here : (asks : SplitJob) → WasSo asks → asks.range ≡ job.range → asks.generation ≡ job.generation → ⊥
    not_here asks y range generation =
        let z = mine go.at y.old y.was in
        let here : Grants post k job.generation (requests.Server s z.session z.count) =
        subst (λ n. Grants post n job.generation (requests.Server s z.session z.count)) (sym (its_range asks y) ∙ range ∙ i.number)
        (subst (λ g. Grants post go.at g (requests.Server s z.session z.count)) (sym y.moves.generation ∙ generation) z.granted) in
        let one = h.openings.one k job.generation (requests.Server t i.session i.count) (requests.Server s z.session z.count) i.granted here in
        let same : t ≡ s = cc in
        other_server same

    other_stands : JobStands later There t k job
    other_stands = record {
      number = i.number;
      session = i.session;
      count = i.count;
      granted = granted_later k job.generation (requests.Server t i.session i.count) i.granted;
      builds = λ other a range generation. elim (list_cases (all_streams other) a.0 a.1) [
        | inl before ↦ i.builds other (a.0, before) range generation
        | inr new ↦ absurd (
            let two = stage_two new.job.phase a.0 new.waits in
            let same = same_split other new.job new.is in
            not_here new.job (was_so new.job new.left (omega (arith, two))) (sym same.0 ∙ range) (sym same.1 ∙ generation)
            )
      ];
      ends = λ a. elim (end_cases job.range job.generation a) [
        | inl before ↦ i.ends before
        | inr new ↦ absurd (let four = new.ends_so in not_here new.job (was_so new.job new.left (omega (arith, four))) (sym new.range_is) (sym new.generation_is))
      ];
      asked = λ q is. (let y = i.asked q is in (y.0, grow _ y.1));
      said = λ l. (let y = i.said l in (build_grown job y.0, y.1));
    }

  -- ---- all of them

  jobs_now : (t : ℕ) (cell : ServerCell) (z : ServerState) → entry_at now t ≡ Some cell → cell.state ≡ Some z → (k : ℕ) (job : SplitJob) → split_of z.splits k ≡ Some job → JobStands later There t k job
  jobs_now t cell z there is k job found = by (t == s) refl
    where
      here : split_of o.after.splits k ≡ Some job → JobStands later There s k job
      here found = on (split_of st.splits k) refl (go.jobs k job found).1
        where
          on : (old : Option SplitJob) → split_of st.splits k ≡ old → JobFrom Heard st k old o.packets job → JobStands later There s k job
          on None free b = begun_stands k job b free found
          on (Some old) was m = moved_stands k old job was m found

      by : (b : Bool) → (t == s) ≡ b → JobStands later There t k job
      by true e =
          let same : t ≡ s = eqb-true t s e in
          let own_cell : next ≡ cell = same_Some next cell (sym (entry_set servers s c next at) ∙ sym (ap (entry_at now) same) ∙ there) in
          let after : o.after ≡ z = same_Some o.after z (ap (λ (y : ServerCell). y.state) own_cell ∙ is) in
          subst (λ n. JobStands later There n k job) (sym same) (here (ap (λ (y : ServerState). split_of y.splits k) after ∙ found))
      by false e =
          let apart : t ≡ s → ⊥ = λ same. absurd (eqb-false t s e same) in
          other_stands t apart k job (x.jobs t cell z (sym (entry_other servers s c next at t apart) ∙ there) is k job found)

  lists_now : (a b : SplitJob) → AsksBuild later a → AsksBuild later b → a.range ≡ b.range → a.generation ≡ b.generation → all_streams a ≡ all_streams b
  lists_now a b p q range generation = elim (list_cases (all_streams a) p.0 p.1) [
    | inl old ↦ elim (list_cases (all_streams b) q.0 q.1) [
      | inl also ↦ x.lists a b (p.0, old) (q.0, also) range generation
      | inr new ↦ mixed a (p.0, old) b q.0 new range generation
    ]
    | inr new ↦ elim (list_cases (all_streams b) q.0 q.1) [
      | inl also ↦ sym (mixed b (q.0, also) a p.0 new (sym range) (sym generation))
      | inr more ↦ (let same : new.job ≡ more.job = same_Some new.job more.job (sym new.left ∙ more.left) in new.is ∙ ap all_streams same ∙ sym more.is)
    ]
  ]
    where
      mixed : (a : SplitJob) → AsksBuild post a → (b : SplitJob) (q : ReqNo) → NewList (all_streams b) q → a.range ≡ b.range → a.generation ≡ b.generation → all_streams a ≡ all_streams b
      mixed a old b q new range generation =
          let two = stage_two new.job.phase q new.waits in
          let y = was_so new.job new.left (omega (arith, two)) in
          let same = same_split b new.job new.is in
          let z = (mine go.at y.old y.was).builds a old (range ∙ same.0 ∙ y.moves.range) (generation ∙ same.1 ∙ y.moves.generation) in
          let come : 1 ≤ stage_of y.old.phase = (let l = z.0 in omega (arith, l)) in
          z.1 ∙ same_streams y.old new.job (sym y.moves.range) (sym y.moves.generation) (sym (y.moves.low come)) (sym (y.moves.high come)) ∙ sym new.is

  completed_now : (range generation : ℕ) → AsksToComplete later range generation → HasBuilt later There range generation
  completed_now range generation a = elim (end_cases range generation a) [
    | inl old ↦ (let b = x.completed range generation old in record { job = b.job; range_is = b.range_is; generation_is = b.generation_is; asked = build_grown b.job b.asked; there = b.there })
    | inr new ↦ (
        let four = new.ends_so in
        let y = was_so new.job new.left (omega (arith, four)) in
        let z = (moved_stands go.at y.old new.job y.was y.moves new.left).said (omega (arith, four)) in
        record { job = new.job; range_is = sym new.range_is; generation_is = sym new.generation_is; asked = z.0; there = z.1 }
        )
  ]

  on_now : ServersOn servers now
  on_now = one_on servers s c next at (stepped_cell s c st o.after up goes.count goes.server goes.session)

  pub server_stand : StagesStand later There now
  server_stand = record {
    jobs = jobs_now;
    completed = completed_now;
    lists = lists_now;
    once = λ q l m a b. elim (list_cases l q a) [
      | inl old ↦ elim (list_cases m q b) [ inl also ↦ x.once q l m old also | inr new ↦ absurd (fresh q o.after.context.count new.new (x.past l q old)) ]
      | inr new ↦ elim (list_cases m q b) [
        | inl also ↦ absurd (fresh q o.after.context.count new.new (x.past m q also))
        | inr more ↦ (let same : new.job ≡ more.job = same_Some new.job more.job (sym new.left ∙ more.left) in new.is ∙ ap all_streams same ∙ sym more.is)
      ]
    ];
    past = λ l q a. elim (list_cases l q a) [
      | inl old ↦ on_now.past q (x.past l q old)
      | inr new ↦ subst (IsPast now) (sym new.new.is) (
        next,
        ap (entry_at now) own.0 ∙ entry_set servers s c next at,
        inr (own.1, λ t e. (let same : o.after ≡ t = same_Some o.after t e in let l = new.new.below in subst (λ (y : ServerState). new.new.count < y.context.count) same l)),
      )
    ];
    creates = λ p there name fence q is. elim (Contains-append_cases post o.packets p there) [
      | inl old ↦ x.creates p old name fence q is
      | inr new ↦ absurd (subst (AsksOf st.context (split_of st.splits go.at) (split_of o.after.splits go.at) o.after.context.count) is
          (each_has (λ (y : Packet). AsksOf st.context (split_of st.splits go.at) (split_of o.after.splits go.at) o.after.context.count y.body) o.packets p go.asks new))
    ];
  }
