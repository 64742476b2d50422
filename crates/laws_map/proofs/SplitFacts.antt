-- What of splits is so in every run without merges: of whom the two ranges are that one makes, when their streams are asked for and are there, and
-- when somebody may hold them.
use Rattle.std.proofs.Common.{◌≡◌, ◌⊎◌, ℕ, zero, suc, ◌≤◌, ◌<◌, List, [], ◌∷◌, Some, None, Contains, refl, sym, ap, ◌∙◌, subst, inl, inr, arith}
use Rattle.std.proofs.lemmas.Option.{same_Some}
use Rattle.wire.specs.declared.actor.ReqNo.{ReqNo}
use Rattle.wire.specs.declared.actor.ReqNo.TheVariants as requests
use Rattle.wire.specs.declared.body.Body.TheVariants as bodies
use Rattle.wire.specs.declared.body.StreamBody.TheVariants as streams
use Rattle.wire.specs.declared.packet.Packet.{Packet}
use Rattle.wire.specs.declared.streams.Modify.{Modify}
use Rattle.wire.specs.declared.streams.StreamKind.TheVariants as kinds
use Rattle.streams.specs.Streams.{stream_of}
use Rattle.model_streams.specs.declared.event.Event.{Event}
use Rattle.model_streams.specs.declared.event.Event.TheVariants.{Deliver, Assign, Renew}
use Rattle.model_streams.specs.Maps.{entry_at}
use Rattle.model_partition.specs.declared.split_job.SplitJob.{SplitJob}
use Rattle.model_partition.specs.declared.split_job.SplitPhase.{SplitPhase}
use Rattle.model_partition.specs.declared.split_job.SplitPhase.TheVariants as phases
use Rattle.model_partition.specs.Map.{range_at}
use Rattle.model_partition.specs.Range.{RangeState}
use Rattle.model_partition.specs.Server.{ServerState, range_of, split_of, started}
use Rattle.model_partition.specs.Servers.{ServerCell, first_servers, first_pick}
use Rattle.model_partition.specs.Splits.{all_streams}
use Rattle.model_partition.specs.Cluster.{Cluster, IsUnmerged, AreUnmerged, cluster_after, cluster_after_all, first_cluster}
use Rattle.laws_map.specs.Naming.{Each, Knowledge, IsSplit, PhaseNames, JobNames, RangeNames, ServerNames, StateNames}
use Rattle.laws_map.specs.GivenPairs.{given_to, HasNumber, AsksToComplete, IsCompleted, giving}
use Rattle.laws_map.specs.Openings.{Grants}
use Rattle.laws_map.specs.Stages.{stage_of}
use Rattle.laws_map.proofs.Knowing.{found_at}
use Rattle.laws_map.proofs.EventNames.{entry_is}
use Rattle.laws_streams.proofs.Choices.{contains_get}
use Rattle.laws_map.proofs.SoundMaps.{RuleLeaves, event_leaves}
use Rattle.laws_map.proofs.WithinMaps.{assign_told, renew_told, map_told}
use Rattle.laws_map.proofs.GivenNumbers.{first_stream}
use Rattle.laws_map.proofs.GenerationsInRuns.{Governs, event_governs, first_governs}
use Rattle.laws_map.proofs.AskedKeys.{WholeOf, event_whole, first_whole}
use Rattle.laws_map.proofs.GivenInRuns.{GivesNow, event_gives, event_settled, first_gives}
use Rattle.laws_map.proofs.StagesStand.{AsksBuild, JobStands, same_split}
use Rattle.laws_map.proofs.ManagerBirths.{IsIn, AllIn}
use Rattle.laws_map.proofs.StagesKept.{IsGiven, list_of, given_of, same_of, apart_of}
use Rattle.laws_map.proofs.StagesInRuns.{StandOf, event_stands}

-- ---- what is known

pub record KnowsSplits (c : Cluster) : Type 0 where
  pub governs : Governs c
  pub gives : GivesNow c governs
  pub whole : WholeOf c
  pub stand : StandOf c

unfoldable pub event_knows : (c : Cluster) (event : Event) → IsUnmerged event → KnowsSplits c → KnowsSplits (cluster_after c event)
event_knows c event unmerged k = record {
  governs = event_governs c event unmerged k.governs;
  gives = event_gives c k.governs k.gives event unmerged;
  whole = event_whole c k.whole event unmerged;
  stand = event_stands c k.governs k.gives k.whole k.stand event unmerged;
}

-- a number that was given was given
given_on : (c : Cluster) (k : KnowsSplits c) (event : Event) (n : ℕ) → n < c.map.next → n < (cluster_after c event).map.next
given_on c k event n less = event_leaves (λ a. n < a.next) c less event (by event)
  where
    by : (event : Event) → RuleLeaves (λ a. n < a.next) c less event
    by (Deliver number) = λ p at. (map_told k.governs.asks c.map k.governs.sound p (k.governs.names.post p (contains_get c.stream_layer.post number p at))).extends.numbers n less
    by (Assign range server until) = (assign_told k.governs.asks c.map k.governs.sound range server until (range_at c.map.ranges range) refl).extends.numbers n less
    by (Renew range server until) = λ free. (renew_told k.governs.asks c.map k.governs.sound range server until (range_at c.map.ranges range) refl).extends.numbers n less
    by event = tt

-- the number was given, and if it is of a split, somebody asked to complete that: a server may hold the range
abbrev pub MayHold : (c : Cluster) → KnowsSplits c → ℕ → Type 0
MayHold c k n = (n < c.map.next) × IsCompleted k.gives.given c.stream_layer.post n

-- it may be so still
pub event_may : (c : Cluster) (event : Event) (unmerged : IsUnmerged event) (k : KnowsSplits c) (n : ℕ) → MayHold c k n → MayHold (cluster_after c event) (event_knows c event unmerged k) n
unfolding event_knows
event_may c event unmerged k n (less, done) = (given_on c k event n less, event_settled c k.governs k.gives event unmerged n less done)

first_state : (batch n count s : ℕ) (cell : ServerCell) (st : ServerState) → entry_at (first_servers batch n count) s ≡ Some cell → cell.state ≡ Some st → st.splits ≡ []
first_state batch n count s cell st at up = by (entry_is (λ (y : ServerCell). (z : ServerState) → y.state ≡ Some z → z.splits ≡ []) (first_servers batch n count) s cell (all batch n count) at) up
  where
    all : (batch n count : ℕ) → Each (λ (y : ServerCell). (z : ServerState) → y.state ≡ Some z → z.splits ≡ []) (first_servers batch n count)
    all batch n zero = tt
    all batch n (suc more) = ((λ z is. sym (ap (λ (y : ServerState). y.splits) (same_Some (started n 1 0 first_pick batch) z is))), all batch (suc n) more)

    by : ((z : ServerState) → cell.state ≡ Some z → z.splits ≡ []) → cell.state ≡ Some st → st.splits ≡ []
    by f up = f st up

none_in : {p : Packet} → Contains [] p → ⊥
none_in there = let less = there.1 in omega (arith, less)

pub first_knows : (nodes servers target batch : ℕ) → KnowsSplits (first_cluster nodes servers target batch)
first_knows nodes servers target batch = record {
  governs = first_governs nodes servers target batch;
  gives = first_gives nodes servers target batch;
  whole = first_whole nodes servers target batch;
  stand = record {
    stages = record {
      jobs = λ s cell st at up k job found. absurd (none_split s cell st at up k job found);
      completed = λ range generation a. absurd (none_in a.sent);
      lists = λ a b p q. absurd (none_in p.1.sent);
      once = λ q l m a b. absurd (none_in a.sent);
      past = λ l q a. absurd (none_in a.sent);
      creates = λ p there. absurd (none_in there);
    };
    told = λ p there. absurd (none_in there);
    together = λ name there. inl (let one = (first_stream name.range _ there.0 there.1).0 in omega (arith, one));
    held = λ s cell st at up k job found. absurd (none_split s cell st at up k job found);
  };
}
  where
    none_split : (s : ℕ) (cell : ServerCell) (st : ServerState) → entry_at (first_servers batch 1 servers) s ≡ Some cell → cell.state ≡ Some st → (k : ℕ) (job : SplitJob) → split_of st.splits k ≡ Some job → ⊥
    none_split s cell st at up k job found = let z : None ≡ Some job = ap (λ l. split_of l k) (sym (first_state batch 1 servers s cell st at up)) ∙ found in cc

pub all_knows : (events : List Event) → AreUnmerged events → (c : Cluster) → KnowsSplits c → KnowsSplits (cluster_after_all c events)
all_knows [] are c k = k
all_knows (event ∷ events) are c k = all_knows events are.1 (cluster_after c event) (event_knows c event are.0 k)

-- ---- what that means

-- one of the two ranges of a split
abbrev pub IsSide : ℕ → SplitJob → Type 0
IsSide n job = (n ≡ job.low) ⊎ (n ≡ job.high)

-- a split at a server
pub record JobAt (servers : List ServerCell) (s k : ℕ) (job : SplitJob) : Type 0 where
  pub cell : ServerCell
  pub state : ServerState
  pub there : entry_at servers s ≡ Some cell
  pub runs : cell.state ≡ Some state
  pub found : split_of state.splits k ≡ Some job

module _ (c : Cluster) (k : KnowsSplits c) where
  abbrev K : Knowledge
  K = giving k.gives.given k.governs.asks c.stream_layer.post c.map.next

  pub names_of : (s : ℕ) (cell : ServerCell) (st : ServerState) → entry_at c.servers s ≡ Some cell → cell.state ≡ Some st → ServerNames K st
  names_of s cell st at up = subst (StateNames K) up (entry_is (λ (y : ServerCell). StateNames K y.state) c.servers s cell k.gives.gives.names.servers at)

  stands : (s n : ℕ) (job : SplitJob) → JobAt c.servers s n job → JobStands c.stream_layer.post (IsIn c.stream_layer.catalog.stream) s n job
  stands s n job j = k.stand.stages.jobs s j.cell j.state j.there j.runs n job j.found

  given_at : (s n : ℕ) (job : SplitJob) → JobAt c.servers s n job → 1 ≤ stage_of job.phase → IsGiven k.gives.given k.governs.asks job
  given_at s n job j come =
      let names : JobNames K n job = found_at (JobNames K) j.state.splits n job (names_of s j.cell j.state j.there j.runs).splits j.found in
      pair job.phase come names.phase
    where
      of_split : IsSplit K job → IsGiven k.gives.given k.governs.asks job
      of_split s = record { key = job.key; pair = s.0; request = s.1.0; asked = s.1.1 }

      pair : (phase : SplitPhase) → 1 ≤ stage_of phase → PhaseNames K job phase → IsGiven k.gives.given k.governs.asks job
      pair (phases.Begin q) come p = absurd (omega (arith, come))
      pair (phases.Keys side x) come p = of_split p.0
      pair phases.Checkpoint come p = of_split p
      pair phases.Queue come p = of_split p
      pair phases.Record come p = of_split p
      pair (phases.Seal kind q) come p = of_split p
      pair (phases.Build q) come p = of_split p
      pair (phases.Complete q) come p = of_split p

  asked_given : (job : SplitJob) → AsksBuild c.stream_layer.post job → IsGiven k.gives.given k.governs.asks job
  asked_given job a = given_of c.stream_layer k.gives.given k.governs.asks c.map.next k.gives.gives.map.below k.gives.gives.names.post job a

  same_given : (a b : SplitJob) → IsGiven k.gives.given k.governs.asks a → IsGiven k.gives.given k.governs.asks b → (n : ℕ) → IsSide n a → IsSide n b → all_streams a ≡ all_streams b
  same_given a b x y n one two = same_of c.stream_layer k.gives.given k.governs.asks c.map.next k.gives.gives.map.below k.gives.gives.names.post a b x y n one two

  -- Two splits at servers that make one range are one.
  pub split_alone : (s t n m : ℕ) (a b : SplitJob) → JobAt c.servers s n a → JobAt c.servers t m b → 1 ≤ stage_of a.phase → 1 ≤ stage_of b.phase → (child : ℕ) → IsSide child a → IsSide child b → (s ≡ t) × (n ≡ m)
  split_alone s t n m a b i j come came child one two =
      let same = same_split a b (same_given a b (given_at s n a i come) (given_at t m b j came) child one two) in
      let x = stands s n a i in
      let y = stands t m b j in
      let range : n ≡ m = sym x.number ∙ same.0 ∙ y.number in
      let granted : Grants c.stream_layer.post n a.generation (requests.Server t y.session y.count) =
      subst (λ z. Grants c.stream_layer.post z a.generation (requests.Server t y.session y.count)) (sym range) (subst (λ g. Grants c.stream_layer.post m g (requests.Server t y.session y.count)) (sym same.1) y.granted) in
      let once = k.whole.openings.one n a.generation (requests.Server s x.session x.count) (requests.Server t y.session y.count) x.granted granted in
      let server : s ≡ t = cc in
      (server, range)

  -- its two ranges are different
  pub split_apart : (s n : ℕ) (job : SplitJob) → JobAt c.servers s n job → 1 ≤ stage_of job.phase → job.low ≡ job.high → ⊥
  split_apart s n job j come = (apart_of c.stream_layer k.gives.given k.governs.asks c.map.next k.gives.gives.map.below k.gives.gives.names.post job (given_at s n job j come)).0

  -- so are those of one for whose streams somebody asked
  pub asked_apart : (job : SplitJob) → AsksBuild c.stream_layer.post job → job.low ≡ job.high → ⊥
  asked_apart job a = (apart_of c.stream_layer k.gives.given k.governs.asks c.map.next k.gives.gives.map.below k.gives.gives.names.post job (asked_given job a)).0

  -- and above the first range's number
  pub split_above : (s n : ℕ) (job : SplitJob) → JobAt c.servers s n job → 1 ≤ stage_of job.phase → (child : ℕ) → IsSide child job → child ≤ 1 → ⊥
  split_above s n job j come child side small = (apart_of c.stream_layer k.gives.given k.governs.asks c.map.next k.gives.gives.map.below k.gives.gives.names.post job (given_at s n job j come)).1 child side small

  -- where their streams were asked for it has come there, and they are asked for as it has them
  pub split_builds : (s n : ℕ) (job : SplitJob) → JobAt c.servers s n job → 1 ≤ stage_of job.phase → (other : SplitJob) → AsksBuild c.stream_layer.post other → (child : ℕ) → IsSide child other → IsSide child job →
      (2 ≤ stage_of job.phase) × (all_streams other ≡ all_streams job)
  split_builds s n job j come other a child one two =
      let same = same_split other job (same_given other job (asked_given other a) (given_at s n job j come) child one two) in
      (stands s n job j).builds other a same.0 same.1

  -- where it says their keys their streams are there
  pub split_there : (s n : ℕ) (job : SplitJob) → JobAt c.servers s n job → 3 ≤ stage_of job.phase → AsksBuild c.stream_layer.post job × AllIn c.stream_layer.catalog.stream (all_streams job)
  split_there s n job j said = (stands s n job j).said said

  -- a range that was assigned is none of a split that nobody asked to complete
  assigned_ends : (job : SplitJob) → IsGiven k.gives.given k.governs.asks job → (child : ℕ) → IsSide child job → IsCompleted k.gives.given c.stream_layer.post child → AsksToComplete c.stream_layer.post job.range job.generation
  assigned_ends job x child side completed = completed (given_to job.range job.generation x.key job.low job.high) x.pair (has side)
    where
      has : IsSide child job → HasNumber child (given_to job.range job.generation x.key job.low job.high)
      has (inl e) = inl (sym e)
      has (inr e) = inr (sym e)

  -- what a server holds was assigned
  pub held_assigned : (s : ℕ) (cell : ServerCell) (st : ServerState) → entry_at c.servers s ≡ Some cell → cell.state ≡ Some st → (child : ℕ) (r : RangeState) → range_of st.ranges child ≡ Some r → MayHold c k child
  held_assigned s cell st at up child r found = (found_at (RangeNames K) st.ranges child r (names_of s cell st at up).ranges found).known

  -- until it asks to be completed its ranges are not assigned
  pub split_unassigned : (s n : ℕ) (job : SplitJob) → JobAt c.servers s n job → 1 ≤ stage_of job.phase → stage_of job.phase ≤ 3 → (child : ℕ) → IsSide child job → MayHold c k child → ⊥
  split_unassigned s n job j come before child side (given, completed) =
      let four = (stands s n job j).ends (assigned_ends job (given_at s n job j come) child side completed) in
      omega (arith, four, before)

  -- ---- where streams are built that are not there yet

  -- a list that the manager takes is of a split
  pub taken_list : (p : Packet) → Contains c.stream_layer.post p → (list : List Modify) (q : ReqNo) → p.body ≡ bodies.Stream (streams.MultiModify list q) → (job : SplitJob) × (list ≡ all_streams job) × AsksBuild c.stream_layer.post job
  taken_list p there list q is =
      let b = list_of c.stream_layer k.gives.given k.governs.asks c.map.next k.gives.gives.map.below k.gives.gives.names.post p there list q is in
      (b.job, b.is, (q, record { packet = p; sent = there; is = is ∙ ap (λ l. bodies.Stream (streams.MultiModify l q)) b.is }))

  -- the first stream of one of the two
  pub first_of : (job : SplitJob) (child : ℕ) → IsSide child job → AllIn c.stream_layer.catalog.stream (all_streams job) → IsIn c.stream_layer.catalog.stream (record { range = child; kind = kinds.Metadata })
  first_of job child (inl e) all = subst (λ n. IsIn c.stream_layer.catalog.stream (record { range = n; kind = kinds.Metadata })) (sym e) (all _ (0, omega arith, refl))
  first_of job child (inr e) all = subst (λ n. IsIn c.stream_layer.catalog.stream (record { range = n; kind = kinds.Metadata })) (sym e) (all _ (4, omega arith, refl))

  module _ (job : SplitJob) (a : AsksBuild c.stream_layer.post job) (child : ℕ) (side : IsSide child job) (absent : stream_of c.stream_layer.catalog.stream (record { range = child; kind = kinds.Metadata }) ≡ None) where
    not_there : IsIn c.stream_layer.catalog.stream (record { range = child; kind = kinds.Metadata }) → ⊥
    not_there (z, is) = let e : None ≡ Some z = sym absent ∙ is in cc

    -- the range was never assigned
    pub new_unassigned : MayHold c k child → ⊥
    new_unassigned (given, completed) =
        let b = k.stand.stages.completed job.range job.generation (assigned_ends job (asked_given job a) child side completed) in
        let same = k.stand.stages.lists b.job job b.asked a b.range_is b.generation_is in
        not_there (first_of job child side (subst (AllIn c.stream_layer.catalog.stream) same b.there))

    -- and a split that makes it is of the source, and waits for its streams
    pub new_waits : (s n : ℕ) (other : SplitJob) → JobAt c.servers s n other → 1 ≤ stage_of other.phase → IsSide child other → (n ≡ job.range) × (stage_of other.phase ≡ 2)
    new_waits s n other j come part =
        let b = split_builds s n other j come job a child side part in
        let same = same_split job other b.1 in
        (sym (stands s n other j).number ∙ sym same.0, two_or (stage_of other.phase) refl b.0 (λ more. not_there (first_of other child part (split_there s n other j more).1)))
      where
        two_or : (stage : ℕ) → stage_of other.phase ≡ stage → 2 ≤ stage → (3 ≤ stage_of other.phase → ⊥) → stage_of other.phase ≡ 2
        two_or zero is two none = absurd (omega (arith, two))
        two_or (suc zero) is two none = absurd (omega (arith, two))
        two_or (suc (suc zero)) is two none = is
        two_or (suc (suc (suc more))) is two none = absurd (none (omega (arith, is)))

-- In every run without merges so much is known of splits.
pub run_knows_splits : (nodes servers target batch : ℕ) (events : List Event) → AreUnmerged events → KnowsSplits (cluster_after_all (first_cluster nodes servers target batch) events)
run_knows_splits nodes servers target batch events are = all_knows events are (first_cluster nodes servers target batch) (first_knows nodes servers target batch)
