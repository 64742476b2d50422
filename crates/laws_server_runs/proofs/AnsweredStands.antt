-- What is known of splits at servers, and of what was sent for them, where the map and the manager answer by their tables: how far a split has
-- come, that what was sent for one was sent by the one split of its range under its generation, and that one who serves the range under
-- that has it. A step of a server keeps it.
use Rattle.std.proofs.Common.{◌≡◌, ◌⊎◌, ◌≤◌, ℕ, ◌-◌, List, ◌++◌, Option, Some, None, slice_set, Contains, refl, sym, ap, ◌∙◌, subst, inl, inr, arith}
use Rattle.std.proofs.lemmas.Option.{same_Some}
use Rattle.std.proofs.lemmas.List.Elements.{Contains-append_left, Contains-append_right, Contains-append_cases}
use Rattle.wire.specs.declared.actor.ReqNo.{ReqNo}
use Rattle.wire.specs.declared.packet.Packet.{Packet}
use Rattle.wire.specs.declared.streams.Modify.{Modify}
use Rattle.wire.specs.declared.streams.StreamKind.TheVariants as kinds
use Rattle.model_streams.specs.Maps.{entry_at}
use Rattle.model_partition.specs.declared.split_job.SplitJob.{SplitJob}
use Rattle.model_partition.specs.declared.split_job.SplitPhase.{SplitPhase}
use Rattle.model_partition.specs.declared.split_job.SplitPhase.TheVariants as phases
use Rattle.model_partition.specs.Loading.{Group}
use Rattle.model_partition.specs.Range.{RangeState}
use Rattle.model_partition.specs.Server.{ServerState, ServerOutcome, range_of, split_of}
use Rattle.model_partition.specs.Servers.{ServerCell}
use Rattle.model_partition.specs.Splits.{built_stream, all_streams, build_packet}
use Rattle.model_histories.specs.ServedTables.{ServesAt}
use Rattle.model_histories.specs.ServerRun.{ServerRun, log_name}
use Rattle.model_histories.specs.Story.{Placed, Showed, event_at}
use Rattle.laws_map.specs.Generations.{HasAsked}
use Rattle.laws_map.specs.GivenPairs.{AsksToComplete}
use Rattle.laws_map.specs.Naming.{Knowledge, PhaseNames, JobNames, ServerNames}
use Rattle.laws_map.specs.Stages.{stage_of, AsksToBuild, AsksToEnd, AsksOf, JobBegins, JobFrom, StagesGo}
use Rattle.laws_map.proofs.Knowing.{each_has, found_at}
use Rattle.laws_map.proofs.StagesStand.{same_split}
use Rattle.laws_server_runs.specs.Answerers.{split_asked, MapBook, AreGiven, AsksForStreams}
use Rattle.laws_server_runs.specs.ChildInvariant.{SplitsHold}
use Rattle.laws_server_runs.specs.ClosedRanges.{IsMarked, IsBusy}
use Rattle.laws_server_runs.proofs.AnsweredServers.{answering, asked_later, names_later, range_named}
use Rattle.laws_server_runs.proofs.SplitsBack.{RangesThere}
use Rattle.laws_server_runs.proofs.TurnChanges.{found_after}

-- a load of the range was confirmed under the generation
abbrev pub IsShown : ServerRun → (range g : ℕ) → Type 0
IsShown x range g = (l : ℕ) × (start : ℕ) × (end : ℕ) × (groups : List (Placed Group)) × (event_at (x.story (log_name range)) l ≡ Some (Showed g start end groups))

-- the two numbers of a split were given to what was asked for
abbrev pub IsNumbered : MapBook → List Packet → SplitJob → Type 0
IsNumbered b sent job = AreGiven b (split_asked job.range job.generation job.key) job.low job.high × ((q : ReqNo) × HasAsked sent q job.range job.generation job.key)

-- this is what was asked for of the streams of a split
pub record IsListed (b : MapBook) (sent : List Packet) (list : List Modify) : Type 0 where
  pub job : SplitJob
  pub is : list ≡ all_streams job
  pub numbered : IsNumbered b sent job

module _ (sent : List Packet) (IsBuilt : ℕ → Type 0) where
  -- A split at a server: where anybody asked for its streams, or for its end, it has come there; it has asked for the streams that it waits
  -- for; and from where it says the keys of the two on they are built.
  pub record JobStands (job : SplitJob) : Type 0 where
    pub builds : (q : ReqNo) (other : SplitJob) → AsksForStreams sent (all_streams other) q → other.range ≡ job.range → other.generation ≡ job.generation → 2 ≤ stage_of job.phase
    pub ends : AsksToComplete sent job.range job.generation → 4 ≤ stage_of job.phase
    pub waits : (q : ReqNo) → job.phase ≡ phases.Build q → AsksForStreams sent (all_streams job) q
    pub built : 3 ≤ stage_of job.phase → IsBuilt job.low × IsBuilt job.high

  -- where somebody asked for the end of a range's split, under a generation, a server had that split then, and the streams of its two ranges are
  -- built
  pub record HasBuilt (b : MapBook) (Was : ℕ → SplitJob → Type 0) (range generation : ℕ) : Type 0 where
    pub job : SplitJob
    pub range_is : job.range ≡ range
    pub generation_is : job.generation ≡ generation
    pub numbered : IsNumbered b sent job
    pub built : IsBuilt job.low × IsBuilt job.high
    pub ends : 4 ≤ stage_of job.phase
    pub was : Was range job

-- So it is of all splits; whoever asked for one served its range then, and whoever serves that under the generation has it still; and all who
-- ask for one of a range, under a generation, ask for one key.
pub record SplitsStand (b : MapBook) (sent : List Packet) (IsBuilt : ℕ → Type 0) (Was : ℕ → SplitJob → Type 0) (x : ServerRun) : Type 0 where
  pub names : (s : ℕ) (cell : ServerCell) (st : ServerState) → entry_at x.servers s ≡ Some cell → cell.state ≡ Some st → ServerNames (answering b sent s) st
  pub jobs : (s : ℕ) (cell : ServerCell) (st : ServerState) → entry_at x.servers s ≡ Some cell → cell.state ≡ Some st → (k : ℕ) (job : SplitJob) → split_of st.splits k ≡ Some job → JobStands sent IsBuilt job
  pub lists : (list : List Modify) (q : ReqNo) → AsksForStreams sent list q → IsListed b sent list
  pub ended : (range generation : ℕ) → AsksToComplete sent range generation → HasBuilt sent IsBuilt b Was range generation
  pub shown : (q : ReqNo) (range g : ℕ) (key : List ℕ) → HasAsked sent q range g key → IsShown x range g
  pub busy : (q : ReqNo) (range g : ℕ) (key : List ℕ) → HasAsked sent q range g key → IsMarked IsBusy range g x
  pub keys : (q w : ReqNo) (range g : ℕ) (key other : List ℕ) → HasAsked sent q range g key → HasAsked sent w range g other → key ≡ other

-- the streams of both are built, where those of a list are
pub both_built : (IsBuilt : ℕ → Type 0) (job : SplitJob) → ((entry : Modify) → Contains (all_streams job) entry → IsBuilt entry.stream.range) → IsBuilt job.low × IsBuilt job.high
both_built IsBuilt job all = (all (built_stream job job.low kinds.Metadata) (0, omega arith, refl), all (built_stream job job.high kinds.Metadata) (4, omega arith, refl))

pub stage_two : (phase : SplitPhase) (q : ReqNo) → phase ≡ phases.Build q → stage_of phase ≡ 2
stage_two phase q is = ap stage_of is

-- ---- who holds a range

module _ (b : MapBook) (sent : List Packet) (s : ℕ) (st : ServerState) (n : ServerNames (answering b sent s) st) where
  pub job_named : (k : ℕ) (job : SplitJob) → split_of st.splits k ≡ Some job → JobNames (answering b sent s) k job
  job_named k job found = found_at (JobNames (answering b sent s)) st.splits k job n.splits found

  -- the map assigned to it what it holds
  pub range_holder : (k : ℕ) (r : RangeState) → range_of st.ranges k ≡ Some r → b.holder k r.load.generation ≡ s
  range_holder k r found = let h = range_named b sent s st n k r found in ap (b.holder k) h.under.1 ∙ h.known.holder

  -- once the map has numbered the two ranges of a split they were given to what was asked for
  pub job_numbered : (k : ℕ) (job : SplitJob) → split_of st.splits k ≡ Some job → 1 ≤ stage_of job.phase → IsNumbered b sent job
  job_numbered k job found come = by job.phase come (job_named k job found).phase
    where
      by : (phase : SplitPhase) → 1 ≤ stage_of phase → PhaseNames (answering b sent s) job phase → IsNumbered b sent job
      by (phases.Begin q) come p = absurd (omega (arith, come))
      by (phases.Keys side c) come p = p.0
      by phases.Checkpoint come p = p
      by phases.Queue come p = p
      by phases.Record come p = p
      by (phases.Seal kind q) come p = p
      by (phases.Build q) come p = p
      by (phases.Complete q) come p = p

-- the range of a split is assigned to its server, under the split's generation
pub job_holder : (b : MapBook) (sent : List Packet) (servers : List ServerCell) → SplitsHold servers → RangesThere servers → (s : ℕ) (cell : ServerCell) (st : ServerState) → entry_at servers s ≡ Some cell → cell.state ≡ Some st →
    ServerNames (answering b sent s) st → (k : ℕ) (job : SplitJob) → split_of st.splits k ≡ Some job → b.holder k job.generation ≡ s
job_holder b sent servers holds there s cell st at up n k job found =
    let r = there s cell st at up k job found in
    ap (b.holder k) (holds s cell st at up k r.0 job r.1 found).generation ∙ range_holder b sent s st n k r.0 r.1

-- ---- how the splits of a server move

-- a split goes on: it stays that of its range, with its pair, and no stage goes back; it says the keys of the two only where it was told that
-- their streams are there; and where it waits for these it has asked for them
pub record JobGoes (Heard : ReqNo → Type 0) (packets : List Packet) (old job : SplitJob) : Type 0 where
  pub range : job.range ≡ old.range
  pub generation : job.generation ≡ old.generation
  pub stage : stage_of old.phase ≤ stage_of job.phase
  pub low : 1 ≤ stage_of old.phase → job.low ≡ old.low
  pub high : 1 ≤ stage_of old.phase → job.high ≡ old.high
  pub said : 3 ≤ stage_of job.phase → (3 ≤ stage_of old.phase) ⊎ ((q : ReqNo) × (old.phase ≡ phases.Build q) × Heard q)
  pub builds : (q : ReqNo) → job.phase ≡ phases.Build q → (old ≡ job) ⊎ AsksForStreams packets (all_streams job) q

abbrev pub ComesOf : (Heard : ReqNo → Type 0) → List (ℕ × RangeState) → List Packet → ℕ → Option SplitJob → SplitJob → Type 0
ComesOf Heard ranges packets k None job = JobBegins ranges k job
ComesOf Heard ranges packets k (Some old) job = JobGoes Heard packets old job

pub record NewList (after : Option SplitJob) (l : List Modify) (q : ReqNo) : Type 0 where
  pub job : SplitJob
  pub left : after ≡ Some job
  pub is : l ≡ all_streams job
  pub waits : job.phase ≡ phases.Build q

pub record NewEnd (after : Option SplitJob) (range generation : ℕ) : Type 0 where
  pub job : SplitJob
  pub left : after ≡ Some job
  pub range_is : range ≡ job.range
  pub generation_is : generation ≡ job.generation
  pub ends_so : 4 ≤ stage_of job.phase

-- each goes on or begins, and what is asked for of streams, or of ends, is asked by one
pub record SplitsMove (Heard : ReqNo → Type 0) (ranges : List (ℕ × RangeState)) (splits : List (ℕ × SplitJob)) (o : ServerOutcome) : Type 0 where
  pub at : ℕ
  pub jobs : (k : ℕ) (job : SplitJob) → split_of o.after.splits k ≡ Some job → ComesOf Heard ranges o.packets k (split_of splits k) job
  pub lists : (l : List Modify) (q : ReqNo) → AsksForStreams o.packets l q → NewList (split_of o.after.splits at) l q
  pub ends : (range generation : ℕ) → AsksToComplete o.packets range generation → NewEnd (split_of o.after.splits at) range generation

module _ (Heard : ReqNo → Type 0) (st : ServerState) (o : ServerOutcome) (go : StagesGo Heard st o) where
  asks_of : (p : Packet) → Contains o.packets p → AsksOf st.context (split_of st.splits go.at) (split_of o.after.splits go.at) o.after.context.count p.body
  asks_of p new = each_has (λ (p : Packet). AsksOf st.context (split_of st.splits go.at) (split_of o.after.splits go.at) o.after.context.count p.body) o.packets p go.asks new

  pub stages_move : SplitsMove Heard st.ranges st.splits o
  stages_move = record {
    at = go.at;
    jobs = λ k job found. comes k job (split_of st.splits k) (go.jobs k job found).1;
    lists = λ l q a. list_of l q (subst (AsksOf st.context (split_of st.splits go.at) (split_of o.after.splits go.at) o.after.context.count) a.is (asks_of a.packet a.among));
    ends = λ range generation a. end_of range generation (subst (AsksOf st.context (split_of st.splits go.at) (split_of o.after.splits go.at) o.after.context.count) a.is (asks_of a.packet a.sent));
  }
    where
      comes : (k : ℕ) (job : SplitJob) (old : Option SplitJob) → JobFrom Heard st k old o.packets job → ComesOf Heard st.ranges o.packets k old job
      comes k job None j = j
      comes k job (Some old) m = record {
        range = m.range;
        generation = m.generation;
        stage = m.stage;
        low = m.low;
        high = m.high;
        said = m.said;
        builds = λ q is. elim (m.builds q is) [ inl same ↦ inl same | inr there ↦ inr (record { packet = build_packet st.context job q; among = there; is = refl }) ];
      }

      list_of : (l : List Modify) (q : ReqNo) → AsksToBuild st.context (split_of st.splits go.at) (split_of o.after.splits go.at) o.after.context.count l q → NewList (split_of o.after.splits go.at) l q
      list_of l q n = record { job = n.job; left = n.left; is = n.is; waits = n.waits }

      end_of : (range generation : ℕ) → AsksToEnd (split_of o.after.splits go.at) range generation → NewEnd (split_of o.after.splits go.at) range generation
      end_of range generation e = record { job = e.job; left = e.left; range_is = e.range_is; generation_is = e.generation_is; ends_so = e.ends }

-- ---- a server takes a step

module _ (b : MapBook) (sent : List Packet) (IsBuilt IsLater : ℕ → Type 0) (stays : (n : ℕ) → IsBuilt n → IsLater n) (Was WasLater : ℕ → SplitJob → Type 0) (was_stays : (k : ℕ) (job : SplitJob) → Was k job → WasLater k job)
    (x : ServerRun) (stand : SplitsStand b sent IsBuilt Was x) (holds : SplitsHold x.servers) (ranges : RangesThere x.servers)
    (s : ℕ) (c : ServerCell) (st : ServerState) (at : entry_at x.servers s ≡ Some c) (up : c.state ≡ Some st) (o : ServerOutcome) (after_names : ServerNames (answering b (sent ++ o.packets) s) o.after)
    (new_lists : (list : List Modify) (q : ReqNo) → AsksForStreams o.packets list q → IsListed b (sent ++ o.packets) list) (Heard : ReqNo → Type 0) (go : SplitsMove Heard st.ranges st.splits o)
    (heard : (q : ReqNo) → Heard q → (list : List Modify) → AsksForStreams sent list q → (entry : Modify) → Contains list entry → IsBuilt entry.stream.range) where
  abbrev later : List Packet
  later = sent ++ o.packets

  grow : (p : Packet) → Contains sent p → Contains later p
  grow p there = Contains-append_left sent o.packets p there

  abbrev L : Knowledge
  L = answering b later s

  numbered_on : (job : SplitJob) → IsNumbered b sent job → IsNumbered b later job
  numbered_on job n = (n.0, (n.1.0, asked_later sent later grow n.1.0 job.range job.generation job.key n.1.1))

  list_on : (list : List Modify) (q : ReqNo) → AsksForStreams sent list q → AsksForStreams later list q
  list_on list q a = record { packet = a.packet; among = grow a.packet a.among; is = a.is }

  -- the splits after the step
  number_now : (k : ℕ) (job : SplitJob) → split_of o.after.splits k ≡ Some job → job.range ≡ k
  number_now k job found = (job_named b later s o.after after_names k job found).number

  mine : (k : ℕ) (job : SplitJob) → split_of st.splits k ≡ Some job → JobStands sent IsBuilt job
  mine k job is = stand.jobs s c st at up k job is

  -- ---- what is asked anew

  -- the split that asks
  abbrev Asks : SplitJob → Type 0
  Asks job = split_of o.after.splits go.at ≡ Some job

  list_cases : (l : List Modify) (q : ReqNo) → AsksForStreams later l q → AsksForStreams sent l q ⊎ NewList (split_of o.after.splits go.at) l q
  list_cases l q a = elim (Contains-append_cases sent o.packets a.packet a.among) [
    | inl old ↦ inl (record { packet = a.packet; among = old; is = a.is })
    | inr new ↦ inr (go.lists l q (record { packet = a.packet; among = new; is = a.is }))
  ]

  end_cases : (range generation : ℕ) → AsksToComplete later range generation → AsksToComplete sent range generation ⊎ NewEnd (split_of o.after.splits go.at) range generation
  end_cases range generation a = elim (Contains-append_cases sent o.packets a.packet a.sent) [
    | inl old ↦ inl (record { packet = a.packet; request = a.request; sent = old; is = a.is })
    | inr new ↦ inr (go.ends range generation (record { packet = a.packet; request = a.request; sent = new; is = a.is }))
  ]

  -- one that is past its beginning was there
  record WasSo (job : SplitJob) : Type 0 where
    old : SplitJob
    was : split_of st.splits go.at ≡ Some old
    moves : JobGoes Heard o.packets old job

  was_so : (job : SplitJob) → Asks job → 1 ≤ stage_of job.phase → WasSo job
  was_so job left come = on (split_of st.splits go.at) refl (go.jobs go.at job left)
    where
      on : (old : Option SplitJob) → split_of st.splits go.at ≡ old → ComesOf Heard st.ranges o.packets go.at old job → WasSo job
      on None free j = absurd (let f = j.first in omega (arith, f, come))
      on (Some old) was m = record { old = old; was = was; moves = m }

  -- two splits of one range are one
  same_job : (a : SplitJob) → Asks a → (k : ℕ) (job : SplitJob) → split_of o.after.splits k ≡ Some job → a.range ≡ job.range → a ≡ job
  same_job a left k job found range =
      let at_k : go.at ≡ k = sym (number_now go.at a left) ∙ range ∙ number_now k job found in
      same_Some a job (sym left ∙ ap (split_of o.after.splits) at_k ∙ found)

  -- ---- a split that begins

  module _ (k : ℕ) (job : SplitJob) (j : JobBegins st.ranges k job) (free : split_of st.splits k ≡ None) (found : split_of o.after.splits k ≡ Some job) where
    abbrev held_at : ServesAt x s k j.held
    held_at = record { cell = c; state = st; there = at; runs = up; held = j.found; serves = j.serves }

    -- nobody asked for a split of it
    not_asked : (q : ReqNo) (key : List ℕ) → HasAsked sent q job.range job.generation key → ⊥
    not_asked q key a =
        let busy : IsBusy j.held (split_of st.splits k) =
        stand.busy q k job.generation key (subst (λ n. HasAsked sent q n job.generation key) (number_now k job found) a) s j.held held_at (sym j.generation) in
        let e : None ≡ Some busy.0 = sym free ∙ busy.1 in
        absurd cc

    not_listed : (q : ReqNo) (other : SplitJob) → AsksForStreams sent (all_streams other) q → other.range ≡ job.range → other.generation ≡ job.generation → ⊥
    not_listed q other a range generation =
        let l = stand.lists (all_streams other) q a in
        let same = same_split other l.job l.is in
        not_asked l.numbered.1.0 l.job.key
        (subst (λ n. HasAsked sent l.numbered.1.0 n job.generation l.job.key) (sym same.0 ∙ range) (subst (λ g. HasAsked sent l.numbered.1.0 l.job.range g l.job.key) (sym same.1 ∙ generation) l.numbered.1.1))

    not_ended : AsksToComplete sent job.range job.generation → ⊥
    not_ended a =
        let e = stand.ended job.range job.generation a in
        not_asked e.numbered.1.0 e.job.key
        (subst (λ n. HasAsked sent e.numbered.1.0 n job.generation e.job.key) e.range_is (subst (λ g. HasAsked sent e.numbered.1.0 e.job.range g e.job.key) e.generation_is e.numbered.1.1))

    begun_stands : JobStands later IsLater job
    begun_stands = record {
      builds = λ q other a range generation. elim (list_cases (all_streams other) q a) [
        | inl old ↦ absurd (not_listed q other old range generation)
        | inr new ↦ absurd (
            let two = stage_two new.job.phase q new.waits in
            let same = same_job new.job new.left k job found (sym (same_split other new.job new.is).0 ∙ range) in
            let z = ap (λ (i : SplitJob). stage_of i.phase) same in
            let f = j.first in
            omega (arith, two, z, f)
            )
      ];
      ends = λ a. elim (end_cases job.range job.generation a) [
        | inl old ↦ absurd (not_ended old)
        | inr new ↦ absurd (
            let four = new.ends_so in
            let same = same_job new.job new.left k job found (sym new.range_is) in
            let z = ap (λ (i : SplitJob). stage_of i.phase) same in
            let f = j.first in
            omega (arith, four, z, f)
            )
      ];
      waits = λ q is. absurd (let two = stage_two job.phase q is in let f = j.first in omega (arith, two, f));
      built = λ l. absurd (let f = j.first in omega (arith, l, f));
    }

  -- ---- a split that goes on

  module _ (k : ℕ) (old job : SplitJob) (was : split_of st.splits k ≡ Some old) (m : JobGoes Heard o.packets old job) (found : split_of o.after.splits k ≡ Some job) where
    abbrev i : JobStands sent IsBuilt old
    i = mine k old was

    moved_stands : JobStands later IsLater job
    moved_stands = record {
      builds = λ q other a range generation. elim (list_cases (all_streams other) q a) [
        | inl before ↦ (let two = i.builds q other before (range ∙ m.range) (generation ∙ m.generation) in let on = m.stage in omega (arith, two, on))
        | inr new ↦ (
            let two = stage_two new.job.phase q new.waits in
            let same = same_job new.job new.left k job found (sym (same_split other new.job new.is).0 ∙ range) in
            let z = ap (λ (y : SplitJob). stage_of y.phase) same in
            omega (arith, two, z)
            )
      ];
      ends = λ a. elim (end_cases job.range job.generation a) [
        | inl before ↦ (
            let four = i.ends (subst (λ n. AsksToComplete sent n old.generation) m.range (subst (λ g. AsksToComplete sent job.range g) m.generation before)) in
            let on = m.stage in
            omega (arith, four, on)
            )
        | inr new ↦ (
            let four = new.ends_so in
            let same = same_job new.job new.left k job found (sym new.range_is) in
            let z = ap (λ (y : SplitJob). stage_of y.phase) same in
            omega (arith, four, z)
            )
      ];
      waits = λ q is. elim (m.builds q is) [
        | inl same ↦ list_on (all_streams job) q (subst (λ (z : SplitJob). AsksForStreams sent (all_streams z) q) same (i.waits q (ap (λ (y : SplitJob). y.phase) same ∙ is)))
        | inr there ↦ record { packet = there.packet; among = Contains-append_right sent o.packets there.packet there.among; is = there.is }
      ];
      built = λ l. elim (m.said l) [
        | inl before ↦ on (omega (arith, before)) (i.built before)
        | inr (q, is, hears) ↦ (
            let two = stage_two old.phase q is in
            on (omega (arith, two)) (both_built IsBuilt old (λ entry among. heard q hears (all_streams old) (i.waits q is) entry among))
            )
      ];
    }
      where
        on : 1 ≤ stage_of old.phase → IsBuilt old.low × IsBuilt old.high → IsLater job.low × IsLater job.high
        on come both = (subst IsLater (sym (m.low come)) (stays old.low both.0), subst IsLater (sym (m.high come)) (stays old.high both.1))

  -- ---- a split at another server

  module _ (t : ℕ) (other_server : t ≡ s → ⊥) (cell : ServerCell) (z : ServerState) (there : entry_at x.servers t ≡ Some cell) (runs : cell.state ≡ Some z) (k : ℕ) (job : SplitJob) (found : split_of z.splits k ≡ Some job) where
    -- it is none that this one asks for
    not_here : (asks : SplitJob) → Asks asks → 1 ≤ stage_of asks.phase → asks.range ≡ job.range → asks.generation ≡ job.generation → ⊥
    not_here asks left come range generation =
        let y = was_so asks left come in
        let here : b.holder go.at y.old.generation ≡ s = job_holder b sent x.servers holds ranges s c st at up (stand.names s c st at up) go.at y.old y.was in
        let far : b.holder k job.generation ≡ t = job_holder b sent x.servers holds ranges t cell z there runs (stand.names t cell z there runs) k job found in
        let number : go.at ≡ k = sym (number_now go.at asks left) ∙ range ∙ (job_named b sent t z (stand.names t cell z there runs) k job found).number in
        other_server (sym far ∙ (λ n. b.holder (sym number n) ((sym generation ∙ y.moves.generation) n)) ∙ here)

    abbrev k_stands : JobStands sent IsBuilt job
    k_stands = stand.jobs t cell z there runs k job found

    other_stands : JobStands later IsLater job
    other_stands = record {
      builds = λ q other a range generation. elim (list_cases (all_streams other) q a) [
        | inl before ↦ k_stands.builds q other before range generation
        | inr new ↦ absurd (
            let two = stage_two new.job.phase q new.waits in
            let same = same_split other new.job new.is in
            not_here new.job new.left (omega (arith, two)) (sym same.0 ∙ range) (sym same.1 ∙ generation)
            )
      ];
      ends = λ a. elim (end_cases job.range job.generation a) [
        | inl before ↦ k_stands.ends before
        | inr new ↦ absurd (let four = new.ends_so in not_here new.job new.left (omega (arith, four)) (sym new.range_is) (sym new.generation_is))
      ];
      waits = λ q is. list_on (all_streams job) q (k_stands.waits q is);
      built = λ l. (let both = k_stands.built l in (stays job.low both.0, stays job.high both.1));
    }

  -- ---- all of them

  module _ (y : ServerRun) (servers : y.servers ≡ slice_set x.servers (s - 1) (record c { state = Some o.after })) where
    abbrev Found : ℕ → ServerCell → ServerState → Type 0
    Found t cell z = ((t ≡ s) × (o.after ≡ z)) ⊎ ((t ≡ s → ⊥) × (entry_at x.servers t ≡ Some cell))

    pub found_now : (t : ℕ) (cell : ServerCell) (z : ServerState) → entry_at y.servers t ≡ Some cell → cell.state ≡ Some z → Found t cell z
    found_now t cell z there runs = found_after x.servers s c at o.after t cell z (ap (λ l. entry_at l t) (sym servers) ∙ there) runs

    here_stands : (k : ℕ) (job : SplitJob) → split_of o.after.splits k ≡ Some job → JobStands later IsLater job
    here_stands k job found = on (split_of st.splits k) refl (go.jobs k job found)
      where
        on : (old : Option SplitJob) → split_of st.splits k ≡ old → ComesOf Heard st.ranges o.packets k old job → JobStands later IsLater job
        on None free j = begun_stands k job j free found
        on (Some old) was m = moved_stands k old job was m found

    pub jobs_now : (t : ℕ) (cell : ServerCell) (z : ServerState) → entry_at y.servers t ≡ Some cell → cell.state ≡ Some z → (k : ℕ) (job : SplitJob) → split_of z.splits k ≡ Some job → JobStands later IsLater job
    jobs_now t cell z there runs k job found = elim (found_now t cell z there runs) [
      | inl here ↦ here_stands k job (ap (λ (w : ServerState). split_of w.splits k) here.1 ∙ found)
      | inr other ↦ other_stands t other.0 cell z other.1 runs k job found
    ]

    pub names_now : (t : ℕ) (cell : ServerCell) (z : ServerState) → entry_at y.servers t ≡ Some cell → cell.state ≡ Some z → ServerNames (answering b later t) z
    names_now t cell z there runs = elim (found_now t cell z there runs) [
      | inl here ↦ subst (λ n. ServerNames (answering b later n) z) (sym here.0) (subst (ServerNames L) here.1 after_names)
      | inr other ↦ names_later sent later grow b t z (stand.names t cell z other.1 runs)
    ]

    -- ---- what was asked for

    pub lists_now : (list : List Modify) (q : ReqNo) → AsksForStreams later list q → IsListed b later list
    lists_now list q a = elim (Contains-append_cases sent o.packets a.packet a.among) [
      | inl old ↦ (let l = stand.lists list q (record { packet = a.packet; among = old; is = a.is }) in record { job = l.job; is = l.is; numbered = numbered_on l.job l.numbered })
      | inr new ↦ new_lists list q (record { packet = a.packet; among = new; is = a.is })
    ]

    pub ended_now : (was_now : (k : ℕ) (job : SplitJob) → split_of o.after.splits k ≡ Some job → WasLater k job) (range generation : ℕ) → AsksToComplete later range generation → HasBuilt later IsLater b WasLater range generation
    ended_now was_now range generation a = elim (end_cases range generation a) [
      | inl old ↦ (
          let e = stand.ended range generation old in
          record { job = e.job; range_is = e.range_is; generation_is = e.generation_is; numbered = numbered_on e.job e.numbered; built = (stays e.job.low e.built.0, stays e.job.high e.built.1); ends = e.ends; was = was_stays range e.job e.was }
          )
      | inr new ↦ (
          let four = new.ends_so in
          record {
            job = new.job;
            range_is = sym new.range_is;
            generation_is = sym new.generation_is;
            numbered = job_numbered b later s o.after after_names go.at new.job new.left (omega (arith, four));
            built = (here_stands go.at new.job new.left).built (omega (arith, four));
            ends = new.ends_so;
            was = subst (λ n. WasLater n new.job) (sym (number_now go.at new.job new.left) ∙ sym new.range_is) (was_now go.at new.job new.left);
          }
          )
    ]
