-- Over streams that keep their order, where the map and the manager answer by their tables, splits make ranges as the laws of children want
-- it: no two make one, streams are built when that is asked for and told of once they are, no server has one of the two before its split asks
-- for its end, and nothing was done with one whose streams are built.
use Rattle.std.proofs.Common.{◌≡◌, ◌⊎◌, ◌≤◌, ℕ, zero, suc, List, [], ◌∷◌, ◌++◌, Some, Contains, refl, sym, ap, ◌∙◌, subst, inl, inr, arith}
use Rattle.std.proofs.lemmas.Option.{same_Some}
use Rattle.std.proofs.lemmas.List.Elements.{Contains-append_left}
use Rattle.wire.specs.declared.actor.ReqNo.{ReqNo}
use Rattle.wire.specs.declared.body.Body.TheVariants as bodies
use Rattle.wire.specs.declared.body.StreamBody.TheVariants as streams
use Rattle.wire.specs.declared.packet.Packet.{Packet}
use Rattle.wire.specs.declared.streams.Modify.{Modify}
use Rattle.wire.specs.declared.streams.Source.{Source}
use Rattle.model_partition.specs.declared.split_job.Side.{Side}
use Rattle.model_partition.specs.declared.split_job.Side.TheVariants.{Low, High}
use Rattle.model_partition.specs.declared.split_job.SplitJob.{SplitJob}
use Rattle.model_partition.specs.declared.split_job.SplitPhase.{SplitPhase}
use Rattle.model_partition.specs.declared.split_job.SplitPhase.TheVariants as phases
use Rattle.model_partition.specs.Past.{Bytes}
use Rattle.model_partition.specs.Splits.{all_streams, side_range}
use Rattle.model_histories.specs.ServerRun.{ServerRun, ServerEvent, Takes, GivesUp, Checkpoints, Splits, Stops, Starts, Moment, Builds, run_of}
use Rattle.laws_map.specs.Generations.{HasAsked}
use Rattle.laws_map.specs.GivenPairs.{AsksToComplete}
use Rattle.laws_map.specs.Naming.{Each, ServerNames}
use Rattle.laws_map.specs.Stages.{stage_of}
use Rattle.laws_map.proofs.Knowing.{each_has}
use Rattle.laws_map.proofs.StagesKept.{sides_of}
use Rattle.laws_server_runs.specs.Answerers.{AskedSplit, split_asked, MapBook, AsksForStreams, MayBeBuilt, IsAnswered, AreAnswered, sent_by}
use Rattle.laws_server_runs.specs.BornRanges.{AllInOrder}
use Rattle.laws_server_runs.specs.ChildInvariant.{HasPair, IsBeforeBuild, IsBuilding, IsSaying, ChildAt, IsUnheld, AreChildren, IsBuildOf, IsBuiltBy, MayBuild, BuildsSo, AreBornSo}
use Rattle.laws_server_runs.proofs.AnsweredServers.{answering, asked_later, range_named}
use Rattle.laws_server_runs.proofs.AnsweredStands.{IsNumbered, JobStands, job_named, job_numbered, job_holder}
use Rattle.laws_server_runs.proofs.AnsweredRuns.{Stand}
use Rattle.laws_server_runs.proofs.AnsweredEvents.{event_now, first_stand}
use Rattle.laws_server_runs.proofs.ChildTheorem.{order_before}
use Rattle.laws_server_runs.proofs.SplitsBack.{ranges_there}
use Rattle.laws_server_runs.proofs.SplitsHeld.{splits_hold}
use Rattle.laws_server_runs.proofs.UntouchedRanges.{IsUnused, StaysUnused, untouched}

-- ---- stages of phases

stage_paired : (phase : SplitPhase) → HasPair phase → 1 ≤ stage_of phase
stage_paired (phases.Begin q) pair = absurd pair
stage_paired phases.Checkpoint pair = omega arith
stage_paired phases.Queue pair = omega arith
stage_paired phases.Record pair = omega arith
stage_paired (phases.Seal kind q) pair = omega arith
stage_paired (phases.Build q) pair = omega arith
stage_paired (phases.Keys side c) pair = omega arith
stage_paired (phases.Complete q) pair = omega arith

stage_before : (phase : SplitPhase) → IsBeforeBuild phase → stage_of phase ≡ 1
stage_before (phases.Begin q) w = absurd w
stage_before phases.Checkpoint w = refl
stage_before phases.Queue w = refl
stage_before phases.Record w = refl
stage_before (phases.Seal kind q) w = refl
stage_before (phases.Build q) w = absurd w
stage_before (phases.Keys side c) w = absurd w
stage_before (phases.Complete q) w = absurd w

stage_building : (phase : SplitPhase) → IsBuilding phase → stage_of phase ≡ 2
stage_building (phases.Build q) w = refl
stage_building (phases.Begin q) w = absurd w
stage_building phases.Checkpoint w = absurd w
stage_building phases.Queue w = absurd w
stage_building phases.Record w = absurd w
stage_building (phases.Seal kind q) w = absurd w
stage_building (phases.Keys side c) w = absurd w
stage_building (phases.Complete q) w = absurd w

stage_saying : (phase : SplitPhase) → IsSaying phase → stage_of phase ≡ 3
stage_saying (phases.Keys side c) w = refl
stage_saying (phases.Begin q) w = absurd w
stage_saying phases.Checkpoint w = absurd w
stage_saying phases.Queue w = absurd w
stage_saying phases.Record w = absurd w
stage_saying (phases.Seal kind q) w = absurd w
stage_saying (phases.Build q) w = absurd w
stage_saying (phases.Complete q) w = absurd w

building_at : (phase : SplitPhase) → 2 ≤ stage_of phase → (3 ≤ stage_of phase → ⊥) → IsBuilding phase
building_at (phases.Build q) two none = tt
building_at (phases.Begin q) two none = absurd (omega (arith, two))
building_at phases.Checkpoint two none = absurd (omega (arith, two))
building_at phases.Queue two none = absurd (omega (arith, two))
building_at phases.Record two none = absurd (omega (arith, two))
building_at (phases.Seal kind q) two none = absurd (omega (arith, two))
building_at (phases.Keys side c) two none = absurd (none (omega arith))
building_at (phases.Complete q) two none = absurd (none (omega arith))

-- ---- one of the two

-- of the two numbers of a split one was given to it
side_given : (b : MapBook) (sent : List Packet) (job : SplitJob) → IsNumbered b sent job → (side : Side) → b.given (side_range job side) ≡ Some (split_asked job.range job.generation job.key)
side_given b sent job n Low = n.0.low_given
side_given b sent job n High = n.0.high_given

pub given_side : (b : MapBook) (sent : List Packet) (job : SplitJob) → IsNumbered b sent job → (n : ℕ) → (n ≡ job.low) ⊎ (n ≡ job.high) → b.given n ≡ Some (split_asked job.range job.generation job.key)
given_side b sent job numbered n (inl low) = ap b.given low ∙ numbered.0.low_given
given_side b sent job numbered n (inr high) = ap b.given high ∙ numbered.0.high_given

both_sides : (IsBuilt : ℕ → Type 0) (job : SplitJob) → IsBuilt job.low × IsBuilt job.high → (side : Side) → IsBuilt (side_range job side)
both_sides IsBuilt job both Low = both.0
both_sides IsBuilt job both High = both.1

-- a number that was given to two is of one split, of one range and generation
pub one_split : (b : MapBook) (n : ℕ) (x y : AskedSplit) → b.given n ≡ Some x → b.given n ≡ Some y → x ≡ y
one_split b n x y one two = same_Some x y (sym one ∙ two)

-- the sources of its streams are its range's
one_source : (job : SplitJob) (source : Source) → source.stream.range ≡ job.range → (s : Source) → Contains (source ∷ []) s → s.stream.range ≡ job.range
one_source job source is s (zero, less, same) = ap (λ (z : Source). z.stream.range) (sym same) ∙ is
one_source job source is s (suc k, less, same) = absurd (omega (arith, less))

sources_of : (job : SplitJob) → Each (λ (m : Modify). (s : Source) → Contains m.sources s → s.stream.range ≡ job.range) (all_streams job)
sources_of job = (
  one_source job _ refl,
  (one_source job _ refl, (one_source job _ refl, (one_source job _ refl, (one_source job _ refl, (one_source job _ refl, (one_source job _ refl, (one_source job _ refl, tt))))))),
)

-- ---- at each moment

module _ (texts : ℕ → Bytes) (b : MapBook) (batch servers : ℕ) where
  abbrev sent : List ServerEvent → List Packet
  sent events = sent_by batch servers events

  abbrev run : List ServerEvent → ServerRun
  run events = run_of batch servers events

  abbrev StandsAt : List ServerEvent → Type 0
  StandsAt events = Stand texts b batch servers events

  -- then, and at all moments before
  abbrev pub AllStand : List ServerEvent → Type 0
  AllStand [] = StandsAt []
  AllStand (event ∷ earlier) = StandsAt (event ∷ earlier) × AllStand earlier

  pub now_stands : (events : List ServerEvent) → AllStand events → StandsAt events
  now_stands [] all = all
  now_stands (event ∷ earlier) all = all.0

  -- ---- more events

  pub sent_since : (late early : List ServerEvent) (p : Packet) → Contains (sent early) p → Contains (sent (late ++ early)) p
  sent_since [] early p there = there
  sent_since (event ∷ late) early p there = Contains-append_left (sent (late ++ early)) _ p (sent_since late early p there)

  pub built_since : (late early : List ServerEvent) (n : ℕ) → IsBuiltBy early n → IsBuiltBy (late ++ early) n
  built_since [] early n built = built
  built_since (event ∷ late) early n built = inr (built_since late early n built)

  pub asked_since : (late early : List ServerEvent) (q : ReqNo) (range g : ℕ) (key : List ℕ) → HasAsked (sent early) q range g key → HasAsked (sent (late ++ early)) q range g key
  asked_since late early q range g key a = asked_later (sent early) (sent (late ++ early)) (sent_since late early) q range g key a

  -- ---- streams that are built were asked for

  pub record IsAskedBuild (events : List ServerEvent) (n : ℕ) : Type 0 where
    pub job : SplitJob
    pub numbered : IsNumbered b (sent events) job
    pub request : ReqNo
    pub asked : AsksForStreams (sent events) (all_streams job) request
    pub side : (n ≡ job.low) ⊎ (n ≡ job.high)

  asked_build_since : (late early : List ServerEvent) (n : ℕ) → IsAskedBuild early n → IsAskedBuild (late ++ early) n
  asked_build_since late early n a = record {
    job = a.job;
    numbered = (a.numbered.0, (a.numbered.1.0, asked_since late early a.numbered.1.0 a.job.range a.job.generation a.job.key a.numbered.1.1));
    request = a.request;
    asked = record { packet = a.asked.packet; among = sent_since late early a.asked.packet a.asked.among; is = a.asked.is };
    side = a.side;
  }

  -- those of a list are of one split
  listed_build : (events : List ServerEvent) → StandsAt events → (source n : ℕ) → MayBeBuilt (sent events) (IsBuiltBy events) source n → (a : IsAskedBuild events n) × (a.job.range ≡ source)
  listed_build events stand source n may =
      let l = stand.lists may.list may.request may.asked in
      let among : Contains (all_streams l.job) may.named.entry = subst (λ list. Contains list may.named.entry) l.is may.named.among in
      let side = each_has (λ (m : Modify). (m.stream.range ≡ l.job.low) ⊎ (m.stream.range ≡ l.job.high)) (all_streams l.job) may.named.entry (sides_of l.job) among in
      let from = each_has (λ (m : Modify). (s : Source) → Contains m.sources s → s.stream.range ≡ l.job.range) (all_streams l.job) may.named.entry (sources_of l.job) among may.named.stream may.named.named in (
        record {
          job = l.job;
          numbered = l.numbered;
          request = may.request;
          asked = record { packet = may.asked.packet; among = may.asked.among; is = may.asked.is ∙ ap (λ list. bodies.Stream (streams.MultiModify list may.request)) l.is };
          side = subst (λ m. (m ≡ l.job.low) ⊎ (m ≡ l.job.high)) may.named.range_is side;
        },
        sym from ∙ may.named.source_is,
      )

  build_of : (event : ServerEvent) (n : ℕ) → IsBuildOf n event → (earlier : List ServerEvent) → IsAnswered b (sent earlier) (IsBuiltBy earlier) event → (source : ℕ) × MayBeBuilt (sent earlier) (IsBuiltBy earlier) source n
  build_of event n (source, is) earlier answered = (source, subst (λ e. IsAnswered b (sent earlier) (IsBuiltBy earlier) e) is answered)

  pub built_asked : (events : List ServerEvent) → AreAnswered b batch servers events → AllStand events → (n : ℕ) → IsBuiltBy events n → IsAskedBuild events n
  built_asked [] answered all n built = absurd built
  built_asked (event ∷ earlier) answered all n (inr before) = asked_build_since (event ∷ []) earlier n (built_asked earlier answered.1 all.1 n before)
  built_asked (event ∷ earlier) answered all n (inl now) =
      let may = build_of event n now earlier answered.0 in
      asked_build_since (event ∷ []) earlier n (listed_build earlier (now_stands earlier all.1) may.0 n may.1).0

  -- ---- the splits of a moment

  module _ (events : List ServerEvent) (stand : StandsAt events) where
    abbrev x : ServerRun
    x = run events

    module _ (s range child : ℕ) (c : ChildAt x s range child) where
      names : ServerNames (answering b (sent events) s) c.state
      names = stand.names s c.cell c.state c.there c.runs

      come : 1 ≤ stage_of c.job.phase
      come = stage_paired c.job.phase c.pair

      pub child_numbered : IsNumbered b (sent events) c.job
      child_numbered = job_numbered b (sent events) s c.state names range c.job c.found come

      pub child_given : b.given child ≡ Some (split_asked c.job.range c.job.generation c.job.key)
      child_given = ap b.given c.is ∙ side_given b (sent events) c.job child_numbered c.side

      child_stands : JobStands (sent events) (IsBuiltBy events) c.job
      child_stands = stand.jobs s c.cell c.state c.there c.runs range c.job c.found

      pub child_range : c.job.range ≡ range
      child_range = (job_named b (sent events) s c.state names range c.job c.found).number

      child_holder : b.holder range c.job.generation ≡ s
      child_holder = job_holder b (sent events) x.servers (splits_hold batch servers events) (ranges_there batch servers events) s c.cell c.state c.there c.runs names range c.job c.found

      -- from where it says keys on, both are built
      child_built : 3 ≤ stage_of c.job.phase → IsBuiltBy events child
      child_built three = subst (IsBuiltBy events) (sym c.is) (both_sides (IsBuiltBy events) c.job (child_stands.built three) c.side)

      -- where anybody asked for streams of one of the two it has come there
      child_come : IsAskedBuild events child → 2 ≤ stage_of c.job.phase
      child_come a =
          let same : split_asked a.job.range a.job.generation a.job.key ≡ split_asked c.job.range c.job.generation c.job.key =
          one_split b child (split_asked a.job.range a.job.generation a.job.key) (split_asked c.job.range c.job.generation c.job.key) (given_side b (sent events) a.job a.numbered child a.side) child_given in
          child_stands.builds a.request a.job a.asked (ap (λ (z : AskedSplit). z.range) same) (ap (λ (z : AskedSplit). z.generation) same)

      -- before it asks for its end no server has one of the two
      child_unheld : (4 ≤ stage_of c.job.phase → ⊥) → IsUnheld child x
      child_unheld before t cell st at up r held =
          let h = range_named b (sent events) t st (stand.names t cell st at up) child r held in
          before (child_stands.ends (h.known.completed (split_asked c.job.range c.job.generation c.job.key) child_given))

    one_of : (child s t range other : ℕ) → ChildAt x s range child → ChildAt x t other child → (s ≡ t) × (range ≡ other)
    one_of child s t range other c d =
        let same : split_asked c.job.range c.job.generation c.job.key ≡ split_asked d.job.range d.job.generation d.job.key =
        one_split b child (split_asked c.job.range c.job.generation c.job.key) (split_asked d.job.range d.job.generation d.job.key) (child_given s range child c) (child_given t other child d) in
        let number : range ≡ other = sym (child_range s range child c) ∙ ap (λ (z : AskedSplit). z.range) same ∙ child_range t other child d in (
          sym (child_holder s range child c) ∙ (λ i. b.holder (number i) (same i).generation) ∙ child_holder t other child d,
          number,
        )

    pub are_children : AreAnswered b batch servers events → AllStand events → AreChildren (IsBuiltBy events) x
    are_children answered all = record {
      alone = one_of;
      apart = λ s range child c. (child_numbered s range child c).0.apart;
      early = λ s range child c before built.
          (let two = child_come s range child c (built_asked events answered all child built) in let one = stage_before c.job.phase before in absurd (omega (arith, two, one)));
      late = λ s range child c saying. (let three = stage_saying c.job.phase saying in child_built s range child c (omega (arith, three)));
      unheld = λ s range child c work.
          child_unheld s range child c
          (λ four. elim work [
            | inl building ↦ (let two = stage_building c.job.phase building in absurd (omega (arith, two, four)))
            | inr saying ↦ (let three = stage_saying c.job.phase saying in absurd (omega (arith, three, four)))
          ]);
    }

  -- ---- streams that are built now

  module _ (earlier : List ServerEvent) (source n : ℕ) (may : MayBeBuilt (sent earlier) (IsBuiltBy earlier) source n) (stand : StandsAt earlier) where
    abbrev listed : (a : IsAskedBuild earlier n) × (a.job.range ≡ source)
    listed = listed_build earlier stand source n may

    abbrev asked : IsAskedBuild earlier n
    asked = listed.0

    -- a split that asked for its end before, under this range and generation, is this one, and its streams are built
    ended_built : (late early : List ServerEvent) → earlier ≡ late ++ early → StandsAt early → AsksToComplete (sent early) asked.job.range asked.job.generation → IsBuiltBy early n
    ended_built late early is then_stand a =
        let e = then_stand.ended asked.job.range asked.job.generation a in
        let since : HasAsked (sent earlier) e.numbered.1.0 e.job.range e.job.generation e.job.key =
        subst (λ l. HasAsked (sent l) e.numbered.1.0 e.job.range e.job.generation e.job.key) (sym is) (asked_since late early e.numbered.1.0 e.job.range e.job.generation e.job.key e.numbered.1.1) in
        let here : HasAsked (sent earlier) e.numbered.1.0 asked.job.range asked.job.generation e.job.key =
        subst (λ k. HasAsked (sent earlier) e.numbered.1.0 k asked.job.generation e.job.key) e.range_is (subst (λ g. HasAsked (sent earlier) e.numbered.1.0 e.job.range g e.job.key) e.generation_is since) in
        let key : e.job.key ≡ asked.job.key = stand.keys e.numbered.1.0 asked.numbered.1.0 asked.job.range asked.job.generation e.job.key asked.job.key here asked.numbered.1.1 in
        let same : split_asked e.job.range e.job.generation e.job.key ≡ split_asked asked.job.range asked.job.generation asked.job.key = (λ i. split_asked (e.range_is i) (e.generation_is i) (key i)) in
        let low : e.job.low ≡ asked.job.low = e.numbered.0.low_is ∙ ap b.low same ∙ sym asked.numbered.0.low_is in
        let high : e.job.high ≡ asked.job.high = e.numbered.0.high_is ∙ ap b.high same ∙ sym asked.numbered.0.high_is in
        elim asked.side [ inl l ↦ subst (IsBuiltBy early) (low ∙ sym l) e.built.0 | inr h ↦ subst (IsBuiltBy early) (high ∙ sym h) e.built.1 ]

    not_built : (late early : List ServerEvent) → earlier ≡ late ++ early → IsBuiltBy early n → ⊥
    not_built late early is built = may.new (subst (λ l. IsBuiltBy l n) (sym is) (built_since late early n built))

    unused_at : (late early : List ServerEvent) → earlier ≡ late ++ early → StandsAt early → IsUnused n (run early)
    unused_at late early is then_stand = record {
      unheld = λ t cell st at up r held.
          (let h = range_named b (sent early) t st (then_stand.names t cell st at up) n r held in
          not_built late early is
          (ended_built late early is then_stand (h.known.completed (split_asked asked.job.range asked.job.generation asked.job.key) (given_side b (sent earlier) asked.job asked.numbered n asked.side))));
      unsaid = λ s range c saying. (let three = stage_saying c.job.phase saying in not_built late early is (child_built early then_stand s range n c (omega (arith, three))));
    }

    stays_unused : (late early : List ServerEvent) → earlier ≡ late ++ early → AllStand early → StaysUnused n batch servers early
    stays_unused late [] is all = tt
    stays_unused late (event ∷ early) is all = (
      unused_at late (event ∷ early) is all.0,
      λ from other e same. not_built late (event ∷ early) is (inl (from, e ∙ ap (Builds from) same)),
      stays_unused (late ++ event ∷ []) early (is ∙ again late event early) all.1,
    )
      where
        again : (late : List ServerEvent) (event : ServerEvent) (early : List ServerEvent) → late ++ event ∷ early ≡ (late ++ event ∷ []) ++ early
        again [] event early = refl
        again (e ∷ late) event early = ap (λ l. e ∷ l) (again late event early)

    pub may_build : AllStand earlier → MayBuild texts source n (run earlier)
    may_build all = record {
      new = untouched n batch servers texts earlier (stays_unused [] earlier refl all);
      asked = λ s split c.
          (let same : split_asked asked.job.range asked.job.generation asked.job.key ≡ split_asked c.job.range c.job.generation c.job.key =
          one_split b n (split_asked asked.job.range asked.job.generation asked.job.key) (split_asked c.job.range c.job.generation c.job.key) (given_side b (sent earlier) asked.job asked.numbered n asked.side)
          (child_given earlier stand s split n c) in (
            sym (child_range earlier stand s split n c) ∙ sym (ap (λ (z : AskedSplit). z.range) same) ∙ listed.1,
            building_at c.job.phase (child_come earlier stand s split n c asked) (λ three. may.new (child_built earlier stand s split n c three)),
          ));
    }

  builds_so : (event : ServerEvent) (earlier : List ServerEvent) → IsAnswered b (sent earlier) (IsBuiltBy earlier) event → AllStand earlier → BuildsSo texts event (run earlier)
  builds_so (Builds source n) earlier answered all = may_build earlier source n answered (now_stands earlier all) all
  builds_so (Takes s p) earlier answered all = tt
  builds_so (GivesUp s range pick) earlier answered all = tt
  builds_so (Checkpoints s range combine) earlier answered all = tt
  builds_so (Splits s range key) earlier answered all = tt
  builds_so (Stops s call) earlier answered all = tt
  builds_so (Starts s now size) earlier answered all = tt
  builds_so (Moment now) earlier answered all = tt

  -- ---- over a list of events

  -- SPLITS MAKE RANGES SO
  pub all_born : (events : List ServerEvent) → AreAnswered b batch servers events → AllInOrder texts batch servers events → AreBornSo texts batch servers events × AllStand events
  all_born [] answered order = (tt, first_stand texts b batch servers)
  all_born (event ∷ earlier) answered order =
      let before : AreBornSo texts batch servers earlier × AllStand earlier = all_born earlier answered.1 (order_before texts batch servers event earlier order) in
      let now : StandsAt (event ∷ earlier) = event_now texts b batch servers earlier before.0 (now_stands earlier before.1) event order answered.0 in (
        (are_children (event ∷ earlier) now answered (now, before.1), builds_so event earlier answered.0 before.1, before.0),
        (now, before.1),
      )
