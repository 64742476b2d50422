-- A cluster stands on where the manager builds the streams of the two ranges of a split, and servers are told of it.
use Rattle.std.proofs.Common.{◌≡◌, ◌⊎◌, ℕ, ◌≤◌, ◌<◌, Bool, true, false, ◌||◌, ◌==◌, List, [], ◌∷◌, ◌++◌, Some, None, slice_get, Contains, refl, sym, ap, ◌∙◌, subst, inl, inr, arith, if◌then◌else◌}
use Rattle.std.proofs.lemmas.Bool.{or_parts, eqb-true}
use Rattle.std.proofs.lemmas.Bool.Decides.{nat_tests}
use Rattle.wire.specs.declared.actor.ActorId.TheVariants.{Server}
use Rattle.wire.specs.declared.body.Body.TheVariants as bodies
use Rattle.wire.specs.declared.body.StreamBody.TheVariants.{MultiModify}
use Rattle.wire.specs.declared.streams.Modify.{Modify}
use Rattle.wire.specs.declared.streams.Source.{Source}
use Rattle.wire.specs.declared.streams.StreamKind.{StreamKind}
use Rattle.wire.specs.declared.streams.StreamKind.TheVariants as kinds
use Rattle.wire.specs.declared.streams.StreamName.{StreamName}
use Rattle.replica.specs.Groups.{Group}
use Rattle.streams.specs.Streams.{Stream, stream_of}
use Rattle.model_streams.specs.declared.event.Event.{Event}
use Rattle.model_streams.specs.Maps.{changed}
use Rattle.model_streams.specs.Outcome.{packet}
use Rattle.model_streams.specs.StreamSystem.{StreamSystem, happens}
use Rattle.model_partition.specs.Cluster.{Cluster}
use Rattle.model_partition.specs.declared.split_job.Side.{Side as SplitSide}
use Rattle.model_partition.specs.declared.split_job.SplitJob.{SplitJob}
use Rattle.model_partition.specs.Splits.{built_stream, all_streams, side_range}
use Rattle.model_histories.specs.ServerRun.{ServerRun, ServerEvent, Builds, own_or, stream_named, after_event}
use Rattle.model_histories.specs.ServerRun as runs
use Rattle.model_histories.specs.Story.{Story}
use Rattle.model_histories.specs.ServerTurns.{after_all}
use Rattle.model_histories.specs.ServerTurns as machine
use Rattle.laws_stream_machine.specs.Refinement.{Sent, IsThere, extents_of, extents_in}
use Rattle.laws_stream_machine.proofs.LowerLayer as layer
use Rattle.laws_streams.proofs.Choices.{Each, each-contains, contains_get}
use Rattle.laws_streams.proofs.ListRules.{IsBuiltOf}
use Rattle.laws_ranges.specs.Serves.{metadata_of, log_of}
use Rattle.laws_clusters.specs.ServerEvents.{built_events}
use Rattle.laws_clusters.proofs.BuildEvents.{built_in, Takes, BuildsNow}
use Rattle.laws_clusters.proofs.Invariant.{SplitAt, IsMaking, Machines, IsToBe, IsStream, IsBeside, AreBeside, there_below, absent_to_be, here, Standing, Bases}
use Rattle.laws_clusters.proofs.RangeStreams.{HasStreams, IsOfSplit}
use Rattle.laws_clusters.proofs.SharedLogs.{AreBuiltNow, two_builds}
use Rattle.laws_clusters.proofs.SplitNews.{BuildsSide, BuildsOfSplits}
use Rattle.laws_clusters.proofs.StreamFates.{event_stays, event_builds, nobody_asks, copy_closed, copy_below}
use Rattle.laws_clusters.proofs.StreamLayerSteps.{IsBuiltRun, later, has_here, there_in, there_here, one, Unbuilt, gone_on, gone_beside, BuildsSides, BringsSides, copy_of, next_machines, sides_share, event_machines, event_stands}

-- ---- the run of the servers

own_twice : {A : Type 0} (xs : List A) → own_or xs xs ≡ xs
own_twice [] = refl
own_twice (x ∷ xs) = refl

own_either : {A : Type 0} (xs ys : List A) → (own_or xs ys ≡ xs) ⊎ (own_or xs ys ≡ ys)
own_either [] ys = inr refl
own_either (x ∷ xs) ys = inl refl

-- lists of ranges of which two begin with the parent's
module _ (parent low high : ℕ) (low_apart : (parent == low) ≡ false) {A : Type 0} (f : ℕ → List A) where
  abbrev once : ℕ → List A
  once = changed low (own_or (f low) (f parent)) f

  spread_once : (n : ℕ) → (once n ≡ f n) ⊎ (once n ≡ f parent)
  spread_once n = go (n == low) refl
    where
      go : (b : Bool) → (n == low) ≡ b → ((if b then own_or (f low) (f parent) else f n) ≡ f n) ⊎ ((if b then own_or (f low) (f parent) else f n) ≡ f parent)
      go false e = inl refl
      go true e = elim (own_either (f low) (f parent)) [ inl same ↦ inl (same ∙ ap f (sym (eqb-true n low e))) | inr given ↦ inr given ]

  parent_once : once parent ≡ f parent
  parent_once = ap (λ b. if b then own_or (f low) (f parent) else f parent) low_apart

  spread_twice : (n : ℕ) → (changed high (own_or (once high) (once parent)) once n ≡ f n) ⊎ (changed high (own_or (once high) (once parent)) once n ≡ f parent)
  spread_twice n = go (n == high) refl
    where
      go : (b : Bool) → (n == high) ≡ b → ((if b then own_or (once high) (once parent) else once n) ≡ f n) ⊎ ((if b then own_or (once high) (once parent) else once n) ≡ f parent)
      go false e = spread_once n
      go true e = elim (own_either (once high) (once parent)) [
        | inl same ↦ elim (spread_once high) [ inl own ↦ inl (same ∙ own ∙ ap f (sym (eqb-true n high e))) | inr given ↦ inr (same ∙ given) ]
        | inr given ↦ inr (given ∙ parent_once)
      ]

module _ (y : ServerRun) (parent low high : ℕ) (low_apart : (parent == low) ≡ false) where
  abbrev first : ServerRun
  first = runs.built_streams parent low y

  abbrev both : ServerRun
  both = runs.built_streams parent high first

  abbrev sides_of : ℕ → Bool
  sides_of j = (j == low) || (j == high)

  parent_story : (kind : StreamKind) → first.story (stream_named parent kind) ≡ y.story (stream_named parent kind)
  parent_story kind = ap (λ t. if t then own_or (y.story (stream_named parent kind)) (y.story (stream_named parent kind)) else y.story (stream_named parent kind)) low_apart

  kept_story : (name : StreamName) → sides_of name.range ≡ false → both.story name ≡ y.story name
  kept_story name none =
      let parts = or_parts (name.range == low) (name.range == high) none in
      ap (λ t. if t then own_or (first.story name) (first.story (stream_named parent name.kind)) else first.story name) parts.1
      ∙ ap (λ t. if t then own_or (y.story name) (y.story (stream_named parent name.kind)) else y.story name) parts.0

  built_story : (name : StreamName) → sides_of name.range ≡ true → y.story name ≡ [] → both.story name ≡ y.story (stream_named parent name.kind)
  built_story name side empty = go (name.range == low) (name.range == high) refl refl side
    where
      given : Story Group
      given = y.story (stream_named parent name.kind)

      first_is : (a : Bool) → (name.range == low) ≡ a → first.story name ≡ (if a then own_or (y.story name) given else y.story name)
      first_is a is = ap (λ t. if t then own_or (y.story name) given else y.story name) is

      both_is : (b : Bool) → (name.range == high) ≡ b → both.story name ≡ (if b then own_or (first.story name) given else first.story name)
      both_is b is =
          ap (λ t. if t then own_or (first.story name) (first.story (stream_named parent name.kind)) else first.story name) is
          ∙ ap (λ g. if b then own_or (first.story name) g else first.story name) (parent_story name.kind)

      go : (a b : Bool) → (name.range == low) ≡ a → (name.range == high) ≡ b → (a || b) ≡ true → both.story name ≡ given
      go true true one two t = both_is true two ∙ ap (λ s. own_or s given) (first_is true one ∙ ap (λ s. own_or s given) empty) ∙ own_twice given
      go true false one two t = both_is false two ∙ first_is true one ∙ ap (λ s. own_or s given) empty
      go false true one two t = both_is true two ∙ ap (λ s. own_or s given) (first_is false one ∙ empty)
      go false false one two t = absurd cc

  is_built_run : IsBuiltRun y both sides_of parent
  is_built_run = record {
    servers = refl;
    history = λ s range. refl;
    notes = refl;
    kept = kept_story;
    built = built_story;
    shown = spread_twice parent low high low_apart y.shown;
    answered = spread_twice parent low high low_apart y.answered;
  }

-- after these events, of which the newest comes first
abbrev pub after_events : ServerRun → List ServerEvent → ServerRun
after_events y [] = y
after_events y (event ∷ earlier) = after_event (after_events y earlier) event

-- a range that is built has the streams of its source as they stand then
abbrev pub NowShares : (generation : ℕ → ℕ) → ServerRun → (ℕ → Machines generation) → List ServerEvent → Type 0
NowShares generation y machines events =
    (late early : List ServerEvent) (source range : ℕ) → events ≡ late ++ Builds source range ∷ early → AreBuiltNow generation machines source range (after_events y early)

-- where nothing is built
pub none_share : (generation : ℕ → ℕ) (y : ServerRun) (machines : ℕ → Machines generation) → NowShares generation y machines []
none_share generation y machines [] early source range e = absurd cc
none_share generation y machines (event ∷ late) early source range e = absurd cc

-- what is built changes nothing of its source
source_stays : (y : ServerRun) (source range : ℕ) (kind : StreamKind) → (runs.built_streams source range y).story (stream_named source kind) ≡ y.story (stream_named source kind)
source_stays y source range kind = go (source == range)
  where
    go : (t : Bool) → (if t then own_or (y.story (stream_named source kind)) (y.story (stream_named source kind)) else y.story (stream_named source kind)) ≡ y.story (stream_named source kind)
    go true = own_twice (y.story (stream_named source kind))
    go false = refl

-- ---- the streams of a split

-- its entries are of the two ranges, each of one stream of the range that is split
record IsEntry (job : SplitJob) (m : Modify) : Type 0 where
  side : (m.stream.range ≡ job.low) ⊎ (m.stream.range ≡ job.high)
  source : m.sources ≡ record { stream = stream_named job.range m.stream.kind; generation = job.generation } ∷ []

all_entries : (job : SplitJob) → Each (IsEntry job) (all_streams job)
all_entries job = (one kinds.Metadata, (one kinds.Log, (one kinds.RowData, (one kinds.BlobData, (two kinds.Metadata, (two kinds.Log, (two kinds.RowData, (two kinds.BlobData, tt))))))))
  where
    one : (kind : StreamKind) → IsEntry job (built_stream job job.low kind)
    one kind = record { side = inl refl; source = refl }

    two : (kind : StreamKind) → IsEntry job (built_stream job job.high kind)
    two kind = record { side = inr refl; source = refl }

-- the range of the first source
head_range : List Source → ℕ
head_range [] = 0
head_range (source ∷ sources) = source.stream.range

same_number : (n : ℕ) → (n == n) ≡ true
same_number n = grind (arith, nat_tests)

or_true : (a : Bool) → (a || true) ≡ true
or_true true = refl
or_true false = refl

module _ (job : SplitJob) where
  abbrev sides : ℕ → Bool
  sides j = (j == job.low) || (j == job.high)

  entry_side : (m : Modify) → Contains (all_streams job) m → sides m.stream.range ≡ true
  entry_side m among = elim (each-contains (IsEntry job) (all_streams job) m (all_entries job) among).side [
    | inl low ↦ subst (λ n. sides n ≡ true) (sym low) (ap (λ t. t || (job.low == job.high)) (same_number job.low))
    | inr high ↦ subst (λ n. sides n ≡ true) (sym high) (ap (λ t. (job.high == job.low) || t) (same_number job.high) ∙ or_true (job.high == job.low))
  ]

  entry_among : (j : ℕ) → sides j ≡ true → (kind : StreamKind) → (kind ≡ kinds.Metadata) ⊎ (kind ≡ kinds.Log) → Contains (all_streams job) (built_stream job j kind)
  entry_among j side kind of = go (j == job.low) refl (j == job.high) refl side
    where
      at : (n : ℕ) → n < 8 → (m : Modify) → slice_get (all_streams job) n ≡ Some m → Contains (all_streams job) m
      at n less m is = contains_get (all_streams job) n m is

      low_entry : (kind : StreamKind) → (kind ≡ kinds.Metadata) ⊎ (kind ≡ kinds.Log) → Contains (all_streams job) (built_stream job job.low kind)
      low_entry kind (inl is) = subst (λ k. Contains (all_streams job) (built_stream job job.low k)) (sym is) (at 0 (omega arith) (built_stream job job.low kinds.Metadata) refl)
      low_entry kind (inr is) = subst (λ k. Contains (all_streams job) (built_stream job job.low k)) (sym is) (at 1 (omega arith) (built_stream job job.low kinds.Log) refl)

      high_entry : (kind : StreamKind) → (kind ≡ kinds.Metadata) ⊎ (kind ≡ kinds.Log) → Contains (all_streams job) (built_stream job job.high kind)
      high_entry kind (inl is) = subst (λ k. Contains (all_streams job) (built_stream job job.high k)) (sym is) (at 4 (omega arith) (built_stream job job.high kinds.Metadata) refl)
      high_entry kind (inr is) = subst (λ k. Contains (all_streams job) (built_stream job job.high k)) (sym is) (at 5 (omega arith) (built_stream job job.high kinds.Log) refl)

      go : (a : Bool) → (j == job.low) ≡ a → (b : Bool) → (j == job.high) ≡ b → (a || b) ≡ true → Contains (all_streams job) (built_stream job j kind)
      go true one b two t = subst (λ n. Contains (all_streams job) (built_stream job n kind)) (sym (eqb-true j job.low one)) (low_entry kind of)
      go false one true two t = subst (λ n. Contains (all_streams job) (built_stream job n kind)) (sym (eqb-true j job.high two)) (high_entry kind of)
      go false one false two t = absurd cc

  side_counted : (1 ≤ job.low) × (1 ≤ job.high) → (j : ℕ) → sides j ≡ true → 1 ≤ j
  side_counted counted j = go (j == job.low) refl (j == job.high) refl
    where
      go : (a : Bool) → (j == job.low) ≡ a → (b : Bool) → (j == job.high) ≡ b → (a || b) ≡ true → 1 ≤ j
      go true one b two t = subst (λ n. 1 ≤ n) (sym (eqb-true j job.low one)) counted.0
      go false one true two t = subst (λ n. 1 ≤ n) (sym (eqb-true j job.high two)) counted.1
      go false one false two t = absurd cc

-- ---- the cluster

module _ (generation : ℕ → ℕ) (nodes target : ℕ) {base : Bases generation} (c : Cluster) (y : ServerRun) (x : Standing generation nodes target base c y) (event : Event) (news : BuildsOfSplits c event) where
  abbrev w : StreamSystem
  w = here generation nodes target x.moves

  abbrev v : StreamSystem
  v = here generation nodes target (later generation nodes target c y x event)

  abbrev Next : ServerRun → Type 0
  Next z = Standing generation nodes target base (record c { stream_layer = happens c.stream_layer event }) z

  built_here : built_in w event ≡ built_in c.stream_layer event
  built_here = ap (λ (u : StreamSystem). built_in u event) x.leads

  none_among : (list : List Modify) → list ≡ [] → (m : Modify) → Contains list m → ⊥
  none_among list none m among = let less = (subst (λ l. Contains l m) none among).1 in omega (arith, less)

  none_there : (u : StreamSystem) (name : StreamName) → stream_of u.catalog.stream name ≡ None → IsThere u name → ⊥
  none_there u name none (z, is) = let c : None ≡ Some z = sym none ∙ is in cc

  -- what is so of the metadata of the two ranges of a split where it comes to be there
  news_here : (s k : ℕ) (job : SplitJob) → SplitAt c.servers s k job → IsMaking job.phase → (side : SplitSide) → IsThere v (metadata_of (side_range job side)) →
      IsThere w (metadata_of (side_range job side)) ⊎ BuildsSide c.stream_layer event k job side
  news_here s k job split making side there = elim (news s k job split making side (there_in generation nodes target c y x event (metadata_of (side_range job side)) there)) [
    | inl old ↦ inl (there_here generation nodes target c y x event (metadata_of (side_range job side)) old)
    | inr builds ↦ inr builds
  ]

  -- an event that builds nothing
  pub happens_stands : built_in c.stream_layer event ≡ [] → Next y
  happens_stands none =
      event_stands generation nodes target c y x event (λ j. false) 0
      (record {
        metadata_unbuilt = λ j is m among same. none_among (built_in w event) (built_here ∙ none) m among;
        log_unbuilt = λ j is m among same. none_among (built_in w event) (built_here ∙ none) m among;
        absent = λ j is. absurd cc;
        none_done = λ j is. absurd cc;
        metadata = λ j is. absurd cc;
        log = λ j is. absurd cc;
        same_list = λ j is. absurd cc;
      })
      y
      (record { servers = refl; history = λ s range. refl; notes = refl; kept = λ name is. refl; built = λ name is. absurd cc; shown = λ range. inl refl; answered = λ range. inl refl })
      (λ s k job split making side there. elim (news_here s k job split making side there) [ inl old ↦ inl old | inr builds ↦ absurd (none_among (built_in c.stream_layer event) none builds.entry builds.among) ])

  -- one that builds the streams of a split
  module _ (job : SplitJob) (list_is : built_in w event ≡ all_streams job) (counted : 1 ≤ job.range) (side_numbers : (1 ≤ job.low) × (1 ≤ job.high)) (streams : HasStreams w job.range) (takes : Takes w (built_in w event) v) where
    now : BuildsNow w (built_in w event) v
    now = event_builds generation nodes target x.moves event (one generation nodes target c y x event)

    in_list : (m : Modify) → Contains (all_streams job) m → Contains (built_in w event) m
    in_list m among = subst (λ l. Contains l m) (sym list_is) among

    in_split : (m : Modify) → Contains (built_in w event) m → Contains (all_streams job) m
    in_split m among = subst (λ l. Contains l m) list_is among

    -- the parent is there, and no side is
    parent_apart : sides job job.range ≡ false
    parent_apart = go (sides job job.range) refl
      where
        go : (t : Bool) → sides job job.range ≡ t → t ≡ false
        go false is = refl
        go true is = absurd (none_there w (metadata_of job.range) (now.absent (built_stream job job.range kinds.Metadata) (in_list _ (entry_among job job.range is kinds.Metadata (inl refl)))) (streams kinds.Metadata))

    unbuilt : (j : ℕ) → sides job j ≡ false → (kind : StreamKind) → Unbuilt generation nodes target c y x event (stream_named j kind)
    unbuilt j none kind m among same =
        let side : sides job m.stream.range ≡ true = entry_side job m (in_split m among) in
        let range_is : m.stream.range ≡ j = ap (λ (n : StreamName). n.range) same in
        let c : false ≡ true = sym none ∙ subst (λ n. sides job n ≡ true) range_is side in cc

    module _ (kind : StreamKind) (of : (kind ≡ kinds.Metadata) ⊎ (kind ≡ kinds.Log)) (j : ℕ) (side : sides job j ≡ true) where
      abbrev entry : Modify
      entry = built_stream job j kind

      among : Contains (built_in w event) entry
      among = in_list entry (entry_among job j side kind of)

      absent : stream_of w.catalog.stream (stream_named j kind) ≡ None
      absent = now.absent entry among

      -- nothing was done with it
      to_be : (done : List (machine.Move Group generation)) (sent : List Sent) → IsBeside generation nodes target x.moves (stream_named j kind) done sent → IsToBe generation nodes target x.moves (stream_named j kind) done sent
      to_be done sent beside = absent_to_be generation nodes target x.moves (stream_named j kind) done sent beside absent

      -- it is built of the parent's stream of its kind
      built_of : (z : Stream) → stream_of v.catalog.stream (stream_named j kind) ≡ Some z → IsBuiltOf w.catalog (stream_named job.range kind) z
      built_of z there = elim (now.born (stream_named j kind) z absent there) [
        | inl from ↦
            let e : IsEntry job from.entry = each-contains (IsEntry job) (all_streams job) from.entry (all_entries job) (in_split from.entry from.among) in
            let kind_is : from.entry.stream.kind ≡ kind = ap (λ (n : StreamName). n.kind) from.name in
            from.of (record { stream = stream_named job.range kind; generation = job.generation }) (e.source ∙ ap (λ k. record { stream = stream_named job.range k; generation = job.generation } ∷ []) kind_is)
            (streams kind).0 (streams kind).1
        | inr none ↦ absurd (none_among (built_in w event) none.0 entry among)
      ]

      copied : (kind ≡ kinds.BlobData → ⊥) → (done : List (machine.Move Group generation)) (sent : List Sent) → layer.Below generation (stream_named job.range kind) nodes target (later generation nodes target c y x event) (after_all Group generation done) sent →
          (old : List (machine.Move Group generation)) (old_sent : List Sent) → IsBeside generation nodes target x.moves (stream_named j kind) old old_sent →
          IsStream generation nodes target (later generation nodes target c y x event) (stream_named j kind) done []
      copied plain done sent below old old_sent beside =
          let (z, there) = now.there entry among in
          let (s, was) = streams kind in
          record {
            there = (z, there);
            below =
                copy_below generation nodes target x.moves event (one generation nodes target c y x event) (stream_named job.range kind) (stream_named j kind) plain done sent below
                (takes.kept (stream_named job.range kind) s was ∙ sym was) z there (built_of z there)
                (nobody_asks generation nodes target x.moves event (one generation nodes target c y x event) (stream_named j kind) (to_be old old_sent beside).absent.nobody);
          }

    -- it has the extents of the parent's
    same_extents : (kind : StreamKind) → (kind ≡ kinds.Metadata) ⊎ (kind ≡ kinds.Log) → (j : ℕ) → sides job j ≡ true → extents_in v (stream_named j kind) ≡ extents_in v (stream_named job.range kind)
    same_extents kind of j side =
        let (z, there) = now.there (entry kind of j side) (among kind of j side) in
        let from : IsBuiltOf w.catalog (stream_named job.range kind) z = built_of kind of j side z there in
        let parent : stream_of v.catalog.stream (stream_named job.range kind) ≡ Some from.list = takes.kept (stream_named job.range kind) from.list from.there in
        ap extents_of there ∙ from.same ∙ sym (ap extents_of parent)

    -- the parent's machines after the event
    parent_there : (kind : StreamKind) → IsThere v (stream_named job.range kind)
    parent_there kind = event_stays generation nodes target x.moves event (one generation nodes target c y x event) (stream_named job.range kind) (streams kind)

    abbrev parent_machines : Machines generation
    parent_machines = gone_on generation nodes target c y x event job.range

    builds_sides : BuildsSides generation nodes target c y x event (sides job) job.range
    builds_sides =
        let gone = gone_beside generation nodes target c y x event job.range (unbuilt job.range parent_apart kinds.Metadata) (unbuilt job.range parent_apart kinds.Log) in
        record {
          metadata_unbuilt = λ j none. unbuilt j none kinds.Metadata;
          log_unbuilt = λ j none. unbuilt j none kinds.Log;
          absent = λ j side has. none_there w (metadata_of j) (absent kinds.Metadata (inl refl) j side) has;
          none_done = λ j side. (
            (to_be kinds.Metadata (inl refl) j side (x.machines j).m (x.machines j).m_sent ((x.beside j).metadata (side_counted job side_numbers j side))).none_done,
            (to_be kinds.Log (inr refl) j side (x.machines j).l (x.machines j).l_sent ((x.beside j).log (side_counted job side_numbers j side))).none_done,
          );
          metadata = λ j side. copied kinds.Metadata (inl refl) j side (λ k. cc) parent_machines.m parent_machines.m_sent
              (there_below generation nodes target (later generation nodes target c y x event) (metadata_of job.range) parent_machines.m parent_machines.m_sent (gone.metadata counted) (parent_there kinds.Metadata))
              (x.machines j).m (x.machines j).m_sent ((x.beside j).metadata (side_counted job side_numbers j side));
          log = λ j side. copied kinds.Log (inr refl) j side (λ k. cc) parent_machines.l parent_machines.l_sent
              (there_below generation nodes target (later generation nodes target c y x event) (log_of job.range) parent_machines.l parent_machines.l_sent (gone.log counted) (parent_there kinds.Log))
              (x.machines j).l (x.machines j).l_sent ((x.beside j).log (side_counted job side_numbers j side));
          same_list = λ j side. same_extents kinds.Metadata (inl refl) j side;
        }

    -- what is built of the metadata of another is one of these sides
    brings_sides : BringsSides generation nodes target c y x event (sides job) job.range
    unfolding head_range
    brings_sides s k other split making side there = elim (news_here s k other split making side there) [
      | inl old ↦ inl old
      | inr builds ↦
          (let m_in : Contains (all_streams job) builds.entry = in_split builds.entry (subst (λ l. Contains l builds.entry) (sym built_here) builds.among) in
          let e : IsEntry job builds.entry = each-contains (IsEntry job) (all_streams job) builds.entry (all_entries job) m_in in
          let range_is : builds.entry.stream.range ≡ side_range other side = ap (λ (n : StreamName). n.range) builds.stream in
          inr (subst (λ n. sides job n ≡ true) range_is (entry_side job builds.entry m_in), ap head_range (sym e.source ∙ builds.sources)))
    ]

    abbrev half_built : ServerRun
    half_built = runs.built_streams job.range job.low y

    abbrev are_built : IsBuiltRun y (runs.built_streams job.range job.high half_built) (sides job) job.range
    are_built = is_built_run y job.range job.low job.high (or_parts (job.range == job.low) (job.range == job.high) parent_apart).0

    abbrev sides_stand : Next (runs.built_streams job.range job.high half_built)
    sides_stand = event_stands generation nodes target c y x event (sides job) job.range builds_sides (runs.built_streams job.range job.high half_built) are_built brings_sides

    -- the streams of both are those of the parent
    sides_shared : NowShares generation y sides_stand.machines (Builds job.range job.high ∷ Builds job.range job.low ∷ [])
    sides_shared =
        two_builds (λ source range early. AreBuiltNow generation sides_stand.machines source range (after_events y early)) job.range job.low job.high
        (shared job.high (ap (λ t. (job.high == job.low) || t) (same_number job.high) ∙ or_true (job.high == job.low)) half_built (source_stays half_built job.range job.high))
        (shared job.low (ap (λ t. t || (job.low == job.high)) (same_number job.low)) y (λ kind. source_stays half_built job.range job.high kind ∙ source_stays y job.range job.low kind))
      where
        machine_is : (j : ℕ) → sides_stand.machines j ≡ next_machines generation nodes target c y x event (sides job) job.range builds_sides (runs.built_streams job.range job.high half_built) are_built j
        machine_is j = event_machines generation nodes target c y x event (sides job) job.range builds_sides (runs.built_streams job.range job.high half_built) are_built brings_sides j

        are_same : (j : ℕ) → sides job j ≡ true → ((sides_stand.machines j).m ≡ (sides_stand.machines job.range).m) × ((sides_stand.machines j).l ≡ (sides_stand.machines job.range).l)
        are_same j is =
            let both = sides_share generation nodes target c y x event (sides job) job.range builds_sides (runs.built_streams job.range job.high half_built) are_built parent_apart j is in (
              ap (λ (m : Machines generation). m.m) (machine_is j) ∙ both.0 ∙ sym (ap (λ (m : Machines generation). m.m) (machine_is job.range)),
              ap (λ (m : Machines generation). m.l) (machine_is j) ∙ both.1 ∙ sym (ap (λ (m : Machines generation). m.l) (machine_is job.range)),
            )

        -- the parent has no open extent
        closed_by : (kind : StreamKind) → (kind ≡ kinds.Metadata) ⊎ (kind ≡ kinds.Log) → (kind ≡ kinds.BlobData → ⊥) → (done : List (machine.Move Group generation)) (sent : List Sent) →
            layer.Below generation (stream_named job.range kind) nodes target (later generation nodes target c y x event) (after_all Group generation done) sent → (after_all Group generation done).state.core.live ≡ None
        closed_by kind of plain done sent below =
            let side : sides job job.low ≡ true = ap (λ t. t || (job.low == job.high)) (same_number job.low) in
            let (z, there) = now.there (entry kind of job.low side) (among kind of job.low side) in
            let (s, was) = streams kind in
            copy_closed generation nodes target x.moves event (one generation nodes target c y x event) (stream_named job.range kind) (stream_named job.low kind) plain done sent below
            (takes.kept (stream_named job.range kind) s was ∙ sym was) z there (built_of kind of job.low side z there)

        parent_is : sides_stand.machines job.range ≡ parent_machines
        parent_is = machine_is job.range ∙ ap (λ (t : Bool). if t then copy_of generation nodes target c y x event job.range else gone_on generation nodes target c y x event job.range) parent_apart

        gone : AreBeside generation nodes target (later generation nodes target c y x event) job.range parent_machines
        gone = gone_beside generation nodes target c y x event job.range (unbuilt job.range parent_apart kinds.Metadata) (unbuilt job.range parent_apart kinds.Log)

        shared : (j : ℕ) → sides job j ≡ true → (moment : ServerRun) → ((kind : StreamKind) → (runs.built_streams job.range job.high half_built).story (stream_named job.range kind) ≡ moment.story (stream_named job.range kind)) →
            AreBuiltNow generation sides_stand.machines job.range j moment
        shared j is moment same = record {
          metadata = (are_same j is).0;
          log = (are_same j is).1;
          metadata_closed = subst (λ (u : Machines generation). (after_all Group generation u.m).state.core.live ≡ None) (sym parent_is)
              (closed_by kinds.Metadata (inl refl) (λ k. cc) parent_machines.m parent_machines.m_sent
              (there_below generation nodes target (later generation nodes target c y x event) (metadata_of job.range) parent_machines.m parent_machines.m_sent (gone.metadata counted) (parent_there kinds.Metadata)));
          log_closed = subst (λ (u : Machines generation). (after_all Group generation u.l).state.core.live ≡ None) (sym parent_is)
              (closed_by kinds.Log (inr refl) (λ k. cc) parent_machines.l parent_machines.l_sent
              (there_below generation nodes target (later generation nodes target c y x event) (log_of job.range) parent_machines.l parent_machines.l_sent (gone.log counted) (parent_there kinds.Log)));
          metadata_story = sym (sides_stand.stories.metadata_is job.range) ∙ same kinds.Metadata;
          log_story = sym (sides_stand.stories.log_is job.range) ∙ same kinds.Log;
        }

  abbrev Told : List Modify → Type 0
  Told list = (stands : Next (after_events y (built_events list))) × NowShares generation y stands.machines (built_events list)

  -- Whatever the event builds, servers are told of it, and it has the streams of what it was built of.
  pub builds_share : Told (built_in c.stream_layer event)
  builds_share = by_list (built_in w event) refl
    where
      as_told : Told (built_in w event) → Told (built_in c.stream_layer event)
      as_told = subst Told built_here

      some_stand : (m : Modify) → Contains (built_in w event) m → Takes w (built_in w event) v → Told (built_in w event)
      some_stand m among takes =
          let old : IsOfSplit c.stream_layer (built_in w event) = x.lists takes.server takes.to (built_in w event) takes.request (subst (λ (u : StreamSystem). Contains u.post (packet (Server takes.server) takes.to (bodies.Stream (MultiModify (built_in w event) takes.request)))) x.leads takes.asked) m among in
          subst Told (sym old.is) (
            sides_stand old.job old.is old.counted old.sides (has_here generation nodes target c y x event old.job.range old.streams) takes,
            sides_shared old.job old.is old.counted old.sides (has_here generation nodes target c y x event old.job.range old.streams) takes,
          )

      by_list : (list : List Modify) → built_in w event ≡ list → Told (built_in c.stream_layer event)
      by_list [] is = subst Told (sym is ∙ built_here) (happens_stands (sym built_here ∙ is), none_share generation y (happens_stands (sym built_here ∙ is)).machines)
      by_list (m ∷ list) is = elim (event_builds generation nodes target x.moves event (one generation nodes target c y x event)).taken [
        | inl none ↦ absurd (let c : [] ≡ m ∷ list = sym none ∙ is in cc)
        | inr takes ↦ as_told (some_stand m (subst (λ l. Contains l m) (sym is) (0, omega arith, refl)) takes)
      ]

  pub builds_stand : Next (after_events y (built_events (built_in c.stream_layer event)))
  builds_stand = builds_share.0
