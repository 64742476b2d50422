-- The two ranges of each split stand as they stood, where one range takes a step at a server.
use Rattle.std.proofs.Common.{◌≡◌, ℕ, Bool, true, false, List, Option, Some, Contains, refl, sym, ap, ◌∙◌, subst, inl, inr, ◌==◌, ◌&&◌}
use Rattle.std.proofs.lemmas.Bool.{cases_eq, eqb-true}
use Rattle.wire.specs.declared.note.Note.{Note}
use Rattle.wire.specs.declared.streams.StreamKind.TheVariants as kinds
use Rattle.model_streams.specs.StreamSystem.{Move}
use Rattle.model_partition.specs.declared.split_job.Side.{Side as SplitSide}
use Rattle.model_partition.specs.declared.split_job.Side.TheVariants.{Low, High}
use Rattle.model_partition.specs.declared.split_job.SplitJob.{SplitJob}
use Rattle.model_partition.specs.declared.split_job.SplitPhase.{SplitPhase}
use Rattle.model_partition.specs.declared.split_job.SplitPhase.TheVariants as phases
use Rattle.model_partition.specs.Range.{RangeState}
use Rattle.model_partition.specs.Servers.{ServerCell}
use Rattle.model_partition.specs.Splits.{side_range}
use Rattle.model_histories.specs.ServerRun.{RangeHistory}
use Rattle.laws_ranges.specs.Serves.{metadata_of}
use Rattle.laws_ranges.specs.SplitJobs.{AreOthers}
use Rattle.laws_server_runs.proofs.Actions.{same_test}
use Rattle.laws_clusters.proofs.Invariant.{HeldAt, SplitAt, IsMaking, Machines, Bases, IsFirm, KeysStand, here}
use Rattle.laws_clusters.proofs.OtherRanges.{onward_same}
use Rattle.laws_clusters.proofs.RangeSteps.{IsSteady, IsOnward}
use Rattle.laws_clusters.proofs.RangeStreams.{HasStreams, catalog_stays, streams_stay}
use Rattle.laws_clusters.proofs.SplitSidesKept.{SideGoes, side_goes, keys_on, same_keys}
use Rattle.laws_clusters.proofs.StepShapes.{Incarnations, other_range, other_server}

-- where the two ranges that are made are others than this, it is none of them
pub both_other : (range : ℕ) (job : SplitJob) (phase : SplitPhase) → IsMaking phase → AreOthers range job phase → (side : SplitSide) → side_range job side ≡ range → ⊥
both_other range job (phases.Build q) making others Low = others.0
both_other range job (phases.Build q) making others High = others.1
both_other range job (phases.Keys part c) making others Low = others.0
both_other range job (phases.Keys part c) making others High = others.1
both_other range job (phases.Begin q) making others side = absurd making
both_other range job phases.Checkpoint making others side = absurd making
both_other range job phases.Queue making others side = absurd making
both_other range job phases.Record making others side = absurd making
both_other range job (phases.Seal kind q) making others side = absurd making
both_other range job (phases.Complete q) making others side = absurd making

module _ (generation : ℕ → ℕ) (nodes target : ℕ) (moves later : List Move) (same_catalog : (here generation nodes target later).catalog ≡ (here generation nodes target moves).catalog)
    (all_notes : (note : Note) → Contains (here generation nodes target moves).notes note → Contains (here generation nodes target later).notes note) (machines next : ℕ → Machines generation) (before after : (s range : ℕ) → RangeHistory) (s range i : ℕ)
    (other_here : (j : ℕ) → (j ≡ range → ⊥) → next j ≡ machines j) (apart_is : (u j : ℕ) → ((u == s) && (j == range)) ≡ false → after u j ≡ before u j)
    (onward : IsOnward generation nodes target range moves later (machines range) (next range)) (steady : (n : ℕ) → (n ≡ i → ⊥) → IsSteady generation (machines range) (next range) n) where
  abbrev OnAt : ℕ → ℕ → ℕ → Type 0
  OnAt u j n = SideGoes generation nodes target moves later machines next (before u) (after u) n j

  appended : (u j : ℕ) → ((u == s) && (j == range)) ≡ false → (after u j).append kinds.Metadata ≡ (before u j).append kinds.Metadata
  appended u j test = ap (λ (h : RangeHistory). h.append kinds.Metadata) (apart_is u j test)

  streams_there : (j : ℕ) → HasStreams (here generation nodes target moves) j → HasStreams (here generation nodes target later) j
  streams_there j has = streams_stay (here generation nodes target moves) (here generation nodes target later) (catalog_stays (here generation nodes target moves) (here generation nodes target later) same_catalog) j has

  -- another range's streams
  side_aside : (u j n : ℕ) → (j ≡ range → ⊥) → OnAt u j n
  side_aside u j n other =
      side_goes generation nodes target moves later machines next (before u) (after u) n j
      (subst (λ v. IsOnward generation nodes target j moves later (machines j) v) (sym (other_here j other)) (onward_same generation nodes target j moves later (machines j) same_catalog all_notes))
      (subst (λ v. IsSteady generation (machines j) v n) (sym (other_here j other)) (refl, refl)) (appended u j (other_range u s j range other)) (streams_there j)

  -- those of the range, to an incarnation at another server
  side_elsewhere : (u n : ℕ) → (u ≡ s → ⊥) → (n ≡ i → ⊥) → OnAt u range n
  side_elsewhere u n away other = side_goes generation nodes target moves later machines next (before u) (after u) n range onward (steady n other) (appended u range (other_server u s range range away)) (streams_there range)

  abbrev Keyed : ℕ → ℕ → RangeState → SplitJob → Type 0
  Keyed u n r job = KeysStand generation nodes target later next (after u) n r job job.phase

  abbrev KeyedBefore : ℕ → ℕ → RangeState → SplitJob → Type 0
  KeyedBefore u n r job = KeysStand generation nodes target moves machines (before u) n r job job.phase

  keys_go : (u n : ℕ) (r : RangeState) (job : SplitJob) → (IsMaking job.phase → (side : SplitSide) → OnAt u (side_range job side) n) → KeyedBefore u n r job → Keyed u n r job
  keys_go u n r job on =
      keys_on generation nodes target moves later machines next (before u) (after u) n job r r (same_keys r) job.phase
      (λ making side there. catalog_stays (here generation nodes target later) (here generation nodes target moves) (sym same_catalog) (metadata_of (side_range job side)) there) (λ making side there. on making side)

  module _ (servers servers_then : List ServerCell) (base : Bases generation) (incarnation : (server range : ℕ) → Option ℕ) (bound : ℕ) (left : Option RangeState) (these : Incarnations incarnation bound s range i left)
      (held_back : (u k : ℕ) (r : RangeState) → (u ≡ s → k ≡ range → ⊥) → HeldAt servers_then u k r → HeldAt servers u k r)
      (split_back : (u k : ℕ) (job : SplitJob) → (u ≡ s → k ≡ range → ⊥) → SplitAt servers_then u k job → SplitAt servers u k job)
      (keys : (u k : ℕ) (r : RangeState) (job : SplitJob) → HeldAt servers u k r → SplitAt servers u k job → IsFirm generation base u k → (n : ℕ) → incarnation u k ≡ Some n → KeyedBefore u n r job)
      (own : (r : RangeState) (job : SplitJob) → HeldAt servers_then s range r → SplitAt servers_then s range job → IsFirm generation base s range → (left ≡ Some r) × ((phase : SplitPhase) → job.phase ≡ phase → AreOthers range job phase) × KeyedBefore s i r job)
      (apart : (k : ℕ) (job : SplitJob) → SplitAt servers s k job → (k ≡ range → ⊥) → IsMaking job.phase → IsFirm generation base s k → (side : SplitSide) → side_range job side ≡ range → ⊥) where
    away_keyed : (u k : ℕ) (r : RangeState) (job : SplitJob) → (u ≡ s → k ≡ range → ⊥) → HeldAt servers_then u k r → SplitAt servers_then u k job → IsFirm generation base u k → (n : ℕ) → incarnation u k ≡ Some n → Keyed u n r job
    away_keyed u k r job away h found firm n mine = keys_go u n r job on (keys u k r job (held_back u k r away h) (split_back u k job away found) firm n mine)
      where
        elsewhere : IsMaking job.phase → (side : SplitSide) → side_range job side ≡ range → u ≡ s → ⊥
        elsewhere making side same at_s =
            apart k job (subst (λ v. SplitAt servers v k job) at_s (split_back u k job away found)) (λ is_range. away at_s is_range) making (subst (λ v. IsFirm generation base v k) at_s firm) side same

        on : IsMaking job.phase → (side : SplitSide) → OnAt u (side_range job side) n
        on making side = elim (cases_eq (side_range job side) range) [
          | inr other ↦ side_aside u (side_range job side) n other
          | inl same ↦
              subst (λ j. OnAt u j n) (sym same) (side_elsewhere u n (elsewhere making side same) (λ is_i. elsewhere making side same (these.alone u k (mine ∙ ap (λ v. Some v) is_i))))
        ]

    here_keyed : (r : RangeState) (job : SplitJob) → HeldAt servers_then s range r → SplitAt servers_then s range job → IsFirm generation base s range → (n : ℕ) → these.of s range ≡ Some n → Keyed s n r job
    here_keyed r job h found firm n mine =
        let (left_is, others, kept) = own r job h found firm in
        let both : Some i ≡ Some n = sym (these.here r left_is) ∙ mine in
        let same : i ≡ n = cc in
        subst (λ v. Keyed s v r job) same (keys_go s i r job (λ making side. side_aside s (side_range job side) i (both_other range job job.phase making (others job.phase refl) side)) kept)

    pub keys_after : (u k : ℕ) (r : RangeState) (job : SplitJob) → HeldAt servers_then u k r → SplitAt servers_then u k job → IsFirm generation base u k → (n : ℕ) → these.of u k ≡ Some n → Keyed u n r job
    keys_after u k r job h found firm n mine = go (u == s) refl (k == range) refl
      where
        before_is : (a b : Bool) → (u == s) ≡ a → (k == range) ≡ b → ((u == s) && (k == range)) ≡ (a && b)
        before_is a b one two = ap (λ t. t && (k == range)) one ∙ ap (λ t. a && t) two

        here_so : u ≡ s → k ≡ range → Keyed u n r job
        here_so at_s of_range =
            subst (λ v. Keyed v n r job) (sym at_s)
            (here_keyed r job (subst (λ v. HeldAt servers_then v range r) at_s (subst (λ j. HeldAt servers_then u j r) of_range h)) (subst (λ v. SplitAt servers_then v range job) at_s (subst (λ j. SplitAt servers_then u j job) of_range found))
            (subst (λ v. IsFirm generation base v range) at_s (subst (λ j. IsFirm generation base u j) of_range firm)) n (subst (λ v. these.of v range ≡ Some n) at_s (subst (λ j. these.of u j ≡ Some n) of_range mine)))

        go : (a : Bool) → (u == s) ≡ a → (b : Bool) → (k == range) ≡ b → Keyed u n r job
        go true one true two = here_so (eqb-true u s one) (eqb-true k range two)
        go true one false two =
            away_keyed u k r job (λ at_s of_range. (let e : false ≡ true = sym two ∙ ap (λ v. v == range) of_range ∙ same_test range in cc)) h found firm n (sym (these.others u k (before_is true false one two)) ∙ mine)
        go false one b two = away_keyed u k r job (λ at_s of_range. (let e : false ≡ true = sym one ∙ ap (λ v. v == s) at_s ∙ same_test s in cc)) h found firm n (sym (these.others u k (before_is false b one two)) ∙ mine)
