-- The metadata of the two ranges that a split makes stands where it stood, whatever others do.
use Rattle.std.proofs.Common.{◌≡◌, ℕ, List, refl, sym, ap, subst}
use Rattle.wire.specs.declared.streams.StreamKind.TheVariants as kinds
use Rattle.replica.specs.Groups.{Group}
use Rattle.client.specs.Client.{ClientState}
use Rattle.model_streams.specs.StreamSystem.{StreamSystem, Move}
use Rattle.model_partition.specs.declared.server_context.ServerContext.{ServerContext}
use Rattle.model_partition.specs.declared.split_job.Side.{Side as SplitSide}
use Rattle.model_partition.specs.declared.split_job.Side.TheVariants.{Low, High}
use Rattle.model_partition.specs.declared.split_job.SplitJob.{SplitJob}
use Rattle.model_partition.specs.declared.split_job.SplitPhase.{SplitPhase}
use Rattle.model_partition.specs.declared.split_job.SplitPhase.TheVariants as phases
use Rattle.model_partition.specs.Range.{RangeState}
use Rattle.model_partition.specs.Splits.{side_range, side_metadata}
use Rattle.model_histories.specs.ServerRun.{RangeHistory}
use Rattle.model_histories.specs.ServerTurns.{after_all}
use Rattle.laws_stream_machine.specs.Refinement.{IsThere}
use Rattle.laws_ranges.specs.Seen.{BeganAt}
use Rattle.laws_ranges.specs.Serves.{Side, Wider, JobIs, metadata_of}
use Rattle.laws_ranges.specs.SplitJobs.{RestsIs}
use Rattle.laws_ranges.specs.SplitSides.{keys_group, SideWaits, SideAppends, SidesStand}
use Rattle.laws_ranges.proofs.MoreSplits.{waits_further, appends_further}
use Rattle.laws_clusters.proofs.Invariant.{Machines, IsMaking, here, m_side, LogRests, SideIsThere, KeysStand}
use Rattle.laws_clusters.proofs.RangeSteps.{IsSteady, IsOnward}
use Rattle.laws_clusters.proofs.RangeStreams.{HasStreams}

-- the keys of the two ranges of a split are made of the same
pub record AreSameKeys (r k : RangeState) : Type 0 where
  pub said : k.said ≡ r.said
  pub metadata : k.metadata ≡ r.metadata

pub same_keys : (r : RangeState) → AreSameKeys r r
same_keys r = record { said = refl; metadata = refl }

module _ (generation : ℕ → ℕ) (nodes target : ℕ) (moves later : List Move) (machines next : ℕ → Machines generation) (history after : ℕ → RangeHistory) (i : ℕ) where
  abbrev w : StreamSystem
  w = here generation nodes target moves

  abbrev v : StreamSystem
  v = here generation nodes target later

  -- what is known of the metadata of a range grows, and the incarnation stands where it stood
  pub record SideGoes (j : ℕ) : Type 0 where
    pub metadata : Wider (metadata_of j) w v (after_all Group generation (machines j).m).state (after_all Group generation (next j).m).state (machines j).m_sent (next j).m_sent
    pub steady : IsSteady generation (machines j) (next j) i
    pub append : (after j).append kinds.Metadata ≡ (history j).append kinds.Metadata
    pub streams : HasStreams w j → HasStreams v j

  -- so it is where nothing of its streams is taken back
  pub side_goes : (j : ℕ) → IsOnward generation nodes target j moves later (machines j) (next j) → IsSteady generation (machines j) (next j) i → (after j).append kinds.Metadata ≡ (history j).append kinds.Metadata →
      (HasStreams w j → HasStreams v j) → SideGoes j
  side_goes j on steady append streams = record { metadata = on.metadata; steady = steady; append = append; streams = streams }

  module _ (job : SplitJob) (r k : RangeState) (same : AreSameKeys r k) where
    abbrev was : SplitSide → Side
    was side = m_side generation (machines (side_range job side)) i

    abbrev now : SplitSide → Side
    now side = m_side generation (next (side_range job side)) i

    client_is : (d : ServerContext) (side : SplitSide) → side_metadata d k job side ≡ side_metadata d r job side
    client_is d side = ap (λ (c : ClientState). side_metadata d (record r { metadata = c }) job side) same.metadata

    group_is : (side : SplitSide) → keys_group k job side ≡ keys_group r job side
    group_is side = ap (λ said. keys_group (record r { said = said }) job side) same.said

    module _ (side : SplitSide) (g : SideGoes (side_range job side)) where
      -- its metadata waits for its keys as before
      pub side_waits_on : SideWaits generation w i (was side) r job side → SideWaits generation v i (now side) k job side
      side_waits_on b d =
          subst (λ c. RestsIs generation (metadata_of (side_range job side)) v i (now side).stand (now side).sent c) (sym (client_is d side))
          (waits_further generation w v i r job side (was side) (now side) g.metadata g.steady.0 b d)

      -- or its keys are appended as before
      pub side_appends_on : (c : ClientState) → SideAppends generation w i (was side) r job side c → SideAppends generation v i (now side) k job side c
      side_appends_on c b =
          let old : SideAppends generation v i (now side) r job side c = appends_further generation w v i r job side (was side) (now side) g.metadata g.steady.0 c b in
          record { client = old.client; group = subst (λ group. JobIs (λ g. g ≡ group) (Unit {0}) c.job c.group) (sym (group_is side)) old.group }

      pub log_rests_on : LogRests generation nodes target moves machines history i r job side → LogRests generation nodes target later next after i k job side
      log_rests_on rests event = subst (λ p. BeganAt event p) (sym g.steady.1) (rests event)

      -- it is there still
      pub side_there_on : SideIsThere generation nodes target moves machines history i r job side → SideIsThere generation nodes target later next after i k job side
      side_there_on b = record {
        counted = b.counted;
        streams = g.streams b.streams;
        append = subst (λ n. BeganAt n ((now side).stand.phase)) (sym g.append) (subst (λ p. BeganAt ((history (side_range job side)).append kinds.Metadata) p) (sym g.steady.0) b.append);
        log = log_rests_on b.log;
      }

    pub sides_on : SideGoes job.low → SideGoes job.high → (phase : SplitPhase) → SidesStand generation w i (was Low) (was High) r job phase → SidesStand generation v i (now Low) (now High) k job phase
    sides_on low high (phases.Keys Low c) s = (side_appends_on Low low c s.0, side_waits_on High high s.1)
    sides_on low high (phases.Keys High c) s = side_appends_on High high c s
    sides_on low high phase s = tt

    -- The two ranges of a split stand as they stood: where nothing is built of them, and each that is there goes on.
    pub keys_on : (phase : SplitPhase) → (IsMaking phase → (side : SplitSide) → IsThere v (metadata_of (side_range job side)) → IsThere w (metadata_of (side_range job side))) →
        (IsMaking phase → (side : SplitSide) → IsThere w (metadata_of (side_range job side)) → SideGoes (side_range job side)) →
        KeysStand generation nodes target moves machines history i r job phase → KeysStand generation nodes target later next after i k job phase
    keys_on (phases.Build q) before goes b = λ side there.
        (let old : IsThere w (metadata_of (side_range job side)) = before tt side there in
        let stood = b side old in
        (side_waits_on side (goes tt side old) stood.0, log_rests_on side (goes tt side old) stood.1))
    keys_on (phases.Keys side c) before goes b =
        (sides_on (goes tt Low ((b.1 Low).streams kinds.Metadata)) (goes tt High ((b.1 High).streams kinds.Metadata)) (phases.Keys side c) b.0, (λ part. side_there_on part (goes tt part ((b.1 part).streams kinds.Metadata)) (b.1 part)))
    keys_on phase before goes b = tt
