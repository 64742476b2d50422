-- What the streams of two ranges share, where those of the one were built of the other's.
use Rattle.std.proofs.Common.{◌≡◌, ℕ, List, [], ◌∷◌, ◌++◌, Option, None, refl, subst}
use Rattle.replica.specs.Groups.{Group}
use Rattle.model_partition.specs.Cluster.{Cluster}
use Rattle.model_histories.specs.ServerRun.{ServerRun, ServerEvent, Builds, log_name, metadata_name}
use Rattle.model_histories.specs.ServerTurns.{after_all}
use Rattle.model_histories.specs.ServerTurns as machine
use Rattle.model_histories.specs.Story.{Story}
use Rattle.laws_tables.specs.Built.{story_of}
use Rattle.laws_clusters.proofs.GrownLists.{GrewFrom, grew_far}
use Rattle.laws_clusters.proofs.Invariant.{Machines, Bases, Standing, over_base}

module _ (generation : ℕ → ℕ) where
  -- two machines have grown from one beginning, of this story
  pub record SharesMoves (source built : List (machine.Move Group generation)) (story : Story Group) : Type 0 where
    pub moves : List (machine.Move Group generation)
    pub source_grew : GrewFrom moves source
    pub built_grew : GrewFrom moves built
    pub story_is : story_of Group generation moves ≡ story

  -- and so they have, however they grow
  shares_moves_on : (source source_later built built_later : List (machine.Move Group generation)) → GrewFrom source source_later → GrewFrom built built_later → (story : Story Group) → SharesMoves source built story → SharesMoves source_later built_later story
  shares_moves_on source source_later built built_later more own story s = record {
    moves = s.moves;
    source_grew = grew_far s.moves source source_later s.source_grew more;
    built_grew = grew_far s.moves built built_later s.built_grew own;
    story_is = s.story_is;
  }

  -- The streams of a range have the machines of the source's, as these stand in this run, with all extents sealed.
  pub record AreBuiltNow (machines : ℕ → Machines generation) (source range : ℕ) (y : ServerRun) : Type 0 where
    pub metadata : (machines range).m ≡ (machines source).m
    pub log : (machines range).l ≡ (machines source).l
    pub metadata_closed : (after_all Group generation (machines source).m).state.core.live ≡ None
    pub log_closed : (after_all Group generation (machines source).l).state.core.live ≡ None
    pub metadata_story : story_of Group generation (machines source).m ≡ y.story (metadata_name source)
    pub log_story : story_of Group generation (machines source).l ≡ y.story (log_name source)

  -- The metadata of both ranges have grown from one beginning, and so have their logs: as those of the source stood in this run.
  pub record SharesStreams (machines : ℕ → Machines generation) (source range : ℕ) (y : ServerRun) : Type 0 where
    pub metadata : SharesMoves (machines source).m (machines range).m (y.story (metadata_name source))
    pub log : SharesMoves (machines source).l (machines range).l (y.story (log_name source))

  pub built_share : (machines : ℕ → Machines generation) (source range : ℕ) (y : ServerRun) → AreBuiltNow machines source range y → SharesStreams machines source range y
  built_share machines source range y b = record {
    metadata = record { moves = (machines source).m; source_grew = ([], refl); built_grew = ([], b.metadata); story_is = b.metadata_story };
    log = record { moves = (machines source).l; source_grew = ([], refl); built_grew = ([], b.log); story_is = b.log_story };
  }

  pub share_on : (machines later : ℕ → Machines generation) → ((range : ℕ) → GrewFrom (machines range).m (later range).m × GrewFrom (machines range).l (later range).l) → (source range : ℕ) (y : ServerRun) → SharesStreams machines source range y →
      SharesStreams later source range y
  share_on machines later grows source range y s = record {
    metadata = shares_moves_on (machines source).m (later source).m (machines range).m (later range).m (grows source).0 (grows range).0 (y.story (metadata_name source)) s.metadata;
    log = shares_moves_on (machines source).l (later source).l (machines range).l (later range).l (grows source).1 (grows range).1 (y.story (log_name source)) s.log;
  }

  -- what stands has grown from itself
  abbrev pub as_it_stands : (ℕ → Machines generation) → Option (ℕ × ℕ) → Bases generation
  as_it_stands machines midst = record { metadata = λ range. (machines range).m; logs = λ range. (machines range).l; midst = midst }

  abbrev pub rebased : (nodes target : ℕ) {base : Bases generation} (c : Cluster) (y : ServerRun) (x : Standing generation nodes target base c y) → Standing generation nodes target (as_it_stands x.machines base.midst) c y
  rebased nodes target {base} c y x = over_base generation nodes target c y x (as_it_stands x.machines base.midst) (λ range. (([], refl), ([], refl))) x.keys

-- one of the two that were built of a range, with what was built before it
pub two_builds : (P : (source range : ℕ) → List ServerEvent → Type 0) (parent low high : ℕ) → P parent high (Builds parent low ∷ []) → P parent low [] → (late early : List ServerEvent) (source range : ℕ) →
    Builds parent high ∷ Builds parent low ∷ [] ≡ late ++ Builds source range ∷ early → P source range early
two_builds P parent low high one two [] early source range e =
    let source_is : parent ≡ source = cc in
    let range_is : high ≡ range = cc in
    let early_is : Builds parent low ∷ [] ≡ early = cc in
    subst (P source range) early_is (subst (λ n. P source n (Builds parent low ∷ [])) range_is (subst (λ n. P n high (Builds parent low ∷ [])) source_is one))
two_builds P parent low high one two (a ∷ []) early source range e =
    let source_is : parent ≡ source = cc in
    let range_is : low ≡ range = cc in
    let early_is : [] ≡ early = cc in
    subst (P source range) early_is (subst (λ n. P source n []) range_is (subst (λ n. P n low []) source_is two))
two_builds P parent low high one two (a ∷ b ∷ late) early source range e = absurd (none_left late early (let rest : [] ≡ late ++ Builds source range ∷ early = cc in rest))
  where
    none_left : (late early : List ServerEvent) → [] ≡ late ++ Builds source range ∷ early → ⊥
    none_left [] early e = cc
    none_left (a ∷ late) early e = cc
