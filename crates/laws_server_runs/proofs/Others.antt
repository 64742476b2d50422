-- A range keeps what it keeps while ranges of other generations go on.
use Rattle.std.proofs.Common.{◌≡◌, ℕ, ◌==◌, true, false, ◌∷◌, if◌then◌else◌, refl, sym, ap, ◌∙◌, subst, arith}
use Rattle.std.proofs.lemmas.Bool.Decides.{nat_tests}
use Rattle.wire.specs.declared.streams.StreamKind.TheVariants as kinds
use Rattle.model_partition.specs.declared.stage.Stage.{Stage}
use Rattle.model_partition.specs.declared.stage.Stage.TheVariants as stages
use Rattle.model_partition.specs.Past.{Bytes, Transaction}
use Rattle.model_histories.specs.Story.{Made, Answered, Showed, Story}
use Rattle.model_partition.specs.Range.{RangeState, is_serving}
use Rattle.model_partition.specs.Loading.{Group}
use Rattle.model_histories.specs.Renaming.{renamed, decoded, decoded_record}
use Rattle.model_histories.specs.ServerRun.{RangeHistory}
use Rattle.commitlog.specs.Replay.{Numbered}
use Rattle.laws_loads.specs.RangeView.{RangeView, log_of, metadata_of}
use Rattle.laws_tables.specs.Runs as chains
use Rattle.laws_tables.specs.Runs.{Event, Run, Serving, first_beginning, held, IsServing}
use Rattle.laws_tables.proofs.Range.{older}
use Rattle.laws_server_runs.specs.CheckpointInvariant.{parts_of, out_beside, HoldsCheckpoint, AppendsMetadata, StandsBeside}
use Rattle.laws_server_runs.specs.RangeInvariant.{HasReadNothing, ReadsMetadata, ReadsLog, generation_of, GoesOn, Rests, Adds, IsLonger, append_of, Matches, Serves, StageIs, RangeKept, AllSpelled, AreCheckpoints, IsOfPages, ReadsIndexes, HasReadAll, StreamsKept}
use Rattle.laws_server_runs.proofs.Fronts.{stand_shorter}
use Rattle.laws_server_runs.proofs.HeldCheckpoints.{longer_holds}

-- ---- one event more

-- a generation that is served is served on
pub serving_on : (e : Event) (run : Run) (g : ℕ) → IsServing run g → IsServing (e ∷ run) g
serving_on (chains.Forms h group) run g s = (s.0, s.1, s.2, s.3, older (Numbered Transaction) (Made h group) (chains.log_of run) s.0 (Showed g s.1 s.2 s.3) s.4)
serving_on (chains.Logged h append from to) run g s = (s.0, s.1, s.2, s.3, older (Numbered Transaction) (Answered append from to) (chains.log_of run) s.0 (Showed g s.1 s.2 s.3) s.4)
serving_on (chains.Notes h) run g s = s
serving_on (chains.Records h number item) run g s = s
serving_on (chains.Recorded h append from to) run g s = s
serving_on (chains.Trims h place) run g s = s
serving_on (chains.Confirms h start end groups metadata_end records) run g s =
    (s.0, s.1, s.2, s.3, older (Numbered Transaction) (Showed h start end groups) (chains.log_of run) s.0 (Showed g s.1 s.2 s.3) s.4)

-- what another generation holds stays
held_apart : (e : Event) (run : Run) (g : ℕ) → (g ≡ generation_of e → ⊥) → held first_beginning (e ∷ run) g ≡ held first_beginning run g
held_apart e run g apart = go e apart
  where
    skips : (h : ℕ) (a b : Serving) → (g ≡ h → ⊥) → (if g == h then a else b) ≡ b
    skips h a b ne = let t : (g == h) ≡ false = grind (arith, nat_tests) in ap (λ t. if t then a else b) t

    go : (e : Event) → (g ≡ generation_of e → ⊥) → held first_beginning (e ∷ run) g ≡ held first_beginning run g
    go (chains.Forms h group) ne = skips h _ _ ne
    go (chains.Logged h append from to) ne = skips h _ _ ne
    go (chains.Notes h) ne = skips h _ _ ne
    go (chains.Records h number item) ne = skips h _ _ ne
    go (chains.Recorded h append from to) ne = skips h _ _ ne
    go (chains.Trims h place) ne = refl
    go (chains.Confirms h start end groups metadata_end records) ne = skips h _ _ ne

-- ---- a run that goes on under one generation

serving_still : (g : ℕ) (run later : Run) → GoesOn g run later → (h : ℕ) → IsServing run h → IsServing later h
serving_still g run later Rests h s = s
serving_still g run later (Adds e earlier on under) h s = serving_on e earlier h (serving_still g run earlier on h s)

held_still : (g : ℕ) (run later : Run) → GoesOn g run later → (h : ℕ) → (h ≡ g → ⊥) → held first_beginning later h ≡ held first_beginning run h
held_still g run later Rests h apart = refl
held_still g run later (Adds e earlier on under) h apart = held_apart e earlier h (λ same. apart (same ∙ under)) ∙ held_still g run earlier on h apart

-- ---- the streams of a range

module _ (texts : ℕ → Bytes) where
  -- what is kept of streams is said of their stories alone
  pub streams_same : (run : Run) (v w : RangeView) → log_of w ≡ log_of v → metadata_of w ≡ metadata_of v → StreamsKept texts run v → StreamsKept texts run w
  streams_same run v w log metadata k = record {
    log = k.log ∙ ap (renamed decoded) (sym log);
    metadata = k.metadata ∙ ap (renamed decoded_record) (sym metadata);
    chain = k.chain;
    spelled = subst (λ (z : Story Group). AllSpelled texts z) (sym log) k.spelled;
    records = subst (λ (z : Story Group). AreCheckpoints (IsOfPages texts) z) (sym metadata) k.records;
  }

module _ (texts : ℕ → Bytes) (subject : ℕ) where
  -- ---- a range that is served

  module _ (run later : Run) (v v' : RangeView) (same : v'.history ≡ v.history) (split : v'.split ≡ v.split) (g : ℕ) (goes : GoesOn g run later) (longer : IsLonger v.answered v'.answered) (u : RangeState) where
    still_matches : (s : Serving) → Matches texts v s u → Matches texts v' s u
    still_matches s m = record {
      position = m.position;
      next = m.next;
      out = m.out ∙ ap (λ (h : RangeHistory). append_of (h.append kinds.Log) u.out) (sym same);
      live = λ all. m.live (stand_shorter texts v.answered v'.answered longer all);
      checkpoint = subst (λ x. HoldsCheckpoint texts (record (parts_of v' s u) { record_out = out_beside x s.record_out }) u.control) (sym split)
          (subst (λ n. HoldsCheckpoint texts (record (parts_of v' s u) { append = n; record_out = out_beside v.split s.record_out }) u.control) (ap (λ (h : RangeHistory). h.append kinds.Metadata) (sym same))
          (longer_holds texts (parts_of v s u) v'.answered longer u.control m.checkpoint));
      said = m.said;
      installed = m.installed;
      ordered = m.ordered;
      named = m.named;
      rows = m.rows;
      reads = m.reads;
      beside = subst (λ x. StandsBeside x (v'.history.append kinds.Metadata) s.record_out u.control u.said.next) (sym split)
          (subst (λ (h : RangeHistory). StandsBeside v.split (h.append kinds.Metadata) s.record_out u.control u.said.next) (sym same) m.beside);
      metadata = subst (λ z. AppendsMetadata u.metadata.job z u.control) (sym split) m.metadata;
    }

    still_serves : (u.load.generation ≡ g → ⊥) → Serves texts run v u → Serves texts later v' u
    still_serves apart k = record {
      shown = serving_still g run later goes u.load.generation k.shown;
      matches = subst (λ s. Matches texts v' s u) (sym (held_still g run later goes u.load.generation apart)) (still_matches (held first_beginning run u.load.generation) k.matches);
    }

    still_at : (stage : Stage) → (is_serving stage ≡ true → u.load.generation ≡ g → ⊥) → StageIs texts run v u stage → StageIs texts later v' u stage
    still_at stages.Opening apart k = subst (λ h. HasReadNothing h u) (sym same) k
    still_at (stages.Checking kinds.Metadata) apart k = subst (λ h. ReadsMetadata h u) (sym same) k
    still_at (stages.Checking kinds.Log) apart k = (subst (λ h. ReadsLog h u) (sym same) k.0, k.1)
    still_at (stages.Checking kinds.RowData) apart k = k
    still_at (stages.Checking kinds.BlobData) apart k = k
    still_at (stages.Reading kinds.Metadata position) apart k = subst (λ h. ReadsMetadata h u) (sym same) k
    still_at (stages.Reading kinds.Log position) apart k = (subst (λ h. ReadsLog h u) (sym same) k.0, k.1)
    still_at (stages.Reading kinds.RowData position) apart k = k
    still_at (stages.Reading kinds.BlobData position) apart k = k
    still_at (stages.Indexing position) apart k = (subst (λ h. ReadsIndexes texts h u position) (sym same) k.0, k.1)
    still_at stages.Confirming apart k = subst (λ h. HasReadAll texts h u) (sym same) k
    still_at stages.Serving apart k = still_serves (apart refl) k

  -- a range that is not served under that generation keeps what it keeps
  pub others_kept : (run later : Run) (v : RangeView) (u : RangeState) (v' : RangeView) → v'.history ≡ v.history → v'.split ≡ v.split → RangeKept texts subject run v u → (g : ℕ) → GoesOn g run later →
      IsLonger v.answered v'.answered → (is_serving u.stage ≡ true → u.load.generation ≡ g → ⊥) → RangeKept texts subject later v' u
  others_kept run later v u v' same split k g goes longer apart =
      record { range = k.range; phase = k.phase; sound = k.sound; stage = still_at run later v v' same split g goes longer u u.stage apart k.stage; held = k.held }
