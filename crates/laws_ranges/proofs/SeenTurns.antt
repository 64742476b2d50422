-- What turns add to the stories of a range's streams, and what actions add to the stories that servers see: the same.
use Rattle.std.proofs.Common.{◌≡◌, ℕ, List, [], ◌∷◌, map, Bool, true, false, nat_lt, refl, sym, ap, ◌∙◌, subst, arith, if◌then◌else◌}
use Rattle.std.proofs.lemmas.Bool.Decides.{nat_tests}
use Rattle.wire.specs.declared.streams.StreamKind.TheVariants as kinds
use Rattle.streams.specs.declared.table.Position.{Position}
use Rattle.replica.specs.Groups.{Group}
use Rattle.model_streams.specs.StreamSystem.{StreamSystem}
use Rattle.model_partition.specs.declared.server_context.ServerContext.{ServerContext}
use Rattle.model_partition.specs.Range.{RangeOutcome}
use Rattle.model_histories.specs.ServerRun.{place_number, placed_reads, placed_behind}
use Rattle.model_histories.specs.ServerTurns as turns
use Rattle.model_histories.specs.Story.{Showed, Story, Placed, Copy, placed, from_place}
use Rattle.model_histories.specs.StreamActions.{StreamAction, Shows}
use Rattle.laws_loads.specs.RangeView.{RangeView, view_after_all}
use Rattle.laws_ranges.specs.Serves.{Stand, Side, after_turns}
use Rattle.laws_ranges.specs.Quiet.{AreQuiet, GoesQuietly, AreReads}
use Rattle.laws_ranges.specs.Seen.{BeganAt, SeesStories, SeesStory, AreSeen, AreSeenOf, RuleSees}
use Rattle.laws_ranges.proofs.OneStory.{quiet_seen_of}

none_below : (n : ℕ) → nat_lt n 0 ≡ false
none_below n = grind (arith, nat_tests)

-- nothing stands before the first place
from_first : (copies : List (Copy Group)) → from_place 0 copies ≡ copies
from_first [] = refl
from_first (c ∷ copies) = go (nat_lt c.from 0) (none_below c.from)
  where
    go : (t : Bool) → t ≡ false → (if t then from_place 0 copies else c ∷ copies) ≡ c ∷ copies
    go true e = absurd (cc)
    go false e = refl

module _ (generation : ℕ → ℕ) (i : ℕ) where
  -- ---- one of both streams

  log_story : (v : RangeView) (m l : Stand) → SeesStories generation i v m l → SeesStory generation i kinds.Log v l
  log_story v m l s = record { story = s.log; append = s.append }

  metadata_story : (v : RangeView) (m l : Stand) → SeesStories generation i v m l → SeesStory generation i kinds.Metadata v m
  metadata_story v m l s = record { story = s.metadata; append = s.record_append }

  -- what is seen of each is seen of both
  pub seen_of_both : (v : RangeView) (m x : Stand) (ms ls : List (turns.Turn Group)) (actions : List StreamAction) → AreSeenOf generation i kinds.Metadata v m ms actions → AreSeenOf generation i kinds.Log v x ls actions →
      AreSeen generation i v m x ms ls actions
  seen_of_both v m x ms ls actions one two s =
      let a : SeesStory generation i kinds.Metadata (view_after_all (generation i) v actions) (after_turns generation i m ms) = one (metadata_story v m x s) in
      let b : SeesStory generation i kinds.Log (view_after_all (generation i) v actions) (after_turns generation i x ls) = two (log_story v m x s) in
      record { metadata = a.story; log = b.story; record_append = a.append; append = b.append }

  -- ---- quiet turns

  pub quiet_seen : (v : RangeView) (m l : Stand) (ms ls : List (turns.Turn Group)) (actions : List StreamAction) → AreQuiet ms → AreQuiet ls → AreReads actions → AreSeen generation i v m l ms ls actions
  quiet_seen v m l ms ls actions one two quiet =
      seen_of_both v m l ms ls actions (quiet_seen_of generation i kinds.Metadata v m ms actions one quiet) (quiet_seen_of generation i kinds.Log v l ls actions two quiet)

  -- ---- a generation is confirmed

  loaded_story : (x : Stand) (n start end : ℕ) (live : Bool) (read : List (Copy Group)) → x.phase ≡ turns.Confirming n live →
      Showed (generation i) start end (map placed (from_place start read)) ∷ x.state.story ≡ (after_turns generation i x (turns.ConfirmedIs start end read ∷ [])).state.story
  loaded_story x n start end live read stands =
      subst (λ p. Showed (generation i) start end (map placed (from_place start read)) ∷ x.state.story ≡ (after_turns generation i (record { state = x.state; phase = p }) (turns.ConfirmedIs start end read ∷ [])).state.story) (sym stands) refl

  -- a load shows all that it has read from a place on, and the server says its places
  shown_story : (x : Stand) (n start end : ℕ) (live : Bool) (read : List (Copy Group)) → x.phase ≡ turns.Confirming n live → (story : Story Group) → story ≡ x.state.story → (at : ℕ) → end ≡ at → (groups : List (Placed Group)) →
      groups ≡ map placed (from_place start read) → Showed (generation i) start at groups ∷ story ≡ (after_turns generation i x (turns.ConfirmedIs start end read ∷ [])).state.story
  shown_story x n start end live read stands story same at ends groups are =
      ap (λ k. Showed (generation i) start k groups ∷ story) (sym ends) ∙ ap (λ z. Showed (generation i) start end z ∷ story) are
      ∙ ap (λ z. Showed (generation i) start end (map placed (from_place start read)) ∷ z) same ∙ loaded_story x n start end live read stands

  -- a load waits for its confirmation
  pub record WaitsAt (x : Stand) : Type 0 where
    pub n : ℕ
    pub live : Bool
    pub stands : x.phase ≡ turns.Confirming n live

  pub shows_seen : (v : RangeView) (m l : Stand) (metadata_end log_end : ℕ) (metadata_read log_read : List (Copy Group)) → WaitsAt m → WaitsAt l →
      (start log_at metadata_at : Position) → metadata_end ≡ place_number metadata_at → log_end ≡ place_number log_at →
      placed_reads (v.history.reads kinds.Metadata) ≡ map placed metadata_read →
      placed_behind (place_number start) (placed_reads (v.history.reads kinds.Log)) ≡ map placed (from_place (place_number start) log_read) →
      AreSeen generation i v m l (turns.ConfirmedIs 0 metadata_end metadata_read ∷ []) (turns.ConfirmedIs (place_number start) log_end log_read ∷ []) (Shows start log_at metadata_at ∷ [])
  shows_seen v m l metadata_end log_end metadata_read log_read one two start log_at metadata_at metadata_ends log_ends metadata_are log_are s =
      record {
        metadata = shown_story m one.n 0 metadata_end one.live metadata_read one.stands (v.story kinds.Metadata) s.metadata (place_number metadata_at) metadata_ends (placed_reads (v.history.reads kinds.Metadata))
            (metadata_are ∙ ap (map placed) (sym (from_first metadata_read)));
        log = shown_story l two.n (place_number start) log_end two.live log_read two.stands (v.story kinds.Log) s.log (place_number log_at) log_ends (placed_behind (place_number start) (placed_reads (v.history.reads kinds.Log))) log_are;
        record_append = subst (λ p. BeganAt (v.history.append kinds.Metadata) (after_turns generation i (record { state = m.state; phase = p }) (turns.ConfirmedIs 0 metadata_end metadata_read ∷ [])).phase) (sym one.stands) tt;
        append = subst (λ p. BeganAt (v.history.append kinds.Log) (after_turns generation i (record { state = l.state; phase = p }) (turns.ConfirmedIs (place_number start) log_end log_read ∷ [])).phase) (sym two.stands) tt;
      }

-- ---- rules

-- a rule of quiet turns adds nothing, and what it reads adds nothing
pub quiet_sees : (generation : ℕ → ℕ) (range : ℕ) (w : StreamSystem) (i : ℕ) (v : RangeView) (m l : Side) (d : ServerContext) (o : RangeOutcome) (actions : List StreamAction) →
    GoesQuietly generation range w i m l d o → AreReads actions → RuleSees generation i range w v m l d o actions
quiet_sees generation range w i v m l d o actions g quiet =
    record {
      goes = g.goes;
      seen = quiet_seen generation i v m.stand l.stand g.goes.metadata_turns g.goes.log_turns actions g.metadata g.log quiet;
    }
