-- The streams that servers see are in order, where machines make their stories and what was shown and answered was observed.
use Rattle.std.proofs.Common.{◌≡◌, ℕ, List, ◌++◌, Some, refl, sym, ap, ◌∙◌, subst}
use Rattle.wire.specs.declared.note.Note.{Note}
use Rattle.wire.specs.declared.streams.StreamKind.TheVariants as kinds
use Rattle.replica.specs.Groups.{Group}
use Rattle.model_partition.specs.Past.{Bytes}
use Rattle.model_histories.specs.ServedTables.{LoadsOnce, StreamsInOrder}
use Rattle.model_histories.specs.ServerRun.{ServerRun, stream_named, log_name, metadata_name}
use Rattle.model_histories.specs.ServerTurns.{Move, after_all, AreMoves}
use Rattle.model_histories.specs.Story.{Placed, Showed, Story, event_at, KeepsOrder, EndsRise}
use Rattle.model_histories.specs.TableContents.{AllTellRightly}
use Rattle.laws_tables.specs.Built.{ReadsInOrder, story_of}
use Rattle.laws_tables.proofs.Built.{moves_in_order, same_copies}
use Rattle.laws_tables.proofs.Turns.{clients_ends_rise}
use Rattle.laws_clusters.proofs.Invariant.{SeesAll, Machines}
use Rattle.laws_clusters.proofs.LoadedOnce.{loads_once}
use Rattle.laws_clusters.specs.BuiltOrders.{HasPart}
use Rattle.laws_clusters.proofs.ObservedBytes.{AreObserved, observed_stand}
use Rattle.laws_clusters.proofs.RestingIncarnations.{IsPart}
use Rattle.laws_clusters.proofs.SourceParts.{copies_of, same_part, grown_part}

module _ (generation : ℕ → ℕ) (y : ServerRun) (machines : ℕ → Machines generation) (m_are : (range : ℕ) → AreMoves Group generation (machines range).m) (l_are : (range : ℕ) → AreMoves Group generation (machines range).l)
    (stories : SeesAll y (λ range. (after_all Group generation (machines range).m).state.story) (λ range. (after_all Group generation (machines range).l).state.story)) where
  -- the order of a story that is that of a machine, by the copies that its loads have read
  abbrev OrderOf : (moves : List (Move Group generation)) → AreMoves Group generation moves → Story Group → Type 0
  OrderOf moves ok story = (order : KeepsOrder story) × (order.copies ≡ copies_of generation moves ok)

  order_of : (moves : List (Move Group generation)) (ok : AreMoves Group generation moves) (story : Story Group) → story ≡ story_of Group generation moves → OrderOf moves ok story
  order_of moves ok story is = subst (OrderOf moves ok) (sym is) ((moves_in_order Group generation moves ok).order, refl)

  m_read : (range : ℕ) → OrderOf (machines range).m (m_are range) (y.story (stream_named range kinds.Metadata))
  m_read range = order_of (machines range).m (m_are range) (y.story (stream_named range kinds.Metadata)) (stories.metadata_is range)

  l_read : (range : ℕ) → OrderOf (machines range).l (l_are range) (y.story (stream_named range kinds.Log))
  l_read range = order_of (machines range).l (l_are range) (y.story (stream_named range kinds.Log)) (stories.log_is range)

  pub m_order : (range : ℕ) → KeepsOrder (y.story (stream_named range kinds.Metadata))
  m_order range = (m_read range).0

  pub l_order : (range : ℕ) → KeepsOrder (y.story (stream_named range kinds.Log))
  l_order range = (l_read range).0

  m_copies : (range : ℕ) → (m_order range).copies ≡ copies_of generation (machines range).m (m_are range)
  unfolding m_order
  m_copies range = (m_read range).1

  l_copies : (range : ℕ) → (l_order range).copies ≡ copies_of generation (machines range).l (l_are range)
  unfolding l_order
  l_copies range = (l_read range).1

  -- a stream that was built of another's has its part of that
  pub metadata_part : (g source range : ℕ) (moment : ServerRun) → IsPart generation g (machines source).m (machines range).m (moment.story (metadata_name source)) →
      HasPart g (moment.story (metadata_name source)) (y.story (metadata_name source)) (y.story (metadata_name range)) (m_order source).copies (m_order range).copies
  metadata_part g source range moment s =
      same_part g (story_of Group generation s.moves) (moment.story (metadata_name source)) (story_of Group generation (machines source).m) (y.story (metadata_name source)) (story_of Group generation (machines range).m) (y.story (metadata_name range))
      (copies_of generation (machines source).m (m_are source)) (m_order source).copies (copies_of generation (machines range).m (m_are range)) (m_order range).copies
      s.story_is (sym (stories.metadata_is source)) (sym (stories.metadata_is range)) (sym (m_copies source)) (sym (m_copies range))
      (grown_part generation g s.moves s.source_grew.0 s.built_grew.0 (machines source).m (machines range).m s.source_grew.1 s.built_grew.1 (m_are source) (m_are range) s.settled)

  pub log_part : (g source range : ℕ) (moment : ServerRun) → IsPart generation g (machines source).l (machines range).l (moment.story (log_name source)) →
      HasPart g (moment.story (log_name source)) (y.story (log_name source)) (y.story (log_name range)) (l_order source).copies (l_order range).copies
  log_part g source range moment s =
      same_part g (story_of Group generation s.moves) (moment.story (log_name source)) (story_of Group generation (machines source).l) (y.story (log_name source)) (story_of Group generation (machines range).l) (y.story (log_name range))
      (copies_of generation (machines source).l (l_are source)) (l_order source).copies (copies_of generation (machines range).l (l_are range)) (l_order range).copies
      s.story_is (sym (stories.log_is source)) (sym (stories.log_is range)) (sym (l_copies source)) (sym (l_copies range))
      (grown_part generation g s.moves s.source_grew.0 s.built_grew.0 (machines source).l (machines range).l s.source_grew.1 s.built_grew.1 (l_are source) (l_are range) s.settled)

  -- where the logs of two ranges had one beginning each load of it is for both one of the same copies
  pub l_shared : (source range : ℕ) (early late own : List (Move Group generation)) → (machines source).l ≡ late ++ early → (machines range).l ≡ own ++ early → (l g start end : ℕ) (groups : List (Placed Group)) →
      event_at (story_of Group generation early) l ≡ Some (Showed g start end groups) → (l_order range).copies l ≡ (l_order source).copies l
  l_shared source range early late own of_source of_range l g start end groups at =
      ap (λ copies. copies l) (l_copies range)
      ∙ by (machines source).l (machines range).l of_source of_range (l_are source) (moves_in_order Group generation (machines source).l (l_are source)) (moves_in_order Group generation (machines range).l (l_are range))
      ∙ sym (ap (λ copies. copies l) (l_copies source))
    where
      by : (xs zs : List (Move Group generation)) → xs ≡ late ++ early → zs ≡ own ++ early → AreMoves Group generation xs →
          (a : ReadsInOrder generation (after_all Group generation xs).state) (b : ReadsInOrder generation (after_all Group generation zs).state) → b.order.copies l ≡ a.order.copies l
      by xs zs is_late is_own ok =
          subst (λ m. (a : ReadsInOrder generation (after_all Group generation m).state) (b : ReadsInOrder generation (after_all Group generation zs).state) → b.order.copies l ≡ a.order.copies l) (sym is_late)
          (λ a. subst (λ m. (b : ReadsInOrder generation (after_all Group generation m).state) → b.order.copies l ≡ a.order.copies l) (sym is_own)
          (λ b. same_copies Group generation early late own (subst (AreMoves Group generation) is_late ok) a b l g start end groups at))

  pub m_once : (range : ℕ) → LoadsOnce (y.story (stream_named range kinds.Metadata))
  m_once range = subst (λ z. LoadsOnce z) (sym (stories.metadata_is range)) (loads_once generation (machines range).m (m_are range))

  pub l_once : (range : ℕ) → LoadsOnce (y.story (stream_named range kinds.Log))
  l_once range = subst (λ z. LoadsOnce z) (sym (stories.log_is range)) (loads_once generation (machines range).l (l_are range))

  pub m_ends : (range : ℕ) → EndsRise (y.story (stream_named range kinds.Metadata))
  m_ends range = subst (λ z. EndsRise z) (sym (stories.metadata_is range)) (clients_ends_rise Group generation (machines range).m (m_are range))

  pub l_ends : (range : ℕ) → EndsRise (y.story (stream_named range kinds.Log))
  l_ends range = subst (λ z. EndsRise z) (sym (stories.log_is range)) (clients_ends_rise Group generation (machines range).l (l_are range))

  -- over any texts that have what was observed
  abbrev pub in_order : (texts : ℕ → Bytes) (notes : List Note) → AllTellRightly texts notes → (range : ℕ) → AreObserved notes (y.shown range) → AreObserved notes (y.answered range) → StreamsInOrder texts range y
  in_order texts notes all range shown answered = record {
    metadata = m_order range;
    log = l_order range;
    once = l_once range;
    ends = l_ends range;
    shown = observed_stand texts notes (y.shown range) all shown;
    answered = observed_stand texts notes (y.answered range) all answered;
  }
