-- What stood before more events came: a story keeps its order if a longer one does, and so do the other premises.
use Rattle.std.proofs.Common.{◌≡◌, ℕ, List, [], ◌∷◌, ◌++◌, Bool, true, false, refl, sym, ap, ◌∙◌, subst, append_assoc, if◌then◌else◌}
use Rattle.wire.specs.declared.note.Note.{Note}
use Rattle.wire.specs.declared.streams.StreamKind.{StreamKind}
use Rattle.wire.specs.declared.streams.StreamKind.TheVariants as kinds
use Rattle.model_partition.specs.declared.table_note.TableNote.{TableNote}
use Rattle.model_partition.specs.Loading.{Group}
use Rattle.model_partition.specs.Past.{Bytes}
use Rattle.model_histories.specs.Story.{StreamEvent, Made, Showed, Story, KeepsOrder, EndsRise}
use Rattle.model_histories.specs.StreamActions.{StreamAction, Reads, Forms, Stands, Shows, Finds, Stores, PlacedBytes}
use Rattle.model_histories.specs.ServerRun.{is_kind}
use Rattle.model_histories.specs.ServedTables.{AllStand, AreSeenAs, LoadsOnce}
use Rattle.laws_tables.proofs.Range.{older}
use Rattle.laws_tables.proofs.Whole.{order_before, ends_before}
use Rattle.laws_loads.specs.RangeView.{RangeView, view_after, view_after_all, with_kind, log_of, metadata_of}
use Rattle.laws_server_runs.specs.RangeInvariant.{InOrder, IsLonger}

-- ---- one event less

module _ (A : Type 0) where
  order_front : (more story : Story A) → KeepsOrder (more ++ story) → KeepsOrder story
  order_front [] story order = order
  order_front (e ∷ more) story order = order_front more story (order_before A e (more ++ story) order)

  pub order_shorter : (story longer : Story A) → IsLonger story longer → KeepsOrder longer → KeepsOrder story
  order_shorter story longer is order = order_front is.0 story (subst (λ z. KeepsOrder z) is.1 order)

  ends_front : (more story : Story A) → EndsRise (more ++ story) → EndsRise story
  ends_front [] story ends = ends
  ends_front (e ∷ more) story ends = ends_front more story (ends_before A e (more ++ story) ends)

  pub ends_shorter : (story longer : Story A) → IsLonger story longer → EndsRise longer → EndsRise story
  ends_shorter story longer is ends = ends_front is.0 story (subst (λ z. EndsRise z) is.1 ends)

  once_front : (more story : Story A) → LoadsOnce (more ++ story) → LoadsOnce story
  once_front [] story once = once
  once_front (e ∷ more) story once =
      once_front more story
      (λ l m g start end start' end' groups groups' one two.
      once l m g start end start' end' groups groups' (older A e (more ++ story) l (Showed g start end groups) one) (older A e (more ++ story) m (Showed g start' end' groups') two))

  pub once_shorter : (story longer : Story A) → IsLonger story longer → LoadsOnce longer → LoadsOnce story
  once_shorter story longer is once = once_front is.0 story (subst (λ z. LoadsOnce z) is.1 once)

-- ---- longer lists

pub longer_same : {A : Type 0} (xs : List A) → IsLonger xs xs
longer_same {A} xs = ([], refl)

pub longer_twice : {A : Type 0} (xs ys zs : List A) → IsLonger xs ys → IsLonger ys zs → IsLonger xs zs
longer_twice {A} xs ys zs (more, is) (others, are) = (others ++ more, are ∙ ap (λ z. others ++ z) is ∙ sym (append_assoc others more xs))

-- ---- bytes and observations

module _ (texts : ℕ → Bytes) where
  stand_front : (more old : List PlacedBytes) → AllStand texts (more ++ old) → AllStand texts old
  stand_front [] old stand = stand
  stand_front (p ∷ more) old stand = stand_front more old stand.1

  pub stand_shorter : (old new : List PlacedBytes) → IsLonger old new → AllStand texts new → AllStand texts old
  stand_shorter old new is stand = stand_front is.0 old (subst (λ z. AllStand texts z) is.1 stand)

  -- those of the first list, and those of the second
  pub record SeenBoth (first second : List TableNote) (notes : List Note) : Type 0 where
    pub before : List Note
    pub later : List Note
    pub is : notes ≡ before ++ later
    pub first_seen : AreSeenAs texts first before
    pub second_seen : AreSeenAs texts second later

  pub seen_both : (first second : List TableNote) (notes : List Note) → AreSeenAs texts (first ++ second) notes → SeenBoth first second notes
  seen_both [] second notes seen = record { before = []; later = notes; is = refl; first_seen = tt; second_seen = seen }
  seen_both (t ∷ first) second [] seen = absurd seen
  seen_both (t ∷ first) second (note ∷ notes) seen =
      let b : SeenBoth first second notes = seen_both first second notes seen.1 in
      record { before = note ∷ b.before; later = b.later; is = ap (λ z. note ∷ z) b.is; first_seen = (seen.0, b.first_seen); second_seen = b.second_seen }

  -- ---- views

  longer_kind : (stories : StreamKind → Story Group) (kind k : StreamKind) (e : StreamEvent Group) → IsLonger (stories k) (with_kind stories kind e k)
  longer_kind stories kind k e = go (is_kind k kind)
    where
      go : (b : Bool) → IsLonger (stories k) (if b then e ∷ stories k else stories k)
      go true = (e ∷ [], refl)
      go false = ([], refl)

  module _ (g : ℕ) where
    action_longer : (v : RangeView) (action : StreamAction) (k : StreamKind) → IsLonger (v.story k) ((view_after g v action).story k)
    action_longer v (Reads kind read) k = longer_same (v.story k)
    action_longer v (Forms kind group) k = longer_kind v.story kind k (Made g group)
    action_longer v (Stands kind extent at group) k = longer_kind v.story kind k _
    action_longer v (Shows start log_end metadata_end) k =
        longer_twice (v.story k) (with_kind v.story kinds.Metadata _ k) _ (longer_kind v.story kinds.Metadata k _) (longer_kind (with_kind v.story kinds.Metadata _) kinds.Log k _)
    action_longer v (Finds found) k = longer_same (v.story k)
    action_longer v (Stores stored) k = longer_same (v.story k)

    action_shown : (v : RangeView) (action : StreamAction) → IsLonger v.shown (view_after g v action).shown
    action_shown v (Reads kind read) = longer_same v.shown
    action_shown v (Forms kind group) = longer_same v.shown
    action_shown v (Stands kind extent at group) = longer_same v.shown
    action_shown v (Shows start log_end metadata_end) = (_, refl)
    action_shown v (Finds found) = (found ∷ [], refl)
    action_shown v (Stores stored) = longer_same v.shown

    action_answered : (v : RangeView) (action : StreamAction) → IsLonger v.answered (view_after g v action).answered
    action_answered v (Reads kind read) = longer_same v.answered
    action_answered v (Forms kind group) = longer_same v.answered
    action_answered v (Stands kind extent at group) = (_ ∷ [], refl)
    action_answered v (Shows start log_end metadata_end) = longer_same v.answered
    action_answered v (Finds found) = longer_same v.answered
    action_answered v (Stores stored) = (stored ∷ [], refl)

    actions_longer : (v : RangeView) (actions : List StreamAction) (k : StreamKind) → IsLonger (v.story k) ((view_after_all g v actions).story k)
    actions_longer v [] k = longer_same (v.story k)
    actions_longer v (a ∷ earlier) k =
        longer_twice (v.story k) ((view_after_all g v earlier).story k) ((view_after_all g v (a ∷ earlier)).story k) (actions_longer v earlier k) (action_longer (view_after_all g v earlier) a k)

    actions_shown : (v : RangeView) (actions : List StreamAction) → IsLonger v.shown (view_after_all g v actions).shown
    actions_shown v [] = longer_same v.shown
    actions_shown v (a ∷ earlier) =
        longer_twice v.shown (view_after_all g v earlier).shown (view_after_all g v (a ∷ earlier)).shown (actions_shown v earlier) (action_shown (view_after_all g v earlier) a)

    actions_answered : (v : RangeView) (actions : List StreamAction) → IsLonger v.answered (view_after_all g v actions).answered
    actions_answered v [] = longer_same v.answered
    actions_answered v (a ∷ earlier) =
        longer_twice v.answered (view_after_all g v earlier).answered (view_after_all g v (a ∷ earlier)).answered (actions_answered v earlier) (action_answered (view_after_all g v earlier) a)

    -- what is premised of a view holds of the one before some actions
    pub order_before_actions : (v : RangeView) (actions : List StreamAction) → InOrder texts (view_after_all g v actions) → InOrder texts v
    order_before_actions v actions o =
        let w : RangeView = view_after_all g v actions in
        record {
          log = order_shorter Group (log_of v) (log_of w) (actions_longer v actions kinds.Log) o.log;
          metadata = order_shorter Group (metadata_of v) (metadata_of w) (actions_longer v actions kinds.Metadata) o.metadata;
          once = once_shorter Group (log_of v) (log_of w) (actions_longer v actions kinds.Log) o.once;
          ends = ends_shorter Group (log_of v) (log_of w) (actions_longer v actions kinds.Log) o.ends;
          shown = stand_shorter v.shown w.shown (actions_shown v actions) o.shown;
          answered = stand_shorter v.answered w.answered (actions_answered v actions) o.answered;
        }
