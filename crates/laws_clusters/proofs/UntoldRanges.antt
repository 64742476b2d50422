-- Nothing is told of a range until a server may hold it, whatever comes.
use Rattle.std.proofs.Common.{◌≡◌, ℕ, false, List, [], ◌∷◌, ◌++◌, Some, refl, sym, ap, ◌∙◌, subst, if◌then◌else◌}
use Rattle.wire.specs.declared.note.Note.{Note}
use Rattle.model_partition.specs.declared.table_note.TableNote.{TableNote}
use Rattle.model_partition.specs.declared.table_note.TableNote.TheVariants as tables
use Rattle.model_partition.specs.Cluster.{Cluster}
use Rattle.model_partition.specs.Past.{Bytes}
use Rattle.model_partition.specs.Servers.{ServerCell}
use Rattle.model_histories.specs.Log.{is_of, only}
use Rattle.model_histories.specs.ServedTables.{AreSeenAs}
use Rattle.model_histories.specs.ServerRun.{ServerRun, ServerEvent, Builds, run_of, after_event}
use Rattle.model_histories.specs.StreamActions.{PlacedBytes}
use Rattle.model_streams.specs.Maps.{entry_at}
use Rattle.laws_tables.proofs.Observed.{only-append}
use Rattle.laws_map.proofs.SplitFacts.{KnowsSplits, MayHold, event_may, held_assigned}
use Rattle.laws_server_runs.specs.Places.{NotesWithin}
use Rattle.laws_server_runs.specs.Turns.{outcome_of}
use Rattle.laws_server_runs.proofs.Actions.{other_test}
use Rattle.laws_server_runs.proofs.Fronts.{SeenBoth, seen_both}
use Rattle.laws_server_runs.proofs.LaidRuns.{all_laid, event_notes}
use Rattle.laws_server_runs.proofs.NotedRanges.{AreNoted, Nothing, OfOne, run_noted}
use Rattle.laws_server_runs.proofs.RunSteps.{IsAny, IsAnyPair, any_assigned, any_numbered, event_step}
use Rattle.laws_server_runs.proofs.Unmerged.{unmerged}
use Rattle.laws_clusters.proofs.BornSo.{StaysUntold}
use Rattle.laws_clusters.proofs.BuiltInRuns.{EventKind, Quiet, OfServers, OfList, event_kind}

-- ---- observations of one range

not_one : (n : ℕ) (note : Note) (notes : List Note) → is_of n note ≡ false → only n notes ≡ [] → only n (note ∷ notes) ≡ []
not_one n note notes other none = ap (λ b. if b then note ∷ only n notes else only n notes) other ∙ none

-- are of no other
seen_apart : (texts : ℕ → Bytes) (n range g : ℕ) (placed : List PlacedBytes) → (n ≡ range → ⊥) → (told : List TableNote) → NotesWithin range g placed told → (notes : List Note) → AreSeenAs texts told notes → only n notes ≡ []
seen_apart texts n range g placed apart [] within [] seen = refl
seen_apart texts n range g placed apart [] within (note ∷ notes) seen = absurd seen
seen_apart texts n range g placed apart (t ∷ told) within [] seen = absurd seen
seen_apart texts n range g placed apart (tables.Began r h number changes ∷ told) within (note ∷ notes) seen =
    not_one n note notes (ap (is_of n) seen.0 ∙ other_test n r (λ e. apart (e ∙ within.0.0))) (seen_apart texts n range g placed apart told within.1 notes seen.1)
seen_apart texts n range g placed apart (tables.Done r h number ∷ told) within (note ∷ notes) seen =
    not_one n note notes (ap (is_of n) seen.0 ∙ other_test n r (λ e. apart (e ∙ within.0.0))) (seen_apart texts n range g placed apart told within.1 notes seen.1)
seen_apart texts n range g placed apart (tables.Loaded r h table next ∷ told) within (note ∷ notes) seen =
    not_one n note notes (ap (is_of n) seen.0.1 ∙ other_test n r (λ e. apart (e ∙ within.0.0))) (seen_apart texts n range g placed apart told within.1 notes seen.1)
seen_apart texts n range g placed apart (tables.Got r h key value ∷ told) within (note ∷ notes) seen =
    not_one n note notes (ap (is_of n) seen.0) (seen_apart texts n range g placed apart told within.1 notes seen.1)

-- ---- an event

module _ (texts : ℕ → Bytes) (batch count : ℕ) (c : Cluster) (k : KnowsSplits c) (coming : List ServerEvent) (same : c.servers ≡ (run_of batch count coming).servers) (n : ℕ) (none : MayHold c k n → ⊥) where
  abbrev y : ServerRun
  y = run_of batch count coming

  -- what servers show is of a range that one may hold
  shown_apart : (told : List TableNote) → AreNoted y told → (notes : List Note) → AreSeenAs texts told notes → only n notes ≡ []
  shown_apart told Nothing [] seen = refl
  shown_apart told Nothing (note ∷ notes) seen = absurd seen
  shown_apart told (OfOne shown of) notes seen =
      let there : entry_at c.servers of.server ≡ Some of.cell = ap (λ (l : List ServerCell). entry_at l of.server) same ∙ of.there in
      seen_apart texts n of.range of.held.load.generation of.placed
      (λ e. none (subst (MayHold c k) (sym e) (held_assigned c k of.server of.cell of.state there of.up of.range of.held of.found)))
      shown of.notes notes seen

  more_untold : (before : (notes : List Note) → AreSeenAs texts y.notes notes → only n notes ≡ []) (told : List TableNote) → AreNoted y told → (notes : List Note) → AreSeenAs texts (y.notes ++ told) notes → only n notes ≡ []
  more_untold before told noted notes seen =
      let both : SeenBoth texts y.notes told notes = seen_both texts y.notes told notes seen in
      ap (only n) both.is ∙ only-append n both.before both.later ∙ ap (λ z. z ++ only n both.later) (before both.before both.first_seen) ∙ shown_apart told noted both.later both.second_seen

  one_untold : (before : (notes : List Note) → AreSeenAs texts y.notes notes → only n notes ≡ []) (e : ServerEvent) → ((source range : ℕ) → e ≡ Builds source range → ⊥) →
      (notes : List Note) → AreSeenAs texts (after_event y e).notes notes → only n notes ≡ []
  one_untold before e builds notes seen =
      more_untold before (outcome_of y.servers e).notes
      (run_noted y (all_laid batch count coming) (outcome_of y.servers e).notes (after_event y e) (event_step IsAny IsAnyPair y (unmerged batch count coming) e builds (any_assigned e) (any_numbered e)))
      notes (subst (λ l. AreSeenAs texts l notes) (event_notes batch count y e) seen)

pub stays_untold : (texts : ℕ → Bytes) (batch count : ℕ) → StaysUntold texts batch count
stays_untold texts batch count c k coming same event unmerged old n none notes seen = by (event_kind c k event)
  where
    was_none : MayHold c k n → ⊥
    was_none m = none (event_may c event unmerged k n m)

    by : EventKind c event → only n notes ≡ []
    by (Quiet is) = old n was_none notes (subst (λ l. AreSeenAs texts (run_of batch count (l ++ coming)).notes notes) is seen)
    by (OfServers e free sent is) = one_untold texts batch count c k coming same n was_none (old n was_none) e free notes (subst (λ l. AreSeenAs texts (run_of batch count (l ++ coming)).notes notes) is seen)
    by (OfList t) = old n was_none notes (subst (λ l. AreSeenAs texts (run_of batch count (l ++ coming)).notes notes) t.is seen)
