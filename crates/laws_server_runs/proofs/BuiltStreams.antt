-- Streams that are built of another range's: they leave what is kept of other ranges, and the range that they are built for begins with
-- what its source has done and shown.
use Rattle.std.proofs.Common.{◌≡◌, ℕ, [], ◌++◌, Some, None, refl, sym, ap, ◌∙◌, inl, append-nil, if◌then◌else◌}
use Rattle.wire.specs.declared.streams.StreamKind.{StreamKind}
use Rattle.wire.specs.declared.streams.StreamKind.TheVariants as kinds
use Rattle.model_histories.specs.Log.{only}
use Rattle.model_histories.specs.ServedTables.{ServesAt}
use Rattle.model_histories.specs.ServerRun.{ServerRun, built_streams, own_or, stream_named}
use Rattle.model_partition.specs.Past.{Bytes}
use Rattle.model_partition.specs.Range.{RangeState}
use Rattle.laws_tables.specs.Runs.{first_beginning, seen}
use Rattle.laws_server_runs.specs.ChildInvariant.{IsUntouched}
use Rattle.laws_server_runs.specs.RangeInvariant.{AreObserved}
use Rattle.laws_server_runs.specs.RunInvariant.{view_at, Taken, RunBehind}
use Rattle.laws_server_runs.proofs.Actions.{same_test, other_test}
use Rattle.laws_server_runs.proofs.Beside.{IsBeside, beside_kept}
use Rattle.laws_server_runs.proofs.Others.{streams_same}
use Rattle.laws_server_runs.proofs.SeenTables.{seen_as, all_seen}

-- they do nothing with those of other ranges
pub build_beside : (texts : ℕ → Bytes) (subject : ℕ) (taken : Taken) (x : ServerRun) (kept : RunBehind texts subject taken x) (source range : ℕ) → (range ≡ subject → ⊥) → IsBeside texts subject taken x kept (built_streams source range x)
build_beside texts subject taken x kept source range other = record {
  holds = λ t c q there up r held. inl (c, q, there, up, held, refl, refl);
  story = λ kind.
      ap (λ b. if b then own_or (x.story (stream_named subject kind)) (x.story (stream_named source kind)) else x.story (stream_named subject kind)) (other_test subject range (λ e. other (sym e)));
  answered = ap (λ b. if b then own_or (x.answered range) (x.answered source) else x.answered subject) (other_test subject range (λ e. other (sym e)));
  notes = λ notes seen. (notes, seen, refl);
}

-- those of other ranges
pub built_beside : (texts : ℕ → Bytes) (subject : ℕ) (taken : Taken) (x : ServerRun) → RunBehind texts subject taken x → (source range : ℕ) → (range ≡ subject → ⊥) → RunBehind texts subject taken (built_streams source range x)
built_beside texts subject taken x kept source range other = beside_kept texts subject taken x kept (built_streams source range x) (build_beside texts subject taken x kept source range other)

module _ (texts : ℕ → Bytes) (source range : ℕ) (taken : Taken) (x : ServerRun) (kept : RunBehind texts source taken x) where
  abbrev y : ServerRun
  y = built_streams source range x

  -- what is seen of the source by then
  pub source_seen : AreObserved texts source kept.run (taken.notes ++ only source (seen_as texts x.notes))
  source_seen = kept.seen (seen_as texts x.notes) (all_seen texts x.notes)

  -- what the range begins with
  abbrev pub began_with : Taken
  began_with = record { run = kept.run; notes = seen first_beginning source_seen.0 range kept.run }

  module _ (new : IsUntouched texts range x) where
    story_is : (kind : StreamKind) → y.story (stream_named range kind) ≡ x.story (stream_named source kind)
    story_is kind =
        ap (λ b. if b then own_or (x.story (stream_named range kind)) (x.story (stream_named source kind)) else x.story (stream_named range kind)) (same_test range)
        ∙ ap (λ l. own_or l (x.story (stream_named source kind))) (new.story kind)

    none_serves : (s : ℕ) (r : RangeState) → ServesAt y s range r → ⊥
    none_serves s r b = let z : None ≡ Some r = sym (new.held s b.cell b.state b.there b.runs) ∙ b.held in cc

    -- A RANGE WHOSE STREAMS ARE BUILT has done what its source had done, and shows nothing of that itself.
    pub built_kept : RunBehind texts range began_with y
    built_kept = record {
      run = kept.run;
      behind = ([], refl);
      ranges = λ s cell st at up r held. absurd (let z : None ≡ Some r = sym (new.held s cell st at up) ∙ held in cc);
      own = λ s t r u one two e. absurd (none_serves s r one);
      loaded = λ s r serves. absurd (none_serves s r serves);
      streams = streams_same texts kept.run (view_at source x 0) (view_at range y 0) (story_is kinds.Log) (story_is kinds.Metadata) kept.streams;
      seen = λ notes told. (
        source_seen.0,
        source_seen.1,
        ap (λ l. seen first_beginning source_seen.0 range kept.run ++ l) (new.untold notes told) ∙ append-nil (seen first_beginning source_seen.0 range kept.run),
      );
    }

    -- it has not gone on yet
    pub built_run : built_kept.run ≡ kept.run
    unfolding built_kept
    built_run = refl
