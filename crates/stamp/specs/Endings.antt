-- What a finished trace has of the passes.
use Rattle.std.specs.Prelude.{◌≡◌, ℕ, List, map, slice_get, Some}
use Rattle.model_streams.specs.declared.event.Event.{Event}
use Rattle.stamp_traces.specs.Journals.{PassDiffers}
use Rattle.stamp_traces.specs.Passes.{PassStands}
use Rattle.laws_traces.specs.Traces.{IsLegalTrace, RunEntry, events_of}
use Rattle.stamp_run.specs.Passes.{AreAnswers, RunPass}
use Rattle.stamp_run.specs.Traces.{RunJournal}

-- the number of the pass that put each entry there
abbrev pub passes_of : List RunEntry → List ℕ
passes_of xs = map (λ x. x.pass) xs

-- the entries begin with what each pass has seen, and all that it put there is among that
pub record AllStand (xs : List RunEntry) (passes : List RunPass) : Type 0 where
  pub each : (k : ℕ) (p : RunPass) → slice_get passes k ≡ Some p → PassStands xs p.sight

-- the answers that each pass took are those of the entries
pub record AllAnswered (xs : List RunEntry) (passes : List RunPass) : Type 0 where
  pub each : (k : ℕ) (p : RunPass) → slice_get passes k ≡ Some p → AreAnswers xs p.answered

-- the journal's token of one of the passes is not the pass's
pub record HasStray (j : RunJournal) (passes : List RunPass) : Type 0 where
  pub at : ℕ
  pub pass : RunPass
  pub is : slice_get passes at ≡ Some pass
  pub differs : PassDiffers j pass.sight

-- a legal trace has these events, put there by passes of these numbers; each of the passes stands in it; and each answer that one of
-- them took is the trace's
pub record IsTraceOf (ns : List ℕ) (passes : List RunPass) (events : List Event) (numbers : List ℕ) : Type 0 where
  pub entries : List RunEntry
  pub events_are : events ≡ events_of entries
  pub numbers_are : numbers ≡ passes_of entries
  pub legal : IsLegalTrace ns entries
  pub stand : AllStand entries passes
  pub answered : AllAnswered entries passes
