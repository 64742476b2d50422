-- What is kept of a range stays so while others act, and while it begins its load anew.
use Rattle.std.proofs.Common.{[], ◌≡◌, ◌⊎◌, ◌++◌, ℕ, suc, List, true, false, Some, None, refl, sym, ap, ◌∙◌, subst, inl, inr, arith}
use Rattle.wire.specs.declared.note.Note.{Note}
use Rattle.wire.specs.declared.streams.StreamKind.{StreamKind}
use Rattle.wire.specs.declared.streams.StreamKind.TheVariants as kinds
use Rattle.model_streams.specs.Maps.{entry_at}
use Rattle.model_partition.specs.declared.server_context.ServerContext.{ServerContext}
use Rattle.model_histories.specs.Log.{only}
use Rattle.model_partition.specs.Past.{Bytes}
use Rattle.model_partition.specs.Range.{RangeState, is_serving}
use Rattle.model_partition.specs.Server.{ServerState, range_of, split_of, new_range}
use Rattle.model_partition.specs.Servers.{ServerCell}
use Rattle.model_histories.specs.ServerRun.{ServerRun, first_history, stream_named}
use Rattle.model_histories.specs.ServedTables.{AreSeenAs, ServesAt}
use Rattle.laws_loads.specs.RangeView.{Free}
use Rattle.laws_server_runs.specs.RangeInvariant.{RangeKept, AreObserved, Rests}
use Rattle.laws_server_runs.specs.RunInvariant.{view_at, with_stage, SplitKept, HeldKept, Taken, RunBehind, RunOn}
use Rattle.laws_server_runs.proofs.Loads.{new_kept}
use Rattle.laws_server_runs.proofs.Others.{streams_same, others_kept}

module _ (texts : ℕ → Bytes) (subject : ℕ) (taken : Taken) (x : ServerRun) (kept : RunBehind texts subject taken x) (y : ServerRun) where
  -- the server had the range before, and neither the range nor its split did anything
  abbrev pub Was : ℕ → ServerState → RangeState → Type 0
  Was t q r = (b : ServerCell) × (st : ServerState) × (entry_at x.servers t ≡ Some b) × (b.state ≡ Some st) × (range_of st.ranges subject ≡ Some r) × (y.history t subject ≡ x.history t subject)
      × (split_of q.splits subject ≡ split_of st.splits subject)

  -- it begins its load
  abbrev pub IsNew : ℕ → ServerState → RangeState → Type 0
  IsNew t q r = (d : ServerContext) × (generation : ℕ) × (until : ℕ) × (r ≡ new_range d subject generation until) × (y.history t subject ≡ first_history) × (split_of q.splits subject ≡ None)

  -- whatever other ranges do
  pub record IsBeside : Type 0 where
    pub holds : (t : ℕ) (c : ServerCell) (q : ServerState) → entry_at y.servers t ≡ Some c → c.state ≡ Some q → (r : RangeState) → range_of q.ranges subject ≡ Some r → Was t q r ⊎ IsNew t q r
    pub story : (kind : StreamKind) → y.story (stream_named subject kind) ≡ x.story (stream_named subject kind)
    pub answered : y.answered subject ≡ x.answered subject
    pub notes : (notes : List Note) → AreSeenAs texts y.notes notes → (before : List Note) × AreSeenAs texts x.notes before × (only subject notes ≡ only subject before)

  module _ (b : IsBeside) where
    no_more : (n : ℕ) → n ≡ suc n → ⊥
    no_more n e = omega (arith, e)

    was_kept : (t : ℕ) (q : ServerState) (r : RangeState) → Was t q r → HeldKept texts subject kept.run (view_at subject y t) r (split_of q.splits subject)
    was_kept t q r (cell, st, there, up, held, same, split) =
        let h : HeldKept texts subject kept.run (view_at subject x t) r (split_of st.splits subject) = kept.ranges t cell st there up r held in
        record {
          split = h.split;
          range = others_kept texts subject kept.run kept.run (with_stage (view_at subject x t) h.split) r (with_stage (view_at subject y t) h.split) same refl h.range (suc r.load.generation) Rests
              ([], b.answered) (λ e same. no_more r.load.generation same);
          splits = subst (SplitKept h.split r) (sym split) h.splits;
        }

    is_kept : (t : ℕ) (q : ServerState) (r : RangeState) → Was t q r ⊎ IsNew t q r → HeldKept texts subject kept.run (view_at subject y t) r (split_of q.splits subject)
    is_kept t q r (inl was) = was_kept t q r was
    is_kept t q r (inr (d, generation, until, is, none, split)) = record {
      split = Free;
      range = subst (λ z. RangeKept texts subject kept.run (with_stage (view_at subject y t) Free) z) (sym is) (new_kept texts subject kept.run (with_stage (view_at subject y t) Free) d none generation until);
      splits = subst (SplitKept Free r) (sym split) refl;
    }

    served_before : (t : ℕ) (r : RangeState) → ServesAt y t subject r → ServesAt x t subject r
    served_before t r s = go (b.holds t s.cell s.state s.there s.runs r s.held)
      where
        go : Was t s.state r ⊎ IsNew t s.state r → ServesAt x t subject r
        go (inl (cell, st, there, up, held, same, split)) = record { cell = cell; state = st; there = there; runs = up; held = held; serves = s.serves }
        go (inr (d, generation, until, is, none, split)) = absurd (let z : false ≡ true = sym (ap (λ (u : RangeState). is_serving u.stage) is) ∙ s.serves in cc)

    pub beside_kept : RunBehind texts subject taken y
    beside_kept = record {
      run = kept.run;
      behind = kept.behind;
      ranges = λ t c q there up r held. is_kept t q r (b.holds t c q there up r held);
      own = λ s t r u one two same. kept.own s t r u (served_before s r one) (served_before t u two) same;
      loaded = λ t r serves. kept.loaded t r (served_before t r serves);
      streams = streams_same texts kept.run (view_at subject x 0) (view_at subject y 0) (b.story kinds.Log) (b.story kinds.Metadata) kept.streams;
      seen = λ notes seen. let n = b.notes notes seen in subst (λ l. AreObserved texts subject kept.run (taken.notes ++ l)) (sym n.2) (kept.seen n.0 n.1);
    }

    -- its run does not go on
    pub beside_run : beside_kept.run ≡ kept.run
    unfolding beside_kept
    beside_run = refl

    pub beside_on : RunOn texts subject taken x kept y
    beside_on = record { kept = beside_kept; goes = ([], beside_run) }
