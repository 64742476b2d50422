-- While the lease lasts of a range that a server serves, and no split has paused it, in a run without merges, nothing of the range was told under a
-- higher generation, and nothing of a range that it is an ancestor of.
use Rattle.std.proofs.Common.{◌≡◌, ◌⊎◌, ⊎_elim, ℕ, zero, suc, ◌≤◌, ◌<◌, ◌==◌, true, false, List, [], ◌∷◌, ◌++◌, Option, Some, None, Contains, refl, sym, ap, ◌∙◌, subst, inl, inr, arith, append_assoc}
use Rattle.std.proofs.lemmas.Bool.{cases_eq, cases_lt}
use Rattle.std.proofs.lemmas.Bool.Decides.{nat_tests}
use Rattle.wire.specs.declared.note.Note.{Note}
use Rattle.wire.specs.declared.note.Note.TheVariants as notes
use Rattle.wire.specs.declared.rows.Row.{Row}
use Rattle.model_streams.specs.declared.event.Event.{Event}
use Rattle.model_streams.specs.Maps.{entry_at}
use Rattle.model_partition.specs.declared.pause.Pause.TheVariants as pauses
use Rattle.model_partition.specs.declared.split_job.SplitJob.{SplitJob}
use Rattle.model_partition.specs.Cluster.{Cluster, AreUnmerged}
use Rattle.model_partition.specs.Past.{Bytes, first_range, kin}
use Rattle.model_partition.specs.Range.{RangeState, is_paused}
use Rattle.model_partition.specs.Server.{split_of}
use Rattle.model_histories.specs.Log.{is_of, only}
use Rattle.model_histories.specs.ServedTables.{ServesAt}
use Rattle.model_histories.specs.ServerRun.{ServerRun, ServerEvent}
use Rattle.model_histories.specs.StreamMachine.{In}
use Rattle.laws_map.specs.Openings.{IsBeyond}
use Rattle.laws_tables.specs.Families.{HasNoBirth, IsChild, generation_of}
use Rattle.laws_tables.proofs.Births.{unborn_kin, smaller, child_kin}
use Rattle.laws_tables.proofs.Members.{in_contains, contains_in}
use Rattle.laws_tables.proofs.Observed.{to_only}
use Rattle.laws_server_runs.specs.BornRanges.{AllInOrder}
use Rattle.laws_server_runs.specs.ChildInvariant.{SplitHolds, AreBornSo}
use Rattle.laws_server_runs.specs.ClosedRanges.{SplitPlan, IsPausedBy}
use Rattle.laws_server_runs.specs.FamilyMembers.{IsMember}
use Rattle.laws_server_runs.specs.RunInvariant.{HasLoad}
use Rattle.laws_server_runs.proofs.ClosedSplits.{ClosedSince, closed_then, drained}
use Rattle.laws_server_runs.proofs.FamilyReads.{member_told, member_noted}
use Rattle.laws_server_runs.proofs.LaidRuns.{all_laid}
use Rattle.laws_server_runs.proofs.SplitsHeld.{splits_hold}
use Rattle.laws_clusters.specs.Timely.{HoldsAt}
use Rattle.laws_clusters.proofs.Moments.{run_is_timely}
use Rattle.laws_clusters.proofs.RunMembers as members
use Rattle.laws_clusters.proofs.ServesAlone.{run_serves_alone}
use Rattle.laws_clusters.proofs.ToldRanges.{IsOfSplit, run_ranges}

module _ (nodes servers target batch : ℕ) (events : List Event) (are : AreUnmerged events) where
  abbrev c : Cluster
  c = members.c nodes servers target batch events are

  abbrev coming : List ServerEvent
  coming = members.coming nodes servers target batch events are

  abbrev h : List Note
  h = members.h nodes servers target batch events are

  abbrev x : ServerRun
  x = members.x nodes servers target batch events are

  abbrev texts : ℕ → Bytes
  texts = members.texts nodes servers target batch events are

  abbrev born : AreBornSo texts batch servers coming
  born = members.born nodes servers target batch events are

  abbrev in_order : AllInOrder texts batch servers coming
  in_order = members.in_order nodes servers target batch events are

  abbrev member : (r : ℕ) → IsMember texts x r
  member r = members.member nodes servers target batch events are r

  -- ---- a range that is served

  abbrev IsTold : ℕ → ℕ → Type 0
  IsTold range g = (rows : List Row) × (next : ℕ) × Contains h (notes.Loaded range g rows next)

  told : (r g : ℕ) → HasLoad g (member r).kept.behind.0 → IsTold r g
  told r g load = member_told texts x h member (members.seen_as nodes servers target batch events are) (members.came nodes servers target batch events are) r g load

  noted : (r : ℕ) (note : Note) → Contains h note → is_of r note ≡ true → IsTold r (generation_of note)
  noted r note there is = member_noted texts x h member (members.seen_as nodes servers target batch events are) (members.came nodes servers target batch events are) r note there is

  self : (r : ℕ) → (r == r) ≡ true
  self r = grind (arith, nat_tests)

  module _ (s range : ℕ) (r : RangeState) (at : ServesAt x s range r) where
    abbrev g : ℕ
    g = r.load.generation

    abbrev held_at : HoldsAt c.servers s range r
    held_at = record {
      state = at.state;
      at = record { cell = at.cell; there = ap (λ l. entry_at l s) (members.stands nodes servers target batch events are).stands.cells ∙ at.there; runs = at.runs };
      found = at.held;
    }

    beyond : IsBeyond r.load.phase
    beyond = subst IsBeyond (sym (((all_laid batch servers coming).ranges s at.cell at.state at.there at.runs range r at.held).confirmed at.serves)) tt

    -- it was loaded under its generation
    pub own_load : HasLoad g (member range).kept.behind.0
    own_load = (member range).kept.loaded s r at

    pub load_told : IsTold range g
    load_told = told range g own_load

    module _ (lasts : at.state.context.moment < r.until) where
      now_lasts : c.now < r.until
      now_lasts = subst (λ n. n < r.until) ((run_is_timely nodes servers target batch events).moments s at.state held_at.at) lasts

      none_above : (above : ℕ) → g < above → IsTold range above → ⊥
      none_above above less load = run_serves_alone nodes servers target batch events s range r held_at beyond now_lasts above less load

      -- NOTHING OF IT WAS TOLD UNDER A HIGHER GENERATION
      pub highest : (note : Note) → Contains h note → is_of range note ≡ true → generation_of note ≤ g
      highest note there is = elim (cases_lt g (generation_of note)) [
        | inl above ↦ absurd (none_above (generation_of note) above (noted range note there is))
        | inr most ↦ omega (arith, most)
      ]

      module _ (unpaused : is_paused r.pause ≡ false) where
        not_paused : (plan : SplitPlan) (job : Option SplitJob) → split_of at.state.splits range ≡ job → IsPausedBy plan r job → ⊥
        not_paused plan None found paused = paused
        not_paused plan (Some job) found paused =
            let holds : SplitHolds r job = splits_hold batch servers coming s at.cell at.state at.there at.runs range r job at.held found in
            let on : r.pause ≡ pauses.On = (drained r job job.phase paused.paused holds.phase).paused in
            let wrong : true ≡ false = ap is_paused (sym on) ∙ unpaused in
            cc

        -- no split of it has waited for its end
        no_split : (child : ℕ) → IsOfSplit nodes servers target batch events are texts range child → ⊥
        no_split child z =
            let closed : ClosedSince texts batch servers range child coming born in_order z.split.job.generation =
            closed_then texts batch servers range child z.server coming born in_order z.after z.until z.is z.split z.told.waits in
            let most : g ≤ z.split.job.generation = z.told.highest (notes.Loaded range g load_told.0 load_told.1) load_told.2 (self range) in
            elim (cases_eq g z.split.job.generation) [
              | inl same ↦ not_paused closed.plan (split_of at.state.splits range) refl (closed.closed s r at same)
              | inr differ ↦ none_above z.split.job.generation (omega (arith, most, differ)) (told range z.split.job.generation closed.loaded)
            ]

        -- H: what is observed at last
        module _ (H more : List Note) (grows : H ≡ h ++ more) (first : HasNoBirth first_range H)
            (children : (before later : List Note) (parent low high : ℕ) (key : List ℕ) → H ≡ before ++ notes.Split parent low high key ∷ later → IsChild H parent low × IsChild H parent high) where
          lifted : (p q : ℕ) → IsChild h p q → IsChild H p q
          lifted p q child =
              let both : IsChild H p child.low × IsChild H p child.high =
              children child.before (child.after ++ more) p child.low child.high child.key
              (grows ∙ ap (λ l. l ++ more) child.is ∙ append_assoc child.before (notes.Split p child.low child.high child.key ∷ child.after) more) in
              ⊎_elim {C = IsChild H p q} (λ low. subst (IsChild H p) (sym low) both.0) (λ high. subst (IsChild H p) (sym high) both.1) child.half

          abbrev NoneOf : ℕ → Type 0
          NoneOf q = Contains (kin H q) range → (q ≡ range → ⊥) → only q h ≡ []

          of_split : (p q : ℕ) → IsOfSplit nodes servers target batch events are texts p q → (p < q → NoneOf p) → NoneOf q
          of_split p q z below there other =
              let child : IsChild H p q = lifted p q z.told.child in
              let inside : In range (q ∷ kin H p) = subst (In range) (child_kin H p q child) (in_contains range (kin H q) there) in
              ⊎_elim {C = only q h ≡ []} (λ same. absurd (other (sym same)))
              (λ above. elim (cases_eq p range) [
                | inl same ↦ absurd (no_split q (subst (λ n. IsOfSplit nodes servers target batch events are texts n q) same z))
                | inr apart ↦
                    (let none : only p h ≡ [] = below (smaller H p q child) (contains_in range (kin H p) above) apart in
                    let closed : ClosedSince texts batch servers p q coming born in_order z.split.job.generation =
                    closed_then texts batch servers p q z.server coming born in_order z.after z.until z.is z.split z.told.waits in
                    let load_of : IsTold p z.split.job.generation = told p z.split.job.generation closed.loaded in
                    let load : Note = notes.Loaded p z.split.job.generation load_of.0 load_of.1 in
                    absurd (subst (In load) none (to_only p load h (self p) (in_contains load h load_of.2))))
              ]) inside

          none_below : (bound q : ℕ) → q < bound → NoneOf q
          none_below zero q less = absurd (omega (arith, less))
          none_below (suc bound) q less = by (λ p low. none_below bound p (omega (arith, less, low))) (run_ranges nodes servers target batch events are texts q)
            where
              by : ((p : ℕ) → p < q → NoneOf p) → (only q h ≡ []) ⊎ ((q ≡ first_range) ⊎ ((p : ℕ) × IsOfSplit nodes servers target batch events are texts p q)) → NoneOf q
              by below (inl none) there other = none
              by below (inr (inl is)) there other =
                  let unborn : HasNoBirth q H = subst (λ n. HasNoBirth n H) (sym is) first in
                  let inside : In range (q ∷ []) = subst (In range) (unborn_kin H q unborn) (in_contains range (kin H q) there) in
                  ⊎_elim {C = only q h ≡ []} (λ same. absurd (other (sym same))) (λ none. absurd none) inside
              by below (inr (inr (p, z))) there other = of_split p q z (below p) there other

          -- NOR WAS ANYTHING TOLD OF A RANGE THAT IT IS AN ANCESTOR OF
          pub alone : (q : ℕ) → Contains (kin H q) range → (q ≡ range → ⊥) → only q h ≡ []
          alone q = none_below (suc q) q (omega arith)
