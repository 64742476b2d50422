-- In a family each observation of a range comes under a generation that was loaded under this range itself: what its streams were built of was
-- loaded under generations that its own are above.
use Rattle.std.proofs.Common.{◌≡◌, ◌⊎◌, ⊎_elim, ℕ, zero, suc, ◌≤◌, ◌<◌, ◌==◌, true, List, [], ◌∷◌, ◌++◌, length, Option, Some, sym, ap, ◌∙◌, subst, inl, inr, arith}
use Rattle.std.specs.Prelude.{Contains}
use Rattle.std.proofs.lemmas.Bool.Decides.{nat_tests}
use Rattle.std.proofs.lemmas.List.{append_cancel_left}
use Rattle.wire.specs.declared.note.Note.{Note}
use Rattle.wire.specs.declared.note.Note.TheVariants.{Loaded}
use Rattle.wire.specs.declared.rows.Row.{Row}
use Rattle.memtable.specs.declared.cell.Place.{Place}
use Rattle.commitlog.specs.Replay.{Numbered}
use Rattle.model_histories.specs.Log.{begins_of, dones_of, dones_at, is_of, only}
use Rattle.model_histories.specs.Story.{StreamEvent, Made, Showed, event_at}
use Rattle.model_histories.specs.StreamMachine.{In}
use Rattle.model_partition.specs.Past.{Transaction}
use Rattle.laws_tables.specs.Families.{IsFirst, HasParent, IsFamily, generation_of}
use Rattle.laws_tables.specs.Layers.{Layer}
use Rattle.laws_tables.specs.Runs.{Run, Forms, Logged, Notes, Records, Recorded, Trims, Confirms, log_of, first_beginning, next_loaded, seen, IsServing, IsChainRun}
use Rattle.laws_tables.proofs.Births.{smaller}
use Rattle.laws_tables.proofs.Members.{in_contains, contains_in, in_left, in_right, in_middle, in_cases}
use Rattle.laws_tables.proofs.Observed.{in_only, to_only}
use Rattle.laws_tables.proofs.Range.{newest, made_shown, answered_shown, shown_cases}
use Rattle.laws_tables.proofs.RunLines.{out_made}
use Rattle.laws_server_runs.specs.RunInvariant.{HasLoad}
use Rattle.laws_server_runs.proofs.ConfirmedLoads.{has_behind}
use Rattle.laws_server_runs.proofs.FamilyParents.{ShowsLoad, load_seen}
use Rattle.laws_server_runs.proofs.Others.{serving_on}

-- ---- runs

begun_under : (range g s : ℕ) (items : List Transaction) (o : Note) → In o (begins_of range g s items) → generation_of o ≡ g
begun_under range g s [] o there = absurd there
begun_under range g s (t ∷ ts) o (inl is) = ap generation_of is
begun_under range g s (t ∷ ts) o (inr there) = begun_under range g (suc s) ts o there

done_under : (range g s : ℕ) (items : List Transaction) (o : Note) → In o (dones_of range g s items) → generation_of o ≡ g
done_under range g s [] o there = absurd there
done_under range g s (t ∷ ts) o (inl is) = ap generation_of is
done_under range g s (t ∷ ts) o (inr there) = done_under range g (suc s) ts o there

-- what a run shows is under a generation that it serves
module _ (layer_at : Place → Layer) (rows : ℕ → List Row) (range : ℕ) (o : Note) where
  pub noted_serving : (run : Run) → IsChainRun layer_at first_beginning run → In o (seen first_beginning rows range run) → IsServing run (generation_of o)
  noted_serving [] chain there = absurd there
  noted_serving (Forms g group ∷ run) chain there =
      ⊎_elim {C = IsServing (Forms g group ∷ run) (generation_of o)} (λ old. serving_on (Forms g group) run (generation_of o) (noted_serving run chain.1 old))
      (λ new. subst (IsServing (Forms g group ∷ run)) (sym (begun_under range g group.first group.items o new)) (serving_on (Forms g group) run g chain.0.0))
      (in_cases o (seen first_beginning rows range run) (begins_of range g group.first group.items) there)
  noted_serving (Logged g append from to ∷ run) chain there =
      ⊎_elim {C = IsServing (Logged g append from to ∷ run) (generation_of o)} (λ old. serving_on (Logged g append from to) run (generation_of o) (noted_serving run chain.1 old))
      (λ new.
      let group : Numbered Transaction = chain.0.1 in
      let made : event_at (log_of run) append ≡ Some (Made g group) = out_made first_beginning g run (record { append = append; group = group }) chain.0.2 in
      let done : In o (dones_of range g group.first group.items) = subst (λ (e : Option (StreamEvent (Numbered Transaction))). In o (dones_at range e)) made new in
      subst (IsServing (Logged g append from to ∷ run)) (sym (done_under range g group.first group.items o done)) (serving_on (Logged g append from to) run g chain.0.0))
      (in_cases o (seen first_beginning rows range run) (dones_at range (event_at (log_of run) append)) there)
  noted_serving (Notes g ∷ run) chain there = noted_serving run chain.1 there
  noted_serving (Records g number item ∷ run) chain there = noted_serving run chain.1 there
  noted_serving (Recorded g append from to ∷ run) chain there = noted_serving run chain.1 there
  noted_serving (Trims g place ∷ run) chain there = noted_serving run chain.1 there
  noted_serving (Confirms g start end groups metadata_end records ∷ run) chain there =
      ⊎_elim {C = IsServing (Confirms g start end groups metadata_end records ∷ run) (generation_of o)}
      (λ old. serving_on (Confirms g start end groups metadata_end records) run (generation_of o) (noted_serving run chain.1 old))
      (λ new.
      ⊎_elim {C = IsServing (Confirms g start end groups metadata_end records ∷ run) (generation_of o)}
      (λ is. subst (IsServing (Confirms g start end groups metadata_end records ∷ run)) (sym (ap generation_of is)) (confirms_serve g run)) (λ none. absurd none) new)
      (in_cases o (seen first_beginning rows range run) (Loaded range g (rows (length (log_of run))) (next_loaded first_beginning groups records) ∷ []) there)
    where
      confirms_serve : (g : ℕ) (run : Run) → IsServing (Confirms g start end groups metadata_end records ∷ run) g
      confirms_serve g run = (length (log_of run), start, end, groups, newest (Numbered Transaction) (Showed g start end groups) (log_of run))

-- a generation that is served was loaded in the front part, or is served in the part behind it
pub serving_part : (g : ℕ) (own taken : Run) → IsServing (own ++ taken) g → HasLoad g own ⊎ IsServing taken g
serving_part g [] taken s = inr s
serving_part g (Forms i group ∷ own) taken s =
    serving_part g own taken (s.0, s.1, s.2, s.3, made_shown Transaction i group (log_of (own ++ taken)) s.0 g s.1 s.2 s.3 s.4)
serving_part g (Logged i append from to ∷ own) taken s =
    serving_part g own taken (s.0, s.1, s.2, s.3, answered_shown Transaction append from to (log_of (own ++ taken)) s.0 g s.1 s.2 s.3 s.4)
serving_part g (Notes i ∷ own) taken s = serving_part g own taken s
serving_part g (Records i number item ∷ own) taken s = serving_part g own taken s
serving_part g (Recorded i append from to ∷ own) taken s = serving_part g own taken s
serving_part g (Trims i place ∷ own) taken s = serving_part g own taken s
serving_part g (Confirms i start end groups metadata_end records ∷ own) taken s =
    ⊎_elim {C = ((g ≡ i) ⊎ HasLoad g own) ⊎ IsServing taken g}
    (λ new. inl (inl (sym new.1)))
    (λ old. ⊎_elim {C = ((g ≡ i) ⊎ HasLoad g own) ⊎ IsServing taken g} (λ mine. inl (inr mine)) (λ theirs. inr theirs) (serving_part g own taken (s.0, s.1, s.2, s.3, old)))
    (shown_cases Transaction i start end groups (log_of (own ++ taken)) s.0 g s.1 s.2 s.3 s.4)

-- nothing is served in what is nothing
none_served : (g : ℕ) (run : Run) → run ≡ [] → IsServing run g → ⊥
none_served g run none s = let at : event_at [] s.0 ≡ Some (Showed g s.1 s.2 s.3) = ap (λ z. event_at (log_of z) s.0) (sym none) ∙ s.4 in cc

-- ---- families

module _ (layer_at : Place → Layer) (h : List Note) (family : IsFamily layer_at h) where
  abbrev Parent : ℕ → ℕ → Type 0
  Parent p r = HasParent layer_at h family.own family.taken family.rows family.range p r

  self : (r : ℕ) → (r == r) ≡ true
  self r = grind (arith, nat_tests)

  abbrev IsTold : ℕ → ℕ → Type 0
  IsTold r g = (rows : List Row) × (next : ℕ) × Contains h (Loaded r g rows next)

  -- a load of a range's own part is observed
  pub own_told : (r g : ℕ) → HasLoad g (family.own r) → IsTold r g
  own_told r g load =
      let s : ShowsLoad (family.rows r) r g (family.own r) (family.taken r) = load_seen (family.rows r) r g (family.taken r) (family.own r) load in
      let e : only r h ≡ s.front ++ Loaded r g s.table s.next ∷ s.back =
      append_cancel_left (seen first_beginning (family.rows r) r (family.taken r)) (only r h) (s.front ++ Loaded r g s.table s.next ∷ s.back) (sym (family.range r).told ∙ s.is) in
      let there : In (Loaded r g s.table s.next) (only r h) = subst (In (Loaded r g s.table s.next)) (sym e) (in_middle (Loaded r g s.table s.next) s.front s.back) in
      (s.table, s.next, contains_in (Loaded r g s.table s.next) h (in_only r (Loaded r g s.table s.next) h there))

  -- a parent's load under the generation of the split is observed
  parent_load : (p r : ℕ) (q : Parent p r) → Contains h (Loaded p q.generation q.loaded.0 q.loaded.1)
  parent_load p r q =
      let load : Note = Loaded p q.generation q.loaded.0 q.loaded.1 in
      contains_in load h (subst (In load) (sym q.moment) (in_left load q.before q.after (in_contains load q.before q.loaded.2)))

  -- what was taken was loaded under generations up to that of the split
  taken_at_most : (bound r : ℕ) → r < bound → (p : ℕ) (q : Parent p r) (g : ℕ) → IsServing (family.taken r) g → g ≤ q.generation
  taken_at_most zero r less p q g served = absurd (omega (arith, less))
  taken_at_most (suc bound) r less p q g served =
      ⊎_elim {C = g ≤ q.generation}
      (λ mine. let t : IsTold p g = own_told p g (subst (HasLoad g) (sym q.parts) (has_behind g q.late q.early mine)) in q.highest (Loaded p g t.0 t.1) t.2 (self p))
      (λ theirs. by (λ b u. taken_at_most bound p (let low : p < r = smaller h p r q.child in omega (arith, low, less)) b u g) theirs (family.born p)) (serving_part g q.early (family.taken p) (subst (λ z. IsServing z g) q.took served))
    where
      by : ((b : ℕ) (u : Parent b p) → IsServing (family.taken p) g → g ≤ u.generation) → IsServing (family.taken p) g → (only p h ≡ []) ⊎ (IsFirst layer_at h family.own family.taken family.rows family.range p ⊎ ((b : ℕ) × Parent b p)) → g ≤ q.generation
      by most s (inl none) = absurd (subst (In (Loaded p q.generation q.loaded.0 q.loaded.1)) none (to_only p (Loaded p q.generation q.loaded.0 q.loaded.1) h (self p) (in_contains (Loaded p q.generation q.loaded.0 q.loaded.1) h (parent_load p r q))))
      by most s (inr (inl first)) = absurd (none_served g (family.taken p) first.nothing s)
      by most s (inr (inr (b, u))) =
          let low : g ≤ u.generation = most b u s in
          let up : u.generation < q.generation = u.above (Loaded p q.generation q.loaded.0 q.loaded.1) (parent_load p r q) (self p) in
          omega (arith, low, up)

  -- EACH OBSERVATION OF A RANGE IS UNDER A GENERATION THAT IT WAS LOADED UNDER
  pub noted_loaded : (r : ℕ) (o : Note) → Contains h o → is_of r o ≡ true → IsTold r (generation_of o)
  noted_loaded r o there is =
      ⊎_elim {C = IsTold r (generation_of o)} (λ mine. own_told r (generation_of o) mine) (λ theirs. by theirs (family.born r))
      (serving_part (generation_of o) (family.own r) (family.taken r) (noted_serving layer_at (family.rows r) r o (family.own r ++ family.taken r) (family.range r).runs shown))
    where
      told : In o (only r h)
      told = to_only r o h is (in_contains o h there)

      shown : In o (seen first_beginning (family.rows r) r (family.own r ++ family.taken r))
      shown = subst (In o) (sym (family.range r).told) (in_right o (seen first_beginning (family.rows r) r (family.taken r)) (only r h) told)

      by : IsServing (family.taken r) (generation_of o) → (only r h ≡ []) ⊎ (IsFirst layer_at h family.own family.taken family.rows family.range r ⊎ ((p : ℕ) × Parent p r)) → IsTold r (generation_of o)
      by s (inl none) = absurd (subst (In o) none told)
      by s (inr (inl first)) = absurd (none_served (generation_of o) (family.taken r) first.nothing s)
      by s (inr (inr (p, q))) =
          let most : generation_of o ≤ q.generation = taken_at_most (suc r) r (omega arith) p q (generation_of o) s in
          let up : q.generation < generation_of o = q.above o there is in
          absurd (omega (arith, most, up))
