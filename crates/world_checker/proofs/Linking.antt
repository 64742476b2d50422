-- One link more, and walks back along the links.
use Rattle.std.proofs.Common.{◌≡◌, ◌≢◌, ◌⊎◌, ℕ, ◌+◌, ◌-◌, ◌<◌, ◌≤◌, List, [], ◌∷◌, ◌++◌, length, get_or, Option, Some, None, refl, sym, ◌∙◌, inl, inr, arith, subst, ap, length-append}
use Rattle.std.proofs.lemmas.Grind.{common_steps}
use Rattle.std.proofs.lemmas.Bool.Decides.{eqb_tells}
use Rattle.std.specs.Option.{unwrap_or}
use Rattle.wire.specs.declared.note.Note.{Note}
use Rattle.wire.specs.declared.note.Note.TheVariants.{Acked, SealedAt, Content, Seen}
use Rattle.model_streams.specs.Pairs.{Compatible}
use Rattle.world_checker.specs.declared.index.Sought.{Sought}
use Rattle.world_checker.specs.Checking.{extent_of, MeetsFrom}
use Rattle.world_checker.specs.Links.{IsPassed, IsLink, LeadsBack, AreLinks, IsUpTo, IsLast, IsStep, LeadOverMet}
use Rattle.world_checker.proofs.Places.{same_at, same_number, three, below_or_at, below_or_not}

-- whether an observation is of an extent
pub is_of : (o : Option ℕ) (e : ℕ) → (o ≡ Some e) ⊎ (o ≢ Some e)
is_of None e = inr (λ k. cc)
is_of (Some f) e = elim (eqb_tells f e) [ inl a ↦ inl (ap (λ (n : ℕ). Some n) a.1) | inr b ↦ inr (λ k. b.1 (same_number f e k)) ]

module _ (sought : Sought) (notes : List Note) (place : ℕ) (note : Note) (old new : ℕ → Option ℕ) (link : ℕ)
    (within : place < length notes) (is : note ≡ get_or notes place note) (last : IsLast sought notes place old) (step : IsStep sought note place old new link) where
  here_at : (d : Note) → note ≡ get_or notes place d
  here_at d = is ∙ same_at notes place note d within

  extent_at : (d : Note) → extent_of note ≡ extent_of (get_or notes place d)
  extent_at d = ap extent_of (here_at d)

  -- it is the last one of its extent from now on
  noted : (e : ℕ) → extent_of note ≡ Some e → new e ≡ Some (place + 1) → (IsPassed sought note → ⊥) → IsUpTo sought notes (place + 1) e (unwrap_or (new e) 0)
  noted e mine now sought_one = let n : unwrap_or (new e) 0 ≡ place + 1 = ap (λ (o : Option ℕ). unwrap_or o 0) now in
      let at : unwrap_or (new e) 0 - 1 ≡ place = omega (arith, n) in
      record {
        within = omega (arith, n);
        last = λ i d low high. absurd (omega (arith, n, low, high));
        there = λ d some.
            let same : note ≡ get_or notes (unwrap_or (new e) 0 - 1) d = here_at d ∙ ap (λ (k : ℕ). get_or notes k d) (sym at) in
            (ap extent_of (sym same) ∙ mine, λ passed. sought_one (subst (IsPassed sought) (sym same) passed));
      }

  -- it is of another extent, or is passed
  unnoted : (e : ℕ) → new e ≡ old e → (extent_of note ≡ Some e → IsPassed sought note) → IsUpTo sought notes (place + 1) e (unwrap_or (new e) 0)
  unnoted e now passed = let n : unwrap_or (new e) 0 ≡ unwrap_or (old e) 0 = ap (λ (o : Option ℕ). unwrap_or o 0) now in
      record {
        within = omega (arith, n, (last e).within);
        last = λ i d low high mine. elim (below_or_at i place high) [
          | inl below ↦ (last e).last i d (omega (arith, n, low)) below mine
          | inr at ↦ let same : note ≡ get_or notes i d = here_at d ∙ ap (λ (k : ℕ). get_or notes k d) (sym at) in
              subst (IsPassed sought) same (passed (ap extent_of same ∙ mine))
        ];
        there = λ d some. subst (λ (k : ℕ). (extent_of (get_or notes (k - 1) d) ≡ Some e) × (IsPassed sought (get_or notes (k - 1) d) → ⊥)) (sym n) ((last e).there d (omega (arith, n, some)));
      }

  pub last_more : IsLast sought notes (place + 1) new
  last_more e = elim (is_of (extent_of note) e) [
    | inl mine ↦ elim (step.here e mine) [ inl a ↦ noted e mine a.0 a.1 | inr b ↦ unnoted e b.0 (λ k. b.1) ]
    | inr other ↦ unnoted e (step.elsewhere e other) (λ k. absurd (other k))
  ]

  pub is_link : IsLink sought notes place link
  is_link = (
    small (extent_of note) refl,
    λ e d mine i b low high.
        let here : extent_of note ≡ Some e = extent_at d ∙ mine in
        (last e).last i b (omega (arith, low, step.leads e here)) high,
  )
    where
      small : (o : Option ℕ) → extent_of note ≡ o → link ≤ place
      small None none = omega (arith, step.none none)
      small (Some e) here = omega (arith, step.leads e here, (last e).within)

  pub leads_back : LeadsBack sought notes place link
  leads_back d some = leads (extent_of note) refl
    where
      leads : (o : Option ℕ) → extent_of note ≡ o → (extent_of (get_or notes (link - 1) d) ≡ extent_of (get_or notes place d)) × (IsPassed sought (get_or notes (link - 1) d) → ⊥)
      leads None none = absurd (omega (arith, some, step.none none))
      leads (Some e) here =
          let same : link ≡ unwrap_or (old e) 0 = step.leads e here in
          let there = (last e).there d (omega (arith, some, same)) in
          let back : get_or notes (link - 1) d ≡ get_or notes (unwrap_or (old e) 0 - 1) d = ap (λ (k : ℕ). get_or notes (k - 1) d) same in
          (ap extent_of back ∙ (there.0 ∙ (sym here ∙ extent_at d)), λ passed. there.1 (subst (IsPassed sought) back passed))

-- a fact of each element and its place, and of one more
pub each_more : (P : ℕ → ℕ → Type 0) (links : List ℕ) (link : ℕ) → ((place : ℕ) → place < length links → P place (get_or links place 0)) → P (length links) link
    → (place : ℕ) → place < length (links ++ link ∷ []) → P place (get_or (links ++ link ∷ []) place 0)
each_more P links link each one = λ place lt. elim (below_or_at place (length links) (omega (arith, lt, length-append links (link ∷ [])))) [
  | inl below ↦ let same : get_or (links ++ link ∷ []) place 0 ≡ get_or links place 0 = grind (arith, common_steps) in
      subst (P place) (sym same) (each place below)
  | inr at ↦ let same : get_or (links ++ link ∷ []) place 0 ≡ link = grind (arith, common_steps) in
      subst (P place) (sym same) (subst (λ n. P n link) (sym at) one)
]

pub links_more : (sought : Sought) (notes : List Note) (links : List ℕ) (link : ℕ) → AreLinks sought notes links → length links < length notes → IsLink sought notes (length links) link
    → AreLinks sought notes (links ++ link ∷ [])
links_more sought notes links link are less one = (omega (arith, length-append links (link ∷ [])), each_more (IsLink sought notes) links link are.1 one)

-- what is of no extent is compatible
pub of_none : (x y : Note) → extent_of y ≡ None → Compatible x y
of_none x (Acked f p h) none = absurd cc
of_none x (SealedAt f m) none = absurd cc
of_none x (Content f m d) none = absurd cc
of_none x (Seen f m p ys) none = absurd cc
of_none (Acked e o g) y none = tt
of_none (SealedAt e l) y none = tt
of_none (Content e n c) y none = tt
of_none (Seen e n o xs) y none = tt
of_none x y none = tt

-- what is of another extent is compatible
pub unlike : (x y : Note) (k : ℕ) → extent_of y ≡ Some k → extent_of x ≢ Some k → Compatible x y
unlike (Acked e o g) (Acked f p h) k mine other = λ s. absurd (other (ap (λ (n : ℕ). Some n) s ∙ mine))
unlike (Acked e o g) (SealedAt f m) k mine other = λ s. absurd (other (ap (λ (n : ℕ). Some n) s ∙ mine))
unlike (Acked e o g) (Content f m d) k mine other = λ s. absurd (other (ap (λ (n : ℕ). Some n) s ∙ mine))
unlike (Acked e o g) (Seen f m p ys) k mine other = λ s. absurd (other (ap (λ (n : ℕ). Some n) s ∙ mine))
unlike (SealedAt e l) (Acked f p h) k mine other = λ s. absurd (other (ap (λ (n : ℕ). Some n) s ∙ mine))
unlike (SealedAt e l) (SealedAt f m) k mine other = λ s. absurd (other (ap (λ (n : ℕ). Some n) s ∙ mine))
unlike (SealedAt e l) (Content f m d) k mine other = λ s. absurd (other (ap (λ (n : ℕ). Some n) s ∙ mine))
unlike (Content e n c) (Acked f p h) k mine other = λ s. absurd (other (ap (λ (n : ℕ). Some n) s ∙ mine))
unlike (Content e n c) (SealedAt f m) k mine other = λ s. absurd (other (ap (λ (n : ℕ). Some n) s ∙ mine))
unlike (Content e n c) (Content f m d) k mine other = λ s. absurd (other (ap (λ (n : ℕ). Some n) s ∙ mine))
unlike (Content e n c) (Seen f m p ys) k mine other = λ s. absurd (other (ap (λ (n : ℕ). Some n) s ∙ mine))
unlike (Seen e n o xs) (Acked f p h) k mine other = λ s. absurd (other (ap (λ (n : ℕ). Some n) s ∙ mine))
unlike (Seen e n o xs) (Content f m d) k mine other = λ s. absurd (other (ap (λ (n : ℕ). Some n) s ∙ mine))
unlike (Seen e n o xs) (Seen f m p ys) k mine other = λ s. absurd (other (ap (λ (n : ℕ). Some n) s ∙ mine))
unlike x y k mine other = tt

-- links lead over such alone as are compatible, if those that they pass are
pub lead_over : (sought : Sought) (notes : List Note) (links : List ℕ) (place : ℕ) → place < length notes → AreLinks sought notes links
    → ((i : ℕ) (d : Note) → i < place → IsPassed sought (get_or notes i d) → Compatible (get_or notes i d) (get_or notes place d)) → LeadOverMet notes links place
lead_over sought notes links place within are met from lt le = ((are.1 from lt).0, λ i d same low high. by i d same low high (extent_of (get_or notes place d)) refl)
  where
    by : (i : ℕ) (d : Note) → extent_of (get_or notes from d) ≡ extent_of (get_or notes place d) → get_or links from 0 ≤ i → i < from
        → (o : Option ℕ) → extent_of (get_or notes place d) ≡ o → Compatible (get_or notes i d) (get_or notes place d)
    by i d same low high None none = of_none (get_or notes i d) (get_or notes place d) none
    by i d same low high (Some e) mine = elim (is_of (extent_of (get_or notes i d)) e) [
      | inl of ↦ met i d (omega (arith, high, le)) ((are.1 from lt).1 e d (same ∙ mine) i d low high of)
      | inr other ↦ unlike (get_or notes i d) (get_or notes place d) e mine other
    ]

-- what a link, or none, leads over from one place
abbrev pub IsMetOver : List Note → ℕ → ℕ → ℕ → Type 0
IsMetOver notes place from r = (r ≤ from)
    × ((i : ℕ) (d : Note) → extent_of (get_or notes from d) ≡ extent_of (get_or notes place d) → r ≤ i → i < from → Compatible (get_or notes i d) (get_or notes place d))

pub link_of : (notes : List Note) (links : List ℕ) (place from r : ℕ) → LeadOverMet notes links place → from ≤ place → (from < length links → r ≡ get_or links from 0) → (length links ≤ from → r ≡ from)
    → IsMetOver notes place from r
link_of notes links place from r lead le linked unlinked = elim (below_or_not from (length links)) [
  | inl below ↦ subst (IsMetOver notes place from) (sym (linked below)) (lead from below le)
  | inr above ↦ subst (IsMetOver notes place from) (sym (unlinked above)) (omega arith, λ i d same low high. absurd (omega arith))
]

-- the walk back from an observation of an extent
module _ (notes : List Note) (place : ℕ) (note : Note) (extent : ℕ) (within : place < length notes) (is : note ≡ get_or notes place note) (mine : extent_of note ≡ Some extent) where
  read : (d : Note) → note ≡ get_or notes place d
  read d = is ∙ same_at notes place note d within

  mine_at : (d : Note) → extent_of (get_or notes place d) ≡ Some extent
  mine_at d = ap extent_of (sym (read d)) ∙ mine

  pub walk_begins : (link : ℕ) → IsMetOver notes place place link → MeetsFrom notes place link
  walk_begins link linked = λ i d low high. linked.1 i d refl low high

  module _ (below : ℕ) (some : 0 < below) (low_enough : below ≤ place) (meets : MeetsFrom notes place below) (earlier : Note) (at : earlier ≡ get_or notes (below - 1) earlier) where
    inside : below - 1 < length notes
    inside = omega (arith, some, low_enough, within)

    read_earlier : (d : Note) → earlier ≡ get_or notes (below - 1) d
    read_earlier d = at ∙ same_at notes (below - 1) earlier d inside

    on_by : (low : ℕ) → ((i : ℕ) (d : Note) → low ≤ i → i < below - 1 → Compatible (get_or notes i d) (get_or notes place d))
        → ((d : Note) → Compatible earlier (get_or notes place d)) → MeetsFrom notes place low
    on_by low before one i d from high = elim (three i (below - 1)) [
      | inl lt ↦ before i d from lt
      | inr more ↦ elim more [
        | inl behind ↦ meets i d (omega (arith, behind, some)) high
        | inr here ↦ subst (λ x. Compatible x (get_or notes place d)) (read_earlier d ∙ ap (λ (k : ℕ). get_or notes k d) (sym here)) (one d)
      ]
    ]

    pub walk_passes : extent_of earlier ≢ Some extent → MeetsFrom notes place (below - 1)
    walk_passes other = on_by (below - 1) (λ i d from lt. absurd (omega (arith, from, lt))) (λ d. unlike earlier (get_or notes place d) extent (mine_at d) other)

    pub walk_goes_on : (link : ℕ) → extent_of earlier ≡ Some extent → Compatible earlier note → IsMetOver notes place (below - 1) link → MeetsFrom notes place link
    walk_goes_on link same one linked = on_by link
        (λ i d from lt. linked.1 i d (ap extent_of (sym (read_earlier d)) ∙ (same ∙ sym (mine_at d))) from lt)
        (λ d. subst (Compatible earlier) (read d) one)

pub pushed_length : (links : List ℕ) (link place : ℕ) → length links ≡ place → length (links ++ link ∷ []) ≡ place + 1
pushed_length links link place is = omega (arith, is, length-append links (link ∷ []))
