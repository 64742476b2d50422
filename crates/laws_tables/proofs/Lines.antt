-- What a log's loads show, as lines: each group stands at its numbers, and nothing is skipped.
use Rattle.std.proofs.Common.{◌≡◌, ℕ, zero, suc, ◌+◌, ◌-◌, ◌<◌, ◌≤◌, List, [], ◌∷◌, ◌++◌, length, drop, refl, sym, ap, ◌∙◌, subst, inl, inr, ◌⊎◌, ⊎_elim, arith, append_assoc, length-append}
use Rattle.std.proofs.lemmas.List.{append-nil, drop_all}
use Rattle.std.proofs.lemmas.Bool.{cases_lt, cases_eq}
use Rattle.commitlog.specs.Replay.{Numbered as Group, taken}
use Rattle.model_histories.specs.StreamMachine.{In}
use Rattle.model_partition.specs.Lines.{next_after, StandsIn}
use Rattle.laws_tables.proofs.Members.{in_left, in_middle, in_cases, in_split}

pub in_or_not : (a : ℕ) (xs : List ℕ) → In a xs ⊎ (In a xs → ⊥)
in_or_not a [] = inr (λ h. h)
in_or_not a (x ∷ xs) = go (cases_eq a x) (in_or_not a xs)
  where
    go : (a ≡ x) ⊎ (a ≡ x → ⊥) → In a xs ⊎ (In a xs → ⊥) → In a (x ∷ xs) ⊎ (In a (x ∷ xs) → ⊥)
    go (inl e) _ = inl (inl e)
    go (inr n) (inl m) = inl (inr m)
    go (inr n) (inr k) = inr (λ h. ⊎_elim n k h)

-- where a member of two lists joined stands
abbrev pub SplitAt : {A : Type 0} → A → List A → List A → List A → List A → Type 0
SplitAt {A} a xs ys front rest = ((more : List A) × (front ≡ xs ++ a ∷ more)) ⊎ ((between : List A) × (xs ≡ front ++ between) × (rest ≡ between ++ a ∷ ys))

pub split_at : {A : Type 0} (a : A) (xs ys front rest : List A) → xs ++ a ∷ ys ≡ front ++ rest → SplitAt a xs ys front rest
split_at a xs ys [] rest e = inr (xs, refl, sym e)
split_at a [] ys (f ∷ front) rest e = inl (front, cc)
split_at a (x ∷ xs) ys (f ∷ front) rest e =
    let e' : xs ++ a ∷ ys ≡ front ++ rest = cc in
    let p : x ≡ f = cc in
    ⊎_elim {C = SplitAt a (x ∷ xs) ys (f ∷ front) rest}
    (λ s. inl (s.0, cc (p, s.1)))
    (λ s. inr (s.0, cc (p, s.1), s.2))
    (split_at a xs ys front rest e')

-- a group that stands in a line stands in each longer one
pub stands_longer : {A : Type 0} (line more : List A) (group : Group A) → StandsIn line group → StandsIn (line ++ more) group
stands_longer line more group s = record {
  before = s.before;
  after = s.after ++ more;
  is = ap (λ l. l ++ more) s.is ∙ append_assoc s.before (group.items ++ s.after) more ∙ ap (λ l. s.before ++ l) (append_assoc group.items s.after more);
  at = s.at;
}

-- it ends within the line
pub stands_within : {A : Type 0} (line : List A) (group : Group A) → StandsIn line group → next_after group ≤ suc (length line)
stands_within line group s =
    let l : length line ≡ length s.before + (length group.items + length s.after) = ap length s.is ∙ length-append s.before (group.items ++ s.after) ∙ ap (λ n. length s.before + n) (length-append group.items s.after) in
    let at : suc (length s.before) ≡ group.first = s.at in
    omega arith

-- a group that stands in the line adds nothing
pub taken_again : {A : Type 0} (line : List A) (group : Group A) → StandsIn line group → taken line group ≡ line
taken_again line group s =
    let w : next_after group ≤ suc (length line) = stands_within line group s in
    let small : length group.items ≤ suc (length line) - group.first = omega arith in
    ap (λ l. line ++ l) (drop_all (suc (length line) - group.first) group.items small) ∙ append-nil line

-- a group with the next number is added whole
pub taken_next : {A : Type 0} (line : List A) (group : Group A) → group.first ≡ suc (length line) → taken line group ≡ line ++ group.items
taken_next line group e =
    let z : suc (length line) - group.first ≡ 0 = omega arith in
    ap (λ n. line ++ drop n group.items) z

pub stands_at_end : {A : Type 0} (line : List A) (group : Group A) → group.first ≡ suc (length line) → StandsIn (line ++ group.items) group
stands_at_end line group e = record { before = line; after = []; is = ap (λ l. line ++ l) (sym (append-nil group.items)); at = sym e }

nothing_there : {A : Type 0} (us vs : List A) (t : A) → [] ≡ us ++ t ∷ vs → ⊥
nothing_there [] vs t q = cc
nothing_there (u ∷ us) vs t q = cc

-- The appends of one log and what its loads show: an append has a group and a generation, a load a generation and the appends whose copies it shows, in order.
module _ (A : Type 0) (group : ℕ → Group A) (gen : ℕ → ℕ) where
  -- the line after these appends
  unfoldable pub along : List A → List ℕ → List A
  along line [] = line
  along line (a ∷ ids) = along (taken line (group a)) ids

  pub along-append : (xs ys : List ℕ) (line : List A) → along line (xs ++ ys) ≡ along (along line xs) ys
  unfolding along
  along-append [] ys line = refl
  along-append (x ∷ xs) ys line = along-append xs ys (taken line (group x))

  -- a line only grows
  pub along_grows : (xs : List ℕ) (line : List A) → (more : List A) × (along line xs ≡ line ++ more)
  unfolding along
  along_grows [] line = ([], sym (append-nil line))
  along_grows (x ∷ xs) line =
      let r : (more : List A) × (along (taken line (group x)) xs ≡ taken line (group x) ++ more) = along_grows xs (taken line (group x)) in
      let d : List A = drop (suc (length line) - (group x).first) (group x).items in
      (d ++ r.0, r.1 ∙ append_assoc line d r.0)

  unfoldable pub Gapless : List A → List ℕ → Type 0
  Gapless line [] = Unit {0}
  Gapless line (a ∷ ids) = ((group a).first ≤ suc (length line)) × Gapless (taken line (group a)) ids

  pub gapless-append : (xs ys : List ℕ) (line : List A) → Gapless line xs → Gapless (along line xs) ys → Gapless line (xs ++ ys)
  unfolding along Gapless
  gapless-append [] ys line g h = h
  gapless-append (x ∷ xs) ys line g h = (g.0, gapless-append xs ys (taken line (group x)) g.1 h)

-- What the servers and the log keep to, for the loads (by an index) and the appends (by the order in which they were made).
pub record Rules (A : Type 0) (group : ℕ → Group A) (gen : ℕ → ℕ) (IsMade : ℕ → Type 0) (home : ℕ → ℕ)
    (IsLoad : ℕ → Type 0) (load_gen : ℕ → ℕ) (shows : ℕ → List ℕ) : Type 0 where
  -- of the log
  pub made : (l a : ℕ) → IsLoad l → In a (shows l) → IsMade a
  pub below : (l a : ℕ) → IsLoad l → In a (shows l) → gen a < load_gen l
  pub begins : (l m : ℕ) → IsLoad l → IsLoad m → load_gen l < load_gen m →
      (rest : List ℕ) × (shows m ≡ shows l ++ rest) × ((a : ℕ) → In a rest → load_gen l ≤ gen a)
  pub answered_first : (l a b : ℕ) (xs ys : List ℕ) → IsLoad l → IsMade a → IsMade b → gen a ≡ gen b → a < b → shows l ≡ xs ++ b ∷ ys → In a xs
  -- of the servers: an append is made by the incarnation that a load of its generation began, from the number after that load's line on
  pub home_load : (a : ℕ) → IsMade a → IsLoad (home a) × (load_gen (home a) ≡ gen a)
  pub one_home : (a b : ℕ) → IsMade a → IsMade b → gen a ≡ gen b → home a ≡ home b
  pub after_home : (a : ℕ) → IsMade a → suc (length (along A group gen [] (shows (home a)))) ≤ (group a).first
  pub in_turn : (a b : ℕ) → IsMade a → IsMade b → gen a ≡ gen b → a < b → next_after (group a) ≤ (group b).first
  pub consecutive : (b : ℕ) → IsMade b → ((group b).first ≡ suc (length (along A group gen [] (shows (home b)))))
      ⊎ ((a : ℕ) × IsMade a × (a < b) × (gen a ≡ gen b) × (next_after (group a) ≡ (group b).first))

-- the item that stands after these items is one of these appends', at its number
pub record ComesFrom (A : Type 0) (group : ℕ → Group A) (xs : List ℕ) (us : List A) (t : A) : Type 0 where
  pub append : ℕ
  pub is_one : In append xs
  pub front : List A
  pub back : List A
  pub items : (group append).items ≡ front ++ t ∷ back
  pub number : (group append).first + length front ≡ suc (length us)

-- after these appends the line has each of them at its numbers, and ends with one of them
pub record Passed (A : Type 0) (group : ℕ → Group A) (line : List A) (xs : List ℕ) : Type 0 where
  pub each : (a : ℕ) → In a xs → StandsIn line (group a)
  pub top : (length line ≡ 0) ⊎ ((a : ℕ) × In a xs × (next_after (group a) ≡ suc (length line)))
  -- each of the line comes from one of them, at its number
  pub comes_from : (us vs : List A) (t : A) → line ≡ us ++ t ∷ vs → ComesFrom A group xs us t

module _ (A : Type 0) (group : ℕ → Group A) (gen : ℕ → ℕ) (IsMade : ℕ → Type 0) (home : ℕ → ℕ)
    (IsLoad : ℕ → Type 0) (load_gen : ℕ → ℕ) (shows : ℕ → List ℕ) (rules : Rules A group gen IsMade home IsLoad load_gen shows) where
  abbrev pub line_of_load : ℕ → List A
  line_of_load l = along A group gen [] (shows l)

  abbrev pub PassedAll : List ℕ → Type 0
  PassedAll xs = Passed A group (along A group gen [] xs) xs

  -- what is shown before an append's copy begins with what its own load showed
  pub after_own_load : (l a : ℕ) (xs ys : List ℕ) → IsLoad l → shows l ≡ xs ++ a ∷ ys → IsLoad (home a) × (load_gen (home a) ≡ gen a) →
      (between : List ℕ) × (xs ≡ shows (home a) ++ between) × ((b : ℕ) → In b between → gen a ≤ gen b)
  after_own_load l a xs ys is_load e h =
      let here : In a (shows l) = subst (In a) (sym e) (in_middle a xs ys) in
      let low : gen a < load_gen l = rules.below l a is_load here in
      let ge : load_gen (home a) ≡ gen a = h.1 in
      let first : load_gen (home a) < load_gen l = omega arith in
      let b : (rest : List ℕ) × (shows l ≡ shows (home a) ++ rest) × ((a' : ℕ) → In a' rest → load_gen (home a) ≤ gen a') = rules.begins (home a) l h.0 is_load first in
      ⊎_elim {C = (between : List ℕ) × (xs ≡ shows (home a) ++ between) × ((c : ℕ) → In c between → gen a ≤ gen c)}
      (λ s.
      let inside : In a (shows (home a)) = subst (In a) (sym s.1) (in_middle a xs s.0) in
      let no : gen a < load_gen (home a) = rules.below (home a) a h.0 inside in
      absurd (omega arith))
      (λ s. (
        s.0,
        s.1,
        λ c m.
            let in_rest : In c b.0 = subst (In c) (sym s.2) (in_left c s.0 (a ∷ ys) m) in
            let k : load_gen (home a) ≤ gen c = b.2 c in_rest in
            omega arith,
      ))
      (split_at a xs ys (shows (home a)) b.0 (sym e ∙ b.1))

  -- the copy of one append and an earlier member of the same list: of no greater generation
  pub never_back : (l a f : ℕ) (xs ys : List ℕ) → IsLoad l → shows l ≡ xs ++ a ∷ ys → In f xs → gen f ≤ gen a
  never_back l a f xs ys is_load e m =
      let f_here : In f (shows l) = subst (In f) (sym e) (in_left f xs (a ∷ ys) m) in
      let f_made : IsMade f = rules.made l f is_load f_here in
      let h : IsLoad (home f) × (load_gen (home f) ≡ gen f) = rules.home_load f f_made in
      let low : gen f < load_gen l = rules.below l f is_load f_here in
      let same : load_gen (home f) ≡ gen f = h.1 in
      let first : load_gen (home f) < load_gen l = omega arith in
      let b : (rest : List ℕ) × (shows l ≡ shows (home f) ++ rest) × ((c : ℕ) → In c rest → load_gen (home f) ≤ gen c) = rules.begins (home f) l h.0 is_load first in
      ⊎_elim {C = gen f ≤ gen a}
      (λ s.
      let inside : In f (shows (home f)) = subst (In f) (sym s.1) (in_left f xs (a ∷ s.0) m) in
      let no : gen f < load_gen (home f) = rules.below (home f) f h.0 inside in
      absurd (omega arith))
      (λ s.
      let in_rest : In a b.0 = subst (In a) (sym s.2) (in_middle a s.0 ys) in
      let k : load_gen (home f) ≤ gen a = b.2 a in_rest in
      omega arith)
      (split_at a xs ys (shows (home f)) b.0 (sym e ∙ b.1))

  -- an append whose copy has not come before: everything before it ends below it
  pub all_below : (l a : ℕ) (xs ys : List ℕ) → IsLoad l → shows l ≡ xs ++ a ∷ ys → (In a xs → ⊥) →
      ((m : ℕ) → IsLoad m → load_gen m < load_gen l → PassedAll (shows m)) →
      (f : ℕ) → In f xs → next_after (group f) ≤ (group a).first
  all_below l a xs ys is_load e new lower f m =
      let a_here : In a (shows l) = subst (In a) (sym e) (in_middle a xs ys) in
      let a_made : IsMade a = rules.made l a is_load a_here in
      let f_here : In f (shows l) = subst (In f) (sym e) (in_left f xs (a ∷ ys) m) in
      let f_made : IsMade f = rules.made l f is_load f_here in
      let low : gen a < load_gen l = rules.below l a is_load a_here in
      let h : IsLoad (home a) × (load_gen (home a) ≡ gen a) = rules.home_load a a_made in
      let same : load_gen (home a) ≡ gen a = h.1 in
      let first : load_gen (home a) < load_gen l = omega arith in
      let own : (between : List ℕ) × (xs ≡ shows (home a) ++ between) × ((b : ℕ) → In b between → gen a ≤ gen b) = after_own_load l a xs ys is_load e h in
      let order : gen f ≤ gen a = never_back l a f xs ys is_load e m in
      let after : suc (length (line_of_load (home a))) ≤ (group a).first = rules.after_home a a_made in
      let in_own : In f (shows (home a)) → next_after (group f) ≤ (group a).first = λ (i : In f (shows (home a))).
      let w : next_after (group f) ≤ suc (length (line_of_load (home a))) = stands_within (line_of_load (home a)) (group f) ((lower (home a) h.0 first).each f i) in
      omega arith in
      ⊎_elim {C = next_after (group f) ≤ (group a).first}
      (λ (less : gen f < gen a).
      ⊎_elim {C = next_after (group f) ≤ (group a).first} in_own
      (λ i. let k : gen a ≤ gen f = own.2 f i in absurd (omega arith))
      (in_cases f (shows (home a)) own.0 (subst (In f) own.1 m)))
      (λ (ge : gen a ≤ gen f).
      let eq : gen f ≡ gen a = omega arith in
      ⊎_elim {C = next_after (group f) ≤ (group a).first}
      (λ (fa : f < a). rules.in_turn f a f_made a_made eq fa)
      (λ (af : a ≤ f).
      ⊎_elim {C = next_after (group f) ≤ (group a).first}
      (λ (is : a ≡ f). absurd (new (subst (λ z. In z xs) (sym is) m)))
      (λ (other : a ≡ f → ⊥).
      let s : (us : List ℕ) × (vs : List ℕ) × (xs ≡ us ++ f ∷ vs) = in_split f xs m in
      let lt : a < f = omega arith in
      let whole : shows l ≡ s.0 ++ f ∷ (s.1 ++ a ∷ ys) = e ∙ ap (λ z. z ++ a ∷ ys) s.2 ∙ append_assoc s.0 (f ∷ s.1) (a ∷ ys) in
      let was : In a s.0 = rules.answered_first l a f s.0 (s.1 ++ a ∷ ys) is_load a_made f_made (sym eq) lt whole in
      absurd (new (subst (In a) (sym s.2) (in_left a s.0 (f ∷ s.1) was))))
      (cases_eq a f))
      (cases_lt f a))
      (cases_lt (gen f) (gen a))

  -- it has the next number
  pub has_next : (l a : ℕ) (xs ys : List ℕ) → IsLoad l → shows l ≡ xs ++ a ∷ ys → (In a xs → ⊥) →
      ((m : ℕ) → IsLoad m → load_gen m < load_gen l → PassedAll (shows m)) → PassedAll xs →
      (group a).first ≡ suc (length (along A group gen [] xs))
  has_next l a xs ys is_load e new lower passed =
      let line : List A = along A group gen [] xs in
      let a_here : In a (shows l) = subst (In a) (sym e) (in_middle a xs ys) in
      let a_made : IsMade a = rules.made l a is_load a_here in
      let h : IsLoad (home a) × (load_gen (home a) ≡ gen a) = rules.home_load a a_made in
      let own : (between : List ℕ) × (xs ≡ shows (home a) ++ between) × ((b : ℕ) → In b between → gen a ≤ gen b) = after_own_load l a xs ys is_load e h in
      let after : suc (length (line_of_load (home a))) ≤ (group a).first = rules.after_home a a_made in
      let grown : (more : List A) × (along A group gen (line_of_load (home a)) own.0 ≡ line_of_load (home a) ++ more) = along_grows A group gen own.0 (line_of_load (home a)) in
      let is_line : line ≡ line_of_load (home a) ++ grown.0 = ap (along A group gen []) own.1 ∙ along-append A group gen (shows (home a)) own.0 [] ∙ grown.1 in
      let longer : length line ≡ length (line_of_load (home a)) + length grown.0 = ap length is_line ∙ length-append (line_of_load (home a)) grown.0 in
      let upper : (group a).first ≤ suc (length line) =
      ⊎_elim {C = (group a).first ≤ suc (length line)}
      (λ (q : (group a).first ≡ suc (length (line_of_load (home a)))). omega arith)
      (λ (q : (b : ℕ) × IsMade b × (b < a) × (gen b ≡ gen a) × (next_after (group b) ≡ (group a).first)).
      let was : In q.0 xs = rules.answered_first l q.0 a xs ys is_load q.1 a_made q.3 q.2 e in
      let w : next_after (group q.0) ≤ suc (length line) = stands_within line (group q.0) (passed.each q.0 was) in
      let n : next_after (group q.0) ≡ (group a).first = q.4 in
      omega arith)
      (rules.consecutive a a_made) in
      let lower_bound : suc (length line) ≤ (group a).first =
      ⊎_elim {C = suc (length line) ≤ (group a).first}
      (λ (z : length line ≡ 0). omega arith)
      (λ (t : (f : ℕ) × In f xs × (next_after (group f) ≡ suc (length line))).
      let w : next_after (group t.0) ≤ (group a).first = all_below l a xs ys is_load e new lower t.0 t.1 in
      let n : next_after (group t.0) ≡ suc (length line) = t.2 in
      omega arith)
      passed.top in
      omega arith

  abbrev pub GaplessAll : List ℕ → Type 0
  GaplessAll xs = Gapless A group gen [] xs

  comes_later : (xs more : List ℕ) (us : List A) (t : A) → ComesFrom A group xs us t → ComesFrom A group (xs ++ more) us t
  comes_later xs more us t c = record { append = c.append; is_one = in_left c.append xs more c.is_one; front = c.front; back = c.back; items = c.items; number = c.number }

  -- one more copy
  pub one_more : (l a : ℕ) (xs ys : List ℕ) → IsLoad l → shows l ≡ xs ++ a ∷ ys →
      ((m : ℕ) → IsLoad m → load_gen m < load_gen l → PassedAll (shows m)) → PassedAll xs × GaplessAll xs → PassedAll (xs ++ a ∷ []) × GaplessAll (xs ++ a ∷ [])
  unfolding along Gapless
  one_more l a xs ys is_load e lower passed =
      let line : List A = along A group gen [] xs in
      let is : along A group gen [] (xs ++ a ∷ []) ≡ taken line (group a) = along-append A group gen xs (a ∷ []) [] in
      let by_gap : (group a).first ≤ suc (length line) → GaplessAll (xs ++ a ∷ []) = λ (low : (group a).first ≤ suc (length line)). gapless-append A group gen xs (a ∷ []) [] passed.1 (low, tt) in
      ⊎_elim {C = PassedAll (xs ++ a ∷ []) × GaplessAll (xs ++ a ∷ [])}
      (λ (again : In a xs).
      let stands : StandsIn line (group a) = passed.0.each a again in
      let same : line ≡ along A group gen [] (xs ++ a ∷ []) = sym (is ∙ taken_again line (group a) stands) in
      let w : next_after (group a) ≤ suc (length line) = stands_within line (group a) stands in
      let kept : Passed A group line (xs ++ a ∷ []) = record {
        each = λ b m. ⊎_elim {C = StandsIn line (group b)} (λ i. passed.0.each b i)
            (λ i. ⊎_elim {C = StandsIn line (group b)} (λ (eq : b ≡ a). subst (λ z. StandsIn line (group z)) (sym eq) stands) (λ no. absurd no) i)
            (in_cases b xs (a ∷ []) m);
        top = ⊎_elim {C = (length line ≡ 0) ⊎ ((f : ℕ) × In f (xs ++ a ∷ []) × (next_after (group f) ≡ suc (length line)))} (λ z. inl z) (λ t. inr (t.0, in_left t.0 xs (a ∷ []) t.1, t.2)) passed.0.top;
        comes_from = λ us vs t q. comes_later xs (a ∷ []) us t (passed.0.comes_from us vs t q);
      } in
      (subst (λ z. Passed A group z (xs ++ a ∷ [])) same kept, by_gap (omega arith)))
      (λ (new : In a xs → ⊥).
      let next : (group a).first ≡ suc (length line) = has_next l a xs ys is_load e new lower passed.0 in
      let is_new : line ++ (group a).items ≡ along A group gen [] (xs ++ a ∷ []) = sym (is ∙ taken_next line (group a) next) in
      let len : length (line ++ (group a).items) ≡ length line + length (group a).items = length-append line (group a).items in
      let kept : Passed A group (line ++ (group a).items) (xs ++ a ∷ []) = record {
        each = λ b m. ⊎_elim {C = StandsIn (line ++ (group a).items) (group b)} (λ i. stands_longer line (group a).items (group b) (passed.0.each b i))
            (λ i. ⊎_elim {C = StandsIn (line ++ (group a).items) (group b)} (λ (eq : b ≡ a). subst (λ z. StandsIn (line ++ (group a).items) (group z)) (sym eq) (stands_at_end line (group a) next)) (λ no. absurd no) i)
            (in_cases b xs (a ∷ []) m);
        top = inr (a, in_middle a xs [], omega arith);
        comes_from = λ us vs t q.
            ⊎_elim {C = ComesFrom A group (xs ++ a ∷ []) us t}
            (λ (s : (more : List A) × (line ≡ us ++ t ∷ more)). comes_later xs (a ∷ []) us t (passed.0.comes_from us s.0 t s.1))
            (λ (s : (between : List A) × (us ≡ line ++ between) × ((group a).items ≡ between ++ t ∷ vs)).
            let len' : length us ≡ length line + length s.0 = ap length s.1 ∙ length-append line s.0 in
            record { append = a; is_one = in_middle a xs []; front = s.0; back = vs; items = s.2; number = omega arith })
            (split_at t us vs line (group a).items (sym q));
      } in
      (subst (λ z. Passed A group z (xs ++ a ∷ [])) is_new kept, by_gap (omega arith)))
      (in_or_not a xs)

  pub walk : (ys : List ℕ) (l : ℕ) (xs : List ℕ) → IsLoad l → shows l ≡ xs ++ ys →
      ((m : ℕ) → IsLoad m → load_gen m < load_gen l → PassedAll (shows m)) → PassedAll xs × GaplessAll xs → PassedAll (xs ++ ys) × GaplessAll (xs ++ ys)
  walk [] l xs is_load e lower passed = subst (λ z. PassedAll z × GaplessAll z) (sym (append-nil xs)) passed
  walk (a ∷ ys) l xs is_load e lower passed =
      let again : shows l ≡ (xs ++ a ∷ []) ++ ys = e ∙ sym (append_assoc xs (a ∷ []) ys) in
      subst (λ z. PassedAll z × GaplessAll z) (append_assoc xs (a ∷ []) ys)
      (walk ys l (xs ++ a ∷ []) is_load again lower (one_more l a xs ys is_load e lower passed))

  pub shown_up_to : (n l : ℕ) → load_gen l < n → IsLoad l → PassedAll (shows l) × GaplessAll (shows l)
  unfolding along Gapless
  shown_up_to zero l h is_load = absurd (omega arith)
  shown_up_to (suc n) l h is_load =
      walk (shows l) l [] is_load refl
      (λ m is_m less. let k : load_gen m < n = omega arith in (shown_up_to n m k is_m).0)
      (record { each = λ a no. absurd no; top = inl refl; comes_from = λ us vs t q. absurd (nothing_there us vs t q) }, tt)

  front_walk : (ys : List ℕ) (l : ℕ) (xs zs : List ℕ) → IsLoad l → shows l ≡ (xs ++ ys) ++ zs → PassedAll xs × GaplessAll xs → PassedAll (xs ++ ys) × GaplessAll (xs ++ ys)
  front_walk [] l xs zs is_load e passed = subst (λ z. PassedAll z × GaplessAll z) (sym (append-nil xs)) passed
  front_walk (a ∷ ys) l xs zs is_load e passed =
      let at : shows l ≡ xs ++ a ∷ (ys ++ zs) = e ∙ append_assoc xs (a ∷ ys) zs in
      let again : shows l ≡ ((xs ++ a ∷ []) ++ ys) ++ zs = e ∙ ap (λ z. z ++ zs) (sym (append_assoc xs (a ∷ []) ys)) in
      subst (λ z. PassedAll z × GaplessAll z) (append_assoc xs (a ∷ []) ys)
      (front_walk ys l (xs ++ a ∷ []) zs is_load again (one_more l a xs (ys ++ zs) is_load at (λ m is_m less. (shown_up_to (load_gen l) m less is_m).0) passed))

  -- an append before the copy of another, if it is no later one of its generation, ends no later
  ends_below : (l a f : ℕ) (xs ys : List ℕ) → IsLoad l → shows l ≡ xs ++ a ∷ ys → In f xs → ((g : ℕ) → In g xs → gen g ≡ gen a → a < g → ⊥) → next_after (group f) ≤ next_after (group a)
  ends_below l a f xs ys is_load e m none_later =
      let a_here : In a (shows l) = subst (In a) (sym e) (in_middle a xs ys) in
      let a_made : IsMade a = rules.made l a is_load a_here in
      let f_made : IsMade f = rules.made l f is_load (subst (In f) (sym e) (in_left f xs (a ∷ ys) m)) in
      let low : gen a < load_gen l = rules.below l a is_load a_here in
      let h : IsLoad (home a) × (load_gen (home a) ≡ gen a) = rules.home_load a a_made in
      let same : load_gen (home a) ≡ gen a = h.1 in
      let less : load_gen (home a) < load_gen l = omega arith in
      let after : suc (length (line_of_load (home a))) ≤ (group a).first = rules.after_home a a_made in
      let own : (between : List ℕ) × (xs ≡ shows (home a) ++ between) × ((b : ℕ) → In b between → gen a ≤ gen b) = after_own_load l a xs ys is_load e h in
      let order : gen f ≤ gen a = never_back l a f xs ys is_load e m in
      ⊎_elim {C = next_after (group f) ≤ next_after (group a)}
      (λ (lt : gen f < gen a).
      ⊎_elim {C = next_after (group f) ≤ next_after (group a)}
      (λ i.
      let w : next_after (group f) ≤ suc (length (line_of_load (home a))) = stands_within (line_of_load (home a)) (group f) ((shown_up_to (load_gen l) (home a) less h.0).0.each f i) in
      omega arith)
      (λ i. let k : gen a ≤ gen f = own.2 f i in absurd (omega arith))
      (in_cases f (shows (home a)) own.0 (subst (In f) own.1 m)))
      (λ (ge : gen a ≤ gen f).
      let eq : gen f ≡ gen a = omega arith in
      ⊎_elim {C = next_after (group f) ≤ next_after (group a)}
      (λ (af : a < f). absurd (none_later f m eq af))
      (λ (fa : f ≤ a).
      ⊎_elim {C = next_after (group f) ≤ next_after (group a)}
      (λ (q : f ≡ a). subst (λ z. next_after (group z) ≤ next_after (group a)) (sym q) (omega arith))
      (λ (q : f ≡ a → ⊥).
      let lt : f < a = omega arith in
      let w : next_after (group f) ≤ (group a).first = rules.in_turn f a f_made a_made eq lt in
      omega arith)
      (cases_eq f a))
      (cases_lt a f))
      (cases_lt (gen f) (gen a))

  -- THE THEOREM: each group that a load shows stands in the load's line at its numbers, and replay never meets a number above the next
  pub shown_in_line : (l a : ℕ) → IsLoad l → In a (shows l) → StandsIn (line_of_load l) (group a)
  shown_in_line l a is_load m = (shown_up_to (suc (load_gen l)) l (omega arith) is_load).0.each a m

  pub never_above : (l : ℕ) → IsLoad l → GaplessAll (shows l)
  never_above l is_load = (shown_up_to (suc (load_gen l)) l (omega arith) is_load).1

  -- the line of a lower generation begins that of a higher one
  pub lines_in_order : (l m : ℕ) → IsLoad l → IsLoad m → load_gen l < load_gen m → (more : List A) × (line_of_load l ++ more ≡ line_of_load m)
  lines_in_order l m is_l is_m less =
      let b : (rest : List ℕ) × (shows m ≡ shows l ++ rest) × ((a : ℕ) → In a rest → load_gen l ≤ gen a) = rules.begins l m is_l is_m less in
      let g : (more : List A) × (along A group gen (line_of_load l) b.0 ≡ line_of_load l ++ more) = along_grows A group gen b.0 (line_of_load l) in
      (g.0, sym (ap (along A group gen []) b.1 ∙ along-append A group gen (shows l) b.0 [] ∙ g.1))

  -- each of a load's line comes from a group that it shows
  pub line_from_shown : (l : ℕ) → IsLoad l → (us vs : List A) (t : A) → line_of_load l ≡ us ++ t ∷ vs → ComesFrom A group (shows l) us t
  line_from_shown l is_load = (shown_up_to (suc (load_gen l)) l (omega arith) is_load).0.comes_from

  -- what any front of a load's list leaves is known, too
  pub front_passed : (l : ℕ) (xs ys : List ℕ) → IsLoad l → shows l ≡ xs ++ ys → PassedAll xs
  unfolding along Gapless
  front_passed l xs ys is_load e =
      (front_walk xs l [] ys is_load e (record { each = λ a no. absurd no; top = inl refl; comes_from = λ us vs t q. absurd (nothing_there us vs t q) }, tt)).0

  -- A position after a copy of an append, before which no later group of its generation stands: what stands before the position leaves the line up to that group's end.
  pub line_at_position : (l a : ℕ) (xs ys : List ℕ) → IsLoad l → shows l ≡ xs ++ a ∷ ys →
      ((f : ℕ) → In f xs → gen f ≡ gen a → a < f → ⊥) → suc (length (along A group gen [] (xs ++ a ∷ []))) ≡ next_after (group a)
  line_at_position l a xs ys is_load e none_later =
      let here : shows l ≡ (xs ++ a ∷ []) ++ ys = e ∙ sym (append_assoc xs (a ∷ []) ys) in
      let p : PassedAll (xs ++ a ∷ []) = front_passed l (xs ++ a ∷ []) ys is_load here in
      let line : List A = along A group gen [] (xs ++ a ∷ []) in
      let in_line : next_after (group a) ≤ suc (length line) = stands_within line (group a) (p.each a (in_middle a xs [])) in
      let upper : suc (length line) ≤ next_after (group a) =
      ⊎_elim {C = suc (length line) ≤ next_after (group a)}
      (λ (z : length line ≡ 0).
      let a_made : IsMade a = rules.made l a is_load (subst (In a) (sym e) (in_middle a xs ys)) in
      let h : suc (length (line_of_load (home a))) ≤ (group a).first = rules.after_home a a_made in omega arith)
      (λ (t : (f : ℕ) × In f (xs ++ a ∷ []) × (next_after (group f) ≡ suc (length line))).
      let n : next_after (group t.0) ≡ suc (length line) = t.2 in
      let w : next_after (group t.0) ≤ next_after (group a) =
      ⊎_elim {C = next_after (group t.0) ≤ next_after (group a)} (λ i. ends_below l a t.0 xs ys is_load e i none_later)
      (λ i. ⊎_elim {C = next_after (group t.0) ≤ next_after (group a)} (λ (q : t.0 ≡ a). subst (λ z. next_after (group z) ≤ next_after (group a)) (sym q) (omega arith)) (λ no. absurd no) i)
      (in_cases t.0 xs (a ∷ []) t.1) in
      omega arith)
      p.top in
      omega arith
