-- The line that a generation has come to: the one of its load, and each group that was answered since, in turn.
use Rattle.std.proofs.Common.{◌≡◌, ℕ, suc, ◌+◌, ◌-◌, ◌<◌, ◌≤◌, List, [], ◌∷◌, ◌++◌, length, Bool, true, false, cond, Option, Some, None, refl, sym, ap, ◌∙◌, subst, inl, inr, ◌⊎◌, ⊎_elim, arith, append_assoc, length-append, eqb}
use Rattle.std.specs.Prelude.{slice_get}
use Rattle.std.proofs.lemmas.List.{append-nil}
use Rattle.std.proofs.lemmas.Bool.{cases_eq}
use Rattle.wire.specs.declared.note.Note.TheVariants.{Done}
use Rattle.wire.specs.declared.rows.Row.{Row}
use Rattle.commitlog.specs.Replay.{Numbered as Group}
use Rattle.model_partition.specs.Lines.{StandsIn}
use Rattle.model_partition.specs.Past.{Transaction, IsMember, IsPrefixOf}
use Rattle.model_histories.specs.Log.{line_shown, dones_of, dones_at}
use Rattle.model_histories.specs.ServedTables.{items_under, line_to}
use Rattle.model_histories.specs.Story.{StreamEvent, Made, Answered, Showed, event_at}
use Rattle.model_histories.specs.StreamMachine.{In}
use Rattle.laws_tables.specs.Through.{IsTail}
use Rattle.laws_tables.specs.WholeStories.{IsServed, notes, observed}
use Rattle.laws_tables.proofs.Holds.{LogStory}
use Rattle.laws_tables.proofs.Lines.{split_at, stands_longer, stands_at_end}
use Rattle.laws_tables.proofs.Members.{in_left, in_right}
use Rattle.laws_tables.proofs.Observed.{member_split_at, get_split, DoneAt}
use Rattle.laws_tables.proofs.Range.{IsMadeAt, Origin, older, newest, event_cases, eq_test, ne_test, answered_made, kept_by_servers}
use Rattle.laws_tables.proofs.StoryFamilies.{load_line}
use Rattle.laws_tables.proofs.Through.{same_front, tail_event}

-- each answer is for the group that comes next behind the line so far
abbrev pub AnswersNext : LogStory → Type 0
AnswersNext [] = Unit {0}
AnswersNext (Made g group ∷ earlier) = AnswersNext earlier
AnswersNext (Answered a from to ∷ earlier) =
    ((g : ℕ) (group : Group Transaction) → IsMadeAt Transaction earlier a g group → group.first ≡ suc (length (line_to earlier g))) × AnswersNext earlier
AnswersNext (Showed g start end groups ∷ earlier) = AnswersNext earlier

pub next_tail : (later tail : LogStory) → AnswersNext (later ++ tail) → AnswersNext tail
next_tail [] tail n = n
next_tail (Made g group ∷ later) tail n = next_tail later tail n
next_tail (Answered a from to ∷ later) tail n = next_tail later tail n.1
next_tail (Showed g start end groups ∷ later) tail n = next_tail later tail n

-- what an answer adds to the line of a generation: nothing, or the group that it is for
abbrev Adds : ℕ → Option (StreamEvent (Group Transaction)) → Type 0
Adds g o = (items_under g o ≡ []) ⊎ ((group : Group Transaction) × (o ≡ Some (Made g group)) × (items_under g o ≡ group.items))

adds : (g : ℕ) (o : Option (StreamEvent (Group Transaction))) → Adds g o
adds g None = inl refl
adds g (Some (Made g' group)) =
    ⊎_elim {C = Adds g (Some (Made g' group))}
    (λ (q : g ≡ g').
    let here : items_under g (Some (Made g' group)) ≡ group.items =
    subst (λ z. items_under g (Some (Made z group)) ≡ group.items) q (ap (λ b. cond b group.items []) (eq_test Transaction g)) in
    inr (group, ap (λ z. Some (Made z group)) (sym q), here))
    (λ (q : g ≡ g' → ⊥). inl (ap (λ b. cond b group.items []) (ne_test Transaction g g' q)))
    (cases_eq g g')
adds g (Some (Answered a from to)) = inl refl
adds g (Some (Showed g' start end groups)) = inl refl

-- ---- it grows

-- the load's line begins it
pub line_grows : (story : LogStory) (g : ℕ) → IsPrefixOf (load_line story g) (line_to story g)
line_grows [] g = ([], refl)
line_grows (Made g' group ∷ earlier) g = line_grows earlier g
line_grows (Answered a from to ∷ earlier) g =
    let r : IsPrefixOf (load_line earlier g) (line_to earlier g) = line_grows earlier g in
    (r.0 ++ items_under g (event_at earlier a), sym (append_assoc (load_line earlier g) r.0 (items_under g (event_at earlier a))) ∙ ap (λ z. z ++ items_under g (event_at earlier a)) r.1)
line_grows (Showed g' start end groups ∷ earlier) g = go (eqb g g') (line_grows earlier g)
  where
    go : (b : Bool) → IsPrefixOf (load_line earlier g) (line_to earlier g) → IsPrefixOf (cond b (line_shown groups) (load_line earlier g)) (cond b (line_shown groups) (line_to earlier g))
    go true r = ([], append-nil (line_shown groups))
    go false r = r

-- It begins each line that the load's line begins and in which each of its groups stands that was answered.
pub line_begins : (story : LogStory) → AnswersNext story → (g : ℕ) (longer : List Transaction) → IsPrefixOf (load_line story g) longer →
    ((a k from to : ℕ) (group : Group Transaction) → IsMadeAt Transaction story a g group → event_at story k ≡ Some (Answered a from to) → StandsIn longer group) →
    IsPrefixOf (line_to story g) longer
line_begins [] next g longer p stands = p
line_begins (Made g' new ∷ earlier) next g longer p stands =
    line_begins earlier next g longer p
    (λ a k from to group m n. stands a k from to group (older (Group Transaction) (Made g' new) earlier a (Made g group) m) (older (Group Transaction) (Made g' new) earlier k (Answered a from to) n))
line_begins (Answered x from to ∷ earlier) next g longer p stands =
    let r : IsPrefixOf (line_to earlier g) longer = line_begins earlier next.1 g longer p
    (λ a k f t group m n. stands a k f t group (older (Group Transaction) (Answered x from to) earlier a (Made g group) m) (older (Group Transaction) (Answered x from to) earlier k (Answered a f t) n)) in
    elim (adds g (event_at earlier x)) as (λ z. IsPrefixOf (line_to earlier g ++ items_under g (event_at earlier x)) longer) [
      | inl none ↦ subst (λ z. IsPrefixOf z longer) (sym (ap (λ z. line_to earlier g ++ z) none ∙ append-nil (line_to earlier g))) r
      | inr b ↦
          let st : StandsIn longer b.0 = stands x (length earlier) from to b.0 (older (Group Transaction) (Answered x from to) earlier x (Made g b.0) b.1) (newest (Group Transaction) (Answered x from to) earlier) in
          let first : (b.0).first ≡ suc (length (line_to earlier g)) = next.0 g b.0 b.1 in
          let at : suc (length st.before) ≡ (b.0).first = st.at in
          let len : length (line_to earlier g) ≡ length st.before = omega arith in
          let front : line_to earlier g ++ ((b.0).items ++ st.after) ≡ line_to earlier g ++ r.0 = same_front Transaction (line_to earlier g) st.before r.0 (b.0).items st.after (r.1 ∙ st.is) len in
          subst (λ z. IsPrefixOf (line_to earlier g ++ z) longer) (sym b.2) (st.after, append_assoc (line_to earlier g) (b.0).items st.after ∙ front ∙ r.1)
    ]
line_begins (Showed g' start end groups ∷ earlier) next g longer p stands =
    go (eqb g g') p
    (λ old. line_begins earlier next g longer old
    (λ a k f t group m n. stands a k f t group (older (Group Transaction) (Showed g' start end groups) earlier a (Made g group) m) (older (Group Transaction) (Showed g' start end groups) earlier k (Answered a f t) n)))
  where
    go : (b : Bool) → IsPrefixOf (cond b (line_shown groups) (load_line earlier g)) longer → (IsPrefixOf (load_line earlier g) longer → IsPrefixOf (line_to earlier g) longer) →
        IsPrefixOf (cond b (line_shown groups) (line_to earlier g)) longer
    go true q rest = q
    go false q rest = rest q

-- ---- what was answered stands in it

-- an answer is for a group that was made before
answer_made : (story : LogStory) → IsServed story → (k a from to : ℕ) → event_at story k ≡ Some (Answered a from to) → (g : ℕ) × (group : Group Transaction) × IsMadeAt Transaction story a g group
answer_made [] served k a from to is = absurd (cc)
answer_made (Made g' new ∷ earlier) served k a from to is =
    elim (event_cases (Group Transaction) (Made g' new) earlier k (Answered a from to) is) as (λ z. (g : ℕ) × (group : Group Transaction) × IsMadeAt Transaction (Made g' new ∷ earlier) a g group) [
      | inl q ↦ absurd (let no : Made g' new ≡ Answered a from to = q.1 in cc)
      | inr o ↦
          let r : (g : ℕ) × (group : Group Transaction) × IsMadeAt Transaction earlier a g group = answer_made earlier served.1 k a from to o in
          (r.0, r.1, older (Group Transaction) (Made g' new) earlier a (Made r.0 r.1) r.2)
    ]
answer_made (Answered x f t ∷ earlier) served k a from to is =
    elim (event_cases (Group Transaction) (Answered x f t) earlier k (Answered a from to) is) as (λ z. (g : ℕ) × (group : Group Transaction) × IsMadeAt Transaction (Answered x f t ∷ earlier) a g group) [
      | inl q ↦
          let all : Answered x f t ≡ Answered a from to = q.1 in
          let same : x ≡ a = cc in
          ((served.0).0, (served.0).1, older (Group Transaction) (Answered x f t) earlier a (Made (served.0).0 (served.0).1) (subst (λ z. IsMadeAt Transaction earlier z (served.0).0 (served.0).1) same (served.0).2))
      | inr o ↦
          let r : (g : ℕ) × (group : Group Transaction) × IsMadeAt Transaction earlier a g group = answer_made earlier served.1 k a from to o in
          (r.0, r.1, older (Group Transaction) (Answered x f t) earlier a (Made r.0 r.1) r.2)
    ]
answer_made (Showed g' s e xs ∷ earlier) served k a from to is =
    elim (event_cases (Group Transaction) (Showed g' s e xs) earlier k (Answered a from to) is) as (λ z. (g : ℕ) × (group : Group Transaction) × IsMadeAt Transaction (Showed g' s e xs ∷ earlier) a g group) [
      | inl q ↦ absurd (let no : Showed g' s e xs ≡ Answered a from to = q.1 in cc)
      | inr o ↦
          let r : (g : ℕ) × (group : Group Transaction) × IsMadeAt Transaction earlier a g group = answer_made earlier served.1 k a from to o in
          (r.0, r.1, older (Group Transaction) (Showed g' s e xs) earlier a (Made r.0 r.1) r.2)
    ]

-- where the answer came earlier, the group was made earlier
made_earlier : (e : StreamEvent (Group Transaction)) (earlier : LogStory) → IsServed earlier → (a k g from to : ℕ) (group : Group Transaction) → IsMadeAt Transaction (e ∷ earlier) a g group →
    event_at earlier k ≡ Some (Answered a from to) → IsMadeAt Transaction earlier a g group
made_earlier e earlier served a k g from to group made is =
    let r : (g : ℕ) × (group : Group Transaction) × IsMadeAt Transaction earlier a g group = answer_made earlier served k a from to is in
    r.2 ∙ sym (older (Group Transaction) e earlier a (Made r.0 r.1) r.2) ∙ made

pub line_has : (story : LogStory) → IsServed story → AnswersNext story → (a k g from to : ℕ) (group : Group Transaction) → IsMadeAt Transaction story a g group →
    event_at story k ≡ Some (Answered a from to) → StandsIn (line_to story g) group
line_has [] served next a k g from to group made is = absurd (cc)
line_has (Made g' new ∷ earlier) served next a k g from to group made is =
    elim (event_cases (Group Transaction) (Made g' new) earlier k (Answered a from to) is) as (λ z. StandsIn (line_to earlier g) group) [
      | inl q ↦ absurd (let no : Made g' new ≡ Answered a from to = q.1 in cc)
      | inr o ↦ line_has earlier served.1 next a k g from to group (made_earlier (Made g' new) earlier served.1 a k g from to group made o) o
    ]
line_has (Answered x f t ∷ earlier) served next a k g from to group made is =
    let here : IsMadeAt Transaction earlier a g group = answered_made Transaction x f t earlier a g group made in
    elim (event_cases (Group Transaction) (Answered x f t) earlier k (Answered a from to) is) as (λ z. StandsIn (line_to earlier g ++ items_under g (event_at earlier x)) group) [
      | inl q ↦
          let all : Answered x f t ≡ Answered a from to = q.1 in
          let same : x ≡ a = cc in
          let there : IsMadeAt Transaction earlier x g group = subst (λ z. IsMadeAt Transaction earlier z g group) (sym same) here in
          let items : items_under g (event_at earlier x) ≡ group.items = ap (items_under g) there ∙ ap (λ b. cond b group.items []) (eq_test Transaction g) in
          subst (λ z. StandsIn (line_to earlier g ++ z) group) (sym items) (stands_at_end (line_to earlier g) group (next.0 g group there))
      | inr o ↦ stands_longer (line_to earlier g) (items_under g (event_at earlier x)) group (line_has earlier served.1 next.1 a k g from to group here o)
    ]
line_has (Showed g' s e xs ∷ earlier) served next a k g from to group made is =
    elim (event_cases (Group Transaction) (Showed g' s e xs) earlier k (Answered a from to) is) as (λ z. StandsIn (line_to (Showed g' s e xs ∷ earlier) g) group) [
      | inl q ↦ absurd (let no : Showed g' s e xs ≡ Answered a from to = q.1 in cc)
      | inr o ↦
          let here : IsMadeAt Transaction earlier a g group = made_earlier (Showed g' s e xs) earlier served.1 a k g from to group made o in
          let load : Origin Transaction earlier a g group = (kept_by_servers Transaction earlier served.1).origin a g group here in
          let other : g ≡ g' → ⊥ = λ (same : g ≡ g'). (served.0).1 load.load load.start load.end load.groups
          (subst (λ z. event_at earlier load.load ≡ Some (Showed z load.start load.end load.groups)) same load.is) in
          subst (λ z. StandsIn z group) (sym (ap (λ b. cond b (line_shown xs) (line_to earlier g)) (ne_test Transaction g g' other)))
          (line_has earlier served.1 next a k g from to group here o)
    ]

-- ---- its members

-- a member of two lines joined is one of the first, or stands in the second
member_apart : (xs ys : List Transaction) (s : ℕ) (t : Transaction) → IsMember (xs ++ ys) s t →
    IsMember xs s t ⊎ ((front : List Transaction) × (back : List Transaction) × (ys ≡ front ++ t ∷ back) × (s ≡ suc (length xs) + length front))
member_apart xs ys s t m =
    let sp : (us : List Transaction) × (vs : List Transaction) × (xs ++ ys ≡ us ++ t ∷ vs) × (length us ≡ s - 1) = member_split_at (xs ++ ys) (s - 1) t m.1 in
    let at : length sp.0 ≡ s - 1 = sp.3 in
    let one : 1 ≤ s = m.0 in
    elim (split_at t sp.0 sp.1 xs ys (sym sp.2)) as (λ z. IsMember xs s t ⊎ ((front : List Transaction) × (back : List Transaction) × (ys ≡ front ++ t ∷ back) × (s ≡ suc (length xs) + length front))) [
      | inl a ↦ inl (m.0, ap (λ z. slice_get z (s - 1)) a.1 ∙ ap (λ n. slice_get (sp.0 ++ t ∷ a.0) n) (sym sp.3) ∙ get_split sp.0 a.0 t)
      | inr b ↦
          let len : length sp.0 ≡ length xs + length b.0 = ap length b.1 ∙ length-append xs b.0 in
          inr (b.0, sp.1, b.2, omega arith)
    ]

member_within : (line : List Transaction) (s : ℕ) (t : Transaction) → IsMember line s t → s ≤ length line
member_within line s t m =
    let sp : (us : List Transaction) × (vs : List Transaction) × (line ≡ us ++ t ∷ vs) × (length us ≡ s - 1) = member_split_at line (s - 1) t m.1 in
    let at : length sp.0 ≡ s - 1 = sp.3 in
    let one : 1 ≤ s = m.0 in
    let len : length line ≡ length sp.0 + suc (length sp.1) = ap length sp.2 ∙ length-append sp.0 (t ∷ sp.1) in
    omega arith

done_there : (r g s : ℕ) (front back : List Transaction) (t : Transaction) → In (Done r g (s + length front)) (dones_of r g s (front ++ t ∷ back))
done_there r g s [] back t = inl (ap (λ n. Done r g n) (let e : s + 0 ≡ s = omega arith in e))
done_there r g s (x ∷ front) back t =
    let e : suc s + length front ≡ s + suc (length front) = omega arith in
    inr (subst (λ n. In (Done r g n) (dones_of r g (suc s) (front ++ t ∷ back))) e (done_there r g (suc s) front back t))

-- what was acknowledged in a tail was acknowledged in the story
abbrev pub done_of_tail : (r : ℕ) (rows : ℕ → List Row) (tail story : LogStory) → IsTail tail story → (g s : ℕ) → DoneAt r rows tail r g s → DoneAt r rows story r g s
done_of_tail r rows tail story is g s d = record {
  append = d.append;
  answer = d.answer;
  from = d.from;
  to = d.to;
  group = d.group;
  front = d.front;
  t = d.t;
  back = d.back;
  range_is = d.range_is;
  made = tail_event Transaction tail story is d.append (Made g d.group) d.made;
  answered = tail_event Transaction tail story is d.answer (Answered d.append d.from d.to) d.answered;
  items = d.items;
  number = d.number;
}

-- a member behind the load's line began under the generation, and its answer was observed
pub record MemberAt (r : ℕ) (rows : ℕ → List Row) (story : LogStory) (g s : ℕ) (t : Transaction) : Type 0 where
  pub at : DoneAt r rows story r g s
  pub is : at.t ≡ t
  pub told : In (Done r g s) (observed r rows story)

member_later : (r : ℕ) (rows : ℕ → List Row) (e : StreamEvent (Group Transaction)) (earlier : LogStory) (g s : ℕ) (t : Transaction) → MemberAt r rows earlier g s t → MemberAt r rows (e ∷ earlier) g s t
member_later r rows e earlier g s t m = record {
  at = done_of_tail r rows earlier (e ∷ earlier) (e ∷ [], refl) g s m.at;
  is = m.is;
  told = in_left (Done r g s) (observed r rows earlier) (notes r rows earlier e) m.told;
}

member_answered : (r : ℕ) (rows : ℕ → List Row) (x from to : ℕ) (earlier : LogStory) (g s : ℕ) (t : Transaction) (group : Group Transaction) (front back : List Transaction) →
    IsMadeAt Transaction earlier x g group → group.items ≡ front ++ t ∷ back → s ≡ group.first + length front → MemberAt r rows (Answered x from to ∷ earlier) g s t
member_answered r rows x from to earlier g s t group front back made items number = record {
  at = record {
    append = x;
    answer = length earlier;
    from = from;
    to = to;
    group = group;
    front = front;
    t = t;
    back = back;
    range_is = refl;
    made = older (Group Transaction) (Answered x from to) earlier x (Made g group) made;
    answered = newest (Group Transaction) (Answered x from to) earlier;
    items = items;
    number = number;
  };
  is = refl;
  told = in_right (Done r g s) (observed r rows earlier) (dones_at r (event_at earlier x))
      (subst (λ o. In (Done r g s) (dones_at r o)) (sym made)
      (subst (λ n. In (Done r g n) (dones_of r g group.first group.items)) (sym number)
      (subst (λ z. In (Done r g (group.first + length front)) (dones_of r g group.first z)) (sym items) (done_there r g group.first front back t))));
}

pub line_member : (r : ℕ) (rows : ℕ → List Row) (story : LogStory) → AnswersNext story → (g s : ℕ) (t : Transaction) → IsMember (line_to story g) s t → length (load_line story g) < s → MemberAt r rows story g s t
line_member r rows [] next g s t m low = absurd (let none : slice_get [] (s - 1) ≡ Some t = m.1 in cc)
line_member r rows (Made g' new ∷ earlier) next g s t m low = member_later r rows (Made g' new) earlier g s t (line_member r rows earlier next g s t m low)
line_member r rows (Answered x from to ∷ earlier) next g s t m low =
    let old : IsMember (line_to earlier g) s t → MemberAt r rows (Answered x from to ∷ earlier) g s t = λ i. member_later r rows (Answered x from to) earlier g s t (line_member r rows earlier next.1 g s t i low) in
    elim (adds g (event_at earlier x)) as (λ z. MemberAt r rows (Answered x from to ∷ earlier) g s t) [
      | inl none ↦ old (subst (λ z. IsMember z s t) (ap (λ z. line_to earlier g ++ z) none ∙ append-nil (line_to earlier g)) m)
      | inr b ↦ elim (member_apart (line_to earlier g) (b.0).items s t (subst (λ z. IsMember (line_to earlier g ++ z) s t) b.2 m)) as (λ z. MemberAt r rows (Answered x from to ∷ earlier) g s t) [
        | inl i ↦ old i
        | inr n ↦
            let first : (b.0).first ≡ suc (length (line_to earlier g)) = next.0 g b.0 b.1 in
            member_answered r rows x from to earlier g s t b.0 n.0 n.1 b.1 n.2 (n.3 ∙ ap (λ z. z + length n.0) (sym first))
      ]
    ]
line_member r rows (Showed g' start end groups ∷ earlier) next g s t m low =
    go (eqb g g') m low (λ i k. member_later r rows (Showed g' start end groups) earlier g s t (line_member r rows earlier next g s t i k))
  where
    go : (b : Bool) → IsMember (cond b (line_shown groups) (line_to earlier g)) s t → length (cond b (line_shown groups) (load_line earlier g)) < s →
        (IsMember (line_to earlier g) s t → length (load_line earlier g) < s → MemberAt r rows (Showed g' start end groups ∷ earlier) g s t) → MemberAt r rows (Showed g' start end groups ∷ earlier) g s t
    go true i k rest = let le : s ≤ length (line_shown groups) = member_within (line_shown groups) s t i in absurd (omega arith)
    go false i k rest = rest i k
