-- The law of families over stories of logs that each load reads from the first place: what is observed of them all replays.
use Rattle.std.proofs.Common.{◌≡◌, ℕ, zero, suc, ◌+◌, ◌-◌, ◌<◌, ◌≤◌, List, [], ◌∷◌, ◌++◌, length, true, cond, Some, refl, sym, ap, ◌∙◌, subst, inl, inr, ◌⊎◌, ⊎_elim, arith, append_assoc, length-append, eqb}
use Rattle.std.specs.Prelude.{slice_get}
use Rattle.std.proofs.lemmas.Bool.{cases_eq, cases_lt}
use Rattle.wire.specs.declared.note.Note.{Note}
use Rattle.wire.specs.declared.note.Note.TheVariants.{Began, Done, Loaded}
use Rattle.wire.specs.declared.rows.Row.{Row}
use Rattle.commitlog.specs.Replay.{Numbered as Group}
use Rattle.model_partition.specs.Lines.{StandsIn}
use Rattle.model_histories.specs.Log.{line_shown, is_of, only}
use Rattle.model_partition.specs.Past.{Bytes, Transaction, empty_table, after_line, stored, From_nothing, owners, eldest, kin, keys_of, kept, begun, first_range, AllBegan, IsMember, IsPrefixOf, Begins, Replays}
use Rattle.model_histories.specs.Story.{Placed, StreamEvent, Made, Answered, Showed, event_at, KeepsOrder}
use Rattle.model_histories.specs.StreamMachine.{In}
use Rattle.laws_tables.specs.Families.{HasNoBirth, IsChild, generation_of}
use Rattle.laws_tables.specs.Through.{IsTail, IsLoaded, IsAnswered}
use Rattle.laws_tables.specs.WholeStories.{IsServed, observed}
use Rattle.laws_tables.proofs.Births.{unborn_owners, unborn_eldest, unborn_kin, smaller, child_owners, child_eldest, child_kin, self_owner}
use Rattle.laws_tables.proofs.Holds.{LogStory}
use Rattle.laws_tables.proofs.Lines.{split_at}
use Rattle.laws_tables.proofs.Loads.{ItemFrom, item_from}
use Rattle.laws_tables.proofs.Members.{in_contains, contains_in, in_left, in_right, in_middle, in_cases}
use Rattle.laws_tables.proofs.Observed.{member_split_at, get_split, split_of, begun-append, begun_one, LoadAt, load_at, load_shown, began_in, in_tail, DoneAt, done_at, observed_front, began_as, only-append, only_here, in_only, to_only, begun_only, begun_in}
use Rattle.laws_tables.proofs.Range.{IsMadeAt, IsShownAt, kept_by_servers, bound, eq_test, ne_test, made_shown, answered_shown, shown_cases}
use Rattle.laws_tables.proofs.Through.{tail_event, lines_begin, answered_stands}

-- ---- lists

fronts_of_one : {A : Type 0} (xs ys us vs : List A) → xs ++ ys ≡ us ++ vs → ((m : List A) × (us ≡ xs ++ m)) ⊎ ((m : List A) × (xs ≡ us ++ m))
fronts_of_one [] ys us vs e = inl (us, refl)
fronts_of_one (x ∷ xs) ys [] vs e = inr (x ∷ xs, refl)
fronts_of_one {A} (x ∷ xs) ys (u ∷ us) vs e =
    let h : x ≡ u = cc in
    let t : xs ++ ys ≡ us ++ vs = cc in
    ⊎_elim {C = ((m : List A) × (u ∷ us ≡ (x ∷ xs) ++ m)) ⊎ ((m : List A) × (x ∷ xs ≡ (u ∷ us) ++ m))}
    (λ (m : (m : List A) × (us ≡ xs ++ m)). let k : us ≡ xs ++ m.0 = m.1 in inl (m.0, cc))
    (λ (m : (m : List A) × (xs ≡ us ++ m)). let k : xs ≡ us ++ m.0 = m.1 in inr (m.0, cc))
    (fronts_of_one xs ys us vs t)

-- of two tails of one list the shorter ends the longer
tail_in : {A : Type 0} (us xs vs ys : List A) → us ++ xs ≡ vs ++ ys → length ys ≤ length xs → (m : List A) × (xs ≡ m ++ ys)
tail_in [] xs vs ys e le = (vs, e)
tail_in (u ∷ us) xs [] ys e le =
    let n : suc (length (us ++ xs)) ≡ length ys = ap length e in
    let k : length (us ++ xs) ≡ length us + length xs = length-append us xs in
    absurd (omega arith)
tail_in (u ∷ us) xs (v ∷ vs) ys e le = let t : us ++ xs ≡ vs ++ ys = cc in tail_in us xs vs ys t le

pub member_longer : (line longer : List Transaction) (s : ℕ) (t : Transaction) → IsMember line s t → IsPrefixOf line longer → IsMember longer s t
member_longer line longer s t m p =
    let sp : (us : List Transaction) × (vs : List Transaction) × (line ≡ us ++ t ∷ vs) × (length us ≡ s - 1) = member_split_at line (s - 1) t m.1 in
    let whole : longer ≡ sp.0 ++ t ∷ (sp.1 ++ p.0) = sym p.1 ∙ ap (λ z. z ++ p.0) sp.2 ∙ append_assoc sp.0 (t ∷ sp.1) p.0 in
    (m.0, ap (λ z. slice_get z (s - 1)) whole ∙ ap (λ n. slice_get (sp.0 ++ t ∷ (sp.1 ++ p.0)) n) (sym sp.3) ∙ get_split sp.0 (sp.1 ++ p.0) t)

-- each transaction of a group that stands in a line is a member of it
pub stands_member : (line : List Transaction) (group : Group Transaction) (front back : List Transaction) (t : Transaction) (s : ℕ) → StandsIn line group →
    group.items ≡ front ++ t ∷ back → s ≡ group.first + length front → IsMember line s t
stands_member line group front back t s st items number =
    let at : suc (length st.before) ≡ group.first = st.at in
    let whole : line ≡ (st.before ++ front) ++ t ∷ (back ++ st.after) =
    st.is ∙ ap (λ z. st.before ++ (z ++ st.after)) items ∙ ap (λ z. st.before ++ z) (append_assoc front (t ∷ back) st.after) ∙ sym (append_assoc st.before front (t ∷ (back ++ st.after))) in
    let len : length (st.before ++ front) ≡ length st.before + length front = length-append st.before front in
    let here : length (st.before ++ front) ≡ s - 1 = omega arith in
    (omega arith, ap (λ z. slice_get z (s - 1)) whole ∙ ap (λ n. slice_get ((st.before ++ front) ++ t ∷ (back ++ st.after)) n) (sym here) ∙ get_split (st.before ++ front) (back ++ st.after) t)

-- ---- the line of a generation's load

abbrev pub load_line : LogStory → ℕ → List Transaction
load_line [] g = []
load_line (Made g' group ∷ earlier) g = load_line earlier g
load_line (Answered a from to ∷ earlier) g = load_line earlier g
load_line (Showed g' start end groups ∷ earlier) g = cond (eqb g g') (line_shown groups) (load_line earlier g)

pub load_line_is : (story : LogStory) → IsServed story → (l g s e : ℕ) (xs : List (Placed (Group Transaction))) → IsShownAt Transaction story l g s e xs → load_line story g ≡ line_shown xs
load_line_is [] served l g s e xs is = absurd (cc)
load_line_is (Made g' group ∷ earlier) served l g s e xs is = load_line_is earlier served.1 l g s e xs (made_shown Transaction g' group earlier l g s e xs is)
load_line_is (Answered a from to ∷ earlier) served l g s e xs is = load_line_is earlier served.1 l g s e xs (answered_shown Transaction a from to earlier l g s e xs is)
load_line_is (Showed g' start end groups ∷ earlier) served l g s e xs is =
    ⊎_elim {C = cond (eqb g g') (line_shown groups) (load_line earlier g) ≡ line_shown xs}
    (λ (n : (l ≡ length earlier) × (g' ≡ g) × (groups ≡ xs)).
    subst (λ z. cond (eqb g z) (line_shown groups) (load_line earlier g) ≡ line_shown xs) (sym n.1)
    (ap (λ b. cond b (line_shown groups) (load_line earlier g)) (eq_test Transaction g) ∙ ap line_shown n.2))
    (λ (o : IsShownAt Transaction earlier l g s e xs).
    let differs : g ≡ g' → ⊥ = λ (q : g ≡ g'). served.0.1 l s e xs (subst (λ z. IsShownAt Transaction earlier l z s e xs) q o) in
    ap (λ b. cond b (line_shown groups) (load_line earlier g)) (ne_test Transaction g g' differs) ∙ load_line_is earlier served.1 l g s e xs o)
    (shown_cases Transaction g' start end groups earlier l g s e xs is)

-- a load that is observed stands in the story
pub loaded_in : (r : ℕ) (rows : ℕ → List Row) (story : LogStory) (g : ℕ) (rs : List Row) (nx : ℕ) → In (Loaded r g rs nx) (observed r rows story) → IsLoaded story g
loaded_in r rows story g rs nx i =
    let s : (front : List Note) × (back : List Note) × (observed r rows story ≡ front ++ Loaded r g rs nx ∷ back) = split_of (Loaded r g rs nx) (observed r rows story) i in
    let at : LoadAt r rows story s.0 r g rs nx = load_at r rows story s.0 s.1 r g rs nx s.2 in
    (length at.earlier, at.start, at.end, at.groups, load_shown r rows story s.0 r g rs nx at)

-- ---- families

module _ (h : List Note) (story taken : ℕ → LogStory) (rows : ℕ → ℕ → List Row) where
  pub record IsFirstStory (r : ℕ) : Type 0 where
    pub is : r ≡ first_range
    pub unborn : HasNoBirth r h
    pub nothing : taken r ≡ []

  -- the range's story was taken of its parent's
  pub record HasStoryParent (p r : ℕ) : Type 0 where
    pub child : IsChild h p r
    pub front : IsTail (taken r) (story p)
    pub before : List Note
    pub after : List Note
    pub moment : h ≡ before ++ after
    pub told : observed p (rows p) (taken r) ≡ observed p (rows p) (taken p) ++ only p before
    pub untold : only r before ≡ []
    pub generation : ℕ
    pub loaded : (rs : List Row) × (nx : ℕ) × In (Loaded p generation rs nx) before
    pub answered : (a : ℕ) (group : Group Transaction) → IsMadeAt Transaction (story p) a generation group → IsAnswered (taken r) a
    pub highest : (o : Note) → In o h → is_of p o ≡ true → generation_of o ≤ generation
    pub above : (o : Note) → In o h → is_of r o ≡ true → generation < generation_of o

  pub record StoryFamily : Type 0 where
    pub tail : (r : ℕ) → IsTail (taken r) (story r)
    pub served : (r : ℕ) → IsServed (story r)
    pub order : (r : ℕ) → KeepsOrder (story r)
    pub told : (r : ℕ) → observed r (rows r) (story r) ≡ observed r (rows r) (taken r) ++ only r h
    pub tables : (r l g s e : ℕ) (xs : List (Placed (Group Transaction))) → IsShownAt Transaction (story r) l g s e xs → length (taken r) ≤ l →
        (key : Bytes) → stored (rows r l) key ≡ kept (keys_of h r) (after_line (line_shown xs) empty_table) key
    pub born : (r : ℕ) → (only r h ≡ []) ⊎ (IsFirstStory r ⊎ ((p : ℕ) × HasStoryParent p r))

  module _ (f : StoryFamily) where
    abbrev IsMadeOf : ℕ → Type 0
    IsMadeOf r = IsFirstStory r ⊎ ((p : ℕ) × HasStoryParent p r)

    self : (r : ℕ) → eqb r r ≡ true
    self r = eq_test Transaction r

    -- a range of which anything is told is the first, or has a parent
    pub told_born : (r : ℕ) (o : Note) → is_of r o ≡ true → In o h → IsMadeOf r
    told_born r o is i = elim (f.born r) as (λ x. IsMadeOf r) [
      | inl none ↦ absurd (subst (In o) none (to_only r o h is i))
      | inr b ↦ b
    ]

    pub in_moment : (p r : ℕ) (q : HasStoryParent p r) (o : Note) → In o q.before → In o h
    in_moment p r q o i = subst (In o) (sym q.moment) (in_left o q.before q.after i)

    parent_born : (p r : ℕ) (q : HasStoryParent p r) → IsMadeOf p
    parent_born p r q = told_born p (Loaded p q.generation q.loaded.0 q.loaded.1) (self p) (in_moment p r q (Loaded p q.generation q.loaded.0 q.loaded.1) q.loaded.2)

    pub of_first : (r : ℕ) (a : IsFirstStory r) (r' : ℕ) → In r' (owners h r) → r' ≡ r
    of_first r a r' i = elim (subst (In r') (unborn_owners h r a.unborn) i) as (λ x. r' ≡ r) [ inl e ↦ e | inr never ↦ absurd never ]

    pub of_child : (p r : ℕ) (q : HasStoryParent p r) (r' : ℕ) → In r' (owners h r) → (r' ≡ r) ⊎ In r' (owners h p)
    of_child p r q r' i = subst (In r') (child_owners h p r q.child) i

    to_child : (p r : ℕ) (q : HasStoryParent p r) (r' : ℕ) → In r' (owners h p) → In r' (owners h r)
    to_child p r q r' i = subst (In r') (sym (child_owners h p r q.child)) (inr i)

    -- ---- generations

    -- nothing is told of a range's owners above its highest generation, and of the others all is below
    owners_below : (n p : ℕ) → p < n → (top : ℕ) (rs : List Row) (nx : ℕ) → In (Loaded p top rs nx) h → ((o : Note) → In o h → is_of p o ≡ true → generation_of o ≤ top) →
        (r' : ℕ) → In r' (owners h p) → (o : Note) → In o h → is_of r' o ≡ true → ((r' ≡ p) × (generation_of o ≤ top)) ⊎ (generation_of o < top)
    owners_below zero p lt top rs nx loaded highest r' own o i is = absurd (omega arith)
    owners_below (suc n) p lt top rs nx loaded highest r' own o i is =
        elim (told_born p (Loaded p top rs nx) (self p) loaded) as (λ x. ((r' ≡ p) × (generation_of o ≤ top)) ⊎ (generation_of o < top)) [
          | inl a ↦ let e : r' ≡ p = of_first p a r' own in inl (e, highest o i (subst (λ z. is_of z o ≡ true) e is))
          | inr b ↦ elim (of_child b.0 p b.1 r' own) as (λ x. ((r' ≡ p) × (generation_of o ≤ top)) ⊎ (generation_of o < top)) [
            | inl e ↦ inl (e, highest o i (subst (λ z. is_of z o ≡ true) e is))
            | inr m ↦
                let up : (b.1).generation < top = (b.1).above (Loaded p top rs nx) loaded (self p) in
                let less : b.0 < p = smaller h b.0 p (b.1).child in
                let rest : ((r' ≡ b.0) × (generation_of o ≤ (b.1).generation)) ⊎ (generation_of o < (b.1).generation) =
                owners_below n b.0 (omega arith) (b.1).generation (b.1).loaded.0 (b.1).loaded.1 (in_moment b.0 p b.1 (Loaded b.0 (b.1).generation (b.1).loaded.0 (b.1).loaded.1) (b.1).loaded.2) (b.1).highest r' m o i is in
                inr (elim rest as (λ x. generation_of o < top) [
                  | inl x ↦ let le : generation_of o ≤ (b.1).generation = x.1 in omega arith
                  | inr x ↦ omega arith
                ])
          ]
        ]

    -- of an owner of the parent
    pub below : (p r : ℕ) (q : HasStoryParent p r) (r' : ℕ) → In r' (owners h p) → (o : Note) → In o h → is_of r' o ≡ true →
        ((r' ≡ p) × (generation_of o ≤ q.generation)) ⊎ (generation_of o < q.generation)
    below p r q r' own o i is =
        owners_below (suc p) p (omega arith) q.generation q.loaded.0 q.loaded.1 (in_moment p r q (Loaded p q.generation q.loaded.0 q.loaded.1) q.loaded.2) q.highest r' own o i is

    pub at_most : (p r : ℕ) (q : HasStoryParent p r) (r' : ℕ) → In r' (owners h p) → (o : Note) → In o h → is_of r' o ≡ true → generation_of o ≤ q.generation
    at_most p r q r' own o i is = elim (below p r q r' own o i is) as (λ x. generation_of o ≤ q.generation) [ inl x ↦ x.1 | inr x ↦ omega arith ]

    -- ---- moments

    earlier_moment : (b p r : ℕ) (u : HasStoryParent b p) (q : HasStoryParent p r) (o : Note) → In o u.before → In o q.before
    earlier_moment b p r u q o i = elim (fronts_of_one u.before u.after q.before q.after (sym u.moment ∙ q.moment)) as (λ x. In o q.before) [
      | inl m ↦ subst (In o) (sym m.1) (in_left o u.before m.0 i)
      | inr m ↦
          let load : Note = Loaded p q.generation q.loaded.0 q.loaded.1 in
          let there : In load u.before = subst (In load) (sym m.1) (in_left load q.before m.0 q.loaded.2) in
          absurd (subst (In load) u.untold (to_only p load u.before (self p) there))
    ]

    -- what began in the part that was taken began before the moment, under an owner of the parent
    pub began_before : (n r : ℕ) → r < n → (p : ℕ) (q : HasStoryParent p r) (g s : ℕ) (t : Transaction) → In (Began r g s t) (observed r (rows r) (taken r)) →
        (r' : ℕ) × In r' (owners h p) × In (Began r' g s t) q.before
    began_before zero r lt p q g s t i = absurd (omega arith)
    began_before (suc n) r lt p q g s t i =
        let here : In (Began p g s t) (observed p (rows p) (taken p) ++ only p q.before) = subst (In (Began p g s t)) q.told (began_as r p (rows r) (rows p) (taken r) g s t i) in
        elim (in_cases (Began p g s t) (observed p (rows p) (taken p)) (only p q.before) here) as (λ x. (r' : ℕ) × In r' (owners h p) × In (Began r' g s t) q.before) [
          | inl m ↦ elim (parent_born p r q) as (λ x. (r' : ℕ) × In r' (owners h p) × In (Began r' g s t) q.before) [
            | inl a ↦ absurd (subst (λ z. In (Began p g s t) (observed p (rows p) z)) a.nothing m)
            | inr b ↦
                let less : p < r = smaller h p r q.child in
                let x : (r' : ℕ) × In r' (owners h b.0) × In (Began r' g s t) (b.1).before = began_before n p (omega arith) b.0 b.1 g s t m in
                (x.0, to_child b.0 p b.1 x.0 x.1, earlier_moment b.0 p r b.1 q (Began x.0 g s t) x.2)
          ]
          | inr m ↦ (p, self_owner h p, in_only p (Began p g s t) q.before m)
        ]

    -- ---- loads

    abbrev line : ℕ → ℕ → List Transaction
    line r g = load_line (story r) g

    pub own_load : (r g : ℕ) (rs : List Row) (nx : ℕ) → In (Loaded r g rs nx) h → IsLoaded (story r) g
    own_load r g rs nx i =
        loaded_in r (rows r) (story r) g rs nx
        (subst (In (Loaded r g rs nx)) (sym (f.told r)) (in_right (Loaded r g rs nx) (observed r (rows r) (taken r)) (only r h) (to_only r (Loaded r g rs nx) h (self r) i)))

    -- the load under which the parent was split stands in the part that was taken
    shared_load : (p r : ℕ) (q : HasStoryParent p r) → IsLoaded (taken r) q.generation
    shared_load p r q =
        let load : Note = Loaded p q.generation q.loaded.0 q.loaded.1 in
        loaded_in p (rows p) (taken r) q.generation q.loaded.0 q.loaded.1
        (subst (In load) (sym q.told) (in_right load (observed p (rows p) (taken p)) (only p q.before) (to_only p load q.before (self p) q.loaded.2)))

    shared_line : (p r : ℕ) (q : HasStoryParent p r) → line p q.generation ≡ line r q.generation
    shared_line p r q =
        let l : IsLoaded (taken r) q.generation = shared_load p r q in
        load_line_is (story p) (f.served p) l.0 q.generation l.1 l.2 l.3 (tail_event Transaction (taken r) (story p) q.front l.0 (Showed q.generation l.1 l.2 l.3) l.4)
        ∙ sym (load_line_is (story r) (f.served r) l.0 q.generation l.1 l.2 l.3 (tail_event Transaction (taken r) (story r) (f.tail r) l.0 (Showed q.generation l.1 l.2 l.3) l.4))

    -- of two loads of one story the line of the lower generation begins the other's
    pub rises : (r g g' : ℕ) → IsLoaded (story r) g → IsLoaded (story r) g' → g < g' → IsPrefixOf (line r g) (line r g')
    rises r g g' l m lt =
        let x : (more : List Transaction) × (line_shown l.3 ++ more ≡ line_shown m.3) =
        lines_begin Transaction (story r) (f.served r) (f.order r) l.0 m.0 g g' l.1 l.2 m.1 m.2 l.3 m.3 l.4 m.4 lt in
        (x.0, ap (λ z. z ++ x.0) (load_line_is (story r) (f.served r) l.0 g l.1 l.2 l.3 l.4) ∙ x.1 ∙ sym (load_line_is (story r) (f.served r) m.0 g' m.1 m.2 m.3 m.4))

    -- the line of the load under which the parent was split begins each of the child's
    pub parent_begins : (p r : ℕ) (q : HasStoryParent p r) (g : ℕ) (rs : List Row) (nx : ℕ) → In (Loaded r g rs nx) h → IsPrefixOf (line p q.generation) (line r g)
    parent_begins p r q g rs nx i =
        let l : IsLoaded (taken r) q.generation = shared_load p r q in
        let there : IsLoaded (story r) q.generation = (l.0, l.1, l.2, l.3, tail_event Transaction (taken r) (story r) (f.tail r) l.0 (Showed q.generation l.1 l.2 l.3) l.4) in
        let up : q.generation < g = q.above (Loaded r g rs nx) i (self r) in
        subst (λ z. IsPrefixOf z (line r g)) (sym (shared_line p r q)) (rises r q.generation g there (own_load r g rs nx i) up)

    pub prefix_trans : (xs ys zs : List Transaction) → IsPrefixOf xs ys → IsPrefixOf ys zs → IsPrefixOf xs zs
    prefix_trans xs ys zs p q = (p.0 ++ q.0, sym (append_assoc xs p.0 q.0) ∙ ap (λ z. z ++ q.0) p.1 ∙ q.1)

    -- of a range and an owner, too
    in_line : (n r' : ℕ) → r' < n → (g' : ℕ) (rs' : List Row) (nx' : ℕ) → In (Loaded r' g' rs' nx') h → (r : ℕ) → In r (owners h r') → (g : ℕ) (rs : List Row) (nx : ℕ) → In (Loaded r g rs nx) h →
        g < g' → IsPrefixOf (line r g) (line r' g')
    in_line zero r' less g' rs' nx' i' r own g rs nx i lt = absurd (omega arith)
    in_line (suc n) r' less g' rs' nx' i' r own g rs nx i lt =
        elim (told_born r' (Loaded r' g' rs' nx') (self r') i') as (λ x. IsPrefixOf (line r g) (line r' g')) [
          | inl a ↦ same (of_first r' a r own)
          | inr b ↦ elim (of_child b.0 r' b.1 r own) as (λ x. IsPrefixOf (line r g) (line r' g')) [
            | inl e ↦ same e
            | inr m ↦
                let start : IsPrefixOf (line b.0 (b.1).generation) (line r' g') = parent_begins b.0 r' b.1 g' rs' nx' i' in
                let smaller_one : b.0 < r' = smaller h b.0 r' (b.1).child in
                let parent_load : In (Loaded b.0 (b.1).generation (b.1).loaded.0 (b.1).loaded.1) h = in_moment b.0 r' b.1 (Loaded b.0 (b.1).generation (b.1).loaded.0 (b.1).loaded.1) (b.1).loaded.2 in
                let lower : g < (b.1).generation → IsPrefixOf (line r g) (line r' g') = λ low.
                prefix_trans (line r g) (line b.0 (b.1).generation) (line r' g')
                (in_line n b.0 (omega arith) (b.1).generation (b.1).loaded.0 (b.1).loaded.1 parent_load r m g rs nx i low) start in
                elim (below b.0 r' b.1 r m (Loaded r g rs nx) i (self r)) as (λ x. IsPrefixOf (line r g) (line r' g')) [
                  | inl x ↦ elim (cases_eq g (b.1).generation) as (λ y. IsPrefixOf (line r g) (line r' g')) [
                    | inl e ↦ subst (λ z. IsPrefixOf (line r z) (line r' g')) (sym e) (subst (λ z. IsPrefixOf (line z (b.1).generation) (line r' g')) (sym x.0) start)
                    | inr ne ↦ let le : g ≤ (b.1).generation = x.1 in lower (omega arith)
                  ]
                  | inr x ↦ lower x
                ]
          ]
        ]
      where
        same : r ≡ r' → IsPrefixOf (line r g) (line r' g')
        same e = subst (λ z. IsPrefixOf (line z g) (line r' g')) (sym e) (rises r' g g' (subst (λ z. IsLoaded (story z) g) e (own_load r g rs nx i)) (own_load r' g' rs' nx' i') lt)

    -- ---- where a load is observed

    -- what is observed before a load that stands there in all observations
    abbrev seen_before : ℕ → List Note → List Note
    seen_before r before = observed r (rows r) (taken r) ++ only r before

    load_where : (before after : List Note) (r g : ℕ) (rs : List Row) (nx : ℕ) → h ≡ before ++ Loaded r g rs nx ∷ after → LoadAt r (rows r) (story r) (seen_before r before) r g rs nx
    load_where before after r g rs nx e =
        let load : Note = Loaded r g rs nx in
        let apart : only r h ≡ only r before ++ Loaded r g rs nx ∷ only r after =
        ap (only r) e ∙ only-append r before (Loaded r g rs nx ∷ after) ∙ ap (λ z. only r before ++ z) (only_here r (Loaded r g rs nx) after (self r)) in
        load_at r (rows r) (story r) (seen_before r before) (only r after) r g rs nx
        (f.told r ∙ ap (λ z. observed r (rows r) (taken r) ++ z) apart ∙ sym (append_assoc (observed r (rows r) (taken r)) (only r before) (Loaded r g rs nx ∷ only r after)))

    line_where : (before : List Note) (r g : ℕ) (rs : List Row) (nx : ℕ) (at : LoadAt r (rows r) (story r) before r g rs nx) → line r g ≡ line_shown at.groups
    line_where before r g rs nx at =
        load_line_is (story r) (f.served r) (length at.earlier) g at.start at.end at.groups (load_shown r (rows r) (story r) before r g rs nx at)

    -- it stands behind what was taken
    behind : (before : List Note) (r g : ℕ) (rs : List Row) (nx : ℕ) (at : LoadAt r (rows r) (story r) (seen_before r before) r g rs nx) → length (taken r) ≤ length at.earlier
    behind before r g rs nx at = elim (cases_lt (length at.earlier) (length (taken r))) as (λ x. length (taken r) ≤ length at.earlier) [
      | inl lt ↦
          let load : StreamEvent (Group Transaction) = Showed g at.start at.end at.groups in
          let m : (m : LogStory) × (taken r ≡ m ++ load ∷ at.earlier) = tail_in (f.tail r).0 (taken r) at.front (load ∷ at.earlier) (sym (f.tail r).1 ∙ at.story_is) (omega arith) in
          let x : (rest : List Note) × (observed r (rows r) (m.0 ++ load ∷ at.earlier) ≡ observed r (rows r) (load ∷ at.earlier) ++ rest) = observed_front r (rows r) m.0 (load ∷ at.earlier) in
          let first : List Note = observed r (rows r) at.earlier in
          let one : List Note = Loaded r g (rows r (length at.earlier)) (suc (length (line_shown at.groups))) ∷ [] in
          let long : length (observed r (rows r) (taken r)) ≡ length ((first ++ one) ++ x.0) = ap (λ z. length (observed r (rows r) z)) m.1 ∙ ap length x.1 in
          let long1 : length ((first ++ one) ++ x.0) ≡ length (first ++ one) + length x.0 = length-append (first ++ one) x.0 in
          let long2 : length (first ++ one) ≡ length first + 1 = length-append first one in
          let short : length (observed r (rows r) (taken r) ++ only r before) ≡ length first = ap length at.before_is in
          let short1 : length (observed r (rows r) (taken r) ++ only r before) ≡ length (observed r (rows r) (taken r)) + length (only r before) = length-append (observed r (rows r) (taken r)) (only r before) in
          absurd (omega arith)
      | inr le ↦ le
    ]

    -- ---- all of a line began before

    -- what began before a load that stands there: under the range, or before the moment at which it was made
    owner_began : (before after : List Note) (r g : ℕ) (rs : List Row) (nx : ℕ) → h ≡ before ++ Loaded r g rs nx ∷ after → (g' s : ℕ) (t : Transaction) →
        In (Began r g' s t) (seen_before r before) → (r' : ℕ) × In r' (owners h r) × In (Began r' g' s t) before
    owner_began before after r g rs nx e g' s t i =
        elim (in_cases (Began r g' s t) (observed r (rows r) (taken r)) (only r before) i) as (λ x. (r' : ℕ) × In r' (owners h r) × In (Began r' g' s t) before) [
          | inl m ↦ elim (told_born r (Loaded r g rs nx) (self r) there) as (λ x. (r' : ℕ) × In r' (owners h r) × In (Began r' g' s t) before) [
            | inl a ↦ absurd (subst (λ z. In (Began r g' s t) (observed r (rows r) z)) a.nothing m)
            | inr b ↦
                let x : (r' : ℕ) × In r' (owners h b.0) × In (Began r' g' s t) (b.1).before = began_before (suc r) r (omega arith) b.0 b.1 g' s t m in
                (x.0, to_child b.0 r b.1 x.0 x.1, in_time b.0 b.1 (Began x.0 g' s t) x.2)
          ]
          | inr m ↦ (r, self_owner h r, in_only r (Began r g' s t) before m)
        ]
      where
        there : In (Loaded r g rs nx) h
        there = subst (In (Loaded r g rs nx)) (sym e) (in_middle (Loaded r g rs nx) before after)

        in_time : (p : ℕ) (q : HasStoryParent p r) (o : Note) → In o q.before → In o before
        in_time p q o j = elim (split_at (Loaded r g rs nx) before after q.before q.after (sym e ∙ q.moment)) as (λ x. In o before) [
          | inl m ↦ absurd (subst (In (Loaded r g rs nx)) q.untold (to_only r (Loaded r g rs nx) q.before (self r) (subst (In (Loaded r g rs nx)) (sym m.1) (in_middle (Loaded r g rs nx) before m.0))))
          | inr m ↦ subst (In o) (sym m.1) (in_left o q.before m.0 j)
        ]

    all_began : (before after : List Note) (r g : ℕ) (rs : List Row) (nx : ℕ) → h ≡ before ++ Loaded r g rs nx ∷ after → AllBegan before (owners h r) g (line r g)
    all_began before after r g rs nx e s t member =
        let at : LoadAt r (rows r) (story r) (seen_before r before) r g rs nx = load_where before after r g rs nx e in
        let sp : (us : List Transaction) × (vs : List Transaction) × (line r g ≡ us ++ t ∷ vs) × (length us ≡ s - 1) = member_split_at (line r g) (s - 1) t member.1 in
        let l : ℕ = length at.earlier in
        let c : ItemFrom Transaction (story r) (f.served r) (f.order r) (length at.earlier) g sp.0 t =
        item_from Transaction (story r) (f.served r) (f.order r) (length at.earlier) g at.start at.end at.groups (load_shown r (rows r) (story r) (seen_before r before) r g rs nx at) sp.0 sp.1 t
        (sym (line_where (seen_before r before) r g rs nx at) ∙ sp.2) in
        let in_time : c.append < length at.earlier = c.earlier in
        let whole : event_at (at.front ++ Showed g at.start at.end at.groups ∷ at.earlier) c.append ≡ Some (Made c.generation c.of) = subst (λ z. event_at z c.append ≡ Some (Made c.generation c.of)) at.story_is c.made in
        let made : IsMadeAt Transaction at.earlier c.append c.generation c.of =
        in_tail r (rows r) (Showed g at.start at.end at.groups ∷ []) at.earlier c.append (Made c.generation c.of)
        (in_tail r (rows r) at.front (Showed g at.start at.end at.groups ∷ at.earlier) c.append (Made c.generation c.of) whole (omega arith)) in_time in
        let number : c.of.first + length c.front ≡ suc (length sp.0) = c.number in
        let len : length sp.0 ≡ s - 1 = sp.3 in
        let one : 1 ≤ s = member.0 in
        let n : c.of.first + length c.front ≡ s = omega arith in
        let there : In (Began r c.generation (c.of.first + length c.front) t) (observed r (rows r) at.earlier) = began_in r (rows r) at.earlier c.append c.generation c.of c.front c.back t made c.items in
        let x : (r' : ℕ) × In r' (owners h r) × In (Began r' c.generation s t) before =
        owner_began before after r g rs nx e c.generation s t (subst (In (Began r c.generation s t)) (sym at.before_is) (subst (λ z. In (Began r c.generation z t) (observed r (rows r) at.earlier)) n there)) in
        (x.0, c.generation, contains_in x.0 (owners h r) x.1, c.below, contains_in (Began x.0 c.generation s t) before x.2)

    elder : (n r : ℕ) → r < n → (o : Note) → is_of r o ≡ true → In o h → eldest h r ≡ first_range
    elder zero r lt o is i = absurd (omega arith)
    elder (suc n) r lt o is i = elim (told_born r o is i) as (λ x. eldest h r ≡ first_range) [
      | inl a ↦ unborn_eldest h r a.unborn ∙ a.is
      | inr b ↦
          let less : b.0 < r = smaller h b.0 r (b.1).child in
          let load : Note = Loaded b.0 (b.1).generation (b.1).loaded.0 (b.1).loaded.1 in
          child_eldest h b.0 r (b.1).child ∙ elder n b.0 (omega arith) load (self b.0) (in_moment b.0 r b.1 load (b.1).loaded.2)
    ]

    pub kin_is : (n r : ℕ) → r < n → (o : Note) → is_of r o ≡ true → In o h → kin h r ≡ owners h r
    kin_is zero r lt o is i = absurd (omega arith)
    kin_is (suc n) r lt o is i = elim (told_born r o is i) as (λ x. kin h r ≡ owners h r) [
      | inl a ↦ unborn_kin h r a.unborn ∙ sym (unborn_owners h r a.unborn)
      | inr b ↦
          let less : b.0 < r = smaller h b.0 r (b.1).child in
          let load : Note = Loaded b.0 (b.1).generation (b.1).loaded.0 (b.1).loaded.1 in
          child_kin h b.0 r (b.1).child ∙ ap (λ z. r ∷ z) (kin_is n b.0 (omega arith) load (self b.0) (in_moment b.0 r b.1 load (b.1).loaded.2)) ∙ sym (child_owners h b.0 r (b.1).child)
    ]

    -- ---- each that was acknowledged

    -- nothing of the part that was taken began under a generation that is the range's own
    none_taken : (r g s : ℕ) → In (Done r g s) h → begun (observed r (rows r) (taken r)) r g s ≡ []
    none_taken r g s i = elim (told_born r (Done r g s) (self r) i) as (λ x. begun (observed r (rows r) (taken r)) r g s ≡ []) [
      | inl a ↦ ap (λ z. begun (observed r (rows r) z) r g s) a.nothing
      | inr b ↦ go b.0 b.1 (begun (observed r (rows r) (taken r)) r g s) refl
    ]
      where
        go : (p : ℕ) → HasStoryParent p r → (xs : List Transaction) → begun (observed r (rows r) (taken r)) r g s ≡ xs → begun (observed r (rows r) (taken r)) r g s ≡ []
        go p q [] e = e
        go p q (u ∷ us) e =
            let x : (r' : ℕ) × In r' (owners h p) × In (Began r' g s u) q.before =
            began_before (suc r) r (omega arith) p q g s u (begun_in (observed r (rows r) (taken r)) r g s u us e) in
            let low : g ≤ q.generation = at_most p r q x.0 x.1 (Began x.0 g s u) (in_moment p r q (Began x.0 g s u) x.2) (self x.0) in
            let up : q.generation < g = q.above (Done r g s) i (self r) in
            absurd (omega arith)

    done_where : (r g s : ℕ) → In (Done r g s) h → DoneAt r (rows r) (story r) r g s
    done_where r g s i =
        done_at r (rows r) (story r) r g s
        (subst (In (Done r g s)) (sym (f.told r)) (in_right (Done r g s) (observed r (rows r) (taken r)) (only r h) (to_only r (Done r g s) h (self r) i)))

    -- one began under its number
    pub done_begun : (r g s : ℕ) (i : In (Done r g s) h) (d : DoneAt r (rows r) (story r) r g s) → begun h r g s ≡ d.t ∷ []
    done_begun r g s i d =
        let all : begun (observed r (rows r) (story r)) r g (d.group.first + length d.front) ≡ d.t ∷ [] = begun_one r (rows r) (story r) (f.served r) d.append g d.group d.front d.back d.t d.made d.items in
        let here : begun (observed r (rows r) (story r)) r g s ≡ d.t ∷ [] = subst (λ z. begun (observed r (rows r) (story r)) r g z ≡ d.t ∷ []) (sym d.number) all in
        let apart : begun (observed r (rows r) (story r)) r g s ≡ begun (observed r (rows r) (taken r)) r g s ++ begun (only r h) r g s =
        ap (λ z. begun z r g s) (f.told r) ∙ begun-append (observed r (rows r) (taken r)) (only r h) r g s in
        sym (begun_only r h g s) ∙ ap (λ z. z ++ begun (only r h) r g s) (sym (none_taken r g s i)) ∙ sym apart ∙ here

    -- of the range itself
    own_done : (r g : ℕ) (rs : List Row) (nx : ℕ) → In (Loaded r g rs nx) h → (g' s : ℕ) → g' < g → In (Done r g' s) h → (t : Transaction) × (begun h r g' s ≡ t ∷ []) × IsMember (line r g) s t
    own_done r g rs nx i g' s lt done =
        let d : DoneAt r (rows r) (story r) r g' s = done_where r g' s done in
        let l : IsLoaded (story r) g = own_load r g rs nx i in
        let st : StandsIn (line_shown l.3) d.group =
        answered_stands Transaction (story r) (f.served r) (f.order r) l.0 g l.1 l.2 d.append g' d.answer d.from d.to l.3 d.group l.4 d.made lt d.answered in
        let member : IsMember (line_shown l.3) s d.t = stands_member (line_shown l.3) d.group d.front d.back d.t s st d.items d.number in
        (d.t, done_begun r g' s done d, subst (λ z. IsMember z s d.t) (sym (load_line_is (story r) (f.served r) l.0 g l.1 l.2 l.3 l.4)) member)

    -- of the generation under which the parent was split
    last_done : (p r : ℕ) (q : HasStoryParent p r) (g : ℕ) (rs : List Row) (nx : ℕ) → In (Loaded r g rs nx) h → (s : ℕ) → In (Done p q.generation s) h →
        (t : Transaction) × (begun h p q.generation s ≡ t ∷ []) × IsMember (line r g) s t
    last_done p r q g rs nx i s done =
        let d : DoneAt p (rows p) (story p) p q.generation s = done_where p q.generation s done in
        let a : IsAnswered (taken r) d.append = q.answered d.append d.group d.made in
        let low : a.0 < length (taken r) = bound (Group Transaction) (taken r) a.0 (Answered d.append a.1 a.2) a.4 in
        let early : d.append < a.0 = a.3 in
        let made : IsMadeAt Transaction (taken r) d.append q.generation d.group =
        in_tail p (rows p) (q.front).0 (taken r) d.append (Made q.generation d.group) (subst (λ z. event_at z d.append ≡ Some (Made q.generation d.group)) (q.front).1 d.made) (omega arith) in
        let l : IsLoaded (story r) g = own_load r g rs nx i in
        let up : q.generation < g = q.above (Loaded r g rs nx) i (self r) in
        let st : StandsIn (line_shown l.3) d.group =
        answered_stands Transaction (story r) (f.served r) (f.order r) l.0 g l.1 l.2 d.append q.generation a.0 a.1 a.2 l.3 d.group l.4
        (tail_event Transaction (taken r) (story r) (f.tail r) d.append (Made q.generation d.group) made) up
        (tail_event Transaction (taken r) (story r) (f.tail r) a.0 (Answered d.append a.1 a.2) a.4) in
        let member : IsMember (line_shown l.3) s d.t = stands_member (line_shown l.3) d.group d.front d.back d.t s st d.items d.number in
        (d.t, done_begun p q.generation s done d, subst (λ z. IsMember z s d.t) (sym (load_line_is (story r) (f.served r) l.0 g l.1 l.2 l.3 l.4)) member)

    -- what began under this range, generation and number is that member of the load's line
    abbrev IsInLine : ℕ → ℕ → ℕ → ℕ → ℕ → Type 0
    IsInLine r g g' s z = (t : Transaction) × (begun h z g' s ≡ t ∷ []) × IsMember (line r g) s t

    pub done_stands : (n r : ℕ) → r < n → (g : ℕ) (rs : List Row) (nx : ℕ) → In (Loaded r g rs nx) h → (r' g' s : ℕ) → In r' (owners h r) → g' < g → In (Done r' g' s) h →
        (t : Transaction) × (begun h r' g' s ≡ t ∷ []) × IsMember (line r g) s t
    done_stands zero r less g rs nx i r' g' s own lt done = absurd (omega arith)
    done_stands (suc n) r less g rs nx i r' g' s own lt done =
        elim (told_born r (Loaded r g rs nx) (self r) i) as (λ x. IsInLine r g g' s r') [
          | inl a ↦ same (of_first r a r' own)
          | inr b ↦ elim (of_child b.0 r b.1 r' own) as (λ x. IsInLine r g g' s r') [
            | inl e ↦ same e
            | inr m ↦
                let start : IsPrefixOf (line b.0 (b.1).generation) (line r g) = parent_begins b.0 r b.1 g rs nx i in
                let smaller_one : b.0 < r = smaller h b.0 r (b.1).child in
                let load : Note = Loaded b.0 (b.1).generation (b.1).loaded.0 (b.1).loaded.1 in
                let lower : g' < (b.1).generation → IsInLine r g g' s r' = λ low.
                let x : (t : Transaction) × (begun h r' g' s ≡ t ∷ []) × IsMember (line b.0 (b.1).generation) s t =
                done_stands n b.0 (omega arith) (b.1).generation (b.1).loaded.0 (b.1).loaded.1 (in_moment b.0 r b.1 load (b.1).loaded.2) r' g' s m low done in
                (x.0, x.1, member_longer (line b.0 (b.1).generation) (line r g) s x.0 x.2 start) in
                elim (below b.0 r b.1 r' m (Done r' g' s) done (self r')) as (λ x. IsInLine r g g' s r') [
                  | inl x ↦ elim (cases_eq g' (b.1).generation) as (λ y. IsInLine r g g' s r') [
                    | inl e ↦ last b.0 b.1 x.0 e
                    | inr ne ↦ let le : g' ≤ (b.1).generation = x.1 in lower (omega arith)
                  ]
                  | inr x ↦ lower x
                ]
          ]
        ]
      where
        same : r' ≡ r → IsInLine r g g' s r'
        same e = subst (IsInLine r g g' s) (sym e) (own_done r g rs nx i g' s lt (subst (λ z. In (Done z g' s) h) e done))

        last : (p : ℕ) (q : HasStoryParent p r) → r' ≡ p → g' ≡ q.generation → IsInLine r g g' s r'
        last p q e eg =
            let here : In (Done p q.generation s) h = subst (λ z. In (Done p z s) h) eg (subst (λ z. In (Done z g' s) h) e done) in
            let x : (t : Transaction) × (begun h p q.generation s ≡ t ∷ []) × IsMember (line r g) s t = last_done p r q g rs nx i s here in
            (x.0, subst (λ z. begun h z g' s ≡ x.0 ∷ []) (sym e) (subst (λ z. begun h p z s ≡ x.0 ∷ []) (sym eg) x.1), x.2)

    -- ---- the law

    where_load : (r g : ℕ) (rs : List Row) (nx : ℕ) → In (Loaded r g rs nx) h → (before : List Note) × LoadAt r (rows r) (story r) (seen_before r before) r g rs nx
    where_load r g rs nx i =
        let s : (front : List Note) × (back : List Note) × (h ≡ front ++ Loaded r g rs nx ∷ back) = split_of (Loaded r g rs nx) h i in
        (s.0, load_where s.0 s.1 r g rs nx s.2)

    -- a load of an owner has no higher generation than one of the range itself
    no_later : (r r' g g' : ℕ) (rs rs' : List Row) (nx nx' : ℕ) → In (Loaded r g rs nx) h → In (Loaded r' g' rs' nx') h → In r' (owners h r) → g < g' → r' ≡ r
    no_later r r' g g' rs rs' nx nx' i i' own lt = elim (told_born r (Loaded r g rs nx) (self r) i) as (λ x. r' ≡ r) [
      | inl a ↦ of_first r a r' own
      | inr b ↦ elim (of_child b.0 r b.1 r' own) as (λ x. r' ≡ r) [
        | inl e ↦ e
        | inr m ↦
            let low : g' ≤ (b.1).generation = at_most b.0 r b.1 r' m (Loaded r' g' rs' nx') i' (self r') in
            let up : (b.1).generation < g = (b.1).above (Loaded r g rs nx) i (self r) in
            absurd (omega arith)
      ]
    ]

    once : (before after : List Note) (r g : ℕ) (rs rs' : List Row) (nx nx' : ℕ) → h ≡ before ++ Loaded r g rs nx ∷ after → In (Loaded r g rs' nx') after → ⊥
    once before after r g rs rs' nx nx' e i =
        let s : (u : List Note) × (v : List Note) × (after ≡ u ++ Loaded r g rs' nx' ∷ v) = split_of (Loaded r g rs' nx') after i in
        let whole : h ≡ (before ++ Loaded r g rs nx ∷ s.0) ++ Loaded r g rs' nx' ∷ s.1 =
        e ∙ ap (λ z. before ++ Loaded r g rs nx ∷ z) s.2 ∙ sym (append_assoc before (Loaded r g rs nx ∷ s.0) (Loaded r g rs' nx' ∷ s.1)) in
        let at : LoadAt r (rows r) (story r) (seen_before r before) r g rs nx = load_where before after r g rs nx e in
        let at' : LoadAt r (rows r) (story r) (seen_before r (before ++ Loaded r g rs nx ∷ s.0)) r g rs' nx' = load_where (before ++ Loaded r g rs nx ∷ s.0) s.1 r g rs' nx' whole in
        let same : length at.earlier ≡ length at'.earlier =
        (kept_by_servers Transaction (story r) (f.served r)).once (length at.earlier) (length at'.earlier) g at.start at.end at'.start at'.end at.groups at'.groups
        (load_shown r (rows r) (story r) (seen_before r before) r g rs nx at) (load_shown r (rows r) (story r) (seen_before r (before ++ Loaded r g rs nx ∷ s.0)) r g rs' nx' at') in
        let tails : (m : LogStory) × (Showed g at.start at.end at.groups ∷ at.earlier ≡ m ++ Showed g at'.start at'.end at'.groups ∷ at'.earlier) =
        tail_in at.front (Showed g at.start at.end at.groups ∷ at.earlier) at'.front (Showed g at'.start at'.end at'.groups ∷ at'.earlier) (sym at.story_is ∙ at'.story_is) (omega arith) in
        let tail : at.earlier ≡ at'.earlier = equal_tails at.earlier at'.earlier (Showed g at.start at.end at.groups) (Showed g at'.start at'.end at'.groups) tails.0 tails.1 same in
        let clash : seen_before r before ≡ seen_before r (before ++ Loaded r g rs nx ∷ s.0) = at.before_is ∙ ap (observed r (rows r)) tail ∙ sym at'.before_is in
        let more : only r (before ++ Loaded r g rs nx ∷ s.0) ≡ only r before ++ Loaded r g rs nx ∷ only r s.0 =
        only-append r before (Loaded r g rs nx ∷ s.0) ∙ ap (λ z. only r before ++ z) (only_here r (Loaded r g rs nx) s.0 (self r)) in
        let first : List Note = observed r (rows r) (taken r) in
        let len : length (first ++ only r before) ≡ length (first ++ (only r before ++ Loaded r g rs nx ∷ only r s.0)) = ap length (clash ∙ ap (λ z. first ++ z) more) in
        let len1 : length (first ++ only r before) ≡ length first + length (only r before) = length-append first (only r before) in
        let len2 : length (first ++ (only r before ++ Loaded r g rs nx ∷ only r s.0)) ≡ length first + length (only r before ++ Loaded r g rs nx ∷ only r s.0) = length-append first (only r before ++ Loaded r g rs nx ∷ only r s.0) in
        let len3 : length (only r before ++ Loaded r g rs nx ∷ only r s.0) ≡ length (only r before) + suc (length (only r s.0)) = length-append (only r before) (Loaded r g rs nx ∷ only r s.0) in
        omega arith
      where
        equal_tails : (xs ys : LogStory) (a b : StreamEvent (Group Transaction)) (m : LogStory) → a ∷ xs ≡ m ++ b ∷ ys → length xs ≡ length ys → xs ≡ ys
        equal_tails xs ys a b [] q l = cc
        equal_tails xs ys a b (x ∷ m) q l =
            let t : xs ≡ m ++ b ∷ ys = cc in
            let n : length xs ≡ length m + suc (length ys) = ap length t ∙ length-append m (b ∷ ys) in
            absurd (omega arith)

    table_is : (r g : ℕ) (rs : List Row) (nx : ℕ) → In (Loaded r g rs nx) h → (key : Bytes) → stored rs key ≡ kept (keys_of h r) (after_line (line r g) empty_table) key
    table_is r g rs nx i key =
        let at : (before : List Note) × LoadAt r (rows r) (story r) (seen_before r before) r g rs nx = where_load r g rs nx i in
        let l : ℕ = length (at.1).earlier in
        ap (λ z. stored z key) (at.1).rows_are
        ∙ f.tables r (length (at.1).earlier) g (at.1).start (at.1).end (at.1).groups (load_shown r (rows r) (story r) (seen_before r at.0) r g rs nx at.1) (behind at.0 r g rs nx at.1) key
        ∙ ap (λ z. kept (keys_of h r) (after_line z empty_table) key) (sym (line_where (seen_before r at.0) r g rs nx at.1))

    -- THE LAW OF FAMILIES
    pub family_replays : Replays h
    family_replays = record {
      past = λ r g. From_nothing (load_line (story r) g);
      of = λ before after r g rs nx e. (
        all_began before after r g rs nx e,
        elder (suc r) r (omega arith) (Loaded r g rs nx) (self r) (subst (In (Loaded r g rs nx)) (sym e) (in_middle (Loaded r g rs nx) before after)),
      );
      complete = λ r g rs nx c r' g' s own lt done.
          done_stands (suc r) r (omega arith) g rs nx (in_contains (Loaded r g rs nx) h c) r' g' s (in_contains r' (owners h r) own) lt (in_contains (Done r' g' s) h done);
      table = λ r g rs nx c key. table_is r g rs nx (in_contains (Loaded r g rs nx) h c) key;
      number = λ r g rs nx c.
          let at : (before : List Note) × LoadAt r (rows r) (story r) (seen_before r before) r g rs nx = where_load r g rs nx (in_contains (Loaded r g rs nx) h c) in
          (at.1).next_is ∙ ap (λ z. suc (length z)) (sym (line_where (seen_before r at.0) r g rs nx at.1));
      in_order = λ r g r' g' rs rs' nx nx' c c' lt k.
          let i : In (Loaded r g rs nx) h = in_contains (Loaded r g rs nx) h c in
          let i' : In (Loaded r' g' rs' nx') h = in_contains (Loaded r' g' rs' nx') h c' in
          let begins : In r (owners h r') → Begins (From_nothing (load_line (story r) g)) (From_nothing (load_line (story r') g')) =
          λ own. (refl, in_line (suc r') r' (omega arith) g' rs' nx' i' r own g rs nx i lt) in
          elim k as (λ x. Begins (From_nothing (load_line (story r) g)) (From_nothing (load_line (story r') g'))) [
            | inl up ↦ begins (subst (In r) (kin_is (suc r') r' (omega arith) (Loaded r' g' rs' nx') (self r') i') (in_contains r (kin h r') up))
            | inr down ↦
                let own : In r' (owners h r) = subst (In r') (kin_is (suc r) r (omega arith) (Loaded r g rs nx) (self r) i) (in_contains r' (kin h r) down) in
                let same : r' ≡ r = no_later r r' g g' rs rs' nx nx' i i' own lt in
                begins (subst (λ z. In z (owners h r')) same (self_owner h r'))
          ];
      once = λ before after r g rs rs' nx nx' e c. once before after r g rs rs' nx nx' e (in_contains (Loaded r g rs' nx') after c);
    }

    -- the pasts of its loads
    pub family_past : family_replays.past ≡ (λ r g. From_nothing (load_line (story r) g))
    unfolding family_replays
    family_past = refl
