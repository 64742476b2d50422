-- What is observed of a range's log: where each begin, answer and load of it stands in the story.
use Rattle.std.proofs.Common.{◌≡◌, ℕ, zero, suc, ◌+◌, ◌<◌, ◌≤◌, List, [], ◌∷◌, ◌++◌, length, Bool, true, false, cond, Option, Some, None, refl, sym, ap, ◌∙◌, subst, inl, inr, ◌⊎◌, ⊎_elim, arith, append_assoc, length-append, eqb}
use Rattle.std.specs.Prelude.{◌&&◌, slice_get}
use Rattle.std.proofs.lemmas.List.{append-nil}
use Rattle.std.proofs.lemmas.Bool.{cases_eq}
use Rattle.std.proofs.lemmas.Bool.Decides.{nat_tests}
use Rattle.wire.specs.declared.note.Note.{Note}
use Rattle.wire.specs.declared.note.Note.TheVariants.{Acked, SealedAt, Content, Seen, Began, Done, Loaded, Got, Split, Merged}
use Rattle.wire.specs.declared.rows.Row.{Row}
use Rattle.model_partition.specs.Past.{Transaction, begun}
use Rattle.commitlog.specs.Replay.{Numbered as Group}
use Rattle.model_partition.specs.Lines.{next_after}
use Rattle.model_histories.specs.Story.{Placed, StreamEvent, Made, Answered, Showed, event_at}
use Rattle.model_histories.specs.Log.{line_shown, begins_of, dones_of, dones_at, is_of, only}
use Rattle.laws_tables.specs.WholeStories.{IsServed, notes, observed}
use Rattle.laws_tables.proofs.Holds.{LogStory}
use Rattle.laws_tables.proofs.Lines.{split_at}
use Rattle.laws_tables.proofs.Range.{IsMadeAt, IsShownAt, Kept, kept_by_servers, bound, older, event_cases, newest, eq_test, ne_test}
use Rattle.model_histories.specs.StreamMachine.{In}
use Rattle.laws_tables.proofs.Members.{in_right, in_left, in_cases}

-- members by position
pub member_split_at : (line : List Transaction) (s : ℕ) (t : Transaction) → slice_get line s ≡ Some t → (us : List Transaction) × (vs : List Transaction) × (line ≡ us ++ t ∷ vs) × (length us ≡ s)
member_split_at [] s t h = absurd (cc)
member_split_at (x ∷ line) zero t h = let e : x ≡ t = cc in ([], line, ap (λ y. y ∷ line) e, refl)
member_split_at (x ∷ line) (suc s) t h =
    let r : (us : List Transaction) × (vs : List Transaction) × (line ≡ us ++ t ∷ vs) × (length us ≡ s) = member_split_at line s t h in
    (x ∷ r.0, r.1, ap (λ l. x ∷ l) r.2, ap suc r.3)

pub get_split : (us vs : List Transaction) (t : Transaction) → slice_get (us ++ t ∷ vs) (length us) ≡ Some t
get_split [] vs t = refl
get_split (u ∷ us) vs t = get_split us vs t

pub split_of : (c : Note) (h : List Note) → In c h → (front : List Note) × (back : List Note) × (h ≡ front ++ c ∷ back)
split_of c [] i = absurd i
split_of c (d ∷ h) (inl e) = ([], h, ap (λ y. y ∷ h) (sym e))
split_of c (d ∷ h) (inr i) =
    let r : (front : List Note) × (back : List Note) × (h ≡ front ++ c ∷ back) = split_of c h i in
    (d ∷ r.0, r.1, ap (λ l. d ∷ l) r.2)

cond-append : {X : Type 0} (b : Bool) (t : X) (xs ys zs : List X) → cond b (t ∷ xs) ys ++ zs ≡ cond b (t ∷ (xs ++ zs)) (ys ++ zs)
cond-append true t xs ys zs = refl
cond-append false t xs ys zs = refl

pub begun-append : (xs ys : List Note) (r g s : ℕ) → begun (xs ++ ys) r g s ≡ begun xs r g s ++ begun ys r g s
begun-append [] ys r g s = refl
begun-append (Began r' g' s' t ∷ h) ys r g s =
    let b : Bool = (eqb r r') && ((eqb g g') && (eqb s s')) in
    let ih : begun (h ++ ys) r g s ≡ begun h r g s ++ begun ys r g s = begun-append h ys r g s in
    ap (λ z. cond b (t ∷ z) z) ih ∙ sym (cond-append b t (begun h r g s) (begun h r g s) (begun ys r g s))
begun-append (Done r' g' s' ∷ h) ys r g s = begun-append h ys r g s
begun-append (Loaded r' g' rows next ∷ h) ys r g s = begun-append h ys r g s
begun-append (Split b c d key ∷ h) ys r g s = begun-append h ys r g s
begun-append (Merged c d e ∷ h) ys r g s = begun-append h ys r g s
begun-append (Acked e o grp ∷ h) ys r g s = begun-append h ys r g s
begun-append (SealedAt e l ∷ h) ys r g s = begun-append h ys r g s
begun-append (Got r' g' key value ∷ h) ys r g s = begun-append h ys r g s
begun-append (Content e n grps ∷ h) ys r g s = begun-append h ys r g s
begun-append (Seen e n o bytes ∷ h) ys r g s = begun-append h ys r g s

module _ (range : ℕ) where
  in_begins : (g s : ℕ) (front back : List Transaction) (t : Transaction) → In (Began range g (s + length front) t) (begins_of range g s (front ++ t ∷ back))
  in_begins g s [] back t = inl (ap (λ n. Began range g n t) (let e : s + 0 ≡ s = omega arith in e))
  in_begins g s (x ∷ front) back t =
      let e : suc s + length front ≡ s + suc (length front) = omega arith in
      inr (subst (λ n. In (Began range g n t) (begins_of range g (suc s) (front ++ t ∷ back))) e (in_begins g (suc s) front back t))

  in_dones : (r g g' s n : ℕ) (ts : List Transaction) → In (Done r g n) (dones_of range g' s ts) → (r ≡ range) × (g ≡ g') × ((front : List Transaction) × (t : Transaction) × (back : List Transaction) × (ts ≡ front ++ t ∷ back) × (n ≡ s + length front))
  in_dones r g g' s n [] h = absurd h
  in_dones r g g' s n (t ∷ ts) (inl e) =
      let er : r ≡ range = cc in
      let eg : g ≡ g' = cc in
      let en : n ≡ s = cc in
      let e0 : n ≡ s + 0 = omega arith in
      (er, eg, ([], t, ts, refl, e0))
  in_dones r g g' s n (t ∷ ts) (inr h) =
      let q : (r ≡ range) × (g ≡ g') × ((front : List Transaction) × (u : Transaction) × (back : List Transaction) × (ts ≡ front ++ u ∷ back) × (n ≡ suc s + length front)) = in_dones r g g' (suc s) n ts h in
      let m : n ≡ suc s + length (q.2).0 = (q.2).4 in
      (q.0, q.1, (t ∷ (q.2).0, (q.2).1, (q.2).2, ap (λ l. t ∷ l) (q.2).3, omega arith))

  no_done_in_begins : (r g n g' s : ℕ) (ts : List Transaction) → In (Done r g n) (begins_of range g' s ts) → ⊥
  no_done_in_begins r g n g' s [] h = h
  no_done_in_begins r g n g' s (t ∷ ts) (inl e) = cc
  no_done_in_begins r g n g' s (t ∷ ts) (inr h) = no_done_in_begins r g n g' (suc s) ts h

  no_load_in_begins : (r g : ℕ) (rows : List Row) (nx : ℕ) (g' s : ℕ) (ts : List Transaction) → In (Loaded r g rows nx) (begins_of range g' s ts) → ⊥
  no_load_in_begins r g rows nx g' s [] h = h
  no_load_in_begins r g rows nx g' s (t ∷ ts) (inl e) = cc
  no_load_in_begins r g rows nx g' s (t ∷ ts) (inr h) = no_load_in_begins r g rows nx g' (suc s) ts h

  no_load_in_dones : (r g : ℕ) (rows : List Row) (nx : ℕ) (g' s : ℕ) (ts : List Transaction) → In (Loaded r g rows nx) (dones_of range g' s ts) → ⊥
  no_load_in_dones r g rows nx g' s [] h = h
  no_load_in_dones r g rows nx g' s (t ∷ ts) (inl e) = cc
  no_load_in_dones r g rows nx g' s (t ∷ ts) (inr h) = no_load_in_dones r g rows nx g' (suc s) ts h

  no_done_in_load : (r g s g' : ℕ) (rs : List Row) (nx : ℕ) → In (Done r g s) (Loaded range g' rs nx ∷ []) → ⊥
  no_done_in_load r g s g' rs nx (inl e) = cc
  no_done_in_load r g s g' rs nx (inr h) = h

  begun_dones : (g' s' : ℕ) (ts : List Transaction) (g s : ℕ) → begun (dones_of range g' s' ts) range g s ≡ []
  begun_dones g' s' [] g s = refl
  begun_dones g' s' (t ∷ ts) g s = begun_dones g' (suc s') ts g s

  begun_dones_at : (o : Option (StreamEvent (Group Transaction))) (g s : ℕ) → begun (dones_at range o) range g s ≡ []
  begun_dones_at None g s = refl
  begun_dones_at (Some (Made g' group)) g s = begun_dones g' group.first group.items g s
  begun_dones_at (Some (Answered a from to)) g s = refl
  begun_dones_at (Some (Showed g' start end groups)) g s = refl

  -- the range's own number is looked for
  own_range : (g s g' s' : ℕ) (t : Transaction) (xs : List Transaction) → cond ((eqb range range) && ((eqb g g') && (eqb s s'))) (t ∷ xs) xs ≡ cond ((eqb g g') && (eqb s s')) (t ∷ xs) xs
  own_range g s g' s' t xs = ap (λ b. cond (b && ((eqb g g') && (eqb s s'))) (t ∷ xs) xs) (eq_test Transaction range)

  begun_other : (g' s' : ℕ) (ts : List Transaction) (g s : ℕ) → (g ≡ g' → ⊥) → begun (begins_of range g' s' ts) range g s ≡ []
  begun_other g' s' [] g s n = refl
  begun_other g' s' (t ∷ ts) g s n =
      let rest : begun (begins_of range g' (suc s') ts) range g s ≡ [] = begun_other g' (suc s') ts g s n in
      own_range g s g' s' t (begun (begins_of range g' (suc s') ts) range g s)
      ∙ ap (λ b. cond (b && (eqb s s')) (t ∷ begun (begins_of range g' (suc s') ts) range g s) (begun (begins_of range g' (suc s') ts) range g s)) (ne_test Transaction g g' n) ∙ rest

  begun_skip : (g s' : ℕ) (t : Transaction) (ts : List Transaction) (s : ℕ) → (s ≡ s' → ⊥) → begun (begins_of range g s' (t ∷ ts)) range g s ≡ begun (begins_of range g (suc s') ts) range g s
  begun_skip g s' t ts s n =
      let X : List Transaction = begun (begins_of range g (suc s') ts) range g s in
      own_range g s g s' t X ∙ ap (λ b. cond (b && (eqb s s')) (t ∷ X) X) (eq_test Transaction g) ∙ ap (λ b. cond b (t ∷ X) X) (ne_test Transaction s s' n)

  begun_below : (g s' : ℕ) (ts : List Transaction) (s : ℕ) → s < s' → begun (begins_of range g s' ts) range g s ≡ []
  begun_below g s' [] s h = refl
  begun_below g s' (t ∷ ts) s h = begun_skip g s' t ts s (λ (q : s ≡ s'). omega arith) ∙ begun_below g (suc s') ts s (omega arith)

  begun_above : (g s' : ℕ) (ts : List Transaction) (s : ℕ) → s' + length ts ≤ s → begun (begins_of range g s' ts) range g s ≡ []
  begun_above g s' [] s h = refl
  begun_above g s' (t ∷ ts) s h = begun_skip g s' t ts s (λ (q : s ≡ s'). omega arith) ∙ begun_above g (suc s') ts s (omega arith)

  begun_here : (g s' : ℕ) (front back : List Transaction) (t : Transaction) → begun (begins_of range g s' (front ++ t ∷ back)) range g (s' + length front) ≡ t ∷ []
  begun_here g s' [] back t =
      let X : List Transaction = begun (begins_of range g (suc s') back) range g (s' + 0) in
      let low : X ≡ [] = begun_below g (suc s') back (s' + 0) (omega arith) in
      let same : eqb (s' + 0) s' ≡ true = grind (arith, nat_tests) in
      own_range g (s' + 0) g s' t X ∙ ap (λ b. cond (b && (eqb (s' + 0) s')) (t ∷ X) X) (eq_test Transaction g) ∙ ap (λ b. cond b (t ∷ X) X) same ∙ ap (λ l. t ∷ l) low
  begun_here g s' (x ∷ front) back t =
      let e : s' + suc (length front) ≡ suc s' + length front = omega arith in
      begun_skip g s' x (front ++ t ∷ back) (s' + suc (length front)) (λ (q : s' + suc (length front) ≡ s'). omega arith)
      ∙ ap (λ n. begun (begins_of range g (suc s') (front ++ t ∷ back)) range g n) e ∙ begun_here g (suc s') front back t

  module _ (rows : ℕ → List Row) where
    begun_none : (story : LogStory) (g s : ℕ) → ((a : ℕ) (grp : Group Transaction) → IsMadeAt Transaction story a g grp → (s < grp.first) ⊎ (next_after grp ≤ s)) → begun (observed range rows story) range g s ≡ []
    begun_none [] g s h = refl
    begun_none (Made g' new ∷ earlier) g s h =
        let ih : begun (observed range rows earlier) range g s ≡ [] = begun_none earlier g s (λ a grp m. h a grp (older (Group Transaction) (Made g' new) earlier a (Made g grp) m)) in
        let mine : begun (begins_of range g' new.first new.items) range g s ≡ [] =
        ⊎_elim {C = begun (begins_of range g' new.first new.items) range g s ≡ []}
        (λ (q : g ≡ g').
        let at : IsMadeAt Transaction (Made g' new ∷ earlier) (length earlier) g' new = newest (Group Transaction) (Made g' new) earlier in
        let k : (s < new.first) ⊎ (next_after new ≤ s) = h (length earlier) new (subst (λ z. IsMadeAt Transaction (Made g' new ∷ earlier) (length earlier) z new) (sym q) at) in
        subst (λ z. begun (begins_of range z new.first new.items) range g s ≡ []) q
        (⊎_elim {C = begun (begins_of range g new.first new.items) range g s ≡ []} (λ lt. begun_below g new.first new.items s lt) (λ le. begun_above g new.first new.items s le) k))
        (λ (q : g ≡ g' → ⊥). begun_other g' new.first new.items g s q)
        (cases_eq g g') in
        begun-append (observed range rows earlier) (begins_of range g' new.first new.items) range g s ∙ ap (λ z. z ++ begun (begins_of range g' new.first new.items) range g s) ih ∙ mine
    begun_none (Answered a from to ∷ earlier) g s h =
        let ih : begun (observed range rows earlier) range g s ≡ [] = begun_none earlier g s (λ b grp m. h b grp (older (Group Transaction) (Answered a from to) earlier b (Made g grp) m)) in
        begun-append (observed range rows earlier) (dones_at range (event_at earlier a)) range g s ∙ ap (λ z. z ++ begun (dones_at range (event_at earlier a)) range g s) ih ∙ begun_dones_at (event_at earlier a) g s
    begun_none (Showed g' start end groups ∷ earlier) g s h =
        let ih : begun (observed range rows earlier) range g s ≡ [] = begun_none earlier g s (λ b grp m. h b grp (older (Group Transaction) (Showed g' start end groups) earlier b (Made g grp) m)) in
        begun-append (observed range rows earlier) (Loaded range g' (rows (length earlier)) (suc (length (line_shown groups))) ∷ []) range g s ∙ ap (λ z. z ++ []) ih

    pub begun_one : (story : LogStory) → IsServed story → (a g : ℕ) (grp : Group Transaction) (front back : List Transaction) (t : Transaction) → IsMadeAt Transaction story a g grp → grp.items ≡ front ++ t ∷ back →
        begun (observed range rows story) range g (grp.first + length front) ≡ t ∷ []
    begun_one [] served a g grp front back t m e = absurd (cc)
    begun_one (Made g' new ∷ earlier) served a g grp front back t m e =
        let s : ℕ = grp.first + length front in
        let kept_now : Kept Transaction (Made g' new ∷ earlier) = kept_by_servers Transaction (Made g' new ∷ earlier) served in
        let at_end : IsMadeAt Transaction (Made g' new ∷ earlier) (length earlier) g' new = newest (Group Transaction) (Made g' new) earlier in
        let inside : length grp.items ≡ length front + suc (length back) = ap length e ∙ length-append front (t ∷ back) in
        begun-append (observed range rows earlier) (begins_of range g' new.first new.items) range g s ∙
        ⊎_elim {C = begun (observed range rows earlier) range g s ++ begun (begins_of range g' new.first new.items) range g s ≡ t ∷ []}
        (λ (n : (a ≡ length earlier) × (Made g' new ≡ Made g grp)).
        let q : Made g' new ≡ Made g grp = n.1 in
        let eg : g' ≡ g = cc in
        let en : new ≡ grp = cc in
        let none : begun (observed range rows earlier) range g s ≡ [] = begun_none earlier g s (λ b old mb.
        let lt : b < length earlier = bound (Group Transaction) earlier b (Made g old) mb in
        let mb' : IsMadeAt Transaction (Made g' new ∷ earlier) b g old = older (Group Transaction) (Made g' new) earlier b (Made g old) mb in
        let na : a ≡ length earlier = n.0 in
        let p : next_after old ≤ grp.first = (kept_now.pairs b a g old grp mb' m (omega arith)).0 in
        inr (omega arith)) in
        let mine : begun (begins_of range g' new.first new.items) range g s ≡ t ∷ [] =
        subst (λ z. begun (begins_of range z new.first new.items) range g s ≡ t ∷ []) (sym eg)
        (subst (λ z. begun (begins_of range g z.first z.items) range g s ≡ t ∷ []) (sym en)
        (subst (λ z. begun (begins_of range g grp.first z) range g s ≡ t ∷ []) (sym e) (begun_here g grp.first front back t))) in
        ap (λ z. z ++ begun (begins_of range g' new.first new.items) range g s) none ∙ mine)
        (λ (o : IsMadeAt Transaction earlier a g grp).
        let ih : begun (observed range rows earlier) range g s ≡ t ∷ [] = begun_one earlier served.1 a g grp front back t o e in
        let lt : a < length earlier = bound (Group Transaction) earlier a (Made g grp) o in
        let mine : begun (begins_of range g' new.first new.items) range g s ≡ [] =
        ⊎_elim {C = begun (begins_of range g' new.first new.items) range g s ≡ []}
        (λ (q : g ≡ g').
        let late : IsMadeAt Transaction (Made g' new ∷ earlier) (length earlier) g new = subst (λ z. IsMadeAt Transaction (Made g' new ∷ earlier) (length earlier) z new) (sym q) at_end in
        let p : next_after grp ≤ new.first = (kept_now.pairs a (length earlier) g grp new m late lt).0 in
        subst (λ z. begun (begins_of range z new.first new.items) range g s ≡ []) q (begun_below g new.first new.items s (omega arith)))
        (λ (q : g ≡ g' → ⊥). begun_other g' new.first new.items g s q)
        (cases_eq g g') in
        ap (λ z. z ++ begun (begins_of range g' new.first new.items) range g s) ih ∙ ap (λ z. t ∷ z) mine)
        (event_cases (Group Transaction) (Made g' new) earlier a (Made g grp) m)
    begun_one (Answered x from to ∷ earlier) served a g grp front back t m e =
        let s : ℕ = grp.first + length front in
        begun-append (observed range rows earlier) (dones_at range (event_at earlier x)) range g s ∙
        ⊎_elim {C = begun (observed range rows earlier) range g s ++ begun (dones_at range (event_at earlier x)) range g s ≡ t ∷ []}
        (λ (n : (a ≡ length earlier) × (Answered x from to ≡ Made g grp)). let q : Answered x from to ≡ Made g grp = n.1 in absurd (cc))
        (λ (o : IsMadeAt Transaction earlier a g grp).
        ap (λ z. z ++ begun (dones_at range (event_at earlier x)) range g s) (begun_one earlier served.1 a g grp front back t o e) ∙ ap (λ z. t ∷ z) (begun_dones_at (event_at earlier x) g s))
        (event_cases (Group Transaction) (Answered x from to) earlier a (Made g grp) m)
    begun_one (Showed g' start end groups ∷ earlier) served a g grp front back t m e =
        let s : ℕ = grp.first + length front in
        begun-append (observed range rows earlier) (Loaded range g' (rows (length earlier)) (suc (length (line_shown groups))) ∷ []) range g s ∙
        ⊎_elim {C = begun (observed range rows earlier) range g s ++ [] ≡ t ∷ []}
        (λ (n : (a ≡ length earlier) × (Showed g' start end groups ≡ Made g grp)). let q : Showed g' start end groups ≡ Made g grp = n.1 in absurd (cc))
        (λ (o : IsMadeAt Transaction earlier a g grp). ap (λ z. z ++ []) (begun_one earlier served.1 a g grp front back t o e))
        (event_cases (Group Transaction) (Showed g' start end groups) earlier a (Made g grp) m)

    -- where a load was observed
    pub record LoadAt (story : LogStory) (before : List Note) (r g : ℕ) (rs : List Row) (nx : ℕ) : Type 0 where
      pub front : LogStory
      pub earlier : LogStory
      pub start : ℕ
      pub end : ℕ
      pub groups : List (Placed (Group Transaction))
      pub story_is : story ≡ front ++ Showed g start end groups ∷ earlier
      pub before_is : before ≡ observed range rows earlier
      pub range_is : r ≡ range
      pub rows_are : rs ≡ rows (length earlier)
      pub next_is : nx ≡ suc (length (line_shown groups))

    load_later : (e : StreamEvent (Group Transaction)) (story : LogStory) (before : List Note) (r g : ℕ) (rs : List Row) (nx : ℕ) → LoadAt story before r g rs nx → LoadAt (e ∷ story) before r g rs nx
    load_later e story before r g rs nx h = record { front = e ∷ h.front; earlier = h.earlier; start = h.start; end = h.end; groups = h.groups; story_is = ap (λ z. e ∷ z) h.story_is; before_is = h.before_is; range_is = h.range_is; rows_are = h.rows_are; next_is = h.next_is }

    load_in_notes : (e : StreamEvent (Group Transaction)) (earlier : LogStory) (between after : List Note) (r g : ℕ) (rs : List Row) (nx : ℕ) →
        notes range rows earlier e ≡ between ++ Loaded r g rs nx ∷ after → LoadAt (e ∷ earlier) (observed range rows earlier ++ between) r g rs nx
    load_in_notes (Made g' group) earlier between after r g rs nx h =
        absurd (no_load_in_begins r g rs nx g' group.first group.items (subst (In (Loaded r g rs nx)) (sym h) (in_right (Loaded r g rs nx) between (Loaded r g rs nx ∷ after) (inl refl))))
    load_in_notes (Answered a from to) earlier between after r g rs nx h =
        absurd (go (event_at earlier a) (subst (In (Loaded r g rs nx)) (sym h) (in_right (Loaded r g rs nx) between (Loaded r g rs nx ∷ after) (inl refl))))
      where
        go : (o : Option (StreamEvent (Group Transaction))) → In (Loaded r g rs nx) (dones_at range o) → ⊥
        go None i = i
        go (Some (Made g' group)) i = no_load_in_dones r g rs nx g' group.first group.items i
        go (Some (Answered b f t)) i = i
        go (Some (Showed g' s e xs)) i = i
    load_in_notes (Showed g' start end groups) earlier [] after r g rs nx h =
        let q : Loaded range g' (rows (length earlier)) (suc (length (line_shown groups))) ≡ Loaded r g rs nx = cc in
        let er : range ≡ r = cc in
        let eg : g' ≡ g = cc in
        let ew : rows (length earlier) ≡ rs = cc in
        let en : suc (length (line_shown groups)) ≡ nx = cc in
        record {
          front = [];
          earlier = earlier;
          start = start;
          end = end;
          groups = groups;
          story_is = ap (λ z. Showed z start end groups ∷ earlier) eg;
          before_is = append-nil (observed range rows earlier);
          range_is = sym er;
          rows_are = sym ew;
          next_is = sym en;
        }
    load_in_notes (Showed g' start end groups) earlier (b ∷ between) after r g rs nx h =
        absurd (subst (In (Loaded r g rs nx)) tail_is (in_right (Loaded r g rs nx) between (Loaded r g rs nx ∷ after) (inl refl)))
      where
        tail_is : between ++ Loaded r g rs nx ∷ after ≡ []
        tail_is = cc

    pub load_at : (story : LogStory) (before after : List Note) (r g : ℕ) (rs : List Row) (nx : ℕ) → observed range rows story ≡ before ++ Loaded r g rs nx ∷ after → LoadAt story before r g rs nx
    load_at [] before after r g rs nx h = absurd (subst (In (Loaded r g rs nx)) (sym h) (in_right (Loaded r g rs nx) before (Loaded r g rs nx ∷ after) (inl refl)))
    load_at (e ∷ earlier) before after r g rs nx h =
        ⊎_elim {C = LoadAt (e ∷ earlier) before r g rs nx}
        (λ (s : (more : List Note) × (observed range rows earlier ≡ before ++ Loaded r g rs nx ∷ more)). load_later e earlier before r g rs nx (load_at earlier before s.0 r g rs nx s.1))
        (λ (s : (between : List Note) × (before ≡ observed range rows earlier ++ between) × (notes range rows earlier e ≡ between ++ Loaded r g rs nx ∷ after)).
        subst (λ z. LoadAt (e ∷ earlier) z r g rs nx) (sym s.1) (load_in_notes e earlier s.0 after r g rs nx s.2))
        (split_at (Loaded r g rs nx) before after (observed range rows earlier) (notes range rows earlier e) (sym h))

    pub older_many : (front earlier : LogStory) (n : ℕ) (x : StreamEvent (Group Transaction)) → event_at earlier n ≡ Some x → event_at (front ++ earlier) n ≡ Some x
    older_many [] earlier n x h = h
    older_many (e ∷ front) earlier n x h = older (Group Transaction) e (front ++ earlier) n x (older_many front earlier n x h)

    pub in_tail : (front earlier : LogStory) (n : ℕ) (x : StreamEvent (Group Transaction)) → event_at (front ++ earlier) n ≡ Some x → n < length earlier → event_at earlier n ≡ Some x
    in_tail [] earlier n x h lt = h
    in_tail (e ∷ front) earlier n x h lt =
        ⊎_elim {C = event_at earlier n ≡ Some x}
        (λ (q : (n ≡ length (front ++ earlier)) × (e ≡ x)).
        let same : n ≡ length (front ++ earlier) = q.0 in
        let len : length (front ++ earlier) ≡ length front + length earlier = length-append front earlier in
        absurd (omega arith))
        (λ o. in_tail front earlier n x o lt)
        (event_cases (Group Transaction) e (front ++ earlier) n x h)

    -- what a load is in the story
    pub load_shown : (story : LogStory) (before : List Note) (r g : ℕ) (rs : List Row) (nx : ℕ) (h : LoadAt story before r g rs nx) → IsShownAt Transaction story (length h.earlier) g h.start h.end h.groups
    load_shown story before r g rs nx h =
        subst (λ z. IsShownAt Transaction z (length h.earlier) g h.start h.end h.groups) (sym h.story_is)
        (older_many h.front (Showed g h.start h.end h.groups ∷ h.earlier) (length h.earlier) (Showed g h.start h.end h.groups) (newest (Group Transaction) (Showed g h.start h.end h.groups) h.earlier))

    pub began_in : (earlier : LogStory) (a g : ℕ) (grp : Group Transaction) (front back : List Transaction) (t : Transaction) → IsMadeAt Transaction earlier a g grp → grp.items ≡ front ++ t ∷ back →
        In (Began range g (grp.first + length front) t) (observed range rows earlier)
    began_in [] a g grp front back t m e = absurd (cc)
    began_in (x ∷ earlier) a g grp front back t m e =
        ⊎_elim {C = In (Began range g (grp.first + length front) t) (observed range rows earlier ++ notes range rows earlier x)}
        (λ (q : (a ≡ length earlier) × (x ≡ Made g grp)).
        in_right (Began range g (grp.first + length front) t) (observed range rows earlier) (notes range rows earlier x)
        (subst (λ z. In (Began range g (grp.first + length front) t) (notes range rows earlier z)) (sym q.1)
        (subst (λ z. In (Began range g (grp.first + length front) t) (begins_of range g grp.first z)) (sym e) (in_begins g grp.first front back t))))
        (λ o. in_left (Began range g (grp.first + length front) t) (observed range rows earlier) (notes range rows earlier x) (began_in earlier a g grp front back t o e))
        (event_cases (Group Transaction) x earlier a (Made g grp) m)

    pub record DoneAt (story : LogStory) (r g s : ℕ) : Type 0 where
      pub append : ℕ
      pub answer : ℕ
      pub from : ℕ
      pub to : ℕ
      pub group : Group Transaction
      pub front : List Transaction
      pub t : Transaction
      pub back : List Transaction
      pub range_is : r ≡ range
      pub made : IsMadeAt Transaction story append g group
      pub answered : event_at story answer ≡ Some (Answered append from to)
      pub items : group.items ≡ front ++ t ∷ back
      pub number : s ≡ group.first + length front

    done_later : (e : StreamEvent (Group Transaction)) (story : LogStory) (r g s : ℕ) → DoneAt story r g s → DoneAt (e ∷ story) r g s
    done_later e story r g s d = record {
      append = d.append;
      answer = d.answer;
      from = d.from;
      to = d.to;
      group = d.group;
      front = d.front;
      t = d.t;
      back = d.back;
      range_is = d.range_is;
      made = older (Group Transaction) e story d.append (Made g d.group) d.made;
      answered = older (Group Transaction) e story d.answer (Answered d.append d.from d.to) d.answered;
      items = d.items;
      number = d.number;
    }

    done_of_answer : (a from to : ℕ) (earlier : LogStory) (r g s : ℕ) (o : Option (StreamEvent (Group Transaction))) → event_at earlier a ≡ o → In (Done r g s) (dones_at range o) → DoneAt (Answered a from to ∷ earlier) r g s
    done_of_answer a from to earlier r g s None e i = absurd i
    done_of_answer a from to earlier r g s (Some (Made g' group)) e i =
        let q : (r ≡ range) × (g ≡ g') × ((front : List Transaction) × (t : Transaction) × (back : List Transaction) × (group.items ≡ front ++ t ∷ back) × (s ≡ group.first + length front)) = in_dones r g g' group.first s group.items i in
        record {
          append = a;
          answer = length earlier;
          from = from;
          to = to;
          group = group;
          front = (q.2).0;
          t = (q.2).1;
          back = (q.2).2;
          range_is = q.0;
          made = older (Group Transaction) (Answered a from to) earlier a (Made g group) (e ∙ ap (λ z. Some (Made z group)) (sym q.1));
          answered = newest (Group Transaction) (Answered a from to) earlier;
          items = (q.2).3;
          number = (q.2).4;
        }
    done_of_answer a from to earlier r g s (Some (Answered b f t)) e i = absurd i
    done_of_answer a from to earlier r g s (Some (Showed g' st en xs)) e i = absurd i

    pub done_at : (story : LogStory) (r g s : ℕ) → In (Done r g s) (observed range rows story) → DoneAt story r g s
    done_at [] r g s i = absurd i
    done_at (Made g' new ∷ earlier) r g s i =
        ⊎_elim {C = DoneAt (Made g' new ∷ earlier) r g s} (λ o. done_later (Made g' new) earlier r g s (done_at earlier r g s o))
        (λ o. absurd (no_done_in_begins r g s g' new.first new.items o)) (in_cases (Done r g s) (observed range rows earlier) (begins_of range g' new.first new.items) i)
    done_at (Answered a from to ∷ earlier) r g s i =
        ⊎_elim {C = DoneAt (Answered a from to ∷ earlier) r g s} (λ o. done_later (Answered a from to) earlier r g s (done_at earlier r g s o))
        (λ o. done_of_answer a from to earlier r g s (event_at earlier a) refl o) (in_cases (Done r g s) (observed range rows earlier) (dones_at range (event_at earlier a)) i)
    done_at (Showed g' start end groups ∷ earlier) r g s i =
        ⊎_elim {C = DoneAt (Showed g' start end groups ∷ earlier) r g s} (λ o. done_later (Showed g' start end groups) earlier r g s (done_at earlier r g s o))
        (λ o. absurd (no_done_in_load r g s g' (rows (length earlier)) (suc (length (line_shown groups))) o)) (in_cases (Done r g s) (observed range rows earlier) (Loaded range g' (rows (length earlier)) (suc (length (line_shown groups))) ∷ []) i)

  module _ (rows : ℕ → List Row) where
    -- what is observed of the front of a story stands at the front
    pub observed_front : (front earlier : LogStory) → (rest : List Note) × (observed range rows (front ++ earlier) ≡ observed range rows earlier ++ rest)
    observed_front [] earlier = ([], sym (append-nil (observed range rows earlier)))
    observed_front (e ∷ front) earlier =
        let r : (rest : List Note) × (observed range rows (front ++ earlier) ≡ observed range rows earlier ++ rest) = observed_front front earlier in
        (r.0 ++ notes range rows (front ++ earlier) e, ap (λ z. z ++ notes range rows (front ++ earlier) e) r.1 ∙ append_assoc (observed range rows earlier) r.0 (notes range rows (front ++ earlier) e))

-- ---- one story, observed as that of two ranges

no_begin_in_dones : (r q g n g' s : ℕ) (t : Transaction) (ts : List Transaction) → In (Began r g n t) (dones_of q g' s ts) → ⊥
no_begin_in_dones r q g n g' s t [] h = h
no_begin_in_dones r q g n g' s t (u ∷ ts) (inl e) = cc
no_begin_in_dones r q g n g' s t (u ∷ ts) (inr h) = no_begin_in_dones r q g n g' (suc s) t ts h

no_begin_in_dones_at : (r q g n : ℕ) (t : Transaction) (o : Option (StreamEvent (Group Transaction))) → In (Began r g n t) (dones_at q o) → ⊥
no_begin_in_dones_at r q g n t None i = i
no_begin_in_dones_at r q g n t (Some (Made g' group)) i = no_begin_in_dones r q g n g' group.first t group.items i
no_begin_in_dones_at r q g n t (Some (Answered a f to)) i = i
no_begin_in_dones_at r q g n t (Some (Showed g' s e xs)) i = i

begins_as : (r q g n g' s : ℕ) (t : Transaction) (ts : List Transaction) → In (Began r g n t) (begins_of r g' s ts) → In (Began q g n t) (begins_of q g' s ts)
begins_as r q g n g' s t [] i = absurd i
begins_as r q g n g' s t (u ∷ ts) (inl e) =
    let eg : g ≡ g' = cc in
    let en : n ≡ s = cc in
    let et : t ≡ u = cc in
    let same : Began q g n t ≡ Began q g' s u = cc (eg, en, et) in
    inl same
begins_as r q g n g' s t (u ∷ ts) (inr i) = inr (begins_as r q g n g' (suc s) t ts i)

-- what began for one began for the other
pub began_as : (r q : ℕ) (rows others : ℕ → List Row) (story : LogStory) (g n : ℕ) (t : Transaction) → In (Began r g n t) (observed r rows story) → In (Began q g n t) (observed q others story)
began_as r q rows others [] g n t i = absurd i
began_as r q rows others (Made g' new ∷ earlier) g n t i =
    ⊎_elim {C = In (Began q g n t) (observed q others earlier ++ begins_of q g' new.first new.items)}
    (λ o. in_left (Began q g n t) (observed q others earlier) (begins_of q g' new.first new.items) (began_as r q rows others earlier g n t o))
    (λ o. in_right (Began q g n t) (observed q others earlier) (begins_of q g' new.first new.items) (begins_as r q g n g' new.first t new.items o))
    (in_cases (Began r g n t) (observed r rows earlier) (begins_of r g' new.first new.items) i)
began_as r q rows others (Answered a from to ∷ earlier) g n t i =
    ⊎_elim {C = In (Began q g n t) (observed q others earlier ++ dones_at q (event_at earlier a))}
    (λ o. in_left (Began q g n t) (observed q others earlier) (dones_at q (event_at earlier a)) (began_as r q rows others earlier g n t o))
    (λ o. absurd (no_begin_in_dones_at r r g n t (event_at earlier a) o))
    (in_cases (Began r g n t) (observed r rows earlier) (dones_at r (event_at earlier a)) i)
began_as r q rows others (Showed g' start end groups ∷ earlier) g n t i =
    ⊎_elim {C = In (Began q g n t) (observed q others (Showed g' start end groups ∷ earlier))}
    (λ o. in_left (Began q g n t) (observed q others earlier) (notes q others earlier (Showed g' start end groups)) (began_as r q rows others earlier g n t o))
    (λ o. absurd (no_begin_in_load o))
    (in_cases (Began r g n t) (observed r rows earlier) (notes r rows earlier (Showed g' start end groups)) i)
  where
    no_begin_in_load : In (Began r g n t) (Loaded r g' (rows (length earlier)) (suc (length (line_shown groups))) ∷ []) → ⊥
    no_begin_in_load (inl e) = cc
    no_begin_in_load (inr h) = h

-- ---- the observations of one range among all

pub only-append : (r : ℕ) (xs ys : List Note) → only r (xs ++ ys) ≡ only r xs ++ only r ys
only-append r [] ys = refl
only-append r (o ∷ xs) ys = ap (λ z. cond (is_of r o) (o ∷ z) z) (only-append r xs ys) ∙ back (is_of r o)
  where
    back : (b : Bool) → cond b (o ∷ (only r xs ++ only r ys)) (only r xs ++ only r ys) ≡ cond b (o ∷ only r xs) (only r xs) ++ only r ys
    back true = refl
    back false = refl

pub only_here : (r : ℕ) (o : Note) (h : List Note) → is_of r o ≡ true → only r (o ∷ h) ≡ o ∷ only r h
only_here r o h is = ap (λ b. cond b (o ∷ only r h) (only r h)) is

pub in_only : (r : ℕ) (x : Note) (h : List Note) → In x (only r h) → In x h
in_only r x [] i = i
in_only r x (o ∷ h) i = go (is_of r o) (λ m. in_only r x h m) i
  where
    go : (b : Bool) → (In x (only r h) → In x h) → In x (cond b (o ∷ only r h) (only r h)) → In x (o ∷ h)
    go true rest (inl e) = inl e
    go true rest (inr m) = inr (rest m)
    go false rest m = inr (rest m)

pub to_only : (r : ℕ) (x : Note) (h : List Note) → is_of r x ≡ true → In x h → In x (only r h)
to_only r x [] is i = i
to_only r x (o ∷ h) is (inl e) = subst (In x) (sym (only_here r o h (subst (λ z. is_of r z ≡ true) e is))) (inl e)
to_only r x (o ∷ h) is (inr i) = go (is_of r o) (to_only r x h is i)
  where
    go : (b : Bool) → In x (only r h) → In x (cond b (o ∷ only r h) (only r h))
    go true m = inr m
    go false m = m

-- what began under a number began in what is observed of the range alone
pub begun_only : (r : ℕ) (h : List Note) (g s : ℕ) → begun (only r h) r g s ≡ begun h r g s
begun_only r [] g s = refl
begun_only r (Began r' g' s' t ∷ h) g s = go (eqb r r') refl ∙ ap (λ z. cond ((eqb r r') && ((eqb g g') && (eqb s s'))) (t ∷ z) z) (begun_only r h g s)
  where
    go : (b : Bool) → eqb r r' ≡ b → begun (cond b (Began r' g' s' t ∷ only r h) (only r h)) r g s
        ≡ cond ((eqb r r') && ((eqb g g') && (eqb s s'))) (t ∷ begun (only r h) r g s) (begun (only r h) r g s)
    go true e = refl
    go false e = ap (λ b. cond (b && ((eqb g g') && (eqb s s'))) (t ∷ begun (only r h) r g s) (begun (only r h) r g s)) (sym e)
begun_only r (Done r' g' s' ∷ h) g s = go (eqb r r') ∙ begun_only r h g s
  where
    go : (b : Bool) → begun (cond b (Done r' g' s' ∷ only r h) (only r h)) r g s ≡ begun (only r h) r g s
    go true = refl
    go false = refl
begun_only r (Loaded r' g' rows next ∷ h) g s = go (eqb r r') ∙ begun_only r h g s
  where
    go : (b : Bool) → begun (cond b (Loaded r' g' rows next ∷ only r h) (only r h)) r g s ≡ begun (only r h) r g s
    go true = refl
    go false = refl
begun_only r (Split b c d key ∷ h) g s = begun_only r h g s
begun_only r (Merged c d e ∷ h) g s = begun_only r h g s
begun_only r (Acked e o grp ∷ h) g s = begun_only r h g s
begun_only r (SealedAt e l ∷ h) g s = begun_only r h g s
begun_only r (Got r' g' key value ∷ h) g s = begun_only r h g s
begun_only r (Content e n grps ∷ h) g s = begun_only r h g s
begun_only r (Seen e n o bytes ∷ h) g s = begun_only r h g s

-- what began under a number stands there
pub begun_in : (h : List Note) (r g s : ℕ) (u : Transaction) (us : List Transaction) → begun h r g s ≡ u ∷ us → In (Began r g s u) h
begun_in [] r g s u us e = absurd (let q : [] ≡ u ∷ us = e in cc)
begun_in (Began r' g' s' t ∷ h) r g s u us e = go ((eqb r r') && ((eqb g g') && (eqb s s'))) (λ q. begun_in h r g s u us q) refl e
  where
    go : (b : Bool) → (begun h r g s ≡ u ∷ us → In (Began r g s u) h) → ((eqb r r') && ((eqb g g') && (eqb s s'))) ≡ b → cond b (t ∷ begun h r g s) (begun h r g s) ≡ u ∷ us → In (Began r g s u) (Began r' g' s' t ∷ h)
    go true rest is q =
        let same : t ≡ u = cc in
        let er : r ≡ r' = grind (arith, nat_tests) in
        let eg : g ≡ g' = grind (arith, nat_tests) in
        let es : s ≡ s' = grind (arith, nat_tests) in
        let all : Began r g s u ≡ Began r' g' s' t = cc (er, eg, es, same) in
        inl all
    go false rest is q = inr (rest q)
begun_in (Done r' g' s' ∷ h) r g s u us e = inr (begun_in h r g s u us e)
begun_in (Loaded r' g' rows next ∷ h) r g s u us e = inr (begun_in h r g s u us e)
begun_in (Split b c d key ∷ h) r g s u us e = inr (begun_in h r g s u us e)
begun_in (Merged c d x ∷ h) r g s u us e = inr (begun_in h r g s u us e)
begun_in (Acked x o grp ∷ h) r g s u us e = inr (begun_in h r g s u us e)
begun_in (SealedAt x l ∷ h) r g s u us e = inr (begun_in h r g s u us e)
begun_in (Got r' g' key value ∷ h) r g s u us e = inr (begun_in h r g s u us e)
begun_in (Content x n grps ∷ h) r g s u us e = inr (begun_in h r g s u us e)
begun_in (Seen x n o bytes ∷ h) r g s u us e = inr (begun_in h r g s u us e)
