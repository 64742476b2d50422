-- The law of families with reads, over stories of logs that each load reads from the first place: each Get that is answered shows the table
-- after every transaction that was acknowledged so far.
use Rattle.std.proofs.Common.{◌≡◌, ℕ, zero, suc, ◌+◌, ◌<◌, ◌≤◌, List, [], ◌∷◌, ◌++◌, length, true, Option, Some, eqb, refl, sym, ap, ◌∙◌, subst, inl, inr, arith}
use Rattle.std.specs.Prelude.{Contains}
use Rattle.std.proofs.lemmas.Bool.{cases_eq, cases_lt}
use Rattle.wire.specs.declared.note.Note.{Note}
use Rattle.wire.specs.declared.note.Note.TheVariants.{Began, Done, Loaded}
use Rattle.wire.specs.declared.rows.Row.{Row}
use Rattle.commitlog.specs.Replay.{Numbered as Group}
use Rattle.model_partition.specs.Lines.{StandsIn}
use Rattle.model_partition.specs.Past.{Bytes, Transaction, empty_table, after_line, From_nothing, owners, kin, keys_of, kept, begun, IsMember, IsPrefixOf}
use Rattle.model_partition.specs.Served.{IsServed as IsServedGet}
use Rattle.model_histories.specs.Log.{line_shown, is_of, only}
use Rattle.model_histories.specs.ServedTables.{line_to}
use Rattle.model_histories.specs.Story.{Made, Answered, Showed, event_at}
use Rattle.model_histories.specs.StreamMachine.{In}
use Rattle.laws_tables.specs.Families.{generation_of}
use Rattle.laws_tables.specs.Through.{IsTail, IsLoaded, IsAnswered}
use Rattle.laws_tables.specs.WholeStories.{IsServed, observed}
use Rattle.laws_tables.proofs.Births.{smaller}
use Rattle.laws_tables.proofs.Holds.{LogStory}
use Rattle.laws_tables.proofs.LinesTo.{AnswersNext, MemberAt, done_of_tail, line_grows, line_begins, line_has, line_member}
use Rattle.laws_tables.proofs.Members.{in_contains, contains_in, in_right, in_cases}
use Rattle.laws_tables.proofs.Observed.{DoneAt, done_at, began_in, in_tail, to_only, in_only}
use Rattle.laws_tables.proofs.Range.{IsMadeAt, bound, eq_test}
use Rattle.laws_tables.proofs.StoryFamilies.{HasStoryParent, StoryFamily, load_line, load_line_is, loaded_in, member_longer, stands_member, told_born, in_moment, of_first, of_child, below, at_most, began_before, own_load, rises, parent_begins, prefix_trans, done_stands, done_begun, kin_is}
use Rattle.laws_tables.proofs.Through.{tail_event, served_tail, answered_stands}

self : (r : ℕ) → eqb r r ≡ true
self r = eq_test Transaction r

module _ (h : List Note) (story taken : ℕ → LogStory) (rows : ℕ → ℕ → List Row) where
  -- A Get of a range under a generation, answered after these observations: at a point of its story at which these were what was observed
  -- of it, and each answer was for the group that came next.
  pub record IsStoryRead (before : List Note) (r g : ℕ) : Type 0 where
    pub point : LogStory
    pub tail : IsTail point (story r)
    pub next : AnswersNext point
    pub told : observed r (rows r) point ≡ observed r (rows r) (taken r) ++ only r before
    pub early : (o : Note) → In o before → In o h
    pub loaded : (rs : List Row) × (nx : ℕ) × In (Loaded r g rs nx) before
    pub highest : (o : Note) → In o before → is_of r o ≡ true → generation_of o ≤ g
    pub alone : (r' : ℕ) → Contains (kin h r') r → (r' ≡ r → ⊥) → only r' before ≡ []

  module _ (f : StoryFamily h story taken rows) (before : List Note) (r g : ℕ) (q : IsStoryRead before r g) where
    -- the line that the generation had come to
    abbrev now : List Transaction
    now = line_to q.point g

    abbrev load : Note
    load = Loaded r g q.loaded.0 q.loaded.1

    load_told : In load h
    load_told = q.early load q.loaded.2

    point_served : IsServed q.point
    point_served = served_tail Transaction q.tail.0 q.point (subst IsServed q.tail.1 (f.served r))

    -- what was observed before the Get was observed of the point
    at_point : (o : Note) → is_of r o ≡ true → In o before → In o (observed r (rows r) q.point)
    at_point o is i = subst (In o) (sym q.told) (in_right o (observed r (rows r) (taken r)) (only r before) (to_only r o before is i))

    loaded_here : IsLoaded q.point g
    loaded_here = loaded_in r (rows r) q.point g q.loaded.0 q.loaded.1 (at_point load (self r) q.loaded.2)

    same_load : load_line q.point g ≡ load_line (story r) g
    same_load =
        let l : IsLoaded q.point g = loaded_here in
        load_line_is q.point point_served l.0 g l.1 l.2 l.3 l.4
        ∙ sym (load_line_is (story r) (f.served r) l.0 g l.1 l.2 l.3 (tail_event Transaction q.point (story r) q.tail l.0 (Showed g l.1 l.2 l.3) l.4))

    read_begins : IsPrefixOf (load_line (story r) g) now
    read_begins = subst (λ z. IsPrefixOf z now) same_load (line_grows q.point g)

    -- ---- what was acknowledged under the generation

    abbrev done_in_story : (s : ℕ) (d : DoneAt r (rows r) q.point r g s) → DoneAt r (rows r) (story r) r g s
    done_in_story s d = done_of_tail r (rows r) q.point (story r) q.tail g s d

    -- nothing of the part that was taken was acknowledged under it
    not_taken : (s : ℕ) → In (Done r g s) (observed r (rows r) (taken r)) → ⊥
    not_taken s i = elim (told_born h story taken rows f r load (self r) load_told) as (λ x. ⊥) [
      | inl a ↦ subst (λ z. In (Done r g s) (observed r (rows r) z)) a.nothing i
      | inr b ↦
          let p : HasStoryParent h story taken rows b.0 r = b.1 in
          let d : DoneAt r (rows r) (taken r) r g s = done_at r (rows r) (taken r) r g s i in
          let began : In (Began r g (d.group.first + length d.front) d.t) (observed r (rows r) (taken r)) = began_in r (rows r) (taken r) d.append g d.group d.front d.back d.t d.made d.items in
          let x : (r' : ℕ) × In r' (owners h b.0) × In (Began r' g (d.group.first + length d.front) d.t) p.before =
          began_before h story taken rows f (suc r) r (omega arith) b.0 p g (d.group.first + length d.front) d.t began in
          let low : g ≤ p.generation = at_most h story taken rows f b.0 r p x.0 x.1 (Began x.0 g (d.group.first + length d.front) d.t)
          (in_moment h story taken rows f b.0 r p (Began x.0 g (d.group.first + length d.front) d.t) x.2) (self x.0) in
          let up : p.generation < g = p.above load load_told (self r) in
          absurd (omega arith)
    ]

    further : (s : ℕ) (t : Transaction) → IsMember now s t → length (load_line (story r) g) < s → (begun h r g s ≡ t ∷ []) × Contains before (Done r g s)
    further s t m low =
        let x : MemberAt r (rows r) q.point g s t = line_member r (rows r) q.point q.next g s t m (subst (λ z. length z < s) (sym same_load) low) in
        let told : In (Done r g s) (only r before) =
        elim (in_cases (Done r g s) (observed r (rows r) (taken r)) (only r before) (subst (In (Done r g s)) q.told x.told)) as (λ z. In (Done r g s) (only r before)) [
          | inl i ↦ absurd (not_taken s i)
          | inr i ↦ i
        ] in
        let i : In (Done r g s) before = in_only r (Done r g s) before told in (
          done_begun h story taken rows f r g s (q.early (Done r g s) i) (done_in_story s x.at) ∙ ap (λ z. z ∷ []) x.is,
          contains_in (Done r g s) before i,
        )

    -- ---- all that was acknowledged before

    abbrev IsDoneIn : ℕ → ℕ → ℕ → Type 0
    IsDoneIn r' g' s = (t : Transaction) × (begun h r' g' s ≡ t ∷ []) × IsMember now s t

    done_now : (s : ℕ) → In (Done r g s) before → IsDoneIn r g s
    done_now s i =
        let d : DoneAt r (rows r) q.point r g s = done_at r (rows r) q.point r g s (at_point (Done r g s) (self r) i) in
        let st : StandsIn now d.group = line_has q.point point_served q.next d.append d.answer g d.from d.to d.group d.made d.answered in
        (d.t, done_begun h story taken rows f r g s (q.early (Done r g s) i) (done_in_story s d), stands_member now d.group d.front d.back d.t s st d.items d.number)

    done_before : (r' g' s : ℕ) → In r' (owners h r) → In (Done r' g' s) before → IsDoneIn r' g' s
    done_before r' g' s owner i = elim (cases_lt g' g) as (λ x. IsDoneIn r' g' s) [
      | inl lt ↦
          let x : (t : Transaction) × (begun h r' g' s ≡ t ∷ []) × IsMember (load_line (story r) g) s t =
          done_stands h story taken rows f (suc r) r (omega arith) g q.loaded.0 q.loaded.1 load_told r' g' s owner lt (q.early (Done r' g' s) i) in
          (x.0, x.1, member_longer (load_line (story r) g) now s x.0 x.2 read_begins)
      | inr ge ↦ elim (told_born h story taken rows f r load (self r) load_told) as (λ x. IsDoneIn r' g' s) [
        | inl a ↦ same ge (of_first h story taken rows f r a r' owner)
        | inr b ↦ elim (of_child h story taken rows f b.0 r b.1 r' owner) as (λ x. IsDoneIn r' g' s) [
          | inl e ↦ same ge e
          | inr m ↦
              let low : g' ≤ (b.1).generation = at_most h story taken rows f b.0 r b.1 r' m (Done r' g' s) (q.early (Done r' g' s) i) (self r') in
              let up : (b.1).generation < g = (b.1).above load load_told (self r) in
              absurd (omega arith)
        ]
      ]
    ]
      where
        same : g ≤ g' → r' ≡ r → IsDoneIn r' g' s
        same ge e =
            let le : g' ≤ g = q.highest (Done r' g' s) i (subst (λ z. is_of z (Done r' g' s) ≡ true) e (self r')) in
            let eg : g' ≡ g = omega arith in
            subst (λ z. IsDoneIn z g' s) (sym e) (subst (λ z. IsDoneIn r z s) (sym eg) (done_now s (subst (λ z. In (Done r z s) before) eg (subst (λ z. In (Done z g' s) before) e i))))

    -- ---- it begins what later loads show

    -- of the range itself
    later_own : (g' : ℕ) (rs' : List Row) (nx' : ℕ) → In (Loaded r g' rs' nx') h → g < g' → IsPrefixOf now (load_line (story r) g')
    later_own g' rs' nx' i lt =
        let l : IsLoaded (story r) g' = own_load h story taken rows f r g' rs' nx' i in
        let first : IsPrefixOf (load_line (story r) g) (load_line (story r) g') = rises h story taken rows f r g g' (own_load h story taken rows f r g q.loaded.0 q.loaded.1 load_told) l lt in
        line_begins q.point q.next g (load_line (story r) g') (subst (λ z. IsPrefixOf z (load_line (story r) g')) (sym same_load) first)
        (λ a k from to group made answer.
        subst (λ z. StandsIn z group) (sym (load_line_is (story r) (f.served r) l.0 g' l.1 l.2 l.3 l.4))
        (answered_stands Transaction (story r) (f.served r) (f.order r) l.0 g' l.1 l.2 a g k from to l.3 group l.4
        (tail_event Transaction q.point (story r) q.tail a (Made g group) made) lt (tail_event Transaction q.point (story r) q.tail k (Answered a from to) answer)))

    -- of a child that was split off under the generation
    later_child : (r' : ℕ) (b : HasStoryParent h story taken rows r r') → g ≡ b.generation → (g' : ℕ) (rs' : List Row) (nx' : ℕ) → In (Loaded r' g' rs' nx') h → IsPrefixOf now (load_line (story r') g')
    later_child r' b e g' rs' nx' i =
        let l : IsLoaded (story r') g' = own_load h story taken rows f r' g' rs' nx' i in
        let first : IsPrefixOf (load_line (story r) b.generation) (load_line (story r') g') = parent_begins h story taken rows f r r' b g' rs' nx' i in
        let up : b.generation < g' = b.above (Loaded r' g' rs' nx') i (self r') in
        line_begins q.point q.next g (load_line (story r') g')
        (subst (λ z. IsPrefixOf z (load_line (story r') g')) (sym same_load) (subst (λ z. IsPrefixOf (load_line (story r) z) (load_line (story r') g')) (sym e) first))
        (λ a k from to group made answer.
        subst (λ z. StandsIn z group) (sym (load_line_is (story r') (f.served r') l.0 g' l.1 l.2 l.3 l.4)) (stands l up a group (subst (λ z. IsMadeAt Transaction q.point a z group) e made)))
      where
        stands : (l : IsLoaded (story r') g') → b.generation < g' → (a : ℕ) (group : Group Transaction) → IsMadeAt Transaction q.point a b.generation group → StandsIn (line_shown l.3) group
        stands l up a group made =
            let there : IsMadeAt Transaction (story r) a b.generation group = tail_event Transaction q.point (story r) q.tail a (Made b.generation group) made in
            let x : IsAnswered (taken r') a = b.answered a group there in
            let in_time : x.0 < length (taken r') = bound (Group Transaction) (taken r') x.0 (Answered a x.1 x.2) x.4 in
            let after : a < x.0 = x.3 in
            let here : IsMadeAt Transaction (taken r') a b.generation group =
            in_tail r (rows r) (b.front).0 (taken r') a (Made b.generation group) (subst (λ z. event_at z a ≡ Some (Made b.generation group)) (b.front).1 there) (omega arith) in
            answered_stands Transaction (story r') (f.served r') (f.order r') l.0 g' l.1 l.2 a b.generation x.0 x.1 x.2 l.3 group l.4
            (tail_event Transaction (taken r') (story r') (f.tail r') a (Made b.generation group) here) up
            (tail_event Transaction (taken r') (story r') (f.tail r') x.0 (Answered a x.1 x.2) x.4)

    later : (n r' : ℕ) → r' < n → (g' : ℕ) (rs' : List Row) (nx' : ℕ) → In (Loaded r' g' rs' nx') h → In r (owners h r') → g < g' → IsPrefixOf now (load_line (story r') g')
    later zero r' less g' rs' nx' i owner lt = absurd (omega arith)
    later (suc n) r' less g' rs' nx' i owner lt =
        elim (told_born h story taken rows f r' (Loaded r' g' rs' nx') (self r') i) as (λ x. IsPrefixOf now (load_line (story r') g')) [
          | inl a ↦ same (of_first h story taken rows f r' a r owner)
          | inr b ↦ elim (of_child h story taken rows f b.0 r' b.1 r owner) as (λ x. IsPrefixOf now (load_line (story r') g')) [
            | inl e ↦ same e
            | inr m ↦
                let smaller_one : b.0 < r' = smaller h b.0 r' (b.1).child in
                let parent_load : In (Loaded b.0 (b.1).generation (b.1).loaded.0 (b.1).loaded.1) h =
                in_moment h story taken rows f b.0 r' b.1 (Loaded b.0 (b.1).generation (b.1).loaded.0 (b.1).loaded.1) (b.1).loaded.2 in
                let lower : g < (b.1).generation → IsPrefixOf now (load_line (story r') g') = λ low.
                prefix_trans h story taken rows f now (load_line (story b.0) (b.1).generation) (load_line (story r') g')
                (later n b.0 (omega arith) (b.1).generation (b.1).loaded.0 (b.1).loaded.1 parent_load m low)
                (parent_begins h story taken rows f b.0 r' b.1 g' rs' nx' i) in
                elim (below h story taken rows f b.0 r' b.1 r m load load_told (self r)) as (λ x. IsPrefixOf now (load_line (story r') g')) [
                  | inl x ↦ elim (cases_eq g (b.1).generation) as (λ y. IsPrefixOf now (load_line (story r') g')) [
                    | inl e ↦ last b.0 x.0 b.1 e
                    | inr ne ↦ let le : g ≤ (b.1).generation = x.1 in lower (omega arith)
                  ]
                  | inr x ↦ lower x
                ]
          ]
        ]
      where
        same : r ≡ r' → IsPrefixOf now (load_line (story r') g')
        same e = subst (λ z. IsPrefixOf now (load_line (story z) g')) e (later_own g' rs' nx' (subst (λ z. In (Loaded z g' rs' nx') h) (sym e) i) lt)

        last : (p : ℕ) → r ≡ p → (b : HasStoryParent h story taken rows p r') → g ≡ b.generation → IsPrefixOf now (load_line (story r') g')
        last p e = subst (λ z. (b : HasStoryParent h story taken rows z r') → g ≡ b.generation → IsPrefixOf now (load_line (story r') g')) e (λ b same_generation. later_child r' b same_generation g' rs' nx' i)

    -- THE LAW OF FAMILIES WITH READS
    pub read_is_served : (key : Bytes) (value : Option Bytes) → value ≡ kept (keys_of h r) (after_line now empty_table) key →
        IsServedGet h before (λ r' g'. From_nothing (load_line (story r') g')) r g key value
    read_is_served key value shows = record {
      now = From_nothing (line_to q.point g);
      loaded = (q.loaded.0, q.loaded.1, contains_in load before q.loaded.2);
      start = refl;
      begins = read_begins;
      further = further;
      done = λ r' g' s owner done. done_before r' g' s (in_contains r' (owners h r) owner) (in_contains (Done r' g' s) before done);
      later = λ r' g' rs' nx' c lt k.
          let i : In (Loaded r' g' rs' nx') h = in_contains (Loaded r' g' rs' nx') h c in
          let owner : In r (owners h r') = subst (In r) (kin_is h story taken rows f (suc r') r' (omega arith) (Loaded r' g' rs' nx') (self r') i) (in_contains r (kin h r') k) in
          (refl, later (suc r') r' (omega arith) g' rs' nx' i owner lt);
      alone = λ r' g' s k other done.
          subst (In (Done r' g' s)) (q.alone r' k other) (to_only r' (Done r' g' s) before (self r') (in_contains (Done r' g' s) before done));
      shows = shows;
    }
