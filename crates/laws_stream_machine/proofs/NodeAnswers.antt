-- What nodes answer of an extent, as steps of the machine of its stream: appends that all places have, and checks.
use Rattle.std.proofs.Common.{◌≡◌, ◌⊎◌, ℕ, zero, suc, ◌+◌, ◌<◌, ◌≤◌, List, [], ◌∷◌, ◌++◌, length, map, take, Option, Some, None, slice_get, refl, sym, ap, ◌∙◌, subst, inl, inr, arith, append-nil, append_assoc, ◌==◌}
use Rattle.std.proofs.lemmas.Bool.{cases_lt}
use Rattle.std.proofs.lemmas.Option.{slice_get_within}
use Rattle.block_types.specs.declared.record.Nodes.{Nodes}
use Rattle.wire.specs.declared.streams.StreamName.{StreamName}
use Rattle.replica.specs.Groups.{Group, size, text_length}
use Rattle.replica.proofs.Lengths.{text_length-append}
use Rattle.replica.proofs.Placing.{length-cons}
use Rattle.streams.specs.Streams.{Stream}
use Rattle.model_streams.proofs.Tests.{if_elim}
use Rattle.laws_streams.specs.Origins.{Origin, Begins}
use Rattle.laws_streams.proofs.Lists.{begins_length, stands_index}
use Rattle.laws_streams.proofs.Ground.{Ground, Sound}
use Rattle.laws_streams.proofs.MoreKnown.{Later}
use Rattle.laws_streams.proofs.LastingLengths.{sealed_beyond}
use Rattle.model_histories.specs.Story.{Copy}
use Rattle.model_histories.specs.StreamMachine as machine
use Rattle.model_histories.specs.StreamMachine.{In, SealedExtent, OpenExtent, base, count, one_if_live, all_shut, shut_at, Chain, MachineState, TakesCheck, AnswersCheck, AnswersLate, AnswersAppend, all_copies}
use Rattle.laws_tables.proofs.Members.{in_left, in_right}
use Rattle.laws_stream_machine.specs.Refinement.{Sent, purpose_of, Appends, extents_of}
use Rattle.laws_stream_machine.proofs.ExtentSteps.{Sized, group_of, TiedLive, FoundFront, chain_len, chain_both, floor_above, floor_low, live_end, find_front, keep_tied, end_after, after_chain}
use Rattle.laws_stream_machine.proofs.StepSequences.{Onward, Walk, walk_on, steps_to, with_lived, keep_all, shut_within}
use Rattle.laws_stream_machine.proofs.MachineCore.{IsIn, FencedBy, Sourced, ShutThere, LiveThere, StoodThere, Shaped, settled_lived, settled_later, sourced_later, live_count_is, same_got, get_front}
use Rattle.laws_stream_machine.proofs.StreamRules.{known_more}

-- ---- copies of a chain

-- where the copy of a group stands
pub record CopyAt (a : ℕ) (xs : List (Copy Group)) (k : ℕ) (group : Group) : Type 0 where
  pub copy : Copy Group
  pub is : slice_get xs k ≡ Some copy
  pub same : copy.group ≡ group
  pub from : copy.from ≡ a + text_length (take k (map group_of xs))
  pub to : copy.to ≡ copy.from + size group

copy_at : (a : ℕ) (xs : List (Copy Group)) (b k : ℕ) (group : Group) → Chain a xs b → Sized xs → slice_get (map group_of xs) k ≡ Some group → CopyAt a xs k group
copy_at a [] b k group chain sized is = absurd cc
copy_at a (x ∷ xs) b zero group (from, filled, chain) (long, sized) is =
    let same : x.group ≡ group = cc in
    record { copy = x; is = refl; same = same; from = omega (arith, from); to = omega (arith, long, ap size same) }
copy_at a (x ∷ xs) b (suc k) group (from, filled, chain) (long, sized) is =
    let r = copy_at x.to xs b k group chain sized is in
    record { copy = r.copy; is = r.is; same = r.same; from = omega (arith, r.from, from, long, length-cons x.group (take k (map group_of xs))); to = r.to }

in_got : {A : Type 0} (xs : List A) (k : ℕ) (x : A) → slice_get xs k ≡ Some x → In x xs
in_got [] k x is = absurd cc
in_got (y ∷ xs) zero x is = let c : y ≡ x = cc in inl (sym c)
in_got (y ∷ xs) (suc k) x is = inr (in_got xs k x is)

-- what ends within what is kept is kept
kept_got : (a : ℕ) (loose : List (Copy Group)) (b k : ℕ) (c : Copy Group) → Chain a loose b → slice_get loose k ≡ Some c → a < c.to
kept_got a [] b k c chain is = absurd cc
kept_got a (x ∷ xs) b zero c (from, filled, chain) is = let e : x ≡ c = cc in subst (λ (z : Copy Group). a < z.to) e (omega (arith, from, filled))
kept_got a (x ∷ xs) b (suc k) c (from, filled, chain) is = let m = kept_got x.to xs b k c chain is in omega (arith, from, filled, m)

got_either : (xs ys : List (Copy Group)) (k : ℕ) (c : Copy Group) → slice_get (xs ++ ys) k ≡ Some c → (slice_get xs k ≡ Some c) ⊎ ((j : ℕ) × (slice_get ys j ≡ Some c))
got_either [] ys k c is = inr (k, is)
got_either (x ∷ xs) ys zero c is = inl is
got_either (x ∷ xs) ys (suc k) c is = got_either xs ys k c is

-- what stands in a sealed extent stands in the stream
pub in_shut : (shut : List (SealedExtent Group)) (index : ℕ) (x : SealedExtent Group) (c : Copy Group) → shut_at index shut ≡ Some x → In c x.copies → In c (all_shut shut)
in_shut [] index x c is m = absurd cc
in_shut (y ∷ shut) index x c is m =
    if_elim (λ o. o ≡ Some x → In c (all_shut shut ++ y.copies)) (index == length shut) (Some y) (shut_at index shut)
    (λ t same. let e : y ≡ x = cc in in_right c (all_shut shut) y.copies (subst (λ (z : SealedExtent Group). In c z.copies) (sym e) m))
    (λ t old. in_left c (all_shut shut) y.copies (in_shut shut index x c old m)) is

take_more : (xs ys : List Group) (k : ℕ) → length xs ≤ k → text_length xs ≤ text_length (take k (xs ++ ys))
take_more [] ys k l = omega arith
take_more (x ∷ xs) ys zero l = absurd (omega (arith, l))
take_more (x ∷ xs) ys (suc k) l = let m = take_more xs ys k (omega (arith, l)) in omega (arith, m, length-cons x xs, length-cons x (take k (xs ++ ys)))

take_front : (xs ys : List Group) (k : ℕ) → k < length xs → take k (xs ++ ys) ≡ take k xs
take_front [] ys k l = absurd (omega (arith, l))
take_front (x ∷ xs) ys zero l = refl
take_front (x ∷ xs) ys (suc k) l = ap (λ z. x ∷ z) (take_front xs ys k (omega (arith, l)))

-- ---- the last extent, where the index is beyond those that are sealed

pub record LastThere (o : Option Stream) (g : Ground) (sent : List Sent) (s : MachineState Group) (e index : ℕ) : Type 0 where
  pub live : OpenExtent Group
  pub is : s.core.live ≡ Some live
  pub which : index ≡ length s.core.shut
  pub at : IsIn o (length s.core.shut) e
  pub tied : TiedLive g e (length s.core.shut) live
  pub sources : Sourced g sent e (length s.core.shut) (live.kept ++ live.loose)

pub last_there : (o : Option Stream) (g : Ground) (sent : List Sent) (s : MachineState Group) → Shaped o g s sent → (e index : ℕ) → IsIn o index e → length s.core.shut ≤ index → LastThere o g sent s e index
last_there o g sent s shaped e index at beyond = by_live s.core.live refl
  where
    by_live : (l : Option (OpenExtent Group)) → s.core.live ≡ l → LastThere o g sent s e index
    by_live None none = let within = slice_get_within (extents_of o) index e at in absurd (omega (arith, within, beyond, shaped.settled.counts, ap one_if_live none))
    by_live (Some v) is =
        let within = slice_get_within (extents_of o) index e at in
        let which : index ≡ length s.core.shut = omega (arith, within, beyond, shaped.settled.counts, ap one_if_live is) in
        let b = shaped.live v is in
        let same : b.extent ≡ e = same_got (extents_of o) (length s.core.shut) b.extent e b.at (subst (λ i. slice_get (extents_of o) i ≡ Some e) which at) in
        record {
          live = v;
          is = is;
          which = which;
          at = subst (λ z. IsIn o (length s.core.shut) z) same b.at;
          tied = subst (λ z. TiedLive g z (length s.core.shut) v) same b.tied;
          sources = subst (λ z. Sourced g sent z (length s.core.shut) (v.kept ++ v.loose)) same b.sources;
        }

module _ (generation : ℕ → ℕ) (name : StreamName) (sent : List Sent) (o : Option Stream) where
  -- an append that all places have: it is of this request, and was begun
  pub record AppendDue (g : Ground) (s : MachineState Group) (e index i append : ℕ) (group : Group) (offset : ℕ) : Type 0 where
    pub at : IsIn o index e
    pub begun : In (machine.Begun i append group) s.facts
    pub place : ℕ
    pub from : Origin
    pub for : purpose_of sent from.request ≡ Some (Appends i index append group)
    pub is : slice_get (g.script e) place ≡ Some group
    pub start : text_length (take place (g.script e)) ≡ offset
    pub appended : slice_get (g.origin e) place ≡ Some from
    pub some : 0 < size group
    pub within : offset + size group ≤ g.acked e

  abbrev copy_of : ℕ → ℕ → ℕ → Group → Copy Group
  copy_of index offset append group = record { from = base index + offset; to = base index + offset + size group; append = append; group = group }

  copy_eta : (c : Copy Group) (f t a : ℕ) (g : Group) → c.from ≡ f → c.to ≡ t → c.append ≡ a → c.group ≡ g → c ≡ record { from = f; to = t; append = a; group = g }
  copy_eta c f t a g e1 e2 e3 e4 = rw (← e1, ← e2, ← e3, ← e4) refl

  -- the copy at its place is that of the append
  copy_is : (g : Ground) (s : MachineState Group) (e index i append : ℕ) (group : Group) (offset : ℕ) → (due : AppendDue g s e index i append group offset) → (copies : List (Copy Group)) →
      Sourced g sent e index copies → (c : CopyAt (base index) copies due.place group) → text_length (take due.place (map group_of copies)) ≡ offset → c.copy ≡ copy_of index offset append group
  copy_is g s e index i append group offset due copies sources c start =
      let (j, same) = sources due.place c.copy due.from c.is due.appended (Appends i index append group) due.for in
      let append_is : c.copy.append ≡ append = cc in
      copy_eta c.copy (base index + offset) (base index + offset + size group) append group (omega (arith, c.from, start)) (omega (arith, c.from, c.to, start)) append_is c.same

  abbrev Told : Ground → ℕ → ℕ → ℕ → Group → ℕ → MachineState Group → Type 0
  Told g index i append group offset u = Shaped o g u sent × In (machine.Appended i append (base index + offset) (base index + offset + size group)) u.facts

  -- it is answered where its copy is one of those that are kept
  answer : (g : Ground) (s : MachineState Group) (index i append : ℕ) (group : Group) (offset : ℕ) → Shaped o g s sent → In (machine.Begun i append group) s.facts →
      In (copy_of index offset append group) (all_copies Group generation s.core s.core.live) → Walk generation s (Told g index i append group offset)
  answer g s index i append group offset shaped begun kept =
      steps_to generation s _ (AnswersAppend i append (base index + offset) (base index + offset + size group) group) refl (begun, kept) (
        known_more generation name sent o g s (machine.Appended i append (base index + offset) (base index + offset + size group)) (λ j n made. absurd cc) (λ j k stood end made. absurd cc) shaped,
        inl refl,
      )

  in_copies : (c : machine.StreamCore Group) (x : Copy Group) (l : Option (OpenExtent Group)) → In x (all_shut c.shut) → In x (all_copies Group generation c l)
  in_copies c x None m = m
  in_copies c x (Some v) m = in_left x (all_shut c.shut) v.kept m

  module _ (g : Ground) (sound : Sound g) where
    -- where the copy ends within what is kept
    answer_kept : (s : MachineState Group) (e index i append : ℕ) (group : Group) (offset : ℕ) → Shaped o g s sent → (due : AppendDue g s e index i append group offset) → index ≡ length s.core.shut →
        (v : OpenExtent Group) → s.core.live ≡ Some v → TiedLive g e index v → Sourced g sent e index (v.kept ++ v.loose) → base index + (offset + size group) ≤ v.sure →
        Walk generation s (Told g index i append group offset)
    answer_kept s e index i append group offset shaped due which v live tied sources within =
        let whole : Chain (base index) (v.kept ++ v.loose) v.end = chain_both (base index) v.kept v.loose v.sure v.end tied.kept_chain tied.loose_chain in
        let c : CopyAt (base index) (v.kept ++ v.loose) due.place group =
        copy_at (base index) (v.kept ++ v.loose) v.end due.place group whole tied.sized (subst (λ z. slice_get z due.place ≡ Some group) (sym tied.groups) due.is) in
        let start : text_length (take due.place (map group_of (v.kept ++ v.loose))) ≡ offset = ap (λ z. text_length (take due.place z)) tied.groups ∙ due.start in
        let same = copy_is g s e index i append group offset due (v.kept ++ v.loose) sources c start in
        let ends : c.copy.to ≤ v.sure = omega (arith, c.from, c.to, start, within) in
        let kept : slice_get v.kept due.place ≡ Some c.copy = elim (got_either v.kept v.loose due.place c.copy c.is) [
          | inl m ↦ m
          | inr m ↦ let lt = kept_got v.sure v.loose v.end m.0 c.copy tied.loose_chain m.1 in absurd (omega (arith, lt, ends))
        ] in
        let there : In (copy_of index offset append group) (all_shut s.core.shut ++ v.kept) =
        in_right (copy_of index offset append group) (all_shut s.core.shut) v.kept (subst (λ z. In z v.kept) same (in_got v.kept due.place c.copy kept)) in
        answer g s index i append group offset shaped due.begun (subst (λ l. In (copy_of index offset append group) (all_copies Group generation s.core l)) (sym live) there)

    due_on : (s t : MachineState Group) → Onward s t → (e index i append : ℕ) (group : Group) (offset : ℕ) → AppendDue g s e index i append group offset → AppendDue g t e index i append group offset
    due_on s t on e index i append group offset d = record {
      at = d.at;
      begun = on.facts _ d.begun;
      place = d.place;
      from = d.from;
      for = d.for;
      is = d.is;
      start = d.start;
      appended = d.appended;
      some = d.some;
      within = d.within;
    }

    -- more is kept, and then it is
    answer_live : (s : MachineState Group) (e index i append : ℕ) (group : Group) (offset : ℕ) → Shaped o g s sent → (due : AppendDue g s e index i append group offset) →
        LastThere o g sent s e index → Walk generation s (Told g index i append group offset)
    answer_live s e index i append group offset shaped due last =
        let v = last.live in
        let tied : TiedLive g e index v = subst (λ n. TiedLive g e n v) (sym last.which) last.tied in
        let sources : Sourced g sent e index (v.kept ++ v.loose) = subst (λ n. Sourced g sent e n (v.kept ++ v.loose)) (sym last.which) last.sources in
        elim (cases_lt v.sure (base index + (offset + size group))) [
          | inr ge ↦ answer_kept s e index i append group offset shaped due last.which v last.is tied sources ge
          | inl lt ↦
              let l = offset + size group in
              let stands = stands_index (g.script e) due.place group due.is in
              let front = stands.before ++ group ∷ [] in
              let begins : Begins front (g.script e) = record { rest = stands.after; is = stands.split ∙ sym (append_assoc stands.before (group ∷ []) stands.after) } in
              let ends : text_length front ≡ l = omega (arith, text_length-append stands.before (group ∷ []), length-cons group [], stands.place, due.start) in
              let f : FoundFront generation g e index v front l = find_front generation g e index v front l tied begins ends (omega (arith, lt)) in
              let w : OpenExtent Group = record v { kept = v.kept ++ f.more; sure = end_after generation v.sure f.more; loose = f.rest } in
              let had : (at : Nodes) → g.places e ≡ Some at → (l ≤ g.last at.primary e) × (l ≤ g.last at.second e) × (l ≤ g.last at.third e) =
              λ at made. let h = sound.all_had e at made in (omega (arith, h.0, due.within), omega (arith, h.1, due.within), omega (arith, h.2, due.within)) in
              let next : TiedLive g e index w = keep_tied generation g e index v front l tied f had in
              let all : v.kept ++ v.loose ≡ w.kept ++ f.rest = ap (λ z. v.kept ++ z) f.loose ∙ sym (append_assoc v.kept f.more f.rest) in
              let more : Sourced g sent e index (w.kept ++ w.loose) = subst (Sourced g sent e index) all sources in
              let u : MachineState Group = with_lived generation s w in
              let there : Shaped o g u sent = record {
                settled = settled_lived generation o g sent s v w last.is shaped.settled;
                live = λ z is.
                    let c : w ≡ z = cc in
                    subst (LiveThere o g sent u) c (record {
                      extent = e;
                      at = last.at;
                      tied = subst (λ n. TiedLive g e n w) last.which next;
                      sources = subst (λ n. Sourced g sent e n (w.kept ++ w.loose)) last.which more;
                    });
              } in
              walk_on generation s (λ t. t ≡ u) _ (keep_all generation f.more f.rest s v last.is f.loose)
              (λ t on is. subst (λ z. Onward s z → Walk generation z (Told g index i append group offset)) (sym is)
              (λ far. answer_kept u e index i append group offset there (due_on s u far e index i append group offset due) last.which w refl next more (omega (arith, f.end))) on)
        ]

    -- in a sealed extent
    answer_shut : (s : MachineState Group) (e index i append : ℕ) (group : Group) (offset : ℕ) → Shaped o g s sent → (due : AppendDue g s e index i append group offset) →
        ShutThere g sent s e index → Walk generation s (Told g index i append group offset)
    answer_shut s e index i append group offset shaped due b =
        let x = b.shut in
        let l = b.tied.length_at in
        let long : x.end ≡ base index + text_length (map group_of x.copies) = chain_len (base index) x.copies x.end b.tied.chain b.tied.sized in
        let beyond : offset + size group ≤ l =
        sealed_beyond g e (offset + size group) (λ at made. let h = sound.all_had e at made in (omega (arith, h.0, due.within), omega (arith, h.1, due.within), omega (arith, h.2, due.within))) sound l b.tied.sealed in
        let script : g.script e ≡ map group_of x.copies ++ b.tied.begins.rest = b.tied.begins.is in
        let within : due.place < length (map group_of x.copies) = elim (cases_lt due.place (length (map group_of x.copies))) [
          | inl lt ↦ lt
          | inr ge ↦
              let m = take_more (map group_of x.copies) b.tied.begins.rest due.place ge in
              let start : text_length (take due.place (map group_of x.copies ++ b.tied.begins.rest)) ≡ offset = ap (λ z. text_length (take due.place z)) (sym script) ∙ due.start in
              absurd (omega (arith, m, start, long, b.tied.end, beyond, due.some))
        ] in
        let is : slice_get (map group_of x.copies) due.place ≡ Some group =
        get_front (map group_of x.copies) b.tied.begins.rest due.place group within (subst (λ z. slice_get z due.place ≡ Some group) script due.is) in
        let c : CopyAt (base index) x.copies due.place group = copy_at (base index) x.copies x.end due.place group b.tied.chain b.tied.sized is in
        let start : text_length (take due.place (map group_of x.copies)) ≡ offset =
        ap text_length (sym (take_front (map group_of x.copies) b.tied.begins.rest due.place within)) ∙ ap (λ z. text_length (take due.place z)) (sym script) ∙ due.start in
        let same = copy_is g s e index i append group offset due x.copies b.sources c start in
        let there : In (copy_of index offset append group) x.copies = subst (λ z. In z x.copies) same (in_got x.copies due.place c.copy c.is) in
        answer g s index i append group offset shaped due.begun (in_copies s.core (copy_of index offset append group) s.core.live (in_shut s.core.shut index x (copy_of index offset append group) b.is there))

    pub answer_append : (s : MachineState Group) (e index i append : ℕ) (group : Group) (offset : ℕ) → Shaped o g s sent → AppendDue g s e index i append group offset → Walk generation s (Told g index i append group offset)
    answer_append s e index i append group offset shaped due = elim (cases_lt index (length s.core.shut)) [
      | inl below ↦ answer_shut s e index i append group offset shaped due (shaped.settled.shut index e due.at below)
      | inr beyond ↦ answer_live s e index i append group offset shaped due (last_there o g sent s shaped e index due.at beyond)
    ]

  -- ---- checks

  -- a check of an extent found all three places at the length of the primary, which listens to no lower generation from now on
  pub record CheckDue (g h : Ground) (s : MachineState Group) (e index i found : ℕ) : Type 0 where
    pub at : IsIn o index e
    pub fact : In (machine.AsksCheck i index) s.facts
    pub above : g.fence e ≤ generation i
    pub newer : g.born e ≤ generation i
    pub fenced : generation i ≤ h.fence e
    pub whole : text_length (g.script e) ≡ found
    pub script : h.script e ≡ g.script e
    pub sealed : h.sealed e ≡ g.sealed e
    pub had : (at : Nodes) → h.places e ≡ Some at → (found ≤ h.last at.primary e) × (found ≤ h.last at.second e) × (found ≤ h.last at.third e)

  abbrev CheckTold : Ground → ℕ → ℕ → ℕ → MachineState Group → Type 0
  CheckTold h index i found u = Shaped o h u sent × ((stood : List (Copy Group)) × In (machine.Checked i index stood (base index + found)) u.facts)

  -- one more check that found what is there
  with_check : (g : Ground) (s : MachineState Group) (i index : ℕ) (stood : List (Copy Group)) (end : ℕ) → Shaped o g s sent → StoodThere o g index stood end →
      Shaped o g (record s { facts = machine.Checked i index stood end ∷ s.facts }) sent
  with_check g s i index stood end a b = record {
    settled = record {
      fence = by_fence o a.settled.fence;
      counts = a.settled.counts;
      born = a.settled.born;
      made = a.settled.made;
      shut = λ k e at l. let c = a.settled.shut k e at l in record { shut = c.shut; is = c.is; tied = c.tied; sources = c.sources };
      checked = λ j k copies far m. elim m [
        | inl is ↦
            let kk : k ≡ index = cc in
            let cs : copies ≡ stood = cc in
            let ff : far ≡ end = cc in
            rw (kk, cs, ff) b
        | inr old ↦ a.settled.checked j k copies far old
      ];
    };
    live = λ v is. let c = a.live v is in record { extent = c.extent; at = c.at; tied = c.tied; sources = c.sources };
  }
    where
      by_fence : (z : Option Stream) → FencedBy s z → FencedBy (record s { facts = machine.Checked i index stood end ∷ s.facts }) z
      by_fence None k = (k.0, λ j n m. elim m [ inl is ↦ absurd cc | inr old ↦ k.1 j n old ])
      by_fence (Some x) (inl k) = inl k
      by_fence (Some x) (inr k) = inr (k.0, λ j n m. elim m [ inl is ↦ absurd cc | inr old ↦ k.1 j n old ])

  module _ (g h : Ground) (later : Later g h) (sound : Sound g) (after : Sound h) where
    check_shut : (s t : MachineState Group) (e index i found : ℕ) → (due : CheckDue g h s e index i found) → Onward s t → Shaped o h t sent → ShutThere h sent t e index → Walk generation t (CheckTold h index i found)
    check_shut s t e index i found due on shaped b =
        let x = b.shut in
        let l = b.tied.length_at in
        let long : x.end ≡ base index + text_length (map group_of x.copies) = chain_len (base index) x.copies x.end b.tied.chain b.tied.sized in
        let up : found ≤ l = sealed_beyond h e found due.had after l b.tied.sealed in
        let down = begins_length b.tied.begins in
        let script = ap text_length due.script in
        let same : l ≡ found = omega (arith, up, down, script, due.whole, long, b.tied.end) in
        let end : x.end ≡ base index + found = b.tied.end ∙ ap (λ z. base index + z) same in
        let u : MachineState Group = machine.next Group generation t (AnswersLate i index x) in
        steps_to generation t _ (AnswersLate i index x) refl (on.facts _ due.fact, b.is) (
          with_check h t i index x.copies x.end shaped (record {
            extent = e;
            at = due.at;
            begins = b.tied.begins;
            chain = b.tied.chain;
            sized = b.tied.sized;
          }),
          (x.copies, inl (ap (machine.Checked i index x.copies) (sym end))),
        )

    check_live : (s : MachineState Group) (e index i found : ℕ) → Shaped o g s sent → CheckDue g h s e index i found → LastThere o g sent s e index → Walk generation s (CheckTold h index i found)
    check_live s e index i found shaped due last =
        let v = last.live in
        let n = length s.core.shut in
        let tied = last.tied in
        let w : OpenExtent Group = record v { kept = v.kept ++ v.loose; sure = end_after generation v.sure v.loose; loose = [] } in
        let w2 : OpenExtent Group = record w { fence = generation i } in
        let ends : v.end ≡ base n + found = live_end g e n v tied ∙ ap (λ z. base n + z) due.whole in
        let sure : w.sure ≡ v.end = after_chain generation v.sure v.loose v.end tied.loose_chain in
        let chain : Chain (base n) w.kept v.end = chain_both (base n) v.kept v.loose v.sure v.end tied.kept_chain tied.loose_chain in
        let all : w.kept ++ [] ≡ w.kept = append-nil w.kept in
        let next : TiedLive h e n w2 = record {
          groups = ap (λ z. map group_of z) all ∙ tied.groups ∙ sym due.script;
          kept_chain = subst (λ z. Chain (base n) w.kept z) (sym sure) chain;
          loose_chain = sure;
          sized = subst Sized (sym all) tied.sized;
          fence = let f = floor_above h e in omega (arith, f, due.fenced);
          unsealed = due.sealed ∙ tied.unsealed;
          had = λ at made. let k = due.had at made in (omega (arith, k.0, sure, ends), omega (arith, k.1, sure, ends), omega (arith, k.2, sure, ends));
        } in
        let fact : In (machine.AsksCheck i n) s.facts = subst (λ z. In (machine.AsksCheck i z) s.facts) last.which due.fact in
        let low : w.fence ≤ generation i = let f = floor_low g e (generation i) due.above due.newer in omega (arith, tied.fence, f) in
        let u : MachineState Group = with_lived generation s w in
        let u2 : MachineState Group = with_lived generation s w2 in
        let count = live_count_is g sound e n v tied in
        let sources : Sourced h sent e n (w2.kept ++ w2.loose) =
        subst (Sourced h sent e n) (sym all) (sourced_later g h later sent e n (v.kept ++ v.loose) (omega (arith, count)) last.sources) in
        let there : Shaped o h u2 sent = record {
          settled = settled_lived generation o h sent s v w2 last.is (settled_later o g h later sound sent s shaped.settled);
          live = λ z is.
              let c : w2 ≡ z = cc in
              subst (LiveThere o h sent u2) c (record { extent = e; at = last.at; tied = next; sources = sources });
        } in
        let end : w2.sure ≡ base index + found = sure ∙ ends ∙ ap (λ z. base z + found) (sym last.which) in
        let u3 : MachineState Group = machine.next Group generation u2 (AnswersCheck i w2) in
        let told : CheckTold h index i found u3 = (
          with_check h u2 i n w2.kept w2.sure there (record {
            extent = e;
            at = last.at;
            begins = record { rest = []; is = due.script ∙ sym tied.groups ∙ sym (append-nil (map group_of w2.kept)) };
            chain = next.kept_chain;
            sized = tied.sized;
          }),
          (w2.kept, inl (ap (λ z. machine.Checked i z w2.kept (base index + found)) last.which ∙ ap (machine.Checked i n w2.kept) (sym end))),
        ) in
        walk_on generation s (λ t. t ≡ u) _ (keep_all generation v.loose [] s v last.is (sym (append-nil v.loose)))
        (λ t on is. subst (λ z. Onward s z → Walk generation z (CheckTold h index i found)) (sym is)
        (λ far.
        walk_on generation u (λ t. t ≡ u2) _ (steps_to generation u (λ t. t ≡ u2) (TakesCheck i w) refl (far.facts _ fact, refl, low) refl)
        (λ t2 on2 is2. subst (λ z. Onward u z → Walk generation z (CheckTold h index i found)) (sym is2)
        (λ far2. steps_to generation u2 _ (AnswersCheck i w2) refl (far2.facts _ (far.facts _ fact), refl, omega arith, refl) told) on2)) on)

    pub answer_check : (s : MachineState Group) (e index i found : ℕ) → Shaped o g s sent → CheckDue g h s e index i found → Walk generation s (λ t. Shaped o h t sent) → Walk generation s (CheckTold h index i found)
    answer_check s e index i found shaped due moves = elim (cases_lt index (length s.core.shut)) [
      | inl below ↦
          let b = shaped.settled.shut index e due.at below in
          walk_on generation s (λ t. Shaped o h t sent) _ moves
          (λ t on there.
          let within = shut_within index t.core.shut b.shut (on.shut index b.shut b.is) in
          check_shut s t e index i found due on there (there.settled.shut index e due.at within))
      | inr beyond ↦ check_live s e index i found shaped due (last_there o g sent s shaped e index due.at beyond)
    ]
