-- The ends of the appends that wait at a primary.
use Rattle.std.proofs.Common.{◌≡◌, ℕ, suc, ◌+◌, ◌<◌, true, List, [], ◌∷◌, ◌++◌, length, drop, get_or, Result, Ok, Err, OnOk, OnErr, inl, inr, refl, sym, ◌∙◌, ap, subst, arith, length-append, length-drop}
use Rattle.std.specs.List.Sorted.{IsStrictlyIncreasing}
use Rattle.std.proofs.lemmas.Bool.Decides.{leb_tells}
use Rattle.std.proofs.lemmas.List.{map-append, drop-map, length-map, get_or-drop, get_or_append_left}
use Rattle.block_types.specs.Limits.{IsGroup}
use Rattle.replica.specs.Groups.{Group, size, text_length}
use Rattle.replica.specs.Content.{Content, appended}
use Rattle.replica.specs.Replay.{is_open}
use Rattle.replica.proofs.Lengths.{text_length-push}
use Rattle.model_streams.specs.declared.waiting_append.WaitingAppend.{WaitingAppend}
use Rattle.enode_replica.specs.Ends.{end_of, ends_of, AreEnds, EndWithin}
use Rattle.enode_replica.proofs.Filling.{size-some}

-- ---- a list with one more number at its end

old_at : (ns : List ℕ) (n k : ℕ) → k < length ns → get_or (ns ++ n ∷ []) k 0 ≡ get_or ns k 0
old_at ns n k inside = get_or_append_left ns (n ∷ []) 0 k inside

new_at : (ns : List ℕ) (n k : ℕ) → k ≡ length ns → get_or (ns ++ n ∷ []) k 0 ≡ n
new_at [] n k at = ap (λ (i : ℕ). get_or (n ∷ []) i 0) at
new_at (m ∷ ns) n k at = ap (λ (i : ℕ). get_or (m ∷ (ns ++ n ∷ [])) i 0) at ∙ new_at ns n (length ns) refl

rising_push : (ns : List ℕ) (n : ℕ) → IsStrictlyIncreasing ns → ((k : ℕ) → k < length ns → get_or ns k 0 < n) → IsStrictlyIncreasing (ns ++ n ∷ [])
rising_push ns n rising below k inside =
    let long = length-append ns (n ∷ []) in
    let first = old_at ns n k (omega arith) in
    let under = below k (omega arith) in
    elim (leb_tells (suc (k + 1)) (length ns)) [
      | inl t ↦ (let next = old_at ns n (k + 1) (omega arith) in let rise = rising k (omega arith) in omega arith)
      | inr f ↦ (let next = new_at ns n (k + 1) (omega arith) in omega arith)
    ]

rises_at : (ns : List ℕ) (i j : ℕ) → IsStrictlyIncreasing ns → j ≡ i + 1 → j < length ns → get_or ns i 0 < get_or ns j 0
rises_at ns i j rising next inside = rw next (rising i (omega arith))

rising_drop : (count : ℕ) (ns : List ℕ) → IsStrictlyIncreasing ns → IsStrictlyIncreasing (drop count ns)
rising_drop count ns rising k inside =
    rw (get_or-drop count ns k 0, get_or-drop count ns (k + 1) 0) (rises_at ns (count + k) (count + (k + 1)) rising (omega arith) (omega (arith, length-drop count ns)))

-- ---- the ends of a queue

-- one more append, and its end
pushed_ends : (ws : List WaitingAppend) (w : WaitingAppend) (es : List ℕ) (e : ℕ) → es ≡ ends_of ws → e ≡ end_of w → es ++ e ∷ [] ≡ ends_of (ws ++ w ∷ [])
pushed_ends ws w es e same at = ap (λ (xs : List ℕ). xs ++ e ∷ []) same ∙ ap (λ (n : ℕ). ends_of ws ++ n ∷ []) at ∙ sym (map-append end_of ws (w ∷ []))

-- one more append, which ends above all others, and its end
ends_push : (ws : List WaitingAppend) (w : WaitingAppend) (es : List ℕ) (e : ℕ) → AreEnds ws es → e ≡ end_of w →
    ((k : ℕ) → k < length ws → get_or (ends_of ws) k 0 < e) → AreEnds (ws ++ w ∷ []) (es ++ e ∷ [])
ends_push ws w es e are at above = record {
  kept = pushed_ends ws w es e are.kept at;
  rising = rising_push es e are.rising (subst (λ (ns : List ℕ). (k : ℕ) → k < length ns → get_or ns k 0 < e) (sym are.kept) (λ k inside. above k (omega (arith, length-map ws end_of))));
}

-- without the first
pub ends_drop : (count : ℕ) (ws : List WaitingAppend) (es : List ℕ) → AreEnds ws es → AreEnds (drop count ws) (drop count es)
ends_drop count ws es are = record {
  kept = ap (drop count) are.kept ∙ drop-map end_of count ws;
  rising = rising_drop count es are.rising;
}

-- a group that was put at the end of a replica ends where the replica does
put_end : (before after : Content) (g : Group) (offset end : ℕ) → offset ≡ text_length before.groups → after ≡ appended before g → end ≡ text_length after.groups →
    end ≡ offset + size g
put_end before after g offset end from put to =
    to ∙ ap (λ (c : Content). text_length c.groups) put ∙ text_length-push before.groups g ∙ ap (λ (n : ℕ). n + size g) (sym from)

-- ---- the ends of a queue, and its replica

within_same : (before after : Content) (ws : List WaitingAppend) → after ≡ before → EndWithin before ws → EndWithin after ws
within_same before after ws same within = let P : Content → Type 0 = λ c. EndWithin c ws in subst P (sym same) within

within_longer : (before after : Content) (g : Group) (ws : List WaitingAppend) → after ≡ appended before g → EndWithin before ws → EndWithin after ws
within_longer before after g ws put within =
    within_same (appended before g) after ws put (λ opened k inside. omega (arith, within opened k inside, text_length-push before.groups g))

-- a group that is put at the end, however that ends
pub within_put : {E : Type 0} (before after : Content) (g : Group) (ws : List WaitingAppend) (r : Result (Unit {0}) E) →
    OnOk r (after ≡ appended before g) → OnErr r (after ≡ before) → EndWithin before ws → EndWithin after ws
within_put before after g ws (Ok u) ok err within = within_longer before after g ws ok within
within_put before after g ws (Err e) ok err within = within_same before after ws err within

-- the group that was put waits too
pub within_push : (before after : Content) (ws waiting : List WaitingAppend) (w : WaitingAppend) → ws ≡ waiting → EndWithin before waiting →
    w.offset ≡ text_length before.groups → after ≡ appended before w.group → EndWithin after (ws ++ w ∷ [])
within_push before after ws waiting w same within from put = within_same (appended before w.group) after (ws ++ w ∷ []) put each
  where
    within_ws : EndWithin before ws
    within_ws = let P : List WaitingAppend → Type 0 = λ xs. EndWithin before xs in subst P (sym same) within

    each : EndWithin (appended before w.group) (ws ++ w ∷ [])
    each opened k inside =
        let both = pushed_ends ws w (ends_of ws) (end_of w) refl refl in
        let longer = text_length-push before.groups w.group in
        let long = length-append ws (w ∷ []) in
        let mapped = length-map ws end_of in
        let here = ap (λ (ns : List ℕ). get_or ns k 0) both in
        elim (leb_tells (suc k) (length ws)) [
          | inl t ↦ (let old = old_at (ends_of ws) (end_of w) k (omega arith) in let less = within_ws opened k (omega arith) in omega arith)
          | inr f ↦ (let new = new_at (ends_of ws) (end_of w) k (omega arith) in omega arith)
        ]

-- and it ends above all that waited before it
pub queue_push : (before after : Content) (ws waiting : List WaitingAppend) (w : WaitingAppend) (es : List ℕ) (e : ℕ) → AreEnds ws es → ws ≡ waiting →
    EndWithin before waiting → is_open before.phase ≡ true → IsGroup w.group → w.offset ≡ text_length before.groups → after ≡ appended before w.group →
    e ≡ text_length after.groups → AreEnds (ws ++ w ∷ []) (es ++ e ∷ [])
queue_push before after ws waiting w es e are same within opened group from put to =
    let at = put_end before after w.group w.offset e from put to in
    let some = size-some w.group group in
    let P : List WaitingAppend → Type 0 = λ xs. EndWithin before xs in
    let within_ws : EndWithin before ws = subst P (sym same) within in
    ends_push ws w es e are at (λ k inside. omega (arith, within_ws opened k inside))

pub within_drop : (content : Content) (count : ℕ) (ws : List WaitingAppend) → EndWithin content ws → EndWithin content (drop count ws)
within_drop content count ws within opened k inside =
    let there = ap (λ (ns : List ℕ). get_or ns k 0) (drop-map end_of count ws) in
    let moved = get_or-drop count (ends_of ws) k 0 in
    let less = within opened (count + k) (omega (arith, length-drop count ws)) in
    omega arith
