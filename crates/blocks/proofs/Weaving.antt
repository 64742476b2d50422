-- Bytes of which long pieces are shared.
use Rattle.std.proofs.Common.{◌≡◌, ℕ, zero, suc, ◌+◌, ◌-◌, ◌<◌, ◌≤◌, ◌^◌, List, [], ◌∷◌, ◌++◌, length, take, drop, get_or, set, sym, ap, subst, ◌∙◌, arith, append_assoc, append-nil, length-append, length-drop, slice_range}
use Rattle.std.proofs.lemmas.List.{take_all, drop_all, drop_more, take-append-le, drop-append-le}
use Rattle.std.proofs.Math.Seq.{drop-append-add, take-append-add}
use Rattle.blocks.specs.Woven.{woven, moved, ArePlaced, IsWoven}
use Rattle.blocks.specs.declared.woven.Piece.{Piece}

pub within : (from end : ℕ) (ps : List Piece) → ArePlaced from end ps → from ≤ end
within from end [] are = are
within from end (p ∷ ps) are = omega (arith, are.0, within p.behind end ps are.1)

pub placed_more : (from end more : ℕ) (ps : List Piece) → end ≤ more → ArePlaced from end ps → ArePlaced from more ps
placed_more from end more [] low are = omega (arith, low, are)
placed_more from end more (p ∷ ps) low are = (are.0, placed_more p.behind end more ps low are.1)

placed_piece : (from end : ℕ) (ps : List Piece) (p : Piece) → p.behind ≡ end → ArePlaced from end ps → ArePlaced from end (ps ++ p ∷ [])
placed_piece from end [] p last are = (omega (arith, last, are), omega (arith, last))
placed_piece from end (q ∷ ps) p last are = (are.0, placed_piece q.behind end ps p last are.1)

placed_moved : (from start base end : ℕ) (ps : List Piece) → from ≤ start + base → ArePlaced start end ps → ArePlaced from (base + end) (moved base ps)
placed_moved from start base end [] low are = omega (arith, low, are)
placed_moved from start base end (p ∷ ps) low are = (omega (arith, low, are.0), placed_moved (p.behind + base) p.behind base end ps (omega arith) are.1)

placed_append : (from mid base end : ℕ) (ps qs : List Piece) → mid ≤ base → ArePlaced from mid ps → ArePlaced 0 end qs → ArePlaced from (base + end) (ps ++ moved base qs)
placed_append from mid base end [] qs low are also = placed_moved from 0 base end qs (omega (arith, low, are)) also
placed_append from mid base end (p ∷ ps) qs low are also = (are.0, placed_append p.behind mid base end ps qs low are.1 also)

front_part : (from : ℕ) (own more : List ℕ) (upto : ℕ) → from ≤ upto → upto ≤ length own → slice_range (own ++ more) from upto ≡ slice_range own from upto
front_part from own more upto order low =
    ap (λ (l : List ℕ). take (upto - from) l) (drop-append-le from own more (omega (arith, order, low))) ∙ take-append-le (upto - from) (drop from own) more (omega (arith, length-drop from own, low))

pub own_more : (from : ℕ) (own more : List ℕ) (ps : List Piece) → ArePlaced from (length own) ps → woven from (own ++ more) ps ≡ woven from own ps ++ more
own_more from own more [] are = drop-append-le from own more are
own_more from own more (p ∷ ps) are =
    ap (λ (l : List ℕ). l ++ (p.bytes ++ woven p.behind (own ++ more) ps)) (front_part from own more p.behind are.0 (within p.behind (length own) ps are.1))
    ∙ ap (λ (l : List ℕ). slice_range own from p.behind ++ (p.bytes ++ l)) (own_more p.behind own more ps are.1)
    ∙ ap (λ (l : List ℕ). slice_range own from p.behind ++ l) (sym (append_assoc p.bytes (woven p.behind own ps) more))
    ∙ sym (append_assoc (slice_range own from p.behind) (p.bytes ++ woven p.behind own ps) more)

pub piece_more : (from : ℕ) (own : List ℕ) (ps : List Piece) (p : Piece) → p.behind ≡ length own → ArePlaced from (length own) ps → woven from own (ps ++ p ∷ []) ≡ woven from own ps ++ p.bytes
piece_more from own [] p last are =
    ap (λ (l : List ℕ). l ++ (p.bytes ++ drop p.behind own)) (take_all (p.behind - from) (drop from own) (omega (arith, length-drop from own, last)))
    ∙ ap (λ (l : List ℕ). drop from own ++ (p.bytes ++ l)) (drop_all p.behind own (omega (arith, last)))
    ∙ ap (λ (l : List ℕ). drop from own ++ l) (append-nil p.bytes)
piece_more from own (q ∷ ps) p last are =
    ap (λ (l : List ℕ). slice_range own from q.behind ++ (q.bytes ++ l)) (piece_more q.behind own ps p last are.1)
    ∙ ap (λ (l : List ℕ). slice_range own from q.behind ++ l) (sym (append_assoc q.bytes (woven q.behind own ps) p.bytes))
    ∙ sym (append_assoc (slice_range own from q.behind) (q.bytes ++ woven q.behind own ps) p.bytes)

-- bytes behind so many others are where they are
past : (own other : List ℕ) (n : ℕ) → drop (n + length own) (own ++ other) ≡ drop n other
past own other n = ap (λ (m : ℕ). drop m (own ++ other)) (omega arith) ∙ drop-append-add own other n

-- a front and some of what follows
across : (front other : List ℕ) (n count : ℕ) → count ≡ length front + n → take count (front ++ other) ≡ front ++ take n other
across front other n count is = ap (λ (m : ℕ). take m (front ++ other)) is ∙ take-append-add front other n

woven_moved : (own other : List ℕ) (from : ℕ) (qs : List Piece) → woven (from + length own) (own ++ other) (moved (length own) qs) ≡ woven from other qs
woven_moved own other from [] = past own other from
woven_moved own other from (q ∷ qs) =
    let count : q.behind + length own - (from + length own) ≡ q.behind - from = omega arith in
    ap (λ (n : ℕ). take n (drop (from + length own) (own ++ other)) ++ (q.bytes ++ woven (q.behind + length own) (own ++ other) (moved (length own) qs))) count
    ∙ ap (λ (l : List ℕ). take (q.behind - from) l ++ (q.bytes ++ woven (q.behind + length own) (own ++ other) (moved (length own) qs))) (past own other from)
    ∙ ap (λ (l : List ℕ). slice_range other from q.behind ++ (q.bytes ++ l)) (woven_moved own other q.behind qs)

woven_first : (own other : List ℕ) (from : ℕ) (qs : List Piece) → from ≤ length own → woven from (own ++ other) (moved (length own) qs) ≡ drop from own ++ woven 0 other qs
woven_first own other from [] low = drop-append-le from own other low
woven_first own other from (q ∷ qs) low =
    let rest : List ℕ = woven q.behind other qs in
    let none : q.behind ≡ q.behind - 0 = omega arith in
    ap (λ (l : List ℕ). take (q.behind + length own - from) l ++ (q.bytes ++ woven (q.behind + length own) (own ++ other) (moved (length own) qs))) (drop-append-le from own other low)
    ∙ ap (λ (l : List ℕ). l ++ (q.bytes ++ woven (q.behind + length own) (own ++ other) (moved (length own) qs))) (across (drop from own) other q.behind (q.behind + length own - from) (omega (arith, low, length-drop from own)))
    ∙ ap (λ (l : List ℕ). (drop from own ++ take q.behind other) ++ (q.bytes ++ l)) (woven_moved own other q.behind qs)
    ∙ append_assoc (drop from own) (take q.behind other) (q.bytes ++ rest)
    ∙ ap (λ (n : ℕ). drop from own ++ (take n other ++ (q.bytes ++ rest))) none

pub woven_append : (from : ℕ) (own other : List ℕ) (ps qs : List Piece) → ArePlaced from (length own) ps → woven from (own ++ other) (ps ++ moved (length own) qs) ≡ woven from own ps ++ woven 0 other qs
woven_append from own other [] qs are = woven_first own other from qs are
woven_append from own other (p ∷ ps) qs are =
    let whole : List ℕ = woven 0 other qs in
    ap (λ (l : List ℕ). l ++ (p.bytes ++ woven p.behind (own ++ other) (ps ++ moved (length own) qs))) (front_part from own other p.behind are.0 (within p.behind (length own) ps are.1))
    ∙ ap (λ (l : List ℕ). slice_range own from p.behind ++ (p.bytes ++ l)) (woven_append p.behind own other ps qs are.1)
    ∙ ap (λ (l : List ℕ). slice_range own from p.behind ++ l) (sym (append_assoc p.bytes (woven p.behind own ps) whole))
    ∙ sym (append_assoc (slice_range own from p.behind) (p.bytes ++ woven p.behind own ps) whole)

-- some of the pieces are moved, and the others are not yet
abbrev pub partly : ℕ → ℕ → List Piece → List Piece
partly base i ps = moved base (take i ps) ++ drop i ps

pub behind_end : (base from end : ℕ) (ps : List Piece) (i : ℕ) (p : Piece) → ArePlaced from end ps → i < length ps → p ≡ get_or (partly base i ps) i p → p.behind ≤ end
behind_end base from end [] i p are below is = absurd (omega arith)
behind_end base from end (x ∷ ps) zero p are below is = omega (arith, ap (λ (q : Piece). q.behind) is, within x.behind end ps are.1)
behind_end base from end (x ∷ ps) (suc i) p are below is = behind_end base x.behind end ps i p are.1 (omega arith) is

one_moved : (base : ℕ) (ps : List Piece) (i : ℕ) (p : Piece) → i < length ps → p ≡ get_or (partly base i ps) i p → set (partly base i ps) i (record p { behind = p.behind + base }) ≡ partly base (suc i) ps
one_moved base [] i p below is = absurd (omega arith)
one_moved base (x ∷ ps) zero p below is = ap (λ (q : Piece). let it : Piece = record q { behind = q.behind + base } in it ∷ ps) is
one_moved base (x ∷ ps) (suc i) p below is = ap (λ (l : List Piece). let it : Piece = record x { behind = x.behind + base } in it ∷ l) (one_moved base ps i p (omega arith) is)

pub next_moved : (base : ℕ) (ps now : List Piece) (i : ℕ) (p : Piece) → i < length ps → now ≡ partly base i ps → p ≡ get_or now i p → set now i (record p { behind = p.behind + base }) ≡ partly base (i + 1) ps
next_moved base ps now i p below is here =
    let one : suc i ≡ i + 1 = omega arith in
    ap (λ (l : List Piece). set l i (record p { behind = p.behind + base })) is
    ∙ one_moved base ps i p below (here ∙ ap (λ (l : List Piece). get_or l i p) is)
    ∙ ap (λ (n : ℕ). partly base n ps) one

module _ (own : List ℕ) (ps : List Piece) (i : ℕ) (p : Piece) (is : p ≡ get_or ps i p) (below : i < length ps) where
  next : drop i ps ≡ p ∷ drop (i + 1) ps
  next = drop_more ps i p below ∙ ap (λ (q : Piece). q ∷ drop (i + 1) ps) (sym is)

  pub next_placed : (from : ℕ) → ArePlaced from (length own) (drop i ps) → (from ≤ p.behind) × (p.behind ≤ length own) × ArePlaced p.behind (length own) (drop (i + 1) ps)
  next_placed from are =
      let here : ArePlaced from (length own) (p ∷ drop (i + 1) ps) = subst (ArePlaced from (length own)) next are in
      (here.0, within p.behind (length own) (drop (i + 1) ps) here.1, here.1)

  -- so many bytes are to come
  pub next_length : (from : ℕ) → length (woven from own (drop i ps)) ≡ length (slice_range own from p.behind) + (length p.bytes + length (woven p.behind own (drop (i + 1) ps)))
  next_length from = ap (λ (l : List Piece). length (woven from own l)) next ∙ omega (arith, length-append (slice_range own from p.behind) (p.bytes ++ woven p.behind own (drop (i + 1) ps)), length-append p.bytes (woven p.behind own (drop (i + 1) ps)))

  -- one piece more
  pub next_joined : (from : ℕ) (before part now whole : List ℕ) → part ≡ before ++ slice_range own from p.behind → now ≡ part ++ p.bytes → before ++ woven from own (drop i ps) ≡ whole → now ++ woven p.behind own (drop (i + 1) ps) ≡ whole
  next_joined from before part now whole own_bytes piece done =
      let rest : List ℕ = woven p.behind own (drop (i + 1) ps) in
      let between : List ℕ = slice_range own from p.behind in
      ap (λ (l : List ℕ). l ++ rest) (piece ∙ ap (λ (l : List ℕ). l ++ p.bytes) own_bytes)
      ∙ append_assoc (before ++ between) p.bytes rest
      ∙ append_assoc before between (p.bytes ++ rest)
      ∙ ap (λ (l : List Piece). before ++ woven from own l) (sym next)
      ∙ done

pub all_joined : (own : List ℕ) (ps : List Piece) (i from : ℕ) (before now whole : List ℕ) → length ps ≤ i → now ≡ before ++ drop from own → before ++ woven from own (drop i ps) ≡ whole → now ≡ whole
all_joined own ps i from before now whole most last done = last ∙ ap (λ (l : List Piece). before ++ woven from own l) (sym (drop_all i ps most)) ∙ done

-- where no piece is left, so many bytes are to come
pub last_length : (own : List ℕ) (ps : List Piece) (i from : ℕ) → length ps ≤ i → length (woven from own (drop i ps)) ≡ length (drop from own)
last_length own ps i from most = ap (λ (l : List Piece). length (woven from own l)) (drop_all i ps most)

-- the bytes of two, one after the other
pub both_value : (own other now : List ℕ) (ps qs all : List Piece) (settled len room : ℕ) → IsWoven own ps settled len room → now ≡ own ++ other → all ≡ ps ++ moved (length own) qs → woven 0 now all ≡ woven 0 own ps ++ woven 0 other qs
both_value own other now ps qs all settled len room was is alls =
    ap (λ (l : List ℕ). woven 0 l all) is
    ∙ ap (λ (l : List Piece). woven 0 (own ++ other) l) alls
    ∙ woven_append 0 own other ps qs (placed_more 0 settled (length own) ps was.within was.placed)

-- the bytes without the last own one
pub less_value : (own less : List ℕ) (b : ℕ) (ps : List Piece) (settled len room : ℕ) → IsWoven own ps settled len room → own ≡ less ++ b ∷ [] → settled < length own → woven 0 own ps ≡ woven 0 less ps ++ b ∷ []
less_value own less b ps settled len room was is low =
    let below : settled ≤ length less = omega (arith, low, ap length is, length-append less (b ∷ [])) in
    ap (λ (l : List ℕ). woven 0 l ps) is ∙ own_more 0 less (b ∷ []) ps (placed_more 0 settled (length less) ps below was.placed)

-- a text is woven still, when own bytes are put behind it
pub own_woven : (own more now : List ℕ) (ps : List Piece) (settled len room sum space : ℕ) → IsWoven own ps settled len room → now ≡ own ++ more → sum ≡ len + length more → sum < 2 ^ 63 → (0 < length ps → sum ≤ space) → IsWoven now ps settled sum space
own_woven own more now ps settled len room sum space was is counted bound fits = record {
  placed = was.placed;
  within = omega (arith, was.within, ap length is, length-append own more);
  counted = omega (arith, counted, was.counted, ap (λ (l : List ℕ). length (woven 0 l ps)) is, ap length (own_more 0 own more ps (placed_more 0 settled (length own) ps was.within was.placed)), length-append (woven 0 own ps) more);
  bound = bound;
  room = fits;
}

-- and when a piece is
pub piece_woven : (own : List ℕ) (ps now : List Piece) (p : Piece) (settled len room sum space : ℕ) → IsWoven own ps settled len room → now ≡ ps ++ p ∷ [] → p.behind ≡ length own → sum ≡ len + length p.bytes → sum < 2 ^ 63 → sum ≤ space → IsWoven own now (length own) sum space
piece_woven own ps now p settled len room sum space was is last counted bound fits =
    let placed : ArePlaced 0 (length own) ps = placed_more 0 settled (length own) ps was.within was.placed in
    record {
      placed = subst (ArePlaced 0 (length own)) (sym is) (placed_piece 0 (length own) ps p last placed);
      within = omega arith;
      counted = omega (arith, counted, was.counted, ap (λ (l : List Piece). length (woven 0 own l)) is, ap length (piece_more 0 own ps p last placed), length-append (woven 0 own ps) p.bytes);
      bound = bound;
      room = λ some. fits;
    }

-- and when another is taken over
pub both_woven : (own other now : List ℕ) (ps qs moved_qs all : List Piece) (settled len room end count space sum fit : ℕ) → IsWoven own ps settled len room → IsWoven other qs end count space → now ≡ own ++ other → moved_qs ≡ moved (length own) qs → all ≡ ps ++ moved_qs → sum ≡ len + count → sum < 2 ^ 63 → sum ≤ fit → IsWoven now all (length own + end) sum fit
both_woven own other now ps qs moved_qs all settled len room end count space sum fit was also is are alls counted bound fits =
    let placed : ArePlaced 0 (length own) ps = placed_more 0 settled (length own) ps was.within was.placed in
    let alls_moved : all ≡ ps ++ moved (length own) qs = alls ∙ ap (λ (l : List Piece). ps ++ l) are in
    record {
      placed = subst (ArePlaced 0 (length own + end)) (sym alls_moved) (placed_append 0 settled (length own) end ps qs was.within was.placed also.placed);
      within = omega (arith, ap length is, length-append own other, also.within);
      counted = omega (arith, counted, was.counted, also.counted, ap length (both_value own other now ps qs all settled len room was is alls_moved), length-append (woven 0 own ps) (woven 0 other qs));
      bound = bound;
      room = λ some. fits;
    }

-- and when the last own byte is taken off
pub less_woven : (own less : List ℕ) (b : ℕ) (ps : List Piece) (settled len room : ℕ) → IsWoven own ps settled len room → own ≡ less ++ b ∷ [] → settled < length own → IsWoven less ps settled (len - 1) room
less_woven own less b ps settled len room was is low = record {
  placed = was.placed;
  within = omega (arith, low, ap length is, length-append less (b ∷ []));
  counted = omega (arith, was.counted, ap length (less_value own less b ps settled len room was is low), length-append (woven 0 less ps) (b ∷ []));
  bound = omega (arith, was.bound);
  room = λ some. omega (arith, was.room some);
}
