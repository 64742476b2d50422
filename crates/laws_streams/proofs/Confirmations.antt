-- Openings of a range rise, and a generation is confirmed between those that are no higher and those that are higher.
use Rattle.std.proofs.Common.{◌≡◌, ℕ, ◌<◌, ◌≤◌, Bool, true, not, ◌||◌, ◌==◌, nat_lt, List, [], ◌∷◌, ◌++◌, Option, Some, None, refl, sym, ap, ◌∙◌, arith, subst, eq-eqb}
use Rattle.std.proofs.lemmas.Bool.{ltb-true, not-false, eqb-true, and_parts}
use Rattle.block_types.specs.declared.record.Record.{Record}
use Rattle.wire.specs.declared.streams.StreamKind.TheVariants.{Metadata}
use Rattle.wire.specs.declared.streams.StreamName.{StreamName}
use Rattle.streams.specs.Streams.{Stream, Streams, stream_of, has_four, passes, fenced_at, opened}
use Rattle.model_streams.specs.Manager.{open_tests, open_taken, confirm_tests}
use Rattle.model_streams.specs.StreamSystem.{ActorCell, StreamSystem, stops_in, stands_in, manager_performs, Move, moved, run_moves}
use Rattle.model_streams.proofs.Tests.{if_elim, none_met}
use Rattle.laws_streams.specs.Fences.{FencesRise, is_kept, Opens, Confirms, OpensIn, Settles}
use Rattle.laws_streams.proofs.Invariant.{run_moves_push}
use Rattle.laws_streams.proofs.RisingFences.{all_passed, run_rises, run_more}

-- a range's first stream stands for the four
abbrev first_of : ℕ → StreamName
first_of range = record { range = range; kind = Metadata }

there_is : (test : Stream → Bool) (o : Option Stream) → passes test o ≡ true → (x : Stream) × (o ≡ Some x)
there_is test None t = absurd cc
there_is test (Some x) t = (x, refl)

has_first : (streams : Streams) (range : ℕ) → has_four streams range ≡ true → (x : Stream) × (streams range 0 ≡ Some x)
has_first streams range t = there_is (λ x. true) (streams range 0) (and_parts (passes (λ x. true) (streams range 0)) _ t).0

-- ---- before an opening, and after it

open_found : (w : StreamSystem) (move : Move) (range generation : ℕ) → Opens w move range generation →
    (x : Stream) × (stream_of w.catalog.stream (first_of range) ≡ Some x) × (x.fence < generation)
open_found w move range generation a =
    let met = none_met (open_tests w.catalog a.packet range generation) a.taken in
    let (x, is) = has_first w.catalog.stream range (not-false _ met.1.0) in
    (x, is, ltb-true x.fence generation (all_passed (λ y. nat_lt y.fence generation) w.catalog.stream range Metadata x (not-false _ met.1.1.0) is))

-- the first stream of the range has this fence
abbrev HasFence : ℕ → ℕ → StreamSystem → Type 0
HasFence range generation w = (x : Stream) × (stream_of w.catalog.stream (first_of range) ≡ Some x) × (x.fence ≡ generation)

opened_first : (streams : Streams) (range generation : ℕ) (x : Stream) → streams range 0 ≡ Some x →
    (y : Stream) × (opened streams range generation range 0 ≡ Some y) × (y.fence ≡ generation)
opened_first streams range generation x is =
    if_elim (λ o. (y : Stream) × (o ≡ Some y) × (y.fence ≡ generation)) (range == range) (fenced_at generation (streams range 0)) (streams range 0)
    (λ t. rw is (record x { fence = generation }, refl, refl))
    (λ f. absurd (let t = eq-eqb range range refl in cc))

kept_parts : (c : ActorCell) (written : Option Record) → is_kept c written ≡ true → stops_in c written ≡ true → stands_in c ≡ true
kept_parts c written k s = subst (λ b. (not b || stands_in c) ≡ true) s k

opens_to : (w : StreamSystem) (move : Move) (range generation : ℕ) → (a : Opens w move range generation) →
    moved w move ≡ manager_performs w (open_taken w.catalog a.packet range generation a.request)
opens_to w move range generation a =
    let r = a.reaches in
    rw (r.delivered, r.sent, r.to, r.up, a.body, a.taken) refl

open_leaves : (w : StreamSystem) (move : Move) (range generation : ℕ) → Opens w move range generation → HasFence range generation (moved w move)
open_leaves w move range generation a =
    let (x, is, low) = open_found w move range generation a in
    let o = open_taken w.catalog a.packet range generation a.request in
    let leaves = opened_first w.catalog.stream range generation x is in
    rw (opens_to w move range generation a)
    (if_elim (HasFence range generation) (stops_in w.manager_cell o.written) _ _
    (λ s. if_elim (HasFence range generation) (stands_in w.manager_cell) _ _
    (λ t. leaves)
    (λ f. absurd (let t = kept_parts w.manager_cell o.written a.stands s in cc)))
    (λ r. leaves))

-- ---- a confirmation

confirm_found : (w : StreamSystem) (move : Move) (range generation : ℕ) → Confirms w move range generation → HasFence range generation w
confirm_found w move range generation a =
    let met = none_met (confirm_tests w.catalog a.packet range generation) a.taken in
    let (x, is) = has_first w.catalog.stream range (not-false _ met.1.0) in
    (x, is, eqb-true x.fence generation (all_passed (λ y. y.fence == generation) w.catalog.stream range Metadata x (not-false _ met.1.1.0) is))

-- ---- one after the other

rises_to : (range generation : ℕ) (w v : StreamSystem) → HasFence range generation w → FencesRise w v → (y : Stream) →
    stream_of v.catalog.stream (first_of range) ≡ Some y → generation ≤ y.fence
rises_to range generation w v (x, is, same) rises y there =
    let m = rises (first_of range) x is in
    let c : m.now ≡ y = (let d : Some m.now ≡ Some y = sym m.is ∙ there in cc) in
    omega (arith, m.fence, same, ap (λ (z : Stream). z.fence) c)

-- what was opened in these moves is the fence then, and no fence is lower after it
opened_in : (moves : List Move) (w : StreamSystem) (range generation : ℕ) → OpensIn moves w range generation → (y : Stream) →
    stream_of (run_moves moves w).catalog.stream (first_of range) ≡ Some y → generation ≤ y.fence
opened_in moves w range generation a y there =
    let v = run_moves a.past w in
    let whole : run_moves moves w ≡ run_moves a.rest (moved v a.opening) = ap (λ ms. run_moves ms w) a.split ∙ run_more a.past (a.opening ∷ a.rest) w in
    rises_to range generation (moved v a.opening) (run_moves a.rest (moved v a.opening)) (open_leaves v a.opening range generation a.opens)
    (run_rises a.rest (moved v a.opening)) y (rw (← whole) there)

-- what is opened in these moves is above the fence before them
opened_above : (moves : List Move) (w : StreamSystem) (range generation lower : ℕ) → OpensIn moves w range generation →
    ((v : StreamSystem) (y : Stream) → FencesRise w v → stream_of v.catalog.stream (first_of range) ≡ Some y → lower ≤ y.fence) → lower < generation
opened_above moves w range generation lower a low =
    let v = run_moves a.past w in
    let (x, is, below) = open_found v a.opening range generation a.opens in
    let m = low v x (run_rises a.past w) is in
    omega (arith, m, below)

pub opened_rise : (before after : List Move) (w : StreamSystem) (range first second : ℕ) → OpensIn before w range first →
    OpensIn after (run_moves before w) range second → first < second
opened_rise before after w range first second a b =
    let v = run_moves a.past w in
    let middle = run_moves before w in
    let whole : run_moves before w ≡ run_moves a.rest (moved v a.opening) = ap (λ ms. run_moves ms w) a.split ∙ run_more a.past (a.opening ∷ a.rest) w in
    let up : HasFence range first (moved v a.opening) = open_leaves v a.opening range first a.opens in
    let later : FencesRise (moved v a.opening) middle = rw whole (run_rises a.rest (moved v a.opening)) in
    opened_above after middle range second first b
    (λ u y rises is.
    let (x, here, same) = up in
    let m = later (first_of range) x here in
    let k = rises (first_of range) m.now m.is in
    let c : k.now ≡ y = (let d : Some k.now ≡ Some y = sym k.is ∙ is in cc) in
    omega (arith, m.fence, k.fence, same, ap (λ (z : Stream). z.fence) c))

pub confirmed_settles : (before after : List Move) (confirming : Move) (w : StreamSystem) (range generation : ℕ) →
    Confirms (run_moves before w) confirming range generation → Settles before after confirming w range generation
confirmed_settles before after confirming w range generation a =
    let (x, is, same) = confirm_found (run_moves before w) confirming range generation a in
    record {
      earlier = λ other b. let m = opened_in before w range other b x is in omega (arith, m, same);
      later = λ other b. opened_above after (run_moves (before ++ confirming ∷ []) w) range other generation b
          (λ v y rises there.
          let one : FencesRise (run_moves before w) (run_moves (before ++ confirming ∷ []) w) =
          rw (run_moves_push before confirming w) (run_rises (confirming ∷ []) (run_moves before w)) in
          let m = one (first_of range) x is in
          let k = rises (first_of range) m.now m.is in
          let c : k.now ≡ y = (let d : Some k.now ≡ Some y = sym k.is ∙ there in cc) in
          omega (arith, m.fence, k.fence, same, ap (λ (z : Stream). z.fence) c));
    }
