-- Each run keeps the invariant, whatever the servers do.
use Rattle.std.proofs.Common.{◌≡◌, ℕ, zero, suc, List, [], ◌∷◌, ◌++◌, length, map, take, Some, slice_get, refl, sym, ◌∙◌, subst, append_assoc, append-nil, arith, length-append}
use Rattle.wire.specs.declared.packet.Packet.{Packet}
use Rattle.model_streams.specs.declared.event.Event.{Event}
use Rattle.model_streams.specs.declared.event.Event.TheVariants.{Deliver, Decide}
use Rattle.model_streams.specs.Honest.{Agree, Kept}
use Rattle.model_streams.specs.StreamSystem.{StreamSystem, happens, run, start, Move, moved, run_moves}
use Rattle.model_streams.specs.StreamSystem.Move.{Happens}
use Rattle.laws_streams.specs.Origins.{event_of, course, course_of_moves, DeliveredAppend, DecidedSeal, Origins, OriginsOfMoves}
use Rattle.laws_streams.proofs.Lists.{take_past, get_next}
use Rattle.laws_streams.proofs.Ground.{Ground}
use Rattle.laws_streams.proofs.MoreKnown.{later_refl, later_trans}
use Rattle.laws_streams.proofs.GroupOrigins.{Comes}
use Rattle.laws_streams.proofs.DecisionRules.{SealsNow}
use Rattle.laws_streams.proofs.EventSteps.{Good, Next, good_next, moved_good, start_good}
use Rattle.laws_streams.proofs.Claims.{agree, kept, origins, same_origins}

-- ---- runs

pub run_push : (past : List Event) (event : Event) (w : StreamSystem) → run (past ++ event ∷ []) w ≡ happens (run past w) event
run_push [] event w = refl
run_push (x ∷ past) event w = run_push past event (happens w x)

pub run_moves_push : (past : List Move) (move : Move) (w : StreamSystem) → run_moves (past ++ move ∷ []) w ≡ moved (run_moves past w) move
run_moves_push [] move w = refl
run_moves_push (x ∷ past) move w = run_moves_push past move (moved w x)

-- events alone are moves
pub run_is_moves : (events : List Event) (w : StreamSystem) → run events w ≡ run_moves (map Happens events) w
run_is_moves [] w = refl
run_is_moves (event ∷ events) w = run_is_moves events (happens w event)

module _ (w : StreamSystem) (moves : List Move) where
  -- what is known after these of the moves, with the dates of the whole run
  abbrev pub After : List Move → Type 0
  After past = Good (DeliveredAppend (course_of_moves moves w)) (DecidedSeal (course_of_moves moves w)) (length past) (run_moves past w)

  -- the same, where what was known before still holds
  abbrev pub AfterMore : Ground → List Move → Type 0
  AfterMore g past = Next (DeliveredAppend (course_of_moves moves w)) (DecidedSeal (course_of_moves moves w)) (length past) g (run_moves past w)

  comes_now : (past rest : List Move) (move : Move) → moves ≡ past ++ move ∷ rest → (number : ℕ) (p : Packet) → move ≡ Happens (Deliver number) →
      slice_get (run_moves past w).post number ≡ Some p →
      Comes (DeliveredAppend (course_of_moves moves w)) (record { told = (run_moves past w).notes; number = length past; packet = p })
  comes_now past rest move whole number p is sent e generation group q body = record {
    number = number;
    packet = p;
    generation = generation;
    delivered = rw (whole, get_next past rest move, is) refl;
    sent = rw (whole, take_past past (move ∷ rest)) sent;
    body = body;
    counted = refl;
  }

  decided_now : (past rest : List Move) (move : Move) → moves ≡ past ++ move ∷ rest → (e f l : ℕ) → move ≡ Happens (Decide e) →
      SealsNow e ((run_moves past w).catalog.extent e) f l → DecidedSeal (course_of_moves moves w) f l
  decided_now past rest move whole e f l is (x, same, there, unsealed, least) = record {
    number = length past;
    extent = x;
    decided = rw (whole, get_next past rest move, is, same) refl;
    there = rw (whole, take_past past (move ∷ rest), same) there;
    unsealed = unsealed;
    least = least;
  }

  after_push : (past rest : List Move) (move : Move) → moves ≡ past ++ move ∷ rest → (g : Ground) → AfterMore g past → AfterMore g (past ++ move ∷ [])
  after_push past rest move whole g a =
      let length_is : length (past ++ move ∷ []) ≡ suc (length past) = omega (arith, length-append past (move ∷ [])) in
      let next = moved_good (DeliveredAppend (course_of_moves moves w)) (DecidedSeal (course_of_moves moves w)) (run_moves past w) move (length past) (good_next a)
      (comes_now past rest move whole) (decided_now past rest move whole) in
      rw (length_is, run_moves_push past move w)
      (record { ground = next.ground; later = later_trans g a.ground next.ground a.later next.later; holds = next.holds; dated = next.dated })

  pub after_all : (past more rest : List Move) → moves ≡ past ++ (more ++ rest) → (g : Ground) → AfterMore g past → AfterMore g (past ++ more)
  after_all past [] rest whole g a = rw (append-nil past) a
  after_all past (move ∷ more) rest whole g a =
      subst (AfterMore g) (append_assoc past (move ∷ []) more)
      (after_all (past ++ move ∷ []) more rest (whole ∙ sym (append_assoc past (move ∷ []) (more ++ rest))) g (after_push past (more ++ rest) move whole g a))

  pub from_here : (past : List Move) → (a : After past) → AfterMore a.ground past
  from_here past a = record { ground = a.ground; later = later_refl a.ground; holds = a.holds; dated = a.dated }

  pub first_good : (nodes target : ℕ) → w ≡ start nodes target → After []
  first_good nodes target is =
      rw is (start_good (DeliveredAppend (course_of_moves moves (start nodes target))) (DecidedSeal (course_of_moves moves (start nodes target))) nodes target)

  pub run_good : (nodes target : ℕ) → w ≡ start nodes target → After moves
  run_good nodes target is =
      let first = first_good nodes target is in
      good_next (after_all [] moves [] (sym (append-nil moves)) first.ground (from_here [] first))

pub agree_in_moves : (nodes target : ℕ) (moves : List Move) → Agree (run_moves moves (start nodes target)).notes
agree_in_moves nodes target moves = let a = run_good (start nodes target) moves nodes target refl in agree (run_moves moves (start nodes target)) a.ground a.holds

pub kept_in_moves : (nodes target : ℕ) (moves : List Move) → Kept (run_moves moves (start nodes target)).notes
kept_in_moves nodes target moves = let a = run_good (start nodes target) moves nodes target refl in kept (run_moves moves (start nodes target)) a.ground a.holds

pub origins_in_moves : (nodes target : ℕ) (moves : List Move) → OriginsOfMoves moves (start nodes target)
origins_in_moves nodes target moves =
    let a = run_good (start nodes target) moves nodes target refl in
    origins (length moves) (course_of_moves moves (start nodes target)) a.ground a.holds a.dated

-- ---- runs of events alone

event_same : (events : List Event) (n : ℕ) → slice_get events n ≡ event_of (slice_get (map Happens events) n)
event_same [] n = refl
event_same (x ∷ events) zero = refl
event_same (x ∷ events) (suc n) = event_same events n

before_same : (events : List Event) (w : StreamSystem) (n : ℕ) → run (take n events) w ≡ run_moves (take n (map Happens events)) w
before_same events w zero = refl
before_same [] w (suc n) = refl
before_same (x ∷ events) w (suc n) = before_same events (happens w x) n

pub agree_always : (nodes target : ℕ) (events : List Event) → Agree (run events (start nodes target)).notes
agree_always nodes target events = rw (run_is_moves events (start nodes target)) (agree_in_moves nodes target (map Happens events))

pub kept_always : (nodes target : ℕ) (events : List Event) → Kept (run events (start nodes target)).notes
kept_always nodes target events = rw (run_is_moves events (start nodes target)) (kept_in_moves nodes target (map Happens events))

pub origins_always : (nodes target : ℕ) (events : List Event) → Origins events (start nodes target)
origins_always nodes target events =
    let w = start nodes target in
    same_origins (course_of_moves (map Happens events) w) (course events w) (event_same events) (before_same events w) (run_is_moves events w)
    (origins_in_moves nodes target (map Happens events))
