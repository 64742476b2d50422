-- Steps that are added stay as they were seen, whatever is sent later.
use Rattle.std.proofs.Common.{◌≡◌, ◌∙◌, ◌+◌, ◌-◌, ◌≤◌, add-one, ap, append-nil, append_assoc, arith, drop, length, length-append, map, refl, subst, suc, sym, take, zero, ℕ, List, [], ◌∷◌, ◌++◌, inl, inr}
use Rattle.std.proofs.lemmas.List.{map-append}
use Rattle.std.specs.List.{AllByRecursion}
use Rattle.wire.specs.declared.packet.Packet.{Packet}
use Rattle.script_lines.specs.declared.line.Line.{Line}
use Rattle.script_lines.specs.declared.line.Line.TheVariants as lines
use Rattle.world.specs.Cluster.{IsRun}
use Rattle.script_run.specs.Deliveries.{IsLowest, Passed}
use Rattle.script_run.specs.Playing.{Delivers, IsSettled, Plays, SessionState, most_deliveries}
use Rattle.script_steps.specs.declared.act.Act.{Act}
use Rattle.script_steps.specs.declared.act.Act.TheVariants as acts
use Rattle.script_steps.specs.declared.step.Step.{Step}
use Rattle.script_steps.specs.Steps.{Adds, AddsOne, BeginsAnd, Grows, IsOne, IsSingle, IsStep, IsWithin, StepBegins, StepDelivers, StepDeliversLowest, StepSeen, StepsDeliverSome, StepsKept, StepsOf, StepsOfAll, StepsSettle, act_of, between, post_of, seen_of}
use Rattle.script_steps.proofs.Growth.{delivers_grow, plays_grow, same}

-- ---- lists

map_append : {A B : Type 0} (f : A → B) (xs ys : List A) → map f (xs ++ ys) ≡ map f xs ++ map f ys
map_append f [] ys = refl
map_append f (x ∷ xs) ys = ap (λ l. f x ∷ l) (map_append f xs ys)

all_append : {A : Type 0} (P : A → Type 0) (xs ys : List A) → AllByRecursion P xs → AllByRecursion P ys → AllByRecursion P (xs ++ ys)
all_append P [] ys one other = other
all_append P (x ∷ xs) ys one other = (one.0, all_append P xs ys one.1 other)

all_weaker : {A : Type 0} (P Q : A → Type 0) (xs : List A) → ((x : A) → P x → Q x) → AllByRecursion P xs → AllByRecursion Q xs
all_weaker P Q [] f h = tt
all_weaker P Q (x ∷ xs) f h = (f x h.0, all_weaker P Q xs f h.1)

-- the first so many of a list to which more was added
take_front : {A : Type 0} (n : ℕ) (xs ys : List A) → n ≤ length xs → take n (xs ++ ys) ≡ take n xs
take_front zero xs ys within = refl
take_front (suc n) [] ys within = absurd (omega arith)
take_front (suc n) (x ∷ xs) ys within = ap (λ l. x ∷ l) (take_front n xs ys (omega arith))

drop_front : (n : ℕ) (xs ys : List Packet) → n ≤ length xs → drop n (xs ++ ys) ≡ drop n xs ++ ys
drop_front zero xs ys within = refl
drop_front (suc n) [] ys within = absurd (omega arith)
drop_front (suc n) (x ∷ xs) ys within = drop_front n xs ys (omega arith)

length_drop : (n : ℕ) (xs : List Packet) → length (drop n xs) ≡ length xs - n
length_drop zero xs = omega arith
length_drop (suc n) [] = omega arith
length_drop (suc n) (x ∷ xs) = length_drop n xs ∙ omega arith

between_stays : (first end : ℕ) (xs ys : List Packet) → first ≤ end → end ≤ length xs → between (xs ++ ys) first end ≡ between xs first end
between_stays first end xs ys ordered within =
    ap (λ (l : List Packet). take (end - first) l) (drop_front first xs ys (omega arith))
    ∙ take_front (end - first) (drop first xs) ys (omega (arith, length_drop first xs))

drop_all : (xs ys : List Packet) → drop (length xs) (xs ++ ys) ≡ ys
drop_all [] ys = refl
drop_all (x ∷ xs) ys = drop_all xs ys

take_whole : (xs : List Packet) → take (length xs) xs ≡ xs
take_whole [] = refl
take_whole (x ∷ xs) = ap (λ (l : List Packet). x ∷ l) (take_whole xs)

-- what was added last
between_last : (xs ys : List Packet) → between (xs ++ ys) (length xs) (length (xs ++ ys)) ≡ ys
between_last xs ys =
    let count : length (xs ++ ys) - length xs ≡ length ys = omega (arith, length-append xs ys) in
    ap (λ (n : ℕ). take n (drop (length xs) (xs ++ ys))) count ∙ ap (λ (l : List Packet). take (length ys) l) (drop_all xs ys) ∙ take_whole ys

-- ---- steps that are there already

seen_stays : (xs ys : List Packet) (steps : List Step) → AllByRecursion (IsWithin xs) steps → map (seen_of (xs ++ ys)) steps ≡ map (seen_of xs) steps
seen_stays xs ys [] within = refl
seen_stays xs ys (step ∷ steps) within =
    ap (λ (p : List Packet). record { line = step.line; act = step.act; first = step.first; packets = p; printed = step.printed.items } ∷ map (seen_of (xs ++ ys)) steps)
    (between_stays step.first step.end xs ys within.0.0 within.0.1)
    ∙ ap (λ (l : List StepSeen). seen_of xs step ∷ l) (seen_stays xs ys steps within.1)

grows_both : (xs ys zs : List Packet) → Grows xs ys → Grows ys zs → Grows xs zs
grows_both xs ys zs one other = (one.0 ++ other.0, other.1 ∙ ap (λ (l : List Packet). l ++ other.0) one.1 ∙ append_assoc xs one.0 other.0)

within_later : (xs ys : List Packet) (steps : List Step) → Grows xs ys → AllByRecursion (IsWithin xs) steps → AllByRecursion (IsWithin ys) steps
within_later xs ys steps grown = all_weaker (IsWithin xs) (IsWithin ys) steps
    (λ step within. (within.0, omega (arith, within.1, ap length grown.1, length-append xs grown.0)))

-- none is added
pub adds_none : (x : StepsKept) (Are : List StepSeen → Type 0) → Are [] → Adds x x Are
adds_none x Are are = record { more = []; steps = sym (append-nil x.steps); within = tt; sent = same (post_of x.session); are = are }

-- some are added after others
pub adds_both : (x y z : StepsKept) (One Other Both : List StepSeen → Type 0) → ((first last : List StepSeen) → One first → Other last → Both (first ++ last))
    → Adds x y One → Adds y z Other → Adds x z Both
adds_both x y z One Other Both joins one other =
    let later = within_later (post_of y.session) (post_of z.session) one.more other.sent one.within in
    let stays : map (seen_of (post_of z.session)) one.more ≡ map (seen_of (post_of y.session)) one.more =
    ap (λ (p : List Packet). map (seen_of p) one.more) other.sent.1 ∙ seen_stays (post_of y.session) other.sent.0 one.more one.within in
    record {
      more = one.more ++ other.more;
      steps = other.steps ∙ ap (λ (l : List Step). l ++ other.more) one.steps ∙ append_assoc x.steps one.more other.more;
      within = all_append (IsWithin (post_of z.session)) one.more other.more later other.within;
      sent = grows_both (post_of x.session) (post_of y.session) (post_of z.session) one.sent other.sent;
      are = subst Both (sym (map_append (seen_of (post_of z.session)) one.more other.more ∙ ap (λ (l : List StepSeen). l ++ map (seen_of (post_of z.session)) other.more) stays))
          (joins _ _ one.are other.are);
    }

pub adds_weaker : (x y : StepsKept) (P Q : List StepSeen → Type 0) → ((more : List StepSeen) → P more → Q more) → Adds x y P → Adds x y Q
adds_weaker x y P Q f h = record { more = h.more; steps = h.steps; within = h.within; sent = h.sent; are = f _ h.are }

-- where there was none, those of y are what was added
pub only_added : (x y : StepsKept) (Are : List StepSeen → Type 0) → x.steps ≡ [] → (added : Adds x y Are) → y.steps ≡ added.more
only_added x y Are none added = added.steps ∙ ap (λ (l : List Step). l ++ added.more) none

pub all_within : (x y : StepsKept) (Are : List StepSeen → Type 0) → x.steps ≡ [] → Adds x y Are → AllByRecursion (IsWithin (post_of y.session)) y.steps
all_within x y Are none added = subst (λ (l : List Step). AllByRecursion (IsWithin (post_of y.session)) l) (sym (only_added x y Are none added)) added.within

-- a step is kept that began in the session of x and ended in that of y
pub adds_one : (x y : StepsKept) (step : Step) (k : ℕ) (act : Act) (Is : StepSeen → Type 0) → y.steps ≡ x.steps ++ step ∷ [] → Grows (post_of x.session) (post_of y.session)
    → step.line ≡ k → step.act ≡ act → step.first ≡ length (post_of x.session) → step.end ≡ length (post_of y.session)
    → ((seen : StepSeen) → seen.printed ≡ step.printed.items → IsStep k act x.session seen y.session → Is seen) → AddsOne x y Is
adds_one x y step k act Is kept grown line does first end is =
    let seen : StepSeen = seen_of (post_of y.session) step in
    let packets : between (post_of y.session) step.first step.end ≡ grown.0 =
    ap (λ (n : ℕ). between (post_of y.session) n step.end) first
    ∙ ap (λ (n : ℕ). between (post_of y.session) (length (post_of x.session)) n) end
    ∙ ap (λ (l : List Packet). between l (length (post_of x.session)) (length l)) grown.1
    ∙ between_last (post_of x.session) grown.0 in
    record {
      more = step ∷ [];
      steps = kept;
      within = ((omega (arith, first, end, ap length grown.1, length-append (post_of x.session) grown.0), omega (arith, end)), tt);
      sent = grown;
      are = (seen, refl, is seen refl (record { line = line; act = does; first = first; sends = grown.1 ∙ ap (λ (l : List Packet). post_of x.session ++ l) (sym packets) }));
    }

-- ---- a settle

pub some_next : (x y z : StepsKept) (k n : ℕ) (s : SessionState) → Adds x y (λ more. StepsDeliverSome n k s more y.session)
    → AddsOne y z (λ step. StepDeliversLowest k y.session step z.session) → Adds x z (λ more. StepsDeliverSome (n + 1) k s more z.session)
some_next x y z k n s before one =
    adds_both x y z _ _ _
    (λ first last some lowest. subst (λ (m : ℕ). StepsDeliverSome m k s (first ++ last) z.session) (sym (add-one n))
    (y.session, first, lowest.0, some, lowest.2, ap (λ (l : List StepSeen). first ++ l) lowest.1))
    before one

pub settled_at_most : (x y : StepsKept) (k n : ℕ) → n ≤ most_deliveries → most_deliveries ≤ n → Adds x y (λ more. StepsDeliverSome n k x.session more y.session)
    → Adds x y (λ more. StepsSettle k x.session more y.session)
settled_at_most x y k n few whole =
    adds_weaker x y _ _ (λ more some. record { count = n; few = few; last = y.session; deliver = some; ends = inl (omega arith, refl) })

-- a settle that finds none left
pub settled_before : (x y : StepsKept) (r : SessionState) (k n : ℕ) → n ≤ most_deliveries → Adds x y (λ more. StepsDeliverSome n k x.session more y.session) → IsSettled y.session r
    → Adds x (record y { session = r }) (λ more. StepsSettle k x.session more r)
settled_before x y r k n few before settled =
    let same_post : post_of r ≡ post_of y.session = ap post_of settled.is in
    record {
      more = before.more;
      steps = before.steps;
      within = subst (λ (p : List Packet). AllByRecursion (IsWithin p) before.more) (sym same_post) before.within;
      sent = subst (Grows (post_of x.session)) (sym same_post) before.sent;
      are = subst (λ (p : List Packet). StepsSettle k x.session (map (seen_of p) before.more) r) (sym same_post)
          (record { count = n; few = few; last = y.session; deliver = before.are; ends = inr settled });
    }

-- the lowest packet is found, and is delivered
pub lowest_added : (x y : StepsKept) (r : SessionState) (k n : ℕ) → IsLowest x.session.cut (post_of x.session) x.session.noted n × Passed x.session.noted n r.noted
    → r ≡ record x.session { noted = r.noted } → AddsOne (record x { session = r }) y (λ step. StepDelivers k n r step y.session)
    → AddsOne x y (λ step. StepDeliversLowest k x.session step y.session)
lowest_added x y r k n found is h = record {
  more = h.more;
  steps = h.steps;
  within = h.within;
  sent = subst (λ (p : List Packet). Grows p (post_of y.session)) (ap post_of is) h.sent;
  are = (
    h.are.0,
    h.are.1,
    record {
      number = n;
      noted = r.noted;
      lowest = found.0;
      passed = found.1;
      delivers = subst (λ (q : SessionState). StepDelivers k n q h.are.0 y.session) is h.are.2;
    },
  );
}

-- ---- lines in turn

-- the lines of pairs of a place and a line
abbrev pub lines_in : List (ℕ × Line) → List Line
lines_in pairs = map (λ p. p.1) pairs

pub lines_in_more : (pairs : List (ℕ × Line)) (place : ℕ) (line : Line) → lines_in (pairs ++ (place, line) ∷ []) ≡ lines_in pairs ++ line ∷ []
lines_in_more pairs place line = map-append (λ (p : ℕ × Line). p.1) pairs ((place, line) ∷ [])

-- the first of the lines is at k, so the line after them is at the place that their number is past it
steps_push : (lines : List Line) (line : Line) (k place : ℕ) (s t u : SessionState) (first last : List StepSeen) → place ≡ k + length lines
    → StepsOfAll k lines s first t → StepsOf place line t last u → StepsOfAll k (lines ++ line ∷ []) s (first ++ last) u
steps_push [] line k place s t u first last at all one = (
  u,
  last,
  [],
  subst (λ (n : ℕ). StepsOf n line s last u) (at ∙ omega arith) (subst (λ (r : SessionState). StepsOf place line r last u) all.1 one),
  (refl, refl),
  ap (λ (l : List StepSeen). l ++ last) all.0 ∙ sym (append-nil last),
)
steps_push (x ∷ lines) line k place s t u first last at all one = (
  all.0,
  all.1,
  all.2 ++ last,
  all.3,
  steps_push lines line (suc k) place all.0 t u all.2 last (at ∙ omega arith) all.4 one,
  ap (λ (l : List StepSeen). l ++ last) all.5 ∙ append_assoc all.1 all.2 last,
)

pub lines_next : (x y z : StepsKept) (lines : List Line) (line : Line) (place : ℕ) (s : SessionState) → place ≡ length lines
    → Adds x y (λ more. StepsOfAll 0 lines s more y.session) → Adds y z (λ more. StepsOf place line y.session more z.session)
    → Adds x z (λ more. StepsOfAll 0 (lines ++ line ∷ []) s more z.session)
lines_next x y z lines line place s at =
    adds_both x y z _ _ _ (λ first last all one. steps_push lines line 0 place s y.session z.session first last (at ∙ omega arith) all one)

-- a line that makes deliveries: its own step, and then these
pub begins_and : (x y z : StepsKept) (k : ℕ) (Are : SessionState → List StepSeen → Type 0) → AddsOne x y (λ step. StepBegins k x.session step y.session) → Adds y z (Are y.session)
    → Adds x z (λ more. BeginsAnd k x.session more (Are x.session))
begins_and x y z k Are one other =
    adds_both x y z _ _ _
    (λ first last begun are. (
      begun.0,
      last,
      ap (λ (l : List StepSeen). l ++ last) begun.1,
      subst (λ (t : SessionState). StepBegins k x.session begun.0 t) begun.2.2 begun.2,
      subst (λ (s : SessionState). Are s last) begun.2.2 are,
    ))
    one other

-- ---- what a call keeps

kept_step : (x y : StepsKept) (r : SessionState) (step : Step) (k : ℕ) (act : Act) (Is : StepSeen → SessionState → Type 0)
    → y ≡ record { session = r; steps = x.steps ++ step ∷ [] } → Grows (post_of x.session) (post_of r) → step.line ≡ k → step.act ≡ act
    → step.first ≡ length (post_of x.session) → step.end ≡ length (post_of r)
    → ((seen : StepSeen) → seen.printed ≡ step.printed.items → IsStep k act x.session seen r → Is seen r) → AddsOne x y (λ seen. Is seen y.session)
kept_step x y r step k act Is kept grown line does first end is =
    subst (λ (z : StepsKept). AddsOne x z (λ seen. Is seen z.session)) (sym kept)
    (adds_one x (record { session = r; steps = x.steps ++ step ∷ [] }) step k act (λ seen. Is seen r) refl grown line does first end is)

pub delivered_step : (x y : StepsKept) (r : SessionState) (step : Step) (k n : ℕ) (text : List ℕ) → y ≡ record { session = r; steps = x.steps ++ step ∷ [] }
    → IsRun x.session.run → step.line ≡ k → step.act ≡ acts.Deliver n → step.first ≡ length (post_of x.session) → step.end ≡ length (post_of r)
    → step.printed.items ≡ text → Delivers x.session n text r → AddsOne x y (λ seen. StepDelivers k n x.session seen y.session)
delivered_step x y r step k n text kept led line does first end printed delivers =
    kept_step x y r step k (acts.Deliver n) (λ seen t. StepDelivers k n x.session seen t) kept (delivers_grow x.session r n text led delivers) line does first end
    (λ seen same_text is. (is, subst (λ (l : List ℕ). Delivers x.session n l r) (sym (same_text ∙ printed)) delivers))

pub single_step : (x y : StepsKept) (r : SessionState) (step : Step) (k : ℕ) (line : Line) (text : List ℕ) → y ≡ record { session = r; steps = x.steps ++ step ∷ [] }
    → IsSingle line → IsRun x.session.run → step.line ≡ k → step.act ≡ act_of line → step.first ≡ length (post_of x.session) → step.end ≡ length (post_of r)
    → step.printed.items ≡ text → Plays x.session line text r
    → AddsOne x y (λ seen. IsStep k (act_of line) x.session seen y.session × Plays x.session line seen.printed y.session)
single_step x y r step k line text kept one led place does first end printed plays =
    kept_step x y r step k (act_of line) (λ seen t. IsStep k (act_of line) x.session seen t × Plays x.session line seen.printed t) kept
    (plays_grow x.session r line text one led plays) place does first end
    (λ seen same_text is. (is, subst (λ (l : List ℕ). Plays x.session line l r) (sym (same_text ∙ printed)) plays))

-- a line that is one step
pub single_steps : (x y : StepsKept) (k : ℕ) (line : Line) → IsSingle line
    → AddsOne x y (λ seen. IsStep k (act_of line) x.session seen y.session × Plays x.session line seen.printed y.session)
    → Adds x y (λ more. StepsOf k line x.session more y.session)
single_steps x y k line one = adds_weaker x y _ _ (λ more h. by_line line one more (h.0, h.1, h.2.0, h.2.1))
  where
    by_line : (l : Line) → IsSingle l → (more : List StepSeen) → IsOne k l x.session more y.session → StepsOf k l x.session more y.session
    by_line (lines.Submit user request) one more h = h
    by_line (lines.Deliver n) one more h = h
    by_line lines.DeliverLast one more h = absurd one
    by_line lines.Settle one more h = absurd one
    by_line (lines.Cut actor) one more h = h
    by_line (lines.Heal actor) one more h = h
    by_line (lines.Show node extent) one more h = h
    by_line (lines.Happens event) one more h = h
