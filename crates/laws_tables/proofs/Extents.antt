-- What a stream of extents shows keeps its order: it is what users see of a log with a fence.
use Rattle.std.proofs.Common.{◌≡◌, ℕ, suc, ◌+◌, ◌<◌, ◌≤◌, List, [], ◌∷◌, ◌++◌, length, map, Bool, true, false, Option, Some, None, refl, sym, ap, ◌∙◌, subst, inl, inr, ◌⊎◌, ⊎_elim, arith, append_assoc, if◌then◌else◌, ◌==◌, nat_le}
use Rattle.std.proofs.lemmas.List.{append-nil}
use Rattle.std.proofs.lemmas.Bool.{cases_lt}
use Rattle.std.proofs.lemmas.Bool.Decides.{nat_tests}
use Rattle.model_histories.specs.Story.{StreamEvent, Made, Answered, Showed, event_at, Copy, placed, from_place, KeepsOrder, EndsRise}
use Rattle.laws_tables.specs.Fenced.{Seen, Landed, Fenced, LogRun, visible, landed, fence, end_of, IsLogRun}
use Rattle.laws_tables.specs.Fenced.{May as Allows}
use Rattle.laws_tables.proofs.Range.{older, newest}
use Rattle.laws_tables.proofs.Fenced.{ends_rise, keeps_order}
use Rattle.laws_tables.proofs.Members.{contains_in, in_left}
use Rattle.model_histories.specs.StreamMachine.{In, SealedExtent, OpenExtent, StreamCore, base, one_if_live, count, all_shut, last_end, first, shut_at, Chain, Fact, AsksOpen, Opened, AsksCheck, Checked, AsksConfirm, Confirmed, Serves, Begun, AsksAppend, Appended, AsksExtend, Extended, MachineState, MachineStep, TakesOpen, TakesExtend, TakesConfirm, TakesCheck, AnswersCheck, AnswersLate, TakesAppend, Keeps, AnswersAppend, Seals, Opens, Checks, ReadsSealed, ReadsChecked, Begins, Appends, Extends, TakesConfirmed, TakesAppended, knows, sees, with_live, new_live, extended, new_copy, NotYet, all_copies, May, extend_facts, next, nothing, after, IsRun}

module _ (A : Type 0) (gen : ℕ → ℕ) where
  -- ---------------------------------------------------------------- the invariant

  -- what was read is all that stands, and nothing of a lower generation comes after it
  abbrev pub Whole : StreamCore A → ℕ → List (Copy A) → ℕ → Type 0
  Whole c g read end =
      ((c.live ≡ None) × (read ≡ all_shut c.shut) × (end ≡ last_end c.shut))
      ⊎ ((v : OpenExtent A) × (c.live ≡ Some v) × (v.loose ≡ []) × (read ≡ all_shut c.shut ++ v.kept) × (end ≡ v.sure) × (g ≤ v.fence))

  -- what a check found of an extent
  abbrev pub Stood : StreamCore A → ℕ → ℕ → List (Copy A) → ℕ → Type 0
  Stood c g e stood end =
      ((v : OpenExtent A) × (c.live ≡ Some v) × (e ≡ length c.shut) × (v.loose ≡ []) × (v.kept ≡ stood) × (v.sure ≡ end) × (g ≤ v.fence))
      ⊎ (shut_at e c.shut ≡ Some (record { copies = stood; end = end }))

  -- the log was read under a generation
  abbrev pub Read : LogRun A → ℕ → List (Copy A) → ℕ → Type 0
  Read run g read end = (more : LogRun A) × (before : LogRun A) × (run ≡ more ++ Fenced g end ∷ before) × (read ≡ landed before)

  -- what each packet and each piece of knowledge says
  abbrev pub Ok : StreamCore A → LogRun A → Fact A → Type 0
  Ok c run (AsksOpen i) = Unit {0}
  -- while the generation is the newest and not confirmed, the stream has no more extents
  Ok c run (Opened i n) = (0 < gen i) × (gen i ≤ c.fence) × (gen i ≡ c.fence → fence run < gen i → count c ≡ n)
  Ok c run (AsksCheck i e) = Unit {0}
  -- until a generation as high is confirmed, just that stands
  Ok c run (Checked i e stood end) = fence run < gen i → Stood c (gen i) e stood end
  Ok c run (AsksConfirm i read end) =
      (gen i ≤ c.fence) × (gen i ≡ c.fence → fence run < gen i → Whole c (gen i) read end) × (gen i ≡ fence run → Read run (gen i) read end)
  Ok c run (Confirmed i read end) = (gen i ≤ fence run) × Read run (gen i) read end
  Ok c run (Serves i) = gen i ≤ fence run
  Ok c run (Begun i append group) = (gen i ≤ fence run) × (event_at (visible run) append ≡ Some (Made (gen i) group))
  Ok c run (AsksAppend i e append group) = (gen i ≤ fence run) × (event_at (visible run) append ≡ Some (Made (gen i) group))
  Ok c run (Appended i append from to) = (group : A) × In (record { from = from; to = to; append = append; group = group }) (landed run)
  Ok c run (AsksExtend i n) = gen i ≤ fence run
  Ok c run (Extended i n m) = Unit {0}

  -- ---------------------------------------------------------------- what never turns false

  pub record Grows (c : StreamCore A) (run : LogRun A) (d : StreamCore A) (run' : LogRun A) : Type 0 where
    pub fence_core : c.fence ≤ d.fence
    pub fence_run : fence run ≤ fence run'
    pub known : (n : ℕ) (x : StreamEvent A) → event_at (visible run) n ≡ Some x → event_at (visible run') n ≡ Some x
    pub stays : (x : Copy A) → In x (landed run) → In x (landed run')
    pub longer : (more : LogRun A) × (run' ≡ more ++ run)
    pub counts : (g : ℕ) → g ≡ c.fence → g ≡ d.fence → fence run' < g → count d ≡ count c
    pub whole : (g : ℕ) (read : List (Copy A)) (end : ℕ) → fence run' < g → Whole c g read end → g ≡ c.fence → g ≡ d.fence → Whole d g read end
    pub stood : (g e : ℕ) (stood : List (Copy A)) (end : ℕ) → fence run' < g → Stood c g e stood end → Stood d g e stood end
    pub confirms : (g : ℕ) (read : List (Copy A)) (end : ℕ) → g ≡ fence run' → fence run < g → (g ≡ c.fence) × (Whole c g read end → Read run' g read end)

  read_longer : (run run' : LogRun A) → (more : LogRun A) × (run' ≡ more ++ run) → (g : ℕ) (read : List (Copy A)) (end : ℕ) → Read run g read end → Read run' g read end
  read_longer run run' (m, e) g read end r =
      (m ++ r.0, r.1, e ∙ ap (λ z. m ++ z) r.2 ∙ sym (append_assoc m r.0 (Fenced g end ∷ r.1)), r.3)

  ok_grows : (c : StreamCore A) (run : LogRun A) (d : StreamCore A) (run' : LogRun A) → Grows c run d run' → (f : Fact A) → Ok c run f → Ok d run' f
  ok_grows c run d run' w (AsksOpen i) ok = tt
  ok_grows c run d run' w (Opened i n) (pos, low, is) =
      let up : c.fence ≤ d.fence = w.fence_core in
      let rose : fence run ≤ fence run' = w.fence_run in (
        pos,
        omega arith,
        λ eq lt.
            let same : gen i ≡ c.fence = omega arith in
            let lt' : fence run < gen i = omega arith in
            w.counts (gen i) same eq lt ∙ is same lt',
      )
  ok_grows c run d run' w (AsksCheck i e) ok = tt
  ok_grows c run d run' w (Checked i e stood end) ok = λ lt.
      let rose : fence run ≤ fence run' = w.fence_run in
      let lt' : fence run < gen i = omega arith in
      w.stood (gen i) e stood end lt (ok lt')
  ok_grows c run d run' w (AsksConfirm i read end) (low, whole, was) =
      let up : c.fence ≤ d.fence = w.fence_core in
      let rose : fence run ≤ fence run' = w.fence_run in (
        omega arith,
        λ eq lt.
            let same : gen i ≡ c.fence = omega arith in
            let lt' : fence run < gen i = omega arith in
            w.whole (gen i) read end lt (whole same lt') same eq,
        λ at. ⊎_elim {C = Read run' (gen i) read end}
            (λ (lt : fence run < gen i). let k : (gen i ≡ c.fence) × (Whole c (gen i) read end → Read run' (gen i) read end) = w.confirms (gen i) read end at lt in k.1 (whole k.0 lt))
            (λ (le : gen i ≤ fence run). let same : gen i ≡ fence run = omega arith in read_longer run run' w.longer (gen i) read end (was same))
            (cases_lt (fence run) (gen i)),
      )
  ok_grows c run d run' w (Confirmed i read end) (low, was) =
      let rose : fence run ≤ fence run' = w.fence_run in
      (omega arith, read_longer run run' w.longer (gen i) read end was)
  ok_grows c run d run' w (Serves i) ok = let rose : fence run ≤ fence run' = w.fence_run in omega arith
  ok_grows c run d run' w (Begun i append group) (low, made) = let rose : fence run ≤ fence run' = w.fence_run in (omega arith, w.known append (Made (gen i) group) made)
  ok_grows c run d run' w (AsksAppend i e append group) (low, made) = let rose : fence run ≤ fence run' = w.fence_run in (omega arith, w.known append (Made (gen i) group) made)
  ok_grows c run d run' w (Appended i append from to) (group, there) = (group, w.stays (record { from = from; to = to; append = append; group = group }) there)
  ok_grows c run d run' w (AsksExtend i n) ok = let rose : fence run ≤ fence run' = w.fence_run in omega arith
  ok_grows c run d run' w (Extended i n m) ok = tt

  -- each of the loose copies is of an append that was begun, of no lower generation than the last that is confirmed
  abbrev pub Young : LogRun A → List (Copy A) → Type 0
  Young run [] = Unit {0}
  Young run (x ∷ xs) = ((g : ℕ) × (event_at (visible run) x.append ≡ Some (Made g x.group)) × (fence run ≤ g)) × Young run xs

  abbrev pub Shape : LogRun A → List (SealedExtent A) → Option (OpenExtent A) → Type 0
  Shape run shut None = end_of run ≤ last_end shut
  Shape run shut (Some v) = (end_of run ≤ v.sure) × (fence run ≤ v.fence) × Chain v.sure v.loose v.end × (v.end ≤ base (suc (length shut))) × Young run v.loose

  pub record Inv (s : MachineState A) (run : LogRun A) : Type 0 where
    pub is_run : IsLogRun run
    pub seen : visible run ≡ s.story
    pub kept : landed run ≡ all_copies A gen s.core s.core.live
    pub low : fence run ≤ s.core.fence
    pub shape : Shape run s.core.shut s.core.live
    pub room : last_end s.core.shut ≤ base (length s.core.shut)
    pub facts : (f : Fact A) → In f s.facts → Ok s.core run f
    -- a generation is opened once
    pub unique : (i j n m : ℕ) → In (Opened i n) s.facts → In (Opened j m) s.facts → gen i ≡ gen j → i ≡ j
    pub opened : (i : ℕ) (read : List (Copy A)) (end : ℕ) → In (AsksConfirm i read end) s.facts → (n : ℕ) × In (Opened i n) s.facts
    -- the last that is confirmed had asked for it
    pub taken : 0 < fence run → (j : ℕ) × (read : List (Copy A)) × (end : ℕ) × In (AsksConfirm j read end) s.facts × (gen j ≡ fence run)

  abbrev pub Follows : MachineState A → Type 0
  Follows s = (run : LogRun A) × Inv s run

  -- ---------------------------------------------------------------- one more piece of knowledge

  know : (s : MachineState A) (run : LogRun A) → Inv s run → (f : Fact A) → Ok s.core run f →
      ((i n : ℕ) → Opened i n ≡ f → ⊥) → ((i : ℕ) (read : List (Copy A)) (end : ℕ) → AsksConfirm i read end ≡ f → ⊥) → Inv (knows A gen s f) run
  know s run v f ok not_open not_asked = record {
    is_run = v.is_run;
    seen = v.seen;
    kept = v.kept;
    low = v.low;
    shape = v.shape;
    room = v.room;
    facts = λ x i. ⊎_elim {C = Ok s.core run x} (λ (e : x ≡ f). subst (Ok s.core run) (sym e) ok) (λ j. v.facts x j) i;
    unique = λ i j n m a b. ⊎_elim {C = gen i ≡ gen j → i ≡ j} (λ e. absurd (not_open i n e))
        (λ (a' : In (Opened i n) s.facts). ⊎_elim {C = gen i ≡ gen j → i ≡ j} (λ e. absurd (not_open j m e)) (λ b'. v.unique i j n m a' b') b) a;
    opened = λ i read end a. ⊎_elim {C = (n : ℕ) × In (Opened i n) (f ∷ s.facts)} (λ e. absurd (not_asked i read end e))
        (λ (a' : In (AsksConfirm i read end) s.facts). let o : (n : ℕ) × In (Opened i n) s.facts = v.opened i read end a' in (o.0, inr o.1)) a;
    taken = λ p. let t : (j : ℕ) × (read : List (Copy A)) × (end : ℕ) × In (AsksConfirm j read end) s.facts × (gen j ≡ fence run) = v.taken p in (t.0, t.1, t.2, inr t.3, t.4);
  }

  know_asked : (s : MachineState A) (run : LogRun A) → Inv s run → (i n : ℕ) (read : List (Copy A)) (end : ℕ) → Ok s.core run (AsksConfirm i read end) →
      In (Opened i n) s.facts → Inv (knows A gen s (AsksConfirm i read end)) run
  know_asked s run v i n read end ok open_i = record {
    is_run = v.is_run;
    seen = v.seen;
    kept = v.kept;
    low = v.low;
    shape = v.shape;
    room = v.room;
    facts = λ x m. ⊎_elim {C = Ok s.core run x} (λ (e : x ≡ AsksConfirm i read end). subst (Ok s.core run) (sym e) ok) (λ j. v.facts x j) m;
    unique = λ a b n' m p q. ⊎_elim {C = gen a ≡ gen b → a ≡ b} (λ (e : Opened a n' ≡ AsksConfirm i read end). absurd (cc))
        (λ (p' : In (Opened a n') s.facts). ⊎_elim {C = gen a ≡ gen b → a ≡ b} (λ (e : Opened b m ≡ AsksConfirm i read end). absurd (cc)) (λ q'. v.unique a b n' m p' q') q) p;
    opened = λ j r t a. ⊎_elim {C = (n : ℕ) × In (Opened j n) (AsksConfirm i read end ∷ s.facts)}
        (λ (e : AsksConfirm j r t ≡ AsksConfirm i read end). let same : j ≡ i = cc in (n, inr (subst (λ z. In (Opened z n) s.facts) (sym same) open_i)))
        (λ (a' : In (AsksConfirm j r t) s.facts). let o : (n : ℕ) × In (Opened j n) s.facts = v.opened j r t a' in (o.0, inr o.1)) a;
    taken = λ p. let t : (j : ℕ) × (read : List (Copy A)) × (end : ℕ) × In (AsksConfirm j read end) s.facts × (gen j ≡ fence run) = v.taken p in (t.0, t.1, t.2, inr t.3, t.4);
  }

  -- ---------------------------------------------------------------- one more event of the story

  young_seen : (run : LogRun A) (e : StreamEvent A) (xs : List (Copy A)) → Young run xs → Young (Seen e ∷ run) xs
  young_seen run e [] y = tt
  young_seen run e (x ∷ xs) ((g, made, le), more) = ((g, older A e (visible run) x.append (Made g x.group) made, le), young_seen run e xs more)

  shape_seen : (run : LogRun A) (e : StreamEvent A) (shut : List (SealedExtent A)) (o : Option (OpenExtent A)) → Shape run shut o → Shape (Seen e ∷ run) shut o
  shape_seen run e shut None h = h
  shape_seen run e shut (Some v) (a, b, c, d, y) = (a, b, c, d, young_seen run e v.loose y)

  seen_grows : (c : StreamCore A) (run : LogRun A) (e : StreamEvent A) → Grows c run c (Seen e ∷ run)
  seen_grows c run e = record {
    fence_core = omega arith;
    fence_run = omega arith;
    known = λ n x h. older A e (visible run) n x h;
    stays = λ x i. i;
    longer = (Seen e ∷ [], refl);
    counts = λ g p q lt. refl;
    whole = λ g read end lt h p q. h;
    stood = λ g e' st end lt h. h;
    confirms = λ g read end at lt. absurd (omega arith);
  }

  see : (s : MachineState A) (run : LogRun A) → Inv s run → (e : StreamEvent A) → Allows run (Seen e) → Inv (sees A gen s e) (Seen e ∷ run)
  see s run v e may = record {
    is_run = (may, v.is_run);
    seen = ap (λ z. e ∷ z) v.seen;
    kept = v.kept;
    low = v.low;
    shape = shape_seen run e s.core.shut s.core.live v.shape;
    room = v.room;
    facts = λ f i. ok_grows s.core run s.core (Seen e ∷ run) (seen_grows s.core run e) f (v.facts f i);
    unique = v.unique;
    opened = v.opened;
    taken = v.taken;
  }

  -- ---------------------------------------------------------------- small things

  chain_le : (a : ℕ) (xs : List (Copy A)) (b : ℕ) → Chain a xs b → a ≤ b
  chain_le a [] b e = omega arith
  chain_le a (x ∷ xs) b (e, lt, more) = let le : x.to ≤ b = chain_le x.to xs b more in omega arith

  chain_push : (a : ℕ) (xs : List (Copy A)) (b : ℕ) (x : Copy A) → Chain a xs b → x.from ≡ b → x.from < x.to → Chain a (xs ++ x ∷ []) x.to
  chain_push a [] b x e at lt = (at ∙ sym e, lt, refl)
  chain_push a (y ∷ xs) b x (e, l, more) at lt = (e, l, chain_push y.to xs b x more at lt)

  young_push : (run : LogRun A) (xs : List (Copy A)) (x : Copy A) → Young run xs → Young run (x ∷ []) → Young run (xs ++ x ∷ [])
  young_push run [] x y z = z
  young_push run (w ∷ xs) x (a, y) z = (a, young_push run xs x y z)

  young_landed : (run : LogRun A) (c : Copy A) (xs : List (Copy A)) → Young run xs → Young (Landed c ∷ run) xs
  young_landed run c [] y = tt
  young_landed run c (x ∷ xs) (a, y) = (a, young_landed run c xs y)

  first_all : (n : ℕ) (shut : List (SealedExtent A)) → length shut ≤ n → first n shut ≡ shut
  first_all n [] h = refl
  first_all n (x ∷ older) h = go (nat_le n (length older)) refl
    where
      go : (b : Bool) → nat_le n (length older) ≡ b → (if b then first n older else x ∷ older) ≡ x ∷ older
      go true e = let le : n ≤ length older = grind (arith, nat_tests) in absurd (omega arith)
      go false e = refl

  at_newest : (x : SealedExtent A) (older : List (SealedExtent A)) (e : ℕ) → e ≡ length older → shut_at e (x ∷ older) ≡ Some x
  at_newest x older e h = go (e == length older) refl
    where
      go : (b : Bool) → (e == length older) ≡ b → (if b then Some x else shut_at e older) ≡ Some x
      go true q = refl
      go false q = absurd (grind (arith, nat_tests))

  at_older : (x : SealedExtent A) (older : List (SealedExtent A)) (e : ℕ) → e < length older → shut_at e (x ∷ older) ≡ shut_at e older
  at_older x older e h = go (e == length older) refl
    where
      go : (b : Bool) → (e == length older) ≡ b → (if b then Some x else shut_at e older) ≡ shut_at e older
      go true q = let same : e ≡ length older = grind (arith, nat_tests) in absurd (omega arith)
      go false q = refl

  at_below : (shut : List (SealedExtent A)) (e : ℕ) (y : SealedExtent A) → shut_at e shut ≡ Some y → e < length shut
  at_below [] e y h = absurd (cc)
  at_below (x ∷ older) e y h = go (λ r. at_below older e y r) (e == length older) refl h
    where
      go : (shut_at e older ≡ Some y → e < length older) → (b : Bool) → (e == length older) ≡ b → (if b then Some x else shut_at e older) ≡ Some y → e < suc (length older)
      go f true q r = let same : e ≡ length older = grind (arith, nat_tests) in omega arith
      go f false q r = let l : e < length older = f r in omega arith

  same_live : (c : StreamCore A) (v w : OpenExtent A) → c.live ≡ Some v → c.live ≡ Some w → v ≡ w
  same_live c v w a b = let e : Some v ≡ Some w = sym a ∙ b in cc

  not_none : (c : StreamCore A) (v : OpenExtent A) → c.live ≡ Some v → c.live ≡ None → ⊥
  not_none c v a b = let e : Some v ≡ None = sym a ∙ b in cc

  -- ---------------------------------------------------------------- what the manager and the primaries do

  abbrev pub fenced : StreamCore A → ℕ → StreamCore A
  fenced c g = record c { fence = g }

  open_grows : (c : StreamCore A) (run : LogRun A) (g : ℕ) → c.fence < g → Grows c run (record c { fence = g }) run
  open_grows c run g lt = record {
    fence_core = omega arith;
    fence_run = omega arith;
    known = λ n x h. h;
    stays = λ x i. i;
    longer = ([], refl);
    counts = λ k p q l. refl;
    whole = λ k read end l h p q. absurd (omega arith);
    stood = λ k e st end l h. h;
    confirms = λ k read end at l. absurd (omega arith);
  }

  opening : (s : MachineState A) (run : LogRun A) → Inv s run → (i : ℕ) → s.core.fence < gen i → Inv (next A gen s (TakesOpen i)) run
  opening s run v i lt = record {
    is_run = v.is_run;
    seen = v.seen;
    kept = kept_same s.core.live v.kept;
    low = (let l : fence run ≤ s.core.fence = v.low in omega arith);
    shape = v.shape;
    room = v.room;
    facts = λ f m. ⊎_elim {C = Ok (fenced s.core (gen i)) run f}
        (λ (e : f ≡ Opened i (count s.core)). subst (Ok (fenced s.core (gen i)) run) (sym e) (omega arith, omega arith, λ p q. refl))
        (λ j. ok_grows s.core run (fenced s.core (gen i)) run (open_grows s.core run (gen i) lt) f (v.facts f j)) m;
    unique = λ a b n m p q.
        ⊎_elim {C = gen a ≡ gen b → a ≡ b}
        (λ (e : Opened a n ≡ Opened i (count s.core)).
        let ai : a ≡ i = cc in
        ⊎_elim {C = gen a ≡ gen b → a ≡ b}
        (λ (e' : Opened b m ≡ Opened i (count s.core)). λ g. let bi : b ≡ i = cc in ai ∙ sym bi)
        (λ q'. λ g. let ok : Ok s.core run (Opened b m) = v.facts (Opened b m) q' in let le : gen b ≤ s.core.fence = ok.1 in let ga : gen a ≡ gen i = ap gen ai in absurd (omega arith)) q)
        (λ (p' : In (Opened a n) s.facts).
        ⊎_elim {C = gen a ≡ gen b → a ≡ b}
        (λ (e' : Opened b m ≡ Opened i (count s.core)). λ g. let bi : b ≡ i = cc in let ok : Ok s.core run (Opened a n) = v.facts (Opened a n) p' in let le : gen a ≤ s.core.fence = ok.1 in let gb : gen b ≡ gen i = ap gen bi in absurd (omega arith))
        (λ q'. v.unique a b n m p' q') q)
        p;
    opened = λ j read end a. ⊎_elim {C = (n : ℕ) × In (Opened j n) (Opened i (count s.core) ∷ s.facts)} (λ (e : AsksConfirm j read end ≡ Opened i (count s.core)). absurd (cc))
        (λ (a' : In (AsksConfirm j read end) s.facts). let o : (n : ℕ) × In (Opened j n) s.facts = v.opened j read end a' in (o.0, inr o.1)) a;
    taken = λ p. let t : (j : ℕ) × (read : List (Copy A)) × (end : ℕ) × In (AsksConfirm j read end) s.facts × (gen j ≡ fence run) = v.taken p in (t.0, t.1, t.2, inr t.3, t.4);
  }
    where
      kept_same : (o : Option (OpenExtent A)) → landed run ≡ all_copies A gen s.core o → landed run ≡ all_copies A gen (record s.core { fence = gen i }) o
      kept_same None h = h
      kept_same (Some w) h = h

  -- the same knowledge about a core that has grown
  moved : (s : MachineState A) (run : LogRun A) → Inv s run → (d : StreamCore A) → Grows s.core run d run → landed run ≡ all_copies A gen d d.live → fence run ≤ d.fence →
      Shape run d.shut d.live → last_end d.shut ≤ base (length d.shut) → Inv (record s { core = d }) run
  moved s run v d w kept low shape room = record {
    is_run = v.is_run;
    seen = v.seen;
    kept = kept;
    low = low;
    shape = shape;
    room = room;
    facts = λ f i. ok_grows s.core run d run w f (v.facts f i);
    unique = v.unique;
    opened = v.opened;
    taken = v.taken;
  }

  live_shape : (s : MachineState A) (run : LogRun A) → Inv s run → (v : OpenExtent A) → s.core.live ≡ Some v → Shape run s.core.shut (Some v)
  live_shape s run inv v e = subst (Shape run s.core.shut) e inv.shape

  live_kept : (s : MachineState A) (run : LogRun A) → Inv s run → (v : OpenExtent A) → s.core.live ≡ Some v → landed run ≡ all_shut s.core.shut ++ v.kept
  live_kept s run inv v e = inv.kept ∙ ap (λ o. all_copies A gen s.core o) e

  pub live_count : (c : StreamCore A) (v w : OpenExtent A) → c.live ≡ Some v → count (with_live A gen c w) ≡ count c
  live_count c v w e = sym (ap (λ o. length c.shut + one_if_live o) e)

  checking : (s : MachineState A) (run : LogRun A) → Inv s run → (g : ℕ) (v : OpenExtent A) → s.core.live ≡ Some v → v.fence ≤ g → Inv (record s { core = with_live A gen s.core (record v { fence = g }) }) run
  checking s run inv g v e le =
      let sh : Shape run s.core.shut (Some v) = live_shape s run inv v e in
      moved s run inv (with_live A gen s.core (record v { fence = g }))
      (record {
        fence_core = omega arith;
        fence_run = omega arith;
        known = λ n x h. h;
        stays = λ x i. i;
        longer = ([], refl);
        counts = λ k p q l. live_count s.core v (record v { fence = g }) e;
        whole = λ k read end l h p q. ⊎_elim {C = Whole (with_live A gen s.core (record v { fence = g })) k read end}
            (λ (a : (s.core.live ≡ None) × (read ≡ all_shut s.core.shut) × (end ≡ last_end s.core.shut)). absurd (not_none s.core v e a.0))
            (λ (a : (w : OpenExtent A) × (s.core.live ≡ Some w) × (w.loose ≡ []) × (read ≡ all_shut s.core.shut ++ w.kept) × (end ≡ w.sure) × (k ≤ w.fence)).
            let same : a.0 ≡ v = same_live s.core a.0 v a.1 e in
            let f : (a.0).fence ≡ v.fence = ap (λ z. z.fence) same in
            let lw : k ≤ (a.0).fence = a.5 in
            inr (record v { fence = g }, refl, sym (ap (λ z. z.loose) same) ∙ a.2, a.3 ∙ ap (λ z. all_shut s.core.shut ++ z.kept) same, a.4 ∙ ap (λ z. z.sure) same, omega arith)) h;
        stood = λ k e' st end l h. ⊎_elim {C = Stood (with_live A gen s.core (record v { fence = g })) k e' st end}
            (λ (a : (w : OpenExtent A) × (s.core.live ≡ Some w) × (e' ≡ length s.core.shut) × (w.loose ≡ []) × (w.kept ≡ st) × (w.sure ≡ end) × (k ≤ w.fence)).
            let same : a.0 ≡ v = same_live s.core a.0 v a.1 e in
            let f : (a.0).fence ≡ v.fence = ap (λ z. z.fence) same in
            let lw : k ≤ (a.0).fence = a.6 in
            inl (record v { fence = g }, refl, a.2, sym (ap (λ z. z.loose) same) ∙ a.3, sym (ap (λ z. z.kept) same) ∙ a.4, sym (ap (λ z. z.sure) same) ∙ a.5, omega arith))
            (λ a. inr a) h;
        confirms = λ k read end at l. absurd (omega arith);
      })
      (live_kept s run inv v e) inv.low
      (let f : fence run ≤ v.fence = sh.1 in (sh.0, omega arith, sh.2, sh.3, sh.4))
      inv.room

  -- a new extent, by the generation that is the manager's fence and is confirmed
  extending : (s : MachineState A) (run : LogRun A) → Inv s run → (g n : ℕ) → g ≤ fence run → g ≡ s.core.fence → (o : Option (OpenExtent A)) → s.core.live ≡ o →
      Inv (record s { core = extended A gen s.core g n o }) run
  extending s run inv g n served at (Some v) e = inv
  extending s run inv g n served at None e = go (n == length s.core.shut)
    where
      sh : end_of run ≤ last_end s.core.shut
      sh = subst (Shape run s.core.shut) e inv.shape

      low : fence run ≤ s.core.fence
      low = inv.low

      room : last_end s.core.shut ≤ base (length s.core.shut)
      room = inv.room

      go : (b : Bool) → Inv (record s { core = if b then with_live A gen s.core (new_live A gen s.core g) else s.core }) run
      go false = inv
      go true = moved s run inv (with_live A gen s.core (new_live A gen s.core g))
          (record {
            fence_core = omega arith;
            fence_run = omega arith;
            known = λ k x h. h;
            stays = λ x i. i;
            longer = ([], refl);
            counts = λ k p q l. let a : fence run ≤ s.core.fence = low in absurd (omega arith);
            whole = λ k read end l h p q. let a : fence run ≤ s.core.fence = low in absurd (omega arith);
            stood = λ k e' st end l h. ⊎_elim {C = Stood (with_live A gen s.core (new_live A gen s.core g)) k e' st end}
                (λ (a : (w : OpenExtent A) × (s.core.live ≡ Some w) × (e' ≡ length s.core.shut) × (w.loose ≡ []) × (w.kept ≡ st) × (w.sure ≡ end) × (k ≤ w.fence)). absurd (not_none s.core a.0 a.1 e))
                (λ a. inr a) h;
            confirms = λ k read end p l. absurd (omega arith);
          })
          (inv.kept ∙ ap (λ z. all_copies A gen s.core z) e ∙ sym (append-nil (all_shut s.core.shut)))
          low
          (let a : end_of run ≤ last_end s.core.shut = sh in let b : last_end s.core.shut ≤ base (length s.core.shut) = room in let c : fence run ≤ s.core.fence = low in (omega arith, omega arith, refl, omega arith, tt))
          room

  -- the primary of the last extent takes an append
  appending : (s : MachineState A) (run : LogRun A) → Inv s run → (g append : ℕ) (group : A) (to : ℕ) (v : OpenExtent A) → g ≤ fence run → event_at (visible run) append ≡ Some (Made g group) →
      s.core.live ≡ Some v → v.fence ≤ g → v.end < to → to ≤ base (suc (length s.core.shut)) →
      Inv (record s { core = with_live A gen s.core (record v { loose = v.loose ++ new_copy A gen v to append group ∷ []; end = to }) }) run
  appending s run inv g append group to v served made e le lt fits =
      let sh : Shape run s.core.shut (Some v) = live_shape s run inv v e in
      let low : fence run ≤ v.fence = sh.1 in
      let w : OpenExtent A = record v { loose = v.loose ++ new_copy A gen v to append group ∷ []; end = to } in
      moved s run inv (with_live A gen s.core w)
      (record {
        fence_core = omega arith;
        fence_run = omega arith;
        known = λ n x h. h;
        stays = λ x i. i;
        longer = ([], refl);
        counts = λ k p q l. live_count s.core v w e;
        whole = λ k read end l h p q. ⊎_elim {C = Whole (with_live A gen s.core w) k read end}
            (λ (a : (s.core.live ≡ None) × (read ≡ all_shut s.core.shut) × (end ≡ last_end s.core.shut)). absurd (not_none s.core v e a.0))
            (λ (a : (u : OpenExtent A) × (s.core.live ≡ Some u) × (u.loose ≡ []) × (read ≡ all_shut s.core.shut ++ u.kept) × (end ≡ u.sure) × (k ≤ u.fence)).
            let same : (a.0).fence ≡ v.fence = ap (λ z. z.fence) (same_live s.core a.0 v a.1 e) in
            let lw : k ≤ (a.0).fence = a.5 in
            absurd (omega arith)) h;
        stood = λ k e' st end l h. ⊎_elim {C = Stood (with_live A gen s.core w) k e' st end}
            (λ (a : (u : OpenExtent A) × (s.core.live ≡ Some u) × (e' ≡ length s.core.shut) × (u.loose ≡ []) × (u.kept ≡ st) × (u.sure ≡ end) × (k ≤ u.fence)).
            let same : (a.0).fence ≡ v.fence = ap (λ z. z.fence) (same_live s.core a.0 v a.1 e) in
            let lw : k ≤ (a.0).fence = a.6 in
            absurd (omega arith))
            (λ a. inr a) h;
        confirms = λ k read end p l. absurd (omega arith);
      })
      (live_kept s run inv v e) inv.low
      (sh.0, sh.1, chain_push v.sure v.loose v.end (new_copy A gen v to append group) sh.2 refl lt, fits, young_push run v.loose (new_copy A gen v to append group) sh.4 ((g, made, omega arith), tt))
      inv.room

  -- one more copy is there for good: now it lands
  keeping : (s : MachineState A) (run : LogRun A) → Inv s run → (c : Copy A) (rest : List (Copy A)) (v : OpenExtent A) → s.core.live ≡ Some v → v.loose ≡ c ∷ rest →
      Inv (next A gen s (Keeps c rest v)) (Landed c ∷ run)
  keeping s run inv c rest v e head =
      let sh : Shape run s.core.shut (Some v) = live_shape s run inv v e in
      let chain : Chain v.sure (c ∷ rest) v.end = subst (λ z. Chain v.sure z v.end) head sh.2 in
      let young : Young run (c ∷ rest) = subst (Young run) head sh.4 in
      let w : OpenExtent A = record v { kept = v.kept ++ c ∷ []; sure = c.to; loose = rest } in
      let d : StreamCore A = with_live A gen s.core w in
      let ends : end_of run ≤ v.sure = sh.0 in
      let from : c.from ≡ v.sure = chain.0 in
      let grows : Grows s.core run d (Landed c ∷ run) = record {
        fence_core = omega arith;
        fence_run = omega arith;
        known = λ n x h. h;
        stays = λ x i. in_left x (landed run) (c ∷ []) i;
        longer = (Landed c ∷ [], refl);
        counts = λ k p q l. live_count s.core v w e;
        whole = λ k read end l h p q. ⊎_elim {C = Whole d k read end}
            (λ (a : (s.core.live ≡ None) × (read ≡ all_shut s.core.shut) × (end ≡ last_end s.core.shut)). absurd (not_none s.core v e a.0))
            (λ (a : (u : OpenExtent A) × (s.core.live ≡ Some u) × (u.loose ≡ []) × (read ≡ all_shut s.core.shut ++ u.kept) × (end ≡ u.sure) × (k ≤ u.fence)).
            let no_more : [] ≡ c ∷ rest = sym a.2 ∙ ap (λ z. z.loose) (same_live s.core a.0 v a.1 e) ∙ head in absurd (cc)) h;
        stood = λ k e' st end l h. ⊎_elim {C = Stood d k e' st end}
            (λ (a : (u : OpenExtent A) × (s.core.live ≡ Some u) × (e' ≡ length s.core.shut) × (u.loose ≡ []) × (u.kept ≡ st) × (u.sure ≡ end) × (k ≤ u.fence)).
            let no_more : [] ≡ c ∷ rest = sym a.3 ∙ ap (λ z. z.loose) (same_live s.core a.0 v a.1 e) ∙ head in absurd (cc))
            (λ a. inr a) h;
        confirms = λ k read end p l. absurd (omega arith);
      } in
      record {
        is_run = ((young.0.0, young.0.1, young.0.2, omega arith, chain.1), inv.is_run);
        seen = inv.seen;
        kept = ap (λ z. z ++ c ∷ []) (live_kept s run inv v e) ∙ append_assoc (all_shut s.core.shut) v.kept (c ∷ []);
        low = inv.low;
        shape = (omega arith, sh.1, chain.2, sh.3, young_landed run c rest young.1);
        room = inv.room;
        facts = λ f i. ok_grows s.core run d (Landed c ∷ run) grows f (inv.facts f i);
        unique = inv.unique;
        opened = inv.opened;
        taken = inv.taken;
      }

  -- the last extent is sealed
  sealing : (s : MachineState A) (run : LogRun A) → Inv s run → (v : OpenExtent A) → s.core.live ≡ Some v → Inv (next A gen s (Seals v)) run
  sealing s run inv v e =
      let sh : Shape run s.core.shut (Some v) = live_shape s run inv v e in
      let x : SealedExtent A = record { copies = v.kept; end = v.sure } in
      let d : StreamCore A = record s.core { shut = x ∷ s.core.shut; live = None } in
      let le : v.sure ≤ v.end = chain_le v.sure v.loose v.end sh.2 in
      let fits : v.end ≤ base (suc (length s.core.shut)) = sh.3 in
      let edge : end_of run ≤ v.sure = sh.0 in
      moved s run inv d
      (record {
        fence_core = omega arith;
        fence_run = omega arith;
        known = λ n y h. h;
        stays = λ y i. i;
        longer = ([], refl);
        counts = λ k p q l. let one : count s.core ≡ length s.core.shut + 1 = ap (λ o. length s.core.shut + one_if_live o) e in omega arith;
        whole = λ k read end l h p q. ⊎_elim {C = Whole d k read end}
            (λ (a : (s.core.live ≡ None) × (read ≡ all_shut s.core.shut) × (end ≡ last_end s.core.shut)). absurd (not_none s.core v e a.0))
            (λ (a : (u : OpenExtent A) × (s.core.live ≡ Some u) × (u.loose ≡ []) × (read ≡ all_shut s.core.shut ++ u.kept) × (end ≡ u.sure) × (k ≤ u.fence)).
            let same : a.0 ≡ v = same_live s.core a.0 v a.1 e in
            inl (refl, a.3 ∙ ap (λ z. all_shut s.core.shut ++ z.kept) same, a.4 ∙ ap (λ z. z.sure) same)) h;
        stood = λ k e' st end l h. ⊎_elim {C = Stood d k e' st end}
            (λ (a : (u : OpenExtent A) × (s.core.live ≡ Some u) × (e' ≡ length s.core.shut) × (u.loose ≡ []) × (u.kept ≡ st) × (u.sure ≡ end) × (k ≤ u.fence)).
            let same : v ≡ a.0 = same_live s.core v a.0 e a.1 in
            inr (at_newest x s.core.shut e' a.2 ∙ ap (λ (z : OpenExtent A). Some (record { copies = z.kept; end = z.sure })) same ∙ ap (λ z. Some (record { copies = z; end = (a.0).sure })) a.4 ∙ ap (λ z. Some (record { copies = st; end = z })) a.5))
            (λ (a : shut_at e' s.core.shut ≡ Some (record { copies = st; end = end })). inr (at_older x s.core.shut e' (at_below s.core.shut e' (record { copies = st; end = end }) a) ∙ a)) h;
        confirms = λ k read end p l. absurd (omega arith);
      })
      (live_kept s run inv v e) inv.low edge (omega arith)

  -- ---------------------------------------------------------------- what is read and confirmed

  whole_end : (c : StreamCore A) (g k : ℕ) (xs ys : List (Copy A)) (a b : ℕ) → Whole c g xs a → Whole c k ys b → a ≡ b
  whole_end c g k xs ys a b (inl (no_live, is, at)) (inl (no_live', is', at')) = at ∙ sym at'
  whole_end c g k xs ys a b (inl (no_live, is, at)) (inr (v, e, loose', is', at', le')) = absurd (not_none c v e no_live)
  whole_end c g k xs ys a b (inr (v, e, loose, is', at', le)) (inl (no_live, is, at)) = absurd (not_none c v e no_live)
  whole_end c g k xs ys a b (inr (v, e, loose, is, at, le)) (inr (w, e', loose', is', at', le')) = at ∙ ap (λ z. z.sure) (same_live c v w e e') ∙ sym at'

  whole_read : (c : StreamCore A) (g : ℕ) (xs : List (Copy A)) (a : ℕ) → Whole c g xs a → xs ≡ all_copies A gen c c.live
  whole_read c g xs a (inl (no_live, is, at)) = is ∙ sym (ap (λ o. all_copies A gen c o) no_live)
  whole_read c g xs a (inr (v, e, loose, is, at, le)) = is ∙ sym (ap (λ o. all_copies A gen c o) e)

  -- no copy is loose where all was read, and the primary of the last extent takes nothing older
  whole_shape : (c : StreamCore A) (run : LogRun A) (g : ℕ) (xs : List (Copy A)) (a : ℕ) → Whole c g xs a → Shape run c.shut c.live → Shape (Fenced g a ∷ run) c.shut c.live × (end_of run ≤ a)
  whole_shape c run g xs a (inl (no_live, is, at)) sh =
      let old : end_of run ≤ last_end c.shut = subst (Shape run c.shut) no_live sh in
      let new : Shape (Fenced g a ∷ run) c.shut None = omega arith in
      (subst (Shape (Fenced g a ∷ run) c.shut) (sym no_live) new, omega arith)
  whole_shape c run g xs a (inr (v, e, loose, is, at, le)) sh =
      let old : Shape run c.shut (Some v) = subst (Shape run c.shut) e sh in
      let edge : end_of run ≤ v.sure = old.0 in
      let none_young : Young (Fenced g a ∷ run) [] = tt in
      let new : Shape (Fenced g a ∷ run) c.shut (Some v) = (omega arith, le, old.2, old.3, subst (Young (Fenced g a ∷ run)) (sym loose) none_young) in
      (subst (Shape (Fenced g a ∷ run) c.shut) (sym e) new, omega arith)

  confirming : (s : MachineState A) (run : LogRun A) → Inv s run → (i : ℕ) (read : List (Copy A)) (end : ℕ) → In (AsksConfirm i read end) s.facts → gen i ≡ s.core.fence →
      Follows (knows A gen s (Confirmed i read end))
  confirming s run inv i read end asked at =
      let ok : Ok s.core run (AsksConfirm i read end) = inv.facts (AsksConfirm i read end) asked in
      ⊎_elim {C = Follows (knows A gen s (Confirmed i read end))}
      (λ (lt : fence run < gen i).
      let w : Whole s.core (gen i) read end = ok.1 at lt in
      let is : read ≡ landed run = whole_read s.core (gen i) read end w ∙ sym inv.kept in
      let sh : Shape (Fenced (gen i) end ∷ run) s.core.shut s.core.live × (end_of run ≤ end) = whole_shape s.core run (gen i) read end w inv.shape in
      let new : LogRun A = Fenced (gen i) end ∷ run in
      let grows : Grows s.core run s.core new = record {
        fence_core = omega arith;
        fence_run = omega arith;
        known = λ n x h. h;
        stays = λ x m. m;
        longer = (Fenced (gen i) end ∷ [], refl);
        counts = λ k p q l. absurd (omega arith);
        whole = λ k r e l h p q. absurd (omega arith);
        stood = λ k e' st e l h. h;
        confirms = λ k r e p l. (
          p ∙ at,
          λ u.
              let ends : end ≡ e = whole_end s.core (gen i) k read r end e w u in
              ([], run, ap (λ z. Fenced z end ∷ run) (sym p) ∙ ap (λ z. Fenced k z ∷ run) ends, whole_read s.core k r e u ∙ sym inv.kept),
        );
      } in
      let inv' : Inv s new = record {
        is_run = ((lt, sh.1), inv.is_run);
        seen = inv.seen;
        kept = inv.kept;
        low = omega arith;
        shape = sh.0;
        room = inv.room;
        facts = λ f m. ok_grows s.core run s.core new grows f (inv.facts f m);
        unique = inv.unique;
        opened = inv.opened;
        taken = λ p. (i, read, end, asked, refl);
      } in
      (new, know s new inv' (Confirmed i read end) (omega arith, ([], run, refl, is)) (λ j n e. cc) (λ j r e q. cc)))
      (λ (le : gen i ≤ fence run).
      let low : fence run ≤ s.core.fence = inv.low in
      let same : gen i ≡ fence run = omega arith in
      (run, know s run inv (Confirmed i read end) (le, ok.2 same) (λ j n e. cc) (λ j r e q. cc)))
      (cases_lt (fence run) (gen i))

  -- an incarnation that has not asked is not confirmed
  not_confirmed : (s : MachineState A) (run : LogRun A) → Inv s run → (i n : ℕ) → In (Opened i n) s.facts → NotYet A gen i s.facts → gen i ≡ fence run → ⊥
  not_confirmed s run inv i n open_i not_yet at =
      let ok : Ok s.core run (Opened i n) = inv.facts (Opened i n) open_i in
      let some : 0 < gen i = ok.0 in
      let t : (j : ℕ) × (read : List (Copy A)) × (end : ℕ) × In (AsksConfirm j read end) s.facts × (gen j ≡ fence run) = inv.taken (omega arith) in
      let o : (m : ℕ) × In (Opened t.0 m) s.facts = inv.opened t.0 t.1 t.2 t.3 in
      let same : t.0 ≡ i = inv.unique t.0 i o.0 n o.1 open_i (t.4 ∙ sym at) in
      not_yet t.1 t.2 (subst (λ z. In (AsksConfirm z t.1 t.2) s.facts) same t.3)

  no_live_left : (c : StreamCore A) (n : ℕ) → count c ≡ n → n ≤ length c.shut → (c.live ≡ None) × (length c.shut ≡ n)
  no_live_left c n is le = go c.live refl
    where
      go : (o : Option (OpenExtent A)) → c.live ≡ o → (c.live ≡ None) × (length c.shut ≡ n)
      go None e = let one : count c ≡ length c.shut + 0 = ap (λ z. length c.shut + one_if_live z) e in (e, omega arith)
      go (Some v) e = let one : count c ≡ length c.shut + 1 = ap (λ z. length c.shut + one_if_live z) e in absurd (omega arith)

  -- the last of the sealed extents
  newest_is : (shut : List (SealedExtent A)) (e : ℕ) (y : SealedExtent A) → shut_at e shut ≡ Some y → length shut ≡ suc e → (all_shut (first e shut) ++ y.copies ≡ all_shut shut) × (y.end ≡ last_end shut)
  newest_is [] e y h l = absurd (cc)
  newest_is (x ∷ older) e y h l =
      let at : e ≡ length older = omega arith in
      let same : Some x ≡ Some y = sym (at_newest x older e at) ∙ h in
      let xy : x ≡ y = cc in
      (ap (λ z. all_shut z ++ y.copies) (skip older e at x) ∙ ap (λ (z : SealedExtent A). all_shut older ++ z.copies) (sym xy), ap (λ (z : SealedExtent A). z.end) (sym xy))
    where
      skip : (older : List (SealedExtent A)) (e : ℕ) → e ≡ length older → (x : SealedExtent A) → first e (x ∷ older) ≡ older
      skip older e at x = go (nat_le e (length older)) refl
        where
          go : (b : Bool) → nat_le e (length older) ≡ b → (if b then first e older else x ∷ older) ≡ older
          go true q = first_all e older (omega arith)
          go false q = let lt : length older < e = grind (arith, nat_tests) in absurd (omega arith)

  reads_sealed : (s : MachineState A) (run : LogRun A) → Inv s run → (i n : ℕ) → May A gen s (ReadsSealed i n) → Inv (next A gen s (ReadsSealed i n)) run
  reads_sealed s run inv i n (open_i, le, not_yet) =
      let ok : Ok s.core run (Opened i n) = inv.facts (Opened i n) open_i in
      know_asked s run inv i n (all_shut (first n s.core.shut)) (last_end (first n s.core.shut)) (
        ok.1,
        (λ at lt.
            let k : (s.core.live ≡ None) × (length s.core.shut ≡ n) = no_live_left s.core n (ok.2 at lt) le in
            let len : length s.core.shut ≡ n = k.1 in
            let all : first n s.core.shut ≡ s.core.shut = first_all n s.core.shut (omega arith) in
            inl (k.0, ap (λ z. all_shut z) all, ap (λ z. last_end z) all)),
        (λ at. absurd (not_confirmed s run inv i n open_i not_yet at)),
      )
      open_i

  reads_checked : (s : MachineState A) (run : LogRun A) → Inv s run → (i e : ℕ) (stood : List (Copy A)) (end : ℕ) → May A gen s (ReadsChecked i e stood end) → Inv (next A gen s (ReadsChecked i e stood end)) run
  reads_checked s run inv i e stood end (open_i, checked, not_yet) =
      let ok : Ok s.core run (Opened i (suc e)) = inv.facts (Opened i (suc e)) open_i in
      let found : Ok s.core run (Checked i e stood end) = inv.facts (Checked i e stood end) checked in
      know_asked s run inv i (suc e) (all_shut (first e s.core.shut) ++ stood) end (
        ok.1,
        (λ at lt. ⊎_elim {C = Whole s.core (gen i) (all_shut (first e s.core.shut) ++ stood) end}
            (λ (a : (v : OpenExtent A) × (s.core.live ≡ Some v) × (e ≡ length s.core.shut) × (v.loose ≡ []) × (v.kept ≡ stood) × (v.sure ≡ end) × (gen i ≤ v.fence)).
            let len : e ≡ length s.core.shut = a.2 in
            let all : first e s.core.shut ≡ s.core.shut = first_all e s.core.shut (omega arith) in
            inr (a.0, a.1, a.3, ap (λ z. all_shut z ++ stood) all ∙ ap (λ z. all_shut s.core.shut ++ z) (sym a.4), sym a.5, a.6))
            (λ (a : shut_at e s.core.shut ≡ Some (record { copies = stood; end = end })).
            let lt' : e < length s.core.shut = at_below s.core.shut e (record { copies = stood; end = end }) a in
            let k : (s.core.live ≡ None) × (length s.core.shut ≡ suc e) = no_live_left s.core (suc e) (ok.2 at lt) (omega arith) in
            let y : (all_shut (first e s.core.shut) ++ stood ≡ all_shut s.core.shut) × (end ≡ last_end s.core.shut) = newest_is s.core.shut e (record { copies = stood; end = end }) a k.1 in
            inl (k.0, y.0, y.1))
            (found lt)),
        (λ at. absurd (not_confirmed s run inv i (suc e) open_i not_yet at)),
      )
      open_i

  -- ---------------------------------------------------------------- every step is followed

  step : (s : MachineState A) (x : MachineStep A) → May A gen s x → Follows s → Follows (next A gen s x)
  step s (TakesOpen i) (asked, lt) (run, inv) = (run, opening s run inv i lt)
  step s (TakesExtend i n) (asked, at) (run, inv) =
      let served : gen i ≤ fence run = inv.facts (AsksExtend i n) asked in
      let d : MachineState A = record s { core = extended A gen s.core (gen i) n s.core.live } in
      (run, answer s.core.live d (extending s run inv (gen i) n served at s.core.live refl))
    where
      answer : (o : Option (OpenExtent A)) (d : MachineState A) → Inv d run → Inv (record d { facts = extend_facts A gen i n s.core o d.facts }) run
      answer None d v = know d run v (Extended i n (if n == length s.core.shut then suc n else length s.core.shut)) tt (λ j k e. cc) (λ j r e q. cc)
      answer (Some w) d v = go (n == suc (length s.core.shut))
        where
          go : (b : Bool) → Inv (record d { facts = if b then d.facts else Extended i n (suc (length s.core.shut)) ∷ d.facts }) run
          go true = v
          go false = know d run v (Extended i n (suc (length s.core.shut))) tt (λ j k e. cc) (λ j r e q. cc)
  step s (TakesConfirm i read end) (asked, at) (run, inv) = confirming s run inv i read end asked at
  step s (TakesCheck i v) (asked, e, le) (run, inv) = (run, checking s run inv (gen i) v e le)
  step s (AnswersCheck i v) (asked, e, le, loose) (run, inv) =
      (run, know s run inv (Checked i (length s.core.shut) v.kept v.sure) (λ lt. inl (v, e, refl, loose, refl, refl, le)) (λ j k q. cc) (λ j r k q. cc))
  step s (AnswersLate i e x) (asked, at) (run, inv) =
      (run, know s run inv (Checked i e x.copies x.end) (λ lt. inr at) (λ j k q. cc) (λ j r k q. cc))
  step s (TakesAppend i append group to v) (asked, e, le, lt, fits) (run, inv) =
      let ok : Ok s.core run (AsksAppend i (length s.core.shut) append group) = inv.facts (AsksAppend i (length s.core.shut) append group) asked in
      (run, appending s run inv (gen i) append group to v ok.0 ok.1 e le lt fits)
  step s (Keeps c rest v) (e, head) (run, inv) = (Landed c ∷ run, keeping s run inv c rest v e head)
  step s (AnswersAppend i append from to group) (begun, there) (run, inv) =
      (run, know s run inv (Appended i append from to) (group, subst (In (record { from = from; to = to; append = append; group = group })) (sym inv.kept) there) (λ j k q. cc) (λ j r k q. cc))
  step s (Seals v) e (run, inv) = (run, sealing s run inv v e)
  step s (Opens i) may (run, inv) = (run, know s run inv (AsksOpen i) tt (λ j k q. cc) (λ j r k q. cc))
  step s (Checks i e) may (run, inv) = (run, know s run inv (AsksCheck i e) tt (λ j k q. cc) (λ j r k q. cc))
  step s (ReadsSealed i n) may (run, inv) = (run, reads_sealed s run inv i n may)
  step s (ReadsChecked i e stood end) may (run, inv) = (run, reads_checked s run inv i e stood end may)
  step s (Begins i group) serves (run, inv) =
      let served : gen i ≤ fence run = inv.facts (Serves i) serves in
      let e : StreamEvent A = Made (gen i) group in
      let inv' : Inv (sees A gen s e) (Seen e ∷ run) = see s run inv e served in
      let at : event_at (visible (Seen e ∷ run)) (length s.story) ≡ Some e = ap (λ z. event_at (visible (Seen e ∷ run)) (length z)) (sym inv.seen) ∙ newest A e (visible run) in
      (Seen e ∷ run, know (sees A gen s e) (Seen e ∷ run) inv' (Begun i (length s.story) group) (served, at) (λ j k q. cc) (λ j r k q. cc))
  step s (Appends i e append group) begun (run, inv) =
      (run, know s run inv (AsksAppend i e append group) (inv.facts (Begun i append group) begun) (λ j k q. cc) (λ j r k q. cc))
  step s (Extends i n) serves (run, inv) = (run, know s run inv (AsksExtend i n) (inv.facts (Serves i) serves) (λ j k q. cc) (λ j r k q. cc))
  step s (TakesConfirmed i start end read) confirmed (run, inv) =
      let ok : Ok s.core run (Confirmed i read end) = inv.facts (Confirmed i read end) confirmed in
      let r : Read run (gen i) read end = ok.1 in
      let e : StreamEvent A = Showed (gen i) start end (map placed (from_place start read)) in
      let s' : MachineState A = knows A gen s (Serves i) in
      let inv' : Inv s' run = know s run inv (Serves i) ok.0 (λ j k q. cc) (λ j r k q. cc) in
      (Seen e ∷ run, see s' run inv' e (r.1, r.0, r.2, ap (λ z. map placed (from_place start z)) r.3))
  step s (TakesAppended i append from to) appended (run, inv) =
      let ok : Ok s.core run (Appended i append from to) = inv.facts (Appended i append from to) appended in
      (Seen (Answered append from to) ∷ run, see s run inv (Answered append from to) (ok.0, contains_in (record { from = from; to = to; append = append; group = ok.0 }) (landed run) ok.1))

  start : Follows (nothing A gen)
  start = (
    [],
    record {
      is_run = tt;
      seen = refl;
      kept = refl;
      low = omega arith;
      shape = omega arith;
      room = omega arith;
      facts = λ f i. absurd i;
      unique = λ i j n m a b. absurd a;
      opened = λ i read end a. absurd a;
      taken = λ p. absurd (omega arith);
    },
  )

  pub followed : (steps : List (MachineStep A)) → IsRun A gen steps → Follows (after A gen steps)
  followed [] ok = start
  followed (x ∷ earlier) ok = step (after A gen earlier) x ok.0 (followed earlier ok.1)

  -- THE THEOREM: what users see of a stream keeps its order
  pub stream_keeps_order : (steps : List (MachineStep A)) → IsRun A gen steps → KeepsOrder (after A gen steps).story
  stream_keeps_order steps ok =
      let f : Follows (after A gen steps) = followed steps ok in
      subst KeepsOrder (f.1).seen (keeps_order A f.0 (f.1).is_run)

  -- and its loads end in the order of their generations
  pub stream_ends_rise : (steps : List (MachineStep A)) → IsRun A gen steps → EndsRise (after A gen steps).story
  stream_ends_rise steps ok =
      let f : Follows (after A gen steps) = followed steps ok in
      subst EndsRise (f.1).seen (ends_rise A f.0 (f.1).is_run)
