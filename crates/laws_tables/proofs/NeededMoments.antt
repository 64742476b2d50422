-- Three splits that do not replay: one while a group of the parent is out, one after which the parent is loaded again, and one whose
-- child is loaded with its parent's keys. Each meets all the other premises of the law of families.
use Rattle.std.proofs.Common.{◌≡◌, ℕ, suc, ◌<◌, ◌≤◌, length, map, refl, sym, ◌∙◌, subst, inl, inr, List, [], ◌∷◌, ◌++◌, Some, None, arith, Bool, true, false, cond, eqb}
use Rattle.std.specs.Prelude.{bytes_eq, Contains}
use Rattle.std.proofs.lemmas.Bool.{cases_eq}
use Rattle.wire.specs.declared.note.Note.{Note}
use Rattle.wire.specs.declared.note.Note.TheVariants.{Began, Done, Loaded, Split}
use Rattle.wire.specs.declared.rows.Row.{Row}
use Rattle.commitlog.specs.Replay.{Numbered as Group}
use Rattle.metadata.specs.declared.record.MetaItem.{MetaItem}
use Rattle.metadata.specs.declared.record.MetaItem.TheVariants.{Ranges}
use Rattle.metadata.specs.Fold.{all_keys}
use Rattle.metadata.specs.Keys.{within}
use Rattle.model_histories.specs.Log.{is_of, only}
use Rattle.model_partition.specs.Past.{Bytes, Transaction, Past, From_nothing, From_pair, owners, line_of, begun, stored, kept, keys_of, table_of, AllDone, IsMember, IsComplete, Replays}
use Rattle.model_histories.specs.Story.{Placed, Made, Answered, Showed, event_at, placed}
use Rattle.laws_tables.specs.Families.{HasKeys, IsChild, generation_of, IsToldIn, IsRange, IsFirst, HasParent}
use Rattle.laws_tables.specs.Fenced.{Seen, Landed, Fenced, LogRun, IsLogRun}
use Rattle.laws_tables.specs.Layers.{flat}
use Rattle.laws_tables.specs.Runs.{Forms, Logged, Records, Recorded, Confirms, Run, log_of, record_group, first_beginning, loaded_layer, IsChainRun}
use Rattle.laws_tables.specs.Through.{IsAnswered}
use Rattle.laws_tables.proofs.Fenced.{keeps_order, ends_rise}
use Rattle.laws_tables.proofs.Layers.{in_all, kept_all, pick}
use Rattle.laws_tables.proofs.Members.{in_contains}
use Rattle.laws_tables.proofs.Range.{ne_test, made_cases, made_shown, answered_made, showed_made}
use Rattle.laws_tables.proofs.WorkedRuns.{not_loaded, one_is_not_two, row, nothing_kept}
use Rattle.laws_tables.proofs.WorkedFamily.{parent_put, first_group, status, no_layers, parent_run, is_parent_run, parent_log, is_parent_log, parent_metadata, is_parent_metadata, low_keys, nothing_said, none_told, is_nothing, each_of, only_made, first_start, from_zero, all_shown, many_older}

-- ---- a family but for one premise

-- all that the generation formed on the parent's log was answered by then
abbrev pub AllAnswered : (own taken : ℕ → Run) → ℕ → ℕ → ℕ → Type 0
AllAnswered own taken p r generation = (a : ℕ) (group : Group Transaction) → event_at (log_of (own p ++ taken p)) a ≡ Some (Made generation group) → IsAnswered (log_of (taken r)) a

-- nothing is told of the parent under a higher one
abbrev pub IsHighest : List Note → ℕ → ℕ → Type 0
IsHighest h p generation = (note : Note) → Contains h note → is_of p note ≡ true → generation_of note ≤ generation

-- nothing is asked
abbrev pub AnyAnswers : (own taken : ℕ → Run) → ℕ → ℕ → ℕ → Type 0
AnyAnswers own taken p r generation = Unit {0}

abbrev pub AnyGeneration : List Note → ℕ → ℕ → Type 0
AnyGeneration h p generation = Unit {0}

-- the own loads of each range have the keys that splits left to it
abbrev pub AllKeys : List Note → (ℕ → Run) → Type 0
AllKeys h own = (r : ℕ) → HasKeys (keys_of h r) (own r)

abbrev pub AnyKeys : List Note → (ℕ → Run) → Type 0
AnyKeys h own = Unit {0}

module _ (h : List Note) (own taken : ℕ → Run) (rows : ℕ → ℕ → List Row) (range : (r : ℕ) → IsRange no_layers h r (own r) (taken r) (rows r)) where
  -- a parent of which these two are asked
  pub record IsParentWith (Answers : (own taken : ℕ → Run) → ℕ → ℕ → ℕ → Type 0) (Highest : List Note → ℕ → ℕ → Type 0) (p r : ℕ) : Type 0 where
    pub child : IsChild h p r
    pub early : Run
    pub late : Run
    pub parts : own p ≡ late ++ early
    pub took : taken r ≡ early ++ taken p
    pub before : List Note
    pub after : List Note
    pub moment : h ≡ before ++ after
    pub told : IsToldIn before (rows p) p (taken p) (taken r)
    pub untold : only r before ≡ []
    pub generation : ℕ
    pub loaded : (rs : List Row) × (next : ℕ) × Contains before (Loaded p generation rs next)
    pub answered : Answers own taken p r generation
    pub highest : Highest h p generation
    pub above : (note : Note) → Contains h note → is_of r note ≡ true → generation < generation_of note
    pub shared : (l g start end : ℕ) (groups : List (Placed (Group Transaction))) → event_at (log_of (taken r)) l ≡ Some (Showed g start end groups) →
        map placed ((range r).log.copies l) ≡ map placed ((range p).log.copies l)

  -- with both it is a parent
  pub with_both : (p r : ℕ) → IsParentWith AllAnswered IsHighest p r → HasParent no_layers h own taken rows range p r
  with_both p r q = record {
    child = q.child;
    early = q.early;
    late = q.late;
    parts = q.parts;
    took = q.took;
    before = q.before;
    after = q.after;
    moment = q.moment;
    told = q.told;
    untold = q.untold;
    generation = q.generation;
    loaded = q.loaded;
    answered = q.answered;
    highest = q.highest;
    above = q.above;
    shared = q.shared;
  }

-- The observations of a first range and of a child that were told so do not replay.
pub record Fails (h : List Note) (Answers : (own taken : ℕ → Run) → ℕ → ℕ → ℕ → Type 0) (Highest : List Note → ℕ → ℕ → Type 0) (Keys : List Note → (ℕ → Run) → Type 0) : Type 0 where
  pub own : ℕ → Run
  pub taken : ℕ → Run
  pub rows : ℕ → ℕ → List Row
  pub range : (r : ℕ) → IsRange no_layers h r (own r) (taken r) (rows r)
  pub keys : Keys h own
  pub first : IsFirst no_layers h own taken rows range 1
  pub parent : IsParentWith h own taken rows range Answers Highest 1 2
  pub others : (r : ℕ) → (r ≡ 1 → ⊥) → (r ≡ 2 → ⊥) → only r h ≡ []
  pub fails : Replays h → ⊥

-- ---- two ranges, the first of which shows no rows

abbrev no_rows : ℕ → List Row
no_rows n = []

abbrev two : {A : Type 0} → A → A → A → ℕ → A
two one other none r = cond (eqb r 1) one (cond (eqb r 2) other none)

module _ (P : ℕ → Run → Run → (ℕ → List Row) → Type 0) (parent child taken : Run) (rows : ℕ → List Row) where
  abbrev Of : ℕ → Type 0
  Of r = P r (two parent child [] r) (two [] taken [] r) (two no_rows rows no_rows r)

  by_two : P 1 parent [] no_rows → P 2 child taken rows → ((r : ℕ) → (r ≡ 1 → ⊥) → (r ≡ 2 → ⊥) → P r [] [] no_rows) → (r : ℕ) → Of r
  by_two one other none r = elim (cases_eq r 1) as (λ x. Of r) [
    | inl e ↦ subst Of (sym e) one
    | inr n1 ↦ elim (cases_eq r 2) as (λ x. Of r) [
      | inl e ↦ subst Of (sym e) other
      | inr n2 ↦
          subst (λ b. P r (cond b parent (cond (eqb r 2) child [])) (cond b [] (cond (eqb r 2) taken [])) (cond b no_rows (cond (eqb r 2) rows no_rows))) (sym (ne_test Transaction r 1 n1))
          (subst (λ b. P r (cond b child []) (cond b taken []) (cond b rows no_rows)) (sym (ne_test Transaction r 2 n2)) (none r n1 n2))
    ]
  ]

two_ranges : (h : List Note) (parent child taken : Run) (rows : ℕ → List Row) → IsRange no_layers h 1 parent [] no_rows → IsRange no_layers h 2 child taken rows →
    ((r : ℕ) → (r ≡ 1 → ⊥) → (r ≡ 2 → ⊥) → only r h ≡ []) → (r : ℕ) → IsRange no_layers h r (two parent child [] r) (two [] taken [] r) (two no_rows rows no_rows r)
two_ranges h parent child taken rows one other none = by_two (λ r o t w. IsRange no_layers h r o t w) parent child taken rows one other (λ r n1 n2. is_nothing h r (none r n1 n2))

two_keys : (h : List Note) (parent child : Run) → HasKeys (keys_of h 1) parent → HasKeys (keys_of h 2) child → AllKeys h (two parent child [])
two_keys h parent child one other = by_two (λ r o t w. HasKeys (keys_of h r) o) parent child [] no_rows one other (λ r n1 n2. tt)

-- the past of a complete load has all that was acknowledged
all_done : (h : List Note) (g r : ℕ) (p : Past) → IsComplete h g r p → AllDone h (owners h r) g (line_of p)
all_done h g r (From_nothing line) c = c
all_done h g r (From_pair a x b y line) c = c.0

no_member : (line : List Transaction) → 1 ≡ suc (length line) → (t : Transaction) → IsMember line 1 t → ⊥
no_member [] n t m = let e : None ≡ Some t = m.1 in cc
no_member (u ∷ line) n t m = omega arith

-- a load that shows no transaction has not this one
misses : (h : List Note) (p r g g' : ℕ) → Replays h → Contains h (Loaded r g [] 1) → Contains (owners h r) p → g' < g → Contains h (Done p g' 1) → ⊥
misses h p r g g' replays load own lt done =
    let x : (t : Transaction) × (begun h p g' 1 ≡ t ∷ []) × IsMember (line_of (replays.past r g)) 1 t =
    all_done h g r (replays.past r g) (replays.complete r g [] 1 load) p g' 1 own lt done in
    no_member (line_of (replays.past r g)) (replays.number r g [] 1 load) x.0 x.2

-- ---- the record of the child's keys

abbrev keys_record : Group MetaItem
keys_record = record_group 1 (Ranges low_keys)

abbrev keys_shown : List (Placed (Group MetaItem))
keys_shown = record { from = 0; to = 40; group = keys_record } ∷ []

abbrev keys_made : Run
keys_made = Recorded 1 1 0 40 ∷ Records 1 1 (Ranges low_keys) ∷ []

abbrev keys_answered : LogRun (Group MetaItem)
keys_answered =
    Seen (Answered 1 0 40)
    ∷ Landed (record { from = 0; to = 40; append = 1; group = keys_record })
    ∷ Seen (Made 1 keys_record)
    ∷ Seen (Showed 1 0 0 [])
    ∷ Fenced 1 0
    ∷ []

is_keys_answered : IsLogRun keys_answered
is_keys_answered = (
  (keys_record, (0, omega arith, refl)),
  ((1, refl, omega arith, omega arith, omega arith), (omega arith, (([], [], refl, refl), ((omega arith, omega arith), tt)))),
)

no_child_rows : (key : Bytes) → stored [] key ≡ kept low_keys (λ k. flat (loaded_layer first_beginning no_layers [] keys_shown k)) key
no_child_rows key = nothing_said (within low_keys key)

-- ---- a group that is out when the streams are taken, and is answered later

abbrev busy_early : Run
busy_early = Forms 1 first_group ∷ Confirms 1 0 0 [] 0 [] ∷ []

abbrev busy_parent : Run
busy_parent = Logged 1 1 0 24 ∷ busy_early

abbrev busy_child : Run
busy_child = Confirms 2 0 0 [] 40 keys_shown ∷ keys_made

abbrev busy_notes : List Note
busy_notes = Loaded 1 1 [] 1 ∷ Began 1 1 1 parent_put ∷ Split 1 2 3 (109 ∷ []) ∷ Done 1 1 1 ∷ Loaded 2 2 [] 1 ∷ []

abbrev busy_log : LogRun (Group Transaction)
busy_log = Seen (Made 1 first_group) ∷ Seen (Showed 1 0 0 []) ∷ Fenced 1 0 ∷ []

is_busy_log : IsLogRun busy_log
is_busy_log = (omega arith, (([], [], refl, refl), ((omega arith, omega arith), tt)))

abbrev answered_log : LogRun (Group Transaction)
answered_log = Seen (Answered 1 0 24) ∷ Landed (record { from = 0; to = 24; append = 1; group = first_group }) ∷ busy_log

is_answered_log : IsLogRun answered_log
is_answered_log = ((first_group, (0, omega arith, refl)), ((1, refl, omega arith, omega arith, omega arith), is_busy_log))

abbrev busy_child_log : LogRun (Group Transaction)
busy_child_log = Seen (Showed 2 0 0 []) ∷ Fenced 2 0 ∷ busy_log

is_busy_child_log : IsLogRun busy_child_log
is_busy_child_log = ((busy_log, [], refl, refl), ((omega arith, omega arith), is_busy_log))

abbrev first_metadata_run : LogRun (Group MetaItem)
first_metadata_run = Seen (Showed 1 0 0 []) ∷ Fenced 1 0 ∷ []

is_first_metadata_run : IsLogRun first_metadata_run
is_first_metadata_run = (([], [], refl, refl), ((omega arith, omega arith), tt))

abbrev child_metadata_run : ℕ → LogRun (Group MetaItem)
child_metadata_run g = Seen (Showed g 0 40 keys_shown) ∷ Fenced g 40 ∷ keys_answered

is_child_metadata_run : (g : ℕ) → 1 < g → IsLogRun (child_metadata_run g)
is_child_metadata_run g lt = ((keys_answered, [], refl, refl), ((omega arith, omega arith), is_keys_answered))

is_busy_early : IsChainRun no_layers first_beginning busy_early
is_busy_early = (((0, 0, 0, [], refl), refl, refl), (((λ h. not_loaded Transaction [] 1 tt h), (0, inl (omega arith), refl)), tt))

busy_first : IsRange no_layers busy_notes 1 busy_parent [] no_rows
busy_first = record {
  runs = (((0, 0, 0, [], refl), first_group, refl), is_busy_early);
  layers = (nothing_kept, tt);
  log = keeps_order (Group Transaction) answered_log is_answered_log;
  ends = ends_rise (Group Transaction) answered_log is_answered_log;
  metadata = keeps_order (Group MetaItem) first_metadata_run is_first_metadata_run;
  told = refl;
}

busy_second : IsRange no_layers busy_notes 2 busy_child busy_early no_rows
busy_second = record {
  runs = (
    ((λ h. not_loaded Transaction (log_of busy_early) 2 (one_is_not_two, tt) h), (0, inl (omega arith), refl)),
    (
      ((0, 0, 0, [], refl), keys_record, refl),
      (((0, 0, 0, [], refl), refl, refl, inr (refl, inr (low_keys, refl, λ key w. in_all key))), is_busy_early),
    ),
  );
  layers = (no_child_rows, (nothing_kept, tt));
  log = keeps_order (Group Transaction) busy_child_log is_busy_child_log;
  ends = ends_rise (Group Transaction) busy_child_log is_busy_child_log;
  metadata = keeps_order (Group MetaItem) (child_metadata_run 2) (is_child_metadata_run 2 (omega arith));
  told = refl;
}

busy_others : (r : ℕ) → (r ≡ 1 → ⊥) → (r ≡ 2 → ⊥) → only r busy_notes ≡ []
busy_others r n1 n2 =
    let e1 : eqb r 1 ≡ false = ne_test Transaction r 1 n1 in
    let e2 : eqb r 2 ≡ false = ne_test Transaction r 2 n2 in
    none_told r busy_notes (e1, (e1, (refl, (e1, (e2, tt)))))

busy_ranges : (r : ℕ) → IsRange no_layers busy_notes r (two busy_parent busy_child [] r) (two [] busy_early [] r) (two no_rows no_rows no_rows r)
busy_ranges = two_ranges busy_notes busy_parent busy_child busy_early no_rows busy_first busy_second busy_others

busy_start : (l g s e : ℕ) (xs : List (Placed (Group Transaction))) → event_at (log_of busy_early) l ≡ Some (Showed g s e xs) → s ≡ 0
busy_start l g s e xs h = first_start l g s e xs (made_shown Transaction 1 first_group (Showed 1 0 0 [] ∷ []) l g s e xs h)

busy_is_child : IsChild busy_notes 1 2
busy_is_child = record {
  before = Loaded 1 1 [] 1 ∷ Began 1 1 1 parent_put ∷ [];
  after = Done 1 1 1 ∷ Loaded 2 2 [] 1 ∷ [];
  low = 2;
  high = 3;
  key = 109 ∷ [];
  is = refl;
  half = inl refl;
  low_above = omega arith;
  high_above = omega arith;
  no_child_birth = (refl, (refl, tt));
  no_parent_birth = (refl, (refl, tt));
}

abbrev IsOneOrBelow : Note → Type 0
IsOneOrBelow o = generation_of o ≤ 1

abbrev IsAboveOne : Note → Type 0
IsAboveOne o = 1 < generation_of o

-- nothing but the answer is missing
pub needs_answers : Fails busy_notes AnyAnswers IsHighest AllKeys
needs_answers = record {
  own = two busy_parent busy_child [];
  taken = two [] busy_early [];
  rows = two no_rows no_rows no_rows;
  range = busy_ranges;
  keys = two_keys busy_notes busy_parent busy_child (refl, tt) (refl, tt);
  first = record { is = refl; unborn = (refl, (refl, (refl, (refl, (refl, tt))))); nothing = refl };
  parent = record {
    child = busy_is_child;
    early = busy_early;
    late = Logged 1 1 0 24 ∷ [];
    parts = refl;
    took = refl;
    before = Loaded 1 1 [] 1 ∷ Began 1 1 1 parent_put ∷ [];
    after = Split 1 2 3 (109 ∷ []) ∷ Done 1 1 1 ∷ Loaded 2 2 [] 1 ∷ [];
    moment = refl;
    told = refl;
    untold = refl;
    generation = 1;
    loaded = ([], 1, (0, omega arith, refl));
    answered = tt;
    highest = λ o c is. each_of 1 IsOneOrBelow busy_notes ((λ q. omega arith), ((λ q. omega arith), ((λ q. absurd (cc)), ((λ q. omega arith), ((λ q. absurd (cc)), tt))))) o (in_contains o busy_notes c) is;
    above = λ o c is. each_of 2 IsAboveOne busy_notes ((λ q. absurd (cc)), ((λ q. absurd (cc)), ((λ q. absurd (cc)), ((λ q. absurd (cc)), ((λ q. omega arith), tt))))) o (in_contains o busy_notes c) is;
    shared = λ l g s e xs h.
        let z : s ≡ 0 = busy_start l g s e xs h in
        sym (all_shown (log_of (busy_child ++ busy_early)) (busy_ranges 2).log l g s e xs (many_older (log_of busy_child) (log_of busy_early) l g s e xs h) z)
        ∙ all_shown (log_of busy_parent) (busy_ranges 1).log l g s e xs (many_older (log_of (Logged 1 1 0 24 ∷ [])) (log_of busy_early) l g s e xs h) z;
  };
  others = busy_others;
  fails = λ r. misses busy_notes 1 2 2 1 r (4, omega arith, refl) (1, omega arith, refl) (omega arith) (3, omega arith, refl);
}

-- ---- a parent that is loaded again after the streams were taken

abbrev first_load : Run
first_load = Confirms 1 0 0 [] 0 [] ∷ []

abbrev again : Run
again = Logged 2 2 0 24 ∷ Forms 2 first_group ∷ Confirms 2 0 0 [] 0 [] ∷ []

abbrev again_child : Run
again_child = Confirms 3 0 0 [] 40 keys_shown ∷ keys_made

abbrev again_notes : List Note
again_notes = Loaded 1 1 [] 1 ∷ Split 1 2 3 (109 ∷ []) ∷ Loaded 1 2 [] 1 ∷ Began 1 2 1 parent_put ∷ Done 1 2 1 ∷ Loaded 2 3 [] 1 ∷ []

abbrev first_log : LogRun (Group Transaction)
first_log = Seen (Showed 1 0 0 []) ∷ Fenced 1 0 ∷ []

is_first_log : IsLogRun first_log
is_first_log = (([], [], refl, refl), ((omega arith, omega arith), tt))

abbrev again_log : LogRun (Group Transaction)
again_log =
    Seen (Answered 2 0 24)
    ∷ Landed (record { from = 0; to = 24; append = 2; group = first_group })
    ∷ Seen (Made 2 first_group)
    ∷ Seen (Showed 2 0 0 [])
    ∷ Fenced 2 0
    ∷ first_log

is_again_log : IsLogRun again_log
is_again_log = (
  (first_group, (0, omega arith, refl)),
  ((2, refl, omega arith, omega arith, omega arith), (omega arith, ((first_log, [], refl, refl), ((omega arith, omega arith), is_first_log)))),
)

abbrev again_child_log : LogRun (Group Transaction)
again_child_log = Seen (Showed 3 0 0 []) ∷ Fenced 3 0 ∷ first_log

is_again_child_log : IsLogRun again_child_log
is_again_child_log = ((first_log, [], refl, refl), ((omega arith, omega arith), is_first_log))

abbrev again_metadata : LogRun (Group MetaItem)
again_metadata = Seen (Showed 2 0 0 []) ∷ Fenced 2 0 ∷ first_metadata_run

is_again_metadata : IsLogRun again_metadata
is_again_metadata = ((first_metadata_run, [], refl, refl), ((omega arith, omega arith), is_first_metadata_run))

is_first_load : IsChainRun no_layers first_beginning first_load
is_first_load = (((λ h. not_loaded Transaction [] 1 tt h), (0, inl (omega arith), refl)), tt)

one_is_not_three : ◌≡◌ {A = ℕ} 1 3 → ⊥
one_is_not_three e = omega arith

again_first : IsRange no_layers again_notes 1 (again ++ first_load) [] no_rows
again_first = record {
  runs = (
    ((1, 0, 0, [], refl), first_group, refl),
    (
      ((1, 0, 0, [], refl), refl, refl),
      (((λ h. not_loaded Transaction (log_of first_load) 2 (one_is_not_two, tt) h), (0, inl (omega arith), refl)), is_first_load),
    ),
  );
  layers = (nothing_kept, (nothing_kept, tt));
  log = keeps_order (Group Transaction) again_log is_again_log;
  ends = ends_rise (Group Transaction) again_log is_again_log;
  metadata = keeps_order (Group MetaItem) again_metadata is_again_metadata;
  told = refl;
}

again_second : IsRange no_layers again_notes 2 again_child first_load no_rows
again_second = record {
  runs = (
    ((λ h. not_loaded Transaction (log_of first_load) 3 (one_is_not_three, tt) h), (0, inl (omega arith), refl)),
    (
      ((0, 0, 0, [], refl), keys_record, refl),
      (((0, 0, 0, [], refl), refl, refl, inr (refl, inr (low_keys, refl, λ key w. in_all key))), is_first_load),
    ),
  );
  layers = (no_child_rows, (nothing_kept, tt));
  log = keeps_order (Group Transaction) again_child_log is_again_child_log;
  ends = ends_rise (Group Transaction) again_child_log is_again_child_log;
  metadata = keeps_order (Group MetaItem) (child_metadata_run 3) (is_child_metadata_run 3 (omega arith));
  told = refl;
}

again_others : (r : ℕ) → (r ≡ 1 → ⊥) → (r ≡ 2 → ⊥) → only r again_notes ≡ []
again_others r n1 n2 =
    let e1 : eqb r 1 ≡ false = ne_test Transaction r 1 n1 in
    let e2 : eqb r 2 ≡ false = ne_test Transaction r 2 n2 in
    none_told r again_notes (e1, (refl, (e1, (e1, (e1, (e2, tt))))))

again_ranges : (r : ℕ) → IsRange no_layers again_notes r (two (again ++ first_load) again_child [] r) (two [] first_load [] r) (two no_rows no_rows no_rows r)
again_ranges = two_ranges again_notes (again ++ first_load) again_child first_load no_rows again_first again_second again_others

again_is_child : IsChild again_notes 1 2
again_is_child = record {
  before = Loaded 1 1 [] 1 ∷ [];
  after = Loaded 1 2 [] 1 ∷ Began 1 2 1 parent_put ∷ Done 1 2 1 ∷ Loaded 2 3 [] 1 ∷ [];
  low = 2;
  high = 3;
  key = 109 ∷ [];
  is = refl;
  half = inl refl;
  low_above = omega arith;
  high_above = omega arith;
  no_child_birth = (refl, (refl, (refl, (refl, tt))));
  no_parent_birth = (refl, (refl, (refl, (refl, tt))));
}

-- nothing was formed under the first generation
none_formed : (a : ℕ) (group : Group Transaction) → event_at (log_of (again ++ first_load)) a ≡ Some (Made 1 group) → IsAnswered (log_of first_load) a
none_formed a group h =
    elim (made_cases Transaction 2 first_group (Showed 2 0 0 [] ∷ Showed 1 0 0 [] ∷ []) a 1 group (answered_made Transaction 2 0 24 (Made 2 first_group ∷ Showed 2 0 0 [] ∷ Showed 1 0 0 [] ∷ []) a 1 group h)) as (λ x. IsAnswered (log_of first_load) a) [
      | inl q ↦ absurd (one_is_not_two (sym q.1))
      | inr o ↦ absurd (let none : event_at [] a ≡ Some (Made 1 group) = showed_made Transaction 1 0 0 [] [] a 1 group (showed_made Transaction 2 0 0 [] (Showed 1 0 0 [] ∷ []) a 1 group o) in cc)
    ]

-- nothing but the generation is missing
pub needs_highest : Fails again_notes AllAnswered AnyGeneration AllKeys
needs_highest = record {
  own = two (again ++ first_load) again_child [];
  taken = two [] first_load [];
  rows = two no_rows no_rows no_rows;
  range = again_ranges;
  keys = two_keys again_notes (again ++ first_load) again_child (refl, (refl, tt)) (refl, tt);
  first = record { is = refl; unborn = (refl, (refl, (refl, (refl, (refl, (refl, tt)))))); nothing = refl };
  parent = record {
    child = again_is_child;
    early = first_load;
    late = again;
    parts = refl;
    took = refl;
    before = Loaded 1 1 [] 1 ∷ [];
    after = Split 1 2 3 (109 ∷ []) ∷ Loaded 1 2 [] 1 ∷ Began 1 2 1 parent_put ∷ Done 1 2 1 ∷ Loaded 2 3 [] 1 ∷ [];
    moment = refl;
    told = refl;
    untold = refl;
    generation = 1;
    loaded = ([], 1, (0, omega arith, refl));
    answered = none_formed;
    highest = tt;
    above = λ o c is. each_of 2 IsAboveOne again_notes ((λ q. absurd (cc)), ((λ q. absurd (cc)), ((λ q. absurd (cc)), ((λ q. absurd (cc)), ((λ q. absurd (cc)), ((λ q. omega arith), tt)))))) o (in_contains o again_notes c) is;
    shared = λ l g s e xs h.
        let z : s ≡ 0 = first_start l g s e xs h in
        sym (all_shown (log_of (again_child ++ first_load)) (again_ranges 2).log l g s e xs (many_older (log_of again_child) (log_of first_load) l g s e xs h) z)
        ∙ all_shown (log_of (again ++ first_load)) (again_ranges 1).log l g s e xs (many_older (log_of again) (log_of first_load) l g s e xs h) z;
  };
  others = again_others;
  fails = λ r. misses again_notes 1 2 3 2 r (5, omega arith, refl) (1, omega arith, refl) (omega arith) (4, omega arith, refl);
}

-- ---- a child that is loaded with all of its parent's keys

abbrev parent_shown : List (Placed (Group Transaction))
parent_shown = record { from = 0; to = 24; group = first_group } ∷ []

abbrev status_shown : List (Placed (Group MetaItem))
status_shown = record { from = 0; to = 40; group = record_group 1 status } ∷ []

abbrev wide_rows : List Row
wide_rows = row 122 121 ∷ row 97 120 ∷ []

abbrev wide_child : Run
wide_child = Confirms 2 0 24 parent_shown 40 status_shown ∷ []

abbrev wide_notes : List Note
wide_notes = Loaded 1 1 [] 1 ∷ Began 1 1 1 parent_put ∷ Done 1 1 1 ∷ Split 1 2 3 (109 ∷ []) ∷ Loaded 2 2 wide_rows 2 ∷ []

abbrev fourth_rows : ℕ → List Row
fourth_rows n = cond (eqb n 3) wide_rows []

abbrev wide_log : LogRun (Group Transaction)
wide_log = Seen (Showed 2 0 24 parent_shown) ∷ Fenced 2 24 ∷ parent_log

is_wide_log : IsLogRun wide_log
is_wide_log = ((parent_log, [], refl, refl), ((omega arith, omega arith), is_parent_log))

abbrev wide_metadata : LogRun (Group MetaItem)
wide_metadata = Seen (Showed 2 0 40 status_shown) ∷ Fenced 2 40 ∷ parent_metadata

is_wide_metadata : IsLogRun wide_metadata
is_wide_metadata = ((parent_metadata, [], refl, refl), ((omega arith, omega arith), is_parent_metadata))

two_said : (z a : Bool) → cond z (Some (121 ∷ [])) (cond a (Some (120 ∷ [])) None) ≡ flat (pick (cond z (Some (Some (121 ∷ []))) (cond a (Some (Some (120 ∷ []))) None)) None)
two_said true a = refl
two_said false true = refl
two_said false false = refl

wide_rows_are : (key : Bytes) → stored wide_rows key ≡ kept all_keys (λ k. flat (loaded_layer first_beginning no_layers parent_shown status_shown k)) key
wide_rows_are key =
    two_said (bytes_eq key (122 ∷ [])) (bytes_eq key (97 ∷ [])) ∙ sym (kept_all (λ k. flat (loaded_layer first_beginning no_layers parent_shown status_shown k)) key)

wide_first : IsRange no_layers wide_notes 1 parent_run [] no_rows
wide_first = record {
  runs = is_parent_run;
  layers = (nothing_kept, tt);
  log = keeps_order (Group Transaction) parent_log is_parent_log;
  ends = ends_rise (Group Transaction) parent_log is_parent_log;
  metadata = keeps_order (Group MetaItem) parent_metadata is_parent_metadata;
  told = refl;
}

wide_second : IsRange no_layers wide_notes 2 wide_child parent_run fourth_rows
wide_second = record {
  runs = (((λ h. not_loaded Transaction (log_of parent_run) 2 (one_is_not_two, tt) h), (0, inl (omega arith), refl)), is_parent_run);
  layers = (wide_rows_are, (nothing_kept, tt));
  log = keeps_order (Group Transaction) wide_log is_wide_log;
  ends = ends_rise (Group Transaction) wide_log is_wide_log;
  metadata = keeps_order (Group MetaItem) wide_metadata is_wide_metadata;
  told = refl;
}

wide_others : (r : ℕ) → (r ≡ 1 → ⊥) → (r ≡ 2 → ⊥) → only r wide_notes ≡ []
wide_others r n1 n2 =
    let e1 : eqb r 1 ≡ false = ne_test Transaction r 1 n1 in
    let e2 : eqb r 2 ≡ false = ne_test Transaction r 2 n2 in
    none_told r wide_notes (e1, (e1, (e1, (refl, (e2, tt)))))

wide_ranges : (r : ℕ) → IsRange no_layers wide_notes r (two parent_run wide_child [] r) (two [] parent_run [] r) (two no_rows fourth_rows no_rows r)
wide_ranges = two_ranges wide_notes parent_run wide_child parent_run fourth_rows wide_first wide_second wide_others

wide_is_child : IsChild wide_notes 1 2
wide_is_child = record {
  before = Loaded 1 1 [] 1 ∷ Began 1 1 1 parent_put ∷ Done 1 1 1 ∷ [];
  after = Loaded 2 2 wide_rows 2 ∷ [];
  low = 2;
  high = 3;
  key = 109 ∷ [];
  is = refl;
  half = inl refl;
  low_above = omega arith;
  high_above = omega arith;
  no_child_birth = (refl, tt);
  no_parent_birth = (refl, tt);
}

-- the key is not the child's
not_its_key : (p : Past) → table_of wide_notes 2 p (122 ∷ []) ≡ None
not_its_key (From_nothing line) = refl
not_its_key (From_pair a x b y line) = refl

-- nothing but the keys is missing
pub needs_keys : Fails wide_notes AllAnswered IsHighest AnyKeys
needs_keys = record {
  own = two parent_run wide_child [];
  taken = two [] parent_run [];
  rows = two no_rows fourth_rows no_rows;
  range = wide_ranges;
  keys = tt;
  first = record { is = refl; unborn = (refl, (refl, (refl, (refl, (refl, tt))))); nothing = refl };
  parent = record {
    child = wide_is_child;
    early = parent_run;
    late = [];
    parts = refl;
    took = refl;
    before = Loaded 1 1 [] 1 ∷ Began 1 1 1 parent_put ∷ Done 1 1 1 ∷ [];
    after = Split 1 2 3 (109 ∷ []) ∷ Loaded 2 2 wide_rows 2 ∷ [];
    moment = refl;
    told = refl;
    untold = refl;
    generation = 1;
    loaded = ([], 1, (0, omega arith, refl));
    answered = only_made;
    highest = λ o c is. each_of 1 IsOneOrBelow wide_notes ((λ q. omega arith), ((λ q. omega arith), ((λ q. omega arith), ((λ q. absurd (cc)), ((λ q. absurd (cc)), tt))))) o (in_contains o wide_notes c) is;
    above = λ o c is. each_of 2 IsAboveOne wide_notes ((λ q. absurd (cc)), ((λ q. absurd (cc)), ((λ q. absurd (cc)), ((λ q. absurd (cc)), ((λ q. omega arith), tt))))) o (in_contains o wide_notes c) is;
    shared = λ l g s e xs h.
        let z : s ≡ 0 = from_zero l g s e xs h in
        sym (all_shown (log_of (wide_child ++ parent_run)) (wide_ranges 2).log l g s e xs (many_older (log_of wide_child) (log_of parent_run) l g s e xs h) z)
        ∙ all_shown (log_of parent_run) (wide_ranges 1).log l g s e xs h z;
  };
  others = wide_others;
  fails = λ r. let one : Some (121 ∷ []) ≡ None = r.table 2 2 wide_rows 2 (4, omega arith, refl) (122 ∷ []) ∙ not_its_key (r.past 2 2) in cc;
}
