-- A worked family: a split, and of each child a load, a transaction and a second load.
use Rattle.std.proofs.Common.{◌≡◌, ℕ, ◌<◌, ◌≤◌, map, refl, sym, ap, ◌∙◌, subst, inl, inr, ◌⊎◌, List, [], ◌∷◌, ◌++◌, Some, None, Option, arith, Bool, true, false, cond, eqb}
use Rattle.std.specs.Prelude.{bytes_eq}
use Rattle.std.proofs.lemmas.Bool.{cases_eq}
use Rattle.wire.specs.declared.note.Note.{Note}
use Rattle.wire.specs.declared.note.Note.TheVariants.{Began, Done, Loaded, Split}
use Rattle.wire.specs.declared.rows.Row.{Row}
use Rattle.memtable.specs.declared.cell.Place.{Place}
use Rattle.commitlog.specs.Replay.{Numbered as Group}
use Rattle.metadata.specs.declared.record.KeyRange.{KeyRange}
use Rattle.metadata.specs.declared.record.MetaItem.{MetaItem}
use Rattle.metadata.specs.declared.record.MetaItem.TheVariants.{Ranges, SplitStatus}
use Rattle.metadata.specs.Keys.{within}
use Rattle.model_histories.specs.Log.{is_of, only}
use Rattle.model_partition.specs.Past.{Bytes, Transaction, stored, kept, keys_of, Replays}
use Rattle.model_histories.specs.Story.{Placed, Made, Answered, Showed, Story, event_at, placed, from_place, KeepsOrder}
use Rattle.model_histories.specs.StreamMachine.{In}
use Rattle.laws_tables.specs.Families.{HasKeys, IsChild, generation_of, IsRange, IsFirst, HasParent, IsFamily}
use Rattle.laws_tables.specs.Fenced.{Seen, Landed, Fenced, LogRun, IsLogRun}
use Rattle.laws_tables.specs.Layers.{Layer, empty_layer, flat}
use Rattle.laws_tables.specs.Runs.{Forms, Logged, Records, Recorded, Confirms, Run, log_of, record_group, first_beginning, loaded_layer, IsChainRun}
use Rattle.laws_tables.specs.Through.{IsAnswered}
use Rattle.laws_tables.proofs.FamilyKeys.{named_keys}
use Rattle.laws_tables.proofs.FamilyRuns.{families_replay}
use Rattle.laws_tables.proofs.Fenced.{keeps_order, ends_rise}
use Rattle.laws_tables.proofs.Layers.{in_all, pick}
use Rattle.laws_tables.proofs.Members.{in_contains}
use Rattle.laws_tables.proofs.Range.{older, ne_test, made_cases, made_shown, answered_made, answered_shown, showed_made}
use Rattle.laws_tables.proofs.Whole.{from_first}
use Rattle.laws_tables.proofs.WorkedRuns.{not_loaded, one_is_not_two, by_key, row, nothing_kept, put}

-- ---- the parent: one transaction, and the record of its split

abbrev pub parent_put : Transaction
parent_put = put 97 120 ∷ put 122 121 ∷ []

abbrev pub first_group : Group Transaction
first_group = record { first = 1; items = parent_put ∷ [] }

abbrev pub status : MetaItem
status = SplitStatus 2 3 (109 ∷ [])

abbrev pub no_layers : Place → Layer
no_layers place = empty_layer

abbrev pub parent_run : Run
parent_run = Recorded 1 1 0 40 ∷ Records 1 1 status ∷ Logged 1 1 0 24 ∷ Forms 1 first_group ∷ Confirms 1 0 0 [] 0 [] ∷ []

abbrev pub parent_log : LogRun (Group Transaction)
parent_log =
    Seen (Answered 1 0 24)
    ∷ Landed (record { from = 0; to = 24; append = 1; group = first_group })
    ∷ Seen (Made 1 first_group)
    ∷ Seen (Showed 1 0 0 [])
    ∷ Fenced 1 0
    ∷ []

pub is_parent_log : IsLogRun parent_log
is_parent_log = (
  (first_group, (0, omega arith, refl)),
  ((1, refl, omega arith, omega arith, omega arith), (omega arith, (([], [], refl, refl), ((omega arith, omega arith), tt)))),
)

abbrev pub parent_metadata : LogRun (Group MetaItem)
parent_metadata =
    Seen (Answered 1 0 40)
    ∷ Landed (record { from = 0; to = 40; append = 1; group = record_group 1 status })
    ∷ Seen (Made 1 (record_group 1 status))
    ∷ Seen (Showed 1 0 0 [])
    ∷ Fenced 1 0
    ∷ []

pub is_parent_metadata : IsLogRun parent_metadata
is_parent_metadata = (
  (record_group 1 status, (0, omega arith, refl)),
  ((1, refl, omega arith, omega arith, omega arith), (omega arith, (([], [], refl, refl), ((omega arith, omega arith), tt)))),
)

pub is_parent_run : IsChainRun no_layers first_beginning parent_run
is_parent_run = (
  ((0, 0, 0, [], refl), record_group 1 status, refl),
  (
    ((0, 0, 0, [], refl), refl, refl, inr (refl, inl (2, 3, 109 ∷ [], refl))),
    (
      ((0, 0, 0, [], refl), first_group, refl),
      (
        ((0, 0, 0, [], refl), refl, refl),
        (((λ h. not_loaded Transaction [] 1 tt h), (0, inl (omega arith), refl)), tt),
      ),
    ),
  ),
)

-- ---- a child: its keys, and a transaction of its own

one_is_not_three : ◌≡◌ {A = ℕ} 1 3 → ⊥
one_is_not_three e = omega arith

two_is_not_three : ◌≡◌ {A = ℕ} 2 3 → ⊥
two_is_not_three e = omega arith

module _ (keys : KeyRange) (t : Transaction) where
  abbrev child_group : Group Transaction
  child_group = record { first = 2; items = t ∷ [] }

  abbrev first_shown : List (Placed (Group Transaction))
  first_shown = record { from = 0; to = 24; group = first_group } ∷ []

  abbrev second_shown : List (Placed (Group Transaction))
  second_shown = record { from = 0; to = 24; group = first_group } ∷ record { from = 4294967296; to = 4294967320; group = child_group } ∷ []

  abbrev records_shown : List (Placed (Group MetaItem))
  records_shown = record { from = 0; to = 40; group = record_group 1 status } ∷ record { from = 40; to = 80; group = record_group 2 (Ranges keys) } ∷ []

  -- the record of its keys is made by the incarnation that splits, in the child's own metadata
  abbrev before_loads : Run
  before_loads = Recorded 1 3 40 80 ∷ Records 1 2 (Ranges keys) ∷ []

  abbrev child_run : Run
  child_run =
      Confirms 3 0 4294967320 second_shown 80 records_shown
      ∷ Logged 2 4 4294967296 4294967320
      ∷ Forms 2 child_group
      ∷ Confirms 2 0 24 first_shown 80 records_shown
      ∷ before_loads

  abbrev child_log : LogRun (Group Transaction)
  child_log =
      Seen (Showed 3 0 4294967320 second_shown)
      ∷ Fenced 3 4294967320
      ∷ Seen (Answered 4 4294967296 4294967320)
      ∷ Landed (record { from = 4294967296; to = 4294967320; append = 4; group = child_group })
      ∷ Seen (Made 2 child_group)
      ∷ Seen (Showed 2 0 24 first_shown)
      ∷ Fenced 2 24
      ∷ parent_log

  abbrev before_third : LogRun (Group Transaction)
  before_third =
      Seen (Answered 4 4294967296 4294967320)
      ∷ Landed (record { from = 4294967296; to = 4294967320; append = 4; group = child_group })
      ∷ Seen (Made 2 child_group)
      ∷ Seen (Showed 2 0 24 first_shown)
      ∷ Fenced 2 24
      ∷ parent_log

  is_child_log : IsLogRun child_log
  is_child_log = (
    (before_third, [], refl, refl),
    (
      (omega arith, omega arith),
      (
        (child_group, (1, omega arith, refl)),
        ((2, refl, omega arith, omega arith, omega arith), (omega arith, ((parent_log, [], refl, refl), ((omega arith, omega arith), is_parent_log)))),
      ),
    ),
  )

  abbrev split_metadata : LogRun (Group MetaItem)
  split_metadata =
      Seen (Answered 3 40 80)
      ∷ Landed (record { from = 40; to = 80; append = 3; group = record_group 2 (Ranges keys) })
      ∷ Seen (Made 1 (record_group 2 (Ranges keys)))
      ∷ parent_metadata

  abbrev child_metadata : LogRun (Group MetaItem)
  child_metadata = Seen (Showed 3 0 80 records_shown) ∷ Fenced 3 80 ∷ Seen (Showed 2 0 80 records_shown) ∷ Fenced 2 80 ∷ split_metadata

  is_child_metadata : IsLogRun child_metadata
  is_child_metadata = (
    (Seen (Showed 2 0 80 records_shown) ∷ Fenced 2 80 ∷ split_metadata, [], refl, refl),
    (
      (omega arith, omega arith),
      (
        (split_metadata, [], refl, refl),
        (
          (omega arith, omega arith),
          ((record_group 2 (Ranges keys), (1, omega arith, refl)), ((1, refl, omega arith, omega arith, omega arith), (omega arith, is_parent_metadata))),
        ),
      ),
    ),
  )

  is_child_run : IsChainRun no_layers first_beginning (child_run ++ parent_run)
  is_child_run = (
    ((λ h. not_loaded Transaction (log_of (Logged 2 4 4294967296 4294967320 ∷ Forms 2 child_group ∷ Confirms 2 0 24 first_shown 80 records_shown ∷ (before_loads ++ parent_run))) 3 (two_is_not_three, (one_is_not_three, tt)) h), (0, inl (omega arith), refl)),
    (
      ((3, 0, 24, first_shown, refl), child_group, refl),
      (
        ((3, 0, 24, first_shown, refl), refl, refl),
        (
          ((λ h. not_loaded Transaction (log_of (before_loads ++ parent_run)) 2 (one_is_not_two, tt) h), (0, inl (omega arith), refl)),
          (
            ((0, 0, 0, [], refl), record_group 2 (Ranges keys), refl),
            (((0, 0, 0, [], refl), refl, refl, inr (refl, inr (keys, refl, λ key w. in_all key))), is_parent_run),
          ),
        ),
      ),
    ),
  )

-- ---- rows, key by key

abbrev pub low_keys : KeyRange
low_keys = record { low = []; high = Some (109 ∷ []) }

abbrev pub high_keys : KeyRange
high_keys = record { low = 109 ∷ []; high = None }

abbrev pub low_put : Transaction
low_put = put 98 122 ∷ []

abbrev pub high_put : Transaction
high_put = put 120 119 ∷ []

abbrev FirstRows : KeyRange → Transaction → List Row → Bytes → Type 0
FirstRows keys t rows key = stored rows key ≡ kept keys (λ k. flat (loaded_layer first_beginning no_layers (first_shown keys t) (records_shown keys t) k)) key

abbrev SecondRows : KeyRange → Transaction → List Row → Bytes → Type 0
SecondRows keys t rows key = stored rows key ≡ kept keys (λ k. flat (loaded_layer first_beginning no_layers (second_shown keys t) (records_shown keys t) k)) key

-- what layers say of a key that they do not know, in the range's keys or not
pub nothing_said : (w : Bool) → None ≡ cond w (flat (pick None None)) None
nothing_said true = refl
nothing_said false = refl

abbrev one_of : Bool → Bytes → Option Bytes
one_of a av = cond a (Some av) None

abbrev first_said : Bool → Bool → Bool → Option Bytes
first_said w z a = cond w (flat (pick (cond z (Some (Some (121 ∷ []))) (cond a (Some (Some (120 ∷ []))) None)) None)) None

abbrev second_said : Bool → Bool → Option Bytes → Bool → Bool → Option Bytes
second_said w c cv z a = cond w (flat (pick (cond c (Some cv) (cond z (Some (Some (121 ∷ []))) (cond a (Some (Some (120 ∷ []))) None))) None)) None

abbrev pub low_first : List Row
low_first = row 97 120 ∷ []

abbrev pub high_first : List Row
high_first = row 122 121 ∷ []

abbrev pub low_second : List Row
low_second = row 98 122 ∷ row 97 120 ∷ []

abbrev pub high_second : List Row
high_second = row 120 119 ∷ row 122 121 ∷ []

others_first : (keys : KeyRange) (key : Bytes) → bytes_eq key (122 ∷ []) ≡ false → bytes_eq key (97 ∷ []) ≡ false →
    None ≡ first_said (within keys key) (bytes_eq key (122 ∷ [])) (bytes_eq key (97 ∷ []))
others_first keys key z a =
    nothing_said (within keys key) ∙ ap (λ t. first_said (within keys key) t false) (sym z) ∙ ap (λ t. first_said (within keys key) (bytes_eq key (122 ∷ [])) t) (sym a)

others_second : (keys : KeyRange) (k : ℕ) (value : Option Bytes) (key : Bytes) → bytes_eq key (k ∷ []) ≡ false → bytes_eq key (122 ∷ []) ≡ false → bytes_eq key (97 ∷ []) ≡ false →
    None ≡ second_said (within keys key) (bytes_eq key (k ∷ [])) value (bytes_eq key (122 ∷ [])) (bytes_eq key (97 ∷ []))
others_second keys k value key c z a =
    nothing_said (within keys key)
    ∙ ap (λ t. second_said (within keys key) t value false false) (sym c)
    ∙ ap (λ t. second_said (within keys key) (bytes_eq key (k ∷ [])) value t false) (sym z)
    ∙ ap (λ t. second_said (within keys key) (bytes_eq key (k ∷ [])) value (bytes_eq key (122 ∷ [])) t) (sym a)

pub low_first_are : (key : Bytes) → FirstRows low_keys low_put low_first key
low_first_are key =
    by_key (122 ∷ []) (FirstRows low_keys low_put low_first) key refl
    (λ z. by_key (97 ∷ []) (FirstRows low_keys low_put low_first) key refl (λ a. ap (λ t. one_of t (120 ∷ [])) a ∙ others_first low_keys key z a))

pub high_first_are : (key : Bytes) → FirstRows high_keys high_put high_first key
high_first_are key =
    by_key (122 ∷ []) (FirstRows high_keys high_put high_first) key refl
    (λ z. by_key (97 ∷ []) (FirstRows high_keys high_put high_first) key refl (λ a. ap (λ t. one_of t (121 ∷ [])) z ∙ others_first high_keys key z a))

low_second_are : (key : Bytes) → SecondRows low_keys low_put low_second key
low_second_are key =
    by_key (98 ∷ []) (SecondRows low_keys low_put low_second) key refl
    (λ c. by_key (122 ∷ []) (SecondRows low_keys low_put low_second) key refl
    (λ z. by_key (97 ∷ []) (SecondRows low_keys low_put low_second) key refl
    (λ a. ap (λ t. cond t (Some (122 ∷ [])) (one_of (bytes_eq key (97 ∷ [])) (120 ∷ []))) c ∙ ap (λ t. one_of t (120 ∷ [])) a ∙ others_second low_keys 98 (Some (122 ∷ [])) key c z a)))

high_second_are : (key : Bytes) → SecondRows high_keys high_put high_second key
high_second_are key =
    by_key (120 ∷ []) (SecondRows high_keys high_put high_second) key refl
    (λ c. by_key (122 ∷ []) (SecondRows high_keys high_put high_second) key refl
    (λ z. by_key (97 ∷ []) (SecondRows high_keys high_put high_second) key refl
    (λ a. ap (λ t. cond t (Some (119 ∷ [])) (one_of (bytes_eq key (122 ∷ [])) (121 ∷ []))) c ∙ ap (λ t. one_of t (121 ∷ [])) z ∙ others_second high_keys 120 (Some (119 ∷ [])) key c z a)))

-- ---- all that is observed

abbrev pub split_note : Note
split_note = Split 1 2 3 (109 ∷ [])

abbrev pub parent_notes : List Note
parent_notes = Loaded 1 1 [] 1 ∷ Began 1 1 1 parent_put ∷ Done 1 1 1 ∷ []

abbrev pub child_notes : List Note
child_notes =
    Loaded 2 2 low_first 2 ∷ Began 2 2 2 low_put ∷ Done 2 2 2
    ∷ Loaded 3 2 high_first 2 ∷ Began 3 2 2 high_put ∷ Done 3 2 2
    ∷ Loaded 2 3 low_second 3 ∷ Loaded 3 3 high_second 3 ∷ []

abbrev pub all_notes : List Note
all_notes = parent_notes ++ split_note ∷ child_notes

-- rows of the loads that are the fourth and the seventh event of the log's story
abbrev pub two_rows : List Row → List Row → ℕ → List Row
two_rows first second n = cond (eqb n 3) first (cond (eqb n 6) second [])

abbrev pub three : {A : Type 0} → A → A → A → A → ℕ → A
three one two other none r = cond (eqb r 1) one (cond (eqb r 2) two (cond (eqb r 3) other none))

abbrev own : ℕ → Run
own = three parent_run (child_run low_keys low_put) (child_run high_keys high_put) []

abbrev taken : ℕ → Run
taken = three [] parent_run parent_run []

abbrev rows : ℕ → ℕ → List Row
rows = three (λ n. []) (two_rows low_first low_second) (two_rows high_first high_second) (λ n. [])

-- each of three, and all others
pub by_range : (P : ℕ → Type 0) → P 1 → P 2 → P 3 → ((r : ℕ) → eqb r 1 ≡ false → eqb r 2 ≡ false → eqb r 3 ≡ false → P r) → (r : ℕ) → P r
by_range P one two other none r = elim (cases_eq r 1) as (λ x. P r) [
  | inl e ↦ subst P (sym e) one
  | inr n1 ↦ elim (cases_eq r 2) as (λ x. P r) [
    | inl e ↦ subst P (sym e) two
    | inr n2 ↦ elim (cases_eq r 3) as (λ x. P r) [
      | inl e ↦ subst P (sym e) other
      | inr n3 ↦ none r (ne_test Transaction r 1 n1) (ne_test Transaction r 2 n2) (ne_test Transaction r 3 n3)
    ]
  ]
]

abbrev pub AllOfOthers : ℕ → List Note → Type 0
AllOfOthers r [] = Unit {0}
AllOfOthers r (o ∷ h) = (is_of r o ≡ false) × AllOfOthers r h

pub none_told : (r : ℕ) (h : List Note) → AllOfOthers r h → only r h ≡ []
none_told r [] n = refl
none_told r (o ∷ h) n = ap (λ z. cond z (o ∷ only r h) (only r h)) n.0 ∙ none_told r h n.1

nothing_of_others : (r : ℕ) → eqb r 1 ≡ false → eqb r 2 ≡ false → eqb r 3 ≡ false → only r all_notes ≡ []
nothing_of_others r e1 e2 e3 = none_told r all_notes (e1, (e1, (e1, (refl, (e2, (e2, (e2, (e3, (e3, (e3, (e2, (e3, tt))))))))))))

nothing_done : (r : ℕ) → eqb r 1 ≡ false → eqb r 2 ≡ false → eqb r 3 ≡ false → (P : Run → Run → (ℕ → List Row) → Type 0) → P [] [] (λ n. []) → P (own r) (taken r) (rows r)
nothing_done r e1 e2 e3 P h =
    subst (λ b. P (cond b parent_run (cond (eqb r 2) (child_run low_keys low_put) (cond (eqb r 3) (child_run high_keys high_put) []))) (cond b [] (cond (eqb r 2) parent_run (cond (eqb r 3) parent_run [])))
    (cond b (λ n. []) (cond (eqb r 2) (two_rows low_first low_second) (cond (eqb r 3) (two_rows high_first high_second) (λ n. []))))) (sym e1)
    (subst (λ b. P (cond b (child_run low_keys low_put) (cond (eqb r 3) (child_run high_keys high_put) [])) (cond b parent_run (cond (eqb r 3) parent_run []))
    (cond b (two_rows low_first low_second) (cond (eqb r 3) (two_rows high_first high_second) (λ n. [])))) (sym e2)
    (subst (λ b. P (cond b (child_run high_keys high_put) []) (cond b parent_run []) (cond b (two_rows high_first high_second) (λ n. []))) (sym e3) h))

pub is_nothing : (h : List Note) (r : ℕ) → only r h ≡ [] → IsRange no_layers h r [] [] (λ n. [])
is_nothing h r none = record {
  runs = tt;
  layers = tt;
  log = keeps_order (Group Transaction) [] tt;
  ends = ends_rise (Group Transaction) [] tt;
  metadata = keeps_order (Group MetaItem) [] tt;
  told = sym none;
}

is_parent : IsRange no_layers all_notes 1 parent_run [] (λ n. [])
is_parent = record {
  runs = is_parent_run;
  layers = (nothing_kept, tt);
  log = keeps_order (Group Transaction) parent_log is_parent_log;
  ends = ends_rise (Group Transaction) parent_log is_parent_log;
  metadata = keeps_order (Group MetaItem) parent_metadata is_parent_metadata;
  told = refl;
}

is_low : IsRange no_layers all_notes 2 (child_run low_keys low_put) parent_run (two_rows low_first low_second)
is_low = record {
  runs = is_child_run low_keys low_put;
  layers = (low_second_are, (low_first_are, (nothing_kept, tt)));
  log = keeps_order (Group Transaction) (child_log low_keys low_put) (is_child_log low_keys low_put);
  ends = ends_rise (Group Transaction) (child_log low_keys low_put) (is_child_log low_keys low_put);
  metadata = keeps_order (Group MetaItem) (child_metadata low_keys low_put) (is_child_metadata low_keys low_put);
  told = refl;
}

is_high : IsRange no_layers all_notes 3 (child_run high_keys high_put) parent_run (two_rows high_first high_second)
is_high = record {
  runs = is_child_run high_keys high_put;
  layers = (high_second_are, (high_first_are, (nothing_kept, tt)));
  log = keeps_order (Group Transaction) (child_log high_keys high_put) (is_child_log high_keys high_put);
  ends = ends_rise (Group Transaction) (child_log high_keys high_put) (is_child_log high_keys high_put);
  metadata = keeps_order (Group MetaItem) (child_metadata high_keys high_put) (is_child_metadata high_keys high_put);
  told = refl;
}

ranges : (r : ℕ) → IsRange no_layers all_notes r (own r) (taken r) (rows r)
ranges =
    by_range (λ r. IsRange no_layers all_notes r (own r) (taken r) (rows r)) is_parent is_low is_high
    (λ r e1 e2 e3. nothing_done r e1 e2 e3 (λ o t w. IsRange no_layers all_notes r o t w) (is_nothing all_notes r (nothing_of_others r e1 e2 e3)))

-- ---- how the children came to be

-- what holds of each note that is of a range
abbrev pub AllOf : ℕ → (Note → Type 0) → List Note → Type 0
AllOf r P [] = Unit {0}
AllOf r P (o ∷ h) = (is_of r o ≡ true → P o) × AllOf r P h

pub each_of : (r : ℕ) (P : Note → Type 0) (h : List Note) → AllOf r P h → (o : Note) → In o h → is_of r o ≡ true → P o
each_of r P [] all o i is = absurd i
each_of r P (x ∷ h) all o (inl e) is = subst P (sym e) (all.0 (subst (λ z. is_of r z ≡ true) e is))
each_of r P (x ∷ h) all o (inr i) is = each_of r P h all.1 o i is

pub only_made : (a : ℕ) (group : Group Transaction) → event_at (log_of parent_run) a ≡ Some (Made 1 group) → IsAnswered (log_of parent_run) a
only_made a group h = elim (made_cases Transaction 1 first_group (Showed 1 0 0 [] ∷ []) a 1 group (answered_made Transaction 1 0 24 (Made 1 first_group ∷ Showed 1 0 0 [] ∷ []) a 1 group h)) as (λ x. IsAnswered (log_of parent_run) a) [
  | inl q ↦ subst (IsAnswered (log_of parent_run)) (sym q.0) (2, 0, 24, omega arith, refl)
  | inr o ↦ absurd (let none : event_at [] a ≡ Some (Made 1 group) = showed_made Transaction 1 0 0 [] [] a 1 group o in cc)
]

-- a first load of nothing began at the first place
pub first_start : (l g s e : ℕ) (xs : List (Placed (Group Transaction))) → event_at (Showed 1 0 0 [] ∷ []) l ≡ Some (Showed g s e xs) → s ≡ 0
first_start l g s e xs h = elim (cases_eq l 0) as (λ x. s ≡ 0) [
  | inl z ↦ (let r : Some (Showed 1 0 0 []) ≡ Some (Showed g s e xs) = ap (event_at (Showed 1 0 0 [] ∷ [])) (sym z) ∙ h in let k : 0 ≡ s = cc in sym k)
  | inr ne ↦ absurd (let r : None ≡ Some (Showed g s e xs) = ap (λ b. cond b (Some (Showed 1 0 0 [])) None) (sym (ne_test Transaction l 0 ne)) ∙ h in cc)
]

-- the one load that was taken began there
pub from_zero : (l g s e : ℕ) (xs : List (Placed (Group Transaction))) → event_at (log_of parent_run) l ≡ Some (Showed g s e xs) → s ≡ 0
from_zero l g s e xs h =
    first_start l g s e xs
    (made_shown Transaction 1 first_group (Showed 1 0 0 [] ∷ []) l g s e xs (answered_shown Transaction 1 0 24 (Made 1 first_group ∷ Showed 1 0 0 [] ∷ []) l g s e xs h))

-- a load from the first place shows the groups of all its copies
pub all_shown : (story : Story (Group Transaction)) (order : KeepsOrder story) (l g s e : ℕ) (xs : List (Placed (Group Transaction))) → event_at story l ≡ Some (Showed g s e xs) → s ≡ 0 → xs ≡ map placed (order.copies l)
all_shown story order l g s e xs h z = order.shown l g s e xs h ∙ ap (λ n. map placed (from_place n (order.copies l))) z ∙ ap (map placed) (from_first (Group Transaction) (order.copies l))

pub many_older : (front story : Story (Group Transaction)) (l g s e : ℕ) (xs : List (Placed (Group Transaction))) → event_at story l ≡ Some (Showed g s e xs) → event_at (front ++ story) l ≡ Some (Showed g s e xs)
many_older [] story l g s e xs h = h
many_older (x ∷ front) story l g s e xs h = older (Group Transaction) x (front ++ story) l (Showed g s e xs) (many_older front story l g s e xs h)

low_is_child : IsChild all_notes 1 2
low_is_child = record {
  before = parent_notes;
  after = child_notes;
  low = 2;
  high = 3;
  key = 109 ∷ [];
  is = refl;
  half = inl refl;
  low_above = omega arith;
  high_above = omega arith;
  no_child_birth = (refl, (refl, (refl, (refl, (refl, (refl, (refl, (refl, tt))))))));
  no_parent_birth = (refl, (refl, (refl, (refl, (refl, (refl, (refl, (refl, tt))))))));
}

high_is_child : IsChild all_notes 1 3
high_is_child = record {
  before = parent_notes;
  after = child_notes;
  low = 2;
  high = 3;
  key = 109 ∷ [];
  is = refl;
  half = inr refl;
  low_above = omega arith;
  high_above = omega arith;
  no_child_birth = (refl, (refl, (refl, (refl, (refl, (refl, (refl, (refl, tt))))))));
  no_parent_birth = (refl, (refl, (refl, (refl, (refl, (refl, (refl, (refl, tt))))))));
}

abbrev IsOneOrBelow : Note → Type 0
IsOneOrBelow o = generation_of o ≤ 1

abbrev IsAboveOne : Note → Type 0
IsAboveOne o = 1 < generation_of o

low_parent : HasParent no_layers all_notes own taken rows ranges 1 2
low_parent = record {
  child = low_is_child;
  early = parent_run;
  late = [];
  parts = refl;
  took = refl;
  before = parent_notes;
  after = split_note ∷ child_notes;
  moment = refl;
  told = refl;
  untold = refl;
  generation = 1;
  loaded = ([], 1, (0, omega arith, refl));
  answered = only_made;
  highest = λ o c is. each_of 1 IsOneOrBelow all_notes ((λ q. omega arith), ((λ q. omega arith), ((λ q. omega arith), ((λ q. absurd (cc)), ((λ q. absurd (cc)), ((λ q. absurd (cc)), ((λ q. absurd (cc)), ((λ q. absurd (cc)), ((λ q. absurd (cc)), ((λ q. absurd (cc)), ((λ q. absurd (cc)), ((λ q. absurd (cc)), tt))))))))))))
      o (in_contains o all_notes c) is;
  above = λ o c is. each_of 2 IsAboveOne all_notes ((λ q. absurd (cc)), ((λ q. absurd (cc)), ((λ q. absurd (cc)), ((λ q. absurd (cc)), ((λ q. omega arith), ((λ q. omega arith), ((λ q. omega arith), ((λ q. absurd (cc)), ((λ q. absurd (cc)), ((λ q. absurd (cc)), ((λ q. omega arith), ((λ q. absurd (cc)), tt))))))))))))
      o (in_contains o all_notes c) is;
  shared = λ l g s e xs h.
      let z : s ≡ 0 = from_zero l g s e xs h in
      sym (all_shown (log_of (child_run low_keys low_put ++ parent_run)) (ranges 2).log l g s e xs (many_older (log_of (child_run low_keys low_put)) (log_of parent_run) l g s e xs h) z)
      ∙ all_shown (log_of parent_run) (ranges 1).log l g s e xs h z;
}

high_parent : HasParent no_layers all_notes own taken rows ranges 1 3
high_parent = record {
  child = high_is_child;
  early = parent_run;
  late = [];
  parts = refl;
  took = refl;
  before = parent_notes;
  after = split_note ∷ child_notes;
  moment = refl;
  told = refl;
  untold = refl;
  generation = 1;
  loaded = ([], 1, (0, omega arith, refl));
  answered = only_made;
  highest = λ o c is. each_of 1 IsOneOrBelow all_notes ((λ q. omega arith), ((λ q. omega arith), ((λ q. omega arith), ((λ q. absurd (cc)), ((λ q. absurd (cc)), ((λ q. absurd (cc)), ((λ q. absurd (cc)), ((λ q. absurd (cc)), ((λ q. absurd (cc)), ((λ q. absurd (cc)), ((λ q. absurd (cc)), ((λ q. absurd (cc)), tt))))))))))))
      o (in_contains o all_notes c) is;
  above = λ o c is. each_of 3 IsAboveOne all_notes ((λ q. absurd (cc)), ((λ q. absurd (cc)), ((λ q. absurd (cc)), ((λ q. absurd (cc)), ((λ q. absurd (cc)), ((λ q. absurd (cc)), ((λ q. absurd (cc)), ((λ q. omega arith), ((λ q. omega arith), ((λ q. omega arith), ((λ q. absurd (cc)), ((λ q. omega arith), tt))))))))))))
      o (in_contains o all_notes c) is;
  shared = λ l g s e xs h.
      let z : s ≡ 0 = from_zero l g s e xs h in
      sym (all_shown (log_of (child_run high_keys high_put ++ parent_run)) (ranges 3).log l g s e xs (many_older (log_of (child_run high_keys high_put)) (log_of parent_run) l g s e xs h) z)
      ∙ all_shown (log_of parent_run) (ranges 1).log l g s e xs h z;
}

first_one : IsFirst no_layers all_notes own taken rows ranges 1
first_one = record { is = refl; unborn = (refl, (refl, (refl, (refl, (refl, (refl, (refl, (refl, (refl, (refl, (refl, (refl, tt)))))))))))); nothing = refl }

family : IsFamily no_layers all_notes
family = record {
  own = own;
  taken = taken;
  rows = rows;
  range = ranges;
  keys =
      by_range (λ r. HasKeys (keys_of all_notes r) (own r)) (refl, tt) (refl, (refl, tt)) (refl, (refl, tt))
      (λ r e1 e2 e3. nothing_done r e1 e2 e3 (λ o t w. HasKeys (keys_of all_notes r) o) tt);
  born =
      by_range (λ r. (only r all_notes ≡ []) ⊎ (IsFirst no_layers all_notes own taken rows ranges r ⊎ ((p : ℕ) × HasParent no_layers all_notes own taken rows ranges p r)))
      (inr (inl first_one)) (inr (inr (1, low_parent))) (inr (inr (1, high_parent)))
      (λ r e1 e2 e3. inl (nothing_of_others r e1 e2 e3));
}

-- it replays: each child's second load has the parent's row within its keys, and its own
pub worked_family : Replays (
    Loaded 1 1 [] 1 ∷ Began 1 1 1 parent_put ∷ Done 1 1 1 ∷ Split 1 2 3 (109 ∷ [])
    ∷ Loaded 2 2 (row 97 120 ∷ []) 2 ∷ Began 2 2 2 low_put ∷ Done 2 2 2
    ∷ Loaded 3 2 (row 122 121 ∷ []) 2 ∷ Began 3 2 2 high_put ∷ Done 3 2 2
    ∷ Loaded 2 3 (row 98 122 ∷ row 97 120 ∷ []) 3 ∷ Loaded 3 3 (row 120 119 ∷ row 122 121 ∷ []) 3 ∷ []
    )
worked_family = families_replay no_layers all_notes family

-- the keys of its loads are those of the record that was made of them
pub worked_keys : HasKeys low_keys (child_run low_keys low_put)
worked_keys =
    named_keys no_layers (two_rows low_first low_second) (child_run low_keys low_put) parent_run 1 low_keys is_low.runs is_low.layers is_low.log is_low.ends is_low.metadata
    (record { append = 3; answer = 4; from = 40; to = 80; number = 2; made = refl; answered = refl })
    ((λ le other q. cc), ((λ le other q. absurd (cc)), tt)) (omega arith, (omega arith, tt))
