-- Worked examples of chains: a checkpoint that is noted while a group is out, a Trim, and a load from the noted position; then a
-- split, and a load of the right half; and a chain that begins with an index, in the middle of a stream.
use Rattle.std.proofs.Common.{◌≡◌, ℕ, zero, suc, length, sym, ap, ◌∙◌, subst, ⊎_elim, inl, inr, ◌⊎◌, ◌≤◌, List, [], ◌∷◌, refl, Some, None, Option, arith, Bool, true, false, cond}
use Rattle.std.specs.Prelude.{bytes_eq}
use Rattle.std.proofs.lemmas.Slice.Eq.{bytes_eq-Decides}
use Rattle.wire.specs.declared.note.Note.TheVariants.{Began, Done, Loaded}
use Rattle.wire.specs.declared.rows.Row.{Row}
use Rattle.wire.specs.declared.transaction.Change.{Change}
use Rattle.memtable.specs.declared.cell.Place.{Place}
use Rattle.commitlog.specs.Replay.{Numbered as Group}
use Rattle.metadata.specs.declared.record.KeyRange.{KeyRange}
use Rattle.metadata.specs.declared.record.MetaItem.{MetaItem}
use Rattle.metadata.specs.declared.record.MetaItem.TheVariants.{Ranges, Checkpoint, SplitStatus}
use Rattle.metadata.specs.Fold.{all_keys}
use Rattle.metadata.specs.Keys.{within}
use Rattle.model_partition.specs.Past.{Bytes, Transaction, empty_table, after_line, stored, kept, Replays}
use Rattle.model_histories.specs.Story.{Placed, Made, Answered, Showed, Story, event_at, Copy}
use Rattle.model_histories.specs.StreamMachine.{In}
use Rattle.laws_tables.specs.Ends.{StandsBehind}
use Rattle.laws_tables.specs.Fenced.{Seen, Landed, Fenced, LogRun, IsLogRun, visible, landed}
use Rattle.laws_tables.specs.Layers.{Layer, empty_layer, flat, layer_line}
use Rattle.laws_tables.specs.Runs.{Forms, Logged, Notes, Records, Recorded, Trims, Confirms, Run, log_of, record_group, meta_of, Beginning, first_beginning, IsBeginning, loaded_layer, IsChainRun, KeepsKeys, ChainReplays}
use Rattle.laws_tables.specs.Through.{IsLoaded}
use Rattle.laws_tables.proofs.Fenced.{keeps_order, ends_rise, stands_behind}
use Rattle.laws_tables.proofs.Final.{first_range_replays, first_begins, first_behind}
use Rattle.laws_tables.proofs.Layers.{in_all, kept_all, pick}
use Rattle.laws_tables.proofs.Machine.{chain_replays}
use Rattle.laws_tables.proofs.Range.{event_cases, made_shown, answered_shown, shown_cases}

-- ---- which generations are not loaded

abbrev pub IsNeverLoaded : {A : Type 0} → Story (Group A) → ℕ → Type 0
IsNeverLoaded [] g = Unit {0}
IsNeverLoaded (Made g' group ∷ earlier) g = IsNeverLoaded earlier g
IsNeverLoaded (Answered a from to ∷ earlier) g = IsNeverLoaded earlier g
IsNeverLoaded (Showed g' start end groups ∷ earlier) g = (g' ≡ g → ⊥) × IsNeverLoaded earlier g

pub not_loaded : (A : Type 0) (story : Story (Group A)) (g : ℕ) → IsNeverLoaded story g → IsLoaded story g → ⊥
not_loaded A [] g n h = let q : event_at [] h.0 ≡ Some (Showed g h.1 h.2 h.3) = h.4 in cc
not_loaded A (Made g' group ∷ earlier) g n h = not_loaded A earlier g n (h.0, h.1, h.2, h.3, made_shown A g' group earlier h.0 g h.1 h.2 h.3 h.4)
not_loaded A (Answered a from to ∷ earlier) g n h = not_loaded A earlier g n (h.0, h.1, h.2, h.3, answered_shown A a from to earlier h.0 g h.1 h.2 h.3 h.4)
not_loaded A (Showed g' start end groups ∷ earlier) g n h =
    ⊎_elim {C = ⊥} (λ (q : (h.0 ≡ length earlier) × (g' ≡ g) × (groups ≡ h.3)). n.0 q.1) (λ o. not_loaded A earlier g n.1 (h.0, h.1, h.2, h.3, o))
    (shown_cases A g' start end groups earlier h.0 g h.1 h.2 h.3 h.4)

pub one_is_not_two : ◌≡◌ {A = ℕ} 1 2 → ⊥
one_is_not_two e = omega arith

-- ---- rows, key by key

bools : (t : Bool) → (t ≡ true) ⊎ (t ≡ false)
bools true = inl refl
bools false = inr refl

-- what holds of a key and of all others holds of all
pub by_key : (k : Bytes) (P : Bytes → Type 0) (key : Bytes) → P k → (bytes_eq key k ≡ false → P key) → P key
by_key k P key here others =
    ⊎_elim {C = P key} (λ (e : bytes_eq key k ≡ true). subst P (sym ((bytes_eq-Decides key k).0 e)) here) (λ e. others e) (bools (bytes_eq key k))

none_kept : (w : Bool) → None ≡ cond w (flat None) None
none_kept true = refl
none_kept false = refl

abbrev pub put : ℕ → ℕ → Change
put key value = record { key = key ∷ []; value = Some (value ∷ []) }

abbrev pub row : ℕ → ℕ → Row
row key value = record { key = key ∷ []; value = value ∷ [] }

-- ---- three groups: one in the first extent, two in the second

abbrev pub t1 : Transaction
t1 = put 97 120 ∷ []

abbrev pub t2 : Transaction
t2 = put 98 121 ∷ []

abbrev pub t3 : Transaction
t3 = put 99 122 ∷ []

abbrev g1 : Group Transaction
g1 = record { first = 1; items = t1 ∷ [] }

abbrev pub g2 : Group Transaction
g2 = record { first = 2; items = t2 ∷ [] }

abbrev pub g3 : Group Transaction
g3 = record { first = 3; items = t3 ∷ [] }

abbrev c1 : Copy (Group Transaction)
c1 = record { from = 0; to = 24; append = 1; group = g1 }

abbrev c2 : Copy (Group Transaction)
c2 = record { from = 4294967296; to = 4294967320; append = 3; group = g2 }

abbrev c3 : Copy (Group Transaction)
c3 = record { from = 4294967320; to = 4294967344; append = 5; group = g3 }

abbrev index_place : Place
index_place = record { extent = 7; offset = 0; length = 5 }

-- what the index says that the checkpoint writes
abbrev written : Layer
written = layer_line (t1 ∷ t2 ∷ []) empty_layer

abbrev pub layers : Place → Layer
layers place = written

-- the third group is out when the checkpoint is noted: its first number, and the position before it
abbrev checkpoint : MetaItem
checkpoint = Checkpoint false index_place (record { index = 1; offset = 24 }) 3

abbrev pub load : List (Placed (Group Transaction))
load = record { from = 4294967320; to = 4294967344; group = g3 } ∷ []

abbrev pub checkpoint_shown : Placed (Group MetaItem)
checkpoint_shown = record { from = 0; to = 40; group = record_group 1 checkpoint }

abbrev pub up_to_trim : Run
up_to_trim =
    Trims 1 4294967296
    ∷ Recorded 1 1 0 40
    ∷ Logged 1 5 4294967320 4294967344
    ∷ Records 1 1 checkpoint
    ∷ Notes 1
    ∷ Forms 1 g3
    ∷ Logged 1 3 4294967296 4294967320
    ∷ Forms 1 g2
    ∷ Logged 1 1 0 24
    ∷ Forms 1 g1
    ∷ Confirms 1 0 0 [] 0 []
    ∷ []

-- the first load shows nothing, and each later one these rows
abbrev pub two_loads : List Row → ℕ → List Row
two_loads rows zero = []
two_loads rows (suc n) = rows

abbrev all_rows : List Row
all_rows = row 99 122 ∷ row 98 121 ∷ row 97 120 ∷ []

abbrev whole_run : Run
whole_run = Confirms 2 4294967320 4294967344 load 40 (checkpoint_shown ∷ []) ∷ up_to_trim

abbrev pub before_second : LogRun (Group Transaction)
before_second =
    Seen (Answered 5 4294967320 4294967344)
    ∷ Landed c3
    ∷ Seen (Made 1 g3)
    ∷ Seen (Answered 3 4294967296 4294967320)
    ∷ Landed c2
    ∷ Seen (Made 1 g2)
    ∷ Seen (Answered 1 0 24)
    ∷ Landed c1
    ∷ Seen (Made 1 g1)
    ∷ Seen (Showed 1 0 0 [])
    ∷ Fenced 1 0
    ∷ []

abbrev pub log_run : LogRun (Group Transaction)
log_run = Seen (Showed 2 4294967320 4294967344 load) ∷ Fenced 2 4294967344 ∷ before_second

pub is_log : IsLogRun log_run
is_log = (
  (before_second, [], refl, refl),
  (
    (omega arith, omega arith),
    (
      (g3, (2, omega arith, refl)),
      (
        (1, refl, omega arith, omega arith, omega arith),
        (
          omega arith,
          (
            (g2, (1, omega arith, refl)),
            (
              (1, refl, omega arith, omega arith, omega arith),
              (
                omega arith,
                (
                  (g1, (0, omega arith, refl)),
                  ((1, refl, omega arith, omega arith, omega arith), (omega arith, (([], [], refl, refl), ((omega arith, omega arith), tt)))),
                ),
              ),
            ),
          ),
        ),
      ),
    ),
  ),
)

abbrev checkpoint_copy : Copy (Group MetaItem)
checkpoint_copy = record { from = 0; to = 40; append = 1; group = record_group 1 checkpoint }

abbrev checkpoint_answered : LogRun (Group MetaItem)
checkpoint_answered =
    Seen (Answered 1 0 40)
    ∷ Landed checkpoint_copy
    ∷ Seen (Made 1 (record_group 1 checkpoint))
    ∷ Seen (Showed 1 0 0 [])
    ∷ Fenced 1 0
    ∷ []

abbrev pub metadata_run : LogRun (Group MetaItem)
metadata_run = Seen (Showed 2 0 40 (checkpoint_shown ∷ [])) ∷ Fenced 2 40 ∷ checkpoint_answered

is_checkpoint_answered : IsLogRun checkpoint_answered
is_checkpoint_answered = (
  (record_group 1 checkpoint, (0, omega arith, refl)),
  ((1, refl, omega arith, omega arith, omega arith), (omega arith, (([], [], refl, refl), ((omega arith, omega arith), tt)))),
)

pub is_metadata : IsLogRun metadata_run
is_metadata = ((checkpoint_answered, [], refl, refl), ((omega arith, omega arith), is_checkpoint_answered))

log_is : log_of whole_run ≡ visible log_run
log_is = refl

metadata_is : meta_of whole_run ≡ visible metadata_run
metadata_is = refl

-- the rows of the three keys, and what the layers of the load say of them; w: whether the keys of the range have it
abbrev rows_of : Bool → Bool → Bool → Option Bytes
rows_of c b a = cond c (Some (122 ∷ [])) (cond b (Some (121 ∷ [])) (cond a (Some (120 ∷ [])) None))

abbrev layers_say : Bool → Bool → Bool → Bool → Option Bytes
layers_say w c b a = flat (pick (cond c (Some (Some (122 ∷ []))) None) (pick (cond w (cond b (Some (Some (121 ∷ []))) (cond a (Some (Some (120 ∷ []))) None)) None) None))

three_rows : (c b a : Bool) → rows_of c b a ≡ layers_say true c b a
three_rows true b a = refl
three_rows false true a = refl
three_rows false false true = refl
three_rows false false false = refl

all_rows_are : (key : Bytes) → stored all_rows key ≡ kept all_keys (λ k. flat (loaded_layer first_beginning layers load (checkpoint_shown ∷ []) k)) key
all_rows_are key =
    three_rows (bytes_eq key (99 ∷ [])) (bytes_eq key (98 ∷ [])) (bytes_eq key (97 ∷ []))
    ∙ ap (λ w. layers_say w (bytes_eq key (99 ∷ [])) (bytes_eq key (98 ∷ [])) (bytes_eq key (97 ∷ []))) (sym (in_all key))
    ∙ sym (kept_all (λ k. flat (loaded_layer first_beginning layers load (checkpoint_shown ∷ []) k)) key)

pub nothing_kept : (key : Bytes) → None ≡ kept all_keys (λ k. flat (loaded_layer first_beginning layers [] [] k)) key
nothing_kept key = none_kept (within all_keys key)

pub is_up_to_trim : IsChainRun layers first_beginning up_to_trim
is_up_to_trim = (
  ((0, 0, 0, [], refl), omega arith),
  (
    ((0, 0, 0, [], refl), record_group 1 checkpoint, refl),
    (
      ((0, 0, 0, [], refl), g3, refl),
      (
        ((0, 0, 0, [], refl), refl, refl, inl (record { place = 4294967320; next = 3 }, refl, false, index_place, record { index = 1; offset = 24 }, refl, refl, λ key w. refl)),
        (
          ((0, 0, 0, [], refl), refl, refl),
          (
            ((0, 0, 0, [], refl), refl, refl),
            (
              ((0, 0, 0, [], refl), g2, refl),
              (
                ((0, 0, 0, [], refl), refl, refl),
                (
                  ((0, 0, 0, [], refl), g1, refl),
                  (
                    ((0, 0, 0, [], refl), refl, refl),
                    (((λ h. not_loaded Transaction [] 1 tt h), (0, inl (omega arith), refl)), tt),
                  ),
                ),
              ),
            ),
          ),
        ),
      ),
    ),
  ),
)

is_whole_run : IsChainRun layers first_beginning whole_run
is_whole_run = (
  (
    (λ h. not_loaded Transaction (log_of up_to_trim) 2 (one_is_not_two, tt) h),
    (4294967296, inr (1, omega arith, (0, omega arith, refl)), refl),
  ),
  is_up_to_trim,
)

keeps_keys : KeepsKeys whole_run
keeps_keys = ((λ keys q. cc), tt)

-- it replays: the load from the noted position has all three rows, and goes on with the number 4
pub worked_checkpoint : Replays (
    Loaded 1 1 [] 1 ∷ Began 1 1 1 t1 ∷ Done 1 1 1 ∷ Began 1 1 2 t2 ∷ Done 1 1 2 ∷ Began 1 1 3 t3 ∷ Done 1 1 3 ∷ Loaded 1 2 all_rows 4 ∷ []
    )
worked_checkpoint =
    first_range_replays layers (two_loads all_rows) whole_run is_whole_run keeps_keys (all_rows_are, (nothing_kept, tt)) (keeps_order (Group Transaction) log_run is_log) (ends_rise (Group Transaction) log_run is_log) (keeps_order (Group MetaItem) metadata_run is_metadata)

-- ---- a split: two records more, and a load of the right half

abbrev right_keys : KeyRange
right_keys = record { low = 98 ∷ []; high = None }

abbrev status : MetaItem
status = SplitStatus 2 3 (98 ∷ [])

abbrev records_shown : List (Placed (Group MetaItem))
records_shown =
    checkpoint_shown
    ∷ record { from = 40; to = 80; group = record_group 2 status }
    ∷ record { from = 80; to = 120; group = record_group 3 (Ranges right_keys) }
    ∷ []

abbrev pub right_rows : List Row
right_rows = row 99 122 ∷ row 98 121 ∷ []

abbrev up_to_split : Run
up_to_split = Recorded 1 5 80 120 ∷ Records 1 3 (Ranges right_keys) ∷ Recorded 1 3 40 80 ∷ Records 1 2 status ∷ up_to_trim

abbrev split_run : Run
split_run = Confirms 2 4294967320 4294967344 load 120 records_shown ∷ up_to_split

abbrev split_answered : LogRun (Group MetaItem)
split_answered =
    Seen (Answered 5 80 120)
    ∷ Landed (record { from = 80; to = 120; append = 5; group = record_group 3 (Ranges right_keys) })
    ∷ Seen (Made 1 (record_group 3 (Ranges right_keys)))
    ∷ Seen (Answered 3 40 80)
    ∷ Landed (record { from = 40; to = 80; append = 3; group = record_group 2 status })
    ∷ Seen (Made 1 (record_group 2 status))
    ∷ checkpoint_answered

abbrev split_metadata_run : LogRun (Group MetaItem)
split_metadata_run = Seen (Showed 2 0 120 records_shown) ∷ Fenced 2 120 ∷ split_answered

is_split_metadata : IsLogRun split_metadata_run
is_split_metadata = (
  (split_answered, [], refl, refl),
  (
    (omega arith, omega arith),
    (
      (record_group 3 (Ranges right_keys), (2, omega arith, refl)),
      (
        (1, refl, omega arith, omega arith, omega arith),
        (
          omega arith,
          (
            (record_group 2 status, (1, omega arith, refl)),
            ((1, refl, omega arith, omega arith, omega arith), (omega arith, is_checkpoint_answered)),
          ),
        ),
      ),
    ),
  ),
)

-- a key outside the right half has no row, and of those within each has its own
abbrev IsRight : Bytes → Type 0
IsRight key = stored right_rows key ≡ kept right_keys (λ k. flat (loaded_layer first_beginning layers load records_shown k)) key

none_said : (v w : Bool) → None ≡ cond v (layers_say w false false false) None
none_said true true = refl
none_said true false = refl
none_said false w = refl

other_rows : (key : Bytes) → bytes_eq key (99 ∷ []) ≡ false → bytes_eq key (98 ∷ []) ≡ false → bytes_eq key (97 ∷ []) ≡ false → IsRight key
other_rows key c b a =
    ap (λ t. rows_of t (bytes_eq key (98 ∷ [])) false) c
    ∙ ap (λ t. rows_of false t false) b
    ∙ none_said (within right_keys key) (within all_keys key)
    ∙ ap (λ t. cond (within right_keys key) (layers_say (within all_keys key) t false false) None) (sym c)
    ∙ ap (λ t. cond (within right_keys key) (layers_say (within all_keys key) (bytes_eq key (99 ∷ [])) t false) None) (sym b)
    ∙ ap (λ t. cond (within right_keys key) (layers_say (within all_keys key) (bytes_eq key (99 ∷ [])) (bytes_eq key (98 ∷ [])) t) None) (sym a)

right_rows_are : (key : Bytes) → IsRight key
right_rows_are key =
    by_key (99 ∷ []) IsRight key refl (λ c. by_key (98 ∷ []) IsRight key refl (λ b. by_key (97 ∷ []) IsRight key refl (λ a. other_rows key c b a)))

is_split_run : IsChainRun layers first_beginning split_run
is_split_run = (
  (
    (λ h. not_loaded Transaction (log_of up_to_split) 2 (one_is_not_two, tt) h),
    (4294967296, inr (1, omega arith, (4, omega arith, refl)), refl),
  ),
  (
    ((0, 0, 0, [], refl), record_group 3 (Ranges right_keys), refl),
    (
      ((0, 0, 0, [], refl), refl, refl, inr (refl, inr (right_keys, refl, λ key w. in_all key))),
      (
        ((0, 0, 0, [], refl), record_group 2 status, refl),
        (((0, 0, 0, [], refl), refl, refl, inr (refl, inl (2, 3, 98 ∷ [], refl))), is_up_to_trim),
      ),
    ),
  ),
)

pub worked_split : ChainReplays first_beginning (two_loads right_rows) split_run
worked_split =
    chain_replays layers first_beginning (two_loads right_rows) split_run (first_begins layers) is_split_run (right_rows_are, (nothing_kept, tt)) (keeps_order (Group Transaction) log_run is_log) (ends_rise (Group Transaction) log_run is_log)
    (first_behind layers (log_of split_run) (keeps_order (Group Transaction) log_run is_log)) (keeps_order (Group MetaItem) split_metadata_run is_split_metadata)

-- ---- a chain that begins with an index, at the second extent of its stream

abbrev m1 : Group Transaction
m1 = record { first = 1; items = t2 ∷ [] }

abbrev middle_layers : Place → Layer
middle_layers place = layer_line (t1 ∷ []) empty_layer

abbrev middle : Beginning
middle =
    record {
      table = after_line (t1 ∷ []) empty_table;
      place = 4294967296;
      metadata = record {
        keys = all_keys;
        indexes = record { place = index_place; keys = all_keys } ∷ [];
        regions = record { start = record { index = 1; offset = 0 }; end = None; next = 1; keys = all_keys } ∷ [];
        next = 1;
      };
    }

first_row : (w a : Bool) → w ≡ true → flat (pick (cond w (cond a (Some (Some (120 ∷ []))) None) None) None) ≡ cond a (Some (120 ∷ [])) None
first_row true true e = refl
first_row true false e = refl
first_row false a e = absurd (cc)

middle_begins : IsBeginning middle_layers middle
middle_begins = record { place = refl; next = refl; table = λ key w. first_row (within all_keys key) (bytes_eq key (97 ∷ [])) w }

abbrev middle_load : List (Placed (Group Transaction))
middle_load = record { from = 4294967296; to = 4294967320; group = m1 } ∷ []

abbrev two_rows : List Row
two_rows = row 98 121 ∷ row 97 120 ∷ []

abbrev middle_loads : ℕ → List Row
middle_loads zero = row 97 120 ∷ []
middle_loads (suc n) = two_rows

abbrev before_middle_load : Run
before_middle_load = Logged 1 1 4294967296 4294967320 ∷ Forms 1 m1 ∷ Confirms 1 4294967296 4294967296 [] 0 [] ∷ []

abbrev middle_run : Run
middle_run = Confirms 2 4294967296 4294967320 middle_load 0 [] ∷ before_middle_load

abbrev middle_copy : Copy (Group Transaction)
middle_copy = record { from = 4294967296; to = 4294967320; append = 1; group = m1 }

abbrev middle_answered : LogRun (Group Transaction)
middle_answered =
    Seen (Answered 1 4294967296 4294967320)
    ∷ Landed middle_copy
    ∷ Seen (Made 1 m1)
    ∷ Seen (Showed 1 4294967296 4294967296 [])
    ∷ Fenced 1 4294967296
    ∷ []

abbrev middle_log_run : LogRun (Group Transaction)
middle_log_run = Seen (Showed 2 4294967296 4294967320 middle_load) ∷ Fenced 2 4294967320 ∷ middle_answered

is_middle_log : IsLogRun middle_log_run
is_middle_log = (
  (middle_answered, [], refl, refl),
  (
    (omega arith, omega arith),
    (
      (m1, (0, omega arith, refl)),
      ((1, refl, omega arith, omega arith, omega arith), (omega arith, (([], [], refl, refl), ((omega arith, omega arith), tt)))),
    ),
  ),
)

abbrev middle_metadata_run : LogRun (Group MetaItem)
middle_metadata_run = Seen (Showed 2 0 0 []) ∷ Fenced 2 0 ∷ Seen (Showed 1 0 0 []) ∷ Fenced 1 0 ∷ []

is_middle_metadata : IsLogRun middle_metadata_run
is_middle_metadata = ((Seen (Showed 1 0 0 []) ∷ Fenced 1 0 ∷ [], [], refl, refl), ((omega arith, omega arith), (([], [], refl, refl), ((omega arith, omega arith), tt))))

-- all of it stands behind the first place
ends_at : (l g s e : ℕ) (xs : List (Placed (Group Transaction))) → event_at (visible middle_log_run) l ≡ Some (Showed g s e xs) → 4294967296 ≤ e
ends_at l g s e xs h =
    ⊎_elim {C = 4294967296 ≤ e}
    (λ (q : (l ≡ 3) × (Showed 2 4294967296 4294967320 middle_load ≡ Showed g s e xs)). let r : Showed 2 4294967296 4294967320 middle_load ≡ Showed g s e xs = q.1 in let n : 4294967320 ≡ e = cc in omega arith)
    (λ o. first_ends (made_shown Transaction 1 m1 (Showed 1 4294967296 4294967296 [] ∷ []) l g s e xs
    (answered_shown Transaction 1 4294967296 4294967320 (Made 1 m1 ∷ Showed 1 4294967296 4294967296 [] ∷ []) l g s e xs o)))
    (event_cases (Group Transaction) (Showed 2 4294967296 4294967320 middle_load) (visible middle_answered) l (Showed g s e xs) h)
  where
    first_ends : event_at (Showed 1 4294967296 4294967296 [] ∷ []) l ≡ Some (Showed g s e xs) → 4294967296 ≤ e
    first_ends o =
        ⊎_elim {C = 4294967296 ≤ e}
        (λ (q : (l ≡ 0) × (Showed 1 4294967296 4294967296 [] ≡ Showed g s e xs)). let r : Showed 1 4294967296 4294967296 [] ≡ Showed g s e xs = q.1 in let n : 4294967296 ≡ e = cc in omega arith)
        (λ (z : event_at [] l ≡ Some (Showed g s e xs)). absurd (let q : None ≡ Some (Showed g s e xs) = z in cc))
        (event_cases (Group Transaction) (Showed 1 4294967296 4294967296 []) [] l (Showed g s e xs) o)

stands_at : (c : Copy (Group Transaction)) → In c (landed middle_log_run) → 4294967296 ≤ c.from
stands_at c (inl e) = let q : c.from ≡ 4294967296 = ap (λ (z : Copy (Group Transaction)). z.from) e in omega arith
stands_at c (inr i) = absurd i

middle_behind : StandsBehind 4294967296 (log_of middle_run) (keeps_order (Group Transaction) middle_log_run is_middle_log)
middle_behind = stands_behind (Group Transaction) 4294967296 middle_log_run is_middle_log stands_at ends_at

-- the first load has the index's row alone, and the second that of the log over it
one_row : (a : Bool) → cond a (Some (120 ∷ [])) None ≡ flat (pick (cond a (Some (Some (120 ∷ []))) None) None)
one_row true = refl
one_row false = refl

row_over_index : (b a : Bool) → cond b (Some (121 ∷ [])) (cond a (Some (120 ∷ [])) None) ≡ flat (pick (cond b (Some (Some (121 ∷ []))) None) (pick (cond a (Some (Some (120 ∷ []))) None) None))
row_over_index true a = refl
row_over_index false true = refl
row_over_index false false = refl

first_rows_are : (key : Bytes) → stored (row 97 120 ∷ []) key ≡ kept all_keys (λ k. flat (loaded_layer middle middle_layers [] [] k)) key
first_rows_are key =
    one_row (bytes_eq key (97 ∷ []))
    ∙ ap (λ w. flat (pick (cond w (cond (bytes_eq key (97 ∷ [])) (Some (Some (120 ∷ []))) None) None) None)) (sym (in_all key))
    ∙ sym (kept_all (λ k. flat (loaded_layer middle middle_layers [] [] k)) key)

second_rows_are : (key : Bytes) → stored two_rows key ≡ kept all_keys (λ k. flat (loaded_layer middle middle_layers middle_load [] k)) key
second_rows_are key =
    row_over_index (bytes_eq key (98 ∷ [])) (bytes_eq key (97 ∷ []))
    ∙ ap (λ w. flat (pick (cond (bytes_eq key (98 ∷ [])) (Some (Some (121 ∷ []))) None) (pick (cond w (cond (bytes_eq key (97 ∷ [])) (Some (Some (120 ∷ []))) None) None) None))) (sym (in_all key))
    ∙ sym (kept_all (λ k. flat (loaded_layer middle middle_layers middle_load [] k)) key)

is_middle_run : IsChainRun middle_layers middle middle_run
is_middle_run = (
  ((λ h. not_loaded Transaction (log_of before_middle_load) 2 (one_is_not_two, tt) h), (0, inl (omega arith), refl)),
  (
    ((0, 4294967296, 4294967296, [], refl), m1, refl),
    (
      ((0, 4294967296, 4294967296, [], refl), refl, refl),
      (((λ h. not_loaded Transaction [] 1 tt h), (4294967296, inl (omega arith), refl)), tt),
    ),
  ),
)

pub worked_middle : ChainReplays middle middle_loads middle_run
worked_middle =
    chain_replays middle_layers middle middle_loads middle_run middle_begins is_middle_run (second_rows_are, (first_rows_are, tt)) (keeps_order (Group Transaction) middle_log_run is_middle_log) (ends_rise (Group Transaction) middle_log_run is_middle_log)
    middle_behind (keeps_order (Group MetaItem) middle_metadata_run is_middle_metadata)
