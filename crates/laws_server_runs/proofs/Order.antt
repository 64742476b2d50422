-- What the order of a stream says of the groups that its loads show.
use Rattle.std.proofs.Common.{◌≡◌, ⊎_elim, ℕ, zero, suc, ◌<◌, ◌≤◌, List, [], ◌∷◌, map, Some, nat_lt, refl, sym, ap, subst, arith}
use Rattle.std.specs.Prelude.{Contains}
use Rattle.std.proofs.lemmas.Bool.{ltb-false}
use Rattle.model_streams.proofs.Tests.{if_elim}
use Rattle.commitlog.specs.declared.log_record.LogRecord.{LogRecord}
use Rattle.commitlog.specs.Reading.{record_at}
use Rattle.commitlog.specs.Record.{spelling}
use Rattle.model_partition.specs.Past.{Bytes}
use Rattle.model_histories.specs.Story.{Placed, Made, Showed, Story, event_at, Copy, placed, from_place, Ascending, KeepsOrder}
use Rattle.model_partition.specs.Loading.{Group}
use Rattle.laws_tables.proofs.Range.{event_cases}
use Rattle.laws_server_runs.specs.RangeInvariant.{AllSpelled}
use Rattle.laws_server_runs.proofs.Behind.{groups_shown, AreBehind}
use Rattle.laws_server_runs.proofs.Replaying.{AreRead}

pub first_there : {A : Type 0} (x : A) (xs : List A) → Contains (x ∷ xs) x
first_there {A} x xs = (zero, omega arith, refl)

pub later_there : {A : Type 0} (y x : A) (xs : List A) → Contains xs x → Contains (y ∷ xs) x
later_there {A} y x xs (k, l, e) = (suc k, omega (arith, l), e)

-- what is read back
abbrev IsSpelled : Group → Type 0
IsSpelled group = (r : LogRecord) × (group ≡ spelling r) × (record_at group ≡ Some r)

-- copies of such groups are read back
all_read : (cs : List (Copy Group)) → ((c : Copy Group) → Contains cs c → IsSpelled c.group) → (rs : List LogRecord) × AreRead (groups_shown (map placed cs)) rs
all_read [] all = ([], tt)
all_read (c ∷ cs) all =
    let others = all_read cs (λ d there. all d (later_there c d cs there)) in
    let one : IsSpelled c.group = all c (first_there c cs) in
    (one.0 ∷ others.0, (one.1, one.2, others.1))

-- from any place on
copies_read : (start : ℕ) (cs : List (Copy Group)) → ((c : Copy Group) → Contains cs c → IsSpelled c.group) →
    (rs : List LogRecord) × AreRead (groups_shown (map placed (from_place start cs))) rs
copies_read start [] all = ([], tt)
copies_read start (c ∷ cs) all =
    if_elim (λ (x : List (Copy Group)). (rs : List LogRecord) × AreRead (groups_shown (map placed x)) rs) (nat_lt c.from start) (from_place start cs) (c ∷ cs)
    (λ t. copies_read start cs (λ d there. all d (later_there c d cs there))) (λ f. all_read (c ∷ cs) all)

-- ---- places

rest_ascends : (c : Copy Group) (cs : List (Copy Group)) → Ascending (c ∷ cs) → Ascending cs
rest_ascends c cs ascends front back x y e there = ascends (c ∷ front) back x y (ap (λ l. c ∷ l) e) (later_there c y front there)

abbrev AreNotEmpty : List (Copy Group) → Type 0
AreNotEmpty cs = (c : Copy Group) → Contains cs c → c.from < c.to

-- behind the first copy stand the others
all_rise : (start : ℕ) (c : Copy Group) (cs : List (Copy Group)) → start ≤ c.from → Ascending (c ∷ cs) → AreNotEmpty (c ∷ cs) → AreBehind start (map placed (c ∷ cs))
all_rise start c [] low ascends filled = (low, tt)
all_rise start c (d ∷ cs) low ascends filled =
    let next : c.to ≤ d.from = ascends (c ∷ []) cs d c refl (first_there c []) in
    let some : c.from < c.to = filled c (first_there c (d ∷ cs)) in
    (low, all_rise start d cs (omega (arith, low, next, some)) (rest_ascends c (d ∷ cs) ascends) (λ x there. filled x (later_there c x (d ∷ cs) there)))

from_place_on : (start : ℕ) (cs : List (Copy Group)) → Ascending cs → AreNotEmpty cs → AreBehind start (map placed (from_place start cs))
from_place_on start [] ascends filled = tt
from_place_on start (c ∷ cs) ascends filled =
    if_elim (λ (x : List (Copy Group)). AreBehind start (map placed x)) (nat_lt c.from start) (from_place start cs) (c ∷ cs)
    (λ t. from_place_on start cs (rest_ascends c cs ascends) (λ x there. filled x (later_there c x cs there)))
    (λ f. all_rise start c cs (ltb-false c.from start f) ascends filled)

module _ (texts : ℕ → Bytes) (story : Story Group) (k : KeepsOrder story) where
  -- what a load shows stands at its start or behind it
  pub shown_behind : (l g start end : ℕ) (groups : List (Placed Group)) → event_at story l ≡ Some (Showed g start end groups) → AreBehind start groups
  shown_behind l g start end groups at =
      subst (AreBehind start) (sym (k.shown l g start end groups at)) (from_place_on start (k.copies l) (k.ascending l) (k.not_empty l))

  -- what a load shows was handed to appends, so it is read back
  pub shown_spelled : AllSpelled texts story → (l g start end : ℕ) (groups : List (Placed Group)) → event_at story l ≡ Some (Showed g start end groups) →
      (rs : List LogRecord) × AreRead (groups_shown groups) rs
  shown_spelled spelled l g start end groups at =
      subst (λ (xs : List (Placed Group)). (rs : List LogRecord) × AreRead (groups_shown xs) rs) (sym (k.shown l g start end groups at))
      (copies_read start (k.copies l) (λ c there. let h = k.handed l g start end groups c at there in spelled c.append h.0 c.group h.1))

-- what was formed before a load
pub made_before : {A : Type 0} (story : Story A) (h start end : ℕ) (shown : List (Placed A)) (a g : ℕ) (group : A) →
    event_at (Showed h start end shown ∷ story) a ≡ Some (Made g group) → event_at story a ≡ Some (Made g group)
made_before {A} story h start end shown a g group at =
    ⊎_elim {C = event_at story a ≡ Some (Made g group)}
    (λ s. let e : Showed h start end shown ≡ Made g group = s.1 in absurd cc)
    (λ old. old)
    (event_cases A (Showed h start end shown) story a (Made g group) at)
