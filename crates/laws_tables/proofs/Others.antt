-- Observations of extents say nothing of tables, nor of what Gets show.
use Rattle.std.proofs.Common.{◌≡◌, ◌⊎◌, ⊎_elim, ℕ, ◌<◌, List, [], ◌∷◌, ◌++◌, cond, Some, Option, refl, sym, ap, ◌∙◌, subst, inl, inr}
use Rattle.std.specs.Prelude.{◌&&◌, ◌||◌, ◌==◌, Contains, reverse}
use Rattle.std.proofs.lemmas.List.{append-nil, reverse-append}
use Rattle.wire.specs.declared.note.Note.{Note}
use Rattle.wire.specs.declared.note.Note.TheVariants.{Acked, SealedAt, Content, Seen, Began, Done, Loaded, Got, Split, Merged}
use Rattle.metadata.specs.declared.record.KeyRange.{KeyRange}
use Rattle.model_partition.specs.Past.{Bytes, Transaction, Past, From_nothing, From_pair, owners, owners_back, eldest, eldest_back, kin, kin_back, keys_of, keys_back, kept, union, after_line, empty_table, table_of, begun, AllBegan, AllDone, IsMember, IsPastOf, IsComplete, Replays, table_notes}
use Rattle.model_partition.specs.Served.{AllDoneBefore, HasAllDone, IsServed}
use Rattle.model_histories.specs.StreamMachine.{In}
use Rattle.laws_tables.specs.Reads.{ReplaysAndServes}
use Rattle.laws_tables.proofs.Members.{in_contains, contains_in}

pub others-append : (xs ys : List Note) → table_notes (xs ++ ys) ≡ table_notes xs ++ table_notes ys
others-append [] ys = refl
others-append (Acked e o grp ∷ h) ys = others-append h ys
others-append (SealedAt e l ∷ h) ys = others-append h ys
others-append (Content e n grps ∷ h) ys = others-append h ys
others-append (Seen e n o bytes ∷ h) ys = others-append h ys
others-append (Began r g s t ∷ h) ys = ap (λ z. Began r g s t ∷ z) (others-append h ys)
others-append (Done r g s ∷ h) ys = ap (λ z. Done r g s ∷ z) (others-append h ys)
others-append (Loaded r g rows next ∷ h) ys = ap (λ z. Loaded r g rows next ∷ z) (others-append h ys)
others-append (Split b c d key ∷ h) ys = ap (λ z. Split b c d key ∷ z) (others-append h ys)
others-append (Merged c d e ∷ h) ys = ap (λ z. Merged c d e ∷ z) (others-append h ys)
others-append (Got r g key value ∷ h) ys = ap (λ z. Got r g key value ∷ z) (others-append h ys)

step : (o : Note) (h : List Note) → table_notes (reverse h) ≡ reverse (table_notes h) → table_notes (reverse (o ∷ h)) ≡ reverse (table_notes h) ++ table_notes (o ∷ [])
step o h ih = ap table_notes (reverse-append (o ∷ []) h) ∙ others-append (reverse h) (o ∷ []) ∙ ap (λ z. z ++ table_notes (o ∷ [])) ih

others-reverse : (h : List Note) → table_notes (reverse h) ≡ reverse (table_notes h)
others-reverse [] = refl
others-reverse (Acked e o grp ∷ h) = step (Acked e o grp) h (others-reverse h) ∙ append-nil (reverse (table_notes h))
others-reverse (SealedAt e l ∷ h) = step (SealedAt e l) h (others-reverse h) ∙ append-nil (reverse (table_notes h))
others-reverse (Content e n grps ∷ h) = step (Content e n grps) h (others-reverse h) ∙ append-nil (reverse (table_notes h))
others-reverse (Seen e n o bytes ∷ h) = step (Seen e n o bytes) h (others-reverse h) ∙ append-nil (reverse (table_notes h))
others-reverse (Began r g s t ∷ h) = step (Began r g s t) h (others-reverse h) ∙ sym (reverse-append (Began r g s t ∷ []) (table_notes h))
others-reverse (Done r g s ∷ h) = step (Done r g s) h (others-reverse h) ∙ sym (reverse-append (Done r g s ∷ []) (table_notes h))
others-reverse (Loaded r g rows next ∷ h) = step (Loaded r g rows next) h (others-reverse h) ∙ sym (reverse-append (Loaded r g rows next ∷ []) (table_notes h))
others-reverse (Split b c d key ∷ h) = step (Split b c d key) h (others-reverse h) ∙ sym (reverse-append (Split b c d key ∷ []) (table_notes h))
others-reverse (Merged c d e ∷ h) = step (Merged c d e) h (others-reverse h) ∙ sym (reverse-append (Merged c d e ∷ []) (table_notes h))
others-reverse (Got r g key value ∷ h) = step (Got r g key value) h (others-reverse h) ∙ sym (reverse-append (Got r g key value ∷ []) (table_notes h))

-- ---- families

owners-others : (h : List Note) (r : ℕ) → owners_back h r ≡ owners_back (table_notes h) r
owners-others [] r = refl
owners-others (Acked e o grp ∷ h) r = owners-others h r
owners-others (SealedAt e l ∷ h) r = owners-others h r
owners-others (Got x y key value ∷ h) r = owners-others h r
owners-others (Content e n grps ∷ h) r = owners-others h r
owners-others (Seen e n o bytes ∷ h) r = owners-others h r
owners-others (Began x g s t ∷ h) r = owners-others h r
owners-others (Done x g s ∷ h) r = owners-others h r
owners-others (Loaded x g rows next ∷ h) r = owners-others h r
owners-others (Split b c d key ∷ h) r =
    ap (λ z. cond ((r == c) || (r == d)) (r ∷ z) (owners_back h r)) (owners-others h b)
    ∙ ap (λ z. cond ((r == c) || (r == d)) (r ∷ owners_back (table_notes h) b) z) (owners-others h r)
owners-others (Merged c d e ∷ h) r = owners-others h r

eldest-others : (h : List Note) (r : ℕ) → eldest_back h r ≡ eldest_back (table_notes h) r
eldest-others [] r = refl
eldest-others (Acked e o grp ∷ h) r = eldest-others h r
eldest-others (SealedAt e l ∷ h) r = eldest-others h r
eldest-others (Got x y key value ∷ h) r = eldest-others h r
eldest-others (Content e n grps ∷ h) r = eldest-others h r
eldest-others (Seen e n o bytes ∷ h) r = eldest-others h r
eldest-others (Began x g s t ∷ h) r = eldest-others h r
eldest-others (Done x g s ∷ h) r = eldest-others h r
eldest-others (Loaded x g rows next ∷ h) r = eldest-others h r
eldest-others (Split b c d key ∷ h) r =
    ap (λ z. cond ((r == c) || (r == d)) z (eldest_back h r)) (eldest-others h b)
    ∙ ap (λ z. cond ((r == c) || (r == d)) (eldest_back (table_notes h) b) z) (eldest-others h r)
eldest-others (Merged c d e ∷ h) r = eldest-others h r

kin-others : (h : List Note) (r : ℕ) → kin_back h r ≡ kin_back (table_notes h) r
kin-others [] r = refl
kin-others (Acked e o grp ∷ h) r = kin-others h r
kin-others (SealedAt e l ∷ h) r = kin-others h r
kin-others (Got x y key value ∷ h) r = kin-others h r
kin-others (Content e n grps ∷ h) r = kin-others h r
kin-others (Seen e n o bytes ∷ h) r = kin-others h r
kin-others (Began x g s t ∷ h) r = kin-others h r
kin-others (Done x g s ∷ h) r = kin-others h r
kin-others (Loaded x g rows next ∷ h) r = kin-others h r
kin-others (Split b c d key ∷ h) r =
    ap (λ z. cond ((r == c) || (r == d)) (r ∷ z) (kin_back h r)) (kin-others h b)
    ∙ ap (λ z. cond ((r == c) || (r == d)) (r ∷ kin_back (table_notes h) b) z) (kin-others h r)
kin-others (Merged c d e ∷ h) r =
    ap (λ z. cond (r == e) (r ∷ z ++ kin_back h d) (kin_back h r)) (kin-others h c)
    ∙ ap (λ z. cond (r == e) (r ∷ kin_back (table_notes h) c ++ z) (kin_back h r)) (kin-others h d)
    ∙ ap (λ z. cond (r == e) (r ∷ kin_back (table_notes h) c ++ kin_back (table_notes h) d) z) (kin-others h r)

low_to : Bytes → KeyRange → KeyRange
low_to key keys = record { low = keys.low; high = Some key }

high_from : Bytes → KeyRange → KeyRange
high_from key keys = record { low = key; high = keys.high }

from_to : KeyRange → KeyRange → KeyRange
from_to a b = record { low = a.low; high = b.high }

keys-others : (h : List Note) (r : ℕ) → keys_back h r ≡ keys_back (table_notes h) r
unfolding low_to high_from from_to
keys-others [] r = refl
keys-others (Acked e o grp ∷ h) r = keys-others h r
keys-others (SealedAt e l ∷ h) r = keys-others h r
keys-others (Got x y key value ∷ h) r = keys-others h r
keys-others (Content e n grps ∷ h) r = keys-others h r
keys-others (Seen e n o bytes ∷ h) r = keys-others h r
keys-others (Began x g s t ∷ h) r = keys-others h r
keys-others (Done x g s ∷ h) r = keys-others h r
keys-others (Loaded x g rows next ∷ h) r = keys-others h r
keys-others (Split b c d key ∷ h) r =
    ap (λ z. cond (r == c) (low_to key z) (cond (r == d) (high_from key z) (keys_back h r))) (keys-others h b)
    ∙ ap (λ z. cond (r == c) (low_to key (keys_back (table_notes h) b)) (cond (r == d) (high_from key (keys_back (table_notes h) b)) z)) (keys-others h r)
keys-others (Merged c d e ∷ h) r =
    ap (λ z. cond (r == e) (from_to z (keys_back h d)) (keys_back h r)) (keys-others h c)
    ∙ ap (λ z. cond (r == e) (from_to (keys_back (table_notes h) c) z) (keys_back h r)) (keys-others h d)
    ∙ ap (λ z. cond (r == e) (from_to (keys_back (table_notes h) c) (keys_back (table_notes h) d)) z) (keys-others h r)

begun-others : (h : List Note) (r g s : ℕ) → begun h r g s ≡ begun (table_notes h) r g s
begun-others [] r g s = refl
begun-others (Acked e o grp ∷ h) r g s = begun-others h r g s
begun-others (SealedAt e l ∷ h) r g s = begun-others h r g s
begun-others (Got x y key value ∷ h) r g s = begun-others h r g s
begun-others (Content e n grps ∷ h) r g s = begun-others h r g s
begun-others (Seen e n o bytes ∷ h) r g s = begun-others h r g s
begun-others (Began x y w t ∷ h) r g s = ap (λ z. cond ((r == x) && ((g == y) && (s == w))) (t ∷ z) z) (begun-others h r g s)
begun-others (Done x y w ∷ h) r g s = begun-others h r g s
begun-others (Loaded x y rows next ∷ h) r g s = begun-others h r g s
begun-others (Split b c d key ∷ h) r g s = begun-others h r g s
begun-others (Merged c d e ∷ h) r g s = begun-others h r g s

owners_same : (h : List Note) (r : ℕ) → owners h r ≡ owners (table_notes h) r
owners_same h r = owners-others (reverse h) r ∙ ap (λ z. owners_back z r) (others-reverse h)

eldest_same : (h : List Note) (r : ℕ) → eldest h r ≡ eldest (table_notes h) r
eldest_same h r = eldest-others (reverse h) r ∙ ap (λ z. eldest_back z r) (others-reverse h)

kin_same : (h : List Note) (r : ℕ) → kin h r ≡ kin (table_notes h) r
kin_same h r = kin-others (reverse h) r ∙ ap (λ z. kin_back z r) (others-reverse h)

pub keys_same : (h : List Note) (r : ℕ) → keys_of h r ≡ keys_of (table_notes h) r
keys_same h r = keys-others (reverse h) r ∙ ap (λ z. keys_back z r) (others-reverse h)

-- ---- members

abbrev IsOfTables : Note → Type 0
IsOfTables o = table_notes (o ∷ []) ≡ o ∷ []

back : (x : Note) (h : List Note) → In x (table_notes h) → In x h
back x [] i = i
back x (Acked e o grp ∷ h) i = inr (back x h i)
back x (SealedAt e l ∷ h) i = inr (back x h i)
back x (Content e n grps ∷ h) i = inr (back x h i)
back x (Seen e n o bytes ∷ h) i = inr (back x h i)
back x (Began r g s t ∷ h) (inl e) = inl e
back x (Began r g s t ∷ h) (inr i) = inr (back x h i)
back x (Done r g s ∷ h) (inl e) = inl e
back x (Done r g s ∷ h) (inr i) = inr (back x h i)
back x (Loaded r g rows next ∷ h) (inl e) = inl e
back x (Loaded r g rows next ∷ h) (inr i) = inr (back x h i)
back x (Split b c d key ∷ h) (inl e) = inl e
back x (Split b c d key ∷ h) (inr i) = inr (back x h i)
back x (Merged c d e ∷ h) (inl q) = inl q
back x (Got r g key value ∷ h) (inl q) = inl q
back x (Merged c d e ∷ h) (inr i) = inr (back x h i)
back x (Got r g key value ∷ h) (inr i) = inr (back x h i)

there : (x : Note) (h : List Note) → IsOfTables x → In x h → In x (table_notes h)
there x [] is i = i
there x (Acked e o grp ∷ h) is (inl q) = absurd (let no : [] ≡ x ∷ [] = ap (λ z. table_notes (z ∷ [])) (sym q) ∙ is in cc)
there x (Acked e o grp ∷ h) is (inr i) = there x h is i
there x (SealedAt e l ∷ h) is (inl q) = absurd (let no : [] ≡ x ∷ [] = ap (λ z. table_notes (z ∷ [])) (sym q) ∙ is in cc)
there x (SealedAt e l ∷ h) is (inr i) = there x h is i
there x (Content e n grps ∷ h) is (inl q) = absurd (let no : [] ≡ x ∷ [] = ap (λ z. table_notes (z ∷ [])) (sym q) ∙ is in cc)
there x (Content e n grps ∷ h) is (inr i) = there x h is i
there x (Seen e n o bytes ∷ h) is (inl q) = absurd (let no : [] ≡ x ∷ [] = ap (λ z. table_notes (z ∷ [])) (sym q) ∙ is in cc)
there x (Seen e n o bytes ∷ h) is (inr i) = there x h is i
there x (Began r g s t ∷ h) is (inl e) = inl e
there x (Began r g s t ∷ h) is (inr i) = inr (there x h is i)
there x (Done r g s ∷ h) is (inl e) = inl e
there x (Done r g s ∷ h) is (inr i) = inr (there x h is i)
there x (Loaded r g rows next ∷ h) is (inl e) = inl e
there x (Loaded r g rows next ∷ h) is (inr i) = inr (there x h is i)
there x (Split b c d key ∷ h) is (inl e) = inl e
there x (Split b c d key ∷ h) is (inr i) = inr (there x h is i)
there x (Merged c d e ∷ h) is (inl q) = inl q
there x (Got r g key value ∷ h) is (inl q) = inl q
there x (Merged c d e ∷ h) is (inr i) = inr (there x h is i)
there x (Got r g key value ∷ h) is (inr i) = inr (there x h is i)

contains_back : (x : Note) (h : List Note) → Contains (table_notes h) x → Contains h x
contains_back x h c = contains_in x h (back x h (in_contains x (table_notes h) c))

contains_there : (x : Note) (h : List Note) → IsOfTables x → Contains h x → Contains (table_notes h) x
contains_there x h is c = contains_in x (table_notes h) (there x h is (in_contains x h c))

-- ---- pasts

all_began : (before : List Note) (ranges : List ℕ) (g : ℕ) (line : List Transaction) → AllBegan (table_notes before) ranges g line → AllBegan before ranges g line
all_began before ranges g line h s t m =
    let r : (r' : ℕ) × (g' : ℕ) × Contains ranges r' × (g' < g) × Contains (table_notes before) (Began r' g' s t) = h s t m in
    (r.0, r.1, r.2, r.3, contains_back (Began r.0 r.1 s t) before r.4)

all_done : (h : List Note) (ranges : List ℕ) (g : ℕ) (line : List Transaction) → AllDone (table_notes h) ranges g line → AllDone h ranges g line
all_done h ranges g line d r' g' s own lt done =
    let x : (t : Transaction) × (begun (table_notes h) r' g' s ≡ t ∷ []) × IsMember line s t = d r' g' s own lt (contains_there (Done r' g' s) h refl done) in
    (x.0, begun-others h r' g' s ∙ x.1, x.2)

past_of : (h before : List Note) (g r : ℕ) (p : Past) → IsPastOf (table_notes h) (table_notes before) g r p → IsPastOf h before g r p
past_of h before g r (From_nothing line) q =
    (all_began before (owners h r) g line (subst (λ z. AllBegan (table_notes before) z g line) (sym (owners_same h r)) q.0), eldest_same h r ∙ q.1)
past_of h before g r (From_pair c a d b line) q = (
  all_began before (owners h r) g line (subst (λ z. AllBegan (table_notes before) z g line) (sym (owners_same h r)) q.0),
  subst (λ z. Contains h (Merged c d z)) (sym (eldest_same h r)) (contains_back (Merged c d (eldest (table_notes h) r)) h q.1),
  past_of h before g c a q.2,
  past_of h before g d b q.3,
)

complete : (h : List Note) (g r : ℕ) (p : Past) → IsComplete (table_notes h) g r p → IsComplete h g r p
complete h g r (From_nothing line) q = all_done h (owners h r) g line (subst (λ z. AllDone (table_notes h) z g line) (sym (owners_same h r)) q)
complete h g r (From_pair c a d b line) q =
    (all_done h (owners h r) g line (subst (λ z. AllDone (table_notes h) z g line) (sym (owners_same h r)) q.0), complete h g c a q.1, complete h g d b q.2)

table_same : (h : List Note) (r : ℕ) (p : Past) → table_of (table_notes h) r p ≡ table_of h r p
table_same h r (From_nothing line) = ap (λ z. kept z (after_line line empty_table)) (sym (keys_same h r))
table_same h r (From_pair c a d b line) =
    ap (λ z. kept z (after_line line (union (table_of (table_notes h) c a) (table_of (table_notes h) d b)))) (sym (keys_same h r))
    ∙ ap (λ z. kept (keys_of h r) (after_line line (union z (table_of (table_notes h) d b)))) (table_same h c a)
    ∙ ap (λ z. kept (keys_of h r) (after_line line (union (table_of h c a) z))) (table_same h d b)

apart : (h before after : List Note) (x : Note) → IsOfTables x → h ≡ before ++ x ∷ after → table_notes h ≡ table_notes before ++ x ∷ table_notes after
apart h before after x is e =
    ap table_notes e ∙ others-append before (x ∷ after)
    ∙ ap (λ z. table_notes before ++ z) (others-append (x ∷ []) after ∙ ap (λ z. z ++ table_notes after) is)

pub with_others : (h : List Note) → Replays (table_notes h) → Replays h
with_others h p = record {
  past = p.past;
  of = λ before after r g rows next e.
      past_of h before g r (p.past r g) (p.of (table_notes before) (table_notes after) r g rows next (apart h before after (Loaded r g rows next) refl e));
  complete = λ r g rows next c. complete h g r (p.past r g) (p.complete r g rows next (contains_there (Loaded r g rows next) h refl c));
  table = λ r g rows next c key.
      p.table r g rows next (contains_there (Loaded r g rows next) h refl c) key ∙ ap (λ z. z key) (table_same h r (p.past r g));
  number = λ r g rows next c. p.number r g rows next (contains_there (Loaded r g rows next) h refl c);
  in_order = λ r g r' g' rows rows' next next' c c' lt k.
      p.in_order r g r' g' rows rows' next next' (contains_there (Loaded r g rows next) h refl c) (contains_there (Loaded r' g' rows' next') h refl c') lt
      (⊎_elim {C = Contains (kin (table_notes h) r') r ⊎ Contains (kin (table_notes h) r) r'} (λ up. inl (subst (λ z. Contains z r) (kin_same h r') up)) (λ down. inr (subst (λ z. Contains z r') (kin_same h r) down)) k);
  once = λ before after r g rows rows' next next' e c.
      p.once (table_notes before) (table_notes after) r g rows rows' next next' (apart h before after (Loaded r g rows next) refl e)
      (contains_there (Loaded r g rows' next') after refl c);
}

-- the pasts are the same
others_past : (h : List Note) (p : Replays (table_notes h)) → (with_others h p).past ≡ p.past
unfolding with_others
others_past h p = refl

-- ---- answered Gets

all_done_before : (h before : List Note) (ranges : List ℕ) (line : List Transaction) → AllDoneBefore (table_notes h) (table_notes before) ranges line → AllDoneBefore h before ranges line
all_done_before h before ranges line d r' g' s own done =
    let x : (t : Transaction) × (begun (table_notes h) r' g' s ≡ t ∷ []) × IsMember line s t = d r' g' s own (contains_there (Done r' g' s) before refl done) in
    (x.0, begun-others h r' g' s ∙ x.1, x.2)

has_all_done : (h before : List Note) (r : ℕ) (p : Past) → HasAllDone (table_notes h) (table_notes before) r p → HasAllDone h before r p
has_all_done h before r (From_nothing line) q =
    all_done_before h before (owners h r) line (subst (λ z. AllDoneBefore (table_notes h) (table_notes before) z line) (sym (owners_same h r)) q)
has_all_done h before r (From_pair c a d b line) q = (
  all_done_before h before (owners h r) line (subst (λ z. AllDoneBefore (table_notes h) (table_notes before) z line) (sym (owners_same h r)) q.0),
  has_all_done h before c a q.1,
  has_all_done h before d b q.2,
)

is_served : (h before : List Note) (past : ℕ → ℕ → Past) (r g : ℕ) (key : Bytes) (value : Option Bytes) →
    IsServed (table_notes h) (table_notes before) past r g key value → IsServed h before past r g key value
is_served h before past r g key value q = record {
  now = q.now;
  loaded = (q.loaded.0, q.loaded.1, contains_back (Loaded r g q.loaded.0 q.loaded.1) before q.loaded.2);
  start = q.start;
  begins = q.begins;
  further = λ s t m low.
      let x : (begun (table_notes h) r g s ≡ t ∷ []) × Contains (table_notes before) (Done r g s) = q.further s t m low in
      (begun-others h r g s ∙ x.0, contains_back (Done r g s) before x.1);
  done = has_all_done h before r q.now q.done;
  later = λ r' g' rows next c lt k. q.later r' g' rows next (contains_there (Loaded r' g' rows next) h refl c) lt (subst (λ z. Contains z r) (kin_same h r') k);
  alone = λ r' g' s k other done. q.alone r' g' s (subst (λ z. Contains z r) (kin_same h r') k) other (contains_there (Done r' g' s) before refl done);
  shows = q.shows ∙ ap (λ z. z key) (table_same h r q.now);
}

-- Gets that are served among the observations of tables are served among all
pub serve_with_others : (h : List Note) → ReplaysAndServes (table_notes h) → ReplaysAndServes h
serve_with_others h x = record {
  replays = with_others h x.replays;
  served = λ before after r g key value e.
      subst (λ z. IsServed h before z r g key value) (sym (others_past h x.replays))
      (is_served h before x.replays.past r g key value (x.served (table_notes before) (table_notes after) r g key value (apart h before after (Got r g key value) refl e)));
}
