-- Answered Gets say nothing of pasts.
use Rattle.std.proofs.Common.{◌≡◌, ◌⊎◌, ⊎_elim, ℕ, ◌<◌, Bool, true, false, List, [], ◌∷◌, ◌++◌, cond, Some, refl, sym, ap, ◌∙◌, subst, inl, inr, if◌then◌else◌}
use Rattle.std.specs.Prelude.{◌&&◌, ◌||◌, ◌==◌, Contains, reverse}
use Rattle.std.proofs.lemmas.List.{append-nil, reverse-append}
use Rattle.wire.specs.declared.note.Note.{Note}
use Rattle.wire.specs.declared.note.Note.TheVariants.{Acked, SealedAt, Content, Seen, Began, Done, Loaded, Got, Split, Merged}
use Rattle.metadata.specs.declared.record.KeyRange.{KeyRange}
use Rattle.model_partition.specs.Past.{Bytes, Transaction, Past, From_nothing, From_pair, owners, owners_back, eldest, eldest_back, kin, kin_back, keys_of, keys_back, kept, union, after_line, empty_table, table_of, begun, AllBegan, AllDone, IsMember, IsPastOf, IsComplete, Replays, table_notes}
use Rattle.model_histories.specs.Log.{is_got, without_gots}
use Rattle.model_histories.specs.StreamMachine.{In}
use Rattle.laws_tables.proofs.Members.{in_contains, contains_in}

pub without-append : (xs ys : List Note) → without_gots (xs ++ ys) ≡ without_gots xs ++ without_gots ys
without-append [] ys = refl
without-append (x ∷ xs) ys = go (is_got x) (without-append xs ys)
  where
    go : (b : Bool) → without_gots (xs ++ ys) ≡ without_gots xs ++ without_gots ys →
        (if b then without_gots (xs ++ ys) else x ∷ without_gots (xs ++ ys)) ≡ (if b then without_gots xs else x ∷ without_gots xs) ++ without_gots ys
    go true e = e
    go false e = ap (λ l. x ∷ l) e

without-reverse : (h : List Note) → without_gots (reverse h) ≡ reverse (without_gots h)
without-reverse [] = refl
without-reverse (x ∷ h) =
    ap without_gots (reverse-append (x ∷ []) h) ∙ without-append (reverse h) (x ∷ []) ∙ ap (λ z. z ++ without_gots (x ∷ [])) (without-reverse h) ∙ go (is_got x)
  where
    go : (b : Bool) → reverse (without_gots h) ++ (if b then [] else x ∷ []) ≡ reverse (if b then without_gots h else x ∷ without_gots h)
    go true = append-nil (reverse (without_gots h))
    go false = sym (reverse-append (x ∷ []) (without_gots h))

-- those of tables, without the Gets
pub tables_without : (h : List Note) → table_notes (without_gots h) ≡ without_gots (table_notes h)
tables_without [] = refl
tables_without (Acked e o grp ∷ h) = tables_without h
tables_without (SealedAt e l ∷ h) = tables_without h
tables_without (Content e n grps ∷ h) = tables_without h
tables_without (Seen e n o bytes ∷ h) = tables_without h
tables_without (Began r g s t ∷ h) = ap (λ z. Began r g s t ∷ z) (tables_without h)
tables_without (Done r g s ∷ h) = ap (λ z. Done r g s ∷ z) (tables_without h)
tables_without (Loaded r g rows next ∷ h) = ap (λ z. Loaded r g rows next ∷ z) (tables_without h)
tables_without (Got r g key value ∷ h) = tables_without h
tables_without (Split b c d key ∷ h) = ap (λ z. Split b c d key ∷ z) (tables_without h)
tables_without (Merged c d e ∷ h) = ap (λ z. Merged c d e ∷ z) (tables_without h)

-- ---- families

owners-without : (h : List Note) (r : ℕ) → owners_back h r ≡ owners_back (without_gots h) r
owners-without [] r = refl
owners-without (Acked e o grp ∷ h) r = owners-without h r
owners-without (SealedAt e l ∷ h) r = owners-without h r
owners-without (Got x y key value ∷ h) r = owners-without h r
owners-without (Content e n grps ∷ h) r = owners-without h r
owners-without (Seen e n o bytes ∷ h) r = owners-without h r
owners-without (Began x g s t ∷ h) r = owners-without h r
owners-without (Done x g s ∷ h) r = owners-without h r
owners-without (Loaded x g rows next ∷ h) r = owners-without h r
owners-without (Split b c d key ∷ h) r =
    ap (λ z. cond ((r == c) || (r == d)) (r ∷ z) (owners_back h r)) (owners-without h b)
    ∙ ap (λ z. cond ((r == c) || (r == d)) (r ∷ owners_back (without_gots h) b) z) (owners-without h r)
owners-without (Merged c d e ∷ h) r = owners-without h r

eldest-without : (h : List Note) (r : ℕ) → eldest_back h r ≡ eldest_back (without_gots h) r
eldest-without [] r = refl
eldest-without (Acked e o grp ∷ h) r = eldest-without h r
eldest-without (SealedAt e l ∷ h) r = eldest-without h r
eldest-without (Got x y key value ∷ h) r = eldest-without h r
eldest-without (Content e n grps ∷ h) r = eldest-without h r
eldest-without (Seen e n o bytes ∷ h) r = eldest-without h r
eldest-without (Began x g s t ∷ h) r = eldest-without h r
eldest-without (Done x g s ∷ h) r = eldest-without h r
eldest-without (Loaded x g rows next ∷ h) r = eldest-without h r
eldest-without (Split b c d key ∷ h) r =
    ap (λ z. cond ((r == c) || (r == d)) z (eldest_back h r)) (eldest-without h b)
    ∙ ap (λ z. cond ((r == c) || (r == d)) (eldest_back (without_gots h) b) z) (eldest-without h r)
eldest-without (Merged c d e ∷ h) r = eldest-without h r

kin-without : (h : List Note) (r : ℕ) → kin_back h r ≡ kin_back (without_gots h) r
kin-without [] r = refl
kin-without (Acked e o grp ∷ h) r = kin-without h r
kin-without (SealedAt e l ∷ h) r = kin-without h r
kin-without (Got x y key value ∷ h) r = kin-without h r
kin-without (Content e n grps ∷ h) r = kin-without h r
kin-without (Seen e n o bytes ∷ h) r = kin-without h r
kin-without (Began x g s t ∷ h) r = kin-without h r
kin-without (Done x g s ∷ h) r = kin-without h r
kin-without (Loaded x g rows next ∷ h) r = kin-without h r
kin-without (Split b c d key ∷ h) r =
    ap (λ z. cond ((r == c) || (r == d)) (r ∷ z) (kin_back h r)) (kin-without h b)
    ∙ ap (λ z. cond ((r == c) || (r == d)) (r ∷ kin_back (without_gots h) b) z) (kin-without h r)
kin-without (Merged c d e ∷ h) r =
    ap (λ z. cond (r == e) (r ∷ z ++ kin_back h d) (kin_back h r)) (kin-without h c)
    ∙ ap (λ z. cond (r == e) (r ∷ kin_back (without_gots h) c ++ z) (kin_back h r)) (kin-without h d)
    ∙ ap (λ z. cond (r == e) (r ∷ kin_back (without_gots h) c ++ kin_back (without_gots h) d) z) (kin-without h r)

low_to : Bytes → KeyRange → KeyRange
low_to key keys = record { low = keys.low; high = Some key }

high_from : Bytes → KeyRange → KeyRange
high_from key keys = record { low = key; high = keys.high }

from_to : KeyRange → KeyRange → KeyRange
from_to a b = record { low = a.low; high = b.high }

keys-without : (h : List Note) (r : ℕ) → keys_back h r ≡ keys_back (without_gots h) r
unfolding low_to high_from from_to
keys-without [] r = refl
keys-without (Acked e o grp ∷ h) r = keys-without h r
keys-without (SealedAt e l ∷ h) r = keys-without h r
keys-without (Got x y key value ∷ h) r = keys-without h r
keys-without (Content e n grps ∷ h) r = keys-without h r
keys-without (Seen e n o bytes ∷ h) r = keys-without h r
keys-without (Began x g s t ∷ h) r = keys-without h r
keys-without (Done x g s ∷ h) r = keys-without h r
keys-without (Loaded x g rows next ∷ h) r = keys-without h r
keys-without (Split b c d key ∷ h) r =
    ap (λ z. cond (r == c) (low_to key z) (cond (r == d) (high_from key z) (keys_back h r))) (keys-without h b)
    ∙ ap (λ z. cond (r == c) (low_to key (keys_back (without_gots h) b)) (cond (r == d) (high_from key (keys_back (without_gots h) b)) z)) (keys-without h r)
keys-without (Merged c d e ∷ h) r =
    ap (λ z. cond (r == e) (from_to z (keys_back h d)) (keys_back h r)) (keys-without h c)
    ∙ ap (λ z. cond (r == e) (from_to (keys_back (without_gots h) c) z) (keys_back h r)) (keys-without h d)
    ∙ ap (λ z. cond (r == e) (from_to (keys_back (without_gots h) c) (keys_back (without_gots h) d)) z) (keys-without h r)

begun-without : (h : List Note) (r g s : ℕ) → begun h r g s ≡ begun (without_gots h) r g s
begun-without [] r g s = refl
begun-without (Acked e o grp ∷ h) r g s = begun-without h r g s
begun-without (SealedAt e l ∷ h) r g s = begun-without h r g s
begun-without (Got x y key value ∷ h) r g s = begun-without h r g s
begun-without (Content e n grps ∷ h) r g s = begun-without h r g s
begun-without (Seen e n o bytes ∷ h) r g s = begun-without h r g s
begun-without (Began x y w t ∷ h) r g s = ap (λ z. cond ((r == x) && ((g == y) && (s == w))) (t ∷ z) z) (begun-without h r g s)
begun-without (Done x y w ∷ h) r g s = begun-without h r g s
begun-without (Loaded x y rows next ∷ h) r g s = begun-without h r g s
begun-without (Split b c d key ∷ h) r g s = begun-without h r g s
begun-without (Merged c d e ∷ h) r g s = begun-without h r g s

owners_same : (h : List Note) (r : ℕ) → owners h r ≡ owners (without_gots h) r
owners_same h r = owners-without (reverse h) r ∙ ap (λ z. owners_back z r) (without-reverse h)

eldest_same : (h : List Note) (r : ℕ) → eldest h r ≡ eldest (without_gots h) r
eldest_same h r = eldest-without (reverse h) r ∙ ap (λ z. eldest_back z r) (without-reverse h)

kin_same : (h : List Note) (r : ℕ) → kin h r ≡ kin (without_gots h) r
kin_same h r = kin-without (reverse h) r ∙ ap (λ z. kin_back z r) (without-reverse h)

pub keys_same : (h : List Note) (r : ℕ) → keys_of h r ≡ keys_of (without_gots h) r
keys_same h r = keys-without (reverse h) r ∙ ap (λ z. keys_back z r) (without-reverse h)

-- ---- members

back : (x : Note) (h : List Note) → In x (without_gots h) → In x h
back x [] i = i
back x (o ∷ h) i = go (is_got o) (λ j. back x h j) i
  where
    go : (b : Bool) → (In x (without_gots h) → In x h) → In x (if b then without_gots h else o ∷ without_gots h) → In x (o ∷ h)
    go true later j = inr (later j)
    go false later (inl e) = inl e
    go false later (inr j) = inr (later j)

there : (x : Note) (h : List Note) → is_got x ≡ false → In x h → In x (without_gots h)
there x [] is i = i
there x (o ∷ h) is (inl e) = subst (λ b. In x (if b then without_gots h else o ∷ without_gots h)) (sym (sym (ap is_got e) ∙ is)) (inl e)
there x (o ∷ h) is (inr i) = go (is_got o) (there x h is i)
  where
    go : (b : Bool) → In x (without_gots h) → In x (if b then without_gots h else o ∷ without_gots h)
    go true j = j
    go false j = inr j

contains_back : (x : Note) (h : List Note) → Contains (without_gots h) x → Contains h x
contains_back x h c = contains_in x h (back x h (in_contains x (without_gots h) c))

contains_there : (x : Note) (h : List Note) → is_got x ≡ false → Contains h x → Contains (without_gots h) x
contains_there x h is c = contains_in x (without_gots h) (there x h is (in_contains x h c))

-- ---- pasts

all_began : (before : List Note) (ranges : List ℕ) (g : ℕ) (line : List Transaction) → AllBegan (without_gots before) ranges g line → AllBegan before ranges g line
all_began before ranges g line h s t m =
    let r : (r' : ℕ) × (g' : ℕ) × Contains ranges r' × (g' < g) × Contains (without_gots before) (Began r' g' s t) = h s t m in
    (r.0, r.1, r.2, r.3, contains_back (Began r.0 r.1 s t) before r.4)

all_done : (h : List Note) (ranges : List ℕ) (g : ℕ) (line : List Transaction) → AllDone (without_gots h) ranges g line → AllDone h ranges g line
all_done h ranges g line d r' g' s own lt done =
    let x : (t : Transaction) × (begun (without_gots h) r' g' s ≡ t ∷ []) × IsMember line s t = d r' g' s own lt (contains_there (Done r' g' s) h refl done) in
    (x.0, begun-without h r' g' s ∙ x.1, x.2)

past_of : (h before : List Note) (g r : ℕ) (p : Past) → IsPastOf (without_gots h) (without_gots before) g r p → IsPastOf h before g r p
past_of h before g r (From_nothing line) q =
    (all_began before (owners h r) g line (subst (λ z. AllBegan (without_gots before) z g line) (sym (owners_same h r)) q.0), eldest_same h r ∙ q.1)
past_of h before g r (From_pair c a d b line) q = (
  all_began before (owners h r) g line (subst (λ z. AllBegan (without_gots before) z g line) (sym (owners_same h r)) q.0),
  subst (λ z. Contains h (Merged c d z)) (sym (eldest_same h r)) (contains_back (Merged c d (eldest (without_gots h) r)) h q.1),
  past_of h before g c a q.2,
  past_of h before g d b q.3,
)

complete : (h : List Note) (g r : ℕ) (p : Past) → IsComplete (without_gots h) g r p → IsComplete h g r p
complete h g r (From_nothing line) q = all_done h (owners h r) g line (subst (λ z. AllDone (without_gots h) z g line) (sym (owners_same h r)) q)
complete h g r (From_pair c a d b line) q =
    (all_done h (owners h r) g line (subst (λ z. AllDone (without_gots h) z g line) (sym (owners_same h r)) q.0), complete h g c a q.1, complete h g d b q.2)

table_same : (h : List Note) (r : ℕ) (p : Past) → table_of (without_gots h) r p ≡ table_of h r p
table_same h r (From_nothing line) = ap (λ z. kept z (after_line line empty_table)) (sym (keys_same h r))
table_same h r (From_pair c a d b line) =
    ap (λ z. kept z (after_line line (union (table_of (without_gots h) c a) (table_of (without_gots h) d b)))) (sym (keys_same h r))
    ∙ ap (λ z. kept (keys_of h r) (after_line line (union z (table_of (without_gots h) d b)))) (table_same h c a)
    ∙ ap (λ z. kept (keys_of h r) (after_line line (union (table_of h c a) z))) (table_same h d b)

apart : (h before after : List Note) (x : Note) → is_got x ≡ false → h ≡ before ++ x ∷ after → without_gots h ≡ without_gots before ++ x ∷ without_gots after
apart h before after x is e =
    ap without_gots e ∙ without-append before (x ∷ after) ∙ ap (λ (b : Bool). without_gots before ++ (if b then without_gots after else x ∷ without_gots after)) is

pub with_gots : (h : List Note) → Replays (without_gots h) → Replays h
with_gots h p = record {
  past = p.past;
  of = λ before after r g rows next e.
      past_of h before g r (p.past r g) (p.of (without_gots before) (without_gots after) r g rows next (apart h before after (Loaded r g rows next) refl e));
  complete = λ r g rows next c. complete h g r (p.past r g) (p.complete r g rows next (contains_there (Loaded r g rows next) h refl c));
  table = λ r g rows next c key.
      p.table r g rows next (contains_there (Loaded r g rows next) h refl c) key ∙ ap (λ z. z key) (table_same h r (p.past r g));
  number = λ r g rows next c. p.number r g rows next (contains_there (Loaded r g rows next) h refl c);
  in_order = λ r g r' g' rows rows' next next' c c' lt k.
      p.in_order r g r' g' rows rows' next next' (contains_there (Loaded r g rows next) h refl c) (contains_there (Loaded r' g' rows' next') h refl c') lt
      (⊎_elim {C = Contains (kin (without_gots h) r') r ⊎ Contains (kin (without_gots h) r) r'} (λ up. inl (subst (λ z. Contains z r) (kin_same h r') up)) (λ down. inr (subst (λ z. Contains z r') (kin_same h r) down)) k);
  once = λ before after r g rows rows' next next' e c.
      p.once (without_gots before) (without_gots after) r g rows rows' next next' (apart h before after (Loaded r g rows next) refl e)
      (contains_there (Loaded r g rows' next') after refl c);
}
