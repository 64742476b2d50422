-- How ranges came to be: what a split adds to a range's owners and kin.
use Rattle.std.proofs.Common.{◌≡◌, ℕ, ◌<◌, List, [], ◌∷◌, ◌++◌, Bool, true, false, cond, Some, refl, sym, ap, ◌∙◌, subst, inl, inr, ◌⊎◌, arith, append_assoc}
use Rattle.std.specs.Prelude.{◌||◌, ◌==◌, reverse}
use Rattle.std.proofs.lemmas.List.{append-nil, reverse-append}
use Rattle.std.proofs.lemmas.Bool.Decides.{nat_tests}
use Rattle.wire.specs.declared.note.Note.{Note}
use Rattle.wire.specs.declared.note.Note.TheVariants.{Acked, SealedAt, Content, Seen, Began, Done, Loaded, Got, Split, Merged}
use Rattle.metadata.specs.declared.record.KeyRange.{KeyRange}
use Rattle.metadata.specs.Fold.{all_keys}
use Rattle.model_partition.specs.Past.{owners, owners_back, eldest, eldest_back, kin, kin_back, keys_of, keys_back}
use Rattle.model_histories.specs.StreamMachine.{In}
use Rattle.laws_tables.specs.Families.{HasNoBirth, IsChild}

pub none_append : (r : ℕ) (xs ys : List Note) → HasNoBirth r xs → HasNoBirth r ys → HasNoBirth r (xs ++ ys)
none_append r [] ys n m = m
none_append r (o ∷ xs) ys n m = (n.0, none_append r xs ys n.1 m)

none_reverse : (r : ℕ) (h : List Note) → HasNoBirth r h → HasNoBirth r (reverse h)
none_reverse r [] n = tt
none_reverse r (o ∷ h) n = subst (HasNoBirth r) (sym (reverse-append (o ∷ []) h)) (none_append r (reverse h) (o ∷ []) (none_reverse r h n.1) (n.0, tt))

owners_skip : (r : ℕ) (xs ys : List Note) → HasNoBirth r xs → owners_back (xs ++ ys) r ≡ owners_back ys r
owners_skip r [] ys n = refl
owners_skip r (Split b c d key ∷ xs) ys n = ap (λ z. cond z (r ∷ owners_back (xs ++ ys) b) (owners_back (xs ++ ys) r)) n.0 ∙ owners_skip r xs ys n.1
owners_skip r (Merged c d e ∷ xs) ys n = owners_skip r xs ys n.1
owners_skip r (Acked e o grp ∷ xs) ys n = owners_skip r xs ys n.1
owners_skip r (SealedAt e l ∷ xs) ys n = owners_skip r xs ys n.1
owners_skip r (Got x g key value ∷ xs) ys n = owners_skip r xs ys n.1
owners_skip r (Content e k grps ∷ xs) ys n = owners_skip r xs ys n.1
owners_skip r (Seen e k o bytes ∷ xs) ys n = owners_skip r xs ys n.1
owners_skip r (Began x g s t ∷ xs) ys n = owners_skip r xs ys n.1
owners_skip r (Done x g s ∷ xs) ys n = owners_skip r xs ys n.1
owners_skip r (Loaded x g rows next ∷ xs) ys n = owners_skip r xs ys n.1

eldest_skip : (r : ℕ) (xs ys : List Note) → HasNoBirth r xs → eldest_back (xs ++ ys) r ≡ eldest_back ys r
eldest_skip r [] ys n = refl
eldest_skip r (Split b c d key ∷ xs) ys n = ap (λ z. cond z (eldest_back (xs ++ ys) b) (eldest_back (xs ++ ys) r)) n.0 ∙ eldest_skip r xs ys n.1
eldest_skip r (Merged c d e ∷ xs) ys n = eldest_skip r xs ys n.1
eldest_skip r (Acked e o grp ∷ xs) ys n = eldest_skip r xs ys n.1
eldest_skip r (SealedAt e l ∷ xs) ys n = eldest_skip r xs ys n.1
eldest_skip r (Got x g key value ∷ xs) ys n = eldest_skip r xs ys n.1
eldest_skip r (Content e k grps ∷ xs) ys n = eldest_skip r xs ys n.1
eldest_skip r (Seen e k o bytes ∷ xs) ys n = eldest_skip r xs ys n.1
eldest_skip r (Began x g s t ∷ xs) ys n = eldest_skip r xs ys n.1
eldest_skip r (Done x g s ∷ xs) ys n = eldest_skip r xs ys n.1
eldest_skip r (Loaded x g rows next ∷ xs) ys n = eldest_skip r xs ys n.1

kin_skip : (r : ℕ) (xs ys : List Note) → HasNoBirth r xs → kin_back (xs ++ ys) r ≡ kin_back ys r
kin_skip r [] ys n = refl
kin_skip r (Split b c d key ∷ xs) ys n = ap (λ z. cond z (r ∷ kin_back (xs ++ ys) b) (kin_back (xs ++ ys) r)) n.0 ∙ kin_skip r xs ys n.1
kin_skip r (Merged c d e ∷ xs) ys n = ap (λ z. cond z (r ∷ kin_back (xs ++ ys) c ++ kin_back (xs ++ ys) d) (kin_back (xs ++ ys) r)) n.0 ∙ kin_skip r xs ys n.1
kin_skip r (Acked e o grp ∷ xs) ys n = kin_skip r xs ys n.1
kin_skip r (SealedAt e l ∷ xs) ys n = kin_skip r xs ys n.1
kin_skip r (Got x g key value ∷ xs) ys n = kin_skip r xs ys n.1
kin_skip r (Content e k grps ∷ xs) ys n = kin_skip r xs ys n.1
kin_skip r (Seen e k o bytes ∷ xs) ys n = kin_skip r xs ys n.1
kin_skip r (Began x g s t ∷ xs) ys n = kin_skip r xs ys n.1
kin_skip r (Done x g s ∷ xs) ys n = kin_skip r xs ys n.1
kin_skip r (Loaded x g rows next ∷ xs) ys n = kin_skip r xs ys n.1

keys_skip : (r : ℕ) (xs ys : List Note) → HasNoBirth r xs → keys_back (xs ++ ys) r ≡ keys_back ys r
keys_skip r [] ys n = refl
keys_skip r (Split b c d key ∷ xs) ys n = neither (r == c) (r == d) n.0 ∙ keys_skip r xs ys n.1
  where
    neither : (x y : Bool) → (x || y) ≡ false →
        cond x (record { low = (keys_back (xs ++ ys) b).low; high = Some key }) (cond y (record { low = key; high = (keys_back (xs ++ ys) b).high }) (keys_back (xs ++ ys) r)) ≡ keys_back (xs ++ ys) r
    neither true y e = absurd (cc)
    neither false true e = absurd (cc)
    neither false false e = refl
keys_skip r (Merged c d e ∷ xs) ys n =
    ap (λ z. cond z (record { low = (keys_back (xs ++ ys) c).low; high = (keys_back (xs ++ ys) d).high }) (keys_back (xs ++ ys) r)) n.0 ∙ keys_skip r xs ys n.1
keys_skip r (Acked e o grp ∷ xs) ys n = keys_skip r xs ys n.1
keys_skip r (SealedAt e l ∷ xs) ys n = keys_skip r xs ys n.1
keys_skip r (Got x g key value ∷ xs) ys n = keys_skip r xs ys n.1
keys_skip r (Content e k grps ∷ xs) ys n = keys_skip r xs ys n.1
keys_skip r (Seen e k o bytes ∷ xs) ys n = keys_skip r xs ys n.1
keys_skip r (Began x g s t ∷ xs) ys n = keys_skip r xs ys n.1
keys_skip r (Done x g s ∷ xs) ys n = keys_skip r xs ys n.1
keys_skip r (Loaded x g rows next ∷ xs) ys n = keys_skip r xs ys n.1

-- ---- a range that nothing makes

pub unborn_owners : (h : List Note) (r : ℕ) → HasNoBirth r h → owners h r ≡ r ∷ []
unborn_owners h r n = ap (λ z. owners_back z r) (sym (append-nil (reverse h))) ∙ owners_skip r (reverse h) [] (none_reverse r h n)

pub unborn_eldest : (h : List Note) (r : ℕ) → HasNoBirth r h → eldest h r ≡ r
unborn_eldest h r n = ap (λ z. eldest_back z r) (sym (append-nil (reverse h))) ∙ eldest_skip r (reverse h) [] (none_reverse r h n)

pub unborn_kin : (h : List Note) (r : ℕ) → HasNoBirth r h → kin h r ≡ r ∷ []
unborn_kin h r n = ap (λ z. kin_back z r) (sym (append-nil (reverse h))) ∙ kin_skip r (reverse h) [] (none_reverse r h n)

-- it has all keys
pub unborn_keys : (h : List Note) (r : ℕ) → HasNoBirth r h → keys_of h r ≡ all_keys
unborn_keys h r n = ap (λ z. keys_back z r) (sym (append-nil (reverse h))) ∙ keys_skip r (reverse h) [] (none_reverse r h n)

-- ---- a range that a split makes

pub smaller : (h : List Note) (p r : ℕ) → IsChild h p r → p < r
smaller h p r c = go c.half
  where
    go : (r ≡ c.low) ⊎ (r ≡ c.high) → p < r
    go (inl e) = let lt : p < c.low = c.low_above in omega arith
    go (inr e) = let lt : p < c.high = c.high_above in omega arith

module _ (h : List Note) (p r : ℕ) (c : IsChild h p r) where
  split : Note
  split = Split p c.low c.high c.key

  back : List Note
  back = reverse c.after ++ (split ∷ reverse c.before)

  reversed : reverse h ≡ back
  unfolding split back
  reversed =
      ap reverse c.is ∙ reverse-append c.before (split ∷ c.after)
      ∙ ap (λ z. z ++ reverse c.before) (reverse-append (split ∷ []) c.after)
      ∙ append_assoc (reverse c.after) (split ∷ []) (reverse c.before)

  made : ((r == c.low) || (r == c.high)) ≡ true
  made = go c.half
    where
      go : (r ≡ c.low) ⊎ (r ≡ c.high) → ((r == c.low) || (r == c.high)) ≡ true
      go (inl e) = grind (arith, nat_tests)
      go (inr e) = grind (arith, nat_tests)

  kept : ((p == c.low) || (p == c.high)) ≡ false
  kept =
      let l : p < c.low = c.low_above in
      let k : p < c.high = c.high_above in
      grind (arith, nat_tests)

  child_none : HasNoBirth r (reverse c.after)
  child_none = none_reverse r c.after c.no_child_birth

  parent_none : HasNoBirth p (reverse c.after)
  parent_none = none_reverse p c.after c.no_parent_birth

  pub child_owners : owners h r ≡ r ∷ owners h p
  unfolding split back
  child_owners =
      ap (λ z. owners_back z r) reversed ∙ owners_skip r (reverse c.after) (split ∷ reverse c.before) child_none
      ∙ ap (λ z. cond z (r ∷ owners_back (reverse c.before) p) (owners_back (reverse c.before) r)) made
      ∙ ap (λ z. r ∷ z)
      (sym (ap (λ z. owners_back z p) reversed ∙ owners_skip p (reverse c.after) (split ∷ reverse c.before) parent_none
      ∙ ap (λ z. cond z (p ∷ owners_back (reverse c.before) p) (owners_back (reverse c.before) p)) kept))

  pub child_eldest : eldest h r ≡ eldest h p
  unfolding split back
  child_eldest =
      ap (λ z. eldest_back z r) reversed ∙ eldest_skip r (reverse c.after) (split ∷ reverse c.before) child_none
      ∙ ap (λ z. cond z (eldest_back (reverse c.before) p) (eldest_back (reverse c.before) r)) made
      ∙ sym (ap (λ z. eldest_back z p) reversed ∙ eldest_skip p (reverse c.after) (split ∷ reverse c.before) parent_none
      ∙ ap (λ z. cond z (eldest_back (reverse c.before) p) (eldest_back (reverse c.before) p)) kept)

  pub child_kin : kin h r ≡ r ∷ kin h p
  unfolding split back
  child_kin =
      ap (λ z. kin_back z r) reversed ∙ kin_skip r (reverse c.after) (split ∷ reverse c.before) child_none
      ∙ ap (λ z. cond z (r ∷ kin_back (reverse c.before) p) (kin_back (reverse c.before) r)) made
      ∙ ap (λ z. r ∷ z)
      (sym (ap (λ z. kin_back z p) reversed ∙ kin_skip p (reverse c.after) (split ∷ reverse c.before) parent_none
      ∙ ap (λ z. cond z (p ∷ kin_back (reverse c.before) p) (kin_back (reverse c.before) p)) kept))

  -- the keys of the two are those of the range below and from the key on
  parent_keys : keys_of h p ≡ keys_back (reverse c.before) p
  unfolding split back
  parent_keys =
      ap (λ z. keys_back z p) reversed ∙ keys_skip p (reverse c.after) (split ∷ reverse c.before) parent_none
      ∙ neither (p == c.low) (p == c.high) kept (record { low = (keys_back (reverse c.before) p).low; high = Some c.key }) (record { low = c.key; high = (keys_back (reverse c.before) p).high })
      (keys_back (reverse c.before) p)
    where
      neither : (x y : Bool) → (x || y) ≡ false → (one two other : KeyRange) → cond x one (cond y two other) ≡ other
      neither true y e one two other = absurd cc
      neither false true e one two other = absurd cc
      neither false false e one two other = refl

  -- the key of the split
  split_keys : keys_of h r ≡ cond (r == c.low) (record { low = (keys_back (reverse c.before) p).low; high = Some c.key })
      (cond (r == c.high) (record { low = c.key; high = (keys_back (reverse c.before) p).high }) (keys_back (reverse c.before) r))
  unfolding split back
  split_keys = ap (λ z. keys_back z r) reversed ∙ keys_skip r (reverse c.after) (split ∷ reverse c.before) child_none

  pub low_keys : r ≡ c.low → keys_of h r ≡ record { low = (keys_of h p).low; high = Some c.key }
  low_keys is =
      let test : (r == c.low) ≡ true = grind (arith, nat_tests) in
      split_keys
      ∙ ap (λ z. cond z (record { low = (keys_back (reverse c.before) p).low; high = Some c.key })
      (cond (r == c.high) (record { low = c.key; high = (keys_back (reverse c.before) p).high }) (keys_back (reverse c.before) r))) test
      ∙ ap (λ (z : KeyRange). record { low = z.low; high = Some c.key }) (sym parent_keys)

  pub high_keys : r ≡ c.high → (c.high ≡ c.low → ⊥) → keys_of h r ≡ record { low = c.key; high = (keys_of h p).high }
  high_keys is apart =
      let other : (r == c.low) ≡ false = not_same r c.low (λ e. apart (sym is ∙ e)) in
      let test : (r == c.high) ≡ true = grind (arith, nat_tests) in
      split_keys
      ∙ ap (λ z. cond z (record { low = (keys_back (reverse c.before) p).low; high = Some c.key })
      (cond (r == c.high) (record { low = c.key; high = (keys_back (reverse c.before) p).high }) (keys_back (reverse c.before) r))) other
      ∙ ap (λ z. cond z (record { low = c.key; high = (keys_back (reverse c.before) p).high }) (keys_back (reverse c.before) r)) test
      ∙ ap (λ (z : KeyRange). record { low = c.key; high = z.high }) (sym parent_keys)
    where
      not_same : (m n : ℕ) → (m ≡ n → ⊥) → (m == n) ≡ false
      not_same m n other = go (m == n) refl
        where
          go : (b : Bool) → (m == n) ≡ b → b ≡ false
          go true e = absurd (let same : m ≡ n = grind (arith, nat_tests) in other same)
          go false e = refl

-- a range is the first of its owners
self_back : (h : List Note) (r : ℕ) → In r (owners_back h r)
self_back [] r = inl refl
self_back (Split b c d key ∷ h) r = go ((r == c) || (r == d)) (self_back h r)
  where
    go : (t : Bool) → In r (owners_back h r) → In r (cond t (r ∷ owners_back h b) (owners_back h r))
    go true i = inl refl
    go false i = i
self_back (Merged c d e ∷ h) r = self_back h r
self_back (Acked e o grp ∷ h) r = self_back h r
self_back (SealedAt e l ∷ h) r = self_back h r
self_back (Got x g key value ∷ h) r = self_back h r
self_back (Content e k grps ∷ h) r = self_back h r
self_back (Seen e k o bytes ∷ h) r = self_back h r
self_back (Began x g s t ∷ h) r = self_back h r
self_back (Done x g s ∷ h) r = self_back h r
self_back (Loaded x g rows next ∷ h) r = self_back h r

pub self_owner : (h : List Note) (r : ℕ) → In r (owners h r)
self_owner h r = self_back (reverse h) r
