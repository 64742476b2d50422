-- What a load makes of the groups of the metadata is the fold of the line that they show.
use Rattle.std.proofs.Common.{◌≡◌, ℕ, zero, suc, ◌-◌, ◌<◌, List, [], ◌∷◌, ◌++◌, length, map, drop, cond, Bool, true, false, Option, Some, None, refl, sym, ap, ◌∙◌, subst, arith, nat_lt, ◌==◌}
use Rattle.std.specs.Prelude.{◌&&◌}
use Rattle.std.proofs.lemmas.List.{length-append}
use Rattle.std.proofs.lemmas.Bool.{ltb-true, eqb-true, and_parts}
use Rattle.blocks.specs.Format.{◌>>=◌}
use Rattle.metadata.specs.declared.record.MetaItem.{MetaItem}
use Rattle.metadata.specs.declared.record.MetaRecord.{MetaRecord}
use Rattle.metadata.specs.Fold.{MetadataState, taken as with_record, folded}
use Rattle.metadata.specs.Reading.{group_at}
use Rattle.commitlog.specs.Replay.{taken}
use Rattle.commitlog.specs.Replay.{replayed as replay}
use Rattle.model_partition.specs.Loading.{Group, said_after}
use Rattle.model_histories.specs.Renaming.{one_record, decoded_record}
use Rattle.laws_tables.specs.Runs.{fold_of}

-- a list without all of its items and more
drop_all : {A : Type 0} (n : ℕ) (x : A) → 0 < n → drop n (x ∷ []) ≡ []
drop_all {A} n x more = by n more
  where
    by : (k : ℕ) → 0 < k → drop k (x ∷ []) ≡ []
    by zero more = absurd (omega arith)
    by (suc zero) more = refl
    by (suc (suc k)) more = refl

fold_more : (m : MetadataState) (items : List MetaItem) (item : MetaItem) → fold_of m (items ++ item ∷ []) ≡ with_record (fold_of m items) item
fold_more m [] item = refl
fold_more m (x ∷ items) item = fold_more (with_record m x) items item

-- what the metadata says is the fold of a line, and its next number is the one after it
pub record IsFoldOf (first : MetadataState) (line : List MetaItem) (m : MetadataState) : Type 0 where
  pub says : m ≡ fold_of first line
  pub next : m.next ≡ suc (length line)

module _ (first : MetadataState) where
  -- one record that is taken or passed over
  record_folded : (line : List MetaItem) (m : MetadataState) → IsFoldOf first line m → (r : MetaRecord) (x : Bool × MetadataState) → folded m r ≡ Some x →
      IsFoldOf first (taken line (one_record (Some r))) x.1
  record_folded line m is r x e = by_old (nat_lt r.number m.next) refl
    where
      Goal : MetadataState → Type 0
      Goal said = IsFoldOf first (taken line (one_record (Some r))) said

      by_next : (b : Bool) → ((r.number == m.next) && nat_lt (suc m.next) 18446744073709551616) ≡ b → cond b (Some (true, with_record m r.item)) None ≡ Some x → Goal x.1
      by_next true t found =
          let same : r.number ≡ m.next = eqb-true r.number m.next (and_parts (r.number == m.next) _ t).0 in
          let last : (true, with_record m r.item) ≡ x = cc in
          let none : suc (length line) - r.number ≡ 0 = omega (arith, same, is.next) in
          let more : taken line (one_record (Some r)) ≡ line ++ r.item ∷ [] = ap (λ n. line ++ drop n (r.item ∷ [])) none in
          subst Goal (ap (λ (z : Bool × MetadataState). z.1) last)
          (subst (λ l. IsFoldOf first l (with_record m r.item)) (sym more)
          (record {
            says = ap (λ z. with_record z r.item) is.says ∙ sym (fold_more first line r.item);
            next = ap suc is.next ∙ ap suc (omega (arith, length-append line (r.item ∷ [])));
          }))
      by_next false t found = absurd cc

      by_old : (b : Bool) → nat_lt r.number m.next ≡ b → Goal x.1
      by_old true t =
          let less : r.number < m.next = ltb-true r.number m.next t in
          let found : cond true (Some (false, m)) (cond ((r.number == m.next) && nat_lt (suc m.next) 18446744073709551616) (Some (true, with_record m r.item)) None) ≡ Some x =
          subst (λ b. cond b (Some (false, m)) (cond ((r.number == m.next) && nat_lt (suc m.next) 18446744073709551616) (Some (true, with_record m r.item)) None) ≡ Some x) t e in
          let last : (false, m) ≡ x = cc in
          let over : taken line (one_record (Some r)) ≡ line = ap (λ l. line ++ l) (drop_all (suc (length line) - r.number) r.item (omega (arith, less, is.next))) ∙ nothing_more line in
          subst Goal (ap (λ (z : Bool × MetadataState). z.1) last) (subst (λ l. IsFoldOf first l m) (sym over) is)
        where
          nothing_more : (l : List MetaItem) → l ++ [] ≡ l
          nothing_more [] = refl
          nothing_more (y ∷ l) = ap (λ z. y ∷ z) (nothing_more l)
      by_old false t =
          by_next ((r.number == m.next) && nat_lt (suc m.next) 18446744073709551616) refl
          (subst (λ b. cond b (Some (false, m)) (cond ((r.number == m.next) && nat_lt (suc m.next) 18446744073709551616) (Some (true, with_record m r.item)) None) ≡ Some x) t e)

  -- all groups that were read, none of them damaged
  pub groups_folded : (groups : List Group) (line : List MetaItem) (m : MetadataState) → IsFoldOf first line m → (said : MetadataState) → said_after m groups ≡ Some said →
      IsFoldOf first (replay line (map decoded_record groups)) said
  groups_folded [] line m is said e = let same : m ≡ said = cc in subst (IsFoldOf first line) same is
  groups_folded (group ∷ groups) line m is said e =
      by_record
      (λ (line' : List MetaItem) (m' : MetadataState) (is' : IsFoldOf first line' m') (found : said_after m' groups ≡ Some said). groups_folded groups line' m' is' said found)
      (group_at group) refl e
    where
      More : Type 0
      More = (line' : List MetaItem) (m' : MetadataState) → IsFoldOf first line' m' → said_after m' groups ≡ Some said → IsFoldOf first (replay line' (map decoded_record groups)) said

      by_fold : More → (r : MetaRecord) → group_at group ≡ Some r → (o : Option (Bool × MetadataState)) → folded m r ≡ o → (o >>= λ x. said_after x.1 groups) ≡ Some said →
          IsFoldOf first (replay line (map decoded_record (group ∷ groups))) said
      by_fold more r g None f found = absurd cc
      by_fold more r g (Some x) f found =
          subst (λ z. IsFoldOf first (replay (taken line z) (map decoded_record groups)) said) (sym (ap one_record g))
          (more (taken line (one_record (Some r))) x.1 (record_folded line m is r x f) found)

      by_record : More → (o : Option MetaRecord) → group_at group ≡ o → (o >>= λ r. folded m r >>= λ x. said_after x.1 groups) ≡ Some said →
          IsFoldOf first (replay line (map decoded_record (group ∷ groups))) said
      by_record more None g found = absurd cc
      by_record more (Some r) g found = by_fold more r g (folded m r) refl found
