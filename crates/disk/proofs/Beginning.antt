-- A crash while a file of records is made and gets its first record.
use Rattle.std.proofs.Common.{◌≡◌, subst, inl, inr, ⊎_elim, ◌⊎◌, ℕ, List, [], Result, Ok, Err, MatchResult, arith}
use Rattle.block_types.specs.declared.record.Record.{Record}
use Rattle.block_types.specs.declared.record.Version.{Version}
use Rattle.disk.specs.Disk.{DiskState, CountsNow, LeavesOnly}
use Rattle.disk.specs.File.{IsBeforeOrAfter, HasNoRecord, HoldsAtMost}

pub widened : (old new : DiskState) (P Q : List ℕ → Type 0) → ((c : List ℕ) → P c → Q c) → LeavesOnly old new P → LeavesOnly old new Q
widened old new P Q more leaves = record {
  later = leaves.later;
  each = λ c left. more c (leaves.each c left);
  before = λ t c le left. ⊎_elim (λ was. inl was) (λ now. inr (more c now)) (leaves.before t c le left);
}

matched : {A B : Type 0} {P R : A → Type 0} {Q S : B → Type 0} (result : Result A B) → MatchResult result P Q → ((x : A) → P x → R x) → ((y : B) → Q y → S y) → MatchResult result R S
matched (Ok x) is ok err = ok x is
matched (Err y) is ok err = err y is

goes_over : (was mid new : DiskState) (P Q : List ℕ → Type 0) → CountsNow mid → LeavesOnly was mid P →
    LeavesOnly mid new (λ c. mid.may_leave c ⊎ Q c) → LeavesOnly was new (λ c. P c ⊎ Q c)
goes_over was mid new P Q counts first second =
    let before : (c : List ℕ) → mid.may_leave c ⊎ Q c → P c ⊎ Q c =
    λ c. ⊎_elim (λ left. inl (first.each c (counts was.moment c first.later left))) (λ is. inr is) in
    record {
      later = omega (arith, first.later, second.later);
      each = λ c left. ⊎_elim (λ earlier. inl (first.each c earlier)) (before c) (second.before was.moment c first.later left);
      before = λ t c le left. ⊎_elim
          (λ earlier. ⊎_elim (λ was. inl was) (λ now. inr (inl now)) (first.before t c le earlier))
          (λ now. inr (before c now))
          (second.before t c (omega (arith, le, first.later)) left);
    }

-- what a crash leaves from before a file was made until it has its first record, or that was refused
pub begins : {A B : Type 0} (was mid : DiskState) (v w : Version) (rs : List Record) (r : Record) (result : Result A B) (of : A → DiskState) (back : B → DiskState) →
    CountsNow mid → LeavesOnly was mid HasNoRecord → v ≡ w → rs ≡ [] →
    MatchResult result (λ made. LeavesOnly mid (of made) (λ c. mid.may_leave c ⊎ IsBeforeOrAfter v rs r c)) (λ refused. LeavesOnly mid (back refused) (λ c. mid.may_leave c ⊎ IsBeforeOrAfter v rs r c)) →
    MatchResult result (λ made. LeavesOnly was (of made) (HoldsAtMost w r)) (λ refused. LeavesOnly was (back refused) (HoldsAtMost w r))
begins was mid v w rs r result of back counts first version none second =
    let holds : (c : List ℕ) → HasNoRecord c ⊎ IsBeforeOrAfter v rs r c → HoldsAtMost w r c =
    λ c is. subst (λ u. HoldsAtMost u r c) version (subst (λ l. HasNoRecord c ⊎ IsBeforeOrAfter v l r c) none is) in
    matched result second
    (λ made leaves. widened was (of made) _ _ holds (goes_over was mid (of made) HasNoRecord (IsBeforeOrAfter v rs r) counts first leaves))
    (λ refused leaves. widened was (back refused) _ _ holds (goes_over was mid (back refused) HasNoRecord (IsBeforeOrAfter v rs r) counts first leaves))

-- where no file was made
pub unmade : (old new : DiskState) (v : Version) (r : Record) → LeavesOnly old new HasNoRecord → LeavesOnly old new (HoldsAtMost v r)
unmade old new v r leaves = widened old new HasNoRecord _ (λ c is. inl is) leaves
