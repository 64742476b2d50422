-- Metadata that names no regions, as it does without merges, leaves one region of the log to be applied. A load that finds no extent of the log begins it there.
use Rattle.std.proofs.Common.{◌≡◌, ℕ, suc, ◌+◌, List, [], ◌∷◌, length, Bool, true, false, ◌==◌, ◌&&◌, nat_lt, is_some, Option, Some, None, refl, sym, ap, ◌∙◌, subst, inl, inr, arith, if◌then◌else◌}
use Rattle.blocks.specs.Format.{◌>>=◌}
use Rattle.wire.specs.declared.streams.StreamName.{StreamName}
use Rattle.replica.specs.Groups.{Group}
use Rattle.metadata.specs.declared.record.MetaItem.{MetaItem}
use Rattle.metadata.specs.declared.record.MetaItem.TheVariants.{Ranges, Checkpoint, Regions, SplitStatus}
use Rattle.metadata.specs.declared.record.MetaRecord.{MetaRecord}
use Rattle.metadata.specs.declared.record.Region.{Region}
use Rattle.metadata.specs.Fold.{MetadataState, taken, folded}
use Rattle.metadata.specs.Reading.{group_at}
use Rattle.client.specs.Client.{ClientState}
use Rattle.model_streams.specs.StreamSystem.{StreamSystem}
use Rattle.model_partition.specs.Loading.{said_after, open_region}
use Rattle.model_histories.specs.Story.{Copy}
use Rattle.model_histories.specs.StreamActions.{ExtentRead, first_start}
use Rattle.model_histories.specs.StreamMachine as machine
use Rattle.laws_ranges.specs.Serves.{known}
use Rattle.laws_log_reads.specs.Reads.{groups_in, LeavesOneRegion, SaysOneRegion, SayOneRegion, AllSayOneRegion, HasOneRegion, IsSole, AllSealed, AllRead, WereSealed, LastStood, Nothing}

-- ---- what is said

item_sole : (m : MetadataState) (item : MetaItem) → LeavesOneRegion item → IsSole m.regions → IsSole (taken m item).regions
item_sole m (Checkpoint combine index position next) b sole = (record { start = position; end = None; next = next; keys = m.keys }, refl)
item_sole m (Ranges keys) b sole = sole
item_sole m (Regions indexes regions) b sole = absurd b
item_sole m (SplitStatus low high key) b sole = sole

folded_sole : (m : MetadataState) (r : MetaRecord) → LeavesOneRegion r.item → IsSole m.regions → (z : Bool × MetadataState) → folded m r ≡ Some z → IsSole z.1.regions
folded_sole m r b sole z e = go (nat_lt r.number m.next) e
  where
    taken_sole : (t : Bool) → (if t then Some (true, taken m r.item) else None) ≡ Some z → IsSole z.1.regions
    taken_sole true k = (let same : (true, taken m r.item) ≡ z = cc in subst (λ (y : Bool × MetadataState). IsSole y.1.regions) same (item_sole m r.item b sole))
    taken_sole false k = absurd cc

    go : (t : Bool) → (if t then Some (false, m) else if (r.number == m.next) && nat_lt (suc m.next) 18446744073709551616 then Some (true, taken m r.item) else None) ≡ Some z → IsSole z.1.regions
    go true k = (let same : (false, m) ≡ z = cc in subst (λ (y : Bool × MetadataState). IsSole y.1.regions) same sole)
    go false k = taken_sole ((r.number == m.next) && nat_lt (suc m.next) 18446744073709551616) k

-- the groups that are left leave one region
abbrev More : List Group → MetadataState → Type 0
More groups said = (m : MetadataState) → IsSole m.regions → said_after m groups ≡ Some said → IsSole said.regions

-- after some more groups
pub still_sole : (m : MetadataState) (groups : List Group) (said : MetadataState) → SayOneRegion groups → IsSole m.regions → said_after m groups ≡ Some said → IsSole said.regions
still_sole m [] said b sole e = (let same : m ≡ said = cc in subst (λ (y : MetadataState). IsSole y.regions) same sole)
still_sole m (group ∷ groups) said b sole e = read (group_at group) refl e (λ y one k. still_sole y groups said b.1 one k)
  where
    on : (r : MetaRecord) → group_at group ≡ Some r → (o : Option (Bool × MetadataState)) → folded m r ≡ o → (o >>= λ x. said_after x.1 groups) ≡ Some said → More groups said → IsSole said.regions
    on r g None f k more = absurd cc
    on r g (Some z) f k more = more z.1 (folded_sole m r (b.0 r g) sole z f) k

    read : (o : Option MetaRecord) → group_at group ≡ o → (o >>= λ r. folded m r >>= λ x. said_after x.1 groups) ≡ Some said → More groups said → IsSole said.regions
    read None g k more = absurd cc
    read (Some r) g k more = on r g (folded m r) refl k more

-- ---- what was read

copies_say : (copies : List (Copy Group)) → ((c : Copy Group) → machine.In c copies → SaysOneRegion c.group) → SayOneRegion (groups_in copies)
copies_say [] all = tt
copies_say (c ∷ copies) all = (all c (inl refl), copies_say copies (λ d there. all d (inr there)))

module _ (name : StreamName) (w : StreamSystem) (i : ℕ) (s : machine.MachineState Group) (all : HasOneRegion i s) where
  sealed_say : (from : ℕ) (reads : List ExtentRead) → AllSealed name w i s from reads → AllSayOneRegion reads
  sealed_say from [] b = tt
  sealed_say from (x ∷ older) b = (
    subst (λ gs. SayOneRegion gs) (sym b.0.same) (copies_say b.0.shut.copies (all.sealed (from + length older) b.0.shut b.0.is)),
    sealed_say from older b.1,
  )

  -- where all that stands says so, so does all that was read
  pub reads_say : (from : ℕ) (c : ClientState) (reads : List ExtentRead) → AllRead name w i s from c reads → AllSayOneRegion reads
  reads_say from c reads (WereSealed inside live count sealed) = sealed_say from reads sealed
  reads_say from c reads (LastStood inside x older found is live count checked sealed stood) =
      subst (λ rs. AllSayOneRegion rs) (sym is) (
        subst (λ gs. SayOneRegion gs) (sym stood.same) (copies_say stood.stood (all.stood (from + length older) (machine.base (from + length older) + found) stood.stood stood.fact)),
        sealed_say from older sealed,
      )
  reads_say from c reads (Nothing inside found live count checked none) = subst (λ rs. AllSayOneRegion rs) (sym none) tt

-- ---- a log without an extent

none_there : (A : Type 0) (xs : List A) → length xs ≡ 0 → xs ≡ []
none_there A [] e = refl
none_there A (x ∷ xs) e = absurd cc

module _ (name : StreamName) (w : StreamSystem) (i : ℕ) (s : machine.MachineState Group) where
  -- nothing of it was read, and it is to be read from its first extent on
  pub none_read : (from : ℕ) (c : ClientState) (reads : List ExtentRead) → known c ≡ 0 → AllRead name w i s from c reads → (from ≡ 0) × (reads ≡ [])
  none_read from c reads none (WereSealed inside live count sealed) = (omega (arith, none, count), none_there ExtentRead reads (omega (arith, none, count)))
  none_read from c reads none (LastStood inside x older found is live count checked sealed stood) = absurd (omega (arith, none, count))
  none_read from c reads none (Nothing inside found live count checked is) = (omega (arith, none, count), is)

-- the only region is the open one
pub sole_open : (regions : List Region) → IsSole regions → (region : Region) → open_region regions ≡ Some region → (first_start regions).index ≡ region.start.index
sole_open regions (only, is) region e = go only.end refl (subst (λ rs. open_region rs ≡ Some region) is e)
  where
    go : (end : Option ℕ) → only.end ≡ end → (if is_some end then None else Some only) ≡ Some region → (first_start regions).index ≡ region.start.index
    go (Some k) t f = absurd cc
    go None t f = (let same : only ≡ region = cc in ap (λ rs. (first_start rs).index) is ∙ ap (λ (z : Region). z.start.index) same)
