-- What a load shows of metadata: items of the records that were formed. Those of checkpoints and of splits, and those that name keys
-- which the range had, leave one region without end.
use Rattle.std.proofs.Common.{◌≡◌, ◌⊎◌, inl, inr, ℕ, zero, suc, ◌-◌, Bool, List, [], ◌∷◌, ◌++◌, map, drop, Some, nat_lt, refl, sym, ◌∙◌, subst}
use Rattle.std.specs.Prelude.{Contains}
use Rattle.std.specs.List.{AllByRecursion}
use Rattle.streams.specs.declared.table.Position.{Position}
use Rattle.memtable.specs.declared.cell.Place.{Place}
use Rattle.metadata.specs.declared.record.KeyRange.{KeyRange}
use Rattle.metadata.specs.declared.record.MetaItem.{MetaItem}
use Rattle.metadata.specs.declared.record.MetaItem.TheVariants.{Ranges, Regions, SplitStatus, Checkpoint}
use Rattle.metadata.specs.Fold.{MetadataState, taken}
use Rattle.metadata.specs.Record.{IsPosition}
use Rattle.commitlog.specs.Replay.{Numbered, next_of}
use Rattle.commitlog.specs.Replay.{replayed as replay}
use Rattle.model_streams.proofs.Tests.{if_elim}
use Rattle.model_partition.specs.Loading.{Group}
use Rattle.model_histories.specs.Log.{line_shown}
use Rattle.model_histories.specs.Renaming.{renamed_placed, decoded_record}
use Rattle.model_histories.specs.Story.{Placed, Made, Showed, Story, event_at, Copy, placed, from_place, KeepsOrder}
use Rattle.laws_tables.specs.NarrowKeys.{Narrows, AllNarrow}
use Rattle.laws_tables.specs.Runs.{fold_of}
use Rattle.laws_server_runs.specs.RangeInvariant.{IsRecord, AreCheckpoints}
use Rattle.laws_server_runs.proofs.OneRegion.{KeepsOneRegion, AllKeepOneRegion}
use Rattle.laws_server_runs.proofs.Order.{first_there, later_there}

-- ---- items

-- each of which this is so
module _ (Is : MetaItem → Type 0) where
  abbrev pub AreItems : List MetaItem → Type 0
  AreItems items = AllByRecursion Is items

  left_of : (n : ℕ) (items : List MetaItem) → AreItems items → AreItems (drop n items)
  left_of zero items all = all
  left_of (suc n) [] all = tt
  left_of (suc n) (item ∷ items) all = left_of n items all.1

  pub both_of : (xs ys : List MetaItem) → AreItems xs → AreItems ys → AreItems (xs ++ ys)
  both_of [] ys a b = b
  both_of (x ∷ xs) ys a b = (a.0, both_of xs ys a.1 b)

  -- groups of such items
  abbrev GroupsOf : List (Numbered MetaItem) → Type 0
  GroupsOf groups = AllByRecursion (λ group. AreItems group.items) groups

  replay_of : (groups : List (Numbered MetaItem)) (line : List MetaItem) → AreItems line → GroupsOf groups → AreItems (replay line groups)
  replay_of [] line all each = all
  replay_of (group ∷ groups) line all each = replay_of groups _ (both_of line _ all (left_of (next_of line - group.first) group.items each.0)) each.1

  -- ---- what a load shows

  -- each group that was formed spells such items
  abbrev pub AreMadeOf : Story Group → Type 0
  AreMadeOf story = (a g : ℕ) (group : Group) → event_at story a ≡ Some (Made g group) → AreItems (decoded_record group).items

  abbrev Shown : List (Copy Group) → Type 0
  Shown cs = GroupsOf (map (λ p. p.group) (map (renamed_placed decoded_record) (map placed cs)))

  all_shown : (cs : List (Copy Group)) → ((c : Copy Group) → Contains cs c → AreItems (decoded_record c.group).items) → Shown cs
  all_shown [] all = tt
  all_shown (c ∷ cs) all = (all c (first_there c cs), all_shown cs (λ d there. all d (later_there c d cs there)))

  from_shown : (start : ℕ) (cs : List (Copy Group)) → ((c : Copy Group) → Contains cs c → AreItems (decoded_record c.group).items) → Shown (from_place start cs)
  from_shown start [] all = tt
  from_shown start (c ∷ cs) all =
      if_elim Shown (nat_lt c.from start) (from_place start cs) (c ∷ cs) (λ t. from_shown start cs (λ d there. all d (later_there c d cs there))) (λ f. all_shown (c ∷ cs) all)

  -- all that was formed is of such items, and so is what a load shows
  pub shown_of : (story : Story Group) → KeepsOrder story → AreMadeOf story → (l g start end : ℕ) (groups : List (Placed Group)) → event_at story l ≡ Some (Showed g start end groups) →
      AreItems (line_shown (map (renamed_placed decoded_record) groups))
  shown_of story k made l g start end groups at =
      replay_of (map (λ p. p.group) (map (renamed_placed decoded_record) groups)) [] tt
      (subst (λ (xs : List (Placed Group)). GroupsOf (map (λ p. p.group) (map (renamed_placed decoded_record) xs))) (sym (k.shown l g start end groups at))
      (from_shown start (k.copies l) (λ c there. let h = k.handed l g start end groups c at there in made c.append h.0 c.group h.1)))

-- ---- items that name no keys

abbrev pub NamesNone : MetaItem → Type 0
NamesNone item = (keys : KeyRange) → item ≡ Ranges keys → ⊥

keys_after : (m : MetadataState) (item : MetaItem) → NamesNone item → (taken m item).keys ≡ m.keys
keys_after m (Ranges keys) none = absurd (none keys refl)
keys_after m (Checkpoint combine index position next) none = refl
keys_after m (Regions indexes regions) none = refl
keys_after m (SplitStatus low high key) none = refl

-- the keys stay
pub keys_stay : (items : List MetaItem) (m : MetadataState) → AreItems NamesNone items → (fold_of m items).keys ≡ m.keys
keys_stay [] m all = refl
keys_stay (item ∷ items) m all = keys_stay items (taken m item) all.1 ∙ keys_after m item all.0

-- ---- items of records

-- that of a split's record
pub record IsOfSplit (item : MetaItem) : Type 0 where
  pub low : ℕ
  pub high : ℕ
  pub key : List ℕ
  pub is : item ≡ SplitStatus low high key

-- that of a record which names keys
pub record IsOfKeys (item : MetaItem) : Type 0 where
  pub keys : KeyRange
  pub is : item ≡ Ranges keys

-- the places of whose indexes this is so
module _ (Holds : Place → Type 0) where
  -- that of a checkpoint's record, at a position
  pub record IsOfCheckpoint (item : MetaItem) : Type 0 where
    pub combine : Bool
    pub index : Place
    pub position : Position
    pub next : ℕ
    pub is : item ≡ Checkpoint combine index position next
    pub fits : IsPosition position
    pub holds : Holds index

  abbrev pub IsOfRecord : MetaItem → Type 0
  IsOfRecord item = IsOfCheckpoint item ⊎ (IsOfSplit item ⊎ IsOfKeys item)

  abbrev pub AreOfRecords : List MetaItem → Type 0
  AreOfRecords items = AreItems IsOfRecord items

  item_there : (group : Group) → IsRecord Holds group → AreOfRecords (decoded_record group).items
  item_there group (inl r) = subst (λ (n : Numbered MetaItem). AreOfRecords n.items) (sym r.spells) (inl (record { combine = r.combine; index = r.index; position = r.position; next = r.next; is = refl; fits = r.fits; holds = r.holds }), tt)
  item_there group (inr (inl r)) = subst (λ (n : Numbered MetaItem). AreOfRecords n.items) (sym r.spells) (inr (inl (record { low = r.low; high = r.high; key = r.key; is = refl })), tt)
  item_there group (inr (inr r)) = subst (λ (n : Numbered MetaItem). AreOfRecords n.items) (sym r.spells) (inr (inr (record { keys = r.keys; is = refl })), tt)

  pub made_of_records : (story : Story Group) → AreCheckpoints Holds story → AreMadeOf IsOfRecord story
  made_of_records story records a g group at = item_there group (records a g group at)

  -- ---- what they say

  region_kept : (m : MetadataState) (item : MetaItem) → IsOfRecord item → Narrows m item → KeepsOneRegion m item
  region_kept m item (inl c) narrow = subst (KeepsOneRegion m) (sym c.is) c.fits
  region_kept m item (inr (inl s)) narrow = subst (KeepsOneRegion m) (sym s.is) tt
  region_kept m item (inr (inr k)) narrow = subst (KeepsOneRegion m) (sym k.is) (subst (Narrows m) k.is narrow)

  -- where none gives the range keys that it had not
  pub regions_kept : (items : List MetaItem) (m : MetadataState) → AreOfRecords items → AllNarrow m items → AllKeepOneRegion m items
  regions_kept [] m all narrow = tt
  regions_kept (item ∷ items) m all narrow = (region_kept m item all.0 narrow.0, regions_kept items (taken m item) all.1 narrow.1)
