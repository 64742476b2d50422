-- The keys that loads of a child show: those of the record that was made of them when its parent was split.
use Rattle.std.proofs.Common.{◌≡◌, ℕ, suc, ◌+◌, ◌<◌, ◌≤◌, List, [], ◌∷◌, ◌++◌, length, Some, refl, sym, ap, ◌∙◌, subst, inl, inr, arith, append_assoc, length-append}
use Rattle.std.specs.Prelude.{Contains}
use Rattle.std.proofs.lemmas.List.{map-append}
use Rattle.wire.specs.declared.rows.Row.{Row}
use Rattle.memtable.specs.declared.cell.Place.{Place}
use Rattle.commitlog.specs.Replay.{Numbered as Group}
use Rattle.metadata.specs.declared.record.KeyRange.{KeyRange}
use Rattle.metadata.specs.declared.record.MetaItem.{MetaItem}
use Rattle.metadata.specs.declared.record.MetaItem.TheVariants.{Ranges, Checkpoint, Regions, SplitStatus}
use Rattle.metadata.specs.Fold.{MetadataState, first_metadata, taken}
use Rattle.model_partition.specs.Lines.{next_after, StandsIn}
use Rattle.model_histories.specs.Log.{line_shown}
use Rattle.model_histories.specs.Story.{Placed, Made, Answered, Showed, Story, event_at, Copy, KeepsOrder, EndsRise}
use Rattle.model_histories.specs.StreamMachine.{In}
use Rattle.laws_tables.specs.Families.{HasKeys, IsNamed, NamesNoOther, LoadsAbove}
use Rattle.laws_tables.specs.Layers.{Layer}
use Rattle.laws_tables.specs.Runs.{Forms, Logged, Notes, Records, Recorded, Trims, Confirms, Run, log_of, meta_of, record_group, first_beginning, fold_of, said, IsChainRun, ShowsLayers}
use Rattle.laws_tables.specs.WholeStories.{IsServed}
use Rattle.laws_tables.proofs.Final.{first_begins, first_behind}
use Rattle.laws_tables.proofs.Lines.{ComesFrom, line_from_shown, shown_in_line, stands_within}
use Rattle.laws_tables.proofs.Loads.{one_item}
use Rattle.laws_tables.proofs.Machine.{Inv, inv_of}
use Rattle.laws_tables.proofs.Members.{contains_in, in_cases}
use Rattle.laws_tables.proofs.Range.{IsMadeAt, IsShownAt, Origin, older, newest, made_cases, answered_made, showed_made, kept_by_servers}
use Rattle.laws_tables.proofs.Replay.{numbers, member_number, found, generation_in, group_in, rules, line_is, copy_of}
use Rattle.laws_tables.proofs.Through.{answered_stands}

-- ---- items of a line behind that of a lower generation's load

module _ (A : Type 0) (story : Story (Group A)) (served : IsServed story) (order : KeepsOrder story) where
  abbrev gen : ℕ → ℕ
  gen a = generation_in A (event_at story a)

  abbrev group : ℕ → Group A
  group a = group_in A (event_at story a)

  abbrev IsMade : ℕ → Type 0
  IsMade a = (g : ℕ) × (grp : Group A) × IsMadeAt A story a g grp

  abbrev IsLoad : ℕ → Type 0
  IsLoad l = (g : ℕ) × (s : ℕ) × (e : ℕ) × (xs : List (Placed (Group A))) × IsShownAt A story l g s e xs

  -- each was made under that generation or above
  pub made_since : (l m g h s e s' e' : ℕ) (xs ys : List (Placed (Group A))) → IsShownAt A story l g s e xs → IsShownAt A story m h s' e' ys → g < h →
      (us vs : List A) (t : A) → line_shown ys ≡ us ++ t ∷ vs → length (line_shown xs) ≤ length us →
      (a : ℕ) × (g' : ℕ) × (grp : Group A) × (front : List A) × (back : List A) × IsMadeAt A story a g' grp × (g ≤ g') × (grp.items ≡ front ++ t ∷ back)
  made_since l m g h s e s' e' xs ys hl hm lt us vs t eq behind =
      let is_l : IsLoad l = (g, s, e, xs, hl) in
      let is_m : IsLoad m = (h, s', e', ys, hm) in
      let c : ComesFrom A group (numbers (Group A) (order.copies m)) us t =
      line_from_shown A group gen IsMade (λ a. found A story (gen a)) IsLoad gen (λ m. numbers (Group A) (order.copies m)) (rules A story served order) m is_m us vs t (line_is A story served order m h s' e' ys hm ∙ eq) in
      let k : (d : Copy (Group A)) × In d (order.copies m) × (d.append ≡ c.append) × (g' : ℕ) × IsMadeAt A story c.append g' d.group × (g' < gen m) × (c.append < m) =
      copy_of A story served order m c.append is_m c.is_one in
      let b : (rest : List (Copy (Group A))) × (order.copies m ≡ order.copies l ++ rest)
      × ((d : Copy (Group A)) → Contains rest d → (e ≤ d.from) × ((g' : ℕ) (grp : Group A) → event_at story d.append ≡ Some (Made g' grp) → g ≤ g')) =
      order.begins l m g h s e s' e' xs ys hl hm lt in
      let is_group : group c.append ≡ (k.0).group = ap (group_in A) k.4 in
      let items : (k.0).group.items ≡ c.front ++ t ∷ c.back = sym (ap (λ z. z.items) is_group) ∙ c.items in
      let apart : numbers (Group A) (order.copies m) ≡ numbers (Group A) (order.copies l) ++ numbers (Group A) b.0 =
      ap (numbers (Group A)) b.1 ∙ map-append (λ (d : Copy (Group A)). d.append) (order.copies l) b.0 in
      let low : g ≤ k.3 = elim (in_cases c.append (numbers (Group A) (order.copies l)) (numbers (Group A) b.0) (subst (In c.append) apart c.is_one)) as (λ z. g ≤ k.3) [
        | inl i ↦
            let st : StandsIn (line_shown xs) (group c.append) = subst (λ z. StandsIn z (group c.append)) (line_is A story served order l g s e xs hl)
            (shown_in_line A group gen IsMade (λ a. found A story (gen a)) IsLoad gen (λ m. numbers (Group A) (order.copies m)) (rules A story served order) l c.append is_l i) in
            let w : next_after (group c.append) ≤ suc (length (line_shown xs)) = stands_within (line_shown xs) (group c.append) st in
            let len : length (group c.append).items ≡ length c.front + suc (length c.back) = ap length c.items ∙ length-append c.front (t ∷ c.back) in
            let number : (group c.append).first + length c.front ≡ suc (length us) = c.number in
            absurd (omega arith)
        | inr i ↦
            let d : (d : Copy (Group A)) × In d b.0 × (d.append ≡ c.append) = member_number (Group A) c.append b.0 i in
            (b.2 d.0 (contains_in d.0 b.0 d.1)).1 k.3 (k.0).group (subst (λ z. event_at story z ≡ Some (Made k.3 (k.0).group)) (sym d.2) k.4)
      ] in
      (c.append, k.3, (k.0).group, c.front, c.back, k.4, low, items)

-- ---- what records say of keys

names_keys : (g : ℕ) (keys : KeyRange) (run : Run) → NamesNoOther g keys run → (a g' : ℕ) (group : Group MetaItem) (front back : List MetaItem) (other : KeyRange) → IsMadeAt MetaItem (meta_of run) a g' group → g ≤ g' →
    group.items ≡ front ++ Ranges other ∷ back → other ≡ keys
names_keys g keys [] names a g' group front back other h le e = absurd (cc)
names_keys g keys (Forms x new ∷ run) names a g' group front back other h le e = names_keys g keys run names a g' group front back other h le e
names_keys g keys (Logged x y from to ∷ run) names a g' group front back other h le e = names_keys g keys run names a g' group front back other h le e
names_keys g keys (Notes x ∷ run) names a g' group front back other h le e = names_keys g keys run names a g' group front back other h le e
names_keys g keys (Trims x place ∷ run) names a g' group front back other h le e = names_keys g keys run names a g' group front back other h le e
names_keys g keys (Recorded x y from to ∷ run) names a g' group front back other h le e = names_keys g keys run names a g' group front back other (answered_made MetaItem y from to (meta_of run) a g' group h) le e
names_keys g keys (Confirms x start end groups metadata_end records ∷ run) names a g' group front back other h le e =
    names_keys g keys run names a g' group front back other (showed_made MetaItem x 0 metadata_end records (meta_of run) a g' group h) le e
names_keys g keys (Records x number item ∷ run) names a g' group front back other h le e =
    elim (made_cases MetaItem x (record_group number item) (meta_of run) a g' group h) as (λ z. other ≡ keys) [
      | inl q ↦ names.0 (subst (λ z. g ≤ z) (sym q.1) le) other (sym (one_item front back item (Ranges other) (ap (λ z. z.items) q.2 ∙ e)).1)
      | inr o ↦ names_keys g keys run names.1 a g' group front back other o le e
    ]

item_keys : (m : MetadataState) (item : MetaItem) (keys : KeyRange) → m.keys ≡ keys → ((other : KeyRange) → item ≡ Ranges other → other ≡ keys) → (taken m item).keys ≡ keys
item_keys m (Ranges other) keys e h = h other refl
item_keys m (Checkpoint combine index position next) keys e h = e
item_keys m (Regions indexes regions) keys e h = e
item_keys m (SplitStatus low high key) keys e h = e

line_keys : (m : MetadataState) (keys : KeyRange) (items : List MetaItem) → m.keys ≡ keys →
    ((us vs : List MetaItem) (other : KeyRange) → items ≡ us ++ Ranges other ∷ vs → other ≡ keys) → (fold_of m items).keys ≡ keys
line_keys m keys [] e h = e
line_keys m keys (item ∷ items) e h =
    line_keys (taken m item) keys items (item_keys m item keys e (λ other q. h [] items other (ap (λ z. z ∷ items) q))) (λ us vs other q. h (item ∷ us) vs other (ap (λ z. item ∷ z) q))

pub fold-append : (m : MetadataState) (xs ys : List MetaItem) → fold_of m (xs ++ ys) ≡ fold_of (fold_of m xs) ys
fold-append m [] ys = refl
fold-append m (x ∷ xs) ys = fold-append (taken m x) xs ys

-- ---- each load of a higher generation

module _ (g : ℕ) (keys : KeyRange) (run : Run) (named : IsNamed g keys run) (names : NamesNoOther g keys run) (served : IsServed (meta_of run)) (order : KeepsOrder (meta_of run)) where
  load_keys : (l h s e : ℕ) (records : List (Placed (Group MetaItem))) → IsShownAt MetaItem (meta_of run) l h s e records → g < h → (said first_beginning (line_shown records)).keys ≡ keys
  load_keys l h s e records is lt =
      let items : List MetaItem = line_shown records in
      let st : StandsIn (line_shown records) (record_group named.number (Ranges keys)) =
      answered_stands MetaItem (meta_of run) served order l h s e named.append g named.answer named.from named.to records (record_group named.number (Ranges keys)) is named.made lt named.answered in
      let o : Origin MetaItem (meta_of run) named.append g (record_group named.number (Ranges keys)) = (kept_by_servers MetaItem (meta_of run) served).origin named.append g (record_group named.number (Ranges keys)) named.made in
      let above : suc (length (line_shown o.groups)) ≤ named.number = o.above in
      let at : suc (length st.before) ≡ named.number = st.at in
      let whole : line_shown records ≡ st.before ++ Ranges keys ∷ st.after = st.is in
      ap (λ z. (fold_of first_metadata z).keys) whole
      ∙ ap (λ (z : MetadataState). z.keys) (fold-append first_metadata st.before (Ranges keys ∷ st.after))
      ∙ line_keys (taken (fold_of first_metadata st.before) (Ranges keys)) keys st.after refl (λ us vs other q.
      let deeper : line_shown records ≡ (st.before ++ Ranges keys ∷ us) ++ Ranges other ∷ vs =
      whole ∙ ap (λ z. st.before ++ Ranges keys ∷ z) q ∙ sym (append_assoc st.before (Ranges keys ∷ us) (Ranges other ∷ vs)) in
      let len : length (st.before ++ Ranges keys ∷ us) ≡ length st.before + suc (length us) = length-append st.before (Ranges keys ∷ us) in
      let x : (a : ℕ) × (g' : ℕ) × (grp : Group MetaItem) × (front : List MetaItem) × (back : List MetaItem) × IsMadeAt MetaItem (meta_of run) a g' grp × (g ≤ g') × (grp.items ≡ front ++ Ranges other ∷ back) =
      made_since MetaItem (meta_of run) served order o.load l g h o.start o.end s e o.groups records o.is is lt (st.before ++ Ranges keys ∷ us) vs (Ranges other) deeper (omega arith) in
      names_keys g keys run names x.0 x.1 x.2 x.3 x.4 other x.5 x.6 x.7)

  -- and so each that the range's own part has
  has_keys : (own rest : Run) → LoadsAbove g own → ((l h s e : ℕ) (records : List (Placed (Group MetaItem))) → IsShownAt MetaItem (meta_of (own ++ rest)) l h s e records → IsShownAt MetaItem (meta_of run) l h s e records) → HasKeys keys own
  has_keys [] rest above up = tt
  has_keys (Forms x group ∷ own) rest above up = has_keys own rest above up
  has_keys (Logged x a from to ∷ own) rest above up = has_keys own rest above up
  has_keys (Notes x ∷ own) rest above up = has_keys own rest above up
  has_keys (Trims x place ∷ own) rest above up = has_keys own rest above up
  has_keys (Records x number item ∷ own) rest above up =
      has_keys own rest above (λ l h s e records is. up l h s e records (older (Group MetaItem) (Made x (record_group number item)) (meta_of (own ++ rest)) l (Showed h s e records) is))
  has_keys (Recorded x a from to ∷ own) rest above up = has_keys own rest above (λ l h s e records is. up l h s e records (older (Group MetaItem) (Answered a from to) (meta_of (own ++ rest)) l (Showed h s e records) is))
  has_keys (Confirms x start end groups metadata_end records ∷ own) rest above up = (
    load_keys (length (meta_of (own ++ rest))) x 0 metadata_end records
        (up (length (meta_of (own ++ rest))) x 0 metadata_end records (newest (Group MetaItem) (Showed x 0 metadata_end records) (meta_of (own ++ rest)))) above.0,
    has_keys own rest above.1 (λ l h s e shown is. up l h s e shown (older (Group MetaItem) (Showed x 0 metadata_end records) (meta_of (own ++ rest)) l (Showed h s e shown) is)),
  )

-- THE KEYS OF A CHILD: where a record of them was answered that the incarnation sent which split its parent, and none since is of
-- others, each load of a higher generation has these keys.
pub named_keys : (layer_at : Place → Layer) (rows : ℕ → List Row) (own taken : Run) (g : ℕ) (keys : KeyRange) → IsChainRun layer_at first_beginning (own ++ taken) →
    ShowsLayers layer_at first_beginning rows (own ++ taken) → KeepsOrder (log_of (own ++ taken)) → EndsRise (log_of (own ++ taken)) → KeepsOrder (meta_of (own ++ taken)) →
    IsNamed g keys (own ++ taken) → NamesNoOther g keys (own ++ taken) → LoadsAbove g own → HasKeys keys own
named_keys layer_at rows own taken g keys ok right log ends metadata named names above =
    let inv : Inv layer_at first_beginning rows log.copies (own ++ taken) =
    inv_of layer_at first_beginning rows (own ++ taken) (first_begins layer_at) ok right log ends (first_behind layer_at (log_of (own ++ taken)) log) metadata in
    has_keys g keys (own ++ taken) named names inv.metadata_served metadata own taken above (λ l h s e records is. is)
