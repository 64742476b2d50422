-- The law of the first range: where no record narrows its keys, what is observed of its servers replays.
use Rattle.std.proofs.Common.{◌≡◌, ℕ, suc, ◌<◌, List, [], ◌∷◌, ◌++◌, length, map, cond, Option, Some, None, refl, sym, ap, ◌∙◌, subst, ⊎_elim, arith, eqb}
use Rattle.wire.specs.declared.note.Note.{Note}
use Rattle.wire.specs.declared.note.Note.TheVariants.{Loaded}
use Rattle.wire.specs.declared.rows.Row.{Row}
use Rattle.memtable.specs.declared.cell.Place.{Place}
use Rattle.commitlog.specs.Replay.{Numbered as Group}
use Rattle.metadata.specs.declared.record.KeyRange.{KeyRange}
use Rattle.metadata.specs.declared.record.MetaItem.{MetaItem}
use Rattle.metadata.specs.declared.record.MetaItem.TheVariants.{Ranges, Checkpoint, Regions, SplitStatus}
use Rattle.metadata.specs.Fold.{MetadataState, all_keys, taken}
use Rattle.model_histories.specs.Log.{line_shown, begins_of, dones_at}
use Rattle.model_partition.specs.Past.{Transaction, empty_table, after_line, kept, Replays, table_notes, first_range}
use Rattle.model_histories.specs.Story.{Placed, StreamEvent, Made, Answered, Showed, event_at, Copy, placed, KeepsOrder, EndsRise, whole}
use Rattle.laws_tables.specs.Ends.{StandsBehind}
use Rattle.laws_tables.specs.Families.{HasKeys}
use Rattle.laws_tables.specs.Layers.{Layer}
use Rattle.laws_tables.specs.Runs.{Event, Forms, Logged, Notes, Records, Recorded, Trims, Confirms, Run, log_of, record_group, meta_of, Beginning, first_beginning, IsBeginning, fold_of, ShownLoad, said, next_loaded, shown_at, seen, IsChainRun, ShowsLayers, KeepsKeys}
use Rattle.laws_tables.specs.WholeStories.{IsServed, observed}
use Rattle.laws_tables.proofs.Holds.{LogStory, MetadataStory}
use Rattle.laws_tables.proofs.Layers.{kept_all}
use Rattle.laws_tables.proofs.Loads.{ItemFrom, item_from, one_item}
use Rattle.laws_tables.proofs.Machine.{Inv, inv_of}
use Rattle.laws_tables.proofs.Others.{with_others}
use Rattle.laws_tables.proofs.Range.{IsMadeAt, IsShownAt, older, newest, bound, eq_test, ne_test, made_cases, made_shown, answered_made, answered_shown, showed_made, shown_cases}
use Rattle.laws_tables.proofs.Theorem.{replays}
use Rattle.laws_tables.proofs.Whole.{whole_at, as_whole, whole_length, back_shown, whole_order, order_before}

-- ---- what is observed

-- what is observed of a story whose loads show this
abbrev observed_as : (ℕ → ShownLoad) → LogStory → List Note
observed_as loads [] = []
observed_as loads (Made g group ∷ earlier) = observed_as loads earlier ++ begins_of first_range g group.first group.items
observed_as loads (Answered a from to ∷ earlier) = observed_as loads earlier ++ dones_at first_range (event_at earlier a)
observed_as loads (Showed g start end groups ∷ earlier) = observed_as loads earlier ++ Loaded first_range g (loads (length earlier)).rows (loads (length earlier)).next ∷ []

observed_same : (loads others : ℕ → ShownLoad) (story : LogStory) → ((n : ℕ) → n < length story → loads n ≡ others n) → observed_as loads story ≡ observed_as others story
observed_same loads others [] h = refl
observed_same loads others (Made g group ∷ earlier) h = ap (λ z. z ++ begins_of first_range g group.first group.items) (observed_same loads others earlier (λ n lt. h n (omega arith)))
observed_same loads others (Answered a from to ∷ earlier) h = ap (λ z. z ++ dones_at first_range (event_at earlier a)) (observed_same loads others earlier (λ n lt. h n (omega arith)))
observed_same loads others (Showed g start end groups ∷ earlier) h =
    let r : loads (length earlier) ≡ others (length earlier) = h (length earlier) (omega arith) in
    let t : observed_as loads earlier ≡ observed_as others earlier = observed_same loads others earlier (λ n lt. h n (omega arith)) in
    ap (λ z. z ++ Loaded first_range g (loads (length earlier)).rows (loads (length earlier)).next ∷ []) t ∙ ap (λ (z : ShownLoad). observed_as others earlier ++ Loaded first_range g z.rows z.next ∷ []) r

-- where each load shows the number after its line
observed_is : (loads : ℕ → ShownLoad) (story : LogStory) →
    ((l g s e : ℕ) (xs : List (Placed (Group Transaction))) → IsShownAt Transaction story l g s e xs → (loads l).next ≡ suc (length (line_shown xs))) →
    observed_as loads story ≡ observed first_range (λ n. (loads n).rows) story
observed_is loads [] h = refl
observed_is loads (Made g group ∷ earlier) h =
    ap (λ z. z ++ begins_of first_range g group.first group.items) (observed_is loads earlier (λ l k s e xs is. h l k s e xs (older (Group Transaction) (Made g group) earlier l (Showed k s e xs) is)))
observed_is loads (Answered a from to ∷ earlier) h =
    ap (λ z. z ++ dones_at first_range (event_at earlier a)) (observed_is loads earlier (λ l k s e xs is. h l k s e xs (older (Group Transaction) (Answered a from to) earlier l (Showed k s e xs) is)))
observed_is loads (Showed g start end groups ∷ earlier) h =
    let load : StreamEvent (Group Transaction) = Showed g start end groups in
    let rows : List Row = (loads (length earlier)).rows in
    let next : (loads (length earlier)).next ≡ suc (length (line_shown groups)) = h (length earlier) g start end groups (newest (Group Transaction) load earlier) in
    ap (λ z. z ++ Loaded first_range g rows (loads (length earlier)).next ∷ []) (observed_is loads earlier (λ l k s e xs is. h l k s e xs (older (Group Transaction) load earlier l (Showed k s e xs) is)))
    ∙ ap (λ z. observed first_range (λ n. (loads n).rows) earlier ++ Loaded first_range g rows z ∷ []) next

dones_whole : (copies : List (Copy (Group Transaction))) (o : Option (StreamEvent (Group Transaction))) → dones_at first_range (as_whole (Group Transaction) copies o) ≡ dones_at first_range o
dones_whole copies None = refl
dones_whole copies (Some (Made g group)) = refl
dones_whole copies (Some (Answered a from to)) = refl
dones_whole copies (Some (Showed g start end groups)) = refl

seen_is : (b : Beginning) (rows : ℕ → List Row) (cs : ℕ → List (Copy (Group Transaction))) (run : Run) →
    seen b rows first_range run ≡ observed_as (shown_at b rows run) (whole (Group Transaction) cs (log_of run))
seen_is b rows cs [] = refl
seen_is b rows cs (Forms g group ∷ run) = ap (λ z. z ++ begins_of first_range g group.first group.items) (seen_is b rows cs run)
seen_is b rows cs (Logged g a from to ∷ run) =
    ap (λ z. z ++ dones_at first_range (event_at (log_of run) a)) (seen_is b rows cs run)
    ∙ ap (λ z. observed_as (shown_at b rows run) (whole (Group Transaction) cs (log_of run)) ++ z)
    (sym (ap (dones_at first_range) (whole_at (Group Transaction) cs (log_of run) a) ∙ dones_whole (cs a) (event_at (log_of run) a)))
seen_is b rows cs (Notes g ∷ run) = seen_is b rows cs run
seen_is b rows cs (Records g number item ∷ run) = seen_is b rows cs run
seen_is b rows cs (Recorded g a from to ∷ run) = seen_is b rows cs run
seen_is b rows cs (Trims g place ∷ run) = seen_is b rows cs run
seen_is b rows cs (Confirms g start end groups metadata_end records ∷ run) =
    let V : LogStory = whole (Group Transaction) cs (log_of run) in
    let len : length V ≡ length (log_of run) = whole_length (Group Transaction) cs (log_of run) in
    let at : ℕ → ShownLoad = λ n. record { rows = rows n; keys = (said b (line_shown records)).keys; next = next_loaded b groups records } in
    let mine : ShownLoad = at (length (log_of run)) in
    let now : ℕ → ShownLoad = λ n. cond (eqb n (length (log_of run))) (at n) (shown_at b rows run n) in
    let here : now (length V) ≡ mine = ap now len ∙ ap (λ t. cond t mine (shown_at b rows run (length (log_of run)))) (eq_test Event (length (log_of run))) in
    let same : observed_as (shown_at b rows run) V ≡ observed_as now V = observed_same (shown_at b rows run) now V (λ n lt.
    sym (ap (λ t. cond t (at n) (shown_at b rows run n)) (ne_test Event n (length (log_of run)) (λ (q : n ≡ length (log_of run)). omega arith)))) in
    ap (λ z. z ++ Loaded first_range g (rows (length (log_of run))) (next_loaded b groups records) ∷ []) (seen_is b rows cs run ∙ same)
    ∙ ap (λ (z : ShownLoad). observed_as now V ++ Loaded first_range g z.rows z.next ∷ []) (sym here)

-- ---- keys

abbrev IsNoRange : MetaItem → Type 0
IsNoRange item = (keys : KeyRange) → item ≡ Ranges keys → ⊥

item_keeps : (m : MetadataState) (item : MetaItem) → IsNoRange item → (taken m item).keys ≡ m.keys
item_keeps m (Ranges keys) h = absurd (h keys refl)
item_keeps m (Checkpoint combine index position next) h = refl
item_keeps m (Regions indexes regions) h = refl
item_keeps m (SplitStatus low high key) h = refl

line_keeps : (m : MetadataState) (items before after : List MetaItem) → items ≡ before ++ after → ((us vs : List MetaItem) (item : MetaItem) → items ≡ us ++ item ∷ vs → IsNoRange item) → (fold_of m after).keys ≡ m.keys
line_keeps m items before [] e h = refl
line_keeps m items before (item ∷ after) e h =
    line_keeps (taken m item) items (before ++ item ∷ []) after (e ∙ split before) h ∙ item_keeps m item (h before after item e)
  where
    split : (xs : List MetaItem) → xs ++ item ∷ after ≡ (xs ++ item ∷ []) ++ after
    split [] = refl
    split (x ∷ xs) = ap (λ z. x ∷ z) (split xs)

-- each record that was made narrows nothing
made_keeps : (run : Run) → KeepsKeys run → (a g : ℕ) (group : Group MetaItem) (front back : List MetaItem) (item : MetaItem) → IsMadeAt MetaItem (meta_of run) a g group → group.items ≡ front ++ item ∷ back → IsNoRange item
made_keeps [] keeps a g group front back item h e = absurd (cc)
made_keeps (Forms g' x ∷ run) keeps a g group front back item h e = made_keeps run keeps a g group front back item h e
made_keeps (Logged g' x from to ∷ run) keeps a g group front back item h e = made_keeps run keeps a g group front back item h e
made_keeps (Notes g' ∷ run) keeps a g group front back item h e = made_keeps run keeps a g group front back item h e
made_keeps (Records g' number new ∷ run) keeps a g group front back item h e =
    ⊎_elim {C = IsNoRange item}
    (λ (q : (a ≡ length (meta_of run)) × (g' ≡ g) × (record_group number new ≡ group)).
    let one : (front ≡ []) × (item ≡ new) = one_item front back new item (ap (λ z. z.items) q.2 ∙ e) in
    subst IsNoRange (sym one.1) keeps.0)
    (λ o. made_keeps run keeps.1 a g group front back item o e)
    (made_cases MetaItem g' (record_group number new) (meta_of run) a g group h)
made_keeps (Recorded g' x from to ∷ run) keeps a g group front back item h e = made_keeps run keeps a g group front back item (answered_made MetaItem x from to (meta_of run) a g group h) e
made_keeps (Trims g' place ∷ run) keeps a g group front back item h e = made_keeps run keeps a g group front back item h e
made_keeps (Confirms g' start end groups metadata_end records ∷ run) keeps a g group front back item h e =
    made_keeps run keeps a g group front back item (showed_made MetaItem g' 0 metadata_end records (meta_of run) a g group h) e

-- so a load has the keys that the chain begins with
load_keys : (b : Beginning) (run : Run) (g metadata_end : ℕ) (records : List (Placed (Group MetaItem))) → KeepsKeys run → IsServed (Showed g 0 metadata_end records ∷ meta_of run) →
    KeepsOrder (Showed g 0 metadata_end records ∷ meta_of run) → (said b (line_shown records)).keys ≡ b.metadata.keys
load_keys b run g metadata_end records keeps served order =
    let load : StreamEvent (Group MetaItem) = Showed g 0 metadata_end records in
    let story : MetadataStory = Showed g 0 metadata_end records ∷ meta_of run in
    let items : List MetaItem = line_shown records in
    line_keeps b.metadata items [] items refl (λ us vs item eq.
    let f : ItemFrom MetaItem story served order (length (meta_of run)) g us item = item_from MetaItem story served order (length (meta_of run)) g 0 metadata_end records (newest (Group MetaItem) load (meta_of run)) us vs item eq in
    made_keeps run keeps f.append f.generation f.of f.front f.back item (showed_made MetaItem g 0 metadata_end records (meta_of run) f.append f.generation f.of f.made) f.items)

keys_kept : (b : Beginning) (rows : ℕ → List Row) (run : Run) → KeepsKeys run → IsServed (meta_of run) → KeepsOrder (meta_of run) → (l g s e : ℕ) (xs : List (Placed (Group Transaction))) →
    IsShownAt Transaction (log_of run) l g s e xs → (shown_at b rows run l).keys ≡ b.metadata.keys
keys_kept b rows [] keeps served order l g s e xs h = absurd (cc)
keys_kept b rows (Forms g' x ∷ run) keeps served order l g s e xs h = keys_kept b rows run keeps served order l g s e xs (made_shown Transaction g' x (log_of run) l g s e xs h)
keys_kept b rows (Logged g' a from to ∷ run) keeps served order l g s e xs h = keys_kept b rows run keeps served order l g s e xs (answered_shown Transaction a from to (log_of run) l g s e xs h)
keys_kept b rows (Notes g' ∷ run) keeps served order l g s e xs h = keys_kept b rows run keeps served order l g s e xs h
keys_kept b rows (Records g' number item ∷ run) keeps served order l g s e xs h =
    keys_kept b rows run keeps.1 served.1 (order_before (Group MetaItem) (Made g' (record_group number item)) (meta_of run) order) l g s e xs h
keys_kept b rows (Recorded g' a from to ∷ run) keeps served order l g s e xs h = keys_kept b rows run keeps served.1 (order_before (Group MetaItem) (Answered a from to) (meta_of run) order) l g s e xs h
keys_kept b rows (Trims g' place ∷ run) keeps served order l g s e xs h = keys_kept b rows run keeps served order l g s e xs h
keys_kept b rows (Confirms g' start end groups metadata_end records ∷ run) keeps served order l g s e xs h =
    let load : StreamEvent (Group MetaItem) = Showed g' 0 metadata_end records in
    let n : ℕ = length (log_of run) in
    let mine : ShownLoad = record { rows = rows l; keys = (said b (line_shown records)).keys; next = next_loaded b groups records } in
    ⊎_elim {C = (cond (eqb l n) mine (shown_at b rows run l)).keys ≡ b.metadata.keys}
    (λ (q : (l ≡ n) × (g' ≡ g) × (groups ≡ xs)).
    let at : cond (eqb l n) mine (shown_at b rows run l) ≡ mine = ap (λ z. cond (eqb z n) mine (shown_at b rows run l)) q.0 ∙ ap (λ t. cond t mine (shown_at b rows run l)) (eq_test Event n) in
    ap (λ (z : ShownLoad). z.keys) at ∙ load_keys b run g' metadata_end records keeps served order)
    (λ (o : IsShownAt Transaction (log_of run) l g s e xs).
    let low : l < n = bound (Group Transaction) (log_of run) l (Showed g s e xs) o in
    let at : cond (eqb l n) mine (shown_at b rows run l) ≡ shown_at b rows run l = ap (λ t. cond t mine (shown_at b rows run l)) (ne_test Event l n (λ (q : l ≡ n). omega arith)) in
    ap (λ (z : ShownLoad). z.keys) at ∙ keys_kept b rows run keeps served.1 (order_before (Group MetaItem) load (meta_of run) order) l g s e xs o)
    (shown_cases Transaction g' start end groups (log_of run) l g s e xs h)

-- and so each that the first range has
all_loads : (run : Run) → KeepsKeys run → IsServed (meta_of run) → KeepsOrder (meta_of run) → HasKeys all_keys run
all_loads [] keeps served order = tt
all_loads (Forms g x ∷ run) keeps served order = all_loads run keeps served order
all_loads (Logged g a from to ∷ run) keeps served order = all_loads run keeps served order
all_loads (Notes g ∷ run) keeps served order = all_loads run keeps served order
all_loads (Records g number item ∷ run) keeps served order = all_loads run keeps.1 served.1 (order_before (Group MetaItem) (Made g (record_group number item)) (meta_of run) order)
all_loads (Recorded g a from to ∷ run) keeps served order = all_loads run keeps served.1 (order_before (Group MetaItem) (Answered a from to) (meta_of run) order)
all_loads (Trims g place ∷ run) keeps served order = all_loads run keeps served order
all_loads (Confirms g start end groups metadata_end records ∷ run) keeps served order = (
  load_keys first_beginning run g metadata_end records keeps served order,
  all_loads run keeps served.1 (order_before (Group MetaItem) (Showed g 0 metadata_end records) (meta_of run) order),
)

-- ---- the law

module _ (layer_at : Place → Layer) where
  pub first_begins : IsBeginning layer_at first_beginning
  first_begins = record { place = refl; next = refl; table = λ key w. refl }

  pub first_behind : (story : LogStory) (order : KeepsOrder story) → StandsBehind 0 story order
  first_behind story order = record { copies = λ l c i. omega arith; ends = λ l g start end groups h. omega arith }

  pub first_range_replays : (rows : ℕ → List Row) (run : Run) → IsChainRun layer_at first_beginning run → KeepsKeys run → ShowsLayers layer_at first_beginning rows run →
      KeepsOrder (log_of run) → EndsRise (log_of run) → KeepsOrder (meta_of run) → Replays (seen first_beginning rows first_range run)
  first_range_replays rows run ok keeps right order ends metadata_order =
      let inv : Inv layer_at first_beginning rows order.copies run = inv_of layer_at first_beginning rows run first_begins ok right order ends (first_behind (log_of run) order) metadata_order in
      let is : seen first_beginning rows first_range run ≡ observed first_range (λ n. (shown_at first_beginning rows run n).rows) (whole (Group Transaction) order.copies (log_of run)) =
      seen_is first_beginning rows order.copies run ∙ observed_is (shown_at first_beginning rows run) (whole (Group Transaction) order.copies (log_of run)) (λ l g s e xs h. (inv.shows l g s e xs h).number) in
      subst Replays (sym is)
      (replays (λ n. (shown_at first_beginning rows run n).rows) (whole (Group Transaction) order.copies (log_of run))
      (λ l g s e xs h key.
      let shown : (s' : ℕ) × (xs' : List (Placed (Group Transaction))) × (event_at (log_of run) l ≡ Some (Showed g s' e xs')) × (s ≡ 0) × (xs ≡ map placed (order.copies l)) = back_shown (Group Transaction) order.copies (log_of run) l g s e xs h in
      let keys : (shown_at first_beginning rows run l).keys ≡ all_keys = keys_kept first_beginning rows run keeps inv.metadata_served metadata_order l g shown.0 e shown.1 shown.2 in
      (inv.shows l g s e xs h).table key ∙ ap (λ z. kept z (after_line (line_shown xs) empty_table) key) keys ∙ kept_all (after_line (line_shown xs) empty_table) key)
      inv.served (whole_order (Group Transaction) (log_of run) order))

  -- its loads have all keys
  pub first_keys : (rows : ℕ → List Row) (run : Run) → IsChainRun layer_at first_beginning run → KeepsKeys run → ShowsLayers layer_at first_beginning rows run →
      KeepsOrder (log_of run) → EndsRise (log_of run) → KeepsOrder (meta_of run) → HasKeys all_keys run
  first_keys rows run ok keeps right order ends metadata_order =
      let inv : Inv layer_at first_beginning rows order.copies run = inv_of layer_at first_beginning rows run first_begins ok right order ends (first_behind (log_of run) order) metadata_order in
      all_loads run keeps inv.metadata_served metadata_order

  -- observations of extents may stand between those of tables
  pub tables_of_first_range_replay : (rows : ℕ → List Row) (run : Run) (h : List Note) → IsChainRun layer_at first_beginning run → KeepsKeys run → ShowsLayers layer_at first_beginning rows run →
      KeepsOrder (log_of run) → EndsRise (log_of run) → KeepsOrder (meta_of run) → table_notes h ≡ seen first_beginning rows first_range run → Replays h
  tables_of_first_range_replay rows run h ok keeps right order ends metadata_order same = with_others h (subst Replays (sym same) (first_range_replays rows run ok keeps right order ends metadata_order))
