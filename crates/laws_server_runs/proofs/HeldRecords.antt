-- The records of the metadata that a server holds: each is one that was formed, so that what its metadata names are indexes of such.
use Rattle.std.proofs.Common.{◌≡◌, ℕ, Bool, true, false, List, [], ◌∷◌, length, map, ◌==◌, Option, Some, None, refl, sym, ap, ◌∙◌, subst, if◌then◌else◌}
use Rattle.std.proofs.lemmas.Bool.{eqb-true}
use Rattle.memtable.specs.declared.cell.Place.{Place}
use Rattle.metadata.specs.declared.record.MetaItem.{MetaItem}
use Rattle.metadata.specs.Fold.{MetadataState, first_metadata, all_keys}
use Rattle.commitlog.specs.Replay.{Numbered}
use Rattle.model_partition.specs.Loading.{Group}
use Rattle.model_histories.specs.Log.{line_shown}
use Rattle.model_partition.specs.Past.{Bytes}
use Rattle.model_partition.specs.Range.{RangeState}
use Rattle.model_histories.specs.Renaming.{renamed_placed, renamed, decoded_record}
use Rattle.model_histories.specs.Story.{Placed, StreamEvent, Made, Answered, Showed, Story, event_at, KeepsOrder}
use Rattle.laws_loads.proofs.Renaming.{made_from, showed_from}
use Rattle.laws_loads.specs.RangeView.{RangeView, metadata_of}
use Rattle.laws_tables.proofs.Range.{newest, older}
use Rattle.laws_tables.specs.Runs as chains
use Rattle.laws_tables.specs.Runs.{Run, Serving, first_beginning, record_group, held, meta_of}
use Rattle.laws_tables.specs.Through.{OutAppend}
use Rattle.laws_server_runs.specs.NamedIndexes.{AreNamed}
use Rattle.laws_server_runs.specs.RangeInvariant.{AreCheckpoints, StreamsKept, Serves}
use Rattle.laws_server_runs.proofs.LoadedRecords.{AreItems, both_of, AreMadeOf, shown_of, IsOfRecord, made_of_records, NamesNone, keys_stay}
use Rattle.laws_server_runs.proofs.NamedIndexes.{all_named}

-- ---- the record that is out

same_out : (b : Bool) (t u : Serving) → t.record_out ≡ u.record_out → (if b then t else u).record_out ≡ u.record_out
same_out true t u same = same
same_out false t u same = refl

-- its append began with the event that the run tells of
abbrev IsBegun : Run → ℕ → OutAppend MetaItem → Type 0
IsBegun run g out = (held first_beginning run g).record_out ≡ Some out → event_at (meta_of run) out.append ≡ Some (Made g out.group)

pub record_begun : (run : Run) (g : ℕ) (out : OutAppend MetaItem) → (held first_beginning run g).record_out ≡ Some out → event_at (meta_of run) out.append ≡ Some (Made g out.group)
record_begun [] g out e = absurd cc
record_begun (chains.Forms h group ∷ run) g out e = record_begun run g out (sym (same_out (g == h) (chains.formed _ group (held first_beginning run g)) (held first_beginning run g) refl) ∙ e)
record_begun (chains.Logged h append from to ∷ run) g out e = record_begun run g out (sym (same_out (g == h) (chains.logged to (held first_beginning run g)) (held first_beginning run g) refl) ∙ e)
record_begun (chains.Notes h ∷ run) g out e = record_begun run g out (sym (same_out (g == h) (chains.noting (held first_beginning run g)) (held first_beginning run g) refl) ∙ e)
record_begun (chains.Records h number item ∷ run) g out e = go (record_begun run g out) (g == h) refl e
  where
    go : IsBegun run g out → (b : Bool) → (g == h) ≡ b → (if b then chains.recording (length (meta_of run)) (record_group number item) (held first_beginning run g) else held first_beginning run g).record_out ≡ Some out →
        event_at (Made h (record_group number item) ∷ meta_of run) out.append ≡ Some (Made g out.group)
    go more true same e =
        let is : record { append = length (meta_of run); group = record_group number item } ≡ out = cc in
        let here : event_at (Made h (record_group number item) ∷ meta_of run) (length (meta_of run)) ≡ Some (Made g (record_group number item)) =
        newest (Numbered MetaItem) (Made h (record_group number item)) (meta_of run) ∙ ap (λ n. Some (Made n (record_group number item))) (sym (eqb-true g h same)) in
        subst (λ (o : OutAppend MetaItem). event_at (Made h (record_group number item) ∷ meta_of run) o.append ≡ Some (Made g o.group)) is here
    go more false same e = older (Numbered MetaItem) (Made h (record_group number item)) (meta_of run) out.append (Made g out.group) (more e)
record_begun (chains.Recorded h append from to ∷ run) g out e = go (record_begun run g out) (g == h) e
  where
    go : IsBegun run g out → (b : Bool) → (if b then chains.recorded (held first_beginning run g) else held first_beginning run g).record_out ≡ Some out → event_at (Answered append from to ∷ meta_of run) out.append ≡ Some (Made g out.group)
    go more true e = absurd cc
    go more false e = older (Numbered MetaItem) (Answered append from to) (meta_of run) out.append (Made g out.group) (more e)
record_begun (chains.Trims h place ∷ run) g out e = record_begun run g out e
record_begun (chains.Confirms h start end groups metadata_end records ∷ run) g out e = go (record_begun run g out) (g == h) e
  where
    go : IsBegun run g out → (b : Bool) → (if b then chains.confirmed first_beginning start end groups records else held first_beginning run g).record_out ≡ Some out →
        event_at (Showed h 0 metadata_end records ∷ meta_of run) out.append ≡ Some (Made g out.group)
    go more true e = absurd cc
    go more false e = older (Numbered MetaItem) (Showed h 0 metadata_end records) (meta_of run) out.append (Made g out.group) (more e)

-- ---- the records that a server holds

same_records : (b : Bool) (t u : Serving) → t.records ≡ u.records → (if b then t else u).records ≡ u.records
same_records true t u same = same
same_records false t u same = refl

-- items of which this is so
module _ (Is : MetaItem → Type 0) where
  -- all that was formed is of such, and so is what loads show
  record AreRecords (story : Story (Numbered MetaItem)) : Type 0 where
    made : (a g : ℕ) (group : Numbered MetaItem) → event_at story a ≡ Some (Made g group) → AreItems Is group.items
    shown : (l g start end : ℕ) (groups : List (Placed (Numbered MetaItem))) → event_at story l ≡ Some (Showed g start end groups) → AreItems Is (line_shown groups)

  earlier_records : (e : StreamEvent (Numbered MetaItem)) (story : Story (Numbered MetaItem)) → AreRecords (e ∷ story) → AreRecords story
  earlier_records e story all = record {
    made = λ a g group at. all.made a g group (older (Numbered MetaItem) e story a (Made g group) at);
    shown = λ l g start end groups at. all.shown l g start end groups (older (Numbered MetaItem) e story l (Showed g start end groups) at);
  }

  records_renamed : (story : Story Group) → KeepsOrder story → AreMadeOf Is story → AreRecords (renamed decoded_record story)
  records_renamed story order made = record {
    made = λ a g group at.
        let old : (one : Group) × (event_at story a ≡ Some (Made g one)) × (decoded_record one ≡ group) = made_from decoded_record story a g group at in
        subst (λ (n : Numbered MetaItem). AreItems Is n.items) old.2 (made a g old.0 old.1);
    shown = λ l g start end groups at.
        let old : (some : List (Placed Group)) × (event_at story l ≡ Some (Showed g start end some)) × (map (renamed_placed decoded_record) some ≡ groups) = showed_from decoded_record story l g start end groups at in
        subst (λ xs. AreItems Is (line_shown xs)) old.2 (shown_of Is story order made l g start end old.0 old.1);
  }

  -- the record that is out
  out_of : (run : Run) (g : ℕ) → AreRecords (meta_of run) → (out : Option (OutAppend MetaItem)) → (held first_beginning run g).record_out ≡ out → AreItems Is (chains.items_out out)
  out_of run g all None e = tt
  out_of run g all (Some out) e = all.made out.append g out.group (record_begun run g out e)

  abbrev HeldRecords : Run → ℕ → Type 0
  HeldRecords run g = AreItems Is (held first_beginning run g).records

  as_before : (run : Run) (g h : ℕ) (t : Serving) → t.records ≡ (held first_beginning run g).records → HeldRecords run g → AreItems Is (if g == h then t else held first_beginning run g).records
  as_before run g h t same all = subst (AreItems Is) (sym (same_records (g == h) t (held first_beginning run g) same)) all

  held_records : (run : Run) (g : ℕ) → AreRecords (meta_of run) → HeldRecords run g
  held_records [] g all = tt
  held_records (chains.Forms h group ∷ run) g all = as_before run g h (chains.formed _ group (held first_beginning run g)) refl (held_records run g all)
  held_records (chains.Logged h append from to ∷ run) g all = as_before run g h (chains.logged to (held first_beginning run g)) refl (held_records run g all)
  held_records (chains.Notes h ∷ run) g all = as_before run g h (chains.noting (held first_beginning run g)) refl (held_records run g all)
  held_records (chains.Records h number item ∷ run) g all =
      as_before run g h (chains.recording (length (meta_of run)) (record_group number item) (held first_beginning run g)) refl
      (held_records run g (earlier_records (Made h (record_group number item)) (meta_of run) all))
  held_records (chains.Recorded h append from to ∷ run) g all =
      let earlier : AreRecords (meta_of run) = earlier_records (Answered append from to) (meta_of run) all in
      go (held_records run g earlier) (out_of run g earlier (held first_beginning run g).record_out refl) (g == h)
    where
      go : HeldRecords run g → AreItems Is (chains.items_out (held first_beginning run g).record_out) → (b : Bool) →
          AreItems Is (if b then chains.recorded (held first_beginning run g) else held first_beginning run g).records
      go line out true = both_of Is (held first_beginning run g).records (chains.items_out (held first_beginning run g).record_out) line out
      go line out false = line
  held_records (chains.Trims h place ∷ run) g all = held_records run g all
  held_records (chains.Confirms h start end groups metadata_end records ∷ run) g all =
      let shows : StreamEvent (Numbered MetaItem) = Showed h 0 metadata_end records in
      go (held_records run g (earlier_records shows (meta_of run) all)) (all.shown (length (meta_of run)) h 0 metadata_end records (newest (Numbered MetaItem) shows (meta_of run))) (g == h)
    where
      go : HeldRecords run g → AreItems Is (line_shown records) → (b : Bool) →
          AreItems Is (if b then chains.confirmed first_beginning start end groups records else held first_beginning run g).records
      go line shown true = shown
      go line shown false = line

  -- so are the records that the server of a generation holds
  pub held_items : (texts : ℕ → Bytes) (run : Run) (v : RangeView) (g : ℕ) → StreamsKept texts run v → KeepsOrder (metadata_of v) → AreMadeOf Is (metadata_of v) → HeldRecords run g
  held_items texts run v g streams order made = held_records run g (subst AreRecords (sym streams.metadata) (records_renamed (metadata_of v) order made))

-- the metadata of a range that is served names such indexes alone
pub named_by_server : (Holds : Place → Type 0) (texts : ℕ → Bytes) (run : Run) (v : RangeView) (r : RangeState) → StreamsKept texts run v → KeepsOrder (metadata_of v) → AreCheckpoints Holds (metadata_of v) → Serves texts run v r → AreNamed Holds r.said.indexes
named_by_server Holds texts run v r streams order records serves =
    subst (λ (m : MetadataState). AreNamed Holds m.indexes) (sym serves.matches.said)
    (all_named Holds (held first_beginning run r.load.generation).records first_metadata
    (held_items (IsOfRecord Holds) texts run v r.load.generation streams order (made_of_records Holds (metadata_of v) records)) tt)

-- where no record names keys it has those that it began with
pub keys_by_server : (texts : ℕ → Bytes) (run : Run) (v : RangeView) (r : RangeState) → StreamsKept texts run v → KeepsOrder (metadata_of v) → AreMadeOf NamesNone (metadata_of v) → Serves texts run v r → r.said.keys ≡ all_keys
keys_by_server texts run v r streams order none serves =
    ap (λ (m : MetadataState). m.keys) serves.matches.said
    ∙ keys_stay (held first_beginning run r.load.generation).records first_metadata (held_items NamesNone texts run v r.load.generation streams order none)
