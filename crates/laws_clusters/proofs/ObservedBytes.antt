-- What servers saw of extents was observed, and so each loaded table is seen as what its entries say.
use Rattle.std.proofs.Common.{◌≡◌, ℕ, zero, suc, ◌+◌, ◌-◌, ◌≤◌, List, [], ◌∷◌, ◌++◌, length, map, take, drop, Bool, true, false, ◌&&◌, ◌==◌, nat_le, Some, None, Contains, refl, sym, ap, ◌∙◌, subst, inl, inr, arith, if◌then◌else◌, append_assoc, append-nil}
use Rattle.std.proofs.lemmas.Bool.Decides.{nat_tests}
use Rattle.std.proofs.lemmas.List.Elements.{Contains-append_left}
use Rattle.wire.specs.declared.note.Note.{Note}
use Rattle.wire.specs.declared.note.Note.TheVariants.{Acked, Content, Seen}
use Rattle.memtable.specs.declared.cell.Cell.TheVariants.{Deleted, Inline, Placed}
use Rattle.memtable.specs.declared.cell.Place.{Place}
use Rattle.memtable.specs.Entries.{Entries, put_all}
use Rattle.replica.specs.Groups.{Group, joined, text}
use Rattle.model_partition.specs.declared.table_note.TableNote.{TableNote}
use Rattle.model_partition.specs.declared.table_note.TableNote.TheVariants as tables
use Rattle.model_partition.specs.Past.{Bytes, stored}
use Rattle.model_partition.specs.Servers.{told, noted, rows_in, rows_of, entries_shown_in, page_shown, index_shown, part, shown_in}
use Rattle.model_partition.specs.declared.shown_table.ShownTable.{ShownTable}
use Rattle.model_histories.specs.IndexContents.{page_in, pages_in, index_in, entries_in}
use Rattle.checkpoint.specs.declared.installed_index.InstalledIndex.{InstalledIndex}
use Rattle.checkpoint.specs.Pages.{IndexContent, kept_within, merged}
use Rattle.checkpoint_format.specs.declared.index.PageAt.{PageAt}
use Rattle.metadata.specs.declared.record.KeyRange.{KeyRange}
use Rattle.std.specs.List.{flat_map}
use Rattle.std.proofs.lemmas.List.Concat.{flat_map-cons}
use Rattle.model_histories.specs.StreamActions.{PlacedBytes}
use Rattle.model_histories.specs.ServedTables.{AllStand, IsSeenAs, AreSeenAs}
use Rattle.model_histories.specs.TableContents.{StandsAt, TellsRightly, AllTellRightly, table_in}
use Rattle.laws_loads.proofs.Rows.{Ordered, ordered_put, IsCovered, first_rightly, AreShown, rows_say}
use Rattle.laws_server_runs.specs.Places.{IsWithin, AreWithin, PagesWithin, IndexesWithin, TableLaid, TablesWithin}
use Rattle.laws_clusters.proofs.ServerNotes.{server_notes, served-append}
use Rattle.laws_clusters.proofs.ShownBytes.{all_tell}

-- ---- bytes that were observed

-- some observation shows these bytes where they stand
pub data IsObserved (notes : List Note) (p : PlacedBytes) : Type 0 where
  AsContent : (node : ℕ) (groups : List Group) (there : Contains notes (Content p.extent node groups)) (from : p.offset ≡ 0) (bytes : p.bytes ≡ text groups) → IsObserved notes p
  AsSeen : (node : ℕ) (there : Contains notes (Seen p.extent node p.offset p.bytes)) → IsObserved notes p
  AsAcked : (group : Group) (there : Contains notes (Acked p.extent p.offset group)) (bytes : p.bytes ≡ joined group) → IsObserved notes p

abbrev pub AreObserved : List Note → List PlacedBytes → Type 0
AreObserved notes [] = Unit {0}
AreObserved notes (p ∷ placed) = IsObserved notes p × AreObserved notes placed

abbrev pub Keeps : List Note → List Note → Type 0
Keeps notes more = (note : Note) → Contains notes note → Contains more note

observed_one : (notes more : List Note) → Keeps notes more → (p : PlacedBytes) → IsObserved notes p → IsObserved more p
observed_one notes more keeps p (AsContent node groups there from bytes) = AsContent node groups (keeps (Content p.extent node groups) there) from bytes
observed_one notes more keeps p (AsSeen node there) = AsSeen node (keeps (Seen p.extent node p.offset p.bytes) there)
observed_one notes more keeps p (AsAcked group there bytes) = AsAcked group (keeps (Acked p.extent p.offset group) there) bytes

-- observations stay
pub observed_on : (notes more : List Note) → Keeps notes more → (placed : List PlacedBytes) → AreObserved notes placed → AreObserved more placed
observed_on notes more keeps [] are = tt
observed_on notes more keeps (p ∷ placed) are = (observed_one notes more keeps p are.0, observed_on notes more keeps placed are.1)

pub observed_both : (notes : List Note) (xs ys : List PlacedBytes) → AreObserved notes xs → AreObserved notes ys → AreObserved notes (xs ++ ys)
observed_both notes [] ys a b = b
observed_both notes (x ∷ xs) ys a b = (a.0, observed_both notes xs ys a.1 b)

-- ---- a place that observed bytes cover

within : (offset : ℕ) (bytes : Bytes) (place : Place) → offset ≤ place.offset → place.offset + place.length ≤ offset + length bytes → (value : Bytes) × (part offset bytes place ≡ Some value)
within offset bytes place low high = go (nat_le offset place.offset) (nat_le (place.offset + place.length) (offset + length bytes)) (is_low offset place.offset low) (is_low (place.offset + place.length) (offset + length bytes) high)
  where
    is_low : (a b : ℕ) → a ≤ b → nat_le a b ≡ true
    is_low a b le = grind (arith, nat_tests)

    go : (a b : Bool) → a ≡ true → b ≡ true → (value : Bytes) × ((if a && b then Some (take place.length (drop (place.offset - offset) bytes)) else None) ≡ Some value)
    go true true s t = (take place.length (drop (place.offset - offset) bytes), refl)
    go true false s t = absurd cc
    go false b s t = absurd cc

there_is : (e offset : ℕ) (bytes : Bytes) (place : Place) → place.extent ≡ e → offset ≤ place.offset → place.offset + place.length ≤ offset + length bytes →
    (value : Bytes) × ((if e == place.extent then part offset bytes place else None) ≡ Some value)
there_is e offset bytes place same low high = go (e == place.extent) (is_same place.extent e same)
  where
    is_same : (a b : ℕ) → a ≡ b → (b == a) ≡ true
    is_same a b eq = grind (arith, nat_tests)

    go : (b : Bool) → b ≡ true → (value : Bytes) × ((if b then part offset bytes place else None) ≡ Some value)
    go true t = within offset bytes place low high
    go false t = absurd cc

module _ (texts : ℕ → Bytes) where
  -- ---- lists of observations

  -- one of them
  tells_of : (notes : List Note) (note : Note) → AllTellRightly texts notes → Contains notes note → TellsRightly texts note
  tells_of [] note all (k, l, e) = absurd (omega (arith, l))
  tells_of (n ∷ notes) note all (zero, l, e) = subst (λ z. TellsRightly texts z) e all.0
  tells_of (n ∷ notes) note all (suc k, l, e) = tells_of notes note all.1 (k, omega (arith, l), e)

  covered_of : (notes : List Note) (note : Note) (place : Place) → Contains notes note → (value : Bytes) × (shown_in note place ≡ Some value) → IsCovered texts notes place
  covered_of [] note place (k, l, e) shows = absurd (omega (arith, l))
  covered_of (n ∷ notes) note place (zero, l, e) shows = inl (subst (λ z. (value : Bytes) × (shown_in z place ≡ Some value)) (sym e) shows)
  covered_of (n ∷ notes) note place (suc k, l, e) shows = inr (covered_of notes note place (k, omega (arith, l), e) shows)

  front_tells : (notes more : List Note) → AllTellRightly texts (notes ++ more) → AllTellRightly texts notes
  front_tells [] more all = tt
  front_tells (n ∷ notes) more all = (all.0, front_tells notes more all.1)

  -- what tells rightly of more tells rightly of less
  pub tells_fewer : (notes more : List Note) → Keeps notes more → AllTellRightly texts more → AllTellRightly texts notes
  tells_fewer notes more keeps all = all_tell texts notes (λ note there. tells_of more note all (keeps note there))

  -- what was seen before servers showed this
  pub before_tells : (seen : List Note) (shown : List TableNote) → AllTellRightly texts (noted seen shown) → AllTellRightly texts seen
  before_tells seen [] all = all
  before_tells seen (n ∷ shown) all = front_tells seen (told seen n ∷ []) (before_tells (seen ++ told seen n ∷ []) shown all)

  -- ---- bytes that were observed

  stands_one : (notes : List Note) (p : PlacedBytes) → AllTellRightly texts notes → IsObserved notes p → StandsAt (texts p.extent) p.offset p.bytes
  stands_one notes p all (AsContent node groups there from bytes) =
      subst (λ n. StandsAt (texts p.extent) n p.bytes) (sym from)
      (subst (λ b. StandsAt (texts p.extent) 0 b) (sym bytes) (tells_of notes (Content p.extent node groups) all there))
  stands_one notes p all (AsSeen node there) = tells_of notes (Seen p.extent node p.offset p.bytes) all there
  stands_one notes p all (AsAcked group there bytes) =
      subst (λ b. StandsAt (texts p.extent) p.offset b) (sym bytes) (tells_of notes (Acked p.extent p.offset group) all there)

  -- they stand in the texts that have all that was observed
  pub observed_stand : (notes : List Note) (placed : List PlacedBytes) → AllTellRightly texts notes → AreObserved notes placed → AllStand texts placed
  observed_stand notes [] all are = tt
  observed_stand notes (p ∷ placed) all are = (stands_one notes p all are.0, observed_stand notes placed all are.1)

  covered_one : (notes : List Note) (p : PlacedBytes) (place : Place) → IsObserved notes p → place.extent ≡ p.extent → p.offset ≤ place.offset → place.offset + place.length ≤ p.offset + length p.bytes →
      IsCovered texts notes place
  covered_one notes p place (AsContent node groups there from bytes) same low high =
      covered_of notes (Content p.extent node groups) place there
      (there_is p.extent 0 (text groups) place same (omega arith)
      (subst (λ b. place.offset + place.length ≤ 0 + length b) bytes (subst (λ n. place.offset + place.length ≤ n + length p.bytes) from high)))
  covered_one notes p place (AsAcked group there bytes) same low high =
      covered_of notes (Acked p.extent p.offset group) place there
      (there_is p.extent p.offset (joined group) place same low (subst (λ b. place.offset + place.length ≤ p.offset + length b) bytes high))
  covered_one notes p place (AsSeen node there) same low high = covered_of notes (Seen p.extent node p.offset p.bytes) place there (there_is p.extent p.offset p.bytes place same low high)

  covered : (notes : List Note) (placed : List PlacedBytes) (place : Place) → AreObserved notes placed → IsWithin placed place → IsCovered texts notes place
  covered notes [] place are inside = absurd inside
  covered notes (p ∷ placed) place are (inl inside) = covered_one notes p place are.0 inside.extent inside.low inside.high
  covered notes (p ∷ placed) place are (inr inside) = covered notes placed place are.1 inside

  are_shown : (notes : List Note) (placed : List PlacedBytes) (es : Entries) → AllTellRightly texts notes → AreObserved notes placed → AreWithin placed es → AreShown texts notes es
  are_shown notes placed [] all are inside = tt
  are_shown notes placed ((key, Deleted) ∷ es) all are inside = are_shown notes placed es all are inside.1
  are_shown notes placed ((key, Inline value) ∷ es) all are inside = are_shown notes placed es all are inside.1
  are_shown notes placed ((key, Placed place) ∷ es) all are inside =
      (first_rightly texts notes place all (covered notes placed place are inside.0), are_shown notes placed es all are inside.1)

  -- ---- what servers show

  seen_more : (shown : List TableNote) (notes : List Note) (n : TableNote) (note : Note) → AreSeenAs texts shown notes → IsSeenAs texts n note → AreSeenAs texts (shown ++ n ∷ []) (notes ++ note ∷ [])
  seen_more [] [] n note are is = (is, tt)
  seen_more [] (x ∷ notes) n note are is = absurd are
  seen_more (s ∷ shown) [] n note are is = absurd are
  seen_more (s ∷ shown) (x ∷ notes) n note are is = (are.0, seen_more shown notes n note are.1 is)

  -- ---- loaded tables

  -- a page that observed bytes cover is shown as it stands
  page_seen : (notes : List Note) (placed : List PlacedBytes) (p : PageAt) → AllTellRightly texts notes → AreObserved notes placed → IsWithin placed p.place → page_shown notes p ≡ page_in texts p.place
  page_seen notes placed p all are inside = ap entries_shown_in (first_rightly texts notes p.place all (covered notes placed p.place are inside))

  pages_seen : (notes : List Note) (placed : List PlacedBytes) (pages : List PageAt) → AllTellRightly texts notes → AreObserved notes placed → PagesWithin placed pages → flat_map (page_shown notes) pages ≡ pages_in texts pages
  pages_seen notes placed [] all are inside = refl
  pages_seen notes placed (p ∷ pages) all are inside =
      flat_map-cons (page_shown notes) p pages
      ∙ ap (λ l. l ++ flat_map (page_shown notes) pages) (page_seen notes placed p all are inside.0)
      ∙ ap (λ l. page_in texts p.place ++ l) (pages_seen notes placed pages all are inside.1)

  indexes_seen : (notes : List Note) (placed : List PlacedBytes) (xs : List InstalledIndex) → AllTellRightly texts notes → AreObserved notes placed → IndexesWithin placed xs → map (index_shown notes) xs ≡ map (index_in texts) xs
  indexes_seen notes placed [] all are inside = refl
  indexes_seen notes placed (x ∷ xs) all are inside =
      ap (λ (es : Entries). record { keys = x.keys; entries = es } ∷ map (index_shown notes) xs) (pages_seen notes placed x.index.pages all are inside.0)
      ∙ ap (λ (cs : List IndexContent). index_in texts x ∷ cs) (indexes_seen notes placed xs all are inside.1)

  ordered_merged : (keys : KeyRange) (contents : List IndexContent) → Ordered (merged keys contents)
  ordered_merged keys [] = tt
  ordered_merged keys (x ∷ older) = ordered_put (merged keys older) (kept_within x.keys keys x.entries) (ordered_merged keys older)

  -- its rows are the table of the memory table over its indexes
  table_seen : (notes : List Note) (placed : List PlacedBytes) (table : ShownTable) → AllTellRightly texts notes → AreObserved notes placed → TableLaid texts placed table → (key : Bytes) →
      stored (rows_of notes table) key ≡ table_in texts (entries_in texts table) key
  table_seen notes placed table all are laid key =
      ap (λ (cs : List IndexContent). stored (rows_in notes (put_all (merged table.keys cs) table.live)) key) (indexes_seen notes placed table.indexes all are laid.pages)
      ∙ rows_say texts notes (entries_in texts table) (ordered_put (merged table.keys (map (index_in texts) table.indexes)) table.live (ordered_merged table.keys (map (index_in texts) table.indexes)))
      (are_shown notes placed (entries_in texts table) all are laid.entries) key

  -- what is so of all loaded tables is so of the later ones
  pub tables_behind : (placed : ℕ → List PlacedBytes) (before shown : List TableNote) → TablesWithin texts placed (before ++ shown) → TablesWithin texts placed shown
  tables_behind placed [] shown laid = laid
  tables_behind placed (tables.Began range generation number changes ∷ before) shown laid = tables_behind placed before shown laid
  tables_behind placed (tables.Done range generation number ∷ before) shown laid = tables_behind placed before shown laid
  tables_behind placed (tables.Got range generation key value ∷ before) shown laid = tables_behind placed before shown laid
  tables_behind placed (tables.Loaded range generation table next ∷ before) shown laid = tables_behind placed before shown laid.1

  seen_now : (seen : List Note) (placed : ℕ → List PlacedBytes) (n : TableNote) → AllTellRightly texts seen → ((range : ℕ) → AreObserved seen (placed range)) → TablesWithin texts placed (n ∷ []) → IsSeenAs texts n (told seen n)
  seen_now seen placed (tables.Began range generation number changes) all are laid = refl
  seen_now seen placed (tables.Done range generation number) all are laid = refl
  seen_now seen placed (tables.Got range generation key value) all are laid = refl
  seen_now seen placed (tables.Loaded range generation table next) all are laid = (rows_of seen table, refl, table_seen seen (placed range) table all (are range) laid.0)

  table_told : (seen : List Note) (n : TableNote) → server_notes (seen ++ told seen n ∷ []) ≡ server_notes seen ++ told seen n ∷ []
  table_told seen (tables.Began range generation number changes) = served-append seen _
  table_told seen (tables.Done range generation number) = served-append seen _
  table_told seen (tables.Got range generation key value) = served-append seen _
  table_told seen (tables.Loaded range generation table next) = served-append seen _

  tables_first : (placed : ℕ → List PlacedBytes) (n : TableNote) (shown : List TableNote) → TablesWithin texts placed (n ∷ shown) → TablesWithin texts placed (n ∷ []) × TablesWithin texts placed shown
  tables_first placed (tables.Began range generation number changes) shown laid = (tt, laid)
  tables_first placed (tables.Done range generation number) shown laid = (tt, laid)
  tables_first placed (tables.Got range generation key value) shown laid = (tt, laid)
  tables_first placed (tables.Loaded range generation table next) shown laid = ((laid.0, tt), laid.1)

  kept_first : (seen : List Note) (note : Note) → Keeps seen (seen ++ note ∷ [])
  kept_first seen note x there = Contains-append_left seen (note ∷ []) x there

  -- what servers show is seen, behind what was seen before, where their loaded tables point at bytes that were observed
  pub seen_all : (before shown : List TableNote) (seen : List Note) (placed : ℕ → List PlacedBytes) → AllTellRightly texts (noted seen shown) → ((range : ℕ) → AreObserved seen (placed range)) → TablesWithin texts placed shown →
      AreSeenAs texts before (server_notes seen) → AreSeenAs texts (before ++ shown) (server_notes (noted seen shown))
  seen_all before [] seen placed all are laid old = subst (λ l. AreSeenAs texts l (server_notes seen)) (sym (append-nil before)) old
  seen_all before (n ∷ shown) seen placed all are laid old =
      let note : Note = told seen n in
      let right : AllTellRightly texts seen = before_tells seen (n ∷ shown) all in
      let parts = tables_first placed n shown laid in
      let one : AreSeenAs texts (before ++ n ∷ []) (server_notes (seen ++ note ∷ [])) =
      subst (λ l. AreSeenAs texts (before ++ n ∷ []) l) (sym (table_told seen n)) (seen_more before (server_notes seen) n note old (seen_now seen placed n right are parts.0)) in
      subst (λ l. AreSeenAs texts l (server_notes (noted seen (n ∷ shown)))) (append_assoc before (n ∷ []) shown)
      (seen_all (before ++ n ∷ []) shown (seen ++ note ∷ []) placed all (λ range. observed_on seen (seen ++ note ∷ []) (kept_first seen note) (placed range) (are range)) parts.1 one)
