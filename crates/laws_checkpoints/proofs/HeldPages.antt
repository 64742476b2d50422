-- A look-up over pages and values that are held answers what the layers say.
use Rattle.std.proofs.Common.{◌≡◌, ℕ, Bool, true, false, cond, List, [], ◌∷◌, Option, Some, None, refl, sym, ap, subst, ◌∙◌, eqb-true}
use Rattle.std.specs.Prelude.{◌&&◌, ◌==◌}
use Rattle.memtable.specs.declared.cell.Cell.{Cell}
use Rattle.memtable.specs.declared.cell.Cell.TheVariants.{Deleted, Inline, Placed}
use Rattle.memtable.specs.declared.cell.Place.{Place}
use Rattle.memtable.specs.Entries.{Entries, found}
use Rattle.memtable.specs.Layers.{found_in}
use Rattle.metadata.specs.declared.record.IndexRange.{IndexRange}
use Rattle.checkpoint_format.specs.declared.index.Index.{Index}
use Rattle.checkpoint_format.specs.Page.{pages_of}
use Rattle.checkpoint_format.specs.Index.{index_at}
use Rattle.checkpoint.specs.declared.installed_index.InstalledIndex.{InstalledIndex}
use Rattle.checkpoint.specs.declared.page_lookup.Lookup.{Lookup as Indexed}
use Rattle.checkpoint.specs.declared.page_lookup.Lookup.TheVariants.{Found, Absent, Need}
use Rattle.checkpoint.specs.Lookup.{looked_up}
use Rattle.checkpoint.specs.Pages.{AreFiled, IsIndexOf, cell_in}
use Rattle.checkpoint.specs.Contents.{AreEntries, IsContentOf, AreContentsOf, IsAnswerFor, shown}
use Rattle.checkpoint.proofs.Finding.{lookup_law}
use Rattle.checkpoint.proofs.Orders.{and_true}
use Rattle.model_partition.specs.Getting.{Held, held_at, or_needs, value_in as held_value, indexed_value, look, standing}
use Rattle.model_partition.specs.Past.{Bytes}
use Rattle.model_partition.specs.PlaceReads.{is_place}
use Rattle.model_histories.specs.TableContents.{value_in}
use Rattle.laws_tables.specs.Layers.{over, flat, indexed}
use Rattle.laws_tables.proofs.Layers.{pick}
use Rattle.laws_checkpoints.specs.IndexLayers.{indexed_entries, index_entries, layer_at, content_of, contents_of, IsWritten}
use Rattle.model_histories.specs.IndexContents.{bytes_in}
use Rattle.laws_checkpoints.specs.ShownTables.{IsInstalled, AreInstalled, IsSearchable, AreSearchable, AreWrittenByKey, HoldsBytes, IsIndexAnswer, IsAnswer, LookupSaysLayers, LookSaysLayers, GetSaysLayers}
use Rattle.laws_checkpoints.proofs.Checkpoints.{known_of, known_first, contents_say}
use Rattle.laws_checkpoints.proofs.WrittenIndexes.{index_read, pages_say, pages_from}

-- ---- places

pub same_place : (a b : Place) → is_place a b ≡ true → a ≡ b
same_place a b e =
    let extents = and_true (a.extent == b.extent) ((a.offset == b.offset) && (a.length == b.length)) e in
    let others = and_true (a.offset == b.offset) (a.length == b.length) extents.1 in
    let extent : a.extent ≡ b.extent = eqb-true a.extent b.extent extents.0 in
    let offset : a.offset ≡ b.offset = eqb-true a.offset b.offset others.0 in
    let length : a.length ≡ b.length = eqb-true a.length b.length others.1 in
    (λ i. record { extent = extent i; offset = offset i; length = length i })

module _ (texts : ℕ → Bytes) where
  -- ---- what is installed of what was written

  index_searchable : (x : InstalledIndex) (named : IndexRange) (index : Index) (entries : Entries) → IsInstalled texts x named → IsWritten texts index entries named.place →
      AreFiled index.pages (pages_of entries) → IsSearchable texts x.index
  index_searchable x named index entries is written filed =
      let read : Some index ≡ Some x.index =
      sym (index_read texts index entries named.place written) ∙ ap (λ (p : Place). index_at (bytes_in texts p)) (sym is.place) ∙ is.index in
      let same : index ≡ x.index = cc in
      subst (IsSearchable texts) same (entries, written.entries_are, written.pages, filed)

  -- installed indexes that were written by key can be searched
  pub installed_searchable : (xs : List InstalledIndex) (named : List IndexRange) → AreInstalled texts xs named → AreWrittenByKey texts named → AreSearchable texts xs
  installed_searchable [] named are written = tt
  installed_searchable (x ∷ xs) [] are written = absurd are
  installed_searchable (x ∷ xs) (y ∷ named) are ((index, entries, written, filed), others) =
      (index_searchable x y index entries are.0 written filed, installed_searchable xs named are.1 others)

  -- ---- what is held

  pub held_rightly : (held : Held) (place : Place) (bytes : Bytes) → HoldsBytes texts held → held_at held place ≡ Some bytes → bytes_in texts place ≡ bytes
  held_rightly [] place bytes right is = absurd cc
  held_rightly (x ∷ held) place bytes right is = by (is_place place x.0) refl is (λ later. held_rightly held place bytes right.1 later)
    where
      by : (b : Bool) → is_place place x.0 ≡ b → cond b (Some x.1) (held_at held place) ≡ Some bytes →
          (held_at held place ≡ Some bytes → bytes_in texts place ≡ bytes) → bytes_in texts place ≡ bytes
      by true at e more =
          let same : x.1 ≡ bytes = cc in
          ap (bytes_in texts) (same_place place x.0 at) ∙ sym right.0 ∙ same
      by false at e more = more e

  module _ (held : Held) (right : HoldsBytes texts held) where
    -- ---- what is installed

    content_is : (x : InstalledIndex) (named : IndexRange) → IsInstalled texts x named → IsSearchable texts x.index → IsContentOf (held_at held) x (content_of texts named)
    content_is x named is (entries, are, stand, filed) =
        let says : entries ≡ index_entries texts named.place =
        sym (pages_say texts x.index.pages entries are stand) ∙ sym (ap (indexed_entries texts) is.index) ∙ ap (index_entries texts) is.place in
        let own : IsIndexOf (held_at held) x.index entries =
        record { filed = filed; source_is = pages_from texts (held_at held) (λ place bytes at. held_rightly held place bytes right at) x.index.pages (pages_of entries) stand } in
        record { keys = is.keys; entries = subst AreEntries says are; index = subst (IsIndexOf (held_at held) x.index) says own }

    contents_are : (xs : List InstalledIndex) (named : List IndexRange) → AreInstalled texts xs named → AreSearchable texts xs →
        AreContentsOf (held_at held) xs (contents_of texts named)
    contents_are [] [] are searchable = tt
    contents_are [] (y ∷ named) are searchable = absurd are
    contents_are (x ∷ xs) [] are searchable = absurd are
    contents_are (x ∷ xs) (y ∷ named) are searchable = (content_is x y are.0 searchable.0, contents_are xs named are.1 searchable.1)

    -- ---- answers

    answer_known : (cell : Option Cell) (known : Option (Option Bytes)) (answer : Indexed) → known_of texts cell ≡ known → IsAnswerFor (held_at held) (shown cell) answer →
        IsIndexAnswer texts held known answer
    answer_known None known (Found other) e is = absurd cc
    answer_known (Some Deleted) known (Found other) e is = absurd cc
    answer_known (Some (Inline value)) known (Found other) e is = sym e ∙ ap (known_of texts) is
    answer_known (Some (Placed place)) known (Found other) e is = sym e ∙ ap (known_of texts) is
    answer_known None known Absent e is = ap flat (sym e)
    answer_known (Some Deleted) known Absent e is = ap flat (sym e)
    answer_known (Some (Inline value)) known Absent e is = absurd cc
    answer_known (Some (Placed place)) known Absent e is = absurd cc
    answer_known cell known (Need place) e is = is

    cell_answer : (cell : Cell) → IsAnswer texts held (value_in texts cell) (held_value held cell)
    cell_answer Deleted = refl
    cell_answer (Inline value) = refl
    cell_answer (Placed place) = by (held_at held place) refl
      where
        by : (o : Option Bytes) → held_at held place ≡ o → IsAnswer texts held (Some (bytes_in texts place)) (or_needs place o)
        by None at = at
        by (Some bytes) at = ap Some (sym (held_rightly held place bytes right at))

    index_answer : (known : Option (Option Bytes)) (answer : Indexed) → IsIndexAnswer texts held known answer → IsAnswer texts held (flat known) (indexed_value held answer)
    index_answer known (Found cell) is = subst (λ k. IsAnswer texts held (flat k) (held_value held cell)) (sym is) (cell_answer cell)
    index_answer known Absent is = sym is
    index_answer known (Need place) is = is

  -- ---- the laws

  pub lookup_says_layers : LookupSaysLayers texts
  lookup_says_layers held installed named key right are searchable =
      answer_known held right (cell_in (contents_of texts named) key) (indexed (layer_at texts) named key) (looked_up (held_at held) installed key)
      (contents_say texts named key) (lookup_law (held_at held) installed (contents_of texts named) key (contents_are held right installed named are searchable))

  pub look_says_layers : LookSaysLayers texts
  look_says_layers held installed named memory key None right are searchable is =
      subst (λ k. IsAnswer texts held (flat (pick k (indexed (layer_at texts) named key))) (look held installed key None)) is
      (index_answer held right (indexed (layer_at texts) named key) (looked_up (held_at held) installed key)
      (lookup_says_layers held installed named key right are searchable))
  look_says_layers held installed named memory key (Some cell) right are searchable is =
      subst (λ k. IsAnswer texts held (flat (pick k (indexed (layer_at texts) named key))) (held_value held cell)) is (cell_answer held right cell)

  pick_both : (a b c : Option (Option Bytes)) → pick (pick a b) c ≡ pick a (pick b c)
  pick_both None b c = refl
  pick_both (Some value) b c = refl

  pub get_says_layers : GetSaysLayers texts
  get_says_layers r named live fixed key right are searchable newer older =
      let memory : known_of texts (standing r key) ≡ pick (live key) (fixed key) =
      known_first texts (found r.live key) (found_in r.fixed key)
      ∙ ap (λ k. pick k (known_of texts (found_in r.fixed key))) newer ∙ ap (pick (live key)) older in
      subst (λ k. IsAnswer texts r.held (flat k) (look r.held r.indexes key (standing r key))) (pick_both (live key) (fixed key) (indexed (layer_at texts) named key))
      (look_says_layers r.held r.indexes named (over live fixed) key (standing r key) right are searchable memory)
