-- An index that was written of some entries says these entries.
use Rattle.std.proofs.Common.{◌≡◌, ℕ, zero, suc, ◌*◌, ◌≤◌, List, [], ◌∷◌, ◌++◌, length, take, drop, Some, refl, sym, ap, subst, ◌∙◌, arith}
use Rattle.std.specs.List.{AllByRecursion}
use Rattle.std.proofs.lemmas.List.{length-drop, take-append-drop}
use Rattle.std.proofs.lemmas.List.Concat.{flat_map-cons}
use Rattle.memtable.specs.declared.cell.Place.{Place}
use Rattle.memtable.specs.Entries.{Entries}
use Rattle.metadata.specs.declared.record.IndexRange.{IndexRange}
use Rattle.replica.specs.Groups as groups
use Rattle.commitlog.specs.Record.{cut, piece_count}
use Rattle.commitlog.proofs.Pieces.{enough}
use Rattle.checkpoint_format.specs.declared.index.Index.{Index}
use Rattle.checkpoint_format.specs.declared.index.PageAt.{PageAt}
use Rattle.checkpoint_format.specs.Page.{entries_at, joined, page_bytes, pages_of}
use Rattle.checkpoint_format.specs.Index.{index_at, index_text, index_group}
use Rattle.checkpoint_format.proofs.Indexes.{index_again}
use Rattle.checkpoint_format.proofs.Pages.{pages_read, pages_joined}
use Rattle.checkpoint.specs.Lookup.{PageSource}
use Rattle.checkpoint.specs.Pages.{IsSourceOf, IndexContent}
use Rattle.checkpoint.specs.Contents.{AreEntries, HasEntries, IsAscending}
use Rattle.model_partition.specs.Past.{Bytes}
use Rattle.model_histories.specs.TableContents.{StandsAt}
use Rattle.laws_loads.proofs.Cells.{taken_there}
use Rattle.laws_loads.specs.MemoryLayers.{layer_in}
use Rattle.model_partition.specs.Servers.{entries_if}
use Rattle.laws_checkpoints.specs.IndexLayers.{indexed_entries, index_entries, layer_at, contents_of, PageStands, PagesStand, IsWritten, AreWritten}
use Rattle.model_histories.specs.IndexContents.{bytes_in, page_in, pages_in}

-- ---- the blocks of an index

joined_cut : (full n : ℕ) (bytes : Bytes) → length bytes ≤ full * n → groups.joined (cut full n bytes) ≡ bytes
joined_cut full zero [] small = refl
joined_cut full zero (x ∷ bytes) small = absurd (omega (arith, small))
joined_cut full (suc n) bytes small =
    ap (λ l. take full bytes ++ l) (joined_cut full n (drop full bytes) (omega (arith, small, length-drop full bytes)))
    ∙ take-append-drop full bytes

-- the blocks of an index's group are its text
pub joined_group : (index : Index) → groups.joined (index_group index) ≡ index_text index
joined_group index =
    joined_cut 65536 (piece_count (length (index_text index))) (index_text index) (enough (length (index_text index))).0

module _ (texts : ℕ → Bytes) where
  -- ---- bytes that stand at a place

  pub bytes_stand : (place : Place) (bytes : Bytes) → place.length ≡ length bytes → StandsAt (texts place.extent) place.offset bytes →
      bytes_in texts place ≡ bytes
  bytes_stand place bytes size stands =
      ap (λ n. take n (drop place.offset (texts place.extent))) size ∙ taken_there (texts place.extent) place.offset bytes stands

  -- where its group stands, its text does
  pub group_stands : (place : Place) (index : Index) → StandsAt (texts place.extent) place.offset (groups.joined (index_group index)) →
      StandsAt (texts place.extent) place.offset (index_text index)
  group_stands place index stands = subst (StandsAt (texts place.extent) place.offset) (joined_group index) stands

  -- ---- pages

  page_stands : (place : Place) (page : Entries) → PageStands texts place page → entries_at (page_bytes page) ≡ Some page →
      page_in texts place ≡ page
  page_stands place page stands read =
      ap (λ bytes. entries_if (entries_at bytes)) (bytes_stand place (page_bytes page) stands.0 stands.1) ∙ ap entries_if read

  pages_stand : (at : List PageAt) (pages : List Entries) → PagesStand texts at pages →
      AllByRecursion (λ page. entries_at (page_bytes page) ≡ Some page) pages → pages_in texts at ≡ joined pages
  pages_stand [] [] stand read = refl
  pages_stand [] (page ∷ pages) stand read = absurd stand
  pages_stand (p ∷ at) [] stand read = absurd stand
  pages_stand (p ∷ at) (page ∷ pages) stand read =
      ap (λ l. l ++ pages_in texts at) (page_stands p.place page stand.0 read.0)
      ∙ ap (λ l. page ++ l) (pages_stand at pages stand.1 read.1)
      ∙ sym (flat_map-cons (λ es. es) page pages)

  -- pages of entries, where each stands at its place, say these entries
  pub pages_say : (at : List PageAt) (entries : Entries) → AreEntries entries → PagesStand texts at (pages_of entries) → pages_in texts at ≡ entries
  pages_say at entries are stand = pages_stand at (pages_of entries) stand (pages_read entries are.ascending are.each) ∙ pages_joined entries

  -- where all that is at hand stands at its place, a page that was written is at hand with its bytes alone
  pub pages_from : (source : PageSource) → ((place : Place) (bytes : Bytes) → source place ≡ Some bytes → bytes_in texts place ≡ bytes) →
      (at : List PageAt) (pages : List Entries) → PagesStand texts at pages → IsSourceOf source at pages
  pages_from source right [] pages stand = tt
  pages_from source right (p ∷ at) [] stand = tt
  pages_from source right (p ∷ at) (page ∷ pages) stand =
      ((λ bytes here. sym (right p.place bytes here) ∙ bytes_stand p.place (page_bytes page) stand.0.0 stand.0.1), pages_from source right at pages stand.1)

  -- ---- the index

  -- the bytes of its place spell it
  pub index_read : (index : Index) (entries : Entries) (place : Place) → IsWritten texts index entries place →
      index_at (bytes_in texts place) ≡ Some index
  index_read index entries place written =
      ap index_at (bytes_stand place (index_text index) written.size written.stands) ∙ index_again index written.index_is written.has_places

  pub index_says : (index : Index) (entries : Entries) (place : Place) → IsWritten texts index entries place →
      index_entries texts place ≡ entries
  index_says index entries place written =
      ap (indexed_entries texts) (index_read index entries place written) ∙ pages_say index.pages entries written.entries_are written.pages

  pub layer_says : (index : Index) (entries : Entries) (place : Place) → IsWritten texts index entries place →
      (key : Bytes) → layer_at texts place key ≡ layer_in texts entries key
  layer_says index entries place written key = ap (λ es. layer_in texts es key) (index_says index entries place written)

  -- so what the indexes of a range say is in order, and pages can have it
  pub contents_written : (indexes : List IndexRange) → AreWritten texts indexes → AllByRecursion HasEntries (contents_of texts indexes)
  contents_written [] written = tt
  contents_written (x ∷ older) written =
      (subst AreEntries (sym (index_says written.0.0 written.0.1 x.place written.0.2)) written.0.2.entries_are, contents_written older written.1)

  pub contents_ascending : (contents : List IndexContent) → AllByRecursion HasEntries contents → AllByRecursion IsAscending contents
  contents_ascending [] all = tt
  contents_ascending (x ∷ older) all = (all.0.ascending, contents_ascending older all.1)
