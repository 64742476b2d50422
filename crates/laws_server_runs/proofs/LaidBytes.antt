-- What stands of a range within what was shown and answered: it stays there as more is, and so do the values of a group that was
-- appended, and the pages of one.
use Rattle.std.proofs.Common.{◌≡◌, ◌⊎◌, ℕ, ◌+◌, ◌≤◌, List, [], ◌∷◌, ◌++◌, length, Option, Some, None, refl, sym, ap, subst, inl, inr, arith}
use Rattle.std.specs.Prelude.{flat_map}
use Rattle.memtable.specs.declared.cell.Place.{Place}
use Rattle.memtable.specs.Entries.{Entries}
use Rattle.replica.specs.Groups.{joined}
use Rattle.checkpoint_format.specs.declared.index.PageAt.{PageAt}
use Rattle.checkpoint_format.specs.declared.page.Page.{Page}
use Rattle.checkpoint.specs.PageGroups.{page_group, placed_pages}
use Rattle.client.specs.Client.{ClientState}
use Rattle.commitlog.specs.declared.log_record.LogRecord.{LogRecord}
use Rattle.commitlog.specs.Places.{kept}
use Rattle.commitlog.specs.Record.{spelling, transaction_values}
use Rattle.commitlog.specs.Record as record_specs
use Rattle.commitlog.proofs.Measures.{size-spelling}
use Rattle.wire.specs.declared.streams.StreamKind.TheVariants as kinds
use Rattle.model_partition.specs.CheckpointStates.{CheckpointState}
use Rattle.model_partition.specs.Servers.{entries_if}
use Rattle.model_histories.specs.StreamActions.{PlacedBytes, StreamAction, Reads, Forms, Stands, Shows, Finds, Stores}
use Rattle.model_histories.specs.ServerRun.{bytes_read}
use Rattle.laws_loads.proofs.Cells.{length_both, size_is}
use Rattle.laws_loads.specs.RangeView.{RangeView, view_after, view_after_all}
use Rattle.laws_server_runs.specs.Places.{IsWithin, AreWithin, IsLaid, PagesWithin, placed_of, JobWithin, CheckpointLaid}
use Rattle.laws_server_runs.proofs.LaidLayers.{within_behind, within_front, are_on, within_flat, transactions_within}

-- what lies within some bytes lies within others
abbrev pub Covers : List PlacedBytes → List PlacedBytes → Type 0
Covers old new = (place : Place) → IsWithin old place → IsWithin new place

within_cases : (xs ys : List PlacedBytes) (place : Place) → IsWithin (xs ++ ys) place → IsWithin xs place ⊎ IsWithin ys place
within_cases [] ys place w = inr w
within_cases (x ∷ xs) ys place (inl here) = inl (inl here)
within_cases (x ∷ xs) ys place (inr later) = elim (within_cases xs ys place later) [
  | inl first ↦ inl (inr first)
  | inr second ↦ inr second
]

pub covers_both : (xs ys zs ws : List PlacedBytes) → Covers xs zs → Covers ys ws → Covers (xs ++ ys) (zs ++ ws)
covers_both xs ys zs ws first second place w = elim (within_cases xs ys place w) [
  | inl a ↦ within_front ws zs place (first place a)
  | inr b ↦ within_behind zs ws place (second place b)
]

module _ (generation : ℕ) where
  action_covers : (v : RangeView) (action : StreamAction) → Covers (placed_of v) (placed_of (view_after generation v action))
  action_covers v (Reads kind read) place w = w
  action_covers v (Forms kind group) place w = w
  action_covers v (Stands kind extent at group) place w =
      let one : PlacedBytes = record { extent = extent; offset = at.offset; bytes = joined group } in
      covers_both v.shown v.answered v.shown (one ∷ v.answered) (λ p a. a) (within_behind (one ∷ []) v.answered) place w
  action_covers v (Shows start log_end metadata_end) place w =
      let more : List PlacedBytes = bytes_read (v.history.reads kinds.Log) in
      covers_both v.shown v.answered (more ++ v.shown) v.answered (within_behind more v.shown) (λ p a. a) place w
  action_covers v (Finds found) place w = inr w
  action_covers v (Stores stored) place w = covers_both v.shown v.answered v.shown (stored ∷ v.answered) (λ p a. a) (within_behind (stored ∷ []) v.answered) place w

  -- it stays there while the range goes on
  pub actions_cover : (v : RangeView) (actions : List StreamAction) → Covers (placed_of v) (placed_of (view_after_all generation v actions))
  actions_cover v [] place w = w
  actions_cover v (action ∷ earlier) place w = action_covers (view_after_all generation v earlier) action place (actions_cover v earlier place w)

  pub view_both : (v : RangeView) (xs ys : List StreamAction) → view_after_all generation v (xs ++ ys) ≡ view_after_all generation (view_after_all generation v ys) xs
  view_both v [] ys = refl
  view_both v (x ∷ xs) ys = ap (λ w. view_after generation w x) (view_both v xs ys)

  pub later_cover : (v : RangeView) (xs ys : List StreamAction) → Covers (placed_of (view_after_all generation v ys)) (placed_of (view_after_all generation v (xs ++ ys)))
  later_cover v xs ys = subst (λ w. Covers (placed_of (view_after_all generation v ys)) (placed_of w)) (sym (view_both v xs ys)) (actions_cover (view_after_all generation v ys) xs)

-- ---- more bytes

module _ (old new : List PlacedBytes) (on : Covers old new) where
  pub entries_on : (es : Entries) → AreWithin old es → AreWithin new es
  entries_on es w = are_on old new on es w

  pub laid_on : (es : Entries) → IsLaid old es → IsLaid new es
  laid_on es w = (w.0, are_on old new on es w.1)

  pub pages_on : (pages : List PageAt) → PagesWithin old pages → PagesWithin new pages
  pages_on [] w = tt
  pages_on (p ∷ pages) w = (on p.place w.0, pages_on pages w.1)

  pub job_on : (control : Option CheckpointState) → JobWithin old control → JobWithin new control
  job_on None w = tt
  job_on (Some job) w = pages_on job.pages.index.pages w

  pub checkpoint_on : (rows : ClientState) (fixed : Option Entries) (control : Option CheckpointState) → CheckpointLaid old rows fixed control → CheckpointLaid new rows fixed control
  checkpoint_on rows fixed control c = record { appends = c.appends; merges = c.merges; pages = job_on control c.pages; layer = entries_on (entries_if fixed) c.layer }

-- ---- what was appended

module _ (placed : List PlacedBytes) (p : PlacedBytes) (on : Covers (p ∷ []) placed) where
  inside : (place : Place) → place.extent ≡ p.extent → p.offset ≤ place.offset → place.offset + place.length ≤ p.offset + length p.bytes → IsWithin placed place
  inside place same low high = on place (inl (record { extent = same; low = low; high = high }))

  -- the values of a record
  pub spelled_within : (r : LogRecord) → p.bytes ≡ joined (spelling r) → AreWithin placed (flat_map (λ changes. changes) (kept r p.extent p.offset))
  spelled_within r is =
      let values : List (List ℕ) = flat_map transaction_values r.transactions in
      let start : ℕ = p.offset + length (record_specs.text r) in
      let low : p.offset ≤ start = omega arith in
      let high : start + length (joined values) ≤ p.offset + length p.bytes = omega (arith, ap length is, size_is (spelling r), size-spelling r, size_is values) in
      within_flat placed (kept r p.extent p.offset) (transactions_within placed p.extent p.offset (p.offset + length p.bytes) inside start r.transactions low high)

  pages_from : (offset : ℕ) (pages : List Page) → p.offset ≤ offset → offset + length (joined (page_group pages)) ≤ p.offset + length p.bytes → PagesWithin placed (placed_pages p.extent offset pages)
  pages_from offset [] low high = tt
  pages_from offset (page ∷ pages) low high =
      let parts : length (joined (page_group (page ∷ pages))) ≡ length page.bytes + length (joined (page_group pages)) = length_both page.bytes (joined (page_group pages)) in (
        inside (record { extent = p.extent; offset = offset; length = length page.bytes }) refl low (omega (arith, parts, high)),
        pages_from (offset + length page.bytes) pages (omega (arith, low)) (omega (arith, parts, high)),
      )

  -- pages, one behind the other
  pub group_within : (pages : List Page) → p.bytes ≡ joined (page_group pages) → PagesWithin placed (placed_pages p.extent p.offset pages)
  group_within pages is = pages_from p.offset pages (omega arith) (omega (arith, ap length is))

pub pages_both : (placed : List PlacedBytes) (xs ys : List PageAt) → PagesWithin placed xs → PagesWithin placed ys → PagesWithin placed (xs ++ ys)
pages_both placed [] ys a b = b
pages_both placed (x ∷ xs) ys a b = (a.0, pages_both placed xs ys a.1 b)
