-- A page that was observed has the bytes of its place.
use Rattle.std.proofs.Common.{◌≡◌, ℕ, List, [], ◌∷◌, Option, Some, None, refl, sym, ◌∙◌}
use Rattle.wire.specs.declared.note.Note.{Note}
use Rattle.memtable.specs.declared.cell.Place.{Place}
use Rattle.model_partition.specs.Past.{Bytes}
use Rattle.model_partition.specs.Servers.{shown_in, first_shown, or_later}
use Rattle.model_histories.specs.TableContents.{AllTellRightly}
use Rattle.laws_loads.proofs.Rows.{shown_rightly}
use Rattle.model_histories.specs.IndexContents.{bytes_in}

module _ (texts : ℕ → Bytes) where
  -- what the earliest observation of a place shows is what stands there
  pub first_seen : (notes : List Note) (place : Place) (bytes : Bytes) → AllTellRightly texts notes → first_shown notes place ≡ Some bytes →
      bytes_in texts place ≡ bytes
  first_seen [] place bytes right is = absurd cc
  first_seen (note ∷ notes) place bytes right is = by (shown_in note place) refl is (λ later. first_seen notes place bytes right.1 later)
    where
      by : (x : Option Bytes) → shown_in note place ≡ x → or_later x (first_shown notes place) ≡ Some bytes →
          (first_shown notes place ≡ Some bytes → bytes_in texts place ≡ bytes) → bytes_in texts place ≡ bytes
      by (Some value) here e more =
          let same : value ≡ bytes = cc in
          sym (shown_rightly texts note place value right.0 here) ∙ same
      by None here e more = more e
