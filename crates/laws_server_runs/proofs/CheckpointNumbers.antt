-- What the test of a checkpoint's numbers gives: its memory table can be written in pages, and its position and its next number in a record.
use Rattle.std.proofs.Common.{◌≡◌, ℕ, ◌<◌, ◌≤◌, ◌^◌, List, [], ◌∷◌, true, nat_lt, Option, Some, None, arith}
use Rattle.std.specs.List.{AllByRecursion}
use Rattle.std.specs.Prelude.{◌&&◌}
use Rattle.std.proofs.lemmas.Bool.{ltb-true}
use Rattle.streams.specs.declared.table.Position.{Position}
use Rattle.memtable.specs.declared.cell.Cell.{Cell}
use Rattle.memtable.specs.declared.cell.Cell.TheVariants.{Deleted, Inline, Placed}
use Rattle.memtable.specs.Entries.{Entries}
use Rattle.metadata.specs.Record.{IsPosition, IsNext}
use Rattle.checkpoint_format.specs.Page.{IsPageEntry}
use Rattle.checkpoint.specs.Contents.{AreEntries}
use Rattle.model_partition.specs.Checkpoints.{number_to_apply, is_numbered, are_numbered, have_bytes}
use Rattle.model_partition.specs.Range.{OutGroup}
use Rattle.checkpoint.proofs.Orders.{and_true}
use Rattle.laws_checkpoints.proofs.ShownRows.{ascending_if}
use Rattle.laws_loads.specs.Sound.{OutFits}
use Rattle.laws_server_runs.specs.Places.{IsLow, AreLow}

-- the numbers have their bytes
pub record HaveBytes (entries : Entries) (position : Position) (next : ℕ) : Type 0 where
  pub extents : are_numbered entries ≡ true
  pub place : IsPosition position
  pub number : next < 2 ^ 64

pub bytes_had : (entries : Entries) (position : Position) (next : ℕ) → have_bytes entries position next ≡ true → HaveBytes entries position next
bytes_had entries position next t =
    let one = and_true (are_numbered entries) (nat_lt position.index (2 ^ 64) && (nat_lt position.offset (2 ^ 32) && nat_lt next (2 ^ 64))) t in
    let two = and_true (nat_lt position.index (2 ^ 64)) (nat_lt position.offset (2 ^ 32) && nat_lt next (2 ^ 64)) one.1 in
    let three = and_true (nat_lt position.offset (2 ^ 32)) (nat_lt next (2 ^ 64)) two.1 in
    record {
      extents = one.0;
      place = (ltb-true position.index (2 ^ 64) two.0, ltb-true position.offset (2 ^ 32) three.0);
      number = ltb-true next (2 ^ 64) three.1;
    }

-- ---- entries that pages can have

page_entry : (key : List ℕ) (cell : Cell) → IsLow (key, cell) → is_numbered cell ≡ true → IsPageEntry (key, cell)
page_entry key Deleted low t = (low.0, tt)
page_entry key (Inline value) low t = (low.0, tt)
page_entry key (Placed place) low t = (low.0, (ltb-true place.extent (2 ^ 64) t, low.1, (let short : place.length ≤ 65536 = low.0.1.1 in omega (arith, short))))

each_entry : (es : Entries) → AllByRecursion IsLow es → are_numbered es ≡ true → AllByRecursion IsPageEntry es
each_entry [] low t = tt
each_entry (e ∷ es) low t =
    let both = and_true (is_numbered e.1) (are_numbered es) t in
    (page_entry e.0 e.1 low.0 both.0, each_entry es low.1 both.1)

-- those whose places name extents of 64 bits
pub entries_writable : (es : Entries) → AreLow es → are_numbered es ≡ true → AreEntries es
entries_writable es low t = record { ascending = ascending_if es low.0; each = each_entry es low.1 t }

-- ---- the number to be applied next

-- it is at least 1, whether a group is out or not
pub number_is_next : (out : Option OutGroup) (next : ℕ) → OutFits out → 1 ≤ next → number_to_apply out next < 2 ^ 64 → IsNext (number_to_apply out next)
number_is_next None next fits some low = (some, low)
number_is_next (Some out) next fits some low = (fits.numbered.0, low)
