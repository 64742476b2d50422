-- What making room for a record does of the table: the record makes the same of it, and without the room it is as it was.
use Rattle.std.proofs.Common.{◌≡◌, ℕ, zero, suc, true, not, List, [], ◌∷◌, Option, Some, None, slice_set, refl, sym, ap, ◌∙◌, subst}
use Rattle.model_streams.specs.declared.extent.Extent.{Extent}
use Rattle.model_streams.specs.declared.manager_record.ManagerRecord.{ManagerRecord}
use Rattle.model_streams.specs.declared.manager_record.ManagerRecord.TheVariants.{First, CreateStream, OpenStreams, Extend, Seal, Trim, MultiModify}
use Rattle.model_streams.specs.Maps.{entry_at}
use Rattle.model_streams.specs.Manager.{is_there, sealed_to}
use Rattle.model_streams.specs.Replay.{seal_fits}
use Rattle.manager_state.specs.Table.{ManagerTableState, with_entry, closed_if, lengthened_if, unasked_if, with_room, without_room, table_after, table_fits, HasLength}
use Rattle.manager_state.proofs.Tables.{set_here}
use Rattle.manager_state.proofs.ReplaysRecords.{entry_same}

set_twice : {A : Type 0} (xs : List A) (n : ℕ) (x y : A) → slice_set (slice_set xs n x) n y ≡ slice_set xs n y
set_twice [] n x y = refl
set_twice (z ∷ xs) zero x y = refl
set_twice (z ∷ xs) (suc n) x y = ap (λ l. z ∷ l) (set_twice xs n x y)

-- the extent that was put under a number
put_there : (t : ManagerTableState) (e : ℕ) (x y : Extent) → entry_at t.extents e ≡ Some y → entry_at (with_entry t e x).extents e ≡ Some x
put_there t zero x y is = absurd cc
put_there t (suc n) x y is = set_here t.extents n x y is

put_twice : (t : ManagerTableState) (e : ℕ) (x y : Extent) → with_entry (with_entry t e x) e y ≡ with_entry t e y
put_twice t zero x y = refl
put_twice t (suc n) x y = ap (λ l. record t { extents = l }) (set_twice t.extents n x y)

closed_after : (t : ManagerTableState) (e length : ℕ) (o : Option Extent) → entry_at t.extents e ≡ o →
    let u = lengthened_if t e o (Some length) in closed_if u e (entry_at u.extents e) length ≡ closed_if t e o length
closed_after t e length None is = ap (λ (o : Option Extent). closed_if t e o length) is
closed_after t e length (Some x) is =
    let y = record x { sealed = Some length } in
    ap (λ (o : Option Extent). closed_if (with_entry t e y) e o length) (put_there t e y x is) ∙ put_twice t e y (sealed_to x length)

-- a record makes the same of the table with its room
pub after_room : (t : ManagerTableState) (r : ManagerRecord) → table_after (with_room t r) r ≡ table_after t r
after_room t (First nodes target) = refl
after_room t (CreateStream s fence) = refl
after_room t (OpenStreams range generation) = refl
after_room t (Extend s generation pick) = refl
after_room t (Seal e length) = closed_after t e length (entry_at t.extents e) refl
after_room t (Trim range before to_blob) = refl
after_room t (MultiModify list) = refl

open_none : (o : Option ℕ) → not (is_there o) ≡ true → o ≡ None
open_none None is = refl
open_none (Some l) is = absurd cc

opened_again : (t : ManagerTableState) (e length : ℕ) (o : Option Extent) → entry_at t.extents e ≡ o → seal_fits o ≡ true →
    let u = lengthened_if t e o (Some length) in lengthened_if u e (entry_at u.extents e) None ≡ t
opened_again t e length None is fits = absurd cc
opened_again t e length (Some x) is fits =
    let y = record x { sealed = Some length } in
    ap (λ (o : Option Extent). lengthened_if (with_entry t e y) e o None) (put_there t e y x is)
    ∙ put_twice t e y (record x { sealed = None })
    ∙ ap (λ (w : Option ℕ). with_entry t e (record x { sealed = w })) (sym (open_none x.sealed fits))
    ∙ entry_same t e x is

-- without the room that was made for a record that fits, the table is as it was
pub room_again : (t : ManagerTableState) (r : ManagerRecord) → table_fits t r ≡ true → without_room (with_room t r) r ≡ t
room_again t (First nodes target) fits = refl
room_again t (CreateStream s fence) fits = refl
room_again t (OpenStreams range generation) fits = refl
room_again t (Extend s generation pick) fits = refl
room_again t (Seal e length) fits = opened_again t e length (entry_at t.extents e) refl fits
room_again t (Trim range before to_blob) fits = refl
room_again t (MultiModify list) fits = refl

-- the room is there
pub has_length : (t : ManagerTableState) (e length : ℕ) (o : Option Extent) → entry_at t.extents e ≡ o → let u = lengthened_if t e o (Some length) in HasLength (entry_at u.extents e) length
has_length t e length None is = subst (λ (o : Option Extent). HasLength o length) (sym is) tt
has_length t e length (Some x) is =
    let y = record x { sealed = Some length } in
    subst (λ (o : Option Extent). HasLength o length) (sym (put_there t e y x is)) refl

-- an extent that has its length, once nobody asks, is sealed
pub closed_unasked : (t : ManagerTableState) (e length : ℕ) (o : Option Extent) → HasLength o length → unasked_if t e o ≡ closed_if t e o length
closed_unasked t e length None has = refl
closed_unasked t e length (Some x) has = ap (λ (w : Option ℕ). with_entry t e (record x { sealed = w; asker = None })) has
