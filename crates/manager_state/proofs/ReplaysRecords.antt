-- A record does of the table what it does of the catalog, and a table that records make stays so with one record more.
use Rattle.std.proofs.Common.{◌≡◌, ℕ, zero, suc, Bool, true, not, ◌&&◌, ◌==◌, List, [], ◌∷◌, ◌++◌, length, map, Option, Some, None, slice_get, slice_set, refl, sym, ap, ◌∙◌, subst}
use Rattle.std.proofs.Math.Path.{fun_ext}
use Rattle.std.proofs.lemmas.Bool.{and_from, and_parts}
use Rattle.block_types.specs.declared.record.Nodes.{Nodes}
use Rattle.block_types.specs.declared.record.Record.{Record}
use Rattle.streams.specs.Streams.{Stream, stream_of, created, opened, extended as extended_streams, last_of, trimmed, modified, modify_fault}
use Rattle.model_streams.specs.declared.extent.Extent.{Extent}
use Rattle.model_streams.specs.declared.manager_record.ManagerRecord.{ManagerRecord}
use Rattle.model_streams.specs.declared.manager_record.ManagerRecord.TheVariants.{First, CreateStream, OpenStreams, Extend, Seal, Trim, MultiModify}
use Rattle.model_streams.specs.Maps.{entry_at}
use Rattle.model_streams.specs.Manager.{Catalog, forgotten, forgotten_if, new_extent, sealed_in, sealed_to, is_pick, is_there}
use Rattle.model_streams.specs.Replay.{after_record, sealed_if, extended_if, catalog_after, manager_record_of, replay_from, is_closed, may_extend, extend_fits, seal_fits, manager_record_fits, fit_from}
use Rattle.manager_state.specs.Table.{ManagerTableState, SameCatalog, with_entry, longer, longer_extents, closed_if, forgotten_table, table_after, table_fits, may_lengthen, lengthens}
use Rattle.manager_state.specs.Replay.{TableIsReplay}
use Rattle.manager_state.proofs.Tables.{catalog_of, catalog_shows, is_catalog, lengthened_shows, replaced_shows}

-- ---- a record fits the table where it fits the catalog

same_may : (t : ManagerTableState) (l : Option ℕ) → may_lengthen t.extents l ≡ may_extend (catalog_of t) l
same_may t None = refl
same_may t (Some e) = refl

same_lengthens : (t : ManagerTableState) (g : ℕ) (o : Option Stream) → lengthens t.extents g o ≡ extend_fits (catalog_of t) g o
same_lengthens t g None = refl
same_lengthens t g (Some x) = ap (λ (c : Bool). (g == x.fence) && c) (same_may t (last_of x.extents))

fits_catalog : (t : ManagerTableState) (r : ManagerRecord) → table_fits t r ≡ manager_record_fits (Some (catalog_of t)) (Some r)
fits_catalog t (First nodes target) = refl
fits_catalog t (CreateStream s fence) = refl
fits_catalog t (OpenStreams range g) = refl
fits_catalog t (Extend s g pick) = ap (λ (c : Bool). is_pick t.nodes pick && c) (same_lengthens t g (stream_of t.streams s))
fits_catalog t (Seal e l) = refl
fits_catalog t (Trim range before to_blob) = refl
fits_catalog t (MultiModify list) = refl

pub same_fits : (t : ManagerTableState) (b : Catalog) → SameCatalog t b → (r : ManagerRecord) → table_fits t r ≡ manager_record_fits (Some b) (Some r)
same_fits t b h r = fits_catalog t r ∙ ap (λ (c : Catalog). manager_record_fits (Some c) (Some r)) (is_catalog t b h)

-- ---- and makes the same of both

pub lengthens_there : (extents : List Extent) (g : ℕ) (o : Option Stream) → lengthens extents g o ≡ true → (x : Stream) × (o ≡ Some x)
lengthens_there extents g None e = absurd cc
lengthens_there extents g (Some x) e = (x, refl)

seals_there : (o : Option Extent) → seal_fits o ≡ true → (x : Extent) × (o ≡ Some x)
seals_there None e = absurd cc
seals_there (Some x) e = (x, refl)

after_catalog : (t : ManagerTableState) (r : ManagerRecord) → table_fits t r ≡ true → SameCatalog (table_after t r) (after_record (catalog_of t) r)
after_catalog t (First nodes target) fits = catalog_shows t
after_catalog t (CreateStream s fence) fits = catalog_shows (record t { streams = created t.streams s fence })
after_catalog t (OpenStreams range g) fits = catalog_shows (record t { streams = opened t.streams range g })
after_catalog t (Extend s g pick) fits =
    let x = lengthens_there t.extents g (stream_of t.streams s) (and_parts (is_pick t.nodes pick) _ fits).1 in
    subst (λ (o : Option Stream). SameCatalog (longer t s pick) (extended_if (catalog_of t) s o pick)) (sym x.1) (lengthened_shows t s x.0 pick x.1)
after_catalog t (Seal e l) fits =
    let x = seals_there (entry_at t.extents e) fits in
    subst (λ (o : Option Extent). SameCatalog (closed_if t e o l) (sealed_if (catalog_of t) e o l)) (sym x.1)
    (replaced_shows t (catalog_of t) (catalog_shows t) e (sealed_to x.0 l) x.0 x.1)
after_catalog t (Trim range before to_blob) fits = catalog_shows (record t { streams = trimmed t.streams range before to_blob })
after_catalog t (MultiModify list) fits = catalog_shows (record t { streams = modified t.streams list })

pub same_after : (t : ManagerTableState) (b : Catalog) → SameCatalog t b → (r : ManagerRecord) → table_fits t r ≡ true → SameCatalog (table_after t r) (after_record b r)
same_after t b h r fits = subst (λ (c : Catalog). SameCatalog (table_after t r) (after_record c r)) (is_catalog t b h) (after_catalog t r fits)

-- ---- what a stop drops is in no record

pub entry_forgotten : (xs : List Extent) (e : ℕ) → entry_at (map forgotten xs) e ≡ forgotten_if (entry_at xs e)
entry_forgotten xs zero = refl
entry_forgotten [] (suc n) = refl
entry_forgotten (x ∷ xs) (suc zero) = refl
entry_forgotten (x ∷ xs) (suc (suc n)) = entry_forgotten xs (suc n)

closed_forgotten : (o : Option Extent) → is_closed (forgotten_if o) ≡ is_closed o
closed_forgotten None = refl
closed_forgotten (Some x) = refl

seal_forgotten : (o : Option Extent) → seal_fits (forgotten_if o) ≡ seal_fits o
seal_forgotten None = refl
seal_forgotten (Some x) = refl

sealed_forgotten : (o : Option Extent) → sealed_in (forgotten_if o) ≡ sealed_in o
sealed_forgotten None = refl
sealed_forgotten (Some x) = refl

may_forgotten : (xs : List Extent) (l : Option ℕ) → may_lengthen (map forgotten xs) l ≡ may_lengthen xs l
may_forgotten xs None = refl
may_forgotten xs (Some e) = ap is_closed (entry_forgotten xs e) ∙ closed_forgotten (entry_at xs e)

lengthens_forgotten : (xs : List Extent) (g : ℕ) (o : Option Stream) → lengthens (map forgotten xs) g o ≡ lengthens xs g o
lengthens_forgotten xs g None = refl
lengthens_forgotten xs g (Some x) = ap (λ (c : Bool). (g == x.fence) && c) (may_forgotten xs (last_of x.extents))

pub fits_forgotten : (t : ManagerTableState) (r : ManagerRecord) → table_fits (forgotten_table t) r ≡ table_fits t r
fits_forgotten t (First nodes target) = refl
fits_forgotten t (CreateStream s fence) = refl
fits_forgotten t (OpenStreams range g) = refl
fits_forgotten t (Extend s g pick) = ap (λ (c : Bool). is_pick t.nodes pick && c) (lengthens_forgotten t.extents g (stream_of t.streams s))
fits_forgotten t (Seal e l) = ap seal_fits (entry_forgotten t.extents e) ∙ seal_forgotten (entry_at t.extents e)
fits_forgotten t (Trim range before to_blob) = refl
fits_forgotten t (MultiModify list) = ap (λ (f : ℕ → Option ℕ). not (is_there (modify_fault f t.streams list))) (fun_ext (λ e. ap sealed_in (entry_forgotten t.extents e) ∙ sealed_forgotten (entry_at t.extents e)))

map_push : (xs : List Extent) (y : Extent) → map forgotten (xs ++ y ∷ []) ≡ map forgotten xs ++ forgotten y ∷ []
map_push [] y = refl
map_push (x ∷ xs) y = ap (λ (l : List Extent). forgotten x ∷ l) (map_push xs y)

map_set : (xs : List Extent) (n : ℕ) (y : Extent) → map forgotten (slice_set xs n y) ≡ slice_set (map forgotten xs) n (forgotten y)
map_set [] n y = refl
map_set (x ∷ xs) zero y = refl
map_set (x ∷ xs) (suc n) y = ap (λ (l : List Extent). forgotten x ∷ l) (map_set xs n y)

pub length-forgotten : (xs : List Extent) → length (map forgotten xs) ≡ length xs
length-forgotten [] = refl
length-forgotten (x ∷ xs) = ap suc (length-forgotten xs)

forget_longer : (xs : List Extent) (o : Option Stream) (pick : Nodes) → map forgotten (longer_extents xs o pick) ≡ longer_extents (map forgotten xs) o pick
forget_longer xs None pick = refl
forget_longer xs (Some x) pick = map_push xs (new_extent pick x.fence)

forget_entry : (t : ManagerTableState) (e : ℕ) (x : Extent) → forgotten_table (with_entry t e x) ≡ with_entry (forgotten_table t) e (forgotten x)
forget_entry t zero x = refl
forget_entry t (suc n) x = ap (λ (l : List Extent). record t { extents = l }) (map_set t.extents n x)

forget_closed : (t : ManagerTableState) (e : ℕ) (o : Option Extent) (l : ℕ) → forgotten_table (closed_if t e o l) ≡ closed_if (forgotten_table t) e (forgotten_if o) l
forget_closed t e None l = refl
forget_closed t e (Some x) l = forget_entry t e (sealed_to x l)

pub forget_after : (t : ManagerTableState) (r : ManagerRecord) → forgotten_table (table_after t r) ≡ table_after (forgotten_table t) r
forget_after t (First nodes target) = refl
forget_after t (CreateStream s fence) = refl
forget_after t (OpenStreams range g) = refl
forget_after t (Extend s g pick) =
    ap (λ (l : List Extent). record t { streams = extended_streams t.streams s (suc (length t.extents)); extents = l }) (forget_longer t.extents (stream_of t.streams s) pick)
    ∙ ap (λ (n : ℕ). record t { streams = extended_streams t.streams s (suc n); extents = longer_extents (map forgotten t.extents) (stream_of t.streams s) pick }) (sym (length-forgotten t.extents))
forget_after t (Seal e l) =
    forget_closed t e (entry_at t.extents e) l
    ∙ ap (λ (o : Option Extent). closed_if (forgotten_table t) e o l) (sym (entry_forgotten t.extents e))
forget_after t (Trim range before to_blob) = refl
forget_after t (MultiModify list) = refl

-- another extent that differs only in what a stop drops leaves the same
set_same : (xs : List Extent) (n : ℕ) (y : Extent) → slice_get xs n ≡ Some y → slice_set xs n y ≡ xs
set_same [] n y e = refl
set_same (x ∷ xs) zero y e = ap (λ (z : Extent). z ∷ xs) (let same : y ≡ x = cc in same)
set_same (x ∷ xs) (suc n) y e = ap (λ (l : List Extent). x ∷ l) (set_same xs n y e)

pub entry_same : (t : ManagerTableState) (e : ℕ) (y : Extent) → entry_at t.extents e ≡ Some y → with_entry t e y ≡ t
entry_same t zero y is = refl
entry_same t (suc n) y is = ap (λ (l : List Extent). record t { extents = l }) (set_same t.extents n y is)

pub forget_replaced : (t : ManagerTableState) (e : ℕ) (x : Extent) → forgotten_if (entry_at t.extents e) ≡ Some (forgotten x) → forgotten_table (with_entry t e x) ≡ forgotten_table t
forget_replaced t e x is = forget_entry t e x ∙ entry_same (forgotten_table t) e (forgotten x) (entry_forgotten t.extents e ∙ is)

-- ---- replay

replay-push : (b : Option Catalog) (rs : List Record) (r : Record) → replay_from b (rs ++ r ∷ []) ≡ catalog_after (replay_from b rs) (manager_record_of r)
replay-push b [] r = refl
replay-push b (x ∷ rs) r = replay-push (catalog_after b (manager_record_of x)) rs r

fit-push : (b : Option Catalog) (rs : List Record) (r : Record) → fit_from b rs ≡ true → manager_record_fits (replay_from b rs) (manager_record_of r) ≡ true → fit_from b (rs ++ r ∷ []) ≡ true
fit-push b [] r e f = and_from _ _ f refl
fit-push b (x ∷ rs) r e f =
    let parts = and_parts (manager_record_fits b (manager_record_of x)) _ e in
    and_from _ _ parts.0 (fit-push (catalog_after b (manager_record_of x)) rs r parts.1 f)

pub fit-at : (b : Option Catalog) (rs more : List Record) (r : Record) → fit_from b (rs ++ r ∷ more) ≡ true → manager_record_fits (replay_from b rs) (manager_record_of r) ≡ true
fit-at b [] more r e = (and_parts (manager_record_fits b (manager_record_of r)) _ e).0
fit-at b (x ∷ rs) more r e = fit-at (catalog_after b (manager_record_of x)) rs more r (and_parts (manager_record_fits b (manager_record_of x)) _ e).1

-- one more record that spells a fitting one
pub replays-more : (t : ManagerTableState) (rs : List Record) → TableIsReplay t rs → (x : Record) (r : ManagerRecord) → manager_record_of x ≡ Some r → table_fits t r ≡ true → TableIsReplay (table_after t r) (rs ++ x ∷ [])
replays-more t rs h x r is fits =
    let fits_too : table_fits (forgotten_table t) r ≡ true = fits_forgotten t r ∙ fits in
    record {
      catalog = after_record h.catalog r;
      replays = replay-push None rs x ∙ ap (λ (b : Option Catalog). catalog_after b (manager_record_of x)) h.replays ∙ ap (catalog_after (Some h.catalog)) is;
      shows = subst (λ (u : ManagerTableState). SameCatalog u (after_record h.catalog r)) (sym (forget_after t r)) (same_after (forgotten_table t) h.catalog h.shows r fits_too);
      fits = fit-push None rs x h.fits
          (ap (λ (b : Option Catalog). manager_record_fits b (manager_record_of x)) h.replays ∙ ap (manager_record_fits (Some h.catalog)) is ∙ sym (same_fits (forgotten_table t) h.catalog h.shows r) ∙ fits_too);
    }
