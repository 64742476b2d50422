-- One record more, when a table is made from records.
use Rattle.std.proofs.Common.{◌≡◌, ℕ, zero, suc, true, List, [], ◌∷◌, ◌++◌, Option, Some, None, Ok, Err, refl, sym, ap, subst, ◌∙◌}
use Rattle.block_types.specs.declared.record.Record.{Record}
use Rattle.block_types.specs.declared.fault.BlockFault.{BlockFault}
use Rattle.block_types.specs.declared.fault.BlockFault.TheVariants.{Damaged}
use Rattle.model_streams.specs.declared.manager_record.ManagerRecord.{ManagerRecord}
use Rattle.model_streams.specs.declared.manager_record.ManagerRecord.TheVariants.{First, CreateStream, OpenStreams, Extend, Seal, Trim, MultiModify}
use Rattle.model_streams.specs.Maps.{entry_at}
use Rattle.model_streams.specs.Manager.{Catalog, first_catalog}
use Rattle.model_streams.specs.Replay.{catalog_after, manager_record_of, replay_from, manager_record_fits, catalog_fits}
use Rattle.manager_state.specs.Table.{ManagerTableState, ManagerTableValue, plain, SameCatalog, first_table, forgotten_table, table_after}
use Rattle.manager_state.specs.Replay.{TableIsReplay, fits_on, table_on, RecoversWith, IsMade}
use Rattle.manager_state.proofs.ReplaysRecords.{same_fits, fits_forgotten, forget_after, replays-more, fit-at}

first_extents : (nodes target e : ℕ) → (first_catalog nodes target).extent e ≡ entry_at (forgotten_table (first_table nodes target)).extents e
first_extents nodes target zero = refl
first_extents nodes target (suc e) = refl

pub first_shows : (nodes target : ℕ) → SameCatalog (forgotten_table (first_table nodes target)) (first_catalog nodes target)
first_shows nodes target = record { nodes = refl; target = refl; count = refl; stream = λ range kind. refl; extent = first_extents nodes target }

-- the first record alone
pub first_replay : (nodes target : ℕ) (r : Record) → manager_record_of r ≡ Some (First nodes target) → TableIsReplay (first_table nodes target) (r ∷ [])
first_replay nodes target r is = record {
  catalog = first_catalog nodes target;
  replays = ap (catalog_after None) is;
  shows = first_shows nodes target;
  fits = rw is refl;
}

-- what the records so far have made
abbrev pub SoFar : Option ManagerTableState → List Record → Type 0
SoFar None rs = rs ≡ []
SoFar (Some t) rs = IsMade t rs

same_table : (t u : ManagerTableState) → Some t ≡ Some u → t ≡ u
same_table t u e = cc

first_made : (rs : List Record) (r : Record) (t : ManagerTableState) (o : Option ManagerRecord) → rs ≡ [] → manager_record_of r ≡ o → fits_on None o ≡ true → table_on None o ≡ Some t → IsMade t (rs ++ r ∷ [])
first_made rs r t None none is fits table = absurd cc
first_made rs r t (Some (First n g)) none is fits table =
    let same = same_table (first_table n g) t table in
    subst (λ (l : List Record). IsMade t (l ++ r ∷ [])) (sym none) (subst (λ (u : ManagerTableState). IsMade u (r ∷ [])) same (record { replays = first_replay n g r is; fresh = refl }))
first_made rs r t (Some (CreateStream s f)) none is fits table = absurd cc
first_made rs r t (Some (OpenStreams x g)) none is fits table = absurd cc
first_made rs r t (Some (Extend s g p)) none is fits table = absurd cc
first_made rs r t (Some (Seal e l)) none is fits table = absurd cc
first_made rs r t (Some (Trim x before to_blob)) none is fits table = absurd cc
first_made rs r t (Some (MultiModify list)) none is fits table = absurd cc

next_made : (u : ManagerTableState) (rs : List Record) (r : Record) (t : ManagerTableState) (o : Option ManagerRecord) → IsMade u rs → manager_record_of r ≡ o → fits_on (Some u) o ≡ true → table_on (Some u) o ≡ Some t → IsMade t (rs ++ r ∷ [])
next_made u rs r t None made is fits table = absurd cc
next_made u rs r t (Some x) made is fits table =
    subst (λ (v : ManagerTableState). IsMade v (rs ++ r ∷ [])) (same_table (table_after u x) t table)
    (record {
      replays = replays-more u rs made.replays r x is fits;
      fresh = ap (λ (v : ManagerTableState). table_after v x) made.fresh ∙ sym (forget_after u x);
    })

pub made_more : (was : Option ManagerTableState) (rs : List Record) (r : Record) (t : ManagerTableValue) → SoFar was rs → RecoversWith was (manager_record_of r) (Ok t) → IsMade (plain t) (rs ++ r ∷ [])
made_more None rs r t made h = first_made rs r (plain t) (manager_record_of r) made refl h.fits h.table
made_more (Some u) rs r t made h = next_made u rs r (plain t) (manager_record_of r) made refl h.fits h.table

fits_first : (o : Option ManagerRecord) → fits_on None o ≡ manager_record_fits None o
fits_first None = refl
fits_first (Some (First n g)) = refl
fits_first (Some (CreateStream s f)) = refl
fits_first (Some (OpenStreams x g)) = refl
fits_first (Some (Extend s g p)) = refl
fits_first (Some (Seal e l)) = refl
fits_first (Some (Trim x before to_blob)) = refl
fits_first (Some (MultiModify list)) = refl

fits_next : (u : ManagerTableState) (b : Catalog) → SameCatalog (forgotten_table u) b → (o : Option ManagerRecord) → fits_on (Some u) o ≡ manager_record_fits (Some b) o
fits_next u b h None = refl
fits_next u b h (Some r) = sym (fits_forgotten u r) ∙ same_fits (forgotten_table u) b h r

fits_so : (was : Option ManagerTableState) (rs : List Record) (o : Option ManagerRecord) → SoFar was rs → fits_on was o ≡ manager_record_fits (replay_from None rs) o
fits_so None rs o made = fits_first o ∙ ap (λ (l : List Record). manager_record_fits (replay_from None l) o) (sym made)
fits_so (Some u) rs o made = fits_next u made.replays.catalog made.replays.shows o ∙ ap (λ (b : Option Catalog). manager_record_fits b o) (sym made.replays.replays)

-- a record that fits is not refused as damaged
pub not_damaged : (was : Option ManagerTableState) (rs : List Record) (r : Record) (others whole : List Record) (x : BlockFault) → SoFar was rs → whole ≡ rs ++ r ∷ others → catalog_fits whole ≡ true → RecoversWith was (manager_record_of r) (Err x) → x ≡ Damaged → ⊥
not_damaged was rs r others whole x made is fit h damaged =
    let fits_here = fit-at None rs others r (ap catalog_fits (sym is) ∙ fit) in
    let no = sym (h.damaged (ap (λ (y : BlockFault). Err y) damaged)) ∙ fits_so was rs (manager_record_of r) made ∙ fits_here in
    absurd cc
