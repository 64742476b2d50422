-- What tries of Gets show: answered Gets of their range, under its generation, which no load and no transaction is told by.
use Rattle.std.proofs.Common.{◌≡◌, ℕ, suc, Bool, List, [], ◌∷◌, ◌++◌, Option, Some, None, refl, sym, ap, ◌∙◌, subst, if◌then◌else◌, append-nil}
use Rattle.block_types.specs.declared.record.Nodes.{Nodes}
use Rattle.wire.specs.declared.note.Note.{Note}
use Rattle.wire.specs.declared.note.Note.TheVariants.{Began, Done}
use Rattle.wire.specs.declared.refusal.Refusal.{Refusal}
use Rattle.memtable.specs.declared.cell.Place.{Place}
use Rattle.model_partition.specs.declared.server_context.ServerContext.{ServerContext}
use Rattle.model_partition.specs.declared.shown_table.ShownTable.{ShownTable}
use Rattle.model_partition.specs.declared.table_note.TableNote.{TableNote}
use Rattle.model_partition.specs.declared.table_note.TableNote.TheVariants as tables
use Rattle.model_partition.specs.declared.waiting.WaitingGet.{WaitingGet}
use Rattle.model_partition.specs.Getting.{Lookup, Is, Needs, asks_place, answered, look, standing, try, try_all, try_fault, try_unless}
use Rattle.model_partition.specs.Past.{Bytes, Transaction}
use Rattle.model_partition.specs.PlaceReads.{places_of}
use Rattle.model_partition.specs.Range.{RangeState}
use Rattle.model_histories.specs.Log.{begins_of, dones_of, is_got, without_gots}
use Rattle.model_histories.specs.ServedTables.{AreSeenAs}
use Rattle.model_histories.specs.StreamActions.{PlacedBytes}
use Rattle.laws_tables.specs.Runs.{Run}
use Rattle.laws_server_runs.specs.Places.{NotesWithin, TablesAre}
use Rattle.laws_server_runs.specs.RangeInvariant.{AreObserved}

-- answered Gets of a range under a generation
abbrev pub AreGots : ℕ → ℕ → List TableNote → Type 0
AreGots range g [] = Unit {0}
AreGots range g (tables.Got other h key value ∷ notes) = (other ≡ range) × (h ≡ g) × AreGots range g notes
AreGots range g (note ∷ notes) = ⊥

gots_both : (range g : ℕ) (xs ys : List TableNote) → AreGots range g xs → AreGots range g ys → AreGots range g (xs ++ ys)
gots_both range g [] ys a b = b
gots_both range g (tables.Got other h key value ∷ xs) ys a b = (a.0, a.1, gots_both range g xs ys a.2 b)
gots_both range g (tables.Began other h number changes ∷ xs) ys a b = absurd a
gots_both range g (tables.Done other h number ∷ xs) ys a b = absurd a
gots_both range g (tables.Loaded other h table next ∷ xs) ys a b = absurd a

-- ---- tries

asks_gots : (range g : ℕ) (d : ServerContext) (w : WaitingGet) (page : Bool) (place : Place) (places : Option Nodes) → AreGots range g (asks_place d w page place places).notes
asks_gots range g d w page place None = tt
asks_gots range g d w page place (Some places) = tt

answered_gots : (d : ServerContext) (r : RangeState) (w : WaitingGet) (found : Lookup) → AreGots r.load.range r.load.generation (answered d r w found).notes
answered_gots d r w (Is value) = (refl, refl, tt)
answered_gots d r w (Needs page place) = asks_gots r.load.range r.load.generation d w page place (places_of r place.extent)

pub try_gots : (d : ServerContext) (r : RangeState) (w : WaitingGet) → AreGots r.load.range r.load.generation (try d r w).notes
try_gots d r w = go (try_fault d r)
  where
    go : (fault : Option Refusal) → AreGots r.load.range r.load.generation (try_unless d r w fault).notes
    go (Some why) = tt
    go None = answered_gots d r w (look r.held r.indexes w.key (standing r w.key))

pub try_all_gots : (d : ServerContext) (r : RangeState) (ws : List WaitingGet) → AreGots r.load.range r.load.generation (try_all d r ws).notes
try_all_gots d r [] = tt
try_all_gots d r (w ∷ ws) = gots_both r.load.range r.load.generation (try d r w).notes _ (try_gots d r w) (try_all_gots (record d { count = (try d r w).count }) r ws)

-- ---- what they are

pub gots_within : (k g : ℕ) (placed : List PlacedBytes) (range h : ℕ) (notes : List TableNote) → range ≡ k → h ≡ g → AreGots range h notes → NotesWithin k g placed notes
gots_within k g placed range h [] here under all = tt
gots_within k g placed range h (tables.Got other i key value ∷ notes) here under all = ((all.0 ∙ here, all.1 ∙ under), gots_within k g placed range h notes here under all.2)
gots_within k g placed range h (tables.Began other i number changes ∷ notes) here under all = absurd all
gots_within k g placed range h (tables.Done other i number ∷ notes) here under all = absurd all
gots_within k g placed range h (tables.Loaded other i table next ∷ notes) here under all = absurd all

pub gots_tables : (Holds : ShownTable → Type 0) (range h : ℕ) (notes : List TableNote) → AreGots range h notes → TablesAre Holds notes
gots_tables Holds range h [] all = tt
gots_tables Holds range h (tables.Got other i key value ∷ notes) all = gots_tables Holds range h notes all.2
gots_tables Holds range h (tables.Began other i number changes ∷ notes) all = absurd all
gots_tables Holds range h (tables.Done other i number ∷ notes) all = absurd all
gots_tables Holds range h (tables.Loaded other i table next ∷ notes) all = absurd all

-- ---- what is seen of them

-- transactions are no Gets
pub begins_plain : (range g s : ℕ) (ts : List Transaction) → without_gots (begins_of range g s ts) ≡ begins_of range g s ts
begins_plain range g s [] = refl
begins_plain range g s (t ∷ ts) = ap (λ l. Began range g s t ∷ l) (begins_plain range g (suc s) ts)

pub dones_plain : (range g s : ℕ) (ts : List Transaction) → without_gots (dones_of range g s ts) ≡ dones_of range g s ts
dones_plain range g s [] = refl
dones_plain range g s (t ∷ ts) = ap (λ l. Done range g s ∷ l) (dones_plain range g (suc s) ts)

module _ (texts : ℕ → Bytes) where
  -- nothing is left of them without the Gets
  gots_unseen : (range h : ℕ) (told : List TableNote) (notes : List Note) → AreGots range h told → AreSeenAs texts told notes → without_gots notes ≡ []
  gots_unseen range h [] [] all seen = refl
  gots_unseen range h [] (note ∷ notes) all seen = absurd seen
  gots_unseen range h (t ∷ told) [] all seen = absurd seen
  gots_unseen range h (tables.Got other i key value ∷ told) (note ∷ notes) all seen =
      ap (λ b. if b then without_gots notes else note ∷ without_gots notes) (ap is_got seen.0) ∙ gots_unseen range h told notes all.2 seen.1
  gots_unseen range h (tables.Began other i number changes ∷ told) (note ∷ notes) all seen = absurd all
  gots_unseen range h (tables.Done other i number ∷ told) (note ∷ notes) all seen = absurd all
  gots_unseen range h (tables.Loaded other i table next ∷ told) (note ∷ notes) all seen = absurd all

  -- so what is observed of a run stays as it was
  pub gots_seen : (subject : ℕ) (run : Run) (range h : ℕ) (told : List TableNote) (before later : List Note) → AreGots range h told → AreObserved texts subject run before → AreSeenAs texts told later →
      AreObserved texts subject run (before ++ without_gots later)
  gots_seen subject run range h told before later all old seen =
      subst (λ l. AreObserved texts subject run l) (sym (append-nil before) ∙ ap (λ l. before ++ l) (sym (gots_unseen range h told later all seen))) old
