-- The catalog that the manager's records make.
use Rattle.std.specs.Prelude.{ℕ, ◌+◌, Bool, true, false, not, ◌&&◌, List, [], ◌∷◌, length, Option, Some, None, ◌==◌, nat_lt}
use Rattle.block_types.specs.declared.record.Nodes.{Nodes}
use Rattle.block_types.specs.declared.record.Record.{Record}
use Rattle.block_types.specs.declared.record.Record.TheVariants.{Manage}
use Rattle.wire.specs.declared.streams.StreamName.{StreamName}
use Rattle.model_streams.specs.declared.extent.Extent.{Extent}
use Rattle.model_streams.specs.declared.manager_record.ManagerRecord.{ManagerRecord}
use Rattle.model_streams.specs.declared.manager_record.ManagerRecord.TheVariants.{First, CreateStream, OpenStreams, Extend, Seal, Trim, MultiModify}
use Rattle.streams.specs.Streams.{Stream, base_of, stream_of, create_fault, open_fault, created, opened, modified, modify_fault, trimmed, last_of}
use Rattle.model_streams.specs.RecordBytes.{record_of}
use Rattle.model_streams.specs.Manager.{Catalog, first_catalog, with_streams, with_extent, extended, sealed_to, sealed_lengths, is_there, is_pick}

abbrev pub extended_if : Catalog → StreamName → Option Stream → Nodes → Catalog
extended_if b s None pick = b
extended_if b s (Some x) pick = extended b s x.fence pick

abbrev pub sealed_if : Catalog → ℕ → Option Extent → ℕ → Catalog
sealed_if b e None length = b
sealed_if b e (Some x) length = with_extent b e (sealed_to x length)

-- the catalog after one more record
abbrev pub after_record : Catalog → ManagerRecord → Catalog
after_record b (First nodes target) = b
after_record b (CreateStream s fence) = with_streams b (created b.stream s fence)
after_record b (OpenStreams range generation) = with_streams b (opened b.stream range generation)
after_record b (Extend s generation pick) = extended_if b s (stream_of b.stream s) pick
after_record b (Seal e length) = sealed_if b e (b.extent e) length
after_record b (Trim range before to_blob) = with_streams b (trimmed b.stream range before to_blob)
after_record b (MultiModify list) = with_streams b (modified b.stream list)

-- a catalog, or none before the first record, after one more
abbrev pub catalog_after : Option Catalog → Option ManagerRecord → Option Catalog
catalog_after None (Some (First nodes target)) = Some (first_catalog nodes target)
catalog_after None r = None
catalog_after (Some b) None = Some b
catalog_after (Some b) (Some r) = Some (after_record b r)

-- what a record of the file spells
abbrev pub manager_record_of : Record → Option ManagerRecord
manager_record_of (Manage text) = record_of text
manager_record_of r = None

abbrev pub replay_from : Option Catalog → List Record → Option Catalog
replay_from b [] = b
replay_from b (r ∷ rs) = replay_from (catalog_after b (manager_record_of r)) rs

-- the catalog that the records make, if the first of them is there
abbrev pub catalog_replay : List Record → Option Catalog
catalog_replay rs = replay_from None rs

-- ---- records that fit

abbrev pub is_closed : Option Extent → Bool
is_closed None = false
is_closed (Some x) = is_there x.sealed

-- its last extent, if there is one, is sealed
abbrev pub may_extend : Catalog → Option ℕ → Bool
may_extend b None = true
may_extend b (Some e) = is_closed (b.extent e)

abbrev pub extend_fits : Catalog → ℕ → Option Stream → Bool
extend_fits b generation None = false
extend_fits b generation (Some x) = (generation == x.fence) && may_extend b (last_of x.extents)

abbrev pub seal_fits : Option Extent → Bool
seal_fits None = false
seal_fits (Some x) = not (is_there x.sealed)

-- its list begins below the index, and ends behind it
abbrev pub loses_extents : Stream → ℕ → Bool
loses_extents log before = nat_lt (base_of log) before && nat_lt before (base_of log + length log.extents)

abbrev pub trim_fits : Option Stream → Option Stream → ℕ → Bool
trim_fits None blob_data before = false
trim_fits (Some log) None before = false
trim_fits (Some log) (Some blob_data) before = loses_extents log before

-- whether the manager may write a record where its catalog is this
abbrev pub manager_record_fits : Option Catalog → Option ManagerRecord → Bool
manager_record_fits None (Some (First nodes target)) = true
manager_record_fits None r = false
manager_record_fits (Some b) (Some (CreateStream s fence)) = not (is_there (create_fault b.stream s))
manager_record_fits (Some b) (Some (OpenStreams range generation)) = not (is_there (open_fault b.stream range generation))
manager_record_fits (Some b) (Some (Extend s generation pick)) = is_pick b.nodes pick && extend_fits b generation (stream_of b.stream s)
manager_record_fits (Some b) (Some (Seal e length)) = seal_fits (b.extent e)
manager_record_fits (Some b) (Some (Trim range before to_blob)) = trim_fits (b.stream range 1) (b.stream range 3) before
manager_record_fits (Some b) (Some (MultiModify list)) = not (is_there (modify_fault (sealed_lengths b) b.stream list))
manager_record_fits (Some b) r = false

abbrev pub fit_from : Option Catalog → List Record → Bool
fit_from b [] = true
fit_from b (r ∷ rs) = manager_record_fits b (manager_record_of r) && fit_from (catalog_after b (manager_record_of r)) rs

-- each record fits the catalog that those before it make
abbrev pub catalog_fits : List Record → Bool
catalog_fits rs = fit_from None rs
