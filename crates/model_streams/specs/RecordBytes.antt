-- The records of the stream manager, as bytes.
use Rattle.std.specs.Prelude.{ℕ, zero, suc, Bool, true, false, List, [], ◌∷◌, ◌++◌, length, Option, Some, None, if◌then◌else◌}
use Rattle.blocks.specs.Format.{◌>>=◌, number_at, pair_at, only_at, many_at, whole}
use Rattle.block_types.specs.Limits.{is_within}
use Rattle.blocks.specs.Reading.{nodes_at}
use Rattle.blocks.specs.Record.{number, nodes}
use Rattle.wire.specs.declared.streams.StreamKind.{StreamKind}
use Rattle.wire.specs.declared.streams.StreamKind.TheVariants.{Metadata, Log, RowData, BlobData}
use Rattle.wire.specs.declared.streams.StreamName.{StreamName}
use Rattle.wire.specs.declared.streams.Source.{Source}
use Rattle.wire.specs.declared.streams.Modify.{Modify}
pub use Rattle.streams.specs.Streams.{kind_number}
use Rattle.model_streams.specs.declared.manager_record.ManagerRecord.{ManagerRecord}
use Rattle.model_streams.specs.declared.manager_record.ManagerRecord.TheVariants.{First, CreateStream, OpenStreams, Extend, Seal, Trim, MultiModify}

abbrev pub stream_name : StreamName → List ℕ
stream_name s = number 8 s.range ++ kind_number s.kind ∷ []

abbrev pub flag : Bool → List ℕ
flag b = (if b then 1 else 0) ∷ []

-- a stream, and the generation that its fence is to have
abbrev pub source : Source → List ℕ
source s = stream_name s.stream ++ number 8 s.generation

abbrev pub sources : List Source → List ℕ
sources [] = []
sources (s ∷ others) = source s ++ sources others

-- a stream, how many it is built from, and those
abbrev pub modify : Modify → List ℕ
modify m = stream_name m.stream ++ length m.sources ∷ sources m.sources

abbrev pub modifies : List Modify → List ℕ
modifies [] = []
modifies (m ∷ others) = modify m ++ modifies others

-- a kind and its fields
abbrev pub spelled : ManagerRecord → List ℕ
spelled (First count target) = 1 ∷ count ∷ number 4 target
spelled (CreateStream s fence) = 2 ∷ (stream_name s ++ number 8 fence)
spelled (OpenStreams range generation) = 3 ∷ (number 8 range ++ number 8 generation)
spelled (Extend s generation pick) = 4 ∷ (stream_name s ++ (number 8 generation ++ nodes pick))
spelled (Seal e length) = 5 ∷ (number 8 e ++ number 4 length)
spelled (Trim range before to_blob) = 6 ∷ (number 8 range ++ (number 8 before ++ flag to_blob))
spelled (MultiModify list) = 7 ∷ length list ∷ modifies list

-- ---- reading

abbrev pub kind_of : ℕ → Option StreamKind
kind_of zero = Some Metadata
kind_of (suc zero) = Some Log
kind_of (suc (suc zero)) = Some RowData
kind_of (suc (suc (suc zero))) = Some BlobData
kind_of _ = None

abbrev pub kind_at : List ℕ → Option (StreamKind × List ℕ)
kind_at [] = None
kind_at (byte ∷ rest) = kind_of byte >>= λ kind. Some (kind, rest)

unfoldable pub stream_at : List ℕ → Option (StreamName × List ℕ)
stream_at bytes = do
  range ← number_at 8 bytes
  kind ← kind_at range.1
  Some (record { range = range.0; kind = kind.0 }, kind.1)

unfoldable pub first_at : List ℕ → Option ManagerRecord
first_at fields = do
  x ← pair_at (only_at (is_within 3 12) (number_at 1)) (only_at (is_within 4096 16777216) (number_at 4)) fields
  whole (Some (First x.0.0 x.0.1, x.1))

unfoldable pub create_at : List ℕ → Option ManagerRecord
create_at fields = do
  x ← pair_at stream_at (number_at 8) fields
  whole (Some (CreateStream x.0.0 x.0.1, x.1))

unfoldable pub open_at : List ℕ → Option ManagerRecord
open_at fields = do
  x ← pair_at (number_at 8) (number_at 8) fields
  whole (Some (OpenStreams x.0.0 x.0.1, x.1))

unfoldable pub extend_at : List ℕ → Option ManagerRecord
extend_at fields = do
  x ← pair_at stream_at (pair_at (number_at 8) nodes_at) fields
  whole (Some (Extend x.0.0 x.0.1.0 x.0.1.1, x.1))

unfoldable pub seal_at : List ℕ → Option ManagerRecord
seal_at fields = do
  x ← pair_at (number_at 8) (number_at 4) fields
  whole (Some (Seal x.0.0 x.0.1, x.1))

abbrev pub flag_of : ℕ → Option Bool
flag_of zero = Some false
flag_of (suc zero) = Some true
flag_of _ = None

abbrev pub flag_at : List ℕ → Option (Bool × List ℕ)
flag_at [] = None
flag_at (byte ∷ rest) = flag_of byte >>= λ b. Some (b, rest)

unfoldable pub trim_at : List ℕ → Option ManagerRecord
trim_at fields = do
  x ← pair_at (number_at 8) (pair_at (number_at 8) flag_at) fields
  whole (Some (Trim x.0.0 x.0.1.0 x.0.1.1, x.1))

unfoldable pub source_at : List ℕ → Option (Source × List ℕ)
source_at bytes = do
  x ← pair_at stream_at (number_at 8) bytes
  Some (record { stream = x.0.0; generation = x.0.1 }, x.1)

-- a count of one byte, and so many values
abbrev pub counted_at : {A : Type 0} → (List ℕ → Option (A × List ℕ)) → List ℕ → Option (List A × List ℕ)
counted_at f bytes = number_at 1 bytes >>= λ count. many_at f count.0 count.1

unfoldable pub modify_at : List ℕ → Option (Modify × List ℕ)
modify_at bytes = do
  x ← pair_at stream_at (counted_at source_at) bytes
  Some (record { stream = x.0.0; sources = x.0.1 }, x.1)

unfoldable pub multi_modify_at : List ℕ → Option ManagerRecord
multi_modify_at fields = do
  x ← counted_at modify_at fields
  whole (Some (MultiModify x.0, x.1))

-- by the kind
unfoldable pub fields_at : ℕ → List ℕ → Option ManagerRecord
fields_at (suc zero) fields = first_at fields
fields_at (suc (suc zero)) fields = create_at fields
fields_at (suc (suc (suc zero))) fields = open_at fields
fields_at (suc (suc (suc (suc zero)))) fields = extend_at fields
fields_at (suc (suc (suc (suc (suc zero))))) fields = seal_at fields
fields_at (suc (suc (suc (suc (suc (suc zero)))))) fields = trim_at fields
fields_at (suc (suc (suc (suc (suc (suc (suc zero))))))) fields = multi_modify_at fields
fields_at kind fields = None

-- the record that these bytes spell, if they spell one
unfoldable pub record_of : List ℕ → Option ManagerRecord
record_of [] = None
record_of (kind ∷ fields) = fields_at kind fields
