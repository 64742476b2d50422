-- Names of streams, and streams that are changed at one name.
use Rattle.std.proofs.Common.{◌≡◌, ◌≢◌, ◌⊎◌, ◌&&◌, ◌==◌, Option, Some, refl, inl, inr}
use Rattle.std.proofs.lemmas.Bool.{eqb-true, and_parts}
use Rattle.wire.specs.declared.streams.StreamKind.{StreamKind}
use Rattle.wire.specs.declared.streams.StreamKind.TheVariants.{Metadata, Log, RowData, BlobData}
use Rattle.wire.specs.declared.streams.StreamName.{StreamName}
use Rattle.streams.specs.Streams.{kind_number, Stream, Streams, stream_of, with_stream}
use Rattle.model_streams.proofs.Tests.{if_elim}

pub kind_same : (a b : StreamKind) → kind_number a ≡ kind_number b → a ≡ b
kind_same Metadata Metadata e = refl
kind_same Log Log e = refl
kind_same RowData RowData e = refl
kind_same BlobData BlobData e = refl
kind_same Metadata Log e = absurd cc
kind_same Metadata RowData e = absurd cc
kind_same Metadata BlobData e = absurd cc
kind_same Log Metadata e = absurd cc
kind_same Log RowData e = absurd cc
kind_same Log BlobData e = absurd cc
kind_same RowData Metadata e = absurd cc
kind_same RowData Log e = absurd cc
kind_same RowData BlobData e = absurd cc
kind_same BlobData Metadata e = absurd cc
kind_same BlobData Log e = absurd cc
kind_same BlobData RowData e = absurd cc

pub same_name : (s t : StreamName) → s.range ≡ t.range → s.kind ≡ t.kind → s ≡ t
same_name s t r k =
    let e : record { range = s.range; kind = s.kind } ≡ record { range = t.range; kind = t.kind } = rw (r, k) refl in
    e

-- one stream is changed at its name, and the others are as they were
pub with_stream_elim : (P : Option Stream → Type 0) (streams : Streams) (s : StreamName) (y : Stream) (t : StreamName) →
    (t ≡ s → P (Some y)) → P (stream_of streams t) → P (stream_of (with_stream streams s y) t)
with_stream_elim P streams s y t same other =
    if_elim P ((t.range == s.range) && (kind_number t.kind == kind_number s.kind)) (Some y) (streams t.range (kind_number t.kind))
    (λ k.
    let m = and_parts (t.range == s.range) (kind_number t.kind == kind_number s.kind) k in
    same (same_name t s (eqb-true t.range s.range m.0) (kind_same t.kind s.kind (eqb-true (kind_number t.kind) (kind_number s.kind) m.1))))
    (λ k. other)

-- a kind is that of blob streams, or another
pub is_blob : (kind : StreamKind) → (kind ≡ BlobData) ⊎ (kind ≢ BlobData)
is_blob Metadata = inr (λ k. cc)
is_blob Log = inr (λ k. cc)
is_blob RowData = inr (λ k. cc)
is_blob BlobData = inl refl
