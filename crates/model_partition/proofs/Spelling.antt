-- The bytes of the map's records: they are few, and they are read as they were written.
use Rattle.std.proofs.Common.{◌≡◌, ℕ, ◌^◌, ◌<◌, ◌≤◌, List, [], ◌∷◌, ◌++◌, length, Some, refl, ap, sym, ◌∙◌, arith, length-append, append-nil}
use Rattle.block_types.specs.Limits.{is_within}
use Rattle.blocks.specs.Record.{number}
use Rattle.blocks.proofs.Formats.{number2, number8, length-number, one_again, last8, bytes_again, within_again}
use Rattle.memtable.specs.Limits.{IsKey}
use Rattle.commitlog.specs.Record.{key_bytes}
use Rattle.commitlog.specs.Reading.{counted_at}
use Rattle.model_partition.specs.declared.map_record.MapRecord.{MapRecord}
use Rattle.model_partition.specs.declared.map_record.MapRecord.TheVariants.{Assign, Renew, BeginSplit, CompleteSplit, BeginMerge, CompleteMerge}
use Rattle.model_partition.specs.RecordBytes.{spelled, HasShortKey, assign_at, renew_at, begin_split_at, complete_split_at, begin_merge_at, complete_merge_at, split_fields_at, merge_fields_at, fields_at, record_of}

pub spelled_few : (r : MapRecord) → HasShortKey r → length (spelled r) ≤ 267
spelled_few (Assign range server until) short = omega (arith, length-append (number 8 range) (server ∷ number 8 until), length-number 8 range, length-number 8 until)
spelled_few (Renew range until) short = omega (arith, length-append (number 8 range) (number 8 until), length-number 8 range, length-number 8 until)
spelled_few (BeginSplit range key) short =
    omega (arith, short, length-append (number 8 range) (key_bytes key), length-number 8 range, length-append (number 2 (length key)) key, length-number 2 (length key))
spelled_few (CompleteSplit range) short = omega (arith, length-number 8 range)
spelled_few (BeginMerge left right) short = omega (arith, length-append (number 8 left) (number 8 right), length-number 8 left, length-number 8 right)
spelled_few (CompleteMerge left right) short = omega (arith, length-append (number 8 left) (number 8 right), length-number 8 left, length-number 8 right)

pub assign_again : (range server until : ℕ) → range < 2 ^ 64 → server < 2 ^ 8 → until < 2 ^ 64 → record_of (spelled (Assign range server until)) ≡ Some (Assign range server until)
unfolding record_of fields_at assign_at
assign_again range server until a b c = rw (number8.again range (server ∷ number 8 until) a, one_again server (number 8 until) b, last8 until c) refl

pub renew_again : (range until : ℕ) → range < 2 ^ 64 → until < 2 ^ 64 → record_of (spelled (Renew range until)) ≡ Some (Renew range until)
unfolding record_of fields_at renew_at
renew_again range until a b = rw (number8.again range (number 8 until) a, last8 until b) refl

last_key : (key : List ℕ) → IsKey key → counted_at 2 (is_within 1 256) (key_bytes key) ≡ Some (key, [])
unfolding counted_at
last_key key is =
    ap (counted_at 2 (is_within 1 256)) (ap (λ (l : List ℕ). number 2 (length key) ++ l) (sym (append-nil key)))
    ∙ rw (number2.again (length key) (key ++ []) (omega (arith, is.1)), within_again 1 256 (length key) is, bytes_again key []) refl

pub begin_split_again : (range : ℕ) (key : List ℕ) → range < 2 ^ 64 → IsKey key → record_of (spelled (BeginSplit range key)) ≡ Some (BeginSplit range key)
unfolding record_of fields_at merge_fields_at split_fields_at begin_split_at
begin_split_again range key a b = rw (number8.again range (key_bytes key) a, last_key key b) refl

pub complete_split_again : (range : ℕ) → range < 2 ^ 64 → record_of (spelled (CompleteSplit range)) ≡ Some (CompleteSplit range)
unfolding record_of fields_at merge_fields_at split_fields_at complete_split_at
complete_split_again range a = rw (last8 range a) refl

pub begin_merge_again : (left right : ℕ) → left < 2 ^ 64 → right < 2 ^ 64 → record_of (spelled (BeginMerge left right)) ≡ Some (BeginMerge left right)
unfolding record_of fields_at merge_fields_at begin_merge_at
begin_merge_again left right a b = rw (number8.again left (number 8 right) a, last8 right b) refl

pub complete_merge_again : (left right : ℕ) → left < 2 ^ 64 → right < 2 ^ 64 → record_of (spelled (CompleteMerge left right)) ≡ Some (CompleteMerge left right)
unfolding record_of fields_at merge_fields_at complete_merge_at
complete_merge_again left right a b = rw (number8.again left (number 8 right) a, last8 right b) refl
