-- The records of a split have their bytes.
use Rattle.std.proofs.Common.{◌≡◌, ℕ, ◌+◌, ◌<◌, ◌≤◌, ◌^◌, ◌++◌, List, length, Option, Some, None, arith, length-append}
use Rattle.blocks.specs.Record.{number}
use Rattle.blocks.proofs.Formats.{length-number}
use Rattle.metadata.specs.declared.record.KeyRange.{KeyRange}
use Rattle.metadata.specs.declared.record.MetaItem.TheVariants.{Ranges, SplitStatus}
use Rattle.metadata.specs.Record.{Fits, IsHigh, IsKey, IsKeyRange, high, keys, text}

text_size : (key : List ℕ) → length (text key) ≡ 2 + length key
text_size key = omega (arith, length-append (number 2 (length key)) key, length-number 2 (length key))

high_size : (end : Option (List ℕ)) → IsHigh end → length (high end) ≤ 259
high_size None fits = omega (arith, length-append (number 1 0) (number 2 0), length-number 1 0, length-number 2 0)
high_size (Some key) fits = omega (arith, fits.1, length-append (number 1 1) (text key), length-number 1 1, text_size key)

-- a record of keys
pub keys_fit : (n : ℕ) (k : KeyRange) → 0 < n → n < 2 ^ 64 → IsKeyRange k → Fits (record { number = n; item = Ranges k })
keys_fit n k some few fits = (
  (omega (arith, some), few),
  fits,
  omega (
    arith,
    fits.0,
    length-append (number 8 n) (number 1 1 ++ keys k),
    length-number 8 n,
    length-append (number 1 1) (keys k),
    length-number 1 1,
    length-append (text k.low) (high k.high),
    text_size k.low,
    high_size k.high fits.1,
  ),
)

-- a record of a split
pub split_fits : (n low high : ℕ) (key : List ℕ) → 0 < n → n < 2 ^ 64 → low < 2 ^ 64 → high < 2 ^ 64 → IsKey key → Fits (record { number = n; item = SplitStatus low high key })
split_fits n low high key some few low_fits high_fits fits = (
  (omega (arith, some), few),
  (low_fits, high_fits, fits),
  omega (
    arith,
    fits.1,
    length-append (number 8 n) (number 1 4 ++ (number 8 low ++ (number 8 high ++ text key))),
    length-number 8 n,
    length-append (number 1 4) (number 8 low ++ (number 8 high ++ text key)),
    length-number 1 4,
    length-append (number 8 low) (number 8 high ++ text key),
    length-number 8 low,
    length-append (number 8 high) (text key),
    length-number 8 high,
    text_size key,
  ),
)
