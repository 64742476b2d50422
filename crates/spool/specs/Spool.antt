-- What a spool was given, and what it handed on.
use Rattle.std.specs.Prelude.{◌≡◌, ℕ, ◌<◌, ◌≤◌, List, ◌++◌, Bool, length, take}
use Rattle.std.specs.Io.KnownBytes.{Appends}
use Rattle.std.specs.declared.io.Write.{Ghosts}
use Rattle.spool.specs.declared.line_spool.LineSpool.{LineSpool}
use Rattle.spool.specs.Lines.{HasNoLineEnd, IsWholeLines}

module _ {W : Type 0} {g : Ghosts W} where
  -- what was handed on
  abbrev pub handed : LineSpool W g → List ℕ
  handed spool = spool.handed.bytes

  -- what is kept
  abbrev pub kept : LineSpool W g → List ℕ
  kept spool = spool.buffer.items

  -- all that it was given: what was handed on, and then what is kept
  abbrev pub given : LineSpool W g → List ℕ
  given spool = handed spool ++ kept spool

  -- how many bytes it may keep
  abbrev pub room : LineSpool W g → ℕ
  room spool = spool.room

  -- whether the writer below failed
  abbrev pub has_failed : LineSpool W g → Bool
  has_failed spool = spool.failed

  -- the writer below
  abbrev pub below : LineSpool W g → W
  below spool = spool.writer

  -- what was handed on between the two is what the writer below took
  abbrev pub HandsOn : LineSpool W g → LineSpool W g → Type 0
  HandsOn old new = (bytes : List ℕ) × (handed new ≡ handed old ++ bytes) × Appends (g.contents (below old)) (g.contents (below new)) bytes

  -- what was handed on is all whole lines that it was given, and what is kept is the beginning of a line
  abbrev pub HasHandedOnLines : LineSpool W g → Type 0
  HasHandedOnLines spool = IsWholeLines (handed spool) × HasNoLineEnd (kept spool)

  -- it has more room only where it keeps as much as there was room for before, and that is the beginning of one line
  abbrev pub GrowsForOneLine : LineSpool W g → LineSpool W g → Type 0
  GrowsForOneLine old new = room old < room new → (room old ≤ length (kept new)) × HasNoLineEnd (take (room old) (kept new))
