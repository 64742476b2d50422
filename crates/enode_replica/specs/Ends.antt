-- Where the appends that wait at a primary end.
use Rattle.std.specs.Prelude.{◌≡◌, ℕ, ◌+◌, ◌≤◌, ◌<◌, true, List, length, map, slice_index}
use Rattle.std.specs.List.Sorted.{IsStrictlyIncreasing}
use Rattle.model_streams.specs.declared.waiting_append.WaitingAppend.{WaitingAppend}
use Rattle.replica.specs.Content.{Content}
use Rattle.replica.specs.Groups.{size, text_length}
use Rattle.replica.specs.Replay.{is_open}

-- the end of an append, in bytes from the beginning of its extent
abbrev pub end_of : WaitingAppend → ℕ
end_of w = w.offset + size w.group

-- the end of each
abbrev pub ends_of : List WaitingAppend → List ℕ
ends_of ws = map end_of ws

-- these are the ends of the appends, and they rise
pub record AreEnds (ws : List WaitingAppend) (ends : List ℕ) : Type 0 where
  pub kept : ends ≡ ends_of ws
  pub rising : IsStrictlyIncreasing ends

-- while a replica is open, the appends that wait at it end within it
abbrev pub EndWithin : Content → List WaitingAppend → Type 0
EndWithin content ws = is_open content.phase ≡ true → (k : ℕ) → k < length ws → slice_index (ends_of ws) k ≤ text_length content.groups
