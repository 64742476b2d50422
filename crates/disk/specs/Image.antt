-- The bytes of a disk in memory, and what a crash may do to them.
use Rattle.std.specs.Prelude.{◌≡◌, ◌⊎◌, ℕ, ◌+◌, ◌-◌, ◌≤◌, Bool, true, Option, List, [], ◌++◌, length, take, drop, min, nat_le, if◌then◌else◌}
use Rattle.disk.specs.Disk.{DiskState}
use Rattle.disk.specs.History.{Event, failures_in, HeldSince}

-- the bytes that a read gives, those that the last sync has made sure of, and for how many each has room
pub record ImageBytes : Type 0 where
  pub seen : List ℕ
  pub synced : List ℕ
  pub seen_room : ℕ
  pub synced_room : ℕ

-- a list with these bytes in the place of those from one place on
abbrev pub put_at : ℕ → List ℕ → List ℕ → List ℕ
put_at at bytes held = take at held ++ bytes ++ drop (at + length bytes) held

-- what the last sync has made sure of: the first n bytes that are there, with one stretch of them as it was before
abbrev pub synced_of : ℕ → ℕ → List ℕ → List ℕ → List ℕ
synced_of n at old seen = put_at at old (take n seen)

-- of the first n bytes a write of so many at a place changes none but those of a stretch, which begins at a place and is so long
abbrev pub Covers : ℕ → ℕ → ℕ → ℕ → ℕ → Type 0
Covers at long n from count = (n ≤ from) ⊎ ((at ≤ from) × (from + min count (n - from) ≤ at + long))

-- neither list has lost room
pub record KeepsRoom (old new : ImageBytes) : Type 0 where
  pub seen : old.seen_room ≤ new.seen_room
  pub synced : old.synced_room ≤ new.synced_room

-- a crash leaves what is there, or what the last sync has made sure of
abbrev pub IsThere : ImageBytes → List ℕ → Type 0
IsThere held c = (c ≡ held.seen) ⊎ (c ≡ held.synced)

-- the disk with these bytes, these calls after it, and this plan
abbrev pub image_state : ImageBytes → List Event → Option (ℕ × Bool) → Bool → DiskState
image_state held events stop sure = record {
  seen = held.seen;
  may_leave = λ c. IsThere held c;
  moment = length events;
  left_since = λ t c. IsThere held c ⊎ HeldSince t events c;
  failures = failures_in events;
  reserved = min held.seen_room held.synced_room;
  room = if nat_le (length held.seen) held.synced_room then 6 else 0;
  stop = stop;
  synced = held.synced;
  sure = sure;
}

-- the bytes of a disk in three parts: those in front are made sure of, and those behind it or not
abbrev pub in_parts : List ℕ → ImageBytes → List ℕ → Bool → ImageBytes
in_parts front flat tail sure = record {
  seen = front ++ flat.seen ++ tail;
  synced = front ++ flat.synced ++ (if sure then tail else []);
  seen_room = flat.seen_room;
  synced_room = flat.synced_room;
}

-- Where the last part is made sure of, so many bytes of the middle one are too, which has room for all bytes.
pub record IsInParts (front : List ℕ) (flat : ImageBytes) (tail : List ℕ) (sure : Bool) : Type 0 where
  pub whole : sure ≡ true → length flat.seen ≤ length flat.synced
  pub room : length front + length flat.seen + length tail ≤ flat.seen_room
