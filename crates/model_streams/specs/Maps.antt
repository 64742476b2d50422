-- Total maps, as functions that are changed at one place, and lists that are numbered from 1.
use Rattle.std.specs.Prelude.{ℕ, zero, suc, ◌&&◌, ◌==◌, List, Option, None, slice_get, if◌then◌else◌}

-- with one value at one key
abbrev pub changed : {A : Type 0} → ℕ → A → (ℕ → A) → ℕ → A
changed k v f x = if x == k then v else f x

-- with one value at one pair of keys
abbrev pub changed_at : {A : Type 0} → ℕ → ℕ → A → (ℕ → ℕ → A) → ℕ → ℕ → A
changed_at n e v f m k = if (m == n) && (k == e) then v else f m k

-- the entry of a number, counted from 1
abbrev pub entry_at : {A : Type 0} → List A → ℕ → Option A
entry_at xs zero = None
entry_at xs (suc n) = slice_get xs n
