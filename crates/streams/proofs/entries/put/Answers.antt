use Rattle.std.proofs.Common.{◌≡◌, ◌<◌, ◌≤◌, ℕ, ap, sym, ◌∙◌, subst, arith, List, Result, Ok, Err, OnErr, is_ok, if◌then◌else◌, refl}
use Rattle.streams.specs.Table.{IsStrictlySorted, streams_in}
use Rattle.streams.proofs.Tables.{sorted_at, streams_set, sorted_gap, streams_insert}
use Rattle.streams.proofs.entries.put.Goals as goal

pub returns-in-Ok-clause-sorted : goal.returns-in-Ok-clause-sorted
returns-in-Ok-clause-sorted c = sorted_at _ c.requires.sorted c.args.listed.name c.in-Ok.at (rw (← c.name.ensures) c.in-Ok.ensures.found) c.args.listed refl

pub returns-in-Ok-clause-streams : goal.returns-in-Ok-clause-streams
returns-in-Ok-clause-streams c = streams_set _ c.requires.sorted c.args.listed.name c.in-Ok.at (rw (← c.name.ensures) c.in-Ok.ensures.found) c.args.listed refl c.args.listed

-- the new entry stands in its gap, since there was room
inserted : {T E X : Type 0} (r : Result T E) (new longer same : List X) (len capacity : ℕ) → new ≡ (if is_ok r then longer else same) → OnErr r (capacity ≤ len) → len < capacity → new ≡ longer
inserted (Ok x) new longer same len capacity is full room = is
inserted (Err x) new longer same len capacity is full room = absurd (omega (arith, full))

pub returns-in-Err-clause-sorted : goal.returns-in-Err-clause-sorted
returns-in-Err-clause-sorted c =
    subst IsStrictlySorted (sym (inserted _ _ _ _ _ _ c.insert-room_was_made.ensures.items c.insert-room_was_made.ensures.full c.requires.room))
    (sorted_gap _ c.args.listed.name c.in-Err.at (rw (← c.name.ensures) c.in-Err.ensures.absent) c.requires.sorted c.args.listed refl)

pub returns-in-Err-clause-streams : goal.returns-in-Err-clause-streams
returns-in-Err-clause-streams c =
    ap streams_in (inserted _ _ _ _ _ _ c.insert-room_was_made.ensures.items c.insert-room_was_made.ensures.full c.requires.room)
    ∙ streams_insert _ c.args.listed.name c.in-Err.at (rw (← c.name.ensures) c.in-Err.ensures.absent) c.args.listed refl
