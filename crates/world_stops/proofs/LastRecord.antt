-- The record that an actor stops in stands by its disk's plan where it stands by the model's.
use Rattle.std.proofs.Common.{◌≡◌, ℕ, Bool, true, false, ◌&&◌, nat_lt, nat_le, List, [], Option, Some, None, option_map, refl, ap, ◌∙◌}
use Rattle.std.proofs.lemmas.Bool.{ltb-true, and_parts}
use Rattle.std.proofs.lemmas.Option.{same_Some}
use Rattle.block_types.specs.declared.record.Record.{Record}
use Rattle.disk.specs.declared.memory.Stop.{Stop}
use Rattle.wire.specs.declared.note.Note.{Note}
use Rattle.model_streams.specs.StreamSystem.{ActorCell, stands_in, stops_in}
use Rattle.world_stops.specs.LastRecord.{shown_if, stands_told}
use Rattle.world_stops.specs.Plan.{plan_of}
use Rattle.world_stops.proofs.StopInRecord.{plan_some}

either_first : (a b : Bool) → (a && b) ≡ (b && a)
either_first true true = refl
either_first true false = refl
either_first false true = refl
either_first false false = refl

told_as : (told : Option Stop) (c : ActorCell) → option_map {U = ℕ × Bool} (λ (s : Stop). (s.calls, s.keep)) told ≡ Some (c.fuse, c.keep) → stands_told told ≡ stands_in c
told_as None c is = absurd cc
told_as (Some s) c is =
    let same : (s.calls, s.keep) ≡ (c.fuse, c.keep) = same_Some (s.calls, s.keep) (c.fuse, c.keep) is in
    either_first s.keep (nat_le 3 s.calls) ∙ ap (λ (p : ℕ × Bool). nat_le 3 p.0 && p.1) same

-- the disk's plan to stop is that of the model's actor
pub told_stands : (told : Option Stop) (c : ActorCell) (k : Option Record) → option_map {U = ℕ × Bool} (λ (s : Stop). (s.calls, s.keep)) told ≡ plan_of c → stops_in c k ≡ true → stands_told told ≡ stands_in c
told_stands told c None is t = absurd cc
told_stands told c (Some r) is t =
    let b = and_parts (nat_lt 0 c.fuse) (nat_le c.fuse 4) t in
    told_as told c (is ∙ plan_some c (ltb-true 0 c.fuse b.0))

-- a rule that shows nothing shows nothing where it stops
pub shown_none : (b : Bool) (notes : List Note) → notes ≡ [] → shown_if b notes ≡ []
shown_none true notes none = none
shown_none false notes none = refl
