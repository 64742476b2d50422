-- What a rule's record leaves of a file whose actor may stop in it.
use Rattle.std.proofs.Common.{◌≡◌, ◌≢◌, ◌⊎◌, ℕ, zero, suc, ◌<◌, Bool, true, false, ◌==◌, ◌&&◌, nat_lt, nat_le, if◌then◌else◌, [], ◌∷◌, ◌++◌, Option, Some, None, Ok, Err, refl, sym, ap, ◌∙◌, inl, inr, ⊎_elim, arith}
use Rattle.std.proofs.lemmas.Bool.{and_cases, ltb-true, ltb-false, leb-true, leb-false, eqb-true, and_parts}
use Rattle.disk.specs.declared.device.DiskFault.TheVariants.{Failed, Memory}
use Rattle.disk.specs.declared.memory.MemDisk.{MemDisk}
use Rattle.disk.specs.Memory.{memory_state}
use Rattle.disk.specs.Filed.{Filed}
use Rattle.disk.specs.Appends.{Records, listed}
use Rattle.block_types.specs.declared.record.Record.{Record}
use Rattle.wire.specs.declared.packet.Step.{Step}
use Rattle.model_streams.specs.StreamSystem.{ActorCell, armed, burnt, stops_in, stands_in}
use Rattle.model_streams.proofs.Tests.{if_elim}
use Rattle.world_stops.specs.Plan.{plan_of}

zero_or : (k : ℕ) → (k ≡ 0) ⊎ (0 < k)
zero_or zero = inl refl
zero_or (suc k) = inr (omega arith)

plan_zero : (c : ActorCell) → c.fuse ≡ 0 → plan_of c ≡ None
plan_zero c z = ap (λ (k : ℕ). if k == 0 then None else Some (k, c.keep)) z

pub plan_some : (c : ActorCell) → 0 < c.fuse → plan_of c ≡ Some (c.fuse, c.keep)
plan_some c l = if_elim (λ z. z ≡ Some (c.fuse, c.keep)) (c.fuse == 0) None (Some (c.fuse, c.keep)) (λ t. absurd (let z = eqb-true c.fuse 0 t in omega arith)) (λ f. refl)

pub burnt_up : (c : ActorCell) (k : Option Record) → (burnt c k).up ≡ c.up
burnt_up c None = refl
burnt_up c (Some r) = refl

-- a rule's record, where there is one: the file runs on
pub up_ok : (old new : Filed MemDisk) (k : Option Record) (s : Step) → Records memory_state old new (listed k) (Ok s) → old.stopped ≡ false → new.stopped ≡ false
up_ok old new None s h up = ap (λ (f : Filed MemDisk). f.stopped) h.0 ∙ up
up_ok old new (Some r) s h up = h.ok.0

-- and its disk's plan is the one of the model
pub plan_ok : (old new : Filed MemDisk) (k : Option Record) (s : Step) (c : ActorCell) → Records memory_state old new (listed k) (Ok s) → (memory_state old.disk).stop ≡ plan_of c → stops_in c k ≡ false →
    (memory_state new.disk).stop ≡ plan_of (burnt c k)
plan_ok old new None s c h told f = ap (λ (x : Filed MemDisk). (memory_state x.disk).stop) h.0 ∙ told
plan_ok old new (Some r) s c h told f =
    ⊎_elim
    (λ z. (h.steady (refl, told ∙ plan_zero c z)).1.1 ∙ sym (plan_zero (burnt c (Some r)) (omega (arith, z))))
    (λ l. let far : 4 < c.fuse = ⊎_elim (λ a. absurd (let b = ltb-false 0 c.fuse a in omega arith)) (λ b. leb-false c.fuse 4 b) (and_cases (nat_lt 0 c.fuse) (nat_le c.fuse 4) f) in
    (h.later c.fuse c.keep (told ∙ plan_some c l) far).1 ∙ sym (plan_some (burnt c (Some r)) (omega arith)))
    (zero_or c.fuse)

pub no_stop : (old new : Filed MemDisk) (k : Option Record) (s : Step) (c : ActorCell) → Records memory_state old new (listed k) (Ok s) → (memory_state old.disk).stop ≡ plan_of c → stops_in c k ≡ true → ⊥
no_stop old new None s c h told t = absurd cc
no_stop old new (Some r) s c h told t =
    let b = and_parts (nat_lt 0 c.fuse) (nat_le c.fuse 4) t in
    let l = ltb-true 0 c.fuse b.0 in
    (h.stop c.fuse c.keep (told ∙ plan_some c l) (omega arith) (leb-true c.fuse 4 b.1)).0 refl

pub broken_stops : (old new : Filed MemDisk) (k : Option Record) (c : ActorCell) → Records {T = Step} memory_state old new (listed k) (Err Failed) → (memory_state old.disk).stop ≡ plan_of c → stops_in c k ≡ false → ⊥
broken_stops old new None c h told f = h.1 refl
broken_stops old new (Some r) c h told f =
    ⊎_elim
    (λ z. (h.steady (refl, told ∙ plan_zero c z)).0 refl)
    (λ l. let far : 4 < c.fuse = ⊎_elim (λ a. absurd (let b = ltb-false 0 c.fuse a in omega arith)) (λ b. leb-false c.fuse 4 b) (and_cases (nat_lt 0 c.fuse) (nat_le c.fuse 4) f) in
    (h.later c.fuse c.keep (told ∙ plan_some c l) far).0 refl)
    (zero_or c.fuse)

swapped : (a b : Bool) {A : Type 0} (x y : A) → (if a && b then x else y) ≡ (if b && a then x else y)
swapped true true x y = refl
swapped true false x y = refl
swapped false true x y = refl
swapped false false x y = refl

pub broken_down : (old new : Filed MemDisk) (k : Option Record) → Records {T = Step} memory_state old new (listed k) (Err Failed) → new.stopped ≡ true
broken_down old new None h = absurd (h.1 refl)
broken_down old new (Some r) h = (h.failed refl).0

pub broken_records : (old new : Filed MemDisk) (k : Option Record) (c : ActorCell) → Records {T = Step} memory_state old new (listed k) (Err Failed) → (memory_state old.disk).stop ≡ plan_of c → stops_in c k ≡ true →
    new.records ≡ (if stands_in c then old.records ++ listed k else old.records)
broken_records old new None c h told t = absurd (h.1 refl)
broken_records old new (Some r) c h told t =
    let b = and_parts (nat_lt 0 c.fuse) (nat_le c.fuse 4) t in
    let l = ltb-true 0 c.fuse b.0 in
    ((h.stop c.fuse c.keep (told ∙ plan_some c l) (omega arith) (leb-true c.fuse 4 b.1)).1 refl).1
    ∙ swapped c.keep (nat_le 3 c.fuse) (old.records ++ r ∷ []) old.records

-- nothing of the file has changed where no memory was left
pub short_same : (old new : Filed MemDisk) (k : Option Record) → Records {T = Step} memory_state old new (listed k) (Err Memory) →
    (new.records ≡ old.records) × (new.stopped ≡ old.stopped) × ((memory_state new.disk).stop ≡ (memory_state old.disk).stop)
short_same old new None h = (ap (λ (f : Filed MemDisk). f.records) h.0, ap (λ (f : Filed MemDisk). f.stopped) h.0, ap (λ (f : Filed MemDisk). (memory_state f.disk).stop) h.0)
short_same old new (Some r) h = ((h.memory refl).records, (h.memory refl).stopped, (h.memory refl).disk.stop)

pub plan_armed : (call : ℕ) (keep : Bool) → call ≢ 0 → plan_of (armed call keep) ≡ Some (call, keep)
plan_armed call keep some = if_elim (λ z. z ≡ Some (call, keep)) (call == 0) None (Some (call, keep)) (λ t. absurd (some (eqb-true call 0 t))) (λ f. refl)
