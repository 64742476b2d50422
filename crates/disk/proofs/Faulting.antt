-- The call that fails of a disk, as any disk's.
use Rattle.std.proofs.Common.{◌≡◌, ℕ, List, length, Result, Err, refl, ap, arith, inl}
use Rattle.disk.specs.declared.device.DiskFault.{DiskFault}
use Rattle.disk.specs.declared.device.DiskFault.TheVariants.{Failed}
use Rattle.disk.specs.Disk.{DiskState, Writes, Syncs}
use Rattle.disk.specs.declared.fault_disk.FaultDisk.{FaultDisk}
use Rattle.disk.specs.Faulting.{fault_state, failures_made}
use Rattle.disk.proofs.Images.{torn_none}

module _ {D : Type 0} (state : D → DiskState) (f : FaultDisk D) (due : f.left ≡ 1) where
  none_yet : failures_made f.left ≡ 0
  none_yet = ap failures_made due

  pub lost_write : (at : ℕ) (bytes : List ℕ) → Writes (fault_state state f) (fault_state state (record f { left = 0 })) at bytes (Err Failed)
  lost_write at bytes = record {
    written = tt;
    crash = λ c left. (c, left, torn_none at (length bytes) c);
    time = record { later = omega arith; nothing_else = λ t c le left. inl left; keeps = λ t c le left. left };
    cause = record { later = omega (arith, none_yet); failed = λ _. omega (arith, none_yet) };
    spent = λ _. tt;
    synced = tt;
    stops = record { goes_on = λ n keep told. absurd (cc told); fails = λ n keep told. absurd (cc told); steady = λ it. absurd (let s = it.0 in cc s); sure = refl };
    memory = λ _ _ bad. absurd (cc bad);
  }

  pub lost_sync : Syncs (fault_state state f) (fault_state state (record f { left = 0 })) (Err Failed)
  lost_sync = record {
    durable = tt;
    seen = tt;
    crash = λ c left. left;
    time = record { later = omega arith; nothing_else = λ t c le left. inl left; keeps = λ t c le left. left };
    cause = record { later = omega (arith, none_yet); failed = λ _. omega (arith, none_yet) };
    spent = tt;
    synced = tt;
    stops = record { goes_on = λ n keep told. absurd (cc told); fails = λ n keep told. absurd (cc told); steady = λ it. absurd (let s = it.0 in cc s); sure = refl };
    memory = λ _ bad. absurd (cc bad);
  }

  pub kept_write : (new : D) (at : ℕ) (bytes : List ℕ) (r : Result Unit DiskFault) → Writes (state f.disk) (state new) at bytes r → Writes (fault_state state f) (fault_state state (record f { disk = new; left = 0 })) at bytes (Err Failed)
  kept_write new at bytes r w = record {
    written = tt;
    crash = w.crash;
    time = record { later = w.time.later; nothing_else = w.time.nothing_else; keeps = w.time.keeps };
    cause = record { later = omega (arith, none_yet, w.cause.later); failed = λ _. omega (arith, none_yet, w.cause.later) };
    spent = λ _. tt;
    synced = tt;
    stops = record { goes_on = λ n keep told. absurd (cc told); fails = λ n keep told. absurd (cc told); steady = λ it. absurd (let s = it.0 in cc s); sure = refl };
    memory = λ _ _ bad. absurd (cc bad);
  }
