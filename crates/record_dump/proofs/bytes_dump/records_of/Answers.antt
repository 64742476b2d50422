use Rattle.std.proofs.Common.{ℕ, List, subst, sym}
use Rattle.disk.specs.File.{IsFileOf}
use Rattle.record_dump.proofs.bytes_dump.records_of.Goals as goal

pub returns-in-Err-Damaged-default-clause-damaged : goal.returns-in-Err-Damaged-default-clause-damaged
returns-in-Err-Damaged-default-clause-damaged c =
    λ told v rs is. c.in-Err-Damaged-default.ensures.only v rs
    (subst (λ (file : List ℕ). IsFileOf v rs file) (sym c.from_bytes.ensures.seen) is) c.in-Err-Damaged-default.field-0-0-is
