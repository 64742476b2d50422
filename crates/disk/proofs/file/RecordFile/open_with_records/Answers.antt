use Rattle.std.proofs.Common.{List, ℕ, subst}
use Rattle.disk.specs.File.{IsFileOf, records_in}
use Rattle.disk.proofs.file.RecordFile.open_with_records.Goals as goal

pub returns-in-Ok-clause-no_file : goal.returns-in-Ok-clause-no_file
returns-in-Ok-clause-no_file g c = λ none.
    let v = c.in-Ok.version in
    let rs : List _ = records_in v (g.D.Disk.state c.find.new.disk).seen in
    none v rs (subst (λ (file : List ℕ). IsFileOf v rs file) c.in-Ok.ensures.seen c.in-Ok.ensures.ok.file)
