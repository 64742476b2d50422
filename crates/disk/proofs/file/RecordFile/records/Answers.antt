use Rattle.std.proofs.Common.{◌≡◌, sym, subst, List}
use Rattle.std.proofs.lemmas.Result.{err_from_is_err_and}
use Rattle.disk.specs.File.{IsFileOf, records_in}
use Rattle.disk.proofs.file.RecordFile.records.Goals as goal

pub returns-in_err-records-clause-damaged : goal.returns-in_err-records-clause-damaged
returns-in_err-records-clause-damaged g c = λ damaged.
    let p = err_from_is_err_and c.from_residual-in_err-records.result c.from_residual-in_err-records.ensures.1 in
    let it = c.self.inside in
    let rs : List _ = records_in it.version (g.D.Disk.state it.disk).seen in
    let same : c.in_ok-bytes.bytes.items ≡ (g.D.Disk.state it.disk).seen = c.in_ok-bytes.ensures in
    let memory = c.in_err-records.ensures.only it.version rs (subst (IsFileOf it.version rs) (sym same) c.self.invariant.file) in
    cc (damaged, p.1, p.2, memory)

pub returns-clause-ok : goal.returns-clause-ok
returns-clause-ok g c =
    let it = c.self.inside in
    let rs : List _ = records_in it.version (g.D.Disk.state it.disk).seen in
    let same : c.in_ok-bytes.bytes.items ≡ (g.D.Disk.state it.disk).seen = c.in_ok-bytes.ensures in
    rw (← c.self.view_is) (c.in_ok-records.ensures.only it.version rs (subst (IsFileOf it.version rs) (sym same) c.self.invariant.file)).1
