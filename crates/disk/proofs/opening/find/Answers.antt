use Rattle.std.proofs.Common.{◌≡◌, sym, ap, subst, ◌∙◌}
use Rattle.std.proofs.lemmas.Result.{err_from_is_err_and}
use Rattle.block_types.specs.declared.record.Version.{Version}
use Rattle.disk.specs.File.{IsFileOf, records_in}
use Rattle.disk.specs.Faults.{of_block}
use Rattle.disk.proofs.Files.{opened_as, records_in-file}
use Rattle.disk.proofs.opening.find.Goals as goal

pub returns-in_err-version-clause-only : goal.returns-in_err-version-clause-only
returns-in_err-version-clause-only g c = λ v rs is.
    let p = err_from_is_err_and c.from_residual-in_err-version.result c.from_residual-in_err-version.ensures.1 in
    let same : c.in_ok-bytes.bytes.items ≡ (g.D.Disk.state c.args.disk.now).seen = c.in_ok-bytes.ensures ∙ c.in_ok-sync.ensures.seen in
    let memory = c.in_err-version.ensures.only v rs (subst (IsFileOf v rs) (sym same) is) in
    let e = p.2 ∙ ap of_block memory in
    rw (p.1, e) (λ no. cc no)

pub returns-clause-ok : goal.returns-clause-ok
returns-clause-ok g c =
    let found = c.in_ok-version.ensures.found in
    let now = g.D.Disk.state c.sync.new.self in
    opened_as now c.in_ok-version.version c.in_ok-version.records.items c.in_ok-version.end c.in_ok-bytes.bytes.items found.0 found.1 c.in_ok-bytes.ensures
    (λ f left. c.in_ok-sync.ensures.durable f left ∙ sym c.in_ok-sync.ensures.seen)

pub returns-clause-records : goal.returns-clause-records
returns-clause-records g c =
    let v = c.in_ok-version.version in
    let rs = c.in_ok-version.records.items in
    let now = g.D.Disk.state c.sync.new.self in
    sym (records_in-file v rs now.seen (subst (IsFileOf v rs) c.in_ok-bytes.ensures c.in_ok-version.ensures.found.0))

pub returns-clause-only : goal.returns-clause-only
returns-clause-only g c = λ v rs is.
    let now = g.D.Disk.state c.sync.new.self in
    let here : IsFileOf v rs now.seen = subst (IsFileOf v rs) (sym c.in_ok-sync.ensures.seen) is in
    let same : c.in_ok-bytes.bytes.items ≡ now.seen = c.in_ok-bytes.ensures in
    let only = c.in_ok-version.ensures.only v rs (subst (IsFileOf v rs) (sym same) here) in
    (only.0, ap (λ (w : Version). records_in w now.seen) only.0 ∙ records_in-file v rs now.seen here)
