use Rattle.std.proofs.Common.{◌≡◌, ◌∙◌, ◌+◌, ap, arith, length, refl, sym, Err}
use Rattle.std.proofs.lemmas.Result.{err_from_is_err_and}
use Rattle.disk.specs.File.{opened}
use Rattle.disk.proofs.Files.{renamed}
use Rattle.disk.proofs.Making.{with_all, puts_all, last_place, handed, all_later, all_failed, all_steady}
use Rattle.disk.proofs.writing.write_file.Goals as goal

pub returns-in_err-put_records-clause-steady : goal.returns-in_err-put_records-clause-steady
returns-in_err-put_records-clause-steady g c =
    let was = g.D.Disk.state c.args.disk.now in
    let roomy = g.D.Disk.state c.reserve.new.self in
    let made = g.D.Disk.state c.put_header.new.disk in
    let now = g.D.Disk.state c.put_records.new.disk in
    let puts = puts_all made now c.args.version c.args.records.now c.in_ok-text.text.items _ _ (sym c.is_empty.ensures ∙ c.if-is_empty.false) c.in_ok-text.ensures c.deref.ensures.value c.requires.fit c.in_ok-put_header.ensures.ok c.in_err-put_records.ensures in
    let p = err_from_is_err_and c.from_residual-in_err-put_records.result c.from_residual-in_err-put_records.ensures.1 in
    λ steady. let it = all_steady was roomy made now c.args.version c.args.records.now _ c.reserve.ensures.same c.put_header.ensures.later (λ steady. (c.put_header.ensures.steady steady).1) puts steady in (λ bad. it.0 (handed _ _ c.from_residual-in_err-put_records.result (p.1 ∙ ap Err p.2) bad), it.1)

pub returns-in_err-put_records-clause-any_moment : goal.returns-in_err-put_records-clause-any_moment
returns-in_err-put_records-clause-any_moment g c =
    let was = g.D.Disk.state c.args.disk.now in
    let roomy = g.D.Disk.state c.reserve.new.self in
    let made = g.D.Disk.state c.put_header.new.disk in
    let now = g.D.Disk.state c.put_records.new.disk in
    let puts = puts_all made now c.args.version c.args.records.now c.in_ok-text.text.items _ _ (sym c.is_empty.ensures ∙ c.if-is_empty.false) c.in_ok-text.ensures c.deref.ensures.value c.requires.fit c.in_ok-put_header.ensures.ok c.in_err-put_records.ensures in
    with_all was roomy c.args.version c.args.records.now c.requires.empty c.requires.durable (g.met.D.Disk.only_now c.args.disk.now) c.reserve.ensures.same made now c.put_header.ensures.any_moment puts.left

pub returns-in_err-put_records-clause-memory : goal.returns-in_err-put_records-clause-memory
returns-in_err-put_records-clause-memory g c =
    let was = g.D.Disk.state c.args.disk.now in
    let roomy = g.D.Disk.state c.reserve.new.self in
    let made = g.D.Disk.state c.put_header.new.disk in
    let now = g.D.Disk.state c.put_records.new.disk in
    let puts = puts_all made now c.args.version c.args.records.now c.in_ok-text.text.items _ _ (sym c.is_empty.ensures ∙ c.if-is_empty.false) c.in_ok-text.ensures c.deref.ensures.value c.requires.fit c.in_ok-put_header.ensures.ok c.in_err-put_records.ensures in
    let p = err_from_is_err_and c.from_residual-in_err-put_records.result c.from_residual-in_err-put_records.ensures.1 in
    λ bad. absurd (puts.memory (handed _ _ c.from_residual-in_err-put_records.result (p.1 ∙ ap Err p.2) bad))

pub returns-in_err-put_records-clause-failed : goal.returns-in_err-put_records-clause-failed
returns-in_err-put_records-clause-failed g c =
    let was = g.D.Disk.state c.args.disk.now in
    let roomy = g.D.Disk.state c.reserve.new.self in
    let made = g.D.Disk.state c.put_header.new.disk in
    let now = g.D.Disk.state c.put_records.new.disk in
    let puts = puts_all made now c.args.version c.args.records.now c.in_ok-text.text.items _ _ (sym c.is_empty.ensures ∙ c.if-is_empty.false) c.in_ok-text.ensures c.deref.ensures.value c.requires.fit c.in_ok-put_header.ensures.ok c.in_err-put_records.ensures in
    let p = err_from_is_err_and c.from_residual-in_err-put_records.result c.from_residual-in_err-put_records.ensures.1 in
    λ bad. all_failed was roomy made now c.args.version c.args.records.now _ c.reserve.ensures.same c.put_header.ensures.later (λ steady. (c.put_header.ensures.steady steady).1) puts (handed _ _ c.from_residual-in_err-put_records.result (p.1 ∙ ap Err p.2) bad)

pub returns-in_err-put_records-clause-later : goal.returns-in_err-put_records-clause-later
returns-in_err-put_records-clause-later g c =
    let was = g.D.Disk.state c.args.disk.now in
    let roomy = g.D.Disk.state c.reserve.new.self in
    let made = g.D.Disk.state c.put_header.new.disk in
    let now = g.D.Disk.state c.put_records.new.disk in
    let puts = puts_all made now c.args.version c.args.records.now c.in_ok-text.text.items _ _ (sym c.is_empty.ensures ∙ c.if-is_empty.false) c.in_ok-text.ensures c.deref.ensures.value c.requires.fit c.in_ok-put_header.ensures.ok c.in_err-put_records.ensures in
    all_later was roomy made now c.args.version c.args.records.now _ c.reserve.ensures.same c.put_header.ensures.later (λ steady. (c.put_header.ensures.steady steady).1) puts

pub returns-clause-ok : goal.returns-clause-ok
returns-clause-ok g c =
    let was = g.D.Disk.state c.args.disk.now in
    let roomy = g.D.Disk.state c.reserve.new.self in
    let made = g.D.Disk.state c.put_header.new.disk in
    let now = g.D.Disk.state c.put_records.new.disk in
    let puts = puts_all made now c.args.version c.args.records.now c.in_ok-text.text.items _ _ (sym c.is_empty.ensures ∙ c.if-is_empty.false) c.in_ok-text.ensures c.deref.ensures.value c.requires.fit c.in_ok-put_header.ensures.ok c.in_ok-put_records.ensures in
    let place : 4 + length (opened c.args.version c.args.records.now) ≡ 3 + c.len-end.result = omega (arith, last_place c.args.version c.args.records.now c.in_ok-text.text.items c.in_ok-text.ensures, c.len-end.ensures) in
    renamed now c.args.version _ _ _ _ place refl puts.ok

pub returns-clause-steady : goal.returns-clause-steady
returns-clause-steady g c =
    let was = g.D.Disk.state c.args.disk.now in
    let roomy = g.D.Disk.state c.reserve.new.self in
    let made = g.D.Disk.state c.put_header.new.disk in
    let now = g.D.Disk.state c.put_records.new.disk in
    let puts = puts_all made now c.args.version c.args.records.now c.in_ok-text.text.items _ _ (sym c.is_empty.ensures ∙ c.if-is_empty.false) c.in_ok-text.ensures c.deref.ensures.value c.requires.fit c.in_ok-put_header.ensures.ok c.in_ok-put_records.ensures in
    λ steady. let it = all_steady was roomy made now c.args.version c.args.records.now _ c.reserve.ensures.same c.put_header.ensures.later (λ steady. (c.put_header.ensures.steady steady).1) puts steady in (λ bad. absurd (cc bad), it.1)

pub returns-clause-any_moment : goal.returns-clause-any_moment
returns-clause-any_moment g c =
    let was = g.D.Disk.state c.args.disk.now in
    let roomy = g.D.Disk.state c.reserve.new.self in
    let made = g.D.Disk.state c.put_header.new.disk in
    let now = g.D.Disk.state c.put_records.new.disk in
    let puts = puts_all made now c.args.version c.args.records.now c.in_ok-text.text.items _ _ (sym c.is_empty.ensures ∙ c.if-is_empty.false) c.in_ok-text.ensures c.deref.ensures.value c.requires.fit c.in_ok-put_header.ensures.ok c.in_ok-put_records.ensures in
    with_all was roomy c.args.version c.args.records.now c.requires.empty c.requires.durable (g.met.D.Disk.only_now c.args.disk.now) c.reserve.ensures.same made now c.put_header.ensures.any_moment puts.left

pub returns-clause-later : goal.returns-clause-later
returns-clause-later g c =
    let was = g.D.Disk.state c.args.disk.now in
    let roomy = g.D.Disk.state c.reserve.new.self in
    let made = g.D.Disk.state c.put_header.new.disk in
    let now = g.D.Disk.state c.put_records.new.disk in
    let puts = puts_all made now c.args.version c.args.records.now c.in_ok-text.text.items _ _ (sym c.is_empty.ensures ∙ c.if-is_empty.false) c.in_ok-text.ensures c.deref.ensures.value c.requires.fit c.in_ok-put_header.ensures.ok c.in_ok-put_records.ensures in
    all_later was roomy made now c.args.version c.args.records.now _ c.reserve.ensures.same c.put_header.ensures.later (λ steady. (c.put_header.ensures.steady steady).1) puts
