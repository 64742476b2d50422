use Rattle.std.proofs.Common.{◌≡◌, ◌+◌, ap, ◌∙◌, arith, length, Err, refl}
use Rattle.std.proofs.lemmas.Result.{err_from_is_err_and}
use Rattle.disk.proofs.Files.{gate_within}
use Rattle.disk.proofs.Appending.{is_open, unchanged, untouched, puts_one, appends_failed, appends_ok, stands_stopped, stands_running}
use Rattle.disk.proofs.file.RecordFile.append.Goals as goal

pub returns-in_err-text-clause-any_moment : goal.returns-in_err-text-clause-any_moment
returns-in_err-text-clause-any_moment g c =
    let it = c.self.inside in
    unchanged g.D.Disk.state it.disk it.version it.end it.stopped _ c.self.view_is c.self.invariant c.requires.running c.args.added.now (g.met.D.Disk.only_now it.disk)

pub overflow_add-next : goal.overflow_add-next
overflow_add-next g c =
    let it = c.self.inside in
    let was = is_open g.D.Disk.state it.disk it.version it.end it.stopped _ c.self.view_is c.self.invariant c.requires.running in
    omega (arith, gate_within (g.D.Disk.state it.disk) it.version it.end _ was, c.len-size.ensures.bound, c.len-size.ensures.value)

pub overflow_add-next-2 : goal.overflow_add-next-2
overflow_add-next-2 g c =
    let it = c.self.inside in
    let was = is_open g.D.Disk.state it.disk it.version it.end it.stopped _ c.self.view_is c.self.invariant c.requires.running in
    omega (arith, gate_within (g.D.Disk.state it.disk) it.version it.end _ was, c.len-size.ensures.bound, c.len-size.ensures.value)

pub returns-in_err-reserve-clause-any_moment : goal.returns-in_err-reserve-clause-any_moment
returns-in_err-reserve-clause-any_moment g c =
    let it = c.self.inside in
    untouched g.D.Disk.state it.disk it.version it.end it.stopped _ c.self.view_is c.self.invariant c.requires.running c.args.added.now (g.met.D.Disk.only_now it.disk) (g.D.Disk.state c.reserve.new.self) c.reserve.ensures.same

pub put_woven-requires-clause-within : goal.put_woven-requires-clause-within
put_woven-requires-clause-within g c =
    let it = c.self.inside in
    let was = is_open g.D.Disk.state it.disk it.version it.end it.stopped _ c.self.view_is c.self.invariant c.requires.running in
    omega (arith, gate_within (g.D.Disk.state it.disk) it.version it.end _ was, ap length c.reserve.ensures.same.seen)

pub invariant_of-self-in_err-put_woven : goal.invariant_of-self-in_err-put_woven
invariant_of-self-in_err-put_woven g c =
    let it = c.self.inside in
    let puts = puts_one g.D.Disk.state it.disk it.version it.end it.stopped _ c.self.view_is c.self.invariant c.requires.running c.args.added.now (g.met.D.Disk.only_now it.disk) (g.D.Disk.state c.reserve.new.self) (g.D.Disk.state c.put_woven.new.disk) c.in_ok-text.text.bytes c.in_ok-text.text.bytes _ c.requires.fits c.reserve.ensures.same c.in_ok-text.ensures refl c.in_err-put_woven.ensures in
    stands_stopped g.D.Disk.state it.disk c.put_woven.new.disk it.version it.end c.args.added.now _ (g.met.D.Disk.counts_now c.put_woven.new.disk) (g.met.D.Disk.seen_is_there c.put_woven.new.disk) puts

pub returns-in_err-put_woven : goal.returns-in_err-put_woven
returns-in_err-put_woven g c =
    let it = c.self.inside in
    let puts = puts_one g.D.Disk.state it.disk it.version it.end it.stopped _ c.self.view_is c.self.invariant c.requires.running c.args.added.now (g.met.D.Disk.only_now it.disk) (g.D.Disk.state c.reserve.new.self) (g.D.Disk.state c.put_woven.new.disk) c.in_ok-text.text.bytes c.in_ok-text.text.bytes _ c.requires.fits c.reserve.ensures.same c.in_ok-text.ensures refl c.in_err-put_woven.ensures in
    let p = err_from_is_err_and c.from_residual-in_err-put_woven.result c.from_residual-in_err-put_woven.ensures.1 in
    rw (← c.self.view_is) (record {
      appends = appends_failed g.D.Disk.state it.disk c.put_woven.new.disk it.version it.end c.args.added.now it.stopped _ _ (p.1 ∙ ap Err p.2) (g.met.D.Disk.counts_now c.put_woven.new.disk) (g.met.D.Disk.seen_is_there c.put_woven.new.disk) puts;
      any_moment = puts.left;
    })

pub invariant_of-self-2 : goal.invariant_of-self-2
invariant_of-self-2 g c =
    let it = c.self.inside in
    let puts = puts_one g.D.Disk.state it.disk it.version it.end it.stopped _ c.self.view_is c.self.invariant c.requires.running c.args.added.now (g.met.D.Disk.only_now it.disk) (g.D.Disk.state c.reserve.new.self) (g.D.Disk.state c.put_woven.new.disk) c.in_ok-text.text.bytes c.in_ok-text.text.bytes _ c.requires.fits c.reserve.ensures.same c.in_ok-text.ensures refl c.in_ok-put_woven.ensures in
    let place : it.end + length c.in_ok-text.text.bytes ≡ it.end + c.len.result = omega (arith, c.len.ensures) in
    stands_running g.D.Disk.state it.disk c.put_woven.new.disk it.version it.end c.args.added.now c.in_ok-text.text.bytes _ c.in_ok-text.ensures place puts

pub returns : goal.returns
returns g c =
    let it = c.self.inside in
    let puts = puts_one g.D.Disk.state it.disk it.version it.end it.stopped _ c.self.view_is c.self.invariant c.requires.running c.args.added.now (g.met.D.Disk.only_now it.disk) (g.D.Disk.state c.reserve.new.self) (g.D.Disk.state c.put_woven.new.disk) c.in_ok-text.text.bytes c.in_ok-text.text.bytes _ c.requires.fits c.reserve.ensures.same c.in_ok-text.ensures refl c.in_ok-put_woven.ensures in
    rw (← c.self.view_is) (record {
      appends = appends_ok g.D.Disk.state it.disk c.put_woven.new.disk it.version it.end c.args.added.now it.stopped puts;
      any_moment = puts.left;
    })
