use Rattle.std.proofs.Common.{ap, ◌∙◌, Err}
use Rattle.std.proofs.lemmas.Result.{err_from_is_err_and}
use Rattle.disk.proofs.Appending.{IsReady, put1, put2, put3, put4}
use Rattle.disk.proofs.writing.put_woven.Goals as goal

pub returns-in_err-write_woven : goal.returns-in_err-write_woven
returns-in_err-write_woven g c = λ v rs added was fit text.
    let disk = c.args.disk.now in
    let is : IsReady v rs added c.args.end (g.D.Disk.state disk) c.args.text.now.bytes = record { fit = fit; was = was; text = text; only_now = g.met.D.Disk.only_now disk; there = g.met.D.Disk.synced_is_there disk; room = c.requires.room } in
    let p = err_from_is_err_and c.from_residual.result c.from_residual.ensures.1 in
    put1 v rs added c.args.end (g.D.Disk.state disk) c.args.text.now.bytes is (g.D.Disk.state c.write_woven.new.self) c.in_err-write_woven.field-0.0 _ (p.1 ∙ ap Err p.2) c.in_err-write_woven.ensures

pub returns-in_err-sync : goal.returns-in_err-sync
returns-in_err-sync g c = λ v rs added was fit text.
    let disk = c.args.disk.now in
    let is : IsReady v rs added c.args.end (g.D.Disk.state disk) c.args.text.now.bytes = record { fit = fit; was = was; text = text; only_now = g.met.D.Disk.only_now disk; there = g.met.D.Disk.synced_is_there disk; room = c.requires.room } in
    let p = err_from_is_err_and c.from_residual-in_err-sync.result c.from_residual-in_err-sync.ensures.1 in
    put2 v rs added c.args.end (g.D.Disk.state disk) c.args.text.now.bytes is (g.D.Disk.state c.write_woven.new.self) c.in_ok-write_woven.ensures (g.D.Disk.state c.sync.new.self) c.in_err-sync.field-0.0 _ (p.1 ∙ ap Err p.2) c.in_err-sync.ensures

pub returns-in_err-write_at : goal.returns-in_err-write_at
returns-in_err-write_at g c = λ v rs added was fit text.
    let disk = c.args.disk.now in
    let is : IsReady v rs added c.args.end (g.D.Disk.state disk) c.args.text.now.bytes = record { fit = fit; was = was; text = text; only_now = g.met.D.Disk.only_now disk; there = g.met.D.Disk.synced_is_there disk; room = c.requires.room } in
    let p = err_from_is_err_and c.from_residual-in_err-write_at.result c.from_residual-in_err-write_at.ensures.1 in
    put3 v rs added c.args.end (g.D.Disk.state disk) c.args.text.now.bytes is (g.D.Disk.state c.write_woven.new.self) c.in_ok-write_woven.ensures (g.D.Disk.state c.sync.new.self) c.in_ok-sync.ensures (g.D.Disk.state c.write_at.new.self) c.in_err-write_at.field-0.0 _ (p.1 ∙ ap Err p.2) c.in_err-write_at.ensures

pub returns : goal.returns
returns g c = λ v rs added was fit text.
    let disk = c.args.disk.now in
    let is : IsReady v rs added c.args.end (g.D.Disk.state disk) c.args.text.now.bytes = record { fit = fit; was = was; text = text; only_now = g.met.D.Disk.only_now disk; there = g.met.D.Disk.synced_is_there disk; room = c.requires.room } in
    put4 v rs added c.args.end (g.D.Disk.state disk) c.args.text.now.bytes is (g.D.Disk.state c.write_woven.new.self) c.in_ok-write_woven.ensures (g.D.Disk.state c.sync.new.self) c.in_ok-sync.ensures (g.D.Disk.state c.write_at.new.self) c.in_ok-write_at.ensures (g.D.Disk.state c.sync-2.new.self) _ c.sync-2.ensures
