use Rattle.enode.proofs.NewReplica.{made_ok, made_err}
use Rattle.enode.proofs.making.make_taken.Goals as goal

pub returns-in-Ok : goal.returns-in-Ok
returns-in-Ok g c = made_ok g.D.Disk.state _ _ _ _ c.args.extent c.new-made.result c.args.places c.args.target c.args.fence c.silent.result c.write_make.result
    c.in_ok-insert_new.ensures.here c.new-made.ensures c.in_ok-insert_new.ensures.elsewhere c.in-Ok.is c.silent.ensures.packets c.silent.ensures.notes c.write_make.ensures

pub returns-in-Err : goal.returns-in-Err
returns-in-Err g c = made_err g.D.Disk.state _ _ _ _ _ c.args.extent c.args.places c.args.target c.args.fence c.in-Err.fault c.write_make.result
    c.requires.absent c.in_ok-insert_new.ensures.elsewhere c.remove_new.ensures.gone c.remove_new.ensures.elsewhere c.in-Err.is c.write_make.ensures
