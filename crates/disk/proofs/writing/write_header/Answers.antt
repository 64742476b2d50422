use Rattle.std.proofs.Common.{[]}
use Rattle.disk.proofs.Making.{only_still, with_header}
use Rattle.disk.proofs.writing.write_header.Goals as goal

pub put_header-requires-clause-durable : goal.put_header-requires-clause-durable
put_header-requires-clause-durable g c = only_still (g.D.Disk.state c.args.disk.now) (g.D.Disk.state c.reserve.new.self) c.args.version [] c.requires.empty c.requires.durable (g.met.D.Disk.only_now c.args.disk.now) c.reserve.ensures.same

pub returns-clause-any_moment : goal.returns-clause-any_moment
returns-clause-any_moment g c = with_header (g.D.Disk.state c.args.disk.now) (g.D.Disk.state c.reserve.new.self) c.args.version [] c.requires.empty c.requires.durable (g.met.D.Disk.only_now c.args.disk.now) c.reserve.ensures.same (g.D.Disk.state c.put_header.new.disk) c.put_header.ensures.any_moment
