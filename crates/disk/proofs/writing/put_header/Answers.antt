use Rattle.disk.proofs.Crash.{format_at1, format_at2, formatted}
use Rattle.disk.proofs.writing.put_header.Goals as goal

pub returns-in_err-write_at-clause-any_moment : goal.returns-in_err-write_at-clause-any_moment
returns-in_err-write_at-clause-any_moment g c = format_at1 (g.D.Disk.state c.args.disk.now) (g.D.Disk.state c.write_at.new.self) _ c.args.version _ c.empty_file-bytes.ensures c.requires.empty c.requires.durable (g.met.D.Disk.only_now c.args.disk.now) c.write_at.ensures

pub returns-clause-any_moment : goal.returns-clause-any_moment
returns-clause-any_moment g c = format_at2 (g.D.Disk.state c.args.disk.now) (g.D.Disk.state c.write_at.new.self) _ c.args.version _ c.empty_file-bytes.ensures c.requires.empty c.requires.durable (g.met.D.Disk.only_now c.args.disk.now) c.in_ok-write_at.ensures (g.D.Disk.state c.sync.new.self) _ c.sync.ensures

pub returns-clause-ok : goal.returns-clause-ok
returns-clause-ok g c = formatted (g.D.Disk.state c.args.disk.now) (g.D.Disk.state c.write_at.new.self) (g.D.Disk.state c.sync.new.self) _ c.args.version _ c.empty_file-bytes.ensures c.requires.empty c.in_ok-write_at.ensures c.sync.ensures
