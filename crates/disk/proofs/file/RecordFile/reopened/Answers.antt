use Rattle.disk.proofs.Outcomes.{err_side}
use Rattle.disk.proofs.file.RecordFile.reopened.Goals as goal

pub returns-clause-undamaged : goal.returns-clause-undamaged
returns-clause-undamaged g c = err_side _ _ c.open.result (c.open.ensures.only c.args.self.version c.args.self.records c.into_disk.ensures.stands)
