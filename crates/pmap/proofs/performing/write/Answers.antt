use Rattle.std.proofs.Common.{arith, ap, length}
use Rattle.model_partition.proofs.Spelling.{spelled_few}
use Rattle.pmap.proofs.performing.write.Goals as goal

pub append-requires-clause-fits : goal.append-requires-clause-fits
append-requires-clause-fits g c = omega (arith, ap length c.in_ok-text.ensures, spelled_few c.args.new_record.now c.requires.short)
