use Rattle.std.proofs.Common.{refl, sym}
use Rattle.block_types.specs.declared.record.Version.TheVariants.{V2}
use Rattle.disk.proofs.Files.{records_in-file, renamed, kept_open}
use Rattle.disk.proofs.file.RecordFile.format.Goals as goal

pub invariant_of-result : goal.invariant_of-result
invariant_of-result g c = kept_open _ _ _ _ _ (renamed _ V2 4 4 _ _ refl (sym (records_in-file V2 _ _ c.in-Ok.ensures.ok.file)) c.in-Ok.ensures.ok)

pub returns-in-Ok-clause-ok : goal.returns-in-Ok-clause-ok
returns-in-Ok-clause-ok g c = (refl, refl, records_in-file V2 _ _ c.in-Ok.ensures.ok.file)
