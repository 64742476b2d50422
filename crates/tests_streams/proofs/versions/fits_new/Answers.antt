use Rattle.std.proofs.Common.{List, subst, sym, ◌∙◌}
use Rattle.std.specs.List.{AllByRecursion}
use Rattle.block_types.specs.declared.record.Record.{Record}
use Rattle.block_types.specs.declared.record.Version.TheVariants.{V2}
use Rattle.blocks.specs.Record.{Fits}
use Rattle.tests_streams.proofs.versions.fits_new.Goals as goal

pub all_fit-requires : goal.all_fit-requires
all_fit-requires c = (
  c.args.file.now.version,
  subst (λ (rs : List Record). AllByRecursion (Fits c.args.file.now.version) rs) (sym (c.deref.ensures.value ∙ c.in_ok-records.ensures.ok)) c.requires,
)

pub returns : goal.returns
returns c = λ fits. subst (λ (rs : List Record). AllByRecursion (Fits V2) rs) (c.deref.ensures.value ∙ c.in_ok-records.ensures.ok) (c.all_fit.ensures fits V2)
