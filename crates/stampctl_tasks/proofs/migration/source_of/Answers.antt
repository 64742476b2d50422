use Rattle.std.proofs.Common.{◌≡◌, ◌∙◌, true, sym, subst, List}
use Rattle.std.specs.List.{AllByRecursion, list_any}
use Rattle.block_types.specs.declared.record.Record.{Record}
use Rattle.block_types.specs.declared.record.Version.TheVariants.{V2}
use Rattle.blocks.specs.Record.{Fits}
use Rattle.blocks.specs.Sizes.{is_long_fill}
use Rattle.disk.specs.File.{IsFileOf}
use Rattle.stampctl_tasks.proofs.migration.source_of.Goals as goal

pub have_no_long_fill-requires : goal.have_no_long_fill-requires
have_no_long_fill-requires c = (c.in-Ok.file.version, subst (AllByRecursion (Fits c.in-Ok.file.version)) (sym (c.deref.ensures.value ∙ c.in-Ok.ensures.records)) c.in-Ok.ensures.ok.2.fit)

pub returns-then-have_no_long_fill-clause-fit : goal.returns-then-have_no_long_fill-clause-fit
returns-then-have_no_long_fill-clause-fit c =
    subst (AllByRecursion (Fits V2)) (c.deref.ensures.value ∙ c.in-Ok.ensures.records) (c.have_no_long_fill.ensures.fit c.if-have_no_long_fill.true)

pub returns-else-have_no_long_fill-clause-damaged : goal.returns-else-have_no_long_fill-clause-damaged
returns-else-have_no_long_fill-clause-damaged c = λ damaged v rs is.
    let same = c.in-Ok.ensures.only v rs (subst (IsFileOf v rs) (sym c.from_bytes.ensures.seen) is) in
    subst (λ (xs : List Record). list_any is_long_fill xs ≡ true) (c.deref.ensures.value ∙ c.in-Ok.ensures.records ∙ same.1) (c.have_no_long_fill.ensures.long c.if-have_no_long_fill.false)

pub returns-in-Err-Damaged-default-clause-damaged : goal.returns-in-Err-Damaged-default-clause-damaged
returns-in-Err-Damaged-default-clause-damaged c = λ damaged v rs is.
    absurd (c.in-Err-Damaged-default.ensures.only v rs (subst (IsFileOf v rs) (sym c.from_bytes.ensures.seen) is) c.in-Err-Damaged-default.field-0-0-is)
