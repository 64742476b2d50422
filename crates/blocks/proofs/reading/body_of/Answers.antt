use Rattle.std.proofs.Common.{List, ℕ, sym, subst}
use Rattle.blocks.specs.Format.{IsEndOf}
use Rattle.blocks.proofs.Ends.{whole_end, slice_end}
use Rattle.blocks.proofs.reading.body_of.Goals as goal

pub fields_of-requires : goal.fields_of-requires
fields_of-requires c =
    let whole = subst (λ (l : List ℕ). IsEndOf l c.args.text.now) (sym c.as_slice.ensures) (whole_end c.args.text.now) in
    slice_end 1 c.as_slice.result.now c.args.text.now whole
