use Rattle.std.proofs.Common.{◌≡◌, ◌-◌, List, ℕ, length, take, drop, sym, ap, subst, ◌∙◌}
use Rattle.std.proofs.lemmas.List.{take_rest}
use Rattle.std.specs.Prelude.{IfOk}
use Rattle.blocks.specs.Format.{IsEndOf}
use Rattle.blocks.specs.Record.{Begins}
use Rattle.blocks.proofs.Ends.{whole_end, slice_end}
use Rattle.blocks.proofs.reading.decode_shared.Goals as goal

-- what is read is the bytes from the place on
from_place : (from : ℕ) (slice bytes : List ℕ) → slice ≡ bytes → take (length slice - from) (drop from slice) ≡ drop from bytes
from_place from slice bytes same = take_rest slice from ∙ ap (λ (l : List ℕ). drop from l) same

pub decode_end-requires : goal.decode_end-requires
decode_end-requires c =
    let whole = subst (λ (l : List ℕ). IsEndOf l c.args.bytes.now) (sym c.as_slice.ensures) (whole_end c.args.bytes.now) in
    slice_end _ c.as_slice.result.now c.args.bytes.now whole

pub returns-clause-found : goal.returns-clause-found
returns-clause-found c =
    let place = from_place c.args.from c.as_slice.result.now c.args.bytes.now c.as_slice.ensures in
    subst (λ (l : List ℕ). IfOk c.decode_end.result (λ x. Begins c.args.version l x.0 x.1)) place c.decode_end.ensures.found

pub returns-clause-only : goal.returns-clause-only
returns-clause-only c = λ r n begins.
    let place = from_place c.args.from c.as_slice.result.now c.args.bytes.now c.as_slice.ensures in
    c.decode_end.ensures.only r n (subst (λ (l : List ℕ). Begins c.args.version l r n) (sym place) begins)
