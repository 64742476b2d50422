use Rattle.std.proofs.Common.{◌≡◌, ◌<◌, ℕ, List, Some, subst}
use Rattle.std.specs.Prelude.{IfOk, slice_index}
use Rattle.blocks.specs.Format.{Gives}
use Rattle.commitlog.specs.Reading.{joined_at, record_at}
use Rattle.commitlog.proofs.Laws.{is_found, is_only}
use Rattle.commitlog.proofs.reading.decode.Goals as goal

pub returns-clause-found : goal.returns-clause-found
returns-clause-found c =
    let same = c.blocks-blocks.ensures.value in
    let bytes = subst (λ (b : List (List ℕ)). IfOk c.record_of.result (λ r. (t : List ℕ × List (List ℕ)) → joined_at b ≡ Some t → (i : ℕ) → slice_index t.0 i < 256)) same c.record_of.ensures.bytes in
    let read = subst (λ (b : List (List ℕ)). Gives (λ y. y) c.record_of.result (record_at b)) same c.record_of.ensures.read in
    is_found c.args.group.now c.record_of.result c.blocks-blocks.ensures.fits.1 bytes read

pub returns-clause-only : goal.returns-clause-only
returns-clause-only c = λ r fits is.
    let read = subst (λ (b : List (List ℕ)). Gives (λ y. y) c.record_of.result (record_at b)) c.blocks-blocks.ensures.value c.record_of.ensures.read in
    is_only c.args.group.now c.record_of.result read r fits is
