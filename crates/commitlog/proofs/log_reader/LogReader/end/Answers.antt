use Rattle.std.proofs.Common.{◌≡◌, ◌<◌, ◌≤◌, ℕ, List, Some, length, subst, ◌∙◌, arith}
use Rattle.std.specs.Prelude.{IfOk, slice_index}
use Rattle.blocks.specs.Format.{Gives}
use Rattle.commitlog.specs.Reading.{joined_at, record_at}
use Rattle.commitlog.proofs.Laws.{is_found, is_only}
use Rattle.commitlog.proofs.log_reader.LogReader.end.Goals as goal

pub returns-clause-found : goal.returns-clause-found
returns-clause-found c =
    let same : c.deref.result.now ≡ c.args.self = c.deref.ensures.value ∙ c.self.view_is in
    let few : length c.self.inside.blocks.items ≤ 64 = omega (arith, c.len.ensures, c.self.inside.blocks.ok.0, c.if-len.false) in
    let bytes = subst (λ (b : List (List ℕ)). IfOk c.record_of.result (λ r. (t : List ℕ × List (List ℕ)) → joined_at b ≡ Some t → (i : ℕ) → slice_index t.0 i < 256)) same c.record_of.ensures.bytes in
    let read = subst (λ (b : List (List ℕ)). Gives (λ y. y) c.record_of.result (record_at b)) same c.record_of.ensures.read in
    is_found c.args.self c.record_of.result (subst (λ (b : List (List ℕ)). length b ≤ 64) c.self.view_is few) bytes read

pub returns-clause-only : goal.returns-clause-only
returns-clause-only c = λ r fits is.
    let same : c.deref.result.now ≡ c.args.self = c.deref.ensures.value ∙ c.self.view_is in
    let read = subst (λ (b : List (List ℕ)). Gives (λ y. y) c.record_of.result (record_at b)) same c.record_of.ensures.read in
    is_only c.args.self c.record_of.result read r fits is
