use Rattle.std.proofs.Common.{◌<◌, ℕ, List, sym, ◌∙◌, ap, subst, get_or}
use Rattle.blocks.proofs.Formats.{some_is}
use Rattle.commitlog.proofs.reading.record_of.Goals as goal

pub returns-clause-bytes : goal.returns-clause-bytes
returns-clause-bytes c = λ t e i.
    let read : List ℕ × List (List ℕ) = (c.in_ok-text.text.items, c.in_ok-text.values.now) in
    let same = some_is read t (sym c.in_ok-text.ensures ∙ e) in
    let seen = ap (λ (x : List ℕ × List (List ℕ)). x.0) same in
    subst (λ (x : List ℕ). get_or x i 0 < 256) (c.deref.ensures.value ∙ seen) (c.text_of.ensures.bytes i)
