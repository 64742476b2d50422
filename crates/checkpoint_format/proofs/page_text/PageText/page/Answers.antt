use Rattle.std.proofs.Common.{List, ℕ, ap, ◌∙◌, arith}
use Rattle.checkpoint_format.specs.declared.page.Page.{Page}
use Rattle.checkpoint_format.specs.Page.{page_bytes}
use Rattle.checkpoint_format.proofs.Writing.{page_is}
use Rattle.checkpoint_format.proofs.page_text.PageText.page.Goals as goal

abbrev made : List ℕ → List ℕ → Page
made first bytes = record { first = first; bytes = bytes }

pub returns : goal.returns
returns c = λ entries is.
    let bytes = page_is entries c.args.self c.in_ok-from_vec.field-0 is (omega (arith, c.requires.count)) c.in_ok-from_vec.ensures.ok in
    ap (λ (b : List ℕ). made c.args.self.first b) bytes ∙ ap (λ (f : List ℕ). made f (page_bytes entries)) is.first
