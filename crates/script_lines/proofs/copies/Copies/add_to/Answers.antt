use Rattle.std.proofs.Common.{◌∙◌, ◌++◌, ℕ, List, ap}
use Rattle.std.proofs.lemmas.Result.{on_ok_weaker}
use Rattle.std.specs.List.{repeat}
use Rattle.script_lines.proofs.Copying.{copies_of_byte}
use Rattle.script_lines.proofs.copies.Copies.add_to.Goals as goal

pub returns-in-len1 : goal.returns-in-len1
returns-in-len1 c =
    let count : ℕ = c.args.self.now.count in
    on_ok_weaker c.add_byte.result
    (λ added. added ∙ ap (λ (l : List ℕ). c.args.buffer.now.items ++ l)
    (copies_of_byte c.as_bytes.result.now _ count c.in-len1.len_at_least c.in-len1.len_below ∙ ap (repeat count) c.as_bytes.ensures.value))
    c.add_byte.ensures
