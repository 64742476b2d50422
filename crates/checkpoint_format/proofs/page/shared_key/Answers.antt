use Rattle.std.proofs.Common.{◌≡◌, List, ℕ, subst}
use Rattle.std.specs.Prelude.{IfOk}
use Rattle.checkpoint_format.specs.Walk.{part_cell}
use Rattle.checkpoint_format.proofs.Texts.{bytes_of_end, key_lies}
use Rattle.checkpoint_format.proofs.page.shared_key.Goals as goal

pub shared-requires-clause-inside : goal.shared-requires-clause-inside
shared-requires-clause-inside c =
    let entry = c.args.entry.now in
    (key_lies entry.bytes.now entry.key.now (part_cell entry.cell) entry.after.now (bytes_of_end c.args.page.now entry.bytes.now c.requires.bytes c.requires.end) c.requires.read).0

pub returns : goal.returns
returns c =
    let entry = c.args.entry.now in
    let lies = key_lies entry.bytes.now entry.key.now (part_cell entry.cell) entry.after.now (bytes_of_end c.args.page.now entry.bytes.now c.requires.bytes c.requires.end) c.requires.read in
    subst (λ (l : List ℕ). IfOk c.shared.result (λ key. key ≡ l)) lies.1 c.shared.ensures
