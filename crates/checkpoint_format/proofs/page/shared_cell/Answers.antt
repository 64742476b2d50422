use Rattle.std.proofs.Common.{◌≡◌, ◌+◌, ◌-◌, ◌≤◌, List, ℕ, length, take, drop, Some, ap, sym, ◌∙◌, arith}
use Rattle.memtable.specs.declared.cell.Cell.{Cell}
use Rattle.memtable.specs.declared.cell.Cell.TheVariants.{Inline}
use Rattle.checkpoint_format.specs.Walk.{part_cell, IsEntryOf}
use Rattle.checkpoint_format.specs.declared.entry.EntryPart.{EntryPart}
use Rattle.checkpoint_format.proofs.Texts.{bytes_of_end, value_lies}
use Rattle.checkpoint_format.proofs.page.shared_cell.Goals as goal

lies : (page : List ℕ) (entry : EntryPart) (value : List ℕ) → IsEntryOf page entry → part_cell entry.cell ≡ Inline value
    → (length entry.after.now + length value ≤ length entry.bytes.now) × (take (length value) (drop (length entry.bytes.now - length entry.after.now - length value) entry.bytes.now) ≡ value)
lies page entry value is cell =
    value_lies entry.bytes.now entry.key.now value entry.after.now (bytes_of_end page entry.bytes.now is.bytes is.end)
    (is.read ∙ ap (λ (x : Cell). Some ((entry.key.now, x), entry.after.now)) cell)

pub overflow_sub-from : goal.overflow_sub-from
overflow_sub-from c = omega (arith, (lies c.args.page.now c.args.entry.now c.in-Inline.value.now c.requires (ap part_cell c.in-Inline.is)).0)

pub overflow_sub-from-in-Inline : goal.overflow_sub-from-in-Inline
overflow_sub-from-in-Inline c = omega (arith, (lies c.args.page.now c.args.entry.now c.in-Inline.value.now c.requires (ap part_cell c.in-Inline.is)).0)

pub shared-requires-clause-inside : goal.shared-requires-clause-inside
shared-requires-clause-inside c = omega (arith, (lies c.args.page.now c.args.entry.now c.in-Inline.value.now c.requires (ap part_cell c.in-Inline.is)).0)

pub returns-in_ok-shared-in-Inline : goal.returns-in_ok-shared-in-Inline
returns-in_ok-shared-in-Inline c =
    ap (λ (v : List ℕ). Inline v) (c.in_ok-shared-in-Inline.ensures ∙ (lies c.args.page.now c.args.entry.now c.in-Inline.value.now c.requires (ap part_cell c.in-Inline.is)).1)
    ∙ sym (ap part_cell c.in-Inline.is)
