use Rattle.std.proofs.Common.{◌≡◌, ◌+◌, List, ℕ, length, true, false, sym, subst, ◌∙◌}
use Rattle.std.specs.Prelude.{nat_le}
use Rattle.memtable.specs.Cell.{entry_size}
use Rattle.checkpoint_format.proofs.Writing.{step_in, step_out}
use Rattle.checkpoint_format.proofs.page.add_entry.Goals as goal

pub returns-then-has_room : goal.returns-then-has_room
returns-then-has_room c = λ all rest h.
    let room = subst (λ (k : List ℕ). nat_le (length c.args.text.bytes.items + entry_size k c.args.cell.now) 65536 ≡ true) c.deref.ensures (sym c.has_room.ensures ∙ c.if-has_room.true) in
    step_in all c.args.pages.now.items c.args.text c.add.new.self (c.args.key.now, c.args.cell.now) rest room c.in_ok-add.ensures h

pub returns : goal.returns
returns c = λ all rest h.
    let room = subst (λ (k : List ℕ). nat_le (length c.args.text.bytes.items + entry_size k c.args.cell.now) 65536 ≡ false) c.deref.ensures (sym c.has_room.ensures ∙ c.if-has_room.false) in
    rw c.in_ok-push.ensures.items (step_out all c.args.pages.now.items c.in_ok-page.field-0 c.args.text c.in_ok-next.next c.add-2.new.self (c.args.key.now, c.args.cell.now) rest room c.in_ok-page.ensures c.in_ok-next.ensures c.in_ok-add-2.ensures h)
