use Rattle.std.proofs.Common.{◌≡◌, ◌∷◌, [], ℕ, List, None, Some, ap, subst}
use Rattle.blocks.proofs.Formats.{IsBytes}
use Rattle.blocks.specs.Format.{IsEndOf, Fails}
use Rattle.memtable.specs.Entries.{found}
use Rattle.memtable.specs.Layers.{or_else}
use Rattle.checkpoint_format.specs.Page.{found_at}
use Rattle.checkpoint_format.specs.Walk.{count_at, part_entry}
use Rattle.checkpoint_format.proofs.Texts.{end_of_end}
use Rattle.checkpoint_format.proofs.Walk.{with_found, begins, never_begins, damaged, found_more, walk_goes_on}
use Rattle.checkpoint_format.proofs.page.find_in.Goals as goal

pub returns-in_default : goal.returns-in_default
returns-in_default c =
    let bytes = subst IsBytes c.as_slice.ensures c.count_of.ensures.bytes in
    let none = damaged c.in_default.field-0 (count_at c.args.page.now) c.in_default.ensures.fault (subst (λ (l : List ℕ). Fails c.in_default.field-0 (count_at l)) c.as_slice.ensures c.in_default.ensures.read) in
    ap (with_found None c.args.key.now) (never_begins c.args.page.now bytes none)

pub loop-init : goal.loop-init
loop-init c =
    let bytes = subst IsBytes c.as_slice.ensures c.count_of.ensures.bytes in
    let read = subst (λ (l : List ℕ). count_at l ≡ Some (c.in-Ok.count, c.in-Ok.rest.now)) c.as_slice.ensures c.in-Ok.ensures.read in
    record {
      walked = ap (with_found None c.args.key.now) (begins c.args.page.now c.in-Ok.count c.in-Ok.rest.now bytes read);
      end = subst (IsEndOf c.in-Ok.rest.now) c.as_slice.ensures c.in-Ok.ensures.end;
      bytes = bytes;
    }

pub loop-preserved : goal.loop-preserved
loop-preserved c =
    let e = c.in-Ok-entry_above.entry in
    let key = c.args.key.now in
    let walked = walk_goes_on c.in-Ok.count c.loop.counter c.loop.last.now c.loop.rest.now (with_found c.loop.cell key) (with_found (or_else c.loop.cell (found (part_entry e ∷ []) key)) key) (found_at c.args.page.now key) (part_entry e) e.after.now c.loop-test.true c.in-Ok-entry_above.ensures.read (found_more c.loop.cell key (part_entry e)) c.loop.invariant.walked in
    record {
      walked = rw c.in_ok-cell.ensures walked;
      end = end_of_end c.args.page.now c.loop.rest.now e.after.now c.loop.invariant.end c.in-Ok-entry_above.ensures.end;
      bytes = c.loop.invariant.bytes;
    }
