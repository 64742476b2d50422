use Rattle.std.proofs.Common.{◌≡◌, ◌≤◌, take}
use Rattle.replica.specs.Groups.{text_length}
use Rattle.replica.specs.Room.{block_count}
use Rattle.replica.proofs.placed.needs_of.Given as goal

abbrev pub invariant-loop-group : goal.invariant-loop-group
invariant-loop-group l = record {
  text : l.text ≡ text_length (take l.group-index l.groups);
  blocks : l.blocks ≡ block_count (take l.group-index l.groups);
  fewer : l.blocks ≤ l.text;
}
