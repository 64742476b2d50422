use Rattle.std.proofs.Common.{◌≡◌, ◌+◌, drop}
use Rattle.replica.specs.Groups.{text_length}
use Rattle.world_checker.proofs.texts.has_length.Given as goal

abbrev pub invariant-loop-group : goal.invariant-loop-group
invariant-loop-group l = text_length l.groups + l.rest ≡ l.wanted + text_length (drop l.group-index l.groups)
