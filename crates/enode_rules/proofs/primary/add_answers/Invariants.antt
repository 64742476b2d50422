use Rattle.std.proofs.Common.{◌≡◌, take}
use Rattle.model_streams.specs.Node.{acked, answers}
use Rattle.enode_rules.proofs.primary.add_answers.Given as goal

abbrev pub invariant-loop-index : goal.invariant-loop-index
invariant-loop-index l = record {
  packets : l.step.packets ≡ answers l.node l.extent (take l.index l.waiting);
  notes : l.step.notes ≡ acked l.extent (take l.index l.waiting);
}
