use Rattle.std.proofs.Common.{◌≡◌, ◌++◌, length}
use Rattle.std.specs.Iterator.Adapters.{enumerate_count, enumerate_source}
use Rattle.std.specs.Vec.Iter.{into_iter_items, into_iter_len}
use Rattle.script_steps.specs.Steps.{Adds, StepsOfAll}
use Rattle.script_steps.proofs.Adding.{lines_in}
use Rattle.script_steps.proofs.recording.play_all.Given as goal

abbrev pub invariant-loop-place : goal.invariant-loop-place
invariant-loop-place l = record {
  added : Adds l.fn.steps l.steps (λ more. StepsOfAll 0 (lines_in l.yielded) l.fn.steps.session more l.steps.session);
  place : enumerate_count l.place-iterator ≡ length l.yielded;
  rest : lines_in l.yielded ++ into_iter_items (enumerate_source l.place-iterator) ≡ l.fn.lines.items;
  count : into_iter_len (enumerate_source l.place-iterator) ≡ length (into_iter_items (enumerate_source l.place-iterator));
}
