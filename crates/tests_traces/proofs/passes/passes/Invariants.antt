use Rattle.std.specs.Prelude.{[]}
use Rattle.tests_traces.proofs.passes.passes.Given as goal

-- the marks that were just made, and no numbers
abbrev pub ghosts-one_trace : goal.ghosts-one_trace
ghosts-one_trace g a = record { events = a.marks.events; prefixes = a.marks.prefixes; numbers = [] }
