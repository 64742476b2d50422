use Rattle.std.specs.Prelude.{[]}
use Rattle.tests_traces.proofs.threads.two_threads.Given as goal

-- the marks that were just made, and no numbers
abbrev pub ghosts-two_counters : goal.ghosts-two_counters
ghosts-two_counters g a = record { events = a.marks.events; prefixes = a.marks.prefixes; numbers = [] }
