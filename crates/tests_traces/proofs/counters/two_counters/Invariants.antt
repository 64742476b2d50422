use Rattle.std.specs.Prelude.{[]}
use Rattle.tests_traces.proofs.counters.two_counters.Given as goal

-- the marks that were just made, and no numbers
abbrev pub ghosts-two_in_turn : goal.ghosts-two_in_turn
ghosts-two_in_turn g a = record { events = a.marks.events; prefixes = a.marks.prefixes; numbers = [] }
