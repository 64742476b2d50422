use Rattle.std.specs.Prelude.{[]}
use Rattle.tests_traces.proofs.moments.moments.Given as goal

-- the marks that were just made, and no numbers
abbrev pub ghosts-two_clocks : goal.ghosts-two_clocks
ghosts-two_clocks g a = record { events = a.marks.events; prefixes = a.marks.prefixes; numbers = [] }
