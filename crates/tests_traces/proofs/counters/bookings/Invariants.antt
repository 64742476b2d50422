use Rattle.std.specs.Prelude.{[]}
use Rattle.tests_traces.proofs.counters.bookings.Given as goal

-- the marks that were just made, and no numbers
abbrev pub ghosts-late_step : goal.ghosts-late_step
ghosts-late_step g a = record { events = a.marks.events; prefixes = a.marks.prefixes; numbers = [] }
