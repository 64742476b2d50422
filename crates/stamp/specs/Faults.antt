-- What the faults of the crates below come to.
use Rattle.shelf.specs.declared.fault.ShelfFault.{ShelfFault}
use Rattle.shelf.specs.declared.fault.ShelfFault.TheVariants as shelf_faults
use Rattle.stamp_traces.specs.declared.fault.TraceFault.{TraceFault}
use Rattle.stamp_traces.specs.declared.fault.TraceFault.TheVariants as trace_faults
use Rattle.stamp.specs.declared.fault.StampFault.{StampFault}
use Rattle.stamp.specs.declared.fault.StampFault.TheVariants.{Memory, Full, Stopped}

-- a mark that has a value already, which nothing makes happen, comes to the same as two tokens that differ
abbrev pub of_trace : TraceFault → StampFault
of_trace trace_faults.Memory = Memory
of_trace trace_faults.Full = Full
of_trace trace_faults.Stopped = Stopped
of_trace trace_faults.Spent = Stopped

abbrev pub of_shelf : ShelfFault → StampFault
of_shelf shelf_faults.Memory = Memory
