pub mod ClientPackets
pub mod RangeSteps
pub mod SplitSteps
pub mod MergeSteps
pub mod SplitNumbers
pub mod ServerSteps
pub mod EventsAsMoves
