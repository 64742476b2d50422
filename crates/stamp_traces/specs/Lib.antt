pub mod Cells
pub mod Journals
pub mod Moments
pub mod Passes
pub mod Shown
pub mod Traces
