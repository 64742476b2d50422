pub mod Serves
pub mod Quiet
pub mod Seen
pub mod Records
pub mod SplitJobs
pub mod SplitSides
