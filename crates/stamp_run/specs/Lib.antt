pub mod Answers
pub mod Bookings
pub mod Logs
pub mod Passes
pub mod Traces
