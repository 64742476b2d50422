pub mod Ends
pub mod Fill
pub mod Recovery
