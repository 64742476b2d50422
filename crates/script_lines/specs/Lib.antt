pub mod Limits
pub mod Values
pub mod Words
pub mod Sequences
pub mod Grammar
pub mod Verbs
pub mod Asking
pub mod Copies
