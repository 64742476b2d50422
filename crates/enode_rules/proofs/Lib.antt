pub mod RecordedRules
pub mod Raising
pub mod Putting
pub mod UnrecordedRules
pub mod Cutting
