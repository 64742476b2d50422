pub mod RecordedPlans
pub mod ReplaysRecords
pub mod Decisions
