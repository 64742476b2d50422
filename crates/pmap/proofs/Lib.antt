pub mod Calls
pub mod RulesStand
pub mod RecordedPlans
pub mod ReplaysRecords
