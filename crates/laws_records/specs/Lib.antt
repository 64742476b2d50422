pub mod Texts
pub mod NodeRecords
pub mod ManagerRecords
pub mod MapRecords
