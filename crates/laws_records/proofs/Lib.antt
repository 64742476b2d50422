pub mod Choosing
pub mod NodeRecords
pub mod Readers
pub mod ManagerTexts
pub mod ManagerRecords
pub mod MapTexts
pub mod MapRecords
