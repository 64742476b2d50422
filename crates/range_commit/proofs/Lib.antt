pub mod ChangeTests
pub mod GroupGrowth
pub mod Fronts
