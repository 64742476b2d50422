pub mod Orders
pub mod PageSearch
pub mod Merging
pub mod Fitting
pub mod Finding
pub mod PageGroups
pub mod Changes
