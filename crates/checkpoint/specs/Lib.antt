pub mod Lookup
pub mod Pages
pub mod Contents
pub mod PageGroups
pub mod Merges
