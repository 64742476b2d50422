pub mod BuildingLemmas
pub mod GarbageLemmas
pub mod Lists
pub mod Names
pub mod Tables
pub mod Trims
