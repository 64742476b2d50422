pub mod Deliveries
pub mod Failures
pub mod Output
pub mod Playing
pub mod Tickets
pub mod Script
