pub mod BuiltOrders
pub mod Leases
pub mod Orders
pub mod Senders
pub mod ServerEvents
pub mod Timely
