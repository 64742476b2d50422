pub mod Requests
pub mod Client
pub mod Began
pub mod Load
