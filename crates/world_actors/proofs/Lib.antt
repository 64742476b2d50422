pub mod Transport
pub mod Events
pub mod Rests
pub mod NodeSteps
pub mod ManagerSteps
pub mod MapSteps
pub mod ServerSteps
