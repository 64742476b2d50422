pub mod LastRecord
pub mod Plan
