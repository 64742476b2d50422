pub mod LastRecord
pub mod StopInRecord
