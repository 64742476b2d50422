pub mod ListLemmas
pub mod BookingLemmas
pub mod LogLemmas
pub mod AnswerLemmas
pub mod TraceLemmas
pub mod KeepLemmas
pub mod KeyLemmas
