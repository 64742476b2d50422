pub mod LogAnswers
pub mod Counts
pub mod GivingUp
