pub mod Keys
pub mod Answers
pub mod Requests
pub mod Tickets
pub mod FirstAnswers
