pub mod ContentAnswers
