pub mod Told
pub mod Stood
pub mod Noted
pub mod Combined
pub mod Recorded
pub mod Numbers
