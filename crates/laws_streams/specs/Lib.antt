pub mod Origins
pub mod Fences
pub mod Answers
pub mod Listings
