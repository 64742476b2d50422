pub mod Growth
pub mod Adding
pub mod Printing
pub mod EventLines
