pub mod ShortLines
