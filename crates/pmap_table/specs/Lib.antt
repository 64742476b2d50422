pub mod MapTable
pub mod MakesMap
