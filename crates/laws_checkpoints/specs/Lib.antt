pub mod IndexLayers
pub mod ShownTables
pub mod WritingPages
pub mod CombinedLayers
