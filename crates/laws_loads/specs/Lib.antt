pub mod Sound
pub mod StaysLoading
pub mod RangeView
pub mod MemoryLayers
