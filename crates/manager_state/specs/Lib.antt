pub mod RecordBytes
pub mod Extents
pub mod Table
pub mod Replay
