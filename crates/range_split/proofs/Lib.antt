pub mod RecordSizes
pub mod KeyAnswers
pub mod Rooms
pub mod SideKeys
pub mod Sealing
