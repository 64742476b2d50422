pub mod Spelling
pub mod Entries
pub mod Tables
pub mod ReplaysRecords
pub mod Rooms
pub mod Recovering
