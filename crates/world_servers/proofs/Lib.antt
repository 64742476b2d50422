pub mod RowEntries
pub mod PageEntries
pub mod RunEntries
pub mod GroupReach
pub mod SeenIndex
pub mod ServerList
