pub mod RecordSizes
pub mod Sealing
pub mod RecordAppends
pub mod JoinedRegions
pub mod RightBegins
pub mod Worked
