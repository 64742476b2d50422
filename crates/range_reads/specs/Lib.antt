pub mod Kept
pub mod ValueCache
pub mod Looking
pub mod Moving
pub mod Lookups
pub mod Caching
