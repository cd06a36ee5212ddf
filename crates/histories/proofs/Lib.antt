pub mod Prefixes
pub mod Sayings
pub mod Closings
pub mod RingLists
pub mod Holding
pub mod Following
