pub mod Calls
pub mod Sayings
pub mod Holds
pub mod RingLists
