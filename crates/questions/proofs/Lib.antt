pub mod Seen
pub mod Table
pub mod Steps
pub mod Readings
pub mod Values
