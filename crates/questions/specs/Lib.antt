pub mod Questions
pub mod Reading
pub mod Entries
pub mod Readings
pub mod Values
