pub mod Formats
pub mod Images
pub mod Writing
