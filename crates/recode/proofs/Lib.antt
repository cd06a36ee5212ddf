pub mod Scan
pub mod Runs
