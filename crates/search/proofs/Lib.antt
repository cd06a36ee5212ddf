pub mod Halving
pub mod Spots
