pub mod Splice
pub mod RunLaws
pub mod Turn
pub mod Walk
pub mod Pairs
pub mod Halving
pub mod Filled
