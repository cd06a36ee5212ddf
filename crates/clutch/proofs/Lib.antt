pub mod Answering
pub mod Knot
pub mod Worked
