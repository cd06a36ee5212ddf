pub mod Cells
pub mod Direct
pub mod Filled
pub mod Trails
pub mod Ringing
pub mod Settling
