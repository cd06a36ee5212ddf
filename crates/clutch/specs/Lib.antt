pub mod Clutch
pub mod Worked
