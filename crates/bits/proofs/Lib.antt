pub mod Digits
pub mod WordRows
pub mod OneBits
