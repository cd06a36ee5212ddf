pub mod Digits
pub mod Splits
pub mod Rows
pub mod Mapped
