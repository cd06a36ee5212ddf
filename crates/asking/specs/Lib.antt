pub mod Decoding
pub mod Naming
pub mod Asking
