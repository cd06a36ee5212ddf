pub mod Following
pub mod Dues
pub mod Promised
