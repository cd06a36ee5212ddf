pub mod Covering
pub mod Written
pub mod Seats
pub mod Uppermost
pub mod Values
pub mod Refused
pub mod Asked
