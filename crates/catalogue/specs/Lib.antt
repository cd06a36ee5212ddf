pub mod Proper
pub mod Seats
pub mod Ledger
pub mod View
pub mod SetUp
pub mod Table
