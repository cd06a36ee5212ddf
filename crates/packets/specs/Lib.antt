pub mod Bounds
pub mod Packets
pub mod OnePackets
pub mod Filling
pub mod Found
pub mod Parity
pub mod Rising
pub mod Zeros
