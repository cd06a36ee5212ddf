pub mod Seating
pub mod Moves
pub mod KindEdits
pub mod LineEdits
pub mod Filling
pub mod Shown
