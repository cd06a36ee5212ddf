pub mod Lines
pub mod Descent
pub mod Rings
pub mod Coverage
pub mod Closure
pub mod Proper
pub mod Rising
pub mod Rows
