pub mod Limit
pub mod Moved
pub mod Held
pub mod Begun
pub mod Windows
