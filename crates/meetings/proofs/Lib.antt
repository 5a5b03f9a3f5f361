pub mod First
pub mod Ranges
pub mod Turns
pub mod Modes
pub mod Tracks
pub mod Passes
pub mod Seconds
pub mod Lowest
