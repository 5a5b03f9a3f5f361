pub mod Reached
pub mod Ahead
pub mod Taking
pub mod Pieces
