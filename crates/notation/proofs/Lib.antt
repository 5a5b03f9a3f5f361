pub mod Examples
pub mod Octals
pub mod Bounds
pub mod Signs
