pub mod Holds
pub mod ByPages
