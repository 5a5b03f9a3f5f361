pub mod Writes
pub mod Permitted
