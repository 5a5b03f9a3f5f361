pub mod Wrote
pub mod Texts
