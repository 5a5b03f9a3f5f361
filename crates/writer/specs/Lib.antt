pub mod Bytes
pub mod Writing
