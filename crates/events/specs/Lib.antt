pub mod Starts
pub mod Changes
