pub mod Numbers
pub mod Laws
pub mod Recordings
pub mod Parts
