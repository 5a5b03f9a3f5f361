pub mod Words
pub mod Fields
pub mod Lines
pub mod Examples
pub mod Messages
