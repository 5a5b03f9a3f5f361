pub mod Fields
pub mod Length
pub mod Sum
