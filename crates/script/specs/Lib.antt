pub mod Recording
pub mod Claims
