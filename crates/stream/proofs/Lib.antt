pub mod Came
pub mod Offered
