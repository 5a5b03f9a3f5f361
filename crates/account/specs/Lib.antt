pub mod Runs
pub mod Reports
pub mod Turns
pub mod Surveys
pub mod Claims
