pub mod Fitting
pub mod Claims
pub mod Within
