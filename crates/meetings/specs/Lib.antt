pub mod Firsts
pub mod Parting
pub mod Pass
