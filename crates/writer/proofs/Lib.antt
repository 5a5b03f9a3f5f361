pub mod Fields
pub mod Judged
pub mod Lengths
pub mod Said
