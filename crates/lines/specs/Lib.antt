pub mod Chars
pub mod Digits
pub mod Lines
