pub mod Seeking
pub mod OnePath
