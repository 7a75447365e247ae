pub mod Encoding
pub mod Reading
