pub mod Digits
pub mod Text
pub mod Numbers
pub mod Writing
