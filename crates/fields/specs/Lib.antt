pub mod Bytes
pub mod Movements
pub mod Layout
pub mod Names
