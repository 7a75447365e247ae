pub mod Drained
pub mod Ruled
