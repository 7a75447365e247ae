pub mod Scattered
pub mod Square
pub mod Filled
pub mod Asked
pub mod Told
