pub mod Ready
pub mod Parts
pub mod Stirring
