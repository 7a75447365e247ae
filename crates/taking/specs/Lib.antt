pub mod Selection
pub mod Taken
pub mod Stirring
pub mod Taking
pub mod Applied
pub mod InTable
pub mod Sweeping
