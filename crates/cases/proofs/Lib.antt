pub mod Cases
pub mod Marked
pub mod AgeCases
pub mod ScaleCases
pub mod LoadCases
pub mod Mixed
pub mod StirredCases
