pub mod InWords
pub mod Stirred
pub mod Scale
pub mod SecondScale
pub mod Succession
pub mod Load
