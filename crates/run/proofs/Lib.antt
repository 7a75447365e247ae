pub mod RunLaws
pub mod Making
pub mod NoMovement
pub mod InWords
pub mod Ends
