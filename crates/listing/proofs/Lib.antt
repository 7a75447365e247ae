-- Laws that belong to no one function.
pub mod LineLaws
pub mod RunListing
pub mod Published
pub mod NoMovement
pub mod Overlong
pub mod ListLaws
