-- Laws that belong to no one function.
pub mod SheetPut
pub mod WriteLaws
pub mod NoMovement
pub mod Samples
pub mod WrittenReads
pub mod ReadRewrites
pub mod RoundTrip
pub mod TakenNumbers
pub mod RewriteLaws
