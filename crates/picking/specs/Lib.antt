pub mod Policy
pub mod Plan
pub mod Ordering
