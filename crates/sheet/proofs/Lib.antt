-- Laws that belong to no one function.
pub mod HeaderLaws
pub mod ReadLaws
pub mod AnswerLaws
pub mod Former
pub mod NoMovement
pub mod Samples
pub mod Overlong
pub mod Asked
