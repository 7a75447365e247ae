pub mod Sheet
pub mod Answers
pub mod Former
